use Rattle.std.proofs.Common.{◌<◌, length, refl, ap, sym, ◌∙◌}
use Rattle.std.proofs.lemmas.List.Elements.{All-nil}
use Rattle.file_records.specs.Near.{near_pairs}
use Rattle.file_records.specs.Living.{deleted}
use Rattle.library_machine.specs.GoodLaws.{first_fit}
use Rattle.library_tables.proofs.Committing.{no_near, no_words, no_queue}
use Rattle.library_tables.proofs.tables.Tables.new.Goals as goal

pub invariant_of-result : goal.invariant_of-result
invariant_of-result c = record {
  fits = rw (c.new.ensures.rows, c.new-2.ensures.rows, c.first.ensures, c.new-7.ensures, c.new-8.ensures, c.new-9.ensures.rows, c.in_ok-relations.ensures.sibling_rows, c.in_ok-relations.ensures.parent_rows) first_fit;
  decided = rw (c.new.ensures.rows, c.new-2.ensures.files) refl;
  grouped = rw (c.new.ensures.rows, c.new-3.ensures.size) refl;
  related = rw (c.new-2.ensures.rows, c.new-3.ensures.relations) refl;
  words = rw (c.new.ensures.rows, c.new-4.ensures) (sym no_words);
  marked = rw c.new-6.ensures.marks (All-nil (λ m. m < length c.new-4.result.rows));
  paired = record {
    near = c.new-5.ensures.near ∙ sym (ap near_pairs c.new.ensures.rows ∙ no_near);
    gone = c.new-5.ensures.gone ∙ sym (ap deleted c.new.ensures.rows);
    of = c.new-5.ensures.of _;
  };
  ordered = c.in_ok-relations.ensures.sibling_orders ∙ rw c.new-8.ensures refl;
  parents_ordered = c.in_ok-relations.ensures.parent_orders ∙ rw c.new-8.ensures refl;
  queued = rw (c.new.ensures.rows, c.new-6.ensures.queue) (sym (no_queue c.first.result));
}
