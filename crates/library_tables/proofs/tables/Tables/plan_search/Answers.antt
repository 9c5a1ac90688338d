use Rattle.std.proofs.Common.{◌≡◌, ◌≢◌, ◌≤◌, ℕ, true, List, [], length, refl, subst, sym, ◌∙◌, ap, arith}
use Rattle.std.specs.List.{list_all}
use Rattle.media_types.specs.declared.limits.TheConstants.{MAX_NEAR}
use Rattle.media_types.specs.declared.numbers.FileNo.{FileNo}
use Rattle.media_base.specs.declared.reply.Answer.TheVariants as answers
use Rattle.file_records.specs.Near.{near_pairs}
use Rattle.file_records.specs.SearchLaws.{enough}
use Rattle.file_records.specs.Searching.{queue_of, rising, searched}
use Rattle.relation_groups.specs.Reading.{relations_in}
use Rattle.std.proofs.lemmas.Grind.{common_steps}
use Rattle.library_machine.specs.Changing.{answer_to, is_idle, needs}
use Rattle.library_machine.specs.Effects.{effect}
use Rattle.library_machine.specs.Needs.{has_file}
use Rattle.library_machine.specs.Records.{Records}
use Rattle.library_tables.specs.Pairs.{LeadsPairs}
use Rattle.library_tables.specs.Tables.{TablesView, AreInStep, records_of}
use Rattle.library_tables.proofs.Rising.{IsRead, near_count, search_prepared}
use Rattle.library_tables.proofs.tables.Tables.plan_search.Goals as goal

pub returns-clause-prepared : goal.returns-clause-prepared
returns-clause-prepared g c =
    let old = c.args.self.now in
    let t = c.plan_near.new.self in
    let s = c.args.searching.now in
    let files = c.in_ok-files.files in
    let plan = c.in_ok-pairs.pairs in
    let same = c.plan_near.ensures.same in
    let step : AreInStep t = subst AreInStep c.self-2.view_is c.self-2.invariant in
    let first : files ≡ rising s.distance s.files old.files.rows =
    subst (λ (t : TablesView). files ≡ rising s.distance s.files t.files.rows) c.self.view_is
    (c.in_ok-files.ensures.files ∙ ap (λ (named : List FileNo). rising s.distance named c.self.inside.files.rows) c.as_slice-named.ensures.list) in
    let there : list_all (has_file (records_of old)) s.files ≡ true =
    ap (list_all (has_file (records_of old))) (sym c.as_slice-named.ensures.list) ∙ sym c.if-not-has_all.ensures in
    let read : IsRead t s files c.waiting_after-left.result = record {
      there = subst (λ (r : Records). list_all (has_file r) s.files ≡ true) (sym (ap records_of same)) there;
      rises = subst (λ (t : TablesView). files ≡ rising s.distance s.files t.files.rows) (sym same) first;
      waits = subst (λ (t : TablesView). c.waiting_after-left.result ≡ length (queue_of t.distance (searched s.distance s.files t.files.rows))) (sym same)
          (c.waiting_after-left.ensures.left s.files (c.as_slice.ensures ∙ first));
    } in
    let paired : LeadsPairs plan (relations_in t.groups) (searched s.distance files t.files.rows) t.pairs =
    subst (λ (risen : List FileNo). LeadsPairs plan (relations_in t.groups) (searched s.distance risen t.files.rows) t.pairs) c.as_slice-2.ensures c.in_ok-pairs.ensures.paired in
    let count = near_count t s files plan read.rises paired c.in_ok-pairs.ensures.counted in
    let here = c.near_len-2.ensures ∙ ap (λ (t : TablesView). length t.pairs.rows.near) c.self-2.view_is in
    let near = ap length step.paired.near in
    let few : length (near_pairs (searched s.distance s.files t.files.rows)) ≤ MAX_NEAR =
    omega (arith, count, here, near, step.fits.few_near, c.near_len.ensures, c.if-near_len.false) in
    let some : files ≢ [] = λ none. let empty = c.if-is_empty.ensures.1 none in absurd (cc empty) in
    let p = search_prepared t s (record { files = files; distance = s.distance; pairs = plan }) c.waiting_after-left.result step.fits read some refl paired few in
    (p.0, p.1 ∙ ap (λ (n : ℕ). answers.Searched (record { searched = n; left = c.waiting_after-left.result })) (sym c.len.ensures) ∙ sym c.counted-answer.ensures, p.2, p.3)

-- the search finds more than there is room for
pub returns-then-near_len-clause-prepared : goal.returns-then-near_len-clause-prepared
unfolding needs is_idle effect answer_to
returns-then-near_len-clause-prepared g c =
    let s = c.args.searching.now in
    let all = enough s.distance s.files c.self.inside.files.rows in
    grind (arith, common_steps)
