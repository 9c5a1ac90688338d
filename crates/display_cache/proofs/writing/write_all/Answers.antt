use Rattle.std.proofs.Common.{◌≡◌, ◌∙◌, ◌++◌, [], ◌∷◌, get_or, take, sym, ap, arith}
use Rattle.std.proofs.lemmas.List.{take_more}
use Rattle.display_cache.specs.Drafting.{with_value, with_values}
use Rattle.display_cache.proofs.Values.{with_values-push}
use Rattle.display_cache.proofs.writing.write_all.Goals as goal

pub loop-key-preserved : goal.loop-key-preserved
loop-key-preserved g c =
    let changes = c.args.changes.now in
    let i = c.loop-key.key-index in
    let this = c.loop-key-item.result in
    let item : get_or changes i this ≡ this = sym c.loop-key-item.is in
    let R = g.K.Ord.cmp in
    record {
      rows = c.write.ensures.rows ∙ ap (λ rows. with_value R rows this.0 this.1) c.loop-key.invariant.rows
          ∙ sym (with_values-push R (take i changes) this c.args.map.now.rows)
          ∙ ap (λ list. with_values R list c.args.map.now.rows) (sym (take_more changes i this c.loop-key-test.true ∙ ap (λ it. take i changes ++ it ∷ []) item));
      room = omega (arith, c.write.ensures.spare, c.loop-key.invariant.room);
    }
