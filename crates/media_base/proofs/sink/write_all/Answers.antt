use Rattle.std.proofs.Common.{◌≡◌, ◌≢◌, List, ℕ, [], ◌++◌, length, take, Ok, sym, ap, subst, ◌∙◌, arith}
use Rattle.std.proofs.lemmas.Bool.{eqb-true, eqb-false}
use Rattle.std.proofs.lemmas.List.{nil_from_length, take-append-drop}
use Rattle.media_base.specs.Transfer.{Sends, Took}
use Rattle.media_base.specs.TransferLaws.{sends_then, took_none}
use Rattle.media_base.proofs.sink.write_all.Goals as goal

pub returns-clause-sends : goal.returns-clause-sends
returns-clause-sends g c =
    let taken = g.W.Sink.taken c.loop-rest.sink in
    let none : c.loop-rest.rest.now ≡ [] = nil_from_length _ (eqb-true _ _ (sym c.is_empty.ensures ∙ c.loop-rest-test.false)) in
    c.loop-rest.invariant.completes taken (Ok tt) (subst (λ (rest : List ℕ). Took taken taken rest) (sym none) (took_none taken))

pub loop-rest-smaller : goal.loop-rest-smaller
loop-rest-smaller g c =
    let filled : length c.loop-rest.rest.now ≢ 0 = eqb-false _ _ (sym c.is_empty.ensures ∙ c.loop-rest-test.true) in
    omega (arith, c.split_at.ensures.back_len, c.in_ok-count.ensures.writes.some (omega (arith, filled)), c.in_ok-count.ensures.writes.fits)

-- the front went out, and what is sent of the rest completes it
pub loop-rest-preserved : goal.loop-rest-preserved
loop-rest-preserved g c =
    let taken = g.W.Sink.taken in
    let front = take c.in_ok-count.count c.loop-rest.rest.now in
    let split : front ++ c.split_at.result.1.now ≡ c.loop-rest.rest.now = ap (λ (back : List ℕ). front ++ back) c.split_at.ensures.back ∙ take-append-drop c.in_ok-count.count c.loop-rest.rest.now in
    record {
      quiet = c.in_ok-count.ensures.quiet ∙ c.loop-rest.invariant.quiet;
      completes = λ last result sent. c.loop-rest.invariant.completes last result (subst (λ (rest : List ℕ). Sends (taken c.loop-rest.sink) last rest result) split (sends_then (taken c.loop-rest.sink) (taken c.write.new.self) last front c.split_at.result.1.now result c.in_ok-count.ensures.writes.took sent));
    }
