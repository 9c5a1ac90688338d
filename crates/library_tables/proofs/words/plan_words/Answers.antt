use Rattle.std.proofs.Common.{◌++◌, List, [], ◌∷◌, take, get_or, refl, arith, ap, sym, ◌∙◌}
use Rattle.std.proofs.lemmas.List.{map-append, take_all, take_more, get_or_default}
use Rattle.media_types.specs.declared.hash.Hash64.{Hash64}
use Rattle.vp_tree.specs.declared.plan.InsertPlan.{InsertPlan}
use Rattle.library_tables.specs.Imports.{words_planned}
use Rattle.library_tables.proofs.Placing.{not_there, room_for}
use Rattle.library_tables.proofs.words.plan_words.Goals as goal

pub loop-word-init : goal.loop-word-init
loop-word-init c = record {
  rows = refl;
  plans = ap words_planned c.in_ok-plans.ensures.items;
  room = λ some. absurd (omega (arith, some));
}

pub plan_insert-requires-clause-few : goal.plan_insert-requires-clause-few
plan_insert-requires-clause-few c = rw c.loop-word.invariant.rows (omega (arith, c.requires.few_words, c.loop-word-test.true))

pub plan_insert-requires-clause-other : goal.plan_insert-requires-clause-other
plan_insert-requires-clause-other c =
    rw c.loop-word.invariant.rows (not_there _ _ c.loop-word.word-index _ c.requires.distinct c.loop-word-test.true (get_or_default _ _ _ _ c.loop-word-test.true))

pub returns-in_err-plan_insert-clause-rows : goal.returns-in_err-plan_insert-clause-rows
returns-in_err-plan_insert-clause-rows c = c.plan_insert.ensures.rows ∙ c.loop-word.invariant.rows

pub returns-in_err-push-clause-rows : goal.returns-in_err-push-clause-rows
returns-in_err-push-clause-rows c = c.plan_insert.ensures.rows ∙ c.loop-word.invariant.rows

pub loop-word-preserved : goal.loop-word-preserved
loop-word-preserved c = record {
  rows = c.plan_insert.ensures.rows ∙ c.loop-word.invariant.rows;
  plans =
      let word = get_or c.args.words.now c.loop-word.word-index (record { 0 = 0 }) in
      ap words_planned c.in_ok-push.ensures.items
      ∙ map-append (λ (plan : InsertPlan). plan.word) c.loop-word.plans.items (c.in_ok-plan_insert.field-0 ∷ [])
      ∙ ap (λ (words : List Hash64). words ++ c.in_ok-plan_insert.field-0.word ∷ []) c.loop-word.invariant.plans
      ∙ ap (λ (w : Hash64). take c.loop-word.word-index c.args.words.now ++ w ∷ []) c.in_ok-plan_insert.ensures.plan
      ∙ sym (take_more c.args.words.now c.loop-word.word-index _ c.loop-word-test.true);
  room = λ some. c.in_ok-plan_insert.ensures.room;
}

pub returns-clause-rows : goal.returns-clause-rows
returns-clause-rows c = c.loop-word.invariant.rows

pub returns-clause-plans : goal.returns-clause-plans
returns-clause-plans c = c.loop-word.invariant.plans ∙ take_all _ _ (omega (arith, c.loop-word-test.false))

pub returns-clause-room : goal.returns-clause-room
returns-clause-room c = room_for _ _ c.loop-word.word-index _ c.requires.few (omega (arith, c.loop-word-test.false)) c.loop-word.invariant.room
