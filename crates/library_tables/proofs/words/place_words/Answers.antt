use Rattle.std.proofs.Common.{◌≡◌, ◌++◌, List, [], ◌∷◌, length, append_assoc, length-append, refl, arith, ap, sym, ◌∙◌, subst}
use Rattle.std.proofs.lemmas.List.{map-append, append-nil, length-map}
use Rattle.media_types.specs.declared.hash.Hash64.{Hash64}
use Rattle.vp_tree.specs.declared.plan.InsertPlan.{InsertPlan}
use Rattle.vp_tree.specs.Marking.{ArePlaced}
use Rattle.vp_tree.specs.Nodes.{words_in}
use Rattle.vp_tree.specs.PlacingLaws.{placed-one_more}
use Rattle.library_tables.specs.Imports.{words_planned}
use Rattle.library_tables.specs.Tables.{with_marks}
use Rattle.library_tables.proofs.Placing.{can_take, ended}
use Rattle.library_tables.proofs.words.place_words.Goals as goal

pub loop-plan-init : goal.loop-plan-init
loop-plan-init g c =
    let all = c.into_iter-plan-iterator.ensures.into_iter_gives.0 in
    record {
      parts = all;
      placed = refl;
      words = sym (append-nil (words_in c.args.tree.now.rows));
      steps = λ none. refl;
      room = rw all c.requires.room;
      marked = c.requires.marked;
      mark_room = rw all c.requires.mark_room;
      queue = refl;
      queue_spare = refl;
    }

pub place_word-requires-clause-ready : goal.place_word-requires-clause-ready
place_word-requires-clause-ready g c =
    let l = c.loop-plan in
    can_take c.args.tree.now.rows l.tree l.yielded c.in-Some.plan c.next.new.self.rest.items c.args.plans.items
    (ap (λ (rest : List InsertPlan). l.yielded ++ rest) (sym c.in-Some.ensures.steps.0) ∙ l.invariant.parts)
    l.invariant.words (omega (arith, l.invariant.room, ap length c.in-Some.ensures.steps.0)) c.requires.distinct c.requires.few_words

pub loop-plan-preserved : goal.loop-plan-preserved
loop-plan-preserved g c =
    let l = c.loop-plan in
    let snoc = map-append (λ (plan : InsertPlan). plan.word) l.yielded (c.in-Some.plan ∷ []) in
    record {
      parts =
          append_assoc l.yielded (c.in-Some.plan ∷ []) c.next.new.self.rest.items
          ∙ ap (λ (rest : List InsertPlan). l.yielded ++ rest) (sym c.in-Some.ensures.steps.0) ∙ l.invariant.parts;
      placed = rw snoc (placed-one_more _ _ _ _ _ l.invariant.placed c.place_word.ensures.grown);
      words =
          c.place_word.ensures.words ∙ ap (λ (words : List Hash64). words ++ c.in-Some.plan.word ∷ []) l.invariant.words
          ∙ append_assoc (words_in c.args.tree.now.rows) (words_planned l.yielded) (c.in-Some.plan.word ∷ [])
          ∙ ap (λ (words : List Hash64). words_in c.args.tree.now.rows ++ words) (sym snoc);
      steps = λ none.
          let parts = ap (λ (rest : List InsertPlan). length (l.yielded ++ rest)) (sym c.in-Some.ensures.steps.0) ∙ ap length l.invariant.parts in
          absurd (omega (arith, ap length none, parts, length-append l.yielded (c.in-Some.plan ∷ c.next.new.self.rest.items), length-map c.args.plans.items (λ (plan : InsertPlan). plan.word)));
      room = omega (arith, c.place_word.ensures.spare, l.invariant.room, ap length c.in-Some.ensures.steps.0);
      marked = c.place_word.ensures.marked;
      mark_room = omega (arith, c.place_word.ensures.mark_spare, l.invariant.mark_room, ap length c.in-Some.ensures.steps.0);
      queue = c.place_word.ensures.queue ∙ l.invariant.queue;
      queue_spare = c.place_word.ensures.queue_spare ∙ l.invariant.queue_spare;
    }

pub returns-clause-placed : goal.returns-clause-placed
returns-clause-placed g c =
    let l = c.loop-plan in
    let none = ended l.yielded l.plan-iterator.rest.items c.args.plans.items (sym l.plan-iterator.rest.ok.0 ∙ c.in-None.ensures.steps.0) l.invariant.parts in
    subst (λ (plans : List InsertPlan). ArePlaced (with_marks c.args.tree.now c.args.upkeep.now) (words_planned plans) (with_marks l.tree l.upkeep)) none l.invariant.placed

pub returns-clause-words : goal.returns-clause-words
returns-clause-words g c =
    let l = c.loop-plan in
    let none = ended l.yielded l.plan-iterator.rest.items c.args.plans.items (sym l.plan-iterator.rest.ok.0 ∙ c.in-None.ensures.steps.0) l.invariant.parts in
    subst (λ (plans : List InsertPlan). words_in l.tree.rows ≡ words_in c.args.tree.now.rows ++ words_planned plans) none l.invariant.words
