use Rattle.std.proofs.Common.{◌≡◌, ◌≢◌, ◌∙◌, ◌++◌, ◌∷◌, [], List, sym, ap, subst, rules}
use Rattle.std.proofs.lemmas.List.Elements.{All-push}
use Rattle.media_types.specs.declared.decision.Decision.{Decision}
use Rattle.relation_groups.specs.FoldLaws.{after-push}
use Rattle.relation_groups.specs.SoundLaws.{relations-sound}
use Rattle.relation_groups.specs.Laws.{AreOfTwo, AreSound}
use Rattle.relation_groups.specs.Reading.{relations_in}
use Rattle.relation_groups.specs.Relations.{Relations, after, at_first, by_code, relations}
use Rattle.potential_pairs.proofs.tests.decide_in_both.Goals as goal

-- what decisions make, and one more
made_after : (ds : List Decision) (d : Decision) (R Q : Relations) → R ≡ relations ds → Q ≡ by_code d.code d.a.0 d.b.0 R → Q ≡ relations (ds ++ d ∷ [])
made_after ds d R Q made decides = decides ∙ ap (by_code d.code d.a.0 d.b.0) made ∙ sym (after-push at_first ds d)

two_after : (ds : List Decision) (d : Decision) → AreOfTwo ds → d.a.0 ≢ d.b.0 → AreOfTwo (ds ++ d ∷ [])
two_after ds d two other = All-push (λ (e : Decision). e.a.0 ≢ e.b.0) ds d two other

pub plan_moved-requires-clause-sound : goal.plan_moved-requires-clause-sound
plan_moved-requires-clause-sound g c =
    let made = c.requires.made in
    let is = ap relations_in c.plan_decide.ensures.same ∙ made.2 in
    subst AreSound (sym is) (relations-sound made.0 made.1)

pub plan_moved-requires-clause-sound_after : goal.plan_moved-requires-clause-sound_after
plan_moved-requires-clause-sound_after g c =
    let made = c.requires.made in
    let d : Decision = record { code = c.args.row.0; a = record { 0 = c.args.row.1 }; b = record { 0 = c.args.row.2 } } in
    let other : c.args.row.1 ≢ c.args.row.2 = search rules in
    let is = made_after made.0 d _ _ made.2 c.in_ok-moved.ensures.after in
    subst AreSound (sym is) (relations-sound (made.0 ++ d ∷ []) (two_after made.0 d made.1 other))

pub returns-clause-made : goal.returns-clause-made
returns-clause-made g c =
    let made = c.requires.made in
    let d : Decision = record { code = c.args.row.0; a = record { 0 = c.args.row.1 }; b = record { 0 = c.args.row.2 } } in
    let other : c.args.row.1 ≢ c.args.row.2 = search rules in
    (made.0 ++ d ∷ [], two_after made.0 d made.1 other, c.commit-2.ensures.relations ∙ made_after made.0 d _ _ made.2 c.in_ok-moved.ensures.after)
