use Rattle.std.proofs.Common.{◌≡◌, ◌∙◌, ◌==◌, ◌||◌, ◌<◌, true, false, Bor, List, nat_lt, length, map, filter, get_or, ap, sym, rules}
use Rattle.std.specs.List.{range_with_len}
use Rattle.std.specs.Option.{option_map}
use Rattle.std.proofs.lemmas.List.{length-map}
use Rattle.media_types.specs.declared.numbers.TagNo.{TagNo}
use Rattle.sibling_chains.specs.declared.sibling_plan.SiblingPlan.{SiblingPlan}
use Rattle.sibling_chains.specs.Following.{Pair}
use Rattle.sibling_chains.specs.Known.{Known}
use Rattle.tag_types.specs.declared.limits.TheConstants.{MAX_IMPLIED}
use Rattle.parent_closure.specs.declared.parent_plan.ParentPlan.{ParentPlan}
use Rattle.parent_closure.specs.Ancestors.{Relations, is_above, is_over}
use Rattle.parent_closure.specs.Implied.{chained, planned, relations_of}
use Rattle.parent_closure.specs.Kept.{Kept}
use Rattle.parent_closure.specs.Reached.{has}
use Rattle.parent_closure.specs.Sets.{HaveSame, steps_within}
use Rattle.parent_closure.proofs.Firsts.{found-at, has-at, none-more, none-of, none-over, over-by}
use Rattle.parent_closure.proofs.parents.Parents.first_over.Goals as goal

pub returns-then-len-gt-MAX_IMPLIED-clause-first : goal.returns-then-len-gt-MAX_IMPLIED-clause-first
returns-then-len-gt-MAX_IMPLIED-clause-first g c =
    let v : Kept = planned (option_map (λ (p : Bor ParentPlan). p.now) c.args.plan) c.args.self.now in
    let w : Known = chained (option_map (λ (p : Bor SiblingPlan). p.now) c.args.chains) c.args.siblings.now in
    let R : Relations = relations_of v w c.args.service.0 in
    let end = c.args.end in
    let tags = c.args.tags.now in
    let i = c.loop-tag.tag-index in
    let t = get_or tags i 0 in
    let list = c.in_ok-implied.implied in
    let ideal = c.ideal_after-ideal.result.0 in
    let pairs : List Pair = c.by_child-pairs.result.items in
    let among : HaveSame pairs (steps_within (has tags) R) = λ test. c.by_child-pairs.ensures.same test ∙ c.in_ok-found.ensures.pairs test in
    let listed = c.in_ok-implied.ensures ∙ ap (λ (pairs : List Pair). filter (λ b. b == ideal || is_above pairs ideal b) (range_with_len 0 end)) c.as_slice.ensures.value in
    let told = over-by (has tags) R pairs ideal end t (map (λ (t : TagNo). t.0) list) c.requires.closed among (has-at tags i c.loop-tag-test.true)
    c.ideal_after-ideal.ensures listed in
    let over : nat_lt MAX_IMPLIED (length (map (λ (t : TagNo). t.0) list)) ≡ true = ap (nat_lt MAX_IMPLIED) (length-map list (λ (t : TagNo). t.0)) ∙ search rules in
    sym (found-at (is_over end R) tags i c.loop-tag-test.true c.loop-tag.invariant (told ∙ over))

pub returns-then-len-lt-MAX_IMPLIED-clause-first : goal.returns-then-len-lt-MAX_IMPLIED-clause-first
returns-then-len-lt-MAX_IMPLIED-clause-first g c =
    let v : Kept = planned (option_map (λ (p : Bor ParentPlan). p.now) c.args.plan) c.args.self.now in
    let w : Known = chained (option_map (λ (p : Bor SiblingPlan). p.now) c.args.chains) c.args.siblings.now in
    let R : Relations = relations_of v w c.args.service.0 in
    let tags = c.args.tags.now in
    let few : length c.in_ok-found.found.items < MAX_IMPLIED = search rules in
    sym (none-of (is_over c.args.end R) tags (λ t here. none-over (has tags) R c.in_ok-found.found.items c.args.end t c.requires.closed c.in_ok-found.ensures.pairs here few))

pub loop-tag-preserved : goal.loop-tag-preserved
loop-tag-preserved g c =
    let v : Kept = planned (option_map (λ (p : Bor ParentPlan). p.now) c.args.plan) c.args.self.now in
    let w : Known = chained (option_map (λ (p : Bor SiblingPlan). p.now) c.args.chains) c.args.siblings.now in
    let R : Relations = relations_of v w c.args.service.0 in
    let end = c.args.end in
    let tags = c.args.tags.now in
    let i = c.loop-tag.tag-index in
    let t = get_or tags i 0 in
    let list = c.in_ok-implied.implied in
    let ideal = c.ideal_after-ideal.result.0 in
    let pairs : List Pair = c.by_child-pairs.result.items in
    let among : HaveSame pairs (steps_within (has tags) R) = λ test. c.by_child-pairs.ensures.same test ∙ c.in_ok-found.ensures.pairs test in
    let listed = c.in_ok-implied.ensures ∙ ap (λ (pairs : List Pair). filter (λ b. b == ideal || is_above pairs ideal b) (range_with_len 0 end)) c.as_slice.ensures.value in
    let told = over-by (has tags) R pairs ideal end t (map (λ (t : TagNo). t.0) list) c.requires.closed among (has-at tags i c.loop-tag-test.true)
    c.ideal_after-ideal.ensures listed in
    let few : nat_lt MAX_IMPLIED (length (map (λ (t : TagNo). t.0) list)) ≡ false = ap (nat_lt MAX_IMPLIED) (length-map list (λ (t : TagNo). t.0)) ∙ search rules in
    none-more (is_over end R) tags i c.loop-tag-test.true c.loop-tag.invariant (told ∙ few)
