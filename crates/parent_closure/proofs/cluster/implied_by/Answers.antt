use Rattle.std.proofs.Common.{◌≡◌, ◌∙◌, ℕ, ◌==◌, ◌||◌, List, IfOk, filter, map, ap, subst}
use Rattle.std.specs.List.{list_any, range_with_len}
use Rattle.std.proofs.lemmas.List.Elements.{filter_agree}
use Rattle.media_types.specs.declared.numbers.TagNo.{TagNo}
use Rattle.sibling_chains.specs.Following.{Pair}
use Rattle.parent_closure.specs.Ancestors.{is_above}
use Rattle.parent_closure.specs.SetLaws.{same-above}
use Rattle.parent_closure.specs.Sets.{HaveSame}
use Rattle.parent_closure.proofs.cluster.implied_by.Goals as goal

pub returns : goal.returns
returns c =
    let pairs : List Pair = c.args.pairs.now in
    let sorted : List Pair = c.by_child-sorted.result.items in
    let ideal = c.args.ideal in
    let tags : List ℕ = range_with_len 0 c.args.end in
    let same : HaveSame sorted pairs = λ test. c.by_child-sorted.ensures.same test ∙ ap (list_any test) c.in_ok-from_slice.ensures.items in
    let all =
    ap (λ (ps : List Pair). filter (λ b. b == ideal || is_above ps ideal b) tags) c.as_slice.ensures.value
    ∙ filter_agree (λ b. b == ideal || is_above sorted ideal b) (λ b. b == ideal || is_above pairs ideal b) (λ b. ap (λ x. b == ideal || x) (same-above sorted pairs same ideal b)) tags in
    subst (λ (l : List ℕ). IfOk c.implied_from.result (λ list. map (λ (t : TagNo). t.0) list ≡ l)) all c.implied_from.ensures
