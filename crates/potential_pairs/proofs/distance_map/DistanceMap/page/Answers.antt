use Rattle.std.proofs.Common.{◌≡◌, ◌∙◌, ◌≤◌, ◌∷◌, [], ◌++◌, ℕ, Some, None, map, take, refl, sym, ap, subst, arith, rules}
use Rattle.std.proofs.lemmas.List.{length-set, map-append}
use Rattle.media_types.specs.declared.limits.TheConstants.{MAX_DISTANCE}
use Rattle.spare_tables.specs.Keys.{value_of}
use Rattle.spare_tables.specs.Order.{pair_cmp}
use Rattle.spare_tables.specs.Table.{Table}
use Rattle.potential_pairs.specs.Levels.{Ascend, IsLeastHead}
use Rattle.potential_pairs.specs.Pages.{named, page_of}
use Rattle.potential_pairs.specs.Potential.{Row}
use Rattle.potential_pairs.proofs.InStep.{value-within}
use Rattle.potential_pairs.proofs.Paging.{at_name, behind, first-behind, heads-after, none-behind, take_next, take_over}
use Rattle.potential_pairs.proofs.distance_map.DistanceMap.page.Goals as goal

pub loop-turn-init : goal.loop-turn-init
loop-turn-init g c = record {
  place = c.args.after;
  page = c.new-page.ensures;
  rest = refl;
  heads = c.heads-heads.ensures.heads;
  long = search rules;
  reads = omega arith;
}

pub loop-turn-preserved : goal.loop-turn-preserved
loop-turn-preserved g c =
    let rows = c.args.self.now.rows in
    let m = c.args.at_most in
    let whole = behind c.args.after m rows in
    let name : ℕ × ℕ = (c.in-Some.j, c.in-Some.k) in
    let at = c.in-Some.level in
    let before = c.loop-turn.invariant in
    let sorted : Ascend rows = subst (λ (table : Table Row). Ascend table.rows) c.self.view_is c.self.invariant.sorted in
    let shallow : (q : ℕ × ℕ) (e : ℕ) → value_of pair_cmp rows q ≡ Some e → e ≤ MAX_DISTANCE =
    subst (λ (table : Table Row). (q : ℕ × ℕ) (e : ℕ) → value_of pair_cmp table.rows q ≡ Some e → e ≤ MAX_DISTANCE) c.self.view_is (value-within c.self.inside.distances.rows c.self.invariant.shallow) in
    let least : IsLeastHead c.loop-turn.heads 17 (Some (at, name)) = rw (c.as_slice.ensures, before.long, c.in-Some.is) at c.least_head.ensures in
    let within : at ≤ MAX_DISTANCE = omega (arith, least.0) in
    let first = first-behind rows m before.place c.loop-turn.heads sorted shallow before.heads 17 at name (omega arith) within least in
    let next = take_next whole (behind (at_name name) m rows) (name, at) c.loop-turn._turn (sym before.rest ∙ first) in
    record {
      place = at_name name;
      page = c.in_ok-push.ensures.ok ∙ ap (λ list. list ++ named (name, at) ∷ []) before.page
          ∙ sym (map-append named (take c.loop-turn._turn whole) ((name, at) ∷ [])) ∙ ap (map named) (sym next.0);
      rest = sym next.1;
      heads = heads-after rows m before.place c.loop-turn.heads sorted shallow before.heads 17 at name c.first_behind.result (omega arith) within (omega (arith, least.0, before.long)) least c.first_behind.ensures.first;
      long = length-set c.loop-turn.heads at c.first_behind.result ∙ before.long;
      reads = omega (arith, before.reads, c.first_behind.ensures.steps);
    }

pub returns-in_default-clause-page : goal.returns-in_default-clause-page
unfolding page_of
returns-in_default-clause-page g c =
    let rows = c.args.self.now.rows in
    let m = c.args.at_most in
    let before = c.loop-turn.invariant in
    let sorted : Ascend rows = subst (λ (table : Table Row). Ascend table.rows) c.self.view_is c.self.invariant.sorted in
    let shallow : (q : ℕ × ℕ) (e : ℕ) → value_of pair_cmp rows q ≡ Some e → e ≤ MAX_DISTANCE =
    subst (λ (table : Table Row). (q : ℕ × ℕ) (e : ℕ) → value_of pair_cmp table.rows q ≡ Some e → e ≤ MAX_DISTANCE) c.self.view_is (value-within c.self.inside.distances.rows c.self.invariant.shallow) in
    let none : IsLeastHead c.loop-turn.heads 17 None = rw (c.as_slice.ensures, before.long, c.in_default.is) at c.least_head.ensures in
    let empty = none-behind rows m before.place c.loop-turn.heads sorted shallow before.heads 17 (omega arith) none in
    before.page ∙ ap (map named) (take_over (behind c.args.after m rows) c.loop-turn._turn c.args.n (omega (arith, c.loop-turn-test.true)) (sym before.rest ∙ empty))

pub returns-clause-page : goal.returns-clause-page
unfolding page_of
returns-clause-page g c =
    let last : c.loop-turn._turn ≡ c.args.n = omega (arith, c.loop-turn-test.false, c.loop-turn.auto._turn-end) in
    c.loop-turn.invariant.page ∙ ap (λ i. map named (take i (behind c.args.after c.args.at_most c.args.self.now.rows))) last
