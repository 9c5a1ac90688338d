use Rattle.std.proofs.Common.{◌≡◌, ◌∙◌, ◌-◌, ◌<◌, ◌==◌, ℕ, List, cond, refl, get_or, length, ap, arith}
use Rattle.std.proofs.Math.ListN.{length-set}
use Rattle.std.specs.List.{list_any}
use Rattle.std.proofs.lemmas.List.{drop_all}
use Rattle.std.proofs.lemmas.List.Elements.{All-get_or}
use Rattle.sibling_chains.specs.Ends.{at, end_beside}
use Rattle.sibling_chains.proofs.Puts.{put-step, put_from}
use Rattle.sibling_chains.proofs.chain_ends.ChainEnds.put.Goals as goal

pub loop-at-init : goal.loop-at-init
loop-at-init c = record {
  len = refl;
  put = λ t. rw (drop_all (length c.args.tags.now) c.args.tags.now (omega arith)) refl;
}

pub index_mut-requires : goal.index_mut-requires
index_mut-requires c =
    let tags : List ℕ = c.args.tags.now in
    let items : List ℕ = c.self.inside.ends.items in
    let all = rw (← c.self.view_is) at c.requires.known in
    let known : get_or tags (c.loop-at.at - 1) 0 < length items = All-get_or (λ t. t < length items) tags (c.loop-at.at - 1) 0 (omega (arith, c.loop-at-test.true, c.loop-at.auto.at)) all in
    omega (arith, known, c.loop-at.invariant.len, c.loop-at.self-inside.ends.ok.0)

pub loop-at-preserved : goal.loop-at-preserved
loop-at-preserved c =
    let tags : List ℕ = c.args.tags.now in
    let ends : List ℕ = c.args.ends.now in
    let items : List ℕ = c.self.inside.ends.items in
    let k : ℕ = c.loop-at.at - 1 in
    let all = rw (← c.self.view_is) at c.requires.known in
    let within : k < length tags = omega (arith, c.loop-at-test.true, c.loop-at.auto.at) in
    let known : get_or tags k 0 < length items = All-get_or (λ t. t < length items) tags k 0 within all in
    record {
      len = length-set _ _ _ ∙ c.loop-at.invariant.len;
      put = λ t. put-step tags ends c.loop-at.self-inside.ends.items k c.loop-at.at (at items t) t (omega (arith, c.loop-at-test.true)) within
          (omega (arith, within, c.requires.len)) (omega (arith, known, c.loop-at.invariant.len)) (c.loop-at.invariant.put t);
    }

pub returns-clause-put : goal.returns-clause-put
returns-clause-put c = λ t.
    let tags : List ℕ = c.args.tags.now in
    let ends : List ℕ = c.args.ends.now in
    let first : c.loop-at.at ≡ 0 = omega (arith, c.loop-at-test.false) in
    c.loop-at.invariant.put t ∙ ap (λ j. put_from j tags ends (at c.self.inside.ends.items t) t) first
    ∙ ap (λ l. cond (list_any (λ x. x == t) tags) (end_beside tags ends t) (at l t)) c.self.view_is

pub returns-clause-len : goal.returns-clause-len
returns-clause-len c = c.loop-at.invariant.len ∙ ap (λ (l : List ℕ). length l) c.self.view_is
