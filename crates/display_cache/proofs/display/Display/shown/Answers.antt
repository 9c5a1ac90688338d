use Rattle.std.proofs.Common.{◌≡◌, ◌≤◌, ◌<◌, ◌∙◌, ◌+◌, ◌++◌, ℕ, suc, false, ap, sym, arith, rules}
use Rattle.std.specs.Option.{unwrap_or}
use Rattle.spare_tables.specs.Keys.{value_of}
use Rattle.spare_tables.specs.Order.{triple_cmp}
use Rattle.display_cache.specs.Cache.{Support, is_shown_by, nothing, shown_piece}
use Rattle.display_cache.specs.Displayed.{DisplayView, KeptDisplay, cache_of}
use Rattle.display_cache.proofs.ShownLists.{shown-push, shown-same, shown-whole, shown_by}
use Rattle.display_cache.proofs.display.Display.shown.Goals as goal

pub loop-tag-preserved : goal.loop-tag-preserved
loop-tag-preserved g c =
    let v : DisplayView = c.args.self.now.shown in
    let s : ℕ = c.args.s.0 in
    let f : ℕ = c.args.f.0 in
    let x : ℕ = c.in-Some.tag in
    let from : ℕ = c.loop-tag.from in
    let S : ℕ → Support = (cache_of v).supports s f in
    let seen : (y : ℕ) → value_of triple_cmp c.self.inside.tables.supports (c.from-service.result, f, y) ≡ value_of triple_cmp v.supports (s, f, y) = λ y.
    ap (λ a. value_of triple_cmp c.self.inside.tables.supports (a, f, y)) c.from-service.ensures
    ∙ ap (λ (kept : KeptDisplay). value_of triple_cmp kept.shown.supports (s, f, y)) c.self.view_is in
    let here : c.support-support.result ≡ S x = c.support-support.ensures.value ∙ ap (λ o. unwrap_or o nothing) (seen x) in
    let between : (y : ℕ) → from ≤ y → y < x → is_shown_by (S y) ≡ false = λ y le lt.
    ap (λ o. is_shown_by (unwrap_or o nothing)) (sym (seen y) ∙ c.in-Some.ensures.between y le lt) in
    let next : suc x ≡ c.from-from.result + 1 = omega (arith, c.from-from.ensures) in
    let few : c.from-from.result + 1 ≤ 4294967296 = search rules in
    record {
      list = c.in_ok-tell_shown.ensures ∙ ap (λ l. l ++ shown_piece x c.support-support.result) c.loop-tag.invariant.list
          ∙ ap (λ (u : Support). shown_by S from ++ shown_piece x u) here
          ∙ ap (λ l. l ++ shown_piece x (S x)) (sym (shown-same S from x c.in-Some.ensures.found between))
          ∙ sym (shown-push S x) ∙ ap (shown_by S) next;
      few = few;
    }

pub returns : goal.returns
returns g c = λ n m mappings few is.
    let v : DisplayView = c.args.self.now.shown in
    let s : ℕ = c.args.s.0 in
    let f : ℕ = c.args.f.0 in
    let from : ℕ = c.loop-tag.from in
    let seen : (y : ℕ) → value_of triple_cmp c.self.inside.tables.supports (c.from-service.result, f, y) ≡ value_of triple_cmp v.supports (s, f, y) = λ y.
    ap (λ a. value_of triple_cmp c.self.inside.tables.supports (a, f, y)) c.from-service.ensures
    ∙ ap (λ (kept : KeptDisplay). value_of triple_cmp kept.shown.supports (s, f, y)) c.self.view_is in
    c.loop-tag.invariant.list ∙ shown-whole n m mappings v is s f from (λ y le lt.
    ap (λ o. is_shown_by (unwrap_or o nothing)) (sym (seen y) ∙ c.in_default.ensures.none y le (omega (arith, lt, few))))
