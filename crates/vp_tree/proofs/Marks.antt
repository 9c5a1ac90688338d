-- The highest lopsided node of those that are left of a way.
use Rattle.std.proofs.Common.{◌≡◌, ◌∙◌, ℕ, ◌<◌, ◌==◌, ◌+◌, ◌||◌, nat_lt, Bool, true, false, List, [], ◌∷◌, length, sum_by, Option, Some, refl, sym, ap, inl, inr, arith}
use Rattle.std.specs.List.{find, list_any}
use Rattle.std.specs.Option.{ForSome, option_map}
use Rattle.std.proofs.lemmas.Bool.{lt-ltb}
use Rattle.std.proofs.lemmas.Bool.Decides.{eqb_tells}
use Rattle.std.proofs.lemmas.List.Sums.{sum_by-cons}
use Rattle.media_types.specs.declared.numbers.HashNo.{HashNo}
use Rattle.vp_tree.specs.declared.node.NodeView.{NodeView}
use Rattle.vp_tree.specs.Marking.{is_lopsided}
use Rattle.vp_tree.specs.Nodes.{node_at, one_at}
use Rattle.vp_tree.specs.Shape.{Side, ComeLater, part}
use Rattle.vp_tree.proofs.Sorting.{one_at-other, one_at-same}

abbrev pub highest : List NodeView → List ℕ → Option HashNo
highest ns ks = option_map (λ k. record { 0 = k }) (find (λ k. is_lopsided ns (node_at ns k)) ks)

pub highest-first : (ns : List NodeView) (k : ℕ) (ks : List ℕ) → is_lopsided ns (node_at ns k) ≡ true → highest ns (k ∷ ks) ≡ Some (record { 0 = k })
highest-first ns k ks is = rw is refl

pub highest-rest : (ns : List NodeView) (k : ℕ) (ks : List ℕ) → is_lopsided ns (node_at ns k) ≡ false → highest ns (k ∷ ks) ≡ highest ns ks
highest-rest ns k ks is = rw is refl

-- the first node of a part is one of the nodes
pub part-inside : (ns : List NodeView) (k : ℕ) (side : Side) → ComeLater ns → k < length ns → ForSome (part side (node_at ns k)) (λ c. c.0 < length ns)
part-inside ns k side L lt = λ c e. let l : (k < c.0) × (c.0 < length ns) = L k side c lt e in l.1

-- a number stands among the nodes that a plan builds where the branch has it
pub any-number : (k : ℕ) (bs : List (HashNo × NodeView)) → list_any (λ b. b.0.0 == k) bs ≡ nat_lt 0 (sum_by (λ b. one_at k b.0.0) bs)
any-number k [] = refl
any-number k (b ∷ bs) =
    let rest : Bool = list_any (λ b. b.0.0 == k) bs in
    let sum : sum_by (λ b. one_at k b.0.0) (b ∷ bs) ≡ one_at k b.0.0 + sum_by (λ b. one_at k b.0.0) bs = sum_by-cons (λ (b : HashNo × NodeView). one_at k b.0.0) b bs in
    elim (eqb_tells b.0.0 k) [
      | inl same ↦ ap (λ first. first || rest) same.0
          ∙ sym (lt-ltb 0 (sum_by (λ b. one_at k b.0.0) (b ∷ bs)) (omega (arith, sum, ap (λ i. one_at k i) same.1, one_at-same k)))
      | inr other ↦ ap (λ first. first || rest) other.0 ∙ any-number k bs ∙ ap (nat_lt 0) (omega (arith, sum, one_at-other k b.0.0 other.1))
    ]
