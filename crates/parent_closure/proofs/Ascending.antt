-- The tags of a sorted list, ascending, each once.
use Rattle.std.proofs.Common.{◌≡◌, ◌⊎◌, ◌<◌, ◌≤◌, ◌+◌, ◌==◌, ℕ, suc, true, Some, None, List, [], ◌∷◌, length, get_or, sym, inl, inr, arith}
use Rattle.std.specs.List.Sorted.{IsNonDecreasingBy}
use Rattle.std.proofs.lemmas.Bool.{false≢true, cases_lt, eqb-true, or_cases}
use Rattle.sibling_chains.specs.Grouping.{IsNext}
use Rattle.parent_closure.specs.Reached.{has}
use Rattle.parent_closure.proofs.Firsts.{has-at}

-- where the list has a tag
place : (list : List ℕ) (b : ℕ) → has list b ≡ true → (j : ℕ) × (j < length list) × (get_or list j 0 ≡ b)
place [] b h = absurd (false≢true h)
place (x ∷ list) b h = elim (or_cases (b == x) (has list b) h) [
  | inl here ↦ (0, omega arith, sym (eqb-true b x here))
  | inr there ↦ let rest = place list b there in (suc rest.0, omega (arith, rest.1), rest.2)
]

-- the tags before a place are past: they are below one end, or not below the other
abbrev pub IsPast : List ℕ → ℕ → ℕ → ℕ → Type 0
IsPast list i from end = (k : ℕ) → k < i → (get_or list k 0 < from) ⊎ (end ≤ get_or list k 0)

pub next-here : (list : List ℕ) (i from end : ℕ) → IsNonDecreasingBy (λ n. n) list → i < length list → IsPast list i from end → from ≤ get_or list i 0 → get_or list i 0 < end
    → IsNext end (has list) from (Some (get_or list i 0))
next-here list i from end sorted lt past low high = (
  high,
  low,
  has-at list i lt,
  λ k less after here.
      let j = place list k here in
      elim (cases_lt j.0 i) [
        | inl before ↦ elim (past j.0 before) [
          | inl below ↦ absurd (omega (arith, below, j.2, after))
          | inr above ↦ absurd (omega (arith, above, j.2, less))
        ]
        | inr behind ↦ let up = sorted i j.0 0 (omega (arith, behind)) j.1 in omega (arith, up, j.2)
      ],
)

pub next-none : (list : List ℕ) (from end : ℕ) → IsPast list (length list) from end → IsNext end (has list) from None
next-none list from end past = λ k less here.
    let j = place list k here in
    elim (past j.0 j.1) [
      | inl below ↦ omega (arith, below, j.2)
      | inr above ↦ absurd (omega (arith, above, j.2, less))
    ]

-- one more is past
pub past-more : (list : List ℕ) (i from next end : ℕ) → IsPast list i from end → from ≤ next → (get_or list i 0 < next) ⊎ (end ≤ get_or list i 0) → IsPast list (i + 1) next end
past-more list i from next end past le this = λ k lt. elim (cases_lt k i) [
  | inl before ↦ elim (past k before) [
    | inl below ↦ inl (omega (arith, below, le))
    | inr above ↦ inr above
  ]
  | inr here ↦ let same : k ≡ i = omega (arith, here, lt) in rw same this
]
