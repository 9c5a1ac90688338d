-- The first name of a distance that comes after a place, by the least triple of that distance.
use Rattle.std.proofs.Common.{◌≡◌, ◌≢◌, ◌⊎◌, ◌∙◌, ◌<◌, ℕ, true, false, List, Option, Some, None, IsSome, refl, sym, ap, inl, inr}
use Rattle.std.specs.Cmp.{nat_cmp_is, nat_cmp_total, tied_itself}
use Rattle.std.specs.Map.{keys_of}
use Rattle.std.specs.Ordering.{nat_cmp, ordering_then}
use Rattle.std.specs.declared.cmp.Ordering.TheVariants.{Less}
use Rattle.std.proofs.lemmas.Bool.{cases_Bool, cases_order}
use Rattle.std.proofs.lemmas.List.Elements.{All-contains}
use Rattle.media_types.specs.declared.numbers.FileNo.{FileNo}
use Rattle.spare_tables.specs.EditLaws.{member_from_value}
use Rattle.spare_tables.specs.Keys.{IsLeastFrom, value_of}
use Rattle.spare_tables.specs.Order.{pair_cmp, pair_exact, triple_cmp}
use Rattle.spare_tables.specs.PairLaws.{pair_less, pair_order}
use Rattle.spare_tables.specs.Pairs.{IsBefore}
use Rattle.potential_pairs.specs.Levels.{AreInStep, IsFirstBehind, IsName}
use Rattle.potential_pairs.specs.Pages.{is_behind}
use Rattle.potential_pairs.specs.Potential.{Row}

-- of one distance the names decide
of_one_level : (d : ℕ) (x y : ℕ × ℕ) → triple_cmp (d, x.0, x.1) (d, y.0, y.1) ≡ pair_cmp x y
of_one_level d x y = ap (λ r. ordering_then (ordering_then r (nat_cmp x.0 y.0)) (nat_cmp x.1 y.1)) (tied_itself nat_cmp_total d)

-- of two distances the lower comes first
of_lower_level : (d e : ℕ) (x y : ℕ × ℕ) → d < e → triple_cmp (d, x.0, x.1) (e, y.0, y.1) ≡ Less
of_lower_level d e x y lower = ap (λ r. ordering_then (ordering_then r (nat_cmp x.0 y.0)) (nat_cmp x.1 y.1)) (sym (nat_cmp_is d e Less lower))

-- a name with a distance is one of files that there may be
pub named-name : (rows : List Row) (levels : List (ℕ × ℕ × ℕ)) (counts : List ℕ) → AreInStep rows levels counts
    → (name : ℕ × ℕ) (d : ℕ) → value_of pair_cmp rows name ≡ Some d → IsName name
named-name rows levels counts step name d has =
    let some : IsSome (value_of pair_cmp rows name) = rw has refl in
    All-contains IsName (keys_of rows) name step.named (member_from_value pair_order pair_exact name rows some)

module _ (rows : List Row) (levels : List (ℕ × ℕ × ℕ)) (counts : List ℕ) (step : AreInStep rows levels counts)
    (d : ℕ) (place : Option (FileNo × FileNo)) (start : ℕ × ℕ)
    (before : (name : ℕ × ℕ) → IsBefore name start → is_behind place name ≡ false)
    (behind : (name : ℕ × ℕ) → IsName name → ¬ (IsBefore name start) → is_behind place name ≡ true) where
  not_before : (name : ℕ × ℕ) → is_behind place name ≡ true → ¬ (IsBefore name start)
  not_before name is early = let no_more = before name early in cc

  pub first_found : (found : ℕ × ℕ) → IsLeastFrom triple_cmp levels (d, start.0, start.1) (Some (d, found.0, found.1)) → IsFirstBehind rows d place (Some found)
  first_found found (member, late, least) =
      let has : value_of pair_cmp rows found ≡ Some d = (step.level d found.0 found.1).0 member in (
        has,
        behind found (named-name rows levels counts step found d has) (λ early. late (of_one_level d found start ∙ (pair_less found start).1 early)),
        λ name other is earlier. elim (All-contains (λ t. (triple_cmp t (d, start.0, start.1) ≡ Less) ⊎ (triple_cmp t (d, found.0, found.1) ≢ Less)) levels (d, name.0, name.1) least ((step.level d name.0 name.1).1 other)) [
          | inl early ↦ not_before name is ((pair_less name start).0 (sym (of_one_level d name start) ∙ early))
          | inr not_earlier ↦ not_earlier (of_one_level d name found ∙ (pair_less name found).1 earlier)
        ],
      )

  pub none_of_level : (found : ℕ × ℕ × ℕ) → found.0 ≢ d → IsLeastFrom triple_cmp levels (d, start.0, start.1) (Some found) → IsFirstBehind rows d place None
  none_of_level found other (member, late, least) name has = elim (cases_Bool (is_behind place name)) [
    | inr not_behind ↦ not_behind
    | inl is ↦ absurd (elim (All-contains (λ t. (triple_cmp t (d, start.0, start.1) ≡ Less) ⊎ (triple_cmp t found ≢ Less)) levels (d, name.0, name.1) least ((step.level d name.0 name.1).1 has)) [
      | inl early ↦ not_before name is ((pair_less name start).0 (sym (of_one_level d name start) ∙ early))
      | inr not_earlier ↦ elim (cases_order found.0 d) [
        | inl same ↦ other same
        | inr differ ↦ elim differ [
          | inl lower ↦ late (of_lower_level found.0 d (found.1, found.2) start lower)
          | inr higher ↦ not_earlier (of_lower_level d found.0 name (found.1, found.2) higher)
        ]
      ]
    ])
  ]

  pub none_at_all : IsLeastFrom triple_cmp levels (d, start.0, start.1) None → IsFirstBehind rows d place None
  none_at_all least name has =
      let early = All-contains (λ t. triple_cmp t (d, start.0, start.1) ≡ Less) levels (d, name.0, name.1) least ((step.level d name.0 name.1).1 has) in
      before name ((pair_less name start).0 (sym (of_one_level d name start) ∙ early))
