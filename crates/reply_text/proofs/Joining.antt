-- Items that are put one after the other, each with what stands before it.
use Rattle.std.proofs.Common.{◌≡◌, ℕ, ◌+◌, ◌<◌, ◌≤◌, List, [], ◌∷◌, ◌++◌, length, get_or, drop, map, refl, sym, ap, ◌∙◌, add-one, drop-cons}
use Rattle.std.specs.List.{flat_map}
use Rattle.std.proofs.lemmas.List.{drop_all}
use Rattle.reply_text.specs.Parts.{joined_text}

drop-next : {X : Type 0} (items : List X) (i : ℕ) (d : X) → i < length items → drop i items ≡ get_or items i d ∷ drop (i + 1) items
drop-next items i d within = rw add-one (drop-cons items i d within)

module _ {X : Type 0} (separator : List ℕ) (text : X → List ℕ) where
  -- the items from one on, before whose text this stands
  abbrev pub rest_text : List ℕ → List X → List ℕ
  rest_text before [] = []
  rest_text before (item ∷ items) = (before ++ text item) ++ flat_map (λ other. separator ++ text other) items

  pub rest_text-first : (items : List X) → rest_text [] items ≡ joined_text separator text items
  rest_text-first [] = refl
  rest_text-first (item ∷ items) = refl

  following : (items : List X) → flat_map (λ other. separator ++ text other) items ≡ rest_text separator items
  following [] = refl
  following (item ∷ items) = refl

  -- the item at a place, and the items behind it
  pub rest_text-drop : (before : List ℕ) (items : List X) (i : ℕ) (item : X) → i < length items → item ≡ get_or items i item
      → rest_text before (drop i items) ≡ (before ++ text item) ++ rest_text separator (drop (i + 1) items)
  rest_text-drop before items i item within is =
      ap (rest_text before) (drop-next items i item within) ∙ ap (λ (here : X). (before ++ text here) ++ flat_map (λ other. separator ++ text other) (drop (i + 1) items)) (sym is)
      ∙ ap (λ (rest : List ℕ). (before ++ text item) ++ rest) (following (drop (i + 1) items))

  pub rest_text-all : (before : List ℕ) (items : List X) (i : ℕ) → length items ≤ i → rest_text before (drop i items) ≡ []
  rest_text-all before items i past = ap (rest_text before) (drop_all i items past)

flat_map-map : {A B : Type 0} (f : A → B) (text : B → List ℕ) (items : List A) → flat_map text (map f items) ≡ flat_map (λ item. text (f item)) items
flat_map-map f text [] = refl
flat_map-map f text (item ∷ items) = ap (λ (rest : List ℕ). text (f item) ++ rest) (flat_map-map f text items)

-- items that stand for others
pub joined_text-map : {A B : Type 0} (separator : List ℕ) (f : A → B) (text : B → List ℕ) (items : List A) → joined_text separator text (map f items) ≡ joined_text separator (λ item. text (f item)) items
joined_text-map separator f text [] = refl
joined_text-map separator f text (item ∷ items) = ap (λ (rest : List ℕ). text (f item) ++ rest) (flat_map-map f (λ other. separator ++ text other) items)
