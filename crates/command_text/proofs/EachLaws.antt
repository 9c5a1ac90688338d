-- Lists that are read item by item.
use Rattle.std.proofs.Common.{◌≡◌, ℕ, ◌+◌, ◌<◌, ◌≤◌, List, [], ◌∷◌, ◌++◌, length, get_or, drop, map, Bor, Option, Some, None, option_map, option_and_then, refl, sym, ap, ◌∙◌, append_assoc}
use Rattle.std.proofs.lemmas.List.{at_drop_more, at_drop_all, append-nil, map-append}
use Rattle.serde_json.specs.Data.{Data}
use Rattle.serde_json.specs.View.{view, items_view}
use Rattle.serde_json.specs.declared.value.Value.{Value}
use Rattle.command_text.specs.Forms.{each_of}

-- what the first items say and what the others say is what all of them say
pub record IsReadTo {A : Type 0} (says : Data → Option A) (values : List Value) (i : ℕ) (before : List A) : Type 0 where
  pub whole : each_of says (items_view values) ≡ option_map (λ others. before ++ others) (each_of says (items_view (drop i values)))

mapped_none : {A : Type 0} (o : Option (List A)) → o ≡ option_map (λ others. [] ++ others) o
mapped_none None = refl
mapped_none (Some others) = refl

pub read_none : {A : Type 0} (says : Data → Option A) (values : List Value) → IsReadTo says values 0 []
read_none says values = record { whole = mapped_none (each_of says (items_view values)) }

mapped_more : {A : Type 0} (before : List A) (x : A) (o : Option (List A))
    → option_map (λ others. before ++ others) (option_map (λ others. x ∷ others) o) ≡ option_map (λ others. (before ++ x ∷ []) ++ others) o
mapped_more before x None = refl
mapped_more before x (Some others) = ap Some (sym (append_assoc before (x ∷ []) others))

module _ {A : Type 0} (says : Data → Option A) (values : List Value) (i : ℕ) (before : List A) (value : Value) (within : i < length values) (is : value ≡ get_or values i value) where
  -- what the items from the place on say
  from_here : each_of says (items_view (drop i values)) ≡ option_and_then (λ first. option_map (λ others. first ∷ others) (each_of says (items_view (drop (i + 1) values)))) (says (view value))
  from_here =
      at_drop_more (λ left. each_of says (items_view left)) values i value within
      ∙ ap (λ (here : Value). option_and_then (λ first. option_map (λ others. first ∷ others) (each_of says (items_view (drop (i + 1) values)))) (says (view here))) (sym is)

  -- the item says this, so the items up to it are read
  pub read_more : (x : A) → Some x ≡ says (view value) → IsReadTo says values i before → IsReadTo says values (i + 1) (before ++ x ∷ [])
  read_more x here so_far = record {
    whole = so_far.whole
        ∙ ap (option_map (λ others. before ++ others)) (from_here ∙ ap (option_and_then (λ first. option_map (λ others. first ∷ others) (each_of says (items_view (drop (i + 1) values))))) (sym here))
        ∙ mapped_more before x (each_of says (items_view (drop (i + 1) values)));
  }

  -- the item says nothing, so the whole doesn't
  pub read_stops : None ≡ says (view value) → IsReadTo says values i before → each_of says (items_view values) ≡ None
  read_stops here so_far =
      so_far.whole
      ∙ ap (option_map (λ others. before ++ others)) (from_here ∙ ap (option_and_then (λ first. option_map (λ others. first ∷ others) (each_of says (items_view (drop (i + 1) values))))) (sym here))

pub read_all : {A : Type 0} (says : Data → Option A) (values : List Value) (i : ℕ) (before : List A) → length values ≤ i
    → IsReadTo says values i before → each_of says (items_view values) ≡ Some before
read_all says values i before past so_far =
    so_far.whole
    ∙ ap (option_map (λ others. before ++ others)) (at_drop_all (λ left. each_of says (items_view left)) values i past)
    ∙ ap Some (append-nil before)

-- the texts behind references, with one more
pub texts_more : (texts : List (Bor (List ℕ))) (text : Bor (List ℕ)) → map (λ text. text.now) texts ++ text.now ∷ [] ≡ map (λ text. text.now) (texts ++ text ∷ [])
texts_more texts text = sym (map-append (λ (text : Bor (List ℕ)). text.now) texts (text ∷ []))
