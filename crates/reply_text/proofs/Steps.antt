-- Texts that are put one behind the other, whatever they are put into.
use Rattle.std.proofs.Common.{◌≡◌, ℕ, ◌+◌, ◌<◌, ◌≤◌, List, [], ◌++◌, length, get_or, drop, Ok, Err, sym, subst, ◌∙◌, append_assoc}
use Rattle.std.specs.Result.{IsErr}
use Rattle.media_types.specs.declared.fault.Failed.{Failed}
use Rattle.reply_text.specs.Putting.{Outcome}
use Rattle.reply_text.proofs.Joining.{rest_text, rest_text-drop, rest_text-all}

-- what `Out` says
pub record PutLaws {A S : Type 0} (Puts : A → S → A → S → List ℕ → Outcome → Type 0) : Type 0 where
  pub nothing : (a : A) (s : S) → Puts a s a s [] (Ok tt)
  pub both : (a b c : A) (s t u : S) (first second : List ℕ) (result : Outcome) → Puts a s b t first (Ok tt) → Puts b t c u second result → Puts a s c u (first ++ second) result
  pub stops : (a b : A) (s t : S) (first second : List ℕ) (error : Failed) (result : Outcome) → IsErr result → Puts a s b t first (Err error) → Puts a s b t (first ++ second) result

module _ {A S X : Type 0} (Puts : A → S → A → S → List ℕ → Outcome → Type 0) (laws : PutLaws Puts) (separator : List ℕ) (text : X → List ℕ) (before : List ℕ) (items : List X) (i : ℕ) where
  abbrev rest : List ℕ
  rest = rest_text separator text separator (drop (i + 1) items)

  pub none_left : (a : A) (s : S) → length items ≤ i → Puts a s a s (rest_text separator text before (drop i items)) (Ok tt)
  none_left a s past = subst (λ (all : List ℕ). Puts a s a s all (Ok tt)) (sym (rest_text-all separator text before items i past)) (laws.nothing a s)

  module _ (item : X) (within : i < length items) (is : item ≡ get_or items i item) where
    pub put_item : (a b c e : A) (s t u v : S) (result : Outcome) → Puts a s b t before (Ok tt) → Puts b t c u (text item) (Ok tt) → Puts c u e v rest result
        → Puts a s e v (rest_text separator text before (drop i items)) result
    put_item a b c e s t u v result p q r =
        subst (λ (all : List ℕ). Puts a s e v all result) (sym (rest_text-drop separator text before items i item within is))
        (laws.both a c e s u v (before ++ text item) rest result (laws.both a b c s t u before (text item) (Ok tt) p q) r)

    pub before_stops : (a b : A) (s t : S) (error : Failed) (result : Outcome) → IsErr result → Puts a s b t before (Err error) → Puts a s b t (rest_text separator text before (drop i items)) result
    before_stops a b s t error result failed p =
        subst (λ (all : List ℕ). Puts a s b t all result) (sym (rest_text-drop separator text before items i item within is ∙ append_assoc before (text item) rest))
        (laws.stops a b s t before (text item ++ rest) error result failed p)

    pub item_stops : (a b c : A) (s t u : S) (error : Failed) (result : Outcome) → IsErr result → Puts a s b t before (Ok tt) → Puts b t c u (text item) (Err error)
        → Puts a s c u (rest_text separator text before (drop i items)) result
    item_stops a b c s t u error result failed p q =
        subst (λ (all : List ℕ). Puts a s c u all result) (sym (rest_text-drop separator text before items i item within is))
        (laws.stops a c s u (before ++ text item) rest error result failed (laws.both a b c s t u before (text item) (Err error) p q))
