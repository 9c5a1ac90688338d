-- A step of reading gives a value of which something holds, or refuses for one cause.
use Rattle.std.proofs.Common.{◌≡◌, ◌⊎◌, inl, inr, Bool, true, false, cond, Option, Some, None, Result, Ok, Err, refl, sym, ap, ◌∙◌}
use Rattle.media_base.specs.declared.refusal.FieldName.{FieldName}
use Rattle.media_base.specs.declared.refusal.Refusal.{Refusal}
use Rattle.media_base.specs.declared.refusal.Refusal.TheVariants as refusals
use Rattle.command_text.specs.Forms.{◌>>=◌, formed}

-- It gives just the values that are good, and refuses where it is bad.
pub record Tells {A : Type 0} (reading : Result A Refusal) (why : Refusal) (Bad : Type 0) (Good : A → Type 0) : Type 0 where
  pub either : (Bad × (reading ≡ Err why)) ⊎ ((x : A) × Good x × (reading ≡ Ok x))
  pub good : (x : A) → Good x → reading ≡ Ok x
  pub bad : Bad → reading ≡ Err why

-- the same, said in other words
pub tells_like : {A : Type 0} {reading : Result A Refusal} {why : Refusal} {Bad : Type 0} {Good Told : A → Type 0} → Tells reading why Bad Good
    → ((x : A) → Good x → Told x) → ((x : A) → Told x → Good x) → Tells reading why Bad Told
tells_like tells there back = record {
  either = elim tells.either [ inl p ↦ inl p | inr p ↦ inr (p.0, there p.0 p.1, p.2) ];
  good = λ x p. tells.good x (back x p);
  bad = tells.bad;
}

-- ---- a test of a value

-- the test passes where this holds of the value, and else it is bad
pub tells_test : {A : Type 0} (test : Bool) (x : A) (why : Refusal) (Bad Holds : Type 0) → (test ≡ true → Holds) → (test ≡ false → Bad) → (Holds → Bad → ⊥)
    → Tells (cond test (Ok x) (Err why)) why Bad (λ y. (y ≡ x) × Holds)
tells_test true x why Bad Holds passes fails apart = record {
  either = inr (x, (refl, passes refl), refl);
  good = λ y p. ap Ok (sym p.0);
  bad = λ b. absurd (apart (passes refl) b);
}
tells_test false x why Bad Holds passes fails apart = record {
  either = inl (fails refl, refl);
  good = λ y p. absurd (apart p.1 (fails refl));
  bad = λ b. refl;
}

-- a test and then a value of its own
pub tells_then : {A B : Type 0} {reading : Result A Refusal} {why : Refusal} {Bad Holds : Type 0} {x : A} (y : B) → Tells reading why Bad (λ z. (z ≡ x) × Holds)
    → Tells (reading >>= (λ _. Ok y)) why Bad (λ z. (z ≡ y) × Holds)
tells_then {A} {B} {reading} {why} {Bad} {Holds} {x} y tells = record {
  either = elim tells.either [
    | inl p ↦ inl (p.0, ap (λ (r : Result A Refusal). r >>= (λ _. Ok y)) p.1)
    | inr p ↦ inr (y, (refl, p.1.1), ap (λ (r : Result A Refusal). r >>= (λ _. Ok y)) p.2)
  ];
  good = λ z p. ap (λ (r : Result A Refusal). r >>= (λ _. Ok y)) (tells.good x (refl, p.1)) ∙ ap Ok (sym p.0);
  bad = λ b. ap (λ (r : Result A Refusal). r >>= (λ _. Ok y)) (tells.bad b);
}

-- ---- a field

-- what is found is what the field says
pub tells_formed : {A : Type 0} (name : FieldName) (found : Option A) (Says : A → Type 0)
    → ((x : A) → found ≡ Some x → Says x) → ((x : A) → Says x → found ≡ Some x)
    → Tells (formed name found) (refusals.NotARequest name) (¬ ((x : A) × Says x)) Says
tells_formed name None Says there back = record {
  either = inl (λ p. cc (back p.0 p.1), refl);
  good = λ x p. cc (back x p);
  bad = λ lacks. refl;
}
tells_formed name (Some x) Says there back = record {
  either = inr (x, there x refl, refl);
  good = λ y p. let e = back y p in cc e;
  bad = λ lacks. absurd (lacks (x, there x refl));
}
