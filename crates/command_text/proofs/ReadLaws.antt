-- Fields and tests are read in their order, whatever the command.
use Rattle.std.proofs.Common.{◌≡◌, ◌⊎◌, inl, inr, List, [], ◌∷◌, Result, Ok, Err, refl, sym, ap, ◌∙◌}
use Rattle.serde_json.specs.Data.{Data}
use Rattle.media_base.specs.declared.command.Command.{Command}
use Rattle.media_base.specs.declared.refusal.FieldName.{FieldName}
use Rattle.media_base.specs.declared.refusal.Refusal.{Refusal}
use Rattle.media_base.specs.declared.refusal.Refusal.TheVariants as refusals
use Rattle.command_text.specs.Forms.{◌>>=◌, Said, Field, Test, Made, refusal_of, Asking, asks, tests, tested, Asked, read_fields}
use Rattle.command_text.specs.Spelling.{AllSaid, HasAll, asked_with, Passes, Fails, IsFirstOf}
use Rattle.command_text.proofs.FieldLaws.{tells_said}
use Rattle.command_text.proofs.TestLaws.{tells}

abbrev pub blamed : FieldName → Result Command Refusal
blamed name = Err (refusals.NotARequest name)

-- ---- the fields

module _ (value : Data) where
  -- the first faulty field is blamed, or all fields say something
  pub read_either : (fields : List Field) (asked : Asked fields)
      → ((name : FieldName) × IsFirstOf value fields name × (read_fields fields asked value ≡ blamed name)) ⊎ ((said : AllSaid fields) × HasAll value fields said × (read_fields fields asked value ≡ tested (asked_with fields asked said)))
  read_either [] asking = inr (tt, tt, refl)
  read_either (field ∷ fields) asked =
      elim (tells_said value field.0 field.1).either [
        | inl bad ↦ inl (field.0, inl (refl, bad.0), ap (λ (r : Result (Said field.1) Refusal). r >>= (λ x. read_fields fields (asked x) value)) bad.1)
        | inr good ↦
            let here = ap (λ (r : Result (Said field.1) Refusal). r >>= (λ x. read_fields fields (asked x) value)) good.2 in
            elim (read_either fields (asked good.0)) [
              | inl p ↦ inl (p.0, inr ((good.0, good.1), p.1), here ∙ p.2)
              | inr p ↦ inr ((good.0, p.0), (good.1, p.1), here ∙ p.2)
            ]
      ]

  pub read_said : (fields : List Field) (asked : Asked fields) (said : AllSaid fields) → HasAll value fields said → read_fields fields asked value ≡ tested (asked_with fields asked said)
  read_said [] asking said has = refl
  read_said (field ∷ fields) asked said has =
      ap (λ (r : Result (Said field.1) Refusal). r >>= (λ x. read_fields fields (asked x) value)) ((tells_said value field.0 field.1).good said.0 has.0) ∙ read_said fields (asked said.0) said.1 has.1

  pub read_faulty : (fields : List Field) (asked : Asked fields) (name : FieldName) → IsFirstOf value fields name → read_fields fields asked value ≡ blamed name
  read_faulty [] asking name none = absurd none
  read_faulty (field ∷ fields) asked name (inl here) =
      ap (λ (r : Result (Said field.1) Refusal). r >>= (λ x. read_fields fields (asked x) value)) ((tells_said value field.0 field.1).bad here.1) ∙ ap blamed (sym here.0)
  read_faulty (field ∷ fields) asked name (inr later) =
      ap (λ (r : Result (Said field.1) Refusal). r >>= (λ x. read_fields fields (asked x) value)) ((tells_said value field.0 field.1).good later.0.0 later.0.1) ∙ read_faulty fields (asked later.0.0) name later.1

-- ---- the tests

pub tested_either : (asking : Asking) → ((why : Refusal) × Fails asking why × (tested asking ≡ Err why)) ⊎ ((command : Command) × Passes asking command × (tested asking ≡ Ok command))
tested_either (asks command) = inr (command, refl, refl)
tested_either (tests test next) =
    elim (tells test).either [
      | inl bad ↦ inl (refusal_of test, inl (bad.0, refl), ap (λ (r : Result (Made test) Refusal). r >>= (λ x. tested (next x))) bad.1)
      | inr good ↦
          let here = ap (λ (r : Result (Made test) Refusal). r >>= (λ x. tested (next x))) good.2 in
          elim (tested_either (next good.0)) [
            | inl p ↦ inl (p.0, inr (good.0, good.1, p.1), here ∙ p.2)
            | inr p ↦ inr (p.0, (good.0, good.1, p.1), here ∙ p.2)
          ]
    ]

pub tested_passes : (asking : Asking) (command : Command) → Passes asking command → tested asking ≡ Ok command
tested_passes (asks asked) command is = ap Ok is
tested_passes (tests test next) command p =
    ap (λ (r : Result (Made test) Refusal). r >>= (λ x. tested (next x))) ((tells test).good p.0 p.1) ∙ tested_passes (next p.0) command p.2

pub tested_fails : (asking : Asking) (why : Refusal) → Fails asking why → tested asking ≡ Err why
tested_fails (asks asked) why none = absurd none
tested_fails (tests test next) why (inl bad) =
    ap (λ (r : Result (Made test) Refusal). r >>= (λ x. tested (next x))) ((tells test).bad bad.0) ∙ ap Err (sym bad.1)
tested_fails (tests test next) why (inr p) =
    ap (λ (r : Result (Made test) Refusal). r >>= (λ x. tested (next x))) ((tells test).good p.0 p.1) ∙ tested_fails (next p.0) why p.2

-- the refusal is one of a test
pub fails_test : (asking : Asking) (why : Refusal) → Fails asking why → (test : Test) × (why ≡ refusal_of test)
fails_test (asks asked) why none = absurd none
fails_test (tests test next) why (inl bad) = (test, bad.1)
fails_test (tests test next) why (inr p) = fails_test (next p.0) why p.2
