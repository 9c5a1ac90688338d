-- Each form of field is read as what it says.
use Rattle.std.proofs.Common.{◌≡◌, ℕ, ◌^◌, ◌==◌, ◌<◌, ◌⊎◌, inl, inr, Bool, true, false, cond, List, [], ◌∷◌, codes, map, Option, Some, None, option_map, option_and_then, refl, sym, ap, subst, ◌∙◌, arith}
use Rattle.std.specs.Prelude.{All}
use Rattle.std.specs.Option.{is_none}
use Rattle.std.specs.Str.{bytes_eq}
use Rattle.std.proofs.lemmas.Bool.{and_parts, eqb-true}
use Rattle.std.proofs.lemmas.Bool.Decides.{nat_tests}
use Rattle.std.proofs.lemmas.Slice.Eq.{bytes_eq-Decides}
use Rattle.std.proofs.lemmas.List.Elements.{All-nil, All-cons, All-head, All-tail}
use Rattle.serde_json.specs.Data.{Data, null, boolean, number, string, array, object, Items, no_items, item, Num, unsigned, negative, float}
use Rattle.serde_json.specs.Find.{as_str, as_number, as_u64, as_array}
use Rattle.serde_json.specs.View.{items_of}
use Rattle.media_types.specs.declared.decision.Code.TheVariants as codes_of
use Rattle.media_types.specs.declared.numbers.FileNo.{FileNo}
use Rattle.media_types.specs.declared.numbers.ServiceNo.{ServiceNo}
use Rattle.tag_types.specs.declared.map_state.MapState.{MapState}
use Rattle.tag_types.specs.declared.map_state.MapState.TheVariants as states
use Rattle.media_base.specs.declared.refusal.FieldName.{FieldName}
use Rattle.media_base.specs.declared.refusal.Refusal.TheVariants as refusals
use Rattle.command_text.specs.declared.asked_code.AskedCode.{AskedCode}
use Rattle.command_text.specs.declared.asked_code.AskedCode.TheVariants as asked_codes
use Rattle.command_text.specs.Forms.{field_of, text_of, number_of, list_of, each_of, below, texts_of, texts_if_any, number_in, file_in, files_of, service_in, is_order, as_order, order_of, asked_code, state_of, lacks_both, Form, a_text, a_number, a_file, texts_or_none, some_files, a_code, a_service, an_order, a_state, a_file_beside, Said, says, said_at}
use Rattle.command_text.specs.Spelling.{HasField, HasText, HasNumber, HasFiles, HasOrder, code_number, state_text, HasFileBeside, Has, HasForm}
use Rattle.command_text.proofs.OrderLaws.{is_order-true, is_order-of}
use Rattle.command_text.proofs.Steps.{Tells, tells_formed}

-- ---- options

pub some_same : {A : Type 0} (a b : A) → Some a ≡ Some b → a ≡ b
some_same a b e = cc e

pub then_some : {A B : Type 0} (f : A → Option B) (o : Option A) (y : B) → option_and_then f o ≡ Some y → (x : A) × (o ≡ Some x) × (f x ≡ Some y)
then_some f None y e = cc e
then_some f (Some x) y e = (x, refl, e)

map_some : {A B : Type 0} (f : A → B) (o : Option A) (y : B) → option_map f o ≡ Some y → (x : A) × (o ≡ Some x) × (f x ≡ y)
map_some f None y e = cc e
map_some f (Some x) y e = (x, refl, some_same (f x) y e)

-- ---- values

as_str-some : (value : Data) (text : List ℕ) → as_str value ≡ Some text → value ≡ string text
as_str-some null text e = cc e
as_str-some (boolean b) text e = cc e
as_str-some (number n) text e = cc e
as_str-some (string s) text e = ap string (some_same s text e)
as_str-some (array ds) text e = cc e
as_str-some (object ms) text e = cc e

as_number-some : (value : Data) (n : Num) → as_number value ≡ Some n → value ≡ number n
as_number-some null n e = cc e
as_number-some (boolean b) n e = cc e
as_number-some (number m) n e = ap number (some_same m n e)
as_number-some (string s) n e = cc e
as_number-some (array ds) n e = cc e
as_number-some (object ms) n e = cc e

as_u64-some : (found : Num) (n : ℕ) → as_u64 found ≡ Some n → found ≡ unsigned n
as_u64-some (unsigned m) n e = ap unsigned (some_same m n e)
as_u64-some (negative z) n e = cc e
as_u64-some (float x) n e = cc e

as_array-some : (value : Data) (items : Items) → as_array value ≡ Some items → value ≡ array items
as_array-some null items e = cc e
as_array-some (boolean b) items e = cc e
as_array-some (number n) items e = cc e
as_array-some (string s) items e = cc e
as_array-some (array ds) items e = ap array (some_same ds items e)
as_array-some (object ms) items e = cc e

below-some : (limit n m : ℕ) → below limit n ≡ Some m → (n ≡ m) × (n < limit)
below-some limit n m e = grind (arith, nat_tests)

below-fits : (limit n : ℕ) → n < limit → below limit n ≡ Some n
below-fits limit n fits = grind (arith, nat_tests)

-- ---- texts

pub text_of-some : (name : FieldName) (value : Data) (text : List ℕ) → text_of name value ≡ Some text → HasText value name text
text_of-some name value text e =
    let p = then_some as_str (field_of name value) text e in
    p.1 ∙ ap Some (as_str-some p.0 text p.2)

pub text_of-has : (name : FieldName) (value : Data) (text : List ℕ) → HasText value name text → text_of name value ≡ Some text
text_of-has name value text has = ap (λ (field : Option Data). option_and_then as_str field) has

-- ---- whole numbers

pub number_of-some : (name : FieldName) (value : Data) (n : ℕ) → number_of name value ≡ Some n → HasField value name (number (unsigned n))
number_of-some name value n e =
    let p = then_some as_u64 (option_and_then as_number (field_of name value)) n e in
    let q = then_some as_number (field_of name value) p.0 p.1 in
    q.1 ∙ ap Some (as_number-some q.0 p.0 q.2 ∙ ap number (as_u64-some p.0 n p.2))

pub number_of-has : (name : FieldName) (value : Data) (n : ℕ) → HasField value name (number (unsigned n)) → number_of name value ≡ Some n
number_of-has name value n has = ap (λ (field : Option Data). option_and_then as_u64 (option_and_then as_number field)) has

number_below : (name : FieldName) (limit : ℕ) (value : Data) (n : ℕ) → option_and_then (below limit) (number_of name value) ≡ Some n → HasNumber value name limit n
number_below name limit value n e =
    let p = then_some (below limit) (number_of name value) n e in
    let fits = below-some limit p.0 n p.2 in
    record {
      is = number_of-some name value p.0 p.1 ∙ ap (λ (m : ℕ). Some (number (unsigned m))) fits.0;
      fits = subst (λ (m : ℕ). m < limit) fits.0 fits.1;
    }

number_below-has : (name : FieldName) (limit : ℕ) (value : Data) (n : ℕ) → HasNumber value name limit n → option_and_then (below limit) (number_of name value) ≡ Some n
number_below-has name limit value n has =
    ap (option_and_then (below limit)) (number_of-has name value n has.is) ∙ below-fits limit n has.fits

-- a whole number below the limit, which is this one
number_like : (limit : ℕ) (value : Data) (n m : ℕ) → number_in limit value ≡ Some n → n ≡ m → (value ≡ number (unsigned m)) × (m < limit)
number_like limit value n m e same =
    let p = then_some (below limit) (option_and_then as_u64 (as_number value)) n e in
    let q = then_some as_u64 (as_number value) p.0 p.1 in
    let fits = below-some limit p.0 n p.2 in (
      as_number-some value q.0 q.1 ∙ ap number (as_u64-some q.0 p.0 q.2) ∙ ap (λ (n : ℕ). number (unsigned n)) (fits.0 ∙ same),
      subst (λ (n : ℕ). n < limit) (fits.0 ∙ same) fits.1,
    )

-- ---- lists

module _ {A : Type 0} (says : Data → Option A) (spelled : A → Data) (Fits : A → Type 0) (there : (value : Data) (x : A) → says value ≡ Some x → (value ≡ spelled x) × Fits x) where
  -- items that say something are what spells it
  each_of-some : (items : Items) (xs : List A) → each_of says items ≡ Some xs → (items ≡ items_of (map spelled xs)) × All Fits xs
  each_of-some no_items xs e =
      let none : [] ≡ xs = some_same [] xs e in
      subst (λ (xs : List A). (no_items ≡ items_of (map spelled xs)) × All Fits xs) none (refl, All-nil Fits)
  each_of-some (item value values) xs e =
      let p = then_some (λ first. option_map (λ others. first ∷ others) (each_of says values)) (says value) xs e in
      let q = map_some (λ others. p.0 ∷ others) (each_of says values) xs p.2 in
      let first = there value p.0 p.1 in
      let others = each_of-some values q.0 q.1 in
      subst (λ (xs : List A). (item value values ≡ items_of (map spelled xs)) × All Fits xs) q.2
      (ap (λ (value : Data). item value values) first.0 ∙ ap (item (spelled p.0)) others.0, All-cons Fits p.0 q.0 first.1 others.1)

-- what spells a list says it
each_of-spelled : {A : Type 0} (says : Data → Option A) (spelled : A → Data) (Fits : A → Type 0) (back : (x : A) → Fits x → says (spelled x) ≡ Some x)
    (xs : List A) → All Fits xs → each_of says (items_of (map spelled xs)) ≡ Some xs
each_of-spelled says spelled Fits back [] fit = refl
each_of-spelled says spelled Fits back (x ∷ xs) fit =
    ap (λ (first : Option _). option_and_then (λ first. option_map (λ others. first ∷ others) (each_of says (items_of (map spelled xs)))) first) (back x (All-head Fits x xs fit))
    ∙ ap (option_map (λ others. x ∷ others)) (each_of-spelled says spelled Fits back xs (All-tail Fits x xs fit))

-- ---- files

abbrev file_data : FileNo → Data
file_data file = number (unsigned file.0)

abbrev FileFits : FileNo → Type 0
FileFits file = file.0 < 2 ^ 32

file_in-some : (value : Data) (file : FileNo) → file_in value ≡ Some file → (value ≡ file_data file) × FileFits file
file_in-some value file e =
    let p = map_some (λ n. record { 0 = n }) (number_in (2 ^ 32) value) file e in
    number_like (2 ^ 32) value p.0 file.0 p.1 (ap (λ (file : FileNo). file.0) p.2)

file_in-spelled : (file : FileNo) → FileFits file → file_in (file_data file) ≡ Some file
file_in-spelled file fits = ap (option_map (λ n. record { 0 = n })) (below-fits (2 ^ 32) file.0 fits)

file-some : (value : Data) (name : FieldName) (file : FileNo) → option_and_then file_in (field_of name value) ≡ Some file → HasNumber value name (2 ^ 32) file.0
file-some value name file e =
    let p = then_some file_in (field_of name value) file e in
    let spelled = file_in-some p.0 file p.2 in
    record { is = p.1 ∙ ap Some spelled.0; fits = spelled.1 }

file-has : (value : Data) (name : FieldName) (file : FileNo) → HasNumber value name (2 ^ 32) file.0 → option_and_then file_in (field_of name value) ≡ Some file
file-has value name file has = ap (option_and_then file_in) has.is ∙ file_in-spelled file has.fits

files_in-some : (name : FieldName) (value : Data) (files : List FileNo) → option_and_then files_of (list_of name value) ≡ Some files → HasFiles value name files
files_in-some name value files e =
    let p = then_some files_of (list_of name value) files e in
    let q = then_some as_array (field_of name value) p.0 p.1 in
    let spelled = each_of-some file_in file_data FileFits file_in-some p.0 files p.2 in
    record { is = q.1 ∙ ap Some (as_array-some q.0 p.0 q.2 ∙ ap array spelled.0); fit = spelled.1 }

files_in-has : (name : FieldName) (value : Data) (files : List FileNo) → HasFiles value name files → option_and_then files_of (list_of name value) ≡ Some files
files_in-has name value files has =
    ap (λ (field : Option Data). option_and_then files_of (option_and_then as_array field)) has.is
    ∙ each_of-spelled file_in file_data FileFits file_in-spelled files has.fit

-- ---- services

abbrev service_data : ServiceNo → Data
service_data service = number (unsigned service.0)

abbrev ServiceFits : ServiceNo → Type 0
ServiceFits service = service.0 < 2 ^ 8

service_in-some : (value : Data) (service : ServiceNo) → service_in value ≡ Some service → (value ≡ service_data service) × ServiceFits service
service_in-some value service e =
    let p = map_some (λ n. record { 0 = n }) (number_in (2 ^ 8) value) service e in
    number_like (2 ^ 8) value p.0 service.0 p.1 (ap (λ (service : ServiceNo). service.0) p.2)

service_in-spelled : (service : ServiceNo) → ServiceFits service → service_in (service_data service) ≡ Some service
service_in-spelled service fits = ap (option_map (λ n. record { 0 = n })) (below-fits (2 ^ 8) service.0 fits)

service-some : (value : Data) (name : FieldName) (service : ServiceNo) → option_and_then service_in (field_of name value) ≡ Some service → HasNumber value name (2 ^ 8) service.0
service-some value name service e =
    let p = then_some service_in (field_of name value) service e in
    let spelled = service_in-some p.0 service p.2 in
    record { is = p.1 ∙ ap Some spelled.0; fits = spelled.1 }

service-has : (value : Data) (name : FieldName) (service : ServiceNo) → HasNumber value name (2 ^ 8) service.0 → option_and_then service_in (field_of name value) ≡ Some service
service-has value name service has = ap (option_and_then service_in) has.is ∙ service_in-spelled service has.fits

-- the list, where it is an order
as_order-some : (test : Bool) (services order : List ServiceNo) → cond test (Some services) None ≡ Some order → (test ≡ true) × (services ≡ order)
as_order-some true services order e = (refl, some_same services order e)
as_order-some false services order e = cc e

order-some : (name : FieldName) (value : Data) (order : List ServiceNo) → option_and_then order_of (list_of name value) ≡ Some order → HasOrder value name order
order-some name value order e =
    let p = then_some order_of (list_of name value) order e in
    let q = then_some as_array (field_of name value) p.0 p.1 in
    let r = then_some as_order (each_of service_in p.0) order p.2 in
    let made = as_order-some (is_order r.0) r.0 order r.2 in
    let spelled = each_of-some service_in service_data ServiceFits service_in-some p.0 order (r.1 ∙ ap Some made.1) in
    let parts = is_order-true order (ap is_order (sym made.1) ∙ made.0) in
    record { is = q.1 ∙ ap Some (as_array-some q.0 p.0 q.2 ∙ ap array spelled.0); fit = spelled.1; few = parts.0; distinct = parts.1 }

order-has : (name : FieldName) (value : Data) (order : List ServiceNo) → HasOrder value name order → option_and_then order_of (list_of name value) ≡ Some order
order-has name value order has =
    ap (λ (field : Option Data). option_and_then order_of (option_and_then as_array field)) has.is
    ∙ ap (option_and_then as_order) (each_of-spelled service_in service_data ServiceFits service_in-spelled order has.fit)
    ∙ ap (λ (test : Bool). cond test (Some order) None) (is_order-of order has.few has.distinct)

-- ---- states

chosen_state : (first second third : Bool) (state : MapState) → cond first (Some states.Current) (cond second (Some states.Pending) (cond third (Some states.Deleted) None)) ≡ Some state
    → ((first ≡ true) × (state ≡ states.Current)) ⊎ (((second ≡ true) × (state ≡ states.Pending)) ⊎ ((third ≡ true) × (state ≡ states.Deleted)))
chosen_state true second third state h = inl (refl, cc h)
chosen_state false true third state h = inr (inl (refl, cc h))
chosen_state false false true state h = inr (inr (refl, cc h))
chosen_state false false false state h = cc h

state_of-text : (text : List ℕ) (state : MapState) → state_of text ≡ Some state → text ≡ state_text state
state_of-text text state h =
    elim (chosen_state (bytes_eq text (codes "current")) (bytes_eq text (codes "pending")) (bytes_eq text (codes "deleted")) state h) [
      | inl p ↦ (bytes_eq-Decides text (codes "current")).0 p.0 ∙ ap state_text (sym p.1)
      | inr (inl p) ↦ (bytes_eq-Decides text (codes "pending")).0 p.0 ∙ ap state_text (sym p.1)
      | inr (inr p) ↦ (bytes_eq-Decides text (codes "deleted")).0 p.0 ∙ ap state_text (sym p.1)
    ]

state_text-of : (state : MapState) → state_of (state_text state) ≡ Some state
state_text-of states.Current = refl
state_text-of state = refl

state-some : (value : Data) (name : FieldName) (state : MapState) → option_and_then state_of (text_of name value) ≡ Some state → Has value name a_state state
state-some value name state e =
    let p = then_some state_of (text_of name value) state e in
    subst (HasText value name) (state_of-text p.0 state p.2) (text_of-some name value p.0 p.1)

-- ---- a list of texts that may be missing

abbrev AnyText : List ℕ → Type 0
AnyText text = Unit {0}

texts_of-some : (items : Items) (texts : List (List ℕ)) → texts_of items ≡ Some texts → items ≡ items_of (map string texts)
texts_of-some items texts e =
    (each_of-some as_str string AnyText (λ value text is. (as_str-some value text is, tt)) items texts e).0

texts_of-spelled : (texts : List (List ℕ)) → texts_of (items_of (map string texts)) ≡ Some texts
texts_of-spelled texts = each_of-spelled as_str string AnyText (λ text any. refl) texts (λ k d within. tt)

texts-some : (value : Data) (name : FieldName) (field : Option Data) (texts : List (List ℕ)) → field_of name value ≡ field → texts_if_any field ≡ Some texts → Has value name texts_or_none texts
texts-some value name None texts is e = inr (is, sym (some_same [] texts e))
texts-some value name (Some inner) texts is e =
    let p = then_some texts_of (as_array inner) texts e in
    inl (is ∙ ap Some (as_array-some inner p.0 p.1 ∙ ap array (texts_of-some p.0 texts p.2)))

texts-has : (value : Data) (name : FieldName) (texts : List (List ℕ)) → Has value name texts_or_none texts → texts_if_any (field_of name value) ≡ Some texts
texts-has value name texts (inl has) = ap texts_if_any has ∙ texts_of-spelled texts
texts-has value name texts (inr none) = ap texts_if_any none.0 ∙ ap Some (sym none.1)

-- ---- codes

chosen_code : (first second third fourth last : Bool) (a b c d e asked : AskedCode)
    → cond first (Some a) (cond second (Some b) (cond third (Some c) (cond fourth (Some d) (cond last (Some e) None)))) ≡ Some asked
    → ((first ≡ true) × (asked ≡ a)) ⊎ (((second ≡ true) × (asked ≡ b)) ⊎ (((third ≡ true) × (asked ≡ c)) ⊎ (((fourth ≡ true) × (asked ≡ d)) ⊎ ((last ≡ true) × (asked ≡ e)))))
chosen_code true second third fourth last a b c d e asked h = inl (refl, cc h)
chosen_code false true third fourth last a b c d e asked h = inr (inl (refl, cc h))
chosen_code false false true fourth last a b c d e asked h = inr (inr (inl (refl, cc h)))
chosen_code false false false true last a b c d e asked h = inr (inr (inr (inl (refl, cc h))))
chosen_code false false false false true a b c d e asked h = inr (inr (inr (inr (refl, cc h))))
chosen_code false false false false false a b c d e asked h = cc h

asked_code-number : (n : ℕ) (asked : AskedCode) → asked_code n ≡ Some asked → n ≡ code_number asked
asked_code-number n asked h =
    elim (chosen_code (n == 1) (n == 2) (n == 3) (n == 4) (n == 7) _ _ _ _ _ asked h) [
      | inl p ↦ eqb-true n 1 p.0 ∙ ap code_number (sym p.1)
      | inr (inl p) ↦ eqb-true n 2 p.0 ∙ ap code_number (sym p.1)
      | inr (inr (inl p)) ↦ eqb-true n 3 p.0 ∙ ap code_number (sym p.1)
      | inr (inr (inr (inl p))) ↦ eqb-true n 4 p.0 ∙ ap code_number (sym p.1)
      | inr (inr (inr (inr p))) ↦ eqb-true n 7 p.0 ∙ ap code_number (sym p.1)
    ]

code_number-asked : (asked : AskedCode) → asked_code (code_number asked) ≡ Some asked
code_number-asked asked_codes.Worse = refl
code_number-asked (asked_codes.As codes_of.NotRelated) = refl
code_number-asked (asked_codes.As _) = refl

code-some : (value : Data) (name : FieldName) (asked : AskedCode) → option_and_then asked_code (number_of name value) ≡ Some asked → Has value name a_code asked
code-some value name asked e =
    let p = then_some asked_code (number_of name value) asked e in
    number_of-some name value p.0 p.1 ∙ ap (λ (n : ℕ). Some (number (unsigned n))) (asked_code-number p.0 asked p.2)

-- ---- a file's number that may be missing

is_none-true : {A : Type 0} (found : Option A) → is_none found ≡ true → found ≡ None
is_none-true None e = refl
is_none-true (Some x) e = cc e

abbrev some_file : FieldName → Data → Option (Option FileNo)
some_file name value = option_map (λ file. Some file) (option_and_then file_in (field_of name value))

beside-some : (value : Data) (name other : FieldName) (lacks : Bool) (file : Option FileNo) → lacks_both name other value ≡ lacks
    → cond lacks (Some None) (some_file name value) ≡ Some file → HasFileBeside value name other file
beside-some value name other true file is e =
    let parts = and_parts (is_none (field_of name value)) (is_none (field_of other value)) is in
    subst (HasFileBeside value name other) (some_same None file e) (is_none-true (field_of name value) parts.0, is_none-true (field_of other value) parts.1)
beside-some value name other false file is e =
    let p = map_some (λ file. Some file) (option_and_then file_in (field_of name value)) file e in
    subst (HasFileBeside value name other) p.2 (file-some value name p.0 p.1)

none_lacks : (value : Data) (name other : FieldName) → HasFileBeside value name other None → lacks_both name other value ≡ true
none_lacks value name other none = rw (none.0, none.1) refl

some_lacks : (value : Data) (name other : FieldName) (inner : Data) → HasField value name inner → lacks_both name other value ≡ false
some_lacks value name other inner has = rw has refl

beside-has : (value : Data) (name other : FieldName) (file : Option FileNo) → HasFileBeside value name other file → says (a_file_beside other) name value ≡ Some file
beside-has value name other None none =
    ap (λ (lacks : Bool). cond lacks (Some None) (some_file name value)) (none_lacks value name other none)
beside-has value name other (Some file) has =
    ap (λ (lacks : Bool). cond lacks (Some None) (some_file name value)) (some_lacks value name other (number (unsigned file.0)) has.is)
    ∙ ap (option_map (λ file. Some file)) (file-has value name file has)

-- ---- all forms

says-some : (value : Data) (name : FieldName) (form : Form) (x : Said form) → says form name value ≡ Some x → Has value name form x
says-some value name a_text text e = text_of-some name value text e
says-some value name (a_number limit) n e = number_below name limit value n e
says-some value name a_file file e = file-some value name file e
says-some value name texts_or_none texts e = texts-some value name (field_of name value) texts refl e
says-some value name some_files files e = files_in-some name value files e
says-some value name a_code asked e = code-some value name asked e
says-some value name a_service service e = service-some value name service e
says-some value name an_order order e = order-some name value order e
says-some value name a_state state e = state-some value name state e
says-some value name (a_file_beside other) file e = beside-some value name other (lacks_both name other value) file refl e

says-has : (value : Data) (name : FieldName) (form : Form) (x : Said form) → Has value name form x → says form name value ≡ Some x
says-has value name a_text text has = text_of-has name value text has
says-has value name (a_number limit) n has = number_below-has name limit value n has
says-has value name a_file file has = file-has value name file has
says-has value name texts_or_none texts has = texts-has value name texts has
says-has value name some_files files has = files_in-has name value files has
says-has value name a_code asked has = ap (option_and_then asked_code) (number_of-has name value (code_number asked) has) ∙ code_number-asked asked
says-has value name a_service service has = service-has value name service has
says-has value name an_order order has = order-has name value order has
says-has value name a_state state has = ap (option_and_then state_of) (text_of-has name value (state_text state) has) ∙ state_text-of state
says-has value name (a_file_beside other) file has = beside-has value name other file has

pub tells_said : (value : Data) (name : FieldName) (form : Form) → Tells (said_at name form value) (refusals.NotARequest name) (¬ (HasForm value (name, form))) (Has value name form)
unfolding said_at
tells_said value name form = tells_formed name (says form name value) (Has value name form) (says-some value name form) (says-has value name form)
