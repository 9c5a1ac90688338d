-- A test of a need says what its words say, and so for needs in their order: proved once, for all commands.
use Rattle.std.proofs.Common.{◌≡◌, ◌≢◌, ◌↔◌, ◌⊎◌, ◌<◌, ◌≤◌, ◌==◌, ◌||◌, inl, inr, ℕ, Bool, true, false, not, if◌then◌else◌, nat_lt, nat_le, Option, Some, None, is_some, List, [], ◌∷◌, bytes_eq, length, slice_get, Ok, Err, refl, sym, ap, ◌∙◌}
use Rattle.std.specs.Option.{option_map_or}
use Rattle.std.specs.List.{All, list_all}
use Rattle.std.proofs.lemmas.Bool.{ltb-true, lt-ltb, leb-true, le-leb, eqb-true, eqb-false, eq-eqb, both_ways, not-true}
use Rattle.std.proofs.lemmas.List.{nil_from_length}
use Rattle.std.proofs.lemmas.List.Sums.{AllPass-from_list_all, list_all-from_AllPass}
use Rattle.std.proofs.lemmas.Option.{same_Some}
use Rattle.std.proofs.lemmas.Slice.Eq.{bytes_eq-Decides}
use Rattle.media_types.specs.declared.hash.Sha.{Sha}
use Rattle.media_types.specs.declared.numbers.DecisionNo.{DecisionNo}
use Rattle.media_types.specs.declared.numbers.FileNo.{FileNo}
use Rattle.media_types.specs.declared.numbers.ServiceNo.{ServiceNo}
use Rattle.media_base.specs.declared.refusal.Unmet.{Unmet}
use Rattle.file_records.specs.Lookup.{file_with}
use Rattle.decision_book.specs.declared.decision_row.DecisionRow.{DecisionRow}
use Rattle.file_records.specs.LookupLaws.{not_found}
use Rattle.library_machine.specs.Guards.{guarded, IsFirstUnmet, AreMet}
use Rattle.media_base.specs.declared.change.TagPair.{TagPair}
use Rattle.parent_closure.specs.Kept.{stands_in}
use Rattle.tag_store.specs.Numbering.{number_of}
use Rattle.tag_store.specs.NumberingLaws.{numbered_there}
use Rattle.library_machine.specs.Needs.{Need, file_there, files_there, two_files, decision_there, not_undone, room_for_file, room_for_near, room_for_decision, service_there, services_there, tag_there, room_for_tag, room_for_mapping, room_for_service, no_good_yet, pair_stands, room_for_tags, few_implied, room_for_sibling, no_parent_yet, parent_stands, room_for_parent, has_file, has_service, is_met, Met}
use Rattle.library_machine.specs.Records.{Records, IsThere, IsNew, IsRecorded, IsService}
use Rattle.library_machine.specs.Relating.{IsParent, good_number, text_of}
use Rattle.library_machine.specs.Searches.{is_empty, risen}

-- the test passes exactly where it is so
abbrev pub Says : Bool → Type 0 → Type 0
Says test P = (test ≡ true) ↔ P

less : (a b : ℕ) → Says (nat_lt a b) (a < b)
less a b = (ltb-true a b, lt-ltb a b)

at_most : (a b : ℕ) → Says (nat_le a b) (a ≤ b)
at_most a b = (leb-true a b, le-leb a b)

either : (first second : Bool) {P Q : Type 0} → Says first P → Says second Q → Says (first || second) (P ⊎ Q)
either true second p q = (λ e. inl (p.0 refl), λ one. refl)
either false second p q = (λ e. inr (q.0 e), λ one. elim one [ inl x ↦ absurd (both_ways _ refl (p.1 x)) | inr y ↦ q.1 y ])

pub one_file : (a b : FileNo) → a.0 ≡ b.0 → a ≡ b
one_file a b e = ap (λ (n : ℕ). record { 0 = n }) e

differ_by : (a b : FileNo) (same : Bool) → (a.0 == b.0) ≡ same → Says (not same) (a ≢ b)
differ_by a b true is = (λ e. absurd (cc e), λ other. absurd (other (one_file a b (eqb-true _ _ is))))
differ_by a b false is = (λ e same. eqb-false _ _ is (ap (λ (f : FileNo). f.0) same), λ other. refl)

all_there : (r : Records) (fs : List FileNo) → Says (list_all (has_file r) fs) (All (IsThere r) fs)
all_there r fs = (
  λ e k d lt. ltb-true _ _ (AllPass-from_list_all (has_file r) fs e k d lt),
  λ there. list_all-from_AllPass (has_file r) fs (λ k d lt. lt-ltb _ _ (there k d lt)),
)

stands_by : (r : Records) (n : DecisionNo) (found : Option DecisionRow) → slice_get r.decisions n.0 ≡ found →
    Says (option_map_or (λ row. not row.undone) found false) (IsRecorded r n false)
stands_by r n None is = (λ e. absurd (cc e), λ there. absurd (cc (there.1, is)))
stands_by r n (Some row) is = (
  λ e. (row, is, not-true _ e),
  λ there.
      let same = same_Some _ _ (sym is ∙ there.1) in
      ap not (ap (λ (one : DecisionRow). one.undone) same ∙ there.2),
)

known_by : (r : Records) (sha : Sha) (found : Option ℕ) → file_with sha r.files ≡ found → Says (is_some found) (¬ IsNew r sha)
known_by r sha None is = (λ e. absurd (cc e), λ known. absurd (known ((not_found sha r.files).0 is)))
known_by r sha (Some at) is = (λ e new. let none = (not_found sha r.files).1 new in absurd (cc (none, is)), λ known. refl)

pub none_there : (fs : List FileNo) → Says (is_empty fs) (fs ≡ [])
none_there fs = (λ e. nil_from_length fs (eqb-true _ _ e), λ e. eq-eqb _ _ (ap length e))

all_services : (r : Records) (services : List ServiceNo) → Says (list_all (has_service r) services) (All (IsService r) services)
all_services r services = (
  λ e k d lt. ltb-true _ _ (AllPass-from_list_all (has_service r) services e k d lt),
  λ there. list_all-from_AllPass (has_service r) services (λ k d lt. lt-ltb _ _ (there k d lt)),
)

some_there : {A : Type 0} (found : Option A) → Says (is_some found) (found ≢ None)
some_there None = (λ e. absurd (cc e), λ some. absurd (some refl))
some_there (Some x) = (λ e none. cc none, λ some. refl)

none_there_yet : {A : Type 0} (found : Option A) → Says (not (is_some found)) (found ≡ None)
none_there_yet None = (λ e. refl, λ none. refl)
none_there_yet (Some x) = (λ e. absurd (cc e), λ none. absurd (cc none))

stands_if : (r : Records) (second : List ℕ) (found : Option ℕ) →
    Says (option_map_or (λ good. bytes_eq (text_of r good) second) found false) ((good : ℕ) × (found ≡ Some good) × (text_of r good ≡ second))
stands_if r second None = (λ e. absurd (cc e), λ there. absurd (cc there.1))
stands_if r second (Some good) = (
  λ e. (good, refl, (bytes_eq-Decides (text_of r good) second).0 e),
  λ there.
      let same : there.0 ≡ good = sym (same_Some _ _ there.1) in
      (bytes_eq-Decides (text_of r good) second).1 (sym (ap (text_of r) same) ∙ there.2),
)

parent_if : (r : Records) (pair : TagPair) (first second : Option ℕ) → number_of pair.first r.tags ≡ first → number_of pair.second r.tags ≡ second →
    Says (option_map_or (λ child. option_map_or (λ parent. stands_in r.parents pair.service.0 child parent) second false) first false) (IsParent r pair)
parent_if r pair None second none is = (λ e. absurd (cc e), λ there. absurd (cc (none, there.2)))
parent_if r pair (Some child) None is none = (λ e. absurd (cc e), λ there. absurd (cc (none, there.3)))
parent_if r pair (Some child) (Some parent) is also = (
  λ e. (child, parent, is, also, e),
  λ there.
      let child_same : child ≡ there.0 = same_Some _ _ (sym is ∙ there.2) in
      let parent_same : parent ≡ there.1 = same_Some _ _ (sym also ∙ there.3) in
      ap (λ (c : ℕ). stands_in r.parents pair.service.0 c parent) child_same ∙ ap (stands_in r.parents pair.service.0 there.0) parent_same ∙ there.4,
)

-- what says that something is so says by its contrary that it isn't
fails : (test : Bool) {P : Type 0} → Says test P → Says (not test) (¬ P)
fails true says = (λ e. absurd (cc e), λ none. absurd (none (says.0 refl)))
fails false says = (λ e p. both_ways _ refl (says.1 p), λ none. refl)

-- one line for each kind of need
pub means : (r : Records) (need : Need) → Says (is_met r need) (Met r need)
means r (file_there f) = less _ _
means r (files_there fs) = all_there r fs
means r (two_files d) = differ_by d.a d.b _ refl
means r (decision_there n) = less _ _
means r (not_undone n) = stands_by r n _ refl
means r (room_for_file sha) = either _ _ (known_by r sha _ refl) (less _ _)
means r (room_for_near s) = either _ _ (none_there (risen r s)) (at_most _ _)
means r room_for_decision = less _ _
means r (service_there service) = less _ _
means r (services_there services) = all_services r services
means r (tag_there text) = numbered_there text r.tags
means r (room_for_tag text) = either _ _ (numbered_there text r.tags) (less _ _)
means r (room_for_mapping m) = either _ _ (some_there _) (less _ _)
means r room_for_service = less _ _
means r (no_good_yet service text) = none_there_yet _
means r (pair_stands pair) = stands_if r pair.second (good_number r pair.service pair.first)
means r (room_for_tags first second) = at_most _ _
means r (few_implied change) = none_there_yet _
means r room_for_sibling = less _ _
means r (no_parent_yet pair) = fails _ (parent_if r pair _ _ refl refl)
means r (parent_stands pair) = parent_if r pair _ _ refl refl
means r room_for_parent = less _ _

-- ---- needs in order

module _ {N A : Type 0} (is_met : N → Bool) (Met : N → Type 0) (unmet : N → Unmet) (tests : (need : N) → Says (is_met need) (Met need)) where
  first_by : (need : N) (needs : List N) (done : A) (why : Unmet) (test : Bool) → is_met need ≡ test →
      (guarded is_met unmet needs done ≡ Err why) ↔ IsFirstUnmet Met unmet needs why →
      ((if test then guarded is_met unmet needs done else Err (unmet need)) ≡ Err why) ↔ IsFirstUnmet Met unmet (need ∷ needs) why
  first_by need needs done why true is later = (
    λ e. inr ((tests need).0 is, later.0 e),
    λ p. elim p [ inl q ↦ absurd (q.0 ((tests need).0 is)) | inr q ↦ later.1 q.1 ],
  )
  first_by need needs done why false is later = (
    λ e. inl (λ met. both_ways _ is ((tests need).1 met), cc e),
    λ p. elim p [ inl q ↦ ap Err q.1 | inr q ↦ absurd (both_ways _ is ((tests need).1 q.0)) ],
  )

  -- what is refused is refused exactly for the first need that isn't met
  pub first_refuses : (needs : List N) (done : A) (why : Unmet) →
      (guarded is_met unmet needs done ≡ Err why) ↔ IsFirstUnmet Met unmet needs why
  first_refuses [] done why = (λ e. absurd (cc e), λ none. absurd none)
  first_refuses (need ∷ needs) done why = first_by need needs done why _ refl (first_refuses needs done why)

  met_by : (need : N) (needs : List N) (done given : A) (test : Bool) → is_met need ≡ test →
      ((guarded is_met unmet needs done ≡ Ok given) ↔ (AreMet Met needs × (done ≡ given))) →
      ((if test then guarded is_met unmet needs done else Err (unmet need)) ≡ Ok given) ↔ (AreMet Met (need ∷ needs) × (done ≡ given))
  met_by need needs done given true is later = (
    λ e. let p = later.0 e in (((tests need).0 is, p.0), p.1),
    λ p. later.1 (p.0.1, p.1),
  )
  met_by need needs done given false is later = (
    λ e. absurd (cc e),
    λ p. absurd (both_ways _ is ((tests need).1 p.0.0)),
  )

  -- and is done exactly where all are met
  pub all_met : (needs : List N) (done given : A) →
      (guarded is_met unmet needs done ≡ Ok given) ↔ (AreMet Met needs × (done ≡ given))
  all_met [] done given = (λ e. (tt, cc e), λ p. ap Ok p.1)
  all_met (need ∷ needs) done given = met_by need needs done given _ refl (all_met needs done given)
