-- The look-up of a file by its SHA-256, in the index of the rows.
use Rattle.std.proofs.Common.{◌≡◌, ◌≤◌, ◌<◌, ◌+◌, ℕ, Bool, true, false, cond, not, Option, Some, List, [], ◌∷◌, ◌++◌, length, map, slice_get, length-append, Contains, if◌then◌else◌, refl, ap, sym, ◌∙◌, arith}
use Rattle.std.specs.Bool.{Decides}
use Rattle.std.specs.List.{position, position_or_len, list_any}
use Rattle.std.specs.Option.{option_map}
use Rattle.std.specs.Str.{bytes_eq}
use Rattle.std.proofs.lemmas.Bool.Decides.{same_from_decides}
use Rattle.std.proofs.lemmas.List.{length-map, map-append, get_or-map}
use Rattle.std.proofs.lemmas.List.Elements.{All-nil, All-push}
use Rattle.std.proofs.lemmas.List.Quantifiers.{position-Some}
use Rattle.std.proofs.lemmas.Option.{slice_get-get_or}
use Rattle.std.proofs.lemmas.Slice.Eq.{bytes_eq-Decides}
use Rattle.indexmap.specs.IndexSet.{insert_key}
use Rattle.indexmap.proofs.CallerLemmas.{Contains-list_any}
use Rattle.media_types.specs.declared.hash.Sha.{Sha}
use Rattle.media_types.specs.declared.limits.TheConstants.{MAX_FILES, MAX_HASHES}
use Rattle.media_types.specs.contracts.hash.ShaPartialEq.TheImpl.{eq-value}
use Rattle.file_records.specs.declared.file_row.FileRow.{FileRow}
use Rattle.file_records.specs.Indexing.{IsSound}
use Rattle.file_records.specs.Lookup.{file_with, IsUnknown}
use Rattle.file_records.specs.LookupLaws.{distinct_with, has_sha, same_sha}

-- the SHA-256 of each file, in order
abbrev pub shas_of : List FileRow → List Sha
shas_of files = map (λ file. file.sha) files

sha_decides : (a b : Sha) → Decides (eq-value.it a b) (a ≡ b)
sha_decides a b = (same_sha a b, λ same. (bytes_eq-Decides a.0 b.0).1 (ap (λ (s : Sha). s.0) same))

turned_decides : (a b : Sha) → Decides (bytes_eq b.0 a.0) (a ≡ b)
turned_decides a b = (
  λ e. sym (same_sha b a e),
  λ same. (bytes_eq-Decides b.0 a.0).1 (ap (λ (s : Sha). s.0) (sym same)),
)

turned : (a b : Sha) → eq-value.it a b ≡ bytes_eq b.0 a.0
turned a b = same_from_decides _ _ (sha_decides a b) (turned_decides a b)

-- ---- the place in the index is the place in the rows
first_by_key : (p : Sha → Bool) (files : List FileRow) → position_or_len p (shas_of files) ≡ position_or_len (λ file. p file.sha) files
first_by_key p [] = refl
first_by_key p (file ∷ files) = ap (λ n. cond (not (p file.sha)) (1 + n) 0) (first_by_key p files)

place_by_key : (p : Sha → Bool) (files : List FileRow) → position p (shas_of files) ≡ position (λ file. p file.sha) files
place_by_key p files = rw (first_by_key p files, length-map files (λ file. file.sha)) refl

place_in_index : (sha : Sha) (files : List FileRow) → position (eq-value.it sha) (shas_of files) ≡ file_with sha files
place_in_index sha files =
    place_by_key (eq-value.it sha) files ∙ ap (λ (t : FileRow → Bool). position t files) (λ j file. turned sha file.sha j)

-- what a look-up in the index answers, where the rows are those that a caller sees
pub place_seen : (sha : Sha) (keys : List Sha) (rows seen : List FileRow) (found : Option ℕ) →
    keys ≡ shas_of rows → rows ≡ seen → found ≡ position (eq-value.it sha) keys → found ≡ file_with sha seen
place_seen sha keys rows seen found indexed same e =
    e ∙ ap (position (eq-value.it sha)) indexed ∙ place_in_index sha rows ∙ ap (file_with sha) same

-- what is found has the SHA-256
pub found_has_sha : (sha : Sha) (files : List FileRow) (at : ℕ) → file_with sha files ≡ Some at → option_map (λ file. file.sha) (slice_get files at) ≡ Some sha
found_has_sha sha [] at e = absurd (cc)
found_has_sha sha (first ∷ files) at e =
    let all = first ∷ files in
    let here = position-Some (has_sha sha) all at first e in
    ap (option_map (λ file. file.sha)) (slice_get-get_or all at first here.0) ∙ ap Some (same_sha _ _ here.1)

-- ---- a new file goes last, in the rows and in the index
no_key : (sha : Sha) (files : List FileRow) → IsUnknown sha files → ¬ (Contains (shas_of files) sha)
no_key sha [] unknown there = omega (arith, there.1)
no_key sha (first ∷ rest) unknown there =
    let files = first ∷ rest in
    let lt : there.0 < length files = omega (arith, there.1, length-map files (λ file. file.sha)) in
    unknown there.0 first lt (sym (get_or-map (λ (file : FileRow). file.sha) files there.0 first sha lt) ∙ there.2)

index_with : (file : FileRow) (files : List FileRow) → IsUnknown file.sha files → insert_key eq-value.it (shas_of files) file.sha ≡ shas_of (files ++ file ∷ [])
index_with file files unknown = by (list_any (eq-value.it file.sha) (shas_of files)) refl
  where
    by : (b : Bool) → list_any (eq-value.it file.sha) (shas_of files) ≡ b → insert_key eq-value.it (shas_of files) file.sha ≡ shas_of (files ++ file ∷ [])
    by true e = absurd (no_key file.sha files unknown (Contains-list_any eq-value.it (λ x y. (sha_decides x y).0) (shas_of files) file.sha e))
    by false e = ap (λ b. if b then shas_of files else shas_of files ++ file.sha ∷ []) e ∙ sym (map-append (λ f. f.sha) files (file ∷ []))

pub index_of_pushed : (keys after : List Sha) (files : List FileRow) (file : FileRow) →
    IsSound keys files → IsUnknown file.sha files → length files < MAX_FILES → length file.hashes ≤ MAX_HASHES →
    after ≡ insert_key eq-value.it keys file.sha → IsSound after (files ++ file ∷ [])
index_of_pushed keys after files file index unknown few few_hashes inserted = record {
  in_order = inserted ∙ ap (λ ks. insert_key eq-value.it ks file.sha) index.in_order ∙ index_with file files unknown;
  distinct = distinct_with file files index.distinct unknown;
  few = rw length-append (omega arith);
  few_hashes = All-push (λ f. length f.hashes ≤ MAX_HASHES) files file index.few_hashes few_hashes;
}

pub index_of_none : IsSound [] []
index_of_none = record {
  in_order = refl;
  distinct = λ i j d before within same. omega arith;
  few = omega arith;
  few_hashes = All-nil (λ f. length f.hashes ≤ MAX_HASHES);
}
