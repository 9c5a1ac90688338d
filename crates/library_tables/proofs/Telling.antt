-- The tags of a file are told one after the other, each among those of its state.
use Rattle.std.proofs.Common.{◌≡◌, ◌<◌, ◌≤◌, ◌+◌, ℕ, Some, is_some, List, [], ◌∷◌, length, get_or, slice_get, slice_index_or, append_assoc, refl, sym, ap, subst, ◌∙◌, arith}
use Rattle.std.specs.Prelude.{All}
use Rattle.std.proofs.lemmas.List.{append-nil}
use Rattle.std.proofs.lemmas.List.Elements.{All-contains_itself, All-head, All-tail}
use Rattle.std.proofs.lemmas.Option.{get_or_from_slice_get}
use Rattle.media_types.specs.declared.numbers.FileNo.{FileNo}
use Rattle.media_types.specs.declared.numbers.ServiceNo.{ServiceNo}
use Rattle.media_types.specs.declared.numbers.TagNo.{TagNo}
use Rattle.media_base.specs.declared.reply.FileMappings.{FileMappings}
use Rattle.tag_types.specs.declared.map_state.MapState.{MapState}
use Rattle.tag_types.specs.declared.map_state.MapState.TheVariants as states
use Rattle.tag_store.specs.Mapped.{tags_of_file}
use Rattle.tag_store.specs.MappedLaws.{Contains-tags}
use Rattle.library_machine.specs.Records.{Records, Fits}
use Rattle.library_machine.specs.Tagging.{file_mappings, texts_with}
use Rattle.library_tables.specs.Counting.{mappings_reads}
use Rattle.library_tables.specs.Tables.{TablesView, records_of}
use Rattle.library_tables.specs.Tags.{told_then, with_text}

-- these tags are left to be told
pub record IsTelling (t : TablesView) (service : ServiceNo) (file : FileNo) (before now : ℕ) (said : FileMappings) (left : List (TagNo × MapState)) : Type 0 where
  pub told : told_then (records_of t) said left ≡ file_mappings (records_of t) service file
  pub there : All (λ tag. tag.0.0 < length t.tags.texts) left
  pub reads : now + length left + 1 ≤ before + mappings_reads (records_of t) service file

-- the next one is told
then_told : (r : Records) (told : FileMappings) (tag : TagNo) (state : MapState) (left : List (TagNo × MapState)) →
    told_then r (with_text told state (slice_index_or r.tags tag.0 [])) left ≡ told_then r told ((tag, state) ∷ left)
then_told r told tag states.Current left = ap (λ (texts : List (List ℕ)). record (told_then r told left) { current = texts }) (append_assoc told.current (slice_index_or r.tags tag.0 [] ∷ []) (texts_with r states.Current left))
then_told r told tag states.Pending left = ap (λ (texts : List (List ℕ)). record (told_then r told left) { pending = texts }) (append_assoc told.pending (slice_index_or r.tags tag.0 [] ∷ []) (texts_with r states.Pending left))
then_told r told tag states.Deleted left = ap (λ (texts : List (List ℕ)). record (told_then r told left) { deleted = texts }) (append_assoc told.deleted (slice_index_or r.tags tag.0 [] ∷ []) (texts_with r states.Deleted left))

-- all are told
all_told : (r : Records) (told : FileMappings) → told_then r told [] ≡ told
all_told r told = λ i. record {
  current = append-nil told.current i;
  pending = append-nil told.pending i;
  deleted = append-nil told.deleted i;
}

-- each tag of the file is there
tags_there : (r : Records) (service : ServiceNo) (file : FileNo) → Fits r → All (λ tag. tag.0.0 < length r.tags) (tags_of_file r.mappings service.0 file.0)
tags_there r service file fits = λ k d lt.
    let tags = tags_of_file r.mappings service.0 file.0 in
    let tag = get_or tags k d in
    let is = (Contains-tags r.mappings service.0 file.0 tag.0 tag.1 fits.tags.ascend).0 (All-contains_itself tags k d lt) in
    (fits.tags.there service.0 tag.0.0 file.0 (ap is_some is)).tag

pub telling_first : (t : TablesView) (service : ServiceNo) (file : FileNo) (before now : ℕ) (current pending deleted : List (List ℕ)) (left : List (TagNo × MapState)) → Fits (records_of t) →
    now ≡ before + 1 → current ≡ [] → pending ≡ [] → deleted ≡ [] → left ≡ tags_of_file t.mappings.rows service.0 file.0 →
    IsTelling t service file before now (record { current = current; pending = pending; deleted = deleted }) left
telling_first t service file before now current pending deleted left fits one c p d is = record {
  told = rw (c, p, d, is) refl;
  there = rw is (tags_there (records_of t) service file fits);
  reads = let n = ap length is in omega (arith, one, n);
}

pub telling_there : (t : TablesView) (service : ServiceNo) (file : FileNo) (before now : ℕ) (said : FileMappings) (was left : List (TagNo × MapState)) (tag : TagNo) (state : MapState) →
    IsTelling t service file before now said was → was ≡ (tag, state) ∷ left → tag.0 < length t.tags.texts
telling_there t service file before now said was left tag state telling is =
    All-head (λ (tag : TagNo × MapState). tag.0.0 < length t.tags.texts) (tag, state) left (subst (All (λ (tag : TagNo × MapState). tag.0.0 < length t.tags.texts)) is telling.there)

pub telling_next : (t : TablesView) (service : ServiceNo) (file : FileNo) (before now later : ℕ) (told said : FileMappings) (was left : List (TagNo × MapState)) (tag : TagNo) (state : MapState) (text : List ℕ) →
    IsTelling t service file before now told was → was ≡ (tag, state) ∷ left → later ≡ now + 1 → slice_get t.tags.texts tag.0 ≡ Some text → said ≡ with_text told state text →
    IsTelling t service file before later said left
telling_next t service file before now later told said was left tag state text telling is one at put = record {
  told =
      ap (λ (now : FileMappings). told_then (records_of t) now left) put
      ∙ ap (λ (text : List ℕ). told_then (records_of t) (with_text told state text) left) (sym (get_or_from_slice_get t.tags.texts tag.0 text [] at))
      ∙ then_told (records_of t) told tag state left ∙ ap (told_then (records_of t) told) (sym is) ∙ telling.told;
  there = All-tail (λ (tag : TagNo × MapState). tag.0.0 < length t.tags.texts) (tag, state) left (subst (All (λ (tag : TagNo × MapState). tag.0.0 < length t.tags.texts)) is telling.there);
  reads = let reads = telling.reads in let n = ap length is in omega (arith, reads, one, n);
}

pub telling_last : (t : TablesView) (service : ServiceNo) (file : FileNo) (before now : ℕ) (told : FileMappings) (left : List (TagNo × MapState)) →
    IsTelling t service file before now told left → left ≡ [] → told ≡ file_mappings (records_of t) service file
telling_last t service file before now told left telling none =
    sym (all_told (records_of t) told) ∙ ap (told_then (records_of t) told) (sym none) ∙ telling.told
