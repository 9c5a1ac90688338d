-- What is prepared for a search is what it comes to.
use Rattle.std.proofs.Common.{◌≡◌, ◌≢◌, ◌<◌, ◌≤◌, ◌+◌, ℕ, true, false, Ok, List, [], ◌∷◌, length, refl, ap, subst, sym, ◌∙◌}
use Rattle.std.specs.List.{All, list_all}
use Rattle.std.proofs.lemmas.Bool.{le-leb}
use Rattle.std.proofs.Math.Dec.{eqb-suc-zero}
use Rattle.media_types.specs.declared.limits.TheConstants.{MAX_NEAR}
use Rattle.media_types.specs.declared.numbers.FileNo.{FileNo}
use Rattle.media_types.specs.declared.searching.Searching.{Searching}
use Rattle.media_base.specs.declared.change.Change.TheVariants as changes
use Rattle.media_base.specs.declared.reply.Answer.TheVariants as answers
use Rattle.file_records.specs.declared.file_row.FileRow.{FileRow}
use Rattle.file_records.specs.Near.{near_pairs}
use Rattle.file_records.specs.SearchLaws.{enough, known}
use Rattle.file_records.specs.Searching.{queue_of, rising, searched}
use Rattle.relation_groups.specs.Reading.{relations_in}
use Rattle.potential_pairs.specs.Planning.{PlanView}
use Rattle.potential_pairs.specs.Planning.{after as pairs_after}
use Rattle.library_machine.specs.Changing.{answer_to, does, is_idle, needs}
use Rattle.library_machine.specs.Effects.{effect}
use Rattle.library_machine.specs.GoodLaws.{changes_keep_fit}
use Rattle.library_machine.specs.Needs.{has_file}
use Rattle.library_machine.specs.Records.{Records, Fits}
use Rattle.library_machine.specs.Searches.{after_search, counts, has_room_for_near, is_empty, risen}
use Rattle.library_tables.specs.declared.plan.Prepared.TheVariants as prepared
use Rattle.library_tables.specs.declared.plan.TablesPlan.TheVariants as plans
use Rattle.library_tables.specs.declared.searches.PlannedSearch.{PlannedSearch}
use Rattle.library_tables.specs.Pairs.{LeadsPairs}
use Rattle.library_tables.specs.Preparing.{IsPrepared}
use Rattle.library_tables.specs.Tables.{TablesView, records_of}

-- ---- what a search of files that are there comes to

search_does : (r : Records) (s : Searching) → list_all (has_file r) s.files ≡ true → is_empty (risen r s) ≡ false →
    has_room_for_near (after_search r s) ≡ true → does r (changes.Searched s) ≡ Ok false
unfolding needs is_idle
search_does r s there some room = rw (there, some, room) refl

search_tells : (r : Records) (s : Searching) → answer_to r (changes.Searched s) ≡ counts (risen r s) (after_search r s)
unfolding answer_to
search_tells r s = refl

search_leads : (r : Records) (s : Searching) → effect r (changes.Searched s) ≡ after_search r s
unfolding effect
search_leads r s = refl

-- ---- what is prepared

not_empty : (files : List FileNo) → files ≢ [] → is_empty files ≡ false
not_empty [] some = absurd (some refl)
not_empty (file ∷ files) some = eqb-suc-zero (length files)

-- The files of a search are there, and these are those whose searched distance rises. So many wait after it.
pub record IsRead (t : TablesView) (s : Searching) (files : List FileNo) (left : ℕ) : Type 0 where
  pub there : list_all (has_file (records_of t)) s.files ≡ true
  pub rises : files ≡ rising s.distance s.files t.files.rows
  pub waits : left ≡ length (queue_of t.distance (searched s.distance s.files t.files.rows))

tells_counts : (t : TablesView) (s : Searching) (files : List FileNo) (left : ℕ) → IsRead t s files left →
    answer_to (records_of t) (changes.Searched s) ≡ answers.Searched (record { searched = length files; left = left })
tells_counts t s files left read =
    search_tells (records_of t) s ∙ ap (λ (n : ℕ). answers.Searched (record { searched = n; left = length (queue_of t.distance (searched s.distance s.files t.files.rows)) })) (ap length (sym read.rises))
    ∙ ap (λ (n : ℕ). answers.Searched (record { searched = length files; left = n })) (sym read.waits)

-- how many pairs are near after a search
pub near_count : (t : TablesView) (s : Searching) (files : List FileNo) (pairs : PlanView) →
    files ≡ rising s.distance s.files t.files.rows →
    LeadsPairs pairs (relations_in t.groups) (searched s.distance files t.files.rows) t.pairs →
    length (pairs_after pairs t.pairs.rows).near ≡ length t.pairs.rows.near + length pairs.near →
    length (near_pairs (searched s.distance s.files t.files.rows)) ≡ length t.pairs.rows.near + length pairs.near
near_count t s files pairs risen paired counted =
    let same : searched s.distance files t.files.rows ≡ searched s.distance s.files t.files.rows =
    ap (λ (risen : List FileNo). searched s.distance risen t.files.rows) risen ∙ enough s.distance s.files t.files.rows in
    ap (λ (rows : List FileRow). length (near_pairs rows)) (sym same) ∙ sym (ap length paired.paired.near) ∙ counted

pub search_prepared : (t : TablesView) (s : Searching) (plan : PlannedSearch) (left : ℕ) → Fits (records_of t) →
    IsRead t s plan.files left → plan.files ≢ [] → plan.distance ≡ s.distance →
    LeadsPairs plan.pairs (relations_in t.groups) (searched plan.distance plan.files t.files.rows) t.pairs →
    length (near_pairs (searched s.distance s.files t.files.rows)) ≤ MAX_NEAR →
    IsPrepared (changes.Searched s) t (prepared.Ready (plans.Search plan) (answers.Searched (record { searched = length plan.files; left = left })))
search_prepared t s plan left fits read some within paired few =
    let r = records_of t in
    let done = search_does r s read.there (ap is_empty (sym read.rises) ∙ not_empty plan.files some) (le-leb _ _ few) in
    let all : searched plan.distance plan.files t.files.rows ≡ searched s.distance s.files t.files.rows =
    ap (λ (d : ℕ). searched d plan.files t.files.rows) within ∙ ap (λ (files : List FileNo). searched s.distance files t.files.rows) read.rises ∙ enough s.distance s.files t.files.rows in (
      done,
      tells_counts t s plan.files left read,
      record {
        known = subst (All (λ f. f.0 < length t.files.rows)) (sym read.rises) (known s.distance s.files t.files.rows);
        paired = paired;
        fits = changes_keep_fit r (changes.Searched s) done fits;
        leads = search_leads r s ∙ ap (λ (rows : List FileRow). record r { files = rows }) (sym all);
      },
      refl,
    )
