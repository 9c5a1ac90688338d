-- A deletion is taken back.
use Rattle.std.proofs.Common.{◌≡◌, ◌==◌, if◌then◌else◌, nat_lt, ℕ, Bool, true, false, not, inl, inr, Some, Ok, Err, option_map, List, length, slice_get, refl, ap, subst, sym, ◌∙◌}
use Rattle.std.proofs.lemmas.Bool.{lt-ltb, eq-eqb, both_ways}
use Rattle.std.proofs.lemmas.Option.{slice_get_cases}
use Rattle.media_types.specs.declared.numbers.FileNo.{FileNo}
use Rattle.media_base.specs.declared.change.Change.TheVariants as changes
use Rattle.media_base.specs.declared.command.Caller.TheVariants.{Console}
use Rattle.media_base.specs.declared.refusal.Unmet.TheVariants as whys
use Rattle.file_records.specs.declared.file_row.FileRow.{FileRow}
use Rattle.file_records.specs.Living.{is_live, with_live_mark, with_mark}
use Rattle.file_records.specs.MarkLaws as marks
use Rattle.library_machine.specs.Changing.{is_idle, is_marked, needs}
use Rattle.library_machine.specs.Effects.{effect}
use Rattle.library_machine.specs.Laws.{DeletionsAreTakenBack}
use Rattle.library_machine.specs.Needs.{has_file}
use Rattle.library_machine.specs.Records.{Records}
use Rattle.library_machine.specs.Step.{State, admitted, after, by_change, made, step}
use Rattle.library_machine.specs.GoodLaws.{has_live_mark}

-- the row of the file, once it is marked
new_row : (n : ℕ) (live : Bool) (rows : List FileRow) (row : FileRow) → slice_get rows n ≡ Some row →
    slice_get (with_live_mark n live rows) n ≡ Some (with_mark live row)
new_row n live rows row is =
    let one : Bool → FileRow → FileRow = λ same row. if same then with_mark live row else row in
    marks.each n live rows n ∙ ap (option_map (one (n == n))) is ∙ ap (λ (same : Bool). Some (one same row)) (eq-eqb n n refl)

-- a live file is there, and its row has the mark
live_row : (rows : List FileRow) (n : ℕ) → is_live rows n ≡ true →
    (row : FileRow) × (nat_lt n (length rows) ≡ true) × (slice_get rows n ≡ Some row) × (row.live ≡ true)
live_row rows n live =
    elim ((slice_get_cases rows n).1) [
      | inl there ↦ (there.0, lt-ltb _ _ there.1, there.2, sym (ap has_live_mark there.2) ∙ live)
      | inr past ↦ absurd (both_ways _ (ap has_live_mark past.1) live)
    ]

-- the records, once a file that is there gets another mark
abbrev marked : Records → FileNo → Bool → Records
marked r file live = record r { files = with_live_mark file.0 live r.files }

mark_leads : (s : State) (file : FileNo) (live : Bool) → has_file s.kept file ≡ true → is_marked s.kept file live ≡ false →
    after s (made s.kept s.desks (changes.Live file live)) ≡ record s { kept = marked s.kept file live }
unfolding needs is_idle effect
mark_leads s file live there other =
    ap (λ (is : Bool). after s (by_change s.kept s.desks (changes.Live file live) (if is then Ok (is_marked s.kept file live) else Err whys.UnknownFile))) there
    ∙ ap (λ (is : Bool). after s (by_change s.kept s.desks (changes.Live file live) (Ok is))) other

pub deletions_are_taken_back : DeletionsAreTakenBack
unfolding step admitted
deletions_are_taken_back s Console file live =
    let r = s.kept in
    let row = live_row r.files file.0 live in
    let gone = marked r file false in
    let there : has_file gone file ≡ true = ap (nat_lt file.0) (marks.same_length file.0 false r.files) ∙ row.1 in
    let dead : is_live gone.files file.0 ≡ false = ap has_live_mark (new_row file.0 false r.files row.0 row.2) in
    let back = subst (λ mark. with_live_mark file.0 mark gone.files ≡ r.files) row.3 (marks.back file.0 false r.files row.0 row.2) in
    ap (λ (t : State). after t (made t.kept t.desks (changes.Live file true))) (mark_leads s file false row.1 (ap not live))
    ∙ mark_leads (record s { kept = gone }) file true there dead
    ∙ ap (λ (files : List FileRow). record s { kept = record r { files = files } }) back
