-- Two files that differ in all bits of their hashes: they aren't near at any distance within which files are
-- searched. Their distance is too large to be counted out, so it comes from a law.
use Rattle.std.proofs.Common.{◌≡◌, ◌∙◌, Bool, true, false, nat_le, if◌then◌else◌, List, [], ◌∷◌, length, map, None, Ok, Err, refl, ap}
use lib.Count.{ones-ones}
use Rattle.media_types.specs.declared.limits.TheConstants.{MAX_NEAR}
use Rattle.media_base.specs.declared.change.Change.TheVariants as changes
use Rattle.media_base.specs.declared.command.Caller.TheVariants.{Console}
use Rattle.media_base.specs.declared.refusal.Unmet.TheVariants as whys
use Rattle.media_base.specs.declared.reply.Answer.TheVariants.{Pairs}
use Rattle.media_base.specs.Replying.{Reply}
use Rattle.spare_tables.specs.Pairs.{pairs_below}
use Rattle.file_records.specs.Near.{near_at, near_pairs}
use Rattle.file_records.specs.Living.{deleted}
use Rattle.file_records.specs.Searching.{queue_of, rising, searched}
use Rattle.potential_pairs.specs.Pages.{named, page_of}
use Rattle.potential_pairs.specs.Potential.{Row, potential_at, potentials}
use Rattle.library_machine.specs.Asking.{answer, query_needs, related}
use Rattle.library_machine.specs.Changing.{answer_to, is_idle, needs}
use Rattle.library_machine.specs.Effects.{effect}
use Rattle.library_machine.specs.Jobs.{worked_out}
use Rattle.library_machine.specs.Searches.{after_search, has_room_for_near, next_search}
use Rattle.library_machine.specs.Session.{nothing, replies, state_after}
use Rattle.library_machine.specs.Step.{State, Outcome, admitted, after as after_outcome, by_change, reply_of, step}
use Rattle.library_machine.specs.Worked.{distance_of, import_with, listed, pairs_from, search_next, searched as told_searched}

abbrev before : State
before = state_after nothing (import_with 10 (0 ∷ []) ∷ import_with 11 (0xffffffffffffffff ∷ []) ∷ distance_of 16 ∷ [])

abbrev after : State
after = record { kept = after_search before.kept (next_search before.kept 2); desks = before.desks }

none_near : near_pairs after.kept.files ≡ []
unfolding step admitted needs is_idle effect queue_of searched near_at pairs_below
none_near = rw (ones-ones 64) refl

has_room : has_room_for_near after.kept ≡ true
has_room = ap (λ (near : List Row). nat_le (length near) MAX_NEAR) none_near

-- the step of the job, by whether there is room
abbrev job_by : Bool → Outcome
job_by room = by_change before.kept before.desks (changes.Searched (next_search before.kept 2)) (if room then Ok false else Err whys.FullNear)

job : step before Console (search_next 2) ≡ job_by (has_room_for_near after.kept)
unfolding step admitted worked_out needs is_idle effect queue_of rising
job = refl

no_pairs : reply_of (step after Console (pairs_from 10 16)) ≡ listed []
unfolding step admitted needs is_idle effect query_needs answer queue_of searched page_of pairs_below potential_at
no_pairs = ap (λ (near : List Row). Ok (Pairs (map named (page_of None 10 16 (potentials 2 (related after.kept) (deleted after.kept.files) near))))) none_near

pub far_apart : replies before (search_next 2 ∷ pairs_from 10 16 ∷ []) ≡ told_searched 2 0 ∷ listed [] ∷ []
unfolding step admitted needs is_idle effect answer_to queue_of searched rising
far_apart =
    let tell : Outcome → List Reply = λ o. reply_of o ∷ replies (after_outcome before o) (pairs_from 10 16 ∷ []) in
    ap tell (job ∙ ap job_by has_room)
    ∙ ap (λ (reply : Reply). told_searched 2 0 ∷ reply ∷ []) no_pairs
