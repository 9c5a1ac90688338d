use Rattle.std.proofs.Common.{refl}
use lib.Count.{ones, ones_in}
use Rattle.spare_tables.specs.Pairs.{pairs_below}
use Rattle.file_records.specs.Near.{near_at}
use Rattle.file_records.specs.Searching.{queue_of, rising, searched}
use Rattle.potential_pairs.specs.Pages.{page_of}
use Rattle.potential_pairs.specs.Potential.{potential_at}
use Rattle.relation_groups.specs.Relations.{relations_at}
use Rattle.library_machine.specs.Asking.{answer, query_needs}
use Rattle.library_machine.specs.Changing.{answer_to, is_idle, needs}
use Rattle.library_machine.specs.Effects.{effect}
use Rattle.library_machine.specs.Jobs.{worked_out}
use Rattle.library_machine.specs.Step.{admitted, step}
use Rattle.library_machine.proofs.FarApart.{far_apart}
use Rattle.library_machine.proofs.worked.worked_rows.Goals as goal

pub returns-clause-both_are_searched : goal.returns-clause-both_are_searched
unfolding step admitted needs is_idle effect answer_to query_needs answer worked_out searched rising queue_of near_at pairs_below potential_at page_of ones ones_in
returns-clause-both_are_searched c = refl

pub returns-clause-pairs_by_distance : goal.returns-clause-pairs_by_distance
unfolding step admitted needs is_idle effect answer_to query_needs answer worked_out searched rising queue_of near_at pairs_below potential_at page_of ones ones_in
returns-clause-pairs_by_distance c = refl

pub returns-clause-groups_join_and_part : goal.returns-clause-groups_join_and_part
unfolding step admitted needs is_idle effect answer_to query_needs answer worked_out searched rising queue_of near_at pairs_below potential_at page_of ones ones_in
returns-clause-groups_join_and_part c = refl

pub returns-clause-alternates_are_no_pair : goal.returns-clause-alternates_are_no_pair
unfolding step admitted needs is_idle effect answer_to query_needs answer worked_out searched rising queue_of near_at pairs_below potential_at page_of ones ones_in
returns-clause-alternates_are_no_pair c = refl

pub returns-clause-not_related_groups_are_no_pair : goal.returns-clause-not_related_groups_are_no_pair
unfolding step admitted needs is_idle effect answer_to query_needs answer worked_out searched rising queue_of near_at pairs_below potential_at page_of ones ones_in
returns-clause-not_related_groups_are_no_pair c = refl

pub returns-clause-deleted_files_make_no_pair : goal.returns-clause-deleted_files_make_no_pair
unfolding step admitted needs is_idle effect answer_to query_needs answer worked_out relations_at searched rising queue_of near_at pairs_below potential_at page_of ones ones_in
returns-clause-deleted_files_make_no_pair c = refl

pub returns-clause-deleted_files_do_not_wait : goal.returns-clause-deleted_files_do_not_wait
unfolding step admitted needs is_idle effect answer_to query_needs answer worked_out searched rising queue_of near_at pairs_below ones ones_in
returns-clause-deleted_files_do_not_wait c = refl

pub returns-clause-all_bits_differ : goal.returns-clause-all_bits_differ
returns-clause-all_bits_differ c = far_apart
