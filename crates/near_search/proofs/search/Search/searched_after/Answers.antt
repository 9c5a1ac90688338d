use Rattle.std.proofs.Common.{◌≡◌, ◌∙◌, ◌<◌, true, false, nat_le, sym, ap, subst}
use Rattle.std.specs.List.{AllPairs}
use Rattle.std.specs.Option.{option_map_or}
use Rattle.media_types.specs.declared.numbers.FileNo.{FileNo}
use Rattle.file_records.specs.SearchLaws.{rising_ascends}
use Rattle.file_records.specs.Searching.{is_named}
use Rattle.near_search.proofs.AfterSearch.{other_reach, risen_reach, short_if_risen}
use Rattle.near_search.proofs.Lookups.{named_if_found}
use Rattle.near_search.proofs.search.Search.searched_after.Goals as goal

pub returns-then-is_ok-clause-reaches : goal.returns-then-is_ok-clause-reaches
returns-then-is_ok-clause-reaches g c =
    let search = c.args.self.now in
    let rows = search.files.now.rows in
    let risen = search.risen.now in
    let ascend = subst (AllPairs (λ (a b : FileNo). a.0 < b.0)) (sym c.requires.risen.1) (rising_ascends search.distance c.requires.risen.0 rows) in
    let named : is_named risen c.args.file.0 ≡ true =
    named_if_found c.args.file risen c.binary_search.result ascend c.binary_search.ensures.bound c.binary_search.ensures.position ∙ sym c.is_ok.ensures.value ∙ c.if-is_ok.true in
    λ m. risen_reach search.distance risen rows c.args.file.0 m named
    (short_if_risen search.distance rows risen c.args.file.0 c.requires.risen named)

pub returns-in_err-searched-clause-reaches : goal.returns-in_err-searched-clause-reaches
returns-in_err-searched-clause-reaches g c =
    let search = c.args.self.now in
    let rows = search.files.now.rows in
    let risen = search.risen.now in
    let ascend = subst (AllPairs (λ (a b : FileNo). a.0 < b.0)) (sym c.requires.risen.1) (rising_ascends search.distance c.requires.risen.0 rows) in
    let other : is_named risen c.args.file.0 ≡ false =
    named_if_found c.args.file risen c.binary_search.result ascend c.binary_search.ensures.bound c.binary_search.ensures.position ∙ sym c.is_ok.ensures.value ∙ c.if-is_ok.false in
    λ m. other_reach search.distance risen rows c.args.file.0 m c.row.result.now other c.row.ensures.row
    ∙ ap (λ far. option_map_or (nat_le m) far false) (c.in_err-searched.was ∙ sym c.from_residual.ensures)

pub returns-clause-reaches : goal.returns-clause-reaches
returns-clause-reaches g c =
    let search = c.args.self.now in
    let rows = search.files.now.rows in
    let risen = search.risen.now in
    let ascend = subst (AllPairs (λ (a b : FileNo). a.0 < b.0)) (sym c.requires.risen.1) (rising_ascends search.distance c.requires.risen.0 rows) in
    let other : is_named risen c.args.file.0 ≡ false =
    named_if_found c.args.file risen c.binary_search.result ascend c.binary_search.ensures.bound c.binary_search.ensures.position ∙ sym c.is_ok.ensures.value ∙ c.if-is_ok.false in
    λ m. other_reach search.distance risen rows c.args.file.0 m c.row.result.now other c.row.ensures.row
    ∙ ap (λ far. option_map_or (nat_le m) far false) c.in_ok-searched.was ∙ ap (nat_le m) (sym c.bits.ensures.value)
