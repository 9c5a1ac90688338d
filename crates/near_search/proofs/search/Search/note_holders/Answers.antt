use Rattle.std.proofs.Common.{◌∙◌, ◌++◌, [], ◌∷◌, length, length-append, append-nil, Some, None, sym, ap, arith}
use Rattle.std.specs.List.{filter_map}
use Rattle.file_records.specs.Searching.{searched}
use Rattle.near_search.specs.Noting.{near_pair}
use Rattle.near_search.proofs.Holders.{all_holders, few_holders, holders_up_to, next_holder, none_yet, noted_more}
use Rattle.near_search.proofs.search.Search.note_holders.Goals as goal

pub loop-other-init : goal.loop-other-init
loop-other-init g c =
    let search = c.args.self.now in
    let rows = search.files.now.rows in
    let note = near_pair (searched search.distance search.risen.now rows) c.args.file in
    record {
      noted = sym (append-nil c.args.found.now) ∙ ap (λ fs. c.args.found.now ++ filter_map note fs) (sym (none_yet rows c.args.word.0));
      reads = omega arith;
    }

pub near_pair-requires-clause-other : goal.near_pair-requires-clause-other
near_pair-requires-clause-other g c = (next_holder c.args.self.now.files.now.rows c.args.word.0 c.loop-other.after c.in-Some.other c.in-Some.ensures.next).there

pub returns-in_err-push-clause-reads : goal.returns-in_err-push-clause-reads
returns-in_err-push-clause-reads g c =
    let rows = c.args.self.now.files.now.rows in
    let next = next_holder rows c.args.word.0 c.loop-other.after c.in-Some.other c.in-Some.ensures.next in
    omega (
      arith,
      few_holders rows c.args.word.0 (Some c.in-Some.other),
      ap length next.joins,
      length-append (holders_up_to rows c.args.word.0 c.loop-other.after) (c.in-Some.other ∷ []),
      c.loop-other.invariant.reads,
      c.in-Some.ensures.steps,
      c.near_pair.ensures.reads,
    )

pub loop-other-smaller-in_ok-push : goal.loop-other-smaller-in_ok-push
loop-other-smaller-in_ok-push g c = (next_holder c.args.self.now.files.now.rows c.args.word.0 c.loop-other.after c.in-Some.other c.in-Some.ensures.next).fewer

pub loop-other-preserved-in_ok-push : goal.loop-other-preserved-in_ok-push
loop-other-preserved-in_ok-push g c =
    let search = c.args.self.now in
    let rows = search.files.now.rows in
    let next = next_holder rows c.args.word.0 c.loop-other.after c.in-Some.other c.in-Some.ensures.next in
    record {
      noted = noted_more (near_pair (searched search.distance search.risen.now rows) c.args.file) c.args.found.now c.loop-other.found c.push.new.self
          (holders_up_to rows c.args.word.0 c.loop-other.after) (holders_up_to rows c.args.word.0 (Some c.in-Some.other)) c.in-Some.other (Some c.in-Some-near_pair.pair)
          next.joins c.in-Some-near_pair.ensures.pair c.loop-other.invariant.noted c.in_ok-push.ensures.ok;
      reads = omega (
        arith,
        ap length next.joins,
        length-append (holders_up_to rows c.args.word.0 c.loop-other.after) (c.in-Some.other ∷ []),
        c.loop-other.invariant.reads,
        c.in-Some.ensures.steps,
        c.near_pair.ensures.reads,
      );
    }

pub loop-other-smaller : goal.loop-other-smaller
loop-other-smaller g c = (next_holder c.args.self.now.files.now.rows c.args.word.0 c.loop-other.after c.in-Some.other c.in-Some.ensures.next).fewer

pub loop-other-preserved : goal.loop-other-preserved
loop-other-preserved g c =
    let search = c.args.self.now in
    let rows = search.files.now.rows in
    let next = next_holder rows c.args.word.0 c.loop-other.after c.in-Some.other c.in-Some.ensures.next in
    record {
      noted = noted_more (near_pair (searched search.distance search.risen.now rows) c.args.file) c.args.found.now c.loop-other.found c.loop-other.found
          (holders_up_to rows c.args.word.0 c.loop-other.after) (holders_up_to rows c.args.word.0 (Some c.in-Some.other)) c.in-Some.other None
          next.joins c.in_default-near_pair.ensures.pair c.loop-other.invariant.noted (sym (append-nil c.loop-other.found));
      reads = omega (
        arith,
        ap length next.joins,
        length-append (holders_up_to rows c.args.word.0 c.loop-other.after) (c.in-Some.other ∷ []),
        c.loop-other.invariant.reads,
        c.in-Some.ensures.steps,
        c.near_pair.ensures.reads,
      );
    }

pub returns-clause-found : goal.returns-clause-found
returns-clause-found g c =
    let search = c.args.self.now in
    let rows = search.files.now.rows in
    let note = near_pair (searched search.distance search.risen.now rows) c.args.file in
    c.loop-other.invariant.noted ∙ ap (λ fs. c.args.found.now ++ filter_map note fs) (all_holders rows c.args.word.0 c.loop-other.after c.in_default.ensures.next)

pub returns-clause-reads : goal.returns-clause-reads
returns-clause-reads g c =
    let rows = c.args.self.now.files.now.rows in
    omega (arith, ap length (all_holders rows c.args.word.0 c.loop-other.after c.in_default.ensures.next), c.loop-other.invariant.reads, c.files_of.ensures.steps)
