use Rattle.std.proofs.Common.{◌≡◌, Some, Err, sym, subst, ap, ◌∙◌}
use Rattle.media_base.specs.Keeping.{HasGivenAll}
use Rattle.library_machine.specs.GoodLaws.{changes_keep_fit}
use Rattle.library_machine.specs.Opening.{after_change, if_made}
use Rattle.library_machine.specs.Records.{Fits, Records}
use Rattle.library_tables.specs.Tables.{records_of}
use Rattle.library_core.proofs.Finishing.{make_refused, make_idle, make_ready, make_fault}
use Rattle.library_core.proofs.Opened.{opens_more}
use Rattle.library_core.proofs.library.Library.make.Goals as goal

pub returns-in-Refused-clause-done : goal.returns-in-Refused-clause-done
returns-in-Refused-clause-done g c =
    let prepared = rw c.in-Refused.is at c.in_ok-why.ensures.prepared in
    make_refused _ _ _ _ _ _ c.self.view_is c.plan.ensures.records _ _ prepared

pub returns-in-Idle-clause-done : goal.returns-in-Idle-clause-done
returns-in-Idle-clause-done g c =
    let prepared = rw c.in-Idle.is at c.in_ok-why.ensures.prepared in
    make_idle _ _ _ _ _ _ c.self.view_is c.plan.ensures.records _ _ prepared.0 prepared.1

pub returns-in-Ok-clause-done : goal.returns-in-Ok-clause-done
returns-in-Ok-clause-done g c =
    let prepared = rw c.in-Ready.is at c.in_ok-why.ensures.prepared in
    let put = c.in-Ok.ensures in
    make_ready _ _ _ _ _ _ c.self.view_is c.plan.ensures.records _ _ _ _ prepared.0 prepared.1 (c.commit.ensures.records _ prepared.2)
    (record { kept = put.ok; room = put.room; used = put.used_ok; limit = put.same_limit; units = put.same_units; later = put.cause.later; own = put.same_alien })

pub returns-in-Err-clause-done : goal.returns-in-Err-clause-done
returns-in-Err-clause-done g c =
    let prepared = rw c.in-Ready.is at c.in_ok-why.ensures.prepared in
    let put = c.in-Err.ensures in
    make_fault _ _ _ _ _ _ c.self.view_is c.plan.ensures.records _ _ _ _ _ prepared.0 c.withdraw.ensures.records c.refusal_of.ensures
    (record {
      kept = put.err;
      full = λ e. put.full (ap Err e);
      room_failed = λ e. put.room_failed (ap Err e);
      used = put.used_err;
      limit = put.same_limit;
      units = put.same_units;
      later = put.cause.later;
      rose = λ e. put.cause.rose (ap Err e);
      own = put.same_alien;
    })

-- the records after the change fit, and what is kept opens them
pub invariant_of-self-in-Ok : goal.invariant_of-self-in-Ok
invariant_of-self-in-Ok g c =
    let r = records_of c.self.inside.tables in
    let change = c.args.change.now in
    let prepared = rw c.in-Ready.is at c.in_ok-why.ensures.prepared in
    let after = c.commit.ensures.records _ prepared.2 in
    let leads : after_change r change ≡ Some (records_of c.commit.new.self) =
    subst (λ (s : Records). after_change s change ≡ Some (records_of c.commit.new.self)) c.plan.ensures.records
    (ap (if_made (records_of c.plan.new.self) change) prepared.0 ∙ ap Some (sym after)) in
    record {
      fits = subst Fits (sym after) (changes_keep_fit _ change prepared.0 (subst Fits (sym c.plan.ensures.records) c.self.invariant.fits));
      words = c.commit.ensures.words;
      is_ready = c.in-Ok.ensures.still_ready;
      all_given = subst HasGivenAll (sym c.in-Ok.ensures.same_place) c.self.invariant.all_given;
      own = rw c.in-Ok.ensures.same_alien c.self.invariant.own;
      opens = opens_more _ _ r _ change c.in-Ok.ensures.ok leads c.self.invariant.opens;
    }
