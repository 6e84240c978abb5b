use Rattle.std.proofs.Common.{◌≡◌, ◌∙◌, sym, ap, subst, [], ◌∷◌, ◌++◌, Ok, Err, IfErr, Some, Result, Option}
use Rattle.std.proofs.lemmas.Result.{err_from_is_err_and}
use Rattle.ew_model.specs.declared.event.Event.{Event}
use Rattle.file_words.specs.FileFaults.{FileFinding}
use Rattle.file_words.specs.FileVersions.{file_found}
use Rattle.event_file.specs.declared.fault.FileFault.{FileFault}
use Rattle.event_file.specs.Faults.{IsFault}
use Rattle.event_file.specs.Rest.{IsNext, in_front}
use Rattle.ew_model.specs.Limits.{LimitNumbers}
use Rattle.replica.specs.Giving.{Given}
use Rattle.stored_histories.specs.Giving.{HasGivenLast}
use Rattle.stored_histories.proofs.Giving.{fault_behind, last_given}
use Rattle.stored_histories.proofs.give.give_events.Goals as goal

pub returns-in_err-event-clause-fault : goal.returns-in_err-event-clause-fault
returns-in_err-event-clause-fault c =
    let front = c.loop-characters.invariant.front in
    let found : file_found c.args.limits.now.events c.args.bytes.now ≡ in_front front.0 c.loop-characters.reader.found =
    sym (subst (λ n. c.in_ok-reader.reader.found ≡ file_found n c.args.bytes.now) c.events.ensures.value c.in_ok-reader.ensures.found) ∙ front.1.1 in
    let p = err_from_is_err_and c.from_residual-in_err-event.result c.from_residual-in_err-event.ensures.1 in
    let is : IsFault p.0 c.loop-characters.reader.found = subst (λ (fault : FileFault). IsFault fault c.loop-characters.reader.found) (sym p.2) c.in_err-event.ensures.0 in
    subst (λ (r : Result Given FileFault). IfErr r (λ fault. IsFault fault (file_found c.args.limits.now.events c.args.bytes.now))) (sym p.1)
    (subst (λ (f : FileFinding). IsFault p.0 f) (sym found) (fault_behind front.0 p.0 c.loop-characters.reader.found is))

pub returns-in_err-push-clause-fault : goal.returns-in_err-push-clause-fault
returns-in_err-push-clause-fault c =
    let p = err_from_is_err_and c.from_residual-in_err-push.result c.from_residual-in_err-push.ensures.1 in
    let found = file_found c.args.limits.now.events c.args.bytes.now in
    subst (λ (r : Result Given FileFault). IfErr r (λ fault. IsFault fault found)) (sym (p.1 ∙ ap Err p.2)) tt

pub returns-in_err-give_behind-clause-fault : goal.returns-in_err-give_behind-clause-fault
returns-in_err-give_behind-clause-fault c =
    let p = err_from_is_err_and c.from_residual-in_err-give_behind.result c.from_residual-in_err-give_behind.ensures.1 in
    let found = file_found c.args.limits.now.events c.args.bytes.now in
    subst (λ (r : Result Given FileFault). IfErr r (λ fault. IsFault fault found)) (sym (p.1 ∙ ap Err p.2)) tt

pub give_behind-requires : goal.give_behind-requires
give_behind-requires c =
    let front = c.loop-characters.invariant.front in
    let next : IsNext (Ok (Some c.in-Some.event)) c.loop-characters.reader c.next_in.new.self =
    subst (λ (o : Option Event). IsNext (Ok o) c.loop-characters.reader c.next_in.new.self) c.in-Some.is c.in_ok-event.ensures in
    let limits = c.in_ok-push.ensures.limits ∙ c.loop-characters.invariant.limits in
    record {
      given = (
        c.in_ok-reader.reader.found,
        subst (λ (l : LimitNumbers). HasGivenLast c.in_ok-reader.reader.found c.push.new.self c.next_in.new.self l.events) (sym limits)
            (last_given front.0 c.in-Some.event c.in_ok-reader.reader.found c.loop-characters.given c.push.new.self c.loop-characters.reader c.next_in.new.self c.args.limits.now.events front.1 next
            (c.in_ok-push.ensures.given front.0 front.1.0)),
      );
    }

pub loop-characters-preserved : goal.loop-characters-preserved
loop-characters-preserved c =
    let front = c.loop-characters.invariant.front in
    let next : IsNext (Ok (Some c.in-Some.event)) c.loop-characters.reader c.next_in.new.self =
    subst (λ (o : Option Event). IsNext (Ok o) c.loop-characters.reader c.next_in.new.self) c.in-Some.is c.in_ok-event.ensures in
    let limits = c.in_ok-push.ensures.limits ∙ c.loop-characters.invariant.limits in
    let found = c.in_ok-reader.reader.found in
    let has = last_given front.0 c.in-Some.event found c.loop-characters.given c.push.new.self c.loop-characters.reader c.next_in.new.self c.args.limits.now.events front.1 next
    (c.in_ok-push.ensures.given front.0 front.1.0) in
    let more : HasGivenLast found c.give_behind.new.given c.give_behind.new.reader c.args.limits.now.events =
    subst (λ (l : LimitNumbers). HasGivenLast found c.give_behind.new.given c.give_behind.new.reader l.events) limits
    (c.in_ok-give_behind.ensures.given found (subst (λ (l : LimitNumbers). HasGivenLast found c.push.new.self c.next_in.new.self l.events) (sym limits) has)) in
    record {
      limits = c.in_ok-give_behind.ensures.limits ∙ limits;
      front = (more.0 ++ more.1 ∷ [], more.3);
    }
