-- What a walk over the admitted front of some events tells of all.
use Rattle.std.proofs.Common.{◌≡◌, ℕ, ◌≤◌, List, [], length, Option, Some, None, option_map, sym, ap, subst, ◌∙◌, arith}
use Rattle.ew_model.specs.declared.event.Event.{Event}
use Rattle.ew_model.specs.declared.text_op.TextOp.{TextOp}
use Rattle.ew_model.specs.declared.verdict.Verdict.{Verdict}
use Rattle.ew_model.specs.declared.verdict.Verdict.TheVariants.{OutOfRange}
use Rattle.ew_model.specs.Answers.{ruling_of}
use Rattle.ew_model.specs.Operations.{operations, changed_by_all}
use Rattle.ew_model.specs.Texts.{text_of}
use Rattle.ew_model.specs.TextLaws.{AllFit}
use Rattle.ew_model.specs.Touches.{touches}
use Rattle.ew_model.specs.Verdicts.{Ruling, first_bad}
use Rattle.ew_model.proofs.FitLaw.{operations_fit}
use Rattle.ew_model.proofs.GoodLaws.{operations_make_text}
use Rattle.ew_model.proofs.TextLengths.{length_operations}
use Rattle.ew_model.proofs.TouchSteps.{touches_add}
use Rattle.rope.specs.Lengths.{AllStayShort}
use Rattle.transform.specs.Walking.{bad_at}
use Rattle.replica.specs.declared.fault.LoadFault.TheVariants.{BadEvent}
use Rattle.replica.specs.Answers.{TellsBad}
use Rattle.replica.specs.Fronts.{IsAdmittedFront}
use Rattle.replica.specs.Lengths.{prefix_lengths, lengths_through}
use Rattle.replica.proofs.Appends.{stay_short}
use Rattle.replica.proofs.Beginnings.{good_from_none_bad}
use Rattle.replica.proofs.Fronts.{front_of, told_of_front, bad_behind}
use Rattle.replica.proofs.LengthLaws.{good_lengths}

-- a front needs no more touches than all
pub front_touches : (front events : List Event) (r : Option Ruling) → IsAdmittedFront front r events → touches front 0 ≤ touches events 0
front_touches front events r admitted =
    let h = front_of front r events admitted in
    subst (λ (es : List Event). touches front 0 ≤ touches es 0) (sym h.1) (touches_add.grow front h.0 0)

-- where a walk over the front stops is the first bad event
pub stop_told : (front events : List Event) (r : Option Ruling) (stopped : Option (ℕ × ℕ)) (position len : ℕ) → IsAdmittedFront front r events → option_map bad_at stopped ≡ first_bad front → stopped ≡ Some (position, len)
    → TellsBad events (BadEvent position (OutOfRange len))
stop_told front events r stopped position len admitted told at =
    told_of_front front events (BadEvent position (OutOfRange len)) (front_of front r events admitted) (sym told ∙ ap (option_map bad_at) at)

-- where it doesn't stop, the event that isn't admitted is
pub refused_told : (front events : List Event) (refused : Option Verdict) (verdict : Verdict) (stopped : Option (ℕ × ℕ)) (position : ℕ) → IsAdmittedFront front (option_map ruling_of refused) events → refused ≡ Some verdict
    → option_map bad_at stopped ≡ first_bad front → stopped ≡ None → position ≡ length front → TellsBad events (BadEvent position verdict)
refused_told front events refused verdict stopped position admitted is told none here =
    let bad : IsAdmittedFront front (Some (ruling_of verdict)) events = subst (λ (o : Option Verdict). IsAdmittedFront front (option_map ruling_of o) events) is admitted in
    bad_behind front events (ruling_of verdict) bad (sym told ∙ ap (option_map bad_at) none) ∙ ap (λ n. Some (record { position = n; verdict = ruling_of verdict })) (sym here)

-- each event is good, and the operations are those of the events
pub record AreWalked (events : List Event) (ops : List TextOp) : Type 0 where
  pub none : first_bad events ≡ None
  pub ops_are : ops ≡ operations events

-- Then the operations may be done to the empty text,
pub may_write : (events : List Event) (ops : List TextOp) → AreWalked events ops → length events ≤ 16777216 → AllFit [] ops × AllStayShort [] ops
may_write events ops walked few = (
  subst (AllFit []) (sym walked.ops_are) (operations_fit events (good_from_none_bad events walked.none)),
  stay_short [] ops (omega (arith, few, length_operations events, ap length walked.ops_are)),
)

-- and make the text, of the lengths that are to be kept.
pub text_made : (events : List Event) (ops : List TextOp) → AreWalked events ops → changed_by_all ops [] ≡ text_of events
text_made events ops walked = ap (λ os. changed_by_all os []) walked.ops_are ∙ sym (operations_make_text events (good_from_none_bad events walked.none))

pub lengths_made : (events : List Event) (ops : List TextOp) → AreWalked events ops → lengths_through [] ops ≡ prefix_lengths events
lengths_made events ops walked = ap (lengths_through []) walked.ops_are ∙ good_lengths events (good_from_none_bad events walked.none)
