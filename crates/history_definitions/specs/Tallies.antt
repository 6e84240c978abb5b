-- What is told of answers.
use Rattle.std.specs.Prelude.{ℕ, Bool, true, false, List, count_by, flat_map, Option, Some, None, option_map}
use Rattle.std.specs.Option.{option_to_list}
use Rattle.ew_model.specs.declared.id.Id.{Id}
use Rattle.ew_model.specs.declared.verdict.Refusal.{Refusal}
use Rattle.ew_model.specs.declared.verdict.Refusal.TheVariants as why
use Rattle.ew_model.specs.Arrival.{Answer}
use Rattle.ew_model.specs.Verdicts.{Ruling, is_verdict_good}
use Rattle.ew_model.specs.Verdicts.Ruling.{Repeat, Clash, SelfParent, TooManyParents, ParentsUnsorted, PoolFull, NotReduced, Skipped, GraphFull, OutOfRange}

-- why an event isn't taken; none where it is held now, waits, or was there before
abbrev pub refusal_in : Ruling → Option Refusal
refusal_in Clash = Some why.Clash
refusal_in SelfParent = Some why.SelfParent
refusal_in TooManyParents = Some why.TooManyParents
refusal_in ParentsUnsorted = Some why.ParentsUnsorted
refusal_in PoolFull = Some why.PoolFull
refusal_in NotReduced = Some why.NotReduced
refusal_in Skipped = Some why.Skipped
refusal_in GraphFull = Some why.GraphFull
refusal_in (OutOfRange len) = Some (why.OutOfRange len)
refusal_in ruling = None

-- the event was there before
abbrev pub is_repeat : Ruling → Bool
is_repeat Repeat = true
is_repeat ruling = false

-- the event's id with the reason, where it is refused
abbrev pub refused_by : Answer → List (Id × Refusal)
refused_by a = option_to_list (option_map (λ reason. (a.event.id, reason)) (refusal_in a.ruling))

-- those that were refused, in order of judging
abbrev pub refused_in : List Answer → List (Id × Refusal)
refused_in answers = flat_map refused_by answers

-- how many were appended
abbrev pub accepted_in : List Answer → ℕ
accepted_in answers = count_by (λ (a : Answer). is_verdict_good a.ruling) answers

-- how many were there before
abbrev pub repeats_in : List Answer → ℕ
repeats_in answers = count_by (λ (a : Answer). is_repeat a.ruling) answers
