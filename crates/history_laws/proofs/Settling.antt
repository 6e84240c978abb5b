-- Receiving leaves no waiting event ready.
use Rattle.std.proofs.Common.{ℕ, zero, suc, Bool, true, inl, inr, List, Option, sym, subst}
use Rattle.ew_model.specs.declared.event.Event.{Event}
use Rattle.ew_model.specs.Arrival.{Desk, Judgement, arrive, desk_of, judgements, most_judgements}
use Rattle.ew_model.specs.ArrivalLaw.{NoneReady}
use Rattle.ew_model.specs.Limits.{LimitNumbers}
use Rattle.ew_model.proofs.ArrivalRuns.{ended}
use Rattle.ew_model.proofs.ArrivalsEnd.{arrivals_end}
use Rattle.ew_model.proofs.RoundLaws.{then}
use Rattle.history_laws.proofs.Thinning.{IsCalm, Step, step}

calm_then : (limits : LimitNumbers) (b : Bool) (old : List Event) (n : ℕ) (d : Desk) → Step limits b old d → IsCalm old d
    → ((a : Desk) → IsCalm old a → IsCalm old (judgements limits b n a).desk) → IsCalm old (judgements limits b (suc n) d).desk
calm_then limits b old n d (inl ends) calm f = subst (λ (o : Option Judgement). IsCalm old (then limits b n d o).desk) (sym ends.here) calm
calm_then limits b old n d (inr (inl skips)) calm f = subst (λ (o : Option Judgement). IsCalm old (then limits b n d o).desk) (sym skips.here) (f skips.judgement.desk skips.calm)
calm_then limits b old n d (inr (inr goes)) calm f = subst (λ (o : Option Judgement). IsCalm old (then limits b n d o).desk) (sym goes.here) (f goes.judgement.desk goes.calm)

calm_all : (limits : LimitNumbers) (b : Bool) (old : List Event) (n : ℕ) (d : Desk) → IsCalm old d → IsCalm old (judgements limits b n d).desk
calm_all limits b old zero d calm = calm
calm_all limits b old (suc n) d calm = calm_then limits b old n d (step limits b old d calm) calm (λ a. calm_all limits b old n a)

-- where none was ready before, none is ready behind it
pub none_ready_behind : (limits : LimitNumbers) (history waiting events : List Event) → NoneReady history waiting
    → NoneReady (arrive limits history waiting events).desk.held (arrive limits history waiting events).desk.waiting
unfolding arrive
none_ready_behind limits history waiting events none =
    let d = desk_of history waiting events in
    let calm = calm_all limits true history (most_judgements d) d (record { more = λ x h. h; still = λ h. none }) in
    (ended limits (arrive limits history waiting events).desk (arrivals_end limits history waiting events) calm.still).0
