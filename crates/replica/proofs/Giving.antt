-- What is kept of events that are given one after another.
use Rattle.std.proofs.Common.{◌≡◌, suc, ◌≤◌, List, [], ◌∷◌, ◌++◌, length, Option, Some, None, false, refl, sym, ap, ◌∙◌, subst}
use Rattle.ew_model.specs.declared.id.Id.{Id}
use Rattle.ew_model.specs.declared.event.Op.{Op}
use Rattle.ew_model.specs.declared.event.Event.{Event}
use Rattle.ew_model.specs.Touches.{touches}
use Rattle.ew_model.specs.Verdicts.{Ruling, graph_verdict, is_verdict_good}
use Rattle.ew_model.specs.Verdicts.Ruling.{Good}
use Rattle.history_definitions.specs.Chains.{next_id}
use Rattle.event_graph.specs.GoingOn.{chain_behind}
use Rattle.event_graph.specs.Keeping.{IsAdmitted}
use Rattle.replica.specs.Fronts.{IsAdmittedFront}
use Rattle.replica.specs.Giving.{Given, WereGiven}
use Rattle.replica.proofs.Fronts.{admitted_joined}
use Rattle.replica.proofs.FrontWalks.{front_touches}

-- where none was refused, all are admitted
pub all_admitted : (events : List Event) (given : Given) → given.refused ≡ None → WereGiven events given → events ≡ given.admitted
all_admitted events given none were = subst (λ (r : Option Ruling). IsAdmittedFront given.admitted r events) none were.front

-- one more is given that is admitted
pub one_admitted : (events : List Event) (old new : Given) (e : Event) → old.refused ≡ None → new.refused ≡ None → graph_verdict old.admitted e ≡ Good → new.admitted ≡ old.admitted ++ e ∷ []
    → WereGiven events old → WereGiven (events ++ e ∷ []) new
one_admitted events old new e none still good more were = record {
  admitted = subst (λ (g : List Event). IsAdmitted g) (sym more) (admitted_joined [] old.admitted (e ∷ []) were.admitted (good, tt));
  front =
      subst (λ (r : Option Ruling). IsAdmittedFront new.admitted r (events ++ e ∷ [])) (sym still)
      (ap (λ (g : List Event). g ++ e ∷ []) (all_admitted events old none were) ∙ sym more);
}

-- so many more are given that are admitted
pub many_admitted : (events more : List Event) (old new : Given) → old.refused ≡ None → new.refused ≡ None → new.admitted ≡ old.admitted ++ more → IsAdmitted (old.admitted ++ more) → WereGiven events old → WereGiven (events ++ more) new
many_admitted events more old new none still grown good were = record {
  admitted = subst (λ (g : List Event). IsAdmitted g) (sym grown) good;
  front =
      subst (λ (r : Option Ruling). IsAdmittedFront new.admitted r (events ++ more)) (sym still)
      (ap (λ (g : List Event). g ++ more) (all_admitted events old none were) ∙ sym grown);
}

-- as many events go on from one as operations are given
pub chain_long : (x : Id) (ops : List Op) → length (chain_behind x ops) ≡ length ops
chain_long x [] = refl
chain_long x (op ∷ ops) = ap suc (chain_long (next_id x) ops)

-- one more is given that isn't admitted
pub one_refused : (events : List Event) (old new : Given) (e : Event) (ruling : Ruling) → old.refused ≡ None → new.refused ≡ Some ruling → graph_verdict old.admitted e ≡ ruling → is_verdict_good ruling ≡ false
    → new.admitted ≡ old.admitted → WereGiven events old → WereGiven (events ++ e ∷ []) new
one_refused events old new e ruling none told rules bad same were = record {
  admitted = subst (λ (g : List Event). IsAdmitted g) (sym same) were.admitted;
  front =
      subst (λ (r : Option Ruling). IsAdmittedFront new.admitted r (events ++ e ∷ [])) (sym told)
      (e, [], ap (λ (g : List Event). g ++ e ∷ []) (all_admitted events old none were ∙ sym same), ap (λ (g : List Event). graph_verdict g e) same ∙ rules, bad);
}

-- the touches of those admitted are among the touches of all
pub touches_given : (events : List Event) (given : Given) → WereGiven events given → touches given.admitted 0 ≤ touches events 0
touches_given events given were = front_touches given.admitted events given.refused were.front
