-- Which cuts of a history stop being critical when an event is appended.
use Rattle.std.proofs.Common.{◌≡◌, ℕ, suc, ◌≤◌, true, ◌&&◌, List, [], ◌∷◌, ◌++◌, length, sym, ap, ◌∙◌, append_assoc, append-nil}
use Rattle.ew_model.specs.declared.id.Id.{Id}
use Rattle.ew_model.specs.declared.event.Event.{Event}
use Rattle.ew_model.specs.Ids.{id_eq, is_among}
use Rattle.ew_model.specs.Ancestors.{is_held}
use Rattle.ew_model.specs.Ancestors.{is_reduced}
use Rattle.ew_model.specs.Verdicts.{next_verdict, IsGoodAfter, IsGood}
use Rattle.ew_model.specs.Verdicts.Ruling.{Good}
use Rattle.ew_model.specs.Cuts.{is_critical}
use Rattle.ew_model.specs.CutRule.{past_last_parent, cut_stays, CutsAfter, CutsStep}
use Rattle.ew_model.proofs.AncestorLaws.{NoneNamed}
use Rattle.ew_model.proofs.EntryLaws.{LaidOut}
use Rattle.ew_model.proofs.SortingLaws.{all_at}
use Rattle.ew_model.proofs.GoodLaws.{IsNext, next_from_good, good_laid_out}
use Rattle.ew_model.proofs.CutLaws.{start_critical}
use Rattle.ew_model.proofs.CoverLaws.{ids_alike, pass_all}
use Rattle.ew_model.proofs.CutNumbers.{cuts_change}
use Rattle.ew_model.proofs.GraphCuts as cuts

-- how far the named events reach
pub reach_within : (history : List Event) (named : List Id) → past_last_parent history named ≤ length history
reach_within history named = cuts.top_within (λ (e : Event). e.id) (λ (e : Event). e.parents) id_eq history named

pub past_last_parent_is : (front : List Event) (g : Event) (rest : List Event) (named : List Id) → is_among named g.id ≡ true → NoneNamed rest named → past_last_parent (front ++ g ∷ rest) named ≡ suc (length front)
past_last_parent_is front g rest named h none = cuts.top_is (λ (e : Event). e.id) (λ (e : Event). e.parents) id_eq front g rest named h none

-- THE RULE, for a history that is laid out and an event that may come next.
pub cut_step : (history : List Event) (e : Event) (k : ℕ) → LaidOut [] (history ++ e ∷ []) → IsNext history e → k ≤ length history → is_critical (history ++ e ∷ []) k ≡ (is_critical history k && cut_stays history e.parents k)
unfolding is_critical is_reduced
cut_step history e k laid next h =
    cuts.cut_step (λ (e : Event). e.id) (λ (e : Event). e.parents) id_eq ids_alike history e k laid (pass_all (is_held history) e.parents (λ p m. all_at (λ q. is_held history q ≡ true) e.parents p next.parents m)) next.reduced h

-- the whole length is a critical cut
pub end_critical : (history : List Event) → is_critical history (length history) ≡ true
unfolding is_critical
end_critical history = cuts.cut_at_end (λ (e : Event). e.id) (λ (e : Event). e.parents) id_eq history

pub cuts_after : (history : List Event) (e : Event) → LaidOut [] (history ++ e ∷ []) → IsNext history e → CutsAfter history e
cuts_after history e laid next =
    cuts_change is_critical history e (past_last_parent history e.parents) _ (reach_within history e.parents) start_critical end_critical (λ k h. cut_step history e k laid next h)

-- a good history's last event may come next
pub good_last : (before history : List Event) (e : Event) → IsGoodAfter before (history ++ e ∷ []) → next_verdict (before ++ history) e ≡ Good
good_last before [] e h = ap (λ w. next_verdict w e) (append-nil before) ∙ h.0
good_last before (f ∷ history) e h = ap (λ w. next_verdict w e) (sym (append_assoc before (f ∷ []) history)) ∙ good_last (before ++ f ∷ []) history e h.1

-- The law of cuts.
pub cuts_step : CutsStep
unfolding IsGood
cuts_step history e h = cuts_after history e (good_laid_out (history ++ e ∷ []) h) (next_from_good history e (good_last [] history e h))
