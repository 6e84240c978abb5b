-- Steps one after another: what the first ones print comes before what the others print.
use Rattle.std.proofs.Common.{◌≡◌, ℕ, List, [], ◌∷◌, ◌++◌, refl, sym, ap, ◌∙◌, append_assoc, append-nil}
use Rattle.peer_definitions.specs.declared.net_step.NetStep.{NetStep}
use Rattle.peer_definitions.specs.Runs.{RunOutcome, go_on, more_printed, net_run}
use Rattle.peer_definitions.specs.Runs.RunOutcome.{Ran, Broke}
use Rattle.peer_definitions.specs.Machine.{Network, Refusal, net_step}
use Rattle.peer_definitions.specs.Machine.StepOutcome.{Stepped, Refused}

-- a step that isn't refused, and then others
pub run_next : (network next : Network) (line : ℕ) (s : NetStep) (printed : List ℕ) (steps : List (ℕ × NetStep)) → net_step network s ≡ Stepped next printed
    → net_run network ((line, s) ∷ steps) ≡ more_printed printed (net_run next steps)
run_next network next line s printed steps e = ap (λ o. go_on line o (λ (n : Network). net_run n steps)) e

-- a refused one
pub run_broke : (network : Network) (line : ℕ) (s : NetStep) (why : Refusal) (steps : List (ℕ × NetStep)) → net_step network s ≡ Refused why
    → net_run network ((line, s) ∷ steps) ≡ Broke line why
run_broke network line s why steps e = ap (λ o. go_on line o (λ (n : Network). net_run n steps)) e

printed_twice : (a b : List ℕ) (o : RunOutcome) → more_printed a (more_printed b o) ≡ more_printed (a ++ b) o
printed_twice a b (Ran more) = ap Ran (sym (append_assoc a b more))
printed_twice a b (Broke line why) = refl

-- the front of a script was run up to a network, and printed this
abbrev pub HasRun : Network → List (ℕ × NetStep) → List ℕ → Network → Type 0
HasRun start front printed network = (rest : List (ℕ × NetStep)) → net_run start (front ++ rest) ≡ more_printed printed (net_run network rest)

none_printed : (o : RunOutcome) → o ≡ more_printed [] o
none_printed (Ran printed) = refl
none_printed (Broke line why) = refl

pub begins : (start : Network) → HasRun start [] [] start
begins start rest = none_printed (net_run start rest)

module _ (start network : Network) (front : List (ℕ × NetStep)) (out : List ℕ) (so_far : HasRun start front out network) (line : ℕ) (s : NetStep) where
  -- one more step
  pub goes_on : (next : Network) (printed : List ℕ) → net_step network s ≡ Stepped next printed → HasRun start (front ++ (line, s) ∷ []) (out ++ printed) next
  goes_on next printed e rest =
      ap (net_run start) (append_assoc front ((line, s) ∷ []) rest) ∙ so_far ((line, s) ∷ rest) ∙ ap (more_printed out) (run_next network next line s printed rest e)
      ∙ printed_twice out printed (net_run next rest)

  -- a refused one ends the run
  pub breaks : (why : Refusal) (rest : List (ℕ × NetStep)) → net_step network s ≡ Refused why → net_run start (front ++ (line, s) ∷ rest) ≡ Broke line why
  breaks why rest e = so_far ((line, s) ∷ rest) ∙ ap (more_printed out) (run_broke network line s why rest e)

-- what the whole printed
pub has_run : (start network : Network) (front : List (ℕ × NetStep)) (out : List ℕ) → HasRun start front out network → net_run start front ≡ Ran out
has_run start network front out so_far = ap (net_run start) (sym (append-nil front)) ∙ so_far [] ∙ ap Ran (append-nil out)
