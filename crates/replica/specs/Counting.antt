-- What is counted while events are received.
use Rattle.std.specs.Prelude.{ℕ, ◌+◌, Bool, true, List, ◌++◌}
use Rattle.ew_model.specs.declared.id.Id.{Id}
use Rattle.ew_model.specs.declared.verdict.Refusal.{Refusal}

-- How many of the received events were judged, whether one was, so that waiting events which are ready come first, how many were
-- there before, and those that were refused.
pub record Counted : Type 0 where
  pub judged : ℕ
  pub settling : Bool
  pub repeats : ℕ
  pub refused : List (Id × Refusal)

-- so many more of the received events are judged; if any wait that are ready, they come next
abbrev pub more_judged : Counted → ℕ → Counted
more_judged c n = record { judged = c.judged + n; settling = true; repeats = c.repeats; refused = c.refused }

-- so many more were there before, and these were refused
abbrev pub with_more : Counted → ℕ → List (Id × Refusal) → Counted
with_more c repeats refused = record { judged = c.judged; settling = c.settling; repeats = c.repeats + repeats; refused = c.refused ++ refused }
