-- What a watch comes to by what its input means.
use Rattle.std.proofs.Common.{◌≡◌, ◌⊎◌, inl, inr, ℕ, List, [], Option, None, Some, Result, Ok, sym, ap, subst, ◌∙◌}
use Rattle.ew_model.specs.declared.event.Event.{Event}
use Rattle.ew_model.specs.Edits.{Edit}
use Rattle.ew_model.specs.Limits.{LimitNumbers}
use Rattle.ew_model.specs.Scripts.{Numbered, IsScript, IsFirstBadLine}
use Rattle.ew_model.proofs.ScriptReading.{bytes_are_judged, first_bad_lines_are_unique, scripts_are_unique, scripts_have_no_bad_line}
use Rattle.ew_outside.specs.Seen.{SinkSeen}
use Rattle.command_table.specs.Journals.{watch_end, watch_script, kept_watch}
use Rattle.command_table.specs.Refusals.{unreadable}
use Rattle.command_table.specs.Scripts.{Reading, script, bad_line, Means, Watched, told_of, watched_by}
use Rattle.command_table.specs.Table.{prints, refuses}
use Rattle.opened_files.specs.declared.reply.Reply as code
use Rattle.opened_files.specs.Views.{reply_view}
use Rattle.journal_plans.specs.Keeping.{EndsAs, PrintsLines}
use Rattle.journal_plans.specs.Watching.{FollowsWatch}
use Rattle.journal_plans.specs.declared.stop.Stop.{Stop}
use Rattle.journal_plans.proofs.Watching.{sends_nothing, sends_on}
use Rattle.line_plans.proofs.Readings.{for_each}

-- each input means something
pub some_reading : (input : List ℕ) → (reading : Reading) × Means input reading
some_reading input = by (bytes_are_judged input)
  where
    by : ((edits : List (Numbered Edit)) × IsScript input edits) ⊎ ((bad : ℕ) × IsFirstBadLine input bad) → (reading : Reading) × Means input reading
    by (inl h) = (script h.0, h.1)
    by (inr h) = (bad_line h.0, h.1)

-- a line of the script isn't readable
pub follows_bad : (agent : List ℕ) (limits : LimitNumbers) (held : List Event) (input : List ℕ) (line : ℕ) (out : SinkSeen) (p : code.Reply) → IsFirstBadLine input line → reply_view p ≡ refuses (unreadable line)
    → (reading : Reading) → Means input reading → FollowsWatch (watch_script agent limits held reading).session out out (Ok p)
follows_bad agent limits held input line out p bad view = for_each input (bad_line line) (λ reading. FollowsWatch (watch_script agent limits held reading).session out out (Ok p)) bad (view, sends_nothing out)

-- the script's lines were kept, and one of them was refused
pub follows_refused : (limits : LimitNumbers) (w : Watched) (out out' : SinkSeen) (p : code.Reply) (o : Option code.Reply) → o ≡ Some p → EndsAs limits w (Ok o) → PrintsLines w.kept out out' (Ok o)
    → FollowsWatch (kept_watch limits w).session out out' (Ok p)
follows_refused limits w out out' p (Some q) is ends tells =
    let same : q ≡ p = cc in
    (subst (λ (r : code.Reply). reply_view r ≡ watch_end limits w.stopped) same (ends.2 ∙ ap (watch_end limits) (sym ends.1)), sends_on out out' (told_of w.kept) tells)
follows_refused limits w out out' p None is ends tells = absurd cc

-- or none was
pub follows_done : (limits : LimitNumbers) (w : Watched) (out out' : SinkSeen) (p : code.Reply) (o : Option code.Reply) → o ≡ None → EndsAs limits w (Ok o) → PrintsLines w.kept out out' (Ok o) → reply_view p ≡ prints []
    → FollowsWatch (kept_watch limits w).session out out' (Ok p)
follows_done limits w out out' p None is ends tells view = (view ∙ ap (watch_end limits) (sym ends), sends_on out out' (told_of w.kept) tells)
follows_done limits w out out' p (Some q) is ends tells view = absurd cc

module _ (agent : List ℕ) (limits : LimitNumbers) (held : List Event) (input : List ℕ) (items : List (Numbered Edit)) (is : IsScript input items) (w : Watched) (w_is : w ≡ watched_by limits agent held items) where
  -- what holds of the script's edits holds of whatever the input means
  pub session_of_script : (out out' : SinkSeen) (result : Result code.Reply Stop) → FollowsWatch (kept_watch limits w).session out out' result
      → (reading : Reading) → Means input reading → FollowsWatch (watch_script agent limits held reading).session out out' result
  session_of_script out out' result h =
      for_each input (script items) (λ reading. FollowsWatch (watch_script agent limits held reading).session out out' result) is
      (subst (λ (x : Watched). FollowsWatch (kept_watch limits x).session out out' result) w_is h)

  pub some_of_script : (out out' : SinkSeen) (result : Result code.Reply Stop) → FollowsWatch (kept_watch limits w).session out out' result
      → (reading : Reading) × Means input reading × FollowsWatch (watch_script agent limits held reading).session out out' result
  some_of_script out out' result h = (script items, is, subst (λ (x : Watched). FollowsWatch (kept_watch limits x).session out out' result) w_is h)

  pub kept_of_script : (P : List (List Event) → Type 0) → P w.kept → (reading : Reading) → Means input reading → P (watch_script agent limits held reading).kept
  kept_of_script P h = for_each input (script items) (λ reading. P (watch_script agent limits held reading).kept) is (subst (λ (x : Watched). P x.kept) w_is h)
