-- What an input means is one reading at most, so that a plan which is right for one reading is right for each.
use Rattle.std.proofs.Common.{refl, ◌≡◌, ◌∙◌, List, ℕ, length, Option, Some, None, Result, Ok, Err, IfOk, IfSome, ap, sym, subst}
use Rattle.std.specs.declared.alloc.AllocError.{AllocError}
use Rattle.ew_outside.specs.Files.{Files}
use Rattle.ew_model.specs.Limits.{LimitNumbers}
use Rattle.ew_model.specs.Kept.{ReplicaState}
use Rattle.ew_model.specs.Edits.{Edit}
use Rattle.ew_model.specs.Scripts.{Numbered, IsScript, IsFirstBadLine}
use Rattle.ew_model.proofs.ScriptReading.{scripts_are_unique, first_bad_lines_are_unique, scripts_have_no_bad_line}
use Rattle.command_table.specs.Scripts.{Reading, script, bad_line, Means}
use Rattle.command_table.specs.Table.{refuses, script_reply, input_reply, edited_reply, made_reply, opened, open_file, over_events}
use Rattle.command_table.specs.Refusals.{unreadable}
use Rattle.opened_files.specs.declared.reply.Reply as code
use Rattle.ew_outside.specs.declared.fault.Fault.{Fault}
use Rattle.opened_files.specs.Views.{reply_view}
use Rattle.line_plans.specs.Edits.{EditsTo, PlansScript, PlansInput, edits_reply}
use Rattle.line_plans.specs.Sources.{PlansBy}

pub means_once : (input : List ℕ) (x y : Reading) → Means input x → Means input y → x ≡ y
means_once input (script xs) (script ys) left right = ap script (scripts_are_unique input xs ys left right)
means_once input (script xs) (bad_line k) left right = let no : ⊥ = scripts_have_no_bad_line input xs k left right in absurd no
means_once input (bad_line j) (script ys) left right = let no : ⊥ = scripts_have_no_bad_line input ys j right left in absurd no
means_once input (bad_line j) (bad_line k) left right = ap bad_line (first_bad_lines_are_unique input j k left right)

-- what holds of one reading of an input holds of each
pub for_each : (input : List ℕ) (found : Reading) (P : Reading → Type 0) → Means input found → P found → (reading : Reading) → Means input reading → P reading
for_each input found P left h reading right = subst P (means_once input found reading left right) h

module _ (name agent input : List ℕ) (r new : ReplicaState) where
  -- an input with a bad line
  pub bad_script : (line : ℕ) → IsFirstBadLine input line → (reading : Reading) → Means input reading → refuses (unreadable line) ≡ script_reply name agent r.limits r.held reading
  bad_script line bad = for_each input (bad_line line) (λ reading. refuses (unreadable line) ≡ script_reply name agent r.limits r.held reading) bad refl

  -- a script whose edits are done, or one of them refused
  pub edits_script : (items : List (Numbered Edit)) (result : Result code.Reply AllocError) → IsScript input items → IfOk result (λ p. reply_view p ≡ edits_reply name agent r items) → PlansScript name agent r input result
  edits_script items (Ok p) is told = for_each input (script items) (λ reading. reply_view p ≡ script_reply name agent r.limits r.held reading) is told
  edits_script items (Err e) is told = tt

  -- edits of which a line is refused
  pub stopped_edits : (items : List (Numbered Edit)) (o : Option code.Reply) (p : code.Reply) → o ≡ Some p → EditsTo agent items r new (Ok o) → reply_view p ≡ edits_reply name agent r items
  stopped_edits items o p is done =
      let stop : EditsTo agent items r new (Ok (Some p)) = subst (λ x. EditsTo agent items r new (Ok x)) is done in
      stop.3 ∙ ap (edited_reply name r.limits (length r.held)) (sym stop.2)

  -- edits that are done to their end
  pub done_edits : (items : List (Numbered Edit)) (o : Option code.Reply) (before : ℕ) (result : Result code.Reply AllocError) → o ≡ None → EditsTo agent items r new (Ok o) → before ≡ length r.held
      → IfOk result (λ p. reply_view p ≡ made_reply name before new.held) → IfOk result (λ p. reply_view p ≡ edits_reply name agent r items)
  done_edits items o before (Ok p) is done count told =
      let all : EditsTo agent items r new (Ok None) = subst (λ x. EditsTo agent items r new (Ok x)) is done in
      told ∙ ap (λ n. made_reply name n new.held) count ∙ ap (edited_reply name r.limits (length r.held)) (sym all)
  done_edits items o before (Err e) is done count told = tt

-- a plan over the replica of a file that was opened
pub plans_opened :
    (name agent : List ℕ) (limits : LimitNumbers) (r : ReplicaState) (files : Option Files) (left : Option (List ℕ)) (result : Result code.Reply Fault) →
    r.limits ≡ limits → IfSome files (λ m. opened r.held ≡ open_file name limits m) → IfSome left (λ xs. PlansInput name agent r xs result) →
    PlansBy Means (λ m xs reading. over_events (input_reply name agent limits xs reading) (open_file name limits m)) files left result
plans_opened name agent limits r (Some m) (Some xs) (Ok p) same view plans =
    λ reading means.
    plans reading means ∙ ap (λ (l : LimitNumbers). input_reply name agent l xs reading r.held) same ∙ ap (over_events (input_reply name agent limits xs reading)) view
plans_opened name agent limits r (Some m) (Some xs) (Err e) same view plans = tt
plans_opened name agent limits r (Some m) None result same view plans = tt
plans_opened name agent limits r None left result same view plans = tt
