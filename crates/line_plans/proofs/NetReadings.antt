-- What an input means to a net is one reading at most, so that a plan which is right for one reading is right for each.
use Rattle.std.proofs.Common.{◌≡◌, ◌≤◌, ◌+◌, ◌∙◌, ℕ, Bool, true, false, ◌==◌, if◌then◌else◌, List, [], ◌∷◌, length, map, Result, Ok, Err, IfOk, refl, sym, ap, subst, arith}
use Rattle.std.specs.List.{onto_first}
use Rattle.std.specs.declared.alloc.AllocError.{AllocError}
use Rattle.ew_model.specs.Limits.{LimitNumbers}
use Rattle.ew_model.specs.Scripts.{Numbered, LinesMean, lines_of}
use Rattle.ew_model.proofs.LineLaws.{all_readable, first_unreadable_once, lines_mean_once}
use Rattle.peer_definitions.specs.declared.net_step.NetStep.{NetStep}
use Rattle.peer_definitions.specs.NetScripts.{IsNetScript, IsFirstBadNetLine, MeansStep, numbered_steps}
use Rattle.peer_definitions.specs.Runs.{net_run}
use Rattle.peer_definitions.specs.Machine.{empty_network}
use Rattle.command_table.specs.Scripts.{NetReading, net_script, bad_net_line, MeansNet}
use Rattle.command_table.specs.Table.{refuses, net_run_reply, net_script_reply}
use Rattle.command_table.specs.Refusals.{unreadable}
use Rattle.opened_files.specs.declared.reply.Reply as code
use Rattle.opened_files.specs.Views.{reply_view}
use Rattle.line_plans.specs.Nets.{MayNetScript, PlansNetScript}
use Rattle.line_plans.proofs.OneStep.{lines_mean_one_step}

-- the pairs of numbered steps
abbrev pairs : List (Numbered NetStep) → List (ℕ × NetStep)
pairs items = map (λ (x : Numbered NetStep). (x.line, x.item)) items

pairs_again : (steps : List (ℕ × NetStep)) → pairs (numbered_steps steps) ≡ steps
pairs_again [] = refl
pairs_again (x ∷ steps) = ap (λ xs. x ∷ xs) (pairs_again steps)

means_net_once : (input : List ℕ) (x y : NetReading) → MeansNet input x → MeansNet input y → x ≡ y
means_net_once input (net_script xs) (net_script ys) left right =
    let same = lines_mean_once MeansStep lines_mean_one_step 1 (lines_of input) (numbered_steps xs) (numbered_steps ys) left right in
    ap net_script (sym (pairs_again xs) ∙ ap pairs same ∙ pairs_again ys)
means_net_once input (net_script xs) (bad_net_line k) left right = let no : ⊥ = all_readable MeansStep 1 (lines_of input) (numbered_steps xs) k left right in absurd no
means_net_once input (bad_net_line j) (net_script ys) left right = let no : ⊥ = all_readable MeansStep 1 (lines_of input) (numbered_steps ys) j right left in absurd no
means_net_once input (bad_net_line j) (bad_net_line k) left right = ap bad_net_line (first_unreadable_once MeansStep 1 (lines_of input) j k left right)

module _ (limits : LimitNumbers) (input : List ℕ) where
  -- an input with a bad line
  pub bad_script : (line : ℕ) → IsFirstBadNetLine input line → (reading : NetReading) → MeansNet input reading → refuses (unreadable line) ≡ net_script_reply limits reading
  bad_script line bad reading means = subst (λ r. refuses (unreadable line) ≡ net_script_reply limits r) (means_net_once input (bad_net_line line) reading bad means) refl

  -- a script whose steps were run, or one of them refused
  pub steps_script : (steps : List (ℕ × NetStep)) (result : Result code.Reply AllocError) → IsNetScript input (numbered_steps steps)
      → IfOk result (λ p. reply_view p ≡ net_run_reply limits (net_run (empty_network limits) steps)) → PlansNetScript limits input result
  steps_script steps (Ok p) is told = λ reading means. subst (λ r. reply_view p ≡ net_script_reply limits r) (means_net_once input (net_script steps) reading is means) told
  steps_script steps (Err e) is told = tt

  pub may_script : (steps : List (ℕ × NetStep)) (result : Result code.Reply AllocError) → IsNetScript input (numbered_steps steps)
      → IfOk result (λ p. reply_view p ≡ net_run_reply limits (net_run (empty_network limits) steps)) → MayNetScript limits input result
  may_script steps (Ok p) is told = (net_script steps, is, told)
  may_script steps (Err e) is told = tt

-- ---- a script has no more steps than bytes

one_line_more : (ends : Bool) (b : ℕ) (lines : List (List ℕ)) (n : ℕ) → length lines ≤ n → length (if ends then [] ∷ lines else onto_first b lines) ≤ n + 1
one_line_more true b lines n h = omega (arith, h)
one_line_more false b [] n h = omega arith
one_line_more false b (line ∷ lines) n h = omega (arith, h)

few_lines : (bytes : List ℕ) → length (lines_of bytes) ≤ length bytes
few_lines [] = omega arith
few_lines (b ∷ bytes) = let more = one_line_more (b == 10) b (lines_of bytes) (length bytes) (few_lines bytes) in omega (arith, more)

few_items : (n : ℕ) (lines : List (List ℕ)) (items : List (Numbered NetStep)) → LinesMean MeansStep n lines items → length items ≤ length lines
few_items n [] [] h = omega arith
few_items n [] (x ∷ items) h = absurd h
few_items n ([] ∷ lines) items h = let few = few_items (n + 1) lines items h in omega (arith, few)
few_items n ((b ∷ line) ∷ lines) [] h = absurd h
few_items n ((b ∷ line) ∷ lines) (x ∷ items) h = let few = few_items (n + 1) lines items h.2 in omega (arith, few)

as_many : (steps : List (ℕ × NetStep)) → length (numbered_steps steps) ≡ length steps
as_many [] = refl
as_many (x ∷ steps) = let same = as_many steps in omega (arith, same)

pub few_steps : (input : List ℕ) (steps : List (ℕ × NetStep)) → IsNetScript input (numbered_steps steps) → length steps ≤ length input
few_steps input steps is =
    let items = few_items 1 (lines_of input) (numbered_steps steps) is in
    let lines = few_lines input in
    omega (arith, items, lines, as_many steps)
