-- What a mark leaves: its events may be held, the text stays, and each length is that of the text.
use Rattle.std.proofs.Common.{◌≡◌, ℕ, ◌+◌, ◌<◌, ◌≤◌, ◌==◌, nat_lt, false, cond, List, [], ◌∷◌, ◌++◌, length, replicate, Some, None, refl, sym, ap, ◌∙◌, arith}
use Rattle.std.proofs.lemmas.Bool.{le-ltb, lt-ltb, eqb-true, false_from_ne_true}
use Rattle.ew_model.specs.declared.id.Id.{Id}
use Rattle.ew_model.specs.declared.event.Event.{Event}
use Rattle.ew_model.specs.Ancestors.{heads}
use Rattle.ew_model.specs.Limits.{LimitNumbers}
use Rattle.ew_model.specs.Texts.{text_of}
use Rattle.ew_model.specs.Kept.{IsKept, is_awaited}
use Rattle.ew_model.specs.Verdicts.{IsGood}
use Rattle.ew_model.specs.Edits.{joining_groups, events_of_mark, edit_refusal}
use Rattle.ew_model.specs.Edits.Edit.{Mark}
use Rattle.ew_model.specs.Edits.EditRefusal.{OutOfRange, TooManyHeads, Full}
use Rattle.ew_model.proofs.EditLaws.{edits_keep}
use Rattle.ew_model.proofs.MarkGroups.{joined}
use Rattle.ew_model.proofs.MarkEvents.{join_by, MayJoinAll, may_first, may_further, has_joined, joins_behind, joins_go_on, may_mark, mark_done, mark_long}
use Rattle.waiting_pool.specs.Waiting.{Waiting, events_of}
use Rattle.waiting_pool.proofs.Behind.{behind_more}
use Rattle.replica.specs.Keeping.{IsUpToDate}
use Rattle.replica.specs.Lengths.{prefix_lengths, lengths_after}
use Rattle.replica.specs.Marking.{CanMark}
use Rattle.replica.proofs.Fronts.{made_admitted}
use Rattle.replica.proofs.LengthLaws.{prefix_lengths-append}

-- the lengths after events of a mark
same_lengths : (history : List Event) (agent label : List ℕ) (before : List Id) (groups : List (List Id)) → MayJoinAll history agent before groups
    → lengths_after history (joins_behind history agent label before groups) ≡ replicate (length (joins_behind history agent label before groups)) (length (text_of history))
same_lengths history agent label before [] may = refl
same_lengths history agent label before (group ∷ groups) may =
    let e = join_by history agent label (before ++ group) in
    let come = has_joined history agent label (before ++ group) (joined groups) (may_first history agent before group groups may) in
    let later = joins_behind (history ++ e ∷ []) agent label (e.id ∷ []) groups in
    let on : joins_behind history agent label before (group ∷ groups) ≡ e ∷ later = joins_go_on history agent label before group groups come in
    let more : lengths_after (history ++ e ∷ []) later ≡ replicate (length later) (length (text_of (history ++ e ∷ []))) =
    same_lengths (history ++ e ∷ []) agent label (e.id ∷ []) groups (may_further history agent label before group groups may come) in
    let rest : lengths_after (history ++ e ∷ []) later ≡ replicate (length later) (length (text_of history)) =
    more ∙ ap (λ t. replicate (length later) (length t)) come.text_then in
    ap (lengths_after history) on
    ∙ (λ i. length (come.text_then i) ∷ rest i)
    ∙ ap (λ es. replicate (length es) (length (text_of history))) (sym on)

pub mark_lengths : (history : List Event) (agent label : List ℕ) → IsGood history
    → lengths_after history (events_of_mark history agent label) ≡ replicate (length (events_of_mark history agent label)) (length (text_of history))
unfolding events_of_mark
mark_lengths history agent label good = same_lengths history agent label [] (joining_groups history agent) (may_mark history agent good)

not_none : (n : ℕ) → 1 ≤ n → (n == 0) ≡ false
not_none n some = false_from_ne_true (n == 0) (λ e. absurd (let none = eqb-true n 0 e in omega (arith, none, some)))

-- A mark is refused only where its events are more than there is room for.
pub mark_refusal : (limits : LimitNumbers) (history : List Event) (agent label : List ℕ) → IsGood history
    → edit_refusal limits history agent (Mark label) ≡ cond (nat_lt limits.events (length history + length (events_of_mark history agent label))) (Some (Full (length history))) None
unfolding edit_refusal
mark_refusal limits history agent label good =
    let made = length (events_of_mark history agent label) in
    let inside : nat_lt (length (text_of history)) 0 ≡ false = le-ltb (length (text_of history)) 0 (omega arith) in
    let some : (made == 0) ≡ false = not_none made (let long = mark_long history agent label good in omega (arith, long)) in
    λ i. cond (inside i) (Some (OutOfRange (length (text_of history))))
    (cond (some i) None
    (cond false (Some (TooManyHeads (length (heads history))))
    (cond (nat_lt limits.events (length history + made)) (Some (Full (length history))) None)))

pub mark_allowed : (limits : LimitNumbers) (history : List Event) (agent label : List ℕ) (made : List Event) → IsGood history → made ≡ events_of_mark history agent label → length history + length made ≤ limits.events
    → edit_refusal limits history agent (Mark label) ≡ None
mark_allowed limits history agent label made good is room =
    mark_refusal limits history agent label good
    ∙ ap (λ (es : List Event). cond (nat_lt limits.events (length history + length es)) (Some (Full (length history))) None) (sym is)
    ∙ ap (λ b. cond b (Some (Full (length history))) None) (le-ltb limits.events (length history + length made) room)

pub mark_full : (limits : LimitNumbers) (history : List Event) (agent label : List ℕ) (made : List Event) → IsGood history → made ≡ events_of_mark history agent label → limits.events < length history + length made
    → edit_refusal limits history agent (Mark label) ≡ Some (Full (length history))
mark_full limits history agent label made good is over =
    mark_refusal limits history agent label good
    ∙ ap (λ (es : List Event). cond (nat_lt limits.events (length history + length es)) (Some (Full (length history))) None) (sym is)
    ∙ ap (λ b. cond b (Some (Full (length history))) None) (lt-ltb limits.events (length history + length made) over)

-- the events of a mark that isn't refused may be appended
pub can_mark : (limits : LimitNumbers) (held waiting : List Event) (agent label : List ℕ) → IsKept limits held waiting → is_awaited held waiting agent ≡ false → edit_refusal limits held agent (Mark label) ≡ None
    → CanMark limits held waiting (events_of_mark held agent label)
can_mark limits held waiting agent label kept awaited none =
    let made = events_of_mark held agent label in
    let good : IsGood held = kept.orderly.good in
    let after : IsKept limits (held ++ made) waiting = edits_keep limits held waiting agent (Mark label) kept awaited none in
    record {
      kept = after;
      admitted = made_admitted held made after.orderly.good;
      text = (mark_done held agent label good).text;
      lengths = mark_lengths held agent label good;
    }

-- what was appended is up to date
pub marked : (limits : LimitNumbers) (held : List Event) (pool : Waiting) (made : List Event) (text lengths : List ℕ) (len : ℕ) → IsUpToDate limits held pool text lengths → CanMark limits held (events_of pool) made → len ≡ length text
    → IsUpToDate limits (held ++ made) pool text (lengths ++ replicate (length made) len)
marked limits held pool made text lengths len now can is = record {
  kept = can.kept;
  limit = now.limit;
  behind = behind_more held made pool now.behind;
  text_is = now.text_is ∙ sym can.text;
  lengths_are =
      ap (λ ls. ls ++ replicate (length made) len) now.lengths_are
      ∙ ap (λ n. prefix_lengths held ++ replicate (length made) n) (is ∙ ap length now.text_is)
      ∙ ap (λ ls. prefix_lengths held ++ ls) (sym can.lengths)
      ∙ sym (prefix_lengths-append held made);
}
