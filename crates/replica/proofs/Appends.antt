-- What an edit makes may be appended, and what is kept after it.
use Rattle.std.proofs.Common.{◌≡◌, ℕ, ◌+◌, ◌≤◌, false, List, [], ◌∷◌, ◌++◌, map, length, length-append, None, sym, ap, ◌∙◌, subst, arith}
use Rattle.std.proofs.lemmas.List.{length-map}
use Rattle.ew_model.specs.declared.event.Op.{Op}
use Rattle.ew_model.specs.declared.event.Event.{Event}
use Rattle.ew_model.specs.declared.text_op.TextOp.{TextOp}
use Rattle.ew_model.specs.Limits.{LimitNumbers}
use Rattle.ew_model.specs.Operations.{changed_by, changed_by_all}
use Rattle.ew_model.specs.Texts.{text_of}
use Rattle.ew_model.specs.TextLaws.{own_change}
use Rattle.ew_model.specs.Verdicts.{IsGood}
use Rattle.ew_model.specs.Kept.{IsKept, ReplicaState, is_awaited}
use Rattle.ew_model.specs.Edits.{Edit, ops_of, events_of_ops, events_of_edit, needed_length, edit_refusal}
use Rattle.ew_model.specs.Edits.Edit.{Insert, Delete, Mark}
use Rattle.ew_model.specs.EditLaws.{number_made, size_of}
use Rattle.ew_model.proofs.EditEvents.{MayDo, ops_done}
use Rattle.ew_model.proofs.EditLaws.{IsOfText, edits_are_good, edits_change_text, fresh_behind, may_edit, ops_long, ops_of_agent, not_refused as allowed}
use Rattle.ew_model.proofs.TextLengths.{length_changed, text_is_short}
use Rattle.rope.specs.Lengths.{AllStayShort}
use Rattle.waiting_pool.specs.Waiting.{Waiting, events_of}
use Rattle.waiting_pool.proofs.Behind.{behind_more}
use Rattle.replica.specs.Appending.{CanAppend}
use Rattle.replica.specs.Keeping.{IsUpToDate}
use Rattle.replica.specs.Lengths.{prefix_lengths, lengths_through}
use Rattle.replica.proofs.EditCuts.{edit_cut}
use Rattle.replica.proofs.EditLengths.{ops_lengths}
use Rattle.replica.proofs.Fronts.{made_admitted}
use Rattle.replica.proofs.LengthLaws.{prefix_lengths-append}

-- texts that few operations lead through are short
pub stay_short : (t : List ℕ) (changes : List TextOp) → length t + length changes ≤ 16777216 → AllStayShort t changes
stay_short t [] h = omega (arith, h)
stay_short t (op ∷ changes) h = (omega (arith, h), stay_short (changed_by op t) changes (omega (arith, h, length_changed op t)))

-- Operations that an agent may do, for which no waiting event waits and there is room, may be appended.
pub can_append_ops : (limits : LimitNumbers) (held waiting : List Event) (agent : List ℕ) (ops : List Op) → IsKept limits held waiting → is_awaited held waiting agent ≡ false → limits.events ≤ 16777216
    → MayDo held ops → length held + length ops ≤ limits.events → CanAppend limits held waiting (events_of_ops held agent ops) (map own_change ops)
can_append_ops limits held waiting agent ops kept awaited few may room =
    let made = events_of_ops held agent ops in
    let done = ops_done held agent ops may in
    record {
      kept = record {
        orderly = record { good = done.good; fresh = fresh_behind held waiting agent made (ops_of_agent held agent ops) kept.orderly.fresh awaited; apart = kept.orderly.apart };
        few = omega (arith, length-append held made, ops_long held agent ops, room);
        few_wait = kept.few_wait;
      };
      admitted = made_admitted held made done.good;
      cut = edit_cut held agent ops done.good;
      fit = may.fit;
      short = stay_short (text_of held) (map own_change ops) (omega (arith, length-map ops own_change, text_is_short held may.good, room, few));
      lengths = ops_lengths held agent ops may;
      text = sym done.text;
    }

-- So may those of an edit that isn't refused.
pub can_append : (limits : LimitNumbers) (held waiting : List Event) (agent : List ℕ) (edit : Edit) → IsOfText held agent edit → IsKept limits held waiting → is_awaited held waiting agent ≡ false → limits.events ≤ 16777216
    → edit_refusal limits held agent edit ≡ None → CanAppend limits held waiting (events_of_edit held agent edit) (map own_change (ops_of edit))
can_append limits held waiting agent edit text kept awaited few none =
    let ops = ops_of edit in
    let made : length (events_of_edit held agent edit) ≡ length ops = ap length text.events ∙ ops_long held agent ops in
    let room = (edits_are_good limits held agent edit kept.orderly.good kept.few none).1 in
    subst (λ es. CanAppend limits held waiting es (map own_change ops)) (sym text.events)
    (can_append_ops limits held waiting agent ops kept awaited few (may_edit limits held agent edit text kept.orderly.good none) (omega (arith, made, room)))

-- what was appended is up to date
pub appended : (limits : LimitNumbers) (held : List Event) (pool : Waiting) (made : List Event) (changes : List TextOp) (text lengths : List ℕ) → IsUpToDate limits held pool text lengths → CanAppend limits held (events_of pool) made changes
    → IsUpToDate limits (held ++ made) pool (changed_by_all changes text) (lengths ++ lengths_through text changes)
appended limits held pool made changes text lengths now can = record {
  kept = can.kept;
  limit = now.limit;
  behind = behind_more held made pool now.behind;
  text_is = ap (changed_by_all changes) now.text_is ∙ can.text;
  lengths_are =
      ap (λ ls. ls ++ lengths_through text changes) now.lengths_are
      ∙ (ap (λ ls. prefix_lengths held ++ ls) (ap (λ t. lengths_through t changes) now.text_is ∙ can.lengths) ∙ sym (prefix_lengths-append held made));
}

-- numbers in the bounds of their types
small_size : (held : List Event) (edit : Edit) → size_of edit ≤ number_made held edit
small_size held (Insert at text) = omega arith
small_size held (Delete at count) = omega arith
small_size held (Mark label) = omega arith

pub edit_is_small : (limits : LimitNumbers) (held waiting : List Event) (agent : List ℕ) (edit : Edit) → IsKept limits held waiting → limits.events ≤ 16777216 → edit_refusal limits held agent edit ≡ None
    → (needed_length edit ≤ 16777216) × (length held + size_of edit ≤ 16777216)
edit_is_small limits held waiting agent edit kept few none =
    let good : IsGood held = kept.orderly.good in (
      omega (arith, (allowed limits held agent edit none).inside, text_is_short held good, kept.few, few),
      omega (arith, small_size held edit, (edits_change_text limits held agent edit good none).1, (edits_are_good limits held agent edit good kept.few none).1, few),
    )

-- what isn't refused of a state isn't refused of one that is the same
pub not_refused : (agent : List ℕ) (edit : Edit) (inside now : ReplicaState) → inside ≡ now → edit_refusal now.limits now.held agent edit ≡ None → edit_refusal inside.limits inside.held agent edit ≡ None
not_refused agent edit inside now same none = ap (λ (s : ReplicaState). edit_refusal s.limits s.held agent edit) same ∙ none
