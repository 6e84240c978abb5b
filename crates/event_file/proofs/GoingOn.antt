-- The record of an event that goes on from the last one.
use Rattle.std.proofs.Common.{◌≡◌, ℕ, suc, false, List, [], ◌∷◌, Option, Some, Ok, not, refl, ap, ◌∙◌}
use Rattle.std.specs.Prelude.{nat_le, slice_get}
use Rattle.ew_model.specs.declared.id.Id.{Id}
use Rattle.ew_model.specs.declared.event.Op.{Op}
use Rattle.ew_model.specs.declared.event.Event.{Event}
use Rattle.ew_model.specs.Ids.{ids_ascend}
use Rattle.ew_model.specs.Ancestors.{ids_of, is_held}
use Rattle.file_words.specs.FileFaults.{Reader, done, ◌>>=◌, field, only, number, byte, open_agents, read_parents, read_op, read_record}
use Rattle.file_words.specs.FileFaults.RecordFault.{AgentNumber, IdTwice, ParentCount, ParentPosition, ParentOrder}
use Rattle.file_words.proofs.FileFields.{field_again, tested_again, then_again}
use Rattle.history_definitions.specs.Chains.{next_id, event_behind}

one_parent : (ids : List Id) (position : ℕ) (x : Id) (bytes left : List ℕ) → number bytes ≡ Ok (position, left) → slice_get ids position ≡ Some x → read_parents ids [] 1 bytes ≡ Ok (x ∷ [], left)
unfolding read_parents
one_parent ids position x bytes left read at =
    let placed = field_again number (slice_get ids) ParentPosition bytes left position x read at in
    then_again (field (field number (slice_get ids) ParentPosition) (only (λ y. ids_ascend (y ∷ []))) ParentOrder) (λ y. read_parents ids (y ∷ []) 0) bytes (x, left)
    (tested_again (field number (slice_get ids) ParentPosition) (λ y. ids_ascend (y ∷ [])) ParentOrder bytes left x placed refl)

-- what is read where the record says that its event goes on from the one at this position
pub record_behind : (agents : List (List ℕ)) (events : List Event) (x : Id) (op : Op) (place position : ℕ) (bytes behind_place behind_seq behind_count behind_parent left : List ℕ)
    → number bytes ≡ Ok (place, behind_place) → slice_get (open_agents agents events) place ≡ Some x.agent
    → number behind_place ≡ Ok (suc x.seq, behind_seq) → is_held events (next_id x) ≡ false
    → byte behind_seq ≡ Ok (1, behind_count)
    → number behind_count ≡ Ok (position, behind_parent) → slice_get (ids_of events) position ≡ Some x
    → read_op behind_parent ≡ Ok (op, left)
    → read_record agents events bytes ≡ Ok (event_behind x op, left)
unfolding read_record
record_behind agents events x op place position bytes behind_place behind_seq behind_count behind_parent left place_read is_open seq_read new count_read position_read at op_read =
    then_again (field number (slice_get (open_agents agents events)) AgentNumber) with_agent bytes (x.agent, behind_place) (field_again number (slice_get (open_agents agents events)) AgentNumber bytes behind_place place x.agent place_read is_open)
    ∙ then_again (field number (id_for x.agent) IdTwice) with_id behind_place (next_id x, behind_seq) (field_again number (id_for x.agent) IdTwice behind_place behind_seq (suc x.seq) (next_id x) seq_read (ap (λ b. only (λ (y : Id). not b) (next_id x)) new))
    ∙ then_again (field byte (only (λ n. nat_le n 16)) ParentCount) (with_count (next_id x)) behind_seq (1, behind_count) (tested_again byte (λ n. nat_le n 16) ParentCount behind_seq behind_count 1 count_read refl)
    ∙ then_again (read_parents (ids_of events) [] 1) (with_parents (next_id x)) behind_count (x ∷ [], behind_parent) (one_parent (ids_of events) position x behind_count behind_parent position_read at)
    ∙ then_again read_op (with_op (next_id x) (x ∷ [])) behind_parent (op, left) op_read
  where
    id_for : List ℕ → ℕ → Option Id
    id_for agent seq = only (λ y. not (is_held events y)) (record { agent = agent; seq = seq })

    with_op : Id → List Id → Op → Reader Event
    with_op id parents o = done (record { id = id; parents = parents; op = o })

    with_parents : Id → List Id → Reader Event
    with_parents id parents = read_op >>= with_op id parents

    with_count : Id → ℕ → Reader Event
    with_count id count = read_parents (ids_of events) [] count >>= with_parents id

    with_id : Id → Reader Event
    with_id id = field byte (only (λ n. nat_le n 16)) ParentCount >>= with_count id

    with_agent : List ℕ → Reader Event
    with_agent agent = field number (id_for agent) IdTwice >>= with_id
