-- Which events of a network the types can hold: all, since its steps are such that can be written.
use Rattle.std.proofs.Common.{◌≡◌, ℕ, zero, suc, ◌+◌, ◌<◌, ◌≤◌, ◌^◌, true, List, [], ◌∷◌, ◌++◌, find, length, None, sym, subst, arith}
use Rattle.std.specs.List.{AllByRecursion, onto_first}
use Rattle.std.specs.Str.{all_scalars}
use Rattle.std.proofs.lemmas.Bool.{and_parts}
use Rattle.std.proofs.lemmas.List.Sums.{count_by-le-length}
use Rattle.ew_model.specs.declared.event.Event.{Event}
use Rattle.ew_model.specs.declared.event.Op.{Op}
use Rattle.ew_model.specs.declared.id.Id.{Id}
use Rattle.ew_model.specs.Ancestors.{heads}
use Rattle.ew_model.specs.Edits as edits
use Rattle.ew_model.specs.Edits.{Edit, chain_of, count_of, deletions_at, edit_refusal, events_of_edit, events_of_mark, events_of_ops, in_groups, insertions_at, joining_groups, joining_order, joins_of, knows_agent, with_front}
use Rattle.ew_model.specs.Ids.{id_cmp, name_eq}
use Rattle.ew_model.specs.Kept.{IsKept}
use Rattle.ew_model.specs.Limits.{AreLimits, LimitNumbers}
use Rattle.ew_model.specs.Names.{is_name}
use Rattle.ew_model.specs.Sorting.{sort_by}
use Rattle.ew_model.specs.Sound.{AreSound, IsSound, IsSoundId, IsSoundOp}
use Rattle.ew_model.proofs.CoverLaws.{event_of}
use Rattle.ew_model.proofs.EditHeads.{head_held}
use Rattle.ew_model.proofs.EditLaws.{edits_are_good}
use Rattle.ew_model.proofs.EditTexts.{deletions_long, insertions_long, deletions_sound}
use Rattle.ew_model.proofs.EntryLaws.{all_joined}
use Rattle.ew_model.proofs.IdLaws.{is_same_id}
use Rattle.ew_model.proofs.MarkEvents.{joins_long}
use Rattle.ew_model.proofs.MarkGroups.{found_there, front_back}
use Rattle.ew_model.proofs.PathOrder.{id_total}
use Rattle.ew_model.proofs.SortingLaws.{all_at, all_from, sort_among}
use Rattle.replica.proofs.Appends.{edit_is_small}

-- a chain of one agent's events
chain_sound : (agent : List ℕ) (n : ℕ) (parents : List Id) (ops : List Op) → is_name agent ≡ true → n + length ops < 2 ^ 32 → AllByRecursion IsSoundId parents
    → AllByRecursion IsSoundOp ops → AreSound (chain_of agent n parents ops)
chain_sound agent n parents [] name few sound can = tt
chain_sound agent n parents (op ∷ ops) name few sound can =
    let id : IsSoundId (record { agent = agent; seq = n }) = record { agent = name; seq = omega (arith, few) } in
    (record { id = id; parents = sound; op = can.0 }, chain_sound agent (n + 1) _ ops name (omega (arith, few)) (id, tt) can.1)

ins_sound : (at : ℕ) (text : List ℕ) → at + length text < 2 ^ 32 → all_scalars text ≡ true → AllByRecursion IsSoundOp (insertions_at at text)
ins_sound at [] few scalars = tt
ins_sound at (ch ∷ text) few scalars = let parts = and_parts _ (all_scalars text) scalars in (
  (omega (arith, few), parts.0),
  ins_sound
      (at + 1) text (omega (arith, few)) parts.1,
)

-- the heads are ids of events that are held
heads_sound : (history : List Event) → AreSound history → AllByRecursion IsSoundId (sort_by id_cmp (heads history))
heads_sound history sound = all_from IsSoundId (sort_by id_cmp (heads history)) (λ x m.
    let f = event_of history x (head_held history x (sort_among id_total (heads history) x m)) in
    subst IsSoundId (sym ((is_same_id x f.0.id).0 f.2)) (all_at IsSound history f.0 sound f.1).id)

-- the groups of some ids are of these ids
in_front : (x : Id) (groups : List (List Id)) → IsSoundId x → AllByRecursion (AllByRecursion IsSoundId) groups → AllByRecursion (AllByRecursion IsSoundId) (onto_first x groups)
in_front x [] sound h = ((sound, tt), tt)
in_front x (group ∷ groups) sound h = ((sound, h.0), h.1)

groups_sound : (room : ℕ) (ids : List Id) → AllByRecursion IsSoundId ids → AllByRecursion (AllByRecursion IsSoundId) (in_groups room ids)
groups_sound room [] h = (tt, tt)
groups_sound zero (x ∷ ids) h = (tt, in_front x (in_groups 14 ids) h.0 (groups_sound 14 ids h.1))
groups_sound (suc room) (x ∷ ids) h = in_front x (in_groups room ids) h.0 (groups_sound room ids h.1)

-- the heads that a mark joins
joining_sound : (history : List Event) (agent : List ℕ) → AreSound history → AllByRecursion IsSoundId (joining_order history agent)
unfolding joining_order
joining_sound history agent sound =
    let ids = sort_by id_cmp (heads history) in
    let first = find (knows_agent history agent) ids in
    all_from IsSoundId (with_front first ids)
    (λ x m. all_at IsSoundId ids x (heads_sound history sound) (front_back first ids (λ y is. (found_there (knows_agent history agent) ids y is).0) x m))

-- joins of one agent
joins_sound : (agent label : List ℕ) (n : ℕ) (before : List Id) (groups : List (List Id)) → is_name agent ≡ true → is_name label ≡ true → n + length groups < 2 ^ 32 → AllByRecursion IsSoundId before
    → AllByRecursion (AllByRecursion IsSoundId) groups → AreSound (joins_of agent label n before groups)
joins_sound agent label n before [] name named few sound all = tt
joins_sound agent label n before (group ∷ groups) name named few sound all =
    let id : IsSoundId (record { agent = agent; seq = n }) = record { agent = name; seq = omega (arith, few) } in
    let ids = all_joined IsSoundId before group sound all.0 in
    let parents = all_from IsSoundId (sort_by id_cmp (before ++ group)) (λ x m. all_at IsSoundId (before ++ group) x ids (sort_among id_total (before ++ group) x m)) in
    (record { id = id; parents = parents; op = named }, joins_sound agent label (n + 1) _ groups name named (omega (arith, few)) (id, tt) all.1)

-- an edit of characters, or a mark whose label is a name
abbrev pub CanWrite : Edit → Type 0
CanWrite (edits.Edit.Insert at text) = all_scalars text ≡ true
CanWrite (edits.Edit.Delete at n) = Unit {0}
CanWrite (edits.Edit.Mark label) = is_name label ≡ true

module _ (limits : LimitNumbers) (held waiting : List Event) (agent : List ℕ) (are : AreLimits limits) (kept : IsKept limits held waiting) (sound : AreSound held) (name : is_name agent ≡ true) where
  own_few : count_of held agent ≤ length held
  own_few = count_by-le-length (λ (e : Event). name_eq e.id.agent agent) held

  -- the events of operations
  pub ops_made : (ops : List Op) → length held + length ops ≤ 16777216 → AllByRecursion IsSoundOp ops → AreSound (events_of_ops held agent ops)
  unfolding events_of_ops
  ops_made ops few can = let count = own_few in chain_sound agent (count_of held agent) (sort_by id_cmp (heads held)) ops name (omega (arith, few, count)) (heads_sound held sound) can

  -- the events of a mark
  mark_made : (label : List ℕ) → is_name label ≡ true → length held + length (events_of_mark held agent label) ≤ 16777216 → AreSound (events_of_mark held agent label)
  unfolding events_of_mark
  mark_made label named few =
      let count = own_few in
      let long = joins_long agent label (count_of held agent) [] (joining_groups held agent) in
      joins_sound agent label (count_of held agent) [] (joining_groups held agent) name named (omega (arith, few, count, long)) tt
      (groups_sound 16 (joining_order held agent) (joining_sound held agent sound))

  pub made_sound : (edit : Edit) → CanWrite edit → edit_refusal limits held agent edit ≡ None → AreSound (events_of_edit held agent edit)
  made_sound (edits.Edit.Insert at text) can none =
      let small = edit_is_small limits held waiting agent (edits.Edit.Insert at text) kept are.few_events none in
      ops_made (insertions_at at text) (let long = insertions_long at text in omega (arith, small.1, long)) (ins_sound at text (omega (arith, small.0, small.1)) can)
  made_sound (edits.Edit.Delete at n) can none =
      let small = edit_is_small limits held waiting agent (edits.Edit.Delete at n) kept are.few_events none in
      ops_made (deletions_at at n) (let long = deletions_long at n in omega (arith, small.1, long)) (deletions_sound at n (omega (arith, small.0)))
  made_sound (edits.Edit.Mark label) can none =
      let room = (edits_are_good limits held agent (edits.Edit.Mark label) kept.orderly.good kept.few none).1 in
      mark_made label can (omega (arith, room, are.few_events))
