-- The laws of local edits: an edit that isn't refused makes good events, changes the text at its index, leaves one head, and
-- keeps what a replica keeps.
use Rattle.std.proofs.Common.{◌≡◌, ℕ, suc, ◌+◌, ◌≤◌, nat_lt, Bool, true, false, not, cond, ◌&&◌, ◌||◌, ◌⊎◌, inl, inr, ⊎_elim, List, [], ◌∷◌, ◌++◌, length, Some, None, refl, sym, ap, ◌∙◌, subst, length-append, arith}
use Rattle.std.specs.List.{list_any}
use Rattle.std.proofs.lemmas.Bool.{ltb-false, eqb-true, false≢true, false_from_ne_true, or_parts, or_from}
use Rattle.ew_model.specs.declared.id.Id.{Id}
use Rattle.ew_model.specs.declared.event.Op.{Op}
use Rattle.ew_model.specs.declared.event.Event.{Event}
use Rattle.ew_model.specs.Ids.{name_eq, id_eq}
use Rattle.ew_model.specs.Ancestors.{is_held, heads}
use Rattle.ew_model.specs.Limits.{LimitNumbers}
use Rattle.ew_model.specs.Texts.{text_of}
use Rattle.ew_model.specs.Verdicts.{IsGood}
use Rattle.ew_model.specs.Kept.{AreFresh, is_awaited}
use Rattle.ew_model.specs.Edits.{Edit, chain_of, ops_of, events_of_ops, events_of_edit, EditRefusal, needed_length, needs_few_heads, edit_refusal}
use Rattle.ew_model.specs.Edits.Edit.{Insert, Delete, Mark}
use Rattle.ew_model.specs.EditLaws.{edited, size_of, number_made, EditsAreGood, EditsKeep, EditsChangeText, HeadsAfterEdit}
use Rattle.ew_model.proofs.IdLaws.{is_same_id, names_equal}
use Rattle.ew_model.proofs.KeptLaws.{held_joined}
use Rattle.ew_model.proofs.EditEvents.{FewHeads, MayDo, ops_done, last_head}
use Rattle.ew_model.proofs.MarkEvents.{mark_done, mark_head, mark_long, mark_of_agent}
use Rattle.ew_model.proofs.EditTexts.{edit_fits, edit_changes, edit_long}

pub chain_long : (agent : List ℕ) (n : ℕ) (parents : List Id) (ops : List Op) → length (chain_of agent n parents ops) ≡ length ops
chain_long agent n parents [] = refl
chain_long agent n parents (o ∷ ops) = ap (λ k. suc k) (chain_long agent (n + 1) (record { agent = agent; seq = n } ∷ []) ops)

-- there is an event for each operation
pub ops_long : (history : List Event) (agent : List ℕ) (ops : List Op) → length (events_of_ops history agent ops) ≡ length ops
unfolding events_of_ops
ops_long history agent ops = chain_long agent _ _ ops

-- what is so of an edit that is not refused
pub record NotRefused (limits : LimitNumbers) (history : List Event) (made : ℕ) (edit : Edit) : Type 0 where
  pub inside : needed_length edit ≤ length (text_of history)
  pub room : (made ≡ 0) ⊎ ((needs_few_heads edit ≡ true → length (heads history) ≤ 16) × (length history + made ≤ limits.events))

both_few : (edit : Edit) (b : Bool) → (needs_few_heads edit && b) ≡ false → needs_few_heads edit ≡ true → b ≡ false
both_few edit b h needs = ap (λ c. c && b) (sym needs) ∙ h

none_refused : (a b c d : Bool) (x y z : EditRefusal) → cond a (Some x) (cond b None (cond c (Some y) (cond d (Some z) None))) ≡ None → (a ≡ false) × ((b ≡ true) ⊎ ((c ≡ false) × (d ≡ false)))
none_refused true b c d x y z e = let no : ⊥ = cc in absurd no
none_refused false true c d x y z e = (refl, inl refl)
none_refused false false true d x y z e = let no : ⊥ = cc in absurd no
none_refused false false false true x y z e = let no : ⊥ = cc in absurd no
none_refused false false false false x y z e = (refl, inr (refl, refl))

pub not_refused : (limits : LimitNumbers) (history : List Event) (agent : List ℕ) (edit : Edit) → edit_refusal limits history agent edit ≡ None → NotRefused limits history (length (events_of_edit history agent edit)) edit
unfolding edit_refusal
not_refused limits history agent edit none =
    let made = length (events_of_edit history agent edit) in
    let parts = none_refused _ _ _ _ _ _ _ none in
    record {
      inside = ltb-false (length (text_of history)) (needed_length edit) parts.0;
      room = ⊎_elim (λ e. inl (eqb-true made 0 e)) (λ k. inr ((λ needs. ltb-false 16 (length (heads history)) (both_few edit (nat_lt 16 (length (heads history))) k.0 needs)), ltb-false limits.events (length history + made) k.1)) parts.1;
    }

-- no operations, or few heads
pub few_by : (history : List Event) (ops : List Op) → (length ops ≡ 0) ⊎ (length (heads history) ≤ 16) → FewHeads history ops
few_by history [] h = tt
few_by history (o ∷ ops) h = ⊎_elim (λ e. absurd (omega (arith, e))) (λ few. few) h

-- an edit of the text: its events are those of its operations
pub record IsOfText (history : List Event) (agent : List ℕ) (edit : Edit) : Type 0 where
  pub events : events_of_edit history agent edit ≡ events_of_ops history agent (ops_of edit)
  pub needs : needs_few_heads edit ≡ true
  pub made : number_made history edit ≡ size_of edit

pub insert_of_text : (history : List Event) (agent : List ℕ) (at : ℕ) (text : List ℕ) → IsOfText history agent (Insert at text)
insert_of_text history agent at text = record { events = refl; needs = refl; made = refl }

pub delete_of_text : (history : List Event) (agent : List ℕ) (at count : ℕ) → IsOfText history agent (Delete at count)
delete_of_text history agent at count = record { events = refl; needs = refl; made = refl }

-- an agent may do the operations of an edit of the text that isn't refused
pub may_edit : (limits : LimitNumbers) (history : List Event) (agent : List ℕ) (edit : Edit) → IsOfText history agent edit → IsGood history → edit_refusal limits history agent edit ≡ None → MayDo history (ops_of edit)
may_edit limits history agent edit text good none =
    let allowed = not_refused limits history agent edit none in
    let made : length (events_of_edit history agent edit) ≡ length (ops_of edit) = ap length text.events ∙ ops_long history agent (ops_of edit) in
    record {
      good = good;
      few = few_by history (ops_of edit) (⊎_elim (λ e. inl (sym made ∙ e)) (λ k. inr (k.0 text.needs)) allowed.room);
      fit = edit_fits edit (text_of history) allowed.inside;
    }

pub text_edit_good : (limits : LimitNumbers) (history : List Event) (agent : List ℕ) (edit : Edit) → IsOfText history agent edit → IsGood history → edit_refusal limits history agent edit ≡ None → IsGood (history ++ events_of_edit history agent edit)
text_edit_good limits history agent edit text good none =
    subst (λ events. IsGood (history ++ events)) (sym text.events) (ops_done history agent (ops_of edit) (may_edit limits history agent edit text good none)).good

pub edit_good : (limits : LimitNumbers) (history : List Event) (agent : List ℕ) (edit : Edit) → IsGood history → edit_refusal limits history agent edit ≡ None → IsGood (history ++ events_of_edit history agent edit)
edit_good limits history agent (Insert at text) good none = text_edit_good limits history agent (Insert at text) (insert_of_text history agent at text) good none
edit_good limits history agent (Delete at count) good none = text_edit_good limits history agent (Delete at count) (delete_of_text history agent at count) good none
edit_good limits history agent (Mark label) good none = (mark_done history agent label good).good

-- The law of good edits.
pub edits_are_good : EditsAreGood
edits_are_good limits history agent edit good few none =
    let allowed = not_refused limits history agent edit none in
    (edit_good limits history agent edit good none, ⊎_elim (λ e. omega (arith, e, few)) (λ k. k.1) allowed.room)

-- the text that an edit leaves, and how many events it makes
abbrev pub Changes : List Event → List ℕ → Edit → Type 0
Changes history agent edit = (text_of (history ++ events_of_edit history agent edit) ≡ edited edit (text_of history)) × (length (events_of_edit history agent edit) ≡ number_made history edit)

pub text_edit_changes : (limits : LimitNumbers) (history : List Event) (agent : List ℕ) (edit : Edit) → IsOfText history agent edit → IsGood history → edit_refusal limits history agent edit ≡ None → Changes history agent edit
text_edit_changes limits history agent edit text good none =
    let allowed = not_refused limits history agent edit none in (
      ap (λ events. text_of (history ++ events)) text.events
          ∙ ((ops_done history agent (ops_of edit) (may_edit limits history agent edit text good none)).text ∙ edit_changes edit (text_of history) allowed.inside),
      ap length text.events ∙ (ops_long history agent (ops_of edit) ∙ (edit_long edit ∙ sym text.made)),
    )

-- The law of changed texts.
pub edits_change_text : EditsChangeText
edits_change_text limits history agent (Insert at text) good none = text_edit_changes limits history agent (Insert at text) (insert_of_text history agent at text) good none
edits_change_text limits history agent (Delete at count) good none = text_edit_changes limits history agent (Delete at count) (delete_of_text history agent at count) good none
edits_change_text limits history agent (Mark label) good none = ((mark_done history agent label good).text, mark_long history agent label good)

pub text_edit_head : (limits : LimitNumbers) (history : List Event) (agent : List ℕ) (edit : Edit) → IsOfText history agent edit → IsGood history → edit_refusal limits history agent edit ≡ None
    → (front : List Event) (last : Event) → events_of_edit history agent edit ≡ front ++ last ∷ [] → heads (history ++ events_of_edit history agent edit) ≡ last.id ∷ []
text_edit_head limits history agent edit text good none front last is =
    ap (λ events. heads (history ++ events)) text.events
    ∙ last_head history agent (ops_of edit) (may_edit limits history agent edit text good none) front last (sym text.events ∙ is)

-- The law of heads.
pub heads_after_edit : HeadsAfterEdit
heads_after_edit limits history agent (Insert at text) good none = text_edit_head limits history agent (Insert at text) (insert_of_text history agent at text) good none
heads_after_edit limits history agent (Delete at count) good none = text_edit_head limits history agent (Delete at count) (delete_of_text history agent at count) good none
heads_after_edit limits history agent (Mark label) good none = mark_head history agent label good

-- the events of a chain are all of one agent
pub chain_of_agent : (agent : List ℕ) (n : ℕ) (parents : List Id) (ops : List Op) (x : Id) → name_eq x.agent agent ≡ false → is_held (chain_of agent n parents ops) x ≡ false
chain_of_agent agent n parents [] x other = refl
chain_of_agent agent n parents (o ∷ ops) x other =
    let y : Id = record { agent = agent; seq = n } in
    or_from (id_eq x y) (is_held (chain_of agent (n + 1) (y ∷ []) ops) x)
    (false_from_ne_true (id_eq x y) (λ same. false≢true (sym other ∙ (ap (λ (z : Id). name_eq z.agent agent) ((is_same_id x y).0 same) ∙ names_equal.refl agent))))
    (chain_of_agent agent (n + 1) (y ∷ []) ops x other)

pub ops_of_agent : (history : List Event) (agent : List ℕ) (ops : List Op) (x : Id) → name_eq x.agent agent ≡ false → is_held (events_of_ops history agent ops) x ≡ false
unfolding events_of_ops
ops_of_agent history agent ops x other = chain_of_agent agent _ _ ops x other

-- the events of an edit are all of its agent
pub edit_of_agent : (history : List Event) (agent : List ℕ) (edit : Edit) (x : Id) → name_eq x.agent agent ≡ false → is_held (events_of_edit history agent edit) x ≡ false
edit_of_agent history agent (Insert at text) x other = ops_of_agent history agent (ops_of (Insert at text)) x other
edit_of_agent history agent (Delete at count) x other = ops_of_agent history agent (ops_of (Delete at count)) x other
edit_of_agent history agent (Mark label) x other = mark_of_agent history agent label x other

-- a waiting event that isn't held is another agent's
other_agent : (a b : Bool) (more : Bool) → ((a && not b) || more) ≡ false → b ≡ false → a ≡ false
other_agent true true more h f = absurd (false≢true (sym f))
other_agent true false more h f = absurd (false≢true (sym h))
other_agent false b more h f = refl

pub fresh_behind : (held waiting : List Event) (agent : List ℕ) (made : List Event) → ((x : Id) → name_eq x.agent agent ≡ false → is_held made x ≡ false) → AreFresh held waiting → is_awaited held waiting agent ≡ false → AreFresh (held ++ made) waiting
fresh_behind held [] agent made own fresh awaited = tt
fresh_behind held (w ∷ waiting) agent made own fresh awaited =
    let parts = or_parts (list_any (λ (x : Id). name_eq x.agent agent && not (is_held held x)) (w.id ∷ w.parents)) (is_awaited held waiting agent) awaited in
    let other : name_eq w.id.agent agent ≡ false = other_agent (name_eq w.id.agent agent) (is_held held w.id) _ parts.0 fresh.0 in (
      held_joined held made w.id ∙ or_from (is_held held w.id) (is_held made w.id) fresh.0 (own w.id other),
      fresh_behind held waiting agent made own fresh.1 parts.1,
    )

-- The law of kept states.
pub edits_keep : EditsKeep
edits_keep limits held waiting agent edit kept awaited none =
    let made = edits_are_good limits held agent edit kept.orderly.good kept.few none in
    record {
      orderly = record { good = made.0; fresh = fresh_behind held waiting agent (events_of_edit held agent edit) (edit_of_agent held agent edit) kept.orderly.fresh awaited; apart = kept.orderly.apart };
      few = subst (λ n. n ≤ limits.events) (sym (length-append held (events_of_edit held agent edit))) made.1;
      few_wait = kept.few_wait;
    }
