-- The laws of an undo: what it makes, what it leaves, and that a replica keeps what it keeps.
use Rattle.std.proofs.Common.{◌≡◌, ℕ, ◌+◌, ◌≤◌, Bool, true, false, not, cond, ◌&&◌, ◌⊎◌, inl, inr, ⊎_elim, List, [], ◌∷◌, ◌++◌, map, find, length, Option, Some, None, refl, sym, ap, ◌∙◌, subst, length-append, arith}
use Rattle.std.proofs.lemmas.Bool.{ltb-false, eqb-true, false≢true, false_from_ne_true, and_parts}
use Rattle.ew_model.specs.declared.id.Id.{Id}
use Rattle.ew_model.specs.declared.event.Op.{Op}
use Rattle.ew_model.specs.declared.event.Event.{Event}
use Rattle.ew_model.specs.Sets.{Among}
use Rattle.ew_model.specs.Ids.{id_eq, is_among}
use Rattle.ew_model.specs.Ancestors.{is_held, heads}
use Rattle.ew_model.specs.Entries.{Inserted, is_deleted}
use Rattle.ew_model.specs.Limits.{LimitNumbers}
use Rattle.ew_model.specs.Texts.{text_chars, text_of}
use Rattle.ew_model.specs.Tree.{tree}
use Rattle.ew_model.specs.Verdicts.{IsGood}
use Rattle.ew_model.specs.Edits.{events_of_ops}
use Rattle.ew_model.proofs.EditEvents.{FewHeads}
use Rattle.ew_model.proofs.EditLaws.{ops_long, ops_of_agent, fresh_behind}
use Rattle.ew_model.proofs.CoverLaws.{event_of, held_by, equal_through}
use Rattle.ew_model.proofs.ListTests.{found_by}
use Rattle.ew_model.proofs.SetLaws.{among_filter, filter_among}
use Rattle.ew_model.proofs.SortingLaws.{all_at}
use Rattle.ew_model.proofs.VersionLaws.{find_none}
use Rattle.undo_definitions.specs.Wanted.{chars_in_order, is_gone, left_by_others, is_wanted, wanted, restored, taken_out}
use Rattle.undo_definitions.specs.Undoing.{ops_of_undo, events_of_undo, UndoRefusal, making_refusal, refusal_behind, undo_refusal}
use Rattle.undo_definitions.specs.UndoLaws.{UndosLeaveWanted, Shows, AreShown, UndosShowWanted, UndosLeaveOthersWork, UndosKeep}
use Rattle.undo_definitions.proofs.Scripts.{script_long}
use Rattle.undo_definitions.proofs.Making.{Made, made_along}
use Rattle.undo_definitions.proofs.Wants.{shown_in_order, script_of, not_deleted_by_others, same_taken_out, same_restored}

-- WHAT ISN'T REFUSED
pub record IsAllowed (limits : LimitNumbers) (history : List Event) (undone : List Id) (made : ℕ) : Type 0 where
  pub held : (x : Id) → Among x undone → is_held history x ≡ true
  pub room : (made ≡ 0) ⊎ ((length (heads history) ≤ 16) × (length history + made ≤ limits.events))

none_behind : (o : Option Id) (r : Option UndoRefusal) → refusal_behind o r ≡ None → (o ≡ None) × (r ≡ None)
none_behind None r e = (refl, e)
none_behind (Some x) r e = let no : ⊥ = cc in absurd no

none_made : (b c d : Bool) (x y : UndoRefusal) → cond b None (cond c (Some x) (cond d (Some y) None)) ≡ None → (b ≡ true) ⊎ ((c ≡ false) × (d ≡ false))
none_made true c d x y e = inl refl
none_made false true d x y e = let no : ⊥ = cc in absurd no
none_made false false true x y e = let no : ⊥ = cc in absurd no
none_made false false false x y e = inr (refl, refl)

true_from_not : (b : Bool) → not b ≡ false → b ≡ true
true_from_not true e = refl
true_from_not false e = absurd (false≢true (sym e))

pub is_allowed : (limits : LimitNumbers) (history : List Event) (undone : List Id) → undo_refusal limits history undone ≡ None → IsAllowed limits history undone (length (ops_of_undo history undone))
unfolding undo_refusal
is_allowed limits history undone none =
    let made = length (ops_of_undo history undone) in
    let parts = none_behind (find (λ x. not (is_held history x)) undone) (making_refusal limits history made) none in
    record {
      held = λ x m. true_from_not (is_held history x) (all_at (λ y. not (is_held history y) ≡ false) undone x (find_none (λ y. not (is_held history y)) undone parts.0) m);
      room = ⊎_elim (λ e. inl (eqb-true made 0 e)) (λ k. inr (ltb-false 16 (length (heads history)) k.0, ltb-false limits.events (length history + made) k.1)) (none_made _ _ _ _ _ parts.1);
    }

few_heads : (limits : LimitNumbers) (history : List Event) (undone : List Id) (ops : List Op) → IsAllowed limits history undone (length ops) → FewHeads history ops
few_heads limits history undone [] allowed = tt
few_heads limits history undone (o ∷ ops) allowed = ⊎_elim (λ e. absurd (omega (arith, e))) (λ k. k.0) allowed.room

-- WHAT AN UNDO MAKES
pub undo_made : (limits : LimitNumbers) (history : List Event) (agent : List ℕ) (undone : List Id) → IsGood history → undo_refusal limits history undone ≡ None
    → Made history (history ++ events_of_undo history agent undone) [] (wanted history undone)
unfolding wanted
undo_made limits history agent undone good none =
    let few = few_heads limits history undone (ops_of_undo history undone) (is_allowed limits history undone none) in
    subst (λ ops. Made history (history ++ events_of_ops history agent ops) [] (wanted history undone)) (sym (script_of history undone good))
    (made_along history agent (is_wanted history undone) (chars_in_order history) 0 [] history refl good (λ x e. e)
    (subst (FewHeads history) (script_of history undone good) few) (shown_in_order history))

-- The law of places.
pub undos_show_wanted : UndosShowWanted
undos_show_wanted limits history agent undone good none =
    let made = undo_made limits history agent undone good none in
    subst (AreShown history (wanted history undone)) (sym made.shown) made.are

same_letters : (history : List Event) (zs ys : List Inserted) → AreShown history zs ys → map (λ y. y.ch) ys ≡ map (λ z. z.ch) zs
same_letters history [] [] h = refl
same_letters history [] (y ∷ ys) h = absurd h
same_letters history (z ∷ zs) [] h = absurd h
same_letters history (z ∷ zs) (y ∷ ys) h = λ i. h.0.letter i ∷ same_letters history zs ys h.1 i

pub undo_text : (limits : LimitNumbers) (history : List Event) (agent : List ℕ) (undone : List Id) → IsGood history → undo_refusal limits history undone ≡ None
    → text_of (history ++ events_of_undo history agent undone) ≡ map (λ z. z.ch) (wanted history undone)
unfolding text_of
undo_text limits history agent undone good none =
    same_letters history (wanted history undone) (text_chars (history ++ events_of_undo history agent undone)) (undos_show_wanted limits history agent undone good none)

undo_long : (history : List Event) (undone : List Id) → IsGood history → length (ops_of_undo history undone) ≡ length (taken_out history undone) + length (restored history undone)
undo_long history undone good =
    ap length (script_of history undone good)
    ∙ script_long (is_gone history) (is_wanted history undone) 0 (chars_in_order history)
    ∙ (λ i. length (same_taken_out history undone i) + length (same_restored history undone i))

pub room_for : (limits : LimitNumbers) (history : List Event) (agent : List ℕ) (undone : List Id) → undo_refusal limits history undone ≡ None → length history ≤ limits.events → length (history ++ events_of_undo history agent undone) ≤ limits.events
room_for limits history agent undone none few =
    let long = ops_long history agent (ops_of_undo history undone) in
    let joined = length-append history (events_of_undo history agent undone) in
    ⊎_elim (λ e. omega (arith, joined, long, e, few)) (λ k. let room = k.1 in omega (arith, joined, long, room)) (is_allowed limits history undone none).room

-- The law of undoing.
pub undos_leave_wanted : UndosLeaveWanted
undos_leave_wanted limits history agent undone good none = record {
  good = (undo_made limits history agent undone good none).good;
  room = room_for limits history agent undone none;
  text = undo_text limits history agent undone good none;
  made = ops_long history agent (ops_of_undo history undone) ∙ undo_long history undone good;
}

-- THE OTHERS' WORK
-- what is shown shows a wanted character, and each of these is shown
shown_of : (history : List Event) (zs ys : List Inserted) (y : Inserted) → AreShown history zs ys → Among y ys → (z : Inserted) × Among z zs × Shows history z y
shown_of history [] [] y h m = absurd m
shown_of history [] (x ∷ ys) y h m = absurd h
shown_of history (z ∷ zs) [] y h m = absurd h
shown_of history (z ∷ zs) (x ∷ ys) y h m =
    ⊎_elim (λ e. (z, inl refl, subst (Shows history z) (sym e) h.0)) (λ k. let more = shown_of history zs ys y h.1 k in (more.0, inr more.1, more.2)) m

shown_by : (history : List Event) (zs ys : List Inserted) (z : Inserted) → AreShown history zs ys → Among z zs → (y : Inserted) × Among y ys × Shows history z y
shown_by history [] [] z h m = absurd m
shown_by history [] (x ∷ ys) z h m = absurd h
shown_by history (w ∷ zs) [] z h m = absurd h
shown_by history (w ∷ zs) (x ∷ ys) z h m =
    ⊎_elim (λ e. (x, inl refl, subst (λ v. Shows history v x) (sym e) h.0)) (λ k. let more = shown_by history zs ys z h.1 k in (more.0, inr more.1, more.2)) m

-- an id that isn't held isn't among the undone ones
not_undone : (history : List Event) (undone : List Id) (x : Id) → ((y : Id) → Among y undone → is_held history y ≡ true) → is_held history x ≡ false → is_among undone x ≡ false
not_undone history undone x held new =
    false_from_ne_true (is_among undone x) (λ e.
    let found = found_by (id_eq x) undone e in
    let event = event_of history found.0 (held found.0 found.1) in
    false≢true (sym new ∙ held_by history x event.0 event.1 (equal_through x found.0 event.0.id found.2 event.2)))

-- a wanted character is that of an event that isn't undone
wanted_not_undone : (history : List Event) (undone : List Id) (z : Inserted) → Among z (wanted history undone) → is_among undone z.id ≡ false
unfolding wanted
wanted_not_undone history undone z m =
    let kept = among_filter (is_wanted history undone) (chars_in_order history) z m in
    not_true (is_among undone z.id) (and_parts (not (is_among undone z.id)) (not (is_deleted (left_by_others undone (tree history)) z.id)) kept.1).0
  where
    not_true : (b : Bool) → not b ≡ true → b ≡ false
    not_true true e = absurd (false≢true e)
    not_true false e = refl

-- what others left shown is wanted
shown_wanted : (history : List Event) (undone : List Id) (z : Inserted) → Among z (text_chars history) → is_among undone z.id ≡ false → (is_gone history z ≡ false) × Among z (wanted history undone)
unfolding wanted
shown_wanted history undone z m other =
    let kept = among_filter (λ y. not (is_gone history y)) (chars_in_order history) z (subst (Among z) (shown_in_order history) m) in
    let there : is_gone history z ≡ false = not_true (is_gone history z) kept.1 in (
      there,
      filter_among (is_wanted history undone) (chars_in_order history) z kept.0 (λ i. not (other i) && not (not_deleted_by_others history undone z there i)),
    )
  where
    not_true : (b : Bool) → not b ≡ true → b ≡ false
    not_true true e = absurd (false≢true e)
    not_true false e = refl

-- The law of others' work.
pub undos_leave_others_work : UndosLeaveOthersWork
undos_leave_others_work limits history agent undone good none =
    let later = history ++ events_of_undo history agent undone in
    let are = undos_show_wanted limits history agent undone good none in
    let held = (is_allowed limits history undone none).held in
    record {
      gone = λ y m.
          let z = shown_of history (wanted history undone) (text_chars later) y are m in
          by_gone z.0 y z.1 z.2 held (is_gone history z.0) refl;
      stay = λ z m other.
          let there = shown_wanted history undone z m other in
          let y = shown_by history (wanted history undone) (text_chars later) z are there.1 in
          subst (λ w. Among w (text_chars later)) (y.2.itself there.0) y.1;
    }
  where
    by_gone : (z y : Inserted) → Among z (wanted history undone) → Shows history z y → ((x : Id) → Among x undone → is_held history x ≡ true) → (b : Bool) → is_gone history z ≡ b → is_among undone y.id ≡ false
    by_gone z y m shows held true q = not_undone history undone y.id held (shows.new q)
    by_gone z y m shows held false q = ap (λ (w : Inserted). is_among undone w.id) (shows.itself q) ∙ wanted_not_undone history undone z m

-- The law of kept states.
pub undos_keep : UndosKeep
undos_keep limits held waiting agent undone kept awaited none = record {
  orderly = record {
    good = (undo_made limits held agent undone kept.orderly.good none).good;
    fresh = fresh_behind held waiting agent (events_of_undo held agent undone) (ops_of_agent held agent (ops_of_undo held undone)) kept.orderly.fresh awaited;
    apart = kept.orderly.apart;
  };
  few = room_for limits held agent undone none kept.few;
  few_wait = kept.few_wait;
}
