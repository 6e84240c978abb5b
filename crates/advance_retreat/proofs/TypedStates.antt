-- What is so once insertions were applied one after another, each right behind the one before.
use Rattle.std.proofs.Common.{◌≡◌, ℕ, zero, suc, ◌+◌, ◌-◌, ◌<◌, ◌≤◌, Bool, true, false, ◌||◌, ◌&&◌, inr, List, [], ◌∷◌, ◌++◌, take, drop, insert, length, Option, Some, slice_get, refl, sym, ap, ◌∙◌, subst, length-append, arith}
use Rattle.std.specs.List.{list_any}
use Rattle.std.specs.Option.{option_map_or}
use Rattle.std.proofs.lemmas.Bool.{false≢true}
use Rattle.std.proofs.lemmas.List.{take_at, length-take-le}
use Rattle.std.proofs.Math.Seq.{take-length}
use Rattle.ew_model.specs.declared.id.Id.{Id}
use Rattle.ew_model.specs.declared.node.Node.{Node}
use Rattle.ew_model.specs.declared.node.Node.TheVariants.{Event}
use Rattle.ew_model.specs.Tree.{Applied}
use Rattle.walker_record.specs.Stretches.{Stretch}
use Rattle.fugue_place.specs.declared.child.Side.TheVariants.{Right as right}
use Rattle.fugue_place.specs.declared.child.Attached.{Attached}
use Rattle.fugue_place.specs.Attachments.{node_eq, is_newest, AreAttached}
use Rattle.fugue_place.specs.Heirs.{id_on}
use Rattle.fugue_place.specs.Lines.{is_in_line, line_of}
use Rattle.fugue_place.specs.Neighbours.{is_child}
use Rattle.fugue_place.proofs.ListLaws.{place_new}
use Rattle.fugue_place.proofs.NodeLaws.{node_itself}
use Rattle.fugue_place.proofs.PlaceLaws.{newest_childless}
use Rattle.character_runs.specs.declared.slot.Slot.{Slot}
use Rattle.character_runs.specs.States.{knows, single, visible_in, shown_in}
use Rattle.character_runs.specs.Spots.{Left, IsLeft, first_known, slot_by}
use Rattle.character_runs.proofs.Replaced.{count_inserted}
use Rattle.advance_retreat.specs.Conditions.{MayInsert}
use Rattle.advance_retreat.specs.Hanging.{has_known_child, has_known_right, slot_of, Puts, PutEach}
use Rattle.advance_retreat.specs.Kept.{Kept}
use Rattle.advance_retreat.specs.Standing.{most, StandsFor}
use Rattle.advance_retreat.specs.Typing.{Inserts, TypedEach}
use Rattle.advance_retreat.proofs.Inserting.{inserted_by_put, insertion_done, left_in_range}
use Rattle.advance_retreat.proofs.Keeping.{shown_told}
use Rattle.advance_retreat.proofs.LooseEvents.{long_targets}
use Rattle.advance_retreat.proofs.Room.{CanInsert}

-- A NEW RECORD
read_inserted : (rs : List Stretch) (index : ℕ) (y : Stretch) → index ≤ length rs → slice_get (insert rs index y) index ≡ Some y
read_inserted rs zero y le = refl
read_inserted [] (suc index) y le = absurd (omega (arith, le))
read_inserted (r ∷ rs) (suc index) y le = read_inserted rs index y (omega (arith, le))

before_inserted : (rs : List Stretch) (index : ℕ) (y : Stretch) → index ≤ length rs → take index (insert rs index y) ≡ take index rs
before_inserted rs index y le = take_at (take index rs) (y ∷ drop index rs) index (length-take-le index rs le)

-- THE NEWEST NODE
newest_pushed : (xs : List Attached) (c : Attached) → is_newest (xs ++ c ∷ []) c.node ≡ true
newest_pushed xs c =
    let long = length-append xs (c ∷ []) in
    let at : length (xs ++ c ∷ []) - 1 ≡ length xs = omega (arith, long) in
    ap (λ (o : Option Attached). option_map_or (λ (a : Attached). node_eq a.node c.node) o false) (place_new xs c (length (xs ++ c ∷ []) - 1) at) ∙ node_itself c.node

-- no right child of it is inserted
no_known_child : (rs : List Stretch) (attached : List Attached) (v : Node) → AreAttached [] attached → is_newest attached v ≡ true → has_known_child rs attached v ≡ false
no_known_child rs attached v sound newest = none attached childless
  where
    childless : list_any (is_in_line (line_of v right)) attached ≡ false
    childless = ap (list_any (is_in_line (line_of v right))) (sym (take-length attached)) ∙ newest_childless attached sound (line_of v right) newest

    none : (xs : List Attached) → list_any (is_in_line (line_of v right)) xs ≡ false → list_any (λ (a : Attached). is_child v right a && knows rs a.node) xs ≡ false
    none [] e = refl
    none (a ∷ xs) e = at (is_child v right a) e (none xs)
      where
        at : (c : Bool) → ((c && true) || list_any (is_in_line (line_of v right)) xs) ≡ false → (list_any (is_in_line (line_of v right)) xs ≡ false → list_any (λ (b : Attached). is_child v right b && knows rs b.node) xs ≡ false)
            → ((c && knows rs a.node) || list_any (λ (b : Attached). is_child v right b && knows rs b.node) xs) ≡ false
        at true e ih = absurd (false≢true (sym e))
        at false e ih = ih e

-- so a node at its right hangs on it
slot_newest : (b : ℕ) (rs : List Stretch) (attached : List Attached) (l : Left) (p : ℕ) → l.node ≡ Event p → AreAttached [] attached → is_newest attached (Event p) ≡ true → slot_of b rs attached l ≡ record { parent = Event p; side = right }
slot_newest b rs attached l p node sound newest =
    ap (λ (v : Node). slot_by (has_known_right b rs attached v) (first_known (drop l.behind rs)) v) node
    ∙ ap (λ (c : Bool). slot_by c (first_known (drop l.behind rs)) (Event p)) (no_known_child rs attached (Event p) sound newest)

-- ONE AFTER ANOTHER
module _ (s : Kept) (x : Id) (agent : x.agent ≡ [] → ⊥) (position count at n : ℕ) (room : length s.targets + count ≤ most) (text : shown_in s.records + count ≤ most) where
  -- what is so once so many were put
  pub record IsSo (k : ℕ) (now : Kept) : Type 0 where
    pub typed : TypedEach s now x position at k n
    pub left : Left
    pub is : IsLeft now.records (at + k) left
    pub node : left.node ≡ Event (position + k)
    pub newest : is_newest now.attached (Event (position + k)) ≡ true
    pub shown : shown_in now.records ≡ shown_in s.records + k
    pub told : length now.targets ≡ length s.targets + k

  module _ (k : ℕ) (lt : k < count) (now new : Kept) (so : IsSo k now) (puts : Puts now new (position + k + 1) (id_on x (k + 1)) (record { parent = Event (position + k); side = right }) (n + k)) (seen : visible_in (take puts.index now.records) ≡ at + k) where
    module _ (b : ℕ) (events : List (Applied ℕ)) (prepared : List ℕ) (ch : ℕ) (st : StandsFor now b events prepared) (may : MayInsert events (position + k + 1) (id_on x (k + 1))) where
      can : CanInsert b events (position + k + 1) (id_on x (k + 1))
      can = record {
        position = may.position;
        id = may.id;
        room =
            let many = long_targets now b events prepared st in
            let told = so.told in
            omega (arith, many, told, room, lt);
        room_in_text = let told = shown_told now b events prepared st in let shown = so.shown in omega (arith, told, shown, text, lt);
      }

      put_there : Puts now new (position + k + 1) (id_on x (k + 1)) (slot_of now.base now.records now.attached so.left) (n + k)
      put_there =
          subst (λ (h : Slot). Puts now new (position + k + 1) (id_on x (k + 1)) h (n + k)) (sym (slot_newest now.base now.records now.attached so.left (position + k) so.node st.children.sound so.newest)) puts

      inserts_next : Inserts new (position + k + 1) (id_on x (k + 1)) (at + k) (n + k) b events prepared ch
      inserts_next = record {
        within = left_in_range now b events prepared st (at + k) so.left so.is (position + k + 1) (id_on x (k + 1));
        does = insertion_done now b events prepared st (at + k) so.left so.is (position + k + 1) (id_on x (k + 1)) agent can new (n + k) ch put_there;
        stands = inserted_by_put now b events prepared st (at + k) so.left so.is (position + k + 1) (id_on x (k + 1)) agent can new (n + k) ch put_there;
      }

    abbrev fresh : Stretch
    fresh = single (Event (position + k + 1)) 1 true

    records_next : new.records ≡ insert now.records puts.index fresh
    records_next = ap (λ (w : Kept). w.records) puts.after

    abbrev left_next : Left
    left_next = record { node = Event (position + suc k); behind = suc puts.index }

    is_left_next : IsLeft new.records (at + suc k) left_next
    is_left_next =
        let here : position + suc k ≡ position + k + 1 = omega arith in
        let count_seen = ap (λ (rs : List Stretch). visible_in (take puts.index rs)) records_next ∙ ap visible_in (before_inserted now.records puts.index fresh puts.within) ∙ seen in
        inr (puts.index, fresh, ap (λ (rs : List Stretch). slice_get rs puts.index) records_next ∙ read_inserted now.records puts.index fresh puts.within, refl, omega (arith, count_seen), ap Event here, refl)

    newest_next : is_newest new.attached (Event (position + suc k)) ≡ true
    newest_next =
        let here : position + suc k ≡ position + k + 1 = omega arith in
        ap (λ (w : Kept). is_newest w.attached (Event (position + suc k))) puts.after
        ∙ ap (λ (p : ℕ). is_newest (now.attached ++ record { parent = Event (position + k); side = right; id = id_on x (k + 1); node = Event (position + k + 1) } ∷ []) (Event p)) here
        ∙ newest_pushed now.attached (record { parent = Event (position + k); side = right; id = id_on x (k + 1); node = Event (position + k + 1) })

    shown_next : shown_in new.records ≡ shown_in s.records + suc k
    shown_next =
        let more = ap shown_in records_next ∙ count_inserted (λ (r : Stretch). r.effect) now.records puts.index fresh refl in
        let before = so.shown in
        omega (arith, more, before)

    told_next : length new.targets ≡ length s.targets + suc k
    told_next =
        let more = ap (λ (w : Kept). length w.targets) puts.after ∙ length-append now.targets (record { lv = position + k + 1; node = Event (position + k + 1) } ∷ []) in
        let before = so.told in
        omega (arith, more, before)

    so_next : IsSo (suc k) new
    so_next = record { typed = (now, so.typed, inserts_next); left = left_next; is = is_left_next; node = refl; newest = newest_next; shown = shown_next; told = told_next }

  module _ (l : Left) (left : IsLeft s.records at l) (node : l.node ≡ Event position) (newest : is_newest s.attached (Event position) ≡ true) where
    so_none : IsSo 0 s
    so_none =
        let place : at ≡ at + 0 = omega arith in
        let here : position ≡ position + 0 = omega arith in
        record {
          typed = refl;
          left = l;
          is = subst (λ (i : ℕ). IsLeft s.records i l) place left;
          node = node ∙ ap Event here;
          newest = subst (λ (p : ℕ). is_newest s.attached (Event p) ≡ true) here newest;
          shown = omega arith;
          told = omega arith;
        }

    so_to : (k : ℕ) → k ≤ count → (new : Kept) → PutEach s new x position at k n → IsSo k new
    so_to zero le new puts = subst (IsSo 0) (sym puts) so_none
    so_to (suc k) le new puts = so_next k (omega (arith, le)) puts.0 new (so_to k (omega (arith, le)) puts.0 puts.1) puts.2.0 puts.2.1

    -- once all were
    pub typed_by_puts : (new : Kept) → PutEach s new x position at count n → TypedEach s new x position at count n
    typed_by_puts new puts = (so_to count (omega arith) new puts).typed
