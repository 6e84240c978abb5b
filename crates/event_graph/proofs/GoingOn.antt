-- No row holds for an event that goes on right behind the last one.
use Rattle.std.proofs.Common.{◌≡◌, ℕ, zero, suc, ◌+◌, ◌-◌, ◌<◌, ◌≤◌, ◌^◌, nat_lt, Bool, true, false, not, cond, ◌&&◌, ◌||◌, List, [], ◌∷◌, ◌++◌, find, length, position, Option, Some, None, option_map, refl, sym, ap, ◌∙◌, subst, arith, nat_cmp, IsSorted}
use Rattle.std.specs.Prelude.{slice_get}
use Rattle.std.specs.Bool.{then_some}
use Rattle.std.specs.List.Sorted.{IsPermutation}
use Rattle.std.specs.Option.{option_to_list, unwrap_or}
use Rattle.std.proofs.lemmas.Bool.{false_from_ne_true}
use Rattle.std.proofs.lemmas.List.{length-map}
use Rattle.std.proofs.lemmas.List.Sums.{count_by-le-length}
use Rattle.std.proofs.lemmas.List.Sorted.{IsPermutation-refl}
use Rattle.ew_model.specs.declared.id.Id.{Id}
use Rattle.ew_model.specs.declared.event.Op.{Op}
use Rattle.ew_model.specs.declared.event.Event.{Event}
use Rattle.ew_model.specs.Ids.{name_eq, id_eq, is_among, ids_ascend}
use Rattle.ew_model.specs.Ancestors.{ids_of, is_held, is_reduced, ancestors}
use Rattle.ew_model.specs.Positions.{positions_in}
use Rattle.ew_model.specs.Sound.{IsSoundId, IsSoundOp, IsSound, AreSound}
use Rattle.ew_model.specs.Verdicts.{Ruling, id_rows, parent_rows, has_number_below, follows_its_agent, graph_verdict}
use Rattle.ew_model.specs.Verdicts.Ruling.{SelfParent, TooManyParents, ParentsUnsorted, Unknown, NotReduced, Skipped, Good}
use Rattle.ew_model.proofs.CoverLaws.{ids_alike, event_of, held_by}
use Rattle.ew_model.proofs.GoodLaws.{no_parent}
use Rattle.ew_model.proofs.GraphVersions.{taken_named}
use Rattle.ew_model.proofs.IdLaws.{is_same_id}
use Rattle.history_definitions.specs.Agents.{count_of, AreNumbered}
use Rattle.agent_ids.specs.IdRuns.{last_in}
use Rattle.agent_ids.proofs.LastIds.{last_split, next_number}
use Rattle.history_definitions.specs.Chains.{event_behind, next_id, last_id}
use Rattle.event_graph.specs.Finding.{found_in}
use Rattle.event_graph.specs.GoingOn.{GoesOn}
use Rattle.event_graph.specs.Joining.{IsGoodBehind, event_on}
use Rattle.event_graph.specs.Keeping.{IsAdmitted}
use Rattle.event_graph.specs.Rows.{row_in}
use Rattle.event_graph.proofs.Admitted.{laid}
use Rattle.event_graph.proofs.Counted.{event_there}
use Rattle.event_graph.proofs.Found.{sorted_found}
use Rattle.event_graph.proofs.IdRows.{row_of_unheld}
use Rattle.event_graph.proofs.Numbers.{below_count, numbered_ids}
use Rattle.event_graph.proofs.Places.{place_of}
use Rattle.event_graph.proofs.RowLaws.{first_row-alone, row_in-none}
use Rattle.event_graph.proofs.Soundness.{next_sound}

-- where there are events, there is a last one
pub last_there : (history : List Event) → 0 < length history → (x : Id) × (last_id history ≡ Some x)
last_there history some = at history (length history - 1) (omega (arith, some))
  where
    at : (events : List Event) (k : ℕ) → k < length events → (x : Id) × (slice_get (ids_of events) k ≡ Some x)
    at [] k h = absurd (omega arith)
    at (e ∷ events) zero h = (e.id, refl)
    at (e ∷ events) (suc k) h = at events k (omega (arith, h))

-- an event that goes on after the last one has one before it
pub some_before : (history : List Event) (x : Id) → option_map next_id (last_in (ids_of history)) ≡ Some x → 0 < length history
some_before [] x h = let no : ⊥ = cc in absurd no
some_before (e ∷ history) x h = omega arith

-- the last of numbered ids is its agent's last
next_free : (ids : List Id) (x : Id) → AreNumbered ids → last_in ids ≡ Some x → is_among ids (next_id x) ≡ false
next_free ids x numbered last =
    let own : suc x.seq ≡ count_of ids x.agent = next_number ids x numbered last in
    false_from_ne_true (is_among ids (next_id x)) (λ q. let less : suc x.seq < count_of ids x.agent = below_count ids (next_id x) numbered q in omega (arith, own, less))

module _ (history : List Event) (admitted : IsAdmitted history) (x : Id) (last : last_id history ≡ Some x) where
  pub last_of_ids : last_in (ids_of history) ≡ Some x
  last_of_ids = ap (λ n. slice_get (ids_of history) (n - 1)) (length-map history (λ (e : Event). e.id)) ∙ last

  split : (front : List Id) × (ids_of history ≡ front ++ x ∷ [])
  split = last_split (ids_of history) x last_of_ids

  next_unheld : is_held history (next_id x) ≡ false
  next_unheld = next_free (ids_of history) x (numbered_ids history admitted) last_of_ids

  last_held : is_held history x ≡ true
  last_held = ap (λ ids. is_among ids x) split.1 ∙ at split.0
    where
      at : (front : List Id) → is_among (front ++ x ∷ []) x ≡ true
      at [] = ap (λ b. b || false) (ids_alike.refl x)
      at (y ∷ front) = by (id_eq x y) (at front)
        where
          by : (b : Bool) → is_among (front ++ x ∷ []) x ≡ true → (b || is_among (front ++ x ∷ []) x) ≡ true
          by true h = refl
          by false h = h

  -- what is named and held is known
  last_known : is_among (ancestors history (x ∷ [])) x ≡ true
  last_known =
      let f = event_of history x last_held in
      let named : is_among (x ∷ []) f.0.id ≡ true = ap (λ y. is_among (y ∷ []) f.0.id) ((is_same_id x f.0.id).0 f.2) ∙ ap (λ b. b || false) (ids_alike.refl f.0.id) in
      held_by _ x f.0 (taken_named (λ (e : Event). e.id) (λ (e : Event). e.parents) id_eq history (x ∷ []) f.0 f.1 named) f.2

-- a row that doesn't hold is none
none_of : (a b c d f : Bool) (o : Option Id) → a ≡ false → b ≡ false → c ≡ false → o ≡ None → d ≡ false → f ≡ false
    → row_in (then_some a SelfParent ∷ then_some b TooManyParents ∷ then_some c ParentsUnsorted ∷ option_map Unknown o ∷ then_some d NotReduced ∷ then_some f Skipped ∷ []) ≡ None
none_of a b c d f o pa pb pc po pd pf =
    λ j. row_in (then_some (pa j) SelfParent ∷ then_some (pb j) TooManyParents ∷ then_some (pc j) ParentsUnsorted ∷ option_map Unknown (po j) ∷ then_some (pd j) NotReduced ∷ then_some (pf j) Skipped ∷ [])

itself : (b c : Bool) → b ≡ true → not (((b || c) && true) && true) ≡ false
itself true c h = refl
itself false c h = let no : ⊥ = cc in absurd no

-- no row by the parents holds where the one parent is held, the event isn't, and it is the next one of the parent's agent
no_parent_row : (held : List Event) (e : Event) (x : Id) → is_held held x ≡ true → is_held held e.id ≡ false → is_among (ancestors held (x ∷ [])) x ≡ true → e.id ≡ next_id x → e.parents ≡ x ∷ [] → row_in (parent_rows held e) ≡ None
unfolding parent_rows is_reduced follows_its_agent
no_parent_row held e x there new known next one =
    none_of (is_among e.parents e.id) (nat_lt 16 (length e.parents)) (not (ids_ascend e.parents)) (not (is_reduced held e.parents)) (not (follows_its_agent held e)) (find (λ p. not (is_held held p)) e.parents)
    (ap (λ ps. is_among ps e.id) one ∙ no_parent held (x ∷ []) e.id (there, tt) new)
    (ap (λ (ps : List Id). nat_lt 16 (length ps)) one)
    (ap (λ ps. not (ids_ascend ps)) one)
    (ap (find (λ p. not (is_held held p))) one ∙ ap (λ b. cond (not b) (Some x) None) there)
    (ap (λ ps. not (is_reduced held ps)) one ∙ itself (id_eq x x) (not (is_among (ancestors held (x ∷ [])) x)) (ids_alike.refl x))
    (ap (λ ps. not (has_number_below (ancestors held ps) e.id.agent e.id.seq)) one
    ∙ ap (λ (y : Id). not (has_number_below (ancestors held (x ∷ [])) y.agent y.seq)) next
    ∙ ap not known)

-- NO ROW holds for an event that goes on right behind the last one.
pub none_holds : (history : List Event) (e : Event) → IsAdmitted history → GoesOn history e → row_in (id_rows history [] e ++ parent_rows history e) ≡ None
none_holds history e admitted on =
    let x = on.0 in
    let last = on.1 in
    let next = on.2 in
    let new : is_held history e.id ≡ false = ap (is_held history) next ∙ next_unheld history admitted x last in
    row_in-none (id_rows history [] e) (parent_rows history e) (sym (row_of_unheld history e new))
    ∙ no_parent_row history e x (last_held history admitted x last) new (last_known history admitted x last) next on.3

one_sorted : (q : ℕ) → IsSorted nat_cmp (q ∷ [])
one_sorted q = λ k d low less. absurd (omega (arith, less))

-- the last event's id alone has the last position alone
pub last_alone : (history : List Event) (x : Id) → IsAdmitted history → last_id history ≡ Some x → (length history - 1) ∷ [] ≡ positions_in history (x ∷ [])
last_alone history x admitted last =
    let q = length history - 1 in
    let there = laid history admitted in
    let f = event_there history q x last in
    let place : position (id_eq x) (ids_of history) ≡ Some q = ap (λ y. position (id_eq y) (ids_of history)) (sym f.2) ∙ place_of history there q f.0 f.1 in
    let found : found_in history (x ∷ []) ≡ q ∷ [] = ap (λ (o : Option ℕ). option_to_list o ++ []) place in
    sorted_found history (x ∷ []) (q ∷ []) there refl (subst (λ ps. IsPermutation ps (q ∷ [])) (sym found) (IsPermutation-refl (q ∷ []))) (one_sorted q)

-- THE NEXT of the last event's agent, with that event as its only parent, is good.
module _ (history : List Event) (admitted : IsAdmitted history) (x : Id) (last : last_id history ≡ Some x) where
  pub next_behind : (place : ℕ) (id : Id) (op : Op) → place ≡ length history - 1 → id ≡ next_id x → IsGoodBehind history (place ∷ []) (event_on id op (x ∷ []))
  next_behind place id op there next =
      let e = event_on id op (x ∷ []) in
      let rows = id_rows history [] e ++ parent_rows history e in
      record {
        good = first_row-alone rows ∙ ap (λ (o : Option Ruling). unwrap_or o Good) (none_holds history e admitted (x, last, next, refl));
        placed = ap (λ n. n ∷ []) there ∙ last_alone history x admitted last;
      }

  pub good_behind : (op : Op) → graph_verdict history (event_behind x op) ≡ Good
  good_behind op = (next_behind (length history - 1) (next_id x) op refl refl).good

  -- its number is at most how many events there are
  pub next_few : suc x.seq ≤ length history
  next_few =
      let own : suc x.seq ≡ count_of (ids_of history) x.agent = next_number (ids_of history) x (numbered_ids history admitted) (last_of_ids history admitted x last) in
      let few = count_by-le-length (λ (y : Id). name_eq y.agent x.agent) (ids_of history) in
      omega (arith, own, few, length-map history (λ (e : Event). e.id))

  -- the event is sound where its operation is
  pub sound_behind : (op : Op) → AreSound history → length history + 1 < 2 ^ 32 → IsSoundOp op → IsSound (event_behind x op)
  sound_behind op sound few fits =
      let number = next_few in
      next_sound history (event_behind x op) sound (good_behind op) (record { agent = (id_sound history (length history - 1) sound last).agent; seq = omega (arith, number, few) }) fits
    where
      id_sound : (events : List Event) (place : ℕ) → AreSound events → slice_get (ids_of events) place ≡ Some x → IsSoundId x
      id_sound [] place all there = let no : ⊥ = cc in absurd no
      id_sound (e ∷ events) zero all there = let one : e.id ≡ x = cc in subst IsSoundId one all.0.id
      id_sound (e ∷ events) (suc place) all there = id_sound events place all.1 there
