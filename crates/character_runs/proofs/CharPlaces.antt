-- The places of nodes' characters among all.
use Rattle.std.proofs.Common.{◌≡◌, ℕ, zero, suc, ◌+◌, ◌<◌, Bool, true, false, ◌&&◌, ◌||◌, List, [], ◌∷◌, ◌++◌, map, Some, None, length, slice_get, slice_index_or, ◌≤◌, Contains, refl, sym, ap, ◌∙◌, subst, inl, arith, length-append}
use Rattle.std.specs.List.{list_any}
use Rattle.std.proofs.lemmas.Bool.{false≢true}
use Rattle.std.proofs.lemmas.List.Folds.{list_any-append}
use Rattle.std.proofs.lemmas.List.Elements.{Contains-append_right}
use Rattle.ew_model.specs.declared.node.Node.{Node}
use Rattle.walker_record.specs.Stretches.{Stretch, node_on, states_from}
use Rattle.fugue_place.specs.Attachments.{node_eq}
use Rattle.fugue_place.specs.declared.neighbour.Place.TheVariants.{After, Before}
use Rattle.fugue_place.proofs.NodeLaws.{node_same, node_itself}
use Rattle.order_tree.specs.Pairs.{IsRising, lower, up_to}
use Rattle.order_tree.proofs.Around.{up_to_around}
use Rattle.order_tree.proofs.PairLaws.{up_to_all}
use Rattle.std.proofs.lemmas.List.Elements.{All-nil, All-cons}
use Rattle.character_runs.specs.declared.labels.Labels.{Labels}
use Rattle.character_runs.specs.States.{is_of, is_visible, sees}
use Rattle.character_runs.specs.Labelled.{label_of}
use Rattle.character_runs.specs.Laid.{Stands, AreLabelled, record_of, records_of, chars_in}
use Rattle.character_runs.specs.Spots.{IsIndex}
use Rattle.character_runs.proofs.Moves.{is_first}
use Rattle.character_runs.proofs.PartedRuns.{Parted, parted, lower_is}
use Rattle.character_runs.proofs.Places.{on_on}
use Rattle.character_runs.proofs.RunChars.{node_on_none, length-records_of, chars-append, char_at}
use Rattle.ew_model.proofs.Outcomes.{none_by}

-- in a run
pub or_right : (a b : Bool) → b ≡ true → (a || b) ≡ true
or_right true b e = refl
or_right false b e = e

pub or_left : (a b : Bool) → a ≡ true → (a || b) ≡ true
or_left true b e = refl
or_left false b e = absurd (false≢true e)

pub or_none : (a b : Bool) → a ≡ false → b ≡ false → (a || b) ≡ false
or_none true b e f = e
or_none false b e f = f

next_to : (k : ℕ) → 1 + k ≡ suc k
next_to k = omega arith

any_in : (n k : ℕ) (w v : Node) (p : ℕ) (e : Bool) → k < n → node_on w k ≡ v → list_any (is_of v) (map record_of (states_from w n p e)) ≡ true
any_in zero k w v p e lt is = absurd (omega (arith, lt))
any_in (suc n) zero w v p e lt is =
    let same : node_eq w v ≡ true = ap (node_eq w) (sym is ∙ node_on_none w) ∙ node_itself w in
    or_left (node_eq w v) (list_any (is_of v) (map record_of (states_from (node_on w 1) n p e))) same
any_in (suc n) (suc k) w v p e lt is =
    or_right (node_eq w v) (list_any (is_of v) (map record_of (states_from (node_on w 1) n p e)))
    (any_in n k (node_on w 1) v p e (omega (arith, lt)) (on_on w 1 k ∙ ap (node_on w) (next_to k) ∙ is))

is_false : (b : Bool) → (b ≡ true → ⊥) → b ≡ false
is_false true h = absurd (h refl)
is_false false h = refl

pub none_in : (n : ℕ) (w v : Node) (p : ℕ) (e : Bool) → ((k : ℕ) → k < n → node_on w k ≡ v → ⊥) → list_any (is_of v) (map record_of (states_from w n p e)) ≡ false
none_in zero w v p e none = refl
none_in (suc n) w v p e none =
    or_none (node_eq w v) (list_any (is_of v) (map record_of (states_from (node_on w 1) n p e)))
    (is_false (node_eq w v) (λ h. none 0 (omega arith) (node_on_none w ∙ node_same w v h)))
    (none_in n (node_on w 1) v p e (λ k lt is. none (suc k) (omega (arith, lt)) (ap (node_on w) (sym (next_to k)) ∙ sym (on_on w 1 k) ∙ is)))

-- IN ALL
-- a character that stands somewhere is one of them
pub any_of : (ps : List (ℕ × Stretch)) (l n : ℕ) (v : Node) → Stands ps l n v → list_any (is_of v) (chars_in ps) ≡ true
any_of ps l n v s = at ps s.held.0 s.held.1 s.held.2
  where
    here : (q : ℕ × Stretch) → q ≡ (l, s.run) → list_any (is_of v) (records_of q.1) ≡ true
    here q e =
        subst (λ (r : Stretch). list_any (is_of v) (records_of r) ≡ true) (sym (ap (λ (x : ℕ × Stretch). x.1) e))
        (any_in s.run.len n s.run.from v s.run.prepared s.run.effect s.inside s.node)

    at : (qs : List (ℕ × Stretch)) (k : ℕ) → k < length qs → slice_index_or qs k (l, s.run) ≡ (l, s.run) → list_any (is_of v) (chars_in qs) ≡ true
    at [] k lt e = absurd (omega (arith, lt))
    at (q ∷ qs) zero lt e =
        list_any-append (is_of v) (records_of q.1) (chars_in qs)
        ∙ or_left (list_any (is_of v) (records_of q.1)) (list_any (is_of v) (chars_in qs)) (here q e)
    at (q ∷ qs) (suc k) lt e =
        list_any-append (is_of v) (records_of q.1) (chars_in qs)
        ∙ or_right (list_any (is_of v) (records_of q.1)) (list_any (is_of v) (chars_in qs)) (at qs k (omega (arith, lt)) e)

-- one of a run that is visible is seen
abbrev seen_as : Node → Stretch → Bool
seen_as v r = is_of v r && is_visible r

seen_in : (n k : ℕ) (w v : Node) (e : Bool) → k < n → node_on w k ≡ v → list_any (seen_as v) (map record_of (states_from w n 1 e)) ≡ true
seen_in zero k w v e lt is = absurd (omega (arith, lt))
seen_in (suc n) zero w v e lt is =
    let same : node_eq w v ≡ true = ap (node_eq w) (sym is ∙ node_on_none w) ∙ node_itself w in
    ap (λ (b : Bool). (b && true) || list_any (seen_as v) (map record_of (states_from (node_on w 1) n 1 e))) same
seen_in (suc n) (suc k) w v e lt is =
    or_right (node_eq w v && true) (list_any (seen_as v) (map record_of (states_from (node_on w 1) n 1 e)))
    (seen_in n k (node_on w 1) v e (omega (arith, lt)) (on_on w 1 k ∙ ap (node_on w) (next_to k) ∙ is))

pub sees_there : (ps : List (ℕ × Stretch)) (l n : ℕ) (v : Node) (run : Stretch) → Contains ps (l, run) → n < run.len → node_on run.from n ≡ v → run.prepared ≡ 1 → sees (chars_in ps) v ≡ true
sees_there ps l n v run held inside node visible = at ps held.0 held.1 held.2
  where
    here : (q : ℕ × Stretch) → q ≡ (l, run) → list_any (seen_as v) (records_of q.1) ≡ true
    here q e =
        subst (λ (r : Stretch). list_any (seen_as v) (records_of r) ≡ true) (sym (ap (λ (x : ℕ × Stretch). x.1) e))
        (subst (λ (p : ℕ). list_any (seen_as v) (map record_of (states_from run.from run.len p run.effect)) ≡ true) (sym visible) (seen_in run.len n run.from v run.effect inside node))

    at : (qs : List (ℕ × Stretch)) (k : ℕ) → k < length qs → slice_index_or qs k (l, run) ≡ (l, run) → list_any (seen_as v) (chars_in qs) ≡ true
    at [] k lt e = absurd (omega (arith, lt))
    at (q ∷ qs) zero lt e = list_any-append (seen_as v) (records_of q.1) (chars_in qs) ∙ or_left (list_any (seen_as v) (records_of q.1)) (list_any (seen_as v) (chars_in qs)) (here q e)
    at (q ∷ qs) (suc k) lt e = list_any-append (seen_as v) (records_of q.1) (chars_in qs) ∙ or_right (list_any (seen_as v) (records_of q.1)) (list_any (seen_as v) (chars_in qs)) (at qs k (omega (arith, lt)) e)

-- so where none of them is the node's, it stands nowhere, and has no label
pub stands_not : (ps : List (ℕ × Stretch)) (v : Node) → list_any (is_of v) (chars_in ps) ≡ false → (l n : ℕ) → Stands ps l n v → ⊥
stands_not ps v none l n s = false≢true (sym none ∙ any_of ps l n v s)

pub label_not : (ps : List (ℕ × Stretch)) (t : Labels) (v : Node) → AreLabelled ps t → list_any (is_of v) (chars_in ps) ≡ false → label_of t v ≡ None
label_not ps t v laid none =
    none_by (label_of t v) (λ l e. let o = laid.only v l e in stands_not ps v none l 0 (record { run = o.0; held = o.1; inside = o.3; node = node_on_none o.0.from ∙ o.2 }))

-- and the other way round
pub none_of : (ps : List (ℕ × Stretch)) (v : Node) → ((l n : ℕ) → Stands ps l n v → ⊥) → list_any (is_of v) (chars_in ps) ≡ false
none_of [] v none = refl
none_of (p ∷ ps) v none =
    list_any-append (is_of v) (records_of p.1) (chars_in ps)
    ∙ or_none (list_any (is_of v) (records_of p.1)) (list_any (is_of v) (chars_in ps))
    (none_in p.1.len p.1.from v p.1.prepared p.1.effect (λ k lt is. none p.0 k (record { run = p.1; held = is_first p ps; inside = lt; node = is })))
    (none_of ps v (λ l n s. none l n (record { run = s.run; held = Contains-append_right (p ∷ []) ps (l, s.run) s.held; inside = s.inside; node = s.node })))

-- PLACES
module _ (ps : List (ℕ × Stretch)) (rising : IsRising ps) (label : ℕ) (run : Stretch) (held : Contains ps (label, run)) where
  abbrev at : Parted ps label run
  at = parted ps label run rising held

  -- the front, and the run behind it
  pub up_to_is : up_to ps label ≡ at.front ++ (label, run) ∷ []
  up_to_is =
      let own : List (ℕ × Stretch) = (label, run) ∷ [] in
      ap (λ (qs : List (ℕ × Stretch)). up_to qs label) at.is ∙ up_to_around at.front own at.back label at.below at.above
      ∙ ap (λ (qs : List (ℕ × Stretch)). at.front ++ qs) (up_to_all label own (All-cons (λ (x : ℕ × Stretch). x.0 ≤ label) (label, run) [] (omega arith) (All-nil (λ (x : ℕ × Stretch). x.0 ≤ label))))

  pub up_to_chars : chars_in (up_to ps label) ≡ chars_in at.front ++ records_of run
  up_to_chars = ap chars_in up_to_is ∙ chars-append at.front ((label, run) ∷ []) ∙ ap (λ (xs : List Stretch). chars_in at.front ++ xs) (nothing (records_of run))
    where
      nothing : (xs : List Stretch) → xs ++ [] ≡ xs
      nothing [] = refl
      nothing (x ∷ xs) = ap (λ (ys : List Stretch). x ∷ ys) (nothing xs)

  module _ (v : Node) (n : ℕ) (within : n < run.len) (node : node_on run.from n ≡ v) where
    here : slice_get (chars_in ps) (length (chars_in at.front) + n) ≡ Some (record { from = node_on run.from n; len = 1; prepared = run.prepared; effect = run.effect })
    here = ap (λ (qs : List (ℕ × Stretch)). slice_get (chars_in qs) (length (chars_in at.front) + n)) at.is ∙ char_at at.front at.back label run n within

    pub index_behind : run.len ≡ n + 1 → IsIndex (chars_in ps) (After v) (length (chars_in (up_to ps label)))
    index_behind last =
        let long = ap length up_to_chars ∙ length-append (chars_in at.front) (records_of run) in
        let many = length-records_of run in
        inl (length (chars_in at.front) + n, record { from = node_on run.from n; len = 1; prepared = run.prepared; effect = run.effect }, here, node, omega (arith, long, many, last))

    pub index_ahead : n ≡ 0 → IsIndex (chars_in ps) (Before v) (length (chars_in (lower ps label)))
    index_ahead first =
        let long = ap (λ (qs : List (ℕ × Stretch)). length (chars_in qs)) (lower_is ps label run at) in
        inl (length (chars_in at.front) + n, record { from = node_on run.from n; len = 1; prepared = run.prepared; effect = run.effect }, here, node, omega (arith, long, first))
