-- Characters of a run that are deleted one after another.
use Rattle.std.proofs.Common.{◌≡◌, ℕ, zero, suc, ◌+◌, ◌<◌, ◌≤◌, Bool, true, false, ◌&&◌, ◌||◌, cond, List, [], ◌∷◌, ◌++◌, map, filter, length, ⊎_elim, refl, sym, ap, ◌∙◌, subst, arith, append_assoc, append-nil}
use Rattle.std.specs.List.{list_any}
use Rattle.std.proofs.lemmas.Bool.{cases_lt, false≢true}
use Rattle.std.proofs.lemmas.List.{map-append}
use Rattle.std.proofs.lemmas.List.Elements.{filter-append}
use Rattle.std.proofs.lemmas.List.Folds.{list_any-append}
use Rattle.ew_model.specs.declared.node.Node.{Node}
use Rattle.ew_model.specs.declared.node.Node.TheVariants.{Root}
use Rattle.walker_record.specs.Stretches.{Stretch, node_on, states_from}
use Rattle.fugue_place.specs.Attachments.{node_eq}
use Rattle.fugue_place.proofs.NodeLaws.{node_same, node_itself}
use Rattle.character_runs.specs.declared.change.Change.TheVariants.{Strike}
use Rattle.character_runs.specs.States.{is_of, is_inserted, is_visible, visible_in, shown_in, knows, changed, changed_at, deletion_by}
use Rattle.character_runs.specs.Laid.{record_of}
use Rattle.character_runs.specs.Deleting.{struck_each}
use Rattle.character_runs.specs.Replacing.{AreNodesOf, changed_among}
use Rattle.character_runs.specs.Spots.{IsDeletion}
use Rattle.character_runs.proofs.CharPlaces.{none_in, or_left, or_none, or_right}
use Rattle.character_runs.proofs.CutRuns.{unlike}
use Rattle.character_runs.proofs.Places.{same_steps, not_root_on}
use Rattle.character_runs.proofs.Replaced.{none_changed}
use Rattle.character_runs.proofs.RunChars.{one, next_on, node_on_none, take_behind, get_behind}

-- ALL OF THEM AT ONCE
-- the node is one of so many from the other on
abbrev pub is_on : Node → ℕ → Node → Bool
is_on v zero w = false
is_on v (suc n) w = node_eq w (node_on v n) || is_on v n w

pub on_inside : (v : Node) (n k : ℕ) → k < n → is_on v n (node_on v k) ≡ true
on_inside v zero k lt = absurd (omega (arith, lt))
on_inside v (suc n) k lt =
    ⊎_elim (λ (early : k < n). or_right (node_eq (node_on v k) (node_on v n)) (is_on v n (node_on v k)) (on_inside v n k early))
    (λ (late : n ≤ k).
    let is : k ≡ n = omega (arith, lt, late) in
    or_left (node_eq (node_on v k) (node_on v n)) (is_on v n (node_on v k)) (ap (λ (j : ℕ). node_eq (node_on v j) (node_on v n)) is ∙ node_itself (node_on v n)))
    (cases_lt k n)

pub on_outside : (v : Node) (n : ℕ) (w : Node) → ((k : ℕ) → k < n → node_on v k ≡ w → ⊥) → is_on v n w ≡ false
on_outside v zero w none = refl
on_outside v (suc n) w none =
    or_none (node_eq w (node_on v n)) (is_on v n w) (unlike w (node_on v n) (λ e. none n (omega arith) (sym e))) (on_outside v n w (λ k lt. none k (omega (arith, lt))))

-- the node is none of them, or one
pub on_which : (v : Node) (n : ℕ) (w : Node) → is_on v n w ≡ true → (k : ℕ) × (k < n) × (node_on v k ≡ w)
on_which v zero w e = absurd (false≢true e)
on_which v (suc n) w e = by (node_eq w (node_on v n)) refl (on_which v n w)
  where
    by : (b : Bool) → node_eq w (node_on v n) ≡ b → (is_on v n w ≡ true → (k : ℕ) × (k < n) × (node_on v k ≡ w)) → (k : ℕ) × (k < suc n) × (node_on v k ≡ w)
    by true h fewer = (n, omega arith, sym (node_same w (node_on v n) h))
    by false h fewer = let rest = fewer (sym (ap (λ (b : Bool). b || is_on v n w) h) ∙ e) in let less = rest.1 in (rest.0, omega (arith, less), rest.2)

pub nodes_on : (r : Stretch) (v : Node) → r.from ≡ v → (n : ℕ) → r.len ≡ n → AreNodesOf r (is_on v n)
nodes_on r v from n len = record {
  inside = λ k lt. ap (λ (w : Node). is_on v n (node_on w k)) from ∙ on_inside v n k (omega (arith, lt, len));
  outside = λ w none. on_outside v n w (λ k lt e. none k (omega (arith, lt, len)) (ap (λ (u : Node). node_on u k) from ∙ e));
}

-- a record after so many deletions, and after one more
one_more : (v : Node) (n : ℕ) → (v ≡ Root → ⊥) → (r : Stretch) → changed_at (node_on v n) Strike (changed_among (is_on v n) Strike r) ≡ changed_among (is_on v (suc n)) Strike r
one_more v n some r = by (node_eq r.from (node_on v n)) refl (is_on v n r.from) refl
  where
    by : (a : Bool) → node_eq r.from (node_on v n) ≡ a → (b : Bool) → is_on v n r.from ≡ b → changed_at (node_on v n) Strike (cond (is_on v n r.from) (changed Strike r) r) ≡ cond (node_eq r.from (node_on v n) || is_on v n r.from) (changed Strike r) r
    by true h true k =
        let at = on_which v n r.from k in
        let same = same_steps v at.0 n some (at.2 ∙ node_same r.from (node_on v n) h) in
        let low = at.1 in
        absurd (omega (arith, same, low))
    by true h false k =
        ap (λ (b : Bool). changed_at (node_on v n) Strike (cond b (changed Strike r) r)) k ∙ ap (λ (b : Bool). cond b (changed Strike r) r) h
        ∙ sym (λ i. cond (h i || is_on v n r.from) (changed Strike r) r)
    by false h true k =
        ap (λ (b : Bool). changed_at (node_on v n) Strike (cond b (changed Strike r) r)) k
        ∙ ap (λ (b : Bool). cond b (changed Strike (changed Strike r)) (changed Strike r)) h
        ∙ sym (λ i. cond (h i || k i) (changed Strike r) r)
    by false h false k =
        ap (λ (b : Bool). changed_at (node_on v n) Strike (cond b (changed Strike r) r)) k ∙ ap (λ (b : Bool). cond b (changed Strike r) r) h
        ∙ sym (λ i. cond (h i || k i) (changed Strike r) r)

map_each : (v : Node) (n : ℕ) → (v ≡ Root → ⊥) → (rs : List Stretch) → map (changed_at (node_on v n) Strike) (map (changed_among (is_on v n) Strike) rs) ≡ map (changed_among (is_on v (suc n)) Strike) rs
map_each v n some [] = refl
map_each v n some (r ∷ rs) = λ i. one_more v n some r i ∷ map_each v n some rs i

map_none : (rs : List Stretch) (v : Node) → map (changed_among (is_on v 0) Strike) rs ≡ rs
map_none [] v = refl
map_none (r ∷ rs) v = ap (λ (xs : List Stretch). r ∷ xs) (map_none rs v)

pub struck_at_once : (v : Node) → (v ≡ Root → ⊥) → (rs : List Stretch) (n : ℕ) → map (changed_among (is_on v n) Strike) rs ≡ struck_each rs v n
struck_at_once v some rs zero = map_none rs v
struck_at_once v some rs (suc n) = sym (map_each v n some rs) ∙ ap (map (changed_at (node_on v n) Strike)) (struck_at_once v some rs n)

-- WHAT IS KNOWN
-- others are known as before
module _ (among : Node → Bool) (u : Node) (other : among u ≡ false) where
  still : (r : Stretch) → (b : Bool) → node_eq r.from u ≡ b → (is_of u (changed_among among Strike r) && is_inserted (changed_among among Strike r)) ≡ (is_of u r && is_inserted r)
  still r true e = ap (λ (c : Bool). is_of u (cond c (changed Strike r) r) && is_inserted (cond c (changed Strike r) r)) (ap among (node_same r.from u e) ∙ other)
  still r false e = by (among r.from)
    where
      by : (c : Bool) → (is_of u (cond c (changed Strike r) r) && is_inserted (cond c (changed Strike r) r)) ≡ (is_of u r && is_inserted r)
      by true = (λ i. e i && is_inserted (changed Strike r)) ∙ sym (λ i. e i && is_inserted r)
      by false = refl

  pub known_among : (rs : List Stretch) → knows (map (changed_among among Strike) rs) u ≡ knows rs u
  known_among [] = refl
  known_among (r ∷ rs) = λ i. still r (node_eq r.from u) refl i || known_among rs i

-- so all are, where those are inserted before and after
pub known_each : (old new : List Stretch) (w : Node) (n : ℕ) → new ≡ map (changed_among (is_on w n) Strike) old → ((k : ℕ) → k < n → knows old (node_on w k) ≡ true) → ((k : ℕ) → k < n → knows new (node_on w k) ≡ true)
    → (v : Node) → knows new v ≡ knows old v
known_each old new w n now before after v = by (is_on w n v) refl
  where
    by : (b : Bool) → is_on w n v ≡ b → knows new v ≡ knows old v
    by true e = let k = on_which w n v e in ap (knows new) (sym k.2) ∙ after k.0 k.1 ∙ sym (before k.0 k.1) ∙ ap (knows old) k.2
    by false e = ap (λ (rs : List Stretch). knows rs v) now ∙ known_among (is_on w n) v e old

-- ONE AFTER ANOTHER
-- the first of them before the others
struck_first : (rs : List Stretch) (v : Node) (k : ℕ) → struck_each rs v (suc k) ≡ struck_each (map (changed_at v Strike) rs) (node_on v 1) k
struck_first rs v zero = ap (λ (w : Node). map (changed_at w Strike) rs) (node_on_none v)
struck_first rs v (suc k) =
    ap (map (changed_at (node_on v (suc k)) Strike)) (struck_first rs v k)
    ∙ ap (λ (w : Node). map (changed_at w Strike) (struck_each (map (changed_at v Strike) rs) (node_on v 1) k)) (sym (next_on v k))

-- so many characters from a node on, visible in what is prepared
abbrev chars : ℕ → Node → Bool → List Stretch
chars n w e = map record_of (states_from w n 1 e)

-- no record among these is of one of so many nodes from the node on
abbrev NoneOf : List Stretch → Node → ℕ → Type 0
NoneOf xs w n = (j : ℕ) → j < n → list_any (is_of (node_on w j)) xs ≡ false

-- the first is deleted
module _ (e : Bool) (n : ℕ) (w : Node) (xs ys : List Stretch) (some : w ≡ Root → ⊥) (none : NoneOf xs w (suc n)) where
  abbrev next : Node
  next = node_on w 1

  abbrev strike : Stretch → Stretch
  strike r = changed_at w Strike r

  abbrev front : List Stretch
  front = xs ++ one w 2 false ∷ []

  ahead : list_any (is_of w) xs ≡ false
  ahead = ap (λ (v : Node). list_any (is_of v) xs) (sym (node_on_none w)) ∙ none 0 (omega arith)

  own : strike (one w 1 e) ≡ one w 2 false
  own = ap (λ (b : Bool). cond b (changed Strike (one w 1 e)) (one w 1 e)) (node_itself w)

  apart : (j : ℕ) → node_on next j ≡ w → ⊥
  apart j is = let same = same_steps w (suc j) 0 some (sym (next_on w j) ∙ is ∙ sym (node_on_none w)) in omega (arith, same)

  behind : map strike (chars n next e) ≡ chars n next e
  behind = none_changed (chars n next e) w Strike (none_in n next w 1 e (λ j low. apart j))

  step : map strike (xs ++ (chars (suc n) w e ++ ys)) ≡ front ++ (chars n next e ++ map strike ys)
  step =
      map-append strike xs (one w 1 e ∷ (chars n next e ++ ys))
      ∙ (λ i. none_changed xs w Strike ahead i ++ (own i ∷ (map-append strike (chars n next e) ys ∙ ap (λ (zs : List Stretch). zs ++ map strike ys) behind) i))
      ∙ sym (append_assoc xs (one w 2 false ∷ []) (chars n next e ++ map strike ys))

  none_next : NoneOf front next n
  none_next j low =
      list_any-append (is_of (node_on next j)) xs (one w 2 false ∷ [])
      ∙ or_none (list_any (is_of (node_on next j)) xs) (node_eq w (node_on next j) || false)
      (ap (λ (v : Node). list_any (is_of v) xs) (next_on w j) ∙ none (suc j) (omega (arith, low)))
      (or_none (node_eq w (node_on next j)) false (unlike w (node_on next j) (λ is. apart j (sym is))) refl)

  visible_same : visible_in front ≡ visible_in xs
  visible_same = ap length (filter-append is_visible xs (one w 2 false ∷ [])) ∙ ap length (append-nil (filter is_visible xs))

  shown_same : shown_in front ≡ shown_in xs
  shown_same = ap length (filter-append (λ (r : Stretch). r.effect) xs (one w 2 false ∷ [])) ∙ ap length (append-nil (filter (λ (r : Stretch). r.effect) xs))

module _ (e : Bool) (at : ℕ) where
  pub deletions_from : (n : ℕ) (w : Node) (xs ys : List Stretch) → (w ≡ Root → ⊥) → NoneOf xs w n → visible_in xs ≡ at → (k : ℕ) → k < n
      → IsDeletion (struck_each (xs ++ (chars n w e ++ ys)) w k) at (record { node = node_on w k; op = deletion_by e (shown_in xs) })
  deletions_from zero w xs ys some none seen k lt = absurd (omega (arith, lt))
  deletions_from (suc n) w xs ys some none seen zero lt =
      let rest = chars n (node_on w 1) e ++ ys in
      let before = take_behind xs (one w 1 e ∷ rest) 0 ∙ append-nil xs in
      record {
        place = length xs + 0;
        here = (one w 1 e, get_behind xs (one w 1 e ∷ rest) 0, refl, ap visible_in before ∙ seen);
        node = node_on_none w;
        does = ap (λ (zs : List Stretch). deletion_by e (shown_in zs)) (sym before);
      }
  deletions_from (suc n) w xs ys some none seen (suc k) lt =
      let next = node_on w 1 in
      let more = front e n w xs ys some none in
      let now = more ++ (chars n next e ++ map (strike e n w xs ys some none) ys) in
      subst (λ (rs : List Stretch). IsDeletion rs at (record { node = node_on w (suc k); op = deletion_by e (shown_in xs) }))
      (sym (struck_first (xs ++ (chars (suc n) w e ++ ys)) w k ∙ ap (λ (zs : List Stretch). struck_each zs next k) (step e n w xs ys some none)))
      (subst (λ (v : Node). IsDeletion (struck_each now next k) at (record { node = v; op = deletion_by e (shown_in xs) })) (next_on w k)
      (subst (λ (m : ℕ). IsDeletion (struck_each now next k) at (record { node = node_on next k; op = deletion_by e m })) (shown_same e n w xs ys some none)
      (deletions_from n next more (map (strike e n w xs ys some none) ys) (not_root_on w 1 some) (none_next e n w xs ys some none) (visible_same e n w xs ys some none ∙ seen) k (omega (arith, lt)))))
