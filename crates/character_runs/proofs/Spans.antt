-- Changes of characters of one kind whose numbers follow one another.
use Rattle.std.proofs.Common.{◌≡◌, ℕ, ◌+◌, ◌-◌, ◌<◌, ◌≤◌, nat_eq, nat_le, nat_lt, Bool, true, false, ◌&&◌, ◌||◌, List, [], ◌∷◌, map, if◌then◌else◌, refl, sym, ap, ◌∙◌, arith, eq-eqb}
use Rattle.std.proofs.lemmas.Bool.{false≢true, and_parts, eqb-true, leb-true, ltb-true, le-leb, lt-ltb}
use Rattle.ew_model.specs.declared.node.Node.{Node}
use Rattle.ew_model.specs.declared.node.Node.TheVariants.{Root, Base, Event}
use Rattle.walker_record.specs.Stretches.{Stretch, node_on}
use Rattle.fugue_place.specs.Attachments.{node_eq}
use Rattle.fugue_place.proofs.NodeLaws.{node_same}
use Rattle.character_runs.specs.declared.change.Change.{Change}
use Rattle.character_runs.specs.declared.change.Kind.{Kind}
use Rattle.character_runs.specs.declared.change.Kind.TheVariants.{OfBase, OfEvents}
use Rattle.character_runs.specs.States.{is_of, is_inserted, knows, changed}
use Rattle.character_runs.specs.Laid.{IsOffset}
use Rattle.character_runs.specs.Replacing.{changed_among, node_by, is_in, AreNodesOf}
use Rattle.character_runs.proofs.Changing.{change_from}

-- NUMBERS
is_false : (b : Bool) → (b ≡ true → ⊥) → b ≡ false
is_false true h = absurd (h refl)
is_false false h = refl

abbrev among : ℕ → ℕ → ℕ → Bool
among low high n = nat_le low n && nat_lt n high

is_among : (low high n : ℕ) → low ≤ n → n < high → among low high n ≡ true
is_among low high n le lt = λ i. le-leb low n le i && lt-ltb n high lt i

among_parts : (low high n : ℕ) → among low high n ≡ true → (low ≤ n) × (n < high)
among_parts low high n h =
    let parts = and_parts (nat_le low n) (nat_lt n high) h in
    (leb-true low n parts.0, ltb-true n high parts.1)

not_among : (low high n : ℕ) → (low ≤ n → n < high → ⊥) → among low high n ≡ false
not_among low high n none = is_false (among low high n) (λ h. let at = among_parts low high n h in none at.0 at.1)

among_low : (low high n : ℕ) → low < high → among low high n ≡ (nat_eq n low || among (low + 1) high n)
among_low low high n lt = at (nat_eq n low) refl
  where
    at : (b : Bool) → nat_eq n low ≡ b → among low high n ≡ (b || among (low + 1) high n)
    at true e = let is = eqb-true n low e in is_among low high n (omega (arith, is)) (omega (arith, is, lt))
    at false e = in_turn (among (low + 1) high n) refl
      where
        in_turn : (c : Bool) → among (low + 1) high n ≡ c → among low high n ≡ c
        in_turn true f = let parts = among_parts (low + 1) high n f in is_among low high n (let le = parts.0 in omega (arith, le)) parts.1
        in_turn false f =
            not_among low high n (λ l h. by (λ is. false≢true (sym e ∙ eq-eqb n low is)) l h)
          where
            by : (n ≡ low → ⊥) → low ≤ n → n < high → ⊥
            by other l h = false≢true (sym f ∙ is_among (low + 1) high n (omega (arith, other, l)) h)

among_high : (low n k : ℕ) → low ≤ n → among low (n + 1) k ≡ (nat_eq k n || among low n k)
among_high low n k le = at (nat_eq k n) refl
  where
    at : (b : Bool) → nat_eq k n ≡ b → among low (n + 1) k ≡ (b || among low n k)
    at true e = let is = eqb-true k n e in is_among low (n + 1) k (omega (arith, is, le)) (omega (arith, is))
    at false e = in_turn (among low n k) refl
      where
        in_turn : (c : Bool) → among low n k ≡ c → among low (n + 1) k ≡ c
        in_turn true f = let parts = among_parts low n k f in let lt = parts.1 in is_among low (n + 1) k parts.0 (omega (arith, lt))
        in_turn false f = not_among low (n + 1) k (λ l h. by (λ is. false≢true (sym e ∙ eq-eqb k n is)) l h)
          where
            by : (k ≡ n → ⊥) → low ≤ k → k < n + 1 → ⊥
            by other l h = false≢true (sym f ∙ is_among low n k l (omega (arith, other, h)))

-- NODES OF A KIND
pub is_within : (kind : Kind) (low high n : ℕ) → low ≤ n → n < high → is_in kind low high (node_by kind n) ≡ true
is_within OfBase low high n le lt = is_among low high n le lt
is_within OfEvents low high n le lt = is_among low high n le lt

pub outside : (kind : Kind) (low high n : ℕ) → (low ≤ n → n < high → ⊥) → is_in kind low high (node_by kind n) ≡ false
outside OfBase low high n none = not_among low high n none
outside OfEvents low high n none = not_among low high n none

pub none_between : (kind : Kind) (low high : ℕ) → high ≤ low → (v : Node) → is_in kind low high v ≡ false
none_between OfBase low high le Root = refl
none_between OfBase low high le (Base n) = not_among low high n (λ l h. absurd (omega (arith, le, l, h)))
none_between OfBase low high le (Event n) = refl
none_between OfEvents low high le Root = refl
none_between OfEvents low high le (Base n) = refl
none_between OfEvents low high le (Event n) = not_among low high n (λ l h. absurd (omega (arith, le, l, h)))

-- with one more at the low end, and at the high end
pub one_lower : (kind : Kind) (low high : ℕ) → low < high → (v : Node) → is_in kind low high v ≡ (node_eq v (node_by kind low) || is_in kind (low + 1) high v)
one_lower OfBase low high lt Root = refl
one_lower OfBase low high lt (Base n) = among_low low high n lt
one_lower OfBase low high lt (Event n) = refl
one_lower OfEvents low high lt Root = refl
one_lower OfEvents low high lt (Base n) = refl
one_lower OfEvents low high lt (Event n) = among_low low high n lt

pub one_higher : (kind : Kind) (low n : ℕ) → low ≤ n → (v : Node) → is_in kind low (n + 1) v ≡ (node_eq v (node_by kind n) || is_in kind low n v)
one_higher OfBase low n le Root = refl
one_higher OfBase low n le (Base k) = among_high low n k le
one_higher OfBase low n le (Event k) = refl
one_higher OfEvents low n le Root = refl
one_higher OfEvents low n le (Base k) = refl
one_higher OfEvents low n le (Event k) = among_high low n k le

-- each is itself, and no other
pub low_apart : (kind : Kind) (low high : ℕ) (v : Node) → node_eq v (node_by kind low) ≡ true → is_in kind (low + 1) high v ≡ false
low_apart kind low high v e = ap (is_in kind (low + 1) high) (node_same v (node_by kind low) e) ∙ outside kind (low + 1) high low (λ l h. absurd (omega (arith, l)))

pub high_apart : (kind : Kind) (low n : ℕ) (v : Node) → node_eq v (node_by kind n) ≡ true → is_in kind low n v ≡ false
high_apart kind low n v e = ap (is_in kind low n) (node_same v (node_by kind n) e) ∙ outside kind low n n (λ l h. absurd (omega (arith, h)))

-- steps on from a node of a kind
on_by : (kind : Kind) (n k : ℕ) → node_on (node_by kind n) k ≡ node_by kind (n + k)
on_by OfBase n k = refl
on_by OfEvents n k = refl

base_same : (m n : ℕ) → Base m ≡ Base n → m ≡ n
base_same m n e = cc

event_same : (m n : ℕ) → Event m ≡ Event n → m ≡ n
event_same m n e = cc

pub number_same : (kind : Kind) (m n : ℕ) → node_by kind m ≡ node_by kind n → m ≡ n
number_same OfBase m n e = base_same m n e
number_same OfEvents m n e = event_same m n e

-- what isn't one of the nodes isn't in
none_in : (kind : Kind) (low high : ℕ) (v : Node) → ((k : ℕ) → low ≤ k → k < high → node_by kind k ≡ v → ⊥) → is_in kind low high v ≡ false
none_in OfBase low high Root none = refl
none_in OfBase low high (Base k) none = not_among low high k (λ l h. none k l h refl)
none_in OfBase low high (Event k) none = refl
none_in OfEvents low high Root none = refl
none_in OfEvents low high (Base k) none = refl
none_in OfEvents low high (Event k) none = not_among low high k (λ l h. none k l h refl)

module _ (kind : Kind) (r : Stretch) (low high : ℕ) (from : r.from ≡ node_by kind low) (to : low + r.len ≡ high) where
  on_run : (n k : ℕ) → low + k ≡ n → node_on r.from k ≡ node_by kind n
  on_run n k is = ap (λ (v : Node). node_on v k) from ∙ on_by kind low k ∙ ap (node_by kind) is

  -- the nodes of a run
  pub nodes_of_run : AreNodesOf r (is_in kind low high)
  nodes_of_run = record {
    inside = λ n lt. ap (is_in kind low high) (on_run (low + n) n refl) ∙ is_within kind low high (low + n) (omega arith) (omega (arith, lt, to));
    outside = λ v other. none_in kind low high v (λ k l h is.
        let on : low + (k - low) ≡ k = omega (arith, l) in
        other (k - low) (omega (arith, l, h, to)) (on_run k (k - low) on ∙ is));
  }

  pub offset_between : (n k : ℕ) → IsOffset r (node_by kind n) k → (low ≤ n) × (n < high)
  offset_between n k is =
      let on : low + k ≡ n = number_same kind (low + k) n (sym (on_run (low + k) k refl) ∙ is.1) in
      let inside = is.0 in
      (omega (arith, on), omega (arith, on, inside, to))

  pub offset_of : (n : ℕ) → low ≤ n → n < high → IsOffset r (node_by kind n) (n - low)
  offset_of n l h =
      let on : low + (n - low) ≡ n = omega (arith, l) in
      (omega (arith, l, h, to), on_run n (n - low) on)

-- THE CHANGES
module _ (change : Change) where
  -- none are changed
  pub none_among : (among : Node → Bool) → ((v : Node) → among v ≡ false) → (rs : List Stretch) → map (changed_among among change) rs ≡ rs
  none_among among none [] = refl
  none_among among none (r ∷ rs) =
      let here : changed_among among change r ≡ r = ap (λ (b : Bool). if b then changed change r else r) (none r.from) in
      let rest = none_among among none rs in
      λ i. here i ∷ rest i

  -- characters that are changed in turn
  pub in_turn : (all one among : Node → Bool) → ((v : Node) → all v ≡ (one v || among v)) → ((v : Node) → one v ≡ true → among v ≡ false) → (rs : List Stretch)
      → map (changed_among among change) (map (changed_among one change) rs) ≡ map (changed_among all change) rs
  in_turn all one among sum apart [] = refl
  in_turn all one among sum apart (r ∷ rs) =
      let here = at (one r.from) refl in
      let rest = in_turn all one among sum apart rs in
      λ i. here i ∷ rest i
    where
      at : (b : Bool) → one r.from ≡ b → changed_among among change (changed_among one change r) ≡ changed_among all change r
      at true e =
          let own : changed_among one change r ≡ changed change r = ap (λ (b : Bool). if b then changed change r else r) e in
          let next : among (changed change r).from ≡ false = ap among (change_from change r) ∙ apart r.from e in
          let whole : all r.from ≡ true = sum r.from ∙ ap (λ (b : Bool). b || among r.from) e in
          ap (changed_among among change) own ∙ ap (λ (b : Bool). if b then changed change (changed change r) else changed change r) next
          ∙ sym (ap (λ (b : Bool). if b then changed change r else r) whole)
      at false e =
          let own : changed_among one change r ≡ r = ap (λ (b : Bool). if b then changed change r else r) e in
          let whole : all r.from ≡ among r.from = sum r.from ∙ ap (λ (b : Bool). b || among r.from) e in
          ap (changed_among among change) own ∙ sym (ap (λ (b : Bool). if b then changed change r else r) whole)

  -- whether a node is inserted depends on its own change
  module _ (u : Node) where
    abbrev tells : Stretch → Bool
    tells r = is_of u r && is_inserted r

    and_first : (b c : Bool) → b ≡ false → (b && c) ≡ false
    and_first true c e = absurd (false≢true (sym e))
    and_first false c e = refl

    other_tells : (r : Stretch) → node_eq r.from u ≡ false → (b : Bool) → tells (if b then changed change r else r) ≡ false
    other_tells r e true = and_first (is_of u (changed change r)) (is_inserted (changed change r)) (ap (λ (v : Node). node_eq v u) (change_from change r) ∙ e)
    other_tells r e false = and_first (is_of u r) (is_inserted r) e

    pub known_among : (p q : Node → Bool) → p u ≡ q u → (rs : List Stretch) → knows (map (changed_among p change) rs) u ≡ knows (map (changed_among q change) rs) u
    known_among p q same [] = refl
    known_among p q same (r ∷ rs) =
        let here = at (node_eq r.from u) refl in
        let rest = known_among p q same rs in
        λ i. here i || rest i
      where
        at : (b : Bool) → node_eq r.from u ≡ b → tells (changed_among p change r) ≡ tells (changed_among q change r)
        at true e =
            let own : r.from ≡ u = node_same r.from u e in
            ap (λ (b : Bool). tells (if b then changed change r else r)) (ap p own ∙ same ∙ sym (ap q own))
        at false e = other_tells r e (p r.from) ∙ sym (other_tells r e (q r.from))

    pub known_apart : (p : Node → Bool) → p u ≡ false → (rs : List Stretch) → knows (map (changed_among p change) rs) u ≡ knows rs u
    known_apart p none rs = known_among p (λ v. false) none rs ∙ ap (λ (xs : List Stretch). knows xs u) (none_among (λ v. false) (λ v. refl) rs)
