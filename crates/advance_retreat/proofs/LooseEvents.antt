-- How many runs stand apart for no event's character, as events are applied and applies are refused.
use Rattle.std.proofs.Common.{◌≡◌, ℕ, ◌+◌, ◌-◌, ◌*◌, ◌^◌, ◌<◌, ◌≤◌, Bool, true, false, ◌&&◌, ◌||◌, nat_lt, nat_eq, if◌then◌else◌, cond, List, [], ◌∷◌, ◌++◌, map, length, find, Some, option_map, refl, sym, ap, ◌∙◌, arith}
use Rattle.std.proofs.lemmas.Bool.{ltb-true, ltb-false, false≢true}
use Rattle.ew_model.specs.declared.node.Node.{Node}
use Rattle.ew_model.specs.Tree.{Applied, Noted, tree_of}
use Rattle.walker_record.specs.Stretches.{Stretch, node_on}
use Rattle.fugue_place.specs.Attachments.{node_eq}
use Rattle.fugue_place.proofs.NodeLaws.{node_itself}
use Rattle.advance_retreat.specs.declared.target.Target.{Target}
use Rattle.advance_retreat.specs.Kept.{Kept, target_at}
use Rattle.advance_retreat.specs.Standing.{kept_target, StandsFor}
use Rattle.advance_retreat.specs.Refusals.{one_more}
use Rattle.character_runs.specs.Loose.{begins_in, ends_in, loose_behind, loose_in, is_one}
use Rattle.advance_retreat.specs.Refusals.{is_told, FewLoose}
use Rattle.character_runs.proofs.Cuts.{length-mapped}
use Rattle.character_runs.proofs.LooseRuns.{one_of, one_most, one_none}

-- MORE CHARACTERS, FEWER RUNS
one_fewer : (b x c y : Bool) → (b ≡ true → c ≡ true) → (x ≡ true → y ≡ true) → one_of c y ≤ one_of b x
one_fewer true x c y f g = let none : one_of c y ≡ 0 = ap (λ (a : Bool). one_of a y) (f refl) in omega (arith, none)
one_fewer false true c y f g = let none : one_of c y ≡ 0 = ap (one_of c) (g refl) ∙ one_none c in omega (arith, none)
one_fewer false false c y f g = let most = one_most c y in omega (arith, most)

and_more : (a x y : Bool) → (x ≡ true → y ≡ true) → (a && x) ≡ true → (a && y) ≡ true
and_more true x y f e = f e
and_more false x y f e = absurd (false≢true e)

module _ (p q : Node → Bool) (more : (v : Node) → p v ≡ true → q v ≡ true) where
  loose_fewer : (b c : Bool) → (b ≡ true → c ≡ true) → (rs : List Stretch) → loose_behind q c rs ≤ loose_behind p b rs
  loose_fewer b c f [] = omega arith
  loose_fewer b c f (r ∷ rs) =
      let last : Node = node_on r.from (r.len - 1) in
      let rest = loose_fewer (ends_in p r) (ends_in q r) (and_more (nat_lt 0 r.len) (p last) (q last) (more last)) rs in
      let own = one_fewer b (begins_in p r) c (begins_in q r) f (and_more (nat_lt 0 r.len) (p r.from) (q r.from) (more r.from)) in
      omega (arith, rest, own)

loose_long : (p : Node → Bool) (b : Bool) (rs : List Stretch) → loose_behind p b rs ≤ length rs
loose_long p b [] = omega arith
loose_long p b (r ∷ rs) =
    let rest = loose_long p (ends_in p r) rs in
    let own = one_most b (begins_in p r) in
    omega (arith, rest, own)

-- CHARACTERS OF EVENTS
or_right : (a b : Bool) → b ≡ true → (a || b) ≡ true
or_right true b e = refl
or_right false b e = e

-- the characters that events are about, as a list of nodes
pub told_nodes : (ts : List Target) → is_one node_eq (map (λ (t : Target). t.node) ts) ≡ is_told ts
told_nodes [] = refl
told_nodes (t ∷ ts) = λ i v. node_eq t.node v || told_nodes ts i v

pub last_told : (ts : List Target) (t : Target) → is_told (ts ++ t ∷ []) t.node ≡ true
last_told [] t = ap (λ (b : Bool). b || false) (node_itself t.node)
last_told (u ∷ ts) t = or_right (node_eq u.node t.node) (is_told (ts ++ t ∷ []) t.node) (last_told ts t)

or_more : (a b c : Bool) → (b ≡ true → c ≡ true) → (a || b) ≡ true → (a || c) ≡ true
or_more true b c f e = refl
or_more false b c f e = f e

more_told : (ts : List Target) (t : Target) (v : Node) → is_told ts v ≡ true → is_told (ts ++ t ∷ []) v ≡ true
more_told [] t v e = absurd (false≢true e)
more_told (u ∷ ts) t v e = or_more (node_eq u.node v) (is_told ts v) (is_told (ts ++ t ∷ []) v) (more_told ts t v) e

pub all_told : (ts us : List Target) (v : Node) → is_told ts v ≡ true → is_told (ts ++ us) v ≡ true
all_told [] us v e = absurd (false≢true e)
all_told (t ∷ ts) us v e = or_more (node_eq t.node v) (is_told ts v) (is_told (ts ++ us) v) (all_told ts us v) e

node_is : (v w : Node) → Some v ≡ Some w → v ≡ w
node_is v w e = cc

pub found_told : (ts : List Target) (n : ℕ) (v : Node) → target_at ts n ≡ Some v → is_told ts v ≡ true
found_told [] n v e = absurd (cc)
found_told (t ∷ ts) n v e = by (found_told ts n v) (nat_eq t.lv n) e
  where
    by : (target_at ts n ≡ Some v → is_told ts v ≡ true) → (b : Bool)
        → option_map (λ (u : Target). u.node) (cond b (Some t) (find (λ (u : Target). nat_eq u.lv n) ts)) ≡ Some v → (node_eq t.node v || is_told ts v) ≡ true
    by rest true h = ap (λ (w : Node). node_eq t.node w || is_told ts v) (sym (node_is t.node v h)) ∙ ap (λ (b : Bool). b || is_told ts v) (node_itself t.node)
    by rest false h = or_right (node_eq t.node v) (is_told ts v) (rest h)

-- THE STATE'S RUNS
pub base_few : (rs : List Stretch) → length rs ≤ 1 → FewLoose [] rs 0
base_few rs few room = let long = loose_long (is_told []) false rs in omega (arith, long, few)

pub same_few : (ts : List Target) (old new : List Stretch) (lost : ℕ) → FewLoose ts old lost → loose_in (is_told ts) new ≤ loose_in (is_told ts) old → FewLoose ts new lost
same_few ts old new lost few le room = let was = few room in omega (arith, was, le)

-- an event is applied
pub told_few : (ts : List Target) (t : Target) (old new : List Stretch) (lost : ℕ) → FewLoose ts old lost
    → loose_in (is_told (ts ++ t ∷ [])) new ≤ loose_in (is_told (ts ++ t ∷ [])) old → FewLoose (ts ++ t ∷ []) new lost
told_few ts t old new lost few le room =
    let was = few room in
    let fewer = loose_fewer (is_told ts) (is_told (ts ++ t ∷ [])) (more_told ts t) false false (λ e. e) old in
    omega (arith, was, le, fewer)

-- several are
pub many_few : (ts us : List Target) (old new : List Stretch) (lost : ℕ) → FewLoose ts old lost → loose_in (is_told (ts ++ us)) new ≤ loose_in (is_told (ts ++ us)) old → FewLoose (ts ++ us) new lost
many_few ts us old new lost few le room =
    let was = few room in
    let fewer = loose_fewer (is_told ts) (is_told (ts ++ us)) (all_told ts us) false false (λ e. e) old in
    omega (arith, was, le, fewer)

-- an apply is refused
pub lost_few : (ts : List Target) (old new : List Stretch) (lost : ℕ) → FewLoose ts old lost
    → loose_in (is_told ts) new ≤ loose_in (is_told ts) old + 2 → FewLoose ts new (one_more lost)
lost_few ts old new lost few le = by (nat_lt (lost + 1) (2 ^ 32)) refl
  where
    by : (b : Bool) → nat_lt (lost + 1) (2 ^ 32) ≡ b → FewLoose ts new (if b then lost + 1 else lost)
    by true e room = let was = few (ltb-true (lost + 1) (2 ^ 32) e) in omega (arith, was, le)
    by false e room = let past = ltb-false (lost + 1) (2 ^ 32) e in absurd (omega (arith, room, past))

pub kept_few : (ts : List Target) (rs : List Stretch) (lost : ℕ) → FewLoose ts rs lost → FewLoose ts rs (one_more lost)
kept_few ts rs lost few = lost_few ts rs rs lost few (omega arith)

-- so all runs are few, whether all refused applies are counted or not
pub all_few : (ts : List Target) (rs : List Stretch) (lost n : ℕ) → FewLoose ts rs lost
    → n ≤ loose_in (is_told ts) rs + 2 * length ts → n < 2 ^ 32 → n ≤ 1 + 2 * (length ts + lost)
all_few ts rs lost n few le small = by (nat_lt (lost + 1) (2 ^ 32)) refl
  where
    by : (b : Bool) → nat_lt (lost + 1) (2 ^ 32) ≡ b → n ≤ 1 + 2 * (length ts + lost)
    by true e = let was = few (ltb-true (lost + 1) (2 ^ 32) e) in omega (arith, was, le)
    by false e = let past = ltb-false (lost + 1) (2 ^ 32) e in omega (arith, past, small)

-- each event has a target
pub long_targets : (s : Kept) (b : ℕ) (events : List (Applied ℕ)) (prepared : List ℕ) → StandsFor s b events prepared → length s.targets ≡ length events
long_targets s b events prepared st =
    let notes : List (Noted ℕ) = tree_of nat_eq b events in
    ap length st.targets ∙ length-mapped (kept_target notes) notes
    ∙ sym (length-mapped (λ (n : Noted ℕ). n.name) notes) ∙ ap length st.placed ∙ length-mapped (λ (c : Applied ℕ). c.name) events
