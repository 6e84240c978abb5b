-- The order of spots tells them apart, and keeps the children of one parent on one side together, by their ids.
use Rattle.std.proofs.Common.{◌≡◌, true, false, Option, Some, None, refl, sym, ap, ◌∙◌, subst}
use Rattle.std.specs.declared.cmp.Ordering.{Ordering}
use Rattle.std.specs.declared.cmp.Ordering.TheVariants.{Less, Equal, Greater}
use Rattle.std.specs.BTreeMap.{is_at}
use Rattle.std.specs.Ordering.{ordering_then, ordering_reverse, is_eq, is_lt, is_gt}
use Rattle.std.proofs.lemmas.Bool.{false≢true}
use Rattle.std.proofs.lemmas.Cmp.{nat_cmp_total, tied_itself}
use Rattle.std.proofs.lemmas.Map.Lookups.{exact_unsigned}
use Rattle.ew_model.specs.declared.id.Id.{Id}
use Rattle.ew_model.specs.declared.node.Node.{Node}
use Rattle.ew_model.specs.declared.node.Node.TheVariants.{Root, Base, Event}
use Rattle.ew_model.specs.Ids.{id_cmp}
use Rattle.ew_model.proofs.GapLaws.{eq_from}
use Rattle.ew_model.proofs.PathOrder.{id_total, id_exact, then_equal}
use Rattle.fugue_place.specs.declared.child.Side.{Side}
use Rattle.fugue_place.specs.declared.child.Side.TheVariants.{Left, Right}
use Rattle.fugue_place.specs.declared.child.Attached.{Attached}
use Rattle.fugue_place.specs.declared.line.Line.{Line}
use Rattle.fugue_place.specs.declared.spot.Rank.{Rank}
use Rattle.fugue_place.specs.declared.spot.Rank.TheVariants.{First, Of, Last}
use Rattle.fugue_place.specs.declared.spot.Spot.{Spot}
use Rattle.fugue_place.specs.Lines.{is_below, is_in_line}
use Rattle.fugue_place.specs.Spots.{node_cmp, side_cmp, rank_cmp, spot_cmp, spot_of, ahead_of, rank_behind, behind, IsBetween}
use Rattle.fugue_place.proofs.EndLaws.{IsInLine, from_line, in_line}
use Rattle.fugue_place.proofs.LineLaws.{is_less}

-- ONE PART AFTER ANOTHER
pub node_exact : (u v : Node) → node_cmp u v ≡ Equal → u ≡ v
node_exact Root Root e = refl
node_exact Root (Base j) e = let no : ⊥ = cc in absurd no
node_exact Root (Event j) e = let no : ⊥ = cc in absurd no
node_exact (Base i) Root e = let no : ⊥ = cc in absurd no
node_exact (Base i) (Base j) e = ap Base (exact_unsigned i j e)
node_exact (Base i) (Event j) e = let no : ⊥ = cc in absurd no
node_exact (Event i) Root e = let no : ⊥ = cc in absurd no
node_exact (Event i) (Base j) e = let no : ⊥ = cc in absurd no
node_exact (Event i) (Event j) e = ap Event (exact_unsigned i j e)

pub node_tied : (v : Node) → node_cmp v v ≡ Equal
node_tied Root = refl
node_tied (Base i) = tied_itself nat_cmp_total i
node_tied (Event i) = tied_itself nat_cmp_total i

node_back : (u v : Node) → node_cmp u v ≡ ordering_reverse (node_cmp v u)
node_back Root Root = refl
node_back Root (Base j) = refl
node_back Root (Event j) = refl
node_back (Base i) Root = refl
node_back (Base i) (Base j) = nat_cmp_total.antisymm i j
node_back (Base i) (Event j) = refl
node_back (Event i) Root = refl
node_back (Event i) (Base j) = refl
node_back (Event i) (Event j) = nat_cmp_total.antisymm i j

side_exact : (s t : Side) → side_cmp s t ≡ Equal → s ≡ t
side_exact Left Left e = refl
side_exact Left Right e = let no : ⊥ = cc in absurd no
side_exact Right Left e = let no : ⊥ = cc in absurd no
side_exact Right Right e = refl

side_tied : (s : Side) → side_cmp s s ≡ Equal
side_tied Left = refl
side_tied Right = refl

side_back : (s t : Side) → side_cmp s t ≡ ordering_reverse (side_cmp t s)
side_back Left Left = refl
side_back Left Right = refl
side_back Right Left = refl
side_back Right Right = refl

rank_exact : (r t : Rank) → rank_cmp r t ≡ Equal → r ≡ t
rank_exact First First e = refl
rank_exact First (Of y) e = let no : ⊥ = cc in absurd no
rank_exact First Last e = let no : ⊥ = cc in absurd no
rank_exact (Of x) First e = let no : ⊥ = cc in absurd no
rank_exact (Of x) (Of y) e = ap Of (id_exact x y e)
rank_exact (Of x) Last e = let no : ⊥ = cc in absurd no
rank_exact Last First e = let no : ⊥ = cc in absurd no
rank_exact Last (Of y) e = let no : ⊥ = cc in absurd no
rank_exact Last Last e = refl

rank_tied : (r : Rank) → rank_cmp r r ≡ Equal
rank_tied First = refl
rank_tied (Of x) = tied_itself id_total x
rank_tied Last = refl

-- SPOTS
pub spot_same : (p q : Spot) → is_at (spot_cmp p) q ≡ true → p ≡ q
spot_same p q h =
    let outer = then_equal (node_cmp p.parent q.parent) (ordering_then (side_cmp p.side q.side) (rank_cmp p.rank q.rank)) (eq_from (spot_cmp p q) h) in
    let inner = then_equal (side_cmp p.side q.side) (rank_cmp p.rank q.rank) outer.1 in
    let parent = node_exact p.parent q.parent outer.0 in
    let side = side_exact p.side q.side inner.0 in
    let rank = rank_exact p.rank q.rank inner.1 in
    λ i. record { parent = parent i; side = side i; rank = rank i }

-- under one parent on one side, spots go by their ranks
pub by_rank : (v : Node) (s : Side) (r t : Rank) → let spot = λ (x : Rank). let p : Spot = record { parent = v; side = s; rank = x } in p in spot_cmp (spot r) (spot t) ≡ rank_cmp r t
by_rank v s r t =
    ap (λ (o : Ordering). ordering_then o (ordering_then (side_cmp s s) (rank_cmp r t))) (node_tied v)
    ∙ ap (λ (o : Ordering). ordering_then o (rank_cmp r t)) (side_tied s)

pub spot_itself : (p : Spot) → is_at (spot_cmp p) p ≡ true
spot_itself p = ap is_eq (by_rank p.parent p.side p.rank p.rank ∙ rank_tied p.rank)

rank_back : (r t : Rank) → rank_cmp r t ≡ ordering_reverse (rank_cmp t r)
rank_back First First = refl
rank_back First (Of y) = refl
rank_back First Last = refl
rank_back (Of x) First = refl
rank_back (Of x) (Of y) = id_total.antisymm x y
rank_back (Of x) Last = refl
rank_back Last First = refl
rank_back Last (Of y) = refl
rank_back Last Last = refl

then_back : (r s : Ordering) → ordering_then (ordering_reverse r) (ordering_reverse s) ≡ ordering_reverse (ordering_then r s)
then_back Less s = refl
then_back Equal s = refl
then_back Greater s = refl

pub spot_back : (p q : Spot) → spot_cmp p q ≡ ordering_reverse (spot_cmp q p)
spot_back p q =
    ap (λ (o : Ordering). ordering_then o (ordering_then (side_cmp p.side q.side) (rank_cmp p.rank q.rank))) (node_back p.parent q.parent)
    ∙ ap (λ (o : Ordering). ordering_then (ordering_reverse (node_cmp q.parent p.parent)) (ordering_then o (rank_cmp p.rank q.rank))) (side_back p.side q.side)
    ∙ ap (λ (o : Ordering). ordering_then (ordering_reverse (node_cmp q.parent p.parent)) (ordering_then (ordering_reverse (side_cmp q.side p.side)) o)) (rank_back p.rank q.rank)
    ∙ ap (ordering_then (ordering_reverse (node_cmp q.parent p.parent))) (then_back (side_cmp q.side p.side) (rank_cmp q.rank p.rank))
    ∙ then_back (node_cmp q.parent p.parent) (ordering_then (side_cmp q.side p.side) (rank_cmp q.rank p.rank))

-- BETWEEN THE ENDS OF A LINE
-- what lies between two spots that agree in the first part agrees with them
squeezed : (r s x y : Ordering) → r ≡ ordering_reverse s → is_gt (ordering_then r x) ≡ false → ordering_then s y ≡ Less → (r ≡ Equal) × (is_gt x ≡ false) × (y ≡ Less)
squeezed r Less x y e g l = absurd (false≢true (sym g ∙ ap (λ (o : Ordering). is_gt (ordering_then o x)) e))
squeezed r Equal x y e g l = (e, ap (λ (o : Ordering). is_gt (ordering_then o x)) (sym e) ∙ g, l)
squeezed r Greater x y e g l = let no : ⊥ = cc in absurd no

-- a spot of a child in the line, or one that such a child may have
pub record IsUnder (line : Line) (q : Spot) : Type 0 where
  pub parent : line.parent ≡ q.parent
  pub side : line.side ≡ q.side
  pub rank : rank_cmp q.rank (rank_behind line.below) ≡ Less

pub under_line : (line : Line) (q : Spot) → IsBetween (ahead_of line) (behind line) q → IsUnder line q
under_line line q h =
    let outer = squeezed (node_cmp line.parent q.parent) (node_cmp q.parent line.parent)
    (ordering_then (side_cmp line.side q.side) (rank_cmp First q.rank)) (ordering_then (side_cmp q.side line.side) (rank_cmp q.rank (rank_behind line.below)))
    (node_back line.parent q.parent) h.above h.below in
    let inner = squeezed (side_cmp line.side q.side) (side_cmp q.side line.side) (rank_cmp First q.rank) (rank_cmp q.rank (rank_behind line.below)) (side_back line.side q.side) outer.1 outer.2 in
    record { parent = node_exact line.parent q.parent outer.0; side = side_exact line.side q.side inner.0; rank = inner.2 }

below_limit : (line : Line) (a : Attached) → rank_cmp (Of a.id) (rank_behind line.below) ≡ Less → is_in_line (record { parent = a.parent; side = a.side; below = line.below }) a ≡ true
below_limit line a h = at line.below h
  where
    at : (below : Option Id) → rank_cmp (Of a.id) (rank_behind below) ≡ Less → is_in_line (record { parent = a.parent; side = a.side; below = below }) a ≡ true
    at None k = in_line (record { parent = a.parent; side = a.side; below = None }) a refl refl refl
    at (Some limit) k = in_line (record { parent = a.parent; side = a.side; below = Some limit }) a refl refl (ap is_lt k)

-- a child between the ends of the line is in it
pub child_under : (line : Line) (a : Attached) → IsBetween (ahead_of line) (behind line) (spot_of a) → is_in_line line a ≡ true
child_under line a h =
    let under = under_line line (spot_of a) h in
    subst (λ (v : Node). is_in_line (record { parent = v; side = line.side; below = line.below }) a ≡ true) (sym under.parent)
    (subst (λ (s : Side). is_in_line (record { parent = a.parent; side = s; below = line.below }) a ≡ true) (sym under.side) (below_limit line a under.rank))

rank_below : (below : Option Id) (line : Line) (a : Attached) → line.below ≡ below → IsInLine line a → rank_cmp (Of a.id) (rank_behind below) ≡ Less
rank_below None line a e h = refl
rank_below (Some limit) line a e h = is_less (id_cmp a.id limit) (subst (λ (b : Option Id). is_below b a.id ≡ true) e h.below)

spot_in : (line : Line) (a : Attached) → IsInLine line a → spot_of a ≡ record { parent = line.parent; side = line.side; rank = Of a.id }
spot_in line a h = λ i. record { parent = h.parent i; side = h.side i; rank = Of a.id }

-- a child in the line lies between its ends
pub under_from : (line : Line) (a : Attached) → is_in_line line a ≡ true → IsBetween (ahead_of line) (behind line) (spot_of a)
under_from line a e =
    let known = from_line line a e in
    subst (IsBetween (ahead_of line) (behind line)) (sym (spot_in line a known)) (record {
      above = ap is_gt (by_rank line.parent line.side First (Of a.id));
      below = by_rank line.parent line.side (Of a.id) (rank_behind line.below) ∙ rank_below line.below line a refl known;
    })

-- children in one line go by their ids
pub by_id : (line : Line) (a c : Attached) → is_in_line line a ≡ true → is_in_line line c ≡ true → spot_cmp (spot_of a) (spot_of c) ≡ id_cmp a.id c.id
by_id line a c ea ec =
    ap (λ (p : Spot). spot_cmp p (spot_of c)) (spot_in line a (from_line line a ea))
    ∙ ap (spot_cmp (record { parent = line.parent; side = line.side; rank = Of a.id })) (spot_in line c (from_line line c ec))
    ∙ by_rank line.parent line.side (Of a.id) (Of c.id)
