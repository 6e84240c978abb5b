-- The orders that nodes and spots have in the program are those of the definitions.
use Rattle.std.proofs.Common.{◌≡◌, refl, ap, ◌∙◌}
use Rattle.std.specs.Ordering.{ordering_then}
use Rattle.std.specs.declared.cmp.Ordering.{Ordering}
use Rattle.ew_model.specs.declared.node.Node.{Node}
use Rattle.ew_model.specs.declared.node.Node.TheVariants.{Root, Base, Event}
use Rattle.ew_model.specs.contracts.node.NodeOrd.TheImpl as node
use Rattle.fugue_place.specs.declared.child.Side.{Side}
use Rattle.fugue_place.specs.declared.child.Side.TheVariants.{Left, Right}
use Rattle.fugue_place.specs.declared.spot.Rank.{Rank}
use Rattle.fugue_place.specs.declared.spot.Rank.TheVariants.{First, Of, Last}
use Rattle.fugue_place.specs.declared.spot.Spot.{Spot}
use Rattle.fugue_place.specs.contracts.child.SideOrd.TheImpl as side
use Rattle.fugue_place.specs.contracts.spot.RankOrd.TheImpl as rank
use Rattle.fugue_place.specs.contracts.spot.SpotOrd.TheImpl as spot
use Rattle.fugue_place.specs.Spots.{node_cmp, side_cmp, rank_cmp, spot_cmp}

same_node : (u v : Node) → node.ghosts.cmp u v ≡ node_cmp u v
same_node Root Root = refl
same_node Root (Base j) = refl
same_node Root (Event j) = refl
same_node (Base i) Root = refl
same_node (Base i) (Base j) = refl
same_node (Base i) (Event j) = refl
same_node (Event i) Root = refl
same_node (Event i) (Base j) = refl
same_node (Event i) (Event j) = refl

same_side : (s t : Side) → side.ghosts.cmp s t ≡ side_cmp s t
same_side Left Left = refl
same_side Left Right = refl
same_side Right Left = refl
same_side Right Right = refl

same_rank : (r t : Rank) → rank.ghosts.cmp r t ≡ rank_cmp r t
same_rank First First = refl
same_rank First (Of y) = refl
same_rank First Last = refl
same_rank (Of x) First = refl
same_rank (Of x) (Of y) = refl
same_rank (Of x) Last = refl
same_rank Last First = refl
same_rank Last (Of y) = refl
same_rank Last Last = refl

same_spot : (p q : Spot) → spot.ghosts.cmp p q ≡ spot_cmp p q
same_spot p q =
    ap (λ (o : Ordering). ordering_then o (ordering_then (side.ghosts.cmp p.side q.side) (rank.ghosts.cmp p.rank q.rank))) (same_node p.parent q.parent)
    ∙ ap (λ (o : Ordering). ordering_then (node_cmp p.parent q.parent) (ordering_then o (rank.ghosts.cmp p.rank q.rank))) (same_side p.side q.side)
    ∙ ap (λ (o : Ordering). ordering_then (node_cmp p.parent q.parent) (ordering_then (side_cmp p.side q.side) o)) (same_rank p.rank q.rank)

pub nodes_by : node.ghosts.cmp ≡ node_cmp
nodes_by = λ i u v. same_node u v i

pub spots_by : spot.ghosts.cmp ≡ spot_cmp
spots_by = λ i p q. same_spot p q i
