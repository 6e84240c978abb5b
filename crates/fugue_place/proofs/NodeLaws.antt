-- When two nodes are one.
use Rattle.std.proofs.Common.{◌≡◌, true, refl, ap}
use Rattle.std.proofs.lemmas.Bool.{false≢true, eqb-true, eq-eqb}
use Rattle.ew_model.specs.declared.node.Node.{Node}
use Rattle.ew_model.specs.declared.node.Node.TheVariants.{Root, Base, Event}
use Rattle.fugue_place.specs.declared.child.Side.{Side}
use Rattle.fugue_place.specs.declared.child.Side.TheVariants.{Left, Right}
use Rattle.fugue_place.specs.Attachments.{node_eq}
use Rattle.fugue_place.specs.Neighbours.{side_eq}

pub node_same : (u v : Node) → node_eq u v ≡ true → u ≡ v
node_same Root Root e = refl
node_same Root (Base j) e = absurd (false≢true e)
node_same Root (Event j) e = absurd (false≢true e)
node_same (Base i) Root e = absurd (false≢true e)
node_same (Base i) (Base j) e = ap Base (eqb-true i j e)
node_same (Base i) (Event j) e = absurd (false≢true e)
node_same (Event i) Root e = absurd (false≢true e)
node_same (Event i) (Base j) e = absurd (false≢true e)
node_same (Event i) (Event j) e = ap Event (eqb-true i j e)

pub node_itself : (v : Node) → node_eq v v ≡ true
node_itself Root = refl
node_itself (Base i) = eq-eqb i i refl
node_itself (Event i) = eq-eqb i i refl

pub side_same : (s t : Side) → side_eq s t ≡ true → s ≡ t
side_same Left Left e = refl
side_same Left Right e = absurd (false≢true e)
side_same Right Left e = absurd (false≢true e)
side_same Right Right e = refl

pub side_itself : (s : Side) → side_eq s s ≡ true
side_itself Left = refl
side_itself Right = refl
