use Rattle.std.proofs.Common.{◌≡◌, None, List, sym, subst, arith}
use Rattle.ew_model.specs.declared.node.Node.TheVariants.{Root}
use Rattle.advance_retreat.specs.declared.target.Target.{Target}
use Rattle.advance_retreat.specs.Kept.{Kept, target_at}
use Rattle.advance_retreat.specs.Refusals.{FewLoose}
use Rattle.advance_retreat.proofs.Found.{new_target}
use Rattle.advance_retreat.proofs.LooseEvents.{told_few}
use Rattle.advance_retreat.proofs.state.State.note_mark.Goals as goal

pub add-requires : goal.add-requires
add-requires c =
    let q = c.requires in
    subst (λ (s : Kept). target_at s.targets c.args.lv ≡ None) (sym c.self.view_is) (new_target c.args.self.now q.0 q.1 q.2 q.3 c.args.lv q.4)

pub invariant_of-self-in_default : goal.invariant_of-self-in_default
invariant_of-self-in_default c =
    let inside = c.self.inside in
    let ts = inside.targets in
    let t : Target = record { lv = c.args.lv; node = Root } in
    subst (λ (us : List Target). FewLoose us inside.tree.runs inside.lost) (sym c.in_default.ensures.ok) (told_few ts t inside.tree.runs inside.tree.runs inside.lost c.self.invariant (omega arith))
