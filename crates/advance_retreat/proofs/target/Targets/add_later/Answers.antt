use Rattle.std.proofs.Common.{◌≡◌, List, [], ◌∷◌, ◌++◌, None, sym, ap, ◌∙◌, subst}
use Rattle.std.specs.Ordering.{nat_cmp}
use Rattle.std.specs.BTreeMap.{get}
use Rattle.advance_retreat.specs.declared.target.Target.{Target}
use Rattle.advance_retreat.specs.Kept.{target_at, AreFound}
use Rattle.advance_retreat.specs.Runs.{events_in}
use Rattle.advance_retreat.proofs.Found.{more_found}
use Rattle.advance_retreat.proofs.RunLaws.{untold_later}
use Rattle.advance_retreat.proofs.target.Targets.add_later.Goals as goal

pub invariant_of-self-2 : goal.invariant_of-self-2
invariant_of-self-2 c =
    let ts = c.self.inside.later.items in
    let t : Target = record { lv = c.args.lv; node = c.args.node } in
    let none : target_at ts c.args.lv ≡ None = untold_later (events_in c.self.inside.runs) ts c.args.lv (ap (λ (us : List Target). target_at us c.args.lv) c.self.view_is ∙ c.requires) in
    let items : c.push_reserved.new.self.items ≡ ts ++ t ∷ [] = c.push_reserved.ensures.items ∙ ap (λ (us : List Target). us ++ t ∷ []) c.reserve.ensures.items in
    subst (λ (us : List Target). AreFound us (get nat_cmp c.keep.new.nodes)) (sym items) (more_found ts t (get nat_cmp c.self.inside.others) (get nat_cmp c.keep.new.nodes) c.self.invariant none c.in_ok-keep.ensures.ok)
