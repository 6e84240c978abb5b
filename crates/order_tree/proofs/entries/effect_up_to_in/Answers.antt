use Rattle.std.proofs.Common.{ap, ◌∙◌, sym, arith, take}
use Rattle.order_tree.proofs.EntryLaws.{up_to_is}
use Rattle.order_tree.proofs.PartLists.{entries_are, total_split}
use Rattle.order_tree.specs.Pairs.{total}
use Rattle.order_tree.specs.Parts.{one_pair}
use Rattle.order_tree.proofs.entries.effect_up_to_in.Goals as goal

pub effect_in-requires : goal.effect_in-requires
effect_in-requires g c =
    let split = total_split one_pair g.R.Run.effect c.args.entries.now c.entries_up_to-k.result in
    let all = ap (total g.R.Run.effect) (entries_are c.args.entries.now) in
    omega (arith, split, all, c.requires.small)

pub returns : goal.returns
returns g c = c.effect_in.ensures ∙ ap (total g.R.Run.effect) (entries_are (take c.entries_up_to-k.result c.args.entries.now) ∙ sym (up_to_is c.args.entries.now c.entries_up_to-k.result c.args.label c.entries_up_to-k.ensures.before c.entries_up_to-k.ensures.behind))
