use Rattle.std.proofs.Common.{sym, ap, ◌∙◌}
use Rattle.std.proofs.lemmas.Bool.{false≢true}
use Rattle.ew_model.specs.declared.node.Node.{Node}
use Rattle.ew_model.specs.declared.node.Node.TheVariants.{Root}
use Rattle.fugue_place.specs.Attachments.{node_eq}
use Rattle.character_runs.proofs.labels.Labels.settle.Goals as goal

pub insert-requires : goal.insert-requires
insert-requires c e = false≢true (sym (c.args.self.now.rooted c.in-Some.late c.in-Some.is) ∙ ap (λ (v : Node). node_eq v Root) e)
