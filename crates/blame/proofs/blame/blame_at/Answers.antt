use Rattle.std.proofs.Common.{None, sym, ap, ◌∙◌}
use Rattle.history_laws.proofs.VersionHistories.{part_good}
use Rattle.blame_definitions.specs.Blame.{blame_text}
use Rattle.blame_definitions.proofs.Joins.{versions_blame_alone}
use Rattle.blame.proofs.blame.blame_at.Goals as goal

pub blame_of-requires : goal.blame_of-requires
blame_of-requires g c = part_good c.args.graph.now c.in_ok-part.part c.args.version.now c.requires c.in_ok-part.ensures.events

pub returns-clause-text : goal.returns-clause-text
returns-clause-text g c =
    c.in_ok-bytes.ensures.text
    ∙ ap (λ events. blame_text events None c.args.columns) c.in_ok-part.ensures.events
    ∙ sym (versions_blame_alone c.args.graph.now c.args.version.now c.args.columns c.requires)
