use Rattle.std.proofs.Common.{◌≡◌, ℕ, Option, Some, None, false, if◌then◌else◌, ap, ◌∙◌}
use Rattle.ew_model.specs.declared.node.Node.TheVariants.{Root}
use Rattle.fugue_place.specs.Attachments.{node_eq}
use Rattle.character_runs.specs.declared.kept.Tag.{Tag}
use Rattle.character_runs.specs.Kept.{kept_label}
use Rattle.character_runs.proofs.CutRuns.{unlike}
use Rattle.character_runs.proofs.Late.{alone, for_tag}
use Rattle.character_runs.proofs.labels.Labels.insert.Goals as goal

pub invariant_of-self : goal.invariant_of-self
invariant_of-self c =
    let now = c.settle.new.self in
    let tag : Tag = record { node = c.args.node; label = c.args.label } in
    record {
      apart = for_tag (λ (t : Tag). kept_label now.kept t.node ≡ None) tag (alone now.late (kept_label now.kept) c.in_ok-settle.ensures.late c.args.node ∙ c.settle.ensures.same c.args.node ∙ c.requires.bare);
      rooted = for_tag (λ (t : Tag). node_eq t.node Root ≡ false) tag (unlike c.args.node Root c.requires.some);
    }

pub returns-clause-ok : goal.returns-clause-ok
returns-clause-ok c w =
    let now = c.settle.new.self in
    ap (λ (o : Option ℕ). if node_eq c.args.node w then Some c.args.label else o) (alone now.late (kept_label now.kept) c.in_ok-settle.ensures.late w ∙ c.settle.ensures.same w)
