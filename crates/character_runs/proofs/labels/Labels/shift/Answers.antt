use Rattle.std.proofs.Common.{◌≡◌, None, Bool, false, if◌then◌else◌, sym, ap, ◌∙◌}
use Rattle.ew_model.specs.declared.node.Node.{Node}
use Rattle.ew_model.specs.declared.node.Node.TheVariants.{Root}
use Rattle.fugue_place.specs.Attachments.{node_eq}
use Rattle.character_runs.specs.declared.kept.Tag.{Tag}
use Rattle.character_runs.specs.Kept.{kept_label}
use Rattle.character_runs.specs.Labelled.{label_of}
use Rattle.character_runs.proofs.CutRuns.{unlike}
use Rattle.character_runs.proofs.Late.{differs, for_tag, alone, kept_over}
use Rattle.character_runs.proofs.labels.Labels.shift.Goals as goal

pub invariant_of-self-2 : goal.invariant_of-self-2
invariant_of-self-2 c =
    let now = c.settle.new.self in
    let tag : Tag = record { node = c.args.to; label = c.args.label } in
    let other : node_eq c.args.from c.args.to ≡ false = sym c.is_same.ensures ∙ c.if-is_same.false in
    let none : kept_label now.kept c.args.to ≡ None = alone now.late (kept_label now.kept) c.in_ok-settle.ensures.late c.args.to ∙ c.settle.ensures.same c.args.to ∙ c.requires.bare in
    record {
      apart = for_tag (λ (t : Tag). kept_label c.remove.new.self t.node ≡ None) tag (c.remove.ensures c.args.to ∙ ap (λ (b : Bool). if b then None else kept_label now.kept c.args.to) other ∙ none);
      rooted = for_tag (λ (t : Tag). node_eq t.node Root ≡ false) tag (unlike c.args.to Root c.requires.some);
    }

pub returns-clause-ok : goal.returns-clause-ok
returns-clause-ok c w =
    let now = c.settle.new.self in
    kept_over (kept_label now.kept) (kept_label c.remove.new.self) (label_of c.args.self.now) c.args.from c.args.to c.args.label c.remove.ensures
    (λ (v : Node). alone now.late (kept_label now.kept) c.in_ok-settle.ensures.late v ∙ c.settle.ensures.same v)
    (differs c.args.from c.args.to (sym c.is_same.ensures ∙ c.if-is_same.false)) w
