use Rattle.std.proofs.Common.{◌≡◌, ◌∙◌, ℕ, false, Option, sym, subst}
use Rattle.std.specs.BTreeMap.{get}
use Rattle.std.specs.Option.{IfSome, IfNone, option_copied}
use Rattle.std.specs.declared.cmp.Ordering.{Ordering}
use Rattle.ew_model.specs.declared.node.Node.{Node}
use Rattle.fugue_place.specs.Attachments.{is_attached}
use Rattle.fugue_place.specs.Places.{HasNodeAt}
use Rattle.fugue_place.specs.Spots.{node_cmp}
use Rattle.fugue_place.proofs.CmpLaws.{nodes_by}
use Rattle.fugue_place.proofs.FoundLaws.{others_some, others_none}
use Rattle.fugue_place.proofs.places.Places.find.Goals.{After-copied}
use Rattle.fugue_place.proofs.places.Places.find.Goals as goal

kept : (c : After-copied) → c.copied.result ≡ get node_cmp c.args.self.now.others c.args.node
kept c = c.copied.ensures ∙ subst (λ (cmp : Node → Node → Ordering). option_copied c.get.result ≡ get cmp c.args.self.now.others c.args.node) nodes_by c.get.ensures.value

pub returns-clause-some : goal.returns-clause-some
returns-clause-some c = subst (λ (o : Option ℕ). IfSome o (HasNodeAt c.args.children.now.items c.args.node)) (sym (kept c)) (others_some c.args.children.now.items c.args.self.now c.requires c.args.node)

pub returns-clause-none : goal.returns-clause-none
returns-clause-none c =
    subst (λ (o : Option ℕ). IfNone o (is_attached c.args.children.now.items c.args.node ≡ false)) (sym (kept c)) (others_none c.args.children.now.items c.args.self.now c.requires c.args.node c.in_default.ensures.none)
