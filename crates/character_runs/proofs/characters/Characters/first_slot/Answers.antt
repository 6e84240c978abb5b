use Rattle.std.proofs.Common.{◌≡◌, ℕ, Bool, true, inl, refl, List, sym, ap, ◌∙◌}
use Rattle.ew_model.specs.declared.node.Node.TheVariants.{Root}
use Rattle.character_runs.specs.Laid.{InRuns, in_runs, chars_in}
use Rattle.character_runs.specs.Spots.{first_known, slot_by}
use Rattle.walker_record.specs.Stretches.{Stretch}
use Rattle.order_tree.proofs.PairLaws.{rises_above, greater_all}
use Rattle.character_runs.proofs.Settled.{now_kept, now_same}
use Rattle.character_runs.proofs.characters.Characters.first_slot.Goals as goal

pub returns-then-not-has_known_right-clause-slot : goal.returns-then-not-has_known_right-clause-slot
returns-then-not-has_known_right-clause-slot g c =
    let next = first_known c.args.self.now.records in
    record {
      left = record { node = Root; behind = 0 };
      here = inl (refl, refl, refl);
      is = c.right_of.ensures next ∙ ap (λ (b : Bool). slot_by b next Root) (sym (sym c.has_known_right.ensures ∙ c.if-not-has_known_right.true));
    }

pub returns-clause-slot : goal.returns-clause-slot
returns-clause-slot g c =
    let ps = c.settle.new.runs.tree.pairs in
    let next = c.first_known.ensures ∙ ap (λ (qs : List (ℕ × Stretch)). first_known (chars_in qs)) (greater_all 0 ps (rises_above 0 ps c.facts.ensures.rising)) in
    let has : g.R.KnownRights.has_right c.args.rights.now Root ≡ true = sym c.has_known_right.ensures ∙ c.if-not-has_known_right.false in
    record {
      left = record { node = Root; behind = 0 };
      here = inl (refl, refl, refl);
      is = c.behind.ensures ∙ ap (λ o. slot_by true o Root) (next ∙ ap (λ (s : InRuns). first_known s.records) (ap in_runs c.settle.ensures.pairs ∙ c.self.view_is)) ∙ ap (λ (b : Bool). slot_by b (first_known c.args.self.now.records) Root) (sym has);
    }

pub invariant_of-self : goal.invariant_of-self
invariant_of-self g c =
    let inside = c.self.inside in
    now_kept inside.runs.tree.pairs c.settle.new.runs.tree.pairs inside.runs.labels c.settle.new.runs.labels inside.visible inside.shown inside.cursor inside.pending c.self.invariant c.settle.ensures.pairs c.settle.ensures.labels c.facts.ensures.rising c.settle.new.pending

pub returns-clause-same : goal.returns-clause-same
returns-clause-same g c =
    let inside = c.self.inside in
    ap in_runs (now_same inside.runs.tree.pairs c.settle.new.runs.tree.pairs inside.runs.labels c.settle.new.runs.labels inside.visible inside.shown inside.cursor inside.pending c.self.invariant c.settle.ensures.pairs c.settle.ensures.labels c.facts.ensures.rising) ∙ c.self.view_is
