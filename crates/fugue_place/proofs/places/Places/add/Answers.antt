use Rattle.std.proofs.Common.{ℕ, ◌+◌, Some, cond, refl, sym, ap, ◌∙◌}
use Rattle.std.specs.BTreeMap.{get, is_at}
use Rattle.fugue_place.specs.Places.{ArePlaces}
use Rattle.fugue_place.specs.Spots.{node_cmp}
use Rattle.fugue_place.proofs.FoundLaws.{rising_more, others_more, places_same}
use Rattle.fugue_place.proofs.places.Places.add.Goals as goal
use Rattle.ew_model.proofs.Outcomes.{on_err}

pub returns-then-is_above_newest-clause-ok : goal.returns-then-is_above_newest-clause-ok
returns-then-is_above_newest-clause-ok c =
    rising_more c.args.children.now.items c.args.self.now c.requires.places c.args.child.now c.requires.new (record { rising = c.args.self.now.rising + 1; others = c.args.self.now.others }) (c.if-self-count.true ∙ c.len-count.ensures.count) (sym c.if-is_above_newest.ensures)
    refl refl

pub returns-in_ok-keep-clause-ok : goal.returns-in_ok-keep-clause-ok
returns-in_ok-keep-clause-ok c =
    others_more c.args.children.now.items c.args.self.now c.requires.places c.args.child.now c.requires.new c.keep.new.self c.keep.ensures.rising (λ v.
    c.in_ok-keep.ensures.ok v
    ∙ ap (λ (n : ℕ). cond (is_at (node_cmp c.args.child.now.node) v) (Some n) (get node_cmp c.args.self.now.others v)) c.len-count.ensures.count)

pub returns-in_err-keep-clause-err : goal.returns-in_err-keep-clause-err
returns-in_err-keep-clause-err c =
    on_err c.from_residual.result (ArePlaces c.args.children.now.items c.keep.new.self)
    (places_same c.args.children.now.items c.args.self.now c.keep.new.self c.requires.places c.keep.ensures.rising c.in_err-keep.ensures.err)
