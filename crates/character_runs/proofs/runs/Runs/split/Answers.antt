use Rattle.std.proofs.Common.{◌≡◌, List, ◌++◌, ◌∷◌, ℕ, ap, ◌∙◌, subst, sym, refl, arith, inl, inr}
use Rattle.walker_record.specs.Stretches.{Stretch, first_part, second_part}
use Rattle.order_tree.specs.Pairs.{Tree, runs, lower, greater}
use Rattle.character_runs.specs.Laid.{AreLabelled, BeginsRun}
use Rattle.walker_record.specs.StretchLaws.{length-chars_of}
use Rattle.character_runs.proofs.PartedRuns.{same_run}
use Rattle.character_runs.proofs.Places.{not_root_on, laid_same, unlabelled}
use Rattle.character_runs.proofs.Splits.{split_laid, split_chars, split_first, split_begins, taken_same, split_cut, parts}
use Rattle.character_runs.proofs.runs.Runs.split.Goals as goal

pub insert-requires-clause-bare : goal.insert-requires-clause-bare
insert-requires-clause-bare g c =
    unlabelled c.args.self.now.tree.pairs c.args.self.now.labels c.args.spot.label c.args.spot.offset c.args.node c.requires.laid c.requires.stands c.requires.inside

pub insert-requires-clause-some : goal.insert-requires-clause-some
insert-requires-clause-some g c e =
    let s = c.requires.stands in
    not_root_on s.run.from c.args.spot.offset (c.requires.laid.rooted c.args.spot.label s.run s.held) (s.node ∙ e)

pub returns-in_err-insert-clause-laid : goal.returns-in_err-insert-clause-laid
returns-in_err-insert-clause-laid g c = laid_same c.args.self.now.tree.pairs c.args.self.now.labels c.insert.new.self c.in_err-insert.ensures.err c.requires.laid

pub split_under-requires-clause-inside : goal.split_under-requires-clause-inside
split_under-requires-clause-inside g c =
    let s = c.requires.stands in
    let long = length-chars_of s.run in
    let lt = s.inside in
    (s.run, s.held, c.requires.inside, omega (arith, long, lt))

pub returns-in-Ok-clause-laid : goal.returns-in-Ok-clause-laid
returns-in-Ok-clause-laid g c =
    split_laid _ (λ s. refl) c.args.self.now.tree.pairs c.split_under.new.self.pairs c.args.self.now.labels c.insert.new.self c.args.spot.label c.args.own c.args.spot.offset c.args.node
    c.requires.laid c.facts.ensures.rising c.requires.stands c.requires.inside c.in-Ok.ensures.pairs c.requires.above c.in_ok-insert.ensures.ok

pub returns-in-Ok-clause-chars : goal.returns-in-Ok-clause-chars
returns-in-Ok-clause-chars g c =
    split_chars _ (λ s. refl) c.args.self.now.tree.pairs c.split_under.new.self.pairs c.args.self.now.labels c.insert.new.self c.args.spot.label c.args.own c.args.spot.offset c.args.node
    c.requires.laid c.facts.ensures.rising c.requires.stands c.requires.inside c.in-Ok.ensures.pairs c.requires.above c.in_ok-insert.ensures.ok

pub returns-in-Ok-clause-first : goal.returns-in-Ok-clause-first
returns-in-Ok-clause-first g c =
    split_first _ (λ s. refl) c.args.self.now.tree.pairs c.split_under.new.self.pairs c.args.self.now.labels c.insert.new.self c.args.spot.label c.args.own c.args.spot.offset c.args.node
    c.requires.laid c.facts.ensures.rising c.requires.stands c.requires.inside c.in-Ok.ensures.pairs c.requires.above c.in_ok-insert.ensures.ok

pub returns-in-Ok-clause-begun : goal.returns-in-Ok-clause-begun
returns-in-Ok-clause-begun g c =
    split_begins _ (λ s. refl) c.args.self.now.tree.pairs c.split_under.new.self.pairs c.args.self.now.labels c.insert.new.self c.args.spot.label c.args.own c.args.spot.offset c.args.node
    c.requires.laid c.facts.ensures.rising c.requires.stands c.requires.inside c.in-Ok.ensures.pairs c.requires.above c.in_ok-insert.ensures.ok

pub returns-in-Err-clause-laid : goal.returns-in-Err-clause-laid
returns-in-Err-clause-laid g c =
    subst (λ (ps : List (ℕ × Stretch)). AreLabelled ps c.remove.new.self) (sym (ap (λ (t : Tree Stretch). t.pairs) c.in-Err.ensures.err))
    (laid_same c.args.self.now.tree.pairs c.args.self.now.labels c.remove.new.self
    (taken_same c.args.self.now.tree.pairs c.args.self.now.labels c.insert.new.self c.remove.new.self c.args.spot.label c.args.own c.args.spot.offset c.args.node c.requires.laid c.requires.stands c.requires.inside c.in_ok-insert.ensures.ok c.remove.ensures)
    c.requires.laid)

pub returns-in-Err-clause-begun : goal.returns-in-Err-clause-begun
returns-in-Err-clause-begun g c v first = subst (λ (tree : Tree Stretch). BeginsRun tree.pairs v) (sym c.in-Err.ensures.err) first

pub returns-in_err-insert-clause-cut : goal.returns-in_err-insert-clause-cut
returns-in_err-insert-clause-cut g c = inl refl

pub returns-in-Ok-clause-cut : goal.returns-in-Ok-clause-cut
returns-in-Ok-clause-cut g c =
    inr (split_cut _ (λ s. refl) c.args.self.now.tree.pairs c.split_under.new.self.pairs c.args.self.now.labels c.insert.new.self c.args.spot.label c.args.own c.args.spot.offset c.args.node
    c.requires.laid c.facts.ensures.rising c.requires.stands c.requires.inside c.in-Ok.ensures.pairs c.requires.above c.in_ok-insert.ensures.ok)

pub returns-in-Err-clause-cut : goal.returns-in-Err-clause-cut
returns-in-Err-clause-cut g c = inl (ap (λ (t : Tree Stretch). runs t.pairs) c.in-Err.ensures.err)

pub returns-in-Ok-clause-parts : goal.returns-in-Ok-clause-parts
returns-in-Ok-clause-parts g c run held =
    let ps = c.args.self.now.tree.pairs in
    let label = c.args.spot.label in
    let offset = c.args.spot.offset in
    subst (λ (r : Stretch). c.split_under.new.self.pairs ≡ lower ps label ++ (label, first_part r offset) ∷ (c.args.own, second_part r offset) ∷ greater ps label)
    (same_run ps label c.requires.stands.run run c.facts.ensures.rising c.requires.stands.held held)
    (parts _ (λ s. refl) ps c.split_under.new.self.pairs c.args.self.now.labels c.insert.new.self label c.args.own offset c.args.node
    c.requires.laid c.facts.ensures.rising c.requires.stands c.requires.inside c.in-Ok.ensures.pairs c.requires.above c.in_ok-insert.ensures.ok)
