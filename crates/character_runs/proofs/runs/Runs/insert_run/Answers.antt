use Rattle.std.proofs.Common.{ℕ, List, Contains, Some, ap, ◌∙◌, subst, sym, ◌+◌, ◌≤◌, Bool, arith}
use Rattle.std.specs.List.{list_any}
use Rattle.ew_model.specs.declared.node.Node.TheVariants.{Event}
use Rattle.walker_record.specs.Stretches.{Stretch}
use Rattle.character_runs.specs.States.{is_of}
use Rattle.character_runs.specs.Labelled.{Sets}
use Rattle.character_runs.specs.Laid.{chars_in}
use Rattle.character_runs.proofs.Places.{laid_same}
use Rattle.character_runs.proofs.CharPlaces.{stands_not, label_not}
use Rattle.character_runs.proofs.Entered.{opened_held, entered}
use Rattle.ew_model.specs.declared.node.Node.{Node}
use Rattle.character_runs.specs.Loose.{loose_in}
use Rattle.order_tree.specs.Pairs.{Tree, runs}
use Rattle.character_runs.proofs.LooseEntries.{empty_loose, inserted_told, opened_runs}
use Rattle.character_runs.proofs.runs.Runs.insert_run.Goals as goal
use Rattle.ew_model.proofs.Outcomes.{on_err}

pub enlist-requires-clause-bare : goal.enlist-requires-clause-bare
enlist-requires-clause-bare g c =
    label_not c.open_run.new.self.tree.pairs c.open_run.new.self.labels (Event c.args.child.now.position) c.open_run.ensures.laid
    (ap (list_any (is_of (Event c.args.child.now.position))) c.open_run.ensures.chars ∙ c.requires.new.unrecorded)

pub returns-in_err-enlist-clause-laid : goal.returns-in_err-enlist-clause-laid
returns-in_err-enlist-clause-laid g c =
    laid_same c.open_run.new.self.tree.pairs c.open_run.new.self.labels c.enlist.new.labels c.in_err-enlist.ensures.same c.open_run.ensures.laid

pub fill-requires-clause-laid : goal.fill-requires-clause-laid
fill-requires-clause-laid g c = (
  c.open_run.new.self.labels,
  c.open_run.ensures.laid,
  subst (λ (v : Node). Sets c.open_run.new.self.labels c.enlist.new.labels v (Some c.in_ok-own.own)) (sym (ap (λ (r : Stretch). r.from) c.run.ensures))
      c.in_ok-enlist.ensures.sets,
)

pub fill-requires-clause-held : goal.fill-requires-clause-held
fill-requires-clause-held g c = (
  c.empty_run.result,
  subst (λ (xs : List (ℕ × Stretch)). Contains xs (c.in_ok-own.own, c.empty_run.result)) (sym c.in_ok-own.ensures.pairs)
      (opened_held c.args.self.now.tree.pairs c.args.label c.in_ok-own.own c.empty_run.result),
  ap (λ (r : Stretch). r.len) c.empty_run.ensures,
)

pub fill-requires-clause-new : goal.fill-requires-clause-new
fill-requires-clause-new g c =
    stands_not c.open_run.new.self.tree.pairs c.run.result.from
    (ap (λ (r : Stretch). list_any (is_of r.from) (chars_in c.open_run.new.self.tree.pairs)) c.run.ensures
    ∙ ap (list_any (is_of (Event c.args.child.now.position))) c.open_run.ensures.chars ∙ c.requires.new.unrecorded)

pub returns-clause-enters : goal.returns-clause-enters
returns-clause-enters g c =
    entered c.args.self.now.tree.pairs c.open_run.new.self.tree.pairs c.fill.new.self.tree.pairs c.args.label c.in_ok-own.own c.empty_run.result c.run.result c.args.child.now c.shown_before.result
    c.in_ok-own.ensures.pairs c.facts-2.ensures.rising (ap (λ (r : Stretch). r.len) c.empty_run.ensures) c.open_run.ensures.chars
    c.run.ensures c.fill.ensures.chars c.fill.ensures.lower c.shown_before.ensures

pub returns-in_err-own-clause-loose : goal.returns-in_err-own-clause-loose
returns-in_err-own-clause-loose g c =
    on_err c.from_residual.result ((among : Node → Bool) → loose_in among (runs c.open_run.new.self.tree.pairs) ≤ loose_in among (runs c.args.self.now.tree.pairs) + 1)
    (λ among. let same = ap (λ (t : Tree Stretch). loose_in among (runs t.pairs)) c.in_err-own.ensures.err in omega (arith, same))

pub returns-in_err-enlist-clause-loose : goal.returns-in_err-enlist-clause-loose
returns-in_err-enlist-clause-loose g c =
    let ps = c.args.self.now.tree.pairs in
    on_err c.from_residual-in_err-enlist.result ((among : Node → Bool) → loose_in among (runs c.open_run.new.self.tree.pairs) ≤ loose_in among (runs ps) + 1)
    (λ among.
    let same = ap (λ (xs : List (ℕ × Stretch)). loose_in among (runs xs)) c.in_ok-own.ensures.pairs in
    let le = empty_loose among ps c.args.label c.facts.ensures.rising c.in_ok-own.own c.empty_run.result (ap (λ (r : Stretch). r.len) c.empty_run.ensures) in
    omega (arith, same, le))

pub returns-clause-told : goal.returns-clause-told
returns-clause-told g c among e =
    let ps = c.args.self.now.tree.pairs in
    inserted_told among ps c.args.label c.facts.ensures.rising (runs c.fill.new.self.tree.pairs) c.run.result
    (c.fill.ensures.runs ∙ opened_runs ps c.open_run.new.self.tree.pairs c.args.label c.in_ok-own.own c.empty_run.result c.run.result c.in_ok-own.ensures.pairs c.facts-2.ensures.rising)
    (ap (λ (r : Stretch). r.len) c.run.ensures) (ap (λ (r : Stretch). among r.from) c.run.ensures ∙ e)
