use Rattle.std.proofs.Common.{false, ◌≡◌, ℕ, List, length, insert, Some, ap, ◌∙◌, subst, sym, arith, ◌+◌, ◌≤◌, Bool, ◌∷◌}
use Rattle.std.specs.List.{list_any}
use Rattle.ew_model.specs.declared.node.Node.{Node}
use Rattle.ew_model.specs.declared.node.Node.TheVariants.{Root, Event}
use Rattle.walker_record.specs.Stretches.{Stretch, effect_of}
use Rattle.order_tree.specs.Pairs.{lower, total, Tree, runs}
use Rattle.character_runs.specs.Labelled.{Sets}
use Rattle.character_runs.specs.States.{is_of}
use Rattle.character_runs.specs.Laid.{chars_in}
use Rattle.character_runs.proofs.Places.{laid_same}
use Rattle.character_runs.proofs.CharPlaces.{stands_not, label_not}
use Rattle.character_runs.proofs.ExchangedChars.{place_behind, lower_old, enters_ahead}
use Rattle.character_runs.specs.Loose.{loose_in}
use Rattle.character_runs.proofs.LooseRuns.{came_loose}
use Rattle.character_runs.proofs.LooseEntries.{empty_loose, parted_is, long_runs}
use Rattle.character_runs.proofs.runs.Runs.prepend.Goals as goal
use Rattle.ew_model.proofs.Outcomes.{on_err}

pub enlist-requires-clause-bare : goal.enlist-requires-clause-bare
enlist-requires-clause-bare g c =
    label_not c.open_run.new.self.tree.pairs c.open_run.new.self.labels (Event c.args.child.now.position) c.open_run.ensures.laid
    (ap (list_any (is_of (Event c.args.child.now.position))) c.open_run.ensures.chars ∙ c.requires.new.unrecorded)

pub returns-in_err-enlist-clause-laid : goal.returns-in_err-enlist-clause-laid
returns-in_err-enlist-clause-laid g c =
    laid_same c.open_run.new.self.tree.pairs c.open_run.new.self.labels c.enlist.new.labels c.in_err-enlist.ensures.same c.open_run.ensures.laid

pub give_way-requires-clause-laid : goal.give_way-requires-clause-laid
give_way-requires-clause-laid g c = (
  c.open_run.new.self.labels,
  c.open_run.ensures.laid,
  subst (λ (v : Node). Sets c.open_run.new.self.labels c.enlist.new.labels v (Some c.args.label)) (ap (λ (r : Stretch). r.from) (sym c.run.ensures)) c.in_ok-enlist.ensures.sets,
)

pub give_way-requires-clause-place : goal.give_way-requires-clause-place
give_way-requires-clause-place g c =
    let h = c.requires.held in
    (place_behind c.args.self.now.tree.pairs c.args.label c.in_ok-own.own h.0 c.empty_run.result c.facts.ensures.rising h.1 c.open_run.new.self.tree.pairs c.in_ok-own.ensures.pairs h.2
    (ap (λ (r : Stretch). r.len) c.empty_run.ensures)).0

pub give_way-requires-clause-one : goal.give_way-requires-clause-one
give_way-requires-clause-one g c = ap (λ (r : Stretch). r.len) c.run.ensures

pub give_way-requires-clause-some : goal.give_way-requires-clause-some
give_way-requires-clause-some g c e = no_root c.args.child.now.position (ap (λ (r : Stretch). r.from) (sym c.run.ensures) ∙ e)
  where
    no_root : (n : ℕ) → Event n ≡ Root → ⊥
    no_root n e = cc

pub give_way-requires-clause-new : goal.give_way-requires-clause-new
give_way-requires-clause-new g c =
    stands_not c.open_run.new.self.tree.pairs c.run.result.from
    (ap (λ (r : Stretch). list_any (is_of r.from) (chars_in c.open_run.new.self.tree.pairs)) c.run.ensures
    ∙ ap (list_any (is_of (Event c.args.child.now.position))) c.open_run.ensures.chars ∙ c.requires.new.unrecorded)

pub give_way-requires-clause-few : goal.give_way-requires-clause-few
give_way-requires-clause-few g c = let same = ap (λ (rs : List Stretch). length rs) c.open_run.ensures.chars in omega (arith, same, c.requires.new.room)

pub returns-clause-enters : goal.returns-clause-enters
returns-clause-enters g c =
    let ps = c.args.self.now.tree.pairs in
    let mid = c.open_run.new.self.tree.pairs in
    let h = c.requires.held in
    let place = place_behind ps c.args.label c.in_ok-own.own h.0 c.empty_run.result c.facts.ensures.rising h.1 mid c.in_ok-own.ensures.pairs h.2 (ap (λ (r : Stretch). r.len) c.empty_run.ensures) in
    enters_ahead mid c.args.label c.in_ok-own.own c.facts-2.ensures.rising place.0 (chars_in ps) (chars_in c.give_way.new.self.tree.pairs) c.args.child.now c.shown_before.result c.open_run.ensures.chars
    (c.give_way.ensures.chars ∙ ap (λ (r : Stretch). insert (chars_in mid) (length (chars_in (lower mid c.args.label))) r) c.run.ensures)
    (c.shown_before.ensures ∙ ap (λ (xs : List (ℕ × Stretch)). total effect_of xs) c.give_way.ensures.lower)
    (lower ps c.args.label) (lower_old mid c.args.label c.in_ok-own.own c.facts-2.ensures.rising place.0 ∙ place.1)

pub returns-in_err-own-clause-loose : goal.returns-in_err-own-clause-loose
returns-in_err-own-clause-loose g c =
    on_err c.from_residual.result ((among : Node → Bool) → loose_in among (runs c.open_run.new.self.tree.pairs) ≤ loose_in among (runs c.args.self.now.tree.pairs) + 1)
    (λ among. let same = ap (λ (t : Tree Stretch). loose_in among (runs t.pairs)) c.in_err-own.ensures.err in omega (arith, same))

pub returns-in_err-enlist-clause-loose : goal.returns-in_err-enlist-clause-loose
returns-in_err-enlist-clause-loose g c =
    let ps = c.args.self.now.tree.pairs in
    on_err c.from_residual-in_err-enlist.result ((among : Node → Bool) → loose_in among (runs c.open_run.new.self.tree.pairs) ≤ loose_in among (runs ps) + 1)
    (λ among.
    let same = ap (λ (xs : List (ℕ × Stretch)). loose_in among (runs xs)) c.in_ok-own.ensures.pairs in
    let le = empty_loose among ps c.args.label c.facts.ensures.rising c.in_ok-own.own c.empty_run.result (ap (λ (r : Stretch). r.len) c.empty_run.ensures) in
    omega (arith, same, le))

pub returns-clause-told : goal.returns-clause-told
returns-clause-told g c among e =
    let ps = c.args.self.now.tree.pairs in
    let h = c.requires.held in
    let place = place_behind ps c.args.label c.in_ok-own.own h.0 c.empty_run.result c.facts.ensures.rising h.1 c.open_run.new.self.tree.pairs c.in_ok-own.ensures.pairs h.2 (ap (λ (r : Stretch). r.len) c.empty_run.ensures) in
    let p = place.0 in
    let now = ap (loose_in among) (c.give_way.ensures.runs p)
    ∙ came_loose among false (runs p.front) (p.run ∷ runs p.back) c.run.result (ap (λ (r : Stretch). r.len) c.run.ensures) (ap (λ (r : Stretch). among r.from) c.run.ensures ∙ e) in
    let long : length (lower ps c.args.label) ≡ length (runs p.front) = ap (λ (xs : List (ℕ × Stretch)). length xs) (sym place.1) ∙ sym (long_runs p.front) in
    let was = parted_is among (runs ps) (runs p.front) (p.run ∷ runs p.back) (length (lower ps c.args.label)) place.2 long in
    omega (arith, now, was)
