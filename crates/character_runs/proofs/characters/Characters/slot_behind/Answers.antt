use Rattle.std.proofs.Common.{◌≡◌, ℕ, List, ◌+◌, ◌++◌, Bool, true, suc, drop, Option, sym, ap, ◌∙◌, subst, arith}
use Rattle.ew_model.specs.declared.node.Node.{Node}
use Rattle.walker_record.specs.Stretches.{Stretch, node_on}
use Rattle.character_runs.specs.Cursors.{settled}
use Rattle.character_runs.specs.States.{visible_in}
use Rattle.character_runs.specs.Laid.{InRuns, in_runs, chars_in, records_of}
use Rattle.character_runs.specs.Spots.{IsSlot, first_known, slot_by}
use Rattle.order_tree.specs.Pairs.{IsRising, greater}
use Rattle.character_runs.proofs.PartedRuns.{same_run}
use Rattle.character_runs.proofs.RunChars.{visible-chars}
use Rattle.character_runs.proofs.VisiblePlaces.{left_place, behind_place, place_in}
use Rattle.character_runs.proofs.Settled.{settled_rising, kept_again, now_kept, now_same}
use Rattle.character_runs.proofs.characters.Characters.slot_behind.Goals as goal

pub find-found-requires-clause-within : goal.find-found-requires-clause-within
find-found-requires-clause-within g c =
    let same = ap (λ (s : InRuns). visible_in s.records) c.self.view_is in
    let sum = visible-chars (settled c.self.inside.runs.tree.pairs c.self.inside.cursor) in
    omega (arith, c.requires.within, same, sum)

pub returns-then-not-has_known_right-clause-slot : goal.returns-then-not-has_known_right-clause-slot
returns-then-not-has_known_right-clause-slot g c =
    let found = c.find-found in
    let spot = found.result.spot in
    let ps = settled c.self.inside.runs.tree.pairs c.self.inside.cursor in
    let rising = subst (λ (qs : List (ℕ × Stretch)). IsRising qs) c.find-found.ensures.same (settled_rising c.find-found.new.runs.tree.pairs c.find-found.new.cursor c.facts.ensures.rising) in
    let is = found.ensures.place in
    let run = same_run ps spot.label found.result.run is.run rising found.ensures.held is.held in
    let node = c.node-left.ensures ∙ ap (λ (r : Stretch). node_on r.from spot.offset) run in
    let place = place_in ps c.args.at spot.label spot.offset rising is in
    let has = g.R.KnownRights.has_right c.args.rights.now in
    let next = first_known (drop (suc place) (chars_in ps)) in
    subst (λ (s : InRuns). IsSlot has s.records (c.args.at + 1) c.right_of.result) c.self.view_is (record {
      left = record { node = c.node-left.result; behind = suc place };
      here = left_place ps c.args.at spot.label spot.offset rising is c.node-left.result node;
      is = c.right_of.ensures next ∙ ap (λ (b : Bool). slot_by b next c.node-left.result) (sym (sym c.has_known_right.ensures ∙ c.if-not-has_known_right.true));
    })

pub returns-clause-slot : goal.returns-clause-slot
returns-clause-slot g c =
    let found = c.find-found in
    let spot = found.result.spot in
    let ps = settled c.self.inside.runs.tree.pairs c.self.inside.cursor in
    let rising = subst (λ (qs : List (ℕ × Stretch)). IsRising qs) c.find-found.ensures.same (settled_rising c.find-found.new.runs.tree.pairs c.find-found.new.cursor c.facts.ensures.rising) in
    let is = found.ensures.place in
    let run = same_run ps spot.label found.result.run is.run rising found.ensures.held is.held in
    let node = c.node-left.ensures ∙ ap (λ (r : Stretch). node_on r.from spot.offset) run in
    let place = place_in ps c.args.at spot.label spot.offset rising is in
    let has = g.R.KnownRights.has_right c.args.rights.now in
    let known : has c.node-left.result ≡ true = sym c.has_known_right.ensures ∙ c.if-not-has_known_right.false in
    let next =
    c.known_behind.ensures
    ∙ ap (λ (qs : List (ℕ × Stretch)). first_known (drop (spot.offset + 1) (records_of found.result.run) ++ chars_in (greater qs spot.label))) (c.settle.ensures.pairs ∙ c.find-found.ensures.same)
    ∙ ap (λ (r : Stretch). first_known (drop (spot.offset + 1) (records_of r) ++ chars_in (greater ps spot.label))) run
    ∙ ap first_known (sym (behind_place ps c.args.at spot.label spot.offset rising is)) in
    subst (λ (s : InRuns). IsSlot has s.records (c.args.at + 1) c.behind.result) c.self.view_is (record {
      left = record { node = c.node-left.result; behind = suc place };
      here = left_place ps c.args.at spot.label spot.offset rising is c.node-left.result node;
      is = c.behind.ensures ∙ ap (λ (o : Option Node). slot_by true o c.node-left.result) next
          ∙ ap (λ (b : Bool). slot_by b (first_known (drop (suc place) (chars_in ps))) c.node-left.result) (sym known);
    })

pub invariant_of-self : goal.invariant_of-self
invariant_of-self g c =
    let inside = c.self.inside in
    kept_again inside.runs.tree.pairs c.find-found.new.runs.tree.pairs inside.runs.labels c.find-found.new.runs.labels inside.visible inside.shown inside.cursor c.find-found.new.cursor inside.pending c.find-found.new.pending c.self.invariant c.find-found.ensures.same c.find-found.ensures.labels c.find-found.ensures.cursor c.find-found.ensures.told c.find-found.ensures.own

pub returns-then-not-has_known_right-clause-same : goal.returns-then-not-has_known_right-clause-same
returns-then-not-has_known_right-clause-same g c = ap in_runs c.find-found.ensures.same ∙ c.self.view_is

pub invariant_of-self-2 : goal.invariant_of-self-2
invariant_of-self-2 g c =
    let inside = c.self.inside in
    let rises = subst (λ (qs : List (ℕ × Stretch)). IsRising qs) (sym c.settle.ensures.pairs) (settled_rising c.find-found.new.runs.tree.pairs c.find-found.new.cursor c.facts.ensures.rising) in
    now_kept c.find-found.new.runs.tree.pairs c.settle.new.runs.tree.pairs c.find-found.new.runs.labels c.settle.new.runs.labels inside.visible inside.shown c.find-found.new.cursor c.find-found.new.pending (kept_again inside.runs.tree.pairs c.find-found.new.runs.tree.pairs inside.runs.labels c.find-found.new.runs.labels inside.visible inside.shown inside.cursor c.find-found.new.cursor inside.pending c.find-found.new.pending c.self.invariant c.find-found.ensures.same c.find-found.ensures.labels c.find-found.ensures.cursor c.find-found.ensures.told c.find-found.ensures.own) c.settle.ensures.pairs c.settle.ensures.labels rises c.settle.new.pending

pub returns-clause-same : goal.returns-clause-same
returns-clause-same g c =
    let inside = c.self.inside in
    let rises = subst (λ (qs : List (ℕ × Stretch)). IsRising qs) (sym c.settle.ensures.pairs) (settled_rising c.find-found.new.runs.tree.pairs c.find-found.new.cursor c.facts.ensures.rising) in
    ap in_runs (now_same c.find-found.new.runs.tree.pairs c.settle.new.runs.tree.pairs c.find-found.new.runs.labels c.settle.new.runs.labels inside.visible inside.shown c.find-found.new.cursor c.find-found.new.pending (kept_again inside.runs.tree.pairs c.find-found.new.runs.tree.pairs inside.runs.labels c.find-found.new.runs.labels inside.visible inside.shown inside.cursor c.find-found.new.cursor inside.pending c.find-found.new.pending c.self.invariant c.find-found.ensures.same c.find-found.ensures.labels c.find-found.ensures.cursor c.find-found.ensures.told c.find-found.ensures.own) c.settle.ensures.pairs c.settle.ensures.labels rises ∙ c.find-found.ensures.same) ∙ c.self.view_is
