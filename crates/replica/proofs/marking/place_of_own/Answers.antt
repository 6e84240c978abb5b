use Rattle.std.proofs.Common.{◌≡◌, ◌∙◌, ◌+◌, ◌-◌, ◌/◌, ◌<◌, ◌≤◌, ◌==◌, suc, false, length, take, Bool, List, [], ◌∷◌, refl, sym, ap, arith}
use Rattle.std.specs.List.{list_any}
use Rattle.std.proofs.lemmas.Bool.{eqb-true, true≢false}
use Rattle.std.proofs.lemmas.List.{take_all, length-take-le}
use Rattle.ew_model.specs.Edits.{knows_agent}
use Rattle.ew_model.specs.declared.id.Id.{Id}
use Rattle.replica.proofs.MarkOrder.{some_know, none_there, none_passes, first_passes, front_ascends}
use Rattle.replica.proofs.marking.place_of_own.Goals as goal
use Rattle.replica.proofs.marking.place_of_own.Goals.{then-is_empty-via-then-is_empty, then-is_empty-via-else-is_empty+in_ok-know_last_of+then-not-branch}

some_ids : (ids : List Id) (b : Bool) → b ≡ (length ids == 0) → b ≡ false → 0 < length ids
some_ids [] b is h = absurd (true≢false (sym is ∙ h))
some_ids (x ∷ ids) b is h = omega arith

pub returns-then-is_empty-clause-value : goal.returns-then-is_empty-clause-value
returns-then-is_empty-clause-value c =
    let now = c.args.graph.now in
    let agent = c.args.agent.now in
    let ids = c.args.ids.now in
    elim c.then-is_empty.branch [
      | then-is_empty-via-then-is_empty w ↦ sym (none_there (knows_agent now agent) ids (eqb-true (length ids) 0 (sym c.is_empty.ensures ∙ w.if-is_empty.true)))
      | then-is_empty-via-else-is_empty+in_ok-know_last_of+then-not-branch w ↦
          let some : 0 < length ids = some_ids ids c.is_empty.result c.is_empty.ensures w.if-is_empty.false in
          sym (none_passes (knows_agent now agent) ids (sym (some_know now agent ids c.requires.good some) ∙ (sym w.in_ok-know_last_of.ensures ∙ w.if-not-branch.true)))
    ]

pub loop-before-init : goal.loop-before-init
loop-before-init c =
    let now = c.args.graph.now in
    let agent = c.args.agent.now in
    let ids = c.args.ids.now in
    let some : 0 < length ids = some_ids ids c.is_empty.result c.is_empty.ensures c.if-is_empty.false in
    record {
      none = refl;
      one =
          ap (list_any (knows_agent now agent)) (take_all (length ids) ids (omega arith))
          ∙ (sym (some_know now agent ids c.requires.good some) ∙ (sym c.in_ok-know_last_of.ensures ∙ c.if-not-branch.false));
      between = some;
      within = omega arith;
    }

pub know_last_of-requires-in-loop-before : goal.know_last_of-requires-in-loop-before
know_last_of-requires-in-loop-before c = front_ascends (c.loop-before.before + (c.loop-before.through - c.loop-before.before) / 2) c.args.ids.now c.requires.ascending

pub loop-before-preserved-then-branch : goal.loop-before-preserved-then-branch
loop-before-preserved-then-branch c =
    let l = c.loop-before in
    let now = c.args.graph.now in
    let half = l.before + (l.through - l.before) / 2 in
    let more : l.before + 1 < l.through = c.loop-before-test.true in
    let within : l.through ≤ length c.args.ids.now = l.invariant.within in
    let front = take half c.args.ids.now in
    let long : length front ≡ half = length-take-le half c.args.ids.now (omega (arith, more, within)) in
    record {
      none = l.invariant.none;
      one = sym (some_know now c.args.agent.now front c.requires.good (omega (arith, long, more))) ∙ (sym c.in_ok-know_last_of-2.ensures ∙ c.if-branch.true);
      between = omega (arith, more);
      within = omega (arith, more, within);
    }

pub loop-before-preserved : goal.loop-before-preserved
loop-before-preserved c =
    let l = c.loop-before in
    let now = c.args.graph.now in
    let half = l.before + (l.through - l.before) / 2 in
    let more : l.before + 1 < l.through = c.loop-before-test.true in
    let within : l.through ≤ length c.args.ids.now = l.invariant.within in
    let front = take half c.args.ids.now in
    let long : length front ≡ half = length-take-le half c.args.ids.now (omega (arith, more, within)) in
    record {
      none = sym (some_know now c.args.agent.now front c.requires.good (omega (arith, long, more))) ∙ (sym c.in_ok-know_last_of-2.ensures ∙ c.if-branch.false);
      one = l.invariant.one;
      between = omega (arith, more);
      within = within;
    }

pub returns-clause-value : goal.returns-clause-value
returns-clause-value c =
    let l = c.loop-before in
    let next : l.through ≡ suc l.before = omega (arith, c.loop-before-test.false, l.invariant.between) in
    (first_passes (knows_agent c.args.graph.now c.args.agent.now) c.args.ids.now l.before l.invariant.none (ap (λ n. list_any (knows_agent c.args.graph.now c.args.agent.now) (take n c.args.ids.now)) (sym next) ∙ l.invariant.one)).0
