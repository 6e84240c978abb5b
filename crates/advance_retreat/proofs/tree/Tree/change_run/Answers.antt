use Rattle.std.proofs.Common.{◌≤◌, ◌^◌, List, [], map, length, sym, ap, ◌∙◌, subst, arith}
use Rattle.std.specs.List.{list_any}
use Rattle.ew_model.specs.declared.node.Node.TheVariants.{Event}
use Rattle.walker_record.specs.Stretches.{Stretch}
use Rattle.fugue_place.specs.Attachments.{is_there, AreAttached}
use Rattle.character_runs.specs.States.{is_of, knows}
use Rattle.character_runs.specs.Replacing.{node_by, changed_in}
use Rattle.character_runs.specs.Laid.{InRuns}
use Rattle.advance_retreat.specs.Hanging.{InTree, KeepRights}
use Rattle.right_children.specs.Rights.{AreRights, counted}
use Rattle.advance_retreat.proofs.TreeMoves.{run_known, run_shifts}
use Rattle.advance_retreat.proofs.tree.Tree.change_run.Goals as goal

pub shift_each-requires-clause-order : goal.shift_each-requires-clause-order
shift_each-requires-clause-order c = let part = c.in_ok-numbers.ensures.part in let low = part.low in let high = part.high in omega (arith, low, high)

pub shift_each-requires-clause-may : goal.shift_each-requires-clause-may
shift_each-requires-clause-may c =
    let t = c.self.inside in
    let read = c.self.view_is in
    let r = c.in_ok-numbers.ensures in
    let shift = run_shifts t.characters.records t.siblings c.args.change c.in_ok-numbers.numbers
    (subst (λ (s : InTree). AreAttached [] s.attached) (sym read) c.requires.sound)
    c.args.kind c.in_ok-numbers.known.was c.in_ok-numbers.known.is c.in-OfEvents.is
    (subst (λ (s : InTree). length s.records ≤ 2 ^ 25) (sym read) c.requires.few)
    (λ n there. ap (λ (s : InTree). is_there s.attached (Event n)) read ∙ c.requires.there n (ap (λ (s : InTree). list_any (is_of (Event n)) s.records) (sym read) ∙ there))
    r.told r.was (λ n low high. ap (λ (xs : List Stretch). knows xs (node_by c.args.kind n)) (sym r.records) ∙ r.is n low high) in
    (knows t.characters.records, knows (map (changed_in c.args.kind c.in_ok-numbers.numbers c.args.change) t.characters.records), t.siblings, c.self.invariant.rights, shift)

pub invariant_of-self : goal.invariant_of-self
invariant_of-self c =
    let t = c.self.inside in
    subst (λ (cs : InRuns). KeepRights cs.records t.siblings t.rights) (sym c.in_err-numbers.ensures.none) c.self.invariant

pub invariant_of-self-in-OfBase : goal.invariant_of-self-in-OfBase
invariant_of-self-in-OfBase c =
    let t = c.self.inside in
    let read = c.self.view_is in
    record {
      rights = subst (λ (xs : List Stretch). AreRights (knows xs) t.siblings (counted t.rights)) (sym c.in_ok-numbers.ensures.records)
          (run_known t.characters.records t.siblings c.args.change c.in_ok-numbers.numbers (subst (λ (s : InTree). AreAttached [] s.attached) (sym read) c.requires.sound) c.args.kind c.in-OfBase.is (counted t.rights) c.self.invariant.rights);
      whole = c.self.invariant.whole;
    }

pub invariant_of-self-in-OfEvents : goal.invariant_of-self-in-OfEvents
invariant_of-self-in-OfEvents c =
    let t = c.self.inside in
    let read = c.self.view_is in
    let r = c.in_ok-numbers.ensures in
    let shift = run_shifts t.characters.records t.siblings c.args.change c.in_ok-numbers.numbers
    (subst (λ (s : InTree). AreAttached [] s.attached) (sym read) c.requires.sound)
    c.args.kind c.in_ok-numbers.known.was c.in_ok-numbers.known.is c.in-OfEvents.is
    (subst (λ (s : InTree). length s.records ≤ 2 ^ 25) (sym read) c.requires.few)
    (λ n there. ap (λ (s : InTree). is_there s.attached (Event n)) read ∙ c.requires.there n (ap (λ (s : InTree). list_any (is_of (Event n)) s.records) (sym read) ∙ there))
    r.told r.was (λ n low high. ap (λ (xs : List Stretch). knows xs (node_by c.args.kind n)) (sym r.records) ∙ r.is n low high) in
    record {
      rights = subst (λ (xs : List Stretch). AreRights (knows xs) t.siblings (counted c.shift_each.new.self)) (sym r.records)
          (c.shift_each.ensures.rights (knows t.characters.records) (knows (map (changed_in c.args.kind c.in_ok-numbers.numbers c.args.change) t.characters.records)) t.siblings c.self.invariant.rights shift);
      whole = c.shift_each.ensures.whole;
    }
