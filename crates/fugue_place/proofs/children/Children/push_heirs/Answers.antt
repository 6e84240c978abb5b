use Rattle.std.proofs.Common.{◌≡◌, ℕ, ◌+◌, ◌-◌, ◌<◌, ◌^◌, List, length, sym, ap, subst, arith}
use Rattle.fugue_place.specs.declared.child.Attached.{Attached}
use Rattle.fugue_place.specs.declared.children.Run.{Run}
use Rattle.fugue_place.specs.Heirs.{HaveHeirs}
use Rattle.fugue_place.specs.Members.{Listed, children_of, AreRuns, IsLastRun, TakesHeirs, with_heirs}
use Rattle.fugue_place.proofs.HeirRuns.{longer_runs, longer_children}
use Rattle.fugue_place.proofs.RunLaws.{length_in}
use Rattle.fugue_place.proofs.children.Children.push_heirs.Goals as goal

module _ (names : List (List ℕ)) (runs seen longer : List Run) (count position n : ℕ) (are : AreRuns names 0 runs count) (same : seen ≡ runs) (last : (r : Run) × IsLastRun seen r × TakesHeirs r position n) (events : position + n < 2 ^ 32) (is : longer ≡ with_heirs runs n) where
  here : IsLastRun runs last.0
  here = subst (λ (rs : List Run). IsLastRun rs last.0) same last.1

  now_runs : AreRuns names 0 longer (count + n)
  now_runs = subst (λ (rs : List Run). AreRuns names 0 rs (count + n)) (sym is) (longer_runs names last.0 position last.2.event runs count n are here last.2.seqs events)

  now_children : HaveHeirs (children_of names runs) (children_of names longer) position n
  now_children = subst (λ (rs : List Run). HaveHeirs (children_of names runs) (children_of names rs) position n) (sym is) (longer_children names last.0 position last.2.event runs count n are here last.2.seqs events)

  now_few : count + n < 2 ^ 32 → length (children_of names longer) < 2 ^ 32
  now_few few = let all = length_in names longer 0 (count + n) now_runs in omega (arith, all, few)

pub invariant_of-self : goal.invariant_of-self
invariant_of-self c =
    let old = c.self.inside in
    now_runs old.names.keys old.runs.items c.deref.result.now c.lengthen_last.new.runs.items old.count c.args.newest c.args.count c.self.invariant c.deref.ensures.value (c.takes_heirs.ensures c.if-not-takes_heirs.false) c.requires.few c.lengthen_last.ensures

pub returns-clause-yes : goal.returns-clause-yes
returns-clause-yes c =
    let old = c.self.inside in
    λ _. subst (λ (xs : List Attached). HaveHeirs xs (children_of old.names.keys c.lengthen_last.new.runs.items) c.args.newest c.args.count) (ap (λ (l : Listed). l.items) c.self.view_is)
    (now_children old.names.keys old.runs.items c.deref.result.now c.lengthen_last.new.runs.items old.count c.args.newest c.args.count c.self.invariant c.deref.ensures.value (c.takes_heirs.ensures c.if-not-takes_heirs.false) c.requires.few c.lengthen_last.ensures)

pub returns-clause-few : goal.returns-clause-few
returns-clause-few c =
    let old = c.self.inside in
    λ _. now_few old.names.keys old.runs.items c.deref.result.now c.lengthen_last.new.runs.items old.count c.args.newest c.args.count c.self.invariant c.deref.ensures.value (c.takes_heirs.ensures c.if-not-takes_heirs.false) c.requires.few c.lengthen_last.ensures (omega arith)
