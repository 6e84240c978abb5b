use Rattle.std.proofs.Common.{refl, ◌≡◌, ℕ, ◌<◌, true, Option, IfSome, ap, ◌∙◌, subst, arith}
use Rattle.walker_record.specs.Stretches.{node_on}
use Rattle.character_runs.specs.declared.runs.changing.Altered.{Altered}
use Rattle.character_runs.specs.Deleting.{struck_each}
use Rattle.character_runs.specs.States.{knows, sees}
use Rattle.character_runs.specs.Laid.{InRuns, in_runs, chars_in}
use Rattle.character_runs.specs.Replacing.{Recounted}
use Rattle.character_runs.proofs.Counters.{visible_fits, shown_fits, counted_again}
use Rattle.character_runs.proofs.Settled.{now_counted}
use Rattle.character_runs.proofs.characters.Characters.delete_run_by.Goals as goal

pub visible-self-inside-requires-clause-some : goal.visible-self-inside-requires-clause-some
visible-self-inside-requires-clause-some g c =
    let counts : Recounted (chars_in c.settle.new.runs.tree.pairs) (chars_in c.delete_part.new.self.tree.pairs) c.in-Some.altered =
    subst (λ (o : Option Altered). IfSome o (Recounted (chars_in c.settle.new.runs.tree.pairs) (chars_in c.delete_part.new.self.tree.pairs))) c.in-Some.is c.in_ok-altered.ensures.recounted in
    let most = counts.visible_there in
    let inside = c.self.inside in
    let so = (now_counted inside.runs.tree.pairs c.settle.new.runs.tree.pairs inside.runs.labels c.settle.new.runs.labels inside.visible inside.shown inside.cursor inside.pending c.self.invariant c.settle.ensures.pairs c.settle.ensures.labels).visible_is in
    omega (arith, most, so)

pub visible-self-inside-requires-clause-few : goal.visible-self-inside-requires-clause-few
visible-self-inside-requires-clause-few g c =
    let counts : Recounted (chars_in c.settle.new.runs.tree.pairs) (chars_in c.delete_part.new.self.tree.pairs) c.in-Some.altered =
    subst (λ (o : Option Altered). IfSome o (Recounted (chars_in c.settle.new.runs.tree.pairs) (chars_in c.delete_part.new.self.tree.pairs))) c.in-Some.is c.in_ok-altered.ensures.recounted in
    let inside = c.self.inside in
    visible_fits c.settle.new.runs.tree.pairs c.settle.new.runs.labels inside.visible inside.shown (now_counted inside.runs.tree.pairs c.settle.new.runs.tree.pairs inside.runs.labels c.settle.new.runs.labels inside.visible inside.shown inside.cursor inside.pending c.self.invariant c.settle.ensures.pairs c.settle.ensures.labels) c.delete_part.new.self.tree.pairs c.in-Some.altered counts

pub shown-self-inside-requires-clause-some : goal.shown-self-inside-requires-clause-some
shown-self-inside-requires-clause-some g c =
    let counts : Recounted (chars_in c.settle.new.runs.tree.pairs) (chars_in c.delete_part.new.self.tree.pairs) c.in-Some.altered =
    subst (λ (o : Option Altered). IfSome o (Recounted (chars_in c.settle.new.runs.tree.pairs) (chars_in c.delete_part.new.self.tree.pairs))) c.in-Some.is c.in_ok-altered.ensures.recounted in
    let most = counts.shown_there in
    let inside = c.self.inside in
    let so = (now_counted inside.runs.tree.pairs c.settle.new.runs.tree.pairs inside.runs.labels c.settle.new.runs.labels inside.visible inside.shown inside.cursor inside.pending c.self.invariant c.settle.ensures.pairs c.settle.ensures.labels).shown_is in
    omega (arith, most, so)

pub shown-self-inside-requires-clause-few : goal.shown-self-inside-requires-clause-few
shown-self-inside-requires-clause-few g c =
    let counts : Recounted (chars_in c.settle.new.runs.tree.pairs) (chars_in c.delete_part.new.self.tree.pairs) c.in-Some.altered =
    subst (λ (o : Option Altered). IfSome o (Recounted (chars_in c.settle.new.runs.tree.pairs) (chars_in c.delete_part.new.self.tree.pairs))) c.in-Some.is c.in_ok-altered.ensures.recounted in
    let inside = c.self.inside in
    shown_fits c.settle.new.runs.tree.pairs c.settle.new.runs.labels inside.visible inside.shown (now_counted inside.runs.tree.pairs c.settle.new.runs.tree.pairs inside.runs.labels c.settle.new.runs.labels inside.visible inside.shown inside.cursor inside.pending c.self.invariant c.settle.ensures.pairs c.settle.ensures.labels) c.delete_part.new.self.tree.pairs c.in-Some.altered counts

pub invariant_of-self-2 : goal.invariant_of-self-2
invariant_of-self-2 g c =
    let counts : Recounted (chars_in c.settle.new.runs.tree.pairs) (chars_in c.delete_part.new.self.tree.pairs) c.in-Some.altered =
    subst (λ (o : Option Altered). IfSome o (Recounted (chars_in c.settle.new.runs.tree.pairs) (chars_in c.delete_part.new.self.tree.pairs))) c.in-Some.is c.in_ok-altered.ensures.recounted in
    let inside = c.self.inside in
    let counted = counted_again c.settle.new.runs.tree.pairs c.settle.new.runs.labels inside.visible inside.shown (now_counted inside.runs.tree.pairs c.settle.new.runs.tree.pairs inside.runs.labels c.settle.new.runs.labels inside.visible inside.shown inside.cursor inside.pending c.self.invariant c.settle.ensures.pairs c.settle.ensures.labels) c.delete_part.new.self.tree.pairs c.in-Some.altered counts c.delete_part.new.self.labels
    c.visible-self-inside.result c.shown-self-inside.result c.delete_part.ensures.laid c.visible-self-inside.ensures c.shown-self-inside.ensures in
    record { counted = counted; cursor = tt; told = λ e. refl; few = counted.few }

pub returns-clause-yes : goal.returns-clause-yes
returns-clause-yes g c = λ done.
    subst (λ (o : Option Altered). IfSome o (λ _. chars_in c.delete_part.new.self.tree.pairs ≡ struck_each (chars_in c.settle.new.runs.tree.pairs) c.args.first c.args.count)) c.in-Some.is c.in_ok-altered.ensures.chars
    ∙ ap (λ (s : InRuns). struck_each s.records c.args.first c.args.count) (ap in_runs c.settle.ensures.pairs ∙ c.self.view_is)

pub returns-clause-visible : goal.returns-clause-visible
returns-clause-visible g c = λ done k low.
    let each = subst (λ (o : Option Altered). IfSome o (λ _. (j : ℕ) → j < c.args.count → sees (chars_in c.settle.new.runs.tree.pairs) (node_on c.args.first j) ≡ true)) c.in-Some.is c.in_ok-altered.ensures.visible in
    subst (λ (s : InRuns). sees s.records (node_on c.args.first k) ≡ true) (ap in_runs c.settle.ensures.pairs ∙ c.self.view_is) (each k low)

pub returns-clause-known : goal.returns-clause-known
returns-clause-known g c v = c.delete_part.ensures.known v ∙ ap (λ (s : InRuns). knows s.records v) (ap in_runs c.settle.ensures.pairs ∙ c.self.view_is)

pub returns-in_default-clause-known : goal.returns-in_default-clause-known
returns-in_default-clause-known g c v = c.delete_part.ensures.known v ∙ ap (λ (s : InRuns). knows s.records v) (ap in_runs c.settle.ensures.pairs ∙ c.self.view_is)

pub returns-in_err-altered-clause-known : goal.returns-in_err-altered-clause-known
returns-in_err-altered-clause-known g c v = c.delete_part.ensures.known v ∙ ap (λ (s : InRuns). knows s.records v) (ap in_runs c.settle.ensures.pairs ∙ c.self.view_is)
