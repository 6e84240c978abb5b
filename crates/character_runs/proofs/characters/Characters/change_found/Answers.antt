use Rattle.std.proofs.Common.{refl, ◌≡◌, false, Option, IfSome, sym, ap, ◌∙◌, subst, arith}
use Rattle.character_runs.specs.declared.runs.changing.Altered.{Altered}
use Rattle.character_runs.specs.declared.runs.changing.Known.{Known}
use Rattle.character_runs.specs.States.{knows, is_inserted}
use Rattle.character_runs.specs.Laid.{InRuns, in_runs, chars_in}
use Rattle.character_runs.specs.Replacing.{Recounted, were_inserted, are_inserted}
use Rattle.character_runs.proofs.Counters.{visible_fits, shown_fits, counted_again}
use Rattle.character_runs.proofs.Settled.{now_counted}
use Rattle.character_runs.proofs.characters.Characters.change_found.Goals as goal

pub visible-self-inside-requires-clause-some : goal.visible-self-inside-requires-clause-some
visible-self-inside-requires-clause-some g c =
    let counts : Recounted (chars_in c.settle.new.runs.tree.pairs) (chars_in c.change.new.self.tree.pairs) c.in-Some.altered =
    subst (λ (o : Option Altered). IfSome o (Recounted (chars_in c.settle.new.runs.tree.pairs) (chars_in c.change.new.self.tree.pairs))) c.in-Some.is c.in_ok-altered.ensures.recounted in
    let most = counts.visible_there in
    let inside = c.self.inside in
    let so = (now_counted inside.runs.tree.pairs c.settle.new.runs.tree.pairs inside.runs.labels c.settle.new.runs.labels inside.visible inside.shown inside.cursor inside.pending c.self.invariant c.settle.ensures.pairs c.settle.ensures.labels).visible_is in
    omega (arith, most, so)

pub visible-self-inside-requires-clause-few : goal.visible-self-inside-requires-clause-few
visible-self-inside-requires-clause-few g c =
    let counts : Recounted (chars_in c.settle.new.runs.tree.pairs) (chars_in c.change.new.self.tree.pairs) c.in-Some.altered =
    subst (λ (o : Option Altered). IfSome o (Recounted (chars_in c.settle.new.runs.tree.pairs) (chars_in c.change.new.self.tree.pairs))) c.in-Some.is c.in_ok-altered.ensures.recounted in
    let inside = c.self.inside in
    visible_fits c.settle.new.runs.tree.pairs c.settle.new.runs.labels inside.visible inside.shown (now_counted inside.runs.tree.pairs c.settle.new.runs.tree.pairs inside.runs.labels c.settle.new.runs.labels inside.visible inside.shown inside.cursor inside.pending c.self.invariant c.settle.ensures.pairs c.settle.ensures.labels) c.change.new.self.tree.pairs c.in-Some.altered counts

pub shown-self-inside-requires-clause-some : goal.shown-self-inside-requires-clause-some
shown-self-inside-requires-clause-some g c =
    let counts : Recounted (chars_in c.settle.new.runs.tree.pairs) (chars_in c.change.new.self.tree.pairs) c.in-Some.altered =
    subst (λ (o : Option Altered). IfSome o (Recounted (chars_in c.settle.new.runs.tree.pairs) (chars_in c.change.new.self.tree.pairs))) c.in-Some.is c.in_ok-altered.ensures.recounted in
    let most = counts.shown_there in
    let inside = c.self.inside in
    let so = (now_counted inside.runs.tree.pairs c.settle.new.runs.tree.pairs inside.runs.labels c.settle.new.runs.labels inside.visible inside.shown inside.cursor inside.pending c.self.invariant c.settle.ensures.pairs c.settle.ensures.labels).shown_is in
    omega (arith, most, so)

pub shown-self-inside-requires-clause-few : goal.shown-self-inside-requires-clause-few
shown-self-inside-requires-clause-few g c =
    let counts : Recounted (chars_in c.settle.new.runs.tree.pairs) (chars_in c.change.new.self.tree.pairs) c.in-Some.altered =
    subst (λ (o : Option Altered). IfSome o (Recounted (chars_in c.settle.new.runs.tree.pairs) (chars_in c.change.new.self.tree.pairs))) c.in-Some.is c.in_ok-altered.ensures.recounted in
    let inside = c.self.inside in
    shown_fits c.settle.new.runs.tree.pairs c.settle.new.runs.labels inside.visible inside.shown (now_counted inside.runs.tree.pairs c.settle.new.runs.tree.pairs inside.runs.labels c.settle.new.runs.labels inside.visible inside.shown inside.cursor inside.pending c.self.invariant c.settle.ensures.pairs c.settle.ensures.labels) c.change.new.self.tree.pairs c.in-Some.altered counts

pub invariant_of-self-2 : goal.invariant_of-self-2
invariant_of-self-2 g c =
    let counts : Recounted (chars_in c.settle.new.runs.tree.pairs) (chars_in c.change.new.self.tree.pairs) c.in-Some.altered =
    subst (λ (o : Option Altered). IfSome o (Recounted (chars_in c.settle.new.runs.tree.pairs) (chars_in c.change.new.self.tree.pairs))) c.in-Some.is c.in_ok-altered.ensures.recounted in
    let inside = c.self.inside in
    let counted = counted_again c.settle.new.runs.tree.pairs c.settle.new.runs.labels inside.visible inside.shown (now_counted inside.runs.tree.pairs c.settle.new.runs.tree.pairs inside.runs.labels c.settle.new.runs.labels inside.visible inside.shown inside.cursor inside.pending c.self.invariant c.settle.ensures.pairs c.settle.ensures.labels) c.change.new.self.tree.pairs c.in-Some.altered counts c.change.new.self.labels
    c.visible-self-inside.result c.shown-self-inside.result c.change.ensures.laid c.visible-self-inside.ensures c.shown-self-inside.ensures in
    record { counted = counted; cursor = tt; told = λ e. refl; few = counted.few }

pub returns-in_default-clause-was : goal.returns-in_default-clause-was
returns-in_default-clause-was g c =
    let was : knows (chars_in c.settle.new.runs.tree.pairs) c.args.node ≡ false =
    subst (λ (o : Option Altered). knows (chars_in c.settle.new.runs.tree.pairs) c.args.node ≡ were_inserted o) c.in_default.is c.in_ok-altered.ensures.was in
    sym was ∙ ap (λ (s : InRuns). knows s.records c.args.node) (ap in_runs c.settle.ensures.pairs ∙ c.self.view_is)

pub returns-clause-was : goal.returns-clause-was
returns-clause-was g c =
    let was : knows (chars_in c.settle.new.runs.tree.pairs) c.args.node ≡ is_inserted c.in-Some.altered.before =
    subst (λ (o : Option Altered). knows (chars_in c.settle.new.runs.tree.pairs) c.args.node ≡ were_inserted o) c.in-Some.is c.in_ok-altered.ensures.was in
    ap (λ (k : Known). k.was) c.known.ensures ∙ sym was ∙ ap (λ (s : InRuns). knows s.records c.args.node) (ap in_runs c.settle.ensures.pairs ∙ c.self.view_is)

pub returns-in_default-clause-is : goal.returns-in_default-clause-is
returns-in_default-clause-is g c =
    let is : knows (chars_in c.change.new.self.tree.pairs) c.args.node ≡ false =
    subst (λ (o : Option Altered). knows (chars_in c.change.new.self.tree.pairs) c.args.node ≡ are_inserted o) c.in_default.is c.in_ok-altered.ensures.is in
    sym is

pub returns-clause-is : goal.returns-clause-is
returns-clause-is g c =
    let is : knows (chars_in c.change.new.self.tree.pairs) c.args.node ≡ is_inserted c.in-Some.altered.after =
    subst (λ (o : Option Altered). knows (chars_in c.change.new.self.tree.pairs) c.args.node ≡ are_inserted o) c.in-Some.is c.in_ok-altered.ensures.is in
    ap (λ (k : Known). k.is) c.known.ensures ∙ sym is
