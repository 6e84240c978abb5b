use Rattle.std.proofs.Common.{Option, Some, None, sym, subst}
use Rattle.std.specs.Option.{IfNone}
use Rattle.std.proofs.lemmas.Option.{IfSome_then}
use Rattle.fugue_place.specs.Ways.{IsInRun}
use Rattle.fugue_place.proofs.HeadSearch.{found_none, found_known, found_right, found_left, found_not}
use Rattle.fugue_place.proofs.ways.Ways.run_of.Goals as goal

none_then : {X : Type 0} (o : Option X) (P Q : Type 0) → (P → Q) → IfNone o P → IfNone o Q
none_then None P Q f p = f p
none_then (Some x) P Q f p = tt

pub returns-then-to-eq0-clause-none : goal.returns-then-to-eq0-clause-none
returns-then-to-eq0-clause-none c = let w = c.args.self.now in found_none w c.requires.sound c.deref.result.now c.deref.ensures.value c.args.at c.heads_to-to.result c.requires.within c.heads_to-to.ensures.bound c.heads_to-to.ensures.to c.heads_to-to.ensures.behind c.if-to-eq0.true

pub run_at-requires : goal.run_at-requires
run_at-requires c = let w = c.args.self.now in found_known w c.requires.sound c.deref.result.now c.deref.ensures.value c.args.at c.heads_to-to.result c.requires.within c.heads_to-to.ensures.bound c.heads_to-to.ensures.to c.heads_to-to.ensures.behind c.if-to-eq0.false

pub returns-in-Left-clause-some : goal.returns-in-Left-clause-some
returns-in-Left-clause-some c =
    let w = c.args.self.now in
    IfSome_then c.run_at.result c.run_at.ensures.some
    (λ r known. subst (IsInRun w c.args.at) (sym known.0) (found_left w c.requires.sound c.deref.result.now c.deref.ensures.value c.args.at c.heads_to-to.result c.requires.within c.heads_to-to.ensures.bound c.heads_to-to.ensures.to c.heads_to-to.ensures.behind c.if-to-eq0.false c.in-Left.is known.1))

pub returns-in-Left-clause-none : goal.returns-in-Left-clause-none
returns-in-Left-clause-none c =
    let w = c.args.self.now in
    none_then c.run_at.result _ _ (found_not w c.requires.sound c.deref.result.now c.deref.ensures.value c.args.at c.heads_to-to.result c.requires.within c.heads_to-to.ensures.bound c.heads_to-to.ensures.to c.heads_to-to.ensures.behind c.if-to-eq0.false c.in-Left.is) c.run_at.ensures.none

pub returns-in-Right-clause-some : goal.returns-in-Right-clause-some
returns-in-Right-clause-some c = let w = c.args.self.now in found_right w c.requires.sound c.deref.result.now c.deref.ensures.value c.args.at c.heads_to-to.result c.requires.within c.heads_to-to.ensures.bound c.heads_to-to.ensures.to c.heads_to-to.ensures.behind c.if-to-eq0.false c.in-Right.is
