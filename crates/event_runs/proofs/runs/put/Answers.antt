use Rattle.std.proofs.Common.{◌≡◌, ◌∙◌, ℕ, ◌∷◌, ◌++◌, [], List, length, slice_get, Result, Ok, Err, refl, sym, ap, subst}
use Rattle.std.specs.Prelude.{OnOk}
use Rattle.event_runs.specs.declared.runs.Run.{Run}
use Rattle.event_runs.specs.declared.runs.RunKind.{RunKind}
use Rattle.event_runs.specs.KeptRuns.{LastJoinsAs, GrowBy}
use Rattle.event_runs.proofs.ManyEvents.{grown}
use Rattle.event_runs.proofs.RunLines.{more_in, started_in, labelled_more, labelled_own}
use Rattle.event_runs.proofs.runs.put.Goals as goal

pub returns-in-Some-clause-ok : goal.returns-in-Some-clause-ok
returns-in-Some-clause-ok c =
    let runs = c.args.runs.now.items in
    let last = c.in-Some.ensures.some in
    let same : c.deref.result.now ≡ runs = c.deref.ensures.value in
    let at = ap (λ (rs : List Run). length rs) (sym same) ∙ last.last in
    let there = ap (λ (rs : List Run). slice_get rs last.place) (sym same) ∙ last.there in
    subst (λ (rs : List Run). GrowBy runs rs c.args.lists.now c.args.lists.now c.args.one c.args.parents.now) (sym (c.lengthen_last.ensures last.place last.run at there))
    (grown runs _ c.args.lists.now c.args.lists.now c.args.one c.args.parents.now c.requires.runs c.requires.one
    (more_in runs c.args.lists.now 0 0 c.args.one.start c.args.one.chars_before last.place last.run c.args.one c.args.parents.now c.in-Some.kind c.requires.runs at there last.joins last.only refl c.requires.fits)
    (λ n labelled is. labelled_more runs 0 n last.place last.run c.args.one c.in-Some.kind labelled there last.joins))

on_both : {T E A B C : Type 0} (r : Result T E) → (A → B → C) → OnOk r A → OnOk r B → OnOk r C
on_both (Ok t) h a b = h a b
on_both (Err e) h a b = tt

pub returns-in-None-clause-ok : goal.returns-in-None-clause-ok
returns-in-None-clause-ok c =
    let runs = c.args.runs.now.items in
    let same : c.deref.result.now ≡ runs = c.deref.ensures.value in
    let never : (kind : RunKind) → LastJoinsAs runs c.args.one c.args.parents.now kind → ⊥ =
    subst (λ (rs : List Run). (kind : RunKind) → LastJoinsAs rs c.args.one c.args.parents.now kind → ⊥) same c.in-None.ensures.none in
    on_both c.start_run.result (λ more_runs more_lists.
    subst (λ (rs : List Run). GrowBy runs rs c.args.lists.now c.start_run.new.lists c.args.one c.args.parents.now) (sym more_runs)
    (subst (λ (ls : List (List ℕ)). GrowBy runs (runs ++ c.args.one ∷ []) c.args.lists.now ls c.args.one c.args.parents.now) (sym more_lists)
    (grown runs (runs ++ c.args.one ∷ []) c.args.lists.now (c.args.lists.now ++ c.args.parents.now ∷ []) c.args.one c.args.parents.now c.requires.runs c.requires.one
    (started_in runs c.args.lists.now 0 0 c.args.one.start c.args.one.chars_before c.args.one c.args.parents.now c.requires.runs never c.requires.one refl refl c.requires.fits)
    (λ n labelled is. labelled_own runs 0 n c.args.one labelled is))))
    c.start_run.ensures.runs c.start_run.ensures.lists
