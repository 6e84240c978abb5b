use Rattle.std.proofs.Common.{◌≡◌, ◌∙◌, ◌-◌, ◌∷◌, ◌++◌, [], ℕ, List, true, false, Result, Ok, Err, OnOk, OnErr, map, sym, ap, subst, arith}
use Rattle.std.proofs.lemmas.List.{length-map}
use Rattle.std.proofs.lemmas.Result.{on_ok_weaker}
use Rattle.critical.specs.declared.spans.CutSpan.{CutSpan}
use Rattle.critical.specs.Spans.{heads_in, RiseFrom, ends_before}
use Rattle.critical.proofs.SpanChanges.{Grown, lengthened, started}
use Rattle.critical.proofs.spans.add_cut.Goals.{After-lengthen_last, After-start_span}
use Rattle.critical.proofs.spans.add_cut.Goals as goal

longer : (c : After-lengthen_last) → Grown c.args.spans.now.items c.lengthen_last.new.spans.items (map (λ v. v.items) c.args.heads.now.items) (map (λ v. v.items) c.args.heads.now.items) 0 c.args.cut ((c.args.cut - 1) ∷ [])
longer c =
    let spans = c.args.spans.now.items in
    let given = map (λ v. v.items) c.args.heads.now.items in
    let ends : ends_before spans c.args.cut ≡ true = ap (λ (ss : List CutSpan). ends_before ss c.args.cut) (sym c.deref.ensures.value) ∙ sym c.ends_before.ensures ∙ c.if-ends_before.true in
    subst (λ (ss : List CutSpan). Grown spans ss given given 0 c.args.cut ((c.args.cut - 1) ∷ [])) (sym c.lengthen_last.ensures)
    (lengthened spans given 0 c.args.cut c.requires.rising c.requires.ends (length-map c.args.heads.now.items (λ v. v.items) ∙ c.requires.alike) ends)

pub returns-then-ends_before-clause-cuts : goal.returns-then-ends_before-clause-cuts
returns-then-ends_before-clause-cuts c = (longer c).cuts

pub returns-then-ends_before-clause-heads : goal.returns-then-ends_before-clause-heads
returns-then-ends_before-clause-heads c =
    λ is. (longer c).heads ∙ ap (λ (hs : List ℕ). heads_in c.args.spans.now.items (map (λ v. v.items) c.args.heads.now.items) ++ hs ∷ [])
    (sym (is (ap (λ (ss : List CutSpan). ends_before ss c.args.cut) (sym c.deref.ensures.value) ∙ sym c.ends_before.ensures ∙ c.if-ends_before.true)))

pub returns-then-ends_before-clause-rising : goal.returns-then-ends_before-clause-rising
returns-then-ends_before-clause-rising c = (longer c).rising

pub returns-then-ends_before-clause-ends : goal.returns-then-ends_before-clause-ends
returns-then-ends_before-clause-ends c = (longer c).ends

pub returns-then-ends_before-clause-alike : goal.returns-then-ends_before-clause-alike
returns-then-ends_before-clause-alike c = sym (length-map c.args.heads.now.items (λ v. v.items)) ∙ (longer c).alike

both : {T E A B C : Type 0} (r : Result T E) → OnOk r A → OnOk r B → (A → B → C) → OnOk r C
both (Ok x) a b f = f a b
both (Err e) a b f = tt

in_both : {T E A B : Type 0} (r : Result T E) → OnOk r A → OnErr r B → (C : Type 0) → (A → C) → (B → C) → C
in_both (Ok x) a b C f g = f a
in_both (Err e) a b C f g = g b

apart : (c : After-start_span) → OnOk c.start_span.result (Grown c.args.spans.now.items c.start_span.new.spans.items (map (λ v. v.items) c.args.heads.now.items) (map (λ v. v.items) c.start_span.new.heads.items) 0 c.args.cut c.args.below.now)
apart c =
    let spans = c.args.spans.now.items in
    let given = map (λ v. v.items) c.args.heads.now.items in
    let ends : ends_before spans c.args.cut ≡ false = ap (λ (ss : List CutSpan). ends_before ss c.args.cut) (sym c.deref.ensures.value) ∙ sym c.ends_before.ensures ∙ c.if-ends_before.false in
    let grown = started spans given 0 c.args.cut c.args.below.now c.requires.rising c.requires.ends (length-map c.args.heads.now.items (λ v. v.items) ∙ c.requires.alike) (omega arith) ends in
    both c.start_span.result c.start_span.ensures.spans c.start_span.ensures.heads
    (λ s h. subst (λ (ss : List CutSpan). Grown spans ss given (map (λ v. v.items) c.start_span.new.heads.items) 0 c.args.cut c.args.below.now) (sym s)
    (subst (λ (hs : List (List ℕ)). Grown spans (spans ++ record { first = c.args.cut; last = c.args.cut } ∷ []) given hs 0 c.args.cut c.args.below.now) (sym h) grown))

pub returns-else-ends_before-clause-cuts : goal.returns-else-ends_before-clause-cuts
returns-else-ends_before-clause-cuts c = on_ok_weaker c.start_span.result (λ g. g.cuts) (apart c)

pub returns-else-ends_before-clause-heads : goal.returns-else-ends_before-clause-heads
returns-else-ends_before-clause-heads c = on_ok_weaker c.start_span.result (λ g _. g.heads) (apart c)

pub returns-else-ends_before-clause-rising : goal.returns-else-ends_before-clause-rising
returns-else-ends_before-clause-rising c =
    in_both c.start_span.result (apart c) c.start_span.ensures.same_spans (RiseFrom 0 c.start_span.new.spans.items) (λ g. g.rising) (λ e. subst (RiseFrom 0) (sym e) c.requires.rising)

pub returns-else-ends_before-clause-ends : goal.returns-else-ends_before-clause-ends
returns-else-ends_before-clause-ends c = on_ok_weaker c.start_span.result (λ g. g.ends) (apart c)
