use Rattle.std.proofs.Common.{◌≡◌, ◌∙◌, ℕ, ◌-◌, ◌+◌, ◌<◌, ◌≤◌, true, false, List, length, take, get_or, nat_lt, nat_le, Some, slice_get, sym, ap, subst, arith}
use Rattle.std.specs.List.{AllWithin}
use Rattle.std.proofs.lemmas.Bool.{and_parts, leb-true, ltb-true}
use Rattle.std.proofs.lemmas.Option.{slice_get-get_or}
use Rattle.ew_model.specs.declared.node.Node.{Node}
use Rattle.ew_model.specs.declared.node.Node.TheVariants.{Event}
use Rattle.fugue_place.specs.declared.child.Attached.{Attached}
use Rattle.fugue_place.specs.declared.children.Run.{Run}
use Rattle.fugue_place.specs.Attachments.{is_attached}
use Rattle.fugue_place.specs.Members.{Listed, children_of, AreRuns, is_ahead}
use Rattle.fugue_place.specs.Places.{HasNodeAt, AreRising}
use Rattle.fugue_place.proofs.RunLaws.{length_in, run_within}
use Rattle.fugue_place.proofs.HalvingLaws.{halved_some, no_event, none_ahead, none_there}
use Rattle.fugue_place.proofs.children.Children.place_by_halving.Goals.{else-behind-run-via-then-behind-run+else-behind-end, else-behind-run-via-else-behind-run}
use Rattle.fugue_place.proofs.children.Children.place_by_halving.Goals as goal

-- what was counted is told of the runs that are kept
module _ (names : List (List ℕ)) (runs seen : List Run) (count end event ahead : ℕ) (node : Node) (items : List Attached) (are : AreRuns names 0 runs count) (same : seen ≡ runs) (view : children_of names runs ≡ items) (rising : AreRising (take end items)) (is : node ≡ Event event)
    (bound : ahead ≤ length seen) (to : AllWithin (λ (r : Run). is_ahead end event r ≡ true) seen 0 ahead) (behind : AllWithin (λ (r : Run). is_ahead end event r ≡ false) seen ahead (length seen)) where
  rise : AreRising (take end (children_of names runs))
  rise = subst (λ (xs : List Attached). AreRising (take end xs)) (sym view) rising

  most : ahead ≤ length runs
  most = subst (λ (rs : List Run). ahead ≤ length rs) same bound

  first : AllWithin (λ (r : Run). is_ahead end event r ≡ true) runs 0 ahead
  first = subst (λ (rs : List Run). AllWithin (λ (r : Run). is_ahead end event r ≡ true) rs 0 ahead) same to

  rest : AllWithin (λ (r : Run). is_ahead end event r ≡ false) runs ahead (length runs)
  rest = subst (λ (rs : List Run). AllWithin (λ (r : Run). is_ahead end event r ≡ false) rs ahead (length rs)) same behind

  shown : is_attached (take end (children_of names runs)) (Event event) ≡ false → is_attached (take end items) node ≡ false
  shown none = subst (λ (v : Node). is_attached (take end items) v ≡ false) (sym is) (subst (λ (xs : List Attached). is_attached (take end xs) (Event event) ≡ false) view none)

  none : ahead ≡ 0 → is_attached (take end items) node ≡ false
  none zero = shown (none_ahead names runs count end are rise event ahead first rest zero)

  -- the last of the runs ahead
  module _ (x : Run) (some : ahead ≡ 0 → ⊥) (read : x ≡ get_or runs (ahead - 1) x) where
    there : slice_get runs (ahead - 1) ≡ Some x
    there = slice_get-get_or runs (ahead - 1) x (let high = most in omega (arith, high, some)) ∙ ap (λ (r : Run). Some r) (sym read)

    both : (x.place < end) × (x.event ≤ event)
    both =
        let both = and_parts (nat_lt x.place end) (nat_le x.event event) (ap (is_ahead end event) read ∙ first (ahead - 1) x (omega arith) (omega (arith, some))) in
        (ltb-true x.place end both.0, leb-true x.event event both.1)

    fits : event - x.event ≤ x.heirs → x.place + (event - x.event) < count
    fits low = let high = (run_within names runs 0 count (ahead - 1) x are there).high in omega (arith, low, high)

    found : event - x.event ≤ x.heirs → event - x.event < end - x.place → HasNodeAt (take end items) node (x.place + (event - x.event))
    found low within =
        let above = both.1 in
        subst (λ (v : Node). HasNodeAt (take end items) v (x.place + (event - x.event))) (sym is)
        (subst (λ (xs : List Attached). HasNodeAt (take end xs) (Event event) (x.place + (event - x.event))) view
        (halved_some names runs count end are rise (ahead - 1) (event - x.event) event x there low (omega (arith, within)) (omega (arith, above))))

    nowhere : (event - x.event ≤ x.heirs → end - x.place ≤ event - x.event) → is_attached (take end items) node ≡ false
    nowhere past =
        shown
        (none_there names runs count end are rise event ahead first rest (ahead - 1) x (omega (arith, some)) most there (λ i low within here.
        let behind : event - x.event ≡ i = omega (arith, here) in
        let high = past (omega (arith, behind, low)) in
        absurd (omega (arith, high, behind, within))))

pub returns-in_default : goal.returns-in_default
returns-in_default c =
    let view = ap (λ (l : Listed). l.items) c.self.view_is in
    record {
      some = tt;
      none = subst (λ (xs : List Attached). is_attached (take c.args.count xs) c.args.node ≡ false) view
          (no_event c.self.inside.names.keys c.self.inside.runs.items c.self.inside.count c.args.count c.self.invariant (subst (λ (xs : List Attached). AreRising (take c.args.count xs)) (sym view) c.requires.rising) c.args.node c.in_default.not-Event);
    }

pub overflow_cast-end : goal.overflow_cast-end
overflow_cast-end c =
    let all = length_in c.self.inside.names.keys c.self.inside.runs.items 0 c.self.inside.count c.self.invariant in
    let long = ap (λ (l : Listed). length l.items) c.self.view_is in
    omega (arith, all, long, c.requires.within)

pub returns-then-ahead-eq0-clause-none : goal.returns-then-ahead-eq0-clause-none
returns-then-ahead-eq0-clause-none c =
    none c.self.inside.names.keys c.self.inside.runs.items c.deref.result.now c.self.inside.count c.args.count c.in-Event.event c.count_ahead-ahead.result c.args.node c.args.self.now.items c.self.invariant c.deref.ensures.value (ap (λ (l : Listed). l.items) c.self.view_is) c.requires.rising
    c.in-Event.is c.count_ahead-ahead.ensures.bound c.count_ahead-ahead.ensures.to c.count_ahead-ahead.ensures.behind c.if-ahead-eq0.true

pub overflow_add-result : goal.overflow_add-result
overflow_add-result c =
    let low =
    fits c.self.inside.names.keys c.self.inside.runs.items c.deref.result.now c.self.inside.count c.args.count c.in-Event.event c.count_ahead-ahead.result c.args.node c.args.self.now.items c.self.invariant c.deref.ensures.value (ap (λ (l : Listed). l.items) c.self.view_is) c.requires.rising
    c.in-Event.is c.count_ahead-ahead.ensures.bound c.count_ahead-ahead.ensures.to c.count_ahead-ahead.ensures.behind c.index-run.result.now c.if-ahead-eq0.false c.index-run.ensures c.if-behind-run.true in
    omega (arith, low)

pub returns-then-behind-end-clause-some : goal.returns-then-behind-end-clause-some
returns-then-behind-end-clause-some c =
    found c.self.inside.names.keys c.self.inside.runs.items c.deref.result.now c.self.inside.count c.args.count c.in-Event.event c.count_ahead-ahead.result c.args.node c.args.self.now.items c.self.invariant c.deref.ensures.value (ap (λ (l : Listed). l.items) c.self.view_is) c.requires.rising
    c.in-Event.is c.count_ahead-ahead.ensures.bound c.count_ahead-ahead.ensures.to c.count_ahead-ahead.ensures.behind c.index-run.result.now c.if-ahead-eq0.false c.index-run.ensures c.if-behind-run.true c.if-behind-end.true

pub returns-else-behind-run-clause-none : goal.returns-else-behind-run-clause-none
returns-else-behind-run-clause-none c =
    nowhere c.self.inside.names.keys c.self.inside.runs.items c.deref.result.now c.self.inside.count c.args.count c.in-Event.event c.count_ahead-ahead.result c.args.node c.args.self.now.items c.self.invariant c.deref.ensures.value (ap (λ (l : Listed). l.items) c.self.view_is) c.requires.rising
    c.in-Event.is c.count_ahead-ahead.ensures.bound c.count_ahead-ahead.ensures.to c.count_ahead-ahead.ensures.behind c.index-run.result.now c.if-ahead-eq0.false c.index-run.ensures
    (elim c.else-behind-run.branch [
      | else-behind-run-via-then-behind-run+else-behind-end w ↦ λ low. w.if-behind-end.false
      | else-behind-run-via-else-behind-run w ↦ λ low. absurd (omega (arith, w.if-behind-run.false, low))
    ])
