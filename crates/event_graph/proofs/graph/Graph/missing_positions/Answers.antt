use Rattle.std.proofs.Common.{◌≡◌, ◌∙◌, ◌+◌, ℕ, List, suc, nat_lt, sym, ap, subst, arith}
use Rattle.history_definitions.specs.Missing.{count_in}
use Rattle.event_graph.proofs.MissingPlaces.{AreMissing, counted_next, missing_next, nothing_missing}
use Rattle.event_graph.proofs.graph.Graph.missing_positions.Goals.{then-not-holds+in_ok-push, else-not-holds}
use Rattle.event_graph.proofs.graph.Graph.missing_positions.Goals as goal

pub loop-position-init : goal.loop-position-init
loop-position-init c = record {
  missing = subst (AreMissing c.args.self.now c.args.counts.now 0) (sym c.new-missing.ensures.items) (nothing_missing c.args.self.now c.args.counts.now);
  counted = c.new-counted.ensures ∙ c.in_ok-by_agent.ensures;
}

pub loop-position-preserved : goal.loop-position-preserved
loop-position-preserved c =
    let history = c.args.self.now in
    let counts = c.args.counts.now in
    let place = c.loop-position.position in
    let x = c.id_near.result in
    let next : suc place ≡ place + 1 = omega arith in
    let told : c.holds.result ≡ nat_lt x.seq (count_in counts x.agent) = c.holds.ensures.value ∙ ap (λ (es : List (List ℕ × ℕ)). nat_lt x.seq (count_in es x.agent)) c.loop-position.invariant.counted in
    record {
      counted = c.holds.ensures.same ∙ c.loop-position.invariant.counted;
      missing = elim c.if-not-holds.branch [
        | then-not-holds+in_ok-push w ↦
            subst (λ n. AreMissing history counts n c.if-not-holds.missing.items) next
            (subst (AreMissing history counts (suc place)) (sym (ap (λ v. v.items) w.missing-is ∙ w.in_ok-push.ensures.items))
            (missing_next history counts place c.loop-position.missing.items x c.id_near.ensures (sym told ∙ w.if-not-holds.true) c.loop-position.invariant.missing))
        | else-not-holds w ↦
            subst (λ n. AreMissing history counts n c.if-not-holds.missing.items) next
            (subst (AreMissing history counts (suc place)) (sym (ap (λ v. v.items) w.missing-is))
            (counted_next history counts place c.loop-position.missing.items x c.id_near.ensures (sym told ∙ w.if-not-holds.false) c.loop-position.invariant.missing))
      ];
    }
