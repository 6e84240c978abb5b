use Rattle.std.proofs.Common.{◌≡◌, suc, ◌<◌, ◌-◌, [], ◌∷◌, sym, ap, ◌∙◌, arith}
use Rattle.history_definitions.specs.Chains.{event_behind, last_id}
use Rattle.event_file.specs.Known.{known_by}
use Rattle.event_file.specs.Progress.{Known}
use Rattle.event_file.specs.Rest.{Rest, in_front, rest_found}
use Rattle.event_file.proofs.Rest.{goes_on}
use Rattle.event_file.proofs.event_records.EventRecords.go_on.Goals as goal
use Rattle.history_definitions.proofs.LastIds.{last_pushed}

pub returns-clause-some : goal.returns-clause-some
returns-clause-some c =
    let i = c.self.inside in
    let r = c.in_ok-op.ensures.some in
    let e = event_behind r.last c.in_ok-op.op in
    let more : 0 < i.left = omega (arith, c.if-self-eq0.false) in
    let kept = ap (λ (k : Known). in_front (e ∷ []) (rest_found k.agents k.events (i.left - 1) i.len c.go_on.new.input.left.now)) (sym r.kept) in
    let count : i.left ≡ suc (i.left - 1) = omega (arith, more) in
    record {
      last = r.last;
      is_last = ap (λ (rest : Rest). rest.last) (sym c.self.view_is) ∙ r.is_last;
      next = (
        ap (λ (rest : Rest). rest.found) (sym c.self.view_is) ∙ goes_on i.progress.agents i.progress.events i.left i.len i.input.left.now c.go_on.new.input.left.now e more r.read ∙ kept,
        ap (λ (rest : Rest). rest.records) (sym c.self.view_is) ∙ count,
        ap (λ (k : Known). last_id k.events) r.kept ∙ last_pushed i.progress.events (known_by e.id),
      );
    }
