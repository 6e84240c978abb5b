use Rattle.std.proofs.Common.{◌≡◌, ℕ, suc, ◌<◌, ◌-◌, List, [], ◌∷◌, refl, sym, ap, ◌∙◌, subst, arith}
use Rattle.event_file.specs.Faults.{IsFault}
use Rattle.event_file.specs.Known.{known_by}
use Rattle.history_definitions.specs.Chains.{last_id}
use Rattle.event_file.specs.Progress.{Known}
use Rattle.event_file.specs.Rest.{Rest, in_front, rest_found}
use Rattle.event_file.proofs.Rest.{goes_on, faults, ends, end_faults}
use Rattle.event_file.proofs.event_records.EventRecords.next_in.Goals as goal
use Rattle.history_definitions.proofs.LastIds.{last_pushed}

pub returns-in-Ok : goal.returns-in-Ok
returns-in-Ok c =
    let i = c.self.inside in
    let e = c.in-Ok.event in
    let more : 0 < i.left = omega (arith, c.if-self-eq0.false) in
    let kept = ap (λ (k : Known). in_front (e ∷ []) (rest_found k.agents k.events (i.left - 1) i.len c.next.new.input.left.now)) (sym c.in-Ok.ensures.kept) in
    let count : i.left ≡ suc (i.left - 1) = omega (arith, more) in (
      ap (λ (r : Rest). r.found) (sym c.self.view_is) ∙ goes_on i.progress.agents i.progress.events i.left i.len i.input.left.now c.next.new.input.left.now e more c.in-Ok.ensures.exact ∙ kept,
      ap (λ (r : Rest). r.records) (sym c.self.view_is) ∙ count,
      ap (λ (k : Known). last_id k.events) c.in-Ok.ensures.kept ∙ last_pushed i.progress.events (known_by e.id),
    )

pub returns-in-Err-next : goal.returns-in-Err-next
returns-in-Err-next c =
    let i = c.self.inside in
    let fault = c.fault_of-in-Err-next.result in
    let more : 0 < i.left = omega (arith, c.if-self-eq0.false) in
    let rest : Known → List ℕ → Rest = λ k b. record { records = i.left; found = rest_found k.agents k.events i.left i.len b; last = last_id k.events } in (
      subst (IsFault fault) (ap (λ (r : Rest). r.found) c.self.view_is) (faults c.in-Err-next.stop fault i.progress.agents i.progress.events i.left i.len i.input.left.now more c.in-Err-next.ensures.exact c.fault_of-in-Err-next.ensures),
      ap (λ k. rest k c.next.new.input.left.now) c.in-Err-next.ensures.err.0 ∙ ap (rest i.progress) c.in-Err-next.ensures.err.1 ∙ c.self.view_is,
    )

pub returns-in-Err : goal.returns-in-Err
returns-in-Err c =
    let i = c.self.inside in
    let fault = c.fault_of.result in
    let none = end_faults c.in-Err.stop fault i.progress.agents i.progress.events i.len i.input.left.now c.in-Err.ensures c.fault_of.ensures in
    let here = subst (λ n. IsFault fault (rest_found i.progress.agents i.progress.events n i.len i.input.left.now)) (sym c.if-self-eq0.true) none in
    (subst (IsFault fault) (ap (λ (r : Rest). r.found) c.self.view_is) here, refl)

pub returns-then-self-eq0 : goal.returns-then-self-eq0
returns-then-self-eq0 c =
    let i = c.self.inside in
    let done = ends i.progress.agents i.progress.events i.len i.input.left.now c.in_default.ensures in
    let here = ap (λ n. rest_found i.progress.agents i.progress.events n i.len i.input.left.now) c.if-self-eq0.true ∙ done in
    (ap (λ (r : Rest). r.found) (sym c.self.view_is) ∙ here, ap (λ (r : Rest). r.records) (sym c.self.view_is) ∙ c.if-self-eq0.true, refl)
