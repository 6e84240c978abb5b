use Rattle.std.proofs.Common.{◌≡◌, ◌∙◌, ℕ, ◌+◌, ◌<◌, length, sym, ap, subst, All}
use Rattle.std.proofs.lemmas.List.{length_push}
use Rattle.ew_model.specs.declared.id.Id.{Id}
use Rattle.event_runs.specs.BareEvents.{BareEvent, bare}
use Rattle.history_trials.proofs.kept.Kept.put.Goals as goal

pub invariant_of-result : goal.invariant_of-result
invariant_of-result c =
    let now = c.args.self in
    let e = c.args.e.now in
    let ids : length c.append.new.self ≡ length now.ids + 1 = ap (length {A = Id}) c.in_ok-append.ensures.ok ∙ length_push now.ids e.id in
    let events : length c.append-2.new.self ≡ length now.events + 1 = ap (length {A = BareEvent}) c.in_ok-append-2.ensures.ok ∙ length_push now.events (bare e.op c.args.parents.now) in
    let count : c.count-count.result + 1 ≡ length c.append-2.new.self = ap (λ n. n + 1) c.count-count.ensures.count ∙ sym events in
    record {
      ids_alike = ids ∙ ap (λ n. n + 1) now.ids_alike ∙ sym events;
      cuts_alike = c.in_ok-push.ensures.count ∙ ap (λ n. n + 1) now.cuts_alike ∙ sym events;
      heads_alike = subst (λ (n : ℕ). All (λ h. h < n) c.insert_event.new.self) count c.in_ok-insert_event.ensures.below;
    }
