use Rattle.std.proofs.Common.{◌-◌, ◌<◌, ◌^◌, [], List, length, ap, ◌∙◌, sym, subst}
use Rattle.std.specs.Prelude.{get_or}
use Rattle.std.specs.BTreeMap.{get}
use Rattle.std.proofs.lemmas.List.{length-map}
use Rattle.ew_model.specs.Ids.{id_cmp}
use Rattle.event_file.specs.declared.id_runs.IdRun.{IdRun}
use Rattle.event_file.specs.IdRuns.{short_ids, last_short, AreIdRuns}
use Rattle.event_file.specs.Known.{known, known_by, id_by}
use Rattle.event_file.specs.Progress.{IsLast}
use Rattle.event_file.specs.SeenIds.{IsSeen}
use Rattle.event_file.proofs.Indexes.{used_at, used_is, used_open}
use Rattle.event_file.proofs.Known.{known_at, last_parts}
use Rattle.event_file.proofs.progress.Progress.last.Goals as goal

pub last_id-requires : goal.last_id-requires
last_id-requires c = record {
  runs = subst (AreIdRuns 0) (sym c.deref.ensures.value) c.self.invariant.4;
  few = subst (λ (rs : List IdRun). length (short_ids rs) < 2 ^ 32) (sym c.deref.ensures.value) c.self.invariant.5;
}

pub returns : goal.returns
returns c =
    let i = c.self.inside in
    let agents = i.agents.items in
    let ids = short_ids i.ids.items in
    let events = known agents ids in
    let x = c.in_ok-position.last in
    let place = c.in_ok-position.position in
    let p = last_parts ids place x (c.in_ok-position.ensures ∙ ap (λ (rs : List IdRun). last_short (short_ids rs)) c.deref.ensures.value) in
    let within = c.self.invariant.2 place x p.1 in
    let seen = IsSeen agents i.seen.counts.items (get id_cmp i.seen.further) in
    let used = used_at agents events i.used x.agent seen c.self.invariant.0 c.if-last-self.false within in
    let name = get_or agents x.agent [] in
    subst (λ k. IsLast k place x) c.self.view_is (record {
      position_is = p.0 ∙ ap (λ n. n - 1) (sym (length-map ids (λ y. known_by (id_by agents y))));
      at = known_at agents ids place x p.1;
      agent = used;
      is_open = used_open agents events x.agent name (used_is agents events i.used x.agent seen name c.self.invariant.0 used) used;
    })
