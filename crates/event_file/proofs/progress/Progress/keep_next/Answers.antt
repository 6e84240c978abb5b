use Rattle.std.proofs.Common.{◌≡◌, ◌+◌, ◌<◌, ◌^◌, length, List, [], ◌∷◌, ◌++◌, false, refl, ap, ◌∙◌, sym, subst, arith}
use Rattle.std.specs.Prelude.{get_or}
use Rattle.std.specs.BTreeMap.{get}
use Rattle.ew_model.specs.declared.event.Event.{Event}
use Rattle.ew_model.specs.Ids.{id_cmp}
use Rattle.ew_model.specs.Writable.{agents_of}
use Rattle.event_file.specs.declared.id_runs.IdRun.{IdRun}
use Rattle.event_file.specs.IdRuns.{short_run, short_ids, AreIdRuns}
use Rattle.event_file.specs.Known.{known, known_by, id_by, AreWithin}
use Rattle.event_file.specs.Progress.{Known, IsIndexed}
use Rattle.event_file.specs.SeenIds.{IsSeen}
use Rattle.ew_model.specs.Ancestors.{is_held}
use Rattle.event_file.proofs.Indexes.{known_indexed, known_open, used_is, used_open, unheld}
use Rattle.event_file.proofs.Known.{known_run_more, within_run, few_more, few_ids, other_place}
use Rattle.event_file.proofs.SeenCounts.{place_within, parted_same}
use Rattle.event_file.proofs.progress.Progress.keep_next.Goals as goal

pub put-requires-clause-runs : goal.put-requires-clause-runs
put-requires-clause-runs c = subst (AreIdRuns 0) (sym c.reserve.ensures.items) c.self.invariant.4

pub put-requires-clause-few : goal.put-requires-clause-few
put-requires-clause-few c =
    let i = c.self.inside in
    let few = few_ids i.agents.items (short_ids i.ids.items) 1 c.args.self.now.events (ap (λ (k : Known). k.events) c.self.view_is) c.requires.few in
    subst (λ (rs : List IdRun). length (short_ids rs) + 1 < 2 ^ 32) (sym c.reserve.ensures.items) few

pub invariant_of-self-2 : goal.invariant_of-self-2
invariant_of-self-2 c =
    let i = c.self.inside in
    let agents = i.agents.items in
    let ids = short_ids i.ids.items in
    let events = known agents ids in
    let old = c.self.invariant.0 in
    let next = c.args.next in
    let name = get_or agents next.agent [] in
    let x = id_by agents next in
    let seen = IsSeen agents i.seen.counts.items (get id_cmp i.seen.further) in
    let more = IsSeen agents c.insert_next.new.self.counts.items (get id_cmp c.insert_next.new.self.further) in
    let used = rw (← c.self.view_is) at c.requires.used in
    let at = used_is agents events i.used next.agent seen name old used in
    let is_open = known_open agents events next.agent name (used_open agents events next.agent name at used) in
    let lt = place_within (agents_of events) next.agent name used in
    let count = old.count in
    let other = other_place agents next.agent i.used name old.distinct at (λ e. absurd (omega (arith, e, lt, count))) in
    let items = c.put.ensures.ids ∙ ap (λ (rs : List IdRun). short_ids rs ++ short_run next.agent next.seq 1) c.reserve.ensures.items in
    let grown = ap (known agents) items ∙ known_run_more agents ids next.agent x 1 at in (
      subst (λ (es : List Event). IsIndexed agents es i.used more) (sym grown)
          (known_indexed agents events i.used seen more x 0 old is_open other (c.if-not-insert_next.ensures.added refl agents name old.distinct at)),
      c.insert_next.ensures.counts ∙ c.self.invariant.1,
      subst (AreWithin (length agents)) (sym items) (within_run (length agents) ids next.agent next.seq 1 c.self.invariant.2 (place_within agents next.agent name at)),
      parted_same (get id_cmp i.seen.further) (get id_cmp c.insert_next.new.self.further) c.insert_next.ensures.further c.self.invariant.3,
      c.put.ensures.runs,
      few_more agents ids (short_ids c.put.new.runs.items) next.agent next.seq 1 c.args.self.now.events (ap (λ (k : Known). k.events) c.self.view_is) c.requires.few items,
    )

pub returns-clause-new : goal.returns-clause-new
returns-clause-new c _ =
    let i = c.self.inside in
    let agents = i.agents.items in
    let events = known agents (short_ids i.ids.items) in
    let old = c.self.invariant.0 in
    let next = c.args.next in
    let name = get_or agents next.agent [] in
    let seen = IsSeen agents i.seen.counts.items (get id_cmp i.seen.further) in
    let used = rw (← c.self.view_is) at c.requires.used in
    let at = used_is agents events i.used next.agent seen name old used in
    subst (λ (k : Known). is_held k.events (id_by k.agents c.args.next) ≡ false) c.self.view_is (unheld events (id_by agents next) (λ e. c.if-not-insert_next.ensures.unseen refl agents name old.distinct at ((old.ids (id_by agents next)).1 e)))

pub returns-clause-yes : goal.returns-clause-yes
returns-clause-yes c _ =
    let i = c.self.inside in
    let agents = i.agents.items in
    let events = known agents (short_ids i.ids.items) in
    let next = c.args.next in
    let name = get_or agents next.agent [] in
    let seen = IsSeen agents i.seen.counts.items (get id_cmp i.seen.further) in
    let used = rw (← c.self.view_is) at c.requires.used in
    let at = used_is agents events i.used next.agent seen name c.self.invariant.0 used in
    let items = c.put.ensures.ids ∙ ap (λ (rs : List IdRun). short_ids rs ++ short_run next.agent next.seq 1) c.reserve.ensures.items in
    let grown = ap (known agents) items ∙ known_run_more agents (short_ids i.ids.items) next.agent (id_by agents next) 1 at in
    let whole : List Event → Known = λ es. record { agents = agents; events = es } in
    let more : Known → Known = λ k. record { agents = k.agents; events = k.events ++ known_by (id_by k.agents next) ∷ [] } in
    ap whole grown ∙ ap more c.self.view_is
