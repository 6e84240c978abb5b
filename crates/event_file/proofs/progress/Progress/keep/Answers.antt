use Rattle.std.proofs.Common.{◌≡◌, ◌+◌, ◌<◌, ◌^◌, suc, length, List, ◌++◌, true, ap, ◌∙◌, sym, subst}
use Rattle.std.specs.Prelude.{slice_get}
use Rattle.std.specs.BTreeMap.{get}
use Rattle.ew_model.specs.declared.event.Event.{Event}
use Rattle.ew_model.specs.Ids.{id_cmp}
use Rattle.event_file.specs.declared.id_runs.IdRun.{IdRun}
use Rattle.event_file.specs.IdRuns.{short_run, short_ids, AreIdRuns}
use Rattle.event_file.specs.Known.{known, known_run, AreWithin}
use Rattle.event_file.specs.Progress.{Known, IsIndexed}
use Rattle.event_file.specs.SeenIds.{IsSeen, AreParted}
use Rattle.file_words.specs.FileRuns.{are_new}
use Rattle.event_file.proofs.Indexes.{next_indexed, known_indexed, new_uncovered, same_index}
use Rattle.event_file.proofs.Known.{known_run_more, within_run, few_more, few_ids, other_place}
use Rattle.event_file.proofs.SeenCounts.{place_within, parted_same}
use Rattle.event_file.proofs.progress.Progress.keep.Goals as goal

pub insert-requires-clause-new : goal.insert-requires-clause-new
insert-requires-clause-new c =
    let i = c.self.inside in
    let new = subst (λ (k : Known). are_new k.events c.args.id (suc c.args.more) ≡ true) (sym c.self.view_is) c.requires.new in
    new_uncovered i.agents.items (known i.agents.items (short_ids i.ids.items)) i.used i.seen.counts.items (get id_cmp i.seen.further) c.args.id c.args.more c.self.invariant.0 new

pub put-requires-clause-runs : goal.put-requires-clause-runs
put-requires-clause-runs c = subst (AreIdRuns 0) (sym c.in_ok-reserve.ensures.items) c.self.invariant.4

pub put-requires-clause-few : goal.put-requires-clause-few
put-requires-clause-few c =
    let i = c.self.inside in
    let few = few_ids i.agents.items (short_ids i.ids.items) (suc c.args.more) c.args.self.now.events (ap (λ (k : Known). k.events) c.self.view_is) c.requires.few in
    subst (λ (rs : List IdRun). length (short_ids rs) + suc c.args.more < 2 ^ 32) (sym c.in_ok-reserve.ensures.items) few

pub invariant_of-self-in_err-insert : goal.invariant_of-self-in_err-insert
invariant_of-self-in_err-insert c =
    let i = c.self.inside in
    let agents = i.agents.items in
    let counts = c.insert.new.self.counts.items in
    let table = get id_cmp c.insert.new.self.further in
    let kept = c.in_err-insert.ensures.kept in
    let P : List IdRun → Type 0 = λ rs. IsIndexed agents (known agents (short_ids rs)) i.used (IsSeen agents counts table) × (length counts ≡ length agents) × AreWithin (length agents) (short_ids rs) × AreParted table × AreIdRuns 0 rs × (length (short_ids rs) < 2 ^ 32) in
    subst P (sym c.in_ok-reserve.ensures.items) (
      same_index agents (known agents (short_ids i.ids.items)) i.used i.seen.counts.items counts (get id_cmp i.seen.further) table kept.0 kept.1 c.self.invariant.0,
      c.insert.ensures.counts ∙ c.self.invariant.1,
      c.self.invariant.2,
      parted_same (get id_cmp i.seen.further) table kept.1 c.self.invariant.3,
      c.self.invariant.4,
      c.self.invariant.5,
    )

pub invariant_of-self-then-place-self : goal.invariant_of-self-then-place-self
invariant_of-self-then-place-self c =
    let i = c.self.inside in
    let agents = i.agents.items in
    let old = c.self.invariant.0 in
    let ids = short_ids i.ids.items in
    let x = c.args.id in
    let items = c.put.ensures.ids ∙ ap (λ (rs : List IdRun). short_ids rs ++ short_run c.args.place x.seq (suc c.args.more)) c.in_ok-reserve.ensures.items in
    let at = rw (← c.self.view_is) at c.requires.open.at in
    let grown = ap (known agents) items ∙ known_run_more agents ids c.args.place x (suc c.args.more) at in
    let seen = IsSeen agents c.insert.new.self.counts.items (get id_cmp c.insert.new.self.further) in
    let here = ap (slice_get agents) (sym c.if-place-self.true) ∙ at in (
      subst (λ (es : List Event). IsIndexed agents es (i.used + 1) seen) (sym grown)
          (next_indexed agents (known agents ids) i.used (IsSeen agents i.seen.counts.items (get id_cmp i.seen.further)) seen x c.args.more old here (c.in_ok-insert.ensures.added agents old.distinct at)),
      c.in_ok-insert.ensures.counts ∙ c.self.invariant.1,
      subst (AreWithin (length agents)) (sym items) (within_run (length agents) ids c.args.place x.seq (suc c.args.more) c.self.invariant.2 (place_within agents c.args.place x.agent at)),
      c.in_ok-insert.ensures.parted,
      c.put.ensures.runs,
      few_more agents ids (short_ids c.put.new.runs.items) c.args.place x.seq (suc c.args.more) c.args.self.now.events (ap (λ (k : Known). k.events) c.self.view_is) c.requires.few items,
    )

pub invariant_of-self-else-place-self : goal.invariant_of-self-else-place-self
invariant_of-self-else-place-self c =
    let i = c.self.inside in
    let agents = i.agents.items in
    let old = c.self.invariant.0 in
    let ids = short_ids i.ids.items in
    let x = c.args.id in
    let items = c.put.ensures.ids ∙ ap (λ (rs : List IdRun). short_ids rs ++ short_run c.args.place x.seq (suc c.args.more)) c.in_ok-reserve.ensures.items in
    let at = rw (← c.self.view_is) at c.requires.open.at in
    let is_open = rw (← c.self.view_is) at c.requires.open.is_open in
    let grown = ap (known agents) items ∙ known_run_more agents ids c.args.place x (suc c.args.more) at in
    let seen = IsSeen agents c.insert.new.self.counts.items (get id_cmp c.insert.new.self.further) in
    let other = other_place agents c.args.place i.used x.agent old.distinct at (λ e. absurd (c.if-place-self.false e)) in (
      subst (λ (es : List Event). IsIndexed agents es i.used seen) (sym grown)
          (known_indexed agents (known agents ids) i.used (IsSeen agents i.seen.counts.items (get id_cmp i.seen.further)) seen x c.args.more old is_open other (c.in_ok-insert.ensures.added agents old.distinct at)),
      c.in_ok-insert.ensures.counts ∙ c.self.invariant.1,
      subst (AreWithin (length agents)) (sym items) (within_run (length agents) ids c.args.place x.seq (suc c.args.more) c.self.invariant.2 (place_within agents c.args.place x.agent at)),
      c.in_ok-insert.ensures.parted,
      c.put.ensures.runs,
      few_more agents ids (short_ids c.put.new.runs.items) c.args.place x.seq (suc c.args.more) c.args.self.now.events (ap (λ (k : Known). k.events) c.self.view_is) c.requires.few items,
    )

pub returns-then-place-self-clause-ok : goal.returns-then-place-self-clause-ok
returns-then-place-self-clause-ok c =
    let i = c.self.inside in
    let agents = i.agents.items in
    let x = c.args.id in
    let items = c.put.ensures.ids ∙ ap (λ (rs : List IdRun). short_ids rs ++ short_run c.args.place x.seq (suc c.args.more)) c.in_ok-reserve.ensures.items in
    let grown = ap (known agents) items ∙ known_run_more agents (short_ids i.ids.items) c.args.place x (suc c.args.more) (rw (← c.self.view_is) at c.requires.open.at) in
    let whole : List Event → Known = λ es. record { agents = agents; events = es } in
    let more : Known → Known = λ k. record { agents = k.agents; events = k.events ++ known_run x (suc c.args.more) } in
    ap whole grown ∙ ap more c.self.view_is

pub returns-else-place-self-clause-ok : goal.returns-else-place-self-clause-ok
returns-else-place-self-clause-ok c =
    let i = c.self.inside in
    let agents = i.agents.items in
    let x = c.args.id in
    let items = c.put.ensures.ids ∙ ap (λ (rs : List IdRun). short_ids rs ++ short_run c.args.place x.seq (suc c.args.more)) c.in_ok-reserve.ensures.items in
    let grown = ap (known agents) items ∙ known_run_more agents (short_ids i.ids.items) c.args.place x (suc c.args.more) (rw (← c.self.view_is) at c.requires.open.at) in
    let whole : List Event → Known = λ es. record { agents = agents; events = es } in
    let more : Known → Known = λ k. record { agents = k.agents; events = k.events ++ known_run x (suc c.args.more) } in
    ap whole grown ∙ ap more c.self.view_is
