use Rattle.std.proofs.Common.{◌<◌, ◌∙◌, ap, sym, subst}
use Rattle.std.specs.BTreeMap.{get}
use Rattle.ew_model.specs.Ids.{id_cmp}
use Rattle.ew_model.specs.Ancestors.{is_held}
use Rattle.event_file.specs.IdRuns.{short_ids}
use Rattle.event_file.specs.Known.{known}
use Rattle.event_file.specs.Progress.{Known}
use Rattle.event_file.proofs.Indexes.{told_held}
use Rattle.event_file.proofs.SeenCounts.{place_within}
use Rattle.event_file.proofs.progress.Progress.is_seen.Goals as goal

pub returns : goal.returns
returns c =
    let i = c.self.inside in
    let at = rw (← c.self.view_is) at c.requires in
    let lt = subst (λ n. c.args.place < n) (sym c.self.invariant.1) (place_within i.agents.items c.args.place c.args.id.now.agent at) in
    told_held i.agents.items (known i.agents.items (short_ids i.ids.items)) i.used i.seen.counts.items (get id_cmp i.seen.further) c.args.place c.args.id.now c.has_one_of.result c.self.invariant.0 at lt c.has_one_of.ensures
    ∙ ap (λ (k : Known). is_held k.events c.args.id.now) c.self.view_is
