use Rattle.std.proofs.Common.{◌≡◌, [], None, Some, cond, sym, ap, ◌∙◌, subst}
use Rattle.std.specs.Prelude.{get_or, nat_lt, slice_get}
use Rattle.std.specs.BTreeMap.{get}
use Rattle.ew_model.specs.Ids.{id_cmp}
use Rattle.file_words.specs.FileFaults.{open_agents}
use Rattle.event_file.specs.Known.{known}
use Rattle.event_file.specs.Progress.{Known}
use Rattle.event_file.specs.IdRuns.{short_ids}
use Rattle.event_file.specs.SeenIds.{IsSeen}
use Rattle.event_file.proofs.Indexes.{open_at}
use Rattle.event_file.proofs.Known.{get_by_length}
use Rattle.event_file.proofs.progress.Progress.is_open.Goals as goal

pub returns : goal.returns
returns c =
    let i = c.self.inside in
    let agents = i.agents.items in
    let there = open_at agents (known agents (short_ids i.ids.items)) i.used c.args.place (IsSeen agents i.seen.counts.items (get id_cmp i.seen.further)) c.self.invariant.0 c.if-place-self.false in
    let by_length = ap (λ n. cond (nat_lt c.args.place n) (Some (get_or agents c.args.place [])) None) (sym (c.len.ensures ∙ i.agents.ok.0)) in
    subst (λ (k : Known). slice_get (open_agents k.agents k.events) c.args.place ≡ cond (nat_lt c.args.place c.len.result) (Some (get_or k.agents c.args.place [])) None) c.self.view_is
    (there ∙ get_by_length agents c.args.place [] ∙ by_length)
