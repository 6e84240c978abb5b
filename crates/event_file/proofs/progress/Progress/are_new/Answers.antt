use Rattle.std.proofs.Common.{◌≡◌, ◌<◌, ◌-◌, ◌∙◌, suc, ap, sym, subst, arith}
use Rattle.std.specs.BTreeMap.{get}
use Rattle.ew_model.specs.Ids.{id_cmp}
use Rattle.file_words.specs.FileRuns.{are_new}
use Rattle.event_file.specs.IdRuns.{short_ids}
use Rattle.event_file.specs.Known.{known}
use Rattle.event_file.specs.Progress.{Known}
use Rattle.event_file.proofs.Indexes.{told_new}
use Rattle.event_file.proofs.SeenCounts.{place_within}
use Rattle.event_file.proofs.progress.Progress.are_new.Goals as goal

pub returns : goal.returns
returns c =
    let i = c.self.inside in
    let at = rw (← c.self.view_is) at c.requires.place in
    let lt = subst (λ n. c.args.place < n) (sym c.self.invariant.1) (place_within i.agents.items c.args.place c.args.id.now.agent at) in
    let all : suc (c.args.count - 1) ≡ c.args.count = omega (arith, c.requires.some) in
    told_new i.agents.items (known i.agents.items (short_ids i.ids.items)) i.used i.seen.counts.items (get id_cmp i.seen.further) c.args.place c.args.id.now (c.args.count - 1) c.has_one_of.result c.self.invariant.0 at lt c.has_one_of.ensures
    ∙ ap (λ (k : Known). are_new k.events c.args.id.now (suc (c.args.count - 1))) c.self.view_is
    ∙ ap (are_new c.args.self.now.events c.args.id.now) all
