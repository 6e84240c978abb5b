use Rattle.std.proofs.Common.{◌≡◌, ℕ, List, [], Some, None, get_or, sym, ap, ◌∙◌, subst}
use Rattle.std.specs.Prelude.{slice_get}
use Rattle.std.proofs.lemmas.Option.{slice_get-get_or, get_or_from_slice_get}
use Rattle.ew_model.specs.declared.id.Id.{Id}
use Rattle.ew_model.specs.Ancestors.{ids_of}
use Rattle.event_file.specs.declared.id_runs.IdRun.{IdRun}
use Rattle.event_file.specs.IdRuns.{short_ids, AreIdRuns}
use Rattle.event_file.specs.Progress.{Known}
use Rattle.event_file.proofs.Known.{known_at, none_known}
use Rattle.event_file.proofs.progress.Progress.id_at.Goals as goal

pub id_at-requires : goal.id_at-requires
id_at-requires c = subst (AreIdRuns 0) (sym c.deref.ensures.value) c.self.invariant.4

pub returns-in-Some : goal.returns-in-Some
returns-in-Some c =
    let i = c.self.inside in
    let x = c.in-Some.id in
    let at : slice_get (short_ids i.ids.items) c.args.position ≡ Some x = ap (λ (rs : List IdRun). slice_get (short_ids rs) c.args.position) (sym c.deref.ensures.value) ∙ sym c.in-Some.ensures in
    let within = slice_get-get_or i.agents.items x.agent c.index.result.now (c.self.invariant.2 c.args.position x at) in
    let name = c.index.ensures ∙ sym (get_or_from_slice_get i.agents.items x.agent (get_or i.agents.items x.agent c.index.result.now) [] within) in
    let id : List ℕ → Id = λ n. record { agent = n; seq = x.seq } in
    ap (λ n. Some (id n)) name
    ∙ sym (known_at i.agents.items (short_ids i.ids.items) c.args.position x at)
    ∙ ap (λ (k : Known). slice_get (ids_of k.events) c.args.position) c.self.view_is

pub returns-in-None : goal.returns-in-None
returns-in-None c =
    let i = c.self.inside in
    let none : slice_get (short_ids i.ids.items) c.args.position ≡ None = ap (λ (rs : List IdRun). slice_get (short_ids rs) c.args.position) (sym c.deref.ensures.value) ∙ sym c.in-None.ensures in
    sym (none_known i.agents.items (short_ids i.ids.items) c.args.position none) ∙ ap (λ (k : Known). slice_get (ids_of k.events) c.args.position) c.self.view_is
