use Rattle.std.proofs.Common.{◌≡◌, ◌∙◌, ◌++◌, ◌∷◌, [], ◌+◌, List, sym, ap, subst, arith, append_assoc}
use Rattle.ew_model.specs.Positions.{cuts_at}
use Rattle.critical.specs.declared.spans.CutSpan.{CutSpan}
use Rattle.critical.specs.CutRuns.{span_count}
use Rattle.critical.specs.KeptCuts.{KeptCuts}
use Rattle.critical.specs.Older.{seen_cuts}
use Rattle.critical.specs.Spans.{cuts_in, RiseFrom}
use Rattle.critical.proofs.InnerCuts.{cuts_split}
use Rattle.critical.proofs.OlderCuts.{rise_lower}
use Rattle.critical.proofs.list.Cuts.runs.Goals as goal

pub runs_before-requires-clause-rising : goal.runs_before-requires-clause-rising
runs_before-requires-clause-rising c = subst (λ (ss : List CutSpan). RiseFrom 0 ss) (sym c.deref-2.ensures.value) (rise_lower c.self.inside.spans.items 0 c.self.inside.limit (omega arith) c.self.invariant.rising)

pub returns : goal.returns
returns c history stands =
    let inside = c.self.inside in
    let spans = inside.spans.items in
    let own = cuts_in spans ++ inside.count ∷ [] in
    let seen = seen_cuts inside.older inside.limit in
    let next = c.first_of-next.result in
    let parts = c.first_of-next.ensures.first in
    let begins : own ≡ next ∷ parts.0 = ap (λ (ss : List CutSpan). cuts_in ss ++ inside.count ∷ []) (sym c.deref.ensures.value) ∙ parts.1 in
    let rest : c.runs_before.result ≡ span_count own = c.runs_before.ensures.runs ∙ ap (λ (ss : List CutSpan). span_count (cuts_in ss ++ inside.count ∷ [])) c.deref-2.ensures.value in
    let older = c.runs_below.ensures.runs parts.0 in
    let all : (seen ++ cuts_in spans) ++ inside.count ∷ [] ≡ cuts_at history = ap (λ (v : KeptCuts). v.cuts ++ v.count ∷ []) (c.self.view_is ∙ stands) ∙ sym (cuts_split history) in
    ap (λ n. c.runs_below.result + n) (rest ∙ ap span_count begins) ∙ older
    ∙ ap (λ (ss : List CutSpan). span_count (seen_cuts (record { spans = ss; heads = inside.older.heads }) inside.limit ++ next ∷ parts.0)) c.spans.ensures
    ∙ ap span_count (ap (λ ks. seen ++ ks) (sym begins) ∙ sym (append_assoc seen (cuts_in spans) (inside.count ∷ [])) ∙ all)
