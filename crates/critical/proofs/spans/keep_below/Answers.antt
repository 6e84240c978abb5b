use Rattle.std.proofs.Common.{◌≡◌, ◌∙◌, ◌≤◌, ◌<◌, ℕ, List, map, take, length, sym, ap, subst, arith, slice_index_or}
use Rattle.std.specs.List.{take-map}
use Rattle.std.proofs.lemmas.List.{length-map}
use Rattle.std.proofs.lemmas.Option.{get_or_from_slice_get, slice_get_within}
use Rattle.critical.specs.declared.spans.CutSpan.{CutSpan}
use Rattle.critical.specs.Spans.{shortened}
use Rattle.critical.proofs.SpanChanges.{Kept, kept_spans}
use Rattle.critical.proofs.spans.keep_below.Goals.{After-shorten_last}
use Rattle.critical.proofs.spans.keep_below.Goals as goal

kept : (c : After-shorten_last) → Kept c.args.spans.now.items c.shorten_last.new.spans.items (map (λ v. v.items) c.args.heads.now.items) (map (λ v. v.items) c.truncate-2.new.self.items) 0 c.args.end
kept c =
    let spans = c.args.spans.now.items in
    let given = map (λ v. v.items) c.args.heads.now.items in
    let count = c.count_below-kept.result in
    let read : c.deref.result.now ≡ spans = c.deref.ensures.value in
    let long : length given ≡ length spans = length-map c.args.heads.now.items (λ v. v.items) ∙ c.requires.alike in
    let bound : count ≤ length spans = subst (λ (ss : List CutSpan). count ≤ length ss) read c.count_below-kept.ensures.bound in
    let new : shortened (take count spans) c.args.end ≡ c.shorten_last.new.spans.items = sym (c.shorten_last.ensures ∙ ap (λ ss. shortened ss c.args.end) c.truncate.ensures.items) in
    let fewer : take count given ≡ map (λ v. v.items) c.truncate-2.new.self.items = take-map (λ v. v.items) count c.args.heads.now.items ∙ ap (map (λ v. v.items)) (sym c.truncate-2.ensures.items) in
    subst (λ (ss : List CutSpan). Kept spans ss given (map (λ v. v.items) c.truncate-2.new.self.items) 0 c.args.end) new
    (subst (λ (hs : List (List ℕ)). Kept spans (shortened (take count spans) c.args.end) given hs 0 c.args.end) fewer
    (kept_spans spans given 0 count c.args.end c.requires.rising long bound
    (λ place s l e. let r = get_or_from_slice_get spans place s s e in let at = c.count_below-kept.ensures.below place s (omega arith) l in
    subst (λ (t : CutSpan). t.first < c.args.end) (ap (λ (ss : List CutSpan). slice_index_or ss place s) read ∙ r) at)
    (λ place s l e. let r = get_or_from_slice_get spans place s s e in let within = slice_get_within spans place s e in
    let at = c.count_below-kept.ensures.above place s l (subst (λ (ss : List CutSpan). place < length ss) (sym read) within) in
    subst (λ (t : CutSpan). c.args.end ≤ t.first) (ap (λ (ss : List CutSpan). slice_index_or ss place s) read ∙ r) at)))

pub returns-clause-cuts : goal.returns-clause-cuts
returns-clause-cuts c = (kept c).cuts

pub returns-clause-heads : goal.returns-clause-heads
returns-clause-heads c = (kept c).heads

pub returns-clause-rising : goal.returns-clause-rising
returns-clause-rising c = (kept c).rising

pub returns-clause-ends : goal.returns-clause-ends
returns-clause-ends c = (kept c).ends

pub returns-clause-alike : goal.returns-clause-alike
returns-clause-alike c = sym (length-map c.truncate-2.new.self.items (λ v. v.items)) ∙ (kept c).alike
