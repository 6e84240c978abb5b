use Rattle.std.proofs.Common.{◌≡◌, ℕ, ◌-◌, ◌<◌, sym, ap, ◌∙◌, subst}
use Rattle.std.proofs.lemmas.List.{get_or_read}
use Rattle.fugue_place.specs.Chains.{IsEndOf}
use Rattle.fugue_place.specs.Ways.{head_at, stop_of, way_of}
use Rattle.fugue_place.proofs.WayStates.{stop_order, stop_few, stop_some, stop_low, ends_alone, knows_links, last_known, last_low, ends_chain}
use Rattle.fugue_place.proofs.ways.Ways.end_of.Goals.{After-index}
use Rattle.fugue_place.proofs.ways.Ways.end_of.Goals as goal

pub first_link-requires : goal.first_link-requires
first_link-requires c =
    let w = c.args.self.now in
    let kept = c.requires.ways in
    record {
      order = stop_order w kept c.args.at c.requires.within c.stop-stop.result c.stop-stop.ensures;
      few = stop_few w kept c.args.at c.requires.within c.stop-stop.result c.stop-stop.ensures;
      known = knows_links w kept c.stop-stop.result;
    }

pub overflow_sub-result : goal.overflow_sub-result
overflow_sub-result c = stop_some c.args.self.now c.requires.ways c.args.at c.requires.within c.stop-stop.result c.stop-stop.ensures

pub returns-in-None-clause-end : goal.returns-in-None-clause-end
returns-in-None-clause-end c = ends_alone c.args.self.now c.requires.ways c.args.at c.requires.within c.stop-stop.result c.stop-stop.ensures c.in-None.ensures

pub returns-in-None-clause-within : goal.returns-in-None-clause-within
returns-in-None-clause-within c = stop_low c.args.self.now c.requires.ways c.args.at c.requires.within c.stop-stop.result c.stop-stop.ensures

-- the last head of the chain
is_last : (c : After-index) → c.index.result.now ≡ head_at c.args.self.now c.end_of-last.result
is_last c =
    let w = c.args.self.now in
    get_or_read w.heads.items c.end_of-last.result c.index.result.now
    (last_known w c.requires.ways c.args.at c.requires.within c.stop-stop.result c.stop-stop.ensures c.in-Some.head c.in-Some.ensures c.end_of-last.result c.end_of-last.ensures.end) c.index.ensures 0

last_early : (c : After-index) → c.index.result.now < c.args.self.now.count
last_early c =
    subst (λ (x : ℕ). x < c.args.self.now.count) (sym (is_last c))
    (last_low c.args.self.now c.requires.ways c.args.at c.requires.within c.stop-stop.result c.stop-stop.ensures c.in-Some.head c.in-Some.ensures c.end_of-last.result c.end_of-last.ensures.end)

pub overflow_sub-result-in-Some : goal.overflow_sub-result-in-Some
overflow_sub-result-in-Some c = stop_some c.args.self.now c.requires.ways c.index.result.now (last_early (goal.at.overflow_sub-result-in-Some c).After-index) c.stop.result c.stop.ensures

pub returns-in-Some-clause-end : goal.returns-in-Some-clause-end
returns-in-Some-clause-end c =
    let w = c.args.self.now in
    subst (λ (x : ℕ). IsEndOf (way_of w) c.args.at (x - 1)) (sym (c.stop.ensures ∙ ap (stop_of w) (is_last (goal.at.returns-in-Some-clause-end c).After-index)))
    (ends_chain w c.requires.ways c.args.at c.requires.within c.stop-stop.result c.stop-stop.ensures c.in-Some.head c.in-Some.ensures c.end_of-last.result c.end_of-last.ensures.end)

pub returns-in-Some-clause-within : goal.returns-in-Some-clause-within
returns-in-Some-clause-within c = stop_low c.args.self.now c.requires.ways c.index.result.now (last_early (goal.at.returns-in-Some-clause-within c).After-index) c.stop.result c.stop.ensures
