-- What a merge stores: a file's own events, and behind them those of the other file that it didn't hold.
use Rattle.std.proofs.Common.{Bool, true, false, if◌then◌else◌, List, [], ◌∷◌, map, filter, inl, inr, refl, subst}
use Rattle.ew_model.specs.declared.event.Event.{Event}
use Rattle.ew_model.specs.Verdicts.{is_verdict_good}
use Rattle.ew_model.specs.Arrival.{Answer, arrive}
use Rattle.ew_model.proofs.AppendSteps.{arrivals_append}
use Rattle.table_laws.specs.MergeLaws.{MergesStore, IsPart, IsJoined, command_answer}
use Rattle.command_table.specs.Table.{merge}
use Rattle.table_laws.proofs.MergedFiles.{opened_is, is_done, storable, opens_new}

-- one event more in the other list
part_more : (xs : List Event) (y : Event) (ys : List Event) → IsPart xs ys → IsPart xs (y ∷ ys)
part_more [] y ys part = tt
part_more (x ∷ xs) y ys part = inr part

part_step : (b : Bool) (a : Answer) (good answers : List Answer) → IsPart (map (λ (x : Answer). x.event) good) (map (λ (x : Answer). x.event) answers)
    → IsPart (map (λ (x : Answer). x.event) (if b then a ∷ good else good)) (map (λ (x : Answer). x.event) (a ∷ answers))
part_step true a good answers part = inl (refl, part)
part_step false a good answers part = part_more (map (λ (x : Answer). x.event) good) a.event (map (λ (x : Answer). x.event) answers) part

-- the events of some answers are a part of the events of all
part_of : (answers : List Answer) → IsPart (map (λ (a : Answer). a.event) (filter (λ (a : Answer). is_verdict_good a.ruling) answers)) (map (λ (a : Answer). a.event) answers)
part_of [] = tt
part_of (a ∷ answers) = part_step (is_verdict_good a.ruling) a (filter (λ (x : Answer). is_verdict_good x.ruling) answers) answers (part_of answers)

pub merges_store : MergesStore
merges_store limits files input reading name other numbers first second zero =
    let there = command_answer (merge name other) limits files input reading in
    let d = is_done limits files name other there refl zero in
    let o = arrive limits d.events [] d.others in
    let more : List Event = map (λ (a : Answer). a.event) (filter (λ (a : Answer). is_verdict_good a.ruling) o.answers) in
    let one = storable limits files name d.events first d.first in
    let two = storable limits files other d.others second d.second in
    let joined : IsJoined d.events d.others o.desk.held = record {
      more = more;
      behind = arrivals_append limits d.events [] d.others;
      part = subst (IsPart more) d.merged.in_order (part_of o.answers);
      whole = d.merged.whole;
    } in (
      d.events,
      d.others,
      o.desk.held,
      opened_is name limits files d.events d.first,
      opened_is other limits files d.others d.second,
      opened_is name limits there.files o.desk.held (opens_new limits files name other there d numbers one two),
      joined,
    )
