-- What receiving takes in a merge that is done.
use Rattle.std.proofs.Common.{◌≡◌, true, false, List, [], ◌∷◌, length, refl, ◌∙◌}
use Rattle.std.specs.List.{AllByRecursion}
use Rattle.std.proofs.lemmas.Bool.{false≢true}
use Rattle.ew_model.specs.Arrival.{Answer, arrive}
use Rattle.ew_model.specs.Cuts.{latest_cut}
use Rattle.ew_model.specs.MergeLaw.{is_taken}
use Rattle.ew_model.specs.Rounds.{is_out_of_range}
use Rattle.ew_model.specs.TouchLaws.{NoneOutOfRange}
use Rattle.ew_model.specs.Verdicts.{Ruling}
use Rattle.ew_model.specs.Verdicts.Ruling.{Repeat, Clash, SelfParent, TooManyParents, ParentsUnsorted, Unknown, PoolFull, NotReduced, Skipped, GraphFull, OutOfRange, Good}
use Rattle.ew_model.proofs.CutLaws.{latest_critical}
use Rattle.ew_model.proofs.RoundLaws.{one_round}
use Rattle.replica.proofs.Sparing.{cuts_spare}
use Rattle.table_laws.specs.MergeLaws.{command_answer}
use Rattle.command_table.specs.Table.{merge}
use Rattle.table_laws.proofs.MergedFiles.{opened_is, is_done, storable, merged_storable, opens_new}
use Rattle.table_laws.specs.MergeTouches.{MergesSpare}

-- what takes its event isn't out of range
in_range : (r : Ruling) → is_taken r ≡ true → is_out_of_range r ≡ false
in_range Repeat h = refl
in_range Clash h = refl
in_range SelfParent h = refl
in_range TooManyParents h = refl
in_range ParentsUnsorted h = refl
in_range (Unknown p) h = refl
in_range PoolFull h = refl
in_range NotReduced h = refl
in_range Skipped h = refl
in_range GraphFull h = refl
in_range (OutOfRange len) h = absurd (false≢true h)
in_range Good h = refl

all_in_range : (answers : List Answer) → AllByRecursion (λ a. is_taken a.ruling ≡ true) answers → NoneOutOfRange answers
all_in_range [] h = tt
all_in_range (a ∷ answers) h = (in_range a.ruling h.0, all_in_range answers h.1)

pub merges_spare : MergesSpare
merges_spare limits files input reading name other numbers first second zero =
    let there = command_answer (merge name other) limits files input reading in
    let d = is_done limits files name other there refl zero in
    let now = (arrive limits d.events [] d.others).desk.held in
    let one = storable limits files name d.events first d.first in
    let two = storable limits files other d.others second d.second in
    let kept = merged_storable limits d.events d.others d.first.good one two d.merged in
    let cut = latest_cut now (length d.events) in (
      d.events,
      d.others,
      now,
      opened_is name limits files d.events d.first,
      opened_is other limits files d.others d.second,
      opened_is name limits there.files now (opens_new limits files name other there d numbers one two),
      one_round limits d.events [] d.others (all_in_range (arrive limits d.events [] d.others).answers d.merged.taken) ∙ cuts_spare now cut kept.0 (latest_critical now (length d.events)),
    )
