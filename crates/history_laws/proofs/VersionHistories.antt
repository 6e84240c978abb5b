-- The events of a version are a good history: each has its ancestors among them, and is judged by these alone.
use Rattle.std.proofs.Common.{◌≡◌, true, false, ⊎_elim, List, [], ◌∷◌, ◌++◌, sym, ◌∙◌, subst, append_assoc, append-nil}
use Rattle.std.specs.List.{list_any}
use Rattle.std.specs.Bool.{then_some}
use Rattle.std.proofs.lemmas.Bool.{false≢true, false_from_ne_true, cases_Bool}
use Rattle.ew_model.specs.declared.id.Id.{Id}
use Rattle.ew_model.specs.declared.event.Event.{Event}
use Rattle.ew_model.specs.Ids.{id_eq, is_among}
use Rattle.ew_model.specs.Events.{event_eq}
use Rattle.ew_model.specs.Ancestors.{is_held, version_events}
use Rattle.ew_model.specs.Verdicts.{first_row, id_rows, parent_rows, range_rows, next_verdict, IsGoodAfter, IsGood}
use Rattle.ew_model.specs.Verdicts.Ruling.{Repeat, Clash, Good}
use Rattle.ew_model.specs.Arrival.{is_ready}
use Rattle.ew_model.proofs.SetLaws.{joined_right}
use Rattle.ew_model.proofs.VersionLaws.{any_from, version_held, version_named}
use Rattle.ew_model.proofs.AncestorLaws.{version_events_before, version_events_of_last}
use Rattle.ew_model.proofs.EntryLaws.{ancestors_held}
use Rattle.ew_model.proofs.SubgraphLaws.{subgraph_text}
use Rattle.ew_model.proofs.GoodLaws.{next_from_good, good_laid_out}
use Rattle.ew_model.proofs.KeptLaws.{good-push, no_repeat}
use Rattle.ew_model.proofs.CoverLaws.{ids_alike, passes, pass_all, event_of, held_by}
use Rattle.ew_model.proofs.RulingLaws.{ruled, next_right, stays}
use Rattle.history_laws.specs.Versions.{VersionsAreHistories}

-- the events that a version of a longer history has of those before its last event
abbrev part_below : List Event → Event → List Id → List Event
part_below history e named = version_events history (named ++ e.parents)

-- an event that is new, and good by its parents and its index, may come next
next_by_rows : (held : List Event) (e : Event) → is_held held e.id ≡ false → ruled held e ≡ Good → next_verdict held e ≡ Good
unfolding next_verdict id_rows parent_rows range_rows
next_by_rows held e new good =
    (λ i. first_row (then_some (list_any (event_eq e) (append-nil held i)) Repeat ∷ then_some (is_held (append-nil held i) e.id) Clash ∷ (parent_rows held e ++ range_rows held e)))
    ∙ (λ i. first_row (then_some (no_repeat held e new i) Repeat ∷ then_some (new i) Clash ∷ (parent_rows held e ++ range_rows held e)))
    ∙ good

-- a version that names an event's parents has them all
parents_there : (history : List Event) (e : Event) (named : List Id) → is_ready history e ≡ true → is_ready (part_below history e named) e ≡ true
parents_there history e named ready =
    pass_all (is_held (part_below history e named)) e.parents (λ p m.
    let g = event_of history p (passes (is_held history) e.parents p ready m) in
    let named_there : is_among (named ++ e.parents) g.0.id ≡ true = any_from (id_eq g.0.id) (named ++ e.parents) p (joined_right named e.parents p m) (ids_alike.symm g.0.id p ∙ g.2) in
    held_by (part_below history e named) p g.0 (version_named history (named ++ e.parents) g.0 g.1 named_there) g.2)

-- an id that isn't held isn't in a version
new_there : (history : List Event) (named : List Id) (x : Id) → is_held history x ≡ false → is_held (version_events history named) x ≡ false
new_there history named x new = false_from_ne_true (is_held (version_events history named) x) (λ h. false≢true (sym new ∙ ancestors_held history named x h))

-- behind the version's events before it, an event may come next as it may behind all
next_in_version : (history : List Event) (e : Event) (named : List Id) → IsGood history → IsGood (part_below history e named) → next_verdict history e ≡ Good → next_verdict (part_below history e named) e ≡ Good
next_in_version history e named good part_good next =
    let right = next_right history e next in
    let alike : ruled (part_below history e named) e ≡ ruled history e =
    stays (part_below history e named) history e part_good good (version_held history (named ++ e.parents)) (parents_there history e named right.ready) in
    next_by_rows (part_below history e named) e (new_there history (named ++ e.parents) e.id (next_from_good history e next).new) (alike ∙ right.good)

-- each version of a history is good
abbrev AllGood : List Event → Type 0
AllGood history = (named : List Id) → IsGood (version_events history named)

one_more : (history : List Event) (e : Event) → IsGood history → next_verdict history e ≡ Good → AllGood history → AllGood (history ++ e ∷ [])
unfolding IsGood
one_more history e good next all named =
    ⊎_elim
    (λ there. subst IsGood (sym (version_events_of_last history e named there))
    (good-push [] (part_below history e named) e (all (named ++ e.parents)) (next_in_version history e named good (all (named ++ e.parents)) next)))
    (λ other. subst IsGood (sym (version_events_before history (e ∷ []) named (other, tt))) (all named))
    (cases_Bool (is_among named e.id))

all_good_after : (before later : List Event) → IsGood before → IsGoodAfter before later → AllGood before → AllGood (before ++ later)
unfolding IsGood
all_good_after before [] good after all = subst AllGood (sym (append-nil before)) all
all_good_after before (e ∷ later) good after all =
    subst AllGood (append_assoc before (e ∷ []) later)
    (all_good_after (before ++ e ∷ []) later (good-push [] before e good after.0) after.1 (one_more before e good after.0 all))

version_good : (history : List Event) → IsGood history → AllGood history
unfolding IsGood
version_good history good = all_good_after [] history tt good (λ named. tt)

-- The law of the histories of versions.
pub versions_are_histories : VersionsAreHistories
versions_are_histories history version good = record { good = version_good history good version; text = subgraph_text history version (good_laid_out history good) }

-- a graph of a version's events is good
pub part_good : (history part : List Event) (version : List Id) → IsGood history → part ≡ version_events history version → IsGood part
part_good history part version good is = subst IsGood (sym is) (versions_are_histories history version good).good
