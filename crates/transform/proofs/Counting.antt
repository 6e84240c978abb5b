-- How many touches a turn takes: one for each event in one of two versions alone, and one for the apply.
use Rattle.std.proofs.Common.{◌≡◌, ℕ, ◌+◌, ◌<◌, ◌≤◌, true, Bool, not, List, [], ◌∷◌, ◌++◌, map, filter, length, refl, sym, ap, ◌∙◌, subst, arith, length-append}
use Rattle.std.proofs.lemmas.List.{length-map}
use Rattle.std.proofs.lemmas.Map.Steps.{list_any_congr}
use Rattle.ew_model.specs.declared.id.Id.{Id}
use Rattle.ew_model.specs.declared.event.Event.{Event}
use Rattle.ew_model.specs.Ids.{id_eq, is_among}
use Rattle.ew_model.specs.Ancestors.{ids_of, is_held, ancestors}
use Rattle.ew_model.specs.Positions.{positions_in}
use Rattle.ew_model.specs.Records.{holds}
use Rattle.ew_model.specs.Touches.{number_outside, difference, touches}
use Rattle.ew_model.specs.TouchLaws.{prepared_from}
use Rattle.ew_model.proofs.CoverLaws.{ids_alike, event_of}
use Rattle.ew_model.proofs.EntryLaws.{LaidOut, ancestors_held}
use Rattle.ew_model.proofs.GraphAlike.{laid_distinct, version_filtered}
use Rattle.ew_model.proofs.ListTests.{filter_alike, filter_mapped}
use Rattle.ew_model.proofs.PositionNumbers.{numbered, numbered_events, positions_filtered, position_named}
use Rattle.ew_model.proofs.SetLaws.{among_filter}
use Rattle.ew_model.proofs.SortingLaws.{all_at}
use Rattle.ew_model.proofs.LocalEdit.{KnowsAll}
use Rattle.ew_model.proofs.TouchSteps.{no_difference, touches_add}
use Rattle.transform.specs.Moving.{alone}
use Rattle.transform.specs.Reaching.{prepared_since, over_since}
use Rattle.transform.proofs.Fronts.{prepared_ids}

abbrev Numbered : Type 0
Numbered = ℕ × Event

abbrev in_ids : List Id → Numbered → Bool
in_ids ids z = is_among ids z.1.id

-- the events of a version that aren't among some ids, with their positions
abbrev outside : List Event → List Id → List Id → List Numbered
outside front ids others = filter (λ z. not (in_ids others z)) (filter (in_ids ids) (numbered 0 front))

outside_positions : (front : List Event) (ids others : List Id) → alone (positions_in front ids) (positions_in front others) ≡ map (λ (z : Numbered). z.0) (outside front ids others)
outside_positions front ids others =
    let test : ℕ → Bool = λ n. not (holds (positions_in front others) n) in
    ap (filter test) (positions_filtered ids 0 front)
    ∙ filter_mapped (λ (z : Numbered). z.0) test (filter (in_ids ids) (numbered 0 front))
    ∙ ap (map (λ (z : Numbered). z.0)) (filter_alike (λ (z : Numbered). test z.0) (λ z. not (in_ids others z)) (filter (in_ids ids) (numbered 0 front))
    (λ z m. ap not (position_named others 0 front z (among_filter (in_ids ids) (numbered 0 front) z m).0)))

-- a version's ids, by the numbered events
version_ids : (front : List Event) (version : List Id) → LaidOut [] front → ancestors front version ≡ map (λ (z : Numbered). z.1.id) (filter (in_ids (ancestors front version)) (numbered 0 front))
version_ids front version laid =
    let known = ancestors front version in
    ap ids_of (version_filtered (λ (e : Event). e.id) (λ (e : Event). e.parents) id_eq ids_alike front version (laid_distinct (λ (e : Event). e.id) (λ (e : Event). e.parents) id_eq [] front laid))
    ∙ ap (λ (es : List Event). ids_of (filter (λ (e : Event). is_among known e.id) es)) (sym (numbered_events 0 front))
    ∙ ap ids_of (filter_mapped (λ (z : Numbered). z.1) (λ (e : Event). is_among known e.id) (numbered 0 front))
    ∙ mapped (filter (in_ids known) (numbered 0 front))
  where
    mapped : (zs : List Numbered) → ids_of (map (λ (z : Numbered). z.1) zs) ≡ map (λ (z : Numbered). z.1.id) zs
    mapped [] = refl
    mapped (z ∷ zs) = ap (λ ids. z.1.id ∷ ids) (mapped zs)

outside_ids : (front : List Event) (version others : List Id) → LaidOut [] front → number_outside others (ancestors front version) ≡ length (outside front (ancestors front version) others)
outside_ids front version others laid =
    let known = ancestors front version in
    let taken = filter (in_ids known) (numbered 0 front) in
    ap (λ ids. length (filter (λ x. not (is_among others x)) ids)) (version_ids front version laid)
    ∙ ap length (filter_mapped (λ (z : Numbered). z.1.id) (λ x. not (is_among others x)) taken)
    ∙ length-map (filter (λ (z : Numbered). not (is_among others z.1.id)) taken) (λ (z : Numbered). z.1.id)

-- as many positions as ids are in one version alone
alone_count : (front : List Event) (version others : List Id) → LaidOut [] front → length (alone (positions_in front (ancestors front version)) (positions_in front others)) ≡ number_outside others (ancestors front version)
alone_count front version others laid =
    ap length (outside_positions front (ancestors front version) others)
    ∙ length-map (outside front (ancestors front version) others) (λ (z : Numbered). z.0)
    ∙ sym (outside_ids front version others laid)

-- a list with an element has a last one
split : (xs : List Event) → 0 < length xs → (ys : List Event) × (e : Event) × (xs ≡ ys ++ e ∷ [])
split [] some = let no : ⊥ = omega (arith, some) in absurd no
split (x ∷ []) some = ([], x, refl)
split (x ∷ y ∷ xs) some = let more = split (y ∷ xs) (omega arith) in (x ∷ more.0, more.1, ap (λ zs. x ∷ zs) more.2)

-- what is prepared behind some events is a version, wherever the walk began
prepared_version : (front : List Event) (from : ℕ) → from < length front → (version : List Id) × (prepared_from front 0 ≡ ancestors front version) × (prepared_from front from ≡ ancestors front version)
prepared_version front from some =
    let last = split front (omega (arith, some)) in
    let e = last.1 in
    let low : from ≤ length last.0 = omega (arith, some, ap (length {A = Event}) last.2, length-append last.0 (e ∷ [])) in (
      e.id ∷ [],
      subst (λ (es : List Event). prepared_from es 0 ≡ ancestors es (e.id ∷ [])) (sym last.2) (prepared_ids last.0 0 e (omega arith)),
      subst (λ (es : List Event). prepared_from es from ≡ ancestors es (e.id ∷ [])) (sym last.2) (prepared_ids last.0 from e low),
    )

-- The touches of one more event, behind others that were walked: the moves, and the apply.
pub turn_touches : (front : List Event) (from : ℕ) (e : Event) → LaidOut [] front → from < length front
    → touches (front ++ e ∷ []) from ≡ touches front from + (length (alone (prepared_since front 0) (over_since front 0 e)) + length (alone (over_since front 0 e) (prepared_since front 0)) + 1)
turn_touches front from e laid some =
    let prepared = prepared_from front 0 in
    let over = ancestors front e.parents in
    let version = prepared_version front from some in
    let same : prepared_from front from ≡ prepared = version.2 ∙ sym version.1 in
    let whole : touches (front ++ e ∷ []) from ≡ touches front from + (1 + difference (prepared_from front from) over + 0) = touches_add.append front (e ∷ []) from (omega (arith, some)) in
    let first : length (alone (positions_in front prepared) (positions_in front over)) ≡ number_outside over prepared =
    subst (λ (ids : List Id). length (alone (positions_in front ids) (positions_in front over)) ≡ number_outside over ids) (sym version.1) (alone_count front version.0 over laid) in
    let second : length (alone (positions_in front over) (positions_in front prepared)) ≡ number_outside prepared over = alone_count front e.parents prepared laid in
    omega (arith, whole, ap (λ ids. difference ids over) same, first, second)

-- who knows all events knows their ids
pub all_held : (events : List Event) (ids : List Id) → KnowsAll events ids → (x : Id) → is_held events x ≡ true → is_among ids x ≡ true
all_held events ids knows x h = let f = event_of events x h in list_any_congr ids_alike x f.0.id ids f.2 ∙ all_at (λ (g : Event). is_among ids g.id ≡ true) events f.0 knows f.1

-- And of one that knows all, where all is prepared: the apply.
pub touched_once : (front : List Event) (from : ℕ) (e : Event) → from ≤ length front → ((x : Id) → is_among (prepared_from front from) x ≡ is_held front x) → KnowsAll front (ancestors front e.parents)
    → touches (front ++ e ∷ []) from ≡ touches front from + 1
touched_once front from e low prepared knows =
    let over = ancestors front e.parents in
    let whole : touches (front ++ e ∷ []) from ≡ touches front from + (1 + difference (prepared_from front from) over + 0) = touches_add.append front (e ∷ []) from low in
    let none : difference (prepared_from front from) over ≡ 0 =
    no_difference (prepared_from front from) over
    (λ x m. all_held front over knows x (sym (prepared x) ∙ m))
    (λ x m. prepared x ∙ ancestors_held front e.parents x m) in
    omega (arith, whole, none)
