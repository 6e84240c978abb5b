-- Touches behind a critical cut depend on the events behind it alone.
use Rattle.std.proofs.Common.{◌≡◌, ◌+◌, nat_le, Bool, true, false, not, cond, ◌||◌, List, [], ◌∷◌, ◌++◌, filter, length, take, drop, inl, refl, sym, ap, ◌∙◌, subst, arith, append_assoc, append-nil, length-append}
use Rattle.std.specs.List.{list_all, AllByRecursion}
use Rattle.std.proofs.lemmas.Bool.{false≢true, false_from_ne_true, and_parts, or_left}
use Rattle.std.proofs.lemmas.List.{map-append, take-append-drop}
use Rattle.std.proofs.lemmas.List.Elements.{filter-append}
use Rattle.ew_model.specs.declared.id.Id.{Id}
use Rattle.ew_model.specs.declared.event.Event.{Event}
use Rattle.ew_model.specs.Ids.{id_eq, is_among}
use Rattle.ew_model.specs.Ancestors.{ids_of, is_held, version_events, ancestors}
use Rattle.ew_model.specs.Cuts.{are_among, is_critical}
use Rattle.ew_model.specs.Sets.{Among}
use Rattle.ew_model.specs.Touches.{number_outside, difference, touches, touches_after}
use Rattle.ew_model.proofs.AncestorLaws.{among-append, parents_of, version_events-append}
use Rattle.ew_model.proofs.Clearing.{AllKnow}
use Rattle.ew_model.proofs.ClearingLaw.{know_before, laid_rest}
use Rattle.ew_model.proofs.CoverLaws.{among_here, event_of, held_by, ids_alike}
use Rattle.ew_model.proofs.EntryLaws.{LaidOut, NoneHeld, ancestors_held, none_held}
use Rattle.ew_model.proofs.GoodLaws.{good_laid_out}
use Rattle.ew_model.proofs.GraphAlike.{laid_distinct, version_filtered}
use Rattle.ew_model.proofs.LocalEdit.{KnowsAll}
use Rattle.ew_model.proofs.OperationLaws.{laid_part}
use Rattle.ew_model.proofs.SetLaws.{joined_left, joined_right}
use Rattle.ew_model.proofs.SortingLaws.{all_at, all_from}
use Rattle.ew_model.proofs.VersionLaws.{version_held}
use Rattle.replica.specs.Sparing.{CutsSpare}
use Rattle.transform.proofs.Fronts.{own_version}

-- COUNTS OF IDS
count_next : (b : Bool) (x : Id) (ids : List Id) → length (cond b (x ∷ ids) ids) ≡ cond b 1 0 + length ids
count_next true x ids = omega arith
count_next false x ids = omega arith

outside_next : (others : List Id) (x : Id) (ids : List Id) → number_outside others (x ∷ ids) ≡ cond (not (is_among others x)) 1 0 + number_outside others ids
outside_next others x ids = count_next (not (is_among others x)) x (filter (λ y. not (is_among others y)) ids)

none_outside : (others ids : List Id) → AllByRecursion (λ x. is_among others x ≡ true) ids → number_outside others ids ≡ 0
none_outside others [] h = refl
none_outside others (x ∷ ids) h = outside_next others x ids ∙ (λ i. cond (not (h.0 i)) 1 0 + none_outside others ids h.1 i)

-- ids that are apart from others
abbrev AreApart : List Id → List Id → Type 0
AreApart others ids = AllByRecursion (λ x. is_among others x ≡ false) ids

outside_less : (base others ids : List Id) → AreApart base ids → number_outside (base ++ others) ids ≡ number_outside others ids
outside_less base others [] h = refl
outside_less base others (x ∷ ids) h =
    let same : is_among (base ++ others) x ≡ is_among others x = among-append base others x ∙ ap (λ b. b || is_among others x) h.0 in
    outside_next (base ++ others) x ids ∙ (λ i. cond (not (same i)) 1 0 + outside_less base others ids h.1 i) ∙ sym (outside_next others x ids)

outside_apart : (base others ids : List Id) → AreApart base ids → number_outside (base ++ others) (base ++ ids) ≡ number_outside others ids
outside_apart base others ids apart =
    let all : AllByRecursion (λ x. is_among (base ++ others) x ≡ true) base =
    all_from (λ x. is_among (base ++ others) x ≡ true) base (λ x m. among-append base others x ∙ or_left (is_among base x) (is_among others x) (among_here base x m)) in
    let split : number_outside (base ++ others) (base ++ ids) ≡ number_outside (base ++ others) base + number_outside (base ++ others) ids =
    ap (length {A = Id}) (filter-append (λ x. not (is_among (base ++ others) x)) base ids)
    ∙ length-append (filter (λ x. not (is_among (base ++ others) x)) base) (filter (λ x. not (is_among (base ++ others) x)) ids) in
    let none = none_outside (base ++ others) base all in
    let less = outside_less base others ids apart in
    omega (arith, split, none, less)

-- what two lists share at their head makes no difference
same_difference : (base xs ys : List Id) → AreApart base xs → AreApart base ys → difference (base ++ xs) (base ++ ys) ≡ difference xs ys
same_difference base xs ys p q = λ i. outside_apart base ys xs p i + outside_apart base xs ys q i

-- VERSIONS THAT KNOW ALL BELOW
filter_whole : (p : Event → Bool) (events : List Event) → AllByRecursion (λ e. p e ≡ true) events → filter p events ≡ events
filter_whole p [] h = refl
filter_whole p (e ∷ events) h = λ i. cond (h.0 i) (e ∷ filter_whole p events h.1 i) (filter_whole p events h.1 i)

whole_version : (history : List Event) (named : List Id) → LaidOut [] history → KnowsAll history (ancestors history named) → version_events history named ≡ history
whole_version history named laid know =
    version_filtered (λ (e : Event). e.id) (λ (e : Event). e.parents) id_eq ids_alike history named (laid_distinct (λ (e : Event). e.id) (λ (e : Event). e.parents) id_eq [] history laid)
    ∙ filter_whole (λ e. is_among (ancestors history named) e.id) history know

-- an event below is none of those behind
not_behind : (below between : List Event) (f : Event) → NoneHeld below between → Among f below → is_held between f.id ≡ false
not_behind below between f none m =
    false_from_ne_true (is_held between f.id)
    (λ held. let g = event_of between f.id held in
    false≢true (sym (all_at (λ (e : Event). is_held below e.id ≡ false) between g.0 none g.1) ∙ held_by below g.0.id f m (ids_alike.symm g.0.id f.id ∙ g.2)))

or_first : (a b : Bool) → b ≡ false → (a || b) ≡ true → a ≡ true
or_first true b h k = refl
or_first false b h k = absurd (false≢true (sym h ∙ k))

-- a version that knows all below is these, and the version of those behind
known_below : (below between : List Event) (named : List Id) → LaidOut [] below → NoneHeld below between → KnowsAll below (ancestors (below ++ between) named) → version_events (below ++ between) named ≡ below ++ version_events between named
known_below below between named laid none know =
    let behind = version_events between named in
    let more = named ++ parents_of behind in
    let split : version_events (below ++ between) named ≡ version_events below more ++ behind = version_events-append below between named in
    let known : KnowsAll below (ancestors below more) =
    all_from (λ (f : Event). is_among (ancestors below more) f.id ≡ true) below
    (λ f m. let all : is_among (ids_of (version_events below more ++ behind)) f.id ≡ true = ap (λ (es : List Event). is_among (ids_of es) f.id) (sym split) ∙ all_at (λ (e : Event). is_among (ancestors (below ++ between) named) e.id ≡ true) below f know m in
    let other : is_among (ids_of behind) f.id ≡ false =
    false_from_ne_true (is_among (ids_of behind) f.id) (λ here. false≢true (sym (not_behind below between f none m) ∙ ancestors_held between named f.id here)) in
    or_first (is_among (ancestors below more) f.id) (is_among (ids_of behind) f.id) other
    (sym (ap (λ ids. is_among ids f.id) (map-append (λ (e : Event). e.id) (version_events below more) behind) ∙ among-append (ancestors below more) (ids_of behind) f.id) ∙ all)) in
    split ∙ ap (λ (es : List Event). es ++ behind) (whole_version below more laid known)

apart_ids : (below events : List Event) → AllByRecursion (λ (e : Event). is_held below e.id ≡ false) events → AreApart (ids_of below) (ids_of events)
apart_ids below [] h = tt
apart_ids below (e ∷ events) h = (h.0, apart_ids below events h.1)

apart_more : (base ids : List Id) (x : Id) → AreApart base ids → is_among base x ≡ false → AreApart base (ids ++ x ∷ [])
apart_more base [] x h k = (k, tt)
apart_more base (y ∷ ids) x h k = (h.0, apart_more base ids x h.1 k)

-- THE COUNT
spared : (below between later : List Event) (prepared : List Id) → LaidOut [] ((below ++ between) ++ later) → AllKnow below (below ++ between) later → AreApart (ids_of below) prepared
    → touches_after (below ++ between) (ids_of below ++ prepared) later ≡ touches_after between prepared later
spared below between [] prepared laid know apart = refl
spared below between (e ∷ later) prepared laid know apart =
    let base = ids_of below in
    let rest = laid_rest [] (below ++ between) (e ∷ later) laid in
    let laid_front : LaidOut [] (below ++ between) = laid_part [] (below ++ between) (e ∷ later) laid in
    let laid_below : LaidOut [] below = laid_part [] below between laid_front in
    let laid_whole : LaidOut [] (below ++ (between ++ e ∷ later)) = subst (LaidOut []) (append_assoc below between (e ∷ later)) laid in
    let none : NoneHeld below (between ++ e ∷ later) = none_held below (between ++ e ∷ later) (laid_rest [] below (between ++ e ∷ later) laid_whole) in
    let none_between : NoneHeld below between =
    all_from (λ (f : Event). is_held below f.id ≡ false) between (λ f m. all_at (λ (g : Event). is_held below g.id ≡ false) (between ++ e ∷ later) f none (joined_left between (e ∷ later) f m)) in
    let new_below : is_held below e.id ≡ false = all_at (λ (g : Event). is_held below g.id ≡ false) (between ++ e ∷ later) e none (joined_right between (e ∷ later) e (inl refl)) in
    let new : is_held (below ++ between) e.id ≡ false = rest.0 in
    let new_between : is_held between e.id ≡ false =
    false_from_ne_true (is_held between e.id)
    (λ held. let g = event_of between e.id held in false≢true (sym new ∙ held_by (below ++ between) e.id g.0 (joined_right below between g.0 g.1) g.2)) in
    let behind = version_events between e.parents in
    let over : ancestors (below ++ between) e.parents ≡ base ++ ids_of behind =
    ap ids_of (known_below below between e.parents laid_below none_between know.0) ∙ map-append (λ (f : Event). f.id) below behind in
    let apart_behind : AreApart base (ids_of behind) =
    apart_ids below behind (all_from (λ (f : Event). is_held below f.id ≡ false) behind (λ f m. all_at (λ (g : Event). is_held below g.id ≡ false) between f none_between (version_held between e.parents f m))) in
    let first : difference (base ++ prepared) (ancestors (below ++ between) e.parents) ≡ difference prepared (ids_of behind) =
    ap (difference (base ++ prepared)) over ∙ same_difference base prepared (ids_of behind) apart apart_behind in
    let next : ancestors ((below ++ between) ++ e ∷ []) (e.id ∷ []) ≡ base ++ (ids_of behind ++ e.id ∷ []) =
    own_version (below ++ between) e new ∙ ap (λ ids. ids ++ e.id ∷ []) over ∙ append_assoc base (ids_of behind) (e.id ∷ []) in
    let front : (below ++ between) ++ e ∷ [] ≡ below ++ (between ++ e ∷ []) = append_assoc below between (e ∷ []) in
    let laid_next : LaidOut [] ((below ++ (between ++ e ∷ [])) ++ later) =
    subst (LaidOut []) (sym (append_assoc (below ++ between) (e ∷ []) later) ∙ ap (λ (es : List Event). es ++ later) front) laid in
    let know_next : AllKnow below (below ++ (between ++ e ∷ [])) later = subst (λ (es : List Event). AllKnow below es later) front know.1 in
    let more = spared below (between ++ e ∷ []) later (ids_of behind ++ e.id ∷ []) laid_next know_next (apart_more base (ids_of behind) e.id apart_behind new_below) in
    (λ i. 1 + first i + touches_after (front i) (next i) later)
    ∙ ap (λ n. 1 + difference prepared (ids_of behind) + n) (more ∙ ap (λ ids. touches_after (between ++ e ∷ []) ids later) (sym (own_version between e new_between)))

pub cuts_spare : CutsSpare
unfolding is_critical touches
cuts_spare history k good critical =
    let below = take k history in
    let later = drop k history in
    let whole : below ++ later ≡ history = take-append-drop k history in
    let parts = and_parts (nat_le k (length history)) (list_all (λ e. are_among (ancestors history e.parents) (ids_of below)) later) critical in
    let laid : LaidOut [] (below ++ later) = subst (LaidOut []) (sym whole) (good_laid_out history good) in
    let know : AllKnow below below later = know_before below below later history whole (laid_rest [] below later laid) parts.1 in
    let none : below ≡ below ++ [] = sym (append-nil below) in
    (λ i. touches_after (none i) (sym (append-nil (ids_of below)) i) later)
    ∙ spared below [] later [] (subst (λ (es : List Event). LaidOut [] (es ++ later)) none laid) (subst (λ (es : List Event). AllKnow below es later) none know) tt
