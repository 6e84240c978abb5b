-- The head that knows the agent's last event, and the order in which a mark joins the heads.
use Rattle.std.proofs.Common.{◌≡◌, ℕ, zero, suc, ◌<◌, Bool, true, false, not, cond, ◌||◌, inl, inr, List, [], ◌∷◌, ◌++◌, length, take, drop, filter, find, get_or, slice_get, Some, None, refl, sym, ap, ◌∙◌, subst, arith}
use Rattle.std.specs.List.{list_any}
use Rattle.std.proofs.lemmas.Bool.{false≢true, false_from_ne_true, and_parts, and_from, or_parts}
use Rattle.std.proofs.lemmas.Option.{slice_get-get_or}
use Rattle.std.specs.declared.cmp.Ordering.TheVariants.{Equal}
use Rattle.std.proofs.lemmas.Cmp.{tied_itself}
use Rattle.ew_model.specs.declared.id.Id.{Id}
use Rattle.ew_model.specs.declared.event.Event.{Event}
use Rattle.ew_model.specs.Sets.{Among}
use Rattle.ew_model.specs.Ids.{id_cmp, id_eq, id_lt, is_among, ids_ascend}
use Rattle.ew_model.specs.Sorting.{sort_by}
use Rattle.ew_model.specs.Ancestors.{version_events, ancestors, heads}
use Rattle.ew_model.specs.Verdicts.{has_number_below, IsGood}
use Rattle.ew_model.specs.Edits.{count_of, knows_agent, with_front, joining_order}
use Rattle.ew_model.proofs.PathOrder.{id_total}
use Rattle.ew_model.proofs.IdLaws.{is_same_id}
use Rattle.ew_model.proofs.ListTests.{any_from, found_by, same_truth}
use Rattle.ew_model.proofs.ListPlaces.{some_is, none_is_some, or_other}
use Rattle.ew_model.proofs.SortingLaws.{NoTie, NoTies, all_at}
use Rattle.ew_model.proofs.GraphVersions as versions
use Rattle.ew_model.proofs.EntryLaws.{LaidOut, points_back}
use Rattle.ew_model.proofs.CoverLaws.{event_of, held_by}
use Rattle.ew_model.proofs.GoodLaws.{good_laid_out}
use Rattle.ew_model.proofs.MarkGroups.{other_than, all_others}
use Rattle.ew_model.proofs.MarkEvents.{more_known}

-- WHO KNOWS AN EVENT
abbrev knows : List Event → Id → Id → Bool
knows history x y = is_among (ancestors history (y ∷ [])) x

one_knows : (history : List Event) (ids : List Id) (x : Id) → LaidOut [] history → is_among (ancestors history ids) x ≡ true → list_any (knows history x) ids ≡ true
one_knows history ids x laid known =
    let f = event_of (version_events history ids) x known in
    let one = versions.taken_of_one (λ (e : Event). e.id) (λ (e : Event). e.parents) id_eq history ids (points_back [] history laid) f.0 f.1 in
    any_from (knows history x) ids one.0 one.1 (held_by (version_events history (one.0 ∷ [])) x f.0 one.2 f.2)

all_know : (history : List Event) (ids : List Id) (x : Id) → LaidOut [] history → list_any (knows history x) ids ≡ true → is_among (ancestors history ids) x ≡ true
all_know history ids x laid known = let one = found_by (knows history x) ids known in more_known history ids one.0 x laid one.1 one.2

any_of_some : (ids : List Id) → 0 < length ids → list_any (λ (x : Id). true) ids ≡ true
any_of_some [] some = absurd (omega (arith, some))
any_of_some (x ∷ ids) some = refl

-- ids know the agent's last event where one of them does
pub some_know : (history : List Event) (agent : List ℕ) (ids : List Id) → IsGood history → 0 < length ids → has_number_below (ancestors history ids) agent (count_of history agent) ≡ list_any (knows_agent history agent) ids
some_know history agent ids good some = at (count_of history agent)
  where
    at : (n : ℕ) → has_number_below (ancestors history ids) agent n ≡ list_any (λ (x : Id). has_number_below (ancestors history (x ∷ [])) agent n) ids
    at zero = sym (any_of_some ids some)
    at (suc n) =
        let x : Id = record { agent = agent; seq = n } in
        same_truth (is_among (ancestors history ids) x) (list_any (knows history x) ids) (one_knows history ids x (good_laid_out history good)) (all_know history ids x (good_laid_out history good))

-- THE FIRST THAT PASSES
pub none_there : (test : Id → Bool) (ids : List Id) → length ids ≡ 0 → find test ids ≡ None
none_there test [] h = refl
none_there test (x ∷ ids) h = absurd (omega (arith, h))

pub none_passes : (test : Id → Bool) (ids : List Id) → list_any test ids ≡ false → find test ids ≡ None
none_passes test [] h = refl
none_passes test (x ∷ ids) h =
    let parts = or_parts (test x) (list_any test ids) h in
    ap (λ b. cond b (Some x) (find test ids)) parts.0 ∙ none_passes test ids parts.1

alone : (b : Bool) → (b || false) ≡ true → b ≡ true
alone true e = refl
alone false e = e

-- it stands behind a front of which none passes
pub first_passes : (test : Id → Bool) (ids : List Id) (k : ℕ) → list_any test (take k ids) ≡ false → list_any test (take (suc k) ids) ≡ true → (slice_get ids k ≡ find test ids) × (k < length ids)
first_passes test [] k none one = absurd (false≢true one)
first_passes test (x ∷ ids) zero none one =
    let passes : test x ≡ true = alone (test x) one in
    (sym (ap (λ b. cond b (Some x) (find test ids)) passes), omega arith)
first_passes test (x ∷ ids) (suc k) none one =
    let parts = or_parts (test x) (list_any test (take k ids)) none in
    let more = first_passes test ids k parts.1 (or_other (test x) (list_any test (take (suc k) ids)) parts.0 one) in
    (more.0 ∙ sym (ap (λ b. cond b (Some x) (find test ids)) parts.0), (let within = more.1 in omega (arith, within)))

-- the front of ascending ids ascends
pub front_ascends : (k : ℕ) (ids : List Id) → ids_ascend ids ≡ true → ids_ascend (take k ids) ≡ true
front_ascends zero ids h = refl
front_ascends (suc k) [] h = refl
front_ascends (suc zero) (x ∷ ids) h = refl
front_ascends (suc (suc k)) (x ∷ []) h = refl
front_ascends (suc (suc k)) (x ∷ y ∷ ids) h =
    let parts = and_parts (id_lt x y) (ids_ascend (y ∷ ids)) h in
    and_from (id_lt x y) (ids_ascend (y ∷ take k ids)) parts.0 (front_ascends (suc k) (y ∷ ids) parts.1)

-- ONE ID IN FRONT
there_among : (ids : List Id) (k : ℕ) (x : Id) → slice_get ids k ≡ Some x → Among x ids
there_among [] k x e = none_is_some x e
there_among (y ∷ ids) zero x e = inl (sym (some_is y x e))
there_among (y ∷ ids) (suc k) x e = inr (there_among ids k x e)

without_place : (x : Id) (ids : List Id) (k : ℕ) → NoTies id_cmp ids → slice_get ids k ≡ Some x → filter (other_than x) ids ≡ take k ids ++ drop (suc k) ids
without_place x [] k h e = none_is_some x e
without_place x (y ∷ ids) zero h e =
    let same : y ≡ x = some_is y x e in
    ap (λ b. cond (not b) (y ∷ filter (other_than x) ids) (filter (other_than x) ids)) ((is_same_id x y).1 (sym same)) ∙ all_others x ids (subst (λ z. NoTie id_cmp z ids) same h.0)
without_place x (y ∷ ids) (suc k) h e =
    let other : id_eq x y ≡ false = false_from_ne_true (id_eq x y) (λ q. all_at (λ z. id_cmp y z ≡ Equal → ⊥) ids x h.0 (there_among ids k x e) (ap (id_cmp y) ((is_same_id x y).0 q) ∙ tied_itself id_total y)) in
    ap (λ b. cond (not b) (y ∷ filter (other_than x) ids) (filter (other_than x) ids)) other ∙ ap (λ ys. y ∷ ys) (without_place x ids k h.1 e)

-- the ids when the first that passes was moved to the front
pub own_in_front : (test : Id → Bool) (ids : List Id) (place : ℕ) (own : Id) → NoTies id_cmp ids → slice_get ids place ≡ find test ids → place < length ids → own ≡ get_or ids place own
    → own ∷ (take place ids ++ drop (suc place) ids) ≡ with_front (find test ids) ids
own_in_front test ids place own h is within value =
    let there : slice_get ids place ≡ Some own = slice_get-get_or ids place own within ∙ ap (λ x. Some x) (sym value) in
    sym (ap (λ o. with_front o ids) (sym is ∙ there) ∙ ap (λ ys. own ∷ ys) (without_place own ids place h there))

pub order_is : (history : List Event) (agent : List ℕ) (ids heads_up : List Id) → heads_up ≡ sort_by id_cmp (heads history) → ids ≡ with_front (find (knows_agent history agent) heads_up) heads_up → ids ≡ joining_order history agent
unfolding joining_order
order_is history agent ids heads_up are is = is ∙ ap (λ hs. with_front (find (knows_agent history agent) hs) hs) are
