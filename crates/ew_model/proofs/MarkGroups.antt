-- The heads in the order in which a mark joins them, and their groups.
use Rattle.std.proofs.Common.{◌≡◌, ℕ, zero, suc, ◌+◌, ◌-◌, ◌/◌, ◌<◌, ◌≤◌, Bool, true, false, not, cond, inl, inr, ⊎_elim, List, [], ◌∷◌, ◌++◌, length, filter, find, Option, Some, None, refl, sym, ap, ◌∙◌, subst, arith}
use Rattle.std.specs.List.{AllByRecursion, onto_first}
use Rattle.std.specs.Ordering.{is_eq}
use Rattle.std.specs.declared.cmp.Ordering.TheVariants.{Less, Equal}
use Rattle.std.specs.Cmp.{tied_itself}
use Rattle.std.specs.List.Sorted.{IsStrictlySortedBy}
use Rattle.std.proofs.lemmas.Bool.{false≢true, false_from_ne_true, not-true}
use Rattle.ew_model.specs.declared.id.Id.{Id}
use Rattle.ew_model.specs.declared.event.Event.{Event}
use Rattle.ew_model.specs.Sets.{Among}
use Rattle.ew_model.specs.Sorting.{sort_by}
use Rattle.ew_model.specs.Ids.{id_cmp, id_eq}
use Rattle.ew_model.specs.Ancestors.{ids_of, is_parent, heads}
use Rattle.ew_model.specs.Edits.{knows_agent, with_front, joining_order, in_groups}
use Rattle.ew_model.proofs.PathOrder.{id_total}
use Rattle.ew_model.proofs.IdLaws.{is_same_id}
use Rattle.ew_model.proofs.SetLaws.{among_filter, filter_among, joined_left, joined_right}
use Rattle.ew_model.proofs.SortingLaws.{NoTie, NoTies, all_at, all_from, ties_filter, sort_sorted, sort_among, among_sort, length-sort}
use Rattle.ew_model.proofs.EntryLaws.{LaidOut}
use Rattle.ew_model.proofs.EditHeads.{ids_apart}

-- GROUPS
-- the ids of groups, one group after another
abbrev pub joined : List (List Id) → List Id
joined [] = []
joined (group ∷ groups) = group ++ joined groups

-- the groups of some ids: the first has no more ids than there is room for, each further one at most 15
pub record Grouped (room : ℕ) (ids : List Id) : Type 0 where
  pub first : List Id
  pub more : List (List Id)
  pub is : in_groups room ids ≡ first ∷ more
  pub whole : first ++ joined more ≡ ids
  pub fits : length first ≤ room
  pub front : (y : Id) (others : List Id) → ids ≡ y ∷ others → 0 < room → Among y first
  pub few : AllByRecursion (λ (g : List Id). length g ≤ 15) more
  pub count : length more ≡ (length ids + 14 - room) / 15

none_over : (room : ℕ) → 0 ≡ (0 + 14 - room) / 15
none_over room = omega arith

one_over : (n k : ℕ) → k ≡ (n + 14 - 14) / 15 → suc k ≡ (suc n + 14 - 0) / 15
one_over n k h = omega (arith, h)

one_less : (n room k : ℕ) → k ≡ (n + 14 - room) / 15 → k ≡ (suc n + 14 - suc room) / 15
one_less n room k h = omega (arith, h)

pub grouped : (room : ℕ) (ids : List Id) → Grouped room ids
grouped room [] = record { first = []; more = []; is = refl; whole = refl; fits = omega arith; front = λ y others e some. (let no : ⊥ = cc in absurd no); few = tt; count = none_over room }
grouped zero (x ∷ ids) =
    let g = grouped 14 ids in
    record {
      first = [];
      more = (x ∷ g.first) ∷ g.more;
      is = ap (λ gs. [] ∷ onto_first x gs) g.is;
      whole = ap (λ ys. x ∷ ys) g.whole;
      fits = omega arith;
      front = λ y others e some. absurd (omega (arith, some));
      few = (let fits = g.fits in omega (arith, fits), g.few);
      count = one_over (length ids) (length g.more) g.count;
    }
grouped (suc room) (x ∷ ids) =
    let g = grouped room ids in
    record {
      first = x ∷ g.first;
      more = g.more;
      is = ap (onto_first x) g.is;
      whole = ap (λ ys. x ∷ ys) g.whole;
      fits = (let fits = g.fits in omega (arith, fits));
      front = λ y others e some. (let same : y ≡ x = cc in inl same);
      few = g.few;
      count = one_less (length ids) room (length g.more) g.count;
    }

-- LISTS WITHOUT TIES
pub ties_front : (xs ys : List Id) → NoTies id_cmp (xs ++ ys) → NoTies id_cmp xs
ties_front [] ys h = tt
ties_front (x ∷ xs) ys h = (all_from (λ y. id_cmp x y ≡ Equal → ⊥) xs (λ y m. all_at (λ y. id_cmp x y ≡ Equal → ⊥) (xs ++ ys) y h.0 (joined_left xs ys y m)), ties_front xs ys h.1)

pub ties_behind : (xs ys : List Id) → NoTies id_cmp (xs ++ ys) → NoTies id_cmp ys
ties_behind [] ys h = h
ties_behind (x ∷ xs) ys h = ties_behind xs ys h.1

-- no id stands in both parts
pub in_one_part : (xs ys : List Id) (x : Id) → NoTies id_cmp (xs ++ ys) → Among x xs → Among x ys → ⊥
in_one_part [] ys x h m k = m
in_one_part (y ∷ xs) ys x h m k =
    ⊎_elim
    (λ e. all_at (λ z. id_cmp y z ≡ Equal → ⊥) (xs ++ ys) x h.0 (joined_right xs ys x k) (ap (id_cmp y) e ∙ tied_itself id_total y))
    (λ j. in_one_part xs ys x h.1 j k)
    m

less_no_tie : (x : Id) (xs : List Id) → AllByRecursion (λ y. id_cmp x y ≡ Less) xs → NoTie id_cmp x xs
less_no_tie x xs h = all_from (λ y. id_cmp x y ≡ Equal → ⊥) xs (λ y m e. let less = all_at (λ y. id_cmp x y ≡ Less) xs y h m in let no : ⊥ = cc in no)

pub ties_sorted : (xs : List Id) → IsStrictlySortedBy id_cmp xs → NoTies id_cmp xs
unfolding IsStrictlySortedBy
ties_sorted [] s = tt
ties_sorted (x ∷ xs) s = (less_no_tie x xs s.0, ties_sorted xs s.1)

-- the heads in ascending order
pub sorted_heads : (history : List Event) → LaidOut [] history → NoTies id_cmp (sort_by id_cmp (heads history))
sorted_heads history laid =
    ties_sorted (sort_by id_cmp (heads history))
    (sort_sorted id_total (heads history) (ties_filter id_cmp (λ x. not (is_parent history x)) (ids_of history) (ids_apart [] history laid)))

-- ONE ID IN FRONT
pub found_there : (test : Id → Bool) (ids : List Id) (x : Id) → find test ids ≡ Some x → Among x ids × (test x ≡ true)
found_there test [] x e = let no : ⊥ = cc in absurd no
found_there test (y ∷ ids) x e = at (test y) refl e (found_there test ids x)
  where
    at : (b : Bool) → test y ≡ b → cond b (Some y) (find test ids) ≡ Some x → (find test ids ≡ Some x → Among x ids × (test x ≡ true)) → Among x (y ∷ ids) × (test x ≡ true)
    at true is e further = let same : x ≡ y = cc in (inl same, ap test same ∙ is)
    at false is e further = let more = further e in (inr more.0, more.1)

-- where one passes, one is found
pub one_found : (test : Id → Bool) (ids : List Id) (x : Id) → Among x ids → test x ≡ true → (y : Id) × (find test ids ≡ Some y) × (test y ≡ true)
one_found test [] x m passes = absurd m
one_found test (y ∷ ids) x m passes = at (test y) refl (λ k. one_found test ids x k passes)
  where
    further : test y ≡ false → Among x ids
    further is = ⊎_elim (λ e. absurd (false≢true (sym is ∙ (ap test (sym e) ∙ passes)))) (λ k. k) m

    at : (b : Bool) → test y ≡ b → (Among x ids → (z : Id) × (find test ids ≡ Some z) × (test z ≡ true)) → (z : Id) × (cond b (Some y) (find test ids) ≡ Some z) × (test z ≡ true)
    at true is more = (y, refl, is)
    at false is more = more (further is)

abbrev pub other_than : Id → Id → Bool
other_than x y = not (id_eq x y)

pub others_there : (x z : Id) (ids : List Id) → Among z ids → Among z (x ∷ filter (other_than x) ids)
others_there x z ids m = at (id_eq x z) refl
  where
    at : (b : Bool) → id_eq x z ≡ b → Among z (x ∷ filter (other_than x) ids)
    at true e = inl (sym ((is_same_id x z).0 e))
    at false e = inr (filter_among (other_than x) ids z m (ap not e))

pub front_there : (o : Option Id) (ids : List Id) (z : Id) → Among z ids → Among z (with_front o ids)
front_there None ids z m = m
front_there (Some x) ids z m = others_there x z ids m

pub front_back : (o : Option Id) (ids : List Id) → ((x : Id) → o ≡ Some x → Among x ids) → (z : Id) → Among z (with_front o ids) → Among z ids
front_back None ids f z m = m
front_back (Some x) ids f z m = ⊎_elim (λ e. subst (λ y. Among y ids) (sym e) (f x refl)) (λ k. (among_filter (other_than x) ids z k).0) m

pub front_apart : (o : Option Id) (ids : List Id) → NoTies id_cmp ids → NoTies id_cmp (with_front o ids)
front_apart None ids h = h
front_apart (Some x) ids h = (
  all_from (λ y. id_cmp x y ≡ Equal → ⊥) (filter (other_than x) ids) (λ y m tie. false≢true (sym (not-true (id_eq x y) (among_filter (other_than x) ids y m).1) ∙ ap is_eq tie)),
  ties_filter id_cmp (other_than x) ids h,
)

pub all_others : (x : Id) (ids : List Id) → NoTie id_cmp x ids → filter (other_than x) ids ≡ ids
all_others x [] h = refl
all_others x (y ∷ ids) h =
    let other : id_eq x y ≡ false = false_from_ne_true (id_eq x y) (λ e. h.0 (ap (id_cmp x) (sym ((is_same_id x y).0 e)) ∙ tied_itself id_total x)) in
    ap (λ b. cond (not b) (y ∷ filter (other_than x) ids) (filter (other_than x) ids)) other ∙ ap (λ ys. y ∷ ys) (all_others x ids h.1)

pub others_long : (x : Id) (ids : List Id) → NoTies id_cmp ids → Among x ids → suc (length (filter (other_than x) ids)) ≡ length ids
others_long x [] h m = absurd m
others_long x (y ∷ ids) h m =
    ⊎_elim
    (λ e.
    let itself : id_eq x y ≡ true = (is_same_id x y).1 e in
    ap (λ b. suc (length (cond (not b) (y ∷ filter (other_than x) ids) (filter (other_than x) ids)))) itself
    ∙ ap (λ ys. suc (length ys)) (all_others x ids (subst (λ z. NoTie id_cmp z ids) (sym e) h.0)))
    (λ k.
    let other : id_eq x y ≡ false = false_from_ne_true (id_eq x y) (λ e. all_at (λ z. id_cmp y z ≡ Equal → ⊥) ids x h.0 k (ap (id_cmp y) ((is_same_id x y).0 e) ∙ tied_itself id_total y)) in
    ap (λ b. suc (length (cond (not b) (y ∷ filter (other_than x) ids) (filter (other_than x) ids)))) other ∙ ap (λ n. suc n) (others_long x ids h.1 k))
    m

pub front_long : (o : Option Id) (ids : List Id) → ((x : Id) → o ≡ Some x → Among x ids) → NoTies id_cmp ids → length (with_front o ids) ≡ length ids
front_long None ids f h = refl
front_long (Some x) ids f h = others_long x ids h (f x refl)

-- THE ORDER OF JOINING
-- it holds the heads, each once
pub record JoinsHeads (history : List Event) (ids : List Id) : Type 0 where
  pub there : (x : Id) → Among x (heads history) → Among x ids
  pub back : (x : Id) → Among x ids → Among x (heads history)
  pub apart : NoTies id_cmp ids
  pub long : length ids ≡ length (heads history)

pub joins_heads : (history : List Event) (agent : List ℕ) → LaidOut [] history → JoinsHeads history (joining_order history agent)
unfolding joining_order
joins_heads history agent laid =
    let sorted = sort_by id_cmp (heads history) in
    let own = find (knows_agent history agent) sorted in
    let from : (x : Id) → own ≡ Some x → Among x sorted = λ x e. (found_there (knows_agent history agent) sorted x e).0 in
    record {
      there = λ x m. front_there own sorted x (among_sort id_total (heads history) x m);
      back = λ x m. sort_among id_total (heads history) x (front_back own sorted from x m);
      apart = front_apart own sorted (sorted_heads history laid);
      long = front_long own sorted from (sorted_heads history laid) ∙ length-sort id_cmp (heads history);
    }

-- where a head holds the agent's last event, one such head is the first
pub own_first : (history : List Event) (agent : List ℕ) (x : Id) → Among x (heads history) → knows_agent history agent x ≡ true
    → (y : Id) × (more : List Id) × (joining_order history agent ≡ y ∷ more) × (knows_agent history agent y ≡ true)
unfolding joining_order
own_first history agent x m passes =
    let sorted = sort_by id_cmp (heads history) in
    let found = one_found (knows_agent history agent) sorted x (among_sort id_total (heads history) x m) passes in
    (found.0, filter (other_than found.0) sorted, ap (λ o. with_front o sorted) found.1, found.2)
