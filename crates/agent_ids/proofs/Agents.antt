-- Agents of a list of ids with one more, and their counts.
use Rattle.std.proofs.Common.{◌≡◌, ℕ, suc, ◌+◌, ◌≤◌, Bool, true, false, cond, ◌||◌, List, [], ◌∷◌, ◌++◌, length, nat_eq, fold, refl, sym, ap, ◌∙◌, subst, arith}
use Rattle.std.specs.List.{list_any}
use Rattle.std.specs.Ordering.{nat_cmp, is_eq}
use Rattle.std.specs.Cmp.{IsEquivalence, tied_itself}
use Rattle.std.specs.Cmp.Lexicographic.{pointwise, slice_cmp, same_text}
use Rattle.std.proofs.lemmas.Cmp.{nat_list_cmp_total, nat_list_eq_equiv}
use Rattle.std.proofs.lemmas.Map.Lookups.{exact_bytes}
use Rattle.std.proofs.lemmas.List.Sums.{fold_push, sum_by-cons, sum_by_push}
use Rattle.ew_model.specs.declared.id.Id.{Id}
use Rattle.ew_model.specs.Ids.{name_eq}
use Rattle.ew_model.proofs.GapLaws.{eq_from}
use Rattle.ew_model.proofs.ListTests.{same_truth}
use Rattle.history_definitions.specs.Agents.{with_name, agents_of, count_of}

-- The definitions' test of names is the one by which names are keys.
pub same_name : (a b : List ℕ) → name_eq a b ≡ pointwise nat_eq a b
same_name a b =
    same_truth (name_eq a b) (pointwise nat_eq a b)
    (λ e. let one : a ≡ b = exact_bytes a b (eq_from (slice_cmp nat_cmp a b) e) in subst (λ x. pointwise nat_eq a x ≡ true) one (nat_list_eq_equiv.refl a))
    (λ e. let one : a ≡ b = same_text a b (sym e) in subst (λ x. name_eq a x ≡ true) one (ap is_eq (tied_itself nat_list_cmp_total a)))

pub names_tested : name_eq ≡ pointwise nat_eq
names_tested = λ i a b. same_name a b i

pub names_alike : IsEquivalence name_eq
names_alike = subst (λ (same : List ℕ → List ℕ → Bool). IsEquivalence same) (sym names_tested) nat_list_eq_equiv

pub one_name : (a b : List ℕ) → name_eq a b ≡ true → a ≡ b
one_name a b e = same_text a b (sym (sym (same_name a b) ∙ e))

-- one more id
pub agents_push : (ids : List Id) (x : Id) → agents_of (ids ++ x ∷ []) ≡ with_name (agents_of ids) x.agent
agents_push ids x = fold_push (λ (names : List (List ℕ)) (y : Id). with_name names y.agent) [] ids x

pub count_push : (ids : List Id) (x : Id) (agent : List ℕ) → count_of (ids ++ x ∷ []) agent ≡ count_of ids agent + cond (name_eq x.agent agent) 1 0
count_push ids x agent = sum_by_push (λ (y : Id). cond (name_eq y.agent agent) 1 0) ids x

pub count_cons : (x : Id) (ids : List Id) (agent : List ℕ) → count_of (x ∷ ids) agent ≡ cond (name_eq x.agent agent) 1 0 + count_of ids agent
count_cons x ids agent = sum_by-cons (λ (y : Id). cond (name_eq y.agent agent) 1 0) x ids

-- There are no more agents than ids.
name_few : (b : Bool) (names : List (List ℕ)) (name : List ℕ) → length (cond b names (names ++ name ∷ [])) ≤ suc (length names)
name_few true names name = omega arith
name_few false names name = at names
  where
    at : (xs : List (List ℕ)) → length (xs ++ name ∷ []) ≤ suc (length xs)
    at [] = omega arith
    at (x ∷ xs) = let more : length (xs ++ name ∷ []) ≤ suc (length xs) = at xs in omega (arith, more)

agents_from_few : (names : List (List ℕ)) (ids : List Id) → length (fold (λ ns (x : Id). with_name ns x.agent) names ids) ≤ length names + length ids
agents_from_few names [] = omega arith
agents_from_few names (x ∷ ids) =
    let first = name_few (list_any (name_eq x.agent) names) names x.agent in
    let rest = agents_from_few (with_name names x.agent) ids in
    omega (arith, first, rest)

pub agents_few : (ids : List Id) → length (agents_of ids) ≤ length ids
agents_few ids = let few = agents_from_few [] ids in omega (arith, few)

-- A name is an agent exactly where an id has it.
any-append : {X : Type 0} (p : X → Bool) (xs : List X) (y : X) → list_any p (xs ++ y ∷ []) ≡ (list_any p xs || p y)
any-append p [] y = at (p y)
  where
    at : (b : Bool) → (b || false) ≡ b
    at true = refl
    at false = refl
any-append p (x ∷ xs) y = at (p x) (any-append p xs y)
  where
    at : (b : Bool) → list_any p (xs ++ y ∷ []) ≡ (list_any p xs || p y) → (b || list_any p (xs ++ y ∷ [])) ≡ ((b || list_any p xs) || p y)
    at true e = refl
    at false e = e

named-with : (names : List (List ℕ)) (name a : List ℕ) → list_any (name_eq a) (with_name names name) ≡ (list_any (name_eq a) names || name_eq name a)
named-with names name a = at (list_any (name_eq name) names) refl (name_eq name a) refl
  where
    at : (b : Bool) → list_any (name_eq name) names ≡ b → (c : Bool) → name_eq name a ≡ c → list_any (name_eq a) (cond b names (names ++ name ∷ [])) ≡ (list_any (name_eq a) names || name_eq name a)
    at true h true k =
        let there : list_any (name_eq a) names ≡ true = ap (λ x. list_any (name_eq x) names) (sym (one_name name a k)) ∙ h in
        there ∙ sym (ap (λ t. t || name_eq name a) there)
    at true h false k = last (list_any (name_eq a) names) ∙ ap (λ t. list_any (name_eq a) names || t) (sym k)
      where
        last : (b : Bool) → b ≡ (b || false)
        last true = refl
        last false = refl
    at false h c k = any-append (name_eq a) names name ∙ ap (λ t. list_any (name_eq a) names || t) (names_alike.symm a name)

named-from : (names : List (List ℕ)) (ids : List Id) (a : List ℕ)
    → list_any (name_eq a) (fold (λ ns (x : Id). with_name ns x.agent) names ids) ≡ (list_any (name_eq a) names || list_any (λ (x : Id). name_eq x.agent a) ids)
named-from names [] a = at (list_any (name_eq a) names)
  where
    at : (b : Bool) → b ≡ (b || false)
    at true = refl
    at false = refl
named-from names (x ∷ ids) a =
    named-from (with_name names x.agent) ids a
    ∙ ap (λ b. b || list_any (λ (y : Id). name_eq y.agent a) ids) (named-with names x.agent a)
    ∙ at (list_any (name_eq a) names) (name_eq x.agent a) (list_any (λ (y : Id). name_eq y.agent a) ids)
  where
    at : (b c d : Bool) → ((b || c) || d) ≡ (b || (c || d))
    at true c d = refl
    at false c d = refl

pub is_agent : (ids : List Id) (a : List ℕ) → list_any (name_eq a) (agents_of ids) ≡ list_any (λ (x : Id). name_eq x.agent a) ids
is_agent ids a = named-from [] ids a

-- Each name is there once.
abbrev pub AreDistinct : List (List ℕ) → Type 0
AreDistinct [] = Unit {0}
AreDistinct (a ∷ names) = (list_any (name_eq a) names ≡ false) × AreDistinct names

distinct_more : (names : List (List ℕ)) (name : List ℕ) → AreDistinct names → list_any (name_eq name) names ≡ false → AreDistinct (names ++ name ∷ [])
distinct_more [] name d h = (refl, tt)
distinct_more (a ∷ names) name d h =
    let parts = both (name_eq name a) (list_any (name_eq name) names) h in (
      any-append (name_eq a) names name ∙ ap (λ b. b || name_eq a name) d.0 ∙ names_alike.symm a name ∙ parts.0,
      distinct_more names name d.1 parts.1,
    )
  where
    both : (b c : Bool) → (b || c) ≡ false → (b ≡ false) × (c ≡ false)
    both true c h = let no : ⊥ = cc in absurd no
    both false c h = (refl, h)

distinct_with : (names : List (List ℕ)) (name : List ℕ) → AreDistinct names → AreDistinct (with_name names name)
distinct_with names name d = at (list_any (name_eq name) names) refl
  where
    at : (b : Bool) → list_any (name_eq name) names ≡ b → AreDistinct (cond b names (names ++ name ∷ []))
    at true h = d
    at false h = distinct_more names name d h

distinct_from : (names : List (List ℕ)) (ids : List Id) → AreDistinct names → AreDistinct (fold (λ ns (x : Id). with_name ns x.agent) names ids)
distinct_from names [] d = d
distinct_from names (x ∷ ids) d = distinct_from (with_name names x.agent) ids (distinct_with names x.agent d)

pub agents_distinct : (ids : List Id) → AreDistinct (agents_of ids)
agents_distinct ids = distinct_from [] ids tt
