-- Ids told by counts of their agents' numbers and by ranges: how they are found, and how more are added.
use Rattle.std.proofs.Common.{◌≡◌, ◌↔◌, ℕ, zero, suc, ◌+◌, ◌<◌, ◌≤◌, Bool, true, false, cond, ◌⊎◌, inl, inr, List, [], ◌∷◌, ◌++◌, length, take, get_or, replicate, set, Option, Some, None, refl, sym, ap, ◌∙◌, subst, arith, ltb-true, ltb-false}
use Rattle.std.specs.Prelude.{nat_lt, slice_get, IsTrue, IsSome}
use Rattle.std.specs.List.{list_any}
use Rattle.std.specs.Ordering.{nat_cmp, ordering_then, is_eq, is_gt, is_lt}
use Rattle.std.specs.declared.cmp.Ordering.{Ordering}
use Rattle.std.specs.declared.cmp.Ordering.TheVariants.{Less, Equal, Greater}
use Rattle.std.specs.Cmp.Lexicographic.{slice_cmp}
use Rattle.std.specs.BTreeMap.{BTreeMap, get, is_at}
use Rattle.std.specs.Map.{lookup}
use Rattle.std.specs.BTreeMap.Range.{IsRangeOf}
use Rattle.std.specs.declared.ops.Bound.TheVariants.{Included, Unbounded}
use Rattle.std.proofs.lemmas.Bool.{cases_Bool, cond-true, cond-false, or_parts}
use Rattle.std.proofs.lemmas.Map.Keys.{le_from_not_gt, ge_from_not_lt}
use Rattle.ew_model.specs.declared.id.Id.{Id}
use Rattle.ew_model.specs.Ids.{name_eq, id_cmp, id_eq}
use Rattle.ew_model.specs.Distinct.{AreDistinct}
use Rattle.ew_model.proofs.ListPlaces.{some_is, none_is_some, none_in_front}
use Rattle.ew_model.proofs.IdLaws.{names_equal, name_exact}
use Rattle.file_words.proofs.FileRecords.{id_eq_exact}
use Rattle.ew_model.proofs.TextLaws.{ids_equal}
use Rattle.event_file.specs.SeenIds.{count_for, IsInRange, IsCovered, AreParted, IsSeen, HasOneOf}
use Rattle.ew_model.proofs.ListTests.{le_not_gt}

-- no number is below 0
none_counted : (agents : List (List ℕ)) (n : ℕ) (name : List ℕ) → count_for agents (replicate n 0) name ≡ 0
none_counted [] n name = refl
none_counted (a ∷ agents) zero name = refl
none_counted (a ∷ agents) (suc n) name =
    elim (cases_Bool (name_eq name a)) [
      | inl t ↦ cond-true (name_eq name a) 0 (count_for agents (replicate n 0) name) t
      | inr f ↦ cond-false (name_eq name a) 0 (count_for agents (replicate n 0) name) f ∙ none_counted agents n name
    ]

-- none is seen before the first
pub none_seen : (agents : List (List ℕ)) (n : ℕ) (table : Id → Option ℕ) → ((x : Id) → table x ≡ None) → (x : Id) → IsSeen agents (replicate n 0) table x → ⊥
none_seen agents n table none x (inl lt) = let count = none_counted agents n x.agent in absurd (omega (arith, lt, count))
none_seen agents n table none x (inr c) = let has = c.has in let no = none c.first in absurd cc

-- the count of the first agent with this name
count_at : (agents : List (List ℕ)) (counts : List ℕ) (place : ℕ) (name : List ℕ) → list_any (name_eq name) (take place agents) ≡ false → slice_get agents place ≡ Some name → place < length counts → (d : ℕ) → count_for agents counts name ≡ get_or counts place d
count_at [] counts place name none at lt d = none_is_some name at
count_at (a ∷ agents) [] place name none at lt d = absurd (omega (arith, lt))
count_at (a ∷ agents) (n ∷ counts) zero name none at lt d =
    cond-true (name_eq name a) n (count_for agents counts name) (ap (name_eq name) (some_is a name at) ∙ names_equal.refl name)
count_at (a ∷ agents) (n ∷ counts) (suc place) name none at lt d =
    let p = or_parts (name_eq name a) (list_any (name_eq name) (take place agents)) none in
    cond-false (name_eq name a) n (count_for agents counts name) p.0 ∙ count_at agents counts place name p.1 at (omega (arith, lt)) d

-- with another number there the others have theirs
count_set : (agents : List (List ℕ)) (counts : List ℕ) (place new : ℕ) (name other : List ℕ) → list_any (name_eq name) (take place agents) ≡ false → slice_get agents place ≡ Some name → place < length counts
    → count_for agents (set counts place new) other ≡ cond (name_eq other name) new (count_for agents counts other)
count_set [] counts place new name other none at lt = none_is_some name at
count_set (a ∷ agents) [] place new name other none at lt = absurd (omega (arith, lt))
count_set (a ∷ agents) (n ∷ counts) zero new name other none at lt =
    let same : a ≡ name = some_is a name at in
    elim (cases_Bool (name_eq other name)) [
      | inl t ↦ ap (λ x. cond (name_eq other x) new (count_for agents counts other)) same ∙ cond-true (name_eq other name) new (count_for agents counts other) t ∙ sym (cond-true (name_eq other name) new (count_for (a ∷ agents) (n ∷ counts) other) t)
      | inr f ↦
          let unlike : name_eq other a ≡ false = ap (name_eq other) same ∙ f in
          cond-false (name_eq other a) new (count_for agents counts other) unlike ∙ sym (cond-false (name_eq other a) n (count_for agents counts other) unlike) ∙ sym (cond-false (name_eq other name) new (count_for (a ∷ agents) (n ∷ counts) other) f)
    ]
count_set (a ∷ agents) (n ∷ counts) (suc place) new name other none at lt =
    let p = or_parts (name_eq name a) (list_any (name_eq name) (take place agents)) none in
    let later = count_set agents counts place new name other p.1 at (omega (arith, lt)) in
    elim (cases_Bool (name_eq other a)) [
      | inl t ↦
          let unlike : name_eq other name ≡ false = ap (λ x. name_eq x name) (name_exact other a t) ∙ names_equal.symm a name ∙ p.0 in
          cond-true (name_eq other a) n (count_for agents (set counts place new) other) t ∙ sym (cond-true (name_eq other a) n (count_for agents counts other) t) ∙ sym (cond-false (name_eq other name) new (count_for (a ∷ agents) (n ∷ counts) other) unlike)
      | inr f ↦
          cond-false (name_eq other a) n (count_for agents (set counts place new) other) f ∙ later ∙ ap (cond (name_eq other name) new) (sym (cond-false (name_eq other a) n (count_for agents counts other) f))
    ]

first_at : (agents : List (List ℕ)) (place : ℕ) (name : List ℕ) → AreDistinct name_eq agents → slice_get agents place ≡ Some name → list_any (name_eq name) (take place agents) ≡ false
first_at agents place name distinct at = none_in_front name_eq names_equal name_exact [] agents place name distinct at

pub place_within : (agents : List (List ℕ)) (place : ℕ) (name : List ℕ) → slice_get agents place ≡ Some name → place < length agents
place_within [] place name at = none_is_some name at
place_within (a ∷ agents) zero name at = omega arith
place_within (a ∷ agents) (suc place) name at = let less = place_within agents place name at in omega (arith, less)

-- an id is seen by the place of its agent
pub seen_at : (agents : List (List ℕ)) (counts : List ℕ) (table : Id → Option ℕ) (place : ℕ) (x : Id) → AreDistinct name_eq agents → slice_get agents place ≡ Some x.agent → place < length counts
    → (d : ℕ) → count_for agents counts x.agent ≡ get_or counts place d
seen_at agents counts table place x distinct at lt d = count_at agents counts place x.agent (first_at agents place x.agent distinct at) at lt d

-- ids from the next number of an agent on are added by its count
pub added_next : (agents : List (List ℕ)) (counts : List ℕ) (table : Id → Option ℕ) (place : ℕ) (first : Id) (more n new : ℕ) → AreDistinct name_eq agents → slice_get agents place ≡ Some first.agent → place < length counts → n ≡ get_or counts place n → first.seq ≡ n → new ≡ n + suc more
    → (x : Id) → IsSeen agents (set counts place new) table x ↔ (IsSeen agents counts table x ⊎ IsInRange first more x)
added_next agents counts table place first more n new distinct at lt here next is x = (to, from)
  where
    grown : count_for agents (set counts place new) x.agent ≡ cond (name_eq x.agent first.agent) new (count_for agents counts x.agent)
    grown = count_set agents counts place new first.agent x.agent (first_at agents place first.agent distinct at) at lt

    before : x.agent ≡ first.agent → count_for agents counts x.agent ≡ n
    before same = ap (count_for agents counts) same ∙ count_at agents counts place first.agent (first_at agents place first.agent distinct at) at lt n ∙ sym here

    to : IsSeen agents (set counts place new) table x → IsSeen agents counts table x ⊎ IsInRange first more x
    to (inr c) = inl (inr c)
    to (inl less) =
        elim (cases_Bool (name_eq x.agent first.agent)) [
          | inl t ↦
              let same = name_exact x.agent first.agent t in
              let count = grown ∙ cond-true (name_eq x.agent first.agent) new (count_for agents counts x.agent) t in
              let old = before same in
              elim (cases_Bool (nat_lt x.seq n)) [
                | inl below ↦ (let small = ltb-true x.seq n below in inl (inl (omega (arith, small, old))))
                | inr above ↦ (let great = ltb-false x.seq n above in inr (record { agent = same; from = omega (arith, great, next); to = omega (arith, less, count, next, is) }))
              ]
          | inr f ↦ (let count = grown ∙ cond-false (name_eq x.agent first.agent) new (count_for agents counts x.agent) f in inl (inl (omega (arith, less, count))))
        ]

    from : IsSeen agents counts table x ⊎ IsInRange first more x → IsSeen agents (set counts place new) table x
    from (inl (inr c)) = inr c
    from (inl (inl less)) =
        elim (cases_Bool (name_eq x.agent first.agent)) [
          | inl t ↦
              let old = before (name_exact x.agent first.agent t) in
              let count = grown ∙ cond-true (name_eq x.agent first.agent) new (count_for agents counts x.agent) t in
              inl (omega (arith, less, old, count, is))
          | inr f ↦ (let count = grown ∙ cond-false (name_eq x.agent first.agent) new (count_for agents counts x.agent) f in inl (omega (arith, less, count)))
        ]
    from (inr r) =
        let same = r.agent in
        let t = ap (λ a. name_eq a first.agent) same ∙ names_equal.refl first.agent in
        let count = grown ∙ cond-true (name_eq x.agent first.agent) new (count_for agents counts x.agent) t in
        let high = r.to in
        inl (omega (arith, count, high, next, is))

-- where its agent's count tells the number of an id, and no id is a further one, the id isn't seen
pub next_unseen : (agents : List (List ℕ)) (counts : List ℕ) (table : Id → Option ℕ) (place : ℕ) (x : Id) → AreDistinct name_eq agents → slice_get agents place ≡ Some x.agent → place < length counts → x.seq ≡ get_or counts place x.seq → ((y : Id) → table y ≡ None)
    → IsSeen agents counts table x → ⊥
next_unseen agents counts table place x distinct at lt here none (inl less) = let count = seen_at agents counts table place x distinct at lt x.seq in absurd (omega (arith, less, count, here))
next_unseen agents counts table place x distinct at lt here none (inr c) = let has = c.has in let no = none c.first in absurd cc

pub none_further : (ranges : BTreeMap Id ℕ) (x : Id) → length ranges.entries ≡ 0 → get id_cmp ranges x ≡ None
none_further ranges x none = among ranges.entries none
  where
    among : (entries : List (Id × ℕ)) → length entries ≡ 0 → lookup (is_at (id_cmp x)) entries ≡ None
    among [] e = refl
    among (y ∷ entries) e = absurd cc

-- ---- ranges

pub parted_same : (table new : Id → Option ℕ) → ((x : Id) → new x ≡ table x) → AreParted table → AreParted new
parted_same table new same parted x y m n at_x at_y agent less = parted x y m n (sym (same x) ∙ at_x) (sym (same y) ∙ at_y) agent less

pub parted_none : (table : Id → Option ℕ) → ((x : Id) → table x ≡ None) → AreParted table
parted_none table none x y m n at_x at_y agent less = absurd (let no = none x in cc)

alone : (x : Id) (more : ℕ) → IsInRange x more x
alone x more = record { agent = refl; from = omega arith; to = omega arith }

-- a further range, of ids that aren't covered yet
module _ (table new : Id → Option ℕ) (first : Id) (more : ℕ) (up : (x : Id) → new x ≡ cond (id_eq first x) (Some more) (table x)) (fresh : (x : Id) → IsInRange first more x → IsCovered table x → ⊥) where
  here : (x : Id) → id_eq first x ≡ true → new x ≡ Some more
  here x t = up x ∙ cond-true (id_eq first x) (Some more) (table x) t

  there : (x : Id) → id_eq first x ≡ false → new x ≡ table x
  there x f = up x ∙ cond-false (id_eq first x) (Some more) (table x) f

  same_more : (m n : ℕ) → Some m ≡ Some n → m ≡ n
  same_more m n e = cc

  pub covered_more : (x : Id) → IsCovered new x ↔ (IsCovered table x ⊎ IsInRange first more x)
  covered_more x = (to, from)
    where
      to : IsCovered new x → IsCovered table x ⊎ IsInRange first more x
      to c =
          elim (cases_Bool (id_eq first c.first)) [
            | inl t ↦
                let same = id_eq_exact first c.first t in
                let much = same_more more c.more (sym (here c.first t) ∙ c.has) in
                let within = subst (λ m. IsInRange c.first m x) (sym much) c.within in
                inr (subst (λ y. IsInRange y more x) (sym same) within)
            | inr f ↦ inl (record { first = c.first; more = c.more; has = sym (there c.first f) ∙ c.has; within = c.within })
          ]

      from : IsCovered table x ⊎ IsInRange first more x → IsCovered new x
      from (inl c) =
          elim (cases_Bool (id_eq first c.first)) [
            | inl t ↦
                let same = id_eq_exact first c.first t in
                absurd (fresh first (alone first more) (record { first = c.first; more = c.more; has = c.has; within = subst (λ y. IsInRange c.first c.more y) (sym same) (alone c.first c.more) }))
            | inr f ↦ record { first = c.first; more = c.more; has = there c.first f ∙ c.has; within = c.within }
          ]
      from (inr r) = record { first = first; more = more; has = here first (ids_equal.refl first); within = r }

  pub parted_more : AreParted table → AreParted new
  parted_more parted x y m n at_x at_y agent less =
      elim (cases_Bool (id_eq first x)) [
        | inl t ↦
            let same = id_eq_exact first x t in
            let much = same_more more m (sym (here x t) ∙ at_x) in
            let seq = ap (λ (z : Id). z.seq) same in
            elim (cases_Bool (id_eq first y)) [
              | inl u ↦ (let other = ap (λ (z : Id). z.seq) (id_eq_exact first y u) in absurd (omega (arith, less, seq, other)))
              | inr f ↦ before_old y n (sym (there y f) ∙ at_y) (sym agent ∙ sym (ap (λ (z : Id). z.agent) same)) (omega (arith, less, seq)) m (omega (arith, much, seq))
            ]
        | inr f ↦
            elim (cases_Bool (id_eq first y)) [
              | inl u ↦
                  let same = id_eq_exact first y u in
                  let seq = ap (λ (z : Id). z.seq) same in
                  behind_old m (sym (there x f) ∙ at_x) (agent ∙ sym (ap (λ (z : Id). z.agent) same)) (omega (arith, less, seq)) (omega arith) seq
              | inr g ↦ parted x y m n (sym (there x f) ∙ at_x) (sym (there y g) ∙ at_y) agent less
            ]
      ]
    where
      before_old : (z : Id) (k : ℕ) → table z ≡ Some k → z.agent ≡ first.agent → first.seq < z.seq → (j : ℕ) → x.seq + j ≡ first.seq + more → x.seq + j < z.seq
      before_old z k has same low j is =
          elim (cases_Bool (nat_lt (first.seq + more) z.seq)) [
            | inl t ↦ (let far = ltb-true (first.seq + more) z.seq t in omega (arith, far, is))
            | inr f ↦ (let near = ltb-false (first.seq + more) z.seq f in absurd (fresh z (record { agent = same; from = omega (arith, low); to = near }) (record { first = z; more = k; has = has; within = alone z k })))
          ]

      behind_old : (k : ℕ) → table x ≡ Some k → x.agent ≡ first.agent → x.seq < first.seq → 0 ≤ k → first.seq ≡ y.seq → x.seq + k < y.seq
      behind_old k has same low any is =
          elim (cases_Bool (nat_lt (x.seq + k) first.seq)) [
            | inl t ↦ (let far = ltb-true (x.seq + k) first.seq t in omega (arith, far, is))
            | inr f ↦ (let near = ltb-false (x.seq + k) first.seq f in absurd (fresh first (alone first more) (record { first = x; more = k; has = has; within = record { agent = sym same; from = omega (arith, low); to = near } })))
          ]

-- the same of all that is seen
pub added_range : (agents : List (List ℕ)) (counts : List ℕ) (table new : Id → Option ℕ) (first : Id) (more : ℕ) → ((x : Id) → new x ≡ cond (id_eq first x) (Some more) (table x)) → ((x : Id) → IsInRange first more x → IsCovered table x → ⊥)
    → (x : Id) → IsSeen agents counts new x ↔ (IsSeen agents counts table x ⊎ IsInRange first more x)
added_range agents counts table new first more up fresh x = (to, from)
  where
    either : IsCovered table x ⊎ IsInRange first more x → IsSeen agents counts table x ⊎ IsInRange first more x
    either (inl c) = inl (inr c)
    either (inr r) = inr r

    to : IsSeen agents counts new x → IsSeen agents counts table x ⊎ IsInRange first more x
    to (inl less) = inl (inl less)
    to (inr c) = either ((covered_more table new first more up fresh x).0 c)

    from : IsSeen agents counts table x ⊎ IsInRange first more x → IsSeen agents counts new x
    from (inl (inl less)) = inl less
    from (inl (inr c)) = inr ((covered_more table new first more up fresh x).1 (inl c))
    from (inr r) = inr ((covered_more table new first more up fresh x).1 (inr r))

-- ---- a range that has one of some ids

-- no number is below a count that isn't above the first
pub by_count : (b : Bool) (count : ℕ) (table : Id → Option ℕ) (first : Id) (more : ℕ) → count ≤ first.seq → HasOneOf b 0 table first more → HasOneOf b count table first more
by_count true count table first more le s =
    elim s.2 [
      | inl less ↦ absurd (omega (arith, less))
      | inr c ↦ (s.0, s.1, inr c)
    ]
by_count false count table first more le none = λ x r s. none x r (only x r s)
  where
    only : (x : Id) → IsInRange first more x → (x.seq < count) ⊎ IsCovered table x → (x.seq < 0) ⊎ IsCovered table x
    only x r (inl less) = let low = r.from in absurd (omega (arith, less, low, le))
    only x r (inr c) = inr c

pub first_below : (count : ℕ) (table : Id → Option ℕ) (first : Id) (more : ℕ) → first.seq < count → HasOneOf true count table first more
first_below count table first more less = (first, alone first more, inl less)

not_gt_then : (p r : Ordering) → is_eq p ≡ true → is_gt r ≡ false → is_gt (ordering_then p r) ≡ false
not_gt_then Less r e f = refl
not_gt_then Equal r e f = f
not_gt_then Greater r e f = absurd cc

-- an id of the same agent with no higher number isn't above
not_above : (x y : Id) → x.agent ≡ y.agent → x.seq ≤ y.seq → is_gt (id_cmp x y) ≡ false
not_above x y same le = not_gt_then (slice_cmp nat_cmp x.agent y.agent) (nat_cmp x.seq y.seq) (ap (λ a. name_eq a y.agent) same ∙ names_equal.refl y.agent) (le_not_gt x.seq y.seq le)

not_gt_parts : (p : Ordering) (x y : ℕ) → is_eq p ≡ true → is_gt (ordering_then p (nat_cmp x y)) ≡ false → x ≤ y
not_gt_parts Less x y e f = absurd cc
not_gt_parts Equal x y e f = le_from_not_gt x y f
not_gt_parts Greater x y e f = absurd cc

not_above_seq : (x y : Id) → x.agent ≡ y.agent → is_gt (id_cmp x y) ≡ false → x.seq ≤ y.seq
not_above_seq x y same f = not_gt_parts (slice_cmp nat_cmp x.agent y.agent) x.seq y.seq (ap (λ a. name_eq a y.agent) same ∙ names_equal.refl y.agent) f

between_at : (p : Ordering) (x low high : ℕ) → is_gt (ordering_then p (nat_cmp x high)) ≡ false → is_lt (ordering_then p (nat_cmp x low)) ≡ false → (is_eq p ≡ true) × (low ≤ x)
between_at Less x low high f g = absurd cc
between_at Equal x low high f g = (refl, ge_from_not_lt x low g)
between_at Greater x low high f g = absurd cc

-- an id between two of one agent is of this agent
between : (x low high : Id) → low.agent ≡ high.agent → is_gt (id_cmp x high) ≡ false → is_lt (id_cmp x low) ≡ false → (x.agent ≡ low.agent) × (low.seq ≤ x.seq)
between x low high same f g =
    let p = between_at (slice_cmp nat_cmp x.agent high.agent) x.seq low.seq high.seq f (ap (λ a. is_lt (ordering_then (slice_cmp nat_cmp x.agent a) (nat_cmp x.seq low.seq))) (sym same) ∙ g) in
    (name_exact x.agent high.agent p.0 ∙ sym same, p.1)

abbrev pub Reaches : Id → ℕ → Id → Type 0
Reaches k n first = (k.agent ≡ first.agent) × (first.seq ≤ k.seq + n)

-- the last range that begins at one of the ids or before tells
pub last_tells : (ranges : BTreeMap Id ℕ) (first last k : Id) (more n : ℕ) (r rest : List (Id × ℕ)) (b : Bool) → last.agent ≡ first.agent → last.seq ≡ first.seq + more → IsRangeOf id_cmp Unbounded (Included last) ranges r → r ≡ rest ++ (k, n) ∷ []
    → AreParted (get id_cmp ranges) → (IsTrue b ↔ Reaches k n first) → HasOneOf b 0 (get id_cmp ranges) first more
last_tells ranges first last k more n r rest true agent seq range is parted tells =
    let t = tells.0 refl in
    let up = (range.3 (k, n) rest is).0.1 in
    let low = not_above_seq k last (t.0 ∙ sym agent) up in
    let has = (range.3 (k, n) rest is).1 in
    elim (cases_Bool (nat_lt k.seq first.seq)) [
      | inl below ↦ (let less = ltb-true k.seq first.seq below in (first, alone first more, inr (record { first = k; more = n; has = has; within = record { agent = sym t.0; from = omega (arith, less); to = t.1 } })))
      | inr above ↦ (let great = ltb-false k.seq first.seq above in (k, record { agent = t.0; from = great; to = omega (arith, low, seq) }, inr (record { first = k; more = n; has = has; within = alone k n })))
    ]
last_tells ranges first last k more n r rest false agent seq range is parted tells = λ x r s. none x r s
  where
    none : (x : Id) → IsInRange first more x → (x.seq < 0) ⊎ IsCovered (get id_cmp ranges) x → ⊥
    none x within (inl less) = absurd (omega (arith, less))
    none x within (inr c) =
        let y = c.first in
        let of_y : y.agent ≡ first.agent = sym c.within.agent ∙ within.agent in
        let y_low = c.within.from in
        let x_high = within.to in
        let x_low = within.from in
        let x_in = c.within.to in
        let some : IsSome (get id_cmp ranges y) = subst IsSome (sym c.has) refl in
        let not_less = range.4 (k, n) rest is y (tt, not_above y last (of_y ∙ sym agent) (omega (arith, y_low, x_high, seq))) some in
        let up = (range.3 (k, n) rest is).0.1 in
        let has = (range.3 (k, n) rest is).1 in
        let b = between k y last (of_y ∙ sym agent) up not_less in
        let great = b.1 in
        let no : true ≡ false = sym (tells.1 (
          b.0 ∙ of_y,
          (elim (cases_Bool (nat_lt y.seq k.seq)) [
            | inl t ↦ (let apart = parted y k c.more n c.has has (sym b.0) (ltb-true y.seq k.seq t) in omega (arith, apart, x_in, x_low))
            | inr f ↦
                let same : k.seq ≡ y.seq = (let least = ltb-false y.seq k.seq f in omega (arith, least, great)) in
                let one : k ≡ y = (λ i. record { agent = b.0 i; seq = same i }) in
                let much : n ≡ c.more = some_same n c.more (sym has ∙ ap (get id_cmp ranges) one ∙ c.has) in
                omega (arith, same, much, x_in, x_low)
          ]),
        )) in
        absurd (let n = no in cc)
      where
        some_same : (m n : ℕ) → Some m ≡ Some n → m ≡ n
        some_same m n e = cc

-- or there is none
pub none_tells : (ranges : BTreeMap Id ℕ) (first last : Id) (more : ℕ) (r : List (Id × ℕ)) → last.agent ≡ first.agent → last.seq ≡ first.seq + more → IsRangeOf id_cmp Unbounded (Included last) ranges r → r ≡ [] → HasOneOf false 0 (get id_cmp ranges) first more
none_tells ranges first last more r agent seq range is = λ x within s. none x within s
  where
    none : (x : Id) → IsInRange first more x → (x.seq < 0) ⊎ IsCovered (get id_cmp ranges) x → ⊥
    none x within (inl less) = absurd (omega (arith, less))
    none x within (inr c) =
        let y_low = c.within.from in
        let x_high = within.to in
        let gone = range.5 is c.first (tt, not_above c.first last (sym c.within.agent ∙ within.agent ∙ sym agent) (omega (arith, y_low, x_high, seq))) in
        let has = c.has in
        absurd cc
