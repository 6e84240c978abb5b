-- Counts by agent.
use Rattle.std.proofs.Common.{◌≡◌, ◌∙◌, ℕ, zero, suc, Bool, true, false, ◌||◌, List, [], ◌∷◌, ◌++◌, take, filter, slice_get, Some, None, refl, sym, ap, nat_lt, nat_le, cond, arith, append-nil}
use Rattle.std.specs.List.{list_any, AllByRecursion, IsDistinct}
use Rattle.std.specs.Map.{keys_of}
use Rattle.std.proofs.lemmas.Bool.{false≢true, false_from_ne_true, true_from_ne_false, leb-true, leb-false, ltb-true, ltb-false}
use Rattle.indexmap.specs.IndexMap.{insert_entry}
use Rattle.ew_model.specs.declared.id.Id.{Id}
use Rattle.ew_model.specs.declared.event.Event.{Event}
use Rattle.ew_model.specs.Ancestors.{ids_of}
use Rattle.ew_model.specs.Ids.{name_eq}
use Rattle.ew_model.proofs.ListParts.{take_next}
use Rattle.agent_ids.proofs.Agents.{names_alike}
use Rattle.history_definitions.specs.Missing.{count_in, missing}

-- what differs from all keys differs from that at a place
apart_at : {X : Type 0} (es : List (List ℕ × X)) (place : ℕ) (e : List ℕ × X) (k : List ℕ) → AllByRecursion (λ y. name_eq k y ≡ false) (keys_of es) → slice_get es place ≡ Some e → name_eq k e.0 ≡ false
apart_at [] place e k all at = absurd (none_is_some at)
  where
    none_is_some : {A : Type 0} {x : A} → None ≡ Some x → ⊥
    none_is_some h = cc
apart_at (f ∷ es) zero e k all at =
    ap (λ (g : List ℕ × _). name_eq k g.0) (sym (some_same at)) ∙ all.0
  where
    some_same : {A : Type 0} {x y : A} → Some x ≡ Some y → x ≡ y
    some_same h = cc
apart_at (f ∷ es) (suc place) e k all at = apart_at es place e k all.1 at

-- no key before a place is that of the place
pub new_key : {X : Type 0} (es : List (List ℕ × X)) (place : ℕ) (e : List ℕ × X) → IsDistinct name_eq (keys_of es) → slice_get es place ≡ Some e → list_any (name_eq e.0) (keys_of (take place es)) ≡ false
unfolding IsDistinct
new_key [] zero e d at = refl
new_key [] (suc place) e d at = refl
new_key (f ∷ es) zero e d at = refl
new_key (f ∷ es) (suc place) e d at =
    let apart : name_eq e.0 f.0 ≡ false = sym (names_alike.symm f.0 e.0) ∙ apart_at es place e f.0 d.0 at in
    ap (λ b. b || list_any (name_eq e.0) (keys_of (take place es))) apart ∙ new_key es place e d.1 at

-- a count more, of the next agent
insert_new : {X : Type 0} (eq : List ℕ → List ℕ → Bool) (es : List (List ℕ × X)) (k : List ℕ) (v : X) → list_any (eq k) (keys_of es) ≡ false → insert_entry eq es k v ≡ es ++ (k, v) ∷ []
insert_new eq [] k v new = refl
insert_new eq (e ∷ es) k v new = by (eq k e.0) refl new (λ none. insert_new eq es k v none)
  where
    by : (b : Bool) → eq k e.0 ≡ b → (eq k e.0 || list_any (eq k) (keys_of es)) ≡ false → (list_any (eq k) (keys_of es) ≡ false → insert_entry eq es k v ≡ es ++ (k, v) ∷ [])
        → insert_entry eq (e ∷ es) k v ≡ e ∷ (es ++ (k, v) ∷ [])
    by true same none rest = absurd (false≢true (sym none ∙ ap (λ c. c || list_any (eq k) (keys_of es)) same))
    by false other none rest =
        ap (λ c. cond c ((e.0, v) ∷ es) (e ∷ insert_entry eq es k v)) other
        ∙ ap (λ fs. e ∷ fs) (rest (sym (ap (λ c. c || list_any (eq k) (keys_of es)) other) ∙ none))

pub added : {X : Type 0} (es : List (List ℕ × X)) (place : ℕ) (e : List ℕ × X) → IsDistinct name_eq (keys_of es) → slice_get es place ≡ Some e
    → insert_entry name_eq (take place es) e.0 e.1 ≡ take (suc place) es
added es place e distinct at = insert_new name_eq (take place es) e.0 e.1 (new_key es place e distinct at) ∙ sym (take_next es place e at)

filter_more : {A : Type 0} (p : A → Bool) (xs : List A) (x : A) → filter p (xs ++ x ∷ []) ≡ filter p xs ++ cond (p x) (x ∷ []) []
filter_more p [] x = refl
filter_more p (y ∷ xs) x = by (p y) (filter_more p xs x)
  where
    by : (b : Bool) → filter p (xs ++ x ∷ []) ≡ filter p xs ++ cond (p x) (x ∷ []) [] → cond b (y ∷ filter p (xs ++ x ∷ [])) (filter p (xs ++ x ∷ [])) ≡ cond b (y ∷ filter p xs) (filter p xs) ++ cond (p x) (x ∷ []) []
    by true e = ap (λ zs. y ∷ zs) e
    by false e = e

-- the events before the next place that counts leave out
missing_more : (history : List Event) (counts : List (List ℕ × ℕ)) (place : ℕ) (e : Event) → slice_get history place ≡ Some e
    → missing (take (suc place) history) counts ≡ missing (take place history) counts ++ cond (nat_le (count_in counts e.id.agent) e.id.seq) (e ∷ []) []
missing_more history counts place e at = ap (λ es. missing es counts) (take_next history place e at) ∙ filter_more (λ (f : Event). nat_le (count_in counts f.id.agent) f.id.seq) (take place history) e

-- the event whose id stands at a place
pub event_there : (history : List Event) (place : ℕ) (x : Id) → slice_get (ids_of history) place ≡ Some x → (e : Event) × (slice_get history place ≡ Some e) × (e.id ≡ x)
event_there [] place x at = absurd (none_is_some at)
  where
    none_is_some : {A : Type 0} {y : A} → None ≡ Some y → ⊥
    none_is_some h = cc
event_there (e ∷ history) zero x at = (e, refl, some_same at)
  where
    some_same : {A : Type 0} {u v : A} → Some u ≡ Some v → u ≡ v
    some_same h = cc
event_there (e ∷ history) (suc place) x at = event_there history place x at

pub missing_none : (history : List Event) (counts : List (List ℕ × ℕ)) (place : ℕ) (x : Id) → slice_get (ids_of history) place ≡ Some x → nat_lt x.seq (count_in counts x.agent) ≡ true
    → missing (take (suc place) history) counts ≡ missing (take place history) counts
missing_none history counts place x at counted =
    let e = event_there history place x at in
    let not : nat_le (count_in counts x.agent) x.seq ≡ false = false_from_ne_true (nat_le (count_in counts x.agent) x.seq) (λ le. omega (arith, leb-true (count_in counts x.agent) x.seq le, ltb-true x.seq (count_in counts x.agent) counted)) in
    missing_more history counts place e.0 e.1 ∙ ap (λ (y : Id). missing (take place history) counts ++ cond (nat_le (count_in counts y.agent) y.seq) (e.0 ∷ []) []) e.2
    ∙ ap (λ b. missing (take place history) counts ++ cond b (e.0 ∷ []) []) not ∙ append-nil (missing (take place history) counts)

pub missing_one : (history : List Event) (counts : List (List ℕ × ℕ)) (place : ℕ) (x : Id) (f : Event) → slice_get (ids_of history) place ≡ Some x → slice_get history place ≡ Some f → nat_lt x.seq (count_in counts x.agent) ≡ false
    → missing (take (suc place) history) counts ≡ missing (take place history) counts ++ f ∷ []
missing_one history counts place x f at here left =
    let e = event_there history place x at in
    let same : f.id ≡ x = ap (λ (g : Event). g.id) (some_same (sym here ∙ e.1)) ∙ e.2 in
    let is : nat_le (count_in counts x.agent) x.seq ≡ true = true_from_ne_false (nat_le (count_in counts x.agent) x.seq) (λ no. omega (arith, leb-false (count_in counts x.agent) x.seq no, ltb-false x.seq (count_in counts x.agent) left)) in
    missing_more history counts place f here ∙ ap (λ (y : Id). missing (take place history) counts ++ cond (nat_le (count_in counts y.agent) y.seq) (f ∷ []) []) same
    ∙ ap (λ b. missing (take place history) counts ++ cond b (f ∷ []) []) is
  where
    some_same : {A : Type 0} {u v : A} → Some u ≡ Some v → u ≡ v
    some_same h = cc
