-- A peer is changed: which peers are left as they were, and what stands where it was made still does.
use Rattle.std.proofs.Common.{◌≡◌, ℕ, zero, suc, true, false, ◌||◌, ◌⊎◌, inl, inr, List, [], ◌∷◌, map, set, if◌then◌else◌, Some, refl, sym, ap, subst, ◌∙◌}
use Rattle.std.specs.List.{find, list_any, position_or_len, slice_get}
use Rattle.std.proofs.lemmas.Bool.{cases_Bool, cond-true, cond-false, or_parts}
use Rattle.std.proofs.lemmas.List.Folds.{find_at}
use Rattle.ew_model.specs.declared.event.Event.{Event}
use Rattle.ew_model.specs.Ids.{name_eq}
use Rattle.ew_model.specs.Kept.{ReplicaState}
use Rattle.ew_model.specs.Sets.{Among}
use Rattle.ew_model.proofs.IdLaws.{name_exact, names_equal}
use Rattle.ew_model.proofs.OperationLaws.{got}
use Rattle.carets.specs.declared.caret.Caret.{Caret}
use Rattle.net_core.specs.Keeping.{AreNamedApart, IsHome}
use Rattle.peer_definitions.specs.Machine.{Peer, peer_among}

-- the peer changed, where it has the name
abbrev pub changed_in : List ℕ → (Peer → Peer) → Peer → Peer
changed_in name f p = if name_eq p.name name then f p else p

pub changed_here : (name : List ℕ) (f : Peer → Peer) (p : Peer) → name_eq p.name name ≡ true → changed_in name f p ≡ f p
changed_here name f p here = cond-true _ _ _ here

pub changed_elsewhere : (name : List ℕ) (f : Peer → Peer) (p : Peer) → name_eq p.name name ≡ false → changed_in name f p ≡ p
changed_elsewhere name f p other = cond-false _ _ _ other

-- a replica in place of a peer's own, and a caret
abbrev pub with_replica : ReplicaState → Peer → Peer
with_replica r p = record { name = p.name; replica = r; caret = p.caret }

abbrev pub with_caret : Caret → Peer → Peer
with_caret c p = record { name = p.name; replica = p.replica; caret = c }

-- the peer with the replica in place of its own, where it has the name
abbrev pub put_in : List ℕ → ReplicaState → Peer → Peer
put_in name r = changed_in name (with_replica r)

-- the peer of a name is one of all
pub peer_there : (peers : List Peer) (name : List ℕ) (p : Peer) → peer_among peers name ≡ Some p → Among p peers
peer_there peers name p found = got peers (position_or_len (λ (q : Peer). name_eq q.name name) peers) p (sym (find_at (λ (q : Peer). name_eq q.name name) peers) ∙ found)

-- of two peers with equal names both have the name, or neither
same_test : (a b name : List ℕ) → name_eq a b ≡ true → name_eq a name ≡ name_eq b name
same_test a b name same = names_equal.congr a b name same

-- where no peer has the name of one that has it, all are left
all_left : (name own : List ℕ) (f : Peer → Peer) (peers : List Peer) → name_eq own name ≡ true → list_any (λ (q : Peer). name_eq q.name own) peers ≡ false
    → map (changed_in name f) peers ≡ peers
all_left name own f [] here none = refl
all_left name own f (q ∷ peers) here none =
    let parts = or_parts (name_eq q.name own) (list_any (λ (p : Peer). name_eq p.name own) peers) none in
    let other : name_eq q.name name ≡ false =
    names_equal.symm q.name name ∙ sym (same_test own name q.name here) ∙ names_equal.symm own q.name ∙ parts.0 in
    λ i. changed_elsewhere name f q other i ∷ all_left name own f peers here parts.1 i

-- a peer that stands among others has a name that the test finds
any_at : (own : List ℕ) (peers : List Peer) (i : ℕ) (p : Peer) → slice_get peers i ≡ Some p
    → list_any (λ (q : Peer). name_eq q.name own) peers ≡ false → name_eq p.name own ≡ false
any_at own [] i p at none = absurd cc
any_at own (q ∷ peers) zero p at none =
    let same : q ≡ p = cc in ap (λ (x : Peer). name_eq x.name own) (sym same) ∙ (or_parts (name_eq q.name own) (list_any (λ (x : Peer). name_eq x.name own) peers) none).0
any_at own (q ∷ peers) (suc i) p at none = any_at own peers i p at (or_parts (name_eq q.name own) (list_any (λ (x : Peer). name_eq x.name own) peers) none).1

-- a write at the place of the peer of a name changes the peer
pub set_is_changed : (peers : List Peer) (i : ℕ) (p : Peer) (name : List ℕ) (f : Peer → Peer) → AreNamedApart peers → slice_get peers i ≡ Some p → name_eq p.name name ≡ true
    → set peers i (f p) ≡ map (changed_in name f) peers
set_is_changed [] i p name f apart at here = absurd cc
set_is_changed (q ∷ peers) zero p name f apart at here =
    let same : q ≡ p = cc in
    let named : name_eq q.name name ≡ true = ap (λ (x : Peer). name_eq x.name name) same ∙ here in
    let first : f p ≡ changed_in name f q = ap f (sym same) ∙ sym (changed_here name f q named) in
    λ i. first i ∷ sym (all_left name q.name f peers named apart.0) i
set_is_changed (q ∷ peers) (suc i) p name f apart at here =
    let unlike = any_at q.name peers i p at apart.0 in
    let other : name_eq q.name name ≡ false =
    names_equal.symm q.name name ∙ sym (same_test p.name name q.name here) ∙ unlike in
    λ k. sym (changed_elsewhere name f q other) k ∷ set_is_changed peers i p name f apart.1 at here k

-- the found peer has the name
pub found_named : (x : List ℕ) (p : Peer) (peers : List Peer) → find (λ (q : Peer). name_eq q.name x) peers ≡ Some p → name_eq p.name x ≡ true
found_named x p [] found = absurd cc
found_named x p (q ∷ peers) found = by (cases_Bool (name_eq q.name x)) (λ next. found_named x p peers next)
  where
    by : (name_eq q.name x ≡ true) ⊎ (name_eq q.name x ≡ false) → (find (λ (y : Peer). name_eq y.name x) peers ≡ Some p
        → name_eq p.name x ≡ true) → name_eq p.name x ≡ true
    by (inl here) more =
        let taken : Some q ≡ Some p = sym (cond-true _ _ _ here) ∙ found in
        let same : q ≡ p = cc in
        ap (λ (z : Peer). name_eq z.name x) (sym same) ∙ here
    by (inr other) more = more (sym (cond-false _ _ _ other) ∙ found)

-- the found peer is another one, or is changed now
module _ (name : List ℕ) (f : Peer → Peer) (keeps : (p : Peer) → (f p).name ≡ p.name) where
  kept_name : (p : Peer) → (changed_in name f p).name ≡ p.name
  kept_name p = by (cases_Bool (name_eq p.name name))
    where
      by : (name_eq p.name name ≡ true) ⊎ (name_eq p.name name ≡ false) → (changed_in name f p).name ≡ p.name
      by (inl here) = ap (λ (x : Peer). x.name) (changed_here name f p here) ∙ keeps p
      by (inr other) = ap (λ (x : Peer). x.name) (changed_elsewhere name f p other)

  none_named : (own : List ℕ) (peers : List Peer) → list_any (λ (q : Peer). name_eq q.name own) (map (changed_in name f) peers) ≡ list_any
      (λ (q : Peer). name_eq q.name own) peers
  none_named own [] = refl
  none_named own (p ∷ peers) = λ i. name_eq (kept_name p i) own || none_named own peers i

  -- names are apart as before
  pub changed_apart : (peers : List Peer) → AreNamedApart peers → AreNamedApart (map (changed_in name f) peers)
  changed_apart [] h = tt
  changed_apart (p ∷ peers) h =
      ((λ i. list_any (λ (q : Peer). name_eq q.name (kept_name p i)) (map (changed_in name f) peers)) ∙ none_named p.name peers ∙ h.0, changed_apart peers h.1)

  pub found_changed : (x : List ℕ) (p : Peer) (peers : List Peer) → find (λ (q : Peer). name_eq q.name x) peers ≡ Some p
      → find (λ (q : Peer). name_eq q.name x) (map (changed_in name f) peers) ≡ Some (changed_in name f p)
  found_changed x p [] found = absurd cc
  found_changed x p (q ∷ peers) found = by (cases_Bool (name_eq q.name x)) (λ next. found_changed x p peers next)
    where
      test : name_eq (changed_in name f q).name x ≡ name_eq q.name x
      test = ap (λ n. name_eq n x) (kept_name q)

      by : (name_eq q.name x ≡ true) ⊎ (name_eq q.name x ≡ false)
          → (find (λ (y : Peer). name_eq y.name x) peers ≡ Some p → find (λ (y : Peer). name_eq y.name x) (map (changed_in name f) peers) ≡ Some (changed_in name f p))
          → find (λ (y : Peer). name_eq y.name x) (map (changed_in name f) (q ∷ peers)) ≡ Some (changed_in name f p)
      by (inl here) more =
          let taken : Some q ≡ Some p = sym (cond-true _ _ _ here) ∙ found in
          let same : q ≡ p = cc in
          cond-true _ _ _ (test ∙ here) ∙ ap (λ (z : Peer). Some (changed_in name f z)) same
      by (inr other) more = cond-false _ _ _ (test ∙ other) ∙ more (sym (cond-false _ _ _ other) ∙ found)

-- what stood where it was made still does, where the changed peer holds all that it held
module _ (peers : List Peer) (name : List ℕ) (f : Peer → Peer) (keeps : (p : Peer) → (f p).name ≡ p.name) (grows : (p : Peer) (e : Event) → peer_among peers name ≡ Some p
    → Among e p.replica.held → Among e (f p).replica.held) where
  pub still_home : (e : Event) → IsHome peers e → IsHome (map (changed_in name f) peers) e
  still_home e h = by (cases_Bool (name_eq h.home.name name))
    where
      found : peer_among (map (changed_in name f) peers) e.id.agent ≡ Some (changed_in name f h.home)
      found = found_changed name f keeps e.id.agent h.home peers h.found

      by : (name_eq h.home.name name ≡ true) ⊎ (name_eq h.home.name name ≡ false) → IsHome (map (changed_in name f) peers) e
      by (inl here) =
          let own = found_named e.id.agent h.home peers h.found in
          let agent_is : e.id.agent ≡ name = sym (name_exact h.home.name e.id.agent own) ∙ name_exact h.home.name name here in
          let there = grows h.home e (subst (λ n. peer_among peers n ≡ Some h.home) agent_is h.found) h.held in
          record { home = f h.home; found = found ∙ ap Some (changed_here name f h.home here); held = there }
      by (inr other) = record { home = h.home; found = found ∙ ap Some (changed_elsewhere name f h.home other); held = h.held }

-- a replica is put in place of another
pub put_here : (name : List ℕ) (r : ReplicaState) (p : Peer) → name_eq p.name name ≡ true → put_in name r p ≡ with_replica r p
put_here name r p here = changed_here name (with_replica r) p here

pub put_elsewhere : (name : List ℕ) (r : ReplicaState) (p : Peer) → name_eq p.name name ≡ false → put_in name r p ≡ p
put_elsewhere name r p other = changed_elsewhere name (with_replica r) p other

pub found_put : (name : List ℕ) (r : ReplicaState) (x : List ℕ) (p : Peer) (peers : List Peer) → find (λ (q : Peer). name_eq q.name x) peers ≡ Some p
    → find (λ (q : Peer). name_eq q.name x) (map (put_in name r) peers) ≡ Some (put_in name r p)
found_put name r = found_changed name (with_replica r) (λ p. refl)
