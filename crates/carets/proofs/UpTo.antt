-- Characters up to another.
use Rattle.std.proofs.Common.{◌≡◌, ℕ, zero, suc, ◌<◌, ◌≤◌, nat_lt, Bool, true, false, cond, not, inl, inr, ⊎_elim, List, [], ◌∷◌, filter, length, Some, refl, sym, ap, ◌∙◌, arith}
use Rattle.std.specs.Prelude.{slice_get}
use Rattle.std.specs.Cmp.{nat_cmp_is, tied_itself}
use Rattle.std.specs.List.Sorted.{IsStrictlySortedBy}
use Rattle.std.specs.Ordering.{is_lt, ordering_reverse}
use Rattle.std.specs.declared.cmp.Ordering.{Ordering}
use Rattle.std.specs.declared.cmp.Ordering.TheVariants.{Less, Equal, Greater}
use Rattle.std.proofs.lemmas.Bool.{false≢true, false_from_ne_true, ltb-true, ltb-false}
use Rattle.ew_model.specs.declared.id.Id.{Id}
use Rattle.ew_model.specs.Ids.{id_eq}
use Rattle.ew_model.specs.Sets.{Among}
use Rattle.ew_model.specs.Paths.{path_cmp, path_lt}
use Rattle.ew_model.specs.Entries.{Inserted, inserted_cmp}
use Rattle.ew_model.proofs.ListParts.{element_there, length-filter-le}
use Rattle.ew_model.proofs.OperationLaws.{got}
use Rattle.ew_model.proofs.PathOrder.{path_total}
use Rattle.ew_model.proofs.RunLaws.{id_itself, id_same}
use Rattle.ew_model.proofs.SortingLaws.{all_at}
use Rattle.ew_model.proofs.StemLaws.{places_cmp}
use Rattle.ew_model.proofs.TextLaws.{IdsApart}
use Rattle.carets.specs.Sides.{char_of, is_up_to}

-- ONE CHARACTER AND ANOTHER
is_less : (o : Ordering) → is_lt o ≡ true → o ≡ Less
is_less Less h = refl
is_less Equal h = absurd (false≢true h)
is_less Greater h = absurd (false≢true h)

-- what stands behind a character isn't up to it
pub not_up_to : (c z : Inserted) → inserted_cmp c z ≡ Less → is_up_to c z ≡ false
not_up_to c z e = ap (λ (o : Ordering). not (is_lt o)) e

behind_or_up_to : (c z : Inserted) (b : Bool) → path_lt c.path z.path ≡ b → (inserted_cmp c z ≡ Less → ⊥) → is_up_to c z ≡ true
behind_or_up_to c z true q other = absurd (other (is_less (path_cmp c.path z.path) q))
behind_or_up_to c z false q other = ap not q

-- what doesn't stand behind it is
pub up_to : (c z : Inserted) → (inserted_cmp c z ≡ Less → ⊥) → is_up_to c z ≡ true
up_to c z other = behind_or_up_to c z (path_lt c.path z.path) refl other

no_less : Equal ≡ Less → ⊥
no_less e = cc

pub up_to_itself : (c : Inserted) → is_up_to c c ≡ true
up_to_itself c = up_to c c (λ e. no_less (sym (tied_itself path_total c.path) ∙ e))

not_false : (c z : Inserted) → is_up_to c z ≡ true → inserted_cmp c z ≡ Less → ⊥
not_false c z h e = false≢true (sym (not_up_to c z e) ∙ h)

-- what stands before one that is up to it is so too
pub up_to_before : (c w z : Inserted) → inserted_cmp w z ≡ Less → is_up_to c z ≡ true → is_up_to c w ≡ true
up_to_before c w z before h = up_to c w (λ e. not_false c z h (path_total.trans c.path w.path z.path e before))

-- what is up to a character is up to each that the character is up to
pub up_to_through : (c d z : Inserted) → is_up_to d c ≡ true → is_up_to c z ≡ true → is_up_to d z ≡ true
up_to_through c d z h k = up_to d z (λ e. at (path_cmp c.path z.path) refl e)
  where
    at : (o : Ordering) → path_cmp c.path z.path ≡ o → inserted_cmp d z ≡ Less → ⊥
    at Less q e = not_false c z k q
    at Equal q e = not_false d c h (path_total.antisymm d.path c.path ∙ ap ordering_reverse (path_total.congr c.path z.path d.path q ∙ path_total.antisymm z.path d.path ∙ ap ordering_reverse e))
    at Greater q e = not_false d c h (path_total.trans d.path z.path c.path e (path_total.antisymm z.path c.path ∙ ap ordering_reverse q))

-- CHARACTERS IN ORDER
-- those up to a character are the first ones
module _ (c : Inserted) where
  abbrev pub firsts : List Inserted → ℕ
  firsts zs = length (filter (is_up_to c) zs)

  pub first_up_to : (zs : List Inserted) (i : ℕ) (z : Inserted) → IsStrictlySortedBy inserted_cmp zs → slice_get zs i ≡ Some z → is_up_to c z ≡ true → i < firsts zs
  unfolding IsStrictlySortedBy
  first_up_to [] i z sorted at h = let no : ⊥ = cc in absurd no
  first_up_to (w ∷ ws) zero z sorted at h = let same : w ≡ z = cc in some (is_up_to c w) (ap (is_up_to c) same ∙ h)
    where
      some : (b : Bool) → b ≡ true → 0 < length (cond b (w ∷ filter (is_up_to c) ws) (filter (is_up_to c) ws))
      some true e = omega arith
      some false e = absurd (false≢true e)
  first_up_to (w ∷ ws) (suc i) z sorted at h =
      let before : inserted_cmp w z ≡ Less = all_at (λ (v : Inserted). inserted_cmp w v ≡ Less) ws z sorted.0 (got ws i z at) in
      more (is_up_to c w) (up_to_before c w z before h) (first_up_to ws i z sorted.1 at h)
    where
      more : (b : Bool) → b ≡ true → i < firsts ws → suc i < length (cond b (w ∷ filter (is_up_to c) ws) (filter (is_up_to c) ws))
      more true e lt = omega (arith, lt)
      more false e lt = absurd (false≢true e)

  -- where one isn't, none behind it is
  pub none_up_to : (zs : List Inserted) → ((z : Inserted) → Among z zs → is_up_to c z ≡ false) → firsts zs ≡ 0
  none_up_to [] none = refl
  none_up_to (z ∷ zs) none =
      ap (λ (b : Bool). length (cond b (z ∷ filter (is_up_to c) zs) (filter (is_up_to c) zs))) (none z (inl refl)) ∙ none_up_to zs (λ w m. none w (inr m))

  none_behind : (w : Inserted) (ws : List Inserted) → ((v : Inserted) → Among v ws → inserted_cmp w v ≡ Less) → is_up_to c w ≡ false → firsts ws ≡ 0
  none_behind w ws behind h = none_up_to ws (λ v m. false_from_ne_true (is_up_to c v) (λ e. false≢true (sym h ∙ up_to_before c w v (behind v m) e)))

  pub up_to_first : (zs : List Inserted) (i : ℕ) (z : Inserted) → IsStrictlySortedBy inserted_cmp zs → slice_get zs i ≡ Some z → i < firsts zs → is_up_to c z ≡ true
  unfolding IsStrictlySortedBy
  up_to_first [] i z sorted at lt = let no : ⊥ = cc in absurd no
  up_to_first (w ∷ ws) i z sorted at lt = by i at lt (is_up_to c w) refl (λ v m. all_at (λ (u : Inserted). inserted_cmp w u ≡ Less) ws v sorted.0 m)
      (λ j there less. up_to_first ws j z sorted.1 there less)
    where
      by : (i : ℕ) → slice_get (w ∷ ws) i ≡ Some z → i < firsts (w ∷ ws) → (b : Bool) → is_up_to c w ≡ b → ((v : Inserted) → Among v ws → inserted_cmp w v ≡ Less)
          → ((j : ℕ) → slice_get ws j ≡ Some z → j < firsts ws → is_up_to c z ≡ true) → is_up_to c z ≡ true
      by zero at lt true q behind later = let same : w ≡ z = cc in ap (is_up_to c) (sym same) ∙ q
      by (suc i) at lt true q behind later =
          let long : firsts (w ∷ ws) ≡ suc (firsts ws) = ap (λ (b : Bool). length (cond b (w ∷ filter (is_up_to c) ws) (filter (is_up_to c) ws))) q in
          later i at (omega (arith, lt, long))
      by i at lt false q behind later =
          let long : firsts (w ∷ ws) ≡ firsts ws = ap (λ (b : Bool). length (cond b (w ∷ filter (is_up_to c) ws) (filter (is_up_to c) ws))) q in
          let none : firsts ws ≡ 0 = none_behind w ws behind q in
          absurd (omega (arith, lt, long, none))

-- so many stand up to one of them as its place says
pub own_place : (zs : List Inserted) (i : ℕ) (z : Inserted) → IsStrictlySortedBy inserted_cmp zs → slice_get zs i ≡ Some z → firsts z zs ≡ suc i
own_place zs i z sorted at = by (nat_lt (suc i) (firsts z zs)) refl
  where
    low : i < firsts z zs
    low = first_up_to z zs i z sorted at (up_to_itself z)

    by : (b : Bool) → nat_lt (suc i) (firsts z zs) ≡ b → firsts z zs ≡ suc i
    by true q =
        let high : suc i < firsts z zs = ltb-true (suc i) (firsts z zs) q in
        let next = element_there zs (suc i) (omega (arith, high, length-filter-le (is_up_to z) zs)) in
        let after : inserted_cmp z next.0 ≡ Less = places_cmp zs i (suc i) z next.0 sorted at next.1 ∙ sym (nat_cmp_is i (suc i) Less (omega arith)) in
        absurd (not_false z next.0 (up_to_first z zs (suc i) next.0 sorted next.1 high) after)
    by false q = let high : firsts z zs ≤ suc i = ltb-false (suc i) (firsts z zs) q in omega (arith, low, high)

-- up to a later character there are no fewer
pub no_fewer : (c d : Inserted) (zs : List Inserted) → is_up_to d c ≡ true → firsts c zs ≤ firsts d zs
no_fewer c d [] h = omega arith
no_fewer c d (z ∷ zs) h = at (is_up_to c z) (is_up_to d z) refl refl (no_fewer c d zs h)
  where
    at : (a b : Bool) → is_up_to c z ≡ a → is_up_to d z ≡ b → firsts c zs ≤ firsts d zs → length (cond a (z ∷ filter (is_up_to c) zs) (filter (is_up_to c) zs)) ≤ length (cond b (z ∷ filter (is_up_to d) zs) (filter (is_up_to d) zs))
    at true true p q le = omega (arith, le)
    at true false p q le = absurd (false≢true (sym q ∙ up_to_through c d z h p))
    at false true p q le = omega (arith, le)
    at false false p q le = le

-- CHARACTERS BY THEIR IDS
fewer_apart : (z : Inserted) (zs : List Inserted) → IdsApart (z ∷ zs) → IdsApart zs
fewer_apart z zs apart u v mu mv e = apart u v (inr mu) (inr mv) e

-- a character is the one under its id
pub own_char : (zs : List Inserted) (z : Inserted) → IdsApart zs → Among z zs → char_of zs z.id ≡ Some z
own_char [] z apart m = absurd m
own_char (w ∷ ws) z apart m = at (id_eq w.id z.id) refl (λ later. own_char ws z (fewer_apart w ws apart) later)
  where
    at : (b : Bool) → id_eq w.id z.id ≡ b → (Among z ws → char_of ws z.id ≡ Some z) → cond b (Some w) (char_of ws z.id) ≡ Some z
    at true e rest = ap (λ (v : Inserted). Some v) (apart w z (inl refl) m e)
    at false e rest =
        ⊎_elim
        (λ same. absurd (false≢true (sym e ∙ ap (λ (v : Inserted). id_eq v.id z.id) (sym same) ∙ id_itself z.id)))
        rest
        m

-- what is found under an id is one of them, with this id
pub char_told : (zs : List Inserted) (x : Id) (c : Inserted) → char_of zs x ≡ Some c → Among c zs × (c.id ≡ x)
char_told [] x c e = let no : ⊥ = cc in absurd no
char_told (z ∷ zs) x c e = at (id_eq z.id x) refl e (λ k. char_told zs x c k)
  where
    at : (b : Bool) → id_eq z.id x ≡ b → cond b (Some z) (char_of zs x) ≡ Some c → (char_of zs x ≡ Some c → Among c zs × (c.id ≡ x)) → Among c (z ∷ zs) × (c.id ≡ x)
    at true q k rest = let same : z ≡ c = cc in (inl (sym same), ap (λ (v : Inserted). v.id) (sym same) ∙ id_same z.id x q)
    at false q k rest = let later = rest k in (inr later.0, later.1)
