-- A walk over a version from its highest position down, and what it takes.
use Rattle.std.proofs.Common.{◌≡◌, ℕ, ◌<◌, ◌≤◌, Bool, true, false, cond, ◌&&◌, ◌||◌, if◌then◌else◌, nat_eq, nat_lt, nat_le, List, [], ◌∷◌, ◌++◌, map, length, reverse, slice_index_or, All, refl, sym, ap, ◌∙◌, arith, ne_eqb}
use Rattle.std.proofs.Math.ListN.{get_or-append}
use Rattle.std.proofs.Math.Seq.{get_or-append_seam}
use Rattle.std.proofs.lemmas.Bool.{false≢true, false_from_ne_true, ltb-true, ltb-false, leb-true, leb-false, eqb-true, eqb-false, or_from, and_right}
use Rattle.std.proofs.lemmas.List.{length-reverse, reverse-reverse, reverse-append}
use Rattle.ew_model.specs.Graph.{is_named, names_known, version_of}
use Rattle.ew_model.specs.Positions.{parents_at, IsHistoryOfParents, EventAt, events_from, known_positions}
use Rattle.ew_model.proofs.GraphVersions.{named-append, version_before, version_of_last}
use Rattle.ew_model.proofs.RisingLists.{named_low}
use Rattle.ew_model.proofs.PositionEvents.{position_of, parents_of, events_push}

-- Over the events with the last one first: an event is taken where its position passes the test, and then its parents
-- pass too.
abbrev pub taken : List (List ℕ) → (ℕ → Bool) → List ℕ
taken [] test = []
taken (parents ∷ earlier) test =
    if test (length earlier) then length earlier ∷ taken earlier (λ p. test p || is_named nat_eq parents p) else taken earlier test

-- tests that agree below the length take the same
pub taken_agree : (r : List (List ℕ)) (S T : ℕ → Bool) → ((m : ℕ) → m < length r → S m ≡ T m) → taken r S ≡ taken r T
taken_agree [] S T h = refl
taken_agree (ps ∷ r) S T h =
    let here : S (length r) ≡ T (length r) = h (length r) (omega arith) in
    let more : taken r (λ p. S p || is_named nat_eq ps p) ≡ taken r (λ p. T p || is_named nat_eq ps p) =
    taken_agree r (λ p. S p || is_named nat_eq ps p) (λ p. T p || is_named nat_eq ps p) (λ m l. ap (λ b. b || is_named nat_eq ps m) (h m (omega (arith, l)))) in
    let same : taken r S ≡ taken r T = taken_agree r S T (λ m l. h m (omega (arith, l))) in
    λ i. cond (here i) (length r ∷ more i) (same i)

-- nothing is taken where nothing passes
pub taken_none : (r : List (List ℕ)) (S : ℕ → Bool) → ((m : ℕ) → m < length r → S m ≡ false) → taken r S ≡ []
taken_none [] S h = refl
taken_none (ps ∷ r) S h =
    ap (λ b. cond b (length r ∷ taken r (λ p. S p || is_named nat_eq ps p)) (taken r S)) (h (length r) (omega arith)) ∙ taken_none r S (λ m l. h m (omega (arith, l)))

-- The walk that begins with the positions of a version takes the version, from the highest position down.
takes : (r : List (List ℕ)) (version : List ℕ) → taken r (is_named nat_eq version) ≡ reverse (known_positions (reverse r) version)
takes [] version = refl
takes (ps ∷ r) version =
    let history = reverse r in
    let e : EventAt = record { position = length history; parents = ps } in
    let whole : events_from 0 (reverse (ps ∷ r)) ≡ events_from 0 history ++ e ∷ [] = ap (events_from 0) (reverse-append (ps ∷ []) r) ∙ events_push history ps in
    let long : length history ≡ length r = length-reverse r in
    let both : taken r (λ p. is_named nat_eq version p || is_named nat_eq ps p) ≡ reverse (known_positions history (version ++ ps)) =
    taken_agree r (λ p. is_named nat_eq version p || is_named nat_eq ps p) (is_named nat_eq (version ++ ps)) (λ m l. sym (named-append position_of parents_of nat_eq version ps m))
    ∙ takes r (version ++ ps) in
    at (is_named nat_eq version (length r)) refl both (takes r version) whole long
  where
    at : (b : Bool) → is_named nat_eq version (length r) ≡ b → taken r (λ p. is_named nat_eq version p || is_named nat_eq ps p) ≡ reverse (known_positions (reverse r) (version ++ ps))
        → taken r (is_named nat_eq version) ≡ reverse (known_positions (reverse r) version) → events_from 0 (reverse (ps ∷ r)) ≡ events_from 0 (reverse r) ++ record { position = length (reverse r); parents = ps } ∷ []
        → length (reverse r) ≡ length r
        → cond b (length r ∷ taken r (λ p. is_named nat_eq version p || is_named nat_eq ps p)) (taken r (is_named nat_eq version)) ≡ reverse (known_positions (reverse (ps ∷ r)) version)
    at true q both alone whole long =
        let history = reverse r in
        let e : EventAt = record { position = length history; parents = ps } in
        let named : is_named nat_eq version (length history) ≡ true = ap (is_named nat_eq version) long ∙ q in
        let known : known_positions (reverse (ps ∷ r)) version ≡ known_positions history (version ++ ps) ++ length r ∷ [] =
        ap (λ es. names_known position_of parents_of nat_eq es version) whole
        ∙ ap (map position_of) (version_of_last position_of parents_of nat_eq (events_from 0 history) e version named)
        ∙ map_push (version_of position_of parents_of nat_eq (events_from 0 history) (version ++ ps)) e
        ∙ ap (λ n. known_positions history (version ++ ps) ++ n ∷ []) long in
        ap (λ xs. length r ∷ xs) both ∙ sym (ap reverse known ∙ reverse-append (known_positions history (version ++ ps)) (length r ∷ []))
      where
        map_push : (es : List EventAt) (e : EventAt) → map position_of (es ++ e ∷ []) ≡ map position_of es ++ e.position ∷ []
        map_push [] e = refl
        map_push (f ∷ es) e = ap (λ ps. f.position ∷ ps) (map_push es e)
    at false q both alone whole long =
        let history = reverse r in
        let e : EventAt = record { position = length history; parents = ps } in
        alone
        ∙ ap reverse (sym (ap (λ es. names_known position_of parents_of nat_eq es version) whole
        ∙ ap (map position_of) (version_before position_of parents_of nat_eq (events_from 0 history) (e ∷ []) version (ap (is_named nat_eq version) long ∙ q, tt))))

pub walk_takes : (history : List (List ℕ)) (version : List ℕ) → taken (reverse history) (is_named nat_eq version) ≡ reverse (known_positions history version)
walk_takes history version = takes (reverse history) version ∙ ap (λ h. reverse (known_positions h version)) (reverse-reverse history)

pub walk_is : (history : List (List ℕ)) (version : List ℕ) → reverse (taken (reverse history) (is_named nat_eq version)) ≡ known_positions history version
walk_is history version = ap reverse (walk_takes history version) ∙ reverse-reverse (known_positions history version)

-- the test once n was taken off: without n, and with n's parents where n passed
abbrev pub after_taking : (ℕ → Bool) → List ℕ → ℕ → ℕ → Bool
after_taking test parents n p = (if nat_eq n p then false else test p) || (test n && is_named nat_eq parents p)

apart : (n m : ℕ) → n ≤ m → nat_eq n m ≡ false → n < m
apart n m l e = let ne = eqb-false n m e in omega (arith, l, ne)

-- what lies below n isn't n or above it
pub low_named : (xs : List ℕ) (n m : ℕ) → All (λ p. p < n) xs → n ≤ m → is_named nat_eq xs m ≡ false
low_named xs n m h l =
    false_from_ne_true (is_named nat_eq xs m) (λ e. let low = named_low xs n m h e in omega (arith, low, l))

-- where n is the highest that passes it comes first, and then what the walk takes without it but with its parents
taken_highest : (r : List (List ℕ)) (S T : ℕ → Bool) (n : ℕ) → n < length r → S n ≡ true → ((m : ℕ) → n < m → S m ≡ false)
    → ((m : ℕ) → m < n → T m ≡ (S m || is_named nat_eq (parents_at (reverse r) n) m)) → ((m : ℕ) → n ≤ m → T m ≡ false) → taken r S ≡ n ∷ taken r T
taken_highest [] S T n l at above below gone = absurd (omega (arith, l))
taken_highest (ps ∷ r) S T n l at above below gone = by (nat_lt n (length r)) refl (λ k f. taken_highest r S T n k at above f gone)
  where
    whole : reverse (ps ∷ r) ≡ reverse r ++ ps ∷ []
    whole = reverse-append (ps ∷ []) r

    by : (b : Bool) → nat_lt n (length r) ≡ b → (n < length r → ((m : ℕ) → m < n → T m ≡ (S m || is_named nat_eq (parents_at (reverse r) n) m)) → taken r S ≡ n ∷ taken r T)
        → taken (ps ∷ r) S ≡ n ∷ taken (ps ∷ r) T
    by true q later =
        let less : n < length r = ltb-true n (length r) q in
        let long : n < length (reverse r) = let e = length-reverse r in omega (arith, less, e) in
        let same : parents_at (reverse (ps ∷ r)) n ≡ parents_at (reverse r) n = ap (λ h. parents_at h n) whole ∙ get_or-append (reverse r) (ps ∷ []) [] n long in
        ap (λ b. cond b (length r ∷ taken r (λ p. S p || is_named nat_eq ps p)) (taken r S)) (above (length r) less)
        ∙ later less (λ m k. below m k ∙ ap (λ xs. S m || is_named nat_eq xs m) same)
        ∙ ap (λ b. n ∷ cond b (length r ∷ taken r (λ p. T p || is_named nat_eq ps p)) (taken r T)) (sym (gone (length r) (omega (arith, less))))
    by false q later =
        let high = ltb-false n (length r) q in
        let here : n ≡ length r = omega (arith, l, high) in
        let long : n ≡ length (reverse r) = let e = length-reverse r in omega (arith, here, e) in
        let same : parents_at (reverse (ps ∷ r)) n ≡ ps = ap (λ h. parents_at h n) whole ∙ ap (λ k. slice_index_or (reverse r ++ ps ∷ []) k []) long ∙ get_or-append_seam (reverse r) ps [] [] in
        ap (λ b. cond b (length r ∷ taken r (λ p. S p || is_named nat_eq ps p)) (taken r S)) (ap S (sym here) ∙ at)
        ∙ (λ i. sym here i ∷ taken_agree r (λ p. S p || is_named nat_eq ps p) T (λ m k. sym (below m (omega (arith, k, here)) ∙ ap (λ xs. S m || is_named nat_eq xs m) same)) i)
        ∙ ap (λ b. n ∷ cond b (length r ∷ taken r (λ p. T p || is_named nat_eq ps p)) (taken r T)) (sym (gone (length r) (omega (arith, here))))

-- One turn of the walk: n is taken where it passes and nothing above it does.
module _ (history : List (List ℕ)) (good : IsHistoryOfParents history) (n : ℕ) (within : n < length history) (S T : ℕ → Bool) (top : (m : ℕ) → n < m → S m ≡ false) (next : (m : ℕ) → T m ≡ after_taking S (parents_at history n) n m) where
  no_parent : (m : ℕ) → n ≤ m → is_named nat_eq (parents_at history n) m ≡ false
  no_parent m l = low_named (parents_at history n) n m (good n within).lower l

  -- nothing from n on passes any more
  pub nothing_above : (m : ℕ) → n ≤ m → T m ≡ false
  nothing_above m l = next m ∙ or_from (cond (nat_eq n m) false (S m)) (S n && is_named nat_eq (parents_at history n) m) (at (nat_eq n m) refl) (and_right (S n) _ (no_parent m l))
    where
      at : (b : Bool) → nat_eq n m ≡ b → cond b false (S m) ≡ false
      at true e = refl
      at false e = top m (apart n m l e)

  pub taken_below : (m : ℕ) → T m ≡ true → m < n
  taken_below m e = at (nat_le n m) refl
    where
      at : (b : Bool) → nat_le n m ≡ b → m < n
      at true q = absurd (false≢true (sym (nothing_above m (leb-true n m q)) ∙ e))
      at false q = leb-false n m q

  other : (m : ℕ) → m < n → T m ≡ (S m || (S n && is_named nat_eq (parents_at history n) m))
  other m l = next m ∙ ap (λ b. cond b false (S m) || (S n && is_named nat_eq (parents_at history n) m)) (ne_eqb n m (λ e. omega (arith, l, e)))

  or_nothing : (b : Bool) → (b || false) ≡ b
  or_nothing true = refl
  or_nothing false = refl

  -- where n passed it comes first, and what is taken is else the same
  pub turn : taken (reverse history) S ≡ cond (S n) (n ∷ taken (reverse history) T) (taken (reverse history) T)
  turn = at (S n) refl
    where
      long : n < length (reverse history)
      long = let e = length-reverse history in omega (arith, within, e)

      twice : reverse (reverse history) ≡ history
      twice = reverse-reverse history

      at : (b : Bool) → S n ≡ b → taken (reverse history) S ≡ cond b (n ∷ taken (reverse history) T) (taken (reverse history) T)
      at true e =
          taken_highest (reverse history) S T n long e top
          (λ m l. other m l ∙ (λ i. S m || (e i && is_named nat_eq (parents_at (sym twice i) n) m))) nothing_above
      at false e = taken_agree (reverse history) S T (λ m l. kept m (nat_lt m n) refl)
        where
          kept : (m : ℕ) (b : Bool) → nat_lt m n ≡ b → S m ≡ T m
          kept m true q = sym (other m (ltb-true m n q) ∙ ap (λ b. S m || (b && is_named nat_eq (parents_at history n) m)) e ∙ or_nothing (S m))
          kept m false q = none m (ltb-false m n q) (nat_eq n m) refl ∙ sym (nothing_above m (ltb-false m n q))
            where
              none : (m : ℕ) → n ≤ m → (b : Bool) → nat_eq n m ≡ b → S m ≡ false
              none m l true f = ap S (sym (eqb-true n m f)) ∙ e
              none m l false f = top m (apart n m l f)

-- One turn where n is the highest pending, as a set of pending positions makes it: n is taken off it, and n's parents
-- are put into it.
module _ (history : List (List ℕ)) (good : IsHistoryOfParents history) (n : ℕ) (within : n < length history) (old mid new : ℕ → Bool) (at : old n ≡ true) (above : (m : ℕ) → old m ≡ true → m ≤ n) (without : (m : ℕ) → mid m ≡ cond (nat_eq n m) false (old m)) (with : (m : ℕ) → new m ≡ (mid m || is_named nat_eq (parents_at history n) m)) where
  top_free : (m : ℕ) → n < m → old m ≡ false
  top_free m l = false_from_ne_true (old m) (λ e. let low = above m e in omega (arith, low, l))

  taking : (m : ℕ) → new m ≡ after_taking old (parents_at history n) n m
  taking m = with m ∙ (λ i. without m i || (sym at i && is_named nat_eq (parents_at history n) m))

  -- it comes first of all that is still taken
  pub walk_turn : taken (reverse history) old ≡ n ∷ taken (reverse history) new
  walk_turn = turn history good n within old new top_free taking ∙ ap (λ b. cond b (n ∷ taken (reverse history) new) (taken (reverse history) new)) at

  -- and all that is then pending lies below it
  pub walk_lower : (m : ℕ) → new m ≡ true → m < n
  walk_lower m e = taken_below history good n within old new top_free taking m e
