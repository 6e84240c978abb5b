-- Lines: where bytes are cut, and which items the lines mean.
use Rattle.std.proofs.Common.{◌≡◌, ◌≢◌, ℕ, ◌+◌, ◌⊎◌, inl, inr, List, [], ◌∷◌, ◌++◌, refl, sym, ap, ◌∙◌, ne_eqb}
use Rattle.std.specs.List.{AllByRecursion, onto_first}
use Rattle.std.proofs.lemmas.Bool.{cond-false}
use Rattle.ew_model.specs.Scripts.{lines_of, Numbered, LinesMean, IsReadable, IsFirstUnreadable}

-- the element stands nowhere in the list
abbrev pub Lacks : List ℕ → ℕ → Type 0
Lacks bytes b = AllByRecursion (λ x. x ≢ b) bytes

-- a list is cut at the first such element in one way
pub cut_once : (b : ℕ) (xs us ys vs : List ℕ) → Lacks xs b → Lacks us b → xs ++ b ∷ ys ≡ us ++ b ∷ vs → (xs ≡ us) × (ys ≡ vs)
cut_once b [] [] ys vs h k e = (refl, cc)
cut_once b [] (u ∷ us) ys vs h k e = absurd (k.0 cc)
cut_once b (x ∷ xs) [] ys vs h k e = absurd (h.0 cc)
cut_once b (x ∷ xs) (u ∷ us) ys vs h k e =
    let heads : x ≡ u = cc in
    let tails = cut_once b xs us ys vs h.1 k.1 cc in
    (λ i. heads i ∷ tails.0 i, tails.1)

-- a list without the element is not cut at all
pub never_cut : (b : ℕ) (xs us vs : List ℕ) → Lacks xs b → xs ≡ us ++ b ∷ vs → ⊥
never_cut b [] [] vs h e = cc
never_cut b [] (u ∷ us) vs h e = cc
never_cut b (x ∷ xs) [] vs h e = h.0 cc
never_cut b (x ∷ xs) (u ∷ us) vs h e = never_cut b xs us vs h.1 cc

-- the first newline ends the first line
pub lines_of-cut : (line rest : List ℕ) → Lacks line 10 → lines_of (line ++ 10 ∷ rest) ≡ line ∷ lines_of rest
lines_of-cut [] rest h = refl
lines_of-cut (b ∷ line) rest h = cond-false _ _ _ (ne_eqb b 10 h.0) ∙ ap (onto_first b) (lines_of-cut line rest h.1)

-- without a newline there is one line
pub lines_of-uncut : (b : ℕ) (line : List ℕ) → Lacks (b ∷ line) 10 → lines_of (b ∷ line) ≡ (b ∷ line) ∷ []
lines_of-uncut b [] h = cond-false _ _ _ (ne_eqb b 10 h.0)
lines_of-uncut b (c ∷ line) h = cond-false _ _ _ (ne_eqb b 10 h.0) ∙ ap (onto_first b) (lines_of-uncut c line h.1)

module _ {A : Type 0} (Means : List ℕ → A → Type 0) where
  -- a line that isn't empty adds its item
  pub lines_mean-cons : (n : ℕ) (line : List ℕ) (x : A) (lines : List (List ℕ)) (items : List (Numbered A)) → line ≢ [] → Means line x
      → LinesMean Means (n + 1) lines items → LinesMean Means n (line ∷ lines) (record { line = n; item = x } ∷ items)
  lines_mean-cons n [] x lines items some m h = absurd (some refl)
  lines_mean-cons n (b ∷ line) x lines items some m h = (refl, m, h)

  -- where each line means one item at most, the lines mean one list at most
  pub lines_mean_once : ((line : List ℕ) (x y : A) → Means line x → Means line y → x ≡ y) → (n : ℕ) (lines : List (List ℕ)) (xs ys : List (Numbered A))
      → LinesMean Means n lines xs → LinesMean Means n lines ys → xs ≡ ys
  lines_mean_once one n [] [] [] p q = refl
  lines_mean_once one n [] [] (y ∷ ys) p q = absurd q
  lines_mean_once one n [] (x ∷ xs) ys p q = absurd p
  lines_mean_once one n ([] ∷ lines) xs ys p q = lines_mean_once one (n + 1) lines xs ys p q
  lines_mean_once one n ((b ∷ line) ∷ lines) [] ys p q = absurd p
  lines_mean_once one n ((b ∷ line) ∷ lines) (x ∷ xs) [] p q = absurd q
  lines_mean_once one n ((b ∷ line) ∷ lines) (x ∷ xs) (y ∷ ys) p q =
      let numbers : x.line ≡ y.line = p.0 ∙ sym q.0 in
      let items = one (b ∷ line) x.item y.item p.1 q.1 in
      let rest = lines_mean_once one (n + 1) lines xs ys p.2 q.2 in
      λ i. record { line = numbers i; item = items i } ∷ rest i

  -- there is one first unreadable line at most
  pub first_unreadable_once : (n : ℕ) (lines : List (List ℕ)) (j k : ℕ) → IsFirstUnreadable Means n lines j → IsFirstUnreadable Means n lines k → j ≡ k
  first_unreadable_once n [] j k p q = absurd p
  first_unreadable_once n (line ∷ lines) j k (inl p) (inl q) = p.1 ∙ sym q.1
  first_unreadable_once n (line ∷ lines) j k (inl p) (inr q) = absurd (p.0 q.0)
  first_unreadable_once n (line ∷ lines) j k (inr p) (inl q) = absurd (q.0 p.0)
  first_unreadable_once n (line ∷ lines) j k (inr p) (inr q) = first_unreadable_once (n + 1) lines j k p.1 q.1

  -- lines that mean something are all readable
  pub all_readable : (n : ℕ) (lines : List (List ℕ)) (items : List (Numbered A)) (bad : ℕ) → LinesMean Means n lines items → IsFirstUnreadable Means n lines bad → ⊥
  all_readable n [] items bad p q = q
  all_readable n ([] ∷ lines) items bad p (inl q) = q.0 (inl refl)
  all_readable n ([] ∷ lines) items bad p (inr q) = all_readable (n + 1) lines items bad p q.1
  all_readable n ((b ∷ line) ∷ lines) [] bad p q = p
  all_readable n ((b ∷ line) ∷ lines) (x ∷ items) bad p (inl q) = q.0 (inr (x.item, p.1))
  all_readable n ((b ∷ line) ∷ lines) (x ∷ items) bad p (inr q) = all_readable (n + 1) lines items bad p.2 q.1

  -- what is known of the lines from number n on
  abbrev pub Judged : ℕ → List (List ℕ) → Type 0
  Judged n lines = ((items : List (Numbered A)) × LinesMean Means n lines items) ⊎ ((bad : ℕ) × IsFirstUnreadable Means n lines bad)

  judged_more : (n : ℕ) (line : List ℕ) (lines : List (List ℕ)) → IsReadable Means line ⊎ ¬ IsReadable Means line → Judged (n + 1) lines → Judged n (line ∷ lines)
  judged_more n line lines (inr unreadable) rest = inr (n, inl (unreadable, refl))
  judged_more n line lines (inl readable) (inr rest) = inr (rest.0, inr (readable, rest.1))
  judged_more n [] lines (inl readable) (inl rest) = inl rest
  judged_more n (b ∷ line) lines (inl (inl empty)) (inl rest) = cc
  judged_more n (b ∷ line) lines (inl (inr (x, m))) (inl rest) = inl (record { line = n; item = x } ∷ rest.0, (refl, m, rest.1))

  -- lines mean something, or one of them is the first that is unreadable
  pub judged : ((line : List ℕ) → IsReadable Means line ⊎ ¬ IsReadable Means line) → (n : ℕ) (lines : List (List ℕ)) → Judged n lines
  judged decided n [] = inl ([], tt)
  judged decided n (line ∷ lines) = judged_more n line lines (decided line) (judged decided (n + 1) lines)
