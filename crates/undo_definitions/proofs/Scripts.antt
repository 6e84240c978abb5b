-- The operations of an undo go from left to right: the index of each is the number of wanted characters that it has come by.
use Rattle.std.proofs.Common.{◌≡◌, ℕ, suc, ◌+◌, Bool, true, false, not, cond, ◌&&◌, List, [], ◌∷◌, ◌++◌, filter, length, count_by, filter_map, inl, Option, refl, sym, ap, ◌∙◌, subst, append_assoc, length-append, arith}
use Rattle.std.specs.Cmp.{tied_itself}
use Rattle.std.specs.List.{AllByRecursion, cons_option}
use Rattle.std.specs.List.Sorted.{IsStrictlySortedBy}
use Rattle.std.specs.Ordering.{is_lt, ordering_reverse}
use Rattle.std.specs.declared.cmp.Ordering.TheVariants.{Less}
use Rattle.std.proofs.lemmas.List.Elements.{filter-append}
use Rattle.std.proofs.lemmas.List.Sums.{sum_by-append, sum_by-cons}
use Rattle.ew_model.specs.declared.event.Op.{Op}
use Rattle.ew_model.specs.Paths.{path_lt}
use Rattle.ew_model.specs.Entries.{Inserted, inserted_cmp}
use Rattle.ew_model.proofs.OwnIndex.{count_none}
use Rattle.ew_model.proofs.PlaceLaws.{placed_total}
use Rattle.ew_model.proofs.SetLaws.{joined_right}
use Rattle.ew_model.proofs.SortingLaws.{all_at, all_filter}
use Rattle.undo_definitions.specs.Undoing.{change_of, index_among}

-- PLACES IN A SORTED LIST
before_one : (front rest : List Inserted) (z : Inserted) → IsStrictlySortedBy inserted_cmp (front ++ z ∷ rest) → AllByRecursion (λ y. path_lt y.path z.path ≡ true) front
unfolding IsStrictlySortedBy
before_one [] rest z s = tt
before_one (x ∷ front) rest z s = (
  ap is_lt (all_at (λ y. inserted_cmp x y ≡ Less) (front ++ z ∷ rest) z s.0 (joined_right front (z ∷ rest) z (inl refl))),
  before_one front rest z s.1,
)

all_behind : (z : Inserted) (ys : List Inserted) → AllByRecursion (λ y. inserted_cmp z y ≡ Less) ys → AllByRecursion (λ y. path_lt y.path z.path ≡ false) ys
all_behind z [] h = tt
all_behind z (y ∷ ys) h = (ap is_lt (placed_total.antisymm y z ∙ ap ordering_reverse h.0), all_behind z ys h.1)

not_before : (front rest : List Inserted) (z : Inserted) → IsStrictlySortedBy inserted_cmp (front ++ z ∷ rest) → AllByRecursion (λ y. path_lt y.path z.path ≡ false) (z ∷ rest)
unfolding IsStrictlySortedBy
not_before [] rest z s = (ap is_lt (tied_itself placed_total z), all_behind z rest s.0)
not_before (x ∷ front) rest z s = not_before front rest z s.1

count_all : {X : Type 0} (p : X → Bool) (xs : List X) → AllByRecursion (λ x. p x ≡ true) xs → count_by p xs ≡ length xs
count_all p [] h = refl
count_all p (x ∷ xs) h =
    sum_by-cons (λ y. cond (p y) 1 0) x xs ∙ (λ i. cond (h.0 i) 1 0 + count_all p xs h.1 i) ∙ omega arith

module _ (gone want : Inserted → Bool) where
  -- the index of a character is the number of those before it that are wanted
  index_here : (front rest : List Inserted) (z : Inserted) → IsStrictlySortedBy inserted_cmp (front ++ z ∷ rest) → index_among (filter want (front ++ z ∷ rest)) z ≡ length (filter want front)
  index_here front rest z s =
      let p : Inserted → Bool = λ y. path_lt y.path z.path in
      ap (count_by p) (filter-append want front (z ∷ rest))
      ∙ sum_by-append (λ y. cond (p y) 1 0) (filter want front) (filter want (z ∷ rest))
      ∙ (λ i. count_all p (filter want front) (all_filter (λ y. p y ≡ true) want front (before_one front rest z s)) i
      + count_none p (filter want (z ∷ rest)) (all_filter (λ y. p y ≡ false) want (z ∷ rest) (not_before front rest z s)) i)
      ∙ omega arith

  -- what is done about these characters, from an index on
  abbrev pub script : ℕ → List Inserted → List Op
  script n [] = []
  script n (z ∷ zs) = cons_option (change_of n z.ch (gone z) (want z)) (script (cond (want z) (suc n) n) zs)

  -- what is done about a character, by all that are wanted
  abbrev pub change_in : List Inserted → Inserted → Option Op
  change_in all z = change_of (index_among (filter want all) z) z.ch (gone z) (want z)

  one_more : (front : List Inserted) (z : Inserted) → length (filter want (front ++ z ∷ [])) ≡ cond (want z) (suc (length (filter want front))) (length (filter want front))
  one_more front z =
      ap length (filter-append want front (z ∷ [])) ∙ length-append (filter want front) (filter want (z ∷ [])) ∙ at (want z)
    where
      at : (b : Bool) → length (filter want front) + length (cond b (z ∷ []) []) ≡ cond b (suc (length (filter want front))) (length (filter want front))
      at true = omega arith
      at false = omega arith

  pub changes_along : (all front zs : List Inserted) → front ++ zs ≡ all → IsStrictlySortedBy inserted_cmp all → filter_map (change_in all) zs ≡ script (length (filter want front)) zs
  changes_along all front [] eq s = refl
  changes_along all front (z ∷ zs) eq s =
      let index : index_among (filter want all) z ≡ length (filter want front) =
      ap (λ ys. index_among (filter want ys) z) (sym eq) ∙ index_here front zs z (subst (IsStrictlySortedBy inserted_cmp) (sym eq) s) in
      let rest : filter_map (change_in all) zs ≡ script (cond (want z) (suc (length (filter want front))) (length (filter want front))) zs =
      changes_along all (front ++ z ∷ []) zs (append_assoc front (z ∷ []) zs ∙ eq) s ∙ ap (λ n. script n zs) (one_more front z) in
      λ i. cons_option (change_of (index i) z.ch (gone z) (want z)) (rest i)

  -- there is one for each character that is shown and not wanted, and for each that is wanted and not shown
  pub script_long : (n : ℕ) (zs : List Inserted) → length (script n zs) ≡ length (filter (λ z. not (gone z) && not (want z)) zs) + length (filter (λ z. want z && gone z) zs)
  script_long n [] = refl
  script_long n (z ∷ zs) = at (gone z) (want z) (script_long (cond (want z) (suc n) n) zs)
    where
      at : (g w : Bool) → length (script (cond w (suc n) n) zs) ≡ length (filter (λ y. not (gone y) && not (want y)) zs) + length (filter (λ y. want y && gone y) zs)
          → length (cons_option (change_of n z.ch g w) (script (cond w (suc n) n) zs))
          ≡ length (cond (not g && not w) (z ∷ filter (λ y. not (gone y) && not (want y)) zs) (filter (λ y. not (gone y) && not (want y)) zs)) + length (cond (w && g) (z ∷ filter (λ y. want y && gone y) zs) (filter (λ y. want y && gone y) zs))
      at true true h = omega (arith, h)
      at true false h = h
      at false true h = h
      at false false h = omega (arith, h)
