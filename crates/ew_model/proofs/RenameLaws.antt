-- Events under other names leave the same entries and do the same to a text.
use Rattle.std.proofs.Common.{◌≡◌, ℕ, Bool, true, false, cond, inl, List, [], ◌∷◌, ◌++◌, map, filter, fold, Option, Some, None, refl, sym, ap, subst}
use Rattle.std.specs.List.{list_any, AllByRecursion, AllZip}
use Rattle.std.proofs.lemmas.Bool.{false≢true}
use Rattle.ew_model.specs.Sets.{Among}
use Rattle.ew_model.specs.Entries.{Entry, visible}
use Rattle.ew_model.specs.Tree.{Applied, Noted, based, entries_over, next_entry, noted_as, grow, tree_of}
use Rattle.ew_model.specs.Places.{place}
use Rattle.ew_model.specs.Operations.{operation_of, next_operation, operations_after, operations_of}
use Rattle.ew_model.proofs.SetLaws.{joined_left, joined_right}
use Rattle.ew_model.proofs.SortingLaws.{all_at}

module _ {N : Type 0} {M : Type 0} (same : N → N → Bool) (other : M → M → Bool) where
  -- the names known on both sides are, among those seen, the same events
  abbrev pub KnowAlike : List N → List M → List (N × M) → Type 0
  KnowAlike xs ys seen = AllByRecursion (λ (p : N × M). list_any (same p.0) xs ≡ list_any (other p.1) ys) seen

  -- the same events under two kinds of names
  abbrev pub Namesakes : List (N × M) → List (Applied N) → List (Applied M) → Type 0
  Namesakes seen [] [] = Unit {0}
  Namesakes seen [] (c ∷ cs) = ⊥
  Namesakes seen (a ∷ as') [] = ⊥
  Namesakes seen (a ∷ as') (c ∷ cs) = (a.act ≡ c.act) × KnowAlike a.over c.over seen × Namesakes (seen ++ (a.name, c.name) ∷ []) as' cs

  abbrev pub SameNote : List (N × M) → Noted N → Noted M → Type 0
  SameNote seen n m = Among (n.name, m.name) seen × (n.entry ≡ m.entry)

  -- the names of both sides, side by side
  abbrev pub names : List (N × M) → List (Applied N) → List (Applied M) → List (N × M)
  names seen [] cs = seen
  names seen (a ∷ as') [] = seen
  names seen (a ∷ as') (c ∷ cs) = names (seen ++ (a.name, c.name) ∷ []) as' cs

  kept_same : (b c : Bool) (n : Noted N) (m : Noted M) (ns : List (Noted N)) (ms : List (Noted M)) → b ≡ c → n.entry ≡ m.entry → map (λ (x : Noted N). x.entry) ns ≡ map (λ (x : Noted M). x.entry) ms
      → map (λ (x : Noted N). x.entry) (cond b (n ∷ ns) ns) ≡ map (λ (x : Noted M). x.entry) (cond c (m ∷ ms) ms)
  kept_same true true n m ns ms e f g = λ i. f i ∷ g i
  kept_same false false n m ns ms e f g = g
  kept_same true false n m ns ms e f g = absurd (false≢true (sym e))
  kept_same false true n m ns ms e f g = absurd (false≢true e)

  same_known : (seen : List (N × M)) (xs : List N) (ys : List M) (ns : List (Noted N)) (ms : List (Noted M)) → KnowAlike xs ys seen → AllZip (SameNote seen) ns ms
      → map (λ (x : Noted N). x.entry) (filter (λ n. list_any (same n.name) xs) ns) ≡ map (λ (x : Noted M). x.entry) (filter (λ m. list_any (other m.name) ys) ms)
  same_known seen xs ys [] [] k z = refl
  same_known seen xs ys [] (m ∷ ms) k z = absurd z
  same_known seen xs ys (n ∷ ns) [] k z = absurd z
  same_known seen xs ys (n ∷ ns) (m ∷ ms) k z =
      kept_same (list_any (same n.name) xs) (list_any (other m.name) ys) n m (filter (λ n. list_any (same n.name) xs) ns) (filter (λ m. list_any (other m.name) ys) ms)
      (all_at (λ (p : N × M). list_any (same p.0) xs ≡ list_any (other p.1) ys) seen (n.name, m.name) k z.0.0) z.0.1 (same_known seen xs ys ns ms k z.1)

  same_all : (seen : List (N × M)) (ns : List (Noted N)) (ms : List (Noted M)) → AllZip (SameNote seen) ns ms → map (λ (x : Noted N). x.entry) ns ≡ map (λ (x : Noted M). x.entry) ms
  same_all seen [] [] z = refl
  same_all seen [] (m ∷ ms) z = absurd z
  same_all seen (n ∷ ns) [] z = absurd z
  same_all seen (n ∷ ns) (m ∷ ms) z = λ i. z.0.1 i ∷ same_all seen ns ms z.1 i

  -- the entries over known names
  pub same_over : (b : ℕ) (seen : List (N × M)) (xs : List N) (ys : List M) (ns : List (Noted N)) (ms : List (Noted M)) → KnowAlike xs ys seen → AllZip (SameNote seen) ns ms → entries_over same b ns xs ≡ entries_over other b ms ys
  same_over b seen xs ys ns ms k z = ap (λ es. based b ++ es) (same_known seen xs ys ns ms k z)

  same_next : (b : ℕ) (seen : List (N × M)) (a : Applied N) (c : Applied M) (ns : List (Noted N)) (ms : List (Noted M)) → a.act ≡ c.act → KnowAlike a.over c.over seen → AllZip (SameNote seen) ns ms → next_entry same b ns a ≡ next_entry other b ms c
  unfolding next_entry
  same_next b seen a c ns ms e k z = λ i. place (e i) (same_over b seen a.over c.over ns ms k z i)

  grown : (seen : List (N × M)) (x : N) (y : M) (o : Option Entry) (ns : List (Noted N)) (ms : List (Noted M)) → AllZip (SameNote seen) ns ms → AllZip (SameNote (seen ++ (x, y) ∷ [])) (ns ++ noted_as x o) (ms ++ noted_as y o)
  grown seen x y None [] [] z = tt
  grown seen x y (Some e) [] [] z = ((joined_right seen ((x, y) ∷ []) (x, y) (inl refl), refl), tt)
  grown seen x y o [] (m ∷ ms) z = absurd z
  grown seen x y o (n ∷ ns) [] z = absurd z
  grown seen x y o (n ∷ ns) (m ∷ ms) z = ((joined_left seen ((x, y) ∷ []) (n.name, m.name) z.0.0, z.0.1), grown seen x y o ns ms z.1)

  same_grown : (b : ℕ) (seen : List (N × M)) (a : Applied N) (c : Applied M) (ns : List (Noted N)) (ms : List (Noted M)) → a.act ≡ c.act → KnowAlike a.over c.over seen → AllZip (SameNote seen) ns ms
      → AllZip (SameNote (seen ++ (a.name, c.name) ∷ [])) (grow same b ns a) (grow other b ms c)
  same_grown b seen a c ns ms e k z =
      subst (λ o. AllZip (SameNote (seen ++ (a.name, c.name) ∷ [])) (ns ++ noted_as a.name (next_entry same b ns a)) (ms ++ noted_as c.name o)) (same_next b seen a c ns ms e k z)
      (grown seen a.name c.name (next_entry same b ns a) ns ms z)

  renamed_from : (b : ℕ) (seen : List (N × M)) (as' : List (Applied N)) (cs : List (Applied M)) (ns : List (Noted N)) (ms : List (Noted M)) → Namesakes seen as' cs → AllZip (SameNote seen) ns ms → operations_after same b ns as' ≡ operations_after other b ms cs
  unfolding next_operation
  renamed_from b seen [] [] ns ms h z = refl
  renamed_from b seen [] (c ∷ cs) ns ms h z = absurd h
  renamed_from b seen (a ∷ as') [] ns ms h z = absurd h
  renamed_from b seen (a ∷ as') (c ∷ cs) ns ms h z =
      λ i. operation_of (visible (based b ++ same_all seen ns ms z i)) (same_next b seen a c ns ms h.0 h.1 z i)
      ∷ renamed_from b (seen ++ (a.name, c.name) ∷ []) as' cs (grow same b ns a) (grow other b ms c) h.2 (same_grown b seen a c ns ms h.0 h.1 z) i

  notes_from : (b : ℕ) (seen : List (N × M)) (as' : List (Applied N)) (cs : List (Applied M)) (ns : List (Noted N)) (ms : List (Noted M)) → Namesakes seen as' cs → AllZip (SameNote seen) ns ms
      → AllZip (SameNote (names seen as' cs)) (fold (grow same b) ns as') (fold (grow other b) ms cs)
  notes_from b seen [] [] ns ms h z = z
  notes_from b seen [] (c ∷ cs) ns ms h z = absurd h
  notes_from b seen (a ∷ as') [] ns ms h z = absurd h
  notes_from b seen (a ∷ as') (c ∷ cs) ns ms h z =
      notes_from b (seen ++ (a.name, c.name) ∷ []) as' cs (grow same b ns a) (grow other b ms c) h.2 (same_grown b seen a c ns ms h.0 h.1 z)

  -- The same events under other names do the same.
  pub renamed_operations : (b : ℕ) (as' : List (Applied N)) (cs : List (Applied M)) → Namesakes [] as' cs → operations_of same b as' ≡ operations_of other b cs
  unfolding operations_of
  renamed_operations b as' cs h = renamed_from b [] as' cs [] [] h tt

  -- And they leave the same, note by note.
  pub renamed_notes : (b : ℕ) (as' : List (Applied N)) (cs : List (Applied M)) → Namesakes [] as' cs → AllZip (SameNote (names [] as' cs)) (tree_of same b as') (tree_of other b cs)
  unfolding tree_of
  renamed_notes b as' cs h = notes_from b [] as' cs [] [] h tt
