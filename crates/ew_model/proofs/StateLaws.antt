-- What an apply, an advance and a retreat change in the records of a walker.
use Rattle.std.proofs.Common.{◌≡◌, ℕ, zero, suc, nat_eq, Bool, true, false, not, cond, ◌||◌, ◌&&◌, inl, inr, ⊎_elim, List, [], ◌∷◌, ◌++◌, map, filter, length, Some, None, refl, sym, ap, ◌∙◌, subst, append_assoc, append-nil}
use Rattle.std.specs.Ordering.{is_lt}
use Rattle.std.specs.Cmp.{tied_itself}
use Rattle.std.specs.List.Sorted.{IsStrictlySortedBy}
use Rattle.std.specs.declared.cmp.Ordering.{Ordering}
use Rattle.std.specs.declared.cmp.Ordering.TheVariants.{Less, Equal, Greater}
use Rattle.std.specs.List.{list_any, AllByRecursion}
use Rattle.std.proofs.lemmas.Bool.{false≢true, false_from_ne_true, eq-eqb, eqb-true, or_left, or_right, or_cases, and_parts, and_from}
use Rattle.std.proofs.lemmas.List.{map-append}
use Rattle.std.proofs.lemmas.List.Elements.{filter-append, filter_agree}
use Rattle.ew_model.specs.declared.id.Id.{Id}
use Rattle.ew_model.specs.Ids.{id_eq}
use Rattle.ew_model.specs.Sets.{Among}
use Rattle.ew_model.specs.Entries.{Inserted, Entry, inserted_cmp, deletes, is_deleted, insertions, order}
use Rattle.ew_model.specs.Tree.{based, Applied, Noted, all_entries, entries_over, next_entry, noted_as, tree_of}
use Rattle.ew_model.specs.Entries.Entry.{Insertion, Deletion, Mark}
use Rattle.ew_model.specs.Records.{holds, IsClosed, MayApply, IsRun, inserts, is_inserted, deletions_of, prepared_in, Record, record_in, records, walker_records, is_about, raised, one_less, lowered, MayAdvance, MayRetreat, without, AdvancesTell, RetreatsTell, IsNewId, fresh, struck, record_cmp, next_of, AppliedRecords, AppliesTell, AppliesKeep, AllPreparedIsAll}
use Rattle.ew_model.proofs.SetLaws.{among_joined, joined_left, joined_right, among_map, map_among}
use Rattle.ew_model.proofs.SortingLaws.{all_at, all_from}
use Rattle.ew_model.proofs.VersionLaws.{any_from, found_by}
use Rattle.ew_model.proofs.PlaceLaws.{placed_total, among_insertions, insertion_among}
use Rattle.ew_model.proofs.PrefixLaws.{insertions-append, over_insertions, ordered_among}
use Rattle.ew_model.proofs.RunLaws.{id_itself, id_same, base_only, part_cases, part_wider, named, entry_of, Fits, Single, Grown, old_id, ends_own, new_entry_id, place_fits, run_grown}
use Rattle.ew_model.proofs.PathOrder.{path_exact}
use Rattle.ew_model.proofs.ApartLaws.{last_id}
use Rattle.ew_model.proofs.TreeLaws.{tree_of-push}
use Rattle.ew_model.proofs.GapLaws.{behind}
use Rattle.ew_model.proofs.SiblingLaws.{order-push, reversed_at}
use Rattle.ew_model.specs.Sorting.{put_in_order, sort_by}
use Rattle.ew_model.specs.Siblings.{StandsBehind, StandsAhead}
use Rattle.ew_model.proofs.RecordLaws.{is_inserted_from, inserted_by, deleted_by, map_same, map_map, map_itself}
use Rattle.ew_model.proofs.OwnIndex.{sorted_order}

-- ONE MORE ENTRY
swap_any : (b c d : Bool) → (b || (c || d)) ≡ (c || (b || d))
swap_any true true d = refl
swap_any true false d = refl
swap_any false true d = refl
swap_any false false d = refl

pub any_more : {X : Type 0} (p : X → Bool) (xs : List X) (e : X) (ys : List X) → list_any p (xs ++ e ∷ ys) ≡ (p e || list_any p (xs ++ ys))
any_more p [] e ys = refl
any_more p (x ∷ xs) e ys = ap (λ c. p x || c) (any_more p xs e ys) ∙ swap_any (p x) (p e) (list_any p (xs ++ ys))

pub length_kept : {X : Type 0} (b : Bool) (x : X) (xs : List X) → length (cond b (x ∷ xs) xs) ≡ cond b (suc (length xs)) (length xs)
length_kept true x xs = refl
length_kept false x xs = refl

swap_count : (b c : Bool) (n : ℕ) → cond b (suc (cond c (suc n) n)) (cond c (suc n) n) ≡ cond c (suc (cond b (suc n) n)) (cond b (suc n) n)
swap_count true true n = refl
swap_count true false n = refl
swap_count false true n = refl
swap_count false false n = refl

pub count_more : {X : Type 0} (p : X → Bool) (xs : List X) (e : X) (ys : List X) → length (filter p (xs ++ e ∷ ys)) ≡ cond (p e) (suc (length (filter p (xs ++ ys)))) (length (filter p (xs ++ ys)))
count_more p [] e ys = length_kept (p e) e (filter p ys)
count_more p (x ∷ xs) e ys =
    length_kept (p x) x (filter p (xs ++ e ∷ ys))
    ∙ ap (λ n. cond (p x) (suc n) n) (count_more p xs e ys)
    ∙ swap_count (p x) (p e) (length (filter p (xs ++ ys)))
    ∙ ap (λ n. cond (p e) (suc n) n) (sym (length_kept (p x) x (filter p (xs ++ ys))))

pub none_count : {X : Type 0} (p : X → Bool) (xs : List X) → list_any p xs ≡ false → length (filter p xs) ≡ 0
none_count p [] h = refl
none_count p (x ∷ xs) h = at (p x) h (none_count p xs)
  where
    at : (b : Bool) → (b || list_any p xs) ≡ false → (list_any p xs ≡ false → length (filter p xs) ≡ 0) → length (cond b (x ∷ filter p xs) (filter p xs)) ≡ 0
    at true k f = absurd (false≢true (sym k))
    at false k f = f k

-- the entry may come into these: an insertion is new to them, a deletion's target is there
abbrev pub ComesInto : List Entry → Entry → Type 0
ComesInto entries (Insertion y) = (is_inserted entries y.id ≡ false) × (is_deleted entries y.id ≡ false)
ComesInto entries (Deletion t) = is_inserted entries t ≡ true
ComesInto entries Mark = Unit {0}

pub prepared_more : (xs ys : List Entry) (e : Entry) (x : Id) → ComesInto (xs ++ ys) e → prepared_in (xs ++ e ∷ ys) x ≡ cond (is_about e x) (suc (prepared_in (xs ++ ys) x)) (prepared_in (xs ++ ys) x)
prepared_more xs ys (Insertion y) x h =
    (λ i. cond (any_more (inserts x) xs (Insertion y) ys i) (suc (count_more (deletes x) xs (Insertion y) ys i)) 0)
    ∙ at (id_eq y.id x) refl
  where
    at : (b : Bool) → id_eq y.id x ≡ b → cond (b || is_inserted (xs ++ ys) x) (suc (deletions_of (xs ++ ys) x)) 0 ≡ cond b (suc (prepared_in (xs ++ ys) x)) (prepared_in (xs ++ ys) x)
    at true e =
        let same : y.id ≡ x = id_same y.id x e in
        let none : deletions_of (xs ++ ys) x ≡ 0 = none_count (deletes x) (xs ++ ys) (ap (is_deleted (xs ++ ys)) (sym same) ∙ h.1) in
        let out : is_inserted (xs ++ ys) x ≡ false = ap (is_inserted (xs ++ ys)) (sym same) ∙ h.0 in
        ap suc none ∙ sym (ap (λ c. suc (cond c (suc (deletions_of (xs ++ ys) x)) 0)) out)
    at false e = refl
prepared_more xs ys (Deletion t) x h =
    (λ i. cond (any_more (inserts x) xs (Deletion t) ys i) (suc (count_more (deletes x) xs (Deletion t) ys i)) 0)
    ∙ at (id_eq t x) refl
  where
    at : (b : Bool) → id_eq t x ≡ b → cond (is_inserted (xs ++ ys) x) (suc (cond b (suc (deletions_of (xs ++ ys) x)) (deletions_of (xs ++ ys) x))) 0 ≡ cond b (suc (prepared_in (xs ++ ys) x)) (prepared_in (xs ++ ys) x)
    at true e =
        let same : t ≡ x = id_same t x e in
        let here : is_inserted (xs ++ ys) x ≡ true = ap (is_inserted (xs ++ ys)) (sym same) ∙ h in
        ap (λ c. cond c (suc (suc (deletions_of (xs ++ ys) x))) 0) here ∙ sym (ap (λ c. suc (cond c (suc (deletions_of (xs ++ ys) x)) 0)) here)
    at false e = refl
prepared_more xs ys Mark x h = λ i. cond (any_more (inserts x) xs Mark ys i) (suc (count_more (deletes x) xs Mark ys i)) 0

-- ONE MORE NAME
test_other : (n k : ℕ) (names : List ℕ) → nat_eq n k ≡ false → holds (k ∷ names) n ≡ holds names n
test_other n k names h = ap (λ c. c || holds names n) h

pub holds_first : (k : ℕ) (names : List ℕ) → holds (k ∷ names) k ≡ true
holds_first k names = or_left (nat_eq k k) (holds names k) (eq-eqb k k refl)

filter_same : (p q : Noted ℕ → Bool) (notes : List (Noted ℕ)) → ((m : Noted ℕ) → Among m notes → p m ≡ q m) → filter p notes ≡ filter q notes
filter_same p q [] h = refl
filter_same p q (n ∷ notes) h = λ i. cond (h n (inl refl) i) (n ∷ filter_same p q notes (λ m k. h m (inr k)) i) (filter_same p q notes (λ m k. h m (inr k)) i)

-- the notes named by one more name: those before, and its own
abbrev pub OneMore : List (Noted ℕ) → List ℕ → Noted ℕ → Type 0
OneMore notes names n = (xs : List (Noted ℕ)) × (ys : List (Noted ℕ)) × (filter (named names) notes ≡ xs ++ ys) × (filter (named (n.name ∷ names)) notes ≡ xs ++ n ∷ ys)

pub chosen_more : (notes : List (Noted ℕ)) (names : List ℕ) (n : Noted ℕ) → Single notes → Among n notes → holds names n.name ≡ false → OneMore notes names n
chosen_more [] names n s m h = absurd m
chosen_more (k ∷ notes) names n s m h =
    ⊎_elim
    (λ (e : n ≡ k).
    let here : holds names k.name ≡ false = ap (λ (w : Noted ℕ). holds names w.name) (sym e) ∙ h in (
      [],
      filter (named names) notes,
      ap (λ b. cond b (k ∷ filter (named names) notes) (filter (named names) notes)) here,
      ap (λ b. cond b (k ∷ filter (named (n.name ∷ names)) notes) (filter (named (n.name ∷ names)) notes)) (ap (λ (w : Noted ℕ). holds (n.name ∷ names) w.name) (sym e) ∙ holds_first n.name names)
          ∙ (λ i. sym e i ∷ filter_same (named (n.name ∷ names)) (named names) notes (λ w j.
          test_other w.name n.name names (ap (λ (v : Noted ℕ). nat_eq w.name v.name) e ∙ all_at (λ (w : Noted ℕ). nat_eq w.name k.name ≡ false) notes w s.0 j)) i),
    ))
    (λ j. further (holds names k.name) refl (chosen_more notes names n s.1 j h) j)
    m
  where
    other : Among n notes → nat_eq k.name n.name ≡ false
    other j = false_from_ne_true (nat_eq k.name n.name) (λ e. false≢true (sym (all_at (λ (w : Noted ℕ). nat_eq w.name k.name ≡ false) notes n s.0 j) ∙ eq-eqb n.name k.name (sym (eqb-true k.name n.name e))))

    further : (b : Bool) → holds names k.name ≡ b → OneMore notes names n → Among n notes → OneMore (k ∷ notes) names n
    further true e d j = (
      k ∷ d.0,
      d.1,
      ap (λ c. cond c (k ∷ filter (named names) notes) (filter (named names) notes)) e ∙ ap (λ ws. k ∷ ws) d.2,
      ap (λ c. cond c (k ∷ filter (named (n.name ∷ names)) notes) (filter (named (n.name ∷ names)) notes)) (test_other k.name n.name names (other j) ∙ e) ∙ ap (λ ws. k ∷ ws) d.3,
    )
    further false e d j = (
      d.0,
      d.1,
      ap (λ c. cond c (k ∷ filter (named names) notes) (filter (named names) notes)) e ∙ d.2,
      ap (λ c. cond c (k ∷ filter (named (n.name ∷ names)) notes) (filter (named (n.name ∷ names)) notes)) (test_other k.name n.name names (other j) ∙ e) ∙ d.3,
    )

pub parts_joined : (b : ℕ) (xs ys : List (Noted ℕ)) → all_entries b (xs ++ ys) ≡ (based b ++ map entry_of xs) ++ map entry_of ys
parts_joined b xs ys = ap (λ es. based b ++ es) (map-append entry_of xs ys) ∙ sym (append_assoc (based b) (map entry_of xs) (map entry_of ys))

-- the number of a character, over a part with one more note
pub part_more : (b : ℕ) (notes : List (Noted ℕ)) (names : List ℕ) (n : Noted ℕ) → Single notes → Among n notes → holds names n.name ≡ false → ComesInto (entries_over nat_eq b notes names) n.entry
    → (x : Id) → prepared_in (entries_over nat_eq b notes (n.name ∷ names)) x ≡ cond (is_about n.entry x) (suc (prepared_in (entries_over nat_eq b notes names) x)) (prepared_in (entries_over nat_eq b notes names) x)
part_more b notes names n s m h into x =
    let d = chosen_more notes names n s m h in
    let before : entries_over nat_eq b notes names ≡ (based b ++ map entry_of d.0) ++ map entry_of d.1 = ap (all_entries b) d.2 ∙ parts_joined b d.0 d.1 in
    let after : entries_over nat_eq b notes (n.name ∷ names) ≡ (based b ++ map entry_of d.0) ++ n.entry ∷ map entry_of d.1 = ap (all_entries b) d.3 ∙ parts_joined b d.0 (n ∷ d.1) in
    ap (λ es. prepared_in es x) after
    ∙ prepared_more (based b ++ map entry_of d.0) (map entry_of d.1) n.entry x (subst (λ es. ComesInto es n.entry) before into)
    ∙ ap (λ es. cond (is_about n.entry x) (suc (prepared_in es x)) (prepared_in es x)) (sym before)

-- the base deletes nothing
pub base_inserts : (k : ℕ) (x : Id) → Among (Deletion x) (based k) → ⊥
base_inserts zero x i = i
base_inserts (suc k) x i = ⊎_elim (λ j. base_inserts k x j) (λ j. ⊎_elim (λ e. let no : ⊥ = cc in no) (λ no. no) j) (among_joined (based k) _ (Deletion x) i)

-- WHAT MAY COME IN
module _ (b : ℕ) (events : List (Applied ℕ)) (notes : List (Noted ℕ)) (g : Grown b events notes) (names : List ℕ) (closed : IsClosed events names) (n : Noted ℕ) (m : Among n notes) (may : MayAdvance events names n.name) where
  abbrev pub part : List Entry
  part = entries_over nat_eq b notes names

  -- the note's own character, in a part: then the part has the note
  pub own_only : (others : List ℕ) (y z : Inserted) → n.entry ≡ Insertion y → z.id ≡ y.id → Among (Insertion z) (entries_over nat_eq b notes others) → holds others n.name ≡ true
  own_only others y z is same here =
      ⊎_elim
      (λ k. absurd ((g.sources n m).agent y is (ap (λ (i : Id). i.agent) (sym same) ∙ (base_only b z (insertion_among (based b) z k)).0)))
      (λ h. let one : h.0 ≡ n = g.one_note h.0 n h.1 m z y (sym h.3) is same in ap (λ (w : Noted ℕ). holds others w.name) (sym one) ∙ h.2)
      (part_cases b notes others (Insertion z) here)

  pub not_yet : (y : Inserted) → n.entry ≡ Insertion y → is_inserted part y.id ≡ false
  not_yet y is = false_from_ne_true (is_inserted part y.id) (λ e.
      let found = found_by (inserts y.id) part e in
      let by = inserted_by y.id found.0 found.2 in
      false≢true (sym may.outside ∙ own_only names y by.0 is by.2 (subst (λ w. Among w part) by.1 found.1)))

  pub undeleted : (y : Inserted) → n.entry ≡ Insertion y → is_deleted part y.id ≡ false
  undeleted y is = false_from_ne_true (is_deleted part y.id) (λ e.
      let found = found_by (deletes y.id) part e in
      let by : found.0 ≡ Deletion y.id = deleted_by y.id found.0 found.2 in
      ⊎_elim
      (λ k. absurd (base_inserts b y.id (subst (λ w. Among w (based b)) by k)))
      (λ h.
      let source = g.sources h.0 h.1 in
      let over = source.event.over in
      let fits : Fits source.event.act (entries_over nat_eq b notes over) (Deletion y.id) = subst (Fits source.event.act (entries_over nat_eq b notes over)) (sym h.3 ∙ by) source.fits in
      let seen : holds over n.name ≡ true = own_only over y fits.0 is fits.2 (among_insertions (entries_over nat_eq b notes over) fits.0 fits.1) in
      false≢true (sym may.outside ∙ closed source.event source.there (ap (holds names) source.name ∙ h.2) n.name seen))
      (part_cases b notes names found.0 found.1))

  pub target_there : (t : Id) → n.entry ≡ Deletion t → is_inserted part t ≡ true
  target_there t is =
      let source = g.sources n m in
      let over = source.event.over in
      let fits : Fits source.event.act (entries_over nat_eq b notes over) (Deletion t) = subst (Fits source.event.act (entries_over nat_eq b notes over)) is source.fits in
      let here : Among fits.0 (insertions part) = subst (λ ns. Among fits.0 (insertions (entries_over nat_eq b ns names))) (append-nil notes) (part_wider b notes [] over names (λ k h. may.over source.event source.there source.name k h) fits.0 fits.1) in
      ap (is_inserted part) (sym fits.2) ∙ is_inserted_from part fits.0 here

  pub comes_in : ComesInto part n.entry
  comes_in = at n.entry refl
    where
      at : (e : Entry) → n.entry ≡ e → ComesInto part e
      at (Insertion y) is = (not_yet y is, undeleted y is)
      at (Deletion t) is = target_there t is
      at Mark is = tt

  pub advanced : records (all_entries b notes) (entries_over nat_eq b notes (n.name ∷ names)) ≡ map (raised n.entry) (records (all_entries b notes) part)
  advanced =
      map_same (record_in (all_entries b notes) (entries_over nat_eq b notes (n.name ∷ names))) (λ z. raised n.entry (record_in (all_entries b notes) part z)) (order (all_entries b notes))
      (λ z i. ap (λ k. record { node = z; prepared = k; effect = not (is_deleted (all_entries b notes) z.id) }) (part_more b notes names n g.single m may.outside comes_in z.id))
      ∙ sym (map_map (record_in (all_entries b notes) part) (raised n.entry) (order (all_entries b notes)))

  pub closed_with : IsClosed events (n.name ∷ names)
  closed_with c i h k seen =
      ⊎_elim
      (λ own. or_right (nat_eq k n.name) (holds names k) (may.over c i (eqb-true c.name n.name own) k seen))
      (λ in_names. or_right (nat_eq k n.name) (holds names k) (closed c i in_names k seen))
      (or_cases (nat_eq c.name n.name) (holds names c.name) h)

pub advances_tell : AdvancesTell
advances_tell b events prepared n run closed m may =
    let g = run_grown b events run in
    (advanced b events (tree_of nat_eq b events) g prepared closed n m may, closed_with b events (tree_of nat_eq b events) g prepared closed n m may)

-- RETREATS
pub holds_without : (x k : ℕ) (names : List ℕ) → holds (without x names) k ≡ holds names k && not (nat_eq k x)
holds_without x k [] = refl
holds_without x k (n ∷ names) = at (nat_eq n x) refl (nat_eq k n) refl (holds_without x k names)
  where
    at : (b : Bool) → nat_eq n x ≡ b → (c : Bool) → nat_eq k n ≡ c → holds (without x names) k ≡ holds names k && not (nat_eq k x)
        → list_any (nat_eq k) (cond (not b) (n ∷ without x names) (without x names)) ≡ (c || holds names k) && not (nat_eq k x)
    at true e true f h =
        let same : nat_eq k x ≡ true = eq-eqb k x (eqb-true k n f ∙ eqb-true n x e) in
        h ∙ ap (λ c. holds names k && not c) same ∙ false_and (holds names k) ∙ sym (ap not same)
      where
        false_and : (b : Bool) → (b && false) ≡ false
        false_and true = refl
        false_and false = refl
    at true e false f h = h
    at false e true f h =
        let other : nat_eq k x ≡ false = ap (λ w. nat_eq w x) (eqb-true k n f) ∙ e in
        ap (λ c. c || holds (without x names) k) f ∙ sym (ap not other)
    at false e false f h = ap (λ c. c || holds (without x names) k) f ∙ h

pub lowered_back : (e : Entry) (r : Record) → lowered e (raised e r) ≡ r
lowered_back e r = at (is_about e r.node.id)
  where
    at : (b : Bool) → record { node = r.node; prepared = cond b (one_less (cond b (suc r.prepared) r.prepared)) (cond b (suc r.prepared) r.prepared); effect = r.effect } ≡ r
    at true = refl
    at false = refl

pub with_without : (x k : ℕ) (names : List ℕ) → holds names x ≡ true → holds (x ∷ without x names) k ≡ holds names k
with_without x k names h = ap (λ c. nat_eq k x || c) (holds_without x k names) ∙ at (nat_eq k x) refl (holds names k) refl
  where
    at : (b : Bool) → nat_eq k x ≡ b → (c : Bool) → holds names k ≡ c → (b || (c && not b)) ≡ c
    at true e true f = refl
    at true e false f = absurd (false≢true (sym f ∙ (ap (holds names) (eqb-true k x e) ∙ h)))
    at false e true f = refl
    at false e false f = refl

-- parts by names that hold the same are one
pub part_same : (b : ℕ) (notes : List (Noted ℕ)) (names others : List ℕ) → ((k : ℕ) → holds names k ≡ holds others k) → entries_over nat_eq b notes names ≡ entries_over nat_eq b notes others
part_same b notes names others h = ap (all_entries b) (filter_agree (named names) (named others) (λ n. h n.name) notes)

module _ (events : List (Applied ℕ)) (names : List ℕ) (closed : IsClosed events names) (x : ℕ) (may : MayRetreat events names x) where
  pub left_in : (k : ℕ) → holds (without x names) k ≡ true → (holds names k ≡ true) × (nat_eq k x ≡ false)
  left_in k h =
      let parts = and_parts (holds names k) (not (nat_eq k x)) (sym (holds_without x k names) ∙ h) in
      (parts.0, not_true (nat_eq k x) parts.1)
    where
      not_true : (b : Bool) → not b ≡ true → b ≡ false
      not_true true e = absurd (false≢true e)
      not_true false e = refl

  pub in_left : (k : ℕ) → holds names k ≡ true → nat_eq k x ≡ false → holds (without x names) k ≡ true
  in_left k h e = holds_without x k names ∙ and_from (holds names k) (not (nat_eq k x)) h (ap not e)

  pub seen_left : (c : Applied ℕ) → Among c events → holds names c.name ≡ true → (k : ℕ) → holds c.over k ≡ true → holds (without x names) k ≡ true
  seen_left c i h k seen =
      in_left k (closed c i h k seen) (false_from_ne_true (nat_eq k x) (λ e. false≢true (sym (may.free c i h) ∙ (ap (holds c.over) (sym (eqb-true k x e)) ∙ seen))))

  pub closed_without : IsClosed events (without x names)
  closed_without c i h k seen = seen_left c i (left_in c.name h).0 k seen

  pub may_return : MayAdvance events (without x names) x
  may_return = record {
    outside = holds_without x x names ∙ ap (λ c. holds names x && not c) (eq-eqb x x refl) ∙ nothing (holds names x);
    over = λ c i e k seen. seen_left c i (ap (holds names) e ∙ may.inside) k seen;
  }
    where
      nothing : (b : Bool) → (b && false) ≡ false
      nothing true = refl
      nothing false = refl

pub retreats_tell : RetreatsTell
retreats_tell b events prepared n run closed m may =
    let notes = tree_of nat_eq b events in
    let left = without n.name prepared in
    let all = all_entries b notes in
    let back = closed_without events prepared closed n.name may in
    let forth = (advances_tell b events left n run back m (may_return events prepared closed n.name may)).0 in
    let whole : entries_over nat_eq b notes (n.name ∷ left) ≡ entries_over nat_eq b notes prepared = part_same b notes (n.name ∷ left) prepared (λ k. with_without n.name k prepared may.inside) in (
      sym (ap (map (lowered n.entry)) (ap (records all) (sym whole) ∙ forth)
          ∙ map_map (raised n.entry) (lowered n.entry) (records all (entries_over nat_eq b notes left))
          ∙ map_itself (λ r. lowered n.entry (raised n.entry r)) (records all (entries_over nat_eq b notes left)) (lowered_back n.entry)),
      back,
    )

-- APPLIES
abbrev pub ahead : Ordering → Ordering
ahead o = cond (is_lt o) Less Greater

pub put_one_behind : {X : Type 0} (R : X → X → Ordering) (x y : X) (ys : List X) → (R x y ≡ Less → ⊥) → put_in_order R x (y ∷ ys) ≡ y ∷ put_in_order R x ys
put_one_behind R x y ys n = at (R x y) n
  where
    at : (r : Ordering) → (r ≡ Less → ⊥) → cond (is_lt r) (x ∷ y ∷ ys) (y ∷ put_in_order R x ys) ≡ y ∷ put_in_order R x ys
    at Less n = absurd (n refl)
    at Equal n = refl
    at Greater n = refl

pub put_one_before : {X : Type 0} (R : X → X → Ordering) (x y : X) (ys : List X) → R x y ≡ Less → put_in_order R x (y ∷ ys) ≡ x ∷ y ∷ ys
put_one_before R x y ys e = ap (λ r. cond (is_lt r) (x ∷ y ∷ ys) (y ∷ put_in_order R x ys)) e

abbrev pub node_of : Record → Inserted
node_of r = r.node

unlike : (o : Ordering) → o ≡ Greater → o ≡ Less → ⊥
unlike o g l = let no : ⊥ = cc in no

-- a list of records in order, and the new one beside its neighbour
pub record_first : (y : Inserted) (qs : List Record) → AllByRecursion (λ z. inserted_cmp y z ≡ Less) (map node_of qs) → put_in_order record_cmp (fresh y) qs ≡ fresh y ∷ qs
record_first y [] h = refl
record_first y (q ∷ qs) h = put_one_before record_cmp (fresh y) q qs h.0

pub record_behind : (y : Inserted) (rs : List Record) (r : Record) (qs : List Record) → IsStrictlySortedBy inserted_cmp (map node_of (rs ++ r ∷ qs)) → StandsBehind (map node_of (rs ++ r ∷ qs)) y.path r.node.path
    → put_in_order record_cmp (fresh y) (rs ++ r ∷ qs) ≡ rs ++ r ∷ fresh y ∷ qs
unfolding IsStrictlySortedBy
record_behind y [] r qs s h =
    put_one_behind record_cmp (fresh y) r qs (unlike (inserted_cmp y r.node) (reversed_at y r.node Less (h r.node (inl refl) ∙ ap behind (tied_itself placed_total r.node))))
    ∙ ap (λ ws. r ∷ ws) (record_first y qs (all_from (λ z. inserted_cmp y z ≡ Less) (map node_of qs) (λ z m. reversed_at y z Greater (h z (inr m) ∙ ap behind (reversed_at z r.node Less (all_at (λ w. inserted_cmp r.node w ≡ Less) (map node_of qs) z s.0 m))))))
record_behind y (q ∷ rs) r qs s h =
    put_one_behind record_cmp (fresh y) q (rs ++ r ∷ qs) (unlike (inserted_cmp y q.node) (reversed_at y q.node Less (h q.node (inl refl) ∙ ap behind (all_at (λ w. inserted_cmp q.node w ≡ Less) (map node_of (rs ++ r ∷ qs)) r.node s.0
    (map_among node_of (rs ++ r ∷ qs) r (joined_right rs (r ∷ qs) r (inl refl)))))))
    ∙ ap (λ ws. q ∷ ws) (record_behind y rs r qs s.1 (λ z m. h z (inr m)))

pub record_ahead : (y : Inserted) (rs : List Record) (r : Record) (qs : List Record) → IsStrictlySortedBy inserted_cmp (map node_of (rs ++ r ∷ qs)) → StandsAhead (map node_of (rs ++ r ∷ qs)) y.path r.node.path
    → put_in_order record_cmp (fresh y) (rs ++ r ∷ qs) ≡ rs ++ fresh y ∷ r ∷ qs
unfolding IsStrictlySortedBy
record_ahead y [] r qs s h = put_one_before record_cmp (fresh y) r qs (reversed_at y r.node Greater (h r.node (inl refl) ∙ ap ahead (tied_itself placed_total r.node)))
record_ahead y (q ∷ rs) r qs s h =
    put_one_behind record_cmp (fresh y) q (rs ++ r ∷ qs) (unlike (inserted_cmp y q.node) (reversed_at y q.node Less (h q.node (inl refl) ∙ ap ahead (all_at (λ w. inserted_cmp q.node w ≡ Less) (map node_of (rs ++ r ∷ qs)) r.node s.0
    (map_among node_of (rs ++ r ∷ qs) r (joined_right rs (r ∷ qs) r (inl refl)))))))
    ∙ ap (λ ws. q ∷ ws) (record_ahead y rs r qs s.1 (λ z m. h z (inr m)))

pub records_put : (all known : List Entry) (y : Inserted) (zs : List Inserted) → map (record_in all known) (put_in_order inserted_cmp y zs) ≡ put_in_order record_cmp (record_in all known y) (map (record_in all known) zs)
records_put all known y [] = refl
records_put all known y (z ∷ zs) = at (is_lt (inserted_cmp y z)) ∙ ap (λ ws. cond (is_lt (inserted_cmp y z)) (record_in all known y ∷ record_in all known z ∷ map (record_in all known) zs) (record_in all known z ∷ ws)) (records_put all known y zs)
  where
    at : (b : Bool) → map (record_in all known) (cond b (y ∷ z ∷ zs) (z ∷ put_in_order inserted_cmp y zs)) ≡ cond b (record_in all known y ∷ record_in all known z ∷ map (record_in all known) zs) (record_in all known z ∷ map (record_in all known) (put_in_order inserted_cmp y zs))
    at true = refl
    at false = refl

put_record_same : (r s : Record) (rs qs : List Record) → r ≡ s → rs ≡ qs → put_in_order record_cmp r rs ≡ put_in_order record_cmp s qs
put_record_same r s rs qs e f = λ i. put_in_order record_cmp (e i) (f i)

pub order-delete : (entries : List Entry) (t : Id) → order (entries ++ Deletion t ∷ []) ≡ order entries
unfolding order
order-delete entries t = ap (sort_by inserted_cmp) (insertions-append entries (Deletion t ∷ []) ∙ append-nil (insertions entries))

pub order-mark : (entries : List Entry) → order (entries ++ Mark ∷ []) ≡ order entries
unfolding order
order-mark entries = ap (sort_by inserted_cmp) (insertions-append entries (Mark ∷ []) ∙ append-nil (insertions entries))

pub nodes_of : (all part : List Entry) → map node_of (records all part) ≡ order all
nodes_of all part = map_map (record_in all part) node_of (order all) ∙ map_itself (λ z. z) (order all) (λ z. refl)

some_id : (x y : Id) → Some x ≡ Some y → x ≡ y
some_id x y e = cc

-- the records after an entry, where it may come in
module _ (all part : List Entry) where
  pub number_after : (e : Entry) → ComesInto part e → (x : Id) → prepared_in (part ++ e ∷ []) x ≡ cond (is_about e x) (suc (prepared_in part x)) (prepared_in part x)
  number_after e h x = prepared_more part [] e x (subst (λ es. ComesInto es e) (sym (append-nil part)) h) ∙ ap (λ es. cond (is_about e x) (suc (prepared_in es x)) (prepared_in es x)) (append-nil part)

  pub deleted_after : (e : Entry) (x : Id) → is_deleted (all ++ e ∷ []) x ≡ (deletes x e || is_deleted all x)
  deleted_after e x = any_more (deletes x) all e [] ∙ ap (λ es. deletes x e || is_deleted es x) (append-nil all)

  not_deleted_after : (b c : Bool) → not (b || c) ≡ cond b false (not c)
  not_deleted_after true c = refl
  not_deleted_after false c = refl

  pub records_struck : (t : Id) → ComesInto part (Deletion t) → records (all ++ Deletion t ∷ []) (part ++ Deletion t ∷ []) ≡ map (struck t) (records all part)
  records_struck t h =
      ap (map (record_in (all ++ Deletion t ∷ []) (part ++ Deletion t ∷ []))) (order-delete all t)
      ∙ map_same (record_in (all ++ Deletion t ∷ []) (part ++ Deletion t ∷ [])) (λ z. struck t (record_in all part z)) (order all)
      (λ z m. λ i. record {
        node = z;
        prepared = number_after (Deletion t) h z.id i;
        effect = (ap not (deleted_after (Deletion t) z.id) ∙ not_deleted_after (id_eq t z.id) (is_deleted all z.id)) i;
      })
      ∙ sym (map_map (record_in all part) (struck t) (order all))

  -- a mark leaves the records as they are
  pub records_marked : records (all ++ Mark ∷ []) (part ++ Mark ∷ []) ≡ records all part
  records_marked =
      ap (map (record_in (all ++ Mark ∷ []) (part ++ Mark ∷ []))) (order-mark all)
      ∙ map_same (record_in (all ++ Mark ∷ []) (part ++ Mark ∷ [])) (record_in all part) (order all)
      (λ z m. λ i. record { node = z; prepared = number_after Mark tt z.id i; effect = not (deleted_after Mark z.id i) })

  module _ (y : Inserted) (new : (z : Inserted) → Among z (insertions all) → z.id ≡ y.id → ⊥) (ends : last_id None y.path ≡ Some y.id) (own : (z : Inserted) → Among z (insertions all) → last_id None z.path ≡ Some z.id) (h : ComesInto part (Insertion y)) (kept : is_deleted all y.id ≡ false) where
    abbrev entries_after : List Entry
    entries_after = all ++ Insertion y ∷ []

    abbrev part_after : List Entry
    part_after = part ++ Insertion y ∷ []

    new_record : record_in entries_after part_after y ≡ fresh y
    new_record = λ i. record {
      node = y;
      prepared = (number_after (Insertion y) h y.id ∙ ap (λ c. cond c (suc (prepared_in part y.id)) (prepared_in part y.id)) (id_itself y.id) ∙ ap (λ c. suc (cond c (suc (deletions_of part y.id)) 0)) h.0) i;
      effect = (ap not (deleted_after (Insertion y) y.id) ∙ ap not kept) i;
    }

    old_record : (z : Inserted) → Among z (order all) → record_in entries_after part_after z ≡ record_in all part z
    old_record z m =
        let other : id_eq y.id z.id ≡ false = false_from_ne_true (id_eq y.id z.id) (λ e. new z (ordered_among all z m) (sym (id_same y.id z.id e))) in
        λ i. record {
          node = z;
          prepared = (number_after (Insertion y) h z.id ∙ ap (λ c. cond c (suc (prepared_in part z.id)) (prepared_in part z.id)) other) i;
          effect = ap not (deleted_after (Insertion y) z.id) i;
        }

    pub records_fresh : records entries_after part_after ≡ put_in_order record_cmp (fresh y) (records all part)
    records_fresh =
        ap (map (record_in entries_after part_after)) (order-push all y (λ z m tie.
        let inside = ordered_among all z m in
        new z inside (some_id z.id y.id (sym (own z inside) ∙ (ap (last_id None) (sym (path_exact y.path z.path tie)) ∙ ends)))))
        ∙ records_put entries_after part_after y (order all)
        ∙ put_record_same (record_in entries_after part_after y) (fresh y) (map (record_in entries_after part_after) (order all)) (records all part) new_record (map_same (record_in entries_after part_after) (record_in all part) (order all) old_record)

module _ (b : ℕ) (events : List (Applied ℕ)) (notes : List (Noted ℕ)) (g : Grown b events notes) (a : Applied ℕ) (may : MayApply events a) where
  abbrev pub seen_part : List Entry
  seen_part = entries_over nat_eq b notes a.over

  -- a new id is deleted nowhere
  pub nowhere_deleted : (x : Id) → IsNewId events x → is_deleted (all_entries b notes) x ≡ false
  nowhere_deleted x new = false_from_ne_true (is_deleted (all_entries b notes) x) (λ e.
      let found = found_by (deletes x) (all_entries b notes) e in
      let by : found.0 ≡ Deletion x = deleted_by x found.0 found.2 in
      ⊎_elim
      (λ k. base_inserts b x (subst (λ w. Among w (based b)) by k))
      (λ k.
      let from = among_map entry_of notes found.0 k in
      let source = g.sources from.0 from.1 in
      let over = source.event.over in
      let fits : Fits source.event.act (entries_over nat_eq b notes over) (Deletion x) = subst (Fits source.event.act (entries_over nat_eq b notes over)) (sym from.2 ∙ by) source.fits in
      old_id b events notes g x new fits.0 (over_insertions nat_eq b notes over fits.0 fits.1) fits.2)
      (among_joined (based b) (map entry_of notes) found.0 found.1))

  pub part_in_all : (e : Entry) → Among e seen_part → Among e (all_entries b notes)
  part_in_all e m =
      ⊎_elim
      (λ k. joined_left (based b) (map entry_of notes) e k)
      (λ h. joined_right (based b) (map entry_of notes) e (subst (λ w. Among w (map entry_of notes)) (sym h.3) (map_among entry_of notes h.0 h.1)))
      (part_cases b notes a.over e m)

  pub part_undeleted : (x : Id) → is_deleted (all_entries b notes) x ≡ false → is_deleted seen_part x ≡ false
  part_undeleted x none = false_from_ne_true (is_deleted seen_part x) (λ e.
      let found = found_by (deletes x) seen_part e in
      false≢true (sym none ∙ any_from (deletes x) (all_entries b notes) found.0 (part_in_all found.0 found.1) found.2))

  pub part_uninserted : (x : Id) → IsNewId events x → is_inserted seen_part x ≡ false
  part_uninserted x new = false_from_ne_true (is_inserted seen_part x) (λ e.
      let found = found_by (inserts x) seen_part e in
      let by = inserted_by x found.0 found.2 in
      let here : Among by.0 (insertions seen_part) = insertion_among seen_part by.0 (subst (λ w. Among w seen_part) by.1 found.1) in
      old_id b events notes g x new by.0 (over_insertions nat_eq b notes a.over by.0 here) by.2)

  pub applied_records : (e : Entry) → Fits a.act seen_part e → AppliedRecords e (records (all_entries b notes) seen_part) (records (all_entries b notes ++ e ∷ []) (seen_part ++ e ∷ []))
  applied_records (Insertion y) fits =
      let all = all_entries b notes in
      let new : IsNewId events y.id = new_entry_id events a.act y may.act fits.0 in
      let kept : is_deleted all y.id ≡ false = nowhere_deleted y.id new in
      let put : records (all ++ Insertion y ∷ []) (seen_part ++ Insertion y ∷ []) ≡ put_in_order record_cmp (fresh y) (records all seen_part) =
      records_fresh all seen_part y (old_id b events notes g y.id new) fits.1 (ends_own b events notes g) (part_uninserted y.id new, part_undeleted y.id kept) kept in
      let sorted : IsStrictlySortedBy inserted_cmp (map node_of (records all seen_part)) = subst (IsStrictlySortedBy inserted_cmp) (sym (nodes_of all seen_part)) (sorted_order all g.apart) in (
        put,
        λ rs qs r e h. put ∙ ap (put_in_order record_cmp (fresh y)) e ∙ record_behind y rs r qs (subst (λ ws. IsStrictlySortedBy inserted_cmp (map node_of ws)) e sorted) (subst (λ ws. StandsBehind (map node_of ws) y.path r.node.path) e h),
        λ rs qs r e h. put ∙ ap (put_in_order record_cmp (fresh y)) e ∙ record_ahead y rs r qs (subst (λ ws. IsStrictlySortedBy inserted_cmp (map node_of ws)) e sorted) (subst (λ ws. StandsAhead (map node_of ws) y.path r.node.path) e h),
      )
  applied_records (Deletion t) fits =
      records_struck (all_entries b notes) seen_part t (ap (is_inserted seen_part) (sym fits.2) ∙ is_inserted_from seen_part fits.0 fits.1)
  applied_records Mark fits = records_marked (all_entries b notes) seen_part

  -- the part that is prepared after the apply
  pub part_after_apply : (e : Entry) → entries_over nat_eq b (notes ++ record { name = a.name; entry = e } ∷ []) (a.name ∷ a.over) ≡ seen_part ++ e ∷ []
  part_after_apply e =
      ap (all_entries b) (filter-append (named (a.name ∷ a.over)) notes (record { name = a.name; entry = e } ∷ [])
      ∙ ap (λ c. filter (named (a.name ∷ a.over)) notes ++ cond c (record { name = a.name; entry = e } ∷ []) []) (holds_first a.name a.over)
      ∙ ap (λ ns. ns ++ record { name = a.name; entry = e } ∷ []) (filter_same (named (a.name ∷ a.over)) (named a.over) notes (λ m i. test_other m.name a.name a.over (others m i))))
      ∙ parts_joined b (filter (named a.over) notes) (record { name = a.name; entry = e } ∷ [])
    where
      others : (m : Noted ℕ) → Among m notes → nat_eq m.name a.name ≡ false
      others m i = false_from_ne_true (nat_eq m.name a.name) (λ h.
          let source = g.sources m i in
          false≢true (sym may.name ∙ any_from (λ (c : Applied ℕ). nat_eq c.name a.name) events source.event source.there (eq-eqb source.event.name a.name (source.name ∙ eqb-true m.name a.name h))))

pub applies_tell : AppliesTell
unfolding next_entry
applies_tell b events prepared name act e run may is =
    let a = next_of name act prepared in
    let notes = tree_of nat_eq b events in
    let g = run_grown b events run in
    let grown : tree_of nat_eq b (events ++ a ∷ []) ≡ notes ++ record { name = name; entry = e } ∷ [] = tree_of-push nat_eq b events a ∙ ap (λ o. notes ++ noted_as name o) is in
    let whole : all_entries b (tree_of nat_eq b (events ++ a ∷ [])) ≡ all_entries b notes ++ e ∷ [] = ap (all_entries b) grown ∙ parts_joined b notes (record { name = name; entry = e } ∷ []) in
    let part : entries_over nat_eq b (tree_of nat_eq b (events ++ a ∷ [])) (name ∷ prepared) ≡ entries_over nat_eq b notes prepared ++ e ∷ [] =
    ap (λ ns. entries_over nat_eq b ns (name ∷ prepared)) grown ∙ part_after_apply b events notes g a may e in
    let after : records (all_entries b notes ++ e ∷ []) (entries_over nat_eq b notes prepared ++ e ∷ []) ≡ walker_records b (events ++ a ∷ []) (name ∷ prepared) = sym (λ i. records (whole i) (part i)) in
    subst (AppliedRecords e (walker_records b events prepared)) after (applied_records b events notes g a may e (place_fits act (entries_over nat_eq b notes prepared) e is))

pub run_push : (before later : List (Applied ℕ)) (a : Applied ℕ) → IsRun before later → MayApply (before ++ later) a → IsRun before (later ++ a ∷ [])
run_push before [] a h may = (subst (λ es. MayApply es a) (append-nil before) may, tt)
run_push before (c ∷ later) a h may = (h.0, run_push (before ++ c ∷ []) later a h.1 (subst (λ es. MayApply es a) (sym (append_assoc before (c ∷ []) later)) may))

pub applies_keep : AppliesKeep
applies_keep events prepared name act run may = (
  run_push [] events (next_of name act prepared) run may,
  λ c i h k seen. ⊎_elim
      (λ old. or_right (nat_eq k name) (holds prepared k) (may.over c old (in_old c old h) k seen))
      (λ last. ⊎_elim (λ e. or_right (nat_eq k name) (holds prepared k) (ap (λ (w : Applied ℕ). holds w.over k) (sym e) ∙ seen)) (λ no. absurd no) last)
      (among_joined events (next_of name act prepared ∷ []) c i),
)
  where
    in_old : (c : Applied ℕ) → Among c events → holds (name ∷ prepared) c.name ≡ true → holds prepared c.name ≡ true
    in_old c old h =
        ⊎_elim (λ own. absurd (false≢true (sym may.name ∙ any_from (λ (w : Applied ℕ). nat_eq w.name name) events c old own))) (λ k. k) (or_cases (nat_eq c.name name) (holds prepared c.name) h)

pub all_kept_by : (p : Noted ℕ → Bool) (notes : List (Noted ℕ)) → ((m : Noted ℕ) → Among m notes → p m ≡ true) → filter p notes ≡ notes
all_kept_by p [] h = refl
all_kept_by p (n ∷ notes) h = ap (λ c. cond c (n ∷ filter p notes) (filter p notes)) (h n (inl refl)) ∙ ap (λ ws. n ∷ ws) (all_kept_by p notes (λ m i. h m (inr i)))

pub all_prepared_is_all : AllPreparedIsAll
all_prepared_is_all b events prepared run h =
    let notes = tree_of nat_eq b events in
    let g = run_grown b events run in
    ap (all_entries b) (all_kept_by (named prepared) notes (λ m i. let source = g.sources m i in ap (holds prepared) (sym source.name) ∙ h source.event source.there))
