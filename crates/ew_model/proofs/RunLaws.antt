-- What is so of the tree of a walker's events: their entries, ids and paths are apart, and targets are there.
use Rattle.std.proofs.Common.{◌≡◌, ℕ, zero, suc, nat_eq, Bool, true, false, ◌⊎◌, inl, inr, ⊎_elim, List, [], ◌∷◌, ◌++◌, map, filter, Option, Some, None, option_map, slice_get, refl, sym, ap, ◌∙◌, subst, append_assoc, append-nil}
use Rattle.std.specs.Ordering.{is_eq}
use Rattle.std.specs.declared.cmp.Ordering.TheVariants.{Equal}
use Rattle.std.specs.Cmp.{tied_itself}
use Rattle.std.specs.List.{list_any, AllByRecursion}
use Rattle.std.proofs.lemmas.Bool.{false≢true, false_from_ne_true, eq-eqb, eqb-true}
use Rattle.ew_model.specs.declared.id.Id.{Id}
use Rattle.ew_model.specs.declared.event.Op.TheVariants.{Ins}
use Rattle.ew_model.specs.Ids.{id_cmp, id_eq}
use Rattle.ew_model.specs.Sets.{Among}
use Rattle.ew_model.specs.Paths.{Step}
use Rattle.ew_model.specs.Entries.{Inserted, Entry, inserted_cmp, insertions, order, visible}
use Rattle.ew_model.specs.Places.{Act, new_path, path_before, place}
use Rattle.ew_model.specs.Tree.{base_id, based, base_path, Applied, Noted, all_entries, entries_over, next_entry, noted_as, grow, tree_of}
use Rattle.ew_model.specs.Entries.Entry.{Insertion, Deletion, Mark}
use Rattle.ew_model.specs.Places.Act.{InsertAs, DeleteAt, MarkAs}
use Rattle.ew_model.specs.Records.{holds, inserts_as, IsNewId, IsNewAct, MayApply, IsRun}
use Rattle.ew_model.proofs.PathOrder.{path_exact, id_total, id_exact}
use Rattle.ew_model.proofs.SetLaws.{among_joined, joined_left, joined_right, among_filter, filter_among, among_map, map_among}
use Rattle.ew_model.proofs.SortingLaws.{NoTies, all_at, all_from}
use Rattle.ew_model.proofs.VersionLaws.{any_from}
use Rattle.ew_model.proofs.PlaceLaws.{ApartByPath, among_insertions, insertion_among}
use Rattle.ew_model.proofs.PrefixLaws.{insertions-append, all_insertions-append, ordered_among, visible_among}
use Rattle.ew_model.proofs.ApartLaws.{last_id, EndsWhere, place_ends}
use Rattle.ew_model.proofs.TextLaws.{IdsApart}
use Rattle.ew_model.proofs.TreeLaws.{tree_of-push}
use Rattle.ew_model.proofs.GapLaws.{eq_from}
use Rattle.ew_model.proofs.BaseLaws.{base_stem}
use Rattle.ew_model.proofs.OperationLaws.{got}

pub id_itself : (x : Id) → id_eq x x ≡ true
id_itself x = ap is_eq (tied_itself id_total x)

pub id_same : (x y : Id) → id_eq x y ≡ true → x ≡ y
id_same x y e = id_exact x y (eq_from (id_cmp x y) e)

-- BASE
abbrev base_char : ℕ → Inserted
base_char n = record { id = base_id n; path = base_path n; ch = 0 }

pub base_only : (n : ℕ) (z : Inserted) → Among z (insertions (based n)) → (z.id.agent ≡ []) × (last_id None z.path ≡ Some z.id)
base_only zero z m = absurd m
base_only (suc n) z m =
    ⊎_elim
    (λ k. base_only n z k)
    (λ k. ⊎_elim (λ e. (ap (λ (w : Inserted). w.id.agent) e, subst (λ (w : Inserted). last_id None w.path ≡ Some w.id) (sym e) (base_end n))) (λ no. absurd no) k)
    (among_joined (insertions (based n)) (base_char n ∷ []) z (subst (Among z) (insertions-append (based n) (Insertion (base_char n) ∷ [])) m))
  where
    ends : (o : Option Id) (p : List Step) (s : Step) → last_id o (p ++ s ∷ []) ≡ Some s.child
    ends o [] s = refl
    ends o (t ∷ p) s = ends (Some t.child) p s

    base_end : (n : ℕ) → last_id None (base_path n) ≡ Some (base_id n)
    base_end zero = refl
    base_end (suc n) = ends None (base_path n) _

-- WHAT AN EVENT LEAVES
-- a character under the event's id, at a path that ends with it; or a deletion of a character that is there
abbrev pub Fits : Act → List Entry → Entry → Type 0
Fits a entries (Insertion y) = (inserts_as y.id a ≡ true) × (last_id None y.path ≡ Some y.id)
Fits a entries (Deletion t) = (y : Inserted) × Among y (insertions entries) × (y.id ≡ t)
Fits a entries Mark = Unit {0}

mapped_from : {A B : Type 0} (f : A → B) (o : Option A) (e : B) → option_map f o ≡ Some e → (p : A) × (o ≡ Some p) × (f p ≡ e)
mapped_from f None e h = let no : ⊥ = cc in absurd no
mapped_from f (Some p) e h = let same : f p ≡ e = cc in (p, refl, same)

not_deletion : (y : Inserted) (t : Id) → Insertion y ≡ Deletion t → ⊥
not_deletion y t e = cc

pub not_insertion : (y : Inserted) (t : Id) → Deletion t ≡ Insertion y → ⊥
not_insertion y t e = cc

pub insertion_same : (x y : Inserted) → Insertion x ≡ Insertion y → x ≡ y
insertion_same x y e = cc

deletion_same : (s t : Id) → Deletion s ≡ Deletion t → s ≡ t
deletion_same s t e = cc

pub place_fits : (a : Act) (entries : List Entry) (e : Entry) → place a entries ≡ Some e → Fits a entries e
unfolding place
place_fits (InsertAs x at ch) entries (Insertion y) h =
    let from = mapped_from (λ p. Insertion (record { id = x; path = new_path (order entries) p x; ch = ch })) (path_before (visible entries) at) (Insertion y) h in
    let id : x ≡ y.id = ap (λ (w : Inserted). w.id) (insertion_same (record { id = x; path = new_path (order entries) from.0 x; ch = ch }) y from.2) in
    let ends : EndsWhere x (Some (Insertion y)) = subst (EndsWhere x) h (place_ends x (Ins at ch) entries) in
    (ap (id_eq x) (sym id) ∙ id_itself x, ends ∙ ap Some id)
place_fits (InsertAs x at ch) entries (Deletion t) h =
    let from = mapped_from (λ p. Insertion (record { id = x; path = new_path (order entries) p x; ch = ch })) (path_before (visible entries) at) (Deletion t) h in
    absurd (not_deletion (record { id = x; path = new_path (order entries) from.0 x; ch = ch }) t from.2)
place_fits (InsertAs x at ch) entries Mark h = tt
place_fits (DeleteAt at) entries (Insertion y) h =
    let from = mapped_from (λ (target : Inserted). Deletion target.id) (slice_get (visible entries) at) (Insertion y) h in
    absurd (not_insertion y from.0.id from.2)
place_fits (DeleteAt at) entries (Deletion t) h =
    let from = mapped_from (λ (target : Inserted). Deletion target.id) (slice_get (visible entries) at) (Deletion t) h in
    (from.0, ordered_among entries from.0 (visible_among entries from.0 (got (visible entries) at from.0 from.1)), deletion_same from.0.id t from.2)
place_fits (DeleteAt at) entries Mark h = tt
place_fits MarkAs entries (Insertion y) h = let no : ⊥ = cc in absurd no
place_fits MarkAs entries (Deletion t) h = let no : ⊥ = cc in absurd no
place_fits MarkAs entries Mark h = tt

-- THE NAMED PART OF A TREE
abbrev pub named : List ℕ → Noted ℕ → Bool
named names n = list_any (nat_eq n.name) names

abbrev pub entry_of : Noted ℕ → Entry
entry_of n = n.entry

-- a character of the named part is of the base, or of a note whose name is among the names
pub part_cases : (b : ℕ) (notes : List (Noted ℕ)) (names : List ℕ) (e : Entry) → Among e (entries_over nat_eq b notes names) → Among e (based b) ⊎ ((n : Noted ℕ) × Among n notes × (holds names n.name ≡ true) × (e ≡ n.entry))
part_cases b notes names e m =
    ⊎_elim
    (λ k. inl k)
    (λ k.
    let from = among_map entry_of (filter (named names) notes) e k in
    let passes = among_filter (named names) notes from.0 from.1 in
    inr (from.0, passes.0, passes.1, from.2))
    (among_joined (based b) (map entry_of (filter (named names) notes)) e m)

pub part_base : (b : ℕ) (notes : List (Noted ℕ)) (names : List ℕ) (e : Entry) → Among e (based b) → Among e (entries_over nat_eq b notes names)
part_base b notes names e m = joined_left (based b) (map entry_of (filter (named names) notes)) e m

pub part_note : (b : ℕ) (notes : List (Noted ℕ)) (names : List ℕ) (n : Noted ℕ) → Among n notes → holds names n.name ≡ true → Among n.entry (entries_over nat_eq b notes names)
part_note b notes names n m h = joined_right (based b) (map entry_of (filter (named names) notes)) n.entry (map_among entry_of (filter (named names) notes) n (filter_among (named names) notes n m h))

-- a wider part has all of a narrower one
pub part_wider : (b : ℕ) (notes more : List (Noted ℕ)) (names wider : List ℕ) → ((n : ℕ) → holds names n ≡ true → holds wider n ≡ true)
    → (z : Inserted) → Among z (insertions (entries_over nat_eq b notes names)) → Among z (insertions (entries_over nat_eq b (notes ++ more) wider))
part_wider b notes more names wider f z m =
    insertion_among (entries_over nat_eq b (notes ++ more) wider) z
    (⊎_elim
    (λ k. part_base b (notes ++ more) wider (Insertion z) k)
    (λ h. subst (λ e. Among e (entries_over nat_eq b (notes ++ more) wider)) (sym h.3) (part_note b (notes ++ more) wider h.0 (joined_left notes more h.0 h.1) (f h.0.name h.2)))
    (part_cases b notes names (Insertion z) (among_insertions (entries_over nat_eq b notes names) z m)))

-- THE INVARIANT
-- the event of a note
pub record Source (b : ℕ) (events : List (Applied ℕ)) (notes : List (Noted ℕ)) (n : Noted ℕ) : Type 0 where
  pub event : Applied ℕ
  pub there : Among event events
  pub name : event.name ≡ n.name
  pub fits : Fits event.act (entries_over nat_eq b notes event.over) n.entry
  pub agent : (y : Inserted) → n.entry ≡ Insertion y → y.id.agent ≡ [] → ⊥

-- no two notes have one name
abbrev pub Single : List (Noted ℕ) → Type 0
Single [] = Unit {0}
Single (n ∷ notes) = AllByRecursion (λ (m : Noted ℕ). nat_eq m.name n.name ≡ false) notes × Single notes

pub record Grown (b : ℕ) (events : List (Applied ℕ)) (notes : List (Noted ℕ)) : Type 0 where
  pub sources : (n : Noted ℕ) → Among n notes → Source b events notes n
  pub single : Single notes
  pub ids : IdsApart (insertions (all_entries b notes))
  pub one_note : (m n : Noted ℕ) → Among m notes → Among n notes → (x y : Inserted) → m.entry ≡ Insertion x → n.entry ≡ Insertion y → x.id ≡ y.id → m ≡ n
  pub apart : ApartByPath (all_entries b notes)

ties_pushed : (xs : List Inserted) (y : Inserted) → NoTies inserted_cmp xs → ((z : Inserted) → Among z xs → inserted_cmp z y ≡ Equal → ⊥) → NoTies inserted_cmp (xs ++ y ∷ [])
ties_pushed [] y h f = (tt, tt)
ties_pushed (x ∷ xs) y h f = (
  all_from (λ w. inserted_cmp x w ≡ Equal → ⊥) (xs ++ y ∷ []) (λ w m.
      ⊎_elim (λ k. all_at (λ w. inserted_cmp x w ≡ Equal → ⊥) xs w h.0 k) (λ k. ⊎_elim (λ e. subst (λ v. inserted_cmp x v ≡ Equal → ⊥) (sym e) (f x (inl refl))) (λ no. absurd no) k) (among_joined xs (y ∷ []) w m)),
  ties_pushed xs y h.1 (λ z m. f z (inr m)),
)

single_pushed : (notes : List (Noted ℕ)) (n : Noted ℕ) → Single notes → ((m : Noted ℕ) → Among m notes → nat_eq n.name m.name ≡ false) → Single (notes ++ n ∷ [])
single_pushed [] n h f = (tt, tt)
single_pushed (k ∷ notes) n h f = (
  all_from (λ (m : Noted ℕ). nat_eq m.name k.name ≡ false) (notes ++ n ∷ []) (λ m i.
      ⊎_elim (λ j. all_at (λ (m : Noted ℕ). nat_eq m.name k.name ≡ false) notes m h.0 j) (λ j. ⊎_elim (λ e. subst (λ (w : Noted ℕ). nat_eq w.name k.name ≡ false) (sym e) (f k (inl refl))) (λ no. absurd no) j) (among_joined notes (n ∷ []) m i)),
  single_pushed notes n h.1 (λ m i. f m (inr i)),
)

-- the id of a character of the tree is a base name's or an event's: a new one is another
pub old_id : (b : ℕ) (events : List (Applied ℕ)) (notes : List (Noted ℕ)) → Grown b events notes → (x : Id) → IsNewId events x → (z : Inserted) → Among z (insertions (all_entries b notes)) → z.id ≡ x → ⊥
old_id b events notes g x new z m e =
    ⊎_elim
    (λ k. new.agent (ap (λ (i : Id). i.agent) (sym e) ∙ (base_only b z (insertion_among (based b) z k)).0))
    (λ k.
    let from = among_map entry_of notes (Insertion z) k in
    let source = g.sources from.0 from.1 in
    let fits : Fits source.event.act (entries_over nat_eq b notes source.event.over) (Insertion z) = subst (Fits source.event.act (entries_over nat_eq b notes source.event.over)) (sym from.2) source.fits in
    let used : inserts_as x source.event.act ≡ true = ap (λ i. inserts_as i source.event.act) (sym e) ∙ fits.0 in
    false≢true (sym new.unused ∙ any_from (λ (c : Applied ℕ). inserts_as x c.act) events source.event source.there used))
    (among_joined (based b) (map entry_of notes) (Insertion z) (among_insertions (all_entries b notes) z m))

-- a character of the tree has a path that ends with its id
pub ends_own : (b : ℕ) (events : List (Applied ℕ)) (notes : List (Noted ℕ)) → Grown b events notes → (z : Inserted) → Among z (insertions (all_entries b notes)) → last_id None z.path ≡ Some z.id
ends_own b events notes g z m =
    ⊎_elim
    (λ k. (base_only b z (insertion_among (based b) z k)).1)
    (λ k.
    let from = among_map entry_of notes (Insertion z) k in
    let source = g.sources from.0 from.1 in
    let fits : Fits source.event.act (entries_over nat_eq b notes source.event.over) (Insertion z) = subst (Fits source.event.act (entries_over nat_eq b notes source.event.over)) (sym from.2) source.fits in
    fits.1)
    (among_joined (based b) (map entry_of notes) (Insertion z) (among_insertions (all_entries b notes) z m))

fits_wider : (a : Act) (xs ys : List Entry) (e : Entry) → ((z : Inserted) → Among z (insertions xs) → Among z (insertions ys)) → Fits a xs e → Fits a ys e
fits_wider a xs ys (Insertion y) f h = h
fits_wider a xs ys (Deletion t) f h = (h.0, f h.0 h.1, h.2)
fits_wider a xs ys Mark f h = tt

source_later : (b : ℕ) (events : List (Applied ℕ)) (a : Applied ℕ) (notes more : List (Noted ℕ)) (n : Noted ℕ) → Source b events notes n → Source b (events ++ a ∷ []) (notes ++ more) n
source_later b events a notes more n s = record {
  event = s.event;
  there = joined_left events (a ∷ []) s.event s.there;
  name = s.name;
  fits = fits_wider s.event.act (entries_over nat_eq b notes s.event.over) (entries_over nat_eq b (notes ++ more) s.event.over) n.entry (part_wider b notes more s.event.over s.event.over (λ k h. h)) s.fits;
  agent = s.agent;
}

-- the act inserts under the id of its entry, which is new
pub new_entry_id : (events : List (Applied ℕ)) (a : Act) (y : Inserted) → IsNewAct events a → inserts_as y.id a ≡ true → IsNewId events y.id
new_entry_id events (InsertAs x at ch) y new h = subst (IsNewId events) (id_same x y.id h) new
new_entry_id events (DeleteAt at) y new h = absurd (false≢true h)
new_entry_id events MarkAs y new h = absurd (false≢true h)

no_agentless : (events : List (Applied ℕ)) (a : Act) (entries : List Entry) (e : Entry) → IsNewAct events a → Fits a entries e → (y : Inserted) → e ≡ Insertion y → y.id.agent ≡ [] → ⊥
no_agentless events a entries (Insertion w) new fits y e agent =
    let same : w ≡ y = insertion_same w y e in
    (new_entry_id events a w new fits.0).agent (ap (λ (v : Inserted). v.id.agent) same ∙ agent)
no_agentless events a entries (Deletion t) new fits y e agent = absurd (not_insertion y t e)
no_agentless events a entries Mark new fits y e agent = let no : ⊥ = cc in absurd no

module _ (b : ℕ) (events : List (Applied ℕ)) (notes : List (Noted ℕ)) (g : Grown b events notes) (a : Applied ℕ) (may : MayApply events a) (e : Entry) (fits : Fits a.act (entries_over nat_eq b notes a.over) e) where
  abbrev note : Noted ℕ
  note = record { name = a.name; entry = e }

  other_name : (m : Noted ℕ) → Among m notes → nat_eq a.name m.name ≡ false
  other_name m i = false_from_ne_true (nat_eq a.name m.name) (λ h.
      let source = g.sources m i in
      let same : source.event.name ≡ a.name = source.name ∙ sym (eqb-true a.name m.name h) in
      false≢true (sym may.name ∙ any_from (λ (c : Applied ℕ). nat_eq c.name a.name) events source.event source.there (eq-eqb source.event.name a.name same)))

  new_source : Source b (events ++ a ∷ []) (notes ++ note ∷ []) note
  new_source = record {
    event = a;
    there = joined_right events (a ∷ []) a (inl refl);
    name = refl;
    fits = fits_wider a.act (entries_over nat_eq b notes a.over) (entries_over nat_eq b (notes ++ note ∷ []) a.over) e (part_wider b notes (note ∷ []) a.over a.over (λ k h. h)) fits;
    agent = no_agentless events a.act (entries_over nat_eq b notes a.over) e may.act fits;
  }

  pushed_sources : (n : Noted ℕ) → Among n (notes ++ note ∷ []) → Source b (events ++ a ∷ []) (notes ++ note ∷ []) n
  pushed_sources n m =
      ⊎_elim
      (λ k. source_later b events a notes (note ∷ []) n (g.sources n k))
      (λ k. ⊎_elim (λ same. subst (Source b (events ++ a ∷ []) (notes ++ note ∷ [])) (sym same) new_source) (λ no. absurd no) k)
      (among_joined notes (note ∷ []) n m)

  -- an old note's character has another id than the new one
  old_note_id : (m : Noted ℕ) → Among m notes → (x y : Inserted) → m.entry ≡ Insertion x → e ≡ Insertion y → x.id ≡ y.id → ⊥
  old_note_id m i x y me ne same =
      let new : Fits a.act (entries_over nat_eq b notes a.over) (Insertion y) = subst (Fits a.act (entries_over nat_eq b notes a.over)) ne fits in
      let here : Among (Insertion x) (all_entries b notes) = joined_right (based b) (map entry_of notes) (Insertion x) (subst (λ w. Among w (map entry_of notes)) me (map_among entry_of notes m i)) in
      old_id b events notes g y.id (new_entry_id events a.act y may.act new.0) x (insertion_among (all_entries b notes) x here) same

  pushed_one : (m n : Noted ℕ) → Among m (notes ++ note ∷ []) → Among n (notes ++ note ∷ []) → (x y : Inserted) → m.entry ≡ Insertion x → n.entry ≡ Insertion y → x.id ≡ y.id → m ≡ n
  pushed_one m n i j x y me ne same =
      ⊎_elim
      (λ mi. ⊎_elim
      (λ nj. g.one_note m n mi nj x y me ne same)
      (λ nj. ⊎_elim (λ is. absurd (old_note_id m mi x y me (ap entry_of (sym is) ∙ ne) same)) (λ no. absurd no) nj)
      (among_joined notes (note ∷ []) n j))
      (λ mi. ⊎_elim
      (λ is. ⊎_elim
      (λ nj. absurd (old_note_id n nj y x ne (ap entry_of (sym is) ∙ me) (sym same)))
      (λ nj. ⊎_elim (λ it. is ∙ sym it) (λ no. absurd no) nj)
      (among_joined notes (note ∷ []) n j))
      (λ no. absurd no) mi)
      (among_joined notes (note ∷ []) m i)

  pushed_single : Single (notes ++ note ∷ [])
  pushed_single = single_pushed notes note g.single other_name

ids_pushed : (xs : List Inserted) (y : Inserted) → IdsApart xs → ((z : Inserted) → Among z xs → z.id ≡ y.id → ⊥) → IdsApart (xs ++ y ∷ [])
ids_pushed xs y h f u v mu mv e =
    ⊎_elim
    (λ i. ⊎_elim (λ j. h u v i j e) (λ j. ⊎_elim (λ is. absurd (f u i (id_same u.id v.id e ∙ ap (λ (w : Inserted). w.id) is))) (λ no. absurd no) j) (among_joined xs (y ∷ []) v mv))
    (λ i. ⊎_elim
    (λ is. ⊎_elim (λ j. absurd (f v j (sym (id_same u.id v.id e) ∙ ap (λ (w : Inserted). w.id) is))) (λ j. ⊎_elim (λ it. is ∙ sym it) (λ no. absurd no) j) (among_joined xs (y ∷ []) v mv))
    (λ no. absurd no) i)
    (among_joined xs (y ∷ []) u mu)

some_same : (x y : Id) → Some x ≡ Some y → x ≡ y
some_same x y e = cc

pub grown_more : (b : ℕ) (events : List (Applied ℕ)) (notes : List (Noted ℕ)) → Grown b events notes → (a : Applied ℕ) → MayApply events a → (e : Entry) → Fits a.act (entries_over nat_eq b notes a.over) e
    → Grown b (events ++ a ∷ []) (notes ++ record { name = a.name; entry = e } ∷ [])
grown_more b events notes g a may (Insertion y) fits =
    let more : insertions (all_entries b (notes ++ record { name = a.name; entry = Insertion y } ∷ [])) ≡ insertions (all_entries b notes) ++ y ∷ [] = all_insertions-append b notes (record { name = a.name; entry = Insertion y } ∷ []) in
    let new : IsNewId events y.id = new_entry_id events a.act y may.act fits.0 in
    record {
      sources = pushed_sources b events notes g a may (Insertion y) fits;
      single = pushed_single b events notes g a may (Insertion y) fits;
      ids = subst IdsApart (sym more) (ids_pushed (insertions (all_entries b notes)) y g.ids (old_id b events notes g y.id new));
      one_note = pushed_one b events notes g a may (Insertion y) fits;
      apart = subst (NoTies inserted_cmp) (sym more) (ties_pushed (insertions (all_entries b notes)) y g.apart (λ z m tie.
          old_id b events notes g y.id new z m (some_same z.id y.id (sym (ends_own b events notes g z m) ∙ (ap (last_id None) (path_exact z.path y.path tie) ∙ fits.1)))));
    }
grown_more b events notes g a may (Deletion t) fits =
    let more : insertions (all_entries b (notes ++ record { name = a.name; entry = Deletion t } ∷ [])) ≡ insertions (all_entries b notes) = all_insertions-append b notes (record { name = a.name; entry = Deletion t } ∷ []) ∙ append-nil (insertions (all_entries b notes)) in
    record {
      sources = pushed_sources b events notes g a may (Deletion t) fits;
      single = pushed_single b events notes g a may (Deletion t) fits;
      ids = subst IdsApart (sym more) g.ids;
      one_note = pushed_one b events notes g a may (Deletion t) fits;
      apart = subst (NoTies inserted_cmp) (sym more) g.apart;
    }
grown_more b events notes g a may Mark fits =
    let more : insertions (all_entries b (notes ++ record { name = a.name; entry = Mark } ∷ [])) ≡ insertions (all_entries b notes) = all_insertions-append b notes (record { name = a.name; entry = Mark } ∷ []) ∙ append-nil (insertions (all_entries b notes)) in
    record {
      sources = pushed_sources b events notes g a may Mark fits;
      single = pushed_single b events notes g a may Mark fits;
      ids = subst IdsApart (sym more) g.ids;
      one_note = pushed_one b events notes g a may Mark fits;
      apart = subst (NoTies inserted_cmp) (sym more) g.apart;
    }

grown_none : (b : ℕ) (events : List (Applied ℕ)) (notes : List (Noted ℕ)) → Grown b events notes → (a : Applied ℕ) → Grown b (events ++ a ∷ []) notes
grown_none b events notes g a = record {
  sources = λ n m. subst (λ ns. Source b (events ++ a ∷ []) ns n) (append-nil notes) (source_later b events a notes [] n (g.sources n m));
  single = g.single;
  ids = g.ids;
  one_note = g.one_note;
  apart = g.apart;
}

grown_at : (b : ℕ) (events : List (Applied ℕ)) (notes : List (Noted ℕ)) → Grown b events notes → (a : Applied ℕ) → MayApply events a → (o : Option Entry) → place a.act (entries_over nat_eq b notes a.over) ≡ o → Grown b (events ++ a ∷ []) (notes ++ noted_as a.name o)
grown_at b events notes g a may None h = subst (Grown b (events ++ a ∷ [])) (sym (append-nil notes)) (grown_none b events notes g a)
grown_at b events notes g a may (Some e) h = grown_more b events notes g a may e (place_fits a.act (entries_over nat_eq b notes a.over) e h)

pub grown_next : (b : ℕ) (events : List (Applied ℕ)) (notes : List (Noted ℕ)) → Grown b events notes → (a : Applied ℕ) → MayApply events a → Grown b (events ++ a ∷ []) (grow nat_eq b notes a)
unfolding next_entry
grown_next b events notes g a may = grown_at b events notes g a may (place a.act (entries_over nat_eq b notes a.over)) refl

grown_start : (b : ℕ) → Grown b [] []
grown_start b =
    let nothing : all_entries {N = ℕ} b [] ≡ based b = append-nil (based b) in
    record {
      sources = λ n m. absurd m;
      single = tt;
      ids = subst (λ es. IdsApart (insertions es)) (sym nothing) (base_stem b).ids;
      one_note = λ m n i. absurd i;
      apart = subst ApartByPath (sym nothing) (base_stem b).apart;
    }

grown_later : (b : ℕ) (before later : List (Applied ℕ)) → Grown b before (tree_of nat_eq b before) → IsRun before later → Grown b (before ++ later) (tree_of nat_eq b (before ++ later))
grown_later b before [] g h = subst (λ es. Grown b es (tree_of nat_eq b es)) (sym (append-nil before)) g
grown_later b before (a ∷ later) g h =
    subst (λ es. Grown b es (tree_of nat_eq b es)) (append_assoc before (a ∷ []) later)
    (grown_later b (before ++ a ∷ []) later (subst (Grown b (before ++ a ∷ [])) (sym (tree_of-push nat_eq b before a)) (grown_next b before (tree_of nat_eq b before) g a h.0)) h.1)

run_start : (b : ℕ) → Grown b [] (tree_of nat_eq b [])
unfolding tree_of
run_start b = grown_start b

-- THE TREE OF A RUN
pub run_grown : (b : ℕ) (events : List (Applied ℕ)) → IsRun [] events → Grown b events (tree_of nat_eq b events)
run_grown b events h = grown_later b [] events (run_start b) h
