-- A tree has each node's parent: every front of a path that isn't empty is a node's path.
use Rattle.std.proofs.Common.{◌≡◌, ℕ, zero, suc, Bool, true, false, not, cond, ◌⊎◌, inl, inr, ⊎_elim, List, [], ◌∷◌, ◌++◌, map, filter, find, slice_get, Option, Some, None, option_map, refl, sym, ap, ◌∙◌, subst, append_assoc, append-nil, fold}
use Rattle.std.specs.List.{list_any}
use Rattle.std.proofs.lemmas.List.{same_from_push, map-append}
use Rattle.std.proofs.lemmas.List.Elements.{filter_map-append}
use Rattle.ew_model.specs.declared.id.Id.{Id}
use Rattle.ew_model.specs.Sets.{Among}
use Rattle.ew_model.specs.Paths.{Step, step_down, is_right_child, path_lt}
use Rattle.ew_model.specs.Entries.{Inserted, Entry, insertions, insertion_in, is_deleted, order, visible}
use Rattle.ew_model.specs.Places.{Act, path_before, left_of_or_right_of, new_path, place}
use Rattle.ew_model.specs.Tree.{based, base_id, base_path, Applied, Noted, all_entries, entries_over, next_entry, noted_as, grow, tree_of}
use Rattle.ew_model.specs.Paths.Side.{Left, Right}
use Rattle.ew_model.specs.Entries.Entry.{Insertion, Deletion, Mark}
use Rattle.ew_model.specs.Places.Act.{InsertAs, DeleteAt, MarkAs}
use Rattle.ew_model.proofs.SetLaws.{among_joined, joined_left, joined_right, among_filter, among_map, map_among}
use Rattle.ew_model.proofs.SortingLaws.{sort_among, among_sort}
use Rattle.ew_model.proofs.PlaceLaws.{placed_total, among_insertions, insertion_among}
use Rattle.ew_model.proofs.GapLaws.{HasPrefixes}

pub insertions-append : (xs ys : List Entry) → insertions (xs ++ ys) ≡ insertions xs ++ insertions ys
insertions-append xs ys = filter_map-append insertion_in xs ys

-- a list of steps is empty or has a last step
ends_or_goes_on : (rest : List Step) → (rest ≡ []) ⊎ ((init : List Step) × (last : Step) × (rest ≡ init ++ last ∷ []))
ends_or_goes_on [] = inl refl
ends_or_goes_on (t ∷ rest) =
    ⊎_elim
    (λ e. inr ([], t, ap (λ r. t ∷ r) e))
    (λ h. inr (t ∷ h.0, h.1, ap (λ r. t ∷ r) h.2))
    (ends_or_goes_on rest)

not_nothing : (front : List Step) (t : Step) (rest : List Step) → [] ≡ front ++ t ∷ rest → ⊥
not_nothing [] t rest e = cc
not_nothing (s ∷ front) t rest e = cc

-- the root, or the path of a node
abbrev pub IsPlace : List Inserted → List Step → Type 0
IsPlace nodes p = (p ≡ []) ⊎ ((y : Inserted) × Among y nodes × (y.path ≡ p))

-- one more node below a node that is there
pub add_prefixes : (nodes : List Inserted) (y : Inserted) (p : List Step) (s : Step) → HasPrefixes nodes → IsPlace nodes p → y.path ≡ p ++ s ∷ [] → HasPrefixes (nodes ++ y ∷ [])
add_prefixes nodes y p s h place e z m front t rest path =
    ⊎_elim
    (λ k. let older = h z k front t rest path in (older.0, joined_left nodes (y ∷ []) older.0 older.1, older.2))
    (λ k. ⊎_elim
    (λ same. ⊎_elim
    (λ none. (y, joined_right nodes (y ∷ []) y (inl refl), ap (λ (w : Inserted). w.path) (sym same) ∙ path ∙ ap (λ r. front ++ t ∷ r) none))
    (λ more.
    let whole : p ++ s ∷ [] ≡ (front ++ t ∷ more.0) ++ more.1 ∷ [] =
    sym e ∙ ap (λ (w : Inserted). w.path) (sym same) ∙ path ∙ ap (λ r. front ++ t ∷ r) more.2 ∙ sym (append_assoc front (t ∷ more.0) (more.1 ∷ [])) in
    let above : p ≡ front ++ t ∷ more.0 = (same_from_push p (front ++ t ∷ more.0) s more.1 whole).0 in
    ⊎_elim
    (λ root. absurd (not_nothing front t more.0 (sym root ∙ above)))
    (λ node. let older = h node.0 node.1 front t more.0 (node.2 ∙ above) in (older.0, joined_left nodes (y ∷ []) older.0 older.1, older.2))
    place)
    (ends_or_goes_on rest))
    (λ no. absurd no) k)
    (among_joined nodes (y ∷ []) z m)

-- the base has its prefixes
base_place : (n : ℕ) → (q : List Step) × (s : Step) × (base_path n ≡ q ++ s ∷ []) × IsPlace (insertions (based n)) q
base_place zero = ([], record { side = Right; child = base_id zero }, refl, inl refl)
base_place (suc n) = (
  base_path n,
  record { side = Right; child = base_id (suc n) },
  refl,
  inr (
    record { id = base_id n; path = base_path n; ch = 0 },
    subst (Among (record { id = base_id n; path = base_path n; ch = 0 })) (sym (insertions-append (based n) (Insertion (record { id = base_id n; path = base_path n; ch = 0 }) ∷ [])))
        (joined_right (insertions (based n)) (record { id = base_id n; path = base_path n; ch = 0 } ∷ []) (record { id = base_id n; path = base_path n; ch = 0 }) (inl refl)),
    refl,
  ),
)

pub base_prefixes : (n : ℕ) → HasPrefixes (insertions (based n))
base_prefixes zero = λ z m front s rest e. absurd m
base_prefixes (suc n) =
    let y : Inserted = record { id = base_id n; path = base_path n; ch = 0 } in
    let place = base_place n in
    subst HasPrefixes (sym (insertions-append (based n) (Insertion y ∷ []))) (add_prefixes (insertions (based n)) y place.0 place.1 (base_prefixes n) place.3 place.2)

place_within : (xs ys : List Inserted) (p : List Step) → ((z : Inserted) → Among z xs → Among z ys) → IsPlace xs p → IsPlace ys p
place_within xs ys p f h = ⊎_elim (λ e. inl e) (λ k. inr (k.0, f k.0 k.1, k.2)) h

-- the path before an index is the root's or a character's
path_before_place : (chars : List Inserted) (at : ℕ) (p : List Step) → path_before chars at ≡ Some p → IsPlace chars p
path_before_place chars zero p e = let same : [] ≡ p = cc in inl (sym same)
path_before_place [] (suc i) p e = let no : ⊥ = cc in absurd no
path_before_place (c ∷ chars) (suc zero) p e = let same : c.path ≡ p = cc in inr (c, inl refl, same)
path_before_place (c ∷ chars) (suc (suc i)) p e =
    ⊎_elim (λ root. inl root) (λ k. inr (k.0, inr k.1, k.2)) (path_before_place chars (suc i) p e)

found_among_at : (p : Inserted → Bool) (x w : Inserted) (walk : List Inserted) (b : Bool) (o : Option Inserted) → cond b (Some x) o ≡ Some w → (o ≡ Some w → Among w walk) → Among w (x ∷ walk)
found_among_at p x w walk true o e f = let same : w ≡ x = cc in inl same
found_among_at p x w walk false o e f = inr (f e)

pub found_among : (p : Inserted → Bool) (walk : List Inserted) (w : Inserted) → find p walk ≡ Some w → Among w walk
found_among p [] w e = let no : ⊥ = cc in absurd no
found_among p (x ∷ walk) w e = found_among_at p x w walk (p x) (find p walk) e (found_among p walk w)

-- a new node hangs on the root or on a node
abbrev pub HangsOn : List Inserted → List Step → Type 0
HangsOn nodes path = (q : List Step) × (s : Step) × (path ≡ q ++ s ∷ []) × IsPlace nodes q

hangs_found : (walk : List Inserted) (o : Option Inserted) (p : List Step) (x : Id) → ((w : Inserted) → o ≡ Some w → Among w walk) → IsPlace walk p → HangsOn walk (left_of_or_right_of o p x)
hangs_found walk None p x f h = (p, record { side = Right; child = x }, refl, h)
hangs_found walk (Some w) p x f h = (w.path, record { side = Left; child = x }, refl, inr (w, f w refl, refl))

hangs_at : (walk : List Inserted) (b : Bool) (o : Option Inserted) (p : List Step) (x : Id) → ((w : Inserted) → o ≡ Some w → Among w walk) → IsPlace walk p → HangsOn walk (cond b (left_of_or_right_of o p x) (step_down p Right x))
hangs_at walk true o p x f h = hangs_found walk o p x f h
hangs_at walk false o p x f h = (p, record { side = Right; child = x }, refl, h)

pub new_path_hangs : (walk : List Inserted) (p : List Step) (x : Id) → IsPlace walk p → HangsOn walk (new_path walk p x)
new_path_hangs walk p x h =
    hangs_at walk (list_any (λ y. is_right_child p y.path) walk) (find (λ y. path_lt p y.path) walk) p x (λ w e. found_among (λ y. path_lt p y.path) walk w e) h

pub ordered_among : (entries : List Entry) (z : Inserted) → Among z (order entries) → Among z (insertions entries)
unfolding order
ordered_among entries z m = sort_among placed_total (insertions entries) z m

pub visible_among : (entries : List Entry) (z : Inserted) → Among z (visible entries) → Among z (order entries)
unfolding visible
visible_among entries z m = (among_filter (λ x. not (is_deleted entries x.id)) (order entries) z m).0

-- the entry hangs on the root or on a character of these entries, where it is a character
abbrev HangsWhere : List Entry → Option Entry → Type 0
HangsWhere entries None = Unit {0}
HangsWhere entries (Some (Insertion y)) = HangsOn (insertions entries) y.path
HangsWhere entries (Some (Deletion target)) = Unit {0}
HangsWhere entries (Some Mark) = Unit {0}

hangs_mapped : (entries : List Entry) (f : List Step → Inserted) (o : Option (List Step)) → ((p : List Step) → o ≡ Some p → HangsOn (insertions entries) (f p).path) → HangsWhere entries (option_map (λ p. Insertion (f p)) o)
hangs_mapped entries f None h = tt
hangs_mapped entries f (Some p) h = h p refl

hangs_deletion : (entries : List Entry) (o : Option Inserted) → HangsWhere entries (option_map (λ (target : Inserted). Deletion target.id) o)
hangs_deletion entries None = tt
hangs_deletion entries (Some target) = tt

hangs_within : (xs ys : List Inserted) (path : List Step) → ((z : Inserted) → Among z xs → Among z ys) → HangsOn xs path → HangsOn ys path
hangs_within xs ys path f h = (h.0, h.1, h.2, place_within xs ys h.0 f h.3)

pub place_hangs : (a : Act) (entries : List Entry) → HangsWhere entries (place a entries)
unfolding place
place_hangs (InsertAs x at ch) entries =
    hangs_mapped entries (λ p. record { id = x; path = new_path (order entries) p x; ch = ch }) (path_before (visible entries) at) (λ p e.
    hangs_within (order entries) (insertions entries) (new_path (order entries) p x) (ordered_among entries)
    (new_path_hangs (order entries) p x (place_within (visible entries) (order entries) p (visible_among entries) (path_before_place (visible entries) at p e))))
place_hangs (DeleteAt at) entries = hangs_deletion entries (slice_get (visible entries) at)
place_hangs MarkAs entries = tt

-- the entries of a version are among all entries
over_among : {N : Type 0} (same : N → N → Bool) (b : ℕ) (notes : List (Noted N)) (names : List N) (z : Entry) → Among z (entries_over same b notes names) → Among z (all_entries b notes)
over_among same b notes names z m =
    ⊎_elim
    (λ k. joined_left (based b) (map (λ n. n.entry) notes) z k)
    (λ k.
    let from = among_map (λ n. n.entry) (filter (λ n. list_any (same n.name) names) notes) z k in
    joined_right (based b) (map (λ n. n.entry) notes) z
    (subst (λ w. Among w (map (λ n. n.entry) notes)) (sym from.2) (map_among (λ n. n.entry) notes from.0 (among_filter (λ n. list_any (same n.name) names) notes from.0 from.1).0)))
    (among_joined (based b) (map (λ n. n.entry) (filter (λ n. list_any (same n.name) names) notes)) z m)

pub over_insertions : {N : Type 0} (same : N → N → Bool) (b : ℕ) (notes : List (Noted N)) (names : List N) (z : Inserted) → Among z (insertions (entries_over same b notes names)) → Among z (insertions (all_entries b notes))
over_insertions same b notes names z m =
    insertion_among (all_entries b notes) z (over_among same b notes names (Insertion z) (among_insertions (entries_over same b notes names) z m))

all_entries-append : {N : Type 0} (b : ℕ) (xs ys : List (Noted N)) → all_entries b (xs ++ ys) ≡ all_entries b xs ++ map (λ n. n.entry) ys
all_entries-append b xs ys = ap (λ es. based b ++ es) (map-append (λ n. n.entry) xs ys) ∙ sym (append_assoc (based b) (map (λ n. n.entry) xs) (map (λ n. n.entry) ys))

pub all_insertions-append : {N : Type 0} (b : ℕ) (xs ys : List (Noted N)) → insertions (all_entries b (xs ++ ys)) ≡ insertions (all_entries b xs) ++ insertions (map (λ n. n.entry) ys)
all_insertions-append b xs ys = ap insertions (all_entries-append b xs ys) ∙ insertions-append (all_entries b xs) (map (λ n. n.entry) ys)

grown_prefixes : {N : Type 0} (b : ℕ) (notes : List (Noted N)) (name : N) (o : Option Entry) → HasPrefixes (insertions (all_entries b notes)) → HangsWhere (all_entries b notes) o → HasPrefixes (insertions (all_entries b (notes ++ noted_as name o)))
grown_prefixes b notes name None h k = subst (λ ns. HasPrefixes (insertions (all_entries b ns))) (sym (append-nil notes)) h
grown_prefixes b notes name (Some (Insertion y)) h k =
    subst HasPrefixes (sym (all_insertions-append b notes (record { name = name; entry = Insertion y } ∷ []))) (add_prefixes (insertions (all_entries b notes)) y k.0 k.1 h k.3 k.2)
grown_prefixes b notes name (Some (Deletion target)) h k =
    subst HasPrefixes (sym (all_insertions-append b notes (record { name = name; entry = Deletion target } ∷ []) ∙ append-nil (insertions (all_entries b notes)))) h
grown_prefixes b notes name (Some Mark) h k =
    subst HasPrefixes (sym (all_insertions-append b notes (record { name = name; entry = Mark } ∷ []) ∙ append-nil (insertions (all_entries b notes)))) h

hangs_in_all : (xs ys : List Entry) (o : Option Entry) → ((z : Inserted) → Among z (insertions xs) → Among z (insertions ys)) → HangsWhere xs o → HangsWhere ys o
hangs_in_all xs ys None f h = tt
hangs_in_all xs ys (Some (Insertion y)) f h = hangs_within (insertions xs) (insertions ys) y.path f h
hangs_in_all xs ys (Some (Deletion target)) f h = tt
hangs_in_all xs ys (Some Mark) f h = tt

pub next_hangs : {N : Type 0} (same : N → N → Bool) (b : ℕ) (notes : List (Noted N)) (a : Applied N) → HangsWhere (all_entries b notes) (next_entry same b notes a)
unfolding next_entry
next_hangs same b notes a =
    hangs_in_all (entries_over same b notes a.over) (all_entries b notes) (place a.act (entries_over same b notes a.over)) (over_insertions same b notes a.over) (place_hangs a.act (entries_over same b notes a.over))

grown_all : {N : Type 0} (same : N → N → Bool) (b : ℕ) (notes : List (Noted N)) (events : List (Applied N)) → HasPrefixes (insertions (all_entries b notes)) → HasPrefixes (insertions (all_entries b (fold (grow same b) notes events)))
grown_all same b notes [] h = h
grown_all same b notes (a ∷ events) h =
    grown_all same b (grow same b notes a) events (grown_prefixes b notes a.name (next_entry same b notes a) h (next_hangs same b notes a))

-- Every tree has its prefixes.
pub tree_prefixes : {N : Type 0} (same : N → N → Bool) (b : ℕ) (events : List (Applied N)) → HasPrefixes (insertions (all_entries b (tree_of same b events)))
unfolding tree_of
tree_prefixes same b events =
    grown_all same b [] events (subst (λ es. HasPrefixes (insertions es)) (sym (append-nil (based b))) (base_prefixes b))

pub ordered_prefixes : (entries : List Entry) → HasPrefixes (insertions entries) → HasPrefixes (order entries)
unfolding order
ordered_prefixes entries h z m front s rest e =
    let y = h z (sort_among placed_total (insertions entries) z m) front s rest e in
    (y.0, among_sort placed_total (insertions entries) y.0 y.1, y.2)
