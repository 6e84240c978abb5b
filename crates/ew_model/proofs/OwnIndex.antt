-- An event that knows all the others changes the text at its own index.
use Rattle.std.proofs.Common.{◌≡◌, ℕ, zero, suc, ◌+◌, Bool, true, false, not, cond, ◌⊎◌, inl, inr, ⊎_elim, List, [], ◌∷◌, ◌++◌, find, count_by, position, slice_get, Option, Some, None, option_map, refl, sym, ap, ◌∙◌, subst, append-nil, fold, one-add, zero-add}
use Rattle.std.specs.List.{list_any, AllByRecursion}
use Rattle.std.specs.List.Sorted.{IsStrictlySortedBy}
use Rattle.std.specs.Ordering.{is_lt}
use Rattle.std.specs.declared.cmp.Ordering.TheVariants.{Less, Greater}
use Rattle.std.specs.Cmp.{tied_itself}
use Rattle.std.proofs.lemmas.List.Sums.{sum_by-cons}
use Rattle.std.proofs.lemmas.List.Kept.{IsStrictlySortedBy-filter}
use Rattle.ew_model.specs.declared.id.Id.{Id}
use Rattle.ew_model.specs.declared.text_op.TextOp.TheVariants.{Ins, Del, Nothing}
use Rattle.ew_model.specs.Sets.{Among}
use Rattle.ew_model.specs.Ids.{id_eq}
use Rattle.ew_model.specs.Paths.{Side, Step, path_cmp, path_lt, step_down, is_right_child}
use Rattle.ew_model.specs.Entries.{Inserted, Entry, inserted_cmp, insertions, is_deleted, order, visible}
use Rattle.ew_model.specs.Places.{Act, left_of_or_right_of, new_path, path_before, place}
use Rattle.ew_model.specs.Tree.{base_path, base_id, based, Noted, Applied, all_entries, entries_over, next_entry, noted_as, grow, tree_of}
use Rattle.ew_model.specs.Paths.Side.{Left, Right}
use Rattle.ew_model.specs.Entries.Entry.{Insertion, Deletion, Mark}
use Rattle.ew_model.specs.Places.Act.{InsertAs, DeleteAt, MarkAs}
use Rattle.ew_model.specs.Operations.{operation_of, deletion_at}
use Rattle.ew_model.proofs.PathOrder.{path_total, turned_back}
use Rattle.ew_model.proofs.SortingLaws.{all_at, all_from, sort_sorted}
use Rattle.ew_model.proofs.PlaceLaws.{ApartByPath, placed_total}
use Rattle.ew_model.proofs.GapLaws.{HasPrefixes, behind, gap}
use Rattle.ew_model.proofs.PrefixLaws.{ordered_prefixes, visible_among, ordered_among, found_among, insertions-append, all_insertions-append, over_insertions}
use Rattle.ew_model.proofs.TextLaws.{IdsApart, DistinctIds, distinct_ids, position-cons, ids_equal}
use Rattle.ew_model.proofs.OperationLaws.{got}

-- every node is behind the root
abbrev pub BehindRoot : List Inserted → Type 0
BehindRoot nodes = AllByRecursion (λ z. path_cmp z.path [] ≡ Greater) nodes

count_one : {X : Type 0} (p : X → Bool) (x : X) (xs : List X) (b : Bool) → p x ≡ b → count_by p (x ∷ xs) ≡ cond b 1 0 + count_by p xs
count_one p x xs b e = sum_by-cons (λ y. cond (p y) 1 0) x xs ∙ ap (λ c. cond c 1 0 + count_by p xs) e

pub count_none : {X : Type 0} (p : X → Bool) (xs : List X) → AllByRecursion (λ x. p x ≡ false) xs → count_by p xs ≡ 0
count_none p [] h = refl
count_none p (x ∷ xs) h = count_one p x xs false h.0 ∙ zero-add (count_by p xs) ∙ count_none p xs h.1

pub count_same : {X : Type 0} (p q : X → Bool) (xs : List X) → AllByRecursion (λ x. p x ≡ q x) xs → count_by p xs ≡ count_by q xs
count_same p q [] h = refl
count_same p q (x ∷ xs) h = count_one p x xs (q x) h.0 ∙ ap (λ n. cond (q x) 1 0 + n) (count_same p q xs h.1) ∙ sym (count_one q x xs (q x) refl)

pub all_behind : (c : Inserted) (chars : List Inserted) → AllByRecursion (λ y. inserted_cmp c y ≡ Less) chars → AllByRecursion (λ y. is_lt (behind (path_cmp y.path c.path)) ≡ false) chars
all_behind c [] h = tt
all_behind c (y ∷ chars) h = (ap (λ o. is_lt (behind o)) (turned_back c.path y.path h.0), all_behind c chars h.1)

pub all_behind_root : (chars : List Inserted) → BehindRoot chars → AllByRecursion (λ y. is_lt (behind (path_cmp y.path [])) ≡ false) chars
all_behind_root [] h = tt
all_behind_root (y ∷ chars) h = (ap (λ o. is_lt (behind o)) h.0, all_behind_root chars h.1)

pub path_at : (chars : List Inserted) (i : ℕ) (p : List Step) → path_before chars (suc i) ≡ Some p → (c : Inserted) × Among c chars × (c.path ≡ p)
path_at [] i p e = let no : ⊥ = cc in absurd no
path_at (c ∷ chars) zero p e = let same : c.path ≡ p = cc in (c, inl refl, same)
path_at (c ∷ chars) (suc i) p e = let more = path_at chars i p e in (more.0, inr more.1, more.2)

-- as many characters stand up to the path before an index as the index says
pub count_before : (chars : List Inserted) (at : ℕ) (p : List Step) → IsStrictlySortedBy inserted_cmp chars → BehindRoot chars → path_before chars at ≡ Some p → count_by (λ y. is_lt (behind (path_cmp y.path p))) chars ≡ at
unfolding IsStrictlySortedBy
count_before chars zero p s h e =
    let same : [] ≡ p = cc in
    count_none (λ y. is_lt (behind (path_cmp y.path p))) chars (subst (λ (q : List Step). AllByRecursion (λ y. is_lt (behind (path_cmp y.path q)) ≡ false) chars) same (all_behind_root chars h))
count_before [] (suc i) p s h e = let no : ⊥ = cc in absurd no
count_before (c ∷ chars) (suc zero) p s h e =
    let same : c.path ≡ p = cc in
    count_one (λ y. is_lt (behind (path_cmp y.path p))) c chars true (ap (λ q. is_lt (behind (path_cmp c.path q))) (sym same) ∙ ap (λ o. is_lt (behind o)) (tied_itself path_total c.path))
    ∙ ap (λ n. 1 + n) (count_none (λ y. is_lt (behind (path_cmp y.path p))) chars (subst (λ (q : List Step). AllByRecursion (λ y. is_lt (behind (path_cmp y.path q)) ≡ false) chars) same (all_behind c chars s.0)))
count_before (c ∷ chars) (suc (suc i)) p s h e =
    let later = path_at chars i p e in
    let less : path_cmp c.path p ≡ Less = ap (path_cmp c.path) (sym later.2) ∙ all_at (λ y. inserted_cmp c y ≡ Less) chars later.0 s.0 later.1 in
    count_one (λ y. is_lt (behind (path_cmp y.path p))) c chars true (ap (λ o. is_lt (behind o)) less)
    ∙ ap (λ n. 1 + n) (count_before chars (suc i) p s.1 h.1 e)
    ∙ one-add (suc i)

pub behind_root_order : (entries : List Entry) → BehindRoot (insertions entries) → BehindRoot (order entries)
behind_root_order entries h = all_from (λ z. path_cmp z.path [] ≡ Greater) (order entries) (λ z m. all_at (λ z. path_cmp z.path [] ≡ Greater) (insertions entries) z h (ordered_among entries z m))

pub behind_root_visible : (entries : List Entry) → BehindRoot (insertions entries) → BehindRoot (visible entries)
behind_root_visible entries h = all_from (λ z. path_cmp z.path [] ≡ Greater) (visible entries) (λ z m. all_at (λ z. path_cmp z.path [] ≡ Greater) (order entries) z (behind_root_order entries h) (visible_among entries z m))

pub sorted_order : (entries : List Entry) → ApartByPath entries → IsStrictlySortedBy inserted_cmp (order entries)
unfolding order
sorted_order entries h = sort_sorted placed_total (insertions entries) h

pub sorted_visible : (entries : List Entry) → ApartByPath entries → IsStrictlySortedBy inserted_cmp (visible entries)
unfolding visible
sorted_visible entries h = IsStrictlySortedBy-filter inserted_cmp (λ x. not (is_deleted entries x.id)) (order entries) (sorted_order entries h)

-- a new node behind the character before an index has as many visible ones before it
pub count_gap : (entries : List Entry) (at : ℕ) (p : List Step) (x : Id) → ApartByPath entries → HasPrefixes (insertions entries) → BehindRoot (insertions entries) → path_before (visible entries) at ≡ Some p → count_by (λ y. path_lt y.path (new_path (order entries) p x)) (visible entries) ≡ at
count_gap entries at p x apart prefixes roots e =
    count_same (λ y. path_lt y.path (new_path (order entries) p x)) (λ y. is_lt (behind (path_cmp y.path p))) (visible entries)
    (all_from (λ y. path_lt y.path (new_path (order entries) p x) ≡ is_lt (behind (path_cmp y.path p))) (visible entries) (λ y m.
    ap is_lt (ap (path_cmp y.path) (sym (append-nil (new_path (order entries) p x))) ∙ gap (order entries) p x [] y (sorted_order entries apart) (ordered_prefixes entries prefixes) (visible_among entries y m))))
    ∙ count_before (visible entries) at p (sorted_visible entries apart) (behind_root_visible entries roots) e

pub insertion_at : (entries : List Entry) (x : Id) (at ch : ℕ) (o : Option (List Step)) → ApartByPath entries → HasPrefixes (insertions entries) → BehindRoot (insertions entries) → path_before (visible entries) at ≡ o → (p : List Step) → o ≡ Some p
    → operation_of (visible entries) (option_map (λ p. Insertion (record { id = x; path = new_path (order entries) p x; ch = ch })) o) ≡ Ins at ch
insertion_at entries x at ch None apart prefixes roots is p e = let no : ⊥ = cc in absurd no
insertion_at entries x at ch (Some q) apart prefixes roots is p e = ap (λ n. Ins n ch) (count_gap entries at q x apart prefixes roots is)

-- An insertion over all entries is an insertion at its index.
pub own_insertion : (entries : List Entry) (x : Id) (at ch : ℕ) (p : List Step) → ApartByPath entries → HasPrefixes (insertions entries) → BehindRoot (insertions entries) → path_before (visible entries) at ≡ Some p → operation_of (visible entries) (place (InsertAs x at ch) entries) ≡ Ins at ch
unfolding place
own_insertion entries x at ch p apart prefixes roots e = insertion_at entries x at ch (path_before (visible entries) at) apart prefixes roots refl p e

pub place_of_got : (chars : List Inserted) (at : ℕ) (t : Inserted) → DistinctIds chars → slice_get chars at ≡ Some t → position (λ y. id_eq y.id t.id) chars ≡ Some at
place_of_got [] at t h e = let no : ⊥ = cc in absurd no
place_of_got (c ∷ chars) zero t h e =
    let same : c ≡ t = cc in
    position-cons (λ y. id_eq y.id t.id) c chars ∙ ap (λ b. cond b (Some 0) (option_map (λ i. 1 + i) (position (λ y. id_eq y.id t.id) chars))) (ap (λ (w : Inserted). id_eq w.id t.id) same ∙ ids_equal.refl t.id)
place_of_got (c ∷ chars) (suc i) t h e =
    position-cons (λ y. id_eq y.id t.id) c chars
    ∙ ap (λ b. cond b (Some 0) (option_map (λ i. 1 + i) (position (λ y. id_eq y.id t.id) chars))) (all_at (λ y. id_eq c.id y.id ≡ false) chars t h.0 (got chars i t e))
    ∙ ap (option_map (λ i. 1 + i)) (place_of_got chars i t h.1 e)
    ∙ ap Some (one-add i)

pub deletion_got : (entries : List Entry) (at : ℕ) (o : Option Inserted) (t : Inserted) → DistinctIds (visible entries) → slice_get (visible entries) at ≡ o → o ≡ Some t → operation_of (visible entries) (option_map (λ (target : Inserted). Deletion target.id) o) ≡ Del at
deletion_got entries at None t h is e = let no : ⊥ = cc in absurd no
deletion_got entries at (Some u) t h is e = ap deletion_at (place_of_got (visible entries) at u h is)

-- A deletion over all entries is a deletion at its index.
pub own_deletion : (entries : List Entry) (at : ℕ) (t : Inserted) → ApartByPath entries → IdsApart (insertions entries) → slice_get (visible entries) at ≡ Some t → operation_of (visible entries) (place (DeleteAt at) entries) ≡ Del at
unfolding place
own_deletion entries at t apart ids e =
    deletion_got entries at (slice_get (visible entries) at) t
    (distinct_ids (visible entries) (sorted_visible entries apart) (λ x y m k f. ids x y (ordered_among entries x (visible_among entries x m)) (ordered_among entries y (visible_among entries y k)) f))
    refl e

-- a mark does nothing
pub own_mark : (entries : List Entry) → operation_of (visible entries) (place MarkAs entries) ≡ Nothing
unfolding place
own_mark entries = refl

-- one step more below a place that is behind the root, or the root itself on the right, is behind the root
abbrev pub IsBehindPlace : List Step → Type 0
IsBehindPlace p = (p ≡ []) ⊎ (path_cmp p [] ≡ Greater)

pub down_behind : (p : List Step) (side : Side) (x : Id) → path_cmp p [] ≡ Greater → path_cmp (step_down p side x) [] ≡ Greater
down_behind [] side x h = cc
down_behind (t ∷ p) side x h = h

pub right_behind : (p : List Step) (x : Id) → IsBehindPlace p → path_cmp (step_down p Right x) [] ≡ Greater
right_behind p x h = ⊎_elim (λ root. ap (λ q. path_cmp (step_down q Right x) []) root) (λ e. down_behind p Right x e) h

pub beside_behind : (o : Option Inserted) (p : List Step) (x : Id) → ((w : Inserted) → o ≡ Some w → path_cmp w.path [] ≡ Greater) → IsBehindPlace p → path_cmp (left_of_or_right_of o p x) [] ≡ Greater
beside_behind None p x f h = right_behind p x h
beside_behind (Some w) p x f h = down_behind w.path Left x (f w refl)

pub chosen_behind : (b : Bool) (o : Option Inserted) (p : List Step) (x : Id) → ((w : Inserted) → o ≡ Some w → path_cmp w.path [] ≡ Greater) → IsBehindPlace p → path_cmp (cond b (left_of_or_right_of o p x) (step_down p Right x)) [] ≡ Greater
chosen_behind true o p x f h = beside_behind o p x f h
chosen_behind false o p x f h = right_behind p x h

pub new_path_behind : (walk : List Inserted) (p : List Step) (x : Id) → BehindRoot walk → IsBehindPlace p → path_cmp (new_path walk p x) [] ≡ Greater
new_path_behind walk p x h k =
    chosen_behind (list_any (λ y. is_right_child p y.path) walk) (find (λ y. path_lt p y.path) walk) p x
    (λ w e. all_at (λ z. path_cmp z.path [] ≡ Greater) walk w h (found_among (λ y. path_lt p y.path) walk w e)) k

pub place_of_path : (chars : List Inserted) (at : ℕ) (p : List Step) → BehindRoot chars → path_before chars at ≡ Some p → IsBehindPlace p
place_of_path chars zero p h e = let same : [] ≡ p = cc in inl (sym same)
place_of_path chars (suc i) p h e = let c = path_at chars i p e in inr (ap (λ q. path_cmp q []) (sym c.2) ∙ all_at (λ z. path_cmp z.path [] ≡ Greater) chars c.0 h c.1)

abbrev pub BehindWhere : Option Entry → Type 0
BehindWhere None = Unit {0}
BehindWhere (Some (Insertion y)) = path_cmp y.path [] ≡ Greater
BehindWhere (Some (Deletion target)) = Unit {0}
BehindWhere (Some Mark) = Unit {0}

pub mapped_behind : (f : List Step → Inserted) (o : Option (List Step)) → ((p : List Step) → o ≡ Some p → path_cmp (f p).path [] ≡ Greater) → BehindWhere (option_map (λ p. Insertion (f p)) o)
mapped_behind f None h = tt
mapped_behind f (Some p) h = h p refl

pub deletion_behind : (o : Option Inserted) → BehindWhere (option_map (λ (target : Inserted). Deletion target.id) o)
deletion_behind None = tt
deletion_behind (Some t) = tt

pub place_behind : (a : Act) (entries : List Entry) → BehindRoot (insertions entries) → BehindWhere (place a entries)
unfolding place
place_behind (InsertAs x at ch) entries h =
    mapped_behind (λ p. record { id = x; path = new_path (order entries) p x; ch = ch }) (path_before (visible entries) at) (λ p e.
    new_path_behind (order entries) p x (behind_root_order entries h) (place_of_path (visible entries) at p (behind_root_visible entries h) e))
place_behind (DeleteAt at) entries h = deletion_behind (slice_get (visible entries) at)
place_behind MarkAs entries h = tt

pub joined_behind : (xs ys : List Inserted) → BehindRoot xs → BehindRoot ys → BehindRoot (xs ++ ys)
joined_behind [] ys h k = k
joined_behind (x ∷ xs) ys h k = (h.0, joined_behind xs ys h.1 k)

pub base_path_behind : (n : ℕ) → path_cmp (base_path n) [] ≡ Greater
base_path_behind zero = refl
base_path_behind (suc n) = down_behind (base_path n) Right (base_id (suc n)) (base_path_behind n)

pub base_behind : (n : ℕ) → BehindRoot (insertions (based n))
base_behind zero = tt
base_behind (suc n) =
    subst BehindRoot (sym (insertions-append (based n) (Insertion (record { id = base_id n; path = base_path n; ch = 0 }) ∷ [])))
    (joined_behind (insertions (based n)) (record { id = base_id n; path = base_path n; ch = 0 } ∷ []) (base_behind n) (base_path_behind n, tt))

pub noted_behind : {N : Type 0} (b : ℕ) (notes : List (Noted N)) (name : N) (o : Option Entry) → BehindRoot (insertions (all_entries b notes)) → BehindWhere o → BehindRoot (insertions (all_entries b (notes ++ noted_as name o)))
noted_behind b notes name None h k = subst (λ ns. BehindRoot (insertions (all_entries b ns))) (sym (append-nil notes)) h
noted_behind b notes name (Some (Insertion y)) h k =
    subst BehindRoot (sym (all_insertions-append b notes (record { name = name; entry = Insertion y } ∷ []))) (joined_behind (insertions (all_entries b notes)) (y ∷ []) h (k, tt))
noted_behind b notes name (Some (Deletion t)) h k =
    subst BehindRoot (sym (all_insertions-append b notes (record { name = name; entry = Deletion t } ∷ []))) (joined_behind (insertions (all_entries b notes)) [] h tt)
noted_behind b notes name (Some Mark) h k =
    subst BehindRoot (sym (all_insertions-append b notes (record { name = name; entry = Mark } ∷ []))) (joined_behind (insertions (all_entries b notes)) [] h tt)

pub next_behind : {N : Type 0} (same : N → N → Bool) (b : ℕ) (notes : List (Noted N)) (a : Applied N) → BehindRoot (insertions (all_entries b notes)) → BehindWhere (next_entry same b notes a)
unfolding next_entry
next_behind same b notes a h =
    place_behind a.act (entries_over same b notes a.over)
    (all_from (λ z. path_cmp z.path [] ≡ Greater) (insertions (entries_over same b notes a.over)) (λ z m. all_at (λ z. path_cmp z.path [] ≡ Greater) (insertions (all_entries b notes)) z h (over_insertions same b notes a.over z m)))

pub grown_behind : {N : Type 0} (same : N → N → Bool) (b : ℕ) (notes : List (Noted N)) (events : List (Applied N)) → BehindRoot (insertions (all_entries b notes)) → BehindRoot (insertions (all_entries b (fold (grow same b) notes events)))
grown_behind same b notes [] h = h
grown_behind same b notes (a ∷ events) h = grown_behind same b (grow same b notes a) events (noted_behind b notes a.name (next_entry same b notes a) h (next_behind same b notes a h))

-- Every node of a tree is behind the root.
pub tree_behind : {N : Type 0} (same : N → N → Bool) (b : ℕ) (events : List (Applied N)) → BehindRoot (insertions (all_entries b (tree_of same b events)))
unfolding tree_of
tree_behind same b events = grown_behind same b [] events (subst (λ es. BehindRoot (insertions es)) (sym (append-nil (based b))) (base_behind b))
