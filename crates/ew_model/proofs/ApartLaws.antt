-- No two characters of a history's tree have one path: a path ends with the id of its own event.
use Rattle.std.proofs.Common.{◌≡◌, ℕ, Bool, true, false, cond, ⊎_elim, List, [], ◌∷◌, map, filter, Option, Some, None, option_map, slice_get, refl, sym, ap, ◌∙◌, subst}
use Rattle.std.specs.List.{list_any, AllByRecursion, find}
use Rattle.std.specs.declared.cmp.Ordering.TheVariants.{Equal}
use Rattle.std.specs.Ordering.{is_eq}
use Rattle.std.specs.Cmp.{tied_itself}
use Rattle.std.proofs.lemmas.Bool.{false≢true}
use Rattle.ew_model.specs.Sets.{Among}
use Rattle.ew_model.specs.declared.id.Id.{Id}
use Rattle.ew_model.specs.declared.event.Op.{Op}
use Rattle.ew_model.specs.declared.event.Op.TheVariants as op
use Rattle.ew_model.specs.declared.event.Event.{Event}
use Rattle.ew_model.specs.Ids.{id_eq}
use Rattle.ew_model.specs.Paths.{Side, Step, step_down, path_lt, is_right_child}
use Rattle.ew_model.specs.Entries.{Inserted, Entry, inserted_cmp, insertions, order, visible}
use Rattle.ew_model.specs.Tree.{Noted, act_by, next_entry}
use Rattle.ew_model.specs.Places.{left_of_or_right_of, new_path, path_before, place}
use Rattle.ew_model.specs.Paths.Side.{Left, Right}
use Rattle.ew_model.specs.Entries.Entry.{Insertion, Deletion, Mark}
use Rattle.ew_model.proofs.PathOrder.{path_exact, id_total}
use Rattle.ew_model.proofs.SortingLaws.{NoTie, all_at, all_from, all_filter}
use Rattle.ew_model.proofs.PlaceLaws.{ApartByPath, among_insertions}
use Rattle.ew_model.proofs.TreeLaws.{entry_after}
use Rattle.ew_model.proofs.SetLaws.{among_map}

-- the id at the end of a path, or else o
abbrev pub last_id : Option Id → List Step → Option Id
last_id o [] = o
last_id o (s ∷ p) = last_id (Some s.child) p

last_id-step_down : (o : Option Id) (p : List Step) (side : Side) (x : Id) → last_id o (step_down p side x) ≡ Some x
last_id-step_down o [] side x = refl
last_id-step_down o (s ∷ p) side x = last_id-step_down (Some s.child) p side x

-- a character's path ends with this id
abbrev pub EndsAt : Id → Entry → Type 0
EndsAt x (Insertion y) = last_id None y.path ≡ Some x
EndsAt x (Deletion target) = Unit {0}
EndsAt x Mark = Unit {0}

-- so does the entry's, where there is one
abbrev pub EndsWhere : Id → Option Entry → Type 0
EndsWhere x None = Unit {0}
EndsWhere x (Some entry) = EndsAt x entry

beside_ends : (found : Option Inserted) (p : List Step) (x : Id) → last_id None (left_of_or_right_of found p x) ≡ Some x
beside_ends None p x = last_id-step_down None p Right x
beside_ends (Some next) p x = last_id-step_down None next.path Left x

chosen_ends : (b : Bool) (found : Option Inserted) (p : List Step) (x : Id) → last_id None (cond b (left_of_or_right_of found p x) (step_down p Right x)) ≡ Some x
chosen_ends true found p x = beside_ends found p x
chosen_ends false found p x = last_id-step_down None p Right x

new_path_ends : (walk : List Inserted) (p : List Step) (x : Id) → last_id None (new_path walk p x) ≡ Some x
new_path_ends walk p x = chosen_ends (list_any (λ y. is_right_child p y.path) walk) (find (λ y. path_lt p y.path) walk) p x

mapped_ends : (x : Id) (f : List Step → Entry) (o : Option (List Step)) → ((p : List Step) → EndsAt x (f p)) → EndsWhere x (option_map f o)
mapped_ends x f None h = tt
mapped_ends x f (Some p) h = h p

deletion_ends : (x : Id) (o : Option Inserted) → EndsWhere x (option_map (λ (target : Inserted). Deletion target.id) o)
deletion_ends x None = tt
deletion_ends x (Some target) = tt

pub place_ends : (x : Id) (o : Op) (entries : List Entry) → EndsWhere x (place (act_by x o) entries)
unfolding place
place_ends x (op.Ins at ch) entries =
    mapped_ends x (λ p. Insertion (record { id = x; path = new_path (order entries) p x; ch = ch })) (path_before (visible entries) at) (λ p. new_path_ends (order entries) p x)
place_ends x (op.Del at) entries = deletion_ends x (slice_get (visible entries) at)
place_ends x (op.Mark label) entries = tt

pub entry_ends : (b : ℕ) (history : List Event) (e : Event) → EndsWhere e.id (entry_after b history e)
unfolding next_entry
entry_ends b history e = place_ends e.id e.op _

-- the notes are under different names, and each character's path ends with its name
abbrev pub ApartByName : List (Noted Id) → Type 0
ApartByName [] = Unit {0}
ApartByName (n ∷ notes) = EndsAt n.name n.entry × AllByRecursion (λ m. id_eq n.name m.name ≡ false) notes × ApartByName notes

some_same : (x y : Id) → Some x ≡ Some y → x ≡ y
some_same x y e = cc

-- two characters under different names have no path in common
no_tie : (x y : Id) (p q : Inserted) → last_id None p.path ≡ Some x → last_id None q.path ≡ Some y → id_eq x y ≡ false → inserted_cmp p q ≡ Equal → ⊥
no_tie x y p q hp hq apart tie =
    let same : x ≡ y = some_same x y (sym hp ∙ ap (last_id None) (path_exact p.path q.path tie) ∙ hq) in
    false≢true (sym apart ∙ (ap (λ z. id_eq x z) (sym same) ∙ ap is_eq (tied_itself id_total x)))

ends_among : (notes : List (Noted Id)) (m : Noted Id) → ApartByName notes → Among m notes → EndsAt m.name m.entry
ends_among [] m h k = absurd k
ends_among (n ∷ notes) m h k = ⊎_elim (λ e. subst (λ (z : Noted Id). EndsAt z.name z.entry) (sym e) h.0) (λ j. ends_among notes m h.2 j) k

no_tie_after : (n : Noted Id) (x : Inserted) (notes : List (Noted Id)) → last_id None x.path ≡ Some n.name → AllByRecursion (λ m. id_eq n.name m.name ≡ false) notes → ApartByName notes → NoTie inserted_cmp x (insertions (map (λ m. m.entry) notes))
no_tie_after n x notes hx apart h =
    all_from (λ y. inserted_cmp x y ≡ Equal → ⊥) (insertions (map (λ m. m.entry) notes)) (λ y k.
    let from = among_map (λ (m : Noted Id). m.entry) notes (Insertion y) (among_insertions (map (λ m. m.entry) notes) y k) in
    no_tie n.name from.0.name x y hx (subst (EndsAt from.0.name) (sym from.2) (ends_among notes from.0 h from.1)) (all_at (λ m. id_eq n.name m.name ≡ false) notes from.0 apart from.1))

apart_front : (n : Noted Id) (entry : Entry) (notes : List (Noted Id)) → EndsAt n.name entry → AllByRecursion (λ m. id_eq n.name m.name ≡ false) notes → ApartByName notes → ApartByPath (map (λ m. m.entry) notes) → ApartByPath (entry ∷ map (λ m. m.entry) notes)
apart_front n (Insertion x) notes e apart h rest = (no_tie_after n x notes e apart h, rest)
apart_front n (Deletion target) notes e apart h rest = rest
apart_front n Mark notes e apart h rest = rest

-- so their characters stand at different paths
pub apart_by_path : (notes : List (Noted Id)) → ApartByName notes → ApartByPath (map (λ n. n.entry) notes)
apart_by_path [] h = tt
apart_by_path (n ∷ notes) h = apart_front n n.entry notes h.0 h.1 h.2 (apart_by_path notes h.2)

apart_kept : (b : Bool) (n : Noted Id) (notes : List (Noted Id)) → EndsAt n.name n.entry → AllByRecursion (λ m. id_eq n.name m.name ≡ false) notes → ApartByName notes → ApartByName (cond b (n ∷ notes) notes)
apart_kept true n notes e apart h = (e, apart, h)
apart_kept false n notes e apart h = h

pub apart_filter : (p : Noted Id → Bool) (notes : List (Noted Id)) → ApartByName notes → ApartByName (filter p notes)
apart_filter p [] h = tt
apart_filter p (n ∷ notes) h = apart_kept (p n) n (filter p notes) h.0 (all_filter (λ m. id_eq n.name m.name ≡ false) p notes h.1) (apart_filter p notes h.2)
