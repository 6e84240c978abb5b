-- The base is a stem: its characters ascend, all are visible, and their ids are those of no event.
use Rattle.std.proofs.Common.{◌≡◌, ℕ, zero, suc, true, false, not, ⊎_elim, List, [], ◌∷◌, ◌++◌, filter, length, refl, sym, ap, ◌∙◌, subst, append-nil, length-append, arith}
use Rattle.std.specs.List.{AllByRecursion}
use Rattle.std.specs.List.Sorted.{IsStrictlySortedBy}
use Rattle.std.specs.declared.cmp.Ordering.TheVariants.{Less}
use Rattle.std.proofs.lemmas.List.Folds.{list_any-append}
use Rattle.std.proofs.Math.Bool.{or-false}
use Rattle.ew_model.specs.declared.id.Id.{Id}
use Rattle.ew_model.specs.Sets.{Among}
use Rattle.ew_model.specs.Sorting.{sort_by}
use Rattle.ew_model.specs.Ids.{id_cmp, id_eq}
use Rattle.ew_model.specs.Entries.{Inserted, inserted_cmp, insertions, deletes, is_deleted, order, visible}
use Rattle.ew_model.specs.Paths.{path_cmp}
use Rattle.ew_model.specs.Tree.{base_id, base_path, based}
use Rattle.ew_model.specs.Paths.Side.{Right}
use Rattle.ew_model.specs.Entries.Entry.{Insertion}
use Rattle.ew_model.proofs.PathOrder.{path_total, id_exact}
use Rattle.ew_model.proofs.SetLaws.{among_joined}
use Rattle.ew_model.proofs.SortingLaws.{all_from, sort_among, among_sort, sort_sorted, sorted_unique}
use Rattle.ew_model.proofs.PrefixLaws.{insertions-append, base_prefixes}
use Rattle.ew_model.proofs.PlaceLaws.{placed_total}
use Rattle.ew_model.proofs.GapLaws.{eq_from}
use Rattle.ew_model.proofs.TextLaws.{IdsApart}
use Rattle.ew_model.proofs.OwnIndex.{base_behind}
use Rattle.ew_model.proofs.ClearLaws.{sorted_ties, all_pass}
use Rattle.ew_model.proofs.LikeLaws.{IsNew}
use Rattle.ew_model.proofs.StemLaws.{IsStem}
use Rattle.ew_model.proofs.EntryLaws.{all_mapped}
use Rattle.ew_model.proofs.SiblingLaws.{common_front}

abbrev base_char : ℕ → Inserted
base_char n = record { id = base_id n; path = base_path n; ch = 0 }

pub base_next : (n : ℕ) → insertions (based (suc n)) ≡ insertions (based n) ++ base_char n ∷ []
base_next n = insertions-append (based n) (Insertion (base_char n) ∷ [])

pub joined_all : {X : Type 0} (P : X → Type 0) (xs : List X) (y : X) → AllByRecursion P xs → P y → AllByRecursion P (xs ++ y ∷ [])
joined_all P [] y h k = (k, tt)
joined_all P (x ∷ xs) y h k = (h.0, joined_all P xs y h.1 k)

path_rises : (n : ℕ) → path_cmp (base_path n) (base_path (suc n)) ≡ Less
path_rises n =
    ap (λ p. path_cmp p (base_path (suc n))) (sym (append-nil (base_path n))) ∙ common_front (base_path n) [] (record { side = Right; child = base_id (suc n) } ∷ [])

base_below : (n : ℕ) → AllByRecursion (λ z. path_cmp z.path (base_path n) ≡ Less) (insertions (based n))
base_below zero = tt
base_below (suc n) =
    subst (AllByRecursion (λ (z : Inserted). path_cmp z.path (base_path (suc n)) ≡ Less)) (sym (base_next n))
    (joined_all (λ z. path_cmp z.path (base_path (suc n)) ≡ Less) (insertions (based n)) (base_char n)
    (all_mapped (λ z. path_cmp z.path (base_path n) ≡ Less) (λ z. path_cmp z.path (base_path (suc n)) ≡ Less) (insertions (based n)) (λ z l. path_total.trans z.path (base_path n) (base_path (suc n)) l (path_rises n)) (base_below n))
    (path_rises n))

sorted_push : (xs : List Inserted) (y : Inserted) → IsStrictlySortedBy inserted_cmp xs → AllByRecursion (λ z. path_cmp z.path y.path ≡ Less) xs → IsStrictlySortedBy inserted_cmp (xs ++ y ∷ [])
unfolding IsStrictlySortedBy
sorted_push [] y s h = (tt, tt)
sorted_push (x ∷ xs) y s h = (joined_all (λ z. inserted_cmp x z ≡ Less) xs y s.0 h.0, sorted_push xs y s.1 h.1)

base_sorted : (n : ℕ) → IsStrictlySortedBy inserted_cmp (insertions (based n))
unfolding IsStrictlySortedBy
base_sorted zero = tt
base_sorted (suc n) = subst (IsStrictlySortedBy inserted_cmp) (sym (base_next n)) (sorted_push (insertions (based n)) (base_char n) (base_sorted n) (base_below n))

sort_same : (xs : List Inserted) → IsStrictlySortedBy inserted_cmp xs → sort_by inserted_cmp xs ≡ xs
sort_same xs s = sorted_unique placed_total (sort_by inserted_cmp xs) xs (sort_sorted placed_total xs (sorted_ties xs s)) s (sort_among placed_total xs) (among_sort placed_total xs)

pub base_kept : (n : ℕ) (x : Id) → is_deleted (based n) x ≡ false
base_kept zero x = refl
base_kept (suc n) x = list_any-append (deletes x) (based n) (Insertion (base_char n) ∷ []) ∙ or-false (is_deleted (based n) x) ∙ base_kept n x

-- all characters of the base are visible
pub base_visible : (n : ℕ) → visible (based n) ≡ insertions (based n)
unfolding visible order
base_visible n =
    ap (filter (λ y. not (is_deleted (based n) y.id))) (sort_same (insertions (based n)) (base_sorted n))
    ∙ all_pass (λ y. not (is_deleted (based n) y.id)) (insertions (based n)) (all_from (λ y. not (is_deleted (based n) y.id) ≡ true) (insertions (based n)) (λ y m. ap not (base_kept n y.id)))

base_length : (n : ℕ) → length (insertions (based n)) ≡ n
base_length zero = refl
base_length (suc n) = ap length (base_next n) ∙ omega (arith, length-append (insertions (based n)) (base_char n ∷ []), base_length n)

-- there are as many as the base has
pub base_long : (n : ℕ) → length (visible (based n)) ≡ n
base_long n = ap length (base_visible n) ∙ base_length n

base_is : (n : ℕ) (x : Inserted) → Among x (insertions (based n)) → (i : ℕ) × (x ≡ base_char i)
base_is zero x m = absurd m
base_is (suc n) x m = ⊎_elim (λ j. base_is n x j) (λ j. ⊎_elim (λ e. (n, e)) (λ no. absurd no) j) (among_joined (insertions (based n)) (base_char n ∷ []) x (subst (Among x) (base_next n) m))

base_ids : (n : ℕ) → IdsApart (insertions (based n))
base_ids n x y mx my e =
    let i = base_is n x mx in
    let j = base_is n y my in
    let ids : x.id ≡ y.id = id_exact x.id y.id (eq_from (id_cmp x.id y.id) e) in
    let same : i.0 ≡ j.0 = ap (λ (c : Inserted). c.id.seq) (sym i.1) ∙ (ap (λ (a : Id). a.seq) ids ∙ ap (λ (c : Inserted). c.id.seq) j.1) in
    i.1 ∙ (ap base_char same ∙ sym j.1)

pub base_stem : (n : ℕ) → IsStem (based n)
base_stem n = record { apart = sorted_ties (insertions (based n)) (base_sorted n); prefixes = base_prefixes n; roots = base_behind n; ids = base_ids n }

-- an id with an agent is no base name
other_agent : (i : ℕ) (agent : List ℕ) (c : ℕ) (cs : List ℕ) (seq : ℕ) → agent ≡ c ∷ cs → id_eq (base_id i) (record { agent = agent; seq = seq }) ≡ false
other_agent i agent c cs seq e = ap (λ a. id_eq (base_id i) (record { agent = a; seq = seq })) e

pub base_new : (n : ℕ) (x : Id) (c : ℕ) (cs : List ℕ) → x.agent ≡ c ∷ cs → IsNew (based n) x
base_new n x c cs e = record {
  others = subst (AllByRecursion (λ (z : Inserted). id_eq z.id x ≡ false)) (sym (base_visible n))
      (all_from (λ z. id_eq z.id x ≡ false) (insertions (based n)) (λ z m. let i = base_is n z m in ap (λ (w : Inserted). id_eq w.id x) i.1 ∙ other_agent i.0 x.agent c cs x.seq e));
  kept = base_kept n x;
}
