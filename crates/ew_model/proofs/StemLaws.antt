-- New nodes over a stem: where they stand against its visible characters and against each other depends on the gap, the
-- id and the rest of the path, and not on the stem.
use Rattle.std.proofs.Common.{◌≡◌, ℕ, zero, suc, ◌<◌, ◌≤◌, Bool, true, false, cond, ◌⊎◌, ⊎_elim, List, [], ◌∷◌, ◌++◌, find, slice_get, Option, Some, None, option_map, refl, sym, ap, ◌∙◌, append_assoc, arith, nat_cmp, nat_lt}
use Rattle.std.specs.List.{list_any}
use Rattle.std.specs.List.Sorted.{IsStrictlySortedBy}
use Rattle.std.specs.Ordering.{ordering_then, ordering_reverse}
use Rattle.std.specs.declared.cmp.Ordering.{Ordering}
use Rattle.std.specs.declared.cmp.Ordering.TheVariants.{Less, Equal, Greater}
use Rattle.std.specs.Cmp.{IsTotalOrder, tied_itself}
use Rattle.std.proofs.lemmas.Cmp.{nat_cmp_total, on_total, then_total}
use Rattle.std.proofs.lemmas.Map.Lookups.{exact_unsigned}
use Rattle.std.proofs.lemmas.Bool.{cases_order}
use Rattle.std.proofs.lemmas.Bool.Decides.{nat_tests}
use Rattle.ew_model.specs.declared.id.Id.{Id}
use Rattle.ew_model.specs.Sets.{Among}
use Rattle.ew_model.specs.Ids.{id_cmp}
use Rattle.ew_model.specs.Paths.{Side, Step, side_cmp, path_cmp, path_lt, is_right_child, step_down}
use Rattle.ew_model.specs.Entries.{Inserted, Entry, inserted_cmp, insertions, order, visible}
use Rattle.ew_model.specs.Places.{left_of_or_right_of, new_path, path_before}
use Rattle.ew_model.specs.Paths.Side.{Left, Right}
use Rattle.ew_model.proofs.PathOrder.{path_total, id_total, then_equal, id_exact, path_exact, turned_back}
use Rattle.ew_model.proofs.SortingLaws.{all_at}
use Rattle.ew_model.proofs.PlaceLaws.{ApartByPath}
use Rattle.ew_model.proofs.GapLaws.{HasPrefixes, behind, gap}
use Rattle.ew_model.proofs.PrefixLaws.{ordered_prefixes, visible_among}
use Rattle.ew_model.proofs.TextLaws.{IdsApart}
use Rattle.ew_model.proofs.OperationLaws.{got}
use Rattle.ew_model.proofs.OwnIndex.{BehindRoot, sorted_order, sorted_visible, behind_root_visible}
use Rattle.ew_model.proofs.SiblingLaws.{common_front}

-- the entries below a cut, as far as new nodes need to know
pub record IsStem (entries : List Entry) : Type 0 where
  pub apart : ApartByPath entries
  pub prefixes : HasPrefixes (insertions entries)
  pub roots : BehindRoot (insertions entries)
  pub ids : IdsApart (insertions entries)

-- where a new node hangs
record HangPoint : Type 0 where
  parent : List Step
  side : Side

hang_found : Option Inserted → List Step → HangPoint
hang_found None p = record { parent = p; side = Right }
hang_found (Some w) p = record { parent = w.path; side = Left }

hang_at : Bool → Option Inserted → List Step → HangPoint
hang_at true o p = hang_found o p
hang_at false o p = record { parent = p; side = Right }

hung : HangPoint → Id → List Step
hung h x = step_down h.parent h.side x

hang_is : (b : Bool) (o : Option Inserted) (p : List Step) (x : Id) → cond b (left_of_or_right_of o p x) (step_down p Right x) ≡ hung (hang_at b o p) x
unfolding hung hang_at hang_found
hang_is true None p x = refl
hang_is true (Some w) p x = refl
hang_is false o p x = refl

side_itself : (side : Side) → side_cmp side side ≡ Equal
side_itself Left = refl
side_itself Right = refl

hung_cmp : (h : HangPoint) (y z : Id) (r q : List Step) → path_cmp (hung h y ++ r) (hung h z ++ q) ≡ ordering_then (id_cmp y z) (path_cmp r q)
unfolding hung
hung_cmp h y z r q =
    (λ i. path_cmp (append_assoc h.parent (record { side = h.side; child = y } ∷ []) r i) (append_assoc h.parent (record { side = h.side; child = z } ∷ []) q i))
    ∙ common_front h.parent (record { side = h.side; child = y } ∷ r) (record { side = h.side; child = z } ∷ q)
    ∙ ap (λ o. ordering_then (ordering_then o (id_cmp y z)) (path_cmp r q)) (side_itself h.side)

-- two new nodes of one gap: by their ids, and then by the rests of their paths
pub same_gap_cmp : (walk : List Inserted) (p : List Step) (y z : Id) (r q : List Step) → path_cmp (new_path walk p y ++ r) (new_path walk p z ++ q) ≡ ordering_then (id_cmp y z) (path_cmp r q)
same_gap_cmp walk p y z r q =
    let b = list_any (λ w. is_right_child p w.path) walk in
    let o = find (λ w. path_lt p w.path) walk in
    (λ i. path_cmp (hang_is b o p y i ++ r) (hang_is b o p z i ++ q)) ∙ hung_cmp (hang_at b o p) y z r q

-- how the i-th character stands to a gap
abbrev pub gap_order : ℕ → ℕ → Ordering
gap_order i g = cond (nat_lt i g) Less Greater

-- two characters of a list in order stand as their places do
pub places_cmp : (chars : List Inserted) (i j : ℕ) (x z : Inserted) → IsStrictlySortedBy inserted_cmp chars → slice_get chars i ≡ Some x → slice_get chars j ≡ Some z → path_cmp x.path z.path ≡ nat_cmp i j
unfolding IsStrictlySortedBy
places_cmp [] i j x z s e f = let no : ⊥ = cc in absurd no
places_cmp (c ∷ chars) zero zero x z s e f =
    let same : x ≡ z = cc in
    ap (λ (w : Inserted). path_cmp w.path z.path) same ∙ tied_itself path_total z.path
places_cmp (c ∷ chars) zero (suc j) x z s e f =
    let same : c ≡ x = cc in
    ap (λ (w : Inserted). path_cmp w.path z.path) (sym same) ∙ all_at (λ w. inserted_cmp c w ≡ Less) chars z s.0 (got chars j z f) ∙ grind (arith, nat_tests)
places_cmp (c ∷ chars) (suc i) zero x z s e f =
    let same : c ≡ z = cc in
    ap (λ (w : Inserted). path_cmp x.path w.path) (sym same) ∙ turned_back c.path x.path (all_at (λ w. inserted_cmp c w ≡ Less) chars x s.0 (got chars i x e)) ∙ grind (arith, nat_tests)
places_cmp (c ∷ chars) (suc i) (suc j) x z s e f = places_cmp chars i j x z s.1 e f ∙ grind (arith, nat_tests)

-- the character before a gap that isn't the first
pub gap_char : (chars : List Inserted) (h : ℕ) (p : List Step) → path_before chars (suc h) ≡ Some p → (c : Inserted) × (slice_get chars h ≡ Some c) × (c.path ≡ p)
gap_char chars h p e = at (slice_get chars h) refl e
  where
    at : (o : Option Inserted) → slice_get chars h ≡ o → option_map (λ (x : Inserted). x.path) o ≡ Some p → (c : Inserted) × (slice_get chars h ≡ Some c) × (c.path ≡ p)
    at None is e = let no : ⊥ = cc in absurd no
    at (Some c) is e = let same : c.path ≡ p = cc in (c, is, same)

behind_places : (i h : ℕ) → behind (nat_cmp i h) ≡ gap_order i (suc h)
behind_places i h =
    ⊎_elim
    (λ e. grind (arith, nat_tests))
    (λ k. ⊎_elim (λ l. grind (arith, nat_tests)) (λ l. grind (arith, nat_tests)) k)
    (cases_order i h)

root_gap : (i : ℕ) → Greater ≡ gap_order i 0
root_gap i = grind (arith, nat_tests)

-- a character against the path before a gap
pub char_gap : (chars : List Inserted) (i g : ℕ) (x : Inserted) (p : List Step) → IsStrictlySortedBy inserted_cmp chars → BehindRoot chars → slice_get chars i ≡ Some x → path_before chars g ≡ Some p → behind (path_cmp x.path p) ≡ gap_order i g
char_gap chars i zero x p s h e f =
    let same : [] ≡ p = cc in
    ap (λ q. behind (path_cmp x.path q)) (sym same) ∙ ap behind (all_at (λ z. path_cmp z.path [] ≡ Greater) chars x h (got chars i x e)) ∙ root_gap i
char_gap chars i (suc g) x p s h e f =
    let c = gap_char chars g p f in
    ap (λ q. behind (path_cmp x.path q)) (sym c.2) ∙ ap behind (places_cmp chars i g x c.0 s e c.1) ∙ behind_places i g

-- a visible character of the stem against a new node of a gap
pub stem_gap : (stem : List Entry) (i g : ℕ) (x : Inserted) (p : List Step) (y : Id) (r : List Step) → IsStem stem → slice_get (visible stem) i ≡ Some x → path_before (visible stem) g ≡ Some p → path_cmp x.path (new_path (order stem) p y ++ r) ≡ gap_order i g
stem_gap stem i g x p y r h e f =
    gap (order stem) p y r x (sorted_order stem h.apart) (ordered_prefixes stem h.prefixes) (visible_among stem x (got (visible stem) i x e))
    ∙ char_gap (visible stem) i g x p (sorted_visible stem h.apart) (behind_root_visible stem h.roots) e f

less_than : (i g : ℕ) → i < g → gap_order i g ≡ Less
less_than i g h = grind (arith, nat_tests)

not_less : (i g : ℕ) → g ≤ i → gap_order i g ≡ Greater
not_less i g h = grind (arith, nat_tests)

pub got_below : (chars : List Inserted) (i k : ℕ) (c : Inserted) → i ≤ k → slice_get chars k ≡ Some c → (x : Inserted) × (slice_get chars i ≡ Some x)
got_below [] i k c h e = let no : ⊥ = cc in absurd no
got_below (d ∷ chars) zero k c h e = (d, refl)
got_below (d ∷ chars) (suc i) zero c h e = absurd (omega arith)
got_below (d ∷ chars) (suc i) (suc k) c h e = got_below chars i k c (omega arith) e

-- new nodes of two gaps stand as the gaps do
pub two_gaps : (stem : List Entry) (g h : ℕ) (p q : List Step) (y z : Id) (r t : List Step) → IsStem stem → g < h → path_before (visible stem) g ≡ Some p → path_before (visible stem) h ≡ Some q → path_cmp (new_path (order stem) p y ++ r) (new_path (order stem) q z ++ t) ≡ Less
two_gaps stem g zero p q y z r t s l e f = absurd (omega arith)
two_gaps stem g (suc k) p q y z r t s l e f =
    let c = gap_char (visible stem) k q f in
    let x = got_below (visible stem) g k c.0 (omega arith) c.1 in
    let first : path_cmp (new_path (order stem) p y ++ r) x.0.path ≡ Less =
    path_total.antisymm (new_path (order stem) p y ++ r) x.0.path ∙ ap ordering_reverse (stem_gap stem g g x.0 p y r s x.1 e ∙ not_less g g (omega arith)) in
    let second : path_cmp x.0.path (new_path (order stem) q z ++ t) ≡ Less = stem_gap stem g (suc k) x.0 q z t s x.1 f ∙ less_than g (suc k) l in
    path_total.trans (new_path (order stem) p y ++ r) x.0.path (new_path (order stem) q z ++ t) first second

-- What tells a new node among those over a stem: its gap, the first id of its path behind the gap, and the rest.
pub record Desc : Type 0 where
  pub gap : ℕ
  pub first : Id
  pub rest : List Step

abbrev pub desc_cmp : Desc → Desc → Ordering
desc_cmp d e = ordering_then (nat_cmp d.gap e.gap) (ordering_then (id_cmp d.first e.first) (path_cmp d.rest e.rest))

pub desc_total : IsTotalOrder desc_cmp
desc_total = then_total (on_total (λ d. d.gap) nat_cmp_total) (then_total (on_total (λ d. d.first) id_total) (on_total (λ d. d.rest) path_total))

pub desc_exact : (d e : Desc) → desc_cmp d e ≡ Equal → d ≡ e
desc_exact d e h =
    let parts = then_equal _ _ h in
    let more = then_equal _ _ parts.1 in
    let g : d.gap ≡ e.gap = exact_unsigned d.gap e.gap parts.0 in
    let f : d.first ≡ e.first = id_exact d.first e.first more.0 in
    let r : d.rest ≡ e.rest = path_exact d.rest e.rest more.1 in
    λ i. record { gap = g i; first = f i; rest = r i }

-- the path that a description has over a stem
pub record IsAt (stem : List Entry) (d : Desc) (path : List Step) : Type 0 where
  pub before : List Step
  pub at : path_before (visible stem) d.gap ≡ Some before
  pub is : path ≡ new_path (order stem) before d.first ++ d.rest

at_cmp : (stem : List Entry) (d e : Desc) (p q : List Step) (o : Ordering) → IsStem stem → nat_cmp d.gap e.gap ≡ o → IsAt stem d p → IsAt stem e q → path_cmp p q ≡ ordering_then o (ordering_then (id_cmp d.first e.first) (path_cmp d.rest e.rest))
at_cmp stem d e p q Less s n h k =
    (λ i. path_cmp (h.is i) (k.is i)) ∙ two_gaps stem d.gap e.gap h.before k.before d.first e.first d.rest e.rest s (grind (arith, nat_tests)) h.at k.at
at_cmp stem d e p q Equal s n h k =
    let same : d.gap ≡ e.gap = exact_unsigned d.gap e.gap n in
    let found : Some h.before ≡ Some k.before = sym h.at ∙ (ap (path_before (visible stem)) same ∙ k.at) in
    let one : h.before ≡ k.before = cc in
    (λ i. path_cmp (h.is i) (k.is i)) ∙ ap (λ b. path_cmp (new_path (order stem) b d.first ++ d.rest) (new_path (order stem) k.before e.first ++ e.rest)) one
    ∙ same_gap_cmp (order stem) k.before d.first e.first d.rest e.rest
at_cmp stem d e p q Greater s n h k =
    (λ i. path_cmp (h.is i) (k.is i))
    ∙ path_total.antisymm (new_path (order stem) h.before d.first ++ d.rest) (new_path (order stem) k.before e.first ++ e.rest)
    ∙ ap ordering_reverse (two_gaps stem e.gap d.gap k.before h.before e.first d.first e.rest d.rest s (grind (arith, nat_tests)) k.at h.at)

-- New nodes stand as their descriptions do, whatever the stem.
pub desc_order : (stem : List Entry) (d e : Desc) (p q : List Step) → IsStem stem → IsAt stem d p → IsAt stem e q → path_cmp p q ≡ desc_cmp d e
desc_order stem d e p q s h k = at_cmp stem d e p q (nat_cmp d.gap e.gap) s refl h k

-- one path has one description
pub one_desc : (stem : List Entry) (d e : Desc) (p : List Step) → IsStem stem → IsAt stem d p → IsAt stem e p → d ≡ e
one_desc stem d e p s h k = desc_exact d e (sym (desc_order stem d e p p s h k) ∙ tied_itself path_total p)

-- A walk over a stem with new nodes of these descriptions.
pub record IsOver (stem : List Entry) (descs : List Desc) (walk : List Inserted) : Type 0 where
  pub sorted : IsStrictlySortedBy inserted_cmp walk
  pub from : (z : Inserted) → Among z walk → Among z (order stem) ⊎ ((d : Desc) × Among d descs × IsAt stem d z.path)
  pub stems : (z : Inserted) → Among z (order stem) → Among z walk
  pub nodes : (d : Desc) → Among d descs → (z : Inserted) × Among z walk × IsAt stem d z.path
