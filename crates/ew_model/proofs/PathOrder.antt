-- The orders of ids and of paths are total, and tell different ids and paths apart.
use Rattle.std.proofs.Common.{◌≡◌, ℕ, List, [], ◌∷◌, Option, Some, None, refl, ap, ◌∙◌, subst, nat_cmp}
use Rattle.std.specs.Ordering.{ordering_then, ordering_reverse, on, then_cmp}
use Rattle.std.specs.declared.cmp.Ordering.{Ordering}
use Rattle.std.specs.declared.cmp.Ordering.TheVariants.{Less, Equal, Greater}
use Rattle.std.specs.Cmp.{IsTotalOrder}
use Rattle.std.specs.Cmp.Lexicographic.{slice_cmp}
use Rattle.std.proofs.lemmas.Cmp.{nat_cmp_total, nat_list_cmp_total, on_total, then_total, lists_total}
use Rattle.std.proofs.lemmas.Map.Lookups.{exact_unsigned, exact_bytes}
use Rattle.ew_model.specs.declared.id.Id.{Id}
use Rattle.ew_model.specs.Ids.{id_cmp}
use Rattle.ew_model.specs.Paths.{Side, Step, side_cmp, step_cmp, path_cmp, node_cmp, below_cmp}
use Rattle.ew_model.specs.Tree.{base_id}
use Rattle.ew_model.specs.Paths.Side.{Left, Right}

pub id_total : IsTotalOrder id_cmp
id_total = then_total (on_total (λ a. a.agent) nat_list_cmp_total) (on_total (λ a. a.seq) nat_cmp_total)

-- A path as a list of keys: its steps, and then its end, which stands between the left and the right steps.
abbrev side_place : Side → ℕ
side_place Left = 0
side_place Right = 2

abbrev key_place : Option Step → ℕ
key_place None = 1
key_place (Some s) = side_place s.side

abbrev key_id : Option Step → Id
key_id None = base_id 0
key_id (Some s) = s.child

abbrev key_cmp : Option Step → Option Step → Ordering
key_cmp = then_cmp (on key_place nat_cmp) (on key_id id_cmp)

abbrev keys : List Step → List (Option Step)
keys [] = None ∷ []
keys (s ∷ p) = Some s ∷ keys p

key_total : IsTotalOrder key_cmp
key_total = then_total (on_total key_place nat_cmp_total) (on_total key_id id_total)

-- left keys are below the end, and right keys above it
end_first : (side : Side) (x : Id) (o : Ordering) → ordering_then (key_cmp None (Some (record { side = side; child = x }))) o ≡ node_cmp side
end_first Left x o = refl
end_first Right x o = refl

end_last : (side : Side) (x : Id) (o : Ordering) → ordering_then (key_cmp (Some (record { side = side; child = x })) None) o ≡ below_cmp side
end_last Left x o = refl
end_last Right x o = refl

both_steps : (a b : Side) (x y : Id) (o : Ordering) → key_cmp (Some (record { side = a; child = x })) (Some (record { side = b; child = y })) ≡ step_cmp (record { side = a; child = x }) (record { side = b; child = y })
both_steps Left Left x y o = refl
both_steps Left Right x y o = refl
both_steps Right Left x y o = refl
both_steps Right Right x y o = refl

as_keys : (p q : List Step) → slice_cmp key_cmp (keys p) (keys q) ≡ path_cmp p q
as_keys [] [] = refl
as_keys [] (t ∷ q) = end_first t.side t.child (slice_cmp key_cmp [] (keys q))
as_keys (s ∷ p) [] = end_last s.side s.child (slice_cmp key_cmp (keys p) [])
as_keys (s ∷ p) (t ∷ q) = λ i. ordering_then (both_steps s.side t.side s.child t.child Equal i) (as_keys p q i)

-- paths are totally ordered
pub path_total : IsTotalOrder path_cmp
path_total = subst IsTotalOrder (λ i p q. as_keys p q i) (on_total keys (lists_total key_total))

-- paths compared the other way round
pub turned_back : (p q : List Step) → path_cmp p q ≡ Less → path_cmp q p ≡ Greater
turned_back p q e = path_total.antisymm q p ∙ ap ordering_reverse e

pub turned_on : (p q : List Step) → path_cmp p q ≡ Greater → path_cmp q p ≡ Less
turned_on p q e = path_total.antisymm q p ∙ ap ordering_reverse e

-- a comparison by two parts finds them alike where both parts are alike
pub then_equal : (r s : Ordering) → ordering_then r s ≡ Equal → (r ≡ Equal) × (s ≡ Equal)
then_equal Less s e = cc
then_equal Equal s e = (refl, e)
then_equal Greater s e = cc

pub id_exact : (a b : Id) → id_cmp a b ≡ Equal → a ≡ b
id_exact a b e =
    let parts = then_equal _ _ e in
    let agent : a.agent ≡ b.agent = exact_bytes a.agent b.agent parts.0 in
    let seq : a.seq ≡ b.seq = exact_unsigned a.seq b.seq parts.1 in
    λ i. record { agent = agent i; seq = seq i }

side_exact : (a b : Side) → side_cmp a b ≡ Equal → a ≡ b
side_exact Left Left e = refl
side_exact Left Right e = cc
side_exact Right Left e = cc
side_exact Right Right e = refl

pub step_exact : (s t : Step) → step_cmp s t ≡ Equal → s ≡ t
step_exact s t e =
    let parts = then_equal _ _ e in
    let side : s.side ≡ t.side = side_exact s.side t.side parts.0 in
    let child : s.child ≡ t.child = id_exact s.child t.child parts.1 in
    λ i. record { side = side i; child = child i }

no_tie_below : (side : Side) → node_cmp side ≡ Equal → ⊥
no_tie_below Left e = cc
no_tie_below Right e = cc

no_tie_above : (side : Side) → below_cmp side ≡ Equal → ⊥
no_tie_above Left e = cc
no_tie_above Right e = cc

-- paths that compare alike are one
pub path_exact : (p q : List Step) → path_cmp p q ≡ Equal → p ≡ q
path_exact [] [] e = refl
path_exact [] (t ∷ q) e = absurd (no_tie_below t.side e)
path_exact (s ∷ p) [] e = absurd (no_tie_above s.side e)
path_exact (s ∷ p) (t ∷ q) e =
    let parts = then_equal _ _ e in
    let first : s ≡ t = step_exact s t parts.0 in
    let rest : p ≡ q = path_exact p q parts.1 in
    λ i. first i ∷ rest i

sides_as_numbers : (a b : Side) → nat_cmp (side_place a) (side_place b) ≡ side_cmp a b
sides_as_numbers Left Left = refl
sides_as_numbers Left Right = refl
sides_as_numbers Right Left = refl
sides_as_numbers Right Right = refl

side_total : IsTotalOrder side_cmp
side_total = subst IsTotalOrder (λ i a b. sides_as_numbers a b i) (on_total side_place nat_cmp_total)

-- steps are totally ordered
pub step_total : IsTotalOrder step_cmp
step_total = then_total (on_total (λ s. s.side) side_total) (on_total (λ s. s.child) id_total)
