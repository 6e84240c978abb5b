-- The tests of names and of ids tell whether they are one.
use Rattle.std.proofs.Common.{◌≡◌, ℕ, true, IsTrue, ◌↔◌, List, ap, subst}
use Rattle.std.specs.Ordering.{is_eq}
use Rattle.std.specs.Cmp.{IsEquivalence, eq_by_cmp_equiv, tied_itself}
use Rattle.std.proofs.lemmas.Cmp.{nat_list_cmp_total}
use Rattle.std.proofs.lemmas.Map.Lookups.{exact_bytes}
use Rattle.ew_model.specs.declared.id.Id.{Id}
use Rattle.ew_model.specs.Ids.{name_eq, id_cmp, id_eq}
use Rattle.ew_model.proofs.PathOrder.{id_total, id_exact}
use Rattle.ew_model.proofs.GapLaws.{eq_from}

pub names_equal : IsEquivalence name_eq
names_equal = eq_by_cmp_equiv nat_list_cmp_total

pub name_exact : (a b : List ℕ) → name_eq a b ≡ true → a ≡ b
name_exact a b h = exact_bytes a b (eq_from _ h)

pub is_same_id : (a b : Id) → IsTrue (id_eq a b) ↔ (a ≡ b)
is_same_id a b = ((λ told. id_exact a b (eq_from (id_cmp a b) told)), (λ same. subst (λ (x : Id). id_eq a x ≡ true) same (ap is_eq (tied_itself id_total a))))
