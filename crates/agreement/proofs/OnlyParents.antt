-- Events of which the one before is the only parent.
use Rattle.std.proofs.Common.{◌≡◌, ℕ, suc, ◌-◌, ◌<◌, List, [], ◌∷◌, length, Some, sym, ap, ◌∙◌, subst, arith}
use Rattle.std.specs.Prelude.{slice_get}
use Rattle.ew_model.specs.declared.id.Id.{Id}
use Rattle.ew_model.specs.declared.event.Event.{Event}
use Rattle.ew_model.specs.Ancestors.{ids_of}
use Rattle.ew_model.specs.Ids.{id_cmp}
use Rattle.ew_model.specs.Positions.{parents_at, parent_positions}
use Rattle.ew_model.specs.Sorting.{sort_by}
use Rattle.ew_model.proofs.ListParts.{element_there}
use Rattle.frontier.specs.Chains.{IsChain}
use Rattle.event_graph.specs.Keeping.{IsAdmitted}
use Rattle.agreement.specs.Sharing.{HaveSameParents, ids_at}
use Rattle.agreement.proofs.Found.{told_id}
use Rattle.agreement.proofs.ParentIds.{parents_told}

-- in a chain that begins before it, an event's only parent is the one before
pub before_it : (history : List Event) (p start : ℕ) → IsChain (parent_positions history) start p → start < p → parents_at (parent_positions history) p ≡ (p - 1) ∷ []
before_it history p start chain less =
    let it : suc (p - 1) ≡ p = omega (arith, less) in
    subst (λ n. parents_at (parent_positions history) n ≡ (p - 1) ∷ []) it (chain.links (p - 1) (omega (arith, less)) (omega (arith, less)))

-- whose id is then its parents
pub ids_of_only : (history : List Event) (p : ℕ) (e : Event) (x : Id) → IsAdmitted history → slice_get history p ≡ Some e → parents_at (parent_positions history) p ≡ (p - 1) ∷ [] → slice_get (ids_of history) (p - 1) ≡ Some x → e.parents ≡ x ∷ []
ids_of_only history p e x admitted at only here =
    parents_told history p e admitted at
    ∙ (ap (λ ps. sort_by id_cmp (ids_at history ps)) only
    ∙ ap (λ (y : Id). y ∷ []) (sym (told_id (ids_of history) (p - 1) x here)))

-- so events with the same parents have the same id before them
pub same_only : (one other : List Event) (p q : ℕ) (x y : Id) → p < length one → q < length other → IsAdmitted one → IsAdmitted other
    → parents_at (parent_positions one) p ≡ (p - 1) ∷ [] → parents_at (parent_positions other) q ≡ (q - 1) ∷ []
    → slice_get (ids_of one) (p - 1) ≡ Some x → slice_get (ids_of other) (q - 1) ≡ Some y → HaveSameParents one p other q → x ≡ y
same_only one other p q x y within among admitted known ours theirs here there same =
    let e = element_there one p within in
    let f = element_there other q among in
    let both : x ∷ [] ≡ y ∷ [] =
    sym (ids_of_only one p e.0 x admitted e.1 ours here) ∙ (same e.0 f.0 e.1 f.1 ∙ ids_of_only other q f.0 y known f.1 theirs there) in
    cc
