-- The events of an edit stand behind a critical cut: each of them knows all that was held before.
use Rattle.std.proofs.Common.{◌≡◌, ℕ, ◌+◌, true, ◌&&◌, List, [], ◌∷◌, ◌++◌, length, refl, sym, ap, ◌∙◌, subst, append_assoc}
use Rattle.std.specs.List.{list_all}
use Rattle.std.proofs.lemmas.Bool.{or_left}
use Rattle.ew_model.specs.declared.id.Id.{Id}
use Rattle.ew_model.specs.declared.event.Op.{Op}
use Rattle.ew_model.specs.declared.event.Event.{Event}
use Rattle.ew_model.specs.Sets.{Among}
use Rattle.ew_model.specs.Sorting.{sort_by}
use Rattle.ew_model.specs.Ids.{id_cmp, id_eq, is_among}
use Rattle.ew_model.specs.Ancestors.{ids_of, is_held, ancestors, heads}
use Rattle.ew_model.specs.Cuts.{are_among, is_critical}
use Rattle.ew_model.specs.Edits.{count_of, chain_of, events_of_ops}
use Rattle.ew_model.specs.Verdicts.{IsGood}
use Rattle.ew_model.proofs.AncestorLaws.{ancestors_before}
use Rattle.ew_model.proofs.ClearingLaw.{laid_rest}
use Rattle.ew_model.proofs.CoverLaws.{among_here}
use Rattle.ew_model.proofs.EditHeads.{one_head}
use Rattle.ew_model.proofs.EntryLaws.{LaidOut}
use Rattle.ew_model.proofs.GoodLaws.{good_laid_out}
use Rattle.ew_model.proofs.GraphCuts.{cut_between}
use Rattle.ew_model.proofs.HeadsLaw.{all_events}
use Rattle.ew_model.proofs.KeptLaws.{held_joined}
use Rattle.ew_model.proofs.ListTests.{pass_all}
use Rattle.ew_model.proofs.OperationLaws.{laid_part}
use Rattle.ew_model.proofs.PathOrder.{id_total}
use Rattle.ew_model.proofs.SortingLaws.{among_sort}

-- each event of a chain whose first one has all heads as parents knows all ids from below
chain_knows : (below before whole : List Event) (agent : List ℕ) (n : ℕ) (parents : List Id) (ops : List Op) → before ++ chain_of agent n parents ops ≡ whole → LaidOut [] whole
    → ((x : Id) → Among x (heads before) → Among x parents) → ((x : Id) → Among x (ids_of below) → is_held before x ≡ true)
    → list_all (λ (e : Event). are_among (ancestors whole e.parents) (ids_of below)) (chain_of agent n parents ops) ≡ true
chain_knows below before whole agent n parents [] is laid there held = refl
chain_knows below before whole agent n parents (op ∷ ops) is laid there held =
    let e : Event = record { id = record { agent = agent; seq = n }; parents = parents; op = op } in
    let later = chain_of agent (n + 1) (e.id ∷ []) ops in
    let shape : (before ++ e ∷ []) ++ later ≡ whole = append_assoc before (e ∷ []) later ∙ is in
    let next : LaidOut [] (before ++ e ∷ []) = laid_part [] (before ++ e ∷ []) later (subst (LaidOut []) (sym shape) laid) in
    let first : LaidOut [] before = laid_part [] before (e ∷ []) next in
    let rest : LaidOut before (e ∷ later) = laid_rest [] before (e ∷ later) (subst (LaidOut []) (sym is) laid) in
    let known : ancestors whole parents ≡ ids_of before = ap (λ w. ancestors w parents) (sym is) ∙ ancestors_before before (e ∷ later) parents rest.1 ∙ ap ids_of (all_events before parents first there) in
    let knows : are_among (ancestors whole parents) (ids_of below) ≡ true = pass_all (is_among (ancestors whole parents)) (ids_of below) (λ x m. ap (λ ids. is_among ids x) known ∙ held x m) in
    let one : heads (before ++ e ∷ []) ≡ e.id ∷ [] = one_head before e next there in
    let more = chain_knows below (before ++ e ∷ []) whole agent (n + 1) (e.id ∷ []) ops shape laid
    (λ x m. subst (Among x) one m)
    (λ x m. held_joined before (e ∷ []) x ∙ or_left (is_held before x) (is_held (e ∷ []) x) (held x m)) in
    λ i. knows i && more i

-- THE EVENTS OF AN EDIT stand behind a critical cut.
pub edit_cut : (history : List Event) (agent : List ℕ) (ops : List Op) → IsGood (history ++ events_of_ops history agent ops) → is_critical (history ++ events_of_ops history agent ops) (length history) ≡ true
unfolding is_critical events_of_ops
edit_cut history agent ops good =
    let parents = sort_by id_cmp (heads history) in
    let made = chain_of agent (count_of history agent) parents ops in
    cut_between (λ (e : Event). e.id) (λ (e : Event). e.parents) id_eq history made
    ∙ chain_knows history history (history ++ made) agent (count_of history agent) parents ops refl (good_laid_out (history ++ made) good) (among_sort id_total (heads history)) (λ x m. among_here (ids_of history) x m)
