-- The law of clearing, for good histories and critical cuts.
use Rattle.std.proofs.Common.{◌≡◌, ℕ, zero, suc, ◌≤◌, true, List, [], ◌∷◌, ◌++◌, length, take, drop, fold, nat_le, refl, sym, ap, ◌∙◌, subst, append_assoc, arith, length-take, take-append-drop}
use Rattle.std.specs.List.{list_all, AllByRecursion}
use Rattle.std.proofs.lemmas.Bool.{and_parts, leb-true}
use Rattle.std.proofs.lemmas.List.{length-map}
use Rattle.std.proofs.Math.Seq.{drop-append_seam}
use Rattle.ew_model.specs.declared.id.Id.{Id}
use Rattle.ew_model.specs.declared.event.Event.{Event}
use Rattle.ew_model.specs.Ids.{id_eq, is_among}
use Rattle.ew_model.specs.Ancestors.{ids_of, ancestors}
use Rattle.ew_model.specs.Names.{is_name}
use Rattle.ew_model.specs.Sound.{AreSound}
use Rattle.ew_model.specs.Entries.{Inserted, visible}
use Rattle.ew_model.specs.Tree.{Noted, Applied, all_entries, entries_over, grow, applied_after, tree_of, tree_on, tree}
use Rattle.ew_model.specs.Texts.{visible_at, text_of}
use Rattle.ew_model.specs.Operations.{next_operation, operations_after, operations_of, operations}
use Rattle.ew_model.specs.Cuts.{are_among, is_critical}
use Rattle.ew_model.specs.ClearingLaws.{CutsClear, CutsKeepLengths}
use Rattle.ew_model.proofs.AncestorLaws.{ancestors_before}
use Rattle.ew_model.proofs.TreeLaws.{applied_after-append}
use Rattle.ew_model.proofs.EntryLaws.{LaidOut}
use Rattle.ew_model.proofs.GraphOrder.{laid_behind}
use Rattle.ew_model.proofs.OperationLaws.{laid_part}
use Rattle.ew_model.proofs.LocalEdit.{KnowsAll}
use Rattle.ew_model.proofs.GoodLaws.{good_laid_out}
use Rattle.ew_model.proofs.Clearing.{HasAgent, AllKnow, clearing, clearing_lengths}

-- the operations of events one after another
operations-append : (b : ℕ) (notes : List (Noted Id)) (xs ys : List (Applied Id)) → operations_after id_eq b notes (xs ++ ys) ≡ operations_after id_eq b notes xs ++ operations_after id_eq b (fold (grow id_eq b) notes xs) ys
operations-append b notes [] ys = refl
operations-append b notes (x ∷ xs) ys = ap (λ ops. next_operation id_eq b notes x ∷ ops) (operations-append b (grow id_eq b notes x) xs ys)

pub length-operations : (b : ℕ) (notes : List (Noted Id)) (xs : List (Applied Id)) → length (operations_after id_eq b notes xs) ≡ length xs
length-operations b notes [] = refl
length-operations b notes (x ∷ xs) = ap suc (length-operations b (grow id_eq b notes x) xs)

pub length-applied : (before xs : List Event) → length (applied_after before xs) ≡ length xs
length-applied before [] = refl
length-applied before (x ∷ xs) = ap suc (length-applied (before ++ x ∷ []) xs)

-- the operations of a history in two parts
operations_behind : (below later : List Event) → drop (length below) (operations (below ++ later)) ≡ operations_after id_eq 0 (tree_on 0 below) (applied_after below later)
unfolding operations operations_of tree_on tree_of
operations_behind below later =
    let first = operations_after id_eq 0 [] (applied_after [] below) in
    let more = operations_after id_eq 0 (fold (grow id_eq 0) [] (applied_after [] below)) (applied_after below later) in
    let long : length first ≡ length below = length-operations 0 [] (applied_after [] below) ∙ length-applied [] below in
    ap (λ as'. drop (length below) (operations_after id_eq 0 [] as')) (applied_after-append [] below later)
    ∙ ap (drop (length below)) (operations-append 0 [] (applied_after [] below) (applied_after below later))
    ∙ ap (λ n. drop n (first ++ more)) (sym long)
    ∙ drop-append_seam first more

all_known_ids : (ids : List Id) (events : List Event) → are_among ids (ids_of events) ≡ true → KnowsAll events ids
all_known_ids ids [] h = tt
all_known_ids ids (e ∷ events) h = let parts = and_parts (is_among ids e.id) (are_among ids (ids_of events)) h in (parts.0, all_known_ids ids events parts.1)

-- what is an ancestor in the whole history is one before the event
pub know_before : (below before later whole : List Event) → before ++ later ≡ whole → LaidOut before later → list_all (λ e. are_among (ancestors whole e.parents) (ids_of below)) later ≡ true → AllKnow below before later
know_before below before [] whole eq laid h = tt
know_before below before (e ∷ later) whole eq laid h =
    let parts = and_parts (are_among (ancestors whole e.parents) (ids_of below)) (list_all (λ e. are_among (ancestors whole e.parents) (ids_of below)) later) h in
    let same : ancestors whole e.parents ≡ ancestors before e.parents = ap (λ w. ancestors w e.parents) (sym eq) ∙ ancestors_before before (e ∷ later) e.parents laid.1 in (
      all_known_ids (ancestors before e.parents) below (ap (λ ids. are_among ids (ids_of below)) (sym same) ∙ parts.0),
      know_before below (before ++ e ∷ []) later whole (append_assoc before (e ∷ []) later ∙ eq) laid.2 parts.1,
    )

pub laid_rest : (before xs ys : List Event) → LaidOut before (xs ++ ys) → LaidOut (before ++ xs) ys
laid_rest before xs ys h = laid_behind (λ (e : Event). e.id) (λ (e : Event). e.parents) id_eq before xs ys h

-- a name isn't empty
some_agent : (bytes : List ℕ) → is_name bytes ≡ true → (c : ℕ) × (cs : List ℕ) × (bytes ≡ c ∷ cs)
some_agent [] h = let no : ⊥ = cc in absurd no
some_agent (c ∷ cs) h = (c, cs, refl)

sound_agents : (events : List Event) → AreSound events → AllByRecursion HasAgent events
sound_agents [] h = tt
sound_agents (e ∷ events) h = (some_agent e.id.agent h.0.id.agent, sound_agents events h.1)

sound_rest : (k : ℕ) (events : List Event) → AreSound events → AreSound (drop k events)
sound_rest zero events h = h
sound_rest (suc k) [] h = tt
sound_rest (suc k) (e ∷ events) h = sound_rest k events h.1

-- The law of clearing.
pub cuts_clear : CutsClear
unfolding is_critical text_of tree
cuts_clear history k good sound critical =
    let below = take k history in
    let later = drop k history in
    let whole : below ++ later ≡ history = take-append-drop k history in
    let parts = and_parts (nat_le k (length history)) (list_all (λ e. are_among (ancestors history e.parents) (ids_of below)) later) critical in
    let laid : LaidOut [] (below ++ later) = subst (LaidOut []) (sym whole) (good_laid_out history good) in
    let laid_below : LaidOut [] below = laid_part [] below later laid in
    let know : AllKnow below below later = know_before below below later history whole (laid_rest [] below later laid) parts.1 in
    let long : length below ≡ k = let fits : k ≤ length history = leb-true k (length history) parts.0 in omega (arith, length-take k history) in
    ap (λ b. operations_of id_eq b (applied_after below later)) (length-map (visible (all_entries 0 (tree_on 0 below))) (λ (x : Inserted). x.ch))
    ∙ sym (clearing below laid_below later laid know (sound_agents later (sound_rest k history sound)))
    ∙ sym (operations_behind below later)
    ∙ (λ i. drop (long i) (operations (whole i)))

-- The law of clearing for the lengths of versions.
pub cuts_keep_lengths : CutsKeepLengths
unfolding is_critical text_of tree visible_at
cuts_keep_lengths history k version good sound critical holds =
    let below = take k history in
    let later = drop k history in
    let over = ancestors history version in
    let whole : below ++ later ≡ history = take-append-drop k history in
    let parts = and_parts (nat_le k (length history)) (list_all (λ e. are_among (ancestors history e.parents) (ids_of below)) later) critical in
    let laid : LaidOut [] (below ++ later) = subst (LaidOut []) (sym whole) (good_laid_out history good) in
    let laid_below : LaidOut [] below = laid_part [] below later laid in
    let know : AllKnow below below later = know_before below below later history whole (laid_rest [] below later laid) parts.1 in
    let knows : KnowsAll below (ancestors (below ++ later) version) = subst (λ w. KnowsAll below (ancestors w version)) (sym whole) (all_known_ids over below holds) in
    let long : length (text_of below) ≡ length (visible (all_entries 0 (tree_on 0 below))) = length-map (visible (all_entries 0 (tree_on 0 below))) (λ (x : Inserted). x.ch) in
    ap (λ b. length (visible (entries_over id_eq b (tree_of id_eq b (applied_after below later)) over))) long
    ∙ ap (λ w. length (visible (entries_over id_eq (length (visible (all_entries 0 (tree_on 0 below)))) (tree_of id_eq (length (visible (all_entries 0 (tree_on 0 below)))) (applied_after below later)) (ancestors w version)))) (sym whole)
    ∙ sym (clearing_lengths below laid_below later version laid know (sound_agents later (sound_rest k history sound)) knows)
    ∙ ap (λ w. length (visible (entries_over id_eq 0 (tree_on 0 w) (ancestors w version)))) whole
