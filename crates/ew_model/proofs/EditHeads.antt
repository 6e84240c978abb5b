-- The heads of a history as the parents of one more event: they may be parents, and the event becomes the only head.
use Rattle.std.proofs.Common.{◌≡◌, true, false, not, ⊎_elim, List, [], ◌∷◌, ◌++◌, refl, sym, ap, ◌∙◌}
use Rattle.std.specs.List.Sorted.{IsStrictlySortedBy}
use Rattle.std.specs.Ordering.{is_lt, is_eq}
use Rattle.std.specs.declared.cmp.Ordering.TheVariants.{Equal}
use Rattle.std.proofs.lemmas.Bool.{false≢true, and_from, not-true, or_cases}
use Rattle.ew_model.specs.declared.id.Id.{Id}
use Rattle.ew_model.specs.declared.event.Event.{Event}
use Rattle.ew_model.specs.Sets.{Among}
use Rattle.ew_model.specs.Sorting.{sort_by}
use Rattle.ew_model.specs.Ids.{id_cmp, id_eq, is_among, ids_ascend}
use Rattle.ew_model.specs.Ancestors.{ids_of, is_held, is_parent, version_events, ancestors, heads, is_reduced}
use Rattle.ew_model.proofs.PathOrder.{id_total}
use Rattle.ew_model.proofs.IdLaws.{is_same_id}
use Rattle.ew_model.proofs.SetLaws.{among_map, among_filter}
use Rattle.ew_model.proofs.SortingLaws.{NoTies, all_at, all_from, ties_filter, sort_sorted}
use Rattle.ew_model.proofs.GraphVersions as versions
use Rattle.ew_model.proofs.GraphHeads as graph
use Rattle.ew_model.proofs.VersionLaws.{found_by}
use Rattle.ew_model.proofs.EntryLaws.{LaidOut, none_held, filter_none}
use Rattle.ew_model.proofs.EqualSets.{other_id}
use Rattle.ew_model.proofs.CoverLaws.{ids_alike, among_here}

-- a head is the id of an event that has no child
pub head_is : (history : List Event) (x : Id) → Among x (heads history) → Among x (ids_of history) × (is_parent history x ≡ false)
head_is history x m = let parts = among_filter (λ y. not (is_parent history y)) (ids_of history) x m in (parts.0, not-true (is_parent history x) parts.1)

pub head_held : (history : List Event) (x : Id) → Among x (heads history) → is_held history x ≡ true
head_held history x m = among_here (ids_of history) x (head_is history x m).0

-- ids that are heads are reduced
pub heads_reduced : (history : List Event) (ids : List Id) → ((x : Id) → Among x ids → Among x (heads history)) → is_reduced history ids ≡ true
unfolding is_reduced
heads_reduced history ids there =
    graph.reduced_to (λ (e : Event). e.id) (λ (e : Event). e.parents) id_eq history ids (λ m s im is known.
    let found = found_by (id_eq s) (ancestors history (m ∷ [])) known in
    let f = among_map (λ (e : Event). e.id) (version_events history (m ∷ [])) found.0 found.1 in
    let same : s ≡ f.0.id = (is_same_id s found.0).0 found.2 ∙ f.2 in
    ⊎_elim
    (λ named. ⊎_elim
    (λ e. ap (id_eq m) same ∙ (ids_alike.symm m f.0.id ∙ e))
    (λ e. absurd (false≢true e))
    (or_cases (id_eq f.0.id m) false named))
    (λ child. absurd (false≢true (sym (head_is history s (there s is)).1 ∙ (ap (is_parent history) same ∙ child))))
    (versions.named_or_parent (λ (e : Event). e.id) (λ (e : Event). e.parents) id_eq history (m ∷ []) f.0 f.1))

-- no two ids of a history tie
pub ids_apart : (before later : List Event) → LaidOut before later → NoTies id_cmp (ids_of later)
ids_apart before [] laid = tt
ids_apart before (e ∷ later) laid = (
  all_from (λ y. id_cmp e.id y ≡ Equal → ⊥) (ids_of later) (λ y m tie.
      let f = among_map (λ (g : Event). g.id) later y m in
      let other = other_id before e f.0.id (all_at (λ (g : Event). is_held (before ++ e ∷ []) g.id ≡ false) later f.0 (none_held (before ++ e ∷ []) later laid.2) f.1) in
      false≢true (sym other ∙ (ap (id_eq e.id) (sym f.2) ∙ ap is_eq tie))),
  ids_apart (before ++ e ∷ []) later laid.2,
)

pub ascending : (ids : List Id) → IsStrictlySortedBy id_cmp ids → ids_ascend ids ≡ true
unfolding IsStrictlySortedBy
ascending [] s = refl
ascending (x ∷ []) s = refl
ascending (x ∷ y ∷ ids) s = and_from (is_lt (id_cmp x y)) (ids_ascend (y ∷ ids)) (ap is_lt s.0.0) (ascending (y ∷ ids) s.1)

-- the heads in order are ascending
pub heads_ascend : (history : List Event) → LaidOut [] history → ids_ascend (sort_by id_cmp (heads history)) ≡ true
heads_ascend history laid =
    ascending (sort_by id_cmp (heads history))
    (sort_sorted id_total (heads history) (ties_filter id_cmp (λ x. not (is_parent history x)) (ids_of history) (ids_apart [] history laid)))

-- an event that has all heads as parents becomes the only one
pub one_head : (history : List Event) (e : Event) → LaidOut [] (history ++ e ∷ []) → ((x : Id) → Among x (heads history) → Among x e.parents) → heads (history ++ e ∷ []) ≡ e.id ∷ []
one_head history e laid there =
    graph.heads_push (λ (f : Event). f.id) (λ (f : Event). f.parents) id_eq history e laid
    ∙ ap (λ xs. xs ++ e.id ∷ []) (filter_none (λ x. not (is_among e.parents x)) (heads history) (all_from (λ x. not (is_among e.parents x) ≡ false) (heads history) (λ x m. ap not (among_here e.parents x (there x m)))))
