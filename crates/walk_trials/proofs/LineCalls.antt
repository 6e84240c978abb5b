-- What calls in a line ask for, and what stands after them.
use Rattle.std.proofs.Common.{◌≡◌, ◌+◌, ℕ, List, [], ◌∷◌, ◌++◌, refl, sym, subst}
use Rattle.ew_model.specs.declared.id.Id.{Id}
use Rattle.ew_model.specs.Places.Act.{InsertAs, DeleteAt}
use Rattle.ew_model.specs.Tree.{Applied}
use Rattle.ew_model.specs.Records.{next_of, without}
use Rattle.advance_retreat.specs.Kept.{Kept, with_lost}
use Rattle.advance_retreat.specs.Standing.{StandsFor, is_applied}
use Rattle.advance_retreat.specs.Conditions.{MayInsert, MayDelete, MayAdvanceTo, MayRetreatFrom}
use Rattle.advance_retreat.proofs.Losses.{still_stands}
use Rattle.ew_model.proofs.StateLaws.{holds_first}
use Rattle.walk_trials.specs.Calls.{Calls, UsesId, AreCalled, IsInLine}
use Rattle.walk_trials.proofs.Lines.{last_left, last_leaves, next_is_new, may_insert, used_by, after_apply, after_retreat, after_advance}

-- the calls with these positions
abbrev with_turns : Calls → List ℕ → List ℕ → Calls
with_turns c prepared out = record { next = c.next; ids = c.ids; prepared = prepared; out = out }

-- RETREATS AND ADVANCES
abbrev pub Retreats : Kept → ℕ → Type 0
Retreats s n = (b : ℕ) × (events : List (Applied ℕ)) × (prepared : List ℕ) × StandsFor s b events prepared × MayRetreatFrom events prepared n

abbrev pub Advances : Kept → ℕ → Type 0
Advances s n = (b : ℕ) × (events : List (Applied ℕ)) × (prepared : List ℕ) × StandsFor s b events prepared × MayAdvanceTo events prepared n

module _ (s : Kept) (c d : Calls) (n : ℕ) (line : IsInLine s c) where
  module _ (last : c.prepared ≡ n ∷ d.prepared) where
    own : IsInLine s (with_turns c (n ∷ d.prepared) c.out)
    own = subst (λ (ns : List ℕ). IsInLine s (with_turns c ns c.out)) last line

    in_it : is_applied own.1 n
    in_it = own.2.part n (holds_first n d.prepared)

    leaves : MayRetreatFrom own.1 (n ∷ d.prepared) n
    leaves = last_leaves own.1 own.3.over n d.prepared own.3.prepared.0 in_it

    pub retreats : Retreats s n
    retreats = (own.0, own.1, n ∷ d.prepared, own.2, leaves)

    pub retreated : (t : Kept) → d ≡ with_turns c d.prepared (n ∷ c.out)
        → ((b : ℕ) (events : List (Applied ℕ)) (prepared : List ℕ) → StandsFor s b events prepared → MayRetreatFrom events prepared n → StandsFor t b events (without n prepared)) → IsInLine t d
    retreated t is after =
        let stands = subst (λ (ns : List ℕ). StandsFor t own.0 own.1 ns) (last_left n d.prepared own.3.prepared.0) (after own.0 own.1 (n ∷ d.prepared) own.2 leaves) in
        subst (λ (k : Calls). IsInLine t k) (sym is) (own.0, own.1, stands, after_retreat own.1 c.next c.ids n d.prepared c.out own.3 in_it own.2.closed)

  module _ (last : c.out ≡ n ∷ d.out) where
    back : IsInLine s (with_turns c c.prepared (n ∷ d.out))
    back = subst (λ (ns : List ℕ). IsInLine s (with_turns c c.prepared ns)) last line

    pub advances : Advances s n
    advances = (back.0, back.1, c.prepared, back.2, back.3.out.0.may)

    pub advanced : (t : Kept) → d ≡ with_turns c (n ∷ c.prepared) d.out
        → ((b : ℕ) (events : List (Applied ℕ)) (prepared : List ℕ) → StandsFor s b events prepared → MayAdvanceTo events prepared n → StandsFor t b events (n ∷ prepared)) → IsInLine t d
    advanced t is after =
        let stands = after back.0 back.1 c.prepared back.2 back.3.out.0.may in
        subst (λ (k : Calls). IsInLine t k) (sym is) (back.0, back.1, stands, after_advance back.1 c.next c.ids n c.prepared d.out back.3)

-- APPLIES
-- the calls after the next event was applied
abbrev pub with_event : Calls → Calls
with_event c = record { next = c.next + 1; ids = c.ids; prepared = c.next ∷ c.prepared; out = [] }

abbrev pub Deletes : Kept → ℕ → Type 0
Deletes s n = (b : ℕ) × (events : List (Applied ℕ)) × (prepared : List ℕ) × StandsFor s b events prepared × MayDelete events n

abbrev pub Inserts : Kept → ℕ → Id → Type 0
Inserts s n id = (b : ℕ) × (events : List (Applied ℕ)) × (prepared : List ℕ) × StandsFor s b events prepared × MayInsert events n id

pub refused : (s t : Kept) (c : Calls) (n : ℕ) → IsInLine s c → t ≡ with_lost s n → IsInLine t c
refused s t c n line is = subst (λ (k : Kept). IsInLine k c) (sym is) (line.0, line.1, still_stands s n line.0 line.1 c.prepared line.2, line.3)

module _ (s : Kept) (c : Calls) (line : IsInLine s c) where
  may_delete : MayDelete line.1 c.next
  may_delete = next_is_new line.1 c.next line.3.earlier

  pub deletes : Deletes s c.next
  deletes = (line.0, line.1, c.prepared, line.2, may_delete)

  pub deleted : (t : Kept) (d : Calls) (at : ℕ) → d ≡ with_event c
      → ((b : ℕ) (events : List (Applied ℕ)) (prepared : List ℕ) → StandsFor s b events prepared → MayDelete events c.next → StandsFor t b (events ++ next_of c.next (DeleteAt at) prepared ∷ []) (c.next ∷ prepared)) → IsInLine t d
  deleted t d at is after =
      let called = after_apply line.1 c line.3 line.2.part (DeleteAt at) c.ids (λ x free. (free, refl)) in
      subst (λ (k : Calls). IsInLine t k) (sym is) (line.0, line.1 ++ next_of c.next (DeleteAt at) c.prepared ∷ [], after line.0 line.1 c.prepared line.2 may_delete, called)

  -- an id that was taken into use
  module _ (u : Calls) (id : Id) (uses : UsesId c u id) where
    same : record { next = c.next; ids = u.ids; prepared = c.prepared; out = c.out } ≡ u
    same = λ i. record { next = sym uses.next i; ids = u.ids; prepared = sym uses.prepared i; out = sym uses.out i }

    used : AreCalled line.1 (record { next = c.next; ids = u.ids; prepared = c.prepared; out = c.out })
    used = record {
      earlier = line.3.earlier;
      over = line.3.over;
      ids = λ x free. line.3.ids x (used_by c u id 0 0 uses x free).0;
      prepared = line.3.prepared;
      out = line.3.out;
    }

    pub in_use : IsInLine s u
    in_use = subst (λ (k : Calls). IsInLine s k) same (line.0, line.1, line.2, used)

    may : MayInsert line.1 c.next id
    may = may_insert line.1 c id line.3 uses.was

    pub inserts : Inserts s u.next id
    inserts = (line.0, line.1, c.prepared, line.2, subst (λ (n : ℕ). MayInsert line.1 n id) (sym uses.next) may)

    pub inserted : (t : Kept) (d : Calls) (at ch : ℕ) → d ≡ with_event u
        → ((b : ℕ) (events : List (Applied ℕ)) (prepared : List ℕ) → StandsFor s b events prepared → MayInsert events u.next id → StandsFor t b (events ++ next_of u.next (InsertAs id at ch) prepared ∷ []) (u.next ∷ prepared))
        → IsInLine t d
    inserted t d at ch is after = subst (λ (k : Calls). IsInLine t k) (sym is) (subst (λ (k : Calls). IsInLine t (with_event k)) same (line.0, later, stands, called))
      where
        later : List (Applied ℕ)
        later = line.1 ++ next_of c.next (InsertAs id at ch) c.prepared ∷ []

        called : AreCalled later (with_event (record { next = c.next; ids = u.ids; prepared = c.prepared; out = c.out }))
        called = after_apply line.1 c line.3 line.2.part (InsertAs id at ch) u.ids (used_by c u id at ch uses)

        stands : StandsFor t line.0 later (c.next ∷ c.prepared)
        stands =
            subst (λ (n : ℕ). MayInsert line.1 n id → StandsFor t line.0 (line.1 ++ next_of n (InsertAs id at ch) c.prepared ∷ []) (n ∷ c.prepared)) uses.next (after line.0 line.1 c.prepared line.2) may
