-- What a state keeps where no event is prepared.
use Rattle.std.proofs.Common.{◌≡◌, ℕ, zero, suc, ◌+◌, ◌-◌, ◌<◌, ◌≤◌, Bool, true, false, ◌||◌, not, ⊎_elim, List, [], ◌∷◌, map, filter, reverse, nat_eq, refl, sym, ap, ◌∙◌, append-nil, arith}
use Rattle.std.specs.List.{list_any, range_with_len}
use Rattle.std.proofs.lemmas.Bool.{false≢true, or_cases, and_parts, eq-eqb, ltb-false}
use Rattle.ew_model.specs.Sets.{Among}
use Rattle.ew_model.specs.Entries.{Inserted, order, is_deleted}
use Rattle.ew_model.specs.Tree.{based, base_id, Applied, Noted, all_entries}
use Rattle.ew_model.specs.Records.{holds, without, record_in, walker_records, prepared_entries, prepared_in}
use Rattle.ew_model.specs.Moves.{after_retreats}
use Rattle.ew_model.proofs.PrefixLaws.{ordered_among}
use Rattle.ew_model.proofs.ReadLaws.{names_prepare}
use Rattle.ew_model.proofs.RecordLaws.{map_map}
use Rattle.ew_model.proofs.StateLaws.{holds_without}
use Rattle.character_runs.specs.declared.change.Positions.{Positions}
use Rattle.advance_retreat.specs.Kept.{Kept, target_at, AreWithin}
use Rattle.character_runs.specs.States.{single}
use Rattle.character_runs.specs.Resting.{at_rest, rested}
use Rattle.right_children.specs.Rights.{HangWithin}
use Rattle.advance_retreat.specs.Standing.{node_of, kept_record, about, StandsFor}
use Rattle.advance_retreat.proofs.BaseStates.{base_number}
use Rattle.advance_retreat.proofs.CharLaws.{IsOwn, own_event}
use Rattle.character_runs.proofs.Cuts.{mapped_alike}
use Rattle.advance_retreat.proofs.Keeping.{notes, all, part, grown, target_told, note_named}
use Rattle.advance_retreat.proofs.Moving.{with_records, found_node}
use Rattle.advance_retreat.proofs.Nodes.{char_cases}
use Rattle.advance_retreat.proofs.SpanMoves.{falling_more}

-- THE RECORDS
none_named : (ns : List (Noted ℕ)) → filter (λ (n : Noted ℕ). list_any (nat_eq n.name) []) ns ≡ []
none_named [] = refl
none_named (n ∷ ns) = none_named ns

module _ (s : Kept) (b : ℕ) (events : List (Applied ℕ)) (prepared : List ℕ) (st : StandsFor s b events prepared) where
  abbrev ns : List (Noted ℕ)
  ns = notes s b events prepared st

  base_alone : prepared_entries b events [] ≡ based b
  base_alone = ap (λ ms. all_entries b ms) (none_named ns) ∙ append-nil (based b)

  number : (z : Inserted) → IsOwn s b events prepared st z → prepared_in (prepared_entries b events []) z.id ≡ at_rest (node_of ns z.id)
  number z own =
      ⊎_elim
      (λ i.
      ap (λ (w : Inserted). prepared_in (prepared_entries b events []) w.id) i.2
      ∙ ap (λ es. prepared_in es (base_id i.0)) base_alone ∙ base_number b i.0 i.1
      ∙ sym (ap (λ (w : Inserted). at_rest (node_of ns w.id)) i.2))
      (λ n.
      let none = ltb-false 0 (prepared_in (prepared_entries b events []) z.id) ((names_prepare b events [] st.run).event n.0 z n.1 n.2) in
      let zero : prepared_in (prepared_entries b events []) z.id ≡ 0 = omega (arith, none) in
      zero ∙ sym (ap at_rest (own_event s b events prepared st n.0 z n.1 n.2)))
      own

  rested_one : (z : Inserted) → Among z (order (all s b events prepared st))
      → rested (kept_record ns (record_in (all s b events prepared st) (part s b events prepared st) z)) ≡ kept_record ns (record_in (all s b events prepared st) (prepared_entries b events []) z)
  rested_one z m =
      let own = char_cases b events ns (grown s b events prepared st) z (ordered_among (all s b events prepared st) z m) in
      ap (λ (n : ℕ). single (node_of ns z.id) n (not (is_deleted (all s b events prepared st) z.id))) (sym (number z own))

  pub rested_records : map rested s.records ≡ map (kept_record ns) (walker_records b events [])
  rested_records =
      let k = kept_record ns in
      let whole = all s b events prepared st in
      ap (map rested) (st.records ∙ map_map (record_in whole (part s b events prepared st)) k (order whole))
      ∙ mapped_alike (λ (z : Inserted). k (record_in whole (part s b events prepared st) z)) rested (record_in whole (prepared_entries b events [])) k (order whole) rested_one

  pub rested_stands : StandsFor (with_records s (map rested s.records)) b events []
  rested_stands = record {
    run = st.run;
    closed = λ c m h. absurd (false≢true h);
    part = λ n h. absurd (false≢true h);
    placed = st.placed;
    base = st.base;
    records = rested_records;
    children = st.children;
    targets = st.targets;
    short_base = st.short_base;
    short_history = st.short_history;
    short_text = st.short_text;
  }

  -- THE POSITIONS
  module _ (at : Positions) (within : AreWithin at (target_at s.targets)) where
    pub hang_within : HangWithin at.from at.to s.attached
    hang_within a m =
        let o = st.children.only a m in
        let place = within o.0.name (about ns o.0.entry) (target_told s b events prepared st o.0 o.1) in
        (o.0.name, place.0, place.1, o.2)

    prepared_within : (n : ℕ) → holds prepared n ≡ true → (at.from ≤ n) × (n < at.to)
    prepared_within n h =
        let applied = st.part n h in
        let named = note_named s b events prepared st n applied in
        within n (about ns named.0.entry) (found_node s b events prepared st n applied)

-- WHAT IS PREPARED
held_after : (xs prepared : List ℕ) (n : ℕ) → holds (after_retreats prepared xs) n ≡ true → (holds prepared n ≡ true) × (holds xs n ≡ true → ⊥)
held_after [] prepared n h = (h, λ e. false≢true e)
held_after (x ∷ xs) prepared n h =
    let later = held_after xs (without x prepared) n h in
    let parts = and_parts (holds prepared n) (not (nat_eq n x)) (sym (holds_without x n prepared) ∙ later.0) in
    (parts.0, λ e. ⊎_elim (λ own. false≢true (sym (ap not own) ∙ parts.1)) later.1 (or_cases (nat_eq n x) (holds xs n) e))

held_falling : (from count n : ℕ) → from ≤ n → n < from + count → holds (reverse (range_with_len from count)) n ≡ true
held_falling from zero n le lt = absurd (omega (arith, le, lt))
held_falling from (suc count) n le lt =
    ap (λ (xs : List ℕ). holds xs n) (falling_more from count) ∙ at (λ h. held_falling from count n le h) (nat_eq n (from + count)) refl
  where
    at : (n < from + count → holds (reverse (range_with_len from count)) n ≡ true) → (b : Bool) → nat_eq n (from + count) ≡ b → (b || holds (reverse (range_with_len from count)) n) ≡ true
    at before true e = refl
    at before false e = by (λ is. false≢true (sym e ∙ eq-eqb n (from + count) is))
      where
        by : (n ≡ from + count → ⊥) → holds (reverse (range_with_len from count)) n ≡ true
        by other = before (omega (arith, other, lt))

none_held : (xs : List ℕ) → ((n : ℕ) → holds xs n ≡ true → ⊥) → xs ≡ []
none_held [] none = refl
none_held (x ∷ xs) none = absurd (none x (ap (λ (b : Bool). b || holds xs x) (eq-eqb x x refl)))

pub none_prepared : (s : Kept) (b : ℕ) (events : List (Applied ℕ)) (prepared : List ℕ) → StandsFor s b events prepared → (at : Positions) → AreWithin at (target_at s.targets)
    → after_retreats prepared (reverse (range_with_len at.from (at.to - at.from))) ≡ []
none_prepared s b events prepared st at within =
    let span = reverse (range_with_len at.from (at.to - at.from)) in
    none_held (after_retreats prepared span) (λ n h.
    let left = held_after span prepared n h in
    let place = prepared_within s b events prepared st at within n left.0 in
    let low = place.0 in
    let high = place.1 in
    left.1 (held_falling at.from (at.to - at.from) n low (omega (arith, low, high))))
