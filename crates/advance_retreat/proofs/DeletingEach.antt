-- What deletions one after another leave, and do to the text.
use Rattle.std.proofs.Common.{◌≡◌, ℕ, zero, suc, ◌+◌, ◌<◌, ◌≤◌, Bool, true, None, Some, List, [], ◌∷◌, ◌++◌, length, map, if◌then◌else◌, ⊎_elim, refl, sym, ap, ◌∙◌, subst, arith, append_assoc, append-nil}
use Rattle.std.proofs.lemmas.Bool.{ne_eqb, cases_lt}
use Rattle.std.specs.List.{range_with_len}
use Rattle.std.proofs.lemmas.List.{length-append, length-map, map-append}
use Rattle.std.proofs.lemmas.List.FromFn.{length-range_with_len}
use Rattle.ew_model.proofs.Ranges.{range_more}
use Rattle.ew_model.specs.declared.node.Node.{Node}
use Rattle.ew_model.specs.Places.Act.{DeleteAt}
use Rattle.ew_model.specs.Records.{next_of}
use Rattle.ew_model.specs.Tree.{Applied}
use Rattle.walker_record.specs.Stretches.{node_on}
use Rattle.character_runs.specs.declared.characters.Deletions.{Deletions}
use Rattle.character_runs.specs.Deleting.{struck_each, deletion_op, AreDeletions}
use Rattle.character_runs.specs.Spots.{IsDeletion}
use Rattle.advance_retreat.specs.declared.target.Target.{Target}
use Rattle.advance_retreat.specs.Conditions.{MayDelete}
use Rattle.advance_retreat.specs.Deleting.{Deletes, DeletedEach}
use Rattle.advance_retreat.specs.Kept.{Kept, target_at, with_deletion, with_deletions, deletion_target, deletion_targets}
use Rattle.advance_retreat.specs.Refusals.{is_told}
use Rattle.advance_retreat.specs.Standing.{most, StandsFor}
use Rattle.advance_retreat.proofs.Deleting.{deleted, deletion_does, in_range}
use Rattle.advance_retreat.proofs.Found.{added_at}
use Rattle.advance_retreat.proofs.LooseEvents.{last_told, all_told, long_targets}
use Rattle.advance_retreat.proofs.Room.{CanFollow}

-- WHAT THE EVENTS ARE ABOUT
pub long_deletions : (lv : ℕ) (v : Node) (n : ℕ) → length (deletion_targets lv v n) ≡ n
long_deletions lv v n = length-map (range_with_len 0 n) (deletion_target lv v) ∙ length-range_with_len 0 n

more_deletions : (lv : ℕ) (v : Node) (n : ℕ) → deletion_targets lv v (suc n) ≡ deletion_targets lv v n ++ deletion_target lv v n ∷ []
more_deletions lv v n =
    let same : 0 + n ≡ n = omega arith in
    ap (map (deletion_target lv v)) (range_more 0 n) ∙ map-append (deletion_target lv v) (range_with_len 0 n) ((0 + n) ∷ []) ∙ ap (λ (k : ℕ). deletion_targets lv v n ++ deletion_target lv v k ∷ []) same

module _ (ts : List Target) (lv : ℕ) (v : Node) where
  -- one more of them
  pub one_more : (k : ℕ) → ts ++ deletion_targets lv v (suc k) ≡ (ts ++ deletion_targets lv v k) ++ record { lv = lv + k; node = node_on v k } ∷ []
  one_more k = ap (λ (us : List Target). ts ++ us) (more_deletions lv v k) ∙ sym (append_assoc ts (deletion_targets lv v k) (record { lv = lv + k; node = node_on v k } ∷ []))

  -- of a later position they tell nothing
  pub untold_past : (k : ℕ) → ((j : ℕ) → j < k → target_at ts (lv + j) ≡ None) → (n : ℕ) → lv + k ≤ n → target_at ts n ≡ None → target_at (ts ++ deletion_targets lv v k) n ≡ None
  untold_past zero none n past new = ap (λ (us : List Target). target_at us n) (append-nil ts) ∙ new
  untold_past (suc k) none n past new =
      let fewer = λ (j : ℕ) (lt : j < k). none j (omega (arith, lt)) in
      ap (λ (us : List Target). target_at us n) (one_more k)
      ∙ added_at (ts ++ deletion_targets lv v k) (record { lv = lv + k; node = node_on v k }) n (untold_past k fewer (lv + k) (omega arith) (none k (omega arith)))
      ∙ ap (λ (b : Bool). if b then Some (node_on v k) else target_at (ts ++ deletion_targets lv v k) n) (ne_eqb (lv + k) n (λ same. absurd (omega (arith, same, past))))
      ∙ untold_past k fewer n (omega (arith, past)) new

  -- each of their characters is told
  pub deletion_told : (n k : ℕ) → k < n → is_told (ts ++ deletion_targets lv v n) (node_on v k) ≡ true
  deletion_told zero k lt = absurd (omega (arith, lt))
  deletion_told (suc n) k lt =
      ap (λ (us : List Target). is_told us (node_on v k)) (one_more n)
      ∙ ⊎_elim
      (λ (early : k < n). all_told (ts ++ deletion_targets lv v n) (record { lv = lv + n; node = node_on v n } ∷ []) (node_on v k) (deletion_told n k early))
      (λ (late : n ≤ k).
      let is : n ≡ k = omega (arith, lt, late) in
      ap (λ (j : ℕ). is_told ((ts ++ deletion_targets lv v n) ++ record { lv = lv + n; node = node_on v n } ∷ []) (node_on v j)) (sym is) ∙ last_told (ts ++ deletion_targets lv v n) (record { lv = lv + n; node = node_on v n }))
      (cases_lt k n)

-- WHAT IS KEPT
pub with_deletions_is : (s : Kept) (lv : ℕ) (v : Node) (n : ℕ)
    → with_deletions s lv v n ≡ record { base = s.base; records = struck_each s.records v n; attached = s.attached; targets = s.targets ++ deletion_targets lv v n; lost = s.lost }
with_deletions_is s lv v zero = λ i. record { base = s.base; records = s.records; attached = s.attached; targets = sym (append-nil s.targets) i; lost = s.lost }
with_deletions_is s lv v (suc n) =
    ap (λ (k : Kept). with_deletion k (lv + n) (node_on v n)) (with_deletions_is s lv v n)
    ∙ (λ i. record { base = s.base; records = struck_each s.records v (suc n); attached = s.attached; targets = sym (one_more s.targets lv v n) i; lost = s.lost })

-- WHAT THEY DO
module _ (old : Kept) (lv at : ℕ) (ds : Deletions) (are : AreDeletions old.records at ds) (room : length old.targets + ds.count ≤ most) where
  abbrev now : ℕ → Kept
  now k = with_deletions old lv ds.first k

  here : (k : ℕ) → k < ds.count → IsDeletion (now k).records at (record { node = node_on ds.first k; op = deletion_op ds.index })
  here k lt = subst (λ (s : Kept). IsDeletion s.records at (record { node = node_on ds.first k; op = deletion_op ds.index })) (sym (with_deletions_is old lv ds.first k)) (are k lt)

  has_room : (k : ℕ) → k < ds.count → (b : ℕ) (events : List (Applied ℕ)) (prepared : List ℕ) → StandsFor (now k) b events prepared → length events < most
  has_room k lt b events prepared st =
      let many = sym (long_targets (now k) b events prepared st) ∙ ap (λ (s : Kept). length s.targets) (with_deletions_is old lv ds.first k) ∙ length-append old.targets (deletion_targets lv ds.first k) in
      let more = long_deletions lv ds.first k in
      omega (arith, many, more, room, lt)

  deletes : (k : ℕ) → k < ds.count → (b : ℕ) (events : List (Applied ℕ)) (prepared : List ℕ) → StandsFor (now k) b events prepared → MayDelete events (lv + k)
      → Deletes (now (suc k)) (lv + k) at (deletion_op ds.index) b events prepared
  deletes k lt b events prepared st may =
      let d = here k lt in
      let can : CanFollow events (lv + k) = record { position = may; room = has_room k lt b events prepared st } in
      record {
        within = in_range (now k) b events prepared st at d.place d.here;
        does = deletion_does (now k) b events prepared st (lv + k) can at d.place d.here ∙ sym d.does;
        stands = subst (λ (v : Node). StandsFor (with_deletion (now k) (lv + k) v) b (events ++ next_of (lv + k) (DeleteAt at) prepared ∷ []) ((lv + k) ∷ prepared)) (sym d.node)
            (deleted (now k) b events prepared st (lv + k) can at d.place d.here);
      }

  pub deleted_each : (k : ℕ) → k ≤ ds.count → DeletedEach old (now k) lv at (deletion_op ds.index) k
  deleted_each zero le = refl
  deleted_each (suc k) le = (now k, deleted_each k (omega (arith, le)), λ b events prepared st may. deletes k (omega (arith, le)) b events prepared st may)
