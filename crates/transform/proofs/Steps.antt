-- From one event of a walk to the next.
use Rattle.std.proofs.Common.{◌≡◌, ℕ, ◌≤◌, ◌||◌, nat_eq, Bool, true, false, List, [], ◌∷◌, ◌++◌, fold, length, take, drop, refl, sym, ap, ◌∙◌, subst, arith}
use Rattle.std.proofs.lemmas.List.{append_cancel_left, drop-append-le, take-append-le}
use Rattle.ew_model.specs.declared.event.Event.{Event}
use Rattle.ew_model.specs.declared.text_op.TextOp.{TextOp}
use Rattle.ew_model.specs.Ids.{id_eq}
use Rattle.ew_model.specs.Sound.{AreSound}
use Rattle.ew_model.specs.Ancestors.{is_held, ids_of, ancestors}
use Rattle.ew_model.specs.Cuts.{are_among, is_critical}
use Rattle.ew_model.specs.Texts.{text_of, text_at}
use Rattle.ew_model.specs.Entries.{visible}
use Rattle.ew_model.specs.Tree.{Applied, Noted, grow, tree_of, tree_on, applied, applied_after}
use Rattle.ew_model.specs.Walks.{base_at, walked_from}
use Rattle.ew_model.specs.Operations.{next_operation, operations_after, operations_of, operations}
use Rattle.ew_model.specs.Records.{holds, prepared_entries}
use Rattle.ew_model.specs.Verdicts.{IsGood}
use Rattle.ew_model.proofs.GoodLaws.{operations_make_text}
use Rattle.ew_model.proofs.TextLengths.{length_operations}
use Rattle.ew_model.proofs.TreeLaws.{applied_after-append}
use Rattle.ew_model.proofs.WalkLaws.{walks_answer, walks_know_lengths}
use Rattle.advance_retreat.specs.Kept.{Kept}
use Rattle.advance_retreat.specs.Standing.{StandsFor}
use Rattle.transform.specs.Reaching.{prepared_since, over_since}
use Rattle.transform.proofs.Fronts.{prepared_more}
use Rattle.transform.proofs.Standings.{stands_alike}
use Rattle.transform.proofs.WalkedEvents.{walked, walked_more}

pub no_event_is_good : IsGood []
unfolding IsGood
no_event_is_good = tt

no_text : text_of [] ≡ []
unfolding operations operations_of
no_text = operations_make_text [] no_event_is_good

pub base_is_none : (history : List Event) → base_at history 0 ≡ 0
base_is_none history = ap length no_text

-- OPERATIONS
operations-push : {N : Type 0} (same : N → N → Bool) (b : ℕ) (notes : List (Noted N)) (events : List (Applied N)) (a : Applied N)
    → operations_after same b notes (events ++ a ∷ []) ≡ operations_after same b notes events ++ next_operation same b (fold (grow same b) notes events) a ∷ []
operations-push same b notes [] a = refl
operations-push same b notes (c ∷ events) a = ap (λ ops. next_operation same b notes c ∷ ops) (operations-push same b (grow same b notes c) events a)

operations_of-push : {N : Type 0} (same : N → N → Bool) (b : ℕ) (events : List (Applied N)) (a : Applied N) → operations_of same b (events ++ a ∷ []) ≡ operations_of same b events ++ next_operation same b (tree_of same b events) a ∷ []
unfolding operations_of tree_of
operations_of-push same b events a = operations-push same b [] events a

-- one more event adds its own operation
pub operations_next : (front : List Event) (e : Event) → operations (front ++ e ∷ []) ≡ operations front ++ next_operation id_eq 0 (tree_on 0 front) (applied front e) ∷ []
unfolding operations tree_on
operations_next front e = ap (operations_of id_eq 0) (applied_after-append [] front (e ∷ [])) ∙ operations_of-push id_eq 0 (applied_after [] front) (applied front e)

module _ (front : List Event) (cut : ℕ) (e : Event) (low : cut ≤ length front) where
  abbrev pub b : ℕ
  b = base_at front cut

  base_stays : base_at (front ++ e ∷ []) cut ≡ b
  base_stays = ap (λ (es : List Event). length (text_of es)) (take-append-le cut front (e ∷ []) low)

  -- which is that of a walk from a critical cut
  pub operations_more : IsGood front → AreSound front → is_critical front cut ≡ true → IsGood (front ++ e ∷ []) → AreSound (front ++ e ∷ []) → is_critical (front ++ e ∷ []) cut ≡ true
      → operations (front ++ e ∷ []) ≡ operations front ++ next_operation nat_eq b (tree_of nat_eq b (walked_from front cut)) (walked front cut e) ∷ []
  operations_more good sound critical good_more sound_more critical_more =
      let next = next_operation nat_eq b (tree_of nat_eq b (walked_from front cut)) (walked front cut e) in
      let own = next_operation id_eq 0 (tree_on 0 front) (applied front e) in
      let walk : drop cut (operations (front ++ e ∷ [])) ≡ drop cut (operations front) ++ next ∷ [] =
      sym (walks_answer (front ++ e ∷ []) cut good_more sound_more critical_more)
      ∙ (λ i. operations_of nat_eq (base_stays i) (walked_more front cut e low i))
      ∙ operations_of-push nat_eq b (walked_from front cut) (walked front cut e)
      ∙ ap (λ ops. ops ++ next ∷ []) (walks_answer front cut good sound critical) in
      let there : drop cut (operations (front ++ e ∷ [])) ≡ drop cut (operations front) ++ own ∷ [] =
      ap (drop cut) (operations_next front e) ∙ drop-append-le cut (operations front) (own ∷ []) (omega (arith, low, length_operations front)) in
      operations_next front e
      ∙ ap (λ (ops : List TextOp). operations front ++ ops) (append_cancel_left (drop cut (operations front)) (own ∷ []) (next ∷ []) (sym there ∙ walk))

  -- the length of the text at the parents, as the walk knows it
  pub length_over : IsGood front → AreSound front → is_critical front cut ≡ true → are_among (ancestors front e.parents) (ids_of (take cut front)) ≡ true
      → length (visible (prepared_entries b (walked_from front cut) (over_since front cut e))) ≡ length (text_at front e.parents)
  length_over good sound critical knows = walks_know_lengths front cut e.parents good sound critical knows

  swapped : (x y z w : Bool) → (x || z) ≡ w → (x || (y || z)) ≡ (y || w)
  swapped true true z w h = refl
  swapped false true z w h = refl
  swapped true false z w h = h
  swapped false false z w h = h

  -- a number may stand in front or behind
  moved : (n m : ℕ) (ps : List ℕ) → holds (n ∷ ps) m ≡ holds (ps ++ n ∷ []) m
  moved n m [] = refl
  moved n m (p ∷ ps) = swapped (nat_eq m n) (nat_eq m p) (holds ps m) (holds (ps ++ n ∷ []) m) (moved n m ps)

  -- A state that applied one more event stands for it too.
  pub stands_more : (state : Kept) → is_held front e.id ≡ false → StandsFor state b (walked_from front cut ++ walked front cut e ∷ []) (length front ∷ over_since front cut e)
      → StandsFor state b (walked_from (front ++ e ∷ []) cut) (prepared_since (front ++ e ∷ []) cut)
  stands_more state new stands =
      stands_alike state b (walked_from (front ++ e ∷ []) cut) (length front ∷ over_since front cut e) (prepared_since (front ++ e ∷ []) cut)
      (λ m. moved (length front) m (over_since front cut e) ∙ ap (λ ps. holds ps m) (sym (prepared_more front cut e low new)))
      (subst (λ (es : List (Applied ℕ)). StandsFor state b es (length front ∷ over_since front cut e)) (sym (walked_more front cut e low)) stands)
