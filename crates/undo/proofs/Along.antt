-- The operations of an undo along the characters, by their fates.
use Rattle.std.proofs.Common.{◌≡◌, ℕ, zero, suc, ◌+◌, ◌≤◌, Bool, true, false, not, cond, ◌&&◌, List, [], ◌∷◌, ◌++◌, length, drop, Option, Some, None, slice_get, refl, sym, ap, ◌∙◌, subst, append_assoc, append-nil, drop_of_length-le, arith}
use Rattle.std.specs.List.{cons_option}
use Rattle.std.proofs.lemmas.Bool.{false≢true}
use Rattle.ew_model.specs.declared.id.Id.{Id}
use Rattle.ew_model.specs.declared.event.Op.{Op}
use Rattle.ew_model.specs.declared.event.Event.{Event}
use Rattle.ew_model.specs.Ids.{is_among}
use Rattle.ew_model.specs.Entries.{Inserted, is_deleted}
use Rattle.ew_model.specs.Tree.{tree}
use Rattle.ew_model.specs.Verdicts.{IsGood}
use Rattle.undo_definitions.specs.Wanted.{chars_in_order, is_gone, left_by_others, is_wanted}
use Rattle.undo_definitions.specs.Undoing.{change_of, ops_of_undo}
use Rattle.undo_definitions.proofs.Scripts.{script}
use Rattle.undo_definitions.proofs.Wants.{not_deleted_by_others, script_of}
use Rattle.undo.specs.declared.fate.Fate.{Fate}
use Rattle.undo.specs.Fates.{fate_by, fate_of, is_deleted_by, stays_deleted}

-- WHAT A FATE SAYS
deleted_told : (g o : Bool) → (g ≡ false → o ≡ false) → is_deleted_by (fate_by g o) ≡ g
deleted_told true true h = refl
deleted_told true false h = refl
deleted_told false true h = absurd (false≢true (sym (h refl)))
deleted_told false false h = refl

pub stays_told : (g o : Bool) → stays_deleted (fate_by g o) ≡ o
stays_told true true = refl
stays_told true false = refl
stays_told false true = refl
stays_told false false = refl

pub fate_deleted : (history : List Event) (undone : List Id) (z : Inserted) → is_deleted_by (fate_of history undone z.id) ≡ is_gone history z
fate_deleted history undone z = deleted_told (is_gone history z) (is_deleted (left_by_others undone (tree history)) z.id) (not_deleted_by_others history undone z)

pub fate_wanted : (history : List Event) (undone : List Id) (z : Inserted) → (not (is_among undone z.id) && not (stays_deleted (fate_of history undone z.id))) ≡ is_wanted history undone z
fate_wanted history undone z = ap (λ b. not (is_among undone z.id) && not b) (stays_told (is_gone history z) (is_deleted (left_by_others undone (tree history)) z.id))

-- ONE CHARACTER MORE
-- with the operations so far, and those of the rest, all are there
pub record IsAlong (history : List Event) (undone : List Id) (n : ℕ) (ops : List Op) (at : ℕ) : Type 0 where
  pub low : at ≤ n
  pub all : ops ++ script (is_gone history) (is_wanted history undone) at (drop n (chars_in_order history)) ≡ script (is_gone history) (is_wanted history undone) 0 (chars_in_order history)

drop_there : {X : Type 0} (xs : List X) (n : ℕ) (x : X) → slice_get xs n ≡ Some x → drop n xs ≡ x ∷ drop (suc n) xs
drop_there [] n x at = let no : ⊥ = cc in absurd no
drop_there (y ∷ xs) zero x at = let same : y ≡ x = cc in ap (λ z. z ∷ xs) same
drop_there (y ∷ xs) (suc n) x at = drop_there xs n x at

join_option : {X : Type 0} (o : Option X) (xs ys : List X) → (xs ++ cons_option o []) ++ ys ≡ xs ++ cons_option o ys
join_option None xs ys = ap (λ zs. zs ++ ys) (append-nil xs)
join_option (Some x) xs ys = append_assoc xs (x ∷ []) ys

not_behind : (w : Bool) (n at : ℕ) → at ≤ n → cond w (suc at) at ≤ suc n
not_behind true n at h = omega (arith, h)
not_behind false n at h = omega (arith, h)

pub along_next : (history : List Event) (undone : List Id) (n : ℕ) (ops : List Op) (at : ℕ) (z : Inserted) → slice_get (chars_in_order history) n ≡ Some z → IsAlong history undone n ops at
    → IsAlong history undone (suc n) (ops ++ cons_option (change_of at z.ch (is_gone history z) (is_wanted history undone z)) []) (cond (is_wanted history undone z) (suc at) at)
along_next history undone n ops at z char h =
    let gone = is_gone history in
    let want = is_wanted history undone in
    let rest = drop (suc n) (chars_in_order history) in
    record {
      low = not_behind (want z) n at h.low;
      all = join_option (change_of at z.ch (gone z) (want z)) ops (script gone want (cond (want z) (suc at) at) rest)
          ∙ ap (λ zs. ops ++ script gone want at zs) (sym (drop_there (chars_in_order history) n z char))
          ∙ h.all;
    }

pub along_begins : (history : List Event) (undone : List Id) (ops : List Op) (at : ℕ) → ops ≡ [] → at ≡ 0 → IsAlong history undone 0 ops at
along_begins history undone ops at none start = record {
  low = omega (arith, start);
  all = λ i. none i ++ script (is_gone history) (is_wanted history undone) (start i) (chars_in_order history);
}

pub along_ends : (history : List Event) (undone : List Id) (n : ℕ) (ops : List Op) (at : ℕ) → IsGood history → length (chars_in_order history) ≤ n → IsAlong history undone n ops at → ops ≡ ops_of_undo history undone
along_ends history undone n ops at good long h =
    let nothing : drop n (chars_in_order history) ≡ [] = drop_of_length-le (chars_in_order history) long in
    sym (append-nil ops)
    ∙ ap (λ zs. ops ++ script (is_gone history) (is_wanted history undone) at zs) (sym nothing)
    ∙ h.all
    ∙ sym (script_of history undone good)

one_further : (w : Bool) (at : ℕ) → cond w (at + 1) at ≡ cond w (suc at) at
one_further true at = omega arith
one_further false at = refl

-- what was done about the next character
pub along_moves : (history : List Event) (undone : List Id) (n : ℕ) (ops more : List Op) (at then_at : ℕ) (z : Inserted) (ch : ℕ) (deleted wants : Bool) → slice_get (chars_in_order history) n ≡ Some z → IsAlong history undone n ops at
    → ch ≡ z.ch → deleted ≡ is_gone history z → wants ≡ is_wanted history undone z
    → more ≡ ops ++ cons_option (change_of at ch deleted wants) [] → then_at ≡ cond wants (at + 1) at
    → IsAlong history undone (n + 1) more then_at
along_moves history undone n ops more at then_at z ch deleted wants char h letter gone wanted made moved =
    let next : suc n ≡ n + 1 = omega arith in
    let new_ops : ops ++ cons_option (change_of at z.ch (is_gone history z) (is_wanted history undone z)) [] ≡ more =
    sym (made ∙ (λ i. ops ++ cons_option (change_of at (letter i) (gone i) (wanted i)) [])) in
    let new_at : cond (is_wanted history undone z) (suc at) at ≡ then_at =
    sym (moved ∙ ap (λ b. cond b (at + 1) at) wanted ∙ one_further (is_wanted history undone z) at) in
    subst (λ k. IsAlong history undone k more then_at) next
    (subst (IsAlong history undone (suc n) more) new_at
    (subst (λ (os : List Op). IsAlong history undone (suc n) os (cond (is_wanted history undone z) (suc at) at)) new_ops (along_next history undone n ops at z char h)))
