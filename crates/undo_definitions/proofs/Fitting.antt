-- The operations of an undo are in range, each in the text that those before it leave.
use Rattle.std.proofs.Common.{◌≡◌, ℕ, suc, Bool, true, false, not, cond, List, [], ◌∷◌, ◌++◌, map, filter, length, refl, sym, subst, append_assoc, length-append, arith}
use Rattle.std.specs.List.{cons_option}
use Rattle.ew_model.specs.declared.event.Event.{Event}
use Rattle.ew_model.specs.declared.id.Id.{Id}
use Rattle.ew_model.specs.Entries.{Inserted}
use Rattle.ew_model.specs.TextLaws.{own_change, AllFit}
use Rattle.ew_model.specs.Texts.{text_of}
use Rattle.ew_model.specs.Verdicts.{IsGood}
use Rattle.undo_definitions.specs.Wanted.{chars_in_order, is_gone, is_wanted}
use Rattle.undo_definitions.specs.Undoing.{change_of, ops_of_undo}
use Rattle.undo_definitions.proofs.Scripts.{script}
use Rattle.undo_definitions.proofs.Making.{push_here, insert_here, remove_here}
use Rattle.undo_definitions.proofs.Wants.{shown_in_order, script_of}

module _ (gone want : Inserted → Bool) where
  -- the letters that are shown
  abbrev letters : List Inserted → List ℕ
  letters zs = map (λ z. z.ch) (filter (λ z. not (gone z)) zs)

  -- behind a front that is as long as the index, where it is done
  abbrev Fit : List Inserted → Type 0
  Fit zs = (n : ℕ) (front : List ℕ) → length front ≡ n → AllFit (front ++ letters zs) (map own_change (script gone want n zs))

  -- one character, with what is done about it, and those behind it
  along : (z : Inserted) (zs : List Inserted) → Fit zs → (g w : Bool) (n : ℕ) (front : List ℕ) → length front ≡ n
      → AllFit (front ++ map (λ y. y.ch) (cond (not g) (z ∷ filter (λ y. not (gone y)) zs) (filter (λ y. not (gone y)) zs))) (map own_change (cons_option (change_of n z.ch g w) (script gone want (cond w (suc n) n) zs)))
  along z zs fit false true n front long =
      subst (λ t. AllFit t (map own_change (script gone want (suc n) zs))) (append_assoc front (z.ch ∷ []) (letters zs)) (fit (suc n) (front ++ z.ch ∷ []) (push_here front z.ch n long))
  along z zs fit true false n front long = fit n front long
  along z zs fit false false n front long = (
    omega (arith, length-append front (z.ch ∷ letters zs), long),
    subst (λ t. AllFit t (map own_change (script gone want n zs))) (sym (remove_here front (letters zs) z.ch n long)) (fit n front long),
  )
  along z zs fit true true n front long = (
    omega (arith, length-append front (letters zs), long),
    subst (λ t. AllFit t (map own_change (script gone want (suc n) zs))) (sym (insert_here front (letters zs) z.ch n long)) (fit (suc n) (front ++ z.ch ∷ []) (push_here front z.ch n long)),
  )

  script_fits : (zs : List Inserted) → Fit zs
  script_fits [] n front long = tt
  script_fits (z ∷ zs) n front long = along z zs (script_fits zs) (gone z) (want z) n front long

-- The operations of an undo fit the text of the history.
pub undo_fits : (history : List Event) (undone : List Id) → IsGood history → AllFit (text_of history) (map own_change (ops_of_undo history undone))
unfolding text_of
undo_fits history undone good =
    subst (λ ops. AllFit (text_of history) (map own_change ops)) (sym (script_of history undone good))
    (subst (λ zs. AllFit (map (λ z. z.ch) zs) (map own_change (script (is_gone history) (is_wanted history undone) 0 (chars_in_order history)))) (sym (shown_in_order history))
    (script_fits (is_gone history) (is_wanted history undone) (chars_in_order history) 0 [] refl))
