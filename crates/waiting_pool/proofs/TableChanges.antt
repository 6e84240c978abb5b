-- What the tables of a pool tell after a change.
use Rattle.std.proofs.Common.{◌≡◌, ℕ, Bool, true, false, cond, Option, Some, None, Result, Ok, Err, refl, sym, ap, ◌∙◌}
use Rattle.std.specs.Option.{IsSomeAnd}
use Rattle.std.specs.Result.{OnOk, is_err}
use Rattle.std.specs.BTreeMap.{is_at}
use Rattle.std.proofs.lemmas.Bool.{false≢true}
use Rattle.ew_model.specs.declared.id.Id.{Id}
use Rattle.ew_model.specs.Ids.{id_eq}
use Rattle.ew_model.proofs.IdLaws.{is_same_id}
use Rattle.waiting_pool.specs.declared.waiter.Place.{Place}
use Rattle.waiting_pool.specs.Places.{place_cmp}
use Rattle.waiting_pool.proofs.Order.{place_same}

-- an id that is put in and taken away again
pub put_back : (id x : Id) (n : ℕ) (before : Id → Option ℕ) (mid after : Option ℕ) → before id ≡ None → mid ≡ cond (id_eq id x) (Some n) (before x) → after ≡ cond (id_eq id x) None mid → after ≡ before x
put_back id x n before mid after none put away = at (id_eq id x) refl put away
  where
    at : (b : Bool) → id_eq id x ≡ b → mid ≡ cond b (Some n) (before x) → after ≡ cond b None mid → after ≡ before x
    at true h p a = a ∙ sym none ∙ ap before ((is_same_id id x).0 h)
    at false h p a = a ∙ p

-- a place that is put in and taken away again
pub place_put_back : (p q : Place) (before : Place → Bool) (mid after : Bool) → before p ≡ false → mid ≡ cond (is_at (place_cmp p) q) true (before q) → after ≡ cond (is_at (place_cmp p) q) false mid → after ≡ before q
place_put_back p q before mid after none put away = at (is_at (place_cmp p) q) refl put away
  where
    at : (b : Bool) → is_at (place_cmp p) q ≡ b → mid ≡ cond b true (before q) → after ≡ cond b false mid → after ≡ before q
    at true h f a = a ∙ sym none ∙ ap before (place_same p q h)
    at false h f a = a ∙ f

-- what holds where a call succeeds
pub on_ok : {T E : Type 0} (r : Result T E) (P : Type 0) → OnOk r P → is_err r ≡ false → P
on_ok (Ok x) P h e = h
on_ok (Err x) P h e = absurd (false≢true (sym e))

-- the value that is there, with what is known of it
pub some_and : {X : Type 0} (o : Option X) (P : X → Type 0) → IsSomeAnd o P → (x : X) × (o ≡ Some x) × P x
some_and None P h = absurd h
some_and (Some x) P h = (x, refl, h)
