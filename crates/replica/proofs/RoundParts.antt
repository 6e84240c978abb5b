-- The parts of a round, known by other names.
use Rattle.std.proofs.Common.{◌≡◌, ℕ, Bool, false, List, take, length, Option, Some, None, Result, Ok, Err, OnErr, OnOk, IfSome, is_some, refl, sym, ap, ◌∙◌, subst}
use Rattle.std.proofs.Math.Seq.{take-append_seam}
use Rattle.std.proofs.lemmas.Bool.{false≢true}
use Rattle.ew_model.specs.declared.event.Event.{Event}
use Rattle.ew_model.specs.Arrival.{Desk}
use Rattle.ew_model.specs.Limits.{LimitNumbers}
use Rattle.event_graph.specs.Tails.{Standing, hold_of}
use Rattle.waiting_pool.specs.Waiting.{Waiting, events_of}
use Rattle.replica.specs.Counting.{Counted}
use Rattle.replica.specs.Desks.{LeadsTo, desk_at}
use Rattle.replica.specs.Fronts.{IsFront}

-- where a tail is dropped, the graph is what it was
pub came_back : (tail : Standing) (old new graph : List Event) → tail ≡ hold_of old → IsFront old new → graph ≡ take tail.count new → graph ≡ old
came_back tail old new graph marked front dropped =
    dropped ∙ ap (λ (t : Standing). take t.count new) marked ∙ ap (take (length old)) front.1 ∙ take-append_seam old front.0

-- where the parts are the same, judgements lead there from the desk known before
pub begun_at : (limits : LimitNumbers) (out : Option (ℕ × ℕ)) (held graph events : List Event) (pool w : Waiting) (c k : Counted) (to : Desk) (after : Counted) (b : Bool) → graph ≡ held → w ≡ pool → k ≡ c
    → LeadsTo limits out (desk_at graph (events_of w) events k) to k after b → LeadsTo limits out (desk_at held (events_of pool) events c) to c after b
begun_at limits out held graph events pool w c k to after b g p h l =
    subst (λ (x : Counted). LeadsTo limits out (desk_at held (events_of pool) events x) to x after b) h
    (subst (λ (x : Waiting). LeadsTo limits out (desk_at held (events_of x) events k) to k after b) p
    (subst (λ (x : List Event). LeadsTo limits out (desk_at x (events_of w) events k) to k after b) g l))

-- what holds anyway holds of a result that is Ok
pub on_ok : {T E P : Type 0} (r : Result T E) → P → OnOk r P
on_ok (Ok x) p = p
on_ok (Err e) p = tt

-- and of one that is an error
pub on_err : {T E P : Type 0} (r : Result T E) → P → OnErr r P
on_err (Ok x) p = tt
on_err (Err e) p = p

-- what follows from two conditions on what is there
pub if_both : {A : Type 0} (o : Option A) (P Q R : A → Type 0) → ((x : A) → P x → Q x → R x) → IfSome o P → IfSome o Q → IfSome o R
if_both None P Q R both p q = tt
if_both (Some x) P Q R both p q = both x p q

-- an option that isn't Some is None
pub none_by : (o : Option (ℕ × ℕ)) → is_some o ≡ false → o ≡ None
none_by None h = refl
none_by (Some x) h = absurd (false≢true (sym h))
