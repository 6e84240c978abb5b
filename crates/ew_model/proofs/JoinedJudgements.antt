-- Judgements one behind the other.
use Rattle.std.proofs.Common.{◌≡◌, ℕ, zero, suc, ◌≤◌, Bool, List, [], ◌++◌, Option, Some, None, refl, sym, ap, ◌∙◌, arith}
use Rattle.ew_model.specs.Arrival.{Desk, Answer, Judgement, Outcome, next_judgement, judgements, judged, most_judgements, with_answer}
use Rattle.ew_model.specs.Limits.{LimitNumbers}
use Rattle.ew_model.proofs.RoundLaws.{then}
use Rattle.ew_model.proofs.RoundSteps.{enough}

-- a sum that computes by its first number
abbrev pub plus : ℕ → ℕ → ℕ
plus zero m = m
plus (suc n) m = suc (plus n m)

pub plus_above : (n m : ℕ) → m ≤ plus n m
plus_above zero m = omega arith
plus_above (suc n) m = let above = plus_above n m in omega (arith, above)

-- an outcome behind other answers
abbrev pub behind : List Answer → Outcome → Outcome
behind answers o = record { desk = o.desk; answers = answers ++ o.answers }

-- where none is left to make, any number makes none
pub none_made : (limits : LimitNumbers) (b : Bool) (n : ℕ) (d : Desk) → next_judgement limits b d ≡ None → judgements limits b n d ≡ record { desk = d; answers = [] }
none_made limits b zero d e = refl
none_made limits b (suc n) d e = ap (then limits b n d) e

joined_by : (limits : LimitNumbers) (b : Bool) (n m : ℕ) (d : Desk) (o : Option Judgement) → next_judgement limits b d ≡ o
    → ((j : Judgement) → o ≡ Some j → judgements limits b (plus n m) j.desk ≡ behind (judgements limits b n j.desk).answers (judgements limits b m (judgements limits b n j.desk).desk))
    → then limits b (plus n m) d o ≡ behind (then limits b n d o).answers (judgements limits b m (then limits b n d o).desk)
joined_by limits b n m d None e f = sym (none_made limits b m d e)
joined_by limits b n m d (Some j) e f = ap (with_answer j.answer) (f j refl)

pub judgements_joined : (limits : LimitNumbers) (b : Bool) (n m : ℕ) (d : Desk) → judgements limits b (plus n m) d ≡ behind (judgements limits b n d).answers (judgements limits b m (judgements limits b n d).desk)
judgements_joined limits b zero m d = refl
judgements_joined limits b (suc n) m d = joined_by limits b n m d (next_judgement limits b d) refl (λ j e. judgements_joined limits b n m j.desk)

-- all judgements are the first of them and those behind
pub judged_behind : (limits : LimitNumbers) (b : Bool) (n : ℕ) (d : Desk)
    → judged limits b d ≡ behind (judgements limits b n d).answers (judgements limits b (most_judgements d) (judgements limits b n d).desk)
judged_behind limits b n d =
    enough limits b (most_judgements d) (plus n (most_judgements d)) d (omega arith) (plus_above n (most_judgements d)) ∙ judgements_joined limits b n (most_judgements d) d
