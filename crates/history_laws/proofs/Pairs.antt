-- What judging at a desk comes to, and at the desk to which some of the events whose ids are held don't come.
use Rattle.std.proofs.Common.{◌≡◌, ℕ, zero, suc, ◌≤◌, inl, inr, Bool, List, [], Option, Some, None, sym, subst, arith}
use Rattle.ew_model.specs.declared.event.Event.{Event}
use Rattle.ew_model.specs.Arrival.{Desk, Judgement, Outcome, next_judgement, judgements, with_answer, most_judgements}
use Rattle.ew_model.specs.Limits.{LimitNumbers}
use Rattle.ew_model.proofs.ArrivalLaws.{next_less, judgements_end}
use Rattle.ew_model.proofs.JoinedJudgements.{none_made}
use Rattle.ew_model.proofs.RoundLaws.{then}
use Rattle.history_laws.proofs.Thinning.{Ends, Goes, IsCalm, Skips, Step, step, thinned}

-- nothing was judged
abbrev unjudged : Desk → Outcome
unjudged d = record { desk = d; answers = [] }

-- What holds of both where nothing is left to judge, and in front of each judgement where it holds behind it, holds of enough judgements.
module _ (limits : LimitNumbers) (b : Bool) (old : List Event) (R : Desk → Outcome → Outcome → Type 0)
    (at_last : (d : Desk) → IsCalm old d → Ends limits b old d → R d (unjudged d) (unjudged (thinned old d)))
    (at_one : (d : Desk) (skips : Skips limits b old d) (o p : Outcome) → R skips.judgement.desk o p → R d (with_answer skips.judgement.answer o) p)
    (at_both : (d : Desk) (goes : Goes limits b old d) (o p : Outcome) → R goes.judgement.desk o p → R d (with_answer goes.judgement.answer o) (with_answer goes.judgement.answer p)) where
  ended : (n m : ℕ) (d : Desk) → IsCalm old d → Ends limits b old d → R d (judgements limits b n d) (judgements limits b m (thinned old d))
  ended n m d calm ends =
      subst (λ o. R d o (judgements limits b m (thinned old d))) (sym (none_made limits b n d ends.here))
      (subst (λ p. R d (unjudged d) p) (sym (none_made limits b m (thinned old d) ends.there)) (at_last d calm ends))

  -- where nothing is left to judge at the one
  at_end : (m : ℕ) (d : Desk) → IsCalm old d → next_judgement limits b d ≡ None → Step limits b old d → R d (judgements limits b 0 d) (judgements limits b m (thinned old d))
  at_end m d calm none (inl ends) = ended 0 m d calm ends
  at_end m d calm none (inr (inl skips)) = let h = skips.here in let no : ⊥ = cc in absurd no
  at_end m d calm none (inr (inr goes)) = let h = goes.here in let no : ⊥ = cc in absurd no

  -- where the same is judged at both
  both : (n m : ℕ) (d : Desk) → (goes : Goes limits b old d) → most_judgements (thinned old d) ≤ m
      → ((k : ℕ) → most_judgements (thinned old goes.judgement.desk) ≤ k → R goes.judgement.desk (judgements limits b n goes.judgement.desk) (judgements limits b k (thinned old goes.judgement.desk)))
      → R d (judgements limits b (suc n) d) (judgements limits b m (thinned old d))
  both n zero d goes few f = let less = next_less limits b (thinned old d) _ goes.there in absurd (omega (arith, few, less))
  both n (suc m) d goes few f =
      let less = next_less limits b (thinned old d) _ goes.there in
      let a = goes.judgement.desk in
      subst (λ (o : Option Judgement). R d (then limits b n d o) (judgements limits b (suc m) (thinned old d))) (sym goes.here)
      (subst (λ (o : Option Judgement). R d (then limits b n d (Some goes.judgement)) (then limits b m (thinned old d) o)) (sym goes.there)
      (at_both d goes (judgements limits b n a) (judgements limits b m (thinned old a)) (f m (omega (arith, few, less)))))

  one_more : (n m : ℕ) (d : Desk) → IsCalm old d → Step limits b old d → most_judgements d ≤ suc n → most_judgements (thinned old d) ≤ m
      → ((a : Desk) (k : ℕ) → IsCalm old a → most_judgements a ≤ n → most_judgements (thinned old a) ≤ k → R a (judgements limits b n a) (judgements limits b k (thinned old a)))
      → R d (judgements limits b (suc n) d) (judgements limits b m (thinned old d))
  one_more n m d calm (inl ends) few fewer f = ended (suc n) m d calm ends
  one_more n m d calm (inr (inl skips)) few fewer f =
      let j = skips.judgement in
      let less = next_less limits b d j skips.here in
      let later = f j.desk m skips.calm (omega (arith, few, less)) (subst (λ (a : Desk). most_judgements a ≤ m) (sym skips.same) fewer) in
      let rest = subst (λ (a : Desk). R j.desk (judgements limits b n j.desk) (judgements limits b m a)) skips.same later in
      subst (λ (o : Option Judgement). R d (then limits b n d o) (judgements limits b m (thinned old d))) (sym skips.here)
      (at_one d skips (judgements limits b n j.desk) (judgements limits b m (thinned old d)) rest)
  one_more n m d calm (inr (inr goes)) few fewer f =
      let less = next_less limits b d goes.judgement goes.here in
      both n m d goes fewer (λ k small. f goes.judgement.desk k goes.calm (omega (arith, few, less)) small)

  pub in_pairs : (n m : ℕ) (d : Desk) → IsCalm old d → most_judgements d ≤ n → most_judgements (thinned old d) ≤ m
      → R d (judgements limits b n d) (judgements limits b m (thinned old d))
  in_pairs zero m d calm few fewer = at_end m d calm (judgements_end limits b zero d few) (step limits b old d calm)
  in_pairs (suc n) m d calm few fewer = one_more n m d calm (step limits b old d calm) few fewer (λ a k. in_pairs n k a)
