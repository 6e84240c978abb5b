-- A list is good exactly where no first event of it is bad.
use Rattle.std.proofs.Common.{◌≡◌, Bool, true, false, cond, List, [], ◌∷◌, ◌++◌, length, Some, None, refl, ap, ◌∙◌}
use Rattle.std.proofs.lemmas.Bool.{false≢true}
use Rattle.ew_model.specs.declared.event.Event.{Event}
use Rattle.ew_model.specs.Verdicts.{Ruling, next_verdict, IsGoodAfter, IsGood, is_verdict_good, first_bad, first_bad_after}
use Rattle.ew_model.specs.Verdicts.Ruling.{Repeat, Clash, SelfParent, TooManyParents, ParentsUnsorted, Unknown, PoolFull, NotReduced, Skipped, GraphFull, OutOfRange, Good}
use Rattle.ew_model.specs.ReceivingLaws.{GoodHasNoBad}

pub good_of : (r : Ruling) → is_verdict_good r ≡ true → r ≡ Good
good_of Good h = refl
good_of Repeat h = absurd (false≢true h)
good_of Clash h = absurd (false≢true h)
good_of SelfParent h = absurd (false≢true h)
good_of TooManyParents h = absurd (false≢true h)
good_of ParentsUnsorted h = absurd (false≢true h)
good_of (Unknown p) h = absurd (false≢true h)
good_of PoolFull h = absurd (false≢true h)
good_of NotReduced h = absurd (false≢true h)
good_of Skipped h = absurd (false≢true h)
good_of GraphFull h = absurd (false≢true h)
good_of (OutOfRange n) h = absurd (false≢true h)

-- good events have no first bad one
pub none_bad : (held events : List Event) → IsGoodAfter held events → first_bad_after held events ≡ None
none_bad held [] h = refl
none_bad held (e ∷ events) h =
    ap (λ (r : Ruling). cond (is_verdict_good r) (first_bad_after (held ++ e ∷ []) events) (Some (record { position = length held; verdict = r }))) h.0
    ∙ none_bad (held ++ e ∷ []) events h.1

good_at : (held : List Event) (e : Event) (events : List Event) (b : Bool) → is_verdict_good (next_verdict held e) ≡ b
    → (first_bad_after (held ++ e ∷ []) events ≡ None → IsGoodAfter (held ++ e ∷ []) events)
    → cond b (first_bad_after (held ++ e ∷ []) events) (Some (record { position = length held; verdict = next_verdict held e })) ≡ None
    → IsGoodAfter held (e ∷ events)
good_at held e events true k more h = (good_of (next_verdict held e) k, more h)
good_at held e events false k more h = let no : ⊥ = cc in absurd no

-- and where there is none they are good
pub good_none : (held events : List Event) → first_bad_after held events ≡ None → IsGoodAfter held events
good_none held [] h = tt
good_none held (e ∷ events) h = good_at held e events (is_verdict_good (next_verdict held e)) refl (good_none (held ++ e ∷ []) events) h

-- The law of good lists.
pub good_has_no_bad : GoodHasNoBad
unfolding IsGood first_bad
good_has_no_bad events = (none_bad [] events, good_none [] events)
