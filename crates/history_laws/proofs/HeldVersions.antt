-- Histories that hold a version hold the same events of it, where one id names one event; so it has one text in them.
use Rattle.std.proofs.Common.{◌≡◌, true, ⊎_elim, inl, List, [], ◌∷◌, ◌++◌, refl, sym, ap, ◌∙◌, subst}
use Rattle.ew_model.specs.declared.id.Id.{Id}
use Rattle.ew_model.specs.declared.event.Event.{Event}
use Rattle.ew_model.specs.Sets.{Among, SameElements}
use Rattle.ew_model.specs.Ids.{id_eq}
use Rattle.ew_model.specs.Ancestors.{is_held, version_events}
use Rattle.ew_model.specs.Verdicts.{IsGood}
use Rattle.ew_model.proofs.SetLaws.{among_joined, joined_left, joined_right}
use Rattle.ew_model.proofs.VersionLaws.{found_by}
use Rattle.ew_model.proofs.EntryLaws.{points_back}
use Rattle.ew_model.proofs.SubgraphLaws.{closed_taken, taken_within}
use Rattle.ew_model.proofs.GoodLaws.{good_laid_out}
use Rattle.ew_model.proofs.KeptLaws.{good_before}
use Rattle.ew_model.proofs.CutSteps.{good_last}
use Rattle.ew_model.proofs.CoverLaws.{ids_alike, passes, pass_all, event_of, held_of, among_here, equal_through}
use Rattle.ew_model.proofs.RulingLaws.{good_parents, next_right}
use Rattle.ew_model.proofs.IndexLaw.{events_mean_their_index}
use Rattle.history_laws.specs.Versions.{HoldsVersion, HeldVersionsKeepText, EventsMeanWhatWasSeen}
use Rattle.history_laws.proofs.VersionTexts.{versions_keep_text}

-- an event of the one history and one of the other are one, where they have one id
abbrev AreOne : List Event → List Event → Type 0
AreOne xs ys = (f g : Event) → Among f xs → Among g ys → id_eq f.id g.id ≡ true → f ≡ g

-- the events of a version that another history holds too are events of that history
within : (xs ys : List Event) (version : List Id) → AreOne xs ys → IsGood xs → IsGood ys → HoldsVersion ys version → (x : Event) → Among x (version_events xs version) → Among x ys
within xs ys version one good_xs good_ys held x m =
    closed_taken (λ z. Among z ys) xs version
    (λ z k q. let found = found_by (id_eq z.id) version q in there z found.0 k found.2 (passes (is_held ys) version found.0 held found.1))
    (λ f z t k q. there z z.id k (ids_alike.refl z.id) (good_parents ys good_ys f t z.id q))
    x m
  where
    there : (z : Event) (p : Id) → Among z xs → id_eq z.id p ≡ true → is_held ys p ≡ true → Among z ys
    there z p k q h = let g = event_of ys p h in subst (λ w. Among w ys) (sym (one z g.0 k g.1 (equal_through z.id p g.0.id q g.2))) g.1

same_events : (xs ys : List Event) (version : List Id) → AreOne xs ys → AreOne ys xs → IsGood xs → IsGood ys → HoldsVersion xs version → HoldsVersion ys version → SameElements (version_events xs version) (version_events ys version)
same_events xs ys version one back good_xs good_ys held_xs held_ys = record {
  there = taken_within xs ys version (points_back [] ys (good_laid_out ys good_ys)) (within xs ys version one good_xs good_ys held_ys);
  back = taken_within ys xs version (points_back [] xs (good_laid_out xs good_xs)) (within ys xs version back good_ys good_xs held_xs);
}

-- The law of versions that are held.
pub held_versions_keep_text : HeldVersionsKeepText
held_versions_keep_text xs ys version good_xs good_ys each held_xs held_ys =
    versions_keep_text xs ys version version good_xs good_ys
    (same_events xs ys version
    (λ f g mf mg q. each f g (joined_left xs ys f mf) (joined_right xs ys g mg) q)
    (λ f g mf mg q. each f g (joined_right xs ys f mf) (joined_left xs ys g mg) q)
    good_xs good_ys held_xs held_ys)

-- an event that the first history holds is no more, where it comes to the second
none_more : (history makers : List Event) (e : Event) → Among e history → (z : Event) → Among z (history ++ (makers ++ e ∷ [])) → Among z (history ++ makers)
none_more history makers e there z m =
    ⊎_elim
    (λ k. joined_left history makers z k)
    (λ k. ⊎_elim
    (λ j. joined_right history makers z j)
    (λ j. ⊎_elim (λ q. subst (λ w. Among w (history ++ makers)) (sym q) (joined_left history makers e there)) (λ no. absurd no) j)
    (among_joined makers (e ∷ []) z k))
    (among_joined history (makers ++ e ∷ []) z m)

-- The law of what makers saw.
pub events_mean_what_was_seen : EventsMeanWhatWasSeen
unfolding IsGood
events_mean_what_was_seen history makers e good then_good each there = record {
  seen = held_versions_keep_text history makers e.parents good (good_before [] makers (e ∷ []) then_good) each
      (pass_all (is_held history) e.parents (λ p m. good_parents history good e there p (among_here e.parents p m)))
      (next_right makers e (good_last [] makers e then_good)).ready;
  made =
      held_versions_keep_text history (makers ++ e ∷ []) (e.id ∷ []) good then_good
      (λ f g mf mg q. each f g (none_more history makers e there f mf) (none_more history makers e there g mg) q)
      (holds_one history there) (holds_one (makers ++ e ∷ []) (joined_right makers (e ∷ []) e (inl refl)))
      ∙ events_mean_their_index makers e then_good;
}
  where
    holds_one : (events : List Event) → Among e events → HoldsVersion events (e.id ∷ [])
    holds_one events m = pass_all (is_held events) (e.id ∷ []) (λ p k. ⊎_elim (λ q. ap (is_held events) q ∙ held_of events e m) (λ no. absurd no) k)
