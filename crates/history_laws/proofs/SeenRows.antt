-- The law of what makers saw at work: its premises hold of two people who edit one text apart, and what it says of them is so.
use Rattle.std.proofs.Common.{◌≡◌, ⊎_elim, inl, inr, [], ◌∷◌, ◌++◌, refl}
use Rattle.ew_model.specs.declared.event.Event.{Event}
use Rattle.ew_model.specs.Sets.{Among}
use Rattle.ew_model.specs.Texts.{text_at}
use Rattle.ew_model.specs.Verdicts.{IsGood}
use Rattle.ew_model.specs.ArrivalLaw.{OneEach}
use Rattle.ew_model.proofs.SetLaws.{among_joined, joined_left}
use Rattle.ew_model.proofs.SubgraphLaws.{one_event}
use Rattle.ew_model.proofs.GoodLaws.{good_laid_out}
use Rattle.ew_model.proofs.Rows.Events.{id, ins, del, abc, delete_beside_insert}
use Rattle.ew_model.proofs.Rows.Texts.{opened}
use Rattle.ew_model.proofs.Rows.Receiving.{judging}
use Rattle.history_laws.specs.Versions.{MeansWhatWasSeen}
use Rattle.history_laws.proofs.HeldVersions.{events_mean_what_was_seen}

-- c inserts Q at 2, where c saw abc
abbrev put : Event
put = ins 99 0 2 81 (id 97 2 ∷ [])

beside_good : IsGood delete_beside_insert
unfolding judging
beside_good = (refl, (refl, (refl, (refl, (refl, tt)))))

put_good : IsGood (abc ++ put ∷ [])
unfolding judging
put_good = (refl, (refl, (refl, (refl, tt))))

all_there : (z : Event) → Among z (delete_beside_insert ++ abc) → Among z delete_beside_insert
all_there z m =
    ⊎_elim
    (λ k. k)
    (λ k. joined_left abc (del 98 0 1 (id 97 2 ∷ []) ∷ put ∷ []) z k)
    (among_joined delete_beside_insert abc z m)

one_each : OneEach (delete_beside_insert ++ abc)
one_each f g mf mg e = one_event [] delete_beside_insert f g (good_laid_out delete_beside_insert beside_good) (all_there f mf) (all_there g mg) e

put_means : MeansWhatWasSeen delete_beside_insert abc put
put_means = events_mean_what_was_seen delete_beside_insert abc put beside_good put_good one_each (inr (inr (inr (inr (inl refl)))))

-- b's deletion is held too, and counts for nothing in what c saw ..
put_seen : text_at delete_beside_insert (id 97 2 ∷ []) ≡ 97 ∷ 98 ∷ 99 ∷ []
unfolding opened
put_seen = put_means.seen

-- .. and made of it
put_made : text_at delete_beside_insert (id 99 0 ∷ []) ≡ 97 ∷ 98 ∷ 81 ∷ 99 ∷ []
unfolding opened
put_made = put_means.made
