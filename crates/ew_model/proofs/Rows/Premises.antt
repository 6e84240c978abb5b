-- The premises of the laws hold of a history with a fork and a join, and of its cut behind the first event.
use Rattle.std.proofs.Common.{◌≡◌, ℕ, ◌<◌, ◌^◌, true, [], ◌∷◌, drop, nat_eq, refl, arith}
use Rattle.ew_model.specs.Names.{is_name}
use Rattle.ew_model.specs.Sound.{IsSoundId, IsSound, AreSound}
use Rattle.ew_model.specs.Verdicts.{IsGood}
use Rattle.ew_model.specs.Cuts.{is_critical}
use Rattle.ew_model.specs.Ids.{id_eq}
use Rattle.ew_model.specs.Operations.{operations_of, operations}
use Rattle.ew_model.specs.Walks.{base_at, applied_from, walked_from}
use Rattle.ew_model.proofs.ClearingLaw.{cuts_clear}
use Rattle.ew_model.proofs.WalkLaws.{walks_answer}
use Rattle.ew_model.proofs.Rows.Events.{id, ins, diamond}
use Rattle.ew_model.proofs.Rows.Receiving.{judging}

fork_good : IsGood diamond
unfolding judging
fork_good = (refl, (refl, (refl, (refl, tt))))

fork_critical : is_critical diamond 1 ≡ true
unfolding judging is_critical
fork_critical = refl

pub sound_id : (agent seq : ℕ) → is_name (agent ∷ []) ≡ true → seq < 2 ^ 32 → IsSoundId (id agent seq)
sound_id agent seq h k = record { agent = h; seq = k }

fork_sound : AreSound diamond
fork_sound =
    let a : IsSound (ins 97 0 0 97 []) = record { id = sound_id 97 0 refl (omega arith); parents = tt; op = (omega arith, refl) } in
    let b : IsSound (ins 98 0 1 98 (id 97 0 ∷ [])) = record { id = sound_id 98 0 refl (omega arith); parents = (sound_id 97 0 refl (omega arith), tt); op = (omega arith, refl) } in
    let c : IsSound (ins 99 0 1 99 (id 97 0 ∷ [])) = record { id = sound_id 99 0 refl (omega arith); parents = (sound_id 97 0 refl (omega arith), tt); op = (omega arith, refl) } in
    let d : IsSound (ins 100 0 3 100 (id 98 0 ∷ id 99 0 ∷ [])) = record { id = sound_id 100 0 refl (omega arith); parents = (sound_id 98 0 refl (omega arith), (sound_id 99 0 refl (omega arith), tt)); op = (omega arith, refl) } in
    (a, (b, (c, (d, tt))))

-- So the laws say something of it.
fork_clears : operations_of id_eq (base_at diamond 1) (applied_from diamond 1) ≡ drop 1 (operations diamond)
fork_clears = cuts_clear diamond 1 fork_good fork_sound fork_critical

fork_walks : operations_of nat_eq (base_at diamond 1) (walked_from diamond 1) ≡ drop 1 (operations diamond)
fork_walks = walks_answer diamond 1 fork_good fork_sound fork_critical
