-- Rows of a walker's records, and the premises of its laws on a history with a fork and a join.
use Rattle.std.proofs.Common.{◌≡◌, ℕ, Bool, true, false, List, [], ◌∷◌, map, take, nat_eq, not, ◌||◌, ◌&&◌, refl, sym, ap, ◌∙◌, arith}
use Rattle.std.proofs.lemmas.Bool.{eqb-true}
use Rattle.ew_model.specs.Sound.{IsSound, AreSound}
use Rattle.ew_model.specs.Verdicts.{IsGood}
use Rattle.ew_model.specs.Walks.{walked_from}
use Rattle.ew_model.specs.Tree.{Applied, next_entry, tree_of}
use Rattle.ew_model.specs.Places.{place}
use Rattle.ew_model.specs.Entries.{visible, order}
use Rattle.ew_model.specs.Places.Act.{InsertAs, DeleteAt}
use Rattle.ew_model.specs.Records.{Record, walker_records, RecordsSay}
use Rattle.ew_model.specs.Moves.{Walkable, Moves, AreAlone}
use Rattle.ew_model.proofs.WalkRuns.{walks_are_runs}
use Rattle.ew_model.proofs.RecordLaws.{records_tell}
use Rattle.ew_model.proofs.MoveLaws.{moves_arrive}
use Rattle.ew_model.proofs.Rows.Events.{id, ins, diamond}
use Rattle.ew_model.proofs.Rows.Receiving.{judging}
use Rattle.ew_model.proofs.Rows.Premises.{sound_id}

-- the prepared numbers, and the effects
abbrev numbers : List Record → List ℕ
numbers rs = map (λ (r : Record). r.prepared) rs

abbrev effects : List Record → List Bool
effects rs = map (λ (r : Record). r.effect) rs

abbrev seqs : List Record → List (List ℕ)
seqs rs = map (λ (r : Record). r.node.id.agent) rs

-- before one base character a is inserted, b beside it without knowing, and a is deleted by one who knows a alone
abbrev beside : List (Applied ℕ)
beside =
    record { name = 0; act = InsertAs (id 97 0) 0 97; over = [] } ∷ record { name = 1; act = InsertAs (id 98 0) 0 98; over = [] } ∷ record { name = 2; act = DeleteAt 0; over = 0 ∷ [] } ∷ []

beside_order : seqs (walker_records 1 beside []) ≡ (97 ∷ []) ∷ (98 ∷ []) ∷ [] ∷ []
unfolding tree_of next_entry place visible order
beside_order = refl

beside_none : numbers (walker_records 1 beside []) ≡ 0 ∷ 0 ∷ 1 ∷ []
unfolding tree_of next_entry place visible order
beside_none = refl

beside_first : numbers (walker_records 1 beside (0 ∷ [])) ≡ 1 ∷ 0 ∷ 1 ∷ []
unfolding tree_of next_entry place visible order
beside_first = refl

beside_deleted : numbers (walker_records 1 beside (2 ∷ 0 ∷ [])) ≡ 2 ∷ 0 ∷ 1 ∷ []
unfolding tree_of next_entry place visible order
beside_deleted = refl

beside_effects : effects (walker_records 1 beside (0 ∷ [])) ≡ false ∷ true ∷ true ∷ []
unfolding tree_of next_entry place visible order
beside_effects = refl

-- one base character that two delete, not knowing of each other
abbrev twice : List (Applied ℕ)
twice = record { name = 0; act = DeleteAt 0; over = [] } ∷ record { name = 1; act = DeleteAt 0; over = [] } ∷ []

twice_both : numbers (walker_records 1 twice (0 ∷ 1 ∷ [])) ≡ 3 ∷ []
unfolding tree_of next_entry place visible order
twice_both = refl

twice_one : numbers (walker_records 1 twice (1 ∷ [])) ≡ 2 ∷ []
unfolding tree_of next_entry place visible order
twice_one = refl

twice_none : effects (walker_records 1 twice []) ≡ false ∷ []
unfolding tree_of next_entry place visible order
twice_none = refl

-- THE PREMISES
fork_good : IsGood diamond
unfolding judging
fork_good = (refl, (refl, (refl, (refl, tt))))

fork_sound : AreSound diamond
fork_sound =
    let a : IsSound (ins 97 0 0 97 []) = record { id = sound_id 97 0 refl (omega arith); parents = tt; op = (omega arith, refl) } in
    let b : IsSound (ins 98 0 1 98 (id 97 0 ∷ [])) = record { id = sound_id 98 0 refl (omega arith); parents = (sound_id 97 0 refl (omega arith), tt); op = (omega arith, refl) } in
    let c : IsSound (ins 99 0 1 99 (id 97 0 ∷ [])) = record { id = sound_id 99 0 refl (omega arith); parents = (sound_id 97 0 refl (omega arith), tt); op = (omega arith, refl) } in
    let d : IsSound (ins 100 0 3 100 (id 98 0 ∷ id 99 0 ∷ [])) = record { id = sound_id 100 0 refl (omega arith); parents = (sound_id 98 0 refl (omega arith), (sound_id 99 0 refl (omega arith), tt)); op = (omega arith, refl) } in
    (a, (b, (c, (d, tt))))

fork_walks : Walkable diamond 1
fork_walks = walks_are_runs diamond 1 fork_good fork_sound

fork_records : RecordsSay 1 (walked_from diamond 1) (1 ∷ [])
fork_records = records_tell 1 (walked_from diamond 1) (1 ∷ []) fork_walks.run

-- with one arm of the fork prepared, and then the other
fork_left : numbers (walker_records 1 (take 2 (walked_from diamond 1)) (1 ∷ [])) ≡ 1 ∷ 1 ∷ 0 ∷ []
unfolding tree_of next_entry place visible order
fork_left = refl

fork_right : numbers (walker_records 1 (take 2 (walked_from diamond 1)) (2 ∷ [])) ≡ 1 ∷ 0 ∷ 1 ∷ []
unfolding tree_of next_entry place visible order
fork_right = refl

-- from one arm to the other: position 1 is taken out, and position 2 put in
other_arm : (m k : ℕ) → nat_eq m k ≡ false → AreAlone (m ∷ []) (m ∷ []) (k ∷ [])
other_arm m k apart n = at (nat_eq n m) refl
  where
    at : (c : Bool) → nat_eq n m ≡ c → (c || false) ≡ (c || false) && not (nat_eq n k || false)
    at true e = sym (ap (λ (w : ℕ). not (nat_eq w k || false)) (eqb-true n m e) ∙ ap (λ (d : Bool). not (d || false)) apart)
    at false e = refl

fork_moves : Moves (walked_from diamond 1) (1 ∷ []) (2 ∷ []) (1 ∷ []) (2 ∷ [])
fork_moves =
    moves_arrive (walked_from diamond 1) (1 ∷ []) (2 ∷ []) (1 ∷ []) (2 ∷ []) fork_walks.back
    (fork_walks.versions (id 98 0 ∷ [])) (fork_walks.versions (id 99 0 ∷ [])) (tt, tt) (other_arm 1 2 refl) (tt, tt) (other_arm 2 1 refl)
