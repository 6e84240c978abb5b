-- Rows on what is answered to received events.
use Rattle.std.proofs.Common.{◌≡◌, ℕ, true, List, [], ◌∷◌, refl, map}
use Rattle.ew_model.specs.declared.id.Id.{Id}
use Rattle.ew_model.specs.declared.event.Event.{Event}
use Rattle.ew_model.specs.Limits.{LimitNumbers}
use Rattle.ew_model.specs.Verdicts.{Ruling, follows_its_agent, id_rows, parent_rows, size_rows, range_rows, verdict, IsGood, next_verdict}
use Rattle.ew_model.specs.Arrival.{Outcome, next_judgement, arrive}
use Rattle.ew_model.specs.Ancestors.{is_reduced}
use Rattle.ew_model.specs.Verdicts.Ruling.{Repeat, Clash, SelfParent, TooManyParents, ParentsUnsorted, Unknown, PoolFull, NotReduced, Skipped, GraphFull, OutOfRange, Good}
use Rattle.ew_model.specs.Rounds.{most_touches, round_touches}
use Rattle.ew_model.specs.Touches.{touches}
use Rattle.ew_model.specs.Cuts.{is_critical}
use Rattle.ew_model.proofs.Rows.Texts.{opened}
use Rattle.ew_model.proofs.Rows.Events.{id, ins, typed, abc}

-- all that a verdict unfolds
unfoldable pub judging : ℕ
unfolding opened is_reduced follows_its_agent id_rows parent_rows size_rows range_rows next_judgement arrive next_verdict IsGood
judging = 0

abbrev pub program : LimitNumbers
program = record { events = 16777216; waiting = 65536; input = 16777216; body = 1048576 }

abbrev rulings : Outcome → List Ruling
rulings o = map (λ a. a.ruling) o.answers

-- a child before its parent waits, and comes after it
abbrev child : Event
child = ins 98 1 1 121 (id 98 0 ∷ [])

abbrev parent : Event
parent = ins 98 0 0 120 []

child_first : rulings (arrive program [] [] (child ∷ [])) ≡ Unknown (id 98 0) ∷ []
unfolding judging
child_first = refl

then_parent : rulings (arrive program [] (child ∷ []) (parent ∷ [])) ≡ Good ∷ Good ∷ []
unfolding judging
then_parent = refl

then_held : (arrive program [] (child ∷ []) (parent ∷ [])).desk.held ≡ parent ∷ child ∷ []
unfolding judging
then_held = refl

again : rulings (arrive program abc [] abc) ≡ Repeat ∷ Repeat ∷ Repeat ∷ []
unfolding judging
again = refl

clash : verdict program true (ins 97 0 0 120 [] ∷ []) [] (ins 97 0 0 121 []) ≡ Clash
unfolding judging
clash = refl

not_reduced : verdict program true (typed 97 0 0 (97 ∷ 98 ∷ []) []) [] (ins 98 0 0 88 (id 97 0 ∷ id 97 1 ∷ [])) ≡ NotReduced
unfolding judging
not_reduced = refl

skipped : verdict program true (ins 97 0 0 97 [] ∷ ins 98 0 1 98 (id 97 0 ∷ []) ∷ []) [] (ins 98 1 0 88 (id 97 0 ∷ [])) ≡ Skipped
unfolding judging
skipped = refl

abbrev batch : List Event
batch = ins 98 0 5 88 (id 97 1 ∷ []) ∷ ins 98 1 0 89 (id 98 0 ∷ []) ∷ ins 99 0 2 90 (id 97 1 ∷ []) ∷ []

batch_rulings : rulings (arrive program (typed 97 0 0 (97 ∷ 98 ∷ []) []) [] batch) ≡ OutOfRange 2 ∷ Unknown (id 98 0) ∷ Good ∷ []
unfolding judging
batch_rulings = refl

batch_waits : (arrive program (typed 97 0 0 (97 ∷ 98 ∷ []) []) [] batch).desk.waiting ≡ ins 98 1 0 89 (id 98 0 ∷ []) ∷ []
unfolding judging
batch_waits = refl

batch_bound : most_touches program (typed 97 0 0 (97 ∷ 98 ∷ []) []) [] batch ≡ 6
unfolding judging most_touches round_touches touches is_critical
batch_bound = refl

abbrev room_for_one : LimitNumbers
room_for_one = record { events = 3; waiting = 1; input = 64; body = 668 }

pool_full : rulings (arrive room_for_one [] [] (child ∷ ins 98 2 2 122 (id 98 1 ∷ []) ∷ [])) ≡ Unknown (id 98 0) ∷ PoolFull ∷ []
unfolding judging
pool_full = refl

graph_full : verdict room_for_one true abc [] (ins 98 0 0 88 (id 97 2 ∷ [])) ≡ GraphFull
unfolding judging
graph_full = refl

self_parent : verdict program true [] [] (ins 99 0 0 88 (id 99 0 ∷ [])) ≡ SelfParent
unfolding judging
self_parent = refl

abbrev seventeen : List Id
seventeen = id 97 0 ∷ id 98 0 ∷ id 99 0 ∷ id 100 0 ∷ id 101 0 ∷ id 102 0 ∷ id 103 0 ∷ id 104 0 ∷ id 105 0 ∷ id 106 0 ∷ id 107 0 ∷ id 108 0 ∷ id 109 0 ∷ id 110 0 ∷ id 111 0 ∷ id 112 0 ∷ id 113 0 ∷ []

too_many : verdict program true [] [] (ins 122 0 0 88 seventeen) ≡ TooManyParents
unfolding judging
too_many = refl

unsorted : verdict program true [] [] (ins 122 0 0 88 (id 98 0 ∷ id 97 0 ∷ [])) ≡ ParentsUnsorted
unfolding judging
unsorted = refl

good : IsGood abc
unfolding judging
good = (refl, (refl, (refl, tt)))
