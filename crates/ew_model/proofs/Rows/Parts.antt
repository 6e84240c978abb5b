-- Rows on ancestors, heads, the order of siblings and local edits.
use Rattle.std.proofs.Common.{◌≡◌, ℕ, true, false, List, [], ◌∷◌, refl, Some, None, codes}
use Rattle.std.specs.declared.cmp.Ordering.TheVariants.{Less}
use Rattle.ew_model.specs.declared.event.Event.{Event}
use Rattle.ew_model.specs.Ids.{id_cmp, is_among}
use Rattle.ew_model.specs.Ancestors.{ancestors, heads}
use Rattle.ew_model.specs.Paths.{path_cmp, step_down}
use Rattle.ew_model.specs.Paths.Side.{Right}
use Rattle.ew_model.specs.Ancestors.{is_reduced}
use Rattle.ew_model.specs.Edits.{edit_refusal, events_of_ops, count_of}
use Rattle.ew_model.specs.Edits.Edit.{Insert, Delete}
use Rattle.ew_model.specs.Edits.EditRefusal.{OutOfRange, TooManyHeads, Full}
use Rattle.ew_model.proofs.Rows.Texts.{opened}
use Rattle.ew_model.proofs.Rows.Receiving.{program}
use Rattle.ew_model.proofs.Rows.Events.{id, ins, abc, diamond}

-- a fork and a join: the heads after each event
heads_one : heads (ins 97 0 0 97 [] ∷ []) ≡ id 97 0 ∷ []
heads_one = refl

heads_fork : heads (ins 97 0 0 97 [] ∷ ins 98 0 1 98 (id 97 0 ∷ []) ∷ ins 99 0 1 99 (id 97 0 ∷ []) ∷ []) ≡ id 98 0 ∷ id 99 0 ∷ []
heads_fork = refl

heads_join : heads diamond ≡ id 100 0 ∷ []
heads_join = refl

first_is_ancestor : is_among (ancestors diamond (id 98 0 ∷ [])) (id 97 0) ≡ true
first_is_ancestor = refl

sibling_is_not : is_among (ancestors diamond (id 98 0 ∷ [])) (id 99 0) ≡ false
sibling_is_not = refl

not_reduced : is_reduced diamond (id 97 0 ∷ id 98 0 ∷ []) ≡ false
unfolding is_reduced
not_reduced = refl

reduced : is_reduced diamond (id 98 0 ∷ id 99 0 ∷ []) ≡ true
unfolding is_reduced
reduced = refl

all_of_it : ancestors diamond (id 100 0 ∷ []) ≡ id 97 0 ∷ id 98 0 ∷ id 99 0 ∷ id 100 0 ∷ []
all_of_it = refl

-- right of the root stands b:0: a:0 comes before it, c:0 behind it and behind its child b:1
lower_sibling : path_cmp (step_down [] Right (id 97 0)) (step_down [] Right (id 98 0)) ≡ Less
lower_sibling = refl

higher_sibling : path_cmp (step_down [] Right (id 98 0)) (step_down [] Right (id 99 0)) ≡ Less
higher_sibling = refl

behind_the_child : path_cmp (step_down (step_down [] Right (id 98 0)) Right (id 98 1)) (step_down [] Right (id 99 0)) ≡ Less
behind_the_child = refl

prefix_is_lower : id_cmp (record { agent = codes "a"; seq = 9 }) (record { agent = codes "a0"; seq = 0 }) ≡ Less
prefix_is_lower = refl

count_of_a : count_of abc (97 ∷ []) ≡ 3
count_of_a = refl

past_the_end : edit_refusal program abc (codes "z") (Insert 4 (120 ∷ [])) ≡ Some (OutOfRange 3)
unfolding edit_refusal events_of_ops opened
past_the_end = refl

nothing_at_the_end : edit_refusal program abc (codes "z") (Delete 3 0) ≡ None
unfolding edit_refusal events_of_ops opened
nothing_at_the_end = refl

abbrev pub each_first : List ℕ → List Event
each_first [] = []
each_first (agent ∷ agents) = ins agent 0 0 agent [] ∷ each_first agents

too_many_heads : edit_refusal program (each_first (codes "abcdefghijklmnopq")) (codes "z") (Insert 0 (120 ∷ [])) ≡ Some (TooManyHeads 17)
unfolding edit_refusal events_of_ops opened
too_many_heads = refl

no_text : edit_refusal program (each_first (codes "abcdefghijklmnopq")) (codes "z") (Insert 0 []) ≡ None
unfolding edit_refusal events_of_ops opened
no_text = refl

full : edit_refusal (record { events = 3; waiting = 1; input = 64; body = 668 }) abc (codes "z") (Insert 0 (120 ∷ [])) ≡ Some (Full 3)
unfolding edit_refusal events_of_ops opened
full = refl
