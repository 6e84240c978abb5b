-- How the lists of what events were applied over are written doesn't matter.
use Rattle.std.proofs.Common.{◌≡◌, ℕ, nat_eq, List, [], ◌∷◌, ◌++◌, fold, refl, ap, ◌∙◌}
use Rattle.ew_model.specs.Tree.{Applied, Noted, all_entries, entries_over, next_entry, noted_as, grow, tree_of}
use Rattle.ew_model.specs.Places.{place}
use Rattle.ew_model.specs.Entries.{visible}
use Rattle.ew_model.specs.Operations.{operation_of, next_operation, operations_after, operations_of}
use Rattle.ew_model.specs.Records.{holds, records}
use Rattle.ew_model.specs.Moves.{AlikeEvents, AlikeWalkAlike}
use Rattle.ew_model.proofs.StateLaws.{part_same}

same_next : (b : ℕ) (notes : List (Noted ℕ)) (a c : Applied ℕ) → a.act ≡ c.act → ((n : ℕ) → holds a.over n ≡ holds c.over n) → next_entry nat_eq b notes a ≡ next_entry nat_eq b notes c
unfolding next_entry
same_next b notes a c act over = λ i. place (act i) (part_same b notes a.over c.over over i)

same_grow : (b : ℕ) (notes : List (Noted ℕ)) (a c : Applied ℕ) → a.name ≡ c.name → a.act ≡ c.act → ((n : ℕ) → holds a.over n ≡ holds c.over n) → grow nat_eq b notes a ≡ grow nat_eq b notes c
same_grow b notes a c name act over = λ i. notes ++ noted_as (name i) (same_next b notes a c act over i)

same_fold : (b : ℕ) (notes : List (Noted ℕ)) (events others : List (Applied ℕ)) → AlikeEvents events others → fold (grow nat_eq b) notes events ≡ fold (grow nat_eq b) notes others
same_fold b notes [] [] h = refl
same_fold b notes [] (c ∷ others) h = absurd h
same_fold b notes (a ∷ events) [] h = absurd h
same_fold b notes (a ∷ events) (c ∷ others) h =
    same_fold b (grow nat_eq b notes a) events others h.3 ∙ ap (λ ns. fold (grow nat_eq b) ns others) (same_grow b notes a c h.0 h.1 h.2)

same_tree : (b : ℕ) (events others : List (Applied ℕ)) → AlikeEvents events others → tree_of nat_eq b events ≡ tree_of nat_eq b others
unfolding tree_of
same_tree b events others h = same_fold b [] events others h

pub same_operation : (b : ℕ) (notes : List (Noted ℕ)) (a c : Applied ℕ) → a.act ≡ c.act → ((n : ℕ) → holds a.over n ≡ holds c.over n) → next_operation nat_eq b notes a ≡ next_operation nat_eq b notes c
unfolding next_operation
same_operation b notes a c act over = ap (operation_of (visible (all_entries b notes))) (same_next b notes a c act over)

same_after : (b : ℕ) (notes : List (Noted ℕ)) (events others : List (Applied ℕ)) → AlikeEvents events others → operations_after nat_eq b notes events ≡ operations_after nat_eq b notes others
same_after b notes [] [] h = refl
same_after b notes [] (c ∷ others) h = absurd h
same_after b notes (a ∷ events) [] h = absurd h
same_after b notes (a ∷ events) (c ∷ others) h =
    (λ i. same_operation b notes a c h.1 h.2 i ∷ same_after b (grow nat_eq b notes a) events others h.3 i)
    ∙ ap (λ ns. next_operation nat_eq b notes c ∷ operations_after nat_eq b ns others) (same_grow b notes a c h.0 h.1 h.2)

same_operations : (b : ℕ) (events others : List (Applied ℕ)) → AlikeEvents events others → operations_of nat_eq b events ≡ operations_of nat_eq b others
unfolding operations_of
same_operations b events others h = same_after b [] events others h

pub alike_walk_alike : AlikeWalkAlike
alike_walk_alike b events others h =
    let tree : tree_of nat_eq b events ≡ tree_of nat_eq b others = same_tree b events others h in
    record {
      tree = tree;
      operations = same_operations b events others h;
      records = λ prepared also same.
          ap (λ ns. records (all_entries b ns) (entries_over nat_eq b ns prepared)) tree
          ∙ ap (records (all_entries b (tree_of nat_eq b others))) (part_same b (tree_of nat_eq b others) prepared also same);
    }
