-- A new character right behind the root is the first.
use Rattle.std.proofs.Common.{◌≡◌, nat_eq, false, cond, List, [], map, sym, ap, ◌∙◌, subst}
use Rattle.std.specs.Ordering.{is_lt, is_gt, ordering_reverse}
use Rattle.std.specs.declared.cmp.Ordering.{Ordering}
use Rattle.std.specs.declared.cmp.Ordering.TheVariants.{Less, Greater}
use Rattle.std.specs.List.{AllByRecursion}
use Rattle.ew_model.specs.declared.text_op.TextOp.TheVariants.{Ins}
use Rattle.ew_model.specs.Sets.{Among}
use Rattle.ew_model.specs.Siblings.{StandsBehind}
use Rattle.ew_model.specs.Operations.{operation_of, next_operation}
use Rattle.ew_model.specs.Entries.{Inserted, inserted_cmp, order, visible}
use Rattle.ew_model.specs.Paths.{path_cmp, path_lt}
use Rattle.ew_model.specs.Tree.{all_entries, entries_over, tree_of}
use Rattle.ew_model.specs.Entries.Entry.{Insertion}
use Rattle.ew_model.specs.Records.{records, AppliesFirst}
use Rattle.ew_model.proofs.SortingLaws.{all_at, all_from}
use Rattle.ew_model.proofs.PlaceLaws.{placed_total}
use Rattle.ew_model.proofs.PrefixLaws.{visible_among}
use Rattle.ew_model.proofs.OwnIndex.{BehindRoot, tree_behind, behind_root_order}
use Rattle.ew_model.proofs.StateLaws.{node_of, nodes_of, record_first, applies_tell}
use Rattle.ew_model.proofs.ReadLaws.{count_none}

before_all : (nodes : List Inserted) (y : Inserted) → BehindRoot nodes → StandsBehind nodes y.path [] → (z : Inserted) → Among z nodes → inserted_cmp z y ≡ Greater
before_all nodes y roots h z m = h z m ∙ ap (λ (o : Ordering). cond (is_gt o) Greater Less) (all_at (λ (z : Inserted). path_cmp z.path [] ≡ Greater) nodes z roots m)

pub applies_first : AppliesFirst
unfolding next_operation
applies_first b events prepared name act y run may is h =
    let notes = tree_of nat_eq b events in
    let all = all_entries b notes in
    let part = entries_over nat_eq b notes prepared in
    let nodes : map node_of (records all part) ≡ order all = nodes_of all part in
    let roots : BehindRoot (order all) = behind_root_order all (tree_behind nat_eq b events) in
    let higher : (z : Inserted) → Among z (order all) → inserted_cmp z y ≡ Greater = before_all (order all) y roots (subst (λ ws. StandsBehind ws y.path []) nodes h) in
    let lower : AllByRecursion (λ (z : Inserted). inserted_cmp y z ≡ Less) (map node_of (records all part)) =
    subst (AllByRecursion (λ (z : Inserted). inserted_cmp y z ≡ Less)) (sym nodes) (all_from (λ (z : Inserted). inserted_cmp y z ≡ Less) (order all) (λ z m. placed_total.antisymm y z ∙ ap ordering_reverse (higher z m))) in (
      (applies_tell b events prepared name act (Insertion y) run may is).0 ∙ record_first y (records all part) lower,
      ap (operation_of (visible all)) is
          ∙ ap (λ n. Ins n y.ch) (count_none (λ (z : Inserted). path_lt z.path y.path) (visible all) (all_from (λ (z : Inserted). path_lt z.path y.path ≡ false) (visible all) (λ z m. ap is_lt (higher z (visible_among all z m))))),
    )
