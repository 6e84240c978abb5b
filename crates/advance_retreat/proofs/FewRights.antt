-- A node has at most so many right children that are known as there are records.
use Rattle.std.proofs.Common.{◌≡◌, ◌≤◌, Bool, true, false, ◌&&◌, ◌||◌, List, [], ◌∷◌, ◌++◌, length, refl, sym, ap, ◌∙◌, arith}
use Rattle.std.proofs.lemmas.Bool.{false≢true}
use Rattle.ew_model.specs.declared.node.Node.{Node}
use Rattle.ew_model.specs.Sets.{Among}
use Rattle.walker_record.specs.Stretches.{Stretch}
use Rattle.fugue_place.specs.declared.child.Attached.{Attached}
use Rattle.fugue_place.specs.declared.child.Side.TheVariants.{Right as right}
use Rattle.fugue_place.specs.Attachments.{node_eq, AreAttached}
use Rattle.fugue_place.specs.Neighbours.{is_child}
use Rattle.fugue_place.proofs.NodeLaws.{node_same, node_itself}
use Rattle.character_runs.specs.States.{is_of, is_inserted, knows}
use Rattle.right_children.specs.Rights.{one_if, known_right}
use Rattle.right_children.proofs.RightCounts.{count, count-cons, count_none, count_either, count_both, not_same, later_differ, itself_there}

abbrev known_as : Stretch → Attached → Bool
known_as r a = is_of a.node r && is_inserted r

one_of : (r : Stretch) (before xs : List Attached) → AreAttached before xs → count (known_as r) xs ≤ 1
one_of r before [] sound = omega arith
one_of r before (x ∷ xs) sound = at (one_of r (before ++ x ∷ []) xs sound.1) (is_of x.node r && is_inserted r) refl
  where
    both : (b c : Bool) → (b && c) ≡ true → b ≡ true
    both true c e = refl
    both false c e = e

    and_first : (b c : Bool) → b ≡ false → (b && c) ≡ false
    and_first true c e = absurd (false≢true (sym e))
    and_first false c e = refl

    at : count (known_as r) xs ≤ 1 → (b : Bool) → known_as r x ≡ b → count (known_as r) (x ∷ xs) ≤ 1
    at rest false e = omega (arith, rest, count-cons (known_as r) x xs, ap one_if e)
    at rest true e =
        let own : r.from ≡ x.node = node_same r.from x.node (both (is_of x.node r) (is_inserted r) e) in
        let differ : (y : Attached) → Among y xs → is_of y.node r ≡ false =
        λ y m. not_same r.from y.node (λ f. false≢true (sym (later_differ (before ++ x ∷ []) xs sound.1 x.node (itself_there before x) y m) ∙ ap (λ (v : Node). node_eq v x.node) (sym f ∙ own) ∙ node_itself x.node)) (node_eq r.from y.node) refl in
        let none = count_none (known_as r) xs (λ y m. and_first (is_of y.node r) (is_inserted r) (differ y m)) in
        omega (arith, none, count-cons (known_as r) x xs, ap one_if e)

few_known : (rs : List Stretch) (xs : List Attached) → AreAttached [] xs → count (λ (a : Attached). knows rs a.node) xs ≤ length rs
few_known [] xs sound = let none = count_none (λ (a : Attached). knows [] a.node) xs (λ x m. refl) in omega (arith, none)
few_known (r ∷ rs) xs sound =
    let split = count_either (λ (a : Attached). is_of a.node r && is_inserted r) (λ (a : Attached). knows rs a.node) xs in
    let one = one_of r [] xs sound in
    let rest = few_known rs xs sound in
    let same : count (λ (a : Attached). knows (r ∷ rs) a.node) xs ≡ count (λ (a : Attached). (is_of a.node r && is_inserted r) || knows rs a.node) xs = refl in
    omega (arith, split, one, rest, same)

pub few_right : (rs : List Stretch) (attached : List Attached) (v : Node) → AreAttached [] attached → known_right (knows rs) attached v ≤ length rs
few_right rs attached v sound =
    let own = count_both (λ (a : Attached). is_child v right a) (λ (a : Attached). knows rs a.node) attached in
    omega (arith, own, few_known rs attached sound)
