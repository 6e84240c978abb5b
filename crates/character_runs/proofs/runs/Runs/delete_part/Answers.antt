use Rattle.std.proofs.Common.{◌≡◌, ℕ, suc, ◌-◌, ◌<◌, true, List, length, nat_lt, sym, ap, ◌∙◌, subst, arith}
use Rattle.std.specs.List.{AllByRecursion}
use Rattle.ew_model.specs.declared.node.Node.{Node}
use Rattle.ew_model.specs.declared.node.Node.TheVariants.{Root}
use Rattle.walker_record.specs.Stretches.{Stretch, node_on}
use Rattle.order_tree.specs.Pairs.{runs}
use Rattle.character_runs.specs.declared.runs.changing.Altered.{Altered}
use Rattle.character_runs.specs.declared.runs.reading.Found.{Found}
use Rattle.character_runs.specs.States.{HasRoom, is_inserted, knows, sees}
use Rattle.character_runs.specs.Laid.{IsOffset, chars_in}
use Rattle.character_runs.specs.Deleting.{struck_each}
use Rattle.character_runs.specs.Replacing.{Recounted}
use Rattle.character_runs.proofs.CharPlaces.{sees_there}
use Rattle.character_runs.proofs.LooseCuts.{may_loose, may_ahead, may_behind}
use Rattle.character_runs.proofs.RunChars.{node_on_none}
use Rattle.character_runs.proofs.StruckRuns.{is_on, nodes_on, struck_at_once, known_each}
use Rattle.character_runs.proofs.runs.Runs.delete_part.Goals as goal

pub recast-requires-clause-some : goal.recast-requires-clause-some
recast-requires-clause-some g c = let long = c.in_ok-part.ensures.long in omega (arith, long)

pub recast-requires-clause-room : goal.recast-requires-clause-room
recast-requires-clause-room g c = subst (λ (xs : List Stretch). AllByRecursion HasRoom xs) (sym c.part.ensures.chars) c.requires.room

pub recast-requires-clause-few : goal.recast-requires-clause-few
recast-requires-clause-few g c = let long = ap (λ (xs : List Stretch). length xs) c.part.ensures.chars in omega (arith, long, c.requires.few)

pub returns-clause-chars : goal.returns-clause-chars
returns-clause-chars g c =
    let first = c.args.first in
    let part = c.in_ok-part.part in
    let from = c.in_ok-part.ensures.first in
    let rooted : first ≡ Root → ⊥ = λ e. c.part.ensures.laid.rooted part.label part.run c.in_ok-part.ensures.held (from ∙ e) in
    c.recast.ensures.chars (is_on first c.args.count) (nodes_on part.run first from c.args.count c.in_ok-part.ensures.long)
    ∙ struck_at_once first rooted (chars_in c.part.new.self.tree.pairs) c.args.count
    ∙ ap (λ (xs : List Stretch). struck_each xs first c.args.count) c.part.ensures.chars

pub returns-clause-recounted : goal.returns-clause-recounted
returns-clause-recounted g c = subst (λ (xs : List Stretch). Recounted xs (chars_in c.recast.new.self.tree.pairs) c.recast.result) c.part.ensures.chars c.recast.ensures.recounted

pub returns-clause-known : goal.returns-clause-known
returns-clause-known g c v =
    let first = c.args.first in
    let part = c.in_ok-part.part in
    let from = c.in_ok-part.ensures.first in
    let long = c.in_ok-part.ensures.long in
    let at = λ (k : ℕ) (low : k < c.args.count). let is : IsOffset part.run (node_on first k) k = (omega (arith, low, long), ap (λ (w : Node). node_on w k) from) in is in
    let seen : part.run.prepared ≡ c.in-Some.found.run.prepared = c.in_ok-part.ensures.prepared in
    let one : part.run.prepared ≡ 1 = seen ∙ sym (ap (λ (f : Found). f.run.prepared) c.found.view_is) ∙ c.if-found-ne1.false in
    let was : is_inserted c.recast.result.before ≡ true = ap (λ (a : Altered). is_inserted a.before) c.recast.ensures.altered ∙ ap (λ (p : ℕ). nat_lt 0 p) one in
    let now : is_inserted c.recast.result.after ≡ true = ap (λ (a : Altered). is_inserted a.after) c.recast.ensures.altered ∙ ap (λ (p : ℕ). nat_lt 0 (suc p)) one in
    known_each (chars_in c.part.new.self.tree.pairs) (chars_in c.recast.new.self.tree.pairs) first c.args.count (c.recast.ensures.chars (is_on first c.args.count) (nodes_on part.run first from c.args.count long))
    (λ k low. c.recast.ensures.was (node_on first k) k (at k low) ∙ was) (λ k low. c.recast.ensures.is (node_on first k) k (at k low) ∙ now) v
    ∙ ap (λ (xs : List Stretch). knows xs v) c.part.ensures.chars

pub returns-clause-loose : goal.returns-clause-loose
returns-clause-loose g c among =
    let h = c.part.ensures.cut in
    let one = may_loose among (runs c.args.self.now.tree.pairs) h.0 c.args.first h.1 in
    let two = may_loose among h.0 (runs c.part.new.self.tree.pairs) (node_on (node_on c.args.first (c.args.count - 1)) 1) h.2 in
    let same = c.recast.ensures.loose among in
    omega (arith, one, two, same)

pub returns-clause-told : goal.returns-clause-told
returns-clause-told g c among all =
    let h = c.part.ensures.cut in
    let some : 0 < c.args.count = omega (arith, c.in_ok-part.ensures.long) in
    let one = may_ahead among (runs c.args.self.now.tree.pairs) h.0 c.args.first h.1 (ap among (sym (node_on_none c.args.first)) ∙ all 0 some) in
    let two = may_behind among h.0 (runs c.part.new.self.tree.pairs) (node_on c.args.first (c.args.count - 1)) h.2 (all (c.args.count - 1) (omega (arith, some))) in
    let same = c.recast.ensures.loose among in
    omega (arith, one, two, same)

pub returns-in_err-part-clause-known : goal.returns-in_err-part-clause-known
returns-in_err-part-clause-known g c v = ap (λ (xs : List Stretch). knows xs v) c.part.ensures.chars

pub returns-in_err-part-clause-loose : goal.returns-in_err-part-clause-loose
returns-in_err-part-clause-loose g c among =
    let h = c.part.ensures.cut in
    let one = may_loose among (runs c.args.self.now.tree.pairs) h.0 c.args.first h.1 in
    let two = may_loose among h.0 (runs c.part.new.self.tree.pairs) (node_on (node_on c.args.first (c.args.count - 1)) 1) h.2 in
    omega (arith, one, two)

pub returns-in_err-part-clause-told : goal.returns-in_err-part-clause-told
returns-in_err-part-clause-told g c among all =
    let h = c.part.ensures.cut in
    let some : 0 < c.args.count = omega (arith, c.if-count-eq0.false) in
    let one = may_ahead among (runs c.args.self.now.tree.pairs) h.0 c.args.first h.1 (ap among (sym (node_on_none c.args.first)) ∙ all 0 some) in
    let two = may_behind among h.0 (runs c.part.new.self.tree.pairs) (node_on c.args.first (c.args.count - 1)) h.2 (all (c.args.count - 1) (omega (arith, some))) in
    omega (arith, one, two)

pub returns-clause-visible : goal.returns-clause-visible
returns-clause-visible g c k low =
    let part = c.in_ok-part.part in
    let long = c.in_ok-part.ensures.long in
    let seen : part.run.prepared ≡ c.in-Some.found.run.prepared = c.in_ok-part.ensures.prepared in
    subst (λ (xs : List Stretch). sees xs (node_on c.args.first k) ≡ true) c.part.ensures.chars
    (sees_there c.part.new.self.tree.pairs part.label k (node_on c.args.first k) part.run c.in_ok-part.ensures.held (omega (arith, low, long)) (ap (λ (w : Node). node_on w k) c.in_ok-part.ensures.first)
    (seen ∙ sym (ap (λ (f : Found). f.run.prepared) c.found.view_is) ∙ c.if-found-ne1.false))
