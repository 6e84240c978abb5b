use Rattle.std.proofs.Common.{◌≡◌, ℕ, ◌+◌, ◌-◌, ◌<◌, length, All, drop, arith, subst}
use Rattle.std.proofs.lemmas.List.Elements.{All-nil}
use Rattle.order_tree.specs.Parts.{all_pairs}
use Rattle.order_tree.proofs.PartLists.{take_below, drop_above, drop_one_less}
use Rattle.order_tree.proofs.part.place_of.Goals as goal

pub returns-then-many-gt0-clause-before : goal.returns-then-many-gt0-clause-before
returns-then-many-gt0-clause-before g c =
    let many = c.count_up_to-many.result in
    let lt : many - 1 < length c.args.parts.now = omega (arith, c.if-many-gt0.true, c.count_up_to-many.ensures.within) in
    take_below g.T.Part.pairs c.args.parts.now (many - 1) c.args.label lt c.requires.some c.requires.rising (λ d. c.count_up_to-many.ensures.before d c.if-many-gt0.true)

pub returns-then-many-gt0-clause-behind : goal.returns-then-many-gt0-clause-behind
returns-then-many-gt0-clause-behind g c =
    let many = c.count_up_to-many.result in
    let same : many ≡ many - 1 + 1 = omega (arith, c.if-many-gt0.true) in
    subst (λ (k : ℕ). All (λ p. c.args.label < p.0) (all_pairs g.T.Part.pairs (drop k c.args.parts.now))) same
    (drop_above g.T.Part.pairs c.args.parts.now many c.args.label c.requires.some c.requires.rising c.count_up_to-many.ensures.behind)

pub returns-else-many-gt0-clause-before : goal.returns-else-many-gt0-clause-before
returns-else-many-gt0-clause-before g c = All-nil (λ p. p.0 < c.args.label)

pub returns-else-many-gt0-clause-behind : goal.returns-else-many-gt0-clause-behind
returns-else-many-gt0-clause-behind g c =
    let many = c.count_up_to-many.result in
    let none : many ≡ 0 = omega (arith, c.if-many-gt0.false) in
    drop_one_less g.T.Part.pairs c.args.parts.now c.args.label
    (subst (λ (k : ℕ). All (λ p. c.args.label < p.0) (all_pairs g.T.Part.pairs (drop k c.args.parts.now))) none
    (drop_above g.T.Part.pairs c.args.parts.now many c.args.label c.requires.some c.requires.rising c.count_up_to-many.ensures.behind))
