use Rattle.std.proofs.Common.{◌≡◌, [], ℕ, List, IfSome, IfNone, refl, subst}
use Rattle.std.proofs.lemmas.Bool.{false≢true}
use Rattle.walker_record.specs.Stretches.{Stretch}
use Rattle.order_tree.specs.Pairs.{lower, EndsWith}
use Rattle.character_runs.proofs.RestedRuns.{none_greatest, has_greatest, greatest_last}
use Rattle.character_runs.proofs.runs.Runs.last_run.Goals as goal

abbrev low : ℕ
low = 18446744073709551614

pub record-requires : goal.record-requires
record-requires g c =
    let room = c.if-has_room.ensures.room in
    has_greatest low c.args.self.now.tree.pairs c.facts.ensures.below (λ r. false≢true (room.1 r))

pub returns-then-has_room-clause-some : goal.returns-then-has_room-clause-some
returns-then-has_room-clause-some g c =
    let ps = c.args.self.now.tree.pairs in
    let room = c.if-has_room.ensures.room in
    let all : lower ps 18446744073709551615 ≡ ps = none_greatest low ps c.facts.ensures.below (room.0 refl) in
    subst (λ (qs : List (ℕ × Stretch)). IfSome c.run_ahead.result (λ l. EndsWith qs l.label l.run)) all c.run_ahead.ensures.some

pub returns-then-has_room-clause-none : goal.returns-then-has_room-clause-none
returns-then-has_room-clause-none g c =
    let ps = c.args.self.now.tree.pairs in
    let room = c.if-has_room.ensures.room in
    let all : lower ps 18446744073709551615 ≡ ps = none_greatest low ps c.facts.ensures.below (room.0 refl) in
    subst (λ (qs : List (ℕ × Stretch)). IfNone c.run_ahead.result (qs ≡ [])) all c.run_ahead.ensures.none

pub returns-else-has_room-clause-some : goal.returns-else-has_room-clause-some
returns-else-has_room-clause-some g c =
    greatest_last low c.args.self.now.tree.pairs c.record.result c.facts.ensures.rising c.facts.ensures.below c.record.ensures
