use Rattle.std.proofs.Common.{false}
use Rattle.std.proofs.lemmas.Option.{slice_get_within}
use Rattle.fugue_place.proofs.KnownLaws.{without_heir, heir_right, beside_heir}
use Rattle.fugue_place.proofs.known.has_known_right.Goals as goal

pub returns-in_default-clause-none : goal.returns-in_default-clause-none
returns-in_default-clause-none g c = λ e.
    without_heir c.args.children.now.items c.args.node (λ v. goal.F-post g c.args.known v false) c.in_default.ensures.none (c.is_other_known.ensures.none e)

pub get-requires : goal.get-requires
get-requires g c = let heir = c.in-Some.ensures.some in slice_get_within c.args.children.now.items c.in-Some.place heir.child heir.here

-- `known` may be called on the heir
pub known-requires : goal.known-requires
known-requires g c =
    let own = heir_right c.args.children.now.items c.args.node c.in-Some.place c.in-Some.ensures.some c.get.result c.get.ensures in
    c.requires.known c.get.result own.0 own.1

pub returns-then-known-clause-one : goal.returns-then-known-clause-one
returns-then-known-clause-one g c = λ _.
    let own = heir_right c.args.children.now.items c.args.node c.in-Some.place c.in-Some.ensures.some c.get.result c.get.ensures in
    (c.get.result, own.0, own.1, c.if-known.ensures)

pub returns-clause-none : goal.returns-clause-none
returns-clause-none g c = λ e.
    beside_heir c.args.children.now.items c.args.node c.in-Some.place c.in-Some.ensures.some c.get.result c.get.ensures c.requires.attached (λ v. goal.F-post g c.args.known v false) c.if-known.ensures
    (c.is_other_known-2.ensures.none e)
