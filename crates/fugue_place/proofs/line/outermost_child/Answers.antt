use Rattle.std.proofs.Common.{sym}
use Rattle.std.proofs.lemmas.Option.{slice_get_within}
use Rattle.fugue_place.proofs.HeirLaws.{best_without, heir_alone, heir_further, other_further}
use Rattle.fugue_place.proofs.line.outermost_child.Goals as goal

pub returns-in_default : goal.returns-in_default
returns-in_default c =
    best_without c.args.children.now.items c.requires.attached c.args.line.now c.args.end c.in_default.ensures.none c.outermost_of_others-other.result (c.outermost_of_others-other.ensures c.args.children.now.items c.requires.indexed)

pub returns-in_default-other : goal.returns-in_default-other
returns-in_default-other c = heir_alone c.args.children.now.items c.requires.attached c.args.line.now c.args.end c.in-Some.heir c.in-Some.ensures.some (c.in_default-other.ensures c.args.children.now.items c.requires.indexed)

pub get-first-requires : goal.get-first-requires
get-first-requires c = let heir = c.in-Some.ensures.some in slice_get_within c.args.children.now.items c.in-Some.heir heir.child heir.here

pub get-second-requires : goal.get-second-requires
get-second-requires c = let other = c.in-Some-other.ensures c.args.children.now.items c.requires.indexed in slice_get_within c.args.children.now.items c.in-Some-other.place other.child other.here

pub returns-then-is_further : goal.returns-then-is_further
returns-then-is_further c =
    heir_further c.args.children.now.items c.requires.attached c.args.line.now c.args.end c.in-Some.heir c.in-Some.ensures.some c.in-Some-other.place (c.in-Some-other.ensures c.args.children.now.items c.requires.indexed) c.get-first.result
    c.get-second.result
    c.get-first.ensures
    c.get-second.ensures
    (sym c.if-is_further.ensures)

pub returns-else-is_further : goal.returns-else-is_further
returns-else-is_further c =
    other_further c.args.children.now.items c.requires.attached c.args.line.now c.args.end c.in-Some.heir c.in-Some.ensures.some c.in-Some-other.place (c.in-Some-other.ensures c.args.children.now.items c.requires.indexed) c.get-first.result
    c.get-second.result
    c.get-first.ensures
    c.get-second.ensures
    (sym c.if-is_further.ensures)
