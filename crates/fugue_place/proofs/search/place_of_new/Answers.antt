use Rattle.std.proofs.Common.{sym}
use Rattle.fugue_place.specs.Lines.{line_of}
use Rattle.fugue_place.proofs.NeighbourLaws.{lower_line, none_lower, place_behind_lower, place_ahead_of_higher, place_beside}
use Rattle.fugue_place.proofs.PlaceLaws.{newest_childless}
use Rattle.fugue_place.proofs.search.place_of_new.Goals as goal

pub returns-then-is_newest : goal.returns-then-is_newest
returns-then-is_newest c =
    let xs = c.args.children.now.items in
    let newest = sym c.if-is_newest.ensures in
    rw c.beside.ensures
    (place_beside xs c.requires.attached c.args.parent c.args.side c.args.id c.requires.parent c.requires.unused
    (newest_childless xs c.requires.attached (lower_line c.args.parent c.args.side c.args.id) newest) (newest_childless xs c.requires.attached (line_of c.args.parent c.args.side) newest))

pub returns-in_default : goal.returns-in_default
returns-in_default c =
    let xs = c.args.children.now.items in
    rw c.beside-in_default.ensures
    (place_beside xs c.requires.attached c.args.parent c.args.side c.args.id c.requires.parent c.requires.unused (none_lower xs c.args.parent c.args.side c.args.id c.in_default.ensures) c.in_default.ensures)

pub returns-in-Some-outermost_child : goal.returns-in-Some-outermost_child
returns-in-Some-outermost_child c =
    place_behind_lower c.args.children.now.items c.requires.attached c.args.parent c.args.side c.args.id c.requires.parent c.requires.unused c.in-Some-outermost_child.k c.in-Some-outermost_child.ensures c.outermost_node-last.result
    c.outermost_node-last.ensures.there
    c.outermost_node-last.ensures.ends

pub returns : goal.returns
returns c =
    place_ahead_of_higher c.args.children.now.items c.requires.attached c.args.parent c.args.side c.args.id c.requires.parent c.requires.unused c.in_default-outermost_child.ensures c.in-Some.lowest c.in-Some.ensures c.outermost_node-first.result
    c.outermost_node-first.ensures.there
    c.outermost_node-first.ensures.ends
