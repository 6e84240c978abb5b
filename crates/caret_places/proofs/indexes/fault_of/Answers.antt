use Rattle.std.proofs.Common.{true, false, sym, ap, ◌∙◌}
use Rattle.caret_places.specs.Faults.{fault_of}
use Rattle.caret_places.proofs.Standing.{id_found, found_fault, missing_fault}
use Rattle.caret_places.proofs.indexes.fault_of.Goals as goal

pub returns-then-inserts : goal.returns-then-inserts
returns-then-inserts c =
    let history = c.args.graph.now in
    let x = c.in-Behind.id in
    let p = c.in-Some.position in
    let found = sym c.in-Some.ensures.value in
    sym (ap (fault_of history) c.in-Behind.is ∙ found_fault history x p true found (sym c.if-inserts.true ∙ c.inserts.ensures x (id_found history x p found)))

pub returns-else-inserts : goal.returns-else-inserts
returns-else-inserts c =
    let history = c.args.graph.now in
    let x = c.in-Behind.id in
    let p = c.in-Some.position in
    let found = sym c.in-Some.ensures.value in
    sym (ap (fault_of history) c.in-Behind.is ∙ found_fault history x p false found (sym c.if-inserts.false ∙ c.inserts.ensures x (id_found history x p found)))

pub returns-in-None : goal.returns-in-None
returns-in-None c = sym (ap (fault_of c.args.graph.now) c.in-Behind.is ∙ missing_fault c.args.graph.now c.in-Behind.id (sym c.in-None.ensures.value))
