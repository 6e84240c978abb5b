use Rattle.std.proofs.Common.{◌∙◌, ◌≤◌, ℕ, List, length, get_or, sym, ap, arith}
use Rattle.std.proofs.lemmas.Option.{get_or_from_slice_get}
use Rattle.replica.proofs.LengthLaws.{length_found, length_of_none, length-prefix_lengths}
use Rattle.replica.proofs.lengths.length_below.Goals as goal

pub get-requires : goal.get-requires
get-requires c =
    let sub = c.in-Some.ensures in
    omega (arith, sub.0, sub.1, c.requires)

pub returns-in-Some : goal.returns-in-Some
returns-in-Some c history are =
    let sub = c.in-Some.ensures in
    let within : c.args.count ≤ length history = omega (arith, ap length are, length-prefix_lengths history, c.requires) in
    sym (get_or_from_slice_get c.args.lengths.now c.in-Some.last c.get.result 0 c.get.ensures) ∙ ap (λ (ls : List ℕ). get_or ls c.in-Some.last 0) are ∙ length_found history c.args.count c.in-Some.last 0 sub.0 sub.1 within

pub returns-in-None : goal.returns-in-None
returns-in-None c history are = length_of_none history c.args.count c.in-None.ensures
