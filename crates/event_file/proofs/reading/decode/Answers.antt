use Rattle.std.proofs.Common.{arith}
use Rattle.event_file.proofs.Found.{found_file, only_found}
use Rattle.event_file.proofs.reading.decode.Goals as goal

pub returns-clause-file : goal.returns-clause-file
returns-clause-file c = found_file c.args.max_events c.args.b.now c.find_events.result (λ i. omega (arith, c.type_inv.b i)) c.find_events.ensures

pub returns-clause-only : goal.returns-clause-only
returns-clause-only c = λ events is. only_found c.args.max_events c.args.b.now events c.find_events.result (λ i. omega (arith, c.type_inv.b i)) c.find_events.ensures is
