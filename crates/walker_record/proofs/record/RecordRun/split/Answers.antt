use Rattle.std.proofs.Common.{◌<◌, arith}
use Rattle.walker_record.specs.StretchLaws.{length-chars_of, first_chars, second_chars}
use Rattle.walker_record.proofs.record.RecordRun.split.Goals as goal

-- the run is cut inside
pub split-requires-clause-rest : goal.split-requires-clause-rest
split-requires-clause-rest c = omega (arith, length-chars_of c.args.self.now, c.requires.rest)

pub returns-clause-first : goal.returns-clause-first
returns-clause-first c =
    let within : c.args.at < c.args.self.now.len = omega (arith, length-chars_of c.args.self.now, c.requires.rest) in
    rw c.split.ensures.first (first_chars c.args.self.now c.args.at within)

pub returns-clause-second : goal.returns-clause-second
returns-clause-second c =
    let within : c.args.at < c.args.self.now.len = omega (arith, length-chars_of c.args.self.now, c.requires.rest) in
    rw c.split.ensures.second (second_chars c.args.self.now c.args.at within)
