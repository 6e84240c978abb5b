use Rattle.std.proofs.Common.{◌∙◌, sym}
use Rattle.event_file.proofs.RunWriting.{put_behind}
use Rattle.event_file.proofs.run_writer.RunWriter.go_on.Goals as goal

pub returns-in_ok-make_longer-clause-put : goal.returns-in_ok-make_longer-clause-put
returns-in_ok-make_longer-clause-put c = λ takes history n x put at next.
    put_behind history n c.args.self.now c.make_longer.new.self x c.args.op.now put at next (sym c.takes-takes.ensures ∙ takes) c.in_ok-make_longer.ensures.ok
