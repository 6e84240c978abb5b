use Rattle.command_runs.proofs.top.run_line.Goals as goal

pub returns-in_default-clause-run : goal.returns-in_default-clause-run
returns-in_default-clause-run g c = c.run_plain.ensures.run (g.D.Disk.seen c.args.disk.now)
