use Rattle.file_words.proofs.FileRuns.{runs_hold}
use Rattle.file_words.proofs.law_runs_hold_histories.Goals as goal

pub returns : goal.returns
returns c = runs_hold
