use Rattle.file_words.proofs.LongestRuns.{runs_longest}
use Rattle.file_words.proofs.law_runs_are_longest.Goals as goal

pub returns : goal.returns
returns c = runs_longest
