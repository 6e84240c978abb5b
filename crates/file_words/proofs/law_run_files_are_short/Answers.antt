use Rattle.file_words.proofs.RunSizes.{run_files_short}
use Rattle.file_words.proofs.law_run_files_are_short.Goals as goal

pub returns : goal.returns
returns c = run_files_short
