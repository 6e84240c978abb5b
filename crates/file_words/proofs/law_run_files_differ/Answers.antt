use Rattle.file_words.proofs.VersionReading.{run_files_differ}
use Rattle.file_words.proofs.law_run_files_differ.Goals as goal

pub returns : goal.returns
returns c = run_files_differ
