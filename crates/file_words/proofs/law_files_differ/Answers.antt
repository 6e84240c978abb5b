use Rattle.file_words.proofs.FileReading.{files_differ}
use Rattle.file_words.proofs.law_files_differ.Goals as goal

pub returns : goal.returns
returns c = files_differ
