use Rattle.file_words.proofs.FileReading.{files_are_read}
use Rattle.file_words.proofs.law_files_are_read.Goals as goal

pub returns : goal.returns
returns c = files_are_read
