use Rattle.file_words.proofs.VersionReading.{both_versions_read}
use Rattle.file_words.proofs.law_both_versions_are_read.Goals as goal

pub returns : goal.returns
returns c = both_versions_read
