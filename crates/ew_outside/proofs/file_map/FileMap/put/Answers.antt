use Rattle.ew_outside.proofs.NamedFiles.{files_of-insert}
use Rattle.ew_outside.proofs.file_map.FileMap.put.Goals as goal

pub returns-clause-ok : goal.returns-clause-ok
returns-clause-ok c = rw (← c.self.view_is) (files_of-insert c.self.inside.files c.insert.new.self c.in_ok-name.name c.in_ok-bytes.bytes _ _ c.in_ok-insert.ensures.updates c.in_ok-name.ensures.ok c.in_ok-bytes.ensures.items)
