use Rattle.std.proofs.lemmas.Str.{IsUtf8-string_bytes}
use Rattle.peer_definitions.proofs.Texts.{pushed}
use Rattle.peer_definitions.proofs.text.Text.push.Goals as goal

pub returns-clause-ok : goal.returns-clause-ok
returns-clause-ok c =
    pushed c.push.result _ _ _ c.args.ch (IsUtf8-string_bytes c.self.inside.utf8) c.ranges.ch.0 c.self.view_is c.push.ensures.bytes
