use Rattle.std.proofs.Common.{encode_utf8_all}
use Rattle.ew_model.specs.Texts.{text_at}
use Rattle.ew_model.specs.Verdicts.{first_unknown}
use Rattle.command_runs.proofs.Listings.{found_shows}
use Rattle.command_runs.proofs.commands.past_text.Goals as goal

pub returns-clause-shown : goal.returns-clause-shown
returns-clause-shown g c =
    found_shows (first_unknown c.args.replica.now.held c.args.version.now) (encode_utf8_all (text_at c.args.replica.now.held c.args.version.now)) c.text_at.result c.text_at.ensures.text c.text_at.ensures.unknown
