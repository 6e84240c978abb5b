use Rattle.std.proofs.Common.{◌-◌, length, drop, take, ap, subst, ◌∙◌, arith}
use Rattle.std.proofs.lemmas.List.{take_all, length-drop}
use Rattle.std.proofs.lemmas.Result.{err_from_is_err_and}
use Rattle.file_words.specs.FileFaults.{finding_of}
use Rattle.file_words.specs.FileVersions.{read_of_version}
use Rattle.event_file.specs.Progress.{Known}
use Rattle.event_file.specs.Reading.{Stops}
use Rattle.event_file.specs.Versions.{records_of}
use Rattle.event_file.proofs.Versions.{stops_start, start_found}
use Rattle.event_file.proofs.reader.open_records.Goals as goal

pub returns-in_err-agents-clause-found : goal.returns-in_err-agents-clause-found
returns-in_err-agents-clause-found c =
    let len = length c.args.content.now in
    let all = drop 8 c.args.content.now in
    let short = length-drop 8 c.args.content.now in
    let stop = c.in_err-agents.field-0.0 in
    let p = err_from_is_err_and c.from_residual.result c.from_residual.ensures.1 in
    rw (p.1, p.2) (subst (Stops stop) (ap (read_of_version c.args.version c.args.max_events) (take_all (len - 8) all (omega (arith, short)))) (stops_start stop c.args.version c.args.max_events (take (len - 8) all) c.in_err-agents.ensures.exact))

pub returns-clause-found : goal.returns-clause-found
returns-clause-found c =
    let len = length c.args.content.now in
    let all = drop 8 c.args.content.now in
    let short = length-drop 8 c.args.content.now in
    let agents = c.in_ok-agents.agents.items in
    let left = c.in_ok-agents.left in
    let bytes = c.read_start.new.input.left.now in
    c.begin.ensures.found
    ∙ ap (λ (k : Known). finding_of len (records_of c.args.version k.agents left bytes)) c.in_ok-progress.ensures
    ∙ start_found c.args.version c.args.max_events len left (take (len - 8) all) bytes agents c.in_ok-agents.ensures.exact
    ∙ ap (λ b. finding_of len (read_of_version c.args.version c.args.max_events b)) (take_all (len - 8) all (omega (arith, short)))
