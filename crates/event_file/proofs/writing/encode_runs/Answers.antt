use Rattle.std.proofs.Common.{◌≡◌, length, List, ℕ, Vec, ap, ◌∙◌, arith}
use Rattle.std.specs.Global.{Global}
use Rattle.std.proofs.lemmas.Result.{IfOk-weaker}
use Rattle.file_words.specs.File.{with_digest}
use Rattle.file_words.specs.FileRuns.{file2_of}
use Rattle.event_file.specs.RunWriting.{all_put}
use Rattle.event_file.proofs.RunWriting.{put_begun, put_whole}
use Rattle.event_file.proofs.writing.encode_runs.Goals as goal
use Rattle.ew_model.proofs.AgentLaws.{few_agents}

pub new-requires : goal.new-requires
new-requires c =
    let size = ap (λ (xs : List (List ℕ)). length xs) (c.as_slice.ensures ∙ c.in_ok-agents.ensures) in
    omega (arith, few_agents c.args.events.now, size, c.requires.few)

pub put_runs-requires-clause-none : goal.put_runs-requires-clause-none
put_runs-requires-clause-none c = put_begun c.args.events.now _ _ c.in_ok-writer.writer c.in_ok-writer.ensures (c.as_slice.ensures ∙ c.in_ok-agents.ensures) (omega (arith, c.requires.few))

pub returns : goal.returns
returns c =
    let events = c.args.events.now in
    let w = c.put_runs.new.writer in
    IfOk-weaker c.finish.result (λ (bytes : Vec ℕ Global). bytes.items ≡ with_digest (all_put w)) (λ (bytes : Vec ℕ Global). bytes.items ≡ file2_of events) (λ bytes e. e ∙ put_whole events w c.in_ok-put_runs.ensures) c.finish.ensures
