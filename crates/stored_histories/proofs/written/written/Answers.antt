use Rattle.std.proofs.Common.{◌≡◌, ◌∙◌, List, ℕ, Vec, ap, length, arith}
use Rattle.std.specs.Global.{Global}
use Rattle.std.proofs.lemmas.Result.{IfOk-weaker}
use Rattle.ew_model.proofs.AgentLaws.{few_agents}
use Rattle.file_words.specs.File.{with_digest}
use Rattle.file_words.specs.FileRuns.{file2_of}
use Rattle.event_file.specs.RunWriting.{all_put}
use Rattle.event_file.proofs.RunWriting.{put_begun, put_whole}
use Rattle.stored_histories.proofs.written.written.Goals as goal

pub new-requires : goal.new-requires
new-requires c =
    let size = ap (λ (xs : List (List ℕ)). length xs) (c.as_slice.ensures ∙ c.in_ok-agents.ensures) in
    omega (arith, few_agents c.args.graph.now, size, c.requires.few)

pub put_events-requires-clause-none : goal.put_events-requires-clause-none
put_events-requires-clause-none c = put_begun c.args.graph.now _ _ c.in_ok-writer.writer c.in_ok-writer.ensures (c.as_slice.ensures ∙ c.in_ok-agents.ensures) c.count.ensures.count

pub returns : goal.returns
returns c =
    let history = c.args.graph.now in
    let w = c.put_events.new.writer in
    IfOk-weaker c.finish.result (λ (bytes : Vec ℕ Global). bytes.items ≡ with_digest (all_put w)) (λ (bytes : Vec ℕ Global). bytes.items ≡ file2_of history) (λ bytes e. e ∙ put_whole history w c.in_ok-put_events.ensures) c.finish.ensures
