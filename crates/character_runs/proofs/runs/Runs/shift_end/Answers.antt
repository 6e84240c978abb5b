use Rattle.std.proofs.Common.{Option, Some, ap, ◌∙◌, sym}
use Rattle.character_runs.specs.declared.cursor.Struck.{Struck}
use Rattle.character_runs.specs.Cursors.{with_end, settled}
use Rattle.character_runs.proofs.Places.{laid_same}
use Rattle.character_runs.proofs.Settled.{settled_rising}
use Rattle.character_runs.proofs.StruckEnds.{left_chars, left_gave, left_labelled, shifted_root, shifted_bare}
use Rattle.character_runs.proofs.runs.Runs.shift_end.Goals as goal
use Rattle.ew_model.proofs.Outcomes.{on_err}

pub shift-requires-clause-bare : goal.shift-requires-clause-bare
shift-requires-clause-bare c =
    shifted_bare (settled c.args.self.now.tree.pairs (Some c.args.cursor.now)) c.args.self.now.labels c.args.cursor.now _ c.last_node-node.result c.requires.laid (settled_rising c.args.self.now.tree.pairs (Some c.args.cursor.now) c.facts.ensures.rising) c.requires.at (c.requires.behind ∙ ap (λ (x : Struck). Some x) (sym c.struck.view_is)) c.requires.long c.last_node-node.ensures

pub shift-requires-clause-some : goal.shift-requires-clause-some
shift-requires-clause-some c =
    shifted_root (settled c.args.self.now.tree.pairs (Some c.args.cursor.now)) c.args.self.now.labels c.args.cursor.now _ c.last_node-node.result c.requires.laid (settled_rising c.args.self.now.tree.pairs (Some c.args.cursor.now) c.facts.ensures.rising) c.requires.at (c.requires.behind ∙ ap (λ (x : Struck). Some x) (sym c.struck.view_is)) c.requires.long c.last_node-node.ensures

pub returns-in_err-shift-clause-err : goal.returns-in_err-shift-clause-err
returns-in_err-shift-clause-err c =
    on_err c.from_residual.result _ (laid_same (settled c.args.self.now.tree.pairs (Some c.args.cursor.now)) c.args.self.now.labels c.shift.new.self c.in_err-shift.ensures.err c.requires.laid)

pub returns-clause-laid : goal.returns-clause-laid
returns-clause-laid c =
    left_labelled (settled c.args.self.now.tree.pairs (Some c.args.cursor.now)) c.args.self.now.labels c.args.cursor.now _ c.last_node-node.result c.requires.laid (settled_rising c.args.self.now.tree.pairs (Some c.args.cursor.now) c.facts.ensures.rising) c.requires.at (c.requires.behind ∙ ap (λ (x : Struck). Some x) (sym c.struck.view_is)) c.requires.long c.last_node-node.ensures
    c.args.self.now.tree.pairs (ap (λ (o : Option Struck). with_end c.args.self.now.tree.pairs c.args.cursor.now.label c.args.cursor.now.run o) (c.requires.behind ∙ ap (λ (x : Struck). Some x) (sym c.struck.view_is))) c.shift.new.self c.in_ok-shift.ensures.ok

pub returns-clause-chars : goal.returns-clause-chars
returns-clause-chars c =
    left_chars (settled c.args.self.now.tree.pairs (Some c.args.cursor.now)) c.args.self.now.labels c.args.cursor.now _ c.last_node-node.result c.requires.laid (settled_rising c.args.self.now.tree.pairs (Some c.args.cursor.now) c.facts.ensures.rising) c.requires.at (c.requires.behind ∙ ap (λ (x : Struck). Some x) (sym c.struck.view_is)) c.requires.long c.last_node-node.ensures
    c.args.self.now.tree.pairs (ap (λ (o : Option Struck). with_end c.args.self.now.tree.pairs c.args.cursor.now.label c.args.cursor.now.run o) (c.requires.behind ∙ ap (λ (x : Struck). Some x) (sym c.struck.view_is)))

pub returns-clause-gave : goal.returns-clause-gave
returns-clause-gave c =
    left_gave (settled c.args.self.now.tree.pairs (Some c.args.cursor.now)) c.args.self.now.labels c.args.cursor.now _ c.last_node-node.result c.requires.laid (settled_rising c.args.self.now.tree.pairs (Some c.args.cursor.now) c.facts.ensures.rising) c.requires.at (c.requires.behind ∙ ap (λ (x : Struck). Some x) (sym c.struck.view_is)) c.requires.long c.last_node-node.ensures
    c.args.self.now.tree.pairs (ap (λ (o : Option Struck). with_end c.args.self.now.tree.pairs c.args.cursor.now.label c.args.cursor.now.run o) (c.requires.behind ∙ ap (λ (x : Struck). Some x) (sym c.struck.view_is)))
