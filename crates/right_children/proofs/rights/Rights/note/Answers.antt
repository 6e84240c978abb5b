use Rattle.std.proofs.Common.{Some, None, subst}
use Rattle.std.proofs.lemmas.Option.{none-some, same_Some}
use Rattle.right_children.specs.Rights.{HasCount}
use Rattle.right_children.proofs.RightKeeping.{noted_whole, same_whole}
use Rattle.right_children.proofs.rights.Rights.note.Goals as goal

pub returns-in-Left-clause-whole : goal.returns-in-Left-clause-whole
returns-in-Left-clause-whole c =
    noted_whole c.args.self.now c.note.new.self c.requires c.args.position None (λ p e. absurd (none-some p e)) c.note.result c.note.ensures.ok c.note.ensures.err

pub returns-in_ok-begin-in-Right-clause-whole : goal.returns-in_ok-begin-in-Right-clause-whole
returns-in_ok-begin-in-Right-clause-whole c =
    let h = c.in_ok-begin-in-Right.ensures in
    let parent = c.args.parent in
    noted_whole c.begin.new.self c.note-in-Right.new.self (same_whole c.args.self.now c.begin.new.self c.requires h.parents h.kept) c.args.position (Some parent)
    (λ p e. subst (HasCount c.begin.new.self) (same_Some parent p e) h.begun) c.note-in-Right.result c.note-in-Right.ensures.ok c.note-in-Right.ensures.err
