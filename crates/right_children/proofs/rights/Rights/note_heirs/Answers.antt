use Rattle.std.proofs.Common.{refl}
use Rattle.right_children.specs.declared.rights.Rights.{Rights}
use Rattle.right_children.specs.Parents.{parent_at}
use Rattle.right_children.proofs.HeirNotes.{told_apart, begun_whole, heirs_whole}
use Rattle.right_children.proofs.rights.Rights.note_heirs.Goals as goal

pub returns-in_err-begin_each-clause-whole : goal.returns-in_err-begin_each-clause-whole
returns-in_err-begin_each-clause-whole c =
    let old : Rights = c.args.self.now in
    begun_whole old (record { parents = old.parents; rows = c.begin_each.new.self; counts = old.counts }) c.requires.whole c.begin_each.ensures.rows refl (λ n. refl)

pub returns-clause-whole : goal.returns-clause-whole
returns-clause-whole c =
    let old : Rights = c.args.self.now in
    heirs_whole old (record { parents = c.note_heirs.new.self; rows = c.begin_each.new.self; counts = old.counts }) c.args.newest c.args.count c.requires.whole c.begin_each.ensures.rows refl c.in_ok-begin_each.ensures.begun c.note_heirs.ensures.told

pub returns-clause-others : goal.returns-clause-others
returns-clause-others c = told_apart (parent_at c.args.self.now.parents) (parent_at c.note_heirs.new.self) c.args.newest c.args.count c.note_heirs.ensures.told
