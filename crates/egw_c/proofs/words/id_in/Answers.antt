use Rattle.std.proofs.Common.{[], ◌∷◌, arith}
use Rattle.egw_c.proofs.Places.{no_single}
use Rattle.egw_c.proofs.words.id_in.Goals as goal

pub returns-in-Ok-clause-refused : goal.returns-in-Ok-clause-refused
returns-in-Ok-clause-refused c = no_single c.args.words.now c.in-Ok.ids.items c.in-Ok.ensures.version (λ e. omega (arith, e, c.if-len-eq1.false, c.len.ensures))

pub returns-in-Err-Unreadable-clause-refused : goal.returns-in-Err-Unreadable-clause-refused
returns-in-Err-Unreadable-clause-refused c = λ x v. cc (c.in-Err-Unreadable.ensures.read (x ∷ []) v)
