use Rattle.std.proofs.Common.{◌≡◌, ◌∙◌, sym, subst, arith}
use Rattle.ew_model.specs.Limits.{LimitNumbers}
use Rattle.file_words.specs.FileVersions.{file_found}
use Rattle.stored_histories.specs.Giving.{HoldsFile}
use Rattle.replica.specs.declared.fault.LoadFault.TheVariants.{OutOfMemory}
use Rattle.document.specs.Documents.{Opens}
use Rattle.document.proofs.Opened.{either, opened, refused}
use Rattle.document.proofs.state.Document.open.Goals as goal

pub returns-in-Err-clause-refused : goal.returns-in-Err-clause-refused
returns-in-Err-clause-refused c =
    refused c.args.file.now c.in_ok-given.given c.in-Err.fault (λ i. omega (arith, c.type_inv.file i))
    (subst (λ (l : LimitNumbers). HoldsFile (file_found l.events c.args.file.now) c.in_ok-given.given) c.program.ensures c.in_ok-given.ensures.given) c.in-Err.ensures

pub returns-in-Err-make_text-clause-refused : goal.returns-in-Err-make_text-clause-refused
returns-in-Err-make_text-clause-refused c =
    refused c.args.file.now c.in_ok-given.given OutOfMemory (λ i. omega (arith, c.type_inv.file i))
    (subst (λ (l : LimitNumbers). HoldsFile (file_found l.events c.args.file.now) c.in_ok-given.given) c.program.ensures c.in_ok-given.ensures.given) (λ events w. tt)

pub returns-clause-opens : goal.returns-clause-opens
returns-clause-opens c =
    let same = either (c.make_text.new.self ≡ c.in-Ok.replica) c.make_text.result c.make_text.ensures.ok c.make_text.ensures.err in
    subst (Opens c.args.file.now) (sym same)
    (opened c.args.file.now c.in_ok-given.given c.in-Ok.replica (λ i. omega (arith, c.type_inv.file i))
    (subst (λ (l : LimitNumbers). HoldsFile (file_found l.events c.args.file.now) c.in_ok-given.given) c.program.ensures c.in_ok-given.ensures.given)
    (c.in_ok-given.ensures.limits ∙ c.program.ensures) c.in-Ok.ensures)
