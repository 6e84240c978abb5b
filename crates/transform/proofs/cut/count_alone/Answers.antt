use Rattle.std.proofs.Common.{◌≡◌, ◌+◌, ◌-◌, ◌<◌, length, sym, arith}
use Rattle.ew_model.specs.Cuts.{latest_cut}
use Rattle.ew_model.proofs.CutLaws.{latest_at_most}
use Rattle.transform.proofs.RunCuts.{alone_all, alone_to, latest_behind, none_behind}
use Rattle.transform.proofs.cut.count_alone.Goals as goal

pub overflow_sub-result : goal.overflow_sub-result
overflow_sub-result c =
    let now = c.args.graph.now in let last = c.args.position + c.args.count - 1 in
    omega (arith, c.latest_cut-cut.ensures, latest_behind now c.count-count.ensures.admitted c.args.position last c.requires.chain (omega (arith, c.requires.within, c.requires.some)) c.requires.critical)

pub returns-then-cut-last-clause-alone : goal.returns-then-cut-last-clause-alone
returns-then-cut-last-clause-alone c =
    let now = c.args.graph.now in let last = c.args.position + c.args.count - 1 in
    alone_to now c.count-count.ensures.admitted c.args.position last c.requires.chain (omega (arith, c.requires.within, c.requires.some)) c.latest_cut-cut.result (sym c.latest_cut-cut.ensures)

pub returns-then-cut-last-clause-none : goal.returns-then-cut-last-clause-none
returns-then-cut-last-clause-none c = λ none.
    let now = c.args.graph.now in let last = c.args.position + c.args.count - 1 in
    let within : last < length now = omega (arith, c.requires.within, c.requires.some) in
    let low = latest_behind now c.count-count.ensures.admitted c.args.position last c.requires.chain within c.requires.critical in
    none_behind now c.count-count.ensures.admitted c.args.position last c.requires.chain within c.args.count (omega (arith, c.requires.some)) (omega (arith, low, none, c.latest_cut-cut.ensures))

pub returns-then-stands_alone-clause-alone : goal.returns-then-stands_alone-clause-alone
returns-then-stands_alone-clause-alone c =
    let now = c.args.graph.now in let last = c.args.position + c.args.count - 1 in
    let alone = c.stands_alone.ensures.0 c.if-stands_alone.true in
    let latest : latest_cut now last ≡ last = omega (arith, c.latest_cut-cut.ensures, c.if-cut-last.false, latest_at_most now last) in
    alone_all now c.count-count.ensures.admitted c.args.position last c.requires.chain (omega (arith, c.requires.within, c.requires.some)) c.args.count (omega (arith, c.requires.some)) latest alone.0 alone.1

pub returns-else-stands_alone-clause-alone : goal.returns-else-stands_alone-clause-alone
returns-else-stands_alone-clause-alone c =
    let now = c.args.graph.now in let last = c.args.position + c.args.count - 1 in
    let latest : latest_cut now last ≡ last = omega (arith, c.latest_cut-cut.ensures, c.if-cut-last.false, latest_at_most now last) in
    alone_to now c.count-count.ensures.admitted c.args.position last c.requires.chain (omega (arith, c.requires.within, c.requires.some)) last latest

pub returns-else-stands_alone-clause-none : goal.returns-else-stands_alone-clause-none
returns-else-stands_alone-clause-none c = λ none.
    let now = c.args.graph.now in let last = c.args.position + c.args.count - 1 in
    let latest : latest_cut now last ≡ c.args.position = omega (arith, c.latest_cut-cut.ensures, c.if-cut-last.false, latest_at_most now last, none, c.requires.some) in
    none_behind now c.count-count.ensures.admitted c.args.position last c.requires.chain (omega (arith, c.requires.within, c.requires.some)) c.args.count (omega (arith, c.requires.some)) latest
