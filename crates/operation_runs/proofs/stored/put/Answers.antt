use Rattle.std.proofs.Common.{◌+◌, ◌-◌, ◌≡◌, List, [], ◌∷◌, ◌++◌, length, take, set, sym, subst, arith}
use Rattle.operation_runs.specs.declared.stored.StoredRun.{StoredRun}
use Rattle.operation_runs.specs.Stored.{AreStored, AreGrown}
use Rattle.operation_runs.proofs.StoredLaws.{parted, last_set, last_stored, grown_behind, grown_into}
use Rattle.operation_runs.proofs.stored.put.Goals as goal

pub joined-requires-clause-first : goal.joined-requires-clause-first
joined-requires-clause-first c =
    let runs = c.args.runs.now.items in
    let n = c.len-count.result - 1 in
    let last = c.index.result.now in
    let long : length runs ≡ n + 1 = omega (arith, c.len-count.ensures, c.args.runs.now.ok.0, c.if-count-eq0.false) in
    last_stored (take n runs) last c.requires.runs.0 (subst (λ (rs : List StoredRun). AreStored rs c.requires.runs.0) (parted runs n last long c.index.ensures) c.requires.runs.1)

pub returns-in-Some : goal.returns-in-Some
returns-in-Some c = λ chars more stored fit.
    let runs = c.args.runs.now.items in
    let n = c.len-count.result - 1 in
    let last = c.index.result.now in
    let both = c.in-Some.both in
    let long : length runs ≡ n + 1 = omega (arith, c.len-count.ensures, c.args.runs.now.ok.0, c.if-count-eq0.false) in
    let is = parted runs n last long c.index.ensures in
    subst (λ (rs : List StoredRun). AreGrown rs chars c.args.one more (set runs n both)) (sym is)
    (subst (λ (rs : List StoredRun). AreGrown (take n runs ++ last ∷ []) chars c.args.one more rs) (sym (last_set runs n both long))
    (grown_into last c.args.one both more c.in-Some.ensures fit (take n runs) chars (subst (λ (rs : List StoredRun). AreStored rs chars) is stored)))

pub returns-in-None : goal.returns-in-None
returns-in-None c = λ chars more stored long.
    let runs = c.args.runs.now.items in
    subst (λ (rs : List StoredRun). AreGrown runs chars c.args.one more rs) (sym c.push_reserved-in-None.ensures.items) (grown_behind runs c.args.one chars more stored c.requires.stored long)
