-- What the program's verdicts and refusals stand for.
use Rattle.ew_model.specs.declared.verdict.Verdict.{Verdict}
use Rattle.ew_model.specs.declared.verdict.Verdict.TheVariants as v
use Rattle.ew_model.specs.declared.verdict.Refusal.{Refusal}
use Rattle.ew_model.specs.declared.verdict.Refusal.TheVariants as r
use Rattle.ew_model.specs.Verdicts.{Ruling}
use Rattle.ew_model.specs.Verdicts.Ruling.{Repeat, Clash, SelfParent, TooManyParents, ParentsUnsorted, Unknown, PoolFull, NotReduced, Skipped, GraphFull, OutOfRange, Good}

-- the ruling that a verdict is
abbrev pub ruling_of : Verdict → Ruling
ruling_of v.Repeat = Repeat
ruling_of v.Clash = Clash
ruling_of v.SelfParent = SelfParent
ruling_of v.TooManyParents = TooManyParents
ruling_of v.ParentsUnsorted = ParentsUnsorted
ruling_of (v.Unknown parent) = Unknown parent
ruling_of v.NotReduced = NotReduced
ruling_of v.Skipped = Skipped
ruling_of (v.OutOfRange len) = OutOfRange len
ruling_of v.Good = Good

-- the ruling that a refusal is
abbrev pub refusal_ruling : Refusal → Ruling
refusal_ruling r.Clash = Clash
refusal_ruling r.SelfParent = SelfParent
refusal_ruling r.TooManyParents = TooManyParents
refusal_ruling r.ParentsUnsorted = ParentsUnsorted
refusal_ruling r.PoolFull = PoolFull
refusal_ruling r.NotReduced = NotReduced
refusal_ruling r.Skipped = Skipped
refusal_ruling r.GraphFull = GraphFull
refusal_ruling (r.OutOfRange len) = OutOfRange len
