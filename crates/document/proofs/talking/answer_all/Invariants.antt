use Rattle.std.proofs.Common.{◌≡◌, length}
use Rattle.document.specs.Talks.{Spoken}
use Rattle.document.proofs.talking.answer_all.Given as goal

abbrev pub invariant-frames : goal.invariant-frames
invariant-frames g l = record {
  spoken : Spoken l.fn.peer.limits l.fn.replica l.replica l.fn.peer.bytes l.peer.bytes l.out.items;
  limits : l.peer.limits ≡ l.fn.peer.limits;
}

abbrev pub decreases-frames : goal.decreases-frames
decreases-frames g l = length l.peer.bytes
