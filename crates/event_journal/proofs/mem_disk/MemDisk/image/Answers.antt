use Rattle.std.proofs.Common.{◌≡◌, ℕ, suc, ◌+◌, ◌<◌, ◌∙◌, [], ◌∷◌, ◌++◌, length, take, sym, ap, subst, arith}
use Rattle.std.proofs.Math.Seq.{take-suc}
use Rattle.event_journal.specs.MemDisk.{after, content, leaves, MayLeave}
use Rattle.event_journal.proofs.Replay.{content_pushed, image_pushed}
use Rattle.event_journal.proofs.mem_disk.MemDisk.image.Goals as goal

pub loop-call-preserved : goal.loop-call-preserved
loop-call-preserved c =
    let first = c.args.self.now.first in
    let made = take c.min.result c.deref-3.result.now in
    let before = take c.loop-call.call-index made in
    let call = c.call-item.result in
    let image = c.replay_torn.new.image.items in
    let inside : c.loop-call.call-index < length made = omega (arith, c.loop-call-test.true) in
    let up : c.loop-call.call-index + 1 ≡ suc c.loop-call.call-index = omega arith in
    let next : take (c.loop-call.call-index + 1) made ≡ before ++ call ∷ [] = ap (λ (k : ℕ). take k made) up ∙ take-suc made c.loop-call.call-index call inside ∙ ap (λ x. before ++ x ∷ []) (sym c.call-item.is) in
    let bytes : c.deref-in-loop-call.result.now ≡ content first before = c.deref-in-loop-call.ensures.value ∙ c.loop-call.invariant.bytes in
    let step = subst (λ b. leaves b (λ d. d ≡ c.loop-call.image.items) call image) bytes c.in_ok-replay_torn.ensures in
    record {
      bytes = c.in_ok-replay.ensures ∙ ap (λ b. after b call) c.loop-call.invariant.bytes ∙ sym (content_pushed first before call) ∙ sym (ap (λ l. content first l) next);
      image = subst (λ l. MayLeave first (λ b. b ≡ first) l image) (sym next) (image_pushed first (λ b. b ≡ first) before call c.loop-call.image.items image c.loop-call.invariant.image step);
    }
