use Rattle.std.proofs.Common.{[], ◌∷◌, codes, if◌then◌else◌, sym, ap, ◌∙◌}
use Rattle.peer_definitions.specs.Machine.{Network, all_agree, printed_line}
use Rattle.peer_definitions.specs.Machine.StepOutcome.{Stepped}
use Rattle.net_core.proofs.Steps.{agree_is}
use Rattle.net_core.proofs.net.Net.agree.Goals as goal

pub returns : goal.returns
returns c =
    let now = c.args.self.now in
    let peers = c.deref.ensures.value ∙ ap (λ (n : Network). n.peers) c.self.view_is in
    let agree = c.all_agree.ensures ∙ ap all_agree peers in
    let line = c.in_ok-agree_line.ensures ∙ ap (λ b. printed_line (codes "agree" ∷ (if b then codes "yes" else codes "no") ∷ [])) agree in
    agree_is now ∙ ap (Stepped now) (sym line)
