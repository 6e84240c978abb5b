use Rattle.std.proofs.Common.{◌≡◌, [], refl, ap, ◌∙◌}
use Rattle.ew_model.specs.Texts.{text_of}
use Rattle.replica.specs.Lengths.{prefix_lengths}
use Rattle.replica.proofs.Beginnings.{none_waits, loaded, same_kept}
use Rattle.replica.proofs.KeptWalks.{none_kept}
use Rattle.replica.proofs.state.Replica.of_good.Goals as goal

pub invariant_of-result : goal.invariant_of-result
invariant_of-result c =
    let pool : c.in_ok-pool.pool ≡ none_waits c.args.limits = c.in_ok-pool.ensures ∙ ap (λ n. record { limit = n; seen = 0; waiters = [] }) c.waiting.ensures.value in (
      same_kept c.args.limits c.args.graph c.args.graph (none_waits c.args.limits) c.in_ok-pool.pool (text_of c.args.graph) c.args.text.characters (prefix_lengths c.args.graph) c.args.lengths
          refl pool c.requires.text c.requires.lengths (loaded c.args.limits c.args.graph c.requires.good c.requires.few),
      c.requires.told,
      tt,
      none_kept c.args.graph c.none.result c.none.ensures.latest c.none.ensures.other,
    )
