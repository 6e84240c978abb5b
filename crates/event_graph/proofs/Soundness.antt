-- An event that is judged good is sound where its id and operation are: its parents are held.
use Rattle.std.proofs.Common.{◌≡◌, true, List, sym, subst}
use Rattle.ew_model.specs.declared.event.Event.{Event}
use Rattle.ew_model.specs.Ancestors.{is_held}
use Rattle.ew_model.specs.Sound.{IsSoundId, IsSoundOp, IsSound, AreSound}
use Rattle.ew_model.specs.Verdicts.{graph_verdict}
use Rattle.ew_model.specs.Verdicts.Ruling.{Good}
use Rattle.ew_model.proofs.CoverLaws.{event_of}
use Rattle.ew_model.proofs.EntryLaws.{all_mapped}
use Rattle.ew_model.proofs.IdLaws.{is_same_id}
use Rattle.ew_model.proofs.SortingLaws.{all_at}
use Rattle.event_graph.proofs.Admitted.{let_in}

pub next_sound : (history : List Event) (e : Event) → AreSound history → graph_verdict history e ≡ Good → IsSoundId e.id → IsSoundOp e.op → IsSound e
next_sound history e sound good id op = record {
  id = id;
  parents = all_mapped (λ p. is_held history p ≡ true) IsSoundId e.parents
      (λ p held. let f = event_of history p held in subst IsSoundId (sym ((is_same_id p f.0.id).0 f.2)) (all_at IsSound history f.0 sound f.1).id)
      (let_in history e good).parents;
  op = op;
}
