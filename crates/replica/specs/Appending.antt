-- What a replica may append to its events.
use Rattle.std.specs.Prelude.{◌≡◌, true, List, ◌∷◌, ◌++◌, length}
use Rattle.ew_model.specs.declared.event.Op.{Op}
use Rattle.ew_model.specs.declared.event.Event.{Event}
use Rattle.ew_model.specs.declared.text_op.TextOp.{TextOp}
use Rattle.ew_model.specs.Cuts.{is_critical}
use Rattle.ew_model.specs.Limits.{LimitNumbers}
use Rattle.ew_model.specs.Operations.{changed_by_all}
use Rattle.ew_model.specs.Texts.{text_of}
use Rattle.ew_model.specs.TextLaws.{AllFit}
use Rattle.ew_model.specs.Kept.{IsKept}
use Rattle.event_graph.specs.GoingOn.{chain_behind}
use Rattle.event_graph.specs.Keeping.{AreAdmittedAfter}
use Rattle.rope.specs.Lengths.{AllStayShort}
use Rattle.replica.specs.Lengths.{lengths_after, lengths_through}

-- an event, and behind it those with these operations in a chain
abbrev pub chain_from : Event → List Op → List Event
chain_from e ops = e ∷ chain_behind e.id ops

-- the events made may be held behind the others while these wait, they know all the others, and the changes make their text, of
-- the same length after each
pub record CanAppend (limits : LimitNumbers) (held waiting made : List Event) (changes : List TextOp) : Type 0 where
  pub kept : IsKept limits (held ++ made) waiting
  pub admitted : AreAdmittedAfter held made
  pub cut : is_critical (held ++ made) (length held) ≡ true
  pub fit : AllFit (text_of held) changes
  pub short : AllStayShort (text_of held) changes
  pub lengths : lengths_through (text_of held) changes ≡ lengths_after held made
  pub text : changed_by_all changes (text_of held) ≡ text_of (held ++ made)
