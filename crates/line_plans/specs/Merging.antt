-- What a merge tells and stores.
use Rattle.std.specs.Prelude.{List}
use Rattle.ew_model.specs.declared.event.Event.{Event}
use Rattle.ew_model.specs.Limits.{LimitNumbers}
use Rattle.replica.specs.declared.took.Took.{Took}
use Rattle.command_table.specs.Table.{Text, Reply, received_reply, unless_refused}
use Rattle.command_texts.specs.Told.{took_text}

-- the reply of a merge, by what was told and what is held now
abbrev pub took_reply : Text → LimitNumbers → List Event → Took → Reply
took_reply name limits events took = unless_refused limits took.refused.items (received_reply name events took.accepted (took_text took))
