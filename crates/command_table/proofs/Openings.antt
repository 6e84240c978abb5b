-- What a name is opened as.
use Rattle.std.proofs.Common.{◌≡◌, List}
use Rattle.ew_model.specs.declared.event.Event.{Event}
use Rattle.command_table.specs.Table.{opened}

-- what a name is opened as is one list
pub same_events : (xs ys : List Event) → opened xs ≡ opened ys → xs ≡ ys
same_events xs ys e = cc
