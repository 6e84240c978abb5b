use Rattle.std.proofs.Common.{◌≡◌, take}
use Rattle.history_definitions.specs.Listings.{id_lines}
use Rattle.history_view.proofs.listings.ids_text.Given as goal

abbrev pub invariant-loop-id : goal.invariant-loop-id
invariant-loop-id l = l.text.items ≡ id_lines (take l.id-index l.ids)
