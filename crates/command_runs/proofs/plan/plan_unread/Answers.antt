use Rattle.std.proofs.Common.{[], ◌∷◌, arith}
use Rattle.std.specs.FinMap.{get}
use Rattle.ew_model.specs.Limits.{most_file_bytes}
use Rattle.command_table.specs.Loads.{whole_of}
use Rattle.command_table.specs.Table.{create, make, merge, show, undo, upgrade, create_reply, make_reply, merge_reply, open_file, over_both, over_events, show_reply, undo_reply, upgrade_reply}
use Rattle.peer_definitions.specs.Making.{made}
use Rattle.command_reader.specs.Words.{listing_view}
use Rattle.command_runs.proofs.Lines.{all_of_shelf, asks_most, asks_none, loads_none, loads_one, made_file, may_plan, no_causes, no_front, none_all, none_failed_loads, none_made, one_all, one_front, plans_alone, plans_any}
use Rattle.command_runs.proofs.plan.plan_unread.Goals as goal

pub returns-in-New-clause-told : goal.returns-in-New-clause-told
returns-in-New-clause-told g c =
    let name = c.in-New.name.now in
    rw c.in-New.is (plans_alone (λ m. create_reply name (whole_of 0 (get m name))) (g.H.Shelf.seen c.args.shelf.now).files c.create.result c.create.ensures.told)

pub returns-in-Show-clause-told : goal.returns-in-Show-clause-told
returns-in-Show-clause-told g c =
    let name = c.in-Show.file.now in
    rw c.in-Show.is (plans_alone (λ m. over_events (show_reply (listing_view c.in-Show.listing)) (open_file name c.args.limits.now m)) (g.H.Shelf.seen c.args.shelf.now).files c.show.result c.show.ensures.told)

pub returns-in-Merge-clause-told : goal.returns-in-Merge-clause-told
returns-in-Merge-clause-told g c =
    let name = c.in-Merge.file.now in
    let other = c.in-Merge.other.now in
    rw c.in-Merge.is (plans_alone (λ m. over_both (merge_reply name c.args.limits.now) (open_file name c.args.limits.now m) (open_file other c.args.limits.now m)) (g.H.Shelf.seen c.args.shelf.now).files c.merge.result c.merge.ensures.told)

pub returns-in-Upgrade-clause-told : goal.returns-in-Upgrade-clause-told
returns-in-Upgrade-clause-told g c =
    let name = c.in-Upgrade.file.now in
    let limits = c.args.limits.now in
    rw c.in-Upgrade.is (plans_alone (λ m. upgrade_reply name limits (whole_of (most_file_bytes limits.events) (get m name))) (g.H.Shelf.seen c.args.shelf.now).files c.upgrade.result c.upgrade.ensures.told)

pub returns-in-New-clause-front : goal.returns-in-New-clause-front
returns-in-New-clause-front g c = rw c.in-New.is (one_front c.in-New.name.now _ _ c.create.ensures.loads)

pub returns-in-New-clause-loads : goal.returns-in-New-clause-loads
returns-in-New-clause-loads g c = rw c.in-New.is (loads_one c.in-New.name.now c.args.limits.now (g.H.Shelf.seen c.args.shelf.now).files _ _ c.create.result c.create.ensures.loads)

pub returns-in-Show-clause-front : goal.returns-in-Show-clause-front
returns-in-Show-clause-front g c = rw c.in-Show.is (one_front c.in-Show.file.now _ _ c.show.ensures.loads)

pub returns-in-Show-clause-loads : goal.returns-in-Show-clause-loads
returns-in-Show-clause-loads g c = rw c.in-Show.is (loads_one c.in-Show.file.now c.args.limits.now (g.H.Shelf.seen c.args.shelf.now).files _ _ c.show.result c.show.ensures.loads)

pub returns-in-Merge-clause-front : goal.returns-in-Merge-clause-front
returns-in-Merge-clause-front g c = rw c.in-Merge.is c.merge.ensures.front

pub returns-in-Merge-clause-loads : goal.returns-in-Merge-clause-loads
returns-in-Merge-clause-loads g c = rw c.in-Merge.is c.merge.ensures.loads

pub returns-in-New-clause-some : goal.returns-in-New-clause-some
returns-in-New-clause-some g c = rw c.in-New.is (may_plan (create c.in-New.name.now) c.args.limits.now c.create.result c.create.ensures.some)

pub returns-in-Show-clause-some : goal.returns-in-Show-clause-some
returns-in-Show-clause-some g c = rw c.in-Show.is (may_plan (show (listing_view c.in-Show.listing) c.in-Show.file.now) c.args.limits.now c.show.result c.show.ensures.some)

pub returns-in-Merge-clause-some : goal.returns-in-Merge-clause-some
returns-in-Merge-clause-some g c = rw c.in-Merge.is (may_plan (merge c.in-Merge.file.now c.in-Merge.other.now) c.args.limits.now c.merge.result c.merge.ensures.some)

pub returns-in-New-clause-most : goal.returns-in-New-clause-most
returns-in-New-clause-most g c = rw c.in-New.is (omega arith)

pub returns-in-Show-clause-most : goal.returns-in-Show-clause-most
returns-in-Show-clause-most g c = rw c.in-Show.is c.show.ensures.most

pub returns-in-Merge-clause-most : goal.returns-in-Merge-clause-most
returns-in-Merge-clause-most g c = rw c.in-Merge.is c.merge.ensures.most

pub returns-in-Upgrade-clause-front : goal.returns-in-Upgrade-clause-front
returns-in-Upgrade-clause-front g c = rw c.in-Upgrade.is (one_front c.in-Upgrade.file.now _ _ c.upgrade.ensures.loads)

pub returns-in-Upgrade-clause-loads : goal.returns-in-Upgrade-clause-loads
returns-in-Upgrade-clause-loads g c = rw c.in-Upgrade.is (loads_one c.in-Upgrade.file.now c.args.limits.now (g.H.Shelf.seen c.args.shelf.now).files _ _ c.upgrade.result c.upgrade.ensures.loads)

pub returns-in-Upgrade-clause-some : goal.returns-in-Upgrade-clause-some
returns-in-Upgrade-clause-some g c = rw c.in-Upgrade.is (may_plan (upgrade c.in-Upgrade.file.now) c.args.limits.now c.upgrade.result c.upgrade.ensures.some)

pub returns-in-Upgrade-clause-most : goal.returns-in-Upgrade-clause-most
returns-in-Upgrade-clause-most g c = rw c.in-Upgrade.is c.upgrade.ensures.most

pub returns-in-Upgrade-clause-all : goal.returns-in-Upgrade-clause-all
returns-in-Upgrade-clause-all g c = rw c.in-Upgrade.is (one_all c.in-Upgrade.file.now _ _ c.upgrade.result c.upgrade.ensures.loads)

pub returns-in-Upgrade-clause-makes : goal.returns-in-Upgrade-clause-makes
returns-in-Upgrade-clause-makes g c = rw c.in-Upgrade.is (none_made _ _ c.upgrade.result)

pub returns-in-Upgrade-clause-asked : goal.returns-in-Upgrade-clause-asked
returns-in-Upgrade-clause-asked g c = rw c.in-Upgrade.is (asks_most _ _ _ c.upgrade.ensures.asked)

pub returns-in-Make-clause-told : goal.returns-in-Make-clause-told
returns-in-Make-clause-told g c =
    let limits = c.args.limits.now in
    rw c.in-Make.is (plans_any (make_reply limits (made limits c.in-Make.seed c.in-Make.count)) (g.H.Shelf.seen c.args.shelf.now).files c.make_history.result c.make_history.ensures.told)

pub returns-in-Make-clause-some : goal.returns-in-Make-clause-some
returns-in-Make-clause-some g c = rw c.in-Make.is (may_plan (make c.in-Make.seed c.in-Make.count) c.args.limits.now c.make_history.result c.make_history.ensures.told)

pub returns-in-Make-clause-cause : goal.returns-in-Make-clause-cause
returns-in-Make-clause-cause g c = no_causes _ c.make_history.result c.make_history.ensures.starved

pub returns-in-Make-clause-failed_loads : goal.returns-in-Make-clause-failed_loads
returns-in-Make-clause-failed_loads g c = none_failed_loads _ c.make_history.result c.make_history.ensures.starved

pub returns-in-Make-clause-front : goal.returns-in-Make-clause-front
returns-in-Make-clause-front g c = rw c.in-Make.is (no_front _)

pub returns-in-Make-clause-loads : goal.returns-in-Make-clause-loads
returns-in-Make-clause-loads g c = rw c.in-Make.is (loads_none c.args.limits.now (g.H.Shelf.seen c.args.shelf.now).files _ c.make_history.result)

pub returns-in-Make-clause-most : goal.returns-in-Make-clause-most
returns-in-Make-clause-most g c = rw c.in-Make.is c.make_history.ensures.most

pub returns-in-New-clause-all : goal.returns-in-New-clause-all
returns-in-New-clause-all g c = rw c.in-New.is (one_all c.in-New.name.now _ _ c.create.result c.create.ensures.loads)

pub returns-in-Show-clause-all : goal.returns-in-Show-clause-all
returns-in-Show-clause-all g c = rw c.in-Show.is (one_all c.in-Show.file.now _ _ c.show.result c.show.ensures.loads)

pub returns-in-Merge-clause-all : goal.returns-in-Merge-clause-all
returns-in-Merge-clause-all g c = rw c.in-Merge.is (all_of_shelf (c.in-Merge.file.now ∷ c.in-Merge.other.now ∷ []) (g.H.Shelf.seen c.args.shelf.now).loads (g.H.Shelf.seen c.merge.new.shelf).loads _ _ c.merge.result c.merge.ensures.cause c.merge.ensures.all)

pub returns-in-Make-clause-all : goal.returns-in-Make-clause-all
returns-in-Make-clause-all g c = rw c.in-Make.is (none_all _ c.make_history.result)

pub returns-in-New-clause-makes : goal.returns-in-New-clause-makes
returns-in-New-clause-makes g c = rw c.in-New.is (made_file _ _ c.create.result c.create.ensures.there c.create.ensures.absent)

pub returns-in-Show-clause-makes : goal.returns-in-Show-clause-makes
returns-in-Show-clause-makes g c = rw c.in-Show.is (none_made _ _ c.show.result)

pub returns-in-Merge-clause-makes : goal.returns-in-Merge-clause-makes
returns-in-Merge-clause-makes g c = rw c.in-Merge.is (none_made _ _ c.merge.result)

pub returns-in-Make-clause-makes : goal.returns-in-Make-clause-makes
returns-in-Make-clause-makes g c = rw c.in-Make.is (none_made _ _ c.make_history.result)

pub returns-in-New-clause-asked : goal.returns-in-New-clause-asked
returns-in-New-clause-asked g c = rw c.in-New.is (asks_most _ _ _ c.create.ensures.asked)

pub returns-in-Show-clause-asked : goal.returns-in-Show-clause-asked
returns-in-Show-clause-asked g c = rw c.in-Show.is (asks_most _ _ _ c.show.ensures.asked)

pub returns-in-Merge-clause-asked : goal.returns-in-Merge-clause-asked
returns-in-Merge-clause-asked g c = rw c.in-Merge.is c.merge.ensures.asked

pub returns-in-Make-clause-asked : goal.returns-in-Make-clause-asked
returns-in-Make-clause-asked g c = rw c.in-Make.is (asks_none _ _)

pub returns-in-Undo-clause-told : goal.returns-in-Undo-clause-told
returns-in-Undo-clause-told g c =
    let name = c.in-Undo.file.now in
    let limits = c.args.limits.now in
    rw c.in-Undo.is (plans_alone (λ m. over_events (undo_reply name c.in-Undo.agent c.in-Undo.first c.in-Undo.count limits) (open_file name limits m)) (g.H.Shelf.seen c.args.shelf.now).files c.undo_events.result c.undo_events.ensures.told)

pub returns-in-Undo-clause-front : goal.returns-in-Undo-clause-front
returns-in-Undo-clause-front g c = rw c.in-Undo.is (one_front c.in-Undo.file.now _ _ c.undo_events.ensures.loads)

pub returns-in-Undo-clause-loads : goal.returns-in-Undo-clause-loads
returns-in-Undo-clause-loads g c = rw c.in-Undo.is (loads_one c.in-Undo.file.now c.args.limits.now (g.H.Shelf.seen c.args.shelf.now).files _ _ c.undo_events.result c.undo_events.ensures.loads)

pub returns-in-Undo-clause-some : goal.returns-in-Undo-clause-some
returns-in-Undo-clause-some g c = rw c.in-Undo.is (may_plan (undo c.in-Undo.file.now c.in-Undo.agent c.in-Undo.first c.in-Undo.count) c.args.limits.now c.undo_events.result c.undo_events.ensures.some)

pub returns-in-Undo-clause-most : goal.returns-in-Undo-clause-most
returns-in-Undo-clause-most g c = rw c.in-Undo.is c.undo_events.ensures.most

pub returns-in-Undo-clause-all : goal.returns-in-Undo-clause-all
returns-in-Undo-clause-all g c = rw c.in-Undo.is (one_all c.in-Undo.file.now _ _ c.undo_events.result c.undo_events.ensures.loads)

pub returns-in-Undo-clause-makes : goal.returns-in-Undo-clause-makes
returns-in-Undo-clause-makes g c = rw c.in-Undo.is (none_made _ _ c.undo_events.result)

pub returns-in-Undo-clause-asked : goal.returns-in-Undo-clause-asked
returns-in-Undo-clause-asked g c = rw c.in-Undo.is (asks_most _ _ _ c.undo_events.ensures.asked)
