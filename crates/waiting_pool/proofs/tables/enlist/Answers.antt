use Rattle.std.specs.BTreeMap.{get}
use Rattle.ew_model.specs.Ids.{id_cmp}
use Rattle.waiting_pool.proofs.TableChanges.{put_back}
use Rattle.waiting_pool.proofs.tables.enlist.Goals as goal

pub returns-then-is_err-clause-same_numbers : goal.returns-then-is_err-clause-same_numbers
returns-then-is_err-clause-same_numbers c =
    λ x. put_back c.args.id.now x c.args.place.now.number (get id_cmp c.args.numbers.now) (get id_cmp c.insert.new.self x) (get id_cmp c.remove.new.self x) c.requires.id
    (c.in_ok-insert.ensures.updates.0 x) (c.remove.ensures.updates.0 x)
