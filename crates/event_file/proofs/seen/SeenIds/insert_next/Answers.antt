use Rattle.std.proofs.Common.{◌≡◌, ◌+◌, refl, subst, arith}
use Rattle.std.specs.Prelude.{get_or}
use Rattle.std.specs.BTreeMap.{get}
use Rattle.ew_model.specs.Ids.{id_cmp}
use Rattle.event_file.proofs.SeenCounts.{added_next, next_unseen, none_further}
use Rattle.event_file.proofs.seen.SeenIds.insert_next.Goals as goal

pub returns-clause-added : goal.returns-clause-added
returns-clause-added c _ agents name distinct at x =
    let counts = c.args.self.now.counts.items in
    let here = subst (λ n. n ≡ get_or counts c.args.place n) c.if-index-seq.false c.index.ensures in
    added_next agents counts (get id_cmp c.args.self.now.further) c.args.place (record { agent = name; seq = c.args.seq }) 0 c.args.seq (c.args.seq + 1) distinct at c.requires here refl (omega arith) x

pub returns-clause-unseen : goal.returns-clause-unseen
returns-clause-unseen c _ agents name distinct at =
    let counts = c.args.self.now.counts.items in
    let further = c.args.self.now.further in
    let here = subst (λ n. n ≡ get_or counts c.args.place n) c.if-index-seq.false c.index.ensures in
    next_unseen agents counts (get id_cmp further) c.args.place (record { agent = name; seq = c.args.seq }) distinct at c.requires here (λ y. none_further further y (c.if-not-is_empty.ensures.0 refl))
