use Rattle.std.proofs.Common.{◌≡◌, ◌+◌, ◌<◌, ◌++◌, ◌^◌, length, vec_capacity, ℕ, List, [], ◌∷◌, slice_index_or, arith, sym, ap, ◌∙◌, subst}
use Rattle.order_tree.specs.Parts.{one_pair, last_known}
use Rattle.order_tree.specs.Relabels.{relabelled, renamed, reached}
use Rattle.order_tree.proofs.PartLists.{entries_are}
use Rattle.order_tree.proofs.RelabelLaws.{onward, part_small, part_room, onward_pairs, onward_given, onward_last, onward_known, whole_back}
use Rattle.order_tree.proofs.relabel.relabel_entries.Goals as goal

pub overflow_add-label : goal.overflow_add-label
overflow_add-label g c =
    let old = c.deref_mut-entry-items.result.now in
    let same : old ≡ c.args.entries.now.items = c.deref_mut-entry-items.ensures.value in
    let small = subst (λ (ps : List (ℕ × _)). reached c.args.step c.args.before ps < 2 ^ 64) (sym same ∙ sym (entries_are old)) c.requires.small in
    let less : c.loop-entry.reached.last + c.args.step < 2 ^ 64 = part_small one_pair g.R.Run.known c.args.step c.args.before old c.loop-entry.entry-items c.args.given.now.items c.loop-entry.given.items c.loop-entry.reached c.loop-entry.entry-index c.entry-item.result c.loop-entry-test.true c.entry-item.is c.loop-entry.invariant.0 (2 ^ 64) small in
    omega arith

pub push_reserved-requires : goal.push_reserved-requires
push_reserved-requires g c =
    let old = c.deref_mut-entry-items.result.now in
    let same : old ≡ c.args.entries.now.items = c.deref_mut-entry-items.ensures.value in
    let room = part_room one_pair g.R.Run.known c.args.step c.args.before old c.loop-entry.entry-items c.args.given.now.items c.loop-entry.given.items c.loop-entry.reached c.loop-entry.entry-index c.entry-item.result c.loop-entry-test.true c.entry-item.is c.loop-entry.invariant.0 (vec_capacity c.args.given.now)
    (omega (arith, c.requires.room, ap length (entries_are old), ap length same)) in
    omega (arith, room, c.loop-entry.invariant.1, c.loop-entry.given.ok.0)

pub loop-entry-preserved : goal.loop-entry-preserved
loop-entry-preserved g c =
    let old = c.deref_mut-entry-items.result.now in
    let step = c.args.step in
    let label = c.loop-entry.reached.last + step in
    let notes : c.push_reserved.new.self.items ≡ c.loop-entry.given.items ++ ((c.entry-item.result.0, (label, c.entry-item.result.1)) ∷ []) =
    c.push_reserved.ensures.items ∙ ap (λ (p : ℕ × _). c.loop-entry.given.items ++ ((p.0, (label, p.1)) ∷ [])) (sym c.entry-item.is) in
    let more = onward one_pair g.R.Run.known step c.args.before old c.loop-entry.entry-items c.args.given.now.items c.loop-entry.given.items c.loop-entry.reached c.loop-entry.entry-index c.entry-item.result c.loop-entry-test.true c.entry-item.is c.loop-entry.invariant.0
    (label, (slice_index_or c.loop-entry.entry-items c.loop-entry.entry-index c.entry-item.result).1) c.push_reserved.new.self.items c.by.result c.then-reached.result
    (ap (λ (p : ℕ × _). relabelled step c.loop-entry.reached.last (one_pair p)) (sym c.entry-item.is)) notes c.by.ensures.last c.by.ensures.known c.then-reached.ensures.last c.then-reached.ensures.known in
    (more, omega (arith, c.loop-entry.invariant.1, c.push_reserved.ensures.capacity))

pub returns-clause-items : goal.returns-clause-items
returns-clause-items g c =
    let old = c.deref_mut-entry-items.result.now in
    let same : old ≡ c.args.entries.now.items = c.deref_mut-entry-items.ensures.value in
    let there = onward_pairs one_pair g.R.Run.known c.args.step c.args.before old c.loop-entry.entry-items c.args.given.now.items c.loop-entry.given.items c.loop-entry.reached c.loop-entry.entry-index c.loop-entry.invariant.0 c.loop-entry-test.false in
    whole_back c.args.entries.now.len c.loop-entry.entry-items c.args.entries.now.items (c.loop-entry.invariant.0.long ∙ ap length same) (c.args.entries.now.ok.0)
    ∙ sym (entries_are c.loop-entry.entry-items) ∙ there ∙ ap (relabelled c.args.step c.args.before) (entries_are old ∙ same)

pub returns-clause-given : goal.returns-clause-given
returns-clause-given g c =
    let old = c.deref_mut-entry-items.result.now in
    let same : old ≡ c.args.entries.now.items = c.deref_mut-entry-items.ensures.value in
    let there = onward_given one_pair g.R.Run.known c.args.step c.args.before old c.loop-entry.entry-items c.args.given.now.items c.loop-entry.given.items c.loop-entry.reached c.loop-entry.entry-index c.loop-entry.invariant.0 c.loop-entry-test.false in
    there ∙ ap (λ (ps : List (ℕ × _)). c.args.given.now.items ++ renamed c.args.step c.args.before ps) (entries_are old ∙ same)

pub returns-clause-last : goal.returns-clause-last
returns-clause-last g c =
    let old = c.deref_mut-entry-items.result.now in
    let same : old ≡ c.args.entries.now.items = c.deref_mut-entry-items.ensures.value in
    let there = onward_last one_pair g.R.Run.known c.args.step c.args.before old c.loop-entry.entry-items c.args.given.now.items c.loop-entry.given.items c.loop-entry.reached c.loop-entry.entry-index c.loop-entry.invariant.0 c.loop-entry-test.false in
    there ∙ ap (reached c.args.step c.args.before) (entries_are old ∙ same)

pub returns-clause-known : goal.returns-clause-known
returns-clause-known g c =
    let old = c.deref_mut-entry-items.result.now in
    let same : old ≡ c.args.entries.now.items = c.deref_mut-entry-items.ensures.value in
    let there = onward_known one_pair g.R.Run.known c.args.step c.args.before old c.loop-entry.entry-items c.args.given.now.items c.loop-entry.given.items c.loop-entry.reached c.loop-entry.entry-index c.loop-entry.invariant.0 c.loop-entry-test.false in
    there ∙ ap (last_known g.R.Run.known) (entries_are c.loop-entry.entry-items)
    ∙ sym (ap (last_known g.R.Run.known) (whole_back c.args.entries.now.len c.loop-entry.entry-items c.args.entries.now.items (c.loop-entry.invariant.0.long ∙ ap length same) (c.args.entries.now.ok.0)))
