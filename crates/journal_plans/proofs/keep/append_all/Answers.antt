use Rattle.std.proofs.Common.{◌≡◌, ◌+◌, ◌-◌, ◌*◌, ◌≤◌, [], ◌∷◌, ◌++◌, length, take, drop, Ok, ap, sym, refl, subst, ◌∙◌, arith}
use Rattle.std.proofs.lemmas.List.{drop-drop, drop_min, take_min}
use Rattle.std.proofs.lemmas.Result.{err_from_is_err_and}
use Rattle.std.specs.List.{AllByRecursion}
use Rattle.ew_model.specs.declared.event.Event.{Event}
use Rattle.peer_exchange.proofs.Lengths.{all_drop}
use Rattle.peer_definitions.specs.Pieces.{frame_room, pieces, pieces_from}
use Rattle.journal_plans.specs.Adding.{Adds}
use Rattle.journal_plans.proofs.Joining.{adds_more}
use Rattle.journal_plans.proofs.Batches.{batch_stops, last_batch, next_batch, none_adds, tells_itself, tells_then}
use Rattle.journal_plans.proofs.keep.append_all.Goals as goal

pub loop-init : goal.loop-init
loop-init g c =
    let none : c.div_ceil-end.result - 0 ≡ c.div_ceil-end.result = omega arith in
    let start : 0 ≡ 0 * c.batch_room-room.result = omega arith in (
      [],
      ap (λ n. pieces_from c.batch_room-room.result n c.args.events.now) none,
      ap (λ n. drop n c.args.events.now) start,
      c.requires.ready,
      refl,
      refl,
      c.requires.parents,
      tells_itself (g.D.Disk.seen c.args.disk.now).bytes,
      refl,
      none_adds g.D.Disk.may_leave g.D.Disk.moment g.D.Disk.left_since c.args.journal.now c.args.disk.now (g.D.Disk.seen c.args.disk.now).bytes (g.met.D.Disk.only_now c.args.disk.now),
    )

pub returns-in_err-append-clause-adds : goal.returns-in_err-append-clause-adds
returns-in_err-append-clause-adds g c =
    let p = err_from_is_err_and c.from_residual.result c.from_residual.ensures.1 in
    let inv = c.loop.invariant in
    let room = c.batch_room-room.result in
    let rest = c.loop.rest.now in
    let batch = c.split_at.result.0.now in
    let behind = c.split_at.result.1.now in
    let front : batch ≡ take room rest = c.split_at.ensures.front ∙ ap (λ n. take n rest) c.min.ensures ∙ take_min room rest in
    let back : behind ≡ drop room rest = c.split_at.ensures.back ∙ ap (λ n. drop n rest) c.min.ensures ∙ drop_min room rest in
    let whole : pieces_from room c.div_ceil-end.result c.args.events.now ≡ pieces (frame_room c.args.limits.now) c.args.events.now =
    ap (λ n. pieces_from room n c.args.events.now) c.div_ceil-end.ensures ∙ ap (λ r. pieces r c.args.events.now) c.batch_room-room.ensures.room in
    rw (p.1, p.2)
    (batch_stops g.D.Disk.may_leave g.D.Disk.moment g.D.Disk.left_since c.args.journal.now c.loop.journal c.append.new.journal c.args.disk.now c.loop.disk c.append.new.disk
    (g.D.Disk.seen c.args.disk.now).bytes (g.D.Disk.seen c.loop.disk).bytes (g.D.Disk.seen c.append.new.disk).bytes inv.0 (pieces_from room (c.div_ceil-end.result - (c.loop.counter + 1)) behind) (pieces (frame_room c.args.limits.now) c.args.events.now) batch
    _ _ c.in_err-append.field-0.0 inv.4 inv.9 c.in_err-append.ensures.adds c.in_err-append.ensures.cause
    (next_batch room c.div_ceil-end.result c.loop.counter inv.0 rest batch behind (pieces_from room c.div_ceil-end.result c.args.events.now) c.loop-test.true front back inv.1 ∙ whole))

pub loop-preserved : goal.loop-preserved
loop-preserved g c =
    let inv = c.loop.invariant in
    let room = c.batch_room-room.result in
    let rest = c.loop.rest.now in
    let batch = c.split_at.result.0.now in
    let behind = c.split_at.result.1.now in
    let front : batch ≡ take room rest = c.split_at.ensures.front ∙ ap (λ n. take n rest) c.min.ensures ∙ take_min room rest in
    let back : behind ≡ drop room rest = c.split_at.ensures.back ∙ ap (λ n. drop n rest) c.min.ensures ∙ drop_min room rest in
    let next : c.loop.counter * room + room ≡ (c.loop.counter + 1) * room = omega arith in (
      inv.0 ++ batch ∷ [],
      next_batch room c.div_ceil-end.result c.loop.counter inv.0 rest batch behind (pieces_from room c.div_ceil-end.result c.args.events.now) c.loop-test.true front back inv.1,
      back ∙ ap (drop room) inv.2 ∙ drop-drop room (c.loop.counter * room) c.args.events.now ∙ ap (λ n. drop n c.args.events.now) next,
      c.in_ok-append.ensures.ready,
      c.append.ensures.limits ∙ inv.4,
      omega (arith, c.in_ok-append.ensures.counted, inv.5, c.split_at.ensures.back_len, c.split_at.ensures.front_len),
      subst (AllByRecursion (λ (e : Event). length e.parents ≤ 16)) (sym back) (all_drop (λ (e : Event). length e.parents ≤ 16) room rest inv.6),
      tells_then _ _ _ inv.7 c.append.ensures.tells,
      c.in_ok-append.ensures.cause ∙ inv.8,
      adds_more g.D.Disk.may_leave g.D.Disk.moment g.D.Disk.left_since c.args.journal.now c.loop.journal c.append.new.journal c.args.disk.now c.loop.disk c.append.new.disk
          (g.D.Disk.seen c.args.disk.now).bytes (g.D.Disk.seen c.loop.disk).bytes (g.D.Disk.seen c.append.new.disk).bytes inv.0 (batch ∷ []) tt (Ok tt) inv.4 inv.9 c.in_ok-append.ensures.adds,
    )

pub returns-clause-adds : goal.returns-clause-adds
returns-clause-adds g c =
    let inv = c.loop.invariant in
    let room = c.batch_room-room.result in
    let end = c.div_ceil-end.result in
    let whole : pieces_from room end c.args.events.now ≡ pieces (frame_room c.args.limits.now) c.args.events.now =
    ap (λ n. pieces_from room n c.args.events.now) c.div_ceil-end.ensures ∙ ap (λ r. pieces r c.args.events.now) c.batch_room-room.ensures.room in
    let all = last_batch room end c.loop.counter inv.0 c.loop.rest.now (pieces_from room end c.args.events.now) c.loop-test.false inv.1 ∙ whole in
    subst (λ xs. Adds {T = Unit {0}} g.D.Disk.may_leave g.D.Disk.moment g.D.Disk.left_since c.args.journal.now c.loop.journal c.args.disk.now c.loop.disk
    (g.D.Disk.seen c.args.disk.now).bytes (g.D.Disk.seen c.loop.disk).bytes xs (Ok tt)) all inv.9
