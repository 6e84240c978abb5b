use Rattle.std.proofs.Common.{rules, ◌≡◌, ◌-◌, ◌<◌, ◌≤◌, ◌++◌, [], length, take, Ok, Err, refl, inl, inr, ap, ◌∙◌, arith}
use Rattle.std.proofs.KnownBytes.{Appends-nil}
use Rattle.ew_outside.specs.Counts.{next}
use Rattle.peer_frames.specs.Calls.{Kept}
use Rattle.serve_plans.proofs.Answers.{answers_grow}
use Rattle.serve_plans.proofs.Pieces.{reads_none, count_fits, number_fits, nothing_read, kept_none, one_read, piece_fits, piece_leaves, piece_behind, piece_reads, piece_closes, piece_broken, talks_end, talks_long}
use Rattle.serve_plans.proofs.Takes.{ahead_none, ahead_piece, ahead_takes, piece_takes}
use Rattle.serve_plans.proofs.talk.talk.Goals as goal

pub pieces-init : goal.pieces-init
pieces-init g c = record {
  reads = reads_none c.args.limits.now c.args.replica.now (g.S.Source.seen c.args.input.now).left (g.K.Sink.seen c.args.out.now).taken (g.K.Sink.seen c.args.out.now).flushed
      c.in_ok-reader.reader.bytes c.input-room.result
      (ap (λ (k : Kept). k.bytes) c.in_ok-reader.ensures) c.input-room.ensures.value;
  touches = ahead_none c.args.limits.now c.args.replica.now (g.S.Source.seen c.args.input.now).left c.in_ok-reader.reader.bytes c.input-room.result
      c.args.steps.now (ap (λ (k : Kept). k.bytes) c.in_ok-reader.ensures) c.input-room.ensures.value;
  limits = ap (λ (k : Kept). k.limits) c.in_ok-reader.ensures;
  source = refl;
  ends = refl;
  sink = refl;
}

pub closing_at_end-requires : goal.closing_at_end-requires
closing_at_end-requires g c = omega (arith, count_fits _ _ _ _ _ _ _ _ _ _ _ _ c.pieces.invariant.reads, c.input-room.ensures.range)

pub closing_at_end-requires-then-branch-eq0 : goal.closing_at_end-requires-then-branch-eq0
closing_at_end-requires-then-branch-eq0 g c = omega (arith, count_fits _ _ _ _ _ _ _ _ _ _ _ _ c.pieces.invariant.reads, c.input-room.ensures.range)

pub returns-in_err-count-clause-prompt : goal.returns-in_err-count-clause-prompt
returns-in_err-count-clause-prompt g c = piece_behind c.args.limits.now c.args.replica.now c.pieces.replica (g.S.Source.seen c.args.input.now).left
    (g.S.Source.seen c.pieces.input).left (g.S.Source.seen c.read_piece.new.input).left (g.K.Sink.seen c.args.out.now).taken (g.K.Sink.seen c.pieces.out).taken
    (g.K.Sink.seen c.pieces.out).taken (g.K.Sink.seen c.args.out.now).flushed (g.K.Sink.seen c.pieces.out).flushed (g.K.Sink.seen c.pieces.out).flushed c.pieces.reader.bytes
    c.pieces.number c.pieces.room c.pieces.invariant.reads [] (omega arith)
    (kept_none (g.S.Source.seen c.pieces.input).left (g.S.Source.seen c.read_piece.new.input).left (g.S.Source.seen c.pieces.input).faults
    (g.S.Source.seen c.read_piece.new.input).faults c.min-most.result c.read_piece.new.buffer c.in_err-count.field-0.0 c.in_err-count.ensures.read)
    ([], Appends-nil (g.K.Sink.seen c.pieces.out).taken)

pub returns-then-count-eq0-clause-told : goal.returns-then-count-eq0-clause-told
returns-then-count-eq0-clause-told g c =
    let some : 0 < c.min-most.result = search (rules) in
    let none = nothing_read (g.S.Source.seen c.pieces.input).left (g.S.Source.seen c.read_piece.new.input).left c.in_ok-count.count c.min-most.result
    c.read_piece.new.buffer c.if-count-eq0.true c.in_ok-count.ensures.read.1 c.in_ok-count.ensures.read.2 some in
    talks_end c.args.limits.now c.args.replica.now c.pieces.replica (g.S.Source.seen c.args.input.now).left (g.S.Source.seen c.pieces.input).left
    (g.S.Source.seen c.read_piece.new.input).left (g.K.Sink.seen c.args.out.now).taken (g.K.Sink.seen c.pieces.out).taken (g.K.Sink.seen c.pieces.out).taken
    (g.K.Sink.seen c.args.out.now).flushed (g.K.Sink.seen c.pieces.out).flushed (g.K.Sink.seen c.pieces.out).flushed c.pieces.reader.bytes c.pieces.number c.pieces.room
    c.pieces.invariant.reads c.closing_at_end.result none.0 none.1 c.closing_at_end.ensures

pub returns-then-count-eq0-clause-prompt : goal.returns-then-count-eq0-clause-prompt
returns-then-count-eq0-clause-prompt g c =
    let some : 0 < c.min-most.result = search (rules) in
    let none = nothing_read (g.S.Source.seen c.pieces.input).left (g.S.Source.seen c.read_piece.new.input).left c.in_ok-count.count c.min-most.result
    c.read_piece.new.buffer c.if-count-eq0.true c.in_ok-count.ensures.read.1 c.in_ok-count.ensures.read.2 some in
    piece_behind c.args.limits.now c.args.replica.now c.pieces.replica (g.S.Source.seen c.args.input.now).left (g.S.Source.seen c.pieces.input).left
    (g.S.Source.seen c.read_piece.new.input).left (g.K.Sink.seen c.args.out.now).taken (g.K.Sink.seen c.pieces.out).taken (g.K.Sink.seen c.pieces.out).taken
    (g.K.Sink.seen c.args.out.now).flushed (g.K.Sink.seen c.pieces.out).flushed (g.K.Sink.seen c.pieces.out).flushed c.pieces.reader.bytes c.pieces.number c.pieces.room
    c.pieces.invariant.reads [] (omega arith) none.0 ([], Appends-nil (g.K.Sink.seen c.pieces.out).taken)

pub take_piece-requires : goal.take_piece-requires
take_piece-requires g c =
    let within : c.min-most.result ≤ c.pieces.room = search (rules) in
    let few = piece_fits c.in_ok-count.count c.min-most.result c.pieces.room c.read_piece.new.buffer c.in_ok-count.ensures.read.0 within in
    omega (
      arith,
      number_fits c.args.limits.now c.args.replica.now c.pieces.replica (g.S.Source.seen c.args.input.now).left (g.S.Source.seen c.pieces.input).left
          (g.S.Source.seen c.read_piece.new.input).left (g.K.Sink.seen c.args.out.now).taken (g.K.Sink.seen c.pieces.out).taken (g.K.Sink.seen c.pieces.out).taken
          (g.K.Sink.seen c.args.out.now).flushed (g.K.Sink.seen c.pieces.out).flushed (g.K.Sink.seen c.pieces.out).flushed c.pieces.reader.bytes c.pieces.number c.pieces.room
          c.pieces.invariant.reads (take c.in_ok-count.count c.read_piece.new.buffer) few,
      c.input-room.ensures.range,
    )

pub returns-in_err-closing-clause-told : goal.returns-in_err-closing-clause-told
returns-in_err-closing-clause-told g c =
    let within : c.min-most.result ≤ c.pieces.room = search (rules) in
    let few = piece_fits c.in_ok-count.count c.min-most.result c.pieces.room c.read_piece.new.buffer c.in_ok-count.ensures.read.0 within in
    piece_broken c.args.limits.now c.args.replica.now c.pieces.replica (g.S.Source.seen c.args.input.now).left (g.S.Source.seen c.pieces.input).left
    (g.S.Source.seen c.read_piece.new.input).left (g.K.Sink.seen c.args.out.now).taken (g.K.Sink.seen c.pieces.out).taken (g.K.Sink.seen c.take_piece.new.out).taken
    (g.K.Sink.seen c.args.out.now).flushed (g.K.Sink.seen c.pieces.out).flushed (g.K.Sink.seen c.take_piece.new.out).flushed c.pieces.reader.bytes c.pieces.number
    c.pieces.room c.pieces.invariant.reads (take c.in_ok-count.count c.read_piece.new.buffer) c.in_ok-count.ensures.read.1 few
    c.in_err-closing.ensures.fits c.pieces.reader.limits c.pieces.invariant.limits c.take_piece.new.replica c.take_piece.new.reader.bytes
    c.take_piece.new.number c.from_residual-in_err-closing.result c.in_err-closing.field-0.0 (g.K.Sink.seen c.pieces.out).faults
    (g.K.Sink.seen c.take_piece.new.out).faults c.from_residual-in_err-closing.ensures.1 c.in_err-closing.ensures.cause c.in_err-closing.ensures.told

pub returns-in_err-closing-clause-prompt : goal.returns-in_err-closing-clause-prompt
returns-in_err-closing-clause-prompt g c =
    let small : c.min-most.result ≤ 4096 = search (rules) in
    let short = piece_fits c.in_ok-count.count c.min-most.result 4096 c.read_piece.new.buffer c.in_ok-count.ensures.read.0 small in
    piece_behind c.args.limits.now c.args.replica.now c.pieces.replica (g.S.Source.seen c.args.input.now).left (g.S.Source.seen c.pieces.input).left
    (g.S.Source.seen c.read_piece.new.input).left (g.K.Sink.seen c.args.out.now).taken (g.K.Sink.seen c.pieces.out).taken (g.K.Sink.seen c.take_piece.new.out).taken
    (g.K.Sink.seen c.args.out.now).flushed (g.K.Sink.seen c.pieces.out).flushed (g.K.Sink.seen c.take_piece.new.out).flushed c.pieces.reader.bytes c.pieces.number
    c.pieces.room c.pieces.invariant.reads (take c.in_ok-count.count c.read_piece.new.buffer) short c.in_ok-count.ensures.read.1
    (answers_grow c.pieces.reader.limits c.pieces.replica c.take_piece.new.replica
    (c.pieces.reader.bytes ++ (take c.in_ok-count.count c.read_piece.new.buffer)) c.take_piece.new.reader.bytes (g.K.Sink.seen c.pieces.out).taken
    (g.K.Sink.seen c.take_piece.new.out).taken (g.K.Sink.seen c.pieces.out).flushed (g.K.Sink.seen c.take_piece.new.out).flushed c.pieces.number c.take_piece.new.number
    (Err c.in_err-closing.field-0.0) c.in_err-closing.ensures.told)

pub returns-in-Some-clause-told : goal.returns-in-Some-clause-told
returns-in-Some-clause-told g c =
    let within : c.min-most.result ≤ c.pieces.room = search (rules) in
    let few = piece_fits c.in_ok-count.count c.min-most.result c.pieces.room c.read_piece.new.buffer c.in_ok-count.ensures.read.0 within in
    piece_closes c.args.limits.now c.args.replica.now c.pieces.replica (g.S.Source.seen c.args.input.now).left (g.S.Source.seen c.pieces.input).left
    (g.S.Source.seen c.read_piece.new.input).left (g.K.Sink.seen c.args.out.now).taken (g.K.Sink.seen c.pieces.out).taken (g.K.Sink.seen c.take_piece.new.out).taken
    (g.K.Sink.seen c.args.out.now).flushed (g.K.Sink.seen c.pieces.out).flushed (g.K.Sink.seen c.take_piece.new.out).flushed c.pieces.reader.bytes c.pieces.number
    c.pieces.room c.pieces.invariant.reads (take c.in_ok-count.count c.read_piece.new.buffer) c.in_ok-count.ensures.read.1 few c.in_ok-closing.ensures.fits
    c.pieces.reader.limits c.pieces.invariant.limits c.take_piece.new.replica c.take_piece.new.reader.bytes c.take_piece.new.number c.in_ok-closing.field-0
    c.in-Some.closing c.in-Some.is c.in_ok-closing.ensures.told

pub returns-in-Some-clause-prompt : goal.returns-in-Some-clause-prompt
returns-in-Some-clause-prompt g c =
    let small : c.min-most.result ≤ 4096 = search (rules) in
    let short = piece_fits c.in_ok-count.count c.min-most.result 4096 c.read_piece.new.buffer c.in_ok-count.ensures.read.0 small in
    piece_behind c.args.limits.now c.args.replica.now c.pieces.replica (g.S.Source.seen c.args.input.now).left (g.S.Source.seen c.pieces.input).left
    (g.S.Source.seen c.read_piece.new.input).left (g.K.Sink.seen c.args.out.now).taken (g.K.Sink.seen c.pieces.out).taken (g.K.Sink.seen c.take_piece.new.out).taken
    (g.K.Sink.seen c.args.out.now).flushed (g.K.Sink.seen c.pieces.out).flushed (g.K.Sink.seen c.take_piece.new.out).flushed c.pieces.reader.bytes c.pieces.number
    c.pieces.room c.pieces.invariant.reads (take c.in_ok-count.count c.read_piece.new.buffer) short c.in_ok-count.ensures.read.1
    (answers_grow c.pieces.reader.limits c.pieces.replica c.take_piece.new.replica
    (c.pieces.reader.bytes ++ (take c.in_ok-count.count c.read_piece.new.buffer)) c.take_piece.new.reader.bytes (g.K.Sink.seen c.pieces.out).taken
    (g.K.Sink.seen c.take_piece.new.out).taken (g.K.Sink.seen c.pieces.out).flushed (g.K.Sink.seen c.take_piece.new.out).flushed c.pieces.number c.take_piece.new.number
    (Ok c.in_ok-closing.field-0) c.in_ok-closing.ensures.told)

pub pieces-preserved : goal.pieces-preserved
pieces-preserved g c =
    let within : c.min-most.result ≤ c.pieces.room = search (rules) in
    let few = piece_fits c.in_ok-count.count c.min-most.result c.pieces.room c.read_piece.new.buffer c.in_ok-count.ensures.read.0 within in
    let long : c.min-most.result ≤ length c.read_piece.new.buffer = search (rules) in
    let size = piece_leaves c.in_ok-count.count c.min-most.result c.pieces.room c.read_piece.new.buffer c.in_ok-count.ensures.read.0 within long in record {
      reads = piece_reads c.args.limits.now c.args.replica.now c.pieces.replica (g.S.Source.seen c.args.input.now).left (g.S.Source.seen c.pieces.input).left
          (g.S.Source.seen c.read_piece.new.input).left (g.K.Sink.seen c.args.out.now).taken (g.K.Sink.seen c.pieces.out).taken (g.K.Sink.seen c.take_piece.new.out).taken
          (g.K.Sink.seen c.args.out.now).flushed (g.K.Sink.seen c.pieces.out).flushed (g.K.Sink.seen c.take_piece.new.out).flushed c.pieces.reader.bytes c.pieces.number
          c.pieces.room c.pieces.invariant.reads (take c.in_ok-count.count c.read_piece.new.buffer) c.in_ok-count.ensures.read.1 few
          c.in_ok-closing.ensures.fits c.pieces.reader.limits c.pieces.invariant.limits c.take_piece.new.replica c.take_piece.new.reader.bytes
          c.take_piece.new.number (c.pieces.room - c.in_ok-count.count) c.in_ok-closing.field-0 size c.in_default.is c.in_ok-closing.ensures.told;
      touches = ahead_piece c.args.limits.now c.pieces.reader.limits c.args.replica.now c.pieces.replica c.take_piece.new.replica c.pieces.reader.bytes
          c.take_piece.new.reader.bytes (take c.in_ok-count.count c.read_piece.new.buffer) c.pieces.room (c.pieces.room - c.in_ok-count.count) c.args.steps.now
          c.pieces.steps c.take_piece.new.steps c.pieces.invariant.limits size (g.S.Source.seen c.args.input.now).left (g.S.Source.seen c.pieces.input).left
          (g.S.Source.seen c.read_piece.new.input).left c.in_ok-closing.field-0
          c.in_ok-count.ensures.read.1 c.in_default.is c.in_ok-closing.ensures.most c.pieces.invariant.touches;
      limits = c.in_ok-closing.ensures.limits ∙ c.pieces.invariant.limits;
      source = c.in_ok-count.ensures.read.3 ∙ c.pieces.invariant.source;
      ends = c.in_ok-count.ensures.ends.1 (omega (arith, c.if-count-eq0.false)) ∙ c.pieces.invariant.ends;
      sink = c.in_ok-closing.ensures.cause ∙ c.pieces.invariant.sink;
    }

pub returns-in_err-read_piece-clause-prompt : goal.returns-in_err-read_piece-clause-prompt
returns-in_err-read_piece-clause-prompt g c = piece_behind c.args.limits.now c.args.replica.now c.pieces.replica (g.S.Source.seen c.args.input.now).left
    (g.S.Source.seen c.pieces.input).left (g.S.Source.seen c.read_piece-2.new.input).left (g.K.Sink.seen c.args.out.now).taken (g.K.Sink.seen c.pieces.out).taken
    (g.K.Sink.seen c.pieces.out).taken (g.K.Sink.seen c.args.out.now).flushed (g.K.Sink.seen c.pieces.out).flushed (g.K.Sink.seen c.pieces.out).flushed c.pieces.reader.bytes
    c.pieces.number c.pieces.room c.pieces.invariant.reads [] (omega arith)
    (kept_none (g.S.Source.seen c.pieces.input).left (g.S.Source.seen c.read_piece-2.new.input).left (g.S.Source.seen c.pieces.input).faults
    (g.S.Source.seen c.read_piece-2.new.input).faults 1 c.read_piece-2.new.buffer c.in_err-read_piece.field-0.0 c.in_err-read_piece.ensures.read)
    ([], Appends-nil (g.K.Sink.seen c.pieces.out).taken)

pub returns-then-branch-eq0-clause-told : goal.returns-then-branch-eq0-clause-told
returns-then-branch-eq0-clause-told g c =
    let none = nothing_read (g.S.Source.seen c.pieces.input).left (g.S.Source.seen c.read_piece-2.new.input).left c.in_ok-read_piece.field-0 _ c.read_piece-2.new.buffer
    c.if-branch-eq0.true c.in_ok-read_piece.ensures.read.1 c.in_ok-read_piece.ensures.read.2 (omega arith) in
    talks_end c.args.limits.now c.args.replica.now c.pieces.replica (g.S.Source.seen c.args.input.now).left (g.S.Source.seen c.pieces.input).left
    (g.S.Source.seen c.read_piece-2.new.input).left (g.K.Sink.seen c.args.out.now).taken (g.K.Sink.seen c.pieces.out).taken (g.K.Sink.seen c.pieces.out).taken
    (g.K.Sink.seen c.args.out.now).flushed (g.K.Sink.seen c.pieces.out).flushed (g.K.Sink.seen c.pieces.out).flushed c.pieces.reader.bytes c.pieces.number c.pieces.room
    c.pieces.invariant.reads c.closing_at_end-then-branch-eq0.result none.0 none.1 c.closing_at_end-then-branch-eq0.ensures

pub returns-then-branch-eq0-clause-prompt : goal.returns-then-branch-eq0-clause-prompt
returns-then-branch-eq0-clause-prompt g c =
    let none = nothing_read (g.S.Source.seen c.pieces.input).left (g.S.Source.seen c.read_piece-2.new.input).left c.in_ok-read_piece.field-0 _ c.read_piece-2.new.buffer
    c.if-branch-eq0.true c.in_ok-read_piece.ensures.read.1 c.in_ok-read_piece.ensures.read.2 (omega arith) in
    piece_behind c.args.limits.now c.args.replica.now c.pieces.replica (g.S.Source.seen c.args.input.now).left (g.S.Source.seen c.pieces.input).left
    (g.S.Source.seen c.read_piece-2.new.input).left (g.K.Sink.seen c.args.out.now).taken (g.K.Sink.seen c.pieces.out).taken (g.K.Sink.seen c.pieces.out).taken
    (g.K.Sink.seen c.args.out.now).flushed (g.K.Sink.seen c.pieces.out).flushed (g.K.Sink.seen c.pieces.out).flushed c.pieces.reader.bytes c.pieces.number c.pieces.room
    c.pieces.invariant.reads [] (omega arith) none.0 ([], Appends-nil (g.K.Sink.seen c.pieces.out).taken)

pub returns-clause-told : goal.returns-clause-told
returns-clause-told g c =
    let long : 1 ≤ length c.read_piece-2.new.buffer = search (rules) in
    let full : c.pieces.room ≡ 0 = search (rules) in
    let one = one_read (g.S.Source.seen c.pieces.input).left (g.S.Source.seen c.read_piece-2.new.input).left c.in_ok-read_piece.field-0 c.read_piece-2.new.buffer
    (omega (arith, c.in_ok-read_piece.ensures.read.0)) c.if-branch-eq0.false long c.in_ok-read_piece.ensures.read.1 in
    talks_long c.args.limits.now c.args.replica.now c.pieces.replica (g.S.Source.seen c.args.input.now).left (g.S.Source.seen c.pieces.input).left
    (g.S.Source.seen c.read_piece-2.new.input).left (g.K.Sink.seen c.args.out.now).taken (g.K.Sink.seen c.pieces.out).taken (g.K.Sink.seen c.pieces.out).taken
    (g.K.Sink.seen c.args.out.now).flushed (g.K.Sink.seen c.pieces.out).flushed (g.K.Sink.seen c.pieces.out).flushed c.pieces.reader.bytes c.pieces.number c.pieces.room
    c.pieces.invariant.reads one.0 full one.1

pub returns-clause-prompt : goal.returns-clause-prompt
returns-clause-prompt g c = piece_behind c.args.limits.now c.args.replica.now c.pieces.replica (g.S.Source.seen c.args.input.now).left
    (g.S.Source.seen c.pieces.input).left (g.S.Source.seen c.read_piece-2.new.input).left (g.K.Sink.seen c.args.out.now).taken (g.K.Sink.seen c.pieces.out).taken
    (g.K.Sink.seen c.pieces.out).taken (g.K.Sink.seen c.args.out.now).flushed (g.K.Sink.seen c.pieces.out).flushed (g.K.Sink.seen c.pieces.out).flushed c.pieces.reader.bytes
    c.pieces.number c.pieces.room c.pieces.invariant.reads (take c.in_ok-read_piece.field-0 c.read_piece-2.new.buffer)
    (piece_fits c.in_ok-read_piece.field-0 _ 4096 c.read_piece-2.new.buffer c.in_ok-read_piece.ensures.read.0 (omega arith)) c.in_ok-read_piece.ensures.read.1
    ([], Appends-nil (g.K.Sink.seen c.pieces.out).taken)

pub returns-in_err-count-clause-most : goal.returns-in_err-count-clause-most
returns-in_err-count-clause-most g c =
    ahead_takes c.args.limits.now c.args.replica.now c.pieces.replica (g.S.Source.seen c.args.input.now).left (g.S.Source.seen c.pieces.input).left
    c.pieces.reader.bytes c.pieces.room c.args.steps.now c.pieces.steps c.pieces.invariant.touches

pub returns-then-count-eq0-clause-most : goal.returns-then-count-eq0-clause-most
returns-then-count-eq0-clause-most g c =
    ahead_takes c.args.limits.now c.args.replica.now c.pieces.replica (g.S.Source.seen c.args.input.now).left (g.S.Source.seen c.pieces.input).left
    c.pieces.reader.bytes c.pieces.room c.args.steps.now c.pieces.steps c.pieces.invariant.touches

pub returns-in_err-read_piece-clause-most : goal.returns-in_err-read_piece-clause-most
returns-in_err-read_piece-clause-most g c =
    ahead_takes c.args.limits.now c.args.replica.now c.pieces.replica (g.S.Source.seen c.args.input.now).left (g.S.Source.seen c.pieces.input).left
    c.pieces.reader.bytes c.pieces.room c.args.steps.now c.pieces.steps c.pieces.invariant.touches

pub returns-then-branch-eq0-clause-most : goal.returns-then-branch-eq0-clause-most
returns-then-branch-eq0-clause-most g c =
    ahead_takes c.args.limits.now c.args.replica.now c.pieces.replica (g.S.Source.seen c.args.input.now).left (g.S.Source.seen c.pieces.input).left
    c.pieces.reader.bytes c.pieces.room c.args.steps.now c.pieces.steps c.pieces.invariant.touches

pub returns-clause-most : goal.returns-clause-most
returns-clause-most g c =
    ahead_takes c.args.limits.now c.args.replica.now c.pieces.replica (g.S.Source.seen c.args.input.now).left (g.S.Source.seen c.pieces.input).left
    c.pieces.reader.bytes c.pieces.room c.args.steps.now c.pieces.steps c.pieces.invariant.touches

pub returns-in_err-closing-clause-most : goal.returns-in_err-closing-clause-most
returns-in_err-closing-clause-most g c =
    let within : c.min-most.result ≤ c.pieces.room = search (rules) in
    let long : c.min-most.result ≤ length c.read_piece.new.buffer = search (rules) in
    let size = piece_leaves c.in_ok-count.count c.min-most.result c.pieces.room c.read_piece.new.buffer c.in_ok-count.ensures.read.0 within long in
    piece_takes c.args.limits.now c.pieces.reader.limits c.args.replica.now c.pieces.replica c.take_piece.new.replica c.pieces.reader.bytes
    c.take_piece.new.reader.bytes (take c.in_ok-count.count c.read_piece.new.buffer) c.pieces.room (c.pieces.room - c.in_ok-count.count) c.args.steps.now
    c.pieces.steps c.take_piece.new.steps c.pieces.invariant.limits size (g.S.Source.seen c.args.input.now).left (g.S.Source.seen c.pieces.input).left
    (g.S.Source.seen c.read_piece.new.input).left (Err c.in_err-closing.field-0.0) c.in_ok-count.ensures.read.1
    c.in_err-closing.ensures.most c.pieces.invariant.touches

pub returns-in-Some-clause-most : goal.returns-in-Some-clause-most
returns-in-Some-clause-most g c =
    let within : c.min-most.result ≤ c.pieces.room = search (rules) in
    let long : c.min-most.result ≤ length c.read_piece.new.buffer = search (rules) in
    let size = piece_leaves c.in_ok-count.count c.min-most.result c.pieces.room c.read_piece.new.buffer c.in_ok-count.ensures.read.0 within long in
    piece_takes c.args.limits.now c.pieces.reader.limits c.args.replica.now c.pieces.replica c.take_piece.new.replica c.pieces.reader.bytes
    c.take_piece.new.reader.bytes (take c.in_ok-count.count c.read_piece.new.buffer) c.pieces.room (c.pieces.room - c.in_ok-count.count) c.args.steps.now
    c.pieces.steps c.take_piece.new.steps c.pieces.invariant.limits size (g.S.Source.seen c.args.input.now).left (g.S.Source.seen c.pieces.input).left
    (g.S.Source.seen c.read_piece.new.input).left (Ok c.in_ok-closing.field-0) c.in_ok-count.ensures.read.1
    c.in_ok-closing.ensures.most c.pieces.invariant.touches

pub returns-in_err-count-clause-ends : goal.returns-in_err-count-clause-ends
returns-in_err-count-clause-ends g c = inl (c.in_err-count.ensures.ends ∙ c.pieces.invariant.ends)

pub returns-then-count-eq0-clause-ends : goal.returns-then-count-eq0-clause-ends
returns-then-count-eq0-clause-ends g c =
    let some : 0 < c.min-most.result = search (rules) in
    inr (c.in_ok-count.ensures.ends.0 c.if-count-eq0.true some ∙ ap next c.pieces.invariant.ends)

pub returns-in_err-closing-clause-ends : goal.returns-in_err-closing-clause-ends
returns-in_err-closing-clause-ends g c = inl (c.in_ok-count.ensures.ends.1 (omega (arith, c.if-count-eq0.false)) ∙ c.pieces.invariant.ends)

pub returns-in-Some-clause-ends : goal.returns-in-Some-clause-ends
returns-in-Some-clause-ends g c = inl (c.in_ok-count.ensures.ends.1 (omega (arith, c.if-count-eq0.false)) ∙ c.pieces.invariant.ends)

pub returns-in_err-read_piece-clause-ends : goal.returns-in_err-read_piece-clause-ends
returns-in_err-read_piece-clause-ends g c = inl (c.in_err-read_piece.ensures.ends ∙ c.pieces.invariant.ends)

pub returns-then-branch-eq0-clause-ends : goal.returns-then-branch-eq0-clause-ends
returns-then-branch-eq0-clause-ends g c = inr (c.in_ok-read_piece.ensures.ends.0 c.if-branch-eq0.true (omega arith) ∙ ap next c.pieces.invariant.ends)

pub returns-clause-ends : goal.returns-clause-ends
returns-clause-ends g c = inl (c.in_ok-read_piece.ensures.ends.1 (omega (arith, c.if-branch-eq0.false)) ∙ c.pieces.invariant.ends)
