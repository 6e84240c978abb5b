use Rattle.std.proofs.Common.{ℕ, ◌+◌, Bool, Option, length, get_or, IsSome, refl, sym, ap, ◌∙◌, subst, arith}
use Rattle.std.proofs.lemmas.List.{length-map}
use Rattle.std.proofs.lemmas.Option.{slice_get-get_or, same_Some}
use Rattle.ew_model.specs.declared.event.Event.{Event}
use Rattle.ew_model.specs.Ancestors.{ids_of}
use Rattle.ew_model.specs.Entries.{is_deleted}
use Rattle.ew_model.specs.Tree.{all_entries, tree}
use Rattle.ew_model.proofs.AgentLaws.{within_ids}
use Rattle.transform.proofs.ShownCharacters.{mark_there}
use Rattle.transform.proofs.TextOrder.{char_there, order_long}
use Rattle.undo.proofs.Letters.{letter_there}
use Rattle.blame.proofs.Kept.{first_as, first_none, first_kept, first_passed, positions_all, chars_all}
use Rattle.blame.proofs.letters.visible_letters.Goals as goal
use Rattle.blame.proofs.letters.visible_letters.Goals.{then-not-deleted-position+in_ok-push+in_ok-push-2, else-not-deleted-position}

pub loop-position-init : goal.loop-position-init
loop-position-init c = first_none c.args.graph.now c.new-positions.result.items c.new-chars.result.items c.new-positions.ensures.items c.new-chars.ensures.items

pub bounds-deleted-position : goal.bounds-deleted-position
bounds-deleted-position c =
    let history = c.args.graph.now in
    let place = c.loop-position.position-index in
    let position = get_or c.args.order.now place 0 in
    let char = char_there history c.args.order.now place position c.requires.order (slice_get-get_or c.args.order.now place 0 c.loop-position-test.true) in
    let within = within_ids history position char.0.id char.2 in
    let long = ap (length {A = Bool}) c.requires.deleted ∙ length-map (ids_of history) (is_deleted (all_entries 0 (tree history))) ∙ length-map history (λ (e : Event). e.id) in
    omega (arith, within, long)

pub letter-requires-clause-within : goal.letter-requires-clause-within
letter-requires-clause-within c =
    let history = c.args.graph.now in
    let place = c.loop-position.position-index in
    let position = get_or c.args.order.now place 0 in
    let char = char_there history c.args.order.now place position c.requires.order (slice_get-get_or c.args.order.now place 0 c.loop-position-test.true) in
    within_ids history position char.0.id char.2

pub letter-requires-clause-inserts : goal.letter-requires-clause-inserts
letter-requires-clause-inserts c =
    let history = c.args.graph.now in
    let place = c.loop-position.position-index in
    let position = get_or c.args.order.now place 0 in
    let char = char_there history c.args.order.now place position c.requires.order (slice_get-get_or c.args.order.now place 0 c.loop-position-test.true) in
    subst (λ (o : Option ℕ). IsSome o) (sym (letter_there history position place char.0 c.requires.good char.1 char.2)) refl

pub loop-position-preserved : goal.loop-position-preserved
loop-position-preserved c =
    let history = c.args.graph.now in
    let place = c.loop-position.position-index in
    let position = get_or c.args.order.now place 0 in
    let char = char_there history c.args.order.now place position c.requires.order (slice_get-get_or c.args.order.now place 0 c.loop-position-test.true) in
    let z = char.0 in
    let positions = c.loop-position.positions.items in
    let chars = c.loop-position.chars.items in
    let more = c.if-not-deleted-position.positions.items in
    let letters = c.if-not-deleted-position.chars.items in
    elim c.if-not-deleted-position.branch [
      | then-not-deleted-position+in_ok-push+in_ok-push-2 w ↦ first_kept history place z positions chars more letters position w.letter.result char.1 char.2
          (same_Some w.letter.result z.ch (sym w.letter.ensures ∙ letter_there history position place z c.requires.good char.1 char.2))
          (sym (mark_there history c.args.deleted.now position z.id _ c.requires.deleted char.2) ∙ w.if-not-deleted-position.true)
          (ap (λ v. v.items) w.positions-is ∙ w.in_ok-push.ensures.items)
          (ap (λ v. v.items) w.chars-is ∙ w.in_ok-push-2.ensures.items)
          c.loop-position.invariant
      | else-not-deleted-position w ↦ first_as history (place + 1) positions chars more letters (ap (λ v. v.items) w.positions-is) (ap (λ v. v.items) w.chars-is)
          (first_passed history place z positions chars char.1 (sym (mark_there history c.args.deleted.now position z.id _ c.requires.deleted char.2) ∙ w.if-not-deleted-position.false) c.loop-position.invariant)
    ]

pub returns-clause-positions : goal.returns-clause-positions
returns-clause-positions c =
    let long = order_long c.args.graph.now c.args.order.now c.requires.order in
    positions_all c.args.graph.now c.loop-position.position-index c.loop-position.positions.items c.loop-position.chars.items (omega (arith, long, c.loop-position-test.false)) c.loop-position.invariant

pub returns-clause-chars : goal.returns-clause-chars
returns-clause-chars c =
    let long = order_long c.args.graph.now c.args.order.now c.requires.order in
    chars_all c.args.graph.now c.loop-position.position-index c.loop-position.positions.items c.loop-position.chars.items (omega (arith, long, c.loop-position-test.false)) c.loop-position.invariant
