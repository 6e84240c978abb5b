use Rattle.std.proofs.Common.{◌≡◌, ℕ, ◌+◌, ◌<◌, ◌≤◌, ◌&&◌, not, List, Option, length, get_or, slice_get, Some, IsSome, option_map, refl, sym, ap, ◌∙◌, subst, arith}
use Rattle.std.proofs.lemmas.List.{length-map}
use Rattle.std.proofs.lemmas.Option.{slice_get-get_or, slice_get-map, get_or_from_slice_get, same_Some}
use Rattle.ew_model.specs.declared.event.Event.{Event}
use Rattle.ew_model.specs.declared.id.Id.{Id}
use Rattle.ew_model.specs.Ids.{is_among}
use Rattle.ew_model.specs.Ancestors.{ids_of}
use Rattle.ew_model.proofs.AgentLaws.{within_ids}
use Rattle.transform.proofs.TextOrder.{char_there, order_long, few_chars}
use Rattle.undo.specs.declared.fate.Fate.{Fate}
use Rattle.undo.specs.Fates.{fate_of, fates_of, is_deleted_by, stays_deleted}
use Rattle.undo.specs.Undone.{undone_ids}
use Rattle.undo.proofs.Along.{fate_deleted, fate_wanted, along_begins, along_moves, along_ends}
use Rattle.undo.proofs.Letters.{letter_there}
use Rattle.undo.proofs.ops.ops_along.Goals as goal

-- the fate that is read at a position
fate_read : (history : List Event) (undone : List Id) (fates : List Fate) (p : ℕ) (x : Id) (d : Fate) → fates ≡ fates_of history undone → slice_get (ids_of history) p ≡ Some x → get_or fates p d ≡ fate_of history undone x
fate_read history undone fates p x d is at =
    ap (λ (fs : List Fate). get_or fs p d) is
    ∙ get_or_from_slice_get (fates_of history undone) p (fate_of history undone x) d (slice_get-map (fate_of history undone) (ids_of history) p ∙ ap (option_map (fate_of history undone)) at)

pub loop-position-init : goal.loop-position-init
loop-position-init c = along_begins c.args.graph.now (undone_ids c.args.undone.now) c.new-script.result.ops.items c.new-script.result.at c.new-script.ensures.ops c.new-script.ensures.at

pub bounds-fates-position : goal.bounds-fates-position
bounds-fates-position c =
    let history = c.args.graph.now in
    let place = c.loop-position.position-index in
    let position = get_or c.args.order.now place 0 in
    let char = char_there history c.args.order.now place position c.requires.order (slice_get-get_or c.args.order.now place 0 c.loop-position-test.true) in
    let within = within_ids history position char.0.id char.2 in
    let long = ap (length {A = Fate}) c.requires.fates ∙ length-map (ids_of history) (fate_of history (undone_ids c.args.undone.now)) ∙ length-map history (λ (e : Event). e.id) in
    omega (arith, within, long)

pub id_near-id-requires : goal.id_near-id-requires
id_near-id-requires c =
    let history = c.args.graph.now in
    let place = c.loop-position.position-index in
    let position = get_or c.args.order.now place 0 in
    let char = char_there history c.args.order.now place position c.requires.order (slice_get-get_or c.args.order.now place 0 c.loop-position-test.true) in
    within_ids history position char.0.id char.2

pub letter-ch-requires-clause-within : goal.letter-ch-requires-clause-within
letter-ch-requires-clause-within c =
    let history = c.args.graph.now in
    let place = c.loop-position.position-index in
    let position = get_or c.args.order.now place 0 in
    let char = char_there history c.args.order.now place position c.requires.order (slice_get-get_or c.args.order.now place 0 c.loop-position-test.true) in
    within_ids history position char.0.id char.2

pub letter-ch-requires-clause-inserts : goal.letter-ch-requires-clause-inserts
letter-ch-requires-clause-inserts c =
    let history = c.args.graph.now in
    let place = c.loop-position.position-index in
    let position = get_or c.args.order.now place 0 in
    let char = char_there history c.args.order.now place position c.requires.order (slice_get-get_or c.args.order.now place 0 c.loop-position-test.true) in
    subst (λ (o : Option ℕ). IsSome o) (sym (letter_there history position place char.0 c.requires.good char.1 char.2)) refl

pub pass-requires : goal.pass-requires
pass-requires c =
    let history = c.args.graph.now in
    let low = c.loop-position.invariant.low in
    let within = c.loop-position-test.true in
    let long = order_long history c.args.order.now c.requires.order in
    let few = few_chars history c.requires.good in
    let count = c.count-count.ensures.count in
    omega (arith, low, within, long, few, count, c.count-count.type_inv)

pub loop-position-preserved : goal.loop-position-preserved
loop-position-preserved c =
    let history = c.args.graph.now in
    let undone = undone_ids c.args.undone.now in
    let place = c.loop-position.position-index in
    let position = get_or c.args.order.now place 0 in
    let char = char_there history c.args.order.now place position c.requires.order (slice_get-get_or c.args.order.now place 0 c.loop-position-test.true) in
    let z = char.0 in
    let letter : c.letter-ch.result ≡ z.ch = same_Some c.letter-ch.result z.ch (sym c.letter-ch.ensures ∙ letter_there history position place z c.requires.good char.1 char.2) in
    let own : c.id_near-id.result ≡ z.id = same_Some c.id_near-id.result z.id (sym c.id_near-id.ensures ∙ char.2) in
    let fate = fate_read history undone c.args.fates.now position z.id _ c.requires.fates char.2 in
    along_moves history undone place c.loop-position.script.ops.items c.pass.new.self.ops.items c.loop-position.script.at c.pass.new.self.at z c.letter-ch.result c.is_deleted.result c.is_wanted.result char.1 c.loop-position.invariant
    letter
    (c.is_deleted.ensures ∙ ap is_deleted_by fate ∙ fate_deleted history undone z)
    (c.is_wanted.ensures ∙ (λ i. not (is_among undone (own i)) && not (stays_deleted (fate i))) ∙ fate_wanted history undone z)
    c.in_ok-pass.ensures.ops
    c.in_ok-pass.ensures.at

pub returns : goal.returns
returns c =
    let history = c.args.graph.now in
    let place = c.loop-position.position-index in
    let long = order_long history c.args.order.now c.requires.order in
    let done = c.loop-position-test.false in
    along_ends history (undone_ids c.args.undone.now) place c.loop-position.script.ops.items c.loop-position.script.at c.requires.good (omega (arith, long, done)) c.loop-position.invariant
