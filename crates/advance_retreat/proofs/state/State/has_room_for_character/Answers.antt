use Rattle.std.proofs.Common.{◌&&◌, nat_lt, length, ap, sym, ◌∙◌}
use Rattle.ew_model.specs.Entries.{visible}
use Rattle.ew_model.specs.Records.{applied_entries}
use Rattle.advance_retreat.specs.Standing.{most}
use Rattle.advance_retreat.proofs.state.State.has_room_for_character.Goals as goal

pub returns-then-has_room_for_event : goal.returns-then-has_room_for_event
returns-then-has_room_for_event c = λ b events prepared st.
    let room = sym (c.has_room_for_event.ensures b events prepared st) ∙ c.if-has_room_for_event.true in
    ap (λ n. nat_lt n most) (c.effect_len.ensures b events prepared st) ∙ sym (ap (λ e. e && nat_lt (length (visible (applied_entries b events))) most) room)

pub returns-else-has_room_for_event : goal.returns-else-has_room_for_event
returns-else-has_room_for_event c = λ b events prepared st.
    let room = sym (c.has_room_for_event.ensures b events prepared st) ∙ c.if-has_room_for_event.false in
    c.if-has_room_for_event.false ∙ sym (ap (λ e. e && nat_lt (length (visible (applied_entries b events))) most) room)
