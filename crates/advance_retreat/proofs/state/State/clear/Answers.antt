use Rattle.std.proofs.Common.{ℕ, [], length, sym, subst}
use Rattle.ew_model.specs.Entries.{visible}
use Rattle.ew_model.specs.Records.{applied_entries}
use Rattle.advance_retreat.specs.Kept.{Kept}
use Rattle.advance_retreat.specs.Standing.{StandsFor}
use Rattle.advance_retreat.proofs.state.State.clear.Goals as goal

pub returns-clause-ok : goal.returns-clause-ok
returns-clause-ok c = λ b events prepared st.
    subst (λ (s : Kept). StandsFor s (length (visible (applied_entries b events))) [] []) (sym c.drop.view_is)
    (subst (λ (n : ℕ). StandsFor c.in_ok-self-inside.field-0 n [] []) (c.effect_len.ensures b events prepared st) c.in_ok-self-inside.ensures.stands)
