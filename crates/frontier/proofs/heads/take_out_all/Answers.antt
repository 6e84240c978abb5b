use Rattle.std.proofs.Common.{◌∙◌, ◌<◌, ℕ, List, length, refl, arith, sym, ap, subst, take, not, filter, nat_eq, slice_index_or}
use Rattle.std.specs.List.Sorted.{IsStrictlyIncreasing}
use Rattle.std.proofs.lemmas.List.{take_more}
use Rattle.std.proofs.lemmas.List.Kept.{IsStrictlyIncreasing-filter}
use Rattle.ew_model.specs.Graph.{is_named}
use Rattle.frontier.proofs.Removals.{none_out, without_more}
use Rattle.frontier.specs.Heads.{without}
use Rattle.frontier.proofs.heads.take_out_all.Goals as goal

pub loop-position-init : goal.loop-position-init
loop-position-init c = (sym (none_out c.args.heads.now.items), refl)

pub take_out-requires : goal.take_out-requires
take_out-requires c =
    record { rising = subst IsStrictlyIncreasing (sym c.loop-position.invariant.0) (IsStrictlyIncreasing-filter (λ h. not (is_named nat_eq (take c.loop-position.position-index c.args.positions.now) h)) c.args.heads.now.items c.requires.rising) }

pub loop-position-preserved : goal.loop-position-preserved
loop-position-preserved c =
    let p = slice_index_or c.args.positions.now c.loop-position.position-index 0 in
    let next = take c.loop-position.position-index c.args.positions.now in
    let within : c.loop-position.position-index < length c.args.positions.now = omega arith in (
      c.take_out.ensures.items
          ∙ ap (without p) c.loop-position.invariant.0
          ∙ without_more c.args.heads.now.items next p
          ∙ ap (λ (ps : List ℕ). filter (λ h. not (is_named nat_eq ps h)) c.args.heads.now.items) (sym (take_more c.args.positions.now c.loop-position.position-index 0 within)),
      c.take_out.ensures.capacity ∙ c.loop-position.invariant.1,
    )
