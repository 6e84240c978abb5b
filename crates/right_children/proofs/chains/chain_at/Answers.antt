use Rattle.std.proofs.Common.{◌≡◌, Some, length, slice_get, refl, sym, ◌∙◌, subst}
use Rattle.std.proofs.lemmas.Bool.{ltb-false}
use Rattle.std.proofs.lemmas.Option.{none-some, slice_get_past, slice_get_read, IfSome_then}
use Rattle.right_children.specs.Chains.{IsHeldBy}
use Rattle.right_children.proofs.ChainLaws.{none_at, none_of}
use Rattle.right_children.proofs.chains.chain_at.Goals.{After-held}
use Rattle.right_children.proofs.chains.chain_at.Goals as goal

there : (c : After-held) → slice_get c.args.chains.now c.args.place ≡ Some c.in-Some.chain.now
there c = slice_get_read c.args.chains.now (length c.args.chains.now) c.args.place c.in-Some.chain.now refl c.in-Some.ensures.lookup.3.0 c.in-Some.ensures.lookup.1

pub returns-in-Some-clause-some : goal.returns-in-Some-clause-some
returns-in-Some-clause-some c = IfSome_then c.held.result c.held.ensures.some (λ d h.
    subst (IsHeldBy c.args.chains.now c.args.position) (sym h.0) (record { place = c.args.place; there = there c; low = h.1; high = h.2 }))

pub returns-in-Some-clause-none : goal.returns-in-Some-clause-none
returns-in-Some-clause-none c = none_of c.args.chains.now c.args.position c.args.place c.in-Some.chain.now c.held.result c.requires (there c) c.held.ensures.none

pub returns-in-None-clause-none : goal.returns-in-None-clause-none
returns-in-None-clause-none c =
    let past = slice_get_past c.args.chains.now c.args.place (ltb-false c.args.place (length c.args.chains.now) (sym c.in-None.ensures.lookup.0)) in
    none_at c.args.chains.now c.args.position c.args.place c.requires (λ d e low high. none-some d (sym past ∙ e))
