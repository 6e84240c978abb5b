use Rattle.std.proofs.Common.{ℕ, ◌<◌, Option, IsSome, refl, sym, subst, arith}
use Rattle.std.specs.Option.{IfSome}
use Rattle.fugue_place.specs.Ways.{IsPrepared}
use Rattle.fugue_place.proofs.ReadyWays.{ready_same, given_up}
use Rattle.fugue_place.proofs.ways.Ways.give_up.Goals as goal

pub overflow_cast-at : goal.overflow_cast-at
overflow_cast-at c =
    let v = c.requires.0 in
    let early : c.in-Some.at < v.count = subst (λ (o : Option ℕ). IfSome o (λ k. k < v.count)) c.in-Some.is c.requires.2.ready.early in
    let few = c.requires.1.sound.few in
    omega (arith, early, few)

pub take_back-requires : goal.take_back-requires
take_back-requires c = subst (λ (o : Option ℕ). IsSome o) (sym (c.requires.2.ready.leads c.in-Some.at c.in-Some.is)) refl

pub returns-in-Some : goal.returns-in-Some
returns-in-Some c = λ v prepared.
    given_up v c.args.self.now _ c.in-Some.at c.args.was (subst (λ (o : Option ℕ). IsPrepared v c.args.self.now o c.args.was) c.in-Some.is prepared) refl refl refl refl
    (record { count = refl; outer = refl; inner = refl; numbers = refl; ends = refl }) c.take_back.ensures

pub returns-in_default : goal.returns-in_default
returns-in_default c = λ v prepared.
    let none = subst (λ (o : Option ℕ). IsPrepared v c.args.self.now o c.args.was) c.in_default.is prepared in
    ready_same v c.args.self.now none.ready
