use Rattle.std.proofs.Common.{ℕ, ◌<◌, Option, refl, sym, ◌∙◌, subst}
use Rattle.std.specs.Option.{IfNone}
use Rattle.std.proofs.lemmas.Option.{slice_get_within}
use Rattle.fugue_place.specs.Lines.{IsNoOutermost}
use Rattle.fugue_place.specs.Ways.{way_of}
use Rattle.fugue_place.proofs.LeaderLaws.{no_parent, follower_early, no_further, new_further, new_only}
use Rattle.fugue_place.proofs.leaders.leader_of.Goals as goal

pub returns-in_err-at-clause-none : goal.returns-in_err-at-clause-none
returns-in_err-at-clause-none c =
    let xs = c.args.children.now.items in
    let outer = way_of c.args.ways.now in
    let outward = c.requires.ways in
    subst (λ (o : Option ℕ). IfNone o (IsNoOutermost c.args.child.now.side xs outer c.args.child.now)) (sym c.from_residual.ensures) (no_parent xs c.requires.attached c.args.child.now.side outer outward.outermost c.args.child.now c.in_err-at.ensures.none)

pub follower-requires : goal.follower-requires
follower-requires c =
    let xs = c.args.children.now.items in
    let outward = c.requires.ways in
    let found = c.in_ok-at.ensures.some in
    record { ways = outward.ways; within = subst (λ (n : ℕ). c.in_ok-at.at < n) (sym outward.count) (slice_get_within xs c.in_ok-at.at found.0 found.1) }

pub get-rival-requires : goal.get-rival-requires
get-rival-requires c =
    let xs = c.args.children.now.items in
    let outer = way_of c.args.ways.now in
    let outward = c.requires.ways in
    let found = c.in_ok-at.ensures.some in
    follower_early xs c.requires.attached c.args.child.now.side outer outward.outermost c.args.child.now c.in_ok-at.at found.0 found.1 found.2 c.in-Some.k (sym c.follower.ensures ∙ c.in-Some.is)

pub returns-then-not-is_further-clause-none : goal.returns-then-not-is_further-clause-none
returns-then-not-is_further-clause-none c =
    let xs = c.args.children.now.items in
    let outer = way_of c.args.ways.now in
    let outward = c.requires.ways in
    let found = c.in_ok-at.ensures.some in
    no_further xs c.requires.attached c.args.child.now.side outer outward.outermost c.args.child.now c.in_ok-at.at found.0 found.1 found.2 c.in-Some.k c.get-rival.result (sym c.follower.ensures ∙ c.in-Some.is) c.get-rival.ensures (sym c.if-not-is_further.ensures)

pub returns-else-not-is_further-clause-some : goal.returns-else-not-is_further-clause-some
returns-else-not-is_further-clause-some c =
    let xs = c.args.children.now.items in
    let outer = way_of c.args.ways.now in
    let outward = c.requires.ways in
    let found = c.in_ok-at.ensures.some in
    new_further xs c.requires.attached c.args.child.now.side outer outward.outermost c.args.child.now c.in_ok-at.at found.0 found.1 found.2 c.in-Some.k c.get-rival.result (sym c.follower.ensures ∙ c.in-Some.is) c.get-rival.ensures (sym c.if-not-is_further.ensures)
    refl

pub returns-in_default-clause-some : goal.returns-in_default-clause-some
returns-in_default-clause-some c =
    let xs = c.args.children.now.items in
    let outer = way_of c.args.ways.now in
    let outward = c.requires.ways in
    let found = c.in_ok-at.ensures.some in
    new_only xs c.requires.attached c.args.child.now.side outer outward.outermost c.args.child.now c.in_ok-at.at found.0 found.1 found.2 (sym c.follower.ensures ∙ c.in_default.is)
    refl
