use Rattle.std.proofs.Common.{◌≡◌, ℕ, ◌^◌, List, map, Contains, subst, sym, ap, ◌∙◌}
use Rattle.order_tree.specs.Pairs.{Tree, AreGivenIn}
use Rattle.order_tree.specs.Abouts.{IsSpreadIn}
use Rattle.order_tree.specs.Whole.{tree_of, IsWhole}
use Rattle.order_tree.proofs.AboutLaws.{spread_noted, whole_spread, spread_given, spread_own, spread_room}
use Rattle.order_tree.proofs.tree.OrderTree.relabel_about.Goals as goal

pub own_of-own-requires : goal.own_of-own-requires
own_of-own-requires g c =
    let is : c.args.self.now ≡ c.in-Some.root = sym c.self.view_is ∙ ap tree_of c.in-Some.is in
    let whole = subst (λ (t : Tree _). IsWhole g.R.Run c.self.inside.runs t) (ap tree_of c.in-Some.is) c.self.invariant in
    let old : Tree _ = c.in-Some.root in
    let new : Tree _ = c.relabel_about.new.self in
    let given = c.in-Given.given.items in
    let spread : IsSpreadIn (2 ^ 64) c.args.label old.pairs new.pairs given = c.in-Given.ensures.tried in
    subst (λ (gs : List (ℕ × (ℕ × _))). Contains (map (λ n. n.0) gs) c.args.label) (sym c.as_slice.ensures.value) (spread_noted g.R.Run c.self.inside.runs c.args.label old new given spread whole)

pub invariant_of-self-in-Given-2 : goal.invariant_of-self-in-Given-2
invariant_of-self-in-Given-2 g c =
    let is : c.args.self.now ≡ c.in-Some.root = sym c.self.view_is ∙ ap tree_of c.in-Some.is in
    let whole = subst (λ (t : Tree _). IsWhole g.R.Run c.self.inside.runs t) (ap tree_of c.in-Some.is) c.self.invariant in
    let old : Tree _ = c.in-Some.root in
    let new : Tree _ = c.relabel_about.new.self in
    let given = c.in-Given.given.items in
    let spread : IsSpreadIn (2 ^ 64) c.args.label old.pairs new.pairs given = c.in-Given.ensures.tried in
    whole_spread g.R.Run c.self.inside.runs c.args.label old new given spread whole c.relabel_about.ensures.depth

pub returns-in-Given-clause-given : goal.returns-in-Given-clause-given
returns-in-Given-clause-given g c =
    let is : c.args.self.now ≡ c.in-Some.root = sym c.self.view_is ∙ ap tree_of c.in-Some.is in
    let whole = subst (λ (t : Tree _). IsWhole g.R.Run c.self.inside.runs t) (ap tree_of c.in-Some.is) c.self.invariant in
    let old : Tree _ = c.in-Some.root in
    let new : Tree _ = c.relabel_about.new.self in
    let given = c.in-Given.given.items in
    let spread : IsSpreadIn (2 ^ 64) c.args.label old.pairs new.pairs given = c.in-Given.ensures.tried in
    subst (λ (t : Tree _). AreGivenIn t.pairs new.pairs given) (sym is) (spread_given g.R.Run c.self.inside.runs c.args.label old new given spread whole)

pub returns-in-Given-clause-own : goal.returns-in-Given-clause-own
returns-in-Given-clause-own g c =
    let run = c.own_of-own.ensures.0 in
    let own = c.own_of-own.result in
    (run, subst (λ (gs : List (ℕ × (ℕ × _))). Contains gs (c.args.label, (own, run))) c.as_slice.ensures.value c.own_of-own.ensures.1)

pub returns-in-Given-clause-stands : goal.returns-in-Given-clause-stands
returns-in-Given-clause-stands g c = λ r there.
    let is : c.args.self.now ≡ c.in-Some.root = sym c.self.view_is ∙ ap tree_of c.in-Some.is in
    let whole = subst (λ (t : Tree _). IsWhole g.R.Run c.self.inside.runs t) (ap tree_of c.in-Some.is) c.self.invariant in
    let old : Tree _ = c.in-Some.root in
    let new : Tree _ = c.relabel_about.new.self in
    let given = c.in-Given.given.items in
    let spread : IsSpreadIn (2 ^ 64) c.args.label old.pairs new.pairs given = c.in-Given.ensures.tried in
    let run = c.own_of-own.ensures.0 in
    let own = c.own_of-own.result in
    let noted = subst (λ (gs : List (ℕ × (ℕ × _))). Contains gs (c.args.label, (own, run))) c.as_slice.ensures.value c.own_of-own.ensures.1 in
    spread_own g.R.Run c.self.inside.runs c.args.label old new given spread whole own run noted r (subst (λ (t : Tree _). Contains t.pairs (c.args.label, r)) is there)

pub returns-in-Given-clause-room : goal.returns-in-Given-clause-room
returns-in-Given-clause-room g c =
    let is : c.args.self.now ≡ c.in-Some.root = sym c.self.view_is ∙ ap tree_of c.in-Some.is in
    let whole = subst (λ (t : Tree _). IsWhole g.R.Run c.self.inside.runs t) (ap tree_of c.in-Some.is) c.self.invariant in
    let old : Tree _ = c.in-Some.root in
    let new : Tree _ = c.relabel_about.new.self in
    let given = c.in-Given.given.items in
    let spread : IsSpreadIn (2 ^ 64) c.args.label old.pairs new.pairs given = c.in-Given.ensures.tried in
    let run = c.own_of-own.ensures.0 in
    let own = c.own_of-own.result in
    let noted = subst (λ (gs : List (ℕ × (ℕ × _))). Contains gs (c.args.label, (own, run))) c.as_slice.ensures.value c.own_of-own.ensures.1 in
    spread_room g.R.Run c.self.inside.runs c.args.label old new given spread whole own run noted
