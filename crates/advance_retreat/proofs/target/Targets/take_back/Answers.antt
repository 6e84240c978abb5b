use Rattle.std.proofs.Common.{◌≡◌, ◌-◌, ◌<◌, ℕ, None, List, ◌++◌, length, take, nat_eq, if◌then◌else◌, sym, ap, ◌∙◌, subst, arith}
use Rattle.std.specs.Ordering.{nat_cmp}
use Rattle.std.specs.BTreeMap.{get}
use Rattle.std.specs.Vec.{vec_len}
use Rattle.std.proofs.lemmas.Bool.{false≢true, eq-eqb}
use Rattle.advance_retreat.specs.declared.target.Target.{Target}
use Rattle.advance_retreat.specs.Kept.{target_at, AreFound}
use Rattle.advance_retreat.specs.Runs.{events_in}
use Rattle.advance_retreat.proofs.Found.{fewer_found, last_later}
use Rattle.advance_retreat.proofs.RunLaws.{untold_later}
use Rattle.advance_retreat.proofs.target.Targets.take_back.Goals.{After-pop}
use Rattle.advance_retreat.proofs.target.Targets.take_back.Goals as goal

some : (c : After-pop) → 0 < length c.self.inside.later.items
some c =
    let other : vec_len c.self.inside.later ≡ 0 → ⊥ = λ none. false≢true (sym c.if-is_empty.false ∙ c.is_empty.ensures ∙ eq-eqb (vec_len c.self.inside.later) 0 none) in
    omega (arith, c.self.inside.later.ok.0, other)

rest : (c : After-pop) → c.pop.new.self.items ≡ take (length c.self.inside.later.items - 1) c.self.inside.later.items
rest c =
    let items = c.self.inside.later.items in
    let long : vec_len c.self.inside.later - 1 ≡ length items - 1 = omega (arith, c.self.inside.later.ok.0) in
    c.pop.ensures.rest ∙ ap (λ (k : ℕ). take k items) long

pub invariant_of-self-else-is_empty : goal.invariant_of-self-else-is_empty
invariant_of-self-else-is_empty c =
    let q = c.requires in
    let es = events_in c.self.inside.runs in
    let items = c.self.inside.later.items in
    let last = last_later es items q.0 q.1 (c.self.view_is ∙ q.2) (some (goal.at.invariant_of-self-else-is_empty c).After-pop) in
    let front : target_at (es ++ take (length items - 1) items) q.1.lv ≡ None = ap (λ (ts : List Target). target_at ts q.1.lv) last.1 ∙ ap (target_at q.0) q.3 ∙ q.4 in
    subst (λ (ts : List Target). AreFound ts (get nat_cmp c.forget.new.nodes)) (sym (rest (goal.at.invariant_of-self-else-is_empty c).After-pop))
    (fewer_found (take (length items - 1) items) q.1 (get nat_cmp c.self.inside.others) (get nat_cmp c.forget.new.nodes) (subst (λ (ts : List Target). AreFound ts (get nat_cmp c.self.inside.others)) last.0 c.self.invariant)
    (untold_later es (take (length items - 1) items) q.1.lv front) (λ n. c.forget.ensures n ∙ ap (λ (k : ℕ). if nat_eq k n then None else get nat_cmp c.self.inside.others n) (sym q.3)))

pub returns-else-is_empty : goal.returns-else-is_empty
returns-else-is_empty c = λ ts t is.
    let es = events_in c.self.inside.runs in
    ap (λ (us : List Target). es ++ us) (rest (goal.at.returns-else-is_empty c).After-pop) ∙ (last_later es c.self.inside.later.items ts t (c.self.view_is ∙ is) (some (goal.at.returns-else-is_empty c).After-pop)).1
