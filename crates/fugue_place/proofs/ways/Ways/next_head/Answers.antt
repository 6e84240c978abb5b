use Rattle.std.proofs.Common.{◌≡◌, ℕ, List, get_or, sym, ap, ◌∙◌, arith}
use Rattle.fugue_place.specs.Ways.{next_head}
use Rattle.fugue_place.proofs.HeadSearch.{found_next}
use Rattle.fugue_place.proofs.ways.Ways.next_head.Goals.{After-heads_to}
use Rattle.fugue_place.proofs.ways.Ways.next_head.Goals as goal

-- it is the head behind all up to the place, if there is one
next : (c : After-heads_to) → next_head c.args.self.now.heads.items c.args.self.now.count c.args.at ≡ get_or c.args.self.now.heads.items c.heads_to.result c.args.self.now.count
next c =
    let w = c.args.self.now in
    found_next w c.requires.sound c.deref-2.result.now c.deref-2.ensures.value c.args.at c.heads_to.result c.requires.within c.heads_to.ensures.bound c.heads_to.ensures.to c.heads_to.ensures.behind

pub returns-in-Some : goal.returns-in-Some
returns-in-Some c =
    let n = c.args.self.now.count in
    c.in-Some.ensures.lookup.4 (omega arith) n ∙ ap (λ (xs : List ℕ). get_or xs c.heads_to.result n) c.deref.ensures.value ∙ sym (next (goal.at.returns-in-Some c).After-heads_to)

pub returns-in-None : goal.returns-in-None
returns-in-None c =
    let n = c.args.self.now.count in
    c.in-None.ensures.lookup.4 (omega arith) n ∙ ap (λ (xs : List ℕ). get_or xs c.heads_to.result n) c.deref.ensures.value ∙ sym (next (goal.at.returns-in-None c).After-heads_to)
