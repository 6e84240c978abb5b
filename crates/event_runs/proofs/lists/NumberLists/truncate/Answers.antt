use Rattle.std.proofs.Common.{◌≡◌, ◌∙◌, ◌≤◌, ℕ, List, length, take, sym, ap, subst, arith}
use Rattle.std.proofs.lemmas.List.{length-take-le, take_all}
use Rattle.event_runs.specs.Pieces.{pieces, start_of, AreEnds}
use Rattle.event_runs.proofs.Cutting.{length-pieces, pieces-cut, ends_take, start_within}
use Rattle.event_runs.proofs.lists.NumberLists.truncate.Goals as goal

pub invariant_of-self : goal.invariant_of-self
invariant_of-self c =
    let ends = c.self.inside.ends.items in
    let numbers = c.self.inside.numbers.items in
    let few : c.args.n ≤ length ends = omega (arith, c.if-n-len.true, c.len.ensures, c.self.inside.ends.ok.0) in
    let start : c.start.result ≡ start_of 0 ends c.args.n = c.start.ensures ∙ ap (λ (es : List ℕ). start_of 0 es c.args.n) c.deref.ensures.value in
    let within : c.start.result ≤ length numbers = omega (arith, start, start_within 0 ends (length numbers) c.args.n c.self.invariant few) in
    let long : start_of 0 ends c.args.n ≡ length c.truncate.new.self.items = sym start ∙ sym (length-take-le c.start.result numbers within) ∙ ap length (sym c.truncate.ensures.items) in
    subst (λ (es : List ℕ). AreEnds 0 es (length c.truncate.new.self.items)) (sym c.truncate-then-n-len.ensures.items)
    (subst (AreEnds 0 (take c.args.n ends)) long (ends_take 0 ends (length numbers) c.args.n c.self.invariant few))

pub returns-then-n-len : goal.returns-then-n-len
returns-then-n-len c =
    let ends = c.self.inside.ends.items in
    let numbers = c.self.inside.numbers.items in
    let few : c.args.n ≤ length ends = omega (arith, c.if-n-len.true, c.len.ensures, c.self.inside.ends.ok.0) in
    let start : c.start.result ≡ start_of 0 ends c.args.n = c.start.ensures ∙ ap (λ (es : List ℕ). start_of 0 es c.args.n) c.deref.ensures.value in
    let less : c.truncate.new.self.items ≡ take (start_of 0 ends c.args.n) numbers = c.truncate.ensures.items ∙ ap (λ m. take m numbers) start in
    (λ i. pieces 0 (c.truncate-then-n-len.ensures.items i) (less i)) ∙ pieces-cut 0 ends numbers (length numbers) c.args.n c.self.invariant few ∙ ap (λ (lists : List (List ℕ)). take c.args.n lists) c.self.view_is

pub returns-else-n-len : goal.returns-else-n-len
returns-else-n-len c =
    let long = ap length c.self.view_is in
    sym (take_all c.args.n c.args.self.now (omega (arith, long, length-pieces 0 c.self.inside.ends.items c.self.inside.numbers.items, c.if-n-len.false, c.len.ensures, c.self.inside.ends.ok.0)))
