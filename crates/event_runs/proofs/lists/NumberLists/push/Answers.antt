use Rattle.std.proofs.Common.{◌≡◌, ◌∙◌, ◌≤◌, ◌∷◌, ◌++◌, [], ℕ, List, length, sym, ap, subst, arith, length-append}
use Rattle.event_runs.specs.Pieces.{pieces, AreEnds}
use Rattle.event_runs.proofs.Cutting.{pieces-push, ends_push}
use Rattle.event_runs.proofs.lists.NumberLists.push.Goals as goal

pub invariant_of-self-2 : goal.invariant_of-self-2
invariant_of-self-2 c =
    let ends = c.self.inside.ends.items in
    let numbers = c.self.inside.numbers.items in
    let more : c.extend_from_slice.new.self.items ≡ numbers ++ c.args.list.now = c.in_ok-extend_from_slice.ensures.items in
    let end : c.len.result ≡ length c.extend_from_slice.new.self.items = c.len.ensures ∙ c.extend_from_slice.new.self.ok.0 in
    let made : ends ++ length c.extend_from_slice.new.self.items ∷ [] ≡ c.push_reserved.new.self.items =
    (λ i. sym c.in_ok-reserve.ensures.items i ++ sym end i ∷ []) ∙ sym c.push_reserved.ensures.items in
    let long : length numbers ≤ length c.extend_from_slice.new.self.items = let all = ap length more in omega (arith, all, length-append numbers c.args.list.now) in
    subst (λ (es : List ℕ). AreEnds 0 es (length c.extend_from_slice.new.self.items)) made (ends_push 0 ends (length numbers) (length c.extend_from_slice.new.self.items) c.self.invariant long)

pub returns-clause-ok : goal.returns-clause-ok
returns-clause-ok c =
    let ends = c.self.inside.ends.items in
    let numbers = c.self.inside.numbers.items in
    let more : c.extend_from_slice.new.self.items ≡ numbers ++ c.args.list.now = c.in_ok-extend_from_slice.ensures.items in
    let end : c.len.result ≡ length (numbers ++ c.args.list.now) = c.len.ensures ∙ c.extend_from_slice.new.self.ok.0 ∙ ap length more in
    let made : c.push_reserved.new.self.items ≡ ends ++ length (numbers ++ c.args.list.now) ∷ [] =
    c.push_reserved.ensures.items ∙ (λ i. c.in_ok-reserve.ensures.items i ++ end i ∷ []) in
    (λ i. pieces 0 (made i) (more i)) ∙ pieces-push 0 ends numbers c.args.list.now c.self.invariant ∙ ap (λ (lists : List (List ℕ)). lists ++ c.args.list.now ∷ []) c.self.view_is
