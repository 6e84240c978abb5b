use Rattle.std.proofs.Common.{◌≡◌, ℕ, ◌<◌, List, sym, ap, ◌∙◌, subst}
use Rattle.fugue_place.specs.Chains.{follower, entry_at, IsEndOf}
use Rattle.fugue_place.proofs.ChainLaws.{chain_end}
use Rattle.fugue_place.proofs.chains.Chains.end_of.Goals.{After-entry_at}
use Rattle.fugue_place.proofs.chains.Chains.end_of.Goals as goal

end : (c : After-entry_at) → entry_at c.args.self.now.ends.items (entry_at c.args.self.now.numbers.items c.args.at) ≡ c.entry_at.result
end c =
    let s = c.args.self.now in
    let number : entry_at s.numbers.items c.args.at ≡ c.entry_at-number.result = sym (c.entry_at-number.ensures ∙ ap (λ (xs : List ℕ). entry_at xs c.args.at) c.deref.ensures.value) in
    ap (entry_at s.ends.items) number ∙ sym (c.entry_at.ensures ∙ ap (λ (xs : List ℕ). entry_at xs c.entry_at-number.result) c.deref-2.ensures.value)

found : (c : After-entry_at) → IsEndOf (follower c.args.self.now.outer.items) c.args.at c.entry_at.result × (c.entry_at.result < c.args.self.now.count)
found c =
    let s = c.args.self.now in
    subst (λ (x : ℕ). IsEndOf (follower s.outer.items) c.args.at x × (x < s.count)) (end c)
    (chain_end (s.count) (follower s.outer.items) (follower s.inner.items) (entry_at s.numbers.items) (entry_at s.ends.items) c.requires.chains.chains c.args.at c.requires.within)

pub returns-clause-end : goal.returns-clause-end
returns-clause-end c = (found c).0

pub returns-clause-within : goal.returns-clause-within
returns-clause-within c = (found c).1
