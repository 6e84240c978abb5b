use Rattle.std.proofs.Common.{◌≡◌, ℕ, ◌≤◌, true, nat_eq, heap_items, IfSome, sym, subst}
use Rattle.std.specs.Option.{option_copied}
use Rattle.ew_model.specs.Graph.{is_named}
use Rattle.ancestors.proofs.PendingLists.{highest_all}
use Rattle.ancestors.proofs.pending.Pending.highest.Goals as goal

pub returns-clause-greatest : goal.returns-clause-greatest
returns-clause-greatest c =
    subst (λ r. IfSome r (λ n. (q : ℕ) → is_named nat_eq c.args.self.now q ≡ true → q ≤ n)) (sym c.copied.ensures)
    (subst (λ ps. IfSome (option_copied c.peek.result) (λ n. (q : ℕ) → is_named nat_eq ps q ≡ true → q ≤ n)) c.self.view_is
    (highest_all c.peek.result (heap_items c.self.inside.positions) c.peek.ensures.greatest c.self.invariant))
