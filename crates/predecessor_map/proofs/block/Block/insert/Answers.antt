use Rattle.std.proofs.Common.{◌≡◌, ◌<◌, ℕ, Bool, true, false, List, All, if◌then◌else◌, is_ok, insert, sym, ap, ◌∙◌, subst}
use Rattle.predecessor_map.specs.Entries.{label_in, IsRising, IsEntryOf, IsGapFor}
use Rattle.predecessor_map.proofs.EntryLaws.{label_put, label_inserted, rises_inserted, small_inserted, none_between}
use Rattle.predecessor_map.proofs.block.Block.insert.Goals as goal

-- what holds of the entries with a new one and of those without it holds of those that are left
either : (P : List (ℕ × ℕ) → Type 0) (done : Bool) (old new left : List (ℕ × ℕ)) → left ≡ (if done then new else old) → P new → P old → P left
either P true old new left is more less = subst P (sym is) more
either P false old new left is more less = subst P (sym is) less

pub invariant_of-self-in-Err : goal.invariant_of-self-in-Err
invariant_of-self-in-Err c =
    let es = c.args.self.now.entries.items in
    let free = subst (λ (xs : List (ℕ × ℕ)). IsGapFor xs c.args.offset c.in-Err.place) c.as_slice.ensures.value c.in-Err.ensures.err in
    record {
      rising = either IsRising (is_ok c.insert.result) es (insert es c.in-Err.place (c.args.offset, c.args.label)) c.insert.new.self.items c.insert.ensures.items
          (rises_inserted es c.args.offset c.in-Err.place c.args.label free c.args.self.now.rising) c.args.self.now.rising;
      small = either (All (λ e. e.0 < 64)) (is_ok c.insert.result) es (insert es c.in-Err.place (c.args.offset, c.args.label)) c.insert.new.self.items c.insert.ensures.items
          (small_inserted es c.args.offset c.in-Err.place c.args.label free c.requires c.args.self.now.small) c.args.self.now.small;
    }

pub returns-in-Ok-clause-ok : goal.returns-in-Ok-clause-ok
returns-in-Ok-clause-ok c =
    label_put c.args.self.now.entries.items c.args.offset c.in-Ok.place c.args.label c.args.self.now.rising
    (subst (λ (es : List (ℕ × ℕ)). IsEntryOf es c.args.offset c.in-Ok.place) c.as_slice.ensures.value c.in-Ok.ensures.ok)

pub returns-in-Ok-insert-clause-ok : goal.returns-in-Ok-insert-clause-ok
returns-in-Ok-insert-clause-ok c = λ k.
    ap (λ (es : List (ℕ × ℕ)). label_in es k) c.in-Ok-insert.ensures.items
    ∙ label_inserted c.args.self.now.entries.items c.args.offset c.in-Err.place c.args.label
    (subst (λ (xs : List (ℕ × ℕ)). IsGapFor xs c.args.offset c.in-Err.place) c.as_slice.ensures.value c.in-Err.ensures.err) k

pub returns-in-Err-insert-clause-absent : goal.returns-in-Err-insert-clause-absent
returns-in-Err-insert-clause-absent c =
    none_between c.args.self.now.entries.items c.args.offset c.in-Err.place
    (subst (λ (xs : List (ℕ × ℕ)). IsGapFor xs c.args.offset c.in-Err.place) c.as_slice.ensures.value c.in-Err.ensures.err)
