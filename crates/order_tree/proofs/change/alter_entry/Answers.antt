use Rattle.std.proofs.Common.{◌≡◌, ◌<◌, ℕ, Option, None, length, slice_index_or, Contains, refl, sym, ap, ◌∙◌, subst}
use Rattle.order_tree.specs.declared.change.Taken.{Taken}
use Rattle.order_tree.specs.Alterations.{IsAnswer}
use Rattle.order_tree.proofs.EntryLaws.{as_parts, entry_is, entry_at}
use Rattle.order_tree.proofs.ChangeLaws.{entry_changed, entry_moved, moved_one}
use Rattle.order_tree.proofs.change.alter_entry.Goals as goal

pub place_of-k-requires-clause-rising : goal.place_of-k-requires-clause-rising
place_of-k-requires-clause-rising g c = rw c.as_slice-list.ensures.value (as_parts c.args.entries.now.items c.requires.rising)

pub alter-requires : goal.alter-requires
alter-requires g c =
    let ps = c.args.entries.now.items in
    let k = c.place_of-k.result in
    let list = c.as_slice-list.ensures.value in
    let lt : k < length ps = rw list at c.place_of-k.ensures.within in
    let p = c.index-list-k.result in
    let is : p ≡ slice_index_or ps k p = rw list at c.index-list-k.is in
    let below = rw list at c.place_of-k.ensures.before in
    let above = rw list at c.place_of-k.ensures.behind in
    subst (λ (q : ℕ × _). g.A.Alteration.suits c.args.alteration.now q.1) c.index-list-k.is (c.requires.suits p.1 (entry_at ps k c.args.label p c.requires.held.0 lt is c.requires.rising below above c.requires.held.1))

pub returns-in_err-after-clause-taken : goal.returns-in_err-after-clause-taken
returns-in_err-after-clause-taken g c =
    let ps = c.args.entries.now.items in
    let k = c.place_of-k.result in
    let list = c.as_slice-list.ensures.value in
    let lt : k < length ps = rw list at c.place_of-k.ensures.within in
    let p = c.index-list-k.result in
    let is : p ≡ slice_index_or ps k p = rw list at c.index-list-k.is in
    let below = rw list at c.place_of-k.ensures.before in
    let above = rw list at c.place_of-k.ensures.behind in
    let own = sym c.index-list-k.is in
    subst (λ (o : Option (Taken _)). IsAnswer g.R.Run (g.A.Alteration.makes c.args.alteration.now) c.args.label ps ps o) (sym c.from_residual.ensures)
    (refl, λ run held. subst (λ (q : ℕ × _). g.A.Alteration.makes c.args.alteration.now q.1 None) (own ∙ entry_is ps k c.args.label p run lt is c.requires.rising below above held) c.in_err-after.ensures)

pub returns-clause-taken : goal.returns-clause-taken
returns-clause-taken g c =
    let ps = c.args.entries.now.items in
    let k = c.place_of-k.result in
    let list = c.as_slice-list.ensures.value in
    let lt : k < length ps = rw list at c.place_of-k.ensures.within in
    let p = c.index-list-k.result in
    let is : p ≡ slice_index_or ps k p = rw list at c.index-list-k.is in
    let below = rw list at c.place_of-k.ensures.before in
    let above = rw list at c.place_of-k.ensures.behind in
    let same = entry_is ps k c.args.label p c.requires.held.0 lt is c.requires.rising below above c.requires.held.1 in
    let after = c.in_ok-after.after in
    let own = sym c.index-list-k.is in
    record {
      before = subst (λ (q : ℕ × _). Contains ps (c.args.label, q.1)) c.index-list-k.is (entry_at ps k c.args.label p c.requires.held.0 lt is c.requires.rising below above c.requires.held.1);
      after = c.in_ok-after.ensures;
      pairs = entry_changed g.R.Run ps k c.args.label p lt is below above after (ap (λ (q : ℕ × _). q.0) same);
      moved = entry_moved g.R.Run ps k c.args.label p lt is below above (c.args.label, after) c.of-lost.result c.of-gained.result
          (moved_one g.R.Run p (c.args.label, after) c.of-lost.result c.of-gained.result
          (c.of-lost.ensures.known ∙ ap (λ (q : ℕ × _). g.R.Run.known q.1) own) (c.of-lost.ensures.prepared ∙ ap (λ (q : ℕ × _). g.R.Run.prepared q.1) own) (c.of-lost.ensures.effect ∙ ap (λ (q : ℕ × _). g.R.Run.effect q.1) own)
          c.of-gained.ensures.known c.of-gained.ensures.prepared c.of-gained.ensures.effect);
      gained = c.of-gained.ensures.known;
    }
