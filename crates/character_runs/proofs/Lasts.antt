-- The last labelled node up to another, in the maps.
use Rattle.std.proofs.Common.{◌≡◌, ℕ, true, Option, Some, None, IfSome, IsSome}
use Rattle.std.proofs.lemmas.Bool.{leb-true, le-leb}
use Rattle.ew_model.specs.declared.node.Node.{Node}
use Rattle.ew_model.specs.declared.node.Node.TheVariants.{Root, Base, Event}
use Rattle.character_runs.specs.declared.kept.Kept.{Kept}
use Rattle.predecessor_map.specs.Labels.{IsLastIn}
use Rattle.predecessor_map.specs.Maps.{label_at}
use Rattle.character_runs.specs.Kept.{kept_label, is_up_to, IsLastOf}

-- the last number in the map of the base, or in that of events, as a node
last_base : (t : Kept) (i key label : ℕ) → IsLastIn (label_at t.base) i key label → IsLastOf (kept_label t) (Base i) (record { node = Base key; label = label })
last_base t i key label h = record {
  before = le-leb key i h.before;
  here = h.has;
  last = at;
}
  where
    at : (w : Node) → is_up_to w (Base i) ≡ true → IsSome (kept_label t w) → is_up_to w (Base key) ≡ true
    at Root e s = e
    at (Base k) e s = le-leb k key (h.last k (leb-true k i e) s)
    at (Event k) e s = e

last_event : (t : Kept) (i key label : ℕ) → IsLastIn (label_at t.events) i key label → IsLastOf (kept_label t) (Event i) (record { node = Event key; label = label })
last_event t i key label h = record {
  before = le-leb key i h.before;
  here = h.has;
  last = at;
}
  where
    at : (w : Node) → is_up_to w (Event i) ≡ true → IsSome (kept_label t w) → is_up_to w (Event key) ≡ true
    at Root e s = e
    at (Base k) e s = e
    at (Event k) e s = le-leb k key (h.last k (leb-true k i e) s)

pub some_base : (t : Kept) (i : ℕ) (found : Option (ℕ × ℕ)) → IfSome found (λ (e : ℕ × ℕ). IsLastIn (label_at t.base) i e.0 e.1) → IfSome found (λ (e : ℕ × ℕ). IsLastOf (kept_label t) (Base i) (record { node = Base e.0; label = e.1 }))
some_base t i None h = h
some_base t i (Some e) h = last_base t i e.0 e.1 h

pub some_event : (t : Kept) (i : ℕ) (found : Option (ℕ × ℕ)) → IfSome found (λ (e : ℕ × ℕ). IsLastIn (label_at t.events) i e.0 e.1) → IfSome found (λ (e : ℕ × ℕ). IsLastOf (kept_label t) (Event i) (record { node = Event e.0; label = e.1 }))
some_event t i None h = h
some_event t i (Some e) h = last_event t i e.0 e.1 h
