-- Ids and events of a history, and which ids have all of it among their ancestors.
use Rattle.std.proofs.Common.{◌≡◌, true, List, [], ◌∙◌}
use Rattle.std.specs.Cmp.{eq_by_cmp_equiv, IsEquivalence}
use Rattle.ew_model.specs.declared.id.Id.{Id}
use Rattle.ew_model.specs.declared.event.Event.{Event}
use Rattle.ew_model.specs.Sets.{Among}
use Rattle.ew_model.specs.Ids.{id_eq, is_among}
use Rattle.ew_model.specs.Ancestors.{ids_of, is_held, version_events, ancestors}
use Rattle.ew_model.specs.Ancestors.{is_reduced}
use Rattle.ew_model.specs.Cuts.{are_among}
use Rattle.ew_model.specs.CutRule.{are_heads}
use Rattle.ew_model.proofs.PathOrder.{id_total}
pub use Rattle.ew_model.proofs.ListTests.{passes, pass_all, pass_alike, one_fails, same_truth}
pub use Rattle.ew_model.proofs.SubgraphLaws.{closed_taken}
use Rattle.ew_model.proofs.VersionLaws.{PointsBack}
use Rattle.ew_model.proofs.EntryLaws.{LaidOut}
use Rattle.ew_model.proofs.GraphVersions as versions
use Rattle.ew_model.proofs.GraphOrder as order
use Rattle.ew_model.proofs.GraphHeads as covers

pub ids_alike : IsEquivalence id_eq
ids_alike = eq_by_cmp_equiv id_total

-- an id that is found is that of an event
pub event_of : (events : List Event) (x : Id) → is_held events x ≡ true → (f : Event) × Among f events × (id_eq x f.id ≡ true)
event_of events x h = order.event_of (λ (e : Event). e.id) (λ (e : Event). e.parents) id_eq events x h

pub held_by : (events : List Event) (x : Id) (f : Event) → Among f events → id_eq x f.id ≡ true → is_held events x ≡ true
held_by events x f m e = order.held_by (λ (e : Event). e.id) (λ (e : Event). e.parents) id_eq events x f m e

pub held_of : (events : List Event) (f : Event) → Among f events → is_held events f.id ≡ true
held_of events f m = order.held_of (λ (e : Event). e.id) (λ (e : Event). e.parents) id_eq ids_alike events f m

pub ids_within : (xs ys : List Event) → ((z : Event) → Among z xs → Among z ys) → (x : Id) → is_among (ids_of xs) x ≡ true → is_among (ids_of ys) x ≡ true
ids_within xs ys f x h = order.names_within (λ (e : Event). e.id) (λ (e : Event). e.parents) id_eq xs ys f x h

-- the version of an event of a version is a part of it
pub taken_below : (history : List Event) (named : List Id) (g : Event) → PointsBack history → Among g (version_events history named) → (x : Event) → Among x (version_events history g.parents) → Among x (version_events history named)
taken_below history named g back m = versions.taken_below (λ (e : Event). e.id) (λ (e : Event). e.parents) id_eq history named g back m

pub among_here : (ids : List Id) (x : Id) → Among x ids → is_among ids x ≡ true
among_here ids x m = order.named_here (λ (e : Event). e.id) (λ (e : Event). e.parents) id_eq ids_alike ids x m

pub equal_through : (x y z : Id) → id_eq x y ≡ true → id_eq y z ≡ true → id_eq x z ≡ true
equal_through x y z e f = ids_alike.congr x y z e ∙ f

-- no one of the ids is an ancestor of another
abbrev pub Reduced : List Event → List Id → Type 0
Reduced history ids = covers.AreReduced (λ (e : Event). e.id) (λ (e : Event). e.parents) id_eq history ids

pub reduced_from : (history : List Event) (ids : List Id) → is_reduced history ids ≡ true → Reduced history ids
unfolding is_reduced
reduced_from history ids h = covers.reduced_from (λ (e : Event). e.id) (λ (e : Event). e.parents) id_eq history ids h

-- Reduced ids that are held have all of a history among their ancestors exactly where they are its heads.
pub covers_heads : (history : List Event) (ids : List Id) → LaidOut [] history → ((x : Id) → Among x ids → is_held history x ≡ true) → Reduced history ids → are_among (ancestors history ids) (ids_of history) ≡ are_heads history ids
covers_heads history ids laid held reduced = covers.covers_heads (λ (e : Event). e.id) (λ (e : Event). e.parents) id_eq ids_alike history ids laid held reduced
