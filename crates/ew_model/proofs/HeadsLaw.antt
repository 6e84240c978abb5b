-- The version of the heads is the whole history, and so is that of any ids with all heads among them.
use Rattle.std.proofs.Common.{◌≡◌, Bool, true, false, not, ◌||◌, List, [], refl, ap, ◌∙◌}
use Rattle.std.proofs.lemmas.Bool.{or_left, or_right}
use Rattle.ew_model.specs.declared.id.Id.{Id}
use Rattle.ew_model.specs.declared.event.Event.{Event}
use Rattle.ew_model.specs.Sets.{Among}
use Rattle.ew_model.specs.Ids.{id_eq, is_among}
use Rattle.ew_model.specs.Ancestors.{ids_of, is_parent, version_events, heads}
use Rattle.ew_model.specs.Texts.{text_at, text_of}
use Rattle.ew_model.specs.TextLaws.{HeadsHoldAll}
use Rattle.ew_model.proofs.SetLaws.{map_among, filter_among}
use Rattle.ew_model.proofs.GraphVersions as versions
use Rattle.ew_model.proofs.EntryLaws.{LaidOut, points_back}
use Rattle.ew_model.proofs.SubgraphLaws.{subgraph_text}
use Rattle.ew_model.proofs.GoodLaws.{good_laid_out}
use Rattle.ew_model.proofs.CoverLaws.{among_here}

-- ids that have all heads among them know the whole history
pub all_events : (history : List Event) (ids : List Id) → LaidOut [] history → ((x : Id) → Among x (heads history) → Among x ids) → version_events history ids ≡ history
all_events history ids laid there =
    versions.all_taken (λ (e : Event). e.id) (λ (e : Event). e.parents) id_eq history ids (points_back [] history laid) (λ e m. at e m (is_parent history e.id) refl)
  where
    at : (e : Event) → Among e history → (b : Bool) → is_parent history e.id ≡ b → (is_among ids e.id || is_parent history e.id) ≡ true
    at e m true k = or_right (is_among ids e.id) (is_parent history e.id) k
    at e m false k =
        or_left (is_among ids e.id) (is_parent history e.id)
        (among_here ids e.id (there e.id (filter_among (λ y. not (is_parent history y)) (ids_of history) e.id (map_among (λ (f : Event). f.id) history e m) (ap not k))))

pub whole_text : (history : List Event) (ids : List Id) → LaidOut [] history → ((x : Id) → Among x (heads history) → Among x ids) → text_at history ids ≡ text_of history
whole_text history ids laid there = subgraph_text history ids laid ∙ ap text_of (all_events history ids laid there)

pub heads_hold_all : HeadsHoldAll
heads_hold_all history good =
    let laid : LaidOut [] history = good_laid_out history good in
    (all_events history (heads history) laid (λ x m. m), whole_text history (heads history) laid (λ x m. m))
