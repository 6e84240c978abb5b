-- An event changes the text at its parents at its own index.
use Rattle.std.proofs.Common.{◌≡◌, ℕ, Bool, true, false, cond, ◌||◌, List, [], ◌∷◌, ◌++◌, length, refl, sym, ap, ◌∙◌, subst, arith}
use Rattle.std.proofs.lemmas.Bool.{ltb-false, leb-false}
use Rattle.ew_model.specs.declared.id.Id.{Id}
use Rattle.ew_model.specs.declared.event.Op.{Op}
use Rattle.ew_model.specs.declared.event.Op.TheVariants as op
use Rattle.ew_model.specs.declared.event.Event.{Event}
use Rattle.ew_model.specs.Sets.{Among}
use Rattle.ew_model.specs.Ids.{id_eq, is_among}
use Rattle.ew_model.specs.Ancestors.{is_held, is_parent, version_events, ancestors}
use Rattle.ew_model.specs.Texts.{text_at, text_of}
use Rattle.ew_model.specs.Operations.{changed_by}
use Rattle.ew_model.specs.Verdicts.{is_outside, IsGood}
use Rattle.ew_model.specs.TextLaws.{own_change, EventsMeanTheirIndex}
use Rattle.ew_model.proofs.SortingLaws.{all_from}
use Rattle.ew_model.proofs.EntryLaws.{LaidOut, points_back}
use Rattle.ew_model.proofs.AncestorLaws.{version_events_of_last}
use Rattle.ew_model.proofs.OperationLaws.{laid_part, text_of-push}
use Rattle.ew_model.proofs.SubgraphLaws.{taken_within, version_laid_out, subgraph_text}
use Rattle.ew_model.proofs.LocalEdit.{KnowsAll, same_index, IsInRange, local_operation}
use Rattle.ew_model.proofs.GoodLaws.{IsNext, next_from_good, good_laid_out}
use Rattle.ew_model.proofs.CutSteps.{good_last}
use Rattle.ew_model.proofs.CoverLaws.{ids_alike, held_of}

pub unequal_back : (x y : Id) → id_eq x y ≡ false → id_eq y x ≡ false
unequal_back x y h = ids_alike.symm y x ∙ h

off_left : (a b : Bool) → (a || b) ≡ false → a ≡ false
off_left true b h = h
off_left false b h = refl

off_right : (a b : Bool) → (a || b) ≡ false → b ≡ false
off_right true b h = absurd cc
off_right false b h = h

-- an id that isn't held counts for nothing
pub unheld : (history : List Event) (x : Id) (named : List Id) → is_held history x ≡ false → version_events history (x ∷ named) ≡ version_events history named
unheld [] x named h = refl
unheld (f ∷ later) x named h =
    let ih : version_events later (x ∷ named) ≡ version_events later named = unheld later x named (off_right (id_eq x f.id) (is_held later x) h) in
    let no : id_eq f.id x ≡ false = unequal_back x f.id (off_left (id_eq x f.id) (is_held later x) h) in
    ap (λ vs. cond (is_among (x ∷ named) f.id || is_parent vs f.id) (f ∷ vs) vs) ih
    ∙ ap (λ b. cond ((b || is_among named f.id) || is_parent (version_events later named) f.id) (f ∷ version_events later named) (version_events later named)) no

-- the events of a version know all of them by the same ids
knows_all : (history : List Event) (named : List Id) → LaidOut [] history → KnowsAll (version_events history named) (ancestors (version_events history named) named)
knows_all history named h =
    let part = version_events history named in
    all_from (λ (f : Event). is_among (ancestors part named) f.id ≡ true) part (λ f m. held_by part f (taken_within history part named (points_back [] part (version_laid_out history named h)) (λ x k. k) f m))
  where
    held_by : (part : List Event) (f : Event) → Among f (version_events part named) → is_among (ancestors part named) f.id ≡ true
    held_by part f m = held_of (version_events part named) f m

in_range : (len : ℕ) (o : Op) → is_outside len o ≡ false → IsInRange len o
in_range len (op.Ins at ch) h = let k = ltb-false len at h in omega (arith, k)
in_range len (op.Del at) h = let k = leb-false len at h in omega (arith, k)
in_range len (op.Mark label) h = tt

same_change : (o : Op) → same_index o ≡ own_change o
same_change (op.Ins at ch) = refl
same_change (op.Del at) = refl
same_change (op.Mark label) = refl

-- the law, of an event that may come next
index_law : (history : List Event) (e : Event) → LaidOut [] (history ++ e ∷ []) → IsNext history e → text_at (history ++ e ∷ []) (e.id ∷ []) ≡ changed_by (own_change e.op) (text_at history e.parents)
index_law history e laid next =
    let below : LaidOut [] history = laid_part [] history (e ∷ []) laid in
    let part = version_events history e.parents in
    let cut : version_events (history ++ e ∷ []) (e.id ∷ []) ≡ part ++ e ∷ [] =
    version_events_of_last history e (e.id ∷ []) (ap (λ b. b || false) (ids_alike.refl e.id)) ∙ ap (λ vs. vs ++ e ∷ []) (unheld history e.id e.parents next.new) in
    let laid_part_now : LaidOut [] (part ++ e ∷ []) = subst (LaidOut []) cut (version_laid_out (history ++ e ∷ []) (e.id ∷ []) laid) in
    let parts_text : text_at history e.parents ≡ text_of part = subgraph_text history e.parents below in
    let range : IsInRange (length (text_of part)) e.op = in_range (length (text_of part)) e.op (ap (λ t. is_outside (length t) e.op) (sym parts_text) ∙ next.range) in
    subgraph_text (history ++ e ∷ []) (e.id ∷ []) laid
    ∙ ap text_of cut
    ∙ text_of-push part e laid_part_now
    ∙ ap (λ o. changed_by o (text_of part)) (local_operation part e (version_laid_out history e.parents below) (knows_all history e.parents below) range ∙ same_change e.op)
    ∙ ap (changed_by (own_change e.op)) (sym parts_text)

-- An index is meant in the text at the event's parents.
pub events_mean_their_index : EventsMeanTheirIndex
unfolding IsGood
events_mean_their_index history e good = index_law history e (good_laid_out (history ++ e ∷ []) good) (next_from_good history e (good_last [] history e good))
