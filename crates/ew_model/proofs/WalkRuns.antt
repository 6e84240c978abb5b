-- The events of a good history may be applied by a walk, one after another, each over its ancestors.
use Rattle.std.proofs.Common.{◌≡◌, ℕ, suc, ◌+◌, nat_eq, Bool, true, false, cond, ◌||◌, inl, inr, ⊎_elim, List, [], ◌∷◌, ◌++◌, length, take, drop, refl, sym, ap, ◌∙◌, subst, append_assoc, append-nil, arith, length-append, take-append-drop}
use Rattle.std.specs.List.{list_any}
use Rattle.std.proofs.lemmas.Bool.{false≢true, false_from_ne_true, eq-eqb, eqb-true, or_left, or_right, or_cases}
use Rattle.ew_model.specs.declared.id.Id.{Id}
use Rattle.ew_model.specs.declared.event.Op.{Op}
use Rattle.ew_model.specs.declared.event.Op.TheVariants.{Ins, Del, Mark}
use Rattle.ew_model.specs.declared.event.Event.{Event}
use Rattle.ew_model.specs.Sets.{Among}
use Rattle.ew_model.specs.Ids.{id_eq, is_among}
use Rattle.ew_model.specs.Names.{is_name}
use Rattle.ew_model.specs.Sound.{IsSound}
use Rattle.ew_model.specs.Ancestors.{ids_of, is_held, is_parent, version_events, ancestors}
use Rattle.ew_model.specs.Tree.{Applied, act_by}
use Rattle.ew_model.specs.Walks.{positions_among, walked_after}
use Rattle.ew_model.specs.Walks.{walked_from}
use Rattle.ew_model.specs.Records.{holds, inserts_as, IsNewId, IsNewAct, IsClosed, MayApply, IsRun}
use Rattle.ew_model.specs.Moves.{LookBack, WalksAreRuns}
use Rattle.ew_model.proofs.SetLaws.{map_among, joined_left, joined_right}
use Rattle.ew_model.proofs.SortingLaws.{all_at}
use Rattle.ew_model.proofs.VersionLaws.{any_from, found_by, PointsBack, kept_cases, version_parent}
use Rattle.ew_model.proofs.EntryLaws.{LaidOut, points_back}
use Rattle.ew_model.proofs.OperationLaws.{laid_part}
use Rattle.ew_model.proofs.SubgraphLaws.{taken_by_id}
use Rattle.ew_model.proofs.ClearingLaw.{laid_rest}
use Rattle.ew_model.proofs.GoodLaws.{good_laid_out}
use Rattle.ew_model.proofs.RunLaws.{id_itself, id_same}

-- WHERE A LIST IS CUT
-- the element stands in the list behind these
abbrev Stands : {X : Type 0} → List X → List X → X → Type 0
Stands {X} whole front x = (rest : List X) × (whole ≡ front ++ x ∷ rest)

stands_among : {X : Type 0} (whole front : List X) (x : X) → Stands whole front x → Among x whole
stands_among whole front x s = subst (Among x) (sym s.1) (joined_right front (x ∷ s.0) x (inl refl))

split_one : {X : Type 0} (xs ys : List X) (x y : X) (us vs : List X) → xs ++ x ∷ us ≡ ys ++ y ∷ vs → length xs ≡ length ys → x ≡ y
split_one [] [] x y us vs e l = cc
split_one [] (b ∷ ys) x y us vs e l = let no : ⊥ = omega (arith, l) in absurd no
split_one (a ∷ xs) [] x y us vs e l = let no : ⊥ = omega (arith, l) in absurd no
split_one (a ∷ xs) (b ∷ ys) x y us vs e l = let rest : xs ++ x ∷ us ≡ ys ++ y ∷ vs = cc in split_one xs ys x y us vs rest (omega (arith, l))

-- POSITIONS
-- a position that is held is that of an event with such an id
abbrev PositionOf : List Id → ℕ → List Event → ℕ → Type 0
PositionOf ids n events m = (front : List Event) × (e : Event) × Stands events front e × (m ≡ n + length front) × (is_among ids e.id ≡ true)

position_kept : (b : Bool) (ids : List Id) (n : ℕ) (e : Event) (events : List Event) (m : ℕ) → is_among ids e.id ≡ b → holds (cond b (n ∷ positions_among ids (suc n) events) (positions_among ids (suc n) events)) m ≡ true
    → (holds (positions_among ids (suc n) events) m ≡ true → PositionOf ids (suc n) events m) → PositionOf ids n (e ∷ events) m
position_kept true ids n e events m is h f =
    ⊎_elim
    (λ first. ([], e, (events, refl), (let same : m ≡ n = eqb-true m n first in omega (arith, same)), is))
    (λ more. later (f more))
    (or_cases (nat_eq m n) (holds (positions_among ids (suc n) events) m) h)
  where
    later : PositionOf ids (suc n) events m → PositionOf ids n (e ∷ events) m
    later d = (e ∷ d.0, d.1, (d.2.0, ap (λ ws. e ∷ ws) d.2.1), (let at : m ≡ suc n + length d.0 = d.3 in omega (arith, at)), d.4)
position_kept false ids n e events m is h f = later (f h)
  where
    later : PositionOf ids (suc n) events m → PositionOf ids n (e ∷ events) m
    later d = (e ∷ d.0, d.1, (d.2.0, ap (λ ws. e ∷ ws) d.2.1), (let at : m ≡ suc n + length d.0 = d.3 in omega (arith, at)), d.4)

position_from : (ids : List Id) (n : ℕ) (events : List Event) (m : ℕ) → holds (positions_among ids n events) m ≡ true → PositionOf ids n events m
position_from ids n [] m h = absurd (false≢true h)
position_from ids n (e ∷ events) m h = position_kept (is_among ids e.id) ids n e events m refl h (position_from ids (suc n) events m)

kept_holds : (b : Bool) (n : ℕ) (ps : List ℕ) (m : ℕ) → holds ps m ≡ true → holds (cond b (n ∷ ps) ps) m ≡ true
kept_holds true n ps m h = or_right (nat_eq m n) (holds ps m) h
kept_holds false n ps m h = h

first_holds : (b : Bool) (n : ℕ) (ps : List ℕ) (m : ℕ) → b ≡ true → m ≡ n → holds (cond b (n ∷ ps) ps) m ≡ true
first_holds true n ps m h e = or_left (nat_eq m n) (holds ps m) (eq-eqb m n e)
first_holds false n ps m h e = absurd (false≢true h)

position_to : (ids : List Id) (n : ℕ) (front : List Event) (e : Event) (rest : List Event) (m : ℕ) → m ≡ n + length front → is_among ids e.id ≡ true → holds (positions_among ids n (front ++ e ∷ rest)) m ≡ true
position_to ids n [] e rest m at is = first_holds (is_among ids e.id) n (positions_among ids (suc n) rest) m is (omega (arith, at))
position_to ids n (f ∷ front) e rest m at is = kept_holds (is_among ids f.id) n (positions_among ids (suc n) (front ++ e ∷ rest)) m (position_to ids (suc n) front e rest m (omega (arith, at)) is)

-- ANCESTORS OF ANCESTORS
-- the version of a front that is named by parents of a version's event is in that version
version_below : (history other : List Event) (named version : List Id) → PointsBack other → ((x : Event) → Among x history → Among x other) → ((x : Event) → Among x other → is_among named x.id ≡ true → Among x (version_events other version))
    → (x : Event) → Among x (version_events history named) → Among x (version_events other version)
version_below [] other named version h f g x m = absurd m
version_below (y ∷ later) other named version h f g x m =
    let taken = version_events later named in
    let ih : (z : Event) → Among z taken → Among z (version_events other version) = version_below later other named version h (λ z k. f z (inr k)) g in
    ⊎_elim
    (λ xy. subst (λ z. Among z (version_events other version)) (sym xy.0)
    (⊎_elim
    (λ e. g y (f y (inl refl)) e)
    (λ e. let child = found_by (λ (g : Event). is_among g.parents y.id) taken e in
    version_parent other version y child.0 h (ih child.0 child.1) (f y (inl refl)) child.2)
    (or_cases (is_among named y.id) (is_parent taken y.id) xy.1)))
    (λ k. ih x k)
    (kept_cases (is_among named y.id || is_parent taken y.id) y x taken m)

among_version : (history : List Event) (version : List Id) (e : Event) → Among e (version_events history version) → is_among (ancestors history version) e.id ≡ true
among_version history version e m = any_from (id_eq e.id) (ancestors history version) e.id (map_among (λ (f : Event). f.id) (version_events history version) e m) (id_itself e.id)

-- an ancestor's ancestor is one
ancestor_below : (front : List Event) (f : Event) (rest : List Event) (version : List Id) (x : Event) → LaidOut [] (front ++ f ∷ rest) → is_among (ancestors (front ++ f ∷ rest) version) f.id ≡ true
    → Among x front → is_among (ancestors front f.parents) x.id ≡ true → is_among (ancestors (front ++ f ∷ rest) version) x.id ≡ true
ancestor_below front f rest version x laid f_in x_in h =
    let whole = front ++ f ∷ rest in
    let back : PointsBack whole = points_back [] whole laid in
    let taken : Among f (version_events whole version) = taken_by_id whole version f laid (joined_right front (f ∷ rest) f (inl refl)) f_in in
    let one : Among x (version_events front f.parents) = taken_by_id front f.parents x (laid_part [] front (f ∷ rest) laid) x_in h in
    among_version whole version x (version_below front whole f.parents version back (λ z m. joined_left front (f ∷ rest) z m) (λ z m e. version_parent whole version z f back taken m e) x one)

-- THE EVENTS AS A WALK APPLIES THEM
module _ (k : ℕ) (below : List Event) where
  abbrev walked : List Event → Event → Applied ℕ
  walked between e = record { name = k + length between; act = act_by e.id e.op; over = positions_among (ancestors (below ++ between) e.parents) k between }

  abbrev walk_of : List Event → List (Applied ℕ)
  walk_of between = walked_after k below [] between

  walked_push : (before events : List Event) (e : Event) → walked_after k below before (events ++ e ∷ []) ≡ walked_after k below before events ++ walked (before ++ events) e ∷ []
  walked_push before [] e = ap (λ bs. walked bs e ∷ []) (sym (append-nil before))
  walked_push before (x ∷ events) e =
      ap (λ ws. walked before x ∷ ws) (walked_push (before ++ x ∷ []) events e ∙ ap (λ bs. walked_after k below (before ++ x ∷ []) events ++ walked bs e ∷ []) (append_assoc before (x ∷ []) events))

  -- the event that is applied is one of them
  walked_from_one : (before events : List Event) (c : Applied ℕ) → Among c (walked_after k below before events) → (front : List Event) × (e : Event) × Stands events front e × (c ≡ walked (before ++ front) e)
  walked_from_one before [] c m = absurd m
  walked_from_one before (x ∷ events) c m =
      ⊎_elim
      (λ e. ([], x, (events, refl), e ∙ ap (λ bs. walked bs x) (sym (append-nil before))))
      (λ j. let more = walked_from_one (before ++ x ∷ []) events c j in
      (x ∷ more.0, more.1, (more.2.0, ap (λ ws. x ∷ ws) more.2.1), more.3 ∙ ap (λ bs. walked bs more.1) (append_assoc before (x ∷ []) more.0)))
      m

  looks_back : (between : List Event) → LookBack (walk_of between)
  looks_back between c m n h =
      let from = walked_from_one [] between c m in
      let at = position_from (ancestors (below ++ from.0) from.1.parents) k from.0 n (ap (λ (w : Applied ℕ). holds w.over n) (sym from.3) ∙ h) in
      let own : c.name ≡ k + length from.0 = ap (λ (w : Applied ℕ). w.name) from.3 in
      let low : n ≡ k + length at.0 = at.3 in
      let long : length from.0 ≡ length (at.0 ++ at.1 ∷ at.2.0) = ap length at.2.1 in
      omega (arith, own, low, long, length-append at.0 (at.1 ∷ at.2.0))

  -- what a version has behind the cut is closed
  closed_version : (between : List Event) (version : List Id) → LaidOut [] (below ++ between) → IsClosed (walk_of between) (positions_among (ancestors (below ++ between) version) k between)
  closed_version between version laid c m h n seen =
      let from = walked_from_one [] between c m in
      let f = from.1 in
      let mine = position_from (ancestors (below ++ between) version) k between c.name h in
      let own : c.name ≡ k + length from.0 = ap (λ (w : Applied ℕ). w.name) from.3 in
      let other : c.name ≡ k + length mine.0 = mine.3 in
      let same : mine.1 ≡ f = split_one mine.0 from.0 mine.1 f mine.2.0 from.2.0 (sym mine.2.1 ∙ from.2.1) (omega (arith, own, other)) in
      let f_in : is_among (ancestors (below ++ between) version) f.id ≡ true = ap (λ (w : Event). is_among (ancestors (below ++ between) version) w.id) (sym same) ∙ mine.4 in
      let at = position_from (ancestors (below ++ from.0) f.parents) k from.0 n (ap (λ (w : Applied ℕ). holds w.over n) (sym from.3) ∙ seen) in
      let x = at.1 in
      let whole : below ++ between ≡ (below ++ from.0) ++ f ∷ from.2.0 = ap (λ ws. below ++ ws) from.2.1 ∙ sym (append_assoc below from.0 (f ∷ from.2.0)) in
      let x_in : Among x (below ++ from.0) = joined_right below from.0 x (stands_among from.0 at.0 x at.2) in
      let known : is_among (ancestors (below ++ between) version) x.id ≡ true =
      ap (λ ws. is_among (ancestors ws version) x.id) whole
      ∙ ancestor_below (below ++ from.0) f from.2.0 version x (subst (LaidOut []) whole laid) (ap (λ ws. is_among (ancestors ws version) f.id) (sym whole) ∙ f_in) x_in at.4 in
      let place : between ≡ at.0 ++ x ∷ (at.2.0 ++ f ∷ from.2.0) = from.2.1 ∙ ap (λ ws. ws ++ f ∷ from.2.0) at.2.1 ∙ append_assoc at.0 (x ∷ at.2.0) (f ∷ from.2.0) in
      ap (λ ws. holds (positions_among (ancestors (below ++ between) version) k ws) n) place ∙ position_to (ancestors (below ++ between) version) k at.0 x (at.2.0 ++ f ∷ from.2.0) n at.3 known

  act_id : (x : Id) (f : Event) (op : Op) → inserts_as x (act_by f.id op) ≡ true → f.id ≡ x
  act_id x f (Ins at ch) h = id_same f.id x h
  act_id x f (Del at) h = absurd (false≢true h)
  act_id x f (Mark label) h = absurd (false≢true h)

  new_id : (between : List Event) (e : Event) → is_held (below ++ between) e.id ≡ false → IsSound e → IsNewId (walk_of between) e.id
  new_id between e new sound = record {
    unused = false_from_ne_true (list_any (λ (c : Applied ℕ). inserts_as e.id c.act) (walk_of between)) (λ h.
        let found = found_by (λ (c : Applied ℕ). inserts_as e.id c.act) (walk_of between) h in
        let from = walked_from_one [] between found.0 found.1 in
        let id : from.1.id ≡ e.id = act_id e.id from.1 from.1.op (ap (λ (w : Applied ℕ). inserts_as e.id w.act) (sym from.3) ∙ found.2) in
        let here : Among from.1 (below ++ between) = joined_right below between from.1 (stands_among between from.0 from.1 from.2) in
        false≢true (sym new ∙ any_from (id_eq e.id) (ids_of (below ++ between)) from.1.id (map_among (λ (f : Event). f.id) (below ++ between) from.1 here) (ap (id_eq e.id) id ∙ id_itself e.id)));
    agent = λ none. false≢true (ap is_name (sym none) ∙ sound.id.agent);
  }

  new_act : (between : List Event) (e : Event) (op : Op) → is_held (below ++ between) e.id ≡ false → IsSound e → IsNewAct (walk_of between) (act_by e.id op)
  new_act between e (Ins at ch) new sound = new_id between e new sound
  new_act between e (Del at) new sound = tt
  new_act between e (Mark label) new sound = tt

  may_apply : (between : List Event) (e : Event) → LaidOut [] (below ++ between) → is_held (below ++ between) e.id ≡ false → IsSound e → MayApply (walk_of between) (walked between e)
  may_apply between e laid new sound = record {
    name = false_from_ne_true (list_any (λ (c : Applied ℕ). nat_eq c.name (k + length between)) (walk_of between)) (λ h.
        let found = found_by (λ (c : Applied ℕ). nat_eq c.name (k + length between)) (walk_of between) h in
        let from = walked_from_one [] between found.0 found.1 in
        let own : found.0.name ≡ k + length from.0 = ap (λ (w : Applied ℕ). w.name) from.3 in
        let same : found.0.name ≡ k + length between = eqb-true found.0.name (k + length between) found.2 in
        let long : length between ≡ length (from.0 ++ from.1 ∷ from.2.0) = ap length from.2.1 in
        omega (arith, own, same, long, length-append from.0 (from.1 ∷ from.2.0)));
    act = new_act between e e.op new sound;
    over = closed_version between e.parents laid;
  }

  runs_on : (between later : List Event) → LaidOut [] ((below ++ between) ++ later) → ((x : Event) → Among x later → IsSound x) → IsRun (walk_of between) (walked_after k below between later)
  runs_on between [] laid sound = tt
  runs_on between (e ∷ later) laid sound =
      let behind : LaidOut (below ++ between) (e ∷ later) = laid_rest [] (below ++ between) (e ∷ later) laid in
      let moved : (below ++ between) ++ e ∷ later ≡ (below ++ (between ++ e ∷ [])) ++ later = sym (append_assoc (below ++ between) (e ∷ []) later) ∙ ap (λ ws. ws ++ later) (append_assoc below between (e ∷ [])) in (
        may_apply between e (laid_part [] (below ++ between) (e ∷ later) laid) behind.0 (sound e (inl refl)),
        subst (λ es. IsRun es (walked_after k below (between ++ e ∷ []) later)) (walked_push [] between e) (runs_on (between ++ e ∷ []) later (subst (LaidOut []) moved laid) (λ x m. sound x (inr m))),
      )

pub walks_are_runs : WalksAreRuns
walks_are_runs history k good sound =
    let below = take k history in
    let later = drop k history in
    let whole : below ++ later ≡ history = take-append-drop k history in
    let laid : LaidOut [] history = good_laid_out history good in
    let front : (below ++ []) ++ later ≡ history = ap (λ ws. ws ++ later) (append-nil below) ∙ whole in
    record {
      run = runs_on k below [] later (subst (LaidOut []) (sym front) laid) (λ x m. all_at IsSound history x sound (subst (Among x) whole (joined_right below later x m)));
      back = looks_back k below later;
      versions = λ version. subst (λ ws. IsClosed (walked_from history k) (positions_among (ancestors ws version) k later)) whole (closed_version k below later version (subst (LaidOut []) (sym whole) laid));
    }
