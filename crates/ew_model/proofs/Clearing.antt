-- Clearing: over a base of as many characters as the text below a cut has, the events behind the cut do what they do over
-- the events below it.
use Rattle.std.proofs.Common.{◌≡◌, ℕ, suc, fold, Bool, true, false, cond, ⊎_elim, List, [], ◌∷◌, ◌++◌, map, filter, find, length, Option, Some, None, refl, sym, ap, ◌∙◌, subst, append-nil, append_assoc}
use Rattle.std.specs.List.{list_any, AllByRecursion, AllZip}
use Rattle.std.specs.Cmp.{tied_itself}
use Rattle.std.proofs.lemmas.Bool.{false≢true, false_from_ne_true}
use Rattle.std.proofs.lemmas.Map.Steps.{list_any_congr}
use Rattle.std.proofs.lemmas.List.{map-append}
use Rattle.std.proofs.lemmas.List.Elements.{filter-append}
use Rattle.ew_model.specs.declared.id.Id.{Id}
use Rattle.ew_model.specs.declared.event.Op.{Op}
use Rattle.ew_model.specs.declared.event.Op.TheVariants.{Ins, Del, Mark}
use Rattle.ew_model.specs.declared.event.Event.{Event}
use Rattle.ew_model.specs.Sets.{Among}
use Rattle.ew_model.specs.Ids.{id_eq, is_among}
use Rattle.ew_model.specs.Ancestors.{ids_of, is_held, ancestors}
use Rattle.ew_model.specs.Paths.{Step, path_cmp, path_lt, is_right_child, step_down}
use Rattle.ew_model.specs.Entries.{Inserted, Entry, inserted_cmp, insertions, order, visible}
use Rattle.ew_model.specs.Tree.{Noted, act_by, based, all_entries, entries_over, next_entry, noted_as, grow, applied, applied_after, tree_of, tree_on}
use Rattle.ew_model.specs.Places.{left_of_or_right_of, new_path, place}
use Rattle.ew_model.specs.Paths.Side.{Left, Right}
use Rattle.ew_model.specs.Operations.{operation_of, next_operation, operations_after, operations_of}
use Rattle.ew_model.proofs.PathOrder.{path_total}
use Rattle.ew_model.proofs.SetLaws.{among_joined, joined_right}
use Rattle.ew_model.proofs.SortingLaws.{all_from, NoTies}
use Rattle.ew_model.proofs.GapLaws.{HasPrefixes, gap}
use Rattle.ew_model.proofs.PrefixLaws.{insertions-append, ordered_prefixes}
use Rattle.ew_model.proofs.StemLaws.{IsStem, Desc, IsAt, one_desc}
use Rattle.ew_model.proofs.NewNodes.{HasFirst}
use Rattle.ew_model.proofs.ClearLaws.{never_equal, stem_ordered}
use Rattle.ew_model.proofs.OwnIndex.{sorted_order}
use Rattle.ew_model.proofs.TreeLaws.{tree_on-push}
use Rattle.ew_model.proofs.EntryLaws.{LaidOut, not_held_before}
use Rattle.ew_model.proofs.EqualSets.{tree_apart, version_apart}
use Rattle.ew_model.proofs.TextLaws.{ids_equal}
use Rattle.ew_model.proofs.OperationLaws.{tree_ids_apart, not_deleted, visible_held, laid_part, laid_last}
use Rattle.ew_model.proofs.LocalEdit.{KnowsAll, all_known, tree_has_prefixes, tree_behind_root}
use Rattle.ew_model.proofs.SubgraphLaws.{version_prefixes}
use Rattle.ew_model.proofs.BaseLaws.{base_stem, base_long, base_new}
use Rattle.ew_model.proofs.LikeLaws.{IsNew, Alike, LikeEntry}
use Rattle.ew_model.proofs.LikeSteps.{LikeWhere, NewAct, like_place, like_visible, like_operation, descs_of, desc_here, node_here}

ties_behind : (xs ys : List Inserted) → NoTies inserted_cmp (xs ++ ys) → NoTies inserted_cmp ys
ties_behind [] ys h = h
ties_behind (x ∷ xs) ys h = ties_behind xs ys h.1

-- a new path ends in a step
form_at : (b : Bool) (o : Option Inserted) (p : List Step) (x : Id) → (q : List Step) × (s : Step) × (cond b (left_of_or_right_of o p x) (step_down p Right x) ≡ q ++ s ∷ [])
form_at true None p x = (p, record { side = Right; child = x }, refl)
form_at true (Some w) p x = (w.path, record { side = Left; child = x }, refl)
form_at false o p x = (p, record { side = Right; child = x }, refl)

-- with each new node the first node of its path behind the gap is there
has_first : (stem entries : List Entry) (descs : List Desc) → IsStem stem → HasPrefixes (insertions (stem ++ entries))
    → ((x : Inserted) → Among x (insertions entries) → (d : Desc) × Among d descs × IsAt stem d x.path) → ((d : Desc) → Among d descs → (x : Inserted) × Among x (insertions entries) × IsAt stem d x.path) → HasFirst descs
has_first stem entries descs s prefixes f g d m =
    let x = g d m in
    let at : IsAt stem d x.0.path = x.2 in
    let form = form_at (list_any (λ w. is_right_child at.before w.path) (order stem)) (find (λ w. path_lt at.before w.path) (order stem)) at.before d.first in
    let path : x.0.path ≡ form.0 ++ form.1 ∷ d.rest = at.is ∙ ap (λ p. p ++ d.rest) form.2 ∙ append_assoc form.0 (form.1 ∷ []) d.rest in
    let y = prefixes x.0 (subst (Among x.0) (sym (insertions-append stem entries)) (joined_right (insertions stem) (insertions entries) x.0 x.1)) form.0 form.1 d.rest path in
    let first : Desc = record { gap = d.gap; first = d.first; rest = [] } in
    let y_at : IsAt stem first y.0.path = record { before = at.before; at = at.at; is = y.2 ∙ (sym form.2 ∙ sym (append-nil (new_path (order stem) at.before d.first))) } in
    ⊎_elim
    (λ old. absurd (never_equal (path_cmp y.0.path at.before)
    (sym (ap (path_cmp y.0.path) y_at.is ∙ gap (order stem) at.before d.first [] y.0 (sorted_order stem s.apart) (ordered_prefixes stem s.prefixes) (stem_ordered stem y.0 old)) ∙ tied_itself path_total y.0.path)))
    (λ new. let e = f y.0 new in subst (λ c. Among c descs) (one_desc stem e.0 first y.0.path s e.2 y_at) e.1)
    (among_joined (insertions stem) (insertions entries) y.0 (subst (Among y.0) (insertions-append stem entries) y.1))

-- the event's agent isn't empty
abbrev pub HasAgent : Event → Type 0
HasAgent e = (c : ℕ) × (cs : List ℕ) × (e.id.agent ≡ c ∷ cs)

-- each of the events knows all of the history below
abbrev pub AllKnow : List Event → List Event → List Event → Type 0
AllKnow below before [] = Unit {0}
AllKnow below before (e ∷ later) = KnowsAll below (ancestors before e.parents) × AllKnow below (before ++ e ∷ []) later

module _ (below : List Event) (laid : LaidOut [] below) where
  abbrev stem : List Entry
  stem = all_entries 0 (tree_on 0 below)

  abbrev base : ℕ
  base = length (visible stem)

  stem_is : IsStem stem
  stem_is = record { apart = tree_apart below laid; prefixes = tree_has_prefixes below; roots = tree_behind_root below; ids = tree_ids_apart below laid }

  long : length (visible stem) ≡ length (visible (based base))
  long = sym (base_long base)

  abbrev Like2 : Entry → Entry → Type 0
  Like2 e f = LikeEntry stem (based base) stem_is (base_stem base) e f

  abbrev LikeNote : Noted Id → Noted Id → Type 0
  LikeNote n m = (n.name ≡ m.name) × Like2 n.entry m.entry

  kept_notes : (a b : Bool) (n m : Noted Id) (ns ms : List (Noted Id)) → a ≡ b → LikeNote n m → AllZip LikeNote ns ms → AllZip LikeNote (cond a (n ∷ ns) ns) (cond b (m ∷ ms) ms)
  kept_notes true true n m ns ms e l z = (l, z)
  kept_notes false false n m ns ms e l z = z
  kept_notes true false n m ns ms e l z = absurd (false≢true (sym e))
  kept_notes false true n m ns ms e l z = absurd (false≢true e)

  known_notes : (over : List Id) (ns ms : List (Noted Id)) → AllZip LikeNote ns ms → AllZip LikeNote (filter (λ n. is_among over n.name) ns) (filter (λ n. is_among over n.name) ms)
  known_notes over [] [] z = z
  known_notes over [] (m ∷ ms) z = absurd z
  known_notes over (n ∷ ns) [] z = absurd z
  known_notes over (n ∷ ns) (m ∷ ms) z = kept_notes (is_among over n.name) (is_among over m.name) n m (filter (λ n. is_among over n.name) ns) (filter (λ n. is_among over n.name) ms) (ap (is_among over) z.0.0) z.0 (known_notes over ns ms z.1)

  note_entries : (ns ms : List (Noted Id)) → AllZip LikeNote ns ms → AllZip Like2 (map (λ n. n.entry) ns) (map (λ n. n.entry) ms)
  note_entries [] [] z = z
  note_entries [] (m ∷ ms) z = absurd z
  note_entries (n ∷ ns) [] z = absurd z
  note_entries (n ∷ ns) (m ∷ ms) z = (z.0.1, note_entries ns ms z.1)

  joined_notes : (ns ms us vs : List (Noted Id)) → AllZip LikeNote ns ms → AllZip LikeNote us vs → AllZip LikeNote (ns ++ us) (ms ++ vs)
  joined_notes [] [] us vs z w = w
  joined_notes [] (m ∷ ms) us vs z w = absurd z
  joined_notes (n ∷ ns) [] us vs z w = absurd z
  joined_notes (n ∷ ns) (m ∷ ms) us vs z w = (z.0, joined_notes ns ms us vs z.1 w)

  abbrev Where2 : Option Entry → Option Entry → Type 0
  Where2 o p = LikeWhere stem (based base) stem_is (base_stem base) long o p

  new_notes : (x : Id) (o p : Option Entry) → Where2 o p → AllZip LikeNote (noted_as x o) (noted_as x p)
  new_notes x None None w = tt
  new_notes x None (Some f) w = absurd w
  new_notes x (Some e) None w = absurd w
  new_notes x (Some e) (Some f) w = ((refl, w), tt)

  -- the entries that an event knows: all of those below, and known ones behind
  known_entries : (before : List Event) (over : List Id) (ns : List (Noted Id)) → tree_on 0 before ≡ tree_on 0 below ++ ns → KnowsAll below over → entries_over id_eq 0 (tree_on 0 before) over ≡ stem ++ map (λ n. n.entry) (filter (λ n. is_among over n.name) ns)
  known_entries before over ns e k =
      ap (λ t. map (λ (n : Noted Id). n.entry) (filter (λ n. is_among over n.name) t)) e
      ∙ ap (map (λ (n : Noted Id). n.entry)) (filter-append (λ n. is_among over n.name) (tree_on 0 below) ns)
      ∙ map-append (λ (n : Noted Id). n.entry) (filter (λ n. is_among over n.name) (tree_on 0 below)) (filter (λ n. is_among over n.name) ns)
      ∙ ap (λ es. es ++ map (λ (n : Noted Id). n.entry) (filter (λ n. is_among over n.name) ns)) (all_known below over laid k)

  new_act : (e : Event) → HasAgent e → is_held below e.id ≡ false → NewAct stem (based base) stem_is (base_stem base) long (act_by e.id e.op)
  new_act e a n = by e.op
    where
      stem_new : IsNew stem e.id
      stem_new = record {
        others = all_from (λ z. id_eq z.id e.id ≡ false) (visible stem) (λ z m. false_from_ne_true (id_eq z.id e.id) (λ same. false≢true (sym n ∙ (sym (list_any_congr ids_equal z.id e.id (ids_of below) same) ∙ visible_held below z laid m))));
        kept = not_deleted below e.id laid n;
      }

      by : (o : Op) → NewAct stem (based base) stem_is (base_stem base) long (act_by e.id o)
      by (Ins at ch) = (stem_new, base_new base e.id a.0 a.1 a.2)
      by (Del at) = tt
      by (Mark label) = tt

  -- the next event leaves like entries on both sides
  next_like : (before : List Event) (e : Event) (ns ms : List (Noted Id)) → LaidOut [] before → tree_on 0 before ≡ tree_on 0 below ++ ns → AllZip LikeNote ns ms → KnowsAll below (ancestors before e.parents) → HasAgent e → is_held below e.id ≡ false
      → Where2 (next_entry id_eq 0 (tree_on 0 before) (applied before e)) (next_entry id_eq base ms (applied before e))
  unfolding next_entry
  next_like before e ns ms h is z k a new =
      let over = ancestors before e.parents in
      let es = map (λ (n : Noted Id). n.entry) (filter (λ n. is_among over n.name) ns) in
      let fs = map (λ (n : Noted Id). n.entry) (filter (λ n. is_among over n.name) ms) in
      let act = act_by e.id e.op in
      let known : entries_over id_eq 0 (tree_on 0 before) over ≡ stem ++ es = known_entries before over ns is k in
      let zip : AllZip Like2 es fs = note_entries (filter (λ n. is_among over n.name) ns) (filter (λ n. is_among over n.name) ms) (known_notes over ns ms z) in
      let ties : NoTies inserted_cmp (insertions es) = ties_behind (insertions stem) (insertions es) (subst (NoTies inserted_cmp) (ap insertions known ∙ insertions-append stem es) (version_apart before over h)) in
      let first : HasFirst (descs_of stem (based base) stem_is (base_stem base) long es fs zip) =
      has_first stem es (descs_of stem (based base) stem_is (base_stem base) long es fs zip) stem_is (subst (λ x. HasPrefixes (insertions x)) known (version_prefixes before e.parents h))
      (desc_here stem (based base) stem_is (base_stem base) long es fs zip) (node_here stem (based base) stem_is (base_stem base) long es fs zip) in
      subst (λ x. Where2 (place act x) (place act (based base ++ fs))) (sym known)
      (like_place stem (based base) stem_is (base_stem base) long act es fs zip (new_act e a new) ties first)

  -- and does the same to both texts
  next_same : (before : List Event) (e : Event) (ns ms : List (Noted Id)) → LaidOut [] before → tree_on 0 before ≡ tree_on 0 below ++ ns → AllZip LikeNote ns ms → KnowsAll below (ancestors before e.parents) → HasAgent e → is_held below e.id ≡ false
      → next_operation id_eq 0 (tree_on 0 before) (applied before e) ≡ next_operation id_eq base ms (applied before e)
  unfolding next_operation
  next_same before e ns ms h is z k a new =
      let es = map (λ (n : Noted Id). n.entry) ns in
      let fs = map (λ (n : Noted Id). n.entry) ms in
      let all : all_entries 0 (tree_on 0 before) ≡ stem ++ es = ap (map (λ (n : Noted Id). n.entry)) is ∙ map-append (λ (n : Noted Id). n.entry) (tree_on 0 below) ns in
      let ties : NoTies inserted_cmp (insertions es) = ties_behind (insertions stem) (insertions es) (subst (NoTies inserted_cmp) (ap insertions all ∙ insertions-append stem es) (tree_apart before h)) in
      let o = next_entry id_eq 0 (tree_on 0 before) (applied before e) in
      ap (λ x. operation_of (visible x) o) all
      ∙ like_operation stem (based base) stem_is (base_stem base) long (visible (stem ++ es)) (visible (based base ++ fs)) o (next_entry id_eq base ms (applied before e))
      (like_visible stem (based base) stem_is (base_stem base) long es fs (note_entries ns ms z) ties)
      (next_like before e ns ms h is z k a new)

  clear_from : (before later : List Event) (ns ms : List (Noted Id)) → LaidOut [] (before ++ later) → tree_on 0 before ≡ tree_on 0 below ++ ns → AllZip LikeNote ns ms → ((x : Id) → is_held before x ≡ false → is_held below x ≡ false) → AllKnow below before later → AllByRecursion HasAgent later
      → operations_after id_eq 0 (tree_on 0 before) (applied_after before later) ≡ operations_after id_eq base ms (applied_after before later)
  clear_from before [] ns ms h is z f k a = refl
  clear_from before (e ∷ later) ns ms h is z f k a =
      let shifted : (before ++ e ∷ []) ++ later ≡ before ++ e ∷ later = append_assoc before (e ∷ []) later in
      let laid_e : LaidOut [] (before ++ e ∷ []) = laid_part [] (before ++ e ∷ []) later (subst (LaidOut []) (sym shifted) h) in
      let laid_before : LaidOut [] before = laid_part [] before (e ∷ []) laid_e in
      let new : is_held below e.id ≡ false = f e.id (laid_last [] before e laid_e) in
      let o = next_entry id_eq 0 (tree_on 0 before) (applied before e) in
      let p = next_entry id_eq base ms (applied before e) in
      let like : Where2 o p = next_like before e ns ms laid_before is z k.0 a.0 new in
      let grown : tree_on 0 (before ++ e ∷ []) ≡ tree_on 0 below ++ (ns ++ noted_as e.id o) =
      tree_on-push 0 before e ∙ (ap (λ t. t ++ noted_as e.id o) is ∙ append_assoc (tree_on 0 below) ns (noted_as e.id o)) in
      let rest : operations_after id_eq 0 (tree_on 0 (before ++ e ∷ [])) (applied_after (before ++ e ∷ []) later) ≡ operations_after id_eq base (ms ++ noted_as e.id p) (applied_after (before ++ e ∷ []) later) =
      clear_from (before ++ e ∷ []) later (ns ++ noted_as e.id o) (ms ++ noted_as e.id p) (subst (LaidOut []) (sym shifted) h) grown (joined_notes ns ms (noted_as e.id o) (noted_as e.id p) z (new_notes e.id o p like))
      (λ x held. f x (not_held_before before e x held)) k.1 a.1 in
      (λ i. next_same before e ns ms laid_before is z k.0 a.0 new i ∷ (ap (λ t. operations_after id_eq 0 t (applied_after (before ++ e ∷ []) later)) (sym (tree_on-push 0 before e)) ∙ rest) i)

  -- Clearing at a cut: the events behind it, each of which knows all below, do over a base what they do over the history below.
  pub clearing : (later : List Event) → LaidOut [] (below ++ later) → AllKnow below below later → AllByRecursion HasAgent later
      → operations_after id_eq 0 (tree_on 0 below) (applied_after below later) ≡ operations_of id_eq base (applied_after below later)
  unfolding operations_of
  clearing later h k a = clear_from below later [] [] h (sym (append-nil (tree_on 0 below))) tt (λ x held. held) k a

  -- the notes of both sides stay alike
  like_notes : (before later : List Event) (ns ms : List (Noted Id)) → LaidOut [] (before ++ later) → tree_on 0 before ≡ tree_on 0 below ++ ns → AllZip LikeNote ns ms → ((x : Id) → is_held before x ≡ false → is_held below x ≡ false) → AllKnow below before later → AllByRecursion HasAgent later
      → (us : List (Noted Id)) × (tree_on 0 (before ++ later) ≡ tree_on 0 below ++ us) × AllZip LikeNote us (fold (grow id_eq base) ms (applied_after before later))
  like_notes before [] ns ms h is z f k a = (ns, ap (tree_on 0) (append-nil before) ∙ is, z)
  like_notes before (e ∷ later) ns ms h is z f k a =
      let shifted : (before ++ e ∷ []) ++ later ≡ before ++ e ∷ later = append_assoc before (e ∷ []) later in
      let laid_e : LaidOut [] (before ++ e ∷ []) = laid_part [] (before ++ e ∷ []) later (subst (LaidOut []) (sym shifted) h) in
      let laid_before : LaidOut [] before = laid_part [] before (e ∷ []) laid_e in
      let new : is_held below e.id ≡ false = f e.id (laid_last [] before e laid_e) in
      let o = next_entry id_eq 0 (tree_on 0 before) (applied before e) in
      let p = next_entry id_eq base ms (applied before e) in
      let like : Where2 o p = next_like before e ns ms laid_before is z k.0 a.0 new in
      let grown : tree_on 0 (before ++ e ∷ []) ≡ tree_on 0 below ++ (ns ++ noted_as e.id o) =
      tree_on-push 0 before e ∙ (ap (λ t. t ++ noted_as e.id o) is ∙ append_assoc (tree_on 0 below) ns (noted_as e.id o)) in
      let rest = like_notes (before ++ e ∷ []) later (ns ++ noted_as e.id o) (ms ++ noted_as e.id p) (subst (LaidOut []) (sym shifted) h) grown (joined_notes ns ms (noted_as e.id o) (noted_as e.id p) z (new_notes e.id o p like))
      (λ x held. f x (not_held_before before e x held)) k.1 a.1 in
      (rest.0, ap (tree_on 0) (sym shifted) ∙ rest.1, rest.2)

  zip_length : (xs ys : List Inserted) → AllZip (Alike stem (based base) stem_is (base_stem base)) xs ys → length xs ≡ length ys
  zip_length [] [] z = refl
  zip_length [] (y ∷ ys) z = absurd z
  zip_length (x ∷ xs) [] z = absurd z
  zip_length (x ∷ xs) (y ∷ ys) z = ap suc (zip_length xs ys z.1)

  -- Versions that hold all below the cut have as many visible characters on both sides.
  pub clearing_lengths : (later : List Event) (version : List Id) → LaidOut [] (below ++ later) → AllKnow below below later → AllByRecursion HasAgent later → KnowsAll below (ancestors (below ++ later) version)
      → length (visible (entries_over id_eq 0 (tree_on 0 (below ++ later)) (ancestors (below ++ later) version))) ≡ length (visible (entries_over id_eq base (tree_of id_eq base (applied_after below later)) (ancestors (below ++ later) version)))
  unfolding tree_of
  clearing_lengths later version h k a known =
      let over = ancestors (below ++ later) version in
      let kept = like_notes below later [] [] h (sym (append-nil (tree_on 0 below))) tt (λ x held. held) k a in
      let ms = fold (grow id_eq base) [] (applied_after below later) in
      let es = map (λ (n : Noted Id). n.entry) (filter (λ n. is_among over n.name) kept.0) in
      let fs = map (λ (n : Noted Id). n.entry) (filter (λ n. is_among over n.name) ms) in
      let here : entries_over id_eq 0 (tree_on 0 (below ++ later)) over ≡ stem ++ es = known_entries (below ++ later) over kept.0 kept.1 known in
      let zip : AllZip Like2 es fs = note_entries (filter (λ n. is_among over n.name) kept.0) (filter (λ n. is_among over n.name) ms) (known_notes over kept.0 ms kept.2) in
      let ties : NoTies inserted_cmp (insertions es) = ties_behind (insertions stem) (insertions es) (subst (NoTies inserted_cmp) (ap insertions here ∙ insertions-append stem es) (version_apart (below ++ later) over h)) in
      ap (λ x. length (visible x)) here
      ∙ zip_length (visible (stem ++ es)) (visible (based base ++ fs)) (like_visible stem (based base) stem_is (base_stem base) long es fs zip ties)
