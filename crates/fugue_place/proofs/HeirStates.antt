-- What is kept of the children, once more heirs are attached behind the newest one.
use Rattle.std.proofs.Common.{◌≡◌, ℕ, zero, suc, ◌+◌, ◌-◌, ◌<◌, ◌≤◌, ◌^◌, Bool, true, false, ◌||◌, List, [], ◌∷◌, ◌++◌, length, Option, Some, None, slice_get, refl, sym, ap, ◌∙◌, subst, arith, append-nil, append_assoc, length-append}
use Rattle.std.specs.List.{list_any, range_with_len}
use Rattle.std.specs.Option.{option_map_or}
use Rattle.std.specs.Ordering.{is_lt, nat_cmp}
use Rattle.std.specs.Cmp.{nat_cmp_is}
use Rattle.std.specs.declared.cmp.Ordering.TheVariants.{Less}
use Rattle.std.proofs.lemmas.Bool.{false_from_ne_true, and_from, ne_eqb}
use Rattle.std.proofs.lemmas.List.{length-map}
use Rattle.std.proofs.lemmas.List.Folds.{list_any-append}
use Rattle.std.proofs.lemmas.List.FromFn.{length-range_with_len}
use Rattle.ew_model.specs.declared.id.Id.{Id}
use Rattle.ew_model.specs.Ids.{id_cmp, id_eq}
use Rattle.ew_model.specs.declared.node.Node.{Node}
use Rattle.ew_model.specs.declared.node.Node.TheVariants.{Event}
use Rattle.ew_model.proofs.GapLaws.{eq_from}
use Rattle.ew_model.proofs.OperationLaws.{got}
use Rattle.ew_model.proofs.PathOrder.{id_exact}
use Rattle.ew_model.proofs.VersionLaws.{any_from}
use Rattle.fugue_place.specs.declared.child.Side.TheVariants.{Right}
use Rattle.fugue_place.specs.declared.child.Attached.{Attached}
use Rattle.fugue_place.specs.declared.neighbour.Place.TheVariants.{After}
use Rattle.fugue_place.specs.declared.places.Places.{Places}
use Rattle.fugue_place.specs.declared.spot.Spot.{Spot}
use Rattle.fugue_place.specs.declared.ways.Ways.{Ways}
use Rattle.fugue_place.specs.Attachments.{node_eq, is_attached, is_newest, has_id, MayAttach, AreAttached}
use Rattle.fugue_place.specs.Heirs.{is_heir, id_on, heir_on, heirs_on, HaveHeirs, AreNew}
use Rattle.fugue_place.specs.Kept.{AreSiblings}
use Rattle.fugue_place.specs.Lines.{line_of}
use Rattle.fugue_place.specs.Neighbours.{side_eq, IsPlaceOfNew}
use Rattle.fugue_place.specs.Places.{ArePlaces, is_above_newest, with_rising}
use Rattle.fugue_place.specs.Spots.{node_cmp}
use Rattle.fugue_place.specs.Ways.{way_of, IsOneMore, with_heirs}
use Rattle.fugue_place.proofs.FoundLaws.{rising_more}
use Rattle.fugue_place.proofs.HeirRuns.{heirs_more}
use Rattle.fugue_place.proofs.IndexLaws.{heir_more}
use Rattle.fugue_place.proofs.KeptLaws.{siblings_more, some_newest, last_newest, heir_behind}
use Rattle.fugue_place.proofs.LeaderLaws.{heir_left}
use Rattle.fugue_place.proofs.ListLaws.{place_new}
use Rattle.fugue_place.proofs.NodeLaws.{node_itself}
use Rattle.fugue_place.proofs.NeighbourLaws.{lower_line, place_beside}
use Rattle.fugue_place.proofs.PathLaws.{attached_push}
use Rattle.fugue_place.proofs.PlaceLaws.{attached_at, newest_childless}
use Rattle.fugue_place.proofs.WayStates.{one_more_left, one_more_right}

module _ (children : List Attached) (a : Attached) (last : slice_get children (length children - 1) ≡ Some a) (position : ℕ) (node : a.node ≡ Event position) where
  -- the children with so many heirs more
  abbrev pub grown : ℕ → List Attached
  grown n = children ++ heirs_on a.id position n

  abbrev next : ℕ → Attached
  next n = heir_on a.id position n

  grown_more : (n : ℕ) → grown (suc n) ≡ grown n ++ next n ∷ []
  grown_more n = ap (λ (xs : List Attached). children ++ xs) (heirs_more a.id position n) ∙ sym (append_assoc children (heirs_on a.id position n) (next n ∷ []))

  grown_none : grown 0 ≡ children
  grown_none = append-nil children

  pub grown_length : (n : ℕ) → length (grown n) ≡ length children + n
  grown_length n =
      let joined = length-append children (heirs_on a.id position n) in
      let heirs = length-map (range_with_len 0 n) (heir_on a.id position) in
      let many = length-range_with_len 0 n in
      omega (arith, joined, heirs, many)

  -- THE NEWEST of them
  newest_of : (n : ℕ) → (b : Attached) × (slice_get (grown n) (length (grown n) - 1) ≡ Some b) × (b.node ≡ Event (position + n))
  newest_of zero =
      let same : position ≡ position + 0 = omega arith in
      (a, ap (λ (xs : List Attached). slice_get xs (length xs - 1)) grown_none ∙ last, node ∙ ap Event same)
  newest_of (suc n) =
      let long = grown_length n in
      let longer = grown_length (suc n) in
      let at : length (grown (suc n)) - 1 ≡ length (grown n) = omega (arith, long, longer) in
      let same : position + n + 1 ≡ position + suc n = omega arith in
      (next n, ap (λ (xs : List Attached). slice_get xs (length (grown (suc n)) - 1)) (grown_more n) ∙ place_new (grown n) (next n) (length (grown (suc n)) - 1) at, ap Event same)

  pub newest_is : (n : ℕ) → is_newest (grown n) (Event (position + n)) ≡ true
  newest_is n =
      let b = newest_of n in
      ap (λ (o : Option Attached). option_map_or (λ (c : Attached). node_eq c.node (Event (position + n))) o false) b.1
      ∙ ap (λ (v : Node). node_eq v (Event (position + n))) b.2
      ∙ node_itself (Event (position + n))

  next_heir : (n : ℕ) → is_heir (grown n) (next n) ≡ true
  next_heir n = and_from (is_newest (grown n) (Event (position + n))) (side_eq Right Right) (newest_is n) refl

  above : (n : ℕ) → is_above_newest (grown n) (Event (position + n + 1)) ≡ true
  above n =
      let b = newest_of n in
      let less : Less ≡ nat_cmp (position + n) (position + n + 1) = nat_cmp_is (position + n) (position + n + 1) Less (omega arith) in
      ap (λ (o : Option Attached). option_map_or (λ (c : Attached). is_lt (node_cmp c.node (Event (position + n + 1)))) o true) b.1
      ∙ ap (λ (v : Node). is_lt (node_cmp v (Event (position + n + 1)))) b.2
      ∙ ap is_lt (sym less)

  -- WHAT IS NEW stays so
  not_more : (p : Attached → Bool) (n : ℕ) → list_any p (grown n) ≡ false → p (next n) ≡ false → list_any p (grown (suc n)) ≡ false
  not_more p n none new = ap (list_any p) (grown_more n) ∙ list_any-append p (grown n) (next n ∷ []) ∙ ap (λ (b : Bool). b || (p (next n) || false)) none ∙ ap (λ (b : Bool). b || false) new

  module _ (count : ℕ) (new : AreNew children position count) (k : ℕ) (lt : k < count) where
    new_node : (n : ℕ) → n ≤ k → is_attached (grown n) (Event (position + k + 1)) ≡ false
    new_node zero le = ap (λ (xs : List Attached). is_attached xs (Event (position + k + 1))) grown_none ∙ new.nodes k lt
    new_node (suc n) le =
        not_more (λ (b : Attached). node_eq b.node (Event (position + k + 1))) n (new_node n (omega arith))
        (ne_eqb (position + n + 1) (position + k + 1) (λ same. absurd (omega (arith, same))))

    new_id : (n : ℕ) → n ≤ k → has_id (grown n) (id_on a.id (k + 1)) ≡ false
    new_id zero le = ap (λ (xs : List Attached). has_id xs (id_on a.id (k + 1))) grown_none ∙ new.ids a last node k lt
    new_id (suc n) le =
        not_more (λ (b : Attached). id_eq b.id (id_on a.id (k + 1))) n (new_id n (omega arith))
        (false_from_ne_true (id_eq (id_on a.id (n + 1)) (id_on a.id (k + 1))) (λ one.
        let same : a.id.seq + (n + 1) ≡ a.id.seq + (k + 1) = ap (λ (x : Id). x.seq) (id_exact (id_on a.id (n + 1)) (id_on a.id (k + 1)) (eq_from (id_cmp (id_on a.id (n + 1)) (id_on a.id (k + 1))) one)) in
        absurd (omega (arith, same))))

  -- THE NEXT ONE
  module _ (sound : AreAttached [] children) (count : ℕ) (new : AreNew children position count) where
    agent : a.id.agent ≡ [] → ⊥
    agent = (attached_at [] children sound (length children - 1) a last).agent

    newest_there : (n : ℕ) → is_attached (grown n) (Event (position + n)) ≡ true
    newest_there n =
        let b = newest_of n in
        any_from (λ (c : Attached). node_eq c.node (Event (position + n))) (grown n) b.0 (got (grown n) (length (grown n) - 1) b.0 b.1) (ap (λ (v : Node). node_eq v (Event (position + n))) b.2 ∙ node_itself (Event (position + n)))

    may : (n : ℕ) → n < count → MayAttach (grown n) (next n)
    may n lt = record {
      event = refl;
      new = new_node count new n lt n (omega arith);
      parent = newest_there n;
      unused = new_id count new n lt n (omega arith);
      agent = agent;
    }

    pub grown_sound : (n : ℕ) → n ≤ count → AreAttached [] (grown n)
    grown_sound zero le = subst (λ (xs : List Attached). AreAttached [] xs) (sym grown_none) sound
    grown_sound (suc n) le = subst (λ (xs : List Attached). AreAttached [] xs) (sym (grown_more n)) (attached_push [] (grown n) (grown_sound n (omega arith)) (next n) (may n (omega arith)))

    -- it stands right behind the newest
    pub next_place : (n : ℕ) → n < count → IsPlaceOfNew (grown n) (Event (position + n)) Right (id_on a.id (n + 1)) (After (Event (position + n)))
    next_place n lt =
        let all = grown_sound n (omega arith) in
        place_beside (grown n) all (Event (position + n)) Right (id_on a.id (n + 1)) (newest_there n) (new_id count new n lt n (omega arith))
        (newest_childless (grown n) all (lower_line (Event (position + n)) Right (id_on a.id (n + 1))) (newest_is n)) (newest_childless (grown n) all (line_of (Event (position + n)) Right) (newest_is n))

  -- WHAT IS KEPT
  module _ (spot : Spot → Option ℕ) (places : Places) (firsts lasts : Ways) (kept : AreSiblings children spot places firsts lasts) (count : ℕ) (new : AreNew children position count) (rise : places.rising ≡ length children) (few : length children + count < 2 ^ 32) where
    abbrev IsKept : ℕ → Type 0
    IsKept n = AreSiblings (grown n) spot (with_rising places n) (with_heirs firsts n) (with_heirs lasts n)

    module _ (n : ℕ) (lt : n < count) (now : IsKept n) where
      placed : ArePlaces (grown n ++ next n ∷ []) (with_rising places (suc n))
      placed =
          let long = grown_length n in
          rising_more (grown n) (with_rising places n) now.places (next n) (new_node count new n lt n (omega arith)) (with_rising places (suc n)) (omega (arith, long, rise)) (above n) (omega arith) refl

      more_left : IsOneMore (with_heirs firsts n) (with_heirs firsts (suc n)) None
      more_left =
          let same : firsts.count + n + 1 ≡ firsts.count + suc n = omega arith in
          let all : firsts.count ≡ length children = kept.left.count in
          subst (λ (m : ℕ). IsOneMore (with_heirs firsts n) (record { end = firsts.end; count = m; heads = firsts.heads; links = firsts.links; free = firsts.free; chains = firsts.chains }) None) same
          (one_more_left (with_heirs firsts n) now.left.ways (omega (arith, all, few, lt)) now.left.end)

      more_right : IsOneMore (with_heirs lasts n) (with_heirs lasts (suc n)) (Some (lasts.count + n - 1))
      more_right =
          let same : lasts.count + n + 1 ≡ lasts.count + suc n = omega arith in
          let all : lasts.count ≡ length children = kept.right.count in
          subst (λ (m : ℕ). IsOneMore (with_heirs lasts n) (record { end = lasts.end; count = m; heads = lasts.heads; links = lasts.links; free = lasts.free; chains = lasts.chains }) (Some (lasts.count + n - 1))) same
          (one_more_right (with_heirs lasts n) now.right.ways (omega (arith, all, few, lt)) now.right.end
          (some_newest (grown n) now.attached (next n) (next_heir n) Right (with_heirs lasts n) now.right)
          (last_newest (grown n) now.attached (next n) (next_heir n) Right (with_heirs lasts n) now.right))

      kept_more : IsKept (suc n)
      kept_more =
          siblings_more (grown n) (grown (suc n)) (next n) (grown_more n) (may kept.attached count new n lt) spot spot (with_rising places n) (with_rising places (suc n)) (with_heirs firsts n) (with_heirs lasts n) (with_heirs firsts (suc n)) (with_heirs lasts (suc n)) now
          (heir_more (grown n) (next n) spot now.spots (next_heir n)) placed
          None (Some (lasts.count + n - 1)) tt (heir_left (grown n) now.attached (next n) (next_heir n) (way_of (with_heirs firsts n)))
          (heir_behind (grown n) now.attached (next n) (next_heir n) (with_heirs lasts n) now.right) tt
          more_left more_right

    kept_none : IsKept 0
    kept_none =
        let rising : places.rising ≡ places.rising + 0 = omega arith in
        let left : firsts.count ≡ firsts.count + 0 = omega arith in
        let right : lasts.count ≡ lasts.count + 0 = omega arith in
        subst (λ (m : ℕ). AreSiblings (grown 0) spot (record { rising = m; others = places.others }) (with_heirs firsts 0) (with_heirs lasts 0)) rising
        (subst (λ (m : ℕ). AreSiblings (grown 0) spot places (record { end = firsts.end; count = m; heads = firsts.heads; links = firsts.links; free = firsts.free; chains = firsts.chains }) (with_heirs lasts 0)) left
        (subst (λ (m : ℕ). AreSiblings (grown 0) spot places firsts (record { end = lasts.end; count = m; heads = lasts.heads; links = lasts.links; free = lasts.free; chains = lasts.chains })) right
        (subst (λ (xs : List Attached). AreSiblings xs spot places firsts lasts) (sym grown_none) kept)))

    -- with the heirs up to a place
    pub kept_to : (n : ℕ) → n ≤ count → IsKept n
    kept_to zero le = kept_none
    kept_to (suc n) le = kept_more n (omega arith) (kept_to n (omega arith))

-- once all of them came
module _ (children more : List Attached) (position n : ℕ) (have : HaveHeirs children more position n) (few : length more < 2 ^ 32) where
  pub heirs_few : length children + n < 2 ^ 32
  heirs_few =
      let now = ap length have.after in
      let long = grown_length children have.newest have.last position have.node n in
      omega (arith, now, long, few)

  pub siblings_grown : (spot : Spot → Option ℕ) (old places : Places) (firsts lasts left right : Ways) → AreSiblings children spot old firsts lasts → AreNew children position n → old.rising ≡ length children
      → places ≡ with_rising old n → left ≡ with_heirs firsts n → right ≡ with_heirs lasts n → AreSiblings more spot places left right
  siblings_grown spot old places firsts lasts left right kept new rise p l r =
      subst (λ (xs : List Attached). AreSiblings xs spot places left right) (sym have.after)
      (subst (λ (q : Places). AreSiblings (children ++ heirs_on have.newest.id position n) spot q left right) (sym p)
      (subst (λ (w : Ways). AreSiblings (children ++ heirs_on have.newest.id position n) spot (with_rising old n) w right) (sym l)
      (subst (λ (w : Ways). AreSiblings (children ++ heirs_on have.newest.id position n) spot (with_rising old n) (with_heirs firsts n) w) (sym r)
      (kept_to children have.newest have.last position have.node spot old firsts lasts kept n new rise heirs_few n (omega arith)))))
