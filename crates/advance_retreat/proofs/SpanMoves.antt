-- What advances and retreats of events that follow one another leave.
use Rattle.std.proofs.Common.{◌≡◌, ℕ, zero, suc, ◌+◌, ◌-◌, ◌<◌, ◌≤◌, List, [], ◌∷◌, ◌++◌, map, reverse, Some, refl, sym, ap, ◌∙◌, subst, append_assoc, arith, Result, OnErr}
use Rattle.std.specs.List.{range_with_len}
use Rattle.std.proofs.lemmas.List.{reverse-append}
use Rattle.ew_model.specs.Tree.{Applied}
use Rattle.ew_model.specs.Records.{without}
use Rattle.ew_model.specs.Moves.{after_advances, after_retreats}
use Rattle.fugue_place.specs.Attachments.{node_eq}
use Rattle.character_runs.specs.declared.change.Change.{Change}
use Rattle.character_runs.specs.declared.change.Change.TheVariants.{Raise, Lower}
use Rattle.advance_retreat.specs.Kept.{Kept, target_at}
use Rattle.character_runs.specs.declared.change.Kind.{Kind}
use Rattle.character_runs.specs.Replacing.{changed_among, node_by, is_in}
use Rattle.advance_retreat.specs.Standing.{StandsFor}
use Rattle.advance_retreat.specs.Conditions.{MayAdvanceEach, MayRetreatEach, Advanced, Retreated, PartAdvanced, PartRetreated}
use Rattle.character_runs.proofs.Spans.{none_between, none_among, in_turn, one_lower, low_apart, one_higher, high_apart}
use Rattle.advance_retreat.proofs.Moving.{with_records, changed_state, advanced_by, retreated_by}
use Rattle.ew_model.proofs.Ranges.{range_joined, range_first}
use Rattle.ew_model.proofs.Outcomes.{on_err}

-- POSITIONS
pub range_parted : (low mid high : ℕ) → low ≤ mid → mid ≤ high → range_with_len low (high - low) ≡ range_with_len low (mid - low) ++ range_with_len mid (high - mid)
range_parted low mid high le more =
    let long : high - low ≡ (mid - low) + (high - mid) = omega (arith, le, more) in
    let start : low + (mid - low) ≡ mid = omega (arith, le) in
    ap (range_with_len low) long ∙ range_joined low (mid - low) (high - mid) ∙ ap (λ (n : ℕ). range_with_len low (mid - low) ++ range_with_len n (high - mid)) start

pub falling_parted : (low mid high : ℕ) → low ≤ mid → mid ≤ high → reverse (range_with_len low (high - low)) ≡ reverse (range_with_len mid (high - mid)) ++ reverse (range_with_len low (mid - low))
falling_parted low mid high le more = ap reverse (range_parted low mid high le more) ∙ reverse-append (range_with_len low (mid - low)) (range_with_len mid (high - mid))

pub front_parted : (low n high : ℕ) → low + n ≤ high → range_with_len low (high - low) ≡ range_with_len low n ++ range_with_len (low + n) (high - (low + n))
front_parted low n high le =
    let long : (low + n) - low ≡ n = omega arith in
    range_parted low (low + n) high (omega arith) le ∙ ap (λ (k : ℕ). range_with_len low k ++ range_with_len (low + n) (high - (low + n))) long

pub back_parted : (low mid n high : ℕ) → low ≤ mid → mid + n ≡ high → reverse (range_with_len low (high - low)) ≡ reverse (range_with_len mid n) ++ reverse (range_with_len low (mid - low))
back_parted low mid n high le on =
    let long : high - mid ≡ n = omega (arith, on) in
    falling_parted low mid high le (omega (arith, on)) ∙ ap (λ (k : ℕ). reverse (range_with_len mid k) ++ reverse (range_with_len low (mid - low))) long

pub falling_more : (from n : ℕ) → reverse (range_with_len from (suc n)) ≡ (from + n) ∷ reverse (range_with_len from n)
falling_more from n =
    let more : suc n ≡ n + 1 = omega arith in
    ap (λ (k : ℕ). reverse (range_with_len from k)) more ∙ ap reverse (range_joined from n 1) ∙ reverse-append (range_with_len from n) ((from + n) ∷ [])

pub falling_first : (low last high : ℕ) → low ≤ last → last + 1 ≡ high → reverse (range_with_len low (high - low)) ≡ last ∷ reverse (range_with_len low (last - low))
falling_first low last high le next =
    let long : high - low ≡ suc (last - low) = omega (arith, le, next) in
    let on : low + (last - low) ≡ last = omega (arith, le) in
    ap (λ (n : ℕ). reverse (range_with_len low n)) long ∙ falling_more low (last - low) ∙ ap (λ (n : ℕ). n ∷ reverse (range_with_len low (last - low))) on

-- the characters of a kind with such numbers are changed
abbrev pub changed_span : Kept → Kind → ℕ → ℕ → Change → Kept
changed_span s kind low high change = with_records s (map (changed_among (is_in kind low high) change) s.records)

same_records : (s : Kept) (kind : Kind) (low high : ℕ) (change : Change) → high ≤ low → changed_span s kind low high change ≡ s
same_records s kind low high change le = ap (with_records s) (none_among change (is_in kind low high) (none_between kind low high le) s.records)

-- so many events from one on are about characters that go up with them, from c on, or down, to c
abbrev pub GoUp : Kept → Kind → ℕ → ℕ → ℕ → Type 0
GoUp s kind low c n = (i m k : ℕ) → i < n → m ≡ low + i → k ≡ c + i → target_at s.targets m ≡ Some (node_by kind k)

abbrev pub GoDown : Kept → Kind → ℕ → ℕ → ℕ → Type 0
GoDown s kind low c n = (i m k : ℕ) → i < n → m ≡ low + i → k + i + 1 ≡ c + n → target_at s.targets m ≡ Some (node_by kind k)

-- MOVES IN PARTS
pub advances-append : (prepared xs ys : List ℕ) → after_advances prepared (xs ++ ys) ≡ after_advances (after_advances prepared xs) ys
advances-append prepared [] ys = refl
advances-append prepared (x ∷ xs) ys = advances-append (x ∷ prepared) xs ys

pub retreats-append : (prepared xs ys : List ℕ) → after_retreats prepared (xs ++ ys) ≡ after_retreats (after_retreats prepared xs) ys
retreats-append prepared [] ys = refl
retreats-append prepared (x ∷ xs) ys = retreats-append (without x prepared) xs ys

-- two fronts, the second of what the first leaves
pub fronts_joined : (one two left mid all : List ℕ) → two ++ left ≡ mid → one ++ mid ≡ all → (one ++ two) ++ left ≡ all
fronts_joined one two left mid all inner outer = append_assoc one two left ∙ ap (λ (ps : List ℕ). one ++ ps) inner ∙ outer

module _ (b : ℕ) (events : List (Applied ℕ)) (prepared all : List ℕ) where
  -- all moves: those that were made, and the others
  pub advance_whole : (s : Kept) (rest : List ℕ) → (a : Advanced s b events prepared all rest) → after_advances a.now rest ≡ after_advances prepared all
  advance_whole s rest a = ap (λ (ps : List ℕ). after_advances ps rest) a.is ∙ sym (advances-append prepared a.made rest) ∙ ap (after_advances prepared) a.parts

  pub retreat_whole : (s : Kept) (rest : List ℕ) → (a : Retreated s b events prepared all rest) → after_retreats a.now rest ≡ after_retreats prepared all
  retreat_whole s rest a = ap (λ (ps : List ℕ). after_retreats ps rest) a.is ∙ sym (retreats-append prepared a.made rest) ∙ ap (after_retreats prepared) a.parts

  -- further moves
  pub advanced_on : (s t : Kept) (mid rest : List ℕ) → (a : Advanced s b events prepared all mid) → Advanced t b events a.now mid rest → Advanced t b events prepared all rest
  advanced_on s t mid rest a d = record {
    made = a.made ++ d.made;
    parts = fronts_joined a.made d.made rest mid all d.parts a.parts;
    now = d.now;
    is = d.is ∙ ap (λ (ps : List ℕ). after_advances ps d.made) a.is ∙ sym (advances-append prepared a.made d.made);
    stands = d.stands;
    may = d.may;
  }

  pub retreated_on : (s t : Kept) (mid rest : List ℕ) → (a : Retreated s b events prepared all mid) → Retreated t b events a.now mid rest → Retreated t b events prepared all rest
  retreated_on s t mid rest a d = record {
    made = a.made ++ d.made;
    parts = fronts_joined a.made d.made rest mid all d.parts a.parts;
    now = d.now;
    is = d.is ∙ ap (λ (ps : List ℕ). after_retreats ps d.made) a.is ∙ sym (retreats-append prepared a.made d.made);
    stands = d.stands;
    may = d.may;
  }

  -- the next move wasn't made
  pub advance_ends : (s : Kept) (next : ℕ) (left : List ℕ) → Advanced s b events prepared all (next ∷ left) → PartAdvanced s b events prepared all
  advance_ends s next left a = record { made = a.made; next = next; left = left; parts = a.parts; stands = subst (StandsFor s b events) a.is a.stands }

  pub retreat_ends : (s : Kept) (next : ℕ) (left : List ℕ) → Retreated s b events prepared all (next ∷ left) → PartRetreated s b events prepared all
  retreat_ends s next left a = record { made = a.made; next = next; left = left; parts = a.parts; stands = subst (StandsFor s b events) a.is a.stands }

  -- of the next moves only a front was made
  module _ (s t : Kept) (xs ys rest : List ℕ) (parts : rest ≡ xs ++ ys) where
    pub advanced_part : {X E : Type 0} (result : Result X E) (a : Advanced s b events prepared all rest) → PartAdvanced t b events a.now xs → OnErr result (PartAdvanced t b events prepared all)
    advanced_part result a d = on_err result (PartAdvanced t b events prepared all) (record {
      made = a.made ++ d.made;
      next = d.next;
      left = d.left ++ ys;
      parts = fronts_joined a.made d.made (d.next ∷ (d.left ++ ys)) rest all (sym (append_assoc d.made (d.next ∷ d.left) ys) ∙ ap (λ (ps : List ℕ). ps ++ ys) d.parts ∙ sym parts) a.parts;
      stands = subst (StandsFor t b events) (ap (λ (ps : List ℕ). after_advances ps d.made) a.is ∙ sym (advances-append prepared a.made d.made)) d.stands;
    })

    pub retreated_part : {X E : Type 0} (result : Result X E) (a : Retreated s b events prepared all rest) → PartRetreated t b events a.now xs → OnErr result (PartRetreated t b events prepared all)
    retreated_part result a d = on_err result (PartRetreated t b events prepared all) (record {
      made = a.made ++ d.made;
      next = d.next;
      left = d.left ++ ys;
      parts = fronts_joined a.made d.made (d.next ∷ (d.left ++ ys)) rest all (sym (append_assoc d.made (d.next ∷ d.left) ys) ∙ ap (λ (ps : List ℕ). ps ++ ys) d.parts ∙ sym parts) a.parts;
      stands = subst (StandsFor t b events) (ap (λ (ps : List ℕ). after_retreats ps d.made) a.is ∙ sym (retreats-append prepared a.made d.made)) d.stands;
    })

module _ (b : ℕ) (events : List (Applied ℕ)) where
  -- ADVANCES
  -- events whose characters go up with them, from c on
  advance_up : (kind : Kind) (n low c high : ℕ) (s : Kept) (prepared rest : List ℕ) → c + n ≡ high → StandsFor s b events prepared → GoUp s kind low c n → MayAdvanceEach events prepared (range_with_len low n ++ rest)
      → Advanced (changed_span s kind c high Raise) b events prepared (range_with_len low n ++ rest) rest
  advance_up kind zero low c high s prepared rest long st told may =
      subst (λ (t : Kept). Advanced t b events prepared rest rest) (sym (same_records s kind c high Raise (omega (arith, long)))) (record { made = []; parts = refl; now = prepared; is = refl; stands = st; may = may })
  advance_up kind (suc n) low c high s prepared rest long st told may =
      let one = changed_state s (node_by kind c) Raise in
      let stands : StandsFor one b events (low ∷ prepared) = advanced_by s b events prepared st low (node_by kind c) (told 0 low c (omega arith) (omega arith) (omega arith)) may.0.0 may.0.1 in
      let later = advance_up kind n (low + 1) (c + 1) high one (low ∷ prepared) rest (omega (arith, long)) stands (λ i m k lt e f. told (i + 1) m k (omega (arith, lt)) (omega (arith, e)) (omega (arith, f))) may.1 in
      let records = in_turn Raise (is_in kind c high) (λ v. node_eq v (node_by kind c)) (is_in kind (c + 1) high) (one_lower kind c high (omega (arith, long))) (low_apart kind c high) s.records in
      subst (λ (t : Kept). Advanced t b events prepared (low ∷ (range_with_len (low + 1) n ++ rest)) rest) (ap (with_records s) records)
      (record { made = low ∷ later.made; parts = ap (λ (ps : List ℕ). low ∷ ps) later.parts; now = later.now; is = later.is; stands = later.stands; may = later.may })

  -- events whose characters go down, to c
  advance_down : (kind : Kind) (n low c : ℕ) (s : Kept) (prepared rest : List ℕ) → StandsFor s b events prepared → GoDown s kind low c n → MayAdvanceEach events prepared (range_with_len low n ++ rest)
      → Advanced (changed_span s kind c (c + n) Raise) b events prepared (range_with_len low n ++ rest) rest
  advance_down kind zero low c s prepared rest st told may =
      subst (λ (t : Kept). Advanced t b events prepared rest rest) (sym (same_records s kind c (c + 0) Raise (omega arith))) (record { made = []; parts = refl; now = prepared; is = refl; stands = st; may = may })
  advance_down kind (suc n) low c s prepared rest st told may =
      let top = c + n in
      let next : c + suc n ≡ top + 1 = omega arith in
      let one = changed_state s (node_by kind top) Raise in
      let stands : StandsFor one b events (low ∷ prepared) = advanced_by s b events prepared st low (node_by kind top) (told 0 low top (omega arith) (omega arith) (omega arith)) may.0.0 may.0.1 in
      let later = advance_down kind n (low + 1) c one (low ∷ prepared) rest stands (λ i m k lt e f. told (i + 1) m k (omega (arith, lt)) (omega (arith, e)) (omega (arith, f))) may.1 in
      let records = in_turn Raise (is_in kind c (top + 1)) (λ v. node_eq v (node_by kind top)) (is_in kind c top) (one_higher kind c top (omega arith)) (high_apart kind c top) s.records in
      subst (λ (k : ℕ). Advanced (changed_span s kind c k Raise) b events prepared (low ∷ (range_with_len (low + 1) n ++ rest)) rest) (sym next)
      (subst (λ (t : Kept). Advanced t b events prepared (low ∷ (range_with_len (low + 1) n ++ rest)) rest) (ap (with_records s) records)
      (record { made = low ∷ later.made; parts = ap (λ (ps : List ℕ). low ∷ ps) later.parts; now = later.now; is = later.is; stands = later.stands; may = later.may }))

  pub advance_front_up : (kind : Kind) (s : Kept) (prepared : List ℕ) (low n high c : ℕ) → low + n ≤ high → StandsFor s b events prepared → GoUp s kind low c n → MayAdvanceEach events prepared (range_with_len low (high - low))
      → Advanced (changed_span s kind c (c + n) Raise) b events prepared (range_with_len low (high - low)) (range_with_len (low + n) (high - (low + n)))
  advance_front_up kind s prepared low n high c le st told may =
      let parts = front_parted low n high le in
      subst (λ (ps : List ℕ). Advanced (changed_span s kind c (c + n) Raise) b events prepared ps (range_with_len (low + n) (high - (low + n)))) (sym parts)
      (advance_up kind n low c (c + n) s prepared (range_with_len (low + n) (high - (low + n))) refl st told (subst (MayAdvanceEach events prepared) parts may))

  pub advance_front_down : (kind : Kind) (s : Kept) (prepared : List ℕ) (low n high c : ℕ) → low + n ≤ high → StandsFor s b events prepared → GoDown s kind low c n → MayAdvanceEach events prepared (range_with_len low (high - low))
      → Advanced (changed_span s kind c (c + n) Raise) b events prepared (range_with_len low (high - low)) (range_with_len (low + n) (high - (low + n)))
  advance_front_down kind s prepared low n high c le st told may =
      let parts = front_parted low n high le in
      subst (λ (ps : List ℕ). Advanced (changed_span s kind c (c + n) Raise) b events prepared ps (range_with_len (low + n) (high - (low + n)))) (sym parts)
      (advance_down kind n low c s prepared (range_with_len (low + n) (high - (low + n))) st told (subst (MayAdvanceEach events prepared) parts may))

  pub advance_one : (t : Kept) (prepared : List ℕ) (low high : ℕ) → low < high → MayAdvanceEach events prepared (range_with_len low (high - low)) → StandsFor t b events (low ∷ prepared)
      → Advanced t b events prepared (range_with_len low (high - low)) (range_with_len (low + 1) (high - (low + 1)))
  advance_one t prepared low high lt may st =
      let first = range_first low high lt in
      subst (λ (ps : List ℕ). Advanced t b events prepared ps (range_with_len (low + 1) (high - (low + 1)))) (sym first)
      (record { made = low ∷ []; parts = refl; now = low ∷ prepared; is = refl; stands = st; may = (subst (MayAdvanceEach events prepared) first may).1 })

  pub advanced_end : (s : Kept) (prepared : List ℕ) (low high : ℕ) (all : List ℕ) → Advanced s b events prepared all (range_with_len low (high - low)) → high ≤ low → StandsFor s b events (after_advances prepared all)
  advanced_end s prepared low high all a le =
      let none : 0 ≡ high - low = omega (arith, le) in
      subst (StandsFor s b events) (ap (λ (n : ℕ). after_advances a.now (range_with_len low n)) none ∙ advance_whole b events prepared all s (range_with_len low (high - low)) a) a.stands

  -- RETREATS
  -- events whose characters go up with them, from c on
  retreat_up : (kind : Kind) (n low c : ℕ) (s : Kept) (prepared rest : List ℕ) → StandsFor s b events prepared → GoUp s kind low c n → MayRetreatEach events prepared (reverse (range_with_len low n) ++ rest)
      → Retreated (changed_span s kind c (c + n) Lower) b events prepared (reverse (range_with_len low n) ++ rest) rest
  retreat_up kind zero low c s prepared rest st told may =
      subst (λ (t : Kept). Retreated t b events prepared rest rest) (sym (same_records s kind c (c + 0) Lower (omega arith))) (record { made = []; parts = refl; now = prepared; is = refl; stands = st; may = may })
  retreat_up kind (suc n) low c s prepared rest st told may =
      let last = low + n in
      let top = c + n in
      let next : c + suc n ≡ top + 1 = omega arith in
      let falls : reverse (range_with_len low (suc n)) ++ rest ≡ last ∷ (reverse (range_with_len low n) ++ rest) = ap (λ (ps : List ℕ). ps ++ rest) (falling_more low n) in
      let allowed = subst (MayRetreatEach events prepared) falls may in
      let one = changed_state s (node_by kind top) Lower in
      let stands : StandsFor one b events (without last prepared) = retreated_by s b events prepared st last (node_by kind top) (told n last top (omega arith) refl refl) allowed.0.0 allowed.0.1 in
      let later = retreat_up kind n low c one (without last prepared) rest stands (λ i m k lt e f. told i m k (omega (arith, lt)) e f) allowed.1 in
      let records = in_turn Lower (is_in kind c (top + 1)) (λ v. node_eq v (node_by kind top)) (is_in kind c top) (one_higher kind c top (omega arith)) (high_apart kind c top) s.records in
      subst (λ (ps : List ℕ). Retreated (changed_span s kind c (c + suc n) Lower) b events prepared ps rest) (sym falls)
      (subst (λ (k : ℕ). Retreated (changed_span s kind c k Lower) b events prepared (last ∷ (reverse (range_with_len low n) ++ rest)) rest) (sym next)
      (subst (λ (t : Kept). Retreated t b events prepared (last ∷ (reverse (range_with_len low n) ++ rest)) rest) (ap (with_records s) records)
      (record { made = last ∷ later.made; parts = ap (λ (ps : List ℕ). last ∷ ps) later.parts; now = later.now; is = later.is; stands = later.stands; may = later.may })))

  -- events whose characters go down, to c
  retreat_down : (kind : Kind) (n low c high : ℕ) (s : Kept) (prepared rest : List ℕ) → c + n ≡ high → StandsFor s b events prepared → GoDown s kind low c n → MayRetreatEach events prepared (reverse (range_with_len low n) ++ rest)
      → Retreated (changed_span s kind c high Lower) b events prepared (reverse (range_with_len low n) ++ rest) rest
  retreat_down kind zero low c high s prepared rest long st told may =
      subst (λ (t : Kept). Retreated t b events prepared rest rest) (sym (same_records s kind c high Lower (omega (arith, long)))) (record { made = []; parts = refl; now = prepared; is = refl; stands = st; may = may })
  retreat_down kind (suc n) low c high s prepared rest long st told may =
      let last = low + n in
      let falls : reverse (range_with_len low (suc n)) ++ rest ≡ last ∷ (reverse (range_with_len low n) ++ rest) = ap (λ (ps : List ℕ). ps ++ rest) (falling_more low n) in
      let allowed = subst (MayRetreatEach events prepared) falls may in
      let one = changed_state s (node_by kind c) Lower in
      let stands : StandsFor one b events (without last prepared) = retreated_by s b events prepared st last (node_by kind c) (told n last c (omega arith) refl (omega arith)) allowed.0.0 allowed.0.1 in
      let later = retreat_down kind n low (c + 1) high one (without last prepared) rest (omega (arith, long)) stands (λ i m k lt e f. told i m k (omega (arith, lt)) e (omega (arith, f))) allowed.1 in
      let records = in_turn Lower (is_in kind c high) (λ v. node_eq v (node_by kind c)) (is_in kind (c + 1) high) (one_lower kind c high (omega (arith, long))) (low_apart kind c high) s.records in
      subst (λ (ps : List ℕ). Retreated (changed_span s kind c high Lower) b events prepared ps rest) (sym falls)
      (subst (λ (t : Kept). Retreated t b events prepared (last ∷ (reverse (range_with_len low n) ++ rest)) rest) (ap (with_records s) records)
      (record { made = last ∷ later.made; parts = ap (λ (ps : List ℕ). last ∷ ps) later.parts; now = later.now; is = later.is; stands = later.stands; may = later.may }))

  pub retreat_back_up : (kind : Kind) (s : Kept) (prepared : List ℕ) (low mid n high c : ℕ) → low ≤ mid → mid + n ≡ high → StandsFor s b events prepared → GoUp s kind mid c n → MayRetreatEach events prepared (reverse (range_with_len low (high - low)))
      → Retreated (changed_span s kind c (c + n) Lower) b events prepared (reverse (range_with_len low (high - low))) (reverse (range_with_len low (mid - low)))
  retreat_back_up kind s prepared low mid n high c le on st told may =
      let parts = back_parted low mid n high le on in
      subst (λ (ps : List ℕ). Retreated (changed_span s kind c (c + n) Lower) b events prepared ps (reverse (range_with_len low (mid - low)))) (sym parts)
      (retreat_up kind n mid c s prepared (reverse (range_with_len low (mid - low))) st told (subst (MayRetreatEach events prepared) parts may))

  pub retreat_back_down : (kind : Kind) (s : Kept) (prepared : List ℕ) (low mid n high c : ℕ) → low ≤ mid → mid + n ≡ high → StandsFor s b events prepared → GoDown s kind mid c n → MayRetreatEach events prepared (reverse (range_with_len low (high - low)))
      → Retreated (changed_span s kind c (c + n) Lower) b events prepared (reverse (range_with_len low (high - low))) (reverse (range_with_len low (mid - low)))
  retreat_back_down kind s prepared low mid n high c le on st told may =
      let parts = back_parted low mid n high le on in
      subst (λ (ps : List ℕ). Retreated (changed_span s kind c (c + n) Lower) b events prepared ps (reverse (range_with_len low (mid - low)))) (sym parts)
      (retreat_down kind n mid c (c + n) s prepared (reverse (range_with_len low (mid - low))) refl st told (subst (MayRetreatEach events prepared) parts may))

  pub retreat_one : (t : Kept) (prepared : List ℕ) (low last high : ℕ) → low ≤ last → last + 1 ≡ high → MayRetreatEach events prepared (reverse (range_with_len low (high - low))) → StandsFor t b events (without last prepared)
      → Retreated t b events prepared (reverse (range_with_len low (high - low))) (reverse (range_with_len low (last - low)))
  retreat_one t prepared low last high le next may st =
      let first = falling_first low last high le next in
      subst (λ (ps : List ℕ). Retreated t b events prepared ps (reverse (range_with_len low (last - low)))) (sym first)
      (record { made = last ∷ []; parts = refl; now = without last prepared; is = refl; stands = st; may = (subst (MayRetreatEach events prepared) first may).1 })

  pub retreated_end : (s : Kept) (prepared : List ℕ) (low high : ℕ) (all : List ℕ) → Retreated s b events prepared all (reverse (range_with_len low (high - low))) → high ≤ low → StandsFor s b events (after_retreats prepared all)
  retreated_end s prepared low high all a le =
      let none : 0 ≡ high - low = omega (arith, le) in
      subst (StandsFor s b events) (ap (λ (n : ℕ). after_retreats a.now (reverse (range_with_len low n))) none ∙ retreat_whole b events prepared all s (reverse (range_with_len low (high - low))) a) a.stands

  -- where the next move wasn't made
  pub advance_left : (s : Kept) (prepared all : List ℕ) (low high : ℕ) → low < high → Advanced s b events prepared all (range_with_len low (high - low)) → PartAdvanced s b events prepared all
  advance_left s prepared all low high lt a = advance_ends b events prepared all s low (range_with_len (low + 1) (high - (low + 1))) (subst (Advanced s b events prepared all) (range_first low high lt) a)

  pub retreat_left : (s : Kept) (prepared all : List ℕ) (low high : ℕ) → low < high → Retreated s b events prepared all (reverse (range_with_len low (high - low))) → PartRetreated s b events prepared all
  retreat_left s prepared all low high lt a =
      retreat_ends b events prepared all s (high - 1) (reverse (range_with_len low (high - 1 - low)))
      (subst (Retreated s b events prepared all) (falling_first low (high - 1) high (omega (arith, lt)) (omega (arith, lt))) a)
