-- Tables of places, as they grow, and the records that are written by them.
use Rattle.std.proofs.Common.{◌≡◌, ℕ, zero, suc, ◌+◌, ◌<◌, ◌≤◌, Bool, true, false, cond, not, ◌||◌, inl, inr, List, [], ◌∷◌, ◌++◌, length, take, drop, get_or, map, flat_map, Option, Some, None, All, refl, sym, ap, subst, ◌∙◌, append_assoc, append-nil, arith}
use Rattle.std.specs.Prelude.{unwrap_or, IsSome}
use Rattle.std.specs.Cmp.{IsEquivalence}
use Rattle.std.specs.List.{list_any, list_all, position_or_len, AllByRecursion}
use Rattle.std.proofs.lemmas.Bool.{cases_Bool, cond-true, cond-false, or_parts, or_left, or_right, and_parts}
use Rattle.std.proofs.lemmas.List.{length-map, map-append, take-append-drop, take_more}
use Rattle.std.proofs.lemmas.List.Elements.{All-from_recursion}
use Rattle.std.proofs.lemmas.List.Folds.{list_any-append}
use Rattle.std.proofs.Math.Seq.{drop-cons}
use Rattle.ew_model.specs.declared.id.Id.{Id}
use Rattle.ew_model.specs.declared.event.Event.{Event}
use Rattle.ew_model.specs.Ids.{name_eq, id_eq, is_among}
use Rattle.ew_model.specs.Ancestors.{ids_of}
use Rattle.ew_model.specs.Bytes.{four_bytes, op_bytes}
use Rattle.ew_model.specs.Writable.{agents_of, are_writable_after, IsWritable}
use Rattle.file_words.specs.File.{record_bytes}
use Rattle.ew_model.proofs.ListPlaces.{place_kept, there_among, get-take}
use Rattle.ew_model.proofs.IdLaws.{names_equal, name_exact}
use Rattle.file_words.proofs.FileRecords.{id_eq_exact, parent_bytes, record_at, MayFollow}
use Rattle.file_words.proofs.FileEvents.{writable_parts, record_whole, agent_open}
use Rattle.ew_model.proofs.AgentLaws.{agents_few_from, ids_count}
use Rattle.ew_model.proofs.TextLaws.{ids_equal}
use Rattle.event_file.specs.Places.{place_in, HasPlaces}
use Rattle.event_file.specs.Writing.{fields_of}

module _ {X : Type 0} (eq : X → X → Bool) (laws : IsEquivalence eq) (exact : (x y : X) → eq x y ≡ true → x ≡ y) where
  at_end : (xs : List X) (x y : X) → list_any (eq x) xs ≡ false → eq x y ≡ true → position_or_len (eq x) (xs ++ y ∷ []) ≡ length xs
  at_end [] x y none t = ap (λ b. cond (not b) (1 + 0) 0) t
  at_end (z ∷ zs) x y none t =
      let p = or_parts (eq x z) (list_any (eq x) zs) none in
      ap (λ b. cond (not b) (1 + position_or_len (eq x) (zs ++ y ∷ [])) 0) p.0 ∙ ap (λ n. 1 + n) (at_end zs x y p.1 t) ∙ omega arith

  joined : (xs : List X) (x y : X) → list_any (eq x) (xs ++ y ∷ []) ≡ (list_any (eq x) xs || (eq x y || false))
  joined xs x y = list_any-append (eq x) xs (y ∷ [])

  -- a table goes on with the place of one that is new
  pub one_more_place : (xs : List X) (y : X) (table more : X → Option ℕ) → HasPlaces eq table xs → list_any (eq y) xs ≡ false → ((x : X) → more x ≡ cond (eq y x) (Some (length xs)) (table x)) → HasPlaces eq more (xs ++ y ∷ [])
  one_more_place xs y table more has new up x =
      elim (cases_Bool (eq y x)) [
        | inl t ↦
            let same : y ≡ x = exact y x t in
            let none : list_any (eq x) xs ≡ false = ap (λ z. list_any (eq z) xs) (sym same) ∙ new in
            let own : eq x y ≡ true = laws.symm x y ∙ t in
            let there : list_any (eq x) (xs ++ y ∷ []) ≡ true = joined xs x y ∙ or_right (list_any (eq x) xs) (eq x y || false) (or_left (eq x y) false own) in
            up x ∙ cond-true (eq y x) (Some (length xs)) (table x) t ∙ ap (λ n. Some n) (sym (at_end xs x y none own)) ∙ sym (cond-true (list_any (eq x) (xs ++ y ∷ [])) (Some (position_or_len (eq x) (xs ++ y ∷ []))) None there)
        | inr f ↦ up x ∙ cond-false (eq y x) (Some (length xs)) (table x) f ∙ has x ∙ kept (laws.symm x y ∙ f) (list_any (eq x) xs) refl
      ]
    where
      kept : eq x y ≡ false → (b : Bool) → list_any (eq x) xs ≡ b → place_in eq xs x ≡ place_in eq (xs ++ y ∷ []) x
      kept f true h =
          let there : list_any (eq x) (xs ++ y ∷ []) ≡ true = joined xs x y ∙ or_left (list_any (eq x) xs) (eq x y || false) h in
          cond-true (list_any (eq x) xs) (Some (position_or_len (eq x) xs)) None h ∙ ap (λ n. Some n) (sym (place_kept eq laws exact xs (y ∷ []) x h)) ∙ sym (cond-true (list_any (eq x) (xs ++ y ∷ [])) (Some (position_or_len (eq x) (xs ++ y ∷ []))) None there)
      kept f false h =
          let none : list_any (eq x) (xs ++ y ∷ []) ≡ false = joined xs x y ∙ ap (λ b. b || (eq x y || false)) h ∙ ap (λ b. b || false) f in
          cond-false (list_any (eq x) xs) (Some (position_or_len (eq x) xs)) None h ∙ sym (cond-false (list_any (eq x) (xs ++ y ∷ [])) (Some (position_or_len (eq x) (xs ++ y ∷ []))) None none)

  -- what is there has a place
  pub place_is : (xs : List X) (x : X) (table : X → Option ℕ) → HasPlaces eq table xs → list_any (eq x) xs ≡ true → table x ≡ Some (position_or_len (eq x) xs)
  place_is xs x table has h = has x ∙ cond-true (list_any (eq x) xs) (Some (position_or_len (eq x) xs)) None h

  -- what has no place isn't there
  pub no_place : (xs : List X) (x : X) (table : X → Option ℕ) → HasPlaces eq table xs → table x ≡ None → list_any (eq x) xs ≡ false
  no_place xs x table has none = at (list_any (eq x) xs) refl (sym (has x) ∙ none)
    where
      at : (b : Bool) → list_any (eq x) xs ≡ b → cond (list_any (eq x) xs) (Some (position_or_len (eq x) xs)) None ≡ None → b ≡ false
      at true h e = absurd (let no : Some (position_or_len (eq x) xs) ≡ None = sym (cond-true (list_any (eq x) xs) (Some (position_or_len (eq x) xs)) None h) ∙ e in cc)
      at false h e = refl

-- ---- parents by a table

held_have : (ids : List Id) (table : Id → Option ℕ) (parents : List Id) → HasPlaces id_eq table ids → list_all (is_among ids) parents ≡ true → AllByRecursion (λ p. IsSome (table p)) parents
held_have ids table [] has held = tt
held_have ids table (p ∷ ps) has held =
    let h = and_parts (is_among ids p) (list_all (is_among ids) ps) held in
    (subst IsSome (sym (place_is id_eq ids_equal id_eq_exact ids p table has h.0)) refl, held_have ids table ps has h.1)

pub all_have : (ids : List Id) (table : Id → Option ℕ) (parents : List Id) → HasPlaces id_eq table ids → list_all (is_among ids) parents ≡ true → All (λ p. IsSome (table p)) parents
all_have ids table parents has held = All-from_recursion (λ p. IsSome (table p)) parents (held_have ids table parents has held)

abbrev pub by_table : (Id → Option ℕ) → Id → List ℕ
by_table table p = four_bytes (unwrap_or (table p) 0)

same_parents : (ids : List Id) (table : Id → Option ℕ) (parents : List Id) → HasPlaces id_eq table ids → list_all (is_among ids) parents ≡ true → flat_map (by_table table) parents ≡ flat_map (parent_bytes ids) parents
same_parents ids table [] has held = refl
same_parents ids table (p ∷ ps) has held =
    let h = and_parts (is_among ids p) (list_all (is_among ids) ps) held in
    let first : by_table table p ≡ parent_bytes ids p = ap (λ o. four_bytes (unwrap_or o 0)) (place_is id_eq ids_equal id_eq_exact ids p table has h.0) in
    λ i. first i ++ same_parents ids table ps has h.1 i

-- ---- an event in the middle

pub split_at : (events : List Event) (i : ℕ) (e : Event) → i < length events → e ≡ get_or events i e → events ≡ take i events ++ e ∷ drop (suc i) events
split_at events i e lt is = sym (take-append-drop i events) ∙ ap (λ t. take i events ++ t) (drop-cons events i e lt ∙ ap (λ x. x ∷ drop (suc i) events) (sym is))

follows_in : (front before : List Event) (e : Event) (later : List Event) → are_writable_after front (before ++ e ∷ later) ≡ true → MayFollow (front ++ before) e
follows_in front [] e later h = subst (λ xs. MayFollow xs e) (sym (append-nil front)) (writable_parts front e later h).0
follows_in front (f ∷ before) e later h =
    subst (λ xs. MayFollow xs e) (append_assoc front (f ∷ []) before) (follows_in (front ++ f ∷ []) before e later (writable_parts front f (before ++ e ∷ later) h).1)

-- each event of a list that may be written follows those before it
pub follows_at : (events : List Event) (i : ℕ) (e : Event) → IsWritable events → i < length events → e ≡ get_or events i e → MayFollow (take i events) e
follows_at events i e w lt is =
    follows_in [] (take i events) e (drop (suc i) events) (ap (are_writable_after []) (sym (split_at events i e lt is)) ∙ w.each)

pub agent_there : (events : List Event) (i : ℕ) (e : Event) → i < length events → e ≡ get_or events i e → list_any (name_eq e.id.agent) (agents_of events) ≡ true
agent_there events i e lt is =
    let before = take i events in
    let later = drop (suc i) events in
    let whole = before ++ e ∷ later in
    let at = agent_open before e later in
    ap (λ xs. list_any (name_eq e.id.agent) (agents_of xs)) (split_at events i e lt is)
    ∙ there_among name_eq names_equal name_exact (agents_of whole) (position_or_len (name_eq e.id.agent) (agents_of whole)) e.id.agent (get-take (suc (length (agents_of before))) (agents_of whole) (position_or_len (name_eq e.id.agent) (agents_of whole)) e.id.agent at)

-- the record of an event, by the agents and a table of the ids before it
abbrev pub record_by : List (List ℕ) → (Id → Option ℕ) → Event → List ℕ
record_by agents table e =
    four_bytes (position_or_len (name_eq e.id.agent) agents)
    ++ four_bytes e.id.seq
    ++ length e.parents ∷ flat_map (by_table table) e.parents
    ++ op_bytes e.op

pub numbered_bytes : (number : Id → ℕ) (ids : List Id) → flat_map four_bytes (map number ids) ≡ flat_map (λ x. four_bytes (number x)) ids
numbered_bytes number [] = refl
numbered_bytes number (x ∷ ids) = ap (λ bytes. four_bytes (number x) ++ bytes) (numbered_bytes number ids)

-- the record by the numbers that the table has
pub fields_by : (agents : List (List ℕ)) (table : Id → Option ℕ) (e : Event) → fields_of (position_or_len (name_eq e.id.agent) agents) e.id.seq (map (λ x. unwrap_or (table x) 0) e.parents) e.op ≡ record_by agents table e
fields_by agents table e =
    let number = λ (x : Id). unwrap_or (table x) 0 in
    ap (λ n. four_bytes (position_or_len (name_eq e.id.agent) agents) ++ four_bytes e.id.seq ++ n ∷ flat_map four_bytes (map number e.parents) ++ op_bytes e.op) (length-map e.parents number)
    ∙ ap (λ ps. four_bytes (position_or_len (name_eq e.id.agent) agents) ++ four_bytes e.id.seq ++ length e.parents ∷ ps ++ op_bytes e.op) (numbered_bytes number e.parents)

pub record_is : (events : List Event) (i : ℕ) (e : Event) (table : Id → Option ℕ) → IsWritable events → i < length events → e ≡ get_or events i e → HasPlaces id_eq table (ids_of (take i events)) → record_by (agents_of events) table e ≡ record_bytes events e
record_is events i e table w lt is has =
    let f = follows_at events i e w lt is in
    let split = split_at events i e lt is in
    ap (λ ps. four_bytes (position_or_len (name_eq e.id.agent) (agents_of events)) ++ four_bytes e.id.seq ++ length e.parents ∷ ps ++ op_bytes e.op) (same_parents (ids_of (take i events)) table e.parents has f.held)
    ∙ ap (λ xs. record_at (agents_of xs) (take i events) e) split
    ∙ sym (record_whole (take i events) e (drop (suc i) events) f)
    ∙ ap (λ xs. record_bytes xs e) (sym split)

ids_more : (events : List Event) (i : ℕ) (e : Event) → i < length events → e ≡ get_or events i e → ids_of (take (i + 1) events) ≡ ids_of (take i events) ++ e.id ∷ []
ids_more events i e lt is =
    ap ids_of (take_more events i e lt ∙ ap (λ x. take i events ++ x ∷ []) (sym is)) ∙ map-append (λ (f : Event). f.id) (take i events) (e ∷ [])

take_length : (events : List Event) (i : ℕ) → i ≤ length events → length (take i events) ≡ i
take_length events zero le = refl
take_length [] (suc i) le = absurd (omega arith)
take_length (e ∷ events) (suc i) le = ap suc (take_length events i (omega arith))

-- the table with one more event
pub places_more : (events : List Event) (i : ℕ) (e : Event) (table more : Id → Option ℕ) → IsWritable events → i < length events → e ≡ get_or events i e → HasPlaces id_eq table (ids_of (take i events)) → ((x : Id) → more x ≡ cond (id_eq e.id x) (Some i) (table x)) → HasPlaces id_eq more (ids_of (take (i + 1) events))
places_more events i e table more w lt is has up =
    let size : length (ids_of (take i events)) ≡ i = ids_count (take i events) ∙ take_length events i (omega arith) in
    subst (HasPlaces id_eq more) (sym (ids_more events i e lt is))
    (one_more_place id_eq ids_equal id_eq_exact (ids_of (take i events)) e.id table more has (follows_at events i e w lt is).new
    (λ x. up x ∙ ap (λ n. cond (id_eq e.id x) (Some n) (table x)) (sym size)))

-- no more agents than events
pub few_agents : (events : List Event) (i : ℕ) → i ≤ length events → length (agents_of (take i events)) ≤ i
few_agents events i le = omega (arith, agents_few_from [] (take i events), take_length events i le)
