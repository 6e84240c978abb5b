-- The positions of each agent's ids, with one more id and with the last run away.
use Rattle.std.proofs.Common.{◌≡◌, ℕ, zero, suc, ◌+◌, ◌<◌, ◌≤◌, ◌^◌, Bool, true, false, cond, ◌||◌, List, [], ◌∷◌, ◌++◌, map, take, length, nat_eq, slice_get, get_or, position, Option, Some, None, option_map, is_some, IsSome, IfSome, nat_lt, refl, sym, ap, ◌∙◌, subst, arith, append-nil, append_assoc, length-append}
use Rattle.std.specs.List.{All, list_any, position_or_len, range_with_len}
use Rattle.std.specs.Option.{option_to_list}
use Rattle.std.specs.Cmp.Lexicographic.{pointwise}
use Rattle.std.proofs.Math.ListN.{set}
use Rattle.std.proofs.Math.Seq.{take-append_seam}
use Rattle.std.proofs.lemmas.Bool.{true_from_ne_false, ltb-true}
use Rattle.std.proofs.lemmas.List.{map-append, length-map, same_from_push}
use Rattle.std.proofs.lemmas.List.Elements.{All-map, All-from_get_or}
use Rattle.std.proofs.lemmas.List.FromFn.{length-range_with_len}
use Rattle.std.proofs.lemmas.List.Sums.{count_by-le-length}
use Rattle.std.proofs.lemmas.Option.{same_Some, slice_get-get_or}
use Rattle.ew_model.specs.declared.id.Id.{Id}
use Rattle.ew_model.specs.Ids.{name_eq}
use Rattle.ew_model.proofs.ListParts.{is_some-position}
use Rattle.ew_model.proofs.TextLaws.{position-cons}
use Rattle.history_definitions.specs.Agents.{with_name, agents_of, count_of}
use Rattle.agent_ids.specs.IdRuns.{id_with, ids_from}
use Rattle.agent_ids.specs.Table.{positions_from, positions_of, AreAgents}
use Rattle.agent_ids.proofs.Agents.{names_tested, names_alike, one_name, agents_push, agents_few, count_cons, is_agent, AreDistinct, agents_distinct}
use Rattle.agent_ids.proofs.RunLists.{block_more}
use Rattle.ew_model.proofs.Ranges.{range_more}

-- as many as the agent has ids
positions-length-from : (n : ℕ) (ids : List Id) (agent : List ℕ) → length (positions_from n ids agent) ≡ count_of ids agent
positions-length-from n [] agent = refl
positions-length-from n (x ∷ ids) agent =
    at (name_eq x.agent agent) (positions-length-from (suc n) ids agent) ∙ sym (count_cons x ids agent)
  where
    at : (b : Bool) → length (positions_from (suc n) ids agent) ≡ count_of ids agent → length (cond b (n ∷ positions_from (suc n) ids agent) (positions_from (suc n) ids agent)) ≡ cond b 1 0 + count_of ids agent
    at true e = omega (arith, e)
    at false e = omega (arith, e)

pub positions-length : (ids : List Id) (agent : List ℕ) → length (positions_of ids agent) ≡ count_of ids agent
positions-length ids agent = positions-length-from 0 ids agent

-- one more id
positions-push-from : (n : ℕ) (ids : List Id) (x : Id) (agent : List ℕ)
    → positions_from n (ids ++ x ∷ []) agent ≡ cond (name_eq x.agent agent) (positions_from n ids agent ++ (n + length ids) ∷ []) (positions_from n ids agent)
positions-push-from n [] x agent = let none : n ≡ n + 0 = omega arith in ap (λ p. cond (name_eq x.agent agent) (p ∷ []) []) none
positions-push-from n (y ∷ ids) x agent =
    let next : suc n + length ids ≡ n + suc (length ids) = omega arith in
    ap (λ ps. cond (name_eq y.agent agent) (n ∷ ps) ps)
    (positions-push-from (suc n) ids x agent ∙ ap (λ p. cond (name_eq x.agent agent) (positions_from (suc n) ids agent ++ p ∷ []) (positions_from (suc n) ids agent)) next)
    ∙ at (name_eq y.agent agent) (name_eq x.agent agent) (positions_from (suc n) ids agent) (n + suc (length ids))
  where
    at : (b c : Bool) (ps : List ℕ) (p : ℕ) → cond b (n ∷ cond c (ps ++ p ∷ []) ps) (cond c (ps ++ p ∷ []) ps) ≡ cond c (cond b (n ∷ ps) ps ++ p ∷ []) (cond b (n ∷ ps) ps)
    at true true ps p = refl
    at true false ps p = refl
    at false true ps p = refl
    at false false ps p = refl

positions-push : (ids : List Id) (x : Id) (agent : List ℕ) → positions_of (ids ++ x ∷ []) agent ≡ cond (name_eq x.agent agent) (positions_of ids agent ++ length ids ∷ []) (positions_of ids agent)
positions-push ids x agent =
    let none : 0 + length ids ≡ length ids = omega arith in
    positions-push-from 0 ids x agent ∙ ap (λ p. cond (name_eq x.agent agent) (positions_of ids agent ++ p ∷ []) (positions_of ids agent)) none

positions-push_own : (ids : List Id) (x : Id) → positions_of (ids ++ x ∷ []) x.agent ≡ positions_of ids x.agent ++ length ids ∷ []
positions-push_own ids x = positions-push ids x x.agent ∙ ap (λ b. cond b (positions_of ids x.agent ++ length ids ∷ []) (positions_of ids x.agent)) (names_alike.refl x.agent)

positions-push_other : (ids : List Id) (x : Id) (agent : List ℕ) → name_eq x.agent agent ≡ false → positions_of (ids ++ x ∷ []) agent ≡ positions_of ids agent
positions-push_other ids x agent h = positions-push ids x agent ∙ ap (λ b. cond b (positions_of ids agent ++ length ids ∷ []) (positions_of ids agent)) h

-- who is no agent has none
none-from : (n : ℕ) (ids : List Id) (agent : List ℕ) → list_any (λ (x : Id). name_eq x.agent agent) ids ≡ false → positions_from n ids agent ≡ []
none-from n [] agent h = refl
none-from n (x ∷ ids) agent h = at (name_eq x.agent agent) h (λ k. none-from (suc n) ids agent k)
  where
    at : (b : Bool) → (b || list_any (λ (y : Id). name_eq y.agent agent) ids) ≡ false → (list_any (λ (y : Id). name_eq y.agent agent) ids ≡ false → positions_from (suc n) ids agent ≡ [])
        → cond b (n ∷ positions_from (suc n) ids agent) (positions_from (suc n) ids agent) ≡ []
    at true k f = let no : ⊥ = cc in absurd no
    at false k f = f k

some-from : (n : ℕ) (ids : List Id) (agent : List ℕ) → positions_from n ids agent ≡ [] → list_any (λ (x : Id). name_eq x.agent agent) ids ≡ false
some-from n [] agent h = refl
some-from n (x ∷ ids) agent h = at (name_eq x.agent agent) h (λ k. some-from (suc n) ids agent k)
  where
    at : (b : Bool) → cond b (n ∷ positions_from (suc n) ids agent) (positions_from (suc n) ids agent) ≡ [] → (positions_from (suc n) ids agent ≡ [] → list_any (λ (y : Id). name_eq y.agent agent) ids ≡ false)
        → (b || list_any (λ (y : Id). name_eq y.agent agent) ids) ≡ false
    at true k f = let no : ⊥ = cc in absurd no
    at false k f = f k

pub none_of : (ids : List Id) (agent : List ℕ) → list_any (name_eq agent) (agents_of ids) ≡ false → positions_of ids agent ≡ []
none_of ids agent h = none-from 0 ids agent (sym (is_agent ids agent) ∙ h)

agent_of : (ids : List Id) (agent : List ℕ) → positions_of ids agent ≡ [] → list_any (name_eq agent) (agents_of ids) ≡ false
agent_of ids agent h = is_agent ids agent ∙ some-from 0 ids agent h

-- What a search finds.
within_at : (b : Bool) (k n long : ℕ) → nat_lt k long ≡ b → Some n ≡ cond b (Some k) None → n < long
within_at true k n long h e = let same : n ≡ k = cc in let low : k < long = ltb-true k long h in omega (arith, same, low)
within_at false k n long h e = let no : ⊥ = cc in absurd no

-- a place that is found is in the list
pub position_within : {X : Type 0} (p : X → Bool) (xs : List X) (o : Option ℕ) → o ≡ position p xs → IfSome o (λ n. n < length xs)
position_within p xs None e = tt
position_within p xs (Some n) e = within_at (nat_lt (position_or_len p xs) (length xs)) (position_or_len p xs) n (length xs) refl e

pub found_name : (names : List (List ℕ)) (a : List ℕ) (n : ℕ) → position (name_eq a) names ≡ Some n → slice_get names n ≡ Some a
found_name [] a n h = let no : ⊥ = cc in absurd no
found_name (b ∷ names) a n h = at (name_eq a b) refl (position (name_eq a) names) (sym (position-cons (name_eq a) b names) ∙ h) (λ i e. found_name names a i e)
  where
    at : (c : Bool) → name_eq a b ≡ c → (o : Option ℕ) → cond c (Some 0) (option_map (λ i. 1 + i) o) ≡ Some n → ((i : ℕ) → o ≡ Some i → slice_get names i ≡ Some a) → slice_get (b ∷ names) n ≡ Some a
    at true c o k f = let first : 0 ≡ n = cc in subst (λ m. slice_get (b ∷ names) m ≡ Some a) first (ap Some (sym (one_name a b c)))
    at false c None k f = let no : ⊥ = cc in absurd no
    at false c (Some i) k f = let there : 1 + i ≡ n = cc in let next : suc i ≡ n = omega (arith, there) in subst (λ m. slice_get (b ∷ names) m ≡ Some a) next (f i refl)

none_at : {X : Type 0} (p : X → Bool) (xs : List X) (n : ℕ) (x : X) → list_any p xs ≡ false → slice_get xs n ≡ Some x → p x ≡ false
none_at p [] n x d h = let no : ⊥ = cc in absurd no
none_at p (y ∷ xs) n x d h = at (p y) (list_any p xs) refl refl d n h (λ k. none_at p xs k x)
  where
    at : (b c : Bool) → p y ≡ b → list_any p xs ≡ c → (b || c) ≡ false → (n : ℕ) → slice_get (y ∷ xs) n ≡ Some x → ((k : ℕ) → list_any p xs ≡ false → slice_get xs k ≡ Some x → p x ≡ false) → p x ≡ false
    at true c e f k n h rest = let no : ⊥ = cc in absurd no
    at false c e f k zero h rest = let one : y ≡ x = cc in subst (λ z. p z ≡ false) one e
    at false c e f k (suc n) h rest = rest n (f ∙ k) h

-- a name that stands once is found where it stands
stands_once : (names : List (List ℕ)) (a : List ℕ) (n : ℕ) → AreDistinct names → slice_get names n ≡ Some a → position (name_eq a) names ≡ Some n
stands_once [] a n d h = let no : ⊥ = cc in absurd no
stands_once (b ∷ names) a zero d h =
    let one : a ≡ b = cc in
    position-cons (name_eq a) b names ∙ ap (λ c. cond c (Some 0) (option_map (λ i. 1 + i) (position (name_eq a) names))) (subst (λ x. name_eq a x ≡ true) one (names_alike.refl a))
stands_once (b ∷ names) a (suc n) d h =
    let next : 1 + n ≡ suc n = omega arith in
    position-cons (name_eq a) b names
    ∙ ap (λ c. cond c (Some 0) (option_map (λ i. 1 + i) (position (name_eq a) names))) (names_alike.symm a b ∙ none_at (name_eq b) names n a d.0 h)
    ∙ ap (option_map (λ i. 1 + i)) (stands_once names a n d.1 h) ∙ ap Some next

slice_get-map : {X Y : Type 0} (f : X → Y) (xs : List X) (n : ℕ) (x : X) → slice_get xs n ≡ Some x → slice_get (map f xs) n ≡ Some (f x)
slice_get-map f [] n x h = let no : ⊥ = cc in absurd no
slice_get-map f (y ∷ xs) zero x h = let one : y ≡ x = cc in ap (λ z. Some (f z)) one
slice_get-map f (y ∷ xs) (suc n) x h = slice_get-map f xs n x h

-- functions that differ at one name alone, where it isn't and where it is
alike_elsewhere : (f g : List ℕ → List ℕ) (names : List (List ℕ)) (a : List ℕ) → list_any (name_eq a) names ≡ false → ((b : List ℕ) → name_eq a b ≡ false → g b ≡ f b) → map f names ≡ map g names
alike_elsewhere f g [] a h other = refl
alike_elsewhere f g (b ∷ names) a h other = at (name_eq a b) refl h (λ k. alike_elsewhere f g names a k other)
  where
    at : (c : Bool) → name_eq a b ≡ c → (c || list_any (name_eq a) names) ≡ false → (list_any (name_eq a) names ≡ false → map f names ≡ map g names) → f b ∷ map f names ≡ g b ∷ map g names
    at true c k rest = let no : ⊥ = cc in absurd no
    at false c k rest = λ i. sym (other b c) i ∷ rest k i

one_changed : (f g : List ℕ → List ℕ) (names : List (List ℕ)) (a : List ℕ) (n : ℕ) → AreDistinct names → position (name_eq a) names ≡ Some n → ((b : List ℕ) → name_eq a b ≡ false → g b ≡ f b)
    → set (map f names) n (g a) ≡ map g names
one_changed f g [] a n d h other = let no : ⊥ = cc in absurd no
one_changed f g (b ∷ names) a n d h other =
    at (name_eq a b) refl (position (name_eq a) names) (sym (position-cons (name_eq a) b names) ∙ h) (λ i e. one_changed f g names a i d.1 e other)
  where
    at : (c : Bool) → name_eq a b ≡ c → (o : Option ℕ) → cond c (Some 0) (option_map (λ i. 1 + i) o) ≡ Some n → ((i : ℕ) → o ≡ Some i → set (map f names) i (g a) ≡ map g names) → set (f b ∷ map f names) n (g a) ≡ g b ∷ map g names
    at true c o k rest =
        let first : 0 ≡ n = cc in
        let one : a ≡ b = one_name a b c in
        subst (λ m. set (f b ∷ map f names) m (g a) ≡ g b ∷ map g names) first
        (λ i. g (one i) ∷ alike_elsewhere f g names a (ap (λ x. list_any (name_eq x) names) one ∙ d.0) other i)
    at false c None k rest = let no : ⊥ = cc in absurd no
    at false c (Some i) k rest =
        let there : 1 + i ≡ n = cc in
        let next : suc i ≡ n = omega (arith, there) in
        subst (λ m. set (f b ∷ map f names) m (g a) ≡ g b ∷ map g names) next (λ j. sym (other b c) j ∷ rest i refl j)

-- The code's search by name is that of the definitions.
pub searched : (names : List (List ℕ)) (a : List ℕ) → position (pointwise nat_eq a) names ≡ position (name_eq a) names
searched names a = ap (λ (same : List ℕ → List ℕ → Bool). position (same a) names) (sym names_tested)

-- a name that stands at a place among the agents is found there
pub agent_at : (ids : List Id) (names : List (List ℕ)) (a : List ℕ) (n : ℕ) → names ≡ agents_of ids → slice_get names n ≡ Some a → position (pointwise nat_eq a) names ≡ Some n
agent_at ids names a n is h = searched names a ∙ stands_once names a n (subst AreDistinct (sym is) (agents_distinct ids)) h

-- No more agents are kept than there are ids.
pub kept_few : (ids : List Id) (names lists : List (List ℕ)) → AreAgents ids names lists → length names ≤ length ids
kept_few ids names lists t = let long = ap (length {A = List ℕ}) t.named in let few = agents_few ids in omega (arith, long, few)

pub kept_alike : (ids : List Id) (names lists : List (List ℕ)) → AreAgents ids names lists → length lists ≡ length names
kept_alike ids names lists t = ap (length {A = List ℕ}) t.placed ∙ length-map names (positions_of ids)

-- An agent's number is the place of its name, and who has none has no positions.
pub number_at : (ids : List Id) (names lists : List (List ℕ)) (a : List ℕ) (o : Option ℕ) → AreAgents ids names lists → o ≡ position (pointwise nat_eq a) names → o ≡ position (name_eq a) (agents_of ids)
number_at ids names lists a o t e = e ∙ searched names a ∙ ap (position (name_eq a)) t.named

pub no_positions : (ids : List Id) (names lists : List (List ℕ)) (a : List ℕ) → AreAgents ids names lists → position (pointwise nat_eq a) names ≡ None → positions_of ids a ≡ []
no_positions ids names lists a t e = none_of ids a (ap (list_any (name_eq a)) (sym t.named) ∙ sym (is_some-position (name_eq a) names) ∙ ap is_some (sym (searched names a) ∙ e))

-- ONE MORE ID of a new agent, which comes last.
pub more_of_new : (ids : List Id) (x : Id) (names : List (List ℕ)) (lists : List (List ℕ)) → AreAgents ids names lists → position (pointwise nat_eq x.agent) names ≡ None
    → AreAgents (ids ++ x ∷ []) (names ++ x.agent ∷ []) (lists ++ (length ids ∷ []) ∷ [])
more_of_new ids x names lists t h =
    let absent : list_any (name_eq x.agent) names ≡ false = sym (is_some-position (name_eq x.agent) names) ∙ ap is_some (sym (searched names x.agent) ∙ h) in
    let new : list_any (name_eq x.agent) (agents_of ids) ≡ false = ap (list_any (name_eq x.agent)) (sym t.named) ∙ absent in
    let first : positions_of (ids ++ x ∷ []) x.agent ≡ length ids ∷ [] = positions-push_own ids x ∙ ap (λ ps. ps ++ length ids ∷ []) (none_of ids x.agent new) in
    record {
      named = ap (λ ns. ns ++ x.agent ∷ []) t.named ∙ sym (agents_push ids x ∙ ap (λ b. cond b (agents_of ids) (agents_of ids ++ x.agent ∷ [])) new);
      placed = (λ i. (t.placed ∙ alike_elsewhere (positions_of ids) (positions_of (ids ++ x ∷ [])) names x.agent absent (positions-push_other ids x)) i ++ sym first i ∷ []) ∙ sym (map-append (positions_of (ids ++ x ∷ [])) names (x.agent ∷ []));
    }

-- no agent has more positions than there are ids
pub own_few : (ids : List Id) (names lists : List (List ℕ)) → AreAgents ids names lists → length ids + 1 < 2 ^ 32 → All (λ own. length own + 1 < 2 ^ 32) lists
own_few ids names lists t few =
    subst (λ ls. All (λ own. length own + 1 < 2 ^ 32) ls) (sym t.placed) (
    All-map (λ own. length own + 1 < 2 ^ 32) (positions_of ids) names (
    All-from_get_or (λ a. length (positions_of ids a) + 1 < 2 ^ 32) names [] (λ i l.
    let long = positions-length ids (get_or names i []) in
    let small = count_by-le-length (λ (x : Id). name_eq x.agent (get_or names i [])) ids in
    omega (arith, long, small, few)
    )
    )
    )

-- what an agent's place holds are its positions
pub own_at : (ids : List Id) (names lists : List (List ℕ)) (a : List ℕ) (n : ℕ) (own : List ℕ) → AreAgents ids names lists → position (pointwise nat_eq a) names ≡ Some n → own ≡ get_or lists n own → n < length lists → own ≡ positions_of ids a
own_at ids names lists a n own t h is within =
    let there : slice_get lists n ≡ Some (positions_of ids a) =
    ap (λ ps. slice_get ps n) t.placed ∙ slice_get-map (positions_of ids) names n a (found_name names a n (sym (searched names a) ∙ h)) in
    let here : slice_get lists n ≡ Some own = slice_get-get_or lists n own within ∙ ap Some (sym is) in
    same_Some own (positions_of ids a) (sym here ∙ there)

-- the place is there
pub place_within : (ids : List Id) (names lists : List (List ℕ)) (n : ℕ) → AreAgents ids names lists → n < length names → n < length lists
place_within ids names lists n t h = let alike = kept_alike ids names lists t in omega (arith, h, alike)

-- ONE MORE ID of an agent that is there: its positions have one more, and the others stay.
pub more_of_agent : (ids : List Id) (x : Id) (names lists : List (List ℕ)) (n : ℕ) (old new : List ℕ) → AreAgents ids names lists → position (pointwise nat_eq x.agent) names ≡ Some n → old ≡ get_or lists n old
    → n < length lists → new ≡ old ++ length ids ∷ [] → AreAgents (ids ++ x ∷ []) names (set lists n new)
more_of_agent ids x names lists n old new t h is within put =
    let place : position (name_eq x.agent) names ≡ Some n = sym (searched names x.agent) ∙ h in
    let grown : new ≡ positions_of (ids ++ x ∷ []) x.agent = put ∙ ap (λ ps. ps ++ length ids ∷ []) (own_at ids names lists x.agent n old t h is within) ∙ sym (positions-push_own ids x) in
    let there : list_any (name_eq x.agent) (agents_of ids) ≡ true = ap (list_any (name_eq x.agent)) (sym t.named) ∙ sym (is_some-position (name_eq x.agent) names) ∙ ap is_some place in
    record {
      named = t.named ∙ sym (agents_push ids x ∙ ap (λ b. cond b (agents_of ids) (agents_of ids ++ x.agent ∷ [])) there);
      placed = (λ i. set (t.placed i) n (grown i))
          ∙ one_changed (positions_of ids) (positions_of (ids ++ x ∷ [])) names x.agent n (subst AreDistinct (sym t.named) (agents_distinct ids)) place (positions-push_other ids x);
    }

-- SO MANY IDS MORE of one agent
join_block : (ids : List Id) (x : Id) (n : ℕ) → ids ++ ids_from x (suc n) ≡ (ids ++ ids_from x n) ++ id_with x.agent (x.seq + n) ∷ []
join_block ids x n = ap (λ xs. ids ++ xs) (block_more x.agent x.seq n) ∙ sym (append_assoc ids (ids_from x n) (id_with x.agent (x.seq + n) ∷ []))

length_block : (ids : List Id) (x : Id) (n : ℕ) → length (ids ++ ids_from x n) ≡ length ids + n
length_block ids x n =
    let one = length-append ids (ids_from x n) in
    let two = length-map (range_with_len x.seq n) (id_with x.agent) in
    let three = length-range_with_len x.seq n in
    omega (arith, one, two, three)

block_own : (ids : List Id) (x : Id) (n : ℕ) → positions_of (ids ++ ids_from x n) x.agent ≡ positions_of ids x.agent ++ range_with_len (length ids) n
block_own ids x zero = ap (λ xs. positions_of xs x.agent) (append-nil ids) ∙ sym (append-nil (positions_of ids x.agent))
block_own ids x (suc n) =
    ap (λ xs. positions_of xs x.agent) (join_block ids x n) ∙ positions-push_own (ids ++ ids_from x n) (id_with x.agent (x.seq + n))
    ∙ (λ i. block_own ids x n i ++ length_block ids x n i ∷ []) ∙ append_assoc (positions_of ids x.agent) (range_with_len (length ids) n) ((length ids + n) ∷ [])
    ∙ ap (λ ps. positions_of ids x.agent ++ ps) (sym (range_more (length ids) n))

block_other : (ids : List Id) (x : Id) (n : ℕ) (a : List ℕ) → name_eq x.agent a ≡ false → positions_of (ids ++ ids_from x n) a ≡ positions_of ids a
block_other ids x zero a h = ap (λ xs. positions_of xs a) (append-nil ids)
block_other ids x (suc n) a h = ap (λ xs. positions_of xs a) (join_block ids x n) ∙ positions-push_other (ids ++ ids_from x n) (id_with x.agent (x.seq + n)) a h ∙ block_other ids x n a h

agents_block_old : (ids : List Id) (x : Id) (n : ℕ) → list_any (name_eq x.agent) (agents_of ids) ≡ true → agents_of (ids ++ ids_from x n) ≡ agents_of ids
agents_block_old ids x zero h = ap agents_of (append-nil ids)
agents_block_old ids x (suc n) h =
    let ih = agents_block_old ids x n h in
    ap agents_of (join_block ids x n) ∙ agents_push (ids ++ ids_from x n) (id_with x.agent (x.seq + n)) ∙ ap (λ ns. with_name ns x.agent) ih ∙ ap (λ b. cond b (agents_of ids) (agents_of ids ++ x.agent ∷ [])) h

agents_block_new : (ids : List Id) (x : Id) (n : ℕ) → list_any (name_eq x.agent) (agents_of ids) ≡ false → agents_of (ids ++ ids_from x (suc n)) ≡ agents_of ids ++ x.agent ∷ []
agents_block_new ids x n h =
    let one : agents_of (ids ++ x ∷ []) ≡ agents_of ids ++ x.agent ∷ [] = agents_push ids x ∙ ap (λ b. cond b (agents_of ids) (agents_of ids ++ x.agent ∷ [])) h in
    let there : list_any (name_eq x.agent) (agents_of (ids ++ x ∷ [])) ≡ true = is_agent (ids ++ x ∷ []) x.agent ∙ last_any (λ (y : Id). name_eq y.agent x.agent) ids x (names_alike.refl x.agent) in
    ap agents_of (sym (append_assoc ids (x ∷ []) (ids_from (id_with x.agent (x.seq + 1)) n))) ∙ agents_block_old (ids ++ x ∷ []) (id_with x.agent (x.seq + 1)) n there ∙ one
  where
    last_any : {X : Type 0} (p : X → Bool) (xs : List X) (y : X) → p y ≡ true → list_any p (xs ++ y ∷ []) ≡ true
    last_any p [] y e = ap (λ b. b || false) e
    last_any p (z ∷ xs) y e = ap (λ b. p z || b) (last_any p xs y e) ∙ or_true (p z)
      where
        or_true : (b : Bool) → (b || true) ≡ true
        or_true true = refl
        or_true false = refl

-- these agents are there
pub has_place : (ids : List Id) (x : Id) (more : ℕ) (names lists : List (List ℕ)) → AreAgents (ids ++ ids_from x (suc more)) names lists → position (pointwise nat_eq x.agent) names ≡ None → ⊥
has_place ids x more names lists t e =
    let none : positions_of (ids ++ ids_from x (suc more)) x.agent ≡ [] = no_positions (ids ++ ids_from x (suc more)) names lists x.agent t e in
    let long = ap (length {A = ℕ}) (sym (block_own ids x (suc more)) ∙ none) in
    omega (arith, long, length-append (positions_of ids x.agent) (range_with_len (length ids) (suc more)))

-- THE IDS AWAY of an agent that has some before them: its positions are the first of those that it had, and the others stay.
pub agent_left : (ids : List Id) (x : Id) (more : ℕ) (names lists : List (List ℕ)) (n : ℕ) (old new : List ℕ) → AreAgents (ids ++ ids_from x (suc more)) names lists → position (pointwise nat_eq x.agent) names ≡ Some n
    → old ≡ get_or lists n old → n < length lists → x.seq ≡ count_of ids x.agent → 0 < x.seq → new ≡ take x.seq old → AreAgents ids names (set lists n new)
agent_left ids x more names lists n old new t h is within number some cut =
    let all = ids ++ ids_from x (suc more) in
    let place : position (name_eq x.agent) names ≡ Some n = sym (searched names x.agent) ∙ h in
    let own : old ≡ positions_of ids x.agent ++ range_with_len (length ids) (suc more) = own_at all names lists x.agent n old t h is within ∙ block_own ids x (suc more) in
    let long : x.seq ≡ length (positions_of ids x.agent) = number ∙ sym (positions-length ids x.agent) in
    let less : new ≡ positions_of ids x.agent = cut ∙ (λ i. take (long i) (own i)) ∙ take-append_seam (positions_of ids x.agent) (range_with_len (length ids) (suc more)) in
    let there : list_any (name_eq x.agent) (agents_of ids) ≡ true =
    true_from_ne_false (list_any (name_eq x.agent) (agents_of ids)) (λ e. let none : length (positions_of ids x.agent) ≡ 0 = ap (length {A = ℕ}) (none_of ids x.agent e) in absurd (omega (arith, none, long, some))) in
    record {
      named = t.named ∙ agents_block_old ids x (suc more) there;
      placed = (λ i. set (t.placed i) n (less i))
          ∙ one_changed (positions_of all) (positions_of ids) names x.agent n (subst AreDistinct (sym t.named) (agents_distinct all)) place (λ b e. sym (block_other ids x (suc more) b e));
    }

-- of an agent that has none before them: it was the last one
gone_name : (ids : List Id) (x : Id) → x.seq ≡ count_of ids x.agent → x.seq ≡ 0 → list_any (name_eq x.agent) (agents_of ids) ≡ false
gone_name ids x number first = agent_of ids x.agent (nothing (positions_of ids x.agent) (positions-length ids x.agent ∙ sym number ∙ first))
  where
    nothing : (ps : List ℕ) → length ps ≡ 0 → ps ≡ []
    nothing [] e = refl
    nothing (p ∷ ps) e = absurd (omega (arith, e))

pub some_names : (ids : List Id) (x : Id) (more : ℕ) (names lists : List (List ℕ)) → AreAgents (ids ++ ids_from x (suc more)) names lists → x.seq ≡ count_of ids x.agent → x.seq ≡ 0 → 0 < length names
some_names ids x more names lists t number first =
    let long = ap (length {A = List ℕ}) (t.named ∙ agents_block_new ids x more (gone_name ids x number first)) in
    omega (arith, long, length-append (agents_of ids) (x.agent ∷ []))

listed : {X : Type 0} (o : Option X) → IsSome o → (x : X) × (option_to_list o ≡ x ∷ [])
listed None h = let no : ⊥ = cc in absurd no
listed (Some x) h = (x, refl)

pub agent_gone : (ids : List Id) (x : Id) (more : ℕ) (names names' lists lists' : List (List ℕ)) (name own : Option (List ℕ)) → AreAgents (ids ++ ids_from x (suc more)) names lists → x.seq ≡ count_of ids x.agent → x.seq ≡ 0
    → names ≡ names' ++ option_to_list name → IsSome name → lists ≡ lists' ++ option_to_list own → IsSome own → AreAgents ids names' lists'
agent_gone ids x more names names' lists lists' name own t number first fewer some_name less some_own =
    let all = ids ++ ids_from x (suc more) in
    let new = gone_name ids x number first in
    let k = listed name some_name in
    let w = listed own some_own in
    let front : names' ++ k.0 ∷ [] ≡ names = ap (λ ns. names' ++ ns) (sym k.1) ∙ sym fewer in
    let short : lists' ++ w.0 ∷ [] ≡ lists = ap (λ ls. lists' ++ ls) (sym w.1) ∙ sym less in
    let named : names' ≡ agents_of ids = (same_from_push names' (agents_of ids) k.0 x.agent (front ∙ t.named ∙ agents_block_new ids x more new)).0 in
    record {
      named = named;
      placed = (same_from_push lists' (map (positions_of all) names') w.0 (positions_of all k.0) (short ∙ t.placed ∙ ap (map (positions_of all)) (sym front) ∙ map-append (positions_of all) names' (k.0 ∷ []))).0
          ∙ alike_elsewhere (positions_of all) (positions_of ids) names' x.agent (ap (list_any (name_eq x.agent)) named ∙ new) (λ b e. sym (block_other ids x (suc more) b e));
    }
