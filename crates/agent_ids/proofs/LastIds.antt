-- The last id, the number of its agent, and the next id of that agent.
use Rattle.std.proofs.Common.{◌≡◌, ℕ, zero, suc, ◌+◌, ◌-◌, ◌<◌, ◌≤◌, ◌^◌, cond, List, [], ◌∷◌, ◌++◌, length, slice_get, slice_index_or, get_or, position, nat_eq, Option, Some, None, is_some, refl, sym, ap, ◌∙◌, subst, arith, length-append, append-nil, append_assoc}
use Rattle.std.specs.Cmp.Lexicographic.{pointwise}
use Rattle.std.specs.List.{list_any, range_with_len}
use Rattle.std.proofs.lemmas.List.{set-get_or, get_or-set_same}
use Rattle.std.specs.Option.{unwrap_or}
use Rattle.std.proofs.Math.ListN.{set}
use Rattle.std.proofs.lemmas.List.Sums.{count_by-le-length}
use Rattle.std.proofs.lemmas.Option.{same_Some, slice_get_within, slice_get-get_or}
use Rattle.ew_model.specs.declared.id.Id.{Id}
use Rattle.ew_model.specs.Ids.{name_eq}
use Rattle.ew_model.proofs.ListParts.{is_some-position}
use Rattle.ew_model.proofs.PositionCuts.{last_at}
use Rattle.history_definitions.specs.Agents.{agents_of, count_of, AreNumbered}
use Rattle.agent_ids.specs.declared.runs.IdRun.{IdRun}
use Rattle.agent_ids.specs.IdRuns.{id_with, last_in, ids_in, AreRuns, with_more, with_more_by, ids_from}
use Rattle.agent_ids.specs.Table.{positions_of, IsNumberOfLast, IsTable}
use Rattle.agent_ids.proofs.Agents.{names_alike, count_push}
use Rattle.agent_ids.proofs.Numbers.{numbered_next, numbered_push}
use Rattle.agent_ids.proofs.OwnPositions.{agent_at, found_name, none_of, more_of_agent, own_at, place_within, positions-length, searched}
use Rattle.agent_ids.proofs.RunLists.{more_in, next_in, none_more, more_by}

-- where there are ids, there is a last one
pub some_last : (ids : List Id) → 0 < length ids → (x : Id) × (last_in ids ≡ Some x)
some_last [] some = absurd (omega (arith, some))
some_last (x ∷ ids) some = (slice_index_or (x ∷ ids) (length (x ∷ ids) - 1) x, slice_get-get_or (x ∷ ids) (length (x ∷ ids) - 1) x (omega arith))

-- what the runs of the ids are with the next id of the last one's agent
pub more_with_next : (runs : List IdRun) (count : ℕ) (ids : List Id) → AreRuns 0 runs count → ids_in runs ≡ ids → 0 < length ids → ((x : Id) → last_in ids ≡ Some x → x.seq + 1 < 2 ^ 32)
    → (x : Id) × (last_in ids ≡ Some x) × (ids_in (with_more runs) ≡ ids ++ id_with x.agent (suc x.seq) ∷ []) × AreRuns 0 (with_more runs) (count + 1)
more_with_next runs count ids are same some small =
    let last = some_last ids some in
    let x = last.0 in
    let next = id_with x.agent (suc x.seq) in
    let fits = small x last.1 in
    let made = more_in runs 0 count next are (next_in runs count x are (ap last_in same ∙ last.1)) (omega (arith, fits)) in
    (x, last.1, made.0 ∙ ap (λ xs. xs ++ next ∷ []) same, made.1)

-- the last of the ids is the one that came behind the others
pub last_pushed : (ids : List Id) (x : Id) → last_in (ids ++ x ∷ []) ≡ Some x
last_pushed ids x =
    let long = length-append ids (x ∷ []) in
    let place : length (ids ++ x ∷ []) - 1 ≡ length ids = omega (arith, long) in
    ap (slice_get (ids ++ x ∷ [])) place ∙ last_at ids x

-- the next id and so many behind it are one more of them
pub behind_next : (ids : List Id) (x : Id) (n : ℕ) → (ids ++ id_with x.agent (suc x.seq) ∷ []) ++ ids_from (id_with x.agent (suc (suc x.seq))) n ≡ ids ++ ids_from (id_with x.agent (suc x.seq)) (suc n)
behind_next ids x n =
    let next = id_with x.agent (suc x.seq) in
    let e : suc (suc x.seq) ≡ suc x.seq + 1 = omega arith in
    append_assoc ids (next ∷ []) (ids_from (id_with x.agent (suc (suc x.seq))) n) ∙ ap (λ k. ids ++ next ∷ ids_from (id_with x.agent k) n) e

-- what they are with so many next ids
pub more_with_next_run : (n : ℕ) (runs : List IdRun) (count : ℕ) (x : Id) → AreRuns 0 runs count → last_in (ids_in runs) ≡ Some x → x.seq + n < 2 ^ 32
    → (ids_in (with_more_by runs n) ≡ ids_in runs ++ ids_from (id_with x.agent (suc x.seq)) n) × AreRuns 0 (with_more_by runs n) (count + n)
more_with_next_run zero runs count x are last fits =
    let same : count ≡ count + 0 = omega arith in
    (ap ids_in (none_more runs) ∙ sym (append-nil (ids_in runs)), subst (AreRuns 0 (with_more_by runs 0)) same (subst (λ (rs : List IdRun). AreRuns 0 rs count) (sym (none_more runs)) are))
more_with_next_run (suc n) runs count x are last fits =
    let next = id_with x.agent (suc x.seq) in
    let one = more_in runs 0 count next are (next_in runs count x are last) (omega (arith, fits)) in
    let rest = more_with_next_run n (with_more runs) (count + 1) next one.1 (ap last_in one.0 ∙ last_pushed (ids_in runs) next) (omega (arith, fits)) in
    let same : count + 1 + n ≡ count + suc n = omega arith in (
      ap ids_in (sym (more_by runs n)) ∙ rest.0 ∙ (λ i. one.0 i ++ ids_from (id_with x.agent (suc (suc x.seq))) n) ∙ behind_next (ids_in runs) x n,
      subst (AreRuns 0 (with_more_by runs (suc n))) same (subst (λ (rs : List IdRun). AreRuns 0 rs (count + 1 + n)) (more_by runs n) rest.1),
    )

-- it stands behind the others
pub last_split : (ids : List Id) (x : Id) → last_in ids ≡ Some x → (front : List Id) × (ids ≡ front ++ x ∷ [])
last_split [] x h = let no : ⊥ = cc in absurd no
last_split (y ∷ []) x h = let one : y ≡ x = cc in ([], ap (λ z. z ∷ []) one)
last_split (y ∷ z ∷ ids) x h =
    let place : length (y ∷ z ∷ ids) - 1 ≡ suc (length (z ∷ ids) - 1) = omega arith in
    let rest = last_split (z ∷ ids) x (sym (ap (slice_get (y ∷ z ∷ ids)) place) ∙ h) in
    (y ∷ rest.0, ap (λ xs. y ∷ xs) rest.1)

-- so its agent's number is that of the id that came behind the others
pub last_behind : (ids : List Id) (x : Id) (names : List (List ℕ)) (number : ℕ) → slice_get names number ≡ Some x.agent → IsNumberOfLast (ids ++ x ∷ []) names number
last_behind ids x names number there y e =
    there ∙ ap (λ (z : Id). Some z.agent) (same_Some x y (sym (last_pushed ids x) ∙ e))

-- its agent's next number is how many ids the agent has
pub next_number : (ids : List Id) (x : Id) → AreNumbered ids → last_in ids ≡ Some x → suc x.seq ≡ count_of ids x.agent
next_number ids x numbered e =
    let parts = last_split ids x e in
    let front = parts.0 in
    let own : x.seq ≡ count_of front x.agent = numbered_next front x [] (subst AreNumbered parts.1 numbered) in
    let all : count_of ids x.agent ≡ count_of front x.agent + 1 =
    ap (λ xs. count_of xs x.agent) parts.1 ∙ count_push front x x.agent ∙ ap (λ b. count_of front x.agent + cond b 1 0) (names_alike.refl x.agent) in
    omega (arith, own, all)

-- its agent is among the agents
pub last_found : (ids : List Id) (x : Id) (names : List (List ℕ)) (o : Option ℕ) → names ≡ agents_of ids → last_in ids ≡ Some x → o ≡ position (pointwise nat_eq x.agent) names → slice_get names (unwrap_or o 0) ≡ Some x.agent
last_found ids x names (Some n) named e is = found_name names x.agent n (sym (searched names x.agent) ∙ sym is)
last_found ids x names None named e is =
    let parts = last_split ids x e in
    let front = parts.0 in
    let none : positions_of ids x.agent ≡ [] =
    none_of ids x.agent (ap (list_any (name_eq x.agent)) (sym named) ∙ sym (is_some-position (name_eq x.agent) names) ∙ ap is_some (sym (searched names x.agent) ∙ sym is)) in
    let own = positions-length ids x.agent in
    let long = ap (length {A = ℕ}) none in
    let all : count_of ids x.agent ≡ count_of front x.agent + 1 =
    ap (λ xs. count_of xs x.agent) parts.1 ∙ count_push front x x.agent ∙ ap (λ b. count_of front x.agent + cond b 1 0) (names_alike.refl x.agent) in
    absurd (omega (arith, own, long, all))

module _ (ids : List Id) (x : Id) (names lists : List (List ℕ)) (number : ℕ) (table : IsTable ids names lists number) (last : last_in ids ≡ Some x) where
  -- the number is a place
  pub number_within : number < length lists
  number_within = place_within ids names lists number table.agents (slice_get_within names number x.agent (table.last_is x last))

  found : position (pointwise nat_eq x.agent) names ≡ Some number
  found = agent_at ids names x.agent number table.agents.named (table.last_is x last)

  -- few enough stand there
  pub own_room : (own : List ℕ) → length ids + 1 < 2 ^ 32 → own ≡ get_or lists number own → length own + 1 < 2 ^ 32
  own_room own few is =
      let long = ap (length {A = ℕ}) (own_at ids names lists x.agent number own table.agents found is number_within) in
      let count = positions-length ids x.agent in
      let most = count_by-le-length (λ (y : Id). name_eq y.agent x.agent) ids in
      omega (arith, few, long, count, most)

  -- THE TABLE with the next id of the last one's agent
  pub with_next : (own more : List ℕ) → length ids + 1 < 2 ^ 32 → own ≡ get_or lists number own → more ≡ own ++ length ids ∷ [] → IsTable (ids ++ id_with x.agent (suc x.seq) ∷ []) names (set lists number more) number
  with_next own more few is put =
      let next = id_with x.agent (suc x.seq) in
      record {
        agents = more_of_agent ids next names lists number own more table.agents found is number_within put;
        numbered = numbered_push ids next table.numbered (next_number ids x table.numbered last);
        few = omega (arith, few, length-append ids (next ∷ []));
        last_is = last_behind ids next names number (table.last_is x last);
      }

  -- and the numbers of so many next ids are small enough
  pub own_few : (own : List ℕ) → own ≡ get_or lists number own → length own ≤ length ids
  own_few own is =
      let long = ap (length {A = ℕ}) (own_at ids names lists x.agent number own table.agents found is number_within) in
      let count = positions-length ids x.agent in
      let most = count_by-le-length (λ (y : Id). name_eq y.agent x.agent) ids in
      omega (arith, long, count, most)

  pub last_few : x.seq < length ids
  last_few =
      let next = next_number ids x table.numbered last in
      let most = count_by-le-length (λ (y : Id). name_eq y.agent x.agent) ids in
      omega (arith, next, most)

-- THE TABLE with so many next ids
set_twice : (lists : List (List ℕ)) (i : ℕ) (a b : List ℕ) → set (set lists i a) i b ≡ set lists i b
set_twice [] i a b = refl
set_twice (y ∷ lists) zero a b = refl
set_twice (y ∷ lists) (suc i) a b = ap (λ ls. y ∷ ls) (set_twice lists i a b)

pub with_next_run : (n : ℕ) (ids : List Id) (x : Id) (names lists : List (List ℕ)) (number : ℕ) → IsTable ids names lists number → last_in ids ≡ Some x → (own more : List ℕ) → length ids + n < 2 ^ 32 → own ≡ get_or lists number own
    → more ≡ own ++ range_with_len (length ids) n → IsTable (ids ++ ids_from (id_with x.agent (suc x.seq)) n) names (set lists number more) number
with_next_run zero ids x names lists number table last own more few is put =
    let same : more ≡ own = put ∙ append-nil own in
    let lists_same : lists ≡ set lists number more = sym (set-get_or lists number own) ∙ ap (set lists number) (sym is ∙ sym same) in
    subst (λ (ls : List (List ℕ)). IsTable (ids ++ []) names ls number) lists_same (subst (λ (xs : List Id). IsTable xs names lists number) (sym (append-nil ids)) table)
with_next_run (suc n) ids x names lists number table last own more few is put =
    let next = id_with x.agent (suc x.seq) in
    let one = own ++ length ids ∷ [] in
    let first = with_next ids x names lists number table last own one (omega (arith, few)) is refl in
    let long : length (ids ++ next ∷ []) ≡ length ids + 1 = omega (arith, length-append ids (next ∷ [])) in
    let rest = with_next_run n (ids ++ next ∷ []) next names (set lists number one) number first (last_pushed ids next) one more (omega (arith, long, few))
    (sym (get_or-set_same lists number one one (number_within ids x names lists number table last)))
    (put ∙ sym (append_assoc own (length ids ∷ []) (range_with_len (length ids + 1) n)) ∙ ap (λ m. one ++ range_with_len m n) (sym long)) in
    subst (λ (ls : List (List ℕ)). IsTable (ids ++ ids_from next (suc n)) names ls number) (set_twice lists number one more)
    (subst (λ (xs : List Id). IsTable xs names (set (set lists number one) number more) number) (behind_next ids x n) rest)
