-- Ids of one agent that follow on each other in a graph.
use Rattle.std.proofs.Common.{◌≡◌, ◌∙◌, ℕ, zero, suc, ◌+◌, ◌-◌, ◌<◌, ◌≤◌, Bool, true, false, inl, inr, List, [], ◌∷◌, ◌++◌, length, take, map, position, Some, is_some, refl, sym, ap, subst, cond, nat_lt, arith}
use Rattle.std.specs.Prelude.{slice_get}
use Rattle.std.specs.List.{list_any, position_or_len}
use Rattle.std.proofs.lemmas.Bool.{cases_Bool, cond-true, cond-false, ltb-true, ltb-false, or_left, or_right}
use Rattle.std.proofs.lemmas.List.Folds.{list_any-append}
use Rattle.std.proofs.lemmas.List.Sums.{sum_by_push}
use Rattle.std.proofs.lemmas.Option.{slice_get_within}
use Rattle.ew_model.specs.declared.id.Id.{Id}
use Rattle.ew_model.specs.declared.event.Event.{Event}
use Rattle.ew_model.specs.declared.event.Op.{Op}
use Rattle.ew_model.specs.Ancestors.{ids_of}
use Rattle.ew_model.specs.Ids.{id_eq, name_eq}
use Rattle.ew_model.specs.Writable.{agents_of}
use Rattle.ew_model.proofs.IdLaws.{names_equal, name_exact}
use Rattle.ew_model.proofs.ListParts.{element_there, is_some-position, take_next}
use Rattle.ew_model.proofs.ListPlaces.{some_is, found_there}
use Rattle.ew_model.proofs.TextLaws.{ids_equal}
use Rattle.file_words.proofs.FileRecords.{id_eq_exact}
use Rattle.history_definitions.specs.Agents.{AreNumbered, count_of}
use Rattle.history_definitions.specs.Chains.{event_behind, next_id}
use Rattle.event_graph.proofs.Counted.{event_there}
use Rattle.agreement.proofs.Shared.{same_made}
use Rattle.event_file.specs.Writing.{with_name}
use Rattle.stored_histories.specs.IdRuns.{FollowAt, GoOnTo, StandsOnOne}
use Rattle.stored_histories.proofs.GraphRecords.{agents_next, position_there}

-- ---- what is found

pub id_found : (ids : List Id) (y : Id) (q : ℕ) → position (id_eq y) ids ≡ Some q → slice_get ids q ≡ Some y
id_found ids y q h =
    let there : list_any (id_eq y) ids ≡ true = sym (is_some-position (id_eq y) ids) ∙ ap is_some h in
    let same : position_or_len (id_eq y) ids ≡ q = some_is (position_or_len (id_eq y) ids) q (sym (position_there ids y there) ∙ h) in
    ap (slice_get ids) (sym same) ∙ found_there id_eq ids_equal id_eq_exact ids y there

-- ---- an agent's ids between two of them

-- how many ids of an agent stand before a place
abbrev before_at : List Id → List ℕ → ℕ → ℕ
before_at ids agent n = count_of (take n ids) agent

count_next : (ids : List Id) (n : ℕ) (x : Id) (agent : List ℕ) → slice_get ids n ≡ Some x → before_at ids agent (suc n) ≡ before_at ids agent n + cond (name_eq x.agent agent) 1 0
count_next ids n x agent at = ap (λ xs. count_of xs agent) (take_next ids n x at) ∙ sum_by_push (λ (y : Id). cond (name_eq y.agent agent) 1 0) (take n ids) x

small : (b : Bool) → cond b 1 0 ≤ 1
small true = omega arith
small false = omega arith

-- between two places stand at most as many as there are places
most_between : (ids : List Id) (agent : List ℕ) (n k : ℕ) → n + k ≤ length ids → before_at ids agent (n + k) ≤ before_at ids agent n + k
most_between ids agent n zero low =
    let same : before_at ids agent (n + zero) ≡ before_at ids agent n = ap (before_at ids agent) (let e : n + zero ≡ n = omega arith in e) in
    omega (arith, same)
most_between ids agent n (suc k) low =
    let rest : before_at ids agent (n + k) ≤ before_at ids agent n + k = most_between ids agent n k (omega (arith, low)) in
    let y = element_there ids (n + k) (omega (arith, low)) in
    let next = count_next ids (n + k) y.0 agent y.1 in
    let place : before_at ids agent (n + suc k) ≡ before_at ids agent (suc (n + k)) = ap (before_at ids agent) (let e : n + suc k ≡ suc (n + k) = omega arith in e) in
    let one = small (name_eq y.0.agent agent) in
    omega (arith, rest, next, place, one)

-- The id so many places behind one has the number so many above that one's, and its agent: then so it is with all between them.
pub all_between : (ids : List Id) (position more : ℕ) (first : Id) → AreNumbered ids → slice_get ids position ≡ Some first → slice_get ids (position + more) ≡ Some (record { agent = first.agent; seq = first.seq + more })
    → GoOnTo ids first position (position + more + 1)
all_between ids start more first numbered at last k below = elim (cases_Bool (nat_lt k more)) [ inl l ↦ between (ltb-true k more l) | inr g ↦ here (let not = ltb-false k more g in omega (arith, not, below)) ]
  where
    here : k ≡ more → slice_get ids (start + k) ≡ Some (record { agent = first.agent; seq = first.seq + k })
    here e = subst (λ j. slice_get ids (start + j) ≡ Some (record { agent = first.agent; seq = first.seq + j })) (sym e) last

    between : k < more → slice_get ids (start + k) ≡ Some (record { agent = first.agent; seq = first.seq + k })
    between l =
        let within = slice_get_within ids (start + more) (record { agent = first.agent; seq = first.seq + more }) last in
        let y = element_there ids (start + k) (omega (arith, within, l)) in
        let low = numbered start first at in
        let high = numbered (start + more) (record { agent = first.agent; seq = first.seq + more }) last in
        let front = most_between ids first.agent start k (omega (arith, within, l)) in
        let rest : suc (start + k) + (more - suc k) ≡ start + more = omega (arith, l) in
        let back = most_between ids first.agent (suc (start + k)) (more - suc k) (omega (arith, within, rest)) in
        let end : before_at ids first.agent (suc (start + k) + (more - suc k)) ≡ before_at ids first.agent (start + more) = ap (before_at ids first.agent) rest in
        let next = count_next ids (start + k) y.0 first.agent y.1 in
        elim (cases_Bool (name_eq y.0.agent first.agent)) [
          | inl own ↦
              let one : ◌≡◌ {A = ℕ} (cond (name_eq y.0.agent first.agent) 1 0) 1 = ap (λ b. cond b 1 0) own in
              let agent : y.0.agent ≡ first.agent = name_exact y.0.agent first.agent own in
              let number = numbered (start + k) y.0 y.1 ∙ ap (λ a. count_of (take (start + k) ids) a) agent in
              let seq : y.0.seq ≡ first.seq + k = omega (arith, low, high, front, back, end, next, one, number, l) in
              y.1 ∙ (λ i. Some (record { agent = agent i; seq = seq i }))
          | inr other ↦
              let none : ◌≡◌ {A = ℕ} (cond (name_eq y.0.agent first.agent) 1 0) 0 = ap (λ b. cond b 1 0) other in
              absurd (omega (arith, low, high, front, back, end, next, none, l))
        ]

pub only_first : (ids : List Id) (first : Id) (position : ℕ) → slice_get ids position ≡ Some first → GoOnTo ids first position (position + 1)
only_first ids first position at k below =
    let none : k ≡ 0 = omega (arith, below) in
    let place : position + k ≡ position = omega (arith, none) in
    let seq : first.seq ≡ first.seq + k = omega (arith, none) in
    ap (slice_get ids) place ∙ at ∙ (λ i. Some (record { agent = first.agent; seq = seq i }))

-- each but the first follows on the one before it
pub follows : (ids : List Id) (first : Id) (position end next : ℕ) → GoOnTo ids first position end → position < next → next < end → FollowAt ids next
follows ids first position end next go above below =
    let k = next - position - 1 in
    let one : position + k ≡ next - 1 = omega (arith, above) in
    let two : position + suc k ≡ next = omega (arith, above) in
    let up : first.seq + suc k ≡ suc (first.seq + k) = omega arith in (
      next - 1,
      record { agent = first.agent; seq = first.seq + k },
      (let e : next ≡ suc (next - 1) = omega (arith, above) in e),
      ap (slice_get ids) (sym one) ∙ go k (omega (arith, one, below)),
      ap (slice_get ids) (sym two) ∙ go (suc k) (omega (arith, two, below)) ∙ (λ i. Some (record { agent = first.agent; seq = up i })),
    )

-- the id at a place is of the agent
pub of_agent : (ids : List Id) (first : Id) (position end next : ℕ) → GoOnTo ids first position end → position ≤ next → next < end → (x : Id) × (slice_get ids next ≡ Some x) × (x.agent ≡ first.agent)
of_agent ids first position end next go above below =
    let k = next - position in
    let place : position + k ≡ next = omega (arith, above) in
    (record { agent = first.agent; seq = first.seq + k }, ap (slice_get ids) (sym place) ∙ go k (omega (arith, place, below)), refl)

-- ---- the agents of such ids

last_there : (names : List (List ℕ)) (name : List ℕ) → list_any (name_eq name) (names ++ name ∷ []) ≡ true
last_there names name =
    list_any-append (name_eq name) names (name ∷ [])
    ∙ or_right (list_any (name_eq name) names) (list_any (name_eq name) (name ∷ [])) (or_left (name_eq name name) false (names_equal.refl name))

name_twice : (names : List (List ℕ)) (name : List ℕ) → with_name (with_name names name) name ≡ with_name names name
name_twice names name = elim (cases_Bool (list_any (name_eq name) names)) [
  | inl there ↦ ap (λ ns. with_name ns name) (cond-true (list_any (name_eq name) names) names (names ++ name ∷ []) there)
  | inr new ↦
      let one : with_name names name ≡ names ++ name ∷ [] = cond-false (list_any (name_eq name) names) names (names ++ name ∷ []) new in
      ap (λ ns. with_name ns name) one
      ∙ cond-true (list_any (name_eq name) (names ++ name ∷ [])) (names ++ name ∷ []) ((names ++ name ∷ []) ++ name ∷ []) (last_there names name)
      ∙ sym one
]

agents_through : (history : List Event) (first : Id) (position end k : ℕ) → GoOnTo (ids_of history) first position end → position + k < end → with_name (agents_of (take position history)) first.agent ≡ agents_of (take (position + suc k) history)
agents_through history first position end zero go below =
    let here : position + zero ≡ position = omega arith in
    agents_next history position (record { agent = first.agent; seq = first.seq + zero }) (ap (slice_get (ids_of history)) (sym here) ∙ go zero below)
agents_through history first position end (suc k) go below =
    let rest = agents_through history first position end k go (omega (arith, below)) in
    let next : position + suc k + 1 ≡ position + suc (suc k) = omega arith in
    sym (name_twice (agents_of (take position history)) first.agent)
    ∙ ap (λ names. with_name names first.agent) rest
    ∙ agents_next history (position + suc k) (record { agent = first.agent; seq = first.seq + suc k }) (go (suc k) below)
    ∙ ap (λ n. agents_of (take n history)) next

pub agents_to : (history : List Event) (first : Id) (position end : ℕ) → GoOnTo (ids_of history) first position end → position < end → with_name (agents_of (take position history)) first.agent ≡ agents_of (take end history)
agents_to history first position end go above =
    let place : position + suc (end - position - 1) ≡ end = omega (arith, above) in
    agents_through history first position end (end - position - 1) go (omega (arith, above)) ∙ ap (λ n. agents_of (take n history)) place

-- ---- an event that goes on from the one before it

pub behind_there : (history : List Event) (position : ℕ) (op : Op) (f : FollowAt (ids_of history) position) → StandsOnOne history position → slice_get (map (λ (e : Event). e.op) history) position ≡ Some op
    → slice_get history (suc f.0) ≡ Some (event_behind f.1 op)
behind_there history position op f on told =
    let here = event_there history position (next_id f.1) f.4 in
    let e = here.0 in
    let does = same_made (λ (g : Event). g.op) history position e op here.1 told in
    let parents = on e f.0 f.1 here.1 f.2 f.3 in
    let same : e ≡ event_behind f.1 op = λ i. record { id = here.2 i; parents = parents i; op = sym does i } in
    ap (slice_get history) (sym f.2) ∙ here.1 ∙ ap (λ (g : Event). Some g) same
