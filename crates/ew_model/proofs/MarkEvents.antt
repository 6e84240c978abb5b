-- The events of a mark, behind all that is held: they are good, change no text, and leave one head.
use Rattle.std.proofs.Common.{◌≡◌, ℕ, zero, suc, ◌+◌, ◌-◌, ◌/◌, ◌≤◌, Bool, true, false, not, ◌||◌, inl, inr, ⊎_elim, List, [], ◌∷◌, ◌++◌, length, filter, refl, sym, ap, ◌∙◌, subst, append-nil, append_assoc, arith}
use Rattle.std.specs.List.{AllByRecursion}
use Rattle.std.specs.declared.cmp.Ordering.TheVariants.{Equal}
use Rattle.std.proofs.lemmas.Bool.{false≢true, false_from_ne_true, le-ltb, lt-ltb, not-true, or_from}
use Rattle.std.proofs.lemmas.List.{nil_from_length}
use Rattle.ew_model.specs.declared.id.Id.{Id}
use Rattle.ew_model.specs.declared.event.Op.TheVariants as op
use Rattle.ew_model.specs.declared.event.Event.{Event}
use Rattle.ew_model.specs.declared.text_op.TextOp.TheVariants.{Nothing}
use Rattle.ew_model.specs.Sets.{Among}
use Rattle.ew_model.specs.Sorting.{sort_by}
use Rattle.ew_model.specs.Ids.{name_eq, id_cmp, id_eq, is_among}
use Rattle.ew_model.specs.Ancestors.{ids_of, is_held, is_parent, version_events, ancestors, heads}
use Rattle.ew_model.specs.Tree.{applied, tree_on}
use Rattle.ew_model.specs.Places.{place}
use Rattle.ew_model.specs.Tree.{next_entry}
use Rattle.ew_model.specs.Operations.{next_operation, changed_by}
use Rattle.ew_model.specs.Texts.{text_of}
use Rattle.ew_model.specs.Verdicts.{has_number_below, follows_its_agent, IsGood}
use Rattle.ew_model.specs.Edits.{count_of, knows_agent, joining_order, joining_groups, joins_of, events_of_mark}
use Rattle.ew_model.proofs.PathOrder.{id_total, id_exact}
use Rattle.ew_model.proofs.IdLaws.{is_same_id, names_equal}
use Rattle.ew_model.proofs.SetLaws.{among_joined, joined_left, joined_right, among_filter, filter_among}
use Rattle.ew_model.proofs.SortingLaws.{NoTies, all_from, ties_filter, same_sorted, sort_sorted, sort_among, among_sort, length-sort}
use Rattle.ew_model.proofs.VersionLaws.{found_by, version_named}
use Rattle.ew_model.proofs.GraphVersions as versions
use Rattle.ew_model.proofs.GraphHeads as graph
use Rattle.ew_model.proofs.EntryLaws.{LaidOut, points_back}
use Rattle.ew_model.proofs.CoverLaws.{event_of, held_by, among_here}
use Rattle.ew_model.proofs.OperationLaws.{text_of-push}
use Rattle.ew_model.proofs.GoodLaws.{IsNext, good_laid_out}
use Rattle.ew_model.proofs.HeadsLaw.{heads_hold_all}
use Rattle.ew_model.proofs.KeptLaws.{good-push}
use Rattle.ew_model.proofs.EditNumbers.{RunsOn, numbered, count_of-push, runs_on}
use Rattle.ew_model.proofs.EditHeads.{head_held, ids_apart, heads_reduced, ascending, one_head}
use Rattle.ew_model.proofs.EditEvents.{good_from_next}
use Rattle.ew_model.proofs.MarkGroups.{joined, grouped, ties_front, ties_behind, in_one_part, JoinsHeads, joins_heads, own_first}

-- the heads are those of some ids, each of them once
pub record AreHeads (history : List Event) (ids : List Id) : Type 0 where
  pub there : (x : Id) → Among x (heads history) → Among x ids
  pub back : (x : Id) → Among x ids → Among x (heads history)
  pub apart : NoTies id_cmp ids

-- the next event of a mark: it joins some ids
abbrev pub join_by : List Event → List ℕ → List ℕ → List Id → Event
join_by history agent label ids = record { id = record { agent = agent; seq = count_of history agent }; parents = sort_by id_cmp ids; op = op.Mark label }

-- the agent's last event is known by these parents
abbrev pub KnowAgent : List Event → List ℕ → List Id → Type 0
KnowAgent history agent ids = has_number_below (ancestors history (sort_by id_cmp ids)) agent (count_of history agent) ≡ true

-- ids that an agent may join: some of the heads, not too many, that know its last event
pub record MayJoin (history : List Event) (agent : List ℕ) (ids later : List Id) : Type 0 where
  pub good : IsGood history
  pub are_heads : AreHeads history (ids ++ later)
  pub few : length ids ≤ 16
  pub know : KnowAgent history agent ids

pub next_join : (history : List Event) (agent label : List ℕ) (ids later : List Id) → MayJoin history agent ids later → IsNext history (join_by history agent label ids)
unfolding follows_its_agent
next_join history agent label ids later may =
    let runs : RunsOn history = runs_on history may.good in
    let parents = sort_by id_cmp ids in
    let back : (x : Id) → Among x parents → Among x (heads history) = λ x m. may.are_heads.back x (joined_left ids later x (sort_among id_total ids x m)) in
    let long : length parents ≡ length ids = length-sort id_cmp ids in
    let few = may.few in
    record {
      new = runs agent (count_of history agent) ∙ le-ltb (count_of history agent) (count_of history agent) (omega arith);
      parents = all_from (λ p. is_held history p ≡ true) parents (λ x m. head_held history x (back x m));
      few = omega (arith, few, long);
      ascend = ascending parents (sort_sorted id_total ids (ties_front ids later may.are_heads.apart));
      reduced = heads_reduced history parents back;
      follows = may.know;
      range = refl;
    }

-- a mark does nothing to the text
pub mark_operation : (history : List Event) (x : Id) (parents : List Id) (label : List ℕ) → next_operation id_eq 0 (tree_on 0 history) (applied history (record { id = x; parents = parents; op = op.Mark label })) ≡ Nothing
unfolding next_operation next_entry place
mark_operation history x parents label = refl

-- what is so when it has come
pub record HasJoined (history : List Event) (agent : List ℕ) (later : List Id) (e : Event) : Type 0 where
  pub good : IsGood (history ++ e ∷ [])
  pub are_heads : AreHeads (history ++ e ∷ []) (e.id ∷ later)
  pub count_then : count_of (history ++ e ∷ []) agent ≡ count_of history agent + 1
  pub text_then : text_of (history ++ e ∷ []) ≡ text_of history

pub has_joined : (history : List Event) (agent label : List ℕ) (ids later : List Id) → MayJoin history agent ids later → HasJoined history agent later (join_by history agent label ids)
unfolding IsGood
has_joined history agent label ids later may =
    let e = join_by history agent label ids in
    let next = next_join history agent label ids later may in
    let then_good : IsGood (history ++ e ∷ []) = good-push [] history e may.good (good_from_next history e next) in
    let laid : LaidOut [] (history ++ e ∷ []) = good_laid_out (history ++ e ∷ []) then_good in
    let left = filter (λ x. not (is_among e.parents x)) (heads history) in
    let push : heads (history ++ e ∷ []) ≡ left ++ e.id ∷ [] = graph.heads_push (λ (f : Event). f.id) (λ (f : Event). f.parents) id_eq history e laid in
    let old_there : (x : Id) → Among x left → Among x later = λ x m.
    let parts = among_filter (λ x. not (is_among e.parents x)) (heads history) x m in
    ⊎_elim
    (λ k. absurd (false≢true (sym (not-true (is_among e.parents x) parts.1) ∙ among_here e.parents x (among_sort id_total ids x k))))
    (λ k. k)
    (among_joined ids later x (may.are_heads.there x parts.0)) in
    let old_back : (x : Id) → Among x later → Among x left = λ x m.
    filter_among (λ x. not (is_among e.parents x)) (heads history) x (may.are_heads.back x (joined_right ids later x m))
    (ap not (false_from_ne_true (is_among e.parents x) (λ named.
    let found = found_by (id_eq x) e.parents named in
    let same : x ≡ found.0 = (is_same_id x found.0).0 found.2 in
    in_one_part ids later x may.are_heads.apart (subst (λ y. Among y ids) (sym same) (sort_among id_total ids found.0 found.1)) m))) in
    record {
      good = then_good;
      are_heads = record {
        there = λ x m. ⊎_elim (λ k. inr (old_there x k)) (λ k. ⊎_elim (λ same. inl same) (λ no. absurd no) k) (among_joined left (e.id ∷ []) x (subst (Among x) push m));
        back = λ x m. subst (Among x) (sym push) (⊎_elim (λ same. joined_right left (e.id ∷ []) x (inl same)) (λ k. joined_left left (e.id ∷ []) x (old_back x k)) m);
        apart = (
          all_from (λ y. id_cmp e.id y ≡ Equal → ⊥) later (λ y m tie.
              false≢true (sym next.new ∙ (ap (is_held history) (id_exact e.id y tie) ∙ head_held history y (may.are_heads.back y (joined_right ids later y m))))),
          ties_behind ids later may.are_heads.apart,
        );
      };
      count_then = count_of-push history e agent true (names_equal.refl agent);
      text_then = text_of-push history e laid ∙ ap (λ o. changed_by o (text_of history)) (mark_operation history e.id e.parents label);
    }

-- an id that is held and named is known
pub named_known : (history : List Event) (ids : List Id) (x : Id) → is_held history x ≡ true → Among x ids → is_among (ancestors history ids) x ≡ true
named_known history ids x h m =
    let f = event_of history x h in
    let same : x ≡ f.0.id = (is_same_id x f.0.id).0 f.2 in
    held_by (version_events history ids) x f.0 (version_named history ids f.0 f.1 (among_here ids f.0.id (subst (λ y. Among y ids) same m))) f.2

-- an event just made is known by whoever has it as a parent
pub last_known : (history : List Event) (agent label : List ℕ) (ids others : List Id) → (come : HasJoined history agent others (join_by history agent label ids)) → (more : List Id)
    → KnowAgent (history ++ join_by history agent label ids ∷ []) agent ((join_by history agent label ids).id ∷ more)
last_known history agent label ids others come more =
    let e = join_by history agent label ids in
    let after = history ++ e ∷ [] in
    let parents = sort_by id_cmp (e.id ∷ more) in
    let number : count_of after agent ≡ suc (count_of history agent) = come.count_then ∙ omega arith in
    let held : is_held after e.id ≡ true = head_held after e.id (come.are_heads.back e.id (inl refl)) in
    ap (has_number_below (ancestors after parents) agent) number ∙ named_known after parents e.id held (among_sort id_total (e.id ∷ more) e.id (inl refl))

-- WHAT THE EVENTS OF GROUPS LEAVE
pub record AreJoined (history events : List Event) : Type 0 where
  pub good : IsGood (history ++ events)
  pub text : text_of (history ++ events) ≡ text_of history

-- the first group and the event before it are few, and so is each further group
abbrev pub AreFew : List Id → List (List Id) → Type 0
AreFew before [] = Unit {0}
AreFew before (group ∷ groups) = (length (before ++ group) ≤ 16) × AllByRecursion (λ (g : List Id). length g ≤ 15) groups

abbrev pub KnowFirst : List Event → List ℕ → List Id → List (List Id) → Type 0
KnowFirst history agent before [] = Unit {0}
KnowFirst history agent before (group ∷ groups) = KnowAgent history agent (before ++ group)

-- groups of heads that an agent may join, one after another
pub record MayJoinAll (history : List Event) (agent : List ℕ) (before : List Id) (groups : List (List Id)) : Type 0 where
  pub good : IsGood history
  pub are_heads : AreHeads history (before ++ joined groups)
  pub few : AreFew before groups
  pub know : KnowFirst history agent before groups

pub may_first : (history : List Event) (agent : List ℕ) (before group : List Id) (groups : List (List Id)) → MayJoinAll history agent before (group ∷ groups) → MayJoin history agent (before ++ group) (joined groups)
may_first history agent before group groups may =
    record { good = may.good; are_heads = subst (AreHeads history) (sym (append_assoc before group (joined groups))) may.are_heads; few = may.few.0; know = may.know }

pub few_next : (x : Id) (groups : List (List Id)) → AllByRecursion (λ (g : List Id). length g ≤ 15) groups → AreFew (x ∷ []) groups
few_next x [] h = tt
few_next x (group ∷ groups) h = (let few = h.0 in omega (arith, few), h.1)

pub know_next : (history : List Event) (agent label : List ℕ) (ids others : List Id) → HasJoined history agent others (join_by history agent label ids) → (groups : List (List Id))
    → KnowFirst (history ++ join_by history agent label ids ∷ []) agent ((join_by history agent label ids).id ∷ []) groups
know_next history agent label ids others come [] = tt
know_next history agent label ids others come (group ∷ groups) = last_known history agent label ids others come group

pub may_further : (history : List Event) (agent label : List ℕ) (before group : List Id) (groups : List (List Id)) → MayJoinAll history agent before (group ∷ groups)
    → HasJoined history agent (joined groups) (join_by history agent label (before ++ group))
    → MayJoinAll (history ++ join_by history agent label (before ++ group) ∷ []) agent ((join_by history agent label (before ++ group)).id ∷ []) groups
may_further history agent label before group groups may come =
    record {
      good = come.good;
      are_heads = come.are_heads;
      few = few_next (join_by history agent label (before ++ group)).id groups may.few.1;
      know = know_next history agent label (before ++ group) (joined groups) come groups;
    }

abbrev pub joins_behind : List Event → List ℕ → List ℕ → List Id → List (List Id) → List Event
joins_behind history agent label before groups = joins_of agent label (count_of history agent) before groups

pub joins_go_on : (history : List Event) (agent label : List ℕ) (before group : List Id) (groups : List (List Id)) → HasJoined history agent (joined groups) (join_by history agent label (before ++ group))
    → joins_behind history agent label before (group ∷ groups)
    ≡ join_by history agent label (before ++ group) ∷ joins_behind (history ++ join_by history agent label (before ++ group) ∷ []) agent label ((join_by history agent label (before ++ group)).id ∷ []) groups
joins_go_on history agent label before group groups come =
    λ i. join_by history agent label (before ++ group) ∷ joins_of agent label (sym come.count_then i) ((join_by history agent label (before ++ group)).id ∷ []) groups

pub joins_done : (history : List Event) (agent label : List ℕ) (before : List Id) (groups : List (List Id)) → MayJoinAll history agent before groups → AreJoined history (joins_behind history agent label before groups)
joins_done history agent label before [] may = record { good = subst IsGood (sym (append-nil history)) may.good; text = ap text_of (append-nil history) }
joins_done history agent label before (group ∷ groups) may =
    let e = join_by history agent label (before ++ group) in
    let come = has_joined history agent label (before ++ group) (joined groups) (may_first history agent before group groups may) in
    let more = joins_done (history ++ e ∷ []) agent label (e.id ∷ []) groups (may_further history agent label before group groups may come) in
    let later = joins_behind (history ++ e ∷ []) agent label (e.id ∷ []) groups in
    let shape : (history ++ e ∷ []) ++ later ≡ history ++ joins_behind history agent label before (group ∷ groups) =
    append_assoc history (e ∷ []) later ∙ ap (λ events. history ++ events) (sym (joins_go_on history agent label before group groups come)) in
    record { good = subst IsGood shape more.good; text = ap text_of (sym shape) ∙ (more.text ∙ come.text_then) }

-- the last event is the only head
pub last_join : (history : List Event) (agent label : List ℕ) (before : List Id) (groups : List (List Id)) → MayJoinAll history agent before groups
    → (front : List Event) (last : Event) → joins_behind history agent label before groups ≡ front ++ last ∷ [] → heads (history ++ joins_behind history agent label before groups) ≡ last.id ∷ []
last_join history agent label before [] may [] last is = let no : ⊥ = cc in absurd no
last_join history agent label before [] may (f ∷ front) last is = let no : ⊥ = cc in absurd no
last_join history agent label before (group ∷ []) may [] last is =
    let e = join_by history agent label (before ++ group) in
    let come = has_joined history agent label (before ++ group) [] (may_first history agent before group [] may) in
    let first : e ≡ last = cc in
    one_head history e (good_laid_out (history ++ e ∷ []) come.good)
    (λ x m. among_sort id_total (before ++ group) x
    (⊎_elim (λ k. joined_left before group x k) (λ k. joined_right before group x (subst (Among x) (append-nil group) k)) (among_joined before (group ++ []) x (may.are_heads.there x m))))
    ∙ ap (λ (f : Event). f.id ∷ []) first
last_join history agent label before (group ∷ other ∷ groups) may [] last is = let no : ⊥ = cc in absurd no
last_join history agent label before (group ∷ groups) may (f ∷ front) last is =
    let e = join_by history agent label (before ++ group) in
    let come = has_joined history agent label (before ++ group) (joined groups) (may_first history agent before group groups may) in
    let later = joins_behind (history ++ e ∷ []) agent label (e.id ∷ []) groups in
    let both : e ∷ later ≡ f ∷ (front ++ last ∷ []) = sym (joins_go_on history agent label before group groups come) ∙ is in
    let rest : later ≡ front ++ last ∷ [] = cc in
    ap (λ events. heads (history ++ events)) (joins_go_on history agent label before group groups come)
    ∙ (ap heads (sym (append_assoc history (e ∷ []) later))
    ∙ last_join (history ++ e ∷ []) agent label (e.id ∷ []) groups (may_further history agent label before group groups may come) front last rest)

-- THE FIRST GROUP
alone : (b : Bool) → (b || false) ≡ true → b ≡ true
alone true e = refl
alone false e = e

-- more ids know more
pub more_known : (history : List Event) (ids : List Id) (y x : Id) → LaidOut [] history → Among y ids → is_among (ancestors history (y ∷ [])) x ≡ true → is_among (ancestors history ids) x ≡ true
more_known history ids y x laid m known =
    let f = event_of (version_events history (y ∷ [])) x known in
    held_by (version_events history ids) x f.0 (inside f.0 f.1) f.2
  where
    inside : (f : Event) → Among f (version_events history (y ∷ [])) → Among f (version_events history ids)
    inside =
        versions.taken_within (λ (e : Event). e.id) (λ (e : Event). e.parents) id_eq (λ f. Among f (version_events history ids)) history (y ∷ [])
        (λ f k e. version_named history ids f k (among_here ids f.id (subst (λ z. Among z ids) (sym ((is_same_id f.id y).0 (alone (id_eq f.id y) e))) m)))
        (λ g f t k e. versions.taken_parent (λ (e : Event). e.id) (λ (e : Event). e.parents) id_eq history ids f g (points_back [] history laid) t k e)

-- a head knows the agent's last event
pub head_knows : (history : List Event) (agent : List ℕ) (m : ℕ) → IsGood history → count_of history agent ≡ suc m → (x : Id) × Among x (heads history) × (knows_agent history agent x ≡ true)
head_knows history agent m good number =
    let laid : LaidOut [] history = good_laid_out history good in
    let held : is_held history (numbered agent m) ≡ true = runs_on history good agent m ∙ lt-ltb m (count_of history agent) (omega (arith, number)) in
    let f = event_of history (numbered agent m) held in
    let all : Among f.0 (version_events history (heads history)) = subst (Among f.0) (sym (heads_hold_all history good).0) f.1 in
    let one = versions.taken_of_one (λ (e : Event). e.id) (λ (e : Event). e.parents) id_eq history (heads history) (points_back [] history laid) f.0 all in
    (one.0, one.1, ap (has_number_below (ancestors history (one.0 ∷ [])) agent) number ∙ held_by (version_events history (one.0 ∷ [])) (numbered agent m) f.0 one.2 f.2)

pub first_knows : (history : List Event) (agent : List ℕ) → IsGood history → KnowAgent history agent (grouped 16 (joining_order history agent)).first
first_knows history agent good = at (count_of history agent) refl
  where
    at : (c : ℕ) → count_of history agent ≡ c → KnowAgent history agent (grouped 16 (joining_order history agent)).first
    at zero number = ap (has_number_below (ancestors history (sort_by id_cmp (grouped 16 (joining_order history agent)).first)) agent) number
    at (suc m) number =
        let head = head_knows history agent m good number in
        let own = own_first history agent head.0 head.1 head.2 in
        let shown : Among own.0 (grouped 16 (joining_order history agent)).first = (grouped 16 (joining_order history agent)).front own.0 own.1 own.2 (omega arith) in
        let first = (grouped 16 (joining_order history agent)).first in
        ap (has_number_below (ancestors history (sort_by id_cmp first)) agent) number
        ∙ more_known history (sort_by id_cmp first) own.0 (numbered agent m) (good_laid_out history good) (among_sort id_total first own.0 shown)
        (ap (has_number_below (ancestors history (own.0 ∷ [])) agent) (sym number) ∙ own.3)

pub may_mark : (history : List Event) (agent : List ℕ) → IsGood history → MayJoinAll history agent [] (joining_groups history agent)
may_mark history agent good =
    let ids = joining_order history agent in
    let g = grouped 16 ids in
    let order : JoinsHeads history ids = joins_heads history agent (good_laid_out history good) in
    subst (MayJoinAll history agent []) (sym g.is)
    (record {
      good = good;
      are_heads = subst (AreHeads history) (sym g.whole) (record { there = order.there; back = order.back; apart = order.apart });
      few = (g.fits, g.few);
      know = first_knows history agent good;
    })

-- THE LAWS OF A MARK
-- what a mark leaves
pub record IsMarked (history events : List Event) : Type 0 where
  pub good : IsGood (history ++ events)
  pub text : text_of (history ++ events) ≡ text_of history

pub mark_done : (history : List Event) (agent label : List ℕ) → IsGood history → IsMarked history (events_of_mark history agent label)
unfolding events_of_mark
mark_done history agent label good =
    let done = joins_done history agent label [] (joining_groups history agent) (may_mark history agent good) in
    record { good = done.good; text = done.text }

pub mark_head : (history : List Event) (agent label : List ℕ) → IsGood history → (front : List Event) (last : Event) → events_of_mark history agent label ≡ front ++ last ∷ []
    → heads (history ++ events_of_mark history agent label) ≡ last.id ∷ []
unfolding events_of_mark
mark_head history agent label good front last is = last_join history agent label [] (joining_groups history agent) (may_mark history agent good) front last is

pub joins_long : (agent label : List ℕ) (n : ℕ) (before : List Id) (groups : List (List Id)) → length (joins_of agent label n before groups) ≡ length groups
joins_long agent label n before [] = refl
joins_long agent label n before (group ∷ groups) = ap (λ k. suc k) (joins_long agent label (n + 1) (record { agent = agent; seq = n } ∷ []) groups)

-- how many events a mark makes
pub mark_long : (history : List Event) (agent label : List ℕ) → IsGood history → length (events_of_mark history agent label) ≡ 1 + (length (heads history) - 2) / 15
unfolding events_of_mark
mark_long history agent label good =
    let ids = joining_order history agent in
    let g = grouped 16 ids in
    let long : length ids ≡ length (heads history) = (joins_heads history agent (good_laid_out history good)).long in
    let count : length g.more ≡ (length ids + 14 - 16) / 15 = g.count in
    joins_long agent label (count_of history agent) [] (joining_groups history agent) ∙ (ap length g.is ∙ omega (arith, count, long))

-- at most 16 heads are joined by one event, on all of them in order
pub mark_of_few : (history : List Event) (agent label : List ℕ) → IsGood history → length (heads history) ≤ 16
    → events_of_mark history agent label ≡ record { id = record { agent = agent; seq = count_of history agent }; parents = sort_by id_cmp (heads history); op = op.Mark label } ∷ []
unfolding events_of_mark
mark_of_few history agent label good few =
    let laid : LaidOut [] history = good_laid_out history good in
    let ids = joining_order history agent in
    let g = grouped 16 ids in
    let order : JoinsHeads history ids = joins_heads history agent laid in
    let long : length ids ≡ length (heads history) = order.long in
    let count : length g.more ≡ (length ids + 14 - 16) / 15 = g.count in
    let no_more : g.more ≡ [] = nil_from_length g.more (omega (arith, count, long, few)) in
    let whole : g.first ≡ ids = sym (append-nil g.first) ∙ (ap (λ gs. g.first ++ joined gs) (sym no_more) ∙ g.whole) in
    let apart : NoTies id_cmp (heads history) = ties_filter id_cmp (λ x. not (is_parent history x)) (ids_of history) (ids_apart [] history laid) in
    let same : sort_by id_cmp g.first ≡ sort_by id_cmp (heads history) = ap (sort_by id_cmp) whole ∙ same_sorted id_total ids (heads history) order.apart apart order.back order.there in
    ap (joins_of agent label (count_of history agent) []) (g.is ∙ ap (λ gs. g.first ∷ gs) no_more)
    ∙ (λ i. record { id = record { agent = agent; seq = count_of history agent }; parents = same i; op = op.Mark label } ∷ [])

-- the events of a mark are all of one agent
pub joins_of_agent : (agent label : List ℕ) (n : ℕ) (before : List Id) (groups : List (List Id)) (x : Id) → name_eq x.agent agent ≡ false → is_held (joins_of agent label n before groups) x ≡ false
joins_of_agent agent label n before [] x other = refl
joins_of_agent agent label n before (group ∷ groups) x other =
    let y : Id = record { agent = agent; seq = n } in
    or_from (id_eq x y) (is_held (joins_of agent label (n + 1) (y ∷ []) groups) x)
    (false_from_ne_true (id_eq x y) (λ same. false≢true (sym other ∙ (ap (λ (z : Id). name_eq z.agent agent) ((is_same_id x y).0 same) ∙ names_equal.refl agent))))
    (joins_of_agent agent label (n + 1) (y ∷ []) groups x other)

pub mark_of_agent : (history : List Event) (agent label : List ℕ) (x : Id) → name_eq x.agent agent ≡ false → is_held (events_of_mark history agent label) x ≡ false
unfolding events_of_mark
mark_of_agent history agent label x other = joins_of_agent agent label (count_of history agent) [] (joining_groups history agent) x other
