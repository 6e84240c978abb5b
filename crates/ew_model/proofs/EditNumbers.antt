-- In a good history the events of an agent have the numbers 0, 1, 2, .. in order.
use Rattle.std.proofs.Common.{◌≡◌, ℕ, zero, suc, ◌+◌, ◌<◌, ◌≤◌, Bool, true, false, cond, ◌||◌, ⊎_elim, nat_lt, List, [], ◌∷◌, ◌++◌, refl, sym, ap, ◌∙◌, subst, append-nil, append_assoc, arith}
use Rattle.std.proofs.lemmas.Bool.{false≢true, cases_lt, or_cases, or_left, or_right, ltb-true, ltb-false, lt-ltb, le-ltb}
use Rattle.std.proofs.lemmas.List.Sums.{sum_by-append, sum_by-cons}
use Rattle.ew_model.specs.declared.id.Id.{Id}
use Rattle.ew_model.specs.declared.event.Event.{Event}
use Rattle.ew_model.specs.Ids.{name_eq, id_eq}
use Rattle.ew_model.specs.Ancestors.{is_held, ancestors}
use Rattle.ew_model.specs.Verdicts.{has_number_below, follows_its_agent, next_verdict, IsGoodAfter, IsGood}
use Rattle.ew_model.specs.Verdicts.Ruling.{Good}
use Rattle.ew_model.specs.Edits.{count_of}
use Rattle.ew_model.specs.EditLaws.{NumbersRunOn}
use Rattle.ew_model.proofs.ListTests.{same_truth}
use Rattle.ew_model.proofs.IdLaws.{is_same_id, names_equal, name_exact}
use Rattle.ew_model.proofs.EntryLaws.{ancestors_held}
use Rattle.ew_model.proofs.GoodLaws.{IsNext, next_from_good}
use Rattle.ew_model.proofs.KeptLaws.{held_joined}

-- the event of an agent with a number
abbrev pub numbered : List ℕ → ℕ → Id
numbered agent n = record { agent = agent; seq = n }

-- an agent's numbers that are held are those below its count
abbrev pub RunsOn : List Event → Type 0
RunsOn history = (agent : List ℕ) (n : ℕ) → is_held history (numbered agent n) ≡ nat_lt n (count_of history agent)

-- one more event counts for its agent
pub count_of-push : (history : List Event) (e : Event) (agent : List ℕ) (b : Bool) → name_eq e.id.agent agent ≡ b → count_of (history ++ e ∷ []) agent ≡ count_of history agent + cond b 1 0
count_of-push history e agent b same =
    sum_by-append (λ (f : Event). cond (name_eq f.id.agent agent) 1 0) history (e ∷ [])
    ∙ ap (λ n. count_of history agent + n) (sum_by-cons (λ (f : Event). cond (name_eq f.id.agent agent) 1 0) e [] ∙ ap (λ c. cond c 1 0 + 0) same ∙ omega arith)

-- a new event whose agent's event before is held has the agent's count as its number
pub number_by : (history : List Event) (parents : List Id) (agent : List ℕ) (s : ℕ) → RunsOn history → is_held history (numbered agent s) ≡ false
    → has_number_below (ancestors history parents) agent s ≡ true → s ≡ count_of history agent
number_by history parents agent zero runs new follows =
    let most = ltb-false zero (count_of history agent) (sym (runs agent zero) ∙ new) in omega (arith, most)
number_by history parents agent (suc n) runs new follows =
    let most = ltb-false (suc n) (count_of history agent) (sym (runs agent (suc n)) ∙ new) in
    let least = ltb-true n (count_of history agent) (sym (runs agent n) ∙ ancestors_held history parents (numbered agent n) follows) in
    omega (arith, most, least)

pub number_of_next : (history : List Event) (e : Event) → RunsOn history → IsNext history e → e.id.seq ≡ count_of history e.id.agent
unfolding follows_its_agent
number_of_next history e runs next = number_by history e.parents e.id.agent e.id.seq runs next.new next.follows

pub one_more : (history : List Event) (e : Event) → RunsOn history → e.id.seq ≡ count_of history e.id.agent → RunsOn (history ++ e ∷ [])
one_more history e runs number agent n =
    held_joined history (e ∷ []) (numbered agent n)
    ∙ same_truth (is_held history (numbered agent n) || (id_eq (numbered agent n) e.id || false)) (nat_lt n (count_of (history ++ e ∷ []) agent)) below held
  where
    counts : (b : Bool) → name_eq e.id.agent agent ≡ b → count_of (history ++ e ∷ []) agent ≡ count_of history agent + cond b 1 0
    counts b same = count_of-push history e agent b same

    grown : (b : Bool) → name_eq e.id.agent agent ≡ b → count_of history agent ≤ count_of (history ++ e ∷ []) agent
    grown true same = let more = counts true same in omega (arith, more)
    grown false same = let more = counts false same in omega (arith, more)

    old : is_held history (numbered agent n) ≡ true → nat_lt n (count_of (history ++ e ∷ []) agent) ≡ true
    old h =
        let less = ltb-true n (count_of history agent) (sym (runs agent n) ∙ h) in
        let more = grown (name_eq e.id.agent agent) refl in
        lt-ltb n (count_of (history ++ e ∷ []) agent) (omega (arith, less, more))

    new : numbered agent n ≡ e.id → nat_lt n (count_of (history ++ e ∷ []) agent) ≡ true
    new same =
        let agents : agent ≡ e.id.agent = ap (λ (x : Id). x.agent) same in
        let more = counts true (ap (name_eq e.id.agent) agents ∙ names_equal.refl e.id.agent) in
        let here : n ≡ count_of history agent = ap (λ (x : Id). x.seq) same ∙ (number ∙ ap (count_of history) (sym agents)) in
        lt-ltb n (count_of (history ++ e ∷ []) agent) (omega (arith, more, here))

    below : (is_held history (numbered agent n) || (id_eq (numbered agent n) e.id || false)) ≡ true → nat_lt n (count_of (history ++ e ∷ []) agent) ≡ true
    below h = ⊎_elim (λ k. old k) (λ k. ⊎_elim (λ j. new ((is_same_id (numbered agent n) e.id).0 j)) (λ j. absurd (false≢true j)) (or_cases (id_eq (numbered agent n) e.id) false k)) (or_cases (is_held history (numbered agent n)) (id_eq (numbered agent n) e.id || false) h)

    before : n < count_of history agent → (is_held history (numbered agent n) || (id_eq (numbered agent n) e.id || false)) ≡ true
    before less = or_left (is_held history (numbered agent n)) (id_eq (numbered agent n) e.id || false) (runs agent n ∙ lt-ltb n (count_of history agent) less)

    found : (b : Bool) → name_eq e.id.agent agent ≡ b → n < count_of (history ++ e ∷ []) agent → (is_held history (numbered agent n) || (id_eq (numbered agent n) e.id || false)) ≡ true
    found false same less = let more = counts false same in before (omega (arith, more, less))
    found true same less =
        let more = counts true same in
        let agents : e.id.agent ≡ agent = name_exact e.id.agent agent same in
        ⊎_elim
        (λ k. before k)
        (λ k.
        let here : n ≡ e.id.seq = let last : e.id.seq ≡ count_of history agent = number ∙ ap (count_of history) agents in omega (arith, more, less, k, last) in
        let one : numbered agent n ≡ e.id = λ i. record { agent = sym agents i; seq = here i } in
        or_right (is_held history (numbered agent n)) (id_eq (numbered agent n) e.id || false) (or_left (id_eq (numbered agent n) e.id) false ((is_same_id (numbered agent n) e.id).1 one)))
        (cases_lt n (count_of history agent))

    held : nat_lt n (count_of (history ++ e ∷ []) agent) ≡ true → (is_held history (numbered agent n) || (id_eq (numbered agent n) e.id || false)) ≡ true
    held h = found (name_eq e.id.agent agent) refl (ltb-true n (count_of (history ++ e ∷ []) agent) h)

pub run_on_after : (before later : List Event) → RunsOn before → IsGoodAfter before later → RunsOn (before ++ later)
run_on_after before [] runs good = subst RunsOn (sym (append-nil before)) runs
run_on_after before (e ∷ later) runs good =
    subst RunsOn (append_assoc before (e ∷ []) later)
    (run_on_after (before ++ e ∷ []) later (one_more before e runs (number_of_next before e runs (next_from_good before e good.0))) good.1)

-- a good history's numbers run on
pub runs_on : (history : List Event) → IsGood history → RunsOn history
unfolding IsGood
runs_on history good = run_on_after [] history (λ agent n. sym (le-ltb n 0 (omega arith))) good

-- each event of a good history may come next behind those before it
pub good_there : (seen before later : List Event) (e : Event) → IsGoodAfter seen (before ++ e ∷ later) → IsGoodAfter seen before × (next_verdict (seen ++ before) e ≡ Good)
good_there seen [] later e good = (tt, ap (λ w. next_verdict w e) (append-nil seen) ∙ good.0)
good_there seen (f ∷ before) later e good =
    let more = good_there (seen ++ f ∷ []) before later e good.1 in
    ((good.0, more.0), ap (λ w. next_verdict w e) (sym (append_assoc seen (f ∷ []) before)) ∙ more.1)

pub number_there : (before later : List Event) (e : Event) → IsGood (before ++ e ∷ later) → e.id.seq ≡ count_of before e.id.agent
unfolding IsGood
number_there before later e good =
    let parts = good_there [] before later e good in number_of_next before e (runs_on before parts.0) (next_from_good before e parts.1)

-- The law of numbers.
pub numbers_run_on : NumbersRunOn
numbers_run_on history good = record { in_order = λ before later e is. number_there before later e (subst IsGood is good); held = runs_on history good }
