-- All records of a file in runs.
use Rattle.std.proofs.Common.{◌≡◌, ℕ, zero, suc, ◌+◌, ◌-◌, ◌^◌, ◌<◌, ◌≤◌, true, false, cond, ltb, inl, inr, List, [], ◌∷◌, ◌++◌, length, flat_map, Option, Some, None, Ok, refl, sym, ap, subst, ◌∙◌, append_assoc, append-nil, arith}
use Rattle.std.specs.Prelude.{slice_get}
use Rattle.std.specs.List.{list_any, position_or_len, AllByRecursion}
use Rattle.std.proofs.lemmas.Bool.{cases_Bool, or_left, or_right, ltb-false, le-ltb}
use Rattle.std.proofs.lemmas.List.{length-append, nil_from_length}
use Rattle.std.proofs.lemmas.List.Folds.{list_any-append}
use Rattle.ew_model.specs.declared.id.Id.{Id}
use Rattle.ew_model.specs.declared.event.Op.{Op}
use Rattle.ew_model.specs.declared.event.Event.{Event}
use Rattle.ew_model.specs.Ids.{name_eq}
use Rattle.ew_model.specs.Ancestors.{ids_of}
use Rattle.ew_model.specs.Distinct.{AllNew}
use Rattle.ew_model.specs.Sound.{IsSound, AreSound}
use Rattle.ew_model.specs.Edits.{chain_of}
use Rattle.ew_model.specs.Bytes.{four_bytes, name_bytes, AreBytes}
use Rattle.ew_model.specs.Writable.{agents_of, are_writable_after, IsWritable}
use Rattle.ew_model.proofs.AgentLaws.{agents_push, known_agent, next_agent, agents_new_from, agents_good_from, agents_few_from, ids_count, IsGoodName}
use Rattle.ew_model.proofs.EntryLaws.{all_joined}
use Rattle.file_words.specs.FileFaults.{Reader, stops, go_on, ◌>>=◌, number, read_names, read_end, open_agents}
use Rattle.file_words.specs.FileFaults.Stop.{OverLimit}
use Rattle.file_words.specs.FileRuns.{FileRun, ops_count, ops_in, run_events, file_runs, run_record, run_ops_bytes, joins, read_run_record, read_runs, read_run_events}
use Rattle.file_words.specs.FileRunLaws.{IsSteady, first_event, AreApart, AreLongest}
use Rattle.file_words.proofs.FileFields.{Takes, Takes-then, go_ok, number_takes, number_again, names_take, names_again}
use Rattle.file_words.proofs.FileRecords.{names_equal, IsSetting}
use Rattle.file_words.proofs.FileEvents.{setting_after, writable_parts, BeginsWithAgents, agents_step, agent_open, parents_whole, end_ok, end_again, limit_ok}
use Rattle.file_words.proofs.FileRuns.{steady_some, ops_long, runs_hold}
use Rattle.file_words.proofs.LongestRuns.{runs_longest}
use Rattle.file_words.proofs.RunEvents.{chain_agents, run_count, run_written, run_back, run_sound, run_sound_back}
use Rattle.file_words.proofs.RunRecords.{run_record_at, RunFollows, run_takes, run_again}

-- ---- the events of a run behind those before it

settings_after : (events : List Event) (agents : List (List ℕ)) (before : List Event) → IsSetting agents before → AreSound events → are_writable_after before events ≡ true → IsSetting agents (before ++ events)
settings_after [] agents before s sound h = subst (IsSetting agents) (sym (append-nil before)) s
settings_after (e ∷ events) agents before s sound h =
    let w = writable_parts before e events h in
    subst (IsSetting agents) (append_assoc before (e ∷ []) events) (settings_after events agents (before ++ e ∷ []) (setting_after agents before e s sound.0 w.0) sound.1 w.1)

pub agent_there : (before : List Event) (e : Event) → list_any (name_eq e.id.agent) (agents_of (before ++ e ∷ [])) ≡ true
agent_there before e =
    let used = agents_of before in
    let there = list_any (name_eq e.id.agent) in
    ap there (agents_push before e)
    ∙ elim (cases_Bool (there used)) [
      | inl t ↦ ap there (known_agent used e t) ∙ t
      | inr f ↦ ap there (next_agent used e f) ∙ list_any-append (name_eq e.id.agent) used (e.id.agent ∷ []) ∙ or_right (there used) _ (or_left (name_eq e.id.agent e.id.agent) false (names_equal.refl e.id.agent))
    ]

begun_agents : (ops : List Op) (x : Id) (parents : List Id) (agents : List (List ℕ)) (before : List Event) (unused : List (List ℕ)) (i : ℕ) → 0 < length ops → agents ≡ agents_of before ++ unused → slice_get (open_agents agents before) i ≡ Some x.agent → BeginsWithAgents agents (before ++ chain_of x.agent x.seq parents ops)
begun_agents [] x parents agents before unused i some are got = absurd (omega (arith, some))
begun_agents (o ∷ ops) x parents agents before unused i some are got =
    let e : Event = record { id = x; parents = parents; op = o } in
    let rest = chain_of x.agent (x.seq + 1) (x ∷ []) ops in
    let step = agents_step agents before e unused i are got in
    let same : agents_of (before ++ e ∷ rest) ≡ agents_of (before ++ e ∷ []) =
    ap agents_of (sym (append_assoc before (e ∷ []) rest)) ∙ chain_agents ops x.agent (x.seq + 1) (x ∷ []) (before ++ e ∷ []) (agent_there before e) in
    (step.0, step.1 ∙ ap (λ (xs : List (List ℕ)). xs ++ step.0) (sym same))

begun_open : (ops : List Op) (x : Id) (parents : List Id) (before later : List Event) → 0 < length ops → slice_get (open_agents (agents_of (before ++ (chain_of x.agent x.seq parents ops ++ later))) before) (position_or_len (name_eq x.agent) (agents_of (before ++ (chain_of x.agent x.seq parents ops ++ later)))) ≡ Some x.agent
begun_open [] x parents before later some = absurd (omega (arith, some))
begun_open (o ∷ ops) x parents before later some = agent_open before (record { id = x; parents = parents; op = o }) (chain_of x.agent (x.seq + 1) (x ∷ []) ops ++ later)

pub sound_front : (xs ys : List Event) → AreSound (xs ++ ys) → AreSound xs
sound_front [] ys h = tt
sound_front (x ∷ xs) ys h = (h.0, sound_front xs ys h.1)

pub sound_behind : (xs ys : List Event) → AreSound (xs ++ ys) → AreSound ys
sound_behind [] ys h = h
sound_behind (x ∷ xs) ys h = sound_behind xs ys h.1

-- ---- runs one behind the other

-- the events of runs
abbrev pub events_in : List FileRun → List Event
events_in runs = flat_map run_events runs

abbrev pub run_records_at : List (List ℕ) → List Event → List FileRun → List ℕ
run_records_at agents before [] = []
run_records_at agents before (r ∷ later) = run_record_at agents before r ++ run_records_at agents (before ++ run_events r) later

-- the runs are steady, and none goes on from the one before it, the first of them from this run, if there is one
abbrev pub AreBehind : Option FileRun → List FileRun → Type 0
AreBehind None runs = AreLongest runs
AreBehind (Some r) runs = AreApart r runs

behind_from : (last : Option FileRun) (r : FileRun) (runs : List FileRun) → IsSteady r.ops → joins last (first_event r) ≡ false → AreApart r runs → AreBehind last (r ∷ runs)
behind_from None r runs s j a = (s, a)
behind_from (Some q) r runs s j a = (s, j, a)

pub behind_parts : (last : Option FileRun) (r : FileRun) (runs : List FileRun) → AreBehind last (r ∷ runs) → IsSteady r.ops × (joins last (first_event r) ≡ false) × AreApart r runs
behind_parts None r runs h = (h.0, refl, h.1)
behind_parts (Some q) r runs h = h

pub record AreRunsRead (agents : List (List ℕ)) (before : List Event) (last : Option FileRun) (left : ℕ) (bytes : List ℕ) (read : List Event) (rest : List ℕ) : Type 0 where
  pub more : List FileRun
  pub joined : read ≡ before ++ events_in more
  pub takes : Takes bytes (run_records_at agents before more) rest
  pub count : length (events_in more) ≡ left
  pub writable : are_writable_after before (events_in more) ≡ true
  pub sound : AreSound (events_in more)
  pub behind : AreBehind last more
  pub unused : List (List ℕ)
  pub agents_are : agents ≡ agents_of read ++ unused

no_runs : (last : Option FileRun) → AreBehind last []
no_runs None = tt
no_runs (Some r) = tt

none_read : (agents : List (List ℕ)) (before : List Event) (last : Option FileRun) (unused : List (List ℕ)) (bytes : List ℕ) (y : List Event × List ℕ) → agents ≡ agents_of before ++ unused → AreBytes bytes → (before, bytes) ≡ y → AreRunsRead agents before last 0 bytes y.0 y.1
none_read agents before last unused bytes y are fits same =
    subst (λ (p : List Event × List ℕ). AreRunsRead agents before last 0 bytes p.0 p.1) same
    (record { more = []; joined = sym (append-nil before); takes = record { parts = refl; fits = fits }; count = refl; writable = refl; sound = tt; behind = no_runs last; unused = unused; agents_are = are })

runs_take : (most left : ℕ) (agents : List (List ℕ)) (before : List Event) (last : Option FileRun) (unused : List (List ℕ)) (bytes : List ℕ) (y : List Event × List ℕ) → left ≤ most → IsSetting agents before → agents ≡ agents_of before ++ unused → AreBytes bytes → read_runs agents before last left most bytes ≡ Ok y → AreRunsRead agents before last left bytes y.0 y.1
unfolding read_runs
runs_take zero zero agents before last unused bytes y fuel s are fits e = none_read agents before last unused bytes y are fits cc
runs_take zero (suc left) agents before last unused bytes y fuel s are fits e = absurd (omega (arith, fuel))
runs_take (suc most) zero agents before last unused bytes y fuel s are fits e = none_read agents before last unused bytes y are fits cc
runs_take (suc most) (suc left) agents before last unused bytes y fuel s are fits e =
    let g = go_ok (read_run_record agents before last (suc left) bytes) (λ r. read_runs agents (before ++ run_events r) (Some r) (suc left - ops_count r.ops) most) y e in
    let r = g.0.0 in
    let first = run_takes agents before last (suc left) bytes g.0 s (omega arith) fits g.1 in
    let f = first.follows in
    let some = steady_some r.ops f.ops.steady in
    let long = ops_long r.ops in
    let step = begun_agents (ops_in r.ops) r.id r.parents agents before unused first.place (omega (arith, long, some)) are first.agent in
    let sound = run_sound r f.id f.parents f.ops.numbered f.ops.sound in
    let alone : are_writable_after before (run_events r) ≡ true = ap (are_writable_after before) (sym (append-nil (run_events r))) ∙ run_written r before [] f.first f.ops.new refl in
    let others = runs_take most (suc left - ops_count r.ops) agents (before ++ run_events r) (Some r) step.0 g.0.1 y (omega (arith, fuel, some)) (settings_after (run_events r) agents before s sound alone) step.1 first.takes.fits g.2 in
    let size = length-append (run_events r) (events_in others.more) in
    record {
      more = r ∷ others.more;
      joined = others.joined ∙ append_assoc before (run_events r) (events_in others.more);
      takes = Takes-then bytes (run_record_at agents before r) g.0.1 (run_records_at agents (before ++ run_events r) others.more) y.1 first.takes others.takes;
      count = omega (arith, size, run_count r, others.count, f.ops.few);
      writable = run_written r before (events_in others.more) f.first f.ops.new others.writable;
      sound = all_joined IsSound (run_events r) (events_in others.more) sound others.sound;
      behind = behind_from last r others.more f.ops.steady f.ops.apart others.behind;
      unused = others.unused;
      agents_are = others.agents_are;
    }

none_again : (most : ℕ) (agents : List (List ℕ)) (before : List Event) (last : Option FileRun) (bytes : List ℕ) → read_runs agents before last 0 most bytes ≡ Ok (before, bytes)
unfolding read_runs
none_again zero agents before last bytes = refl
none_again (suc most) agents before last bytes = refl

runs_again : (runs : List FileRun) (most left : ℕ) (before : List Event) (agents : List (List ℕ)) (last : Option FileRun) (rest : List ℕ) → left ≤ most → length (events_in runs) ≡ left → AreBehind last runs → agents ≡ agents_of (before ++ events_in runs) → AreSound (events_in runs) → are_writable_after before (events_in runs) ≡ true → length agents < 2 ^ 32 → length (before ++ events_in runs) < 2 ^ 32
    → read_runs agents before last left most (run_records_at agents before runs ++ rest) ≡ Ok (before ++ events_in runs, rest)
unfolding read_runs
runs_again [] most left before agents last rest fuel count behind are sound writable small_agents small =
    ap (λ n. read_runs agents before last n most rest) (sym count) ∙ none_again most agents before last rest ∙ ap (λ xs. Ok (xs, rest)) (sym (append-nil before))
runs_again (r ∷ runs) most zero before agents last rest fuel count behind are sound writable small_agents small =
    let b = behind_parts last r runs behind in
    absurd (omega (arith, count, length-append (run_events r) (events_in runs), run_count r, steady_some r.ops b.0))
runs_again (r ∷ runs) zero (suc left) before agents last rest fuel count behind are sound writable small_agents small = absurd (omega (arith, fuel))
runs_again (r ∷ runs) (suc most) (suc left) before agents last rest fuel count behind are sound writable small_agents small =
    let b = behind_parts last r runs behind in
    let later = events_in runs in
    let some = steady_some r.ops b.0 in
    let long = ops_long r.ops in
    let w = run_back r before later b.0 writable in
    let q = run_sound_back r b.0 (sound_front (run_events r) later sound) in
    let size = length-append (run_events r) later in
    let whole = length-append before (run_events r ++ later) in
    let has = run_count r in
    let few : ops_count r.ops ≤ suc left = omega (arith, count, size, has) in
    let follows : RunFollows before last (suc left) r = record {
      id = q.id;
      parents = q.parents;
      first = w.first;
      ops = record { steady = b.0; few = few; numbered = q.numbered; sound = q.ops; new = w.new; apart = b.1 };
    } in
    let records = run_records_at agents (before ++ run_events r) runs ++ rest in
    let known : slice_get (open_agents agents before) (position_or_len (name_eq r.id.agent) agents) ≡ Some r.id.agent =
    subst (λ xs. slice_get (open_agents xs before) (position_or_len (name_eq r.id.agent) xs) ≡ Some r.id.agent) (sym are) (begun_open (ops_in r.ops) r.id r.parents before later (omega (arith, long, some))) in
    let shifted : (before ++ run_events r) ++ later ≡ before ++ (run_events r ++ later) = append_assoc before (run_events r) later in
    let left_small : suc left < 2 ^ 32 = omega (arith, count, whole, small) in
    let ids_small : length (ids_of before) < 2 ^ 32 = omega (arith, ids_count before, whole, small) in
    let still : length later ≡ suc left - ops_count r.ops = omega (arith, count, size, has) in
    let fuel_left : suc left - ops_count r.ops ≤ most = omega (arith, fuel, some) in
    ap (read_runs agents before last (suc left) (suc most)) (append_assoc (run_record_at agents before r) (run_records_at agents (before ++ run_events r) runs) rest)
    ∙ ap (λ t. go_on t (λ o. read_runs agents (before ++ run_events o) (Some o) (suc left - ops_count o.ops) most)) (run_again agents before last (suc left) r records follows known small_agents ids_small left_small)
    ∙ runs_again runs most (suc left - ops_count r.ops) (before ++ run_events r) agents (Some r) rest fuel_left still b.2 (are ∙ ap agents_of (sym shifted)) (sound_behind (run_events r) later sound) w.rest small_agents (subst (λ (xs : List Event). length xs < 2 ^ 32) (sym shifted) small)
    ∙ ap (λ xs. Ok (xs, rest)) shifted

run_whole : (before later : List Event) (r : FileRun) → IsSteady r.ops → are_writable_after before (run_events r ++ later) ≡ true → run_record (before ++ (run_events r ++ later)) r ≡ run_record_at (agents_of (before ++ (run_events r ++ later))) before r
unfolding run_record
run_whole before later r steady h =
    ap (λ ps. four_bytes (position_or_len (name_eq r.id.agent) (agents_of (before ++ (run_events r ++ later)))) ++ four_bytes r.id.seq ++ length r.parents ∷ ps ++ run_ops_bytes r.ops) (parents_whole before (run_events r ++ later) r.parents (run_back r before later steady h).first.held)

-- the records of runs, one behind the other
runs_whole : (runs : List FileRun) (before : List Event) (last : Option FileRun) → AreBehind last runs → are_writable_after before (events_in runs) ≡ true → flat_map (run_record (before ++ events_in runs)) runs ≡ run_records_at (agents_of (before ++ events_in runs)) before runs
runs_whole [] before last behind h = refl
runs_whole (r ∷ runs) before last behind h =
    let b = behind_parts last r runs behind in
    let later = events_in runs in
    let w = run_back r before later b.0 h in
    let shifted : (before ++ run_events r) ++ later ≡ before ++ (run_events r ++ later) = append_assoc before (run_events r) later in
    let first = run_whole before later r b.0 h in
    let rest = subst (λ (xs : List Event). flat_map (run_record xs) runs ≡ run_records_at (agents_of xs) (before ++ run_events r) runs) shifted (runs_whole runs (before ++ run_events r) (Some r) b.2 w.rest) in
    λ i. first i ++ rest i

-- ---- what stands between the version and the digest

-- the agents, and the events in runs
abbrev pub run_events_text : List Event → List ℕ
run_events_text events =
    four_bytes (length (agents_of events)) ++ (flat_map name_bytes (agents_of events) ++ (four_bytes (length events) ++ flat_map (run_record events) (file_runs events)))

-- behind the names: the events
abbrev read_all : List (List ℕ) → ℕ → Reader (List Event)
read_all agents count = read_runs agents [] None count count >>= read_end agents

abbrev with_names : ℕ → List (List ℕ) → Reader (List Event)
with_names most agents = number >>= λ count. cond (ltb most count) (stops (OverLimit count)) (read_all agents count)

pub record AreRunEventsRead (most : ℕ) (bytes : List ℕ) (events : List Event) : Type 0 where
  pub spelled : bytes ≡ run_events_text events
  pub sound : AreSound events
  pub writable : IsWritable events
  pub few : length events ≤ most

pub run_events_take : (most : ℕ) (bytes : List ℕ) (y : List Event × List ℕ) → AreBytes bytes → read_run_events most bytes ≡ Ok y → AreRunEventsRead most bytes y.0
unfolding read_run_events
run_events_take most bytes y fits e =
    let g = go_ok ((number >>= read_names []) bytes) (with_names most) y e in
    let h = go_ok (number bytes) (read_names []) g.0 g.1 in
    let n = number_takes bytes h.0 fits h.1 in
    let names = names_take h.0.0 [] h.0.1 g.0 n.0.fits h.2 in
    let agents = g.0.0 in
    let are : agents ≡ names.more = names.joined in
    let k = go_ok (number g.0.1) (λ count. cond (ltb most count) (stops (OverLimit count)) (read_all agents count)) y g.2 in
    let m = number_takes g.0.1 k.0 names.takes.fits k.1 in
    let l = limit_ok (ltb most k.0.0) (OverLimit k.0.0) (read_all agents k.0.0) k.0.1 y k.2 in
    let r = go_ok (read_runs agents [] None k.0.0 k.0.0 k.0.1) (read_end agents) y l.1 in
    let setting : IsSetting agents [] = record {
      names = subst (AllNew name_eq []) (sym are) names.new;
      good = subst (AllByRecursion IsGoodName) (sym are) names.good;
      apart = tt;
      sound = tt;
    } in
    let runs = runs_take k.0.0 k.0.0 agents [] None agents k.0.1 r.0 (omega arith) setting refl m.0.fits r.1 in
    let events = events_in runs.more in
    let end = end_ok agents r.0.0 r.0.1 y r.2 in
    let all : y.0 ≡ events = end.2 ∙ runs.joined in
    let none : length runs.unused ≡ 0 = omega (arith, ap (λ (xs : List (List ℕ)). length xs) runs.agents_are, length-append (agents_of r.0.0) runs.unused, end.1) in
    let agents_all : agents ≡ agents_of events = runs.agents_are ∙ ap (λ xs. agents_of r.0.0 ++ xs) (nil_from_length runs.unused none) ∙ append-nil (agents_of r.0.0) ∙ ap agents_of runs.joined in
    let names_are : names.more ≡ agents_of events = sym are ∙ agents_all in
    let records_text : k.0.1 ≡ flat_map (run_record events) (file_runs events) =
    runs.takes.parts ∙ ap (λ t. run_records_at agents [] runs.more ++ t) end.0 ∙ append-nil (run_records_at agents [] runs.more) ∙ ap (λ xs. run_records_at xs [] runs.more) agents_all
    ∙ sym (runs_whole runs.more [] None runs.behind runs.writable) ∙ ap (flat_map (run_record events)) (sym (runs_longest.1 runs.more runs.behind)) in
    let first : bytes ≡ four_bytes h.0.0 ++ (flat_map name_bytes names.more ++ (four_bytes k.0.0 ++ k.0.1)) = n.0.parts ∙ ap (λ t. four_bytes h.0.0 ++ t) (names.takes.parts ∙ ap (λ t. flat_map name_bytes names.more ++ t) m.0.parts) in
    let whole : bytes ≡ run_events_text events = first
    ∙ ap (λ i. four_bytes i ++ (flat_map name_bytes names.more ++ (four_bytes k.0.0 ++ k.0.1))) (sym names.count)
    ∙ ap (λ xs. four_bytes (length xs) ++ (flat_map name_bytes xs ++ (four_bytes k.0.0 ++ k.0.1))) names_are
    ∙ ap (λ i. four_bytes (length (agents_of events)) ++ (flat_map name_bytes (agents_of events) ++ (four_bytes i ++ k.0.1))) (sym runs.count)
    ∙ ap (λ t. four_bytes (length (agents_of events)) ++ (flat_map name_bytes (agents_of events) ++ (four_bytes (length events) ++ t))) records_text in
    subst (λ xs. AreRunEventsRead most bytes xs) (sym all) (record {
      spelled = whole;
      sound = runs.sound;
      writable = record { few = omega (arith, runs.count, m.1); each = runs.writable };
      few = omega (arith, runs.count, ltb-false _ _ l.0);
    })

pub run_events_again : (most : ℕ) (events : List Event) → AreSound events → IsWritable events → length events ≤ most → read_run_events most (run_events_text events) ≡ Ok (events, [])
unfolding read_run_events
run_events_again most events sound writable few =
    let agents = agents_of events in
    let runs = file_runs events in
    let hold : events_in runs ≡ events = runs_hold events in
    let longest : AreLongest runs = runs_longest.0 events in
    let small : length agents < 2 ^ 32 = omega (arith, agents_few_from [] events, writable.few) in
    let records = flat_map (run_record events) runs in
    let behind = four_bytes (length events) ++ records in
    let names : read_names [] (length agents) (flat_map name_bytes agents ++ behind) ≡ Ok (agents, behind) =
    names_again agents [] behind (agents_new_from [] events tt) (agents_good_from [] events tt sound) in
    let each : are_writable_after [] (events_in runs) ≡ true = ap (are_writable_after []) hold ∙ writable.each in
    let spelled : records ≡ run_records_at agents [] runs ++ [] =
    subst (λ (xs : List Event). flat_map (run_record xs) runs ≡ run_records_at (agents_of xs) [] runs) hold (runs_whole runs [] None longest each) ∙ sym (append-nil (run_records_at agents [] runs)) in
    let again = runs_again runs (length events) (length events) [] agents None [] (omega arith) (ap (λ (xs : List Event). length xs) hold) longest (ap agents_of (sym hold)) (subst AreSound (sym hold) sound) each small (subst (λ (xs : List Event). length xs < 2 ^ 32) (sym hold) writable.few) in
    let read : read_runs agents [] None (length events) (length events) records ≡ Ok (events, []) =
    ap (read_runs agents [] None (length events) (length events)) spelled ∙ again ∙ ap (λ (xs : List Event). Ok (xs, [])) hold in
    ap (λ r. go_on (go_on r (read_names [])) (with_names most)) (number_again (length agents) (flat_map name_bytes agents ++ behind) small)
    ∙ ap (λ r. go_on r (with_names most)) names
    ∙ ap (λ r. go_on r (λ count. cond (ltb most count) (stops (OverLimit count)) (read_all agents count))) (number_again (length events) records writable.few)
    ∙ ap (λ b. (cond b (stops (OverLimit (length events))) (read_all agents (length events))) records) (le-ltb most (length events) few)
    ∙ ap (λ r. go_on r (read_end agents)) read
    ∙ end_again agents events refl
