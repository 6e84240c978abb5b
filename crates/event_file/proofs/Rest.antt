-- What is still to come of a file: how it begins, goes on and ends.
use Rattle.std.proofs.Common.{◌≡◌, ℕ, zero, suc, ◌-◌, ◌<◌, ◌≤◌, Bool, true, false, List, [], ◌∷◌, ◌++◌, length, take, map, fold, Result, Ok, Err, refl, sym, ap, ◌∙◌, subst, append-nil, append_assoc, arith, if◌then◌else◌, le-ltb}
use Rattle.std.specs.Prelude.{nat_le, nat_lt, not, slice_get, ◌==◌}
use Rattle.std.proofs.Math.Seq.{drop-append_seam}
use Rattle.std.proofs.lemmas.List.{map-append}
use Rattle.ew_model.specs.declared.id.Id.{Id}
use Rattle.ew_model.specs.declared.event.Event.{Event}
use Rattle.ew_model.specs.Ids.{is_among}
use Rattle.ew_model.specs.Ancestors.{ids_of}
use Rattle.ew_model.specs.Writable.{with_agent, agents_of}
use Rattle.file_words.specs.FileFaults as model
use Rattle.file_words.specs.FileFaults.{Reader, done, stops, go_on, ◌>>=◌, field, only, number, byte, open_agents, read_names, read_parents, read_op, read_record, read_records, read_end, read_events, FileFinding, finding_of}
use Rattle.file_words.specs.FileFaults.RecordFault.{AgentNumber, IdTwice, ParentCount}
use Rattle.file_words.proofs.FileFields.{then_again}
use Rattle.event_file.specs.declared.fault.Stop.{Stop}
use Rattle.event_file.specs.declared.fault.Stop.TheVariants.{Field, OverLimit, OutOfMemory}
use Rattle.event_file.specs.declared.fault.FileFault.{FileFault}
use Rattle.event_file.specs.Faults.{IsFault}
use Rattle.event_file.specs.Reading.{Stops, IsStop}
use Rattle.event_file.specs.Known.{known_by}
use Rattle.event_file.specs.Rest.{beyond, in_front, rest_found}

-- a record asks only for the ids of the events before it
abbrev record_by : List (List ℕ) → List Id → Reader Event
record_by agents ids = do
  agent ← field number (slice_get agents) AgentNumber
  id ← field number (λ seq. only (λ x. not (is_among ids x)) (record { agent = agent; seq = seq })) IdTwice
  count ← field byte (only (λ n. nat_le n 16)) ParentCount
  parents ← read_parents ids [] count
  op ← read_op
  done (record { id = id; parents = parents; op = op })

by_ids : (agents : List (List ℕ)) (before : List Event) (bytes : List ℕ) → read_record agents before bytes ≡ record_by (open_agents agents before) (ids_of before) bytes
unfolding read_record
by_ids agents before bytes = refl

agents_by : (agents : List (List ℕ)) (events : List Event) → fold with_agent agents (map known_by (ids_of events)) ≡ fold with_agent agents events
agents_by agents [] = refl
agents_by agents (e ∷ events) = agents_by (with_agent agents e) events

pub same_agents : (xs ys : List Event) → ids_of xs ≡ ids_of ys → agents_of xs ≡ agents_of ys
same_agents xs ys same = sym (agents_by [] xs) ∙ ap (λ ids. fold with_agent [] (map known_by ids)) same ∙ agents_by [] ys

same_record : (agents : List (List ℕ)) (xs ys : List Event) (bytes : List ℕ) → ids_of xs ≡ ids_of ys → read_record agents xs bytes ≡ read_record agents ys bytes
same_record agents xs ys bytes same =
    by_ids agents xs bytes ∙ ap (λ (names : List (List ℕ)). record_by (take (suc (length names)) agents) (ids_of xs) bytes) (same_agents xs ys same)
    ∙ ap (λ ids. record_by (open_agents agents ys) ids bytes) same ∙ sym (by_ids agents ys bytes)

-- the events of so many records and of the end behind them, without those before
abbrev pub to_come : List (List ℕ) → List Event → ℕ → Reader (List Event)
to_come agents before zero bytes = go_on (read_end agents before bytes) (λ _. done [])
to_come agents before (suc n) bytes = go_on (read_record agents before bytes) (λ e left. go_on (to_come agents (before ++ e ∷ []) n left) (λ es. done (e ∷ es)))

pub same_steps : {A B : Type 0} (r : Result (A × List ℕ) model.Stop) (f g : A → Reader B) → ((x : A) (left : List ℕ) → f x left ≡ g x left) → go_on r f ≡ go_on r g
same_steps (Ok found) f g same = same found.0 found.1
same_steps (Err why) f g same = refl

pub same_end : (agents : List (List ℕ)) (xs ys : List Event) (bytes : List ℕ) → ids_of xs ≡ ids_of ys → go_on (read_end agents xs bytes) (λ _. done {A = List Event} []) ≡ go_on (read_end agents ys bytes) (λ _. done [])
unfolding read_end
same_end agents xs ys [] same = at xs (length (agents_of xs) == length agents) ∙ ap (λ (names : List (List ℕ)). ended (length names == length agents)) (same_agents xs ys same) ∙ sym (at ys (length (agents_of ys) == length agents))
  where
    ended : Bool → Result (List Event × List ℕ) model.Stop
    ended b = if b then Ok ([], []) else Err (model.BadField 0 model.UnusedAgent)

    at : (zs : List Event) (b : Bool) → go_on (if b then Ok (zs, []) else Err (model.BadField 0 model.UnusedAgent)) (λ _. done {A = List Event} []) ≡ ended b
    at zs true = refl
    at zs false = refl
same_end agents xs ys (b ∷ left) same = refl

-- the ids of those before are all that counts for what is to come
same_to_come : (agents : List (List ℕ)) (xs ys : List Event) (n : ℕ) (bytes : List ℕ) → ids_of xs ≡ ids_of ys → to_come agents xs n bytes ≡ to_come agents ys n bytes
same_to_come agents xs ys zero bytes same = same_end agents xs ys bytes same
same_to_come agents xs ys (suc n) bytes same =
    ap (λ r. go_on r (λ e left. go_on (to_come agents (xs ++ e ∷ []) n left) (λ es. done (e ∷ es)))) (same_record agents xs ys bytes same)
    ∙ same_steps (read_record agents ys bytes) (λ e left. go_on (to_come agents (xs ++ e ∷ []) n left) (λ es. done (e ∷ es))) (λ e left. go_on (to_come agents (ys ++ e ∷ []) n left) (λ es. done (e ∷ es)))
    (λ e left. ap (λ r. go_on r (λ es. done (e ∷ es))) (same_to_come agents (xs ++ e ∷ []) (ys ++ e ∷ []) n left (one_more e)))
  where
    one_more : (e : Event) → ids_of (xs ++ e ∷ []) ≡ ids_of (ys ++ e ∷ [])
    one_more e = map-append (λ (f : Event). f.id) xs (e ∷ []) ∙ ap (λ ids. ids ++ e.id ∷ []) same ∙ sym (map-append (λ (f : Event). f.id) ys (e ∷ []))

-- with the events before in front it is what the definition reads
pub whole : (agents : List (List ℕ)) (before : List Event) (n : ℕ) (bytes : List ℕ) → go_on (read_records agents before n bytes) (read_end agents) ≡ go_on (to_come agents before n bytes) (λ es. done (before ++ es))
unfolding read_records read_end
whole agents before zero [] = at (length (agents_of before) == length agents)
  where
    at : (b : Bool) → (if b then Ok (before, []) else Err (model.BadField 0 model.UnusedAgent)) ≡ go_on (go_on (if b then Ok (before, []) else Err (model.BadField 0 model.UnusedAgent)) (λ _. done [])) (λ es. done (before ++ es))
    at true = ap (λ es. Ok (es, [])) (sym (append-nil before))
    at false = refl
whole agents before zero (b ∷ left) = refl
whole agents before (suc n) bytes = at (read_record agents before bytes) (λ e left. whole agents (before ++ e ∷ []) n left)
  where
    behind : (e : Event) (r : Result (List Event × List ℕ) model.Stop) → go_on r (λ es. done ((before ++ e ∷ []) ++ es)) ≡ go_on (go_on r (λ es. done (e ∷ es))) (λ es. done (before ++ es))
    behind e (Ok found) = ap (λ es. Ok (es, found.1)) (append_assoc before (e ∷ []) found.0)
    behind e (Err why) = refl

    at : (r : Result (Event × List ℕ) model.Stop) → ((e : Event) (left : List ℕ) → go_on (read_records agents (before ++ e ∷ []) n left) (read_end agents) ≡ go_on (to_come agents (before ++ e ∷ []) n left) (λ es. done ((before ++ e ∷ []) ++ es)))
        → go_on (go_on r (λ e. read_records agents (before ++ e ∷ []) n)) (read_end agents) ≡ go_on (go_on r (λ e left. go_on (to_come agents (before ++ e ∷ []) n left) (λ es. done (e ∷ es)))) (λ es. done (before ++ es))
    at (Ok found) later = later found.0 found.1 ∙ behind found.0 (to_come agents (before ++ found.0 ∷ []) n found.1)
    at (Err why) later = refl

pub without : (before : List Event) (len : ℕ) (r : Result (List Event × List ℕ) model.Stop) → beyond (length before) (finding_of len (go_on r (λ es. done (before ++ es)))) ≡ finding_of len r
without before len (Ok found) = ap (λ es. model.IsFile es) (drop-append_seam before found.0)
without before len (Err (model.BadField left kind)) = refl
without before len (Err (model.OverLimit count)) = refl

rest_is : (agents : List (List ℕ)) (before : List Event) (n len : ℕ) (bytes : List ℕ) → rest_found agents before n len bytes ≡ finding_of len (to_come agents before n bytes)
rest_is agents before n len bytes = ap (λ r. beyond (length before) (finding_of len r)) (whole agents before n bytes) ∙ without before len (to_come agents before n bytes)

in_front_of : (e : Event) (len : ℕ) (r : Result (List Event × List ℕ) model.Stop) → finding_of len (go_on r (λ es. done (e ∷ es))) ≡ in_front (e ∷ []) (finding_of len r)
in_front_of e len (Ok found) = refl
in_front_of e len (Err (model.BadField left kind)) = refl
in_front_of e len (Err (model.OverLimit count)) = refl

pub one_less : (n : ℕ) → 0 < n → n ≡ suc (n - 1)
one_less n more = omega (arith, more)

-- a record that is read is the next event, and of those before it the ids are enough
pub goes_on : (agents : List (List ℕ)) (before : List Event) (n len : ℕ) (bytes left : List ℕ) (e : Event) → 0 < n → read_record agents before bytes ≡ Ok (e, left)
    → rest_found agents before n len bytes ≡ in_front (e ∷ []) (rest_found agents (before ++ known_by e.id ∷ []) (n - 1) len left)
goes_on agents before n len bytes left e more one =
    rest_is agents before n len bytes ∙ ap (λ k. finding_of len (to_come agents before k bytes)) (one_less n more)
    ∙ ap (λ r. finding_of len (go_on r (λ f later. go_on (to_come agents (before ++ f ∷ []) (n - 1) later) (λ es. done (f ∷ es))))) one
    ∙ ap (λ r. finding_of len (go_on r (λ es. done (e ∷ es)))) (same_to_come agents (before ++ e ∷ []) (before ++ known_by e.id ∷ []) (n - 1) left same)
    ∙ in_front_of e len (to_come agents (before ++ known_by e.id ∷ []) (n - 1) left)
    ∙ ap (in_front (e ∷ [])) (sym (rest_is agents (before ++ known_by e.id ∷ []) (n - 1) len left))
  where
    same : ids_of (before ++ e ∷ []) ≡ ids_of (before ++ known_by e.id ∷ [])
    same = map-append (λ (f : Event). f.id) before (e ∷ []) ∙ sym (map-append (λ (f : Event). f.id) before (known_by e.id ∷ []))

-- reading that stops has the fault of what it reads
pub stops_with : {A : Type 0} (stop : Stop) (fault : FileFault) (len : ℕ) (r : Result (A × List ℕ) model.Stop) (next : A → Reader (List Event)) → Stops stop r → IsStop stop len fault → IsFault fault (finding_of len (go_on r next))
stops_with OutOfMemory fault len r next stopped is = subst (λ f. IsFault f (finding_of len (go_on r next))) (sym is) tt
stops_with (Field left kind) fault len r next stopped is = subst (λ f. IsFault f (finding_of len (go_on r next))) (sym is) (ap (λ s. finding_of len (go_on s next)) stopped)
stops_with (OverLimit count) fault len r next stopped is = subst (λ f. IsFault f (finding_of len (go_on r next))) (sym is) (ap (λ s. finding_of len (go_on s next)) stopped)

-- a record that can't be read is the fault of the rest
pub faults : (stop : Stop) (fault : FileFault) (agents : List (List ℕ)) (before : List Event) (n len : ℕ) (bytes : List ℕ) → 0 < n → Stops stop (read_record agents before bytes) → IsStop stop len fault
    → IsFault fault (rest_found agents before n len bytes)
faults stop fault agents before n len bytes more stopped is =
    subst (IsFault fault) (sym (rest_is agents before n len bytes ∙ ap (λ k. finding_of len (to_come agents before k bytes)) (one_less n more)))
    (stops_with stop fault len (read_record agents before bytes) (λ f later. go_on (to_come agents (before ++ f ∷ []) (n - 1) later) (λ es. done (f ∷ es))) stopped is)

-- where no record is to come the end is read
pub ends : (agents : List (List ℕ)) (before : List Event) (len : ℕ) (bytes : List ℕ) → read_end agents before bytes ≡ Ok (before, []) → rest_found agents before 0 len bytes ≡ model.IsFile []
ends agents before len bytes one = rest_is agents before 0 len bytes ∙ ap (λ (r : Result (List Event × List ℕ) model.Stop). finding_of len (go_on r (λ _. done []))) one

pub end_faults : (stop : Stop) (fault : FileFault) (agents : List (List ℕ)) (before : List Event) (len : ℕ) (bytes : List ℕ) → Stops stop (read_end agents before bytes) → IsStop stop len fault
    → IsFault fault (rest_found agents before 0 len bytes)
end_faults stop fault agents before len bytes stopped is =
    subst (IsFault fault) (sym (rest_is agents before 0 len bytes)) (stops_with stop fault len (read_end agents before bytes) (λ _. done []) stopped is)

pub none_beyond : (found : FileFinding) → beyond 0 found ≡ found
none_beyond (model.IsFile events) = refl
none_beyond (model.Short len) = refl
none_beyond model.BadMagic = refl
none_beyond (model.BadVersion version) = refl
none_beyond (model.BadDigest stored other) = refl
none_beyond (model.BadRecord offset kind) = refl
none_beyond (model.TooMany count) = refl

-- before the first record all is still to come
pub begins : (agents : List (List ℕ)) (n len : ℕ) (bytes : List ℕ) → rest_found agents [] n len bytes ≡ finding_of len (go_on (read_records agents [] n bytes) (read_end agents))
begins agents n len bytes = none_beyond (finding_of len (go_on (read_records agents [] n bytes) (read_end agents)))

-- behind the agents and the number of events only the records and the end are left
pub events_from : (most : ℕ) (bytes names records left : List ℕ) (n count : ℕ) (agents : List (List ℕ)) → number bytes ≡ Ok (n, names) → read_names [] n names ≡ Ok (agents, records) → number records ≡ Ok (count, left) → count ≤ most
    → read_events most bytes ≡ go_on (read_records agents [] count left) (read_end agents)
unfolding read_events
events_from most bytes names records left n count agents first named second le =
    then_again (number >>= read_names []) counted bytes (agents, records) (then_again number (read_names []) bytes (n, names) first ∙ named)
    ∙ then_again number (limited agents) records (count, left) second
    ∙ ap (λ over. (if over then stops (model.OverLimit count) else read_records agents [] count >>= read_end agents) left) (le-ltb most count le)
  where
    limited : List (List ℕ) → ℕ → Reader (List Event)
    limited names k = if nat_lt most k then stops (model.OverLimit k) else read_records names [] k >>= read_end names

    counted : List (List ℕ) → Reader (List Event)
    counted names = number >>= limited names
