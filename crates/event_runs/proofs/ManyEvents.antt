-- SO MANY SINGLE EVENTS that the last run takes in are that run with so many events more.
use Rattle.std.proofs.Common.{◌≡◌, ℕ, zero, suc, ◌+◌, ◌-◌, ◌<◌, ◌^◌, inl, List, [], ◌∷◌, ◌++◌, length, slice_get, drop, set, Some, refl, sym, ap, ◌∙◌, subst, arith, append-nil, append_assoc}
use Rattle.std.specs.List.{flat_map}
use Rattle.std.proofs.lemmas.List.{get_or_append_left, length-set, length-drop}
use Rattle.std.proofs.lemmas.Option.{same_Some}
use Rattle.ew_model.specs.declared.event.Op.{Op}
use Rattle.ew_model.specs.declared.event.Op.TheVariants.{Ins, Del, Mark}
use Rattle.event_runs.specs.declared.runs.Run.{Run}
use Rattle.event_runs.specs.declared.runs.RunKind.{RunKind}
use Rattle.event_runs.specs.declared.runs.RunKind.TheVariants.{Insertions, Deletions, BackDeletions, Marks}
use Rattle.event_runs.specs.BareEvents.{BareEvent, bare}
use Rattle.event_runs.specs.KeptRuns.{Told, event_in, events_in, sort_of, chars_of, op_chars, op_labels, run_of_one, IsNext, JoinsAs, longer, AreRuns, AreLabelled, AreKept, labels_of, IsLabel, with_more, GrowBy}
use Rattle.event_runs.specs.declared.ops.RunOps.{RunOps}
use Rattle.event_runs.specs.RunOps.{chain_on, ops_of, IndicesFit}
use Rattle.event_runs.specs.Steps.{kind_of, index_in, chars_in, LastTakes, longer_by}
use Rattle.event_runs.proofs.Found.{told_by}
use Rattle.event_runs.proofs.Kept.{told_with, one_of, one_start, one_before, one_more, StaysKept, kept_grown}
use Rattle.event_runs.proofs.RunEvents.{events_same, length-events_in}
use Rattle.event_runs.proofs.RunLines.{HasMore, more_in, labelled_more}
use Rattle.event_runs.proofs.StepOps.{Takes, TakesAll, takes_from, inserted_from, labels_from}
use Rattle.ew_model.proofs.PositionFrontier.{one_parent}

-- runs with one event more, whatever its characters and labels
pub grown : (runs new : List Run) (lists more : List (List ℕ)) (s : Run) (parents : List ℕ) → AreRuns 0 0 runs lists s.start s.chars_before → s.more ≡ 0 → HasMore runs new lists more s parents 0 0 s.start s.chars_before
    → ((n : ℕ) → AreLabelled 0 runs n → IsLabel s.kind s.at n → AreLabelled 0 new (n + labels_of s.kind)) → GrowBy runs new lists more s parents
grown runs new lists more s parents a none h labelled = record {
  events = λ told c l long are. h.events (with_more told c l) ∙ ap (λ (es : List BareEvent). es ++ event_in (with_more told c l) s parents 0 ∷ [])
      (events_same (with_more told c l) told runs lists 0 0 0 s.start s.chars_before (length told.labels) a are (record {
        chars = λ j low. get_or_append_left told.chars c 0 j (omega (arith, low, long));
        labels = λ j low. get_or_append_left told.labels l [] j low;
      }));
  in_line = let one : 1 ≡ suc s.more = omega (arith, none) in subst (λ n. AreRuns 0 0 new more (s.start + 1) (s.chars_before + chars_of s.kind n)) one h.in_line;
  labelled = labelled;
}

-- an operation that the run takes joins it
pub record JoinsRun (r s : Run) : Type 0 where
  pub joins : JoinsAs r s r.kind
  pub fits : s.at < 2 ^ 32

joins_run : (r : Run) (op : Op) (start place labels : ℕ) → Takes r.kind r.at r.more op → JoinsRun r (run_of_one start op place labels)
joins_run r op start place labels t = let h = by r.kind op t in record { joins = record { alike = h.0; one_way = inl refl; next = h.1 }; fits = h.2 }
  where
    by : (kind : RunKind) (op : Op) → Takes kind r.at r.more op
        → (sort_of kind ≡ sort_of (run_of_one start op place labels).kind)
        × IsNext kind r.at r.more (run_of_one start op place labels).at
        × ((run_of_one start op place labels).at < 2 ^ 32)
    by Insertions (Ins i ch) t = (refl, t.0, t.1)
    by Insertions (Del i) t = absurd t
    by Insertions (Mark label) t = absurd t
    by Deletions (Ins i ch) t = absurd t
    by Deletions (Del i) t = (refl, t.0, t.1)
    by Deletions (Mark label) t = absurd t
    by BackDeletions (Ins i ch) t = absurd t
    by BackDeletions (Del i) t = (refl, t.0, t.1)
    by BackDeletions (Mark label) t = absurd t
    by Marks op t = absurd t

-- the last run goes up to the end
pub last_end : (runs : List Run) (lists : List (List ℕ)) (start place end long i : ℕ) (r : Run) → AreRuns start place runs lists end long → length runs ≡ suc i → slice_get runs i ≡ Some r → r.start + suc r.more ≡ end
last_end [] lists start place end long i r a n e = absurd (omega (arith, n))
last_end (y ∷ runs) [] start place end long i r a n e = absurd a
last_end (y ∷ []) (f ∷ []) start place end long zero r a n e =
    let same = same_Some y r e in
    let at = ap (λ (z : Run). z.start) same in let more = ap (λ (z : Run). z.more) same in
    let first = a.0 in let last = a.4.0 in omega (arith, at, more, first, last)
last_end (y ∷ []) (f ∷ g ∷ lists) start place end long zero r a n e = absurd a.4
last_end (y ∷ z ∷ runs) (f ∷ lists) start place end long zero r a n e = absurd (omega (arith, n))
last_end (y ∷ runs) (f ∷ lists) start place end long (suc i) r a n e = last_end runs lists (start + suc y.more) (place + chars_of y.kind (suc y.more)) end long i r a.4 (omega (arith, n)) e

-- changed twice at a place, and not changed there
set_twice : (runs : List Run) (i : ℕ) (r s : Run) → set (set runs i r) i s ≡ set runs i s
set_twice [] i r s = refl
set_twice (y ∷ runs) zero r s = refl
set_twice (y ∷ runs) (suc i) r s = ap (λ rs. y ∷ rs) (set_twice runs i r s)

set_there : (runs : List Run) (i : ℕ) (r s : Run) → slice_get runs i ≡ Some r → slice_get (set runs i s) i ≡ Some s
set_there [] i r s e = let no : ⊥ = cc in absurd no
set_there (y ∷ runs) zero r s e = refl
set_there (y ∷ runs) (suc i) r s e = set_there runs i r s e

set_itself : (runs : List Run) (i : ℕ) (r : Run) → slice_get runs i ≡ Some r → set runs i r ≡ runs
set_itself [] i r e = refl
set_itself (y ∷ runs) zero r e = ap (λ z. z ∷ runs) (sym (same_Some y r e))
set_itself (y ∷ runs) (suc i) r e = ap (λ rs. y ∷ rs) (set_itself runs i r e)

-- what is told with the operations' characters and labels behind it
abbrev pub told_all : Told → List Op → Told
told_all told ops = with_more told (flat_map op_chars ops) (flat_map op_labels ops)

-- what StaysKept is told of
record Stay : Type 0 where
  told : Told
  runs : List Run
  count : ℕ
  events : List BareEvent

module _ (lists : List (List ℕ)) (place : ℕ) where
  -- one event more
  one_taken : (told : Told) (runs : List Run) (count : ℕ) (r : Run) (op : Op) → AreKept runs lists told count → length runs ≡ suc place → slice_get runs place ≡ Some r → Takes r.kind r.at r.more op
      → StaysKept (told_with told op) (set runs place (longer r r.kind)) lists (count + 1) (events_in told runs lists ++ bare op ((count - 1) ∷ []) ∷ [])
  one_taken told runs count r op k n e t =
      let one = one_of count op told in
      let h = joins_run r op count (length told.chars) (length told.labels) t in
      let start = one_start count op (length told.chars) (length told.labels) in
      let chars = one_before count op (length told.chars) (length told.labels) in
      let end = last_end runs lists 0 0 count (length told.chars) place r k.in_line n e in
      let last : count - 1 ≡ r.start + r.more = omega (arith, end) in
      let a : AreRuns 0 0 runs lists one.start one.chars_before = subst (λ m. AreRuns 0 0 runs lists m one.chars_before) (sym start) (subst (AreRuns 0 0 runs lists count) chars k.in_line) in
      kept_grown told runs (set runs place (longer r r.kind)) lists lists count op ((count - 1) ∷ []) k (one_parent count (count - 1) (omega (arith, end)))
      (grown runs (set runs place (longer r r.kind)) lists lists one ((count - 1) ∷ []) a (one_more count op (length told.chars) (length told.labels))
      (more_in runs lists 0 0 one.start one.chars_before place r one ((count - 1) ∷ []) r.kind a n e h.joins (ap (λ m. m ∷ []) last) refl h.fits)
      (λ m labelled is. labelled_more runs 0 m place r one r.kind labelled e h.joins))

  -- and all
  pub all_taken : (told : Told) (runs : List Run) (count : ℕ) (r : Run) (ops : List Op) → AreKept runs lists told count → length runs ≡ suc place → slice_get runs place ≡ Some r → TakesAll r.kind r.at r.more ops
      → StaysKept (told_all told ops) (set runs place (longer_by r (length ops))) lists (count + length ops) (events_in told runs lists ++ chain_on (count - 1) ops)
  all_taken told runs count r [] k n e t =
      let more : r.more ≡ r.more + 0 = omega arith in
      let same : r ≡ longer_by r 0 = λ i. record { start = r.start; more = more i; kind = r.kind; at = r.at; chars_before = r.chars_before } in
      let runs_same : runs ≡ set runs place (longer_by r 0) = sym (set_itself runs place r e) ∙ ap (set runs place) same in
      let told_same : told ≡ told_all told [] = λ i. record { chars = sym (append-nil told.chars) i; labels = sym (append-nil told.labels) i } in
      let count_same : count ≡ count + 0 = omega arith in
      let more_events : events_in told runs lists ≡ events_in told runs lists ++ [] = sym (append-nil (events_in told runs lists)) in
      subst (λ (x : Stay). StaysKept x.told x.runs lists x.count x.events) (λ i. record { told = told_same i; runs = runs_same i; count = count_same i; events = more_events i }) (record { kept = k; events_are = refl })
  all_taken told runs count r (op ∷ ops) k n e t =
      let first = one_taken told runs count r op k n e t.0 in
      let then = set runs place (longer r r.kind) in
      let rest = all_taken (told_with told op) then (count + 1) (longer r r.kind) ops first.kept (length-set runs place (longer r r.kind) ∙ n) (set_there runs place r (longer r r.kind) e) t.1 in
      let more : r.more + 1 + length ops ≡ r.more + suc (length ops) = omega arith in
      let same : longer_by (longer r r.kind) (length ops) ≡ longer_by r (suc (length ops)) = λ i. record { start = r.start; more = more i; kind = r.kind; at = r.at; chars_before = r.chars_before } in
      let runs_same : set then place (longer_by (longer r r.kind) (length ops)) ≡ set runs place (longer_by r (suc (length ops))) = set_twice runs place (longer r r.kind) (longer_by (longer r r.kind) (length ops)) ∙ ap (set runs place) same in
      let told_same : told_all (told_with told op) ops ≡ told_all told (op ∷ ops) = λ i. record { chars = append_assoc told.chars (op_chars op) (flat_map op_chars ops) i; labels = append_assoc told.labels (op_labels op) (flat_map op_labels ops) i } in
      let count_same : count + 1 + length ops ≡ count + suc (length ops) = omega arith in
      let end = last_end runs lists 0 0 count (length told.chars) place r k.in_line n e in
      let next : count + 1 - 1 ≡ count - 1 + 1 = omega (arith, end) in
      let more_events : events_in (told_with told op) then lists ++ chain_on (count + 1 - 1) ops ≡ events_in told runs lists ++ chain_on (count - 1) (op ∷ ops) =
      (λ i. first.events_are i ++ chain_on (next i) ops) ∙ append_assoc (events_in told runs lists) (bare op ((count - 1) ∷ []) ∷ []) (chain_on (count - 1 + 1) ops) in
      subst (λ (x : Stay). StaysKept x.told x.runs lists x.count x.events) (λ i. record { told = told_same i; runs = runs_same i; count = count_same i; events = more_events i }) rest

-- THE OPERATIONS FROM A PLACE ON, all of which the last run takes
pub taken : (ops : RunOps) (k : ℕ) (told : Told) (runs seen new : List Run) (lists : List (List ℕ)) (count more next : ℕ) (kind : RunKind) (chars : List ℕ) (events : List BareEvent)
    → AreKept runs lists told count → events_in told runs lists ≡ events → seen ≡ runs → kind ≡ kind_of ops → next ≡ index_in ops k → next < 2 ^ 32 → IndicesFit ops → k < length (ops_of ops) → LastTakes seen kind next
    → more ≡ length (ops_of ops) - k → ((place : ℕ) (r : Run) → length runs ≡ suc place → slice_get runs place ≡ Some r → new ≡ set runs place (longer_by r more)) → chars ≡ told.chars ++ drop k (chars_in ops)
    → StaysKept (told_by chars told.labels) new lists (count + more) (events ++ chain_on (length events - 1) (drop k (ops_of ops)))
taken ops k told runs seen new lists count more next kind chars events kept are same is_kind is_next small fit low takes is_more made is_chars =
    let h : LastTakes runs (kind_of ops) (index_in ops k) =
    subst (λ (rs : List Run). LastTakes rs (kind_of ops) (index_in ops k)) same (subst (λ (m : RunKind). LastTakes seen m (index_in ops k)) is_kind (subst (LastTakes seen kind) is_next takes)) in
    let r = h.run in
    let rest = drop k (ops_of ops) in
    let size : length rest ≡ more = length-drop k (ops_of ops) ∙ sym is_more in
    let all_of : TakesAll r.kind r.at r.more rest =
    subst (λ (m : RunKind). TakesAll m r.at r.more rest) (sym h.alike) (takes_from ops k r.at r.more fit (subst (λ m. m < 2 ^ 32) is_next small) low h.next_is) in
    let all = all_taken lists h.place told runs count r rest kept h.last h.there all_of in
    let runs_same : set runs h.place (longer_by r (length rest)) ≡ new = ap (λ m. set runs h.place (longer_by r m)) size ∙ sym (made h.place r h.last h.there) in
    let told_same : told_all told rest ≡ told_by chars told.labels =
    λ i. record {
      chars = (ap (λ cs. told.chars ++ cs) (inserted_from ops k) ∙ sym is_chars) i;
      labels = (ap (λ ls. told.labels ++ ls) (labels_from ops k) ∙ append-nil told.labels) i;
    } in
    let many : length events ≡ count = sym (ap length are) ∙ (let size = length-events_in told runs lists 0 0 count (length told.chars) kept.in_line in omega (arith, size)) in
    let more_events : events_in told runs lists ++ chain_on (count - 1) rest ≡ events ++ chain_on (length events - 1) rest = λ i. are i ++ chain_on (sym many i - 1) rest in
    subst (λ (x : Stay). StaysKept x.told x.runs lists x.count x.events) (λ i. record { told = told_same i; runs = runs_same i; count = count + size i; events = more_events i }) all
