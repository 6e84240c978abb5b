-- What is kept stays that of a history: with one event more, and with the first ones alone.
use Rattle.std.proofs.Common.{◌≡◌, ℕ, zero, suc, ◌+◌, ◌<◌, ◌≤◌, List, [], ◌∷◌, ◌++◌, length, get_or, take, refl, sym, ap, ◌∙◌, subst, arith, length-append}
use Rattle.std.proofs.Math.Seq.{get_or-append_seam}
use Rattle.std.proofs.lemmas.List.{length-take, length-take-le, length-map, map-append, take-map}
use Rattle.ew_model.specs.declared.event.Op.{Op}
use Rattle.ew_model.specs.declared.event.Op.TheVariants.{Ins, Del, Mark}
use Rattle.ew_model.specs.Positions.{AreParents, IsHistoryOfParents}
use Rattle.ew_model.proofs.PositionEvents.{history_push}
use Rattle.event_runs.specs.declared.runs.Run.{Run}
use Rattle.event_runs.specs.BareEvents.{BareEvent, bare, parents_in}
use Rattle.event_runs.specs.KeptRuns.{Told, event_in, events_in, op_chars, op_labels, run_of_one, chars_to_end, labels_of, IsLabel, AreRuns, AreLabelled, AreKept, with_more, GrowBy, AreCutAt}
use Rattle.event_runs.proofs.Found.{history_front}
use Rattle.event_runs.proofs.RunEvents.{length-events_in, events_same}

-- ONE MORE
pub one_start : (start : ℕ) (op : Op) (place labels : ℕ) → (run_of_one start op place labels).start ≡ start
one_start start (Ins at ch) place labels = refl
one_start start (Del at) place labels = refl
one_start start (Mark label) place labels = refl

one_chars : (start : ℕ) (op : Op) (place labels : ℕ) → chars_to_end (run_of_one start op place labels) ≡ place + length (op_chars op)
one_chars start (Ins at ch) place labels = refl
one_chars start (Del at) place labels = refl
one_chars start (Mark label) place labels = refl

pub one_more : (start : ℕ) (op : Op) (place labels : ℕ) → (run_of_one start op place labels).more ≡ 0
one_more start (Ins at ch) place labels = refl
one_more start (Del at) place labels = refl
one_more start (Mark label) place labels = refl

pub one_before : (start : ℕ) (op : Op) (place labels : ℕ) → place ≡ (run_of_one start op place labels).chars_before
one_before start (Ins at ch) place labels = refl
one_before start (Del at) place labels = refl
one_before start (Mark label) place labels = refl

one_label : (start : ℕ) (op : Op) (place labels : ℕ) → IsLabel (run_of_one start op place labels).kind (run_of_one start op place labels).at labels
one_label start (Ins at ch) place labels = tt
one_label start (Del at) place labels = tt
one_label start (Mark label) place labels = refl

one_labels : (start : ℕ) (op : Op) (place labels : ℕ) → labels_of (run_of_one start op place labels).kind ≡ length (op_labels op)
one_labels start (Ins at ch) place labels = refl
one_labels start (Del at) place labels = refl
one_labels start (Mark label) place labels = refl

-- what is told with the operation's character or label behind it
abbrev pub told_with : Told → Op → Told
told_with told op = with_more told (op_chars op) (op_labels op)

-- the run of one operation more
abbrev pub one_of : ℕ → Op → Told → Run
one_of start op told = run_of_one start op (length told.chars) (length told.labels)

one_event : (start : ℕ) (op : Op) (told : Told) (parents : List ℕ) → event_in (told_with told op) (one_of start op told) parents 0 ≡ bare op parents
one_event start (Ins at ch) told parents =
    let index : at + 0 ≡ at = omega arith in let place : length told.chars + 0 ≡ length told.chars = omega arith in
    λ i. bare (Ins (index i) ((ap (λ k. get_or (told.chars ++ ch ∷ []) k 0) place ∙ get_or-append_seam told.chars ch [] 0) i)) parents
one_event start (Del at) told parents = refl
one_event start (Mark label) told parents = ap (λ l. bare (Mark l) parents) (get_or-append_seam told.labels label [] [])

-- the events are those of a history of so many
events_many : (told : Told) (runs : List Run) (lists : List (List ℕ)) (count : ℕ) → AreRuns 0 0 runs lists count (length told.chars) → length (parents_in (events_in told runs lists)) ≡ count
events_many told runs lists count a =
    let all = length-events_in told runs lists 0 0 count (length told.chars) a in
    let same = length-map (events_in told runs lists) (λ (e : BareEvent). e.parents) in omega (arith, all, same)

pub record StaysKept (told : Told) (runs : List Run) (lists : List (List ℕ)) (count : ℕ) (events : List BareEvent) : Type 0 where
  pub kept : AreKept runs lists told count
  pub events_are : events_in told runs lists ≡ events

pub kept_grown : (told : Told) (runs new : List Run) (lists more : List (List ℕ)) (count : ℕ) (op : Op) (parents : List ℕ) → AreKept runs lists told count → AreParents count parents
    → GrowBy runs new lists more (one_of count op told) parents → StaysKept (told_with told op) new more (count + 1) (events_in told runs lists ++ bare op parents ∷ [])
kept_grown told runs new lists more count op parents k p g =
    let one = one_of count op told in
    let made : events_in (told_with told op) new more ≡ events_in told runs lists ++ bare op parents ∷ [] =
    g.events told (op_chars op) (op_labels op) (one_before count op (length told.chars) (length told.labels)) k.labelled ∙ ap (λ (e : BareEvent). events_in told runs lists ++ e ∷ []) (one_event count op told parents) in
    let long : chars_to_end one ≡ length (told.chars ++ op_chars op) = one_chars count op (length told.chars) (length told.labels) ∙ sym (length-append told.chars (op_chars op)) in
    let labels : length told.labels + labels_of one.kind ≡ length (told.labels ++ op_labels op) = ap (λ n. length told.labels + n) (one_labels count op (length told.chars) (length told.labels)) ∙ sym (length-append told.labels (op_labels op)) in
    let all : parents_in (events_in told runs lists) ++ parents ∷ [] ≡ parents_in (events_in (told_with told op) new more) =
    sym (map-append (λ (e : BareEvent). e.parents) (events_in told runs lists) (bare op parents ∷ [])) ∙ ap (λ (es : List BareEvent). parents_in es) (sym made) in
    record {
      kept = record {
        in_line = subst (λ n. AreRuns 0 0 new more (n + 1) (length (told.chars ++ op_chars op))) (one_start count op (length told.chars) (length told.labels)) (subst (AreRuns 0 0 new more (one.start + 1)) long g.in_line);
        labelled = subst (AreLabelled 0 new) labels (g.labelled (length told.labels) k.labelled (one_label count op (length told.chars) (length told.labels)));
        history = subst IsHistoryOfParents all
            (history_push (parents_in (events_in told runs lists)) parents k.history (subst (λ n. AreParents n parents) (sym (events_many told runs lists count k.in_line)) p));
      };
      events_are = made;
    }

-- THE FIRST ONES ALONE
read_front : {X : Type 0} (cs : List X) (n j : ℕ) (other : X) → j < n → get_or (take n cs) j other ≡ get_or cs j other
read_front cs zero j other l = absurd (omega (arith, l))
read_front [] (suc n) j other l = refl
read_front (x ∷ cs) (suc n) zero other l = refl
read_front (x ∷ cs) (suc n) (suc j) other l = read_front cs n j other (omega (arith, l))

-- what is told with the first characters and labels alone
abbrev pub told_front : Told → ℕ → ℕ → Told
told_front told chars labels = record { chars = take chars told.chars; labels = take labels told.labels }

read_label : {X : Type 0} (xs : List X) (n j : ℕ) (other : X) → j < length (take n xs) → get_or (take n xs) j other ≡ get_or xs j other
read_label xs n j other l = read_front xs n j other (let few = length-take n xs in omega (arith, few, l))

pub kept_cut : (told : Told) (runs new : List Run) (lists : List (List ℕ)) (count n left labels : ℕ) → AreKept runs lists told count → n ≤ count → AreCutAt runs new lists (length told.chars) n left
    → AreLabelled 0 new (length (take labels told.labels)) → StaysKept (told_front told left labels) new (take (length new) lists) n (take n (events_in told runs lists))
kept_cut told runs new lists count n left labels k l c labelled =
    let part = told_front told left labels in
    let long : left ≡ length part.chars = sym (length-take-le left told.chars c.within) in
    let made : events_in part new (take (length new) lists) ≡ take n (events_in told runs lists) =
    events_same part told new (take (length new) lists) 0 0 0 n left (length part.labels) c.in_line labelled
    (record { chars = λ j m. read_front told.chars left j 0 m; labels = λ j m. read_label told.labels labels j [] m }) ∙ c.events told in
    let all : take n (parents_in (events_in told runs lists)) ≡ parents_in (events_in part new (take (length new) lists)) =
    take-map (λ (e : BareEvent). e.parents) n (events_in told runs lists) ∙ ap (λ (es : List BareEvent). parents_in es) (sym made) in
    let many = events_many told runs lists count k.in_line in
    record {
      kept = record {
        in_line = subst (AreRuns 0 0 new (take (length new) lists) n) long c.in_line;
        labelled = labelled;
        history = subst IsHistoryOfParents all (history_front (parents_in (events_in told runs lists)) n (omega (arith, l, many)) k.history);
      };
      events_are = made;
    }
