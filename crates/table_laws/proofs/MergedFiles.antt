-- What is opened after a merge.
use Rattle.std.proofs.Common.{◌≡◌, ℕ, ◌<◌, ◌≤◌, ◌^◌, Bool, true, false, if◌then◌else◌, nat_lt, ◌⊎◌, inl, inr, ⊎_elim, List, [], length, find, Option, Some, None, IfSome, refl, sym, ap, ◌∙◌, subst, arith}
use Rattle.std.specs.List.{list_any}
use Rattle.std.specs.FinMap.{get, insert, get-insert}
use Rattle.std.proofs.lemmas.Cmp.{nat_list_cmp_total}
use Rattle.std.proofs.lemmas.Bool.{le-ltb}
use Rattle.std.proofs.lemmas.Bool.Decides.{nat_tests}
use Rattle.ew_model.specs.declared.id.Id.{Id}
use Rattle.ew_model.specs.declared.event.Event.{Event}
use Rattle.ew_model.specs.declared.verdict.Refusal.{Refusal}
use Rattle.ew_model.specs.Sound.{IsSound, AreSound}
use Rattle.ew_model.specs.Ids.{name_eq}
use Rattle.ew_model.specs.Limits.{LimitNumbers, AreLimits, most_file_bytes}
use Rattle.ew_model.specs.Bytes.{AreBytes}
use Rattle.file_words.specs.FileFaults.{FileFinding}
use Rattle.file_words.specs.FileFaults.FileFinding.{IsFile, Short, BadMagic, BadVersion, BadDigest, BadRecord, TooMany}
use Rattle.file_words.specs.FileRuns.{file2_of}
use Rattle.file_words.specs.FileVersions.{file_found}
use Rattle.ew_model.specs.Verdicts.{BadEvent, IsGood, first_bad}
use Rattle.ew_model.specs.Arrival.{arrive}
use Rattle.ew_model.specs.Kept.{IsKept}
use Rattle.ew_model.specs.MergeLaw.{IsMerged}
use Rattle.ew_model.proofs.SetLaws.{among_joined}
use Rattle.ew_model.proofs.SortingLaws.{all_at, all_from}
use Rattle.ew_model.proofs.IdLaws.{names_equal}
use Rattle.ew_model.proofs.FirstBadLaws.{good_has_no_bad}
use Rattle.file_words.proofs.FileReading.{file_is}
use Rattle.file_words.proofs.RunSizes.{run_files_short}
use Rattle.file_words.proofs.VersionReading.{both_versions_read, run_file_again}
use Rattle.ew_model.proofs.LimitsKept.{arrivals_keep}
use Rattle.ew_model.proofs.WritableLaws.{good_is_writable}
use Rattle.ew_outside.specs.Files.{Files}
use Rattle.history_definitions.specs.Tallies.{accepted_in, refused_in}
use Rattle.command_table.specs.Loads.{too_long, whole, whole_of}
use Rattle.table_laws.specs.MergeLaws.{HoldsBytes}
use Rattle.peer_definitions.specs.Answering.{is_clash}
use Rattle.command_table.specs.Table.{Text, Reply, prints, stores, refuses, Opened, opened, Answer, answer_of, judged, read_as, opened_as, open_file, over_events, over_both, is_graph_full, unless_clash, received_reply, outcome_text, merge_reply}
use Rattle.command_table.specs.Refusals.{too_many_events, refusal_status}
use Rattle.ew_model.proofs.MergeByAnswers.{merge_unless_clash}
use Rattle.table_laws.proofs.Merges.{none_ends, appended_none}
use Rattle.replica.proofs.Beginnings.{good_from_none_bad}
use Rattle.ew_model.proofs.ListPlaces.{some_is}

-- ---- a file that is opened

-- the file's bytes are read as good events
pub record Opens (limits : LimitNumbers) (files : Files) (name : Text) (events : List Event) : Type 0 where
  pub bytes : List ℕ
  pub here : get files name ≡ Some bytes
  pub short : nat_lt (most_file_bytes limits.events) (length bytes) ≡ false
  pub read : file_found limits.events bytes ≡ IsFile events
  pub good : first_bad events ≡ None

abbrev pub status_in : Reply → ℕ
status_in (prints _) = 0
status_in (stores _ _ _) = 0
status_in (refuses why) = refusal_status why

pub answer_status : (r : Reply) (files : Files) → (answer_of r files).status ≡ status_in r
answer_status (prints _) files = refl
answer_status (stores _ _ _) files = refl
answer_status (refuses why) files = refl

judged_opens : (reply : List Event → Reply) (name : Text) (events : List Event) (o : Option BadEvent) → status_in (over_events reply (judged name events o)) ≡ 0 → (o ≡ None) × (status_in (reply events) ≡ 0)
judged_opens reply name events None h = (refl, h)
judged_opens reply name events (Some bad) h = absurd (omega (arith, h))

-- a finding that opens a file
record Reads (reply : List Event → Reply) (f : FileFinding) : Type 0 where
  events : List Event
  is : f ≡ IsFile events
  good : first_bad events ≡ None
  status : status_in (reply events) ≡ 0

read_opens : (reply : List Event → Reply) (name : Text) (limits : LimitNumbers) (f : FileFinding) → status_in (over_events reply (read_as name limits f)) ≡ 0 → Reads reply f
read_opens reply name limits (IsFile events) h = let j = judged_opens reply name events (first_bad events) h in record { events = events; is = refl; good = j.0; status = j.1 }
read_opens reply name limits (Short len) h = absurd (omega (arith, h))
read_opens reply name limits BadMagic h = absurd (omega (arith, h))
read_opens reply name limits (BadVersion version) h = absurd (omega (arith, h))
read_opens reply name limits (BadDigest stored found) h = absurd (omega (arith, h))
read_opens reply name limits (BadRecord offset kind) h = absurd (omega (arith, h))
read_opens reply name limits (TooMany count) h = absurd (omega (arith, h))

short_opens : (reply : List Event → Reply) (name : Text) (limits : LimitNumbers) (bytes : List ℕ) (b : Bool) → status_in (over_events reply (opened_as name limits (if b then too_long else whole bytes))) ≡ 0 → (b ≡ false) × Reads reply (file_found limits.events bytes)
short_opens reply name limits bytes true h = absurd (omega (arith, h))
short_opens reply name limits bytes false h = (refl, read_opens reply name limits (file_found limits.events bytes) h)

found_opens : (reply : List Event → Reply) (name : Text) (limits : LimitNumbers) (files : Files) (o : Option (List ℕ)) → get files name ≡ o → status_in (over_events reply (opened_as name limits (whole_of (most_file_bytes limits.events) o))) ≡ 0
    → (events : List Event) × Opens limits files name events × (status_in (reply events) ≡ 0)
found_opens reply name limits files None at h = absurd (omega (arith, h))
found_opens reply name limits files (Some bytes) at h =
    let s = short_opens reply name limits bytes (nat_lt (most_file_bytes limits.events) (length bytes)) h in
    (s.1.events, record { bytes = bytes; here = at; short = s.0; read = s.1.is; good = s.1.good }, s.1.status)

pub opens : (reply : List Event → Reply) (name : Text) (limits : LimitNumbers) (files : Files) → status_in (over_events reply (open_file name limits files)) ≡ 0
    → (events : List Event) × Opens limits files name events × (status_in (reply events) ≡ 0)
opens reply name limits files h = found_opens reply name limits files (get files name) refl h

pub opened_is : (name : Text) (limits : LimitNumbers) (files : Files) (events : List Event) → Opens limits files name events → open_file name limits files ≡ opened events
opened_is name limits files events o =
    ap (λ found. opened_as name limits (whole_of (most_file_bytes limits.events) found)) o.here
    ∙ ap (λ (b : Bool). opened_as name limits (if b then too_long else whole o.bytes)) o.short
    ∙ ap (read_as name limits) o.read
    ∙ ap (judged name events) o.good

-- ---- a merge that is done

clash_none : (o : Option (Id × Refusal)) (reply : Reply) → status_in (unless_clash o reply) ≡ 0 → (o ≡ None) × (status_in reply ≡ 0)
clash_none None reply h = (refl, h)
clash_none (Some p) reply h = absurd (omega (arith, h))

full_none : (b : Bool) (most : ℕ) (reply : Reply) → status_in (if b then refuses (too_many_events most) else reply) ≡ 0 → b ≡ false
full_none true most reply h = absurd (omega (arith, h))
full_none false most reply h = refl

-- what is printed and stored of a merge
stored_or_not : (b : Bool) (text name bytes : List ℕ) (files : Files) → (answer_of (if b then stores text name bytes else prints text) files).out ≡ text
stored_or_not true text name bytes files = refl
stored_or_not false text name bytes files = refl

stored_files : (b : Bool) (text name bytes : List ℕ) (files : Files) → ((answer_of (if b then stores text name bytes else prints text) files).files ≡ insert files name bytes) ⊎ ((b ≡ false) × ((answer_of (if b then stores text name bytes else prints text) files).files ≡ files))
stored_files true text name bytes files = inl refl
stored_files false text name bytes files = inr (refl, refl)

not_above : (n : ℕ) → nat_lt 0 n ≡ false → n ≡ 0
not_above n h = grind (arith, nat_tests)

-- a merge that is done, of two files over a map
pub record Done (limits : LimitNumbers) (files : Files) (name other : Text) (t : Answer) : Type 0 where
  pub events : List Event
  pub others : List Event
  pub first : Opens limits files name events
  pub second : Opens limits files other others
  pub merged : IsMerged events others (arrive limits events [] others)
  pub out : t.out ≡ outcome_text (length events) (arrive limits events [] others)
  pub stored : (t.files ≡ insert files name (file2_of (arrive limits events [] others).desk.held)) ⊎ (((arrive limits events [] others).desk.held ≡ events) × (t.files ≡ files))

pub is_done : (limits : LimitNumbers) (files : Files) (name other : Text) (t : Answer) → t ≡ answer_of (over_both (merge_reply name limits) (open_file name limits files) (open_file other limits files)) files → t.status ≡ 0
    → Done limits files name other t
is_done limits files name other t is zero =
    let reply : Reply = over_both (merge_reply name limits) (open_file name limits files) (open_file other limits files) in
    let status : status_in reply ≡ 0 = sym (answer_status reply files) ∙ ap (λ (x : Answer). x.status) (sym is) ∙ zero in
    let one = opens (λ events. over_events (merge_reply name limits events) (open_file other limits files)) name limits files status in
    let two = opens (merge_reply name limits one.0) other limits files one.2 in
    let o = arrive limits one.0 [] two.0 in
    let refusals = refused_in o.answers in
    let kept = received_reply name o.desk.held (accepted_in o.answers) (outcome_text (length one.0) o) in
    let full = list_any (λ (p : Id × Refusal). is_graph_full p.1) refusals in
    let open_room : Reply = if full then refuses (too_many_events limits.events) else kept in
    let clear = clash_none (find (λ (p : Id × Refusal). is_clash p.1) refusals) open_room two.2 in
    let room = full_none full limits.events kept clear.1 in
    let none = none_ends o.answers clear.0 room in
    let whole = merge_unless_clash limits one.0 two.0 (good_from_none_bad one.0 one.1.good) (good_from_none_bad two.0 two.1.good) none in
    let same : reply ≡ kept =
    ap (over_both (merge_reply name limits) (open_file name limits files)) (opened_is other limits files two.0 two.1)
    ∙ ap (λ (x : Opened). over_both (merge_reply name limits) x (opened two.0)) (opened_is name limits files one.0 one.1)
    ∙ ap (λ (f : Option (Id × Refusal)). unless_clash f open_room) clear.0
    ∙ ap (λ (b : Bool). if b then refuses (too_many_events limits.events) else kept) room in
    let t_is : t ≡ answer_of kept files = is ∙ ap (λ (r : Reply). answer_of r files) same in
    let more = nat_lt 0 (accepted_in o.answers) in
    let text = outcome_text (length one.0) o in
    record {
      events = one.0;
      others = two.0;
      first = one.1;
      second = two.1;
      merged = whole;
      out = ap (λ (x : Answer). x.out) t_is ∙ stored_or_not more text name (file2_of o.desk.held) files;
      stored = ⊎_elim
          (λ k. inl (ap (λ (x : Answer). x.files) t_is ∙ k))
          (λ k. inr (appended_none limits one.0 two.0 (not_above (accepted_in o.answers) k.0), ap (λ (x : Answer). x.files) t_is ∙ k.1))
          (stored_files more text name (file2_of o.desk.held) files);
    }

-- ---- what is opened afterwards

-- events that a file can hold
pub record IsStorable (limits : LimitNumbers) (events : List Event) : Type 0 where
  pub sound : AreSound events
  pub few : length events ≤ limits.events

pub storable : (limits : LimitNumbers) (files : Files) (name : Text) (events : List Event) → HoldsBytes files name → Opens limits files name events → IsStorable limits events
storable limits files name events all o =
    let bytes : AreBytes o.bytes = subst (λ (x : Option (List ℕ)). IfSome x AreBytes) o.here all in
    ⊎_elim
    (λ f. record { sound = f.sound; few = f.few })
    (λ f. record { sound = f.sound; few = f.few })
    ((both_versions_read limits.events o.bytes events bytes).0 o.read)

-- one map and name are opened as one list
pub opens_once : (limits : LimitNumbers) (files more : Files) (name : Text) (xs ys : List Event) → get more name ≡ get files name → Opens limits files name xs → Opens limits more name ys → ys ≡ xs
opens_once limits files more name xs ys same o p =
    let bytes : p.bytes ≡ o.bytes = some_is p.bytes o.bytes (sym p.here ∙ same ∙ o.here) in
    file_is ys xs (sym p.read ∙ ap (file_found limits.events) bytes ∙ o.read)

-- the history after a merge can be held by a file
pub merged_storable : (limits : LimitNumbers) (events others : List Event) → first_bad events ≡ None → IsStorable limits events → IsStorable limits others → IsMerged events others (arrive limits events [] others)
    → IsGood (arrive limits events [] others).desk.held × IsStorable limits (arrive limits events [] others).desk.held
merged_storable limits events others good one two m =
    let held = (arrive limits events [] others).desk.held in
    let before : IsKept limits events [] = record { orderly = record { good = good_from_none_bad events good; fresh = tt; apart = tt }; few = one.few; few_wait = omega arith } in
    let kept = arrivals_keep limits events [] others before in (
      kept.orderly.good,
      record {
        sound = all_from IsSound held (λ z k. ⊎_elim (λ a. all_at IsSound events z one.sound a) (λ b. all_at IsSound others z two.sound b) (among_joined events others z (m.whole.there z k)));
        few = kept.few;
      },
    )

-- what the stored file is read as
pub read_again : (limits : LimitNumbers) (events : List Event) → AreLimits limits → IsGood events → IsStorable limits events → file_found limits.events (file2_of events) ≡ IsFile events
read_again limits events numbers good one =
    let few : length events < 2 ^ 32 = omega (arith, one.few, numbers.few_events) in
    run_file_again limits.events events one.sound (good_is_writable events good few) one.few

pub stored_here : (files : Files) (name bytes : List ℕ) → get (insert files name bytes) name ≡ Some bytes
stored_here files name bytes = get-insert nat_list_cmp_total files name bytes name ∙ ap (λ (b : Bool). if b then Some bytes else get files name) (names_equal.refl name)

pub stored_elsewhere : (files : Files) (name other bytes : List ℕ) → name_eq other name ≡ false → get (insert files name bytes) other ≡ get files other
stored_elsewhere files name other bytes apart = get-insert nat_list_cmp_total files name bytes other ∙ ap (λ (b : Bool). if b then Some bytes else get files other) apart

-- events that were stored are opened
pub stored_opens : (limits : LimitNumbers) (files : Files) (name : Text) (events : List Event) → AreLimits limits → IsGood events → IsStorable limits events
    → open_file name limits (insert files name (file2_of events)) ≡ opened events
stored_opens limits files name events numbers good one =
    let few : length events < 2 ^ 32 = omega (arith, one.few, numbers.few_events) in
    let size = run_files_short events one.sound (good_is_writable events good few) in
    opened_is name limits (insert files name (file2_of events)) events (record {
      bytes = file2_of events;
      here = stored_here files name (file2_of events);
      short = le-ltb (most_file_bytes limits.events) (length (file2_of events)) (omega (arith, size, one.few));
      read = read_again limits events numbers good one;
      good = (good_has_no_bad events).0 good;
    })

-- the merged file is opened as the new history
pub opened_new : (limits : LimitNumbers) (files : Files) (name other : Text) (t : Answer) (d : Done limits files name other t) (xs : List Event)
    → AreLimits limits → IsStorable limits d.events → IsStorable limits d.others → Opens limits t.files name xs → xs ≡ (arrive limits d.events [] d.others).desk.held
opened_new limits files name other t d xs numbers one two o =
    let held = (arrive limits d.events [] d.others).desk.held in
    ⊎_elim
    (λ stored.
    let s = merged_storable limits d.events d.others d.first.good one two d.merged in
    let bytes : o.bytes ≡ file2_of held = some_is o.bytes (file2_of held) (sym o.here ∙ ap (λ (m : Files). get m name) stored ∙ stored_here files name (file2_of held)) in
    file_is xs held (sym o.read ∙ ap (file_found limits.events) bytes ∙ read_again limits held numbers s.0 s.1))
    (λ same. opens_once limits files t.files name d.events xs (ap (λ (m : Files). get m name) same.1) d.first o ∙ sym same.0)
    d.stored

-- the merged file is opened
pub opens_new : (limits : LimitNumbers) (files : Files) (name other : Text) (t : Answer) (d : Done limits files name other t)
    → AreLimits limits → IsStorable limits d.events → IsStorable limits d.others → Opens limits t.files name (arrive limits d.events [] d.others).desk.held
opens_new limits files name other t d numbers one two =
    let held = (arrive limits d.events [] d.others).desk.held in
    ⊎_elim
    (λ stored.
    let s = merged_storable limits d.events d.others d.first.good one two d.merged in
    let few : length held < 2 ^ 32 = omega (arith, s.1.few, numbers.few_events) in
    let size = run_files_short held s.1.sound (good_is_writable held s.0 few) in
    record {
      bytes = file2_of held;
      here = ap (λ (m : Files). get m name) stored ∙ stored_here files name (file2_of held);
      short = le-ltb (most_file_bytes limits.events) (length (file2_of held)) (omega (arith, size, s.1.few));
      read = read_again limits held numbers s.0 s.1;
      good = (good_has_no_bad held).0 s.0;
    })
    (λ same. subst (Opens limits t.files name) (sym same.0) (record {
      bytes = d.first.bytes;
      here = ap (λ (m : Files). get m name) same.1 ∙ d.first.here;
      short = d.first.short;
      read = d.first.read;
      good = d.first.good;
    }))
    d.stored

-- the other file is left as it was
pub other_stays : (limits : LimitNumbers) (files : Files) (name other : Text) (t : Answer) → Done limits files name other t → name_eq other name ≡ false → get t.files other ≡ get files other
other_stays limits files name other t d apart =
    ⊎_elim
    (λ stored. ap (λ (m : Files). get m other) stored ∙ stored_elsewhere files name other (file2_of (arrive limits d.events [] d.others).desk.held) apart)
    (λ same. ap (λ (m : Files). get m other) same.1)
    d.stored
