-- A session over files and an input that were told.
use Rattle.std.proofs.Common.{◌≡◌, ◌<◌, ◌≤◌, ◌+◌, ◌⊎◌, inl, inr, ℕ, List, [], ◌++◌, length, take, sym, refl, ◌∙◌, ap, subst, arith, append-nil, length-append}
use Rattle.std.proofs.Common.{length-take, take_all, Option, None, Some, Result, Ok, Err}
use Rattle.std.proofs.lemmas.Bool.Decides.{eqb_tells}
use Rattle.std.specs.Io.KnownBytes.{Appends}
use Rattle.std.proofs.KnownBytes.{Appends-nil, Appends-trans}
use Rattle.ew_outside.specs.Bytes.{IsFlushed}
use Rattle.ew_outside.specs.Counts.{IsQuiet, Rose}
use Rattle.ew_outside.specs.Files.{Files}
use Rattle.ew_outside.specs.Outputs.{GrowsByFront, Sends}
use Rattle.command_table.specs.Sessions.{Session, session_answer}
use Rattle.command_table.specs.Table.{answer_of}
use Rattle.command_table.specs.Outcomes.{IsAnswered, IsServed, StoresFirst}
use Rattle.command_table.specs.Seen.{Seen, Object, shelf, disk, source, sink, faults_of, TellsErr}
use Rattle.command_table.specs.Table.{Line}
use Rattle.opened_files.specs.Views.{reply_view}
use Rattle.opened_files.specs.declared.reply.Reply as own
use Rattle.opened_files.specs.declared.reply.Reply.TheVariants as reply_is
use Rattle.ew_outside.specs.declared.fault.Fault.{Fault}
use Rattle.serve_plans.specs.Plans.{FollowsSession}
use Rattle.command_runs.specs.Endings.{FilesAfter, out_of}
use Rattle.command_runs.specs.Lines.{IsNotOfSink}
use Rattle.command_runs.proofs.Faults.{quiet_not_rose}
use Rattle.command_runs.proofs.Replies.{after_files}
use Rattle.command_runs.proofs.Courses.{IsDoing, Course, Done, Refused, Stopped, Landed, Broken, Starved}
use Rattle.command_runs.proofs.Outputting.{follows_plan, is_session, sends_front}

-- ---- how much was taken

-- so many bytes were appended
appended_length : (old new : Option (List ℕ)) (before bytes added : List ℕ) → old ≡ Some before → new ≡ Some (before ++ bytes) → Appends old new added
    → length bytes ≡ length added
appended_length old new before bytes added at told all =
    let first : Appends (Some before) new added = subst (λ x. Appends x new added) at all in
    let second : Appends (Some before) (Some (before ++ bytes)) added = subst (λ x. Appends (Some before) x added) told first in
    let long : length (before ++ bytes) ≡ length (before ++ added) = ap length second in
    omega (arith, long, length-append before bytes, length-append before added)

-- and of a front no more than of the whole
pub front_length : (old new : Option (List ℕ)) (before bytes whole : List ℕ) → old ≡ Some before → new ≡ Some (before ++ bytes) → GrowsByFront old new whole
    → length bytes ≤ length whole
front_length old new before bytes whole at told g =
    let long = appended_length old new before bytes (take g.0 whole) at told g.1 in
    omega (arith, long, length-take g.0 whole)

flushed_of : (new : Option (List ℕ)) (before bytes : List ℕ) (n : ℕ) → Appends (Some before) new bytes → IsFlushed new (Some n) → n ≡ length before + length bytes
flushed_of None before bytes n all flush = absurd all
flushed_of (Some xs) before bytes n all flush = omega (arith, flush, ap (λ (l : List ℕ). length l) all, length-append before bytes)

-- how much is flushed of an output that grew and was flushed
flushed_length : (old new : Option (List ℕ)) (flushed : Option ℕ) (before bytes : List ℕ) (n : ℕ) → old ≡ Some before → flushed ≡ Some n
    → Appends old new bytes → IsFlushed new flushed → n ≡ length before + length bytes
flushed_length old new flushed before bytes n at told all flush =
    flushed_of new before bytes n (subst (λ x. Appends x new bytes) at all) (subst (IsFlushed new) told flush)

-- ---- what a plan answers

done_answers : (p : own.Reply) (sent : List ℕ) (files : Files) (old new : Seen) (code : ℕ) → IsDoing p → code ≡ 0 → old.shelf.files ≡ Some files
    → FilesAfter p old.shelf.files new.shelf.files → Appends old.out.taken new.out.taken (sent ++ out_of p)
    → TellsErr old new [] → IsAnswered (session_answer (record { sent = sent; closing = reply_view p }) files) old new code
done_answers (reply_is.Prints out) sent files old new code doing zero at after all text = record {
  status = zero;
  files = let h : FilesAfter (reply_is.Prints out) (Some files) new.shelf.files = subst (λ x. FilesAfter (reply_is.Prints out) x new.shelf.files) at after in h;
  out = all;
  err = text;
}
done_answers (reply_is.Stores out to bytes) sent files old new code doing zero at after all text = record {
  status = zero;
  files = let h : FilesAfter (reply_is.Stores out to bytes) (Some files) new.shelf.files = subst (λ x. FilesAfter (reply_is.Stores out to bytes) x new.shelf.files) at after in h;
  out = all;
  err = text;
}
done_answers (reply_is.Refuses why) sent files old new code doing zero at after all text = absurd doing

module _ (l : Option Line) (s : Session) (planned : Result own.Reply Fault) (files : Files) (old mid new : Seen) (code : ℕ)
    (follows : FollowsSession s old.out.taken mid.out.taken mid.out.flushed planned) (at : old.shelf.files ≡ Some files) where
  by_plan : (p : own.Reply) → planned ≡ Ok p → (reply_view p ≡ s.closing) × Sends old.out.taken mid.out.taken mid.out.flushed s.sent
  by_plan p is = follows_plan s planned p old.out.taken mid.out.taken mid.out.flushed is follows

  stored_so : (p : own.Reply) → planned ≡ Ok p → FilesAfter p old.shelf.files new.shelf.files → new.shelf.files ≡ Some (session_answer s files).files
  stored_so p is after = after_files p files (answer_of s.closing files) old.shelf.files new.shelf.files at (ap (λ r. answer_of r files) (sym (by_plan p is).0)) after

  answered_so : Course l planned old mid new code → (code ≡ 6 → ⊥) → (code ≡ 8 → ⊥) → IsAnswered (session_answer s files) old new code
  answered_so (Done p is h) n6 n8 =
      let f = by_plan p is in
      subst (λ r. IsAnswered (session_answer (record { sent = s.sent; closing = r }) files) old new code) f.0
      (done_answers p s.sent files old new code h.doing h.zero at h.files (Appends-trans old.out.taken mid.out.taken new.out.taken s.sent (out_of p) f.1.0 h.out) h.text)
  answered_so (Refused why is h) n6 n8 =
      let f = by_plan (reply_is.Refuses why) is in
      subst (λ r. IsAnswered (session_answer (record { sent = s.sent; closing = r }) files) old new code) f.0
      (record {
        status = h.status_is;
        files = h.files ∙ at;
        out = subst (Appends old.out.taken new.out.taken) (sym (append-nil s.sent)) (subst (λ x. Appends old.out.taken x s.sent) (sym h.out) f.1.0);
        err = h.text;
      })
  answered_so (Stopped object x other named is h) n6 n8 = absurd (n6 h.six)
  answered_so (Landed p is h) n6 n8 = absurd (n6 h.six)
  answered_so (Broken p is h) n6 n8 = absurd (n6 h.six)
  answered_so (Starved h) n6 n8 = absurd (n8 h.eight)

  failed_so : Course l planned old mid new code → code ≡ 6 → (new.shelf.files ≡ old.shelf.files) ⊎ (new.shelf.files ≡ Some (session_answer s files).files)
  failed_so (Done p is h) six = absurd (omega (arith, h.zero, six))
  failed_so (Refused why is h) six = inl h.files
  failed_so (Stopped object x other named is h) six = inl h.files
  failed_so (Landed p is h) six = elim h.files [ inl same ↦ inl same | inr after ↦ inr (stored_so p is after) ]
  failed_so (Broken p is h) six = inr (stored_so p is h.files)
  failed_so (Starved h) six = inl h.files

  -- no more was taken than is sent, where nothing was printed at last
  no_longer : (before bytes : List ℕ) → old.out.taken ≡ Some before → new.out.taken ≡ Some (before ++ bytes) → new.out.taken ≡ mid.out.taken → length bytes ≤ length s.sent
  no_longer before bytes told all same =
      front_length old.out.taken new.out.taken before bytes s.sent told all
      (subst (λ x. GrowsByFront old.out.taken x s.sent) (sym same) (sends_front s planned old.out.taken mid.out.taken mid.out.flushed follows))

  -- and no less, where a plan closes the session
  no_shorter : (p : own.Reply) (n : ℕ) (before bytes : List ℕ) → planned ≡ Ok p → old.out.taken ≡ Some before → new.out.taken ≡ Some (before ++ bytes)
      → Appends mid.out.taken new.out.taken (take n (out_of p)) → length s.sent ≤ length bytes
  no_shorter p n before bytes is told all last =
      let long = appended_length old.out.taken new.out.taken before bytes (s.sent ++ take n (out_of p)) told all
      (Appends-trans old.out.taken mid.out.taken new.out.taken s.sent (take n (out_of p)) (by_plan p is).1.0 last) in
      omega (arith, long, length-append s.sent (take n (out_of p)))

  late_so : Course l planned old mid new code → (before bytes : List ℕ) → old.out.taken ≡ Some before → new.out.taken ≡ Some (before ++ bytes)
      → length s.sent < length bytes → new.shelf.files ≡ Some (session_answer s files).files
  late_so (Done p is h) before bytes told all more = stored_so p is h.files
  late_so (Refused why is h) before bytes told all more = let few = no_longer before bytes told all h.out in absurd (omega (arith, few, more))
  late_so (Stopped object x other named is h) before bytes told all more = let few = no_longer before bytes told all h.out in absurd (omega (arith, few, more))
  late_so (Landed p is h) before bytes told all more = let few = no_longer before bytes told all h.out in absurd (omega (arith, few, more))
  late_so (Broken p is h) before bytes told all more = stored_so p is h.files
  late_so (Starved h) before bytes told all more = let few = no_longer before bytes told all h.out in absurd (omega (arith, few, more))

  early_so : Course l planned old mid new code → (before bytes : List ℕ) → old.out.taken ≡ Some before → new.out.taken ≡ Some (before ++ bytes)
      → length bytes < length s.sent → new.shelf.files ≡ old.shelf.files
  early_so (Done p is h) before bytes told all less =
      let many = no_shorter p (length (out_of p)) before bytes is told all
      (subst (Appends mid.out.taken new.out.taken) (sym (take_all (length (out_of p)) (out_of p) (omega arith))) h.out) in
      absurd (omega (arith, many, less))
  early_so (Refused why is h) before bytes told all less = h.files
  early_so (Stopped object x other named is h) before bytes told all less = h.files
  early_so (Landed p is h) before bytes told all less =
      let many = no_shorter p 0 before bytes is told all (subst (λ x. Appends mid.out.taken x []) (sym h.out) (Appends-nil mid.out.taken)) in
      absurd (omega (arith, many, less))
  early_so (Broken p is h) before bytes told all less = let many = no_shorter p h.out.0 before bytes is told all h.out.1 in absurd (omega (arith, many, less))
  early_so (Starved h) before bytes told all less = h.files

  -- all that is sent before is flushed, where a plan closes the session
  not_fewer : (p : own.Reply) (before : List ℕ) (n : ℕ) → planned ≡ Ok p → old.out.taken ≡ Some before → mid.out.flushed ≡ Some n → (s.sent ≡ [] → ⊥)
      → n < length before + length s.sent → ⊥
  not_fewer p before n is told flushed some less =
      let f = (by_plan p is).1 in
      elim f.1 [
        | inl none ↦ some none
        | inr all ↦ (let long = flushed_length old.out.taken mid.out.taken mid.out.flushed before s.sent n told flushed f.0 all in omega (arith, long, less))
      ]

  unflushed_so : Course l planned old mid new code → (before : List ℕ) (n : ℕ) → old.out.taken ≡ Some before → new.out.flushed ≡ Some n → (s.sent ≡ [] → ⊥)
      → n < length before + length s.sent → new.shelf.files ≡ old.shelf.files
  unflushed_so (Done p is h) before n told flushed some less =
      let long = flushed_length old.out.taken new.out.taken new.out.flushed before (s.sent ++ out_of p) n told flushed
      (Appends-trans old.out.taken mid.out.taken new.out.taken s.sent (out_of p) (by_plan p is).1.0 h.out) h.flushed in
      absurd (omega (arith, long, less, length-append s.sent (out_of p)))
  unflushed_so (Refused why is h) before n told flushed some less = h.files
  unflushed_so (Stopped object x other named is h) before n told flushed some less = h.files
  unflushed_so (Landed p is h) before n told flushed some less = absurd (not_fewer p before n is told (sym h.flushed ∙ flushed) some less)
  unflushed_so (Broken p is h) before n told flushed some less = absurd (not_fewer p before n is told (sym h.flushed ∙ flushed) some less)
  unflushed_so (Starved h) before n told flushed some less = h.files

  -- a session of another status met a fault
  six_rose : Course l planned old mid new code → code ≡ 6 → ((object : Object) → IsQuiet (faults_of object old) (faults_of object new)) → ⊥
  six_rose (Done p is h) six quiet = omega (arith, h.zero, six)
  six_rose (Refused why is h) six quiet = omega (arith, h.refusal, h.status_is, six)
  six_rose (Stopped object x other named is h) six quiet = quiet_not_rose _ _ (quiet object) h.struck.rose
  six_rose (Landed p is h) six quiet = quiet_not_rose _ _ (quiet shelf) h.struck.rose
  six_rose (Broken p is h) six quiet = quiet_not_rose _ _ (quiet sink) h.struck.rose
  six_rose (Starved h) six quiet = omega (arith, h.eight, six)

  -- nothing but the output failed, and it had sent nothing before: a store came first
  other_stops : (object : Object) → Rose (faults_of object old) (faults_of object new) → (object ≡ sink → ⊥)
      → IsQuiet old.shelf.faults new.shelf.faults → IsQuiet old.disk.faults new.disk.faults → IsQuiet old.input.faults new.input.faults → ⊥
  other_stops shelf rose other first second third = quiet_not_rose _ _ first rose
  other_stops disk rose other first second third = quiet_not_rose _ _ second rose
  other_stops source rose other first second third = quiet_not_rose _ _ third rose
  other_stops sink rose other first second third = other refl

  pub stores_first : Course l planned old mid new code → IsNotOfSink planned → StoresFirst s files old new code
  stores_first (Done p is h) none six first second third = absurd (omega (arith, h.zero, six))
  stores_first (Refused why is h) none six first second third = absurd (omega (arith, h.refusal, h.status_is, six))
  stores_first (Stopped object x other named is h) none six first second third = absurd (other_stops object h.struck.rose (λ bad. subst IsNotOfSink (is ∙ ap Err (named bad)) none) first second third)
  stores_first (Landed p is h) none six first second third = absurd (quiet_not_rose _ _ first h.struck.rose)
  stores_first (Broken p is h) none six first second third = stored_so p is h.files
  stores_first (Starved h) none six first second third = absurd (omega (arith, h.eight, six))

  completes : Course l planned old mid new code → ((object : Object) → IsQuiet (faults_of object old) (faults_of object new))
      → (code ≡ (session_answer s files).status) ⊎ (code ≡ 8)
  completes k quiet = elim (eqb_tells code 8) [ inl eight ↦ inr eight.1 | inr other ↦ inl (answered_so k (λ six. six_rose k six quiet) other.1).status ]

  pub is_served : Course l planned old mid new code → IsServed s files old new code
  is_served k = record {
    session = is_session l s planned old mid new code follows k;
    answered = answered_so k;
    failed = failed_so k;
    stored = late_so k;
    unstored = early_so k;
    unflushed = unflushed_so k;
    complete = completes k;
  }
