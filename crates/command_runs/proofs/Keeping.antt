-- From what a plan leaves of the journal, and what of the output is behind it, to what the run leaves of the journal.
use Rattle.std.proofs.Common.{◌≡◌, inl, inr, ℕ, List, [], ◌++◌, length, take, Option, Some, IfOk, Result, Ok, Err, refl, sym, ap, subst, ◌∙◌, append-nil, take_all, arith}
use Rattle.std.specs.Io.KnownBytes.{Appends}
use Rattle.std.proofs.KnownBytes.{Appends-nil, Appends-trans}
use Rattle.ew_model.specs.declared.event.Event.{Event}
use Rattle.ew_model.specs.Limits.{LimitNumbers}
use Rattle.ew_model.proofs.ListPlaces.{some_is}
use Rattle.ew_outside.specs.Outputs.{GrowsByFront, Sends}
use Rattle.ew_outside.specs.Seen.{SinkSeen}
use Rattle.ew_outside.proofs.Outputs.{front_of_all}
use Rattle.ew_outside.specs.declared.fault.Fault.TheVariants as fault_is
use Rattle.peer_definitions.specs.Batches.{AreBatches}
use Rattle.command_table.specs.Crashes.{IsSafe}
use Rattle.command_table.specs.Journals.{Journal, IsJournal, with_lines}
use Rattle.command_table.specs.Kept.{FailsToKeep, HoldsFront, HoldsPrinted, Keeps, PrintsAtMost}
use Rattle.command_table.specs.Scripts.{batches_of, told_of}
use Rattle.command_table.specs.Seen.{Seen}
use Rattle.opened_files.specs.Views.{reply_status}
use Rattle.opened_files.specs.declared.reply.Reply as own
use Rattle.serve_plans.proofs.Answers.{grows_none}
use Rattle.journal_plans.specs.Watching.{HoldsTold, KeepsJournal, StandsIn, StopsIn}
use Rattle.journal_plans.specs.declared.stop.Stop.{Stop}
use Rattle.journal_plans.specs.declared.stop.Stop.TheVariants as stop
use Rattle.command_runs.proofs.Kept.{Traces}
use Rattle.command_runs.proofs.KeptLines.{CountByBatches, last_line}
use Rattle.command_runs.proofs.Tables.{front_length}

-- what was printed before the end is all that was printed
printed_most : (old mid new : Seen) (text : List ℕ) → Appends mid.out.taken new.out.taken [] → GrowsByFront old.out.taken mid.out.taken text → PrintsAtMost (length text) old new
printed_most old mid new text last grew = λ before more was now.
    front_length old.out.taken new.out.taken before more text was now
    (grew.0, subst (Appends old.out.taken new.out.taken) (append-nil (take grew.0 text)) (Appends-trans old.out.taken mid.out.taken new.out.taken (take grew.0 text) [] grew.1 last))

-- all lines stand, and were printed
all_held : (limits : LimitNumbers) (journal : Journal) (lines : List (List Event)) (old mid new : Seen) (bytes : List ℕ) → Appends mid.out.taken new.out.taken []
    → Appends old.out.taken mid.out.taken (told_of lines) → IsJournal limits bytes (with_lines limits journal lines) → HoldsPrinted limits journal lines old new bytes
all_held limits journal lines old mid new bytes last sent holds =
    let batches = batches_of limits lines in
    let whole : take (length lines) lines ≡ lines = take_all (length lines) lines (omega arith) in
    record {
      count = length batches;
      holds = subst (λ (bs : List (List Event)). AreBatches limits.body bytes (journal.batches ++ bs) journal.bad) (sym (take_all (length batches) batches (omega arith))) holds;
      whole_lines = length lines;
      stand = omega (arith, ap (λ (ls : List (List Event)). length (batches_of limits ls)) whole);
      printed = subst (λ (ls : List (List Event)). PrintsAtMost (length (told_of ls)) old new) (sym whole)
          (printed_most old mid new (told_of lines) last (front_of_all old.out.taken mid.out.taken (told_of lines) sent));
    }

stopped_held : (limits : LimitNumbers) (journal : Journal) (lines : List (List Event)) (old mid new : Seen) (told : Option (List ℕ)) (why : Stop) → Appends mid.out.taken new.out.taken []
    → (s : StopsIn limits journal lines told old.out mid.out why) → HoldsPrinted limits journal lines old new s.bytes
stopped_held limits journal lines old mid new told why last s = record {
  count = s.count;
  holds = s.holds;
  whole_lines = s.whole_lines;
  stand = s.stand;
  printed = printed_most old mid new (told_of (take s.whole_lines lines)) last s.printed;
}

told_held : (limits : LimitNumbers) (journal : Journal) (lines : List (List Event)) (old mid new : Seen) (bytes : List ℕ) → Appends mid.out.taken new.out.taken []
    → HoldsTold limits journal lines old.out mid.out bytes → HoldsPrinted limits journal lines old new bytes
told_held limits journal lines old mid new bytes last h = record {
  count = h.count;
  holds = h.holds;
  whole_lines = h.whole_lines;
  stand = h.stand;
  printed = printed_most old mid new (told_of (take h.whole_lines lines)) last h.printed;
}

-- what stands, by what was planned
front_held : (limits : LimitNumbers) (journal : Journal) (lines : List (List Event)) (old mid new : Seen) (told : Option (List ℕ)) (planned : Result own.Reply Stop) → Appends mid.out.taken new.out.taken []
    → IfOk planned (λ p. Appends old.out.taken mid.out.taken (told_of lines)) → StandsIn limits journal lines told old.out mid.out planned
    → (bytes : List ℕ) × (told ≡ Some bytes) × HoldsPrinted limits journal lines old new bytes
front_held limits journal lines old mid new told (Ok p) last sent s = (s.0, s.1, all_held limits journal lines old mid new s.0 last sent s.2)
front_held limits journal lines old mid new told (Err why) last sent s = (s.bytes, s.told_is, stopped_held limits journal lines old mid new told why last s)

-- the disk failed
fails_to_keep : (limits : LimitNumbers) (journal : Journal) (lines : List (List Event)) (old mid new : Seen) → CountByBatches limits lines → new.out ≡ mid.out
    → StopsIn limits journal lines new.disk.bytes old.out mid.out stop.Disk → FailsToKeep limits journal lines old new
fails_to_keep limits journal lines old mid new counts same s =
    let d = s.disk refl in
    record {
      told_lines = s.whole_lines;
      sends = subst (λ (o : SinkSeen). Sends old.out.taken o.taken o.flushed (told_of (take s.whole_lines lines))) (sym same) d.0;
      last = λ bytes count n told holds few within stand.
          let at : s.bytes ≡ bytes = some_is s.bytes bytes (sym s.told_is ∙ told) in
          last_line limits journal lines bytes s.count count s.whole_lines n counts (subst (HoldsFront limits journal lines s.count) at s.holds) holds s.few few d.1 within stand;
    }

module _ {D : Type 0} (may_leave : D → List ℕ → Type 0) (moment : D → ℕ) (left_since : D → ℕ → List ℕ → Type 0) (limits : LimitNumbers) (journal : Journal) (lines : List (List Event))
    (old mid new : Seen) (disk disk' : D) (planned : Result own.Reply Stop) (code : ℕ)
    (kept : KeepsJournal may_leave moment left_since limits journal lines disk disk' old.disk.bytes new.disk.bytes old.out mid.out planned)
    (sent : IfOk planned (λ p. Appends old.out.taken mid.out.taken (told_of lines))) (traces : Traces planned old mid new code) where
  stands : (r : Result own.Reply Stop) → planned ≡ r → StandsIn limits journal lines new.disk.bytes old.out mid.out r
  stands r is = subst (StandsIn limits journal lines new.disk.bytes old.out mid.out) is kept.stands

  pub keeps_so : CountByBatches limits lines → Keeps limits journal lines old new code
  keeps_so counts = record {
    whole = λ n6 n8. let r = traces.reply n6 n8 in stands (Ok r.0) r.1;
    front = front_held limits journal lines old mid new new.disk.bytes planned traces.grows sent kept.stands;
    source = λ rose.
        let s = stands (Err (stop.Fault fault_is.Source)) (traces.source rose) in
        let none : HoldsFront limits journal lines 0 s.bytes = subst (λ n. HoldsFront limits journal lines n s.bytes) (s.source refl) s.holds in
        (s.bytes, s.told_is, subst (λ (bs : List (List Event)). AreBatches limits.body s.bytes bs journal.bad) (append-nil journal.batches) none);
    disk = λ rose. let d = traces.disk rose in fails_to_keep limits journal lines old mid new counts d.1 (stands (Err stop.Disk) d.0);
  }

  done_so : code ≡ 0 → (bytes : List ℕ) → may_leave disk' bytes → IsJournal limits bytes (with_lines limits journal lines)
  done_so zero bytes may =
      let r = traces.reply (λ six. omega (arith, zero, six)) (λ eight. omega (arith, zero, eight)) in
      let done : reply_status r.0 ≡ 0 → (bytes : List ℕ) → may_leave disk' bytes → IsJournal limits bytes (with_lines limits journal lines) =
      subst (λ x. IfOk x (λ p. reply_status p ≡ 0 → (bytes : List ℕ) → may_leave disk' bytes → IsJournal limits bytes (with_lines limits journal lines))) r.1 kept.done in
      done (r.2 ∙ zero) bytes may

  -- a reply that is done leaves all lines, whatever became of it
  replied_so : (p : own.Reply) → planned ≡ Ok p → reply_status p ≡ 0 → (bytes : List ℕ) → may_leave disk' bytes → HoldsPrinted limits journal lines old new bytes
  replied_so p is zero bytes may =
      let done : reply_status p ≡ 0 → (bytes : List ℕ) → may_leave disk' bytes → IsJournal limits bytes (with_lines limits journal lines) =
      subst (λ x. IfOk x (λ p. reply_status p ≡ 0 → (bytes : List ℕ) → may_leave disk' bytes → IsJournal limits bytes (with_lines limits journal lines))) is kept.done in
      let all : Appends old.out.taken mid.out.taken (told_of lines) = subst (λ x. IfOk x (λ p. Appends old.out.taken mid.out.taken (told_of lines))) is sent in
      all_held limits journal lines old mid new bytes traces.grows all (done zero bytes may)

  pub safe_so : IsSafe may_leave moment left_since limits journal lines old new disk disk' code
  safe_so = record {
    printed = λ bytes may. elim traces.last [
      | inl r ↦ inl (replied_so r.0 r.1 r.2 bytes may)
      | inr same ↦ elim (kept.crashes bytes may) [ inl h ↦ inl (told_held limits journal lines old mid new bytes traces.grows h) | inr h ↦ inr (same ∙ h.0, h.1) ]
    ];
    done = done_so;
    inside = kept.inside;
  }

-- ---- where nothing is to be kept

-- what is said of an output that nothing is printed on is said of any
pub kept_none : {D : Type 0} (may_leave : D → List ℕ → Type 0) (moment : D → ℕ) (left_since : D → ℕ → List ℕ → Type 0) (limits : LimitNumbers) (journal : Journal) (disk disk' : D)
    (told told' : Option (List ℕ)) (one out : SinkSeen) (planned : Result own.Reply Stop) → KeepsJournal may_leave moment left_since limits journal [] disk disk' told told' one one planned
    → KeepsJournal may_leave moment left_since limits journal [] disk disk' told told' out out planned
kept_none may_leave moment left_since limits journal disk disk' told told' one out planned k = record {
  stands = stands_none planned k.stands;
  crashes = λ bytes may. elim (k.crashes bytes may) [
    | inl h ↦ inl (record { count = h.count; holds = h.holds; whole_lines = 0; stand = omega arith; printed = grows_none out.taken [] })
    | inr h ↦ inr (refl, h.1)
  ];
  done = k.done;
  inside = k.inside;
}
  where
    stands_none : (r : Result own.Reply Stop) → StandsIn limits journal [] told' one one r → StandsIn limits journal [] told' out out r
    stands_none (Ok p) s = s
    stands_none (Err why) s = record {
      bytes = s.bytes;
      told_is = s.told_is;
      count = s.count;
      few = s.few;
      holds = s.holds;
      whole_lines = 0;
      stand = omega arith;
      printed = grows_none out.taken [];
      disk = λ is. ((Appends-nil out.taken, inl refl), s.few);
      source = s.source;
    }
