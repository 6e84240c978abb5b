-- Lines that only read come to sessions that store nothing.
use Rattle.std.proofs.Common.{◌≡◌, inl, inr, ℕ, List, length, false, Option, None, Some, refl, sym, ◌∙◌, ap}
use Rattle.std.proofs.lemmas.Bool.{false≢true}
use Rattle.ew_model.specs.declared.id.Id.{Id}
use Rattle.ew_model.specs.Edits.{EditRefusal}
use Rattle.ew_model.specs.Edits.EditRefusal.{OutOfRange, TooManyHeads, Full}
use Rattle.ew_model.specs.Limits.{LimitNumbers}
use Rattle.peer_definitions.specs.Machine as machine
use Rattle.peer_definitions.specs.Machine.{empty_network}
use Rattle.peer_definitions.specs.Machine.Refusal.{NoPeer, PeerTwice, NoPacket, NoEvent, NoEdit}
use Rattle.peer_definitions.specs.Making.{Made, made}
use Rattle.peer_definitions.specs.Making.Made.{Going, Stopped}
use Rattle.peer_definitions.specs.Runs.{RunOutcome, net_run}
use Rattle.peer_definitions.specs.Runs.RunOutcome.{Ran, Broke}
use Rattle.ew_model.specs.declared.event.Event.{Event}
use Rattle.ew_model.specs.Texts.{text_at}
use Rattle.carets.specs.declared.caret.Caret.{Caret}
use Rattle.carets.specs.Sides.{caret_at}
use Rattle.command_table.specs.Journals.{watch_end, watch_script}
use Rattle.command_table.specs.Outcomes.{stored_by}
use Rattle.command_table.specs.Possible.{MayComeTo, MayNet, MayReplyTo, MayWatchOver}
use Rattle.command_table.specs.Reads.{may_store}
use Rattle.command_table.specs.Scripts.{NetReading, bad_net_line, net_script, Reading, bad_line, script, watched_by}
use Rattle.command_table.specs.Sessions.{Session}
use Rattle.command_table.specs.Table.{Text, Command, create, edit, show, merge, upgrade, undo, make, net, Line, does, serves, watches, exports, Listing, Reply, prints, Opened, opened, refused, line_refusal, make_reply, net_refusal, net_run_reply, net_script_reply, opened_as, over_events, show_reply, unknown_in, unless_unknown, content, past, head_ids, log, replay, numbers, question, marks, caret, blame, caret_reply, shown_reply}

module _ (limits : LimitNumbers) (n : ℕ) where
  caret_stores : (index len : ℕ) (events : List Event) (c : Option Caret) → stored_by (caret_reply index len events c) n ≡ n
  caret_stores index len events None = refl
  caret_stores index len events (Some c) = refl

  shown_stores : (listing : Listing) (events : List Event) → stored_by (shown_reply listing events) n ≡ n
  shown_stores content events = refl
  shown_stores (past version) events = refl
  shown_stores head_ids events = refl
  shown_stores log events = refl
  shown_stores replay events = refl
  shown_stores numbers events = refl
  shown_stores question events = refl
  shown_stores marks events = refl
  shown_stores (caret version index) events = caret_stores index (length (text_at events version)) events (caret_at events version index)
  shown_stores (blame version columns) events = refl

  unless_stores : (o : Option Id) (reply : Reply) → stored_by reply n ≡ n → stored_by (unless_unknown o reply) n ≡ n
  unless_stores None reply stores = stores
  unless_stores (Some id) reply stores = refl

  show_stores : (listing : Listing) (o : Opened) → stored_by (over_events (show_reply listing) o) n ≡ n
  show_stores listing (opened events) = unless_stores (unknown_in listing events) (shown_reply listing events) (shown_stores listing events)
  show_stores listing (refused why) = refl

  make_stores : (m : Made) → stored_by (make_reply limits m) n ≡ n
  make_stores (Going m) = refl
  make_stores (Stopped (OutOfRange len)) = refl
  make_stores (Stopped (TooManyHeads heads)) = refl
  make_stores (Stopped (Full count)) = refl

  edit_stores : (line : ℕ) (why : EditRefusal) → stored_by (line_refusal limits line why) n ≡ n
  edit_stores line (OutOfRange len) = refl
  edit_stores line (TooManyHeads heads) = refl
  edit_stores line (Full count) = refl

  step_stores : (line : ℕ) (why : machine.Refusal) → stored_by (net_refusal limits line why) n ≡ n
  step_stores line (NoPeer name) = refl
  step_stores line (PeerTwice name) = refl
  step_stores line (NoPacket packet) = refl
  step_stores line (NoEvent id) = refl
  step_stores line (NoEdit why) = edit_stores line why

  steps_store : (o : RunOutcome) → stored_by (net_run_reply limits o) n ≡ n
  steps_store (Ran printed) = refl
  steps_store (Broke line why) = step_stores line why

  script_stores : (reading : NetReading) → stored_by (net_script_reply limits reading) n ≡ n
  script_stores (bad_net_line line) = refl
  script_stores (net_script steps) = steps_store (net_run (empty_network limits) steps)

  net_stores : (reply : Reply) → MayNet limits reply → stored_by reply n ≡ n
  net_stores reply (inl long) = ap (λ r. stored_by r n) long
  net_stores reply (inr may) = ap (λ r. stored_by r n) may.4 ∙ script_stores may.1

  command_stores : (command : Command) (reply : Reply) → may_store (Some (does command)) ≡ false → MayReplyTo command limits reply → stored_by reply n ≡ n
  command_stores (create name) reply only may = absurd (false≢true (sym only))
  command_stores (edit name agent) reply only may = absurd (false≢true (sym only))
  command_stores (show listing name) reply only may = ap (λ r. stored_by r n) may.1 ∙ show_stores listing (opened_as name limits may.0)
  command_stores (merge name other) reply only may = absurd (false≢true (sym only))
  command_stores (upgrade name) reply only may = absurd (false≢true (sym only))
  command_stores (undo name agent first count) reply only may = absurd (false≢true (sym only))
  command_stores (make seed count) reply only may = ap (λ r. stored_by r n) may ∙ make_stores (made limits seed count)
  command_stores net reply only may = net_stores reply may

  ends_store : (stopped : Option (ℕ × EditRefusal)) → stored_by (watch_end limits stopped) n ≡ n
  ends_store None = refl
  ends_store (Some (line, OutOfRange len)) = refl
  ends_store (Some (line, TooManyHeads heads)) = refl
  ends_store (Some (line, Full count)) = refl

  watched_stores : (agent : Text) (events : List Event) (reading : Reading) → stored_by (watch_script agent limits events reading).session.closing n ≡ n
  watched_stores agent events (bad_line line) = refl
  watched_stores agent events (script edits) = ends_store (watched_by limits agent events edits).stopped

  watch_stores : (agent : Text) (o : Opened) (s : Session) → MayWatchOver agent limits o s → stored_by s.closing n ≡ n
  watch_stores agent (refused why) s may = ap (λ (x : Session). stored_by x.closing n) may
  watch_stores agent (opened events) s (inl long) = ap (λ (x : Session). stored_by x.closing n) long
  watch_stores agent (opened events) s (inr may) = ap (λ (x : Session). stored_by x.closing n) may.4 ∙ watched_stores agent events may.1

  pub reads_alone : (l : Option Line) (s : Session) → may_store l ≡ false → MayComeTo l limits s → stored_by s.closing n ≡ n
  reads_alone None s only may = ap (λ (x : Session). stored_by x.closing n) may
  reads_alone (Some (does command)) s only may = ap (λ (x : Session). stored_by x.closing n) may.2 ∙ command_stores command may.0 only may.1
  reads_alone (Some (serves file)) s only may = absurd (false≢true (sym only))
  reads_alone (Some (watches agent)) s only may = watch_stores agent may.0 s may.2
  reads_alone (Some (exports file)) s only may = absurd (false≢true (sym only))
