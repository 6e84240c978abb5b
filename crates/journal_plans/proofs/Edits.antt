-- Edits that are done one after another, and what is kept of them.
use Rattle.std.proofs.Common.{◌≡◌, ℕ, List, [], ◌∷◌, ◌++◌, length, drop, Option, None, Some, Ok, Err, refl, sym, ap, subst, ◌∙◌, append_assoc, append-nil}
use Rattle.std.proofs.Math.Seq.{drop-append_seam}
use Rattle.ew_model.specs.declared.event.Event.{Event}
use Rattle.ew_model.specs.Edits.{Edit, EditRefusal, events_of_edit}
use Rattle.ew_model.specs.Edits.EditRefusal.{OutOfRange, TooManyHeads, Full}
use Rattle.ew_model.specs.Kept.{ReplicaState}
use Rattle.ew_model.specs.Limits.{LimitNumbers}
use Rattle.ew_model.specs.Scripts.{Numbered}
use Rattle.ew_outside.specs.Seen.{SinkSeen}
use Rattle.command_table.specs.Journals.{watch_end}
use Rattle.command_table.specs.Scripts.{Watched, then_kept, then_watched, watched_by}
use Rattle.opened_files.specs.declared.reply.Reply as code
use Rattle.opened_files.specs.Views.{reply_view}
use Rattle.line_plans.specs.Edits.{LineRefuses}
use Rattle.replica.specs.Answers.{EditsBy}
use Rattle.replica.specs.declared.fault.EditFault.{EditFault}
use Rattle.replica.specs.declared.fault.EditFault.TheVariants as fault
use Rattle.journal_plans.specs.Opening.{IsFresh}
use Rattle.journal_plans.specs.Keeping.{EndsAs, KeepsLines, kept_edits, made_lines}
use Rattle.journal_plans.specs.declared.open.Opened.{Opened}
use Rattle.journal_plans.specs.declared.stop.Stop.{Stop}
use Rattle.journal_plans.proofs.Keeping.{keeps_at_err, keeps_at_ok, keeps_empty, keeps_none, keeps_then, keeps_wider}

-- some lines are kept before what is kept then
abbrev pub with_kept : List (List Event) → Watched → Watched
with_kept lines w = record { kept = lines ++ w.kept; stopped = w.stopped }

made_first : (made : List Event) (more : Watched) → then_kept made more ≡ with_kept (made_lines made) more
made_first [] more = refl
made_first (e ∷ events) more = refl

module _ (agent : List ℕ) (line : ℕ) (e : Edit) (items : List (Numbered Edit)) (old new : ReplicaState) where
  abbrev all : List (Numbered Edit)
  all = record { line = line; item = e } ∷ items

  -- an edit that is done, and then the others
  pub edit_kept : (n before : ℕ) → before ≡ length old.held → EditsBy agent e old new (Ok n) → kept_edits agent old all ≡ with_kept (made_lines (drop before new.held)) (kept_edits agent new items)
  edit_kept n before count done =
      let made = events_of_edit old.held agent e in
      let behind : made ≡ drop before new.held = sym (ap (λ k. drop k new.held) count ∙ ap (λ (r : ReplicaState). drop (length old.held) r.held) done.1 ∙ drop-append_seam old.held made) in
      ap (λ o. then_watched line o made (watched_by old.limits agent (old.held ++ made) items)) done.0
      ∙ made_first made (watched_by old.limits agent (old.held ++ made) items)
      ∙ ap (λ m. with_kept (made_lines m) (watched_by old.limits agent (old.held ++ made) items)) behind
      ∙ ap (λ (r : ReplicaState). with_kept (made_lines (drop before new.held)) (kept_edits agent r items)) (sym done.1)

  -- an edit that is refused ends them
  pub edit_refused : (limits : LimitNumbers) (p : code.Reply) (f : EditFault) → EditsBy agent e old new (Err f) → LineRefuses limits line f (Ok p)
      → (at : ℕ × EditRefusal) × (kept_edits agent old all ≡ record { kept = []; stopped = Some at }) × (reply_view p ≡ watch_end limits (Some at))
  edit_refused limits p (fault.OutOfRange len) h told = ((line, OutOfRange len), ap (λ o. then_watched line o (events_of_edit old.held agent e) (watched_by old.limits agent (old.held ++ events_of_edit old.held agent e) items)) h.0, told)
  edit_refused limits p (fault.TooManyHeads heads) h told = ((line, TooManyHeads heads), ap (λ o. then_watched line o (events_of_edit old.held agent e) (watched_by old.limits agent (old.held ++ events_of_edit old.held agent e) items)) h.0, told)
  edit_refused limits p (fault.Full count) h told = ((line, Full count), ap (λ o. then_watched line o (events_of_edit old.held agent e) (watched_by old.limits agent (old.held ++ events_of_edit old.held agent e) items)) h.0, told)
  edit_refused limits p fault.OutOfMemory h told = absurd told

-- Of all edits some are done, and what they made is kept.
pub record KeptSoFar {D : Type 0} (may_leave : D → List ℕ → Type 0) (moment : D → ℕ) (left_since : D → ℕ → List ℕ → Type 0) (agent : List ℕ) (limits : LimitNumbers) (all rest : List (Numbered Edit)) (start now : Opened)
    (disk disk' : D) (told told' : Option (List ℕ)) (out out' : SinkSeen) : Type 0 where
  pub lines : List (List Event)
  pub parts : kept_edits agent start.replica all ≡ with_kept lines (kept_edits agent now.replica rest)
  pub keeps : KeepsLines {T = Unit {0}} may_leave moment left_since limits lines start.journal now.journal disk disk' told told' out out' (Ok tt)

-- a list with lines in front, and then more in front of what is behind these
with_more : (xs ys : List (List Event)) (w : Watched) → with_kept xs (with_kept ys w) ≡ with_kept (xs ++ ys) w
with_more xs ys w = ap (λ ls. record { kept = ls; stopped = w.stopped }) (sym (append_assoc xs ys w.kept))

module _ {D : Type 0} (may_leave : D → List ℕ → Type 0) (moment : D → ℕ) (left_since : D → ℕ → List ℕ → Type 0) (agent : List ℕ) (limits : LimitNumbers) (all : List (Numbered Edit)) (start : Opened) (disk : D)
    (told : Option (List ℕ)) (out : SinkSeen) where
  pub none_so_far : start.journal.limits ≡ limits → ((c : List ℕ) → left_since disk (moment disk) c → may_leave disk c) → KeptSoFar may_leave moment left_since agent limits all all start start disk disk told told out out
  none_so_far same only = record { lines = []; parts = refl; keeps = keeps_empty may_leave moment left_since limits [] start.journal disk told out tt refl same only }

  module _ (now : Opened) (at : D) (told' : Option (List ℕ)) (out' : SinkSeen) where
    -- what is kept where nothing more is made
    none_more : (rest : List (Numbered Edit)) (stopped : Option (ℕ × EditRefusal)) (h : KeptSoFar may_leave moment left_since agent limits all rest start now disk at told told' out out')
        → kept_edits agent now.replica rest ≡ record { kept = []; stopped = stopped } → kept_edits agent start.replica all ≡ record { kept = h.lines; stopped = stopped }
    none_more rest stopped h is = h.parts ∙ ap (with_kept h.lines) is ∙ ap (λ ls. record { kept = ls; stopped = stopped }) (append-nil h.lines)

    -- all edits are done
    pub done_ends : (rest : List (Numbered Edit)) → rest ≡ [] → KeptSoFar may_leave moment left_since agent limits all rest start now disk at told told' out out' → EndsAs limits (kept_edits agent start.replica all) (Ok None)
    done_ends rest none h = ap (λ (w : Watched). w.stopped) (none_more rest None h (ap (kept_edits agent now.replica) none))

    pub done_keeps : (rest : List (Numbered Edit)) → rest ≡ [] → KeptSoFar may_leave moment left_since agent limits all rest start now disk at told told' out out'
        → KeepsLines {T = Option code.Reply} may_leave moment left_since limits (kept_edits agent start.replica all).kept start.journal now.journal disk at told told' out out' (Ok None)
    done_keeps rest none h =
        subst (λ (w : Watched). KeepsLines {T = Option code.Reply} may_leave moment left_since limits w.kept start.journal now.journal disk at told told' out out' (Ok None)) (sym (none_more rest None h (ap (kept_edits agent now.replica) none)))
        (keeps_at_ok may_leave moment left_since limits h.lines start.journal now.journal disk at told told' out out' tt None h.keeps)

    module _ (line : ℕ) (e : Edit) (items rest : List (Numbered Edit)) (new : ReplicaState) (rest_is : rest ≡ record { line = line; item = e } ∷ items)
        (so_far_rest : KeptSoFar may_leave moment left_since agent limits all rest start now disk at told told' out out') where
      so_far : KeptSoFar may_leave moment left_since agent limits all (record { line = line; item = e } ∷ items) start now disk at told told' out out'
      so_far = subst (λ r. KeptSoFar may_leave moment left_since agent limits all r start now disk at told told' out out') rest_is so_far_rest

      -- a line is refused
      pub refused_ends : (p : code.Reply) (f : EditFault) → EditsBy agent e now.replica new (Err f) → LineRefuses limits line f (Ok p) → EndsAs limits (kept_edits agent start.replica all) (Ok (Some p))
      refused_ends p f by told =
          let stop = edit_refused agent line e items now.replica new limits p f by told in
          (stop.0, ap (λ (w : Watched). w.stopped) (none_more (record { line = line; item = e } ∷ items) (Some stop.0) so_far stop.1), stop.2)

      pub refused_keeps : (p : code.Reply) (f : EditFault) → EditsBy agent e now.replica new (Err f) → LineRefuses limits line f (Ok p)
          → KeepsLines {T = Option code.Reply} may_leave moment left_since limits (kept_edits agent start.replica all).kept start.journal now.journal disk at told told' out out' (Ok (Some p))
      refused_keeps p f by tells =
          let stop = edit_refused agent line e items now.replica new limits p f by tells in
          subst (λ (w : Watched). KeepsLines {T = Option code.Reply} may_leave moment left_since limits w.kept start.journal now.journal disk at told told' out out' (Ok (Some p)))
          (sym (none_more (record { line = line; item = e } ∷ items) (Some stop.0) so_far stop.1))
          (keeps_at_ok may_leave moment left_since limits so_far.lines start.journal now.journal disk at told told' out out' tt (Some p) so_far.keeps)

      -- something stopped them before the line
      pub halted_keeps : (why : Stop) → now.journal.limits ≡ limits → ((c : List ℕ) → left_since at (moment at) c → may_leave at c)
          → KeepsLines {T = Option code.Reply} may_leave moment left_since limits (kept_edits agent start.replica all).kept start.journal now.journal disk at told told' out out' (Err why)
      halted_keeps why same only =
          let more = kept_edits agent now.replica (record { line = line; item = e } ∷ items) in
          subst (λ (w : Watched). KeepsLines {T = Option code.Reply} may_leave moment left_since limits w.kept start.journal now.journal disk at told told' out out' (Err why)) (sym so_far.parts)
          (keeps_then may_leave moment left_since limits so_far.lines more.kept start.journal now.journal now.journal disk at at told told' told' out out' out' tt (Err why) so_far.keeps
          (keeps_none may_leave moment left_since limits more.kept now.journal at told' out' why same only))

      module _ (n before : ℕ) (count : before ≡ length now.replica.held) (done : EditsBy agent e now.replica new (Ok n)) (then : Opened) (after : D) (then_told : Option (List ℕ)) (then_out : SinkSeen) where
        parts_then : kept_edits agent start.replica all ≡ with_kept (so_far.lines ++ made_lines (drop before new.held)) (kept_edits agent new items)
        parts_then =
            so_far.parts ∙ ap (with_kept so_far.lines) (edit_kept agent line e items now.replica new n before count done) ∙ with_more so_far.lines (made_lines (drop before new.held)) (kept_edits agent new items)

        -- what the line made is kept
        pub next_kept : then.replica ≡ new
            → KeepsLines {T = Unit {0}} may_leave moment left_since limits (made_lines (drop before new.held)) now.journal then.journal at after told' then_told out' then_out (Ok tt)
            → KeptSoFar may_leave moment left_since agent limits all items start then disk after told then_told out then_out
        next_kept same keeps = record {
          lines = so_far.lines ++ made_lines (drop before new.held);
          parts = parts_then ∙ ap (λ (r : ReplicaState). with_kept (so_far.lines ++ made_lines (drop before new.held)) (kept_edits agent r items)) (sym same);
          keeps = keeps_then may_leave moment left_since limits so_far.lines (made_lines (drop before new.held)) start.journal now.journal then.journal disk at after told told' then_told out out' then_out tt (Ok tt) so_far.keeps keeps;
        }

        -- keeping it was stopped
        pub stopped_keeps : (why : Stop) → KeepsLines {T = Unit {0}} may_leave moment left_since limits (made_lines (drop before new.held)) now.journal then.journal at after told' then_told out' then_out (Err why)
            → KeepsLines {T = Option code.Reply} may_leave moment left_since limits (kept_edits agent start.replica all).kept start.journal then.journal disk after told then_told out then_out (Err why)
        stopped_keeps why keeps =
            let made = made_lines (drop before new.held) in
            let behind = (kept_edits agent new items).kept in
            let both = keeps_then may_leave moment left_since limits so_far.lines made start.journal now.journal then.journal disk at after told told' then_told out out' then_out tt (Err why) so_far.keeps keeps in
            subst (λ (w : Watched). KeepsLines {T = Option code.Reply} may_leave moment left_since limits w.kept start.journal then.journal disk after told then_told out then_out (Err why)) (sym parts_then)
            (keeps_at_err may_leave moment left_since limits ((so_far.lines ++ made) ++ behind) start.journal then.journal disk after told then_told out then_out why
            (keeps_wider may_leave moment left_since limits (so_far.lines ++ made) behind start.journal then.journal disk after told then_told out then_out why both))

-- what is open is of the same limits after an edit
pub fresh_next : (agent : List ℕ) (limits : LimitNumbers) (e : Edit) (n : ℕ) (now then : Opened) (new : ReplicaState) → IsFresh limits now → EditsBy agent e now.replica new (Ok n) → then.replica ≡ new
    → then.journal.limits ≡ now.journal.limits → then.journal.count ≡ length new.held → IsFresh limits then
fresh_next agent limits e n now then new fresh done same kept count = record {
  replica = ap (λ (r : ReplicaState). r.limits) (same ∙ done.1) ∙ fresh.replica;
  none_waits = ap (λ (r : ReplicaState). r.waiting) (same ∙ done.1) ∙ fresh.none_waits;
  journal = kept ∙ fresh.journal;
  counted = count ∙ ap (λ (r : ReplicaState). length r.held) (sym same);
}
