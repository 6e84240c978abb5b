-- What a session sent, and what it printed at last.
use Rattle.std.proofs.Common.{◌≡◌, ◌<◌, ◌⊎◌, inl, inr, ℕ, List, [], ◌++◌, refl, sym, ◌∙◌, ap, subst, arith, Option, Result, Ok, Err, string_bytes}
use Rattle.std.specs.Io.KnownBytes.{Appends}
use Rattle.std.proofs.KnownBytes.{Appends-trans}
use Rattle.ew_outside.specs.Bytes.{IsFlushed}
use Rattle.ew_outside.specs.Counts.{IsQuiet}
use Rattle.ew_outside.specs.Outputs.{GrowsByFront, Sends}
use Rattle.command_table.specs.Sessions.{Session, printed_by}
use Rattle.command_table.specs.Outcomes.{IsClosed, IsSession, FailsToStore, stored_by}
use Rattle.command_table.specs.Seen.{Seen, Object, shelf, disk, source, sink, TellsErr}
use Rattle.command_table.specs.Table.{Line}
use Rattle.opened_files.specs.Views.{reply_view}
use Rattle.opened_files.specs.declared.reply.Reply as own
use Rattle.opened_files.specs.declared.reply.Reply.TheVariants as reply_is
use Rattle.ew_outside.specs.declared.fault.Fault.{Fault}
use Rattle.serve_plans.specs.Plans.{FollowsSession}
use Rattle.ew_outside.proofs.Outputs.{front_of_all, then_front}
use Rattle.command_runs.specs.Endings.{out_of}
use Rattle.command_runs.proofs.Faults.{quiet_not_rose}
use Rattle.command_runs.proofs.Replies.{printed}
use Rattle.command_runs.proofs.Courses.{BrokenOff, IsDoing, IsStoring, Course, Done, Refused, Stopped, Landed, Broken, Starved}
use Rattle.journal_plans.proofs.Keeping.{grows_wider}

-- what was sent by then is a front of what the session sends, or all of it
pub sends_front : (s : Session) (planned : Result own.Reply Fault) (out out' : Option (List ℕ)) (flushed : Option ℕ) → FollowsSession s out out' flushed planned
    → GrowsByFront out out' s.sent
sends_front s (Ok p) out out' flushed h = front_of_all out out' s.sent h.1.0
sends_front s (Err x) out out' flushed h = h

-- the plan that closes the session
pub follows_plan : (s : Session) (planned : Result own.Reply Fault) (p : own.Reply) (out out' : Option (List ℕ)) (flushed : Option ℕ) → planned ≡ Ok p
    → FollowsSession s out out' flushed planned
    → (reply_view p ≡ s.closing) × Sends out out' flushed s.sent
follows_plan s planned p out out' flushed is h = subst (FollowsSession s out out' flushed) is h

kept_out : (a b c : Option (List ℕ)) (bytes : List ℕ) → Appends a b bytes → c ≡ b → Appends a c bytes
kept_out a b c bytes all same = subst (λ x. Appends a x bytes) (sym same) all

kept_front : (a b c : Option (List ℕ)) (bytes : List ℕ) → GrowsByFront a b bytes → c ≡ b → GrowsByFront a c bytes
kept_front a b c bytes g same = subst (λ x. GrowsByFront a x bytes) (sym same) g

-- a plan that was carried out closes the session
closes_done : (p : own.Reply) (sent : List ℕ) (old new : Seen) (code : ℕ) → IsDoing p → code ≡ 0 → Appends old.out.taken new.out.taken (sent ++ out_of p) → TellsErr old new []
    → IsClosed sent (reply_view p) old new code
closes_done (reply_is.Prints out) sent old new code doing zero all text = (zero, all, text)
closes_done (reply_is.Stores out to bytes) sent old new code doing zero all text = (zero, all, text)
closes_done (reply_is.Refuses why) sent old new code doing zero all text = absurd doing

-- what was printed at last is a front of what is to be printed
prints_front : (s : Session) (p : own.Reply) (old mid new : Seen) (flushed : Option ℕ) → (reply_view p ≡ s.closing) × Sends old.out.taken mid.out.taken flushed s.sent
    → GrowsByFront mid.out.taken new.out.taken (out_of p)
    → GrowsByFront old.out.taken new.out.taken (s.sent ++ printed_by s.closing)
prints_front s p old mid new flushed h g =
    let is : out_of p ≡ printed_by s.closing = sym (printed p) ∙ ap printed_by h.0 in
    subst (λ x. GrowsByFront old.out.taken new.out.taken (s.sent ++ x)) is (then_front old.out.taken mid.out.taken new.out.taken s.sent (out_of p) h.1.0 g)

-- a session that was broken off while the shelf failed had a load that failed
not_failed_loads : (l : Option Line) (object : Object) (old mid new : Seen) (code : ℕ) → BrokenOff l object old mid new code → old.shelf.faults < new.shelf.faults → IsQuiet old.shelf.failed_loads new.shelf.failed_loads → ⊥
not_failed_loads l shelf old mid new code h rose quiet = quiet_not_rose _ _ quiet (h.load refl)
not_failed_loads l disk old mid new code h rose quiet = let same = h.struck.others shelf (λ bad. cc) in omega (arith, same, rose)
not_failed_loads l source old mid new code h rose quiet = let same = h.struck.others shelf (λ bad. cc) in omega (arith, same, rose)
not_failed_loads l sink old mid new code h rose quiet = let same = h.struck.others shelf (λ bad. cc) in omega (arith, same, rose)

-- a plan whose store failed
fails_to_store : (s : Session) (p : own.Reply) (old mid new : Seen) → IsStoring p → (reply_view p ≡ s.closing) × Sends old.out.taken mid.out.taken mid.out.flushed s.sent
    → new.out.taken ≡ mid.out.taken → new.out.flushed ≡ mid.out.flushed → FailsToStore s old new
fails_to_store s (reply_is.Stores out to bytes) old mid new storing f same kept = record {
  out = out.items;
  name = string_bytes to;
  bytes = bytes.items;
  closing = sym f.0;
  sends = subst (λ n. Sends old.out.taken new.out.taken n s.sent) (sym kept) (subst (λ x. Sends old.out.taken x mid.out.flushed s.sent) (sym same) f.1);
}
fails_to_store s (reply_is.Prints out) old mid new storing f same kept = absurd storing
fails_to_store s (reply_is.Refuses why) old mid new storing f same kept = absurd storing

module _ (l : Option Line) (s : Session) (planned : Result own.Reply Fault) (old mid new : Seen) (code : ℕ) (follows : FollowsSession s old.out.taken mid.out.taken mid.out.flushed planned) where
  front : GrowsByFront old.out.taken mid.out.taken s.sent
  front = sends_front s planned old.out.taken mid.out.taken mid.out.flushed follows

  by_plan : (p : own.Reply) → planned ≡ Ok p → (reply_view p ≡ s.closing) × Sends old.out.taken mid.out.taken mid.out.flushed s.sent
  by_plan p is = follows_plan s planned p old.out.taken mid.out.taken mid.out.flushed is follows

  closed_so : Course l planned old mid new code → (code ≡ 6 → ⊥) → (code ≡ 8 → ⊥) → IsClosed s.sent s.closing old new code
  closed_so (Done p is h) n6 n8 =
      let f = by_plan p is in
      subst (λ r. IsClosed s.sent r old new code) f.0
      (closes_done p s.sent old new code h.doing h.zero (Appends-trans old.out.taken mid.out.taken new.out.taken s.sent (out_of p) f.1.0 h.out) h.text)
  closed_so (Refused why is h) n6 n8 =
      let f = by_plan (reply_is.Refuses why) is in
      subst (λ r. IsClosed s.sent r old new code) f.0 (h.status_is, kept_out old.out.taken mid.out.taken new.out.taken s.sent f.1.0 h.out, h.text)
  closed_so (Stopped object x other named is h) n6 n8 = absurd (n6 h.six)
  closed_so (Landed p is h) n6 n8 = absurd (n6 h.six)
  closed_so (Broken p is h) n6 n8 = absurd (n6 h.six)
  closed_so (Starved h) n6 n8 = absurd (n8 h.eight)

  flushed_so : Course l planned old mid new code → (code ≡ 6 → ⊥) → (code ≡ 8 → ⊥) → (s.sent ≡ []) ⊎ IsFlushed new.out.taken new.out.flushed
  flushed_so (Done p is h) n6 n8 = inr h.flushed
  flushed_so (Refused why is h) n6 n8 =
      let f = by_plan (reply_is.Refuses why) is in
      elim f.1.1 [ inl none ↦ inl none | inr all ↦ inr (subst (λ x. IsFlushed x new.out.flushed) (sym h.out) (subst (IsFlushed mid.out.taken) (sym h.flushed) all)) ]
  flushed_so (Stopped object x other named is h) n6 n8 = absurd (n6 h.six)
  flushed_so (Landed p is h) n6 n8 = absurd (n6 h.six)
  flushed_so (Broken p is h) n6 n8 = absurd (n6 h.six)
  flushed_so (Starved h) n6 n8 = absurd (n8 h.eight)

  failed_so : Course l planned old mid new code → code ≡ 6 → GrowsByFront old.out.taken new.out.taken (s.sent ++ printed_by s.closing)
  failed_so (Done p is h) six = absurd (omega (arith, h.zero, six))
  failed_so (Refused why is h) six = absurd (omega (arith, h.refusal, h.status_is, six))
  failed_so (Stopped object x other named is h) six = grows_wider old.out.taken new.out.taken s.sent (printed_by s.closing) (kept_front old.out.taken mid.out.taken new.out.taken s.sent front h.out)
  failed_so (Landed p is h) six = grows_wider old.out.taken new.out.taken s.sent (printed_by s.closing) (kept_front old.out.taken mid.out.taken new.out.taken s.sent front h.out)
  failed_so (Broken p is h) six = prints_front s p old mid new mid.out.flushed (by_plan p is) h.out
  failed_so (Starved h) six = absurd (omega (arith, h.eight, six))

  store_failed_so : Course l planned old mid new code → old.shelf.faults < new.shelf.faults → IsQuiet old.shelf.failed_loads new.shelf.failed_loads → FailsToStore s old new
  store_failed_so (Done p is h) rose quiet = absurd (omega (arith, h.calm.shelf_same, rose))
  store_failed_so (Refused why is h) rose quiet = absurd (omega (arith, h.calm.shelf_same, rose))
  store_failed_so (Stopped object x other named is h) rose quiet = absurd (not_failed_loads l object old mid new code h rose quiet)
  store_failed_so (Landed p is h) rose quiet = fails_to_store s p old mid new h.storing (by_plan p is) h.out h.flushed
  store_failed_so (Broken p is h) rose quiet = let same = h.struck.others shelf (λ bad. cc) in absurd (omega (arith, same, rose))
  store_failed_so (Starved h) rose quiet = absurd (omega (arith, h.calm.shelf_same, rose))

  starved_so : Course l planned old mid new code → code ≡ 8 → GrowsByFront old.out.taken new.out.taken s.sent
  starved_so (Done p is h) eight = absurd (omega (arith, h.zero, eight))
  starved_so (Refused why is h) eight = absurd (omega (arith, h.refusal, h.status_is, eight))
  starved_so (Stopped object x other named is h) eight = absurd (omega (arith, h.six, eight))
  starved_so (Landed p is h) eight = absurd (omega (arith, h.six, eight))
  starved_so (Broken p is h) eight = absurd (omega (arith, h.six, eight))
  starved_so (Starved h) eight = kept_front old.out.taken mid.out.taken new.out.taken s.sent front h.out

  stores_so : Course l planned old mid new code → code ≡ 0 → new.shelf.stores ≡ stored_by s.closing old.shelf.stores
  stores_so (Done p is h) zero = h.stores ∙ ap (λ r. stored_by r old.shelf.stores) (by_plan p is).0
  stores_so (Refused why is h) zero = absurd (omega (arith, h.refusal, h.status_is, zero))
  stores_so (Stopped object x other named is h) zero = absurd (omega (arith, h.six, zero))
  stores_so (Landed p is h) zero = absurd (omega (arith, h.six, zero))
  stores_so (Broken p is h) zero = absurd (omega (arith, h.six, zero))
  stores_so (Starved h) zero = absurd (omega (arith, h.eight, zero))

  stores_failed_so : Course l planned old mid new code → code ≡ 6 → (new.shelf.stores ≡ old.shelf.stores) ⊎ (new.shelf.stores ≡ stored_by s.closing old.shelf.stores)
  stores_failed_so (Done p is h) six = absurd (omega (arith, h.zero, six))
  stores_failed_so (Refused why is h) six = inl h.stores
  stores_failed_so (Stopped object x other named is h) six = inl h.stores
  stores_failed_so (Landed p is h) six = inr (h.stores ∙ ap (λ r. stored_by r old.shelf.stores) (by_plan p is).0)
  stores_failed_so (Broken p is h) six = inr (h.stores ∙ ap (λ r. stored_by r old.shelf.stores) (by_plan p is).0)
  stores_failed_so (Starved h) six = inl h.stores

  -- where the session stores nothing, nothing was stored
  pub stores_none_so : Course l planned old mid new code → ((n : ℕ) → stored_by s.closing n ≡ n) → new.shelf.stores ≡ old.shelf.stores
  stores_none_so (Done p is h) none = h.stores ∙ ap (λ r. stored_by r old.shelf.stores) (by_plan p is).0 ∙ none old.shelf.stores
  stores_none_so (Refused why is h) none = h.stores
  stores_none_so (Stopped object x other named is h) none = h.stores
  stores_none_so (Landed p is h) none = h.stores ∙ ap (λ r. stored_by r old.shelf.stores) (by_plan p is).0 ∙ none old.shelf.stores
  stores_none_so (Broken p is h) none = h.stores ∙ ap (λ r. stored_by r old.shelf.stores) (by_plan p is).0 ∙ none old.shelf.stores
  stores_none_so (Starved h) none = h.stores

  pub is_session : Course l planned old mid new code → IsSession s old new code
  is_session k = record {
    answered = closed_so k;
    flushed = flushed_so k;
    failed = failed_so k;
    store_failed = store_failed_so k;
    memory = starved_so k;
    stores = stores_so k;
    stores_failed = stores_failed_so k;
  }
