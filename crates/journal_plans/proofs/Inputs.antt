-- A watch by how its input was read.
use Rattle.std.proofs.Common.{◌≡◌, inl, ℕ, Bool, true, false, nat_lt, if◌then◌else◌, List, length, Option, Some, Ok, Err, refl, sym, ap, subst, ◌∙◌}
use Rattle.std.specs.Prelude.{IfSome}
use Rattle.ew_model.specs.declared.event.Event.{Event}
use Rattle.ew_model.specs.Limits.{LimitNumbers}
use Rattle.ew_outside.specs.Seen.{SinkSeen}
use Rattle.command_table.specs.Journals.{Journal, Watch, keeps_nothing, open_journal, watch, watch_input, watch_opened, watch_script}
use Rattle.command_table.specs.Possible.{MayWatch}
use Rattle.command_table.specs.Refusals.{input_too_long, journal_too_many}
use Rattle.command_table.specs.Scripts.{Reading}
use Rattle.command_table.specs.Sessions.{Session, closed_by}
use Rattle.command_table.specs.Table.{Opened, Reply, refused, refuses}
use Rattle.opened_files.specs.declared.reply.Reply as code
use Rattle.opened_files.specs.Views.{reply_view}
use Rattle.line_plans.specs.Inputs.{Bytes, too_long, whole, input_of}
use Rattle.journal_plans.specs.Watching.{FollowsWatch}
use Rattle.journal_plans.specs.declared.stop.Stop.{Stop}
use Rattle.journal_plans.proofs.Keeping.{grows_none}
use Rattle.journal_plans.proofs.Watching.{sends_nothing}

-- ---- how long the input is

is_long : (b : Bool) (bytes : List ℕ) → too_long ≡ (if b then too_long else whole bytes) → b ≡ true
is_long true bytes is = refl
is_long false bytes is = absurd cc

-- what is said of an input that is told
pub found_of : (left : Option (List ℕ)) (input : List ℕ) (most : ℕ) (view : Bytes) → left ≡ Some input → IfSome left (λ xs. view ≡ input_of most xs) → view ≡ input_of most input
found_of left input most view is h = subst (λ o. IfSome o (λ xs. view ≡ input_of most xs)) is h

module _ (agent : List ℕ) (limits : LimitNumbers) (held : List Event) (most : ℕ) (most_is : most ≡ limits.input) (input : List ℕ) (reading : Reading) where
  pub watch_long : too_long ≡ input_of most input → watch_input agent limits input reading held ≡ keeps_nothing (refuses (input_too_long limits.input))
  watch_long is =
      let long : nat_lt limits.input (length input) ≡ true = ap (λ n. nat_lt n (length input)) (sym most_is) ∙ is_long (nat_lt most (length input)) input is in
      ap (λ (b : Bool). if b then keeps_nothing (refuses (input_too_long limits.input)) else watch_script agent limits held reading) long

-- ---- the output, where nothing is printed

pub follows_nothing : (w : Watch) (out : SinkSeen) (p : code.Reply) (reply : Reply) → w ≡ keeps_nothing reply → reply_view p ≡ reply → FollowsWatch w.session out out (Ok p)
follows_nothing w out p reply is view = subst (λ (x : Watch). FollowsWatch x.session out out (Ok p)) (sym is) (view, sends_nothing out)

pub follows_stop : (s : Session) (out : SinkSeen) (why : Stop) → FollowsWatch s out out (Err why)
follows_stop s out why = grows_none out.taken out.taken s.sent refl

-- some session was stopped
pub some_stop : (agent : List ℕ) (limits : LimitNumbers) (out : SinkSeen) (why : Stop) → (s : Session) × MayWatch agent limits s × FollowsWatch s out out (Err why)
some_stop agent limits out why =
    let r = journal_too_many limits.events in
    (closed_by (refuses r), (refused r, inl refl, refl), follows_stop (closed_by (refuses r)) out why)

-- a watch over a journal that was opened so
pub watch_over : (agent : List ℕ) (limits : LimitNumbers) (j : Journal) (xs : List ℕ) (reading : Reading) (o : Opened) → o ≡ open_journal limits j → watch_opened agent limits xs reading o ≡ watch agent limits j xs reading
watch_over agent limits j xs reading o is = ap (watch_opened agent limits xs reading) is
