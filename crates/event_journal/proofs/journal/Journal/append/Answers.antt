use Rattle.std.proofs.Common.{◌≡◌, ◌+◌, [], ◌∷◌, length, Some, sym, ap, subst, ◌∙◌, arith}
use Rattle.std.specs.Prelude.{IfSome}
use Rattle.peer_definitions.specs.Batches.{IsBatch}
use Rattle.event_journal.specs.Disk.{written, LeavesJust, StaysWithin}
use Rattle.event_journal.specs.Journal.{JournalSeen, IsKeptOn}
use Rattle.event_journal.specs.Writing.{staged, IsTornTwice}
use Rattle.event_journal.proofs.Adding.{at_each_moment, acknowledged, kept_after}
use Rattle.event_journal.proofs.journal.Journal.append.Goals as goal

pub returns-in-Ok-clause-kept : goal.returns-in-Ok-clause-kept
returns-in-Ok-clause-kept g c =
    let j = c.args.self.now in
    let piece = c.deref.result.now in
    let told = (g.D.Disk.seen c.args.disk.now).bytes in
    let now = (g.D.Disk.seen c.commit.new.disk).bytes in
    let most : c.body.result ≡ c.args.self.now.limits.body = omega (arith, c.body.ensures.value, ap (λ (x : JournalSeen). x.limits.body) c.self.view_is) in
    let place : c.self.inside.gate ≡ c.args.self.now.gate = omega (arith, ap (λ (x : JournalSeen). x.gate) c.self.view_is) in
    let size : length c.deref.result.now ≡ c.len.result = omega (arith, c.len.ensures, ap length c.deref.ensures.value) in
    let is_batch = subst (λ n. IsBatch n c.args.events.now) most c.in_ok-piece.ensures.batch in
    let bytes = subst (λ n. IfSome told (λ b. now ≡ Some (written (staged b n piece) n (1 ∷ [])))) place c.in-Ok.ensures.bytes in
    let after = kept_after j c.args.events.now piece is_batch (c.deref.ensures.value ∙ c.in_ok-piece.ensures.bytes) told now (g.D.Disk.may_leave c.args.disk.now) (g.D.Disk.may_leave c.commit.new.disk) (c.requires.kept (sym (ap (λ (x : JournalSeen). x.failed) c.self.view_is) ∙ c.if-self.false)) c.commit.ensures.untold bytes c.in-Ok.ensures.durable in
    let sized = subst (λ n. IsKeptOn (record { limits = j.limits; gate = j.gate + n; count = j.count + length c.args.events.now; failed = j.failed }) now (g.D.Disk.may_leave c.commit.new.disk)) size after in
    subst (λ (x : JournalSeen). IsKeptOn (record { limits = x.limits; gate = x.gate + c.len.result; count = x.count + length c.args.events.now; failed = x.failed }) now (g.D.Disk.may_leave c.commit.new.disk)) (sym c.self.view_is) sized

pub returns-in-Ok-clause-acknowledged : goal.returns-in-Ok-clause-acknowledged
returns-in-Ok-clause-acknowledged g c =
    let piece = c.deref.result.now in
    let told = (g.D.Disk.seen c.args.disk.now).bytes in
    let now = (g.D.Disk.seen c.commit.new.disk).bytes in
    let most : c.body.result ≡ c.args.self.now.limits.body = omega (arith, c.body.ensures.value, ap (λ (x : JournalSeen). x.limits.body) c.self.view_is) in
    let place : c.self.inside.gate ≡ c.args.self.now.gate = omega (arith, ap (λ (x : JournalSeen). x.gate) c.self.view_is) in
    let is_batch = subst (λ n. IsBatch n c.args.events.now) most c.in_ok-piece.ensures.batch in
    let bytes = subst (λ n. IfSome told (λ b. now ≡ Some (written (staged b n piece) n (1 ∷ [])))) place c.in-Ok.ensures.bytes in
    acknowledged c.args.self.now c.args.events.now piece is_batch (c.deref.ensures.value ∙ c.in_ok-piece.ensures.bytes) told now (g.D.Disk.may_leave c.args.disk.now) (g.D.Disk.may_leave c.commit.new.disk) (c.requires.kept (sym (ap (λ (x : JournalSeen). x.failed) c.self.view_is) ∙ c.if-self.false)) bytes c.in-Ok.ensures.durable

pub returns-in-Ok-clause-any_moment : goal.returns-in-Ok-clause-any_moment
returns-in-Ok-clause-any_moment g c = λ ready.
    let piece = c.deref.result.now in
    let told = (g.D.Disk.seen c.args.disk.now).bytes in
    let may = g.D.Disk.may_leave c.args.disk.now in
    let most : c.body.result ≡ c.args.self.now.limits.body = omega (arith, c.body.ensures.value, ap (λ (x : JournalSeen). x.limits.body) c.self.view_is) in
    let place : c.self.inside.gate ≡ c.args.self.now.gate = omega (arith, ap (λ (x : JournalSeen). x.gate) c.self.view_is) in
    let is_batch = subst (λ n. IsBatch n c.args.events.now) most c.in_ok-piece.ensures.batch in
    let within = subst (λ n. IfSome told (λ b. LeavesJust b may → StaysWithin g.D.Disk.moment g.D.Disk.left_since c.args.disk.now c.commit.new.disk (IsTornTwice n piece b))) place c.commit.ensures.any_moment in
    at_each_moment c.args.self.now c.args.events.now piece is_batch (c.deref.ensures.value ∙ c.in_ok-piece.ensures.bytes) g.D.Disk.moment g.D.Disk.left_since c.args.disk.now c.commit.new.disk told may (c.requires.kept ready) within

pub returns-clause-any_moment : goal.returns-clause-any_moment
returns-clause-any_moment g c = λ ready.
    let piece = c.deref.result.now in
    let told = (g.D.Disk.seen c.args.disk.now).bytes in
    let may = g.D.Disk.may_leave c.args.disk.now in
    let most : c.body.result ≡ c.args.self.now.limits.body = omega (arith, c.body.ensures.value, ap (λ (x : JournalSeen). x.limits.body) c.self.view_is) in
    let place : c.self.inside.gate ≡ c.args.self.now.gate = omega (arith, ap (λ (x : JournalSeen). x.gate) c.self.view_is) in
    let is_batch = subst (λ n. IsBatch n c.args.events.now) most c.in_ok-piece.ensures.batch in
    let within = subst (λ n. IfSome told (λ b. LeavesJust b may → StaysWithin g.D.Disk.moment g.D.Disk.left_since c.args.disk.now c.commit.new.disk (IsTornTwice n piece b))) place c.commit.ensures.any_moment in
    at_each_moment c.args.self.now c.args.events.now piece is_batch (c.deref.ensures.value ∙ c.in_ok-piece.ensures.bytes) g.D.Disk.moment g.D.Disk.left_since c.args.disk.now c.commit.new.disk told may (c.requires.kept ready) within
