use Rattle.std.proofs.Common.{◌≡◌, ℕ, suc, ◌+◌, [], ◌∷◌, ◌++◌, refl, ap, ◌∙◌, sym, arith}
use Rattle.std.specs.Prelude.{slice_get, Ok}
use Rattle.ew_model.specs.declared.id.Id.{Id}
use Rattle.ew_model.specs.Ancestors.{ids_of, is_held}
use Rattle.event_file.specs.Known.{known_by, id_by}
use Rattle.event_file.proofs.GoingOn.{record_behind}
use Rattle.event_file.proofs.progress.Progress.go_on.Goals as goal

pub returns-clause-some : goal.returns-clause-some
returns-clause-some c =
    let k = c.args.self.now in
    let last = c.in_ok-position.last in
    let x = id_by k.agents last in
    let is = c.in_ok-position.ensures in
    let begins = c.if-not-begins.ensures refl in
    let one : last.seq + 1 ≡ suc last.seq = omega arith in
    let seq : c.in_ok-checked_add.field-0 ≡ suc last.seq = c.in_ok-checked_add.ensures.1 ∙ one in
    let with_seq : ℕ → Id = λ n. record { agent = x.agent; seq = n } in
    let kept = c.if-not-keep_next.ensures in
    record {
      last = x;
      is_last = ap (slice_get (ids_of k.events)) (sym is.position_is) ∙ is.at;
      read = record_behind k.agents k.events x c.in_ok-op.op last.agent c.in_ok-position.position c.args.input.now.left.now begins.behind_place begins.behind_seq begins.behind_count c.begins.new.self.left.now c.insertion_or_deletion.new.self.left.now
          begins.place_read is.is_open
          (begins.seq_read ∙ ap (λ n. Ok (n, begins.behind_seq)) seq) (ap (λ n. is_held k.events (with_seq n)) (sym seq) ∙ kept.new refl)
          begins.count_read begins.position_read is.at c.in_ok-op.ensures;
      kept = kept.yes refl ∙ ap (λ n. record { agents = k.agents; events = k.events ++ known_by (with_seq n) ∷ [] }) seq;
    }
