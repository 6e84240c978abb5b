use Rattle.std.proofs.Common.{◌≡◌, ◌↔◌, ◌∙◌, ◌-◌, suc, length, Bool, true, sym, arith}
use Rattle.ew_model.specs.declared.id.Id.{Id}
use Rattle.ew_model.proofs.IdLaws.{is_same_id}
use Rattle.ew_model.proofs.ListTests.{same_truth}
use Rattle.agent_ids.specs.IdRuns.{id_with, is_next, last_of}
use Rattle.agent_ids.proofs.RunLists.{run_within, last_goes_on}
use Rattle.agent_ids.proofs.runs.goes_on.Goals as goal

next_told : (b : Bool) (x y : Id) → ((b ≡ true) ↔ (y ≡ id_with x.agent (suc x.seq))) → b ≡ is_next x y
next_told b x y h =
    let same = is_same_id (id_with x.agent (suc x.seq)) y in
    same_truth b (is_next x y) (λ e. same.1 (sym (h.0 e))) (λ e. h.1 (sym (same.0 e)))

pub is_behind-requires : goal.is_behind-requires
is_behind-requires c =
    let runs = c.args.runs.now in
    (run_within runs 0 c.requires.0 (length runs - 1) c.in-Some.run'.now c.requires.1 (sym c.in-Some.ensures.value)).2

pub returns-in-Some : goal.returns-in-Some
returns-in-Some c =
    let runs = c.args.runs.now in
    let some = c.in-Some.ensures.item.3.0 in
    next_told c.is_behind.result (last_of c.in-Some.run'.now) c.args.id.now c.is_behind.ensures
    ∙ sym (last_goes_on runs (length runs - 1) c.in-Some.run'.now c.args.id.now (omega (arith, some)) (sym c.in-Some.ensures.value))
