use Rattle.std.proofs.Common.{◌≡◌, ℕ, List, sym, ap, subst, ◌∙◌}
use Rattle.ew_model.specs.declared.id.Id.{Id}
use Rattle.history_definitions.specs.Versions.{IsVersion}
use Rattle.script_reader.specs.declared.version.VersionTextFault.TheVariants.{Unreadable, OutOfMemory}
use Rattle.command_table.proofs.VersionReading.{takes, not_taken}
use Rattle.command_reader.proofs.words.version_in.Goals as goal

pub returns-in-Ok : goal.returns-in-Ok
returns-in-Ok c =
    let version : IsVersion c.args.word.now c.in-Ok.version.items = subst (λ (bytes : List ℕ). IsVersion bytes c.in-Ok.version.items) c.as_bytes.ensures.value c.in-Ok.ensures.version in
    sym (takes c.args.word.now c.in-Ok.version.items version)

two_faults : Unreadable ≡ OutOfMemory → ⊥
two_faults e = cc

pub returns-in-Err-Unreadable : goal.returns-in-Err-Unreadable
returns-in-Err-Unreadable c =
    let none : (ids : List Id) → ¬ IsVersion c.args.word.now ids =
    λ ids version. two_faults (sym c.in-Err-Unreadable.field-0-is ∙ c.in-Err-Unreadable.ensures.read ids (subst (λ (bytes : List ℕ). IsVersion bytes ids) (sym c.as_bytes.ensures.value) version)) in
    sym (not_taken c.args.word.now none)
