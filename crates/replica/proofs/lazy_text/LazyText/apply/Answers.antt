use Rattle.std.proofs.Common.{◌≡◌, true, false, ◌∙◌, [], ◌++◌, ℕ, List, OnOk, ap, sym, subst, append_assoc}
use Rattle.ew_model.specs.declared.text_op.TextOp.{TextOp}
use Rattle.ew_model.specs.Operations.{changed_by_all}
use Rattle.replica.specs.LazyTexts.{IsTellable, ToldText, characters_of, is_made}
use Rattle.replica.specs.declared.lazy_text.Form.TheVariants.{Told}
use Rattle.replica.proofs.Joined.{told_all, told_more}
use Rattle.replica.proofs.lazy_text.LazyText.apply.Goals as goal
use Rattle.replica.proofs.lazy_text.LazyText.apply.Goals.{in-Made, in-Told+in_ok-extend_from_slice-in-Told}

pub invariant_of-self-2 : goal.invariant_of-self-2
invariant_of-self-2 c =
    elim c.match-self.branch [
      | in-Made w ↦ rw w.self-inside-is tt
      | in-Told+in_ok-extend_from_slice-in-Told w ↦
          (let old : IsTellable (Told w.in-Told.ops w.in-Told.more w.in-Told.len w.in-Told.grown) = subst IsTellable w.in-Told.is c.self.invariant in
          let now : changed_by_all (w.in-Told.ops ++ w.in-Told.more.items) [] ≡ c.args.self.now.characters = sym (ap characters_of w.in-Told.is) ∙ ap (λ (t : ToldText). t.characters) c.self.view_is in
          rw w.self-inside-is
          (told_more (w.in-Told.ops ++ w.in-Told.more.items) c.args.changes.now (w.in-Told.ops ++ w.extend_from_slice.new.self.items) c.args.self.now.characters c.args.after (ap (λ (os : List TextOp). w.in-Told.ops ++ os) w.in_ok-extend_from_slice-in-Told.ensures.items ∙ sym (append_assoc w.in-Told.ops w.in-Told.more.items c.args.changes.now)) now old.0 old.1 c.requires.fit c.requires.short c.requires.long))
    ]

pub returns-clause-ok : goal.returns-clause-ok
returns-clause-ok c =
    elim c.match-self.branch [
      | in-Made w ↦
          (let now : w.in-Made.rope.chars ≡ c.args.self.now.characters = sym (ap characters_of w.in-Made.is) ∙ ap (λ (t : ToldText). t.characters) c.self.view_is in
          rw (w.result-is, w.self-inside-is) (subst (λ (t : List ℕ). OnOk w.apply.result (w.apply.new.self.chars ≡ changed_by_all c.args.changes.now t)) now w.apply.ensures.ok))
      | in-Told+in_ok-extend_from_slice-in-Told w ↦
          (let now : changed_by_all (w.in-Told.ops ++ w.in-Told.more.items) [] ≡ c.args.self.now.characters = sym (ap characters_of w.in-Told.is) ∙ ap (λ (t : ToldText). t.characters) c.self.view_is in
          rw (w.result-is, w.self-inside-is) (told_all (w.in-Told.ops ++ w.in-Told.more.items) c.args.changes.now (w.in-Told.ops ++ w.extend_from_slice.new.self.items) c.args.self.now.characters (ap (λ (os : List TextOp). w.in-Told.ops ++ os) w.in_ok-extend_from_slice-in-Told.ensures.items ∙ sym (append_assoc w.in-Told.ops w.in-Told.more.items c.args.changes.now)) now))
    ]

pub returns-clause-made : goal.returns-clause-made
returns-clause-made c =
    elim c.match-self.branch [
      | in-Made w ↦
          (let now : true ≡ c.args.self.now.made = sym (ap is_made w.in-Made.is) ∙ ap (λ (t : ToldText). t.made) c.self.view_is in
          rw w.self-inside-is now)
      | in-Told+in_ok-extend_from_slice-in-Told w ↦
          (let now : false ≡ c.args.self.now.made = sym (ap is_made w.in-Told.is) ∙ ap (λ (t : ToldText). t.made) c.self.view_is in
          rw w.self-inside-is now)
    ]
