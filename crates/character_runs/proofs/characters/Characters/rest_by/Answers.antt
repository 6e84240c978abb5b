use Rattle.std.proofs.Common.{refl, sym, ap, ◌∙◌}
use Rattle.character_runs.specs.States.{shown_in}
use Rattle.character_runs.specs.Laid.{chars_in}
use Rattle.character_runs.proofs.RestedRuns.{rested_shown}
use Rattle.character_runs.proofs.Settled.{now_counted}
use Rattle.character_runs.proofs.characters.Characters.rest_by.Goals as goal

pub invariant_of-self : goal.invariant_of-self
invariant_of-self g c =
    let inside = c.self.inside in
    let again = c.rest-self-inside.ensures.counted in
    let so = now_counted inside.runs.tree.pairs c.settle.new.runs.tree.pairs inside.runs.labels c.settle.new.runs.labels inside.visible inside.shown inside.cursor inside.pending c.self.invariant c.settle.ensures.pairs c.settle.ensures.labels in
    record {
      counted = record {
        labelled = again.labelled;
        visible_is = again.visible_is;
        shown_is = so.shown_is ∙ sym (rested_shown (chars_in c.settle.new.runs.tree.pairs)) ∙ sym (ap shown_in c.rest-self-inside.ensures.chars);
        few = again.few;
      };
      cursor = tt;
      told = λ e. refl;
      few = again.few;
    }
