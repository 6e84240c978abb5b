use Rattle.std.proofs.Common.{◌≡◌, List, length, ◌≤◌, ◌^◌, refl, sym, ap, ◌∙◌, subst}
use Rattle.walker_record.specs.Stretches.{Stretch}
use Rattle.character_runs.specs.Laid.{InRuns, chars_in, in_runs}
use Rattle.character_runs.specs.States.{visible_in, shown_in}
use Rattle.character_runs.proofs.RunsAt.{same_chars}
use Rattle.character_runs.proofs.Settled.{now_counted}
use Rattle.character_runs.proofs.characters.Characters.event_positions_by.Goals as goal

pub invariant_of-self : goal.invariant_of-self
invariant_of-self g c =
    let inside = c.self.inside in
    let settled = c.settle.new.runs.tree.pairs in
    let now = c.event_positions.new.self.tree.pairs in
    let so = now_counted inside.runs.tree.pairs settled inside.runs.labels c.settle.new.runs.labels inside.visible inside.shown inside.cursor inside.pending c.self.invariant c.settle.ensures.pairs c.settle.ensures.labels in
    let same : chars_in settled ≡ chars_in now = sym (same_chars now settled c.event_positions.ensures.runs) in
    let few : length (chars_in now) ≤ 2 ^ 25 = subst (λ (rs : List Stretch). length rs ≤ 2 ^ 25) same so.few in
    record {
      counted = record {
        labelled = c.event_positions.ensures.laid;
        visible_is = so.visible_is ∙ ap visible_in same;
        shown_is = so.shown_is ∙ ap shown_in same;
        few = few;
      };
      cursor = tt;
      told = λ e. refl;
      few = few;
    }

pub returns-clause-same : goal.returns-clause-same
returns-clause-same g c =
    let settled = c.settle.new.runs.tree.pairs in
    let now = c.event_positions.new.self.tree.pairs in
    let chars : chars_in now ≡ chars_in settled = same_chars now settled c.event_positions.ensures.runs in
    let build : List Stretch → List Stretch → InRuns = λ (rs : List Stretch) (qs : List Stretch). record { records = rs; runs = qs } in
    (λ i. build (chars i) (c.event_positions.ensures.runs i)) ∙ ap in_runs c.settle.ensures.pairs ∙ c.self.view_is
