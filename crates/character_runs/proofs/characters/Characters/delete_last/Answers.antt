use Rattle.std.proofs.Common.{◌≡◌, ℕ, ◌+◌, ◌≤◌, false, List, Option, Some, IfSome, map, refl, sym, ap, ◌∙◌, subst}
use Rattle.ew_model.specs.declared.node.Node.{Node}
use Rattle.walker_record.specs.Stretches.{Stretch}
use Rattle.order_tree.specs.Pairs.{runs}
use Rattle.character_runs.specs.declared.change.Change.{Change}
use Rattle.character_runs.specs.declared.change.Change.TheVariants.{Strike}
use Rattle.character_runs.specs.declared.cursor.Cursor.{Cursor}
use Rattle.character_runs.specs.declared.cursor.Struck.{Struck}
use Rattle.character_runs.specs.Cursors.{settled, with_end, shorter}
use Rattle.character_runs.specs.States.{knows, changed_at}
use Rattle.character_runs.specs.Laid.{InRuns, in_runs, chars_in}
use Rattle.character_runs.specs.Loose.{loose_in}
use Rattle.character_runs.proofs.GivenEnds.{gives, visible_some, shown_some, kept_less, settles, last_known, still_known, given_loose, given_told}
use Rattle.character_runs.proofs.characters.Characters.delete_last.Goals as goal

pub overflow_sub-self : goal.overflow_sub-self
overflow_sub-self g c =
    let inside = c.self.inside in
    let now = c.strike_last.new.runs in
    let cursor = c.in-Some.cursor in
    let struck = c.in-Some-2.struck in
    let old = settled inside.runs.tree.pairs (Some cursor) in
    let new = with_end now.tree.pairs cursor.label (shorter cursor.run) (Some struck) in
    let so = gives c.self.inside.runs.tree.pairs c.strike_last.new.runs.tree.pairs c.self.inside.runs.labels c.strike_last.new.runs.labels c.self.inside.visible c.self.inside.shown c.self.inside.cursor c.self.inside.pending c.self.invariant c.in-Some.cursor c.in-Some.is (c.if-not-gives_up.ensures.long refl) c.facts.ensures.rising c.facts-2.ensures.rising c.in_ok-struck.field-0 c.in_ok-struck.ensures.laid c.in_ok-struck.ensures.gave c.in_ok-struck.ensures.chars c.in-Some-2.struck c.in-Some-2.is in
    visible_some old new inside.runs.labels now.labels inside.visible inside.shown cursor struck so

pub overflow_sub-self-2 : goal.overflow_sub-self-2
overflow_sub-self-2 g c =
    let inside = c.self.inside in
    let now = c.strike_last.new.runs in
    let cursor = c.in-Some.cursor in
    let struck = c.in-Some-2.struck in
    let old = settled inside.runs.tree.pairs (Some cursor) in
    let new = with_end now.tree.pairs cursor.label (shorter cursor.run) (Some struck) in
    let so = gives c.self.inside.runs.tree.pairs c.strike_last.new.runs.tree.pairs c.self.inside.runs.labels c.strike_last.new.runs.labels c.self.inside.visible c.self.inside.shown c.self.inside.cursor c.self.inside.pending c.self.invariant c.in-Some.cursor c.in-Some.is (c.if-not-gives_up.ensures.long refl) c.facts.ensures.rising c.facts-2.ensures.rising c.in_ok-struck.field-0 c.in_ok-struck.ensures.laid c.in_ok-struck.ensures.gave c.in_ok-struck.ensures.chars c.in-Some-2.struck c.in-Some-2.is in
    shown_some old new inside.runs.labels now.labels inside.visible inside.shown cursor struck so

pub invariant_of-self-2 : goal.invariant_of-self-2
invariant_of-self-2 g c =
    let inside = c.self.inside in
    let now = c.strike_last.new.runs in
    let cursor = c.in-Some.cursor in
    let struck = c.in-Some-2.struck in
    let old = settled inside.runs.tree.pairs (Some cursor) in
    let new = with_end now.tree.pairs cursor.label (shorter cursor.run) (Some struck) in
    let so = gives c.self.inside.runs.tree.pairs c.strike_last.new.runs.tree.pairs c.self.inside.runs.labels c.strike_last.new.runs.labels c.self.inside.visible c.self.inside.shown c.self.inside.cursor c.self.inside.pending c.self.invariant c.in-Some.cursor c.in-Some.is (c.if-not-gives_up.ensures.long refl) c.facts.ensures.rising c.facts-2.ensures.rising c.in_ok-struck.field-0 c.in_ok-struck.ensures.laid c.in_ok-struck.ensures.gave c.in_ok-struck.ensures.chars c.in-Some-2.struck c.in-Some-2.is in
    let next = c.deleted.ensures in
    let told = subst (λ (o : Option Struck). IfSome o (λ s. c.strike_last.new.pending ≡ false → with_end now.tree.pairs cursor.label (shorter cursor.run) (Some s) ≡ now.tree.pairs)) c.in-Some-2.is c.in_ok-struck.ensures.told in
    kept_less old new inside.runs.labels now.labels inside.visible inside.shown cursor struck so now.tree.pairs refl c.deleted.result next.label next.run next.struck next.before next.index c.strike_last.new.pending told c.strike_last.ensures.own

pub returns-clause-was : goal.returns-clause-was
returns-clause-was g c =
    let inside = c.self.inside in
    let now = c.strike_last.new.runs in
    let cursor = c.in-Some.cursor in
    let struck = c.in-Some-2.struck in
    let old = settled inside.runs.tree.pairs (Some cursor) in
    let new = with_end now.tree.pairs cursor.label (shorter cursor.run) (Some struck) in
    let so = gives c.self.inside.runs.tree.pairs c.strike_last.new.runs.tree.pairs c.self.inside.runs.labels c.strike_last.new.runs.labels c.self.inside.visible c.self.inside.shown c.self.inside.cursor c.self.inside.pending c.self.invariant c.in-Some.cursor c.in-Some.is (c.if-not-gives_up.ensures.long refl) c.facts.ensures.rising c.facts-2.ensures.rising c.in_ok-struck.field-0 c.in_ok-struck.ensures.laid c.in_ok-struck.ensures.gave c.in_ok-struck.ensures.chars c.in-Some-2.struck c.in-Some-2.is in
    let seen = ap (λ (o : Option Cursor). in_runs (settled inside.runs.tree.pairs o)) (sym c.in-Some.is) ∙ c.self.view_is in
    sym (last_known old new inside.runs.labels now.labels inside.visible inside.shown cursor struck so) ∙ ap (knows (chars_in old)) (sym (c.if-not-gives_up.ensures.node refl)) ∙ ap (λ (s : InRuns). knows s.records c.args.node) seen

pub returns-clause-is : goal.returns-clause-is
returns-clause-is g c =
    let inside = c.self.inside in
    let now = c.strike_last.new.runs in
    let cursor = c.in-Some.cursor in
    let struck = c.in-Some-2.struck in
    let old = settled inside.runs.tree.pairs (Some cursor) in
    let new = with_end now.tree.pairs cursor.label (shorter cursor.run) (Some struck) in
    let so = gives c.self.inside.runs.tree.pairs c.strike_last.new.runs.tree.pairs c.self.inside.runs.labels c.strike_last.new.runs.labels c.self.inside.visible c.self.inside.shown c.self.inside.cursor c.self.inside.pending c.self.invariant c.in-Some.cursor c.in-Some.is (c.if-not-gives_up.ensures.long refl) c.facts.ensures.rising c.facts-2.ensures.rising c.in_ok-struck.field-0 c.in_ok-struck.ensures.laid c.in_ok-struck.ensures.gave c.in_ok-struck.ensures.chars c.in-Some-2.struck c.in-Some-2.is in
    let next = c.deleted.ensures in
    let same = settles old new inside.runs.labels now.labels inside.visible inside.shown cursor struck so now.tree.pairs refl c.deleted.result next.label next.run next.struck in
    sym (still_known old new inside.runs.labels now.labels inside.visible inside.shown cursor struck so) ∙ ap (knows (chars_in new)) (sym (c.if-not-gives_up.ensures.node refl)) ∙ ap (λ (qs : List (ℕ × Stretch)). knows (chars_in qs) c.args.node) (sym same)

pub returns-clause-loose : goal.returns-clause-loose
returns-clause-loose g c = λ among.
    let inside = c.self.inside in
    let now = c.strike_last.new.runs in
    let cursor = c.in-Some.cursor in
    let struck = c.in-Some-2.struck in
    let old = settled inside.runs.tree.pairs (Some cursor) in
    let new = with_end now.tree.pairs cursor.label (shorter cursor.run) (Some struck) in
    let so = gives c.self.inside.runs.tree.pairs c.strike_last.new.runs.tree.pairs c.self.inside.runs.labels c.strike_last.new.runs.labels c.self.inside.visible c.self.inside.shown c.self.inside.cursor c.self.inside.pending c.self.invariant c.in-Some.cursor c.in-Some.is (c.if-not-gives_up.ensures.long refl) c.facts.ensures.rising c.facts-2.ensures.rising c.in_ok-struck.field-0 c.in_ok-struck.ensures.laid c.in_ok-struck.ensures.gave c.in_ok-struck.ensures.chars c.in-Some-2.struck c.in-Some-2.is in
    let next = c.deleted.ensures in
    let seen = ap (λ (o : Option Cursor). in_runs (settled inside.runs.tree.pairs o)) (sym c.in-Some.is) ∙ c.self.view_is in
    let same = settles old new inside.runs.labels now.labels inside.visible inside.shown cursor struck so now.tree.pairs refl c.deleted.result next.label next.run next.struck in
    subst (λ (qs : List (ℕ × Stretch)). loose_in among (runs qs) ≤ loose_in among c.args.self.now.runs + 2) (sym same)
    (subst (λ (s : InRuns). loose_in among (runs new) ≤ loose_in among s.runs + 2) seen (given_loose old new inside.runs.labels now.labels inside.visible inside.shown cursor struck so among))

pub returns-clause-told : goal.returns-clause-told
returns-clause-told g c = λ among is.
    let inside = c.self.inside in
    let now = c.strike_last.new.runs in
    let cursor = c.in-Some.cursor in
    let struck = c.in-Some-2.struck in
    let old = settled inside.runs.tree.pairs (Some cursor) in
    let new = with_end now.tree.pairs cursor.label (shorter cursor.run) (Some struck) in
    let so = gives c.self.inside.runs.tree.pairs c.strike_last.new.runs.tree.pairs c.self.inside.runs.labels c.strike_last.new.runs.labels c.self.inside.visible c.self.inside.shown c.self.inside.cursor c.self.inside.pending c.self.invariant c.in-Some.cursor c.in-Some.is (c.if-not-gives_up.ensures.long refl) c.facts.ensures.rising c.facts-2.ensures.rising c.in_ok-struck.field-0 c.in_ok-struck.ensures.laid c.in_ok-struck.ensures.gave c.in_ok-struck.ensures.chars c.in-Some-2.struck c.in-Some-2.is in
    let next = c.deleted.ensures in
    let seen = ap (λ (o : Option Cursor). in_runs (settled inside.runs.tree.pairs o)) (sym c.in-Some.is) ∙ c.self.view_is in
    let same = settles old new inside.runs.labels now.labels inside.visible inside.shown cursor struck so now.tree.pairs refl c.deleted.result next.label next.run next.struck in
    subst (λ (qs : List (ℕ × Stretch)). loose_in among (runs qs) ≤ loose_in among c.args.self.now.runs) (sym same)
    (subst (λ (s : InRuns). loose_in among (runs new) ≤ loose_in among s.runs) seen (given_told old new inside.runs.labels now.labels inside.visible inside.shown cursor struck so among (ap among (sym (c.if-not-gives_up.ensures.node refl)) ∙ is)))

pub returns-clause-some : goal.returns-clause-some
returns-clause-some g c =
    let inside = c.self.inside in
    let now = c.strike_last.new.runs in
    let cursor = c.in-Some.cursor in
    let struck = c.in-Some-2.struck in
    let old = settled inside.runs.tree.pairs (Some cursor) in
    let new = with_end now.tree.pairs cursor.label (shorter cursor.run) (Some struck) in
    let so = gives c.self.inside.runs.tree.pairs c.strike_last.new.runs.tree.pairs c.self.inside.runs.labels c.strike_last.new.runs.labels c.self.inside.visible c.self.inside.shown c.self.inside.cursor c.self.inside.pending c.self.invariant c.in-Some.cursor c.in-Some.is (c.if-not-gives_up.ensures.long refl) c.facts.ensures.rising c.facts-2.ensures.rising c.in_ok-struck.field-0 c.in_ok-struck.ensures.laid c.in_ok-struck.ensures.gave c.in_ok-struck.ensures.chars c.in-Some-2.struck c.in-Some-2.is in
    let next = c.deleted.ensures in
    let seen = ap (λ (o : Option Cursor). in_runs (settled inside.runs.tree.pairs o)) (sym c.in-Some.is) ∙ c.self.view_is in
    let same = settles old new inside.runs.labels now.labels inside.visible inside.shown cursor struck so now.tree.pairs refl c.deleted.result next.label next.run next.struck in
    ap chars_in same ∙ so.chars
    ∙ ap (λ (v : Node). map (changed_at v Strike) (chars_in old)) (sym (c.if-not-gives_up.ensures.node refl))
    ∙ ap (λ (k : Change). map (changed_at c.args.node k) (chars_in old)) (sym (c.if-not-gives_up.ensures.change refl))
    ∙ ap (λ (s : InRuns). map (changed_at c.args.node c.args.change) s.records) seen
