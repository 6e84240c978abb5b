use Rattle.std.proofs.Common.{◌≡◌, ◌<◌, ◌≤◌, ◌-◌, ◌==◌, ◌&&◌, not, ℕ, length, take, drop, get_or, sym, ap, ◌∙◌, arith}
use Rattle.std.proofs.lemmas.Bool.{eqb-false}
use Rattle.std.proofs.lemmas.Option.{same_Some}
use Rattle.ew_model.specs.Ids.{id_eq}
use Rattle.ew_model.specs.Texts.{text_chars}
use Rattle.ew_model.proofs.AgentLaws.{within_ids}
use Rattle.history_definitions.specs.Chains.{next_id}
use Rattle.blame_definitions.specs.Pieces.{goes_on}
use Rattle.blame.proofs.Columns.{slice_end}
use Rattle.blame.proofs.Parts.{all_lines, end_letter, ends_as, goes_on_as, last_text, open_text, opens, shown_long, shown_there}
use Rattle.blame.proofs.lines.lines.Goals as goal
use Rattle.blame.proofs.lines.lines.Goals.{then-not-goes_on+in_ok-push_line, else-not-goes_on}

-- a list that isn't empty has a first element
some_first : (n : ℕ) → (n ≡ 0 → ⊥) → 0 < n
some_first n differ = omega (arith, differ)

pub id_near-first-requires : goal.id_near-first-requires
id_near-first-requires c =
    let history = c.args.graph.now in
    let there = shown_there history c.args.positions.now 0 c.requires.positions (some_first (length c.args.positions.now) (eqb-false _ _ (sym c.if-is_empty.ensures))) in
    within_ids history (get_or c.args.positions.now 0 0) there.0.id there.2

pub loop-at-init : goal.loop-at-init
loop-at-init c =
    let history = c.args.graph.now in
    let there = shown_there history c.args.positions.now 0 c.requires.positions (some_first (length c.args.positions.now) (eqb-false _ _ (sym c.if-is_empty.ensures))) in
    opens c.args.columns (text_chars history) c.new-out.result.items there.0 c.id_near-first.result there.1
    (same_Some c.id_near-first.result there.0.id (sym c.id_near-first.ensures ∙ there.2))
    c.new-out.ensures.items

pub id_near-id-requires : goal.id_near-id-requires
id_near-id-requires c =
    let history = c.args.graph.now in
    let at = c.loop-at.at in
    let there = shown_there history c.args.positions.now at c.requires.positions c.loop-at-test.true in
    within_ids history (get_or c.args.positions.now at 0) there.0.id there.2

pub loop-at-preserved : goal.loop-at-preserved
loop-at-preserved c =
    let history = c.args.graph.now in
    let whole = text_chars history in
    let at = c.loop-at.at in
    let out = c.loop-at.out.items in
    let from = c.loop-at.from in
    let first = c.loop-at.first in
    let last = c.loop-at.last in
    let h = c.loop-at.invariant in
    let there = shown_there history c.args.positions.now at c.requires.positions c.loop-at-test.true in
    let y = there.0 in
    let next = c.id_near-id.result in
    let own : next ≡ y.id = same_Some next y.id (sym c.id_near-id.ensures ∙ there.2) in
    let letter : c.index-chars-at.result ≡ h.end.ch = c.index-chars-at.is ∙ end_letter c.args.columns whole out from at first last h c.args.chars.now c.index-chars-at.result c.requires.chars in
    let told : c.goes_on.result ≡ goes_on h.end y = c.goes_on.ensures ∙ (λ i. not (letter i == 10) && id_eq (own i) (next_id (sym h.last_is i))) in
    elim c.if-not-goes_on.branch [
      | then-not-goes_on+in_ok-push_line w ↦ ends_as c.args.columns whole out from at first last h y next there.1 own (sym told ∙ w.if-not-goes_on.true)
          c.if-not-goes_on.out.items (take (at - from) (drop from c.args.chars.now)) c.if-not-goes_on.from c.if-not-goes_on.first
          (ap (λ cs. take (at - from) (drop from cs)) c.requires.chars ∙ open_text c.args.columns whole out from at first last h)
          (ap (λ v. v.items) w.out-is ∙ w.in_ok-push_line.ensures) w.from-is w.first-is
      | else-not-goes_on w ↦ goes_on_as c.args.columns whole out from at first last h y next there.1 own (sym told ∙ w.if-not-goes_on.false)
          c.if-not-goes_on.out.items c.if-not-goes_on.from c.if-not-goes_on.first (ap (λ v. v.items) w.out-is) w.from-is w.first-is
    ]

pub returns : goal.returns
returns c =
    let history = c.args.graph.now in
    let whole = text_chars history in
    let at = c.loop-at.at in
    let out = c.loop-at.out.items in
    let from = c.loop-at.from in
    let first = c.loop-at.first in
    let last = c.loop-at.last in
    let h = c.loop-at.invariant in
    let all : length whole ≤ at = omega (arith, shown_long history c.args.positions.now c.requires.positions, c.loop-at-test.false) in
    all_lines c.args.columns whole out from at first last h all c.push_line-2.new.out.items (take (length c.args.chars.now - from) (drop from c.args.chars.now))
    (slice_end c.args.chars.now from ∙ ap (drop from) c.requires.chars ∙ last_text c.args.columns whole out from at first last h all)
    c.in_ok-push_line-2.ensures
