use Rattle.std.proofs.Common.{◌≡◌, ℕ, ◌+◌, ◌≤◌, List, length, Contains, ap, ◌∙◌, subst, sym, arith}
use Rattle.ew_model.specs.declared.node.Node.{Node}
use Rattle.walker_record.specs.Stretches.{Stretch, node_on, joined_of, first_part, second_part}
use Rattle.order_tree.specs.Pairs.{labels, changed, runs, IsRising}
use Rattle.character_runs.specs.Cursors.{struck_with}
use Rattle.character_runs.specs.States.{is_inserted, knows}
use Rattle.character_runs.specs.Labelled.{label_of, GoesOver}
use Rattle.character_runs.specs.Laid.{AreLabelled, chars_in}
use Rattle.character_runs.specs.Loose.{loose_in}
use Rattle.character_runs.specs.Replacing.{Replaces, Recounted}
use Rattle.character_runs.proofs.AlteredChars.{sums_fit}
use Rattle.character_runs.proofs.Places.{laid_same}
use Rattle.character_runs.proofs.StruckFirsts.{firsts_root, firsts_bare, firsts_labelled, firsts_held, firsts_ahead, mid_long, firsts_replaced, firsts_chars, firsts_long, firsts_recounted, firsts_was, firsts_is, firsts_loose, firsts_told}
use Rattle.character_runs.proofs.runs.Runs.shift_first.Goals as goal

pub shift_label-requires-clause-bare : goal.shift_label-requires-clause-bare
shift_label-requires-clause-bare g c =
    let rest_is : c.split-first.result.1.from ≡ node_on c.args.found.run.from 1 = ap (λ (r : Stretch). r.from) c.split-first.ensures.second in
    ap (label_of c.args.self.now.labels) rest_is
    ∙ firsts_bare c.args.self.now.tree.pairs c.args.self.now.labels c.args.found.label c.args.found.run c.args.struck c.requires.laid c.facts.ensures.rising c.requires.ahead

pub shift_label-requires-clause-some : goal.shift_label-requires-clause-some
shift_label-requires-clause-some g c =
    let rest_is : c.split-first.result.1.from ≡ node_on c.args.found.run.from 1 = ap (λ (r : Stretch). r.from) c.split-first.ensures.second in
    λ e. firsts_root c.args.self.now.tree.pairs c.args.self.now.labels c.args.found.label c.args.found.run c.args.struck c.requires.laid c.facts.ensures.rising c.requires.ahead (sym rest_is ∙ e)

pub returns-in_err-shift_label-clause-laid : goal.returns-in_err-shift_label-clause-laid
returns-in_err-shift_label-clause-laid g c =
    laid_same c.args.self.now.tree.pairs c.args.self.now.labels c.shift_label.new.labels c.in_err-shift_label.ensures.err c.requires.laid

pub change-requires-clause-held : goal.change-requires-clause-held
change-requires-clause-held g c =
    firsts_held c.args.self.now.tree.pairs c.args.self.now.labels c.args.found.label c.args.found.run c.args.struck c.requires.laid c.facts.ensures.rising c.requires.ahead

pub change-requires-clause-fit : goal.change-requires-clause-fit
change-requires-clause-fit g c =
    let same : changed c.args.self.now.tree.pairs c.args.found.label c.split-first.result.1 ≡ changed c.args.self.now.tree.pairs c.args.found.label (second_part c.args.found.run 1) = ap (λ (r : Stretch). changed c.args.self.now.tree.pairs c.args.found.label r) c.split-first.ensures.second in
    let long = ap (λ (xs : List (ℕ × Stretch)). length (chars_in xs)) same in
    let less = mid_long c.args.self.now.tree.pairs c.args.self.now.labels c.args.found.label c.args.found.run c.args.struck c.requires.laid c.facts.ensures.rising c.requires.ahead in
    let few = c.requires.few in
    let fit = sums_fit (changed c.args.self.now.tree.pairs c.args.found.label c.split-first.result.1) (omega (arith, long, less, few)) in
    record { known = fit.0; prepared = fit.1; effect = fit.2 }

pub change-requires-2-clause-held : goal.change-requires-2-clause-held
change-requires-2-clause-held g c =
    let mid : c.change.new.self.pairs ≡ changed c.args.self.now.tree.pairs c.args.found.label (second_part c.args.found.run 1) = c.change.ensures.pairs ∙ ap (λ (r : Stretch). changed c.args.self.now.tree.pairs c.args.found.label r) c.split-first.ensures.second in
    subst (λ (xs : List (ℕ × Stretch)). Contains (labels xs) c.args.struck.label) (sym mid) (firsts_ahead c.args.self.now.tree.pairs c.args.self.now.labels c.args.found.label c.args.found.run c.args.struck c.requires.laid c.facts.ensures.rising c.requires.ahead)

pub change-requires-2-clause-fit : goal.change-requires-2-clause-fit
change-requires-2-clause-fit g c =
    let mid : c.change.new.self.pairs ≡ changed c.args.self.now.tree.pairs c.args.found.label (second_part c.args.found.run 1) = c.change.ensures.pairs ∙ ap (λ (r : Stretch). changed c.args.self.now.tree.pairs c.args.found.label r) c.split-first.ensures.second in
    let join : c.join.result ≡ joined_of c.args.struck.run (struck_with c.args.found.run.from 0) = c.join.ensures ∙ ap (λ (r : Stretch). joined_of c.args.struck.run r) c.struck_first-one.ensures in
    let same : changed c.change.new.self.pairs c.args.struck.label c.join.result ≡ changed (changed c.args.self.now.tree.pairs c.args.found.label (second_part c.args.found.run 1)) c.args.struck.label (joined_of c.args.struck.run (struck_with c.args.found.run.from 0)) = (λ i. changed (mid i) c.args.struck.label (join i)) in
    let long = ap (λ (xs : List (ℕ × Stretch)). length (chars_in xs)) same in
    let kept = firsts_long c.args.self.now.tree.pairs c.args.self.now.labels c.args.found.label c.args.found.run c.args.struck c.requires.laid c.facts.ensures.rising c.requires.ahead in
    let few = c.requires.few in
    let fit = sums_fit (changed c.change.new.self.pairs c.args.struck.label c.join.result) (omega (arith, long, kept, few)) in
    record { known = fit.0; prepared = fit.1; effect = fit.2 }

pub returns-clause-laid : goal.returns-clause-laid
returns-clause-laid g c =
    let mid : c.change.new.self.pairs ≡ changed c.args.self.now.tree.pairs c.args.found.label (second_part c.args.found.run 1) = c.change.ensures.pairs ∙ ap (λ (r : Stretch). changed c.args.self.now.tree.pairs c.args.found.label r) c.split-first.ensures.second in
    let join : c.join.result ≡ joined_of c.args.struck.run (struck_with c.args.found.run.from 0) = c.join.ensures ∙ ap (λ (r : Stretch). joined_of c.args.struck.run r) c.struck_first-one.ensures in
    let all : c.change-2.new.self.pairs ≡ changed (changed c.args.self.now.tree.pairs c.args.found.label (second_part c.args.found.run 1)) c.args.struck.label (joined_of c.args.struck.run (struck_with c.args.found.run.from 0)) = c.change-2.ensures.pairs ∙ (λ i. changed (mid i) c.args.struck.label (join i)) in
    let rest_is : c.split-first.result.1.from ≡ node_on c.args.found.run.from 1 = ap (λ (r : Stretch). r.from) c.split-first.ensures.second in
    subst (λ (xs : List (ℕ × Stretch)). AreLabelled xs c.shift_label.new.labels) (sym all)
    (firsts_labelled c.args.self.now.tree.pairs c.args.self.now.labels c.args.found.label c.args.found.run c.args.struck c.requires.laid c.facts.ensures.rising c.requires.ahead c.shift_label.new.labels (subst (λ (w : Node). GoesOver c.args.self.now.labels c.shift_label.new.labels c.args.found.run.from w c.args.found.label) rest_is c.in_ok-shift_label.ensures.ok))

pub returns-clause-chars : goal.returns-clause-chars
returns-clause-chars g c =
    let mid : c.change.new.self.pairs ≡ changed c.args.self.now.tree.pairs c.args.found.label (second_part c.args.found.run 1) = c.change.ensures.pairs ∙ ap (λ (r : Stretch). changed c.args.self.now.tree.pairs c.args.found.label r) c.split-first.ensures.second in
    let join : c.join.result ≡ joined_of c.args.struck.run (struck_with c.args.found.run.from 0) = c.join.ensures ∙ ap (λ (r : Stretch). joined_of c.args.struck.run r) c.struck_first-one.ensures in
    let all : c.change-2.new.self.pairs ≡ changed (changed c.args.self.now.tree.pairs c.args.found.label (second_part c.args.found.run 1)) c.args.struck.label (joined_of c.args.struck.run (struck_with c.args.found.run.from 0)) = c.change-2.ensures.pairs ∙ (λ i. changed (mid i) c.args.struck.label (join i)) in
    ap chars_in all ∙ firsts_chars c.args.self.now.tree.pairs c.args.self.now.labels c.args.found.label c.args.found.run c.args.struck c.requires.laid c.facts.ensures.rising c.requires.ahead

pub returns-clause-one : goal.returns-clause-one
returns-clause-one g c =
    let mid : c.change.new.self.pairs ≡ changed c.args.self.now.tree.pairs c.args.found.label (second_part c.args.found.run 1) = c.change.ensures.pairs ∙ ap (λ (r : Stretch). changed c.args.self.now.tree.pairs c.args.found.label r) c.split-first.ensures.second in
    let join : c.join.result ≡ joined_of c.args.struck.run (struck_with c.args.found.run.from 0) = c.join.ensures ∙ ap (λ (r : Stretch). joined_of c.args.struck.run r) c.struck_first-one.ensures in
    let all : c.change-2.new.self.pairs ≡ changed (changed c.args.self.now.tree.pairs c.args.found.label (second_part c.args.found.run 1)) c.args.struck.label (joined_of c.args.struck.run (struck_with c.args.found.run.from 0)) = c.change-2.ensures.pairs ∙ (λ i. changed (mid i) c.args.struck.label (join i)) in
    subst (λ (r : Stretch). Replaces (chars_in c.args.self.now.tree.pairs) (chars_in c.change-2.new.self.pairs) r c.struck_first-one.result) (sym c.split-first.ensures.first)
    (subst (λ (r : Stretch). Replaces (chars_in c.args.self.now.tree.pairs) (chars_in c.change-2.new.self.pairs) (first_part c.args.found.run 1) r) (sym c.struck_first-one.ensures)
    (subst (λ (xs : List (ℕ × Stretch)). Replaces (chars_in c.args.self.now.tree.pairs) (chars_in xs) (first_part c.args.found.run 1) (struck_with c.args.found.run.from 0)) (sym all) (firsts_replaced c.args.self.now.tree.pairs c.args.self.now.labels c.args.found.label c.args.found.run c.args.struck c.requires.laid c.facts.ensures.rising c.requires.ahead)))

pub returns-clause-recounted : goal.returns-clause-recounted
returns-clause-recounted g c =
    let mid : c.change.new.self.pairs ≡ changed c.args.self.now.tree.pairs c.args.found.label (second_part c.args.found.run 1) = c.change.ensures.pairs ∙ ap (λ (r : Stretch). changed c.args.self.now.tree.pairs c.args.found.label r) c.split-first.ensures.second in
    let join : c.join.result ≡ joined_of c.args.struck.run (struck_with c.args.found.run.from 0) = c.join.ensures ∙ ap (λ (r : Stretch). joined_of c.args.struck.run r) c.struck_first-one.ensures in
    let all : c.change-2.new.self.pairs ≡ changed (changed c.args.self.now.tree.pairs c.args.found.label (second_part c.args.found.run 1)) c.args.struck.label (joined_of c.args.struck.run (struck_with c.args.found.run.from 0)) = c.change-2.ensures.pairs ∙ (λ i. changed (mid i) c.args.struck.label (join i)) in
    subst (λ (r : Stretch). Recounted (chars_in c.args.self.now.tree.pairs) (chars_in c.change-2.new.self.pairs) (record { before = r; after = c.struck_first-one.result })) (sym c.split-first.ensures.first)
    (subst (λ (r : Stretch). Recounted (chars_in c.args.self.now.tree.pairs) (chars_in c.change-2.new.self.pairs) (record { before = first_part c.args.found.run 1; after = r })) (sym c.struck_first-one.ensures)
    (subst (λ (xs : List (ℕ × Stretch)). Recounted (chars_in c.args.self.now.tree.pairs) (chars_in xs) (record { before = first_part c.args.found.run 1; after = struck_with c.args.found.run.from 0 })) (sym all) (firsts_recounted c.args.self.now.tree.pairs c.args.self.now.labels c.args.found.label c.args.found.run c.args.struck c.requires.laid c.facts.ensures.rising c.requires.ahead)))

pub returns-clause-was : goal.returns-clause-was
returns-clause-was g c =
    firsts_was c.args.self.now.tree.pairs c.args.self.now.labels c.args.found.label c.args.found.run c.args.struck c.requires.laid c.facts.ensures.rising c.requires.ahead ∙ ap is_inserted (sym c.split-first.ensures.first)

pub returns-clause-is : goal.returns-clause-is
returns-clause-is g c =
    let mid : c.change.new.self.pairs ≡ changed c.args.self.now.tree.pairs c.args.found.label (second_part c.args.found.run 1) = c.change.ensures.pairs ∙ ap (λ (r : Stretch). changed c.args.self.now.tree.pairs c.args.found.label r) c.split-first.ensures.second in
    let join : c.join.result ≡ joined_of c.args.struck.run (struck_with c.args.found.run.from 0) = c.join.ensures ∙ ap (λ (r : Stretch). joined_of c.args.struck.run r) c.struck_first-one.ensures in
    let all : c.change-2.new.self.pairs ≡ changed (changed c.args.self.now.tree.pairs c.args.found.label (second_part c.args.found.run 1)) c.args.struck.label (joined_of c.args.struck.run (struck_with c.args.found.run.from 0)) = c.change-2.ensures.pairs ∙ (λ i. changed (mid i) c.args.struck.label (join i)) in
    let rest_is : c.split-first.result.1.from ≡ node_on c.args.found.run.from 1 = ap (λ (r : Stretch). r.from) c.split-first.ensures.second in
    let laid = firsts_labelled c.args.self.now.tree.pairs c.args.self.now.labels c.args.found.label c.args.found.run c.args.struck c.requires.laid c.facts.ensures.rising c.requires.ahead c.shift_label.new.labels (subst (λ (w : Node). GoesOver c.args.self.now.labels c.shift_label.new.labels c.args.found.run.from w c.args.found.label) rest_is c.in_ok-shift_label.ensures.ok) in
    let rising = subst (λ (xs : List (ℕ × Stretch)). IsRising xs) all c.facts-2.ensures.rising in
    ap (λ (xs : List (ℕ × Stretch)). knows (chars_in xs) c.args.found.run.from) all ∙ firsts_is c.args.self.now.tree.pairs c.args.self.now.labels c.args.found.label c.args.found.run c.args.struck c.requires.laid c.facts.ensures.rising c.requires.ahead c.shift_label.new.labels laid rising ∙ ap is_inserted (sym c.struck_first-one.ensures)

pub returns-clause-loose : goal.returns-clause-loose
returns-clause-loose g c among =
    let mid : c.change.new.self.pairs ≡ changed c.args.self.now.tree.pairs c.args.found.label (second_part c.args.found.run 1) = c.change.ensures.pairs ∙ ap (λ (r : Stretch). changed c.args.self.now.tree.pairs c.args.found.label r) c.split-first.ensures.second in
    let join : c.join.result ≡ joined_of c.args.struck.run (struck_with c.args.found.run.from 0) = c.join.ensures ∙ ap (λ (r : Stretch). joined_of c.args.struck.run r) c.struck_first-one.ensures in
    let all : c.change-2.new.self.pairs ≡ changed (changed c.args.self.now.tree.pairs c.args.found.label (second_part c.args.found.run 1)) c.args.struck.label (joined_of c.args.struck.run (struck_with c.args.found.run.from 0)) = c.change-2.ensures.pairs ∙ (λ i. changed (mid i) c.args.struck.label (join i)) in
    subst (λ (xs : List (ℕ × Stretch)). loose_in among (runs xs) ≤ loose_in among (runs c.args.self.now.tree.pairs) + 2) (sym all) (firsts_loose c.args.self.now.tree.pairs c.args.self.now.labels c.args.found.label c.args.found.run c.args.struck c.requires.laid c.facts.ensures.rising c.requires.ahead among)

pub returns-clause-told : goal.returns-clause-told
returns-clause-told g c among is =
    let mid : c.change.new.self.pairs ≡ changed c.args.self.now.tree.pairs c.args.found.label (second_part c.args.found.run 1) = c.change.ensures.pairs ∙ ap (λ (r : Stretch). changed c.args.self.now.tree.pairs c.args.found.label r) c.split-first.ensures.second in
    let join : c.join.result ≡ joined_of c.args.struck.run (struck_with c.args.found.run.from 0) = c.join.ensures ∙ ap (λ (r : Stretch). joined_of c.args.struck.run r) c.struck_first-one.ensures in
    let all : c.change-2.new.self.pairs ≡ changed (changed c.args.self.now.tree.pairs c.args.found.label (second_part c.args.found.run 1)) c.args.struck.label (joined_of c.args.struck.run (struck_with c.args.found.run.from 0)) = c.change-2.ensures.pairs ∙ (λ i. changed (mid i) c.args.struck.label (join i)) in
    subst (λ (xs : List (ℕ × Stretch)). loose_in among (runs xs) ≤ loose_in among (runs c.args.self.now.tree.pairs)) (sym all) (firsts_told c.args.self.now.tree.pairs c.args.self.now.labels c.args.found.label c.args.found.run c.args.struck c.requires.laid c.facts.ensures.rising c.requires.ahead among is)
