use Rattle.std.proofs.Common.{◌≡◌, ℕ, ◌+◌, suc, ◌<◌, List, [], length, get_or, set, replicate, slice_get, Some, refl, sym, ap, ◌∙◌, arith}
use Rattle.std.proofs.lemmas.Option.{slice_get-get_or, same_Some}
use Rattle.ew_model.specs.declared.event.Event.{Event}
use Rattle.ew_model.specs.declared.id.Id.{Id}
use Rattle.ew_model.specs.Ids.{is_among}
use Rattle.ew_model.proofs.AgentLaws.{within_ids}
use Rattle.transform.proofs.DeletionTargets.{one_for_all, pair_there}
use Rattle.undo.specs.declared.fate.Fate.{Fate}
use Rattle.undo.specs.declared.fate.Fate.TheVariants.{Shown}
use Rattle.undo.specs.Fates.{with_deletion}
use Rattle.undo.specs.Undone.{undone_ids}
use Rattle.undo.proofs.Deletions.{fates_by, fates_long, fate_there, fate_among, fates_next, fates_all}
use Rattle.undo.proofs.fates.fates.Goals as goal

pub loop-pair-init : goal.loop-pair-init
loop-pair-init c =
    c.in_ok-fates.ensures.items_if_clones_equal (λ y same. same)
    ∙ ap (λ n. replicate n Shown) c.count.ensures.count
    ∙ one_for_all (fate_among (undone_ids c.args.undone.now) []) Shown c.args.graph.now (λ x. refl)

pub id_near-deletion-requires : goal.id_near-deletion-requires
id_near-deletion-requires c =
    let history = c.args.graph.now in
    let place = c.loop-pair.pair-index in
    let pair = get_or c.args.targets.now place (0, 0) in
    let found = pair_there history c.args.targets.now place pair c.requires.targets (slice_get-get_or c.args.targets.now place (0, 0) c.loop-pair-test.true) in
    within_ids history pair.0 found.0.0 found.2.deletion

pub index-requires : goal.index-requires
index-requires c =
    let history = c.args.graph.now in
    let place = c.loop-pair.pair-index in
    let pair = get_or c.args.targets.now place (0, 0) in
    let found = pair_there history c.args.targets.now place pair c.requires.targets (slice_get-get_or c.args.targets.now place (0, 0) c.loop-pair-test.true) in
    let within = within_ids history pair.1 found.0.1 found.2.target in
    let long = c.loop-pair.fates.ok.0 ∙ ap (length {A = Fate}) c.loop-pair.invariant ∙ fates_long history (undone_ids c.args.undone.now) place in
    omega (arith, within, long)

pub index_mut-requires : goal.index_mut-requires
index_mut-requires c =
    let history = c.args.graph.now in
    let place = c.loop-pair.pair-index in
    let pair = get_or c.args.targets.now place (0, 0) in
    let found = pair_there history c.args.targets.now place pair c.requires.targets (slice_get-get_or c.args.targets.now place (0, 0) c.loop-pair-test.true) in
    let within = within_ids history pair.1 found.0.1 found.2.target in
    let long = c.loop-pair.fates.ok.0 ∙ ap (length {A = Fate}) c.loop-pair.invariant ∙ fates_long history (undone_ids c.args.undone.now) place in
    omega (arith, within, long)

pub loop-pair-preserved : goal.loop-pair-preserved
loop-pair-preserved c =
    let history = c.args.graph.now in
    let undone = undone_ids c.args.undone.now in
    let place = c.loop-pair.pair-index in
    let pair = get_or c.args.targets.now place (0, 0) in
    let found = pair_there history c.args.targets.now place pair c.requires.targets (slice_get-get_or c.args.targets.now place (0, 0) c.loop-pair-test.true) in
    let d = found.0 in
    let fate = c.index.result.now in
    let by : c.id_near-deletion.result ≡ d.0 = same_Some c.id_near-deletion.result d.0 (sym c.id_near-deletion.ensures ∙ found.2.deletion) in
    let told : c.with_deletion.result ≡ with_deletion fate (is_among undone d.0) =
    c.with_deletion.ensures ∙ ap (with_deletion fate) (c.has.ensures ∙ ap (is_among undone) by) in
    let old = fate_there _ history pair.1 d.1 fate found.2.target (c.index.ensures ∙ ap (λ (fs : List Fate). get_or fs pair.1 fate) c.loop-pair.invariant) in
    let next : suc place ≡ place + 1 = omega arith in
    (λ i. set (c.loop-pair.invariant i) pair.1 (told i))
    ∙ fates_next history undone place pair d fate c.requires.good found.1 found.2 old
    ∙ ap (fates_by history undone) next

pub returns : goal.returns
returns c =
    c.loop-pair.invariant ∙ fates_all c.args.graph.now (undone_ids c.args.undone.now) c.args.targets.now c.loop-pair.pair-index c.requires.targets c.loop-pair-test.false
