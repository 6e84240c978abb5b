use Rattle.std.proofs.Common.{◌≡◌, ◌+◌, suc, [], Bool, true, false, length, get_or, set, replicate, refl, ap, ◌∙◌, arith}
use Rattle.std.proofs.lemmas.Option.{slice_get-get_or}
use Rattle.ew_model.proofs.AgentLaws.{within_ids}
use Rattle.transform.proofs.DeletionTargets.{is_target, one_for_all, pair_there, deleted_by, deleted_next, deleted_long, deleted_all}
use Rattle.transform.proofs.tombstones.deleted.Goals as goal

pub loop-pair-init : goal.loop-pair-init
loop-pair-init c =
    c.in_ok-deleted.ensures.items_if_clones_equal (λ y same. same)
    ∙ ap (λ n. replicate n false) c.count.ensures.count
    ∙ one_for_all (is_target []) false c.args.graph.now (λ x. refl)

pub index_mut-requires : goal.index_mut-requires
index_mut-requires c =
    let history = c.args.graph.now in
    let place = c.loop-pair.pair-index in
    let pair = get_or c.args.targets.now place (0, 0) in
    let found = pair_there history c.args.targets.now place pair c.requires.targets (slice_get-get_or c.args.targets.now place (0, 0) c.loop-pair-test.true) in
    let within = within_ids history pair.1 found.0.1 found.2.target in
    let long = c.loop-pair.deleted.ok.0 ∙ ap (length {A = Bool}) c.loop-pair.invariant ∙ deleted_long history place in
    omega (arith, within, long)

pub loop-pair-preserved : goal.loop-pair-preserved
loop-pair-preserved c =
    let history = c.args.graph.now in
    let place = c.loop-pair.pair-index in
    let pair = get_or c.args.targets.now place (0, 0) in
    let found = pair_there history c.args.targets.now place pair c.requires.targets (slice_get-get_or c.args.targets.now place (0, 0) c.loop-pair-test.true) in
    let next : suc place ≡ place + 1 = omega arith in
    ap (λ bs. set bs pair.1 true) c.loop-pair.invariant
    ∙ deleted_next history place pair found.0 c.requires.good found.1 found.2
    ∙ ap (deleted_by history) next

pub returns : goal.returns
returns c =
    c.loop-pair.invariant ∙ deleted_all c.args.graph.now c.args.targets.now c.loop-pair.pair-index c.requires.targets c.loop-pair-test.false
