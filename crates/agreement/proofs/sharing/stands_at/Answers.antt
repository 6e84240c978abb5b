use Rattle.std.proofs.Common.{◌≡◌, sym, ap, ◌∙◌}
use Rattle.ew_model.specs.Ancestors.{ids_of}
use Rattle.ew_model.specs.Ids.{is_among}
use Rattle.event_graph.specs.Keeping.{id_of}
use Rattle.agreement.specs.Sharing.{ids_at}
use Rattle.agreement.proofs.Found.{found_among, none_among, told_id}
use Rattle.agreement.proofs.sharing.stands_at.Goals as goal

pub returns-in-Some : goal.returns-in-Some
returns-in-Some c =
    let b = c.args.b.now in
    let id : c.id_at.result ≡ id_of (ids_of c.args.a.now) c.args.ours = told_id (ids_of c.args.a.now) c.args.ours c.id_at.result c.id_at.ensures in
    c.contains.ensures.value
    ∙ (found_among b c.args.theirs.now c.id_at.result c.in-Some.other c.requires.admitted (sym c.find.ensures.value ∙ c.in-Some.is) c.requires.within_b
    ∙ ap (is_among (ids_at b c.args.theirs.now)) id)

pub returns-in-None : goal.returns-in-None
returns-in-None c =
    let b = c.args.b.now in
    let id : c.id_at.result ≡ id_of (ids_of c.args.a.now) c.args.ours = told_id (ids_of c.args.a.now) c.args.ours c.id_at.result c.id_at.ensures in
    none_among b c.args.theirs.now c.id_at.result (sym c.find.ensures.value ∙ c.in-None.is) c.requires.within_b
    ∙ ap (is_among (ids_at b c.args.theirs.now)) id
