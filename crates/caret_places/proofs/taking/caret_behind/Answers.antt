use Rattle.std.proofs.Common.{length, refl, sym}
use Rattle.std.proofs.lemmas.Bool.{ltb-false}
use Rattle.std.proofs.lemmas.Option.{slice_get_read}
use Rattle.caret_places.proofs.Versions.{behind_char, behind_none, within_text}
use Rattle.caret_places.proofs.taking.caret_behind.Goals as goal

pub id_at-requires : goal.id_at-requires
id_at-requires c =
    let text = c.args.text.now in
    let read = slice_get_read text (length text) c.args.before c.in-Some.position.now refl c.in-Some.ensures.lookup.3.0 c.in-Some.ensures.lookup.1 in
    within_text c.args.graph.now text c.requires c.args.before c.in-Some.position.now read

pub returns-in-Some : goal.returns-in-Some
returns-in-Some c =
    let text = c.args.text.now in
    let read = slice_get_read text (length text) c.args.before c.in-Some.position.now refl c.in-Some.ensures.lookup.3.0 c.in-Some.ensures.lookup.1 in
    behind_char c.args.graph.now text c.requires c.args.before c.in-Some.position.now c.id_at.result read c.id_at.ensures

pub returns-in-None : goal.returns-in-None
returns-in-None c =
    let text = c.args.text.now in
    behind_none c.args.graph.now text c.requires c.args.before (ltb-false c.args.before (length text) (sym c.in-None.ensures.lookup.0))
