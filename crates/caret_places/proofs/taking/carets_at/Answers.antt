use Rattle.std.proofs.Common.{◌≡◌, ◌<◌, ℕ, List, length, map, get_or, sym, ap, ◌∙◌, arith}
use Rattle.std.proofs.lemmas.List.{take_all}
use Rattle.std.proofs.lemmas.Option.{slice_get-get_or}
use Rattle.ew_model.specs.Entries.{Inserted}
use Rattle.ew_model.proofs.OperationLaws.{got}
use Rattle.carets.specs.Sides.{caret_in, text_chars}
use Rattle.history_laws.proofs.VersionHistories.{part_good}
use Rattle.caret_places.proofs.Versions.{no_caret, part_chars, text_long}
use Rattle.caret_places.proofs.taking.carets_at.Goals as goal

pub shown-requires : goal.shown-requires
shown-requires g c = part_good c.args.graph.now c.in_ok-part.part c.args.version.now c.requires c.in_ok-part.ensures.events

pub returns-in-None-clause-out_of_range : goal.returns-in-None-clause-out_of_range
returns-in-None-clause-out_of_range g c len e =
    let part = c.in_ok-part.part in
    let indexes = c.args.indexes.now in
    let place = c.loop-at.at-index in
    let at : ℕ = get_or indexes place 0 in
    let same : c.len-len.result ≡ len = cc in
    let long : c.len-len.result ≡ length (text_chars part) = c.len-len.ensures ∙ c.in_ok-text.text.ok.0 ∙ text_long part c.in_ok-text.text.items c.in_ok-text.ensures.shown in
    let past : length (text_chars part) < at = no_caret (text_chars part) at c.in-None.ensures in (
      sym same ∙ long ∙ ap (length {A = Inserted}) (part_chars c.args.graph.now part c.args.version.now c.requires c.in_ok-part.ensures.events),
      (at, got indexes place at (slice_get-get_or indexes place 0 c.loop-at-test.true), omega (arith, same, long, past)),
    )

pub returns-clause-carets : goal.returns-clause-carets
returns-clause-carets g c =
    let part = c.in_ok-part.part in
    let indexes = c.args.indexes.now in
    c.loop-at.invariant
    ∙ ap (λ (ns : List ℕ). map (caret_in (text_chars part)) ns) (take_all c.loop-at.at-index indexes c.loop-at-test.false)
    ∙ ap (λ (zs : List Inserted). map (caret_in zs) indexes) (part_chars c.args.graph.now part c.args.version.now c.requires c.in_ok-part.ensures.events)
