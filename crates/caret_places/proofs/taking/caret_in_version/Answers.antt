use Rattle.std.proofs.Common.{◌≡◌, ◌+◌, ◌-◌, ◌<◌, List, length, sym, ap, ◌∙◌, arith}
use Rattle.ew_model.specs.Entries.{Inserted}
use Rattle.carets.specs.Sides.{caret_in, text_chars}
use Rattle.history_laws.proofs.VersionHistories.{part_good}
use Rattle.caret_places.proofs.Versions.{no_caret, part_chars, text_long}
use Rattle.caret_places.proofs.taking.caret_in_version.Goals as goal

pub shown-requires : goal.shown-requires
shown-requires g c = part_good c.args.graph.now c.in_ok-part.part c.args.version.now c.requires c.in_ok-part.ensures.events

pub returns-in-Some-caret_behind-clause-caret : goal.returns-in-Some-caret_behind-clause-caret
returns-in-Some-caret_behind-clause-caret g c =
    let part = c.in_ok-part.part in
    let back : c.args.at ≡ c.args.at - 1 + 1 = omega arith in
    ap (λ (zs : List Inserted). caret_in zs c.args.at) (sym (part_chars c.args.graph.now part c.args.version.now c.requires c.in_ok-part.ensures.events))
    ∙ ap (caret_in (text_chars part)) back
    ∙ sym c.in-Some-caret_behind.ensures

pub returns-clause-out_of_range : goal.returns-clause-out_of_range
returns-clause-out_of_range g c len e =
    let part = c.in_ok-part.part in
    let same : c.len-len.result ≡ len = cc in
    let long : c.len-len.result ≡ length (text_chars part) = c.len-len.ensures ∙ c.in_ok-text.text.ok.0 ∙ text_long part c.in_ok-text.text.items c.in_ok-text.ensures.shown in
    let past : length (text_chars part) < c.args.at - 1 + 1 = no_caret (text_chars part) (c.args.at - 1 + 1) c.in-None.ensures in (
      sym same ∙ long ∙ ap (length {A = Inserted}) (part_chars c.args.graph.now part c.args.version.now c.requires c.in_ok-part.ensures.events),
      omega (arith, same, long, past),
    )
