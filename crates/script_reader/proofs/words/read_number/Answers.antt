use Rattle.std.proofs.Common.{IfNone, IfSome, ◌≡◌, sym, subst}
use Rattle.std.specs.Fmt.{decimal}
use Rattle.std.specs.Str.Parse.{ParsesUnsigned}
use Rattle.std.proofs.lemmas.Bool.{iff_false}
use Rattle.script_reader.proofs.Numbers.{SpellsNone, extra_spells_none, no_text_spells_none, text_is_word, parsed, unparsed}
use Rattle.script_reader.proofs.words.read_number.Goals as goal
use Rattle.ew_model.proofs.Outcomes.{if_none}

pub returns-then-begins_with_extra-clause-none : goal.returns-then-begins_with_extra-clause-none
returns-then-begins_with_extra-clause-none c = extra_spells_none c.args.word.now (c.begins_with_extra.ensures.0 c.if-begins_with_extra.true)

pub returns-in_err-ok-clause-none : goal.returns-in_err-ok-clause-none
returns-in_err-ok-clause-none c =
    if_none _ _ (no_text_spells_none c.args.word.now c.from_utf8.result _ c.from_utf8.ensures.cases c.in_err-ok.ensures.value)

pub returns-clause-number : goal.returns-clause-number
returns-clause-number c =
    let word = c.args.word.now in
    let same = text_is_word word c.from_utf8.result _ c.in_ok-ok.field-0 c.from_utf8.ensures.cases c.in_ok-ok.ensures.value in
    let reads = subst (λ x. ParsesUnsigned 32 10 x c.parse.result) same c.parse.ensures.value.0 in
    let read = parsed word c.parse.result reads (iff_false c.begins_with_extra.ensures c.if-begins_with_extra.false) in
    subst (λ x. IfSome x (λ n. decimal n ≡ word)) (sym c.ok-2.ensures.value) read

pub returns-clause-none : goal.returns-clause-none
returns-clause-none c =
    let word = c.args.word.now in
    let same = text_is_word word c.from_utf8.result _ c.in_ok-ok.field-0 c.from_utf8.ensures.cases c.in_ok-ok.ensures.value in
    let reads = subst (λ x. ParsesUnsigned 32 10 x c.parse.result) same c.parse.ensures.value.0 in
    subst (λ x. IfNone x (SpellsNone word)) (sym c.ok-2.ensures.value) (unparsed word c.parse.result reads)
