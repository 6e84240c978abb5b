use Rattle.std.proofs.Common.{◌≡◌, true, sym, ◌∙◌, refl}
use Rattle.std.proofs.lemmas.Bool.{false≢true}
use Rattle.ew_model.specs.Names.{is_name}
use Rattle.ew_model.proofs.NameLaws.{name_from, no_name_from, padded_name}
use Rattle.ew_model.proofs.name.Name.read.Goals as goal

pub returns-in-Some-clause-name : goal.returns-in-Some-clause-name
returns-in-Some-clause-name c =
    let none = no_name_from c.args.b.now c.in-Some.place (sym c.find_bad.ensures.place ∙ c.in-Some.is) in
    ((λ ok. absurd (false≢true ok)), (λ name. absurd (false≢true (sym none ∙ name))))

pub invariant_of-result : goal.invariant_of-result
invariant_of-result c =
    let name : is_name c.args.b.now ≡ true =
    name_from c.args.b.now (sym c.is_empty.ensures ∙ c.if-is_empty.false) c.if-b-gt-LONGEST_NAME.false (sym c.find_bad.ensures.place ∙ c.in_default.is)
    in
    rw c.copy_from_slice.ensures.after (padded_name c.args.b.now name c.if-b-gt-LONGEST_NAME.false)

pub returns-clause-name : goal.returns-clause-name
returns-clause-name c =
    ((λ ok. name_from c.args.b.now (sym c.is_empty.ensures ∙ c.if-is_empty.false) c.if-b-gt-LONGEST_NAME.false (sym c.find_bad.ensures.place ∙ c.in_default.is)), (λ name. refl))
