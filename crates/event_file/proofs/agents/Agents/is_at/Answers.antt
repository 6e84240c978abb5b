use Rattle.std.proofs.Common.{◌≡◌, ◌∙◌, ℕ, List, [], length, Some, refl, sym, ap, subst}
use Rattle.std.specs.Prelude.{slice_get}
use Rattle.std.proofs.lemmas.Option.{slice_get_read}
use Rattle.ew_model.specs.Distinct.{AreDistinct}
use Rattle.ew_model.specs.Ids.{name_eq}
use Rattle.ew_model.proofs.ListPlaces.{place_of, there_among}
use Rattle.ew_model.proofs.IdLaws.{names_equal, name_exact}
use Rattle.event_file.proofs.agents.Agents.is_at.Goals as goal

pub returns-in-Some-clause-there : goal.returns-in-Some-clause-there
returns-in-Some-clause-there c h =
    let rows = c.deref.result.now in
    let read = slice_get_read rows (length rows) c.args.place c.in-Some.there.now refl c.in-Some.ensures.lookup.3.0 c.in-Some.ensures.lookup.1 in
    let at = subst (λ (names : List (List ℕ)). slice_get names c.args.place ≡ Some c.in-Some.there.now) (c.deref.ensures.value ∙ c.self.view_is) read ∙ ap (λ (n : List ℕ). Some n) (c.is.ensures.0 h) in
    there_among name_eq names_equal name_exact c.args.self.now c.args.place c.args.name.now at

pub returns-in-Some-clause-place : goal.returns-in-Some-clause-place
returns-in-Some-clause-place c h =
    let rows = c.deref.result.now in
    let read = slice_get_read rows (length rows) c.args.place c.in-Some.there.now refl c.in-Some.ensures.lookup.3.0 c.in-Some.ensures.lookup.1 in
    let at = subst (λ (names : List (List ℕ)). slice_get names c.args.place ≡ Some c.in-Some.there.now) (c.deref.ensures.value ∙ c.self.view_is) read ∙ ap (λ (n : List ℕ). Some n) (c.is.ensures.0 h) in
    let distinct = subst (AreDistinct name_eq) c.self.view_is c.self.invariant.1 in
    sym (place_of name_eq names_equal name_exact [] c.args.self.now c.args.place c.args.name.now distinct at)
