-- What an admitted history is known to be.
use Rattle.std.proofs.Common.{◌≡◌, ℕ, zero, suc, ◌≤◌, nat_lt, Bool, true, false, not, List, [], ◌∷◌, ◌++◌, find, take, length, Option, Some, None, option_map, refl, sym, ap, ◌∙◌, subst, append-nil, append_assoc}
use Rattle.std.specs.Prelude.{slice_get}
use Rattle.std.specs.List.{list_any, AllByRecursion}
use Rattle.std.specs.Bool.{then_some}
use Rattle.std.proofs.lemmas.Bool.{not-false, ltb-false}
use Rattle.ew_model.specs.declared.id.Id.{Id}
use Rattle.ew_model.specs.declared.event.Event.{Event}
use Rattle.ew_model.specs.Ids.{is_among, ids_ascend}
use Rattle.ew_model.specs.Events.{event_eq}
use Rattle.ew_model.specs.Ancestors.{is_held, is_reduced}
use Rattle.ew_model.specs.Verdicts.{Ruling, first_row, id_rows, parent_rows, graph_verdict, follows_its_agent}
use Rattle.ew_model.specs.Verdicts.Ruling.{Repeat, Clash, SelfParent, TooManyParents, ParentsUnsorted, Unknown, NotReduced, Skipped, Good}
use Rattle.ew_model.specs.PositionLaws.{AgreesByPositions}
use Rattle.ew_model.specs.Positions.{parent_positions}
use Rattle.ew_model.specs.Cuts.{is_critical}
use Rattle.ew_model.specs.Positions.{is_cut_at}
use Rattle.ew_model.proofs.VersionLaws.{find_none}
use Rattle.ew_model.proofs.EntryLaws.{LaidOut, NoneHeld, none_held, none_held_less}
use Rattle.ew_model.proofs.GoodLaws.{no_parent, held_from}
use Rattle.ew_model.proofs.PositionAgreement.{greatest_alike, versions_agree, known_agrees, heads_agree, reduced_agree, cut_agrees, cuts_agree, history_agrees}
use Rattle.event_graph.specs.Keeping.{AreAdmittedAfter, IsAdmitted}

-- what the rows say of an event that is judged good
pub record IsLetIn (held : List Event) (e : Event) : Type 0 where
  pub new : is_held held e.id ≡ false
  pub parents : AllByRecursion (λ p. is_held held p ≡ true) e.parents
  pub few : length e.parents ≤ 16
  pub ascend : ids_ascend e.parents ≡ true
  pub reduced : is_reduced held e.parents ≡ true
  pub follows : follows_its_agent held e ≡ true

known : (o : Option Id) (rows : List (Option Ruling)) → first_row (option_map Unknown o ∷ rows) ≡ Good → (o ≡ None) × (first_row rows ≡ Good)
known None rows h = (refl, h)
known (Some p) rows h = let no : ⊥ = cc in absurd no

-- a row that doesn't say Good doesn't hold
off : (b : Bool) (r : Ruling) (rows : List (Option Ruling)) → (r ≡ Good → ⊥) → first_row (then_some b r ∷ rows) ≡ Good → (b ≡ false) × (first_row rows ≡ Good)
off true r rows n h = absurd (n h)
off false r rows n h = (refl, h)

pub let_in : (held : List Event) (e : Event) → graph_verdict held e ≡ Good → IsLetIn held e
unfolding id_rows parent_rows
let_in held e good =
    let repeat = off (list_any (event_eq e) (held ++ [])) Repeat _ (λ q. cc) good in
    let clash = off (is_held (held ++ []) e.id) Clash _ (λ q. cc) repeat.1 in
    let own = off (is_among e.parents e.id) SelfParent _ (λ q. cc) clash.1 in
    let many = off (nat_lt 16 (length e.parents)) TooManyParents _ (λ q. cc) own.1 in
    let unsorted = off (not (ids_ascend e.parents)) ParentsUnsorted _ (λ q. cc) many.1 in
    let unknown = known (find (λ p. not (is_held held p)) e.parents) _ unsorted.1 in
    let not_reduced = off (not (is_reduced held e.parents)) NotReduced _ (λ q. cc) unknown.1 in
    let skipped = off (not (follows_its_agent held e)) Skipped _ (λ q. cc) not_reduced.1 in
    record {
      new = ap (λ (l : List Event). is_held l e.id) (sym (append-nil held)) ∙ clash.0;
      parents = held_from held e.parents (find_none (λ p. not (is_held held p)) e.parents unknown.0);
      few = ltb-false 16 (length e.parents) many.0;
      ascend = not-false (ids_ascend e.parents) unsorted.0;
      reduced = not-false (is_reduced held e.parents) not_reduced.0;
      follows = not-false (follows_its_agent held e) skipped.0;
    }

no_parents : (held : List Event) (parents : List Id) (events : List Event) → AllByRecursion (λ p. is_held held p ≡ true) parents → NoneHeld held events → AllByRecursion (λ (f : Event). is_among parents f.id ≡ false) events
no_parents held parents [] h n = tt
no_parents held parents (f ∷ events) h n = (no_parent held parents f.id h n.0, no_parents held parents events h n.1)

laid_after : (before later : List Event) → AreAdmittedAfter before later → LaidOut before later
laid_after before [] h = tt
laid_after before (e ∷ later) h =
    let next = let_in before e h.0 in
    let rest = laid_after (before ++ e ∷ []) later h.1 in
    (next.new, no_parents before e.parents (e ∷ later) next.parents (next.new, none_held_less before e later (none_held (before ++ e ∷ []) later rest)), rest)

pub laid : (history : List Event) → IsAdmitted history → LaidOut [] history
laid history h = laid_after [] history h

few_after : (before later : List Event) → AreAdmittedAfter before later → AllByRecursion (λ (e : Event). length e.parents ≤ 16) later
few_after before [] h = tt
few_after before (e ∷ later) h = ((let_in before e h.0).few, few_after (before ++ e ∷ []) later h.1)

pub ascend_after : (before later : List Event) → AreAdmittedAfter before later → AllByRecursion (λ (e : Event). ids_ascend e.parents ≡ true) later
ascend_after before [] h = tt
ascend_after before (e ∷ later) h = ((let_in before e h.0).ascend, ascend_after (before ++ e ∷ []) later h.1)

-- An admitted history and its parents' positions tell the same.
pub agrees : (history : List Event) → IsAdmitted history → AgreesByPositions history
agrees history admitted =
    let there = laid history admitted in
    record {
      parents = history_agrees history there (few_after [] history admitted);
      versions = versions_agree history there;
      known = known_agrees history there;
      heads = heads_agree history there;
      reduced = reduced_agree history there;
      cut = cut_agrees history there;
      latest = greatest_alike (is_cut_at (parent_positions history)) (is_critical history) (cut_agrees history there);
      cuts = cuts_agree history there;
    }

-- an event that is judged good extends an admitted history
more_after : (before events : List Event) (e : Event) → AreAdmittedAfter before events → graph_verdict (before ++ events) e ≡ Good → AreAdmittedAfter before (events ++ e ∷ [])
more_after before [] e h v = (ap (λ (w : List Event). graph_verdict w e) (sym (append-nil before)) ∙ v, tt)
more_after before (f ∷ events) e h v = (h.0, more_after (before ++ f ∷ []) events e h.1 (ap (λ (w : List Event). graph_verdict w e) (append_assoc before (f ∷ []) events) ∙ v))

pub more : (history : List Event) (e : Event) → IsAdmitted history → graph_verdict history e ≡ Good → IsAdmitted (history ++ e ∷ [])
more history e h v = more_after [] history e h v

-- the event at a place, behind those before it
admitted_after : (before history : List Event) (n : ℕ) (e : Event) → AreAdmittedAfter before history → slice_get history n ≡ Some e → graph_verdict (before ++ take n history) e ≡ Good
admitted_after before [] n e h at = let no : ⊥ = cc in absurd no
admitted_after before (f ∷ history) zero e h at =
    let here : f ≡ e = cc in subst (λ (g : Event). graph_verdict (before ++ []) g ≡ Good) here (ap (λ (w : List Event). graph_verdict w f) (append-nil before) ∙ h.0)
admitted_after before (f ∷ history) (suc n) e h at = ap (λ (w : List Event). graph_verdict w e) (sym (append_assoc before (f ∷ []) (take n history))) ∙ admitted_after (before ++ f ∷ []) history n e h.1 at

pub admitted_at : (history : List Event) (n : ℕ) (e : Event) → IsAdmitted history → slice_get history n ≡ Some e → graph_verdict (take n history) e ≡ Good
admitted_at history n e h at = admitted_after [] history n e h at
