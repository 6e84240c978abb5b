-- The verdict on the event that a walk comes to.
use Rattle.std.proofs.Common.{◌≡◌, ℕ, Bool, true, false, not, cond, nat_lt, List, [], ◌∷◌, ◌++◌, find, length, Option, Some, None, option_map, refl, sym, ap, ◌∙◌, append_assoc, append-nil}
use Rattle.std.specs.List.{list_any, AllByRecursion}
use Rattle.std.specs.Bool.{then_some}
use Rattle.ew_model.specs.declared.id.Id.{Id}
use Rattle.ew_model.specs.declared.event.Event.{Event}
use Rattle.ew_model.specs.Ids.{is_among, ids_ascend}
use Rattle.ew_model.specs.Events.{event_eq}
use Rattle.ew_model.specs.Ancestors.{is_held, is_reduced}
use Rattle.ew_model.specs.Texts.{text_at}
use Rattle.ew_model.specs.Verdicts.{Ruling, first_row, id_rows, parent_rows, range_rows, is_outside, graph_verdict, next_verdict, follows_its_agent, is_verdict_good, IsGood, IsGoodAfter, first_bad, first_bad_after}
use Rattle.ew_model.specs.Verdicts.Ruling.{Repeat, Clash, SelfParent, TooManyParents, ParentsUnsorted, Unknown, NotReduced, Skipped, Good, OutOfRange}
use Rattle.ew_model.proofs.KeptLaws.{good-push}

-- the row never answers Good
abbrev NeverGood : Option Ruling → Type 0
NeverGood row = row ≡ Some Good → ⊥

never : (b : Bool) (r : Ruling) → (r ≡ Good → ⊥) → NeverGood (then_some b r)
never true r n h = n cc
never false r n h = let no : ⊥ = cc in no

never_unknown : (o : Option Id) → NeverGood (option_map Unknown o)
never_unknown (Some p) h = let no : ⊥ = cc in no
never_unknown None h = let no : ⊥ = cc in no

-- where no row holds, the later ones decide
later_decide : (rows more : List (Option Ruling)) → AllByRecursion NeverGood rows → first_row rows ≡ Good → first_row (rows ++ more) ≡ first_row more
later_decide [] more n h = refl
later_decide (None ∷ rows) more n h = later_decide rows more n.1 h
later_decide (Some r ∷ rows) more n h = absurd (n.0 (ap (λ (q : Ruling). Some q) h))

rows_never_good : (held : List Event) (e : Event) → AllByRecursion NeverGood (id_rows held [] e ++ parent_rows held e)
unfolding id_rows parent_rows
rows_never_good held e = (
  never (list_any (event_eq e) (held ++ [])) Repeat (λ q. cc),
  (
    never (is_held (held ++ []) e.id) Clash (λ q. cc),
    (
      never (is_among e.parents e.id) SelfParent (λ q. cc),
      (
        never (nat_lt 16 (length e.parents)) TooManyParents (λ q. cc),
        (
          never (not (ids_ascend e.parents)) ParentsUnsorted (λ q. cc),
          (
            never_unknown (find (λ p. not (is_held held p)) e.parents),
            (
              never (not (is_reduced held e.parents)) NotReduced (λ q. cc),
              (never (not (follows_its_agent held e)) Skipped (λ q. cc), tt),
            ),
          ),
        ),
      ),
    ),
  ),
)

-- an event that the graph takes is judged by its index alone
by_range : (held : List Event) (e : Event) → graph_verdict held e ≡ Good → next_verdict held e ≡ first_row (range_rows held e)
unfolding next_verdict id_rows parent_rows range_rows
by_range held e h =
    ap first_row (sym (append_assoc (id_rows held [] e) (parent_rows held e) (range_rows held e)))
    ∙ later_decide (id_rows held [] e ++ parent_rows held e) (range_rows held e) (rows_never_good held e) h

pub in_range : (held : List Event) (e : Event) (len : ℕ) → graph_verdict held e ≡ Good → len ≡ length (text_at held e.parents) → is_outside len e.op ≡ false → next_verdict held e ≡ Good
unfolding range_rows
in_range held e len h same inside =
    by_range held e h
    ∙ ap (λ b. first_row (then_some b (OutOfRange (length (text_at held e.parents))) ∷ [])) (ap (λ n. is_outside n e.op) (sym same) ∙ inside)

pub out_of_range : (held : List Event) (e : Event) (len : ℕ) → graph_verdict held e ≡ Good → len ≡ length (text_at held e.parents) → is_outside len e.op ≡ true → next_verdict held e ≡ OutOfRange len
unfolding range_rows
out_of_range held e len h same outside =
    by_range held e h
    ∙ ap (λ b. first_row (then_some b (OutOfRange (length (text_at held e.parents))) ∷ [])) (ap (λ n. is_outside n e.op) (sym same) ∙ outside)
    ∙ ap OutOfRange (sym same)

-- GOOD EVENTS, AND THE FIRST BAD ONE
-- GOOD EVENTS, AND THE FIRST BAD ONE
-- one more good event
pub good_more : (front : List Event) (e : Event) → IsGood front → next_verdict front e ≡ Good → IsGood (front ++ e ∷ [])
unfolding IsGood
good_more front e h v = good-push [] front e h v

pub behind_good : (held front later : List Event) → IsGoodAfter held front → first_bad_after held (front ++ later) ≡ first_bad_after (held ++ front) later
behind_good held [] later h = ap (λ (l : List Event). first_bad_after l later) (sym (append-nil held))
behind_good held (e ∷ front) later h =
    ap (λ (r : Ruling). cond (is_verdict_good r) (first_bad_after (held ++ e ∷ []) (front ++ later)) (Some (record { position = length held; verdict = r }))) h.0
    ∙ behind_good (held ++ e ∷ []) front later h.1
    ∙ ap (λ (l : List Event). first_bad_after l later) (append_assoc held (e ∷ []) front)

-- the event out of range behind good ones is the first bad one
pub first_bad_is : (front : List Event) (e : Event) (later : List Event) (len : ℕ) → IsGood front → next_verdict front e ≡ OutOfRange len → first_bad (front ++ e ∷ later) ≡ Some (record { position = length front; verdict = OutOfRange len })
unfolding first_bad IsGood
first_bad_is front e later len h v =
    behind_good [] front (e ∷ later) h
    ∙ ap (λ (r : Ruling). cond (is_verdict_good r) (first_bad_after (front ++ e ∷ []) later) (Some (record { position = length front; verdict = r }))) v
