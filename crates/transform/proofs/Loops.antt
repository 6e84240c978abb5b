-- How a walk begins, goes on and ends.
use Rattle.std.proofs.Common.{◌≡◌, ℕ, zero, suc, ◌+◌, ◌-◌, ◌<◌, ◌≤◌, nat_eq, nat_lt, nat_le, Bool, true, false, cond, List, [], ◌∷◌, ◌++◌, length, take, drop, Option, Some, None, refl, sym, ap, ◌∙◌, subst, arith, length-append, append-nil, eq-eqb, ne_eqb}
use Rattle.std.specs.Prelude.{slice_get}
use Rattle.std.proofs.lemmas.Bool.{leb-true, leb-false, ltb-true, ltb-false}
use Rattle.std.proofs.lemmas.List.{take-append-drop, drop-append-le, drop_all, take_all, length-take-le}
use Rattle.ew_model.specs.declared.event.Event.{Event}
use Rattle.ew_model.specs.declared.text_op.TextOp.{TextOp}
use Rattle.std.specs.List.{list_any}
use Rattle.std.specs.Option.{is_some}
use Rattle.ew_model.specs.Ids.{id_eq}
use Rattle.ew_model.specs.Ancestors.{ids_of}
use Rattle.ew_model.specs.Cuts.{is_critical, latest_cut}
use Rattle.ew_model.specs.Entries.{visible}
use Rattle.ew_model.specs.Operations.{operations}
use Rattle.ew_model.specs.Records.{applied_entries, prepared_entries}
use Rattle.ew_model.specs.Tree.{Applied as Given, based, tree_of}
use Rattle.ew_model.specs.Sound.{AreSound}
use Rattle.ew_model.specs.Touches.{touches, touches_after}
use Rattle.ew_model.specs.TouchLaws.{prepared_after, prepared_from}
use Rattle.ew_model.specs.Verdicts.{IsGood, first_bad, next_verdict}
use Rattle.ew_model.specs.Verdicts.Ruling.{OutOfRange as Outside}
use Rattle.ew_model.specs.Walks.{base_at, walked_after, walked_from}
use Rattle.ew_model.proofs.BaseLaws.{base_long}
use Rattle.ew_model.proofs.FirstBadLaws.{good_has_no_bad}
use Rattle.ew_model.proofs.TouchSteps.{touches_add}
use Rattle.advance_retreat.specs.Kept.{Kept}
use Rattle.advance_retreat.specs.Standing.{StandsFor}
use Rattle.event_graph.specs.Keeping.{IsAdmitted}
use Rattle.transform.specs.Reaching.{InLine, IsBehind, IsReadyAt, Reached, ReadyAt, StandsAt, Turned, TurnedAt, WalkedTo, over_since, prepared_since}
use Rattle.transform.specs.Walking.{StandsBehind, bad_at, cut_left}
use Rattle.transform.specs.declared.apply.Turn.{Turn}
use Rattle.transform.specs.declared.apply.Turn.TheVariants.{Applied, OutOfRange}
use Rattle.transform.proofs.Applies.{ready, same_length}
use Rattle.transform.proofs.CutFronts.{same_base}
use Rattle.transform.proofs.Judging.{first_bad_is}
use Rattle.transform.proofs.Lines.{touched_alone, whole_text}
use Rattle.transform.proofs.Sides.{split_at, take_next, length_front}
use Rattle.ew_model.proofs.ListParts.{element_there}
use Rattle.ew_model.proofs.TextLengths.{length_operations}

-- CUTS
-- a place that is critical is the latest cut up to itself
pub latest_here : (history : List Event) (n : ℕ) → is_critical history n ≡ true → latest_cut history n ≡ n
latest_here history zero h = refl
latest_here history (suc n) h = ap (λ b. cond b (suc n) (latest_cut history n)) h

-- and one that isn't changes nothing
pub latest_before : (history : List Event) (n : ℕ) → 0 < n → is_critical history n ≡ false → latest_cut history n ≡ latest_cut history (n - 1)
latest_before history zero some h = let no : ⊥ = omega (arith, some) in absurd no
latest_before history (suc n) some h = let less : n ≡ suc n - 1 = omega arith in ap (λ b. cond b (suc n) (latest_cut history n)) h ∙ ap (latest_cut history) less

-- THE BEGINNING
-- all is prepared where a walk begins
all_prepared : (history : List Event) (n : ℕ) → n ≤ length history → prepared_from (take n history) n ≡ ids_of (take n history)
all_prepared history n within =
    let front = take n history in
    let long : length front ≤ n = omega (arith, length-take-le n history within) in
    (λ i. prepared_after (take_all n front long i) (ids_of (take_all n front long i)) (drop_all n front long i))

pub starts : (history : List Event) (cut len : ℕ) (state : Kept) → cut ≤ length history → is_critical history cut ≡ true → IsGood (take cut history) → StandsFor state (base_at history cut) [] [] → len ≡ base_at history cut → WalkedTo history cut cut (Some len) state
starts history cut len state within critical good stands is = record {
  behind = record { low = omega arith; critical = critical; good = good };
  long = is;
  prepared = λ x. ap (λ ids. list_any (id_eq x) ids) (all_prepared history cut within);
  begins = λ same. stands;
  goes_on = λ behind. let no : ⊥ = omega (arith, behind) in absurd no;
}

base_alone : (b : ℕ) → applied_entries b [] ≡ based b
unfolding tree_of
base_alone b = append-nil (based b)

-- the length of a fresh state's text
pub base_length : (history : List Event) (cut : ℕ) (state : Kept) (len : ℕ) → StandsFor state (base_at history cut) [] []
    → ((b : ℕ) (events : List (Given ℕ)) (prepared : List ℕ) → StandsFor state b events prepared → len ≡ length (visible (applied_entries b events))) → len ≡ base_at history cut
base_length history cut state len stands told = told (base_at history cut) [] [] stands ∙ ap (λ es. length (visible es)) (base_alone (base_at history cut)) ∙ base_long (base_at history cut)

pub starts_empty : (history : List Event) (cut n : ℕ) (ops : List TextOp) → cut ≤ length history → cut ≤ n → ops ≡ [] → ops ≡ drop n (operations (take cut history))
starts_empty history cut n ops within low empty = empty ∙ sym (drop_all n (operations (take cut history)) (omega (arith, length_operations (take cut history), length-take-le cut history within, low)))

pub starts_untouched : (history : List Event) (cut steps : ℕ) → cut ≤ length history → steps ≡ steps + touches (take cut history) cut
unfolding touches
starts_untouched history cut steps within =
    let front = take cut history in
    let none : drop cut front ≡ [] = drop_all cut front (omega (arith, length-take-le cut history within)) in
    omega (arith, ap (λ (es : List Event). touches_after (take cut front) (ids_of (take cut front)) es) none)

-- ONE TURN
-- what an apply answers, in the whole history
pub turned_at : (history : List Event) (cut n : ℕ) (e : Event) (state : Kept) (turn : Turn) → IsBehind history cut n → slice_get history n ≡ Some e → Turned (take n history) cut e state turn → TurnedAt history cut n state turn
turned_at history cut n e state (Applied op) behind at t =
    let next = take_next history n e at in
    let reached : Reached history cut (n + 1) state = record {
      some = omega (arith, behind.low);
      behind = record { low = omega (arith, behind.low); critical = behind.critical; good = subst IsGood (sym next) t.0 };
      stands = subst (λ b. StandsFor state b (walked_from (take (n + 1) history) cut) (prepared_since (take (n + 1) history) cut)) (same_base history cut n behind.low)
          (subst (λ (es : List Event). StandsFor state (base_at (take n history) cut) (walked_from es cut) (prepared_since es cut)) (sym next) t.1);
    } in
    (reached, ap operations next ∙ t.2)
turned_at history cut n e state (OutOfRange len) behind at t = (
  λ f there. let same : e ≡ f = cc in subst (λ (g : Event). next_verdict (take n history) g ≡ Outside len) same t.0,
  (t.1.0, subst (λ b. StandsFor state b (walked_from (take n history) cut) t.1.0) (same_base history cut n behind.low) t.1.1),
)

-- the event at a place is ready, where what it was made over is prepared
pub ready_over : (history : List Event) (cut n : ℕ) (e : Event) (state : Kept) → IsBehind history cut n → slice_get history n ≡ Some e → StandsAt history cut n (over_since (take n history) cut e) state → IsReadyAt history cut n state
ready_over history cut n e state behind at stands = record {
  behind = behind;
  stands = λ f there. let same : e ≡ f = cc in subst (λ (g : Event). StandsAt history cut n (over_since (take n history) cut g) state) same stands;
}

-- in line all is ready
pub ready_in_line : (history : List Event) (from n : ℕ) (line : Option ℕ) (state : Kept) → is_some line ≡ true → WalkedTo history from n line state → ReadyAt history n line state
ready_in_line history from n (Some len) state some h = (h.behind, h.long)
ready_in_line history from n None state some h = let no : ⊥ = cc in absurd no

pub steps_in_line : (history : List Event) (from n : ℕ) (line : Option ℕ) (e : Event) (state : Kept) → IsAdmitted history → slice_get history n ≡ Some e → is_some line ≡ true → from ≤ n → WalkedTo history from n line state → touches (take (n + 1) history) from ≡ touches (take n history) from + 1
steps_in_line history from n (Some len) e state admitted at some low h = touched_alone history n e admitted at h.behind.critical from low h.prepared
steps_in_line history from n None e state admitted at some low h = let no : ⊥ = cc in absurd no

-- else the state is kept
pub not_in_line : (history : List Event) (from n : ℕ) (line : Option ℕ) (state : Kept) → is_some line ≡ false → WalkedTo history from n line state → WalkedTo history from n None state
not_in_line history from n (Some len) state none h = let no : ⊥ = cc in absurd no
not_in_line history from n None state none h = h

-- where the moves led
pub ready_between : (history : List Event) (n : ℕ) (e : Event) (state later : Kept) → slice_get history n ≡ Some e → is_critical history n ≡ false → Reached history (latest_cut history (n - 1)) n state
    → StandsAt history (latest_cut history (n - 1)) n (over_since (take n history) (latest_cut history (n - 1)) e) later → ReadyAt history n None later
ready_between history n e state later at plain reached stands =
    subst (λ c. IsReadyAt history c n later) (sym (latest_before history n (omega (arith, reached.some)) plain)) (ready_over history (latest_cut history (n - 1)) n e later reached.behind at stands)

pub ready_at_cut : (history : List Event) (cut n len : ℕ) (e : Event) (state later : Kept) → IsAdmitted history → AreSound history → slice_get history n ≡ Some e → is_critical history n ≡ true → Reached history cut n state
    → StandsAt history cut n (over_since (take n history) cut e) later → len ≡ length (visible (prepared_entries (base_at history cut) (walked_from (take n history) cut) (over_since (take n history) cut e))) → ReadyAt history n (Some len) later
ready_at_cut history cut n len e state later admitted sound at critical reached stands is =
    let front = take n history in
    let here : IsReadyAt history cut n later = ready_over history cut n e later reached.behind at stands in (
      record { low = omega arith; critical = critical; good = reached.behind.good },
      is ∙ ap (λ b. length (visible (prepared_entries b (walked_from front cut) (over_since front cut e)))) (sym (same_base history cut n reached.behind.low))
          ∙ same_length front cut e later (ready history cut n e later admitted sound at here)
          ∙ ap (length {A = ℕ}) (whole_text history n e admitted at critical),
    )

-- THE OPERATIONS
emitted_by : (n : ℕ) (xs : List TextOp) (op : TextOp) (b : Bool) → nat_le n (length xs) ≡ b → cond b (drop n xs ++ op ∷ []) (drop n xs) ≡ drop n (xs ++ op ∷ [])
emitted_by n xs op true q = sym (drop-append-le n xs (op ∷ []) (leb-true n (length xs) q))
emitted_by n xs op false q =
    let far : length xs < n = leb-false n (length xs) q in
    drop_all n xs (omega (arith, far)) ∙ sym (drop_all n (xs ++ op ∷ []) (omega (arith, far, length-append xs (op ∷ []))))

-- an operation is handed out where it is asked for
pub emitted : (history : List Event) (position n : ℕ) (old new : List TextOp) (op : TextOp) → position ≤ length history → operations (take (position + 1) history) ≡ operations (take position history) ++ op ∷ []
    → old ≡ drop n (operations (take position history)) → new ≡ cond (nat_le n position) (old ++ op ∷ []) old → new ≡ drop n (operations (take (position + 1) history))
emitted history position n old new op within more before after =
    let front = take position history in
    let long : position ≡ length (operations front) = sym (length_operations front ∙ length-take-le position history within) in
    after
    ∙ (λ i. cond (nat_le n (long i)) (before i ++ op ∷ []) (before i))
    ∙ emitted_by n (operations front) op (nat_le n (length (operations front))) refl
    ∙ ap (drop n) (sym more)

-- one more event was walked
pub goes_on : (history : List Event) (cut n : ℕ) (state : Kept) (turn : Turn) (op : TextOp) → turn ≡ Applied op → TurnedAt history cut n state turn → Reached history cut (n + 1) state × (operations (take (n + 1) history) ≡ operations (take n history) ++ op ∷ [])
goes_on history cut n state turn op is turned = subst (TurnedAt history cut n state) is turned

-- THE END
good_to : (history : List Event) (from n : ℕ) (line : Option ℕ) (state : Kept) → WalkedTo history from n line state → IsGood (take n history)
good_to history from n (Some len) state h = h.behind.good
good_to history from n None state h = h.1.behind.good

-- the first event that is out of range is the first bad one
pub first_outside : (history : List Event) (n len : ℕ) → n < length history → IsGood (take n history) → ((e : Event) → slice_get history n ≡ Some e → next_verdict (take n history) e ≡ Outside len) → Some (bad_at (n, len)) ≡ first_bad history
first_outside history n len within good outside =
    let found = element_there history n within in
    let e = found.0 in
    sym (ap first_bad (split_at history n e found.1) ∙ first_bad_is (take n history) e (drop (suc n) history) len good (outside e found.1) ∙ ap (λ m. Some (bad_at (m, len))) (length_front history n e found.1))

-- and none is where all were walked
pub none_outside : (history : List Event) (n : ℕ) → length history ≡ n → IsGood (take n history) → None ≡ first_bad history
none_outside history n all good = sym ((good_has_no_bad history).0 (subst IsGood (take_all n history (omega (arith, all))) good))

pub stops : (history : List Event) (from position len : ℕ) (state : Kept) → position < length history → IsGood (take position history) → TurnedAt history (latest_cut history position) position state (OutOfRange len)
    → (Some (bad_at (position, len)) ≡ first_bad history) × StandsBehind history (cut_left history from (Some (position, len))) (take position history) state
stops history from position len state within good done = (first_outside history position len within good done.0, record { prepared = done.1.0; stands = done.1.1 })

pub ends : (history : List Event) (from position : ℕ) (line : Option ℕ) (state : Kept) → from ≤ position → length history ≡ position → WalkedTo history from position line state → (None ≡ first_bad history) × StandsBehind history (cut_left history from None) history state
ends history from position line state low all walked = (none_outside history position all (good_to history from position line state walked), left line walked)
  where
    -- a state that was kept
    kept : (b : Bool) → nat_eq from (length history) ≡ b → (from < length history → b ≡ false) → from < position → Reached history (latest_cut history (position - 1)) position state → StandsBehind history (cond b from (latest_cut history (length history - 1))) history state
    kept b q other some reached =
        let same : latest_cut history (position - 1) ≡ cond b from (latest_cut history (length history - 1)) =
        (λ i. latest_cut history (sym all i - 1)) ∙ ap (λ c. cond c from (latest_cut history (length history - 1))) (sym (other (omega (arith, some, all)))) in
        subst (λ c. StandsBehind history c history state) same (record {
          prepared = prepared_since (take position history) (latest_cut history (position - 1));
          stands = subst (λ (es : List Event). StandsFor state (base_at history (latest_cut history (position - 1))) (walked_from es (latest_cut history (position - 1))) (prepared_since (take position history) (latest_cut history (position - 1)))) (take_all position history (omega (arith, all))) reached.stands;
        })

    -- no event was walked
    begun : (b : Bool) → nat_eq from (length history) ≡ b → (from ≡ length history → b ≡ true) → from ≡ position → StandsFor state (base_at history position) [] [] → StandsBehind history (cond b from (latest_cut history (length history - 1))) history state
    begun b q other same stands =
        let cut : position ≡ cond b from (latest_cut history (length history - 1)) = sym same ∙ ap (λ c. cond c from (latest_cut history (length history - 1))) (sym (other (same ∙ sym all))) in
        let none : drop position history ≡ [] = drop_all position history (omega (arith, all)) in
        subst (λ c. StandsBehind history c history state) cut (record {
          prepared = [];
          stands = subst (λ (es : List Event). StandsFor state (base_at history position) (walked_after position (take position history) [] es) []) (sym none) stands;
        })

    left : (line : Option ℕ) → WalkedTo history from position line state → StandsBehind history (cut_left history from None) history state
    left (Some len) h =
        let last : from ≡ position = at_start h in
        begun (nat_eq from (length history)) refl (λ same. eq-eqb from (length history) same) last (h.begins (sym last))
      where
        at_start : InLine history from position len state → from ≡ position
        at_start h = at (nat_lt from position) refl
          where
            at : (b : Bool) → nat_lt from position ≡ b → from ≡ position
            at true q = let more = h.goes_on (ltb-true from position q) in let no : ⊥ = omega (arith, more, all) in absurd no
            at false q = let high = ltb-false from position q in omega (arith, low, high)
    left None h = kept (nat_eq from (length history)) refl (λ some. ne_eqb from (length history) (λ same. omega (arith, some, same))) h.0 h.1

-- no front is touched more than the whole
pub touched : (history : List Event) (k cut : ℕ) → touches (take k history) cut ≤ touches history cut
touched history k cut =
    let grown = touches_add.grow (take k history) (drop k history) cut in
    omega (arith, grown, ap (λ (es : List Event). touches es cut) (take-append-drop k history))

-- THE TURNS
pub turned_over : (history : List Event) (cut n : ℕ) (state later : Kept) (turn : Turn) → n < length history → IsReadyAt history cut n state
    → ((c : ℕ) (e : Event) → IsReadyAt history c n state → slice_get history n ≡ Some e → Turned (take n history) c e later turn) → TurnedAt history cut n later turn
turned_over history cut n state later turn within is_ready turned =
    let found = element_there history n within in
    turned_at history cut n found.0 later turn is_ready.behind found.1 (turned cut found.0 is_ready found.1)
