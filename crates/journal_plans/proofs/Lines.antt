-- Lines that are kept one after another.
use Rattle.std.proofs.Common.{◌≡◌, ◌≤◌, ◌+◌, ◌-◌, inl, inr, ⊎_elim, ℕ, zero, suc, List, [], ◌∷◌, ◌++◌, length, take, Option, refl, sym, ap, subst, ◌∙◌, append_assoc, arith}
use Rattle.std.proofs.KnownBytes.{Appends-trans}
use Rattle.std.proofs.lemmas.Grind.{flat_map-append}
use Rattle.std.proofs.lemmas.List.{length-append, take-append-le}
use Rattle.std.proofs.Math.Seq.{take-append-add}
use Rattle.ew_model.specs.declared.event.Event.{Event}
use Rattle.ew_model.specs.Limits.{LimitNumbers}
use Rattle.ew_outside.specs.Bytes.{IsFlushed}
use Rattle.ew_outside.specs.Outputs.{GrowsByFront}
use Rattle.ew_outside.proofs.Outputs.{then_front}
use Rattle.ew_outside.specs.Seen.{SinkSeen}
use Rattle.event_journal.specs.Journal.{Holds}
use Rattle.peer_definitions.specs.Pieces.{frame_room, pieces}
use Rattle.command_table.specs.Scripts.{batches_of, told_of}
use Rattle.command_table.specs.Text.{kept_text}
use Rattle.journal_plans.specs.Keeping.{HoldsLines, SendsOn, StopsAt}
use Rattle.journal_plans.specs.declared.stop.Stop.{Stop}

pub batches_joined : (limits : LimitNumbers) (xs ys : List (List Event)) → batches_of limits (xs ++ ys) ≡ batches_of limits xs ++ batches_of limits ys
batches_joined limits xs ys = flat_map-append (pieces (frame_room limits)) xs ys

pub told_joined : (xs ys : List (List Event)) → told_of (xs ++ ys) ≡ told_of xs ++ told_of ys
told_joined xs ys = flat_map-append (λ (events : List Event). kept_text (length events)) xs ys

-- ---- the output

pub sends_then : (out mid out' : SinkSeen) (xs ys : List ℕ) → SendsOn out mid xs → SendsOn mid out' ys → SendsOn out out' (xs ++ ys)
sends_then out mid out' xs ys first second = (
  Appends-trans out.taken mid.taken out'.taken xs ys first.0 second.0,
  ⊎_elim
      (λ none. ⊎_elim
      (λ nothing. inl (ap (λ (zs : List ℕ). zs ++ ys) nothing.0 ∙ none.0, none.1 ∙ nothing.1, none.2 ∙ nothing.2))
      (λ flushed. inr (subst (λ n. IsFlushed out'.taken n) (sym none.2) (subst (λ t. IsFlushed t mid.flushed) (sym none.1) flushed)))
      first.1)
      (λ flushed. inr flushed)
      second.1,
)

-- ---- where it is stopped

-- the first lines of two lists
take_both : {X : Type 0} (n : ℕ) (xs ys : List X) → take n (xs ++ ys) ≡ take n xs ++ take (n - length xs) ys
take_both zero [] ys = refl
take_both (suc n) [] ys =
    let none : suc n ≡ suc n - 0 = omega arith in
    ap (λ k. take k ys) none
take_both zero (x ∷ xs) ys =
    let none : 0 ≡ 0 - suc (length xs) = omega arith in
    ap (λ k. take k ys) none
take_both (suc n) (x ∷ xs) ys =
    let less : n - length xs ≡ suc n - suc (length xs) = omega arith in
    ap (λ zs. x ∷ zs) (take_both n xs ys) ∙ ap (λ k. x ∷ take n xs ++ take k ys) less

more_batches : (limits : LimitNumbers) (n : ℕ) (xs ys : List (List Event)) → length (batches_of limits (take n xs)) ≤ length (batches_of limits (take n (xs ++ ys)))
more_batches limits n xs ys =
    let parts = ap (batches_of limits) (take_both n xs ys) ∙ batches_joined limits (take n xs) (take (n - length xs) ys) in
    omega (arith, ap length parts, length-append (batches_of limits (take n xs)) (batches_of limits (take (n - length xs) ys)))

module _ (limits : LimitNumbers) (before xs ys : List (List Event)) where
  added : length (batches_of limits (xs ++ ys)) ≡ length (batches_of limits xs) + length (batches_of limits ys)
  added = ap length (batches_joined limits xs ys) ∙ length-append (batches_of limits xs) (batches_of limits ys)

  -- before lines that aren't tried any more
  pub holds_wider : (out out' : SinkSeen) (bytes : List ℕ) → HoldsLines limits xs before out out' bytes → HoldsLines limits (xs ++ ys) before out out' bytes
  holds_wider out out' bytes h =
      let lines : take h.whole_lines (xs ++ ys) ≡ take h.whole_lines xs = take-append-le h.whole_lines xs ys h.within in
      record {
        count = h.count;
        few = omega (arith, h.few, added);
        holds = subst (λ (bs : List (List Event)). Holds limits.body (before ++ bs) bytes)
            (sym (ap (take h.count) (batches_joined limits xs ys) ∙ take-append-le h.count (batches_of limits xs) (batches_of limits ys) h.few)) h.holds;
        whole_lines = h.whole_lines;
        within = omega (arith, h.within, length-append xs ys);
        stand = omega (arith, h.stand, ap (λ ls. length (batches_of limits ls)) lines);
        printed = subst (λ ls. GrowsByFront out.taken out'.taken (told_of ls)) (sym lines) h.printed;
      }

  pub stops_wider : (told : Option (List ℕ)) (out out' : SinkSeen) (why : Stop) → StopsAt limits xs before told out out' why → StopsAt limits (xs ++ ys) before told out out' why
  unfolding holds_wider
  stops_wider told out out' why h =
      let whole = h.front.whole_lines in
      let lines : take whole (xs ++ ys) ≡ take whole xs = take-append-le whole xs ys h.front.within in
      record {
        bytes = h.bytes;
        told_is = h.told_is;
        front = holds_wider out out' h.bytes h.front;
        disk = λ is.
            let d = h.disk is in
            (subst (λ ls. SendsOn out out' (told_of ls)) (sym lines) d.0, omega (arith, d.1, more_batches limits (suc whole) xs ys));
      }

  -- behind lines that were kept
  text_behind : (n : ℕ) → told_of xs ++ told_of (take n ys) ≡ told_of (take (length xs + n) (xs ++ ys))
  text_behind n = sym (ap told_of (take-append-add xs ys n) ∙ told_joined xs (take n ys))

  pub holds_behind : (out mid out' : SinkSeen) (bytes : List ℕ) → SendsOn out mid (told_of xs) → HoldsLines limits ys (before ++ batches_of limits xs) mid out' bytes → HoldsLines limits (xs ++ ys) before out out' bytes
  holds_behind out mid out' bytes first h =
      let lines : take (length xs + h.whole_lines) (xs ++ ys) ≡ xs ++ take h.whole_lines ys = take-append-add xs ys h.whole_lines in
      record {
        count = length (batches_of limits xs) + h.count;
        few = omega (arith, h.few, added);
        holds = subst (λ (bs : List (List Event)). Holds limits.body bs bytes)
            (append_assoc before (batches_of limits xs) (take h.count (batches_of limits ys))
            ∙ ap (λ (bs : List (List Event)). before ++ bs) (sym (ap (take (length (batches_of limits xs) + h.count)) (batches_joined limits xs ys) ∙ take-append-add (batches_of limits xs) (batches_of limits ys) h.count))) h.holds;
        whole_lines = length xs + h.whole_lines;
        within = omega (arith, h.within, length-append xs ys);
        stand = omega (
          arith,
          h.stand,
          ap (λ ls. length (batches_of limits ls)) lines,
          ap length (batches_joined limits xs (take h.whole_lines ys)),
          length-append (batches_of limits xs) (batches_of limits (take h.whole_lines ys)),
        );
        printed = subst (GrowsByFront out.taken out'.taken) (text_behind h.whole_lines) (then_front out.taken mid.taken out'.taken (told_of xs) (told_of (take h.whole_lines ys)) first.0 h.printed);
      }

  pub stops_behind : (told : Option (List ℕ)) (out mid out' : SinkSeen) (why : Stop) → SendsOn out mid (told_of xs) → StopsAt limits ys (before ++ batches_of limits xs) told mid out' why → StopsAt limits (xs ++ ys) before told out out' why
  unfolding holds_behind
  stops_behind told out mid out' why first h =
      let whole = h.front.whole_lines in
      let one_more : take (length xs + suc whole) (xs ++ ys) ≡ xs ++ take (suc whole) ys = take-append-add xs ys (suc whole) in
      let next : suc (length xs + whole) ≡ length xs + suc whole = omega arith in
      record {
        bytes = h.bytes;
        told_is = h.told_is;
        front = holds_behind out mid out' h.bytes first h.front;
        disk = λ is.
            let d = h.disk is in (
              subst (SendsOn out out') (text_behind whole) (sends_then out mid out' (told_of xs) (told_of (take whole ys)) first d.0),
              omega (
                arith,
                d.1,
                ap (λ n. length (batches_of limits (take n (xs ++ ys)))) next,
                ap (λ ls. length (batches_of limits ls)) one_more,
                ap length (batches_joined limits xs (take (suc whole) ys)),
                length-append (batches_of limits xs) (batches_of limits (take (suc whole) ys)),
              ),
            );
      }
