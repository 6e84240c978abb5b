-- Characters put in one behind another are put in together, and operations are done in parts.
use Rattle.std.proofs.Common.{◌≡◌, ℕ, zero, suc, ◌+◌, ◌-◌, ◌<◌, ◌≤◌, List, [], ◌∷◌, ◌++◌, length, take, drop, insert, slice_index_or, refl, sym, ap, ◌∙◌, append_assoc, length-append, length-drop, take-append-drop, length-take-le, take_at, drop_at, arith, subst}
use Rattle.std.proofs.lemmas.List.{take_all}
use Rattle.std.proofs.lemmas.List.Edits.{length-insert}
use Rattle.ew_model.specs.declared.text_op.TextOp.{TextOp}
use Rattle.ew_model.specs.declared.text_op.TextOp.TheVariants.{Ins, Del, Nothing}
use Rattle.ew_model.specs.Operations.{changed_by, changed_by_all}
use Rattle.ew_model.specs.TextLaws.{AllFit}
use Rattle.rope.specs.Changes.{room_for, room_for_all}
use Rattle.rope.specs.Lengths.{most_chars, AllStayShort}
use Rattle.rope.proofs.ShortTexts.{short_first, short_at_last}
use Rattle.rope.specs.Typed.{typed, with_more, IsTyped}

-- TEXTS WITH MORE
pub length-with_more : (text more : List ℕ) (at : ℕ) → length (with_more text at more) ≡ length text + length more
length-with_more text more at =
    let whole = ap length (take-append-drop at text) in
    omega (arith, whole, length-append (take at text) (drop at text), length-append (take at text) (more ++ drop at text), length-append more (drop at text))

-- put in behind one another, or together
pub more_twice : (text a b : List ℕ) (at : ℕ) → at ≤ length text → with_more (with_more text at a) (at + length a) b ≡ with_more text at (a ++ b)
more_twice text a b at h =
    let front = take at text ++ a in
    let split : with_more text at a ≡ front ++ drop at text = sym (append_assoc (take at text) a (drop at text)) in
    let long : length front ≡ at + length a = length-append (take at text) a ∙ ap (λ (n : ℕ). n + length a) (length-take-le at text h) in
    let taken : take (at + length a) (with_more text at a) ≡ front = ap (take (at + length a)) split ∙ take_at front (drop at text) (at + length a) long in
    let left : drop (at + length a) (with_more text at a) ≡ drop at text = ap (drop (at + length a)) split ∙ drop_at front (drop at text) (at + length a) long in
    (λ i. taken i ++ (b ++ left i)) ∙ append_assoc (take at text) a (b ++ drop at text) ∙ ap (λ (cs : List ℕ). take at text ++ cs) (sym (append_assoc a b (drop at text)))

-- into the last or the first of two texts
pub more_behind : (p q more : List ℕ) (i : ℕ) → with_more (p ++ q) (length p + i) more ≡ p ++ with_more q i more
more_behind [] q more i = let same : 0 + i ≡ i = omega arith in ap (λ (n : ℕ). with_more q n more) same
more_behind (x ∷ p) q more i = let next : length (x ∷ p) + i ≡ suc (length p + i) = omega arith in rw next (ap (λ (cs : List ℕ). x ∷ cs) (more_behind p q more i))

pub more_before : (p q more : List ℕ) (i : ℕ) → i ≤ length p → with_more (p ++ q) i more ≡ with_more p i more ++ q
more_before p q more zero le = sym (append_assoc more p q)
more_before [] q more (suc i) le = absurd (omega (arith, le))
more_before (x ∷ p) q more (suc i) le = ap (λ (cs : List ℕ). x ∷ cs) (more_before p q more i (omega (arith, le)))

-- into the middle of three
pub more_inside : (p v q more : List ℕ) (i : ℕ) → i ≤ length v → with_more (p ++ (v ++ q)) (length p + i) more ≡ p ++ (with_more v i more ++ q)
more_inside p v q more i le = more_behind p (v ++ q) more i ∙ ap (λ (cs : List ℕ). p ++ cs) (more_before v q more i le)

-- into one half of a text
module _ (text more : List ℕ) (half at : ℕ) (long : half ≤ length text) where
  pub more_left : at ≤ half → with_more (take half text) at more ++ drop half text ≡ with_more text at more
  more_left le =
      let n : length (take half text) ≡ half = length-take-le half text long in
      sym (more_before (take half text) (drop half text) more at (omega (arith, n, le))) ∙ ap (λ (cs : List ℕ). with_more cs at more) (take-append-drop half text)

  pub more_right : half ≤ at → take half text ++ with_more (drop half text) (at - half) more ≡ with_more text at more
  more_right le =
      let n : length (take half text) ≡ half = length-take-le half text long in
      let place : length (take half text) + (at - half) ≡ at = omega (arith, n, le) in
      sym (more_behind (take half text) (drop half text) more (at - half))
      ∙ ap (λ (i : ℕ). with_more (take half text ++ drop half text) i more) place ∙ ap (λ (cs : List ℕ). with_more cs at more) (take-append-drop half text)

-- read where they were put in
pub put_in : (new old more : List ℕ) (at many : ℕ) → at ≤ length old → new ≡ with_more old at more → many ≡ length new - length old → take many (drop at new) ≡ more
put_in new old more at many le e count =
    let long : length more ≡ many = omega (arith, count, ap length e, length-with_more old more at) in
    ap (λ (cs : List ℕ). take many (drop at cs)) e ∙ ap (take many) (drop_at (take at old) (more ++ drop at old) at (length-take-le at old le)) ∙ take_at more (drop at old) many long

-- nothing more
pub more_none : (text : List ℕ) (at : ℕ) → with_more text at [] ≡ text
more_none text at = take-append-drop at text

-- TYPED OPERATIONS
typed_cons : (op : TextOp) (ops : List TextOp) → typed (op ∷ ops) ≡ typed (op ∷ []) ++ typed ops
typed_cons (Ins at ch) ops = refl
typed_cons (Del at) ops = refl
typed_cons Nothing ops = refl

pub typed_most : (ops : List TextOp) → length (typed ops) ≤ length ops
typed_most [] = omega arith
typed_most (Ins at ch ∷ ops) = omega (arith, typed_most ops)
typed_most (Del at ∷ ops) = omega (arith, typed_most ops)
typed_most (Nothing ∷ ops) = omega (arith, typed_most ops)

-- the operation at a place, and those behind it
pub item_at : (ops : List TextOp) (i : ℕ) (d : TextOp) → i < length ops → drop i ops ≡ slice_index_or ops i d ∷ drop (i + 1) ops
item_at [] i d lt = absurd (omega (arith, lt))
item_at (op ∷ ops) zero d lt = refl
item_at (op ∷ ops) (suc i) d lt = let next : suc i + 1 ≡ suc (i + 1) = omega arith in rw next (item_at ops i d (omega (arith, lt)))

-- one more of the operations is done
pub typed_step : (ops : List TextOp) (i at : ℕ) (d : TextOp) (text : List ℕ) → i < length ops → at ≤ length text
    → with_more (with_more text at (typed (slice_index_or ops i d ∷ []))) (at + length (typed (slice_index_or ops i d ∷ []))) (typed (drop (i + 1) ops)) ≡ with_more text at (typed (drop i ops))
typed_step ops i at d text lt le =
    let op = slice_index_or ops i d in
    more_twice text (typed (op ∷ [])) (typed (drop (i + 1) ops)) at le
    ∙ ap (λ (more : List ℕ). with_more text at more) (sym (typed_cons op (drop (i + 1) ops)) ∙ ap typed (sym (item_at ops i d lt)))

-- and there is room for those behind it
pub typed_room : (ops : List TextOp) (i : ℕ) (d : TextOp) (before after most : ℕ) → i < length ops → after ≡ before + length (typed (slice_index_or ops i d ∷ [])) → before + length (drop i ops) ≤ most
    → after + length (drop (i + 1) ops) ≤ most
typed_room ops i d before after most lt more room = omega (arith, lt, more, room, typed_most (slice_index_or ops i d ∷ []), length-drop i ops, length-drop (i + 1) ops)

-- typed operations put their characters in together
pub typed_change : (ops : List TextOp) (at : ℕ) (text : List ℕ) → IsTyped at ops → at ≤ length text → changed_by_all ops text ≡ with_more text at (typed ops)
typed_change [] at text h le = sym (take-append-drop at text)
typed_change (Ins i ch ∷ ops) at text h le =
    let more = length-insert text at ch le in
    ap (λ (n : ℕ). changed_by_all ops (insert text n ch)) h.0
    ∙ typed_change ops (at + 1) (insert text at ch) h.1 (omega (arith, le, more))
    ∙ more_twice text (ch ∷ []) (typed ops) at le
typed_change (Del i ∷ ops) at text h le = absurd h
typed_change (Nothing ∷ ops) at text h le = absurd h

-- each of them takes room
pub typed_long : (ops : List TextOp) (at : ℕ) → IsTyped at ops → (length (typed ops) ≡ length ops) × (room_for_all ops ≡ length ops)
typed_long [] at h = (refl, refl)
typed_long (Ins i ch ∷ ops) at h =
    let room : room_for_all (Ins i ch ∷ ops) ≡ 1 + room_for_all ops = refl in
    let rest = typed_long ops (at + 1) h.1 in
    (omega (arith, rest.0), omega (arith, room, rest.1))
typed_long (Del i ∷ ops) at h = absurd h
typed_long (Nothing ∷ ops) at h = absurd h

pub typed_one : (ops : List TextOp) (at : ℕ) (d : TextOp) → 0 < length ops → IsTyped at (slice_index_or ops 0 d ∷ []) → IsTyped at (take 1 ops)
typed_one [] at d lt h = absurd (omega (arith, lt))
typed_one (op ∷ ops) at d lt h = h

pub typed_more : (ops : List TextOp) (i at : ℕ) (d : TextOp) → i < length ops → IsTyped at (take i ops) → IsTyped (at + i) (slice_index_or ops i d ∷ []) → IsTyped at (take (i + 1) ops)
typed_more [] i at d lt h more = absurd (omega (arith, lt))
typed_more (op ∷ ops) zero at d lt h more = let same : at + 0 ≡ at = omega arith in rw same at more
typed_more (Ins j ch ∷ ops) (suc i) at d lt h more =
    let next : suc i + 1 ≡ suc (i + 1) = omega arith in
    let place : at + suc i ≡ at + 1 + i = omega arith in
    rw next (h.0, typed_more ops i (at + 1) d (omega (arith, lt)) h.1 (rw place at more))
typed_more (Del j ∷ ops) (suc i) at d lt h more = absurd h
typed_more (Nothing ∷ ops) (suc i) at d lt h more = absurd h

-- the first of typed operations is in range
pub typed_fits : (ops : List TextOp) (at : ℕ) (text : List ℕ) → 0 < length ops → IsTyped at (take 1 ops) → AllFit text ops → at ≤ length text
typed_fits [] at text lt h fit = absurd (omega (arith, lt))
typed_fits (Ins i ch ∷ ops) at text lt h fit = omega (arith, h.0, fit.0)
typed_fits (Del i ∷ ops) at text lt h fit = absurd h
typed_fits (Nothing ∷ ops) at text lt h fit = absurd h

-- OPERATIONS IN PARTS
pub change_parts : (n : ℕ) (ops : List TextOp) (text : List ℕ) → changed_by_all (drop n ops) (changed_by_all (take n ops) text) ≡ changed_by_all ops text
change_parts zero ops text = refl
change_parts (suc n) [] text = refl
change_parts (suc n) (op ∷ ops) text = change_parts n ops (changed_by op text)

pub fit_later : (n : ℕ) (ops : List TextOp) (text : List ℕ) → AllFit text ops → AllFit (changed_by_all (take n ops) text) (drop n ops)
fit_later zero ops text h = h
fit_later (suc n) [] text h = h
fit_later (suc n) (op ∷ ops) text h = fit_later n ops (changed_by op text) h.1

pub short_later : (n : ℕ) (ops : List TextOp) (text : List ℕ) → AllStayShort text ops → AllStayShort (changed_by_all (take n ops) text) (drop n ops)
short_later zero ops text h = h
short_later (suc n) [] text h = h
short_later (suc n) (op ∷ ops) text h = short_later n ops (changed_by op text) h.1

pub room_parts : (n : ℕ) (ops : List TextOp) → room_for_all ops ≡ room_for_all (take n ops) + room_for_all (drop n ops)
room_parts zero ops = omega arith
room_parts (suc n) [] = refl
room_parts (suc n) (op ∷ ops) =
    let whole : room_for_all (op ∷ ops) ≡ room_for op + room_for_all ops = refl in
    let part : room_for_all (take (suc n) (op ∷ ops)) ≡ room_for op + room_for_all (take n ops) = refl in
    let rest : room_for_all (drop (suc n) (op ∷ ops)) ≡ room_for_all (drop n ops) = refl in
    omega (arith, whole, part, rest, room_parts n ops)

-- typed operations leave a short text
pub typed_short : (n at : ℕ) (ops : List TextOp) (text : List ℕ) → IsTyped at (take n ops) → at ≤ length text → AllStayShort text ops → length text + length (typed (take n ops)) ≤ most_chars
typed_short n at ops text h le short =
    let same = ap length (typed_change (take n ops) at text h le) in
    omega (arith, same, length-with_more text (typed (take n ops)) at, short_first (changed_by_all (take n ops) text) (drop n ops) (short_later n ops text short))

-- typed operations from the first to the last
pub typed_whole : (n at : ℕ) (ops : List TextOp) → length ops ≤ n → IsTyped at (take n ops) → IsTyped at ops
typed_whole n at ops all h = subst (IsTyped at) (take_all n ops all) h

pub typed_start : (ops : List TextOp) (at : ℕ) (text : List ℕ) → 0 < length ops → IsTyped at ops → AllFit text ops → at ≤ length text
typed_start [] at text lt h fit = absurd (omega (arith, lt))
typed_start (Ins i ch ∷ ops) at text lt h fit = omega (arith, h.0, fit.0)
typed_start (Del i ∷ ops) at text lt h fit = absurd h
typed_start (Nothing ∷ ops) at text lt h fit = absurd h

pub record IsLine (ops : List TextOp) (at : ℕ) (text : List ℕ) : Type 0 where
  pub within : at ≤ length text
  pub short : length text + length (typed ops) ≤ most_chars
  pub some : 0 < length (typed ops)
  pub change : changed_by_all ops text ≡ with_more text at (typed ops)

pub is_line : (ops : List TextOp) (at : ℕ) (text : List ℕ) → 0 < length ops → IsTyped at ops → AllFit text ops → AllStayShort text ops → IsLine ops at text
is_line ops at text lt h fit short =
    let le = typed_start ops at text lt h fit in
    let change = typed_change ops at text h le in
    record {
      within = le;
      short = omega (arith, short_at_last text ops short, ap length change, length-with_more text (typed ops) at);
      some = omega (arith, (typed_long ops at h).0, lt);
      change = change;
    }
