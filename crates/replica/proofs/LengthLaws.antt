-- How long the texts of a history's fronts are, by the operations.
use Rattle.std.proofs.Common.{◌≡◌, ℕ, zero, suc, ◌-◌, ◌<◌, ◌≤◌, List, [], ◌∷◌, ◌++◌, length, take, get_or, refl, sym, ap, ◌∙◌, append-nil, append_assoc, arith}
use Rattle.ew_model.specs.declared.id.Id.{Id}
use Rattle.ew_model.specs.declared.event.Event.{Event}
use Rattle.ew_model.specs.declared.text_op.TextOp.{TextOp}
use Rattle.ew_model.specs.Ids.{id_eq}
use Rattle.ew_model.specs.Tree.{Noted, Applied, grow, applied, applied_after}
use Rattle.ew_model.specs.Operations.{next_operation, operations_after, operations_of, operations, changed_by, changed_by_all}
use Rattle.ew_model.specs.Texts.{text_of}
use Rattle.ew_model.specs.Verdicts.{IsGood}
use Rattle.ew_model.proofs.GoodLaws.{operations_make_text}
use Rattle.ew_model.proofs.TextLengths.{length_operations}
use Rattle.replica.specs.Lengths.{lengths_after, prefix_lengths, lengths_through}
use Rattle.replica.proofs.Beginnings.{no_text}
use Rattle.transform.proofs.WholeWalks.{front_good}

-- the lengths after events in two parts
lengths_after-append : (before xs ys : List Event) → lengths_after before (xs ++ ys) ≡ lengths_after before xs ++ lengths_after (before ++ xs) ys
lengths_after-append before [] ys = ap (λ (b : List Event). lengths_after b ys) (sym (append-nil before))
lengths_after-append before (e ∷ xs) ys =
    ap (λ ls. length (text_of (before ++ e ∷ [])) ∷ ls)
    (lengths_after-append (before ++ e ∷ []) xs ys ∙ ap (λ (b : List Event). lengths_after (before ++ e ∷ []) xs ++ lengths_after b ys) (append_assoc before (e ∷ []) xs))

-- the lengths of a history that has grown
pub prefix_lengths-append : (held made : List Event) → prefix_lengths (held ++ made) ≡ prefix_lengths held ++ lengths_after held made
prefix_lengths-append held made = lengths_after-append [] held made

pub length-lengths_after : (before events : List Event) → length (lengths_after before events) ≡ length events
length-lengths_after before [] = refl
length-lengths_after before (e ∷ events) = ap suc (length-lengths_after (before ++ e ∷ []) events)

length_after : (before events : List Event) (n d : ℕ) → n < length events → get_or (lengths_after before events) n d ≡ length (text_of (before ++ take (suc n) events))
length_after before [] n d h = absurd (omega (arith, h))
length_after before (e ∷ events) zero d h = refl
length_after before (e ∷ events) (suc n) d h =
    length_after (before ++ e ∷ []) events n d (omega (arith, h)) ∙ ap (λ (es : List Event). length (text_of es)) (append_assoc before (e ∷ []) (take (suc n) events))

-- the length kept at a place is that of the text of one more event
pub length_found : (history : List Event) (count last d : ℕ) → 1 ≤ count → last ≡ count - 1 → count ≤ length history → get_or (prefix_lengths history) last d ≡ length (text_of (take count history))
length_found history count last d some is within =
    let more : suc last ≡ count = omega (arith, some, is) in
    length_after [] history last d (omega (arith, more, within)) ∙ ap (λ n. length (text_of (take n history))) more

-- there is a length for each event
pub length-prefix_lengths : (history : List Event) → length (prefix_lengths history) ≡ length history
length-prefix_lengths history = length-lengths_after [] history

-- the text of no events has no character
pub length_of_none : (history : List Event) (count : ℕ) → (1 ≤ count → ⊥) → 0 ≡ length (text_of (take count history))
length_of_none history zero none = sym (ap length no_text)
length_of_none history (suc n) none = absurd (none (omega arith))

-- events, behind those before, and operations from a text on lead through the same texts
pub record LeadAlike (before : List Event) (text : List ℕ) (events : List Event) (ops : List TextOp) : Type 0 where
  pub long : length events ≡ length ops
  pub texts : (n : ℕ) → text_of (before ++ take n events) ≡ changed_by_all (take n ops) text

-- so their lengths are the same
pub lengths_alike : (before : List Event) (text : List ℕ) (events : List Event) (ops : List TextOp) → LeadAlike before text events ops → lengths_through text ops ≡ lengths_after before events
lengths_alike before text [] [] h = refl
lengths_alike before text [] (op ∷ ops) h = absurd (omega (arith, h.long))
lengths_alike before text (e ∷ events) [] h = absurd (omega (arith, h.long))
lengths_alike before text (e ∷ events) (op ∷ ops) h =
    let first : text_of (before ++ e ∷ []) ≡ changed_by op text = h.texts 1 in
    let more : LeadAlike (before ++ e ∷ []) (changed_by op text) events ops = record {
      long = omega (arith, h.long);
      texts = λ n. ap text_of (append_assoc before (e ∷ []) (take n events)) ∙ h.texts (suc n);
    } in
    λ i. length (sym first i) ∷ lengths_alike (before ++ e ∷ []) (changed_by op text) events ops more i

-- and its operations are the first of all
applied_front : (before events : List Event) (n : ℕ) → applied_after before (take n events) ≡ take n (applied_after before events)
applied_front before events zero = refl
applied_front before [] (suc n) = refl
applied_front before (e ∷ events) (suc n) = ap (λ as'. applied before e ∷ as') (applied_front (before ++ e ∷ []) events n)

after_front : (notes : List (Noted Id)) (events : List (Applied Id)) (n : ℕ) → operations_after id_eq 0 notes (take n events) ≡ take n (operations_after id_eq 0 notes events)
after_front notes events zero = refl
after_front notes [] (suc n) = refl
after_front notes (a ∷ events) (suc n) = ap (λ ops. next_operation id_eq 0 notes a ∷ ops) (after_front (grow id_eq 0 notes a) events n)

pub operations_front : (history : List Event) (n : ℕ) → operations (take n history) ≡ take n (operations history)
unfolding operations operations_of
operations_front history n = ap (operations_after id_eq 0 []) (applied_front [] history n) ∙ after_front [] (applied_after [] history) n

history_leads : (history : List Event) → IsGood history → LeadAlike [] [] history (operations history)
history_leads history good = record {
  long = sym (length_operations history);
  texts = λ n. operations_make_text (take n history) (front_good history n good) ∙ ap (λ ops. changed_by_all ops []) (operations_front history n);
}

-- the lengths that the operations of a good history lead through are those of its fronts
pub good_lengths : (history : List Event) → IsGood history → lengths_through [] (operations history) ≡ prefix_lengths history
good_lengths history good = lengths_alike [] [] history (operations history) (history_leads history good)
