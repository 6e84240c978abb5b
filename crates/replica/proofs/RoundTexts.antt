-- What the operations of a round do to the text.
use Rattle.std.proofs.Common.{◌≡◌, ℕ, ◌+◌, ◌≤◌, List, [], ◌∷◌, ◌++◌, take, drop, length, refl, sym, ap, ◌∙◌, subst, arith, length-append}
use Rattle.std.proofs.Math.Seq.{take-append_seam}
use Rattle.std.proofs.lemmas.List.{take-append-drop}
use Rattle.ew_model.specs.declared.event.Event.{Event}
use Rattle.ew_model.specs.declared.text_op.TextOp.{TextOp}
use Rattle.ew_model.specs.Kept.{IsKept, IsOrderly}
use Rattle.ew_model.specs.Limits.{LimitNumbers}
use Rattle.ew_model.specs.Operations.{changed_by, changed_by_all, operations}
use Rattle.ew_model.specs.Texts.{text_of}
use Rattle.ew_model.specs.TextLaws.{AllFit}
use Rattle.ew_model.specs.Verdicts.{IsGood}
use Rattle.ew_model.proofs.FitLaw.{operations_fit}
use Rattle.ew_model.proofs.GoodLaws.{operations_make_text}
use Rattle.ew_model.proofs.TextLengths.{length_operations, text_is_short}
use Rattle.rope.specs.Lengths.{AllStayShort}
use Rattle.waiting_pool.specs.Waiting.{Waiting, events_of}
use Rattle.waiting_pool.specs.Knowing.{IsBehind}
use Rattle.replica.specs.Fronts.{IsFront}
use Rattle.replica.specs.Keeping.{IsUpToDate}
use Rattle.replica.specs.Lengths.{lengths_through, prefix_lengths}
use Rattle.replica.proofs.Appends.{stay_short}
use Rattle.rope.proofs.RunChanges.{change_both}
use Rattle.replica.proofs.LengthLaws.{good_lengths, operations_front}

-- operations one behind the other
pub fit_behind : (xs ys : List TextOp) (text : List ℕ) → AllFit text (xs ++ ys) → AllFit (changed_by_all xs text) ys
fit_behind [] ys text h = h
fit_behind (x ∷ xs) ys text h = fit_behind xs ys (changed_by x text) h.1

-- lengths through operations and others behind them
pub through_joined : (xs ys : List TextOp) (text : List ℕ) → lengths_through text (xs ++ ys) ≡ lengths_through text xs ++ lengths_through (changed_by_all xs text) ys
through_joined [] ys text = refl
through_joined (x ∷ xs) ys text = ap (λ ls. length (changed_by x text) ∷ ls) (through_joined xs ys (changed_by x text))

-- What a round needs of its operations, and what is kept then.
pub record MayKeep (limits : LimitNumbers) (held : List Event) (pool : Waiting) (text lengths : List ℕ) (ops : List TextOp) : Type 0 where
  pub fit : AllFit text ops
  pub short : AllStayShort text ops
  pub after : IsUpToDate limits held pool (changed_by_all ops text) (lengths ++ lengths_through text ops)

grown : (limits : LimitNumbers) (held made : List Event) (pool : Waiting) (text lengths : List ℕ) (ops : List TextOp) → IsGood held → text ≡ text_of held → lengths ≡ prefix_lengths held → IsKept limits (held ++ made) (events_of pool)
    → pool.limit ≡ limits.waiting → IsBehind (held ++ made) pool → limits.events ≤ 16777216 → ops ≡ drop (length held) (operations (held ++ made)) → MayKeep limits (held ++ made) pool text lengths ops
grown limits held made pool text lengths ops good t l kept limit behind few are =
    let all = operations (held ++ made) in
    let first : operations held ≡ take (length held) all =
    ap operations (sym (take-append_seam held made)) ∙ operations_front (held ++ made) (length held) in
    let whole : all ≡ operations held ++ ops =
    sym (take-append-drop (length held) all) ∙ (λ i. sym first i ++ sym are i) in
    let before : text ≡ changed_by_all (operations held) [] = t ∙ operations_make_text held good in
    let short : length text ≤ length held = subst (λ (w : List ℕ). length w ≤ length held) (sym t) (text_is_short held good) in
    let long : length (operations held) + length ops ≡ length (held ++ made) = sym (length-append (operations held) ops) ∙ sym (ap (length {A = TextOp}) whole) ∙ length_operations (held ++ made) in
    let most = kept.few in
    record {
      fit =
          subst (λ (w : List ℕ). AllFit w ops) (sym before)
          (fit_behind (operations held) ops [] (subst (AllFit []) whole (operations_fit (held ++ made) kept.orderly.good)));
      short = stay_short text ops (omega (arith, short, long, length_operations held, most, few));
      after = record {
        kept = kept;
        limit = limit;
        behind = behind;
        text_is =
            ap (changed_by_all ops) before
            ∙ sym (change_both (operations held) ops [])
            ∙ ap (λ (os : List TextOp). changed_by_all os []) (sym whole)
            ∙ sym (operations_make_text (held ++ made) kept.orderly.good);
        lengths_are =
            (λ i. (l ∙ sym (good_lengths held good)) i ++ lengths_through (before i) ops)
            ∙ sym (through_joined (operations held) ops [])
            ∙ ap (lengths_through []) (sym whole)
            ∙ good_lengths (held ++ made) kept.orderly.good;
      };
    }

pub may_keep : (limits : LimitNumbers) (held graph : List Event) (old pool : Waiting) (text lengths : List ℕ) (ops given : List TextOp) → IsUpToDate limits held old text lengths → IsFront held graph → IsOrderly graph (events_of pool)
    → length graph ≤ limits.events → length (events_of pool) ≤ pool.limit → pool.limit ≡ limits.waiting → IsBehind graph pool → limits.events ≤ 16777216 → ops ≡ given → given ≡ drop (length held) (operations graph) → MayKeep limits graph pool text lengths ops
may_keep limits held graph old pool text lengths ops given now front orderly few few_wait limit behind most same are =
    let kept : IsKept limits graph (events_of pool) = record { orderly = orderly; few = few; few_wait = omega (arith, few_wait, limit) } in
    subst (λ (es : List Event). MayKeep limits es pool text lengths ops) (sym front.1)
    (grown limits held front.0 pool text lengths ops now.kept.orderly.good now.text_is now.lengths_are (subst (λ (es : List Event). IsKept limits es (events_of pool)) front.1 kept) limit (subst (λ (es : List Event). IsBehind es pool) front.1 behind) most (same ∙ are ∙ ap (λ (es : List Event). drop (length held) (operations es)) front.1))
