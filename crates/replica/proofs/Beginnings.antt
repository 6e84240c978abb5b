-- What a replica keeps as it begins.
use Rattle.std.proofs.Common.{◌≡◌, ℕ, ◌≤◌, List, [], Option, None, Some, IfSome, length, refl, sym, ap, subst, arith, ◌∙◌}
use Rattle.ew_model.specs.declared.event.Event.{Event}
use Rattle.ew_model.specs.declared.text_op.TextOp.{TextOp}
use Rattle.ew_model.specs.Limits.{LimitNumbers}
use Rattle.ew_model.specs.Operations.{operations, operations_of}
use Rattle.ew_model.specs.Texts.{text_of}
use Rattle.ew_model.specs.Verdicts.{IsGood, first_bad}
use Rattle.ew_model.specs.Kept.{IsKept}
use Rattle.ew_model.proofs.GoodLaws.{operations_make_text}
use Rattle.ew_model.proofs.FirstBadLaws.{good_has_no_bad}
use Rattle.waiting_pool.specs.Waiting.{Waiting, events_of}
use Rattle.waiting_pool.specs.Knowing.{IsBehind}
use Rattle.waiting_pool.proofs.Behind.{behind_none}
use Rattle.replica.specs.Keeping.{AreRecent, IsToldBy, IsUpToDate}
use Rattle.replica.specs.declared.recent.Recent.{Recent}
use Rattle.replica.specs.LazyTexts.{ToldText}
use Rattle.replica.specs.Lengths.{prefix_lengths}

no_event_is_good : IsGood []
unfolding IsGood
no_event_is_good = tt

-- the text of no events has no character
pub no_text : text_of [] ≡ []
unfolding operations operations_of
no_text = operations_make_text [] no_event_is_good

-- good events may be held, where they aren't too many and none waits
pub good_is_kept : (limits : LimitNumbers) (events : List Event) → IsGood events → length events ≤ limits.events → IsKept limits events []
good_is_kept limits events good few = record { orderly = record { good = good; fresh = tt; apart = tt }; few = few; few_wait = omega arith }

-- the pool of no events
abbrev pub none_waits : LimitNumbers → Waiting
none_waits limits = record { limit = limits.waiting; seen = 0; waiters = [] }

-- none of no events is bad
pub none_is_bad : first_bad [] ≡ None
unfolding first_bad
none_is_bad = refl

pub good_from_none_bad : (events : List Event) → first_bad events ≡ None → IsGood events
good_from_none_bad events e = (good_has_no_bad events).1 e

-- what is kept of events of which none is bad
pub loaded : (limits : LimitNumbers) (events : List Event) → first_bad events ≡ None → length events ≤ limits.events → IsUpToDate limits events (none_waits limits) (text_of events) (prefix_lengths events)
loaded limits events none few = record { kept = good_is_kept limits events (good_from_none_bad events none) few; limit = refl; behind = behind_none events limits.waiting; text_is = refl; lengths_are = refl }

-- what is kept may be known by other names
pub same_kept : (limits : LimitNumbers) (held graph : List Event) (pool kept_pool : Waiting) (text kept_text lengths kept_lengths : List ℕ) → graph ≡ held → kept_pool ≡ pool → kept_text ≡ text → kept_lengths ≡ lengths → IsUpToDate limits held pool text lengths
    → IsUpToDate limits graph kept_pool kept_text kept_lengths
same_kept limits held graph pool kept_pool text kept_text lengths kept_lengths g p t l h = record {
  kept = subst (λ (es : List Event). IsKept limits es (events_of kept_pool)) (sym g) (subst (λ (w : Waiting). IsKept limits held (events_of w)) (sym p) h.kept);
  limit = ap (λ (w : Waiting). w.limit) p ∙ h.limit;
  behind = subst (λ (es : List Event). IsBehind es kept_pool) (sym g) (subst (λ (w : Waiting). IsBehind held w) (sym p) h.behind);
  text_is = t ∙ (h.text_is ∙ ap text_of (sym g));
  lengths_are = l ∙ (h.lengths_are ∙ ap prefix_lengths (sym g));
}

-- so may what the text is told by; a text that isn't told by operations is told by no others; one that is told by fewer is told by the same
pub same_told : (held graph : List Event) (text kept : ToldText) → graph ≡ held → kept ≡ text → IsToldBy held text.told → IsToldBy graph kept.told
same_told held graph text kept g t h = subst (λ (es : List Event). IsToldBy es kept.told) (sym g) (subst (λ (w : ToldText). IsToldBy held w.told) (sym t) h)

pub none_told : (held : List Event) (told : Option (List TextOp)) → told ≡ None → IsToldBy held told
none_told held told e = subst (IsToldBy held) (sym e) tt

pub still_told : (held : List Event) (old new : Option (List TextOp)) → IfSome new (λ ops. old ≡ Some ops) → IsToldBy held old → IsToldBy held new
still_told held old None h t = tt
still_told held old (Some ops) h t = subst (IsToldBy held) h t

pub same_recent : (held graph : List Event) (recent : Option Recent) → graph ≡ held → AreRecent held recent → AreRecent graph recent
same_recent held graph recent g h = subst (λ (es : List Event). AreRecent es recent) (sym g) h
