-- What is answered to operations that an agent does in a row.
use Rattle.std.proofs.Common.{◌≡◌, ℕ, ◌+◌, ◌<◌, ◌≤◌, ◌==◌, nat_lt, Bool, true, false, cond, ◌⊎◌, inl, inr, ⊎_elim, List, [], ◌∷◌, ◌++◌, map, length, drop, get_or, Option, Some, None, Ok, Err, refl, sym, ap, subst, ◌∙◌, append-nil, arith}
use Rattle.std.proofs.lemmas.Bool.{ltb-false, leb-false, eqb-true}
use Rattle.std.proofs.lemmas.List.{drop_more, drop_all}
use Rattle.ew_model.specs.declared.event.Op.{Op}
use Rattle.ew_model.specs.declared.event.Op.TheVariants as op
use Rattle.ew_model.specs.declared.event.Event.{Event}
use Rattle.ew_model.specs.Ancestors.{heads}
use Rattle.ew_model.specs.Edits.{EditRefusal, events_of_ops}
use Rattle.ew_model.specs.Kept.{ReplicaState}
use Rattle.ew_model.specs.Limits.{LimitNumbers}
use Rattle.ew_model.specs.Operations.{changed_by, changed_by_all}
use Rattle.ew_model.specs.TextLaws.{own_change, Fits, AllFit}
use Rattle.ew_model.specs.Texts.{text_of}
use Rattle.ew_model.specs.Verdicts.{IsGood, is_outside}
use Rattle.ew_model.proofs.EditEvents.{MayDo, inside, ops_done}
use Rattle.ew_model.proofs.EditLaws.{ops_long, few_by}
use Rattle.replica.specs.declared.fault.EditFault.{EditFault}
use Rattle.replica.specs.declared.fault.EditFault.TheVariants as fault
use Rattle.replica.specs.Answers.{refusal_of}
use Rattle.replica.specs.Appending.{chain_from}
use Rattle.replica.specs.Operations.{DoesAll, first_outside, ops_refusal, outside_first}
use Rattle.replica.specs.Refusing.{refusal_to_make}

-- WHERE OPERATIONS ARE OUT OF RANGE
fits_inside : (len : ℕ) (o : Op) → is_outside len o ≡ false → Fits len (own_change o)
fits_inside len (op.Ins at ch) h = ltb-false len at h
fits_inside len (op.Del at) h = let k = leb-false len at h in omega (arith, k)
fits_inside len (op.Mark label) h = tt

next_inside : (b : Bool) (len : ℕ) (more : Option ℕ) → cond b (Some len) more ≡ None → (b ≡ false) × (more ≡ None)
next_inside true len more h = let no : ⊥ = cc in absurd no
next_inside false len more h = (refl, h)

-- where no operation is out of range, each fits
pub all_fit : (text : List ℕ) (ops : List Op) → first_outside text ops ≡ None → AllFit text (map own_change ops)
all_fit text [] h = tt
all_fit text (o ∷ ops) h =
    let k = next_inside (is_outside (length text) o) (length text) (first_outside (changed_by (own_change o) text) ops) h in
    (fits_inside (length text) o k.0, all_fit (changed_by (own_change o) text) ops k.1)

-- and the other way round
pub none_outside : (text : List ℕ) (ops : List Op) → AllFit text (map own_change ops) → first_outside text ops ≡ None
none_outside text [] h = refl
none_outside text (o ∷ ops) h =
    ap (λ b. cond b (Some (length text)) (first_outside (changed_by (own_change o) text) ops)) (inside (length text) o h.0)
    ∙ none_outside (changed_by (own_change o) text) ops h.1

-- Where the operations behind some are left: the first out of range among all is that among them, in a text of this length.
pub record IsBehind (text : List ℕ) (ops left : List Op) (len : ℕ) : Type 0 where
  pub now : List ℕ
  pub long : length now ≡ len
  pub same : first_outside text ops ≡ first_outside now left

-- all are left
pub all_left : (text : List ℕ) (ops : List Op) (len : ℕ) → length text ≡ len → IsBehind text ops ops len
all_left text ops len long = record { now = text; long = long; same = refl }

-- the next one
pub next_left : (text : List ℕ) (ops : List Op) (i : ℕ) (d : Op) (len : ℕ) → i < length ops → IsBehind text ops (drop i ops) len → IsBehind text ops (get_or ops i d ∷ drop (i + 1) ops) len
next_left text ops i d len within h = subst (λ (left : List Op). IsBehind text ops left len) (drop_more ops i d within) h

-- it is in range
pub one_done : (text : List ℕ) (ops : List Op) (o : Op) (left : List Op) (len after : ℕ) → is_outside len o ≡ false → ((t : List ℕ) → length t ≡ len → after ≡ length (changed_by (own_change o) t)) → IsBehind text ops (o ∷ left) len
    → IsBehind text ops left after
one_done text ops o left len after in_range is h = record {
  now = changed_by (own_change o) h.now;
  long = sym (is h.now h.long);
  same = h.same ∙ ap (λ b. cond b (Some (length h.now)) (first_outside (changed_by (own_change o) h.now) left)) (ap (λ n. is_outside n o) h.long ∙ in_range);
}

-- or it is the first one that isn't
pub found_outside : (text : List ℕ) (ops : List Op) (o : Op) (left : List Op) (len : ℕ) → is_outside len o ≡ true → IsBehind text ops (o ∷ left) len → Some len ≡ first_outside text ops
found_outside text ops o left len out h =
    sym (h.same ∙ ap (λ b. cond b (Some (length h.now)) (first_outside (changed_by (own_change o) h.now) left)) (ap (λ n. is_outside n o) h.long ∙ out) ∙ ap (λ n. Some n) h.long)

-- none is left
pub none_left : (text : List ℕ) (ops : List Op) (i len : ℕ) → length ops ≤ i → IsBehind text ops (drop i ops) len → None ≡ first_outside text ops
none_left text ops i len over h = sym (h.same ∙ ap (first_outside h.now) (drop_all i ops over))

-- WHAT ISN'T REFUSED
none_first : (outside : Option ℕ) (refusal : Option EditRefusal) → outside_first outside refusal ≡ None → (outside ≡ None) × (refusal ≡ None)
none_first None refusal h = (refl, h)
none_first (Some len) refusal h = let no : ⊥ = cc in absurd no

none_to_make : (b c d : Bool) (x y : EditRefusal) → cond b None (cond c (Some x) (cond d (Some y) None)) ≡ None → (b ≡ true) ⊎ ((c ≡ false) × (d ≡ false))
none_to_make true c d x y h = inl refl
none_to_make false true d x y h = let no : ⊥ = cc in absurd no
none_to_make false false true x y h = let no : ⊥ = cc in absurd no
none_to_make false false false x y h = inr (refl, refl)

-- operations that aren't refused may be done, and there is room for their events
pub record AreAllowed (limits : LimitNumbers) (held : List Event) (ops : List Op) : Type 0 where
  pub may : MayDo held ops
  pub room : length held ≤ limits.events → length held + length ops ≤ limits.events

pub are_allowed : (limits : LimitNumbers) (held : List Event) (ops : List Op) → IsGood held → ops_refusal limits held ops ≡ None → AreAllowed limits held ops
are_allowed limits held ops good none =
    let size = length ops in
    let parts = none_first (first_outside (text_of held) ops) (refusal_to_make (length (heads held)) (length held) limits.events size) none in
    let to_make = none_to_make (size == 0) (nat_lt 16 (length (heads held))) (nat_lt limits.events (length held + size)) _ _ parts.1 in
    record {
      may = record {
        good = good;
        few = few_by held ops (⊎_elim (λ e. inl (eqb-true size 0 e)) (λ k. inr (ltb-false 16 (length (heads held)) k.0)) to_make);
        fit = all_fit (text_of held) ops parts.0;
      };
      room = λ few. ⊎_elim (λ e. let none_made = eqb-true size 0 e in omega (arith, none_made, few)) (λ k. ltb-false limits.events (length held + size) k.1) to_make;
    }

-- THE ANSWERS
-- a refusal
pub refused : (agent : List ℕ) (ops : List Op) (old : ReplicaState) (told : EditFault) → ops_refusal old.limits old.held ops ≡ refusal_of told → DoesAll agent ops old old (Err told)
refused agent ops old (fault.OutOfRange len) e = (e, refl)
refused agent ops old (fault.TooManyHeads n) e = (e, refl)
refused agent ops old (fault.Full count) e = (e, refl)
refused agent ops old fault.OutOfMemory e = refl

-- no operations
no_events : (held : List Event) (agent : List ℕ) → events_of_ops held agent [] ≡ []
unfolding events_of_ops
no_events held agent = refl

pub nothing_done : (agent : List ℕ) (ops : List Op) (old : ReplicaState) → ops ≡ [] → ops_refusal old.limits old.held ops ≡ None → DoesAll agent ops old old (Ok 0)
nothing_done agent ops old empty none =
    let same : old.held ≡ old.held ++ events_of_ops old.held agent ops = sym (ap (λ os. old.held ++ events_of_ops old.held agent os) empty ∙ ap (λ es. old.held ++ es) (no_events old.held agent) ∙ append-nil old.held) in
    (none, (λ i. record { limits = old.limits; held = same i; waiting = old.waiting }), sym (ap length empty))

-- the events made are those of the operations
pub all_made : (held graph : List Event) (agent : List ℕ) (e : Event) (first : Op) (rest ops : List Op) → graph ≡ held → ((later : List Op) → chain_from e later ≡ events_of_ops graph agent (first ∷ later)) → ops ≡ first ∷ rest
    → chain_from e rest ≡ events_of_ops held agent ops
all_made held graph agent e first rest ops same made whole = made rest ∙ (λ i. events_of_ops (same i) agent (sym whole i))

-- all are done
pub all_done : (agent : List ℕ) (ops : List Op) (old new : ReplicaState) (made : List Event) (n : ℕ) → ops_refusal old.limits old.held ops ≡ None → made ≡ events_of_ops old.held agent ops
    → new ≡ record { limits = old.limits; held = old.held ++ made; waiting = old.waiting } → n ≡ length made → DoesAll agent ops old new (Ok n)
all_done agent ops old new made n none is e long =
    (none, e ∙ (λ i. record { limits = old.limits; held = old.held ++ is i; waiting = old.waiting }), long ∙ ap length is ∙ ops_long old.held agent ops)

-- the text then
pub text_then : (agent : List ℕ) (ops : List Op) (old new : ReplicaState) (n : ℕ) → IsGood old.held → DoesAll agent ops old new (Ok n) → text_of new.held ≡ changed_by_all (map own_change ops) (text_of old.held)
text_then agent ops old new n good e = ap (λ (s : ReplicaState). text_of s.held) e.1 ∙ (ops_done old.held agent ops (are_allowed old.limits old.held ops good e.0).may).text
