-- What a critical cut of a history says of its first events.
use Rattle.std.proofs.Common.{◌≡◌, ℕ, zero, suc, ◌≤◌, nat_le, true, inl, List, [], ◌∷◌, ◌++◌, length, take, drop, refl, sym, ap, ◌∙◌, subst, arith, append_assoc}
use Rattle.std.specs.List.{list_all}
use Rattle.std.proofs.lemmas.Bool.{and_parts, leb-true}
use Rattle.std.proofs.lemmas.List.{take-append-drop, take-append-le, drop-append-le, take_all, length-take-le}
use Rattle.ew_model.specs.declared.event.Event.{Event}
use Rattle.ew_model.specs.Sets.{Among}
use Rattle.ew_model.specs.Ids.{is_among}
use Rattle.ew_model.specs.Ancestors.{ids_of, ancestors}
use Rattle.ew_model.specs.Cuts.{are_among, is_critical}
use Rattle.ew_model.specs.Texts.{text_of}
use Rattle.ew_model.specs.Walks.{base_at}
use Rattle.ew_model.proofs.AncestorLaws.{ancestors_before}
use Rattle.ew_model.proofs.ClearingLaw.{laid_rest}
use Rattle.ew_model.proofs.CutLaws.{critical_front}
use Rattle.ew_model.proofs.EntryLaws.{LaidOut}
use Rattle.ew_model.proofs.ListTests.{passes}
use Rattle.ew_model.proofs.LocalEdit.{KnowsAll}
use Rattle.ew_model.proofs.SetLaws.{joined_right, map_among}
use Rattle.ew_model.proofs.SortingLaws.{all_from}

pub take_front : {X : Type 0} (n m : ℕ) (xs : List X) → n ≤ m → take n (take m xs) ≡ take n xs
take_front zero m xs h = refl
take_front (suc n) zero xs h = let no : ⊥ = omega (arith, h) in absurd no
take_front (suc n) (suc m) [] h = refl
take_front (suc n) (suc m) (x ∷ xs) h = ap (λ ys. x ∷ ys) (take_front n m xs (omega (arith, h)))

-- a critical cut is within the history
pub critical_within : (history : List Event) (cut : ℕ) → is_critical history cut ≡ true → cut ≤ length history
unfolding is_critical
critical_within history cut h = leb-true cut (length history) (and_parts (nat_le cut (length history)) (list_all (λ e. are_among (ancestors history e.parents) (ids_of (take cut history))) (drop cut history)) h).0

-- the text below a cut is that of each front that reaches to it
pub same_base : (history : List Event) (cut n : ℕ) → cut ≤ n → base_at (take n history) cut ≡ base_at history cut
same_base history cut n low = ap (λ (es : List Event). length (text_of es)) (take_front cut n history low)

-- the cut is critical in each front that reaches to it
pub critical_take : (history : List Event) (cut n : ℕ) → LaidOut [] history → cut ≤ n → n ≤ length history → is_critical history cut ≡ true → is_critical (take n history) cut ≡ true
critical_take history cut n laid low within critical =
    let front = take n history in
    let below = take cut front in
    let between = drop cut front in
    let later = drop n history in
    let whole : below ++ (between ++ later) ≡ history = sym (append_assoc below between later) ∙ (λ i. take-append-drop cut front i ++ later) ∙ take-append-drop n history in
    let long : length below ≡ cut = length-take-le cut front (omega (arith, low, length-take-le n history within)) in
    let done : is_critical (below ++ between) (length below) ≡ true = critical_front below between later (subst (LaidOut []) (sym whole) laid) ((λ i. is_critical (whole i) (long i)) ∙ critical) in
    (λ i. is_critical (sym (take-append-drop cut front) i) (sym long i)) ∙ done

-- the event behind a front knows all below a cut
pub knows_ids : (front : List Event) (e : Event) (cut : ℕ) → LaidOut [] (front ++ e ∷ []) → cut ≤ length front → is_critical (front ++ e ∷ []) cut ≡ true → are_among (ancestors front e.parents) (ids_of (take cut front)) ≡ true
unfolding is_critical
knows_ids front e cut laid low critical =
    let whole = front ++ e ∷ [] in
    let parts = and_parts (nat_le cut (length whole)) (list_all (λ g. are_among (ancestors whole g.parents) (ids_of (take cut whole))) (drop cut whole)) critical in
    let last : Among e (drop cut whole) = subst (Among e) (sym (drop-append-le cut front (e ∷ []) low)) (joined_right (drop cut front) (e ∷ []) e (inl refl)) in
    let all : are_among (ancestors whole e.parents) (ids_of (take cut whole)) ≡ true = passes (λ g. are_among (ancestors whole g.parents) (ids_of (take cut whole))) (drop cut whole) e parts.1 last in
    let same : ancestors whole e.parents ≡ ancestors front e.parents = ancestors_before front (e ∷ []) e.parents (laid_rest [] front (e ∷ []) laid).1 in
    sym (λ i. are_among (same i) (ids_of (take-append-le cut front (e ∷ []) low i))) ∙ all

pub knows_below : (front : List Event) (e : Event) (cut : ℕ) → LaidOut [] (front ++ e ∷ []) → cut ≤ length front → is_critical (front ++ e ∷ []) cut ≡ true → (f : Event) → Among f (take cut front) → is_among (ancestors front e.parents) f.id ≡ true
knows_below front e cut laid low critical f m =
    passes (is_among (ancestors front e.parents)) (ids_of (take cut front)) f.id (knows_ids front e cut laid low critical) (map_among (λ (g : Event). g.id) (take cut front) f m)

-- where all of the front is below the cut, it knows all
pub knows_front : (front : List Event) (e : Event) → LaidOut [] (front ++ e ∷ []) → is_critical (front ++ e ∷ []) (length front) ≡ true → KnowsAll front (ancestors front e.parents)
knows_front front e laid critical =
    all_from (λ (f : Event). is_among (ancestors front e.parents) f.id ≡ true) front
    (λ f m. knows_below front e (length front) laid (omega arith) critical f (subst (Among f) (sym (take_all (length front) front (omega arith))) m))
