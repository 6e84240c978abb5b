-- Critical cuts: the latest one is critical, and a cut that is critical is so already in what was held before.
use Rattle.std.proofs.Common.{◌≡◌, ℕ, zero, suc, ◌≤◌, ◌<◌, Bool, true, false, cond, ◌&&◌, nat_le, List, [], ◌∷◌, ◌++◌, length, take, drop, refl, sym, ap, ◌∙◌, arith, append_assoc, le-leb, length-append}
use Rattle.std.specs.List.{list_all}
use Rattle.std.proofs.lemmas.Bool.{false≢true, and_parts, leb-true, leb-false}
use Rattle.ew_model.specs.declared.id.Id.{Id}
use Rattle.ew_model.specs.declared.event.Event.{Event}
use Rattle.ew_model.specs.Ancestors.{ids_of, ancestors}
use Rattle.ew_model.specs.Cuts.{are_among, is_critical, latest_cut}
use Rattle.std.proofs.Math.Seq.{take-append_seam, drop-append_seam}
use Rattle.ew_model.specs.Ids.{id_eq}
use Rattle.ew_model.proofs.GraphCuts.{cut_at_start}
use Rattle.ew_model.proofs.AncestorLaws.{ancestors_before}
use Rattle.ew_model.proofs.EntryLaws.{LaidOut}
use Rattle.ew_model.proofs.OperationLaws.{laid_part}
use Rattle.ew_model.proofs.LocalEdit.{KnowsAll}
use Rattle.ew_model.proofs.Clearing.{AllKnow}
use Rattle.ew_model.proofs.ClearingLaw.{know_before, laid_rest}

-- no event is below the cut 0
pub start_critical : (history : List Event) → is_critical history 0 ≡ true
unfolding is_critical
start_critical history = cut_at_start (λ (e : Event). e.id) (λ (e : Event). e.parents) id_eq history

cut_is : (b : Bool) (history : List Event) (m n : ℕ) → is_critical history m ≡ b → is_critical history n ≡ true → is_critical history (cond b m n) ≡ true
cut_is true history m n e f = e
cut_is false history m n e f = f

-- the latest cut is critical
pub latest_critical : (history : List Event) (m : ℕ) → is_critical history (latest_cut history m) ≡ true
latest_critical history zero = start_critical history
latest_critical history (suc m) = cut_is (is_critical history (suc m)) history (suc m) (latest_cut history m) refl (latest_critical history m)

cut_below : (b : Bool) (m n : ℕ) → n ≤ m → cond b (suc m) n ≤ suc m
cut_below true m n h = omega arith
cut_below false m n h = omega (arith, h)

-- and at most m
pub latest_at_most : (history : List Event) (m : ℕ) → latest_cut history m ≤ m
latest_at_most history zero = omega arith
latest_at_most history (suc m) = cut_below (is_critical history (suc m)) m (latest_cut history m) (latest_at_most history m)

low_above : (c : Bool) (history : List Event) (m n k : ℕ) → nat_le k m ≡ c → is_critical history (suc m) ≡ false → k ≤ suc m → is_critical history k ≡ true → (k ≤ m → k ≤ n) → k ≤ n
low_above true history m n k q e h c f = f (leb-true k m q)
low_above false history m n k q e h c f = let far : m < k = leb-false k m q in let top : k ≡ suc m = omega (arith, far, h) in absurd (false≢true (sym e ∙ (ap (is_critical history) (sym top) ∙ c)))

cut_above : (b : Bool) (history : List Event) (m n k : ℕ) → is_critical history (suc m) ≡ b → k ≤ suc m → is_critical history k ≡ true → (k ≤ m → k ≤ n) → k ≤ cond b (suc m) n
cut_above true history m n k e h c f = h
cut_above false history m n k e h c f = low_above (nat_le k m) history m n k refl e h c f

-- and no critical cut up to m is above it
pub latest_greatest : (history : List Event) (m k : ℕ) → k ≤ m → is_critical history k ≡ true → k ≤ latest_cut history m
latest_greatest history zero k h c = h
latest_greatest history (suc m) k h c = cut_above (is_critical history (suc m)) history m (latest_cut history m) k refl h c (λ low. latest_greatest history m k low c)

known_front : (below before xs ys : List Event) → AllKnow below before (xs ++ ys) → AllKnow below before xs
known_front below before [] ys h = tt
known_front below before (x ∷ xs) ys h = (h.0, known_front below (before ++ x ∷ []) xs ys h.1)

known_ids : (ids : List Id) (events : List Event) → KnowsAll events ids → are_among ids (ids_of events) ≡ true
known_ids ids [] h = refl
known_ids ids (e ∷ events) h = λ i. h.0 i && known_ids ids events h.1 i

-- what each event knows before itself it knows in the whole history
known_whole : (below before later whole : List Event) → before ++ later ≡ whole → LaidOut before later → AllKnow below before later → list_all (λ e. are_among (ancestors whole e.parents) (ids_of below)) later ≡ true
known_whole below before [] whole eq laid h = refl
known_whole below before (e ∷ later) whole eq laid h =
    let same : ancestors whole e.parents ≡ ancestors before e.parents = ap (λ w. ancestors w e.parents) (sym eq) ∙ ancestors_before before (e ∷ later) e.parents laid.1 in
    let first : are_among (ancestors whole e.parents) (ids_of below) ≡ true = ap (λ ids. are_among ids (ids_of below)) same ∙ known_ids (ancestors before e.parents) below h.0 in
    λ i. first i && known_whole below (before ++ e ∷ []) later whole (append_assoc before (e ∷ []) later ∙ eq) laid.2 h.1 i

-- A cut that is critical is so in every front of the history that reaches to it.
pub critical_front : (below between later : List Event) → LaidOut [] (below ++ (between ++ later)) → is_critical (below ++ (between ++ later)) (length below) ≡ true → is_critical (below ++ between) (length below) ≡ true
unfolding is_critical
critical_front below between later laid critical =
    let whole = below ++ (between ++ later) in
    let parts = and_parts (nat_le (length below) (length whole)) (list_all (λ e. are_among (ancestors whole e.parents) (ids_of (take (length below) whole))) (drop (length below) whole)) critical in
    let every : list_all (λ e. are_among (ancestors whole e.parents) (ids_of below)) (between ++ later) ≡ true =
    sym (λ i. list_all (λ e. are_among (ancestors whole e.parents) (ids_of (take-append_seam below (between ++ later) i))) (drop-append_seam below (between ++ later) i)) ∙ parts.1 in
    let laid_behind : LaidOut below (between ++ later) = laid_rest [] below (between ++ later) laid in
    let know : AllKnow below below between = known_front below below between later (know_before below below (between ++ later) whole refl laid_behind every) in
    let laid_between : LaidOut below between = laid_part below between later laid_behind in
    let long : length below ≤ length (below ++ between) = omega (arith, length-append below between) in
    λ i. le-leb (length below) (length (below ++ between)) long i
    && ((λ i. list_all (λ e. are_among (ancestors (below ++ between) e.parents) (ids_of (take-append_seam below between i))) (drop-append_seam below between i))
    ∙ known_whole below below between (below ++ between) refl laid_between know) i
