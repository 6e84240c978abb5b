-- A walk names the events from a cut on by their positions.
use Rattle.std.proofs.Common.{◌≡◌, ℕ, suc, ◌+◌, ◌<◌, ◌≤◌, nat_eq, Bool, true, false, cond, ◌||◌, ⊎_elim, List, [], ◌∷◌, ◌++◌, length, take, drop, refl, sym, ap, ◌∙◌, subst, append_assoc, append-nil, arith, eq-eqb, ne_eqb}
use Rattle.std.specs.List.{list_any}
use Rattle.std.proofs.lemmas.List.{length-map}
use Rattle.ew_model.specs.declared.id.Id.{Id}
use Rattle.ew_model.specs.declared.event.Event.{Event}
use Rattle.ew_model.specs.Sets.{Among}
use Rattle.ew_model.specs.Ids.{id_eq, is_among}
use Rattle.ew_model.specs.Ancestors.{ancestors}
use Rattle.ew_model.specs.Entries.{Inserted, visible}
use Rattle.ew_model.specs.Texts.{visible_at, text_at}
use Rattle.ew_model.specs.Tree.{tree_of, applied_after}
use Rattle.ew_model.specs.Walks.{positions_among, walked_after}
use Rattle.ew_model.specs.Walks.{base_at, applied_from, walked_from}
use Rattle.ew_model.specs.ClearingLaws.{WalksAnswer, WalksKnowLengths}
use Rattle.ew_model.proofs.SortingLaws.{all_at, all_from}
use Rattle.ew_model.proofs.RenameLaws.{KnowAlike, Namesakes, names, same_over, renamed_notes, renamed_operations}
use Rattle.ew_model.proofs.ClearingLaw.{cuts_clear, cuts_keep_lengths}

-- positions, from n on, beside the ids of the events
abbrev pub pairs : ℕ → List Event → List (ℕ × Id)
pairs n [] = []
pairs n (e ∷ events) = (n, e.id) ∷ pairs (suc n) events

pub pairs-push : (n : ℕ) (events : List Event) (e : Event) → pairs n (events ++ e ∷ []) ≡ pairs n events ++ (n + length events, e.id) ∷ []
pairs-push n [] e = let same : n ≡ n + 0 = omega arith in λ i. (same i, e.id) ∷ []
pairs-push n (f ∷ events) e =
    let same : suc n + length events ≡ n + suc (length events) = omega arith in
    ap (λ ps. (n, f.id) ∷ ps) (pairs-push (suc n) events e ∙ ap (λ m. pairs (suc n) events ++ (m, e.id) ∷ []) same)

pub above : (n : ℕ) (events : List Event) (p : ℕ × Id) → Among p (pairs n events) → n ≤ p.0
above n [] p m = absurd m
above n (e ∷ events) p m =
    ⊎_elim
    (λ first. let same : p.0 ≡ n = ap (λ (q : ℕ × Id). q.0) first in omega (arith, same))
    (λ rest. let more : suc n ≤ p.0 = above (suc n) events p rest in omega (arith, more))
    m

none_kept : (b : Bool) (m n : ℕ) (ps : List ℕ) → m < n → list_any (nat_eq m) ps ≡ false → list_any (nat_eq m) (cond b (n ∷ ps) ps) ≡ false
none_kept true m n ps h rest = ap (λ c. c || list_any (nat_eq m) ps) (ne_eqb m n (λ same. omega (arith, h, same))) ∙ rest
none_kept false m n ps h rest = rest

-- no position before n is among them
none_before : (ids : List Id) (m n : ℕ) (events : List Event) → m < n → list_any (nat_eq m) (positions_among ids n events) ≡ false
none_before ids m n [] h = refl
none_before ids m n (e ∷ events) h = none_kept (is_among ids e.id) m n (positions_among ids (suc n) events) h (none_before ids m (suc n) events (omega (arith, h)))

know_kept : (b : Bool) (ids : List Id) (n : ℕ) (e : Event) (events : List Event) (ps : List ℕ) → is_among ids e.id ≡ b → list_any (nat_eq n) ps ≡ false → KnowAlike nat_eq id_eq ps ids (pairs (suc n) events) → KnowAlike nat_eq id_eq (cond b (n ∷ ps) ps) ids (pairs n (e ∷ events))
know_kept true ids n e events ps q none rest = (
  ap (λ c. c || list_any (nat_eq n) ps) (eq-eqb n n refl) ∙ sym q,
  all_from (λ (p : ℕ × Id). list_any (nat_eq p.0) (n ∷ ps) ≡ is_among ids p.1) (pairs (suc n) events)
      (λ p m.
      let far : suc n ≤ p.0 = above (suc n) events p m in
      ap (λ c. c || list_any (nat_eq p.0) ps) (ne_eqb p.0 n (λ same. omega (arith, far, same)))
      ∙ all_at (λ (p : ℕ × Id). list_any (nat_eq p.0) ps ≡ is_among ids p.1) (pairs (suc n) events) p rest m),
)
know_kept false ids n e events ps q none rest = (none ∙ sym q, rest)

-- the positions of known events are known as their ids are
pub know_pairs : (ids : List Id) (n : ℕ) (events : List Event) → KnowAlike nat_eq id_eq (positions_among ids n events) ids (pairs n events)
know_pairs ids n [] = tt
know_pairs ids n (e ∷ events) =
    know_kept (is_among ids e.id) ids n e events (positions_among ids (suc n) events) refl (none_before ids n (suc n) events (omega arith)) (know_pairs ids (suc n) events)

pub walked_namesakes : (k : ℕ) (below between later : List Event) → Namesakes nat_eq id_eq (pairs k between) (walked_after k below between later) (applied_after (below ++ between) later)
walked_namesakes k below between [] = tt
walked_namesakes k below between (e ∷ later) = (
  refl,
  know_pairs (ancestors (below ++ between) e.parents) k between,
  subst (λ seen. Namesakes nat_eq id_eq seen (walked_after k below (between ++ e ∷ []) later) (applied_after ((below ++ between) ++ e ∷ []) later)) (pairs-push k between e)
      (subst (λ w. Namesakes nat_eq id_eq (pairs k (between ++ e ∷ [])) (walked_after k below (between ++ e ∷ []) later) (applied_after w later)) (sym (append_assoc below between (e ∷ [])))
      (walked_namesakes k below (between ++ e ∷ []) later)),
)

-- A walk from a critical cut has the operations of the history.
pub walks_answer : WalksAnswer
walks_answer history k good sound critical =
    renamed_operations nat_eq id_eq (base_at history k) (walked_from history k) (applied_from history k)
    (subst (λ w. Namesakes nat_eq id_eq [] (walked_from history k) (applied_after w (drop k history))) (append-nil (take k history)) (walked_namesakes k (take k history) [] (drop k history)))
    ∙ cuts_clear history k good sound critical

-- the pairs of names are the positions beside the ids
pub names_are : (k : ℕ) (below between later : List Event) → names nat_eq id_eq (pairs k between) (walked_after k below between later) (applied_after (below ++ between) later) ≡ pairs k (between ++ later)
names_are k below between [] = ap (pairs k) (sym (append-nil between))
names_are k below between (e ∷ later) =
    (λ i. names nat_eq id_eq (sym (pairs-push k between e) i) (walked_after k below (between ++ e ∷ []) later) (applied_after (append_assoc below between (e ∷ []) i) later))
    ∙ names_are k below (between ++ e ∷ []) later
    ∙ ap (pairs k) (append_assoc between (e ∷ []) later)

-- A walk from a critical cut knows the lengths of versions.
pub walks_know_lengths : WalksKnowLengths
unfolding text_at
walks_know_lengths history k version good sound critical holds =
    let below = take k history in
    let later = drop k history in
    let b = base_at history k in
    let over = ancestors history version in
    let same : Namesakes nat_eq id_eq [] (walked_from history k) (applied_from history k) =
    subst (λ w. Namesakes nat_eq id_eq [] (walked_from history k) (applied_after w later)) (append-nil below) (walked_namesakes k below [] later) in
    let seen : names nat_eq id_eq [] (walked_from history k) (applied_from history k) ≡ pairs k later =
    ap (λ w. names nat_eq id_eq [] (walked_from history k) (applied_after w later)) (sym (append-nil below)) ∙ names_are k below [] later in
    let know : KnowAlike nat_eq id_eq (positions_among over k later) over (names nat_eq id_eq [] (walked_from history k) (applied_from history k)) =
    subst (KnowAlike nat_eq id_eq (positions_among over k later) over) (sym seen) (know_pairs over k later) in
    ap (λ es. length (visible es))
    (same_over nat_eq id_eq b (names nat_eq id_eq [] (walked_from history k) (applied_from history k)) (positions_among over k later) over (tree_of nat_eq b (walked_from history k)) (tree_of id_eq b (applied_from history k)) know (renamed_notes nat_eq id_eq b (walked_from history k) (applied_from history k) same))
    ∙ cuts_keep_lengths history k version good sound critical holds
    ∙ sym (length-map (visible_at history version) (λ (x : Inserted). x.ch))
