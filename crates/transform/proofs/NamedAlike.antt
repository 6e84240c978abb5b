-- A walk over a whole history leaves the entries of the history, under the events' positions.
use Rattle.std.proofs.Common.{◌≡◌, ℕ, zero, suc, ◌+◌, ◌<◌, ◌≤◌, nat_eq, true, inl, inr, ⊎_elim, List, [], ◌∷◌, ◌++◌, length, map, Some, refl, sym, ap, ◌∙◌, subst, arith}
use Rattle.std.specs.Prelude.{slice_get}
use Rattle.std.specs.List.{AllZip}
use Rattle.std.proofs.lemmas.Bool.{false≢true}
use Rattle.ew_model.specs.declared.id.Id.{Id}
use Rattle.ew_model.specs.declared.event.Op.{Op}
use Rattle.ew_model.specs.declared.event.Op.TheVariants.{Ins, Del, Mark}
use Rattle.ew_model.specs.declared.event.Event.{Event}
use Rattle.ew_model.specs.Sets.{Among}
use Rattle.ew_model.specs.Ids.{id_eq}
use Rattle.ew_model.specs.Ancestors.{ids_of}
use Rattle.ew_model.specs.Records.{inserts_as}
use Rattle.ew_model.specs.Tree.{Applied, Noted, act_by, tree, tree_on, tree_of, applied_after}
use Rattle.ew_model.specs.Walks.{walked_after, walked_from}
use Rattle.ew_model.proofs.RenameLaws.{SameNote, renamed_notes}
use Rattle.ew_model.proofs.RunLaws.{id_same}
use Rattle.transform.proofs.WalkedEvents.{long}
use Rattle.ew_model.proofs.WalkLaws.{pairs, above, walked_namesakes, names_are}

-- THE NOTES
-- the notes of a walk over a whole history are those of the history, each under the position of its event
pub same_notes : (history : List Event) → AllZip (SameNote nat_eq id_eq (pairs 0 history)) (tree_of nat_eq 0 (walked_from history 0)) (tree history)
unfolding tree tree_on
same_notes history =
    let by_position = walked_from history 0 in
    let by_id = applied_after [] history in
    subst (λ (seen : List (ℕ × Id)). AllZip (SameNote nat_eq id_eq seen) (tree_of nat_eq 0 by_position) (tree_of id_eq 0 by_id)) (names_are 0 [] [] history)
    (renamed_notes nat_eq id_eq 0 by_position by_id (walked_namesakes 0 [] [] history))

pub same_entries : (seen : List (ℕ × Id)) (ns : List (Noted ℕ)) (ms : List (Noted Id)) → AllZip (SameNote nat_eq id_eq seen) ns ms → map (λ (n : Noted ℕ). n.entry) ns ≡ map (λ (m : Noted Id). m.entry) ms
same_entries seen [] [] z = refl
same_entries seen [] (m ∷ ms) z = absurd z
same_entries seen (n ∷ ns) [] z = absurd z
same_entries seen (n ∷ ns) (m ∷ ms) z = let rest = same_entries seen ns ms z.1 in λ i. z.0.1 i ∷ rest i

-- two notes at one place are of one event
pub notes_at : (seen : List (ℕ × Id)) (ns : List (Noted ℕ)) (ms : List (Noted Id)) (k : ℕ) (n : Noted ℕ) → AllZip (SameNote nat_eq id_eq seen) ns ms → slice_get ns k ≡ Some n
    → (m : Noted Id) × (slice_get ms k ≡ Some m) × SameNote nat_eq id_eq seen n m
notes_at seen [] ms k n z at = let no : ⊥ = cc in absurd no
notes_at seen (h ∷ ns) [] k n z at = absurd z
notes_at seen (h ∷ ns) (m ∷ ms) zero n z at = let here : h ≡ n = cc in (m, refl, subst (λ (w : Noted ℕ). SameNote nat_eq id_eq seen w m) here z.0)
notes_at seen (h ∷ ns) (m ∷ ms) (suc k) n z at = notes_at seen ns ms k n z.1 at

-- THE EVENTS
id_at : (n i : ℕ) (events : List Event) (p : ℕ × Id) → Among p (pairs n events) → p.0 ≡ n + i → slice_get (ids_of events) i ≡ Some p.1
id_at n i [] p m is = absurd m
id_at n zero (e ∷ events) p m is =
    ⊎_elim
    (λ first. ap (λ (q : ℕ × Id). Some q.1) (sym first))
    (λ rest. let far : suc n ≤ p.0 = above (suc n) events p rest in absurd (omega (arith, far, is)))
    m
id_at n (suc i) (e ∷ events) p m is =
    ⊎_elim
    (λ first. let same : p.0 ≡ n = ap (λ (q : ℕ × Id). q.0) first in absurd (omega (arith, same, is)))
    (λ rest. id_at (suc n) i events p rest (omega (arith, is)))
    m

-- a position beside an id is that of the event with the id
pub paired_at : (history : List Event) (p : ℕ × Id) → Among p (pairs 0 history) → slice_get (ids_of history) p.0 ≡ Some p.1
paired_at history p m = id_at 0 p.0 history p m (omega arith)

-- what a walk applies is an event of the history, under its position
pub applied_of : (k : ℕ) (below between later : List Event) (c : Applied ℕ) → Among c (walked_after k below between later)
    → (e : Event) × Among (c.name, e.id) (pairs (k + length between) later) × (c.act ≡ act_by e.id e.op)
applied_of k below between [] c m = absurd m
applied_of k below between (e ∷ later) c m =
    ⊎_elim
    (λ first. let name = ap (λ (a : Applied ℕ). a.name) first in (e, inl (λ i. (name i, e.id)), ap (λ (a : Applied ℕ). a.act) first))
    (λ rest.
    let from = applied_of k below (between ++ e ∷ []) later c rest in
    let next : k + length (between ++ e ∷ []) ≡ suc (k + length between) = omega (arith, long between e) in
    (from.0, inr (subst (λ (n : ℕ). Among (c.name, from.0.id) (pairs n later)) next from.1), from.2))
    m

-- the act of an event inserts under the event's id
pub own_id : (x y : Id) (op : Op) → inserts_as x (act_by y op) ≡ true → y ≡ x
own_id x y (Ins at ch) h = id_same y x h
own_id x y (Del at) h = absurd (false≢true h)
own_id x y (Mark label) h = absurd (false≢true h)

-- THE NAMES
name_after : (k : ℕ) (below between later : List Event) (n : ℕ) → n < length later → slice_get (map (λ (c : Applied ℕ). c.name) (walked_after k below between later)) n ≡ Some (k + length between + n)
name_after k below between [] n within = absurd (omega (arith, within))
name_after k below between (e ∷ later) zero within = let same : k + length between ≡ k + length between + 0 = omega arith in ap (λ (m : ℕ). Some m) same
name_after k below between (e ∷ later) (suc n) within =
    let next : k + length (between ++ e ∷ []) + n ≡ k + length between + suc n = omega (arith, long between e) in
    name_after k below (between ++ e ∷ []) later n (omega (arith, within)) ∙ ap (λ (m : ℕ). Some m) next

length-walked : (k : ℕ) (below between later : List Event) → length (walked_after k below between later) ≡ length later
length-walked k below between [] = refl
length-walked k below between (e ∷ later) = ap suc (length-walked k below (between ++ e ∷ []) later)

-- a walk over a whole history names its events by their positions, one after another
pub name_at : (history : List Event) (n : ℕ) → n < length history → slice_get (map (λ (c : Applied ℕ). c.name) (walked_from history 0)) n ≡ Some n
name_at history n within =
    let none : length {A = Event} [] ≡ 0 = refl in
    let same : 0 + length {A = Event} [] + n ≡ n = omega (arith, none) in
    name_after 0 [] [] history n within ∙ ap (λ (m : ℕ). Some m) same

pub walked_long : (history : List Event) → length (walked_from history 0) ≡ length history
walked_long history = length-walked 0 [] [] history
