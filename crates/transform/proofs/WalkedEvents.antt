-- The events from a cut on, as a walk applies them.
use Rattle.std.proofs.Common.{◌≡◌, ℕ, zero, suc, ◌+◌, ◌<◌, ◌≤◌, nat_eq, Bool, true, false, ◌||◌, List, [], ◌∷◌, ◌++◌, length, take, drop, refl, sym, ap, ◌∙◌, arith, append_assoc, append-nil, eq-eqb, ne_eqb}
use Rattle.std.specs.List.{list_any}
use Rattle.std.proofs.lemmas.Bool.{false≢true, or_parts}
use Rattle.std.proofs.lemmas.List.{take-append-drop, take-append-le, drop-append-le, length-drop}
use Rattle.ew_model.specs.declared.id.Id.{Id}
use Rattle.ew_model.specs.declared.event.Op.{Op}
use Rattle.ew_model.specs.declared.event.Op.TheVariants.{Ins, Del, Mark}
use Rattle.ew_model.specs.declared.event.Event.{Event}
use Rattle.ew_model.specs.Ids.{id_eq}
use Rattle.ew_model.specs.Ancestors.{is_held, ancestors}
use Rattle.ew_model.specs.Tree.{Applied, act_by}
use Rattle.ew_model.specs.Walks.{positions_among, walked_after, walked_from}
use Rattle.ew_model.specs.Records.{inserts_as}
use Rattle.ew_model.proofs.CoverLaws.{ids_alike}
use Rattle.transform.specs.Reaching.{over_since}

abbrev has_name : List (Applied ℕ) → ℕ → Bool
has_name events n = list_any (λ (c : Applied ℕ). nat_eq c.name n) events

pub long : (before : List Event) (x : Event) → length (before ++ x ∷ []) ≡ suc (length before)
long [] x = refl
long (y ∷ before) x = ap suc (long before x)

named_one : (m n : ℕ) (b rest : Bool) → nat_eq m n ≡ b → ((m ≡ n → ⊥) → rest ≡ true) → (nat_eq m n || rest) ≡ true
named_one m n true rest q f = ap (λ b. b || rest) q
named_one m n false rest q f = ap (λ b. b || rest) q ∙ f (λ same. false≢true (sym q ∙ eq-eqb m n same))

uninserted_act : (x y : Id) (op : Op) → id_eq x y ≡ false → inserts_as x (act_by y op) ≡ false
uninserted_act x y (Ins at ch) h = ids_alike.symm y x ∙ h
uninserted_act x y (Del at) h = refl
uninserted_act x y (Mark label) h = refl

-- an id that a history doesn't hold is none of its later ones
pub unheld_later : (front : List Event) (cut : ℕ) (x : Id) → is_held front x ≡ false → is_held (drop cut front) x ≡ false
unheld_later front zero x h = h
unheld_later [] (suc cut) x h = refl
unheld_later (e ∷ front) (suc cut) x h = unheld_later front cut x (or_parts (id_eq x e.id) (is_held front x) h).1

-- the event behind these, as a walk from a cut applies it
abbrev pub walked : List Event → ℕ → Event → Applied ℕ
walked front cut e = record { name = length front; act = act_by e.id e.op; over = over_since front cut e }

module _ (cut : ℕ) (below : List Event) where
  -- the same, by how the definition counts
  abbrev counted : List Event → Event → Applied ℕ
  counted between e = record { name = cut + length between; act = act_by e.id e.op; over = positions_among (ancestors (below ++ between) e.parents) cut between }

  walked_push : (before events : List Event) (e : Event) → walked_after cut below before (events ++ e ∷ []) ≡ walked_after cut below before events ++ counted (before ++ events) e ∷ []
  walked_push before [] e = ap (λ bs. counted bs e ∷ []) (sym (append-nil before))
  walked_push before (x ∷ events) e =
      ap (λ ws. counted before x ∷ ws) (walked_push (before ++ x ∷ []) events e ∙ ap (λ bs. walked_after cut below (before ++ x ∷ []) events ++ counted bs e ∷ []) (append_assoc before (x ∷ []) events))

  -- THEIR NAMES
  named_after : (before events : List Event) (n : ℕ) → cut + length before ≤ n → n < cut + length before + length events → has_name (walked_after cut below before events) n ≡ true
  named_after before [] n low high = let no : ⊥ = omega (arith, low, high) in absurd no
  named_after before (x ∷ events) n low high =
      named_one (cut + length before) n (nat_eq (cut + length before) n) (has_name (walked_after cut below (before ++ x ∷ []) events) n) refl
      (λ differ. named_after (before ++ x ∷ []) events n (above differ) (omega (arith, high, long before x)))
    where
      above : (cut + length before ≡ n → ⊥) → cut + length (before ++ x ∷ []) ≤ n
      above differ = omega (arith, low, long before x, differ)

  unnamed_after : (before events : List Event) (n : ℕ) → cut + length before + length events ≤ n → has_name (walked_after cut below before events) n ≡ false
  unnamed_after before [] n high = refl
  unnamed_after before (x ∷ events) n high =
      ap (λ b. b || has_name (walked_after cut below (before ++ x ∷ []) events) n) (ne_eqb (cut + length before) n (λ same. omega (arith, high, same)))
      ∙ unnamed_after (before ++ x ∷ []) events n (omega (arith, high, long before x))

  -- THEIR IDS
  uninserted_after : (before events : List Event) (x : Id) → is_held events x ≡ false → list_any (λ (c : Applied ℕ). inserts_as x c.act) (walked_after cut below before events) ≡ false
  uninserted_after before [] x h = refl
  uninserted_after before (e ∷ events) x h =
      let parts = or_parts (id_eq x e.id) (is_held events x) h in
      ap (λ b. b || list_any (λ (c : Applied ℕ). inserts_as x c.act) (walked_after cut below (before ++ e ∷ []) events)) (uninserted_act x e.id e.op parts.0)
      ∙ uninserted_after (before ++ e ∷ []) events x parts.1

pub walked_more : (front : List Event) (cut : ℕ) (e : Event) → cut ≤ length front → walked_from (front ++ e ∷ []) cut ≡ walked_from front cut ++ walked front cut e ∷ []
walked_more front cut e low =
    let below = take cut front in
    let between = drop cut front in
    let name : cut + length between ≡ length front = omega (arith, low, length-drop cut front) in
    (λ i. walked_after cut (take-append-le cut front (e ∷ []) low i) [] (drop-append-le cut front (e ∷ []) low i))
    ∙ walked_push cut below [] between e
    ∙ (λ i. walked_after cut below [] between ++ record { name = name i; act = act_by e.id e.op; over = positions_among (ancestors (take-append-drop cut front i) e.parents) cut between } ∷ [])

-- each position from the cut on is one of them
pub named_from : (front : List Event) (cut n : ℕ) → cut ≤ length front → cut ≤ n → n < length front → has_name (walked_from front cut) n ≡ true
named_from front cut n low above below = named_after cut (take cut front) [] (drop cut front) n (omega (arith, above)) (omega (arith, below, low, length-drop cut front))

-- and none that comes later is
pub unnamed_later : (front : List Event) (cut n : ℕ) → cut ≤ length front → length front ≤ n → has_name (walked_from front cut) n ≡ false
unnamed_later front cut n low high = unnamed_after cut (take cut front) [] (drop cut front) n (omega (arith, low, high, length-drop cut front))

pub unnamed : (front : List Event) (cut : ℕ) → cut ≤ length front → has_name (walked_from front cut) (length front) ≡ false
unnamed front cut low = unnamed_later front cut (length front) low (omega arith)

-- an id that isn't held is inserted by none of them
pub uninserted : (front : List Event) (cut : ℕ) (x : Id) → is_held front x ≡ false → list_any (λ (c : Applied ℕ). inserts_as x c.act) (walked_from front cut) ≡ false
uninserted front cut x h = uninserted_after cut (take cut front) [] (drop cut front) x (unheld_later front cut x h)
