-- The characters that events are about, found by the events' positions.
use Rattle.std.proofs.Common.{◌≡◌, ℕ, Bool, true, false, cond, ◌||◌, ◌-◌, ◌<◌, suc, Option, Some, None, List, [], ◌∷◌, ◌++◌, length, take, map, find, option_map, nat_eq, if◌then◌else◌, refl, sym, ap, ◌∙◌, arith, length-append}
use Rattle.std.specs.List.{list_any}
use Rattle.std.proofs.lemmas.Bool.{eqb-true, false≢true}
use Rattle.ew_model.specs.declared.node.Node.{Node}
use Rattle.ew_model.specs.Tree.{Applied, Noted}
use Rattle.advance_retreat.specs.declared.target.Target.{Target}
use Rattle.advance_retreat.specs.Kept.{Kept, target_at, AreFound}
use Rattle.advance_retreat.specs.Standing.{kept_target, StandsFor}
use Rattle.advance_retreat.specs.Conditions.{IsNewPosition}
use Rattle.advance_retreat.proofs.Keeping.{notes}
use Rattle.character_runs.proofs.Lists.{length-push}

or_parts : (a b : Bool) → (a || b) ≡ false → (a ≡ false) × (b ≡ false)
or_parts false b e = (refl, e)
or_parts true b e = absurd (false≢true (sym e))

-- A NEW POSITION
module _ {A : Type 0} (name : A → ℕ) (lv : ℕ) where
  named : (xs : List A) → list_any (λ (x : A). nat_eq (name x) lv) xs ≡ list_any (λ (k : ℕ). nat_eq k lv) (map name xs)
  named [] = refl
  named (x ∷ xs) = ap (λ (b : Bool). nat_eq (name x) lv || b) (named xs)

untold : (all ns : List (Noted ℕ)) (lv : ℕ) → list_any (λ (k : ℕ). nat_eq k lv) (map (λ (n : Noted ℕ). n.name) ns) ≡ false → target_at (map (kept_target all) ns) lv ≡ None
untold all [] lv e = refl
untold all (n ∷ ns) lv e =
    let parts = or_parts (nat_eq n.name lv) (list_any (λ (k : ℕ). nat_eq k lv) (map (λ (m : Noted ℕ). m.name) ns)) e in
    ap (λ (b : Bool). option_map (λ (t : Target). t.node) (cond b (Some (kept_target all n)) (find (λ (t : Target). nat_eq t.lv lv) (map (kept_target all) ns)))) parts.0
    ∙ untold all ns lv parts.1

pub new_target : (s : Kept) (b : ℕ) (events : List (Applied ℕ)) (prepared : List ℕ) → StandsFor s b events prepared → (lv : ℕ) → IsNewPosition events lv → target_at s.targets lv ≡ None
new_target s b events prepared st lv new =
    let ns = notes s b events prepared st in
    ap (λ (ts : List Target). target_at ts lv) st.targets
    ∙ untold ns ns lv (ap (list_any (λ (k : ℕ). nat_eq k lv)) st.placed ∙ sym (named (λ (c : Applied ℕ). c.name) lv events) ∙ new)

-- ONE MORE
some_none : {X : Type 0} (x : X) → Some x ≡ None → ⊥
some_none x e = cc

pub added_at : (ts : List Target) (t : Target) (n : ℕ) → target_at ts t.lv ≡ None → target_at (ts ++ t ∷ []) n ≡ (if nat_eq t.lv n then Some t.node else target_at ts n)
added_at [] t n none = at (nat_eq t.lv n)
  where
    at : (b : Bool) → option_map (λ (u : Target). u.node) (cond b (Some t) None) ≡ (if b then Some t.node else None)
    at true = refl
    at false = refl
added_at (u ∷ ts) t n none = by (λ later. added_at ts t n later) (nat_eq u.lv t.lv) refl (nat_eq u.lv n) refl
  where
    by : (target_at ts t.lv ≡ None → target_at (ts ++ t ∷ []) n ≡ (if nat_eq t.lv n then Some t.node else target_at ts n)) → (a : Bool) → nat_eq u.lv t.lv ≡ a → (b : Bool) → nat_eq u.lv n ≡ b
        → option_map (λ (w : Target). w.node) (cond (nat_eq u.lv n) (Some u) (find (λ (w : Target). nat_eq w.lv n) (ts ++ t ∷ [])))
        ≡ (if nat_eq t.lv n then Some t.node else option_map (λ (w : Target). w.node) (cond (nat_eq u.lv n) (Some u) (find (λ (w : Target). nat_eq w.lv n) ts)))
    by rest true e b f =
        absurd (some_none u.node (sym (ap (λ (c : Bool). option_map (λ (w : Target). w.node) (cond c (Some u) (find (λ (w : Target). nat_eq w.lv t.lv) ts))) e) ∙ none))
    by rest false e true f = rw f (at (nat_eq t.lv n) refl)
      where
        at : (c : Bool) → nat_eq t.lv n ≡ c → Some u.node ≡ (if c then Some t.node else Some u.node)
        at true g = absurd (false≢true (sym e ∙ ap (λ (k : ℕ). nat_eq u.lv k) (eqb-true t.lv n g) ∙ f))
        at false g = refl
    by rest false e false f =
        let later : target_at ts t.lv ≡ None = sym (ap (λ (c : Bool). option_map (λ (w : Target). w.node) (cond c (Some u) (find (λ (w : Target). nat_eq w.lv t.lv) ts))) e) ∙ none in
        rw f (rest later)

-- one more event is kept elsewhere, or the last one no more
pub more_found : (ts : List Target) (t : Target) (f g : ℕ → Option Node) → AreFound ts f → target_at ts t.lv ≡ None → ((n : ℕ) → g n ≡ (if nat_eq t.lv n then Some t.node else f n)) → AreFound (ts ++ t ∷ []) g
more_found ts t f g found none grown n = grown n ∙ ap (λ (o : Option Node). if nat_eq t.lv n then Some t.node else o) (found n) ∙ sym (added_at ts t n none)

pub fewer_found : (ts : List Target) (t : Target) (f g : ℕ → Option Node) → AreFound (ts ++ t ∷ []) f → target_at ts t.lv ≡ None → ((n : ℕ) → g n ≡ (if nat_eq t.lv n then None else f n)) → AreFound ts g
fewer_found ts t f g found none gone n = gone n ∙ at (nat_eq t.lv n) refl
  where
    at : (b : Bool) → nat_eq t.lv n ≡ b → (if b then None else f n) ≡ target_at ts n
    at true e = sym none ∙ ap (target_at ts) (eqb-true t.lv n e)
    at false e = found n ∙ added_at ts t n none ∙ ap (λ (b : Bool). if b then Some t.node else target_at ts n) e

front : (ts ys : List Target) → take (length ts) (ts ++ ys) ≡ ts
front [] ys = refl
front (t ∷ ts) ys = ap (λ (xs : List Target). t ∷ xs) (front ts ys)

pub last_gone : (xs ts : List Target) (t : Target) (n : ℕ) → xs ≡ ts ++ t ∷ [] → n ≡ length xs → take (n - 1) xs ≡ ts
last_gone xs ts t n is long =
    let all : length xs ≡ suc (length ts) = ap length is ∙ length-push ts t in
    let one : n - 1 ≡ length ts = omega (arith, long, all) in
    (λ i. take (one i) (is i)) ∙ front ts (t ∷ [])

-- the last of two lists one behind the other is the second's
pub last_later : (es ys ts : List Target) (t : Target) → es ++ ys ≡ ts ++ t ∷ [] → 0 < length ys → (ys ≡ take (length ys - 1) ys ++ t ∷ []) × (es ++ take (length ys - 1) ys ≡ ts)
last_later [] ys ts t is some =
    let front = last_gone ys ts t (length ys) is refl in
    (is ∙ ap (λ (us : List Target). us ++ t ∷ []) (sym front), front)
last_later (e ∷ es) ys [] t is some = absurd (omega (arith, some, no_more es ys (ap length is)))
  where
    no_more : (es ys : List Target) → suc (length (es ++ ys)) ≡ 1 → length ys ≡ 0
    no_more es ys one = let all = length-append es ys in omega (arith, one, all)
last_later (e ∷ es) ys (u ∷ ts) t is some =
    let rest = last_later es ys ts t (same_rest e u (es ++ ys) (ts ++ t ∷ []) is) some in
    (rest.0, (λ i. same_head e u (es ++ ys) (ts ++ t ∷ []) is i ∷ rest.1 i))
  where
    same_rest : (a b : Target) (xs zs : List Target) → a ∷ xs ≡ b ∷ zs → xs ≡ zs
    same_rest a b xs zs e = cc

    same_head : (a b : Target) (xs zs : List Target) → a ∷ xs ≡ b ∷ zs → a ≡ b
    same_head a b xs zs e = cc
