-- A field that is read is the field that was written, and what was written is read again.
use Rattle.std.proofs.Common.{◌≡◌, ℕ, zero, suc, ◌^◌, ◌<◌, ◌≤◌, Bool, true, false, cond, not, ltb, eqb, leb, ◌&&◌, ◌||◌, List, [], ◌∷◌, ◌++◌, length, take, drop, flat_map, Option, Some, None, Result, Ok, Err, refl, sym, ap, subst, ◌∙◌, append_assoc, append-nil, arith, inl, inr}
use Rattle.std.specs.List.{list_any, list_all, AllByRecursion}
use Rattle.std.specs.Int.{w32, from_le_bytes}
use Rattle.std.proofs.lemmas.Bool.{ltb-true, ltb-false, le-ltb, and_parts, and_from, not-true, not_from_false, or_cases}
use Rattle.std.proofs.lemmas.List.{take_at, drop_at, take-append-drop, length-append, length-take}
use Rattle.std.proofs.lemmas.Nat.{le_bytes_4, from_le_bytes-to_le_bytes_4}
use Rattle.ew_model.specs.declared.event.Op.{Op}
use Rattle.ew_model.specs.declared.event.Op.TheVariants.{Ins, Del, Mark}
use Rattle.ew_model.specs.Names.{is_name, is_name_byte, begins_with_dash}
use Rattle.ew_model.specs.Sound.{IsSoundOp}
use Rattle.ew_model.specs.Bytes.{four_bytes, name_bytes, op_bytes, AreBytes}
use Rattle.ew_model.specs.Ids.{name_eq}
use Rattle.file_words.specs.FileFaults.{RecordFault, Stop, Reader, done, go_on, ◌>>=◌, front, byte, number, meant, field, only, fault_at, read_name, read_mark, read_names, is_scalar, read_op}
use Rattle.file_words.specs.FileFaults.Stop.{BadField, OverLimit}
use Rattle.file_words.specs.FileFaults.RecordFault.{Cut, NameBad, NameTwice, KindBad, Scalar}
use Rattle.ew_model.specs.Distinct.{AllNew}
use Rattle.ew_model.proofs.ByteLaws.{AreBytes-take, AreBytes-drop}

-- ---- what readers that don't stop have in common

-- the bytes are a text and those left
pub record Takes (bytes text left : List ℕ) : Type 0 where
  pub parts : bytes ≡ text ++ left
  pub fits : AreBytes left

pub Takes-then : (a x b y c : List ℕ) → Takes a x b → Takes b y c → Takes a (x ++ y) c
Takes-then a x b y c p q = record { parts = p.parts ∙ ap (λ (t : List ℕ). x ++ t) q.parts ∙ sym (append_assoc x y c); fits = q.fits }

-- what the first reader of two read, where both read something
pub go_ok : {A B : Type 0} (r : Result (A × List ℕ) Stop) (next : A → Reader B) (y : B × List ℕ) → go_on r next ≡ Ok y → (x : A × List ℕ) × (r ≡ Ok x) × (next x.0 x.1 ≡ Ok y)
go_ok (Ok x) next y e = (x, refl, e)
go_ok (Err why) next y e = absurd cc

meant_ok : {A : Type 0} (o : Option A) (why : Stop) (left : List ℕ) (y : A × List ℕ) → meant o why left ≡ Ok y → (o ≡ Some y.0) × (left ≡ y.1)
meant_ok {A = A} (Some x) why left y e =
    let same : (x, left) ≡ y = cc in
    (ap (λ (p : A × List ℕ). Some p.0) same, ap (λ (p : A × List ℕ). p.1) same)
meant_ok None why left y e = absurd cc

pub field_ok : {A B : Type 0} (read : Reader A) (meaning : A → Option B) (kind : RecordFault) (bytes : List ℕ) (y : B × List ℕ) → field read meaning kind bytes ≡ Ok y → (x : A) × (read bytes ≡ Ok (x, y.1)) × (meaning x ≡ Some y.0)
field_ok read meaning kind bytes y e =
    let g = go_ok (read bytes) (λ x. meant (meaning x) (BadField (length bytes) kind)) y e in
    let m = meant_ok (meaning g.0.0) (BadField (length bytes) kind) g.0.1 y g.2 in
    (g.0.0, g.1 ∙ ap (λ l. Ok (g.0.0, l)) m.1, m.0)

only_at : {A : Type 0} (b : Bool) (x y : A) → cond b (Some x) None ≡ Some y → (b ≡ true) × (x ≡ y)
only_at true x y e = (refl, cc)
only_at false x y e = absurd cc

pub only_ok : {A : Type 0} (test : A → Bool) (x y : A) → only test x ≡ Some y → (test y ≡ true) × (x ≡ y)
only_ok test x y e =
    let o = only_at (test x) x y e in
    (ap test (sym o.1) ∙ o.0, o.1)

-- a field of a value that must pass a test
pub tested_ok : {A : Type 0} (read : Reader A) (test : A → Bool) (kind : RecordFault) (bytes : List ℕ) (y : A × List ℕ) → field read (only test) kind bytes ≡ Ok y → (read bytes ≡ Ok y) × (test y.0 ≡ true)
tested_ok read test kind bytes y e =
    let f = field_ok read (only test) kind bytes y e in
    let o = only_ok test f.0 y.0 f.2 in
    (f.1 ∙ ap (λ x. Ok (x, y.1)) o.1, o.0)

pub field_again : {A B : Type 0} (read : Reader A) (meaning : A → Option B) (kind : RecordFault) (bytes left : List ℕ) (x : A) (y : B) → read bytes ≡ Ok (x, left) → meaning x ≡ Some y → field read meaning kind bytes ≡ Ok (y, left)
field_again read meaning kind bytes left x y e m =
    ap (λ r. go_on r (λ z. meant (meaning z) (BadField (length bytes) kind))) e ∙ ap (λ o. meant o (BadField (length bytes) kind) left) m

pub only_again : {A : Type 0} (test : A → Bool) (x : A) → test x ≡ true → only test x ≡ Some x
only_again test x t = ap (λ b. cond b (Some x) None) t

pub tested_again : {A : Type 0} (read : Reader A) (test : A → Bool) (kind : RecordFault) (bytes left : List ℕ) (x : A) → read bytes ≡ Ok (x, left) → test x ≡ true → field read (only test) kind bytes ≡ Ok (x, left)
tested_again read test kind bytes left x e t = field_again read (only test) kind bytes left x x e (only_again test x t)

pub then_again : {A B : Type 0} (read : Reader A) (next : A → Reader B) (bytes : List ℕ) (x : A × List ℕ) → read bytes ≡ Ok x → (read >>= next) bytes ≡ next x.0 x.1
then_again read next bytes x e = ap (λ r. go_on r next) e

fault_ok : {A : Type 0} (left : ℕ) (r : Result A Stop) (y : A) → fault_at left r ≡ Ok y → r ≡ Ok y
fault_ok left (Ok x) y e = e
fault_ok left (Err (BadField n kind)) y e = absurd cc
fault_ok left (Err (OverLimit n)) y e = absurd cc

-- ---- bytes and numbers

pub byte_takes : (bytes : List ℕ) (y : ℕ × List ℕ) → AreBytes bytes → byte bytes ≡ Ok y → Takes bytes (y.0 ∷ []) y.1
byte_takes [] y fits e = absurd cc
byte_takes (b ∷ left) y fits e =
    let same : (b, left) ≡ y = cc in
    subst (λ (p : ℕ × List ℕ). Takes (b ∷ left) (p.0 ∷ []) p.1) same (record { parts = refl; fits = λ i. fits (suc i) })

front_ok : {A : Type 0} (b : Bool) (why : Stop) (x y : A) → cond b (Err why) (Ok x) ≡ Ok y → (b ≡ false) × (x ≡ y)
front_ok true why x y e = absurd cc
front_ok false why x y e = (refl, cc)

pub front_takes : (n : ℕ) (bytes : List ℕ) (y : List ℕ × List ℕ) → AreBytes bytes → front n bytes ≡ Ok y → Takes bytes y.0 y.1 × (length y.0 ≡ n) × AreBytes y.0
front_takes n bytes y fits e =
    let g = front_ok (ltb (length bytes) n) (BadField (length bytes) Cut) (take n bytes, drop n bytes) y e in
    let long : n ≤ length bytes = ltb-false _ _ g.0 in
    subst (λ (p : List ℕ × List ℕ). Takes bytes p.0 p.1 × (length p.0 ≡ n) × AreBytes p.0) g.1
    (record { parts = sym (take-append-drop n bytes); fits = AreBytes-drop n bytes fits }, omega (arith, length-take n bytes), AreBytes-take n bytes fits)

pub front_again : (n : ℕ) (text left : List ℕ) → length text ≡ n → front n (text ++ left) ≡ Ok (text, left)
front_again n text left len =
    let long : ltb (length (text ++ left)) n ≡ false = le-ltb _ _ (omega (arith, length-append text left)) in
    rw (long, take_at text left n len, drop_at text left n len) refl

pub number_takes : (bytes : List ℕ) (y : ℕ × List ℕ) → AreBytes bytes → number bytes ≡ Ok y → Takes bytes (four_bytes y.0) y.1 × (y.0 < 2 ^ 32)
number_takes bytes y fits e =
    let g = go_ok (front 4 bytes) (λ digits. done (from_le_bytes w32 digits)) y e in
    let f = front_takes 4 bytes g.0 fits g.1 in
    let same : (from_le_bytes w32 g.0.0, g.0.1) ≡ y = cc in
    let small : from_le_bytes w32 g.0.0 < 2 ^ 32 = omega (arith, f.2 0, f.2 1, f.2 2, f.2 3) in
    subst (λ (p : ℕ × List ℕ). Takes bytes (four_bytes p.0) p.1 × (p.0 < 2 ^ 32)) same
    (subst (λ t. Takes bytes t g.0.1) (sym (le_bytes_4 g.0.0 _ f.1 f.2 refl)) f.0, small)

pub number_again : (n : ℕ) (left : List ℕ) → n < 2 ^ 32 → number (four_bytes n ++ left) ≡ Ok (n, left)
number_again n left small =
    ap (λ r. go_on r (λ digits. done (from_le_bytes w32 digits))) (front_again 4 (four_bytes n) left refl) ∙ ap (λ m. Ok (m, left)) (from_le_bytes-to_le_bytes_4 n small)

-- ---- names

abbrev length_test : ℕ → Bool
length_test n = ltb 0 n && leb n 32

pub name_takes : (bytes : List ℕ) (y : List ℕ × List ℕ) → AreBytes bytes → read_name bytes ≡ Ok y → Takes bytes (name_bytes y.0) y.1 × (is_name y.0 ≡ true)
unfolding read_name
name_takes bytes y fits e =
    let whole = fault_ok (length bytes) (go_on (field byte (only length_test) NameBad bytes) (λ n. field (front n) (only is_name) NameBad)) y e in
    let g = go_ok (field byte (only length_test) NameBad bytes) (λ n. field (front n) (only is_name) NameBad) y whole in
    let len = tested_ok byte length_test NameBad bytes g.0 g.1 in
    let text = tested_ok (front g.0.0) is_name NameBad g.0.1 y g.2 in
    let first = byte_takes bytes g.0 fits len.0 in
    let second = front_takes g.0.0 g.0.1 y first.fits text.0 in
    let both = Takes-then bytes (g.0.0 ∷ []) g.0.1 y.0 y.1 first second.0 in
    (subst (λ n. Takes bytes (n ∷ y.0) y.1) (sym second.1) both, text.1)

pub name_again : (name left : List ℕ) → is_name name ≡ true → read_name (name_bytes name ++ left) ≡ Ok (name, left)
unfolding read_name
name_again name left good =
    let few = ltb 0 (length name) && leb (length name) 32 in
    let parts = and_parts (ltb 0 (length name)) (leb (length name) 32) (and_parts few (list_all is_name_byte name) (and_parts (few && list_all is_name_byte name) (not (begins_with_dash name)) good).0).0 in
    let len : field byte (only length_test) NameBad (name_bytes name ++ left) ≡ Ok (length name, name ++ left) =
    tested_again byte length_test NameBad (name_bytes name ++ left) (name ++ left) (length name) refl (and_from _ _ parts.0 parts.1) in
    let text : field (front (length name)) (only is_name) NameBad (name ++ left) ≡ Ok (name, left) =
    tested_again (front (length name)) is_name NameBad (name ++ left) left name (front_again (length name) name left refl) good in
    ap (fault_at (length (name_bytes name ++ left))) (ap (λ r. go_on r (λ n. field (front n) (only is_name) NameBad)) len ∙ text)

abbrev new_name : List (List ℕ) → List ℕ → Bool
new_name names x = not (list_any (name_eq x) names)

-- names that were read behind others
pub record AreNamesBehind (names : List (List ℕ)) (n : ℕ) (bytes : List ℕ) (read : List (List ℕ)) (left : List ℕ) : Type 0 where
  pub more : List (List ℕ)
  pub joined : read ≡ names ++ more
  pub takes : Takes bytes (flat_map name_bytes more) left
  pub count : length more ≡ n
  pub new : AllNew name_eq names more
  pub good : AllByRecursion (λ x. is_name x ≡ true) more

pub names_take : (n : ℕ) (names : List (List ℕ)) (bytes : List ℕ) (y : List (List ℕ) × List ℕ) → AreBytes bytes → read_names names n bytes ≡ Ok y → AreNamesBehind names n bytes y.0 y.1
unfolding read_names
names_take zero names bytes y fits e =
    let same : (names, bytes) ≡ y = cc in
    subst (λ (p : List (List ℕ) × List ℕ). AreNamesBehind names zero bytes p.0 p.1) same
    (record { more = []; joined = sym (append-nil names); takes = record { parts = refl; fits = fits }; count = refl; new = tt; good = tt })
names_take (suc n) names bytes y fits e =
    let g = go_ok (field read_name (only (new_name names)) NameTwice bytes) (λ name. read_names (names ++ name ∷ []) n) y e in
    let name = g.0.0 in
    let t = tested_ok read_name (new_name names) NameTwice bytes g.0 g.1 in
    let first = name_takes bytes g.0 fits t.0 in
    let others = names_take n (names ++ name ∷ []) g.0.1 y first.0.fits g.2 in
    record {
      more = name ∷ others.more;
      joined = others.joined ∙ append_assoc names (name ∷ []) others.more;
      takes = Takes-then bytes (name_bytes name) g.0.1 (flat_map name_bytes others.more) y.1 first.0 others.takes;
      count = ap suc others.count;
      new = (not-true _ t.1, others.new);
      good = (first.1, others.good);
    }

pub names_again : (more names : List (List ℕ)) (left : List ℕ) → AllNew name_eq names more → AllByRecursion (λ x. is_name x ≡ true) more → read_names names (length more) (flat_map name_bytes more ++ left) ≡ Ok (names ++ more, left)
unfolding read_names
names_again [] names left new good = ap (λ x. Ok (x, left)) (sym (append-nil names))
names_again (name ∷ more) names left new good =
    let rest = flat_map name_bytes more ++ left in
    let regrouped : flat_map name_bytes (name ∷ more) ++ left ≡ name_bytes name ++ rest = append_assoc (name_bytes name) (flat_map name_bytes more) left in
    let first : field read_name (only (new_name names)) NameTwice (name_bytes name ++ rest) ≡ Ok (name, rest) =
    tested_again read_name (new_name names) NameTwice (name_bytes name ++ rest) rest name (name_again name rest good.0) (not_from_false _ new.0) in
    ap (read_names names (length (name ∷ more))) regrouped
    ∙ ap (λ r. go_on r (λ x. read_names (names ++ x ∷ []) (length more))) first
    ∙ names_again more (names ++ name ∷ []) left new.1 good.1
    ∙ ap (λ x. Ok (x, left)) (append_assoc names (name ∷ []) more)

-- ---- operations

or_as_cond : (a b : Bool) → (a || b) ≡ cond a true b
or_as_cond true b = refl
or_as_cond false b = refl

-- the test of a character is the fact
pub scalar_is : (c : ℕ) → is_scalar c ≡ cond (ltb c 55296) true (leb 57344 c && ltb c 1114112)
scalar_is c = or_as_cond (ltb c 55296) (leb 57344 c && ltb c 1114112)

pub scalar_small : (c : ℕ) → is_scalar c ≡ true → c < 2 ^ 32
scalar_small c h =
    elim (or_cases (ltb c 55296) (leb 57344 c && ltb c 1114112) h) [
      | inl t ↦ let small = ltb-true c 55296 t in omega arith
      | inr t ↦ let small = ltb-true c 1114112 (and_parts (leb 57344 c) (ltb c 1114112) t).1 in omega arith
    ]

abbrev op_behind : ℕ → ℕ → Reader Op
op_behind kind at = cond (eqb kind 1) (done (Del at)) (field number (only is_scalar) Scalar >>= λ ch. done (Ins at ch))

op_of : (kind at : ℕ) (bytes : List ℕ) (y : Op × List ℕ) → kind < 2 → at < 2 ^ 32 → AreBytes bytes → op_behind kind at bytes ≡ Ok y → (rest : List ℕ) × (kind ∷ four_bytes at ++ rest ≡ op_bytes y.0) × Takes bytes rest y.1 × IsSoundOp y.0
op_of zero at bytes y small at_fits fits e =
    let g = go_ok (field number (only is_scalar) Scalar bytes) (λ ch. done (Ins at ch)) y e in
    let t = tested_ok number is_scalar Scalar bytes g.0 g.1 in
    let n = number_takes bytes g.0 fits t.0 in
    let same : (Ins at g.0.0, g.0.1) ≡ y = cc in
    subst (λ (p : Op × List ℕ). (rest : List ℕ) × (0 ∷ four_bytes at ++ rest ≡ op_bytes p.0) × Takes bytes rest p.1 × IsSoundOp p.0) same
    (four_bytes g.0.0, refl, n.0, (at_fits, sym (scalar_is g.0.0) ∙ t.1))
op_of (suc zero) at bytes y small at_fits fits e =
    let same : (Del at, bytes) ≡ y = cc in
    subst (λ (p : Op × List ℕ). (rest : List ℕ) × (1 ∷ four_bytes at ++ rest ≡ op_bytes p.0) × Takes bytes rest p.1 × IsSoundOp p.0) same
    ([], ap (λ t. 1 ∷ t) (append-nil (four_bytes at)), record { parts = refl; fits = fits }, at_fits)
op_of (suc (suc k)) at bytes y small at_fits fits e = absurd (omega arith)

-- what follows the kind, up to the end of the operation
abbrev OpRest : ℕ → List ℕ → Op × List ℕ → Type 0
OpRest kind bytes y = (rest : List ℕ) × (kind ∷ rest ≡ op_bytes y.0) × Takes bytes rest y.1 × IsSoundOp y.0

indexed : (kind : ℕ) (bytes : List ℕ) (y : Op × List ℕ) → kind < 2 → AreBytes bytes → (number >>= op_behind kind) bytes ≡ Ok y → OpRest kind bytes y
indexed kind bytes y small fits e =
    let h = go_ok (number bytes) (op_behind kind) y e in
    let at = number_takes bytes h.0 fits h.1 in
    let rest = op_of kind h.0.0 h.0.1 y small at.1 at.0.fits h.2 in
    (four_bytes h.0.0 ++ rest.0, rest.1, Takes-then bytes (four_bytes h.0.0) h.0.1 rest.0 y.1 at.0 rest.2, rest.3)

labelled : (bytes : List ℕ) (y : Op × List ℕ) → AreBytes bytes → read_mark bytes ≡ Ok y → OpRest 2 bytes y
labelled bytes y fits e =
    let g = go_ok (read_name bytes) (λ label. done (Mark label)) y e in
    let n = name_takes bytes g.0 fits g.1 in
    let same : (Mark g.0.0, g.0.1) ≡ y = cc in
    subst (λ (p : Op × List ℕ). OpRest 2 bytes p) same (name_bytes g.0.0, refl, n.0, n.1)

rest_of : (kind : ℕ) (bytes : List ℕ) (y : Op × List ℕ) → kind < 3 → AreBytes bytes → (cond (eqb kind 2) read_mark (number >>= op_behind kind)) bytes ≡ Ok y → OpRest kind bytes y
rest_of zero bytes y small fits e = indexed 0 bytes y (omega arith) fits e
rest_of (suc zero) bytes y small fits e = indexed 1 bytes y (omega arith) fits e
rest_of (suc (suc zero)) bytes y small fits e = labelled bytes y fits e
rest_of (suc (suc (suc k))) bytes y small fits e = absurd (omega (arith, small))

pub op_takes : (bytes : List ℕ) (y : Op × List ℕ) → AreBytes bytes → read_op bytes ≡ Ok y → Takes bytes (op_bytes y.0) y.1 × IsSoundOp y.0
unfolding read_op
op_takes bytes y fits e =
    let g = go_ok (field byte (only (λ kind. ltb kind 3)) KindBad bytes) (λ kind. cond (eqb kind 2) read_mark (number >>= op_behind kind)) y e in
    let kind = tested_ok byte (λ kind. ltb kind 3) KindBad bytes g.0 g.1 in
    let first = byte_takes bytes g.0 fits kind.0 in
    let rest = rest_of g.0.0 g.0.1 y (ltb-true _ _ kind.1) first.fits g.2 in
    let both = Takes-then bytes (g.0.0 ∷ []) g.0.1 rest.0 y.1 first rest.2 in
    (subst (λ t. Takes bytes t y.1) rest.1 both, rest.3)

pub op_again : (op : Op) (left : List ℕ) → IsSoundOp op → read_op (op_bytes op ++ left) ≡ Ok (op, left)
unfolding read_op
op_again (Ins at ch) left sound =
    let rest = four_bytes ch ++ left in
    let scalar : is_scalar ch ≡ true = scalar_is ch ∙ sound.1 in
    let mid : number (four_bytes at ++ rest) ≡ Ok (at, rest) = number_again at rest sound.0 in
    let last : field number (only is_scalar) Scalar rest ≡ Ok (ch, left) = tested_again number is_scalar Scalar rest left ch (number_again ch left (scalar_small ch scalar)) scalar in
    ap (λ bytes. read_op (0 ∷ bytes)) (append_assoc (four_bytes at) (four_bytes ch) left)
    ∙ ap (λ r. go_on r (op_behind 0)) mid ∙ ap (λ r. go_on r (λ c. done (Ins at c))) last
op_again (Del at) left sound = ap (λ r. go_on r (op_behind 1)) (number_again at left sound)
op_again (Mark label) left sound = ap (λ r. go_on r (λ name. done (Mark name))) (name_again label left sound)
