-- Ids and versions as they are written are cut at a colon, at commas and at spaces in one way.
use Rattle.std.proofs.Common.{◌≡◌, ◌≢◌, ℕ, true, false, ◌&&◌, length, nat_le, nat_lt, List, [], ◌∷◌, ◌++◌, codes, flat_map, refl, sym, ap, ◌∙◌, append_assoc, append-nil, arith}
use Rattle.std.specs.Fmt.{decimal}
use Rattle.std.specs.Int.{IsInRange}
use Rattle.std.specs.List.{AllByRecursion, list_all}
use Rattle.std.proofs.lemmas.Bool.{and_parts}
use Rattle.ew_model.specs.declared.id.Id.{Id}
use Rattle.ew_model.specs.Names.{is_name, is_name_byte}
use Rattle.ew_model.specs.Scripts.{id_text, version_text}
use Rattle.ew_model.specs.Sound.{IsSoundId}
use Rattle.ew_model.proofs.Decimals.{decimal_lacks, decimal_once}
use Rattle.ew_model.proofs.LineLaws.{Lacks, cut_once, never_cut}

pub lacks_append : (b : ℕ) (xs ys : List ℕ) → Lacks xs b → Lacks ys b → Lacks (xs ++ ys) b
lacks_append b [] ys h k = k
lacks_append b (x ∷ xs) ys h k = (h.0, lacks_append b xs ys h.1 k)

no_true_false : true ≡ false → ⊥
no_true_false e = cc

-- bytes of names alone have no other byte
name_bytes_lack : (b : ℕ) (bytes : List ℕ) → is_name_byte b ≡ false → list_all is_name_byte bytes ≡ true → Lacks bytes b
name_bytes_lack b [] other h = tt
name_bytes_lack b (x ∷ bytes) other h =
    let parts = and_parts _ _ h in
    let differ : x ≢ b = λ e. no_true_false (sym parts.0 ∙ ap is_name_byte e ∙ other) in
    (differ, name_bytes_lack b bytes other parts.1)

pub name_lacks : (b : ℕ) (name : List ℕ) → is_name_byte b ≡ false → is_name name ≡ true → Lacks name b
name_lacks b name other h =
    let whole = and_parts (nat_lt 0 (length name) && nat_le (length name) 32 && list_all is_name_byte name) _ h in
    let front = and_parts (nat_lt 0 (length name) && nat_le (length name) 32) _ whole.0 in
    name_bytes_lack b name other front.1

-- an id has no comma and no space
id_lacks : (b : ℕ) (x : Id) → is_name_byte b ≡ false → (b ≡ 58 → ⊥) → ¬ IsInRange 48 57 b → IsSoundId x → Lacks (id_text x) b
id_lacks b x other apart digit s =
    lacks_append b (x.agent ++ codes ":") (decimal x.seq)
    (lacks_append b x.agent (codes ":") (name_lacks b x.agent other s.agent) ((λ e. apart (sym e)), tt))
    (decimal_lacks x.seq b s.seq digit)

pub id_lacks_comma : (x : Id) → IsSoundId x → Lacks (id_text x) 44
id_lacks_comma x s = id_lacks 44 x refl (λ e. omega (arith, e)) (λ r. omega (arith, r.0)) s

pub id_lacks_space : (x : Id) → IsSoundId x → Lacks (id_text x) 32
id_lacks_space x s = id_lacks 32 x refl (λ e. omega (arith, e)) (λ r. omega (arith, r.0)) s

-- the colon cuts an id
pub id_cut : (x : Id) → id_text x ≡ x.agent ++ 58 ∷ decimal x.seq
id_cut x = append_assoc x.agent (codes ":") (decimal x.seq)

pub id_once : (x y : Id) → IsSoundId x → IsSoundId y → id_text x ≡ id_text y → x ≡ y
id_once x y s t e =
    let cut = cut_once 58 x.agent y.agent (decimal x.seq) (decimal y.seq) (name_lacks 58 x.agent refl s.agent) (name_lacks 58 y.agent refl t.agent) (sym (id_cut x) ∙ e ∙ id_cut y) in
    let same = decimal_once x.seq y.seq s.seq t.seq cut.1 in
    λ i. record { agent = cut.0 i; seq = same i }

-- ids behind the first, each behind a comma
abbrev pub behind : List Id → List ℕ
behind ids = flat_map (λ x. codes "," ++ id_text x) ids

abbrev pub AreSoundIds : List Id → Type 0
AreSoundIds ids = AllByRecursion IsSoundId ids

ids_once : (x y : Id) (ids js : List Id) → AreSoundIds (x ∷ ids) → AreSoundIds (y ∷ js) → id_text x ++ behind ids ≡ id_text y ++ behind js → x ∷ ids ≡ y ∷ js
ids_once x y [] [] s t e =
    let same = id_once x y s.0 t.0 (sym (append-nil (id_text x)) ∙ e ∙ append-nil (id_text y)) in
    ap (λ z. z ∷ []) same
ids_once x y [] (z ∷ js) s t e =
    absurd (never_cut 44 (id_text x) (id_text y) (id_text z ++ behind js) (id_lacks_comma x s.0) (sym (append-nil (id_text x)) ∙ e))
ids_once x y (w ∷ ids) [] s t e =
    absurd (never_cut 44 (id_text y) (id_text x) (id_text w ++ behind ids) (id_lacks_comma y t.0) (sym (append-nil (id_text y)) ∙ sym e))
ids_once x y (w ∷ ids) (z ∷ js) s t e =
    let cut = cut_once 44 (id_text x) (id_text y) (id_text w ++ behind ids) (id_text z ++ behind js) (id_lacks_comma x s.0) (id_lacks_comma y t.0) e in
    let first = id_once x y s.0 t.0 cut.0 in
    let rest = ids_once w z ids js s.1 t.1 cut.1 in
    λ i. first i ∷ rest i

-- no version with ids is `root`
no_root : (y : Id) (rest : List ℕ) → codes "root" ≡ id_text y ++ rest → ⊥
no_root y rest e =
    never_cut 58 (codes "root") y.agent (decimal y.seq ++ rest) ((λ e. omega (arith, e)), ((λ e. omega (arith, e)), ((λ e. omega (arith, e)), ((λ e. omega (arith, e)), tt)))) (e ∙ ap (λ z. z ++ rest) (id_cut y) ∙ append_assoc y.agent (58 ∷ decimal y.seq) rest)

pub version_once : (ids js : List Id) → AreSoundIds ids → AreSoundIds js → version_text ids ≡ version_text js → ids ≡ js
version_once [] [] s t e = refl
version_once [] (y ∷ js) s t e = absurd (no_root y (behind js) e)
version_once (x ∷ ids) [] s t e = absurd (no_root x (behind ids) (sym e))
version_once (x ∷ ids) (y ∷ js) s t e = ids_once x y ids js s t e

behind_lacks_space : (ids : List Id) → AreSoundIds ids → Lacks (behind ids) 32
behind_lacks_space [] s = tt
behind_lacks_space (x ∷ ids) s = ((λ e. omega (arith, e)), lacks_append 32 (id_text x) (behind ids) (id_lacks_space x s.0) (behind_lacks_space ids s.1))

pub version_lacks_space : (ids : List Id) → AreSoundIds ids → Lacks (version_text ids) 32
version_lacks_space [] s = ((λ e. omega (arith, e)), ((λ e. omega (arith, e)), ((λ e. omega (arith, e)), ((λ e. omega (arith, e)), tt))))
version_lacks_space (x ∷ ids) s = lacks_append 32 (id_text x) (behind ids) (id_lacks_space x s.0) (behind_lacks_space ids s.1)
