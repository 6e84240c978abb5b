-- Conditions of calls that compute, where the events are few and told one by one.
use Rattle.std.proofs.Common.{◌≡◌, ℕ, Bool, true, false, not, ◌||◌, ◌&&◌, List, Result, Ok, Err, OnErr, nat_eq, refl, ap, ◌∙◌}
use Rattle.std.specs.List.{list_any, list_all}
use Rattle.std.proofs.lemmas.Bool.{false≢true, eq-eqb, eqb-true}
use Rattle.ew_model.specs.declared.id.Id.{Id}
use Rattle.ew_model.specs.Tree.{Applied}
use Rattle.ew_model.specs.Records.{holds, inserts_as}
use Rattle.ew_model.proofs.ListTests.{found_by, passes}
use Rattle.advance_retreat.specs.Standing.{is_applied}
use Rattle.advance_retreat.specs.Conditions.{IsNewPosition, MayDelete, MayInsert, MayAdvanceTo, MayRetreatFrom, AllPrepared}

pub few_delete : (events : List (Applied ℕ)) (lv : ℕ) → IsNewPosition events lv → MayDelete events lv
few_delete events lv position = position

pub few_insert : (events : List (Applied ℕ)) (lv : ℕ) (x : Id) → IsNewPosition events lv → list_any (λ (c : Applied ℕ). inserts_as x c.act) events ≡ false → MayInsert events lv x
few_insert events lv x position id = record { position = position; id = id }

neither : (b c : Bool) → not (b && c) ≡ true → b ≡ true → c ≡ false
neither true true h k = absurd (false≢true h)
neither true false h k = refl
neither false c h k = absurd (false≢true k)

if_so : (b c : Bool) → (not b || c) ≡ true → b ≡ true → c ≡ true
if_so true c h k = h
if_so false c h k = absurd (false≢true k)

pub few_retreat : (events : List (Applied ℕ)) (prepared : List ℕ) (lv : ℕ) → is_applied events lv → holds prepared lv ≡ true → list_all (λ (c : Applied ℕ). not (holds prepared c.name && holds c.over lv)) events ≡ true
    → MayRetreatFrom events prepared lv
few_retreat events prepared lv applied inside free = (
  applied,
  record {
    inside = inside;
    free = λ c m h. neither (holds prepared c.name) (holds c.over lv) (passes (λ (c : Applied ℕ). not (holds prepared c.name && holds c.over lv)) events c free m) h;
  },
)

pub few_advance : (events : List (Applied ℕ)) (prepared : List ℕ) (lv : ℕ) → is_applied events lv → holds prepared lv ≡ false → list_all (λ (c : Applied ℕ). not (nat_eq c.name lv) || list_all (holds prepared) c.over) events ≡ true
    → MayAdvanceTo events prepared lv
few_advance events prepared lv applied outside over = (
  applied,
  record {
    outside = outside;
    over = λ c m e n h.
        let all = if_so (nat_eq c.name lv) (list_all (holds prepared) c.over) (passes (λ (c : Applied ℕ). not (nat_eq c.name lv) || list_all (holds prepared) c.over) events c over m) (eq-eqb c.name lv e) in
        let k = found_by (nat_eq n) c.over h in
        ap (holds prepared) (eqb-true n k.0 k.2) ∙ passes (holds prepared) c.over k.0 all k.1;
  },
)

pub few_prepared : (events : List (Applied ℕ)) (prepared : List ℕ) → list_all (λ (c : Applied ℕ). holds prepared c.name) events ≡ true → AllPrepared events prepared
few_prepared events prepared all = λ c m. passes (λ (c : Applied ℕ). holds prepared c.name) events c all m

-- what holds after a refusal, where the answer is one
pub after_refusal : {T E : Type 0} (r : Result T E) (e : E) {P : Type 0} → r ≡ Err e → OnErr r P → P
after_refusal (Ok x) e is h = let no : ⊥ = cc in absurd no
after_refusal (Err y) e is h = h
