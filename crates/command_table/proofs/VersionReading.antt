-- A word is taken for a version exactly where it is one.
use Rattle.std.proofs.Common.{◌≡◌, ℕ, ◌<◌, ◌^◌, Bool, true, false, nat_lt, if◌then◌else◌, ◌==◌, List, [], ◌∷◌, ◌++◌, codes, map, flat_map, Option, Some, None, refl, sym, ap, subst, ◌∙◌, append-nil, arith}
use Rattle.std.specs.List.{AllByRecursion, list_all, slice_split, before_first, after_first}
use Rattle.std.specs.Fmt.{decimal}
use Rattle.std.specs.Str.{bytes_eq}
use Rattle.std.specs.Str.Parse.{digits_value}
use Rattle.std.proofs.lemmas.Bool.{and_parts, and_from}
use Rattle.std.proofs.lemmas.Bool.Decides.{nat_tests}
use Rattle.std.proofs.lemmas.List.Elements.{All-from_recursion}
use Rattle.std.proofs.lemmas.Slice.Eq.{bytes_eq-Decides}
use Rattle.clap.proofs.CutLemmas as cuts
use Rattle.ew_model.specs.declared.id.Id.{Id}
use Rattle.ew_model.specs.Names.{is_name}
use Rattle.ew_model.specs.Scripts.{id_text, version_text}
use Rattle.ew_model.specs.Sound.{IsSoundId}
use Rattle.ew_model.proofs.Decimals.{digits_value_is}
use Rattle.ew_model.proofs.LineLaws.{Lacks}
use Rattle.history_definitions.specs.Versions.{IsVersion}
use Rattle.history_definitions.proofs.IdTexts.{name_lacks, id_lacks_comma, id_cut, version_once}
use Rattle.command_table.specs.VersionWords.{is_sound_id, is_version, id_within, ids_within, version_in}

-- a list that lacks a byte has it at no place
at_no_place : (b : ℕ) (bytes : List ℕ) → Lacks bytes b → cuts.Lacks b bytes
at_no_place b bytes free i within = All-from_recursion (λ x. (x ≡ b) → ⊥) bytes free i 0 within

below : (m n : ℕ) → nat_lt m n ≡ true → m < n
below m n h = grind (arith, nat_tests)

is_below : (m n : ℕ) → m < n → nat_lt m n ≡ true
is_below m n h = grind (arith, nat_tests)

sound_from : (x : Id) → is_sound_id x ≡ true → IsSoundId x
sound_from x h =
    let parts = and_parts (is_name x.agent) (nat_lt x.seq (2 ^ 32)) h in
    record { agent = parts.0; seq = below x.seq (2 ^ 32) parts.1 }

is_sound : (x : Id) → IsSoundId x → is_sound_id x ≡ true
is_sound x s = and_from (is_name x.agent) (nat_lt x.seq (2 ^ 32)) s.agent (is_below x.seq (2 ^ 32) s.seq)

all_sound : (ids : List Id) → list_all is_sound_id ids ≡ true → AllByRecursion IsSoundId ids
all_sound [] h = tt
all_sound (x ∷ ids) h = let parts = and_parts (is_sound_id x) (list_all is_sound_id ids) h in (sound_from x parts.0, all_sound ids parts.1)

are_sound : (ids : List Id) → AllByRecursion IsSoundId ids → list_all is_sound_id ids ≡ true
are_sound [] s = refl
are_sound (x ∷ ids) s = and_from (is_sound_id x) (list_all is_sound_id ids) (is_sound x s.0) (are_sound ids s.1)

-- an id is found again in its text
id_again : (x : Id) → IsSoundId x → id_within (id_text x) ≡ x
id_again x s =
    let free = at_no_place 58 x.agent (name_lacks 58 x.agent refl s.agent) in
    let agent : before_first (λ b. b == 58) (id_text x) ≡ x.agent = ap (before_first (λ b. b == 58)) (id_cut x) ∙ cuts.before_first-at 58 x.agent (decimal x.seq) free in
    let digits : after_first (λ b. b == 58) (id_text x) ≡ decimal x.seq = ap (after_first (λ b. b == 58)) (id_cut x) ∙ cuts.after_first-at 58 x.agent (decimal x.seq) free in
    let seq : digits_value 10 (after_first (λ b. b == 58) (id_text x)) ≡ x.seq = ap (digits_value 10) digits ∙ digits_value_is x.seq s.seq in
    λ i. record { agent = agent i; seq = seq i }

-- ids behind a comma each
abbrev behind : List Id → List ℕ
behind ids = flat_map (λ x. codes "," ++ id_text x) ids

-- the commas part the ids
ids_again : (x : Id) (ids : List Id) → AllByRecursion IsSoundId (x ∷ ids) → map id_within (slice_split (λ b. b == 44) (id_text x ++ behind ids)) ≡ x ∷ ids
ids_again x [] s =
    let free = at_no_place 44 (id_text x) (id_lacks_comma x s.0) in
    ap (λ bytes. map id_within (slice_split (λ b. b == 44) bytes)) (append-nil (id_text x))
    ∙ ap (map id_within) (cuts.slice_split-Lacks 44 (id_text x) free)
    ∙ ap (λ y. y ∷ []) (id_again x s.0)
ids_again x (y ∷ ids) s =
    let free = at_no_place 44 (id_text x) (id_lacks_comma x s.0) in
    let first = id_again x s.0 in
    let rest = ids_again y ids s.1 in
    ap (map id_within) (cuts.slice_split-at 44 (id_text x) (id_text y ++ behind ids) free)
    ∙ (λ i. first i ∷ rest i)

same_bytes : (xs ys : List ℕ) → bytes_eq xs ys ≡ true → xs ≡ ys
same_bytes xs ys h = (bytes_eq-Decides xs ys).0 h

unlike : (b : Bool) → (b ≡ true → ⊥) → b ≡ false
unlike true h = absurd (h refl)
unlike false h = refl

some_id : (x : Id) (ids : List Id) → x ∷ ids ≡ [] → ⊥
some_id x ids e = cc

-- the ids of a version are found again in its text
version_again : (ids : List Id) → AllByRecursion IsSoundId ids → ids_within (version_text ids) ≡ ids
version_again [] s = refl
version_again (x ∷ ids) s =
    let bytes = version_text (x ∷ ids) in
    let other : bytes_eq bytes (codes "root") ≡ false = unlike (bytes_eq bytes (codes "root")) (λ h. some_id x ids (version_once (x ∷ ids) [] s tt (same_bytes bytes (codes "root") h))) in
    ap (λ (b : Bool). if b then [] else map id_within (slice_split (λ b. b == 44) bytes)) other ∙ ids_again x ids s

same_ids : (xs ys : List Id) → Some xs ≡ Some ys → xs ≡ ys
same_ids xs ys e = cc

taken_if : (word : List ℕ) (ids found : List Id) (b : Bool) → is_version word found ≡ b → (if b then Some found else None) ≡ Some ids → IsVersion word ids
taken_if word ids found true is e =
    let parts = and_parts (list_all is_sound_id found) (bytes_eq (version_text found) word) is in
    subst (IsVersion word) (same_ids found ids e) (record { sound = all_sound found parts.0; spelled = same_bytes (version_text found) word parts.1 })
taken_if word ids found false is e = cc

-- a word that is taken is the version of the ids
pub is_taken : (word : List ℕ) (ids : List Id) → version_in word ≡ Some ids → IsVersion word ids
unfolding version_in
is_taken word ids e = taken_if word ids (ids_within word) (is_version word (ids_within word)) refl e

-- and each version is taken
pub takes : (word : List ℕ) (ids : List Id) → IsVersion word ids → version_in word ≡ Some ids
unfolding version_in
takes word ids v =
    let found : ids_within word ≡ ids = ap ids_within (sym v.spelled) ∙ version_again ids v.sound in
    let same : is_version word ids ≡ true = and_from (list_all is_sound_id ids) (bytes_eq (version_text ids) word) (are_sound ids v.sound) ((bytes_eq-Decides (version_text ids) word).1 v.spelled) in
    ap (λ (xs : List Id). if is_version word xs then Some xs else None) found ∙ ap (λ (b : Bool). if b then Some ids else None) same

none_taken : (word : List ℕ) (o : Option (List Id)) → version_in word ≡ o → ((ids : List Id) → ¬ IsVersion word ids) → o ≡ None
none_taken word None is none = refl
none_taken word (Some ids) is none = absurd (none ids (is_taken word ids is))

-- a word that is no version isn't taken
pub not_taken : (word : List ℕ) → ((ids : List Id) → ¬ IsVersion word ids) → version_in word ≡ None
not_taken word none = none_taken word (version_in word) refl none
