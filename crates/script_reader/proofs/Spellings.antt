-- Words that spell one thing at most, and of which it can be decided whether they spell one.
use Rattle.std.proofs.Common.{◌≡◌, ◌≢◌, ℕ, ◌<◌, ◌≤◌, ◌^◌, true, false, ◌⊎◌, inl, inr, List, [], ◌∷◌, ◌++◌, codes, refl, sym, ap, ◌∙◌, arith}
use Rattle.std.specs.Fmt.{decimal}
use Rattle.std.specs.Str.{all_scalars, bytes_eq}
use Rattle.std.specs.Str.Parse.{digits_value}
use Rattle.std.proofs.lemmas.Bool.{cases_Bool, cases_eq, cases_lt, both_ways}
use Rattle.std.proofs.lemmas.Slice.Eq.{bytes_eq-Decides}
use Rattle.ew_model.specs.Edits.{Edit}
use Rattle.ew_model.specs.Edits.Edit.{Insert, Delete, Mark}
use Rattle.ew_model.specs.Names.{is_name}
use Rattle.ew_model.specs.Scripts.{escaped_text, IsReadable, MeansEdit}
use Rattle.ew_model.proofs.Decimals.{decimal_once, digits_value_is}
use Rattle.ew_model.proofs.EscapedText.{heads_differ}
use Rattle.ew_model.proofs.LineLaws.{Lacks, cut_once, never_cut}
use Rattle.ew_model.proofs.ScriptReading.{decimal_lacks_space, delete_line, insert_line, mark_line, lines_mean_one_edit, readable_decided}
use Rattle.history_definitions.proofs.IdTexts.{name_lacks}

-- what a word spells, or that it spells nothing
abbrev pub Decided : {X : Type 0} → (X → Type 0) → (X → List ℕ) → List ℕ → Type 0
Decided {X} Sound spell word = ((x : X) × Sound x × (spell x ≡ word)) ⊎ ((x : X) → Sound x → spell x ≢ word)

-- different things are spelled differently, and whether a word spells one can be decided
pub record IsSpelling {X : Type 0} (Sound : X → Type 0) (spell : X → List ℕ) : Type 0 where
  pub once : (x y : X) → Sound x → Sound y → spell x ≡ spell y → x ≡ y
  pub decided : (word : List ℕ) → Decided Sound spell word

-- a word is cut at its first space
pub record IsCut (word : List ℕ) : Type 0 where
  pub first : List ℕ
  pub second : List ℕ
  pub free : Lacks first 32
  pub whole : word ≡ first ++ 32 ∷ second

pub cut_decided : (word : List ℕ) → Lacks word 32 ⊎ IsCut word
cut_decided [] = inl tt
cut_decided (b ∷ word) = by (cases_eq b 32) (cut_decided word)
  where
    by : (b ≡ 32) ⊎ (b ≡ 32 → ⊥) → Lacks word 32 ⊎ IsCut word → Lacks (b ∷ word) 32 ⊎ IsCut (b ∷ word)
    by (inl space) rest = inr (record { first = []; second = word; free = tt; whole = ap (λ x. x ∷ word) space })
    by (inr other) (inl free) = inl (other, free)
    by (inr other) (inr cut) = inr (record { first = b ∷ cut.first; second = cut.second; free = (other, cut.free); whole = ap (λ x. b ∷ x) cut.whole })

-- two words with a space between them
abbrev pub Both : {X Y : Type 0} → (X → Type 0) → (Y → Type 0) → X × Y → Type 0
Both P Q c = P c.0 × Q c.1

abbrev pub spaced_pair : {X Y : Type 0} → (X → List ℕ) → (Y → List ℕ) → X × Y → List ℕ
spaced_pair f g c = f c.0 ++ 32 ∷ g c.1

module _ {X Y : Type 0} (P : X → Type 0) (f : X → List ℕ) (Q : Y → Type 0) (g : Y → List ℕ) (free : (x : X) → P x → Lacks (f x) 32) (xs : IsSpelling P f) (ys : IsSpelling Q g) where
  pair_once : (c d : X × Y) → Both P Q c → Both P Q d → spaced_pair f g c ≡ spaced_pair f g d → c ≡ d
  pair_once c d s t e =
      let cut = cut_once 32 (f c.0) (f d.0) (g c.1) (g d.1) (free c.0 s.0) (free d.0 t.0) e in
      let first = xs.once c.0 d.0 s.0 t.0 cut.0 in
      let second = ys.once c.1 d.1 s.1 t.1 cut.1 in
      λ i. (first i, second i)

  parts : (word : List ℕ) (cut : IsCut word) (c : X × Y) → Both P Q c → spaced_pair f g c ≡ word → (f c.0 ≡ cut.first) × (g c.1 ≡ cut.second)
  parts word cut c s e = cut_once 32 (f c.0) cut.first (g c.1) cut.second (free c.0 s.0) cut.free (e ∙ cut.whole)

  both : (word : List ℕ) (cut : IsCut word) → Decided P f cut.first → Decided Q g cut.second → Decided (Both P Q) (spaced_pair f g) word
  both word cut (inl x) (inl y) = inl ((x.0, y.0), (x.1, y.1), (λ i. x.2 i ++ 32 ∷ y.2 i) ∙ sym cut.whole)
  both word cut (inl x) (inr none) = inr (λ c s e. none c.1 s.1 (parts word cut c s e).1)
  both word cut (inr none) y = inr (λ c s e. none c.0 s.0 (parts word cut c s e).0)

  pair_decided : (word : List ℕ) → Lacks word 32 ⊎ IsCut word → Decided (Both P Q) (spaced_pair f g) word
  pair_decided word (inl uncut) = inr (λ c s e. never_cut 32 word (f c.0) (g c.1) uncut (sym e))
  pair_decided word (inr cut) = both word cut (xs.decided cut.first) (ys.decided cut.second)

  -- the first of which has no space
  pub pairs : IsSpelling (Both P Q) (spaced_pair f g)
  pairs = record { once = pair_once; decided = λ word. pair_decided word (cut_decided word) }

-- the same things, held in another way
module _ {X Y : Type 0} (P : X → Type 0) (f : X → List ℕ) (Q : Y → Type 0) (g : Y → List ℕ) (there : Y → X) (back : X → Y)
    (sound_there : (y : Y) → Q y → P (there y)) (sound_back : (x : X) → P x → Q (back x)) (spelled_there : (y : Y) → f (there y) ≡ g y)
    (spelled_back : (x : X) → g (back x) ≡ f x) (same : (y : Y) → back (there y) ≡ y) (xs : IsSpelling P f) where
  held_otherwise : (word : List ℕ) → Decided P f word → Decided Q g word
  held_otherwise word (inl x) = inl (back x.0, sound_back x.0 x.1, spelled_back x.0 ∙ x.2)
  held_otherwise word (inr none) = inr (λ y s e. none (there y) (sound_there y s) (spelled_there y ∙ e))

  pub regrouped : IsSpelling Q g
  regrouped = record {
    once = λ y z s t e. sym (same y) ∙ ap back (xs.once (there y) (there z) (sound_there y s) (sound_there z t) (spelled_there y ∙ e ∙ sym (spelled_there z))) ∙ same z;
    decided = λ word. held_otherwise word (xs.decided word);
  }

abbrev pub IsNamed : List ℕ → Type 0
IsNamed name = is_name name ≡ true

abbrev pub as_it_is : List ℕ → List ℕ
as_it_is name = name

pub names : IsSpelling IsNamed as_it_is
names = record { once = λ x y s t e. e; decided = λ word. by word (cases_Bool (is_name word)) }
  where
    by : (word : List ℕ) → (is_name word ≡ true) ⊎ (is_name word ≡ false) → Decided IsNamed as_it_is word
    by word (inl named) = inl (word, named, refl)
    by word (inr none) = inr (λ x s e. both_ways _ none (ap is_name (sym e) ∙ s))

pub named_lacks_space : (name : List ℕ) → IsNamed name → Lacks name 32
named_lacks_space name s = name_lacks 32 name refl s

abbrev pub IsSmall : ℕ → Type 0
IsSmall n = n < 2 ^ 32

pub numbers : IsSpelling IsSmall decimal
numbers = record { once = decimal_once; decided = λ word. by word (cases_lt (digits_value 10 word) (2 ^ 32)) (cases_Bool (bytes_eq (decimal (digits_value 10 word)) word)) }
  where
    value : (word : List ℕ) (n : ℕ) → n < 2 ^ 32 → decimal n ≡ word → digits_value 10 word ≡ n
    value word n s e = ap (digits_value 10) (sym e) ∙ digits_value_is n s

    by : (word : List ℕ) → (digits_value 10 word < 2 ^ 32) ⊎ (2 ^ 32 ≤ digits_value 10 word)
        → (bytes_eq (decimal (digits_value 10 word)) word ≡ true) ⊎ (bytes_eq (decimal (digits_value 10 word)) word ≡ false) → Decided IsSmall decimal word
    by word (inl small) (inl same) = inl (digits_value 10 word, small, (bytes_eq-Decides (decimal (digits_value 10 word)) word).0 same)
    by word (inl small) (inr other) =
        inr (λ n s e. both_ways _ other ((bytes_eq-Decides (decimal (digits_value 10 word)) word).1 (ap decimal (value word n s e) ∙ e)))
    by word (inr large) t = inr (λ n s e. omega (arith, large, s, value word n s e))

abbrev pub IsOfScalars : List ℕ → Type 0
IsOfScalars text = all_scalars text ≡ true

-- an escaped text is what stands behind the index in the line of an insertion
abbrev inserting_line : List ℕ → List ℕ
inserting_line word = codes "ins " ++ (decimal 0 ++ 32 ∷ word)

inserting : (text word : List ℕ) → IsOfScalars text → escaped_text text ≡ word → MeansEdit (inserting_line word) (Insert 0 text)
inserting text word s e = record { sound = (omega arith, s); spelled = insert_line 0 text ∙ ap inserting_line e }

abbrev inserted_text : Edit → List ℕ
inserted_text (Insert at text) = text
inserted_text (Delete at count) = []
inserted_text (Mark label) = []

pub texts : IsSpelling IsOfScalars escaped_text
texts = record { once = once; decided = λ word. by word (readable_decided (inserting_line word)) }
  where
    once : (x y : List ℕ) → IsOfScalars x → IsOfScalars y → escaped_text x ≡ escaped_text y → x ≡ y
    once x y s t e =
        ap inserted_text (lines_mean_one_edit (inserting_line (escaped_text y)) (Insert 0 x) (Insert 0 y) (inserting x (escaped_text y) s e) (inserting y (escaped_text y) t refl))

    meant : (word : List ℕ) (e : Edit) → MeansEdit (inserting_line word) e → Decided IsOfScalars escaped_text word
    meant word (Insert at text) m =
        let spelled : decimal at ++ 32 ∷ escaped_text text ≡ decimal 0 ++ 32 ∷ word = behind_four (sym (insert_line at text) ∙ m.spelled) in
        let cut = cut_once 32 (decimal at) (decimal 0) (escaped_text text) word (decimal_lacks_space at m.sound.0) (decimal_lacks_space 0 (omega arith)) spelled in
        inl (text, m.sound.1, cut.1)
      where
        behind_four : {xs ys : List ℕ} → codes "ins " ++ xs ≡ codes "ins " ++ ys → xs ≡ ys
        behind_four e = cc
    meant word (Delete at count) m = absurd (heads_differ 100 105 _ _ (λ x. omega arith) (sym (delete_line at count) ∙ m.spelled))
    meant word (Mark label) m = absurd (heads_differ 109 105 _ _ (λ x. omega arith) (sym (mark_line label) ∙ m.spelled))

    by : (word : List ℕ) → IsReadable MeansEdit (inserting_line word) ⊎ ¬ IsReadable MeansEdit (inserting_line word) → Decided IsOfScalars escaped_text word
    by word (inl (inl empty)) = cc
    by word (inl (inr m)) = meant word m.0 m.1
    by word (inr none) = inr (λ text s e. none (inr (Insert 0 text, inserting text word s e)))
