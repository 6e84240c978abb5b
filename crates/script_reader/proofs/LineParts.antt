-- The parts of a line that means an edit, and lines that lack one.
use Rattle.std.proofs.Common.{◌≡◌, ◌≢◌, ℕ, ◌<◌, ◌^◌, List, ◌∷◌, ◌++◌, codes, Option, None, true, false, sym, ap, subst, ◌∙◌, arith}
use Rattle.std.specs.Fmt.{decimal}
use Rattle.std.specs.List.{All}
use Rattle.std.specs.Str.{all_scalars}
use Rattle.std.proofs.lemmas.List.Elements.{recursion_from_All}
use Rattle.std.proofs.lemmas.Bool.{both_ways}
use Rattle.ew_model.specs.Names.{is_name}
use Rattle.ew_model.specs.Edits.{Edit}
use Rattle.ew_model.specs.Edits.Edit.{Insert, Delete, Mark}
use Rattle.ew_model.specs.Scripts.{escaped_text, MeansEdit}
use Rattle.ew_model.proofs.LineLaws.{Lacks, cut_once, never_cut}
use Rattle.ew_model.proofs.ScriptReading.{decimal_lacks_space, insert_line, delete_line, mark_line}
use Rattle.script_reader.specs.declared.edit as declared
use Rattle.script_reader.specs.Meaning.{IsReading}
use Rattle.script_reader.proofs.Numbers.{SpellsNone}
use Rattle.ew_model.proofs.EscapedText.{heads_differ}

behind_four : (a b c d : ℕ) (xs ys : List ℕ) → a ∷ b ∷ c ∷ d ∷ xs ≡ a ∷ b ∷ c ∷ d ∷ ys → xs ≡ ys
behind_four a b c d xs ys e = cc

-- what stands behind `del ` in the line of a deletion
record DeletionWords (words : List ℕ) : Type 0 where
  at : ℕ
  count : ℕ
  at_small : at < 2 ^ 32
  count_small : count < 2 ^ 32
  spelled : decimal at ++ 32 ∷ decimal count ≡ words

deletion_words : (words : List ℕ) (e : Edit) → MeansEdit (codes "del " ++ words) e → DeletionWords words
deletion_words words (Insert at text) m = absurd (heads_differ 105 100 _ _ (λ x. omega arith) (sym (insert_line at text) ∙ m.spelled))
deletion_words words (Mark label) m = absurd (heads_differ 109 100 _ _ (λ x. omega arith) (sym (mark_line label) ∙ m.spelled))
deletion_words words (Delete at count) m =
    record { at = at; count = count; at_small = m.sound.0; count_small = m.sound.1; spelled = behind_four 100 101 108 32 _ _ (sym (delete_line at count) ∙ m.spelled) }

-- what stands behind `ins ` in the line of an insertion
record InsertionWords (words : List ℕ) : Type 0 where
  at : ℕ
  text : List ℕ
  at_small : at < 2 ^ 32
  scalars : all_scalars text ≡ true
  spelled : decimal at ++ 32 ∷ escaped_text text ≡ words

insertion_words : (words : List ℕ) (e : Edit) → MeansEdit (codes "ins " ++ words) e → InsertionWords words
insertion_words words (Insert at text) m =
    record { at = at; text = text; at_small = m.sound.0; scalars = m.sound.1; spelled = behind_four 105 110 115 32 _ _ (sym (insert_line at text) ∙ m.spelled) }
insertion_words words (Delete at count) m = absurd (heads_differ 100 105 _ _ (λ x. omega arith) (sym (delete_line at count) ∙ m.spelled))
insertion_words words (Mark label) m = absurd (heads_differ 109 105 _ _ (λ x. omega arith) (sym (mark_line label) ∙ m.spelled))

-- what stands behind `mark ` in the line of a mark is a name
behind_five : (a b c d e : ℕ) (xs ys : List ℕ) → a ∷ b ∷ c ∷ d ∷ e ∷ xs ≡ a ∷ b ∷ c ∷ d ∷ e ∷ ys → xs ≡ ys
behind_five a b c d e xs ys h = cc

label_named : (word : List ℕ) (e : Edit) → MeansEdit (codes "mark " ++ word) e → is_name word ≡ true
label_named word (Insert at text) m = absurd (heads_differ 105 109 _ _ (λ x. omega arith) (sym (insert_line at text) ∙ m.spelled))
label_named word (Delete at count) m = absurd (heads_differ 100 109 _ _ (λ x. omega arith) (sym (delete_line at count) ∙ m.spelled))
label_named word (Mark label) m = ap is_name (sym (behind_five 109 97 114 107 32 _ _ (sym (mark_line label) ∙ m.spelled))) ∙ m.sound

pub other_label_means_none : (word : List ℕ) → is_name word ≡ false → (e : Edit) → ¬ MeansEdit (codes "mark " ++ word) e
other_label_means_none word other e m = both_ways _ other (label_named word e m)

-- the line means no edit
abbrev pub MeansNone : List ℕ → Type 0
MeansNone line = (e : Edit) → ¬ MeansEdit line e

-- a line begins with `ins `, `del ` or `mark `
pub other_word_means_none : (line : List ℕ) → ((rest : List ℕ) → line ≢ codes "ins " ++ rest) → ((rest : List ℕ) → line ≢ codes "del " ++ rest) → ((rest : List ℕ) → line ≢ codes "mark " ++ rest) → MeansNone line
other_word_means_none line no_ins no_del no_mark (Insert at text) m = no_ins _ (sym m.spelled ∙ insert_line at text)
other_word_means_none line no_ins no_del no_mark (Delete at count) m = no_del _ (sym m.spelled ∙ delete_line at count)
other_word_means_none line no_ins no_del no_mark (Mark label) m = no_mark _ (sym m.spelled ∙ mark_line label)

module _ (words : List ℕ) (uncut : All (λ x. x ≢ 32) words) where
  free : Lacks words 32
  free = recursion_from_All (λ x. x ≢ 32) words uncut

  -- a line has a second space
  pub uncut_deletion_means_none : MeansNone (codes "del " ++ words)
  uncut_deletion_means_none e m = let w = deletion_words words e m in never_cut 32 words (decimal w.at) (decimal w.count) free (sym w.spelled)

  pub uncut_insertion_means_none : MeansNone (codes "ins " ++ words)
  uncut_insertion_means_none e m = let w = insertion_words words e m in never_cut 32 words (decimal w.at) (escaped_text w.text) free (sym w.spelled)

-- the words are cut at their first space
pub record AreCut (words first second : List ℕ) : Type 0 where
  pub free : All (λ x. x ≢ 32) first
  pub whole : words ≡ first ++ 32 ∷ second

module _ (words first second : List ℕ) (cut : AreCut words first second) where
  same_deletion : (e : Edit) (m : MeansEdit (codes "del " ++ words) e) → let w = deletion_words words e m in (decimal w.at ≡ first) × (decimal w.count ≡ second)
  same_deletion e m =
      let w = deletion_words words e m in
      cut_once 32 (decimal w.at) first (decimal w.count) second (decimal_lacks_space w.at w.at_small) (recursion_from_All (λ x. x ≢ 32) first cut.free) (w.spelled ∙ cut.whole)

  same_insertion : (e : Edit) (m : MeansEdit (codes "ins " ++ words) e) → let w = insertion_words words e m in (decimal w.at ≡ first) × (escaped_text w.text ≡ second)
  same_insertion e m =
      let w = insertion_words words e m in
      cut_once 32 (decimal w.at) first (escaped_text w.text) second (decimal_lacks_space w.at w.at_small) (recursion_from_All (λ x. x ≢ 32) first cut.free) (w.spelled ∙ cut.whole)

  -- both words of a deletion are numbers
  pub no_index_means_no_deletion : SpellsNone first → MeansNone (codes "del " ++ words)
  no_index_means_no_deletion none e m = let w = deletion_words words e m in none w.at w.at_small (same_deletion e m).0

  pub no_count_means_none : SpellsNone second → MeansNone (codes "del " ++ words)
  no_count_means_none none e m = let w = deletion_words words e m in none w.count w.count_small (same_deletion e m).1

  -- the first word of an insertion is a number, and then comes an escaped text
  pub no_index_means_no_insertion : SpellsNone first → MeansNone (codes "ins " ++ words)
  no_index_means_no_insertion none e m = let w = insertion_words words e m in none w.at w.at_small (same_insertion e m).0

  pub no_text_means_none : ((text : List ℕ) → all_scalars text ≡ true → escaped_text text ≢ second) → MeansNone (codes "ins " ++ words)
  no_text_means_none none e m = let w = insertion_words words e m in none w.text w.scalars (same_insertion e m).1

-- nothing is read of a line that means nothing
pub reads_none : (line : List ℕ) (found : Option declared.Edit.Edit) → found ≡ None → MeansNone line → IsReading line found
reads_none line found e none = subst (IsReading line) (sym e) none
