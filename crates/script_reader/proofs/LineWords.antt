-- Names and numbers in the words of a line, and lines that lack one.
use Rattle.std.proofs.Common.{◌≡◌, ◌≢◌, ℕ, ◌<◌, ◌^◌, true, false, List, ◌∷◌, ◌++◌, codes, Option, None, refl, sym, ap, subst, ◌∙◌}
use Rattle.std.specs.Fmt.{decimal}
use Rattle.std.specs.List.{All}
use Rattle.std.specs.Str.{all_scalars}
use Rattle.std.proofs.lemmas.Bool.{false≢true}
use Rattle.std.proofs.lemmas.List.Elements.{recursion_from_All}
use Rattle.ew_model.specs.Names.{is_name}
use Rattle.ew_model.specs.Scripts.{escaped_text}
use Rattle.ew_model.proofs.LineLaws.{Lacks, cut_once, never_cut}
use Rattle.ew_model.proofs.ScriptReading.{decimal_lacks_space}
use Rattle.history_definitions.proofs.IdTexts.{name_lacks}
use Rattle.script_reader.proofs.LineParts.{AreCut}
use Rattle.script_reader.proofs.Numbers.{SpellsNone}
use Rattle.peer_definitions.specs.declared.net_step.NetStep.{NetStep}
use Rattle.script_reader.specs.declared.net.verb.Verb.TheVariants as verb
use Rattle.peer_definitions.specs.NetScripts.{IsStepReading, MeansStep}
use Rattle.script_reader.proofs.Verbs.{Says, said}

lacks_space : (word : List ℕ) → All (λ x. x ≢ 32) word → Lacks word 32
lacks_space word free = recursion_from_All (λ x. x ≢ 32) word free

-- the words aren't two numbers
abbrev pub NoNumbers : List ℕ → Type 0
NoNumbers words = (a b : ℕ) → a < 2 ^ 32 → b < 2 ^ 32 → decimal a ++ 32 ∷ decimal b ≢ words

-- the words don't begin with a name
abbrev pub NoName : List ℕ → Type 0
NoName words = (name behind : List ℕ) → is_name name ≡ true → name ++ 32 ∷ behind ≢ words

-- the words aren't two names
abbrev pub NoNames : List ℕ → Type 0
NoNames words = (a b : List ℕ) → is_name a ≡ true → is_name b ≡ true → a ++ 32 ∷ b ≢ words

-- the words begin with a name
pub record NameFirst (words name behind : List ℕ) : Type 0 where
  pub named : is_name name ≡ true
  pub whole : name ++ 32 ∷ behind ≡ words

-- the first word is the name that it spells
pub name_first : (words word behind name : List ℕ) → AreCut words word behind → is_name name ≡ true → name ≡ word → NameFirst words word behind
name_first words word behind name cut named is = record { named = ap is_name (sym is) ∙ named; whole = sym cut.whole }

-- the words aren't a name and a number
abbrev pub NoNameAndNumber : List ℕ → Type 0
NoNameAndNumber words = (a : List ℕ) (n : ℕ) → is_name a ≡ true → n < 2 ^ 32 → a ++ 32 ∷ decimal n ≢ words

-- the words aren't two names and two numbers
abbrev pub NoNamesAndNumbers : List ℕ → Type 0
NoNamesAndNumbers words = (a b : List ℕ) (m n : ℕ) → is_name a ≡ true → is_name b ≡ true → m < 2 ^ 32 → n < 2 ^ 32
    → a ++ 32 ∷ (b ++ 32 ∷ (decimal m ++ 32 ∷ decimal n)) ≢ words

-- words that don't begin with a name are none of these
module _ (words : List ℕ) (none : NoName words) where
  pub no_name_no_names : NoNames words
  no_name_no_names a b p q e = none a b p e

  pub no_name_no_two : NoNameAndNumber words
  no_name_no_two a n p s e = none a (decimal n) p e

  pub no_name_no_four : NoNamesAndNumbers words
  no_name_no_four a b m n p q s t e = none a (b ++ 32 ∷ (decimal m ++ 32 ∷ decimal n)) p e

module _ (words : List ℕ) (uncut : All (λ x. x ≢ 32) words) where
  pub uncut_no_numbers : NoNumbers words
  uncut_no_numbers a b p q e = never_cut 32 words (decimal a) (decimal b) (lacks_space words uncut) (sym e)

  pub uncut_no_name : NoName words
  uncut_no_name name behind named e = never_cut 32 words name behind (lacks_space words uncut) (sym e)

module _ (words first second : List ℕ) (cut : AreCut words first second) where
  same_number : (n : ℕ) (rest : List ℕ) → n < 2 ^ 32 → decimal n ++ 32 ∷ rest ≡ words → (decimal n ≡ first) × (rest ≡ second)
  same_number n rest small e = cut_once 32 (decimal n) first rest second (decimal_lacks_space n small) (lacks_space first cut.free) (e ∙ cut.whole)

  pub no_first_no_numbers : SpellsNone first → NoNumbers words
  no_first_no_numbers none a b p q e = none a p (same_number a (decimal b) p e).0

  pub no_second_no_numbers : SpellsNone second → NoNumbers words
  no_second_no_numbers none a b p q e = none b q (same_number a (decimal b) p e).1

  pub unnamed_no_name : is_name first ≡ false → NoName words
  unnamed_no_name none name behind named e =
      let same = cut_once 32 name first behind second (name_lacks 32 name refl named) (lacks_space first cut.free) (e ∙ cut.whole) in
      false≢true (sym none ∙ ap is_name (sym same.0) ∙ named)

module _ (words name behind : List ℕ) (first : NameFirst words name behind) where
  same_behind : (other rest : List ℕ) → is_name other ≡ true → other ++ 32 ∷ rest ≡ words → rest ≡ behind
  same_behind other rest named e =
      (cut_once 32 other name rest behind (name_lacks 32 other refl named) (name_lacks 32 name refl first.named) (e ∙ sym first.whole)).1

  pub unnamed_no_names : is_name behind ≡ false → NoNames words
  unnamed_no_names none a b p q e = false≢true (sym none ∙ ap is_name (sym (same_behind a b p e)) ∙ q)

  ins_behind : (w : Says verb.Ins words) → decimal w.contents.1 ++ 32 ∷ escaped_text w.contents.2 ≡ behind
  ins_behind w = same_behind w.contents.0 (decimal w.contents.1 ++ 32 ∷ escaped_text w.contents.2) w.sound.0 w.spelled

  pub uncut_no_insertion : All (λ x. x ≢ 32) behind → (s : NetStep) → ¬ MeansStep (codes "ins " ++ words) s
  uncut_no_insertion uncut s m =
      let w = said verb.Ins words s m in never_cut 32 behind (decimal w.contents.1) (escaped_text w.contents.2) (lacks_space behind uncut) (sym (ins_behind w))

  module _ (number escaped : List ℕ) (cut : AreCut behind number escaped) where
    pub no_index_no_insertion : SpellsNone number → (s : NetStep) → ¬ MeansStep (codes "ins " ++ words) s
    no_index_no_insertion none s m =
        let w = said verb.Ins words s m in
        none w.contents.1 w.sound.1 (same_number behind number escaped cut w.contents.1 (escaped_text w.contents.2) w.sound.1 (ins_behind w)).0

    pub no_text_no_insertion : ((text : List ℕ) → all_scalars text ≡ true → escaped_text text ≢ escaped) → (s : NetStep) → ¬ MeansStep (codes "ins " ++ words) s
    no_text_no_insertion none s m =
        let w = said verb.Ins words s m in
        none w.contents.2 w.sound.2 (same_number behind number escaped cut w.contents.1 (escaped_text w.contents.2) w.sound.1 (ins_behind w)).1

  pub no_numbers_no_deletion : NoNumbers behind → (s : NetStep) → ¬ MeansStep (codes "del " ++ words) s
  no_numbers_no_deletion none s m =
      let w = said verb.Del words s m in
      none w.contents.1 w.contents.2 w.sound.1 w.sound.2
      (same_behind w.contents.0 (decimal w.contents.1 ++ 32 ∷ decimal w.contents.2) w.sound.0 w.spelled)

  pub no_other_no_four : NoName behind → NoNamesAndNumbers words
  no_other_no_four none a b m n p q s t e = none b (decimal m ++ 32 ∷ decimal n) q (same_behind a (b ++ 32 ∷ (decimal m ++ 32 ∷ decimal n)) p e)

  pub no_number_no_two : SpellsNone behind → NoNameAndNumber words
  no_number_no_two none a n p s e = none n s (same_behind a (decimal n) p e)

pub no_numbers_no_four : (words name behind other numbers : List ℕ) → NameFirst words name behind → NameFirst behind other numbers → NoNumbers numbers
    → NoNamesAndNumbers words
no_numbers_no_four words name behind other numbers first second none a b m n p q s t e =
    none m n s t (same_behind behind other numbers second b (decimal m ++ 32 ∷ decimal n) q (same_behind words name behind first a (b ++ 32 ∷ (decimal m ++ 32 ∷ decimal n)) p e))

module _ (words : List ℕ) (none : NoName words) where
  pub nameless_no_insertion : (s : NetStep) → ¬ MeansStep (codes "ins " ++ words) s
  nameless_no_insertion s m =
      let w = said verb.Ins words s m in none w.contents.0 (decimal w.contents.1 ++ 32 ∷ escaped_text w.contents.2) w.sound.0 w.spelled

  pub nameless_no_deletion : (s : NetStep) → ¬ MeansStep (codes "del " ++ words) s
  nameless_no_deletion s m =
      let w = said verb.Del words s m in none w.contents.0 (decimal w.contents.1 ++ 32 ∷ decimal w.contents.2) w.sound.0 w.spelled

-- words that aren't a name
pub unnamed : (words : List ℕ) → is_name words ≡ false → (name : List ℕ) → is_name name ≡ true → name ≢ words
unnamed words none name named e = false≢true (sym none ∙ ap is_name (sym e) ∙ named)

-- nothing is read of a line that means nothing
pub reads_none : (line : List ℕ) (found : Option NetStep) → found ≡ None → ((s : NetStep) → ¬ MeansStep line s) → IsStepReading line found
reads_none line found e none = subst (IsStepReading line) (sym e) none
