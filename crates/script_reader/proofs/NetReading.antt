-- A line of a net script means one step at most, and whether it means one can be decided.
use Rattle.std.proofs.Common.{◌≡◌, ◌≢◌, ℕ, true, false, ◌⊎◌, inl, inr, List, [], ◌∷◌, ◌++◌, codes, refl, sym, ap, subst, ◌∙◌}
use Rattle.std.specs.Fmt.{decimal}
use Rattle.std.specs.Str.{bytes_eq}
use Rattle.std.proofs.lemmas.Bool.{cases_Bool, both_ways}
use Rattle.std.proofs.lemmas.Slice.Eq.{bytes_eq-Decides}
use Rattle.ew_model.specs.Scripts.{escaped_text, lines_of, IsReadable}
use Rattle.ew_model.proofs.LineLaws.{Lacks, cut_once, never_cut, lines_mean_once, first_unreadable_once, all_readable, judged}
use Rattle.ew_model.proofs.ScriptReading.{decimal_lacks_space}
use Rattle.history_definitions.proofs.IdTexts.{name_lacks}
use Rattle.script_reader.proofs.Spellings.{Decided, IsSpelling, IsCut, cut_decided, pairs, regrouped, names, named_lacks_space, numbers, texts, Both, spaced_pair, IsNamed, as_it_is, IsSmall, IsOfScalars}
use Rattle.script_reader.proofs.Verbs.{Contents, step_of, words_of, line_of, verb_decided, verb_once, verb_lacks_space, Worded, worded, said, means, wordless}
use Rattle.peer_definitions.specs.declared.net_step.NetStep.{NetStep}
use Rattle.peer_definitions.specs.declared.net_step.NetStep.TheVariants as step
use Rattle.script_reader.specs.declared.net.verb.Verb.{Verb}
use Rattle.script_reader.specs.declared.net.verb.Verb.TheVariants as verb
use Rattle.peer_definitions.specs.NetScripts.{IsSoundStep, MeansStep, net_line}
use Rattle.script_reader.specs.NetLaws.{FirstBadNetLinesAreUnique, LinesMeanOneStep, NetBytesAreJudged, NetScriptsAreUnique, NetScriptsHaveNoBadLine}
use Rattle.script_reader.specs.Verbs.{verb_word}

two_names : IsSpelling (Both IsNamed IsNamed) (spaced_pair as_it_is as_it_is)
two_names = pairs IsNamed as_it_is IsNamed as_it_is named_lacks_space names names

two_numbers : IsSpelling (Both IsSmall IsSmall) (spaced_pair decimal decimal)
two_numbers = pairs IsSmall decimal IsSmall decimal decimal_lacks_space numbers numbers

-- what the four words of an undo and of a packet with some of the events say
abbrev AreSoundFour : List ℕ × List ℕ × ℕ × ℕ → Type 0
AreSoundFour c = IsNamed c.0 × IsNamed c.1 × IsSmall c.2 × IsSmall c.3

two_names_and_numbers : IsSpelling AreSoundFour (λ c. c.0 ++ 32 ∷ (c.1 ++ 32 ∷ (decimal c.2 ++ 32 ∷ decimal c.3)))
two_names_and_numbers =
    regrouped _ _ _ _ (λ c. (c.0, (c.1, (c.2, c.3)))) (λ c. (c.0, c.1.0, c.1.1.0, c.1.1.1)) (λ c s. (s.0, (s.1, (s.2, s.3)))) (λ c s. (s.0, s.1.0, s.1.1.0, s.1.1.1))
    (λ c. refl) (λ c. refl) (λ c. refl)
    (pairs IsNamed as_it_is (Both IsNamed (Both IsSmall IsSmall)) (spaced_pair as_it_is (spaced_pair decimal decimal)) named_lacks_space names
    (pairs IsNamed as_it_is (Both IsSmall IsSmall) (spaced_pair decimal decimal) named_lacks_space names two_numbers))

-- what the words behind the first say
words_are_spelled : (v : Verb) → IsSpelling (λ (c : Contents v). IsSoundStep (step_of v c)) (words_of v)
words_are_spelled verb.Peer = names
words_are_spelled verb.Ins =
    regrouped _ _ _ _ (λ c. (c.0, (c.1, c.2))) (λ c. (c.0, c.1.0, c.1.1)) (λ c s. (s.0, (s.1, s.2))) (λ c s. (s.0, s.1.0, s.1.1)) (λ c. refl) (λ c. refl) (λ c. refl)
    (pairs IsNamed as_it_is (Both IsSmall IsOfScalars) (spaced_pair decimal escaped_text) named_lacks_space names
    (pairs IsSmall decimal IsOfScalars escaped_text decimal_lacks_space numbers texts))
words_are_spelled verb.Del =
    regrouped _ _ _ _ (λ c. (c.0, (c.1, c.2))) (λ c. (c.0, c.1.0, c.1.1)) (λ c s. (s.0, (s.1, s.2))) (λ c s. (s.0, s.1.0, s.1.1)) (λ c. refl) (λ c. refl) (λ c. refl)
    (pairs IsNamed as_it_is (Both IsSmall IsSmall) (spaced_pair decimal decimal) named_lacks_space names two_numbers)
words_are_spelled verb.Mark = two_names
words_are_spelled verb.Undo = two_names_and_numbers
words_are_spelled verb.Caret = pairs IsNamed as_it_is IsSmall decimal named_lacks_space names numbers
words_are_spelled verb.Where = names
words_are_spelled verb.Push = two_names
words_are_spelled verb.Send = two_names_and_numbers
words_are_spelled verb.Ask = two_names
words_are_spelled verb.Deliver = numbers
words_are_spelled verb.Restart = names
words_are_spelled verb.Show = names

-- what is said beside one word with one spelling is one thing
same_contents : (v w : Verb) (c : Contents v) (d : Contents w) → v ≡ w → IsSoundStep (step_of v c) → IsSoundStep (step_of w d) → words_of v c ≡ words_of w d
    → step_of v c ≡ step_of w d
same_contents v w c d same =
    subst (λ x. (e : Contents x) → IsSoundStep (step_of v c) → IsSoundStep (step_of x e) → words_of v c ≡ words_of x e → step_of v c ≡ step_of x e) same
    (λ e s t k. ap (step_of v) ((words_are_spelled v).once c e s t k)) d

agree_lacks_space : Lacks (codes "agree") 32
agree_lacks_space = name_lacks 32 (codes "agree") refl refl

-- the line of a step with a first word
worded_line : (line : List ℕ) (s : NetStep) → MeansStep line s → (w : Worded s) → line ≡ verb_word w.first ++ 32 ∷ words_of w.first w.contents
worded_line line s m w = sym m.spelled ∙ ap net_line (sym w.is) ∙ line_of w.first w.contents

pub lines_mean_one_step : LinesMeanOneStep
lines_mean_one_step line x y m k = by (worded x) (worded y)
  where
    by : (x ≡ step.Agree) ⊎ Worded x → (y ≡ step.Agree) ⊎ Worded y → x ≡ y
    by (inl a) (inl b) = a ∙ sym b
    by (inl a) (inr w) =
        absurd (never_cut 32 (codes "agree") (verb_word w.first) (words_of w.first w.contents) agree_lacks_space (ap net_line (sym a) ∙ m.spelled ∙ worded_line line y k w))
    by (inr w) (inl b) =
        absurd (never_cut 32 (codes "agree") (verb_word w.first) (words_of w.first w.contents) agree_lacks_space (ap net_line (sym b) ∙ k.spelled ∙ worded_line line x m w))
    by (inr v) (inr w) =
        let cut = cut_once 32 (verb_word v.first) (verb_word w.first) (words_of v.first v.contents) (words_of w.first w.contents) (verb_lacks_space v.first)
        (verb_lacks_space w.first) (sym (worded_line line x m v) ∙ worded_line line y k w) in
        sym v.is
        ∙ same_contents v.first w.first v.contents w.contents (verb_once v.first w.first cut.0) (subst IsSoundStep (sym v.is) m.sound) (subst IsSoundStep (sym w.is) k.sound) cut.1
        ∙ w.is

-- whether a line means a step
abbrev Meaning : List ℕ → Type 0
Meaning line = ((s : NetStep) × MeansStep line s) ⊎ ((s : NetStep) → ¬ MeansStep line s)

-- with a first word
with_word : (v : Verb) (words : List ℕ) → Decided (λ (c : Contents v). IsSoundStep (step_of v c)) (words_of v) words → Meaning (verb_word v ++ 32 ∷ words)
with_word v words (inl c) = inl (step_of v c.0, means v words c.0 c.1 c.2)
with_word v words (inr none) = inr (λ s m. let w = said v words s m in none w.contents w.sound w.spelled)

-- where it is cut
where_cut : (line : List ℕ) → line ≢ codes "agree" → (cut : IsCut line)
    → ((v : Verb) × (verb_word v ≡ cut.first)) ⊎ ((v : Verb) → verb_word v ≢ cut.first) → Meaning line
where_cut line other cut (inl v) =
    subst Meaning ((λ i. v.1 i ++ 32 ∷ cut.second) ∙ sym cut.whole) (with_word v.0 cut.second ((words_are_spelled v.0).decided cut.second))
where_cut line other cut (inr none) =
    inr (wordless line other (λ v words e. none v (cut_once 32 (verb_word v) cut.first words cut.second (verb_lacks_space v) cut.free (sym e ∙ cut.whole)).0))

not_agree : (line : List ℕ) → line ≢ codes "agree" → Lacks line 32 ⊎ IsCut line → Meaning line
not_agree line other (inl uncut) = inr (wordless line other (λ v words e. never_cut 32 line (verb_word v) words uncut e))
not_agree line other (inr cut) = where_cut line other cut (verb_decided cut.first)

meaning_decided : (line : List ℕ) → Meaning line
meaning_decided line = by (cases_Bool (bytes_eq line (codes "agree")))
  where
    by : (bytes_eq line (codes "agree") ≡ true) ⊎ (bytes_eq line (codes "agree") ≡ false) → Meaning line
    by (inl same) = inl (step.Agree, record { sound = tt; spelled = sym ((bytes_eq-Decides line (codes "agree")).0 same) })
    by (inr other) = not_agree line (λ e. both_ways _ other ((bytes_eq-Decides line (codes "agree")).1 e)) (cut_decided line)

step_readable_decided : (line : List ℕ) → IsReadable MeansStep line ⊎ ¬ IsReadable MeansStep line
step_readable_decided [] = inl (inl refl)
step_readable_decided (b ∷ line) = by (meaning_decided (b ∷ line))
  where
    neither : ((s : NetStep) → ¬ MeansStep (b ∷ line) s) → IsReadable MeansStep (b ∷ line) → ⊥
    neither none (inl empty) = cc
    neither none (inr m) = none m.0 m.1

    by : Meaning (b ∷ line) → IsReadable MeansStep (b ∷ line) ⊎ ¬ IsReadable MeansStep (b ∷ line)
    by (inl m) = inl (inr m)
    by (inr none) = inr (neither none)

pub net_scripts_are_unique : NetScriptsAreUnique
net_scripts_are_unique bytes = lines_mean_once MeansStep lines_mean_one_step 1 (lines_of bytes)

pub first_bad_net_lines_are_unique : FirstBadNetLinesAreUnique
first_bad_net_lines_are_unique bytes = first_unreadable_once MeansStep 1 (lines_of bytes)

pub net_scripts_have_no_bad_line : NetScriptsHaveNoBadLine
net_scripts_have_no_bad_line bytes = all_readable MeansStep 1 (lines_of bytes)

pub net_bytes_are_judged : NetBytesAreJudged
net_bytes_are_judged bytes = judged MeansStep step_readable_decided 1 (lines_of bytes)
