-- A line means one step at most: there is one that it might mean, but for the text of an insertion, which is escaped in one way.
use Rattle.std.proofs.Common.{◌≡◌, ℕ, ◌<◌, ◌^◌, true, List, [], ◌∷◌, ◌++◌, get_or, drop, codes, append-nil, refl, sym, ap, ◌∙◌}
use Rattle.std.specs.Prelude.{if◌then◌else◌, ◌==◌}
use Rattle.std.specs.Fmt.{decimal}
use Rattle.std.specs.Str.Parse.{digits_value}
use Rattle.std.proofs.lemmas.Bool.{cond-false, ne_eqb}
use Rattle.ew_model.specs.Names.{is_name}
use Rattle.ew_model.specs.Scripts.{escaped_text}
use Rattle.ew_model.proofs.Decimals.{digits_value_is}
use Rattle.ew_model.proofs.EscapedText.{escaped_once}
use Rattle.ew_model.proofs.LineLaws.{Lacks}
use Rattle.ew_model.proofs.ScriptReading.{decimal_lacks_space}
use Rattle.history_definitions.proofs.IdTexts.{name_lacks}
use Rattle.peer_definitions.specs.declared.net_step.NetStep.{NetStep}
use Rattle.peer_definitions.specs.declared.net_step.NetStep.TheVariants.{Peer, Ins, Del, Mark, Undo, Caret, Where, Push, Send, Ask, Deliver, Restart, Show, Agree}
use Rattle.peer_definitions.specs.NetScripts.{IsSoundStep, MeansStep, net_line}

-- what stands before the first space, and what behind it
abbrev first : List ℕ → List ℕ
first [] = []
first (b ∷ bytes) = if b == 32 then [] else b ∷ first bytes

abbrev others : List ℕ → List ℕ
others [] = []
others (b ∷ bytes) = if b == 32 then bytes else others bytes

first_word : (word rest : List ℕ) → Lacks word 32 → first (word ++ 32 ∷ rest) ≡ word
first_word [] rest h = refl
first_word (b ∷ word) rest h = cond-false _ _ _ (ne_eqb b 32 h.0) ∙ ap (λ x. b ∷ x) (first_word word rest h.1)

other_words : (word rest : List ℕ) → Lacks word 32 → others (word ++ 32 ∷ rest) ≡ rest
other_words [] rest h = refl
other_words (b ∷ word) rest h = cond-false _ _ _ (ne_eqb b 32 h.0) ∙ other_words word rest h.1

abbrev number : List ℕ → ℕ
number word = digits_value 10 word

-- the step that a line might mean, with the text of an insertion
abbrev step_in : List ℕ → List ℕ → NetStep
step_in line text =
    let letter = get_or line 0 0 in
    let next = get_or line 1 0 in
    let three = drop 4 line in
    let four = drop 5 line in
    let five = drop 6 line in
    if letter == 112 then (if next == 101 then Peer four else Push (first four) (others four))
    else (if letter == 105 then Ins (first three) (number (first (others three))) text
    else (if letter == 100 then (if get_or line 3 0 == 32 then Del (first three) (number (first (others three))) (number (others (others three))) else Deliver (number (drop 8 line)))
    else (if letter == 115 then (if next == 101 then Send (first four) (first (others four)) (number (first (others (others four)))) (number (others (others (others four)))) else Show four)
    else (if letter == 97 then (if next == 115 then Ask (first three) (others three) else Agree)
    else (if letter == 109 then Mark (first four) (others four)
    else (if letter == 117 then Undo (first four) (first (others four)) (number (first (others (others four)))) (number (others (others (others four))))
    else (if letter == 99 then Caret (first five) (number (others five))
    else (if letter == 119 then Where five else Restart (drop 8 line)))))))))

-- the text of a step, and how it stands in the step's line
abbrev text_of : NetStep → List ℕ
text_of (Ins who at text) = text
text_of s = []

abbrev escaped_in : List ℕ → List ℕ
escaped_in line = if get_or line 0 0 == 105 then others (others (drop 4 line)) else []

name_free : (name : List ℕ) → is_name name ≡ true → Lacks name 32
name_free name named = name_lacks 32 name refl named

digits_first : (n : ℕ) (rest : List ℕ) → n < 2 ^ 32 → number (first (decimal n ++ 32 ∷ rest)) ≡ n
digits_first n rest small = ap number (first_word (decimal n) rest (decimal_lacks_space n small)) ∙ digits_value_is n small

-- two names behind a first word
module _ (a b : List ℕ) (named : is_name a ≡ true) where
  first_name : first (a ++ 32 ∷ b) ≡ a
  first_name = first_word a b (name_free a named)

  second_name : others (a ++ 32 ∷ b) ≡ b
  second_name = other_words a b (name_free a named)

step_again : (s : NetStep) → IsSoundStep s → step_in (net_line s) (text_of s) ≡ s
step_again (Peer name) h = ap Peer (append-nil name)
step_again (Ins who at text) h =
    let words = decimal at ++ 32 ∷ (escaped_text text ++ []) in
    let at_is = ap (λ x. number (first x)) (second_name who words h.0) ∙ digits_first at (escaped_text text ++ []) h.1 in
    let who_is = first_name who words h.0 in
    λ i. Ins (who_is i) (at_is i) text
step_again (Del who at n) h =
    let words = decimal at ++ 32 ∷ (decimal n ++ []) in
    let who_is = first_name who words h.0 in
    let behind = second_name who words h.0 in
    let at_is = ap (λ x. number (first x)) behind ∙ digits_first at (decimal n ++ []) h.1 in
    let n_is = ap (λ x. number (others x)) behind ∙ ap number (other_words (decimal at) (decimal n ++ []) (decimal_lacks_space at h.1) ∙ append-nil (decimal n)) ∙ digits_value_is n h.2 in
    λ i. Del (who_is i) (at_is i) (n_is i)
step_again (Mark who label) h =
    let who_is = first_name who (label ++ []) h.0 in
    let label_is = second_name who (label ++ []) h.0 ∙ append-nil label in
    λ i. Mark (who_is i) (label_is i)
step_again (Undo a b n count) h =
    let numbers = decimal n ++ 32 ∷ (decimal count ++ []) in
    let names = b ++ 32 ∷ numbers in
    let a_is = first_name a names h.0 in
    let behind = second_name a names h.0 in
    let b_is = ap first behind ∙ first_name b numbers h.1 in
    let last = ap others behind ∙ second_name b numbers h.1 in
    let n_is = ap (λ x. number (first x)) last ∙ digits_first n (decimal count ++ []) h.2 in
    let count_is = ap (λ x. number (others x)) last ∙ ap number (other_words (decimal n) (decimal count ++ []) (decimal_lacks_space n h.2) ∙ append-nil (decimal count)) ∙ digits_value_is count h.3 in
    λ i. Undo (a_is i) (b_is i) (n_is i) (count_is i)
step_again (Caret who at) h =
    let who_is = first_name who (decimal at ++ []) h.0 in
    let at_is = ap number (second_name who (decimal at ++ []) h.0 ∙ append-nil (decimal at)) ∙ digits_value_is at h.1 in
    λ i. Caret (who_is i) (at_is i)
step_again (Where name) h = ap Where (append-nil name)
step_again (Push a b) h =
    let a_is = first_name a (b ++ []) h.0 in
    let b_is = second_name a (b ++ []) h.0 ∙ append-nil b in
    λ i. Push (a_is i) (b_is i)
step_again (Send a b skip count) h =
    let numbers = decimal skip ++ 32 ∷ (decimal count ++ []) in
    let names = b ++ 32 ∷ numbers in
    let a_is = first_name a names h.0 in
    let behind = second_name a names h.0 in
    let b_is = ap first behind ∙ first_name b numbers h.1 in
    let last = ap others behind ∙ second_name b numbers h.1 in
    let skip_is = ap (λ x. number (first x)) last ∙ digits_first skip (decimal count ++ []) h.2 in
    let count_is = ap (λ x. number (others x)) last ∙ ap number (other_words (decimal skip) (decimal count ++ []) (decimal_lacks_space skip h.2) ∙ append-nil (decimal count)) ∙ digits_value_is count h.3 in
    λ i. Send (a_is i) (b_is i) (skip_is i) (count_is i)
step_again (Ask a b) h =
    let a_is = first_name a (b ++ []) h.0 in
    let b_is = second_name a (b ++ []) h.0 ∙ append-nil b in
    λ i. Ask (a_is i) (b_is i)
step_again (Deliver n) h = ap Deliver (ap number (append-nil (decimal n)) ∙ digits_value_is n h)
step_again (Restart name) h = ap Restart (append-nil name)
step_again (Show name) h = ap Show (append-nil name)
step_again Agree h = refl

escaped_again : (s : NetStep) → IsSoundStep s → escaped_in (net_line s) ≡ escaped_text (text_of s)
escaped_again (Peer name) h = refl
escaped_again (Ins who at text) h =
    let words = decimal at ++ 32 ∷ (escaped_text text ++ []) in
    ap others (second_name who words h.0) ∙ other_words (decimal at) (escaped_text text ++ []) (decimal_lacks_space at h.1) ∙ append-nil (escaped_text text)
escaped_again (Del who at n) h = refl
escaped_again (Mark who label) h = refl
escaped_again (Undo a b n count) h = refl
escaped_again (Caret who at) h = refl
escaped_again (Where name) h = refl
escaped_again (Push a b) h = refl
escaped_again (Send a b skip count) h = refl
escaped_again (Ask a b) h = refl
escaped_again (Deliver n) h = refl
escaped_again (Restart name) h = refl
escaped_again (Show name) h = refl
escaped_again Agree h = refl

pub lines_mean_one_step : (line : List ℕ) (x y : NetStep) → MeansStep line x → MeansStep line y → x ≡ y
lines_mean_one_step line x y m k =
    let lines = m.spelled ∙ sym k.spelled in
    let texts = escaped_once (text_of x) (text_of y) (sym (escaped_again x m.sound) ∙ ap escaped_in lines ∙ escaped_again y k.sound) in
    sym (step_again x m.sound) ∙ (λ i. step_in (lines i) (texts i)) ∙ step_again y k.sound
