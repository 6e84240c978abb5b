-- Steps by their first words: what stands behind the word, and which lines mean none.
use Rattle.std.proofs.Common.{◌≡◌, ◌≢◌, ℕ, ◌⊎◌, inl, inr, true, false, if◌then◌else◌, List, ◌∷◌, ◌++◌, codes, append-nil, refl, sym, ap, subst, ◌∙◌}
use Rattle.std.specs.Fmt.{decimal}
use Rattle.std.specs.Str.{bytes_eq}
use Rattle.std.proofs.lemmas.Bool.{cases_Bool, both_ways}
use Rattle.std.proofs.lemmas.Slice.Eq.{bytes_eq-Decides}
use Rattle.ew_model.specs.Scripts.{escaped_text}
use Rattle.ew_model.proofs.LineLaws.{Lacks, cut_once, never_cut}
use Rattle.history_definitions.proofs.IdTexts.{name_lacks}
use Rattle.peer_definitions.specs.declared.net_step.NetStep.{NetStep}
use Rattle.peer_definitions.specs.declared.net_step.NetStep.TheVariants as step
use Rattle.script_reader.specs.declared.net.verb.Verb.{Verb}
use Rattle.script_reader.specs.declared.net.verb.Verb.TheVariants as verb
use Rattle.peer_definitions.specs.NetScripts.{IsSoundStep, MeansStep, net_line}
use Rattle.script_reader.specs.Verbs.{verb_word}

-- what a step with this word says beside it
abbrev pub Contents : Verb → Type 0
Contents verb.Peer = List ℕ
Contents verb.Ins = List ℕ × ℕ × List ℕ
Contents verb.Del = List ℕ × ℕ × ℕ
Contents verb.Mark = List ℕ × List ℕ
Contents verb.Undo = List ℕ × List ℕ × ℕ × ℕ
Contents verb.Caret = List ℕ × ℕ
Contents verb.Where = List ℕ
Contents verb.Push = List ℕ × List ℕ
Contents verb.Send = List ℕ × List ℕ × ℕ × ℕ
Contents verb.Ask = List ℕ × List ℕ
Contents verb.Deliver = ℕ
Contents verb.Restart = List ℕ
Contents verb.Show = List ℕ

-- the step
abbrev pub step_of : (v : Verb) → Contents v → NetStep
step_of verb.Peer name = step.Peer name
step_of verb.Ins c = step.Ins c.0 c.1 c.2
step_of verb.Del c = step.Del c.0 c.1 c.2
step_of verb.Mark c = step.Mark c.0 c.1
step_of verb.Undo c = step.Undo c.0 c.1 c.2 c.3
step_of verb.Caret c = step.Caret c.0 c.1
step_of verb.Where name = step.Where name
step_of verb.Push c = step.Push c.0 c.1
step_of verb.Send c = step.Send c.0 c.1 c.2 c.3
step_of verb.Ask c = step.Ask c.0 c.1
step_of verb.Deliver n = step.Deliver n
step_of verb.Restart name = step.Restart name
step_of verb.Show name = step.Show name

-- the words behind the first
abbrev pub words_of : (v : Verb) → Contents v → List ℕ
words_of verb.Peer name = name
words_of verb.Ins c = c.0 ++ 32 ∷ (decimal c.1 ++ 32 ∷ escaped_text c.2)
words_of verb.Del c = c.0 ++ 32 ∷ (decimal c.1 ++ 32 ∷ decimal c.2)
words_of verb.Mark c = c.0 ++ 32 ∷ c.1
words_of verb.Undo c = c.0 ++ 32 ∷ (c.1 ++ 32 ∷ (decimal c.2 ++ 32 ∷ decimal c.3))
words_of verb.Caret c = c.0 ++ 32 ∷ decimal c.1
words_of verb.Where name = name
words_of verb.Push c = c.0 ++ 32 ∷ c.1
words_of verb.Send c = c.0 ++ 32 ∷ (c.1 ++ 32 ∷ (decimal c.2 ++ 32 ∷ decimal c.3))
words_of verb.Ask c = c.0 ++ 32 ∷ c.1
words_of verb.Deliver n = decimal n
words_of verb.Restart name = name
words_of verb.Show name = name

-- the line is the first word, a space and the others
pub line_of : (v : Verb) (c : Contents v) → net_line (step_of v c) ≡ verb_word v ++ 32 ∷ words_of v c
line_of verb.Peer name = ap (λ x. codes "peer " ++ x) (append-nil name)
line_of verb.Ins c = ap (λ x. codes "ins " ++ (c.0 ++ 32 ∷ (decimal c.1 ++ 32 ∷ x))) (append-nil (escaped_text c.2))
line_of verb.Del c = ap (λ x. codes "del " ++ (c.0 ++ 32 ∷ (decimal c.1 ++ 32 ∷ x))) (append-nil (decimal c.2))
line_of verb.Mark c = ap (λ x. codes "mark " ++ (c.0 ++ 32 ∷ x)) (append-nil c.1)
line_of verb.Undo c = ap (λ x. codes "undo " ++ (c.0 ++ 32 ∷ (c.1 ++ 32 ∷ (decimal c.2 ++ 32 ∷ x)))) (append-nil (decimal c.3))
line_of verb.Caret c = ap (λ x. codes "caret " ++ (c.0 ++ 32 ∷ x)) (append-nil (decimal c.1))
line_of verb.Where name = ap (λ x. codes "where " ++ x) (append-nil name)
line_of verb.Push c = ap (λ x. codes "push " ++ (c.0 ++ 32 ∷ x)) (append-nil c.1)
line_of verb.Send c = ap (λ x. codes "send " ++ (c.0 ++ 32 ∷ (c.1 ++ 32 ∷ (decimal c.2 ++ 32 ∷ x)))) (append-nil (decimal c.3))
line_of verb.Ask c = ap (λ x. codes "ask " ++ (c.0 ++ 32 ∷ x)) (append-nil c.1)
line_of verb.Deliver n = ap (λ x. codes "deliver " ++ x) (append-nil (decimal n))
line_of verb.Restart name = ap (λ x. codes "restart " ++ x) (append-nil name)
line_of verb.Show name = ap (λ x. codes "show " ++ x) (append-nil name)

-- the word that the bytes might be
verb_of : List ℕ → Verb
verb_of word =
    if bytes_eq word (codes "peer") then verb.Peer else if bytes_eq word (codes "ins") then verb.Ins else if bytes_eq word (codes "del") then verb.Del
    else if bytes_eq word (codes "mark") then verb.Mark else if bytes_eq word (codes "push") then verb.Push else if bytes_eq word (codes "send") then verb.Send else if bytes_eq word (codes "ask") then verb.Ask
    else if bytes_eq word (codes "undo") then verb.Undo else if bytes_eq word (codes "caret") then verb.Caret else if bytes_eq word (codes "where") then verb.Where
    else if bytes_eq word (codes "deliver") then verb.Deliver else if bytes_eq word (codes "restart") then verb.Restart else verb.Show

verb_of-word : (v : Verb) → verb_of (verb_word v) ≡ v
unfolding verb_of
verb_of-word verb.Peer = refl
verb_of-word verb.Ins = refl
verb_of-word verb.Del = refl
verb_of-word verb.Mark = refl
verb_of-word verb.Undo = refl
verb_of-word verb.Caret = refl
verb_of-word verb.Where = refl
verb_of-word verb.Push = refl
verb_of-word verb.Send = refl
verb_of-word verb.Ask = refl
verb_of-word verb.Deliver = refl
verb_of-word verb.Restart = refl
verb_of-word verb.Show = refl

pub verb_once : (v w : Verb) → verb_word v ≡ verb_word w → v ≡ w
verb_once v w e = sym (verb_of-word v) ∙ ap verb_of e ∙ verb_of-word w

-- whether a word is the first of steps
pub verb_decided : (word : List ℕ) → ((v : Verb) × (verb_word v ≡ word)) ⊎ ((v : Verb) → verb_word v ≢ word)
verb_decided word = by (cases_Bool (bytes_eq (verb_word (verb_of word)) word))
  where
    by : (bytes_eq (verb_word (verb_of word)) word ≡ true) ⊎ (bytes_eq (verb_word (verb_of word)) word ≡ false)
        → ((v : Verb) × (verb_word v ≡ word)) ⊎ ((v : Verb) → verb_word v ≢ word)
    by (inl same) = inl (verb_of word, (bytes_eq-Decides (verb_word (verb_of word)) word).0 same)
    by (inr other) = inr (λ v e. both_ways _ other ((bytes_eq-Decides (verb_word (verb_of word)) word).1 (ap verb_word (ap verb_of (sym e) ∙ verb_of-word v) ∙ e)))

pub verb_lacks_space : (v : Verb) → Lacks (verb_word v) 32
verb_lacks_space verb.Peer = name_lacks 32 (codes "peer") refl refl
verb_lacks_space verb.Ins = name_lacks 32 (codes "ins") refl refl
verb_lacks_space verb.Del = name_lacks 32 (codes "del") refl refl
verb_lacks_space verb.Mark = name_lacks 32 (codes "mark") refl refl
verb_lacks_space verb.Undo = name_lacks 32 (codes "undo") refl refl
verb_lacks_space verb.Caret = name_lacks 32 (codes "caret") refl refl
verb_lacks_space verb.Where = name_lacks 32 (codes "where") refl refl
verb_lacks_space verb.Push = name_lacks 32 (codes "push") refl refl
verb_lacks_space verb.Send = name_lacks 32 (codes "send") refl refl
verb_lacks_space verb.Ask = name_lacks 32 (codes "ask") refl refl
verb_lacks_space verb.Deliver = name_lacks 32 (codes "deliver") refl refl
verb_lacks_space verb.Restart = name_lacks 32 (codes "restart") refl refl
verb_lacks_space verb.Show = name_lacks 32 (codes "show") refl refl

-- a step with a first word, and what it says beside it
pub record Worded (s : NetStep) : Type 0 where
  pub first : Verb
  pub contents : Contents first
  pub is : step_of first contents ≡ s

-- each step but one has a first word and others
pub worded : (s : NetStep) → (s ≡ step.Agree) ⊎ Worded s
worded (step.Peer name) = inr (record { first = verb.Peer; contents = name; is = refl })
worded (step.Ins who at text) = inr (record { first = verb.Ins; contents = (who, at, text); is = refl })
worded (step.Del who at n) = inr (record { first = verb.Del; contents = (who, at, n); is = refl })
worded (step.Mark who label) = inr (record { first = verb.Mark; contents = (who, label); is = refl })
worded (step.Undo who whose first count) = inr (record { first = verb.Undo; contents = (who, whose, first, count); is = refl })
worded (step.Caret who at) = inr (record { first = verb.Caret; contents = (who, at); is = refl })
worded (step.Where name) = inr (record { first = verb.Where; contents = name; is = refl })
worded (step.Push sender receiver) = inr (record { first = verb.Push; contents = (sender, receiver); is = refl })
worded (step.Send sender receiver skip count) = inr (record { first = verb.Send; contents = (sender, receiver, skip, count); is = refl })
worded (step.Ask sender receiver) = inr (record { first = verb.Ask; contents = (sender, receiver); is = refl })
worded (step.Deliver n) = inr (record { first = verb.Deliver; contents = n; is = refl })
worded (step.Restart name) = inr (record { first = verb.Restart; contents = name; is = refl })
worded (step.Show name) = inr (record { first = verb.Show; contents = name; is = refl })
worded step.Agree = inl refl

-- what the words behind the first say
pub record Says (v : Verb) (words : List ℕ) : Type 0 where
  pub contents : Contents v
  pub sound : IsSoundStep (step_of v contents)
  pub spelled : words_of v contents ≡ words

-- a line with this first word means a step with it
pub said : (v : Verb) (words : List ℕ) (s : NetStep) → MeansStep (verb_word v ++ 32 ∷ words) s → Says v words
said v words s m = by (worded s)
  where
    by : (s ≡ step.Agree) ⊎ Worded s → Says v words
    by (inl e) = absurd (never_cut 32 (codes "agree") (verb_word v) words (name_lacks 32 (codes "agree") refl refl) (ap net_line (sym e) ∙ m.spelled))
    by (inr w) =
        let cut = cut_once 32 (verb_word w.first) (verb_word v) (words_of w.first w.contents) words (verb_lacks_space w.first) (verb_lacks_space v)
        (sym (line_of w.first w.contents) ∙ ap net_line w.is ∙ m.spelled) in
        subst (λ x. Says x words) (verb_once w.first v cut.0) (record { contents = w.contents; sound = subst IsSoundStep (sym w.is) m.sound; spelled = cut.1 })

-- a line with a first word means what the others say
pub means : (v : Verb) (words : List ℕ) (c : Contents v) → IsSoundStep (step_of v c) → words_of v c ≡ words → MeansStep (verb_word v ++ 32 ∷ words) (step_of v c)
means v words c sound spelled = record { sound = sound; spelled = line_of v c ∙ ap (λ x. verb_word v ++ 32 ∷ x) spelled }

-- a line that isn't `agree`, and has no first word of a step, means none
pub wordless : (line : List ℕ) → line ≢ codes "agree" → ((v : Verb) (words : List ℕ) → line ≢ verb_word v ++ 32 ∷ words) → (s : NetStep) → ¬ MeansStep line s
wordless line other none s m = by (worded s)
  where
    by : (s ≡ step.Agree) ⊎ Worded s → ⊥
    by (inl e) = other (sym m.spelled ∙ ap net_line e)
    by (inr w) = none w.first (words_of w.first w.contents) (sym m.spelled ∙ ap net_line (sym w.is) ∙ line_of w.first w.contents)

-- words that say nothing with this first word make no line of a step
pub said_none : (v : Verb) (words : List ℕ) → ((c : Contents v) → IsSoundStep (step_of v c) → words_of v c ≢ words) → (s : NetStep) → ¬ MeansStep (verb_word v ++ 32 ∷ words) s
said_none v words none s m = let w = said v words s m in none w.contents w.sound w.spelled
