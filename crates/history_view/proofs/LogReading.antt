-- A log is cut into its lines, and each line into its words, in one way.
use Rattle.std.proofs.Common.{◌≡◌, ℕ, ◌<◌, ◌^◌, true, List, [], ◌∷◌, ◌++◌, codes, refl, sym, ap, ◌∙◌, append_assoc, append-nil, arith}
use Rattle.std.specs.Fmt.{decimal}
use Rattle.ew_model.specs.declared.event.Op.{Op}
use Rattle.ew_model.specs.declared.event.Op.TheVariants.{Ins, Del, Mark}
use Rattle.ew_model.specs.declared.event.Event.{Event}
use Rattle.ew_model.specs.Names.{is_name}
use Rattle.ew_model.specs.Scripts.{escaped_char, id_text, spaced, version_text}
use Rattle.ew_model.specs.Sound.{IsSound, IsSoundOp}
use Rattle.ew_model.proofs.Decimals.{decimal_lacks, decimal_once}
use Rattle.ew_model.proofs.EscapedText.{escaped_same}
use Rattle.ew_model.proofs.LineLaws.{cut_once, never_cut}
use Rattle.history_definitions.proofs.IdTexts.{id_lacks_space, id_once, name_lacks, version_once, version_lacks_space}
use Rattle.history_definitions.specs.Listings.{event_line, log_text, op_words}
use Rattle.history_view.specs.LogLaw.{LogsDiffer}

pub same_heads : {a b : ℕ} {xs ys : List ℕ} → a ∷ xs ≡ b ∷ ys → a ≡ b
same_heads e = cc

heads_differ : (a b : ℕ) {xs ys : List ℕ} → (a ≡ b → ⊥) → a ∷ xs ≡ b ∷ ys → ⊥
heads_differ a b other e = other (same_heads e)

same_tails : {a b c d : ℕ} {xs ys : List ℕ} → a ∷ b ∷ c ∷ d ∷ xs ≡ a ∷ b ∷ c ∷ d ∷ ys → xs ≡ ys
same_tails e = cc

behind_one : {a : ℕ} {xs ys : List ℕ} → a ∷ xs ≡ a ∷ ys → xs ≡ ys
behind_one e = cc

-- the number has 32 bits, and the label is a name
abbrev pub HasSoundWords : Op → Type 0
HasSoundWords (Ins at ch) = at < 2 ^ 32
HasSoundWords (Del at) = at < 2 ^ 32
HasSoundWords (Mark label) = is_name label ≡ true

sound_words : (op : Op) → IsSoundOp op → HasSoundWords op
sound_words (Ins at ch) s = s.0
sound_words (Del at) s = s
sound_words (Mark label) s = s

-- an operation with a newline behind it is cut in one way
pub op_once : (a b : Op) (r t : List ℕ) → HasSoundWords a → HasSoundWords b → spaced (op_words a) ++ 10 ∷ r ≡ spaced (op_words b) ++ 10 ∷ t → (a ≡ b) × (r ≡ t)
op_once (Ins at c) (Ins to d) r t s u e =
    let tails : (decimal at ++ 32 ∷ (escaped_char c ++ [])) ++ 10 ∷ r ≡ (decimal to ++ 32 ∷ (escaped_char d ++ [])) ++ 10 ∷ t = same_tails e in
    let cut = cut_once 32 (decimal at) (decimal to) ((escaped_char c ++ []) ++ 10 ∷ r) ((escaped_char d ++ []) ++ 10 ∷ t)
    (decimal_lacks at 32 s (λ q. omega (arith, q.0))) (decimal_lacks to 32 u (λ q. omega (arith, q.0)))
    (sym (append_assoc (decimal at) (32 ∷ (escaped_char c ++ [])) (10 ∷ r)) ∙ tails ∙ append_assoc (decimal to) (32 ∷ (escaped_char d ++ [])) (10 ∷ t)) in
    let bare : escaped_char c ++ 10 ∷ r ≡ escaped_char d ++ 10 ∷ t =
    ap (λ x. x ++ 10 ∷ r) (sym (append-nil (escaped_char c))) ∙ cut.1 ∙ ap (λ x. x ++ 10 ∷ t) (append-nil (escaped_char d)) in
    let same = escaped_same c d (10 ∷ r) (10 ∷ t) bare in
    let index = decimal_once at to s u cut.0 in
    ((λ i. Ins (index i) (same.0 i)), (let p = same.1 in cc))
op_once (Ins at c) (Del to) r t s u e = absurd (heads_differ 105 100 (λ x. omega (arith, x)) e)
op_once (Ins at c) (Mark label) r t s u e = absurd (heads_differ 105 109 (λ x. omega (arith, x)) e)
op_once (Del at) (Ins to d) r t s u e = absurd (heads_differ 100 105 (λ x. omega (arith, x)) e)
op_once (Del at) (Del to) r t s u e =
    let tails : (decimal at ++ []) ++ 10 ∷ r ≡ (decimal to ++ []) ++ 10 ∷ t = same_tails e in
    let bare : decimal at ++ 10 ∷ r ≡ decimal to ++ 10 ∷ t =
    ap (λ x. x ++ 10 ∷ r) (sym (append-nil (decimal at))) ∙ tails ∙ ap (λ x. x ++ 10 ∷ t) (append-nil (decimal to)) in
    let cut = cut_once 10 (decimal at) (decimal to) r t (decimal_lacks at 10 s (λ q. omega (arith, q.0))) (decimal_lacks to 10 u (λ q. omega (arith, q.0))) bare in
    let index = decimal_once at to s u cut.0 in
    ((λ i. Del (index i)), cut.1)
op_once (Del at) (Mark label) r t s u e = absurd (heads_differ 100 109 (λ x. omega (arith, x)) e)
op_once (Mark label) (Ins to d) r t s u e = absurd (heads_differ 109 105 (λ x. omega (arith, x)) e)
op_once (Mark label) (Del to) r t s u e = absurd (heads_differ 109 100 (λ x. omega (arith, x)) e)
op_once (Mark label) (Mark other) r t s u e =
    let tails : 32 ∷ (label ++ []) ++ 10 ∷ r ≡ 32 ∷ (other ++ []) ++ 10 ∷ t = same_tails e in
    let bare : label ++ 10 ∷ r ≡ other ++ 10 ∷ t =
    ap (λ x. x ++ 10 ∷ r) (sym (append-nil label)) ∙ behind_one tails ∙ ap (λ x. x ++ 10 ∷ t) (append-nil other) in
    let cut = cut_once 10 label other r t (name_lacks 10 label refl s) (name_lacks 10 other refl u) bare in
    ((λ i. Mark (cut.0 i)), cut.1)

-- a line of three words and what is behind it
line_parts : (i v o r : List ℕ) → ((i ++ 32 ∷ (v ++ 32 ∷ o)) ++ codes "\n") ++ r ≡ i ++ 32 ∷ (v ++ 32 ∷ (o ++ 10 ∷ r))
line_parts i v o r =
    append_assoc (i ++ 32 ∷ (v ++ 32 ∷ o)) (10 ∷ []) r
    ∙ append_assoc i (32 ∷ (v ++ 32 ∷ o)) (10 ∷ r)
    ∙ ap (λ x. i ++ 32 ∷ x) (append_assoc v (32 ∷ o) (10 ∷ r))

event_parts : (e : Event) (r : List ℕ) → event_line e ++ r ≡ id_text e.id ++ 32 ∷ (version_text e.parents ++ 32 ∷ (spaced (op_words e.op) ++ 10 ∷ r))
unfolding event_line
event_parts e r = at e.op
  where
    at : (op : Op) → (spaced (id_text e.id ∷ version_text e.parents ∷ op_words op) ++ codes "\n") ++ r ≡ id_text e.id ++ 32 ∷ (version_text e.parents ++ 32 ∷ (spaced (op_words op) ++ 10 ∷ r))
    at (Ins place ch) = line_parts (id_text e.id) (version_text e.parents) (spaced (op_words (Ins place ch))) r
    at (Del place) = line_parts (id_text e.id) (version_text e.parents) (spaced (op_words (Del place))) r
    at (Mark label) = line_parts (id_text e.id) (version_text e.parents) (spaced (op_words (Mark label))) r

event_once : (e f : Event) (r t : List ℕ) → IsSound e → IsSound f → event_line e ++ r ≡ event_line f ++ t → (e ≡ f) × (r ≡ t)
event_once e f r t s u same =
    let whole = sym (event_parts e r) ∙ same ∙ event_parts f t in
    let ids = cut_once 32 (id_text e.id) (id_text f.id) _ _ (id_lacks_space e.id s.id) (id_lacks_space f.id u.id) whole in
    let parents = cut_once 32 (version_text e.parents) (version_text f.parents) _ _ (version_lacks_space e.parents s.parents) (version_lacks_space f.parents u.parents) ids.1 in
    let ops = op_once e.op f.op r t (sound_words e.op s.op) (sound_words f.op u.op) parents.1 in
    let id = id_once e.id f.id s.id u.id ids.0 in
    let version = version_once e.parents f.parents s.parents u.parents parents.0 in
    ((λ i. record { id = id i; parents = version i; op = ops.0 i }), ops.1)

-- a line has a byte
some_line : (e : Event) (r : List ℕ) → [] ≡ event_line e ++ r → ⊥
some_line e r same = never_cut 32 [] (id_text e.id) _ tt (same ∙ event_parts e r)

pub logs_differ : LogsDiffer
logs_differ [] [] s u same = refl
logs_differ [] (f ∷ ys) s u same = absurd (some_line f (log_text ys) same)
logs_differ (e ∷ xs) [] s u same = absurd (some_line e (log_text xs) (sym same))
logs_differ (e ∷ xs) (f ∷ ys) s u same =
    let first = event_once e f (log_text xs) (log_text ys) s.0 u.0 same in
    let rest = logs_differ xs ys s.1 u.1 first.1 in
    λ i. first.0 i ∷ rest i
