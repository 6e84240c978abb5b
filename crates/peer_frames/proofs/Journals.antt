-- Bytes hold one list of batches, and one bad place or none.
use Rattle.std.proofs.Common.{◌≡◌, ℕ, ◌≤◌, List, [], ◌∷◌, ◌++◌, length, take, drop, Option, Some, None, refl, sym, ap, subst, ◌∙◌, append_assoc, append-nil, arith, inl, inr}
use Rattle.std.specs.Int.{w32, from_le_bytes}
use Rattle.std.specs.List.{AllByRecursion}
use Rattle.std.proofs.lemmas.Bool.{cases_lt}
use Rattle.std.proofs.lemmas.List.{take_at, drop_at, length-append}
use Rattle.std.proofs.lemmas.Nat.{from_le_bytes-to_le_bytes_4}
use Rattle.ew_model.specs.declared.event.Event.{Event}
use Rattle.ew_model.specs.Bytes.{four_bytes}
use Rattle.ew_model.proofs.ListPlaces.{some_is}
use Rattle.peer_definitions.specs.Spelling.{events_body}
use Rattle.peer_definitions.specs.Batches.{IsBatch, IsEventsBody, batch_bytes, journal_bytes, EndsAt, AreBatches}
use Rattle.peer_frames.proofs.SpelledEvents.{body_back}

-- the first byte of a list, and the others
first_is : (a b : ℕ) (xs ys : List ℕ) → a ∷ xs ≡ b ∷ ys → a ≡ b
first_is a b xs ys e = cc

others_are : (a b : ℕ) (xs ys : List ℕ) → a ∷ xs ≡ b ∷ ys → xs ≡ ys
others_are a b xs ys e = cc

-- two batches in front of the same bytes are one
pub one_batch : (most : ℕ) (a b : List Event) (left other : List ℕ) → IsBatch most a → IsBatch most b → batch_bytes a ++ left ≡ batch_bytes b ++ other → (a ≡ b) × (left ≡ other)
one_batch most a b left other ha hb e =
    let A = events_body a in
    let B = events_body b in
    let n = length A in
    let m = length B in
    let parted : four_bytes n ++ (A ++ left) ≡ four_bytes m ++ (B ++ other) =
    sym (append_assoc (four_bytes n) A left) ∙ others_are 1 1 _ _ e ∙ append_assoc (four_bytes m) B other in
    let sizes : n ≡ m =
    sym (from_le_bytes-to_le_bytes_4 n ha.told) ∙ ap (λ (l : List ℕ). from_le_bytes w32 (take 4 l)) parted ∙ from_le_bytes-to_le_bytes_4 m hb.told in
    let bodies : A ++ left ≡ B ++ other = ap (λ (l : List ℕ). drop 4 l) parted in
    let same : A ≡ B = sym (take_at A left n refl) ∙ ap (λ (l : List ℕ). take n l) bodies ∙ take_at B other n (sym sizes) in
    let after : left ≡ other = sym (drop_at A left n refl) ∙ ap (λ (l : List ℕ). drop n l) bodies ∙ drop_at B other n (sym sizes) in
    (some_is a b (sym (body_back A a ha.body) ∙ body_back A b (subst (λ ys. IsEventsBody ys b) (sym same) hb.body)), after)

-- a batch isn't where batches end
pub no_end : (most place : ℕ) (b : List Event) (bytes rest : List ℕ) (bad : Option ℕ) → IsBatch most b → bytes ≡ batch_bytes b ++ rest → 1 ≤ length rest → EndsAt most place bytes bad → ⊥
no_end most place b bytes rest None h parts more (gate, left, is, not) = not (first_is gate 1 left _ (sym is ∙ parts))
no_end most place b bytes rest (Some bad) h parts more (at, broken) = broken.none b rest (record { each = (h, tt); parts = parts ∙ sym (ap (λ (l : List ℕ). l ++ rest) (append-nil (batch_bytes b))); more = more })

pub longer : (ys : List ℕ) (rest : List ℕ) → 1 ≤ length rest → 1 ≤ length (ys ++ rest)
longer ys rest more = omega (arith, length-append ys rest, more)

-- batches that end are all there are
same_batches : (most p q : ℕ) (xs ys : List (List Event)) (left other : List ℕ) (bad worse : Option ℕ)
    → AllByRecursion (IsBatch most) xs → AllByRecursion (IsBatch most) ys → 1 ≤ length left → 1 ≤ length other
    → journal_bytes xs ++ left ≡ journal_bytes ys ++ other → EndsAt most p left bad → EndsAt most q other worse → (xs ≡ ys) × (left ≡ other)
same_batches most p q [] [] left other bad worse ha hb more others e x y = (refl, e)
same_batches most p q [] (b ∷ ys) left other bad worse ha hb more others e x y =
    absurd (no_end most p b left (journal_bytes ys ++ other) bad hb.0 (e ∙ append_assoc (batch_bytes b) (journal_bytes ys) other) (longer (journal_bytes ys) other others) x)
same_batches most p q (a ∷ xs) [] left other bad worse ha hb more others e x y =
    absurd (no_end most q a other (journal_bytes xs ++ left) worse ha.0 (sym e ∙ append_assoc (batch_bytes a) (journal_bytes xs) left) (longer (journal_bytes xs) left more) y)
same_batches most p q (a ∷ xs) (b ∷ ys) left other bad worse ha hb more others e x y =
    let first = one_batch most a b (journal_bytes xs ++ left) (journal_bytes ys ++ other) ha.0 hb.0 (sym (append_assoc (batch_bytes a) (journal_bytes xs) left) ∙ e ∙ append_assoc (batch_bytes b) (journal_bytes ys) other) in
    let next = same_batches most p q xs ys left other bad worse ha.1 hb.1 more others first.1 x y in
    (ap (λ c. c ∷ xs) first.0 ∙ ap (λ cs. b ∷ cs) next.0, next.1)

one_end : (most p q : ℕ) (bytes : List ℕ) (bad worse : Option ℕ) → p ≡ q → EndsAt most p bytes bad → EndsAt most q bytes worse → bad ≡ worse
one_end most p q bytes None None e x y = refl
one_end most p q bytes None (Some worse) e (gate, left, is, not) (at, broken) = absurd (not (first_is gate 1 left broken.opened.0 (sym is ∙ broken.opened.1)))
one_end most p q bytes (Some bad) None e (at, broken) (gate, left, is, not) = absurd (not (first_is gate 1 left broken.opened.0 (sym is ∙ broken.opened.1)))
one_end most p q bytes (Some bad) (Some worse) e x y = ap Some (x.0 ∙ e ∙ sym y.0)

pub one_journal : (most : ℕ) (bytes : List ℕ) (batches others : List (List Event)) (bad worse : Option ℕ) → AreBatches most bytes batches bad → AreBatches most bytes others worse → (batches ≡ others) × (bad ≡ worse)
one_journal most bytes batches others bad worse h k =
    elim (cases_lt (length bytes) 2) [
      | inl short ↦ (let a = h.short short in let b = k.short short in (a.0 ∙ sym b.0, a.1 ∙ sym b.1))
      | inr long ↦ (
          let a = h.long long in
          let b = k.long long in
          let same = same_batches most (length (journal_bytes batches)) (length (journal_bytes others)) batches others a.0 b.0 bad worse a.1.each b.1.each a.1.more b.1.more (sym a.1.parts ∙ b.1.parts) a.2 b.2 in
          (same.0, one_end most (length (journal_bytes batches)) (length (journal_bytes others)) b.0 bad worse (ap (λ ys. length (journal_bytes ys)) same.0) (subst (λ (l : List ℕ). EndsAt most (length (journal_bytes batches)) l bad) same.1 a.2) b.2)
          )
    ]
