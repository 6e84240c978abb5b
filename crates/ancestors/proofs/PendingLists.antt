-- The positions of a list that is in no order.
use Rattle.std.proofs.Common.{◌≡◌, ℕ, suc, ◌+◌, ◌<◌, ◌≤◌, Bool, true, false, cond, ◌&&◌, ◌||◌, nat_le, nat_eq, nat_cmp, Option, None, Some, List, [], ◌∷◌, length, All, IsPermutation, refl, sym, ap, ◌∙◌, arith}
use Rattle.std.specs.Borrow.{Bor}
use Rattle.std.specs.BinaryHeap.{IsHeap, IsUpperBound}
use Rattle.std.specs.Option.{option_copied, option_eq}
use Rattle.std.specs.Prelude.{IfSome, IfNone}
use Rattle.std.proofs.Math.Bool.{or-false}
use Rattle.std.proofs.lemmas.Bool.{false≢true, false_from_ne_true, eqb-true, eqb-false, or_left}
use Rattle.std.proofs.lemmas.Cmp.{nat_eq_equiv}
use Rattle.std.proofs.lemmas.List.Elements.{recursion_from_All}
use Rattle.std.proofs.lemmas.List.Sorted.{list_any-IsPermutation, length_permutation, le_from_greatest}
use Rattle.ew_model.specs.Graph.{is_named}
use Rattle.ew_model.specs.Positions.{parents_at}
use Rattle.ew_model.proofs.RisingLists.{number_among}
use Rattle.ew_model.proofs.SortingLaws.{all_at}
use Rattle.frontier.specs.Chains.{IsChain}

-- THE LIST WITH ONE MORE OR LESS

-- without n, which stood in it
pub without_one : (n : ℕ) (old mid : List ℕ) → IsPermutation old (n ∷ mid) → (q : ℕ) → is_named nat_eq old q ≡ (nat_eq q n || is_named nat_eq mid q)
without_one n old mid moved q = list_any-IsPermutation (nat_eq q) old (n ∷ mid) moved

-- with n
pub with_one : (n : ℕ) (old new : List ℕ) → IsPermutation (n ∷ old) new → (q : ℕ) → is_named nat_eq new q ≡ (is_named nat_eq old q || nat_eq q n)
with_one n old new moved q = sym (list_any-IsPermutation (nat_eq q) (n ∷ old) new moved) ∙ turned (nat_eq q n) (is_named nat_eq old q)
  where
    turned : (a b : Bool) → (a || b) ≡ (b || a)
    turned true true = refl
    turned true false = refl
    turned false true = refl
    turned false false = refl

-- one that is named is at most what all are at most
pub named_at_most : (n : ℕ) (ps : List ℕ) → All (λ q. q ≤ n) ps → (q : ℕ) → is_named nat_eq ps q ≡ true → q ≤ n
named_at_most n ps most q e = all_at (λ q. q ≤ n) ps q (recursion_from_All (λ q. q ≤ n) ps most) (number_among ps q e)

pub names_removed : (n : ℕ) (old mid : List ℕ) → IsPermutation old (n ∷ mid) → is_named nat_eq old n ≡ true
names_removed n old mid moved = without_one n old mid moved n ∙ or_left (nat_eq n n) (is_named nat_eq mid n) (nat_eq_equiv.refl n)

-- the highest of them is what the heap has first
pub highest_all : (first : Option (Bor ℕ)) (ps : List ℕ) → IfSome first (λ x. IsHeap nat_cmp ps → IsUpperBound nat_cmp x.now ps) → IsHeap nat_cmp ps → IfSome (option_copied first) (λ n. (q : ℕ) → is_named nat_eq ps q ≡ true → q ≤ n)
highest_all None ps most heap = tt
highest_all (Some x) ps most heap = λ q e. named_at_most x.now ps (le_from_greatest x.now ps (most heap)) q e

-- A POSITION IS STRUCK OUT

-- so far, where nothing was above it
pub record Striking (position : ℕ) (old now : List ℕ) (found : Bool) : Type 0 where
  pub same : found ≡ false → now ≡ old
  pub stood : found ≡ true → is_named nat_eq old position ≡ true
  pub others : (q : ℕ) → nat_eq position q ≡ false → is_named nat_eq now q ≡ is_named nat_eq old q

pub striking_starts : (position : ℕ) (old : List ℕ) → Striking position old old false
striking_starts position old = record { same = λ e. refl; stood = λ e. absurd (false≢true e); others = λ q e. refl }

module _ (position : ℕ) (old now : List ℕ) (found : Bool) (top : (q : ℕ) → is_named nat_eq old q ≡ true → q ≤ position) (h : Striking position old now found) where
  -- the highest, if that isn't below the position, is the position
  is_highest : (n : ℕ) → is_named nat_eq now n ≡ true → position ≤ n → n ≡ position
  is_highest n named order = at (nat_eq position n) refl
    where
      at : (b : Bool) → nat_eq position n ≡ b → n ≡ position
      at true e = sym (eqb-true position n e)
      at false e = let low = top n (sym (h.others n e) ∙ named) in omega (arith, order, low)

  stood_there : is_named nat_eq now position ≡ true → is_named nat_eq old position ≡ true
  stood_there named = at found refl
    where
      at : (b : Bool) → found ≡ b → is_named nat_eq old position ≡ true
      at true e = h.stood e
      at false e = ap (λ ps. is_named nat_eq ps position) (sym (h.same e)) ∙ named

  -- where it is the highest it stands there
  stands : (highest : Option ℕ) → option_eq nat_eq highest (Some position) ≡ true → IfSome highest (λ n. is_named nat_eq now n ≡ true) → is_named nat_eq now position ≡ true
  stands None e member = absurd (false≢true e)
  stands (Some n) e member = ap (is_named nat_eq now) (sym (eqb-true n position e)) ∙ member

  goes_by : (popped : Option ℕ) (new : List ℕ) → IfNone popped (now ≡ []) → IfSome popped (λ n. IsPermutation now (n ∷ new)) → IfSome popped (λ n. All (λ q. q ≤ n) now) → is_named nat_eq now position ≡ true
      → Striking position old new true × (length new < length now)
  goes_by None new none moved most named = absurd (false≢true (ap (λ ps. is_named nat_eq ps position) (sym none) ∙ named))
  goes_by (Some n) new none moved most named =
      let here : n ≡ position = is_highest n (names_removed n now new moved) (named_at_most n now most position named) in
      let long = length_permutation now (n ∷ new) moved in (
        record {
          same = λ e. absurd (false≢true (sym e));
          stood = λ e. stood_there named;
          others = λ q e. sym (without_one n now new moved q ∙ ap (λ b. b || is_named nat_eq new q) (ap (nat_eq q) here ∙ nat_eq_equiv.symm q position ∙ e)) ∙ h.others q e;
        },
        omega (arith, long),
      )

  pub striking_goes : (highest popped : Option ℕ) (new : List ℕ) → option_eq nat_eq highest (Some position) ≡ true → IfSome highest (λ n. is_named nat_eq now n ≡ true)
      → IfNone popped (now ≡ []) → IfSome popped (λ n. IsPermutation now (n ∷ new)) → IfSome popped (λ n. All (λ q. q ≤ n) now) → Striking position old new true × (length new < length now)
  striking_goes highest popped new e member none moved most = goes_by popped new none moved most (stands highest e member)

  -- where it isn't the highest it isn't there
  pub struck_out : (highest : Option ℕ) → option_eq nat_eq highest (Some position) ≡ false → IfNone highest ((q : ℕ) → is_named nat_eq now q ≡ false) → IfSome highest (λ n. is_named nat_eq now n ≡ true)
      → IfSome highest (λ n. (q : ℕ) → is_named nat_eq now q ≡ true → q ≤ n) → is_named nat_eq now position ≡ false
  struck_out None f none member greatest = none position
  struck_out (Some n) f none member greatest =
      false_from_ne_true (is_named nat_eq now position) (λ e. let ne = eqb-false n position f in ne (is_highest n member (greatest position e)))

  pub struck_was : is_named nat_eq now position ≡ false → found ≡ is_named nat_eq old position
  struck_was out = at found refl
    where
      at : (b : Bool) → found ≡ b → found ≡ is_named nat_eq old position
      at true e = e ∙ sym (h.stood e)
      at false e = e ∙ sym (ap (λ ps. is_named nat_eq ps position) (sym (h.same e)) ∙ out)

  pub struck_left : is_named nat_eq now position ≡ false → (q : ℕ) → is_named nat_eq now q ≡ cond (nat_eq position q) false (is_named nat_eq old q)
  struck_left out q = at (nat_eq position q) refl
    where
      at : (b : Bool) → nat_eq position q ≡ b → is_named nat_eq now q ≡ cond b false (is_named nat_eq old q)
      at true e = ap (is_named nat_eq now) (sym (eqb-true position q e)) ∙ out
      at false e = h.others q e

-- A CHAIN THAT IS CUT

-- the parents of the event behind the cut
cut_parents : (history : List (List ℕ)) (first other last : ℕ) → IsChain history first last → first ≤ other → other < last → parents_at history (other + 1) ≡ other ∷ []
cut_parents history first other last chain low high = let next : other + 1 ≡ suc other = omega arith in ap (parents_at history) next ∙ chain.links other low high

pub cut_names : (history : List (List ℕ)) (first other last : ℕ) → IsChain history first last → first ≤ other → other < last → (q : ℕ) → nat_eq q other ≡ is_named nat_eq (parents_at history (other + 1)) q
cut_names history first other last chain low high q = sym (ap (λ ps. is_named nat_eq ps q) (cut_parents history first other last chain low high) ∙ or-false (nat_eq q other))

-- they are there already
pub cut_puts : (history : List (List ℕ)) (floor first other last : ℕ) (old : ℕ → Bool) → IsChain history first last → first ≤ other → other < last → old other ≡ true
    → (q : ℕ) → old q ≡ (old q || (nat_le floor q && is_named nat_eq (parents_at history (other + 1)) q))
cut_puts history floor first other last old chain low high there q =
    at (nat_eq q other) refl (old q) refl (nat_le floor q)
    ∙ ap (λ ps. old q || (nat_le floor q && is_named nat_eq ps q)) (sym (cut_parents history first other last chain low high))
  where
    at : (e : Bool) → nat_eq q other ≡ e → (a : Bool) → old q ≡ a → (b : Bool) → a ≡ (a || (b && (e || false)))
    at e f true g b = refl
    at true f false g b = absurd (false≢true (sym g ∙ ap old (eqb-true q other f) ∙ there))
    at false f false g true = refl
    at false f false g false = refl
