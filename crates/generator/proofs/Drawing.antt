-- Draws as the program makes them, and the edits that are drawn.
use Rattle.std.proofs.Common.{◌≡◌, ℕ, ◌+◌, ◌*◌, ◌%◌, ◌^◌, Bool, true, false, cond, not, ◌&&◌, ◌==◌, List, [], ◌∷◌, refl, sym, ap, ◌∙◌}
use Rattle.std.proofs.Math.Nat.{mod-add-mod}
use Rattle.std.proofs.lemmas.Bool.{and_from, eq-eqb, ne_eqb}
use Rattle.ew_model.specs.declared.event.Op.{Op}
use Rattle.ew_model.specs.declared.event.Op.TheVariants as op
use Rattle.ew_model.specs.declared.event.Event.{Event}
use Rattle.ew_model.specs.Edits.{events_of_edit, events_of_ops}
use Rattle.ew_model.specs.Edits.Edit.{Insert, Delete}
use Rattle.ew_model.proofs.EditEvents.{event_by}
use Rattle.peer_definitions.specs.Draws.{Drawn, draw_of, drawn_edit, letter, next_state}

pub wrapped : (x : ℕ) → ((x * 6364136223846793005) % 2 ^ 64 + 1442695040888963407) % 2 ^ 64 ≡ next_state x
unfolding next_state
wrapped x = mod-add-mod (x * 6364136223846793005) (2 ^ 64) 1442695040888963407

-- the two edits that may be drawn behind a state
abbrev pub removal : ℕ → ℕ → Drawn
removal d len = let e = next_state d in record { edit = Delete (draw_of e % len) 1; state = e }

abbrev pub addition : ℕ → ℕ → Drawn
addition d len =
    let e = next_state d in
    let c = next_state e in
    record { edit = Insert (draw_of e % (len + 1)) (letter (draw_of c) ∷ []); state = c }

-- the test between them
abbrev pub removes : ℕ → ℕ → Bool
removes d len = (draw_of d % 4 == 0) && not (len == 0)

pub drawn_by : (x len : ℕ) (b : Bool) → removes (next_state x) len ≡ b → drawn_edit x len ≡ cond b (removal (next_state x) len) (addition (next_state x) len)
unfolding drawn_edit
drawn_by x len b is = ap (λ t. cond t (removal (next_state x) len) (addition (next_state x) len)) is

-- a drawn edit makes one event
pub one_event : (held : List Event) (agent : List ℕ) (x len : ℕ) → (o : Op) × (events_of_edit held agent (drawn_edit x len).edit ≡ event_by held agent o ∷ [])
unfolding events_of_ops
one_event held agent x len = at (removes (next_state x) len) refl
  where
    made : Drawn → List Event
    made d = events_of_edit held agent d.edit

    at : (b : Bool) → removes (next_state x) len ≡ b → (o : Op) × (events_of_edit held agent (drawn_edit x len).edit ≡ event_by held agent o ∷ [])
    at true is = (op.Del (draw_of (next_state (next_state x)) % len), ap made (drawn_by x len true is))
    at false is = (op.Ins (draw_of (next_state (next_state x)) % (len + 1)) (letter (draw_of (next_state (next_state (next_state x))))), ap made (drawn_by x len false is))

-- a removal, with the numbers as they were drawn
pub removed : (x d e len n s t : ℕ) → n ≡ len → s ≡ next_state x → d ≡ draw_of (next_state x) → t ≡ next_state s → e ≡ draw_of (next_state s) → d % 4 ≡ 0 → (n ≡ 0 → ⊥)
    → drawn_edit x len ≡ record { edit = Delete (e % n) 1; state = t }
removed x d e len n s t long first drawn second placed quarter some =
    let at : e ≡ draw_of (next_state (next_state x)) = placed ∙ ap (λ y. draw_of (next_state y)) first in
    let test : ((d % 4 == 0) && not (n == 0)) ≡ true = and_from (d % 4 == 0) (not (n == 0)) (eq-eqb (d % 4) 0 quarter) (ap not (ne_eqb n 0 some)) in
    drawn_by x len true ((λ i. (sym drawn i % 4 == 0) && not (sym long i == 0)) ∙ test)
    ∙ (λ i. record { edit = Delete (sym at i % sym long i) 1; state = sym (second ∙ ap next_state first) i })

-- an addition, likewise
pub added : (x d e c len n s t u : ℕ) → n ≡ len → s ≡ next_state x → d ≡ draw_of (next_state x) → t ≡ next_state s → e ≡ draw_of (next_state s) → u ≡ next_state t → c ≡ draw_of (next_state t)
    → ((d % 4 == 0) && not (n == 0)) ≡ false → drawn_edit x len ≡ record { edit = Insert (e % (n + 1)) (letter c ∷ []); state = u }
added x d e c len n s t u long first drawn second placed third lettered test =
    let behind : t ≡ next_state (next_state x) = second ∙ ap next_state first in
    let at : e ≡ draw_of (next_state (next_state x)) = placed ∙ ap (λ y. draw_of (next_state y)) first in
    let ch : c ≡ draw_of (next_state (next_state (next_state x))) = lettered ∙ ap (λ y. draw_of (next_state y)) behind in
    drawn_by x len false ((λ i. (sym drawn i % 4 == 0) && not (sym long i == 0)) ∙ test)
    ∙ (λ i. record { edit = Insert (sym at i % (sym long i + 1)) (letter (sym ch i) ∷ []); state = sym (third ∙ ap next_state behind) i })

-- the test fails where the text is empty, and where the draw isn't one of four
pub empty : (d n : ℕ) → n ≡ 0 → ((d % 4 == 0) && not (n == 0)) ≡ false
empty d n none = ap (λ b. (d % 4 == 0) && not b) (eq-eqb n 0 none) ∙ at (d % 4 == 0)
  where
    at : (b : Bool) → (b && false) ≡ false
    at true = refl
    at false = refl

pub no_quarter : (d n : ℕ) → (d % 4 ≡ 0 → ⊥) → ((d % 4 == 0) && not (n == 0)) ≡ false
no_quarter d n other = ap (λ b. b && not (n == 0)) (ne_eqb (d % 4) 0 other)
