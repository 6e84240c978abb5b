-- A name and five counts behind what was printed are one line.
use Rattle.std.proofs.Common.{◌≡◌, ℕ, List, [], ◌∷◌, ◌++◌, sym, ap, ◌∙◌, append_assoc, append-nil}
use Rattle.peer_definitions.specs.Machine.{printed_line}

-- a word and a number, and what stands behind them
counted : (x word number rest : List ℕ) → (x ++ 32 ∷ (word ++ 32 ∷ number)) ++ rest ≡ x ++ 32 ∷ (word ++ 32 ∷ (number ++ rest))
counted x word number rest = append_assoc x (32 ∷ (word ++ 32 ∷ number)) rest ∙ ap (λ z. x ++ 32 ∷ z) (append_assoc word (32 ∷ number) rest)

module _ (out name u a v b w c x d y e : List ℕ) where
  abbrev end : List ℕ
  end = 10 ∷ []

  abbrev last : List ℕ
  last = 32 ∷ (y ++ 32 ∷ (e ++ end))

  abbrev fourth : List ℕ
  fourth = 32 ∷ (x ++ 32 ∷ (d ++ last))

  abbrev third : List ℕ
  third = 32 ∷ (w ++ 32 ∷ (c ++ fourth))

  abbrev second : List ℕ
  second = 32 ∷ (v ++ 32 ∷ (b ++ third))

  abbrev one : List ℕ
  one = (out ++ name) ++ 32 ∷ (u ++ 32 ∷ a)

  abbrev two : List ℕ
  two = one ++ 32 ∷ (v ++ 32 ∷ b)

  abbrev three : List ℕ
  three = two ++ 32 ∷ (w ++ 32 ∷ c)

  abbrev four : List ℕ
  four = three ++ 32 ∷ (x ++ 32 ∷ d)

  at_once : printed_line (name ∷ u ∷ a ∷ v ∷ b ∷ w ∷ c ∷ x ∷ d ∷ y ∷ e ∷ []) ≡ name ++ 32 ∷ (u ++ 32 ∷ (a ++ second))
  at_once =
      counted name u (a ++ 32 ∷ (v ++ 32 ∷ (b ++ 32 ∷ (w ++ 32 ∷ (c ++ 32 ∷ (x ++ 32 ∷ (d ++ 32 ∷ (y ++ 32 ∷ (e ++ []))))))))) end
      ∙ ap (λ z. name ++ 32 ∷ (u ++ 32 ∷ z))
      (counted a v (b ++ 32 ∷ (w ++ 32 ∷ (c ++ 32 ∷ (x ++ 32 ∷ (d ++ 32 ∷ (y ++ 32 ∷ (e ++ []))))))) end
      ∙ ap (λ z. a ++ 32 ∷ (v ++ 32 ∷ z))
      (counted b w (c ++ 32 ∷ (x ++ 32 ∷ (d ++ 32 ∷ (y ++ 32 ∷ (e ++ []))))) end
      ∙ ap (λ z. b ++ 32 ∷ (w ++ 32 ∷ z)) (counted c x (d ++ 32 ∷ (y ++ 32 ∷ (e ++ []))) end
      ∙ ap (λ z. c ++ 32 ∷ (x ++ 32 ∷ z)) (counted d y (e ++ []) end ∙ ap (λ z. d ++ 32 ∷ (y ++ 32 ∷ (z ++ end))) (append-nil e)))))

  pub five_counts : (four ++ 32 ∷ (y ++ 32 ∷ e)) ++ 10 ∷ [] ≡ out ++ printed_line (name ∷ u ∷ a ∷ v ∷ b ∷ w ∷ c ∷ x ∷ d ∷ y ∷ e ∷ [])
  five_counts =
      counted four y e end ∙ counted three x d last ∙ counted two w c fourth ∙ counted one v b third ∙ counted (out ++ name) u a second
      ∙ append_assoc out name (32 ∷ (u ++ 32 ∷ (a ++ second))) ∙ ap (λ z. out ++ z) (sym at_once)
