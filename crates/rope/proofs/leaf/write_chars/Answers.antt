use Rattle.std.proofs.Common.{◌≡◌, ℕ, ◌+◌, ◌++◌, ◌∷◌, [], ◌∙◌, take, append_assoc, ap, sym}
use Rattle.std.proofs.lemmas.List.{take_more}
use Rattle.std.proofs.lemmas.Str.{encodes-append}
use Rattle.rope.proofs.leaf.write_chars.Goals as goal

-- one more character is written behind those before it
pub loop-ch-preserved : goal.loop-ch-preserved
loop-ch-preserved c =
    let chars = c.args.chars.now in
    let i = c.loop-ch.ch-index in
    let ch = c.ch-item.result in
    let step : take (i + 1) chars ≡ take i chars ++ ch ∷ [] = take_more chars i ch c.loop-ch-test.true ∙ ap (λ (x : ℕ). take i chars ++ x ∷ []) (sym c.ch-item.is) in (
      rw (c.in_default.ensures.ok, c.loop-ch.invariant.0, step, encodes-append (take i chars) (ch ∷ [])) (simp append_assoc),
      c.loop-ch.invariant.1,
    )
