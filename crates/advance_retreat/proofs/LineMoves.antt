-- What advances and retreats of a part of a line leave, whose characters are changed at once.
use Rattle.std.proofs.Common.{◌≡◌, ℕ, ◌+◌, ◌-◌, ◌<◌, ◌≤◌, List, reverse, subst, arith}
use Rattle.std.specs.List.{range_with_len}
use Rattle.ew_model.specs.Tree.{Applied}
use Rattle.character_runs.specs.declared.change.Change.TheVariants.{Raise, Lower}
use Rattle.character_runs.specs.declared.change.Kind.{Kind}
use Rattle.character_runs.specs.declared.change.Positions.{Positions}
use Rattle.character_runs.specs.Replacing.{ArePart}
use Rattle.advance_retreat.specs.declared.line.Line.{Line}
use Rattle.advance_retreat.specs.declared.line.Way.{Way}
use Rattle.advance_retreat.specs.declared.line.Way.TheVariants.{Up, Down}
use Rattle.advance_retreat.specs.Conditions.{MayAdvanceEach, MayRetreatEach, Advanced, Retreated}
use Rattle.advance_retreat.specs.Kept.{Kept}
use Rattle.advance_retreat.specs.Lines.{AreAbout, IsLineFrom, AreOf}
use Rattle.advance_retreat.specs.Standing.{StandsFor}
use Rattle.advance_retreat.proofs.SpanMoves.{GoUp, GoDown, changed_span, advance_front_up, advance_front_down, retreat_back_up, retreat_back_down}

-- a part of the characters has no more than all
pub part_few : (way : Way) (character count : ℕ) (whole part : Positions) → AreOf way character count whole → ArePart character part whole → (part.from < part.to) × (part.to - part.from ≤ count)
part_few Up character count whole part of p = let a = of.0 in let z = of.1 in let f = p.first in let l = p.last in let lo = p.low in let hi = p.high in (omega (arith, lo, hi), omega (arith, a, z, f, l, lo, hi))
part_few Down character count whole part of p = let a = of.0 in let z = of.1 in let f = p.first in let l = p.last in let lo = p.low in let hi = p.high in (omega (arith, lo, hi), omega (arith, a, z, f, l, lo, hi))

module _ (b : ℕ) (events : List (Applied ℕ)) (s : Kept) (prepared : List ℕ) (low high : ℕ) (st : StandsFor s b events prepared) (whole part : Positions) where
  abbrev n : ℕ
  n = part.to - part.from

  abbrev Raised : Kind → Type 0
  Raised kind = Advanced (changed_span s kind part.from part.to Raise) b events prepared (range_with_len low (high - low)) (range_with_len (low + n) (high - (low + n)))

  raised : (kind : Kind) (way : Way) (character count : ℕ) → AreAbout Up s.targets low way kind character count → count ≤ high - low → AreOf way character count whole → ArePart character part whole → MayAdvanceEach events prepared (range_with_len low (high - low)) → low < high → Raised kind
  raised kind Up character count told few of p may some =
      let most = part_few Up character count whole part of p in
      let filled = most.0 in
      let within = most.1 in
      let a = of.0 in
      let f = p.first in
      let lo = p.low in
      let is : part.from ≡ character = omega (arith, a, f, lo) in
      let go : GoUp s kind low part.from n = λ i m k lt e g. told i m k (omega (arith, lt, within)) e (omega (arith, g, is)) in
      let on : part.from + n ≡ part.to = omega (arith, filled) in
      subst (λ (k : ℕ). Advanced (changed_span s kind part.from k Raise) b events prepared (range_with_len low (high - low)) (range_with_len (low + n) (high - (low + n)))) on
      (advance_front_up b events kind s prepared low n high part.from (omega (arith, within, few, some)) st go may)
  raised kind Down character count told few of p may some =
      let most = part_few Down character count whole part of p in
      let filled = most.0 in
      let within = most.1 in
      let z = of.1 in
      let l = p.last in
      let hi = p.high in
      let is : part.to ≡ character + 1 = omega (arith, z, l, hi) in
      let go : GoDown s kind low part.from n = λ i m k lt e g. told i m k (omega (arith, lt, within)) e (omega (arith, g, is, filled)) in
      let on : part.from + n ≡ part.to = omega (arith, filled) in
      subst (λ (k : ℕ). Advanced (changed_span s kind part.from k Raise) b events prepared (range_with_len low (high - low)) (range_with_len (low + n) (high - (low + n)))) on
      (advance_front_down b events kind s prepared low n high part.from (omega (arith, within, few, some)) st go may)

  pub line_raised : (line : Line) → IsLineFrom Up s.targets low (high - low) line → AreOf line.way line.character line.count whole → ArePart line.character part whole → MayAdvanceEach events prepared (range_with_len low (high - low)) → low < high → Raised line.kind
  line_raised line from of p may some =
      let most = part_few line.way line.character line.count whole part of p in
      let one = most.0 in
      let few = most.1 in
      let filled : 0 < line.count = omega (arith, one, few) in
      raised line.kind line.way line.character line.count (subst (λ (k : ℕ). AreAbout Up s.targets k line.way line.kind line.character line.count) (from.begins filled) from.told) from.few of p may some

  abbrev Lowered : Kind → Type 0
  Lowered kind = Retreated (changed_span s kind part.from part.to Lower) b events prepared (reverse (range_with_len low (high - low))) (reverse (range_with_len low ((high - n) - low)))

  lowered : (kind : Kind) (way : Way) (character count : ℕ) → AreAbout Down s.targets (high - 1) way kind character count → count ≤ high - low → AreOf way character count whole → ArePart character part whole → MayRetreatEach events prepared (reverse (range_with_len low (high - low))) → low < high → Lowered kind
  lowered kind Up character count told few of p may some =
      let most = part_few Up character count whole part of p in
      let filled = most.0 in
      let within = most.1 in
      let a = of.0 in
      let f = p.first in
      let lo = p.low in
      let is : part.from ≡ character = omega (arith, a, f, lo) in
      let back : (high - n) + n ≡ high = omega (arith, within, few, some) in
      let go : GoDown s kind (high - n) part.from n = λ i m k lt e g. told (n - 1 - i) m k (omega (arith, lt, within)) (omega (arith, lt, e, back)) (omega (arith, lt, g, is)) in
      let on : part.from + n ≡ part.to = omega (arith, filled) in
      subst (λ (k : ℕ). Retreated (changed_span s kind part.from k Lower) b events prepared (reverse (range_with_len low (high - low))) (reverse (range_with_len low ((high - n) - low)))) on
      (retreat_back_down b events kind s prepared low (high - n) n high part.from (omega (arith, within, few, some)) back st go may)
  lowered kind Down character count told few of p may some =
      let most = part_few Down character count whole part of p in
      let filled = most.0 in
      let within = most.1 in
      let z = of.1 in
      let l = p.last in
      let hi = p.high in
      let is : part.to ≡ character + 1 = omega (arith, z, l, hi) in
      let back : (high - n) + n ≡ high = omega (arith, within, few, some) in
      let go : GoUp s kind (high - n) part.from n = λ i m k lt e g. told (n - 1 - i) m k (omega (arith, lt, within)) (omega (arith, lt, e, back)) (omega (arith, lt, g, is, filled)) in
      let on : part.from + n ≡ part.to = omega (arith, filled) in
      subst (λ (k : ℕ). Retreated (changed_span s kind part.from k Lower) b events prepared (reverse (range_with_len low (high - low))) (reverse (range_with_len low ((high - n) - low)))) on
      (retreat_back_up b events kind s prepared low (high - n) n high part.from (omega (arith, within, few, some)) back st go may)

  pub line_lowered : (line : Line) → IsLineFrom Down s.targets (high - 1) (high - low) line → AreOf line.way line.character line.count whole → ArePart line.character part whole → MayRetreatEach events prepared (reverse (range_with_len low (high - low))) → low < high → Lowered line.kind
  line_lowered line from of p may some =
      let most = part_few line.way line.character line.count whole part of p in
      let one = most.0 in
      let few = most.1 in
      let filled : 0 < line.count = omega (arith, one, few) in
      lowered line.kind line.way line.character line.count (subst (λ (k : ℕ). AreAbout Down s.targets k line.way line.kind line.character line.count) (from.begins filled) from.told) from.few of p may some
