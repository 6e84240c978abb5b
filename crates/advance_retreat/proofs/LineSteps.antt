-- Steps along a line, and what is left of it behind its first events.
use Rattle.std.proofs.Common.{◌≡◌, ℕ, ◌+◌, ◌-◌, ◌<◌, List, subst, arith}
use Rattle.advance_retreat.specs.declared.line.Line.{Line}
use Rattle.advance_retreat.specs.declared.line.Way.{Way}
use Rattle.advance_retreat.specs.declared.line.Way.TheVariants.{Up, Down}
use Rattle.advance_retreat.specs.declared.target.Target.{Target}
use Rattle.advance_retreat.specs.Lines.{IsAway, IsLineFrom}

-- so many steps, and some more
away_on : (way : Way) (n steps m more k : ℕ) → IsAway way n steps m → IsAway way m more k → IsAway way n (steps + more) k
away_on Up n steps m more k a e = omega (arith, a, e)
away_on Down n steps m more k a e = omega (arith, a, e)

-- one position is so many steps away
pub away_one : (way : Way) (n steps m k : ℕ) → IsAway way n steps m → IsAway way n steps k → m ≡ k
away_one Up n steps m k a e = omega (arith, a, e)
away_one Down n steps m k a e = omega (arith, a, e)

-- the rest of a line
pub left_behind : (order : Way) (targets : List Target) (line : Line) (first most left next event character passed : ℕ) → IsLineFrom order targets first most line → (0 < left → IsAway order first passed next) → most ≡ left + passed → passed < line.count
    → IsAway order line.event passed event → IsAway line.way line.character passed character
    → IsLineFrom order targets next left (record { event = event; way = line.way; kind = line.kind; character = character; count = line.count - passed })
left_behind order targets line first most left next event character passed from away parts lt a c =
    let few = from.few in
    let some : 0 < line.count = omega (arith, lt) in
    let own : IsAway order first passed event = subst (λ (k : ℕ). IsAway order k passed event) (from.begins some) a in
    record {
      told = λ i n m l e f. from.told (passed + i) n m (omega (arith, l)) (away_on order line.event passed event i n a e) (away_on line.way line.character passed character i m c f);
      begins = λ filled. away_one order first passed event next own (away (omega (arith, few, parts, lt)));
      few = omega (arith, few, parts, lt);
    }
