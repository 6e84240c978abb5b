use Rattle.std.proofs.Common.{◌≡◌, ℕ, ◌<◌, length, Option, Some, sym, ap, ◌∙◌, arith}
use Rattle.std.proofs.lemmas.List.{get_or_read}
use Rattle.fugue_place.specs.Ways.{head_at, link_at, led_to, next_in_run}
use Rattle.fugue_place.proofs.ways.Ways.follower.Goals as goal

pub index-requires : goal.index-requires
index-requires c =
    let w = c.args.self.now in
    let kept = c.requires.ways in
    let known = (kept.links c.args.at c.in-Some.head (sym c.link.ensures ∙ c.in-Some.is)).known in
    omega (arith, known, w.heads.ok.0)

pub returns-in-Some : goal.returns-in-Some
returns-in-Some c =
    let w = c.args.self.now in
    let kept = c.requires.ways in
    let is : link_at w c.args.at ≡ Some c.in-Some.head = sym c.link.ensures ∙ c.in-Some.is in
    let low : c.in-Some.head < length w.heads.items = (kept.links c.args.at c.in-Some.head is).known in
    ap (λ (x : ℕ). Some x) (get_or_read w.heads.items c.in-Some.head c.index.result.now low c.index.ensures 0)
    ∙ sym (ap (λ (o : Option ℕ). led_to (head_at w) o (next_in_run w c.args.at)) is)

pub returns-in-None : goal.returns-in-None
returns-in-None c =
    let w = c.args.self.now in
    c.next_in_run.ensures ∙ sym (ap (λ (o : Option ℕ). led_to (head_at w) o (next_in_run w c.args.at)) (sym c.link.ensures ∙ c.in-None.is))
