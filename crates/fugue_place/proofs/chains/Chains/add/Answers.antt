use Rattle.std.proofs.Common.{◌≡◌, ℕ, ◌<◌, Option, Some, refl, sym, ◌∙◌, subst}
use Rattle.std.specs.Option.{IfSome}
use Rattle.std.specs.Vec.{with_item}
use Rattle.fugue_place.specs.Chains.{follower, IsLedBy}
use Rattle.fugue_place.proofs.TableLaws.{put_alone, put_behind, led_behind}
use Rattle.fugue_place.proofs.chains.Chains.add.Goals as goal

pub lead-requires : goal.lead-requires
lead-requires c =
    let s = c.args.self.now in
    let same = c.fill.ensures.same in
    let found : c.args.behind ≡ Some c.in-Some.at = sym c.narrow.ensures ∙ c.in-Some.is in
    let low : c.in-Some.at < s.count = subst (λ (o : Option ℕ). IfSome o (λ k. k < s.count)) found c.requires.behind in
    put_behind s c.requires.chains s.count refl c.in-Some.at low c.fill.new.self c.fill.ensures.aligned same.count c.fill.ensures.full same.outer same.inner same.numbers same.ends _ refl refl refl refl refl

pub returns-in-Some-clause-count : goal.returns-in-Some-clause-count
returns-in-Some-clause-count c = c.lead.ensures.count ∙ c.fill.ensures.same.count

pub returns-in-Some-clause-led : goal.returns-in-Some-clause-led
returns-in-Some-clause-led c =
    let s = c.args.self.now in
    let same = c.fill.ensures.same in
    let found : c.args.behind ≡ Some c.in-Some.at = sym c.narrow.ensures ∙ c.in-Some.is in
    let low : c.in-Some.at < s.count = subst (λ (o : Option ℕ). IfSome o (λ k. k < s.count)) found c.requires.behind in
    subst (λ (o : Option ℕ). IsLedBy s.count (follower s.outer.items) o (follower c.lead.new.self.outer.items)) (sym found)
    (led_behind s c.requires.chains s.count refl c.in-Some.at low c.fill.new.self c.fill.ensures.aligned same.count c.fill.ensures.full same.outer same.inner same.numbers same.ends (record {
      count = c.fill.new.self.count;
      outer = c.fill.new.self.outer;
      inner = with_item c.fill.new.self.inner s.count c.in-Some.at;
      numbers = c.fill.new.self.numbers;
      ends = c.fill.new.self.ends;
    }) refl refl refl refl refl c.lead.new.self c.lead.ensures.outer)

pub returns-in_default-clause-chains : goal.returns-in_default-clause-chains
returns-in_default-clause-chains c = put_alone c.args.self.now c.requires.chains c.args.self.now.count refl _ refl refl refl refl refl
