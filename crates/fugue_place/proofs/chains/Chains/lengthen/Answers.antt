use Rattle.std.proofs.Common.{◌≡◌, ◌<◌, refl, arith}
use Rattle.std.proofs.lemmas.List.{get_or_read}
use Rattle.fugue_place.specs.Chains.{entry_at}
use Rattle.fugue_place.proofs.TableLaws.{end_led}
use Rattle.fugue_place.proofs.chains.Chains.lengthen.Goals as goal

pub returns-clause-chains : goal.returns-clause-chains
returns-clause-chains c =
    let s = c.args.self.now in
    let lone = c.requires.lone in
    let low : c.args.at < c.args.new = lone.early in
    let rows = lone.numbers in
    let is : c.index-chain.result.now ≡ entry_at s.numbers.items c.args.at = get_or_read s.numbers.items c.args.at c.index-chain.result.now (omega arith) c.index-chain.ensures c.args.at in
    end_led s c.args.at c.args.new lone c.requires.last _ refl refl refl c.index-chain.result.now is refl refl
