use Rattle.std.proofs.Common.{refl}
use Rattle.fugue_place.proofs.TableLaws.{inner_moved}
use Rattle.fugue_place.proofs.chains.Chains.move_inner_part.Goals as goal

pub returns-clause-chains : goal.returns-clause-chains
returns-clause-chains c =
    inner_moved c.args.self.now c.args.at c.args.new c.requires c.renumber_inner_part.new.self c.renumber_inner_part.ensures.same _ refl refl refl c.renumber_inner_part.ensures.numbers refl refl
