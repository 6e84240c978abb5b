use Rattle.std.proofs.Common.{rules, nat_lt}
use Rattle.std.proofs.lemmas.Fn.{filter_same}
use Rattle.critical.proofs.list.leave_below.Goals as goal

pub returns : goal.returns
returns c = filter_same _ (λ k. nat_lt k c.args.limit) _ (λ x b f' k. search rules) c.args.numbers.now.items c.retain.new.self.items c.retain.ensures.filtered
