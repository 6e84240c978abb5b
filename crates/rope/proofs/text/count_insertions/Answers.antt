use Rattle.std.proofs.Common.{◌≡◌, sym, ◌∙◌, rules, count_by}
use Rattle.rope.specs.Changes.{is_insertion}
use Rattle.rope.proofs.ShortTexts.{room_for_all-counted}
use Rattle.rope.proofs.text.count_insertions.Goals as goal

pub returns : goal.returns
returns c =
    let found : c.count.result ≡ count_by is_insertion c.args.ops.now = search rules in
    found ∙ sym (room_for_all-counted c.args.ops.now)
