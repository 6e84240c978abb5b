use Rattle.std.proofs.Common.{◌≡◌, ◌∙◌, ◌<◌, [], ℕ, List, length, get_or, slice_range, slice_index_or, sym, ap, arith}
use Rattle.std.proofs.lemmas.Grind.{get_or_default_zero}
use Rattle.event_runs.specs.Pieces.{start_of}
use Rattle.event_runs.proofs.Cutting.{length-pieces, piece_at, start_before, end_within}
use Rattle.event_runs.proofs.lists.NumberLists.get.Goals as goal

pub start-start-requires : goal.start-start-requires
start-start-requires c =
    let long = ap length c.self.view_is in
    omega (arith, long, length-pieces 0 c.self.inside.ends.items c.self.inside.numbers.items, c.deref.ensures.len, c.self.inside.ends.ok.0)

pub index-end-requires : goal.index-end-requires
index-end-requires c =
    let long = ap length c.self.view_is in
    omega (arith, long, length-pieces 0 c.self.inside.ends.items c.self.inside.numbers.items, c.self.inside.ends.ok.0)

pub between-requires : goal.between-requires
between-requires c =
    let ends = c.self.inside.ends.items in
    let numbers = c.self.inside.numbers.items in
    let long = ap length c.self.view_is in
    let there : c.args.place < length ends = omega (arith, long, length-pieces 0 ends numbers, c.requires) in
    let end : c.index-end.result.now ≡ get_or ends c.args.place 0 = c.index-end.ensures ∙ get_or_default_zero ends c.args.place c.index-end.result.now there in
    let start : c.start-start.result ≡ start_of 0 ends c.args.place = c.start-start.ensures ∙ ap (λ es. start_of 0 es c.args.place) c.deref.ensures.value in
    record {
      order = omega (arith, start, end, start_before 0 ends (length numbers) c.args.place c.self.invariant there);
      within = let all = ap length c.deref-2.ensures.value in omega (arith, end, all, end_within 0 ends (length numbers) c.args.place c.self.invariant there);
    }

pub returns : goal.returns
returns c =
    let ends = c.self.inside.ends.items in
    let numbers = c.self.inside.numbers.items in
    let long = ap length c.self.view_is in
    let there : c.args.place < length ends = omega (arith, long, length-pieces 0 ends numbers, c.requires) in
    let end : c.index-end.result.now ≡ get_or ends c.args.place 0 = c.index-end.ensures ∙ get_or_default_zero ends c.args.place c.index-end.result.now there in
    let start : c.start-start.result ≡ start_of 0 ends c.args.place = c.start-start.ensures ∙ ap (λ es. start_of 0 es c.args.place) c.deref.ensures.value in
    c.between.ensures
    ∙ (λ i. slice_range (c.deref-2.ensures.value i) (start i) (end i))
    ∙ sym (piece_at 0 ends numbers c.args.place there)
    ∙ ap (λ (lists : List (List ℕ)). slice_index_or lists c.args.place []) c.self.view_is
