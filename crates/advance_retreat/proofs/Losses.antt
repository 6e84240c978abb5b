-- What a state stands for, whatever was lost.
use Rattle.std.proofs.Common.{ℕ, List}
use Rattle.ew_model.specs.Tree.{Applied}
use Rattle.advance_retreat.specs.Kept.{Kept, with_lost}
use Rattle.advance_retreat.specs.Standing.{StandsFor}

pub still_stands : (s : Kept) (n b : ℕ) (events : List (Applied ℕ)) (prepared : List ℕ) → StandsFor s b events prepared → StandsFor (with_lost s n) b events prepared
still_stands s n b events prepared st = record {
  run = st.run;
  closed = st.closed;
  part = st.part;
  placed = st.placed;
  base = st.base;
  records = st.records;
  children = st.children;
  targets = st.targets;
  short_base = st.short_base;
  short_history = st.short_history;
  short_text = st.short_text;
}
