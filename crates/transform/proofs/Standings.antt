-- A state stands for what is prepared, however that is listed.
use Rattle.std.proofs.Common.{◌≡◌, ℕ, nat_eq, List, map, sym, ap, ◌∙◌}
use Rattle.ew_model.specs.Tree.{Applied, tree_of, all_entries}
use Rattle.ew_model.specs.Records.{IsClosed, holds, records}
use Rattle.ew_model.proofs.StateLaws.{part_same}
use Rattle.advance_retreat.specs.Kept.{Kept}
use Rattle.advance_retreat.specs.Standing.{StandsFor, kept_record}

closed_alike : (events : List (Applied ℕ)) (prepared also : List ℕ) → ((n : ℕ) → holds prepared n ≡ holds also n) → IsClosed events prepared → IsClosed events also
closed_alike events prepared also same closed c m in_also n seen = sym (same n) ∙ closed c m (same c.name ∙ in_also) n seen

pub stands_alike : (s : Kept) (b : ℕ) (events : List (Applied ℕ)) (prepared also : List ℕ) → ((n : ℕ) → holds prepared n ≡ holds also n) → StandsFor s b events prepared → StandsFor s b events also
stands_alike s b events prepared also same st = record {
  run = st.run;
  closed = closed_alike events prepared also same st.closed;
  part = λ n h. st.part n (same n ∙ h);
  placed = st.placed;
  base = st.base;
  records = st.records ∙ ap (λ es. map (kept_record (tree_of nat_eq b events)) (records (all_entries b (tree_of nat_eq b events)) es)) (part_same b (tree_of nat_eq b events) prepared also same);
  children = st.children;
  targets = st.targets;
  short_base = st.short_base;
  short_history = st.short_history;
  short_text = st.short_text;
}
