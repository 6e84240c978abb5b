-- More heirs of the newest child, in the last run.
use Rattle.std.proofs.Common.{◌≡◌, ℕ, zero, suc, ◌+◌, ◌-◌, ◌<◌, ◌^◌, List, [], ◌∷◌, ◌++◌, map, length, get_or, refl, sym, ap, ◌∙◌, arith}
use Rattle.std.specs.List.{range_with_len}
use Rattle.std.proofs.lemmas.List.{map-append}
use Rattle.ew_model.proofs.Ranges.{range_more}
use Rattle.ew_model.specs.declared.id.Id.{Id}
use Rattle.ew_model.specs.declared.node.Node.TheVariants.{Event}
use Rattle.fugue_place.specs.declared.child.Side.TheVariants.{Right}
use Rattle.fugue_place.specs.declared.child.Attached.{Attached}
use Rattle.fugue_place.specs.declared.children.Run.{Run}
use Rattle.fugue_place.specs.Heirs.{heir_on, heirs_on, HaveHeirs}
use Rattle.fugue_place.specs.Members.{child_of, children_of, AreRuns, IsLastRun, with_heirs}
use Rattle.fugue_place.proofs.RunLaws.{block, later_child, some_runs, newest_in, heirs_in}

-- one more heir
pub heirs_more : (x : Id) (position n : ℕ) → heirs_on x position (suc n) ≡ heirs_on x position n ++ heir_on x position n ∷ []
heirs_more x position n =
    let same : 0 + n ≡ n = omega arith in
    ap (map (heir_on x position)) (range_more 0 n) ∙ map-append (heir_on x position) (range_with_len 0 n) ((0 + n) ∷ []) ∙ ap (λ (k : ℕ). heirs_on x position n ++ heir_on x position k ∷ []) same

module _ (names : List (List ℕ)) (r : Run) (position : ℕ) (is : r.event + r.heirs ≡ position) where
  -- the next children of a run are heirs of its last one
  next_child : (n : ℕ) → child_of names r (suc r.heirs + n) ≡ heir_on (child_of names r r.heirs).id position n
  next_child n =
      let parent : r.event + (suc r.heirs + n) - 1 ≡ position + n = omega (arith, is) in
      let seq : r.seq + (suc r.heirs + n) ≡ r.seq + r.heirs + (n + 1) = omega arith in
      let event : r.event + (suc r.heirs + n) ≡ position + n + 1 = omega (arith, is) in
      later_child (get_or names r.agent []) r (suc r.heirs + n) (λ none. absurd (omega (arith, none)))
      ∙ (λ i. record { parent = Event (parent i); side = Right; id = record { agent = get_or names r.agent []; seq = seq i }; node = Event (event i) })

  next_children : (n : ℕ) → block names r (suc r.heirs) n ≡ heirs_on (child_of names r r.heirs).id position n
  next_children zero = refl
  next_children (suc n) =
      ap (map (child_of names r)) (range_more (suc r.heirs) n)
      ∙ map-append (child_of names r) (range_with_len (suc r.heirs) n) ((suc r.heirs + n) ∷ [])
      ∙ (λ i. next_children n i ++ next_child n i ∷ [])
      ∙ sym (heirs_more (child_of names r r.heirs).id position n)

  -- so they are once it has more
  module _ (runs : List Run) (count n : ℕ) (are : AreRuns names 0 runs count) (last : IsLastRun runs r) (seqs : r.seq + r.heirs + n < 2 ^ 32) (events : position + n < 2 ^ 32) where
    made : (children_of names (with_heirs runs n) ≡ children_of names runs ++ block names r (suc r.heirs) n) × AreRuns names 0 (with_heirs runs n) (count + n)
    made = heirs_in names runs 0 count (length runs - 1) n r are (some_runs runs r last) last seqs (omega (arith, is, events))

    pub longer_runs : AreRuns names 0 (with_heirs runs n) (count + n)
    longer_runs = made.1

    pub longer_children : HaveHeirs (children_of names runs) (children_of names (with_heirs runs n)) position n
    longer_children = record {
      newest = child_of names r r.heirs;
      last = newest_in names runs count r are last;
      node = ap Event is;
      after = made.0 ∙ ap (λ (xs : List Attached). children_of names runs ++ xs) (next_children n);
    }
