-- Runs under new labels that rise by steps.
use Rattle.std.proofs.Common.{◌≡◌, ℕ, zero, suc, ◌+◌, ◌*◌, ◌<◌, ◌≤◌, List, [], ◌∷◌, ◌++◌, length, take, drop, slice_set, slice_index_or, arith, refl, sym, ap, ◌∙◌, subst, append-nil, append_assoc, length-append, vec_capacity, nat_eq, if◌then◌else◌}
use Rattle.std.proofs.lemmas.List.{take_all, drop_all, drop_more, take_more_set, drop-set-lt, length-set}
use Rattle.std.proofs.lemmas.List.Concat.{flat_map-append}
use Rattle.std.proofs.lemmas.Grind.{drop_more_same}
use Rattle.ew_model.specs.declared.run.Run.{Ghosts}
use Rattle.std.specs.declared.vec.Vec.{Vec}
use Rattle.std.specs.declared.alloc.Global.{Global}
use Rattle.order_tree.specs.Pairs.{Tree, total, IsDepthOf}
use Rattle.order_tree.specs.Shape.{AllBelow}
use Rattle.order_tree.specs.declared.summary.Sums.{Sums}
use Rattle.order_tree.specs.declared.relabel.Reached.{Reached}
use Rattle.order_tree.specs.Parts.{all_pairs, first_or_zero, last_known, sums_of, summary_of}
use Rattle.order_tree.specs.declared.summary.Summary.{Summary}
use Rattle.order_tree.specs.Relabels.{relabelled, renamed, reached, IsOnward, IsRelabelling}
use Rattle.order_tree.proofs.PairLaws.{total-cons, last_known-append}
use Rattle.order_tree.proofs.PartLists.{parts_more, parts_at}

module _ {R : Type 0} (step : ℕ) where
  pub relabelled-append : (low : ℕ) (xs ys : List (ℕ × R)) → relabelled step low (xs ++ ys) ≡ relabelled step low xs ++ relabelled step (reached step low xs) ys
  relabelled-append low [] ys = refl
  relabelled-append low (x ∷ xs) ys = ap (λ (qs : List (ℕ × R)). (low + step, x.1) ∷ qs) (relabelled-append (low + step) xs ys)

  pub renamed-append : (low : ℕ) (xs ys : List (ℕ × R)) → renamed step low (xs ++ ys) ≡ renamed step low xs ++ renamed step (reached step low xs) ys
  renamed-append low [] ys = refl
  renamed-append low (x ∷ xs) ys = ap (λ (qs : List (ℕ × (ℕ × R))). (x.0, (low + step, x.1)) ∷ qs) (renamed-append (low + step) xs ys)

  pub reached-append : (low : ℕ) (xs ys : List (ℕ × R)) → reached step low (xs ++ ys) ≡ reached step (reached step low xs) ys
  reached-append low [] ys = refl
  reached-append low (x ∷ xs) ys = reached-append (low + step) xs ys

  pub reached-grows : (low : ℕ) (xs : List (ℕ × R)) → low ≤ reached step low xs
  reached-grows low [] = omega arith
  reached-grows low (x ∷ xs) = omega (arith, reached-grows (low + step) xs)

  pub length-relabelled : (low : ℕ) (xs : List (ℕ × R)) → length (relabelled step low xs) ≡ length xs
  length-relabelled low [] = refl
  length-relabelled low (x ∷ xs) = omega (arith, length-relabelled (low + step) xs)

  pub length-renamed : (low : ℕ) (xs : List (ℕ × R)) → length (renamed step low xs) ≡ length xs
  length-renamed low [] = refl
  length-renamed low (x ∷ xs) = omega (arith, length-renamed (low + step) xs)

  pub total-relabelled : (count : R → ℕ) (low : ℕ) (xs : List (ℕ × R)) → total count (relabelled step low xs) ≡ total count xs
  total-relabelled count low [] = refl
  total-relabelled count low (x ∷ xs) = total-cons count (low + step, x.1) (relabelled step (low + step) xs) ∙ ap (λ (n : ℕ). count x.1 + n) (total-relabelled count (low + step) xs) ∙ sym (total-cons count x xs)

  pub sums-relabelled : (G : Ghosts R) (low : ℕ) (xs : List (ℕ × R)) → sums_of G (relabelled step low xs) ≡ sums_of G xs
  sums-relabelled G low xs =
      let a : sums_of G (relabelled step low xs) ≡ record { known = total G.known xs; prepared = total G.prepared (relabelled step low xs); effect = total G.effect (relabelled step low xs) } =
      ap (λ (n : ℕ). let s : Sums = record { known = n; prepared = total G.prepared (relabelled step low xs); effect = total G.effect (relabelled step low xs) } in s) (total-relabelled G.known low xs) in
      let b : record { known = total G.known xs; prepared = total G.prepared (relabelled step low xs); effect = total G.effect (relabelled step low xs) } ≡ record { known = total G.known xs; prepared = total G.prepared xs; effect = total G.effect (relabelled step low xs) } =
      ap (λ (n : ℕ). let s : Sums = record { known = total G.known xs; prepared = n; effect = total G.effect (relabelled step low xs) } in s) (total-relabelled G.prepared low xs) in
      let c : record { known = total G.known xs; prepared = total G.prepared xs; effect = total G.effect (relabelled step low xs) } ≡ sums_of G xs =
      ap (λ (n : ℕ). let s : Sums = record { known = total G.known xs; prepared = total G.prepared xs; effect = n } in s) (total-relabelled G.effect low xs) in
      a ∙ b ∙ c

  -- what is reached on the way is at most what is reached at the end
  pub reached-part : (low bound : ℕ) (xs mid ys : List (ℕ × R)) → reached step low (xs ++ (mid ++ ys)) < bound → reached step (reached step low xs) mid < bound
  reached-part low bound xs mid ys lt =
      let all = reached-append low xs (mid ++ ys) ∙ reached-append (reached step low xs) mid ys in
      omega (arith, lt, all, reached-grows (reached step (reached step low xs) mid) ys)

-- a slice that is as long as the list stands for the whole
pub whole_back : {X : Type 0} (n : ℕ) (xs ys : List X) → length xs ≡ length ys → n ≡ length ys → take n (xs ++ drop (length xs) ys) ≡ xs
whole_back n xs ys same is =
    ap (λ (zs : List _). take n (xs ++ zs)) (drop_all (length xs) ys (omega (arith, same))) ∙ ap (take n) (append-nil xs) ∙ take_all n xs (omega (arith, same, is))

module _ {X : Type 0} (old now : List X) (k : ℕ) (x : X) where
  -- what is at the place is what was there
  same_there : k < length old → length now ≡ length old → drop k now ≡ drop k old → x ≡ slice_index_or now k x → x ≡ slice_index_or old k x
  same_there lt long rest is =
      let both : (slice_index_or now k x ∷ drop (k + 1) now) ≡ (slice_index_or old k x ∷ drop (k + 1) old) = sym (drop_more now k x (omega (arith, lt, long))) ∙ rest ∙ drop_more old k x lt in
      cc

module _ {R T : Type 0} (pairs : T → List (ℕ × R)) (known : R → ℕ) (step low : ℕ) (old now : List T) (noted given : List (ℕ × (ℕ × R))) (at : Reached) where
  module _ (k : ℕ) (part : T) (lt : k < length old) (is : part ≡ slice_index_or now k part) (h : IsOnward pairs known step low k old now noted given at) where
    was : part ≡ slice_index_or old k part
    was = same_there old now k part lt h.long h.rest is

    -- one part more
    pub onward : (new : T) (more : List (ℕ × (ℕ × R))) (own next : Reached) → pairs new ≡ relabelled step at.last (pairs part) → more ≡ given ++ renamed step at.last (pairs part) → own.last ≡ reached step at.last (pairs part)
        → own.last_known ≡ last_known known (pairs new) → next.last ≡ own.last → next.last_known ≡ (if nat_eq own.last_known 0 then at.last_known else own.last_known) → IsOnward pairs known step low (k + 1) old (slice_set now k new) noted more next
    onward new more own next there notes end found same later =
        let front = all_pairs pairs (take k old) in
        let longer : all_pairs pairs (take (k + 1) old) ≡ front ++ pairs part = parts_more pairs old k part lt was in
        let at_front : reached step low front ≡ at.last = sym h.last_is in
        let taken : all_pairs pairs (take (k + 1) (slice_set now k new)) ≡ all_pairs pairs (take k now) ++ pairs new =
        ap (all_pairs pairs) (take_more_set now k new (omega (arith, lt, h.long))) ∙ flat_map-append pairs (take k now) (new ∷ []) ∙ ap (λ (xs : List (ℕ × R)). all_pairs pairs (take k now) ++ xs) (append-nil (pairs new)) in
        record {
          long = length-set now k new ∙ h.long;
          front = taken ∙ ap (λ (xs : List (ℕ × R)). xs ++ pairs new) h.front ∙ ap (λ (xs : List (ℕ × R)). relabelled step low front ++ xs) (there ∙ ap (λ (n : ℕ). relabelled step n (pairs part)) (sym at_front))
              ∙ sym (ap (relabelled step low) longer ∙ relabelled-append step low front (pairs part));
          rest = drop-set-lt (k + 1) now k new (omega arith) ∙ drop_more_same now old k h.rest;
          given_is = notes ∙ ap (λ (xs : List (ℕ × (ℕ × R))). xs ++ renamed step at.last (pairs part)) h.given_is ∙ append_assoc noted (renamed step low front) (renamed step at.last (pairs part))
              ∙ ap (λ (xs : List (ℕ × (ℕ × R))). noted ++ xs) (ap (λ (n : ℕ). renamed step low front ++ renamed step n (pairs part)) (sym at_front) ∙ sym (ap (renamed step low) longer ∙ renamed-append step low front (pairs part)));
          last_is = same ∙ end ∙ ap (λ (n : ℕ). reached step n (pairs part)) (sym at_front) ∙ sym (ap (reached step low) longer ∙ reached-append step low front (pairs part));
          known_is = later ∙ ap (λ (n : ℕ). if nat_eq n 0 then at.last_known else n) found ∙ ap (λ (m : ℕ). if nat_eq (last_known known (pairs new)) 0 then m else last_known known (pairs new)) h.known_is
              ∙ sym (ap (last_known known) taken ∙ last_known-append known (all_pairs pairs (take k now)) (pairs new));
        }

    -- its labels are below what all are below, and there is room to note them
    pub part_small : (bound : ℕ) → reached step low (all_pairs pairs old) < bound → reached step at.last (pairs part) < bound
    part_small bound less =
        let whole = parts_at pairs old k part lt was in
        let there : reached step (reached step low (all_pairs pairs (take k old))) (pairs part) < bound =
        reached-part step low bound (all_pairs pairs (take k old)) (pairs part) (all_pairs pairs (drop (k + 1) old)) (subst (λ (xs : List (ℕ × R)). reached step low xs < bound) whole less) in
        subst (λ (n : ℕ). reached step n (pairs part) < bound) (sym h.last_is) there

    pub part_room : (room : ℕ) → length noted + length (all_pairs pairs old) ≤ room → length given + length (pairs part) ≤ room
    part_room room le =
        omega (
          arith,
          le,
          ap length (parts_at pairs old k part lt was),
          length-append (all_pairs pairs (take k old)) (pairs part ++ all_pairs pairs (drop (k + 1) old)),
          length-append (pairs part) (all_pairs pairs (drop (k + 1) old)),
          ap length h.given_is,
          length-append noted (renamed step low (all_pairs pairs (take k old))),
          length-renamed step low (all_pairs pairs (take k old)),
        )

  -- none yet
  pub onward_none : now ≡ old → given ≡ noted → at.last ≡ low → at.last_known ≡ 0 → IsOnward pairs known step low 0 old now noted given at
  onward_none same none here found =
      record { long = ap length same; front = refl; rest = same; given_is = none ∙ sym (append-nil noted); last_is = here; known_is = found }

  module _ (k : ℕ) (h : IsOnward pairs known step low k old now noted given at) (all : length old ≤ k) where
    taken_old : take k old ≡ old
    taken_old = take_all k old all

    -- all
    pub onward_pairs : all_pairs pairs now ≡ relabelled step low (all_pairs pairs old)
    onward_pairs = ap (all_pairs pairs) (sym (take_all k now (omega (arith, h.long, all)))) ∙ h.front ∙ ap (λ (xs : List T). relabelled step low (all_pairs pairs xs)) taken_old

    pub onward_given : given ≡ noted ++ renamed step low (all_pairs pairs old)
    onward_given = h.given_is ∙ ap (λ (xs : List T). noted ++ renamed step low (all_pairs pairs xs)) taken_old

    pub onward_known : at.last_known ≡ last_known known (all_pairs pairs now)
    onward_known = h.known_is ∙ ap (λ (xs : List T). last_known known (all_pairs pairs xs)) (take_all k now (omega (arith, h.long, all)))

    pub onward_last : at.last ≡ reached step low (all_pairs pairs old)
    onward_last = h.last_is ∙ ap (λ (xs : List T). reached step low (all_pairs pairs xs)) taken_old

module _ {R : Type 0} where
  AllBelow-set : (d : ℕ) (ks : List (Tree R)) (k : ℕ) (kid w : Tree R) → AllBelow d ks → k < length ks → kid ≡ slice_index_or ks k kid → w.depth ≡ kid.depth → length w.pairs ≡ length kid.pairs → AllBelow d (slice_set ks k w)
  AllBelow-set d [] k kid w h lt is deep long = h
  AllBelow-set d (x ∷ xs) zero kid w h lt is deep long =
      let same : w.depth ≡ x.depth = deep ∙ ap (λ (t : Tree R). t.depth) is in
      let many : length w.pairs ≡ length x.pairs = long ∙ ap (λ (t : Tree R). length t.pairs) is in
      (ap (λ (n : ℕ). n + 1) same ∙ h.0, subst (λ (n : ℕ). IsDepthOf w.depth n) (sym many) (subst (λ (n : ℕ). IsDepthOf n (length x.pairs)) (sym same) h.1), h.2)
  AllBelow-set d (x ∷ xs) (suc k) kid w h lt is deep long = (h.0, h.1, AllBelow-set d xs k kid w h.2 (omega (arith, lt)) is deep long)

  pub relabelling_none : (known : R → ℕ) (step low : ℕ) (old now : List (Tree R)) (noted : Vec (ℕ × (ℕ × R)) Global) (at : Reached) (visits : ℕ) → now ≡ old → at.last ≡ low → at.last_known ≡ 0 → IsRelabelling known step low 0 old now noted noted at visits visits
  relabelling_none known step low old now noted at visits same here found =
      record {
        onward = onward_none (λ (t : Tree R). t.pairs) known step low old now noted.items noted.items at same refl here found;
        below = λ d h. subst (λ (ks : List (Tree R)). AllBelow d ks) (sym same) h;
        capacity = omega arith;
        some = omega arith;
        cost = omega arith;
      }

  module _ (known : R → ℕ) (step low k : ℕ) (old now : List (Tree R)) (noted given : Vec (ℕ × (ℕ × R)) Global) (at : Reached) (before visits : ℕ) (kid : Tree R) (lt : k < length old) (is : kid ≡ slice_index_or now k kid)
      (h : IsRelabelling known step low k old now noted given at before visits) where
    pub relabelling_more : (w : Tree R) (more : Vec (ℕ × (ℕ × R)) Global) (own next : Reached) (after : ℕ) → w.pairs ≡ relabelled step at.last kid.pairs → w.depth ≡ kid.depth → more.items ≡ given.items ++ renamed step at.last kid.pairs
        → vec_capacity given ≤ vec_capacity more → own.last ≡ reached step at.last kid.pairs → own.last_known ≡ last_known known w.pairs → next.last ≡ own.last → next.last_known ≡ (if nat_eq own.last_known 0 then at.last_known else own.last_known)
        → length kid.pairs + 16 * visits ≤ 16 * after → after + 1 ≤ visits + 2 * length kid.pairs → IsRelabelling known step low (k + 1) old (slice_set now k w) noted more next before after
    relabelling_more w more own next after pairs deep notes room end found same later grows cost =
        let there : kid ≡ slice_index_or old k kid = same_there old now k kid lt h.onward.long h.onward.rest is in
        let longer = ap length (parts_more (λ (t : Tree R). t.pairs) old k kid lt there) ∙ length-append (all_pairs (λ (t : Tree R). t.pairs) (take k old)) kid.pairs in
        record {
          onward = onward (λ (t : Tree R). t.pairs) known step low old now noted.items given.items at k kid lt is h.onward w more.items own next pairs notes end found same later;
          below = λ d all. AllBelow-set d now k kid w (h.below d all) (omega (arith, lt, h.onward.long)) is deep (ap length pairs ∙ length-relabelled step at.last kid.pairs);
          capacity = omega (arith, h.capacity, room);
          some = omega (arith, h.some, grows, longer);
          cost = omega (arith, h.cost, cost, longer);
        }

  first_new : (step low : ℕ) (ps : List (ℕ × R)) → 0 < length ps → low + step ≡ first_or_zero (relabelled step low ps)
  first_new step low [] some = absurd (omega (arith, some))
  first_new step low (p ∷ ps) some = refl

  -- what is kept of runs under new labels
  pub kept_after : (G : Ghosts R) (step low : ℕ) (old new : List (ℕ × R)) (s : Summary) → 0 < length old → new ≡ relabelled step low old → s.first ≡ low + step → s.last_known ≡ last_known G.known new → s.sums ≡ sums_of G old → s ≡ summary_of G new
  kept_after G step low old new s some is first found sums =
      let a : s ≡ record { first = first_or_zero new; last_known = s.last_known; sums = s.sums } = ap (λ (n : ℕ). let u : Summary = record { first = n; last_known = s.last_known; sums = s.sums } in u) (first ∙ first_new step low old some ∙ ap first_or_zero (sym is)) in
      let b : record { first = first_or_zero new; last_known = s.last_known; sums = s.sums } ≡ record { first = first_or_zero new; last_known = last_known G.known new; sums = s.sums } = ap (λ (n : ℕ). let u : Summary = record { first = first_or_zero new; last_known = n; sums = s.sums } in u) found in
      let c : record { first = first_or_zero new; last_known = last_known G.known new; sums = s.sums } ≡ summary_of G new =
      ap (λ (t : Sums). let u : Summary = record { first = first_or_zero new; last_known = last_known G.known new; sums = t } in u) (sums ∙ sym (sums-relabelled step G low old) ∙ ap (λ (ps : List (ℕ × R)). sums_of G ps) (sym is)) in
      a ∙ b ∙ c

  -- the first new label is among those reached
  pub first_small : (step low bound : ℕ) (ps : List (ℕ × R)) → 0 < length ps → reached step low ps < bound → low + step < bound
  first_small step low bound [] some lt = absurd (omega (arith, some))
  first_small step low bound (p ∷ ps) some lt = omega (arith, lt, reached-grows step (low + step) ps)
