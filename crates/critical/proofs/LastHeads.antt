-- The heads of a history in which the cut before the last event is critical.
use Rattle.std.proofs.Common.{◌≡◌, ℕ, suc, ◌<◌, ◌≤◌, true, not, inl, ⊎_elim, nat_eq, nat_le, List, [], ◌∷◌, ◌++◌, length, map, filter, take, drop, refl, sym, ap, ◌∙◌, subst, arith}
use Rattle.std.specs.List.{list_all}
use Rattle.std.proofs.Math.Seq.{take-length, drop-length}
use Rattle.std.proofs.lemmas.Bool.{true≢false, and_parts}
use Rattle.std.proofs.lemmas.List.{get_or_append_left, get_or_push, length_push, take-append-le, drop-append-le}
use Rattle.std.proofs.lemmas.List.Elements.{recursion_from_All}
use Rattle.ew_model.specs.Sets.{Among}
use Rattle.ew_model.specs.Graph.{is_named, are_named, has_child, names_known, version_of}
use Rattle.ew_model.specs.Positions.{AreParents, IsHistoryOfParents, EventAt, events_from, frontier_of, is_cut_at}
use Rattle.ew_model.proofs.GraphVersions.{named_or_parent}
use Rattle.ew_model.proofs.ListTests.{any_from, passes}
use Rattle.ew_model.proofs.SetLaws.{among_map, among_filter, joined_left, joined_right}
use Rattle.ew_model.proofs.SortingLaws.{all_at}
use Rattle.ew_model.proofs.RisingLists.{number_among}
use Rattle.ew_model.proofs.PositionCuts.{last_cases}
use Rattle.ew_model.proofs.PositionEvents.{position_of, parents_of, events_push, length-events_from, position_there}
use Rattle.ew_model.proofs.PositionFrontier.{frontier_push, frontier_below}

module _ (before : List (List ℕ)) (parents : List ℕ) where
  abbrev last : EventAt
  last = record { position = length before; parents = parents }

  abbrev events : List EventAt
  events = events_from 0 before ++ last ∷ []

  -- what the last event knows has a child
  known_has_child : (x : ℕ) → is_named nat_eq (names_known position_of parents_of nat_eq events parents) x ≡ true → has_child position_of parents_of nat_eq events x ≡ true
  known_has_child x e =
      let known = number_among (names_known position_of parents_of nat_eq events parents) x e in
      let f = among_map position_of (version_of position_of parents_of nat_eq events parents) x known in
      ⊎_elim
      (λ named. any_from (λ (g : EventAt). is_named nat_eq g.parents x) events last (joined_right (events_from 0 before) (last ∷ []) last (inl refl)) (ap (is_named nat_eq parents) f.2 ∙ named))
      (λ child. ap (has_child position_of parents_of nat_eq events) f.2 ∙ child)
      (named_or_parent position_of parents_of nat_eq events parents f.0 f.1)

  knows_all : is_cut_at (before ++ parents ∷ []) (length before) ≡ true → (x : ℕ) → x < length before → is_named nat_eq (names_known position_of parents_of nat_eq events parents) x ≡ true
  unfolding is_cut_at
  knows_all cut x l =
      let n = length before in
      let all = events_from 0 (before ++ parents ∷ []) in
      let whole : all ≡ events = events_push before parents in
      let long = length-events_from 0 before in
      let short : n ≤ length (events_from 0 before) = omega (arith, long) in
      let behind : drop n events ≡ last ∷ [] = drop-append-le n (events_from 0 before) (last ∷ []) short ∙ ap (λ es. es ++ last ∷ []) (ap (λ k. drop k (events_from 0 before)) (sym long) ∙ drop-length (events_from 0 before)) in
      let front : take n events ≡ events_from 0 before = take-append-le n (events_from 0 before) (last ∷ []) short ∙ ap (λ k. take k (events_from 0 before)) (sym long) ∙ take-length (events_from 0 before) in
      let test = λ (es : List EventAt) (e : EventAt). are_named nat_eq (names_known position_of parents_of nat_eq es e.parents) (map position_of (take n es)) in
      let tested : list_all (test all) (drop n all) ≡ true = (and_parts (nat_le n (length all)) (list_all (test all) (drop n all)) cut).1 in
      let one : test events last ≡ true =
      passes (test events) (drop n events) last (subst (λ es. list_all (test es) (drop n es) ≡ true) whole tested) (subst (Among last) (sym behind) (inl refl)) in
      passes (is_named nat_eq (names_known position_of parents_of nat_eq events parents)) (map position_of (take n events)) x
      one
      (subst (λ es. Among x (map position_of es)) (sym front) (position_there 0 before x (omega arith) (omega (arith, l))))

pub one_head : (before : List (List ℕ)) (parents : List ℕ) → IsHistoryOfParents before → AreParents (length before) parents → is_cut_at (before ++ parents ∷ []) (length before) ≡ true
    → frontier_of (before ++ parents ∷ []) ≡ length before ∷ []
one_head before parents h p cut = pushed ∙ ap (λ xs. xs ++ length before ∷ []) (none older refl)
  where
    older : List ℕ
    older = filter (λ q. not (is_named nat_eq parents q)) (frontier_of before)

    pushed : frontier_of (before ++ parents ∷ []) ≡ older ++ length before ∷ []
    pushed = frontier_push before parents h p

    none : (xs : List ℕ) → older ≡ xs → xs ≡ []
    none [] e = refl
    none (x ∷ xs) e =
        let there : Among x older = subst (Among x) (sym e) (inl refl) in
        let old = (among_filter (λ q. not (is_named nat_eq parents q)) (frontier_of before) x there).0 in
        let low : x < length before = all_at (λ q. q < length before) (frontier_of before) x (recursion_from_All (λ q. q < length before) (frontier_of before) (frontier_below before)) old in
        let child = known_has_child before parents x (knows_all before parents cut x low) in
        let head : Among x (frontier_of (before ++ parents ∷ [])) = subst (Among x) (sym pushed) (joined_left older (length before ∷ []) x there) in
        let childless = (among_filter (λ q. not (has_child position_of parents_of nat_eq (events_from 0 (before ++ parents ∷ [])) q)) (map position_of (events_from 0 (before ++ parents ∷ []))) x head).1 in
        absurd (true≢false (sym childless ∙ ap (λ es. not (has_child position_of parents_of nat_eq es x)) (events_push before parents) ∙ ap not child))

-- THE ONLY HEAD is the last event, where the cut before it is critical.
pub last_is_head : (history : List (List ℕ)) (k : ℕ) → IsHistoryOfParents history → suc k ≡ length history → is_cut_at history k ≡ true → frontier_of history ≡ k ∷ []
last_is_head history k good long cut = ⊎_elim (λ e. absurd (let none = ap length e in omega (arith, long, none))) (λ w. here w.0 w.1 w.2) (last_cases history)
  where
    here : (before : List (List ℕ)) (parents : List ℕ) → history ≡ before ++ parents ∷ [] → frontier_of history ≡ k ∷ []
    here before parents e =
        let pushed = length_push before parents in
        let n : length before ≡ k = let l = ap length e in omega (arith, l, long, pushed) in
        let all : IsHistoryOfParents (before ++ parents ∷ []) = subst IsHistoryOfParents e good in
        let first : IsHistoryOfParents before = λ j l. subst (AreParents j) (get_or_append_left before (parents ∷ []) [] j l) (all j (omega (arith, l, pushed))) in
        let last : AreParents (length before) parents = subst (AreParents (length before)) (get_or_push before parents [] (length before) refl) (all (length before) (omega (arith, pushed))) in
        let at : is_cut_at (before ++ parents ∷ []) (length before) ≡ true = ap (λ hs. is_cut_at hs (length before)) (sym e) ∙ ap (is_cut_at history) n ∙ cut in
        ap frontier_of e ∙ one_head before parents first last at ∙ ap (λ m. m ∷ []) n
