-- The law of ancestors: over two good histories in which an event's ancestors are the same, it is judged alike.
use Rattle.std.proofs.Common.{◌≡◌, ℕ, zero, suc, nat_lt, Bool, true, false, not, ◌&&◌, ◌||◌, ◌⊎◌, inl, inr, ⊎_elim, List, [], ◌∷◌, find, length, option_map, refl, sym, ap, ◌∙◌, subst}
use Rattle.std.specs.List.{list_all}
use Rattle.std.specs.Bool.{then_some}
use Rattle.std.specs.Cmp.{eq_by_cmp_equiv, IsEquivalence}
use Rattle.std.proofs.lemmas.Map.Steps.{list_any_congr}
use Rattle.ew_model.specs.declared.id.Id.{Id}
use Rattle.ew_model.specs.declared.event.Event.{Event}
use Rattle.ew_model.specs.Sets.{Among, SameElements}
use Rattle.ew_model.specs.Ids.{id_eq, is_among, ids_ascend}
use Rattle.ew_model.specs.Ancestors.{ids_of, is_held, is_parent, version_events, ancestors}
use Rattle.ew_model.specs.Texts.{text_at}
use Rattle.ew_model.specs.Verdicts.{is_outside, has_number_below, follows_its_agent, parent_rows, range_rows}
use Rattle.ew_model.specs.Ancestors.{is_reduced}
use Rattle.ew_model.specs.Verdicts.Ruling.{SelfParent, TooManyParents, ParentsUnsorted, Unknown, NotReduced, Skipped, OutOfRange}
use Rattle.ew_model.specs.ReceivingLaws.{AncestorsJudge}
use Rattle.ew_model.proofs.PathOrder.{id_total}
use Rattle.ew_model.proofs.SetLaws.{among_map, map_among, kept_more, kept_front}
use Rattle.ew_model.proofs.VersionLaws.{any_from, found_by, kept_cases, version_held}
use Rattle.ew_model.proofs.PlaceLaws.{turned, same_any}
use Rattle.ew_model.proofs.EntryLaws.{LaidOut, points_back}
use Rattle.ew_model.proofs.EqualSets.{same_text_of}
use Rattle.ew_model.proofs.SubgraphLaws.{taken_within, version_laid_out, subgraph_text}
use Rattle.ew_model.proofs.ArrivalLaws.{no_unknown_parent}
use Rattle.ew_model.proofs.GoodLaws.{good_laid_out}

equal_ids : IsEquivalence id_eq
equal_ids = eq_by_cmp_equiv id_total

one_of : (b c : Bool) → (b || c) ≡ true → (b ≡ true) ⊎ (c ≡ true)
one_of true c h = inl refl
one_of false c h = inr h

second : (b c : Bool) → c ≡ true → (b || c) ≡ true
second true c h = refl
second false c h = h

-- what more names have
wider : (history : List Event) (xs ys : List Id) → ((x : Id) → is_among xs x ≡ true → is_among ys x ≡ true) → (z : Event) → Among z (version_events history xs) → Among z (version_events history ys)
wider [] xs ys h z m = absurd m
wider (e ∷ later) xs ys h z m =
    let tx = version_events later xs in
    let ty = version_events later ys in
    let more : (f : Event) → Among f tx → Among f ty = λ f k. wider later xs ys h f k in
    let taken : (is_among xs e.id || is_parent tx e.id) ≡ true → (is_among ys e.id || is_parent ty e.id) ≡ true =
    λ t. ⊎_elim
    (λ named. ap (λ b. b || is_parent ty e.id) (h e.id named))
    (λ parent. let f = found_by (λ (f : Event). is_among f.parents e.id) tx parent in second (is_among ys e.id) (is_parent ty e.id) (any_from (λ (f : Event). is_among f.parents e.id) ty f.0 (more f.0 f.1) f.2))
    (one_of (is_among xs e.id) (is_parent tx e.id) t) in
    ⊎_elim
    (λ first. subst (λ (x : Event). Among x (version_events (e ∷ later) ys)) (sym first.0) (kept_front (is_among ys e.id || is_parent ty e.id) e ty (taken first.1)))
    (λ rest. kept_more (is_among ys e.id || is_parent ty e.id) e z ty (more z rest))
    (kept_cases (is_among xs e.id || is_parent tx e.id) e z tx m)

-- an id that is named, alone
alone : (ids : List Id) (x : Id) → is_among ids x ≡ true → (y : Id) → is_among (x ∷ []) y ≡ true → is_among ids y ≡ true
alone ids x m y h = ⊎_elim (λ same. list_any_congr equal_ids y x ids same ∙ m) (λ no. absurd (let bad : ⊥ = cc in bad)) (one_of (id_eq y x) false h)

one_there : (xs ys : List Event) (ids : List Id) (x : Id) → LaidOut [] ys → SameElements (version_events xs ids) (version_events ys ids) → is_among ids x ≡ true → (z : Event) → Among z (version_events xs (x ∷ [])) → Among z (version_events ys (x ∷ []))
one_there xs ys ids x k s m z q =
    taken_within xs ys (x ∷ []) (points_back [] ys k) (λ y r. version_held ys ids y (s.there y (wider xs (x ∷ []) ids (alone ids x m) y r))) z q

-- with the same ancestors of some ids, each of these ids has the same ancestors
same_one : (xs ys : List Event) (ids : List Id) (x : Id) → LaidOut [] xs → LaidOut [] ys → SameElements (version_events xs ids) (version_events ys ids) → is_among ids x ≡ true → SameElements (version_events xs (x ∷ [])) (version_events ys (x ∷ []))
same_one xs ys ids x h k s m = record {
  there = one_there xs ys ids x k s m;
  back = one_there ys xs ids x h (turned (version_events xs ids) (version_events ys ids) s) m;
}

mapped_there : (xs ys : List Event) → ((z : Event) → Among z xs → Among z ys) → (x : Id) → Among x (ids_of xs) → Among x (ids_of ys)
mapped_there xs ys f x m = let e = among_map (λ (e : Event). e.id) xs x m in subst (λ (y : Id). Among y (ids_of ys)) (sym e.2) (map_among (λ (e : Event). e.id) ys e.0 (f e.0 e.1))

same_ids : (xs ys : List Event) (x : Id) → SameElements xs ys → is_among (ids_of xs) x ≡ is_among (ids_of ys) x
same_ids xs ys x s = same_any (id_eq x) (ids_of xs) (ids_of ys) (record { there = mapped_there xs ys s.there; back = mapped_there ys xs s.back })

all_agree : (p q : Id → Bool) (xs : List Id) → ((x : Id) → Among x xs → p x ≡ q x) → list_all p xs ≡ list_all q xs
all_agree p q [] f = refl
all_agree p q (x ∷ xs) f = λ i. f x (inl refl) i && all_agree p q xs (λ y m. f y (inr m)) i

same_reduced : (xs ys : List Event) (ids : List Id) → LaidOut [] xs → LaidOut [] ys → SameElements (version_events xs ids) (version_events ys ids) → is_reduced xs ids ≡ is_reduced ys ids
unfolding is_reduced
same_reduced xs ys ids h k s =
    all_agree (λ x. list_all (λ y. id_eq x y || not (is_among (ancestors xs (x ∷ [])) y)) ids) (λ x. list_all (λ y. id_eq x y || not (is_among (ancestors ys (x ∷ [])) y)) ids) ids
    (λ x m.
    let named : is_among ids x ≡ true = any_from (id_eq x) ids x m (equal_ids.refl x) in
    all_agree (λ y. id_eq x y || not (is_among (ancestors xs (x ∷ [])) y)) (λ y. id_eq x y || not (is_among (ancestors ys (x ∷ [])) y)) ids
    (λ y _. ap (λ b. id_eq x y || not b) (same_ids (version_events xs (x ∷ [])) (version_events ys (x ∷ [])) y (same_one xs ys ids x h k s named))))

same_number : (xs ys : List Event) (agent : List ℕ) (n : ℕ) → SameElements xs ys → has_number_below (ids_of xs) agent n ≡ has_number_below (ids_of ys) agent n
same_number xs ys agent zero s = refl
same_number xs ys agent (suc n) s = same_ids xs ys (record { agent = agent; seq = n }) s

-- The law of ancestors.
pub ancestors_judge : AncestorsJudge
unfolding parent_rows range_rows follows_its_agent
ancestors_judge xs ys e good_xs good_ys ready_xs ready_ys s =
    let h = good_laid_out xs good_xs in
    let k = good_laid_out ys good_ys in
    let unknown : find (λ p. not (is_held xs p)) e.parents ≡ find (λ p. not (is_held ys p)) e.parents = no_unknown_parent xs e.parents ready_xs ∙ sym (no_unknown_parent ys e.parents ready_ys) in
    let reduced : is_reduced xs e.parents ≡ is_reduced ys e.parents = same_reduced xs ys e.parents h k s in
    let follows : has_number_below (ancestors xs e.parents) e.id.agent e.id.seq ≡ has_number_below (ancestors ys e.parents) e.id.agent e.id.seq =
    same_number (version_events xs e.parents) (version_events ys e.parents) e.id.agent e.id.seq s in
    let text : text_at xs e.parents ≡ text_at ys e.parents =
    subgraph_text xs e.parents h
    ∙ same_text_of (version_events xs e.parents) (version_events ys e.parents) (version_laid_out xs e.parents h) (version_laid_out ys e.parents k) s
    ∙ sym (subgraph_text ys e.parents k) in (
      λ i. then_some (is_among e.parents e.id) SelfParent
          ∷ then_some (nat_lt 16 (length e.parents)) TooManyParents
          ∷ then_some (not (ids_ascend e.parents)) ParentsUnsorted
          ∷ option_map Unknown (unknown i)
          ∷ then_some (not (reduced i)) NotReduced
          ∷ then_some (not (follows i)) Skipped ∷ [],
      λ i. then_some (is_outside (length (text i)) e.op) (OutOfRange (length (text i))) ∷ [],
    )
