-- Chains through runs that follow one another.
use Rattle.std.proofs.Common.{◌≡◌, ℕ, zero, suc, ◌+◌, ◌-◌, ◌<◌, ◌≤◌, ◌⊎◌, inl, inr, List, [], ◌∷◌, length, get_or, slice_get, slice_index_or, Some, refl, sym, ap, ◌∙◌, subst, arith}
use Rattle.std.proofs.lemmas.Option.{same_Some, slice_get_within, slice_get-get_or, get_or_from_slice_get}
use Rattle.ew_model.specs.Positions.{parents_at}
use Rattle.frontier.specs.Chains.{IsChain}
use Rattle.event_runs.specs.declared.runs.Run.{Run}
use Rattle.event_runs.specs.BareEvents.{parents_in}
use Rattle.event_runs.specs.KeptRuns.{Told, chars_of, events_in, AreRuns, AreKept}
use Rattle.event_runs.specs.Following.{FollowEach}
use Rattle.event_runs.proofs.OneCut.{order}
use Rattle.event_runs.proofs.Found.{HasFound, found, found_first, found_parents, first_parents, chained}

-- two chains make one, where the only parent of the second's first event is the last event of the first
joined : (history : List (List ℕ)) (a b c : ℕ) → IsChain history a b → parents_at history (suc b) ≡ b ∷ [] → IsChain history (suc b) c → IsChain history a c
joined history a b c one step two = record {
  order = let low = one.order in let high = two.order in omega (arith, low, high);
  links = λ p from to. by p from to (order p b);
}
  where
    by : (p : ℕ) → a ≤ p → p < c → (p < b) ⊎ ((b < p) ⊎ (p ≡ b)) → parents_at history (suc p) ≡ p ∷ []
    by p from to (inl l) = one.links p from l
    by p from to (inr (inl l)) = two.links p (omega (arith, l)) to
    by p from to (inr (inr e)) = subst (λ n. parents_at history (suc n) ≡ n ∷ []) (sym e) step

-- a run begins right behind the one before it
next_start : (runs : List Run) (lists : List (List ℕ)) (start place end long i : ℕ) (r s : Run) → AreRuns start place runs lists end long → slice_get runs i ≡ Some r → slice_get runs (suc i) ≡ Some s → s.start ≡ suc (r.start + r.more)
next_start [] lists start place end long i r s a e h = let no : ⊥ = cc in absurd no
next_start (y ∷ runs) [] start place end long i r s a e h = absurd a
next_start (y ∷ []) (f ∷ lists) start place end long zero r s a e h = let no : ⊥ = cc in absurd no
next_start (y ∷ t ∷ runs) (f ∷ []) start place end long zero r s a e h = absurd a.4
next_start (y ∷ t ∷ runs) (f ∷ g ∷ lists) start place end long zero r s a e h =
    let one = same_Some y r e in
    let two = ap (λ (z : Run). z.start) (same_Some t s h) in
    let at = ap (λ (z : Run). z.start) one in let more = ap (λ (z : Run). z.more) one in
    let first = a.0 in let next = a.4.0 in omega (arith, two, at, more, first, next)
next_start (y ∷ runs) (f ∷ lists) start place end long (suc i) r s a e h = next_start runs lists (start + suc y.more) (place + chars_of y.kind (suc y.more)) end long i r s a.4 e h

-- the first of the runs that follow one another begins a chain to an event of the last
pub chain_through : (cs : Told) (runs : List Run) (lists : List (List ℕ)) (count first n last lv : ℕ) (q r : Run) → AreKept runs lists cs count → first + n ≡ last → FollowEach runs lists first last → slice_get runs first ≡ Some q
    → HasFound cs runs lists count last lv r → IsChain (parents_in (events_in cs runs lists)) q.start lv
chain_through cs runs lists count first zero last lv q r k at follow there f =
    let same : first ≡ last = omega (arith, at) in
    let one : r ≡ q = same_Some r q (sym f.there ∙ ap (slice_get runs) (sym same) ∙ there) in
    subst (λ (x : Run). IsChain (parents_in (events_in cs runs lists)) x.start lv) one (chained cs runs lists count last lv r k f)
chain_through cs runs lists count first (suc n) last lv q r k at follow there f =
    let fol = follow last (omega (arith, at)) (omega arith) in
    let one : fol.run ≡ r = same_Some fol.run r (sym fol.there ∙ f.there) in
    let begins : r.start ≡ suc fol.before = ap (λ (x : Run). x.start) (sym one) ∙ fol.next in
    let low : first + n < length runs = (let top = slice_get_within runs last r f.there in omega (arith, top, at)) in
    let s = get_or runs (first + n) r in
    let held : slice_get runs (first + n) ≡ Some s = slice_get-get_or runs (first + n) r low in
    let behind : suc (first + n) ≡ last = omega (arith, at) in
    let ends : r.start ≡ suc (s.start + s.more) = next_start runs lists 0 0 count (length cs.chars) (first + n) s r k.in_line held (ap (slice_get runs) behind ∙ f.there) in
    let g = found cs runs runs lists count (first + n) (s.start + s.more) s k refl (record { run = s; there = held; from = omega arith; to = omega arith }) (sym (get_or_from_slice_get runs (first + n) s s held)) in
    let before = chain_through cs runs lists count first n (first + n) (s.start + s.more) q s k refl (λ i low high. follow i low (omega (arith, high, at))) there g in
    let only : parents_at (parents_in (events_in cs runs lists)) r.start ≡ fol.before ∷ [] =
    found_parents cs runs lists count last r.start r (found_first cs runs lists count last lv r k f) ∙ first_parents (slice_index_or lists last []) r.start r.start refl ∙ fol.only in
    let same : fol.before ≡ s.start + s.more = omega (arith, begins, ends) in
    let step : parents_at (parents_in (events_in cs runs lists)) (suc (s.start + s.more)) ≡ (s.start + s.more) ∷ [] =
    ap (parents_at (parents_in (events_in cs runs lists))) (sym ends) ∙ only ∙ ap (λ p. p ∷ []) same in
    joined (parents_in (events_in cs runs lists)) q.start (s.start + s.more) lv before step
    (subst (λ m. IsChain (parents_in (events_in cs runs lists)) m lv) ends (chained cs runs lists count last lv r k f))
