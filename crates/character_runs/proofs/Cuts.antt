-- A list that is mapped, counted and cut at a place.
use Rattle.std.proofs.Common.{◌≡◌, ℕ, zero, suc, Bool, true, false, cond, List, [], ◌∷◌, ◌++◌, map, filter, length, take, drop, find, Option, Some, option_map, slice_get, refl, sym, ap, ◌∙◌}
use Rattle.ew_model.specs.Sets.{Among}
use Rattle.ew_model.proofs.RecordLaws.{map_same, map_map}
use Rattle.character_runs.proofs.Lists.{count}
use Rattle.ew_model.proofs.StateLaws.{length_kept}
use Rattle.ew_model.proofs.ListPlaces.{some_is}

pub length-mapped : {X Y : Type 0} (f : X → Y) (xs : List X) → length (map f xs) ≡ length xs
length-mapped f [] = refl
length-mapped f (x ∷ xs) = ap suc (length-mapped f xs)

pub count-mapped : {X Y : Type 0} (f : X → Y) (p : Y → Bool) (xs : List X) → count p (map f xs) ≡ count (λ x. p (f x)) xs
count-mapped f p [] = refl
count-mapped f p (x ∷ xs) =
    length_kept (p (f x)) (f x) (filter p (map f xs))
    ∙ ap (λ n. cond (p (f x)) (suc n) n) (count-mapped f p xs)
    ∙ sym (length_kept (p (f x)) x (filter (λ x. p (f x)) xs))

pub find-mapped : {X Y : Type 0} (f : X → Y) (p : Y → Bool) (xs : List X) → find p (map f xs) ≡ option_map f (find (λ x. p (f x)) xs)
find-mapped f p [] = refl
find-mapped f p (x ∷ xs) = ap (cond (p (f x)) (Some (f x))) (find-mapped f p xs) ∙ at (p (f x)) (find (λ x. p (f x)) xs)
  where
    at : (b : Bool) (o : Option _) → cond b (Some (f x)) (option_map f o) ≡ option_map f (cond b (Some x) o)
    at true o = refl
    at false o = refl

-- a map of a map, as another one, where they agree on each element
pub mapped_alike : {X Y Z W : Type 0} (f : X → Y) (g : Y → Z) (h : X → W) (k : W → Z) (xs : List X) → ((x : X) → Among x xs → g (f x) ≡ k (h x)) → map g (map f xs) ≡ map k (map h xs)
mapped_alike f g h k xs same = map_map f g xs ∙ map_same (λ x. g (f x)) (λ x. k (h x)) xs same ∙ sym (map_map h k xs)

-- WHERE THE IMAGE OF A LIST IS READ AT A PLACE
pub record Cut {X Y : Type 0} (f : X → Y) (xs : List X) (k : ℕ) (y : Y) : Type 0 where
  pub front : List X
  pub here : X
  pub rest : List X
  pub whole : xs ≡ front ++ here ∷ rest
  pub image : f here ≡ y
  pub place : length front ≡ k

pub cut_at : {X Y : Type 0} (f : X → Y) (xs : List X) (k : ℕ) (y : Y) → slice_get (map f xs) k ≡ Some y → Cut f xs k y
cut_at f [] k y e = let no : ⊥ = cc in absurd no
cut_at f (x ∷ xs) zero y e = record { front = []; here = x; rest = xs; whole = refl; image = some_is (f x) y e; place = refl }
cut_at f (x ∷ xs) (suc k) y e =
    let c = cut_at f xs k y e in
    record { front = x ∷ c.front; here = c.here; rest = c.rest; whole = ap (λ zs. x ∷ zs) c.whole; image = c.image; place = ap suc c.place }

take_front : {X Y : Type 0} (f : X → Y) (fs : List X) (x : X) (bs : List X) → take (length fs) (map f (fs ++ x ∷ bs)) ≡ map f fs
take_front f [] x bs = refl
take_front f (a ∷ fs) x bs = ap (λ zs. f a ∷ zs) (take_front f fs x bs)

drop_front : {X Y : Type 0} (f : X → Y) (fs : List X) (x : X) (bs : List X) → drop (suc (length fs)) (map f (fs ++ x ∷ bs)) ≡ map f bs
drop_front f [] x bs = refl
drop_front f (a ∷ fs) x bs = drop_front f fs x bs

drop_here : {X Y : Type 0} (f : X → Y) (fs : List X) (x : X) (bs : List X) → drop (length fs) (map f (fs ++ x ∷ bs)) ≡ f x ∷ map f bs
drop_here f [] x bs = refl
drop_here f (a ∷ fs) x bs = drop_here f fs x bs

take_next : {X Y : Type 0} (f : X → Y) (fs : List X) (x : X) (bs : List X) → take (suc (length fs)) (map f (fs ++ x ∷ bs)) ≡ map f (fs ++ x ∷ [])
take_next f [] x bs = refl
take_next f (a ∷ fs) x bs = ap (λ zs. f a ∷ zs) (take_next f fs x bs)

module _ {X Y : Type 0} (f : X → Y) (xs : List X) (k : ℕ) (y : Y) (c : Cut f xs k y) where
  pub taken : take k (map f xs) ≡ map f c.front
  taken = (λ i. take (sym c.place i) (map f (c.whole i))) ∙ take_front f c.front c.here c.rest

  pub dropped_next : drop (suc k) (map f xs) ≡ map f c.rest
  dropped_next = (λ i. drop (suc (sym c.place i)) (map f (c.whole i))) ∙ drop_front f c.front c.here c.rest

  pub dropped_here : drop k (map f xs) ≡ f c.here ∷ map f c.rest
  dropped_here = (λ i. drop (sym c.place i) (map f (c.whole i))) ∙ drop_here f c.front c.here c.rest

  pub taken_next : take (suc k) (map f xs) ≡ map f (c.front ++ c.here ∷ [])
  taken_next = (λ i. take (suc (sym c.place i)) (map f (c.whole i))) ∙ take_next f c.front c.here c.rest
