-- The agents of a list of ids, and how many ids each has.
use Rattle.std.specs.Prelude.{◌≡◌, ℕ, List, [], ◌∷◌, ◌++◌, Some, take, slice_get, fold, count_by, if◌then◌else◌}
use Rattle.std.specs.List.{list_any}
use Rattle.ew_model.specs.declared.id.Id.{Id}
use Rattle.ew_model.specs.Ids.{name_eq}

-- the names, and one more unless it is among them
abbrev pub with_name : List (List ℕ) → List ℕ → List (List ℕ)
with_name names name = if list_any (name_eq name) names then names else names ++ name ∷ []

-- the agents in order of first use
abbrev pub agents_of : List Id → List (List ℕ)
agents_of ids = fold (λ names x. with_name names x.agent) [] ids

-- how many ids the agent has
abbrev pub count_of : List Id → List ℕ → ℕ
count_of ids agent = count_by (λ x. name_eq x.agent agent) ids

-- the number of each id is how many ids of its agent stand before it
abbrev pub AreNumbered : List Id → Type 0
AreNumbered ids = (place : ℕ) (x : Id) → slice_get ids place ≡ Some x → x.seq ≡ count_of (take place ids) x.agent
