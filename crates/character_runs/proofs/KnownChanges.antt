-- What a change of a character's states, and a new character, leave of what is known.
use Rattle.std.proofs.Common.{◌≡◌, ℕ, zero, suc, Bool, true, false, ◌&&◌, ◌||◌, cond, List, [], ◌∷◌, ◌++◌, map, take, drop, insert, refl, sym, ap, ◌∙◌}
use Rattle.std.specs.List.{list_any}
use Rattle.std.proofs.lemmas.Bool.{false≢true}
use Rattle.std.proofs.lemmas.List.Folds.{list_any-append}
use Rattle.ew_model.specs.declared.node.Node.{Node}
use Rattle.ew_model.specs.declared.node.Node.TheVariants.{Event}
use Rattle.walker_record.specs.Stretches.{Stretch}
use Rattle.fugue_place.specs.Attachments.{node_eq}
use Rattle.fugue_place.proofs.NodeLaws.{node_same, node_itself}
use Rattle.character_runs.specs.declared.change.Change.{Change}
use Rattle.character_runs.specs.States.{is_of, is_inserted, knows, single, changed, changed_at}
use Rattle.fugue_place.specs.declared.neighbour.Place.{Place}
use Rattle.character_runs.specs.Spots.{Comes}
use Rattle.character_runs.proofs.Changing.{change_from}
use Rattle.character_runs.proofs.CutRuns.{unlike}

and_first : (b c : Bool) → b ≡ false → (b && c) ≡ false
and_first true c e = absurd (false≢true (sym e))
and_first false c e = refl

module _ (u : Node) where
  abbrev tells : Stretch → Bool
  tells r = is_of u r && is_inserted r

  -- another's record tells the same
  still : (w : Node) (c : Change) → node_eq u w ≡ false → (r : Stretch) (b : Bool) → is_of w r ≡ b → tells (cond b (changed c r) r) ≡ tells r
  still w c other r false e = refl
  still w c other r true e =
      let own : r.from ≡ w = node_same r.from w e in
      let differs : node_eq r.from u ≡ false = unlike r.from u (λ is. false≢true (sym other ∙ ap (λ (v : Node). node_eq v w) (sym is ∙ own) ∙ node_itself w)) in
      and_first (is_of u (changed c r)) (is_inserted (changed c r)) (ap (λ (v : Node). node_eq v u) (change_from c r) ∙ differs) ∙ sym (and_first (is_of u r) (is_inserted r) differs)

  pub known_changed : (w : Node) (c : Change) → node_eq u w ≡ false → (rs : List Stretch) → knows (map (changed_at w c) rs) u ≡ knows rs u
  known_changed w c other [] = refl
  known_changed w c other (r ∷ rs) = λ i. still w c other r (is_of w r) refl i || known_changed w c other rs i

  both : (n : ℕ) (rs : List Stretch) → take n rs ++ drop n rs ≡ rs
  both zero rs = refl
  both (suc n) [] = refl
  both (suc n) (r ∷ rs) = ap (λ (xs : List Stretch). r ∷ xs) (both n rs)

  turned : (a b c : Bool) → (a || (b || c)) ≡ (b || (a || c))
  turned true true c = refl
  turned true false c = refl
  turned false b c = refl

  -- a new record tells of its own node
  pub known_inserted : (rs : List Stretch) (i : ℕ) (x : Stretch) → knows (insert rs i x) u ≡ (tells x || knows rs u)
  known_inserted rs i x =
      list_any-append tells (take i rs) (x ∷ drop i rs) ∙ turned (list_any tells (take i rs)) (tells x) (list_any tells (drop i rs))
      ∙ ap (λ (b : Bool). tells x || b) (sym (list_any-append tells (take i rs) (drop i rs)) ∙ ap (list_any tells) (both i rs))

-- a new node came in, and is known from then on
module _ (rs ss : List Stretch) (place : Place) (n at : ℕ) (came : Comes rs ss place n at) where
  tells_new : (u : Node) → knows ss u ≡ ((node_eq (Event n) u && true) || knows rs u)
  tells_new u = ap (λ (xs : List Stretch). knows xs u) came.after ∙ known_inserted u rs came.index (single (Event n) 1 true)

  pub known_else : (u : Node) → node_eq u (Event n) ≡ false → knows ss u ≡ knows rs u
  known_else u e =
      let other : node_eq (Event n) u ≡ false = unlike (Event n) u (λ is. false≢true (sym e ∙ ap (λ (v : Node). node_eq v (Event n)) (sym is) ∙ node_itself (Event n))) in
      tells_new u ∙ ap (λ (b : Bool). (b && true) || knows rs u) other

  pub known_now : knows ss (Event n) ≡ true
  known_now = tells_new (Event n) ∙ ap (λ (b : Bool). (b && true) || knows rs (Event n)) (node_itself (Event n))
