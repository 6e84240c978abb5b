-- A run whose states were changed.
use Rattle.std.proofs.Common.{◌≡◌, ℕ, Bool, List, map, Contains, arith, sym, ap, ◌∙◌, subst}
use Rattle.ew_model.specs.declared.node.Node.{Node}
use Rattle.walker_record.specs.Stretches.{Stretch, node_on}
use Rattle.order_tree.specs.Pairs.{IsRising, runs, changed as with_run}
use Rattle.character_runs.specs.declared.change.Change.{Change}
use Rattle.character_runs.specs.declared.labels.Labels.{Labels}
use Rattle.character_runs.specs.States.{is_inserted, knows, changed}
use Rattle.character_runs.specs.Laid.{IsOffset, AreLabelled, chars_in}
use Rattle.character_runs.specs.Loose.{loose_in}
use Rattle.character_runs.specs.Replacing.{AreNodesOf, Recounted, changed_among}
use Rattle.character_runs.proofs.KnownNodes.{known_there}
use Rattle.character_runs.proofs.ChangedAt.{changed_come}
use Rattle.character_runs.proofs.ChangedPairs.{moves_changed}
use Rattle.character_runs.proofs.ChangedRuns.{changed_laid}
use Rattle.character_runs.proofs.Changing.{change_from, change_len}
use Rattle.character_runs.proofs.AlteredChars.{altered, recounted}
use Rattle.character_runs.proofs.LooseCuts.{changed_loose}

module _ (ps qs : List (ℕ × Stretch)) (t : Labels) (label : ℕ) (was now : Stretch) (change : Change) (laid : AreLabelled ps t) (rising : IsRising ps) (held : Contains ps (label, was))
    (is : now ≡ changed change was) (pairs : qs ≡ with_run ps label now) where
  from : now.from ≡ was.from
  from = ap (λ (r : Stretch). r.from) is ∙ change_from change was

  len : now.len ≡ was.len
  len = ap (λ (r : Stretch). r.len) is ∙ change_len change was

  pub recast_laid : AreLabelled qs t
  recast_laid =
      subst (λ (xs : List (ℕ × Stretch)). AreLabelled xs t) (sym pairs) (changed_laid ps (with_run ps label now) t label was now laid held (moves_changed label now ps was rising held) from len)

  pub recast_chars : (among : Node → Bool) → AreNodesOf was among → chars_in qs ≡ map (changed_among among change) (chars_in ps)
  recast_chars among nodes = ap chars_in (pairs ∙ ap (with_run ps label) is) ∙ altered ps t laid rising label was held change among nodes

  pub recast_counts : Recounted (chars_in ps) (chars_in qs) (record { before = was; after = now })
  recast_counts = subst (λ (xs : List (ℕ × Stretch)). Recounted (chars_in ps) (chars_in xs) (record { before = was; after = now })) (sym pairs) (recounted ps rising label was now held len)

  pub recast_was : (v : Node) (n : ℕ) → IsOffset was v n → knows (chars_in ps) v ≡ is_inserted was
  recast_was v n at = known_there v ps t label n was laid rising held at.0 at.1

  pub recast_is : IsRising qs → (v : Node) (n : ℕ) → IsOffset was v n → knows (chars_in qs) v ≡ is_inserted now
  recast_is up v n at =
      let there = subst (λ (xs : List (ℕ × Stretch)). Contains xs (label, now)) (sym pairs) (changed_come label now ps was held) in
      let inside = at.0 in
      known_there v qs t label n now recast_laid up there (omega (arith, inside, len)) (ap (λ (w : Node). node_on w n) from ∙ at.1)

  pub recast_loose : (among : Node → Bool) → loose_in among (runs qs) ≡ loose_in among (runs ps)
  recast_loose among = ap (λ (xs : List (ℕ × Stretch)). loose_in among (runs xs)) pairs ∙ changed_loose among ps label was now rising held from len
