-- Events that go on from one another alike in two histories.
use Rattle.std.proofs.Common.{◌≡◌, ℕ, zero, suc, ◌+◌, ◌-◌, ◌<◌, ◌≤◌, List, length, position, Option, Some, IsSome, refl, sym, ap, ◌∙◌, subst, arith}
use Rattle.std.specs.Prelude.{slice_get}
use Rattle.ew_model.specs.declared.id.Id.{Id}
use Rattle.ew_model.specs.declared.event.Op.{Op}
use Rattle.ew_model.specs.declared.event.Op.TheVariants as op
use Rattle.ew_model.specs.declared.event.Event.{Event}
use Rattle.ew_model.specs.declared.text_op.TextOp.{TextOp}
use Rattle.ew_model.specs.declared.text_op.TextOp.TheVariants.{Nothing}
use Rattle.ew_model.specs.Ancestors.{ids_of}
use Rattle.ew_model.specs.Ids.{id_eq}
use Rattle.ew_model.specs.Positions.{parent_positions}
use Rattle.ew_model.specs.Sets.{Among}
use Rattle.ew_model.specs.TextLaws.{own_change}
use Rattle.ew_model.proofs.ListParts.{element_there}
use Rattle.agent_ids.specs.IdRuns.{AreNextFrom, id_with}
use Rattle.frontier.specs.Chains.{IsChain}
use Rattle.event_graph.specs.Keeping.{IsAdmitted}
use Rattle.event_graph.proofs.Places.{found_event, event_among}
use Rattle.agreement.specs.Sharing.{AreSameEdits, AreSharedTo, GoOnAlike, HaveSameParents, IsShared, own_changes}
use Rattle.agreement.proofs.OnlyParents.{before_it, ids_of_only}
use Rattle.agreement.proofs.ParentIds.{made_get}
use Rattle.agreement.proofs.Shared.{same_made}

-- a chain ends earlier as well
chain_to : (lists : List (List ℕ)) (first last end : ℕ) → IsChain lists first last → first ≤ end → end ≤ last → IsChain lists first end
chain_to lists first last end chain from to = record { order = from; links = λ p low high. chain.links p low (omega (arith, high, to)) }

-- WHAT TWO RUNS TELL of the events that they begin with.
pub told_alike : (one other : List Event) (p q n i : ℕ) (xs ys : List TextOp) → 0 < n → n ≤ length xs → n ≤ length ys → n ≤ i + 1
    → p + length xs ≤ length one → q + length ys ≤ length other
    → ((k : ℕ) → k < length xs → slice_get (own_changes one) (p + k) ≡ slice_get xs k)
    → ((k : ℕ) → k < length ys → slice_get (own_changes other) (q + k) ≡ slice_get ys k)
    → IsChain (parent_positions one) p (p + length xs - 1) → IsChain (parent_positions other) q (q + length ys - 1)
    → AreNextFrom (ids_of one) p i → AreNextFrom (ids_of other) q i → AreSameEdits xs ys n → GoOnAlike one p other q n
told_alike one other p q n i xs ys some many others next within among ours theirs chain along ids their_ids edits = record {
  some = some;
  within = omega (arith, many, within);
  among = omega (arith, others, among);
  ids = λ x at k less. ids x at k (omega (arith, less, next, some));
  other_ids = λ x at k less. their_ids x at k (omega (arith, less, next, some));
  chain = chain_to (parent_positions one) p (p + length xs - 1) (p + n - 1) chain (omega (arith, some)) (omega (arith, many));
  other_chain = chain_to (parent_positions other) q (q + length ys - 1) (q + n - 1) along (omega (arith, some)) (omega (arith, others));
  edits = λ k less.
      let left = ours k (omega (arith, less, many)) in
      let right = theirs k (omega (arith, less, others)) in
      let same = edits k less in
      (left ∙ (same.0 ∙ sym right), (λ none. same.1 (sym left ∙ none)), subst (λ (o : Option TextOp). IsSome o) (sym left) same.2);
}

-- an edit tells the operation
same_edit : (o r : Op) → own_change o ≡ own_change r → (own_change o ≡ Nothing → ⊥) → o ≡ r
same_edit (op.Ins at ch) (op.Ins i c) same edits = let here : at ≡ i = cc in let it : ch ≡ c = cc in cc
same_edit (op.Ins at ch) (op.Del i) same edits = let no : ⊥ = cc in absurd no
same_edit (op.Ins at ch) (op.Mark label) same edits = let no : ⊥ = cc in absurd no
same_edit (op.Del at) (op.Ins i c) same edits = let no : ⊥ = cc in absurd no
same_edit (op.Del at) (op.Del i) same edits = let here : at ≡ i = cc in ap op.Del here
same_edit (op.Del at) (op.Mark label) same edits = let no : ⊥ = cc in absurd no
same_edit (op.Mark label) r same edits = absurd (edits refl)

-- events of the same id, parents and operation are one
same_shared : (one other : List Event) (p q : ℕ) (e f : Event) → slice_get one p ≡ Some e → slice_get other q ≡ Some f → e.id ≡ f.id → e.parents ≡ f.parents → e.op ≡ f.op → Among e other
same_shared one other p q e f at there ids parents ops =
    let same : e ≡ f = λ i. record { id = ids i; parents = parents i; op = ops i } in
    subst (λ (g : Event). Among g other) (sym same) (event_among other q f there)

module _ (one other : List Event) (p q n : ℕ) (x : Id) (admitted : IsAdmitted one) (known : IsAdmitted other) (here : slice_get (ids_of one) p ≡ Some x) (there : slice_get (ids_of other) q ≡ Some x) (alike : GoOnAlike one p other q n) where
  -- those behind the first have the same parents
  behind_alike : (k : ℕ) → 0 < k → k < n → HaveSameParents one (p + k) other (q + k)
  behind_alike k some less e f at found =
      let y : Id = id_with x.agent (x.seq + (k - 1)) in
      let ours : slice_get (ids_of one) (p + k - 1) ≡ Some y = subst (λ i. slice_get (ids_of one) i ≡ Some y) (omega (arith, some)) (alike.ids x here (k - 1) (omega (arith, less))) in
      let theirs : slice_get (ids_of other) (q + k - 1) ≡ Some y = subst (λ i. slice_get (ids_of other) i ≡ Some y) (omega (arith, some)) (alike.other_ids x there (k - 1) (omega (arith, less))) in
      let chain = chain_to (parent_positions one) p (p + n - 1) (p + k) alike.chain (omega arith) (omega (arith, less)) in
      let along = chain_to (parent_positions other) q (q + n - 1) (q + k) alike.other_chain (omega arith) (omega (arith, less)) in
      ids_of_only one (p + k) e y admitted at (before_it one (p + k) p chain (omega (arith, some))) ours
      ∙ sym (ids_of_only other (q + k) f y known found (before_it other (q + k) q along (omega (arith, some))) theirs)

  all_alike : HaveSameParents one p other q → (k : ℕ) → k < n → HaveSameParents one (p + k) other (q + k)
  all_alike first zero less = λ e f at found. first e f (subst (λ i. slice_get one i ≡ Some e) (omega arith) at) (subst (λ i. slice_get other i ≡ Some f) (omega arith) found)
  all_alike first (suc k) less = behind_alike (suc k) (omega arith) less

  -- so all are shared where the first ones have the same parents
  shared_behind : HaveSameParents one p other q → (k : ℕ) → k < n → IsShared one (p + k) other
  shared_behind first k less e at =
      let among = alike.among in
      let f = element_there other (q + k) (omega (arith, among, less)) in
      let y : Id = id_with x.agent (x.seq + k) in
      let ours : y ≡ e.id = same_made (λ (g : Event). g.id) one (p + k) e y at (alike.ids x here k (omega (arith, less))) in
      let theirs : y ≡ f.0.id = same_made (λ (g : Event). g.id) other (q + k) f.0 y f.1 (alike.other_ids x there k (omega (arith, less))) in
      let mine = made_get (λ (g : Event). own_change g.op) one (p + k) e at in
      let its = made_get (λ (g : Event). own_change g.op) other (q + k) f.0 f.1 in
      let edits = alike.edits k less in
      let both : Some (own_change e.op) ≡ Some (own_change f.0.op) = sym mine ∙ (edits.0 ∙ its) in
      let same : own_change e.op ≡ own_change f.0.op = cc in
      same_shared one other (p + k) (q + k) e f.0 at f.1 (sym ours ∙ theirs) (all_alike first k less e f.0 at f.1)
      (same_edit e.op f.0.op same (λ none. edits.1 (mine ∙ ap Some none)))

  -- and that is so up to a position
  pub shared_up_to : HaveSameParents one p other q → AreSharedTo one p (p + n) other
  shared_up_to first = (
    (let some = alike.some in omega (arith, some)),
    alike.within,
    (λ r low high. subst (λ i. IsShared one i other) (omega (arith, low)) (shared_behind first (r - p) (omega (arith, low, high)))),
  )

-- the id that is found stands there
pub found_there : (history : List Event) (x : Id) (q : ℕ) → position (id_eq x) (ids_of history) ≡ Some q → slice_get (ids_of history) q ≡ Some x
found_there history x q found =
    let f = found_event history x q found in
    made_get (λ (g : Event). g.id) history q f.0 f.1 ∙ ap Some (sym f.2)
