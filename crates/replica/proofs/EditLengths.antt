-- How long a text is after each event of an edit.
use Rattle.std.proofs.Common.{◌≡◌, ℕ, zero, suc, ◌+◌, List, [], ◌∷◌, ◌++◌, map, take, refl, sym, ap, subst, ◌∙◌}
use Rattle.std.proofs.lemmas.List.{take-map, length-map}
use Rattle.ew_model.specs.declared.id.Id.{Id}
use Rattle.ew_model.specs.declared.event.Op.{Op}
use Rattle.ew_model.specs.declared.event.Event.{Event}
use Rattle.ew_model.specs.declared.text_op.TextOp.{TextOp}
use Rattle.ew_model.specs.Operations.{changed_by, changed_by_all}
use Rattle.ew_model.specs.Texts.{text_of}
use Rattle.ew_model.specs.TextLaws.{own_change, AllFit}
use Rattle.ew_model.specs.Edits.{chain_of, events_of_ops}
use Rattle.ew_model.proofs.EditEvents.{FewHeads, MayDo, ops_done}
use Rattle.ew_model.proofs.EditLaws.{ops_long}
use Rattle.replica.specs.Lengths.{lengths_after, lengths_through}
use Rattle.replica.proofs.LengthLaws.{LeadAlike, lengths_alike}

-- the first events of a chain are those of the first operations
chain_front : (agent : List ℕ) (seq : ℕ) (parents : List Id) (ops : List Op) (n : ℕ) → chain_of agent seq parents (take n ops) ≡ take n (chain_of agent seq parents ops)
chain_front agent seq parents ops zero = refl
chain_front agent seq parents [] (suc n) = refl
chain_front agent seq parents (op ∷ ops) (suc n) =
    let x : Id = record { agent = agent; seq = seq } in
    let e : Event = record { id = x; parents = parents; op = op } in
    ap (λ es. e ∷ es) (chain_front agent (seq + 1) (x ∷ []) ops n)

events_front : (held : List Event) (agent : List ℕ) (ops : List Op) (n : ℕ) → events_of_ops held agent (take n ops) ≡ take n (events_of_ops held agent ops)
unfolding events_of_ops
events_front held agent ops n = chain_front agent _ _ ops n

-- the first operations of those that fit do
fit_front : (text : List ℕ) (ops : List TextOp) (n : ℕ) → AllFit text ops → AllFit text (take n ops)
fit_front text ops zero h = tt
fit_front text [] (suc n) h = tt
fit_front text (op ∷ ops) (suc n) h = (h.0, fit_front (changed_by op text) ops n h.1)

few_front : (held : List Event) (ops : List Op) (n : ℕ) → FewHeads held ops → FewHeads held (take n ops)
few_front held ops zero h = tt
few_front held [] (suc n) h = tt
few_front held (op ∷ ops) (suc n) h = h

-- the first operations of those that may be done may be
may_front : (held : List Event) (ops : List Op) (n : ℕ) → MayDo held ops → MayDo held (take n ops)
may_front held ops n may = record {
  good = may.good;
  few = few_front held ops n may.few;
  fit = subst (AllFit (text_of held)) (take-map own_change n ops) (fit_front (text_of held) (map own_change ops) n may.fit);
}

ops_lead : (held : List Event) (agent : List ℕ) (ops : List Op) → MayDo held ops → LeadAlike held (text_of held) (events_of_ops held agent ops) (map own_change ops)
ops_lead held agent ops may = record {
  long = ops_long held agent ops ∙ sym (length-map ops own_change);
  texts = λ n.
      ap (λ es. text_of (held ++ es)) (sym (events_front held agent ops n))
      ∙ ((ops_done held agent (take n ops) (may_front held ops n may)).text ∙ ap (λ cs. changed_by_all cs (text_of held)) (sym (take-map own_change n ops)));
}

-- Operations that may be done lead through texts as long as those after their events.
pub ops_lengths : (held : List Event) (agent : List ℕ) (ops : List Op) → MayDo held ops → lengths_through (text_of held) (map own_change ops) ≡ lengths_after held (events_of_ops held agent ops)
ops_lengths held agent ops may = lengths_alike held (text_of held) (events_of_ops held agent ops) (map own_change ops) (ops_lead held agent ops may)
