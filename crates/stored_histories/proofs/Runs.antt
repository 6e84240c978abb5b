-- The rest of a run of a file that is given to a replica at once.
use Rattle.std.proofs.Common.{◌≡◌, ◌∙◌, ℕ, suc, ◌+◌, ◌-◌, List, [], ◌∷◌, ◌++◌, length, Some, sym, ap, subst, append_assoc, append-nil, arith}
use Rattle.std.proofs.lemmas.List.{length-append}
use Rattle.ew_model.specs.declared.id.Id.{Id}
use Rattle.ew_model.specs.declared.event.Event.{Event}
use Rattle.ew_model.specs.declared.event.Op.{Op}
use Rattle.ew_model.specs.Edits.{chain_of}
use Rattle.file_words.specs.FileFaults.{FileFinding}
use Rattle.event_file.specs.OpenRuns.{id_behind}
use Rattle.event_file.specs.Rest.{GoOnBy, Rest, in_front}
use Rattle.history_definitions.specs.Chains.{event_behind}
use Rattle.event_graph.specs.GoingOn.{chain_behind}
use Rattle.event_graph.proofs.Chains.{in_a_row}
use Rattle.replica.specs.Giving.{Given, WereGiven}
use Rattle.replica.proofs.Giving.{chain_long}
use Rattle.stored_histories.specs.Giving.{HasGivenLast}
use Rattle.stored_histories.proofs.Giving.{both_in_front}

-- the last of the events has this id
record EndsWith (events : List Event) (x : Id) : Type 0 where
  before : List Event
  last : Event
  is : events ≡ before ++ last ∷ []
  id : last.id ≡ x

abbrev numbered : List ℕ → ℕ → Id
numbered agent n = record { agent = agent; seq = n }

-- events in a chain behind one end with so many numbers more
chain_end : (ops : List Op) (before : List Event) (e : Event) → EndsWith ((before ++ e ∷ []) ++ chain_behind e.id ops) (id_behind (length ops) e.id)
chain_end [] before e =
    let same : e.id.seq ≡ e.id.seq + 0 = omega arith in
    record { before = before; last = e; is = append-nil (before ++ e ∷ []); id = ap (numbered e.id.agent) same }
chain_end (op ∷ ops) before e =
    let f = event_behind e.id op in
    let then = before ++ e ∷ [] in
    let rest = chain_end ops then f in
    let same : suc e.id.seq + length ops ≡ e.id.seq + suc (length ops) = omega arith in
    record {
      before = rest.before;
      last = rest.last;
      is = sym (append_assoc then (f ∷ []) (chain_behind f.id ops)) ∙ rest.is;
      id = rest.id ∙ ap (numbered e.id.agent) same;
    }

-- what goes on from the last one is given at once
pub rest_given : (ops : List Op) (found : FileFinding) (given next : Given) (old new : Rest) (most : ℕ) → HasGivenLast found given old most
    → GoOnBy ops old new → ((events : List Event) (e : Event) → WereGiven (events ++ e ∷ []) given → WereGiven ((events ++ e ∷ []) ++ chain_behind e.id ops) next)
    → HasGivenLast found next new most
rest_given ops found given next old new most has on were =
    let before = has.0 in
    let e = has.1 in
    let front = has.3 in
    let then = before ++ e ∷ [] in
    let chain = chain_behind e.id ops in
    let both : Some on.last ≡ Some e.id = sym on.is_last ∙ has.2 in
    let same : on.last ≡ e.id = cc in
    let row : chain_of on.last.agent (suc on.last.seq) (on.last ∷ []) ops ≡ chain = ap (λ (x : Id). chain_of x.agent (suc x.seq) (x ∷ []) ops) same ∙ sym (in_a_row e.id ops) in
    let end = chain_end ops before e in
    let all = ap (length {A = Event}) end.is in
    let size = length-append then chain in
    let long = chain_long e.id ops in
    let records = on.records in
    let few = front.2 in (
      end.before,
      end.last,
      on.new_last ∙ ap (λ (x : Id). Some (id_behind (length ops) x)) same ∙ ap (λ (x : Id). Some x) (sym end.id),
      (
        subst (λ (es : List Event). WereGiven es next) end.is (were before e front.0),
        front.1 ∙ ap (in_front then) (on.found ∙ ap (λ (es : List Event). in_front es new.found) row) ∙ both_in_front then chain new.found ∙ ap (λ (es : List Event). in_front es new.found) end.is,
        omega (arith, few, records, all, size, long),
      ),
    )
