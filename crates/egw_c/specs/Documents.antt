-- Documents as C has them, and why their calls are refused.
use Rattle.std.specs.Prelude.{◌≡◌, ℕ, true, false, List, [], ◌∷◌, map, Some, Ok}
use Rattle.std.specs.Str.{IsUtf8}
use Rattle.std.specs.Str.Lossy.{utf8_valid_len}
use Rattle.document.specs.Documents as document
use Rattle.ew_model.specs.declared.id.Id.{Id}
use Rattle.ew_model.specs.declared.text_op.TextOp.{TextOp}
use Rattle.ew_model.specs.Ancestors.{heads}
use Rattle.ew_model.specs.Edits.{Edit, edit_refusal}
use Rattle.ew_model.specs.Edits.Edit.{Mark}
use Rattle.ew_model.specs.Ids.{id_cmp}
use Rattle.ew_model.specs.Kept.{ReplicaState, is_awaited}
use Rattle.ew_model.specs.Names.{is_name, name_fault}
use Rattle.ew_model.specs.Scripts.{version_text}
use Rattle.ew_model.specs.Sorting.{sort_by}
use Rattle.ew_model.specs.Texts.{text_of}
use Rattle.history_definitions.specs.Versions.{IsVersion}
use Rattle.undo.specs.Answers.{Undoes}
use Rattle.undo_definitions.specs.Wanted.{ids_from, wanted}
use Rattle.egw_c.specs.declared.fault.EditingFault.{EditingFault}
use Rattle.egw_c.specs.declared.fault.EditingFault.TheVariants.{Name, Text, Edit as Refused}
use Rattle.egw_c.specs.declared.fault.MarkingFault.{MarkingFault}
use Rattle.egw_c.specs.declared.fault.MarkingFault.TheVariants as marking
use Rattle.egw_c.specs.declared.fault.UndoingFault.{UndoingFault}
use Rattle.egw_c.specs.declared.fault.UndoingFault.TheVariants as undoing
use Rattle.egw_c.specs.Words.{IsNoId}

-- what is seen of a document: what its replica stands for, and the bytes and the changes that were found last
pub record Shown : Type 0 where
  pub replica : ReplicaState
  pub bytes : List ℕ
  pub changes : List TextOp

-- it is the document of the file, and nothing was found yet
pub record Opens (file : List ℕ) (d : Shown) : Type 0 where
  pub opens : document.Opens file d.replica
  pub none : (d.bytes ≡ []) × (d.changes ≡ [])

-- the call itself has nothing against an edit by the agent with the text: they are a name and UTF-8, and no event of the agent is
-- awaited
pub record MayEdit (agent text : List ℕ) (r : ReplicaState) : Type 0 where
  pub name : is_name agent ≡ true
  pub utf8 : IsUtf8 text
  pub awaited : is_awaited r.held r.waiting agent ≡ false

-- the first reason against an edit by the agent with the text: no name, no UTF-8, or what the document says
abbrev pub Refuses : List ℕ → List ℕ → Edit → ReplicaState → EditingFault → Type 0
Refuses agent text e r (Name fault) = name_fault agent ≡ Some fault
Refuses agent text e r (Text good) = (is_name agent ≡ true) × ¬ (IsUtf8 text) × (good ≡ utf8_valid_len text)
Refuses agent text e r (Refused fault) = (is_name agent ≡ true) × IsUtf8 text × document.Refuses agent (edit_refusal r.limits r.held agent e) r fault

-- the ids of the heads, ascending, as a version is written
abbrev pub heads_words : ReplicaState → List ℕ
heads_words r = version_text (sort_by id_cmp (heads r.held))

-- the call itself has nothing against a mark by the agent under the label: they are names, and no event of the agent is awaited
pub record MayMark (agent label : List ℕ) (r : ReplicaState) : Type 0 where
  pub name : is_name agent ≡ true
  pub label_name : is_name label ≡ true
  pub awaited : is_awaited r.held r.waiting agent ≡ false

-- the first reason against a mark by the agent under the label
abbrev pub RefusesMark : List ℕ → List ℕ → ReplicaState → MarkingFault → Type 0
RefusesMark agent label r (marking.Name fault) = name_fault agent ≡ Some fault
RefusesMark agent label r (marking.Label fault) = (is_name agent ≡ true) × (name_fault label ≡ Some fault)
RefusesMark agent label r (marking.Edit fault) = (is_name agent ≡ true) × (is_name label ≡ true) × document.Refuses agent (edit_refusal r.limits r.held agent (Mark label)) r fault

-- the call itself has nothing against an undo by the agent from this id on: there are a name and the words of the id, and no event of
-- the agent is awaited
pub record MayUndo (agent words : List ℕ) (first : Id) (r : ReplicaState) : Type 0 where
  pub name : is_name agent ≡ true
  pub spelled : IsVersion words (first ∷ [])
  pub awaited : is_awaited r.held r.waiting agent ≡ false

-- The words are an id. So many events of its agent, from that number on, are undone by the agent: the events that this makes are held
-- behind the others, so many as told, and the text is what all other events left.
pub record UndoesFrom (agent words : List ℕ) (count : ℕ) (old new : ReplicaState) (made : ℕ) : Type 0 where
  pub first : Id
  pub may : MayUndo agent words first old
  pub undoes : Undoes agent (ids_from first.agent first.seq count) old new (Ok made)
  pub text : text_of new.held ≡ map (λ z. z.ch) (wanted old.held (ids_from first.agent first.seq count))

-- The first reason against an undo by the agent: no name, words that are no id, or what the document says. Want of memory may come
-- where the words are read.
abbrev pub RefusesUndo : List ℕ → List ℕ → ℕ → ReplicaState → UndoingFault → Type 0
RefusesUndo agent words count r (undoing.Name fault) = name_fault agent ≡ Some fault
RefusesUndo agent words count r undoing.NoId = (is_name agent ≡ true) × IsNoId words
RefusesUndo agent words count r undoing.OutOfMemory = is_name agent ≡ true
RefusesUndo agent words count r (undoing.Undo fault) = (x : Id) × (is_name agent ≡ true) × IsVersion words (x ∷ []) × document.RefusesUndo agent (ids_from x.agent x.seq count) r fault
