-- Where a caret is, as it is shown.
use Rattle.std.proofs.Common.{◌≡◌, ◌↔◌, ℕ, zero, suc, ◌<◌, ◌≤◌, List, [], length, Option, Some, None, slice_get, option_map, Result, Ok, Err, refl, sym, ap, ◌∙◌, subst, arith}
use Rattle.std.specs.Global.{Vec}
use Rattle.std.proofs.lemmas.List.{length-map}
use Rattle.std.proofs.lemmas.Option.{slice_get_past}
use Rattle.ew_model.specs.declared.id.Id.{Id}
use Rattle.ew_model.specs.declared.event.Event.{Event}
use Rattle.ew_model.specs.Entries.{Inserted}
use Rattle.ew_model.specs.Texts.{text_at, visible_at}
use Rattle.ew_model.specs.Verdicts.{first_unknown}
use Rattle.carets.specs.declared.caret.Caret.{Caret}
use Rattle.carets.specs.declared.caret.Caret.TheVariants.{Behind}
use Rattle.carets.specs.Sides.{caret_at, caret_in, side}
use Rattle.caret_places.specs.declared.fault.CaretFault.{CaretFault}
use Rattle.caret_places.specs.declared.fault.CaretFault.TheVariants.{Unknown, OutOfRange, OutOfMemory}
use Rattle.command_table.specs.Table.{caret, caret_reply, prints, refuses, show_reply, unless_unknown}
use Rattle.command_table.specs.Refusals.{index_out_of_range}
use Rattle.command_table.specs.Text.{index_text}
use Rattle.command_runs.specs.declared.commands.ListingFault.TheVariants as fault
use Rattle.command_runs.specs.Listings.{Lists, caret_fault}

-- the fault tells exactly the id that isn't held
abbrev pub TellsFirst : Option Id → Result Caret CaretFault → Type 0
TellsFirst found result = (x : Id) → (result ≡ Err (Unknown x)) ↔ (found ≡ Some x)

none_of : (found : Option Id) → ((x : Id) → found ≡ Some x → ⊥) → found ≡ None
none_of None none = refl
none_of (Some x) none = absurd (none x refl)

-- a caret that is taken, or refused for another reason, is of a version whose ids are held
pub all_there : (found : Option Id) (result : Result Caret CaretFault) → TellsFirst found result → ((x : Id) → result ≡ Err (Unknown x) → ⊥) → found ≡ None
all_there found result tells other = none_of found (λ x is. other x ((tells x).1 is))

-- a caret that isn't taken
abbrev not_taken : CaretFault → Result Caret CaretFault
not_taken f = Err f

two_faults : (len : ℕ) (x : Id) → not_taken (OutOfRange len) ≡ not_taken (Unknown x) → ⊥
two_faults len x e = cc

ok_fault : (c : Caret) (x : Id) → Ok c ≡ not_taken (Unknown x) → ⊥
ok_fault c x e = cc

-- behind the end there is no caret
past_end : (chars : List Inserted) (i : ℕ) → length chars < i → caret_in chars i ≡ None
past_end chars zero h = absurd (omega (arith, h))
past_end chars (suc i) h = ap (option_map (λ (z : Inserted). Behind z.id)) (slice_get_past chars i (omega (arith, h)))

module _ (graph held : List Event) (version : List Id) (index : ℕ) (same : graph ≡ held) where
  pub taken_shows : (c : Caret) (i : ℕ) (text : Vec ℕ) → TellsFirst (first_unknown graph version) (Ok c) → caret_at graph version index ≡ Some c → i ≡ side graph c → text.items ≡ index_text i
      → Lists (show_reply (caret version index) held) (Ok text)
  taken_shows c i text tells taken at is =
      let none = all_there (first_unknown graph version) (Ok c) tells (ok_fault c) in
      subst (λ (es : List Event). Lists (show_reply (caret version index) es) (Ok text)) same
      (ap (λ o. unless_unknown o (caret_reply index (length (text_at graph version)) graph (caret_at graph version index))) none
      ∙ ap (caret_reply index (length (text_at graph version)) graph) taken
      ∙ ap prints (sym (is ∙ ap index_text at)))

  unknown_shows : (x : Id) → first_unknown graph version ≡ Some x → Lists (show_reply (caret version index) held) (Err (fault.Unknown x))
  unknown_shows x found =
      subst (λ (es : List Event). Lists (show_reply (caret version index) es) (Err (fault.Unknown x))) same
      (ap (λ o. unless_unknown o (caret_reply index (length (text_at graph version)) graph (caret_at graph version index))) found)

  past_shows : (len : ℕ) → first_unknown graph version ≡ None → len ≡ length (visible_at graph version) → len < index → Lists (show_reply (caret version index) held) (Err (fault.OutOfRange index len))
  unfolding text_at
  past_shows len none long above =
      subst (λ (es : List Event). Lists (show_reply (caret version index) es) (Err (fault.OutOfRange index len))) same
      (ap (λ o. unless_unknown o (caret_reply index (length (text_at graph version)) graph (caret_at graph version index))) none
      ∙ ap (caret_reply index (length (text_at graph version)) graph) (past_end (visible_at graph version) index (subst (λ n. n < index) long above))
      ∙ ap (λ n. refuses (index_out_of_range index n)) (length-map (visible_at graph version) (λ (z : Inserted). z.ch) ∙ sym long))

  -- a caret that isn't taken is refused as the fault says
  pub refused_shows : (f : CaretFault) → TellsFirst (first_unknown graph version) (Err f) → ((len : ℕ) → not_taken f ≡ not_taken (OutOfRange len) → (len ≡ length (visible_at graph version)) × (len < index))
      → Lists (show_reply (caret version index) held) (Err (caret_fault index f))
  refused_shows (Unknown x) tells out = unknown_shows x ((tells x).0 refl)
  refused_shows (OutOfRange len) tells out =
      let told = out len refl in
      past_shows len (all_there (first_unknown graph version) (Err (OutOfRange len)) tells (two_faults len)) told.0 told.1
  refused_shows OutOfMemory tells out = tt
