-- Ids that are read from the front, one after another.
use Rattle.std.proofs.Common.{◌≡◌, ◌≢◌, ◌↔◌, ℕ, ◌<◌, ◌^◌, true, List, [], ◌∷◌, ◌++◌, codes, None, Result, Ok, Err, IsOk, IsOkUnless, refl, sym, ap, ◌∙◌, subst, append_assoc, append-nil}
use Rattle.std.specs.Fmt.{decimal}
use Rattle.std.specs.List.{All}
use Rattle.std.specs.Result.{result_ok}
use Rattle.std.proofs.lemmas.Bool.{false≢true}
use Rattle.std.proofs.lemmas.List.Elements.{recursion_from_All}
use Rattle.ew_model.specs.declared.id.Id.{Id}
use Rattle.ew_model.specs.Names.{is_name}
use Rattle.ew_model.specs.Scripts.{id_text}
use Rattle.ew_model.specs.Sound.{IsSoundId}
use Rattle.ew_model.proofs.LineLaws.{Lacks, cut_once, never_cut}
use Rattle.history_definitions.specs.Versions.{IsVersion}
use Rattle.script_reader.specs.declared.version.VersionTextFault.{VersionTextFault}
use Rattle.script_reader.specs.declared.version.VersionTextFault.TheVariants.{Unreadable, OutOfMemory}
use Rattle.script_reader.specs.IdLists.{AreIds}
use Rattle.history_definitions.proofs.IdTexts.{name_lacks, id_cut, id_lacks_comma, id_once, behind}

-- no id is spelled so
abbrev pub SpellsNoId : List ℕ → Type 0
SpellsNoId word = (x : Id) → IsSoundId x → id_text x ≢ word

-- the bytes are these ids and those of the rest, and in no other way
pub record GoOn (bytes rest : List ℕ) (ids : List Id) : Type 0 where
  pub whole : (y : Id) (more : List Id) → AreIds rest (y ∷ more) → AreIds bytes (ids ++ y ∷ more)
  pub only : (all : List Id) → AreIds bytes all → (more : List Id) × (all ≡ ids ++ more) × AreIds rest more

pub start : (bytes : List ℕ) → GoOn bytes bytes []
start bytes = record { whole = λ y more h. h; only = λ all h. (all, refl, h) }

-- the word up to the first comma, and what is behind it
pub record AreCut (rest word later : List ℕ) : Type 0 where
  pub free : All (λ b. b ≢ 44) word
  pub whole : rest ≡ word ++ 44 ∷ later

lacks : (word : List ℕ) → All (λ b. b ≢ 44) word → Lacks word 44
lacks word free = recursion_from_All (λ b. b ≢ 44) word free

-- the rest begins with an id that is its word, and goes on
record Begins (word later : List ℕ) (ids : List Id) : Type 0 where
  first : Id
  second : Id
  more : List Id
  is : ids ≡ first ∷ second ∷ more
  sound : IsSoundId first
  spelled : id_text first ≡ word
  others : AreIds later (second ∷ more)

begins : (rest word later : List ℕ) (ids : List Id) → AreCut rest word later → AreIds rest ids → Begins word later ids
begins rest word later [] cut h = absurd h
begins rest word later (z ∷ []) cut h =
    absurd (never_cut 44 (id_text z) word later (id_lacks_comma z h.0.0) (sym (append-nil (id_text z)) ∙ h.1 ∙ cut.whole))
begins rest word later (z ∷ w ∷ ids) cut h =
    let two = cut_once 44 (id_text z) word (id_text w ++ behind ids) later (id_lacks_comma z h.0.0) (lacks word cut.free) (h.1 ∙ cut.whole) in
    record { first = z; second = w; more = ids; is = refl; sound = h.0.0; spelled = two.0; others = (h.0.1, two.1) }

-- one more id is read
pub go_on : (bytes rest word later : List ℕ) (old new : List Id) (x : Id) → GoOn bytes rest old → AreCut rest word later → IsSoundId x → id_text x ≡ word → new ≡ old ++ x ∷ [] → GoOn bytes later new
go_on bytes rest word later old new x so cut sound spelled is = record {
  whole = λ y more h.
      let here : AreIds rest (x ∷ y ∷ more) = ((sound, h.0), (λ i. spelled i ++ 44 ∷ h.1 i) ∙ sym cut.whole) in
      subst (AreIds bytes) (sym (ap (λ (ids : List Id). ids ++ y ∷ more) is ∙ append_assoc old (x ∷ []) (y ∷ more))) (so.whole x (y ∷ more) here);
  only = λ all h.
      let o = so.only all h in
      let b = begins rest word later o.0 cut o.2 in
      let same : b.first ≡ x = id_once b.first x b.sound sound (b.spelled ∙ sym spelled) in (
        b.second ∷ b.more,
        o.1 ∙ ap (λ (ids : List Id). old ++ ids) b.is ∙ (λ i. old ++ same i ∷ b.second ∷ b.more)
            ∙ sym (ap (λ (ids : List Id). ids ++ b.second ∷ b.more) is ∙ append_assoc old (x ∷ []) (b.second ∷ b.more)),
        b.others,
      );
}

-- the last id is read
pub ends : (bytes rest : List ℕ) (old new : List Id) (x : Id) → GoOn bytes rest old → IsSoundId x → id_text x ≡ rest → new ≡ old ++ x ∷ [] → AreIds bytes new
ends bytes rest old new x so sound spelled is = subst (AreIds bytes) (sym is) (so.whole x [] ((sound, tt), append-nil (id_text x) ∙ spelled))

-- a word that is no id is in no version
pub no_word : (bytes rest word later : List ℕ) (old : List Id) → GoOn bytes rest old → AreCut rest word later → SpellsNoId word → (all : List Id) → AreIds bytes all → ⊥
no_word bytes rest word later old so cut none all h =
    let o = so.only all h in let b = begins rest word later o.0 cut o.2 in none b.first b.sound b.spelled

last_alone : (rest : List ℕ) (ids : List Id) → All (λ b. b ≢ 44) rest → SpellsNoId rest → AreIds rest ids → ⊥
last_alone rest [] free none h = h
last_alone rest (z ∷ []) free none h = none z h.0.0 (sym (append-nil (id_text z)) ∙ h.1)
last_alone rest (z ∷ w ∷ ids) free none h = never_cut 44 rest (id_text z) (id_text w ++ behind ids) (lacks rest free) (sym h.1)

pub no_last : (bytes rest : List ℕ) (old : List Id) → GoOn bytes rest old → All (λ b. b ≢ 44) rest → SpellsNoId rest → (all : List Id) → AreIds bytes all → ⊥
no_last bytes rest old so free none all h = let o = so.only all h in last_alone rest o.0 free none o.2

-- what isn't unreadable is refused for want of memory alone
pub memory_alone : {T : Type 0} (bytes : List ℕ) (r : Result T VersionTextFault) (fault : VersionTextFault) → r ≡ Err fault
    → (fault ≡ Unreadable → (ids : List Id) → AreIds bytes ids → ⊥) → (ids : List Id) → AreIds bytes ids → IsOkUnless r OutOfMemory
memory_alone bytes r Unreadable e none ids h = absurd (none refl ids h)
memory_alone bytes r OutOfMemory e none ids h = subst (λ x. IsOkUnless x OutOfMemory) (sym e) refl

-- ids are a version
pub version_of : (bytes : List ℕ) (ids : List Id) → AreIds bytes ids → IsVersion bytes ids
version_of bytes [] h = absurd h
version_of bytes (x ∷ ids) h = record { sound = h.0; spelled = h.1 }

-- and what isn't `root` is one of ids alone
pub ids_of_version : (bytes : List ℕ) (ids : List Id) → bytes ≢ codes "root" → IsVersion bytes ids → AreIds bytes ids
ids_of_version bytes [] other v = other (sym v.spelled)
ids_of_version bytes (x ∷ ids) other v = (v.sound, v.spelled)

-- the word is cut at its first colon
pub record NameCut (word agent number : List ℕ) : Type 0 where
  pub free : All (λ b. b ≢ 58) agent
  pub whole : word ≡ agent ++ 58 ∷ number

module _ (word agent number : List ℕ) (cut : NameCut word agent number) where
  same_parts : (x : Id) → IsSoundId x → id_text x ≡ word → (x.agent ≡ agent) × (decimal x.seq ≡ number)
  same_parts x s e =
      cut_once 58 x.agent agent (decimal x.seq) number (name_lacks 58 x.agent refl s.agent) (recursion_from_All (λ b. b ≢ 58) agent cut.free) (sym (id_cut x) ∙ e ∙ cut.whole)

  pub no_name_no_id : {V E : Type 0} (r : Result V E) → (IsOk r ↔ (is_name agent ≡ true)) → None ≡ result_ok r → SpellsNoId word
  no_name_no_id (Ok v) h e x s k = cc
  no_name_no_id (Err f) h e x s k = false≢true (h.1 (ap is_name (sym (same_parts x s k).0) ∙ s.agent))

  pub no_number_no_id : ((n : ℕ) → n < 2 ^ 32 → decimal n ≢ number) → SpellsNoId word
  no_number_no_id none x s k = none x.seq s.seq (same_parts x s k).1
