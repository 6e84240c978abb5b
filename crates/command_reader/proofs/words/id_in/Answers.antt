use Rattle.std.proofs.Common.{◌≡◌, ◌≢◌, ℕ, List, [], ◌∷◌, Option, Some, None, option_and_then, IfSome, IfNone, refl, sym, ap, subst, ◌∙◌, append-nil}
use Rattle.ew_model.specs.declared.id.Id.{Id}
use Rattle.ew_model.specs.Scripts.{id_text}
use Rattle.ew_model.specs.Sound.{IsSoundId}
use Rattle.history_definitions.specs.Versions.{IsVersion}
use Rattle.command_table.specs.Table.{id_in, only_id}
use Rattle.command_table.specs.VersionWords.{version_in}
use Rattle.command_table.proofs.VersionReading.{is_taken, takes}
use Rattle.command_reader.proofs.words.id_in.Goals as goal

-- an id that the word spells is the one of the version that the word is
one_id : (word : List ℕ) (x : Id) → IsSoundId x → id_text x ≡ word → id_in word ≡ Some x
one_id word x sound spelled = ap (option_and_then only_id) (takes word (x ∷ []) (record { sound = (sound, tt); spelled = append-nil (id_text x) ∙ spelled }))

-- a word that spells no id is no version of one
none_spelled : (word : List ℕ) → ((x : Id) → IsSoundId x → id_text x ≢ word) → (version : Option (List Id)) → version_in word ≡ version → option_and_then only_id version ≡ None
none_spelled word none None e = refl
none_spelled word none (Some []) e = refl
none_spelled word none (Some (x ∷ [])) e =
    let v = is_taken word (x ∷ []) e in
    absurd (none x v.sound.0 (sym (append-nil (id_text x)) ∙ v.spelled))
none_spelled word none (Some (x ∷ y ∷ ids)) e = refl

no_id : (word : List ℕ) → ((x : Id) → IsSoundId x → id_text x ≢ word) → id_in word ≡ None
no_id word none = none_spelled word none (version_in word) refl

-- what was read of the word's bytes
told : (word bytes : List ℕ) (read : Option Id) → bytes ≡ word
    → ((x : Id) → read ≡ Some x → IsSoundId x × (id_text x ≡ bytes))
    → (read ≡ None → (x : Id) → IsSoundId x → id_text x ≢ bytes)
    → read ≡ id_in word
told word bytes None same some none =
    sym (no_id word (λ x sound is. none refl x sound (is ∙ sym same)))
told word bytes (Some x) same some none =
    let it = some x refl in
    sym (one_id word x it.0 (it.1 ∙ same))

pub returns : goal.returns
returns c =
    told c.args.word.now c.as_bytes.result.now c.read_id.result c.as_bytes.ensures.value
    (λ x e. subst (λ o. IfSome o (λ y. IsSoundId y × (id_text y ≡ c.as_bytes.result.now))) e c.read_id.ensures.id)
    (λ e. subst (λ o. IfNone o ((x : Id) → IsSoundId x → id_text x ≢ c.as_bytes.result.now)) e c.read_id.ensures.none)
