use Rattle.std.proofs.Common.{◌≡◌, ℕ, ◌+◌, ◌<◌, ◌%◌, nat_le, nat_lt, true, cond, ◌&&◌, [], ◌∷◌, ◌++◌, arith, refl, sym, ap, ◌∙◌, subst, append-nil}
use Rattle.std.specs.Char.{IsScalar, encode_utf8}
use Rattle.std.specs.Str.{chars}
use Rattle.std.proofs.lemmas.Bool.{and_from, lt-ltb}
use Rattle.std.proofs.lemmas.Str.{chars-encodes}
use Rattle.ew_model.specs.Edits.Edit.{Insert}
use Rattle.replica.specs.Answers.{EditsBy}
use Rattle.peer_definitions.specs.Draws.{letter}
use Rattle.generator.proofs.peers.insert_letter.Goals as goal

low : (ch : ℕ) → ch < 55296 → IsScalar ch
low ch less = ap (λ b. cond b true (nat_le 57344 ch && nat_lt ch 1114112)) (lt-ltb ch 55296 less)

letter_low : (n : ℕ) → 97 + n % 26 < 55296
letter_low n = omega arith

pub returns-clause-edits : goal.returns-clause-edits
returns-clause-edits g c =
    let ch = c.letter.result in
    let spelled : c.deref.result.now ≡ encode_utf8 ch = c.deref.ensures ∙ c.in_ok-push.ensures.bytes ∙ ap (λ bytes. bytes ++ encode_utf8 ch) c.new-text.ensures.bytes in
    let scalar : IsScalar ch = subst IsScalar (sym c.letter.ensures) (low (letter c.args.number) (letter_low c.args.number)) in
    let alone = ap chars (sym (append-nil (encode_utf8 ch))) ∙ chars-encodes (ch ∷ []) (and_from _ _ scalar refl) in
    let is : chars c.deref.result.now ≡ letter c.args.number ∷ [] = ap chars spelled ∙ alone ∙ ap (λ x. x ∷ []) c.letter.ensures in
    subst (λ text. EditsBy c.args.agent (Insert c.args.at text) c.args.replica.now c.insert.new.self c.insert.result) is c.insert.ensures.edits
