-- Pieces, one character after another, and their characters.
use Rattle.std.proofs.Common.{◌≡◌, ℕ, Bool, true, false, cond, List, [], ◌∷◌, ◌++◌, flat_map, map, Option, Some, None, refl, sym, ap, ◌∙◌, append_assoc, append-nil, encode_utf8, encode_utf8_all, codes, ◌==◌, arith}
use Rattle.std.specs.List.{onto_first}
use Rattle.std.specs.Str.{IsUtf8, chars}
use Rattle.std.proofs.lemmas.Str.{chars_from_encodes, encode_ascii, encodes-append}
use Rattle.ew_model.specs.declared.id.Id.{Id}
use Rattle.ew_model.specs.declared.event.Event.{Event}
use Rattle.ew_model.specs.Ancestors.{ancestors, version_events}
use Rattle.ew_model.specs.Entries.{Inserted, visible}
use Rattle.ew_model.specs.Ids.{id_eq, is_among}
use Rattle.ew_model.specs.Scripts.{escaped_char, escaped_text}
use Rattle.ew_model.specs.Sets.{Among, SameElements}
use Rattle.ew_model.specs.Texts.{text_at, text_of, visible_at}
use Rattle.ew_model.specs.Tree.{Noted, all_entries, entries_over, tree, tree_on}
use Rattle.ew_model.specs.Verdicts.{IsGood}
use Rattle.ew_model.proofs.EntryLaws.{points_back}
use Rattle.ew_model.proofs.EqualSets.{same_mapped, same_tree, same_visible_at, tree_apart, version_apart}
use Rattle.ew_model.proofs.GoodLaws.{good_laid_out}
use Rattle.ew_model.proofs.LocalEdit.{KnowsAll, all_known}
use Rattle.ew_model.proofs.PlaceLaws.{same_visible}
use Rattle.ew_model.proofs.SetLaws.{map_among}
use Rattle.ew_model.proofs.SortingLaws.{all_from}
use Rattle.ew_model.proofs.SubgraphLaws.{part_entries, part_over, taken_within, version_closed, version_is_part}
use Rattle.ew_model.proofs.TextLaws.{ids_equal}
use Rattle.ew_model.proofs.TreeLaws.{entry_after}
use Rattle.ew_model.proofs.VersionLaws.{any_from}
use Rattle.blame_definitions.specs.Blame.{blame_lines, blame_text, chars_at, piece_text}
use Rattle.blame_definitions.specs.BlameLaws.{EqualSetsBlameAlike, EscapesAreEscapedText, PiecesMakeText, VersionsBlameAlone}
use Rattle.blame_definitions.specs.Pieces.{goes_on, pieces}
use Rattle.blame_definitions.specs.Widths.{escape}

-- THEIR CHARACTERS
onto_joined : (z : Inserted) (ps : List (List Inserted)) → flat_map piece_text (onto_first z ps) ≡ z.ch ∷ flat_map piece_text ps
onto_joined z [] = refl
onto_joined z (p ∷ ps) = refl

pieces_joined : (chars : List Inserted) → flat_map piece_text (pieces chars) ≡ map (λ z. z.ch) chars
pieces_joined [] = refl
pieces_joined (z ∷ []) = refl
pieces_joined (z ∷ y ∷ chars) = at (goes_on z y) (pieces_joined (y ∷ chars))
  where
    at : (b : Bool) → flat_map piece_text (pieces (y ∷ chars)) ≡ map (λ w. w.ch) (y ∷ chars)
        → flat_map piece_text (cond b (onto_first z (pieces (y ∷ chars))) ((z ∷ []) ∷ pieces (y ∷ chars))) ≡ z.ch ∷ map (λ w. w.ch) (y ∷ chars)
    at true h = onto_joined z (pieces (y ∷ chars)) ∙ ap (λ cs. z.ch ∷ cs) h
    at false h = ap (λ cs. z.ch ∷ cs) h

pub make_text : PiecesMakeText
unfolding text_at text_of
make_text history = ((λ version. pieces_joined (visible_at history version)), pieces_joined (visible (all_entries 0 (tree history))))

-- ONE CHARACTER MORE
-- the pieces of what comes behind an open piece, with it
abbrev pub open_with : List Inserted → List (List Inserted) → List (List Inserted)
open_with front [] = front ∷ []
open_with front (p ∷ ps) = (front ++ p) ∷ ps

onto_open : (front : List Inserted) (z : Inserted) (ps : List (List Inserted)) → open_with front (onto_first z ps) ≡ open_with (front ++ z ∷ []) ps
onto_open front z [] = refl
onto_open front z (p ∷ ps) = ap (λ q. q ∷ ps) (sym (append_assoc front (z ∷ []) p))

-- the next character goes on the piece,
pub open_goes_on : (front : List Inserted) (z y : Inserted) (chars : List Inserted) → goes_on z y ≡ true → open_with front (pieces (z ∷ y ∷ chars)) ≡ open_with (front ++ z ∷ []) (pieces (y ∷ chars))
open_goes_on front z y chars h =
    ap (λ b. open_with front (cond b (onto_first z (pieces (y ∷ chars))) ((z ∷ []) ∷ pieces (y ∷ chars)))) h
    ∙ onto_open front z (pieces (y ∷ chars))

-- or ends it
pub open_ends : (front : List Inserted) (z y : Inserted) (chars : List Inserted) → goes_on z y ≡ false → open_with front (pieces (z ∷ y ∷ chars)) ≡ (front ++ z ∷ []) ∷ pieces (y ∷ chars)
open_ends front z y chars h = ap (λ b. open_with front (cond b (onto_first z (pieces (y ∷ chars))) ((z ∷ []) ∷ pieces (y ∷ chars)))) h

onto_none : (z : Inserted) (ps : List (List Inserted)) → open_with [] (onto_first z ps) ≡ onto_first z ps
onto_none z [] = refl
onto_none z (p ∷ ps) = refl

-- no piece is open before the first character
pub open_first : (y : Inserted) (chars : List Inserted) → open_with [] (pieces (y ∷ chars)) ≡ pieces (y ∷ chars)
open_first y [] = refl
open_first y (x ∷ chars) = at (goes_on y x)
  where
    at : (b : Bool) → open_with [] (cond b (onto_first y (pieces (x ∷ chars))) ((y ∷ []) ∷ pieces (x ∷ chars))) ≡ cond b (onto_first y (pieces (x ∷ chars))) ((y ∷ []) ∷ pieces (x ∷ chars))
    at true = onto_none y (pieces (x ∷ chars))
    at false = refl

-- EQUAL SETS
same_chars : (xs ys : List Event) (version : Option (List Id)) → IsGood xs → IsGood ys → SameElements xs ys → chars_at xs version ≡ chars_at ys version
unfolding tree
same_chars xs ys (Some version) good_xs good_ys s = same_visible_at xs ys version (good_laid_out xs good_xs) (good_laid_out ys good_ys) s
same_chars xs ys None good_xs good_ys s =
    let laid_xs = good_laid_out xs good_xs in
    let laid_ys = good_laid_out ys good_ys in
    same_visible (all_entries 0 (tree_on 0 xs)) (all_entries 0 (tree_on 0 ys)) (tree_apart xs laid_xs) (tree_apart ys laid_ys)
    (same_mapped (λ (n : Noted Id). n.entry) (tree_on 0 xs) (tree_on 0 ys) (same_tree xs ys laid_xs laid_ys s))

pub blame_alike : EqualSetsBlameAlike
unfolding blame_text
blame_alike xs ys version columns good_xs good_ys s = ap (blame_lines columns) (same_chars xs ys version good_xs good_ys s)

-- VERSIONS
-- the characters of a version are those of its events, as a history of their own
pub version_chars : (history : List Event) (named : List Id) → IsGood history → visible_at history named ≡ visible (all_entries 0 (tree (version_events history named)))
unfolding visible_at tree
version_chars history named good =
    let h = good_laid_out history good in
    let part = version_events history named in
    let p = version_is_part history named h in
    let entries : (f : Event) → Among f part → entry_after 0 history f ≡ entry_after 0 part f = part_entries part history [] part p (version_closed history named h) refl p.laid (λ f m. absurd m) in
    let same = part_over part history named p (λ f m. m) (λ f m a. entries f m) in
    let all : KnowsAll part (ancestors part named) = all_from (λ f. is_among (ancestors part named) f.id ≡ true) part (λ f m.
    any_from (id_eq f.id) (ancestors part named) f.id (map_among (λ (x : Event). x.id) (version_events part named) f (taken_within history part named (points_back [] part p.laid) (λ g k. k) f m)) (ids_equal.refl f.id)) in
    sym (same_visible (entries_over id_eq 0 (tree_on 0 part) (ancestors part named)) (entries_over id_eq 0 (tree_on 0 history) (ancestors history named))
    (version_apart part (ancestors part named) p.laid) (version_apart history (ancestors history named) h) same)
    ∙ ap visible (all_known part (ancestors part named) p.laid all)

pub versions_blame_alone : VersionsBlameAlone
unfolding blame_text
versions_blame_alone history version columns good = ap (blame_lines columns) (version_chars history version good)

-- THE ESCAPED FORM
escape_encoded : (c : ℕ) → encode_utf8_all (escape c) ≡ escaped_char c
escape_encoded c = at (c == 10) (c == 92)
  where
    at : (b d : Bool) → encode_utf8_all (cond b (codes "\\n") (cond d (codes "\\\\") (c ∷ []))) ≡ cond b (codes "\\n") (cond d (codes "\\\\") (encode_utf8 c))
    at true d = λ i. encode_ascii 92 (omega arith) i ++ (encode_ascii 110 (omega arith) i ++ [])
    at false true = λ i. encode_ascii 92 (omega arith) i ++ (encode_ascii 92 (omega arith) i ++ [])
    at false false = append-nil (encode_utf8 c)

pub escapes_encoded : EscapesAreEscapedText
escapes_encoded [] = refl
escapes_encoded (c ∷ text) =
    encodes-append (escape c) (flat_map escape text) ∙ (λ i. escape_encoded c i ++ escapes_encoded text i)

-- so these are the characters of its bytes
pub escaped_chars : (text bytes : List ℕ) → bytes ≡ escaped_text text → IsUtf8 bytes → chars bytes ≡ flat_map escape text
escaped_chars text bytes are utf8 = sym (chars_from_encodes (flat_map escape text) bytes utf8 (escapes_encoded text ∙ sym are))
