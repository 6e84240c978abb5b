-- The lines of pieces, one character after another.
use Rattle.std.proofs.Common.{◌≡◌, ℕ, zero, suc, ◌+◌, ◌-◌, ◌<◌, ◌≤◌, true, false, List, [], ◌∷◌, ◌++◌, flat_map, map, length, take, drop, get_or, option_map, Option, Some, slice_get, refl, sym, ap, ◌∙◌, subst, append_assoc, append-nil, length-append, arith}
use Rattle.std.proofs.lemmas.List.{drop_at, length-map, map-append, take_at}
use Rattle.std.proofs.lemmas.Option.{get_or_from_slice_get, slice_get-get_or, slice_get-map}
use Rattle.ew_model.specs.declared.id.Id.{Id}
use Rattle.ew_model.specs.declared.event.Event.{Event}
use Rattle.ew_model.specs.Ancestors.{ids_of}
use Rattle.ew_model.specs.Entries.{Inserted}
use Rattle.ew_model.specs.Texts.{text_chars}
use Rattle.transform.proofs.TextOrder.{place_at}
use Rattle.blame.specs.Letters.{AreShownAt}
use Rattle.blame_definitions.specs.Blame.{blame_lines, piece_line, piece_text, text_line}
use Rattle.blame_definitions.specs.Pieces.{goes_on, pieces}
use Rattle.blame_definitions.proofs.Joins.{open_ends, open_first, open_goes_on, open_with}

-- the piece is a character with this id and others
pub record BeginsWith (piece : List Inserted) (x : Id) : Type 0 where
  pub first : Inserted
  pub others : List Inserted
  pub is : piece ≡ first ∷ others
  pub id : first.id ≡ x

begins_longer : (piece : List Inserted) (x : Id) (y : Inserted) → BeginsWith piece x → BeginsWith (piece ++ y ∷ []) x
begins_longer piece x y h = record { first = h.first; others = h.others ++ y ∷ []; is = ap (λ zs. zs ++ y ∷ []) h.is; id = h.id }

line_of : (columns : ℕ) (piece : List Inserted) (x : Id) → BeginsWith piece x → text_line columns x (piece_text piece) ≡ piece_line columns piece
line_of columns piece x h =
    (λ i. text_line columns (sym h.id i) (piece_text (h.is i)))
    ∙ ap (piece_line columns) (sym h.is)

-- The lines of all pieces that ended are written. The piece from one place on is open up to another.
pub record IsOpen (columns : ℕ) (whole : List Inserted) (out : List ℕ) (from at : ℕ) (first last : Id) : Type 0 where
  pub before : List Inserted
  pub front : List Inserted
  pub end : Inserted
  pub rest : List Inserted
  pub parts : whole ≡ before ++ (front ++ end ∷ rest)
  pub from_is : from ≡ length before
  pub at_is : at ≡ (length before + length front) + 1
  pub begins : BeginsWith (front ++ end ∷ []) first
  pub last_is : end.id ≡ last
  pub lines : out ++ flat_map (piece_line columns) (open_with front (pieces (end ∷ rest))) ≡ blame_lines columns whole

-- PLACES
behind_all : {X : Type 0} (xs rest : List X) (n : ℕ) (y : X) → n ≡ length xs → slice_get (xs ++ rest) n ≡ Some y → (tail : List X) × (rest ≡ y ∷ tail)
behind_all [] [] zero y e h = let no : ⊥ = cc in absurd no
behind_all [] (x ∷ rest) zero y e h = let same : x ≡ y = cc in (rest, ap (λ z. z ∷ rest) same)
behind_all [] rest (suc n) y e h = absurd (omega (arith, e))
behind_all (x ∷ xs) rest zero y e h = absurd (omega (arith, e))
behind_all (x ∷ xs) rest (suc n) y e h = behind_all xs rest n y (omega (arith, e)) h

at_place : {X : Type 0} (xs ys : List X) (x : X) (n : ℕ) → n ≡ length xs → slice_get (xs ++ x ∷ ys) n ≡ Some x
at_place [] ys x zero e = refl
at_place [] ys x (suc n) e = absurd (omega (arith, e))
at_place (y ∷ xs) ys x zero e = absurd (omega (arith, e))
at_place (y ∷ xs) ys x (suc n) e = at_place xs ys x n (omega (arith, e))

-- the character at a place, where its event is
pub shown_there : (history : List Event) (positions : List ℕ) (n : ℕ) → AreShownAt history positions → n < length positions
    → (z : Inserted) × (slice_get (text_chars history) n ≡ Some z) × (slice_get (ids_of history) (get_or positions n 0) ≡ Some z.id)
shown_there history positions n are within = place_at (ids_of history) (text_chars history) positions n (get_or positions n 0) are (slice_get-get_or positions n 0 within)

pub shown_long : (history : List Event) (positions : List ℕ) → AreShownAt history positions → length positions ≡ length (text_chars history)
shown_long history positions are =
    sym (length-map positions (slice_get (ids_of history)))
    ∙ ap (length {A = Option Id}) are
    ∙ length-map (map (λ (z : Inserted). z.id) (text_chars history)) (λ (x : Id). Some x)
    ∙ length-map (text_chars history) (λ (z : Inserted). z.id)

-- WHERE IT BEGINS
pub opens : (columns : ℕ) (whole : List Inserted) (out : List ℕ) (z : Inserted) (first : Id) → slice_get whole 0 ≡ Some z → first ≡ z.id → out ≡ [] → IsOpen columns whole out 0 1 first first
opens columns [] out z first h id none = let no : ⊥ = cc in absurd no
opens columns (y ∷ rest) out z first h id none =
    let same : y ≡ z = cc in
    let own : y.id ≡ first = ap (λ (w : Inserted). w.id) same ∙ sym id in
    record {
      before = [];
      front = [];
      end = y;
      rest = rest;
      parts = refl;
      from_is = refl;
      at_is = refl;
      begins = record { first = y; others = []; is = refl; id = own };
      last_is = own;
      lines = (λ i. none i ++ flat_map (piece_line columns) (open_first y rest i));
    }

module _ (columns : ℕ) (whole : List Inserted) (out : List ℕ) (from at : ℕ) (first last : Id) (h : IsOpen columns whole out from at first last) where
  abbrev piece : List Inserted
  piece = h.front ++ h.end ∷ []

  joined : whole ≡ (h.before ++ piece) ++ h.rest
  joined =
      h.parts
      ∙ ap (λ zs. h.before ++ zs) (sym (append_assoc h.front (h.end ∷ []) h.rest))
      ∙ sym (append_assoc h.before piece h.rest)

  long : at ≡ length (h.before ++ piece)
  long = omega (arith, h.at_is, length-append h.before piece, length-append h.front (h.end ∷ []))

  -- its text
  pub low : at ≤ length whole
  low = omega (arith, long, ap (length {A = Inserted}) joined, length-append (h.before ++ piece) h.rest)

  pub some : from < at
  some = omega (arith, h.at_is, h.from_is)

  behind : drop from (map (λ z. z.ch) whole) ≡ piece_text piece ++ map (λ z. z.ch) h.rest
  behind =
      let size : length (map (λ (z : Inserted). z.ch) h.before) ≡ from = length-map h.before (λ (z : Inserted). z.ch) ∙ sym h.from_is in
      ap (drop from) (ap (map (λ (z : Inserted). z.ch)) (joined ∙ append_assoc h.before piece h.rest) ∙ map-append (λ (z : Inserted). z.ch) h.before (piece ++ h.rest))
      ∙ drop_at (map (λ (z : Inserted). z.ch) h.before) (map (λ z. z.ch) (piece ++ h.rest)) from size
      ∙ map-append (λ (z : Inserted). z.ch) piece h.rest

  pub open_text : take (at - from) (drop from (map (λ z. z.ch) whole)) ≡ piece_text piece
  open_text =
      let size : length (piece_text piece) ≡ at - from = omega (arith, length-map piece (λ (z : Inserted). z.ch), long, length-append h.before piece, h.from_is) in
      ap (take (at - from)) behind ∙ take_at (piece_text piece) (map (λ z. z.ch) h.rest) (at - from) size

  no_rest : length whole ≤ at → h.rest ≡ []
  no_rest all = by h.rest (omega (arith, all, long, ap (length {A = Inserted}) joined, length-append (h.before ++ piece) h.rest))
    where
      by : (zs : List Inserted) → length zs ≤ 0 → zs ≡ []
      by [] e = refl
      by (z ∷ zs) e = absurd (omega (arith, e))

  pub last_text : length whole ≤ at → drop from (map (λ z. z.ch) whole) ≡ piece_text piece
  last_text all = behind ∙ ap (λ zs. piece_text piece ++ map (λ z. z.ch) zs) (no_rest all) ∙ append-nil (piece_text piece)

  -- its last character
  pub end_there : slice_get whole (at - 1) ≡ Some h.end
  end_there =
      let size : at - 1 ≡ length (h.before ++ h.front) = omega (arith, h.at_is, length-append h.before h.front) in
      ap (λ zs. slice_get zs (at - 1)) (h.parts ∙ sym (append_assoc h.before h.front (h.end ∷ h.rest)))
      ∙ at_place (h.before ++ h.front) h.rest h.end (at - 1) size

  pub end_letter : (chars : List ℕ) (d : ℕ) → chars ≡ map (λ z. z.ch) whole → get_or chars (at - 1) d ≡ h.end.ch
  end_letter chars d are =
      ap (λ cs. get_or cs (at - 1) d) are
      ∙ get_or_from_slice_get (map (λ z. z.ch) whole) (at - 1) h.end.ch d (slice_get-map (λ (z : Inserted). z.ch) whole (at - 1) ∙ ap (option_map (λ (z : Inserted). z.ch)) end_there)

  module _ (y : Inserted) (next : Id) (there : slice_get whole at ≡ Some y) (id : next ≡ y.id) where
    rest_is : (tail : List Inserted) × (h.rest ≡ y ∷ tail)
    rest_is = behind_all (h.before ++ piece) h.rest at y long (ap (λ zs. slice_get zs at) (sym joined) ∙ there)

    tail : List Inserted
    tail = rest_is.0

    -- the next character goes on it,
    pub piece_goes_on : goes_on h.end y ≡ true → IsOpen columns whole out from (at + 1) first next
    unfolding rest_is tail
    piece_goes_on on = record {
      before = h.before;
      front = piece;
      end = y;
      rest = tail;
      parts = joined ∙ append_assoc h.before piece h.rest ∙ ap (λ zs. h.before ++ (piece ++ zs)) rest_is.1;
      from_is = h.from_is;
      at_is = omega (arith, long, length-append h.before piece);
      begins = begins_longer piece first y h.begins;
      last_is = sym id;
      lines = ap (λ ps. out ++ flat_map (piece_line columns) ps) (sym (open_goes_on h.front h.end y tail on) ∙ ap (λ zs. open_with h.front (pieces (h.end ∷ zs))) (sym rest_is.1))
          ∙ h.lines;
    }

    -- or begins another
    pub piece_ends : goes_on h.end y ≡ false → (more : List ℕ) (text : List ℕ) → text ≡ piece_text piece → more ≡ out ++ text_line columns first text → IsOpen columns whole more at (at + 1) next next
    unfolding rest_is tail
    piece_ends on more text is wrote = record {
      before = h.before ++ piece;
      front = [];
      end = y;
      rest = tail;
      parts = joined ∙ ap (λ zs. (h.before ++ piece) ++ zs) rest_is.1;
      from_is = long;
      at_is = omega (arith, long);
      begins = record { first = y; others = []; is = refl; id = sym id };
      last_is = sym id;
      lines =
          ap (λ os. os ++ flat_map (piece_line columns) (open_with [] (pieces (y ∷ tail)))) (wrote ∙ ap (λ t. out ++ text_line columns first t) is ∙ ap (λ l. out ++ l) (line_of columns piece first h.begins))
          ∙ append_assoc out (piece_line columns piece) (flat_map (piece_line columns) (open_with [] (pieces (y ∷ tail))))
          ∙ ap (λ ps. out ++ (piece_line columns piece ++ flat_map (piece_line columns) ps)) (open_first y tail)
          ∙ ap (λ ps. out ++ flat_map (piece_line columns) ps) (sym (open_ends h.front h.end y tail on) ∙ ap (λ zs. open_with h.front (pieces (h.end ∷ zs))) (sym rest_is.1))
          ∙ h.lines;
    }

    -- the same where they are named otherwise
    pub goes_on_as : goes_on h.end y ≡ true → (more : List ℕ) (start : ℕ) (begin : Id) → more ≡ out → start ≡ from → begin ≡ first → IsOpen columns whole more start (at + 1) begin next
    goes_on_as on more start begin kept same_start same_begin =
        subst (λ os. IsOpen columns whole os start (at + 1) begin next) (sym kept)
        (subst (λ k. IsOpen columns whole out k (at + 1) begin next) (sym same_start)
        (subst (λ b. IsOpen columns whole out from (at + 1) b next) (sym same_begin) (piece_goes_on on)))

    pub ends_as : goes_on h.end y ≡ false → (more : List ℕ) (text : List ℕ) (start : ℕ) (begin : Id) → text ≡ piece_text piece → more ≡ out ++ text_line columns first text → start ≡ at → begin ≡ next → IsOpen columns whole more start (at + 1) begin next
    ends_as on more text start begin is wrote same_start same_begin =
        subst (λ k. IsOpen columns whole more k (at + 1) begin next) (sym same_start)
        (subst (λ b. IsOpen columns whole more at (at + 1) b next) (sym same_begin) (piece_ends on more text is wrote))

  -- behind the last character
  pub all_lines : length whole ≤ at → (more : List ℕ) (text : List ℕ) → text ≡ piece_text piece → more ≡ out ++ text_line columns first text → more ≡ blame_lines columns whole
  all_lines all more text is wrote =
      wrote
      ∙ ap (λ t. out ++ text_line columns first t) is
      ∙ ap (λ l. out ++ l) (line_of columns piece first h.begins ∙ sym (append-nil (piece_line columns piece)))
      ∙ ap (λ zs. out ++ flat_map (piece_line columns) (open_with h.front (pieces (h.end ∷ zs)))) (sym (no_rest all))
      ∙ h.lines
