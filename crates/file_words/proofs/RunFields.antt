-- What a run does: its operations that are read are those that were written, and the other way round.
use Rattle.std.proofs.Common.{◌≡◌, ℕ, zero, suc, ◌+◌, ◌^◌, ◌<◌, ◌≤◌, Bool, true, false, cond, not, ltb, leb, eqb, ◌&&◌, List, [], ◌∷◌, ◌++◌, length, flat_map, Option, Some, None, Ok, refl, sym, ap, subst, ◌∙◌, append_assoc, append-nil, arith}
use Rattle.std.specs.List.{AllByRecursion}
use Rattle.std.proofs.lemmas.Bool.{and_parts, and_from, and_right, not-true, not_from_false, ltb-true, lt-ltb, leb-true, le-leb}
use Rattle.ew_model.specs.declared.id.Id.{Id}
use Rattle.ew_model.specs.declared.event.Op.TheVariants.{Mark}
use Rattle.ew_model.specs.declared.event.Event.{Event}
use Rattle.ew_model.specs.Names.{is_name}
use Rattle.ew_model.specs.Bytes.{four_bytes, name_bytes, AreBytes}
use Rattle.file_words.specs.FileFaults.{Reader, done, go_on, ◌>>=◌, byte, number, field, only, read_name, is_scalar}
use Rattle.file_words.specs.FileFaults.RecordFault.{KindBad, Scalar, RunJoin, RunLength, IdTwice}
use Rattle.file_words.specs.FileRuns.{RunOps, FileRun, ops_count, takes_step, last_id, is_next_id, are_only, run_ops_bytes, read_text, read_one_mark, first_op, joins, indices_fit, may_be_count, are_new, read_ops_of, read_run_ops}
use Rattle.file_words.specs.FileRuns.RunOps.{Insertions, Deletions, BackDeletions, OneMark}
use Rattle.file_words.specs.FileRunLaws.{IsSteady, first_event}
use Rattle.file_words.proofs.FileFields.{Takes, Takes-then, go_ok, tested_ok, tested_again, byte_takes, number_takes, number_again, name_takes, name_again, scalar_small}

-- ---- characters

abbrev pub AreScalars : List ℕ → Type 0
AreScalars text = AllByRecursion (λ c. is_scalar c ≡ true) text

-- characters that were read behind others
pub record IsTextBehind (text : List ℕ) (n : ℕ) (bytes read left : List ℕ) : Type 0 where
  pub more : List ℕ
  pub joined : read ≡ text ++ more
  pub takes : Takes bytes (flat_map four_bytes more) left
  pub count : length more ≡ n
  pub scalars : AreScalars more

pub text_take : (n : ℕ) (text bytes : List ℕ) (y : List ℕ × List ℕ) → AreBytes bytes → read_text text n bytes ≡ Ok y → IsTextBehind text n bytes y.0 y.1
unfolding read_text
text_take zero text bytes y fits e =
    let same : (text, bytes) ≡ y = cc in
    subst (λ (p : List ℕ × List ℕ). IsTextBehind text zero bytes p.0 p.1) same
    (record { more = []; joined = sym (append-nil text); takes = record { parts = refl; fits = fits }; count = refl; scalars = tt })
text_take (suc n) text bytes y fits e =
    let g = go_ok (field number (only is_scalar) Scalar bytes) (λ ch. read_text (text ++ ch ∷ []) n) y e in
    let ch = g.0.0 in
    let t = tested_ok number is_scalar Scalar bytes g.0 g.1 in
    let first = number_takes bytes g.0 fits t.0 in
    let others = text_take n (text ++ ch ∷ []) g.0.1 y first.0.fits g.2 in
    record {
      more = ch ∷ others.more;
      joined = others.joined ∙ append_assoc text (ch ∷ []) others.more;
      takes = Takes-then bytes (four_bytes ch) g.0.1 (flat_map four_bytes others.more) y.1 first.0 others.takes;
      count = ap suc others.count;
      scalars = (t.1, others.scalars);
    }

pub text_again : (more text left : List ℕ) → AreScalars more → read_text text (length more) (flat_map four_bytes more ++ left) ≡ Ok (text ++ more, left)
unfolding read_text
text_again [] text left scalars = ap (λ x. Ok (x, left)) (sym (append-nil text))
text_again (ch ∷ more) text left scalars =
    let rest = flat_map four_bytes more ++ left in
    let regrouped : flat_map four_bytes (ch ∷ more) ++ left ≡ four_bytes ch ++ rest = append_assoc (four_bytes ch) (flat_map four_bytes more) left in
    let first : field number (only is_scalar) Scalar (four_bytes ch ++ rest) ≡ Ok (ch, rest) =
    tested_again number is_scalar Scalar (four_bytes ch ++ rest) rest ch (number_again ch rest (scalar_small ch scalars.0)) scalars.0 in
    ap (read_text text (length (ch ∷ more))) regrouped
    ∙ ap (λ r. go_on r (λ x. read_text (text ++ x ∷ []) (length more))) first
    ∙ text_again more (text ++ ch ∷ []) left scalars.1
    ∙ ap (λ xs. Ok (xs, left)) (append_assoc text (ch ∷ []) more)

-- ---- the operations of a run

abbrev run : Id → List Id → RunOps → FileRun
run x parents ops = record { id = x; parents = parents; ops = ops }

-- indices of 32 bits, characters that are scalars, and a label that is a name
abbrev pub AreSoundOps : RunOps → Type 0
AreSoundOps (Insertions at text) = (at + length text ≤ 2 ^ 32) × AreScalars text
AreSoundOps (Deletions at count) = at < 2 ^ 32
AreSoundOps (BackDeletions at count) = at < 2 ^ 32
AreSoundOps (OneMark label) = is_name label ≡ true

-- a run that may stand behind these events and this run, where so many events are left
pub record MayBeRun (before : List Event) (last : Option FileRun) (left : ℕ) (x : Id) (parents : List Id) (ops : RunOps) : Type 0 where
  pub steady : IsSteady ops
  pub few : ops_count ops ≤ left
  pub numbered : x.seq + ops_count ops ≤ 2 ^ 32
  pub sound : AreSoundOps ops
  pub new : are_new before x (ops_count ops) ≡ true
  pub apart : joins last (first_event (run x parents ops)) ≡ false

-- a mark continues no run
mark_apart : (last : Option FileRun) (x : Id) (parents : List Id) (label : List ℕ) → joins last (record { id = x; parents = parents; op = Mark label }) ≡ false
mark_apart None x parents label = refl
mark_apart (Some r) x parents label = and_right (is_next_id (last_id r) x && are_only parents (last_id r)) (takes_step r.ops (Mark label)) (no_step r.ops)
  where
    no_step : (ops : RunOps) → takes_step ops (Mark label) ≡ false
    no_step (Insertions at text) = refl
    no_step (Deletions at count) = refl
    no_step (BackDeletions at count) = refl
    no_step (OneMark other) = refl

-- the index of a run's first event
abbrev may_begin : Option FileRun → Id → List Id → ℕ → ℕ → Bool
may_begin last x parents kind at = not (joins last (record { id = x; parents = parents; op = first_op kind at }))

abbrev with_index : List Event → ℕ → Id → ℕ → ℕ → Reader RunOps
with_index before left x kind at = field (field number (only (may_be_count left x kind at)) RunLength) (only (are_new before x)) IdTwice >>= read_ops_of kind at

abbrev indexed : List Event → Option FileRun → ℕ → Id → List Id → ℕ → Reader RunOps
indexed before last left x parents kind = field number (only (may_begin last x parents kind)) RunJoin >>= with_index before left x kind

abbrev with_kind : List Event → Option FileRun → ℕ → Id → List Id → ℕ → Reader RunOps
with_kind before last left x parents kind = cond (eqb kind 2) read_one_mark (indexed before last left x parents kind)

-- a count that a run may have
pub record IsCount (left : ℕ) (x : Id) (kind at count : ℕ) : Type 0 where
  pub some : cond (eqb kind 3) 1 0 < count
  pub few : count ≤ left
  pub numbered : x.seq + count ≤ 2 ^ 32
  pub indices : indices_fit kind at count ≡ true

pub count_is : (left : ℕ) (x : Id) (kind at count : ℕ) → may_be_count left x kind at count ≡ true → IsCount left x kind at count
count_is left x kind at count h =
    let a = ltb (cond (eqb kind 3) 1 0) count in
    let b = leb count left in
    let c = leb (x.seq + count) (2 ^ 32) in
    let p = and_parts (a && b && c) (indices_fit kind at count) h in
    let q = and_parts (a && b) c p.0 in
    let r = and_parts a b q.0 in
    record { some = ltb-true (cond (eqb kind 3) 1 0) count r.0; few = leb-true count left r.1; numbered = leb-true (x.seq + count) (2 ^ 32) q.1; indices = p.1 }

count_from : (left : ℕ) (x : Id) (kind at count : ℕ) → IsCount left x kind at count → may_be_count left x kind at count ≡ true
count_from left x kind at count c =
    and_from _ _ (and_from _ _ (and_from _ _ (lt-ltb (cond (eqb kind 3) 1 0) count c.some) (le-leb count left c.few)) (le-leb (x.seq + count) (2 ^ 32) c.numbered)) c.indices

-- what is read of bytes is a run that may stand there, and its bytes
abbrev pub IsOpsRead : List Event → Option FileRun → ℕ → Id → List Id → List ℕ → RunOps × List ℕ → Type 0
IsOpsRead before last left x parents bytes y = Takes bytes (run_ops_bytes y.0) y.1 × MayBeRun before last left x parents y.0

-- the index and the count of operations were read
record AreHead (before : List Event) (last : Option FileRun) (left : ℕ) (x : Id) (parents : List Id) (kind : ℕ) (bytes rest : List ℕ) : Type 0 where
  at : ℕ
  count : ℕ
  takes : Takes bytes (four_bytes at ++ four_bytes count) rest
  at_fits : at < 2 ^ 32
  may_begin : may_begin last x parents kind at ≡ true
  is_count : IsCount left x kind at count
  new : are_new before x count ≡ true

indexed_take : (before : List Event) (last : Option FileRun) (left : ℕ) (x : Id) (parents : List Id) (kind : ℕ) (bytes : List ℕ) (y : RunOps × List ℕ) → AreBytes bytes → indexed before last left x parents kind bytes ≡ Ok y
    → (rest : List ℕ) × (h : AreHead before last left x parents kind bytes rest) × (read_ops_of kind h.at h.count rest ≡ Ok y)
indexed_take before last left x parents kind bytes y fits e =
    let g = go_ok (field number (only (may_begin last x parents kind)) RunJoin bytes) (with_index before left x kind) y e in
    let t = tested_ok number (may_begin last x parents kind) RunJoin bytes g.0 g.1 in
    let n = number_takes bytes g.0 fits t.0 in
    let at = g.0.0 in
    let counted = field number (only (may_be_count left x kind at)) RunLength in
    let k = go_ok (field counted (only (are_new before x)) IdTwice g.0.1) (read_ops_of kind at) y g.2 in
    let u = tested_ok counted (are_new before x) IdTwice g.0.1 k.0 k.1 in
    let v = tested_ok number (may_be_count left x kind at) RunLength g.0.1 k.0 u.0 in
    let m = number_takes g.0.1 k.0 n.0.fits v.0 in (
      k.0.1,
      record {
        at = at;
        count = k.0.0;
        takes = Takes-then bytes (four_bytes at) g.0.1 (four_bytes k.0.0) k.0.1 n.0 m.0;
        at_fits = n.1;
        may_begin = t.1;
        is_count = count_is left x kind at k.0.0 v.1;
        new = u.1;
      },
      k.2,
    )

indexed_again : (before : List Event) (last : Option FileRun) (left : ℕ) (x : Id) (parents : List Id) (kind at count : ℕ) (rest : List ℕ) → at < 2 ^ 32 → count < 2 ^ 32 → may_begin last x parents kind at ≡ true → IsCount left x kind at count → are_new before x count ≡ true
    → indexed before last left x parents kind (four_bytes at ++ (four_bytes count ++ rest)) ≡ read_ops_of kind at count rest
indexed_again before last left x parents kind at count rest at_fits count_fits begins is_count new =
    let counted = field number (only (may_be_count left x kind at)) RunLength in
    let a : field number (only (may_begin last x parents kind)) RunJoin (four_bytes at ++ (four_bytes count ++ rest)) ≡ Ok (at, four_bytes count ++ rest) =
    tested_again number (may_begin last x parents kind) RunJoin (four_bytes at ++ (four_bytes count ++ rest)) (four_bytes count ++ rest) at (number_again at (four_bytes count ++ rest) at_fits) begins in
    let b : counted (four_bytes count ++ rest) ≡ Ok (count, rest) =
    tested_again number (may_be_count left x kind at) RunLength (four_bytes count ++ rest) rest count (number_again count rest count_fits) (count_from left x kind at count is_count) in
    let c : field counted (only (are_new before x)) IdTwice (four_bytes count ++ rest) ≡ Ok (count, rest) =
    tested_again counted (are_new before x) IdTwice (four_bytes count ++ rest) rest count b new in
    ap (λ r. go_on r (with_index before left x kind)) a ∙ ap (λ r. go_on r (read_ops_of kind at)) c

-- by the kind
kind_take : (before : List Event) (last : Option FileRun) (left : ℕ) (x : Id) (parents : List Id) (kind : ℕ) (bytes : List ℕ) (y : RunOps × List ℕ) → kind < 4 → 1 ≤ left → x.seq < 2 ^ 32 → are_new before x 1 ≡ true → AreBytes bytes → with_kind before last left x parents kind bytes ≡ Ok y
    → (text : List ℕ) × (kind ∷ text ≡ run_ops_bytes y.0) × Takes bytes text y.1 × MayBeRun before last left x parents y.0
kind_take before last left x parents zero bytes y small some seq_fits new fits e =
    let h = indexed_take before last left x parents 0 bytes y fits e in
    let at = h.1.at in
    let g = go_ok (read_text [] h.1.count h.0) (λ text. done (Insertions at text)) y h.2 in
    let t = text_take h.1.count [] h.0 g.0 h.1.takes.fits g.1 in
    let c = h.1.is_count in
    let low : at + h.1.count ≤ 2 ^ 32 = leb-true (at + h.1.count) (2 ^ 32) c.indices in
    let head : Takes bytes (four_bytes at ++ four_bytes (length t.more)) h.0 = subst (λ n. Takes bytes (four_bytes at ++ four_bytes n) h.0) (sym t.count) h.1.takes in
    let all = Takes-then bytes (four_bytes at ++ four_bytes (length t.more)) h.0 (flat_map four_bytes t.more) g.0.1 head t.takes in
    let ops = Insertions at t.more in
    let same : (ops, g.0.1) ≡ y = ap (λ text. (Insertions at text, g.0.1)) (sym t.joined) ∙ cc in
    subst (λ (p : RunOps × List ℕ). (text : List ℕ) × (0 ∷ text ≡ run_ops_bytes p.0) × Takes bytes text p.1 × MayBeRun before last left x parents p.0) same (
      (four_bytes at ++ four_bytes (length t.more)) ++ flat_map four_bytes t.more,
      ap (λ text. 0 ∷ text) (append_assoc (four_bytes at) (four_bytes (length t.more)) (flat_map four_bytes t.more)),
      all,
      record {
        steady = omega (arith, c.some, t.count);
        few = omega (arith, c.few, t.count);
        numbered = omega (arith, c.numbered, t.count);
        sound = (omega (arith, low, t.count), t.scalars);
        new = ap (are_new before x) t.count ∙ h.1.new;
        apart = not-true _ h.1.may_begin;
      },
    )
kind_take before last left x parents (suc zero) bytes y small some seq_fits new fits e =
    let h = indexed_take before last left x parents 1 bytes y fits e in
    let c = h.1.is_count in
    let same : (Deletions h.1.at h.1.count, h.0) ≡ y = (let i = h.2 in cc) in
    subst (λ (p : RunOps × List ℕ). (text : List ℕ) × (1 ∷ text ≡ run_ops_bytes p.0) × Takes bytes text p.1 × MayBeRun before last left x parents p.0) same (
      four_bytes h.1.at ++ four_bytes h.1.count,
      refl,
      h.1.takes,
      record { steady = c.some; few = c.few; numbered = c.numbered; sound = h.1.at_fits; new = h.1.new; apart = not-true _ h.1.may_begin },
    )
kind_take before last left x parents (suc (suc zero)) bytes y small some seq_fits new fits e =
    let g = go_ok (read_name bytes) (λ label. done (OneMark label)) y e in
    let n = name_takes bytes g.0 fits g.1 in
    let same : (OneMark g.0.0, g.0.1) ≡ y = cc in
    subst (λ (p : RunOps × List ℕ). (text : List ℕ) × (2 ∷ text ≡ run_ops_bytes p.0) × Takes bytes text p.1 × MayBeRun before last left x parents p.0) same (
      name_bytes g.0.0,
      refl,
      n.0,
      record { steady = tt; few = some; numbered = omega arith; sound = n.1; new = new; apart = mark_apart last x parents g.0.0 },
    )
kind_take before last left x parents (suc (suc (suc zero))) bytes y small some seq_fits new fits e =
    let h = indexed_take before last left x parents 3 bytes y fits e in
    let c = h.1.is_count in
    let low : h.1.count ≤ suc h.1.at = leb-true h.1.count (suc h.1.at) c.indices in
    let same : (BackDeletions h.1.at h.1.count, h.0) ≡ y = (let i = h.2 in cc) in
    subst (λ (p : RunOps × List ℕ). (text : List ℕ) × (3 ∷ text ≡ run_ops_bytes p.0) × Takes bytes text p.1 × MayBeRun before last left x parents p.0) same (
      four_bytes h.1.at ++ four_bytes h.1.count,
      refl,
      h.1.takes,
      record { steady = (c.some, low); few = c.few; numbered = c.numbered; sound = h.1.at_fits; new = h.1.new; apart = not-true _ h.1.may_begin },
    )
kind_take before last left x parents (suc (suc (suc (suc k)))) bytes y small some seq_fits new fits e = absurd (omega (arith, small))

pub ops_take : (before : List Event) (last : Option FileRun) (left : ℕ) (x : Id) (parents : List Id) (bytes : List ℕ) (y : RunOps × List ℕ) → 1 ≤ left → x.seq < 2 ^ 32 → are_new before x 1 ≡ true → AreBytes bytes → read_run_ops before last left x parents bytes ≡ Ok y → IsOpsRead before last left x parents bytes y
unfolding read_run_ops
ops_take before last left x parents bytes y some seq_fits new fits e =
    let g = go_ok (field byte (only (λ kind. ltb kind 4)) KindBad bytes) (with_kind before last left x parents) y e in
    let kind = tested_ok byte (λ kind. ltb kind 4) KindBad bytes g.0 g.1 in
    let first = byte_takes bytes g.0 fits kind.0 in
    let rest = kind_take before last left x parents g.0.0 g.0.1 y (ltb-true _ _ kind.1) some seq_fits new first.fits g.2 in
    let both = Takes-then bytes (g.0.0 ∷ []) g.0.1 rest.0 y.1 first rest.2 in
    (subst (λ t. Takes bytes t y.1) rest.1 both, rest.3)

pub ops_again : (before : List Event) (last : Option FileRun) (left : ℕ) (x : Id) (parents : List Id) (ops : RunOps) (rest : List ℕ) → left < 2 ^ 32 → MayBeRun before last left x parents ops → read_run_ops before last left x parents (run_ops_bytes ops ++ rest) ≡ Ok (ops, rest)
unfolding read_run_ops
ops_again before last left x parents (Insertions at text) rest small m =
    let chars = flat_map four_bytes text ++ rest in
    let some : 0 < length text = m.steady in
    let regrouped : (four_bytes at ++ four_bytes (length text) ++ flat_map four_bytes text) ++ rest ≡ four_bytes at ++ (four_bytes (length text) ++ chars) =
    append_assoc (four_bytes at) (four_bytes (length text) ++ flat_map four_bytes text) rest ∙ ap (λ t. four_bytes at ++ t) (append_assoc (four_bytes (length text)) (flat_map four_bytes text) rest) in
    let c : IsCount left x 0 at (length text) = record { some = some; few = m.few; numbered = m.numbered; indices = le-leb (at + length text) (2 ^ 32) m.sound.0 } in
    ap (λ bytes. read_run_ops before last left x parents (0 ∷ bytes)) regrouped
    ∙ indexed_again before last left x parents 0 at (length text) chars (omega (arith, m.sound.0, some)) (omega (arith, m.few, small)) (not_from_false _ m.apart) c m.new
    ∙ ap (λ r. go_on r (λ t. done (Insertions at t))) (text_again text [] rest m.sound.1)
ops_again before last left x parents (Deletions at count) rest small m =
    let c : IsCount left x 1 at count = record { some = m.steady; few = m.few; numbered = m.numbered; indices = refl } in
    ap (λ bytes. read_run_ops before last left x parents (1 ∷ bytes)) (append_assoc (four_bytes at) (four_bytes count) rest)
    ∙ indexed_again before last left x parents 1 at count rest m.sound (omega (arith, m.few, small)) (not_from_false _ m.apart) c m.new
ops_again before last left x parents (BackDeletions at count) rest small m =
    let c : IsCount left x 3 at count = record { some = m.steady.0; few = m.few; numbered = m.numbered; indices = le-leb count (suc at) m.steady.1 } in
    ap (λ bytes. read_run_ops before last left x parents (3 ∷ bytes)) (append_assoc (four_bytes at) (four_bytes count) rest)
    ∙ indexed_again before last left x parents 3 at count rest m.sound (omega (arith, m.few, small)) (not_from_false _ m.apart) c m.new
ops_again before last left x parents (OneMark label) rest small m = ap (λ r. go_on r (λ name. done (OneMark name))) (name_again label rest m.sound)
