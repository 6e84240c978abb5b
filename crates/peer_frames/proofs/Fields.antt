-- A field that is read is the field that was written, and what was written is read again.
use Rattle.std.proofs.Common.{◌≡◌, ℕ, ◌^◌, ◌<◌, true, List, [], ◌∷◌, ◌++◌, Option, Some, None, Result, Ok, Err, refl, ap, subst, ◌∙◌, append_assoc}
use Rattle.std.specs.Result.{result_ok}
use Rattle.ew_model.specs.declared.id.Id.{Id}
use Rattle.ew_model.specs.declared.event.Op.{Op}
use Rattle.ew_model.specs.Names.{is_name}
use Rattle.ew_model.specs.Sound.{IsSoundId, IsSoundOp}
use Rattle.ew_model.specs.Bytes.{four_bytes, name_bytes, op_bytes, AreBytes}
use Rattle.file_words.specs.FileFaults.{byte, number, read_name, read_op}
use Rattle.file_words.proofs.FileFields.{Takes, Takes-then, byte_takes, number_takes, number_again, name_takes, name_again, op_takes, op_again}
use Rattle.peer_definitions.specs.Spelling.{id_bytes}
use Rattle.peer_frames.specs.Reading.{Reader, done, go_on, one_byte, one_number, one_name, one_operation, one_id}
use Rattle.ew_model.proofs.ListPlaces.{some_is}

pub ok_is : {T E : Type 0} (r : Result T E) (y : T) → result_ok r ≡ Some y → r ≡ Ok y
ok_is (Ok x) y e = ap Ok (some_is x y e)
ok_is (Err why) y e = absurd cc

-- what the first reader of two read, where both read something
pub go_some : {A B : Type 0} (r : Option (A × List ℕ)) (next : A → Reader B) (y : B × List ℕ) → go_on r next ≡ Some y → (x : A × List ℕ) × (r ≡ Some x) × (next x.0 x.1 ≡ Some y)
go_some (Some x) next y e = (x, refl, e)
go_some None next y e = absurd cc

-- ---- bytes, numbers, names, operations

pub byte_some : (bytes : List ℕ) (y : ℕ × List ℕ) → AreBytes bytes → one_byte bytes ≡ Some y → Takes bytes (y.0 ∷ []) y.1
byte_some bytes y fits e = byte_takes bytes y fits (ok_is (byte bytes) y e)

pub number_some : (bytes : List ℕ) (y : ℕ × List ℕ) → AreBytes bytes → one_number bytes ≡ Some y → Takes bytes (four_bytes y.0) y.1 × (y.0 < 2 ^ 32)
number_some bytes y fits e = number_takes bytes y fits (ok_is (number bytes) y e)

pub number_back : (n : ℕ) (left : List ℕ) → n < 2 ^ 32 → one_number (four_bytes n ++ left) ≡ Some (n, left)
number_back n left small = ap result_ok (number_again n left small)

pub name_some : (bytes : List ℕ) (y : List ℕ × List ℕ) → AreBytes bytes → one_name bytes ≡ Some y → Takes bytes (name_bytes y.0) y.1 × (is_name y.0 ≡ true)
name_some bytes y fits e = name_takes bytes y fits (ok_is (read_name bytes) y e)

pub name_back : (name left : List ℕ) → is_name name ≡ true → one_name (name_bytes name ++ left) ≡ Some (name, left)
name_back name left good = ap result_ok (name_again name left good)

pub op_some : (bytes : List ℕ) (y : Op × List ℕ) → AreBytes bytes → one_operation bytes ≡ Some y → Takes bytes (op_bytes y.0) y.1 × IsSoundOp y.0
op_some bytes y fits e = op_takes bytes y fits (ok_is (read_op bytes) y e)

pub op_back : (op : Op) (left : List ℕ) → IsSoundOp op → one_operation (op_bytes op ++ left) ≡ Some (op, left)
op_back op left sound = ap result_ok (op_again op left sound)

-- ---- ids

abbrev id_behind : List ℕ → Reader Id
id_behind agent bytes = go_on (one_number bytes) (λ seq. done (record { agent = agent; seq = seq }))

pub id_some : (bytes : List ℕ) (y : Id × List ℕ) → AreBytes bytes → one_id bytes ≡ Some y → Takes bytes (id_bytes y.0) y.1 × IsSoundId y.0
unfolding one_id
id_some bytes y fits e =
    let g = go_some (one_name bytes) id_behind y e in
    let name = name_some bytes g.0 fits g.1 in
    let h = go_some (one_number g.0.1) (λ seq. done (record { agent = g.0.0; seq = seq })) y g.2 in
    let seq = number_some g.0.1 h.0 name.0.fits h.1 in
    let same : (record { agent = g.0.0; seq = h.0.0 }, h.0.1) ≡ y = some_is _ _ h.2 in
    subst (λ (p : Id × List ℕ). Takes bytes (id_bytes p.0) p.1 × IsSoundId p.0) same
    (Takes-then bytes (name_bytes g.0.0) g.0.1 (four_bytes h.0.0) h.0.1 name.0 seq.0, record { agent = name.1; seq = seq.1 })

pub id_back : (x : Id) (left : List ℕ) → IsSoundId x → one_id (id_bytes x ++ left) ≡ Some (x, left)
unfolding one_id
id_back x left sound =
    ap one_id (append_assoc (name_bytes x.agent) (four_bytes x.seq) left)
    ∙ ap (λ r. go_on r id_behind) (name_back x.agent (four_bytes x.seq ++ left) sound.agent)
    ∙ ap (λ r. go_on r (λ seq. done (record { agent = x.agent; seq = seq }))) (number_back x.seq left sound.seq)
