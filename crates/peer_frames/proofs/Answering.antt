-- What a reader answers.
use Rattle.std.proofs.Common.{◌≡◌, ℕ, ◌+◌, ◌-◌, ◌^◌, ◌<◌, List, ◌++◌, length, take, drop, Option, Some, IfSome, Result, Ok, Err, refl, sym, ap, subst, ◌∙◌, append_assoc, arith}
use Rattle.std.specs.Prelude.{OnOk, OnErr}
use Rattle.ew_model.specs.Limits.{LimitNumbers}
use Rattle.ew_model.specs.Bytes.{AreBytes}
use Rattle.peer_frames.specs.declared.kind.Kind.{Kind}
use Rattle.peer_definitions.specs.declared.frame.Frame.{Frame}
use Rattle.peer_frames.specs.declared.fault.FrameFault.{FrameFault}
use Rattle.peer_frames.specs.declared.fault.FrameFault.TheVariants as faults
use Rattle.peer_definitions.specs.Spelling.{IsBody}
use Rattle.peer_definitions.specs.Cutting.{head_of, Tells, Finds}
use Rattle.peer_definitions.specs.Cutting.Head.{Complete}
use Rattle.peer_definitions.specs.Cutting.Front.{Whole, BadBody}
use Rattle.peer_frames.specs.Answers.{said, IsRead}
use Rattle.peer_frames.specs.Reading.{kind_byte, frame_in, Gives}
use Rattle.peer_frames.proofs.Bodies.{frame_some, frame_back}
use Rattle.peer_frames.proofs.Cuts.{faults_stay, none_is}

-- a bad body stays bad
pub stays_bad : {T E : Type 0} (limits : LimitNumbers) (bytes piece now : List ℕ) (r : Result T E) → OnOk r (now ≡ bytes ++ piece) → OnErr r (now ≡ bytes) → Finds limits bytes BadBody → Finds limits now BadBody
stays_bad limits bytes piece now (Ok x) ok err bad = subst (λ bs. Finds limits bs BadBody) (sym ok) (faults_stay limits bytes piece BadBody refl bad)
stays_bad limits bytes piece now (Err e) ok err bad = subst (λ bs. Finds limits bs BadBody) (sym err) bad

-- a body that was read by its fields
pub is_read : (kind : Kind) (body : List ℕ) (r : Result Frame FrameFault) → AreBytes body → length body < 2 ^ 32 → Gives (λ f. f) r (frame_in kind body) → IsRead (kind_byte kind) body r
is_read kind body (Ok f) fits short read = frame_some kind body f fits short read
is_read kind body (Err faults.BadBody) fits short read = λ f h. none_is f (sym read ∙ frame_back kind body f h)
is_read kind body (Err faults.OutOfMemory) fits short read = tt
is_read kind body (Err (faults.TooLong n)) fits short read = read
is_read kind body (Err (faults.BadKind k)) fits short read = read

-- what a reader has in front, by the kind and the length of the body
pub record HasBody (limits : LimitNumbers) (bytes : List ℕ) (kind : Kind) (len : ℕ) (body : List ℕ) : Type 0 where
  pub head : head_of limits bytes ≡ Complete (kind_byte kind) (take len (drop 5 bytes)) (drop (5 + len) bytes)
  pub cut : body ≡ take len (drop 5 bytes)

-- as the code sees it
pub has_body : (limits : LimitNumbers) (bytes slice again : List ℕ) (kind : Kind) (len : ℕ) → slice ≡ bytes → again ≡ bytes → head_of limits slice ≡ Complete (kind_byte kind) (take len (drop 5 slice)) (drop (5 + len) slice) → HasBody limits bytes kind len (take ((5 + len) - 5) (drop 5 again))
has_body limits bytes slice again kind len e f head =
    let n : (5 + len) - 5 ≡ len = omega arith in
    record {
      head = subst (λ bs. head_of limits bs ≡ Complete (kind_byte kind) (take len (drop 5 bs)) (drop (5 + len) bs)) e head;
      cut = ap (λ k. take k (drop 5 again)) n ∙ ap (λ bs. take len (drop 5 bs)) f;
    }

pub finds_whole : (limits : LimitNumbers) (bytes : List ℕ) (kind : Kind) (len : ℕ) (body : List ℕ) (f : Frame) → HasBody limits bytes kind len body → IsBody (kind_byte kind) body f → Finds limits bytes (Whole f (drop (5 + len) bytes))
finds_whole limits bytes kind len body f h is =
    subst (λ head. Tells head (Whole f (drop (5 + len) bytes))) (sym h.head) (subst (λ bs. IsBody (kind_byte kind) bs f) h.cut is, refl)

pub finds_bad : (limits : LimitNumbers) (bytes : List ℕ) (kind : Kind) (len : ℕ) (body : List ℕ) → HasBody limits bytes kind len body → ((f : Frame) → IsBody (kind_byte kind) body f → ⊥) → Finds limits bytes BadBody
finds_bad limits bytes kind len body h bad =
    subst (λ head. Tells head BadBody) (sym h.head) (subst (λ bs. (f : Frame) → IsBody (kind_byte kind) bs f → ⊥) h.cut bad)

-- the frame that a reader answers
pub found_next : (limits : LimitNumbers) (bytes kept : List ℕ) (f : Frame) (r : Result (Option Frame) FrameFault) (o : Option Frame) → r ≡ Ok o → o ≡ Some f → IfSome (said r kept) (λ front. Finds limits bytes front) → Finds limits bytes (Whole f kept)
found_next limits bytes kept f r o is some found = subst (λ x. IfSome (said x kept) (λ front. Finds limits bytes front)) (is ∙ ap (λ (x : Option Frame). Ok x) some) found

-- four numbers, written one after the other
pub four_written : {T E : Type 0} (r : Result T E) (before a b c d first second third now : List ℕ) → first ≡ before ++ a → second ≡ first ++ b → third ≡ second ++ c → OnOk r (now ≡ third ++ d) → OnOk r (now ≡ before ++ (((a ++ b) ++ c) ++ d))
four_written (Ok x) before a b c d first second third now p q s t =
    let two : second ≡ before ++ (a ++ b) = q ∙ ap (λ l. l ++ b) p ∙ append_assoc before a b in
    let three : third ≡ before ++ ((a ++ b) ++ c) = s ∙ ap (λ l. l ++ c) two ∙ append_assoc before (a ++ b) c in
    t ∙ ap (λ l. l ++ d) three ∙ append_assoc before ((a ++ b) ++ c) d
four_written (Err e) before a b c d first second third now p q s t = t
