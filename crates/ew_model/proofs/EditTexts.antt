-- The operations of an edit: each is in range, and together they put in or take out the characters at the index.
use Rattle.std.proofs.Common.{◌≡◌, ℕ, zero, suc, ◌+◌, ◌-◌, ◌<◌, ◌≤◌, ◌^◌, List, [], ◌∷◌, ◌++◌, map, length, take, drop, insert, remove, refl, sym, ap, ◌∙◌, append_assoc, length-append, add-zero, arith}
use Rattle.std.specs.List.{AllByRecursion}
use Rattle.std.proofs.lemmas.List.{take-append-drop, length-take-le, take_at, drop_at, drop-drop}
use Rattle.std.proofs.lemmas.List.Edits.{length-insert, length-remove}
use Rattle.ew_model.specs.declared.event.Op.TheVariants.{Ins}
use Rattle.ew_model.specs.Sound.{IsSoundOp}
use Rattle.ew_model.specs.Operations.{changed_by_all}
use Rattle.ew_model.specs.TextLaws.{own_change, AllFit}
use Rattle.ew_model.specs.Edits.{Edit, insertions_at, deletions_at, back_deletions_at, ops_of, needed_length}
use Rattle.ew_model.specs.Edits.Edit.{Insert, Delete, Mark}
use Rattle.ew_model.specs.EditLaws.{edited, size_of}

pub insertions_fit : (at : ℕ) (text t : List ℕ) → at ≤ length t → AllFit t (map own_change (insertions_at at text))
insertions_fit at [] t h = tt
insertions_fit at (ch ∷ text) t h = (h, insertions_fit (at + 1) text (insert t at ch) (let more = length-insert t at ch h in omega (arith, h, more)))

pub deletions_fit : (at n : ℕ) (t : List ℕ) → at + n ≤ length t → AllFit t (map own_change (deletions_at at n))
deletions_fit at zero t h = tt
deletions_fit at (suc n) t h = (omega (arith, h), deletions_fit at n (remove t at) (let less = length-remove t at (omega (arith, h)) in omega (arith, h, less)))

pub insertions_change : (at : ℕ) (text t : List ℕ) → at ≤ length t → changed_by_all (map own_change (insertions_at at text)) t ≡ take at t ++ (text ++ drop at t)
insertions_change at [] t h = sym (take-append-drop at t)
insertions_change at (ch ∷ text) t h =
    let front = take at t ++ ch ∷ [] in
    let split : insert t at ch ≡ front ++ drop at t = sym (append_assoc (take at t) (ch ∷ []) (drop at t)) in
    let long : length front ≡ at + 1 = length-append (take at t) (ch ∷ []) ∙ ap (λ n. n + 1) (length-take-le at t h) in
    let taken : take (at + 1) (insert t at ch) ≡ front = ap (take (at + 1)) split ∙ take_at front (drop at t) (at + 1) long in
    let left : drop (at + 1) (insert t at ch) ≡ drop at t = ap (drop (at + 1)) split ∙ drop_at front (drop at t) (at + 1) long in
    insertions_change (at + 1) text (insert t at ch) (let more = length-insert t at ch h in omega (arith, h, more))
    ∙ ((λ i. taken i ++ (text ++ left i)) ∙ append_assoc (take at t) (ch ∷ []) (text ++ drop at t))

pub deletions_change : (at n : ℕ) (t : List ℕ) → at + n ≤ length t → changed_by_all (map own_change (deletions_at at n)) t ≡ take at t ++ drop (at + n) t
deletions_change at zero t h = sym (take-append-drop at t) ∙ ap (λ k. take at t ++ drop k t) (omega arith)
deletions_change at (suc n) t h =
    let long : length (take at t) ≡ at = length-take-le at t (omega (arith, h)) in
    let taken : take at (remove t at) ≡ take at t = take_at (take at t) (drop (suc at) t) at long in
    let left : drop (at + n) (remove t at) ≡ drop (at + suc n) t =
    sym (drop-drop n at (remove t at)) ∙ (ap (drop n) (drop_at (take at t) (drop (suc at) t) at long) ∙ (drop-drop n (suc at) t ∙ ap (λ k. drop k t) (omega arith))) in
    deletions_change at n (remove t at) (let less = length-remove t at (omega (arith, h)) in omega (arith, h, less)) ∙ (λ i. taken i ++ left i)

pub insertions_long : (at : ℕ) (text : List ℕ) → length (insertions_at at text) ≡ length text
insertions_long at [] = refl
insertions_long at (ch ∷ text) = ap (λ n. suc n) (insertions_long (at + 1) text)

pub deletions_long : (at n : ℕ) → length (deletions_at at n) ≡ n
deletions_long at zero = refl
deletions_long at (suc n) = ap (λ n. suc n) (deletions_long at n)

pub back_long : (at n : ℕ) → length (back_deletions_at at n) ≡ n
back_long at zero = refl
back_long at (suc n) = ap (λ n. suc n) (back_long (at - 1) n)

-- The operations of an edit whose text is long enough are in range.
pub edit_fits : (edit : Edit) (t : List ℕ) → needed_length edit ≤ length t → AllFit t (map own_change (ops_of edit))
edit_fits (Insert at text) t h = insertions_fit at text t h
edit_fits (Delete at count) t h = deletions_fit at count t h
edit_fits (Mark label) t h = tt

-- They do the edit.
pub edit_changes : (edit : Edit) (t : List ℕ) → needed_length edit ≤ length t → changed_by_all (map own_change (ops_of edit)) t ≡ edited edit t
edit_changes (Insert at text) t h = insertions_change at text t h
edit_changes (Delete at count) t h = deletions_change at count t h
edit_changes (Mark label) t h = refl

-- There is one for each character.
pub edit_long : (edit : Edit) → length (ops_of edit) ≡ size_of edit
edit_long (Insert at text) = insertions_long at text
edit_long (Delete at count) = deletions_long at count
edit_long (Mark label) = refl

-- one character more is one insertion more
pub insertions_push : (at : ℕ) (text : List ℕ) (ch : ℕ) → insertions_at at (text ++ ch ∷ []) ≡ insertions_at at text ++ Ins (at + length text) ch ∷ []
insertions_push at [] ch = ap (λ k. Ins k ch ∷ []) (sym (add-zero at))
insertions_push at (x ∷ text) ch =
    let next : (at + 1) + length text ≡ at + suc (length text) = omega arith in
    ap (λ ops. Ins at x ∷ ops) (insertions_push (at + 1) text ch ∙ ap (λ k. insertions_at (at + 1) text ++ Ins k ch ∷ []) next)

-- deletions can be made at an index that fits
pub deletions_sound : (at n : ℕ) → at < 2 ^ 32 → AllByRecursion IsSoundOp (deletions_at at n)
deletions_sound at zero few = tt
deletions_sound at (suc n) few = (few, deletions_sound at n few)

pub back_sound : (at n : ℕ) → at < 2 ^ 32 → AllByRecursion IsSoundOp (back_deletions_at at n)
back_sound at zero few = tt
back_sound at (suc n) few = (few, back_sound (at - 1) n (omega (arith, few)))
