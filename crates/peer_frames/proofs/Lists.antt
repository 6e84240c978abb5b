-- Lists of things that are read one after the other, both ways.
use Rattle.std.proofs.Common.{◌≡◌, ℕ, zero, suc, List, [], ◌∷◌, ◌++◌, length, flat_map, Some, refl, sym, ap, subst, ◌∙◌, append_assoc, append-nil}
use Rattle.ew_model.specs.Bytes.{AreBytes}
use Rattle.file_words.proofs.FileFields.{Takes, Takes-then}
use Rattle.peer_frames.specs.Reading.{Reader, go_on}
use Rattle.peer_frames.proofs.Fields.{go_some}
use Rattle.ew_model.proofs.ListPlaces.{some_is}

-- each may stand behind those before it
abbrev pub AllBehind : {A : Type 0} → (List A → A → Type 0) → List A → List A → Type 0
AllBehind May before [] = Unit {0}
AllBehind May before (x ∷ xs) = May before x × AllBehind May (before ++ x ∷ []) xs

-- so many were read behind others
pub record AreRead {A : Type 0} (spell : A → List ℕ) (May : List A → A → Type 0) (before : List A) (n : ℕ) (bytes : List ℕ) (read : List A) (left : List ℕ) : Type 0 where
  pub more : List A
  pub joined : read ≡ before ++ more
  pub takes : Takes bytes (flat_map spell more) left
  pub count : length more ≡ n
  pub behind : AllBehind May before more

module _ {A : Type 0} (read : List A → ℕ → Reader (List A)) (first : List A → Reader A) (spell : A → List ℕ) (May : List A → A → Type 0)
    (step : (xs : List A) (n : ℕ) (bytes : List ℕ) → read xs (suc n) bytes ≡ go_on (first xs bytes) (λ x. read (xs ++ x ∷ []) n))
    (last : (xs : List A) (bytes : List ℕ) → read xs zero bytes ≡ Some (xs, bytes)) where
  pub list_some : ((xs : List A) (bytes : List ℕ) (y : A × List ℕ) → AreBytes bytes → first xs bytes ≡ Some y → Takes bytes (spell y.0) y.1 × May xs y.0)
      → (n : ℕ) (xs : List A) (bytes : List ℕ) (y : List A × List ℕ) → AreBytes bytes → read xs n bytes ≡ Some y → AreRead spell May xs n bytes y.0 y.1
  list_some one zero xs bytes y fits e =
      let same : (xs, bytes) ≡ y = some_is _ _ (sym (last xs bytes) ∙ e) in
      subst (λ (p : List A × List ℕ). AreRead spell May xs zero bytes p.0 p.1) same
      (record { more = []; joined = sym (append-nil xs); takes = record { parts = refl; fits = fits }; count = refl; behind = tt })
  list_some one (suc n) xs bytes y fits e =
      let g = go_some (first xs bytes) (λ x. read (xs ++ x ∷ []) n) y (sym (step xs n bytes) ∙ e) in
      let x = g.0.0 in
      let f = one xs bytes g.0 fits g.1 in
      let others = list_some one n (xs ++ x ∷ []) g.0.1 y f.0.fits g.2 in
      record {
        more = x ∷ others.more;
        joined = others.joined ∙ append_assoc xs (x ∷ []) others.more;
        takes = Takes-then bytes (spell x) g.0.1 (flat_map spell others.more) y.1 f.0 others.takes;
        count = ap suc others.count;
        behind = (f.1, others.behind);
      }

  pub list_back : ((xs : List A) (x : A) (left : List ℕ) → May xs x → first xs (spell x ++ left) ≡ Some (x, left))
      → (more xs : List A) (left : List ℕ) → AllBehind May xs more → read xs (length more) (flat_map spell more ++ left) ≡ Some (xs ++ more, left)
  list_back one [] xs left h = last xs left ∙ ap (λ ys. Some (ys, left)) (sym (append-nil xs))
  list_back one (x ∷ more) xs left h =
      let rest = flat_map spell more ++ left in
      ap (read xs (suc (length more))) (append_assoc (spell x) (flat_map spell more) left)
      ∙ step xs (length more) (spell x ++ rest)
      ∙ ap (λ r. go_on r (λ y. read (xs ++ y ∷ []) (length more))) (one xs x rest h.0)
      ∙ list_back one more (xs ++ x ∷ []) left h.1
      ∙ ap (λ ys. Some (ys, left)) (append_assoc xs (x ∷ []) more)
