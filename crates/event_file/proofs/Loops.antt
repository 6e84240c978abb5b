-- Reading things of one kind one after the other, as a loop does.
use Rattle.std.proofs.Common.{◌≡◌, ℕ, zero, suc, ◌+◌, ◌-◌, ◌<◌, ◌≤◌, Bool, List, [], ◌∷◌, ◌++◌, Result, Ok, sym, ap, ◌∙◌, arith}
use Rattle.file_words.specs.FileFaults as model
use Rattle.file_words.specs.FileFaults.{RecordFault, Reader, go_on, field, only}
use Rattle.event_file.specs.declared.fault.Stop.{Stop}
use Rattle.event_file.specs.declared.fault.Stop.TheVariants.{Field, OverLimit, OutOfMemory}
use Rattle.event_file.specs.Reading.{Stops}

-- Things are read behind others, so many; each by one reader that knows those before it.
module _ {A : Type 0} (read : List A → ℕ → Reader (List A)) (first : List A → Reader A) (step : (xs : List A) (n : ℕ) (bytes : List ℕ) → read xs (suc n) bytes ≡ go_on (first xs bytes) (λ x. read (xs ++ x ∷ []) n)) (last : (xs : List A) (bytes : List ℕ) → read xs zero bytes ≡ Ok (xs, bytes)) where
  one_step : (xs : List A) (count i : ℕ) (bytes : List ℕ) → i < count → read xs (count - i) bytes ≡ go_on (first xs bytes) (λ x. read (xs ++ x ∷ []) (count - (i + 1)))
  one_step xs count i bytes lt =
      let k : count - i ≡ suc (count - (i + 1)) = omega arith in
      ap (λ n. read xs n bytes) k ∙ step xs (count - (i + 1)) bytes

  pub goes_on : (xs : List A) (count i : ℕ) (bytes left : List ℕ) (x : A) (whole : Result (List A × List ℕ) model.Stop) → i < count → first xs bytes ≡ Ok (x, left) → read xs (count - i) bytes ≡ whole → read (xs ++ x ∷ []) (count - (i + 1)) left ≡ whole
  goes_on xs count i bytes left x whole lt one so_far =
      sym (one_step xs count i bytes lt ∙ ap (λ r. go_on r (λ y. read (xs ++ y ∷ []) (count - (i + 1)))) one) ∙ so_far

  pub ends : (stop : Stop) (xs : List A) (count i : ℕ) (bytes : List ℕ) (whole : Result (List A × List ℕ) model.Stop) → i < count → Stops stop (first xs bytes) → read xs (count - i) bytes ≡ whole → Stops stop whole
  ends OutOfMemory xs count i bytes whole lt one so_far = tt
  ends (Field left kind) xs count i bytes whole lt one so_far =
      sym so_far ∙ one_step xs count i bytes lt ∙ ap (λ r. go_on r (λ y. read (xs ++ y ∷ []) (count - (i + 1)))) one
  ends (OverLimit n) xs count i bytes whole lt one so_far =
      sym so_far ∙ one_step xs count i bytes lt ∙ ap (λ r. go_on r (λ y. read (xs ++ y ∷ []) (count - (i + 1)))) one

  pub is_done : (xs : List A) (count i : ℕ) (bytes : List ℕ) (whole : Result (List A × List ℕ) model.Stop) → count ≤ i → read xs (count - i) bytes ≡ whole → whole ≡ Ok (xs, bytes)
  is_done xs count i bytes whole le so_far =
      let k : count - i ≡ 0 = omega arith in
      sym so_far ∙ ap (λ n. read xs n bytes) k ∙ last xs bytes

-- tests that agree leave a field as it is
pub same_field : {A : Type 0} (read : Reader A) (f g : A → Bool) (kind : RecordFault) (bytes : List ℕ) → ((x : A) → f x ≡ g x) → field read (only f) kind bytes ≡ field read (only g) kind bytes
same_field read f g kind bytes h = λ i. field read (only (λ x. h x i)) kind bytes
