-- The characters of a run that is cut.
use Rattle.std.proofs.Common.{◌≡◌, ℕ, zero, suc, ◌<◌, List, [], ◌∷◌, ◌++◌, map, take, drop, refl, sym, ap, ◌∙◌, append_assoc}
use Rattle.std.proofs.lemmas.List.{map-append}
use Rattle.ew_model.specs.Runs.{NodeState}
use Rattle.walker_record.specs.Stretches.{Stretch, chars_of, first_part, second_part}
use Rattle.walker_record.specs.StretchLaws.{first_chars, second_chars}
use Rattle.character_runs.specs.Laid.{record_of, records_of, chars_in}
use Rattle.character_runs.proofs.RunChars.{chars-append}

both : {X : Type 0} (n : ℕ) (xs : List X) → take n xs ++ drop n xs ≡ xs
both zero xs = refl
both (suc n) [] = refl
both {X} (suc n) (x ∷ xs) = ap (λ (ys : List X). x ∷ ys) (both n xs)

module _ (run : Stretch) (n : ℕ) (inside : n < run.len) where
  pub parts_records : records_of (first_part run n) ++ records_of (second_part run n) ≡ records_of run
  parts_records =
      sym (map-append record_of (chars_of (first_part run n)) (chars_of (second_part run n)))
      ∙ ap (λ (xs : List NodeState). map record_of (xs ++ chars_of (second_part run n))) (first_chars run n inside)
      ∙ ap (λ (xs : List NodeState). map record_of (take n (chars_of run) ++ xs)) (second_chars run n inside)
      ∙ ap (map record_of) (both n (chars_of run))

  -- the characters of all runs are the same
  pub cut_chars : (front back : List (ℕ × Stretch)) (label own : ℕ) → chars_in (front ++ ((label, first_part run n) ∷ (own, second_part run n) ∷ back)) ≡ chars_in (front ++ ((label, run) ∷ back))
  cut_chars front back label own =
      chars-append front ((label, first_part run n) ∷ (own, second_part run n) ∷ back)
      ∙ ap (λ (xs : List Stretch). chars_in front ++ xs) (sym (append_assoc (records_of (first_part run n)) (records_of (second_part run n)) (chars_in back)) ∙ ap (λ (xs : List Stretch). xs ++ chars_in back) parts_records)
      ∙ sym (chars-append front ((label, run) ∷ back))
