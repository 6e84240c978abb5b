-- The commands of one file that are still to be added.
use Rattle.std.proofs.Common.{◌≡◌, ℕ, ◌+◌, ◌<◌, ◌≤◌, List, [], ◌∷◌, Bor, drop, get_or, length, map, refl, sym, ap, ◌∙◌, arith}
use Rattle.std.proofs.lemmas.List.{at_drop_all, at_drop_more}
use Rattle.clap.specs.Words.{App}
use Rattle.command_table.specs.Cli.{file_app, then_app, with_file_apps}

-- with those from a place on
abbrev pub with_rest : App → List (Bor (List ℕ)) → ℕ → App
with_rest app names i = with_file_apps app (map (λ (name : Bor (List ℕ)). name.now) (drop i names))

-- one more is added
pub one_added : (names : List (Bor (List ℕ))) (i : ℕ) (d : Bor (List ℕ)) (app next whole : App) → i < length names → next ≡ then_app app (file_app (get_or names i d).now)
    → with_rest app names i ≡ whole → with_rest next names (i + 1) ≡ whole
one_added names i d app next whole less is rest =
    ap (λ x. with_rest x names (i + 1)) is
    ∙ sym (at_drop_more (λ xs. with_file_apps app (map (λ (name : Bor (List ℕ)). name.now) xs)) names i d less)
    ∙ rest

-- all are added
pub all_added : (names : List (Bor (List ℕ))) (i : ℕ) (app whole : App) → length names ≤ i → with_rest app names i ≡ whole → app ≡ whole
all_added names i app whole h rest = sym (at_drop_all (λ xs. with_file_apps app (map (λ (name : Bor (List ℕ)). name.now) xs)) names i h) ∙ rest
