-- Rows on the texts of histories and versions.
use Rattle.std.proofs.Common.{◌≡◌, ℕ, [], ◌∷◌, ◌++◌, refl}
use Rattle.ew_model.specs.Entries.{order, visible}
use Rattle.ew_model.specs.Places.{place}
use Rattle.ew_model.specs.Tree.{next_entry, tree_of, tree_on, tree}
use Rattle.ew_model.specs.Texts.{visible_at, text_at, text_of}
use Rattle.ew_model.proofs.Rows.Events.{id, ins, typed_back, abc, xyz, delete_beside_insert, twice_deleted, first_deleted, two_at_start, abcdef, diamond}

-- all that a text unfolds
unfoldable pub opened : ℕ
unfolding text_of text_at visible_at tree tree_on tree_of next_entry place visible order
opened = 0

alone : text_of abc ≡ 97 ∷ 98 ∷ 99 ∷ []
unfolding opened
alone = refl

side_by_side : text_of (abc ++ xyz) ≡ 97 ∷ 98 ∷ 99 ∷ 120 ∷ 121 ∷ 122 ∷ []
unfolding opened
side_by_side = refl

side_by_side_back : text_of (xyz ++ abc) ≡ 97 ∷ 98 ∷ 99 ∷ 120 ∷ 121 ∷ 122 ∷ []
unfolding opened
side_by_side_back = refl

backwards : text_of (typed_back 97 0 (99 ∷ 98 ∷ 97 ∷ []) [] ++ typed_back 98 0 (122 ∷ 121 ∷ 120 ∷ []) []) ≡ 97 ∷ 98 ∷ 99 ∷ 120 ∷ 121 ∷ 122 ∷ []
unfolding opened
backwards = refl

backwards_back : text_of (typed_back 98 0 (122 ∷ 121 ∷ 120 ∷ []) [] ++ typed_back 97 0 (99 ∷ 98 ∷ 97 ∷ []) []) ≡ 97 ∷ 98 ∷ 99 ∷ 120 ∷ 121 ∷ 122 ∷ []
unfolding opened
backwards_back = refl

beside : text_of delete_beside_insert ≡ 97 ∷ 81 ∷ 99 ∷ []
unfolding opened
beside = refl

twice : text_of twice_deleted ≡ 97 ∷ 99 ∷ []
unfolding opened
twice = refl

twice_and_after : text_of (twice_deleted ++ ins 100 0 1 90 (id 98 0 ∷ id 99 0 ∷ []) ∷ []) ≡ 97 ∷ 90 ∷ 99 ∷ []
unfolding opened
twice_and_after = refl

at_start : text_of (first_deleted ++ two_at_start) ≡ 88 ∷ 89 ∷ 98 ∷ []
unfolding opened
at_start = refl

late : text_of (abcdef ++ ins 98 0 1 88 (id 97 0 ∷ []) ∷ []) ≡ 97 ∷ 98 ∷ 99 ∷ 100 ∷ 101 ∷ 102 ∷ 88 ∷ []
unfolding opened
late = refl

late_and_lower : text_of (abcdef ++ ins 48 0 1 88 (id 97 0 ∷ []) ∷ []) ≡ 97 ∷ 88 ∷ 98 ∷ 99 ∷ 100 ∷ 101 ∷ 102 ∷ []
unfolding opened
late_and_lower = refl

joined : text_of diamond ≡ 97 ∷ 98 ∷ 99 ∷ 100 ∷ []
unfolding opened
joined = refl

joined_and_more : text_of (diamond ++ ins 101 0 4 101 (id 100 0 ∷ []) ∷ []) ≡ 97 ∷ 98 ∷ 99 ∷ 100 ∷ 101 ∷ []
unfolding opened
joined_and_more = refl

joined_beside : text_of (diamond ++ ins 102 0 3 102 (id 98 0 ∷ id 99 0 ∷ []) ∷ []) ≡ 97 ∷ 98 ∷ 99 ∷ 100 ∷ 102 ∷ []
unfolding opened
joined_beside = refl

-- past versions
past : text_at abc (id 97 1 ∷ []) ≡ 97 ∷ 98 ∷ []
unfolding opened
past = refl

root : text_at abc [] ≡ []
unfolding opened
root = refl

not_reduced : text_at abc (id 97 2 ∷ id 97 0 ∷ []) ≡ 97 ∷ 98 ∷ 99 ∷ []
unfolding opened
not_reduced = refl

past_of_two : text_at (abc ++ xyz) (id 97 0 ∷ id 98 0 ∷ []) ≡ 97 ∷ 120 ∷ []
unfolding opened
past_of_two = refl
