-- Lemmas on files that are kept in a tree by name.
use Rattle.std.proofs.Common.{◌≡◌, ℕ, List, [], ◌∷◌, map, refl, sym, ap, ◌∙◌, Bool, true, false, cond, Option, Some, Vec, String, string_bytes}
use Rattle.std.specs.Global.{Global}
use Rattle.std.specs.Option.{option_map}
use Rattle.std.specs.Ordering.{nat_cmp, is_eq}
use Rattle.std.specs.Cmp.Lexicographic.{slice_cmp, nat_list_cmp_total}
use Rattle.std.specs.String.{string_cmp}
use Rattle.std.specs.Str.{bytes_eq}
use Rattle.std.specs.Map.{lookup}
use Rattle.std.specs.BTreeMap.{BTreeMap, Updates, UpdatesBy, get_by_text}
use Rattle.std.specs.FinMap.{find, get, insert, get-insert, get-from_entries, same_map, slice_cmp-IsAntisymmetric, nat_cmp-IsAntisymmetric}
use Rattle.std.proofs.lemmas.Cmp.{nat_list_eq_equiv}
use Rattle.std.proofs.lemmas.Map.Text.{is_eq-slice_cmp, btree_map_updates_text}
use Rattle.ew_outside.specs.FileMap.{files_of}

-- a name is found among the entries as it is in the tree
find-named : (q : List ℕ) (es : List (String Global × Vec ℕ Global))
    → find (slice_cmp nat_cmp) q (map (λ e. (string_bytes e.0, e.1.items)) es) ≡ option_map (λ v. v.items) (lookup (λ k. is_eq (slice_cmp nat_cmp q (string_bytes k))) es)
find-named q [] = refl
find-named q (e ∷ es) =
    elim (is_eq (slice_cmp nat_cmp q (string_bytes e.0)))
    as (λ b. cond b (Some e.1.items) (find (slice_cmp nat_cmp) q (map (λ d. (string_bytes d.0, d.1.items)) es))
    ≡ option_map (λ v. v.items) (cond b (Some e.1) (lookup (λ k. is_eq (slice_cmp nat_cmp q (string_bytes k))) es))) [
      | true ↦ refl
      | false ↦ find-named q es
    ]

-- what the map has at a name is what the tree has there
pub get-files_of : (tree : BTreeMap (String Global) (Vec ℕ Global)) (q : List ℕ) → get (files_of tree) q ≡ option_map (λ v. v.items) (get_by_text tree q)
get-files_of tree q = get-from_entries nat_list_cmp_total (map (λ e. (string_bytes e.0, e.1.items)) tree.entries) q ∙ find-named q tree.entries

map-cond : (b : Bool) (v : Vec ℕ Global) (o : Option (Vec ℕ Global)) → option_map (λ w. w.items) (cond b (Some v) o) ≡ cond b (Some v.items) (option_map (λ w. w.items) o)
map-cond true v o = refl
map-cond false v o = refl

set_in_tree : (old new : BTreeMap (String Global) (Vec ℕ Global)) (name : List ℕ) (v : Vec ℕ Global)
    → UpdatesBy string_cmp (λ k. slice_cmp nat_cmp name (string_bytes k)) old new (Some v) → files_of new ≡ insert (files_of old) name v.items
set_in_tree old new name v updates =
    same_map nat_list_cmp_total (slice_cmp-IsAntisymmetric nat_cmp-IsAntisymmetric) (files_of new) (insert (files_of old) name v.items) (λ q.
    get-files_of new q
    ∙ ap (option_map (λ w. w.items)) (btree_map_updates_text name old new (Some v) updates q)
    ∙ map-cond (bytes_eq name q) v (get_by_text old q)
    ∙ ap (λ o. cond (bytes_eq name q) (Some v.items) o) (sym (get-files_of old q))
    ∙ ap (λ b. cond b (Some v.items) (get (files_of old) q)) (nat_list_eq_equiv.symm name q ∙ sym (is_eq-slice_cmp q name))
    ∙ sym (get-insert nat_list_cmp_total (files_of old) name v.items q))

-- an insertion into the tree is one into the map
pub files_of-insert : (old new : BTreeMap (String Global) (Vec ℕ Global)) (key : String Global) (v : Vec ℕ Global) (name bytes : List ℕ)
    → Updates string_cmp old new key (Some v) → string_bytes key ≡ name → v.items ≡ bytes → files_of new ≡ insert (files_of old) name bytes
files_of-insert old new key v name bytes updates named filled =
    set_in_tree old new (string_bytes key) v updates ∙ ap (λ q. insert (files_of old) q v.items) named ∙ ap (insert (files_of old) name) filled
