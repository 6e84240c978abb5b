-- The places of children in the list: a child stands behind its parent.
use Rattle.std.proofs.Common.{◌≡◌, ℕ, zero, suc, ◌<◌, ◌-◌, true, false, ⊎_elim, List, [], ◌∷◌, ◌++◌, length, take, slice_get, Option, Some, None, refl, sym, ap, ◌∙◌, subst, append_assoc, append-nil, arith}
use Rattle.std.specs.List.{list_any}
use Rattle.std.specs.Option.{option_map_or}
use Rattle.std.proofs.Math.Seq.{take-length}
use Rattle.std.proofs.lemmas.Bool.{false≢true, false_from_ne_true, cases_lt, cases_order}
use Rattle.std.proofs.lemmas.Option.{slice_get_within}
use Rattle.ew_model.specs.declared.node.Node.{Node}
use Rattle.ew_model.specs.Sets.{Among}
use Rattle.ew_model.specs.declared.node.Node.TheVariants.{Root}
use Rattle.ew_model.proofs.ListPlaces.{get-take_within}
use Rattle.ew_model.proofs.OperationLaws.{got}
use Rattle.ew_model.proofs.VersionLaws.{any_from, found_by}
use Rattle.fugue_place.specs.declared.child.Attached.{Attached}
use Rattle.fugue_place.specs.declared.line.Line.{Line}
use Rattle.fugue_place.specs.Attachments.{node_eq, is_attached, is_newest, is_there, MayAttach, AreAttached}
use Rattle.fugue_place.specs.Lines.{is_in_line}
use Rattle.fugue_place.specs.Subtrees.{node_at}
use Rattle.fugue_place.proofs.EndLaws.{from_line}
use Rattle.fugue_place.proofs.ListLaws.{place_of, among_more}
use Rattle.fugue_place.proofs.NodeLaws.{node_same, node_itself}
use Rattle.fugue_place.proofs.PathLaws.{event_there}

-- what is attached may be, behind those before it
pub attached_at : (before later : List Attached) → AreAttached before later → (k : ℕ) (a : Attached) → slice_get later k ≡ Some a → MayAttach (before ++ take k later) a
attached_at before [] all k a e = let no : ⊥ = cc in absurd no
attached_at before (y ∷ later) all zero a e =
    let same : y ≡ a = cc in
    subst (λ (xs : List Attached). MayAttach xs a) (sym (append-nil before)) (subst (MayAttach before) same all.0)
attached_at before (y ∷ later) all (suc k) a e =
    subst (λ (xs : List Attached). MayAttach xs a) (append_assoc before (y ∷ []) (take k later)) (attached_at (before ++ y ∷ []) later all.1 k a e)

pub node_at_is : (attached : List Attached) (k : ℕ) (a : Attached) → slice_get attached k ≡ Some a → node_at attached k ≡ a.node
node_at_is attached k a e = ap (λ (o : Option Attached). option_map_or (λ (c : Attached). c.node) o Root) e

-- a child stands behind its parent
pub parent_early : (attached : List Attached) → AreAttached [] attached → (j k : ℕ) (a c : Attached) → slice_get attached j ≡ Some a → slice_get attached k ≡ Some c → c.parent ≡ a.node → j < k
parent_early attached all j k a c ja kc e =
    let may = attached_at [] attached all j a ja in
    let child = attached_at [] attached all k c kc in
    ⊎_elim
    (λ lt. lt)
    (λ le. let there : is_attached (take k attached) a.node ≡ true = sym (event_there (take k attached) a.node may.event) ∙ ap (is_there (take k attached)) (sym e) ∙ child.parent in
    let found = found_by (λ (z : Attached). node_eq z.node a.node) (take k attached) there in
    absurd (false≢true (sym may.new ∙ any_from (λ (z : Attached). node_eq z.node a.node) (take j attached) found.0 (among_more attached k j found.0 le found.1) found.2)))
    (cases_lt j k)

-- two children with one node are one
pub one_node : (attached : List Attached) → AreAttached [] attached → (j k : ℕ) (a c : Attached) → slice_get attached j ≡ Some a → slice_get attached k ≡ Some c → a.node ≡ c.node → j ≡ k
one_node attached all j k a c ja kc e =
    ⊎_elim (λ same. same) (λ apart. ⊎_elim (λ low. absurd (no_later j k a c ja kc e low)) (λ high. absurd (no_later k j c a kc ja (sym e) high)) apart) (cases_order j k)
  where
    no_later : (i m : ℕ) (x y : Attached) → slice_get attached i ≡ Some x → slice_get attached m ≡ Some y → x.node ≡ y.node → i < m → ⊥
    no_later i m x y ix my same lt =
        let may = attached_at [] attached all m y my in
        false≢true (sym may.new ∙ any_from (λ (z : Attached). node_eq z.node y.node) (take m attached) x (got (take m attached) i x (get-take_within m attached i lt ∙ ix)) (ap (λ (v : Node). node_eq v y.node) same ∙ node_itself y.node))

-- the newest node is that of the last child
pub newest_last : (attached : List Attached) (v : Node) → is_newest attached v ≡ true → (a : Attached) × (slice_get attached (length attached - 1) ≡ Some a) × (a.node ≡ v)
newest_last attached v e = at (slice_get attached (length attached - 1)) refl e
  where
    at : (o : Option Attached) → slice_get attached (length attached - 1) ≡ o → option_map_or (λ (a : Attached). node_eq a.node v) o false ≡ true → (a : Attached) × (slice_get attached (length attached - 1) ≡ Some a) × (a.node ≡ v)
    at None is h = absurd (false≢true h)
    at (Some a) is h = (a, is, node_same a.node v h)

-- and has no children
pub newest_childless : (attached : List Attached) → AreAttached [] attached → (line : Line) → is_newest attached line.parent ≡ true → list_any (is_in_line line) (take (length attached) attached) ≡ false
newest_childless attached all line e = false_from_ne_true (list_any (is_in_line line) (take (length attached) attached)) (λ h.
    let last = newest_last attached line.parent e in
    let found = found_by (is_in_line line) (take (length attached) attached) h in
    let place = place_of attached found.0 (subst (Among found.0) (take-length attached) found.1) in
    let later : length attached - 1 < place.0 = parent_early attached all (length attached - 1) place.0 last.0 found.0 last.1 place.1 ((from_line line found.0 found.2).parent ∙ sym last.2) in
    let inside : place.0 < length attached = slice_get_within attached place.0 found.0 place.1 in
    absurd (omega arith))
