-- A label that stands beside those in the maps.
use Rattle.std.proofs.Common.{◌≡◌, ℕ, ◌⊎◌, Bool, true, false, Option, Some, None, if◌then◌else◌, sym, ap, ◌∙◌, subst, inl, inr}
use Rattle.std.proofs.lemmas.Bool.{false≢true}
use Rattle.ew_model.specs.declared.node.Node.{Node}
use Rattle.fugue_place.specs.Attachments.{node_eq}
use Rattle.fugue_place.proofs.NodeLaws.{node_itself}
use Rattle.character_runs.specs.declared.kept.Tag.{Tag}
use Rattle.character_runs.specs.Kept.{label_by}
use Rattle.character_runs.proofs.CutRuns.{alike, unlike}

pub differs : (u v : Node) → node_eq u v ≡ false → u ≡ v → ⊥
differs u v e same = false≢true (sym e ∙ ap (node_eq u) (sym same) ∙ node_itself u)

tag_is : (t x : Tag) → Some t ≡ Some x → t ≡ x
tag_is t x e = cc

-- what is so of the tag that there is
pub for_tag : (P : Tag → Type 0) (t : Tag) → P t → (x : Tag) → Some t ≡ Some x → P x
for_tag P t h x e = subst P (tag_is t x e) h

-- nothing stands beside the maps
pub alone : (late : Option Tag) (f : Node → Option ℕ) → late ≡ None → (w : Node) → f w ≡ label_by late f w
alone late f none w = ap (λ (l : Option Tag). label_by l f w) (sym none)

-- a label in the maps goes over to a node that has its own beside them
pub kept_over : (f g h : Node → Option ℕ) (from to : Node) (label : ℕ) → ((w : Node) → g w ≡ (if node_eq from w then None else f w)) → ((w : Node) → f w ≡ h w) → (from ≡ to → ⊥) → (w : Node)
    → (if node_eq to w then Some label else g w) ≡ (if node_eq from w then None else (if node_eq to w then Some label else h w))
kept_over f g h from to label keeps same differ w = by (alike from w)
  where
    by : (from ≡ w) ⊎ (node_eq from w ≡ false) → (if node_eq to w then Some label else g w) ≡ (if node_eq from w then None else (if node_eq to w then Some label else h w))
    by (inl is) =
        let here : node_eq from w ≡ true = ap (node_eq from) (sym is) ∙ node_itself from in
        ap (λ (b : Bool). if b then Some label else g w) (ap (node_eq to) (sym is) ∙ unlike to from (λ same. differ (sym same)))
        ∙ keeps w ∙ ap (λ (b : Bool). if b then None else f w) here
        ∙ sym (ap (λ (b : Bool). if b then None else (if node_eq to w then Some label else h w)) here)
    by (inr other) =
        ap (λ (o : Option ℕ). if node_eq to w then Some label else o) (keeps w ∙ ap (λ (b : Bool). if b then None else f w) other ∙ same w)
        ∙ sym (ap (λ (b : Bool). if b then None else (if node_eq to w then Some label else h w)) other)
