-- What a state without a base tells of the order of its tree, and of what deletes what.
use Rattle.std.proofs.Common.{◌≡◌, ℕ, ◌<◌, Bool, true, false, cond, nat_eq, ⊎_elim, inl, inr, List, [], ◌∷◌, map, find, Option, Some, None, IfSome, IfNone, option_map, refl, sym, ap, ◌∙◌, subst, arith}
use Rattle.std.proofs.lemmas.Bool.{eqb-true, eqb-false, ne_eqb}
use Rattle.ew_model.specs.declared.node.Node.{Node}
use Rattle.ew_model.specs.declared.node.Node.TheVariants.{Root, Base, Event}
use Rattle.ew_model.specs.Sets.{Among}
use Rattle.ew_model.specs.Entries.{Inserted, Entry, insertions, order}
use Rattle.ew_model.specs.Entries.Entry.{Insertion, Deletion, Mark}
use Rattle.ew_model.specs.Records.{record_in}
use Rattle.ew_model.specs.Tree.{Applied, Noted, all_entries}
use Rattle.ew_model.proofs.PrefixLaws.{ordered_among}
use Rattle.ew_model.proofs.RunLaws.{not_insertion}
use Rattle.walker_record.specs.Stretches.{Stretch}
use Rattle.character_runs.specs.EventPositions.{event_positions}
use Rattle.character_runs.specs.States.{single}
use Rattle.advance_retreat.specs.declared.target.Target.{Target}
use Rattle.advance_retreat.specs.Kept.{Kept, target_at}
use Rattle.advance_retreat.specs.Placing.{AreInOrder, DeletesOf, IsNoDeletion, other_event}
use Rattle.advance_retreat.specs.Standing.{node_of, kept_record, kept_target, about, StandsFor}
use Rattle.advance_retreat.proofs.CharLaws.{own_event}
use Rattle.advance_retreat.proofs.Keeping.{notes, all, part, grown, target_told}
use Rattle.advance_retreat.proofs.Nodes.{IsOfTree, about_char, char_cases, same_event, same_name}

-- a note with the name is about the node
abbrev IsTold : List (Noted ℕ) → List (Noted ℕ) → ℕ → Node → Type 0
IsTold ns ms lv v = (n : Noted ℕ) × Among n ms × (n.name ≡ lv) × (about ns n.entry ≡ v)

-- what is kept under a position is told by a note with that name
told_from : (ns ms : List (Noted ℕ)) (lv : ℕ) (v : Node) → target_at (map (kept_target ns) ms) lv ≡ Some v → IsTold ns ms lv v
told_from ns [] lv v h = let no : ⊥ = cc in absurd no
told_from ns (m ∷ ms) lv v h = at (nat_eq m.name lv) refl h (λ later. let n = told_from ns ms lv v later in (n.0, inr n.1, n.2, n.3))
  where
    at : (c : Bool) → nat_eq m.name lv ≡ c → option_map (λ (t : Target). t.node) (cond c (Some (kept_target ns m)) (find (λ (t : Target). nat_eq t.lv lv) (map (kept_target ns) ms))) ≡ Some v
        → (target_at (map (kept_target ns) ms) lv ≡ Some v → IsTold ns (m ∷ ms) lv v) → IsTold ns (m ∷ ms) lv v
    at true q k rest = let same : about ns m.entry ≡ v = cc in (m, inl refl, eqb-true m.name lv q, same)
    at false q k rest = rest k

module _ (s : Kept) (events : List (Applied ℕ)) (prepared : List ℕ) (st : StandsFor s 0 events prepared) where
  abbrev pub ns : List (Noted ℕ)
  ns = notes s 0 events prepared st

  -- without a base each character is an event's
  pub char_event : (z : Inserted) → Among z (insertions (all_entries 0 ns)) → (m : Noted ℕ) × Among m ns × (m.entry ≡ Insertion z)
  char_event z m = ⊎_elim (λ i. let below : i.0 < 0 = i.1 in absurd (omega (arith, below))) (λ n. n) (char_cases 0 events ns (grown s 0 events prepared st) z m)

  event_node : (z : Inserted) → Among z (insertions (all_entries 0 ns)) → (k : ℕ) × (node_of ns z.id ≡ Event k)
  event_node z m = let n = char_event z m in (n.0.name, own_event s 0 events prepared st n.0 z n.1 n.2)

  -- THE ORDER
  in_order_by : (zs : List Inserted) → ((z : Inserted) → Among z zs → (k : ℕ) × (node_of ns z.id ≡ Event k))
      → map Event (event_positions (map (kept_record ns) (map (record_in (all s 0 events prepared st) (part s 0 events prepared st)) zs))) ≡ map (λ (z : Inserted). node_of ns z.id) zs
  in_order_by [] own = refl
  in_order_by (z ∷ zs) own =
      let k = own z (inl refl) in
      let r = record_in (all s 0 events prepared st) (part s 0 events prepared st) z in
      let rest = map (kept_record ns) (map (record_in (all s 0 events prepared st) (part s 0 events prepared st)) zs) in
      subst (λ (v : Node). map Event (event_positions (single v r.prepared r.effect ∷ rest)) ≡ v ∷ map (λ (w : Inserted). node_of ns w.id) zs) (sym k.1)
      (ap (λ (vs : List Node). Event k.0 ∷ vs) (in_order_by zs (λ w m. own w (inr m))))

  pub in_order : AreInOrder ns (event_positions s.records)
  in_order =
      ap (λ (rs : List Stretch). map Event (event_positions rs)) st.records
      ∙ in_order_by (order (all_entries 0 ns)) (λ z m. event_node z (ordered_among (all_entries 0 ns) z m))

  -- WHAT DELETES WHAT
  deletion : (lv n : ℕ) (d : Noted ℕ) → Among d ns → d.name ≡ lv → about ns d.entry ≡ Event n → (n ≡ lv → ⊥) → DeletesOf ns lv n
  deletion lv n d m named is other = by d.entry refl
    where
      by : (e : Entry) → d.entry ≡ e → DeletesOf ns lv n
      by (Insertion y) q =
          let own : node_of ns y.id ≡ Event d.name = own_event s 0 events prepared st d y m q in
          let same : d.name ≡ n = same_event d.name n (sym own ∙ sym (ap (about ns) q) ∙ is) in
          absurd (other (sym same ∙ named))
      by (Deletion t) q = record { note = d; there = m; named = named; target = t; deletes = q; inserts = sym (ap (about ns) q) ∙ is }
      by Mark q = let root : Root ≡ Event n = sym (ap (about ns) q) ∙ is in let no : ⊥ = cc in absurd no

  deletes_of : (lv n : ℕ) → other_event lv (target_at s.targets lv) ≡ Some n → DeletesOf ns lv n
  deletes_of lv n h = at (target_at s.targets lv) refl h
    where
      by : (m : ℕ) → target_at s.targets lv ≡ Some (Event m) → (b : Bool) → nat_eq m lv ≡ b → cond b None (Some m) ≡ Some n → DeletesOf ns lv n
      by m q true e j = let no : ⊥ = cc in absurd no
      by m q false e j =
          let same : m ≡ n = cc in
          let told = told_from ns ns lv (Event m) (ap (λ (ts : List Target). target_at ts lv) (sym st.targets) ∙ q) in
          deletion lv n told.0 told.1 told.2 (told.3 ∙ ap Event same) (λ own. eqb-false m lv e (same ∙ own))

      at : (o : Option Node) → target_at s.targets lv ≡ o → other_event lv o ≡ Some n → DeletesOf ns lv n
      at None q k = let no : ⊥ = cc in absurd no
      at (Some Root) q k = let no : ⊥ = cc in absurd no
      at (Some (Base i)) q k = let no : ⊥ = cc in absurd no
      at (Some (Event m)) q k = by m q (nat_eq m lv) refl k

  none_some : (n : ℕ) → None ≡ Some n → ⊥
  none_some n e = cc

  no_deletion : (lv : ℕ) → other_event lv (target_at s.targets lv) ≡ None → IsNoDeletion ns lv
  no_deletion lv h d m named t e =
      let g = grown s 0 events prepared st in
      let told : target_at s.targets lv ≡ Some (about ns d.entry) = ap (target_at s.targets) (sym named) ∙ target_told s 0 events prepared st d m in
      let of_tree : IsOfTree 0 ns (Deletion t) = subst (IsOfTree 0 ns) e (about_char 0 events ns g d m) in
      let by = char_event of_tree.0 of_tree.1 in
      let node : about ns d.entry ≡ Event by.0.name = ap (about ns) e ∙ ap (node_of ns) (sym of_tree.2) ∙ own_event s 0 events prepared st by.0 of_tree.0 by.1 by.2 in
      let other : by.0.name ≡ lv → ⊥ =
      λ same. not_insertion of_tree.0 t (sym e ∙ ap (λ (w : Noted ℕ). w.entry) (same_name ns g.single d by.0 m by.1 (named ∙ sym same)) ∙ by.2) in
      none_some by.0.name
      (sym h ∙ ap (other_event lv) (told ∙ ap (λ (v : Node). Some v) node) ∙ ap (λ (b : Bool). cond b None (Some by.0.name)) (ne_eqb by.0.name lv other))

  -- so the search tells it
  pub target_some : (lv : ℕ) (o : Option ℕ) → o ≡ other_event lv (target_at s.targets lv) → IfSome o (DeletesOf ns lv)
  target_some lv None e = tt
  target_some lv (Some n) e = deletes_of lv n (sym e)

  pub target_none : (lv : ℕ) (o : Option ℕ) → o ≡ other_event lv (target_at s.targets lv) → IfNone o (IsNoDeletion ns lv)
  target_none lv None e = no_deletion lv (sym e)
  target_none lv (Some n) e = tt
