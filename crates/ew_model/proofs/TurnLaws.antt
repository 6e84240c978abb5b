-- One turn of a walk: the moves may be made, and the apply does what the event does in the walk.
use Rattle.std.proofs.Common.{◌≡◌, ℕ, ◌<◌, nat_eq, inl, inr, ⊎_elim, List, [], ◌∷◌, ◌++◌, refl, sym, ap, ◌∙◌, subst, append-nil, append_assoc}
use Rattle.std.specs.List.{list_any}
use Rattle.std.proofs.lemmas.Bool.{false≢true, false_from_ne_true}
use Rattle.ew_model.specs.Sets.{Among}
use Rattle.ew_model.specs.Places.{Act}
use Rattle.ew_model.specs.Tree.{Applied, tree_of}
use Rattle.ew_model.specs.Places.Act.{InsertAs, DeleteAt, MarkAs}
use Rattle.ew_model.specs.Operations.{next_operation}
use Rattle.ew_model.specs.Records.{holds, inserts_as, IsNewAct, IsClosed, MayApply, IsRun, next_of}
use Rattle.ew_model.specs.Moves.{LookBack, after_retreats, after_advances, AlikeEvents, Moves, WalksTurn}
use Rattle.ew_model.proofs.SetLaws.{joined_left}
use Rattle.ew_model.proofs.VersionLaws.{any_from, found_by}
use Rattle.ew_model.proofs.StateLaws.{applies_keep}
use Rattle.ew_model.proofs.MoveLaws.{moves_arrive}
use Rattle.ew_model.proofs.AlikeRuns.{same_operation, alike_walk_alike}

-- two events that differ only in how what they were applied over is listed
pub record Alike (a c : Applied ℕ) : Type 0 where
  pub name : a.name ≡ c.name
  pub act : a.act ≡ c.act
  pub over : (n : ℕ) → holds a.over n ≡ holds c.over n

abbrev Twin : List (Applied ℕ) → Applied ℕ → Type 0
Twin others a = (c : Applied ℕ) × Among c others × Alike a c

twin : (events others : List (Applied ℕ)) → AlikeEvents events others → (a : Applied ℕ) → Among a events → Twin others a
twin [] others h a m = absurd m
twin (e ∷ events) [] h a m = absurd h
twin (e ∷ events) (c ∷ others) h a m =
    ⊎_elim
    (λ same. subst (Twin (c ∷ others)) (sym same) (c, inl refl, record { name = h.0; act = h.1; over = h.2 }))
    (λ k. let more = twin events others h.3 a k in (more.0, inr more.1, more.2))
    m

alike_pushed : (events others : List (Applied ℕ)) (a c : Applied ℕ) → AlikeEvents events others → Alike a c → AlikeEvents (events ++ a ∷ []) (others ++ c ∷ [])
alike_pushed [] [] a c h k = (k.name, k.act, k.over, tt)
alike_pushed [] (d ∷ others) a c h k = absurd h
alike_pushed (e ∷ events) [] a c h k = absurd h
alike_pushed (e ∷ events) (d ∷ others) a c h k = (h.0, h.1, h.2, alike_pushed events others a c h.3 k)

closed_alike : (events others : List (Applied ℕ)) (names also : List ℕ) → AlikeEvents events others → IsClosed others names → ((n : ℕ) → holds also n ≡ holds names n) → IsClosed events also
closed_alike events others names also h closed same a m in_also n seen =
    let t = twin events others h a m in
    same n ∙ closed t.0 t.1 (ap (holds names) (sym t.2.name) ∙ (sym (same a.name) ∙ in_also)) n (sym (t.2.over n) ∙ seen)

new_alike : (events others : List (Applied ℕ)) (act : Act) → AlikeEvents events others → IsNewAct others act → IsNewAct events act
new_alike events others (InsertAs x at ch) h new = record {
  unused = false_from_ne_true (list_any (λ (c : Applied ℕ). inserts_as x c.act) events) (λ e.
      let found = found_by (λ (c : Applied ℕ). inserts_as x c.act) events e in
      let t = twin events others h found.0 found.1 in
      false≢true (sym new.unused ∙ any_from (λ (c : Applied ℕ). inserts_as x c.act) others t.0 t.1 (ap (inserts_as x) (sym t.2.act) ∙ found.2)));
  agent = new.agent;
}
new_alike events others (DeleteAt at) h new = tt
new_alike events others MarkAs h new = tt

may_alike : (events others : List (Applied ℕ)) (a c : Applied ℕ) → AlikeEvents events others → Alike a c → MayApply others c → MayApply events a
may_alike events others a c h k may = record {
  name = false_from_ne_true (list_any (λ (w : Applied ℕ). nat_eq w.name a.name) events) (λ e.
      let found = found_by (λ (w : Applied ℕ). nat_eq w.name a.name) events e in
      let t = twin events others h found.0 found.1 in
      false≢true (sym may.name ∙ any_from (λ (w : Applied ℕ). nat_eq w.name c.name) others t.0 t.1 (sym (λ i. nat_eq (t.2.name i) (k.name i)) ∙ found.2)));
  act = subst (IsNewAct events) (sym k.act) (new_alike events others c.act h may.act);
  over = closed_alike events others c.over a.over h may.over k.over;
}

-- a run's later part, behind its front
run_rest : (before front later : List (Applied ℕ)) → IsRun before (front ++ later) → IsRun (before ++ front) later
run_rest before [] later h = subst (λ es. IsRun es later) (sym (append-nil before)) h
run_rest before (a ∷ front) later h = subst (λ es. IsRun es later) (append_assoc before (a ∷ []) front) (run_rest (before ++ a ∷ []) front later h.1)

pub walks_turn : WalksTurn
walks_turn b done events later a prepared downs ups run back alike run_done closed falling alone_down rising alone_up =
    let may_walk : MayApply events a = (run_rest [] events (a ∷ later) run).0 in
    let back_done : LookBack done = λ c m n seen.
    let t = twin done events alike c m in
    subst (λ (w : ℕ). n < w) (sym t.2.name) (back t.0 (joined_left events (a ∷ later) t.0 t.1) n (sym (t.2.over n) ∙ seen)) in
    let closed_over : IsClosed done a.over = closed_alike done events a.over a.over alike may_walk.over (λ n. refl) in
    let moves : Moves done prepared a.over downs ups = moves_arrive done prepared a.over downs ups back_done closed closed_over falling alone_down rising alone_up in
    let there = after_advances (after_retreats prepared downs) ups in
    let next : Applied ℕ = next_of a.name a.act there in
    let same : Alike next a = record { name = refl; act = refl; over = moves.arrived } in
    let may : MayApply done next = may_alike done events next a alike same may_walk in
    let keep = applies_keep done there a.name a.act run_done may in
    record {
      moves = moves;
      may = may;
      operation = ap (λ ns. next_operation nat_eq b ns next) (alike_walk_alike b done events alike).tree ∙ same_operation b (tree_of nat_eq b events) next a refl moves.arrived;
      alike = alike_pushed done events next a alike same;
      run = keep.0;
      closed = keep.1;
    }
