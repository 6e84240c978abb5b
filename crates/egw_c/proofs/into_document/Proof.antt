-- `into_document` makes the box again.
use Rattle.std.proofs.Common.{◌≡◌, List, [], ◌∷◌, ◌++◌, refl, sym, ap, ◌∙◌, subst}
use mir.Syntax.{Dict, impl, tnil, tcons, dnil}
use mir.Raw.{raw as bare}
use mir.Val.{Val, vptr, vstruct, vcons, vnil, of_list}
use base.Logic.{SProp, ent, emp, never, id⊢, fst∗}
use base.Fraction.{full_share}
use base.Fml.{ftrue, flft}
use prog.Wp.{WpFn}
use types.Logic.{sem}
use types.Kit.{‵, raw, ◌⊛◌, some, later, at_ret, ◌$◌, ◌∵◌, !, qed, by, move, keep, drop, split, split3, join, fsplit, fjoin, fpick, pick, suffices, use0, use1, await, rewrite, feq_i, feq_l}
use types.Run.{stop, fld, of_opd, no_more, and_then, first, blocks, exec, returns, enter}
use types.ByLocal.{alloc_all, pass_all, free_all, look_at, get, get_in, sets, lands_last, env}
use types.Part.{sub, whole}
use contract.Monad.{fact, fact_i}
use contract.BorrowLft.{◌⊑◌, ⊑_static}
use contract.Running.{tables}
use denote.Exit.{yes, no}
use denote.RattleType.{RattleType, owns}
use denote.Signature.{types_at, plain}
use denote.RawPtr.{Ptr, block_ptr, null_ptr, ptr_val, in_a_block}
use denote.Steps.{nothing, only}
use denote.Param.{param, layout, arg}
use denote.Param.Laws.{arg_laws}
use denote.Param.NoDrop as no_drop
use denote.Triple.Clauses.{Lasts, lasts}
use denote.Triple.Spec.{triple_of}
use denote.Triple.Call.{calls_at_last}
use denote.Triple.Walked.{Stays, stay_dropped, walk_of, Goes-dropped}
use Rattle.core.proofs.alloc.Calls.{Goes-blank, handle_tells}
use Rattle.core.proofs.alloc.Shapes.{after}
use Rattle.core.proofs.atomic.Steps.{fm}
use Rattle.core.proofs.cell.Inside.{Good}
use Rattle.std_alloc.specs.Box.Ownership.{box_owns}
use Rattle.std_alloc.proofs.BoxSteps.Form as box
use Rattle.std_alloc.proofs.BoxSteps.Steps.{box_out, box_in}
use Rattle.std.proofs.raw_atomic.Walks.{proved_at, leaves}
use Rattle.std_alloc.specs.contracts.boxed.Box.from_raw as callee
use Rattle.std_alloc.proofs.boxed.Box.from_raw.Met.{met}
use Rattle.std.specs.contracts.alloc.Global as global
use Rattle.std.proofs.alloc.Global.TheLaws as global_laws
use Rattle.std.specs.contracts.impls.GlobalAllocator.TheImpl as heap
use Rattle.std.proofs.impls.GlobalAllocator.TheImpl.Met as heap_met
use Rattle.egw_c.specs.contracts.kept.KeptDocument as state
use Rattle.egw_c.proofs.kept.KeptDocument.TheLaws as state_laws
use Rattle.egw_c.specs.contracts.DocumentHandle as handle
use Rattle.egw_c.specs.contracts.into_document.{ended, clauses}
use Rattle.egw_c.specs.contracts.into_document.Key.{name as #self}
use Rattle.egw_c.proofs.into_document.Statement.{statement}
use Rattle.egw_c.proofs.into_document.Code as code

pub into_document_spec : {M : Type 1} → statement M
unfolding Rattle.egw_c.proofs.Destruct++none.drop.Code.code
into_document_spec {M} 𝓤 𝓛 𝓜 𝓡 wired =
    let H = 𝓛.H in let 𝓣 = tables 𝓤 H 𝓜 𝓡 𝓡.env in let N : RattleType = arg (bare (layout state.the_row)) no state.the_row in let A : RattleType = arg (bare (layout global.the_row)) no global.the_row in let R : RattleType = param 0 N in let L = arg_laws (bare (layout state.the_row)) no state.the_row state_laws.the_row_laws refl in let LA = arg_laws (bare (layout global.the_row)) no global.the_row global_laws.the_row_laws refl in
    let g = heap.ghosts in let d : Dict = heap.dict in let dd : Dict = impl ("egw_c::Destruct++none::drop" ∷ []) (tcons (layout A) tnil) dnil in
    let E : box.Bx = record { row = N; laws = L; al = record { row = A; laws = LA; g = g; d = d; drops = dd } } in let B : RattleType = box.B E in let Hd : RattleType = handle.the_row in
    let En = ended in let c = clauses 𝓛 𝓜.mem 𝓡.returns in let fn = code.function in
    let hs : Stays En.signature.params En.kept = (stay_dropped (plain (λ _. global.the_row)) yes, (stay_dropped (plain (λ _. Hd)) yes, tt)) in
    let allocator = heap_met.passed 𝓡.env (code.calls-std_heap::GlobalAllocator::allocate 𝓡.env wired) (code.calls-std_heap::GlobalAllocator::deallocate 𝓡.env wired) (code.calls-std_heap::GlobalAllocator::grow 𝓡.env wired) (code.calls-std_heap::GlobalAllocator::shrink 𝓡.env wired) M 𝓤 𝓛 𝓜 𝓡 in
    let glued = no_drop.glues "egw_c::Destruct++none::drop" 𝓡.env (code.calls-egw_c::Destruct++none::drop 𝓡.env wired) A LA M 𝓤 𝓛 𝓜 𝓡 in
    proved_at 𝓛 En hs c 𝓜 𝓡 (Goes-dropped 𝓛 0 (plain (λ _. global.the_row)) yes (λ κs x f. refl), (Goes-blank 𝓛 0 (plain (λ _. Hd)) yes (λ κs x f. tt), tt)) #self fn (code.unfolded 𝓤 H 𝓜 𝓡 wired) (λ z are.
    let a = z.0.3.0 in let v = z.0.3.1.0 in let Post : Val → SProp 𝓤 = (walk_of 𝓛 En hs c).post z in let Run : List Val → SProp 𝓤 = λ ws. WpFn 𝓤 H 𝓣.C 𝓣.Λ fn ws Post in
    let asked = raw ((c z.0.0 z.0.3).requires z.1) in
    qed 𝓛 ((‵ ftrue ⊛ ‵ (owns (types_at En.signature.params z.0.0) z.0.3 z.0.4)) ∷ asked ∷ []) ∵ split ! $ drop ! $ fsplit ! $ handle_tells E.al ! a z.0.4.0 (λ hv ea fa. move ! (1 ∷ []) $ fsplit ! $
    fsplit ! $ fpick ! (λ vss. fsplit ! $ feq_l ! (λ ev. fsplit ! $ feq_l ! (λ ep. drop ! $
    in_a_block ! v.at (λ p. box_owns (g.dealloc_token v.heap) R p v.shown) (fst∗ 𝓤 (never 𝓤) (sem 𝓛 (g.dealloc_token v.heap (bare (layout N)) null_ptr))) (λ b o e.
    let w : Val = vstruct (vcons (vptr b o) vnil) in let k = triple_of 𝓛 (callee.signature N A g d dd) (callee.spec N A g d dd 𝓛 𝓜.mem 𝓡.returns) in
    let ew : z.0.4.1.0 ≡ w ∷ [] = ev ∙ (λ j. vstruct (of_list ((ep ∙ ap (λ (π : Ptr). ptr_val π ∷ []) e) j ++ [])) ∷ []) in
    let y : k.Ghost = ((([], ([], tt)), (full_share, (full_share, tt)), tt, (a, (block_ptr b o, tt)), (hv ∷ [], (vptr b o ∷ [], tt))), v.shown) in
    use0 𝓛 (raw (fact 𝓤 ([] ⊑ A.lives))) (fact_i 𝓤 ([] ⊑ A.lives) (emp 𝓤) (⊑_static [])) $ join ! $ use0 𝓛 (raw (fact 𝓤 ([] ⊑ N.lives))) (fact_i 𝓤 ([] ⊑ N.lives) (emp 𝓤) (⊑_static [])) $ join ! $
    move ! (1 ∷ []) $ feq_i ! (List Val) (vptr b o ∷ []) (vptr b o ∷ []) refl $ fjoin ! $ move ! (2 ∷ 0 ∷ []) $ fjoin ! $
    nothing ! $ use0 𝓛 (‵ (flft [] full_share)) (𝓛.lfts.lft-nil full_share) $ join ! $ use0 𝓛 (‵ (flft [] full_share)) (𝓛.lfts.lft-nil full_share) $ join ! $ join ! $ join ! $
    use1 𝓛 (raw (k.pre y)) (id⊢ 𝓤 _) $
    suffices ! (Run (hv ∷ w ∷ [])) (subst (λ (us : List Val). ent 𝓤 (Run (hv ∷ w ∷ [])) (Run us)) (sym (λ i. ea i ++ (ew i ++ []))) (id⊢ 𝓤 (Run (hv ∷ w ∷ [])))) $
    enter ! 𝓣.C 𝓣.Λ fn (hv ∷ w ∷ []) Post $ alloc_all ! (λ l. pass_all ! refl (fa, ((tt, (tt, tt)), tt)) $ let Ev = env fn.locals l in
    sets ! (of_opd ! (get_in ! (fld ! refl (stop !)) (sub ! 0 refl (whole !)))) refl (tt, tt) $ first ! $ blocks ! $ sets ! (of_opd ! (get ! refl)) refl (tt, tt) $
    calls_at_last ! (fm 𝓛 𝓜 𝓡) k (met 𝓤 𝓛 𝓜 𝓡 (code.calls-std_alloc::boxed::Box::from_raw 𝓡.env wired) N A L LA g d dd allocator glued) y (and_then ! (get ! refl) (and_then ! (get ! refl) (no_more !))) (λ u.
    use1 𝓛 (later (some (λ (r : B.Denot). ((‵ (flft [] full_share) ⊛ ‵ (flft [] full_share) ⊛ ‵ ftrue) ⊛ ‵ (B.own_val r (u ∷ []))) ⊛ some (λ (ls : Lasts (callee.ended N A g d dd) y.0.0 y.0.3). ‵ (lasts (callee.ended N A g d dd) y.0.0 y.0.3 ls) ⊛ (raw (fact 𝓤 (r.value ≡ v.shown)) ⊛ raw (fact 𝓤 (r.alloc ≡ a))))))) (id⊢ 𝓤 (k.post y u)) $
    await ! tt $ pick ! (λ r. split ! $ move ! (1 ∷ []) $ pick ! (λ _. split3 ! $ drop ! $ move ! (2 ∷ []) $ split ! $ drop ! $
    box_out E ! r (u ∷ []) (λ b' o' h' e' us fits'. box_in E ! r b' o' r.value e' refl $ rewrite ! 0 (λ (xs : List Val). ‵ (B.own_val r xs)) (sym us) refl $
    let good = subst (Good (layout B)) (sym (ap only us)) (box.box_typed E h' b' o' fits') in
    lands_last ! refl good $ exec ! 𝓣.C 𝓣.Λ Ev (after 2 fn.body) (at_ret Ev Post) $ sets ! (of_opd ! (get ! refl)) refl good $
    nothing ! $ nothing ! $ fjoin ! $ nothing ! $ fjoin ! $ nothing ! $ returns ! (look_at ! 0 refl) $ free_all ! refl $ keep ! (0 ∷ 1 ∷ 2 ∷ 3 ∷ []) $ by ! (leaves 𝓛 En hs c z u r (tt, (tt, tt)) (tt, (tt, tt))))))))))))))
