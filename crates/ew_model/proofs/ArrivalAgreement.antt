-- The law of arrival: the same events, in any order and with any repeats, come to the same where no list is full.
use Rattle.std.proofs.Common.{◌≡◌, arith, true, false, ◌⊎◌, inl, inr, ⊎_elim, List, [], ◌∷◌, ◌++◌, refl, sym, ◌∙◌, subst}
use Rattle.std.proofs.lemmas.Bool.{false≢true}
use Rattle.ew_model.specs.declared.event.Event.{Event}
use Rattle.ew_model.specs.Sets.{Among}
use Rattle.ew_model.specs.Ids.{id_eq}
use Rattle.ew_model.specs.Ancestors.{is_held}
use Rattle.ew_model.specs.Limits.{LimitNumbers}
use Rattle.ew_model.specs.Arrival.{Desk, is_ready, judged, most_judgements, desk_of, arrive}
use Rattle.ew_model.specs.Verdicts.{IsGoodAfter, IsGood}
use Rattle.ew_model.specs.Kept.{IsOrderly}
use Rattle.ew_model.specs.Verdicts.Ruling.{Good}
use Rattle.ew_model.specs.ArrivalLaw.{NoneFull, NoneReady, ArrivalAgrees}
use Rattle.ew_model.proofs.SetLaws.{among_joined, joined_left, joined_right}
use Rattle.ew_model.proofs.SortingLaws.{all_at}
use Rattle.ew_model.proofs.ArrivalLaws.{judgements_end}
use Rattle.ew_model.proofs.KeptLaws.{good-push}
use Rattle.ew_model.proofs.CoverLaws.{held_of}
use Rattle.ew_model.proofs.RulingLaws.{is_malformed, ruled, next_right, ready_more, stays}
use Rattle.ew_model.proofs.ArrivalRuns.{Accounted, IsRun, run_all, ended}

-- a run that has come to its end
record IsEnd (U : Event → Type 0) (old : List Event) (d : Desk) : Type 0 where
  run : IsRun U old d
  settled : NoneReady d.held d.waiting
  each : (u : Event) → U u → Accounted old d.held d.waiting u

module _ (U : Event → Type 0) (old : List Event) where
  end_from : (d : Desk) → IsRun U old d → NoneReady d.held d.waiting → d.coming ≡ [] → IsEnd U old d
  end_from d run settled none = record {
    run = run;
    settled = settled;
    each = λ u g. ⊎_elim (λ c. absurd (subst (Among u) none c)) (λ a. a) (run.each u g);
  }

  not_settled : (d : Desk) → IsEnd U old d → (w : Event) → Among w d.waiting → is_ready d.held w ≡ true → ⊥
  not_settled d end w m r = false≢true (sym (all_at (λ w. is_ready d.held w ≡ false) d.waiting w end.settled m) ∙ r)

  -- the events of a good history that are given are held at the other end
  held_at : (d : Desk) → IsEnd U old d → (before : List Event) (e : Event) → IsGood before → ((z : Event) → Among z before → Among z d.held) → is_malformed e ≡ false → is_ready before e ≡ true → ruled before e ≡ Good → Accounted old d.held d.waiting e → Among e d.held
  held_at d end before e good sub form ready is (inl h) = h
  held_at d end before e good sub form ready is (inr (inl w)) = absurd (not_settled d end e w (ready_more before d.held e sub ready))
  held_at d end before e good sub form ready is (inr (inr (new, inl b))) = absurd (false≢true (sym form ∙ b.0))
  held_at d end before e good sub form ready is (inr (inr (new, inr b))) = absurd (b.1 (sym (stays before d.held e good end.run.kept.good sub ready) ∙ is))

  held_from : (d : Desk) → IsEnd U old d → (before later : List Event) → IsGood before → IsGoodAfter before later → ((z : Event) → Among z before → Among z d.held) → ((z : Event) → Among z later → U z) → (e : Event) → Among e later → Among e d.held
  unfolding IsGood
  held_from d end before [] good after sub given e m = absurd m
  held_from d end before (y ∷ later) good after sub given e m =
      let right = next_right before y after.0 in
      let here : Among y d.held = held_at d end before y good sub right.form right.ready right.good (end.each y (given y (inl refl))) in
      ⊎_elim
      (λ q. subst (λ z. Among z d.held) (sym q) here)
      (λ k. held_from d end (before ++ y ∷ []) later (good-push [] before y good after.0) after.1
      (λ z j. ⊎_elim (λ i. sub z i) (λ i. ⊎_elim (λ q. subst (λ w. Among w d.held) (sym q) here) (λ no. absurd no) i) (among_joined before (y ∷ []) z j))
      (λ z j. given z (inr j)) e k)
      m

  -- the same events are held
  held_in_both : (d c : Desk) → IsEnd U old d → IsEnd U old c → (e : Event) → Among e d.held → Among e c.held
  unfolding IsGood
  held_in_both d c end other e m = held_from c other [] d.held tt end.run.kept.good (λ z no. absurd no) end.run.of_held e m

  -- and the same wait
  waiting_in_both : (d c : Desk) → IsEnd U old d → IsEnd U old c → (w : Event) → Among w d.waiting → Among w c.waiting
  waiting_in_both d c end other w m = at (other.each w (end.run.of_waiting w m).0)
    where
      back : is_ready c.held w ≡ true → ⊥
      back r = not_settled d end w m (ready_more c.held d.held w (λ z k. held_in_both c d other end z k) r)

      at : Accounted old c.held c.waiting w → Among w c.waiting
      at (inl h) = absurd (false≢true (sym (all_at (λ w. is_held d.held w.id ≡ false) d.waiting w end.run.kept.fresh m) ∙ held_of d.held w (held_in_both c d other end w h)))
      at (inr (inl v)) = v
      at (inr (inr (new, inl b))) = ⊎_elim (λ n. absurd (false≢true (sym n ∙ b.0))) (λ o. absurd (back (b.1 o))) (end.run.of_waiting w m).1
      at (inr (inr (new, inr b))) = absurd (back b.0)

-- the start of a run
start : (U : Event → Type 0) (held waiting events : List Event) → IsOrderly held waiting → NoneReady held waiting
    → ((u : Event) → Among u held → U u) → ((u : Event) → Among u waiting → U u) → ((u : Event) → Among u events → U u)
    → ((u : Event) → U u → Among u held ⊎ (Among u waiting ⊎ Among u events))
    → IsRun U waiting (desk_of held waiting events)
start U held waiting events kept settled of_held of_waiting of_events all = record {
  kept = kept;
  of_held = of_held;
  of_coming = of_events;
  of_waiting = λ u m. (of_waiting u m, inr m);
  of_old = λ u m. (of_waiting u m, inr (inl m));
  each = λ u g. ⊎_elim (λ h. inr (inl h)) (λ r. ⊎_elim (λ w. inr (inr (inl w))) (λ c. inl c) r) (all u g);
  still = λ q. settled;
}

end_of : (U : Event → Type 0) (old : List Event) (one : (f g : Event) → U f → U g → id_eq f.id g.id ≡ true → f ≡ g) (limits : LimitNumbers) (d : Desk) → IsRun U old d → NoneFull (judged limits true d).answers → IsEnd U old (judged limits true d).desk
end_of U old one limits d run none =
    let n = most_judgements d in
    let last = run_all U old one limits n d run none in
    let done = ended limits (judged limits true d).desk (judgements_end limits true n d (omega arith)) last.still in
    end_from U old (judged limits true d).desk last done.0 done.1

-- The law of arrival.
pub arrival_agrees : ArrivalAgrees
unfolding arrive
arrival_agrees limits held waiting xs ys kept settled one_each same none_xs none_ys =
    let U = λ (u : Event). Among u (held ++ (waiting ++ xs)) in
    let of_held : (u : Event) → Among u held → U u = λ u m. joined_left held (waiting ++ xs) u m in
    let of_waiting : (u : Event) → Among u waiting → U u = λ u m. joined_right held (waiting ++ xs) u (joined_left waiting xs u m) in
    let of_xs : (u : Event) → Among u xs → U u = λ u m. joined_right held (waiting ++ xs) u (joined_right waiting xs u m) in
    let all : (u : Event) → U u → Among u held ⊎ (Among u waiting ⊎ Among u xs) = λ u m. ⊎_elim (λ h. inl h) (λ k. inr (among_joined waiting xs u k)) (among_joined held (waiting ++ xs) u m) in
    let first = end_of U waiting one_each limits (desk_of held waiting xs) (start U held waiting xs kept settled of_held of_waiting of_xs all) none_xs in
    let second = end_of U waiting one_each limits (desk_of held waiting ys) (start U held waiting ys kept settled of_held of_waiting (λ u m. of_xs u (same.back u m)) (λ u g. ⊎_elim (λ h. inl h) (λ k. ⊎_elim (λ w. inr (inl w)) (λ x. inr (inr (same.there u x))) k) (all u g))) none_ys in
    let d = (judged limits true (desk_of held waiting xs)).desk in
    let c = (judged limits true (desk_of held waiting ys)).desk in
    record {
      held = record { there = λ e m. held_in_both U waiting d c first second e m; back = λ e m. held_in_both U waiting c d second first e m };
      waiting = record { there = λ e m. waiting_in_both U waiting d c first second e m; back = λ e m. waiting_in_both U waiting c d second first e m };
    }
