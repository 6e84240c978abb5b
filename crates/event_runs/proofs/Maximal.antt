-- The runs that are kept are the history's, each as long as it can be.
use Rattle.std.proofs.Common.{◌≡◌, ℕ, zero, suc, ◌+◌, ◌-◌, ◌<◌, ◌≤◌, ◌⊎◌, inl, inr, List, [], ◌∷◌, ◌++◌, length, slice_get, Some, refl, sym, ap, ◌∙◌, subst, arith, append-nil, length-append}
use Rattle.std.specs.List.{flat_map}
use Rattle.std.proofs.lemmas.Option.{same_Some, slice_get_within}
use Rattle.ew_model.specs.declared.event.Op.TheVariants.{Del}
use Rattle.event_runs.specs.declared.runs.Run.{Run}
use Rattle.event_runs.specs.declared.runs.RunKind.{RunKind}
use Rattle.event_runs.specs.declared.runs.RunKind.TheVariants.{Insertions, Deletions, BackDeletions, Marks}
use Rattle.event_runs.specs.BareEvents.{BareEvent}
use Rattle.event_runs.specs.KeptRuns.{Told, op_in, event_in, run_events, events_in, sort_of, chars_of, other_kind, IsNext, JoinsAs, behind, Fits, AreRuns}
use Rattle.event_runs.specs.Runs.{Way, Typing, Deleting, DeletingBack, GoesOn, IsRun, AreMaximalFrom, AreRunsOf}
use Rattle.event_runs.proofs.RunEvents.{length-run_events, read_run, skip_part}

-- the way of a kind
abbrev way_of : RunKind → Way
way_of Insertions = Typing
way_of Deletions = Deleting
way_of BackDeletions = DeletingBack
way_of Marks = Typing

goes_on : (kind : RunKind) (at place more k : ℕ) (cs : Told) → Fits kind at more → suc k ≤ more → GoesOn (way_of kind) (op_in kind at place cs k) (op_in kind at place cs (suc k))
goes_on Insertions at place more k cs f l = omega arith
goes_on Deletions at place more k cs f l = refl
goes_on BackDeletions at place more k cs f l = omega (arith, f, l)
goes_on Marks at place more k cs f l = absurd (omega (arith, f, l))

-- an event of a run, read off
read_one : (cs : Told) (r : Run) (first : List ℕ) (k : ℕ) (x : BareEvent) → slice_get (run_events cs r first) k ≡ Some x → (k ≤ r.more) × (x ≡ event_in cs r first k)
read_one cs r first k x e =
    let within = slice_get_within (run_events cs r first) k x e in
    let long = length-run_events cs r first in
    let low : k ≤ r.more = omega (arith, within, long) in
    (low, same_Some x (event_in cs r first k) (sym e ∙ ap (λ (es : List BareEvent). slice_get es k) (sym (append-nil (run_events cs r first))) ∙ read_run cs r first [] k low))

pub run_is : (cs : Told) (r : Run) (first : List ℕ) → Fits r.kind r.at r.more → IsRun r.start (run_events cs r first)
run_is cs r first f = record {
  some = let long = length-run_events cs r first in omega (arith, long);
  chain = λ k y e. ap (λ (z : BareEvent). z.parents) (read_one cs r first (suc k) y e).1;
  steady = (
    way_of r.kind,
    λ k x y d e.
        let one = read_one cs r first k x d in let two = read_one cs r first (suc k) y e in
        subst (λ (z : BareEvent). GoesOn (way_of r.kind) z.op y.op) (sym one.1) (subst (λ (z : BareEvent). GoesOn (way_of r.kind) (op_in r.kind r.at r.chars_before cs k) z.op) (sym two.1)
        (goes_on r.kind r.at r.chars_before r.more k cs f two.0)),
  );
}

-- WITH THE EVENT OF ANOTHER RUN behind its own, it is a run only where the two go together
abbrev CanJoin : RunKind → RunKind → ℕ → ℕ → ℕ → Type 0
CanJoin kind m at more next = (k : RunKind) × (sort_of kind ≡ sort_of m) × ((k ≡ kind) ⊎ ((more ≡ 0) × (k ≡ other_kind kind))) × IsNext k at more next

typed : (m : RunKind) (at next place own more : ℕ) (cs : Told) (way : Way) → GoesOn way (op_in Insertions at place cs more) (op_in m next own cs 0) → CanJoin Insertions m at more next
typed Insertions at next place own more cs Typing g = (Insertions, refl, inl refl, omega (arith, g))
typed Deletions at next place own more cs Typing g = absurd g
typed BackDeletions at next place own more cs Typing g = absurd g
typed Marks at next place own more cs Typing g = absurd g
typed Insertions at next place own more cs Deleting g = absurd g
typed Deletions at next place own more cs Deleting g = absurd g
typed BackDeletions at next place own more cs Deleting g = absurd g
typed Marks at next place own more cs Deleting g = absurd g
typed Insertions at next place own more cs DeletingBack g = absurd g
typed Deletions at next place own more cs DeletingBack g = absurd g
typed BackDeletions at next place own more cs DeletingBack g = absurd g
typed Marks at next place own more cs DeletingBack g = absurd g

deleted : (m : RunKind) (at next place own more : ℕ) (cs : Told) (way : Way) → GoesOn way (Del at) (op_in m next own cs 0) → (0 < more → GoesOn way (Del at) (Del at)) → CanJoin Deletions m at more next
deleted Insertions at next place own more cs Typing g h = absurd g
deleted Deletions at next place own more cs Typing g h = absurd g
deleted BackDeletions at next place own more cs Typing g h = absurd g
deleted Marks at next place own more cs Typing g h = absurd g
deleted Insertions at next place own more cs Deleting g h = absurd g
deleted Marks at next place own more cs Deleting g h = absurd g
deleted Deletions at next place own more cs Deleting g h = (Deletions, refl, inl refl, g)
deleted BackDeletions at next place own more cs Deleting g h = (Deletions, refl, inl refl, omega (arith, g))
deleted Insertions at next place own more cs DeletingBack g h = absurd g
deleted Marks at next place own more cs DeletingBack g h = absurd g
deleted Deletions at next place own zero cs DeletingBack g h = (BackDeletions, refl, inr (refl, refl), omega (arith, g))
deleted BackDeletions at next place own zero cs DeletingBack g h = (BackDeletions, refl, inr (refl, refl), omega (arith, g))
deleted Deletions at next place own (suc more) cs DeletingBack g h = let same = h (omega arith) in absurd (omega (arith, same))
deleted BackDeletions at next place own (suc more) cs DeletingBack g h = let same = h (omega arith) in absurd (omega (arith, same))

deleted_back : (m : RunKind) (at next place own more : ℕ) (cs : Told) (way : Way) → more ≤ at → GoesOn way (Del (at - more)) (op_in m next own cs 0) → (0 < more → GoesOn way (Del (at - 0)) (Del (at - 1))) → CanJoin BackDeletions m at more next
deleted_back Insertions at next place own more cs Typing f g h = absurd g
deleted_back Deletions at next place own more cs Typing f g h = absurd g
deleted_back BackDeletions at next place own more cs Typing f g h = absurd g
deleted_back Marks at next place own more cs Typing f g h = absurd g
deleted_back Insertions at next place own more cs Deleting f g h = absurd g
deleted_back Marks at next place own more cs Deleting f g h = absurd g
deleted_back Deletions at next place own zero cs Deleting f g h = (Deletions, refl, inr (refl, refl), omega (arith, g))
deleted_back BackDeletions at next place own zero cs Deleting f g h = (Deletions, refl, inr (refl, refl), omega (arith, g))
deleted_back Deletions at next place own (suc more) cs Deleting f g h = let same = h (omega arith) in absurd (omega (arith, same, f))
deleted_back BackDeletions at next place own (suc more) cs Deleting f g h = let same = h (omega arith) in absurd (omega (arith, same, f))
deleted_back Insertions at next place own more cs DeletingBack f g h = absurd g
deleted_back Marks at next place own more cs DeletingBack f g h = absurd g
deleted_back Deletions at next place own more cs DeletingBack f g h = (BackDeletions, refl, inl refl, omega (arith, g, f))
deleted_back BackDeletions at next place own more cs DeletingBack f g h = (BackDeletions, refl, inl refl, omega (arith, g, f))

-- nothing goes on from a mark
marked : (at next place own more : ℕ) (m : RunKind) (cs : Told) (way : Way) → GoesOn way (op_in Marks at place cs more) (op_in m next own cs 0) → ⊥
marked at next place own more m cs Typing g = g
marked at next place own more m cs Deleting g = g
marked at next place own more m cs DeletingBack g = g

can_join : (kind m : RunKind) (at next place own more : ℕ) (cs : Told) (way : Way) → Fits kind at more → GoesOn way (op_in kind at place cs more) (op_in m next own cs 0)
    → (0 < more → GoesOn way (op_in kind at place cs 0) (op_in kind at place cs 1)) → CanJoin kind m at more next
can_join Insertions m at next place own more cs way f g h = typed m at next place own more cs way g
can_join Deletions m at next place own more cs way f g h = deleted m at next place own more cs way g h
can_join BackDeletions m at next place own more cs way f g h = deleted_back m at next place own more cs way f g h
can_join Marks m at next place own more cs way f g h = absurd (marked at next place own more m cs way g)

apart_is : (cs : Told) (r s : Run) (first parents : List ℕ) → Fits r.kind r.at r.more → (parents ≡ behind r → (kind : RunKind) → JoinsAs r s kind → ⊥) → IsRun r.start (run_events cs r first ++ event_in cs s parents 0 ∷ []) → ⊥
apart_is cs r s first parents f a run =
    let last = event_in cs s parents 0 in
    let there : slice_get (run_events cs r first ++ last ∷ []) (suc r.more) ≡ Some last = skip_part (event_in cs r first) 0 (suc r.more) (last ∷ []) 0 (suc r.more) (omega arith) in
    let before = λ (k : ℕ) (l : k ≤ r.more). read_run cs r first (last ∷ []) k l in
    let only : parents ≡ behind r = run.chain r.more last there in
    let joins = can_join r.kind s.kind r.at s.at r.chars_before s.chars_before r.more cs run.steady.0 f
    (run.steady.1 r.more (event_in cs r first r.more) last (before r.more (omega arith)) there)
    (λ l. run.steady.1 0 (event_in cs r first 0) (event_in cs r first 1) (before 0 (omega arith)) (before 1 (omega (arith, l)))) in
    a only joins.0 (record { alike = joins.1; one_way = joins.2; next = joins.3 })

-- THE RUNS' EVENTS, run by run
abbrev pub runs_in : Told → List Run → List (List ℕ) → List (List BareEvent)
runs_in cs [] lists = []
runs_in cs (r ∷ runs) [] = []
runs_in cs (r ∷ runs) (first ∷ lists) = run_events cs r first ∷ runs_in cs runs lists

pub whole_in : (cs : Told) (runs : List Run) (lists : List (List ℕ)) → flat_map (λ (run : List BareEvent). run) (runs_in cs runs lists) ≡ events_in cs runs lists
whole_in cs [] lists = refl
whole_in cs (r ∷ runs) [] = refl
whole_in cs (r ∷ runs) (first ∷ lists) = ap (λ (es : List BareEvent). run_events cs r first ++ es) (whole_in cs runs lists)

pub count_in : (cs : Told) (runs : List Run) (lists : List (List ℕ)) → length lists ≡ length runs → length (runs_in cs runs lists) ≡ length runs
count_in cs [] lists e = refl
count_in cs (r ∷ runs) [] e = absurd (omega (arith, e))
count_in cs (r ∷ runs) (first ∷ lists) e = ap suc (count_in cs runs lists (omega (arith, e)))

pub maximal_in : (cs : Told) (runs : List Run) (lists : List (List ℕ)) (start place end long : ℕ) → AreRuns start place runs lists end long → AreMaximalFrom start (runs_in cs runs lists)
maximal_in cs [] lists start place end long a = tt
maximal_in cs (r ∷ runs) [] start place end long a = absurd a
maximal_in cs (r ∷ []) (first ∷ lists) start place end long a = subst (λ n. IsRun n (run_events cs r first)) a.0 (run_is cs r first a.2)
maximal_in cs (r ∷ s ∷ runs) (first ∷ []) start place end long a = absurd a.4
maximal_in cs (r ∷ s ∷ runs) (first ∷ next ∷ lists) start place end long a = (
  subst (λ n. IsRun n (run_events cs r first)) a.0 (run_is cs r first a.2),
  (λ run. apart_is cs r s first next a.2 a.3 (subst (λ n. IsRun n (run_events cs r first ++ event_in cs s next 0 ∷ [])) (sym a.0) run)),
  subst (λ n. AreMaximalFrom (start + n) (runs_in cs (s ∷ runs) (next ∷ lists))) (sym (length-run_events cs r first))
      (maximal_in cs (s ∷ runs) (next ∷ lists) (start + suc r.more) (place + chars_of r.kind (suc r.more)) end long a.4),
)

pub are_runs_of : (cs : Told) (runs : List Run) (lists : List (List ℕ)) (end long : ℕ) → AreRuns 0 0 runs lists end long → AreRunsOf (events_in cs runs lists) (runs_in cs runs lists)
are_runs_of cs runs lists end long a = record { whole = whole_in cs runs lists; maximal = maximal_in cs runs lists 0 0 end long a }

-- THE RUN at a place, with those before and behind it
pub record IsParted (cs : Told) (runs : List Run) (lists : List (List ℕ)) (start : ℕ) (r : Run) : Type 0 where
  pub before : List (List BareEvent)
  pub run : List BareEvent
  pub after : List (List BareEvent)
  pub parts : before ++ run ∷ after ≡ runs_in cs runs lists
  pub long : length run ≡ suc r.more
  pub starts : start + length (flat_map (λ (es : List BareEvent). es) before) ≡ r.start

pub parted : (cs : Told) (runs : List Run) (lists : List (List ℕ)) (start place end long i : ℕ) (r : Run) → AreRuns start place runs lists end long → slice_get runs i ≡ Some r → IsParted cs runs lists start r
parted cs [] lists start place end long i r a e = let no : ⊥ = cc in absurd no
parted cs (y ∷ runs) [] start place end long i r a e = absurd a
parted cs (y ∷ runs) (first ∷ lists) start place end long zero r a e =
    subst (λ (z : Run). IsParted cs (y ∷ runs) (first ∷ lists) start z) (same_Some y r e) (record {
      before = [];
      run = run_events cs y first;
      after = runs_in cs runs lists;
      parts = refl;
      long = length-run_events cs y first;
      starts = let at = a.0 in omega (arith, at);
    })
parted cs (y ∷ runs) (first ∷ lists) start place end long (suc i) r a e =
    let ih = parted cs runs lists (start + suc y.more) (place + chars_of y.kind (suc y.more)) end long i r a.4 e in
    record {
      before = run_events cs y first ∷ ih.before;
      run = ih.run;
      after = ih.after;
      parts = ap (λ rs. run_events cs y first ∷ rs) ih.parts;
      long = ih.long;
      starts = let rest = ih.starts in let one = length-run_events cs y first in
          let all = length-append (run_events cs y first) (flat_map (λ (es : List BareEvent). es) ih.before) in omega (arith, rest, one, all);
    }
