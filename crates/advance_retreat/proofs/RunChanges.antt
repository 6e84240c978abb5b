-- How an event comes behind the runs, or is taken back.
use Rattle.std.proofs.Common.{◌≡◌, ℕ, zero, suc, ◌+◌, ◌-◌, ◌<◌, ◌≤◌, ◌^◌, List, [], ◌∷◌, ◌++◌, length, refl, sym, ap, ◌∙◌, subst, arith, append_assoc, append-nil}
use Rattle.ew_model.specs.declared.node.Node.{Node}
use Rattle.ew_model.specs.declared.node.Node.TheVariants.{Root, Base, Event}
use Rattle.character_runs.proofs.Lists.{length-push}
use Rattle.advance_retreat.specs.declared.line.Way.{Way}
use Rattle.advance_retreat.specs.declared.line.Way.TheVariants.{Up, Down}
use Rattle.advance_retreat.specs.declared.run.Run.{Run}
use Rattle.advance_retreat.specs.declared.target.Target.{Target}
use Rattle.advance_retreat.specs.Runs.{node_from, events_from, events_in, HasNodes, AreRuns, AreBelow, GoesOn, HaveMore, HaveFewer, alone}
use Rattle.advance_retreat.proofs.Found.{last_gone}
use Rattle.advance_retreat.proofs.RunLaws.{runs_front, events_join}

-- a run that ends with the events of another, and one more
abbrev Extends : Run → Run → Target → Type 0
Extends new old t = events_in (new ∷ []) ≡ events_in (old ∷ []) ++ t ∷ []

-- the last run is another, of one event more
extended : (rs : List Run) (old new : Run) (t : Target) → Extends new old t → events_in (rs ++ new ∷ []) ≡ events_in (rs ++ old ∷ []) ++ t ∷ []
extended rs old new t e =
    events_join rs (new ∷ []) ∙ ap (λ (ts : List Target). events_in rs ++ ts) e
    ∙ sym (append_assoc (events_in rs) (events_in (old ∷ [])) (t ∷ []))
    ∙ ap (λ (ts : List Target). ts ++ t ∷ []) (sym (events_join rs (old ∷ [])))

-- another run that begins where the last does
replaced : (rs : List Run) (low : ℕ) (old new : Run) → new.first ≡ old.first → new.first + new.more < 2 ^ 32 → HasNodes new.way new.node new.more → AreRuns low (rs ++ old ∷ []) → AreRuns low (rs ++ new ∷ [])
replaced [] low old new same fits nodes are = let first = are.0 in (omega (arith, first, same), fits, nodes, tt)
replaced (x ∷ rs) low old new same fits nodes are = (are.0, are.1, are.2, replaced rs (suc (x.first + x.more)) old new same fits nodes are.3)

-- ONE MORE
more_events : (way : Way) (v : Node) (lv steps count : ℕ) → events_from way v lv steps (suc count) ≡ events_from way v lv steps count ++ record { lv = lv + (steps + count); node = node_from way v (steps + count) } ∷ []
more_events way v lv steps zero = let same : steps ≡ steps + 0 = omega arith in ap (λ (k : ℕ). record { lv = lv + k; node = node_from way v k } ∷ []) same
more_events way v lv steps (suc count) =
    let same : (steps + 1) + count ≡ steps + suc count = omega arith in
    ap (λ (ts : List Target). record { lv = lv + steps; node = node_from way v steps } ∷ ts)
    (more_events way v lv (steps + 1) count ∙ ap (λ (k : ℕ). events_from way v lv (steps + 1) count ++ record { lv = lv + k; node = node_from way v k } ∷ []) same)

-- of a run of one event any way is the same
at_first : (way : Way) (v : Node) → node_from way v 0 ≡ v
at_first way Root = refl
at_first Up (Base n) = let same : n + 0 ≡ n = omega arith in ap Base same
at_first Down (Base n) = let same : n - 0 ≡ n = omega arith in ap Base same
at_first Up (Event n) = let same : n + 0 ≡ n = omega arith in ap Event same
at_first Down (Event n) = let same : n - 0 ≡ n = omega arith in ap Event same

any_way : (way other : Way) (v : Node) (lv more : ℕ) → more ≡ 0 → events_from way v lv 0 (suc more) ≡ events_from other v lv 0 (suc more)
any_way way other v lv more none =
    ap (λ (n : ℕ). events_from way v lv 0 (suc n)) none
    ∙ ap (λ (w : Node). record { lv = lv + 0; node = w } ∷ []) (at_first way v ∙ sym (at_first other v))
    ∙ ap (λ (n : ℕ). events_from other v lv 0 (suc n)) (sym none)

abbrev pub with_more : Run → ℕ → Run
with_more r more = record { first = r.first; more = more; node = r.node; way = r.way }

more_at : (r : Run) (lv more : ℕ) (v : Node) → GoesOn r lv v → more ≡ suc r.more → Extends (with_more r more) r (record { lv = lv; node = v })
more_at r lv more v on is =
    let next = on.next in
    let here : r.first + (0 + suc r.more) ≡ lv = omega (arith, next) in
    let one : 0 + suc r.more ≡ suc r.more = omega arith in
    append-nil (events_from r.way r.node r.first 0 (suc more))
    ∙ ap (λ (n : ℕ). events_from r.way r.node r.first 0 (suc n)) is
    ∙ more_events r.way r.node r.first 0 (suc r.more)
    ∙ (λ i. events_from r.way r.node r.first 0 (suc r.more) ++ record { lv = here i; node = (ap (node_from r.way r.node) one ∙ sym on.character.node) i } ∷ [])
    ∙ ap (λ (ts : List Target). ts ++ record { lv = lv; node = v } ∷ []) (sym (append-nil (events_from r.way r.node r.first 0 (suc r.more))))

-- the last run, or one with the same events, has one more
pub lengthened : (rs : List Run) (old r : Run) (lv more : ℕ) (v : Node) → AreRuns 0 (rs ++ old ∷ []) → r.first ≡ old.first → events_in (r ∷ []) ≡ events_in (old ∷ []) → lv < 2 ^ 32 → GoesOn r lv v → more ≡ suc r.more
    → HaveMore (rs ++ with_more r more ∷ []) (rs ++ old ∷ []) lv v
lengthened rs old r lv more v are first same fits on is =
    let next = on.next in (
      replaced rs 0 old (with_more r more) first (omega (arith, fits, next, is)) (subst (HasNodes r.way r.node) (sym is) on.character.nodes) are,
      extended rs old (with_more r more) (record { lv = lv; node = v }) (more_at r lv more v on is ∙ ap (λ (ts : List Target). ts ++ record { lv = lv; node = v } ∷ []) same),
    )

-- the same run on another way, where it has one event
pub same_turned : (r t : Run) → r.more ≡ 0 → t.first ≡ r.first → t.more ≡ r.more → t.node ≡ r.node → events_in (t ∷ []) ≡ events_in (r ∷ [])
same_turned r t none first more node =
    (λ i. events_from t.way (node i) (first i) 0 (suc (more i)) ++ [])
    ∙ ap (λ (ts : List Target). ts ++ []) (any_way t.way r.way r.node r.first r.more none)

pushed_from : (rs : List Run) (low lv : ℕ) (v : Node) → AreRuns low rs → low ≤ lv → lv < 2 ^ 32 → HasNodes Up v 0 → AreBelow lv rs → AreRuns low (rs ++ alone lv v ∷ [])
pushed_from [] low lv v are le fits nodes below = (le, omega (arith, fits), nodes, tt)
pushed_from (x ∷ rs) low lv v are le fits nodes below =
    let lt = below 0 x refl in
    (are.0, are.1, are.2, pushed_from rs (suc (x.first + x.more)) lv v are.3 (omega (arith, lt)) fits nodes (λ k r e. below (suc k) r e))

pub pushed : (rs : List Run) (lv : ℕ) (v : Node) → AreRuns 0 rs → lv < 2 ^ 32 → HasNodes Up v 0 → AreBelow lv rs → HaveMore (rs ++ alone lv v ∷ []) rs lv v
pushed rs lv v are fits nodes below =
    let here : lv + 0 ≡ lv = omega arith in (
      pushed_from rs 0 lv v are (omega arith) fits nodes below,
      events_join rs (alone lv v ∷ []) ∙ (λ i. events_in rs ++ record { lv = here i; node = at_first Up v i } ∷ []),
    )

-- ONE FEWER
-- a way that is long enough is so for fewer steps
fewer_nodes : (way : Way) (v : Node) (more less : ℕ) → less ≤ more → HasNodes way v more → HasNodes way v less
fewer_nodes way Root more less le h = tt
fewer_nodes Up (Base n) more less le h = omega (arith, le, h)
fewer_nodes Down (Base n) more less le h = omega (arith, le, h)
fewer_nodes Up (Event n) more less le h = omega (arith, le, h)
fewer_nodes Down (Event n) more less le h = omega (arith, le, h)

own_nodes : (rs : List Run) (low : ℕ) (r : Run) → AreRuns low (rs ++ r ∷ []) → (r.first + r.more < 2 ^ 32) × HasNodes r.way r.node r.more
own_nodes [] low r are = (are.1, are.2)
own_nodes (x ∷ rs) low r are = own_nodes rs (suc (x.first + x.more)) r are.3

abbrev last_of : Run → Target
last_of r = record { lv = r.first + (0 + r.more); node = node_from r.way r.node (0 + r.more) }

fewer_at : (r : Run) (less : ℕ) → r.more ≡ suc less → Extends r (with_more r less) (last_of r)
fewer_at r less is =
    append-nil (events_from r.way r.node r.first 0 (suc r.more))
    ∙ more_events r.way r.node r.first 0 r.more
    ∙ ap (λ (n : ℕ). events_from r.way r.node r.first 0 n ++ last_of r ∷ []) is
    ∙ ap (λ (ts : List Target). ts ++ last_of r ∷ []) (sym (append-nil (events_from r.way r.node r.first 0 (suc less))))

pub shortened : (rs : List Run) (r : Run) (less : ℕ) → AreRuns 0 (rs ++ r ∷ []) → r.more ≡ suc less → HaveFewer (rs ++ with_more r less ∷ []) (rs ++ r ∷ [])
shortened rs r less are is =
    let own = own_nodes rs 0 r are in
    let fits = own.0 in (
      replaced rs 0 r (with_more r less) refl (omega (arith, fits, is)) (fewer_nodes r.way r.node r.more less (omega (arith, is)) own.1) are,
      last_of r,
      extended rs (with_more r less) r (last_of r) (fewer_at r less is),
    )

pub dropped : (rs : List Run) (r : Run) → AreRuns 0 (rs ++ r ∷ []) → r.more ≡ 0 → HaveFewer rs (rs ++ r ∷ [])
dropped rs r are none = (
  runs_front rs (r ∷ []) 0 are,
  record { lv = r.first + 0; node = node_from r.way r.node 0 },
  events_join rs (r ∷ []) ∙ ap (λ (n : ℕ). events_in rs ++ (events_from r.way r.node r.first 0 (suc n) ++ [])) none,
)

init_same : (xs ys : List Target) (x y : Target) → xs ++ x ∷ [] ≡ ys ++ y ∷ [] → xs ≡ ys
init_same xs ys x y e = sym (last_gone (xs ++ x ∷ []) xs x (length (xs ++ x ∷ [])) refl refl) ∙ last_gone (xs ++ x ∷ []) ys y (length (xs ++ x ∷ [])) e refl

pub one_back : (new old : List Run) → HaveFewer new old → (events : List Target) (last : Target) → events_in old ≡ events ++ last ∷ [] → events_in new ≡ events
one_back new old fewer events last e = init_same (events_in new) events fewer.1 last (sym fewer.2 ∙ e)

pub one_less : (new old : List Run) → HaveFewer new old → length (events_in new) ≡ length (events_in old) - 1
one_less new old fewer =
    let long = ap length fewer.2 ∙ length-push (events_in new) fewer.1 in
    omega (arith, long)

pub none_back : (events : List Target) (last : Target) → [] ≡ events ++ last ∷ [] → ⊥
none_back [] last e = cc
none_back (x ∷ events) last e = cc
