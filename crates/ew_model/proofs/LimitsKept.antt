-- What arrivals keep: the state stays orderly, and neither list grows past its limit.
use Rattle.std.proofs.Common.{◌≡◌, ℕ, zero, suc, ◌+◌, ◌≤◌, Bool, true, false, cond, not, nat_le, nat_lt, List, [], ◌∷◌, ◌++◌, find, length, Option, Some, None, refl, subst, arith, length-append}
use Rattle.std.specs.Bool.{then_some}
use Rattle.std.specs.Option.{option_map, option_map_or}
use Rattle.std.specs.List.{list_any}
use Rattle.std.proofs.lemmas.Bool.{leb-false}
use Rattle.ew_model.specs.declared.event.Event.{Event}
use Rattle.ew_model.specs.declared.id.Id.{Id}
use Rattle.ew_model.specs.Ids.{is_among, ids_ascend}
use Rattle.ew_model.specs.Events.{event_eq}
use Rattle.ew_model.specs.Ancestors.{is_held, is_reduced}
use Rattle.ew_model.specs.Limits.{LimitNumbers}
use Rattle.ew_model.specs.Verdicts.{Ruling, first_row, id_rows, parent_rows, size_rows, range_rows, follows_its_agent, later_rows}
use Rattle.ew_model.specs.Verdicts.Ruling.{Repeat, Clash, SelfParent, TooManyParents, ParentsUnsorted, Unknown, PoolFull, NotReduced, Skipped, GraphFull, OutOfRange, Good}
use Rattle.ew_model.specs.Arrival.{Desk, Judgement, is_ready, without_ready, desk_after, judgement_of, judge_coming, judge_ready, next_judgement, judgements, with_answer, most_judgements, desk_of, arrive}
use Rattle.ew_model.specs.Kept.{IsKept}
use Rattle.ew_model.specs.ReceivingLaws.{ArrivalsKeep}
use Rattle.ew_model.proofs.KeptLaws.{judgements_keep}
use Rattle.ew_model.proofs.RulingLaws.{behind_ids}

-- neither list of a desk is too long
record IsShort (limits : LimitNumbers) (held waiting : List Event) : Type 0 where
  few : length held ≤ limits.events
  few_wait : length waiting ≤ limits.waiting

-- where an event is judged Good, there is room for one more
room : (a b c : Bool) (o : Option Id) (d f s : Bool) (more : List (Option Ruling))
    → first_row (then_some a SelfParent ∷ then_some b TooManyParents ∷ then_some c ParentsUnsorted ∷ option_map Unknown o ∷ then_some d NotReduced ∷ then_some f Skipped ∷ then_some s GraphFull ∷ more) ≡ Good → s ≡ false
room true b c o d f s more e = absurd cc
room false true c o d f s more e = absurd cc
room false false true o d f s more e = absurd cc
room false false false (Some p) d f s more e = absurd cc
room false false false None true f s more e = absurd cc
room false false false None false true s more e = absurd cc
room false false false None false false true more e = absurd cc
room false false false None false false false more e = refl

room_left : (limits : LimitNumbers) (held : List Event) (x : Event) → first_row (later_rows limits true held x) ≡ Good → nat_le limits.events (length held) ≡ false
unfolding parent_rows size_rows
room_left limits held x e =
    room (is_among x.parents x.id) (nat_lt 16 (length x.parents)) (not (ids_ascend x.parents)) (find (λ p. not (is_held held p)) x.parents) (not (is_reduced held x.parents))
    (not (follows_its_agent held x)) (nat_le limits.events (length held)) (range_rows held x) e

one_more : (n m : ℕ) → nat_le m n ≡ false → n + 1 ≤ m
one_more n m h = let k = leb-false m n h in omega (arith, k)

-- an event with an unknown parent waits only where there is room
short_unknown : (limits : LimitNumbers) (p : Id) (x : Event) (rest : Desk) → IsShort limits rest.held rest.waiting → (b : Bool) → nat_le limits.waiting (length rest.waiting) ≡ b
    → IsShort limits (desk_after (cond b PoolFull (Unknown p)) x rest).held (desk_after (cond b PoolFull (Unknown p)) x rest).waiting
short_unknown limits p x rest k true h = k
short_unknown limits p x rest k false h =
    record {
      few = k.few;
      few_wait = let room_for = one_more (length rest.waiting) limits.waiting h in omega (arith, length-append rest.waiting (x ∷ []), room_for);
    }

-- no judgement makes a list too long
short_by : (limits : LimitNumbers) (r : Ruling) (x : Event) (rest : Desk) → IsShort limits rest.held rest.waiting → (r ≡ Good → nat_le limits.events (length rest.held) ≡ false)
    → IsShort limits (judgement_of limits rest x r).desk.held (judgement_of limits rest x r).desk.waiting
short_by limits Good x rest k g =
    record {
      few = let room_for = one_more (length rest.held) limits.events (g refl) in omega (arith, length-append rest.held (x ∷ []), room_for);
      few_wait = k.few_wait;
    }
short_by limits (Unknown p) x rest k g = short_unknown limits p x rest k (nat_le limits.waiting (length rest.waiting)) refl
short_by limits Repeat x rest k g = k
short_by limits Clash x rest k g = k
short_by limits SelfParent x rest k g = k
short_by limits TooManyParents x rest k g = k
short_by limits ParentsUnsorted x rest k g = k
short_by limits PoolFull x rest k g = k
short_by limits NotReduced x rest k g = k
short_by limits Skipped x rest k g = k
short_by limits GraphFull x rest k g = k
short_by limits (OutOfRange len) x rest k g = k

short_coming : (limits : LimitNumbers) (d : Desk) (coming : List Event) (j : Judgement) → IsShort limits d.held d.waiting → judge_coming limits true d coming ≡ Some j → IsShort limits j.desk.held j.desk.waiting
unfolding id_rows
short_coming limits d [] j k e = let no : ⊥ = cc in absurd no
short_coming limits d (x ∷ coming) j k e =
    let first = first_row (id_rows d.held d.waiting x ++ later_rows limits true d.held x) in
    let rest : Desk = record { held = d.held; waiting = d.waiting; coming = coming; is_settling = true } in
    let same : judgement_of limits rest x first ≡ j = cc in
    subst (λ (i : Judgement). IsShort limits i.desk.held i.desk.waiting) same
    (short_by limits first x rest k
    (λ good. room_left limits d.held x (behind_ids (list_any (event_eq x) (d.held ++ d.waiting)) (is_held (d.held ++ d.waiting) x.id) (later_rows limits true d.held x) good)))

-- with one taken out, no more wait
fewer : (held waiting : List Event) → length (without_ready held waiting) ≤ length waiting
fewer held [] = omega arith
fewer held (x ∷ waiting) = at (is_ready held x) (fewer held waiting)
  where
    at : (b : Bool) → length (without_ready held waiting) ≤ length waiting → length (cond b waiting (x ∷ without_ready held waiting)) ≤ length (x ∷ waiting)
    at true h = omega arith
    at false h = omega (arith, h)

short_ready : (limits : LimitNumbers) (d : Desk) (o : Option Event) (j : Judgement) → IsShort limits d.held d.waiting → judge_ready limits true d o ≡ Some j → IsShort limits j.desk.held j.desk.waiting
short_ready limits d None j k e = short_coming limits d d.coming j k e
short_ready limits d (Some x) j k e =
    let less = without_ready d.held d.waiting in
    let rest : Desk = record { held = d.held; waiting = less; coming = d.coming; is_settling = true } in
    let left : IsShort limits d.held less = record { few = k.few; few_wait = let few_wait = k.few_wait in omega (arith, fewer d.held d.waiting, few_wait) } in
    let first = first_row (later_rows limits true d.held x) in
    let same : judgement_of limits rest x first ≡ j = cc in
    subst (λ (i : Judgement). IsShort limits i.desk.held i.desk.waiting) same (short_by limits first x rest left (λ good. room_left limits d.held x good))

short_step : (limits : LimitNumbers) (n : ℕ) (d : Desk) (o : Option Judgement) → IsShort limits d.held d.waiting → ((j : Judgement) → o ≡ Some j → IsShort limits (judgements limits true n j.desk).desk.held (judgements limits true n j.desk).desk.waiting)
    → IsShort limits (option_map_or (λ j. with_answer j.answer (judgements limits true n j.desk)) o (record { desk = d; answers = [] })).desk.held (option_map_or (λ j. with_answer j.answer (judgements limits true n j.desk)) o (record { desk = d; answers = [] })).desk.waiting
short_step limits n d None k f = k
short_step limits n d (Some j) k f = f j refl

short_next : (limits : LimitNumbers) (d : Desk) (j : Judgement) → IsShort limits d.held d.waiting → next_judgement limits true d ≡ Some j → IsShort limits j.desk.held j.desk.waiting
unfolding next_judgement
short_next limits d j k e = short_ready limits d (cond d.is_settling (find (is_ready d.held) d.waiting) None) j k e

-- any number of judgements keeps what a replica of these limits keeps
short_judgements : (limits : LimitNumbers) (n : ℕ) (d : Desk) → IsShort limits d.held d.waiting → IsShort limits (judgements limits true n d).desk.held (judgements limits true n d).desk.waiting
short_judgements limits zero d k = k
short_judgements limits (suc n) d k = short_step limits n d (next_judgement limits true d) k (λ j e. short_judgements limits n j.desk (short_next limits d j k e))

pub judgements_keep_limits : (limits : LimitNumbers) (n : ℕ) (d : Desk) → IsKept limits d.held d.waiting → IsKept limits (judgements limits true n d).desk.held (judgements limits true n d).desk.waiting
judgements_keep_limits limits n d k =
    let short = short_judgements limits n d (record { few = k.few; few_wait = k.few_wait }) in
    record { orderly = judgements_keep limits n d k.orderly; few = short.few; few_wait = short.few_wait }

-- The law of what arrivals keep.
pub arrivals_keep : ArrivalsKeep
unfolding arrive
arrivals_keep limits held waiting events k = judgements_keep_limits limits (most_judgements (desk_of held waiting events)) (desk_of held waiting events) k
