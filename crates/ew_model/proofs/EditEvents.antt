-- The events that an agent makes in a row behind all that is held: they are good, and do to the text what their operations say.
use Rattle.std.proofs.Common.{◌≡◌, ℕ, zero, suc, ◌+◌, ◌≤◌, nat_lt, Bool, true, false, not, cond, List, [], ◌∷◌, ◌++◌, map, length, find, Option, Some, None, option_map, refl, sym, ap, ◌∙◌, subst, append-nil, append_assoc, arith}
use Rattle.std.specs.Bool.{then_some}
use Rattle.std.specs.List.{list_any, AllByRecursion}
use Rattle.std.proofs.lemmas.Bool.{le-ltb, lt-leb, lt-ltb}
use Rattle.ew_model.specs.declared.id.Id.{Id}
use Rattle.ew_model.specs.declared.event.Op.{Op}
use Rattle.ew_model.specs.declared.event.Op.TheVariants as op
use Rattle.ew_model.specs.declared.event.Event.{Event}
use Rattle.ew_model.specs.Ids.{id_cmp, is_among, ids_ascend}
use Rattle.ew_model.specs.Events.{event_eq}
use Rattle.ew_model.specs.Sets.{Among}
use Rattle.ew_model.specs.Sorting.{sort_by}
use Rattle.ew_model.specs.Ancestors.{is_held, heads, ancestors, is_reduced}
use Rattle.ew_model.specs.Texts.{text_at, text_of}
use Rattle.ew_model.specs.Operations.{changed_by, changed_by_all}
use Rattle.ew_model.specs.TextLaws.{own_change, Fits, AllFit}
use Rattle.ew_model.specs.Verdicts.{first_row, id_rows, parent_rows, range_rows, next_verdict, has_number_below, follows_its_agent, is_outside, IsGood}
use Rattle.ew_model.specs.Verdicts.Ruling.{Repeat, Clash, SelfParent, TooManyParents, ParentsUnsorted, Unknown, NotReduced, Skipped, OutOfRange, Good}
use Rattle.ew_model.specs.Edits.{count_of, chain_of, events_of_ops}
use Rattle.ew_model.proofs.IdLaws.{names_equal}
use Rattle.ew_model.proofs.PathOrder.{id_total}
use Rattle.ew_model.proofs.SortingLaws.{sort_among, among_sort, length-sort, all_from}
use Rattle.ew_model.proofs.EntryLaws.{LaidOut}
use Rattle.ew_model.proofs.GoodLaws.{IsNext, no_parent, good_laid_out}
use Rattle.ew_model.proofs.HeadsLaw.{all_events, whole_text, heads_hold_all}
use Rattle.ew_model.proofs.IndexLaw.{events_mean_their_index}
use Rattle.ew_model.proofs.KeptLaws.{no_repeat, good-push}
use Rattle.ew_model.proofs.EditNumbers.{RunsOn, numbered, count_of-push, runs_on}
use Rattle.ew_model.proofs.EditHeads.{head_held, heads_reduced, heads_ascend, one_head}

-- where no row holds the verdict is Good
no_row : (a b c d f h i k : Bool) (o : Option Id) (len : ℕ) → a ≡ false → b ≡ false → c ≡ false → d ≡ false → f ≡ false → o ≡ None → h ≡ false → i ≡ false → k ≡ false
    → first_row (then_some a Repeat ∷ then_some b Clash ∷ then_some c SelfParent ∷ then_some d TooManyParents ∷ then_some f ParentsUnsorted ∷ option_map Unknown o ∷ then_some h NotReduced ∷ then_some i Skipped ∷ then_some k (OutOfRange len) ∷ []) ≡ Good
no_row a b c d f h i k o len pa pb pc pd pf po ph pi pk =
    λ j. first_row (then_some (pa j) Repeat ∷ then_some (pb j) Clash ∷ then_some (pc j) SelfParent ∷ then_some (pd j) TooManyParents ∷ then_some (pf j) ParentsUnsorted ∷ option_map Unknown (po j) ∷ then_some (ph j) NotReduced ∷ then_some (pi j) Skipped ∷ then_some (pk j) (OutOfRange len) ∷ [])

all_found : (held : List Event) (ids : List Id) → AllByRecursion (λ p. is_held held p ≡ true) ids → find (λ p. not (is_held held p)) ids ≡ None
all_found held [] h = refl
all_found held (p ∷ ids) h = ap (λ b. cond (not b) (Some p) (find (λ q. not (is_held held q)) ids)) h.0 ∙ all_found held ids h.1

-- an event of which the rows say no harm is good
pub good_from_next : (held : List Event) (e : Event) → IsNext held e → next_verdict held e ≡ Good
unfolding next_verdict id_rows parent_rows range_rows
good_from_next held e next =
    let whole : held ++ [] ≡ held = append-nil held in
    no_row (list_any (event_eq e) (held ++ [])) (is_held (held ++ []) e.id) (is_among e.parents e.id) (nat_lt 16 (length e.parents)) (not (ids_ascend e.parents)) (not (is_reduced held e.parents)) (not (follows_its_agent held e)) (is_outside (length (text_at held e.parents)) e.op) (find (λ p. not (is_held held p)) e.parents) (length (text_at held e.parents))
    (ap (list_any (event_eq e)) whole ∙ no_repeat held e next.new)
    (ap (λ h. is_held h e.id) whole ∙ next.new)
    (no_parent held e.parents e.id next.parents next.new)
    (le-ltb 16 (length e.parents) next.few)
    (ap not next.ascend)
    (all_found held e.parents next.parents)
    (ap not next.reduced)
    (ap not next.follows)
    next.range

-- the event of an agent's operation, behind all that is held
abbrev pub event_by : List Event → List ℕ → Op → Event
event_by history agent o = record { id = record { agent = agent; seq = count_of history agent }; parents = sort_by id_cmp (heads history); op = o }

pub inside : (len : ℕ) (o : Op) → Fits len (own_change o) → is_outside len o ≡ false
inside len (op.Ins at ch) fit = le-ltb len at fit
inside len (op.Del at) fit = lt-leb len at fit
inside len (op.Mark label) fit = refl

pub number_follows : (history : List Event) (ids : List Id) (agent : List ℕ) (n : ℕ) → RunsOn history → n ≤ count_of history agent → ((x : Id) → is_held history x ≡ true → is_among (ancestors history ids) x ≡ true) → has_number_below (ancestors history ids) agent n ≡ true
number_follows history ids agent zero runs h known = refl
number_follows history ids agent (suc n) runs h known = known (numbered agent n) (runs agent n ∙ lt-ltb n (count_of history agent) (omega (arith, h)))

-- it may come next
pub next_by : (history : List Event) (agent : List ℕ) (o : Op) → IsGood history → length (heads history) ≤ 16 → Fits (length (text_of history)) (own_change o) → IsNext history (event_by history agent o)
unfolding follows_its_agent
next_by history agent o good few fit =
    let laid : LaidOut [] history = good_laid_out history good in
    let runs : RunsOn history = runs_on history good in
    let parents = sort_by id_cmp (heads history) in
    let there : (x : Id) → Among x (heads history) → Among x parents = among_sort id_total (heads history) in
    let back : (x : Id) → Among x parents → Among x (heads history) = sort_among id_total (heads history) in
    let long : length parents ≡ length (heads history) = length-sort id_cmp (heads history) in
    record {
      new = runs agent (count_of history agent) ∙ le-ltb (count_of history agent) (count_of history agent) (omega arith);
      parents = all_from (λ p. is_held history p ≡ true) parents (λ x m. head_held history x (back x m));
      few = omega (arith, few, long);
      ascend = heads_ascend history laid;
      reduced = heads_reduced history parents back;
      follows = number_follows history parents agent (count_of history agent) runs (omega arith) (λ x h. ap (λ events. is_held events x) (all_events history parents laid there) ∙ h);
      range = ap (λ t. is_outside (length t) o) (whole_text history parents laid there) ∙ inside (length (text_of history)) o fit;
    }

-- what is so when it has come
pub record HasCome (history : List Event) (e : Event) : Type 0 where
  pub good : IsGood (history ++ e ∷ [])
  pub heads_then : heads (history ++ e ∷ []) ≡ e.id ∷ []
  pub count_then : count_of (history ++ e ∷ []) e.id.agent ≡ count_of history e.id.agent + 1
  pub text_then : text_of (history ++ e ∷ []) ≡ changed_by (own_change e.op) (text_of history)

pub has_come : (history : List Event) (agent : List ℕ) (o : Op) → IsGood history → length (heads history) ≤ 16 → Fits (length (text_of history)) (own_change o) → HasCome history (event_by history agent o)
unfolding IsGood
has_come history agent o good few fit =
    let e = event_by history agent o in
    let there : (x : Id) → Among x (heads history) → Among x e.parents = among_sort id_total (heads history) in
    let then_good : IsGood (history ++ e ∷ []) = good-push [] history e good (good_from_next history e (next_by history agent o good few fit)) in
    let one : heads (history ++ e ∷ []) ≡ e.id ∷ [] = one_head history e (good_laid_out (history ++ e ∷ []) then_good) there in
    record {
      good = then_good;
      heads_then = one;
      count_then = count_of-push history e agent true (names_equal.refl agent);
      text_then =
          sym (heads_hold_all (history ++ e ∷ []) then_good).1
          ∙ (ap (text_at (history ++ e ∷ [])) one
          ∙ (events_mean_their_index history e then_good
          ∙ ap (changed_by (own_change o)) (whole_text history e.parents (good_laid_out history good) there)));
    }

-- the further events are those of the further operations
pub chain_goes_on : (history : List Event) (agent : List ℕ) (o : Op) (ops : List Op) → HasCome history (event_by history agent o)
    → events_of_ops history agent (o ∷ ops) ≡ event_by history agent o ∷ events_of_ops (history ++ event_by history agent o ∷ []) agent ops
unfolding events_of_ops
chain_goes_on history agent o ops come =
    λ i. event_by history agent o ∷ chain_of agent (sym come.count_then i) (sort_by id_cmp (sym come.heads_then i)) ops

-- the heads are few where something is to be made
abbrev pub FewHeads : List Event → List Op → Type 0
FewHeads history [] = Unit {0}
FewHeads history (o ∷ ops) = length (heads history) ≤ 16

-- operations that an agent may do behind all that is held
pub record MayDo (history : List Event) (ops : List Op) : Type 0 where
  pub good : IsGood history
  pub few : FewHeads history ops
  pub fit : AllFit (text_of history) (map own_change ops)

pub may_go_on : (history : List Event) (agent : List ℕ) (o : Op) (ops : List Op) → MayDo history (o ∷ ops) → HasCome history (event_by history agent o) → MayDo (history ++ event_by history agent o ∷ []) ops
may_go_on history agent o ops may come =
    record {
      good = come.good;
      few = few_heads ops (let one = ap length come.heads_then in omega (arith, one));
      fit = subst (λ t. AllFit t (map own_change ops)) (sym come.text_then) may.fit.1;
    }
  where
    few_heads : (ops : List Op) → length (heads (history ++ event_by history agent o ∷ [])) ≤ 16 → FewHeads (history ++ event_by history agent o ∷ []) ops
    few_heads [] h = tt
    few_heads (p ∷ ops) h = h

pub come_by : (history : List Event) (agent : List ℕ) (o : Op) (ops : List Op) → MayDo history (o ∷ ops) → HasCome history (event_by history agent o)
come_by history agent o ops may = has_come history agent o may.good may.few may.fit.0

-- what operations leave
pub record AreDone (history : List Event) (ops : List Op) (events : List Event) : Type 0 where
  pub good : IsGood (history ++ events)
  pub text : text_of (history ++ events) ≡ changed_by_all (map own_change ops) (text_of history)

-- The events of operations that an agent may do are good, and change the text by these operations.
pub ops_done : (history : List Event) (agent : List ℕ) (ops : List Op) → MayDo history ops → AreDone history ops (events_of_ops history agent ops)
unfolding events_of_ops
ops_done history agent [] may = record { good = subst IsGood (sym (append-nil history)) may.good; text = ap text_of (append-nil history) }
ops_done history agent (o ∷ ops) may =
    let come : HasCome history (event_by history agent o) = come_by history agent o ops may in
    let more = ops_done (history ++ event_by history agent o ∷ []) agent ops (may_go_on history agent o ops may come) in
    let shape : (history ++ event_by history agent o ∷ []) ++ events_of_ops (history ++ event_by history agent o ∷ []) agent ops ≡ history ++ events_of_ops history agent (o ∷ ops) =
    append_assoc history (event_by history agent o ∷ []) (events_of_ops (history ++ event_by history agent o ∷ []) agent ops)
    ∙ ap (λ events. history ++ events) (sym (chain_goes_on history agent o ops come)) in
    record {
      good = subst IsGood shape more.good;
      text = ap text_of (sym shape) ∙ (more.text ∙ ap (changed_by_all (map own_change ops)) come.text_then);
    }

-- And the last of them is the only head.
pub last_head : (history : List Event) (agent : List ℕ) (ops : List Op) → MayDo history ops → (front : List Event) (last : Event) → events_of_ops history agent ops ≡ front ++ last ∷ []
    → heads (history ++ events_of_ops history agent ops) ≡ last.id ∷ []
unfolding events_of_ops
last_head history agent [] may [] last is = let no : ⊥ = cc in absurd no
last_head history agent [] may (f ∷ front) last is = let no : ⊥ = cc in absurd no
last_head history agent (o ∷ ops) may [] last is =
    let come : HasCome history (event_by history agent o) = come_by history agent o ops may in
    let e = event_by history agent o in
    let both : e ∷ events_of_ops (history ++ e ∷ []) agent ops ≡ last ∷ [] = sym (chain_goes_on history agent o ops come) ∙ is in
    let first : e ≡ last = cc in
    ap (λ events. heads (history ++ events)) (is ∙ ap (λ f. f ∷ []) (sym first)) ∙ (come.heads_then ∙ ap (λ (f : Event). f.id ∷ []) first)
last_head history agent (o ∷ ops) may (f ∷ front) last is =
    let come : HasCome history (event_by history agent o) = come_by history agent o ops may in
    let e = event_by history agent o in
    let both : e ∷ events_of_ops (history ++ e ∷ []) agent ops ≡ f ∷ (front ++ last ∷ []) = sym (chain_goes_on history agent o ops come) ∙ is in
    let rest : events_of_ops (history ++ e ∷ []) agent ops ≡ front ++ last ∷ [] = cc in
    ap (λ events. heads (history ++ events)) (chain_goes_on history agent o ops come)
    ∙ (ap heads (sym (append_assoc history (e ∷ []) (events_of_ops (history ++ e ∷ []) agent ops)))
    ∙ last_head (history ++ e ∷ []) agent ops (may_go_on history agent o ops may come) front last rest)
