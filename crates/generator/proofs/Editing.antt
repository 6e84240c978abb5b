-- A peer's edit: nobody waits for its agent's events, it is a step of the making, and the peers are peers behind it.
use Rattle.std.proofs.Common.{◌≡◌, ℕ, zero, suc, ◌<◌, ◌%◌, Bool, true, false, not, ◌&&◌, ◌||◌, inl, List, [], ◌∷◌, ◌++◌, length, set, Ok, Err, arith, refl, sym, ap, ◌∙◌, subst}
use Rattle.std.specs.List.{list_all, list_any, AllByRecursion}
use Rattle.std.proofs.lemmas.Bool.{false≢true, or_from}
use Rattle.ew_model.specs.declared.id.Id.{Id}
use Rattle.ew_model.specs.declared.event.Event.{Event}
use Rattle.ew_model.specs.Ancestors.{heads, is_held}
use Rattle.ew_model.specs.Edits.{edit_refusal}
use Rattle.ew_model.specs.ArrivalLaw.{NoneReady}
use Rattle.ew_model.specs.Ids.{id_eq, name_eq}
use Rattle.ew_model.specs.Kept.{ReplicaState, is_awaited}
use Rattle.ew_model.specs.Texts.{text_of}
use Rattle.ew_model.proofs.CoverLaws.{event_of, held_of}
use Rattle.ew_model.proofs.EditEvents.{event_by}
use Rattle.ew_model.proofs.EditHeads.{head_held}
use Rattle.ew_model.proofs.KeptLaws.{held_joined}
use Rattle.ew_model.proofs.IdLaws.{is_same_id, names_equal}
use Rattle.ew_model.proofs.PathOrder.{id_total}
use Rattle.ew_model.proofs.SetLaws.{joined_right}
use Rattle.ew_model.proofs.SortingLaws.{all_at, all_from, sort_among}
use Rattle.replica.specs.Answers.{EditsBy}
use Rattle.replica.specs.declared.fault.EditFault.{EditFault}
use Rattle.replica.specs.declared.fault.EditFault.TheVariants as fault
use Rattle.generator.specs.Answers.{TellsStop}
use Rattle.peer_definitions.specs.Draws.{Drawn, draw_of, drawn_edit, next_state}
use Rattle.peer_definitions.specs.Making.{Made, Making, agent_of, drawn_step, edited, edited_peer, peer_at}
use Rattle.peer_definitions.specs.Making.Made.{Going, Stopped}
use Rattle.generator.specs.Owning.{ArePeers, IsOwned, NamesOwned}
use Rattle.generator.proofs.Drawing.{one_event}
use Rattle.generator.proofs.Growing.{held_more}
use Rattle.generator.proofs.Owned.{here, names_more, owned_more, replaced, within}
use Rattle.ew_model.proofs.EntryLaws.{all_joined}

-- nobody waits for an event of the agent's own that its peer doesn't hold
all_fail : {X : Type 0} (p : X → Bool) (P : X → Type 0) → ((x : X) → P x → p x ≡ false) → (xs : List X) → AllByRecursion P xs → list_any p xs ≡ false
all_fail p P f [] a = refl
all_fail p P f (x ∷ xs) (h, hs) = or_from (p x) (list_any p xs) (f x h) (all_fail p P f xs hs)

there : (b c : Bool) → (b ≡ true → c ≡ true) → (b && not c) ≡ false
there true c h = ap not (h refl)
there false c h = refl

pub none_awaited : (peers : List ReplicaState) (n : ℕ) (p : ReplicaState) (agent : List ℕ) → n < 3 → ArePeers peers → p ≡ peer_at peers n → agent ≡ agent_of n → is_awaited p.held p.waiting agent ≡ false
none_awaited peers n p agent less are is named =
    let q = peer_at peers n in
    (λ i. is_awaited (is i).held (is i).waiting (named i))
    ∙ all_fail
    (λ (w : Event). list_any (λ (x : Id). name_eq x.agent (agent_of n) && not (is_held q.held x)) (w.id ∷ w.parents)) (NamesOwned peers)
    (λ w names. all_fail (λ (x : Id). name_eq x.agent (agent_of n) && not (is_held q.held x)) (IsOwned peers) (λ x owned. there (name_eq x.agent (agent_of n)) (is_held q.held x) (owned n less)) (w.id ∷ w.parents) names)
    q.waiting (are.own n less).waiting

-- the step that a peer's edit is
step_of : (state n : ℕ) (peers : List ReplicaState) (p : ReplicaState) → n ≡ draw_of (next_state state) % 3 → p ≡ peer_at peers n
    → let drawn = drawn_edit (next_state state) (length (text_of p.held)) in
    drawn_step (record { state = state; peers = peers }) ≡ edited (record { state = state; peers = peers }) n p drawn (edit_refusal p.limits p.held (agent_of n) drawn.edit)
unfolding drawn_step
step_of state n peers p number is =
    let m : Making = record { state = state; peers = peers } in
    let x = next_state state in
    let at : p ≡ peer_at peers (draw_of x % 3) = is ∙ ap (peer_at peers) number in
    λ i. edited m (sym number i) (sym at i) (drawn_edit x (length (text_of (sym at i).held))) (edit_refusal (sym at i).limits (sym at i).held (agent_of (sym number i)) (drawn_edit x (length (text_of (sym at i).held))).edit)

-- what is drawn for a peer
abbrev pub drawn_for : ℕ → ReplicaState → Drawn
drawn_for state p = drawn_edit (next_state state) (length (text_of p.held))

pub edit_made : (state n after k : ℕ) (peers : List ReplicaState) (p new : ReplicaState) → n ≡ draw_of (next_state state) % 3 → p ≡ peer_at peers n → EditsBy (agent_of n) (drawn_for state p).edit p new (Ok k)
    → after ≡ (drawn_for state p).state → drawn_step (record { state = state; peers = peers }) ≡ Going (record { state = after; peers = set peers n new })
edit_made state n after k peers p new number is edits drawn =
    step_of state n peers p number is
    ∙ ap (edited (record { state = state; peers = peers }) n p (drawn_for state p)) edits.0
    ∙ (λ i. Going (record { state = sym drawn i; peers = set peers n (sym edits.1 i) }))

-- want of memory tells of nothing
pub no_memory : (m : Made) → TellsStop m fault.OutOfMemory
no_memory (Going m) = tt
no_memory (Stopped why) = tt

refused : (m : Making) (n : ℕ) (p new : ReplicaState) (drawn : Drawn) (f : EditFault) → EditsBy (agent_of n) drawn.edit p new (Err f) → TellsStop (edited m n p drawn (edit_refusal p.limits p.held (agent_of n) drawn.edit)) f
refused m n p new drawn fault.OutOfMemory edits = no_memory (edited m n p drawn (edit_refusal p.limits p.held (agent_of n) drawn.edit))
refused m n p new drawn (fault.OutOfRange len) edits = subst (λ o. TellsStop (edited m n p drawn o) (fault.OutOfRange len)) (sym edits.0) refl
refused m n p new drawn (fault.TooManyHeads many) edits = subst (λ o. TellsStop (edited m n p drawn o) (fault.TooManyHeads many)) (sym edits.0) refl
refused m n p new drawn (fault.Full count) edits = subst (λ o. TellsStop (edited m n p drawn o) (fault.Full count)) (sym edits.0) refl

pub edit_stopped : (state n : ℕ) (peers : List ReplicaState) (p new : ReplicaState) (f : EditFault) → n ≡ draw_of (next_state state) % 3 → p ≡ peer_at peers n → EditsBy (agent_of n) (drawn_for state p).edit p new (Err f)
    → TellsStop (drawn_step (record { state = state; peers = peers })) f
edit_stopped state n peers p new f number is edits =
    subst (λ (m : Made). TellsStop m f) (sym (step_of state n peers p number is)) (refused (record { state = state; peers = peers }) n p new (drawn_for state p) f edits)

-- the three agents are apart
pub agents_apart : (n m : ℕ) → n < 3 → m < 3 → name_eq (agent_of n) (agent_of m) ≡ true → n ≡ m
agents_apart zero zero a b e = refl
agents_apart zero (suc zero) a b e = absurd (false≢true e)
agents_apart zero (suc (suc zero)) a b e = absurd (false≢true e)
agents_apart (suc zero) zero a b e = absurd (false≢true e)
agents_apart (suc zero) (suc zero) a b e = refl
agents_apart (suc zero) (suc (suc zero)) a b e = absurd (false≢true e)
agents_apart (suc (suc zero)) zero a b e = absurd (false≢true e)
agents_apart (suc (suc zero)) (suc zero) a b e = absurd (false≢true e)
agents_apart (suc (suc zero)) (suc (suc zero)) a b e = refl
agents_apart (suc (suc (suc n))) m a b e = absurd (omega (arith, a))
agents_apart n (suc (suc (suc m))) a b e = absurd (omega (arith, b))

-- an id that a peer holds is owned
held_owned : (peers : List ReplicaState) (events : List Event) (x : Id) → AllByRecursion (NamesOwned peers) events → is_held events x ≡ true → IsOwned peers x
held_owned peers events x all held =
    let found = event_of events x held in
    let same : x ≡ found.0.id = (is_same_id x found.0.id).0 found.2 in
    subst (IsOwned peers) (sym same) (all_at (NamesOwned peers) events found.0 all found.1).0

-- an event of a peer's own agent makes none ready that waits there
still_waits : (peers : List ReplicaState) (n : ℕ) (held : List Event) (e : Event) → n < 3 → held ≡ (peer_at peers n).held → name_eq e.id.agent (agent_of n) ≡ true → (ids : List Id) → AllByRecursion (IsOwned peers) ids
    → list_all (is_held held) ids ≡ false → list_all (is_held (held ++ e ∷ [])) ids ≡ false
still_waits peers n held e less is named [] owned h = h
still_waits peers n held e less is named (x ∷ ids) (own, owned) h =
    ap (λ b. b && list_all (is_held (held ++ e ∷ [])) ids) not_new ∙ rest (is_held held x) (still_waits peers n held e less is named ids owned) h
  where
    either : (b c : Bool) → is_held held x ≡ b → id_eq x e.id ≡ c → (b || (c || false)) ≡ b
    either true c h k = refl
    either false false h k = refl
    either false true h k = absurd (false≢true (sym h ∙ ap (λ xs. is_held xs x) is ∙ own n less (ap (λ (y : Id). name_eq y.agent (agent_of n)) ((is_same_id x e.id).0 k) ∙ named)))

    not_new : is_held (held ++ e ∷ []) x ≡ is_held held x
    not_new = let same : (is_held held x || (id_eq x e.id || false)) ≡ is_held held x = either (is_held held x) (id_eq x e.id) refl refl in held_joined held (e ∷ []) x ∙ same

    rest : (b : Bool) → (list_all (is_held held) ids ≡ false → list_all (is_held (held ++ e ∷ [])) ids ≡ false) → (b && list_all (is_held held) ids) ≡ false
        → (b && list_all (is_held (held ++ e ∷ [])) ids) ≡ false
    rest true f h = f h
    rest false f h = refl

none_ready_more : (peers : List ReplicaState) (n : ℕ) (held : List Event) (e : Event) → n < 3 → held ≡ (peer_at peers n).held → name_eq e.id.agent (agent_of n) ≡ true → (waiting : List Event)
    → AllByRecursion (NamesOwned peers) waiting → NoneReady held waiting → NoneReady (held ++ e ∷ []) waiting
none_ready_more peers n held e less is named [] names none = tt
none_ready_more peers n held e less is named (w ∷ waiting) (own, names) (none, others) =
    (still_waits peers n held e less is named w.parents own.1 none, none_ready_more peers n held e less is named waiting names others)

-- the peers are peers behind an edit
pub edit_kept : (peers : List ReplicaState) (n x len : ℕ) (p new : ReplicaState) → n < 3 → ArePeers peers → p ≡ peer_at peers n → new ≡ edited_peer p (agent_of n) (drawn_edit x len).edit → ArePeers (set peers n new)
edit_kept peers n x len p new less are is edits =
    let q = peer_at peers n in
    let one = one_event q.held (agent_of n) x len in
    let e = event_by q.held (agent_of n) one.0 in
    let next : ReplicaState = record { limits = q.limits; held = q.held ++ e ∷ []; waiting = q.waiting } in
    let same : new ≡ next = edits ∙ (λ i. edited_peer (is i) (agent_of n) (drawn_edit x len).edit) ∙ (λ i. record { limits = q.limits; held = q.held ++ one.1 i; waiting = q.waiting }) in
    let own = are.own n less in
    let more = held_more q.held (e ∷ []) in
    let older = names_more peers n next less are.three more in
    let itself : IsOwned (set peers n next) e.id = λ m small named.
    subst (λ k. is_held (peer_at (set peers n next) k).held e.id ≡ true) (agents_apart n m less small named)
    (subst (λ (r : ReplicaState). is_held r.held e.id ≡ true) (sym (here peers n next (within peers n less are.three))) (held_of (q.held ++ e ∷ []) e (joined_right q.held (e ∷ []) e (inl refl)))) in
    let parents : AllByRecursion (IsOwned (set peers n next)) e.parents = all_from (IsOwned (set peers n next)) e.parents (λ y m.
    owned_more peers n next less are.three more y (held_owned peers q.held y own.held (head_held q.held y (sort_among id_total (heads q.held) y m)))) in
    subst (λ r. ArePeers (set peers n r)) (sym same)
    (replaced peers n next less are more (record {
      held = all_joined (NamesOwned (set peers n next)) q.held (e ∷ []) (older q.held own.held) ((itself, parents), tt);
      waiting = older q.waiting own.waiting;
      settled = none_ready_more peers n q.held e less refl (names_equal.refl (agent_of n)) q.waiting own.waiting own.settled;
    }))
