-- What is read of a body is the frame that is spelled there, and the other way round.
use Rattle.std.proofs.Common.{◌≡◌, ℕ, zero, suc, ◌^◌, ◌<◌, ◌≤◌, Bool, true, false, cond, List, [], ◌∷◌, ◌++◌, length, flat_map, Option, Some, None, refl, sym, ap, subst, ◌∙◌, append_assoc, append-nil, arith}
use Rattle.std.specs.Prelude.{slice_index}
use Rattle.std.specs.List.{AllByRecursion}
use Rattle.std.proofs.lemmas.List.{length-append}
use Rattle.ew_model.specs.declared.id.Id.{Id}
use Rattle.ew_model.specs.declared.event.Op.{Op}
use Rattle.ew_model.specs.declared.event.Event.{Event}
use Rattle.ew_model.specs.Sound.{IsSoundId, IsSound, AreSound}
use Rattle.ew_model.specs.Bytes.{four_bytes, name_bytes, op_bytes, AreBytes}
use Rattle.file_words.proofs.FileFields.{Takes, Takes-then}
use Rattle.peer_frames.specs.declared.kind.Kind.{Kind}
use Rattle.peer_frames.specs.declared.kind.Kind.TheVariants as kinds
use Rattle.peer_definitions.specs.declared.frame.Frame.{Frame}
use Rattle.peer_definitions.specs.declared.frame.Frame.TheVariants.{Have, Events, Done, Took, Clash, Bye}
use Rattle.peer_definitions.specs.Spelling.{AgentCount, names_ascend, id_bytes, event_bytes, count_bytes, counts_body, events_body, kind_of, body_of, CanBeSpelled, HasSpelling, IsSoundFrame, IsBody}
use Rattle.peer_frames.specs.Reading.{Reader, done, nothing, go_on, ◌>>=◌, one_byte, one_number, one_name, one_operation, one_id, one_event, one_count, may_follow, read_ids, read_events, read_counts, all_counts, all_events, all_taken, kind_byte, content, all_of, frame_in}
use Rattle.peer_frames.proofs.Fields.{go_some, byte_some, number_some, number_back, name_some, name_back, op_some, op_back, id_some, id_back}
use Rattle.peer_frames.proofs.Lists.{AllBehind, AreRead, list_some, list_back}
use Rattle.peer_frames.proofs.Loops.{ids_step, ids_last, next_id, events_step, events_last, next_event, counts_step, counts_last}
use Rattle.peer_frames.proofs.Ascending.{names_of, follows, MayCount, counts_read, counts_written}
use Rattle.ew_model.proofs.ListPlaces.{some_is}

-- things that need nothing of those before them
abbrev Any : {A : Type 0} → (A → Type 0) → List A → A → Type 0
Any P before x = P x

all_read : {A : Type 0} (P : A → Type 0) (before more : List A) → AllBehind (Any P) before more → AllByRecursion P more
all_read P before [] h = tt
all_read P before (x ∷ more) h = (h.0, all_read P (before ++ x ∷ []) more h.1)

all_written : {A : Type 0} (P : A → Type 0) (before more : List A) → AllByRecursion P more → AllBehind (Any P) before more
all_written P before [] h = tt
all_written P before (x ∷ more) h = (h.0, all_written P (before ++ x ∷ []) more h.1)

-- ---- events

ids_some : (n : ℕ) (bytes : List ℕ) (y : List Id × List ℕ) → AreBytes bytes → read_ids [] n bytes ≡ Some y → AreRead id_bytes (Any IsSoundId) [] n bytes y.0 y.1
ids_some n bytes y fits e = list_some read_ids next_id id_bytes (Any IsSoundId) ids_step ids_last (λ xs bs z f g. id_some bs z f g) n [] bytes y fits e

ids_back : (ids : List Id) (left : List ℕ) → AllByRecursion IsSoundId ids → read_ids [] (length ids) (flat_map id_bytes ids ++ left) ≡ Some (ids, left)
ids_back ids left h = list_back read_ids next_id id_bytes (Any IsSoundId) ids_step ids_last (λ xs x l s. id_back x l s) ids [] left (all_written IsSoundId [] ids h)

-- an event that a frame can have
abbrev pub IsSendable : Event → Type 0
IsSendable e = IsSound e × (length e.parents ≤ 255)

abbrev event_end : Id → List Id → Op → Event
event_end id parents op = record { id = id; parents = parents; op = op }

abbrev op_behind : Id → List Id → Reader Event
op_behind id parents = one_operation >>= λ op. done (event_end id parents op)

abbrev parents_behind : Id → ℕ → Reader Event
parents_behind id count = read_ids [] count >>= op_behind id

abbrev count_behind : Id → Reader Event
count_behind id = one_byte >>= parents_behind id

one_event_some : (bytes : List ℕ) (y : Event × List ℕ) → AreBytes bytes → one_event bytes ≡ Some y → Takes bytes (event_bytes y.0) y.1 × IsSendable y.0
unfolding one_event
one_event_some bytes y fits e =
    let g = go_some (one_id bytes) count_behind y e in
    let id = id_some bytes g.0 fits g.1 in
    let h = go_some (one_byte g.0.1) (parents_behind g.0.0) y g.2 in
    let count = byte_some g.0.1 h.0 id.0.fits h.1 in
    let k = go_some (read_ids [] h.0.0 h.0.1) (op_behind g.0.0) y h.2 in
    let parents = ids_some h.0.0 h.0.1 k.0 count.fits k.1 in
    let l = go_some (one_operation k.0.1) (λ op. done (event_end g.0.0 k.0.0 op)) y k.2 in
    let op = op_some k.0.1 l.0 parents.takes.fits l.1 in
    let more = parents.more in
    let are : k.0.0 ≡ more = parents.joined in
    let same : (event_end g.0.0 more l.0.0, l.0.1) ≡ y = ap (λ ps. (event_end g.0.0 ps l.0.0, l.0.1)) (sym are) ∙ some_is _ _ l.2 in
    let tail = Takes-then h.0.1 (flat_map id_bytes more) k.0.1 (op_bytes l.0.0) l.0.1 parents.takes op.0 in
    let counted = Takes-then g.0.1 (h.0.0 ∷ []) h.0.1 (flat_map id_bytes more ++ op_bytes l.0.0) l.0.1 count tail in
    let all = Takes-then bytes (id_bytes g.0.0) g.0.1 ((h.0.0 ∷ flat_map id_bytes more) ++ op_bytes l.0.0) l.0.1 id.0 counted in
    let first : h.0.0 < 256 = subst (λ (bs : List ℕ). slice_index bs 0 < 256) count.parts (id.0.fits 0) in
    subst (λ (p : Event × List ℕ). Takes bytes (event_bytes p.0) p.1 × IsSendable p.0) same (
      subst (λ t. Takes bytes t l.0.1) (sym (append_assoc (id_bytes g.0.0) (length more ∷ flat_map id_bytes more) (op_bytes l.0.0)))
          (subst (λ n. Takes bytes (id_bytes g.0.0 ++ ((n ∷ flat_map id_bytes more) ++ op_bytes l.0.0)) l.0.1) (sym parents.count) all),
      (record { id = id.1; parents = all_read IsSoundId [] more parents.behind; op = op.1 }, omega (arith, first, parents.count)),
    )

one_event_back : (e : Event) (left : List ℕ) → IsSendable e → one_event (event_bytes e ++ left) ≡ Some (e, left)
unfolding one_event
one_event_back e left h =
    let ops = op_bytes e.op ++ left in
    let counted = length e.parents ∷ flat_map id_bytes e.parents in
    ap one_event (append_assoc (id_bytes e.id ++ counted) (op_bytes e.op) left ∙ append_assoc (id_bytes e.id) counted ops)
    ∙ ap (λ r. go_on r count_behind) (id_back e.id (counted ++ ops) h.0.id)
    ∙ ap (λ r. go_on r (op_behind e.id)) (ids_back e.parents ops h.0.parents)
    ∙ ap (λ r. go_on r (λ op. done (event_end e.id e.parents op))) (op_back e.op left h.0.op)

-- events in a body
pub record AreSent (bytes : List ℕ) (events : List Event) (left : List ℕ) : Type 0 where
  pub takes : Takes bytes (events_body events) left
  pub each : AllByRecursion IsSendable events
  pub few : length events < 2 ^ 32

pub events_some : (bytes : List ℕ) (y : List Event × List ℕ) → AreBytes bytes → all_events bytes ≡ Some y → AreSent bytes y.0 y.1
unfolding all_events
events_some bytes y fits e =
    let g = go_some (one_number bytes) (read_events []) y e in
    let count = number_some bytes g.0 fits g.1 in
    let r = list_some read_events next_event event_bytes (Any IsSendable) events_step events_last (λ xs bs z f h. one_event_some bs z f h) g.0.0 [] g.0.1 y count.0.fits g.2 in
    let all = Takes-then bytes (four_bytes g.0.0) g.0.1 (flat_map event_bytes r.more) y.1 count.0 r.takes in
    let counted : Takes bytes (events_body r.more) y.1 = subst (λ n. Takes bytes (four_bytes n ++ flat_map event_bytes r.more) y.1) (sym r.count) all in
    subst (λ events. AreSent bytes events y.1) (sym r.joined) (record { takes = counted; each = all_read IsSendable [] r.more r.behind; few = omega (arith, count.1, r.count) })

pub events_back : (events : List Event) (left : List ℕ) → length events < 2 ^ 32 → AllByRecursion IsSendable events → all_events (events_body events ++ left) ≡ Some (events, left)
unfolding all_events
events_back events left few each =
    ap all_events (append_assoc (four_bytes (length events)) (flat_map event_bytes events) left)
    ∙ ap (λ r. go_on r (read_events [])) (number_back (length events) (flat_map event_bytes events ++ left) few)
    ∙ list_back read_events next_event event_bytes (Any IsSendable) events_step events_last (λ xs x l h. one_event_back x l h) events [] left (all_written IsSendable [] events each)

-- ---- counts

abbrev count_end : List AgentCount → AgentCount → Reader AgentCount
count_end before c = cond (may_follow before c) (done c) nothing

abbrev number_behind : List AgentCount → List ℕ → Reader AgentCount
number_behind before agent = one_number >>= λ count. count_end before (agent, count)

end_some : (b : Bool) (c : AgentCount) (bytes : List ℕ) (y : AgentCount × List ℕ) → cond b (done c) nothing bytes ≡ Some y → (b ≡ true) × ((c, bytes) ≡ y)
end_some true c bytes y e = (refl, some_is _ _ e)
end_some false c bytes y e = absurd cc

one_count_some : (before : List AgentCount) (bytes : List ℕ) (y : AgentCount × List ℕ) → AreBytes bytes → one_count before bytes ≡ Some y → Takes bytes (count_bytes y.0) y.1 × MayCount before y.0
unfolding one_count
one_count_some before bytes y fits e =
    let g = go_some (one_name bytes) (number_behind before) y e in
    let name = name_some bytes g.0 fits g.1 in
    let h = go_some (one_number g.0.1) (λ count. count_end before (g.0.0, count)) y g.2 in
    let count = number_some g.0.1 h.0 name.0.fits h.1 in
    let end = end_some (may_follow before (g.0.0, h.0.0)) (g.0.0, h.0.0) h.0.1 y h.2 in
    subst (λ (p : AgentCount × List ℕ). Takes bytes (count_bytes p.0) p.1 × MayCount before p.0) end.1
    (Takes-then bytes (name_bytes g.0.0) g.0.1 (four_bytes h.0.0) h.0.1 name.0 count.0, (record { agent = name.1; count = count.1 }, end.0))

one_count_back : (before : List AgentCount) (c : AgentCount) (left : List ℕ) → MayCount before c → one_count before (count_bytes c ++ left) ≡ Some (c, left)
unfolding one_count
one_count_back before c left h =
    ap (one_count before) (append_assoc (name_bytes c.0) (four_bytes c.1) left)
    ∙ ap (λ r. go_on r (number_behind before)) (name_back c.0 (four_bytes c.1 ++ left) h.0.agent)
    ∙ ap (λ r. go_on r (λ count. count_end before (c.0, count))) (number_back c.1 left h.0.count)
    ∙ ap (λ b. cond b (done c) nothing left) h.1

pub counts_some : (bytes : List ℕ) (y : List AgentCount × List ℕ) → AreBytes bytes → all_counts bytes ≡ Some y → Takes bytes (counts_body y.0) y.1 × IsSoundFrame (Have y.0) × CanBeSpelled (Have y.0)
unfolding all_counts
counts_some bytes y fits e =
    let g = go_some (one_number bytes) (read_counts []) y e in
    let count = number_some bytes g.0 fits g.1 in
    let r = list_some read_counts one_count count_bytes MayCount counts_step counts_last one_count_some g.0.0 [] g.0.1 y count.0.fits g.2 in
    let all = Takes-then bytes (four_bytes g.0.0) g.0.1 (flat_map count_bytes r.more) y.1 count.0 r.takes in
    let counted : Takes bytes (counts_body r.more) y.1 = subst (λ n. Takes bytes (four_bytes n ++ flat_map count_bytes r.more) y.1) (sym r.count) all in
    let each = counts_read [] r.more refl r.behind in
    subst (λ counts. Takes bytes (counts_body counts) y.1 × IsSoundFrame (Have counts) × CanBeSpelled (Have counts)) (sym r.joined) (counted, each.0, (each.2, each.1))

pub counts_back : (counts : List AgentCount) (left : List ℕ) → length counts < 2 ^ 32 → IsSoundFrame (Have counts) → CanBeSpelled (Have counts) → all_counts (counts_body counts ++ left) ≡ Some (counts, left)
unfolding all_counts
counts_back counts left few sound room =
    ap all_counts (append_assoc (four_bytes (length counts)) (flat_map count_bytes counts) left)
    ∙ ap (λ r. go_on r (read_counts [])) (number_back (length counts) (flat_map count_bytes counts ++ left) few)
    ∙ list_back read_counts one_count count_bytes MayCount counts_step counts_last one_count_back counts [] left (counts_written [] counts sound room.1 room.0)

-- with a count that was read the names still ascend
pub count_ascends : (before : List AgentCount) (bytes left : List ℕ) (c : AgentCount) → one_count before bytes ≡ Some (c, left) → names_ascend (names_of (before ++ c ∷ [])) ≡ true
unfolding one_count
count_ascends before bytes left c e =
    let g = go_some (one_name bytes) (number_behind before) (c, left) e in
    let h = go_some (one_number g.0.1) (λ count. count_end before (g.0.0, count)) (c, left) g.2 in
    let end = end_some (may_follow before (g.0.0, h.0.0)) (g.0.0, h.0.0) h.0.1 (c, left) h.2 in
    (follows before c (subst (λ (p : AgentCount × List ℕ). may_follow before p.0 ≡ true) end.1 end.0)).1

-- ---- the numbers of a Took

abbrev fourth : ℕ → ℕ → ℕ → Reader Frame
fourth a b c = one_number >>= λ d. done (Took a b c d)

abbrev third : ℕ → ℕ → Reader Frame
third a b = one_number >>= fourth a b

abbrev second : ℕ → Reader Frame
second a = one_number >>= third a

taken_some : (bytes : List ℕ) (y : Frame × List ℕ) → AreBytes bytes → all_taken bytes ≡ Some y → Takes bytes (body_of y.0) y.1 × IsSoundFrame y.0 × CanBeSpelled y.0 × (kind_of y.0 ≡ 4)
unfolding all_taken
taken_some bytes y fits e =
    let g = go_some (one_number bytes) second y e in
    let a = number_some bytes g.0 fits g.1 in
    let h = go_some (one_number g.0.1) (third g.0.0) y g.2 in
    let b = number_some g.0.1 h.0 a.0.fits h.1 in
    let k = go_some (one_number h.0.1) (fourth g.0.0 h.0.0) y h.2 in
    let c = number_some h.0.1 k.0 b.0.fits k.1 in
    let l = go_some (one_number k.0.1) (λ d. done (Took g.0.0 h.0.0 k.0.0 d)) y k.2 in
    let d = number_some k.0.1 l.0 c.0.fits l.1 in
    let cd = Takes-then h.0.1 (four_bytes k.0.0) k.0.1 (four_bytes l.0.0) l.0.1 c.0 d.0 in
    let bcd = Takes-then g.0.1 (four_bytes h.0.0) h.0.1 (four_bytes k.0.0 ++ four_bytes l.0.0) l.0.1 b.0 cd in
    let all = Takes-then bytes (four_bytes g.0.0) g.0.1 (four_bytes h.0.0 ++ (four_bytes k.0.0 ++ four_bytes l.0.0)) l.0.1 a.0 bcd in
    subst (λ (p : Frame × List ℕ). Takes bytes (body_of p.0) p.1 × IsSoundFrame p.0 × CanBeSpelled p.0 × (kind_of p.0 ≡ 4)) (some_is _ _ l.2)
    (all, (a.1, b.1, c.1, d.1), tt, refl)

taken_back : (a b c d : ℕ) (left : List ℕ) → a < 2 ^ 32 → b < 2 ^ 32 → c < 2 ^ 32 → d < 2 ^ 32 → all_taken (body_of (Took a b c d) ++ left) ≡ Some (Took a b c d, left)
unfolding all_taken
taken_back a b c d left fa fb fc fd =
    ap (λ r. go_on r second) (number_back a (four_bytes b ++ (four_bytes c ++ (four_bytes d ++ left))) fa)
    ∙ ap (λ r. go_on r (third a)) (number_back b (four_bytes c ++ (four_bytes d ++ left)) fb)
    ∙ ap (λ r. go_on r (fourth a b)) (number_back c (four_bytes d ++ left) fc)
    ∙ ap (λ r. go_on r (λ n. done (Took a b c n))) (number_back d left fd)

-- ---- frames

-- a body begins with that of this frame
pub record IsContent (kind : Kind) (bytes : List ℕ) (f : Frame) (left : List ℕ) : Type 0 where
  pub takes : Takes bytes (body_of f) left
  pub sound : IsSoundFrame f
  pub room : CanBeSpelled f
  pub byte : kind_of f ≡ kind_byte kind

pub split_event : (events : List Event) → AllByRecursion IsSendable events → AreSound events × AllByRecursion (λ (e : Event). length e.parents ≤ 255) events
split_event [] h = (tt, tt)
split_event (e ∷ events) h = let others = split_event events h.1 in ((h.0.0, others.0), (h.0.1, others.1))

pub joined_event : (events : List Event) → AreSound events → AllByRecursion (λ (e : Event). length e.parents ≤ 255) events → AllByRecursion IsSendable events
joined_event [] s h = tt
joined_event (e ∷ events) s h = ((s.0, h.0), joined_event events s.1 h.1)

content_some : (kind : Kind) (bytes : List ℕ) (y : Frame × List ℕ) → AreBytes bytes → content kind bytes ≡ Some y → IsContent kind bytes y.0 y.1
unfolding content
content_some kinds.Have bytes y fits e =
    let g = go_some (all_counts bytes) (λ counts. done (Have counts)) y e in
    let c = counts_some bytes g.0 fits g.1 in
    subst (λ (p : Frame × List ℕ). IsContent kinds.Have bytes p.0 p.1) (some_is _ _ g.2) (record { takes = c.0; sound = c.1; room = c.2; byte = refl })
content_some kinds.Events bytes y fits e =
    let g = go_some (all_events bytes) (λ events. done (Events events)) y e in
    let c = events_some bytes g.0 fits g.1 in
    let parts = split_event g.0.0 c.each in
    subst (λ (p : Frame × List ℕ). IsContent kinds.Events bytes p.0 p.1) (some_is _ _ g.2) (record { takes = c.takes; sound = parts.0; room = parts.1; byte = refl })
content_some kinds.Done bytes y fits e =
    subst (λ (p : Frame × List ℕ). IsContent kinds.Done bytes p.0 p.1) (some_is _ _ e) (record { takes = record { parts = refl; fits = fits }; sound = tt; room = tt; byte = refl })
content_some kinds.Took bytes y fits e =
    let t = taken_some bytes y fits e in
    record { takes = t.0; sound = t.1; room = t.2; byte = t.3 }
content_some kinds.Clash bytes y fits e =
    let g = go_some (one_id bytes) (λ x. done (Clash x)) y e in
    let c = id_some bytes g.0 fits g.1 in
    subst (λ (p : Frame × List ℕ). IsContent kinds.Clash bytes p.0 p.1) (some_is _ _ g.2) (record { takes = c.0; sound = c.1; room = tt; byte = refl })
content_some kinds.Bye bytes y fits e =
    subst (λ (p : Frame × List ℕ). IsContent kinds.Bye bytes p.0 p.1) (some_is _ _ e) (record { takes = record { parts = refl; fits = fits }; sound = tt; room = tt; byte = refl })

-- the kind that a byte tells
abbrev pub kind_at : ℕ → Kind
kind_at (suc zero) = kinds.Have
kind_at (suc (suc zero)) = kinds.Events
kind_at (suc (suc (suc zero))) = kinds.Done
kind_at (suc (suc (suc (suc zero)))) = kinds.Took
kind_at (suc (suc (suc (suc (suc zero))))) = kinds.Clash
kind_at n = kinds.Bye

pub kind_back : (kind : Kind) → kind_at (kind_byte kind) ≡ kind
kind_back kinds.Have = refl
kind_back kinds.Events = refl
kind_back kinds.Done = refl
kind_back kinds.Took = refl
kind_back kinds.Clash = refl
kind_back kinds.Bye = refl

-- no more things than bytes
many : {A : Type 0} (spell : A → List ℕ) (xs : List A) → ((x : A) → 0 < length (spell x)) → length xs ≤ length (flat_map spell xs)
many spell [] some = omega arith
many spell (x ∷ xs) some = omega (arith, some x, many spell xs some, length-append (spell x) (flat_map spell xs))

pub counts_few : (counts : List AgentCount) → length (counts_body counts) < 2 ^ 32 → length counts < 2 ^ 32
counts_few counts h = omega (arith, h, many count_bytes counts (λ c. omega arith), length-append (four_bytes (length counts)) (flat_map count_bytes counts))

pub events_few : (events : List Event) → length (events_body events) < 2 ^ 32 → length events < 2 ^ 32
events_few events h = omega (arith, h, many event_bytes events (λ e. omega arith), length-append (four_bytes (length events)) (flat_map event_bytes events))

content_back : (f : Frame) (left : List ℕ) → IsSoundFrame f → HasSpelling f → content (kind_at (kind_of f)) (body_of f ++ left) ≡ Some (f, left)
unfolding content
content_back (Have counts) left sound h = ap (λ r. go_on r (λ counts. done (Have counts))) (counts_back counts left (counts_few counts h.body) sound h.content)
content_back (Events events) left sound h = ap (λ r. go_on r (λ events. done (Events events))) (events_back events left (events_few events h.body) (joined_event events sound h.content))
content_back Done left sound h = refl
content_back (Took a b c d) left sound h = taken_back a b c d left sound.0 sound.1 sound.2 sound.3
content_back (Clash x) left sound h = ap (λ r. go_on r (λ x. done (Clash x))) (id_back x left sound)
content_back Bye left sound h = refl

all_some : (r : Option (Frame × List ℕ)) (f : Frame) → all_of r ≡ Some f → r ≡ Some (f, [])
all_some None f e = absurd cc
all_some (Some (x, [])) f e = ap (λ y. Some (y, [])) (some_is x f e)
all_some (Some (x, b ∷ left)) f e = absurd cc

-- What is read is the frame that has this body.
pub frame_some : (kind : Kind) (body : List ℕ) (f : Frame) → AreBytes body → length body < 2 ^ 32 → frame_in kind body ≡ Some f → IsBody (kind_byte kind) body f
unfolding frame_in
frame_some kind body f fits short e =
    let c = content_some kind body (f, []) fits (all_some (content kind body) f e) in
    let is : body_of f ≡ body = sym (append-nil (body_of f)) ∙ sym c.takes.parts in
    record { sound = c.sound; spelled = record { content = c.room; body = subst (λ bs. length bs < 2 ^ 32) (sym is) short }; kind = c.byte; bytes = is }

-- The frame that has this body is read.
pub frame_back : (kind : Kind) (body : List ℕ) (f : Frame) → IsBody (kind_byte kind) body f → frame_in kind body ≡ Some f
unfolding frame_in
frame_back kind body f h =
    let same : kind ≡ kind_at (kind_of f) = sym (kind_back kind) ∙ ap kind_at (sym h.kind) in
    let text : body ≡ body_of f ++ [] = sym h.bytes ∙ sym (append-nil (body_of f)) in
    ap (λ k. all_of (content k body)) same ∙ ap (λ bs. all_of (content (kind_at (kind_of f)) bs)) text ∙ ap all_of (content_back f [] h.sound h.spelled)
