-- The events of an undo, one after another: behind each, what stands left of its index is as it is wanted.
use Rattle.std.proofs.Common.{◌≡◌, ℕ, suc, ◌+◌, Bool, true, false, not, cond, List, [], ◌∷◌, ◌++◌, filter, length, insert, remove, drop, refl, sym, ap, ◌∙◌, subst, append_assoc, append-nil, length-append, arith}
use Rattle.std.specs.List.{cons_option}
use Rattle.std.proofs.lemmas.Bool.{false≢true}
use Rattle.std.proofs.lemmas.List.{length-map, take_at, drop_at}
use Rattle.ew_model.specs.declared.event.Op.{Op}
use Rattle.ew_model.specs.declared.event.Op.TheVariants as op
use Rattle.ew_model.specs.declared.event.Event.{Event}
use Rattle.ew_model.specs.declared.id.Id.{Id}
use Rattle.ew_model.specs.Ancestors.{is_held}
use Rattle.ew_model.specs.Edits.{events_of_ops}
use Rattle.ew_model.specs.Entries.{Inserted}
use Rattle.ew_model.specs.TextLaws.{own_change, Fits}
use Rattle.ew_model.specs.Texts.{text_chars, text_of}
use Rattle.ew_model.specs.Verdicts.{IsGood}
use Rattle.ew_model.proofs.EditEvents.{event_by, HasCome, has_come, chain_goes_on, FewHeads}
use Rattle.ew_model.proofs.EntryLaws.{not_held_before}
use Rattle.ew_model.proofs.GoodLaws.{good_laid_out}
use Rattle.ew_model.proofs.OperationLaws.{laid_last}
use Rattle.undo_definitions.specs.Wanted.{is_gone}
use Rattle.undo_definitions.specs.Undoing.{change_of}
use Rattle.undo_definitions.specs.UndoLaws.{Shows, AreShown}
use Rattle.undo_definitions.proofs.Scripts.{script}
use Rattle.undo_definitions.proofs.Steps.{put_in, taken}

-- A LIST THAT IS CHANGED AT A PLACE
pub push_here : {X : Type 0} (front : List X) (x : X) (n : ℕ) → length front ≡ n → length (front ++ x ∷ []) ≡ suc n
push_here front x n e = length-append front (x ∷ []) ∙ omega (arith, e)

pub insert_here : {X : Type 0} (front rest : List X) (x : X) (n : ℕ) → length front ≡ n → insert (front ++ rest) n x ≡ (front ++ x ∷ []) ++ rest
insert_here front rest x n e = (λ i. take_at front rest n e i ++ x ∷ drop_at front rest n e i) ∙ sym (append_assoc front (x ∷ []) rest)

pub remove_here : {X : Type 0} (front rest : List X) (x : X) (n : ℕ) → length front ≡ n → remove (front ++ x ∷ rest) n ≡ front ++ rest
remove_here front rest x n e =
    let behind : drop (suc n) (front ++ x ∷ rest) ≡ rest = ap (drop (suc n)) (sym (append_assoc front (x ∷ []) rest)) ∙ drop_at (front ++ x ∷ []) rest (suc n) (push_here front x n e) in
    λ i. take_at front (x ∷ rest) n e i ++ behind i

-- the text has as many characters as are shown
pub text_long : (history : List Event) → length (text_of history) ≡ length (text_chars history)
unfolding text_of
text_long history = length-map (text_chars history) (λ (x : Inserted). x.ch)

-- what the events leave: a good history, which shows the front as it was, and behind it one character for each of these
pub record Made (first : List Event) (later : List Event) (front zs : List Inserted) : Type 0 where
  pub good : IsGood later
  pub chars : List Inserted
  pub shown : text_chars later ≡ front ++ chars
  pub are : AreShown first zs chars

-- where one more stands at the end of the front
one_nearer : (first later : List Event) (front zs : List Inserted) (z x : Inserted) → Shows first z x → Made first later (front ++ x ∷ []) zs → Made first later front (z ∷ zs)
one_nearer first later front zs z x shows m = record { good = m.good; chars = x ∷ m.chars; shown = m.shown ∙ append_assoc front (x ∷ []) m.chars; are = (shows, m.are) }

shows_itself : (first : List Event) (z : Inserted) → is_gone first z ≡ false → Shows first z z
shows_itself first z h = record { letter = refl; itself = λ e. refl; new = λ e. absurd (false≢true (sym h ∙ e)) }

shows_new : (first : List Event) (z x : Inserted) → is_gone first z ≡ true → x.ch ≡ z.ch → is_held first x.id ≡ false → Shows first z x
shows_new first z x h letter new = record { letter = letter; itself = λ e. absurd (false≢true (sym e ∙ h)); new = λ e. new }

-- the heads behind an event that came
few_then : (history : List Event) (e : Event) (ops : List Op) → HasCome history e → FewHeads (history ++ e ∷ []) ops
few_then history e [] come = tt
few_then history e (o ∷ ops) come = let one = ap length come.heads_then in omega (arith, one)

module _ (first : List Event) (agent : List ℕ) (want : Inserted → Bool) where
  -- the events of operations
  abbrev behind : List Event → List Op → List Event
  behind history ops = history ++ events_of_ops history agent ops

  -- the first of them, and then the others
  behind_first : (history : List Event) (o : Op) (ops : List Op) → HasCome history (event_by history agent o) → behind (history ++ event_by history agent o ∷ []) ops ≡ behind history (o ∷ ops)
  behind_first history o ops come =
      append_assoc history (event_by history agent o ∷ []) (events_of_ops (history ++ event_by history agent o ∷ []) agent ops)
      ∙ ap (λ events. history ++ events) (sym (chain_goes_on history agent o ops come))

  no_more : (history : List Event) → behind history [] ≡ history
  unfolding events_of_ops
  no_more history = append-nil history

  -- nothing that isn't held was held at first
  abbrev HoldsFirst : List Event → Type 0
  HoldsFirst history = (x : Id) → is_held history x ≡ false → is_held first x ≡ false

  holds_more : (history : List Event) (e : Event) → HoldsFirst history → HoldsFirst (history ++ e ∷ [])
  holds_more history e h x new = h x (not_held_before history e x new)

  -- so many characters of the text may be come by
  abbrev Goes : List Inserted → Type 0
  Goes zs = (n : ℕ) (front : List Inserted) (history : List Event) → length front ≡ n → IsGood history → HoldsFirst history
      → FewHeads history (script (is_gone first) want n zs) → text_chars history ≡ front ++ filter (λ z. not (is_gone first z)) zs
      → Made first (behind history (script (is_gone first) want n zs)) front (filter want zs)

  -- one character, with what is done about it, and those behind it
  along : (z : Inserted) (zs : List Inserted) → Goes zs → (g w : Bool) → is_gone first z ≡ g → (n : ℕ) (front : List Inserted) (history : List Event) → length front ≡ n → IsGood history → HoldsFirst history
      → FewHeads history (cons_option (change_of n z.ch g w) (script (is_gone first) want (cond w (suc n) n) zs)) → text_chars history ≡ front ++ cond (not g) (z ∷ filter (λ y. not (is_gone first y)) zs) (filter (λ y. not (is_gone first y)) zs)
      → Made first (behind history (cons_option (change_of n z.ch g w) (script (is_gone first) want (cond w (suc n) n) zs))) front (cond w (z ∷ filter want zs) (filter want zs))
  along z zs go false true q n front history long good held few shown =
      let rest = filter (λ y. not (is_gone first y)) zs in
      one_nearer first (behind history (script (is_gone first) want (suc n) zs)) front (filter want zs) z z (shows_itself first z q)
      (go (suc n) (front ++ z ∷ []) history (push_here front z n long) good held few (shown ∙ sym (append_assoc front (z ∷ []) rest)))
  along z zs go true false q n front history long good held few shown = go n front history long good held few shown
  along z zs go false false q n front history long good held few shown =
      let rest = filter (λ y. not (is_gone first y)) zs in
      let ops = script (is_gone first) want n zs in
      let size : length (text_chars history) ≡ length front + length (z ∷ rest) = ap length shown ∙ length-append front (z ∷ rest) in
      let fit : Fits (length (text_of history)) (own_change (op.Del n)) = omega (arith, text_long history, size, long) in
      let come : HasCome history (event_by history agent (op.Del n)) = has_come history agent (op.Del n) good few fit in
      let then_shown : text_chars (history ++ event_by history agent (op.Del n) ∷ []) ≡ front ++ rest =
      taken history agent n good (omega (arith, size, long)) ∙ ap (λ (ys : List Inserted). remove ys n) shown ∙ remove_here front rest z n long in
      subst (λ later. Made first later front (filter want zs)) (behind_first history (op.Del n) ops come)
      (go n front (history ++ event_by history agent (op.Del n) ∷ []) long come.good (holds_more history (event_by history agent (op.Del n)) held) (few_then history (event_by history agent (op.Del n)) ops come) then_shown)
  along z zs go true true q n front history long good held few shown =
      let rest = filter (λ y. not (is_gone first y)) zs in
      let ops = script (is_gone first) want (suc n) zs in
      let e = event_by history agent (op.Ins n z.ch) in
      let size : length (text_chars history) ≡ length front + length rest = ap length shown ∙ length-append front rest in
      let fit : Fits (length (text_of history)) (own_change (op.Ins n z.ch)) = omega (arith, text_long history, size, long) in
      let come : HasCome history e = has_come history agent (op.Ins n z.ch) good few fit in
      let put = put_in history agent n z.ch good come (omega (arith, size, long)) in
      let x = put.0 in
      let then_shown : text_chars (history ++ e ∷ []) ≡ (front ++ x ∷ []) ++ rest =
      put.3 ∙ ap (λ (ys : List Inserted). insert ys n x) shown ∙ insert_here front rest x n long in
      let new : is_held first x.id ≡ false = ap (is_held first) put.1 ∙ held e.id (laid_last [] history e (good_laid_out (history ++ e ∷ []) come.good)) in
      subst (λ later. Made first later front (z ∷ filter want zs)) (behind_first history (op.Ins n z.ch) ops come)
      (one_nearer first (behind (history ++ e ∷ []) ops) front (filter want zs) z x (shows_new first z x q put.2 new)
      (go (suc n) (front ++ x ∷ []) (history ++ e ∷ []) (push_here front x n long) come.good (holds_more history e held) (few_then history e ops come) then_shown))

  pub made_along : (zs : List Inserted) → Goes zs
  made_along [] n front history long good held few shown = record {
    good = subst IsGood (sym (no_more history)) good;
    chars = [];
    shown = ap text_chars (no_more history) ∙ shown;
    are = tt;
  }
  made_along (z ∷ zs) n front history long good held few shown =
      along z zs (made_along zs) (is_gone first z) (want z) refl n front history long good held few shown
