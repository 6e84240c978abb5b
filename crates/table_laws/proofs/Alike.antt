-- After a conversation each way both files hold the same events, and show one text.
use Rattle.std.proofs.Common.{◌≡◌, ℕ, ◌≤◌, encode_utf8_all, not, ⊎_elim, List, [], ◌∷◌, ◌++◌, length, sym, ap, ◌∙◌, subst, arith, append-nil, append_assoc}
use Rattle.std.specs.List.{list_any, IsDistinct}
use Rattle.std.proofs.lemmas.Bool.{cases_Bool}
use Rattle.std.proofs.lemmas.List.{length-append, map-append}
use Rattle.std.proofs.lemmas.Map.Keys.{IsDistinct-push}
use Rattle.std.proofs.lemmas.Map.Made.{length-le_from_is_member}
use Rattle.ew_model.specs.declared.event.Event.{Event}
use Rattle.ew_model.specs.Ancestors.{ids_of}
use Rattle.ew_model.specs.ArrivalLaw.{OneEach}
use Rattle.ew_model.specs.Events.{event_eq}
use Rattle.ew_model.specs.Ids.{id_eq}
use Rattle.ew_model.specs.Limits.{LimitNumbers}
use Rattle.ew_model.specs.Sets.{Among, SameElements}
use Rattle.ew_model.specs.Texts.{text_of}
use Rattle.ew_model.specs.Verdicts.{IsGood, IsGoodAfter}
use Rattle.ew_model.proofs.CoverLaws.{ids_alike, ids_within}
use Rattle.ew_model.proofs.AgentLaws.{ids_count}
use Rattle.ew_model.proofs.GoodLaws.{equal_sets_agree, next_from_good}
use Rattle.ew_model.proofs.SameEvents.{event_among}
use Rattle.ew_model.proofs.SetLaws.{among_filter, among_joined, filter_among, joined_left, joined_right}
use Rattle.peer_exchange.specs.Laws.{unheld}
use Rattle.command_table.specs.Table.{content, over_events, prints, show_reply}
use Rattle.table_laws.proofs.MergedFiles.{storable}
use Rattle.table_laws.specs.Conversations.{CanBeOne, ConversationsAgree}
use Rattle.table_laws.proofs.Brought.{brought, joined_storable, opened_good, opens_of}
use Rattle.table_laws.proofs.GoodBehind.{good_behind, good_joined}

-- each event of the other history is held
pub all_held : (xs ys : List Event) (z : Event) → Among z ys → Among z (xs ++ unheld ys xs)
all_held xs ys z m =
    ⊎_elim
    (λ h. joined_left xs (unheld ys xs) z (event_among z xs h))
    (λ h. joined_right xs (unheld ys xs) z (filter_among (λ (e : Event). not (list_any (event_eq e) xs)) ys z m (ap not h)))
    (cases_Bool (list_any (event_eq z) xs))

-- and no other
held_from : (xs ys : List Event) (z : Event) → Among z (xs ++ unheld ys xs) → Among z (xs ++ ys)
held_from xs ys z m =
    ⊎_elim
    (λ k. joined_left xs ys z k)
    (λ k. joined_right xs ys z (among_filter (λ (e : Event). not (list_any (event_eq e) xs)) ys z k).0)
    (among_joined xs (unheld ys xs) z m)

-- ---- how many events there are

ids_apart : (before later : List Event) → IsGoodAfter before later → IsDistinct id_eq (ids_of before) → IsDistinct id_eq (ids_of (before ++ later))
ids_apart before [] good d = subst (λ (l : List Event). IsDistinct id_eq (ids_of l)) (sym (append-nil before)) d
ids_apart before (e ∷ later) good d =
    let more = IsDistinct-push ids_alike (ids_of before) e.id d (next_from_good before e good.0).new in
    subst (λ (l : List Event). IsDistinct id_eq (ids_of l)) (append_assoc before (e ∷ []) later)
    (ids_apart (before ++ e ∷ []) later good.1 (subst (IsDistinct id_eq) (sym (map-append (λ (f : Event). f.id) before (e ∷ []))) more))

no_longer : (xs ys : List Event) → IsGood xs → ((z : Event) → Among z xs → Among z ys) → length xs ≤ length ys
unfolding IsGood IsDistinct
no_longer xs ys good sub =
    let few = length-le_from_is_member ids_alike (ids_of xs) (ids_of ys) (ids_apart [] xs good tt) (ids_within xs ys sub) in
    omega (arith, few, ids_count xs, ids_count ys)

-- ---- the way back

module _ (limits : LimitNumbers) (events others : List Event) (good : IsGood events) (also : IsGood others) (can : CanBeOne limits events others) where
  abbrev now : List Event
  now = events ++ unheld others events

  abbrev last : List Event
  last = others ++ unheld now others

  one_back : OneEach (others ++ now)
  one_back f g m n e = can.one_each f g (turn f m) (turn g n) e
    where
      turn : (z : Event) → Among z (others ++ now) → Among z (events ++ others)
      turn z k = ⊎_elim (λ j. joined_right events others z j) (λ j. held_from events others z j) (among_joined others now z k)

  now_good : IsGood now
  unfolding IsGood
  now_good = good_joined [] events (unheld others events) good (good_behind events others good also can.one_each)

  last_good : IsGood last
  unfolding IsGood
  last_good = good_joined [] others (unheld now others) also (good_behind others now also now_good one_back)

  pub alike : SameElements now last
  alike = record {
    there = all_held others now;
    back = λ z m. ⊎_elim (λ k. all_held events others z k) (λ k. (among_filter (λ (e : Event). not (list_any (event_eq e) others)) now z k).0) (among_joined others (unheld now others) z m);
  }

  pub can_back : CanBeOne limits others now
  can_back =
      let few = no_longer last now last_good alike.back in
      let long = length-append others (unheld now others) in
      let first = length-append events (unheld others events) in
      let room = can.room in
      record { one_each = one_back; room = omega (arith, few, long, first, room) }

  pub one_text : text_of now ≡ text_of last
  one_text = (equal_sets_agree now last now_good last_good alike).whole

pub conversations_agree : ConversationsAgree
conversations_agree limits mine theirs one other events others input reading asked answered got asked_back answered_back got_back numbers bytes_one bytes_other is_one is_other can there back =
    let s = storable limits mine one events bytes_one (opens_of one limits mine events is_one) in
    let t = storable limits theirs other others bytes_other (opens_of other limits theirs others is_other) in
    let good = opened_good one limits mine events is_one in
    let also = opened_good other limits theirs others is_other in
    let mine_now : List Event = events ++ unheld others events in
    let theirs_now : List Event = others ++ unheld mine_now others in
    let b = brought limits mine theirs one other events others input reading asked answered got numbers s t is_one is_other can there in
    let c = brought limits theirs got.files other one others mine_now input reading asked_back answered_back got_back numbers t (joined_storable limits events others s t can.room) is_other b.now
    (can_back limits events others good also can) back in
    record {
      events = mine_now;
      others = theirs_now;
      first = b.now;
      second = c.now;
      same = alike limits events others good also can;
      text = encode_utf8_all (text_of mine_now);
      first_shows = ap (over_events (show_reply content)) b.now;
      second_shows = ap (over_events (show_reply content)) c.now ∙ ap (λ (text : List ℕ). prints (encode_utf8_all text)) (sym (one_text limits events others good also can));
    }
