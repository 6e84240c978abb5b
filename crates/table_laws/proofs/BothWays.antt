-- Two files that are merged both ways show one text.
use Rattle.std.proofs.Common.{◌≡◌, ℕ, encode_utf8_all, false, ⊎_elim, List, [], ◌++◌, refl, sym, ap, ◌∙◌, subst}
use Rattle.std.proofs.lemmas.Bool.{cases_Bool}
use Rattle.std.specs.FinMap.{get}
use Rattle.ew_model.specs.declared.event.Event.{Event}
use Rattle.ew_model.specs.Sets.{SameElements}
use Rattle.ew_model.specs.Ids.{name_eq}
use Rattle.ew_model.specs.Limits.{LimitNumbers, AreLimits}
use Rattle.ew_model.specs.Texts.{text_of}
use Rattle.ew_model.specs.Arrival.{arrive}
use Rattle.ew_model.proofs.SetLaws.{among_joined, joined_right}
use Rattle.ew_model.proofs.IdLaws.{names_equal, name_exact}
use Rattle.ew_model.proofs.GoodLaws.{equal_sets_agree}
use Rattle.ew_outside.specs.Files.{Files}
use Rattle.command_table.specs.Scripts.{Reading}
use Rattle.table_laws.specs.MergeLaws.{MergesAgree, MergesHoldSame, HoldsBytes, command_answer}
use Rattle.command_table.specs.Table.{Text, content, merge, Answer, prints, opened, open_file, over_events, show_reply}
use Rattle.table_laws.proofs.MergedFiles.{Opens, opened_is, Done, is_done, IsStorable, storable, merged_storable, opens_once, opened_new, opens_new, other_stays}
use Rattle.replica.proofs.Beginnings.{good_from_none_bad}

-- the elements of a history that took in another, and of the other after it took in that one
same_both : (xs ys one other : List Event) → SameElements one (xs ++ ys) → SameElements other (ys ++ one) → SameElements one other
same_both xs ys one other first second = record {
  there = λ z m. second.back z (joined_right ys one z m);
  back = λ z m. ⊎_elim (λ k. first.back z (joined_right xs ys z k)) (λ k. k) (among_joined ys one z (second.there z m));
}

-- both files hold the same events, and show one text
record IsShown (limits : LimitNumbers) (files : Files) (one other : Text) : Type 0 where
  events : List Event
  others : List Event
  first_opens : open_file one limits files ≡ opened events
  second_opens : open_file other limits files ≡ opened others
  same : SameElements events others
  text : List ℕ
  first : over_events (show_reply content) (open_file one limits files) ≡ prints text
  second : over_events (show_reply content) (open_file other limits files) ≡ prints text

module _ (limits : LimitNumbers) (numbers : AreLimits limits) (files : Files) (one other : Text) (apart : name_eq one other ≡ false) (first : HoldsBytes files one) (second : HoldsBytes files other) where
  -- what is shown after both merges
  shown_apart : (there back : Answer) → Done limits files one other there → Done limits there.files other one back → IsShown limits back.files one other
  shown_apart there back d e =
      let turned : name_eq other one ≡ false = names_equal.symm other one ∙ apart in
      let d_events = storable limits files one d.events first d.first in
      let d_others = storable limits files other d.others second d.second in
      let xs = e.others in
      let held = (arrive limits d.events [] d.others).desk.held in
      let s = merged_storable limits d.events d.others d.first.good d_events d_others d.merged in
      -- the files that the second merge opened
      let xs_is : xs ≡ held = opened_new limits files one other there d xs numbers d_events d_others e.second in
      let events_is : e.events ≡ d.others = opens_once limits files there.files other d.others e.events (other_stays limits files one other there d turned) d.second e.first in
      let e_events : IsStorable limits e.events = subst (IsStorable limits) (sym events_is) d_others in
      let e_others : IsStorable limits xs = subst (IsStorable limits) (sym xs_is) s.1 in
      let last = (arrive limits e.events [] xs).desk.held in
      let t = merged_storable limits e.events xs e.first.good e_events e_others e.merged in
      -- the files that are shown
      let stays : get back.files one ≡ get there.files one = other_stays limits there.files other one back e apart in
      let kept : Opens limits back.files one xs = record { bytes = e.second.bytes; here = stays ∙ e.second.here; short = e.second.short; read = e.second.read; good = e.second.good } in
      let new : Opens limits back.files other last = opens_new limits there.files other one back e numbers e_events e_others in
      let sets : SameElements xs last =
      same_both d.events d.others xs last (subst (λ (l : List Event). SameElements l (d.events ++ d.others)) (sym xs_is) d.merged.whole)
      (subst (λ (l : List Event). SameElements last (l ++ xs)) events_is e.merged.whole) in
      let texts : text_of xs ≡ text_of last = (equal_sets_agree xs last (good_from_none_bad xs e.second.good) t.0 sets).whole in
      record {
        events = xs;
        others = last;
        first_opens = opened_is one limits back.files xs kept;
        second_opens = opened_is other limits back.files last new;
        same = sets;
        text = encode_utf8_all (text_of xs);
        first = ap (over_events (show_reply content)) (opened_is one limits back.files xs kept);
        second = ap (over_events (show_reply content)) (opened_is other limits back.files last new) ∙ ap (λ (text : List ℕ). prints (encode_utf8_all text)) (sym texts);
      }

-- one file that was merged with itself
shown_same : (limits : LimitNumbers) (numbers : AreLimits limits) (files : Files) (one other : Text) → one ≡ other → HoldsBytes files one → HoldsBytes files other
    → (there back : Answer) → Done limits files one other there → Done limits there.files other one back → IsShown limits back.files one other
shown_same limits numbers files one other same first second there back d e =
    let d_events = storable limits files one d.events first d.first in
    let d_others = storable limits files other d.others second d.second in
    let held = (arrive limits d.events [] d.others).desk.held in
    let s = merged_storable limits d.events d.others d.first.good d_events d_others d.merged in
    let xs_is : e.others ≡ held = opened_new limits files one other there d e.others numbers d_events d_others e.second in
    let events_is : e.events ≡ held = opened_new limits files one other there d e.events numbers d_events d_others (subst (λ (name : Text). Opens limits there.files name e.events) (sym same) e.first) in
    let e_events : IsStorable limits e.events = subst (IsStorable limits) (sym events_is) s.1 in
    let e_others : IsStorable limits e.others = subst (IsStorable limits) (sym xs_is) s.1 in
    let last = (arrive limits e.events [] e.others).desk.held in
    let new : Opens limits back.files other last = opens_new limits there.files other one back e numbers e_events e_others in
    let shown : over_events (show_reply content) (open_file other limits back.files) ≡ prints (encode_utf8_all (text_of last)) = ap (over_events (show_reply content)) (opened_is other limits back.files last new) in
    record {
      events = last;
      others = last;
      first_opens = ap (λ (name : Text). open_file name limits back.files) same ∙ opened_is other limits back.files last new;
      second_opens = opened_is other limits back.files last new;
      same = record { there = λ z m. m; back = λ z m. m };
      text = encode_utf8_all (text_of last);
      first = ap (λ (name : Text). over_events (show_reply content) (open_file name limits back.files)) same ∙ shown;
      second = shown;
    }

-- two merges that are done, one behind the other
both_done : (limits : LimitNumbers) (files : Files) (input : List ℕ) (reading : Reading) (one other : Text) → AreLimits limits → HoldsBytes files one → HoldsBytes files other
    → (there back : Answer) → there ≡ command_answer (merge one other) limits files input reading → back ≡ command_answer (merge other one) limits there.files input reading → there.status ≡ 0 → back.status ≡ 0
    → IsShown limits back.files one other
both_done limits files input reading one other numbers first second there back is again zero done =
    let d = is_done limits files one other there is zero in
    let e = is_done limits there.files other one back again done in
    ⊎_elim
    (λ same. shown_same limits numbers files one other (name_exact one other same) first second there back d e)
    (λ apart. shown_apart limits numbers files one other apart first second there back d e)
    (cases_Bool (name_eq one other))

pub merges_agree : MergesAgree
merges_agree limits files input reading one other numbers first second zero done =
    let shown = both_done limits files input reading one other numbers first second _ _ refl refl zero done in
    (shown.text, shown.first, shown.second)

pub merges_hold_same : MergesHoldSame
merges_hold_same limits files input reading one other numbers first second zero done =
    let shown = both_done limits files input reading one other numbers first second _ _ refl refl zero done in
    (shown.events, shown.others, shown.first_opens, shown.second_opens, shown.same)
