-- Past versions, and what a replay comes to.
use Rattle.std.proofs.Common.{◌≡◌, ℕ, ◌<◌, ◌^◌, length, arith, Bool, true, not, List, [], ◌∷◌, None, inl, inr, refl, sym, ap, subst, ◌∙◌, encode_utf8_all}
use Rattle.std.specs.List.{AllByRecursion, list_all}
use Rattle.std.specs.Option.{option_map}
use Rattle.std.proofs.lemmas.Bool.{and_from}
use Rattle.ew_model.specs.declared.id.Id.{Id}
use Rattle.ew_model.specs.declared.event.Event.{Event}
use Rattle.ew_model.specs.Ancestors.{heads, ids_of, is_held, is_parent}
use Rattle.ew_model.specs.Ids.{id_cmp}
use Rattle.ew_model.specs.Limits.{LimitNumbers}
use Rattle.ew_model.specs.Operations.{operations}
use Rattle.ew_model.specs.Scripts.{version_text}
use Rattle.ew_model.specs.Sets.{Among}
use Rattle.ew_model.specs.Sorting.{sort_by}
use Rattle.ew_model.specs.Sound.{IsSound, IsSoundId, AreSound}
use Rattle.ew_model.specs.Texts.{text_at}
use Rattle.ew_model.specs.Verdicts.{IsGood, first_unknown}
use Rattle.ew_model.proofs.ArrivalLaws.{no_unknown_parent}
use Rattle.ew_model.proofs.EditHeads.{head_held}
use Rattle.ew_model.proofs.GoodLaws.{good_laid_out}
use Rattle.ew_model.proofs.HeadsLaw.{whole_text}
use Rattle.ew_model.proofs.PathOrder.{id_total}
use Rattle.ew_model.proofs.SetLaws.{among_filter, among_map}
use Rattle.ew_model.proofs.SortingLaws.{all_at, all_from, sort_among, among_sort}
use Rattle.ew_outside.specs.Files.{Files}
use Rattle.history_definitions.specs.Replays.{change_lines, replay_text}
use Rattle.history_view.proofs.ReplayReading.{replays_make_text}
use Rattle.replica.proofs.Beginnings.{good_from_none_bad}
use Rattle.table_laws.specs.PastLaws.{HeadsAreAVersion, HeadsShowAll, NamesAll, ReplaysMakeContent, VersionsAreTaken}
use Rattle.command_table.specs.Table.{Text, Opened, opened, open_file, over_events, past, content, replay, reply_to, show, prints, show_reply, unless_unknown}
use Rattle.table_laws.proofs.MergedFiles.{Opens, opens, opened_is, status_in, storable}
use Rattle.command_table.proofs.VersionReading.{is_taken, takes}
use Rattle.command_table.proofs.Openings.{same_events}

-- a file that is open was read, and its events are good
open_again : (limits : LimitNumbers) (files : Files) (name : Text) (events : List Event) → open_file name limits files ≡ opened events → Opens limits files name events
open_again limits files name events is =
    let found = opens (λ events. prints []) name limits files (ap (λ (o : Opened). status_in (over_events (λ events. prints []) o)) is) in
    subst (Opens limits files name) (same_events found.0 events (sym (opened_is name limits files found.0 found.1) ∙ is)) found.1

open_good : (limits : LimitNumbers) (files : Files) (name : Text) (events : List Event) → open_file name limits files ≡ opened events → IsGood events
open_good limits files name events is = good_from_none_bad events (open_again limits files name events is).good

-- where a version names all heads, it shows the whole text
shown_whole : (events : List Event) (version : List Id) → IsGood events → NamesAll events version → show_reply (past version) events ≡ show_reply content events
shown_whole events version good all =
    let known : first_unknown events version ≡ None = no_unknown_parent events version all.held in
    ap (λ o. unless_unknown o (prints (encode_utf8_all (text_at events version)))) known
    ∙ ap (λ text. prints (encode_utf8_all text)) (whole_text events version (good_laid_out events good) all.heads)

pub heads_show_all : HeadsShowAll
heads_show_all limits files input reading name events version is all =
    ap (over_events (show_reply (past version))) is
    ∙ shown_whole events version (open_good limits files name events is) all
    ∙ ap (over_events (show_reply content)) (sym is)

-- the id of an event that can be held is sound
head_sound : (events : List Event) (x : Id) → AreSound events → Among x (heads events) → IsSoundId x
head_sound events x sound m =
    let held = (among_filter (λ y. not (is_parent events y)) (ids_of events) x m).0 in
    let e = among_map (λ (f : Event). f.id) events x held in
    subst IsSoundId (sym e.2) (all_at IsSound events e.0 sound e.1).id

-- what holds of each is tested of all
tests_all : (p : Id → Bool) (ids : List Id) → ((x : Id) → Among x ids → p x ≡ true) → list_all p ids ≡ true
tests_all p [] h = refl
tests_all p (x ∷ ids) h = and_from (p x) (list_all p ids) (h x (inl refl)) (tests_all p ids (λ y m. h y (inr m)))

pub heads_are_a_version : HeadsAreAVersion
heads_are_a_version limits files name events bytes is =
    let version = sort_by id_cmp (heads events) in
    let sound = (storable limits files name events bytes (open_again limits files name events is)).sound in
    let from = sort_among id_total (heads events) in
    let ids : AllByRecursion IsSoundId version = all_from IsSoundId version (λ x m. head_sound events x sound (from x m)) in (
      ap (option_map past) (takes (version_text version) version (record { sound = ids; spelled = refl })),
      record {
        held = tests_all (is_held events) version (λ x m. head_held events x (from x m));
        heads = among_sort id_total (heads events);
      },
    )

same_out : (xs ys : List ℕ) → prints xs ≡ prints ys → xs ≡ ys
same_out xs ys e = cc

pub replays_make_content : ReplaysMakeContent
replays_make_content limits files input reading name events numbers bytes is =
    let file = open_again limits files name events is in
    let few : length events < 2 ^ 32 = omega (arith, (storable limits files name events bytes file).few, numbers.few_events) in
    let read = replays_make_text events (good_from_none_bad events file.good) few in
    let printed : reply_to (show replay name) limits files input reading ≡ prints (replay_text events) = ap (over_events (show_reply replay)) is in (
      operations events,
      record {
        small = read.small;
        lines = printed;
        once = λ others sound e. read.once others sound (same_out (change_lines others) (replay_text events) (sym e ∙ printed));
        made = ap (over_events (show_reply content)) is ∙ ap (λ text. prints (encode_utf8_all text)) (sym read.made);
      },
    )

pub versions_are_taken : VersionsAreTaken
versions_are_taken word ids = (is_taken word ids, takes word ids)
