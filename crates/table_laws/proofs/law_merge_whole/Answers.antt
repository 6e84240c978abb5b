use Rattle.std.proofs.Common.{◌≡◌, ap, ◌∙◌, sym, refl, List, length, []}
use Rattle.std.proofs.lemmas.List.{length-map}
use Rattle.ew_model.specs.declared.event.Event.{Event}
use Rattle.ew_model.specs.Arrival.{Answer, arrive}
use Rattle.ew_model.specs.Cuts.{latest_cut}
use Rattle.history_definitions.specs.Tallies.{accepted_in, repeats_in, refused_in}
use Rattle.table_laws.specs.MergeLaws.{command_answer}
use Rattle.command_table.specs.Table.{merge}
use Rattle.command_table.specs.Text.{received_text}
use Rattle.table_laws.proofs.Merges.{all_counted}
use Rattle.table_laws.proofs.MergedFiles.{is_done, opened_is}
use Rattle.table_laws.proofs.law_merge_whole.Goals as goal

pub returns : goal.returns
returns c = λ limits files input reading name other zero.
    let d = is_done limits files name other (command_answer (merge name other) limits files input reading) refl zero in
    let o = arrive limits d.events [] d.others in
    let counted = all_counted o.answers d.merged.taken in
    let cut = latest_cut o.desk.held (length d.events) in
    let all : length o.answers ≡ length d.others = sym (length-map o.answers (λ (a : Answer). a.event)) ∙ ap length d.merged.in_order in (
      d.others,
      accepted_in o.answers,
      repeats_in o.answers,
      cut,
      opened_is other limits files d.others d.second,
      d.out
          ∙ ap (λ (waiting : List Event). received_text (accepted_in o.answers) (length waiting) (repeats_in o.answers) (length (refused_in o.answers)) cut) d.merged.waiting
          ∙ ap (λ refused. received_text (accepted_in o.answers) 0 (repeats_in o.answers) (length refused) cut) counted.1,
      counted.0 ∙ all,
    )
