use Rattle.ew_model.proofs.ScriptReading.{lines_mean_one_edit, scripts_are_unique, first_bad_lines_are_unique, scripts_have_no_bad_line, bytes_are_judged}
use Rattle.ew_model.proofs.laws.scripts.law_scripts.Goals as goal

pub returns : goal.returns
returns c = record {
  one_edit = lines_mean_one_edit;
  one_script = scripts_are_unique;
  one_bad_line = first_bad_lines_are_unique;
  not_both = scripts_have_no_bad_line;
  one_of_both = bytes_are_judged;
}
