use Rattle.script_reader.proofs.NetReading.{lines_mean_one_step, net_scripts_are_unique, first_bad_net_lines_are_unique, net_scripts_have_no_bad_line, net_bytes_are_judged}
use Rattle.script_reader.proofs.laws.law_net_scripts.Goals as goal

pub returns : goal.returns
returns c = record {
  one_step = lines_mean_one_step;
  one_script = net_scripts_are_unique;
  one_bad_line = first_bad_net_lines_are_unique;
  not_both = net_scripts_have_no_bad_line;
  one_of_both = net_bytes_are_judged;
}
