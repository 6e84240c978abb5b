use Rattle.history_laws.proofs.LastAnswers.{each_has_one_last_answer}
use Rattle.history_laws.proofs.law_last_answers.Goals as goal

pub returns : goal.returns
returns c = each_has_one_last_answer
