use Rattle.checker.proofs.AnswerLaws.{outcome_counted, answered}
use Rattle.checker.specs.Setting.{called}
use Rattle.checker.specs.Program.{judged}
use Rattle.verdict.specs.Codes.{code_count}
use Rattle.checker.proofs.progress.Carried.answer.Goals as goal

pub returns : goal.returns
unfolding judged
returns c =
    answered {c = c.args.self.now} (outcome_counted (called c.args.line.now c.args.self.now.register) code_count) c.judge-verdict.ensures c.note.ensures c.clear.ensures c.listed.ensures c.push_answer.ensures
