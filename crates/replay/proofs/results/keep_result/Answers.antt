use Rattle.replay.proofs.ResultLaws.{in_order}
use Rattle.replay.proofs.results.keep_result.Goals as goal

pub returns : goal.returns
returns c = in_order c.args.verdict c.args.findings.now c.args.register.now c.keep_entries-counted.ensures c.keep_words-worded.ensures c.keep_entries-listed.ensures c.keep_all.ensures
