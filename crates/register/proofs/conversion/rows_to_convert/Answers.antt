use Rattle.register.proofs.ConversionLaws.{refused_source, refused_target, not_refused}
use Rattle.register.proofs.conversion.rows_to_convert.Goals as goal

pub returns-then-row_width-ne74 : goal.returns-then-row_width-ne74
returns-then-row_width-ne74 c = refused_source _ c.args.to.now c.row_width.ensures c.if-row_width-ne74.true

pub returns-then-to-count : goal.returns-then-to-count
returns-then-to-count c = refused_target _ _ c.row_width.ensures c.if-row_width-ne74.false c.used-count.ensures c.if-to-count.true

pub returns : goal.returns
returns c = not_refused _ _ c.row_width.ensures c.if-row_width-ne74.false c.used-count.ensures c.if-to-count.false
