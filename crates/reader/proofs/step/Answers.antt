use Rattle.std.proofs.Common.{◌∙◌, ℕ, ◌-◌, ap, take, drop}
use Rattle.reader.proofs.ReadingLaws.{before_next}
use Rattle.reader.proofs.step.Goals as goal

pub returns : goal.returns
returns c =
    let line = c.args.r.line.now in
    let at = c.args.r.at in
    record {
      hands =
          c.cell_before-cell.ensures
          ∙ (ap (λ (next : ℕ). take (next - 1 - at) (drop at line)) c.place_after-next.ensures ∙ before_next line at);
      places = c.place_after-next.ensures;
      ends = c.is_done-done.ensures;
    }
