use mathlib.Core.Path.{◌∙◌}
use mathlib.Core.Bool.{◌||◌}
use Rattle.summary.proofs.CountLaws.{under_accepted, under_cancelled, under_found, under_full, under_refused}
use Rattle.summary.proofs.counted.Goals as goal
use Rattle.summary.proofs.counted.Goals.{in-New, in-Cancelled, in-Found, in-Full, in-Refused}

pub returns : goal.returns
returns c =
    elim c.match-l.branch [
      | in-New w ↦ (λ i. record { after = w.after-is i; stuck = w.heading_stuck-is i || c.raise_codes-code_stuck.result }) ∙ under_accepted c.args.r c.args.l c.raise_codes-code_stuck.ensures w.in-New.is w.raise-heading_stuck.ensures.risen w.raise-heading_stuck.ensures.told
      | in-Cancelled w ↦ (λ i. record { after = w.after-is i; stuck = w.heading_stuck-is i || c.raise_codes-code_stuck.result }) ∙ under_cancelled c.args.r c.args.l c.raise_codes-code_stuck.ensures w.in-Cancelled.is w.raise-heading_stuck-in-Cancelled.ensures.risen w.raise-heading_stuck-in-Cancelled.ensures.told
      | in-Found w ↦ (λ i. record { after = w.after-is i; stuck = w.heading_stuck-is i || c.raise_codes-code_stuck.result }) ∙ under_found c.args.r c.args.l c.raise_codes-code_stuck.ensures w.in-Found.is w.raise-heading_stuck-in-Found.ensures.risen w.raise-heading_stuck-in-Found.ensures.told
      | in-Full w ↦ (λ i. record { after = w.after-is i; stuck = w.heading_stuck-is i || c.raise_codes-code_stuck.result }) ∙ under_full c.args.r c.args.l c.raise_codes-code_stuck.ensures w.in-Full.is w.raise-heading_stuck-in-Full.ensures.risen w.raise-heading_stuck-in-Full.ensures.told
      | in-Refused w ↦ (λ i. record { after = w.after-is i; stuck = w.heading_stuck-is i || c.raise_codes-code_stuck.result }) ∙ under_refused c.args.r c.args.l c.raise_codes-code_stuck.ensures w.in-Refused.is w.raise-heading_stuck-in-Refused.ensures.risen w.raise-heading_stuck-in-Refused.ensures.told
    ]
