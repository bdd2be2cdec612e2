-- What a call gets. The findings buffer stays outside.
use Rattle.std.specs.Prelude.{ℕ, Bool, List}

pub record Call : Type 0 where
  pub line : List ℕ
  pub lei : List ℕ
  pub cty : List ℕ
  pub ccy : List ℕ
  pub ven : List ℕ
  pub ins : List ℕ
  pub register : List ℕ
  -- the submission moment: day S, microsecond of the day
  pub day : ℕ
  pub micro : ℕ
  -- Polish identifiers are judged
  pub polish : Bool

abbrev pub call : List ℕ → List ℕ → List ℕ → List ℕ → List ℕ → List ℕ → List ℕ → ℕ → ℕ → Bool → Call
call line lei cty ccy ven ins register day micro polish =
    record { line = line; lei = lei; cty = cty; ccy = ccy; ven = ven; ins = ins; register = register; day = day; micro = micro; polish = polish }
