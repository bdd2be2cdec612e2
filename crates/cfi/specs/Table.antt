-- The rules as the tables of the code have them, and what the functions below the public one answer of them.
-- The public contract speaks of the rules alone.
use Rattle.std.specs.Prelude.{ℕ, ◌≡◌, Bool, cond, ◌||◌, List, [], ◌∷◌, map, eqb, get_or}
use Rattle.cfi.specs.Rules.{Fault, Blank, Present, PresentNot, Not, UnitsAnd, Rule, rules}
use Rattle.cfi.specs.declared.tables.Fault.{Fault as Found}
use Rattle.cfi.specs.declared.tables.Fault.TheVariants as row
use Rattle.cfi.specs.declared.tables.Row.{Row}

abbrev pub fault_of : Found → Fault
fault_of row.Blank = Blank
fault_of row.Present = Present
fault_of (row.PresentNot value) = PresentNot value
fault_of (row.Not value) = Not value
fault_of (row.UnitsAnd value) = UnitsAnd value

-- the rule that a row writes
abbrev pub rule_of : Row → Rule
rule_of row = record { code = row.code; cell = row.cell; fault = fault_of row.fault; patterns = row.patterns.now }

-- of patterns, those that begin with a letter
unfoldable pub beginning : ℕ → List (List ℕ) → List (List ℕ)
beginning letter [] = []
beginning letter (pattern ∷ patterns) =
    cond (eqb (get_or pattern 0 0) letter) (pattern ∷ beginning letter patterns) (beginning letter patterns)

abbrev pub kept : List (List ℕ) → Rule → List Rule → List Rule
kept [] r rs = rs
kept (pattern ∷ patterns) r rs = record { code = r.code; cell = r.cell; fault = r.fault; patterns = pattern ∷ patterns } ∷ rs

-- of rules, those that have a pattern beginning with a letter, with these patterns alone
unfoldable pub group : ℕ → List Rule → List Rule
group letter [] = []
group letter (r ∷ rs) = kept (beginning letter r.patterns) r (group letter rs)

-- the table of a letter has the rules of its group
pub record Spelled (letter : ℕ) (rows : List Row) : Type 0 where
  pub rules_are : map rule_of rows ≡ group letter rules

-- the flags, with that of the code set
unfoldable pub marked : ℕ → List ℕ → List Bool → List Bool
marked code [] found = found
marked code (c ∷ numbers) [] = []
marked code (c ∷ numbers) (flag ∷ found) = (flag || eqb code c) ∷ marked code numbers found
