-- How one pass over a list answers all that its look-up asks: three questions, in the order in which the look-up names them. A list with
-- fewer repeats its last.
use Rattle.std.specs.Prelude.{ℕ, ◌+◌, ◌≤◌, Bool, ◌&&◌, ◌||◌, List}
use Rattle.text.specs.Stride.{Rowed}
use Rattle.lists.specs.declared.frame.Mark.{Mark}
use Rattle.lists.specs.declared.frame.Mark.TheVariants.{Lei, Cty, Ccy, Ven, Ins}
use Rattle.lists.specs.declared.rows.Answers.{Answers}
use Rattle.lists.specs.Row.{unlapsed, any_status, lei_stands, lei_serves, country_on, current_on, pre_euro, venue_on, listed_on, cfi_on}
use Rattle.lists.specs.Lookups.{some_in}

abbrev pub first : Mark → ℕ → List ℕ → Bool
first Lei day = lei_serves unlapsed day
first Cty day = country_on day
first Ccy day = current_on day
first Ven day = venue_on 1 day
first Ins day = listed_on day

abbrev pub second : Mark → ℕ → List ℕ → Bool
second Lei day = lei_serves any_status day
second Cty day = country_on day
second Ccy day = pre_euro
second Ven day = venue_on 2 day
second Ins day = cfi_on 330 day

abbrev pub third : Mark → ℕ → List ℕ → Bool
third Lei day = lei_stands any_status day
third Cty day = country_on day
third Ccy day = pre_euro
third Ven day = venue_on 3 day
third Ins day = cfi_on 350 day

-- the answers of one row, whatever its key
abbrev pub row_says : Mark → ℕ → List ℕ → Answers
row_says mark day row = record { first = first mark day row; second = second mark day row; third = third mark day row }

-- the answers of the rows with the key
abbrev pub list_says : Mark → List ℕ → List ℕ → ℕ → Answers
list_says mark list key day =
    record { first = some_in mark list key (first mark day); second = some_in mark list key (second mark day); third = some_in mark list key (third mark day) }

-- true where one of the two is
abbrev pub joined : Answers → Answers → Answers
joined found more = record { first = found.first || more.first; second = found.second || more.second; third = found.third || more.third }

-- no further row can change an answer
abbrev pub complete : Answers → Bool
complete found = found.first && found.second && found.third

-- the word of a key by which rows with another are passed, of some bytes at a place, stands within the key
pub record Worded (key row place size : ℕ) : Type 0 where
  pub rowed : Rowed row place size
  pub within : place + size ≤ key
