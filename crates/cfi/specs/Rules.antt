-- The rules by CFI of the paper: code, cell, what is wrong with the cell, and for which CFI in cell 43 it is.
use Rattle.std.specs.Prelude.{ℕ, Bool, false, cond, not, ◌&&◌, ◌||◌, List, [], ◌∷◌, ◌++◌, map, eqb, leb, get_or}
use Prim.Native.String.{String}
use Rattle.text.specs.Ascii.{ascii}
use Rattle.text.specs.Class.{is}
use Rattle.text.specs.Shape.{shape}

-- What a cell holds is told by a number: 1 where it is blank, from 2 on where it is present, its values counted as the paper lists them
-- (30: UNT NOM MON, 33: PNDG NOAP PC MV YLD BP, 47: SWAP OTHR and a SWAP that names nothing, 50: PUTO CALL OTHR, 56: PHYS CASH
-- OPTL); 0 where it is none of these
abbrev pub UNT : ℕ
UNT = 2

abbrev pub PC : ℕ
PC = 4

abbrev pub SWAP : ℕ
SWAP = 2

abbrev pub PUTO : ℕ
PUTO = 2

abbrev pub CALL : ℕ
CALL = 3

abbrev pub OTHR : ℕ
OTHR = 4

abbrev pub PHYS : ℕ
PHYS = 2

abbrev pub CASH : ℕ
CASH = 3

abbrev pub blank : ℕ → Bool
blank k = eqb k 1

abbrev pub present : ℕ → Bool
present k = leb 2 k

abbrev pub well_formed : ℕ → Bool
well_formed k = leb 1 k

-- what a rule finds wrong
pub data Fault : Type 0 where
  -- "35 blank"
  Blank : Fault
  -- "48 present"
  Present : Fault
  -- "50 present but not CALL"
  PresentNot : ℕ → Fault
  -- "47 not SWAP", which a blank cell is too, and a SWAP that names nothing
  Not : ℕ → Fault
  -- "30 UNT, 33 PC"
  UnitsAnd : ℕ → Fault

-- of a cell that holds k, where cell 30 holds `quantity`
abbrev pub wrong : Fault → ℕ → ℕ → Bool
wrong Blank quantity k = blank k
wrong Present quantity k = present k
wrong (PresentNot value) quantity k = present k && not (eqb k value)
wrong (Not value) quantity k = well_formed k && not (eqb k value)
wrong (UnitsAnd value) quantity k = eqb quantity UNT && eqb k value

pub record Rule : Type 0 where
  pub code : ℕ
  pub cell : ℕ
  pub fault : Fault
  pub patterns : List (List ℕ)

-- the words of a text between single spaces, `word` being begun
unfoldable pub words : List ℕ → List ℕ → List (List ℕ)
words word [] = word ∷ []
words word (b ∷ s) = cond (is " " b) (word ∷ words [] s) (words (word ++ (b ∷ [])) s)

abbrev pub rule : ℕ → ℕ → Fault → String → Rule
rule code cell fault patterns = record { code = code; cell = cell; fault = fault; patterns = words [] (ascii patterns) }

-- * is any capital letter, short patterns are filled with *
unfoldable pub rules : List Rule
rules =
    rule 330 33 (UnitsAnd PC) "D*****"
    ∷ rule 350 35 Blank "DB**** DC**** DT**** DN****"
    ∷ rule 380 38 Blank "SC****"
    ∷ rule 473 47 (Not SWAP) "S*****"
    ∷ rule 480 48 Blank "O**I** O**N** FFI*** FFN*** RWI*** RFI***"
    ∷ rule 481 48 Present "DB**** DT**** DY**** ES**** EP**** EC**** EF**** EL**** ED**** EM**** EX**** C*****"
    ∷ rule 490 49 Blank "O**N** FFN***"
    ∷ rule 500 50 Blank "O***** H***** RW****"
    ∷ rule 501 50 Present "F***** S***** E***** C***** D***** J*****"
    ∷ rule 502 50 (PresentNot CALL) "OC**** H**A** H**B** H**C** RW**C*"
    ∷ rule 502 50 (PresentNot PUTO) "OP**** H**D** H**E** H**F** RW**P*"
    ∷ rule 502 50 (PresentNot OTHR) "OM**** H**G** H**H** H**I** RW**B*"
    ∷ rule 510 51 Blank "O***** H***** RW****"
    ∷ rule 511 51 Present "F***** S***** E***** C***** D***** J*****"
    ∷ rule 530 53 Blank "O***** H***** RW**** RF****"
    ∷ rule 531 53 Present "F***** S***** E***** C***** D***** J*****"
    ∷ rule 540 54 Blank "D*****"
    ∷ rule 542 54 Present "R***** O***** F***** S***** E***** C***** H***** J*****"
    ∷ rule 550 55 Blank "O***** F***** JC**F*"
    ∷ rule 551 55 Present "E***** C***** D*****"
    ∷ rule 560 56 (Not PHYS)
    "OC**P* OP**P* FF**P* FC**P* SR***P ST***P SE***P SC***P SF***P SM***P HR***P HT***P HE***P HC***P HF***P HM***P IF***P JE***P JF***P JC***P JR***P JT***P LL***P"
    ∷ rule 560 56 (Not CASH)
    "OC**C* OP**C* FF**C* FC**C* SR***C ST***C SE***C SC***C SM***C HR***C HT***C HE***C HC***C HF***C HM***C JE***C JF***C JC***C JR***C JT***C LL***C"
    ∷ []

-- the test holds of some element
unfoldable pub any : {A : Type 0} → (A → Bool) → List A → Bool
any test [] = false
any test (x ∷ xs) = test x || any test xs

-- the CFI matches one of the patterns
unfoldable pub matches : List (List ℕ) → List ℕ → Bool
matches patterns cfi = any (λ pattern. shape pattern cfi) patterns

unfoldable pub broken : List ℕ → List ℕ → Rule → Bool
broken kinds cfi r = wrong r.fault (get_or kinds 30 0) (get_or kinds r.cell 0) && matches r.patterns cfi

-- a code is violated if one of its rules is broken
unfoldable pub violated : List ℕ → List ℕ → ℕ → Bool
violated kinds cfi code = any (λ r. eqb r.code code && broken kinds cfi r) rules

-- the CFI matches a pattern of one of the code's rules
unfoldable pub matches_code : ℕ → List ℕ → Bool
matches_code code cfi = any (λ r. eqb r.code code && matches r.patterns cfi) rules

-- the codes by CFI, rising
abbrev pub codes : List ℕ
codes =
    330 ∷ 350 ∷ 380 ∷ 473 ∷ 480 ∷ 481 ∷ 490 ∷ 500 ∷ 501 ∷ 502 ∷ 510 ∷ 511 ∷ 530 ∷ 531 ∷ 540 ∷ 542 ∷ 550 ∷ 551 ∷ 560 ∷ []

unfoldable pub cfi_findings : List ℕ → List ℕ → List Bool
cfi_findings kinds cfi = map (violated kinds cfi) codes
