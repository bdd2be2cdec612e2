-- The codes of findings, in rising order: which code each flag stands for.
use Rattle.std.specs.Prelude.{ℕ, Bool, cond, List, [], ◌∷◌, ◌++◌}
use Rattle.text.specs.Number.{count_from}

-- the codes of the rules
unfoldable pub rule_codes : List ℕ
rule_codes =
    23 ∷ 24 ∷ 25 ∷ 30 ∷ 40 ∷ 41 ∷ 60 ∷ 70 ∷ 71 ∷ 72 ∷ 73 ∷ 74 ∷
    80 ∷ 110 ∷ 120 ∷ 121 ∷ 122 ∷ 123 ∷ 150 ∷ 160 ∷ 161 ∷ 162 ∷ 163 ∷ 164 ∷
    170 ∷ 200 ∷ 210 ∷ 211 ∷ 212 ∷ 213 ∷ 240 ∷ 251 ∷ 260 ∷ 270 ∷ 280 ∷ 281 ∷
    290 ∷ 310 ∷ 330 ∷ 331 ∷ 340 ∷ 350 ∷ 351 ∷ 360 ∷ 361 ∷ 362 ∷ 370 ∷ 371 ∷
    372 ∷ 380 ∷ 440 ∷ 451 ∷ 470 ∷ 473 ∷ 480 ∷ 481 ∷ 490 ∷ 500 ∷ 501 ∷ 502 ∷ 510 ∷
    511 ∷ 520 ∷ 530 ∷ 531 ∷ 540 ∷ 541 ∷ 542 ∷ 550 ∷ 551 ∷ 552 ∷ 560 ∷ 570 ∷ []

-- 1000 + f for each cell f from 1 to 65
unfoldable pub form_codes : List ℕ
form_codes = count_from 1001 65

-- the codes of the rules for Polish identifiers
unfoldable pub polish_codes : List ℕ
polish_codes = 3307 ∷ 3308 ∷ 3309 ∷ []

unfoldable pub codes : List ℕ
codes = rule_codes ++ (form_codes ++ polish_codes)

-- how many codes there are: of the rules, with the forms, and in all
abbrev pub rule_count : ℕ
rule_count = 73

abbrev pub base_count : ℕ
base_count = 138

abbrev pub code_count : ℕ
code_count = 141

-- how many entries a findings buffer needs: one for each code that may be given, the Polish ones where the call asks for them
abbrev pub entries_needed : Bool → ℕ
entries_needed polish = cond polish code_count base_count
