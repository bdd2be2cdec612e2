-- The two Polish numbers, PESEL and NIP, and their check digits.
use Rattle.std.specs.Prelude.{ℕ, ◌+◌, ◌*◌, ◌-◌, ◌%◌, Bool, List, [], ◌∷◌, eqb, get_or, drop}
use Rattle.text.specs.Ascii.{ascii}
use Rattle.text.specs.Class.{run_of}
use Rattle.text.specs.declared.classes.Class.TheVariants.{Digit}
use Rattle.text.specs.Number.{digit_of}

-- PESEL: 11 digits. NIP: 10 digits
abbrev pub is_pesel : List ℕ → Bool
is_pesel s = run_of Digit 11 11 s

abbrev pub is_nip : List ℕ → Bool
is_nip s = run_of Digit 10 10 s

-- each digit times its weight, added; the weights are a row of digits
unfoldable pub weighed : List ℕ → List ℕ → ℕ
weighed [] s = 0
weighed (w ∷ weights) s = digit_of w * digit_of (get_or s 0 0) + weighed weights (drop 1 s)

abbrev pub pesel_weights : List ℕ
pesel_weights = ascii "1379137913"

abbrev pub nip_weights : List ℕ
nip_weights = ascii "657234567"

-- PESEL: the check digit is what the weighted sum lacks to the next multiple of ten
unfoldable pub pesel_right : List ℕ → Bool
pesel_right s = eqb ((10 - weighed pesel_weights s % 10) % 10) (digit_of (get_or s 10 0))

-- NIP: the sum by 11, the remainder is the check digit; so remainder 10 is wrong whatever the digit
unfoldable pub nip_right : List ℕ → Bool
nip_right s = eqb (weighed nip_weights s % 11) (digit_of (get_or s 9 0))
