-- What a cell gives of 3307, 3308 and 3309, by the party that was read of it.
use Rattle.std.specs.Prelude.{ℕ, Bool, not, ◌&&◌, ◌||◌, List, eqb, drop}
use Rattle.text.specs.Ascii.{ascii}
use Rattle.text.specs.Word.{starts_with}
use Rattle.ident.specs.Party.{part_of, is_nidn}
use Rattle.ident.specs.declared.parties.Party.{Party}
use Rattle.polish.specs.declared.cells.Polish.{Polish}
use Rattle.polish.specs.Numbers.{is_pesel, is_nip, pesel_right, nip_right}
use Rattle.polish.specs.Birth.{birth_day, is_birth}

-- NIDN of the person shape, with country PL
unfoldable pub is_polish : Party → List ℕ → Bool
is_polish party s = is_nidn party.identifier && party.shaped && starts_with (ascii "PL") (part_of party.identifier s)

-- what follows PL
abbrev pub number_of : Party → List ℕ → List ℕ
number_of party s = drop 2 (part_of party.identifier s)

-- of that: neither 11 nor 10 digits; the check digit is wrong; a PESEL whose birth day is no real day, or another than that of the date cell,
-- where that is present (`dated`) and writes `day`
unfoldable pub neither : List ℕ → Bool
neither n = not (is_pesel n || is_nip n)

unfoldable pub wrong_digit : List ℕ → Bool
wrong_digit n = (is_pesel n && not (pesel_right n)) || (is_nip n && not (nip_right n))

unfoldable pub other_day : List ℕ → Bool → ℕ → Bool
other_day n dated day = is_pesel n && (not (is_birth n) || (dated && not (eqb (birth_day n) day)))

-- 3307, 3308 and 3309 of a cell, by its party
unfoldable pub form_wrong : Party → List ℕ → Bool
form_wrong party s = is_polish party s && neither (number_of party s)

unfoldable pub check_wrong : Party → List ℕ → Bool
check_wrong party s = is_polish party s && wrong_digit (number_of party s)

unfoldable pub born_wrong : Party → List ℕ → Bool → ℕ → Bool
born_wrong party s dated day = is_polish party s && other_day (number_of party s) dated day

-- the three together, of a number and of a cell
unfoldable pub number_gives : List ℕ → Bool → ℕ → Polish
number_gives n dated day = record { form = neither n; check = wrong_digit n; birth = other_day n dated day }

unfoldable pub polish_of : Party → List ℕ → Bool → ℕ → Polish
polish_of party s dated day = record { form = form_wrong party s; check = check_wrong party s; birth = born_wrong party s dated day }
