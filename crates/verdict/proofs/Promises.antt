-- What a verdict promises.
use mathlib.Core.Path.{◌≡◌, ◌∙◌, sym, refl}
use mathlib.Core.Bool.{Bool, true, false}
use mathlib.Core.List.{List}
use Prim.Native.Nat.{ℕ, ◌*◌, ◌≤◌, ◌<◌}
use native.Mathlib.Omega.{arith}
use lib.ListN.{length, get_or}
use Rattle.verdict.specs.Codes.{rule_codes, form_codes, polish_codes, codes, rule_count, code_count}
use Rattle.verdict.specs.Verdict.{bit, words, pick, codes_found, verdict_of}
use Rattle.verdict.specs.Counted.{bits_set, bit_at, rising_over, times}
use Rattle.verdict.proofs.BitLaws.{words_ones, words_digit}
use Rattle.verdict.proofs.ListLaws.{length_pick}
use Rattle.verdict.proofs.OrderLaws.{pick_rising, pick_once, pick_known}

-- of any table of codes that rises, with a flag for each code
pub record Table (table : List ℕ) (flags : List Bool) : Type 0 where
  pub rises : rising_over 0 table ≡ true
  pub a_flag_each : length table ≡ length flags

module _ {table : List ℕ} {flags : List Bool} (of : Table table flags) where
  -- as many bits are set in n words, if the flags fit, as codes are listed
  pub bits_are_listed : (n : ℕ) → length flags ≤ n * 64 → bits_set (words n flags) ≡ length (pick table flags)
  bits_are_listed n h = words_ones n flags h ∙ sym (length_pick table flags of.a_flag_each)

  -- the list rises
  pub listed_rise : rising_over 0 (pick table flags) ≡ true
  listed_rise = pick_rising 0 table flags of.rises

  -- a code stands there once if its flag is set, and else not
  pub listed_once : (i : ℕ) → i < length table → times (get_or table i 0) (pick table flags) ≡ bit (get_or flags i false)
  listed_once i h = pick_once 0 table flags i of.rises h

  -- no other number stands there
  pub listed_known : (x : ℕ) → times x table ≡ 0 → times x (pick table flags) ≡ 0
  listed_known x e = omega (arith, pick_known x table flags)

-- our table
pub rule_count_lem : length rule_codes ≡ rule_count
unfolding rule_codes
rule_count_lem = refl

pub form_count : length form_codes ≡ 65
unfolding form_codes
form_count = refl

pub code_count_lem : length codes ≡ code_count
unfolding codes rule_codes form_codes polish_codes
code_count_lem = refl

pub codes_rise : rising_over 0 codes ≡ true
unfolding codes rule_codes form_codes polish_codes rising_over
codes_rise = refl

module _ (flags : List Bool) (all : length flags ≡ code_count) where
  pub ours : Table codes flags
  ours = record { rises = codes_rise; a_flag_each = code_count_lem ∙ sym all }

  -- n is the number of codes listed ..
  pub count_listed : (verdict_of flags).count ≡ length (codes_found flags)
  unfolding verdict_of
  count_listed = refl

  -- .. and the number of bits set
  pub count_bits : (verdict_of flags).count ≡ bits_set (verdict_of flags).words
  unfolding verdict_of
  count_bits = sym (bits_are_listed ours 3 (omega arith))

  -- bit j of the three words, from the first word's lowest, is flag j; the bits past the last code are 0
  pub bit_is_flag : (j : ℕ) → j < 192 → bit_at (verdict_of flags).words j ≡ bit (get_or flags j false)
  unfolding verdict_of
  bit_is_flag j h = words_digit 3 flags j h

  -- the codes are listed in rising order
  pub found_rise : rising_over 0 (codes_found flags) ≡ true
  found_rise = listed_rise ours

  -- each code stands there once if its flag is set, and else not
  pub found_once : (i : ℕ) → i < code_count → times (get_or codes i 0) (codes_found flags) ≡ bit (get_or flags i false)
  found_once i h = listed_once ours i (omega (arith, code_count_lem))

  -- nothing else stands there
  pub found_known : (x : ℕ) → times x codes ≡ 0 → times x (codes_found flags) ≡ 0
  found_known x e = listed_known ours x e
