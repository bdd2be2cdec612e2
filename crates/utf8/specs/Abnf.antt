-- RFC 3629 section 4, the syntax of UTF-8 byte sequences, read from left to right. Of its UTF8-1 = %x00-7F only
-- %x20-7E is allowed here.
use Rattle.std.specs.Prelude.{ℕ, zero, suc, ◌+◌, Bool, false, cond, ◌&&◌, List, [], ◌∷◌, Option, Some, None, leb}
use Rattle.utf8.specs.declared.Next.{Next}
use Rattle.utf8.specs.declared.Next.TheVariants.{First, Tail, Never}

-- a row: the first bytes up to this one, from where the row before ends, and what may come after them
pub data Row : Type 0 where
  upto : ℕ → Next → Row

-- A second byte of a range, and a number of UTF8-tail behind it; or already the next code point; or no syntax.
-- UTF8-2 = %xC2-DF UTF8-tail
-- UTF8-3 = %xE0 %xA0-BF UTF8-tail / %xE1-EC 2( UTF8-tail ) / %xED %x80-9F UTF8-tail / %xEE-EF 2( UTF8-tail )
-- UTF8-4 = %xF0 %x90-BF 2( UTF8-tail ) / %xF1-F3 3( UTF8-tail ) / %xF4 %x80-8F 2( UTF8-tail )
abbrev pub rows : List Row
rows =
    upto 0x1F Never
    ∷ upto 0x7E First
    ∷ upto 0xC1 Never
    ∷ upto 0xDF (Tail 0x80 0xBF 0)
    ∷ upto 0xE0 (Tail 0xA0 0xBF 1)
    ∷ upto 0xEC (Tail 0x80 0xBF 1)
    ∷ upto 0xED (Tail 0x80 0x9F 1)
    ∷ upto 0xEF (Tail 0x80 0xBF 1)
    ∷ upto 0xF0 (Tail 0x90 0xBF 2)
    ∷ upto 0xF3 (Tail 0x80 0xBF 2)
    ∷ upto 0xF4 (Tail 0x80 0x8F 2)
    ∷ upto 0xFF Never
    ∷ []

unfoldable pub look : List Row → ℕ → Next
look [] b = Never
look (upto most next ∷ rows) b = cond (leb b most) next (look rows b)

-- what may come after the first byte of a code point
abbrev pub first : ℕ → Next
first b = look rows b

abbrev pub within : ℕ → ℕ → ℕ → Bool
within least most b = leb least b && leb b most

-- so many UTF8-tail = %x80-BF, then the next code point
abbrev pub awaited : ℕ → Next
awaited zero = First
awaited (suc more) = Tail 0x80 0xBF more

abbrev pub after : Next → ℕ → Next
after First b = first b
after (Tail least most more) b = cond (within least most b) (awaited more) Never
after Never b = Never

-- a code point begins with the byte that comes next
abbrev pub starts : Next → ℕ
starts First = 1
starts (Tail least most more) = 0
starts Never = 0

-- where the bytes end
abbrev pub ended : Next → ℕ → Option ℕ
ended First n = Some n
ended (Tail least most more) n = None
ended Never n = None

-- the bytes s, where n code points are begun and `next` may come
unfoldable pub counted : Next → ℕ → List ℕ → Option ℕ
counted next n [] = ended next n
counted next n (b ∷ s) = counted (after next b) (n + starts next) s

unfoldable pub points : List ℕ → Option ℕ
points s = counted First 0 s

-- from 1 to `most` code points
abbrev pub count_within : ℕ → Option ℕ → Bool
count_within most (Some n) = leb 1 n && leb n most
count_within most None = false

unfoldable pub points_within : ℕ → List ℕ → Bool
points_within most s = count_within most (points s)
