-- The paper's table of the lists: mark, bytes of the key, bytes of the row.
use Rattle.std.specs.Prelude.{ℕ, List}
use Rattle.text.specs.Ascii.{ascii}
use Rattle.lists.specs.declared.frame.Mark.{Mark}
use Rattle.lists.specs.declared.frame.Mark.TheVariants.{Lei, Cty, Ccy, Ven, Ins}

abbrev pub letters_of : Mark → List ℕ
letters_of Lei = ascii "LEI"
letters_of Cty = ascii "CTY"
letters_of Ccy = ascii "CCY"
letters_of Ven = ascii "VEN"
letters_of Ins = ascii "INS"

abbrev pub key_width : Mark → ℕ
key_width Lei = 20
key_width Cty = 2
key_width Ccy = 3
key_width Ven = 4
key_width Ins = 12

abbrev pub row_width : Mark → ℕ
row_width Lei = 30
row_width Cty = 10
row_width Ccy = 12
row_width Ven = 13
row_width Ins = 26
