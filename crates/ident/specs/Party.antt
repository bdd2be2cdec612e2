-- The party that a cell names: 7, 16, 12, 21, 57, 59.
use Rattle.std.specs.Prelude.{ℕ, Bool, true, false, cond, not, ◌&&◌, ◌||◌, List, [], drop}
use Rattle.text.specs.Ascii.{ascii}
use Rattle.text.specs.Class.{run_of}
use Rattle.text.specs.declared.classes.Class.TheVariants.{Alphanumeric, Printable}
use Rattle.text.specs.Word.{same, starts_with}
use Rattle.ident.specs.declared.parties.Allowed.{Allowed}
use Rattle.ident.specs.declared.parties.Identifier.{Identifier}
use Rattle.ident.specs.declared.parties.Identifier.TheVariants.{Intc, Nore, Lei, Ccpt, Concat, Nidn, Mic, Algo, Malformed}
use Rattle.ident.specs.declared.parties.Party.{Party}
use Rattle.ident.specs.Codes.{lei_shaped, mic_shaped}
use Rattle.ident.specs.Person.{concat_shaped, number_shaped}

-- 7, 16: INTC, LEI:, CCPT:, CONCAT:, NIDN:, MIC:
abbrev pub allowed7 : Allowed
allowed7 = record { intc = true; nore = false; lei = true; ccpt = true; concat = true; nidn = true; mic = true; algo = false; shaped = false }

-- 12, 21: the same without INTC and MIC
abbrev pub allowed12 : Allowed
allowed12 = record { intc = false; nore = false; lei = true; ccpt = true; concat = true; nidn = true; mic = false; algo = false; shaped = false }

-- 57: CCPT, CONCAT, NIDN, ALGO:; the person shape must also hold
abbrev pub allowed57 : Allowed
allowed57 = record { intc = false; nore = false; lei = false; ccpt = true; concat = true; nidn = true; mic = false; algo = true; shaped = true }

-- 59 also NORE
abbrev pub allowed59 : Allowed
allowed59 = record { intc = false; nore = true; lei = false; ccpt = true; concat = true; nidn = true; mic = false; algo = true; shaped = true }

-- the kind that a cell's first word names, with the place after its colon
unfoldable pub named : List ℕ → Identifier
named s =
    cond (same (ascii "INTC") s) Intc
    (cond (same (ascii "NORE") s) Nore
    (cond (starts_with (ascii "LEI:") s) (Lei 4)
    (cond (starts_with (ascii "CCPT:") s) (Ccpt 5)
    (cond (starts_with (ascii "CONCAT:") s) (Concat 7)
    (cond (starts_with (ascii "NIDN:") s) (Nidn 5)
    (cond (starts_with (ascii "MIC:") s) (Mic 4)
    (cond (starts_with (ascii "ALGO:") s) (Algo 5)
    Malformed)))))))

-- the paper's word for each kind
abbrev pub word_of : Identifier → List ℕ
word_of Intc = ascii "INTC"
word_of Nore = ascii "NORE"
word_of (Lei at) = ascii "LEI:"
word_of (Ccpt at) = ascii "CCPT:"
word_of (Concat at) = ascii "CONCAT:"
word_of (Nidn at) = ascii "NIDN:"
word_of (Mic at) = ascii "MIC:"
word_of (Algo at) = ascii "ALGO:"
word_of Malformed = []

-- the cell's kinds have it
abbrev pub allows : Allowed → Identifier → Bool
allows a Intc = a.intc
allows a Nore = a.nore
allows a (Lei at) = a.lei
allows a (Ccpt at) = a.ccpt
allows a (Concat at) = a.concat
allows a (Nidn at) = a.nidn
allows a (Mic at) = a.mic
allows a (Algo at) = a.algo
allows a Malformed = false

-- what follows the colon, as a cell of its own
abbrev pub part_of : Identifier → List ℕ → List ℕ
part_of Intc s = []
part_of Nore s = []
part_of (Lei at) s = drop at s
part_of (Ccpt at) s = drop at s
part_of (Concat at) s = drop at s
part_of (Nidn at) s = drop at s
part_of (Mic at) s = drop at s
part_of (Algo at) s = drop at s
part_of Malformed s = []

-- that part is well formed: LEI, MIC, ALGO 1 to 50 of a-z A-Z 0-9, the rest 1 to 35 printable ASCII
abbrev pub part_right : Identifier → List ℕ → Bool
part_right Intc part = true
part_right Nore part = true
part_right (Lei at) part = lei_shaped part
part_right (Ccpt at) part = run_of Printable 1 35 part
part_right (Concat at) part = run_of Printable 1 35 part
part_right (Nidn at) part = run_of Printable 1 35 part
part_right (Mic at) part = mic_shaped part
part_right (Algo at) part = run_of Alphanumeric 1 50 part
part_right Malformed part = false

abbrev pub is_person : Identifier → Bool
is_person Intc = false
is_person Nore = false
is_person (Lei at) = false
is_person (Ccpt at) = true
is_person (Concat at) = true
is_person (Nidn at) = true
is_person (Mic at) = false
is_person (Algo at) = false
is_person Malformed = false

-- the person shape; none but a person has it
abbrev pub person_shaped : Identifier → List ℕ → Bool
person_shaped Intc part = false
person_shaped Nore part = false
person_shaped (Lei at) part = false
person_shaped (Ccpt at) part = number_shaped part
person_shaped (Concat at) part = concat_shaped part
person_shaped (Nidn at) part = number_shaped part
person_shaped (Mic at) part = false
person_shaped (Algo at) part = false
person_shaped Malformed part = false

-- allowed, its part well formed and, where the cell wants that of a person, the person shape
unfoldable pub well_formed : Allowed → Identifier → List ℕ → Bool
well_formed a k part = allows a k && part_right k part && (not a.shaped || not (is_person k) || person_shaped k part)

-- anything else is malformed
unfoldable pub identifier_of : Allowed → List ℕ → Identifier
identifier_of a s = cond (well_formed a (named s) (part_of (named s) s)) (named s) Malformed

-- the identifier, and whether it has the person shape
unfoldable pub party_with : Identifier → List ℕ → Party
party_with k s = record { identifier = k; shaped = person_shaped k (part_of k s) }

abbrev pub party_of : Allowed → List ℕ → Party
party_of a s = party_with (identifier_of a s) s

-- the kinds that rules and forms ask for
abbrev pub is_lei : Identifier → Bool
is_lei Intc = false
is_lei Nore = false
is_lei (Lei at) = true
is_lei (Ccpt at) = false
is_lei (Concat at) = false
is_lei (Nidn at) = false
is_lei (Mic at) = false
is_lei (Algo at) = false
is_lei Malformed = false

abbrev pub is_mic : Identifier → Bool
is_mic Intc = false
is_mic Nore = false
is_mic (Lei at) = false
is_mic (Ccpt at) = false
is_mic (Concat at) = false
is_mic (Nidn at) = false
is_mic (Mic at) = true
is_mic (Algo at) = false
is_mic Malformed = false

abbrev pub is_concat : Identifier → Bool
is_concat Intc = false
is_concat Nore = false
is_concat (Lei at) = false
is_concat (Ccpt at) = false
is_concat (Concat at) = true
is_concat (Nidn at) = false
is_concat (Mic at) = false
is_concat (Algo at) = false
is_concat Malformed = false

abbrev pub is_nidn : Identifier → Bool
is_nidn Intc = false
is_nidn Nore = false
is_nidn (Lei at) = false
is_nidn (Ccpt at) = false
is_nidn (Concat at) = false
is_nidn (Nidn at) = true
is_nidn (Mic at) = false
is_nidn (Algo at) = false
is_nidn Malformed = false

abbrev pub is_malformed : Identifier → Bool
is_malformed Intc = false
is_malformed Nore = false
is_malformed (Lei at) = false
is_malformed (Ccpt at) = false
is_malformed (Concat at) = false
is_malformed (Nidn at) = false
is_malformed (Mic at) = false
is_malformed (Algo at) = false
is_malformed Malformed = true
