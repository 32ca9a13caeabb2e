-- Numbers in bytes, the low byte first.
use Rattle.std.specs.Prelude.{ℕ, ◌+◌, ◌*◌, ◌/◌, ◌%◌, List, [], ◌∷◌, ◌++◌, length, take, drop, slice_index}

-- the number in the two bytes from i on
abbrev pub two : List ℕ → ℕ → ℕ
two bs i = slice_index bs i + slice_index bs (i + 1) * 256

-- the number in the four bytes from i on
abbrev pub four : List ℕ → ℕ → ℕ
four bs i = slice_index bs i + slice_index bs (i + 1) * 256 + slice_index bs (i + 2) * 65536 + slice_index bs (i + 3) * 16777216

-- the two bytes of a number below 2 ^ 16
abbrev pub two_of : ℕ → List ℕ
two_of n = (n % 256) ∷ (n / 256 % 256) ∷ []

-- the four bytes of a number below 2 ^ 32
abbrev pub four_of : ℕ → List ℕ
four_of n = (n % 256) ∷ (n / 256 % 256) ∷ (n / 65536 % 256) ∷ (n / 16777216 % 256) ∷ []

-- bs with the bytes of new from i on
abbrev pub over : List ℕ → ℕ → List ℕ → List ℕ
over bs i new = take i bs ++ new ++ drop (i + length new) bs
