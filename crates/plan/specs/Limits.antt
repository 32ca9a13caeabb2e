-- The limits of a plan.
use Rattle.std.specs.Prelude.{ℕ}

abbrev pub most_pits : ℕ
most_pits = 512

abbrev pub most_ducts : ℕ
most_ducts = 1024

-- in centimetres
abbrev pub longest : ℕ
longest = 1000000

-- in millimetres
abbrev pub narrowest : ℕ
narrowest = 10

abbrev pub widest : ℕ
widest = 300
