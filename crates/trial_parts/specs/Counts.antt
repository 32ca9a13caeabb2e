-- How a count is printed.
use Rattle.std.specs.Prelude.{ℕ, List, ◌++◌, codes, decimal}

abbrev pub count_text : ℕ → ℕ → List ℕ
count_text tried agreed = decimal tried ++ codes " tried, " ++ decimal agreed ++ codes " agree"
