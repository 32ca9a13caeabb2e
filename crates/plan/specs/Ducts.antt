-- What a duct must be, which pits it joins, and what the ducts of a plan keep.
use Rattle.std.specs.Prelude.{codes, decimal, ◌++◌, ℕ, Bool, true, not, ◌&&◌, ◌||◌, List, [], ◌∷◌, is_some, filter, Option, ◌==◌, nat_le, nat_lt}
use Rattle.std.specs.List.{find}
use Rattle.plan.specs.declared.ducts.Duct.{Duct}
use Rattle.plan.specs.Limits.{longest, narrowest, widest}

-- the ends rise, and both are pits of a plan of so many pits
abbrev pub ends_keep : ℕ → ℕ → ℕ → Bool
ends_keep pits a b = nat_lt a b && nat_lt b pits

abbrev pub length_keeps : ℕ → Bool
length_keeps l = nat_le 1 l && nat_le l longest

abbrev pub bore_keeps : ℕ → Bool
bore_keeps b = nat_le narrowest b && nat_le b widest

abbrev pub duct_keeps : ℕ → Duct → Bool
duct_keeps pits d = ends_keep pits d.first d.second && (length_keeps d.length && bore_keeps d.bore)

-- d joins the pits a and b, either way round
abbrev pub joins : Duct → ℕ → ℕ → Bool
joins d a b = (d.first == a && d.second == b) || (d.first == b && d.second == a)

-- the duct between the pits a and b, if there is one
unfoldable pub between : List Duct → ℕ → ℕ → Option Duct
between ds a b = find (λ d. joins d a b) ds

-- the ducts that do not join a and b, in their order
unfoldable pub others : List Duct → ℕ → ℕ → List Duct
others ds a b = filter (λ d. not (joins d a b)) ds

-- each duct is within the limits, and no two join the same two pits
unfoldable pub ducts_keep : ℕ → List Duct → Bool
unfolding between
ducts_keep pits [] = true
ducts_keep pits (d ∷ ds) = duct_keeps pits d && (not (is_some (between ds d.first d.second)) && ducts_keep pits ds)

-- a duct as it is printed
abbrev pub duct_text : Duct → List ℕ
duct_text d =
    decimal d.first ++ codes "-" ++ decimal d.second ++ codes ", " ++ decimal d.length ++ codes " cm, " ++ decimal d.bore ++ codes " mm"
