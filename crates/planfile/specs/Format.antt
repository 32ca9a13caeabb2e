-- The file of a plan: pit count and duct count, 2 bytes each; the first array, of the ducts' ends, 4 bytes a duct;
-- the second array, of their sizes, 6 bytes a duct.
use Rattle.std.specs.Prelude.{ℕ, ◌+◌, ◌*◌, ◌/◌, List, ◌++◌, map, length, take, drop}
use Rattle.std.specs.List.{range_with_len, flat_map}
use Rattle.plan.specs.Plans.{PlanSpec}
use Rattle.plan.specs.declared.ducts.Duct.{Duct}
use Rattle.planfile.specs.Words.{two, four, two_of, four_of}

-- how many bytes the file of a plan with n ducts has
abbrev pub file_size : ℕ → ℕ
file_size n = 4 + 10 * n

-- the bytes of a duct in the first array: first end, second end
abbrev pub ends_of : Duct → List ℕ
ends_of d = two_of d.first ++ two_of d.second

-- the bytes of a duct in the second array: length, bore
abbrev pub sizes_of : Duct → List ℕ
sizes_of d = four_of d.length ++ two_of d.bore

-- the file of a plan
abbrev pub encode : PlanSpec → List ℕ
encode p = two_of p.pits ++ two_of (length p.ducts) ++ flat_map ends_of p.ducts ++ flat_map sizes_of p.ducts

-- how many ducts have their ends in a first array
abbrev pub duct_count : List ℕ → ℕ
duct_count ends = length ends / 4

-- duct i of the two arrays
abbrev pub duct_at : List ℕ → List ℕ → ℕ → Duct
duct_at ends sizes i =
    record { first = two ends (4 * i); second = two ends (4 * i + 2); length = four sizes (6 * i); bore = two sizes (6 * i + 4) }

-- n ducts of the two arrays, from duct i on
abbrev pub ducts_from : List ℕ → List ℕ → ℕ → ℕ → List Duct
ducts_from ends sizes i n = map (duct_at ends sizes) (range_with_len i n)

-- the n ducts of a file; the second array begins at byte 4 + 4 * n
abbrev pub ducts_in : List ℕ → ℕ → List Duct
ducts_in bs n = ducts_from (take (4 * n) (drop 4 bs)) (drop (4 + 4 * n) bs) 0 n
