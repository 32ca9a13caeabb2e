-- What load makes of a file: each question in its order, and the first no refuses.
use Rattle.std.specs.Prelude.{ℕ, ◌&&◌, List, [], ◌∷◌, ◌++◌, length, Ok, Err, Result, ◌==◌, nat_le}
use Rattle.plan.specs.Edits.{Verdict, asks, and_then, check_duct, check_repeat}
use Rattle.plan.specs.Limits.{most_pits, most_ducts}
use Rattle.plan.specs.Plans.{PlanSpec}
use Rattle.plan.specs.Refusals.{Told, plain}
use Rattle.plan.specs.declared.ducts.Duct.{Duct}
use Rattle.planfile.specs.declared.load.Sizes.{Sizes}
use Rattle.planfile.specs.Words.{two}
use Rattle.planfile.specs.Format.{file_size, ducts_in}

-- questions 1 to 4, on the file as a whole: 4 bytes, pit count, duct count, exact size
abbrev pub check_sizes : List ℕ → Verdict
check_sizes bs =
    and_then (asks (nat_le 4 (length bs)) (plain 1))
    (and_then (asks (nat_le 1 (two bs 0) && nat_le (two bs 0) most_pits) (plain 2))
    (and_then (asks (nat_le (two bs 2) most_ducts) (plain 3))
    (asks (length bs == file_size (two bs 2)) (plain 4))))

-- the sizes that a file has first: pit count, duct count
abbrev pub sizes_in : List ℕ → Sizes
sizes_in bs = record { pits = two bs 0; count = two bs 2 }

-- questions 5 to 8 on each duct in turn, after the ducts of `earlier`: ends, length, bore, repeat
abbrev pub admit : ℕ → List Duct → List Duct → Result (List Duct) Told
admit pits earlier [] = Ok earlier
admit pits earlier (d ∷ ds) =
    and_then (check_duct pits (length earlier) d)
    (and_then (check_repeat earlier (length earlier) d) (admit pits (earlier ++ d ∷ []) ds))

abbrev pub as_plan : ℕ → Result (List Duct) Told → Result PlanSpec Told
as_plan pits (Ok ds) = Ok (record { pits = pits; ducts = ds })
as_plan pits (Err e) = Err e

-- the plan of a file's bytes, or why the file is refused
abbrev pub decode : List ℕ → Result PlanSpec Told
decode bs = and_then (check_sizes bs) (as_plan (two bs 0) (admit (two bs 0) [] (ducts_in bs (two bs 2))))

-- what a load answers, and the plan that stands after it
pub record Loaded : Type 0 where
  pub answer : Verdict
  pub plan : PlanSpec

abbrev pub loaded : Result PlanSpec Told → PlanSpec → Loaded
loaded (Ok q) p = record { answer = Ok tt; plan = q }
loaded (Err e) p = record { answer = Err e; plan = p }

-- a load of bytes where the plan p stands
abbrev pub load_on : List ℕ → PlanSpec → Loaded
load_on bs p = loaded (decode bs) p
