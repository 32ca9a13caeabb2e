-- What save answers, and what the buffer holds after it.
use Rattle.std.specs.Prelude.{ℕ, List, ◌++◌, length, drop, Ok, Err, Result, nat_le}
use Rattle.plan.specs.Edits.{asks, and_then}
use Rattle.plan.specs.Plans.{PlanSpec}
use Rattle.plan.specs.Refusals.{Told, plain}
use Rattle.planfile.specs.Format.{file_size}

-- questions 14 and 15 of a save into a buffer of so many bytes, then the file's size
abbrev pub save_in : PlanSpec → ℕ → Result ℕ Told
save_in p room =
    and_then (asks (nat_le 1 p.pits) (plain 14))
    (and_then (asks (nat_le (file_size (length p.ducts)) room) (plain 15))
    (Ok (file_size (length p.ducts))))

-- the buffer afterwards: the file at its front and the later bytes as they were, or nothing written
abbrev pub written : Result ℕ Told → List ℕ → List ℕ → List ℕ
written (Ok n) file was = file ++ drop n was
written (Err e) file was = was
