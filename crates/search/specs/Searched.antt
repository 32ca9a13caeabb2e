-- What a table holds after a search, and what it answers.
use Rattle.std.specs.Prelude.{◌≡◌, ℕ, Bool, List, ◌++◌, length, take, drop, Some, None, Ok, Err, Option, Result, nat_le, nat_lt}
use Rattle.measure.specs.Meaning.{Meaning}
use Rattle.plan.specs.Edits.{Verdict, asks, and_then}
use Rattle.plan.specs.Plans.{PlanSpec}
use Rattle.plan.specs.Fields.{plan_of}
use Rattle.plan.specs.Refusals.{Told, plain}
use Rattle.ways.specs.Best.{BestOf, Best, Written, WrittenWay}
use Rattle.ways.specs.Rows.{best_cost}
use Rattle.search.specs.declared.indexed.IndexedPlan.{IndexedPlan}
use Rattle.search.specs.declared.marks.Mark.{Mark}
use Rattle.search.specs.declared.table.Table.{Table}
use Rattle.search.specs.Allowed.{WayThrough, best_through, AllAllowed}
use Rattle.search.specs.Marks.{at, is_settled, cost_at, route, Linked, Brief}

-- the plan that is indexed
abbrev pub plan_in : IndexedPlan → PlanSpec
plan_in x = plan_of x.plan

-- the marks that a table holds: the first `pits` of its places
abbrev pub marks_of : Table → List Mark
marks_of t = take t.pits t.marks

-- the marks have the best costs and ways of the whole plan p to the pit b
pub record SearchedWhole (m : Meaning) (p : PlanSpec) (b : ℕ) (ms : List Mark) : Type 0 where
  -- the cost from each pit is the best cost from it to b, None where there is no way
  pub computed : (v : ℕ) → cost_at ms v ≡ best_cost m p v b
  pub best : (v : ℕ) → Best m p v b (cost_at ms v)
  -- where there is one, following the next pits gives a written way of that cost
  pub written : (v c : ℕ) → cost_at ms v ≡ Some c → WrittenWay m p v b c (route ms v)

-- the marks of a search of the plan p to the pit b through allowed pits
pub record Searched (m : Meaning) (al : List Bool) (p : PlanSpec) (b : ℕ) (ms : List Mark) : Type 0 where
  -- a mark for each pit
  pub places : length ms ≡ p.pits
  -- the cost from each pit is the best cost of the ways from it to b through allowed pits, None where there is none
  pub computed : (v : ℕ) → cost_at ms v ≡ best_through m al p v b
  pub best : (v : ℕ) → BestOf m p (WayThrough al p v b) (cost_at ms v)
  -- where there is one, following the next pits gives such a way, of that cost and with no pit twice
  pub written : (v c : ℕ) → cost_at ms v ≡ Some c → Written m p (WayThrough al p v b) c (route ms v)
  -- where every pit is allowed, these are the plan's own costs and ways
  pub whole : AllAllowed al p → SearchedWhole m p b ms

-- the marks of a search, with what lets a way be read off them
pub record Filled (m : Meaning) (al : List Bool) (p : PlanSpec) (b : ℕ) (ms : List Mark) : Type 0 where
  pub searched : Searched m al p b ms
  pub linked : Linked ms
  pub brief : Brief ms

-- question 11 on the pit that a search goes to
abbrev pub check_goal : PlanSpec → ℕ → Verdict
check_goal p goal = asks (nat_lt goal p.pits) (plain 11)

-- 13 where there is no cost
abbrev pub or_no_way : Option ℕ → Result ℕ Told
or_no_way None = Err (plain 13)
or_no_way (Some c) = Ok c

-- questions 11 and 13 on the cost from a pit
abbrev pub cost_in : List Mark → ℕ → Result ℕ Told
cost_in ms v = and_then (asks (nat_lt v (length ms)) (plain 11)) (or_no_way (cost_at ms v))

-- questions 11, 12 and 13 on the way from a pit, for a list of so many places; it gives the number of its pits
abbrev pub way_in : List Mark → ℕ → ℕ → Result ℕ Told
way_in ms v places =
    and_then (asks (nat_lt v (length ms)) (plain 11))
    (and_then (asks (nat_le (length ms) places) (plain 12))
    (and_then (asks (is_settled (at ms v)) (plain 13))
    (Ok (length (route ms v)))))

-- the list after a way was written at its front; a refusal writes nothing
abbrev pub wrote_way : Result ℕ Told → List ℕ → List ℕ → List ℕ
wrote_way (Ok n) way list = way ++ drop n list
wrote_way (Err e) way list = list
