-- What lay and lift make of a plan: each question in its order, and the first no refuses.
use Rattle.std.specs.Prelude.{◌≡◌, ℕ, Bool, true, cond, not, List, [], ◌∷◌, ◌++◌, length, is_some, Ok, Err, Result, nat_lt}
use Rattle.plan.specs.declared.ducts.Duct.{Duct}
use Rattle.plan.specs.Limits.{most_ducts}
use Rattle.plan.specs.Ducts.{joins, ends_keep, length_keeps, bore_keeps, between, others}
use Rattle.plan.specs.Plans.{PlanSpec}
use Rattle.plan.specs.Refusals.{Told, plain, placed}

-- the answer yes, or a refusal
abbrev pub Verdict : Type 0
Verdict = Result (Unit {0}) Told

-- a question: yes, or the refusal
abbrev pub asks : Bool → Told → Verdict
asks b e = cond b (Ok tt) (Err e)

-- the next question, after a yes
abbrev pub and_then : {X : Type 0} → Verdict → Result X Told → Result X Told
and_then (Ok u) next = next
and_then (Err e) next = Err e

-- question 5, on two ends
abbrev pub check_ends : ℕ → ℕ → ℕ → ℕ → Verdict
check_ends pits place a b = asks (ends_keep pits a b) (placed 5 place)

-- questions 5 to 7, on one duct by itself: its ends, its length, its bore
abbrev pub check_duct : ℕ → ℕ → Duct → Verdict
check_duct pits place d =
    and_then (check_ends pits place d.first d.second)
    (and_then (asks (length_keeps d.length) (placed 6 place)) (asks (bore_keeps d.bore) (placed 7 place)))

-- question 8: none of the ducts joins the same two pits as d
abbrev pub check_repeat : List Duct → ℕ → Duct → Verdict
check_repeat ds place d = asks (not (is_some (between ds d.first d.second))) (placed 8 place)

-- the plan with a duct more, which comes last
abbrev pub with_last : PlanSpec → Duct → PlanSpec
with_last p d = record p { ducts = p.ducts ++ d ∷ [] }

-- the plan without the ducts that join the pits a and b; the others keep their order
abbrev pub without : PlanSpec → ℕ → ℕ → PlanSpec
without p a b = record p { ducts = others p.ducts a b }

-- a lay asks 5 to 8, then 3 for the grown list; the duct comes last
abbrev pub lay_on : PlanSpec → Duct → Result PlanSpec Told
lay_on p d =
    and_then (check_duct p.pits 0 d)
    (and_then (check_repeat p.ducts 0 d)
    (and_then (asks (nat_lt (length p.ducts) most_ducts) (plain 3))
    (Ok (with_last p d))))

-- a lift asks 5, then 10; the other ducts keep their order
abbrev pub lift_off : PlanSpec → ℕ → ℕ → Result PlanSpec Told
lift_off p a b =
    and_then (check_ends p.pits 0 a b)
    (and_then (asks (is_some (between p.ducts a b)) (plain 10))
    (Ok (without p a b)))

-- q is p without one duct, which joins the pits a and b; the others keep their order
pub record WithoutOne (p : PlanSpec) (a b : ℕ) (q : PlanSpec) : Type 0 where
  pub before : List Duct
  pub duct : Duct
  pub after : List Duct
  pub was : p.ducts ≡ before ++ duct ∷ after
  pub ends : joins duct a b ≡ true
  pub becomes : q.ducts ≡ before ++ after
  pub pits : q.pits ≡ p.pits
