-- The rules that every plan keeps, the blank one included.
use Rattle.std.specs.Prelude.{◌≡◌, ℕ, ◌<◌, ◌≤◌, ◌⊎◌, [], length, slice_index_or}
use Rattle.plan.specs.declared.ducts.Duct.{Duct}
use Rattle.plan.specs.Plans.{PlanSpec}

-- a duct of a plan of so many pits
pub record DuctRules (pits : ℕ) (d : Duct) : Type 0 where
  pub rising : d.first < d.second
  pub on_plan : d.second < pits
  pub length_least : 1 ≤ d.length
  pub length_most : d.length ≤ 1000000
  pub bore_least : 10 ≤ d.bore
  pub bore_most : d.bore ≤ 300

-- the two ducts join the same two pits
abbrev pub SamePits : Duct → Duct → Type 0
SamePits d e = ((d.first ≡ e.first) × (d.second ≡ e.second)) ⊎ ((d.first ≡ e.second) × (d.second ≡ e.first))

pub record Rules (p : PlanSpec) : Type 0 where
  pub few_pits : p.pits ≤ 512
  pub few_ducts : length p.ducts ≤ 1024
  -- a plan without pits is the blank plan
  pub blank : p.pits ≡ 0 → p.ducts ≡ []
  pub each : (i : ℕ) (z : Duct) → i < length p.ducts → DuctRules p.pits (slice_index_or p.ducts i z)
  pub apart : (i j : ℕ) (z : Duct) → i < j → j < length p.ducts → SamePits (slice_index_or p.ducts i z) (slice_index_or p.ducts j z) → ⊥
