-- What a measure fixes, and how it reads numbers as costs.
use Rattle.std.specs.Prelude.{◌≡◌, ℕ, ◌≤◌, min, Bool, true}

-- a measure: the cost of standing still, the greatest cost, the cost of a duct by its length and bore, the joining of two costs,
-- and whether one cost is no worse than another
pub record Meaning : Type 0 where
  pub still : ℕ
  pub greatest : ℕ
  pub duct : ℕ → ℕ → ℕ
  pub join : ℕ → ℕ → ℕ
  pub no_worse : ℕ → ℕ → Bool

-- the costs of a measure are the numbers up to its greatest
abbrev pub IsCost : Meaning → ℕ → Type 0
IsCost m a = a ≤ m.greatest

abbrev pub NoWorse : Meaning → ℕ → ℕ → Type 0
NoWorse m a b = m.no_worse a b ≡ true

-- the measure with each number that it takes or gives read as a cost: one above the greatest is the greatest
abbrev pub read : Meaning → Meaning
read m = record {
  still = min m.still m.greatest;
  greatest = m.greatest;
  duct = λ length bore. min (m.duct length bore) m.greatest;
  join = λ a b. min (m.join (min a m.greatest) (min b m.greatest)) m.greatest;
  no_worse = λ a b. m.no_worse (min a m.greatest) (min b m.greatest);
}
