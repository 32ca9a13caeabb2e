-- One trial after the other.
use Rattle.std.specs.Prelude.{◌≡◌, List, Option, Some, None, ℕ}
use Rattle.trial_parts.specs.declared.count.Count.{Count}

-- the next trial, by what a trial gives: its count, and the bytes that it leaves; where there is no whole trial, the bytes stay
abbrev pub NextTrial : (List ℕ → Option Count → List ℕ → Type 0) → List ℕ → Option Count → List ℕ → Type 0
NextTrial gives old None new = ((after : List ℕ) × gives old None after) × (new ≡ old)
NextTrial gives old (Some count) new = gives old (Some count) new
