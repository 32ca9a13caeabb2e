-- What is read from the front of an input.
use Rattle.std.specs.Prelude.{◌≡◌, ℕ, ◌<◌, ◌≤◌, List, length, drop, Option, Some, None}

-- n bytes are read, and give what P says; where there are fewer, nothing is read
abbrev pub Reads : {X : Type 0} → ℕ → List ℕ → List ℕ → Option X → (X → Type 0) → Type 0
Reads n old new (Some x) P = (n ≤ length old) × P x × (new ≡ drop n old)
Reads n old new None P = (length old < n) × (new ≡ old)
