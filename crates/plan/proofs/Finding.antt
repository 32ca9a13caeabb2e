-- One step of the look for the duct between two pits.
use Rattle.std.proofs.Common.{◌≡◌, ℕ, ◌+◌, ◌<◌, ◌≤◌, true, false, cond, List, length, get_or, drop, Some, None, ap, ◌∙◌}
use Rattle.std.proofs.lemmas.List.{at_drop_more, at_drop_all}
use Rattle.plan.specs.declared.ducts.Duct.{Duct}
use Rattle.plan.specs.Ducts.{joins, between}

module _ (ds : List Duct) (a b i : ℕ) (z : Duct) (within : i < length ds) where
  step : between (drop i ds) a b ≡ cond (joins (get_or ds i z) a b) (Some (get_or ds i z)) (between (drop (i + 1) ds) a b)
  unfolding between
  step = at_drop_more (λ xs. between xs a b) ds i z within

  pub between-here : joins (get_or ds i z) a b ≡ true → between (drop i ds) a b ≡ Some (get_or ds i z)
  between-here e = step ∙ ap (λ t. cond t (Some (get_or ds i z)) (between (drop (i + 1) ds) a b)) e

  pub between-on : joins (get_or ds i z) a b ≡ false → between (drop i ds) a b ≡ between (drop (i + 1) ds) a b
  between-on e = step ∙ ap (λ t. cond t (Some (get_or ds i z)) (between (drop (i + 1) ds) a b)) e

pub between_none : (ds : List Duct) (a b i : ℕ) → length ds ≤ i → between (drop i ds) a b ≡ None
unfolding between
between_none ds a b i h = at_drop_all (λ xs. between xs a b) ds i h
