-- A list of different numbers below n has at most n of them.
use Rattle.std.proofs.Common.{◌≡◌, ℕ, zero, suc, ◌<◌, ◌≤◌, Bool, true, false, cond, eqb, List, [], ◌∷◌, length, refl, arith}
use Rattle.std.specs.List.{AllByRecursion}
use Rattle.std.proofs.lemmas.Bool.{eqb-true, eqb-false, or_parts, or_from}
use Rattle.ways.specs.Ways.{has, Simple}

abbrev without : ℕ → List ℕ → List ℕ
without n [] = []
without n (x ∷ xs) = cond (eqb n x) (without n xs) (x ∷ without n xs)

has-without : (n y : ℕ) (xs : List ℕ) → has y xs ≡ false → has y (without n xs) ≡ false
has-without n y [] h = refl
has-without n y (x ∷ xs) h =
    let (e, l) = or_parts (eqb y x) (has y xs) h in
    let ih = has-without n y xs l in
    elim (eqb n x) as (λ t. has y (cond t (without n xs) (x ∷ without n xs)) ≡ false) [ true ↦ ih | false ↦ or_from (eqb y x) (has y (without n xs)) e ih ]

simple-without : (n : ℕ) (xs : List ℕ) → Simple xs → Simple (without n xs)
simple-without n [] s = tt
simple-without n (x ∷ xs) s =
    let ih = simple-without n xs s.1 in
    elim (eqb n x) as (λ t. Simple (cond t (without n xs) (x ∷ without n xs))) [ true ↦ ih | false ↦ (has-without n x xs s.0, ih) ]

-- nothing goes where n is not
without_none : (n : ℕ) (xs : List ℕ) → has n xs ≡ false → without n xs ≡ xs
without_none n [] h = refl
without_none n (x ∷ xs) h =
    let (e, l) = or_parts (eqb n x) (has n xs) h in
    rw (e, without_none n xs l)

-- at most one goes
length_without : (n : ℕ) (xs : List ℕ) → Simple xs → length xs ≤ suc (length (without n xs))
length_without n [] s = omega arith
length_without n (x ∷ xs) s = go (eqb n x) refl (length_without n xs s.1)
  where
    go : (t : Bool) → eqb n x ≡ t → length xs ≤ suc (length (without n xs)) → suc (length xs) ≤ suc (length (cond t (without n xs) (x ∷ without n xs)))
    go true e ih = rw (without_none n xs (rw (eqb-true n x e) s.0)) (omega arith)
    go false e ih = omega arith

below-without : (n : ℕ) (xs : List ℕ) → AllByRecursion (λ x. x < suc n) xs → AllByRecursion (λ x. x < n) (without n xs)
below-without n [] s = tt
below-without n (x ∷ xs) s = go (eqb n x) refl (below-without n xs s.1)
  where
    go : (t : Bool) → eqb n x ≡ t → AllByRecursion (λ x. x < n) (without n xs) → AllByRecursion (λ x. x < n) (cond t (without n xs) (x ∷ without n xs))
    go true e ih = ih
    go false e ih = (let ne = eqb-false n x e in omega arith, ih)

pub pigeonhole : (n : ℕ) (xs : List ℕ) → Simple xs → AllByRecursion (λ x. x < n) xs → length xs ≤ n
pigeonhole zero [] s a = omega arith
pigeonhole zero (x ∷ xs) s a = omega arith
pigeonhole (suc n) xs s a =
    let ih = pigeonhole n (without n xs) (simple-without n xs s) (below-without n xs a) in
    omega (arith, length_without n xs s)
