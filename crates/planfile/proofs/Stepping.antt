-- The ducts of two arrays, one step on.
use Rattle.std.proofs.Common.{◌≡◌, ℕ, zero, suc, ◌+◌, ◌-◌, ◌*◌, ◌≤◌, List, ◌∷◌, length, take, drop, refl, ap, ◌∙◌, arith}
use Rattle.std.proofs.lemmas.List.{take_rest, get_or-drop, length-drop}
use Rattle.planfile.specs.Format.{duct_count, duct_at, ducts_from}
use Rattle.planfile.specs.Words.{two, four}

-- a number of a list is one of the part from byte n on
pub two_drop : (bs : List ℕ) (n j k : ℕ) → k ≡ n + j → two bs k ≡ two (drop n bs) j
two_drop bs n j k e =
    let a = get_or-drop n bs j 0 in
    let b = get_or-drop n bs (j + 1) 0 in
    let k1 : k + 1 ≡ n + (j + 1) = omega arith in
    rw (k1, e, a, b)

pub four_drop : (bs : List ℕ) (n j k : ℕ) → k ≡ n + j → four bs k ≡ four (drop n bs) j
four_drop bs n j k e =
    let a = get_or-drop n bs j 0 in
    let b = get_or-drop n bs (j + 1) 0 in
    let c = get_or-drop n bs (j + 2) 0 in
    let d = get_or-drop n bs (j + 3) 0 in
    let k1 : k + 1 ≡ n + (j + 1) = omega arith in
    let k2 : k + 2 ≡ n + (j + 2) = omega arith in
    let k3 : k + 3 ≡ n + (j + 3) = omega arith in
    rw (k1, k2, k3, e, a, b, c, d)

-- duct i + 1 is duct i of what is left after the first
duct_shift : (es ss : List ℕ) (i : ℕ) → duct_at es ss (i + 1) ≡ duct_at (drop 4 es) (drop 6 ss) i
duct_shift es ss i =
    let a = two_drop es 4 (4 * i) (4 * (i + 1)) (omega arith) in
    let b = two_drop es 4 (4 * i + 2) (4 * (i + 1) + 2) (omega arith) in
    let c = four_drop ss 6 (6 * i) (6 * (i + 1)) (omega arith) in
    let d = two_drop ss 6 (6 * i + 4) (6 * (i + 1) + 4) (omega arith) in
    rw (a, b, c, d)

ducts-shift : (es ss : List ℕ) (i n : ℕ) → ducts_from es ss (i + 1) n ≡ ducts_from (drop 4 es) (drop 6 ss) i n
ducts-shift es ss i zero = refl
ducts-shift es ss i (suc n) = ap (λ d. d ∷ ducts_from es ss (i + 1 + 1) n) (duct_shift es ss i) ∙ ap (λ ds. duct_at (drop 4 es) (drop 6 ss) i ∷ ds) (ducts-shift es ss (i + 1) n)

-- the first duct, and those of what is left after it
pub ducts-more : (es ss : List ℕ) (n : ℕ) → ducts_from es ss 0 (suc n) ≡ duct_at es ss 0 ∷ ducts_from (drop 4 es) (drop 6 ss) 0 n
ducts-more es ss n = ap (λ ds. duct_at es ss 0 ∷ ds) (ducts-shift es ss 0 n)

-- a step gives the first duct and leaves those after it
pub ducts-step :
    (es ss : List ℕ) → 4 ≤ length es
    → ducts_from es ss 0 (duct_count es)
    ≡ duct_at es ss 0 ∷ ducts_from (take (length es - 4) (drop 4 es)) (take (length ss - 6) (drop 6 ss)) 0 (duct_count (take (length es - 4) (drop 4 es)))
ducts-step es ss h =
    let left = length-drop 4 es in
    let e : duct_count es ≡ suc (duct_count (drop 4 es)) = omega arith in
    rw (take_rest es 4, take_rest ss 6, e) (ducts-more es ss (duct_count (drop 4 es)))
