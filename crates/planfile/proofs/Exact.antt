-- An accepted file is the file of its plan, byte by byte.
use Rattle.std.proofs.Common.{◌≡◌, ℕ, zero, suc, ◌+◌, ◌*◌, ◌<◌, ◌≤◌, lit<, List, [], ◌∷◌, ◌++◌, length, get_or, take, drop, Ok, Err, Result, sym, refl, ap, ◌∙◌, arith, w8, Fits, MatchResult}
use Rattle.std.specs.List.{flat_map}
use Rattle.std.proofs.lemmas.List.FromFn.{length-map-range_with_len}
use Rattle.std.proofs.lemmas.List.{append_assoc, append-nil, drop-drop, take-append-drop, get_or-drop, length-take-le, length-drop, nil_from_length}
use Rattle.std.proofs.lemmas.Nat.{le_bytes_2, le_bytes_4}
use Rattle.plan.specs.Edits.{check_duct, check_repeat}
use Rattle.plan.specs.Plans.{PlanSpec}
use Rattle.plan.specs.Fields.{plan_of, heard_plan}
use Rattle.plan.specs.Refusals.{Told}
use Rattle.plan.specs.declared.plans.Plan.{Plan}
use Rattle.plan.specs.declared.ducts.Duct.{Duct}
use Rattle.plan.specs.declared.refusals.Refusal.{Refusal}
use Rattle.plan.proofs.Asking.{not_both, both_yes}
use Rattle.planfile.specs.Files.{FileOf, NoFile}
use Rattle.planfile.proofs.Stepping.{two_drop, ducts-more}
use Rattle.planfile.proofs.Trip.{round_trip}
use Rattle.planfile.specs.Format.{file_size, ends_of, sizes_of, encode, duct_at, ducts_from, ducts_in}
use Rattle.planfile.specs.Loading.{check_sizes, admit, as_plan, decode}
use Rattle.planfile.specs.Words.{two, four, two_of, four_of}
use Rattle.planfile.proofs.Admitting.{sized}

-- every number of the list is a byte
abbrev pub Bytes : List ℕ → Type 0
Bytes xs = (i : ℕ) → get_or xs i 0 < 256

bytes-take : (n : ℕ) (xs : List ℕ) → Bytes xs → Bytes (take n xs)
bytes-take zero xs fit i = lit< tt
bytes-take (suc n) [] fit i = lit< tt
bytes-take (suc n) (x ∷ xs) fit zero = fit 0
bytes-take (suc n) (x ∷ xs) fit (suc i) = bytes-take n xs (λ j. fit (suc j)) i

bytes-drop : (n : ℕ) (xs : List ℕ) → Bytes xs → Bytes (drop n xs)
bytes-drop n xs fit i = rw get_or-drop (fit (n + i))

-- the two bytes at the front, and the four, and what comes after them
two_front : (xs : List ℕ) → Bytes xs → 2 ≤ length xs → two_of (two xs 0) ++ drop 2 xs ≡ xs
two_front [] fit h = absurd (omega arith)
two_front (a ∷ []) fit h = absurd (omega arith)
two_front (a ∷ b ∷ xs) fit h = ap (λ bs. bs ++ xs) (le_bytes_2 (a ∷ b ∷ []) _ refl (bytes-take 2 (a ∷ b ∷ xs) fit) refl)

four_front : (xs : List ℕ) → Bytes xs → 4 ≤ length xs → four_of (four xs 0) ++ drop 4 xs ≡ xs
four_front [] fit h = absurd (omega arith)
four_front (a ∷ []) fit h = absurd (omega arith)
four_front (a ∷ b ∷ []) fit h = absurd (omega arith)
four_front (a ∷ b ∷ c ∷ []) fit h = absurd (omega arith)
four_front (a ∷ b ∷ c ∷ d ∷ xs) fit h = ap (λ bs. bs ++ xs) (le_bytes_4 (a ∷ b ∷ c ∷ d ∷ []) _ refl (bytes-take 4 (a ∷ b ∷ c ∷ d ∷ xs) fit) refl)

-- the two bytes from n on
two_middle : (xs : List ℕ) (n m : ℕ) → Bytes xs → m ≡ n + 2 → m ≤ length xs → two_of (two xs n) ++ drop m xs ≡ drop n xs
two_middle xs n m fit e h =
    let left = length-drop n xs in
    let k : n + 0 ≡ n = omega arith in
    ap (λ j. two_of j ++ drop m xs) (two_drop xs n 0 n (sym k))
    ∙ ap (λ ys. two_of (two (drop n xs) 0) ++ ys) (ap (λ j. drop j xs) e ∙ sym (drop-drop 2 n xs))
    ∙ two_front (drop n xs) (bytes-drop n xs fit) (omega arith)

-- the bytes of the first duct in each array, and what comes after them
ends-front : (es ss : List ℕ) → Bytes es → 4 ≤ length es → ends_of (duct_at es ss 0) ++ drop 4 es ≡ es
ends-front es ss fit h =
    append_assoc (two_of (two es 0)) (two_of (two es 2)) (drop 4 es)
    ∙ ap (λ ys. two_of (two es 0) ++ ys) (two_middle es 2 4 fit refl h)
    ∙ two_front es fit (omega arith)

sizes_front : (es ss : List ℕ) → Bytes ss → 6 ≤ length ss → sizes_of (duct_at es ss 0) ++ drop 6 ss ≡ ss
sizes_front es ss fit h =
    append_assoc (four_of (four ss 0)) (two_of (two ss 4)) (drop 6 ss)
    ∙ ap (λ ys. four_of (four ss 0) ++ ys) (two_middle ss 4 6 fit refl h)
    ∙ four_front ss fit (omega arith)

-- the two arrays of n ducts, from what was read of them
arrays_again :
    (es ss : List ℕ) (n : ℕ) → Bytes es → Bytes ss → length es ≡ 4 * n → length ss ≡ 6 * n
    → (flat_map ends_of (ducts_from es ss 0 n) ≡ es) × (flat_map sizes_of (ducts_from es ss 0 n) ≡ ss)
arrays_again es ss zero fe fs le ls = (sym (nil_from_length es (omega arith)), sym (nil_from_length ss (omega arith)))
arrays_again es ss (suc n) fe fs le ls =
    let d : Duct = duct_at es ss 0 in
    let a = length-drop 4 es in
    let b = length-drop 6 ss in
    let rest = arrays_again (drop 4 es) (drop 6 ss) n (bytes-drop 4 es fe) (bytes-drop 6 ss fs) (omega arith) (omega arith) in (
      ap (flat_map ends_of) (ducts-more es ss n) ∙ ap (λ ys. ends_of d ++ ys) rest.0 ∙ ends-front es ss fe (omega arith),
      ap (flat_map sizes_of) (ducts-more es ss n) ∙ ap (λ ys. sizes_of d ++ ys) rest.1 ∙ sizes_front es ss fs (omega arith),
    )

-- ducts that all got a yes are the ducts that were read
admit-gives : (pits : ℕ) (earlier ds xs : List Duct) → admit pits earlier ds ≡ Ok xs → xs ≡ earlier ++ ds
admit-gives pits earlier [] xs h = let e : xs ≡ earlier = cc in e ∙ sym (append-nil earlier)
admit-gives pits earlier (d ∷ ds) xs h =
    let checked = both_yes (check_duct pits (length earlier) d) _ xs h in
    let new = both_yes (check_repeat earlier (length earlier) d) _ xs checked.1 in
    admit-gives pits (earlier ++ d ∷ []) ds xs new.1 ∙ append_assoc earlier (d ∷ []) ds

as_plan_lem : (n : ℕ) (r : Result (List Duct) Told) (p : PlanSpec) → as_plan n r ≡ Ok p → (p.pits ≡ n) × (r ≡ Ok p.ducts)
as_plan_lem n (Ok ds) p h =
    let e : record { pits = n; ducts = ds } ≡ p = cc in
    (ap (λ q. q.pits) (sym e), ap (λ q. Ok q.ducts) e)
as_plan_lem n (Err e) p h = not_both h

-- the file again, from what was read of it
pub file_again :
    (bs : List ℕ) (n : ℕ) → Bytes bs → length bs ≡ file_size n → n ≡ two bs 2
    → two_of (two bs 0) ++ two_of n ++ flat_map ends_of (ducts_in bs n) ++ flat_map sizes_of (ducts_in bs n) ≡ bs
file_again bs n fit exact count =
    let front : List ℕ = two_of (two bs 0) ++ two_of n in
    let es : List ℕ = take (4 * n) (drop 4 bs) in
    let ss : List ℕ = drop (4 + 4 * n) bs in
    let rest : List ℕ = drop 4 bs in
    let left = length-drop 4 bs in
    let arrays =
    arrays_again es ss n (bytes-take (4 * n) rest (bytes-drop 4 bs fit)) (bytes-drop (4 + 4 * n) bs fit) (length-take-le (4 * n) rest (omega arith)) (length-drop (4 + 4 * n) bs ∙ omega arith) in
    ap (λ xs. front ++ xs ++ flat_map sizes_of (ducts_in bs n)) arrays.0
    ∙ ap (λ xs. front ++ es ++ xs) arrays.1
    ∙ ap (λ xs. front ++ xs) (ap (λ xs. es ++ xs) (sym (drop-drop (4 * n) 4 bs)) ∙ take-append-drop (4 * n) rest)
    ∙ ap (λ k. two_of (two bs 0) ++ two_of k ++ rest) count
    ∙ ap (λ xs. two_of (two bs 0) ++ xs) (two_middle bs 2 4 fit refl (omega arith))
    ∙ two_front bs fit (omega arith)

pub accepted_is_file : (bs : List ℕ) (p : PlanSpec) → Bytes bs → decode bs ≡ Ok p → (1 ≤ p.pits) × (encode p ≡ bs)
accepted_is_file bs p fit h =
    let sizes = both_yes (check_sizes bs) _ p h in
    let s = sized bs sizes.0 in
    let some = s.some_pits in
    let n : ℕ = two bs 2 in
    let plan = as_plan_lem (two bs 0) (admit (two bs 0) [] (ducts_in bs n)) p sizes.1 in
    let pits = plan.0 in
    let ducts : p.ducts ≡ ducts_in bs n = admit-gives (two bs 0) [] (ducts_in bs n) p.ducts plan.1 in
    let long : length p.ducts ≡ n = ap length ducts ∙ length-map-range_with_len (duct_at _ _) 0 n in (
      omega arith,
      ap (λ k. two_of k ++ two_of (length p.ducts) ++ flat_map ends_of p.ducts ++ flat_map sizes_of p.ducts) pits
          ∙ ap (λ k. two_of (two bs 0) ++ two_of k ++ flat_map ends_of p.ducts ++ flat_map sizes_of p.ducts) long
          ∙ ap (λ ds. two_of (two bs 0) ++ two_of n ++ flat_map ends_of ds ++ flat_map sizes_of ds) ducts
          ∙ file_again bs n fit s.exact refl,
    )

-- every answer, by the file alone
pub judged :
    (bs : List ℕ) → ((i : ℕ) → Fits w8 (get_or bs i 0)) → (r : Result Plan Refusal) → heard_plan r ≡ decode bs → MatchResult r (λ p. FileOf (plan_of p) bs) (λ _. NoFile bs)
judged bs fit (Ok p) h =
    let f = accepted_is_file bs (plan_of p) (λ i. (fit i).fits) (sym h) in
    record { some = f.0; rules = p.rules; bytes = f.1 }
judged bs fit (Err e) h = λ p f.
    not_both (h ∙ ap decode (sym f.bytes) ∙ round_trip p f.some f.rules)
