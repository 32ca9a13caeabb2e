-- The two arrays of a file, written duct by duct, and the whole file.
use Rattle.std.proofs.Common.{◌≡◌, ℕ, ◌+◌, ◌*◌, ◌<◌, ◌≤◌, List, [], ◌∷◌, ◌++◌, length, get_or, take, drop, sym, refl, ap, ◌∙◌, mul-add, mul-le-mul_left, arith}
use Rattle.std.specs.List.{flat_map}
use Rattle.std.proofs.lemmas.List.{length-append, length-take-le, take_more, flat_map_more, append_assoc, drop-drop}
use Rattle.plan.specs.Plans.{PlanSpec}
use Rattle.plan.specs.declared.ducts.Duct.{Duct}
use Rattle.planfile.specs.Format.{file_size, ends_of, sizes_of, encode}
use Rattle.planfile.specs.Words.{over, two_of}
use Rattle.planfile.proofs.Placed.{over_more, over_whole}

-- an array of k bytes a duct
pub length-array : (f : Duct → List ℕ) (k : ℕ) → ((d : Duct) → length (f d) ≡ k) → (ds : List Duct) → length (flat_map f ds) ≡ k * length ds
length-array f k each [] = omega arith
length-array f k each (d ∷ ds) =
    let e = length-array f k each ds in
    let h = each d in
    let g = length-append (f d) (flat_map f ds) in
    let m = mul-add k 1 (length ds) in
    omega arith

pub length-ends : (ds : List Duct) → length (flat_map ends_of ds) ≡ 4 * length ds
length-ends = length-array ends_of 4 (λ d. refl)

pub length-sizes : (ds : List Duct) → length (flat_map sizes_of ds) ≡ 6 * length ds
length-sizes = length-array sizes_of 6 (λ d. refl)

-- one more duct of an array of k bytes a duct, in two parts a and b, by the bytes after each part
pub array_more :
    (a b : Duct → List ℕ) (k : ℕ) → ((ds : List Duct) → length (flat_map (λ d. a d ++ b d) ds) ≡ k * length ds)
    → (was o p q xs ys : List ℕ) (ds : List Duct) (at i n m : ℕ) (z : Duct) → i < length ds → at + k * length ds ≤ length was
    → n ≡ at + k * i → m ≡ n + length (a (get_or ds i z)) → m + length (b (get_or ds i z)) ≡ at + k * (i + 1)
    → o ≡ over was at (flat_map (λ d. a d ++ b d) (take i ds)) → xs ≡ a (get_or ds i z) → p ≡ over o n xs → ys ≡ b (get_or ds i z) → q ≡ over p m ys
    → q ≡ over was at (flat_map (λ d. a d ++ b d) (take (i + 1) ds))
array_more a b k whole was o p q xs ys ds at i n m z h room en em all eo ex ep ey eq =
    let x : Duct = get_or ds i z in
    let J : List ℕ = flat_map (λ d. a d ++ b d) (take i ds) in
    let lj : length J ≡ k * i = whole (take i ds) ∙ ap (λ j. k * j) (length-take-le i ds (omega arith)) in
    let len : length (J ++ a x) ≡ length J + length (a x) = length-append J (a x) in
    let fits : k * (i + 1) ≤ k * length ds = mul-le-mul_left k (omega arith) in
    let first : p ≡ over was at (J ++ a x) = over_more was o p J (a x) at n (omega arith) (omega arith) eo (ep ∙ ap (over o n) ex) in
    over_more was p q (J ++ a x) (b x) at m (omega arith) (omega arith) first (eq ∙ ap (over p m) ey)
    ∙ ap (over was at) (append_assoc J (a x) (b x) ∙ flat_map_more (λ d. a d ++ b d) [] (take i ds) x ∙ ap (flat_map (λ d. a d ++ b d)) (sym (take_more ds i z h)))

pub length-encode : (p : PlanSpec) → length (encode p) ≡ file_size (length p.ducts)
length-encode p =
    let e = length-ends p.ducts in
    let s = length-sizes p.ducts in
    let g = length-append (flat_map ends_of p.ducts) (flat_map sizes_of p.ducts) in
    omega arith

-- the whole file, by the bytes after each part: those of the front, and of the buffer from the second array on
pub file_put :
    (p : PlanSpec) (was front back o1 o2 o3 o4 : List ℕ) → file_size (length p.ducts) ≤ length was
    → front ≡ take (4 + 4 * length p.ducts) was → back ≡ drop (4 + 4 * length p.ducts) was
    → o1 ≡ over front 0 (two_of p.pits) → o2 ≡ over o1 2 (two_of (length p.ducts)) → o3 ≡ over o2 4 (flat_map ends_of p.ducts) → o4 ≡ over back 0 (flat_map sizes_of p.ducts)
    → o3 ++ o4 ≡ encode p ++ drop (file_size (length p.ducts)) was
file_put p was front back o1 o2 o3 o4 room ef eb e1 e2 e3 e4 =
    let n : ℕ = length p.ducts in
    let l1 = length-ends p.ducts in
    let l2 = length-sizes p.ducts in
    let sizes : List ℕ = two_of p.pits ++ two_of n in
    let E : List ℕ = flat_map ends_of p.ducts in
    let S : List ℕ = flat_map sizes_of p.ducts in
    let long : length front ≡ 4 + 4 * n = ap length ef ∙ length-take-le (4 + 4 * n) was (omega arith) in
    let whole : o3 ≡ sizes ++ E =
    over_more front o2 o3 sizes E 0 4 (omega arith) refl (over_more front o1 o2 (two_of p.pits) (two_of n) 0 2 (omega arith) refl e1 e2) e3
    ∙ over_whole front (sizes ++ E) (omega arith) in
    let e : 4 + 4 * n + (0 + length S) ≡ file_size n = omega arith in
    rw (whole, e4, eb) (ap (λ xs. sizes ++ E ++ (S ++ xs)) (drop-drop (0 + length S) (4 + 4 * n) was ∙ ap (λ k. drop k was) e) ∙ sym (append_assoc (sizes ++ E) S (drop (file_size n) was)))
