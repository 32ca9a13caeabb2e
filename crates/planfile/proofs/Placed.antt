-- Bytes written part after part, as one part put over the old bytes.
use Rattle.std.proofs.Common.{◌≡◌, ℕ, ◌+◌, ◌≤◌, List, ◌++◌, length, take, drop, sym, ap, ◌∙◌, arith}
use lib.Seq.{drop-append-add}
use Rattle.std.proofs.lemmas.List.{length-append, length-take-le, take_at, drop-drop, append_assoc, append-nil, drop_all}
use Rattle.planfile.specs.Words.{over}

-- two parts, one after the other
pub over-over :
    (bs xs ys : List ℕ) (at n : ℕ) → at + length xs ≤ length bs → at + length xs ≡ n → over (over bs at xs) n ys ≡ over bs at (xs ++ ys)
over-over bs xs ys at n h e =
    let front : length (take at bs ++ xs) ≡ n = length-append (take at bs) xs ∙ ap (λ k. k + length xs) (length-take-le at bs (omega arith)) ∙ e in
    let first : take n (over bs at xs) ≡ take at bs ++ xs = take_at (take at bs ++ xs) (drop (at + length xs) bs) n front in
    let k : length (take at bs ++ xs) + length ys ≡ n + length ys = omega arith in
    let left : drop (n + length ys) (over bs at xs) ≡ drop (at + length (xs ++ ys)) bs =
    ap (λ m. drop m (over bs at xs)) (sym k)
    ∙ drop-append-add (take at bs ++ xs) (drop (at + length xs) bs) (length ys)
    ∙ drop-drop (length ys) (at + length xs) bs
    ∙ ap (λ m. drop m bs) (let g = length-append xs ys in omega arith) in
    ap (λ zs. zs ++ ys ++ drop (n + length ys) (over bs at xs)) first
    ∙ ap (λ zs. take at bs ++ xs ++ ys ++ zs) left
    ∙ ap (λ zs. zs ++ drop (at + length (xs ++ ys)) bs) (append_assoc (take at bs) xs ys)

-- one more part, by the bytes before and after it
pub over_more :
    (was o p xs ys : List ℕ) (at n : ℕ) → at + length xs ≤ length was → n ≡ at + length xs → o ≡ over was at xs → p ≡ over o n ys → p ≡ over was at (xs ++ ys)
over_more was o p xs ys at n h e eo ep = ep ∙ ap (λ zs. over zs n ys) eo ∙ over-over was xs ys at n h (sym e)

-- a part as long as the old bytes
pub over_whole : (was xs : List ℕ) → length was ≡ length xs → over was 0 xs ≡ xs
over_whole was xs h = ap (λ ys. xs ++ ys) (drop_all (0 + length xs) was (omega arith)) ∙ append-nil xs
