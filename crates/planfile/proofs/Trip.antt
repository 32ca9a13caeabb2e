-- What is saved reads back as it was.
use Rattle.std.proofs.Common.{◌≡◌, ℕ, ◌+◌, ◌*◌, ◌<◌, ◌≤◌, true, not, ◌&&◌, eqb, leb, List, [], ◌∷◌, ◌++◌, length, take, drop, Ok, Result, sym, refl, ap, ◌∙◌, arith}
use Rattle.std.specs.List.{flat_map}
use Rattle.std.proofs.lemmas.List.{take_at, drop_at, append_assoc, append-nil}
use Rattle.std.proofs.lemmas.Bool.{le-leb, eq-eqb, and_from}
use Rattle.plan.specs.Ducts.{ducts_keep}
use Rattle.plan.specs.Edits.{asks, and_then}
use Rattle.plan.specs.Plans.{PlanSpec}
use Rattle.plan.specs.Refusals.{Told, plain, placed}
use Rattle.plan.specs.Rules.{Rules, DuctRules}
use Rattle.plan.specs.declared.ducts.Duct.{Duct}
use Rattle.plan.proofs.Asking.{asks-yes, then_next}
use Rattle.plan.proofs.Editing.{keeps_checked}
use Rattle.plan.proofs.Keeping.{keep_front, keep_middle}
use Rattle.plan.proofs.Ruling.{own_rules, rules-keep}
use Rattle.planfile.specs.Format.{file_size, ends_of, sizes_of, encode, duct_at, ducts_from, ducts_in}
use Rattle.planfile.specs.Loading.{check_sizes, admit, as_plan, decode}
use Rattle.planfile.specs.Words.{two, four, two_of, four_of}
use Rattle.std.proofs.lemmas.Nat.{from_le_bytes-to_le_bytes_2, from_le_bytes-to_le_bytes_4}
use Rattle.planfile.proofs.Stepping.{ducts-more}
use Rattle.planfile.proofs.Arrays.{length-ends, length-encode}

-- a number, from its bytes
two_back : (n : ℕ) (xs : List ℕ) → n < 65536 → two (two_of n ++ xs) 0 ≡ n
two_back n xs h = from_le_bytes-to_le_bytes_2 n h

four_back : (n : ℕ) (xs : List ℕ) → n < 4294967296 → four (four_of n ++ xs) 0 ≡ n
four_back n xs h = from_le_bytes-to_le_bytes_4 n h

-- ducts that keep the rules get a yes, one after the other
keeps_admitted : (pits : ℕ) (earlier ds : List Duct) → ducts_keep pits (earlier ++ ds) ≡ true → admit pits earlier ds ≡ Ok (earlier ++ ds)
keeps_admitted pits earlier [] keep = ap (λ xs. Ok xs) (sym (append-nil earlier))
keeps_admitted pits earlier (d ∷ ds) keep =
    let m = keep_middle pits earlier d ds keep in
    let rest : Result (List Duct) Told = admit pits (earlier ++ d ∷ []) ds in
    then_next _ _ (keeps_checked pits (length earlier) d m.0)
    ∙ then_next _ rest (ap (λ t. asks (not t) (placed 8 (length earlier))) m.1)
    ∙ keeps_admitted pits (earlier ++ d ∷ []) ds (ap (ducts_keep pits) (append_assoc earlier (d ∷ []) ds) ∙ keep)
    ∙ ap (λ xs. Ok xs) (append_assoc earlier (d ∷ []) ds)

-- a duct, from its bytes in the two arrays
duct_back : (pits : ℕ) (d : Duct) (xs ys : List ℕ) → pits ≤ 512 → DuctRules pits d → duct_at (ends_of d ++ xs) (sizes_of d ++ ys) 0 ≡ d
duct_back pits d xs ys h r =
    let rising = r.rising in
    let on_plan = r.on_plan in
    let short = r.length_most in
    let narrow = r.bore_most in
    let a = two_back d.first (two_of d.second ++ xs) (omega arith) in
    let b = two_back d.second xs (omega arith) in
    let c = four_back d.length (two_of d.bore ++ ys) (omega arith) in
    let e = two_back d.bore ys (omega arith) in
    rw (a, b, c, e)

ducts_back : (pits : ℕ) (ds : List Duct) → pits ≤ 512 → ducts_keep pits ds ≡ true → ducts_from (flat_map ends_of ds) (flat_map sizes_of ds) 0 (length ds) ≡ ds
ducts_back pits [] h keep = refl
ducts_back pits (d ∷ ds) h keep =
    let f = keep_front pits d ds keep in
    let es : List ℕ = flat_map ends_of ds in
    let ss : List ℕ = flat_map sizes_of ds in
    ducts-more (ends_of d ++ es) (sizes_of d ++ ss) (length ds)
    ∙ ap (λ x. x ∷ ducts_from es ss 0 (length ds)) (duct_back pits d es ss h (own_rules pits d f.own))
    ∙ ap (λ xs. d ∷ xs) (ducts_back pits ds h f.rest)

module _ (p : PlanSpec) (some : 1 ≤ p.pits) (rules : Rules p) where
  pits-back : two (encode p) 0 ≡ p.pits
  pits-back = let few = rules.few_pits in two_back p.pits [] (omega arith)

  count_back : two (encode p) 2 ≡ length p.ducts
  count_back = let few = rules.few_ducts in two_back (length p.ducts) [] (omega arith)

  list_back : ducts_in (encode p) (length p.ducts) ≡ p.ducts
  list_back =
      let n : ℕ = length p.ducts in
      let es : List ℕ = flat_map ends_of p.ducts in
      let ss : List ℕ = flat_map sizes_of p.ducts in
      let front : List ℕ = two_of p.pits ++ two_of n ++ es in
      let a : take (4 * n) (drop 4 (encode p)) ≡ es = take_at es ss (4 * n) (length-ends p.ducts) in
      let l : length front ≡ 4 + 4 * n = let g = length-ends p.ducts in omega arith in
      let b : drop (4 + 4 * n) (encode p) ≡ ss = drop_at front ss (4 + 4 * n) l in
      ap (λ xs. ducts_from xs (drop (4 + 4 * n) (encode p)) 0 n) a
      ∙ ap (λ xs. ducts_from es xs 0 n) b
      ∙ ducts_back p.pits p.ducts rules.few_pits (rules-keep p rules)

  sizes_back : check_sizes (encode p) ≡ Ok tt
  sizes_back =
      let bs : List ℕ = encode p in
      let len = length-encode p in
      let e = pits-back in
      let f = count_back in
      let few_pits = rules.few_pits in
      let few_ducts = rules.few_ducts in
      let a : leb 4 (length bs) ≡ true = le-leb 4 (length bs) (omega arith) in
      let b : (leb 1 (two bs 0) && leb (two bs 0) 512) ≡ true =
      and_from (leb 1 (two bs 0)) (leb (two bs 0) 512) (le-leb 1 (two bs 0) (omega arith)) (le-leb (two bs 0) 512 (omega arith)) in
      let c : leb (two bs 2) 1024 ≡ true = le-leb (two bs 2) 1024 (omega arith) in
      let d : eqb (length bs) (file_size (two bs 2)) ≡ true = eq-eqb (length bs) (file_size (two bs 2)) (omega arith) in
      then_next _ _ (asks-yes _ (plain 1) a) ∙ then_next _ _ (asks-yes _ (plain 2) b) ∙ then_next _ _ (asks-yes _ (plain 3) c) ∙ asks-yes _ (plain 4) d

  pub round_trip : decode (encode p) ≡ Ok p
  round_trip =
      let bs : List ℕ = encode p in
      let rest : ℕ → List Duct → Result PlanSpec Told = λ n ds. as_plan n (admit n [] ds) in
      ap (λ v. and_then v (rest (two bs 0) (ducts_in bs (two bs 2)))) sizes_back
      ∙ ap (λ n. rest n (ducts_in bs (two bs 2))) pits-back
      ∙ ap (rest p.pits) (ap (ducts_in bs) count_back ∙ list_back)
      ∙ ap (as_plan p.pits) (keeps_admitted p.pits [] p.ducts (rules-keep p rules))

  -- a buffer with the file at its front
  pub save_back : (was o : List ℕ) → o ≡ encode p ++ drop (file_size (length p.ducts)) was → decode (take (file_size (length p.ducts)) o) ≡ Ok p
  save_back was o e =
      let n : ℕ = file_size (length p.ducts) in
      ap (λ bs. decode (take n bs)) e ∙ ap decode (take_at (encode p) (drop n was) n (length-encode p)) ∙ round_trip
