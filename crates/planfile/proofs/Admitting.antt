-- The questions on a file's ducts, one duct on.
use Rattle.std.proofs.Common.{◌≡◌, ℕ, ◌+◌, ◌<◌, ◌≤◌, true, false, not, ◌&&◌, leb, List, [], ◌∷◌, ◌++◌, length, get_or, take, drop, set, ◌⊎◌, inl, inr, is_some, Ok, Err, Result, sym, refl, ap, ◌∙◌, arith}
use Rattle.std.proofs.lemmas.List.FromFn.{length-map-range_with_len}
use Rattle.std.proofs.lemmas.List.{length-take-le, length-set, take_more_set, nil_from_length}
use Rattle.std.proofs.lemmas.Bool.{and_parts, leb-true, eqb-true}
use Rattle.plan.specs.Ducts.{joins, between, ducts_keep}
use Rattle.plan.specs.Edits.{Verdict, asks, and_then, check_duct, check_repeat}
use Rattle.plan.specs.Plans.{PlanSpec}
use Rattle.plan.specs.Refusals.{Told, plain, placed}
use Rattle.plan.specs.declared.ducts.Duct.{Duct}
use Rattle.plan.proofs.Finding.{between-here, between_none}
use Rattle.plan.proofs.Asking.{asked_yes, both_yes}
use Rattle.plan.specs.Rules.{Rules}
use Rattle.plan.proofs.Editing.{laid_sound}
use Rattle.plan.proofs.Ruling.{keep-rules}
use Rattle.planfile.specs.Format.{file_size, duct_at, ducts_in}
use Rattle.planfile.specs.Loading.{check_sizes, sizes_in, admit, as_plan, decode}
use Rattle.planfile.specs.declared.load.Sizes.{Sizes}
use Rattle.planfile.specs.Words.{two}

-- a file whose sizes got a yes
pub record Sized (bs : List ℕ) : Type 0 where
  pub front : 4 ≤ length bs
  pub some_pits : 1 ≤ two bs 0
  pub few_pits : two bs 0 ≤ 512
  pub few_ducts : two bs 2 ≤ 1024
  pub exact : length bs ≡ file_size (two bs 2)

pub sized : (bs : List ℕ) → check_sizes bs ≡ Ok tt → Sized bs
sized bs h =
    let p = both_yes (asks (leb 4 (length bs)) (plain 1)) _ tt h in
    let q = both_yes (asks (leb 1 (two bs 0) && leb (two bs 0) 512) (plain 2)) _ tt p.1 in
    let r = both_yes (asks (leb (two bs 2) 1024) (plain 3)) _ tt q.1 in
    let pits = and_parts (leb 1 (two bs 0)) (leb (two bs 0) 512) (asked_yes _ (plain 2) q.0) in
    record {
      front = leb-true 4 (length bs) (asked_yes _ (plain 1) p.0);
      some_pits = leb-true 1 (two bs 0) pits.0;
      few_pits = leb-true (two bs 0) 512 pits.1;
      few_ducts = leb-true (two bs 2) 1024 (asked_yes _ (plain 3) r.0);
      exact = eqb-true (length bs) (file_size (two bs 2)) (asked_yes _ (plain 4) r.1);
    }

-- the ducts to come, after the first `at` of ds, give the answer of the whole file, which has `count` ducts
pub record Admitting (bs : List ℕ) (pits count at : ℕ) (ds left : List Duct) : Type 0 where
  pub answer : as_plan pits (admit pits (take at ds) left) ≡ decode bs
  pub few : count ≤ 1024
  pub all : at + length left ≡ count
  pub small : pits ≤ 512
  pub places : length ds ≡ 1024
  pub keeps : ducts_keep pits (take at ds) ≡ true

pub admit-begins :
    (bs : List ℕ) (s : Sizes) (ds left : List Duct) → Ok s ≡ and_then (check_sizes bs) (Ok (sizes_in bs)) → left ≡ ducts_in bs s.count → length ds ≡ 1024
    → Admitting bs s.pits s.count 0 ds left
unfolding ducts_keep
admit-begins bs s ds left ok l long =
    let yes = both_yes (check_sizes bs) (Ok (sizes_in bs)) s (sym ok) in
    let e : s ≡ sizes_in bs = cc in
    let sizes = sized bs yes.0 in
    let few = sizes.few_ducts in
    let all : left ≡ ducts_in bs (two bs 2) = l ∙ ap (λ t. ducts_in bs t.count) e in
    let count = ap length all ∙ length-map-range_with_len (duct_at _ _) 0 (two bs 2) in
    rw e
    (record {
      answer =
          ap (λ xs. as_plan (two bs 0) (admit (two bs 0) [] xs)) all
          ∙ sym (ap (λ v. and_then v (as_plan (two bs 0) (admit (two bs 0) [] (ducts_in bs (two bs 2))))) yes.0);
      few = few;
      all = omega arith;
      small = sizes.few_pits;
      places = long;
      keeps = refl;
    })

module _ {bs : List ℕ} {pits count at : ℕ} {ds left : List Duct} (inv : Admitting bs pits count at ds left) where
  room : at ≤ length ds
  room = let few = inv.few in let all = inv.all in let places = inv.places in omega arith

  long : length (take at ds) ≡ at
  long = length-take-le at ds room

  -- the plan of the ducts so far keeps the rules
  admitted-rules : Rules (record { pits = pits; ducts = take at ds })
  admitted-rules = keep-rules _ inv.small (let few = inv.few in let all = inv.all in let l = long in omega arith) inv.keeps

  -- the places or the ducts to come have ended, and so have both
  pub admit-ends :
      {A B : Type 0} (end : ℕ) → end ≡ count → A ⊎ B → (A → end ≤ at) → (B → left ≡ [])
      → (Ok (record { pits = pits; ducts = take count ds }) ≡ decode bs) × Rules (record { pits = pits; ducts = take count ds })
  admit-ends end h ended places none =
      let all = inv.all in
      let e : at ≡ count = elim ended [ inl a ↦ let past = places a in omega arith | inr b ↦ let few = ap length (none b) in omega arith ] in
      let nil : left ≡ [] = nil_from_length left (omega arith) in
      rw (← e) (sym (ap (λ xs. as_plan pits (admit pits (take at ds) xs)) nil) ∙ inv.answer, admitted-rules)

  -- d is the next duct
  module _ {d : Duct} {rest : List Duct} (next : left ≡ d ∷ rest) where
    after : Verdict → Verdict → Result PlanSpec Told
    after v w = as_plan pits (and_then v (and_then w (admit pits (take at ds ++ d ∷ []) rest)))

    -- the two questions on d, as the code asks them
    asked : after (check_duct pits at d) (check_repeat (take at ds) at d) ≡ decode bs
    unfolding after
    asked =
        sym (ap (λ k. after (check_duct pits k d) (check_repeat (take at ds) k d)) long)
        ∙ sym (ap (λ xs. as_plan pits (admit pits (take at ds) xs)) next)
        ∙ inv.answer

    pub admit-repeats : Ok tt ≡ check_duct pits at d → is_some (between (take at ds) d.first d.second) ≡ true → Err (placed 8 at) ≡ decode bs
    unfolding after
    admit-repeats ok old =
        sym (ap (λ t. after (Ok tt) (asks (not t) (placed 8 at))) old)
        ∙ ap (λ v. after v (check_repeat (take at ds) at d)) ok
        ∙ asked

    pub admit-more :
        Ok tt ≡ check_duct pits at d → is_some (between (take at ds) d.first d.second) ≡ false → Admitting bs pits count (at + 1) (set ds at d) rest
    unfolding after
    admit-more ok new =
        let few = inv.few in
        let all = inv.all in
        let places = inv.places in
        let one = ap length next in
        let here : at < length ds = omega arith in
        record {
          answer =
              ap (λ xs. as_plan pits (admit pits xs rest)) (take_more_set ds at d here)
              ∙ sym (ap (λ t. after (Ok tt) (asks (not t) (placed 8 at))) new)
              ∙ ap (λ v. after v (check_repeat (take at ds) at d)) ok
              ∙ asked;
          few = few;
          all = omega arith;
          small = inv.small;
          places = length-set ds at d ∙ places;
          keeps = laid_sound pits at at ds d here inv.keeps (sym ok) (ap (λ t. asks (not t) (placed 8 at)) new);
        }

-- whether one of the ducts, those before i passed over, joins the pits a and b
pub no_repeat : (ds : List Duct) (a b i : ℕ) → length ds ≤ i → between (drop i ds) a b ≡ between ds a b → is_some (between ds a b) ≡ false
no_repeat ds a b i all inv = ap is_some (sym inv ∙ between_none ds a b i all)

pub some-repeat :
    (ds : List Duct) (a b i : ℕ) (z : Duct) → i < length ds → joins (get_or ds i z) a b ≡ true → between (drop i ds) a b ≡ between ds a b
    → is_some (between ds a b) ≡ true
some-repeat ds a b i z here same inv = ap is_some (sym inv ∙ between-here ds a b i z here same)
