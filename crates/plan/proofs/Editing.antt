-- A plan with a duct laid last, and one with a duct lifted.
use Rattle.std.proofs.Common.{◌≡◌, ℕ, ◌+◌, ◌<◌, ◌≤◌, Bool, true, false, cond, not, ◌&&◌, List, [], ◌∷◌, ◌++◌, length, get_or, take, drop, set, is_some, Ok, sym, refl, ap, ◌∙◌, arith}
use Rattle.std.proofs.lemmas.List.{take_more, take_more_set, take_all, append-nil, take-append-drop, length-append, length-take-le}
use Rattle.std.proofs.lemmas.Bool.{and_parts, and_from, not-true}
use Rattle.plan.specs.declared.ducts.Duct.{Duct}
use Rattle.plan.specs.Ducts.{joins, between, others, ends_keep, length_keeps, bore_keeps, duct_keeps, ducts_keep}
use Rattle.plan.specs.Edits.{asks, check_ends, check_duct, check_repeat, with_last, without}
use Rattle.plan.specs.Refusals.{placed}
use Rattle.plan.proofs.Asking.{asked_yes, asks-yes, both_yes, then_next}
use Rattle.plan.specs.Plans.{PlanSpec}
use Rattle.plan.specs.Rules.{Rules}
use Rattle.plan.proofs.Keeping.{keep_push, keep_first, keep_others}
use Rattle.plan.proofs.Ruling.{keep-rules, rules-keep}

pub checked_keeps : (pits place : ℕ) (d : Duct) → check_duct pits place d ≡ Ok tt → duct_keeps pits d ≡ true
checked_keeps pits place d h =
    let p = both_yes (check_ends pits place d.first d.second) _ tt h in
    let q = both_yes (asks (length_keeps d.length) (placed 6 place)) _ tt p.1 in
    and_from (ends_keep pits d.first d.second) _ (asked_yes _ (placed 5 place) p.0)
    (and_from (length_keeps d.length) (bore_keeps d.bore) (asked_yes _ (placed 6 place) q.0) (asked_yes _ (placed 7 place) q.1))

pub keeps_checked : (pits place : ℕ) (d : Duct) → duct_keeps pits d ≡ true → check_duct pits place d ≡ Ok tt
keeps_checked pits place d h =
    let p = and_parts (ends_keep pits d.first d.second) (length_keeps d.length && bore_keeps d.bore) h in
    let q = and_parts (length_keeps d.length) (bore_keeps d.bore) p.1 in
    then_next _ _ (asks-yes _ (placed 5 place) p.0) ∙ then_next _ _ (asks-yes _ (placed 6 place) q.0) ∙ asks-yes _ (placed 7 place) q.1

-- no duct of ds joins the same two pits as d
pub not_taken : (ds : List Duct) (place : ℕ) (d : Duct) → check_repeat ds place d ≡ Ok tt → is_some (between ds d.first d.second) ≡ false
not_taken ds place d h = not-true _ (asked_yes (not (is_some (between ds d.first d.second))) (placed 8 place) h)

-- a checked duct that is no repeat, written after the n ducts that stand
pub laid_sound :
    (pits n place : ℕ) (ds : List Duct) (d : Duct) → n < length ds → ducts_keep pits (take n ds) ≡ true → check_duct pits place d ≡ Ok tt
    → check_repeat (take n ds) place d ≡ Ok tt → ducts_keep pits (take (n + 1) (set ds n d)) ≡ true
laid_sound pits n place ds d h keep own new =
    ap (ducts_keep pits) (take_more_set ds n d h) ∙ keep_push pits (take n ds) d keep (checked_keeps pits place d own) (not_taken (take n ds) place d new)

-- a plan with a checked duct laid last keeps the rules
pub laid-rules :
    (p : PlanSpec) (d : Duct) → Rules p → length p.ducts < 1024 → check_duct p.pits 0 d ≡ Ok tt → check_repeat p.ducts 0 d ≡ Ok tt → Rules (with_last p d)
laid-rules p d r room own new =
    let long = length-append p.ducts (d ∷ []) in
    keep-rules (with_last p d) r.few_pits (omega arith)
    (keep_push p.pits p.ducts d (rules-keep p r) (checked_keeps p.pits 0 d own) (not_taken p.ducts 0 d new))

others-push : (ds : List Duct) (d : Duct) (a b : ℕ) → others (ds ++ d ∷ []) a b ≡ others ds a b ++ cond (not (joins d a b)) (d ∷ []) []
unfolding others
others-push [] d a b = refl
others-push (e ∷ es) d a b =
    elim (joins e a b) as (λ t. cond (not t) (e ∷ others (es ++ d ∷ []) a b) (others (es ++ d ∷ []) a b) ≡ cond (not t) (e ∷ others es a b) (others es a b) ++ cond (not (joins d a b)) (d ∷ []) [])
    [ true ↦ others-push es d a b | false ↦ ap (λ xs. e ∷ xs) (others-push es d a b) ]

length-others : (ds : List Duct) (a b : ℕ) → length (others ds a b) ≤ length ds
unfolding others
length-others [] a b = omega arith
length-others (d ∷ ds) a b =
    let on = length-others ds a b in
    elim (joins d a b) as (λ t. length (cond (not t) (d ∷ others ds a b) (others ds a b)) ≤ length (d ∷ ds)) [ true ↦ omega arith | false ↦ omega arith ]

-- the first i of the ducts, without those that join a and b
abbrev pub lifted : PlanSpec → ℕ → ℕ → ℕ → PlanSpec
lifted p a b i = without (record p { ducts = take i p.ducts }) a b

pub lifted-all : (p : PlanSpec) (a b i : ℕ) → length p.ducts ≤ i → lifted p a b i ≡ without p a b
lifted-all p a b i h = ap (λ ds. without (record p { ducts = ds }) a b) (take_all i p.ducts h)

module _ (p : PlanSpec) (a b i : ℕ) (z : Duct) (within : i < length p.ducts) {d : Duct} (is : d ≡ get_or p.ducts i z) where
  step : (t : Bool) → joins d a b ≡ t → others (take (i + 1) p.ducts) a b ≡ others (take i p.ducts) a b ++ cond (not t) (d ∷ []) []
  step t e =
      ap (λ ds. others ds a b) (take_more p.ducts i z within ∙ ap (λ x. take i p.ducts ++ x ∷ []) (sym is))
      ∙ others-push (take i p.ducts) d a b
      ∙ ap (λ u. others (take i p.ducts) a b ++ cond (not u) (d ∷ []) []) e

  -- the duct joins the two pits, and is left out
  pub lift-skip : joins d a b ≡ true → lifted p a b i ≡ lifted p a b (i + 1)
  lift-skip e = ap (λ ds. record p { ducts = ds }) (sym (step true e ∙ append-nil (others (take i p.ducts) a b)))

  -- the duct joins other pits, and is laid
  pub lift-keep : joins d a b ≡ false → with_last (lifted p a b i) d ≡ lifted p a b (i + 1)
  lift-keep e = ap (λ ds. record p { ducts = ds }) (sym (step false e))

-- a part of a plan keeps the rules
pub lifted-rules : (p : PlanSpec) (a b i : ℕ) → Rules p → Rules (lifted p a b i)
lifted-rules p a b i r =
    let few = r.few_ducts in
    let front = length-others (take i p.ducts) a b in
    let cut = length-append (take i p.ducts) (drop i p.ducts) in
    let whole = ap length (take-append-drop i p.ducts) in
    keep-rules (lifted p a b i) r.few_pits (omega arith)
    (keep_others p.pits (take i p.ducts) a b (keep_first p.pits (take i p.ducts) (drop i p.ducts) (ap (ducts_keep p.pits) (take-append-drop i p.ducts) ∙ rules-keep p r)))

pub lifted-room : (p : PlanSpec) (a b i : ℕ) → Rules p → i < length p.ducts → length (lifted p a b i).ducts < 1024
lifted-room p a b i r h =
    let few = r.few_ducts in
    let front = length-others (take i p.ducts) a b in
    let cut = length-take-le i p.ducts (omega arith) in
    omega arith
