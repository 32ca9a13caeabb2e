-- The test that a plan's type holds says the rules, and no more than the rules.
use Rattle.std.proofs.Common.{◌≡◌, ℕ, zero, suc, ◌<◌, ◌≤◌, true, false, ◌&&◌, eqb, ltb, leb, List, [], ◌∷◌, length, get_or, is_some, sym, refl, ◌∙◌, inl, inr, ⊎_elim, arith}
use Rattle.std.proofs.lemmas.Bool.{and_parts, and_from, ltb-true, leb-true, eqb-true, lt-ltb, le-leb, or_parts, or_from, or_cases, both_ways, cases_Bool}
use Rattle.std.proofs.lemmas.Bool.Decides.{nat_tests}
use Rattle.plan.specs.declared.ducts.Duct.{Duct}
use Rattle.std.proofs.lemmas.List.{length-take-le}
use Rattle.plan.specs.declared.plans.Plan.{Plan}
use Rattle.plan.specs.Fields.{plan_of}
use Rattle.plan.specs.Ducts.{joins, between, ends_keep, length_keeps, bore_keeps, duct_keeps, ducts_keep}
use Rattle.plan.specs.Plans.{PlanSpec}
use Rattle.plan.specs.Rules.{DuctRules, SamePits, Rules}
use Rattle.plan.proofs.Keeping.{keep_front, keep_from, between-front}

pub own_rules : (pits : ℕ) (d : Duct) → duct_keeps pits d ≡ true → DuctRules pits d
own_rules pits d h =
    let p = and_parts (ends_keep pits d.first d.second) _ h in
    let e = and_parts (ltb d.first d.second) (ltb d.second pits) p.0 in
    let q = and_parts (length_keeps d.length) (bore_keeps d.bore) p.1 in
    let l = and_parts (leb 1 d.length) (leb d.length 1000000) q.0 in
    let b = and_parts (leb 10 d.bore) (leb d.bore 300) q.1 in
    record {
      rising = ltb-true d.first d.second e.0;
      on_plan = ltb-true d.second pits e.1;
      length_least = leb-true 1 d.length l.0;
      length_most = leb-true d.length 1000000 l.1;
      bore_least = leb-true 10 d.bore b.0;
      bore_most = leb-true d.bore 300 b.1;
    }

-- each duct of ducts that keep the rules
each-rules : (pits : ℕ) (ds : List Duct) → ducts_keep pits ds ≡ true → (i : ℕ) (z : Duct) → i < length ds → DuctRules pits (get_or ds i z)
each-rules pits [] h i z lt = absurd (let w : ⊥ = omega arith in w)
each-rules pits (d ∷ ds) h zero z lt = own_rules pits d (keep_front pits d ds h).own
each-rules pits (d ∷ ds) h (suc i) z lt = each-rules pits ds (keep_front pits d ds h).rest i z (omega arith)

-- no duct has its ends on a plan without pits
no_pits : (pits : ℕ) (ds : List Duct) → ducts_keep pits ds ≡ true → pits ≡ 0 → ds ≡ []
no_pits pits [] h none = refl
no_pits pits (d ∷ ds) h none =
    let r = own_rules pits d (keep_front pits d ds h).own in
    let off = r.on_plan in
    absurd (let w : ⊥ = omega arith in w)

same_joins : (d e : Duct) → SamePits d e → joins e d.first d.second ≡ true
same_joins d e (inl s) = let p = s.0 in let q = s.1 in grind (arith, nat_tests)
same_joins d e (inr s) = let p = s.0 in let q = s.1 in grind (arith, nat_tests)

-- a duct that none of the others joins the pits of
not_among : (ds : List Duct) (d : Duct) → is_some (between ds d.first d.second) ≡ false → (j : ℕ) (z : Duct) → j < length ds → SamePits d (get_or ds j z) → ⊥
not_among [] d h j z lt s = omega arith
not_among (e ∷ es) d h zero z lt s =
    both_ways (joins e d.first d.second) (or_parts (joins e d.first d.second) _ (sym (between-front e es d.first d.second) ∙ h)).0 (same_joins d e s)
not_among (e ∷ es) d h (suc j) z lt s =
    not_among es d (or_parts (joins e d.first d.second) _ (sym (between-front e es d.first d.second) ∙ h)).1 j z (omega arith) s

all_apart :
    (pits : ℕ) (ds : List Duct) → ducts_keep pits ds ≡ true → (i j : ℕ) (z : Duct) → i < j → j < length ds → SamePits (get_or ds i z) (get_or ds j z) → ⊥
all_apart pits [] h i j z lt le s = omega arith
all_apart pits (d ∷ ds) h i zero z lt le s = omega arith
all_apart pits (d ∷ ds) h zero (suc j) z lt le s = not_among ds d (keep_front pits d ds h).new j z (omega arith) s
all_apart pits (d ∷ ds) h (suc i) (suc j) z lt le s = all_apart pits ds (keep_front pits d ds h).rest i j z (omega arith) (omega arith) s

-- what a test of the ducts says, where there are few enough
pub keep-rules : (p : PlanSpec) → p.pits ≤ 512 → length p.ducts ≤ 1024 → ducts_keep p.pits p.ducts ≡ true → Rules p
keep-rules p small few h =
    record { few_pits = small; few_ducts = few; blank = λ none. no_pits p.pits p.ducts h none; each = each-rules p.pits p.ducts h; apart = all_apart p.pits p.ducts h }

pub length-ducts : (p : Plan) → length (plan_of p).ducts ≡ p.count
length-ducts p = length-take-le p.count p.ducts (let a = p.few in let b = p.places in omega arith)

rules-own : (pits : ℕ) (d : Duct) → DuctRules pits d → duct_keeps pits d ≡ true
rules-own pits d r =
    and_from (ends_keep pits d.first d.second) _
    (and_from (ltb d.first d.second) _ (lt-ltb d.first d.second r.rising) (lt-ltb d.second pits r.on_plan))
    (and_from (length_keeps d.length) _
    (and_from (leb 1 d.length) _ (le-leb 1 d.length r.length_least) (le-leb d.length 1000000 r.length_most))
    (and_from (leb 10 d.bore) _ (le-leb 10 d.bore r.bore_least) (le-leb d.bore 300 r.bore_most)))

joins-same : (d e : Duct) → joins e d.first d.second ≡ true → SamePits d e
joins-same d e h =
    ⊎_elim
    (λ s. let p = and_parts (eqb e.first d.first) _ s in inl (sym (eqb-true e.first d.first p.0), sym (eqb-true e.second d.second p.1)))
    (λ s. let p = and_parts (eqb e.first d.second) _ s in inr (sym (eqb-true e.second d.first p.1), sym (eqb-true e.first d.second p.0)))
    (or_cases (eqb e.first d.first && eqb e.second d.second) _ h)

-- a duct that joins the pits of none of the others
among_none : (ds : List Duct) (d : Duct) → ((j : ℕ) (z : Duct) → j < length ds → SamePits d (get_or ds j z) → ⊥) → is_some (between ds d.first d.second) ≡ false
unfolding between
among_none [] d apart = refl
among_none (e ∷ es) d apart =
    let other : joins e d.first d.second ≡ false =
    ⊎_elim (λ t. absurd (apart 0 d (omega arith) (joins-same d e t))) (λ f. f) (cases_Bool (joins e d.first d.second)) in
    between-front e es d.first d.second
    ∙ or_from (joins e d.first d.second) (is_some (between es d.first d.second)) other (among_none es d (λ j z h s. apart (suc j) z (omega arith) s))

rules-list :
    (pits : ℕ) (ds : List Duct) → ((i : ℕ) (z : Duct) → i < length ds → DuctRules pits (get_or ds i z))
    → ((i j : ℕ) (z : Duct) → i < j → j < length ds → SamePits (get_or ds i z) (get_or ds j z) → ⊥) → ducts_keep pits ds ≡ true
unfolding ducts_keep
rules-list pits [] each apart = refl
rules-list pits (d ∷ ds) each apart =
    keep_from pits d ds
    (record {
      own = rules-own pits d (each 0 d (omega arith));
      new = among_none ds d (λ j z h s. apart 0 (suc j) z (omega arith) (omega arith) s);
      rest = rules-list pits ds (λ i z h. each (suc i) z (omega arith)) (λ i j z h k s. apart (suc i) (suc j) z (omega arith) (omega arith) s);
    })

pub rules-keep : (p : PlanSpec) → Rules p → ducts_keep p.pits p.ducts ≡ true
rules-keep p r = rules-list p.pits p.ducts r.each r.apart
