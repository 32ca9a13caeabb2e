-- The ducts between allowed pits, and the ways over them.
use Rattle.std.proofs.Common.{◌≡◌, ℕ, ◌<◌, Bool, true, false, cond, ◌&&◌, eqb, List, [], ◌∷◌, is_some, Some, None, Option, sym, refl, ◌∙◌, ap₂, inl, inr}
use Rattle.std.specs.List.{All}
use Rattle.std.proofs.lemmas.List.Elements.{All-from_recursion, All-nil, All-cons, All-head, All-tail, All-weaker}
use Rattle.std.proofs.lemmas.Bool.{both_ways, cond_both, or_cases, and_parts, eqb-true}
use Rattle.measure.specs.Meaning.{Meaning}
use Rattle.plan.specs.declared.ducts.Duct.{Duct}
use Rattle.plan.specs.Ducts.{joins, between, ducts_keep}
use Rattle.plan.specs.Plans.{PlanSpec}
use Rattle.plan.proofs.Keeping.{keep_front, keep_from}
use Rattle.ways.specs.Ways.{Leads, Way, cost_from, cost_of}
use Rattle.ways.proofs.Cut.{leads_below}
use Rattle.search.specs.Allowed.{is_allowed, may_use, inside, restricted, WayThrough, AllAllowed}

and-swap : (x y : Bool) → (x && y) ≡ (y && x)
and-swap true true = refl
and-swap true false = refl
and-swap false true = refl
and-swap false false = refl

-- a duct between a and b may be used if they may
pub joins-may : (al : List Bool) (d : Duct) (a b : ℕ) → joins d a b ≡ true → may_use al d ≡ (is_allowed al a && is_allowed al b)
joins-may al d a b j =
    elim (or_cases (eqb d.first a && eqb d.second b) (eqb d.first b && eqb d.second a) j) [
      | inl e ↦ (let (f, s) = and_parts (eqb d.first a) (eqb d.second b) e in rw (eqb-true d.first a f, eqb-true d.second b s))
      | inr e ↦ (let (f, s) = and_parts (eqb d.first b) (eqb d.second a) e in rw (eqb-true d.first b f, eqb-true d.second a s) (and-swap (is_allowed al b) (is_allowed al a)))
    ]

pub inside-between : (al : List Bool) (ds : List Duct) (a b : ℕ) → between (inside al ds) a b ≡ cond (is_allowed al a && is_allowed al b) (between ds a b) None
unfolding between
inside-between al [] a b = cond_both {A = Option Duct} (is_allowed al a && is_allowed al b) None None (λ o. None ≡ o) (λ e. refl) (λ e. refl)
inside-between al (d ∷ ds) a b = go (may_use al d) (joins d a b) refl refl (inside-between al ds a b)
  where
    go : (s t : Bool) → may_use al d ≡ s → joins d a b ≡ t → between (inside al ds) a b ≡ cond (is_allowed al a && is_allowed al b) (between ds a b) None
        → between (cond s (d ∷ inside al ds) (inside al ds)) a b ≡ cond (is_allowed al a && is_allowed al b) (cond t (Some d) (between ds a b)) None
    go true true es et ih = rw (et, ← (joins-may al d a b et), es)
    go true false es et ih = rw et ih
    go false true es et ih = (let q : (is_allowed al a && is_allowed al b) ≡ false = sym (joins-may al d a b et) ∙ es in rw q (rw q at ih))
    go false false es et ih = ih

-- the ducts between allowed pits keep the rules if all do
pub inside-keep : (al : List Bool) (n : ℕ) (ds : List Duct) → ducts_keep n ds ≡ true → ducts_keep n (inside al ds) ≡ true
inside-keep al n [] h = h
inside-keep al n (d ∷ ds) h =
    let f = keep_front n d ds h in
    let ih = inside-keep al n ds f.rest in
    let new : is_some (between (inside al ds) d.first d.second) ≡ false = rw (inside-between al ds d.first d.second) (cond_both (is_allowed al d.first && is_allowed al d.second) (between ds d.first d.second) None (λ o. is_some o ≡ false) (λ e. f.new) (λ e. refl)) in
    cond_both (may_use al d) (d ∷ inside al ds) (inside al ds) (λ es. ducts_keep n es ≡ true)
    (λ e. keep_from n d (inside al ds) (record { own = f.own; new = new; rest = ih })) (λ e. ih)

pub cond-some : (t : Bool) (o : Option Duct) → is_some (cond t o None) ≡ true → (t ≡ true) × (is_some o ≡ true)
cond-some true o h = (refl, h)
cond-some false o h = absurd (both_ways false refl h)

-- the pit x is allowed
abbrev Ok : List Bool → ℕ → Type 0
Ok al x = is_allowed al x ≡ true

module _ (al : List Bool) (p : PlanSpec) where
  step_into : (a x : ℕ) → is_some (between (inside al p.ducts) a x) ≡ true → (is_allowed al a ≡ true) × (is_allowed al x ≡ true) × (is_some (between p.ducts a x) ≡ true)
  step_into a x h =
      let (t, q) = cond-some (is_allowed al a && is_allowed al x) (between p.ducts a x) (rw (inside-between al p.ducts a x) at h) in
      let (ra, rx) = and_parts (is_allowed al a) (is_allowed al x) t in (ra, rx, q)

  module _ (b : ℕ) where
    leads-into : (a : ℕ) (ps : List ℕ) → is_allowed al b ≡ true → Leads (restricted al p) a b ps → Leads p a b ps × All (Ok al) (a ∷ ps)
    leads-into a [] ok t = (t, All-cons (Ok al) a [] (rw t.0 ok) (All-nil (Ok al)))
    leads-into a (x ∷ ps) ok t =
        let (l, j, u) = t in
        let (ra, rx, q) = step_into a x j in
        let (v, all) = leads-into x ps ok u in
        ((l, q, v), All-cons (Ok al) a (x ∷ ps) ra all)

    leads-back : (a : ℕ) (ps : List ℕ) → Leads p a b ps → All (Ok al) (a ∷ ps) → Leads (restricted al p) a b ps
    leads-back a [] t r = t
    leads-back a (x ∷ ps) t r =
        let (l, j, u) = t in
        let rest = All-tail (Ok al) a (x ∷ ps) r in
        (l, rw (inside-between al p.ducts a x, All-head (Ok al) a (x ∷ ps) r, All-head (Ok al) x ps rest) j, leads-back x ps u rest)

    cost-same : (m : Meaning) (a : ℕ) (ps : List ℕ) → Leads (restricted al p) a b ps → cost_from m (restricted al p) a ps ≡ cost_from m p a ps
    cost-same m a [] t = refl
    cost-same m a (x ∷ ps) t =
        let (ra, rx, q) = step_into a x t.1 in
        ap₂ m.join (rw (inside-between al p.ducts a x, ra, rx)) (cost-same m x ps t.2)

-- to an allowed pit the ways of the restricted plan are the plan's ways through allowed pits, at the same cost
module _ (al : List Bool) (p : PlanSpec) (a b : ℕ) where
  pub way-through : (ps : List ℕ) → is_allowed al b ≡ true → Way (restricted al p) a b ps → WayThrough al p a b ps
  way-through [] ok w = absurd w
  way-through (x ∷ ps) ok w = (let (t, r) = leads-into al p b x ps ok w.1 in ((w.0, t), r))

  pub through_way : (ps : List ℕ) → WayThrough al p a b ps → Way (restricted al p) a b ps
  through_way [] w = w.0
  through_way (x ∷ ps) w = (w.0.0, leads-back al p b x ps w.0.1 w.1)

  pub through_costs : (m : Meaning) (ps : List ℕ) → Way (restricted al p) a b ps → cost_of m (restricted al p) ps ≡ cost_of m p ps
  through_costs m [] w = refl
  through_costs m (x ∷ ps) w = cost-same al p b m x ps w.1

  -- a way through allowed pits ends at one
  end_allowed : (x : ℕ) (ps : List ℕ) → Leads p x b ps → All (Ok al) (x ∷ ps) → is_allowed al b ≡ true
  end_allowed x [] t r = rw t.0 at (All-head (Ok al) x [] r)
  end_allowed x (y ∷ ps) t r = end_allowed y ps t.2 (All-tail (Ok al) x (y ∷ ps) r)

  pub through_end : (ps : List ℕ) → WayThrough al p a b ps → is_allowed al b ≡ true
  through_end [] w = absurd w.0
  through_end (x ∷ ps) w = end_allowed x ps w.0.1 w.1

  -- where every pit is allowed, every way is one through allowed pits
  leads_allowed : AllAllowed al p → (x : ℕ) (ps : List ℕ) → Leads p x b ps → All (Ok al) (x ∷ ps)
  leads_allowed every x ps t = All-weaker (λ y. y < p.pits) (Ok al) every (x ∷ ps) (All-from_recursion (λ y. y < p.pits) (x ∷ ps) (leads_below p b x ps t))

  pub every-through : AllAllowed al p → (ps : List ℕ) → Way p a b ps → WayThrough al p a b ps
  every-through every [] w = absurd w
  every-through every (x ∷ ps) w = (w, leads_allowed every x ps w.1)
