-- The costs of ways under the laws, and a way cut short where it comes to a pit again.
use Rattle.std.proofs.Common.{◌≡◌, ℕ, ◌<◌, true, false, eqb, List, [], ◌∷◌, sym, refl, ap, inl, inr}
use Rattle.std.specs.List.{AllByRecursion}
use Rattle.std.proofs.lemmas.Bool.{eqb-true, or_cases, or_left, or_right, cases_Bool, both_ways}
use Rattle.measure.specs.Meaning.{Meaning, IsCost, NoWorse}
use Rattle.measure.proofs.Lawful.{Lawful, reflexive, longer, before-both}
use Rattle.plan.specs.Ducts.{between}
use Rattle.plan.specs.Plans.{PlanSpec}
use Rattle.ways.specs.Ways.{Leads, Way, cost_across, cost_from, cost_of, has, Simple}
use Rattle.ways.specs.Theorems.{CutDown}

-- the pits of a way are on the plan
pub leads_below : (p : PlanSpec) (b a : ℕ) (ps : List ℕ) → Leads p a b ps → AllByRecursion (λ x. x < p.pits) (a ∷ ps)
leads_below p b a [] t = (t.1, tt)
leads_below p b a (x ∷ ps) t = (t.0, leads_below p b x ps t.2)

pub end_below : (p : PlanSpec) (b a : ℕ) (ps : List ℕ) → Leads p a b ps → b < p.pits
end_below p b a [] t = rw t.0 at t.1
end_below p b a (x ∷ ps) t = end_below p b x ps t.2

-- a way without its first pit
pub way-leads : (m : Meaning) (p : PlanSpec) (a b : ℕ) (ps : List ℕ) → Way p a b ps → (qs : List ℕ) × Leads p a b qs × (cost_from m p a qs ≡ cost_of m p ps)
way-leads m p a b [] w = absurd w
way-leads m p a b (x ∷ ps) (e, t) = (ps, rw e at t, ap (λ y. cost_from m p y ps) (sym e))

module _ (m : Meaning) (laws : Lawful m) (p : PlanSpec) where
  pub cost_fits : (a : ℕ) (ps : List ℕ) → IsCost m (cost_from m p a ps)
  cost_fits a [] = laws.still-fits
  cost_fits a (x ∷ ps) = laws.join-fits (cost_across m (between p.ducts a x)) (cost_from m p x ps)

  pub of_fits : (ps : List ℕ) → IsCost m (cost_of m p ps)
  of_fits [] = laws.still-fits
  of_fits (x ∷ ps) = cost_fits x ps

  -- a way from a to b with no pit twice, by some of the pits `all`, and no worse than c
  pub record Straight (a b c : ℕ) (all : List ℕ) : Type 0 where
    pub later : List ℕ
    pub leads : Leads p a b later
    pub simple : Simple (a ∷ later)
    pub among : (z : ℕ) → has z (a ∷ later) ≡ true → has z all ≡ true
    pub no_worse : NoWorse m (cost_from m p a later) c

  -- what is no worse than the rest of a way is no worse than the whole
  onwards : (b a x y : ℕ) (ps : List ℕ) → Straight a b (cost_from m p y ps) (y ∷ ps) → Straight a b (cost_from m p x (y ∷ ps)) (x ∷ (y ∷ ps))
  onwards b a x y ps s =
      record {
        later = s.later;
        leads = s.leads;
        simple = s.simple;
        among = λ z h. or_right (eqb z x) (has z (y ∷ ps)) (s.among z h);
        no_worse = laws.transitive (cost_from m p a s.later) (cost_from m p y ps) _ s.no_worse (longer m laws (cost_across m (between p.ducts x y)) (cost_from m p y ps));
      }

  -- a way with no pit twice, as it is
  whole : (b x : ℕ) (ps : List ℕ) → Leads p x b ps → Simple (x ∷ ps) → Straight x b (cost_from m p x ps) (x ∷ ps)
  whole b x ps t s = record { later = ps; leads = t; simple = s; among = λ z h. h; no_worse = reflexive m laws (cost_from m p x ps) }

  -- the end of a way from where a stands in it
  cut : (b a x : ℕ) (ps : List ℕ) → Leads p x b ps → Simple (x ∷ ps) → has a (x ∷ ps) ≡ true → Straight a b (cost_from m p x ps) (x ∷ ps)
  cut b a x [] t s h =
      elim (or_cases (eqb a x) false h) [
        | inl e ↦ rw (eqb-true a x e) (whole b x [] t s)
        | inr e ↦ absurd (both_ways false refl e)
      ]
  cut b a x (y ∷ ps) t s h =
      elim (or_cases (eqb a x) (has a (y ∷ ps)) h) [
        | inl e ↦ rw (eqb-true a x e) (whole b x (y ∷ ps) t s)
        | inr e ↦ onwards b a x y ps (cut b a y ps t.2 s.1 e)
      ]

  -- every way has one with no pit twice, by some of its pits, that is no worse
  pub straighten : (b a : ℕ) (ps : List ℕ) → Leads p a b ps → Straight a b (cost_from m p a ps) (a ∷ ps)
  straighten b a [] t = whole b a [] t (refl, tt)
  straighten b a (x ∷ ps) t = ahead (straighten b x ps t.2)
    where
      ahead : Straight x b (cost_from m p x ps) (x ∷ ps) → Straight a b (cost_from m p a (x ∷ ps)) (a ∷ (x ∷ ps))
      ahead s =
          let qs = s.later in
          let k = before-both m laws (cost_across m (between p.ducts a x)) (cost_from m p x qs) (cost_from m p x ps) s.no_worse in
          let wider : (z : ℕ) → has z (a ∷ (x ∷ qs)) ≡ true → has z (a ∷ (x ∷ ps)) ≡ true = λ z h. elim (or_cases (eqb z a) (has z (x ∷ qs)) h) [
            | inl e ↦ or_left (eqb z a) (has z (x ∷ ps)) e
            | inr e ↦ or_right (eqb z a) (has z (x ∷ ps)) (s.among z e)
          ] in
          elim (cases_Bool (has a (x ∷ qs))) [
            | inl e ↦
                let r = onwards b a a x qs (cut b a x qs s.leads s.simple e) in
                record {
                  later = r.later;
                  leads = r.leads;
                  simple = r.simple;
                  among = λ z h. wider z (r.among z h);
                  no_worse = laws.transitive (cost_from m p a r.later) (cost_from m p a (x ∷ qs)) (cost_from m p a (x ∷ ps)) r.no_worse k;
                }
            | inr e ↦ record { later = x ∷ qs; leads = (t.0, t.1, s.leads); simple = (e, s.simple); among = wider; no_worse = k }
          ]

  pub cut_down : (a b : ℕ) (ps : List ℕ) → Way p a b ps → CutDown m p a b ps
  cut_down a b [] w = absurd w
  cut_down a b (x ∷ ps) (e, t) =
      let s = straighten b x ps t in
      record { pits = x ∷ s.later; way = (e, s.leads); simple = s.simple; among = s.among; no_worse = s.no_worse }
