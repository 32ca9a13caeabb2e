-- A walk along the pits of a list, joining costs on the way.
use Rattle.std.proofs.Common.{◌≡◌, ℕ, ◌+◌, ◌<◌, ◌≤◌, Bool, true, false, cond, ◌&&◌, eqb, ltb, List, [], ◌∷◌, length, get_or, drop, is_some, Some, None, Option, sym, refl, ap, ◌∙◌, inl, inr, arith}
use Rattle.std.proofs.lemmas.List.{drop_more, drop_all}
use Rattle.std.proofs.lemmas.Bool.{both_ways, or_cases, and_parts, and_from, eqb-true, lt-ltb, ltb-true}
use Rattle.measure.specs.Meaning.{Meaning, IsCost}
use Rattle.measure.proofs.Lawful.{Lawful}
use Rattle.plan.specs.declared.ducts.Duct.{Duct}
use Rattle.plan.specs.Ducts.{joins, between, ducts_keep}
use Rattle.plan.specs.Plans.{PlanSpec}
use Rattle.plan.proofs.Keeping.{keep_front}
use Rattle.plan.proofs.Ruling.{own_rules}
use Rattle.ways.specs.Ways.{Leads, Way, cost_of_duct, cost_across, cost_from, cost_of}
use Rattle.ways.specs.Pits.{leads_on, is_way, cost_of_pits, CostOfPits}
use Rattle.ways.proofs.Cut.{cost_fits}

-- two pits that a duct joins are on the plan
pub joined_below : (n : ℕ) (ds : List Duct) (a b : ℕ) → ducts_keep n ds ≡ true → is_some (between ds a b) ≡ true → (a < n) × (b < n)
unfolding between
joined_below n [] a b keep h = absurd (both_ways false refl h)
joined_below n (d ∷ ds) a b keep h = go (joins d a b) refl (joined_below n ds a b (keep_front n d ds keep).rest) h
  where
    ends : joins d a b ≡ true → (a < n) × (b < n)
    ends j =
        let r = own_rules n d (keep_front n d ds keep).own in
        let rising = r.rising in
        let on = r.on_plan in
        elim (or_cases (eqb d.first a && eqb d.second b) (eqb d.first b && eqb d.second a) j) [
          | inl e ↦ (let (k, l) = and_parts _ _ e in let x = eqb-true d.first a k in let y = eqb-true d.second b l in (omega arith, omega arith))
          | inr e ↦ (let (k, l) = and_parts _ _ e in let x = eqb-true d.first b k in let y = eqb-true d.second a l in (omega arith, omega arith))
        ]

    go : (t : Bool) → joins d a b ≡ t → (is_some (between ds a b) ≡ true → (a < n) × (b < n)) → is_some (cond t (Some d) (between ds a b)) ≡ true → (a < n) × (b < n)
    go true e on h = ends e
    go false e on h = on h

-- after i of the later pits: `here` was come to at this cost, and what is left leads on as the whole does
pub record Walking (m : Meaning) (p : PlanSpec) (first : ℕ) (later : List ℕ) (i here cost : ℕ) : Type 0 where
  pub below : here < p.pits
  pub fits : IsCost m cost
  pub onward : (b : ℕ) → Leads p first b later → Leads p here b (drop i later)
  pub whole : (b : ℕ) → Leads p here b (drop i later) → Leads p first b later
  pub costs : cost_from m p first later ≡ m.join cost (cost_from m p here (drop i later))

module _ (m : Meaning) (laws : Lawful m) (p : PlanSpec) (first : ℕ) (later : List ℕ) where
  pub walk_starts : first < p.pits → Walking m p first later 0 first m.still
  walk_starts l =
      record {
        below = l;
        fits = laws.still-fits;
        onward = λ b t. t;
        whole = λ b t. t;
        costs = sym (laws.commutative m.still (cost_from m p first later) ∙ laws.neutral (cost_from m p first later) (cost_fits m laws p first later));
      }

  module _ (i here cost : ℕ) (inv : Walking m p first later i here cost) where
    module _ (z : ℕ) (within : i < length later) where
      abbrev next : ℕ
      next = get_or later i z

      split : drop i later ≡ next ∷ drop (i + 1) later
      split = drop_more later i z within

      pub walk-on : (d : Duct) → ducts_keep p.pits p.ducts ≡ true → between p.ducts here next ≡ Some d → Walking m p first later (i + 1) next (m.join cost (cost_of_duct m d))
      walk-on d keep e =
          record {
            below = (joined_below p.pits p.ducts here next keep (ap is_some e)).1;
            fits = laws.join-fits cost (cost_of_duct m d);
            onward = λ b t. (rw split at (inv.onward b t)).2;
            whole = λ b t. inv.whole b (rw split (inv.below, ap is_some e, t));
            costs = inv.costs ∙ ap (λ xs. m.join cost (cost_from m p here xs)) split ∙ ap (λ o. m.join cost (m.join (cost_across m o) (cost_from m p next (drop (i + 1) later)))) e
                ∙ sym (laws.associative cost (cost_of_duct m d) (cost_from m p next (drop (i + 1) later)));
          }

      pub walk-broken : between p.ducts here next ≡ None → (a b : ℕ) → Way p a b (first ∷ later) → ⊥
      walk-broken e a b w = both_ways false refl (rw e at (rw split at (inv.onward b w.1)).1)

    pub walk_ends : length later ≤ i → (a : ℕ) × (b : ℕ) × Way p a b (first ∷ later) × (cost_of m p (first ∷ later) ≡ cost)
    walk_ends l =
        let none = drop_all i later l in (
          first,
          here,
          (refl, inv.whole here (rw none (refl, inv.below))),
          inv.costs ∙ ap (λ xs. m.join cost (cost_from m p here xs)) none ∙ laws.neutral cost inv.fits,
        )

-- pits with the first off the plan are no way
pub off_plan : (p : PlanSpec) (x : ℕ) (ps : List ℕ) → p.pits ≤ x → (a b : ℕ) → Way p a b (x ∷ ps) → ⊥
off_plan p x [] l a b w = (let below = w.1.1 in omega arith)
off_plan p x (y ∷ ps) l a b w = (let below = w.1.0 in omega arith)

-- the test of a way, and what it says
leads_on_lem : (p : PlanSpec) (a b : ℕ) (ps : List ℕ) → Leads p a b ps → leads_on p a ps ≡ true
leads_on_lem p a b [] t = lt-ltb a p.pits t.1
leads_on_lem p a b (x ∷ ps) t = and_from (ltb a p.pits) _ (lt-ltb a p.pits t.0) (and_from (is_some (between p.ducts a x)) _ t.1 (leads_on_lem p x b ps t.2))

on_leads : (p : PlanSpec) (a : ℕ) (ps : List ℕ) → leads_on p a ps ≡ true → (b : ℕ) × Leads p a b ps
on_leads p a [] h = (a, (refl, ltb-true a p.pits h))
on_leads p a (x ∷ ps) h =
    let (l, r) = and_parts (ltb a p.pits) (is_some (between p.ducts a x) && leads_on p x ps) h in
    let (j, k) = and_parts (is_some (between p.ducts a x)) (leads_on p x ps) r in
    let (b, t) = on_leads p x ps k in
    (b, (ltb-true a p.pits l, j, t))

way-is : (p : PlanSpec) (a b : ℕ) (ps : List ℕ) → Way p a b ps → is_way p ps ≡ true
way-is p a b [] w = absurd w
way-is p a b (x ∷ ps) w = leads_on_lem p x b ps w.1

is_way_lem : (p : PlanSpec) (ps : List ℕ) → is_way p ps ≡ true → (a : ℕ) × (b : ℕ) × Way p a b ps
is_way_lem p [] h = absurd (both_ways false refl h)
is_way_lem p (x ∷ ps) h = (let (b, t) = on_leads p x ps h in (x, b, (refl, t)))

-- so the cost of a list of pits is one value
pub cost_is : (m : Meaning) (p : PlanSpec) (ps : List ℕ) (o : Option ℕ) → CostOfPits m p ps o → o ≡ cost_of_pits m p ps
cost_is m p ps None f = go (is_way p ps) refl
  where
    go : (t : Bool) → is_way p ps ≡ t → None ≡ cond t (Some (cost_of m p ps)) None
    go true e = (let (a, b, w) = is_way_lem p ps e in absurd (f a b w))
    go false e = refl
cost_is m p ps (Some c) (a, b, w, e) = rw (way-is p a b ps w) (ap Some (sym e))
