-- What the marks keep while a search runs.
use Rattle.std.proofs.Common.{◌≡◌, ℕ, zero, suc, ◌+◌, ◌<◌, ◌≤◌, Bool, true, false, cond, ◌⊎◌, List, [], ◌∷◌, length, set, sym, refl, ap, inl, inr, arith}
use Rattle.std.proofs.lemmas.List.{get_or_past}
use Rattle.std.proofs.lemmas.Bool.{cases_lt, both_ways, not-true, not-false}
use Rattle.measure.specs.Meaning.{Meaning, NoWorse}
use Rattle.plan.specs.Ducts.{between}
use Rattle.plan.specs.Plans.{PlanSpec}
use Rattle.ways.specs.Ways.{Adjacent, cost_across}
use Rattle.search.specs.declared.marks.Mark.{Mark}
use Rattle.search.specs.declared.marks.Mark.TheVariants.{Unseen, Open, Settled}
use Rattle.search.specs.declared.marks.Route.{Route}
use Rattle.search.specs.declared.marks.SeenPit.{SeenPit}
use Rattle.search.specs.Marks.{at, is_open, is_settled, route_of, route_at}
use Rattle.search.specs.Steps.{takes}

-- whether a pit has been seen
abbrev pub is_seen : Mark → Bool
is_seen Unseen = false
is_seen (Open r) = true
is_seen (Settled r) = true

-- how many pits are not settled
abbrev pub left : List Mark → ℕ
left [] = 0
left (k ∷ ms) = cond (is_settled k) (left ms) (suc (left ms))

abbrev pub seen : List Mark → ℕ → Bool
seen ms v = is_seen (at ms v)

abbrev pub opens : List Mark → ℕ → Bool
opens ms v = is_open (at ms v)

abbrev pub done : List Mark → ℕ → Bool
done ms v = is_settled (at ms v)

-- v is seen, at a cost no worse than k
pub record Reach (m : Meaning) (ms : List Mark) (v k : ℕ) : Type 0 where
  pub is : seen ms v ≡ true
  pub good : NoWorse m (route_at ms v).cost k

-- the cost of the duct between two pits
abbrev pub across : Meaning → PlanSpec → ℕ → ℕ → ℕ
across m p v s = cost_across m (between p.ducts v s)

-- the duct between v and s, if there is one, does nothing more for v
abbrev pub Relaxed : Meaning → PlanSpec → List Mark → ℕ → ℕ → Type 0
Relaxed m p ms s v = Adjacent p v s → Reach m ms v (m.join (across m p v s) (route_at ms s).cost)

-- the way k of the pit v goes by a duct to a settled pit
pub record Onward (m : Meaning) (p : PlanSpec) (ms : List Mark) (k : Route) (v : ℕ) : Type 0 where
  pub next : done ms k.next ≡ true
  pub duct : Adjacent p v k.next
  pub costs : k.cost ≡ m.join (across m p v k.next) (route_at ms k.next).cost
  pub nearer : k.hops ≡ suc (route_at ms k.next).hops

-- the way k is that of the goal b
pub record AtGoal (m : Meaning) (b : ℕ) (k : Route) (v : ℕ) : Type 0 where
  pub here : v ≡ b
  pub costs : k.cost ≡ m.still
  pub none : k.hops ≡ 0

abbrev pub Link : Meaning → PlanSpec → ℕ → List Mark → Route → ℕ → Type 0
Link m p b ms k v = AtGoal m b k v ⊎ Onward m p ms k v

pub record Kept (m : Meaning) (p : PlanSpec) (b : ℕ) (ms : List Mark) : Type 0 where
  pub size : length ms ≡ p.pits
  pub linked : (v : ℕ) → seen ms v ≡ true → Link m p b ms (route_at ms v) v
  pub goal : Reach m ms b m.still
  pub near : (v : ℕ) → seen ms v ≡ true → (route_at ms v).hops + left ms ≤ p.pits
  pub brief : (v : ℕ) → done ms v ≡ true → (route_at ms v).hops < p.pits

-- between two turns
pub record Inv (m : Meaning) (p : PlanSpec) (b : ℕ) (ms : List Mark) : Type 0 where
  pub kept : Kept m p b ms
  pub order : (s v : ℕ) → done ms s ≡ true → opens ms v ≡ true → NoWorse m (route_at ms s).cost (route_at ms v).cost
  pub relaxed : (s v : ℕ) → done ms s ≡ true → Relaxed m p ms s v

-- within the turn of the pit k
pub record Phase (m : Meaning) (p : PlanSpec) (b : ℕ) (k : SeenPit) (ms : List Mark) : Type 0 where
  pub kept : Kept m p b ms
  pub here : at ms k.pit ≡ Settled k.route
  pub low : (s : ℕ) → done ms s ≡ true → NoWorse m (route_at ms s).cost k.route.cost
  pub high : (v : ℕ) → opens ms v ≡ true → NoWorse m k.route.cost (route_at ms v).cost
  pub relaxed : (s v : ℕ) → done ms s ≡ true → (s ≡ k.pit → ⊥) → Relaxed m p ms s v
  pub room : (k.route.hops + 1) + left ms ≤ p.pits

-- marks
pub seen_done : (k : Mark) → is_settled k ≡ true → is_seen k ≡ true
seen_done Unseen e = e
seen_done (Open r) e = refl
seen_done (Settled r) e = refl

pub seen_open : (k : Mark) → is_open k ≡ true → is_seen k ≡ true
seen_open Unseen e = e
seen_open (Open r) e = refl
seen_open (Settled r) e = refl

pub seen_cases : (k : Mark) → is_seen k ≡ true → (is_open k ≡ true) ⊎ (is_settled k ≡ true)
seen_cases Unseen e = inl e
seen_cases (Open r) e = inl refl
seen_cases (Settled r) e = inr refl

-- an offer that is taken, and one that is refused
pub taken_fresh : (m : Meaning) (k : Mark) (c : ℕ) → takes m k c ≡ true → is_settled k ≡ false
taken_fresh m Unseen c e = refl
taken_fresh m (Open r) c e = refl
taken_fresh m (Settled r) c e = sym e

pub taken_better : (m : Meaning) (k : Mark) (c : ℕ) → takes m k c ≡ true → is_seen k ≡ true → m.no_worse (route_of k).cost c ≡ false
taken_better m Unseen c e h = absurd (both_ways false refl h)
taken_better m (Open r) c e h = not-true _ e
taken_better m (Settled r) c e h = absurd (both_ways false refl e)

pub refused_seen : (m : Meaning) (k : Mark) (c : ℕ) → takes m k c ≡ false → is_seen k ≡ true
refused_seen m Unseen c e = absurd (both_ways true e refl)
refused_seen m (Open r) c e = refl
refused_seen m (Settled r) c e = refl

pub refused_worse : (m : Meaning) (k : Mark) (c : ℕ) → takes m k c ≡ false → (is_settled k ≡ true) ⊎ NoWorse m (route_of k).cost c
refused_worse m Unseen c e = absurd (both_ways true e refl)
refused_worse m (Open r) c e = inr (not-false _ e)
refused_worse m (Settled r) c e = inl refl

-- nothing stands past the end
pub seen_below : (ms : List Mark) (v : ℕ) → seen ms v ≡ true → v < length ms
seen_below ms v h =
    elim (cases_lt v (length ms)) [
      | inl l ↦ l
      | inr l ↦ absurd (both_ways false refl (rw (get_or_past ms v Unseen l) at h))
    ]

-- a write
pub set-read : (ms : List Mark) (x : ℕ) (k : Mark) (v : ℕ) → (at (set ms x k) v ≡ at ms v) ⊎ ((v ≡ x) × (at (set ms x k) v ≡ k))
set-read [] x k v = inl refl
set-read (y ∷ ys) zero k zero = inr (refl, refl)
set-read (y ∷ ys) zero k (suc v) = inl refl
set-read (y ∷ ys) (suc x) k zero = inl refl
set-read (y ∷ ys) (suc x) k (suc v) = elim (set-read ys x k v) [ inl e ↦ inl e | inr e ↦ inr (ap suc e.0, e.1) ]

-- as many are left where a write settles nothing, and one fewer where it settles
pub left_same : (ms : List Mark) (x : ℕ) (k : Mark) → is_settled k ≡ false → done ms x ≡ false → left (set ms x k) ≡ left ms
left_same [] x k f g = refl
left_same (y ∷ ys) zero k f g = rw (f, g)
left_same (y ∷ ys) (suc x) k f g = rw (left_same ys x k f g)

pub left_less : (ms : List Mark) (x : ℕ) (k : Mark) → is_settled k ≡ true → done ms x ≡ false → x < length ms → suc (left (set ms x k)) ≡ left ms
left_less [] x k f g l = absurd (omega arith)
left_less (y ∷ ys) zero k f g l = rw (f, g)
left_less (y ∷ ys) (suc x) k f g l =
    let ih = left_less ys x k f g (omega arith) in
    elim (is_settled y) as (λ t. suc (cond t (left (set ys x k)) (suc (left (set ys x k)))) ≡ cond t (left ys) (suc (left ys))) [ true ↦ ih | false ↦ ap suc ih ]

-- a link stays where what is settled stays
pub link_stays : (m : Meaning) (p : PlanSpec) (b : ℕ) (ms ns : List Mark) → ((s : ℕ) → done ms s ≡ true → at ns s ≡ at ms s) → (k : Route) (v : ℕ) → Link m p b ms k v → Link m p b ns k v
link_stays m p b ms ns f k v (inl e) = inl e
link_stays m p b ms ns f k v (inr e) =
    let q = f k.next e.next in
    inr (record { next = rw q e.next; duct = e.duct; costs = rw q e.costs; nearer = rw q e.nearer })
