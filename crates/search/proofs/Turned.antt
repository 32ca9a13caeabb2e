-- A whole turn: the best open pit is settled, and its ducts are relaxed.
use Rattle.std.proofs.Common.{◌≡◌, ℕ, zero, suc, ◌<◌, ◌≤◌, Bool, true, false, cond, ◌&&◌, ◌⊎◌, List, [], ◌∷◌, length, is_some, Some, filter, sym, refl, ap, ◌∙◌, inl, inr, arith, length-set}
use Rattle.std.specs.List.{All}
use Rattle.std.proofs.lemmas.List.Elements.{All-from_recursion, All-head, All-tail}
use Rattle.std.proofs.lemmas.List.{get_or-set_same}
use Rattle.std.proofs.lemmas.Bool.{both_ways, cond_both, cases_eq}
use Rattle.measure.specs.Meaning.{Meaning}
use Rattle.measure.proofs.Lawful.{Lawful, reflexive}
use Rattle.plan.specs.declared.ducts.Duct.{Duct}
use Rattle.plan.specs.Ducts.{joins, between, ducts_keep}
use Rattle.plan.specs.Plans.{PlanSpec}
use Rattle.ways.specs.Ways.{Adjacent, cost_across}
use Rattle.ways.proofs.Found.{Found, found}
use Rattle.search.specs.declared.marks.Mark.{Mark}
use Rattle.search.specs.declared.marks.Mark.TheVariants.{Unseen, Settled}
use Rattle.search.specs.declared.marks.SeenPit.{SeenPit}
use Rattle.search.specs.Allowed.{is_allowed, may_use, inside, restricted}
use Rattle.search.specs.Frontier.{BestOpenPit}
use Rattle.search.specs.Index.{duct_at}
use Rattle.search.specs.Marks.{at, route_of, route_at}
use Rattle.search.specs.Steps.{route_by, far_end, offered_at, relax, relax_down, settled, turned}
use Rattle.search.proofs.Inside.{inside-between, inside-keep, joins-may, cond-some}
use Rattle.search.proofs.Inv.{seen, opens, done, Reach, Kept, Inv, Phase, seen_open, seen_below, set-read, left_less, link_stays, left, is_seen}
use Rattle.search.proofs.Offers.{Goes, goes_nowhere, end_goes}

-- k settled, before its ducts are gone through
module _ (m : Meaning) (laws : Lawful m) (p : PlanSpec) (b : ℕ) (ms : List Mark) (I : Inv m p b ms) (k : SeenPit) (pick : BestOpenPit m ms 0 (length ms) k) where
  abbrev after : List Mark
  after = settled k ms

  sees : seen ms k.pit ≡ true
  sees = rw pick.opened refl

  fresh : done ms k.pit ≡ false
  fresh = rw pick.opened refl

  holds : route_at ms k.pit ≡ k.route
  holds = ap route_of pick.opened

  at_here : at after k.pit ≡ Settled k.route
  at_here = get_or-set_same ms k.pit (Settled k.route) Unseen (seen_below ms k.pit sees)

  stays : (s : ℕ) → done ms s ≡ true → at after s ≡ at ms s
  stays s g =
      elim (set-read ms k.pit (Settled k.route) s) [
        | inl e ↦ e
        | inr e ↦ absurd (both_ways (done ms k.pit) fresh (rw (← e.0) g))
      ]

  -- seen as before, with the cost and the way that it had
  record Same (new old : Mark) : Type 0 where
    was : is_seen new ≡ true → is_seen old ≡ true
    now : is_seen old ≡ true → is_seen new ≡ true
    route : route_of new ≡ route_of old

  same : (v : ℕ) → Same (at after v) (at ms v)
  same v =
      elim (set-read ms k.pit (Settled k.route) v) [
        | inl e ↦ rw e (record { was = λ q. q; now = λ q. q; route = refl })
        | inr e ↦ rw (e.1, e.0) (record { was = λ q. sees; now = λ q. refl; route = sym holds })
      ]

  -- what is settled now
  settled-now : (s : ℕ) → done after s ≡ true → (s ≡ k.pit) ⊎ (done ms s ≡ true)
  settled-now s g =
      elim (set-read ms k.pit (Settled k.route) s) [
        | inl e ↦ inr (rw (← e) g)
        | inr e ↦ inl e.0
      ]

  open_now : (v : ℕ) → opens after v ≡ true → opens ms v ≡ true
  open_now v g =
      elim (set-read ms k.pit (Settled k.route) v) [
        | inl e ↦ rw (← e) g
        | inr e ↦ absurd (both_ways false refl (rw e.1 at g))
      ]

  reach_now : (v c : ℕ) → Reach m ms v c → Reach m after v c
  reach_now v c r = (let q = same v in record { is = q.now r.is; good = rw q.route r.good })

  less : suc (left after) ≡ left ms
  less = left_less ms k.pit (Settled k.route) refl fresh (seen_below ms k.pit sees)

  kept : Kept m p b after
  kept =
      let K = I.kept in
      record {
        size = length-set ms k.pit (Settled k.route) ∙ K.size;
        linked = λ v g. (let q = same v in rw q.route (link_stays m p b ms after stays (route_at ms v) v (K.linked v (q.was g))));
        goal = reach_now b m.still K.goal;
        near = λ v g. (let q = same v in let n = K.near v (q.was g) in rw q.route (omega (arith, less)));
        brief = λ v g. elim (settled-now v g) [
          | inl e ↦ (let n = rw holds at (K.near k.pit sees) in rw (e, at_here) (omega (arith, less)))
          | inr e ↦ rw (stays v e) (K.brief v e)
        ];
      }

  settle_phase : Phase m p b k after
  settle_phase =
      let K = I.kept in
      record {
        kept = kept;
        here = at_here;
        low = λ s g. elim (settled-now s g) [
          | inl e ↦ rw (e, at_here) (reflexive m laws _)
          | inr e ↦ rw (stays s e) (rw holds at (I.order s k.pit e (rw pick.opened refl)))
        ];
        high = λ v g. (let o = open_now v g in let q = same v in rw q.route (pick.best v (omega arith) (seen_below ms v (seen_open (at ms v) o)) o));
        relaxed = λ s v g ne j. elim (settled-now s g) [
          | inl e ↦ absurd (ne e)
          | inr e ↦ rw (stays s e) (reach_now v _ (I.relaxed s v e j))
        ];
        room = let n = rw holds at (K.near k.pit sees) in omega (arith, less);
      }

-- what holds of each that passes holds of one that does
kept_at : (P : Duct → Type 0) (t : Duct → Bool) (ds : List Duct) (j : ℕ) → All P (filter t ds) → j < length ds → t (duct_at ds j) ≡ true → P (duct_at ds j)
kept_at P t [] j a l e = absurd (omega arith)
kept_at P t (d ∷ ds) zero a l e = All-head P d (filter t ds) (rw e at a)
kept_at P t (d ∷ ds) (suc j) a l e = kept_at P t ds j (rest (t d) a) (omega arith) e
  where
    rest : (s : Bool) → All P (cond s (d ∷ filter t ds) (filter t ds)) → All P (filter t ds)
    rest true a = All-tail P d (filter t ds) a
    rest false a = a

-- where the duct between x and u stands
record Placed (ds : List Duct) (x u : ℕ) : Type 0 where
  place : ℕ
  within : place < length ds
  ends : joins (duct_at ds place) x u ≡ true
  is : between ds x u ≡ Some (duct_at ds place)

between-place : (ds : List Duct) (x u : ℕ) → is_some (between ds x u) ≡ true → Placed ds x u
unfolding between
between-place [] x u z = absurd (both_ways false refl z)
between-place (d ∷ ds) x u z = go (joins d x u) refl (between-place ds x u) z
  where
    go : (t : Bool) → joins d x u ≡ t → (is_some (between ds x u) ≡ true → Placed ds x u) → is_some (cond t (Some d) (between ds x u)) ≡ true → Placed (d ∷ ds) x u
    go true e ih z = record { place = 0; within = omega arith; ends = e; is = rw e refl }
    go false e ih z = (let k = ih z in record { place = suc k.place; within = (let l = k.within in omega arith); ends = k.ends; is = rw e k.is })

-- the ducts of a turn, one after the other
module _ (m : Meaning) (laws : Lawful m) (al : List Bool) (q : PlanSpec) (keep : ducts_keep q.pits q.ducts ≡ true) (b : ℕ) (k : SeenPit) where
  abbrev p : PlanSpec
  p = restricted al q

  -- the duct at j, if it may be used, was relaxed
  abbrev Hit : ℕ → List Mark → Type 0
  Hit j ms = (x : ℕ) → may_use al (duct_at q.ducts j) ≡ true → joins (duct_at q.ducts j) x k.pit ≡ true → Reach m ms x (route_by m k (duct_at q.ducts j)).cost

  stands : (j : ℕ) → j < length q.ducts → may_use al (duct_at q.ducts j) ≡ true → Found p.pits p.ducts (duct_at q.ducts j)
  stands j l e = kept_at (Found p.pits p.ducts) (may_use al) q.ducts j (All-from_recursion (Found p.pits p.ducts) p.ducts (found p.pits p.ducts (inside-keep al q.pits q.ducts keep))) l e

  one_goes : (j : ℕ) (ms : List Mark) → j < length q.ducts → Phase m p b k ms
      → Goes m p b k ms (relax m al k (duct_at q.ducts j) ms) × Hit j (relax m al k (duct_at q.ducts j) ms)
  unfolding relax
  one_goes j ms l P =
      cond_both (may_use al (duct_at q.ducts j)) (offered_at m (far_end (duct_at q.ducts j) k.pit) (route_by m k (duct_at q.ducts j)) ms) ms (λ ns. Goes m p b k ms ns × Hit j ns)
      (λ e. (let (g, f) = end_goes m laws p b k (duct_at q.ducts j) ms (stands j l e) P in (g, λ x r i. f x i)))
      (λ e. (goes_nowhere m p b k ms P, λ x r i. absurd (both_ways (may_use al (duct_at q.ducts j)) e r)))

  down_goes : (i : ℕ) (ms : List Mark) → i ≤ length q.ducts → Phase m p b k ms
      → Goes m p b k ms (relax_down m al k q.ducts i ms) × ((j : ℕ) → j < i → Hit j (relax_down m al k q.ducts i ms))
  unfolding relax_down
  down_goes zero ms l P = (goes_nowhere m p b k ms P, λ j l. absurd (omega arith))
  down_goes (suc i) ms l P =
      let (g, hit) = one_goes i ms (omega arith) P in
      let (more, rest) = down_goes i (relax m al k (duct_at q.ducts i) ms) (omega arith) g.phase in (
        record { phase = more.phase; reach = λ v c r. more.reach v c (g.reach v c r); remains = more.remains ∙ g.remains },
        λ j under x e s. elim (cases_eq j i) [
          | inl is ↦ more.reach x _ (rw is (hit x (rw is at e) (rw is at s)))
          | inr ne ↦ rest j (omega arith) x e s
        ],
      )

-- the turn of the best open pit
module _ (m : Meaning) (laws : Lawful m) (al : List Bool) (q : PlanSpec) (keep : ducts_keep q.pits q.ducts ≡ true) (b : ℕ) (ms : List Mark) (I : Inv m (restricted al q) b ms) (k : SeenPit) (pick : BestOpenPit m ms 0 (length ms) k) where
  abbrev r : PlanSpec
  r = restricted al q

  pub turn_room : k.route.hops < q.pits
  turn_room = (let p = (settle_phase m laws r b ms I k pick).room in omega arith)

  pub turn : Inv m r b (turned m al q.ducts k ms) × (left (turned m al q.ducts k ms) < left ms)
  unfolding turned
  turn =
      let end = relax_down m al k q.ducts (length q.ducts) (settled k ms) in
      let (goes, hits) = down_goes m laws al q keep b k (length q.ducts) (settled k ms) (omega arith) (settle_phase m laws r b ms I k pick) in
      let P = goes.phase in
      let near : (v : ℕ) → Adjacent r v k.pit → Reach m end v (m.join (cost_across m (between (inside al q.ducts) v k.pit)) k.route.cost) = λ v z. (
      let is = inside-between al q.ducts v k.pit in
      let (t, y) = cond-some (is_allowed al v && is_allowed al k.pit) (between q.ducts v k.pit) (rw is at z) in
      let w = between-place q.ducts v k.pit y in
      rw (is, t, w.is) (hits w.place w.within v (joins-may al (duct_at q.ducts w.place) v k.pit w.ends ∙ t) w.ends)
      ) in (
        record {
          kept = P.kept;
          order = λ s v g o. laws.transitive (route_at end s).cost k.route.cost (route_at end v).cost (P.low s g) (P.high v o);
          relaxed = λ s v g j. elim (cases_eq s k.pit) [
            | inl e ↦ rw (e, P.here) (near v (rw e at j))
            | inr ne ↦ P.relaxed s v g ne j
          ];
        },
        omega (arith, less m laws r b ms I k pick, goes.remains),
      )
