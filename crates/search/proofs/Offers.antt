-- An offer to one pit within a turn, and one duct relaxed.
use Rattle.std.proofs.Common.{◌≡◌, ℕ, ◌<◌, Bool, true, false, cond, ◌&&◌, eqb, ◌⊎◌, List, length, set, is_some, Some, None, Option, refl, ap, ◌∙◌, inl, inr, add-one, arith, length-set}
use Rattle.std.proofs.lemmas.List.{get_or-set_same}
use Rattle.std.proofs.lemmas.Bool.{both_ways, cond_both, or_cases, and_parts, eqb-true, ne_eqb}
use Rattle.measure.specs.Meaning.{Meaning, NoWorse}
use Rattle.measure.proofs.Lawful.{Lawful, other_way, reflexive, longer}
use Rattle.plan.specs.declared.ducts.Duct.{Duct}
use Rattle.plan.specs.Ducts.{joins, between}
use Rattle.plan.specs.Plans.{PlanSpec}
use Rattle.ways.specs.Ways.{cost_of_duct}
use Rattle.ways.proofs.Found.{Found, between-swap}
use Rattle.search.specs.declared.marks.Mark.{Mark}
use Rattle.search.specs.declared.marks.Mark.TheVariants.{Unseen, Open, Settled}
use Rattle.search.specs.declared.marks.Route.{Route}
use Rattle.search.specs.declared.marks.SeenPit.{SeenPit}
use Rattle.search.specs.Allowed.{may_use}
use Rattle.search.specs.Marks.{at, route_at}
use Rattle.search.specs.Steps.{takes, offered, offered_at, far_end, route_by, relax}
use Rattle.search.proofs.Inv.{done, Reach, Kept, Phase, taken_fresh, taken_better, refused_seen, refused_worse, set-read, left_same, link_stays, left}

-- the offer was taken at v
pub record Took (m : Meaning) (x : ℕ) (new : Route) (ms : List Mark) (v : ℕ) : Type 0 where
  pub here : v ≡ x
  pub reads : at (offered m x new ms) v ≡ Open new
  pub better : takes m (at ms x) new.cost ≡ true

offer_read : (m : Meaning) (x : ℕ) (new : Route) (ms : List Mark) (v : ℕ) → (at (offered m x new ms) v ≡ at ms v) ⊎ Took m x new ms v
offer_read m x new ms v =
    cond_both (takes m (at ms x) new.cost) (set ms x (Open new)) ms (λ ns. (at ns v ≡ at ms v) ⊎ Took m x new ms v)
    (λ e. elim (set-read ms x (Open new) v) [ inl q ↦ inl q | inr q ↦ inr (record { here = q.0; reads = rw e q.1; better = e }) ])
    (λ e. inl refl)

offer_length : (m : Meaning) (x : ℕ) (new : Route) (ms : List Mark) → length (offered m x new ms) ≡ length ms
offer_length m x new ms =
    cond_both (takes m (at ms x) new.cost) (set ms x (Open new)) ms (λ ns. length ns ≡ length ms) (λ e. length-set ms x (Open new)) (λ e. refl)

end_length : (m : Meaning) (o : Option ℕ) (new : Route) (ms : List Mark) → length (offered_at m o new ms) ≡ length ms
end_length m None new ms = refl
end_length m (Some x) new ms = offer_length m x new ms

pub relax_length : (m : Meaning) (al : List Bool) (k : SeenPit) (d : Duct) (ms : List Mark) → length (relax m al k d ms) ≡ length ms
unfolding relax
relax_length m al k d ms =
    cond_both (may_use al d) (offered_at m (far_end d k.pit) (route_by m k d) ms) ms (λ ns. length ns ≡ length ms)
    (λ e. end_length m (far_end d k.pit) (route_by m k d) ms) (λ e. refl)

offer_left : (m : Meaning) (x : ℕ) (new : Route) (ms : List Mark) → left (offered m x new ms) ≡ left ms
offer_left m x new ms =
    cond_both (takes m (at ms x) new.cost) (set ms x (Open new)) ms (λ ns. left ns ≡ left ms)
    (λ e. left_same ms x (Open new) refl (taken_fresh m (at ms x) new.cost e)) (λ e. refl)

-- the way on to k is offered to x, by the duct d between them
module _ (m : Meaning) (laws : Lawful m) (p : PlanSpec) (b : ℕ) (k : SeenPit) (ms : List Mark) (P : Phase m p b k ms) (d : Duct) (x : ℕ) (below : x < p.pits) (found : between p.ducts x k.pit ≡ Some d) where
  abbrev new : Route
  new = route_by m k d

  abbrev after : List Mark
  after = offered m x new ms

  new_worse : NoWorse m k.route.cost new.cost
  new_worse = longer m laws (cost_of_duct m d) k.route.cost

  stays : (s : ℕ) → done ms s ≡ true → at after s ≡ at ms s
  stays s g =
      elim (offer_read m x new ms s) [
        | inl e ↦ e
        | inr e ↦ absurd (both_ways (done ms x) (taken_fresh m (at ms x) new.cost e.better) (rw (← e.here) g))
      ]

  undone : (s : ℕ) → done after s ≡ true → done ms s ≡ true
  undone s g =
      elim (offer_read m x new ms s) [
        | inl e ↦ rw (← e) g
        | inr e ↦ absurd (both_ways false refl (rw e.reads at g))
      ]

  pub offer_reach : (v c : ℕ) → Reach m ms v c → Reach m after v c
  offer_reach v c r =
      elim (offer_read m x new ms v) [
        | inl e ↦ record { is = rw e r.is; good = rw e r.good }
        | inr e ↦
            let worse : m.no_worse (route_at ms v).cost new.cost ≡ false = rw e.here (taken_better m (at ms x) new.cost e.better (rw (← e.here) r.is)) in
            record { is = rw e.reads refl; good = rw e.reads (laws.transitive new.cost (route_at ms v).cost c (other_way m laws _ _ worse) r.good) }
      ]

  pub offer_hits : Reach m after x new.cost
  offer_hits =
      let size = P.kept.size in
      let reads = get_or-set_same ms x (Open new) Unseen (omega arith) in
      cond_both (takes m (at ms x) new.cost) (set ms x (Open new)) ms (λ ns. Reach m ns x new.cost)
      (λ e. record { is = rw reads refl; good = rw reads (reflexive m laws new.cost) })
      (λ e. record {
        is = refused_seen m (at ms x) new.cost e;
        good = elim (refused_worse m (at ms x) new.cost e) [
          | inl q ↦ laws.transitive (route_at ms x).cost k.route.cost new.cost (P.low x q) new_worse
          | inr q ↦ q
        ];
      })

  -- the pit k stays settled
  still_here : at after k.pit ≡ Settled k.route
  still_here = stays k.pit (rw P.here refl) ∙ P.here

  pub same_left : left after ≡ left ms
  same_left = offer_left m x new ms

  kept : Kept m p b after
  kept =
      record {
        size = offer_length m x new ms ∙ P.kept.size;
        linked = λ v g. elim (offer_read m x new ms v) [
          | inl e ↦ rw e (link_stays m p b ms after stays (route_at ms v) v (P.kept.linked v (rw e at g)))
          | inr e ↦
              rw (e.reads, e.here) (inr (record {
                next = rw still_here refl;
                duct = ap is_some found;
                costs = rw (still_here, found);
                nearer = rw (still_here, add-one);
              }))
        ];
        goal = offer_reach b m.still P.kept.goal;
        near = λ v g. rw same_left (elim (offer_read m x new ms v) [ inl e ↦ rw e (P.kept.near v (rw e at g)) | inr e ↦ rw e.reads P.room ]);
        brief = λ v g. (let q = undone v g in rw (stays v q) (P.kept.brief v q));
      }

  pub offer_keeps : Phase m p b k after
  offer_keeps =
      record {
        kept = kept;
        here = still_here;
        low = λ s g. (let q = undone s g in rw (stays s q) (P.low s q));
        high = λ v g. elim (offer_read m x new ms v) [ inl e ↦ rw e (P.high v (rw e at g)) | inr e ↦ rw e.reads new_worse ];
        relaxed = λ s v g ne j. (let q = undone s g in rw (stays s q) (offer_reach v _ (P.relaxed s v q ne j)));
        room = rw same_left P.room;
      }

-- the far end of a duct
far_joins : (d : Duct) (u x : ℕ) → d.first < d.second → joins d x u ≡ true → far_end d u ≡ Some x
far_joins d u x l j =
    elim (or_cases (eqb d.first x && eqb d.second u) (eqb d.first u && eqb d.second x) j) [
      | inl e ↦
          let (f, s) = and_parts (eqb d.first x) (eqb d.second u) e in
          let fx = eqb-true d.first x f in
          let su = eqb-true d.second u s in
          rw (ne_eqb d.first u (λ q. omega arith), s) (ap Some fx)
      | inr e ↦
          let (f, s) = and_parts (eqb d.first u) (eqb d.second x) e in
          rw f (ap Some (eqb-true d.second x s))
    ]

far_found : (n : ℕ) (ds : List Duct) (d : Duct) (u y : ℕ) → Found n ds d → far_end d u ≡ Some y → (y < n) × (between ds y u ≡ Some d)
far_found n ds d u y k e = go (eqb d.first u) (eqb d.second u) refl refl e
  where
    go : (s t : Bool) → eqb d.first u ≡ s → eqb d.second u ≡ t → cond s (Some d.second) (cond t (Some d.first) None) ≡ Some y → (y < n) × (between ds y u ≡ Some d)
    go true t es et q =
        let is : d.second ≡ y = cc in
        rw (← is, ← (eqb-true d.first u es)) (k.below, between-swap ds d.second d.first ∙ k.there)
    go false true es et q =
        let is : d.first ≡ y = cc in
        let l = k.rising in
        let o = k.below in
        rw (← is, ← (eqb-true d.second u et)) (omega arith, k.there)
    go false false es et q = let z : ◌≡◌ {A = ℕ} 0 1 = cc in absurd (omega arith)

-- from ms to ns nothing gets worse, and the turn of k goes on
pub record Goes (m : Meaning) (p : PlanSpec) (b : ℕ) (k : SeenPit) (ms ns : List Mark) : Type 0 where
  pub phase : Phase m p b k ns
  pub reach : (v c : ℕ) → Reach m ms v c → Reach m ns v c
  pub remains : left ns ≡ left ms

pub goes_nowhere : (m : Meaning) (p : PlanSpec) (b : ℕ) (k : SeenPit) (ms : List Mark) → Phase m p b k ms → Goes m p b k ms ms
goes_nowhere m p b k ms P = record { phase = P; reach = λ v c r. r; remains = refl }

-- the duct d is offered to its far end
pub end_goes : (m : Meaning) → Lawful m → (p : PlanSpec) (b : ℕ) (k : SeenPit) (d : Duct) (ms : List Mark) → Found p.pits p.ducts d → Phase m p b k ms
    → Goes m p b k ms (offered_at m (far_end d k.pit) (route_by m k d) ms) × ((x : ℕ) → joins d x k.pit ≡ true → Reach m (offered_at m (far_end d k.pit) (route_by m k d) ms) x (route_by m k d).cost)
end_goes m laws p b k d ms f P = go (far_end d k.pit) refl
  where
    go : (o : Option ℕ) → far_end d k.pit ≡ o
        → Goes m p b k ms (offered_at m o (route_by m k d) ms) × ((x : ℕ) → joins d x k.pit ≡ true → Reach m (offered_at m o (route_by m k d) ms) x (route_by m k d).cost)
    go None e = (goes_nowhere m p b k ms P, λ x j. (let q = far_joins d k.pit x f.rising j in let z : ◌≡◌ {A = ℕ} 0 1 = cc in absurd (omega arith)))
    go (Some y) e =
        let (l, q) = far_found p.pits p.ducts d k.pit y f e in (
          record { phase = offer_keeps m laws p b k ms P d y l q; reach = offer_reach m laws p b k ms P d y l q; remains = same_left m laws p b k ms P d y l q },
          λ x j. (let r = far_joins d k.pit x f.rising j in let is : x ≡ y = cc in rw is (offer_hits m laws p b k ms P d y l q)),
        )
