-- The beginning of a search and its end.
use Rattle.std.proofs.Common.{◌≡◌, ℕ, zero, suc, ◌<◌, ◌≤◌, true, false, cond, eqb, ltb, ◌⊎◌, List, [], ◌∷◌, length, set, Some, sym, refl, ap, ◌∙◌, inl, inr, arith, length-set}
use Rattle.std.specs.List.{All}
use Rattle.std.proofs.lemmas.List.Elements.{All-nil, All-cons, All-head, All-tail, All-weaker}
use Rattle.std.proofs.lemmas.List.{get_or-set_same, length-replicate}
use Rattle.std.proofs.lemmas.Bool.{both_ways, ne_eqb, or_from, and_parts, and_from, ltb-true, eq-eqb}
use Rattle.measure.specs.Meaning.{Meaning, NoWorse}
use Rattle.measure.proofs.Lawful.{Lawful, reflexive, longer, before-both}
use Rattle.plan.specs.Ducts.{ducts_keep}
use Rattle.plan.specs.Plans.{PlanSpec}
use Rattle.ways.specs.Best.{IsBest, Best, WrittenWay}
use Rattle.ways.specs.Rows.{best_cost}
use Rattle.ways.specs.Ways.{Leads, Way, cost_from, cost_of, has, Simple}
use Rattle.ways.proofs.Bests.{row_is_best, one_best}
use Rattle.search.specs.declared.marks.Mark.{Mark}
use Rattle.search.specs.declared.marks.Mark.TheVariants.{Unseen, Open, Settled}
use Rattle.search.specs.Marks.{at, route_of, route_at, is_settled, settled_cost, cost_at, onward, route, Linked, Brief}
use Rattle.search.specs.Searched.{SearchedWhole}
use Rattle.search.specs.Steps.{none_seen, goal_route}
use Rattle.search.proofs.Inv.{seen, opens, done, Reach, across, Kept, Inv, seen_done, seen_open, seen_cases, seen_below, set-read, left}

-- the beginning
pub at_none : (n v : ℕ) → at (none_seen n) v ≡ Unseen
at_none zero v = refl
at_none (suc n) zero = refl
at_none (suc n) (suc v) = at_none n v

left_most : (ms : List Mark) → left ms ≤ length ms
left_most [] = omega arith
left_most (k ∷ ms) = (let ih = left_most ms in elim (is_settled k) as (λ t. cond t (left ms) (suc (left ms)) ≤ suc (length ms)) [ true ↦ omega arith | false ↦ omega arith ])

module _ (m : Meaning) (laws : Lawful m) (p : PlanSpec) (b : ℕ) (below : b < p.pits) where
  abbrev first : Mark
  first = Open (goal_route m b)

  abbrev begin : List Mark
  begin = set (none_seen p.pits) b first

  begin_size : length begin ≡ p.pits
  begin_size = length-set (none_seen p.pits) b first ∙ length-replicate p.pits Unseen

  begin_read : (v : ℕ) → (at begin v ≡ Unseen) ⊎ ((v ≡ b) × (at begin v ≡ first))
  begin_read v = elim (set-read (none_seen p.pits) b first v) [ inl e ↦ inl (e ∙ at_none p.pits v) | inr e ↦ inr e ]

  begin_here : at begin b ≡ first
  begin_here = get_or-set_same (none_seen p.pits) b first Unseen (rw (length-replicate p.pits Unseen) below)

  begin_seen : (v : ℕ) → seen begin v ≡ true → (v ≡ b) × (at begin v ≡ first)
  begin_seen v g = elim (begin_read v) [ inl e ↦ absurd (both_ways false refl (rw e at g)) | inr e ↦ e ]

  none_done : (v : ℕ) → done begin v ≡ true → ⊥
  none_done v g = elim (begin_read v) [ inl e ↦ both_ways false refl (rw e at g) | inr e ↦ both_ways false refl (rw e.1 at g) ]

  pub begins : Inv m p b begin
  begins =
      record {
        kept = record {
          size = begin_size;
          linked = λ v g. (let q = begin_seen v g in rw q.1 (inl (record { here = q.0; costs = refl; none = refl })));
          goal = record { is = rw begin_here refl; good = rw begin_here (reflexive m laws m.still) };
          near = λ v g. rw (begin_seen v g).1 (omega (arith, left_most begin, begin_size));
          brief = λ v g. absurd (none_done v g);
        };
        order = λ s v g o. absurd (none_done s g);
        relaxed = λ s v g j. absurd (none_done s g);
      }

-- no pit of a way comes again, where each is nearer than the one before
has-not : (ms : List Mark) (v k : ℕ) → (route_at ms v).hops ≡ k → (ys : List ℕ) → All (λ y. (route_at ms y).hops < k) ys → has v ys ≡ false
has-not ms v k q [] a = refl
has-not ms v k q (y ∷ ys) a = or_from (eqb v y) (has v ys) (ne_eqb v y (λ e. (let l = ap (λ x. (route_at ms x).hops) e in let near = All-head (λ z. (route_at ms z).hops < k) y ys a in omega arith))) (has-not ms v k q ys (All-tail (λ z. (route_at ms z).hops < k) y ys a))

known_cases : (k : Mark) (c : ℕ) → settled_cost k ≡ Some c → (is_settled k ≡ true) × ((route_of k).cost ≡ c)
known_cases Unseen c e = (let z : ◌≡◌ {A = ℕ} 0 1 = cc in absurd (omega arith))
known_cases (Open r) c e = (let z : ◌≡◌ {A = ℕ} 0 1 = cc in absurd (omega arith))
known_cases (Settled r) c e = (refl, cc)

-- between two turns: what is settled is settled for good
module _ (m : Meaning) (laws : Lawful m) (p : PlanSpec) (b : ℕ) (ms : List Mark) (I : Inv m p b ms) where
  K : Kept m p b ms
  K = I.kept

  below : (v : ℕ) → seen ms v ≡ true → v < p.pits
  below v g = (let l = seen_below ms v g in let s = K.size in omega arith)

  -- some open pit is no worse than k
  record Ahead (k : ℕ) : Type 0 where
    pit : ℕ
    is : opens ms pit ≡ true
    good : NoWorse m (route_at ms pit).cost k

  -- each way is reached, or goes by an open pit that is no worse than the whole
  ahead : (v : ℕ) (ps : List ℕ) → Leads p v b ps → Reach m ms v (cost_from m p v ps) ⊎ Ahead (cost_from m p v ps)
  ahead v [] t = rw t.0 (inl K.goal)
  ahead v (x ∷ ps) t =
      let w = across m p v x in
      let c = cost_from m p x ps in
      elim (ahead x ps t.2) [
        | inl r ↦ elim (seen_cases (at ms x) r.is) [
          | inl o ↦ inr (record { pit = x; is = o; good = laws.transitive (route_at ms x).cost c (m.join w c) r.good (longer m laws w c) })
          | inr d ↦
              let k = I.relaxed x v d t.1 in
              inl (record { is = k.is; good = laws.transitive (route_at ms v).cost (m.join w (route_at ms x).cost) (m.join w c) k.good (before-both m laws w (route_at ms x).cost c r.good) })
        ]
        | inr a ↦ inr (record { pit = a.pit; is = a.is; good = laws.transitive (route_at ms a.pit).cost c (m.join w c) a.good (longer m laws w c) })
      ]

  settled-lowest : (v : ℕ) → done ms v ≡ true → (ps : List ℕ) → Leads p v b ps → NoWorse m (route_at ms v).cost (cost_from m p v ps)
  settled-lowest v g ps t =
      elim (ahead v ps t) [
        | inl r ↦ r.good
        | inr a ↦ laws.transitive (route_at ms v).cost (route_at ms a.pit).cost (cost_from m p v ps) (I.order v a.pit g a.is) a.good
      ]

  -- the h pits after v are a way of the cost at v, and nearer pits each
  record Chain (h v : ℕ) : Type 0 where
    leads : Leads p v b (onward ms h v)
    costs : cost_from m p v (onward ms h v) ≡ (route_at ms v).cost
    nearer : All (λ y. (route_at ms y).hops < h) (onward ms h v)
    simple : Simple (v ∷ onward ms h v)

  chain : (h v : ℕ) → done ms v ≡ true → (route_at ms v).hops ≡ h → Chain h v
  chain zero v g e =
      elim (K.linked v (seen_done (at ms v) g)) [
        | inl l ↦ record { leads = (l.here, below v (seen_done (at ms v) g)); costs = sym l.costs; nearer = All-nil (λ y. (route_at ms y).hops < zero); simple = (refl, tt) }
        | inr l ↦ absurd (let n = l.nearer in omega arith)
      ]
  chain (suc h) v g e =
      elim (K.linked v (seen_done (at ms v) g)) [
        | inl l ↦ absurd (let n = l.none in omega arith)
        | inr l ↦
            let y = (route_at ms v).next in
            let n = l.nearer in
            let hy : (route_at ms y).hops ≡ h = omega arith in
            let k = chain h y l.next hy in
            let near : All (λ z. (route_at ms z).hops < suc h) (y ∷ onward ms h y) = All-cons (λ z. (route_at ms z).hops < suc h) y (onward ms h y) (omega arith) (All-weaker (λ z. (route_at ms z).hops < h) (λ z. (route_at ms z).hops < suc h) (λ z k. omega arith) (onward ms h y) k.nearer) in
            record {
              leads = (below v (seen_done (at ms v) g), l.duct, k.leads);
              costs = ap (m.join (across m p v y)) k.costs ∙ sym l.costs;
              nearer = near;
              simple = (has-not ms v (suc h) e (y ∷ onward ms h y) near, k.simple);
            }
      ]

  settled-best : (v : ℕ) → done ms v ≡ true → IsBest m p (Way p v b) (route_at ms v).cost
  settled-best v g =
      let k = chain (route_at ms v).hops v g refl in
      record { some = (route ms v, (refl, k.leads), k.costs); every = every }
    where
      every : (ps : List ℕ) → Way p v b ps → NoWorse m (route_at ms v).cost (cost_of m p ps)
      every [] w = absurd w
      every (x ∷ ps) (e, t) = ap (λ (z : ℕ). m.no_worse (route_at ms z).cost (cost_from m p x ps)) (sym e) ∙ settled-lowest x (rw e g) ps t

  settled-written : (v c : ℕ) → cost_at ms v ≡ Some c → WrittenWay m p v b c (route ms v)
  settled-written v c q =
      let (g, e) = known_cases (at ms v) c q in
      let k = chain (route_at ms v).hops v g refl in
      record { way = (refl, k.leads); simple = k.simple; costs = k.costs ∙ e; best = rw e at (settled-best v g) }

  pub linked : Linked ms
  linked v q =
      let (g, z) = and_parts (done ms v) (ltb 0 (route_at ms v).hops) q in
      let l = ltb-true 0 (route_at ms v).hops z in
      elim (K.linked v (seen_done (at ms v) g)) [
        | inl k ↦ absurd (let n = k.none in omega arith)
        | inr k ↦ and_from (done ms (route_at ms v).next) _ k.next (eq-eqb (suc (route_at ms (route_at ms v).next).hops) (route_at ms v).hops (sym k.nearer))
      ]

  pub brief : Brief ms
  brief v g = (let l = K.brief v g in let s = K.size in omega arith)

-- the end, with no pit open
module _ (m : Meaning) (laws : Lawful m) (p : PlanSpec) (b : ℕ) (ms : List Mark) (I : Inv m p b ms) (none : (v : ℕ) → v < length ms → opens ms v ≡ false) where
  not_open : (v : ℕ) → opens ms v ≡ true → ⊥
  not_open v o = both_ways (opens ms v) (none v (seen_below ms v (seen_open (at ms v) o))) o

  -- where there is a way, it was found
  reached : (v : ℕ) (ps : List ℕ) → Way p v b ps → done ms v ≡ true
  reached v [] w = absurd w
  reached v (x ∷ ps) (e, t) =
      elim (ahead m laws p b ms I x ps t) [
        | inl r ↦ elim (seen_cases (at ms x) r.is) [ inl o ↦ absurd (not_open x o) | inr d ↦ rw (← e) d ]
        | inr a ↦ absurd (not_open a.pit a.is)
      ]

  best : (v : ℕ) → Best m p v b (cost_at ms v)
  best v = go (at ms v) refl
    where
      go : (k : Mark) → at ms v ≡ k → Best m p v b (settled_cost k)
      go Unseen e = λ ps w. both_ways false refl (rw e at (reached v ps w))
      go (Open r) e = λ ps w. both_ways false refl (rw e at (reached v ps w))
      go (Settled r) e = rw e at (settled-best m laws p b ms I v (rw e refl))

  pub searched : ducts_keep p.pits p.ducts ≡ true → SearchedWhole m p b ms
  searched keep =
      record {
        computed = λ v. one_best m laws p v b (cost_at ms v) (best_cost m p v b) (best v) (row_is_best m laws p keep v b);
        best = best;
        written = settled-written m laws p b ms I;
      }
