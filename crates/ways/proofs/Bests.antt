-- The computed costs are the best, and there is one best.
use Rattle.std.proofs.Common.{◌≡◌, ℕ, suc, ◌≤◌, true, List, ◌∷◌, length, Some, None, Option, refl, ap, ◌∙◌, arith}
use Rattle.std.specs.List.{AllByRecursion}
use Rattle.std.proofs.ByRecursion.{All-weaker}
use Rattle.measure.specs.Meaning.{Meaning, NoWorse}
use Rattle.measure.proofs.Lawful.{Lawful}
use Rattle.plan.specs.Ducts.{ducts_keep}
use Rattle.plan.specs.Plans.{PlanSpec}
use Rattle.ways.specs.Ways.{Leads, Way, cost_from, cost_of}
use Rattle.ways.specs.Best.{IsBest, BestOf, Best, WrittenWay}
use Rattle.ways.specs.Rows.{start, best_cost}
use Rattle.ways.proofs.Counted.{pigeonhole}
use Rattle.ways.proofs.Cut.{way-leads, leads_below, end_below, of_fits, straighten, cut_down}
use Rattle.ways.proofs.Found.{Found, found, between-swap}
use Rattle.ways.proofs.Rows.{Reaches, Real, Stands, rounds-real, start-real, length-start, rounds-reaches, start-reaches}

stands : (p : PlanSpec) → ducts_keep p.pits p.ducts ≡ true → AllByRecursion (Stands p) p.ducts
stands p h =
    All-weaker (Found p.pits p.ducts) (Stands p)
    (λ d k. (let l = k.rising in let o = k.below in
    record { first = omega arith; second = k.below; there = k.there; back = between-swap p.ducts d.second d.first ∙ k.there })) p.ducts (found p.pits p.ducts h)

module _ (m : Meaning) (laws : Lawful m) (p : PlanSpec) where
  reaches_more : (o : Option ℕ) (c e : ℕ) → Reaches m o c → NoWorse m c e → Reaches m o e
  reaches_more None c e h n = h
  reaches_more (Some x) c e h n = laws.transitive x c e h n

  module _ (keep : ducts_keep p.pits p.ducts ≡ true) where
    real : (b a : ℕ) → Real m p b a (best_cost m p a b)
    unfolding best_cost
    real b a = rounds-real m p b p.pits (start m p.pits b) (stands p keep) (start-real m p b) a

    -- each way is reached: one with no pit twice within the rounds, and so the others
    reached : (b a : ℕ) (ps : List ℕ) → Leads p a b ps → Reaches m (best_cost m p a b) (cost_from m p a ps)
    unfolding best_cost
    reached b a ps t =
        let s = straighten m laws p b a ps t in
        let qs = s.later in
        let few : suc (length qs) ≤ p.pits = pigeonhole p.pits (a ∷ qs) s.simple (leads_below p b a qs s.leads) in
        let r = rounds-reaches m laws p b p.pits (start m p.pits b) a qs (stands p keep) (length-start m p.pits b) (start-reaches m laws p.pits b (end_below p b a ps t)) (omega arith) s.leads in
        reaches_more (best_cost m p a b) _ _ r s.no_worse

  decide : (a b : ℕ) (o : Option ℕ) → Real m p b a o → ((ps : List ℕ) → Leads p a b ps → Reaches m o (cost_from m p a ps)) → Best m p a b o
  decide a b None r f = λ ps w. (let (qs, t, e) = way-leads m p a b ps w in f qs t)
  decide a b (Some c) (ps, t, e) f =
      record {
        some = (a ∷ ps, (refl, t), e);
        every = λ rs w. (let (vs, v, k) = way-leads m p a b rs w in rw (← k) (f vs v));
      }

  pub row_is_best : ducts_keep p.pits p.ducts ≡ true → (a b : ℕ) → Best m p a b (best_cost m p a b)
  row_is_best keep a b = decide a b (best_cost m p a b) (real keep b a) (reached keep b a)

  -- two best costs of the same ways are equal
  pub one_of : (W : List ℕ → Type 0) (x y : Option ℕ) → BestOf m p W x → BestOf m p W y → x ≡ y
  one_of W None None f g = refl
  one_of W None (Some y) f g = absurd (f g.some.0 g.some.1)
  one_of W (Some x) None f g = absurd (g f.some.0 f.some.1)
  one_of W (Some x) (Some y) f g =
      let (ps, v, d) = f.some in
      let (qs, w, e) = g.some in
      ap Some (laws.antisymmetric x y (rw (← d) (of_fits m laws p ps)) (rw (← e) (of_fits m laws p qs)) (rw e at (f.every qs w)) (rw d at (g.every ps v)))

  pub one_best : (a b : ℕ) (x y : Option ℕ) → Best m p a b x → Best m p a b y → x ≡ y
  one_best a b x y f g = one_of (Way p a b) x y f g

  -- a way of the best cost, cut down, is a written way
  best-written : (a b c : ℕ) → IsBest m p (Way p a b) c → (qs : List ℕ) × WrittenWay m p a b c qs
  best-written a b c l =
      let (ps, v, e) = l.some in
      let k = cut_down m laws p a b ps v in
      let no-worse = rw e at k.no_worse in
      let fits = rw e at (of_fits m laws p ps) in (
        k.pits,
        record {
          way = k.way;
          simple = k.simple;
          costs = laws.antisymmetric (cost_of m p k.pits) c (of_fits m laws p k.pits) fits no-worse (l.every k.pits k.way);
          best = l;
        },
      )

  pub way-written : ducts_keep p.pits p.ducts ≡ true → (a b : ℕ) (ps : List ℕ) → Way p a b ps → (c : ℕ) × (qs : List ℕ) × WrittenWay m p a b c qs
  way-written keep a b ps w = go (best_cost m p a b) (row_is_best keep a b)
    where
      go : (o : Option ℕ) → Best m p a b o → (c : ℕ) × (qs : List ℕ) × WrittenWay m p a b c qs
      go None f = absurd (f ps w)
      go (Some c) l = (let (qs, v) = best-written a b c l in (c, qs, v))
