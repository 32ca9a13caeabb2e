-- A way there is a way back, of the same cost.
use Rattle.std.proofs.Common.{◌≡◌, ℕ, ◌<◌, true, List, [], ◌∷◌, Some, None, Option, sym, refl, ap, ◌∙◌}
use Rattle.measure.specs.Meaning.{Meaning}
use Rattle.measure.proofs.Lawful.{Lawful}
use Rattle.plan.specs.Ducts.{between, ducts_keep}
use Rattle.plan.specs.Plans.{PlanSpec}
use Rattle.ways.specs.Ways.{Leads, Way, cost_across, cost_from, cost_of}
use Rattle.ways.specs.Best.{Best}
use Rattle.ways.specs.Rows.{best_cost}
use Rattle.ways.proofs.Bests.{row_is_best, one_best}
use Rattle.ways.proofs.Cut.{cost_fits}
use Rattle.ways.proofs.Found.{between-swap}

module _ (m : Meaning) (laws : Lawful m) (p : PlanSpec) where
  first_below : (b x : ℕ) (ps : List ℕ) → Leads p x b ps → x < p.pits
  first_below b x [] t = t.1
  first_below b x (y ∷ ps) t = t.0

  -- the way ps from x to b, with the way qs from x to a: the way from b to a
  turn_back : (a b x : ℕ) (ps qs : List ℕ) → Leads p x b ps → Leads p x a qs → (rs : List ℕ) × Leads p b a rs × (cost_from m p b rs ≡ m.join (cost_from m p x qs) (cost_from m p x ps))
  turn_back a b x [] qs t s = (qs, rw t.0 at s, ap (λ z. cost_from m p z qs) (sym t.0) ∙ sym (laws.neutral (cost_from m p x qs) (cost_fits m laws p x qs)))
  turn_back a b x (y ∷ ps) qs t s =
      let w = cost_across m (between p.ducts x y) in
      let far = cost_from m p y ps in
      let near = cost_from m p x qs in
      let swap = between-swap p.ducts y x in
      let (rs, u, e) = turn_back a b y ps (x ∷ qs) t.2 (first_below b y ps t.2, rw swap t.1, s) in (
        rs,
        u,
        e ∙ ap (λ z. m.join (m.join (cost_across m z) near) far) swap ∙ ap (λ z. m.join z far) (laws.commutative w near) ∙ laws.associative near w far,
      )

  back : (a b : ℕ) (ps : List ℕ) → Way p a b ps → (rs : List ℕ) × Way p b a rs × (cost_of m p rs ≡ cost_of m p ps)
  back a b [] w = absurd w
  back a b (x ∷ ps) (e, t) =
      let (rs, u, q) = turn_back a b x ps [] t (e, first_below b x ps t) in
      let all = cost_from m p x ps in
      (b ∷ rs, (refl, u), q ∙ laws.commutative m.still all ∙ laws.neutral all (cost_fits m laws p x ps))

  -- the best cost there is the best cost back
  pub best-back : (a b : ℕ) (o : Option ℕ) → Best m p a b o → Best m p b a o
  best-back a b None f = λ ps w. (let (rs, v, e) = back b a ps w in f rs v)
  best-back a b (Some c) l =
      record {
        some = (let (ps, v, d) = l.some in let (rs, w, e) = back a b ps v in (rs, w, e ∙ d));
        every = λ ps w. (let (rs, v, e) = back b a ps w in rw e at (l.every rs v));
      }

  pub same_back : ducts_keep p.pits p.ducts ≡ true → (a b : ℕ) → best_cost m p a b ≡ best_cost m p b a
  same_back keep a b = one_best m laws p a b (best_cost m p a b) (best_cost m p b a) (row_is_best m laws p keep a b) (best-back b a (best_cost m p b a) (row_is_best m laws p keep b a))
