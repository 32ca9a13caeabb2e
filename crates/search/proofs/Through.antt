-- From the plan with the ducts between allowed pits alone to the ways through allowed pits.
use Rattle.std.proofs.Common.{◌≡◌, ℕ, ◌<◌, Bool, true, false, List, length, Some, None, Option, sym, refl, ap, ◌∙◌, arith}
use Rattle.std.proofs.lemmas.List.{length-replicate}
use Rattle.std.proofs.lemmas.Bool.{both_ways}
use Rattle.measure.specs.Meaning.{Meaning}
use Rattle.measure.proofs.Lawful.{Lawful}
use Rattle.plan.specs.Ducts.{ducts_keep}
use Rattle.plan.specs.Plans.{PlanSpec}
use Rattle.ways.specs.Best.{BestOf, Best, Written}
use Rattle.ways.specs.Rows.{best_cost}
use Rattle.ways.specs.Ways.{Way}
use Rattle.ways.proofs.Bests.{row_is_best, one_best}
use Rattle.search.specs.declared.marks.Mark.{Mark}
use Rattle.search.specs.declared.marks.Mark.TheVariants.{Unseen}
use Rattle.search.specs.Allowed.{is_allowed, restricted, WayThrough, AllAllowed}
use Rattle.search.specs.Marks.{at, cost_at, route, Linked, Brief, Follows}
use Rattle.search.specs.Searched.{SearchedWhole, Searched}
use Rattle.search.specs.Steps.{none_seen}
use Rattle.search.proofs.Ends.{at_none}
use Rattle.search.proofs.Inv.{opens}
use Rattle.search.proofs.Inside.{way-through, through_way, through_costs, through_end, every-through}

-- the best of some ways is the best of others that are the same lists
same_best : (m : Meaning) (p : PlanSpec) (V W : List ℕ → Type 0) → ((ps : List ℕ) → V ps → W ps) → ((ps : List ℕ) → W ps → V ps) → (o : Option ℕ) → BestOf m p V o → BestOf m p W o
same_best m p V W f g None h = λ ps w. h ps (g ps w)
same_best m p V W f g (Some c) h =
    record {
      some = (let (ps, v, e) = h.some in (ps, f ps v, e));
      every = λ ps w. h.every ps (g ps w);
    }

module _ (m : Meaning) (laws : Lawful m) (al : List Bool) (p : PlanSpec) (b : ℕ) (keep : ducts_keep p.pits p.ducts ≡ true) (ms : List Mark) where
  -- the best of the ways through allowed pits is the best of all, where every pit is allowed
  whole : ((v : ℕ) → BestOf m p (WayThrough al p v b) (cost_at ms v)) → ((v c : ℕ) → cost_at ms v ≡ Some c → Written m p (WayThrough al p v b) c (route ms v)) → AllAllowed al p → SearchedWhole m p b ms
  whole best written every =
      let all : (v : ℕ) → Best m p v b (cost_at ms v) = λ v. same_best m p (WayThrough al p v b) (Way p v b) (λ ps w. w.0) (every-through al p v b every) (cost_at ms v) (best v) in
      record {
        computed = λ v. one_best m laws p v b (cost_at ms v) (best_cost m p v b) (all v) (row_is_best m laws p keep v b);
        best = all;
        written = λ v c e. (let w = written v c e in
            record { way = w.way.0; simple = w.simple; costs = w.costs; best = same_best m p (WayThrough al p v b) (Way p v b) (λ ps w. w.0) (every-through al p v b every) (Some c) w.best });
      }

  module _ (ok : is_allowed al b ≡ true) (size : length ms ≡ p.pits) (found : SearchedWhole m (restricted al p) b ms) where
    into : (v : ℕ) (o : Option ℕ) → Best m (restricted al p) v b o → BestOf m p (WayThrough al p v b) o
    into v None h = λ ps w. h ps (through_way al p v b ps w)
    into v (Some c) h =
        record {
          some = (let (ps, w, e) = h.some in (ps, way-through al p v b ps ok w, sym (through_costs al p v b m ps w) ∙ e));
          every = λ ps w. (let u = through_way al p v b ps w in rw (through_costs al p v b m ps u) at (h.every ps u));
        }

    best : (v : ℕ) → BestOf m p (WayThrough al p v b) (cost_at ms v)
    best v = into v (cost_at ms v) (found.best v)

    written : (v c : ℕ) → cost_at ms v ≡ Some c → Written m p (WayThrough al p v b) c (route ms v)
    written v c e =
        let w = found.written v c e in
        record {
          way = way-through al p v b (route ms v) ok w.way;
          simple = w.simple;
          costs = sym (through_costs al p v b m (route ms v) w.way) ∙ w.costs;
          best = into v (Some c) w.best;
        }

    -- a search to a pit that is allowed
    pub searched-through : Searched m al p b ms
    searched-through =
        record { places = size; computed = λ v. rw ok (found.computed v); best = best; written = written; whole = whole best written }

  module _ (off : is_allowed al b ≡ false) (below : b < p.pits) (size : length ms ≡ p.pits) (none : (v : ℕ) → cost_at ms v ≡ None) where
    no_way : (v : ℕ) → BestOf m p (WayThrough al p v b) None
    no_way v ps w = both_ways (is_allowed al b) off (through_end al p v b ps w)

    -- a search to a pit that is not allowed
    pub searched-off : Searched m al p b ms
    searched-off =
        record {
          places = size;
          computed = λ v. rw off (none v);
          best = λ v. rw (none v) (no_way v);
          written = λ v c e. (let q = none v in let z : ◌≡◌ {A = ℕ} 0 1 = cc in absurd (omega arith));
          whole = λ every. absurd (both_ways (is_allowed al b) off (every b below));
        }

-- no pit is seen
module _ (n : ℕ) (ms : List Mark) (is : ms ≡ none_seen n) where
  at-unseen : (v : ℕ) → at ms v ≡ Unseen
  at-unseen v = rw is (at_none n v)

  pub unseen-cost : (v : ℕ) → cost_at ms v ≡ None
  unseen-cost v = rw (at-unseen v) refl

  pub unseen-closed : (v : ℕ) → opens ms v ≡ false
  unseen-closed v = rw (at-unseen v) refl

  pub unseen-size : length ms ≡ n
  unseen-size = ap length is ∙ length-replicate n Unseen

  pub unseen-linked : Linked ms
  unseen-linked v h = absurd (both_ways false refl (rw (at-unseen v) at h))

  pub unseen-brief : Brief ms
  unseen-brief v h = absurd (both_ways false refl (rw (at-unseen v) at h))

  pub unseen-follows : (ns : List ℕ) → Follows ms ns
  unseen-follows ns v h = absurd (both_ways false refl (rw (at-unseen v) at h))
