-- The loops of the search, as the code runs them over a plan and its index.
use Rattle.std.proofs.Common.{◌≡◌, ℕ, ◌<◌, Bool, true, false, List, length, set, Some, None, Option, ◌∙◌, arith}
use Rattle.measure.specs.Laws.{Laws}
use Rattle.measure.specs.Meaning.{Meaning, read}
use Rattle.measure.proofs.Lawful.{lawful}
use Rattle.plan.specs.declared.ducts.Duct.{Duct}
use Rattle.plan.specs.declared.plans.Plan.{Plan}
use Rattle.plan.specs.Fields.{plan_of}
use Rattle.plan.proofs.Ruling.{length-ducts, rules-keep}
use Rattle.search.specs.declared.indexed.IndexedPlan.{IndexedPlan}
use Rattle.search.specs.declared.marks.Mark.{Mark}
use Rattle.search.specs.declared.marks.Mark.TheVariants.{Open}
use Rattle.search.specs.declared.marks.Route.{Route}
use Rattle.search.specs.declared.marks.SeenPit.{SeenPit}
use Rattle.search.specs.Allowed.{is_allowed, restricted}
use Rattle.search.specs.Frontier.{BestOpenPit, BestOpen}
use Rattle.search.specs.Index.{duct_at, links_at, head_at, LinksTo, before}
use Rattle.search.specs.Searched.{plan_in, Filled}
use Rattle.search.specs.Steps.{goal_route, none_seen, relax, turned}
use Rattle.search.proofs.Chains.{starts_of, chained_of, ahead, Walk, walk_starts, walk-falls, walk_more}
use Rattle.search.proofs.Ends.{begins, searched, linked, brief}
use Rattle.search.proofs.Inside.{inside-keep}
use Rattle.search.proofs.Inv.{Inv, left}
use Rattle.search.proofs.Picks.{picked, none_open}
use Rattle.search.proofs.Through.{searched-through, searched-off, unseen-cost, unseen-size, unseen-linked, unseen-brief}
use Rattle.search.proofs.Turned.{turn_room, turn}

-- the ducts of one pit
module _ (m : Meaning) (x : IndexedPlan) (al : List Bool) (k : SeenPit) (ds : List Duct) (is : ds ≡ (plan_in x).ducts) where
  -- the walk from the marks `old` is at the place o with the marks ms
  abbrev pub Walks : List Mark → Option ℕ → List Mark → Type 0
  Walks old o ms = Walk m al k ds old o ms

  pub ducts-start : (ms : List Mark) → k.pit < (plan_in x).pits → Walks ms (head_at x.index.heads k.pit) ms
  ducts-start ms l =
      let small = x.plan.rules.few_pits in
      let wide = x.index.wide in
      walk_starts m al k ds x.index.heads ms (starts_of ds (plan_in x).ducts x.plan.count x.index.heads is (length-ducts x.plan) x.starts) (omega arith)

  module _ (old ms : List Mark) (o : Option ℕ) (j : ℕ) (at_j : o ≡ Some j) (w : Walks old o ms) where
    links : LinksTo ds (length ds) x.index.links
    links = chained_of ds (plan_in x).ducts x.plan.count x.index.links is (length-ducts x.plan) x.chained

    module _ (o' : Option ℕ) (q : o' ≡ before (duct_at ds j) k.pit (links_at x.index.links j)) where
      pub ducts-fall : ahead o' < ahead o
      ducts-fall = walk-falls m al k ds x.index.links links old ms o j at_j w o' q

      pub ducts-more : (ns : List Mark) → ns ≡ relax m al k (duct_at ds j) ms → Walks old o' ns
      ducts-more ns e = walk_more m al k ds x.index.links links old ms o j at_j w o' q ns e

-- the turns of a search
module _ (means : Meaning) (keeps : Laws (read means)) (al : List Bool) (p : Plan) (goal : ℕ) where
  -- the marks between two turns
  abbrev pub Turning : List Mark → Type 0
  Turning ms = Inv (read means) (restricted al (plan_of p)) goal ms

  pub run_starts : (n : ℕ) (clear : List Mark) (first : Route) (begun : List Mark) → clear ≡ none_seen n → n ≡ p.pits → first ≡ goal_route (read means) goal → goal < n → begun ≡ set clear goal (Open first) → Turning begun
  run_starts n clear first begun e f s l b = rw (b, e, f, s) (begins (read means) (lawful means keeps) (restricted al (plan_of p)) goal (omega arith))

  module _ (ms : List Mark) (inv : Turning ms) (o : Option SeenPit) (best : BestOpen (read means) ms 0 (length ms) o) where
    module _ (k : SeenPit) (is : o ≡ Some k) where
      pick : BestOpenPit (read means) ms 0 (length ms) k
      pick = picked (read means) ms 0 (length ms) k o is best

      pub run-below : k.pit < length ms
      run-below = pick.below

      pub run_room : k.route.hops < 512
      run_room = (let r = turn_room (read means) (lawful means keeps) al (plan_of p) (rules-keep (plan_of p) p.rules) goal ms inv k pick in let small = p.rules.few_pits in omega arith)

      pub run-turn : (end : List Mark) → end ≡ turned (read means) al (plan_of p).ducts k ms → Turning end × (left end < left ms)
      run-turn end e = rw e (turn (read means) (lawful means keeps) al (plan_of p) (rules-keep (plan_of p) p.rules) goal ms inv k pick)

    pub run_ends : o ≡ None → is_allowed al goal ≡ true → Filled (read means) al (plan_of p) goal ms
    run_ends none ok =
        let r = restricted al (plan_of p) in
        let found = searched (read means) (lawful means keeps) r goal ms inv (none_open (read means) ms (length ms) o none best) (inside-keep al p.pits (plan_of p).ducts (rules-keep (plan_of p) p.rules)) in
        record {
          searched = searched-through (read means) (lawful means keeps) al (plan_of p) goal (rules-keep (plan_of p) p.rules) ms ok inv.kept.size found;
          linked = linked (read means) (lawful means keeps) r goal ms inv;
          brief = brief (read means) (lawful means keeps) r goal ms inv;
        }

  -- nothing is reached where the goal is not allowed
  pub run_off : (n : ℕ) (ms : List Mark) → ms ≡ none_seen n → n ≡ p.pits → goal < n → is_allowed al goal ≡ false → Filled (read means) al (plan_of p) goal ms
  run_off n ms e f l off =
      record {
        searched = searched-off (read means) (lawful means keeps) al (plan_of p) goal (rules-keep (plan_of p) p.rules) ms off (omega arith) (unseen-size n ms e ∙ f) (unseen-cost n ms e);
        linked = unseen-linked n ms e;
        brief = unseen-brief n ms e;
      }
