-- The index: how it is made, and a walk along the ducts of one pit.
use Rattle.std.proofs.Common.{◌≡◌, ℕ, zero, suc, ◌+◌, ◌<◌, ◌≤◌, Bool, true, false, cond, eqb, List, length, set, replicate, Some, None, Option, sym, refl, ap, ◌∙◌, subst, inl, inr, add-one, arith, length-set}
use Rattle.std.proofs.lemmas.List.{get_or-set_same, get_or-set_other, get_or-replicate}
use Rattle.std.proofs.lemmas.Bool.{both_ways, cond_both, cases_eq, eq-eqb, ne_eqb, eqb-true, or_cases, or_parts, or_left, or_right, or_from}
use Rattle.measure.specs.Meaning.{Meaning}
use Rattle.plan.specs.declared.ducts.Duct.{Duct}
use Rattle.plan.specs.Plans.{PlanSpec}
use Rattle.plan.specs.Rules.{Rules}
use Rattle.search.specs.declared.index.Index.{Index}
use Rattle.search.specs.declared.links.Links.{Links}
use Rattle.search.specs.declared.marks.Mark.{Mark}
use Rattle.search.specs.declared.marks.SeenPit.{SeenPit}
use Rattle.search.specs.Allowed.{may_use}
use Rattle.search.specs.Index.{duct_at, touches, last_at, links_of, head_at, links_at, HeadsTo, LinksTo, before, put_heads, put_links}
use Rattle.search.specs.Steps.{Within, far_end, route_by, offered_at, relax, relax_down}

-- one more duct
head_more : (ds : List Duct) (i : ℕ) (hs : List (Option ℕ)) (u : ℕ) → u < length hs → head_at hs u ≡ last_at ds u i → head_at (put_heads hs (duct_at ds i) i) u ≡ cond (touches (duct_at ds i) u) (Some i) (last_at ds u i)
head_more ds i hs u l e =
    let d = duct_at ds i in
    elim (cases_eq u d.second) [
      | inl q ↦
          let t : touches d u ≡ true = or_right (eqb d.first u) (eqb d.second u) (eq-eqb d.second u (sym q)) in
          rw (t, q) (get_or-set_same (set hs d.first (Some i)) d.second (Some i) None (rw (length-set hs d.first (Some i), ← q) l))
      | inr n ↦
          get_or-set_other (set hs d.first (Some i)) d.second u (Some i) None n ∙ elim (cases_eq u d.first) [
            | inl q ↦
                let t : touches d u ≡ true = or_left (eqb d.first u) (eqb d.second u) (eq-eqb d.first u (sym q)) in
                rw (t, q) (get_or-set_same hs d.first (Some i) None (rw (← q) l))
            | inr k ↦
                let t : touches d u ≡ false = or_from (eqb d.first u) (eqb d.second u) (ne_eqb d.first u (λ z. k (sym z))) (ne_eqb d.second u (λ z. n (sym z))) in
                rw t (get_or-set_other hs d.first u (Some i) None k ∙ e)
          ]
    ]

heads_more : (ds : List Duct) (i : ℕ) (hs : List (Option ℕ)) → HeadsTo ds i hs → HeadsTo ds (i + 1) (put_heads hs (duct_at ds i) i)
unfolding last_at
heads_more ds i hs f u l = rw add-one (let k : u < length hs = rw (length-set (set hs (duct_at ds i).first (Some i)) (duct_at ds i).second (Some i), length-set hs (duct_at ds i).first (Some i)) at l in head_more ds i hs u k (f u k))

links_more : (ds : List Duct) (i : ℕ) (hs : List (Option ℕ)) (ls : List Links) → i < length ls → Within (length hs) (duct_at ds i) → HeadsTo ds i hs → LinksTo ds i ls → LinksTo ds (i + 1) (put_links ls hs (duct_at ds i) i)
links_more ds i hs ls l w f g j k =
    elim (cases_eq j i) [
      | inl q ↦ rw (q, f (duct_at ds i).first w.0, f (duct_at ds i).second w.1) (get_or-set_same ls i (links_of ds i) (record { first = None; second = None }) l)
      | inr n ↦ get_or-set_other ls i j _ (record { first = None; second = None }) n ∙ g j (omega arith)
    ]

-- the index of the first i ducts
pub record IndexedTo (ds : List Duct) (i : ℕ) (x : Index) : Type 0 where
  pub heads : HeadsTo ds i x.heads
  pub links : LinksTo ds i x.links

pub index_more : (ds : List Duct) (i : ℕ) (x y : Index) → i < 1024 → Within 512 (duct_at ds i) → IndexedTo ds i x
    → y.heads ≡ put_heads x.heads (duct_at ds i) i → y.links ≡ put_links x.links x.heads (duct_at ds i) i → IndexedTo ds (i + 1) y
index_more ds i x y l w k eh el =
    let wide = x.wide in
    let long = x.long in
    record {
      heads = subst (HeadsTo ds (i + 1)) (sym eh) (heads_more ds i x.heads k.heads);
      links = subst (LinksTo ds (i + 1)) (sym el) (links_more ds i x.heads x.links (omega arith) (rw wide w) k.heads k.links);
    }

-- no duct yet, in an index with nothing in it
pub index_blank : (ds : List Duct) (x : Index) → x.heads ≡ replicate 512 None → IndexedTo ds 0 x
unfolding last_at
index_blank ds x e =
    record {
      heads = λ u b. rw e (get_or-replicate 512 u None None (let wide = x.wide in omega arith));
      links = λ j b. absurd (omega arith);
    }

pub in_range : (p : PlanSpec) → Rules p → (ds : List Duct) → ds ≡ p.ducts → (i : ℕ) → i < length ds → (i < 1024) × Within 512 (duct_at ds i)
in_range p rules ds e i l =
    let few = rules.few_ducts in
    let pits = rules.few_pits in
    let long = ap length e in
    let d = rules.each i (record { first = 0; second = 0; length = 0; bore = 0 }) (omega arith) in
    let on = d.on_plan in
    let rising = d.rising in
    rw e (omega arith, (omega arith, omega arith))

-- the index of a plan, for its ducts under another name
pub starts_of : (ds es : List Duct) (n : ℕ) (hs : List (Option ℕ)) → ds ≡ es → length es ≡ n → HeadsTo es n hs → HeadsTo ds (length ds) hs
starts_of ds es n hs e f x = rw (e, f) x

pub chained_of : (ds es : List Duct) (n : ℕ) (ls : List Links) → ds ≡ es → length es ≡ n → LinksTo es n ls → LinksTo ds (length ds) ls
chained_of ds es n ls e f x = rw (e, f) x

-- a place of the walk: a duct of the plan that has u as an end
abbrev pub Place : List Duct → ℕ → Option ℕ → Type 0
Place ds u None = Unit {0}
Place ds u (Some j) = (j < length ds) × (touches (duct_at ds j) u ≡ true)

-- how many ducts are left from a place on, at most
abbrev pub ahead : Option ℕ → ℕ
ahead None = 0
ahead (Some j) = suc j

last_place : (ds : List Duct) (u i : ℕ) → i ≤ length ds → Place ds u (last_at ds u i)
unfolding last_at
last_place ds u zero l = tt
last_place ds u (suc i) l = cond_both (touches (duct_at ds i) u) (Some i) (last_at ds u i) (Place ds u) (λ e. (omega arith, e)) (λ e. last_place ds u i (omega arith))

last_less : (ds : List Duct) (u i : ℕ) → ahead (last_at ds u i) ≤ i
unfolding last_at
last_less ds u zero = omega arith
last_less ds u (suc i) = (let ih = last_less ds u i in cond_both (touches (duct_at ds i) u) (Some i) (last_at ds u i) (λ o. ahead o ≤ suc i) (λ e. omega arith) (λ e. omega arith))

-- the duct before j at u
before-is : (ds : List Duct) (ls : List Links) (n u j : ℕ) → LinksTo ds n ls → j < n → touches (duct_at ds j) u ≡ true → before (duct_at ds j) u (links_at ls j) ≡ last_at ds u j
before-is ds ls n u j x l t =
    rw (x j l) (cond_both (eqb (duct_at ds j).first u) (last_at ds (duct_at ds j).first j) (last_at ds (duct_at ds j).second j) (λ o. o ≡ last_at ds u j)
    (λ e. ap (λ z. last_at ds z j) (eqb-true (duct_at ds j).first u e))
    (λ e. elim (or_cases (eqb (duct_at ds j).first u) (eqb (duct_at ds j).second u) t) [
      | inl k ↦ absurd (both_ways (eqb (duct_at ds j).first u) e k)
      | inr k ↦ ap (λ z. last_at ds z j) (eqb-true (duct_at ds j).second u k)
    ]))

-- a duct that is not at u does nothing
relax-away : (m : Meaning) (al : List Bool) (k : SeenPit) (d : Duct) (ms : List Mark) → touches d k.pit ≡ false → relax m al k d ms ≡ ms
unfolding relax
relax-away m al k d ms t =
    let (f, s) = or_parts (eqb d.first k.pit) (eqb d.second k.pit) t in
    cond_both (may_use al d) (offered_at m (far_end d k.pit) (route_by m k d) ms) ms (λ ns. ns ≡ ms) (λ e. rw (f, s)) (λ e. refl)

module _ (m : Meaning) (al : List Bool) (k : SeenPit) (ds : List Duct) where
  -- what is left to do from a place on
  abbrev pub rest : Option ℕ → List Mark → List Mark
  rest None ms = ms
  rest (Some j) ms = relax_down m al k ds (suc j) ms

  rest_is : (i : ℕ) (ms : List Mark) → relax_down m al k ds i ms ≡ rest (last_at ds k.pit i) ms
  unfolding relax_down last_at
  rest_is zero ms = refl
  rest_is (suc i) ms =
      cond_both (touches (duct_at ds i) k.pit) (Some i) (last_at ds k.pit i) (λ o. relax_down m al k ds (suc i) ms ≡ rest o ms)
      (λ e. refl) (λ e. ap (relax_down m al k ds i) (relax-away m al k (duct_at ds i) ms e) ∙ rest_is i ms)

  -- the walk is at the place o with the marks ms: the ducts from there on give what all of them give
  pub record Walk (old : List Mark) (o : Option ℕ) (ms : List Mark) : Type 0 where
    pub place : Place ds k.pit o
    pub gives : relax_down m al k ds (length ds) old ≡ rest o ms

  pub walk_starts : (hs : List (Option ℕ)) (ms : List Mark) → HeadsTo ds (length ds) hs → k.pit < length hs → Walk ms (head_at hs k.pit) ms
  walk_starts hs ms x l =
      let e = x k.pit l in
      record { place = rw e (last_place ds k.pit (length ds) (omega arith)); gives = rw e (rest_is (length ds) ms) }

  module _ (ls : List Links) (x : LinksTo ds (length ds) ls) (old ms : List Mark) (o : Option ℕ) (j : ℕ) (is : o ≡ Some j) (w : Walk old o ms) where
    pub walk_at : (j < length ds) × (touches (duct_at ds j) k.pit ≡ true)
    walk_at = rw is at w.place

    module _ (o' : Option ℕ) (q : o' ≡ before (duct_at ds j) k.pit (links_at ls j)) where
      next-is : o' ≡ last_at ds k.pit j
      next-is = (let (l, t) = walk_at in q ∙ before-is ds ls (length ds) k.pit j x l t)

      pub walk-falls : ahead o' < ahead o
      walk-falls = rw (is, next-is) (let l = last_less ds k.pit j in omega arith)

      pub walk_more : (ns : List Mark) → ns ≡ relax m al k (duct_at ds j) ms → Walk old o' ns
      unfolding relax_down
      walk_more ns e =
          record {
            place = rw next-is (last_place ds k.pit j (let l = walk_at.0 in omega arith));
            gives = rw (next-is, ← (rest_is j ns), e) (w.gives ∙ ap (λ z. rest z ms) is);
          }
