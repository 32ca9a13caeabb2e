-- What the rows of costs hold: each cost is that of a way, and after enough rounds no way is better.
use Rattle.std.proofs.Common.{◌≡◌, ℕ, zero, suc, ◌<◌, ◌≤◌, Bool, true, false, cond, ◌⊎◌, List, [], ◌∷◌, length, is_some, Some, None, Option, sym, refl, ap, ◌∙◌, ap₂, inl, inr, arith}
use Rattle.std.specs.List.{AllByRecursion}
use Rattle.std.proofs.lemmas.Bool.{eqb-true, or_cases, both_ways, and_parts, cond_both, cases_lt}
use Rattle.measure.specs.Meaning.{Meaning, NoWorse}
use Rattle.measure.proofs.Lawful.{Lawful, other_way, reflexive, before-both}
use Rattle.plan.specs.declared.ducts.Duct.{Duct}
use Rattle.plan.specs.Ducts.{joins, between}
use Rattle.plan.specs.Plans.{PlanSpec}
use Rattle.ways.specs.Ways.{Leads, cost_of_duct, cost_across, cost_from}
use Rattle.ways.specs.Rows.{better, along, entry, improve, relax_row, sweep, rounds, no_costs, start}

-- a row's entry is as good as c
abbrev pub Reaches : Meaning → Option ℕ → ℕ → Type 0
Reaches m None c = ⊥
Reaches m (Some x) c = NoWorse m x c

-- an entry of the row at v, if it is there, is the cost of a way to b
abbrev pub Real : Meaning → PlanSpec → ℕ → ℕ → Option ℕ → Type 0
Real m p b v None = Unit {0}
Real m p b v (Some c) = (ps : List ℕ) × Leads p v b ps × (cost_from m p v ps ≡ c)

abbrev pub RealRow : Meaning → PlanSpec → ℕ → List (Option ℕ) → Type 0
RealRow m p b row = (v : ℕ) → Real m p b v (entry row v)

length-improve : (m : Meaning) (v : ℕ) (o : Option ℕ) (row : List (Option ℕ)) → length (improve m v o row) ≡ length row
length-improve m v o [] = refl
length-improve m zero o (x ∷ xs) = refl
length-improve m (suc v) o (x ∷ xs) = ap suc (length-improve m v o xs)

at-improve : (m : Meaning) (v : ℕ) (o : Option ℕ) (row : List (Option ℕ)) (u : ℕ) → (entry (improve m v o row) u ≡ entry row u) ⊎ ((u ≡ v) × (entry (improve m v o row) u ≡ better m (entry row u) o))
at-improve m v o [] u = inl refl
at-improve m zero o (x ∷ xs) zero = inr (refl, refl)
at-improve m zero o (x ∷ xs) (suc u) = inl refl
at-improve m (suc v) o (x ∷ xs) zero = inl refl
at-improve m (suc v) o (x ∷ xs) (suc u) =
    elim (at-improve m v o xs u) [ inl e ↦ inl e | inr e ↦ inr (ap suc e.0, e.1) ]

at-improved : (m : Meaning) (v : ℕ) (o : Option ℕ) (row : List (Option ℕ)) → v < length row → entry (improve m v o row) v ≡ better m (entry row v) o
at-improved m v o [] h = absurd (omega arith)
at-improved m zero o (x ∷ xs) h = refl
at-improved m (suc v) o (x ∷ xs) h = at-improved m v o xs (omega arith)

improve-far : (m : Meaning) (v : ℕ) (o : Option ℕ) (row : List (Option ℕ)) → length row ≤ v → improve m v o row ≡ row
improve-far m v o [] h = refl
improve-far m zero o (x ∷ xs) h = absurd (omega arith)
improve-far m (suc v) o (x ∷ xs) h = ap (λ r. x ∷ r) (improve-far m v o xs (omega arith))

none_entry : (n v : ℕ) → entry (no_costs n) v ≡ None
unfolding no_costs
none_entry zero v = refl
none_entry (suc n) zero = refl
none_entry (suc n) (suc v) = none_entry n v

length_none : (n : ℕ) → length (no_costs n) ≡ n
unfolding no_costs
length_none zero = refl
length_none (suc n) = ap suc (length_none n)

-- d is the duct between its ends, and they are pits of the plan
pub record Stands (p : PlanSpec) (d : Duct) : Type 0 where
  pub first : d.first < p.pits
  pub second : d.second < p.pits
  pub there : between p.ducts d.first d.second ≡ Some d
  pub back : between p.ducts d.second d.first ≡ Some d

-- each cost of a row is the cost of a way
module _ (m : Meaning) (p : PlanSpec) (b : ℕ) where
  better-real : (v : ℕ) (x y : Option ℕ) → Real m p b v x → Real m p b v y → Real m p b v (better m x y)
  better-real v None y r s = s
  better-real v (Some x) None r s = r
  better-real v (Some x) (Some y) r s = elim (m.no_worse x y) as (λ t. Real m p b v (Some (cond t x y))) [ true ↦ r | false ↦ s ]

  improve-real : (v : ℕ) (o : Option ℕ) (row : List (Option ℕ)) → Real m p b v o → RealRow m p b row → RealRow m p b (improve m v o row)
  improve-real v o row r s u =
      elim (at-improve m v o row u) [
        | inl e ↦ rw e (s u)
        | inr e ↦ rw e.1 (better-real u (entry row u) o (s u) (rw e.0 r))
      ]

  -- across the duct d from v to u
  along-real : (v u : ℕ) (d : Duct) (o : Option ℕ) → v < p.pits → between p.ducts v u ≡ Some d → Real m p b u o → Real m p b v (along m (cost_of_duct m d) o)
  along-real v u d None l e r = tt
  along-real v u d (Some c) l e (ps, t, k) = (u ∷ ps, (l, ap is_some e, t), ap₂ m.join (ap (cost_across m) e) k)

  relax-real : (d : Duct) (row : List (Option ℕ)) → Stands p d → RealRow m p b row → RealRow m p b (relax_row m d row)
  unfolding relax_row
  relax-real d row s r =
      let one = improve-real d.second _ row (along-real d.second d.first d (entry row d.first) s.second s.back (r d.first)) r in
      improve-real d.first _ _ (along-real d.first d.second d _ s.first s.there (one d.second)) one

  sweep-real : (ds : List Duct) (row : List (Option ℕ)) → AllByRecursion (Stands p) ds → RealRow m p b row → RealRow m p b (sweep m ds row)
  unfolding sweep
  sweep-real [] row s r = r
  sweep-real (d ∷ ds) row s r = sweep-real ds (relax_row m d row) s.1 (relax-real d row s.0 r)

  pub rounds-real : (k : ℕ) (row : List (Option ℕ)) → AllByRecursion (Stands p) p.ducts → RealRow m p b row → RealRow m p b (rounds m p.ducts k row)
  unfolding rounds
  rounds-real zero row s r = r
  rounds-real (suc k) row s r = sweep-real p.ducts _ s (rounds-real k row s r)

  pub start-real : RealRow m p b (start m p.pits b)
  unfolding start
  start-real v =
      elim (cases_lt b p.pits) [
        | inl l ↦ improve-real b (Some m.still) _ ([], (refl, l), refl) (λ v. rw (none_entry p.pits v) tt) v
        | inr l ↦ rw (improve-far m b (Some m.still) (no_costs p.pits) (rw (length_none p.pits) l), none_entry p.pits v) tt
      ]

-- the rounds change no length
length-relax : (m : Meaning) (d : Duct) (row : List (Option ℕ)) → length (relax_row m d row) ≡ length row
unfolding relax_row
length-relax m d row = length-improve m _ _ _ ∙ length-improve m _ _ row

length-sweep : (m : Meaning) (ds : List Duct) (row : List (Option ℕ)) → length (sweep m ds row) ≡ length row
unfolding sweep
length-sweep m [] row = refl
length-sweep m (d ∷ ds) row = length-sweep m ds (relax_row m d row) ∙ length-relax m d row

length-rounds : (m : Meaning) (ds : List Duct) (k : ℕ) (row : List (Option ℕ)) → length (rounds m ds k row) ≡ length row
unfolding rounds
length-rounds m ds zero row = refl
length-rounds m ds (suc k) row = length-sweep m ds _ ∙ length-rounds m ds k row

pub length-start : (m : Meaning) (n b : ℕ) → n ≡ length (start m n b)
unfolding start
length-start m n b = sym (length-improve m b (Some m.still) (no_costs n) ∙ length_none n)

-- nothing gets worse, and what stands at one end of a duct is known at the other
module _ (m : Meaning) (laws : Lawful m) where
  better-left : (x y : Option ℕ) (c : ℕ) → Reaches m x c → Reaches m (better m x y) c
  better-left None y c h = absurd h
  better-left (Some x) None c h = h
  better-left (Some x) (Some y) c h = cond_both (m.no_worse x y) x y (λ z. NoWorse m z c) (λ e. h) (λ e. laws.transitive y x c (other_way m laws x y e) h)

  better-right : (x y : Option ℕ) (c : ℕ) → Reaches m y c → Reaches m (better m x y) c
  better-right None y c h = h
  better-right (Some x) None c h = absurd h
  better-right (Some x) (Some y) c h = cond_both (m.no_worse x y) x y (λ z. NoWorse m z c) (λ e. laws.transitive x y c e h) (λ e. h)

  improve-keeps : (v : ℕ) (o : Option ℕ) (row : List (Option ℕ)) (u c : ℕ) → Reaches m (entry row u) c → Reaches m (entry (improve m v o row) u) c
  improve-keeps v o row u c h =
      elim (at-improve m v o row u) [
        | inl e ↦ rw e h
        | inr e ↦ rw e.1 (better-left (entry row u) o c h)
      ]

  improve-hits : (v : ℕ) (o : Option ℕ) (row : List (Option ℕ)) (c : ℕ) → v < length row → Reaches m o c → Reaches m (entry (improve m v o row) v) c
  improve-hits v o row c l h = rw (at-improved m v o row l) (better-right (entry row v) o c h)

  along-reaches : (w : ℕ) (o : Option ℕ) (c : ℕ) → Reaches m o c → Reaches m (along m w o) (m.join w c)
  along-reaches w None c h = h
  along-reaches w (Some x) c h = before-both m laws w x c h

  relax-keeps : (d : Duct) (row : List (Option ℕ)) (u c : ℕ) → Reaches m (entry row u) c → Reaches m (entry (relax_row m d row) u) c
  unfolding relax_row
  relax-keeps d row u c h = improve-keeps d.first _ _ u c (improve-keeps d.second _ row u c h)

  sweep-keeps : (ds : List Duct) (row : List (Option ℕ)) (u c : ℕ) → Reaches m (entry row u) c → Reaches m (entry (sweep m ds row) u) c
  unfolding sweep
  sweep-keeps [] row u c h = h
  sweep-keeps (d ∷ ds) row u c h = sweep-keeps ds (relax_row m d row) u c (relax-keeps d row u c h)

  rounds-keeps : (ds : List Duct) (k : ℕ) (row : List (Option ℕ)) (u c : ℕ) → Reaches m (entry row u) c → Reaches m (entry (rounds m ds k row) u) c
  unfolding rounds
  rounds-keeps ds zero row u c h = h
  rounds-keeps ds (suc k) row u c h = sweep-keeps ds _ u c (rounds-keeps ds k row u c h)

  relax-second : (d : Duct) (row : List (Option ℕ)) (c : ℕ) → d.second < length row → Reaches m (entry row d.first) c → Reaches m (entry (relax_row m d row) d.second) (m.join (cost_of_duct m d) c)
  unfolding relax_row
  relax-second d row c l h = improve-keeps d.first _ _ d.second _ (improve-hits d.second _ row _ l (along-reaches (cost_of_duct m d) _ c h))

  relax-first : (d : Duct) (row : List (Option ℕ)) (c : ℕ) → d.first < length row → Reaches m (entry row d.second) c → Reaches m (entry (relax_row m d row) d.first) (m.join (cost_of_duct m d) c)
  unfolding relax_row
  relax-first d row c l h =
      improve-hits d.first _ _ _ (rw (length-improve m d.second (along m (cost_of_duct m d) (entry row d.first)) row) l)
      (along-reaches (cost_of_duct m d) _ c (improve-keeps d.second _ row d.second c h))

  relax-joins : (p : PlanSpec) (d : Duct) (row : List (Option ℕ)) (a x c : ℕ) → joins d a x ≡ true → Stands p d → p.pits ≡ length row → Reaches m (entry row x) c
      → Reaches m (entry (relax_row m d row) a) (m.join (cost_of_duct m d) c)
  relax-joins p d row a x c j s n h =
      elim (or_cases _ _ j) [
        | inl e ↦ (let (k, l) = and_parts _ _ e in rw (← (eqb-true d.first a k)) (relax-first d row c (rw n at s.first) (rw (eqb-true d.second x l) h)))
        | inr e ↦ (let (k, l) = and_parts _ _ e in rw (← (eqb-true d.second a l)) (relax-second d row c (rw n at s.second) (rw (eqb-true d.first x k) h)))
      ]

  sweep-reaches : (p : PlanSpec) (ds : List Duct) (row : List (Option ℕ)) (a x c : ℕ) → AllByRecursion (Stands p) ds → p.pits ≡ length row → Reaches m (entry row x) c
      → is_some (between ds a x) ≡ true → Reaches m (entry (sweep m ds row) a) (m.join (cost_across m (between ds a x)) c)
  unfolding sweep between
  sweep-reaches p [] row a x c s n h z = absurd (both_ways false refl z)
  sweep-reaches p (d ∷ ds) row a x c s n h z = go (joins d a x) refl (sweep-reaches p ds (relax_row m d row) a x c s.1 (n ∙ sym (length-relax m d row)) (relax-keeps d row x c h)) z
    where
      go : (t : Bool) → joins d a x ≡ t → (is_some (between ds a x) ≡ true → Reaches m (entry (sweep m ds (relax_row m d row)) a) (m.join (cost_across m (between ds a x)) c))
          → is_some (cond t (Some d) (between ds a x)) ≡ true → Reaches m (entry (sweep m ds (relax_row m d row)) a) (m.join (cost_across m (cond t (Some d) (between ds a x))) c)
      go true e ih z = sweep-keeps ds (relax_row m d row) a _ (relax-joins p d row a x c e s.0 n h)
      go false e ih z = ih z

  -- k rounds see every way of at most k ducts
  pub rounds-reaches : (p : PlanSpec) (b k : ℕ) (row : List (Option ℕ)) (a : ℕ) (ps : List ℕ) → AllByRecursion (Stands p) p.ducts → p.pits ≡ length row → Reaches m (entry row b) m.still
      → length ps ≤ k → Leads p a b ps → Reaches m (entry (rounds m p.ducts k row) a) (cost_from m p a ps)
  unfolding rounds
  rounds-reaches p b k row a [] s n h l t = rw t.0 (rounds-keeps p.ducts k row b m.still h)
  rounds-reaches p b zero row a (x ∷ ps) s n h l t = absurd (omega arith)
  rounds-reaches p b (suc k) row a (x ∷ ps) s n h l t =
      sweep-reaches p p.ducts _ a x _ s (n ∙ sym (length-rounds m p.ducts k row)) (rounds-reaches p b k row x ps s n h (omega arith) t.2) t.1

  pub start-reaches : (n b : ℕ) → b < n → Reaches m (entry (start m n b) b) m.still
  unfolding start
  start-reaches n b l = rw (at-improved m b (Some m.still) (no_costs n) (rw (length_none n) l), none_entry n b) (reflexive m laws m.still)
