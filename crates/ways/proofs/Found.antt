-- Of ducts that keep the rules each is the one between its ends, either way round.
use Rattle.std.proofs.Common.{◌≡◌, ℕ, ◌<◌, Bool, true, false, cond, ◌&&◌, ◌||◌, eqb, List, [], ◌∷◌, is_some, Some, refl, arith}
use Rattle.std.specs.List.{AllByRecursion}
use Rattle.std.proofs.ByRecursion.{All-weaker}
use Rattle.std.proofs.lemmas.Bool.{both_ways, cond-true}
use Rattle.std.proofs.lemmas.Bool.Decides.{nat_tests}
use Rattle.plan.specs.declared.ducts.Duct.{Duct}
use Rattle.plan.specs.Ducts.{joins, between, ducts_keep}
use Rattle.plan.proofs.Keeping.{keep_front}
use Rattle.plan.proofs.Ruling.{own_rules}

or_swap : (x y : Bool) → (x || y) ≡ (y || x)
or_swap true true = refl
or_swap true false = refl
or_swap false true = refl
or_swap false false = refl

pub joins-swap : (d : Duct) (a b : ℕ) → joins d a b ≡ joins d b a
joins-swap d a b = or_swap (eqb d.first a && eqb d.second b) (eqb d.first b && eqb d.second a)

pub between-swap : (ds : List Duct) (a b : ℕ) → between ds a b ≡ between ds b a
unfolding between
between-swap [] a b = refl
between-swap (d ∷ ds) a b = rw (joins-swap d a b, between-swap ds a b)

joins-self : (d : Duct) → joins d d.first d.second ≡ true
joins-self d = grind (arith, nat_tests)

-- d is on a plan of n pits, and is the duct between its ends
pub record Found (n : ℕ) (ds : List Duct) (d : Duct) : Type 0 where
  pub rising : d.first < d.second
  pub below : d.second < n
  pub there : between ds d.first d.second ≡ Some d

-- of ducts with their ends in order
joins-same : (d e : Duct) → d.first < d.second → e.first < e.second → joins d e.first e.second ≡ true → (d.first ≡ e.first) × (d.second ≡ e.second)
joins-same d e l o j = grind (arith, nat_tests)

-- one more duct in front, between other pits
found_more : (n : ℕ) (d : Duct) (ds : List Duct) → d.first < d.second → is_some (between ds d.first d.second) ≡ false → (e : Duct) → Found n ds e → Found n (d ∷ ds) e
unfolding between
found_more n d ds l z e f = record { rising = f.rising; below = f.below; there = go (joins d e.first e.second) refl }
  where
    go : (t : Bool) → joins d e.first e.second ≡ t → cond t (Some d) (between ds e.first e.second) ≡ Some e
    go false j = f.there
    go true j =
        let (p, q) = joins-same d e l f.rising j in
        absurd (both_ways true (rw (p, q, f.there) at z) refl)

pub found : (n : ℕ) (ds : List Duct) → ducts_keep n ds ≡ true → AllByRecursion (Found n ds) ds
unfolding between
found n [] h = tt
found n (d ∷ ds) h =
    let f = keep_front n d ds h in
    let own = own_rules n d f.own in (
      record { rising = own.rising; below = own.on_plan; there = cond-true (joins d d.first d.second) (Some d) (between ds d.first d.second) (joins-self d) },
      All-weaker (Found n ds) (Found n (d ∷ ds)) (found_more n d ds own.rising f.new) ds (found n ds f.rest),
    )
