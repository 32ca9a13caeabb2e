-- Questions that got a yes, one after the other.
use Rattle.std.proofs.Common.{◌≡◌, ℕ, Bool, true, false, Ok, Err, Result, refl, ap, arith}
use Rattle.plan.specs.Edits.{Verdict, asks, and_then}
use Rattle.plan.specs.Refusals.{Told}

-- a refusal is no value
pub not_both : {X : Type 0} {e : Told} {x : X} {P : Type 0} → Err e ≡ Ok x → P
not_both h = absurd (let z : ◌≡◌ {A = ℕ} 0 1 = cc in omega arith)

pub asked_yes : (t : Bool) (e : Told) → asks t e ≡ Ok tt → t ≡ true
asked_yes true e h = refl
asked_yes false e h = not_both h

pub asks-yes : (t : Bool) (e : Told) → t ≡ true → asks t e ≡ Ok tt
asks-yes t e h = ap (λ u. asks u e) h

pub both_yes : {X : Type 0} (v : Verdict) (r : Result X Told) (x : X) → and_then v r ≡ Ok x → (v ≡ Ok tt) × (r ≡ Ok x)
both_yes (Ok u) r x h = (refl, h)
both_yes (Err e) r x h = not_both h

pub then_next : {X : Type 0} (v : Verdict) (r : Result X Told) → v ≡ Ok tt → and_then v r ≡ r
then_next v r h = ap (λ w. and_then w r) h
