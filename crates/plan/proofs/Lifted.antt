-- Of ducts that keep the rules, one at most joins two pits, so a lift takes out one.
use Rattle.std.proofs.Common.{◌≡◌, ℕ, Bool, true, false, cond, not, ◌||◌, List, [], ◌∷◌, ◌++◌, is_some, sym, refl, ap, ◌∙◌, arith}
use Rattle.std.proofs.lemmas.Bool.{or_parts, both_ways}
use Rattle.std.proofs.lemmas.Bool.Decides.{nat_tests}
use Rattle.plan.specs.declared.ducts.Duct.{Duct}
use Rattle.plan.specs.Ducts.{joins, between, others, ducts_keep}
use Rattle.plan.specs.Edits.{WithoutOne}
use Rattle.plan.specs.Plans.{PlanSpec}
use Rattle.plan.proofs.Keeping.{between-front, keep_front}

-- none joins a and b, so none is left out
others-all : (ds : List Duct) (a b : ℕ) → is_some (between ds a b) ≡ false → others ds a b ≡ ds
unfolding others
others-all [] a b h = refl
others-all (d ∷ ds) a b h =
    let p = or_parts (joins d a b) (is_some (between ds a b)) (sym (between-front d ds a b) ∙ h) in
    ap (λ t. cond (not t) (d ∷ others ds a b) (others ds a b)) p.0 ∙ ap (λ xs. d ∷ xs) (others-all ds a b p.1)

-- the same two pits, named by the ends of a duct that joins them
joins-ends : (d e : Duct) (a b : ℕ) → joins d a b ≡ true → joins e a b ≡ joins e d.first d.second
joins-ends d e a b h = grind (arith, nat_tests)

between_ends : (ds : List Duct) (d : Duct) (a b : ℕ) → joins d a b ≡ true → is_some (between ds a b) ≡ is_some (between ds d.first d.second)
unfolding between
between_ends [] d a b h = refl
between_ends (e ∷ es) d a b h =
    between-front e es a b
    ∙ ap (λ t. t || is_some (between es a b)) (joins-ends d e a b h)
    ∙ ap (λ t. joins e d.first d.second || t) (between_ends es d a b h)
    ∙ sym (between-front e es d.first d.second)

-- the ducts fall into those before the one that joins a and b, that one, and those after it
record Parted (ds : List Duct) (a b : ℕ) : Type 0 where
  before : List Duct
  duct : Duct
  after : List Duct
  was : ds ≡ before ++ duct ∷ after
  joined : joins duct a b ≡ true
  left : others ds a b ≡ before ++ after

parted_front :
    (pits : ℕ) (d : Duct) (ds : List Duct) (a b : ℕ) → ducts_keep pits (d ∷ ds) ≡ true → is_some (between (d ∷ ds) a b) ≡ true
    → (is_some (between ds a b) ≡ true → Parted ds a b) → (t : Bool) → joins d a b ≡ t → Parted (d ∷ ds) a b
unfolding others
parted_front pits d ds a b keep there rest true e =
    let none = between_ends ds d a b e ∙ (keep_front pits d ds keep).new in
    record {
      before = [];
      duct = d;
      after = ds;
      was = refl;
      joined = e;
      left = ap (λ t. cond (not t) (d ∷ others ds a b) (others ds a b)) e ∙ others-all ds a b none;
    }
parted_front pits d ds a b keep there rest false e =
    let p = rest (ap (λ t. t || is_some (between ds a b)) (sym e) ∙ sym (between-front d ds a b) ∙ there) in
    record {
      before = d ∷ p.before;
      duct = p.duct;
      after = p.after;
      was = ap (λ xs. d ∷ xs) p.was;
      joined = p.joined;
      left = ap (λ t. cond (not t) (d ∷ others ds a b) (others ds a b)) e ∙ ap (λ xs. d ∷ xs) p.left;
    }

parted : (pits : ℕ) (ds : List Duct) (a b : ℕ) → ducts_keep pits ds ≡ true → is_some (between ds a b) ≡ true → Parted ds a b
unfolding between
parted pits [] a b keep there = absurd (both_ways false refl there)
parted pits (d ∷ ds) a b keep there =
    parted_front pits d ds a b keep there (λ h. parted pits ds a b (keep_front pits d ds keep).rest h) (joins d a b) refl

pub lifts_one :
    (p q : PlanSpec) (a b : ℕ) → ducts_keep p.pits p.ducts ≡ true → is_some (between p.ducts a b) ≡ true → q.ducts ≡ others p.ducts a b → q.pits ≡ p.pits → WithoutOne p a b q
lifts_one p q a b keep there e same =
    let w = parted p.pits p.ducts a b keep there in
    record { before = w.before; duct = w.duct; after = w.after; was = w.was; ends = w.joined; becomes = e ∙ w.left; pits = same }
