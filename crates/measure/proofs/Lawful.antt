-- The laws of a measure for all numbers, each read as a cost, and that what it gives is a cost.
use Rattle.std.proofs.Common.{◌≡◌, ℕ, ◌≤◌, min, false, ◌⊎◌, inl, inr, arith}
use Rattle.std.proofs.lemmas.Bool.{both_ways}
use Rattle.measure.specs.Meaning.{Meaning, IsCost, NoWorse, read}
use Rattle.measure.specs.Laws.{Laws}

pub record Lawful (m : Meaning) : Type 0 where
  pub still-fits : IsCost m m.still
  pub duct-fits : (length bore : ℕ) → IsCost m (m.duct length bore)
  pub join-fits : (a b : ℕ) → IsCost m (m.join a b)
  pub associative : (a b c : ℕ) → m.join (m.join a b) c ≡ m.join a (m.join b c)
  pub commutative : (a b : ℕ) → m.join a b ≡ m.join b a
  pub neutral : (a : ℕ) → IsCost m a → m.join a m.still ≡ a
  pub total : (a b : ℕ) → NoWorse m a b ⊎ NoWorse m b a
  pub transitive : (a b c : ℕ) → NoWorse m a b → NoWorse m b c → NoWorse m a c
  pub antisymmetric : (a b : ℕ) → IsCost m a → IsCost m b → NoWorse m a b → NoWorse m b a → a ≡ b
  pub monotone : (a b c : ℕ) → NoWorse m a b → NoWorse m (m.join a c) (m.join b c)
  pub extensive : (a c : ℕ) → NoWorse m a (m.join a c)

-- a number that was read is read as itself
again : (x g : ℕ) → min (min x g) g ≡ min x g
again x g = omega arith

module _ (m : Meaning) (laws : Laws (read m)) where
  abbrev at : ℕ → ℕ
  at x = min x m.greatest

  fits : (x : ℕ) → at x ≤ m.greatest
  fits x = omega arith

  pub lawful : Lawful (read m)
  lawful =
      record {
        still-fits = fits m.still;
        duct-fits = λ length bore. fits (m.duct length bore);
        join-fits = λ a b. fits (m.join (at a) (at b));
        associative = λ a b c. simp again (simp again at (laws.associative (at a) (at b) (at c) (fits a) (fits b) (fits c)));
        commutative = λ a b. simp again at (laws.commutative (at a) (at b) (fits a) (fits b));
        neutral = laws.neutral;
        total = λ a b. simp again at (laws.total (at a) (at b) (fits a) (fits b));
        transitive = λ a b c h k. simp again at (laws.transitive (at a) (at b) (at c) (fits a) (fits b) (fits c) (simp again h) (simp again k));
        antisymmetric = laws.antisymmetric;
        monotone = λ a b c h. simp again (simp again at (laws.monotone (at a) (at b) (at c) (fits a) (fits b) (fits c) (simp again h)));
        extensive = λ a c. simp again (simp again at (laws.extensive (at a) (at c) (fits a) (fits c)));
      }

-- of two costs the other is no worse where the one is not
pub other_way : (m : Meaning) → Lawful m → (a b : ℕ) → m.no_worse a b ≡ false → NoWorse m b a
other_way m laws a b e = elim (laws.total a b) [ inl k ↦ absurd (both_ways (m.no_worse a b) e k) | inr k ↦ k ]

pub reflexive : (m : Meaning) → Lawful m → (a : ℕ) → NoWorse m a a
reflexive m laws a = elim (laws.total a a) [ inl e ↦ e | inr e ↦ e ]

-- more in front is no better
pub longer : (m : Meaning) → Lawful m → (w c : ℕ) → NoWorse m c (m.join w c)
longer m laws w c = rw (laws.commutative w c) (laws.extensive c w)

-- the same in front of both
pub before-both : (m : Meaning) → Lawful m → (w a b : ℕ) → NoWorse m a b → NoWorse m (m.join w a) (m.join w b)
before-both m laws w a b n = rw (laws.commutative w a, laws.commutative w b) (laws.monotone a b w n)
