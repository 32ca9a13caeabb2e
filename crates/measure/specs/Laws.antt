-- The five laws of a lawful measure. They speak of its costs and of nothing else.
use Rattle.std.specs.Prelude.{◌≡◌, ℕ, ◌⊎◌}
use Rattle.measure.specs.Meaning.{Meaning, IsCost, NoWorse}

pub record Laws (m : Meaning) : Type 0 where
  -- 1: joining is associative and commutative
  pub associative : (a b c : ℕ) → IsCost m a → IsCost m b → IsCost m c → m.join (m.join a b) c ≡ m.join a (m.join b c)
  pub commutative : (a b : ℕ) → IsCost m a → IsCost m b → m.join a b ≡ m.join b a
  -- 2: joining with standing still changes no cost
  pub neutral : (a : ℕ) → IsCost m a → m.join a m.still ≡ a
  -- 3: no worse is a total order
  pub total : (a b : ℕ) → IsCost m a → IsCost m b → NoWorse m a b ⊎ NoWorse m b a
  pub transitive : (a b c : ℕ) → IsCost m a → IsCost m b → IsCost m c → NoWorse m a b → NoWorse m b c → NoWorse m a c
  pub antisymmetric : (a b : ℕ) → IsCost m a → IsCost m b → NoWorse m a b → NoWorse m b a → a ≡ b
  -- 4: of two costs the one that is no worse stays so when a third is joined to both
  pub monotone : (a b c : ℕ) → IsCost m a → IsCost m b → IsCost m c → NoWorse m a b → NoWorse m (m.join a c) (m.join b c)
  -- 5: a cost is no worse than that cost joined with another
  pub extensive : (a c : ℕ) → IsCost m a → IsCost m c → NoWorse m a (m.join a c)
