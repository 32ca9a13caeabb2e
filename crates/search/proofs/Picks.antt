-- The best open pit: of a block, one pit more; of all blocks, one block more.
use Rattle.std.proofs.Common.{◌≡◌, ℕ, ◌+◌, ◌*◌, ◌<◌, ◌≤◌, true, false, List, length, replicate, Some, None, Option, refl, inl, inr, arith}
use Rattle.std.proofs.lemmas.List.{get_or-replicate}
use Rattle.std.proofs.lemmas.Bool.{both_ways, cases_lt, cond_both, false_from_ne_true}
use Rattle.measure.specs.Meaning.{Meaning, NoWorse}
use Rattle.measure.proofs.Lawful.{Lawful, other_way, reflexive}
use Rattle.search.specs.declared.marks.Mark.{Mark}
use Rattle.search.specs.declared.marks.Mark.TheVariants.{Unseen, Open, Settled}
use Rattle.search.specs.declared.marks.SeenPit.{SeenPit}
use Rattle.search.specs.Frontier.{BestOpenPit, BestOpen, as_open, open_at, better, held_of, Tracks}
use Rattle.search.specs.Marks.{at, is_open, route_at}
use Rattle.search.proofs.Inv.{opens, seen_open, seen_below}

open_below : (ms : List Mark) (v : ℕ) → opens ms v ≡ true → v < length ms
open_below ms v o = seen_below ms v (seen_open (at ms v) o)

module _ (m : Meaning) (laws : Lawful m) (ms : List Mark) where
  -- two stretches of pits, the second after the first
  module _ (low mid high : ℕ) (first : low ≤ mid) (second : mid ≤ high) where
    none_both : BestOpen m ms low mid None → BestOpen m ms mid high None → BestOpen m ms low high None
    none_both f g v k l = elim (cases_lt v mid) [ inl s ↦ f v k s | inr s ↦ g v s l ]

    first-best : (k : SeenPit) → BestOpenPit m ms low mid k → ((v : ℕ) → mid ≤ v → v < high → opens ms v ≡ true → NoWorse m k.route.cost (route_at ms v).cost) → BestOpenPit m ms low high k
    first-best k h f =
        let l = h.below in
        record {
          from = h.from;
          below = omega arith;
          opened = h.opened;
          best = λ v i l o. elim (cases_lt v mid) [ inl s ↦ h.best v i s o | inr s ↦ f v s l o ];
        }

    second-best : (k : SeenPit) → BestOpenPit m ms mid high k → ((v : ℕ) → low ≤ v → v < mid → opens ms v ≡ true → NoWorse m k.route.cost (route_at ms v).cost) → BestOpenPit m ms low high k
    second-best k h f =
        let i = h.from in
        record {
          from = omega arith;
          below = h.below;
          opened = h.opened;
          best = λ v i l o. elim (cases_lt v mid) [ inl s ↦ f v i s o | inr s ↦ h.best v s l o ];
        }

    -- the better of the best of both
    better-both : (o w : Option SeenPit) → BestOpen m ms low mid o → BestOpen m ms mid high w → BestOpen m ms low high (better m o w)
    better-both None None f g = none_both f g
    better-both (Some k) None f g = first-best k f (λ v s l o. absurd (both_ways (opens ms v) (g v s l) o))
    better-both None (Some i) f g = second-best i g (λ v s l o. absurd (both_ways (opens ms v) (f v s l) o))
    better-both (Some k) (Some i) f g =
        cond_both (m.no_worse k.route.cost i.route.cost) (Some k) (Some i) (BestOpen m ms low high)
        (λ e. first-best k f (λ v s l o. laws.transitive k.route.cost i.route.cost (route_at ms v).cost e (g.best v s l o)))
        (λ e. second-best i g (λ v s l o. laws.transitive i.route.cost k.route.cost (route_at ms v).cost (other_way m laws _ _ e) (f.best v s l o)))

  -- the stretch of one pit
  one_pit : (n : ℕ) → BestOpen m ms n (n + 1) (open_at ms n)
  one_pit n = go (at ms n) refl
    where
      shut : (k : Mark) → is_open k ≡ false → at ms n ≡ k → BestOpen m ms n (n + 1) None
      shut k o e v i l = (let is : v ≡ n = omega arith in rw (is, e) o)

      go : (k : Mark) → at ms n ≡ k → BestOpen m ms n (n + 1) (as_open n k)
      go Unseen e = shut Unseen refl e
      go (Settled r) e = shut (Settled r) refl e
      go (Open r) e =
          record {
            from = omega arith;
            below = omega arith;
            opened = e;
            best = λ v i l o. (let is : v ≡ n = omega arith in rw (is, e) (reflexive m laws _));
          }

  -- one pit more
  pub pick_more : (low n : ℕ) (o r : Option SeenPit) → low ≤ n → BestOpen m ms low n o → r ≡ better m o (open_at ms n) → BestOpen m ms low (n + 1) r
  pick_more low n o r l h e = rw e (better-both low n (n + 1) l (omega arith) o (open_at ms n) h (one_pit n))

  -- one block more
  pub block_more : (ws : List (Option SeenPit)) (b : ℕ) (o r : Option SeenPit) → Tracks m ms ws → b < 32 → BestOpen m ms 0 (16 * b) o → r ≡ better m o (held_of ws b) → BestOpen m ms 0 (16 * (b + 1)) r
  block_more ws b o r t l h e =
      let more : 16 * (b + 1) ≡ 16 * b + 16 = omega arith in
      rw (e, more) (better-both 0 (16 * b) (16 * b + 16) (omega arith) (omega arith) o (held_of ws b) h (t b l))

  -- no pit is open past the end of the marks
  pub pick_to : (low n high : ℕ) (o : Option SeenPit) → length ms ≤ n → length ms ≤ high → BestOpen m ms low n o → BestOpen m ms low high o
  pick_to low n high None f g h = λ v k l. elim (cases_lt v n) [
    | inl s ↦ h v k s
    | inr s ↦ false_from_ne_true (opens ms v) (λ o. (let b = open_below ms v o in let w : ⊥ = omega arith in w))
  ]
  pick_to low n high (Some k) f g h =
      let b = open_below ms k.pit (rw h.opened refl) in
      record {
        from = h.from;
        below = omega arith;
        opened = h.opened;
        best = λ v s l o. (let c = open_below ms v o in h.best v s (omega arith) o);
      }

-- the pit that was found, and none
pub picked : (m : Meaning) (ms : List Mark) (low high : ℕ) (k : SeenPit) (o : Option SeenPit) → o ≡ Some k → BestOpen m ms low high o → BestOpenPit m ms low high k
picked m ms low high k o e h = rw e at h

pub none_open : (m : Meaning) (ms : List Mark) (high : ℕ) (o : Option SeenPit) → o ≡ None → BestOpen m ms 0 high o → (v : ℕ) → v < high → opens ms v ≡ false
none_open m ms high o e h v l = (rw e at h) v (omega arith) l

-- no pit is open
pub tracks_none : (m : Meaning) (ms : List Mark) (ws : List (Option SeenPit)) → ((v : ℕ) → opens ms v ≡ false) → ws ≡ replicate 32 None → Tracks m ms ws
tracks_none m ms ws f e b l = rw (e, get_or-replicate {A = Option SeenPit} 32 b None None l) (λ v k h. f v)
