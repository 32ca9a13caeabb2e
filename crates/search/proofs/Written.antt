-- The writing of a way, pit by pit.
use Rattle.std.proofs.Common.{◌≡◌, ℕ, zero, suc, ◌+◌, ◌<◌, ◌≤◌, true, List, [], ◌∷◌, ◌++◌, length, take, set, sym, refl, ap, ◌∙◌, append_assoc, arith}
use Rattle.std.proofs.lemmas.List.{take_more_set, take_all, append-nil, length-take-le}
use Rattle.std.proofs.lemmas.Bool.{and_parts, and_from, eqb-true, lt-ltb}
use Rattle.search.specs.declared.marks.Mark.{Mark}
use Rattle.search.specs.declared.marks.Mark.TheVariants.{Settled}
use Rattle.search.specs.declared.marks.SeenPit.{SeenPit}
use Rattle.search.specs.Marks.{at, route_of, route_at, onward, route, Linked, Brief}
use Rattle.search.proofs.Inv.{done}

-- v and the pits after it, n in all
abbrev pub pits_from : List Mark → ℕ → ℕ → List ℕ
pits_from ms zero v = []
pits_from ms (suc n) v = v ∷ pits_from ms n (route_at ms v).next

-- after i pits of the way from the pit k: `here` is to be written next, and n are left
pub record Writing (ms : List Mark) (k : SeenPit) (i here : ℕ) (way : List ℕ) : Type 0 where
  pub n : ℕ
  pub some : n + i ≡ k.route.hops + 1
  pub reached : (h : ℕ) → n ≡ suc h → (done ms here ≡ true) × ((route_at ms here).hops ≡ h)
  pub front : take i way ++ pits_from ms n here ≡ route ms k.pit

-- a pit that was reached and is not the goal leads on to one that was reached and is nearer
leads_on_lem : (ms : List Mark) (v k : ℕ) → Linked ms → done ms v ≡ true → (route_at ms v).hops ≡ suc k → (done ms (route_at ms v).next ≡ true) × ((route_at ms (route_at ms v).next).hops ≡ k)
leads_on_lem ms v k links g e =
    let (s, q) = and_parts (done ms (route_at ms v).next) _ (links v (and_from (done ms v) _ g (lt-ltb 0 (route_at ms v).hops (omega arith)))) in
    let n = eqb-true (suc (route_at ms (route_at ms v).next).hops) (route_at ms v).hops q in
    (s, omega arith)

length-onward : (ms : List Mark) (h v : ℕ) → length (onward ms h v) ≡ h
length-onward ms zero v = refl
length-onward ms (suc h) v = ap suc (length-onward ms h (route_at ms v).next)

pits-route : (ms : List Mark) (h v : ℕ) → pits_from ms (suc h) v ≡ v ∷ onward ms h v
pits-route ms zero v = refl
pits-route ms (suc h) v = ap (λ (xs : List ℕ). v ∷ xs) (pits-route ms h (route_at ms v).next)

module _ (ms : List Mark) (k : SeenPit) (is : at ms k.pit ≡ Settled k.route) where
  hops_are : (route_at ms k.pit).hops ≡ k.route.hops
  hops_are = ap (λ (x : Mark). (route_of x).hops) is

  -- a list with a place for each pit has room for the way
  pub way_room : Brief ms → (list : List ℕ) → length ms ≤ length list → length (take (k.route.hops + 1) list) ≡ k.route.hops + 1
  way_room brief list l = (let b = brief k.pit (rw is refl) in length-take-le (k.route.hops + 1) list (omega (arith, hops_are)))

  pub writing_starts : (way : List ℕ) → Writing ms k 0 k.pit way
  writing_starts way =
      record {
        n = suc k.route.hops;
        some = omega arith;
        reached = λ h e. (rw is refl, hops_are ∙ omega arith);
        front = pits-route ms k.route.hops k.pit ∙ ap (λ (h : ℕ). k.pit ∷ onward ms h k.pit) (sym hops_are);
      }

  module _ (i here : ℕ) (way : List ℕ) (w : Writing ms k i here way) where
    -- one that is to be written was reached
    pub writing_reached : i < k.route.hops + 1 → done ms here ≡ true
    writing_reached l = go w.n refl
      where
        go : (n : ℕ) → w.n ≡ n → done ms here ≡ true
        go zero e = absurd (let s = w.some in omega arith)
        go (suc h) e = (w.reached h e).0

    pub writing_more : Linked ms → i < k.route.hops + 1 → i < length way → Writing ms k (i + 1) (route_at ms here).next (set way i here)
    writing_more links l room = go w.n refl
      where
        go : (n : ℕ) → w.n ≡ n → Writing ms k (i + 1) (route_at ms here).next (set way i here)
        go zero e = absurd (let s = w.some in omega arith)
        go (suc h) e =
            let (g, q) = w.reached h e in
            let s = w.some in
            let f : take i way ++ pits_from ms (suc h) here ≡ route ms k.pit = rw e at w.front in
            record {
              n = h;
              some = omega arith;
              reached = λ j z. leads_on_lem ms here j links g (omega arith);
              front = rw (take_more_set way i here room, append_assoc (take i way) (here ∷ []) (pits_from ms h (route_at ms here).next)) f;
            }

    pub writing_ends : k.route.hops + 1 ≤ i → length way ≡ k.route.hops + 1 → way ≡ route ms k.pit
    writing_ends l size =
        let s = w.some in
        let none : w.n ≡ 0 = omega arith in
        sym (take_all i way (omega arith)) ∙ sym (append-nil (take i way)) ∙ rw none at w.front

  pub route-length : k.route.hops + 1 ≡ length (route ms k.pit)
  route-length = rw (length-onward ms (route_at ms k.pit).hops k.pit, hops_are) (omega arith)
