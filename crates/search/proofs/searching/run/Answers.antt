use Rattle.std.proofs.Common.{◌≡◌, ℕ, ◌-◌, ◌≤◌, List, ◌++◌, length, take, drop, sym, ◌∙◌, subst, arith}
use Rattle.std.proofs.lemmas.List.{take_at, length-append, length-drop, get_or_append_left}
use Rattle.search.specs.Marks.{at, Linked, Brief, Follows}
use Rattle.search.specs.declared.marks.Mark.{Mark}
use Rattle.search.proofs.Inv.{seen_below, seen_done}
use Rattle.search.proofs.searching.run.Goals as goal

-- what was filled in at the front leaves the number of places
pub filled_length : {A : Type 0} (n : ℕ) (old new : List A) → length new ≡ n → n ≤ length old → length (new ++ drop (n - 0) old) ≡ length old
filled_length n old new size l = length-append new (drop (n - 0) old) ∙ simp length-drop (omega arith)

-- the next pits at the front follow the marks there, whatever comes later
follows_in_front : (n : ℕ) (ms ms-later : List Mark) (ns ns-later : List ℕ) → length ms ≡ n → length ms ≤ length ns → Follows ms ns → Follows (take n (ms ++ ms-later)) (ns ++ ns-later)
follows_in_front n ms ms-later ns ns-later size l f =
    subst (λ xs. Follows xs (ns ++ ns-later)) (sym (take_at ms ms-later n size)) (λ v h. let below = seen_below ms v (seen_done (at ms v) h) in get_or_append_left ns ns-later 0 v (omega arith) ∙ f v h)

pub invariant_of-table : goal.invariant_of-table
invariant_of-table g c =
    let n = c.args.plan.now.indexed.now.plan.pits in
    let small = c.args.plan.now.indexed.now.plan.rules.few_pits in
    let old = c.args.table.now in
    let marks = c.fill.new.marks in
    let next_pits = c.fill.new.next_pits in
    let filled = c.fill.ensures.filled in
    let e = take_at marks _ n filled.searched.places in
    record {
      few = small;
      places = filled_length n old.marks marks filled.searched.places (omega arith) ∙ old.places;
      next_places = filled_length n old.next_pits next_pits (omega arith) (omega arith) ∙ old.next_places;
      linked = subst Linked (sym e) filled.linked;
      brief = subst Brief (sym e) filled.brief;
      follows = follows_in_front n marks _ next_pits _ filled.searched.places (omega arith) c.fill.ensures.follows;
    }
