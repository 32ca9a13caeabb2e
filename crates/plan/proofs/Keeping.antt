-- Ducts that keep the rules: with one more at the end, without one, and one of them.
use Rattle.std.proofs.Common.{◌≡◌, ℕ, Bool, true, false, cond, not, ◌&&◌, ◌||◌, List, [], ◌∷◌, ◌++◌, is_some, Some, sym, refl, ◌∙◌, arith}
use Rattle.std.proofs.lemmas.Bool.{and_parts, and_from, not-true, not_from_false, or_from, or_parts}
use Rattle.std.proofs.lemmas.Bool.Decides.{nat_tests}
use Rattle.plan.specs.declared.ducts.Duct.{Duct}
use Rattle.plan.specs.Ducts.{joins, between, others, duct_keeps, ducts_keep}

pub joins-sym : (d e : Duct) → joins d e.first e.second ≡ joins e d.first d.second
joins-sym d e = grind (arith, nat_tests)

-- whether a duct stands between two pits, with one more duct in front, and at the end
pub between-front : (d : Duct) (ds : List Duct) (a b : ℕ) → is_some (between (d ∷ ds) a b) ≡ (joins d a b || is_some (between ds a b))
unfolding between
between-front d ds a b = elim (joins d a b) as (λ t. is_some (cond t (Some d) (between ds a b)) ≡ (t || is_some (between ds a b))) [ true ↦ refl | false ↦ refl ]

pub between-append :
    (ds es : List Duct) (a b : ℕ) → is_some (between (ds ++ es) a b) ≡ (is_some (between ds a b) || is_some (between es a b))
unfolding between
between-append [] es a b = refl
between-append (d ∷ ds) es a b =
    elim (joins d a b) as (λ t. is_some (cond t (Some d) (between (ds ++ es) a b)) ≡ (is_some (cond t (Some d) (between ds a b)) || is_some (between es a b)))
    [ true ↦ refl | false ↦ between-append ds es a b ]

-- what ducts that keep the rules say of the first
pub record Front (pits : ℕ) (d : Duct) (ds : List Duct) : Type 0 where
  pub own : duct_keeps pits d ≡ true
  pub new : is_some (between ds d.first d.second) ≡ false
  pub rest : ducts_keep pits ds ≡ true

pub keep_front : (pits : ℕ) (d : Duct) (ds : List Duct) → ducts_keep pits (d ∷ ds) ≡ true → Front pits d ds
unfolding ducts_keep
keep_front pits d ds h =
    let t : Bool = is_some (between ds d.first d.second) in
    let p = and_parts (duct_keeps pits d) (not t && ducts_keep pits ds) h in
    let q = and_parts (not t) (ducts_keep pits ds) p.1 in
    record { own = p.0; new = not-true t q.0; rest = q.1 }

pub keep_from : (pits : ℕ) (d : Duct) (ds : List Duct) → Front pits d ds → ducts_keep pits (d ∷ ds) ≡ true
unfolding ducts_keep
keep_from pits d ds f =
    let t : Bool = is_some (between ds d.first d.second) in
    and_from (duct_keeps pits d) (not t && ducts_keep pits ds) f.own (and_from (not t) (ducts_keep pits ds) (not_from_false t f.new) f.rest)

-- no duct of ds joins the same two pits as d, so d joins none of theirs
pub keep_push :
    (pits : ℕ) (ds : List Duct) (d : Duct) → ducts_keep pits ds ≡ true → duct_keeps pits d ≡ true → is_some (between ds d.first d.second) ≡ false
    → ducts_keep pits (ds ++ d ∷ []) ≡ true
unfolding ducts_keep between
keep_push pits [] d keep own new = and_from (duct_keeps pits d) true own refl
keep_push pits (e ∷ es) d keep own new =
    let f = keep_front pits e es keep in
    let parts = or_parts (joins e d.first d.second) (is_some (between es d.first d.second)) (sym (between-front e es d.first d.second) ∙ new) in
    let apart : is_some (between (d ∷ []) e.first e.second) ≡ false =
    between-front d [] e.first e.second ∙ or_from (joins d e.first e.second) false (joins-sym d e ∙ parts.0) refl in
    keep_from pits e (es ++ d ∷ [])
    (record {
      own = f.own;
      new = between-append es (d ∷ []) e.first e.second ∙ or_from (is_some (between es e.first e.second)) (is_some (between (d ∷ []) e.first e.second)) f.new apart;
      rest = keep_push pits es d f.rest own parts.1;
    })

-- the first of the ducts
pub keep_first : (pits : ℕ) (ds es : List Duct) → ducts_keep pits (ds ++ es) ≡ true → ducts_keep pits ds ≡ true
unfolding ducts_keep
keep_first pits [] es keep = refl
keep_first pits (d ∷ ds) es keep =
    let f = keep_front pits d (ds ++ es) keep in
    let new = or_parts (is_some (between ds d.first d.second)) (is_some (between es d.first d.second)) (sym (between-append ds es d.first d.second) ∙ f.new) in
    keep_from pits d ds (record { own = f.own; new = new.0; rest = keep_first pits ds es f.rest })

-- one of the ducts in the middle
pub keep_middle :
    (pits : ℕ) (ds : List Duct) (d : Duct) (es : List Duct) → ducts_keep pits (ds ++ d ∷ es) ≡ true
    → (duct_keeps pits d ≡ true) × (is_some (between ds d.first d.second) ≡ false)
unfolding between
keep_middle pits [] d es keep = ((keep_front pits d es keep).own, refl)
keep_middle pits (c ∷ cs) d es keep =
    let f = keep_front pits c (cs ++ d ∷ es) keep in
    let on = keep_middle pits cs d es f.rest in
    let clear = or_parts (is_some (between cs c.first c.second)) (is_some (between (d ∷ es) c.first c.second)) (sym (between-append cs (d ∷ es) c.first c.second) ∙ f.new) in
    let apart = or_parts (joins d c.first c.second) (is_some (between es c.first c.second)) (sym (between-front d es c.first c.second) ∙ clear.1) in (
      on.0,
      between-front c cs d.first d.second ∙ or_from (joins c d.first d.second) (is_some (between cs d.first d.second)) (joins-sym c d ∙ apart.0) on.1,
    )

between-others : (ds : List Duct) (a b x y : ℕ) → is_some (between ds x y) ≡ false → is_some (between (others ds a b) x y) ≡ false
unfolding between others
between-others [] a b x y h = refl
between-others (d ∷ ds) a b x y h =
    let p = or_parts (joins d x y) (is_some (between ds x y)) (sym (between-front d ds x y) ∙ h) in
    let on = between-others ds a b x y p.1 in
    elim (joins d a b) as (λ t. is_some (between (cond (not t) (d ∷ others ds a b) (others ds a b)) x y) ≡ false)
    [ true ↦ on | false ↦ between-front d (others ds a b) x y ∙ or_from (joins d x y) (is_some (between (others ds a b) x y)) p.0 on ]

pub keep_others : (pits : ℕ) (ds : List Duct) (a b : ℕ) → ducts_keep pits ds ≡ true → ducts_keep pits (others ds a b) ≡ true
unfolding others
keep_others pits [] a b h = h
keep_others pits (d ∷ ds) a b h =
    let f = keep_front pits d ds h in
    let on = keep_others pits ds a b f.rest in
    elim (joins d a b) as (λ t. ducts_keep pits (cond (not t) (d ∷ others ds a b) (others ds a b)) ≡ true)
    [ true ↦ on | false ↦ keep_from pits d (others ds a b) (record { own = f.own; new = between-others ds a b d.first d.second f.new; rest = on }) ]
