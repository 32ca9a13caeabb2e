-- An index of the ducts at each pit: at a pit the place of its last duct, and at a duct the places of those before it at its two ends.
use Rattle.std.specs.Prelude.{◌≡◌, ℕ, zero, suc, ◌<◌, Bool, cond, ◌||◌, List, length, Some, None, Option, ◌==◌, slice_index_or, slice_set}
use Rattle.plan.specs.declared.ducts.Duct.{Duct}
use Rattle.search.specs.declared.links.Links.{Links}

-- the duct at the place j
abbrev pub duct_at : List Duct → ℕ → Duct
duct_at ds j = slice_index_or ds j (record { first = 0; second = 0; length = 0; bore = 0 })

-- u is an end of d
abbrev pub touches : Duct → ℕ → Bool
touches d u = d.first == u || d.second == u

-- the place of the last of the first i ducts that has u as an end
unfoldable pub last_at : List Duct → ℕ → ℕ → Option ℕ
last_at ds u zero = None
last_at ds u (suc i) = cond (touches (duct_at ds i) u) (Some i) (last_at ds u i)

-- the ducts before the one at j, at its two ends
abbrev pub links_of : List Duct → ℕ → Links
links_of ds j = record { first = last_at ds (duct_at ds j).first j; second = last_at ds (duct_at ds j).second j }

-- what stands in a place that is not used
abbrev pub no_links : Links
no_links = record { first = None; second = None }

-- the last duct at the pit u, by the index
abbrev pub head_at : List (Option ℕ) → ℕ → Option ℕ
head_at hs u = slice_index_or hs u None

-- the ducts before the one at j, by the index
abbrev pub links_at : List Links → ℕ → Links
links_at ls j = slice_index_or ls j no_links

-- the heads are those of the first i ducts
abbrev pub HeadsTo : List Duct → ℕ → List (Option ℕ) → Type 0
HeadsTo ds i hs = (u : ℕ) → u < length hs → head_at hs u ≡ last_at ds u i

-- the links are those of the first i ducts
abbrev pub LinksTo : List Duct → ℕ → List Links → Type 0
LinksTo ds i ls = (j : ℕ) → j < i → links_at ls j ≡ links_of ds j

-- the duct before d at u, where u is an end of d
abbrev pub before : Duct → ℕ → Links → Option ℕ
before d u k = cond (d.first == u) k.first k.second

-- the index with the duct d at the place i
abbrev pub put_heads : List (Option ℕ) → Duct → ℕ → List (Option ℕ)
put_heads hs d i = slice_set (slice_set hs d.first (Some i)) d.second (Some i)

abbrev pub put_links : List Links → List (Option ℕ) → Duct → ℕ → List Links
put_links ls hs d i = slice_set ls i (record { first = head_at hs d.first; second = head_at hs d.second })
