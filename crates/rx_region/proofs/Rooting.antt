-- Variables and temporaries that have lifetimes in their types.
use Rattle.std.proofs.Common.{◌≡◌, ℕ, zero, suc, ◌+◌, ◌<◌, Bool, true, false, ◌==◌, if◌then◌else◌, List, [], ◌∷◌, map, drop, take, length, slice_get, get_or, Some, refl, ap, ◌∙◌, arith}
use Rattle.std.proofs.lemmas.Bool.{eqb-true}
use Rattle.rx_core.specs.declared.types.Ty.{Ty}
use Rattle.rx_graph_cycles.specs.Reaches.{IsIn}
use Rattle.rx_graph.proofs.Spreading.{both_of}
use Rattle.rx_typed.specs.Regions.{region-Ty, lifetimes_in}
use Rattle.rx_typed.specs.Tree.{Temporary}
use Rattle.rx_typed.specs.Renaming.{unit_region}
use Rattle.rx_lower_lifetimes.specs.Values.{same}
use Rattle.rx_region.specs.Constraints.{temporary_type}

-- a type of the list has the lifetime in it
pub record Named (ts : List Ty) (l : ℕ) : Type 0 where
  pub place : ℕ
  pub typ : Ty
  pub stands : slice_get ts place ≡ Some typ
  pub among : IsIn (lifetimes_in (region-Ty typ)) l

named_next : (t : Ty) (ts : List Ty) (l : ℕ) → Named ts l → Named (t ∷ ts) l
named_next t ts l n = record { place = suc n.place; typ = n.typ; stands = n.stands; among = n.among }

-- a temporary stands in the list
pub record Placed (ss : List Temporary) (t : Temporary) : Type 0 where
  pub place : ℕ
  pub below : place < length ss
  pub stands : slice_get ss place ≡ Some t

pub variable_in : (ts : List Ty) (v x l : ℕ) → IsIn (lifetimes_in (get_or (take v (map region-Ty ts)) x unit_region)) l → (x < v) × Named ts l
variable_in ts zero x l h = absurd h
variable_in [] (suc v) x l h = absurd h
variable_in (t ∷ ts) (suc v) zero l h = (omega arith, record { place = 0; typ = t; stands = refl; among = h })
variable_in (t ∷ ts) (suc v) (suc x) l h = let r = variable_in ts v x l h in let b = r.0 in (omega (arith, b), named_next t ts l r.1)

made : ℕ → ℕ → Temporary
made n w = record { node = n; which = w }

same_is : (s t : Temporary) → same s t ≡ true → s ≡ t
unfolding made
same_is s t e = let b = both_of (s.node == t.node) (s.which == t.which) e in
    ap (λ n. made n s.which) (eqb-true s.node t.node b.0) ∙ ap (λ w. made t.node w) (eqb-true s.which t.which b.1)

pub temporary_in : (ss : List Temporary) (ys : List Ty) (t : Temporary) (l : ℕ) → IsIn (lifetimes_in (temporary_type ss (map region-Ty ys) t)) l → Placed ss t × Named ys l
temporary_in [] ys t l h = absurd h
temporary_in (s ∷ ss) [] t l h = absurd h
temporary_in (s ∷ ss) (y ∷ ys) t l h = choose (same s t) refl (temporary_in ss ys t l) h where
  choose : (b : Bool) → same s t ≡ b → (IsIn (lifetimes_in (temporary_type ss (map region-Ty ys) t)) l → Placed ss t × Named ys l)
      → IsIn (lifetimes_in (if b then region-Ty y else temporary_type ss (map region-Ty ys) t)) l → Placed (s ∷ ss) t × Named (y ∷ ys) l
  choose true e rest h = (record { place = 0; below = omega arith; stands = ap (λ x. Some x) (same_is s t e) }, record { place = 0; typ = y; stands = refl; among = h })
  choose false e rest h = let r = rest h in let p = r.0 in let b = p.below in
      (record { place = suc p.place; below = omega (arith, b); stands = p.stands }, named_next y ys l r.1)

sum_next : (v n : ℕ) → suc v + n ≡ suc (v + n)
sum_next v n = omega arith

get_behind : (ts : List Ty) (v n : ℕ) → slice_get ts (v + n) ≡ slice_get (drop v ts) n
get_behind ts zero n = ap (slice_get ts) (omega arith)
get_behind [] (suc v) n = refl
get_behind (t ∷ ts) (suc v) n = ap (slice_get (t ∷ ts)) (sum_next v n) ∙ get_behind ts v n

pub map_behind : (ts : List Ty) (v : ℕ) → map region-Ty (drop v ts) ≡ drop v (map region-Ty ts)
map_behind ts zero = refl
map_behind [] (suc v) = refl
map_behind (t ∷ ts) (suc v) = map_behind ts v

pub named_behind : (ts : List Ty) (v l : ℕ) → Named (drop v ts) l → Named ts l
named_behind ts v l n = record { place = v + n.place; typ = n.typ; stands = get_behind ts v n.place ∙ n.stands; among = n.among }
