-- New variables that are found alike are so, and the renaming has what it had.
use Rattle.std.proofs.Common.{◌≡◌, ℕ, nat_eq, Bool, true, false, List, [], ◌∷◌, Option, Some, None, if◌then◌else◌, refl, sym, ap, ◌∙◌, inl, inr, eqb-true}
use Rattle.rx_typed.specs.Tree.{Parameter}
use Rattle.rx_engine_simulation.specs.Histories.{Facts}
use Rattle.rx_engine_simulation.specs.Sights.{In, shut, free, How, plain, special, Sight, sight, Renaming, sight_of, IsNew}
use Rattle.rx_engine_simulation.specs.Binders.{NewHow, new_plain, new_special, LikeDeclared, none_new, new_and, LikeParams, no_param, param_and}
use Rattle.rx_engine_alike.specs.Variables.{Ways, is_in, seen_as, is_new, with_seen, with_new, like_declared, like_params}
use Rattle.rx_engine_alike_laws.proofs.Promised.{Promised, kept, nothing, Says, says, silent, said, map_so, then_so, where_so, so, and_so, or_says, equal_so, unequal_so, none_so}
use Rattle.rx_engine_alike_laws.proofs.Ways.{Grown, grown}

pub is_in_so : (x : ℕ) (ys : List ℕ) → Says (In x ys) (is_in x ys)
is_in_so x [] = silent
is_in_so x (y ∷ ys) = or_says (so inl (equal_so x y)) (so inr (is_in_so x ys))

none_some : {A : Type 0} {a : A} → None ≡ Some a → ⊥
none_some e = cc

some_same : {A : Type 0} {a b : A} → Some a ≡ Some b → a ≡ b
some_same e = cc

pub is_new_so : (R : Renaming) (y : ℕ) → Says (IsNew R y) (is_new R y)
is_new_so [] y = says (λ z e s k. none_some s)
is_new_so (b ∷ R) y = and_so (unequal_so b.1.to y) (is_new_so R y) (λ n f z e s k. by n e (λ q. f z e q k) k (nat_eq z b.0) s)
  where
    by : (b.1.to ≡ y → ⊥) → {o : Option Sight} (e : Sight) → (o ≡ Some e → ⊥) → e.to ≡ y → (t : Bool) → (if t then Some b.1 else o) ≡ Some e → ⊥
    by n e f k true q = n (ap (λ s. s.to) (some_same q) ∙ k)
    by n e f k false q = f q

pub grown_same : {R : Renaming} → Grown R R
grown_same = grown (λ x e s. s)

pub grown_then : {R S T : Renaming} → Grown R S → Grown S T → Grown R T
grown_then (grown f) (grown g) = grown (λ x e s. g x e (f x e s))

grown_by : {R : Renaming} (x : ℕ) (a : Sight) → sight_of R x ≡ None → Grown R ((x, a) ∷ R)
grown_by {R} x a none = grown (λ z e s. by z e s (nat_eq z x) (λ k. eqb-true z x k))
  where
    by : (z : ℕ) (e : Sight) → sight_of R z ≡ Some e → (b : Bool) → (b ≡ true → z ≡ x) → (if b then Some a else sight_of R z) ≡ Some e
    by z e s true k = absurd (none_some (sym none ∙ (ap (λ v. sight_of R v) (sym (k refl)) ∙ s)))
    by z e s false k = s

-- a new variable, and the renaming with it
pub data NewlySeen (V : Facts) (R : Renaming) (x y : ℕ) : Renaming → Type 0 where
  newly : (w : How) → NewHow V x w → sight_of R x ≡ None → IsNew R y → NewlySeen V R x y ((x, sight y w) ∷ R)

pub newly_grown : {V : Facts} {R Ra : Renaming} {x y : ℕ} → NewlySeen V R x y Ra → Grown R Ra
newly_grown {x = x} {y = y} (newly w h none n) = grown_by x (sight y w) none

pub seen_new : {V : Facts} (R : Renaming) (x y : ℕ) (w : How) → NewHow V x w → Promised (λ Ra. NewlySeen V R x y Ra) (with_seen R x y w)
seen_new R x y w h = where_so {P = (sight_of R x ≡ None) × IsNew R y} (and_so (none_so (sight_of R x)) (is_new_so R y) (λ a b. (a, b))) (λ p. kept (newly w h p.0 p.1))

module _ (V : Facts) (L : Ways) (too : (x : ℕ) → In x L.elsewhere → V.Special x) where
  how_so : (x : ℕ) → NewHow V x (seen_as L x)
  how_so x = by (is_in x L.elsewhere) (is_in x L.closed) (is_in_so x L.elsewhere)
    where
      by : (b c : Bool) → Says (In x L.elsewhere) b → NewHow V x (if b then special else (if c then plain shut else plain free))
      by true c s = new_special (too x (said true s refl))
      by false true s = new_plain shut tt
      by false false s = new_plain free tt

  pub with_new_so : (R : Renaming) (x y : ℕ) → Promised (λ Ra. NewlySeen V R x y Ra) (with_new L R x y)
  with_new_so R x y = seen_new R x y (seen_as L x) (how_so x)

  then_declared : {R Ra : Renaming} {x y : ℕ} {xs ys : List ℕ} {o : Option Renaming} → NewlySeen V R x y Ra → Promised (λ Rb. LikeDeclared V Ra xs ys Rb) o
      → Promised (λ Rb. LikeDeclared V R (x ∷ xs) (y ∷ ys) Rb) o
  then_declared (newly w h a b) p = map_so (λ Rb l. new_and w h a b l) p

  pub declared_so : (R : Renaming) (xs ys : List ℕ) → Promised (λ Ra. LikeDeclared V R xs ys Ra) (like_declared L R xs ys)
  declared_so R [] [] = kept none_new
  declared_so R (x ∷ xs) (y ∷ ys) = then_so (with_new_so R x y) (λ Ra n. then_declared n (declared_so Ra xs ys))
  declared_so R [] (y ∷ ys) = nothing
  declared_so R (x ∷ xs) [] = nothing

  then_params : {R Ra : Renaming} {p q : Parameter} {ps qs : List Parameter} {o : Option Renaming} → NewlySeen V R p.variable q.variable Ra → Promised (λ Rb. LikeParams V Ra ps qs Rb) o
      → Promised (λ Rb. LikeParams V R (p ∷ ps) (q ∷ qs) Rb) o
  then_params (newly w h a b) p = map_so (λ Rb l. param_and w h a b l) p

  pub params_so : (R : Renaming) (ps qs : List Parameter) → Promised (λ Ra. LikeParams V R ps qs Ra) (like_params L R ps qs)
  params_so R [] [] = kept no_param
  params_so R (p ∷ ps) (q ∷ qs) = then_so (with_new_so R p.variable q.variable) (λ Ra n. then_params {p = p} {q = q} n (params_so Ra ps qs))
  params_so R [] (q ∷ qs) = nothing
  params_so R (p ∷ ps) [] = nothing
