-- Bytes up to a mark: what stands before it and from it on is told by the whole.
use Rattle.std.proofs.Common.{◌≡◌, ℕ, suc, ◌-◌, ◌≤◌, Bool, true, false, List, [], ◌∷◌, ◌++◌, length, get_or, take, drop, refl, sym, ap, subst, ◌∙◌, eqb-true, arith}
use Rattle.std.specs.Prelude.{◌==◌, if◌then◌else◌}
use Rattle.std.proofs.lemmas.Bool.{eqb-false}
use Rattle.std.proofs.lemmas.List.{append-nil, take-append-drop, take_all}
use Rattle.rx_cert_lines.specs.Certificates.{Free}
use Rattle.rx_cert_lines.specs.Reading.{before, Ends, IsCut, BeginsNot, IsSplit}

pub two : {A B C : Type 0} (f : A → B → C) {a c : A} {b d : B} → a ≡ c → b ≡ d → f a b ≡ f c d
two f {a} {c} {b} {d} p q = ap (λ x. f x b) p ∙ ap (λ y. f c y) q

pub front_free : (m : ℕ) (b : List ℕ) → Free m (take (before m b) b)
front_free m [] = tt
front_free m (c ∷ cs) = go (c == m) refl (front_free m cs) where
  go : (t : Bool) → (c == m) ≡ t → Free m (take (before m cs) cs) → Free m (take (if t then 0 else suc (before m cs)) (c ∷ cs))
  go true e r = tt
  go false e r = (eqb-false c m e, r)

pub rest_ends : (m : ℕ) (b : List ℕ) → Ends m (drop (before m b) b)
rest_ends m [] = tt
rest_ends m (c ∷ cs) = go (c == m) refl (rest_ends m cs) where
  go : (t : Bool) → (c == m) ≡ t → Ends m (drop (before m cs) cs) → Ends m (drop (if t then 0 else suc (before m cs)) (c ∷ cs))
  go true e r = eqb-true c m e
  go false e r = r

pub cut_here : (m : ℕ) (b front rest : List ℕ) → front ≡ take (before m b) b → rest ≡ drop (before m b) b → IsCut m b front rest
cut_here m b front rest e f = record {
  whole = two (λ x y. x ++ y) e f ∙ take-append-drop (before m b) b;
  free = subst (Free m) (sym e) (front_free m b);
  ends = subst (Ends m) (sym f) (rest_ends m b);
}

-- where what is left doesn't begin with the mark, nothing is left
pub no_mark : (m : ℕ) (b front rest : List ℕ) → IsCut m b front rest → BeginsNot m rest → Free m b
no_mark m b front [] c o = subst (Free m) (sym (append-nil front) ∙ c.whole) c.free
no_mark m b front (x ∷ rest) c o = absurd (o rest (ap (λ y. y ∷ rest) c.ends))

pub split_here : (m : ℕ) (b front rest more : List ℕ) → IsCut m b front rest → rest ≡ m ∷ more → IsSplit m b front more
split_here m b front rest more c e = record { whole = ap (λ x. front ++ x) (sym e) ∙ c.whole; free = c.free }

-- a list is its first item and the others, as a pattern has them
pub first_and_rest : (b : List ℕ) → 1 ≤ length b → b ≡ get_or b 0 0 ∷ take (length b - 1) (drop 1 b)
first_and_rest [] h = absurd (omega (arith, h))
first_and_rest (c ∷ cs) h = ap (λ x. c ∷ x) (sym (take_all (suc (length cs) - 1) cs (omega arith)))

pub free_append : (m : ℕ) (a b : List ℕ) → Free m a → Free m b → Free m (a ++ b)
free_append m [] b f g = g
free_append m (c ∷ cs) b f g = (f.0, free_append m cs b f.1 g)

pub has_mark : (m : ℕ) (a b : List ℕ) → Free m (a ++ m ∷ b) → ⊥
has_mark m [] b f = f.0 refl
has_mark m (c ∷ cs) b f = has_mark m cs b f.1

-- the same bytes, cut at the first mark in each, are cut at one place
pub split_same : (m : ℕ) (a r b s : List ℕ) → Free m a → Free m b → Ends m r → Ends m s → a ++ r ≡ b ++ s → (a ≡ b) × (r ≡ s)
split_same m [] r [] s f g h k e = (refl, e)
split_same m [] [] (y ∷ b) s f g h k e = absurd (cc)
split_same m [] (c ∷ r) (y ∷ b) s f g h k e = let i : y ≡ c = cc in absurd (g.0 (i ∙ h))
split_same m (x ∷ a) r [] [] f g h k e = absurd (cc)
split_same m (x ∷ a) r [] (c ∷ s) f g h k e = let i : x ≡ c = cc in absurd (f.0 (i ∙ k))
split_same m (x ∷ a) r (y ∷ b) s f g h k e =
    let i : x ≡ y = cc in let t : a ++ r ≡ b ++ s = cc in
    let p = split_same m a r b s f.1 g.1 h k t in (two (λ z l. z ∷ l) i p.0, p.1)
