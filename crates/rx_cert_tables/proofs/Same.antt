-- A set has one list of items.
use Rattle.std.proofs.Common.{◌≡◌, ◌⊎◌, inl, inr, ℕ, ◌+◌, ◌<◌, ◌≤◌, true, false, ◌&&◌, ◌||◌, ◌==◌, List, [], ◌∷◌, refl, sym, ap, subst, ◌∙◌, arith}
use Rattle.std.specs.Prelude.{nat_le}
use Rattle.std.proofs.lemmas.Bool.{cases_eq, cases_lt, eq-eqb, eqb-true, false≢true}
use Rattle.rx_cert_lines.specs.declared.item.Item.{Item}
use Rattle.rx_cert_lines.specs.declared.item.Item.TheVariants.{Number, Range, End}
use Rattle.rx_cert_lines.specs.Lines.{is_part, precedes_first, is_set}
use Rattle.rx_cert_tables.specs.Sets.{is_site, has_site, has_end, IsSetOf}
use Rattle.rx_cert_tables.proofs.Tests.{and_parts, or_parts, or_left, not_true, between, above, from_le, from_lt, differs}

two : {A B C : Type 0} (f : A → B → C) {a c : A} {b d : B} → a ≡ c → b ≡ d → f a b ≡ f c d
two f {a} {c} {b} {d} p q = ap (λ x. f x b) p ∙ ap (λ y. f c y) q

record Cut (i : Item) (is : List Item) : Type 0 where
  part : is_part i ≡ true
  first : precedes_first i is ≡ true
  rest : is_set is ≡ true

cut : (i : Item) (is : List Item) → is_set (i ∷ is) ≡ true → Cut i is
cut i is h = let p = and_parts (is_part i && precedes_first i is) (is_set is) h in let q = and_parts (is_part i) (precedes_first i is) p.0 in
    record { part = q.0; first = q.1; rest = p.1 }

in_range : (a b p : ℕ) → is_site (Range a b) p ≡ true → (a ≤ p) × (p ≤ b)
in_range a b p h = let q = and_parts (nat_le a p) (nat_le p b) h in (from_le a p q.0, from_le p b q.1)

-- ---- what stands behind a part is behind it

-- no site stands behind an end point, and only larger end points
sites_after_end : (n : ℕ) (is : List Item) → precedes_first (End n) is ≡ true → is_set is ≡ true → (p : ℕ) → has_site is p ≡ true → ⊥
sites_after_end n [] f s p h = false≢true h
sites_after_end n (Number m ∷ is) f s p h = false≢true f
sites_after_end n (Range a b ∷ is) f s p h = false≢true f
sites_after_end n (End m ∷ is) f s p h = let c = cut (End m) is s in sites_after_end m is c.first c.rest p h

ends_after_end : (n : ℕ) (is : List Item) → precedes_first (End n) is ≡ true → is_set is ≡ true → (k : ℕ) → has_end is k ≡ true → n < k
ends_after_end n [] f s k h = absurd (false≢true h)
ends_after_end n (Number m ∷ is) f s k h = absurd (false≢true f)
ends_after_end n (Range a b ∷ is) f s k h = absurd (false≢true f)
ends_after_end n (End m ∷ is) f s k h = let c = cut (End m) is s in
    go (or_parts (k == m) (has_end is k) h) (from_lt n m f) (λ e. ends_after_end m is c.first c.rest k e) where
      go : ((k == m) ≡ true) ⊎ (has_end is k ≡ true) → n < m → (has_end is k ≡ true → m < k) → n < k
      go (inl e) l r = let q = eqb-true k m e in omega (arith, q, l)
      go (inr e) l r = let q = r e in omega (arith, q, l)

sites_after_range : (a b : ℕ) (is : List Item) → precedes_first (Range a b) is ≡ true → is_set is ≡ true → (p : ℕ) → has_site is p ≡ true → b + 1 < p
sites_after_range a b [] f s p h = absurd (false≢true h)
sites_after_range a b (Number m ∷ is) f s p h = absurd (false≢true f)
sites_after_range a b (Range c d ∷ is) f s p h = let u = cut (Range c d) is s in
    go (or_parts (is_site (Range c d) p) (has_site is p) h) (from_lt (b + 1) c f) (from_le c d u.part) (λ e. sites_after_range c d is u.first u.rest p e) where
      go : (is_site (Range c d) p ≡ true) ⊎ (has_site is p ≡ true) → b + 1 < c → c ≤ d → (has_site is p ≡ true → d + 1 < p) → b + 1 < p
      go (inl e) l i r = let q = in_range c d p e in omega (arith, l, q)
      go (inr e) l i r = let q = r e in omega (arith, l, i, q)
sites_after_range a b (End m ∷ is) f s p h = let c = cut (End m) is s in absurd (sites_after_end m is c.first c.rest p h)

-- ---- two sets that hold the same

abbrev SameSites : List Item → List Item → Type 0
SameSites is js = (p : ℕ) → has_site is p ≡ has_site js p

abbrev SameEnds : List Item → List Item → Type 0
SameEnds is js = (k : ℕ) → has_end is k ≡ has_end js k

-- the first site of a range is in the set
first_in : (a b : ℕ) (is : List Item) → a ≤ b → has_site (Range a b ∷ is) a ≡ true
first_in a b is h = or_left (is_site (Range a b) a) (has_site is a) (between a a b (omega arith) h)

last_in : (a b : ℕ) (is : List Item) → a ≤ b → has_site (Range a b ∷ is) b ≡ true
last_in a b is h = or_left (is_site (Range a b) b) (has_site is b) (between a b b h (omega arith))

-- a set's sites are not before its first
from_first : (a b : ℕ) (is : List Item) → is_set (Range a b ∷ is) ≡ true → (p : ℕ) → has_site (Range a b ∷ is) p ≡ true → a ≤ p
from_first a b is s p h = let u = cut (Range a b) is s in
    go (or_parts (is_site (Range a b) p) (has_site is p) h) (from_le a b u.part) (λ e. sites_after_range a b is u.first u.rest p e) where
      go : (is_site (Range a b) p ≡ true) ⊎ (has_site is p ≡ true) → a ≤ b → (has_site is p ≡ true → b + 1 < p) → a ≤ p
      go (inl e) i r = (in_range a b p e).0
      go (inr e) i r = let q = r e in omega (arith, i, q)

-- where a set begins with a range, the site behind it is not in it
gap : (a b : ℕ) (is : List Item) → is_set (Range a b ∷ is) ≡ true → has_site (Range a b ∷ is) (b + 1) ≡ true → ⊥
gap a b is s h = let u = cut (Range a b) is s in
    go (or_parts (is_site (Range a b) (b + 1)) (has_site is (b + 1)) h) (λ e. sites_after_range a b is u.first u.rest (b + 1) e) where
      go : (is_site (Range a b) (b + 1) ≡ true) ⊎ (has_site is (b + 1) ≡ true) → (has_site is (b + 1) ≡ true → b + 1 < b + 1) → ⊥
      go (inl e) r = let q = in_range a b (b + 1) e in omega (arith, q)
      go (inr e) r = let q = r e in omega (arith, q)

first_same : (a b c d : ℕ) (is js : List Item) → is_set (Range a b ∷ is) ≡ true → is_set (Range c d ∷ js) ≡ true → SameSites (Range a b ∷ is) (Range c d ∷ js) → c ≤ a
first_same a b c d is js s t same = let u = cut (Range a b) is s in from_first c d js t a (sym (same a) ∙ first_in a b is (from_le a b u.part))

last_same : (a b d : ℕ) (is js : List Item) → is_set (Range a b ∷ is) ≡ true → is_set (Range a d ∷ js) ≡ true → SameSites (Range a b ∷ is) (Range a d ∷ js) → d ≤ b
last_same a b d is js s t same = go (cases_lt b d) where
  go : (b < d) ⊎ (d ≤ b) → d ≤ b
  go (inr h) = h
  go (inl h) = let u = cut (Range a b) is s in let i = from_le a b u.part in
      absurd (gap a b is s (same (b + 1) ∙ or_left (is_site (Range a d) (b + 1)) (has_site js (b + 1)) (between a (b + 1) d (omega (arith, i)) (omega (arith, h)))))

-- behind one range, the same sites are left
rest_sites : (a b : ℕ) (is js : List Item) → Cut (Range a b) is → Cut (Range a b) js → SameSites (Range a b ∷ is) (Range a b ∷ js) → SameSites is js
rest_sites a b is js u v same p = go (cases_lt b p) where
  none : (ks : List Item) → Cut (Range a b) ks → p ≤ b → has_site ks p ≡ false
  none ks w h = not_true (has_site ks p) (λ e. let q = sites_after_range a b ks w.first w.rest p e in omega (arith, q, h))

  go : (b < p) ⊎ (p ≤ b) → has_site is p ≡ has_site js p
  go (inl h) = ap (λ x. x || has_site is p) (sym (above a p b h)) ∙ same p ∙ ap (λ x. x || has_site js p) (above a p b h)
  go (inr h) = none is u h ∙ sym (none js v h)

-- behind one end point, the same end points are left
rest_ends : (n : ℕ) (is js : List Item) → Cut (End n) is → Cut (End n) js → SameEnds (End n ∷ is) (End n ∷ js) → SameEnds is js
rest_ends n is js u v same k = go (cases_eq k n) where
  none : (ks : List Item) → Cut (End n) ks → k ≡ n → has_end ks k ≡ false
  none ks w h = not_true (has_end ks k) (λ e. let q = ends_after_end n ks w.first w.rest k e in omega (arith, q, h))

  go : (k ≡ n) ⊎ (k ≡ n → ⊥) → has_end is k ≡ has_end js k
  go (inl h) = none is u h ∙ sym (none js v h)
  go (inr h) = ap (λ x. x || has_end is k) (sym (differs k n h)) ∙ same k ∙ ap (λ x. x || has_end js k) (differs k n h)

-- a set's end points, where it begins with one, are not before it
end_first : (n m : ℕ) (is js : List Item) → Cut (End m) js → SameEnds (End n ∷ is) (End m ∷ js) → m ≤ n
end_first n m is js v same = go (or_parts (n == m) (has_end js n) (sym (same n) ∙ or_left (n == n) (has_end is n) (eq-eqb n n refl))) where
  go : ((n == m) ≡ true) ⊎ (has_end js n ≡ true) → m ≤ n
  go (inl e) = let q = eqb-true n m e in omega (arith, q)
  go (inr e) = let q = ends_after_end m js v.first v.rest n e in omega (arith, q)

between_both : (a b : ℕ) → a ≤ b → b ≤ a → a ≡ b
between_both a b h k = omega (arith, h, k)

pub set_same : (is js : List Item) → is_set is ≡ true → is_set js ≡ true → SameSites is js → SameEnds is js → is ≡ js
set_same [] [] s t p k = refl
set_same [] (Number n ∷ js) s t p k = absurd (false≢true t)
set_same [] (Range c d ∷ js) s t p k = let v = cut (Range c d) js t in absurd (false≢true (p c ∙ first_in c d js (from_le c d v.part)))
set_same [] (End n ∷ js) s t p k = absurd (false≢true (k n ∙ or_left (n == n) (has_end js n) (eq-eqb n n refl)))
set_same (Number n ∷ is) js s t p k = absurd (false≢true s)
set_same (Range a b ∷ is) [] s t p k = let u = cut (Range a b) is s in absurd (false≢true (sym (p a) ∙ first_in a b is (from_le a b u.part)))
set_same (Range a b ∷ is) (Number n ∷ js) s t p k = absurd (false≢true t)
set_same (Range a b ∷ is) (Range c d ∷ js) s t p k =
    let e : a ≡ c = between_both a c (first_same c d a b js is t s (λ q. sym (p q))) (first_same a b c d is js s t p) in
    let t' : is_set (Range a d ∷ js) ≡ true = subst (λ x. is_set (Range x d ∷ js) ≡ true) (sym e) t in
    let p' : SameSites (Range a b ∷ is) (Range a d ∷ js) = subst (λ x. SameSites (Range a b ∷ is) (Range x d ∷ js)) (sym e) p in
    let f : b ≡ d = between_both b d (last_same a d b js is t' s (λ q. sym (p' q))) (last_same a b d is js s t' p') in
    let t'' : is_set (Range a b ∷ js) ≡ true = subst (λ x. is_set (Range a x ∷ js) ≡ true) (sym f) t' in
    let p'' : SameSites (Range a b ∷ is) (Range a b ∷ js) = subst (λ x. SameSites (Range a b ∷ is) (Range a x ∷ js)) (sym f) p' in
    let u = cut (Range a b) is s in let v = cut (Range a b) js t'' in
    two (λ x y. x ∷ y) (two Range e f) (set_same is js u.rest v.rest (rest_sites a b is js u v p'') k)
set_same (Range a b ∷ is) (End n ∷ js) s t p k = let u = cut (Range a b) is s in let v = cut (End n) js t in
    absurd (sites_after_end n js v.first v.rest a (sym (p a) ∙ first_in a b is (from_le a b u.part)))
set_same (End n ∷ is) [] s t p k = absurd (false≢true (sym (k n) ∙ or_left (n == n) (has_end is n) (eq-eqb n n refl)))
set_same (End n ∷ is) (Number m ∷ js) s t p k = absurd (false≢true t)
set_same (End n ∷ is) (Range c d ∷ js) s t p k = let u = cut (End n) is s in let v = cut (Range c d) js t in
    absurd (sites_after_end n is u.first u.rest c (p c ∙ first_in c d js (from_le c d v.part)))
set_same (End n ∷ is) (End m ∷ js) s t p k =
    let u = cut (End n) is s in let v = cut (End m) js t in
    let e : n ≡ m = between_both n m (end_first m n js is u (λ q. sym (k q))) (end_first n m is js v k) in
    let v' : Cut (End n) js = subst (λ x. Cut (End x) js) (sym e) v in
    let k' : SameEnds (End n ∷ is) (End n ∷ js) = subst (λ x. SameEnds (End n ∷ is) (End x ∷ js)) (sym e) k in
    two (λ x y. x ∷ y) (ap End e) (set_same is js u.rest v.rest p (rest_ends n is js u v' k'))

pub items_of_one_set : (sites own : ℕ) (row : List ℕ) (is js : List Item) → IsSetOf sites own row is → IsSetOf sites own row js → is ≡ js
items_of_one_set sites own row is js s t = set_same is js s.set t.set (λ p. s.site p ∙ sym (t.site p)) (λ k. s.end k ∙ sym (t.end k))
