-- The lines of functions, one function after the other.
use Rattle.std.proofs.Common.{◌≡◌, inl, inr, ℕ, zero, suc, ◌+◌, ◌<◌, ◌≤◌, List, ◌∷◌, length, drop, get_or, refl, ap, sym, ◌∙◌, subst, arith}
use Rattle.std.proofs.lemmas.List.{drop_more, drop-drop, drop_all, length-drop}
use Rattle.std.proofs.lemmas.Option.{slice_get_within}
use Rattle.rx_core.specs.declared.types.Bound.{Bound}
use Rattle.rx_typed.specs.declared.declarations.Decl.{Decl}
use Rattle.rx_typeck_typed.specs.declared.typed.TypedFn.{TypedFn}
use Rattle.rx_cert_lines.specs.declared.line.Line.{Line}
use Rattle.rx_cert_tables.specs.declared.shape.Shape.{Shape}
use Rattle.rx_cert_tables.specs.Fitting.{count, AllFit, IsMisfit}
use Rattle.rx_cert.specs.Shapes.{shape_of, behind, AreLinesOf, FirstUnfit}
use Rattle.rx_cert.specs.Sets.{GoodOf, BrokenOf, AllGood, FirstRule}

-- ---- a function's lines are there

pub fit_within : (f : Shape) (ls : List Line) → AllFit f ls → count f ≤ length ls
fit_within f ls fit = let h = fit (f.lifetimes + length f.borrows) (omega arith) in
    let w = slice_get_within ls (f.lifetimes + length f.borrows) h.0 h.1 in omega (arith, w)

-- a misfit stands at most behind the last
pub misfit_within : (f : Shape) (ls : List Line) (n : ℕ) → IsMisfit f ls n → n ≤ length ls
misfit_within f ls n m = go n refl where
  go : (k : ℕ) → k ≡ n → n ≤ length ls
  go zero e = omega (arith, e)
  go (suc k) e = let h = m.before k (omega (arith, e)) in let w = slice_get_within ls k h.0 h.1 in omega (arith, w, e)

-- ---- what is left of the functions, and of the lines

pub some_left : (fs : List TypedFn) (i : ℕ) (f : TypedFn) → i < length fs → f ≡ get_or fs i f → drop i fs ≡ f ∷ drop (i + 1) fs
some_left fs i f within is = drop_more fs i f within ∙ ap (λ (x : TypedFn). x ∷ drop (i + 1) fs) (sym is)

next_behind : (D : List Decl) (f : TypedFn) (ls : List Line) (at n : ℕ) → n ≡ count (shape_of D f) → behind D f (drop at ls) ≡ drop (at + n) ls
next_behind D f ls at n e = drop-drop (count (shape_of D f)) at ls ∙ ap (λ m. drop (at + m) ls) (sym e)

pub record Going (D : List Decl) (fs : List TypedFn) (ls : List Line) (i at : ℕ) : Type 0 where
  pub within : at ≤ length ls
  pub done : AreLinesOf D (drop i fs) (drop at ls) → AreLinesOf D fs ls
  pub first : (k : ℕ) → FirstUnfit D (drop i fs) (drop at ls) k → FirstUnfit D fs ls (at + k)

pub begin : (D : List Decl) (fs : List TypedFn) (ls : List Line) → Going D fs ls 0 0
begin D fs ls = record { within = omega arith; done = λ h. h; first = λ k h. subst (λ m. FirstUnfit D fs ls m) (omega arith) h }

pub fits_next : (D : List Decl) (fs : List TypedFn) (ls : List Line) (i at n : ℕ) (f : TypedFn) → i < length fs → f ≡ get_or fs i f
    → n ≡ count (shape_of D f) → AllFit (shape_of D f) (drop at ls) → Going D fs ls i at → Going D fs ls (i + 1) (at + n)
fits_next D fs ls i at n f within is many fit before = record {
  within = let w = fit_within (shape_of D f) (drop at ls) fit in let b = before.within in omega (arith, w, b, many, length-drop at ls);
  done = λ h. before.done (subst (λ (x : List TypedFn). AreLinesOf D x (drop at ls)) (sym left)
      (fit, subst (λ (x : List Line). AreLinesOf D (drop (i + 1) fs) x) (sym lines) h));
  first = λ k h. subst (λ m. FirstUnfit D fs ls m) (sym (sums k)) (before.first (count (shape_of D f) + k)
      (subst (λ (x : List TypedFn). FirstUnfit D x (drop at ls) (count (shape_of D f) + k)) (sym left)
      (inr (fit, (k, refl, subst (λ (x : List Line). FirstUnfit D (drop (i + 1) fs) x k) (sym lines) h)))));
} where
  left : drop i fs ≡ f ∷ drop (i + 1) fs
  left = some_left fs i f within is

  lines : behind D f (drop at ls) ≡ drop (at + n) ls
  lines = next_behind D f ls at n many

  sums : (k : ℕ) → at + n + k ≡ at + (count (shape_of D f) + k)
  sums k = omega (arith, many)

pub unfit_here : (D : List Decl) (fs : List TypedFn) (ls : List Line) (i at k : ℕ) (f : TypedFn) → i < length fs → f ≡ get_or fs i f
    → IsMisfit (shape_of D f) (drop at ls) k → Going D fs ls i at → FirstUnfit D fs ls (at + k)
unfit_here D fs ls i at k f within is m before = before.first k
    (subst (λ (x : List TypedFn). FirstUnfit D x (drop at ls) k) (sym (some_left fs i f within is)) (inl m))

pub too_many : (D : List Decl) (fs : List TypedFn) (ls : List Line) (i at : ℕ) → length fs ≤ i → at < length ls → Going D fs ls i at → FirstUnfit D fs ls at
too_many D fs ls i at past more before = subst (λ m. FirstUnfit D fs ls m) (omega arith) (before.first 0
    (subst (λ (x : List TypedFn). FirstUnfit D x (drop at ls) 0) (sym (drop_all i fs past)) (refl, omega (arith, more, length-drop at ls))))

pub all_fit : (D : List Decl) (fs : List TypedFn) (ls : List Line) (i at : ℕ) → length fs ≤ i → length ls ≤ at → Going D fs ls i at → AreLinesOf D fs ls
all_fit D fs ls i at past none before = before.done
    (subst (λ (x : List TypedFn). AreLinesOf D x (drop at ls)) (sym (drop_all i fs past)) (drop_all at ls none))

-- ---- the rules, where the lines fit

pub record Keeping (D : List Decl) (P : ℕ → List Bound) (fs : List TypedFn) (ls : List Line) (i at : ℕ) : Type 0 where
  pub within : at ≤ length ls
  pub fit : AreLinesOf D (drop i fs) (drop at ls)
  pub good : AllGood D P (drop i fs) (drop at ls) → AllGood D P fs ls
  pub first : (j r : ℕ) → FirstRule D P j r (drop i fs) (drop at ls) → FirstRule D P j r fs ls

pub begin_keeping : (D : List Decl) (P : ℕ → List Bound) (fs : List TypedFn) (ls : List Line) → AreLinesOf D fs ls → Keeping D P fs ls 0 0
begin_keeping D P fs ls fit = record { within = omega arith; fit = fit; good = λ h. h; first = λ j r h. h }

pub fits_here : (D : List Decl) (P : ℕ → List Bound) (fs : List TypedFn) (ls : List Line) (i at : ℕ) (f : TypedFn) → i < length fs → f ≡ get_or fs i f
    → Keeping D P fs ls i at → AllFit (shape_of D f) (drop at ls)
fits_here D P fs ls i at f within is before =
    (subst (λ (x : List TypedFn). AreLinesOf D x (drop at ls)) (some_left fs i f within is) before.fit).0

pub keeps_next : (D : List Decl) (P : ℕ → List Bound) (fs : List TypedFn) (ls : List Line) (i at n : ℕ) (f : TypedFn) → i < length fs → f ≡ get_or fs i f
    → n ≡ count (shape_of D f) → GoodOf D P f (drop at ls) → Keeping D P fs ls i at → Keeping D P fs ls (i + 1) (at + n)
keeps_next D P fs ls i at n f within is many good before = record {
  within = let w = fit_within (shape_of D f) (drop at ls) fit.0 in let b = before.within in omega (arith, w, b, many, length-drop at ls);
  fit = subst (λ (x : List Line). AreLinesOf D (drop (i + 1) fs) x) lines fit.1;
  good = λ h. before.good (subst (λ (x : List TypedFn). AllGood D P x (drop at ls)) (sym left)
      (good, subst (λ (x : List Line). AllGood D P (drop (i + 1) fs) x) (sym lines) h));
  first = λ j r h. before.first j r (subst (λ (x : List TypedFn). FirstRule D P j r x (drop at ls)) (sym left)
      (inr (good, subst (λ (x : List Line). FirstRule D P j r (drop (i + 1) fs) x) (sym lines) h)));
} where
  left : drop i fs ≡ f ∷ drop (i + 1) fs
  left = some_left fs i f within is

  lines : behind D f (drop at ls) ≡ drop (at + n) ls
  lines = next_behind D f ls at n many

  fit : AreLinesOf D (f ∷ drop (i + 1) fs) (drop at ls)
  fit = subst (λ (x : List TypedFn). AreLinesOf D x (drop at ls)) left before.fit

pub breaks_here : (D : List Decl) (P : ℕ → List Bound) (fs : List TypedFn) (ls : List Line) (i at j r : ℕ) (f : TypedFn) → i < length fs → f ≡ get_or fs i f
    → j ≡ f.item → BrokenOf D P f (drop at ls) r → Keeping D P fs ls i at → FirstRule D P j r fs ls
breaks_here D P fs ls i at j r f within is item broken before = before.first j r
    (subst (λ (x : List TypedFn). FirstRule D P j r x (drop at ls)) (sym (some_left fs i f within is)) (inl (item, broken)))

pub all_keep : (D : List Decl) (P : ℕ → List Bound) (fs : List TypedFn) (ls : List Line) (i at : ℕ) → length fs ≤ i → Keeping D P fs ls i at → AllGood D P fs ls
all_keep D P fs ls i at past before = before.good (subst (λ (x : List TypedFn). AllGood D P x (drop at ls)) (sym (drop_all i fs past)) tt)
