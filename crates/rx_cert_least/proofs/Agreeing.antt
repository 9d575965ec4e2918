-- A text has one certificate: its least sets are unique as functions on points, and lines that say them are one.
use Rattle.std.proofs.Common.{◌≡◌, ◌⊎◌, inl, inr, ℕ, zero, suc, ◌+◌, ◌-◌, ◌<◌, ◌≤◌, Bool, true, false, List, [], ◌∷◌, ◌++◌, length, get_or, Option, Some, None, slice_get, refl, sym, ap, ◌∙◌, subst, arith}
use Rattle.std.specs.List.{list_all}
use Rattle.std.proofs.lemmas.Bool.{cases_lt, false_from_ne_true, false≢true}
use Rattle.std.proofs.lemmas.List.{length-append, length-map}
use Rattle.std.proofs.lemmas.Option.{slice_get_within, slice_get-get_or, slice_get_cases}
use Rattle.rx_core.specs.declared.types.Bound.{Bound}
use Rattle.rx_tree.specs.Plain.{ProgramTree}
use Rattle.rx_typed.specs.declared.declarations.Decl.{Decl}
use Rattle.rx_resolve_names.specs.declared.resolved.ItemNames.{ItemNames}
use Rattle.rx_typeck_typed.specs.declared.typed.Typed.{Typed}
use Rattle.rx_typeck_typed.specs.declared.typed.TypedFn.{TypedFn}
use Rattle.rx_typeck_typed.specs.Typing.{IsTyped}
use Rattle.rx_facts.specs.Functions.{sites_of}
use Rattle.rx_facts.specs.Passing.{Each}
use Rattle.rx_facts.specs.Same.{AreSame, SameFunction}
use Rattle.rx_region.specs.Constraints.{Context}
use Rattle.rx_region.specs.Solutions.{Sets, Point, site, end, AreLeast}
use Rattle.rx_loan.specs.Accesses.{Loan}
use Rattle.rx_loan.specs.Accepted.{at_sites}
use Rattle.rx_loan.proofs.Walking.{more_scope}
use Rattle.rx_check.specs.Contexts.{AreAsked, context_of}
use Rattle.rx_cert_lines.specs.declared.item.Item.{Item}
use Rattle.rx_cert_lines.specs.declared.item.Item.TheVariants.{Number}
use Rattle.rx_cert_lines.specs.declared.line.Head.{Head}
use Rattle.rx_cert_lines.specs.declared.line.Head.TheVariants.{Function, Region, Loan as LoanHead, Text}
use Rattle.rx_cert_lines.specs.declared.line.Line.{Line}
use Rattle.rx_cert_lines.specs.Certificates.{certificate_text}
use Rattle.rx_cert_tables.specs.declared.shape.Shape.{Shape}
use Rattle.rx_cert_tables.specs.Sets.{has_site, has_end}
use Rattle.rx_cert_tables.specs.Fitting.{is_within, is_number_of, fits_at, fits_loan}
use Rattle.rx_cert_tables.specs.Written.{function_line}
use Rattle.rx_cert_tables.proofs.Tests.{and_parts}
use Rattle.rx_cert_tables.proofs.Same.{set_same}
use Rattle.rx_cert_tables.proofs.Placed.{site_within, end_within, region_within}
use Rattle.rx_cert_sets.specs.Pushed.{ArePushed, IsScopeLine}
use Rattle.rx_cert_rules.specs.Verdicts.{AreScopes}
use Rattle.rx_cert.specs.Shapes.{loans_in, shape_of}
use Rattle.rx_cert.specs.Verified.{Fronts}
use Rattle.rx_cert.proofs.Alike.{Shared, same_shape, least_alike, scopes_alike}
use Rattle.rx_cert.proofs.Excluding.{same_typed, share}
use Rattle.rx_cert.proofs.Reading.{region_at, loan_at}
use Rattle.rx_cert_least.specs.Least.{LeastLines, AllLeast, IsCertificateOf}

-- ---- lists and tests

two : {A B C : Type 0} (f : A → B → C) {a c : A} {b d : B} → a ≡ c → b ≡ d → f a b ≡ f c d
two f {a} {c} {b} {d} p q = ap (λ x. f x b) p ∙ ap (λ y. f c y) q

same_test : (a b : Bool) → (a ≡ true → b ≡ true) → (b ≡ true → a ≡ true) → a ≡ b
same_test true true h k = refl
same_test true false h k = sym (h refl)
same_test false true h k = k refl
same_test false false h k = refl

-- two tests that hold below a bound alone are the same where they are there
below_same : (bound p : ℕ) (a b : Bool) → (a ≡ true → p < bound) → (b ≡ true → p < bound) → (p < bound → a ≡ b) → a ≡ b
below_same bound p a b h k same = by (cases_lt p bound) where
  by : (p < bound) ⊎ (bound ≤ p) → a ≡ b
  by (inl w) = same w
  by (inr n) = false_from_ne_true a (λ e. let w = h e in omega (arith, w, n)) ∙ sym (false_from_ne_true b (λ e. let w = k e in omega (arith, w, n)))

some_same : (l m : Line) → ◌≡◌ {A = Option Line} (Some l) (Some m) → l ≡ m
some_same l m e = cc

-- lists that are as long, and have the same at each place
same_lists : (ls ms : List Line) → length ls ≡ length ms → ((n : ℕ) (l m : Line) → slice_get ls n ≡ Some l → slice_get ms n ≡ Some m → l ≡ m) → ls ≡ ms
same_lists [] [] e h = refl
same_lists [] (m ∷ ms) e h = absurd (omega (arith, e))
same_lists (l ∷ ls) [] e h = absurd (omega (arith, e))
same_lists (l ∷ ls) (m ∷ ms) e h = two (λ x xs. x ∷ xs) (h 0 l m refl refl) (same_lists ls ms (omega (arith, e)) (λ n x y p q. h (suc n) x y p q))

get_left : (ls ms : List Line) (n : ℕ) (l : Line) → slice_get ls n ≡ Some l → slice_get (ls ++ ms) n ≡ Some l
get_left [] ms n l h = absurd (cc)
get_left (x ∷ ls) ms zero l h = h
get_left (x ∷ ls) ms (suc n) l h = get_left ls ms n l h

get_right : (ls ms : List Line) (n : ℕ) (l : Line) → slice_get ms n ≡ Some l → slice_get (ls ++ ms) (length ls + n) ≡ Some l
get_right [] ms n l h = let e : n ≡ length {A = Line} [] + n = omega arith in subst (λ k. slice_get ms k ≡ Some l) e h
get_right (x ∷ ls) ms n l h = let e : suc (length ls + n) ≡ length (x ∷ ls) + n = omega arith in
    subst (λ k. slice_get (x ∷ (ls ++ ms)) k ≡ Some l) e (get_right ls ms n l h)

get_next : (x : Line) (ls : List Line) (n : ℕ) → slice_get (x ∷ ls) (1 + n) ≡ slice_get ls n
get_next x ls n = let e : 1 + n ≡ suc n = omega arith in ap (λ k. slice_get (x ∷ ls) k) e

line_same : (l m : Line) → l.head ≡ m.head → l.items ≡ m.items → l ≡ m
line_same l m p q = two (λ (h : Head) (is : List Item). record { head = h; items = is }) p q

-- ---- the lines that are pushed of one function

-- behind the borrow of a loan stand sites of the function, and no end points
sites_behind : (f : Shape) (b c : ℕ) (h : Head) (is : List Item) → h ≡ LoanHead → fits_loan f b (record { head = h; items = Number c ∷ is }) ≡ true
    → list_all (is_within f.sites 0) is ≡ true
sites_behind f b c Function is e fit = absurd (false≢true fit)
sites_behind f b c Region is e fit = absurd (false≢true fit)
sites_behind f b c LoanHead is e fit = (and_parts (is_number_of b (Number c)) (list_all (is_within f.sites 0) is) fit).1
sites_behind f b c Text is e fit = absurd (false≢true fit)

module _ (f : Shape) (R : Sets) (W : ℕ → ℕ → Bool) (ls : List Line) (a : ArePushed f R W ls) where
  -- what stands behind the function's line is as it has to be there
  fits_behind : (n : ℕ) (l : Line) → slice_get (a.sets ++ a.scopes) n ≡ Some l → fits_at f (1 + n) l ≡ true
  fits_behind n l h =
      let w = slice_get_within (a.sets ++ a.scopes) n l h in
      let fit = a.fits (1 + n) (omega (arith, w, length-append a.sets a.scopes, a.set_count, a.scope_count)) in
      subst (λ (x : Line). fits_at f (1 + n) x ≡ true)
      (some_same fit.0 l (sym fit.1 ∙ ap (λ (x : List Line). slice_get x (1 + n)) a.lines ∙ get_next (function_line f) (a.sets ++ a.scopes) n ∙ h)) fit.2

  set_within : (n : ℕ) (l : Line) → slice_get a.sets n ≡ Some l → list_all (is_within f.sites f.own) l.items ≡ true
  set_within n l h = let w = slice_get_within a.sets n l h in
      region_within f l (region_at f n l (omega (arith, w, a.set_count)) (fits_behind n l (get_left a.sets a.scopes n l h)))

  fits_scope : (n : ℕ) (l : Line) → slice_get a.scopes n ≡ Some l → (b : ℕ) × (fits_loan f b l ≡ true)
  fits_scope n l h = (
    get_or f.borrows (1 + (f.lifetimes + n) - 1 - f.lifetimes) 0,
    loan_at f n l (subst (λ k. fits_at f (1 + (k + n)) l ≡ true) a.set_count (fits_behind (length a.sets + n) l (get_right a.sets a.scopes n l h))),
  )

  scope_within : (n c : ℕ) (l : Line) (is : List Item) → slice_get a.scopes n ≡ Some l → l.head ≡ LoanHead → l.items ≡ Number c ∷ is
      → list_all (is_within f.sites 0) is ≡ true
  scope_within n c l is h head items = let fit = fits_scope n l h in
      sites_behind f fit.0 c l.head is head (subst (λ (x : List Item). fits_loan f fit.0 (record { head = l.head; items = x }) ≡ true) items fit.1)

module _ (f : Shape) (R S : Sets) (W V : ℕ → ℕ → Bool) (ls ms : List Line) (a : ArePushed f R W ls) (b : ArePushed f S V ms)
    (same_sets : (n : ℕ) (x : Point) → R n x ≡ S n x) (same_scopes : (n p : ℕ) → n < length f.borrows → p < f.sites → W n p ≡ V n p) where
  set_line : (n : ℕ) (l m : Line) → slice_get a.sets n ≡ Some l → slice_get b.sets n ≡ Some m → l ≡ m
  set_line n l m h k =
      let x = a.are_sets n l h in let y = b.are_sets n m k in
      let v = set_within f R W ls a n l h in let w = set_within f S V ms b n m k in
      line_same l m (x.head ∙ sym y.head) (set_same l.items m.items x.set y.set
      (λ p. below_same f.sites p (has_site l.items p) (has_site m.items p) (site_within f.sites f.own l.items p v) (site_within f.sites f.own m.items p w)
      (λ t. x.sites_are p t ∙ same_sets n (site p) ∙ sym (y.sites_are p t)))
      (λ p. below_same f.own p (has_end l.items p) (has_end m.items p) (end_within f.sites f.own l.items p v) (end_within f.sites f.own m.items p w)
      (λ t. x.ends_are p t ∙ same_sets n (end p) ∙ sym (y.ends_are p t))))

  scope_items : (n c : ℕ) (l m : Line) → n < length f.borrows → slice_get a.scopes n ≡ Some l → slice_get b.scopes n ≡ Some m
      → IsScopeLine f W n c l → IsScopeLine f V n c m → l ≡ m
  scope_items n c l m short h k x y =
      let is = x.parts.0 in let js = y.parts.0 in
      let v = scope_within f R W ls a n c l is h x.head x.parts.1 in let w = scope_within f S V ms b n c m js k y.head y.parts.1 in
      line_same l m (x.head ∙ sym y.head) (x.parts.1 ∙ ap (λ (z : List Item). Number c ∷ z) (set_same is js x.parts.2.set y.parts.2.set
      (λ p. below_same f.sites p (has_site is p) (has_site js p) (site_within f.sites 0 is p v) (site_within f.sites 0 js p w)
      (λ t. x.parts.2.sites_are p t ∙ same_scopes n p short t ∙ sym (y.parts.2.sites_are p t)))
      (λ p. below_same 0 p (has_end is p) (has_end js p) (end_within f.sites 0 is p v) (end_within f.sites 0 js p w) (λ t. absurd (omega (arith, t)))))
      ∙ sym y.parts.1)

  scope_line : (n : ℕ) (l m : Line) → slice_get a.scopes n ≡ Some l → slice_get b.scopes n ≡ Some m → l ≡ m
  scope_line n l m h k =
      let w = slice_get_within a.scopes n l h in let short : n < length f.borrows = omega (arith, w, a.scope_count) in
      let c = get_or f.borrows n 0 in let there : slice_get f.borrows n ≡ Some c = slice_get-get_or f.borrows n 0 short in
      scope_items n c l m short h k (a.are_scopes n c l h there) (b.are_scopes n c m k there)

  pushed_once : ls ≡ ms
  pushed_once = a.lines ∙ ap (λ (x : List Line). function_line f ∷ x) (two (λ x y. x ++ y)
      (same_lists a.sets b.sets (a.set_count ∙ sym b.set_count) set_line)
      (same_lists a.scopes b.scopes (a.scope_count ∙ sym b.scope_count) scope_line)) ∙ sym b.lines

-- ---- functions that are the same

module _ (D E : List Decl) (s : Shared D E) (P Q : ℕ → List Bound) (asked : AreAsked D P) (other : AreAsked E Q) where
  one_lines : (f g : TypedFn) → SameFunction f g → (us vs : List Line) → LeastLines D P f us → LeastLines E Q g vs → us ≡ vs
  one_lines f g same us vs x y = pushed_once (shape_of E g) x.regions y.regions x.scopes y.scopes us vs
      (subst (λ (h : Shape). ArePushed h x.regions x.scopes us) (same_shape D E s f g same) x.lines) y.lines same_sets same_scopes where
        C : Context
        C = context_of E Q g

        least : AreLeast C (sites_of g) x.regions
        least = least_alike D E s f g same P Q asked other x.regions x.least

        in_scope : AreScopes C (sites_of g) x.regions x.scopes
        in_scope = scopes_alike D E s f g same P Q x.regions x.scopes x.in_scope

        same_sets : (n : ℕ) (p : Point) → x.regions n p ≡ y.regions n p
        same_sets n p = same_test (x.regions n p) (y.regions n p) (λ h. (y.least n p).1 ((least n p).0 h)) (λ h. (least n p).1 ((y.least n p).0 h))

        same_scopes : (n p : ℕ) → n < length (shape_of E g).borrows → p < length (sites_of g) → x.scopes n p ≡ y.scopes n p
        same_scopes n p short w = by (slice_get_cases (loans_in E g) n).1 where
          by : ((l : Loan) × (n < length (loans_in E g)) × (slice_get (loans_in E g) n ≡ Some l) × (get_or (loans_in E g) n l ≡ l))
              ⊎ ((length (loans_in E g) ≤ n) × (slice_get (loans_in E g) n ≡ None)) → x.scopes n p ≡ y.scopes n p
          by (inl t) = same_test (x.scopes n p) (y.scopes n p)
              (λ h. (y.in_scope n p t.0 t.2 w).1 (more_scope (sites_of g) (at_sites x.regions) (at_sites y.regions) t.0 p w (λ r q k i. sym (same_sets r (site q)) ∙ i)
              ((in_scope n p t.0 t.2 w).0 h)))
              (λ h. (in_scope n p t.0 t.2 w).1 (more_scope (sites_of g) (at_sites y.regions) (at_sites x.regions) t.0 p w (λ r q k i. same_sets r (site q) ∙ i)
              ((y.in_scope n p t.0 t.2 w).0 h)))
          by (inr t) = absurd (omega (arith, short, t.0, length-map (loans_in E g) (λ (l : Loan). l.site)))

  all_lines : (fs gs : List TypedFn) → Each SameFunction fs gs → (ls ms : List Line) → AllLeast D P fs ls → AllLeast E Q gs ms → ls ≡ ms
  all_lines [] [] same ls ms x y = x ∙ sym y
  all_lines [] (g ∷ gs) same ls ms x y = absurd same
  all_lines (f ∷ fs) [] same ls ms x y = absurd same
  all_lines (f ∷ fs) (g ∷ gs) same ls ms x y =
      x.2 ∙ two (λ us vs. us ++ vs) (one_lines f g same.0 x.0 y.0 x.3 y.3) (all_lines fs gs same.1 x.1 y.1 x.4 y.4) ∙ sym y.2

-- ---- a text

abbrev fronts : (text bytes : List ℕ) → IsCertificateOf text bytes → Fronts text
fronts text bytes x = record { program = x.program; parses = x.parses; typed = x.typed; front = x.accepted.front }

pub one_certificate_each : ((p : ProgramTree) (names : List ItemNames) (t u : Typed) → IsTyped p names t → IsTyped p names u → AreSame t u)
    → (text a b : List ℕ) → IsCertificateOf text a → IsCertificateOf text b → a ≡ b
one_certificate_each one_typing text a b x y =
    let t = fronts text a x in let u = fronts text b y in
    let same = same_typed one_typing text t u in
    x.is.written ∙ ap (λ (ls : List Line). certificate_text ls text) (all_lines x.typed.decls.items y.typed.decls.items (share one_typing text t u)
    x.is.implied y.is.implied x.is.asked y.is.asked x.typed.functions y.typed.functions same.functions x.is.lines y.is.lines x.is.least y.is.least) ∙ sym y.is.written
