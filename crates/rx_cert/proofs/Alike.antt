-- What is said of lines and their sets by one typed program of a text is said by any other, and by any pairs that fields ask.
use Rattle.std.proofs.Common.{◌≡◌, inl, inr, ℕ, ◌+◌, Bool, List, [], ◌∷◌, length, map, take, drop, slice_get, sym, ap, ◌∙◌, subst}
use Rattle.rx_core.specs.declared.types.Bound.{Bound}
use Rattle.rx_typed.specs.declared.declarations.Decl.{Decl}
use Rattle.rx_typed.specs.Tree as tree
use Rattle.rx_typed_declarations.specs.Variance.{unrecorded, variances_recorded, Recorded}
use Rattle.rx_lower_walks.specs.Graph.{Site}
use Rattle.rx_lower_walks.specs.Pieces.{graph}
use Rattle.rx_lower_walks.specs.Text.{actions_of}
use Rattle.rx_lower_lifetimes.specs.Lowered.{Lifetimes}
use Rattle.rx_region.specs.Constraints.{Context, variances}
use Rattle.rx_region.specs.Solutions.{Sets, Point, Least, whole, ends, live, longer, AreLeast}
use Rattle.rx_region.specs.Known.{KnownToOutlive, itself, by}
use Rattle.rx_loan.specs.Accesses.{Loan}
use Rattle.rx_loan.specs.Loans.{loans_of}
use Rattle.rx_typeck_typed.specs.declared.typed.TypedFn.{TypedFn}
use Rattle.rx_facts.specs.Functions.{sites_of}
use Rattle.rx_facts.specs.Passing.{Each}
use Rattle.rx_facts.specs.Same.{SameFunction}
use Rattle.rx_facts.proofs.Lifetimes.{same_lifetimes}
use Rattle.rx_check.specs.Contexts.{AreAsked, context_of}
use Rattle.rx_check.proofs.Variances.{Agree, tell_same, subtypes_agree}
use Rattle.rx_check.proofs.Declared.{regions_alike}
use Rattle.rx_check.proofs.Asking.{imposed_within, told_within}
use Rattle.rx_check.proofs.Judging.{context, Covers}
use Rattle.rx_cert_lines.specs.declared.line.Line.{Line}
use Rattle.rx_cert_tables.specs.declared.shape.Shape.{Shape}
use Rattle.rx_cert_tables.specs.Fitting.{AllFit, IsMisfit, count}
use Rattle.rx_cert_rules.specs.Rules.{Constrained, EndsKnown, Good}
use Rattle.rx_cert_rules.specs.Verdicts.{FirstBroken, first, second, third, fourth, AreScopes}
use Rattle.rx_cert.specs.Shapes.{lifetimes_of, shape_of, AreLinesOf, FirstUnfit}
use Rattle.rx_cert.specs.Sets.{points, sites, GoodOf, BrokenOf, AllGood, FirstRule}

-- ---- declarations that are the same but for what is recorded

pub record Shared (D E : List Decl) : Type 0 where
  pub items : map unrecorded D ≡ map unrecorded E
  pub agree : (i : ℕ) → Agree (variances_recorded (slice_get D i)) (variances_recorded (slice_get E i))

pub shared : (D E : List Decl) → map unrecorded D ≡ map unrecorded E → Recorded D → Recorded E → Shared D E
shared D E items a b = record {
  items = items;
  agree = λ i. tell_same D E (regions_alike D E items) i (variances_recorded (slice_get D i)) (variances_recorded (slice_get E i)) (a i) (b i);
}

shared_back : (D E : List Decl) → Shared D E → Shared E D
shared_back D E s = record { items = sym s.items; agree = λ i k. sym (s.agree i k) }

covers : (D E : List Decl) → Shared D E → (P Q : ℕ → List Bound) → AreAsked D P → AreAsked E Q → (L : Lifetimes) → Covers (context D P L) (context E Q L)
covers D E s P Q asked other L = record {
  imposes = imposed_within D E s.items P Q asked other L (λ t u. subtypes_agree (variances (context D P L)) (variances (context E Q L)) s.agree t u);
  tells = told_within D E s.items P Q asked other L;
}

-- ---- sets that are good by one context are by another that imposes and knows the same

known_by : (C K : Context) → Covers C K → (l k : ℕ) → KnownToOutlive C l k → KnownToOutlive K l k
known_by C K forth l k itself = itself
known_by C K forth l k (by m pair h) = by m (forth.tells l m pair) (known_by C K forth m k h)

constrained_by : (D E : List Decl) (P Q : ℕ → List Bound) (L : Lifetimes) → Covers (context E Q L) (context D P L) → (g : List Site) (R : Sets)
    → Constrained (context D P L) g R → Constrained (context E Q L) g R
constrained_by D E P Q L back g R c = record {
  whole = c.whole;
  ends = c.ends;
  live = c.live;
  longer = λ l k h. c.longer l k (back.imposes (actions_of g) l k h);
}

ends_known_by : (D E : List Decl) (P Q : ℕ → List Bound) (L : Lifetimes) → Covers (context D P L) (context E Q L) → (R : Sets)
    → EndsKnown (context D P L) R → EndsKnown (context E Q L) R
ends_known_by D E P Q L forth R k = λ x y h w e. known_by (context D P L) (context E Q L) forth x y (k x y h w e)

good_by : (D E : List Decl) (P Q : ℕ → List Bound) (L : Lifetimes) → Covers (context D P L) (context E Q L) → Covers (context E Q L) (context D P L)
    → (g : List Site) (R : Sets) (W : ℕ → ℕ → Bool) → Good (context D P L) g R W → Good (context E Q L) g R W
good_by D E P Q L forth back g R W good = record {
  constrained = constrained_by D E P Q L back g R good.constrained;
  known = ends_known_by D E P Q L forth R good.known;
  follow = good.follow;
  none_conflicts = good.none_conflicts;
}

broken_by : (D E : List Decl) (P Q : ℕ → List Bound) (L : Lifetimes) → Covers (context D P L) (context E Q L) → Covers (context E Q L) (context D P L)
    → (g : List Site) (R : Sets) (W : ℕ → ℕ → Bool) (n : ℕ) → FirstBroken (context D P L) g R W n → FirstBroken (context E Q L) g R W n
broken_by D E P Q L forth back g R W n (first f) = first (λ c. f (constrained_by E D Q P L forth g R c))
broken_by D E P Q L forth back g R W n (second c f) = second (constrained_by D E P Q L back g R c) (λ k. f (ends_known_by E D Q P L back R k))
broken_by D E P Q L forth back g R W n (third c k f) = third (constrained_by D E P Q L back g R c) (ends_known_by D E P Q L forth R k) f
broken_by D E P Q L forth back g R W n (fourth c k l f) = fourth (constrained_by D E P Q L back g R c) (ends_known_by D E P Q L forth R k) l f

-- the least sets are those of one context and of the other
least_by : (D E : List Decl) (P Q : ℕ → List Bound) (L : Lifetimes) → Covers (context D P L) (context E Q L) → (g : List Site) (l : ℕ) (x : Point)
    → Least (context D P L) g l x → Least (context E Q L) g l x
least_by D E P Q L forth g l x (whole own there) = whole own there
least_by D E P Q L forth g l x (ends own) = ends own
least_by D E P Q L forth g l x (live r is there) = live r is there
least_by D E P Q L forth g l x (longer k pair h) = longer k (forth.imposes (actions_of g) l k pair) (least_by D E P Q L forth g k x h)

-- ---- functions that are the same

-- a shape, by what tells it
abbrev shape_by : ℕ → Lifetimes → List Site → Shape
shape_by i L g = record { item = i; sites = length g; own = L.own; lifetimes = L.regions; borrows = map (λ (l : Loan). l.site) (loans_of g L.owned) }

-- the sets of a function's lines keep the rules, by what tells these
abbrev Keeps : List Decl → (ℕ → List Bound) → List Line → ℕ → Lifetimes → List Site → Type 0
Keeps E Q ls i L g = Good (context E Q L) g (points (take (shape_by i L g).lifetimes (drop 1 ls)))
    (sites (take (length (shape_by i L g).borrows) (drop (1 + (shape_by i L g).lifetimes) ls)))

-- they break one, and this first
abbrev Breaks : List Decl → (ℕ → List Bound) → List Line → ℕ → ℕ → Lifetimes → List Site → Type 0
Breaks E Q ls n i L g = FirstBroken (context E Q L) g (points (take (shape_by i L g).lifetimes (drop 1 ls)))
    (sites (take (length (shape_by i L g).borrows) (drop (1 + (shape_by i L g).lifetimes) ls))) n

module _ (D E : List Decl) (s : Shared D E) (f g : TypedFn) (same : SameFunction f g) where
  same_sites : sites_of f ≡ sites_of g
  same_sites = ap (λ (b : tree.Function). graph b) same.bodies

  pub same_shape : shape_of D f ≡ shape_of E g
  same_shape = λ j. shape_by (same.item j) (same_lifetimes D E s.items f g same j) (same_sites j)

  pub good_alike : (P Q : ℕ → List Bound) → AreAsked D P → AreAsked E Q → (ls : List Line) → GoodOf D P f ls → GoodOf E Q g ls
  good_alike P Q asked other ls good =
      let L = lifetimes_of D f in
      let there : Keeps E Q ls f.item L (sites_of f) = good_by D E P Q L (covers D E s P Q asked other L) (covers E D (shared_back D E s) Q P other asked L)
      (sites_of f) (points (take (shape_of D f).lifetimes (drop 1 ls))) (sites (take (length (shape_of D f).borrows) (drop (1 + (shape_of D f).lifetimes) ls))) good in
      subst (λ (x : List Site). Keeps E Q ls g.item (lifetimes_of E g) x) same_sites
      (subst (λ (x : Lifetimes). Keeps E Q ls g.item x (sites_of f)) (same_lifetimes D E s.items f g same)
      (subst (λ (i : ℕ). Keeps E Q ls i L (sites_of f)) same.item there))

  pub broken_alike : (P Q : ℕ → List Bound) → AreAsked D P → AreAsked E Q → (ls : List Line) (n : ℕ) → BrokenOf D P f ls n → BrokenOf E Q g ls n
  broken_alike P Q asked other ls n broken =
      let L = lifetimes_of D f in
      let there : Breaks E Q ls n f.item L (sites_of f) = broken_by D E P Q L (covers D E s P Q asked other L) (covers E D (shared_back D E s) Q P other asked L)
      (sites_of f) (points (take (shape_of D f).lifetimes (drop 1 ls))) (sites (take (length (shape_of D f).borrows) (drop (1 + (shape_of D f).lifetimes) ls))) n broken in
      subst (λ (x : List Site). Breaks E Q ls n g.item (lifetimes_of E g) x) same_sites
      (subst (λ (x : Lifetimes). Breaks E Q ls n g.item x (sites_of f)) (same_lifetimes D E s.items f g same)
      (subst (λ (i : ℕ). Breaks E Q ls n i L (sites_of f)) same.item there))

  -- the least sets of one function are those of the other
  pub least_alike : (P Q : ℕ → List Bound) → AreAsked D P → AreAsked E Q → (R : Sets)
      → AreLeast (context_of D P f) (sites_of f) R → AreLeast (context_of E Q g) (sites_of g) R
  least_alike P Q asked other R least =
      let L = lifetimes_of D f in
      let there : AreLeast (context E Q L) (sites_of f) R = λ l x. (
        λ h. least_by D E P Q L (covers D E s P Q asked other L) (sites_of f) l x ((least l x).0 h),
        λ h. (least l x).1 (least_by E D Q P L (covers E D (shared_back D E s) Q P other asked L) (sites_of f) l x h),
      ) in
      subst (λ (y : List Site). AreLeast (context E Q (lifetimes_of E g)) y R) same_sites
      (subst (λ (y : Lifetimes). AreLeast (context E Q y) (sites_of f) R) (same_lifetimes D E s.items f g same) there)

  -- and so are the sites at which loans are in scope
  pub scopes_alike : (P Q : ℕ → List Bound) (R : Sets) (W : ℕ → ℕ → Bool)
      → AreScopes (context_of D P f) (sites_of f) R W → AreScopes (context_of E Q g) (sites_of g) R W
  scopes_alike P Q R W scopes =
      let there : AreScopes (context E Q (lifetimes_of D f)) (sites_of f) R W = scopes in
      subst (λ (y : List Site). AreScopes (context E Q (lifetimes_of E g)) y R W) same_sites
      (subst (λ (y : Lifetimes). AreScopes (context E Q y) (sites_of f) R W) (same_lifetimes D E s.items f g same) there)

-- ---- all functions

module _ (D E : List Decl) (s : Shared D E) where
  pub lines_alike : (fs gs : List TypedFn) → Each SameFunction fs gs → (ls : List Line) → AreLinesOf D fs ls → AreLinesOf E gs ls
  lines_alike [] [] same ls h = h
  lines_alike [] (g ∷ gs) same ls h = absurd same
  lines_alike (f ∷ fs) [] same ls h = absurd same
  lines_alike (f ∷ fs) (g ∷ gs) same ls h = (
    subst (λ (x : Shape). AllFit x ls) (same_shape D E s f g same.0) h.0,
    lines_alike fs gs same.1 (drop (count (shape_of E g)) ls)
        (subst (λ (x : Shape). AreLinesOf D fs (drop (count x) ls)) (same_shape D E s f g same.0) h.1),
  )

  pub all_good_alike : (P Q : ℕ → List Bound) → AreAsked D P → AreAsked E Q → (fs gs : List TypedFn) → Each SameFunction fs gs → (ls : List Line)
      → AllGood D P fs ls → AllGood E Q gs ls
  all_good_alike P Q asked other [] [] same ls h = tt
  all_good_alike P Q asked other [] (g ∷ gs) same ls h = absurd same
  all_good_alike P Q asked other (f ∷ fs) [] same ls h = absurd same
  all_good_alike P Q asked other (f ∷ fs) (g ∷ gs) same ls h = (
    good_alike D E s f g same.0 P Q asked other ls h.0,
    all_good_alike P Q asked other fs gs same.1 (drop (count (shape_of E g)) ls)
        (subst (λ (x : Shape). AllGood D P fs (drop (count x) ls)) (same_shape D E s f g same.0) h.1),
  )

  pub unfit_alike : (fs gs : List TypedFn) → Each SameFunction fs gs → (ls : List Line) (n : ℕ) → FirstUnfit D fs ls n → FirstUnfit E gs ls n
  unfit_alike [] [] same ls n u = u
  unfit_alike [] (g ∷ gs) same ls n u = absurd same
  unfit_alike (f ∷ fs) [] same ls n u = absurd same
  unfit_alike (f ∷ fs) (g ∷ gs) same ls n (inl m) = inl (subst (λ (x : Shape). IsMisfit x ls n) (same_shape D E s f g same.0) m)
  unfit_alike (f ∷ fs) (g ∷ gs) same ls n (inr u) = inr (
    subst (λ (x : Shape). AllFit x ls) (same_shape D E s f g same.0) u.0,
    (
      u.1.0,
      u.1.1 ∙ ap (λ (x : Shape). count x + u.1.0) (same_shape D E s f g same.0),
      unfit_alike fs gs same.1 (drop (count (shape_of E g)) ls) u.1.0
          (subst (λ (x : Shape). FirstUnfit D fs (drop (count x) ls) u.1.0) (same_shape D E s f g same.0) u.1.2),
    ),
  )

  pub rule_alike : (P Q : ℕ → List Bound) → AreAsked D P → AreAsked E Q → (i r : ℕ) (fs gs : List TypedFn) → Each SameFunction fs gs → (ls : List Line)
      → FirstRule D P i r fs ls → FirstRule E Q i r gs ls
  rule_alike P Q asked other i r [] [] same ls h = h
  rule_alike P Q asked other i r [] (g ∷ gs) same ls h = absurd same
  rule_alike P Q asked other i r (f ∷ fs) [] same ls h = absurd same
  rule_alike P Q asked other i r (f ∷ fs) (g ∷ gs) same ls (inl b) =
      inl (b.0 ∙ same.0.item, broken_alike D E s f g same.0 P Q asked other ls r b.1)
  rule_alike P Q asked other i r (f ∷ fs) (g ∷ gs) same ls (inr b) = inr (
    good_alike D E s f g same.0 P Q asked other ls b.0,
    rule_alike P Q asked other i r fs gs same.1 (drop (count (shape_of E g)) ls)
        (subst (λ (x : Shape). FirstRule D P i r fs (drop (count x) ls)) (same_shape D E s f g same.0) b.1),
  )
