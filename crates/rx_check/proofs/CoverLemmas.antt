-- Coverage of functions, one after another, and that a fault of coverage excludes that all is covered.
use Rattle.std.proofs.Common.{◌≡◌, ◌≢◌, ℕ, List, [], ◌∷◌, Option, Some, None, Result, Ok, Err, inl, inr, refl, sym, ap, subst, ◌∙◌, arith}
use Rattle.rx_core.specs.declared.types.Span.{Span}
use Rattle.rx_typed.specs.Types.{Typ, Declarations}
use Rattle.rx_typed.specs.Tree as tree
use Rattle.rx_typed.specs.Tree.{Pattern}
use Rattle.rx_typed.specs.PlainTree.{plain-TypedTree}
use Rattle.rx_typeck_typed.specs.declared.typed.TypedFn.{TypedFn}
use Rattle.rx_typeck_typed.specs.Alike.{FunctionsAlike}
use Rattle.rx_cover.specs.declared.covering.CoverFault.{CoverFault}
use Rattle.rx_cover.specs.declared.covering.CoverFault.TheVariants as cover_fault
use Rattle.rx_cover.specs.PlainValue.{plain-Value}
use Rattle.rx_cover.specs.Values.{Value}
use Rattle.rx_cover.specs.Choices.{Choice, choices_of}
use Rattle.rx_cover.specs.Causes.{CoversTyp, MissesTyp, Covered, TooWideAt, MissingAt, AllCovered, FirstNot}
use Rattle.rx_cover.specs.Judging.{span_of, ToldAt}
use Rattle.rx_check.specs.Passes.{matches_of, FunctionsCovered}
use Rattle.rx_check.specs.Causes.{FirstUncovered, FunctionsAnswer, AreOneCover}

-- ---- what is answered of functions

-- what is answered of the functions that are left is answered of all
abbrev pub Answers : Declarations → List TypedFn → List TypedFn → Type 0
Answers D all left = (r : Result (Unit {0}) CoverFault) → FunctionsAnswer D left r → FunctionsAnswer D all r

pub goes_on : (D : Declarations) (all left : List TypedFn) (f : TypedFn) → AllCovered D (matches_of f) → Answers D all (f ∷ left) → Answers D all left
goes_on D all left f here h (Ok u) a = h (Ok u) (here, a)
goes_on D all left f here h (Err cover_fault.OutOfMemory) a = h (Err cover_fault.OutOfMemory) a
goes_on D all left f here h (Err (cover_fault.Missing at v)) a = h (Err (cover_fault.Missing at v)) (inr (here, a))
goes_on D all left f here h (Err (cover_fault.TooWide at n)) a = h (Err (cover_fault.TooWide at n)) (inr (here, a))

pub stops : (D : Declarations) (all left : List TypedFn) (f : TypedFn) (e : CoverFault) → ToldAt D f.spans (matches_of f) e → Answers D all (f ∷ left) → FunctionsAnswer D all (Err e)
stops D all left f cover_fault.OutOfMemory told h = h (Err cover_fault.OutOfMemory) tt
stops D all left f (cover_fault.Missing at v) told h = h (Err (cover_fault.Missing at v)) (inl told)
stops D all left f (cover_fault.TooWide at n) told h = h (Err (cover_fault.TooWide at n)) (inl told)

-- ---- a match is covered, or something is wrong with it

covers_or_misses : (D : Declarations) (t : Option Typ) (ps : List Pattern) (v : Value) → CoversTyp D t ps → MissesTyp D t ps v → ⊥
covers_or_misses D None ps v c m = m
covers_or_misses D (Some t) ps v c m = m.1 (c v m.0)

wide_or_covered : (D : Declarations) (n k : ℕ) (c : Choice) → TooWideAt c n k → Covered D c → ⊥
wide_or_covered D n k c w v = omega (arith, w.wide, v.narrow)

missing_or_covered : (D : Declarations) (n : ℕ) (v : Value) (c : Choice) → MissingAt D c n v → Covered D c → ⊥
missing_or_covered D n v c m h = covers_or_misses D c.typ c.arms v h.covers m.misses

wide_or_missing : (D : Declarations) (n m k : ℕ) (v : Value) (c : Choice) → TooWideAt c n k → MissingAt D c m v → ⊥
wide_or_missing D n m k v c w h = omega (arith, w.wide, h.narrow)

first_or_all : (D : Declarations) (P : Choice → Type 0) → ((c : Choice) → P c → Covered D c → ⊥) → (cs : List Choice) → FirstNot D P cs → AllCovered D cs → ⊥
first_or_all D P out [] f a = f
first_or_all D P out (c ∷ cs) (inl here) a = out c here a.0
first_or_all D P out (c ∷ cs) (inr later) a = first_or_all D P out cs later.1 a.1

-- what is said of the first match that is not covered is said of one
first_both : (D : Declarations) (P Q : Choice → Type 0) → ((c : Choice) → P c → Covered D c → ⊥) → ((c : Choice) → Q c → Covered D c → ⊥) → (cs : List Choice)
    → FirstNot D P cs → FirstNot D Q cs → (c : Choice) × P c × Q c
first_both D P Q p q [] f g = absurd f
first_both D P Q p q (c ∷ cs) (inl f) (inl g) = (c, f, g)
first_both D P Q p q (c ∷ cs) (inl f) (inr g) = absurd (p c f g.0)
first_both D P Q p q (c ∷ cs) (inr f) (inl g) = absurd (q c g f.0)
first_both D P Q p q (c ∷ cs) (inr f) (inr g) = first_both D P Q p q cs f.1 g.1

told_or_covered : (D : Declarations) (ss : List Span) (cs : List Choice) (e : CoverFault) → e ≢ cover_fault.OutOfMemory → ToldAt D ss cs e → AllCovered D cs → ⊥
told_or_covered D ss cs (cover_fault.TooWide at k) known t a = first_or_all D _ (wide_or_covered D t.0 k) cs t.2 a
told_or_covered D ss cs (cover_fault.Missing at v) known t a = first_or_all D _ (missing_or_covered D t.0 (plain-Value v)) cs t.2 a
told_or_covered D ss cs cover_fault.OutOfMemory known t a = known refl

told_one : (D : Declarations) (ss : List Span) (cs : List Choice) (e f : CoverFault) → e ≢ cover_fault.OutOfMemory → f ≢ cover_fault.OutOfMemory
    → ToldAt D ss cs e → ToldAt D ss cs f → AreOneCover e f
told_one D ss cs (cover_fault.TooWide a k) (cover_fault.TooWide b l) h i t u =
    let c = first_both D _ _ (wide_or_covered D t.0 k) (wide_or_covered D u.0 l) cs t.2 u.2 in
    (t.1 ∙ (ap (span_of ss) (c.1.here ∙ sym c.2.here) ∙ sym u.1), c.1.count_is ∙ sym c.2.count_is)
told_one D ss cs (cover_fault.Missing a v) (cover_fault.Missing b w) h i t u =
    let c = first_both D _ _ (missing_or_covered D t.0 (plain-Value v)) (missing_or_covered D u.0 (plain-Value w)) cs t.2 u.2 in
    t.1 ∙ (ap (span_of ss) (c.1.here ∙ sym c.2.here) ∙ sym u.1)
told_one D ss cs (cover_fault.TooWide a k) (cover_fault.Missing b w) h i t u =
    let c = first_both D _ _ (wide_or_covered D t.0 k) (missing_or_covered D u.0 (plain-Value w)) cs t.2 u.2 in
    absurd (wide_or_missing D t.0 u.0 k (plain-Value w) c.0 c.1 c.2)
told_one D ss cs (cover_fault.Missing a v) (cover_fault.TooWide b l) h i t u =
    let c = first_both D _ _ (missing_or_covered D t.0 (plain-Value v)) (wide_or_covered D u.0 l) cs t.2 u.2 in
    absurd (wide_or_missing D u.0 t.0 l (plain-Value v) c.0 c.2 c.1)
told_one D ss cs cover_fault.OutOfMemory f h i t u = absurd (h refl)
told_one D ss cs (cover_fault.TooWide a k) cover_fault.OutOfMemory h i t u = absurd (i refl)
told_one D ss cs (cover_fault.Missing a v) cover_fault.OutOfMemory h i t u = absurd (i refl)

-- ---- functions

pub uncovered_or_covered : (D : Declarations) (fs : List TypedFn) (e : CoverFault) → e ≢ cover_fault.OutOfMemory → FirstUncovered D fs e → FunctionsCovered D fs → ⊥
uncovered_or_covered D [] e known u c = u
uncovered_or_covered D (f ∷ fs) e known (inl here) c = told_or_covered D f.spans (matches_of f) e known here c.0
uncovered_or_covered D (f ∷ fs) e known (inr later) c = uncovered_or_covered D fs e known later.1 c.1

pub uncovered_one : (D : Declarations) (fs : List TypedFn) (d e : CoverFault) → d ≢ cover_fault.OutOfMemory → e ≢ cover_fault.OutOfMemory
    → FirstUncovered D fs d → FirstUncovered D fs e → AreOneCover d e
uncovered_one D [] d e h i u v = absurd u
uncovered_one D (f ∷ fs) d e h i (inl u) (inl v) = told_one D f.spans (matches_of f) d e h i u v
uncovered_one D (f ∷ fs) d e h i (inl u) (inr v) = absurd (told_or_covered D f.spans (matches_of f) d h u v.0)
uncovered_one D (f ∷ fs) d e h i (inr u) (inl v) = absurd (told_or_covered D f.spans (matches_of f) e i v u.0)
uncovered_one D (f ∷ fs) d e h i (inr u) (inr v) = uncovered_one D fs d e h i u.1 v.1

-- ---- typed programs that are alike

matches_same : (f g : TypedFn) → plain-TypedTree f.tree ≡ plain-TypedTree g.tree → matches_of f ≡ matches_of g
matches_same f g e = ap (λ (t : tree.Function). choices_of t.body) e

pub covered_alike : (D : Declarations) (fs gs : List TypedFn) → FunctionsAlike fs gs → FunctionsCovered D fs → FunctionsCovered D gs
covered_alike D [] [] a c = c
covered_alike D (f ∷ fs) (g ∷ gs) a c = (subst (AllCovered D) (matches_same f g a.2) c.0, covered_alike D fs gs a.3 c.1)
covered_alike D [] (g ∷ gs) a c = absurd a
covered_alike D (f ∷ fs) [] a c = absurd a

pub uncovered_alike : (D : Declarations) (fs gs : List TypedFn) (e : CoverFault) → FunctionsAlike fs gs → FirstUncovered D fs e → FirstUncovered D gs e
uncovered_alike D [] [] e a u = u
uncovered_alike D (f ∷ fs) (g ∷ gs) e a (inl here) = inl (subst (λ ss. ToldAt D ss (matches_of g) e) a.1 (subst (λ cs. ToldAt D f.spans cs e) (matches_same f g a.2) here))
uncovered_alike D (f ∷ fs) (g ∷ gs) e a (inr later) = inr (subst (AllCovered D) (matches_same f g a.2) later.0, uncovered_alike D fs gs e a.3 later.1)
uncovered_alike D [] (g ∷ gs) e a u = absurd a
uncovered_alike D (f ∷ fs) [] e a u = absurd a
