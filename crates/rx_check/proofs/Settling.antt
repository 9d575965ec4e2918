-- What is said of a function's lifetimes and loans is said by any pairs that fields ask, and in two typed programs of one text; and
-- what is refused is not accepted.
use Rattle.std.proofs.Common.{◌≡◌, ◌≢◌, ◌⊎◌, inl, inr, ℕ, ◌<◌, ◌≤◌, List, [], ◌∷◌, map, slice_get, refl, sym, ap, subst, ◌∙◌, arith}
use Rattle.rx_core.specs.declared.types.Bound.{Bound}
use Rattle.rx_typed.specs.declared.declarations.Decl.{Decl}
use Rattle.rx_typed.specs.Regions.{RegionTyp}
use Rattle.rx_typed.specs.Tree as tree
use Rattle.rx_typed_declarations.specs.Variance.{unrecorded, variances_recorded, Recorded}
use Rattle.rx_lower_walks.specs.Graph.{Site, site_at}
use Rattle.rx_lower_walks.specs.Pieces.{graph}
use Rattle.rx_region_outlives.specs.Implied.{ImpliesOf}
use Rattle.rx_lower_lifetimes.specs.Lowered.{Lifetimes, lifetimes}
use Rattle.rx_lower.specs.Functions.{function}
use Rattle.rx_region.specs.Constraints.{Context, variances}
use Rattle.rx_region.specs.Solutions.{Sets, AreLeast}
use Rattle.rx_region.specs.Known.{Missing}
use Rattle.rx_region.specs.Passing.{IsFirst}
use Rattle.rx_loan.specs.Accepted.{IsAccepted}
use Rattle.rx_loan.specs.Answer.{IsForbidden}
use Rattle.rx_loan.proofs.Found.{missing_or_accepted, forbidden_or_accepted}
use Rattle.rx_typeck_typed.specs.declared.typed.Typed.{Typed}
use Rattle.rx_typeck_typed.specs.declared.typed.TypedFn.{TypedFn}
use Rattle.rx_facts.specs.Functions.{sites_of, span_of}
use Rattle.rx_facts.specs.Passing.{AllAre, Each, FirstNot}
use Rattle.rx_facts.specs.Same.{SameFunction, AreSame}
use Rattle.rx_facts.proofs.Passing.{first_or_all, first_both, all_alike}
use Rattle.rx_facts.proofs.Passing as passing
use Rattle.rx_facts.proofs.Lifetimes.{same_lifetimes}
use Rattle.rx_check.specs.Contexts.{AreAsked, context_of}
use Rattle.rx_check.specs.Functions.{LacksNone, LacksPair, Borrows, node_at, site_span, MeetsLoan}
use Rattle.rx_check.specs.Answers.{LackNone, AllBorrow, FirstLacks, FirstMeets}
use Rattle.rx_check.specs.declared.regions.RegionFault.{RegionFault}
use Rattle.rx_check.specs.declared.regions.RegionFault.TheVariants as region_fault
use Rattle.rx_check.specs.declared.loans.LoanFault.{LoanFault}
use Rattle.rx_check.specs.declared.loans.LoanFault.TheVariants as loan_fault
use Rattle.rx_check.proofs.Variances.{Agree, tell_same, subtypes_agree}
use Rattle.rx_check.proofs.Declared.{regions_alike}
use Rattle.rx_check.proofs.Asking.{imposed_within, told_within}
use Rattle.rx_check.proofs.Judging.{context, Covers, missing_alike, least_sets_alike, acceptance_alike, first_alike, forbidden_alike}

-- ---- declarations

-- the same but for what is recorded, which tells the same
record Shared (D E : List Decl) : Type 0 where
  items : map unrecorded D ≡ map unrecorded E
  agree : (i : ℕ) → Agree (variances_recorded (slice_get D i)) (variances_recorded (slice_get E i))

shared_itself : (D : List Decl) → Shared D D
shared_itself D = record { items = refl; agree = λ i k. refl }

shared_back : (D E : List Decl) → Shared D E → Shared E D
shared_back D E s = record { items = sym s.items; agree = λ i k. sym (s.agree i k) }

shared : (D E : List Decl) → map unrecorded D ≡ map unrecorded E → Recorded D → Recorded E → Shared D E
shared D E items a b = record {
  items = items;
  agree = λ i. tell_same D E (regions_alike D E items) i (variances_recorded (slice_get D i)) (variances_recorded (slice_get E i)) (a i) (b i);
}

asked_too : (D E : List Decl) → Shared D E → (P : ℕ → List Bound) → AreAsked D P → AreAsked E P
asked_too D E s P asked i = subst (λ (H : List (List RegionTyp)). ImpliesOf H i (P i)) (regions_alike D E s.items) (asked i)

covers : (D E : List Decl) → Shared D E → (P Q : ℕ → List Bound) → AreAsked D P → AreAsked E Q → (L : Lifetimes) → Covers (context D P L) (context E Q L)
covers D E s P Q asked other L = record {
  imposes = imposed_within D E s.items P Q asked other L (λ t u. subtypes_agree (variances (context D P L)) (variances (context E Q L)) s.agree t u);
  tells = told_within D E s.items P Q asked other L;
}

pub any_pairs : (D : List Decl) (P Q : ℕ → List Bound) → AreAsked D P → AreAsked D Q → (f : TypedFn) (R : Sets) → AreLeast (context_of D P f) (sites_of f) R → AreLeast (context_of D Q f) (sites_of f) R
any_pairs D P Q asked other f R least =
    let L = lifetimes (function D f) in
    least_sets_alike D D P Q L (covers D D (shared_itself D) P Q asked other L) (covers D D (shared_itself D) Q P other asked L) (sites_of f) R least

-- ---- functions

same_itself : (f : TypedFn) → SameFunction f f
same_itself f = record { item = refl; names = refl; spans = refl; mutable = refl; bodies = refl; types = refl; annotated = refl }

same_back : (f g : TypedFn) → SameFunction f g → SameFunction g f
same_back f g s = record {
  item = sym s.item;
  names = sym s.names;
  spans = sym s.spans;
  mutable = sym s.mutable;
  bodies = sym s.bodies;
  types = sym s.types;
  annotated = sym s.annotated;
}

each_itself : (fs : List TypedFn) → Each SameFunction fs fs
each_itself [] = tt
each_itself (f ∷ fs) = (same_itself f, each_itself fs)

module _ (D E : List Decl) (s : Shared D E) (P Q : ℕ → List Bound) (asked : AreAsked D P) (other : AreAsked E Q) (f g : TypedFn) (same : SameFunction f g) where
  sites_same : sites_of f ≡ sites_of g
  sites_same = ap (λ (b : tree.Function). graph b) same.bodies

  -- what is said by the lifetimes and sites of the one is said by those of the other
  moved : (X : Context → List Site → Type 0) → X (context E Q (lifetimes (function D f))) (sites_of f) → X (context_of E Q g) (sites_of g)
  moved X h = subst (λ (z : List Site). X (context_of E Q g) z) sites_same (subst (λ (L : Lifetimes). X (context E Q L) (sites_of f)) (same_lifetimes D E s.items f g same) h)

  forth : Covers (context D P (lifetimes (function D f))) (context E Q (lifetimes (function D f)))
  forth = covers D E s P Q asked other (lifetimes (function D f))

  back : Covers (context E Q (lifetimes (function D f))) (context D P (lifetimes (function D f)))
  back = covers E D (shared_back D E s) Q P other asked (lifetimes (function D f))

  same_missing : (l k : ℕ) → Missing (context_of D P f) (sites_of f) l k → Missing (context_of E Q g) (sites_of g) l k
  same_missing l k m = moved (λ C z. Missing C z l k) (missing_alike D E P Q (lifetimes (function D f)) forth back (sites_of f) l k m)

  same_first : (l k : ℕ) → IsFirst (context_of D P f) (sites_of f) l k → IsFirst (context_of E Q g) (sites_of g) l k
  same_first l k m = moved (λ C z. IsFirst C z l k) (first_alike D E P Q (lifetimes (function D f)) forth back (sites_of f) l k m)

  same_lacks : (e : RegionFault) → LacksPair D P e f → LacksPair E Q e g
  same_lacks (region_fault.Missing i l k) a = (a.0 ∙ same.item, same_missing l k a.1, same_first l k a.2)
  same_lacks region_fault.OutOfMemory a = tt

  same_borrows : Borrows D P f → Borrows E Q g
  same_borrows a = moved IsAccepted (acceptance_alike D E P Q (lifetimes (function D f)) forth back (sites_of f) a)

  same_forbidden : (x y : ℕ) → IsForbidden (context_of D P f) (sites_of f) x y → IsForbidden (context_of E Q g) (sites_of g) x y
  same_forbidden x y a = moved (λ C z. IsForbidden C z x y) (forbidden_alike D E P Q (lifetimes (function D f)) forth back (sites_of f) x y a)

  same_span : (x : ℕ) → site_span f x ≡ site_span g x
  same_span x = λ j. span_of (same.spans j) (node_at (site_at (sites_same j) x))

  same_meets : (e : LoanFault) → MeetsLoan D P e f → MeetsLoan E Q e g
  same_meets (loan_fault.Loan a b) m = (m.0, m.1, m.2 ∙ same_span m.0, m.3 ∙ same_span m.1, same_forbidden m.0 m.1 m.4)
  same_meets loan_fault.OutOfMemory m = tt

same_none : (D E : List Decl) (s : Shared D E) (P Q : ℕ → List Bound) (asked : AreAsked D P) (other : AreAsked E Q) (f g : TypedFn) (same : SameFunction f g) → LacksNone D P f → LacksNone E Q g
same_none D E s P Q asked other f g same none l k m = none l k (same_missing E D (shared_back D E s) Q P other asked g f (same_back f g same) l k m)

-- ---- refusals of a function

lacks_or_none : (D : List Decl) (P : ℕ → List Bound) (e : RegionFault) → e ≢ region_fault.OutOfMemory → (f : TypedFn) → LacksPair D P e f → LacksNone D P f → ⊥
lacks_or_none D P (region_fault.Missing i l k) told f a none = none l k a.1
lacks_or_none D P region_fault.OutOfMemory told f a none = told refl

borrows_lacks_none : (D : List Decl) (P : ℕ → List Bound) (f : TypedFn) → Borrows D P f → LacksNone D P f
borrows_lacks_none D P f a l k m = missing_or_accepted (context_of D P f) (sites_of f) l k m a

meets_or_borrows : (D : List Decl) (P : ℕ → List Bound) (e : LoanFault) → e ≢ loan_fault.OutOfMemory → (f : TypedFn) → MeetsLoan D P e f → Borrows D P f → ⊥
meets_or_borrows D P (loan_fault.Loan a b) told f m is = forbidden_or_accepted (context_of D P f) (sites_of f) m.0 m.1 m.4 is
meets_or_borrows D P loan_fault.OutOfMemory told f m is = told refl

first_one : (l k m n : ℕ) → (l < m) ⊎ ((l ≡ m) × (k ≤ n)) → (m < l) ⊎ ((m ≡ l) × (n ≤ k)) → (l ≡ m) × (k ≡ n)
first_one l k m n (inl a) (inl b) = absurd (omega (arith, a, b))
first_one l k m n (inl a) (inr b) = absurd (omega (arith, a, b.0))
first_one l k m n (inr a) (inl b) = absurd (omega (arith, a.0, b))
first_one l k m n (inr a) (inr b) = (a.0, omega (arith, a.1, b.1))

one_lack : (D : List Decl) (P : ℕ → List Bound) (d e : RegionFault) → d ≢ region_fault.OutOfMemory → e ≢ region_fault.OutOfMemory → (f : TypedFn) → LacksPair D P d f → LacksPair D P e f → d ≡ e
one_lack D P (region_fault.Missing i l k) (region_fault.Missing j m n) h w f a b =
    let pair = first_one l k m n (a.2 m n b.1) (b.2 l k a.1) in
    λ x. region_fault.Missing ((a.0 ∙ sym b.0) x) (pair.0 x) (pair.1 x)
one_lack D P region_fault.OutOfMemory e h w f a b = absurd (h refl)
one_lack D P (region_fault.Missing i l k) region_fault.OutOfMemory h w f a b = absurd (w refl)

-- ---- programs

all_mapped : {A : Type 0} (G H : A → Type 0) → ((a : A) → G a → H a) → (xs : List A) → AllAre G xs → AllAre H xs
all_mapped G H k [] h = tt
all_mapped G H k (a ∷ xs) h = (k a h.0, all_mapped G H k xs h.1)

-- by any pairs that fields ask
module _ (D E : List Decl) (s : Shared D E) (fs gs : List TypedFn) (same : Each SameFunction fs gs) (P Q : ℕ → List Bound) (asked : AreAsked D P) (other : AreAsked E Q) where
  none_by : AllAre (LacksNone D P) fs → AllAre (LacksNone E Q) gs
  none_by a = all_alike SameFunction (LacksNone D P) (LacksNone E Q) (λ f g k. same_none D E s P Q asked other f g k) fs gs same a

  borrows_by : AllAre (Borrows D P) fs → AllAre (Borrows E Q) gs
  borrows_by a = all_alike SameFunction (Borrows D P) (Borrows E Q) (λ f g k. same_borrows D E s P Q asked other f g k) fs gs same a

  lacks_by : (e : RegionFault) → FirstNot (LacksNone D P) (LacksPair D P e) fs → FirstNot (LacksNone E Q) (LacksPair E Q e) gs
  lacks_by e a = passing.first_alike SameFunction (LacksNone D P) (LacksNone E Q) (LacksPair D P e) (LacksPair E Q e)
      (λ f g k. same_none D E s P Q asked other f g k) (λ f g k. same_lacks D E s P Q asked other f g k e) fs gs same a

  meets_by : (e : LoanFault) → FirstNot (Borrows D P) (MeetsLoan D P e) fs → FirstNot (Borrows E Q) (MeetsLoan E Q e) gs
  meets_by e a = passing.first_alike SameFunction (Borrows D P) (Borrows E Q) (MeetsLoan D P e) (MeetsLoan E Q e)
      (λ f g k. same_borrows D E s P Q asked other f g k) (λ f g k. same_meets D E s P Q asked other f g k e) fs gs same a

module _ (t u : Typed) (same : AreSame t u) (a : Recorded t.decls.items) (b : Recorded u.decls.items) where
  both_share : Shared t.decls.items u.decls.items
  both_share = shared t.decls.items u.decls.items same.items a b

  pub none_in : LackNone t → LackNone u
  none_in x = let other = asked_too t.decls.items u.decls.items both_share x.implied x.asked in
      record { implied = x.implied; asked = other; each = none_by t.decls.items u.decls.items both_share t.functions u.functions same.functions x.implied x.implied x.asked other x.each }

  pub borrow_in : AllBorrow t → AllBorrow u
  borrow_in x = let other = asked_too t.decls.items u.decls.items both_share x.implied x.asked in
      record { implied = x.implied; asked = other; each = borrows_by t.decls.items u.decls.items both_share t.functions u.functions same.functions x.implied x.implied x.asked other x.each }

  pub lacks_in : (e : RegionFault) → FirstLacks t e → FirstLacks u e
  lacks_in e x = let other = asked_too t.decls.items u.decls.items both_share x.implied x.asked in
      record { implied = x.implied; asked = other; first = lacks_by t.decls.items u.decls.items both_share t.functions u.functions same.functions x.implied x.implied x.asked other e x.first }

  pub meets_in : (e : LoanFault) → FirstMeets t e → FirstMeets u e
  meets_in e x = let other = asked_too t.decls.items u.decls.items both_share x.implied x.asked in
      record { implied = x.implied; asked = other; first = meets_by t.decls.items u.decls.items both_share t.functions u.functions same.functions x.implied x.implied x.asked other e x.first }

-- ---- refusals of a program

module _ (t : Typed) where
  abbrev declared : List Decl
  declared = t.decls.items

  pub lacks_or_lack_none : (e : RegionFault) → e ≢ region_fault.OutOfMemory → FirstLacks t e → LackNone t → ⊥
  lacks_or_lack_none e told x y =
      first_or_all (LacksNone declared x.implied) (LacksPair declared x.implied e) (lacks_or_none declared x.implied e told) t.functions x.first
      (none_by declared declared (shared_itself declared) t.functions t.functions (each_itself t.functions) y.implied x.implied y.asked x.asked y.each)

  pub borrowing_lacks_none : AllBorrow t → LackNone t
  borrowing_lacks_none y = record { implied = y.implied; asked = y.asked; each = all_mapped (Borrows declared y.implied) (LacksNone declared y.implied) (borrows_lacks_none declared y.implied) t.functions y.each }

  pub meets_or_borrow : (e : LoanFault) → e ≢ loan_fault.OutOfMemory → FirstMeets t e → AllBorrow t → ⊥
  meets_or_borrow e told x y =
      first_or_all (Borrows declared x.implied) (MeetsLoan declared x.implied e) (meets_or_borrows declared x.implied e told) t.functions x.first
      (borrows_by declared declared (shared_itself declared) t.functions t.functions (each_itself t.functions) y.implied x.implied y.asked x.asked y.each)

  pub lacks_are_one : (d e : RegionFault) → d ≢ region_fault.OutOfMemory → e ≢ region_fault.OutOfMemory → FirstLacks t d → FirstLacks t e → d ≡ e
  lacks_are_one d e h w x y =
      let both = first_both (LacksNone declared x.implied) (LacksPair declared x.implied d) (LacksPair declared x.implied e)
      (lacks_or_none declared x.implied d h) (lacks_or_none declared x.implied e w) t.functions x.first
      (lacks_by declared declared (shared_itself declared) t.functions t.functions (each_itself t.functions) y.implied x.implied y.asked x.asked e y.first) in
      one_lack declared x.implied d e h w both.0 both.1 both.2
