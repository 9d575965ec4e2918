-- Acceptance and a fault exclude each other, and two faults are of one pass.
use Rattle.std.proofs.Common.{◌≡◌, ◌≢◌, ℕ, List, refl, ap, subst}
use Rattle.rx_tree.specs.Plain.{ProgramTree}
use Rattle.rx_resolve_names.specs.declared.resolved.ItemNames.{ItemNames}
use Rattle.rx_resolve_names.specs.Causes.{Meant}
use Rattle.rx_graph_cycles.specs.Reaches.{NoCycle}
use Rattle.rx_typed.specs.Types.{Declarations}
use Rattle.rx_typed.specs.PlainTypes.{declarations}
use Rattle.rx_typed_declarations.specs.Held.{held_by_each}
use Rattle.rx_typed_declarations.specs.Sizes.{Sized}
use Rattle.rx_typeck_typed.specs.declared.typed.Typed.{Typed}
use Rattle.rx_typeck_typed.specs.declared.typed.TypeFault.{TypeFault}
use Rattle.rx_typeck_typed.specs.Typing as typing
use Rattle.rx_typeck_typed.specs.Typing.{IsTyped}
use Rattle.rx_typeck_typed.specs.Alike.{AreAlike}
use Rattle.rx_cover.specs.declared.covering.CoverFault.{CoverFault}
use Rattle.rx_lower_lifetimes.specs.declared.whole.LowerFault.{LowerFault}
use Rattle.rx_facts.specs.declared.fault.InitFault.{InitFault}
use Rattle.rx_facts.specs.Passing.{AllAre, FirstNot}
use Rattle.rx_facts.specs.Functions.{IsSmall, IsLarge, IsInitialised, IsUninitialised}
use Rattle.rx_facts.specs.Same.{SameFunction, AreSame}
use Rattle.rx_facts.proofs.Passing.{first_or_all, first_both, first_alike, all_alike}
use Rattle.rx_facts.proofs.Settling.{settled_small, one_large, settled_initialised, same_small, same_large, same_initialised}
use Rattle.rx_check.specs.declared.regions.RegionFault.{RegionFault}
use Rattle.rx_check.specs.declared.regions.RegionFault.TheVariants as region_fault
use Rattle.rx_check.specs.declared.loans.LoanFault.{LoanFault}
use Rattle.rx_check.specs.Answers.{FirstLacks, FirstMeets}
use Rattle.rx_check.proofs.Settling.{lacks_in, meets_in, lacks_or_lack_none, borrowing_lacks_none, meets_or_borrow, lacks_are_one}
use Rattle.rx_check.specs.declared.fault.CheckFault.{CheckFault}
use Rattle.rx_check.specs.declared.fault.CheckFault.TheVariants as check_fault
use Rattle.rx_check.specs.Passes.{FunctionsCovered, IsFront, Fronted, Accepted}
use Rattle.rx_check.specs.Causes.{FirstUncovered, IsMistyped, IsUncovered, IsTooLarge, IsUnstarted, IsLacking, IsConflicting, Causes, PassCauses, AreOneCover, AreOne}
use Rattle.rx_check.proofs.NameLemmas.{one_meaning, meant_or_misnamed, misnamed_one}
use Rattle.rx_check.proofs.CoverLemmas.{uncovered_or_covered, uncovered_one, uncovered_alike}

-- ---- passes, by what the rules of types say

fun_ext : {A B : Type 0} (f g : A → B) → ((x : A) → f x ≡ g x) → f ≡ g
fun_ext f g h = λ i x. h x i

module _ (or_wrong : (p : ProgramTree) (ns : List ItemNames) (t : Typed) (e : TypeFault) → IsTyped p ns t → typing.Causes p ns e → ⊥)
    (one : (p : ProgramTree) (ns : List ItemNames) (t u : Typed) → IsTyped p ns t → IsTyped p ns u → AreAlike t u)
    (same : (p : ProgramTree) (ns : List ItemNames) (t u : Typed) → IsTyped p ns t → IsTyped p ns u → AreSame t u)
    (finite : (p : ProgramTree) (ns : List ItemNames) (t : Typed) → IsTyped p ns t → NoCycle (held_by_each (declarations t.decls.items)))
    (one_size : (D : Declarations) (P Q : ℕ → ℕ) → NoCycle (held_by_each D) → Sized D P → Sized D Q → (i : ℕ) → P i ≡ Q i) where
  -- types of a program whose names have a meaning
  typed_or_mistyped : (p : ProgramTree) (ns : List ItemNames) (t : Typed) → Meant p ns → IsTyped p ns t → (e : TypeFault) → IsMistyped p e → ⊥
  typed_or_mistyped p ns t m h e c =
      or_wrong p ns t e h (subst (λ x. typing.Causes p x e) (one_meaning p c.names ns c.meant m) c.cause)

  -- its fault of coverage, as one of these types
  uncovered_in : (p : ProgramTree) (ns : List ItemNames) (t : Typed) → Meant p ns → IsTyped p ns t → (e : CoverFault) → IsUncovered p e
      → FirstUncovered (declarations t.decls.items) t.functions e
  uncovered_in p ns t m h e c =
      let typed : IsTyped p ns c.types = subst (λ x. IsTyped p x c.types) (one_meaning p c.names ns c.meant m) c.typed in
      let alike = one p ns c.types t typed h in
      subst (λ D. FirstUncovered D t.functions e) alike.declared (uncovered_alike (declarations c.types.decls.items) c.types.functions t.functions e alike.functions c.first)

  covered_or_not : (p : ProgramTree) (ns : List ItemNames) (t : Typed) → Meant p ns → IsTyped p ns t → FunctionsCovered (declarations t.decls.items) t.functions
      → (e : CoverFault) → IsUncovered p e → ⊥
  covered_or_not p ns t m h a e c = uncovered_or_covered (declarations t.decls.items) t.functions e c.told (uncovered_in p ns t m h e c) a

  -- its fault of graphs, as one of these types
  large_in : (p : ProgramTree) (ns : List ItemNames) (t : Typed) → Meant p ns → IsTyped p ns t → (e : LowerFault) → IsTooLarge p e
      → FirstNot (IsSmall t.decls.items) (IsLarge t.decls.items e) t.functions
  large_in p ns t m h e c =
      let typed : IsTyped p ns c.types = subst (λ x. IsTyped p x c.types) (one_meaning p c.names ns c.meant m) c.typed in
      let s = same p ns c.types t typed h in
      first_alike SameFunction (IsSmall c.types.decls.items) (IsSmall t.decls.items) (IsLarge c.types.decls.items e) (IsLarge t.decls.items e)
      (λ f g k. same_small c.types.decls.items t.decls.items s.items f g k) (λ f g k. same_large c.types.decls.items t.decls.items s.items f g k e)
      c.types.functions t.functions s.functions c.first

  small_or_not : (p : ProgramTree) (ns : List ItemNames) (t : Typed) → Meant p ns → IsTyped p ns t → AllAre (IsSmall t.decls.items) t.functions
      → (e : LowerFault) → IsTooLarge p e → ⊥
  small_or_not p ns t m h a e c =
      first_or_all (IsSmall t.decls.items) (IsLarge t.decls.items e) (settled_small t.decls.items e c.told) t.functions (large_in p ns t m h e c) a

  larges_one : (p : ProgramTree) (d e : LowerFault) → IsTooLarge p d → IsTooLarge p e → d ≡ e
  larges_one p d e a b =
      let items = a.types.decls.items in
      let both = first_both (IsSmall items) (IsLarge items d) (IsLarge items e) (settled_small items d a.told) (settled_small items e b.told) a.types.functions a.first
      (large_in p a.names a.types a.meant a.typed e b) in
      one_large items d e a.told b.told both.0 both.1 both.2

  -- an initialised program has no fault of initialisation
  started_or_not : (p : ProgramTree) (t : Typed) → IsFront p t → (e : InitFault) → IsUnstarted p e → ⊥
  started_or_not p t f e c =
      let typed : IsTyped p f.names c.types = subst (λ x. IsTyped p x c.types) (one_meaning p c.names f.names c.meant f.meant) c.typed in
      let s = same p f.names t c.types f.typed typed in
      let D : Declarations = declarations t.decls.items in
      let E : Declarations = declarations c.types.decls.items in
      let declared : D ≡ E = (one p f.names t c.types f.typed typed).declared in
      let parts : f.parts ≡ c.first.parts = fun_ext f.parts c.first.parts
      (one_size E f.parts c.first.parts (finite p f.names c.types typed) (subst (λ (X : Declarations). Sized X f.parts) declared f.sized) c.first.sized) in
      first_or_all (IsInitialised E c.first.parts) (IsUninitialised E c.first.parts e) (settled_initialised E c.first.parts e c.told) c.types.functions c.first.first
      (all_alike SameFunction (IsInitialised D f.parts) (IsInitialised E c.first.parts) (λ f1 g k. same_initialised D E declared f.parts c.first.parts parts f1 g k)
      t.functions c.types.functions s.functions f.initialised)

  -- its fault of lifetimes, and of loans, as one of these types
  lacks_of : (p : ProgramTree) (t : Typed) → IsFront p t → (e : RegionFault) → IsLacking p e → FirstLacks t e
  lacks_of p t f e c =
      let typed : IsTyped p f.names c.types = subst (λ x. IsTyped p x c.types) (one_meaning p c.front.names f.names c.front.meant f.meant) c.front.typed in
      lacks_in c.types t (same p f.names c.types t typed f.typed) typed.recorded f.typed.recorded e c.first

  meets_of : (p : ProgramTree) (t : Typed) → IsFront p t → (e : LoanFault) → IsConflicting p e → FirstMeets t e
  meets_of p t f e c =
      let typed : IsTyped p f.names c.types = subst (λ x. IsTyped p x c.types) (one_meaning p c.front.names f.names c.front.meant f.meant) c.front.typed in
      meets_in c.types t (same p f.names c.types t typed f.typed) typed.recorded f.typed.recorded e c.first

  pub fronted_or_faulty : (p : ProgramTree) (e : CheckFault) → Fronted p → PassCauses e p → e ≡ check_fault.OutOfMemory
  fronted_or_faulty p (check_fault.Name e) a c = absurd (meant_or_misnamed p a.1.names e c.told a.1.meant c.cause)
  fronted_or_faulty p (check_fault.Types e) a c = absurd (typed_or_mistyped p a.1.names a.0 a.1.meant a.1.typed e c)
  fronted_or_faulty p (check_fault.Cover e) a c = absurd (covered_or_not p a.1.names a.0 a.1.meant a.1.typed a.1.covered e c)
  fronted_or_faulty p (check_fault.Lower e) a c = absurd (small_or_not p a.1.names a.0 a.1.meant a.1.typed a.1.small e c)
  fronted_or_faulty p (check_fault.Init e) a c = absurd (started_or_not p a.0 a.1 e c)
  fronted_or_faulty p (check_fault.Region i l k) a c = absurd c
  fronted_or_faulty p (check_fault.Loan e) a c = absurd c
  fronted_or_faulty p check_fault.OutOfMemory a c = refl

  pub accepted_or_faulty : (p : ProgramTree) (e : CheckFault) → Accepted p → Causes e p → e ≡ check_fault.OutOfMemory
  accepted_or_faulty p (check_fault.Name e) a c = fronted_or_faulty p (check_fault.Name e) (a.0, a.1.front) c
  accepted_or_faulty p (check_fault.Types e) a c = fronted_or_faulty p (check_fault.Types e) (a.0, a.1.front) c
  accepted_or_faulty p (check_fault.Cover e) a c = fronted_or_faulty p (check_fault.Cover e) (a.0, a.1.front) c
  accepted_or_faulty p (check_fault.Lower e) a c = fronted_or_faulty p (check_fault.Lower e) (a.0, a.1.front) c
  accepted_or_faulty p (check_fault.Init e) a c = fronted_or_faulty p (check_fault.Init e) (a.0, a.1.front) c
  accepted_or_faulty p (check_fault.Region i l k) a c =
      absurd (lacks_or_lack_none a.0 (region_fault.Missing i l k) (λ e. cc) (lacks_of p a.0 a.1.front (region_fault.Missing i l k) c) (borrowing_lacks_none a.0 a.1.borrows))
  accepted_or_faulty p (check_fault.Loan e) a c = absurd (meets_or_borrow a.0 e c.told (meets_of p a.0 a.1.front e c) a.1.borrows)
  accepted_or_faulty p check_fault.OutOfMemory a c = refl

  covers_one : (p : ProgramTree) (d e : CoverFault) → IsUncovered p d → IsUncovered p e → AreOneCover d e
  covers_one p d e a b = uncovered_one (declarations a.types.decls.items) a.types.functions d e a.told b.told a.first (uncovered_in p a.names a.types a.meant a.typed e b)

  -- the first pair is one, and no loan is looked at where a pair is missing
  lacks_one : (p : ProgramTree) (d e : RegionFault) → d ≢ region_fault.OutOfMemory → e ≢ region_fault.OutOfMemory → IsLacking p d → IsLacking p e → d ≡ e
  lacks_one p d e h i a b = lacks_are_one a.types d e h i a.first (lacks_of p a.types a.front e b)

  lacks_or_meets : (p : ProgramTree) (d : RegionFault) (e : LoanFault) → d ≢ region_fault.OutOfMemory → IsLacking p d → IsConflicting p e → ⊥
  lacks_or_meets p d e told a b = lacks_or_lack_none b.types d told (lacks_of p b.types b.front d a) b.known

  abbrev item_of : RegionFault → ℕ
  item_of (region_fault.Missing i l k) = i
  item_of region_fault.OutOfMemory = 0

  abbrev long_of : RegionFault → ℕ
  long_of (region_fault.Missing i l k) = l
  long_of region_fault.OutOfMemory = 0

  abbrev short_of : RegionFault → ℕ
  short_of (region_fault.Missing i l k) = k
  short_of region_fault.OutOfMemory = 0

  pairs_one : (i l k j m n : ℕ) → region_fault.Missing i l k ≡ region_fault.Missing j m n → (i ≡ j) × (l ≡ m) × (k ≡ n)
  pairs_one i l k j m n e = (ap item_of e, ap long_of e, ap short_of e)

  pub causes_one : (p : ProgramTree) (d e : CheckFault) → d ≢ check_fault.OutOfMemory → e ≢ check_fault.OutOfMemory → Causes d p → Causes e p → AreOne d e
  causes_one p (check_fault.Name d) (check_fault.Name e) h i a b = misnamed_one p d e a.told b.told a.cause b.cause
  causes_one p (check_fault.Name d) (check_fault.Types e) h i a b = absurd (meant_or_misnamed p b.names d a.told b.meant a.cause)
  causes_one p (check_fault.Name d) (check_fault.Cover e) h i a b = absurd (meant_or_misnamed p b.names d a.told b.meant a.cause)
  causes_one p (check_fault.Name d) (check_fault.Lower e) h i a b = absurd (meant_or_misnamed p b.names d a.told b.meant a.cause)
  causes_one p (check_fault.Name d) (check_fault.Init e) h i a b = absurd (meant_or_misnamed p b.names d a.told b.meant a.cause)
  causes_one p (check_fault.Types d) (check_fault.Name e) h i a b = absurd (meant_or_misnamed p a.names e b.told a.meant b.cause)
  causes_one p (check_fault.Types d) (check_fault.Types e) h i a b = tt
  causes_one p (check_fault.Types d) (check_fault.Cover e) h i a b = absurd (typed_or_mistyped p b.names b.types b.meant b.typed d a)
  causes_one p (check_fault.Types d) (check_fault.Lower e) h i a b = absurd (typed_or_mistyped p b.names b.types b.meant b.typed d a)
  causes_one p (check_fault.Types d) (check_fault.Init e) h i a b = absurd (typed_or_mistyped p b.names b.types b.meant b.typed d a)
  causes_one p (check_fault.Cover d) (check_fault.Name e) h i a b = absurd (meant_or_misnamed p a.names e b.told a.meant b.cause)
  causes_one p (check_fault.Cover d) (check_fault.Types e) h i a b = absurd (typed_or_mistyped p a.names a.types a.meant a.typed e b)
  causes_one p (check_fault.Cover d) (check_fault.Cover e) h i a b = covers_one p d e a b
  causes_one p (check_fault.Cover d) (check_fault.Lower e) h i a b = absurd (covered_or_not p b.names b.types b.meant b.typed b.covered d a)
  causes_one p (check_fault.Cover d) (check_fault.Init e) h i a b = absurd (covered_or_not p b.names b.types b.meant b.typed b.covered d a)
  causes_one p (check_fault.Lower d) (check_fault.Name e) h i a b = absurd (meant_or_misnamed p a.names e b.told a.meant b.cause)
  causes_one p (check_fault.Lower d) (check_fault.Types e) h i a b = absurd (typed_or_mistyped p a.names a.types a.meant a.typed e b)
  causes_one p (check_fault.Lower d) (check_fault.Cover e) h i a b = absurd (covered_or_not p a.names a.types a.meant a.typed a.covered e b)
  causes_one p (check_fault.Lower d) (check_fault.Lower e) h i a b = larges_one p d e a b
  causes_one p (check_fault.Lower d) (check_fault.Init e) h i a b = absurd (small_or_not p b.names b.types b.meant b.typed b.small d a)
  causes_one p (check_fault.Init d) (check_fault.Name e) h i a b = absurd (meant_or_misnamed p a.names e b.told a.meant b.cause)
  causes_one p (check_fault.Init d) (check_fault.Types e) h i a b = absurd (typed_or_mistyped p a.names a.types a.meant a.typed e b)
  causes_one p (check_fault.Init d) (check_fault.Cover e) h i a b = absurd (covered_or_not p a.names a.types a.meant a.typed a.covered e b)
  causes_one p (check_fault.Init d) (check_fault.Lower e) h i a b = absurd (small_or_not p a.names a.types a.meant a.typed a.small e b)
  causes_one p (check_fault.Init d) (check_fault.Init e) h i a b = tt
  causes_one p (check_fault.Name d) (check_fault.Region j m n) h i a b = absurd (h (fronted_or_faulty p (check_fault.Name d) (b.types, b.front) a))
  causes_one p (check_fault.Name d) (check_fault.Loan e) h i a b = absurd (h (fronted_or_faulty p (check_fault.Name d) (b.types, b.front) a))
  causes_one p (check_fault.Region q l k) (check_fault.Name e) h i a b = absurd (i (fronted_or_faulty p (check_fault.Name e) (a.types, a.front) b))
  causes_one p (check_fault.Loan d) (check_fault.Name e) h i a b = absurd (i (fronted_or_faulty p (check_fault.Name e) (a.types, a.front) b))
  causes_one p (check_fault.Types d) (check_fault.Region j m n) h i a b = absurd (h (fronted_or_faulty p (check_fault.Types d) (b.types, b.front) a))
  causes_one p (check_fault.Types d) (check_fault.Loan e) h i a b = absurd (h (fronted_or_faulty p (check_fault.Types d) (b.types, b.front) a))
  causes_one p (check_fault.Region q l k) (check_fault.Types e) h i a b = absurd (i (fronted_or_faulty p (check_fault.Types e) (a.types, a.front) b))
  causes_one p (check_fault.Loan d) (check_fault.Types e) h i a b = absurd (i (fronted_or_faulty p (check_fault.Types e) (a.types, a.front) b))
  causes_one p (check_fault.Cover d) (check_fault.Region j m n) h i a b = absurd (h (fronted_or_faulty p (check_fault.Cover d) (b.types, b.front) a))
  causes_one p (check_fault.Cover d) (check_fault.Loan e) h i a b = absurd (h (fronted_or_faulty p (check_fault.Cover d) (b.types, b.front) a))
  causes_one p (check_fault.Region q l k) (check_fault.Cover e) h i a b = absurd (i (fronted_or_faulty p (check_fault.Cover e) (a.types, a.front) b))
  causes_one p (check_fault.Loan d) (check_fault.Cover e) h i a b = absurd (i (fronted_or_faulty p (check_fault.Cover e) (a.types, a.front) b))
  causes_one p (check_fault.Lower d) (check_fault.Region j m n) h i a b = absurd (h (fronted_or_faulty p (check_fault.Lower d) (b.types, b.front) a))
  causes_one p (check_fault.Lower d) (check_fault.Loan e) h i a b = absurd (h (fronted_or_faulty p (check_fault.Lower d) (b.types, b.front) a))
  causes_one p (check_fault.Region q l k) (check_fault.Lower e) h i a b = absurd (i (fronted_or_faulty p (check_fault.Lower e) (a.types, a.front) b))
  causes_one p (check_fault.Loan d) (check_fault.Lower e) h i a b = absurd (i (fronted_or_faulty p (check_fault.Lower e) (a.types, a.front) b))
  causes_one p (check_fault.Init d) (check_fault.Region j m n) h i a b = absurd (h (fronted_or_faulty p (check_fault.Init d) (b.types, b.front) a))
  causes_one p (check_fault.Init d) (check_fault.Loan e) h i a b = absurd (h (fronted_or_faulty p (check_fault.Init d) (b.types, b.front) a))
  causes_one p (check_fault.Region q l k) (check_fault.Init e) h i a b = absurd (i (fronted_or_faulty p (check_fault.Init e) (a.types, a.front) b))
  causes_one p (check_fault.Loan d) (check_fault.Init e) h i a b = absurd (i (fronted_or_faulty p (check_fault.Init e) (a.types, a.front) b))
  causes_one p (check_fault.Region q l k) (check_fault.Region j m n) h i a b =
      pairs_one q l k j m n (lacks_one p (region_fault.Missing q l k) (region_fault.Missing j m n) (λ e. cc) (λ e. cc) a b)
  causes_one p (check_fault.Region q l k) (check_fault.Loan e) h i a b = absurd (lacks_or_meets p (region_fault.Missing q l k) e (λ e. cc) a b)
  causes_one p (check_fault.Loan d) (check_fault.Region j m n) h i a b = absurd (lacks_or_meets p (region_fault.Missing j m n) d (λ e. cc) b a)
  causes_one p (check_fault.Loan d) (check_fault.Loan e) h i a b = tt
  causes_one p check_fault.OutOfMemory e h i a b = absurd (h refl)
  causes_one p d check_fault.OutOfMemory h i a b = absurd (i refl)
