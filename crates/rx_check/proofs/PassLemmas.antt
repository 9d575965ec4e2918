-- What each pass says is said by the check.
use Rattle.std.proofs.Common.{◌≡◌, ◌≢◌, ℕ, List, Result, Ok, Err}
use Rattle.std.specs.Prelude.{IfErr}
use Rattle.rx_tree.specs.Plain.{ProgramTree}
use Rattle.rx_tree.specs.Size.{IsNumbered}
use Rattle.rx_meaning.specs.Programs.{main_in}
use Rattle.rx_resolve_names.specs.declared.resolved.ItemNames.{ItemNames}
use Rattle.rx_resolve_names.specs.declared.resolved.NameFault.{NameFault}
use Rattle.rx_resolve_names.specs.declared.resolved.NameFault.TheVariants as name_fault
use Rattle.rx_resolve_names.specs.Causes as naming
use Rattle.rx_resolve_names.specs.Causes.{Meant}
use Rattle.rx_typed.specs.PlainTypes.{declarations}
use Rattle.rx_typeck_typed.specs.declared.typed.Typed.{Typed}
use Rattle.rx_typeck_typed.specs.declared.typed.TypeFault.{TypeFault}
use Rattle.rx_typeck_typed.specs.declared.typed.TypeFault.TheVariants as type_fault
use Rattle.rx_typeck_typed.specs.Typing as typing
use Rattle.rx_typeck_typed.specs.Typing.{IsTyped}
use Rattle.rx_cover.specs.declared.covering.CoverFault.{CoverFault}
use Rattle.rx_cover.specs.declared.covering.CoverFault.TheVariants as cover_fault
use Rattle.rx_typed_declarations.specs.Sizes.{told}
use Rattle.rx_lower_lifetimes.specs.declared.whole.LowerFault.{LowerFault}
use Rattle.rx_lower_lifetimes.specs.declared.whole.LowerFault.TheVariants as lower_fault
use Rattle.rx_facts.specs.declared.fault.InitFault.{InitFault}
use Rattle.rx_facts.specs.declared.fault.InitFault.TheVariants as init_fault
use Rattle.rx_facts.specs.declared.lowering.Lowered.{Lowered}
use Rattle.rx_facts.specs.declared.finding.ProgramFacts.{ProgramFacts}
use Rattle.rx_facts.specs.Passing.{AllAre}
use Rattle.rx_facts.specs.Functions.{IsSmall, IsInitialised}
use Rattle.rx_facts.specs.Answers.{IsGraphOf, AreGraphs, LowerAnswers, AreFactsOf, AreFacts, FactsAnswer}
use Rattle.rx_facts.proofs.Passing.{all_of_each}
use Rattle.rx_check.specs.declared.regions.FunctionRegions.{FunctionRegions}
use Rattle.rx_check.specs.declared.regions.RegionFault.{RegionFault}
use Rattle.rx_check.specs.declared.regions.RegionFault.TheVariants as region_fault
use Rattle.rx_check.specs.declared.loans.FunctionLoans.{FunctionLoans}
use Rattle.rx_check.specs.declared.loans.LoanFault.{LoanFault}
use Rattle.rx_check.specs.declared.loans.LoanFault.TheVariants as loan_fault
use Rattle.rx_check.specs.Answers.{AreRegions, RegionsAnswer, AreLoans, LoansAnswer}
use Rattle.rx_check.proofs.Telling.{found_lack_none, found_borrow}
use Rattle.rx_check.specs.declared.fault.CheckFault.{CheckFault}
use Rattle.rx_check.specs.declared.fault.CheckFault.TheVariants as check_fault
use Rattle.rx_check.specs.Passes.{FunctionsCovered, IsFront}
use Rattle.rx_check.specs.Front.{Front, IsFrontOf, IsCheckedOf}
use Rattle.rx_check.specs.Faults.{of_names, of_types, of_cover, of_lower, of_init, of_regions, of_loans}
use Rattle.rx_check.specs.Causes.{Causes, PassCauses, FunctionsAnswer, TypedCauses, BorrowCauses}

pub misnamed : (p : ProgramTree) (e : NameFault) → naming.Causes e p → PassCauses (of_names e) p
misnamed p (name_fault.Unknown s) c = record { told = λ e. cc; cause = c }
misnamed p (name_fault.Twice a b) c = record { told = λ e. cc; cause = c }
misnamed p (name_fault.Label s) c = record { told = λ e. cc; cause = c }
misnamed p (name_fault.SelfHolding s) c = record { told = λ e. cc; cause = c }
misnamed p name_fault.OutOfMemory c = tt

pub mistyped : (p : ProgramTree) (ns : List ItemNames) (e : TypeFault) → Meant p ns → (e ≢ type_fault.OutOfMemory → typing.Causes p ns e) → PassCauses (of_types e) p
mistyped p ns (type_fault.Mismatch s r) m c = let n : type_fault.Mismatch s r ≢ type_fault.OutOfMemory = λ e. cc in record { told = n; names = ns; meant = m; cause = c n }
mistyped p ns (type_fault.Mutability s v) m c = let n : type_fault.Mutability s v ≢ type_fault.OutOfMemory = λ e. cc in record { told = n; names = ns; meant = m; cause = c n }
mistyped p ns (type_fault.Literal s) m c = let n : type_fault.Literal s ≢ type_fault.OutOfMemory = λ e. cc in record { told = n; names = ns; meant = m; cause = c n }
mistyped p ns (type_fault.Elision s) m c = let n : type_fault.Elision s ≢ type_fault.OutOfMemory = λ e. cc in record { told = n; names = ns; meant = m; cause = c n }
mistyped p ns type_fault.OutOfMemory m c = tt

-- what the passes behind types say
pub behind_types : (p : ProgramTree) (ns : List ItemNames) (t : Typed) (e : CheckFault) → Meant p ns → IsTyped p ns t → TypedCauses e t → PassCauses e p
behind_types p ns t (check_fault.Cover e) m h c = record { told = c.0; names = ns; meant = m; types = t; typed = h; first = c.1 }
behind_types p ns t (check_fault.Lower e) m h c = record { told = c.0; names = ns; meant = m; types = t; typed = h; covered = c.1; first = c.2 }
behind_types p ns t (check_fault.Init e) m h c = record { told = c.0; names = ns; meant = m; types = t; typed = h; covered = c.1; small = c.2; first = c.3 }
behind_types p ns t check_fault.OutOfMemory m h c = tt
behind_types p ns t (check_fault.Name e) m h c = absurd c
behind_types p ns t (check_fault.Types e) m h c = absurd c
behind_types p ns t (check_fault.Region i l k) m h c = absurd c
behind_types p ns t (check_fault.Loan e) m h c = absurd c

pub uncovered : (t : Typed) (e : CoverFault) → FunctionsAnswer (declarations t.decls.items) t.functions (Err e) → TypedCauses (of_cover e) t
uncovered t (cover_fault.Missing at v) a = (λ e. cc, a)
uncovered t (cover_fault.TooWide at n) a = (λ e. cc, a)
uncovered t cover_fault.OutOfMemory a = tt

pub large : (t : Typed) (e : LowerFault) → FunctionsCovered (declarations t.decls.items) t.functions → LowerAnswers t (Err e) → TypedCauses (of_lower e) t
large t (lower_fault.TooLarge f s n) c a = (λ e. cc, c, a)
large t lower_fault.OutOfMemory c a = tt

small_all : (t : Typed) (gs : List Lowered) → AreGraphs t gs → AllAre (IsSmall t.decls.items) t.functions
small_all t gs h = all_of_each (IsGraphOf t.decls.items) (IsSmall t.decls.items) (λ f g h. record { sites = h.few_sites; positions_are = h.few_positions }) t.functions gs h

pub unstarted : (t : Typed) (gs : List Lowered) (e : InitFault) → FunctionsCovered (declarations t.decls.items) t.functions → AreGraphs t gs → FactsAnswer t (Err e) → TypedCauses (of_init e) t
unstarted t gs (init_fault.Unset at q) c h a = (λ e. cc, c, small_all t gs h, a)
unstarted t gs (init_fault.Again at v) c h a = (λ e. cc, c, small_all t gs h, a)
unstarted t gs init_fault.OutOfMemory c h a = tt

-- what the passes find of a program
pub front_of : (p : ProgramTree) (ns : List ItemNames) (t : Typed) (n : ℕ) (gs : List Lowered) (x : ProgramFacts) → IsNumbered p → Meant p ns → IsTyped p ns t → n ≡ main_in p 0
    → FunctionsCovered (declarations t.decls.items) t.functions → AreGraphs t gs → AreFacts t x → IsFrontOf p (record { typed = t; main = n; graphs = gs; facts = x })
front_of p ns t n gs x k m h at c g f = record {
  numbered = k;
  main = at;
  accepted = record {
    names = ns;
    meant = m;
    typed = h;
    covered = c;
    small = small_all t gs g;
    parts = told x.sizes;
    sized = f.sized;
    initialised = all_of_each (AreFactsOf (declarations t.decls.items) (told x.sizes)) (IsInitialised (declarations t.decls.items) (told x.sizes)) (λ f y h. h.initialised) t.functions x.functions f.each;
  };
  graphs = g;
  facts = f;
}

-- ---- behind initialisation

pub lacking : (t : Typed) (e : RegionFault) → RegionsAnswer t (Err e) → BorrowCauses (of_regions e) t
lacking t (region_fault.Missing i l k) a = a
lacking t region_fault.OutOfMemory a = tt

pub conflicting : (t : Typed) (xs : List FunctionRegions) (e : LoanFault) → AreRegions t xs → LoansAnswer t (Err e) → BorrowCauses (of_loans e) t
conflicting t xs (loan_fault.Loan b c) regions a = (λ e. cc, found_lack_none t xs regions, a)
conflicting t xs loan_fault.OutOfMemory regions a = tt

pub behind_front : (p : ProgramTree) (t : Typed) (e : CheckFault) → IsFront p t → BorrowCauses e t → Causes e p
behind_front p t (check_fault.Region i l k) f c = record { types = t; front = f; first = c }
behind_front p t (check_fault.Loan e) f c = record { told = c.0; types = t; front = f; known = c.1; first = c.2 }
behind_front p t check_fault.OutOfMemory f c = tt
behind_front p t (check_fault.Name e) f c = absurd c
behind_front p t (check_fault.Types e) f c = absurd c
behind_front p t (check_fault.Cover e) f c = absurd c
behind_front p t (check_fault.Lower e) f c = absurd c
behind_front p t (check_fault.Init e) f c = absurd c

-- what a pass up to initialisation says is said by the check
pub of_pass : (p : ProgramTree) (e : CheckFault) → PassCauses e p → Causes e p
of_pass p (check_fault.Name e) c = c
of_pass p (check_fault.Types e) c = c
of_pass p (check_fault.Cover e) c = c
of_pass p (check_fault.Lower e) c = c
of_pass p (check_fault.Init e) c = c
of_pass p (check_fault.Region i l k) c = absurd c
of_pass p (check_fault.Loan e) c = absurd c
of_pass p check_fault.OutOfMemory c = tt

-- what all passes find of a program
pub checked_of : (p : ProgramTree) (x : Front) (rs : List FunctionRegions) (ls : List FunctionLoans) → IsFrontOf p x → AreRegions x.typed rs → AreLoans x.typed ls
    → IsCheckedOf p (record { front = x; regions = rs; loans = ls })
checked_of p x rs ls front regions loans = record { front = front; borrows = found_borrow x.typed ls loans; regions = regions; loans = loans }

-- what follows from a fault
pub on_err : {A E : Type 0} (P Q : E → Type 0) → ((e : E) → P e → Q e) → (r : Result A E) → IfErr r P → IfErr r Q
on_err P Q f (Ok a) h = h
on_err P Q f (Err e) h = f e h
