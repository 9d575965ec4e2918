-- The shape of a function, and what is found of its lines.
use Rattle.std.proofs.Common.{◌≡◌, ℕ, ◌+◌, ◌<◌, ◌≤◌, Bool, List, [], ◌∷◌, length, map, drop, get_or, Err, refl, ap, sym, ◌∙◌, subst, arith}
use Rattle.std.proofs.lemmas.List.{length-map}
use Rattle.rx_core.specs.declared.types.Bound.{Bound}
use Rattle.rx_typed.specs.declared.declarations.Decl.{Decl}
use Rattle.rx_typed.specs.PlainTypes.{declarations}
use Rattle.rx_typed_declarations.specs.Sizes.{told}
use Rattle.rx_lower_walks.specs.Graph as graph
use Rattle.rx_lower_walks.specs.PlainSite.{plain-Site}
use Rattle.rx_lower_lifetimes.specs.Answer.{IsLowered}
use Rattle.rx_lower_lifetimes.specs.Lowered.{Lifetimes}
use Rattle.rx_lower_lifetimes.specs.PlainOwn.{plain-Own}
use Rattle.rx_lower_lifetimes.specs.declared.whole.Graph.{Graph}
use Rattle.rx_lower.specs.Functions.{function}
use Rattle.rx_loan.specs.Accesses.{Loan}
use Rattle.rx_loan.specs.Loans.{loans_of}
use Rattle.rx_loan.specs.PlainOf.{plain-Loan}
use Rattle.rx_loan.specs.declared.accesses.Loan.{Loan as LoanOf}
use Rattle.rx_typeck_typed.specs.declared.typed.Typed.{Typed}
use Rattle.rx_typeck_typed.specs.declared.typed.TypedFn.{TypedFn}
use Rattle.rx_facts.specs.Passing.{Each}
use Rattle.rx_facts.specs.Answers.{AreFactsOf, IsGraphOf}
use Rattle.rx_facts.specs.declared.lowering.Lowered.{Lowered}
use Rattle.rx_facts.proofs.Passing.{each_at}
use Rattle.rx_facts.specs.declared.finding.FunctionFacts.{FunctionFacts}
use Rattle.rx_check.proofs.Telling.{IsLived, each_mapped}
use Rattle.rx_cert_lines.specs.declared.line.Line.{Line}
use Rattle.rx_cert_tables.specs.declared.shape.Shape.{Shape}
use Rattle.rx_cert_tables.specs.Fitting.{AllFit, IsMisfit}
use Rattle.rx_cert.specs.Shapes.{loans_in, shape_of, FirstUnfit}
use Rattle.rx_cert.proofs.Places.{Going, unfit_here, Keeping, breaks_here}
use Rattle.rx_cert.specs.Parts as parts
use Rattle.rx_cert.specs.declared.fault.VerifyFault.{VerifyFault}
use Rattle.rx_cert.specs.declared.fault.VerifyFault.TheVariants as fault

pub sites_plain : (ls : List LoanOf) → map (λ (x : LoanOf). x.site) ls ≡ map (λ (l : Loan). l.site) (map plain-Loan ls)
sites_plain [] = refl
sites_plain (x ∷ ls) = ap (λ ns. x.site ∷ ns) (sites_plain ls)

-- what is told of a function's graph is its shape
pub shape_is : (D : List Decl) (f : TypedFn) (mutable : List Bool) (g : Graph) → IsLowered (function D f) mutable g → (n : ℕ) → n ≡ length g.sites
    → (bs : List ℕ) → bs ≡ map (λ (l : Loan). l.site) (loans_of (map plain-Site g.sites) (map plain-Own g.lifetimes.owned))
    → record { item = f.item; sites = n; own = g.lifetimes.own; lifetimes = g.lifetimes.regions; borrows = bs } ≡ shape_of D f
shape_is D f mutable g lowered n is_n bs is_bs = λ j. record {
  item = f.item;
  sites = (is_n ∙ sym (length-map g.sites plain-Site) ∙ ap (λ (s : List graph.Site). length s) lowered.sites) j;
  own = ap (λ (L : Lifetimes). L.own) lowered.lifetimes_are j;
  lifetimes = ap (λ (L : Lifetimes). L.regions) lowered.lifetimes_are j;
  borrows = (is_bs ∙ same_loans) j;
} where
  same_loans : map (λ (l : Loan). l.site) (loans_of (map plain-Site g.sites) (map plain-Own g.lifetimes.owned)) ≡ map (λ (l : Loan). l.site) (loans_in D f)
  same_loans = λ j. map (λ (l : Loan). l.site) (loans_of (lowered.sites j) (ap (λ (L : Lifetimes). L.owned) lowered.lifetimes_are j))

-- a misfit of lines by a shape is one by the function's
pub misfit_by : (D : List Decl) (f : TypedFn) (s : Shape) (ls us : List Line) (at k : ℕ) → s ≡ shape_of D f → us ≡ drop at ls → IsMisfit s us k
    → IsMisfit (shape_of D f) (drop at ls) k
misfit_by D f s ls us at k is lines m = subst (λ (x : Shape). IsMisfit x (drop at ls) k) is (subst (λ (x : List Line). IsMisfit s x k) lines m)

pub fit_by : (D : List Decl) (f : TypedFn) (s : Shape) (ls us : List Line) (at : ℕ) → s ≡ shape_of D f → us ≡ drop at ls → AllFit s us
    → AllFit (shape_of D f) (drop at ls)
fit_by D f s ls us at is lines m = subst (λ (x : Shape). AllFit x (drop at ls)) is (subst (λ (x : List Line). AllFit s x) lines m)

-- what is live is told of all functions
pub all_live : (t : Typed) (sizes : List ℕ) (fs : List FunctionFacts) → Each (AreFactsOf (declarations t.decls.items) (told sizes)) t.functions fs
    → Each IsLived t.functions fs
all_live t sizes fs h = each_mapped (AreFactsOf (declarations t.decls.items) (told sizes)) IsLived (λ f y x. x.live) t.functions fs h

-- ---- functions by their places

pub graph_at : (D : List Decl) (fs : List TypedFn) (gs : List Lowered) → Each (IsGraphOf D) fs gs → (i : ℕ) (f : TypedFn) (g : Lowered) → i < length fs
    → f ≡ get_or fs i f → g ≡ get_or gs i g → IsGraphOf D f g
graph_at D fs gs each i f g within is_f is_g = subst (λ (x : TypedFn). IsGraphOf D x g) (sym is_f)
    (subst (λ (y : Lowered). IsGraphOf D (get_or fs i f) y) (sym is_g) (each_at (IsGraphOf D) fs gs each i f g within))

pub few_sites : (D : List Decl) (f : TypedFn) (g : Lowered) → IsGraphOf D f g → length g.graph.sites ≤ 16384
few_sites D f g is = omega (arith, is.few_sites, ap (λ (s : List graph.Site). length s) is.sites, length-map g.graph.sites plain-Site)

-- a fault of one function's lines is one of all
pub fault_of : (D : List Decl) (fs : List TypedFn) (ls : List Line) (i at : ℕ) (f : TypedFn) (e : VerifyFault) (t : Typed) → t.decls.items ≡ D → t.functions ≡ fs
    → i < length fs → f ≡ get_or fs i f → Going D fs ls i at → parts.FitsOne D f (drop at ls) at (Err e) → parts.AllFit t ls (Err e)
fault_of D fs ls i at f (fault.Form n) t same_items same_functions within is before h = (
  at + h.0,
  subst (λ (x : List TypedFn). FirstUnfit t.decls.items x ls (at + h.0)) (sym same_functions)
      (subst (λ (x : List Decl). FirstUnfit x fs ls (at + h.0)) (sym same_items) (unfit_here D fs ls i at h.0 f within is h.1 before)),
  h.2,
)
fault_of D fs ls i at f (fault.Text s) t same_items same_functions within is before h = absurd h
fault_of D fs ls i at f (fault.Front s) t same_items same_functions within is before h = absurd h
fault_of D fs ls i at f (fault.Rule j r) t same_items same_functions within is before h = absurd h
fault_of D fs ls i at f fault.OutOfMemory t same_items same_functions within is before h = tt

-- a rule that one function's sets break is the first of all
pub rule_of : (D : List Decl) (P : ℕ → List Bound) (fs : List TypedFn) (ls : List Line) (i at : ℕ) (f : TypedFn) (e : VerifyFault) → i < length fs
    → f ≡ get_or fs i f → Keeping D P fs ls i at → parts.KeepsOne D P f (drop at ls) (Err e) → parts.KeepsEach D P fs ls (Err e)
rule_of D P fs ls i at f (fault.Form n) within is before h = absurd h
rule_of D P fs ls i at f (fault.Text s) within is before h = absurd h
rule_of D P fs ls i at f (fault.Front s) within is before h = absurd h
rule_of D P fs ls i at f (fault.Rule j r) within is before h = breaks_here D P fs ls i at j r f within is h.0 h.1 before
rule_of D P fs ls i at f fault.OutOfMemory within is before h = tt
