-- What is found of one function, and what is answered of all.
use Rattle.std.proofs.Common.{◌≡◌, ◌≤◌, ◌<◌, ℕ, zero, suc, List, [], ◌∷◌, length, get_or, Result, Ok, Err, map, refl, sym, ap, ◌∙◌, subst, arith}
use Rattle.std.proofs.lemmas.List.{length-map}
use Rattle.rx_core.specs.declared.types.Span.{Span}
use Rattle.rx_lower_walks.specs.declared.site.Site as code_site
use Rattle.rx_lower_walks.specs.PlainSite.{plain-Site}
use Rattle.rx_core.specs.declared.types.Bound.{Bound}
use Rattle.rx_typed.specs.declared.declarations.Decl.{Decl}
use Rattle.rx_typeck_typed.specs.declared.typed.Typed.{Typed}
use Rattle.rx_typeck_typed.specs.declared.typed.TypedFn.{TypedFn}
use Rattle.rx_lower_walks.specs.Graph.{Site, site_at}
use Rattle.rx_lower_lifetimes.specs.declared.numbering.Own.{Own}
use Rattle.rx_lower_lifetimes.specs.PlainOwn.{plain-Own}
use Rattle.rx_lower_lifetimes.specs.Lowered.{Lifetimes}
use Rattle.rx_loan.specs.declared.table.LoanTable.{LoanTable}
use Rattle.rx_region.specs.Constraints.{Context}
use Rattle.rx_loan.specs.Answer.{Judges}
use Rattle.rx_loan.specs.declared.judging.BorrowFault.{BorrowFault}
use Rattle.rx_facts.specs.declared.lowering.Lowered.{Lowered}
use Rattle.rx_facts.specs.Answers.{IsGraphOf}
use Rattle.rx_region.specs.Passing.{RegionAnswer}
use Rattle.rx_region.specs.Tables.{sets_of}
use Rattle.rx_loan.proofs.Found.{nothing_missing}
use Rattle.rx_facts_tables.specs.LiveTables.{Lives}
use Rattle.rx_facts.specs.declared.finding.FunctionFacts.{FunctionFacts}
use Rattle.rx_facts.specs.Passing.{Each, FirstNot}
use Rattle.rx_facts.specs.Functions.{sites_of, span_of}
use Rattle.rx_facts.proofs.Passing.{all_of_each, each_at}
use Rattle.rx_check.specs.Contexts.{AreAsked, context_of}
use Rattle.rx_check.specs.Functions.{LacksNone, LacksPair, AreRegionsOf, Borrows, node_at, site_span, MeetsLoan, AreLoansOf}
use Rattle.rx_check.specs.Answers.{LackNone, AllBorrow, AreRegions, EachRegions, RegionsAnswer, AreLoans, LoansAnswer}
use Rattle.rx_check.specs.declared.regions.RegionFault.{RegionFault}
use Rattle.rx_check.specs.declared.regions.RegionFault.TheVariants as region_fault
use Rattle.rx_check.specs.declared.regions.FunctionRegions.{FunctionRegions}
use Rattle.rx_check.specs.declared.loans.FunctionLoans.{FunctionLoans}
use Rattle.rx_check.specs.declared.loans.LoanFault.{LoanFault}
use Rattle.rx_check.specs.declared.loans.LoanFault.TheVariants as loan_fault

-- what is live is told of the function
abbrev pub IsLived : TypedFn → FunctionFacts → Type 0
IsLived f x = Lives (sites_of f) x.live

pub each_mapped : {A B : Type 0} (H K : A → B → Type 0) → ((a : A) (b : B) → H a b → K a b) → (xs : List A) (ys : List B) → Each H xs ys → Each K xs ys
each_mapped H K k [] [] h = tt
each_mapped H K k (a ∷ xs) (b ∷ ys) h = (k a b h.0, each_mapped H K k xs ys h.1)
each_mapped H K k [] (b ∷ ys) h = absurd h
each_mapped H K k (a ∷ xs) [] h = absurd h

pub region_err : (D : List Decl) (P : ℕ → List Bound) (fs : List TypedFn) (e : RegionFault) → FirstNot (LacksNone D P) (LacksPair D P e) fs → EachRegions D P fs (Err e)
region_err D P fs (region_fault.Missing i l k) h = h
region_err D P fs region_fault.OutOfMemory h = tt

pub regions_by : (t : Typed) (P : ℕ → List Bound) → AreAsked t.decls.items P → (r : Result (List FunctionRegions) RegionFault)
    → EachRegions t.decls.items P t.functions r → RegionsAnswer t r
regions_by t P asked (Ok xs) h = record { implied = P; asked = asked; each = h }
regions_by t P asked (Err (region_fault.Missing i l k)) h = record { implied = P; asked = asked; first = h }
regions_by t P asked (Err region_fault.OutOfMemory) h = tt

pub loan_err : (t : Typed) (P : ℕ → List Bound) → AreAsked t.decls.items P → (e : LoanFault) → FirstNot (Borrows t.decls.items P) (MeetsLoan t.decls.items P e) t.functions → LoansAnswer t (Err e)
loan_err t P asked (loan_fault.Loan a b) h = record { implied = P; asked = asked; first = h }
loan_err t P asked loan_fault.OutOfMemory h = tt

-- ---- what is known of a graph in code

-- behind the last site is no node
pub no_node : (sites : List code_site.Site) (p : ℕ) → length sites ≤ p → node_at (site_at (map plain-Site sites) p) ≡ 0
no_node [] p h = refl
no_node (s ∷ sites) zero h = absurd (omega (arith, h))
no_node (s ∷ sites) (suc p) h = no_node sites p (omega (arith, h))

pub few_sites : (D : List Decl) (f : TypedFn) (g : Lowered) → IsGraphOf D f g → length g.graph.sites ≤ 16384
few_sites D f g graph = subst (λ n. n ≤ 16384) (sym (sym (length-map g.graph.sites plain-Site) ∙ ap (λ (l : List Site). length l) graph.sites)) graph.few_sites

module _ (D : List Decl) (P : ℕ → List Bound) (f : TypedFn) (g : Lowered) (graph : IsGraphOf D f g) (sites : List code_site.Site) (s : sites ≡ g.graph.sites)
    (owned : List Own) (o : owned ≡ g.graph.lifetimes.owned) where
  pub sites_are : map plain-Site sites ≡ sites_of f
  sites_are = ap (map plain-Site) s ∙ graph.sites

  owned_are : map plain-Own owned ≡ (context_of D P f).lifetimes.owned
  owned_are = ap (map plain-Own) o ∙ ap (λ (L : Lifetimes). L.owned) graph.lifetimes_are

  pub judged : (r : Result LoanTable BorrowFault) (x : FunctionRegions)
      → ((C : Context) → map plain-Own owned ≡ C.lifetimes.owned → RegionAnswer C (map plain-Site sites) (Ok x.regions) → Judges C (map plain-Site sites) r)
      → AreRegionsOf D P f x → Judges (context_of D P f) (sites_of f) r
  judged r x told h = subst (λ (z : List Site). Judges (context_of D P f) z r) sites_are
      (told (context_of D P f) owned_are (subst (λ (z : List Site). RegionAnswer (context_of D P f) z (Ok x.regions)) (sym sites_are) h))

  pub place_of : (spans : List Span) → spans ≡ f.spans → (p : ℕ) → span_of spans (node_at (site_at (map plain-Site sites) p)) ≡ site_span f p
  place_of spans e p = λ j. span_of (e j) (node_at (site_at (sites_are j) p))

-- ---- what is found says what is asked

pub regions_lack_none : (D : List Decl) (P : ℕ → List Bound) (f : TypedFn) (x : FunctionRegions) → AreRegionsOf D P f x → LacksNone D P f
regions_lack_none D P f x h = nothing_missing (context_of D P f) (sites_of f) (sets_of x.regions) h.0 h.1

pub found_lack_none : (t : Typed) (xs : List FunctionRegions) → AreRegions t xs → LackNone t
found_lack_none t xs h = record {
  implied = h.implied;
  asked = h.asked;
  each = all_of_each (AreRegionsOf t.decls.items h.implied) (LacksNone t.decls.items h.implied) (regions_lack_none t.decls.items h.implied) t.functions xs h.each;
}

pub found_borrow : (t : Typed) (xs : List FunctionLoans) → AreLoans t xs → AllBorrow t
found_borrow t xs h = record {
  implied = h.implied;
  asked = h.asked;
  each = all_of_each (AreLoansOf t.decls.items h.implied) (Borrows t.decls.items h.implied) (λ f x l. l.accepted) t.functions xs h.each;
}

-- what holds of each holds of the one at hand, where a list in code is that of the program
pub here : {B : Type 0} (H : TypedFn → B → Type 0) (fs gs : List TypedFn) (bs : List B) (i : ℕ) (f : TypedFn) (b : B) → gs ≡ fs → Each H fs bs → i < length gs → f ≡ get_or gs i f → b ≡ get_or bs i b → H f b
here H fs gs bs i f b same each less is there =
    subst (λ (g : TypedFn). H g b) (sym (subst (λ (l : List TypedFn). f ≡ get_or l i f) same is))
    (subst (λ x. H (get_or fs i f) x) (sym there) (each_at H fs bs each i f b (subst (λ (l : List TypedFn). i < length l) same less)))
