-- What is found of one function, and what is answered of all.
use Rattle.std.proofs.Common.{◌≡◌, ℕ, Bool, List, Option, Ok, Err, map, option_map, ap, ◌∙◌, subst}
use Rattle.rx_core.specs.declared.types.Ty.{Ty}
use Rattle.rx_typed.specs.declared.declarations.Decl.{Decl}
use Rattle.rx_typed.specs.Types.{Declarations}
use Rattle.rx_typed.specs.PlainTypes.{plain-Ty, declarations}
use Rattle.rx_lower_walks.specs.declared.site.Site as code_site
use Rattle.rx_lower_walks.specs.PlainSite.{plain-Site}
use Rattle.rx_lower_walks.specs.Graph.{Site}
use Rattle.rx_facts_tables.specs.Places.{Frame}
use Rattle.rx_facts_tables.specs.LiveTables.{Lives}
use Rattle.rx_facts_tables.specs.Answer.{IsInitTable, Answers}
use Rattle.rx_facts_tables.specs.Initialised.{Initialised, IsUnset, IsAgain}
use Rattle.rx_facts_tables.specs.Wholes.{placed}
use Rattle.rx_facts_tables.specs.declared.whole.InitFault.{InitFault as NodeFault}
use Rattle.rx_facts_tables.specs.declared.whole.InitFault.TheVariants as node_fault
use Rattle.rx_lower_lifetimes.specs.declared.whole.LowerFault.{LowerFault}
use Rattle.rx_lower_lifetimes.specs.declared.whole.LowerFault.TheVariants as lower_fault
use Rattle.rx_typeck_typed.specs.declared.typed.TypedFn.{TypedFn}
use Rattle.rx_typeck_typed.specs.declared.typed.Typed.{Typed}
use Rattle.rx_typed_declarations.specs.Sizes.{Sized}
use Rattle.rx_lower.specs.Functions.{trimmed}
use Rattle.rx_facts.specs.declared.fault.InitFault.{InitFault}
use Rattle.rx_facts.specs.declared.fault.InitFault.TheVariants as fault
use Rattle.rx_facts.specs.declared.lowering.Lowered.{Lowered}
use Rattle.rx_facts.specs.declared.finding.FunctionFacts.{FunctionFacts}
use Rattle.rx_facts.specs.Passing.{FirstNot}
use Rattle.rx_facts.specs.Functions.{body, sites_of, IsSmall, IsLarge, IsInitialised, IsUninitialised}
use Rattle.rx_facts.specs.Answers.{IsGraphOf, AreFactsOf, NodeSays, EachLowered, EachAnswers, FactsAnswer}

abbrev framed : List Decl → (ℕ → ℕ) → List (Option Ty) → Frame
framed items P ts = record { declared = declarations items; sizes = P; types = map (option_map plain-Ty) ts }

module _ (items : List Decl) (P : ℕ → ℕ) (f : TypedFn) (g : Lowered) (types : List (Option Ty)) (muts : List Bool) (sites : List code_site.Site)
    (lowered : IsGraphOf items f g) (t : types ≡ trimmed f.variables) (m : muts ≡ f.mutable) (s : sites ≡ g.graph.sites) where
  graph_is : map plain-Site sites ≡ sites_of f
  graph_is = ap (map plain-Site) s ∙ lowered.sites

  pub facts_of : (x : FunctionFacts) → Answers (framed items P types) muts (map plain-Site sites) (Ok x.init) → Lives (map plain-Site sites) x.live
      → AreFactsOf (declarations items) P f x
  facts_of x a l = let both = a (body f) graph_is in record {
    initialised = subst (λ (ms : List Bool). Initialised (framed items P (trimmed f.variables)) ms (body f)) m
        (subst (λ (ts : List (Option Ty)). Initialised (framed items P ts) muts (body f)) t both.0);
    live = subst (λ (h : List Site). Lives h x.live) graph_is l;
    init = subst (λ (h : List Site). IsInitTable (framed items P (trimmed f.variables)) h x.init) graph_is
        (subst (λ (ts : List (Option Ty)). IsInitTable (framed items P ts) (map plain-Site sites) x.init) t both.1);
  }

  pub says_of : (e : NodeFault) → Answers (framed items P types) muts (map plain-Site sites) (Err e) → NodeSays (declarations items) P f e
  says_of (node_fault.Unset n q) a = subst (λ (ts : List (Option Ty)). IsUnset (framed items P ts) (body f) n (placed q.var q.steps)) t (a (body f) graph_is)
  says_of (node_fault.Again n x) a = subst (λ (ms : List Bool). IsAgain ms (body f) n x) m (a (body f) graph_is)
  says_of node_fault.OutOfMemory a = tt

pub lower_err : (items : List Decl) (fs : List TypedFn) (e : LowerFault) → FirstNot (IsSmall items) (IsLarge items e) fs → EachLowered items fs (Err e)
lower_err items fs (lower_fault.TooLarge i s n) h = h
lower_err items fs lower_fault.OutOfMemory h = tt

pub init_err : (D : Declarations) (P : ℕ → ℕ) (fs : List TypedFn) (e : InitFault) → FirstNot (IsInitialised D P) (IsUninitialised D P e) fs → EachAnswers D P fs (Err e)
init_err D P fs (fault.Unset at q) h = h
init_err D P fs (fault.Again at v) h = h
init_err D P fs fault.OutOfMemory h = tt

pub facts_err : (t : Typed) (P : ℕ → ℕ) (e : InitFault) → Sized (declarations t.decls.items) P → EachAnswers (declarations t.decls.items) P t.functions (Err e) → FactsAnswer t (Err e)
facts_err t P (fault.Unset at q) sized h = record { parts = P; sized = sized; first = h }
facts_err t P (fault.Again at v) sized h = record { parts = P; sized = sized; first = h }
facts_err t P fault.OutOfMemory sized h = tt
