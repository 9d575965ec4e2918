-- What a function lacks is the same by any lists of the pairs that fields ask.
use Rattle.std.proofs.Common.{◌≡◌, ◌↔◌, ℕ, List, [], map, refl, sym, ap, subst, ◌∙◌}
use Rattle.rx_core.specs.declared.types.Bound.{Bound}
use Rattle.rx_typed.specs.declared.declarations.Decl.{Decl}
use Rattle.rx_lower.specs.Functions.{function}
use Rattle.rx_lower_lifetimes.specs.Lowered.{Lifetimes, lifetimes}
use Rattle.rx_typeck_typed.specs.declared.typed.TypedFn.{TypedFn}
use Rattle.rx_facts.specs.Functions.{sites_of}
use Rattle.rx_region.specs.Known.{Missing}
use Rattle.rx_region.specs.Tables.{Misses}
use Rattle.rx_check.specs.Contexts.{AreAsked, context_of}
use Rattle.rx_repair.proofs.RepairAsking.{missing_alike}
use Rattle.rx_region.specs.Constraints.{Context}
use Rattle.rx_lower_walks.specs.Graph.{Site}
use Rattle.rx_lower_walks.specs.declared.site.Site.{Site as CodeSite}
use Rattle.rx_lower_walks.specs.PlainSite.{plain-Site}
use Rattle.rx_lower_lifetimes.specs.declared.whole.Graph.{Graph}
use Rattle.rx_lower_lifetimes.specs.Answer.{plain-Lifetimes, IsLowered}
use Rattle.rx_facts_tables.specs.declared.table.LiveTable.{LiveTable}
use Rattle.rx_facts_tables.specs.LiveTables.{Lives}
use Rattle.rx_repair.specs.LeastBounds.{IsLeastBound}
use Rattle.rx_repair.specs.Lacking.{AreMissing, Lacks, Needs}

missing_too : (D : List Decl) (P Q : ℕ → List Bound) → AreAsked D P → AreAsked D Q → (f : TypedFn) (l k : ℕ)
    → Missing (context_of D P f) (sites_of f) l k → Missing (context_of D Q f) (sites_of f) l k
missing_too D P Q asked other f l k m = missing_alike D P Q asked other (lifetimes (function D f)) (sites_of f) l k m

-- by one such list, so by all
pub lacks_by : (D : List Decl) (P : ℕ → List Bound) → AreAsked D P → (f : TypedFn) (bs : List Bound) → AreMissing (context_of D P f) (sites_of f) bs → Lacks D f bs
lacks_by D P asked f bs h Q other = record {
  exact = λ l k. ((λ x. missing_too D P Q asked other f l k ((h.exact l k).0 x)), (λ m. (h.exact l k).1 (missing_too D Q P other asked f l k m)));
  ordered = h.ordered;
}

-- of a function without bounds they are the least bounds
pub needs_by : ((C : Context) (g : List Site) → C.lifetimes.bounds ≡ [] → (l k : ℕ) → IsLeastBound C g l k ↔ Missing C g l k)
    → (D : List Decl) (f : TypedFn) (bs : List Bound) → Lacks D f bs → Needs D f bs
needs_by law D f bs lacks P asked none = let m = lacks P asked in let C = context_of D P f in let g = sites_of f in record {
  exact = λ l k. ((λ h. (law C g none l k).1 ((m.exact l k).0 h)), (λ b. (m.exact l k).1 ((law C g none l k).0 b)));
  ordered = m.ordered;
}

-- what is said by the lifetimes and sites of a graph is said of its function
pub of_graph : (D : List Decl) (P : ℕ → List Bound) (f : TypedFn) (G : Graph) (sites : List CodeSite) (bs : List Bound) → IsLowered (function D f) f.mutable G → sites ≡ G.sites
    → AreMissing (record { items = D; implied = P; lifetimes = plain-Lifetimes G.lifetimes }) (map plain-Site sites) bs → AreMissing (context_of D P f) (sites_of f) bs
of_graph D P f G sites bs low same h =
    subst (λ (L : Lifetimes). AreMissing (record { items = D; implied = P; lifetimes = L }) (sites_of f) bs) low.lifetimes_are
    (subst (λ (g : List Site). AreMissing (record { items = D; implied = P; lifetimes = plain-Lifetimes G.lifetimes }) g bs) (ap (λ (l : List CodeSite). map plain-Site l) same ∙ low.sites) h)

pub lives_there : (D : List Decl) (f : TypedFn) (G : Graph) (sites : List CodeSite) (t : LiveTable) → IsLowered (function D f) f.mutable G → sites ≡ G.sites
    → Lives (sites_of f) t → Lives (map plain-Site sites) t
lives_there D f G sites t low same h = subst (λ (g : List Site). Lives g t) (sym (ap (λ (l : List CodeSite). map plain-Site l) same ∙ low.sites)) h
