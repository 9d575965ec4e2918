-- What the pairs that are missing by the parts of a front end say of a function.
use Rattle.std.proofs.Common.{◌≡◌, ◌↔◌, ℕ, List, [], map, refl, sym, ap, subst, ◌∙◌}
use Rattle.rx_core.specs.declared.types.Bound.{Bound}
use Rattle.rx_typed.specs.declared.declarations.Decl.{Decl}
use Rattle.rx_lower.specs.Functions.{function}
use Rattle.rx_typeck_typed.specs.declared.typed.Typed.{Typed}
use Rattle.rx_typeck_typed.specs.declared.typed.TypedFn.{TypedFn}
use Rattle.rx_facts.specs.Functions.{sites_of}
use Rattle.rx_lower_walks.specs.declared.site.Site.{Site as CodeSite}
use Rattle.rx_lower_walks.specs.PlainSite.{plain-Site}
use Rattle.rx_lower_lifetimes.specs.declared.whole.Graph.{Graph}
use Rattle.rx_lower_lifetimes.specs.Answer.{plain-Lifetimes, IsLowered}
use Rattle.rx_facts_tables.specs.declared.table.LiveTable.{LiveTable}
use Rattle.rx_facts_tables.specs.LiveTables.{Lives}
use Rattle.rx_region_outlives.specs.Implied.{AreImplied, pairs_of}
use Rattle.rx_check.specs.Contexts.{AreAsked}
use Rattle.rx_repair.specs.Lacking.{AreMissing, Lacks}
use Rattle.rx_repair.proofs.Alike.{lacks_by, of_graph, lives_there}

pub lacks_told : (t u : Typed) → t ≡ u → (f : TypedFn) (G : Graph) (sites : List CodeSite) (live : LiveTable) (table : List (List Bound)) (bs : List Bound)
    → IsLowered (function u.decls.items f) f.mutable G → sites ≡ G.sites → Lives (sites_of f) live → AreImplied t.decls.items table
    → (Lives (map plain-Site sites) live → AreMissing (record { items = t.decls.items; implied = pairs_of table; lifetimes = plain-Lifetimes G.lifetimes }) (map plain-Site sites) bs)
    → Lacks u.decls.items f bs
lacks_told t u same f G sites live table bs low there lives implied answer =
    let D = u.decls.items in let P = pairs_of table in
    let asked : AreAsked D P = subst (λ (x : Typed). AreAsked x.decls.items P) same implied.each in
    lacks_by D P asked f bs (of_graph D P f G sites bs low there
    (subst (λ (x : Typed). AreMissing (record { items = x.decls.items; implied = P; lifetimes = plain-Lifetimes G.lifetimes }) (map plain-Site sites) bs) same
    (answer (lives_there D f G sites live low there lives))))
