use Rattle.std.proofs.Common.{◌+◌, List, map, take, drop, ap, sym, ◌∙◌, subst, arith}
use Rattle.rx_lower_walks.specs.Graph as graph
use Rattle.rx_lower_walks.specs.PlainSite.{plain-Site}
use Rattle.rx_lower_walks.specs.declared.site.Site.{Site}
use Rattle.rx_facts_tables.specs.LiveTables.{Lives}
use Rattle.rx_region_outlives.specs.Implied.{pairs_of}
use Rattle.rx_cert_tables.specs.declared.shape.Shape.{Shape}
use Rattle.rx_cert_tables.specs.Fitting.{count}
use Rattle.rx_cert.specs.Shapes.{shape_of}
use Rattle.rx_cert.proofs.Places.{fit_within}
use Rattle.rx_cert.proofs.Judging.{judged_rows, wide_rows, numbered_too}
use Rattle.rx_cert.proofs.rules.rule_of.Goals as goal

pub part-sets-requires : goal.part-sets-requires
part-sets-requires c =
    let w = fit_within (shape_of c.args.decls.now.items c.args.function.now) c.args.lines.now c.requires.fit in
    omega (arith, w, ap (λ (s : Shape). count s) c.requires.shape)

pub part-loans-requires : goal.part-loans-requires
part-loans-requires c =
    let w = fit_within (shape_of c.args.decls.now.items c.args.function.now) c.args.lines.now c.requires.fit in
    omega (arith, w, ap (λ (s : Shape). count s) c.requires.shape, c.len.ensures)

pub first_broken-requires-clause-wide : goal.first_broken-requires-clause-wide
first_broken-requires-clause-wide c = wide_rows c.args.decls.now.items c.args.function.now c.args.function.now.mutable c.args.lowered.now.graph c.requires.graph
    c.args.shape.now c.requires.shape c.as_slice-sites.result.now c.as_slice-sites.ensures c.part-sets.result.now c.in_ok-regions.regions c.as_slice-region_rows.result.now
    c.in_ok-regions.ensures c.as_slice-region_rows.ensures

pub returns : goal.returns
returns c =
    let D = c.args.decls.now.items in let P = pairs_of c.args.implied.now.items in let f = c.args.function.now in
    let lives = subst (λ (g : List graph.Site). Lives g c.args.facts.now.live)
    (sym (ap (λ (l : List Site). map plain-Site l) c.as_slice-sites.ensures ∙ c.requires.graph.sites)) c.requires.live in
    judged_rows D P f f.mutable c.args.lowered.now.graph c.requires.graph c.args.shape.now c.requires.shape c.args.lines.now c.requires.fit
    c.part-sets.result.now c.part-loans.result.now c.part-sets.ensures
    (c.part-loans.ensures ∙ ap (λ k. take k (drop (1 + c.args.shape.now.lifetimes) c.args.lines.now)) c.len.ensures) c.as_slice-sites.result.now c.as_slice-sites.ensures
    c.in_ok-regions.regions c.as_slice-region_rows.result.now c.in_ok-scopes.scopes c.as_slice-scope_rows.result.now
    c.in_ok-regions.ensures c.as_slice-region_rows.ensures c.in_ok-scopes.ensures c.as_slice-scope_rows.ensures c.in_ok-found.found
    (c.in_ok-found.ensures lives (numbered_too D P f f.mutable c.args.lowered.now.graph c.requires.graph))
