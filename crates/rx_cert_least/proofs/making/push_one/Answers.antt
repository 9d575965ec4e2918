use Rattle.std.proofs.Common.{List, ◌≤◌, length, map, ap, sym, ◌∙◌, subst}
use Rattle.rx_lower_walks.specs.Graph as graph
use Rattle.rx_lower_walks.specs.PlainSite.{plain-Site}
use Rattle.rx_lower_walks.specs.declared.site.Site.{Site}
use Rattle.rx_region_outlives.specs.Implied.{pairs_of}
use Rattle.rx_facts_tables.specs.LiveTables.{Lives}
use Rattle.rx_cert.proofs.Shaping.{few_sites}
use Rattle.rx_cert_least.proofs.Adding.{one_added}
use Rattle.rx_cert_least.proofs.making.push_one.Goals as goal

pub shape-requires : goal.shape-requires
shape-requires c = few_sites c.args.decls.now.items c.args.function.now c.args.lowered.now c.requires.graph

pub least-requires-clause-few : goal.least-requires-clause-few
least-requires-clause-few c = subst (λ (l : List Site). length l ≤ 16384) (sym c.as_slice-sites.ensures)
    (few_sites c.args.decls.now.items c.args.function.now c.args.lowered.now c.requires.graph)

pub returns : goal.returns
returns c =
    let D = c.args.decls.now.items in let P = pairs_of c.args.implied.now.items in let f = c.args.function.now in
    let lives = subst (λ (g : List graph.Site). Lives g c.args.facts.now.live)
    (sym (ap (λ (l : List Site). map plain-Site l) c.as_slice-sites.ensures ∙ c.requires.graph.sites)) c.requires.live in
    let pushed = c.in_ok-push_sets.ensures in (
      pushed.0,
      one_added D P f f.mutable c.args.lowered.now.graph c.requires.graph c.in_ok-shape.shape (c.in_ok-shape.ensures D c.requires.graph)
          c.as_slice-sites.result.now c.as_slice-sites.ensures c.in_ok-found.found.0 c.in_ok-found.found.1 (c.in_ok-found.ensures lives) pushed.0 pushed.1,
      pushed.2,
    )
