use Rattle.std.proofs.Common.{map, sym, ap, ◌∙◌}
use Rattle.rx_exits_plan.specs.Runs.{last_value}
use Rattle.rx_exits_plan.specs.PlainPlan.{plain-Run}
use Rattle.rx_exits_plan.specs.Exits as plan
use Rattle.rx_exits_plan.specs.PlainSyntax.{plain-Home, plain-Jump}
use Rattle.rx_exits.proofs.FactsLemmas.{at_asked, exits_found}
use Rattle.rx_exits.proofs.reaching.hindrance_of.Goals as goal

pub returns : goal.returns
returns c A K =
    let R = plain-Run c.args.run in
    let H = plain-Home c.args.home.now in
    let jumps = c.in_ok-jumps.ensures ∙ at_asked plan.jumps A R H K.run K.home in
    c.hindrance.ensures A K.points (record {
      value = sym (c.last_value.ensures ∙ at_asked (λ x y. last_value x y.body) A R H K.run K.home);
      exits = sym (exits_found A R H c.as_slice.result.now c.in_ok-jumps.jumps c.exits-exits.result c.in_ok-exits.exits c.as_slice-2.result.now K.run K.home c.as_slice.ensures jumps c.in_ok-exits.ensures.0
          c.as_slice-2.ensures c.exits-exits.ensures);
      jumps = sym (ap (map plain-Jump) (c.as_slice-3.ensures ∙ c.in_ok-exits.ensures.1) ∙ jumps);
    })
