use Rattle.std.proofs.Common.{List, ℕ, ◌<◌, length, map, subst, sym, ap, ◌∙◌, arith}
use Rattle.std.proofs.lemmas.List.{length-map}
use Rattle.rx_tree.specs.PlainOf.{plain-Item}
use Rattle.rx_graph_cycles.specs.Reaches.{FirstOnCycle}
use Rattle.rx_typed_declarations.specs.Held.{held_by_each}
use Rattle.rx_typed_declarations.specs.Sizes.{told}
use Rattle.rx_typed.specs.PlainTypes.{declarations, plain-Decl}
use Rattle.rx_typeck_typed.specs.Limits.{all_fit}
use Rattle.rx_typeck_typed.proofs.LimitLemmas.{finite_limits}
use Rattle.rx_typeck_typed.proofs.limits.within_limits.Goals as goal

pub returns-in-Ok : goal.returns-in-Ok
returns-in-Ok c =
    let p = map plain-Item c.args.items.now in
    let D = declarations c.args.decls.now.items in
    let ds = c.args.decls.now.items in
    let few : length ds < 4294967296 = omega (arith, c.if-len-gt4294967295.false, c.len.ensures) in
    let small : length D < 4294967296 = subst (λ (n : ℕ). n < 4294967296) (sym (length-map ds plain-Decl)) few in
    finite_limits p D c.in-Ok.sizes c.all_fit.result small
    (subst (FirstOnCycle (held_by_each D)) c.in-Ok-None.field-0-is c.in-Ok-None.ensures) c.in-Ok.ensures
    (c.all_fit.ensures ∙ ap (λ (s : List ℕ). all_fit (told s) D 0 p) c.as_slice.ensures)
