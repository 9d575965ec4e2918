use Rattle.std.proofs.Common.{refl, sym, ap, ◌∙◌, Some, map}
use Rattle.std.proofs.lemmas.Result.{IfOk-weaker}
use Rattle.rx_typeck_solver.specs.Facts.{made}
use Rattle.rx_typeck_solver.specs.Solver.{Fixed}
use Rattle.rx_typeck_solver.specs.Cells.{term}
use Rattle.rx_typed.specs.PlainTypes.{declarations}
use Rattle.rx_typeck_solver.proofs.Making.{made_new, made_equal, found_made, declared_at}
use Rattle.rx_typeck_solver.proofs.made.made.Goals as goal

pub returns-in-Integer : goal.returns-in-Integer
returns-in-Integer c = found_made _ _ c.fixed.result c.found-in-Integer.result c.found-in-Integer.ensures (λ i h ms e. made_equal c.args.sizes.now c.args.arena.now.entries.items c.fixed.new.self.entries.items (Some i) _ _ (made_new c.args.sizes.now c.args.arena.now.entries.items c.fixed.new.self.entries.items i _ _ c.requires.formed c.requires.sized (h c.args.sizes.now) refl)
    (ap (λ o. made Fixed (declarations c.args.items.now) o (map (term c.args.arena.now.entries.items) c.args.ts.now) ms) (sym c.in-Integer.is))) c.fixed.ensures

pub returns-in-Truth : goal.returns-in-Truth
returns-in-Truth c = found_made _ _ c.boolean.result c.found-in-Truth.result c.found-in-Truth.ensures (λ i h ms e. made_equal c.args.sizes.now c.args.arena.now.entries.items c.boolean.new.self.entries.items (Some i) _ _ (made_new c.args.sizes.now c.args.arena.now.entries.items c.boolean.new.self.entries.items i _ _ c.requires.formed c.requires.sized (h c.args.sizes.now) refl)
    (ap (λ o. made Fixed (declarations c.args.items.now) o (map (term c.args.arena.now.entries.items) c.args.ts.now) ms) (sym c.in-Truth.is))) c.boolean.ensures

pub returns-in-Item : goal.returns-in-Item
returns-in-Item c = found_made _ _ c.named.result c.found-in-Item.result c.found-in-Item.ensures (λ i h ms e. made_equal c.args.sizes.now c.args.arena.now.entries.items c.named.new.self.entries.items (Some i) _ _ (made_new c.args.sizes.now c.args.arena.now.entries.items c.named.new.self.entries.items i _ _ c.requires.formed c.requires.sized h refl)
    (ap (λ o. made Fixed (declarations c.args.items.now) o (map (term c.args.arena.now.entries.items) c.args.ts.now) ms) (sym c.in-Item.is))) c.named.ensures

pub returns-in-Parameter : goal.returns-in-Parameter
returns-in-Parameter c = IfOk-weaker c.declared-in-Parameter.result _ _ (λ o h ms e. made_equal c.args.sizes.now c.args.arena.now.entries.items c.declared-in-Parameter.new.arena.entries.items o _ _ h
    (declared_at _ c.parameters_of.result.now c.in-Parameter.number _ c.parameters_of.ensures c.ty_at.ensures
    ∙ ap (λ o. made Fixed (declarations c.args.items.now) o (map (term c.args.arena.now.entries.items) c.args.ts.now) ms) (sym c.in-Parameter.is))) c.declared-in-Parameter.ensures

pub returns-in-PartOf : goal.returns-in-PartOf
returns-in-PartOf c = IfOk-weaker c.declared-in-PartOf.result _ _ (λ o h ms e. made_equal c.args.sizes.now c.args.arena.now.entries.items c.declared-in-PartOf.new.arena.entries.items o _ _ h
    (declared_at _ c.parts_of.result.now c.in-PartOf.number _ c.parts_of.ensures c.ty_at-in-PartOf.ensures
    ∙ ap (λ o. made Fixed (declarations c.args.items.now) o (map (term c.args.arena.now.entries.items) c.args.ts.now) ms) (sym c.in-PartOf.is))) c.declared-in-PartOf.ensures
