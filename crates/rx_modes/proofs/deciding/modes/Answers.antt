use Rattle.std.proofs.Common.{◌∙◌, ap, refl, sym}
use Rattle.rx_typed.specs.PlainTypes.{declarations}
use Rattle.rx_typed_declarations.specs.Sizes.{told}
use Rattle.rx_lower.specs.Functions.{trimmed}
use Rattle.rx_exits_plan.specs.PlainPlan.{plan_of}
use Rattle.rx_exits.specs.AskedOf.{asked_of}
use Rattle.rx_exits_plan.specs.PlainSyntax.{plain-Home}
use Rattle.rx_modes.proofs.Answering.{answer_ok, answer_err}
use Rattle.rx_modes.proofs.Knowing.{known_told}
use Rattle.rx_modes.proofs.deciding.modes.Goals as goal

pub returns-clause-modes : goal.returns-clause-modes
returns-clause-modes g c =
    let A = asked_of (declarations c.args.decls.now.items) (told c.args.sizes.now) c.args.typed.now c.args.run (plain-Home c.args.home.now) in
    answer_ok A c.args.typed.now.mutable (plan_of A c.args.plan.now) (g.P.Policy.choice c.args.policy.now) c.modes_by.result
    (c.modes_by.ensures A c.args.typed.now.mutable
    (known_told (told c.args.sizes.now) c.args.typed.now c.args.run (plain-Home c.args.home.now) _ (c.trimmed.ensures ∙ ap trimmed c.as_slice-2.ensures) c.as_slice-3.ensures
    c.requires.plan c.in_ok-inside.inside.items c.in_ok-outside.outside.items c.in_ok-whole.whole.items c.as_slice.result.now
    c.as_slice-4.ensures.value c.as_slice-5.ensures.value c.as_slice-6.ensures.value c.as_slice.ensures
    c.in_ok-inside.ensures c.in_ok-outside.ensures c.in_ok-whole.ensures (c.in_ok-living.ensures.living A refl refl (sym c.as_slice-loops.ensures)) c.in_ok-entered.ensures)
    (c.as_slice-7.ensures ∙ c.in_ok-variables.ensures.all))

pub returns-clause-refused : goal.returns-clause-refused
returns-clause-refused g c =
    let A = asked_of (declarations c.args.decls.now.items) (told c.args.sizes.now) c.args.typed.now c.args.run (plain-Home c.args.home.now) in
    answer_err A c.args.typed.now.mutable (plan_of A c.args.plan.now) (g.P.Policy.choice c.args.policy.now) c.modes_by.result
    (c.modes_by.ensures A c.args.typed.now.mutable
    (known_told (told c.args.sizes.now) c.args.typed.now c.args.run (plain-Home c.args.home.now) _ (c.trimmed.ensures ∙ ap trimmed c.as_slice-2.ensures) c.as_slice-3.ensures
    c.requires.plan c.in_ok-inside.inside.items c.in_ok-outside.outside.items c.in_ok-whole.whole.items c.as_slice.result.now
    c.as_slice-4.ensures.value c.as_slice-5.ensures.value c.as_slice-6.ensures.value c.as_slice.ensures
    c.in_ok-inside.ensures c.in_ok-outside.ensures c.in_ok-whole.ensures (c.in_ok-living.ensures.living A refl refl (sym c.as_slice-loops.ensures)) c.in_ok-entered.ensures)
    (c.as_slice-7.ensures ∙ c.in_ok-variables.ensures.all))
