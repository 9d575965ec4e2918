use Rattle.std.proofs.Common.{sym, ap, refl, ◌∙◌}
use Rattle.rx_core.specs.declared.types.Step.TheVariants as step
use Rattle.rx_typed.specs.PlainTypes.{declarations}
use Rattle.rx_typed_declarations.specs.Sizes.{told}
use Rattle.rx_facts_tables.specs.Layouts.{plain-Located}
use Rattle.rx_facts_tables.proofs.Walking.{Stepped, to_field, to_variant}
use Rattle.rx_facts_tables.proofs.places.located.Goals as goal
use Rattle.rx_facts_tables.proofs.places.located.Goals.{in-Field, in-Variant}

abbrev Taken : (c : goal.Joined-step) → Type 0
Taken c = Stepped (declarations c.args.frame.now.decls.now.items) (told c.args.frame.now.sizes.now) c.args.steps.now c.loop-step.step-index (plain-Located c.loop-step.at) (plain-Located c.match-step.at)

taken : (c : goal.Joined-step) → Taken c
taken c = elim c.match-step.branch [
  | in-Field w ↦ to_field (declarations c.args.frame.now.decls.now.items) (told c.args.frame.now.sizes.now) c.requires.sized c.args.steps.now c.loop-step.step-index c.loop-step-test.true
      (step.Field w.in-Field.number) (step.Field 0) (sym w.in-Field.is) (plain-Located c.loop-step.at) (plain-Located c.match-step.at) w.in-Field.number refl
      (ap plain-Located w.at-is ∙ w.field_of-at.ensures)
  | in-Variant w ↦ to_variant (declarations c.args.frame.now.decls.now.items) (told c.args.frame.now.sizes.now) c.requires.sized c.args.steps.now c.loop-step.step-index c.loop-step-test.true
      (step.Variant w.in-Variant.number) (step.Field 0) (sym w.in-Variant.is) (plain-Located c.loop-step.at) (plain-Located c.match-step.at) w.in-Variant.number refl
      (ap plain-Located w.at-is ∙ w.variant_of-at.ensures)
]

pub loop-step-preserved : goal.loop-step-preserved
loop-step-preserved c = record { same = (taken c).same ∙ c.loop-step.invariant.same; fits = (taken c).fits c.loop-step.invariant.fits }
