use Rattle.std.proofs.Common.{◌+◌, map, option_map, drop, Some, ap, sym, ◌∙◌, arith}
use Rattle.rx_typed.specs.PlainTree.{plain-Pattern, plain-Subpattern, subpatterns_of}
use Rattle.rx_machine_values.specs.PlainValues.{plain-Part}
use Rattle.rx_machine_values.specs.PlainMemory.{plain-Memory}
use Rattle.rx_machine_frames.specs.Choosing.{both}
use Rattle.rx_core.specs.declared.types.Step.TheVariants.{Variant}
use Rattle.rx_machine_actions.specs.Matching as spec
use Rattle.rx_machine_actions.proofs.MatchLemmas.{parts_at}
use Rattle.rx_machine_actions.proofs.matching.+matches.Goals as goal

pub part_holds-returns : goal.part_holds-returns
part_holds-returns t c = c.holds.ensures ∙ ap (λ o. spec.holds (plain-Memory c.args.memory.now) o (plain-Pattern c.args.part.now.pattern)) (c.in_field.ensures (plain-Memory c.args.memory.now))

pub variant_holds-returns-in-Some-true : goal.variant_holds-returns-in-Some-true
variant_holds-returns-in-Some-true t c =
    c.parts_hold.ensures ∙ ap (λ o. spec.all_parts_hold (plain-Memory c.args.memory.now) o (subpatterns_of (map plain-Subpattern c.args.parts.now))) (c.in_variant.ensures (plain-Memory c.args.memory.now))
    ∙ ap (λ o. both o (spec.all_parts_hold (plain-Memory c.args.memory.now) (spec.deeper (plain-Memory c.args.memory.now) (option_map plain-Part c.args.at) (Variant c.args.variant)) (subpatterns_of (map plain-Subpattern c.args.parts.now))))
    (ap Some (sym c.in-Some-true.field-0-test) ∙ sym c.in-Some-true.is ∙ c.is_variant.ensures)

pub parts_hold-returns-in-Some-false : goal.parts_hold-returns-in-Some-false
parts_hold-returns-in-Some-false t c =
    ap (λ b. both b (spec.all_parts_hold (plain-Memory c.args.memory.now) (option_map plain-Part c.args.at) (subpatterns_of (map plain-Subpattern (drop (c.loop-part.part-index + 1) c.args.parts.now))))) (ap Some (sym c.in-Some-false.field-0-test) ∙ sym c.in-Some-false.is)
    ∙ parts_at (plain-Memory c.args.memory.now) (option_map plain-Part c.args.at) c.args.parts.now c.loop-part.part-index c.part-item.result c.part_holds.result
    (let e = c.loop-part-test.true in omega (arith, e)) c.part-item.is c.part_holds.ensures c.loop-part.invariant

pub parts_hold-returns-in-None : goal.parts_hold-returns-in-None
parts_hold-returns-in-None t c =
    ap (λ b. both b (spec.all_parts_hold (plain-Memory c.args.memory.now) (option_map plain-Part c.args.at) (subpatterns_of (map plain-Subpattern (drop (c.loop-part.part-index + 1) c.args.parts.now))))) (sym c.in-None.is)
    ∙ parts_at (plain-Memory c.args.memory.now) (option_map plain-Part c.args.at) c.args.parts.now c.loop-part.part-index c.part-item.result c.part_holds.result
    (let e = c.loop-part-test.true in omega (arith, e)) c.part-item.is c.part_holds.ensures c.loop-part.invariant

pub parts_hold-loop-part-preserved : goal.parts_hold-loop-part-preserved
parts_hold-loop-part-preserved t c =
    ap (λ b. both b (spec.all_parts_hold (plain-Memory c.args.memory.now) (option_map plain-Part c.args.at) (subpatterns_of (map plain-Subpattern (drop (c.loop-part.part-index + 1) c.args.parts.now))))) (ap Some (sym c.in-Some-true.field-0-test) ∙ sym c.in-Some-true.is)
    ∙ parts_at (plain-Memory c.args.memory.now) (option_map plain-Part c.args.at) c.args.parts.now c.loop-part.part-index c.part-item.result c.part_holds.result
    (let e = c.loop-part-test.true in omega (arith, e)) c.part-item.is c.part_holds.ensures c.loop-part.invariant
