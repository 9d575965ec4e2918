use Rattle.std.proofs.Common.{◌+◌, [], ◌∷◌, ◌++◌, map, drop, ap, subst, ◌∙◌, arith}
use Rattle.rx_core.specs.declared.types.Step.TheVariants.{Field}
use Rattle.rx_lower_walks.specs.Matching.{bindings, bindings_in}
use Rattle.rx_typed.specs.PlainTree.{plain-Mode, plain-Pattern, plain-Subpattern, subpatterns_of, pattern_bind}
use Rattle.rx_machine_frames.specs.Choosing.{bind_all}
use Rattle.rx_machine_driver.specs.PlainSteps.{plain-Subject, held_of}
use Rattle.rx_machine_driver.specs.Running.{Changes}
use Rattle.rx_machine_driver.proofs.BindLemmas.{changes_bindings, binds_on, binds_wrong, binds_end, parts_next, drop_end}
use Rattle.rx_machine_driver.proofs.data.Machine.+binds.Goals as goal

pub bind_parts-returns-then-not-done : goal.bind_parts-returns-then-not-done
bind_parts-returns-then-not-done t c =
    binds_wrong (plain-Subject c.args.subject.now) (held_of c.args.subject.now) (bindings_in c.args.path.now (subpatterns_of (map plain-Subpattern c.args.parts.now))) (bindings (c.args.path.now ++ Field c.part-item.result.field ∷ []) (plain-Pattern c.part-item.result.pattern)) (bindings_in c.args.path.now (subpatterns_of (map plain-Subpattern (drop (c.loop-part.part-index + 1) c.args.parts.now))))
    (bindings_in c.args.path.now (subpatterns_of (map plain-Subpattern (drop c.loop-part.part-index c.args.parts.now)))) c.args.self.now c.loop-part.self c.bind_part.new.self
    (parts_next c.args.path.now c.args.parts.now c.loop-part.part-index c.part-item.result (let e = c.loop-part-test.true in omega (arith, e)) c.part-item.is) c.loop-part.invariant (subst (λ d. Changes (λ s. bind_all (plain-Subject c.args.subject.now) (held_of c.args.subject.now) (bindings (c.args.path.now ++ Field c.part-item.result.field ∷ []) (plain-Pattern c.part-item.result.pattern)) s) c.loop-part.self c.bind_part.new.self d) c.if-not-done.true c.in_ok-done.ensures)

pub bind_parts-loop-part-preserved : goal.bind_parts-loop-part-preserved
bind_parts-loop-part-preserved t c =
    binds_on (plain-Subject c.args.subject.now) (held_of c.args.subject.now) (bindings_in c.args.path.now (subpatterns_of (map plain-Subpattern c.args.parts.now))) (bindings (c.args.path.now ++ Field c.part-item.result.field ∷ []) (plain-Pattern c.part-item.result.pattern)) (bindings_in c.args.path.now (subpatterns_of (map plain-Subpattern (drop (c.loop-part.part-index + 1) c.args.parts.now))))
    (bindings_in c.args.path.now (subpatterns_of (map plain-Subpattern (drop c.loop-part.part-index c.args.parts.now)))) c.args.self.now c.loop-part.self c.bind_part.new.self
    (parts_next c.args.path.now c.args.parts.now c.loop-part.part-index c.part-item.result (let e = c.loop-part-test.true in omega (arith, e)) c.part-item.is) c.loop-part.invariant (subst (λ d. Changes (λ s. bind_all (plain-Subject c.args.subject.now) (held_of c.args.subject.now) (bindings (c.args.path.now ++ Field c.part-item.result.field ∷ []) (plain-Pattern c.part-item.result.pattern)) s) c.loop-part.self c.bind_part.new.self d) c.if-not-done.false c.in_ok-done.ensures)

pub bind_parts-returns : goal.bind_parts-returns
bind_parts-returns t c =
    binds_end (plain-Subject c.args.subject.now) (held_of c.args.subject.now) (bindings_in c.args.path.now (subpatterns_of (map plain-Subpattern c.args.parts.now))) (bindings_in c.args.path.now (subpatterns_of (map plain-Subpattern (drop c.loop-part.part-index c.args.parts.now)))) c.args.self.now c.loop-part.self
    (ap (λ l. bindings_in c.args.path.now (subpatterns_of (map plain-Subpattern l))) (drop_end c.args.parts.now c.loop-part.part-index (let e = c.loop-part-test.false in omega (arith, e)))) c.loop-part.invariant

pub bind_pattern-returns-in_ok-done-in-Bind : goal.bind_pattern-returns-in_ok-done-in-Bind
bind_pattern-returns-in_ok-done-in-Bind t c =
    changes_bindings (plain-Subject c.args.subject.now) (held_of c.args.subject.now) c.args.self.now c.bind_one.new.self c.in_ok-done-in-Bind.done (bindings c.args.path.now (plain-Pattern c.args.pattern.now))
    (record { node = c.in-Bind.field-0; variable = c.in-Bind.variable; steps = c.args.path.now; mode = plain-Mode c.in-Bind.mode } ∷ [])
    (ap (bindings c.args.path.now) (ap plain-Pattern c.in-Bind.is ∙ pattern_bind c.in-Bind.field-0 c.in-Bind.variable c.in-Bind.mode)) (c.in_ok-done-in-Bind.ensures c.in-Bind.field-0)
