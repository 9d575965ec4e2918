use Rattle.std.proofs.Common.{[], refl, subst}
use Rattle.rx_typed.specs.PlainTree.{plain-Pattern}
use Rattle.rx_lower_walks.specs.Matching.{bindings}
use Rattle.rx_machine_frames.specs.Choosing.{bind_all}
use Rattle.rx_machine_driver.specs.Running.{Changes}
use Rattle.rx_machine_driver.specs.PlainSteps.{plain-Subject, held_of, rest_of}
use Rattle.rx_machine_driver.specs.declared.next.Next.TheVariants as next
use Rattle.rx_machine_driver.proofs.BindLemmas.{binds_next, binds_end_wrong}
use Rattle.rx_machine_driver.proofs.data.Machine.binds.Goals as goal

pub returns-then-done : goal.returns-then-done
returns-then-done c =
    binds_next c.args.self.now c.bind_subject.new.self c.args.subject (plain-Pattern c.args.pattern.now) (rest_of c.args.rest.now c.args.last.now) (next.RunsBody c.args.rest c.args.last)
    (subst (λ d. Changes (λ s. bind_all (plain-Subject c.args.subject) (held_of c.args.subject) (bindings [] (plain-Pattern c.args.pattern.now)) s) c.args.self.now c.bind_subject.new.self d) c.if-done.true c.in_ok-done.ensures) refl

pub returns-else-done : goal.returns-else-done
returns-else-done c =
    binds_end_wrong c.args.self.now c.bind_subject.new.self c.args.subject (plain-Pattern c.args.pattern.now) (rest_of c.args.rest.now c.args.last.now)
    (subst (λ d. Changes (λ s. bind_all (plain-Subject c.args.subject) (held_of c.args.subject) (bindings [] (plain-Pattern c.args.pattern.now)) s) c.args.self.now c.bind_subject.new.self d) c.if-done.false c.in_ok-done.ensures)
