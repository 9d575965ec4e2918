use Rattle.std.proofs.Common.{[], refl, subst}
use Rattle.rx_typed.specs.PlainTree.{plain-Pattern}
use Rattle.rx_lower_walks.specs.Matching.{bindings}
use Rattle.rx_machine_frames.specs.Choosing.{bind_all}
use Rattle.rx_machine_driver.specs.Running.{Changes}
use Rattle.rx_machine_driver.specs.PlainSteps.{plain-Subject, held_of}
use Rattle.rx_machine_driver.proofs.data.Machine.takes_arm.Goals as goal

pub returns-then-done : goal.returns-then-done
returns-then-done c = (subst (λ d. Changes (λ s. bind_all (plain-Subject c.args.subject) (held_of c.args.subject) (bindings [] (plain-Pattern c.args.arm.now.pattern)) s) c.args.self.now c.bind_subject.new.self d) c.if-done.true c.in_ok-done.ensures, refl)

pub returns-else-done : goal.returns-else-done
returns-else-done c = (subst (λ d. Changes (λ s. bind_all (plain-Subject c.args.subject) (held_of c.args.subject) (bindings [] (plain-Pattern c.args.arm.now.pattern)) s) c.args.self.now c.bind_subject.new.self d) c.if-done.false c.in_ok-done.ensures, refl)
