use Rattle.std.proofs.Common.{option_map, ap, sym, ◌∙◌}
use Rattle.rx_typed.specs.PlainTree.{plain-Pattern, plain-Expr}
use Rattle.rx_machine_values.specs.PlainMemory.{plain-Memory}
use Rattle.rx_machine_driver.specs.PlainSteps.{arms_in}
use Rattle.rx_machine_driver.specs.Binding.{arm_of}
use Rattle.rx_machine_driver.proofs.BindLemmas.{tries_arm, tries_none}
use Rattle.rx_machine_driver.proofs.data.Machine.tries.Goals as goal

pub returns-in_ok-step-in-Some : goal.returns-in_ok-step-in-Some
returns-in_ok-step-in-Some c =
    tries_arm c.args.self.now c.takes_arm.new.self c.args.subject (arms_in c.args.arms.now) c.in-Some.arm.now c.in_ok-step-in-Some.step
    (sym (ap (option_map (λ a. (plain-Pattern a.now.pattern, plain-Expr a.now.body))) c.in-Some.is) ∙ c.first_arm.ensures ∙ ap (λ o. arm_of (plain-Memory c.args.self.now.memory) o (arms_in c.args.arms.now)) c.part_of.ensures) c.in_ok-step-in-Some.ensures

pub returns-in-None : goal.returns-in-None
returns-in-None c =
    tries_none c.args.self.now c.args.subject (arms_in c.args.arms.now)
    (sym (ap (option_map (λ a. (plain-Pattern a.now.pattern, plain-Expr a.now.body))) c.in-None.is) ∙ c.first_arm.ensures ∙ ap (λ o. arm_of (plain-Memory c.args.self.now.memory) o (arms_in c.args.arms.now)) c.part_of.ensures)
