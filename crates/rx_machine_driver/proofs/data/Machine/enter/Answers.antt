use Rattle.std.proofs.Common.{[], ◌∷◌, ◌++◌, map, reverse, refl, sym, ap, subst, ◌∙◌}
use Rattle.rx_typed.specs.PlainTree.{plain-Param, plain-TypedTree}
use Rattle.rx_machine_values.specs.PlainValues.{plain-Value}
use Rattle.rx_machine_frames.specs.Choosing.{fill_all}
use Rattle.rx_machine_driver.specs.declared.next.Next.TheVariants as next
use Rattle.rx_machine_driver.specs.declared.data.Frame.TheVariants as frame
use Rattle.rx_machine_driver.specs.Running.{Changes}
use Rattle.rx_machine_driver.proofs.FrameLemmas.{enters_done, enters_wrong}
use Rattle.rx_machine_driver.proofs.data.Machine.enter.Goals as goal

pub returns-then-done : goal.returns-then-done
returns-then-done c =
    enters_done c.args.self.now c.fill.new.self (plain-TypedTree c.args.callee.now) (map plain-Value c.args.arguments) c.replace-slots.new.dest c.push.new.self (next.GoesInto _) (ap (λ S. S.table.items) c.replace-slots.ensures.after ∙ c.new.ensures) (c.in_ok-push.ensures.ok ∙ ap (λ S. c.args.self.now.frames ++ frame.Call S ∷ []) c.replace-slots.ensures.value)
    (subst (λ d. Changes (λ s. fill_all (map plain-Param c.args.callee.now.params) (map plain-Value c.args.arguments) s) (record c.args.self.now { slots = c.replace-slots.new.dest; frames = c.push.new.self }) c.fill.new.self d) c.if-done.true
    (subst (λ vs. Changes (λ s. fill_all (map plain-Param c.args.callee.now.params) vs s) (record c.args.self.now { slots = c.replace-slots.new.dest; frames = c.push.new.self }) c.fill.new.self c.in_ok-done.done) (sym c.turned.ensures)
    (subst (λ ps. Changes (λ s. fill_all (map plain-Param ps) (reverse (map plain-Value c.turned.result)) s) (record c.args.self.now { slots = c.replace-slots.new.dest; frames = c.push.new.self }) c.fill.new.self c.in_ok-done.done) c.as_slice.ensures
    c.in_ok-done.ensures))) refl

pub returns-else-done : goal.returns-else-done
returns-else-done c =
    enters_wrong c.args.self.now c.fill.new.self (plain-TypedTree c.args.callee.now) (map plain-Value c.args.arguments) c.replace-slots.new.dest c.push.new.self (ap (λ S. S.table.items) c.replace-slots.ensures.after ∙ c.new.ensures) (c.in_ok-push.ensures.ok ∙ ap (λ S. c.args.self.now.frames ++ frame.Call S ∷ []) c.replace-slots.ensures.value)
    (subst (λ d. Changes (λ s. fill_all (map plain-Param c.args.callee.now.params) (map plain-Value c.args.arguments) s) (record c.args.self.now { slots = c.replace-slots.new.dest; frames = c.push.new.self }) c.fill.new.self d) c.if-done.false
    (subst (λ vs. Changes (λ s. fill_all (map plain-Param c.args.callee.now.params) vs s) (record c.args.self.now { slots = c.replace-slots.new.dest; frames = c.push.new.self }) c.fill.new.self c.in_ok-done.done) (sym c.turned.ensures)
    (subst (λ ps. Changes (λ s. fill_all (map plain-Param ps) (reverse (map plain-Value c.turned.result)) s) (record c.args.self.now { slots = c.replace-slots.new.dest; frames = c.push.new.self }) c.fill.new.self c.in_ok-done.done) c.as_slice.ensures
    c.in_ok-done.ensures)))
