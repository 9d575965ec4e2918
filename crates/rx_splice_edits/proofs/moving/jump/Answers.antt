use Rattle.rx_hoist_plan.specs.PlainPlan.{plain-Exit, plain-Plan}
use Rattle.rx_hoist_extraction.specs.Plan.{enum_name, exit_name}
use Rattle.rx_splice_edits.proofs.Words.{names_in, jump_written}
use Rattle.rx_splice_edits.proofs.moving.jump.Goals as goal

pub returns : goal.returns
returns c =
    jump_written c.in_ok-text.text c.push_variant.new.out c.push_values.new.out (enum_name (plain-Plan c.args.plan.now)) (exit_name (plain-Exit c.args.exit))
    (names_in c.args.outs.now) c.in_ok-text.ensures c.in_ok-push_variant.ensures c.in_ok-push_values.ensures
