use Rattle.std.proofs.Common.{rules, ◌≡◌, ℕ, List, map, min, length, Bor}
use Rattle.rx_hoist_naming.proofs.Params.{params_ended}
use Rattle.rx_hoist_naming.proofs.NamingSteps.{all_made}
use Rattle.rx_hoist_naming.proofs.variables.params.Goals as goal

pub returns : goal.returns
returns c =
    let names = map {A = Bor (List ℕ)} {B = List ℕ} (λ x. x.now) c.args.names.now in
    let first : c.min.result ≡ min (length c.args.numbers.now) (length c.args.modes.now) = search rules in
    let count : c.min-count.result ≡ min c.min.result (length c.args.moved.now) = search rules in
    let done = params_ended names c.args.function.now c.args.numbers.now c.args.modes.now c.args.moved.now c.loop-i.i c.min.result c.min-count.result first count c.loop-i-test.false in
    all_made _ _ _ done c.loop-i.invariant
