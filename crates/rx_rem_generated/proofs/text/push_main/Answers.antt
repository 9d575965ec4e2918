-- Its head, its calls and its end.
use Rattle.std.specs.Prelude.{codes}
use Rattle.rx_rem_generated.specs.Generated.{calls}
use Rattle.rx_rem_generated.proofs.Growth.{in_parts}
use Rattle.rx_rem_generated.proofs.text.push_main.Goals as goal

pub returns : goal.returns
returns c =
    in_parts c.args.text.now (codes "fn main() {\n    let mut t = 0i64;\n") (calls c.args.count) (codes "    println!(\"{}\", t);\n}\n")
    c.push.new.self c.push_calls.new.text c.push-2.new.self c.in_ok-push.ensures.ok c.in_ok-push_calls.ensures c.in_ok-push-2.ensures.ok
