use Rattle.std.proofs.Common.{ℕ, Bool, ◌+◌, ◌∷◌, [], drop, get_or}
use Rattle.rx_exits_plan.specs.Occurrences.{has_number, those}
use Rattle.rx_exits_occurrences.specs.Wanted.{is_wanted}
use Rattle.rx_exits_occurrences.proofs.NamingLemmas.{those_more, turned_at}
use Rattle.rx_exits_occurrences.proofs.naming.all_wanted.Goals as goal

pub loop-i-preserved : goal.loop-i-preserved
loop-i-preserved c =
    let f : ℕ → Bool = λ x. is_wanted c.args.wanted (has_number x c.args.others.now.keys) in
    let x = get_or c.args.numbers.now c.loop-i.i 0 in
    turned_at (those f) c.args.numbers.now c.loop-i.i 0 _ _ (those f (x ∷ [])) _ c.loop-i-test.true (those_more f x (drop (c.loop-i.i + 1) c.args.numbers.now)) c.in_ok-push_wanted.ensures
    c.loop-i.invariant
