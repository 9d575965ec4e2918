use Rattle.std.proofs.Common.{length, sym, subst}
use Rattle.rx_graph_bits.specs.Rows.{words}
use Rattle.rx_graph.specs.Tables.{Regular}
use Rattle.rx_tests_passes.proofs.closure.closing.fill.Goals as goal

pub close-requires : goal.close-requires
close-requires c =
    let w = words c.args.bound in
    let h = c.put_diagonal.ensures w (subst (λ m. Regular m w c.args.rows.now) (sym c.requires.regular.count) c.requires.regular) in
    subst (λ m. Regular m w c.put_diagonal.new.rows) (sym h.regular.count) h.regular
