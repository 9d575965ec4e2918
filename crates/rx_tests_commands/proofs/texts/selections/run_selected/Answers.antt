-- The tokens and the program of a text belong to it.
use Rattle.std.proofs.Common.{sym, arith}
use Rattle.rx_tests_commands.proofs.texts.selections.run_selected.Goals as goal

pub select-found-requires : goal.select-found-requires
select-found-requires c = record {
  one_text = record {
    text = c.args.text.now;
    lexed = c.in_ok-tokens.ensures.tokens;
    parsed = c.in_ok-program.ensures.found;
    long = sym c.in_ok-tokens.ensures.length;
  };
  short = omega (arith, c.if-tokens-le1048576.true);
}
