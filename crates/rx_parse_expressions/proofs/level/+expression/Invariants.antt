use Rattle.rx_parse_expressions.proofs.level.+expression.Given as goal

abbrev pub decreases-expression : goal.decreases-expression
decreases-expression l = l.depth
