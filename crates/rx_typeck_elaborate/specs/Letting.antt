-- The pattern of a `let` and its initialiser, behind which the variables of the pattern are known.
use Rattle.std.specs.Prelude.{Option}
use Rattle.rx_tree.specs.Plain.{TypeTree, PatternTree, Expression}
use Rattle.rx_typed.specs.Named as named
use Rattle.rx_typed.specs.Naming.{Numbering, and_then, give, counted, known_between, of_pattern}
use Rattle.rx_typeck_elaborate_parts.specs.declared.seen.Seen.{Seen}
use Rattle.rx_typeck_elaborate_parts.specs.Seeing.{seen_of}
use Rattle.rx_typeck_elaborate_parts.specs.declared.patterns.Declares.{Declares}
use Rattle.rx_typeck_elaborate_parts.specs.Declaring.{declares_of}
use Rattle.rx_typeck_elaborate_parts.specs.Telling.{an_initialiser}

abbrev pub a_let : PatternTree → Option TypeTree → Expression → Numbering (named.Pattern × named.Exp)
a_let p y e = and_then counted (λ i. and_then (of_pattern p) (λ p. and_then counted (λ j.
    and_then (an_initialiser y e) (λ e. and_then (known_between i j) (λ _. give (p, e))))))

abbrev pub told_of_let : named.Pattern × named.Exp → Seen × Declares
told_of_let w = (seen_of w.1, declares_of w.0)
