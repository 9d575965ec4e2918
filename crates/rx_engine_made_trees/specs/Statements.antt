-- Statements of a tree with numbers, as they stand in the typed tree in front of others (Rust Reference, "Statements").
use Rattle.std.specs.Prelude.{ℕ, Bool, List, [], ◌∷◌, Option, None}
use Rattle.rx_typed.specs.declared.nodes.Node.{Node}
use Rattle.rx_typed.specs.Named as named
use Rattle.rx_typed.specs.Named.{Statement, Statements, Written}
use Rattle.rx_typed.specs.Tree.{Body}
use Rattle.rx_typed.specs.Elaborated.{Assigned, matched, pattern, statement, value, variables}
use Rattle.rx_engine_simulation.specs.Blocks.{declares_then, does_then, done, lets_then, Stretch}

abbrev pub around : Assigned → Statements → Body → Body
around T named.no_statement b = b
around T (named.statement_and a ss) b = statement T a (around T ss b)

-- as a stretch (rx_engine_simulation)
abbrev pub stretch_with : Assigned → Statement → Stretch → Stretch
stretch_with T (named.declares n p t) r = declares_then n.number (variables p) r
stretch_with T (named.lets n p t e) r = lets_then n.number (pattern T None p) (matched T e (value T e)) r
stretch_with T (named.evaluates n e s) r = does_then (value T e) r

abbrev pub stretch : Assigned → Statements → Stretch
stretch T named.no_statement = done
stretch T (named.statement_and a ss) = stretch_with T a (stretch T ss)

-- variables without a value, by their statements' nodes, in front of others
pub data BeginsWith : List (ℕ × ℕ) → Statements → Statements → Type 0 where
  begins_here : {ss : Statements} → BeginsWith [] ss ss
  begins_and : {n p : Node} {y : ℕ} {m : Bool} {t : Option Written} {ls : List (ℕ × ℕ)} {rest ss : Statements} → BeginsWith ls rest ss → BeginsWith ((n.number, y) ∷ ls) rest (named.statement_and (named.declares n (named.bind p y m) t) ss)

-- statements and others behind them
pub data Behind : Statements → Statements → Statements → Type 0 where
  nothing_first : {ss : Statements} → Behind named.no_statement ss ss
  one_first : {a : Statement} {ss ts all : Statements} → Behind ss ts all → Behind (named.statement_and a ss) ts (named.statement_and a all)
