-- One turn of the parser of arms, apart from what follows it.
use Rattle.std.specs.Prelude.{ℕ, max, Bool, true, false, List, [], ◌∷◌, ◌++◌, Ok}
use Rattle.rx_tree.specs.Plain.{Expression, PatternTree}
use Rattle.rx_parse_grammar.specs.declared.symbol.Symbol.TheVariants as symbol
use Rattle.rx_parse_grammar.specs.parser.Steps.{Parser, Got, ◌>>=◌, ◌>>◌, pure, next, expect}
use Rattle.rx_parse_grammar.specs.parser.Lists.{Items}
use Rattle.rx_parse_grammar.specs.parser.Patterns.{pattern}
use Rattle.rx_parse_grammar.specs.parser.Operators.{begins_like}
use Rattle.rx_parse_grammar.specs.parser.Expressions as spec
use Rattle.rx_parse_choices.specs.Ends.{behind_comma, follows}
use Rattle.rx_parse_grammar.specs.parser.Blocks.{operand, whole, like, block}

abbrev pub arms_from : ℕ → ℕ → List (PatternTree × Expression) → ℕ → Parser (Items (PatternTree × Expression))
arms_from b = spec.arms_from (operand b) (whole b) (like b) (block b) b

abbrev pub arms_closed : ℕ → List (PatternTree × Expression) → ℕ → Parser (Items (PatternTree × Expression))
arms_closed b = spec.arms_closed (operand b) (whole b) (like b) (block b) b

-- the closing brace behind the arms
abbrev pub closing : List (PatternTree × Expression) → ℕ → Parser (Items (PatternTree × Expression))
closing found h = expect symbol.CloseBrace >>= (λ c. pure (record { list = found; height = h; close = c.span }))

-- the value of an arm, and whether a further arm follows
pub record ValueTree : Type 0 where
  pub value : Got Expression
  pub more : Bool

abbrev pub value_by : ℕ → Bool → Parser ValueTree
value_by b true = like b >>= (λ x i. Ok (record { value = x; more = follows true i }, behind_comma i))
value_by b false = whole b >>= (λ x i. Ok (record { value = x; more = follows false i }, behind_comma i))

unfoldable pub value : ℕ → Parser ValueTree
value b = expect symbol.FatArrow >> next >>= (λ q. value_by b (begins_like q))

-- the arms, the most levels that one has, and whether a further arm follows
pub record ArmsTree : Type 0 where
  pub list : List (PatternTree × Expression)
  pub height : ℕ
  pub more : Bool

abbrev pub with_arm : List (PatternTree × Expression) → ℕ → Got PatternTree → ValueTree → ArmsTree
with_arm found h p v = record { list = found ++ (p.tree, v.value.tree) ∷ []; height = max h (max p.height v.value.height); more = v.more }

unfoldable pub arm : ℕ → List (PatternTree × Expression) → ℕ → Parser ArmsTree
arm b found h = pattern b >>= (λ p. value b >>= (λ v. pure (with_arm found h p v)))
