-- How an expression that ends in a block, and a whole expression, are read depends on no token behind the one at which the
-- parser stops, where this holds of what is deeper.
use Rattle.std.proofs.Common.{◌≡◌, ℕ, zero, suc, Bool, true, false, List, [], Option, Some, None, Err, refl}
use Rattle.rx_tree.specs.declared.tree.Ident.{Ident}
use Rattle.rx_core.specs.declared.types.Span.{Span}
use Rattle.rx_tree.specs.Plain as plain
use Rattle.rx_tree.specs.Plain.{Expression, PatternTree}
use Rattle.rx_lex.specs.Tok.{Tok}
use Rattle.rx_parse_grammar.specs.declared.stop.Stop.TheVariants.{Syntax}
use Rattle.rx_parse_grammar.specs.declared.symbol.Symbol.{Symbol}
use Rattle.rx_parse_grammar.specs.declared.symbol.Symbol.TheVariants as symbol
use Rattle.rx_parse_grammar.specs.parser.Steps.{Parser, Got}
use Rattle.rx_parse_grammar.specs.parser.Lists.{Items}
use Rattle.rx_parse_grammar.specs.parser.Operators.{Setting, setting, begins_like, begins_expression}
use Rattle.rx_parse_grammar.specs.parser.Expressions.{block_value, let_test, test_by, test, else_by, else_value, conditional, arms_closed, after_arm, arm_by, arms_from, arms, match_value, loop_value, while_value, labelled_by, labelled, like_by, set_by, returned_by, return_value, jump, set_or_operand, whole_by}
use Rattle.rx_parse_grammar.specs.parser.Blocks.{operand, whole, like, block}
use Rattle.rx_parse_grammar.proofs.Steady.{Alike, then, eaten, pures, refuses, takes, by, either, room}
use Rattle.rx_parse_grammar.proofs.SteadyLists.{looped, end_refused, fueled, takes_eats}
use Rattle.rx_parse_grammar.proofs.PatternsSteady.{pattern_alike, pattern_ends}
use Rattle.rx_parse_grammar.proofs.OperandsSteady.{Below, at_strength_alike}

abbrev Arm : Type 0
Arm = PatternTree × Expression

arms_end : (d n : ℕ) (x : List Arm × ℕ) → arms_from (operand d) (whole d) (like d) (block d) d n x.0 x.1 [] ≡ Err (Syntax 0)
unfolding arms_from
arms_end d zero x = refl
arms_end d (suc n) x = rw (pattern_ends d)

module _ {k : Bool} {d e : ℕ} (b : Below k d e) where
  block_value_alike : {n m : ℕ} → Alike k n m (block_value (operand d) (whole d) (like d) (block d) d) (block_value (operand e) (whole e) (like e) (block e) e)
  unfolding block_value
  block_value_alike = room 1 b.depths (then (b.blocks _ _) (λ x. pures))

  let_test_alike : {n m : ℕ} → Alike k n m (let_test (operand d) (whole d) (like d) (block d) d) (let_test (operand e) (whole e) (like e) (block e) e)
  unfolding let_test
  let_test_alike = then (takes symbol.Let) (λ t. then (pattern_alike d e b.depths _ _) (λ p. then (takes symbol.Equal) (λ q. then (b.operands false 3 _ _) (λ x. pures))))

  test_by_alike : {n m : ℕ} (q : Symbol) → Alike k n m (test_by (operand d) (whole d) (like d) (block d) d q) (test_by (operand e) (whole e) (like e) (block e) e q)
  test_by_alike symbol.Let = let_test_alike
  test_by_alike _ = then (b.operands false 5 _ _) (λ x. pures)

  test_alike : {n m : ℕ} → Alike k n m (test (operand d) (whole d) (like d) (block d) d) (test (operand e) (whole e) (like e) (block e) e)
  unfolding test
  test_alike = by test_by_alike

  else_by_alike : {n m : ℕ} (q : Symbol) → Alike k n m (else_by (operand d) (whole d) (like d) (block d) d q) (else_by (operand e) (whole e) (like e) (block e) e q)
  else_by_alike symbol.OpenBrace = b.likes _ _
  else_by_alike symbol.If = b.likes _ _
  else_by_alike _ = refuses

  else_alike : {n m : ℕ} → Alike k n m (else_value (operand d) (whole d) (like d) (block d) d) (else_value (operand e) (whole e) (like e) (block e) e)
  unfolding else_value
  else_alike = by else_by_alike

  conditional_alike : {n m : ℕ} → Alike k n m (conditional (operand d) (whole d) (like d) (block d) d) (conditional (operand e) (whole e) (like e) (block e) e)
  unfolding conditional
  conditional_alike = room 1 b.depths (then (takes symbol.If) (λ t. then test_alike (λ x. then (b.blocks _ _) (λ y.
      either symbol.Else (room 2 b.depths (then (takes symbol.Else) (λ l. then else_alike (λ z. pures)))) pures))))

  closed_alike : {n m : ℕ} (found : List Arm) (h : ℕ) → Alike k n m (arms_closed (operand d) (whole d) (like d) (block d) d found h) (arms_closed (operand e) (whole e) (like e) (block e) e found h)
  closed_alike found h = then (takes symbol.CloseBrace) (λ c. pures)

  after_arm_alike : {n m : ℕ} (f g : List Arm → ℕ → Parser (Items Arm)) → ((x : List Arm × ℕ) → Alike k n m (f x.0 x.1) (g x.0 x.1)) → (found : List Arm) (h : ℕ)
      → Alike k n m (after_arm (operand d) (whole d) (like d) (block d) d f found h) (after_arm (operand e) (whole e) (like e) (block e) e g found h)
  after_arm_alike f g more found h = either symbol.CloseBrace (closed_alike found h) (more (found, h))

  arm_by_alike : {n m : ℕ} (f g : List Arm → ℕ → Parser (Items Arm)) → ((x : List Arm × ℕ) → Alike k n m (f x.0 x.1) (g x.0 x.1)) → (found : List Arm) (h : ℕ) (p : Got PatternTree) (c : Bool)
      → Alike k n m (arm_by (operand d) (whole d) (like d) (block d) d f found h p c) (arm_by (operand e) (whole e) (like e) (block e) e g found h p c)
  arm_by_alike f g more found h p true = then (b.likes _ _) (λ x. either symbol.Comma (then (takes symbol.Comma) (λ c. after_arm_alike f g more _ _)) (after_arm_alike f g more _ _))
  arm_by_alike f g more found h p false = then (b.wholes _ _) (λ x. either symbol.Comma (then (takes symbol.Comma) (λ c. after_arm_alike f g more _ _)) (closed_alike _ _))

  arms_step : (n m : ℕ) → ((x : List Arm × ℕ) → Alike k n m (arms_from (operand d) (whole d) (like d) (block d) d n x.0 x.1) (arms_from (operand e) (whole e) (like e) (block e) e m x.0 x.1))
      → (x : List Arm × ℕ) → Alike k (suc n) (suc m) (arms_from (operand d) (whole d) (like d) (block d) d (suc n) x.0 x.1) (arms_from (operand e) (whole e) (like e) (block e) e (suc m) x.0 x.1)
  unfolding arms_from
  arms_step n m more x = then (pattern_alike d e b.depths _ _) (λ p. eaten (takes_eats symbol.FatArrow refl) (takes symbol.FatArrow) (λ a. by (λ q.
      arm_by_alike (arms_from (operand d) (whole d) (like d) (block d) d n) (arms_from (operand e) (whole e) (like e) (block e) e m) more x.0 x.1 p (begins_like q))))

  arms_alike : {n m : ℕ} → Alike k n m (arms (operand d) (whole d) (like d) (block d) d) (arms (operand e) (whole e) (like e) (block e) e)
  unfolding arms
  arms_alike = fueled (λ n. arms_from (operand d) (whole d) (like d) (block d) d n [] 0) (λ n. arms_from (operand e) (whole e) (like e) (block e) e n [] 0)
      (λ x y. looped (λ n (x : List Arm × ℕ). arms_from (operand d) (whole d) (like d) (block d) d n x.0 x.1) (λ n (x : List Arm × ℕ). arms_from (operand e) (whole e) (like e) (block e) e n x.0 x.1)
      (λ n m x. end_refused (arms_end d n x) (arms_end e m x)) arms_step x y ([], 0))

  match_alike : {n m : ℕ} → Alike k n m (match_value (operand d) (whole d) (like d) (block d) d) (match_value (operand e) (whole e) (like e) (block e) e)
  unfolding match_value
  match_alike = room 1 b.depths (then (takes symbol.Match) (λ t. then (b.operands false 5 _ _) (λ x. then (takes symbol.OpenBrace) (λ o. then arms_alike (λ l. pures)))))

  loop_alike : {n m : ℕ} (l : Option Tok) → Alike k n m (loop_value (operand d) (whole d) (like d) (block d) d l) (loop_value (operand e) (whole e) (like e) (block e) e l)
  unfolding loop_value
  loop_alike l = then (takes symbol.Loop) (λ t. then (b.blocks _ _) (λ x. pures))

  while_alike : {n m : ℕ} (l : Option Tok) → Alike k n m (while_value (operand d) (whole d) (like d) (block d) d l) (while_value (operand e) (whole e) (like e) (block e) e l)
  unfolding while_value
  while_alike l = then (takes symbol.While) (λ t. then test_alike (λ x. then (b.blocks _ _) (λ y. pures)))

  labelled_by_alike : {n m : ℕ} (l : Tok) (q : Symbol) → Alike k n m (labelled_by (operand d) (whole d) (like d) (block d) d l q) (labelled_by (operand e) (whole e) (like e) (block e) e l q)
  labelled_by_alike l symbol.Loop = loop_alike (Some l)
  labelled_by_alike l symbol.While = while_alike (Some l)
  labelled_by_alike l _ = refuses

  labelled_alike : {n m : ℕ} → Alike k n m (labelled (operand d) (whole d) (like d) (block d) d) (labelled (operand e) (whole e) (like e) (block e) e)
  unfolding labelled
  labelled_alike = then (takes symbol.Lifetime) (λ l. then (takes symbol.Colon) (λ c. by (labelled_by_alike l)))

  pub like_by_alike : (q : Symbol) (n m : ℕ) → Alike k n m (like_by (operand d) (whole d) (like d) (block d) d q) (like_by (operand e) (whole e) (like e) (block e) e q)
  like_by_alike symbol.OpenBrace n m = block_value_alike
  like_by_alike symbol.If n m = conditional_alike
  like_by_alike symbol.Match n m = match_alike
  like_by_alike symbol.Loop n m = room 1 b.depths (loop_alike None)
  like_by_alike symbol.While n m = room 1 b.depths (while_alike None)
  like_by_alike symbol.Lifetime n m = room 1 b.depths labelled_alike
  like_by_alike _ n m = refuses

  -- ---- whole expressions

  set_by_alike : {n m : ℕ} (l : Got Expression) (q : Symbol) (u : Option Setting) → Alike k n m (set_by (operand d) (whole d) (like d) (block d) d l q u) (set_by (operand e) (whole e) (like e) (block e) e l q u)
  set_by_alike l q None = pures
  set_by_alike l q (Some u) = room l.height b.depths (then (takes q) (λ t. then (b.wholes _ _) (λ r. pures)))

  returned_alike : {n m : ℕ} (t : Tok) (c : Bool) → Alike k n m (returned_by (operand d) (whole d) (like d) (block d) d t c) (returned_by (operand e) (whole e) (like e) (block e) e t c)
  returned_alike t true = then (b.wholes _ _) (λ x. pures)
  returned_alike t false = pures

  return_alike : {n m : ℕ} → Alike k n m (return_value (operand d) (whole d) (like d) (block d) d) (return_value (operand e) (whole e) (like e) (block e) e)
  unfolding return_value
  return_alike = then (takes symbol.Return) (λ t. by (λ q. returned_alike t (begins_expression q)))

  jump_alike : {n m : ℕ} (q : Symbol) (make : Span → Option Ident → Expression) → Alike k n m (jump (operand d) (whole d) (like d) (block d) d q make) (jump (operand e) (whole e) (like e) (block e) e q make)
  unfolding jump
  jump_alike q make = then (takes q) (λ t. either symbol.Lifetime (then (takes symbol.Lifetime) (λ l. pures)) pures)

  set_or_alike : {n m : ℕ} → Alike k n m (set_or_operand (operand d) (whole d) (like d) (block d) d) (set_or_operand (operand e) (whole e) (like e) (block e) e)
  unfolding set_or_operand
  set_or_alike = then (at_strength_alike b like_by_alike true 5) (λ l. by (λ q. set_by_alike l q (setting q)))

  pub whole_by_alike : {n m : ℕ} (q : Symbol) → Alike k n m (whole_by (operand d) (whole d) (like d) (block d) d q) (whole_by (operand e) (whole e) (like e) (block e) e q)
  whole_by_alike symbol.Return = return_alike
  whole_by_alike symbol.Break = jump_alike symbol.Break plain.break
  whole_by_alike symbol.Continue = jump_alike symbol.Continue plain.continue
  whole_by_alike _ = set_or_alike
