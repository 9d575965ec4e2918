-- How an operand is read depends on no token behind the one at which the parser stops, where this holds of what is deeper.
use Rattle.std.proofs.Common.{◌≡◌, ℕ, zero, suc, Bool, true, false, cond, List, [], length, Option, Some, None, Ok, Err, codes, refl, ap, ◌∙◌}
use Rattle.std.specs.Prelude.{◌==◌}
use Rattle.std.specs.Str.{bytes_eq}
use Rattle.rx_core.specs.declared.types.Span.{Span}
use Rattle.rx_tree.specs.declared.tree.BinaryOp.{BinaryOp}
use Rattle.rx_tree.specs.Plain as plain
use Rattle.rx_tree.specs.Plain.{Expression}
use Rattle.rx_tree.specs.PlainOf.{expressions_of}
use Rattle.rx_lex.specs.Tok.{Tok}
use Rattle.rx_parse_grammar.specs.declared.stop.Stop.TheVariants.{Syntax}
use Rattle.rx_parse_grammar.specs.declared.symbol.Symbol.{Symbol}
use Rattle.rx_parse_grammar.specs.declared.symbol.Symbol.TheVariants as symbol
use Rattle.rx_parse_grammar.specs.parser.Symbols.{peek}
use Rattle.rx_parse_grammar.specs.parser.Steps.{Parser, Got, and_then, pure}
use Rattle.rx_parse_grammar.specs.parser.Operators.{operator_at, begins_operand}
use Rattle.rx_parse_grammar.specs.parser.Expressions.{set_or_operand, chain, chain_by, is_input, call, variant_arguments, input, variant_with, path, field_value, field_by, field, struct_literal, print, named_by, named, primary_by, primary, member_by, member, member_step, postfix, prefix, borrow, borrow_twice, unary_by, unary, longer, longer_by, binary_step, at_strength, like_by}
use Rattle.rx_parse_grammar.specs.parser.Blocks.{operand, whole, like, block}
use Rattle.rx_parse_grammar.proofs.ExpressionsFront.{operand_some, like_some}
use Rattle.rx_parse_grammar.proofs.OperatorLaws.{operator_word}
use Rattle.rx_parse_grammar.proofs.BlocksDerived.{deeper_derived}
use Rattle.rx_parse_grammar.proofs.Steady.{Alike, Depths, Eats, eats, then, eaten, pures, refuses, takes, by, either, room}
use Rattle.rx_parse_grammar.proofs.SteadyLists.{looped, end_read, fueled, elements_alike, some_alike, group_alike, halves, tested, eats_after, eats_room}
use Rattle.rx_parse_grammar.proofs.TypesSteady.{mutability_alike}
use Rattle.rx_parse_grammar.proofs.PatternsSteady.{number_alike, index_alike}

-- ---- what goes on behind an operand on the left

-- in both parsers there is such a step, or in none
data Both (k : Bool) : Option (Parser (Got Expression)) → Option (Parser (Got Expression)) → Type 0 where
  neither : Both k None None
  both : (p q : Parser (Got Expression)) → Eats p → ((n m : ℕ) → Alike k n m p q) → Both k (Some p) (Some q)

abbrev Step : Type 0
Step = Got Expression → Symbol → Option (Parser (Got Expression))

chain_by_alike : {k : Bool} {n m : ℕ} (f g : Got Expression → Parser (Got Expression)) (l : Got Expression) (o u : Option (Parser (Got Expression))) → Both k o u → ((x : Got Expression) → Alike k n m (f x) (g x))
    → Alike k (suc n) (suc m) (chain_by f l o) (chain_by g l u)
chain_by_alike f g l o u neither more = pures
chain_by_alike f g l o u (both p q eat same) more = eaten eat (same _ _) more

chain_ends : (s : Step) → ((l : Got Expression) → s l symbol.End ≡ None) → (n : ℕ) (l : Got Expression) → chain s n l [] ≡ Ok (l, [])
unfolding chain
chain_ends s e zero l = refl
chain_ends s e (suc n) l = rw (e l)

chain_step : {k : Bool} (s t : Step) → ((l : Got Expression) (q : Symbol) → Both k (s l q) (t l q)) → (n m : ℕ) → ((l : Got Expression) → Alike k n m (chain s n l) (chain t m l)) → (l : Got Expression)
    → Alike k (suc n) (suc m) (chain s (suc n) l) (chain t (suc m) l)
unfolding chain
chain_step s t steps n m more l = by (λ q. chain_by_alike (chain s n) (chain t m) l (s l q) (t l q) (steps l q) more)

chain_alike : {k : Bool} {n m : ℕ} (s t : Step) → ((l : Got Expression) → s l symbol.End ≡ None) → ((l : Got Expression) → t l symbol.End ≡ None)
    → ((l : Got Expression) (q : Symbol) → Both k (s l q) (t l q)) → (l : Got Expression) → Alike k n m (λ i. chain s (length i) l i) (λ i. chain t (length i) l i)
chain_alike s t s_end t_end steps l = fueled (λ n. chain s n l) (λ n. chain t n l)
    (λ x y. looped (chain s) (chain t) (λ n m l. end_read l (chain_ends s s_end n l) (chain_ends t t_end m l)) (chain_step s t steps) x y l)

-- one step at most
once_by : {k : Bool} {n m : ℕ} (l : Got Expression) (o u : Option (Parser (Got Expression))) → Both k o u → Alike k n m (chain_by (λ x. pure x) l o) (chain_by (λ x. pure x) l u)
once_by l o u neither = pures
once_by l o u (both p q eat same) = then (same _ _) (λ x. pures)

once_alike : {k : Bool} {n m : ℕ} (s t : Step) → ((l : Got Expression) (q : Symbol) → Both k (s l q) (t l q)) → (l : Got Expression) → Alike k n m (chain s 1 l) (chain t 1 l)
unfolding chain
once_alike s t steps l = by (λ q. once_by l (s l q) (t l q) (steps l q))

-- ---- what is deeper

pub record Below (k : Bool) (d e : ℕ) : Type 0 where
  pub depths : Depths k d e
  pub operands : (f : Bool) (j n m : ℕ) → Alike k n m (operand d f j) (operand e f j)
  pub wholes : (n m : ℕ) → Alike k n m (whole d) (whole e)
  pub likes : (n m : ℕ) → Alike k n m (like d) (like e)
  pub blocks : (n m : ℕ) → Alike k n m (block d) (block e)

pub operand_eats : (d : ℕ) (f : Bool) (j : ℕ) → Eats (operand d f j)
operand_eats d f j = eats ((deeper_derived d).operands f j) (λ ts x w. operand_some w.holds)

pub like_eats : (d : ℕ) → Eats (like d)
like_eats d = eats (deeper_derived d).likes (λ ts x w. like_some w.holds)

pub whole_ends : (d : ℕ) → whole d [] ≡ Err (Syntax 0)
unfolding whole set_or_operand at_strength unary postfix primary
whole_ends zero = refl
whole_ends (suc d) = refl

field_ends : (d : ℕ) → field (whole d) d [] ≡ Err (Syntax 0)
unfolding field
field_ends d = refl

-- ---- primaries

module _ {k : Bool} {d e : ℕ} (b : Below k d e) where
  call_alike : {n m : ℕ} (t : Tok) → Alike k n m (call (whole d) d t) (call (whole e) e t)
  unfolding call
  call_alike t = then (takes symbol.OpenParen) (λ o. then (elements_alike symbol.CloseParen refl b.wholes (whole_ends d) (whole_ends e) _ _) (λ l. pures))

  arguments_alike : {n m : ℕ} (t v : Tok) → Alike k n m (variant_arguments (whole d) d t v) (variant_arguments (whole e) e t v)
  unfolding variant_arguments
  arguments_alike t v = then (some_alike symbol.CloseParen refl b.wholes (whole_ends d) (whole_ends e)) (λ l. pures)

  input_alike : {n m : ℕ} (t v : Tok) → Alike k n m (input (whole d) d t v) (input (whole e) e t v)
  unfolding input
  input_alike t v = then (takes symbol.OpenParen) (λ o. either symbol.CloseParen (then (takes symbol.CloseParen) (λ c. pures)) (arguments_alike t v))

  variant_alike : {n m : ℕ} (t v : Tok) → Alike k n m (variant_with (whole d) d t v) (variant_with (whole e) e t v)
  unfolding variant_with
  variant_alike t v = room 1 b.depths (then (takes symbol.OpenParen) (λ o. arguments_alike t v))

  path_alike : {n m : ℕ} (t : Tok) → Alike k n m (path (whole d) d t) (path (whole e) e t)
  unfolding path
  path_alike t = then (takes symbol.ColonColon) (λ c. then (takes symbol.Name) (λ v. either symbol.OpenParen (tested (is_input t v) (input_alike t v) (variant_alike t v)) pures))

  field_value_alike : {n m : ℕ} → Alike k n m (field_value (whole d) d) (field_value (whole e) e)
  unfolding field_value
  field_value_alike = then (takes symbol.Name) (λ n. either symbol.Colon (then (takes symbol.Colon) (λ c. then (b.wholes _ _) (λ x. pures))) pures)

  field_by_alike : {n m : ℕ} (q : Symbol) → Alike k n m (field_by (whole d) d q) (field_by (whole e) e q)
  field_by_alike symbol.Name = room 1 b.depths field_value_alike
  field_by_alike _ = refuses

  field_alike : (n m : ℕ) → Alike k n m (field (whole d) d) (field (whole e) e)
  unfolding field
  field_alike n m = by field_by_alike

  struct_alike : {n m : ℕ} (t : Tok) → Alike k n m (struct_literal (whole d) d t) (struct_literal (whole e) e t)
  unfolding struct_literal
  struct_alike t = then (takes symbol.OpenBrace) (λ o. then (elements_alike symbol.CloseBrace refl field_alike (field_ends d) (field_ends e) _ _) (λ l. pures))

  print_alike : {n m : ℕ} (t : Tok) → Alike k n m (print (whole d) d t) (print (whole e) e t)
  unfolding print
  print_alike t = room 1 b.depths (then (takes symbol.Bang) (λ b1. then (takes symbol.OpenParen) (λ o. then (takes symbol.Format) (λ q. then (takes symbol.Comma) (λ c.
      then (b.wholes _ _) (λ x. then (takes symbol.CloseParen) (λ c. pures)))))))

  named_by_alike : {n m : ℕ} (f : Bool) (t : Tok) (q : Symbol) → Alike k n m (named_by (whole d) d f t q) (named_by (whole e) e f t q)
  named_by_alike f t symbol.OpenParen = call_alike t
  named_by_alike f t symbol.ColonColon = path_alike t
  named_by_alike f t symbol.OpenBrace = tested f (struct_alike t) pures
  named_by_alike f t symbol.Bang = tested (bytes_eq t.text (codes "println")) (print_alike t) pures
  named_by_alike f t _ = pures

  named_alike : {n m : ℕ} (f : Bool) → Alike k n m (named (whole d) d f) (named (whole e) e f)
  unfolding named
  named_alike f = then (takes symbol.Name) (λ t. by (named_by_alike f t))

-- ---- members, prefixes and operators

module _ {k : Bool} {d e : ℕ} (b : Below k d e)
    (likes_by : (q : Symbol) (n m : ℕ) → Alike k n m (like_by (operand d) (whole d) (like d) (block d) d q) (like_by (operand e) (whole e) (like e) (block e) e q)) where
  primary_by_alike : {n m : ℕ} (f : Bool) (q : Symbol) → Alike k n m (primary_by (operand d) (whole d) (like d) (block d) d f q) (primary_by (operand e) (whole e) (like e) (block e) e f q)
  primary_by_alike f symbol.Number = then number_alike (λ v. pures)
  primary_by_alike f symbol.True = then (takes symbol.True) (λ t. pures)
  primary_by_alike f symbol.False = then (takes symbol.False) (λ t. pures)
  primary_by_alike f symbol.Name = named_alike b f
  primary_by_alike f symbol.OpenParen = group_alike (λ s l. plain.tuple s (expressions_of l)) b.wholes (whole_ends d) (whole_ends e)
  primary_by_alike f q = likes_by q _ _

  primary_alike : {n m : ℕ} (f : Bool) → Alike k n m (primary (operand d) (whole d) (like d) (block d) d f) (primary (operand e) (whole e) (like e) (block e) e f)
  unfolding primary
  primary_alike f = by (primary_by_alike f)

  member_by_alike : {n m : ℕ} (l : Got Expression) (q : Symbol) → Alike k n m (member_by (operand d) (whole d) (like d) (block d) d l q) (member_by (operand e) (whole e) (like e) (block e) e l q)
  member_by_alike l symbol.Name = then (takes symbol.Name) (λ n. pures)
  member_by_alike l symbol.Number = then index_alike (λ v. pures)
  member_by_alike l _ = refuses

  member_alike : (n m : ℕ) (l : Got Expression) → Alike k n m (member (operand d) (whole d) (like d) (block d) d l) (member (operand e) (whole e) (like e) (block e) e l)
  unfolding member
  member_alike n m l = room l.height b.depths (then (takes symbol.Dot) (λ p. by (member_by_alike l)))

  member_eats : (l : Got Expression) → Eats (member (operand d) (whole d) (like d) (block d) d l)
  unfolding member
  member_eats l = eats_room l.height d (eats_after symbol.Dot refl (λ c n m. by (member_by_alike l)))

  member_steps : (l : Got Expression) (q : Symbol) → Both k (member_step (operand d) (whole d) (like d) (block d) d l q) (member_step (operand e) (whole e) (like e) (block e) e l q)
  member_steps l symbol.Dot = both _ _ (member_eats l) (λ n m. member_alike n m l)
  member_steps l _ = neither

  postfix_alike : {n m : ℕ} (f : Bool) → Alike k n m (postfix (operand d) (whole d) (like d) (block d) d f) (postfix (operand e) (whole e) (like e) (block e) e f)
  unfolding postfix
  postfix_alike f = then (primary_alike f) (λ l. chain_alike _ _ (λ l. refl) (λ l. refl) member_steps l)

  prefix_alike : {n m : ℕ} (f : Bool) (q : Symbol) (make : Span → Expression → Expression)
      → Alike k n m (prefix (operand d) (whole d) (like d) (block d) d f q make) (prefix (operand e) (whole e) (like e) (block e) e f q make)
  prefix_alike f q make = room 1 b.depths (then (takes q) (λ t. then (b.operands f 0 _ _) (λ x. pures)))

  borrow_alike : {n m : ℕ} (f : Bool) → Alike k n m (borrow (operand d) (whole d) (like d) (block d) d f) (borrow (operand e) (whole e) (like e) (block e) e f)
  unfolding borrow
  borrow_alike f = room 1 b.depths (then (takes symbol.Ampersand) (λ t. then mutability_alike (λ m. then (b.operands f 0 _ _) (λ x. pures))))

  borrow_twice_alike : {n m : ℕ} (f : Bool) → Alike k n m (borrow_twice (operand d) (whole d) (like d) (block d) d f) (borrow_twice (operand e) (whole e) (like e) (block e) e f)
  unfolding borrow_twice
  borrow_twice_alike f = room 1 b.depths (halves _ _ (operand_eats d f 0) (b.operands f 0) (λ t y. pures))

  unary_by_alike : {n m : ℕ} (f : Bool) (q : Symbol) → Alike k n m (unary_by (operand d) (whole d) (like d) (block d) d f q) (unary_by (operand e) (whole e) (like e) (block e) e f q)
  unary_by_alike f symbol.Minus = prefix_alike f symbol.Minus plain.negate
  unary_by_alike f symbol.Bang = prefix_alike f symbol.Bang plain.invert
  unary_by_alike f symbol.Star = prefix_alike f symbol.Star plain.deref
  unary_by_alike f symbol.Ampersand = borrow_alike f
  unary_by_alike f symbol.AndAnd = borrow_twice_alike f
  unary_by_alike f _ = postfix_alike f

  unary_alike : {n m : ℕ} (f : Bool) → Alike k n m (unary (operand d) (whole d) (like d) (block d) d f) (unary (operand e) (whole e) (like e) (block e) e f)
  unfolding unary
  unary_alike f = by (unary_by_alike f)

  longer_alike : (n m : ℕ) (f : Bool) (j : ℕ) (l : Got Expression) (q : Symbol) (o : BinaryOp)
      → Alike k n m (longer (operand d) (whole d) (like d) (block d) d f j l q o) (longer (operand e) (whole e) (like e) (block e) e f j l q o)
  unfolding longer
  longer_alike n m f j l q o = room l.height b.depths (then (takes q) (λ t. then (b.operands f j _ _) (λ r. pures)))

  longer_eats : (f : Bool) (j : ℕ) (l : Got Expression) (q : Symbol) (o : BinaryOp) → operator_at (suc j) q ≡ Some o → Eats (longer (operand d) (whole d) (like d) (block d) d f j l q o)
  unfolding longer
  longer_eats f j l q o w = eats_room l.height d (eats_after q (operator_word (suc j) o q w) (λ c n m. then (b.operands f j _ _) (λ r. pures)))

  binary_by : (f : Bool) (j : ℕ) (l : Got Expression) (q : Symbol) (v : Option BinaryOp) → operator_at (suc j) q ≡ v
      → Both k (longer_by (operand d) (whole d) (like d) (block d) d f j l q v) (longer_by (operand e) (whole e) (like e) (block e) e f j l q v)
  binary_by f j l q None w = neither
  binary_by f j l q (Some o) w = both _ _ (longer_eats f j l q o w) (λ n m. longer_alike n m f j l q o)

  binary_steps : (f : Bool) (j : ℕ) (l : Got Expression) (q : Symbol) → Both k (binary_step (operand d) (whole d) (like d) (block d) d f j l q) (binary_step (operand e) (whole e) (like e) (block e) e f j l q)
  binary_steps f j l q = binary_by f j l q (operator_at (suc j) q) refl

  in_turns : {n m : ℕ} (f : Bool) (j : ℕ) (c : Bool) (l : Got Expression) → Alike k n m (λ i. chain (binary_step (operand d) (whole d) (like d) (block d) d f j) (cond c 1 (length i)) l i)
      (λ i. chain (binary_step (operand e) (whole e) (like e) (block e) e f j) (cond c 1 (length i)) l i)
  unfolding operator_at
  in_turns f j true l = once_alike _ _ (binary_steps f j) l
  in_turns f j false l = chain_alike _ _ (λ l. no_operator d f j l) (λ l. no_operator e f j l) (binary_steps f j) l
    where
      none_either : (c : Bool) → cond {A = Option BinaryOp} c None None ≡ None
      none_either true = refl
      none_either false = refl

      no_operator : (d : ℕ) (f : Bool) (j : ℕ) (l : Got Expression) → binary_step (operand d) (whole d) (like d) (block d) d f j l symbol.End ≡ None
      no_operator d f j l = ap (longer_by (operand d) (whole d) (like d) (block d) d f j l symbol.End) (none_either (0 == suc j))

  pub at_strength_alike : {n m : ℕ} (f : Bool) (j : ℕ) → Alike k n m (at_strength (operand d) (whole d) (like d) (block d) d f j) (at_strength (operand e) (whole e) (like e) (block e) e f j)
  unfolding at_strength
  at_strength_alike f zero = unary_alike f
  at_strength_alike f (suc j) = then (at_strength_alike f j) (λ l. in_turns f j (j == 2) l)

-- ---- what begins no operand is refused

primary_refused : (d : ℕ) (f : Bool) (q : Symbol) (i : List Tok) → begins_operand q ≡ false → primary_by (operand d) (whole d) (like d) (block d) d f q i ≡ Err (Syntax (length i))
primary_refused d f symbol.Number i e = absurd (cc)
primary_refused d f symbol.True i e = absurd (cc)
primary_refused d f symbol.False i e = absurd (cc)
primary_refused d f symbol.Name i e = absurd (cc)
primary_refused d f symbol.OpenParen i e = absurd (cc)
primary_refused d f symbol.OpenBrace i e = absurd (cc)
primary_refused d f symbol.If i e = absurd (cc)
primary_refused d f symbol.Match i e = absurd (cc)
primary_refused d f symbol.Loop i e = absurd (cc)
primary_refused d f symbol.While i e = absurd (cc)
primary_refused d f symbol.Lifetime i e = absurd (cc)
primary_refused d f _ i e = refl

unary_refused : (d : ℕ) (f : Bool) (q : Symbol) (i : List Tok) → peek i ≡ q → begins_operand q ≡ false → unary_by (operand d) (whole d) (like d) (block d) d f q i ≡ Err (Syntax (length i))
unfolding postfix primary
unary_refused d f symbol.Minus i p e = absurd (cc)
unary_refused d f symbol.Bang i p e = absurd (cc)
unary_refused d f symbol.Star i p e = absurd (cc)
unary_refused d f symbol.Ampersand i p e = absurd (cc)
unary_refused d f symbol.AndAnd i p e = absurd (cc)
unary_refused d f q i p e =
    ap (λ o. and_then o (λ l i. chain (member_step (operand d) (whole d) (like d) (block d) d) (length i) l i)) (primary_refused d f (peek i) i (ap begins_operand p ∙ e))

pub strength_refused : (d : ℕ) (f : Bool) (j : ℕ) (i : List Tok) → begins_operand (peek i) ≡ false → at_strength (operand d) (whole d) (like d) (block d) d f j i ≡ Err (Syntax (length i))
unfolding at_strength unary
strength_refused d f zero i e = unary_refused d f (peek i) i refl e
strength_refused d f (suc j) i e = rw (strength_refused d f j i e)
