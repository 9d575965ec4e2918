-- What an expression begins with, and that it has a level.
use Rattle.std.proofs.Common.{◌≡◌, ℕ, ◌≤◌, Bool, true, false, List, [], ◌∷◌, ◌++◌, Option, refl, ap, ◌∙◌, arith, append_assoc}
use Rattle.std.specs.Prelude.{◌≢◌}
use Rattle.rx_tree.specs.declared.tree.Ident.{Ident}
use Rattle.rx_tree.specs.Plain.{Expression, Body}
use Rattle.rx_lex.specs.Tok.{Tok}
use Rattle.rx_parse_grammar.specs.declared.symbol.Symbol.{Symbol}
use Rattle.rx_parse_grammar.specs.declared.symbol.Symbol.TheVariants as symbol
use Rattle.rx_parse_grammar.specs.grammar.Expressions.{IsExpression, IsOperand, IsUnary, IsPostfix, IsPrimary, IsLike, IsIf, IsElse, IsBlock, IsLabel, no_label, label, AreArguments, Test, IsTest}
use Rattle.rx_parse_grammar.specs.grammar.Expressions as g
use Rattle.rx_parse_grammar.specs.parser.Symbols.{symbol_of, peek}
use Rattle.rx_parse_grammar.specs.parser.Operators.{begins_like, begins_operand, begins_expression}
use Rattle.rx_parse_grammar.specs.parser.Blocks.{opens}
use Rattle.rx_parse_grammar.proofs.Reading.{first_is, some_first}
use Rattle.rx_parse_grammar.proofs.TypesRead.{at_front}

-- what a primary begins with
abbrev pub begins_primary : Symbol → Bool
begins_primary symbol.Number = true
begins_primary symbol.True = true
begins_primary symbol.False = true
begins_primary symbol.Name = true
begins_primary symbol.OpenParen = true
begins_primary q = begins_like q

like_primary : (q : Symbol) → begins_like q ≡ true → begins_primary q ≡ true
like_primary symbol.Number e = refl
like_primary symbol.True e = refl
like_primary symbol.False e = refl
like_primary symbol.Name e = refl
like_primary symbol.OpenParen e = refl
like_primary _ e = e

primary_operand : (q : Symbol) → begins_primary q ≡ true → begins_operand q ≡ true
primary_operand symbol.Number e = refl
primary_operand symbol.True e = refl
primary_operand symbol.False e = refl
primary_operand symbol.Name e = refl
primary_operand symbol.OpenParen e = refl
primary_operand symbol.OpenBrace e = refl
primary_operand symbol.If e = refl
primary_operand symbol.Match e = refl
primary_operand symbol.Loop e = refl
primary_operand symbol.While e = refl
primary_operand symbol.Lifetime e = refl
primary_operand _ e = absurd (cc)

pub operand_expression : (q : Symbol) → begins_operand q ≡ true → begins_expression q ≡ true
operand_expression symbol.Return e = refl
operand_expression symbol.Break e = refl
operand_expression symbol.Continue e = refl
operand_expression _ e = e

pub like_expression : (q : Symbol) → begins_like q ≡ true → begins_expression q ≡ true
like_expression q e = operand_expression q (primary_operand q (like_primary q e))

pub front_by : (b : Symbol → Bool) (q : Symbol) → b q ≡ true → {ts : List Tok} (t : Tok) (us rest : List Tok) → ts ≡ t ∷ us → symbol_of t ≡ q → b (peek (ts ++ rest)) ≡ true
front_by b q e t us rest is s = at_front b t us rest is (ap b s ∙ e)

-- as the part on the left
pub left_front : (b : Symbol → Bool) (us vs rest : List Tok) {ts : List Tok} → ts ≡ us ++ vs → b (peek (us ++ (vs ++ rest))) ≡ true → b (peek (ts ++ rest)) ≡ true
left_front b us vs rest is e = ap (λ z. b (peek (z ++ rest))) is ∙ ap (λ z. b (peek z)) (append_assoc us vs rest) ∙ e

pub block_front : {ts : List Tok} {b : Body} {h : ℕ} → IsBlock ts b h → (rest : List Tok) → opens (peek (ts ++ rest)) ≡ true
block_front (g.braces o c us ss y h so sc inner is) rest = front_by opens symbol.OpenBrace refl o _ rest is (first_is symbol.OpenBrace o refl so)

is_if : Symbol → Bool
is_if symbol.If = true
is_if _ = false

opens_like : (q : Symbol) → opens q ≡ true → begins_like q ≡ true
opens_like symbol.OpenBrace e = refl
opens_like _ e = absurd (cc)

pub if_front : {ts : List Tok} {x : Expression} {h : ℕ} → IsIf ts x h → (rest : List Tok) → peek (ts ++ rest) ≡ symbol.If
if_front (g.if_alone t us vs x b m n st c r is) rest = ap (λ z. peek (z ++ rest)) is ∙ first_is symbol.If t refl st
if_front (g.if_else t e us vs ws x y b m n k st se c r w is) rest = ap (λ z. peek (z ++ rest)) is ∙ first_is symbol.If t refl st

label_front : {ls : List Tok} {l : Option Ident} → IsLabel ls l → (us rest : List Tok) → begins_like (peek (us ++ rest)) ≡ true → begins_like (peek ((ls ++ us) ++ rest)) ≡ true
label_front no_label us rest b = b
label_front (label t c st sc) us rest b = ap begins_like (first_is symbol.Lifetime t refl st)

pub like_front : {ts : List Tok} {x : Expression} {h : ℕ} → IsLike ts x h → (rest : List Tok) → begins_like (peek (ts ++ rest)) ≡ true
like_front {ts = ts} (g.block b h r) rest = opens_like (peek (ts ++ rest)) (block_front r rest)
like_front (g.conditional r) rest = ap begins_like (if_front r rest)
like_front (g.match t o c us vs x a more m n st so sc inner arms is) rest = front_by begins_like symbol.Match refl t _ rest is (first_is symbol.Match t refl st)
like_front (g.loop ls us t l b h sl st r is) rest = ap (λ z. begins_like (peek (z ++ rest))) is ∙ label_front sl (t ∷ us) rest (ap begins_like (first_is symbol.Loop t refl st))
like_front (g.while ls us vs t l x b m n sl st c r is) rest = ap (λ z. begins_like (peek (z ++ rest))) is ∙ label_front sl (t ∷ (us ++ vs)) rest (ap begins_like (first_is symbol.While t refl st))

pub primary_front : {f : Bool} {ts : List Tok} {x : Expression} {h : ℕ} → IsPrimary f ts x h → (rest : List Tok) → begins_primary (peek (ts ++ rest)) ≡ true
primary_front (g.number t v k s is) rest = front_by begins_primary symbol.Number refl t _ rest is (first_is symbol.Number t refl s.class)
primary_front (g.true_is t s is) rest = front_by begins_primary symbol.True refl t _ rest is (first_is symbol.True t refl s)
primary_front (g.false_is t s is) rest = front_by begins_primary symbol.False refl t _ rest is (first_is symbol.False t refl s)
primary_front (g.variable t s is) rest = front_by begins_primary symbol.Name refl t _ rest is (first_is symbol.Name t refl s)
primary_front (g.call t o c us xs h s so sc inner is) rest = front_by begins_primary symbol.Name refl t _ rest is (first_is symbol.Name t refl s)
primary_front (g.next_input r p n o c sr sp sn so sc is) rest = front_by begins_primary symbol.Name refl r _ rest is (first_is symbol.Name r refl sr.0)
primary_front (g.variant e p v se sp sv is) rest = front_by begins_primary symbol.Name refl e _ rest is (first_is symbol.Name e refl se)
primary_front (g.variant_with e p v o c us x xs h se sp sv so sc inner is) rest = front_by begins_primary symbol.Name refl e _ rest is (first_is symbol.Name e refl se)
primary_front (g.structure n o c us fs h sn so sc inner is) rest = front_by begins_primary symbol.Name refl n _ rest is (first_is symbol.Name n refl sn)
primary_front (g.print p b o q m c us x h sp sb so sq sm sc inner is) rest = front_by begins_primary symbol.Name refl p _ rest is (first_is symbol.Name p refl sp.0)
primary_front (g.unit o c so sc is) rest = front_by begins_primary symbol.OpenParen refl o _ rest is (first_is symbol.OpenParen o refl so)
primary_front (g.parentheses o c us x h so sc inner is) rest = front_by begins_primary symbol.OpenParen refl o _ rest is (first_is symbol.OpenParen o refl so)
primary_front (g.tuple o m c us vs x xs h i so sm sc inner more is) rest = front_by begins_primary symbol.OpenParen refl o _ rest is (first_is symbol.OpenParen o refl so)
primary_front {ts = ts} (g.like r) rest = like_primary (peek (ts ++ rest)) (like_front r rest)

pub postfix_front : {f : Bool} {ts : List Tok} {x : Expression} {h : ℕ} → IsPostfix f ts x h → (rest : List Tok) → begins_primary (peek (ts ++ rest)) ≡ true
postfix_front (g.primary r) rest = primary_front r rest
postfix_front (g.field us d n x h sd sn r is) rest = left_front begins_primary us _ rest is (postfix_front r _)
postfix_front (g.part us d t v x h sd st r is) rest = left_front begins_primary us _ rest is (postfix_front r _)

pub unary_front : {f : Bool} {ts : List Tok} {x : Expression} {h : ℕ} → IsUnary f ts x h → (rest : List Tok) → begins_operand (peek (ts ++ rest)) ≡ true
unary_front {ts = ts} (g.postfix r) rest = primary_operand (peek (ts ++ rest)) (postfix_front r rest)
unary_front (g.negate t us x h s r is) rest = front_by begins_operand symbol.Minus refl t _ rest is (first_is symbol.Minus t refl s)
unary_front (g.invert t us x h s r is) rest = front_by begins_operand symbol.Bang refl t _ rest is (first_is symbol.Bang t refl s)
unary_front (g.deref t us x h s r is) rest = front_by begins_operand symbol.Star refl t _ rest is (first_is symbol.Star t refl s)
unary_front (g.borrow t ms us m x h s sm r is) rest = front_by begins_operand symbol.Ampersand refl t _ rest is (first_is symbol.Ampersand t refl s)
unary_front (g.borrow_twice t us x h s r is) rest = front_by begins_operand symbol.AndAnd refl t _ rest is (first_is symbol.AndAnd t refl s)

pub operand_front : {f : Bool} {j : ℕ} {ts : List Tok} {x : Expression} {h : ℕ} → IsOperand f j ts x h → (rest : List Tok) → begins_operand (peek (ts ++ rest)) ≡ true
operand_front (g.unary r) rest = unary_front r rest
operand_front (g.stronger r) rest = operand_front r rest
operand_front (g.chain us vs t o l r m n c op left right is) rest = left_front begins_operand us _ rest is (operand_front left _)
operand_front (g.compare us vs t o l r m n c op left right is) rest = left_front begins_operand us _ rest is (operand_front left _)

pub expression_front : {ts : List Tok} {x : Expression} {h : ℕ} → IsExpression ts x h → (rest : List Tok) → begins_expression (peek (ts ++ rest)) ≡ true
expression_front {ts = ts} (g.operand r) rest = operand_expression (peek (ts ++ rest)) (operand_front r rest)
expression_front (g.assign us vs t l r m n s left right is) rest = left_front begins_expression us _ rest is (operand_expression _ (operand_front left _))
expression_front (g.update us vs t o l r m n s left right is) rest = left_front begins_expression us _ rest is (operand_expression _ (operand_front left _))
expression_front (g.return t s is) rest = front_by begins_expression symbol.Return refl t _ rest is (first_is symbol.Return t refl s)
expression_front (g.return_with t us x h s r is) rest = front_by begins_expression symbol.Return refl t _ rest is (first_is symbol.Return t refl s)
expression_front (g.break t s is) rest = front_by begins_expression symbol.Break refl t _ rest is (first_is symbol.Break t refl s)
expression_front (g.break_from t l s sl is) rest = front_by begins_expression symbol.Break refl t _ rest is (first_is symbol.Break t refl s)
expression_front (g.continue t s is) rest = front_by begins_expression symbol.Continue refl t _ rest is (first_is symbol.Continue t refl s)
expression_front (g.continue_with t l s sl is) rest = front_by begins_expression symbol.Continue refl t _ rest is (first_is symbol.Continue t refl s)

-- ---- there are tokens

pub block_some : {ts : List Tok} {b : Body} {h : ℕ} → IsBlock ts b h → ts ≢ []
block_some {ts = ts} r = some_first opens ts refl (block_front r [])

pub like_some : {ts : List Tok} {x : Expression} {h : ℕ} → IsLike ts x h → ts ≢ []
like_some {ts = ts} r = some_first begins_like ts refl (like_front r [])

pub postfix_some : {f : Bool} {ts : List Tok} {x : Expression} {h : ℕ} → IsPostfix f ts x h → ts ≢ []
postfix_some {ts = ts} r = some_first begins_primary ts refl (postfix_front r [])

pub unary_some : {f : Bool} {ts : List Tok} {x : Expression} {h : ℕ} → IsUnary f ts x h → ts ≢ []
unary_some {ts = ts} r = some_first begins_operand ts refl (unary_front r [])

pub operand_some : {f : Bool} {j : ℕ} {ts : List Tok} {x : Expression} {h : ℕ} → IsOperand f j ts x h → ts ≢ []
operand_some {ts = ts} r = some_first begins_operand ts refl (operand_front r [])

pub expression_some : {ts : List Tok} {x : Expression} {h : ℕ} → IsExpression ts x h → ts ≢ []
expression_some {ts = ts} r = some_first begins_expression ts refl (expression_front r [])

-- ---- the levels

pub block_positive : {ts : List Tok} {b : Body} {h : ℕ} → IsBlock ts b h → 1 ≤ h
block_positive (g.braces o c us ss y h so sc inner is) = omega arith

pub if_positive : {ts : List Tok} {x : Expression} {h : ℕ} → IsIf ts x h → 1 ≤ h
if_positive (g.if_alone t us vs x b m n st c r is) = omega arith
if_positive (g.if_else t e us vs ws x y b m n k st se c r w is) = omega arith

-- a block stands below
pub if_deep : {ts : List Tok} {x : Expression} {h : ℕ} → IsIf ts x h → 2 ≤ h
if_deep (g.if_alone t us vs x b m n st c r is) = let z = block_positive r in omega arith
if_deep (g.if_else t e us vs ws x y b m n k st se c r w is) = let z = block_positive r in omega arith

pub else_deep : {ts : List Tok} {x : Expression} {h : ℕ} → IsElse ts x h → 2 ≤ h
else_deep (g.else_block b h r) = let z = block_positive r in omega arith
else_deep (g.else_if r) = if_deep r

pub like_positive : {ts : List Tok} {x : Expression} {h : ℕ} → IsLike ts x h → 1 ≤ h
like_positive (g.block b h r) = omega arith
like_positive (g.conditional r) = if_positive r
like_positive (g.match t o c us vs x a more m n st so sc inner arms is) = omega arith
like_positive (g.loop ls us t l b h sl st r is) = omega arith
like_positive (g.while ls us vs t l x b m n sl st c r is) = omega arith

pub primary_positive : {f : Bool} {ts : List Tok} {x : Expression} {h : ℕ} → IsPrimary f ts x h → 1 ≤ h
primary_positive (g.like r) = like_positive r
primary_positive _ = omega arith

pub postfix_positive : {f : Bool} {ts : List Tok} {x : Expression} {h : ℕ} → IsPostfix f ts x h → 1 ≤ h
postfix_positive (g.primary r) = primary_positive r
postfix_positive (g.field us d n x h sd sn r is) = omega arith
postfix_positive (g.part us d t v x h sd st r is) = omega arith

pub unary_positive : {f : Bool} {ts : List Tok} {x : Expression} {h : ℕ} → IsUnary f ts x h → 1 ≤ h
unary_positive (g.postfix r) = postfix_positive r
unary_positive _ = omega arith

pub operand_positive : {f : Bool} {j : ℕ} {ts : List Tok} {x : Expression} {h : ℕ} → IsOperand f j ts x h → 1 ≤ h
operand_positive (g.unary r) = unary_positive r
operand_positive (g.stronger r) = operand_positive r
operand_positive (g.chain us vs t o l r m n c op left right is) = omega arith
operand_positive (g.compare us vs t o l r m n c op left right is) = omega arith

pub expression_positive : {ts : List Tok} {x : Expression} {h : ℕ} → IsExpression ts x h → 1 ≤ h
expression_positive (g.operand r) = operand_positive r
expression_positive _ = omega arith

pub test_positive : {ts : List Tok} {x : Test} {h : ℕ} → IsTest ts x h → 1 ≤ h
test_positive (g.test r) = operand_positive r
test_positive (g.test_pattern t q ps us p x m n st sq sp r is) = let z = operand_positive r in omega arith
