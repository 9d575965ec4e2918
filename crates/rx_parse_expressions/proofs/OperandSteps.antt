-- Steps of the parsers of operands, for the goals of the code: each is the parser's own equation.
use Rattle.std.proofs.Common.{◌≡◌, ℕ, suc, zero, ◌+◌, ◌-◌, ◌<◌, ◌≤◌, ◌∷◌, [], Bool, true, false, cond, List, Some, None, Ok, Err, refl, ap, subst, ◌∙◌, arith}
use Rattle.std.specs.Prelude.{Option, nat_lt, length}
use Rattle.std.proofs.lemmas.Bool.{le-ltb}
use Rattle.rx_tree.specs.declared.tree.BinaryOp.{BinaryOp}
use Rattle.rx_tree.specs.Plain as plain
use Rattle.rx_tree.specs.Plain.{Expression, Body}
use Rattle.rx_lex.specs.Tok.{Tok}
use Rattle.rx_parse_grammar.specs.declared.stop.Stop.{Stop}
use Rattle.rx_parse_grammar.specs.declared.symbol.Symbol.{Symbol}
use Rattle.rx_parse_grammar.specs.declared.symbol.Symbol.TheVariants as symbol
use Rattle.rx_parse_grammar.specs.grammar.Words.{join, second_ampersand}
use Rattle.rx_parse_grammar.specs.parser.Symbols.{head, tail, peek}
use Rattle.rx_parse_grammar.specs.parser.Steps.{Parser, Outcome, Got, and_then, node, sees, expect}
use Rattle.rx_parse_grammar.specs.parser.Lists.{elements}
use Rattle.rx_parse_grammar.specs.parser.Operators.{Setting, operator_at}
use Rattle.rx_parse_grammar.specs.parser.Expressions as spec
use Rattle.rx_parse_grammar.specs.parser.Blocks.{operand, whole, like, block}
use Rattle.rx_parse_grammar.proofs.SymbolLemmas.{seen}
use Rattle.rx_parse_choices.specs.Rows.{turns}
use Rattle.rx_parse_expressions.specs.Levels as levels

pub struct_fault : (b : ℕ) (n t : Tok) (i j : List Tok) (f : Stop) → expect symbol.OpenBrace i ≡ Ok (t, j)
    → elements symbol.CloseBrace (spec.field (whole b) b) [] 0 j ≡ Err f → spec.struct_literal (whole b) b n i ≡ Err f
unfolding spec.struct_literal
struct_fault b n t i j f e r = rw (e, r)

-- ---- `&&` as two `&`

roomy : (d : ℕ) → nat_lt (suc d) 1 ≡ false
roomy d = le-ltb (suc d) 1 (omega arith)

module _ (N : Bool → ℕ → Parser (Got Expression)) (W L : Parser (Got Expression)) (B : Parser (Got Body)) where
  twice_err : (d : ℕ) (f : Bool) (i : List Tok) (e : Stop) → 0 < d → peek i ≡ symbol.AndAnd → N f 0 (second_ampersand (head i) ∷ tail i) ≡ Err e
      → spec.borrow_twice N W L B d f i ≡ Err e
  unfolding spec.borrow_twice expect
  twice_err zero f i e some p r = absurd (omega arith)
  twice_err (suc d) f i e some p r = let s : sees symbol.AndAnd i ≡ true = seen symbol.AndAnd i p in rw (roomy d, s, r)

  twice_ok : (d : ℕ) (f : Bool) (i j : List Tok) (y : Got Expression) → 0 < d → peek i ≡ symbol.AndAnd → N f 0 (second_ampersand (head i) ∷ tail i) ≡ Ok (y, j)
      → spec.borrow_twice N W L B d f i ≡ Ok (node (λ s. plain.borrow s false y.tree) (join (head i).span y.span) y.height, j)
  unfolding spec.borrow_twice expect
  twice_ok zero f i j y some p r = absurd (omega arith)
  twice_ok (suc d) f i j y some p r = let s : sees symbol.AndAnd i ≡ true = seen symbol.AndAnd i p in rw (roomy d, s, r)

pub twice_fault : (b : ℕ) (f : Bool) (i : List Tok) (e : Stop) → 0 < b → peek i ≡ symbol.AndAnd → operand b f 0 (second_ampersand (head i) ∷ tail i) ≡ Err e
    → levels.borrow_twice b f i ≡ Err e
twice_fault b f i e some p r = twice_err (operand b) (whole b) (like b) (block b) b f i e some p r

pub twice_made : (b : ℕ) (f : Bool) (i j : List Tok) (y : Got Expression) → 0 < b → peek i ≡ symbol.AndAnd → operand b f 0 (second_ampersand (head i) ∷ tail i) ≡ Ok (y, j)
    → levels.borrow_twice b f i ≡ Ok (node (λ s. plain.borrow s false y.tree) (join (head i).span y.span) y.height, j)
twice_made b f i j y some p r = twice_ok (operand b) (whole b) (like b) (block b) b f i j y some p r

-- ---- an operator and what stands on its right

abbrev made : (Got Expression → Got Expression) → Outcome (Got Expression) → Outcome (Got Expression)
made make o = and_then o (λ r k. Ok (make r, k))

behind : (make : Got Expression → Got Expression) (p : Parser (Got Expression)) (e : Stop) (x : Bool) (o : Outcome Tok)
    → cond x (Err e) (and_then o (λ t j. and_then (p j) (λ r k. Ok (make r, k)))) ≡ made make (cond x (Err e) (and_then o (λ t j. p j)))
behind make p e true o = refl
behind make p e false (Ok t) = refl
behind make p e false (Err s) = refl

abbrev grammar_longer : ℕ → Bool → ℕ → Got Expression → Symbol → BinaryOp → Parser (Got Expression)
grammar_longer b = spec.longer (operand b) (whole b) (like b) (block b) b

longer_is : (b j : ℕ) (f : Bool) (l : Got Expression) (q : Symbol) (o : BinaryOp) (i : List Tok) → grammar_longer b f j l q o i ≡ levels.longer b f j l q o i
unfolding spec.longer levels.longer levels.right
longer_is b j f l q o i = behind (levels.binary o l) (operand b f j) _ (nat_lt b l.height) (expect q i)

-- an assignment
pub set_is : (b : ℕ) (l : Got Expression) (q r : Symbol) (s : Option Setting) (u : Setting) (i : List Tok) → r ≡ q → s ≡ Some u
    → levels.set_by b l r s i ≡ levels.set b l q u i
unfolding levels.set levels.value
set_is b l q r s u i e k = rw (e, k) (behind (levels.assignment b u l) (whole b) _ (nat_lt b l.height) (expect q i))

-- ---- operators in a row

abbrev longer_by : ℕ → Bool → ℕ → Got Expression → Symbol → Option BinaryOp → Option (Parser (Got Expression))
longer_by b = spec.longer_by (operand b) (whole b) (like b) (block b) b

pub row_more : (b n s j : ℕ) (f : Bool) (l x : Got Expression) (o : BinaryOp) (i k : List Tok) → s ≡ suc j → operator_at s (peek i) ≡ Some o
    → levels.longer b f j l (peek i) o i ≡ Ok (x, k) → spec.chain (levels.binary_step b f j) (suc n) l i ≡ spec.chain (levels.binary_step b f j) n x k
unfolding spec.chain
row_more b n s j f l x o i k u w e =
    ap (λ z. spec.chain_by (spec.chain (levels.binary_step b f j) n) l (longer_by b f j l (peek i) z) i) (subst (λ z. operator_at z (peek i) ≡ Some o) u w)
    ∙ ap (λ z. and_then z (spec.chain (levels.binary_step b f j) n)) (longer_is b j f l (peek i) o i ∙ e)

pub row_fault : (b n s j : ℕ) (f : Bool) (l : Got Expression) (o : BinaryOp) (i : List Tok) (x : Stop) → s ≡ suc j → operator_at s (peek i) ≡ Some o
    → levels.longer b f j l (peek i) o i ≡ Err x → spec.chain (levels.binary_step b f j) (suc n) l i ≡ Err x
unfolding spec.chain
row_fault b n s j f l o i x u w e =
    ap (λ z. spec.chain_by (spec.chain (levels.binary_step b f j) n) l (longer_by b f j l (peek i) z) i) (subst (λ z. operator_at z (peek i) ≡ Some o) u w)
    ∙ ap (λ z. and_then z (spec.chain (levels.binary_step b f j) n)) (longer_is b j f l (peek i) o i ∙ e)

pub row_end : (b n s j : ℕ) (f : Bool) (l : Got Expression) (i : List Tok) → s ≡ suc j → operator_at s (peek i) ≡ None
    → spec.chain (levels.binary_step b f j) (suc n) l i ≡ Ok (l, i)
unfolding spec.chain
row_end b n s j f l i u w =
    ap (λ z. spec.chain_by (spec.chain (levels.binary_step b f j) n) l (longer_by b f j l (peek i) z) i) (subst (λ z. operator_at z (peek i) ≡ None) u w)

pub row_over : (b j : ℕ) (f : Bool) (l : Got Expression) (i : List Tok) → spec.chain (levels.binary_step b f j) 0 l i ≡ Ok (l, i)
unfolding spec.chain
row_over b j f l i = refl

-- ---- strengths

abbrev row : ℕ → Bool → ℕ → Got Expression → Parser (Got Expression)
row b f j l k = spec.chain (levels.binary_step b f j) (turns j (length k)) l k

pub strength_none : (b : ℕ) (f : Bool) (i : List Tok) → levels.at_strength b f 0 i ≡ levels.unary b f i
unfolding spec.at_strength
strength_none b f i = refl

strength_above : (b j : ℕ) (f : Bool) (i : List Tok) → levels.at_strength b f (suc j) i ≡ and_then (levels.at_strength b f j i) (row b f j)
unfolding spec.at_strength
strength_above b j f i = refl

strength_some : (b s : ℕ) (f : Bool) (i : List Tok) → 0 < s → levels.at_strength b f s i ≡ and_then (levels.at_strength b f (s - 1) i) (row b f (s - 1))
strength_some b zero f i some = absurd (omega arith)
strength_some b (suc j) f i some =
    let e : j ≡ suc j - 1 = omega arith in subst (λ z. levels.at_strength b f (suc j) i ≡ and_then (levels.at_strength b f z i) (row b f z)) e (strength_above b j f i)

-- the operators of the next strength behind an operand of this one
pub strength_made : (b j : ℕ) (f : Bool) (l : Got Expression) (i k : List Tok) → levels.at_strength b f j i ≡ Ok (l, k)
    → levels.at_strength b f (j + 1) i ≡ spec.chain (levels.binary_step b f (j + 1 - 1)) (turns (j + 1 - 1) (length k)) l k
strength_made b j f l i k e =
    let s : j ≡ j + 1 - 1 = omega arith in
    strength_some b (j + 1) f i (omega arith) ∙ ap (λ z. and_then z (row b f (j + 1 - 1))) (subst (λ z. levels.at_strength b f z i ≡ Ok (l, k)) s e)

further_fault : (b k j n : ℕ) (f : Bool) (i : List Tok) (x : Stop) → n ≡ j + k → levels.at_strength b f j i ≡ Err x → levels.at_strength b f n i ≡ Err x
further_fault b zero j n f i x s e = let z : j ≡ n = omega arith in subst (λ z. levels.at_strength b f z i ≡ Err x) z e
further_fault b (suc k) j n f i x s e =
    let z : n ≡ suc j + k = omega arith in
    further_fault b k (suc j) n f i x z (strength_above b j f i ∙ ap (λ z. and_then z (row b f j)) e)

-- a fault of one strength is that of each above
pub strength_fault : (b j n : ℕ) (f : Bool) (i : List Tok) (x : Stop) → j ≤ n → levels.at_strength b f j i ≡ Err x → levels.at_strength b f n i ≡ Err x
strength_fault b j n f i x low e = further_fault b (n - j) j n f i x (omega arith) e
