-- How what goes on behind an operand on the left is read, and where it stops.
use Rattle.std.proofs.Common.{◌≡◌, ℕ, zero, suc, ◌≤◌, ◌<◌, ◌-◌, Bool, true, false, List, [], ◌++◌, length, Option, Some, None, Ok, refl, sym, ap, subst, ◌∙◌, arith, append_assoc, length-append, inl, inr}
use Rattle.std.specs.Prelude.{◌≢◌, ◌⊎◌}
use Rattle.rx_tree.specs.Plain.{Expression}
use Rattle.rx_tree.specs.declared.tree.BinaryOp.{BinaryOp}
use Rattle.rx_lex.specs.Tok.{Tok}
use Rattle.rx_parse_grammar.specs.declared.symbol.Symbol.{Symbol}
use Rattle.rx_parse_grammar.specs.declared.symbol.Symbol.TheVariants as symbol
use Rattle.rx_parse_grammar.specs.parser.Symbols.{peek}
use Rattle.rx_parse_grammar.specs.parser.Steps.{Parser, Got, ◌>>=◌, and_then}
use Rattle.rx_parse_grammar.specs.parser.Operators.{strength, operator_at, setting, begins_expression}
use Rattle.rx_parse_grammar.specs.parser.Expressions.{chain, chain_by}
use Rattle.rx_parse_grammar.proofs.Reading.{Reads, got, some_length}
use Rattle.rx_parse_grammar.proofs.OperatorLaws.{no_operator, operator_strength}

-- ---- what goes on an operand

-- the least strength of what a symbol goes on, plus one for operators; 7 where it goes on none
abbrev pub reach : Bool → Symbol → ℕ
reach f symbol.OpenParen = 0
reach f symbol.ColonColon = 0
reach f symbol.Bang = 0
reach f symbol.Else = 0
reach true symbol.OpenBrace = 0
reach false symbol.OpenBrace = 7
reach f symbol.Dot = 1
reach f symbol.Star = 2
reach f symbol.Slash = 2
reach f symbol.Percent = 2
reach f symbol.Plus = 3
reach f symbol.Minus = 3
reach f symbol.EqualEqual = 4
reach f symbol.NotEqual = 4
reach f symbol.Less = 4
reach f symbol.LessEqual = 4
reach f symbol.Greater = 4
reach f symbol.GreaterEqual = 4
reach f symbol.AndAnd = 5
reach f symbol.OrOr = 6
reach f _ = 7

-- what may follow a whole expression
abbrev pub ends_expression : Symbol → Bool
ends_expression symbol.Semicolon = true
ends_expression symbol.Comma = true
ends_expression symbol.CloseParen = true
ends_expression symbol.CloseBrace = true
ends_expression symbol.End = true
ends_expression _ = false

abbrev pub EndsExpression : Symbol → Type 0
EndsExpression q = ends_expression q ≡ true

pub ends_reach : (q : Symbol) → ends_expression q ≡ true → 6 < reach true q
ends_reach symbol.Semicolon e = omega arith
ends_reach symbol.Comma e = omega arith
ends_reach symbol.CloseParen e = omega arith
ends_reach symbol.CloseBrace e = omega arith
ends_reach symbol.End e = omega arith
ends_reach _ e = absurd (cc)

pub ends_setting : (q : Symbol) → ends_expression q ≡ true → setting q ≡ None
ends_setting symbol.Semicolon e = refl
ends_setting symbol.Comma e = refl
ends_setting symbol.CloseParen e = refl
ends_setting symbol.CloseBrace e = refl
ends_setting symbol.End e = refl
ends_setting _ e = absurd (cc)

pub ends_begins : (q : Symbol) → ends_expression q ≡ true → begins_expression q ≡ false
ends_begins symbol.Semicolon e = refl
ends_begins symbol.Comma e = refl
ends_begins symbol.CloseParen e = refl
ends_begins symbol.CloseBrace e = refl
ends_begins symbol.End e = refl
ends_begins _ e = absurd (cc)

-- a symbol that reaches no further isn't next
pub not_next : (f : Bool) (j : ℕ) (p q : Symbol) → j < reach f p → reach f q ≤ j → p ≢ q
not_next f j p q a b e = let z : reach f p ≡ reach f q = ap (reach f) e in omega arith

operator_reach : (f : Bool) (q : Symbol) → (strength q ≡ 0) ⊎ (reach f q ≡ suc (strength q))
operator_reach f symbol.Star = inr refl
operator_reach f symbol.Slash = inr refl
operator_reach f symbol.Percent = inr refl
operator_reach f symbol.Plus = inr refl
operator_reach f symbol.Minus = inr refl
operator_reach f symbol.EqualEqual = inr refl
operator_reach f symbol.NotEqual = inr refl
operator_reach f symbol.Less = inr refl
operator_reach f symbol.LessEqual = inr refl
operator_reach f symbol.Greater = inr refl
operator_reach f symbol.GreaterEqual = inr refl
operator_reach f symbol.AndAnd = inr refl
operator_reach f symbol.OrOr = inr refl
operator_reach f _ = inl refl

strong_reach : (f : Bool) (q : Symbol) (j : ℕ) → strength q ≡ suc j → reach f q ≡ suc (suc j)
strong_reach f q j e = elim (operator_reach f q) [
  | inl z ↦ absurd (omega arith)
  | inr z ↦ z ∙ ap suc e
]

-- an operator reaches just its strength
pub operator_follows : (f : Bool) (q : Symbol) (j : ℕ) (o : BinaryOp) → operator_at (suc j) q ≡ Some o → suc j < reach f q
operator_follows f q j o e = let z = strong_reach f q j (operator_strength (suc j) q o e) in omega arith

pub no_operator_next : (f : Bool) (q : Symbol) (j : ℕ) → suc (suc j) < reach f q → operator_at (suc j) q ≡ None
no_operator_next f q j b = no_operator (suc j) q (λ e. let z = strong_reach f q j e in omega arith)

-- ---- chains

abbrev pub Step : Type 0
Step = Got Expression → Symbol → Option (Parser (Got Expression))

pub chain_stops : (step : Step) (n : ℕ) (l : Got Expression) (i : List Tok) → step l (peek i) ≡ None → chain step n l i ≡ Ok (l, i)
unfolding chain
chain_stops step zero l i e = refl
chain_stops step (suc n) l i e = ap (λ o. chain_by (chain step n) l o i) e

pub chain_goes : (step : Step) (n : ℕ) (l y : Got Expression) (i j : List Tok) (p : Parser (Got Expression)) → step l (peek i) ≡ Some p → p i ≡ Ok (y, j) → chain step (suc n) l i ≡ chain step n y j
unfolding chain
chain_goes step n l y i j p s e = ap (λ o. chain_by (chain step n) l o i) s ∙ ap (λ o. and_then o (chain step n)) e

-- an operand is read, and the chain goes on behind it
pub record Goes (P : Parser (Got Expression)) (step : Step) (ts : List Tok) (x : Expression) (h : ℕ) (rest : List Tok) : Type 0 where
  pub enough : ℕ
  pub big : length rest ≤ enough
  pub goes : P (ts ++ rest) ≡ chain step enough (got ts x h) rest

pub goes_first : (p : Parser (Got Expression)) (step : Step) (ts : List Tok) (x : Expression) (h : ℕ) (rest : List Tok) → Reads p ts (got ts x h) rest
    → Goes (p >>= (λ l i. chain step (length i) l i)) step ts x h rest
goes_first p step ts x h rest r = record { enough = length rest; big = omega arith; goes = ap (λ o. and_then o (λ l i. chain step (length i) l i)) r.read }

pub goes_further : (P : Parser (Got Expression)) (step : Step) (us ws : List Tok) (x y : Expression) (m n : ℕ) (rest : List Tok) (p : Parser (Got Expression)) → ws ≢ [] → Goes P step us x m (ws ++ rest)
    → step (got us x m) (peek (ws ++ rest)) ≡ Some p → Reads p ws (got (us ++ ws) y n) rest → Goes P step (us ++ ws) y n rest
goes_further P step us ws x y m n rest p some q s r =
    let l = some_length ws some in
    let b = q.big in
    let e : q.enough ≡ suc (q.enough - 1) = omega (arith, length-append ws rest) in
    record {
      enough = q.enough - 1;
      big = omega (arith, length-append ws rest);
      goes = ap P (append_assoc us ws rest) ∙ q.goes ∙ ap (λ k. chain step k (got us x m) (ws ++ rest)) e ∙ chain_goes step (q.enough - 1) (got us x m) (got (us ++ ws) y n) (ws ++ rest) rest p s r.read;
    }

pub goes_until : (P : Parser (Got Expression)) (step : Step) (ts : List Tok) (x : Expression) (h : ℕ) (rest : List Tok) → Goes P step ts x h rest → step (got ts x h) (peek rest) ≡ None → Reads P ts (got ts x h) rest
goes_until P step ts x h rest q e = record { read = q.goes ∙ chain_stops step q.enough (got ts x h) rest e }

pub goes_along : {P : Parser (Got Expression)} {step : Step} {ts : List Tok} {h : ℕ} {rest : List Tok} (f : List Tok → Expression) (us : List Tok) → ts ≡ us → Goes P step us (f us) h rest → Goes P step ts (f ts) h rest
goes_along {P = P} {step = step} {h = h} {rest = rest} f us e q = subst (λ z. Goes P step z (f z) h rest) (sym e) q
