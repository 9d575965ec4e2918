-- What goes on behind an operand on the left is derived: step by step.
use Rattle.std.proofs.Common.{◌≡◌, ℕ, zero, suc, List, [], ◌++◌, length, Option, Some, None, refl, sym, subst, append_assoc, append-nil}
use Rattle.rx_tree.specs.Plain.{Expression}
use Rattle.rx_lex.specs.Tok.{Tok}
use Rattle.rx_parse_grammar.specs.declared.symbol.Symbol.{Symbol}
use Rattle.rx_parse_grammar.specs.parser.Steps.{Parser, Got, ◌>>=◌}
use Rattle.rx_parse_grammar.specs.parser.Expressions.{chain, chain_by}
use Rattle.rx_parse_grammar.proofs.Deriving.{Derives, passed, gave, chose, as_also}

-- a step behind an operand gives a longer one
abbrev pub StepsDerive : (List Tok → Got Expression → Type 0) → (Got Expression → Symbol → Option (Parser (Got Expression))) → Type 0
StepsDerive E step = (us : List Tok) (l : Got Expression) (q : Symbol) (p : Parser (Got Expression)) → E us l → step l q ≡ Some p → Derives p (λ vs x. E (us ++ vs) x)

pub ended : (E : List Tok → Got Expression → Type 0) (us : List Tok) (l : Got Expression) → E us l → E (us ++ []) l
ended E us l e = subst (λ z. E z l) (sym (append-nil us)) e

chain_by_derived : (E : List Tok → Got Expression → Type 0) (again : Got Expression → Parser (Got Expression)) (us : List Tok) (l : Got Expression) (o : Option (Parser (Got Expression))) → E us l
    → ((p : Parser (Got Expression)) → o ≡ Some p → Derives p (λ vs x. E (us ++ vs) x)) → ((us : List Tok) (l : Got Expression) → E us l → Derives (again l) (λ vs x. E (us ++ vs) x))
    → Derives (chain_by again l o) (λ vs x. E (us ++ vs) x)
chain_by_derived E again us l None e step more = gave (ended E us l e)
chain_by_derived E again us l (Some p) e step more = passed (step p refl) (λ vs x m. as_also (λ ws y n. subst (λ z. E z y) (append_assoc us vs ws) n) (more (us ++ vs) x m))

pub chain_derived : (E : List Tok → Got Expression → Type 0) (step : Got Expression → Symbol → Option (Parser (Got Expression))) → StepsDerive E step → (n : ℕ) (us : List Tok) (l : Got Expression) → E us l
    → Derives (chain step n l) (λ vs x. E (us ++ vs) x)
unfolding chain
chain_derived E step ok zero us l e = gave (ended E us l e)
chain_derived E step ok (suc n) us l e =
    chose (λ q. chain_by (chain step n) l (step l q)) (λ q. chain_by_derived E (chain step n) us l (step l q) e (λ p s. ok us l q p e s) (chain_derived E step ok n))

-- an operand and what goes on behind it, in so many turns as the tokens tell
pub chained_derived : (D E : List Tok → Got Expression → Type 0) (step : Got Expression → Symbol → Option (Parser (Got Expression))) (p : Parser (Got Expression)) (turns : ℕ → ℕ) → Derives p D
    → ((us : List Tok) (l : Got Expression) → D us l → E us l) → StepsDerive E step → Derives (p >>= (λ l i. chain step (turns (length i)) l i)) E
chained_derived D E step p turns a b c = passed a (λ us l d. record { derive = λ i r x e. (chain_derived E step c (turns (length i)) us l (b us l d)).derive i r x e })

-- one step at most
pub once_derived : (E : List Tok → Got Expression → Type 0) (step : Got Expression → Symbol → Option (Parser (Got Expression))) (us : List Tok) (l : Got Expression) → E us l
    → ((q : Symbol) (p : Parser (Got Expression)) → step l q ≡ Some p → Derives p (λ vs x. E (us ++ vs) x)) → Derives (chain step 1 l) (λ vs x. E (us ++ vs) x)
unfolding chain
once_derived E step us l e ok =
    chose (λ q. chain_by (chain step zero) l (step l q)) (λ q. chain_by_derived E (chain step zero) us l (step l q) e (λ p s. ok q p s) (λ us l e. gave (ended E us l e)))
