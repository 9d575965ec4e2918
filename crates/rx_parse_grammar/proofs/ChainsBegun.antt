-- What the tokens begin that a chain of steps behind an operand passed before it stopped.
use Rattle.rx_parse_grammar.proofs.ChainsDerived.{ended}
use Rattle.std.proofs.Common.{◌≡◌, ℕ, zero, suc, List, ◌++◌, length, Option, Some, None, refl, subst, append_assoc}
use Rattle.rx_tree.specs.Plain.{Expression}
use Rattle.rx_lex.specs.Tok.{Tok}
use Rattle.rx_parse_grammar.specs.declared.symbol.Symbol.{Symbol}
use Rattle.rx_parse_grammar.specs.parser.Steps.{Parser, Got, ◌>>=◌}
use Rattle.rx_parse_grammar.specs.parser.Expressions.{chain, chain_by}
use Rattle.rx_parse_grammar.proofs.Begun.{passed, gave, chose, as_also, Known, any, at, Begun, passed_at}

-- a step behind an operand gives a longer one
abbrev pub StepsBegun : (List Tok → Got Expression → Type 0) → (Got Expression → Symbol → Option (Parser (Got Expression))) → Type 0
StepsBegun E step = (us : List Tok) (l : Got Expression) (q : Symbol) (p : Parser (Got Expression)) → E us l → step l q ≡ Some p → Begun (at q) p (λ vs x. E (us ++ vs) x)

chain_by_begun : {K : Known} (E : List Tok → Got Expression → Type 0) (again : Got Expression → Parser (Got Expression)) (us : List Tok) (l : Got Expression) (o : Option (Parser (Got Expression))) → E us l
    → ((p : Parser (Got Expression)) → o ≡ Some p → Begun K p (λ vs x. E (us ++ vs) x)) → ((us : List Tok) (l : Got Expression) → E us l → Begun any (again l) (λ vs x. E (us ++ vs) x))
    → Begun K (chain_by again l o) (λ vs x. E (us ++ vs) x)
chain_by_begun E again us l None e step more = gave (ended E us l e)
chain_by_begun E again us l (Some p) e step more = passed_at (step p refl) (λ vs x m. as_also (λ ws y n. subst (λ z. E z y) (append_assoc us vs ws) n) (more (us ++ vs) x m))

pub chain_begun : {K : Known} (E : List Tok → Got Expression → Type 0) (step : Got Expression → Symbol → Option (Parser (Got Expression))) → StepsBegun E step → (n : ℕ) (us : List Tok) (l : Got Expression) → E us l
    → Begun K (chain step n l) (λ vs x. E (us ++ vs) x)
unfolding chain
chain_begun E step ok zero us l e = gave (ended E us l e)
chain_begun E step ok (suc n) us l e =
    chose (λ q. chain_by (chain step n) l (step l q)) (λ q. chain_by_begun E (chain step n) us l (step l q) e (λ p s. ok us l q p e s) (chain_begun E step ok n))

-- an operand and what goes on behind it, in so many turns as the tokens tell
pub chained_begun : {K : Known} (D E : List Tok → Got Expression → Type 0) (step : Got Expression → Symbol → Option (Parser (Got Expression))) (p : Parser (Got Expression)) (turns : ℕ → ℕ) → Begun any p D
    → ((us : List Tok) (l : Got Expression) → D us l → E us l) → StepsBegun E step → Begun K (p >>= (λ l i. chain step (turns (length i)) l i)) E
chained_begun D E step p turns a b c = passed a (λ us l d. record { goes = λ i k. (chain_begun {K = any} E step c (turns (length i)) us l (b us l d)).goes i k; some = (chain_begun {K = any} E step c 0 us l (b us l d)).some })

-- one step at most
pub once_begun : {K : Known} (E : List Tok → Got Expression → Type 0) (step : Got Expression → Symbol → Option (Parser (Got Expression))) (us : List Tok) (l : Got Expression) → E us l
    → ((q : Symbol) (p : Parser (Got Expression)) → step l q ≡ Some p → Begun (at q) p (λ vs x. E (us ++ vs) x)) → Begun K (chain step 1 l) (λ vs x. E (us ++ vs) x)
unfolding chain
once_begun E step us l e ok =
    chose (λ q. chain_by (chain step zero) l (step l q)) (λ q. chain_by_begun E (chain step zero) us l (step l q) e (λ p s. ok q p s) (λ us l e. gave (ended E us l e)))
