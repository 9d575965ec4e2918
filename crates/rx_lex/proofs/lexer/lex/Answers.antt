use Rattle.std.proofs.Common.{subst}
use Rattle.rx_lex.specs.Tokens.{Tokens}
use Rattle.rx_lex.specs.Tok.{toks}
use Rattle.rx_lex.specs.Lexing.{FaultOf}
use Rattle.rx_lex.proofs.TokenLaws.{tokens_unique}
use Rattle.rx_lex.proofs.Reading.{only_memory}
use Rattle.rx_lex.proofs.lexer.lex.Goals as goal

pub returns-in-Ok-read_tokens-clause-only : goal.returns-in-Ok-read_tokens-clause-only
returns-in-Ok-read_tokens-clause-only c =
    let tokens = subst (λ l. Tokens 0 l (toks c.in-Ok-read_tokens.list)) c.in-Ok.ensures.cases.0 c.in-Ok-read_tokens.ensures.tokens in
    λ ts h. tokens_unique 0 c.args.bytes.now (toks c.in-Ok-read_tokens.list) ts tokens h.tokens

pub returns-in-Err-read_tokens-clause-only : goal.returns-in-Err-read_tokens-clause-only
returns-in-Err-read_tokens-clause-only c =
    only_memory c.in-Err-read_tokens.fault c.args.bytes.now (subst (FaultOf c.in-Err-read_tokens.fault) c.in-Ok.ensures.cases.0 c.in-Err-read_tokens.ensures.fault)
