-- What stands behind a dot, apart from what stands before it.
use Rattle.std.specs.Prelude.{ℕ}
use Rattle.rx_core.specs.declared.types.Span.{Span}
use Rattle.rx_lex.specs.Tok.{Tok, tok}
use Rattle.rx_parse_grammar.specs.declared.symbol.Symbol.{Symbol}
use Rattle.rx_parse_grammar.specs.declared.symbol.Symbol.TheVariants as symbol
use Rattle.rx_parse_grammar.specs.parser.Steps.{Parser, ◌>>=◌, ◌>>◌, pure, refuse, next, expect, within}
use Rattle.rx_parse_grammar.specs.parser.Numbers.{index}
use Rattle.rx_parse_choices.specs.declared.members.Member.{Member}
use Rattle.rx_parse_choices.specs.declared.members.Member.TheVariants.{Field, Part}

-- a field by its name, or a part by its number
pub data MemberTree : Type 0 where
  field : Tok → MemberTree
  part : ℕ → Span → MemberTree

abbrev pub member_of : Member → MemberTree
member_of (Field n) = field (tok n)
member_of (Part v s) = part v s

abbrev pub behind_by : Symbol → Parser MemberTree
behind_by symbol.Name = expect symbol.Name >>= (λ n. pure (field n))
behind_by symbol.Number = index >>= (λ v. pure (part v.0 v.1))
behind_by _ = refuse

-- behind so many levels, where so many may stand below
unfoldable pub behind : ℕ → ℕ → Parser MemberTree
behind h d = within h d (expect symbol.Dot >> next >>= behind_by)
