-- Steps of the parser of members, for the goals of the code.
use Rattle.std.proofs.Common.{◌≡◌, ℕ, suc, Bool, true, false, cond, List, Some, None, Ok, Err, refl, ap, ◌∙◌}
use Rattle.std.specs.Prelude.{◌≢◌, nat_lt, length}
use Rattle.rx_core.specs.declared.types.Span.{Span}
use Rattle.rx_tree.specs.Plain.{Expression}
use Rattle.rx_lex.specs.Tok.{Tok}
use Rattle.rx_parse_grammar.specs.declared.stop.Stop.{Stop}
use Rattle.rx_parse_grammar.specs.declared.stop.Stop.TheVariants.{TooDeep}
use Rattle.rx_parse_grammar.specs.declared.symbol.Symbol.{Symbol}
use Rattle.rx_parse_grammar.specs.declared.symbol.Symbol.TheVariants as symbol
use Rattle.rx_parse_grammar.specs.parser.Symbols.{peek}
use Rattle.rx_parse_grammar.specs.parser.Steps.{Outcome, Got, and_then, expect}
use Rattle.rx_parse_grammar.specs.parser.Numbers.{index}
use Rattle.rx_parse_grammar.specs.parser.Expressions as spec
use Rattle.rx_parse_grammar.specs.parser.Blocks.{operand, whole, like, block}
use Rattle.rx_parse_expressions.specs.Levels.{member_step}
use Rattle.rx_parse_choices.specs.Members.{MemberTree, field, part, behind, behind_by}
use Rattle.rx_parse_expressions.specs.Members.{with_member, member}

abbrev grammar_member : ℕ → Got Expression → List Tok → Outcome (Got Expression)
grammar_member b = spec.member (operand b) (whole b) (like b) (block b) b

abbrev member_by : ℕ → Got Expression → Symbol → List Tok → Outcome (Got Expression)
member_by b = spec.member_by (operand b) (whole b) (like b) (block b) b

abbrev whole_member : Got Expression → Outcome MemberTree → Outcome (Got Expression)
whole_member l o = and_then o (λ m j. Ok (with_member l m, j))

taken : (l : Got Expression) (o : Outcome Tok) → and_then o (λ n j. Ok (with_member l (field n), j)) ≡ whole_member l (and_then o (λ n j. Ok (field n, j)))
taken l (Ok p) = refl
taken l (Err e) = refl

counted : (l : Got Expression) (o : Outcome (ℕ × Span)) → and_then o (λ v j. Ok (with_member l (part v.0 v.1), j)) ≡ whole_member l (and_then o (λ v j. Ok (part v.0 v.1, j)))
counted l (Ok p) = refl
counted l (Err e) = refl

by_symbol : (b : ℕ) (l : Got Expression) (q : Symbol) (i : List Tok) → member_by b l q i ≡ whole_member l (behind_by q i)
by_symbol b l symbol.Name i = taken l (expect symbol.Name i)
by_symbol b l symbol.Number i = counted l (index i)
by_symbol b l _ i = refl

dotted : (b : ℕ) (l : Got Expression) (o : Outcome Tok) → and_then o (λ t j. member_by b l (peek j) j) ≡ whole_member l (and_then o (λ t j. behind_by (peek j) j))
dotted b l (Ok p) = by_symbol b l (peek p.1) p.1
dotted b l (Err e) = refl

roomy : (b : ℕ) (l : Got Expression) (i : List Tok) (x : Bool)
    → cond x (Err (TooDeep (length i))) (and_then (expect symbol.Dot i) (λ t j. member_by b l (peek j) j))
    ≡ whole_member l (cond x (Err (TooDeep (length i))) (and_then (expect symbol.Dot i) (λ t j. behind_by (peek j) j)))
roomy b l i true = refl
roomy b l i false = dotted b l (expect symbol.Dot i)

member_is : (b : ℕ) (l : Got Expression) (i : List Tok) → grammar_member b l i ≡ member b l i
unfolding spec.member behind member
member_is b l i = roomy b l i (nat_lt b l.height)

-- ---- the chain

step_is : (b : ℕ) (l : Got Expression) (q : Symbol) → q ≡ symbol.Dot → member_step b l q ≡ Some (grammar_member b l)
step_is b l q e = ap (member_step b l) e

pub chain_more : (b n : ℕ) (l x : Got Expression) (i j : List Tok) → peek i ≡ symbol.Dot → member b l i ≡ Ok (x, j)
    → spec.chain (member_step b) (suc n) l i ≡ spec.chain (member_step b) n x j
unfolding spec.chain
chain_more b n l x i j p e =
    ap (λ o. spec.chain_by (spec.chain (member_step b) n) l o i) (step_is b l (peek i) p) ∙ ap (λ o. and_then o (spec.chain (member_step b) n)) (member_is b l i ∙ e)

pub chain_fault : (b n : ℕ) (l : Got Expression) (i : List Tok) (f : Stop) → peek i ≡ symbol.Dot → member b l i ≡ Err f
    → spec.chain (member_step b) (suc n) l i ≡ Err f
unfolding spec.chain
chain_fault b n l i f p e =
    ap (λ o. spec.chain_by (spec.chain (member_step b) n) l o i) (step_is b l (peek i) p) ∙ ap (λ o. and_then o (spec.chain (member_step b) n)) (member_is b l i ∙ e)

step_none : (b : ℕ) (l : Got Expression) (q : Symbol) → q ≢ symbol.Dot → member_step b l q ≡ None
step_none b l symbol.Dot n = absurd (n refl)
step_none b l _ n = refl

pub chain_end : (b n : ℕ) (l : Got Expression) (i : List Tok) → peek i ≢ symbol.Dot → spec.chain (member_step b) (suc n) l i ≡ Ok (l, i)
unfolding spec.chain
chain_end b n l i p = ap (λ o. spec.chain_by (spec.chain (member_step b) n) l o i) (step_none b l (peek i) p)

pub chain_over : (b : ℕ) (l : Got Expression) (i : List Tok) → spec.chain (member_step b) 0 l i ≡ Ok (l, i)
unfolding spec.chain
chain_over b l i = refl
