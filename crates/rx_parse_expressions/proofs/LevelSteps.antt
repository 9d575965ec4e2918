-- The parsers of so many levels, by whether there is one: each is its own equation.
use Rattle.std.proofs.Common.{◌≡◌, ℕ, suc, zero, ◌-◌, ◌<◌, true, false, List, length, Err, refl, subst, arith}
use Rattle.rx_lex.specs.Tok.{Tok}
use Rattle.rx_parse_grammar.specs.declared.stop.Stop.TheVariants.{Syntax, TooDeep}
use Rattle.rx_parse_grammar.specs.parser.Symbols.{peek}
use Rattle.rx_parse_grammar.specs.parser.Blocks.{operand, whole, like, block, block_of, opens}
use Rattle.rx_parse_choices.specs.declared.wanted.Wanted.{Wanted}
use Rattle.rx_parse_choices.specs.declared.wanted.Wanted.TheVariants.{Operand, Whole, Like}
use Rattle.rx_parse_choices.specs.Wants.{wanted_of, begins_wanted}
use Rattle.rx_parse_expressions.specs.Nests.{level_of}

above : (w : Wanted) (d : ℕ) (i : List Tok) → wanted_of w (suc d) i ≡ level_of w d i
unfolding operand whole like
above (Operand f j) d i = refl
above Whole d i = refl
above Like d i = refl

pub wanted_above : (w : Wanted) (d : ℕ) (i : List Tok) → 0 < d → wanted_of w d i ≡ level_of w (d - 1) i
wanted_above w zero i some = absurd (omega arith)
wanted_above w (suc d) i some = let e : d ≡ suc d - 1 = omega arith in subst (λ z. wanted_of w (suc d) i ≡ level_of w z i) e (above w d i)

-- without a level
pub wanted_deep : (w : Wanted) (d : ℕ) (i : List Tok) → d ≡ 0 → begins_wanted w (peek i) ≡ true → wanted_of w d i ≡ Err (TooDeep (length i))
unfolding operand whole like
wanted_deep (Operand f j) d i z b = rw (z, b)
wanted_deep Whole d i z b = rw (z, b)
wanted_deep Like d i z b = rw (z, b)

pub wanted_other : (w : Wanted) (d : ℕ) (i : List Tok) → d ≡ 0 → begins_wanted w (peek i) ≡ false → wanted_of w d i ≡ Err (Syntax (length i))
unfolding operand whole like
wanted_other (Operand f j) d i z b = rw (z, b)
wanted_other Whole d i z b = rw (z, b)
wanted_other Like d i z b = rw (z, b)

-- ---- blocks

pub block_above : (d : ℕ) (i : List Tok) → 0 < d → block d i ≡ block_of (whole (d - 1)) (like (d - 1)) (d - 1) i
unfolding block
block_above zero i some = absurd (omega arith)
block_above (suc d) i some = let e : d ≡ suc d - 1 = omega arith in subst (λ z. block (suc d) i ≡ block_of (whole z) (like z) z i) e refl

pub block_deep : (d : ℕ) (i : List Tok) → d ≡ 0 → opens (peek i) ≡ true → block d i ≡ Err (TooDeep (length i))
unfolding block
block_deep d i z b = rw (z, b)

pub block_other : (d : ℕ) (i : List Tok) → d ≡ 0 → opens (peek i) ≡ false → block d i ≡ Err (Syntax (length i))
unfolding block
block_other d i z b = rw (z, b)
