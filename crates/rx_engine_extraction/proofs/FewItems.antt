-- A text has no more items than bytes: each has a token.
use Rattle.std.proofs.Common.{◌≡◌, ℕ, zero, suc, ◌+◌, ◌≤◌, ◌<◌, List, [], ◌∷◌, ◌++◌, length, Some, ap, arith, length-append}
use Rattle.rx_lex.specs.Tok.{Tok}
use Rattle.rx_lex.proofs.TokenLaws.{Ordered, tokens_in_order}
use Rattle.rx_tree.specs.Lists.{nth}
use Rattle.rx_tree.specs.Plain.{ItemTree, ProgramTree}
use Rattle.rx_parse_grammar.specs.grammar.Items as g
use Rattle.rx_parse_grammar.specs.grammar.Items.{IsItem, IsFile, Parses}

item_some : {ts : List Tok} {i : ItemTree} {h : ℕ} → IsItem ts i h → 1 ≤ length ts
item_some (g.rt m r z sm sr sz is) = let w = ap length is in omega arith
item_some (g.structure t n o c ds ls us xs l fs h st sn so sc d ll r is) = let w = ap length is in omega
    (arith, length-append ds (t ∷ n ∷ (ls ++ (o ∷ (us ++ (c ∷ []))))))
item_some (g.enumeration t n o c ds ls us xs l v vs h st sn so sc d ll r is) = let w = ap length is in omega
    (arith, length-append ds (t ∷ n ∷ (ls ++ (o ∷ (us ++ (c ∷ []))))))
item_some (g.function f n o c ls us rs bs l ps r b h i k sf sn so sc ll pp rr bb is) = let w = ap length is in omega
    arith

items_few : {ts : List Tok} {p : ProgramTree} {h : ℕ} → IsFile ts p h → length p ≤ length ts
items_few g.no_item = omega arith
items_few (g.item_and us vs a is m n r more e) = let z = items_few more in let y = item_some r in let w = ap length
    e in omega (arith, length-append us vs)

ordered_short : (from to : ℕ) (ts : List Tok) → Ordered from to ts → from + length ts ≤ to
ordered_short from to [] o = omega (arith, o)
ordered_short from to (t ∷ ts) o = let z = ordered_short t.span.end to ts o.2 in omega (arith, z, o.0, o.1)

text_few : (bytes : List ℕ) (p : ProgramTree) → Parses bytes p → length p ≤ length bytes
text_few bytes p q =
    let z = ordered_short 0 (0 + length bytes) q.tokens (tokens_in_order 0 bytes q.tokens q.lexed.tokens) in
    let y = items_few q.derived in omega (arith, z, y)

within : (p : ProgramTree) (n : ℕ) (i : ItemTree) → nth p n ≡ Some i → n < length p
within [] n i e = absurd (cc)
within (j ∷ is) zero i e = omega arith
within (j ∷ is) (suc n) i e = let h = within is n i e in omega (arith, h)

-- so its number, and the two behind it, are below the bytes of a text and three
pub item_below : (bytes : List ℕ) (p : ProgramTree) (n : ℕ) (i : ItemTree) → Parses bytes p → nth p n ≡ Some i → n < length bytes
item_below bytes p n i q e = let a = text_few bytes p q in let b = within p n i e in omega (arith, a, b)
