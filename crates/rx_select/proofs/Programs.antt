-- The items of a text stand in order among its tokens, and so does all that is in them: by induction on the derivation of the file.
use Rattle.std.proofs.Common.{◌≡◌, ℕ, ◌+◌, List, [], ◌∷◌, ◌++◌, Option, map, length, subst, arith}
use Rattle.rx_tree.specs.Plain.{TypeTree, Parameter, FieldOf, VariantOf, ItemTree, ProgramTree}
use Rattle.rx_tree.specs.Lists.{Every}
use Rattle.rx_tree.specs.Positions.{NodeTree, an_item, a_type, a_block, parameter_nodes, optional_type_nodes}
use Rattle.rx_tree.specs.Nodes.{within_declared, within_variants}
use Rattle.rx_tree.proofs.NodesLaws.{every_both}
use Rattle.rx_lex.specs.Tok.{Tok}
use Rattle.rx_lex.specs.Tokens.{Lexes}
use Rattle.rx_lex.proofs.TokenLaws.{Ordered, tokens_in_order, lexes_one}
use Rattle.rx_parse_grammar.specs.grammar.Words.{IsListOf, no_element, last_element, element}
use Rattle.rx_parse_grammar.specs.grammar.Items as items
use Rattle.rx_parse_grammar.specs.grammar.Items.{IsParameter, IsResult, IsItem, IsFile, Parses}
use Rattle.rx_select.specs.OneText.{OneText}
use Rattle.rx_select.proofs.Tokens.{each_long, last_end, Inside, inside_is, inside_left, inside_right, inside_back, inside_after}
use Rattle.rx_select.proofs.Rows.{Laid, Stands, Row, row_none, row_and, row_near, row_one, stands}
use Rattle.rx_select.proofs.Nodes.{some_first, some_middle, tight, type_laid, types_laid, type_placed}
use Rattle.rx_select.proofs.Placing.{Text, block_placed}

-- ---- signatures

parameter_placed : {all : List Tok} {from to : ℕ} {ts : List Tok} {x : Parameter} {h : ℕ} → IsParameter ts x h → Inside all from to ts → Stands all from to (a_type x.typ)
parameter_placed {all} (items.parameter ms us n c m y h sm sn sc r is) i =
    type_placed r (inside_back all _ _ (n ∷ c ∷ []) us (inside_back all _ _ ms (n ∷ c ∷ us) (inside_is all _ _ _ _ is i)))

parameters_row : {all : List Tok} {from at to : ℕ} {ts : List Tok} {xs : List Parameter} {h : ℕ} (cs : List NodeTree) → IsListOf IsParameter ts xs h → Inside all from at ts → Row all at to cs
    → Row all from to (parameter_nodes xs ++ cs)
parameters_row {all} {from} {at} {to} cs no_element i r = row_near all at from to cs i.ordered r
parameters_row {all} cs (last_element {x = x} d) i r = row_and all _ _ _ (a_type x.typ) cs (parameter_placed d i) r
parameters_row {all} {from} {at} {to} cs (element us vs c x xs m n d s more is) i r =
    let w = inside_is all _ _ _ _ is i in
    row_and all _ _ _ (a_type x.typ) (parameter_nodes xs ++ cs) (parameter_placed d (inside_left all _ _ us (c ∷ vs) w))
    (parameters_row {from = last_end from us} cs more (inside_after all _ _ c vs (inside_right all _ _ us (c ∷ vs) w)) r)

result_row : {all : List Tok} {from at to : ℕ} {ts : List Tok} {y : Option TypeTree} {h : ℕ} (cs : List NodeTree) → IsResult ts y h → Inside all from at ts → Row all at to cs
    → Row all from to (optional_type_nodes y ++ cs)
result_row {all} {from} {at} {to} cs items.no_result i r = row_near all at from to cs i.ordered r
result_row {all} cs (items.result a us y h s d is) i r =
    row_and all _ _ _ (a_type y) cs (type_placed d (inside_after all _ _ a us (inside_is all _ _ _ _ is i))) r

-- ---- items

declared_laid : (all : List Tok) (fs : List FieldOf) → Every (Laid all) (within_declared fs)
declared_laid all [] = tt
declared_laid all (f ∷ fs) = (tt, every_both (Laid all) _ (within_declared fs) (type_laid all f.typ) (declared_laid all fs))

variants_laid : (all : List Tok) (vs : List VariantOf) → Every (Laid all) (within_variants vs)
variants_laid all [] = tt
variants_laid all (v ∷ vs) = every_both (Laid all) _ (within_variants vs) (types_laid all v.types) (variants_laid all vs)

item_placed : {all : List Tok} {top from to : ℕ} {ts : List Tok} {a : ItemTree} {h : ℕ} → Text all top → IsItem ts a h → Inside all from to ts → Stands all from to (an_item a)
item_placed {all} z (items.rt m r e km kr ke is) i =
    let k = tight (some_first m _ _ is) i in
    record { starts = k.starts; long = k.long; ends = k.ends; laid = (tt, tt) }
item_placed {all} z (items.structure t n o c ds ls us xs l fs h kt kn ko kc dd dl df is) i =
    let k = tight (some_middle ds _ _ t is) i in
    record { starts = k.starts; long = k.long; ends = k.ends; laid = (tt, declared_laid all fs) }
item_placed {all} z (items.enumeration t n o c ds ls us xs l v vs h kt kn ko kc dd dl dv is) i =
    let k = tight (some_middle ds _ _ t is) i in
    record { starts = k.starts; long = k.long; ends = k.ends; laid = (tt, variants_laid all (v ∷ vs)) }
item_placed {all} {ts = ts} {a = a} z (items.function f n o c ls us rs bs l ps r b h j q kf kn ko kc dl dp dr db is) i =
    let k = tight (some_first f _ _ is) i in
    let w = inside_is all _ _ _ _ is k.inside in
    let v = inside_after all _ _ o (us ++ (c ∷ (rs ++ bs))) (inside_back all _ _ ls (o ∷ (us ++ (c ∷ (rs ++ bs)))) (inside_back all _ _ (f ∷ n ∷ []) (ls ++ (o ∷ (us ++ (c ∷ (rs ++ bs))))) w)) in
    let u = inside_after all _ _ c (rs ++ bs) (inside_right all _ _ us (c ∷ (rs ++ bs)) v) in
    let row = parameters_row (optional_type_nodes r ++ (a_block b ∷ [])) dp (inside_left all _ _ us (c ∷ (rs ++ bs)) v)
    (result_row (a_block b ∷ []) dr (inside_left all _ _ rs bs u) (row_one all _ _ (a_block b) (block_placed z db (inside_right all _ _ rs bs u)))) in
    stands all _ _ (an_item a) k.starts k.long k.ends row.ordered row

file_placed : {all : List Tok} {top from to : ℕ} {ts : List Tok} {p : ProgramTree} {h : ℕ} → Text all top → IsFile ts p h → Inside all from to ts → Row all from to (map an_item p)
file_placed {all} z items.no_item i = row_none all _ _ i.ordered
file_placed {all} {from = from} z (items.item_and us vs a is m n d ds e) i =
    let w = inside_is all _ _ _ _ e i in
    row_and all _ _ _ (an_item a) (map an_item is) (item_placed z d (inside_left all _ _ us vs w)) (file_placed {from = last_end from us} z ds (inside_right all _ _ us vs w))

-- ---- texts

-- a program among the tokens of its text
pub record Placed (ts : List Tok) (bytes : ℕ) (p : ProgramTree) : Type 0 where
  pub text : Text ts bytes
  pub row : Row ts 0 bytes (map an_item p)

parses_placed : (bytes : List ℕ) (ts : List Tok) (p : ProgramTree) → Lexes bytes ts → Parses bytes p → Placed ts (length bytes) p
parses_placed bytes ts p l x =
    let n : 0 + length bytes ≡ length bytes = omega arith in
    let o = subst (λ n. Ordered 0 n x.tokens) n (tokens_in_order 0 bytes x.tokens x.lexed.tokens) in
    let z : Text x.tokens (length bytes) = record { ordered = o; long = each_long x.lexed.tokens } in
    let r : Placed x.tokens (length bytes) p = record { text = z; row = file_placed z x.derived (record { ordered = o; is = λ t i. i }) } in
    subst (λ (k : List Tok). Placed k (length bytes) p) (lexes_one bytes x.tokens ts x.lexed l) r

pub placed : (ts : List Tok) (bytes : ℕ) (p : ProgramTree) → OneText ts bytes p → Placed ts bytes p
placed ts bytes p x = subst (λ n. Placed ts n p) x.long (parses_placed x.text ts p x.lexed x.parsed)
