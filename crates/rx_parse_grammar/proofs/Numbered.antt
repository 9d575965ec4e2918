-- The program of fewer than 2^32 tokens, or of a text of fewer bytes, meets the premise on a program's size.
use Rattle.std.proofs.Common.{◌≡◌, ℕ, ◌+◌, ◌≤◌, ◌<◌, ◌^◌, List, [], ◌∷◌, ◌++◌, length, Option, refl, sym, ap, subst, ◌∙◌, arith, append_assoc, append-nil, length-append}
use Rattle.rx_tree.specs.declared.tree.Ident.{Ident}
use Rattle.rx_tree.specs.declared.tree.Derive.{Derive}
use Rattle.rx_tree.specs.declared.tree.BoundLifetime.{BoundLifetime}
use Rattle.rx_tree.specs.Plain as plain
use Rattle.rx_tree.specs.Plain.{TypeTree, Body, Parameter, FieldOf, VariantOf, ItemTree, ProgramTree}
use Rattle.rx_tree.specs.Positions.{NodeTree, an_item, a_type, a_block}
use Rattle.rx_tree.specs.Nodes.{below_type, within_types, within_type, within_declared, within_variants, within_parameters, below_block, below_item, nodes}
use Rattle.rx_tree.specs.Size.{bindings_at, lifetimes_at, loops_at, longest_at, item_parameters, item_lifetimes, longest_of_item, longest_bounds, longest_types, IsNumbered}
use Rattle.rx_tree.proofs.Inverses.{listed_types_of}
use Rattle.rx_tree.proofs.NodesLaws.{total_both, greatest_both}
use Rattle.rx_lex.specs.Tok.{Tok}
use Rattle.rx_lex.proofs.TokenLaws.{Ordered, tokens_in_order}
use Rattle.rx_parse_grammar.specs.grammar.Words.{IsListOf, no_element, last_element, element, span_of, ident}
use Rattle.rx_parse_grammar.specs.grammar.Items as g
use Rattle.rx_parse_grammar.specs.grammar.Items.{IsDerivedName, AreDerives, IsLifetimeParameter, AreLifetimes, AreBounds, IsBoundLifetime, AreBoundLifetimes, IsStructField, IsVariant, IsParameter, IsResult, IsItem, IsFile, Parses}
use Rattle.rx_parse_grammar.proofs.NumberedParts.{Few, none, both, Idle, no_idle, idle_weaker, idle_both, list_short, types_short, type_idle, types_idle}
use Rattle.rx_parse_grammar.proofs.NumberedExpressions.{block_few}

-- ---- lists are no longer than their tokens

derived_name_some : (ts : List Tok) (x : Derive) (h : ℕ) → IsDerivedName ts x h → 1 ≤ length ts
derived_name_some ts x h (g.clone t s) = omega arith
derived_name_some ts x h (g.copy t s) = omega arith

derives_short : {ts : List Tok} {xs : List Derive} → AreDerives ts xs → length xs ≤ length ts
derives_short g.no_derive = omega arith
derives_short (g.derive m b n o c e us x xs sm sb sn so sc se r is) = let z = list_short derived_name_some r in let w =
    ap length is in omega (arith, length-append us (c ∷ e ∷ []))

lifetime_some : (ts : List Tok) (x : Ident) (h : ℕ) → IsLifetimeParameter ts x h → 1 ≤ length ts
lifetime_some ts x h (g.lifetime_parameter t s) = omega arith

lifetimes_short : {ts : List Tok} {ls : List Ident} → AreLifetimes ts ls → length ls ≤ length ts
lifetimes_short g.no_lifetime = omega arith
lifetimes_short (g.lifetimes o c us l ls so sc r is) = let z = list_short lifetime_some r in let w = ap length is in
    omega (arith, length-append us (c ∷ []))

bounds_short : {ts : List Tok} {ls : List Ident} → AreBounds ts ls → length ls ≤ length ts
bounds_short (g.last_bound t s) = omega arith
bounds_short (g.bound_and t p us ls s sp r) = let z = bounds_short r in omega arith

bound_some : (ts : List Tok) (x : BoundLifetime) (h : ℕ) → IsBoundLifetime ts x h → 1 ≤ length ts
bound_some ts x h (g.unbounded t s) = omega arith
bound_some ts x h (g.bounded t c us ls s sc r) = omega arith

bound_short : {ts : List Tok} {x : BoundLifetime} {h : ℕ} → IsBoundLifetime ts x h → length x.bounds ≤ length ts
bound_short (g.unbounded t s) = omega arith
bound_short (g.bounded t c us ls s sc r) = let z = bounds_short r in omega arith

longest_bounds_short : {ts : List Tok} {xs : List BoundLifetime} {h : ℕ} → IsListOf IsBoundLifetime ts xs h
    → longest_bounds xs ≤ length ts
longest_bounds_short no_element = omega arith
longest_bounds_short (last_element e) = let z = bound_short e in omega arith
longest_bounds_short (element us vs c x xs m n e s more is) =
    let z = bound_short e in let y = longest_bounds_short more in let w = ap length is in omega
    (arith, length-append us (c ∷ vs))

-- the lifetimes of a function, and their bounds
record FewLifetimes (n : ℕ) (l : List BoundLifetime) : Type 0 where
  many : length l ≤ n
  bounds : longest_bounds l ≤ n

bound_lifetimes_few : {ts : List Tok} {l : List BoundLifetime} → AreBoundLifetimes ts l → FewLifetimes (length ts) l
bound_lifetimes_few g.no_bound_lifetime = record { many = omega arith; bounds = omega arith }
bound_lifetimes_few (g.bound_lifetimes o c us l ls so sc r is) =
    let z = list_short bound_some r in
    let y = longest_bounds_short r in
    let w = ap length is in
    record { many = omega (arith, length-append us (c ∷ [])); bounds = omega (arith, length-append us (c ∷ [])) }

-- ---- the types of items

field_some : (ts : List Tok) (x : FieldOf) (h : ℕ) → IsStructField ts x h → 1 ≤ length ts
field_some ts x h (g.struct_field n c us y k sn sc r is) = let w = ap length is in omega arith

field_idle : {ts : List Tok} {x : FieldOf} {h : ℕ} → IsStructField ts x h → Idle (length ts) (within_declared (x ∷ []))
field_idle {ts = ts} (g.struct_field n c us y h sn sc r is) = let w = ap length is in idle_both (length us) 0
    (length ts) (omega arith) (type_idle r) (no_idle 0)

declared_both : (xs ys : List FieldOf) → within_declared (xs ++ ys) ≡ within_declared xs ++ within_declared ys
declared_both [] ys = refl
declared_both (x ∷ xs) ys = ap (λ l. a_type x.typ ∷ (below_type x.typ ++ l)) (declared_both xs ys) ∙ ap
    (λ l. a_type x.typ ∷ l) (sym (append_assoc (below_type x.typ) (within_declared xs) (within_declared ys)))

fields_idle : {ts : List Tok} {xs : List FieldOf} {h : ℕ} → IsListOf IsStructField ts xs h
    → Idle (length ts) (within_declared xs)
fields_idle no_element = no_idle 0
fields_idle (last_element e) = field_idle e
fields_idle {ts = ts} (element us vs c x xs m n e s more is) =
    let w = ap length is in
    subst (Idle (length ts)) (sym (declared_both (x ∷ []) xs))
    (idle_both (length us) (length vs) (length ts) (omega (arith, length-append us (c ∷ vs))) (field_idle e)
    (fields_idle more))

variant_some : (ts : List Tok) (x : VariantOf) (h : ℕ) → IsVariant ts x h → 1 ≤ length ts
variant_some ts x h (g.variant n sn) = omega arith
variant_some ts x h (g.variant_with n o c us y ys k sn so sc r is) = let w = ap length is in omega arith

-- the types of variants, and how many each has
record FewVariants (n : ℕ) (vs : List VariantOf) : Type 0 where
  idle : Idle n (within_variants vs)
  types : longest_types vs ≤ n

variant_few : {ts : List Tok} {x : VariantOf} {h : ℕ} → IsVariant ts x h → FewVariants (length ts) (x ∷ [])
variant_few (g.variant n sn) = record { idle = no_idle 1; types = omega arith }
variant_few {ts = ts} (g.variant_with n o c us y ys h sn so sc r is) =
    let w = ap length is in
    let z = types_short r in
    let e = ap length (listed_types_of ys) in
    record {
      idle = idle_both (length us) 0 (length ts) (omega (arith, length-append us (c ∷ []))) (types_idle r)
          (no_idle 0);
      types = omega (arith, length-append us (c ∷ []));
    }

variants_few : {ts : List Tok} {xs : List VariantOf} {h : ℕ} → IsListOf IsVariant ts xs h → FewVariants (length ts) xs
variants_few no_element = record { idle = no_idle 0; types = omega arith }
variants_few (last_element e) = variant_few e
variants_few {ts = ts} (element us vs c x xs m n e s more is) =
    let w = ap length is in
    let f = variant_few e in
    let h = variants_few more in
    let a = f.types in
    let b = h.types in
    record {
      idle = subst (λ l. Idle (length ts) (l ++ within_variants xs)) (append-nil (within_types x.types))
          (idle_both (length us) (length vs) (length ts) (omega (arith, length-append us (c ∷ vs))) f.idle h.idle);
      types = omega (arith, length-append us (c ∷ vs));
    }

parameter_some : (ts : List Tok) (x : Parameter) (h : ℕ) → IsParameter ts x h → 1 ≤ length ts
parameter_some ts x h (g.parameter ms us n c m y k sm sn sc r is) = let w = ap length is in omega
    (arith, length-append ms (n ∷ c ∷ us))

parameter_idle : {ts : List Tok} {x : Parameter} {h : ℕ} → IsParameter ts x h
    → Idle (length ts) (a_type x.typ ∷ below_type x.typ)
parameter_idle {ts = ts} (g.parameter ms us n c m y h sm sn sc r is) = let w = ap length is in idle_weaker (length us)
    (length ts) (omega (arith, length-append ms (n ∷ c ∷ us))) (type_idle r)

parameters_idle : {ts : List Tok} {xs : List Parameter} {h : ℕ} → IsListOf IsParameter ts xs h
    → Idle (length ts) (within_parameters xs)
parameters_idle no_element = no_idle 0
parameters_idle {ts = ts} (last_element e) = idle_both (length ts) 0 (length ts) (omega arith) (parameter_idle e)
    (no_idle 0)
parameters_idle {ts = ts} (element us vs c x xs m n e s more is) =
    let w = ap length is in idle_both (length us) (length vs) (length ts) (omega (arith, length-append us (c ∷ vs)))
    (parameter_idle e) (parameters_idle more)

result_idle : {ts : List Tok} {y : Option TypeTree} {h : ℕ} → IsResult ts y h → Idle (length ts) (within_type y)
result_idle g.no_result = no_idle 0
result_idle {ts = ts} (g.result a us y h s r is) = let w = ap length is in idle_weaker (length us) (length ts)
    (omega arith) (type_idle r)

-- ---- items

-- above types alone
item_idle : {i : ItemTree} {ns : List NodeTree} (m n : ℕ) → m ≤ n → item_parameters i ≤ n → item_lifetimes i ≤ n
    → longest_of_item i ≤ n → Idle m ns → Few n (an_item i ∷ ns)
item_idle {i} m n l p q r f =
    let b = f.bindings in
    let t = f.lifetimes in
    let o = f.loops in
    let g = f.lists in
    let b' : bindings_at (an_item i) ≡ item_parameters i = refl in
    let t' : lifetimes_at (an_item i) ≡ item_lifetimes i = refl in
    let o' : loops_at (an_item i) ≡ 0 = refl in
    let g' : longest_at (an_item i) ≡ longest_of_item i = refl in
    record { bindings = omega arith; lifetimes = omega arith; loops = omega arith; lists = omega arith }

-- and a body behind them
function_few : {i : ItemTree} {ns bs : List NodeTree} (m k j n : ℕ) → m ≤ n → j + k ≤ n → item_parameters i ≤ j
    → item_lifetimes i ≤ j → longest_of_item i ≤ n → Idle m ns → Few k bs
    → Few n (an_item i ∷ (ns ++ bs))
function_few {i} {ns} {bs} m k j n l s p q r f h =
    let b = f.bindings in
    let t = f.lifetimes in
    let o = f.loops in
    let g = f.lists in
    let b2 = h.bindings in
    let t2 = h.lifetimes in
    let o2 = h.loops in
    let g2 = h.lists in
    let b' : bindings_at (an_item i) ≡ item_parameters i = refl in
    let t' : lifetimes_at (an_item i) ≡ item_lifetimes i = refl in
    let o' : loops_at (an_item i) ≡ 0 = refl in
    let g' : longest_at (an_item i) ≡ longest_of_item i = refl in
    record {
      bindings = omega (arith, total_both bindings_at ns bs);
      lifetimes = omega (arith, total_both lifetimes_at ns bs);
      loops = omega (arith, total_both loops_at ns bs);
      lists = omega (arith, greatest_both longest_at ns bs);
    }

item_few : {ts : List Tok} {i : ItemTree} {h : ℕ} → IsItem ts i h → Few (length ts) (an_item i ∷ below_item i)
item_few {ts = ts} (g.rt m r z sm sr sz is) = item_idle 0 (length ts) (omega arith) (omega arith) (omega arith)
    (omega arith) (no_idle 0)
item_few {ts = ts} (g.structure t n o c ds ls us xs l fs h st sn so sc d ll r is) =
    let w = ap length is in
    let a = derives_short d in
    let b = lifetimes_short ll in
    let e = list_short field_some r in
    let p = length-append ds (t ∷ n ∷ (ls ++ (o ∷ (us ++ (c ∷ []))))) in
    let q = length-append ls (o ∷ (us ++ (c ∷ []))) in
    let k = length-append us (c ∷ []) in
    item_idle (length us) (length ts) (omega arith) (omega arith) (omega arith) (omega arith) (fields_idle r)
item_few {ts = ts} (g.enumeration t n o c ds ls us xs l v vs h st sn so sc d ll r is) =
    let w = ap length is in
    let a = derives_short d in
    let b = lifetimes_short ll in
    let e = list_short variant_some r in
    let f = variants_few r in
    let y = f.types in
    let p = length-append ds (t ∷ n ∷ (ls ++ (o ∷ (us ++ (c ∷ []))))) in
    let q = length-append ls (o ∷ (us ++ (c ∷ []))) in
    let k = length-append us (c ∷ []) in
    item_idle (length us) (length ts) (omega arith) (omega arith) (omega arith) (omega arith) f.idle
item_few {ts = ts} (g.function f n o c ls us rs bs l ps r b h i k sf sn so sc ll pp rr bb is) =
    let w = ap length is in
    let a = bound_lifetimes_few ll in
    let many = a.many in
    let bounds = a.bounds in
    let e = list_short parameter_some pp in
    let p = length-append ls (o ∷ (us ++ (c ∷ (rs ++ bs)))) in
    let q = length-append us (c ∷ (rs ++ bs)) in
    let y = length-append rs bs in
    subst (λ ns. Few (length ts) (an_item (plain.function_item (span_of ts)
    (record { name = ident n; lifetimes = l; params = ps; result = r; body = b })) ∷ ns))
    (append_assoc (within_parameters ps) (within_type r) (a_block b ∷ below_block b))
    (function_few {i = plain.function_item (span_of ts)
    (record { name = ident n; lifetimes = l; params = ps; result = r; body = b })} (length us + length rs) (length bs)
    (length ls + length us) (length ts) (omega arith) (omega arith) (omega arith) (omega arith) (omega arith)
    (idle_both (length us) (length rs) (length us + length rs) (omega arith) (parameters_idle pp) (result_idle rr))
    (block_few bb))

item_some : {ts : List Tok} {i : ItemTree} {h : ℕ} → IsItem ts i h → 1 ≤ length ts
item_some (g.rt m r z sm sr sz is) = let w = ap length is in omega arith
item_some (g.structure t n o c ds ls us xs l fs h st sn so sc d ll r is) = let w = ap length is in omega
    (arith, length-append ds (t ∷ n ∷ (ls ++ (o ∷ (us ++ (c ∷ []))))))
item_some (g.enumeration t n o c ds ls us xs l v vs h st sn so sc d ll r is) = let w = ap length is in omega
    (arith, length-append ds (t ∷ n ∷ (ls ++ (o ∷ (us ++ (c ∷ []))))))
item_some (g.function f n o c ls us rs bs l ps r b h i k sf sn so sc ll pp rr bb is) = let w = ap length is in omega
    arith

items_few : {ts : List Tok} {p : ProgramTree} {h : ℕ} → IsFile ts p h → length p ≤ length ts
items_few g.no_item = omega arith
items_few (g.item_and us vs a is m n r more e) = let z = items_few more in let y = item_some r in let w = ap length
    e in omega (arith, length-append us vs)

file_few : {ts : List Tok} {p : ProgramTree} {h : ℕ} → IsFile ts p h → Few (length ts) (nodes p)
file_few g.no_item = none 0
file_few {ts = ts} (g.item_and us vs a is m n r more e) = let w = ap length e in both (length us) (length vs)
    (length ts) (omega (arith, length-append us vs)) (item_few r) (file_few more)

pub numbered : (ts : List Tok) (p : ProgramTree) (h : ℕ) → IsFile ts p h → length ts < 2 ^ 32 → IsNumbered p
numbered ts p h d l =
    let f = file_few d in
    let i = items_few d in
    let b = f.bindings in
    let t = f.lifetimes in
    let o = f.loops in
    let g = f.lists in
    record {
      items = omega arith;
      bindings = omega arith;
      lifetimes = omega arith;
      loops = omega arith;
      lists = omega
          arith;
    }

-- a text has no more tokens than bytes

ordered_short : (from to : ℕ) (ts : List Tok) → Ordered from to ts → from + length ts ≤ to
ordered_short from to [] o = omega (arith, o)
ordered_short from to (t ∷ ts) o = let z = ordered_short t.span.end to ts o.2 in omega (arith, z, o.0, o.1)

pub text_numbered : (bytes : List ℕ) (p : ProgramTree) → Parses bytes p → length bytes < 2 ^ 32 → IsNumbered p
text_numbered bytes p q l =
    let z = ordered_short 0 (0 + length bytes) q.tokens
    (tokens_in_order 0 bytes q.tokens q.lexed.tokens) in numbered q.tokens p q.height q.derived (omega arith)
