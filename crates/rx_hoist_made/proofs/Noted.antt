-- Lifetimes that are found one after the other are each there where it is found first.
use Rattle.std.proofs.Common.{◌≡◌, ℕ, zero, suc, ◌<◌, ◌≤◌, ◌+◌, Bool, true, false, List, [], ◌∷◌, ◌++◌, length, map, get_or, drop, Option, None, Some, refl, sym, ap, ap₂, ◌∙◌, arith, append-nil, append_assoc, length-append}
use Rattle.std.specs.Prelude.{◌||◌, if◌then◌else◌}
use Rattle.std.specs.Str.{bytes_eq}
use Rattle.std.proofs.lemmas.List.{map-append}
use Rattle.rx_tree.specs.declared.tree.Ident.{Ident}
use Rattle.rx_core.specs.declared.types.Span.{Span}
use Rattle.rx_tree.specs.declared.tree.Stmt.{Stmt}
use Rattle.rx_tree.specs.Plain as plain
use Rattle.rx_tree.specs.Plain.{Expression, OptionalExpression, Statement}
use Rattle.rx_tree.specs.PlainOf.{plain-Stmt}
use Rattle.rx_tree_operations.specs.declared.positions.Node.{Node}
use Rattle.rx_tree_operations.specs.NodeOf.{plain-Node}
use Rattle.rx_tree.specs.Positions.{NodeTree, a_statement, a_type, an_expression, children}
use Rattle.rx_tree.specs.Nodes.{below, below_statement, within_optional, within_statements}
use Rattle.rx_hoist_extraction.specs.Run.{Parts, as_statements}
use Rattle.rx_hoist_extraction.specs.Names.{Names, is_among}
use Rattle.rx_hoist_extraction.specs.NewFunction.{copied_lifetimes, firsts_of, lifetimes_at, lifetimes_at_all}
use Rattle.rx_hoist_extraction.specs.OwnLifetimes.{idents}
use Rattle.rx_hoist_made.specs.Noting.{with_one, with_all, joined, listed_if_any}
use Rattle.rx_tree.proofs.NodesLaws as laws
use Rattle.rx_hoist_made.proofs.Among.{among_both}
use Rattle.rx_hoist_made.proofs.Dropped.{drop_is}

pub with_both : (found ls ms : List Ident) → with_all found (ls ++ ms) ≡ with_all (with_all found ls) ms
with_both found [] ms = refl
with_both found (l ∷ ls) ms = with_both (with_one found l) ls ms

pub at_both : (ns ms : List NodeTree) → lifetimes_at_all (ns ++ ms) ≡ lifetimes_at_all ns ++ lifetimes_at_all ms
at_both [] ms = refl
at_both (n ∷ ns) ms = ap (λ l. lifetimes_at n ++ l) (at_both ns ms) ∙ sym (append_assoc (lifetimes_at n) (lifetimes_at_all ns) (lifetimes_at_all ms))

pub nodes_then : (found : List Ident) (ns ms : List NodeTree) → with_all found (lifetimes_at_all (ns ++ ms)) ≡ with_all (with_all found (lifetimes_at_all ns)) (lifetimes_at_all ms)
nodes_then found ns ms = ap (with_all found) (at_both ns ms) ∙ with_both found (lifetimes_at_all ns) (lifetimes_at_all ms)

pub node_then : (found : List Ident) (n : NodeTree) (ns : List NodeTree) → with_all found (lifetimes_at_all (n ∷ ns)) ≡ with_all (with_all found (lifetimes_at n)) (lifetimes_at_all ns)
node_then found n ns = with_both found (lifetimes_at n) (lifetimes_at_all ns)

joined_is : (ns : List NodeTree) → joined ns ≡ laws.joined ns
joined_is [] = refl
joined_is (n ∷ ns) = ap (λ l. n ∷ (below n ++ l)) (joined_is ns)

-- the nodes below a node are its children and those below them
pub below_are : (n : NodeTree) → below n ≡ joined (children n)
below_are n = laws.below_is n ∙ sym (joined_is (children n))

pub statements_are : (ss : List Statement) → within_statements (as_statements ss) ≡ joined (map a_statement ss)
statements_are [] = refl
statements_are (a ∷ ss) = ap (λ l. a_statement a ∷ (below_statement a ++ l)) (statements_are ss)

-- ---- the same as firsts

abbrev Same : List Ident → Names → Type 0
Same found names = (x : List ℕ) → is_among x (idents found) ≡ is_among x names

turned : (a b : Bool) → (a || (b || false)) ≡ (b || a)
turned true true = refl
turned true false = refl
turned false true = refl
turned false false = refl

one_more : (found : List Ident) (names : Names) (l : Ident) → Same found names → Same (found ++ l ∷ []) (l.name ∷ names)
one_more found names l h x = ap (is_among x) (map-append (λ (i : Ident). i.name) found (l ∷ [])) ∙ among_both x (idents found) (l.name ∷ [])
    ∙ ap (λ b. b || is_among x (l.name ∷ [])) (h x) ∙ turned (is_among x names) (bytes_eq x l.name)

firsts_at : (b : Bool) (l : Ident) (found : List Ident) (names : Names) (ls : List Ident) → is_among l.name (idents found) ≡ b → is_among l.name names ≡ b
    → with_all (found ++ l ∷ []) ls ≡ (found ++ l ∷ []) ++ firsts_of (l.name ∷ names) ls → with_all found ls ≡ found ++ firsts_of names ls
    → with_all found (l ∷ ls) ≡ found ++ firsts_of names (l ∷ ls)
firsts_at true l found names ls e f g h = rw (e, f) h
firsts_at false l found names ls e f g h = rw (e, f) (g ∙ append_assoc found (l ∷ []) (firsts_of (l.name ∷ names) ls))

firsts_are : (found : List Ident) (names : Names) (ls : List Ident) → Same found names → with_all found ls ≡ found ++ firsts_of names ls
firsts_are found names [] h = sym (append-nil found)
firsts_are found names (l ∷ ls) h = firsts_at (is_among l.name names) l found names ls (h l.name) refl
    (firsts_are (found ++ l ∷ []) (l.name ∷ names) ls (one_more found names l h)) (firsts_are found names ls h)

pub copied_are : (p : Parts) → with_all [] (lifetimes_at_all (within_statements (as_statements p.statements) ++ within_optional p.tail)) ≡ copied_lifetimes p
copied_are p = firsts_are [] [] (lifetimes_at_all (within_statements (as_statements p.statements) ++ within_optional p.tail)) (λ x. refl)

-- ---- what the functions do, step by step

pub node_and_parts : (found more : List Ident) (n : NodeTree) → more ≡ with_all found (lifetimes_at n)
    → with_all more (lifetimes_at_all (joined (children n))) ≡ with_all found (lifetimes_at_all (n ∷ below n))
node_and_parts found more n e = ap (λ l. with_all l (lifetimes_at_all (joined (children n)))) e
    ∙ ap (λ ns. with_all (with_all found (lifetimes_at n)) (lifetimes_at_all ns)) (sym (below_are n)) ∙ sym (node_then found n (below n))

pub part_here : (found more : List Ident) (ns : List Node) (i : ℕ) (n : Node) → i < length ns → n ≡ get_or ns i n
    → more ≡ with_all found (lifetimes_at_all (plain-Node n ∷ below (plain-Node n)))
    → with_all more (lifetimes_at_all (joined (map plain-Node (drop (i + 1) ns)))) ≡ with_all found (lifetimes_at_all (joined (map plain-Node (drop i ns))))
part_here found more ns i n l e m = let rest = joined (map plain-Node (drop (i + 1) ns)) in
    ap (λ x. with_all x (lifetimes_at_all rest)) m ∙ sym (nodes_then found (plain-Node n ∷ below (plain-Node n)) rest)
    ∙ sym (ap (λ (ms : List Node). with_all found (lifetimes_at_all (joined (map plain-Node ms)))) (drop_is ns i n l e))

pub statement_here : (found more : List Ident) (ss : List Stmt) (i : ℕ) (a : Stmt) → i < length ss → a ≡ get_or ss i a
    → more ≡ with_all found (lifetimes_at_all (a_statement (plain-Stmt a) ∷ below (a_statement (plain-Stmt a))))
    → with_all more (lifetimes_at_all (within_statements (as_statements (map plain-Stmt (drop (i + 1) ss)))))
    ≡ with_all found (lifetimes_at_all (within_statements (as_statements (map plain-Stmt (drop i ss)))))
statement_here found more ss i a l e m = let rest = within_statements (as_statements (map plain-Stmt (drop (i + 1) ss))) in
    ap (λ x. with_all x (lifetimes_at_all rest)) m ∙ sym (nodes_then found (a_statement (plain-Stmt a) ∷ below (a_statement (plain-Stmt a))) rest)
    ∙ sym (ap (λ (ts : List Stmt). with_all found (lifetimes_at_all (within_statements (as_statements (map plain-Stmt ts))))) (drop_is ss i a l e))

pub fewer_below : (ns : List Node) (i : ℕ) (n : Node) → i < length ns → n ≡ get_or ns i n → suc (length (below (plain-Node n))) ≤ length (joined (map plain-Node ns))
fewer_below [] i n l e = absurd (omega arith)
fewer_below (m ∷ ns) zero n l e = omega (arith, ap (λ (x : Node). length (below (plain-Node x))) e, length-append (plain-Node m ∷ below (plain-Node m)) (joined (map plain-Node ns)))
fewer_below (m ∷ ns) (suc i) n l e = omega (arith, fewer_below ns i n (omega arith) e, length-append (plain-Node m ∷ below (plain-Node m)) (joined (map plain-Node ns)))

-- ---- what a written type names itself

pub listed_is : (s : Span) (x : Ident) (ls : Option (List (Option Ident))) → lifetimes_at (a_type (plain.named_type s x ls)) ≡ listed_if_any ls
listed_is s x None = refl
listed_is s x (Some ls) = refl

-- ---- with the tail, and without

pub copied_with : (p : Parts) (e : Expression) (found : List Ident) → found ≡ with_all [] (lifetimes_at_all (within_statements (as_statements p.statements)))
    → p.tail ≡ plain.present e → with_all found (lifetimes_at_all (an_expression e ∷ below (an_expression e))) ≡ copied_lifetimes p
copied_with p e found f t = let ss = within_statements (as_statements p.statements) in
    ap (λ l. with_all l (lifetimes_at_all (an_expression e ∷ below (an_expression e)))) f
    ∙ sym (nodes_then [] ss (an_expression e ∷ below (an_expression e)))
    ∙ ap (λ (o : OptionalExpression). with_all [] (lifetimes_at_all (ss ++ within_optional o))) (sym t) ∙ copied_are p

pub copied_without : (p : Parts) (found : List Ident) → found ≡ with_all [] (lifetimes_at_all (within_statements (as_statements p.statements)))
    → p.tail ≡ plain.absent → found ≡ copied_lifetimes p
copied_without p found f t = let ss = within_statements (as_statements p.statements) in
    f ∙ ap (λ ns. with_all [] (lifetimes_at_all ns)) (sym (append-nil ss))
    ∙ ap (λ (o : OptionalExpression). with_all [] (lifetimes_at_all (ss ++ within_optional o))) (sym t) ∙ copied_are p
