-- What is read off a formed function at a run is formed: the run's block and parts, the labels of the loops round it, the lifetimes
-- that types in it name. Each node on the way to the block is formed.
use Rattle.std.proofs.Common.{◌≡◌, ℕ, zero, suc, Bool, true, false, List, [], ◌∷◌, ◌++◌, Option, Some, None, take, drop, refl}
use Rattle.std.specs.Prelude.{if◌then◌else◌, slice_get}
use Rattle.rx_tree.specs.declared.tree.Ident.{Ident}
use Rattle.rx_tree.specs.Erase.{nowhere}
use Rattle.rx_tree.specs.Lists.{Every, listed}
use Rattle.rx_tree.specs.Nodes.{below_block, below_statement, within_statements, within_optional}
use Rattle.rx_tree.specs.Plain as plain
use Rattle.rx_tree.specs.Plain.{OptionalExpression, Body, Statement, Statements, Function, ProgramTree}
use Rattle.rx_tree.specs.Positions.{NodeTree, an_item, a_type, a_block, a_statement, an_expression, a_pattern, children, descend}
use Rattle.rx_tree.proofs.NodesLaws.{every_both, every_node}
use Rattle.rx_print_spelling.specs.Formed.{Lasting, MaybeLasting, FormedOptional, FormedBody, FormedStatement, FormedStatements}
use Rattle.rx_hoist_extraction.specs.Names.{Names, is_among}
use Rattle.rx_hoist_extraction.specs.Run.{Run, Parts, as_statements, tail_if, goes_past, as_block, run_block, chosen_parts, run_parts, label_of, labels_on, labels_round}
use Rattle.rx_hoist_extraction.specs.NewFunction.{lifetimes_listed, lifetimes_at, lifetimes_at_all, firsts_of, copied_lifetimes}
use Rattle.rx_hoist_extraction.proofs.FormedNodes.{NodeFormed, All, both, body_nodes, statement_nodes, optional_nodes}

-- ---- lists

pub every_take : {A : Type 0} (P : A → Type 0) (n : ℕ) (xs : List A) → Every P xs → Every P (take n xs)
every_take P zero xs h = tt
every_take P (suc n) [] h = tt
every_take P (suc n) (x ∷ xs) h = (h.0, every_take P n xs h.1)

pub every_drop : {A : Type 0} (P : A → Type 0) (n : ℕ) (xs : List A) → Every P xs → Every P (drop n xs)
every_drop P zero xs h = h
every_drop P (suc n) [] h = tt
every_drop P (suc n) (x ∷ xs) h = every_drop P n xs h.1

pub each_statement : (ss : Statements) (o : OptionalExpression) → FormedStatements ss o → Every FormedStatement (listed ss)
each_statement plain.no_statement o f = tt
each_statement (plain.statement_and a ss) o f = (f.0, each_statement ss o f.2)

-- ---- from the function's body on

from_body : (f : Function) → FormedBody f.body → (js : List ℕ) (m : NodeTree) → descend (Some (a_block f.body)) js ≡ Some m → NodeFormed m
from_body f h js m e = every_node NodeFormed (plain.function_item nowhere (record f { params = []; result = None }) ∷ [])
    (tt, both (a_block f.body ∷ below_block f.body) [] (h, body_nodes f.body h) tt) 0 (0 ∷ js) m e

block_at : (q : Option NodeTree) → ((m : NodeTree) → q ≡ Some m → NodeFormed m) → FormedBody (as_block q)
block_at None h = (tt, tt)
block_at (Some (an_item i)) h = (tt, tt)
block_at (Some (a_type t)) h = (tt, tt)
block_at (Some (a_block b)) h = h (a_block b) refl
block_at (Some (a_statement a)) h = (tt, tt)
block_at (Some (an_expression e)) h = (tt, tt)
block_at (Some (a_pattern p)) h = (tt, tt)

pub block_formed : (r : Run) (f : Function) → FormedBody f.body → FormedBody (run_block r f)
block_formed r f h = block_at (descend (Some (a_block f.body)) r.way) (from_body f h r.way)

tail_chosen : (b : Bool) (o : OptionalExpression) → FormedOptional o → FormedOptional (tail_if b o)
tail_chosen false o h = tt
tail_chosen true o h = h

parts_chosen : (r : Run) (b : Body) → FormedBody b → Every FormedStatement (chosen_parts r b).statements × FormedOptional (chosen_parts r b).tail
parts_chosen r (plain.body s ss o) f = (
  every_take FormedStatement _ (drop r.first (listed ss)) (every_drop FormedStatement r.first (listed ss) (each_statement ss o f.0)),
  tail_chosen (goes_past r (listed ss)) o f.1,
)

pub parts_formed : (r : Run) (f : Function) → FormedBody f.body → Every FormedStatement (run_parts r f).statements × FormedOptional (run_parts r f).tail
parts_formed r f h = parts_chosen r (run_block r f) (block_formed r f h)

-- ---- labels

label_lasting : (n : NodeTree) → NodeFormed n → Every MaybeLasting (label_of n)
label_lasting (an_expression (plain.loop s l b)) f = (f.0, tt)
label_lasting (an_expression (plain.while s l c b)) f = (f.0, tt)
label_lasting (an_expression (plain.while_let s l p e b)) f = (f.0, tt)
label_lasting _ f = tt

on_the_way : (q : Option NodeTree) (ks : List ℕ) (ls : List (Option Ident)) → ((js : List ℕ) (m : NodeTree) → descend q js ≡ Some m → NodeFormed m) → Every MaybeLasting ls
    → Every MaybeLasting (labels_on q ks ls)
on_the_way None ks ls h l = l
on_the_way (Some n) [] ls h l = l
on_the_way (Some n) (k ∷ ks) ls h l = on_the_way (slice_get (children n) k) ks (label_of n ++ ls) (λ js m e. h (k ∷ js) m e)
    (every_both MaybeLasting (label_of n) ls (label_lasting n (h [] n refl)) l)

pub labels_lasting : (r : Run) (f : Function) → FormedBody f.body → Every MaybeLasting (labels_round r f)
labels_lasting r f h = on_the_way (Some (a_block f.body)) r.way [] (from_body f h) tt

-- ---- lifetimes

listed_lasting : (ls : List (Option Ident)) → Every MaybeLasting ls → Every Lasting (lifetimes_listed ls)
listed_lasting [] h = tt
listed_lasting (None ∷ ls) h = listed_lasting ls h.1
listed_lasting (Some l ∷ ls) h = (h.0, listed_lasting ls h.1)

at_lasting : (n : NodeTree) → NodeFormed n → Every Lasting (lifetimes_at n)
at_lasting (a_type (plain.ref_type s l m t)) f = listed_lasting (l ∷ []) (f.0, tt)
at_lasting (a_type (plain.named_type s x (Some ls))) f = listed_lasting ls f.1.1
at_lasting _ f = tt

all_lasting : (ns : List NodeTree) → All ns → Every Lasting (lifetimes_at_all ns)
all_lasting [] h = tt
all_lasting (n ∷ ns) h = every_both Lasting (lifetimes_at n) (lifetimes_at_all ns) (at_lasting n h.0) (all_lasting ns h.1)

firsts_lasting : (found : Names) (ls : List Ident) → Every Lasting ls → Every Lasting (firsts_of found ls)
firsts_lasting found [] h = tt
firsts_lasting found (l ∷ ls) h = by (is_among l.name found) (firsts_lasting found ls h.1) (firsts_lasting (l.name ∷ found) ls h.1)
  where
    by : (b : Bool) → Every Lasting (firsts_of found ls) → Every Lasting (firsts_of (l.name ∷ found) ls)
        → Every Lasting (if b then firsts_of found ls else l ∷ firsts_of (l.name ∷ found) ls)
    by true k n = k
    by false k n = (h.0, n)

row_nodes : (ss : List Statement) → Every FormedStatement ss → All (within_statements (as_statements ss))
row_nodes [] h = tt
row_nodes (a ∷ ss) h = (h.0, both (below_statement a) (within_statements (as_statements ss)) (statement_nodes a h.0) (row_nodes ss h.1))

pub copied_lasting : (p : Parts) → Every FormedStatement p.statements → FormedOptional p.tail → Every Lasting (copied_lifetimes p)
copied_lasting p h g = let ns = within_statements (as_statements p.statements) ++ within_optional p.tail in
    firsts_lasting [] (lifetimes_at_all ns) (all_lasting ns (both (within_statements (as_statements p.statements)) (within_optional p.tail) (row_nodes p.statements h) (optional_nodes p.tail g)))
