-- A turn of the parser of statements is the step and then what follows it; a declaration is its parts.
use Rattle.std.proofs.Common.{◌≡◌, ℕ, suc, max, Bool, true, false, cond, List, [], ◌∷◌, ◌++◌, length, Option, Some, None, Ok, Err, refl, ap, sym, ◌∙◌, arith}
use Rattle.std.specs.Prelude.{nat_lt}
use Rattle.rx_core.specs.declared.types.Span.{Span}
use Rattle.rx_tree.specs.Plain as plain
use Rattle.rx_tree.specs.Plain.{TypeTree, PatternTree, Expression, Body, Statement}
use Rattle.rx_tree.specs.PlainOf.{statements_of}
use Rattle.rx_lex.specs.Tok.{Tok}
use Rattle.rx_parse_grammar.specs.declared.stop.Stop.{Stop}
use Rattle.rx_parse_grammar.specs.declared.stop.Stop.TheVariants.{Syntax, TooDeep}
use Rattle.rx_parse_grammar.specs.declared.symbol.Symbol.{Symbol}
use Rattle.rx_parse_grammar.specs.declared.symbol.Symbol.TheVariants as symbol
use Rattle.rx_parse_grammar.specs.grammar.Words.{join}
use Rattle.rx_parse_grammar.specs.parser.Symbols.{peek}
use Rattle.rx_parse_grammar.specs.parser.Steps.{Parser, Outcome, Got, and_then, sees, expect, node}
use Rattle.rx_parse_grammar.specs.parser.Patterns.{pattern}
use Rattle.rx_parse_grammar.specs.parser.Operators.{begins_like}
use Rattle.rx_parse_grammar.specs.parser.Blocks as spec
use Rattle.rx_parse_grammar.specs.parser.Blocks.{whole, like, annotation, declares}
use Rattle.rx_parse_choices.specs.declared.ends.After.{After}
use Rattle.rx_parse_choices.specs.declared.ends.After.TheVariants.{Semicolon, Closing}
use Rattle.rx_parse_choices.specs.Ends as ends
use Rattle.rx_parse_expressions.specs.Pieces as pieces
use Rattle.rx_parse_expressions.specs.Pieces.{InitialTree, PieceTree, EndingTree, TurnTree, let_statement, statements_from, initial, without_value, let_with, declared, with_after, with_piece, piece, piece_by, turn}
use Rattle.rx_parse_expressions.proofs.Outcomes.{joined, same_then}

-- ---- a declaration

max_zero : (n : ℕ) → n ≡ max n 0
max_zero n = omega arith

given : (b : ℕ) (t : Tok) (p : Got PatternTree) (y : Option TypeTree × ℕ) (o : Outcome Tok)
    → and_then o (λ e j. and_then (whole b j) (λ x k. and_then (expect symbol.Semicolon k)
    (λ z l. Ok (record { tree = plain.let_statement (join t.span z.span) p.tree y.0 (plain.present x.tree); height = max (max p.height y.1) x.height; span = join t.span z.span }, l))))
    ≡ and_then (and_then {B = InitialTree} o (λ e j. and_then (whole b j) (λ x k. and_then (expect symbol.Semicolon k) (λ z l. Ok (record { value = plain.present x.tree; height = x.height; close = z.span }, l)))))
    (λ e j. Ok (let_with t.span p y e, j))
given b t p y (Err e) = refl
given b t p y (Ok r) =
    same_then (whole b r.1) _ (λ x k. and_then (and_then {B = InitialTree} (expect symbol.Semicolon k) (λ z l. Ok (record { value = plain.present x.tree; height = x.height; close = z.span }, l))) (λ e j. Ok (let_with t.span p y e, j)))
    (λ x k. sym (joined (expect symbol.Semicolon k) (λ z l. Ok (record { value = plain.present x.tree; height = x.height; close = z.span }, l)) (λ e j. Ok (let_with t.span p y e, j))))
    ∙ sym (joined (whole b r.1) (λ x k. and_then (expect symbol.Semicolon k) (λ z l. Ok (record { value = plain.present x.tree; height = x.height; close = z.span }, l))) (λ e j. Ok (let_with t.span p y e, j)))

alone : (t : Tok) (p : Got PatternTree) (y : Option TypeTree × ℕ) (o : Outcome Tok)
    → and_then {B = Got Statement} o (λ z j. Ok (record { tree = plain.let_statement (join t.span z.span) p.tree y.0 plain.absent; height = max p.height y.1; span = join t.span z.span }, j))
    ≡ and_then (and_then {B = InitialTree} o (λ z j. Ok (record { value = plain.absent; height = 0; close = z.span }, j))) (λ e j. Ok (let_with t.span p y e, j))
alone t p y (Err e) = refl
alone t p y (Ok r) =
    ap {B = Outcome (Got Statement)} (λ h. Ok (record { tree = plain.let_statement (join t.span r.0.span) p.tree y.0 plain.absent; height = h; span = join t.span r.0.span }, r.1)) (max_zero (max p.height y.1))

without : (b : ℕ) (t : Tok) (p : Got PatternTree) (y : Option TypeTree × ℕ) (i : List Tok) (c : Bool)
    → spec.declared_by (whole b) (like b) b t p y c i ≡ and_then (without_value c i) (λ e j. Ok (let_with t.span p y e, j))
without b t p y i true = alone t p y (expect symbol.Semicolon i)
without b t p y i false = refl

let_end : (b : ℕ) (t : Tok) (p : Got PatternTree) (y : Option TypeTree × ℕ) (i : List Tok) (c m : Bool)
    → cond m (spec.initialised (whole b) (like b) b t p y i) (spec.declared_by (whole b) (like b) b t p y c i)
    ≡ and_then (cond m (and_then {B = InitialTree} (expect symbol.Equal i) (λ e j. and_then (whole b j) (λ x k. and_then (expect symbol.Semicolon k) (λ z l. Ok (record { value = plain.present x.tree; height = x.height; close = z.span }, l))))) (without_value c i))
    (λ e j. Ok (let_with t.span p y e, j))
let_end b t p y i c true = given b t p y (expect symbol.Equal i)
let_end b t p y i c false = without b t p y i c

let_ends : (b : ℕ) (t : Tok) (p : Got PatternTree) (y : Option TypeTree × ℕ) (i : List Tok) (c : Bool)
    → cond (sees symbol.Equal i) (spec.initialised (whole b) (like b) b t p y i) (spec.declared_by (whole b) (like b) b t p y c i)
    ≡ and_then (initial b c i) (λ e j. Ok (let_with t.span p y e, j))
unfolding initial
let_ends b t p y i c = let_end b t p y i c (sees symbol.Equal i)

let_read : (b : ℕ) (i : List Tok) (x : Bool) (o : Outcome Tok)
    → cond x (Err (TooDeep (length i))) (and_then o (λ t j. and_then (pattern b j) (λ p k. and_then (annotation b k)
    (λ y l. cond (sees symbol.Equal l) (spec.initialised (whole b) (like b) b t p y l) (spec.declared_by (whole b) (like b) b t p y (declares p.tree p.height) l)))))
    ≡ cond x (Err (TooDeep (length i))) (and_then o (λ t j. and_then (pattern b j) (λ p k. and_then (annotation b k)
    (λ y l. and_then (initial b (declares p.tree p.height) l) (λ e m. Ok (let_with t.span p y e, m))))))
let_read b i true o = refl
let_read b i false (Err e) = refl
let_read b i false (Ok r) =
    same_then (pattern b r.1) _ _ (λ p k. same_then (annotation b k) _ _ (λ y l. let_ends b r.0 p y l (declares p.tree p.height)))

pub let_is : (b : ℕ) (i : List Tok) → let_statement b i ≡ declared b i
unfolding spec.let_statement declared
let_is b i = let_read b i (nat_lt b 1) (expect symbol.Let i)

-- ---- a turn

abbrev Again : Type 0
Again = List Statement → ℕ → Parser (Got Body)

abbrev by_ending : Again → Span → List Statement → ℕ → Option EndingTree → Parser (Got Body)
by_ending again o f h None = again f h
by_ending again o f h (Some e) = λ j. Ok (node (λ s. plain.body s (statements_of f) e.tail) (join o e.close) h, j)

-- what follows a turn
abbrev goes_on : Again → Span → TurnTree → Parser (Got Body)
goes_on again o t = by_ending again o t.list t.height t.ending

abbrev put : Again → Span → List Statement → ℕ → PieceTree → Parser (Got Body)
put again o f h p = goes_on again o (with_piece f h p)

like_end : (b : ℕ) (again : Again) (o : Span) (f : List Statement) (h : ℕ) (x : Got Expression) (q : Symbol) (i : List Tok)
    → spec.after_like_by (whole b) (like b) b again o f h x q i
    ≡ and_then (and_then {B = PieceTree} (ends.after_like_by q i) (λ a j. Ok (with_after x a, j))) (put again o f h)
like_end b again o f h x symbol.Semicolon i =
    sym (ap (λ u. and_then u (put again o f h)) (joined {B = After} {C = PieceTree} (expect symbol.Semicolon i) (λ z j. Ok (Semicolon z.span, j)) (λ a j. Ok (with_after x a, j)))
    ∙ joined {B = PieceTree} (expect symbol.Semicolon i) (λ z j. Ok (with_after x (Semicolon z.span), j)) (put again o f h))
like_end b again o f h x symbol.CloseBrace i =
    sym (ap (λ u. and_then u (put again o f h)) (joined {B = After} {C = PieceTree} (expect symbol.CloseBrace i) (λ z j. Ok (Closing z.span, j)) (λ a j. Ok (with_after x a, j)))
    ∙ joined {B = PieceTree} (expect symbol.CloseBrace i) (λ z j. Ok (with_after x (Closing z.span), j)) (put again o f h))
like_end b again o f h x _ i = refl

whole_end : (b : ℕ) (again : Again) (o : Span) (f : List Statement) (h : ℕ) (x : Got Expression) (m : Bool) (i : List Tok)
    → cond m (and_then (expect symbol.Semicolon i) (λ z. again (f ++ (plain.expression_statement (join x.span z.span) x.tree true ∷ [])) (max h x.height))) (spec.closed (whole b) (like b) b o f (plain.present x.tree) (max h x.height) i)
    ≡ and_then (and_then {B = PieceTree} (cond m (and_then {B = After} (expect symbol.Semicolon i) (λ z j. Ok (Semicolon z.span, j))) (and_then (expect symbol.CloseBrace i) (λ z j. Ok (Closing z.span, j)))) (λ a j. Ok (with_after x a, j))) (put again o f h)
whole_end b again o f h x true i =
    sym (ap (λ u. and_then u (put again o f h)) (joined {B = After} {C = PieceTree} (expect symbol.Semicolon i) (λ z j. Ok (Semicolon z.span, j)) (λ a j. Ok (with_after x a, j)))
    ∙ joined {B = PieceTree} (expect symbol.Semicolon i) (λ z j. Ok (with_after x (Semicolon z.span), j)) (put again o f h))
whole_end b again o f h x false i =
    sym (ap (λ u. and_then u (put again o f h)) (joined {B = After} {C = PieceTree} (expect symbol.CloseBrace i) (λ z j. Ok (Closing z.span, j)) (λ a j. Ok (with_after x a, j)))
    ∙ joined {B = PieceTree} (expect symbol.CloseBrace i) (λ z j. Ok (with_after x (Closing z.span), j)) (put again o f h))

expression_read : (b : ℕ) (again : Again) (o : Span) (f : List Statement) (h : ℕ) (v : Bool) (i : List Tok)
    → spec.expression_by (whole b) (like b) b again o f h v i ≡ and_then (pieces.expression_by b v i) (put again o f h)
expression_read b again o f h true i =
    same_then (like b i) _ _ (λ x j. like_end b again o f h x (peek j) j)
    ∙ sym (joined (like b i) (λ x j. and_then {B = PieceTree} (ends.after_like j) (λ a k. Ok (with_after x a, k))) (put again o f h))
expression_read b again o f h false i =
    same_then (whole b i) _ _ (λ x j. whole_end b again o f h x (sees symbol.Semicolon j) j)
    ∙ sym (joined (whole b i) (λ x j. and_then {B = PieceTree} (ends.after_whole j) (λ a k. Ok (with_after x a, k))) (put again o f h))

piece_read : (b : ℕ) (again : Again) (o : Span) (f : List Statement) (h : ℕ) (q : Symbol) (i : List Tok)
    → spec.statement_by (whole b) (like b) b again o f h q i ≡ and_then (piece_by b q i) (put again o f h)
piece_read b again o f h symbol.CloseBrace i = sym (joined {B = PieceTree} (expect symbol.CloseBrace i) (λ c j. Ok (pieces.ended c.span, j)) (put again o f h))
piece_read b again o f h symbol.Let i =
    ap (λ u. and_then u (λ a. again (f ++ (a.tree ∷ [])) (max h a.height))) (let_is b i)
    ∙ sym (joined {B = PieceTree} (declared b i) (λ a j. Ok (pieces.statement a, j)) (put again o f h))
piece_read b again o f h q i = expression_read b again o f h (begins_like q) i

pub turn_is : (b : ℕ) (o : Span) (n : ℕ) (f : List Statement) (h : ℕ) (i : List Tok)
    → statements_from b o (suc n) f h i ≡ and_then (turn b f h i) (goes_on (statements_from b o n) o)
unfolding spec.statements_from turn piece
turn_is b o n f h i =
    piece_read b (statements_from b o n) o f h (peek i) i
    ∙ sym (joined {B = TurnTree} (piece_by b (peek i) i) (λ p j. Ok (with_piece f h p, j)) (goes_on (statements_from b o n) o))

-- ---- by what the step gives

pub turn_fault : (b : ℕ) (o : Span) (n : ℕ) (f : List Statement) (h : ℕ) (i : List Tok) (e : Stop) → turn b f h i ≡ Err e → statements_from b o (suc n) f h i ≡ Err e
turn_fault b o n f h i e a = turn_is b o n f h i ∙ ap (λ u. and_then u (goes_on (statements_from b o n) o)) a

pub turn_more : (b : ℕ) (o : Span) (n : ℕ) (f : List Statement) (h : ℕ) (t : TurnTree) (i j : List Tok) → turn b f h i ≡ Ok (t, j) → t.ending ≡ None
    → statements_from b o (suc n) f h i ≡ statements_from b o n t.list t.height j
turn_more b o n f h t i j a m = turn_is b o n f h i ∙ ap (λ u. and_then u (goes_on (statements_from b o n) o)) a ∙ ap (λ c. by_ending (statements_from b o n) o t.list t.height c j) m

pub turn_last : (b : ℕ) (o : Span) (n : ℕ) (f : List Statement) (h : ℕ) (t : TurnTree) (e : EndingTree) (i j : List Tok) → turn b f h i ≡ Ok (t, j) → t.ending ≡ Some e
    → statements_from b o (suc n) f h i ≡ Ok (node (λ s. plain.body s (statements_of t.list) e.tail) (join o e.close) t.height, j)
turn_last b o n f h t e i j a m = turn_is b o n f h i ∙ ap (λ u. and_then u (goes_on (statements_from b o n) o)) a ∙ ap (λ c. by_ending (statements_from b o n) o t.list t.height c j) m

pub no_turn : (b : ℕ) (o : Span) (f : List Statement) (h : ℕ) (i : List Tok) → statements_from b o 0 f h i ≡ Err (Syntax (length i))
unfolding spec.statements_from
no_turn b o f h i = refl
