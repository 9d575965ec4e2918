-- The tokens that expressions which end in a block are spelled with are derived as them, from what is claimed of their parts.
use Rattle.std.proofs.Common.{◌≡◌, ℕ, suc, ◌+◌, max, Bool, true, false, List, [], ◌∷◌, ◌++◌, Option, Some, None, codes, length, refl, sym, ap, ◌∙◌, arith, append-nil}
use Rattle.rx_core.specs.declared.types.Span.{Span}
use Rattle.rx_tree.specs.declared.tree.Ident.{Ident}
use Rattle.rx_tree.specs.Plain as plain
use Rattle.rx_tree.specs.Plain.{PatternTree, Expression, OptionalExpression, Arms, Body}
use Rattle.rx_tree.specs.PlainOf.{arms_of}
use Rattle.rx_tree.specs.Erase.{nowhere, erase, erase_optional, erase_body, erase_arms, erase_pattern, erase_label}
use Rattle.rx_lex.specs.declared.token.Class.TheVariants.{Keyword, Lifetime}
use Rattle.rx_lex.specs.Tok.{Tok}
use Rattle.rx_lex.specs.Tokens.{token_at}
use Rattle.rx_parse_grammar.specs.grammar.Expressions as g
use Rattle.rx_parse_grammar.specs.grammar.Expressions.{IsLike, IsIf, IsElse, IsLabel, IsBlock, AreArms, IsExpression, Test, IsTest, if_of, while_of}
use Rattle.rx_print_spelling.specs.Pieces.{Piece, mark, keyword, space, line, indent}
use Rattle.rx_print_spelling.specs.Patterns.{pattern_pieces}
use Rattle.rx_print_spelling.specs.Places.{weakness, is_like, is_block, is_branch, tested, stated}
use Rattle.rx_print_spelling.specs.Expressions.{pieces, is_borrow, fitted, between, block, label_pieces, arm_comma, arms}
use Rattle.rx_print_spelling.specs.Levels.{tested_levels, stated_levels, expression_levels, block_levels, pattern_levels, arms_levels}
use Rattle.rx_print_spelling.specs.Formed.{MaybeLasting}
use Rattle.rx_print_spelling.proofs.Pieces.{places, past, places-append}
use Rattle.rx_print_spelling.proofs.Derives.{Derives, mark_at, at_height}
use Rattle.rx_print_spelling.proofs.PatternsRead.{ReadsPattern}
use Rattle.rx_print_spelling.proofs.Claims.{AsLike, AsStated, otherwise, ending, Reads, of_like, tested_reads, stated_reads}
use Rattle.rx_print_spelling.proofs.BlocksRead.{ReadsBlock, like_stated}

pub block_value : (depth : ℕ) (s : Span) (b : Body) → ReadsBlock depth b → Reads depth (plain.block s b)
block_value depth s b k = of_like depth (plain.block s b) refl refl
    (λ at. let r = k at in record { tree = _; derived = g.block r.tree _ r.derived; same = rw r.same refl })
    (λ e at. let r = k at in record { tree = _; derived = g.else_block r.tree _ r.derived; same = rw r.same refl })

-- ---- loops

abbrev AsLabel : List Tok → Option Ident → Type 0
AsLabel ts l = Derives IsLabel erase_label ts (erase_label l)

label_reads : (l : Option Ident) → MaybeLasting l → (at : ℕ) → AsLabel (places at (label_pieces l)) l
label_reads None f at = record { tree = None; derived = g.no_label; same = refl }
label_reads (Some l) f at = record { tree = _; derived = g.label (token_at at Lifetime l.name) (mark_at (at + length l.name) (codes ":")) (refl, f.1) (refl, refl); same = refl }

pub loop_reads : (depth : ℕ) (s : Span) (l : Option Ident) (b : Body) → MaybeLasting l → ReadsBlock depth b → Reads depth (plain.loop s l b)
loop_reads depth s l b f k = of_like depth (plain.loop s l b) refl refl
    (λ at.
    let ls = label_pieces l in
    let x = label_reads l f at in
    let from : ℕ = past at ls + 4 + 1 in
    let r = k from in
    record {
      tree = _;
      derived = g.loop (places at ls) (places from (block depth b)) (token_at (past at ls) Keyword (codes "loop")) x.tree r.tree _ x.derived (refl, refl) r.derived
          (places-append at ls (keyword (codes "loop") ∷ space ∷ block depth b));
      same = rw (x.same, r.same) refl;
    })
    (λ e. absurd (cc))

-- ---- what is tested

abbrev erase_test : Test → Test
erase_test (g.condition x) = g.condition (erase x)
erase_test (g.fitting p x) = g.fitting (erase_pattern p) (erase x)

erased_if : (s : Span) (x : Test) (b : Body) (y : OptionalExpression) → erase (if_of s x b y) ≡ if_of nowhere (erase_test x) (erase_body b) (erase_optional y)
erased_if s (g.condition x) b y = refl
erased_if s (g.fitting p x) b y = refl

erased_while : (s : Span) (l : Option Ident) (x : Test) (b : Body) → erase (while_of s l x b) ≡ while_of nowhere (erase_label l) (erase_test x) (erase_body b)
erased_while s l (g.condition x) b = refl
erased_while s l (g.fitting p x) b = refl

-- of what is tested, by its pieces
abbrev ReadsTest : List Piece → Test → ℕ → Type 0
ReadsTest cs x h = (at : ℕ) → Derives (λ us y. IsTest us y h) erase_test (places at cs) (erase_test x)

condition_reads : (depth : ℕ) (c : Expression) → Reads depth c → ReadsTest (tested 6 c (pieces false depth c)) (g.condition c) (tested_levels 6 c (expression_levels c))
condition_reads depth c r at =
    let y = tested_reads depth 6 c (omega arith) r at in record { tree = g.condition y.tree; derived = g.test y.derived; same = ap g.condition y.same }

fitting_reads : (depth : ℕ) (p : PatternTree) (e : Expression) → ReadsPattern p → Reads depth e
    → ReadsTest (fitted p (tested 4 e (pieces false depth e))) (g.fitting p e) (max (pattern_levels p) (tested_levels 4 e (expression_levels e)))
fitting_reads depth p e q r at =
    let ps = pattern_pieces p in
    let es = tested 4 e (pieces false depth e) in
    let from : ℕ = at + 3 + 1 in
    let mid : ℕ = past from ps + 1 in
    let x = q from in
    let y = tested_reads depth 4 e (omega arith) r (mid + 1 + 1) in
    record {
      tree = g.fitting x.tree y.tree;
      derived = g.test_pattern (token_at at Keyword (codes "let")) (mark_at mid (codes "=")) (places from ps) (places (mid + 1 + 1) es) x.tree y.tree _ _
          (refl, refl) (refl, refl) x.derived y.derived
          (ap (λ l. token_at at Keyword (codes "let") ∷ l) (places-append from ps (between (codes "=") es)));
      same = rw (x.same, y.same) refl;
    }

-- ---- `while`

while_tests : (depth : ℕ) (s : Span) (l : Option Ident) (cs : List Piece) (x : Test) (h : ℕ) (b : Body) → MaybeLasting l → ReadsTest cs x h → ReadsBlock depth b → (at : ℕ)
    → AsLike (places at (label_pieces l ++ (keyword (codes "while") ∷ space ∷ (cs ++ (space ∷ block depth b))))) (while_of s l x b) (suc (max h (block_levels b)))
while_tests depth s l cs x h b f r k at =
    let ls = label_pieces l in
    let w = label_reads l f at in
    let from : ℕ = past at ls + 5 + 1 in
    let y = r from in
    let z = k (past from cs + 1) in
    record {
      tree = _;
      derived = g.while (places at ls) (places from cs) (places (past from cs + 1) (block depth b)) (token_at (past at ls) Keyword (codes "while")) w.tree y.tree z.tree _ _
          w.derived (refl, refl) y.derived z.derived
          (places-append at ls (keyword (codes "while") ∷ space ∷ (cs ++ (space ∷ block depth b)))
          ∙ ap (λ t. places at ls ++ (token_at (past at ls) Keyword (codes "while") ∷ t)) (places-append from cs (space ∷ block depth b)));
      same = erased_while _ w.tree y.tree z.tree ∙ ap (λ l. while_of nowhere l (erase_test y.tree) (erase_body z.tree)) w.same
          ∙ ap (λ t. while_of nowhere (erase_label l) t (erase_body z.tree)) y.same ∙ ap (while_of nowhere (erase_label l) (erase_test x)) z.same ∙ sym (erased_while s l x b);
    }

pub while_reads : (depth : ℕ) (s : Span) (l : Option Ident) (c : Expression) (b : Body) → MaybeLasting l → Reads depth c → ReadsBlock depth b → Reads depth (plain.while s l c b)
while_reads depth s l c b f r k =
    of_like depth (plain.while s l c b) refl refl (while_tests depth s l (tested 6 c (pieces false depth c)) (g.condition c) _ b f (condition_reads depth c r) k) (λ e. absurd (cc))

pub while_let_reads : (depth : ℕ) (s : Span) (l : Option Ident) (p : PatternTree) (c : Expression) (b : Body) → MaybeLasting l → ReadsPattern p → Reads depth c → ReadsBlock depth b
    → Reads depth (plain.while_let s l p c b)
while_let_reads depth s l p c b f q r k =
    of_like depth (plain.while_let s l p c b) refl refl
    (while_tests depth s l (fitted p (tested 4 c (pieces false depth c))) (g.fitting p c) _ b f (fitting_reads depth p c q r) k) (λ e. absurd (cc))

-- ---- `if`

abbrev AsIf : List Tok → Expression → ℕ → Type 0
AsIf ts x h = Derives (λ us y. IsIf us y h) erase ts (erase x)

of_if : (depth : ℕ) (x : Expression) → weakness x ≡ 0 → is_borrow x ≡ false → ((at : ℕ) → AsIf (places at (pieces false depth x)) x (expression_levels x)) → Reads depth x
of_if depth x w b h = of_like depth x w b
    (λ at. let r = h at in record { tree = r.tree; derived = g.conditional r.derived; same = r.same })
    (λ e at. let r = h at in record { tree = r.tree; derived = g.else_if r.derived; same = r.same })

if_tests : (depth : ℕ) (s : Span) (cs : List Piece) (x : Test) (h : ℕ) (b : Body) → ReadsTest cs x h → ReadsBlock depth b → (at : ℕ)
    → AsIf (places at (keyword (codes "if") ∷ space ∷ (cs ++ (space ∷ (block depth b ++ []))))) (if_of s x b plain.absent) (suc (max h (max (block_levels b) 0)))
if_tests depth s cs x h b r k at =
    let from : ℕ = at + 2 + 1 in
    let y = r from in
    let z = k (past from cs + 1) in
    at_height IsIf erase _ _ (suc (max h (block_levels b))) (suc (max h (max (block_levels b) 0))) (omega arith)
    (record {
      tree = _;
      derived = g.if_alone (token_at at Keyword (codes "if")) (places from cs) (places (past from cs + 1) (block depth b)) y.tree z.tree _ _ (refl, refl) y.derived z.derived
          (ap (λ l. token_at at Keyword (codes "if") ∷ l) (places-append from cs (space ∷ (block depth b ++ []))
          ∙ ap (λ l. places from cs ++ places (past from cs + 1) l) (append-nil (block depth b))));
      same = erased_if _ y.tree z.tree plain.absent ∙ ap (λ t. if_of nowhere t (erase_body z.tree) plain.absent) y.same
          ∙ ap (λ k. if_of nowhere (erase_test x) k plain.absent) z.same ∙ sym (erased_if s x b plain.absent);
    })

else_tests : (depth : ℕ) (s : Span) (cs : List Piece) (x : Test) (h : ℕ) (b : Body) (e : Expression) → is_branch e ≡ true → ReadsTest cs x h → ReadsBlock depth b → Reads depth e → (at : ℕ)
    → AsIf (places at (keyword (codes "if") ∷ space ∷ (cs ++ (space ∷ (block depth b ++ (space ∷ keyword (codes "else") ∷ space ∷ pieces false depth e))))))
    (if_of s x b (plain.present e)) (suc (max h (max (block_levels b) (expression_levels e))))
else_tests depth s cs x h b e i r k o at =
    let bs = block depth b in
    let from : ℕ = at + 2 + 1 in
    let start : ℕ = past from cs + 1 in
    let y = r from in
    let z = k start in
    let w = o.branch i (past start bs + 1 + 4 + 1) in
    let t = token_at (past start bs + 1) Keyword (codes "else") in
    record {
      tree = _;
      derived = g.if_else (token_at at Keyword (codes "if")) t (places from cs) (places start bs) (places (past start bs + 1 + 4 + 1) (pieces false depth e)) y.tree w.tree z.tree _ _ _
          (refl, refl) (refl, refl) y.derived z.derived w.derived
          (ap (λ l. token_at at Keyword (codes "if") ∷ l) (places-append from cs (space ∷ (bs ++ (space ∷ keyword (codes "else") ∷ space ∷ pieces false depth e)))
          ∙ ap (λ l. places from cs ++ l) (places-append start bs (space ∷ keyword (codes "else") ∷ space ∷ pieces false depth e))));
      same = erased_if _ y.tree z.tree (plain.present w.tree) ∙ ap (λ t. if_of nowhere t (erase_body z.tree) (plain.present (erase w.tree))) y.same
          ∙ ap (λ k. if_of nowhere (erase_test x) k (plain.present (erase w.tree))) z.same
          ∙ ap (λ u. if_of nowhere (erase_test x) (erase_body b) (plain.present u)) w.same ∙ sym (erased_if s x b (plain.present e));
    }

pub if_reads : (depth : ℕ) (s : Span) (c : Expression) (b : Body) → Reads depth c → ReadsBlock depth b → Reads depth (plain.if s c b plain.absent)
if_reads depth s c b r k =
    of_if depth (plain.if s c b plain.absent) refl refl (if_tests depth s (tested 6 c (pieces false depth c)) (g.condition c) _ b (condition_reads depth c r) k)

pub else_reads : (depth : ℕ) (s : Span) (c : Expression) (b : Body) (e : Expression) → is_branch e ≡ true → Reads depth c → ReadsBlock depth b → Reads depth e
    → Reads depth (plain.if s c b (plain.present e))
else_reads depth s c b e i r k o =
    of_if depth (plain.if s c b (plain.present e)) refl refl (else_tests depth s (tested 6 c (pieces false depth c)) (g.condition c) _ b e i (condition_reads depth c r) k o)

pub if_let_reads : (depth : ℕ) (s : Span) (p : PatternTree) (c : Expression) (b : Body) → ReadsPattern p → Reads depth c → ReadsBlock depth b → Reads depth (plain.if_let s p c b plain.absent)
if_let_reads depth s p c b q r k =
    of_if depth (plain.if_let s p c b plain.absent) refl refl (if_tests depth s (fitted p (tested 4 c (pieces false depth c))) (g.fitting p c) _ b (fitting_reads depth p c q r) k)

pub let_else_reads : (depth : ℕ) (s : Span) (p : PatternTree) (c : Expression) (b : Body) (e : Expression) → is_branch e ≡ true → ReadsPattern p → Reads depth c → ReadsBlock depth b → Reads depth e
    → Reads depth (plain.if_let s p c b (plain.present e))
let_else_reads depth s p c b e i q r k o =
    of_if depth (plain.if_let s p c b (plain.present e)) refl refl
    (else_tests depth s (fitted p (tested 4 c (pieces false depth c))) (g.fitting p c) _ b e i (fitting_reads depth p c q r) k o)

-- ---- `match`

abbrev pub AsArms : List Tok → Arms → ℕ → Type 0
AsArms ts as' h = Derives (λ us ys. AreArms us ys h) (λ ys. erase_arms (arms_of ys)) ts (erase_arms as')

abbrev pub ReadsArms : ℕ → Arms → Type 0
ReadsArms depth as' = (at : ℕ) → AsArms (places at (arms depth as')) as' (arms_levels as')

pub no_arms : (depth : ℕ) → ReadsArms depth plain.no_arm
no_arms depth at = record { tree = []; derived = g.no_arm; same = refl }

-- a pattern, the mark, the body and what follows
arm_places : (at : ℕ) (ps us rest : List Piece)
    → places at (ps ++ between (codes "=>") (us ++ rest))
    ≡ places at ps ++ (mark_at (past at ps + 1) (codes "=>") ∷ (places (past at ps + 1 + 2 + 1) us ++ places (past (past at ps + 1 + 2 + 1) us) rest))
arm_places at ps us rest =
    places-append at ps (between (codes "=>") (us ++ rest))
    ∙ ap (λ l. places at ps ++ (mark_at (past at ps + 1) (codes "=>") ∷ l)) (places-append (past at ps + 1 + 2 + 1) us rest)

-- without a comma
bare_arm : (depth : ℕ) (p : PatternTree) (e : Expression) (more : Arms) → ReadsPattern p → is_like e ≡ true → Reads depth e → ReadsArms depth more → (at : ℕ)
    → AsArms (places at (pattern_pieces p ++ between (codes "=>") (stated e (pieces false depth e) ++ arms depth more))) (plain.arm_and p e more)
    (max (max (pattern_levels p) (stated_levels e (expression_levels e))) (arms_levels more))
bare_arm depth p e more q i r k at =
    let ps = pattern_pieces p in
    let us = stated e (pieces false depth e) in
    let from : ℕ = past at ps + 1 + 2 + 1 in
    let x = q at in
    let y = like_stated depth e i r from in
    let z = k (past from us) in
    record {
      tree = (x.tree, y.tree) ∷ z.tree;
      derived = g.like_arm (mark_at (past at ps + 1) (codes "=>")) (places at ps) (places from us) (places (past from us) (arms depth more)) x.tree y.tree z.tree _ _ _
          x.derived (refl, refl) y.derived z.derived (arm_places at ps us (arms depth more));
      same = rw (x.same, y.same, z.same) refl;
    }

-- with a comma
comma_arm : (depth : ℕ) (p : PatternTree) (e : Expression) (more : Arms) → ReadsPattern p → Reads depth e → ReadsArms depth more → (at : ℕ)
    → AsArms (places at (pattern_pieces p ++ between (codes "=>") (stated e (pieces false depth e) ++ (mark (codes ",") ∷ arms depth more)))) (plain.arm_and p e more)
    (max (max (pattern_levels p) (stated_levels e (expression_levels e))) (arms_levels more))
comma_arm depth p e more q r k at = by (stated_reads depth e r (past at (pattern_pieces p) + 1 + 2 + 1))
  where
    by : AsStated (places (past at (pattern_pieces p) + 1 + 2 + 1) (stated e (pieces false depth e))) e (stated_levels e (expression_levels e))
        → AsArms (places at (pattern_pieces p ++ between (codes "=>") (stated e (pieces false depth e) ++ (mark (codes ",") ∷ arms depth more)))) (plain.arm_and p e more)
        (max (max (pattern_levels p) (stated_levels e (expression_levels e))) (arms_levels more))
    by (otherwise y n) =
        let x = q at in
        let us = stated e (pieces false depth e) in
        let from : ℕ = past at (pattern_pieces p) + 1 + 2 + 1 in
        let z = k (past from us + 1) in
        record {
          tree = (x.tree, y.tree) ∷ z.tree;
          derived = g.arm_and (mark_at (past at (pattern_pieces p) + 1) (codes "=>")) (mark_at (past from us) (codes ",")) (places at (pattern_pieces p)) (places from us) (places (past from us + 1) (arms depth more))
              x.tree y.tree z.tree _ _ _ x.derived (refl, refl) y.derived n (refl, refl) z.derived (arm_places at (pattern_pieces p) us (mark (codes ",") ∷ arms depth more));
          same = rw (x.same, y.same, z.same) refl;
        }
    by (ending i y) =
        let x = q at in
        let us = stated e (pieces false depth e) in
        let from : ℕ = past at (pattern_pieces p) + 1 + 2 + 1 in
        let z = k (past from us + 1) in
        record {
          tree = (x.tree, y.tree) ∷ z.tree;
          derived = g.like_arm_and (mark_at (past at (pattern_pieces p) + 1) (codes "=>")) (mark_at (past from us) (codes ",")) (places at (pattern_pieces p)) (places from us) (places (past from us + 1) (arms depth more))
              x.tree y.tree z.tree _ _ _ x.derived (refl, refl) y.derived (refl, refl) z.derived (arm_places at (pattern_pieces p) us (mark (codes ",") ∷ arms depth more));
          same = rw (x.same, y.same, z.same) refl;
        }

block_ends : (e : Expression) → is_block e ≡ true → is_like e ≡ true
block_ends (plain.block s b) k = refl
block_ends _ k = absurd (cc)

pub arm_reads : (depth : ℕ) (p : PatternTree) (e : Expression) (more : Arms) → ReadsPattern p → Reads depth e → ReadsArms depth more → ReadsArms depth (plain.arm_and p e more)
arm_reads depth p e more q r k at = by (is_block e) refl (at + length (10 ∷ indent depth))
  where
    by : (b : Bool) → is_block e ≡ b → (at : ℕ)
        → AsArms (places at (pattern_pieces p ++ between (codes "=>") (stated e (pieces false depth e) ++ (arm_comma b ++ arms depth more)))) (plain.arm_and p e more)
        (max (max (pattern_levels p) (stated_levels e (expression_levels e))) (arms_levels more))
    by true i at = bare_arm depth p e more q (block_ends e i) r k at
    by false i at = comma_arm depth p e more q r k at

record SomeArms (ts : List Tok) (t : Arms) (h : ℕ) : Type 0 where
  first : PatternTree × Expression
  more : List (PatternTree × Expression)
  derived : AreArms ts (first ∷ more) h
  same : erase_arms (arms_of (first ∷ more)) ≡ erase_arms t

some_arms : {ts : List Tok} {h : ℕ} (p : PatternTree) (e : Expression) (us : Arms) → AsArms ts (plain.arm_and p e us) h → SomeArms ts (plain.arm_and p e us) h
some_arms {ts} {h} p e us r = by r.tree r.derived r.same
  where
    by : (ys : List (PatternTree × Expression)) → AreArms ts ys h → erase_arms (arms_of ys) ≡ erase_arms (plain.arm_and p e us) → SomeArms ts (plain.arm_and p e us) h
    by [] d e = absurd (cc)
    by (y ∷ ys) d e = record { first = y; more = ys; derived = d; same = e }

pub match_reads : (depth : ℕ) (s : Span) (c : Expression) (p : PatternTree) (e : Expression) (more : Arms) → Reads depth c → ReadsArms (suc depth) (plain.arm_and p e more)
    → Reads depth (plain.match s c (plain.arm_and p e more))
match_reads depth s c p e more r k = of_like depth (plain.match s c (plain.arm_and p e more)) refl refl
    (λ at.
    let cs = tested 6 c (pieces false depth c) in
    let as' = arms (suc depth) (plain.arm_and p e more) in
    let from : ℕ = at + 5 + 1 in
    let begin : ℕ = past from cs + 1 in
    let y = tested_reads depth 6 c (omega arith) r from in
    let z = some_arms p e more (k (begin + 1)) in
    let close = mark_at (past (begin + 1) as' + length (10 ∷ indent depth)) (codes "}") in
    record {
      tree = _;
      derived = g.match (token_at at Keyword (codes "match")) (mark_at begin (codes "{")) close (places from cs) (places (begin + 1) as') y.tree z.first z.more _ _
          (refl, refl) (refl, refl) (refl, refl) y.derived z.derived
          (ap (λ l. token_at at Keyword (codes "match") ∷ l) (places-append from cs (space ∷ mark (codes "{") ∷ (as' ++ (line depth ∷ mark (codes "}") ∷ [])))
          ∙ ap (λ l. places from cs ++ (mark_at begin (codes "{") ∷ l)) (places-append (begin + 1) as' (line depth ∷ mark (codes "}") ∷ []))));
      same = rw (y.same, z.same) refl;
    })
    (λ e. absurd (cc))
