-- Arms, statements and blocks are written one line after the other: by the laws of lists put together.
use Rattle.std.proofs.Common.{◌≡◌, ℕ, suc, get_or, ◌+◌, ◌<◌, Bool, true, false, List, [], ◌∷◌, ◌++◌, length, drop, map, refl, sym, ap, ◌∙◌, append_assoc}
use Rattle.std.specs.Prelude.{◌==◌, codes}
use Rattle.rx_tree.specs.declared.tree.Arm.{Arm}
use Rattle.rx_tree.specs.declared.tree.Stmt.{Stmt}
use Rattle.rx_tree.specs.Plain as plain
use Rattle.rx_tree.specs.Plain.{PatternTree, Expression, Arms, Statements}
use Rattle.rx_tree.specs.PlainOf.{plain-Arm, arms_of, plain-Stmt, statements_of}
use Rattle.rx_print_spelling.specs.Pieces.{bytes_of, flat, mark, space, line, enclosed}
use Rattle.rx_print_spelling.specs.Patterns.{pattern_pieces}
use Rattle.rx_print_spelling.specs.Strengths as at
use Rattle.rx_print_spelling.specs.Places.{is_block, stated, tested, unfit}
use Rattle.rx_print_spelling.specs.Expressions.{between, arm_comma, is_empty, closing, pieces, arms, statements}
use Rattle.rx_print.specs.ExpressionParts.{arm_pieces, line_pieces, value_pieces, bare_pieces, valued_pieces, match_pieces}
use Rattle.rx_print_parts.proofs.Flat.{flat-append}
use Rattle.rx_print_parts.proofs.Written.{written_two, written_three}
use Rattle.rx_print_parts.proofs.WrittenLists.{all_step}

arms_next : (depth : ℕ) (a : PatternTree × Expression) (rest : Arms) → arms depth (plain.arm_and a.0 a.1 rest) ≡ arm_pieces depth a ++ arms depth rest
arms_next depth a rest =
    let P = pattern_pieces a.0 in
    let S = stated a.1 (pieces false depth a.1) in
    let C = arm_comma (is_block a.1) in
    ap (λ l. line depth ∷ l) (ap (λ l. P ++ between (codes "=>") l) (sym (append_assoc S C (arms depth rest))) ∙ sym (append_assoc P (between (codes "=>") (S ++ C)) (arms depth rest)))

pub arms_step : (depth : ℕ) (l : List Arm) (i : ℕ) (x : Arm) (o p all : List ℕ) → i < length l → x ≡ get_or l i x → p ≡ o ++ flat (arm_pieces depth (plain-Arm x))
    → o ++ flat (arms depth (arms_of (map plain-Arm (drop i l)))) ≡ all → p ++ flat (arms depth (arms_of (map plain-Arm (drop (i + 1) l)))) ≡ all
arms_step depth =
    all_step (λ l. arms depth (arms_of (map plain-Arm l))) (λ l. arms depth (arms_of (map plain-Arm l))) (λ x. arm_pieces depth (plain-Arm x)) (λ x xs. arms_next depth (plain-Arm x) (arms_of (map plain-Arm xs)))

pub statements_step : (depth : ℕ) (l : List Stmt) (i : ℕ) (x : Stmt) (o p all : List ℕ) → i < length l → x ≡ get_or l i x → p ≡ o ++ flat (line_pieces depth (plain-Stmt x))
    → o ++ flat (statements depth (statements_of (map plain-Stmt (drop i l)))) ≡ all → p ++ flat (statements depth (statements_of (map plain-Stmt (drop (i + 1) l)))) ≡ all
statements_step depth =
    all_step (λ l. statements depth (statements_of (map plain-Stmt l))) (λ l. statements depth (statements_of (map plain-Stmt l))) (λ x. line_pieces depth (plain-Stmt x)) (λ x xs. refl)

-- the brace that closes a block that is not empty, on a line of its own
closed : (depth : ℕ) (q r s : List ℕ) → r ≡ q ++ bytes_of (line depth) → s ≡ r ++ (125 ∷ []) → s ≡ q ++ flat (closing depth false)
closed depth q r s e f = written_two q r s (bytes_of (line depth)) (125 ∷ []) e f

not_empty : (l : List Stmt) (b : Bool) → b ≡ (length l == 0) → b ≡ false → is_empty (statements_of (map plain-Stmt l)) plain.absent ≡ false
not_empty [] b e t = let u : (length {A = Stmt} [] == 0) ≡ true = refl in cc
not_empty (x ∷ l) b e t = refl

pub bare_written : (depth inner : ℕ) (l : List Stmt) (b : Bool) (o p q r s : List ℕ) → b ≡ (length l == 0) → b ≡ false → inner ≡ suc depth → p ≡ o ++ (123 ∷ [])
    → q ≡ p ++ flat (statements inner (statements_of (map plain-Stmt l))) → r ≡ q ++ bytes_of (line depth) → s ≡ r ++ (125 ∷ []) → s ≡ o ++ flat (bare_pieces depth (statements_of (map plain-Stmt l)))
bare_written depth inner l b o p q r s e t n w v u z =
    let ss = statements_of (map plain-Stmt l) in
    let A = statements (suc depth) ss in
    written_three o p q s (123 ∷ []) (flat A) (flat (closing depth false)) w (v ∙ ap (λ m. p ++ flat (statements m ss)) n) (closed depth q r s u z)
    ∙ ap (λ m. o ++ (123 ∷ m)) (sym (flat-append A (closing depth false)))
    ∙ ap (λ c. o ++ (123 ∷ flat (A ++ closing depth c))) (sym (not_empty l b e t))

pub valued_written : (depth inner : ℕ) (ss : Statements) (e : Expression) (o p q r s t : List ℕ) → inner ≡ suc depth → p ≡ o ++ (123 ∷ []) → q ≡ p ++ flat (statements inner ss)
    → r ≡ q ++ flat (value_pieces inner e) → s ≡ r ++ bytes_of (line depth) → t ≡ s ++ (125 ∷ []) → t ≡ o ++ flat (valued_pieces depth ss e)
valued_written depth inner ss e o p q r s t n w v u z y =
    let A = statements (suc depth) ss in
    let B = value_pieces (suc depth) e in
    let C = closing depth false in
    written_three o p q t (123 ∷ []) (flat A) (flat (B ++ C)) w (v ∙ ap (λ m. p ++ flat (statements m ss)) n)
    (written_two q r t (flat B) (flat C) (u ∙ ap (λ m. q ++ flat (value_pieces m e)) n) (closed depth r s t z y) ∙ ap (λ m. q ++ m) (sym (flat-append B C)))
    ∙ ap (λ m. o ++ (123 ∷ m)) (sym (flat-append A (B ++ C)))

pub match_written : (depth inner : ℕ) (e : Expression) (as' : Arms) (within : Bool) (o p q r s : List ℕ) → inner ≡ suc depth → within ≡ unfit at.disjunction e
    → p ≡ o ++ (109 ∷ 97 ∷ 116 ∷ 99 ∷ 104 ∷ 32 ∷ (flat (enclosed within (pieces false depth e)) ++ (32 ∷ 123 ∷ []))) → q ≡ p ++ flat (arms inner as')
    → r ≡ q ++ bytes_of (line depth) → s ≡ r ++ (125 ∷ []) → s ≡ o ++ flat (match_pieces depth e as')
match_written depth inner e as' within o p q r s n i w v u z =
    let H = tested at.disjunction e (pieces false depth e) in
    let A = arms (suc depth) as' in
    let C = closing depth false in
    written_three o p q s (109 ∷ 97 ∷ 116 ∷ 99 ∷ 104 ∷ 32 ∷ (flat H ++ (32 ∷ 123 ∷ []))) (flat A) (flat C)
    (w ∙ ap (λ t. o ++ (109 ∷ 97 ∷ 116 ∷ 99 ∷ 104 ∷ 32 ∷ (flat (enclosed t (pieces false depth e)) ++ (32 ∷ 123 ∷ [])))) i)
    (v ∙ ap (λ m. p ++ flat (arms m as')) n) (closed depth q r s u z)
    ∙ ap (λ l. o ++ (109 ∷ 97 ∷ 116 ∷ 99 ∷ 104 ∷ 32 ∷ l)) (append_assoc (flat H) (32 ∷ 123 ∷ []) (flat A ++ flat C)
    ∙ ap (λ l. flat H ++ (32 ∷ 123 ∷ l)) (sym (flat-append A C))
    ∙ sym (flat-append H (space ∷ mark (codes "{") ∷ (A ++ C))))
