-- The tokens that operators, steps to fields and jumps are spelled with are derived as them, from what is claimed of their operands.
use Rattle.std.proofs.Common.{◌≡◌, ℕ, zero, suc, ◌+◌, ◌≤◌, max, Bool, true, false, List, [], ◌∷◌, ◌++◌, Option, Some, None, codes, length, refl, sym, ap, arith}
use Rattle.std.specs.Prelude.{◌≢◌}
use Rattle.std.specs.Fmt.{decimal}
use Rattle.rx_core.specs.declared.types.Span.{Span}
use Rattle.rx_tree.specs.declared.tree.Ident.{Ident}
use Rattle.rx_tree.specs.declared.tree.BinaryOp.{BinaryOp}
use Rattle.rx_tree.specs.declared.tree.BinaryOp.TheVariants as op
use Rattle.rx_tree.specs.declared.tree.UpdateOp.{UpdateOp}
use Rattle.rx_tree.specs.declared.tree.UpdateOp.TheVariants as update_op
use Rattle.rx_tree.specs.Plain as plain
use Rattle.rx_tree.specs.Plain.{Expression}
use Rattle.rx_tree.specs.Erase.{erase, nowhere}
use Rattle.rx_lex.specs.declared.token.Class.TheVariants.{Identifier, Keyword, Lifetime, Number}
use Rattle.rx_lex.specs.Tok.{Tok}
use Rattle.rx_lex.specs.Tokens.{token_at}
use Rattle.rx_lex.specs.Numerals.{greatest}
use Rattle.rx_parse_grammar.specs.grammar.Words.{IsMark, IsIndex, second_ampersand}
use Rattle.rx_parse_grammar.specs.grammar.Expressions as g
use Rattle.rx_parse_grammar.specs.grammar.Expressions.{IsExpression, IsOperand, IsUnary, IsPostfix, IsOperator, IsUpdate}
use Rattle.rx_print_spelling.specs.Pieces.{Piece, mark, name, index, mutable_pieces, with_ampersand}
use Rattle.rx_print_spelling.specs.Places.{strength, left_strength, right_strength, too_weak, shown, is_open, placed, operator_text, update_text}
use Rattle.rx_print_spelling.specs.Expressions.{pieces, between, is_borrow}
use Rattle.rx_print_spelling.specs.Levels.{placed_levels, expression_levels}
use Rattle.rx_print_spelling.specs.Formed.{MaybeLasting}
use Rattle.rx_print_spelling.proofs.DecimalDigits.{decimal_index, decimal_value}
use Rattle.rx_print_spelling.proofs.Pieces.{places, past, places-append}
use Rattle.rx_print_spelling.proofs.Derives.{mark_at, at_height}
use Rattle.rx_print_spelling.proofs.TypesRead.{mutable_reads}
use Rattle.rx_print_spelling.proofs.Claims.{Operand, AsOperand, Reads, Allowed, allowed_left, allowed_right, placed_reads, of_operand, of_borrow, of_loose}

-- ---- steps to fields

-- what stands before a step
before : (depth : ℕ) (e : Expression) → Reads depth e → (f : Bool) → Allowed f (shown (too_weak 0 e) (is_open e)) → (at : ℕ)
    → AsOperand f 0 (places at (placed 0 e (pieces false depth e))) e (placed_levels 0 e (expression_levels e))
before depth e r f o at = placed_reads depth e r 0 (omega arith) f o at

pub field_reads : (depth : ℕ) (s : Span) (e : Expression) (n : Ident) → Reads depth e → Reads depth (plain.field s e n)
field_reads depth s e n r = of_operand depth (plain.field s e n) (omega arith) refl refl refl (λ f o at.
    let ps = placed 0 e (pieces false depth e) in
    let a = before depth e r f o at in
    record {
      tree = _;
      derived = g.field (places at ps) (mark_at (past at ps) (codes ".")) (token_at (past at ps + 1) Identifier n.name) a.tree _ (refl, refl) refl a.derived
          (places-append at ps (mark (codes ".") ∷ name n ∷ []));
      same = rw a.same refl;
    })

is_index_at : (at i : ℕ) → i ≤ greatest → IsIndex (token_at at Number (decimal i)) i
is_index_at at i f = record { class = refl; digits = decimal_index i f; value = decimal_value i f; fits = f }

pub part_reads : (depth : ℕ) (s : Span) (e : Expression) (i : ℕ) → i ≤ greatest → Reads depth e → Reads depth (plain.part s e i)
part_reads depth s e i l r = of_operand depth (plain.part s e i) (omega arith) refl refl refl (λ f o at.
    let ps = placed 0 e (pieces false depth e) in
    let a = before depth e r f o at in
    record {
      tree = _;
      derived = g.part (places at ps) (mark_at (past at ps) (codes ".")) (token_at (past at ps + 1) Number (decimal i)) i a.tree _ (refl, refl) (is_index_at (past at ps + 1) i l) a.derived
          (places-append at ps (mark (codes ".") ∷ index i ∷ []));
      same = rw a.same refl;
    })

-- ---- unary operators

under : (depth : ℕ) (e : Expression) → Reads depth e → (f : Bool) → Allowed f (shown (too_weak 1 e) (is_open e)) → (at : ℕ)
    → AsOperand f 1 (places at (placed 1 e (pieces false depth e))) e (placed_levels 1 e (expression_levels e))
under depth e r f o at = placed_reads depth e r 1 (omega arith) f o at

pub deref_reads : (depth : ℕ) (s : Span) (e : Expression) → Reads depth e → Reads depth (plain.deref s e)
deref_reads depth s e r = of_operand depth (plain.deref s e) (omega arith) refl refl refl (λ f o at.
    let a = under depth e r f o (at + 1) in
    record {
      tree = _;
      derived = g.deref (mark_at at (codes "*")) (places (at + 1) (placed 1 e (pieces false depth e))) a.tree _ (refl, refl) a.derived refl;
      same = rw a.same refl;
    })

pub negate_reads : (depth : ℕ) (s : Span) (e : Expression) → Reads depth e → Reads depth (plain.negate s e)
negate_reads depth s e r = of_operand depth (plain.negate s e) (omega arith) refl refl refl (λ f o at.
    let a = under depth e r f o (at + 1) in
    record {
      tree = _;
      derived = g.negate (mark_at at (codes "-")) (places (at + 1) (placed 1 e (pieces false depth e))) a.tree _ (refl, refl) a.derived refl;
      same = rw a.same refl;
    })

pub invert_reads : (depth : ℕ) (s : Span) (e : Expression) → Reads depth e → Reads depth (plain.invert s e)
invert_reads depth s e r = of_operand depth (plain.invert s e) (omega arith) refl refl refl (λ f o at.
    let a = under depth e r f o (at + 1) in
    record {
      tree = _;
      derived = g.invert (mark_at at (codes "!")) (places (at + 1) (placed 1 e (pieces false depth e))) a.tree _ (refl, refl) a.derived refl;
      same = rw a.same refl;
    })

-- ---- borrows

-- behind one `&`
apart_reads : (depth : ℕ) (s : Span) (m : Bool) (e : Expression) → Reads depth e → (f : Bool) → Allowed f (shown (too_weak 1 e) (is_open e)) → (k : Tok)
    → IsMark (codes "&") k → (at : ℕ)
    → AsOperand f 1 (k ∷ places at (mutable_pieces m ++ placed 1 e (pieces false depth e))) (plain.borrow s m e) (suc (placed_levels 1 e (expression_levels e)))
apart_reads depth s m e r f o k i at =
    let ps = placed 1 e (pieces false depth e) in
    let from : ℕ = past at (mutable_pieces m) in
    let a = under depth e r f o from in
    record {
      tree = _;
      derived = g.borrow k (places at (mutable_pieces m)) (places from ps) m a.tree _ i (mutable_reads m at) a.derived
          (ap (λ z. k ∷ z) (places-append at (mutable_pieces m) ps));
      same = rw a.same refl;
    }

-- a borrow stands at a place of its own strength as it is
borrow_levels : (e : Expression) (h : ℕ) → is_borrow e ≡ true → placed_levels 1 e h ≡ h
borrow_levels (plain.borrow s m e) h b = refl
borrow_levels _ h b = absurd (cc)

borrow_open : (f : Bool) (e : Expression) → is_borrow e ≡ true → Allowed f (shown (too_weak 1 e) (is_open e)) → Allowed f (is_open e)
borrow_open f (plain.borrow s m e) b o = o
borrow_open f _ b o = absurd (cc)

joined_reads : (depth : ℕ) (s : Span) (e : Expression) → Reads depth e → is_borrow e ≡ true → (f : Bool) → Allowed f (shown (too_weak 1 e) (is_open e)) → (at : ℕ)
    → AsOperand f 1 (places at (mark (codes "&&") ∷ pieces true depth e)) (plain.borrow s false e) (suc (placed_levels 1 e (expression_levels e)))
joined_reads depth s e r b f o at =
    let a = r.joined b f (borrow_open f e b o) (second_ampersand (mark_at at (codes "&&"))) (refl, refl) (at + 2) in
    at_height (IsUnary f) erase (places at (mark (codes "&&") ∷ pieces true depth e)) (erase (plain.borrow s false e)) (suc (expression_levels e))
    (suc (placed_levels 1 e (expression_levels e))) (ap suc (sym (borrow_levels e (expression_levels e) b)))
    (record {
      tree = _;
      derived = g.borrow_twice (mark_at at (codes "&&")) (places (at + 2) (pieces true depth e)) a.tree (expression_levels e) (refl, refl) a.derived refl;
      same = ap (plain.borrow nowhere false) a.same;
    })

borrow_alone : (depth : ℕ) (s : Span) (m : Bool) (e : Expression) → Reads depth e → (f : Bool) → Allowed f (shown (too_weak 1 e) (is_open e)) → (at : ℕ)
    → AsOperand f 1 (places at (pieces false depth (plain.borrow s m e))) (plain.borrow s m e) (suc (placed_levels 1 e (expression_levels e)))
borrow_alone depth s false e r f o at = by (is_borrow e) refl
  where
    by : (b : Bool) → is_borrow e ≡ b
        → AsOperand f 1 (places at (with_ampersand b (placed 1 e (pieces false depth e)) (pieces true depth e))) (plain.borrow s false e) (suc (placed_levels 1 e (expression_levels e)))
    by false b = apart_reads depth s false e r f o (mark_at at (codes "&")) (refl, refl) (at + 1)
    by true b = joined_reads depth s e r b f o at
borrow_alone depth s true e r f o at = apart_reads depth s true e r f o (mark_at at (codes "&")) (refl, refl) (at + 1)

pub borrow_reads : (depth : ℕ) (s : Span) (m : Bool) (e : Expression) → Reads depth e → Reads depth (plain.borrow s m e)
borrow_reads depth s m e r =
    of_borrow depth (plain.borrow s m e) refl refl refl (λ f o at. borrow_alone depth s m e r f o at) (λ f o k i at. apart_reads depth s m e r f o k i at)

-- ---- operators between two operands

inner : (f : Bool) (j : ℕ) (ts : List Tok) (x : Expression) (h : ℕ) → Operand f (suc j) ts x h → IsOperand f j ts x h
inner f zero ts x h d = g.unary d
inner f (suc j) ts x h d = d

two_sides : (at : ℕ) (ps qs : List Piece) (w : List ℕ)
    → places at (ps ++ between w qs) ≡ places at ps ++ (mark_at (past at ps + 1) w ∷ places (past at ps + 1 + length w + 1) qs)
two_sides at ps qs w = places-append at ps (between w qs)

abbrev IsOf : ℕ → BinaryOp → Type 0
IsOf j o = (t : Tok) → IsMark (operator_text o) t → IsOperator (suc j) t o

chain_step : (f : Bool) (j : ℕ) (s : Span) (o : BinaryOp) (a b : Expression) (ps qs : List Piece) (m n : ℕ) → j ≢ 2 → IsOf j o
    → ((at : ℕ) → AsOperand f (suc (suc j)) (places at ps) a m) → ((at : ℕ) → AsOperand f (suc j) (places at qs) b n) → (at : ℕ)
    → AsOperand f (suc (suc j)) (places at (ps ++ between (operator_text o) qs)) (plain.binary s o a b) (suc (max m n))
chain_step f j s o a b ps qs m n k i l r at =
    let x = l at in
    let from : ℕ = past at ps + 1 + length (operator_text o) + 1 in
    let y = r from in
    let t = mark_at (past at ps + 1) (operator_text o) in
    record {
      tree = _;
      derived = g.chain (places at ps) (places from qs) t o x.tree y.tree m n k (i t (refl, refl)) x.derived (inner f j _ _ _ y.derived) (two_sides at ps qs (operator_text o));
      same = rw (x.same, y.same) refl;
    }

compare_step : (f : Bool) (s : Span) (o : BinaryOp) (a b : Expression) (ps qs : List Piece) (m n : ℕ) → IsOf 2 o
    → ((at : ℕ) → AsOperand f 3 (places at ps) a m) → ((at : ℕ) → AsOperand f 3 (places at qs) b n) → (at : ℕ)
    → AsOperand f 4 (places at (ps ++ between (operator_text o) qs)) (plain.binary s o a b) (suc (max m n))
compare_step f s o a b ps qs m n i l r at =
    let x = l at in
    let from : ℕ = past at ps + 1 + length (operator_text o) + 1 in
    let y = r from in
    let t = mark_at (past at ps + 1) (operator_text o) in
    record {
      tree = _;
      derived = g.compare (places at ps) (places from qs) t o x.tree y.tree m n refl (i t (refl, refl)) x.derived y.derived (two_sides at ps qs (operator_text o));
      same = rw (x.same, y.same) refl;
    }

by_strength : (f : Bool) (s : Span) (o : BinaryOp) (a b : Expression) (ps qs : List Piece) (m n : ℕ)
    → ((at : ℕ) → AsOperand f (left_strength o) (places at ps) a m) → ((at : ℕ) → AsOperand f (right_strength o) (places at qs) b n) → (at : ℕ)
    → AsOperand f (strength o) (places at (ps ++ between (operator_text o) qs)) (plain.binary s o a b) (suc (max m n))
by_strength f s op.Or a b ps qs m n l r = chain_step f 4 s op.Or a b ps qs m n (λ e. omega (arith, e)) (λ t i. g.or i) l r
by_strength f s op.And a b ps qs m n l r = chain_step f 3 s op.And a b ps qs m n (λ e. omega (arith, e)) (λ t i. g.and i) l r
by_strength f s op.Eq a b ps qs m n l r = compare_step f s op.Eq a b ps qs m n (λ t i. g.equal i) l r
by_strength f s op.Ne a b ps qs m n l r = compare_step f s op.Ne a b ps qs m n (λ t i. g.unequal i) l r
by_strength f s op.Lt a b ps qs m n l r = compare_step f s op.Lt a b ps qs m n (λ t i. g.less i) l r
by_strength f s op.Le a b ps qs m n l r = compare_step f s op.Le a b ps qs m n (λ t i. g.at_most i) l r
by_strength f s op.Gt a b ps qs m n l r = compare_step f s op.Gt a b ps qs m n (λ t i. g.greater i) l r
by_strength f s op.Ge a b ps qs m n l r = compare_step f s op.Ge a b ps qs m n (λ t i. g.at_least i) l r
by_strength f s op.Add a b ps qs m n l r = chain_step f 1 s op.Add a b ps qs m n (λ e. omega (arith, e)) (λ t i. g.plus i) l r
by_strength f s op.Sub a b ps qs m n l r = chain_step f 1 s op.Sub a b ps qs m n (λ e. omega (arith, e)) (λ t i. g.minus i) l r
by_strength f s op.Mul a b ps qs m n l r = chain_step f 0 s op.Mul a b ps qs m n (λ e. omega (arith, e)) (λ t i. g.times i) l r
by_strength f s op.Div a b ps qs m n l r = chain_step f 0 s op.Div a b ps qs m n (λ e. omega (arith, e)) (λ t i. g.divided i) l r
by_strength f s op.Rem a b ps qs m n l r = chain_step f 0 s op.Rem a b ps qs m n (λ e. omega (arith, e)) (λ t i. g.modulo i) l r

record Low (o : BinaryOp) : Type 0 where
  whole : strength o ≤ 6
  left : left_strength o ≤ 6
  right : right_strength o ≤ 6

low : (o : BinaryOp) → Low o
low op.Or = record { whole = omega arith; left = omega arith; right = omega arith }
low op.And = record { whole = omega arith; left = omega arith; right = omega arith }
low op.Eq = record { whole = omega arith; left = omega arith; right = omega arith }
low op.Ne = record { whole = omega arith; left = omega arith; right = omega arith }
low op.Lt = record { whole = omega arith; left = omega arith; right = omega arith }
low op.Le = record { whole = omega arith; left = omega arith; right = omega arith }
low op.Gt = record { whole = omega arith; left = omega arith; right = omega arith }
low op.Ge = record { whole = omega arith; left = omega arith; right = omega arith }
low op.Add = record { whole = omega arith; left = omega arith; right = omega arith }
low op.Sub = record { whole = omega arith; left = omega arith; right = omega arith }
low op.Mul = record { whole = omega arith; left = omega arith; right = omega arith }
low op.Div = record { whole = omega arith; left = omega arith; right = omega arith }
low op.Rem = record { whole = omega arith; left = omega arith; right = omega arith }

pub binary_reads : (depth : ℕ) (s : Span) (o : BinaryOp) (a b : Expression) → Reads depth a → Reads depth b → Reads depth (plain.binary s o a b)
binary_reads depth s o a b l r =
    let k = low o in
    of_operand depth (plain.binary s o a b) k.whole refl refl refl (λ f p.
    by_strength f s o a b (placed (left_strength o) a (pieces false depth a)) (placed (right_strength o) b (pieces false depth b)) _ _
    (placed_reads depth a l (left_strength o) k.left f (allowed_left f (shown (too_weak (left_strength o) a) (is_open a)) (shown (too_weak (right_strength o) b) (is_open b)) p))
    (placed_reads depth b r (right_strength o) k.right f (allowed_right f (shown (too_weak (left_strength o) a) (is_open a)) (shown (too_weak (right_strength o) b) (is_open b)) p)))

-- ---- assignments

pub assign_reads : (depth : ℕ) (s : Span) (a b : Expression) → Reads depth a → Reads depth b → Reads depth (plain.assign s a b)
assign_reads depth s a b l r = of_loose depth (plain.assign s a b) refl refl refl refl (λ at.
    let ps = placed 6 a (pieces false depth a) in
    let x = placed_reads depth a l 6 (omega arith) true tt at in
    let y = r.whole (past at ps + 1 + 1 + 1) in
    record {
      tree = _;
      derived = g.assign (places at ps) (places (past at ps + 1 + 1 + 1) (pieces false depth b)) (mark_at (past at ps + 1) (codes "=")) x.tree y.tree _ _ (refl, refl) x.derived y.derived
          (two_sides at ps (pieces false depth b) (codes "="));
      same = rw (x.same, y.same) refl;
    })

is_update : (o : UpdateOp) (t : Tok) → IsMark (update_text o) t → IsUpdate t o
is_update update_op.Add t i = g.plus_equal i
is_update update_op.Sub t i = g.minus_equal i
is_update update_op.Mul t i = g.times_equal i
is_update update_op.Div t i = g.divided_equal i
is_update update_op.Rem t i = g.modulo_equal i

pub update_reads : (depth : ℕ) (s : Span) (o : UpdateOp) (a b : Expression) → Reads depth a → Reads depth b → Reads depth (plain.update s o a b)
update_reads depth s o a b l r = of_loose depth (plain.update s o a b) refl refl refl refl (λ at.
    let ps = placed 6 a (pieces false depth a) in
    let from : ℕ = past at ps + 1 + length (update_text o) + 1 in
    let x = placed_reads depth a l 6 (omega arith) true tt at in
    let y = r.whole from in
    let t = mark_at (past at ps + 1) (update_text o) in
    record {
      tree = _;
      derived = g.update (places at ps) (places from (pieces false depth b)) t o x.tree y.tree _ _ (is_update o t (refl, refl)) x.derived y.derived
          (two_sides at ps (pieces false depth b) (update_text o));
      same = rw (x.same, y.same) refl;
    })

-- ---- jumps

pub break_reads : (depth : ℕ) (s : Span) (l : Option Ident) → MaybeLasting l → Reads depth (plain.break s l)
break_reads depth s None f = of_loose depth (plain.break s None) refl refl refl refl (λ at.
    record { tree = _; derived = g.break (token_at at Keyword (codes "break")) (refl, refl) refl; same = refl })
break_reads depth s (Some l) f = of_loose depth (plain.break s (Some l)) refl refl refl refl (λ at.
    record { tree = _; derived = g.break_from (token_at at Keyword (codes "break")) (token_at (at + 5 + 1) Lifetime l.name) (refl, refl) (refl, f.1) refl; same = refl })

pub continue_reads : (depth : ℕ) (s : Span) (l : Option Ident) → MaybeLasting l → Reads depth (plain.continue s l)
continue_reads depth s None f = of_loose depth (plain.continue s None) refl refl refl refl (λ at.
    record { tree = _; derived = g.continue (token_at at Keyword (codes "continue")) (refl, refl) refl; same = refl })
continue_reads depth s (Some l) f = of_loose depth (plain.continue s (Some l)) refl refl refl refl (λ at.
    record { tree = _; derived = g.continue_with (token_at at Keyword (codes "continue")) (token_at (at + 8 + 1) Lifetime l.name) (refl, refl) (refl, f.1) refl; same = refl })

pub return_reads : (depth : ℕ) (s : Span) → Reads depth (plain.return s plain.absent)
return_reads depth s = of_loose depth (plain.return s plain.absent) refl refl refl refl (λ at.
    record { tree = _; derived = g.return (token_at at Keyword (codes "return")) (refl, refl) refl; same = refl })

pub return_with_reads : (depth : ℕ) (s : Span) (e : Expression) → Reads depth e → Reads depth (plain.return s (plain.present e))
return_with_reads depth s e r = of_loose depth (plain.return s (plain.present e)) refl refl refl refl (λ at.
    let a = r.whole (at + 6 + 1) in
    record {
      tree = _;
      derived = g.return_with (token_at at Keyword (codes "return")) (places (at + 6 + 1) (pieces false depth e)) a.tree _ (refl, refl) a.derived refl;
      same = rw a.same refl;
    })
