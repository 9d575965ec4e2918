-- What is claimed of the tokens that an expression is spelled with, and what follows at each place: in parentheses, or as it stands.
use Rattle.std.proofs.Common.{◌≡◌, ℕ, zero, suc, ◌+◌, ◌-◌, ◌≤◌, Bool, true, false, List, [], ◌∷◌, codes, refl, sym, ap, subst, ◌∙◌, arith, append-nil}
use Rattle.std.specs.Prelude.{⊤, not, ◌&&◌, ◌||◌}
use Rattle.std.proofs.lemmas.Bool.{or_parts, ltb-false, false≢true}
use Rattle.rx_tree.specs.Plain.{Expression}
use Rattle.rx_tree.specs.Erase.{erase}
use Rattle.rx_lex.specs.Tok.{Tok}
use Rattle.rx_parse_grammar.specs.grammar.Words.{IsMark}
use Rattle.rx_parse_grammar.specs.grammar.Expressions as g
use Rattle.rx_parse_grammar.specs.grammar.Expressions.{IsExpression, IsOperand, IsUnary, IsPostfix, IsPrimary, IsLike, IsElse, BeginsLike}
use Rattle.rx_print_spelling.specs.Pieces.{enclosed}
use Rattle.rx_print_spelling.specs.Places.{weakness, too_weak, shown, is_open, unfit, is_like, is_branch, begins, goes_on, placed, tested, stated}
use Rattle.rx_print_spelling.specs.Expressions.{pieces, is_borrow}
use Rattle.rx_print_spelling.specs.Levels.{enclosed_levels, placed_levels, tested_levels, stated_levels, expression_levels}
use Rattle.rx_print_spelling.proofs.Pieces.{places, past}
use Rattle.rx_print_spelling.proofs.Derives.{Derives, mark_at, closed}
use Rattle.rx_print_spelling.proofs.FirstWords.{first_begins, tokens_begin, expression_begins}

-- ---- operands of each strength

-- what a place of this strength takes
abbrev pub Operand : Bool → ℕ → List Tok → Expression → ℕ → Type 0
Operand f zero ts x h = IsPostfix f ts x h
Operand f (suc zero) ts x h = IsUnary f ts x h
Operand f (suc (suc j)) ts x h = IsOperand f (suc j) ts x h

up : (f : Bool) (ts : List Tok) (x : Expression) (h w : ℕ) → Operand f w ts x h → Operand f (suc w) ts x h
up f ts x h zero d = g.postfix d
up f ts x h (suc zero) d = g.stronger (g.unary d)
up f ts x h (suc (suc j)) d = g.stronger d

climb : (f : Bool) (ts : List Tok) (x : Expression) (h d w p : ℕ) → d + w ≡ p → Operand f w ts x h → Operand f p ts x h
climb f ts x h zero w p e o = subst (λ n. Operand f n ts x h) (let k : w ≡ p = omega (arith, e) in k) o
climb f ts x h (suc d) w p e o = climb f ts x h d (suc w) p (omega (arith, e)) (up f ts x h w o)

pub lift : (f : Bool) (ts : List Tok) (x : Expression) (h w p : ℕ) → w ≤ p → Operand f w ts x h → Operand f p ts x h
lift f ts x h w p l o = climb f ts x h (p - w) w p (omega (arith, l)) o

-- a struct literal may stand open only where one may
abbrev pub Allowed : Bool → Bool → Type 0
Allowed true b = ⊤
Allowed false b = b ≡ false

pub allowed_left : (f a b : Bool) → Allowed f (a || b) → Allowed f a
allowed_left true a b h = tt
allowed_left false a b h = (or_parts a b h).0

pub allowed_right : (f a b : Bool) → Allowed f (a || b) → Allowed f b
allowed_right true a b h = tt
allowed_right false a b h = (or_parts a b h).1

pub allowed_closed : (f : Bool) → Allowed f false
allowed_closed true = tt
allowed_closed false = refl

-- ---- claims

abbrev pub AsExpression : List Tok → Expression → ℕ → Type 0
AsExpression ts x h = Derives (λ us y. IsExpression us y h) erase ts (erase x)

abbrev pub AsOperand : Bool → ℕ → List Tok → Expression → ℕ → Type 0
AsOperand f w ts x h = Derives (λ us y. Operand f w us y h) erase ts (erase x)

abbrev pub AsPrimary : Bool → List Tok → Expression → ℕ → Type 0
AsPrimary f ts x h = Derives (λ us y. IsPrimary f us y h) erase ts (erase x)

abbrev pub AsLike : List Tok → Expression → ℕ → Type 0
AsLike ts x h = Derives (λ us y. IsLike us y h) erase ts (erase x)

abbrev pub AsElse : List Tok → Expression → ℕ → Type 0
AsElse ts x h = Derives (λ us y. IsElse us y h) erase ts (erase x)

-- of an expression on a line of this depth: as a whole, as an operand, behind an `&` that is the second half of a mark, as one that
-- ends in a block, and behind `else`
pub record Reads (depth : ℕ) (x : Expression) : Type 0 where
  pub whole : (at : ℕ) → AsExpression (places at (pieces false depth x)) x (expression_levels x)
  pub operand : weakness x ≤ 6 → (f : Bool) → Allowed f (is_open x) → (at : ℕ) → AsOperand f (weakness x) (places at (pieces false depth x)) x (expression_levels x)
  pub joined : is_borrow x ≡ true → (f : Bool) → Allowed f (is_open x) → (k : Tok) → IsMark (codes "&") k → (at : ℕ)
      → AsOperand f 1 (k ∷ places at (pieces true depth x)) x (expression_levels x)
  pub like : is_like x ≡ true → (at : ℕ) → AsLike (places at (pieces false depth x)) x (expression_levels x)
  pub branch : is_branch x ≡ true → (at : ℕ) → AsElse (places at (pieces false depth x)) x (expression_levels x)

abbrev OperandClaim : ℕ → Expression → Type 0
OperandClaim depth x = (f : Bool) → Allowed f (is_open x) → (at : ℕ) → AsOperand f (weakness x) (places at (pieces false depth x)) x (expression_levels x)

whole_of : (depth : ℕ) (x : Expression) → weakness x ≤ 6 → OperandClaim depth x → (at : ℕ) → AsExpression (places at (pieces false depth x)) x (expression_levels x)
whole_of depth x l f at = let r = f true tt at in record { tree = r.tree; derived = g.operand (lift true _ _ _ (weakness x) 6 l r.derived); same = r.same }

pub of_operand : (depth : ℕ) (x : Expression) → weakness x ≤ 6 → is_borrow x ≡ false → is_like x ≡ false → is_branch x ≡ false → OperandClaim depth x → Reads depth x
of_operand depth x l b k e f = record {
  whole = whole_of depth x l f;
  operand = λ m. f;
  joined = λ c. absurd (cc);
  like = λ c. absurd (cc);
  branch = λ c. absurd (cc);
}

pub of_borrow : (depth : ℕ) (x : Expression) → weakness x ≡ 1 → is_like x ≡ false → is_branch x ≡ false → OperandClaim depth x
    → ((f : Bool) → Allowed f (is_open x) → (k : Tok) → IsMark (codes "&") k → (at : ℕ) → AsOperand f 1 (k ∷ places at (pieces true depth x)) x (expression_levels x))
    → Reads depth x
of_borrow depth x w k e f h = record {
  whole = whole_of depth x (omega (arith, w)) f;
  operand = λ m. f;
  joined = λ c. h;
  like = λ c. absurd (cc);
  branch = λ c. absurd (cc);
}

pub of_loose : (depth : ℕ) (x : Expression) → weakness x ≡ 7 → is_borrow x ≡ false → is_like x ≡ false → is_branch x ≡ false
    → ((at : ℕ) → AsExpression (places at (pieces false depth x)) x (expression_levels x)) → Reads depth x
of_loose depth x w b k e f = record {
  whole = f;
  operand = λ m. absurd (omega (arith, w, m));
  joined = λ c. absurd (cc);
  like = λ c. absurd (cc);
  branch = λ c. absurd (cc);
}

primary_operand : (depth : ℕ) (x : Expression) → weakness x ≡ 0
    → ((f : Bool) → Allowed f (is_open x) → (at : ℕ) → AsPrimary f (places at (pieces false depth x)) x (expression_levels x)) → OperandClaim depth x
primary_operand depth x w h f o at =
    let r = h f o at in
    subst (λ n. AsOperand f n (places at (pieces false depth x)) x (expression_levels x)) (sym w) (record { tree = r.tree; derived = g.primary r.derived; same = r.same })

pub of_primary : (depth : ℕ) (x : Expression) → weakness x ≡ 0 → is_borrow x ≡ false → is_like x ≡ false → is_branch x ≡ false
    → ((f : Bool) → Allowed f (is_open x) → (at : ℕ) → AsPrimary f (places at (pieces false depth x)) x (expression_levels x)) → Reads depth x
of_primary depth x w b k e h = of_operand depth x (omega (arith, w)) b k e (primary_operand depth x w h)

pub of_like : (depth : ℕ) (x : Expression) → weakness x ≡ 0 → is_borrow x ≡ false
    → ((at : ℕ) → AsLike (places at (pieces false depth x)) x (expression_levels x))
    → (is_branch x ≡ true → (at : ℕ) → AsElse (places at (pieces false depth x)) x (expression_levels x)) → Reads depth x
of_like depth x w b h k =
    let f = primary_operand depth x w (λ f o at. let r = h at in record { tree = r.tree; derived = g.like r.derived; same = r.same }) in
    record {
      whole = whole_of depth x (omega (arith, w)) f;
      operand = λ m. f;
      joined = λ c. absurd (cc);
      like = λ c. h;
      branch = k;
    }

-- ---- at a place

parenthesised : (depth : ℕ) (x : Expression) → Reads depth x → (f : Bool) (at : ℕ)
    → AsPrimary f (places at (enclosed true (pieces false depth x))) x (suc (expression_levels x))
parenthesised depth x r f at =
    let a = r.whole (at + 1) in
    let ps = pieces false depth x in
    record {
      tree = a.tree;
      derived = g.parentheses (mark_at at (codes "(")) (mark_at (past (at + 1) ps) (codes ")")) (places (at + 1) ps) a.tree (expression_levels x) (refl, refl) (refl, refl) a.derived
          (ap (λ l. mark_at at (codes "(") ∷ l) (closed (at + 1) ps (codes ")")));
      same = a.same;
    }

operand_enclosed : (depth : ℕ) (x : Expression) → Reads depth x → (f : Bool) (p at : ℕ)
    → AsOperand f p (places at (enclosed true (pieces false depth x))) x (suc (expression_levels x))
operand_enclosed depth x r f p at = let a = parenthesised depth x r f at in record { tree = a.tree; derived = lift f _ _ _ 0 p (omega arith) (g.primary a.derived); same = a.same }

not_weaker : (p : ℕ) (x : Expression) → too_weak p x ≡ false → weakness x ≤ p
not_weaker p x e = ltb-false p (weakness x) e

operand_lifted : (depth : ℕ) (x : Expression) → Reads depth x → (f : Bool) → Allowed f (is_open x) → (p : ℕ) → weakness x ≤ p → p ≤ 6 → (at : ℕ)
    → AsOperand f p (places at (pieces false depth x)) x (expression_levels x)
operand_lifted depth x r f o p l m at = let a = r.operand (omega (arith, l, m)) f o at in record { tree = a.tree; derived = lift f _ _ _ (weakness x) p l a.derived; same = a.same }

pub placed_reads : (depth : ℕ) (x : Expression) → Reads depth x → (p : ℕ) → p ≤ 6 → (f : Bool) → Allowed f (shown (too_weak p x) (is_open x)) → (at : ℕ)
    → AsOperand f p (places at (placed p x (pieces false depth x))) x (placed_levels p x (expression_levels x))
placed_reads depth x r p m f o at = by (too_weak p x) refl o
  where
    by : (b : Bool) → too_weak p x ≡ b → Allowed f (shown b (is_open x))
        → AsOperand f p (places at (enclosed b (pieces false depth x))) x (enclosed_levels b (expression_levels x))
    by true e o = operand_enclosed depth x r f p at
    by false e o = operand_lifted depth x r f o p (not_weaker p x e) m at

pub tested_reads : (depth place : ℕ) (x : Expression) → place ≤ 6 → Reads depth x → (at : ℕ)
    → AsOperand false place (places at (tested place x (pieces false depth x))) x (tested_levels place x (expression_levels x))
tested_reads depth place x m r at = by (unfit place x) refl
  where
    by : (b : Bool) → unfit place x ≡ b → AsOperand false place (places at (enclosed b (pieces false depth x))) x (enclosed_levels b (expression_levels x))
    by true e = operand_enclosed depth x r false place at
    by false e = let p = or_parts (too_weak place x) (is_open x) e in operand_lifted depth x r false p.1 place (not_weaker place x p.0) m at

-- as a statement, a tail or the body of an arm
pub data AsStated (ts : List Tok) (x : Expression) (h : ℕ) : Type 0 where
  otherwise : AsExpression ts x h → (BeginsLike ts → ⊥) → AsStated ts x h
  ending : is_like x ≡ true → AsLike ts x h → AsStated ts x h

begun : (depth : ℕ) (x : Expression) (at : ℕ) → BeginsLike (places at (pieces false depth x)) → begins x ≡ true
begun depth x at d =
    sym (expression_begins x depth []) ∙ ap first_begins (append-nil (pieces false depth x)) ∙ tokens_begin (pieces false depth x) at d

pub stated_reads : (depth : ℕ) (x : Expression) → Reads depth x → (at : ℕ)
    → AsStated (places at (stated x (pieces false depth x))) x (stated_levels x (expression_levels x))
stated_reads depth x r at = by (goes_on x) refl
  where
    with_parentheses : AsStated (places at (enclosed true (pieces false depth x))) x (suc (expression_levels x))
    with_parentheses =
        let a = operand_enclosed depth x r true 6 at in
        otherwise (record { tree = a.tree; derived = g.operand a.derived; same = a.same }) (λ d. false≢true (tokens_begin (enclosed true (pieces false depth x)) at d))

    bare : (b : Bool) → is_like x ≡ b → goes_on x ≡ false → AsStated (places at (pieces false depth x)) x (expression_levels x)
    bare true k e = ending k (r.like k at)
    bare false k e =
        let n : begins x ≡ false = sym (ap (λ c. not c && begins x) k) ∙ e in
        otherwise (r.whole at) (λ d. false≢true (sym n ∙ begun depth x at d))

    by : (b : Bool) → goes_on x ≡ b → AsStated (places at (enclosed b (pieces false depth x))) x (enclosed_levels b (expression_levels x))
    by true e = with_parentheses
    by false e = bare (is_like x) refl e
