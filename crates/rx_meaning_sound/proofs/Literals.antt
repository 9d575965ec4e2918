-- Trees with numbers whose literals are in the ranges of their kinds, but for those directly under a minus.
use Rattle.std.specs.Prelude.{int_le}
use Rattle.std.proofs.lemmas.Int.{ints}
use Rattle.std.proofs.Common.{◌≡◌, ℕ, pos, arith, Bool, true, false, ◌&&◌, ◌||◌, refl, sym, subst}
use Rattle.rx_core.specs.declared.types.Kind.{Kind}
use Rattle.rx_typed.specs.declared.nodes.Node.{Node}
use Rattle.rx_typed.specs.Types.{Typ, integer}
use Rattle.rx_typed.specs.Named as named
use Rattle.rx_typed.specs.Named.{Exp, Exps, Else, Fields, Arms, Body, Statement, Statements}
use Rattle.rx_typed.specs.Elaborated.{Assigned, kind_in}
use Rattle.rx_typeck_solver.specs.Facts.{has, AnInteger}
use Rattle.rx_typeck_typed.specs.Asking.{fitting}
use Rattle.rx_meaning.specs.Operators.{is_in, greatest}

or_false : (a : Bool) → (a || false) ≡ true → a ≡ true
or_false true h = refl
or_false false h = h

not_false : (b : Bool) → (b ≡ false → ⊥) → b ≡ true
not_false true h = refl
not_false false h = absurd (h refl)

both_true : (a b : Bool) → a ≡ true → b ≡ true → (a && b) ≡ true
both_true true b e g = g
both_true false b e g = e

not_below : (v : ℕ) → int_le (pos 0) (pos v) ≡ true
not_below v = not_false (int_le (pos 0) (pos v)) (λ q. omega (arith, ints, q))

in_range : (k : Kind) (v : ℕ) → has (fitting false v) k ≡ true → is_in k (pos v) ≡ true
in_range Kind.U8 v h = both_true (int_le (pos 0) (pos v)) (int_le (pos v) (greatest Kind.U8)) (not_below v) h
in_range Kind.U32 v h = both_true (int_le (pos 0) (pos v)) (int_le (pos v) (greatest Kind.U32)) (not_below v) h
in_range Kind.U64 v h = both_true (int_le (pos 0) (pos v)) (int_le (pos v) (greatest Kind.U64)) (not_below v) h
in_range Kind.I32 v h = or_false _ h
in_range Kind.I64 v h = or_false _ h

-- a literal that fits
pub literal_fits : (t : Typ) (m : Bool) (v : ℕ) → AnInteger (fitting m v) t → m ≡ false → is_in (kind_in t) (pos v) ≡ true
literal_fits t m v h e = subst (λ (z : Typ). is_in (kind_in z) (pos v) ≡ true) (sym h.1) (in_range h.0 v (subst (λ (b : Bool). has (fitting b v) h.0 ≡ true) e h.2))

module _ (T : Assigned) where
  abbrev pub Fit : Node → Bool → ℕ → Type 0
  Fit n m v = m ≡ false → is_in (kind_in (T.typ n.number)) (pos v) ≡ true

  abbrev mutual
    pub Literals : Exp → Type 0
    Literals (named.int n m v k) = Fit n m v
    Literals (named.bool n c) = Unit {0}
    Literals (named.tuple n es) = EachLiterals es
    Literals (named.var n x) = Unit {0}
    Literals (named.field n e x) = Literals e
    Literals (named.part n e i) = Literals e
    Literals (named.deref n e) = Literals e
    Literals (named.negate n e) = Literals e
    Literals (named.invert n e) = Literals e
    Literals (named.borrow n m e) = Literals e
    Literals (named.binary n o x y) = Literals x × Literals y
    Literals (named.assign n p e) = Literals p × Literals e
    Literals (named.gives n p x d e) = Literals e
    Literals (named.update n o p e) = Literals p × Literals e
    Literals (named.call n f es) = EachLiterals es
    Literals (named.hidden_call n es) = EachLiterals es
    Literals (named.next_input n) = Unit {0}
    Literals (named.variant n i v es) = EachLiterals es
    Literals (named.make n i fs) = FieldsLiterals fs
    Literals (named.print n e) = Literals e
    Literals (named.block n c) = BodyLiterals c
    Literals (named.if n x c o) = Literals x × BodyLiterals c × ElseLiterals o
    Literals (named.if_let n p e c o) = Literals e × BodyLiterals c × ElseLiterals o
    Literals (named.match n e l) = Literals e × ArmsLiterals l
    Literals (named.loop n l k c) = BodyLiterals c
    Literals (named.while n l x c) = Literals x × BodyLiterals c
    Literals (named.while_let n l p e c) = Literals e × BodyLiterals c
    Literals (named.break n l) = Unit {0}
    Literals (named.continue n l) = Unit {0}
    Literals (named.return n o) = ElseLiterals o

    pub EachLiterals : Exps → Type 0
    EachLiterals named.no_exp = Unit {0}
    EachLiterals (named.exp_and e es) = Literals e × EachLiterals es

    pub ElseLiterals : Else → Type 0
    ElseLiterals named.absent = Unit {0}
    ElseLiterals (named.present e) = Literals e

    pub FieldsLiterals : Fields → Type 0
    FieldsLiterals named.no_field = Unit {0}
    FieldsLiterals (named.field_and x e fs) = Literals e × FieldsLiterals fs

    pub ArmsLiterals : Arms → Type 0
    ArmsLiterals named.no_arm = Unit {0}
    ArmsLiterals (named.arm_and p e l) = Literals e × ArmsLiterals l

    pub BodyLiterals : Body → Type 0
    BodyLiterals (named.body n ss o) = StatementsLiterals ss × ElseLiterals o

    pub StatementLiterals : Statement → Type 0
    StatementLiterals (named.declares n p y) = Unit {0}
    StatementLiterals (named.lets n p y e) = Literals e
    StatementLiterals (named.evaluates n e s) = Literals e

    pub StatementsLiterals : Statements → Type 0
    StatementsLiterals named.no_statement = Unit {0}
    StatementsLiterals (named.statement_and a ss) = StatementLiterals a × StatementsLiterals ss
