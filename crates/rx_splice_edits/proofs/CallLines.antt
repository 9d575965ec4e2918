-- Statements and a tail are written one after the other, each on a line.
use Rattle.std.proofs.Common.{◌≡◌, ℕ, suc, ◌+◌, ◌<◌, ◌≤◌, Bool, true, false, List, [], ◌∷◌, ◌++◌, length, map, drop, get_or, refl, sym, ap, ◌∙◌, arith, append_assoc, append-nil}
use Rattle.std.proofs.Math.Seq.{drop-cons}
use Rattle.std.proofs.lemmas.List.{drop_all}
use Rattle.rx_tree.specs.declared.tree.Stmt.{Stmt}
use Rattle.rx_tree.specs.Plain as plain
use Rattle.rx_tree.specs.Plain.{OptionalExpression, Statement}
use Rattle.rx_tree.specs.PlainOf.{plain-Stmt}
use Rattle.rx_print_spelling.specs.Pieces.{flat, line}
use Rattle.rx_print_spelling.specs.Expressions.{statement}
use Rattle.rx_print_parts.proofs.Flat.{flat-append}
use Rattle.rx_splice_laws.specs.SplicedText.{call_pieces}
use Rattle.rx_splice_edits.specs.Calls.{feed, left_of}

pub whole : (ss : List Statement) (o : OptionalExpression) → left_of false ss o ≡ flat (call_pieces ss o)
whole [] plain.absent = refl
whole [] (plain.present e) = refl
whole (a ∷ ss) o = refl

-- behind a statement stands what is left, on a line of its own
behind : (a : Statement) (ss : List Statement) (o : OptionalExpression) → flat (call_pieces (a ∷ ss) o) ≡ flat (statement 0 a) ++ left_of true ss o
behind a [] plain.absent = sym (append-nil (flat (statement 0 a)))
behind a [] (plain.present e) = flat-append (statement 0 a) (line 0 ∷ call_pieces [] (plain.present e))
behind a (b ∷ ss) o = flat-append (statement 0 a) (line 0 ∷ call_pieces (b ∷ ss) o)

next : (follows : Bool) (a : Statement) (ss : List Statement) (o : OptionalExpression) → left_of follows (a ∷ ss) o ≡ (feed follows ++ flat (statement 0 a)) ++ left_of true ss o
next follows a ss o = ap (λ t. feed follows ++ t) (behind a ss o) ∙ sym (append_assoc (feed follows) (flat (statement 0 a)) (left_of true ss o))

-- ---- the loop over the statements

abbrev pub left : Bool → List Stmt → OptionalExpression → List ℕ
left follows l o = left_of follows (map plain-Stmt l) o

pub step : (follows : Bool) (l : List Stmt) (o : OptionalExpression) (i : ℕ) (a : Stmt) (p q all : List ℕ) → i < length l → a ≡ get_or l i a
    → q ≡ p ++ (feed follows ++ flat (statement 0 (plain-Stmt a))) → p ++ left follows (drop i l) o ≡ all → q ++ left true (drop (i + 1) l) o ≡ all
step follows l o i a p q all w is e s =
    let n : suc i ≡ i + 1 = omega arith in
    let rest = left true (drop (i + 1) l) o in
    let d = drop-cons l i a w ∙ ap (λ x. x ∷ drop (suc i) l) (sym is) ∙ ap (λ k. a ∷ drop k l) n in
    ap (λ x. x ++ rest) e
    ∙ append_assoc p (feed follows ++ flat (statement 0 (plain-Stmt a))) rest
    ∙ ap (λ x. p ++ x) (sym (next follows (plain-Stmt a) (map plain-Stmt (drop (i + 1) l)) o))
    ∙ ap (λ x. p ++ left follows x o) (sym d)
    ∙ s

pub end : (follows : Bool) (l : List Stmt) (o : OptionalExpression) (i : ℕ) (p q all : List ℕ) → length l ≤ i
    → q ≡ p ++ left_of follows [] o → p ++ left follows (drop i l) o ≡ all → q ≡ all
end follows l o i p q all w e s = e ∙ ap (λ x. p ++ left follows x o) (sym (drop_all i l w)) ∙ s
