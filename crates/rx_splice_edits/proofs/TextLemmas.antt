-- What is written one part after the other is the text of the call, and that of the new items.
use Rattle.std.proofs.Common.{◌≡◌, ℕ, zero, suc, Bool, false, List, [], ◌∷◌, ◌++◌, map, Option, Some, None, option_map, refl, sym, ap, subst, ◌∙◌, append_assoc, append-nil}
use Rattle.std.specs.Prelude.{codes}
use Rattle.std.specs.Borrow.{Bor}
use Rattle.std.specs.Option.{option_copied}
use Rattle.rx_tree.specs.declared.tree.BoundLifetime.{BoundLifetime}
use Rattle.rx_tree.specs.declared.tree.Enum.{Enum}
use Rattle.rx_tree.specs.declared.tree.Expr.{Expr}
use Rattle.rx_tree.specs.Plain.{Function, Parameter, Statement}
use Rattle.rx_tree.specs.PlainOf.{plain-Enum, plain-Expr, optional_of, statements_of}
use Rattle.rx_print_spelling.specs.Pieces.{flat, mark, keyword, name, space, line, enclosed, separated}
use Rattle.rx_print_spelling.specs.Places.{goes_on}
use Rattle.rx_print_spelling.specs.Expressions.{pieces, statement, statements}
use Rattle.rx_print_spelling.specs.Items.{in_angles, bound_pieces, parameter_pieces, result_pieces, enumeration_pieces}
use Rattle.rx_print_parts.specs.ItemParts.{called_pieces, signature_pieces}
use Rattle.rx_print_parts.proofs.Flat.{flat-append}
use Rattle.rx_print_parts.proofs.Written.{written_two, written_three}
use Rattle.rx_print.specs.ExpressionParts.{value_pieces}
use Rattle.rx_splice_laws.specs.SplicedText.{header, lines, tail_line}
use Rattle.rx_splice_edits.specs.Calls.{feed, left_of}
use Rattle.rx_splice_edits.specs.Placing.{exits_text}

-- ---- the call

pub statement_written : (follows : Bool) (a : Statement) (n : ℕ) (o p q : List ℕ) → n ≡ zero → p ≡ o ++ feed follows → q ≡ p ++ flat (statement n a) → q ≡ o ++ (feed follows ++ flat (statement 0 a))
statement_written follows a n o p q z e f = written_two o p q (feed follows) (flat (statement 0 a)) e (f ∙ ap (λ k. p ++ flat (statement k a)) z)

pub tail_written : (follows g : Bool) (t : Option Expr) (b x : Expr) (n : ℕ) (o p q : List ℕ) → t ≡ Some b → x ≡ b → n ≡ zero → g ≡ goes_on (plain-Expr x) → p ≡ o ++ feed follows
    → q ≡ p ++ ([] ++ (flat (enclosed g (pieces false n (plain-Expr x))) ++ [])) → q ≡ o ++ left_of follows [] (optional_of (option_map plain-Expr t))
tail_written follows g t b x n o p q is same z h e f =
    let words = λ (c : Bool) (k : ℕ) (y : Expr). flat (enclosed c (pieces false k (plain-Expr y))) in
    let made : q ≡ p ++ words (goes_on (plain-Expr b)) 0 b =
    f ∙ ap (λ l. p ++ l) (append-nil (words g n x)) ∙ ap (λ k. p ++ words g k x) z ∙ ap (λ c. p ++ words c 0 x) h ∙ ap (λ y. p ++ words (goes_on (plain-Expr y)) 0 y) same in
    subst (λ v. q ≡ o ++ left_of follows [] (optional_of (option_map plain-Expr v))) (sym is) (written_two o p q (feed follows) (words (goes_on (plain-Expr b)) 0 b) e made)

pub no_tail : (follows : Bool) (t : Option Expr) (o : List ℕ) → t ≡ None → o ≡ o ++ left_of follows [] (optional_of (option_map plain-Expr t))
no_tail follows t o is = subst (λ v. o ≡ o ++ left_of follows [] (optional_of (option_map plain-Expr v))) (sym is) (sym (append-nil o))

-- ---- the new items

pub exits_written : (t : Option (Bor Enum)) (x : Bor Enum) (o p q : List ℕ) → t ≡ Some x → p ≡ o ++ (10 ∷ 10 ∷ []) → q ≡ p ++ flat (enumeration_pieces (plain-Enum x.now))
    → q ≡ o ++ exits_text (option_map plain-Enum (option_copied t))
exits_written t x o p q is e f =
    subst (λ v. q ≡ o ++ exits_text (option_map plain-Enum (option_copied v))) (sym is) (written_two o p q (10 ∷ 10 ∷ []) (flat (enumeration_pieces (plain-Enum x.now))) e f)

pub no_exits : (t : Option (Bor Enum)) (o : List ℕ) → t ≡ None → o ≡ o ++ exits_text (option_map plain-Enum (option_copied t))
no_exits t o is = subst (λ v. o ≡ o ++ exits_text (option_map plain-Enum (option_copied v))) (sym is) (sym (append-nil o))

header_is : (f : Function) → header f ≡ called_pieces f.name f.lifetimes ++ (signature_pieces f.params f.result ++ (space ∷ mark (codes "{") ∷ []))
header_is f =
    ap (λ l. keyword (codes "fn") ∷ space ∷ name f.name ∷ (in_angles (map bound_pieces f.lifetimes) ++ (mark (codes "(") ∷ l)))
    (sym (append_assoc (separated (map parameter_pieces f.params)) (mark (codes ")") ∷ result_pieces f.result) (space ∷ mark (codes "{") ∷ [])))

pub header_written : (f : Function) (ls : List BoundLifetime) (xs : List Parameter) (o p q r : List ℕ) → ls ≡ f.lifetimes → xs ≡ f.params
    → p ≡ o ++ flat (called_pieces f.name ls) → q ≡ p ++ flat (signature_pieces xs f.result) → r ≡ q ++ (32 ∷ 123 ∷ []) → r ≡ o ++ flat (header f)
header_written f ls xs o p q r l x e g h =
    let a = called_pieces f.name f.lifetimes in
    let b = signature_pieces f.params f.result in
    let c = space ∷ mark (codes "{") ∷ [] in
    written_three o p q r (flat a) (flat b) (flat c) (e ∙ ap (λ k. o ++ flat (called_pieces f.name k)) l) (g ∙ ap (λ k. p ++ flat (signature_pieces k f.result)) x) h
    ∙ ap (λ m. o ++ (flat a ++ m)) (sym (flat-append b c))
    ∙ ap (λ m. o ++ m) (sym (flat-append a (b ++ c)))
    ∙ ap (λ m. o ++ flat m) (sym (header_is f))

lines_are : (l : List Statement) → statements 1 (statements_of l) ≡ lines l
lines_are [] = refl
lines_are (a ∷ l) = ap (λ k. line 1 ∷ (statement 1 a ++ k)) (lines_are l)

pub locals_written : (n : ℕ) (l k : List Statement) (o p : List ℕ) → n ≡ suc zero → l ≡ k → p ≡ o ++ flat (statements n (statements_of l)) → p ≡ o ++ flat (lines k)
locals_written n l k o p z e f = f ∙ ap (λ m. o ++ flat (statements m (statements_of l))) z ∙ ap (λ x. o ++ flat (statements 1 (statements_of x))) e ∙ ap (λ x. o ++ flat x) (lines_are k)

pub last_written : (t : Option Expr) (b x : Expr) (n : ℕ) (o p : List ℕ) → t ≡ Some b → x ≡ b → n ≡ suc zero → p ≡ o ++ flat (value_pieces n (plain-Expr x))
    → p ≡ o ++ flat (tail_line (optional_of (option_map plain-Expr t)))
last_written t b x n o p is same z f =
    subst (λ v. p ≡ o ++ flat (tail_line (optional_of (option_map plain-Expr v)))) (sym is)
    (f ∙ ap (λ m. o ++ flat (value_pieces m (plain-Expr x))) z ∙ ap (λ y. o ++ flat (value_pieces 1 (plain-Expr y))) same)

pub no_last_line : (t : Option Expr) (o : List ℕ) → t ≡ None → o ≡ o ++ flat (tail_line (optional_of (option_map plain-Expr t)))
no_last_line t o is = subst (λ v. o ≡ o ++ flat (tail_line (optional_of (option_map plain-Expr v)))) (sym is) (sym (append-nil o))
