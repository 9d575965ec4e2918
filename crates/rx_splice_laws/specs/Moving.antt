-- The edits at the special forms of a run: what each rule of the spliced text writes, and what it makes of the tree.
use Rattle.std.specs.Prelude.{ℕ, suc, Bool, true, false, not, ◌==◌, ◌&&◌, ◌||◌, if◌then◌else◌, List, [], ◌∷◌, ◌++◌, map, Option, Some, None, codes}
use Rattle.rx_core.specs.declared.types.Span.{Span}
use Rattle.rx_core.specs.declared.types.Kind.{Kind}
use Rattle.rx_tree.specs.declared.tree.Ident.{Ident}
use Rattle.rx_tree.specs.Plain as plain
use Rattle.rx_tree.specs.Plain.{TypeTree, PatternTree, Expression, OptionalExpression}
use Rattle.rx_tree.specs.Spans.{pattern_span}
use Rattle.rx_lex.specs.Tok.{Tok}
use Rattle.rx_lex.specs.Numerals.{kind_name}
use Rattle.rx_lex.specs.declared.token.Class.TheVariants.{Number}
use Rattle.rx_print_spelling.specs.Pieces.{Piece, word, mark, keyword, identifier, space}
use Rattle.rx_print_spelling.specs.Types.{written_type}
use Rattle.rx_print_spelling.specs.Expressions.{pieces}
use Rattle.rx_resolve_names.specs.Meant.{Around}
use Rattle.rx_hoist_extraction.specs.Names.{Names, is_among}
use Rattle.rx_hoist_extraction.specs.Made.{variant, let_typed}
use Rattle.rx_hoist_extraction.specs.Changed.{Changes, kept}
use Rattle.rx_splice_laws.specs.Edits.{Edit, replaced, put}
use Rattle.rx_splice_laws.specs.EditsOf.{EditsAt}
use Rattle.rx_splice_laws.specs.Places.{next_start, before_dot, after_slash, with_parentheses, text_at}

-- what a jump gives: a variant of the enum of exits with these variables
pub record Jump : Type 0 where
  pub variant : List ℕ
  pub outs : Names

-- what is decided of a run before its text is made
pub record Moving : Type 0 where
  pub span : Span
  -- the params behind references
  pub stars : Names
  pub enum : List ℕ
  -- the exit of a `break` or `continue` that leaves the run
  pub break_leaves : List Around → Option Ident → Option Jump
  pub continue_leaves : List Around → Option Ident → Option Jump
  -- whether the result of the function round it is the unit, and the first fresh variable
  pub unit : Bool
  pub out_0 : List ℕ
  -- pinned kinds and types, by place
  pub kind : Span → Option Kind
  pub typ : PatternTree → Option TypeTree

abbrev pub is_starred : Moving → Names → List ℕ → Bool
is_starred M own x = not (is_among x own) && is_among x M.stars

-- ---- the words

-- `*x`, `(*x)`, `x: *x`
abbrev pub star : List ℕ → List Piece
star x = mark (codes "*") ∷ identifier x ∷ []

abbrev pub enclosed_star : List ℕ → List Piece
enclosed_star x = mark (codes "(") ∷ mark (codes "*") ∷ identifier x ∷ mark (codes ")") ∷ []

abbrev pub long_field : List ℕ → List Piece
long_field x = identifier x ∷ mark (codes ":") ∷ space ∷ star x

-- `Exit_NAME::V(outs)`; a variant without values has no parentheses
abbrev pub packed : Moving → Jump → Expression
packed M e = variant M.span M.enum e.variant (map (plain.var M.span) e.outs)

-- `return Exit_NAME::V(outs)`, and its words
abbrev pub jump_of : Moving → Jump → Expression
jump_of M e = plain.return M.span (plain.present (packed M e))

abbrev pub returned : Moving → Jump → List Piece
returned M e = pieces false 0 (jump_of M e)

abbrev pub the_return : Jump
the_return = record { variant = codes "Return"; outs = [] }

abbrev pub variant_of : Moving → List ℕ → List Piece
variant_of M v = identifier M.enum ∷ mark (codes "::") ∷ identifier v ∷ []

-- round the operand of a return: `{ let out_0: () = e; Exit_NAME::Return }` or `Exit_NAME::Return(e)`
abbrev pub first_opening : Moving → List Piece
first_opening M =
    mark (codes "{") ∷ space ∷ keyword (codes "let") ∷ space ∷ identifier M.out_0 ∷ mark (codes ":") ∷ space ∷ mark (codes "(") ∷ mark (codes ")")
    ∷ space ∷ mark (codes "=") ∷ space ∷ []

abbrev pub first_closing : Moving → List Piece
first_closing M = mark (codes ";") ∷ space ∷ (variant_of M (codes "Return") ++ (space ∷ mark (codes "}") ∷ []))

abbrev pub opening : Moving → List Piece
opening M = if M.unit then first_opening M else variant_of M (codes "Return") ++ mark (codes "(") ∷ []

abbrev pub closing : Moving → List Piece
closing M = if M.unit then first_closing M else mark (codes ")") ∷ []

-- a space, where the text would follow `return` directly: `return` has six letters
abbrev pub spaced : Bool → List Piece → List Piece
spaced true ps = space ∷ ps
spaced false ps = ps

-- ---- the edits, for the tokens of the text

abbrev pub enclosed_at : List Tok → Span → Bool
enclosed_at ts s = before_dot ts s.start || after_slash ts s.start

abbrev pub star_at : List Tok → Bool → Span → List ℕ → List Piece
star_at ts true s x = long_field x
star_at ts false s x = if enclosed_at ts s then enclosed_star x else star x

abbrev pub jump_edits : Moving → Span → Option Jump → List Edit
jump_edits M s None = []
jump_edits M s (Some e) = replaced s (returned M e) ∷ []

abbrev pub around_operand : Moving → Span → ℕ → List Edit → List Edit
around_operand M s at es = put at (spaced (at == suc (suc (suc (suc (suc (suc s.start)))))) (opening M)) ∷ (es ++ put s.end (closing M) ∷ [])

-- directly after the number token: it is one word with its suffix
abbrev pub suffix_edits : List Tok → Span → Option Kind → List Edit
suffix_edits ts s None = []
suffix_edits ts s (Some k) = replaced s (word Number (text_at ts s.start ++ kind_name k) ∷ []) ∷ []

-- behind the pattern and the parentheses round it. What is written is a type without a list of lifetimes, so that it doesn't end with `>`,
-- which would be the mark `>=` with a `=` that follows directly
abbrev pub type_edits : List Tok → PatternTree → Option TypeTree → List Edit
type_edits ts p None = []
type_edits ts p (Some t) = put (with_parentheses ts (pattern_span p).end) (written_type t) ∷ []

-- only what has none gets one
abbrev pub unless : {A : Type 0} → Option A → List Edit → List Edit
unless None es = es
unless (Some a) es = []

abbrev pub run_edits : Moving → List Tok → EditsAt
run_edits M ts = record {
  at_int = λ s k. unless k (suffix_edits ts s (M.kind s));
  at_variable = λ own b s x. if is_starred M own x then replaced s (star_at ts b s x) ∷ [] else [];
  at_break = λ ls s l. jump_edits M s (M.break_leaves ls l);
  at_continue = λ ls s l. jump_edits M s (M.continue_leaves ls l);
  at_return = λ s. replaced s (returned M the_return) ∷ [];
  at_return_with = λ s es. around_operand M s (next_start ts s.start) es;
  at_let = λ p y. unless y (type_edits ts p (M.typ p));
}

-- ---- what becomes of the tree

abbrev pub pinned_suffix : Option Kind → Option Kind → Option Kind
pinned_suffix None pin = pin
pinned_suffix (Some k) pin = Some k

abbrev pub pinned_type : Option TypeTree → Option TypeTree → Option TypeTree
pinned_type None pin = pin
pinned_type (Some t) pin = Some t

abbrev pub jump_or : Moving → Expression → Option Jump → Expression
jump_or M x None = x
jump_or M x (Some e) = jump_of M e

-- `{ let out_0: () = e; Exit_NAME::Return }`
abbrev pub first_done : Moving → Expression → Expression
first_done M x = plain.block M.span (plain.body M.span
    (plain.statement_and (let_typed M.span M.out_0 (plain.tuple_type M.span plain.no_type) x) plain.no_statement)
    (plain.present (packed M the_return)))

abbrev pub handed_over : Moving → Expression → Expression
handed_over M x = variant M.span M.enum (codes "Return") (x ∷ [])

abbrev pub return_of : Moving → Span → OptionalExpression → Expression
return_of M s plain.absent = plain.return s (plain.present (packed M the_return))
return_of M s (plain.present x) = plain.return s (plain.present (if M.unit then first_done M x else handed_over M x))

abbrev pub run_changes : Moving → Changes
run_changes M = record kept {
  at_int = λ s k. pinned_suffix k (M.kind s);
  at_variable = λ own s x. if is_starred M own x then plain.deref M.span (plain.var s x) else plain.var s x;
  at_break = λ ls s l. jump_or M (plain.break s l) (M.break_leaves ls l);
  at_continue = λ ls s l. jump_or M (plain.continue s l) (M.continue_leaves ls l);
  at_return = return_of M;
  at_let = λ p y. pinned_type y (M.typ p);
}

-- ---- pinned kinds and types alone

abbrev pub pin_edits : Moving → List Tok → EditsAt
pin_edits M ts = record {
  at_int = λ s k. unless k (suffix_edits ts s (M.kind s));
  at_variable = λ own b s x. [];
  at_break = λ ls s l. [];
  at_continue = λ ls s l. [];
  at_return = λ s. [];
  at_return_with = λ s es. es;
  at_let = λ p y. unless y (type_edits ts p (M.typ p));
}
