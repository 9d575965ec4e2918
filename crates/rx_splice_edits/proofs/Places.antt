-- The edits at the special places: a text that is the words of its pieces, in place of what stands there or between two bytes.
use Rattle.std.proofs.Common.{◌≡◌, ℕ, suc, Bool, true, false, List, [], ◌∷◌, ◌++◌, map, Option, Some, None, option_map, refl, sym, ap, ◌∙◌, cond, append-nil}
use Rattle.std.specs.Prelude.{◌==◌}
use Rattle.rx_core.specs.declared.types.Edit as text
use Rattle.rx_core.specs.declared.types.Span.{Span}
use Rattle.rx_core.specs.declared.types.Kind.{Kind}
use Rattle.rx_tree.specs.declared.tree.Pattern.{Pattern}
use Rattle.rx_tree.specs.Plain.{ProgramTree}
use Rattle.rx_tree.specs.PlainOf.{plain-Pattern}
use Rattle.rx_tree.specs.Spans.{pattern_span}
use Rattle.rx_lex.specs.Tok.{Tok}
use Rattle.rx_lex.specs.Numerals.{kind_name}
use Rattle.rx_lex.specs.declared.token.Class.TheVariants.{Number}
use Rattle.rx_typed.specs.Types.{Typ}
use Rattle.rx_typed.specs.PlainTypes.{plain-Ty}
use Rattle.rx_print_spelling.specs.Pieces.{Piece, flat, word}
use Rattle.rx_print_spelling.specs.Types.{written_type}
use Rattle.rx_hoist_plan.specs.declared.plan.KindPin.{KindPin}
use Rattle.rx_hoist_plan.specs.declared.plan.TypePin.{TypePin}
use Rattle.rx_hoist_plan.specs.declared.plan.Pins as code
use Rattle.rx_hoist_plan.specs.PlainPlan.{plain-Pins}
use Rattle.rx_hoist_extraction.specs.Names.{Names}
use Rattle.rx_hoist_extraction.specs.Plan.{Pins}
use Rattle.rx_hoist_extraction.specs.Pinned.{at_place, suffix_of}
use Rattle.rx_hoist_extraction.specs.WrittenTypes.{elided}
use Rattle.rx_hoist_changes.proofs.SpanLemmas.{pattern_span_is}
use Rattle.rx_splice_laws.specs.Edits.{Edit, replaced, put, written}
use Rattle.rx_splice_laws.specs.Places.{text_at, with_parentheses, next_start}
use Rattle.rx_splice_laws.specs.Moving.{Moving, Jump, is_starred, star_at, returned, spaced, opening, jump_edits, suffix_edits, type_edits, unless, run_edits}
use Rattle.rx_splice_laws.specs.MovedBy.{kind_at, type_at}
use Rattle.rx_splice_walk.proofs.Written.{With, nothing}
use Rattle.rx_splice_edits.specs.Deciding.{typ_at, opened_at}

abbrev pub edit_at : Span → List ℕ → text.Edit
edit_at s t = record { span = s; text = t }

abbrev pub between : ℕ → ℕ → Span
between a b = record { start = a; end = b }

-- in place of what stands at a span
pub replaced_by : (o p : List text.Edit) (s : Span) (t : List ℕ) (ps : List Piece) → t ≡ flat ps → p ≡ o ++ edit_at s t ∷ [] → With o (replaced s ps ∷ []) p
replaced_by o p s t ps is made = made ∙ ap (λ l. o ++ edit_at s l ∷ []) is

-- between two bytes
pub put_at : (o p : List text.Edit) (at to : ℕ) (t : List ℕ) (ps : List Piece) → at ≡ to → t ≡ flat ps → p ≡ o ++ edit_at (between at at) t ∷ []
    → With o (put to ps ∷ []) p
put_at o p at to t ps there is made = made ∙ ap (λ l. o ++ edit_at (between at at) l ∷ []) is ∙ ap (λ k. o ++ edit_at (between k k) (flat ps) ∷ []) there

-- ---- kinds

pub kind_found : (k f : Option Kind) (ps : Option code.Pins) (x : code.Pins) (l : List KindPin) (s : Span) → k ≡ suffix_of f
    → f ≡ at_place (map (λ (p : KindPin). (p.span, p.kind)) l) s → l ≡ x.kinds → ps ≡ Some x → k ≡ kind_at (option_map plain-Pins ps) s
kind_found k f ps x l s suffix found same is =
    suffix ∙ ap suffix_of (found ∙ ap (λ m. at_place (map (λ (p : KindPin). (p.span, p.kind)) m) s) same) ∙ ap (λ q. kind_at (option_map plain-Pins q) s)
    (sym is)

pub no_kind : (ps : Option code.Pins) (s : Span) → ps ≡ None → None ≡ kind_at (option_map plain-Pins ps) s
no_kind ps s is = ap (λ q. kind_at (option_map plain-Pins q) s) (sym is)

pub kind_written : (ts : List Tok) (s : Span) (pin : Option Kind) (k : Kind) (o p : List text.Edit) (t n : List ℕ) → Some k ≡ pin
    → n ≡ text_at ts s.start → t ≡ n ++ kind_name k → p ≡ o ++ edit_at s t ∷ [] → With o (suffix_edits ts s pin) p
kind_written ts s pin k o p t n is there suffixed made =
    replaced_by o p s t (word Number (text_at ts s.start ++ kind_name k) ∷ [])
    (suffixed ∙ ap (λ m. m ++ kind_name k) there ∙ sym (append-nil (text_at ts s.start ++ kind_name k))) made
    ∙ ap (λ q. o ++ map written (suffix_edits ts s q)) is

pub kind_unwritten : (ts : List Tok) (s : Span) (pin : Option Kind) (o : List text.Edit) → None ≡ pin → With o (suffix_edits ts s pin) o
kind_unwritten ts s pin o is = nothing o ∙ ap (λ q. o ++ map written (suffix_edits ts s q)) is

-- ---- types

pub type_found : (f : Option Typ) (ps : Option code.Pins) (x : code.Pins) (l : List TypePin) (s : Span)
    → f ≡ at_place (map (λ (p : TypePin). (p.span, plain-Ty p.ty)) l) s → l ≡ x.types → ps ≡ Some x → f ≡ typ_at (option_map plain-Pins ps) s
type_found f ps x l s found same is =
    found ∙ ap (λ m. at_place (map (λ (p : TypePin). (p.span, plain-Ty p.ty)) m) s) same ∙ ap (λ q. typ_at (option_map plain-Pins q) s) (sym is)

pub no_type_found : (ps : Option code.Pins) (s : Span) → ps ≡ None → None ≡ typ_at (option_map plain-Pins ps) s
no_type_found ps s is = ap (λ q. typ_at (option_map plain-Pins q) s) (sym is)

type_told : (P : ProgramTree) (r : Span) (pins : Option Pins) (p : Pattern)
    → option_map (elided P r) (typ_at pins p.span) ≡ type_at P r pins (plain-Pattern p)
type_told P r None p = refl
type_told P r (Some pins) p = ap (λ s. option_map (elided P r) (at_place pins.types s)) (sym (pattern_span_is p))

pub type_put : (ts : List Tok) (P : ProgramTree) (r : Span) (pins : Option Pins) (p : Pattern) (ty : Typ) (o q : List text.Edit) (t : List ℕ) (at : ℕ)
    → Some ty ≡ typ_at pins p.span → at ≡ with_parentheses ts p.span.end → t ≡ flat (written_type (elided P r ty)) → q ≡ o ++ edit_at (between at at) t ∷ []
    → With o (type_edits ts (plain-Pattern p) (type_at P r pins (plain-Pattern p))) q
type_put ts P r pins p ty o q t at is there annotated made =
    put_at o q at (with_parentheses ts (pattern_span (plain-Pattern p)).end) t (written_type (elided P r ty))
    (there ∙ ap (λ s. with_parentheses ts s.end) (sym (pattern_span_is p))) annotated made
    ∙ ap (λ y. o ++ map written (type_edits ts (plain-Pattern p) y)) (ap (option_map (elided P r)) is ∙ type_told P r pins p)

pub no_type_put : (ts : List Tok) (P : ProgramTree) (r : Span) (pins : Option Pins) (p : Pattern) (o : List text.Edit) → None ≡ typ_at pins p.span
    → With o (type_edits ts (plain-Pattern p) (type_at P r pins (plain-Pattern p))) o
no_type_put ts P r pins p o is =
    nothing o ∙ ap (λ y. o ++ map written (type_edits ts (plain-Pattern p) y)) (ap (option_map (elided P r)) is ∙ type_told P r pins p)

-- ---- what has one already

pub has_one : {A : Type 0} (k : Option A) (x : A) (es : List Edit) (o : List text.Edit) → k ≡ Some x → With o (unless k es) o
has_one k x es o is = nothing o ∙ ap (λ q. o ++ map written (unless q es)) (sym is)

pub has_none : {A : Type 0} (k : Option A) (es : List Edit) (o p : List text.Edit) → k ≡ None → With o es p → With o (unless k es) p
has_none k es o p is made = made ∙ ap (λ q. o ++ map written (unless q es)) (sym is)

-- ---- variables

pub star_put : (M : Moving) (ts : List Tok) (own : Names) (b : Bool) (s : Span) (x : List ℕ) (e : Bool) (o p : List text.Edit) (t : List ℕ)
    → e ≡ is_starred M own x → e ≡ true → t ≡ flat (star_at ts b s x) → p ≡ o ++ edit_at s t ∷ [] → With o ((run_edits M ts).at_variable own b s x) p
star_put M ts own b s x e o p t same is told made =
    replaced_by o p s t (star_at ts b s x) told made ∙ ap (λ c. o ++ map written (cond c (replaced s (star_at ts b s x) ∷ []) [])) (sym is ∙ same)

pub no_star : (M : Moving) (ts : List Tok) (own : Names) (b : Bool) (s : Span) (x : List ℕ) (e : Bool) (o : List text.Edit)
    → e ≡ is_starred M own x → e ≡ false → With o ((run_edits M ts).at_variable own b s x) o
no_star M ts own b s x e o same is =
    nothing o ∙ ap (λ c. o ++ map written (cond c (replaced s (star_at ts b s x) ∷ []) [])) (sym is ∙ same)

-- ---- jumps

pub jump_put : (M : Moving) (s : Span) (exit_of : ℕ → Jump) (n : ℕ) (l : Option ℕ) (o p : List text.Edit) → Some n ≡ l
    → With o (replaced s (returned M (exit_of n)) ∷ []) p → With o (jump_edits M s (option_map exit_of l)) p
jump_put M s exit_of n l o p is made = made ∙ ap (λ k. o ++ map written (jump_edits M s (option_map exit_of k))) is

pub no_jump : (M : Moving) (s : Span) (exit_of : ℕ → Jump) (l : Option ℕ) (o : List text.Edit) → None ≡ l → With o (jump_edits M s (option_map exit_of l)) o
no_jump M s exit_of l o is = nothing o ∙ ap (λ k. o ++ map written (jump_edits M s (option_map exit_of k))) is

-- ---- in front of the operand of a `return`

pub opening_put : (M : Moving) (ts : List Tok) (s : Span) (at : ℕ) (o p : List text.Edit) (t : List ℕ) → at ≡ next_start ts s.start
    → t ≡ flat (spaced (at == suc (suc (suc (suc (suc (suc s.start)))))) (opening M)) → p ≡ o ++ edit_at (between at at) t ∷ [] → With o (opened_at M ts s) p
opening_put M ts s at o p t there told made =
    put_at o p at at t (spaced (at == suc (suc (suc (suc (suc (suc s.start)))))) (opening M)) refl told made
    ∙ ap (λ k. o ++ map written (put k (spaced (k == suc (suc (suc (suc (suc (suc s.start)))))) (opening M)) ∷ [])) there
