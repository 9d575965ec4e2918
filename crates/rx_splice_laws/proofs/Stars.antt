-- What holds of the edits at the special places holds of all of a part: by the walk that makes them. So no edit that begins with `*`
-- stands directly behind a `/`.
use Rattle.std.proofs.Common.{◌≡◌, ℕ, suc, Bool, true, false, List, [], ◌∷◌, ◌++◌, Option, Some, None, codes, refl, sym, ap, ◌∙◌, append_assoc, arith}
use Rattle.std.specs.Prelude.{⊤, ◌||◌, ◌&&◌, ◌==◌, if◌then◌else◌}
use Rattle.std.proofs.lemmas.Bool.{or_parts, false≢true}
use Rattle.std.proofs.lemmas.Bool.Decides.{nat_tests}
use Rattle.rx_core.specs.declared.types.Span.{Span}
use Rattle.rx_core.specs.declared.types.Kind.{Kind}
use Rattle.rx_core.specs.Bytes.{same_bytes}
use Rattle.rx_tree.specs.declared.tree.Ident.{Ident}
use Rattle.rx_tree.specs.Plain as plain
use Rattle.rx_tree.specs.Plain.{TypeTree, PatternTree, Expression, Expressions, OptionalExpression, OptionalExpressions, FieldExpressions, Arms, Body, Statement, Statements}
use Rattle.rx_lex.specs.Tok.{Tok}
use Rattle.rx_print_spelling.specs.Pieces.{mark}
use Rattle.rx_resolve_names.specs.Meant.{Around, a_loop, a_test}
use Rattle.rx_hoist_extraction.specs.Names.{Names, bound, bound_by, behind_all}
use Rattle.rx_splice_laws.specs.Edits.{Edit, replaced, put}
use Rattle.rx_splice_laws.specs.EditsOf.{EditsAt, is_short, edits, return_edits, all_edits, optional_edits, argument_edits, field_edits, arm_edits, body_edits, statement_edits, all_statement_edits}
use Rattle.rx_splice_laws.specs.Places.{before_dot, after_slash, next_start}
use Rattle.rx_splice_laws.specs.Moving.{Moving, Jump, star, star_at, enclosed_star, enclosed_at, is_starred, jump_edits, unless, suffix_edits, type_edits, spaced, variant_of, first_opening, first_closing, opening, closing, around_operand, run_edits, pin_edits}
use Rattle.rx_splice_laws.specs.SplicedRun.{Part}
use Rattle.rx_splice_laws.proofs.Seams.{EachSeen}
use Rattle.rx_splice_laws.proofs.Beside.{starred}
use Rattle.rx_splice_laws.proofs.Spelled.{EachEdit, IsUnslashed, Unslashed}

pub each-append : (P : Edit → Type 0) (es fs : List Edit) → EachEdit P es → EachEdit P fs → EachEdit P (es ++ fs)
each-append P [] fs u v = v
each-append P (e ∷ es) fs u v = (u.0, each-append P es fs u.1 v)

pub unslashed-append : (all : List Tok) (es fs : List Edit) → Unslashed all es → Unslashed all fs → Unslashed all (es ++ fs)
unslashed-append all es fs u v = each-append (IsUnslashed all) es fs u v

-- what is asked of the special forms
pub record Holds (P : Edit → Type 0) (A : EditsAt) : Type 0 where
  pub int : (s : Span) (k : Option Kind) → EachEdit P (A.at_int s k)
  pub variable : (own : Names) (b : Bool) (s : Span) (x : List ℕ) → EachEdit P (A.at_variable own b s x)
  pub break : (ls : List Around) (s : Span) (l : Option Ident) → EachEdit P (A.at_break ls s l)
  pub continue : (ls : List Around) (s : Span) (l : Option Ident) → EachEdit P (A.at_continue ls s l)
  pub return : (s : Span) → EachEdit P (A.at_return s)
  pub return_with : (s : Span) (es : List Edit) → EachEdit P es → EachEdit P (A.at_return_with s es)
  pub typing : (p : PatternTree) (y : Option TypeTree) → EachEdit P (A.at_let p y)

abbrev pub Unslashes : EditsAt → List Tok → Type 0
Unslashes A all = Holds (IsUnslashed all) A

module _ (P : Edit → Type 0) (A : EditsAt) (U : Holds P A) where
  both : (es fs : List Edit) → EachEdit P es → EachEdit P fs → EachEdit P (es ++ fs)
  both es fs u v = each-append P es fs u v

  mutual
    pub each : (own : Names) (ls : List Around) (b : Bool) (e : Expression) → EachEdit P (edits A own ls b e)
    each own ls b (plain.int s v k) = U.int s k
    each own ls b (plain.bool s c) = tt
    each own ls b (plain.tuple s es) = each_all own ls es
    each own ls b (plain.var s x) = U.variable own b s x
    each own ls b (plain.field s e x) = each own ls false e
    each own ls b (plain.part s e i) = each own ls false e
    each own ls b (plain.deref s e) = each own ls false e
    each own ls b (plain.negate s e) = each own ls false e
    each own ls b (plain.invert s e) = each own ls false e
    each own ls b (plain.borrow s m e) = each own ls false e
    each own ls b (plain.binary s o e f) = both (edits A own ls false e) (edits A own ls false f) (each own ls false e) (each own ls false f)
    each own ls b (plain.assign s e f) = both (edits A own ls false e) (edits A own ls false f) (each own ls false e) (each own ls false f)
    each own ls b (plain.update s o e f) = both (edits A own ls false e) (edits A own ls false f) (each own ls false e) (each own ls false f)
    each own ls b (plain.call s f es) = each_all own ls es
    each own ls b (plain.next_input s) = tt
    each own ls b (plain.variant s a v es) = each_argument own ls es
    each own ls b (plain.make s x fs) = each_field own ls fs
    each own ls b (plain.print s e) = each own ls false e
    each own ls b (plain.block s c) = each_body own ls c
    each own ls b (plain.if s c d o) =
        both (edits A own ls false c) (body_edits A own ls d ++ optional_edits A own ls o) (each own ls false c)
        (both (body_edits A own ls d) (optional_edits A own ls o) (each_body own ls d) (each_optional own ls o))
    each own ls b (plain.if_let s p e d o) =
        both (edits A own ls false e) (body_edits A (bound p ++ own) ls d ++ optional_edits A own ls o) (each own ls false e)
        (both (body_edits A (bound p ++ own) ls d) (optional_edits A own ls o) (each_body (bound p ++ own) ls d) (each_optional own ls o))
    each own ls b (plain.match s e as') = both (edits A own ls false e) (arm_edits A own ls as') (each own ls false e) (each_arm own ls as')
    each own ls b (plain.loop s l d) = each_body own (a_loop l 0 ∷ ls) d
    each own ls b (plain.while s l c d) =
        both (edits A own (a_test ∷ a_loop l 0 ∷ ls) false c) (body_edits A own (a_loop l 0 ∷ ls) d) (each own (a_test ∷ a_loop l 0 ∷ ls) false c) (each_body own (a_loop l 0 ∷ ls) d)
    each own ls b (plain.while_let s l p e d) =
        both (edits A own (a_test ∷ a_loop l 0 ∷ ls) false e) (body_edits A (bound p ++ own) (a_loop l 0 ∷ ls) d) (each own (a_test ∷ a_loop l 0 ∷ ls) false e) (each_body (bound p ++ own) (a_loop l 0 ∷ ls) d)
    each own ls b (plain.break s l) = U.break ls s l
    each own ls b (plain.continue s l) = U.continue ls s l
    each own ls b (plain.return s o) = each_return own ls s o

    each_return : (own : Names) (ls : List Around) (s : Span) (o : OptionalExpression) → EachEdit P (return_edits A own ls s o)
    each_return own ls s plain.absent = U.return s
    each_return own ls s (plain.present e) = U.return_with s (edits A own ls false e) (each own ls false e)

    each_all : (own : Names) (ls : List Around) (es : Expressions) → EachEdit P (all_edits A own ls es)
    each_all own ls plain.no_expression = tt
    each_all own ls (plain.expression_and e es) = both (edits A own ls false e) (all_edits A own ls es) (each own ls false e) (each_all own ls es)

    pub each_optional : (own : Names) (ls : List Around) (o : OptionalExpression) → EachEdit P (optional_edits A own ls o)
    each_optional own ls plain.absent = tt
    each_optional own ls (plain.present e) = each own ls false e

    each_argument : (own : Names) (ls : List Around) (es : OptionalExpressions) → EachEdit P (argument_edits A own ls es)
    each_argument own ls plain.no_list = tt
    each_argument own ls (plain.a_list es) = each_all own ls es

    each_field : (own : Names) (ls : List Around) (fs : FieldExpressions) → EachEdit P (field_edits A own ls fs)
    each_field own ls plain.no_field = tt
    each_field own ls (plain.field_and x e fs) = both (edits A own ls (is_short x e) e) (field_edits A own ls fs) (each own ls (is_short x e) e) (each_field own ls fs)

    each_arm : (own : Names) (ls : List Around) (as' : Arms) → EachEdit P (arm_edits A own ls as')
    each_arm own ls plain.no_arm = tt
    each_arm own ls (plain.arm_and p e rest) = both (edits A (bound p ++ own) ls false e) (arm_edits A own ls rest) (each (bound p ++ own) ls false e) (each_arm own ls rest)

    pub each_body : (own : Names) (ls : List Around) (b : Body) → EachEdit P (body_edits A own ls b)
    each_body own ls (plain.body s ss o) = both (all_statement_edits A own ls ss) (optional_edits A (behind_all own ss) ls o) (each_all_statement own ls ss) (each_optional (behind_all own ss) ls o)

    each_statement : (own : Names) (ls : List Around) (a : Statement) → EachEdit P (statement_edits A own ls a)
    each_statement own ls (plain.let_statement s p y o) = both (A.at_let p y) (optional_edits A own ls o) (U.typing p y) (each_optional own ls o)
    each_statement own ls (plain.expression_statement s e b) = each own ls false e

    pub each_all_statement : (own : Names) (ls : List Around) (ss : Statements) → EachEdit P (all_statement_edits A own ls ss)
    each_all_statement own ls plain.no_statement = tt
    each_all_statement own ls (plain.statement_and a ss) =
        both (statement_edits A own ls a) (all_statement_edits A (bound_by a ++ own) ls ss) (each_statement own ls a) (each_all_statement (bound_by a ++ own) ls ss)

pub stars : (A : EditsAt) (all : List Tok) → Unslashes A all → (own : Names) (ls : List Around) (b : Bool) (e : Expression) → Unslashed all (edits A own ls b e)
stars A all U own ls b e = each (IsUnslashed all) A U own ls b e

pub optional_stars : (A : EditsAt) (all : List Tok) → Unslashes A all → (own : Names) (ls : List Around) (o : OptionalExpression) → Unslashed all (optional_edits A own ls o)
optional_stars A all U own ls o = each_optional (IsUnslashed all) A U own ls o

pub body_stars : (A : EditsAt) (all : List Tok) → Unslashes A all → (own : Names) (ls : List Around) (b : Body) → Unslashed all (body_edits A own ls b)
body_stars A all U own ls b = each_body (IsUnslashed all) A U own ls b

pub all_statement_stars : (A : EditsAt) (all : List Tok) → Unslashes A all → (own : Names) (ls : List Around) (ss : Statements) → Unslashed all (all_statement_edits A own ls ss)
all_statement_stars A all U own ls ss = each_all_statement (IsUnslashed all) A U own ls ss

-- ---- the special forms

none_starred : {P : Type 0} → false ≡ true → P
none_starred e = absurd (false≢true e)

suffix_stars : (all : List Tok) (s : Span) (o : Option Kind) → Unslashed all (suffix_edits all s o)
suffix_stars all s None = tt
suffix_stars all s (Some k) = (λ e. none_starred e, tt)

type_stars : (all : List Tok) (p : PatternTree) (o : Option TypeTree) → Unslashed all (type_edits all p o)
type_stars all p None = tt
type_stars all p (Some y) = (λ e. none_starred e, tt)

unless_stars : {A : Type 0} (all : List Tok) (o : Option A) (es : List Edit) → Unslashed all es → Unslashed all (unless o es)
unless_stars all None es u = u
unless_stars all (Some a) es u = tt

jump_stars : (M : Moving) (all : List Tok) (s : Span) (o : Option Jump) → Unslashed all (jump_edits M s o)
jump_stars M all s None = tt
jump_stars M all s (Some e) = (λ h. none_starred h, tt)

variable_stars : (all : List Tok) (b : Bool) (s : Span) (x : List ℕ) → Unslashed all (replaced s (star_at all b s x) ∷ [])
variable_stars all true s x = (λ e. none_starred e, tt)
variable_stars all false s x = by (enclosed_at all s) refl
  where
    by : (c : Bool) → enclosed_at all s ≡ c → Unslashed all (replaced s (if c then enclosed_star x else star x) ∷ [])
    by true e = (λ h. none_starred h, tt)
    by false e = (λ h. (or_parts (before_dot all s.start) (after_slash all s.start) e).1, tt)

opening_starred : (M : Moving) (b : Bool) → starred (spaced b (opening M)) ≡ false
opening_starred M true = refl
opening_starred M false = by M.unit
  where
    by : (c : Bool) → starred (if c then first_opening M else variant_of M (codes "Return") ++ mark (codes "(") ∷ []) ≡ false
    by true = refl
    by false = refl

closing_starred : (M : Moving) → starred (closing M) ≡ false
closing_starred M = by M.unit
  where
    by : (c : Bool) → starred (if c then first_closing M else mark (codes ")") ∷ []) ≡ false
    by true = refl
    by false = refl

around_stars : (M : Moving) (all : List Tok) (s : Span) (at : ℕ) (es : List Edit) → Unslashed all es → Unslashed all (around_operand M s at es)
around_stars M all s at es u = (
  (λ e. none_starred (sym (opening_starred M (at == suc (suc (suc (suc (suc (suc s.start))))))) ∙ e)),
  unslashed-append all es (put s.end (closing M) ∷ []) u ((λ e. none_starred (sym (closing_starred M) ∙ e)), tt),
)

pub run_unslashed : (M : Moving) (all : List Tok) → Unslashes (run_edits M all) all
run_unslashed M all = record {
  int = λ s k. unless_stars all k (suffix_edits all s (M.kind s)) (suffix_stars all s (M.kind s));
  variable = λ own b s x. starred_or (is_starred M own x) b s x;
  break = λ ls s l. jump_stars M all s (M.break_leaves ls l);
  continue = λ ls s l. jump_stars M all s (M.continue_leaves ls l);
  return = λ s. ((λ h. none_starred h), tt);
  return_with = λ s es u. around_stars M all s (next_start all s.start) es u;
  typing = λ p y. unless_stars all y (type_edits all p (M.typ p)) (type_stars all p (M.typ p));
}
  where
    starred_or : (c : Bool) (b : Bool) (s : Span) (x : List ℕ) → Unslashed all (if c then replaced s (star_at all b s x) ∷ [] else [])
    starred_or true b s x = variable_stars all b s x
    starred_or false b s x = tt

pub pins_unslashed : (M : Moving) (all : List Tok) → Unslashes (pin_edits M all) all
pins_unslashed M all = record {
  int = λ s k. unless_stars all k (suffix_edits all s (M.kind s)) (suffix_stars all s (M.kind s));
  variable = λ own b s x. tt;
  break = λ ls s l. tt;
  continue = λ ls s l. tt;
  return = λ s. tt;
  return_with = λ s es u. u;
  typing = λ p y. unless_stars all y (type_edits all p (M.typ p)) (type_stars all p (M.typ p));
}

-- ---- a `/` of the text is seen where it ends

self : (n : ℕ) → (n == n) ≡ true
self n = grind (arith, nat_tests)

or_later : (b c : Bool) → c ≡ true → (if b then true else c) ≡ true
or_later true c e = refl
or_later false c e = e

seen_here : (pre : List Tok) (t : Tok) (post : List Tok) → same_bytes t.text (codes "/") ≡ true → after_slash (pre ++ (t ∷ post)) t.span.end ≡ true
seen_here [] t post e = rw (self t.span.end, e) refl
seen_here (p ∷ pre) t post e = or_later ((p.span.end == t.span.end) && same_bytes p.text (codes "/")) (after_slash (pre ++ (t ∷ post)) t.span.end) (seen_here pre t post e)

each_seen : (all pre ts post : List Tok) → all ≡ pre ++ (ts ++ post) → EachSeen all ts
each_seen all pre [] post i = tt
each_seen all pre (t ∷ ts) post i = (
  λ e. ap (λ x. after_slash x t.span.end) i ∙ seen_here pre t (ts ++ post) e,
  each_seen all (pre ++ t ∷ []) ts post (i ∙ sym (append_assoc pre (t ∷ []) (ts ++ post))),
)

pub part_seen : (all ts : List Tok) → Part all ts → EachSeen all ts
part_seen all ts p = each_seen all p.pre ts p.post p.is
