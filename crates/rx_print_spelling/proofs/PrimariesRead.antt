-- The tokens that literals, names, calls, tuples and struct literals are spelled with are derived as them, from what is claimed of their parts.
use Rattle.std.proofs.Common.{◌≡◌, ℕ, suc, ◌+◌, ◌≤◌, Bool, true, false, List, [], ◌∷◌, Option, codes, length, refl, ap, subst, ◌∙◌, arith}
use Rattle.rx_core.specs.declared.types.Span.{Span}
use Rattle.rx_core.specs.declared.types.Kind.{Kind}
use Rattle.rx_tree.specs.declared.tree.Ident.{Ident}
use Rattle.rx_tree.specs.Plain as plain
use Rattle.rx_tree.specs.Plain.{Expression, Expressions, FieldExpressions}
use Rattle.rx_tree.specs.PlainOf.{expressions_of, field_expressions_of}
use Rattle.rx_tree.specs.Erase.{erase, erase_all, erase_fields, erase_ident}
use Rattle.rx_lex.specs.declared.token.Class.TheVariants.{Identifier, Keyword, Format}
use Rattle.rx_lex.specs.Words.{format_text}
use Rattle.rx_lex.specs.Tok.{Tok}
use Rattle.rx_lex.specs.Tokens.{token_at}
use Rattle.rx_lex.specs.Numerals.{greatest}
use Rattle.rx_parse_grammar.specs.grammar.Expressions as g
use Rattle.rx_parse_grammar.specs.grammar.Expressions.{IsExpression, AreArguments, IsField, AreFields}
use Rattle.rx_print_spelling.specs.Pieces.{mark, name, space, separated}
use Rattle.rx_print_spelling.specs.Expressions.{pieces, each, each_field}
use Rattle.rx_print_spelling.specs.Levels.{expression_levels, list_levels, fields_levels}
use Rattle.rx_print_spelling.proofs.Pieces.{places, past, places-append}
use Rattle.rx_print_spelling.proofs.Derives.{Derives, mark_at, closed, single_places, tuple_places, arguments_places, fields_places}
use Rattle.rx_print_spelling.proofs.PatternsRead.{number_at, is_number}
use Rattle.rx_print_spelling.proofs.Claims.{Allowed, AsPrimary, Reads, of_primary}

pub int_reads : (depth : ℕ) (s : Span) (v : ℕ) (k : Option Kind) → v ≤ greatest → Reads depth (plain.int s v k)
int_reads depth s v k l = of_primary depth (plain.int s v k) refl refl refl refl (λ f o at.
    record { tree = _; derived = g.number (number_at at v k) v k (is_number at v k l) refl; same = refl })

pub bool_reads : (depth : ℕ) (s : Span) (b : Bool) → Reads depth (plain.bool s b)
bool_reads depth s true = of_primary depth (plain.bool s true) refl refl refl refl (λ f o at.
    record { tree = _; derived = g.true_is (token_at at Keyword (codes "true")) (refl, refl) refl; same = refl })
bool_reads depth s false = of_primary depth (plain.bool s false) refl refl refl refl (λ f o at.
    record { tree = _; derived = g.false_is (token_at at Keyword (codes "false")) (refl, refl) refl; same = refl })

pub var_reads : (depth : ℕ) (s : Span) (x : List ℕ) → Reads depth (plain.var s x)
var_reads depth s x = of_primary depth (plain.var s x) refl refl refl refl (λ f o at.
    record { tree = _; derived = g.variable (token_at at Identifier x) refl refl; same = refl })

pub input_reads : (depth : ℕ) (s : Span) → Reads depth (plain.next_input s)
input_reads depth s = of_primary depth (plain.next_input s) refl refl refl refl (λ f o at.
    record {
      tree = _;
      derived = g.next_input (token_at at Identifier (codes "rt")) (mark_at (at + 2) (codes "::")) (token_at (at + 2 + 2) Identifier (codes "next")) (mark_at (at + 2 + 2 + 4) (codes "("))
          (mark_at (at + 2 + 2 + 4 + 1) (codes ")")) (refl, refl) (refl, refl) (refl, refl) (refl, refl) (refl, refl) refl;
      same = refl;
    })

pub variant_reads : (depth : ℕ) (s : Span) (a v : Ident) → Reads depth (plain.variant s a v plain.no_list)
variant_reads depth s a v = of_primary depth (plain.variant s a v plain.no_list) refl refl refl refl (λ f o at.
    record {
      tree = _;
      derived = g.variant (token_at at Identifier a.name) (mark_at (at + length a.name) (codes "::")) (token_at (at + length a.name + 2) Identifier v.name) refl (refl, refl) refl refl;
      same = refl;
    })

pub print_reads : (depth : ℕ) (s : Span) (e : Expression) → Reads depth e → Reads depth (plain.print s e)
print_reads depth s e r = of_primary depth (plain.print s e) refl refl refl refl (λ f o at.
    let from : ℕ = at + 7 + 1 + 1 + 4 + 1 + 1 in
    let ps = pieces false depth e in
    let a = r.whole from in
    record {
      tree = _;
      derived = g.print (token_at at Identifier (codes "println")) (mark_at (at + 7) (codes "!")) (mark_at (at + 7 + 1) (codes "(")) (token_at (at + 7 + 1 + 1) Format format_text)
          (mark_at (at + 7 + 1 + 1 + 4) (codes ",")) (mark_at (past from ps) (codes ")")) (places from ps) a.tree _ (refl, refl) (refl, refl) (refl, refl) refl (refl, refl) (refl, refl) a.derived
          (ap (λ l. token_at at Identifier (codes "println") ∷ mark_at (at + 7) (codes "!") ∷ mark_at (at + 7 + 1) (codes "(") ∷ token_at (at + 7 + 1 + 1) Format format_text ∷ mark_at (at + 7 + 1 + 1 + 4) (codes ",") ∷ l)
          (closed from ps (codes ")")));
      same = rw a.same refl;
    })

-- ---- lists of expressions

abbrev pub AsList : List Tok → Expressions → ℕ → Type 0
AsList ts es h = Derives (λ us ys. AreArguments us ys h) (λ ys. erase_all (expressions_of ys)) ts (erase_all es)

abbrev pub ReadsList : ℕ → Expressions → Type 0
ReadsList depth es = (at : ℕ) → AsList (places at (separated (each depth es))) es (list_levels es)

pub no_reads : (depth : ℕ) → ReadsList depth plain.no_expression
no_reads depth at = record { tree = []; derived = g.no_argument; same = refl }

pub last_reads : (depth : ℕ) (e : Expression) → Reads depth e → ReadsList depth (plain.expression_and e plain.no_expression)
last_reads depth e r at =
    let a = r.whole at in
    record {
      tree = a.tree ∷ [];
      derived = subst (λ h. AreArguments (places at (pieces false depth e)) (a.tree ∷ []) h) (omega arith) (g.last_argument a.derived);
      same = rw a.same refl;
    }

pub further_reads : (depth : ℕ) (e u : Expression) (us : Expressions) → Reads depth e → ReadsList depth (plain.expression_and u us)
    → ReadsList depth (plain.expression_and e (plain.expression_and u us))
further_reads depth e u us r k at =
    let ps = pieces false depth e in
    let a = r.whole at in
    let b = k (past at ps + 1 + 1) in
    record {
      tree = a.tree ∷ b.tree;
      derived = g.argument_and (places at ps) (places (past at ps + 1 + 1) (separated (each depth (plain.expression_and u us)))) (mark_at (past at ps) (codes ",")) a.tree b.tree _ _ a.derived (refl, refl) b.derived
          (places-append at ps _);
      same = rw (a.same, b.same) refl;
    }

pub call_reads : (depth : ℕ) (s : Span) (n : Ident) (es : Expressions) → ReadsList depth es → Reads depth (plain.call s n es)
call_reads depth s n es k = of_primary depth (plain.call s n es) refl refl refl refl (λ f o at.
    let begin : ℕ = at + length n.name in
    let qs = separated (each depth es) in
    let r = k (begin + 1) in
    record {
      tree = _;
      derived = g.call (token_at at Identifier n.name) (mark_at begin (codes "(")) (mark_at (past (begin + 1) qs) (codes ")")) (places (begin + 1) qs) r.tree _ refl (refl, refl) (refl, refl) r.derived
          (ap (λ z. token_at at Identifier n.name ∷ z) (arguments_places begin (each depth es)));
      same = rw r.same refl;
    })

-- at least one
record SomeList (ts : List Tok) (t : Expressions) (h : ℕ) : Type 0 where
  first : Expression
  more : List Expression
  derived : AreArguments ts (first ∷ more) h
  same : erase_all (expressions_of (first ∷ more)) ≡ erase_all t

some_list : {ts : List Tok} {h : ℕ} (t : Expression) (us : Expressions) → AsList ts (plain.expression_and t us) h → SomeList ts (plain.expression_and t us) h
some_list {ts} {h} t us r = by r.tree r.derived r.same
  where
    by : (ys : List Expression) → AreArguments ts ys h → erase_all (expressions_of ys) ≡ erase_all (plain.expression_and t us) → SomeList ts (plain.expression_and t us) h
    by [] d e = absurd (cc)
    by (y ∷ ys) d e = record { first = y; more = ys; derived = d; same = e }

pub variant_with_reads : (depth : ℕ) (s : Span) (a v : Ident) (e : Expression) (es : Expressions) → ReadsList depth (plain.expression_and e es)
    → Reads depth (plain.variant s a v (plain.a_list (plain.expression_and e es)))
variant_with_reads depth s a v e es k = of_primary depth (plain.variant s a v (plain.a_list (plain.expression_and e es))) refl refl refl refl (λ f o at.
    let begin : ℕ = at + length a.name + 2 + length v.name in
    let qs = separated (each depth (plain.expression_and e es)) in
    let r = some_list e es (k (begin + 1)) in
    record {
      tree = _;
      derived = g.variant_with (token_at at Identifier a.name) (mark_at (at + length a.name) (codes "::")) (token_at (at + length a.name + 2) Identifier v.name)
          (mark_at begin (codes "(")) (mark_at (past (begin + 1) qs) (codes ")")) (places (begin + 1) qs) r.first r.more _
          refl (refl, refl) refl (refl, refl) (refl, refl) r.derived
          (ap (λ z. token_at at Identifier a.name ∷ mark_at (at + length a.name) (codes "::") ∷ token_at (at + length a.name + 2) Identifier v.name ∷ z) (arguments_places begin (each depth (plain.expression_and e es))));
      same = rw r.same refl;
    })

-- ---- tuples

pub unit_reads : (depth : ℕ) (s : Span) → Reads depth (plain.tuple s plain.no_expression)
unit_reads depth s = of_primary depth (plain.tuple s plain.no_expression) refl refl refl refl (λ f o at.
    record { tree = _; derived = g.unit (mark_at at (codes "(")) (mark_at (at + 1) (codes ")")) (refl, refl) (refl, refl) refl; same = refl })

pub single_reads : (depth : ℕ) (s : Span) (e : Expression) → Reads depth e → Reads depth (plain.tuple s (plain.expression_and e plain.no_expression))
single_reads depth s e r = of_primary depth (plain.tuple s (plain.expression_and e plain.no_expression)) refl refl refl refl (λ f o at.
    let ps = pieces false depth e in
    let a = r.whole (at + 1) in
    record {
      tree = _;
      derived = g.tuple (mark_at at (codes "(")) (mark_at (past (at + 1) ps) (codes ",")) (mark_at (past (at + 1) ps + 1) (codes ")"))
          (places (at + 1) ps) [] a.tree [] _ 0 (refl, refl) (refl, refl) (refl, refl) a.derived g.no_argument (single_places at ps);
      same = rw a.same refl;
    })

pub several_reads : (depth : ℕ) (s : Span) (e u : Expression) (us : Expressions) → Reads depth e → ReadsList depth (plain.expression_and u us)
    → Reads depth (plain.tuple s (plain.expression_and e (plain.expression_and u us)))
several_reads depth s e u us r k = of_primary depth (plain.tuple s (plain.expression_and e (plain.expression_and u us))) refl refl refl refl (λ f o at.
    let ps = pieces false depth e in
    let from : ℕ = past (at + 1) ps in
    let qs = separated (each depth (plain.expression_and u us)) in
    let a = r.whole (at + 1) in
    let b = k (from + 1 + 1) in
    record {
      tree = _;
      derived = g.tuple (mark_at at (codes "(")) (mark_at from (codes ",")) (mark_at (past (from + 1 + 1) qs) (codes ")"))
          (places (at + 1) ps) (places (from + 1 + 1) qs) a.tree b.tree _ _ (refl, refl) (refl, refl) (refl, refl) a.derived b.derived
          (tuple_places at ps (pieces false depth u) (each depth us));
      same = rw (a.same, b.same) refl;
    })

-- ---- struct literals

abbrev pub AsFields : List Tok → FieldExpressions → ℕ → Type 0
AsFields ts fs h = Derives (λ us ys. AreFields us ys h) (λ ys. erase_fields (field_expressions_of ys)) ts (erase_fields fs)

abbrev pub ReadsFields : ℕ → FieldExpressions → Type 0
ReadsFields depth fs = (at : ℕ) → AsFields (places at (separated (each_field depth fs))) fs (fields_levels fs)

abbrev erase_pair : Ident × Expression → Ident × Expression
erase_pair y = (erase_ident y.0, erase y.1)

one_field : (depth : ℕ) (n : Ident) (e : Expression) → Reads depth e → (at : ℕ)
    → Derives (λ us y. IsField us y (expression_levels e)) erase_pair (places at (name n ∷ mark (codes ":") ∷ space ∷ pieces false depth e)) (erase_pair (n, e))
one_field depth n e r at =
    let from : ℕ = at + length n.name + 1 + 1 in
    let a = r.whole from in
    record {
      tree = _;
      derived = g.long_field (token_at at Identifier n.name) (mark_at (at + length n.name) (codes ":")) (places from (pieces false depth e)) a.tree (expression_levels e) refl (refl, refl) a.derived refl;
      same = rw a.same refl;
    }

pub no_field : (depth : ℕ) → ReadsFields depth plain.no_field
no_field depth at = record { tree = []; derived = g.no_field; same = refl }

pub last_field : (depth : ℕ) (n : Ident) (e : Expression) → Reads depth e → ReadsFields depth (plain.field_and n e plain.no_field)
last_field depth n e r at =
    let a = one_field depth n e r at in
    record {
      tree = a.tree ∷ [];
      derived = subst (λ h. AreFields (places at (name n ∷ mark (codes ":") ∷ space ∷ pieces false depth e)) (a.tree ∷ []) h) (omega arith) (g.last_field a.derived);
      same = ap (λ y. plain.field_and y.0 y.1 plain.no_field) a.same;
    }

pub further_fields : (depth : ℕ) (n m : Ident) (e u : Expression) (us : FieldExpressions) → Reads depth e → ReadsFields depth (plain.field_and m u us)
    → ReadsFields depth (plain.field_and n e (plain.field_and m u us))
further_fields depth n m e u us r k at =
    let ps = name n ∷ mark (codes ":") ∷ space ∷ pieces false depth e in
    let a = one_field depth n e r at in
    let b = k (past at ps + 1 + 1) in
    record {
      tree = a.tree ∷ b.tree;
      derived = g.field_and (places at ps) (places (past at ps + 1 + 1) (separated (each_field depth (plain.field_and m u us)))) (mark_at (past at ps) (codes ",")) a.tree b.tree _ _ a.derived (refl, refl) b.derived
          (places-append at ps _);
      same = ap (λ y. plain.field_and y.0 y.1 (erase_fields (field_expressions_of b.tree))) a.same ∙ ap (plain.field_and (erase_ident n) (erase e)) b.same;
    }

empty_make : (depth : ℕ) (s : Span) (n : Ident) (at : ℕ) → AsPrimary true (places at (pieces false depth (plain.make s n plain.no_field))) (plain.make s n plain.no_field) 1
empty_make depth s n at =
    let begin : ℕ = at + length n.name + 1 in
    record {
      tree = _;
      derived = g.structure (token_at at Identifier n.name) (mark_at begin (codes "{")) (mark_at (begin + 1) (codes "}")) [] [] 0 refl (refl, refl) (refl, refl) g.no_field refl;
      same = refl;
    }

full_make : (depth : ℕ) (s : Span) (n m : Ident) (e : Expression) (fs : FieldExpressions) → ReadsFields depth (plain.field_and m e fs) → (at : ℕ)
    → AsPrimary true (places at (pieces false depth (plain.make s n (plain.field_and m e fs)))) (plain.make s n (plain.field_and m e fs)) (suc (fields_levels (plain.field_and m e fs)))
full_make depth s n m e fs k at =
    let begin : ℕ = at + length n.name + 1 in
    let qs = separated (each_field depth (plain.field_and m e fs)) in
    let r = k (begin + 1 + 1) in
    record {
      tree = _;
      derived = g.structure (token_at at Identifier n.name) (mark_at begin (codes "{")) (mark_at (past (begin + 1 + 1) qs + 1) (codes "}")) (places (begin + 1 + 1) qs) r.tree
          _ refl (refl, refl) (refl, refl) r.derived
          (ap (λ z. token_at at Identifier n.name ∷ z) (fields_places begin (name m ∷ mark (codes ":") ∷ space ∷ pieces false depth e) (each_field depth fs)));
      same = rw r.same refl;
    }

-- a struct literal is open
where_open : (P : Bool → Type 0) → P true → (f : Bool) → Allowed f true → P f
where_open P p true o = p
where_open P p false o = absurd (cc)

pub make_reads : (depth : ℕ) (s : Span) (n : Ident) (fs : FieldExpressions) → ReadsFields depth fs → Reads depth (plain.make s n fs)
make_reads depth s n plain.no_field k = of_primary depth (plain.make s n plain.no_field) refl refl refl refl (λ f o at.
    where_open (λ f. AsPrimary f (places at (pieces false depth (plain.make s n plain.no_field))) (plain.make s n plain.no_field) 1) (empty_make depth s n at) f o)
make_reads depth s n (plain.field_and m e fs) k = of_primary depth (plain.make s n (plain.field_and m e fs)) refl refl refl refl (λ f o at.
    where_open (λ f. AsPrimary f (places at (pieces false depth (plain.make s n (plain.field_and m e fs)))) (plain.make s n (plain.field_and m e fs)) (suc (fields_levels (plain.field_and m e fs))))
    (full_make depth s n m e fs k at) f o)
