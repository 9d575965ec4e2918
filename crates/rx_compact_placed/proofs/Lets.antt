-- The edits of types, and of the types of `let`s in a body, stand in the places of lifetimes: by induction on the derivations.
use Rattle.std.proofs.Common.{ℕ, Bool, true, false, List, [], ◌∷◌, ◌++◌, Option, Some, None, inl, sym, append_assoc, append-nil}
use Rattle.std.specs.Prelude.{if◌then◌else◌}
use Rattle.std.specs.Str.{bytes_eq}
use Rattle.rx_core.specs.declared.types.Span.{Span}
use Rattle.rx_tree.specs.declared.tree.Ident.{Ident}
use Rattle.rx_tree.specs.Plain as plain
use Rattle.rx_tree.specs.Plain.{TypeTree, PatternTree, Expression, OptionalExpression, Body, Parameter, Statement}
use Rattle.rx_tree.specs.PlainOf.{types_of, expressions_of, field_expressions_of, arms_of, statements_of}
use Rattle.rx_lex.specs.Tok.{Tok}
use Rattle.rx_parse_grammar.specs.grammar.Words.{span_of, IsLifetime, IsListOf, no_element, last_element, element, ident}
use Rattle.rx_parse_grammar.specs.grammar.Types as t
use Rattle.rx_parse_grammar.specs.grammar.Types.{IsType, AreTypes, IsLifetimeArgument, IsReferenceLifetime}
use Rattle.rx_parse_grammar.specs.grammar.Items.{IsParameter, parameter, IsResult, no_result, result}
use Rattle.rx_parse_grammar.specs.grammar.Expressions as g
use Rattle.rx_parse_grammar.specs.grammar.Expressions.{IsAnnotation, IsExpression, IsOperand, IsUnary, IsPostfix, IsPrimary, AreArguments, IsField, AreFields, IsLike, IsTest, Test, IsIf, IsElse, AreArms, IsBlock, IsStatement, AreStatements}
use Rattle.rx_print_spelling.specs.Pieces.{lifetime}
use Rattle.rx_resolve_names.specs.Meant.{Around, a_loop, a_test}
use Rattle.rx_hoist_extraction.specs.Names.{Names, bound, bound_by, behind_all}
use Rattle.rx_splice_laws.specs.Edits.{Edit, replaced}
use Rattle.rx_splice_laws.specs.EditsOf as walked
use Rattle.rx_splice_laws.specs.EditsOf.{EditsAt}
use Rattle.rx_compact_lifetimes.specs.Rewritten.{ident_with}
use Rattle.rx_compact_text.specs.CompactedText.{renamed_edits, reference_edits, argument_edits, listed_edits, type_edits, types_edits, optional_edits, parameters_edits, let_edits}
use Rattle.rx_compact_placed.proofs.Within.{Within, kept, instead, gone, second, joined, moved, same, one_kept, then_kept, and_none}

-- what an `if` or a `while` goes by
abbrev tested : Test → Expression
tested (g.condition x) = x
tested (g.fitting p x) = x

module _ (text : List ℕ) (m : List ℕ → Option (List ℕ)) where
  -- ---- lifetimes

  renamed : (k : Tok) (n : List ℕ) → IsLifetime k → Within text (renamed_edits (ident k) n) (k ∷ [])
  renamed k n s = by (bytes_eq n k.text) where
    by : (b : Bool) → Within text (if b then [] else replaced k.span (lifetime (ident_with (ident k) n) ∷ []) ∷ []) (k ∷ [])
    by true = kept (k ∷ [])
    by false = instead k _ (inl s.0)

  -- of a reference, before what follows it
  referred : {es : List Edit} {us : List Tok} (k : Tok) (o : Option (List ℕ)) → IsLifetime k → Within text es us → Within text (reference_edits text (ident k) o ++ es) (k ∷ us)
  referred k None s w = gone k [] (inl s.0) w
  referred k (Some n) s w = joined (renamed k n s) w

  argued : (k : Tok) (o : Option (List ℕ)) → IsLifetime k → Within text (argument_edits (ident k) o) (k ∷ [])
  argued k None s = instead k _ (inl s.0)
  argued k (Some n) s = renamed k n s

  one_argument : {ts : List Tok} {l : Option Ident} {h : ℕ} → IsLifetimeArgument ts l h → (ls : List (Option Ident)) {us : List Tok} → Within text (listed_edits m ls) us → Within text (listed_edits m (l ∷ ls)) (ts ++ us)
  one_argument (t.anonymous_argument k s) ls w = one_kept k w
  one_argument (t.lifetime_argument k s) ls w = joined (argued k (m k.text) s) w

  arguments : {ts : List Tok} {ls : List (Option Ident)} {h : ℕ} → IsListOf IsLifetimeArgument ts ls h → Within text (listed_edits m ls) ts
  arguments no_element = kept []
  arguments {ts = ts} (last_element {x = x} d) = subst_end (one_argument d [] (kept [])) where
    subst_end : Within text (listed_edits m (x ∷ [])) (ts ++ []) → Within text (listed_edits m (x ∷ [])) ts
    subst_end w = moved (sym (append-nil ts)) w
  arguments (element us vs c x xs a b d s r is) = moved is (one_argument d xs (one_kept c (arguments r)))

  -- ---- types

  pointed : {us : List Tok} (s : Span) (w : Bool) (y : TypeTree) (ls : List Tok) (l : Option Ident) → IsReferenceLifetime ls l
      → Within text (type_edits text m y) us → Within text (type_edits text m (plain.ref_type s l w y)) (ls ++ us)
  pointed s w y ls l t.no_lifetime r = r
  pointed s w y ls l (t.anonymous k q) r = one_kept k r
  pointed s w y ls l (t.lifetime k q) r = referred k (m k.text) q r

  mutual
    pub typed : {ts : List Tok} {y : TypeTree} {h : ℕ} → IsType ts y h → Within text (type_edits text m y) ts
    typed {ts = ts} (t.kind k w s is) = kept ts
    typed {ts = ts} (t.bool k s is) = kept ts
    typed {ts = ts} (t.named k s is) = kept ts
    typed (t.named_with k o c us l ls s so sc d is) = moved is (one_kept k (one_kept o (then_kept (arguments d) (c ∷ []))))
    typed {ts = ts} (t.reference k ls ms us l w y h s dl dm d is) = moved is (one_kept k (pointed (span_of ts) w y ls l dl (joined (kept ms) (typed d))))
    typed (t.two_references k us y h s d is) = moved is (second k s.1 (typed d))
    typed {ts = ts} (t.unit o c so sc is) = kept ts
    typed (t.parentheses o c us y h so sc d is) = moved is (one_kept o (then_kept (typed d) (c ∷ [])))
    typed (t.tuple o a c us vs y ys h i so sa sc d r is) = moved is (one_kept o (joined (typed d) (one_kept a (then_kept (all_typed r) (c ∷ [])))))

    all_typed : {ts : List Tok} {ys : List TypeTree} {h : ℕ} → AreTypes ts ys h → Within text (types_edits text m (types_of ys)) ts
    all_typed t.no_type = kept []
    all_typed (t.last_type d) = and_none (typed d)
    all_typed (t.type_and us vs c y ys a b d s r is) = moved is (joined (typed d) (one_kept c (all_typed r)))

  one_parameter : {ts : List Tok} {x : Parameter} {h : ℕ} → IsParameter ts x h → Within text (type_edits text m x.typ) ts
  one_parameter (parameter ms us n c w y h sm sn sc d is) = moved is (joined (kept ms) (one_kept n (one_kept c (typed d))))

  pub parameters : {ts : List Tok} {ps : List Parameter} {h : ℕ} → IsListOf IsParameter ts ps h → Within text (parameters_edits text m ps) ts
  parameters no_element = kept []
  parameters (last_element d) = and_none (one_parameter d)
  parameters (element us vs c x xs a b d s r is) = moved is (joined (one_parameter d) (one_kept c (parameters r)))

  pub answered : {ts : List Tok} {y : Option TypeTree} {h : ℕ} → IsResult ts y h → Within text (optional_edits text m y) ts
  answered no_result = kept []
  answered (result a us y h sa d is) = moved is (one_kept a (typed d))

  -- ---- bodies

  abbrev A : EditsAt
  A = let_edits text m

  annotated : {ts : List Tok} {y : Option TypeTree} {h : ℕ} → IsAnnotation ts y h → Within text (optional_edits text m y) ts
  annotated g.no_type = kept []
  annotated (g.with_type c us y h sc d is) = moved is (one_kept c (typed d))

  mutual
    pub expression : {ts : List Tok} {x : Expression} {h : ℕ} → IsExpression ts x h → (own : Names) (ls : List Around) (b : Bool) → Within text (walked.edits A own ls b x) ts
    expression (g.operand d) own ls b = operand d own ls b
    expression (g.assign us vs k l r i j s a c is) own ls b = moved is (joined (operand a own ls false) (one_kept k (expression c own ls false)))
    expression (g.update us vs k o l r i j s a c is) own ls b = moved is (joined (operand a own ls false) (one_kept k (expression c own ls false)))
    expression {ts = ts} (g.return k s is) own ls b = kept ts
    expression (g.return_with k us x h s d is) own ls b = moved is (one_kept k (expression d own ls false))
    expression {ts = ts} (g.break k s is) own ls b = kept ts
    expression {ts = ts} (g.break_from k l s sl is) own ls b = kept ts
    expression {ts = ts} (g.continue k s is) own ls b = kept ts
    expression {ts = ts} (g.continue_with k l s sl is) own ls b = kept ts

    operand : {f : Bool} {j : ℕ} {ts : List Tok} {x : Expression} {h : ℕ} → IsOperand f j ts x h → (own : Names) (ls : List Around) (b : Bool) → Within text (walked.edits A own ls b x) ts
    operand (g.unary d) own ls b = unary d own ls b
    operand (g.stronger d) own ls b = operand d own ls b
    operand (g.chain us vs k o l r i j z s a c is) own ls b = moved is (joined (operand a own ls false) (one_kept k (operand c own ls false)))
    operand (g.compare us vs k o l r i j z s a c is) own ls b = moved is (joined (operand a own ls false) (one_kept k (operand c own ls false)))

    unary : {f : Bool} {ts : List Tok} {x : Expression} {h : ℕ} → IsUnary f ts x h → (own : Names) (ls : List Around) (b : Bool) → Within text (walked.edits A own ls b x) ts
    unary (g.postfix d) own ls b = postfix d own ls b
    unary (g.negate k us x h s d is) own ls b = moved is (one_kept k (unary d own ls false))
    unary (g.invert k us x h s d is) own ls b = moved is (one_kept k (unary d own ls false))
    unary (g.deref k us x h s d is) own ls b = moved is (one_kept k (unary d own ls false))
    unary (g.borrow k ms us w x h s sm d is) own ls b = moved is (one_kept k (joined (kept ms) (unary d own ls false)))
    unary (g.borrow_twice k us x h s d is) own ls b = moved is (second k s.1 (unary d own ls false))

    postfix : {f : Bool} {ts : List Tok} {x : Expression} {h : ℕ} → IsPostfix f ts x h → (own : Names) (ls : List Around) (b : Bool) → Within text (walked.edits A own ls b x) ts
    postfix (g.primary d) own ls b = primary d own ls b
    postfix (g.field us d n x h sd sn r is) own ls b = moved is (then_kept (postfix r own ls false) (d ∷ n ∷ []))
    postfix (g.part us d n v x h sd sn r is) own ls b = moved is (then_kept (postfix r own ls false) (d ∷ n ∷ []))

    primary : {f : Bool} {ts : List Tok} {x : Expression} {h : ℕ} → IsPrimary f ts x h → (own : Names) (ls : List Around) (b : Bool) → Within text (walked.edits A own ls b x) ts
    primary {ts = ts} (g.number k v w s is) own ls b = kept ts
    primary {ts = ts} (g.true_is k s is) own ls b = kept ts
    primary {ts = ts} (g.false_is k s is) own ls b = kept ts
    primary {ts = ts} (g.variable k s is) own ls b = kept ts
    primary (g.call k o c us xs h s so sc d is) own ls b = moved is (one_kept k (one_kept o (then_kept (all d own ls) (c ∷ []))))
    primary {ts = ts} (g.next_input r q n o c sr sq sn so sc is) own ls b = kept ts
    primary {ts = ts} (g.variant e q v se sq sv is) own ls b = kept ts
    primary (g.variant_with e q v o c us x xs h se sq sv so sc d is) own ls b = moved is (one_kept e (one_kept q (one_kept v (one_kept o (then_kept (all d own ls) (c ∷ []))))))
    primary (g.structure n o c us fs h sn so sc d is) own ls b = moved is (one_kept n (one_kept o (then_kept (fields d own ls) (c ∷ []))))
    primary (g.print r e o q k c us x h sr se so sq sk sc d is) own ls b =
        moved is (one_kept r (one_kept e (one_kept o (one_kept q (one_kept k (then_kept (expression d own ls false) (c ∷ [])))))))
    primary {ts = ts} (g.unit o c so sc is) own ls b = kept ts
    primary (g.parentheses o c us x h so sc d is) own ls b = moved is (one_kept o (then_kept (expression d own ls b) (c ∷ [])))
    primary (g.tuple o k c us vs x xs h i so sk sc d r is) own ls b = moved is (one_kept o (joined (expression d own ls false) (one_kept k (then_kept (all r own ls) (c ∷ [])))))
    primary (g.like d) own ls b = like d own ls b

    all : {ts : List Tok} {xs : List Expression} {h : ℕ} → AreArguments ts xs h → (own : Names) (ls : List Around) → Within text (walked.all_edits A own ls (expressions_of xs)) ts
    all g.no_argument own ls = kept []
    all (g.last_argument d) own ls = and_none (expression d own ls false)
    all (g.argument_and us vs c x xs i j d s r is) own ls = moved is (joined (expression d own ls false) (one_kept c (all r own ls)))

    field : {ts : List Tok} {x : Ident × Expression} {h : ℕ} → IsField ts x h → (own : Names) (ls : List Around) (b : Bool) → Within text (walked.edits A own ls b x.1) ts
    field (g.long_field n c us x h sn sc d is) own ls b = moved is (one_kept n (one_kept c (expression d own ls b)))
    field {ts = ts} (g.short_field n s is) own ls b = kept ts

    fields : {ts : List Tok} {xs : List (Ident × Expression)} {h : ℕ} → AreFields ts xs h → (own : Names) (ls : List Around) → Within text (walked.field_edits A own ls (field_expressions_of xs)) ts
    fields g.no_field own ls = kept []
    fields (g.last_field {x = x} d) own ls = and_none (field d own ls (walked.is_short x.0 x.1))
    fields (g.field_and us vs c x xs i j d s r is) own ls = moved is (joined (field d own ls (walked.is_short x.0 x.1)) (one_kept c (fields r own ls)))

    like : {ts : List Tok} {x : Expression} {h : ℕ} → IsLike ts x h → (own : Names) (ls : List Around) (b : Bool) → Within text (walked.edits A own ls b x) ts
    like (g.block c h d) own ls b = block d own ls
    like (g.conditional d) own ls b = conditional d own ls b
    like (g.match k o c us vs x a more i j st so sc d r is) own ls b = moved is (one_kept k (joined (operand d own ls false) (one_kept o (then_kept (arms r own ls) (c ∷ [])))))
    like (g.loop vs us k l c h sl st d is) own ls b = moved is (joined (kept vs) (one_kept k (block d own (a_loop l 0 ∷ ls))))
    like (g.while ks us vs k l (g.condition x) c i j sl st d r is) own ls b =
        moved is (joined (kept ks) (one_kept k (joined (test d own (a_test ∷ a_loop l 0 ∷ ls)) (block r own (a_loop l 0 ∷ ls)))))
    like (g.while ks us vs k l (g.fitting p x) c i j sl st d r is) own ls b =
        moved is (joined (kept ks) (one_kept k (joined (test d own (a_test ∷ a_loop l 0 ∷ ls)) (block r (bound p ++ own) (a_loop l 0 ∷ ls)))))

    test : {ts : List Tok} {x : Test} {h : ℕ} → IsTest ts x h → (own : Names) (ls : List Around) → Within text (walked.edits A own ls false (tested x)) ts
    test (g.test d) own ls = operand d own ls false
    test (g.test_pattern k q ps us p x i j st sq sp d is) own ls = moved is (one_kept k (joined (kept ps) (one_kept q (operand d own ls false))))

    conditional : {ts : List Tok} {x : Expression} {h : ℕ} → IsIf ts x h → (own : Names) (ls : List Around) (b : Bool) → Within text (walked.edits A own ls b x) ts
    conditional (g.if_alone k us vs (g.condition x) c i j st d r is) own ls b = moved is (one_kept k (joined (test d own ls) (and_none (block r own ls))))
    conditional (g.if_alone k us vs (g.fitting p x) c i j st d r is) own ls b = moved is (one_kept k (joined (test d own ls) (and_none (block r (bound p ++ own) ls))))
    conditional (g.if_else k e us vs ws (g.condition x) y c i j n st se d r o is) own ls b =
        moved is (one_kept k (joined (test d own ls) (joined (block r own ls) (one_kept e (otherwise o own ls)))))
    conditional (g.if_else k e us vs ws (g.fitting p x) y c i j n st se d r o is) own ls b =
        moved is (one_kept k (joined (test d own ls) (joined (block r (bound p ++ own) ls) (one_kept e (otherwise o own ls)))))

    otherwise : {ts : List Tok} {x : Expression} {h : ℕ} → IsElse ts x h → (own : Names) (ls : List Around) → Within text (walked.edits A own ls false x) ts
    otherwise (g.else_block c h d) own ls = block d own ls
    otherwise (g.else_if d) own ls = conditional d own ls false

    arms : {ts : List Tok} {xs : List (PatternTree × Expression)} {h : ℕ} → AreArms ts xs h → (own : Names) (ls : List Around) → Within text (walked.arm_edits A own ls (arms_of xs)) ts
    arms g.no_arm own ls = kept []
    arms (g.like_arm a ps us vs p x more i j k sp sa d r is) own ls = moved is (joined (kept ps) (one_kept a (joined (like d (bound p ++ own) ls false) (arms r own ls))))
    arms (g.like_arm_and a c ps us vs p x more i j k sp sa d sc r is) own ls = moved is (joined (kept ps) (one_kept a (joined (like d (bound p ++ own) ls false) (one_kept c (arms r own ls)))))
    arms (g.arm_and a c ps us vs p x more i j k sp sa d nb sc r is) own ls = moved is (joined (kept ps) (one_kept a (joined (expression d (bound p ++ own) ls false) (one_kept c (arms r own ls)))))
    arms (g.last_arm a ps us p x i j sp sa d nb is) own ls = moved is (joined (kept ps) (one_kept a (and_none (expression d (bound p ++ own) ls false))))

    pub block : {ts : List Tok} {c : Body} {h : ℕ} → IsBlock ts c h → (own : Names) (ls : List Around) → Within text (walked.body_edits A own ls c) ts
    block (g.braces o c us ss y h so sc d is) own ls = moved is (one_kept o (then_kept (statements d own ls) (c ∷ [])))

    statements : {ts : List Tok} {ss : List Statement} {y : OptionalExpression} {h : ℕ} → AreStatements ts ss y h → (own : Names) (ls : List Around)
        → Within text (walked.all_statement_edits A own ls (statements_of ss) ++ walked.optional_edits A (behind_all own (statements_of ss)) ls y) ts
    statements g.end own ls = kept []
    statements (g.tail d nb) own ls = expression d own ls false
    statements (g.tail_like d) own ls = like d own ls false
    statements (g.statement_and us vs a ss y i j d r is) own ls =
        same (append_assoc (walked.statement_edits A own ls a) (walked.all_statement_edits A (bound_by a ++ own) ls (statements_of ss)) (walked.optional_edits A (behind_all (bound_by a ++ own) (statements_of ss)) ls y))
        (moved is (joined (statement d own ls) (statements r (bound_by a ++ own) ls)))
    statements (g.like_and us vs x ss y i j d r ne is) own ls =
        same (append_assoc (walked.edits A own ls false x) (walked.all_statement_edits A own ls (statements_of ss)) (walked.optional_edits A (behind_all own (statements_of ss)) ls y))
        (moved is (joined (like d own ls false) (statements r own ls)))

    statement : {ts : List Tok} {a : Statement} {h : ℕ} → IsStatement ts a h → (own : Names) (ls : List Around) → Within text (walked.statement_edits A own ls a) ts
    statement (g.let_with k q z ps ys us p y x i j n st sq sz dp dy d is) own ls =
        moved is (one_kept k (joined (kept ps) (joined (annotated dy) (one_kept q (then_kept (expression d own ls false) (z ∷ []))))))
    statement (g.let_without k n z ms ys w y h st sn sz sm d is) own ls = moved is (one_kept k (joined (kept (ms ++ n ∷ [])) (joined (annotated d) (kept (z ∷ [])))))
    statement (g.done z us x h sz d nb is) own ls = moved is (then_kept (expression d own ls false) (z ∷ []))
    statement (g.done_like z us x h sz d is) own ls = moved is (then_kept (like d own ls false) (z ∷ []))
