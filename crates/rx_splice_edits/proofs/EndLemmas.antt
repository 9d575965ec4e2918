-- The end of a run, as it is made.
use Rattle.std.proofs.Common.{◌≡◌, ℕ, zero, suc, ◌+◌, ◌<◌, Bool, true, false, List, [], ◌∷◌, ◌++◌, length, map, drop, get_or, Option, Some, None, option_map, refl, sym, ap, subst, ◌∙◌, cond, arith}
use Rattle.std.specs.Prelude.{◌==◌, codes}
use Rattle.std.proofs.lemmas.Bool.{false≢true, ne_eqb}
use Rattle.std.specs.Borrow.{Bor}
use Rattle.std.specs.Option.{option_copied}
use Rattle.rx_core.specs.declared.types.Span.{Span}
use Rattle.rx_core.specs.declared.types.Ty.{Ty}
use Rattle.rx_tree.specs.declared.tree.Expr.{Expr}
use Rattle.rx_tree.specs.declared.tree.Stmt.{Stmt}
use Rattle.rx_tree.specs.Plain as plain
use Rattle.rx_tree.specs.Plain.{Expression, OptionalExpression, Statement, ProgramTree}
use Rattle.rx_tree.specs.PlainOf.{plain-Expr, plain-Stmt, optional_of}
use Rattle.rx_typed.specs.Types.{Typ}
use Rattle.rx_typed.specs.PlainTypes.{plain-Ty}
use Rattle.rx_print_spelling.specs.Pieces.{flat, mark, space}
use Rattle.rx_print_spelling.specs.Types.{written_type}
use Rattle.rx_print_parts.specs.Parts.{next_of}
use Rattle.rx_print_parts.proofs.Flat.{flat-append}
use Rattle.rx_print_parts.proofs.Written.{written_three}
use Rattle.rx_print_parts.proofs.WrittenLists.{all_step}
use Rattle.rx_hoist_plan.specs.declared.plan.Variable.{Variable}
use Rattle.rx_hoist_plan.specs.PlainPlan.{plain-Variable}
use Rattle.rx_hoist_extraction.specs.Names.{Names}
use Rattle.rx_hoist_extraction.specs.Plan.{to_next, Plan, outs_of, has_enum, names_of}
use Rattle.rx_hoist_extraction.specs.Fresh.{fresh_variable}
use Rattle.rx_hoist_extraction.specs.WrittenTypes.{elided}
use Rattle.rx_hoist_extraction.specs.NewBody.{handing_on, next_outs, is_followed, stays_last}
use Rattle.rx_hoist_made.specs.Lasts as lasts
use Rattle.rx_splice_laws.specs.RunEnd as ends
use Rattle.rx_splice_laws.specs.RunEnd.{RunEnd}
use Rattle.rx_splice_edits.specs.Jumping.{one_name}
use Rattle.rx_splice_edits.specs.Ending.{IsPut, next_names, let_pieces, let_end, followed_by}
use Rattle.rx_splice_edits.proofs.Words.{names_in}

-- ---- the outs behind the value

pub more_step : (l : List Variable) (i : ℕ) (x : Variable) (o p all : List ℕ) → i < length l → x ≡ get_or l i x
    → p ≡ o ++ flat (next_of true (one_name x.name))
    → o ++ flat (ends.more_outs (names_in (drop i l))) ≡ all → p ++ flat (ends.more_outs (names_in (drop (i + 1) l))) ≡ all
more_step = all_step (λ vs. ends.more_outs (names_in vs)) (λ vs. ends.more_outs (names_in vs)) (λ v. next_of true (one_name v.name)) (λ x xs. refl)

pub closing_put : (xs : Names) (t : List ℕ) → t ≡ flat (ends.more_outs xs ++ mark (codes ")") ∷ [])
    → IsPut (Some t) (ends.more_outs xs ++ mark (codes ")") ∷ [])
closing_put [] t is = is
closing_put (x ∷ xs) t is = is

pub closing_written : (o p q : List ℕ) (xs ys : Names) → o ≡ [] → p ≡ o ++ flat (ends.more_outs xs) → xs ≡ ys → q ≡ p ++ codes ")"
    → q ≡ flat (ends.more_outs ys ++ mark (codes ")") ∷ [])
closing_written o p q xs ys begins first same last =
    last
    ∙ ap (λ l. l ++ codes ")") (first ∙ ap (λ l. l ++ flat (ends.more_outs xs)) begins ∙ ap (λ zs. flat (ends.more_outs zs)) same)
    ∙ sym (flat-append (ends.more_outs ys) (mark (codes ")") ∷ []))

-- ---- the value in a tuple

pub let_written : (P : ProgramTree) (pl : Plan) (r : Span) (t : Typ) (o p q s x w : List ℕ) → o ≡ codes "let " → p ≡ o ++ x
    → x ≡ fresh_variable pl.identifiers 0
    → q ≡ p ++ w → w ≡ flat (written_type (elided P r t)) → s ≡ q ++ codes " = " → s ≡ flat (let_pieces P pl r t)
let_written P pl r t o p q s x w begins first fresh next annotated last =
    let out = fresh_variable pl.identifiers 0 in
    let typ = written_type (elided P r t) in
    written_three o p q s out (flat typ) (codes " = ") (first ∙ ap (λ l. o ++ l) fresh) (next ∙ ap (λ l. p ++ l) annotated) last
    ∙ ap (λ l. l ++ (out ++ (flat typ ++ codes " = "))) begins
    ∙ ap (λ l. codes "let " ++ (out ++ l)) (sym (flat-append typ (space ∷ mark (codes "=") ∷ space ∷ [])))

pub no_outs : (P : ProgramTree) (pl : Plan) (r : Span) (t : Typ) (vs : List Variable) (b : Bool) → map plain-Variable vs ≡ outs_of to_next pl.exits
    → b ≡ (length vs == 0) → b ≡ true → ends.as_it_is ≡ ends.in_tuple P pl r t (next_names pl)
no_outs P pl r t [] b same is none = ap (λ o. ends.in_tuple P pl r t (names_of o)) same
no_outs P pl r t (v ∷ vs) b same is none = absurd (false≢true (sym (ne_eqb (length (v ∷ vs)) 0 (λ e. omega arith)) ∙ sym is ∙ none))

pub some_outs : (P : ProgramTree) (pl : Plan) (r : Span) (t : Typ) (vs : List Variable) (b : Bool) → map plain-Variable vs ≡ outs_of to_next pl.exits
    → b ≡ (length vs == 0) → b ≡ false → let_end P pl r t (names_in vs) ≡ ends.in_tuple P pl r t (next_names pl)
some_outs P pl r t [] b same is some = absurd (false≢true (sym some ∙ is))
some_outs P pl r t (v ∷ vs) b same is some =
    ap (λ o. let_end P pl r t (names_of o)) same ∙ ap (λ o. ends.in_tuple P pl r t (names_of o)) same

-- ---- the last statement

one_open : (a : Statement) → lasts.is_open a ≡ ends.is_open (a ∷ [])
one_open (plain.let_statement s p y o) = refl
one_open (plain.expression_statement s e true) = refl
one_open (plain.expression_statement s e false) = refl

pub last_open : (ss : List Stmt) (i : ℕ) (x : Stmt) → length ss ≡ suc i → x ≡ get_or ss i x → lasts.is_open (plain-Stmt x) ≡ ends.is_open (map plain-Stmt ss)
last_open [] i x e is = absurd (omega arith)
last_open (a ∷ []) zero x e is = ap (λ (y : Stmt). lasts.is_open (plain-Stmt y)) is ∙ one_open (plain-Stmt a)
last_open (a ∷ []) (suc i) x e is = absurd (omega arith)
last_open (a ∷ b ∷ ss) zero x e is = absurd (omega arith)
last_open (a ∷ b ∷ ss) (suc i) x e is = last_open (b ∷ ss) i x (omega arith) is

-- ---- a run with a value, by the exits

pub in_enum : (P : ProgramTree) (pl : Plan) (r : Span) (t : Typ) (b : Bool) → b ≡ has_enum pl.exits → b ≡ true → ends.in_variant pl ≡ ends.with_value P pl r t
in_enum P pl r t b same is = ap (λ c. cond c (ends.in_variant pl) (ends.in_tuple P pl r t (next_names pl))) (sym is ∙ same)

pub no_enum : (P : ProgramTree) (pl : Plan) (r : Span) (t : Typ) (b : Bool) → b ≡ has_enum pl.exits → b ≡ false
    → ends.in_tuple P pl r t (next_names pl) ≡ ends.with_value P pl r t
no_enum P pl r t b same is = ap (λ c. cond c (ends.in_variant pl) (ends.in_tuple P pl r t (next_names pl))) (sym is ∙ same)

-- ---- a run without

-- the tail of a run
abbrev pub tail_in : Option (Bor Expr) → OptionalExpression
tail_in o = optional_of (option_map plain-Expr (option_copied o))

abbrev by_last : Bool → Bool → RunEnd
by_last stays last = cond stays (cond last (ends.with_semicolon plain.absent) ends.as_it_is) ends.as_it_is

pub not_last : (pl : Plan) (ss : List Statement) (b : Bool) → b ≡ stays_last pl → b ≡ false → ends.as_it_is ≡ ends.unfollowed pl ss plain.absent
not_last pl ss b same is = ap (λ c. by_last c (ends.is_open ss)) (sym is ∙ same)

pub last_by_open : (pl : Plan) (ss : List Statement) (b c d : Bool) → b ≡ stays_last pl → b ≡ true → c ≡ ends.is_open ss → c ≡ d
    → by_last true d ≡ ends.unfollowed pl ss plain.absent
last_by_open pl ss b c d same is left known = ap (λ x. by_last true x) (sym known ∙ left) ∙ ap (λ x. by_last x (ends.is_open ss)) (sym is ∙ same)

-- ---- what follows

followed_told : (pl : Plan) (r : Span) (o : OptionalExpression) → followed_by o (handing_on pl r (next_outs pl r)) ≡ ends.followed pl r o
followed_told pl r plain.absent = refl
followed_told pl r (plain.present e) = refl

abbrev by_following : Plan → Span → List Statement → OptionalExpression → Bool → RunEnd
by_following pl r ss o b = cond b (ends.followed pl r o) (ends.unfollowed pl ss o)

pub followed_is : (pl : Plan) (r : Span) (ss : List Statement) (o y : OptionalExpression) (es : List Expression) (b : Bool) → es ≡ next_outs pl r
    → y ≡ handing_on pl r es → b ≡ is_followed pl es → b ≡ true → followed_by o y ≡ ends.without_value pl r ss o
followed_is pl r ss o y es b outs handed same is =
    ap (followed_by o) (handed ∙ ap (handing_on pl r) outs)
    ∙ followed_told pl r o
    ∙ ap (by_following pl r ss o) (sym is ∙ same ∙ ap (is_followed pl) outs)

pub unfollowed_is : (pl : Plan) (r : Span) (ss : List Statement) (o : OptionalExpression) (es : List Expression) (b : Bool) → es ≡ next_outs pl r
    → b ≡ is_followed pl es → b ≡ false → ends.unfollowed pl ss o ≡ ends.without_value pl r ss o
unfollowed_is pl r ss o es b outs same is = ap (by_following pl r ss o) (sym is ∙ same ∙ ap (is_followed pl) outs)

-- ---- the whole, where the run has no tail or no value

pub no_tail : (P : ProgramTree) (pl : Plan) (r : Span) (t : Typ) (ss : List Statement) (o : Option (Bor Expr)) → o ≡ None
    → ends.without_value pl r ss (tail_in o) ≡ ends.end_by P pl r (Some t) ss (tail_in o)
no_tail P pl r t ss o is = subst (λ x. ends.without_value pl r ss (tail_in x) ≡ ends.end_by P pl r (Some t) ss (tail_in x)) (sym is) refl

no_value_by : (P : ProgramTree) (pl : Plan) (r : Span) (ss : List Statement) (o : OptionalExpression)
    → ends.without_value pl r ss o ≡ ends.end_by P pl r None ss o
no_value_by P pl r ss plain.absent = refl
no_value_by P pl r ss (plain.present e) = refl

pub no_value : (P : ProgramTree) (pl : Plan) (r : Span) (v : Option Ty) (ss : List Statement) (o : OptionalExpression) → v ≡ None
    → ends.without_value pl r ss o ≡ ends.end_by P pl r (option_map plain-Ty v) ss o
no_value P pl r v ss o is = no_value_by P pl r ss o ∙ ap (λ w. ends.end_by P pl r (option_map plain-Ty w) ss o) (sym is)
