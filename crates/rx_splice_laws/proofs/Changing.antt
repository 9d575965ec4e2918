-- Tokens with the edits of a part are derived as the changed part: by induction on the derivation.
use Rattle.std.proofs.Common.{◌≡◌, ℕ, suc, max, Bool, true, false, List, [], ◌∷◌, ◌++◌, Some, None, codes, refl, sym, ap, subst, ◌∙◌, arith, append_assoc}
use Rattle.std.specs.Prelude.{◌≢◌, ◌==◌}
use Rattle.rx_core.specs.Bytes.{same_bytes}
use Rattle.rx_tree.specs.declared.tree.Ident.{Ident}
use Rattle.rx_tree.specs.Plain as plain
use Rattle.rx_tree.specs.Plain.{TypeTree, PatternTree, Expression, OptionalExpression, Body, Statement}
use Rattle.rx_tree.specs.PlainOf.{expressions_of, field_expressions_of, arms_of, statements_of}
use Rattle.rx_tree.specs.Erase.{nowhere, erase, erase_ident, erase_pattern, erase_all, erase_fields, erase_arms, erase_body, erase_statement, erase_statements, erase_optional}
use Rattle.rx_lex.specs.declared.token.Class.TheVariants.{Keyword, Lifetime}
use Rattle.rx_lex.specs.Words.{goes_on}
use Rattle.rx_lex.specs.Tok.{Tok}
use Rattle.rx_parse_grammar.specs.declared.symbol.Symbol.TheVariants as symbol
use Rattle.rx_parse_grammar.specs.grammar.Strengths as strength
use Rattle.rx_parse_grammar.specs.grammar.Words.{IsMark, IsKeyword, IsName, IsMutability, immutable, mutable, span_of, ident, second_ampersand}
use Rattle.rx_parse_grammar.specs.grammar.Patterns.{IsPattern}
use Rattle.rx_parse_grammar.specs.grammar.Patterns as pattern
use Rattle.rx_parse_grammar.specs.grammar.Expressions as g
use Rattle.rx_parse_grammar.specs.grammar.Expressions.{IsExpression, IsOperand, IsUnary, IsPostfix, IsPrimary, AreArguments, IsField, AreFields, IsLike, IsIf, IsElse, IsTest, AreArms, IsBlock, IsStatement, AreStatements, IsLabel, IsAnnotation, BeginsLike, Test}
use Rattle.rx_parse_grammar.specs.parser.Symbols.{peek}
use Rattle.rx_parse_grammar.proofs.ExpressionsFront.{begins_primary, postfix_front, expression_some}
use Rattle.rx_parse_grammar.proofs.Reading.{first_is}
use Rattle.std.proofs.lemmas.Bool.{false≢true}
use Rattle.std.proofs.lemmas.Bool.Decides.{nat_tests}
use Rattle.rx_parse_laws.specs.Parts.{Within, erased_within}
use Rattle.rx_resolve_names.specs.Meant.{Around, a_loop, a_test}
use Rattle.rx_hoist_extraction.specs.Names.{Names, bound, bound_by, behind_all}
use Rattle.rx_hoist_extraction.specs.Changed.{Changes, changed, changed_all, changed_fields, changed_arms, changed_body, changed_statement, changed_statements, changed_optional}
use Rattle.rx_splice_laws.specs.Edits.{Edit}
use Rattle.rx_splice_laws.specs.EditsOf.{EditsAt, is_short, edits, all_edits, field_edits, arm_edits, body_edits, statement_edits, all_statement_edits, optional_edits}
use Rattle.rx_splice_laws.proofs.Beside.{runs_class, ends_class, begins_run, ends_run}
use Rattle.rx_splice_laws.proofs.Edited.{Edited, kept, joined, one_kept, then_kept, and_none, regrouped, moved, some_left, begins_kept}
use Rattle.rx_splice_laws.specs.SplicedRun.{Part}
use Rattle.rx_splice_laws.proofs.Kept.{Widening, KeptBy, keep, one, recast, left, right, tail, at, Place, At, placed, within, SuitsBy, field_view}

-- a part that begins no Like still begins none
still : {es : List Edit} {ts us : List Tok} → Edited es ts us → (BeginsLike ts → ⊥) → BeginsLike us → ⊥
still e n d = n (begins_kept e d)

pub no_ampersand : {f : Bool} {ts us : List Tok} {x : Expression} {h : ℕ} (t : Tok) → IsPostfix f ts x h → ts ≡ second_ampersand t ∷ us → ⊥
no_ampersand {us = us} t r e =
    false≢true (sym (ap begins_primary (first_is symbol.Ampersand (second_ampersand t) refl (refl, refl))) ∙ sym (ap (λ z. begins_primary (peek (z ++ []))) e) ∙ postfix_front r [])

-- a keyword, and a lifetime behind it
run_begins : {t : Tok} {ts us : List Tok} → t.class ≡ Keyword → ts ≡ t ∷ us → begins_run ts ≡ true
run_begins k is = ap begins_run is ∙ ap runs_class k

run_ends : {t : Tok} {ts : List Tok} → t.class ≡ Keyword → ts ≡ t ∷ [] → ends_run ts ≡ true
run_ends k is = ap ends_run is ∙ ap ends_class k

run_ends_behind : {t l : Tok} {ts : List Tok} → l.class ≡ Lifetime → ts ≡ t ∷ l ∷ [] → ends_run ts ≡ true
run_ends_behind k is = ap ends_run is ∙ ap ends_class k

other : (w : List ℕ) (t u : Tok) (us vs : List Tok) → second_ampersand t ∷ us ≡ u ∷ vs → IsMark w u → (codes "&" ≡ w → ⊥) → ⊥
other w t u us vs e s n = let h : second_ampersand t ≡ u = cc in n (ap (λ (x : Tok). x.text) h ∙ s.1)

behind_second : (t u : Tok) (us vs : List Tok) → second_ampersand t ∷ us ≡ u ∷ vs → us ≡ vs
behind_second t u us vs e = cc

no_minus : {R : Type 0} {ts : List Tok} (t u : Tok) (us vs : List Tok) → ts ≡ second_ampersand t ∷ us → ts ≡ u ∷ vs → IsMark (codes "-") u → R
no_minus t u us vs e is s = absurd (other (codes "-") t u us vs (sym e ∙ is) s (λ z. absurd (cc)))

no_bang : {R : Type 0} {ts : List Tok} (t u : Tok) (us vs : List Tok) → ts ≡ second_ampersand t ∷ us → ts ≡ u ∷ vs → IsMark (codes "!") u → R
no_bang t u us vs e is s = absurd (other (codes "!") t u us vs (sym e ∙ is) s (λ z. absurd (cc)))

no_star : {R : Type 0} {ts : List Tok} (t u : Tok) (us vs : List Tok) → ts ≡ second_ampersand t ∷ us → ts ≡ u ∷ vs → IsMark (codes "*") u → R
no_star t u us vs e is s = absurd (other (codes "*") t u us vs (sym e ∙ is) s (λ z. absurd (cc)))

no_double : {R : Type 0} {ts : List Tok} (t u : Tok) (us vs : List Tok) → ts ≡ second_ampersand t ∷ us → ts ≡ u ∷ vs → IsMark (codes "&&") u → R
no_double t u us vs e is s = absurd (other (codes "&&") t u us vs (sym e ∙ is) s (λ z. absurd (cc)))

no_postfix : {R : Type 0} {f : Bool} {ts us : List Tok} {x : Expression} {h : ℕ} (t : Tok) → IsPostfix f ts x h → ts ≡ second_ampersand t ∷ us → R
no_postfix t d e = absurd (no_ampersand t d e)

second_part : {all ts : List Tok} (t u : Tok) (us ms vs : List Tok) → ts ≡ second_ampersand t ∷ us → ts ≡ u ∷ (ms ++ vs) → Part all us → Part all vs
second_part t u us ms vs e is p = right ms (at (behind_second t u us (ms ++ vs) (sym e ∙ is)) p)

dotted : {all : List Tok} (us : List Tok) (d n : Tok) → Part all (us ++ (d ∷ n ∷ [])) → Part all (us ++ d ∷ [])
dotted us d n p = left (n ∷ []) (at (sym (append_assoc us (d ∷ []) (n ∷ []))) p)

abbrev arguments_view : List Expression → plain.Expressions
arguments_view xs = erase_all (expressions_of xs)

abbrev fields_view : List (Ident × Expression) → plain.FieldExpressions
fields_view xs = erase_fields (field_expressions_of xs)

abbrev arms_view : List (PatternTree × Expression) → plain.Arms
arms_view xs = erase_arms (arms_of xs)

abbrev pub AreAll : List Tok → Within → ℕ → Type 0
AreAll us p k = AreStatements us p.0 p.1 k

joined_view : (a w : Statement) (p : Within) (v : plain.Statements × OptionalExpression) → erase_statement a ≡ w → erased_within p ≡ v → erased_within (a ∷ p.0, p.1) ≡ (plain.statement_and w v.0, v.1)
joined_view a w p v e f = ap (λ (z : Statement). (plain.statement_and z (erase_statements (statements_of p.0)), erase_optional p.1)) e ∙ ap (λ (z : plain.Statements × OptionalExpression). (plain.statement_and w z.0, z.1)) f

as_place : (b : Bool) {f : Bool} (us : List Tok) (y : Expression) (k : ℕ) → IsPrimary f us y k → At b f us y k
as_place b us y k d = placed b us y k (g.primary d)

eq_self : (n : ℕ) → (n == n) ≡ true
eq_self n = grind (arith, nat_tests)

-- behind a pattern and a type and the token that follows them
regroup_one : (ps ys : List Tok) (q : Tok) (r : List Tok) → (ps ++ (ys ++ q ∷ [])) ++ r ≡ ps ++ (ys ++ (q ∷ r))
regroup_one ps ys q r = append_assoc ps (ys ++ q ∷ []) r ∙ ap (λ x. ps ++ x) (append_assoc ys (q ∷ []) r)

regroup_both : {es : List Edit} (ps ys zs : List Tok) (q : Tok) (r s : List Tok) → Edited es ((ps ++ (ys ++ q ∷ [])) ++ r) ((ps ++ (zs ++ q ∷ [])) ++ s) → Edited es (ps ++ (ys ++ (q ∷ r))) (ps ++ (zs ++ (q ∷ s)))
regroup_both {es} ps ys zs q r s e = subst (λ x. Edited es x (ps ++ (zs ++ (q ∷ s)))) (regroup_one ps ys q r) (subst (λ x. Edited es ((ps ++ (ys ++ q ∷ [])) ++ r) x) (regroup_one ps zs q s) e)

typed_part : {all : List Tok} (ps ys : List Tok) (q : Tok) (r : List Tok) → Part all (ps ++ (ys ++ (q ∷ r))) → Part all (ps ++ (ys ++ q ∷ []))
typed_part ps ys q r p = left r (at (ap (λ x. ps ++ x) (sym (append_assoc ys (q ∷ []) r)) ∙ sym (append_assoc ps (ys ++ q ∷ []) r)) p)

bound_pattern : (ms : List Tok) (n : Tok) (m : Bool) → IsMutability ms m → IsName n → IsPattern (ms ++ n ∷ []) (plain.bind (span_of (ms ++ n ∷ [])) (ident n) m) 1
bound_pattern ms n m immutable s = pattern.binding n s refl
bound_pattern ms n m (mutable t k) s = pattern.mutable_binding t n k s refl

module _ (L : ℕ → ℕ → Type 0) (W : Widening L) (A : EditsAt) (C : Changes) (all : List Tok) (S : SuitsBy L A C all) where
  open W use {low_same, low_more, low_both}
  open S use {int, variable, before_dot, short, long, break, continue, return, return_with, blocks_stay, typed}

  low_zero : L 0 0
  low_zero = low_same 0

  low_one : L 1 1
  low_one = low_same 1

  variant_case : (b f : Bool) (ts us : List Tok) (e p v o c : Tok) (h : ℕ) (es : List Edit) (a : Expression) (more : plain.Expressions) → IsName e → IsMark (codes "::") p → IsName v → IsMark (codes "(") o → IsMark (codes ")") c
      → ts ≡ e ∷ p ∷ v ∷ o ∷ (us ++ c ∷ []) → KeptBy L AreArguments arguments_view us h es (plain.expression_and a more)
      → KeptBy L (At b f) erase ts (suc h) es (plain.variant nowhere (erase_ident (ident e)) (erase_ident (ident v)) (plain.a_list (plain.expression_and a more)))
  variant_case b f ts us e p v o c h es a more se sp sv so sc is r = by r.tree r.derived r.same
    where
      by : (zs : List Expression) → AreArguments r.tokens zs r.height → arguments_view zs ≡ plain.expression_and a more
          → KeptBy L (At b f) erase ts (suc h) es (plain.variant nowhere (erase_ident (ident e)) (erase_ident (ident v)) (plain.a_list (plain.expression_and a more)))
      by [] d k = absurd (cc)
      by (z ∷ zs) d k =
          keep _ _ _ (moved is (one_kept e (one_kept p (one_kept v (one_kept o (then_kept r.edited (c ∷ [])))))))
          (as_place b _ _ _ (g.variant_with e p v o c r.tokens z zs r.height se sp sv so sc d refl)) (ap (λ (l : plain.Expressions). plain.variant nowhere (erase_ident (ident e)) (erase_ident (ident v)) (plain.a_list l)) k) (low_more _ _ r.low)

  match_case : (ts us vs : List Tok) (t o c : Tok) (m n : ℕ) (es fs : List Edit) (w : Expression) (p : PatternTree) (a : Expression) (more : plain.Arms) → IsKeyword (codes "match") t → IsMark (codes "{") o → IsMark (codes "}") c
      → ts ≡ t ∷ (us ++ (o ∷ (vs ++ c ∷ []))) → KeptBy L (IsOperand false strength.disjunction) erase us m es w → KeptBy L AreArms arms_view vs n fs (plain.arm_and p a more)
      → KeptBy L IsLike erase ts (suc (max m n)) (es ++ fs) (plain.match nowhere w (plain.arm_and p a more))
  match_case ts us vs t o c m n es fs w p a more st so sc is x r = by r.tree r.derived r.same
    where
      by : (zs : List (PatternTree × Expression)) → AreArms r.tokens zs r.height → arms_view zs ≡ plain.arm_and p a more
          → KeptBy L IsLike erase ts (suc (max m n)) (es ++ fs) (plain.match nowhere w (plain.arm_and p a more))
      by [] d k = absurd (cc)
      by (z ∷ zs) d k =
          keep _ _ _ (moved is (one_kept t (joined x.edited (one_kept o (then_kept r.edited (c ∷ []))))))
          (g.match t o c x.tokens r.tokens x.tree z zs x.height r.height st so sc x.derived d refl) (ap (λ (l : Expression). plain.match nowhere l (arms_view (z ∷ zs))) x.same ∙ ap (λ (l : plain.Arms). plain.match nowhere w l) k)
          (low_more _ _ (low_both _ _ _ _ x.low r.low))

  -- what is claimed of an expression, behind these names and within these loops
  pub record Claim (J : List Tok → Expression → ℕ → Type 0) (ts : List Tok) (x : Expression) (h : ℕ) (own : Names) (ls : List Around) : Type 0 where
    pub kept_so : KeptBy L J erase ts h (edits A own ls false x) (erase (changed C own ls x))

  claim : {J : List Tok → Expression → ℕ → Type 0} {ts : List Tok} {x : Expression} {h : ℕ} {own : Names} {ls : List Around}
      → KeptBy L J erase ts h (edits A own ls false x) (erase (changed C own ls x)) → Claim J ts x h own ls
  claim k = record { kept_so = k }

  so : {J : List Tok → Expression → ℕ → Type 0} {ts : List Tok} {x : Expression} {h : ℕ} {own : Names} {ls : List Around}
      → Claim J ts x h own ls → KeptBy L J erase ts h (edits A own ls false x) (erase (changed C own ls x))
  so c = c.kept_so

  reclaim : {J K : List Tok → Expression → ℕ → Type 0} {ts : List Tok} {x : Expression} {h : ℕ} {own : Names} {ls : List Around}
      → ((us : List Tok) (y : Expression) (k : ℕ) → J us y k → K us y k) → Claim J ts x h own ls → Claim K ts x h own ls
  reclaim f c = claim (recast f c.kept_so)

  sub : {R : Type 0} {J : List Tok → Expression → ℕ → Type 0} {ts : List Tok} {x : Expression} {h : ℕ} {own : Names} {ls : List Around} → Claim J ts x h own ls
      → ((us : List Tok) (y : Expression) (k : ℕ) → J us y k → Edited (edits A own ls false x) ts us → erase y ≡ erase (changed C own ls x) → L h k → R) → R
  sub c f = one c.kept_so f

  claimed : {J : List Tok → Expression → ℕ → Type 0} {ts : List Tok} {x : Expression} {h : ℕ} {own : Names} {ls : List Around} (us : List Tok) (y : Expression) (k : ℕ)
      → Edited (edits A own ls false x) ts us → J us y k → erase y ≡ erase (changed C own ls x) → L h k → Claim J ts x h own ls
  claimed us y k e d m l = claim (keep us y k e d m l)

  return_claim : {ts : List Tok} (t : Tok) (us : List Tok) (x : Expression) (h : ℕ) → IsKeyword (codes "return") t → ts ≡ t ∷ us → us ≢ [] → (own : Names) (ls : List Around) → Part all (t ∷ us)
      → Claim IsExpression us x h own ls → Claim IsExpression ts (plain.return (span_of ts) (plain.present x)) (suc h) own ls
  return_claim t us x h s is n own ls q c =
      claim (subst (λ l. KeptBy L IsExpression erase l (suc h) (A.at_return_with (span_of l) (edits A own ls false x)) (erase (C.at_return (span_of l) (plain.present (changed C own ls x))))) (sym is)
      (return_with t us h (edits A own ls false x) (changed C own ls x) s n q c.kept_so))

  match_claim : {ts : List Tok} (t o c : Tok) (us vs : List Tok) (x : Expression) (a : PatternTree × Expression) (more : List (PatternTree × Expression)) (m n : ℕ)
      → IsKeyword (codes "match") t → IsMark (codes "{") o → IsMark (codes "}") c → ts ≡ t ∷ (us ++ (o ∷ (vs ++ c ∷ []))) → (own : Names) (ls : List Around)
      → Claim (IsOperand false strength.disjunction) us x m own ls
      → KeptBy L AreArms arms_view vs n (arm_edits A own ls (arms_of (a ∷ more))) (erase_arms (changed_arms C own ls (arms_of (a ∷ more))))
      → Claim IsLike ts (plain.match (span_of ts) x (arms_of (a ∷ more))) (suc (max m n)) own ls
  match_claim {ts} t o c us vs x a more m n st so sc is own ls y z =
      claim (match_case ts us vs t o c m n (edits A own ls false x) (arm_edits A own ls (arms_of (a ∷ more))) (erase (changed C own ls x)) (erase_pattern a.0) (erase (changed C (bound a.0 ++ own) ls a.1)) (erase_arms (changed_arms C own ls (arms_of more)))
      st so sc is y.kept_so z)

  second_claim : {f : Bool} {ts : List Tok} (t u : Tok) (us ms vs : List Tok) (m : Bool) (x : Expression) (h : ℕ) → IsMutability ms m → (own : Names) (ls : List Around) → ts ≡ second_ampersand t ∷ us → ts ≡ u ∷ (ms ++ vs)
      → Claim (IsUnary f) vs x h own ls → Claim (λ ws y k. IsUnary f (second_ampersand t ∷ ws) y k) us (plain.borrow (span_of ts) m x) (suc h) own ls
  second_claim t u us ms vs m x h sm own ls e is c =
      sub c (λ ws y k d ed same low.
      claimed _ _ _ (moved (behind_second t u us (ms ++ vs) (sym e ∙ is)) (joined (kept ms) ed)) (g.borrow (second_ampersand t) ms ws m y k (refl, refl) sm d refl) (rw same refl) (low_more _ _ low))

  variable_kept : (b f : Bool) (own : Names) (t : Tok) → IsName t → Place b all (t ∷ [])
      → KeptBy L (At b f) erase (t ∷ []) 1 (A.at_variable own false t.span t.text) (erase (C.at_variable own t.span t.text))
  variable_kept true f own t s p = before_dot f own t p.0 s p.1 p.2
  variable_kept false f own t s p = variable f own t s p

  mutual
    pub expression_kept : {ts : List Tok} {x : Expression} {h : ℕ} → IsExpression ts x h → (own : Names) (ls : List Around) → Part all ts
        → Claim IsExpression ts x h own ls
    expression_kept (g.operand d) own ls p = reclaim (λ us y k. g.operand) (operand_kept d own ls p)
    expression_kept (g.assign us vs t l r m n s a b is) own ls p =
        let q = at is p in
        sub (operand_kept a own ls (left (t ∷ vs) q)) (λ x_tokens x_tree x_height x_derived x_edited x_same x_low.
        sub (expression_kept b own ls (tail (right us q))) (λ y_tokens y_tree y_height y_derived y_edited y_same y_low.
        claimed _ _ _ (moved is (joined x_edited (one_kept t y_edited))) (g.assign x_tokens y_tokens t x_tree y_tree x_height y_height s x_derived y_derived refl) (rw (x_same, y_same) refl)
        (low_more _ _ (low_both _ _ _ _ x_low y_low))))
    expression_kept (g.update us vs t o l r m n s a b is) own ls p =
        let q = at is p in
        sub (operand_kept a own ls (left (t ∷ vs) q)) (λ x_tokens x_tree x_height x_derived x_edited x_same x_low.
        sub (expression_kept b own ls (tail (right us q))) (λ y_tokens y_tree y_height y_derived y_edited y_same y_low.
        claimed _ _ _ (moved is (joined x_edited (one_kept t y_edited))) (g.update x_tokens y_tokens t o x_tree y_tree x_height y_height s x_derived y_derived refl) (rw (x_same, y_same) refl)
        (low_more _ _ (low_both _ _ _ _ x_low y_low))))
    expression_kept (g.return t s is) own ls p =
        claim (subst (λ l. KeptBy L IsExpression erase l 1 (A.at_return (span_of l)) (erase (C.at_return (span_of l) plain.absent))) (sym is) (return t s))
    expression_kept (g.return_with t us x h s d is) own ls p =
        return_claim t us x h s is (expression_some d) own ls (at is p) (expression_kept d own ls (tail (at is p)))
    expression_kept {ts = ts} (g.break t s is) own ls p = claim (break ls ts None (λ e. absurd (cc)) (run_begins s.0 is) (run_ends s.0 is) (g.break t s is))
    expression_kept {ts = ts} (g.break_from t l s sl is) own ls p = claim (break ls ts (Some (ident l)) (λ e. absurd (cc)) (run_begins s.0 is) (run_ends_behind sl.0 is) (g.break_from t l s sl is))
    expression_kept {ts = ts} (g.continue t s is) own ls p = claim (continue ls ts None (λ e. absurd (cc)) (run_begins s.0 is) (run_ends s.0 is) (g.continue t s is))
    expression_kept {ts = ts} (g.continue_with t l s sl is) own ls p = claim (continue ls ts (Some (ident l)) (λ e. absurd (cc)) (run_begins s.0 is) (run_ends_behind sl.0 is) (g.continue_with t l s sl is))

    pub operand_kept : {f : Bool} {j : ℕ} {ts : List Tok} {x : Expression} {h : ℕ} → IsOperand f j ts x h → (own : Names) (ls : List Around) → Part all ts
        → Claim (IsOperand f j) ts x h own ls
    operand_kept (g.unary d) own ls p = reclaim (λ us y k. g.unary) (unary_kept d own ls p)
    operand_kept (g.stronger d) own ls p = reclaim (λ us y k. g.stronger) (operand_kept d own ls p)
    operand_kept (g.chain us vs t o l r m n z s a b is) own ls p =
        let q = at is p in
        sub (operand_kept a own ls (left (t ∷ vs) q)) (λ x_tokens x_tree x_height x_derived x_edited x_same x_low.
        sub (operand_kept b own ls (tail (right us q))) (λ y_tokens y_tree y_height y_derived y_edited y_same y_low.
        claimed _ _ _ (moved is (joined x_edited (one_kept t y_edited))) (g.chain x_tokens y_tokens t o x_tree y_tree x_height y_height z s x_derived y_derived refl) (rw (x_same, y_same) refl)
        (low_more _ _ (low_both _ _ _ _ x_low y_low))))
    operand_kept (g.compare us vs t o l r m n z s a b is) own ls p =
        let q = at is p in
        sub (operand_kept a own ls (left (t ∷ vs) q)) (λ x_tokens x_tree x_height x_derived x_edited x_same x_low.
        sub (operand_kept b own ls (tail (right us q))) (λ y_tokens y_tree y_height y_derived y_edited y_same y_low.
        claimed _ _ _ (moved is (joined x_edited (one_kept t y_edited))) (g.compare x_tokens y_tokens t o x_tree y_tree x_height y_height z s x_derived y_derived refl) (rw (x_same, y_same) refl)
        (low_more _ _ (low_both _ _ _ _ x_low y_low))))

    pub unary_kept : {f : Bool} {ts : List Tok} {x : Expression} {h : ℕ} → IsUnary f ts x h → (own : Names) (ls : List Around) → Part all ts
        → Claim (IsUnary f) ts x h own ls
    unary_kept (g.postfix d) own ls p = postfix_kept false d own ls p
    unary_kept (g.negate t us x h s d is) own ls p =
        sub (unary_kept d own ls (tail (at is p))) (λ x_tokens x_tree x_height x_derived x_edited x_same x_low.
        claimed _ _ _ (moved is (one_kept t x_edited)) (g.negate t x_tokens x_tree x_height s x_derived refl) (rw x_same refl) (low_more _ _ x_low))
    unary_kept (g.invert t us x h s d is) own ls p =
        sub (unary_kept d own ls (tail (at is p))) (λ x_tokens x_tree x_height x_derived x_edited x_same x_low.
        claimed _ _ _ (moved is (one_kept t x_edited)) (g.invert t x_tokens x_tree x_height s x_derived refl) (rw x_same refl) (low_more _ _ x_low))
    unary_kept (g.deref t us x h s d is) own ls p =
        sub (unary_kept d own ls (tail (at is p))) (λ x_tokens x_tree x_height x_derived x_edited x_same x_low.
        claimed _ _ _ (moved is (one_kept t x_edited)) (g.deref t x_tokens x_tree x_height s x_derived refl) (rw x_same refl) (low_more _ _ x_low))
    unary_kept (g.borrow t ms us m x h s sm d is) own ls p =
        sub (unary_kept d own ls (right ms (tail (at is p)))) (λ x_tokens x_tree x_height x_derived x_edited x_same x_low.
        claimed _ _ _ (moved is (one_kept t (joined (kept ms) x_edited))) (g.borrow t ms x_tokens m x_tree x_height s sm x_derived refl) (rw x_same refl) (low_more _ _ x_low))
    unary_kept (g.borrow_twice t us x h s d is) own ls p =
        sub (second_kept t us d own ls (tail (at is p)) refl) (λ x_tokens x_tree x_height x_derived x_edited x_same x_low.
        claimed _ _ _ (moved is (one_kept t x_edited)) (g.borrow_twice t x_tokens x_tree x_height s x_derived refl) (rw x_same refl) (low_more _ _ x_low))

    -- behind the first half of `&&`
    second_kept : {f : Bool} {ts : List Tok} {x : Expression} {h : ℕ} (t : Tok) (us : List Tok) → IsUnary f ts x h → (own : Names) (ls : List Around) → Part all us → ts ≡ second_ampersand t ∷ us
        → Claim (λ vs y k. IsUnary f (second_ampersand t ∷ vs) y k) us x h own ls
    second_kept t us (g.postfix d) own ls p e = no_postfix t d e
    second_kept t us (g.negate u vs x h s d is) own ls p e = no_minus t u us vs e is s
    second_kept t us (g.invert u vs x h s d is) own ls p e = no_bang t u us vs e is s
    second_kept t us (g.deref u vs x h s d is) own ls p e = no_star t u us vs e is s
    second_kept t us (g.borrow u ms vs m x h s sm d is) own ls p e = second_claim t u us ms vs m x h sm own ls e is (unary_kept d own ls (second_part t u us ms vs e is p))
    second_kept t us (g.borrow_twice u vs x h s d is) own ls p e = no_double t u us vs e is s

    pub postfix_kept : {f : Bool} (b : Bool) {ts : List Tok} {x : Expression} {h : ℕ} → IsPostfix f ts x h → (own : Names) (ls : List Around) → Place b all ts
        → Claim (At b f) ts x h own ls
    postfix_kept b (g.primary d) own ls p = primary_kept b d own ls p
    postfix_kept {f} b (g.field us d n x h sd sn r is) own ls p =
        sub (postfix_kept true r own ls (d, sd, dotted us d n (at is (within b p)))) (λ x_tokens x_tree x_height x_derived x_edited x_same x_low.
        claimed _ _ _ (moved is (then_kept x_edited (d ∷ n ∷ []))) (placed b (x_tokens ++ (d ∷ n ∷ [])) (plain.field (span_of (x_tokens ++ (d ∷ n ∷ []))) x_tree (ident n)) (suc x_height) (g.field x_tokens d n x_tree x_height sd sn x_derived refl)) (rw x_same refl) (low_more _ _ x_low))
    postfix_kept {f} b (g.part us d n v x h sd sn r is) own ls p =
        sub (postfix_kept true r own ls (d, sd, dotted us d n (at is (within b p)))) (λ x_tokens x_tree x_height x_derived x_edited x_same x_low.
        claimed _ _ _ (moved is (then_kept x_edited (d ∷ n ∷ []))) (placed b (x_tokens ++ (d ∷ n ∷ [])) (plain.part (span_of (x_tokens ++ (d ∷ n ∷ []))) x_tree v) (suc x_height) (g.part x_tokens d n v x_tree x_height sd sn x_derived refl)) (rw x_same refl) (low_more _ _ x_low))

    primary_kept : {f : Bool} (b : Bool) {ts : List Tok} {x : Expression} {h : ℕ} → IsPrimary f ts x h → (own : Names) (ls : List Around) → Place b all ts
        → Claim (At b f) ts x h own ls
    primary_kept {f} b (g.number t v k s is) own ls p =
        claim (subst (λ l. KeptBy L (At b f) erase l 1 (A.at_int (span_of l) k) (erase (plain.int (span_of l) v (C.at_int (span_of l) k)))) (sym is) (recast (as_place b) (int f t v k s (at is (within b p)))))
    primary_kept b (g.true_is t s is) own ls p = claimed _ _ _ (moved is (kept (t ∷ []))) (as_place b _ _ _ (g.true_is t s refl)) refl low_one
    primary_kept b (g.false_is t s is) own ls p = claimed _ _ _ (moved is (kept (t ∷ []))) (as_place b _ _ _ (g.false_is t s refl)) refl low_one
    primary_kept {f} b (g.variable t s is) own ls p =
        claim (subst (λ l. KeptBy L (At b f) erase l 1 (A.at_variable own false (span_of l) t.text) (erase (C.at_variable own (span_of l) t.text))) (sym is)
        (variable_kept b f own t s (subst (λ l. Place b all l) is p)))
    primary_kept b (g.call t o c us xs h s so sc d is) own ls p =
        one (arguments_kept d own ls (left (c ∷ []) (tail (tail (at is (within b p)))))) (λ y_tokens y_tree y_height y_derived y_edited y_same y_low.
        claimed _ _ _ (moved is (one_kept t (one_kept o (then_kept y_edited (c ∷ []))))) (as_place b _ _ _ (g.call t o c y_tokens y_tree y_height s so sc y_derived refl)) (rw y_same refl) (low_more _ _ y_low))
    primary_kept b (g.next_input r q n o c sr sq sn so sc is) own ls p =
        claimed _ _ _ (moved is (kept (r ∷ q ∷ n ∷ o ∷ c ∷ []))) (as_place b _ _ _ (g.next_input r q n o c sr sq sn so sc refl)) refl low_one
    primary_kept b (g.variant e q v se sq sv is) own ls p = claimed _ _ _ (moved is (kept (e ∷ q ∷ v ∷ []))) (as_place b _ _ _ (g.variant e q v se sq sv refl)) refl low_one
    primary_kept {f} b {ts = ts} (g.variant_with e q v o c us x xs h se sq sv so sc d is) own ls p =
        claim (variant_case b f ts us e q v o c h (all_edits A own ls (expressions_of (x ∷ xs))) (erase (changed C own ls x)) (erase_all (changed_all C own ls (expressions_of xs))) se sq sv so sc is
        (arguments_kept d own ls (left (c ∷ []) (tail (tail (tail (tail (at is (within b p)))))))))
    primary_kept b (g.structure n o c us fs h sn so sc d is) own ls p =
        one (fields_kept d own ls (left (c ∷ []) (tail (tail (at is (within b p)))))) (λ y_tokens y_tree y_height y_derived y_edited y_same y_low.
        claimed _ _ _ (moved is (one_kept n (one_kept o (then_kept y_edited (c ∷ []))))) (as_place b _ _ _ (g.structure n o c y_tokens y_tree y_height sn so sc y_derived refl)) (rw y_same refl) (low_more _ _ y_low))
    primary_kept b (g.print r e o q m c us x h sr se so sq sm sc d is) own ls p =
        sub (expression_kept d own ls (left (c ∷ []) (tail (tail (tail (tail (tail (at is (within b p))))))))) (λ y_tokens y_tree y_height y_derived y_edited y_same y_low.
        claimed _ _ _ (moved is (one_kept r (one_kept e (one_kept o (one_kept q (one_kept m (then_kept y_edited (c ∷ [])))))))) (as_place b _ _ _ (g.print r e o q m c y_tokens y_tree y_height sr se so sq sm sc y_derived refl)) (rw y_same refl) (low_more _ _ y_low))
    primary_kept b (g.unit o c so sc is) own ls p = claimed _ _ _ (moved is (kept (o ∷ c ∷ []))) (as_place b _ _ _ (g.unit o c so sc refl)) refl low_one
    primary_kept b (g.parentheses o c us x h so sc d is) own ls p =
        sub (expression_kept d own ls (left (c ∷ []) (tail (at is (within b p))))) (λ y_tokens y_tree y_height y_derived y_edited y_same y_low.
        claimed _ _ _ (moved is (one_kept o (then_kept y_edited (c ∷ [])))) (as_place b _ _ _ (g.parentheses o c y_tokens y_tree y_height so sc y_derived refl)) y_same (low_more _ _ y_low))
    primary_kept b (g.tuple o m c us vs x xs h i so sm sc d r is) own ls p =
        let q = tail (at is (within b p)) in
        sub (expression_kept d own ls (left (m ∷ (vs ++ c ∷ [])) q)) (λ y_tokens y_tree y_height y_derived y_edited y_same y_low.
        one (arguments_kept r own ls (left (c ∷ []) (tail (right us q)))) (λ z_tokens z_tree z_height z_derived z_edited z_same z_low.
        claimed _ _ _ (moved is (one_kept o (joined y_edited (one_kept m (then_kept z_edited (c ∷ [])))))) (as_place b _ _ _ (g.tuple o m c y_tokens z_tokens y_tree z_tree y_height z_height so sm sc y_derived z_derived refl)) (rw (y_same, z_same) refl)
        (low_more _ _ (low_both _ _ _ _ y_low z_low))))
    primary_kept b (g.like d) own ls p = reclaim (λ us y k e. as_place b us y k (g.like e)) (like_kept d own ls (within b p))

    arguments_kept : {ts : List Tok} {xs : List Expression} {h : ℕ} → AreArguments ts xs h → (own : Names) (ls : List Around) → Part all ts
        → KeptBy L AreArguments arguments_view ts h (all_edits A own ls (expressions_of xs)) (erase_all (changed_all C own ls (expressions_of xs)))
    arguments_kept g.no_argument own ls p = keep _ _ _ (kept []) g.no_argument refl low_zero
    arguments_kept (g.last_argument d) own ls p =
        sub (expression_kept d own ls p) (λ x_tokens x_tree x_height x_derived x_edited x_same x_low. keep _ _ _ (and_none x_edited) (g.last_argument x_derived) (rw x_same refl) x_low)
    arguments_kept (g.argument_and us vs c x xs m n d s r is) own ls p =
        let q = at is p in
        sub (expression_kept d own ls (left (c ∷ vs) q)) (λ y_tokens y_tree y_height y_derived y_edited y_same y_low.
        one (arguments_kept r own ls (tail (right us q))) (λ z_tokens z_tree z_height z_derived z_edited z_same z_low.
        keep _ _ _ (moved is (joined y_edited (one_kept c z_edited))) (g.argument_and y_tokens z_tokens c y_tree z_tree y_height z_height y_derived s z_derived refl) (rw (y_same, z_same) refl) (low_both _ _ _ _ y_low z_low)))

    field_kept : {ts : List Tok} {x : Ident × Expression} {h : ℕ} → IsField ts x h → (own : Names) (ls : List Around) → Part all ts
        → KeptBy L IsField field_view ts h (edits A own ls (is_short x.0 x.1) x.1) (erase_ident x.0, erase (changed C own ls x.1))
    field_kept {ts = ts} (g.long_field n c us x h sn sc d is) own ls p =
        let q = at is p in
        sub (expression_kept d own ls (tail (tail q))) (λ y_tokens y_tree y_height y_derived y_edited y_same y_low.
        subst (λ b. KeptBy L IsField field_view ts h (edits A own ls b x) (erase_ident (ident n), erase (changed C own ls x))) (sym (long n c us x h d q))
        (keep _ _ _ (moved is (one_kept n (one_kept c y_edited))) (g.long_field n c y_tokens y_tree y_height sn sc y_derived refl) (ap (λ (z : Expression). (erase_ident (ident n), z)) y_same) y_low))
    field_kept (g.short_field n sn is) own ls p =
        subst (λ l. KeptBy L IsField field_view l 1 (A.at_variable own (n.span.start == (span_of l).start) (span_of l) n.text) (erase_ident (ident n), erase (C.at_variable own (span_of l) n.text))) (sym is)
        (subst (λ b. KeptBy L IsField field_view (n ∷ []) 1 (A.at_variable own b n.span n.text) (erase_ident (ident n), erase (C.at_variable own n.span n.text))) (sym (eq_self n.span.start)) (short own n sn (at is p)))

    fields_kept : {ts : List Tok} {xs : List (Ident × Expression)} {h : ℕ} → AreFields ts xs h → (own : Names) (ls : List Around) → Part all ts
        → KeptBy L AreFields fields_view ts h (field_edits A own ls (field_expressions_of xs)) (erase_fields (changed_fields C own ls (field_expressions_of xs)))
    fields_kept g.no_field own ls p = keep _ _ _ (kept []) g.no_field refl low_zero
    fields_kept (g.last_field d) own ls p =
        one (field_kept d own ls p) (λ x_tokens x_tree x_height x_derived x_edited x_same x_low.
        keep _ _ _ (and_none x_edited) (g.last_field x_derived) (ap (λ (z : Ident × Expression). plain.field_and z.0 z.1 plain.no_field) x_same) x_low)
    fields_kept (g.field_and us vs c x xs m n d s r is) own ls p =
        let q = at is p in
        one (field_kept d own ls (left (c ∷ vs) q)) (λ y_tokens y_tree y_height y_derived y_edited y_same y_low.
        one (fields_kept r own ls (tail (right us q))) (λ z_tokens z_tree z_height z_derived z_edited z_same z_low.
        keep _ _ _ (moved is (joined y_edited (one_kept c z_edited))) (g.field_and y_tokens z_tokens c y_tree z_tree y_height z_height y_derived s z_derived refl)
        (ap (λ (w : Ident × Expression). plain.field_and w.0 w.1 (fields_view z_tree)) y_same ∙ ap (λ (l : plain.FieldExpressions). plain.field_and (erase_ident x.0) (erase (changed C own ls x.1)) l) z_same) (low_both _ _ _ _ y_low z_low)))

    pub like_kept : {ts : List Tok} {x : Expression} {h : ℕ} → IsLike ts x h → (own : Names) (ls : List Around) → Part all ts
        → Claim IsLike ts x h own ls
    like_kept (g.block c h d) own ls p =
        one (block_kept d own ls p) (λ x_tokens x_tree x_height x_derived x_edited x_same x_low. claimed _ _ _ x_edited (g.block x_tree x_height x_derived) (rw x_same refl) (low_more _ _ x_low))
    like_kept (g.conditional d) own ls p = reclaim (λ us y k. g.conditional) (if_kept d own ls p)
    like_kept {ts = ts} (g.match t o c us vs x a more m n st so sc d r is) own ls p =
        match_claim t o c us vs x a more m n st so sc is own ls (operand_kept d own ls (left (o ∷ (vs ++ c ∷ [])) (tail (at is p)))) (arms_kept r own ls (left (c ∷ []) (tail (right us (tail (at is p))))))
    like_kept (g.loop ks us t l c h sl st d is) own ls p =
        one (block_kept d own (a_loop l 0 ∷ ls) (tail (right ks (at is p)))) (λ x_tokens x_tree x_height x_derived x_edited x_same x_low.
        claimed _ _ _ (moved is (joined (kept ks) (one_kept t x_edited))) (g.loop ks x_tokens t l x_tree x_height sl st x_derived refl) (rw x_same refl) (low_more _ _ x_low))
    like_kept (g.while ks us vs t l _ c m n sl st (g.test d) r is) own ls p =
        let q = tail (right ks (at is p)) in
        sub (operand_kept d own (a_test ∷ a_loop l 0 ∷ ls) (left vs q)) (λ x_tokens x_tree x_height x_derived x_edited x_same x_low.
        one (block_kept r own (a_loop l 0 ∷ ls) (right us q)) (λ y_tokens y_tree y_height y_derived y_edited y_same y_low.
        claimed _ _ _ (moved is (joined (kept ks) (one_kept t (joined x_edited y_edited)))) (g.while ks x_tokens y_tokens t l (g.condition x_tree) y_tree x_height y_height sl st (g.test x_derived) y_derived refl) (rw (x_same, y_same) refl)
        (low_more _ _ (low_both _ _ _ _ x_low y_low))))
    like_kept (g.while ks us vs t l _ c m n sl st (g.test_pattern k q ps ws w e i j sk sq sp d it) r is) own ls p =
        let z = tail (right ks (at is p)) in
        sub (operand_kept d own (a_test ∷ a_loop l 0 ∷ ls) (tail (right ps (tail (at it (left vs z)))))) (λ x_tokens x_tree x_height x_derived x_edited x_same x_low.
        one (block_kept r (bound w ++ own) (a_loop l 0 ∷ ls) (right us z)) (λ y_tokens y_tree y_height y_derived y_edited y_same y_low.
        claimed _ _ _ (moved is (joined (kept ks) (one_kept t (joined (moved it (one_kept k (joined (kept ps) (one_kept q x_edited)))) y_edited))))
        (g.while ks _ y_tokens t l (g.fitting w x_tree) y_tree _ y_height sl st (g.test_pattern k q ps x_tokens w x_tree i x_height sk sq sp x_derived refl) y_derived refl) (rw (x_same, y_same) refl)
        (low_more _ _ (low_both _ _ _ _ (low_both _ _ _ _ (low_same i) x_low) y_low))))

    if_kept : {ts : List Tok} {x : Expression} {h : ℕ} → IsIf ts x h → (own : Names) (ls : List Around) → Part all ts
        → Claim IsIf ts x h own ls
    if_kept (g.if_alone t us vs _ c m n st (g.test d) r is) own ls p =
        let q = tail (at is p) in
        sub (operand_kept d own ls (left vs q)) (λ x_tokens x_tree x_height x_derived x_edited x_same x_low.
        one (block_kept r own ls (right us q)) (λ y_tokens y_tree y_height y_derived y_edited y_same y_low.
        claimed _ _ _ (moved is (one_kept t (joined x_edited (and_none y_edited)))) (g.if_alone t x_tokens y_tokens (g.condition x_tree) y_tree x_height y_height st (g.test x_derived) y_derived refl) (rw (x_same, y_same) refl)
        (low_more _ _ (low_both _ _ _ _ x_low y_low))))
    if_kept (g.if_alone t us vs _ c m n st (g.test_pattern k q ps ws w e i j sk sq sp d it) r is) own ls p =
        let z = tail (at is p) in
        sub (operand_kept d own ls (tail (right ps (tail (at it (left vs z)))))) (λ x_tokens x_tree x_height x_derived x_edited x_same x_low.
        one (block_kept r (bound w ++ own) ls (right us z)) (λ y_tokens y_tree y_height y_derived y_edited y_same y_low.
        claimed _ _ _ (moved is (one_kept t (joined (moved it (one_kept k (joined (kept ps) (one_kept q x_edited)))) (and_none y_edited))))
        (g.if_alone t _ y_tokens (g.fitting w x_tree) y_tree _ y_height st (g.test_pattern k q ps x_tokens w x_tree i x_height sk sq sp x_derived refl) y_derived refl) (rw (x_same, y_same) refl)
        (low_more _ _ (low_both _ _ _ _ (low_both _ _ _ _ (low_same i) x_low) y_low))))
    if_kept (g.if_else t u us vs rs _ y c m n k st su (g.test d) r s is) own ls p =
        let q = tail (at is p) in
        sub (operand_kept d own ls (left (vs ++ (u ∷ rs)) q)) (λ x_tokens x_tree x_height x_derived x_edited x_same x_low.
        one (block_kept r own ls (left (u ∷ rs) (right us q))) (λ v_tokens v_tree v_height v_derived v_edited v_same v_low.
        sub (else_kept s own ls (tail (right vs (right us q)))) (λ o_tokens o_tree o_height o_derived o_edited o_same o_low.
        claimed _ _ _ (moved is (one_kept t (joined x_edited (joined v_edited (one_kept u o_edited)))))
        (g.if_else t u x_tokens v_tokens o_tokens (g.condition x_tree) o_tree v_tree x_height v_height o_height st su (g.test x_derived) v_derived o_derived refl) (rw (x_same, v_same, o_same) refl)
        (low_more _ _ (low_both _ _ _ _ x_low (low_both _ _ _ _ v_low o_low))))))
    if_kept (g.if_else t u us vs rs _ y c m n k st su (g.test_pattern l q ps ws w e i j sl sq sp d it) r s is) own ls p =
        let z = tail (at is p) in
        sub (operand_kept d own ls (tail (right ps (tail (at it (left (vs ++ (u ∷ rs)) z)))))) (λ x_tokens x_tree x_height x_derived x_edited x_same x_low.
        one (block_kept r (bound w ++ own) ls (left (u ∷ rs) (right us z))) (λ v_tokens v_tree v_height v_derived v_edited v_same v_low.
        sub (else_kept s own ls (tail (right vs (right us z)))) (λ o_tokens o_tree o_height o_derived o_edited o_same o_low.
        claimed _ _ _ (moved is (one_kept t (joined (moved it (one_kept l (joined (kept ps) (one_kept q x_edited)))) (joined v_edited (one_kept u o_edited)))))
        (g.if_else t u _ v_tokens o_tokens (g.fitting w x_tree) o_tree v_tree _ v_height o_height st su (g.test_pattern l q ps x_tokens w x_tree i x_height sl sq sp x_derived refl) v_derived o_derived refl) (rw (x_same, v_same, o_same) refl)
        (low_more _ _ (low_both _ _ _ _ (low_both _ _ _ _ (low_same i) x_low) (low_both _ _ _ _ v_low o_low))))))

    else_kept : {ts : List Tok} {x : Expression} {h : ℕ} → IsElse ts x h → (own : Names) (ls : List Around) → Part all ts
        → Claim IsElse ts x h own ls
    else_kept (g.else_block c h d) own ls p =
        one (block_kept d own ls p) (λ x_tokens x_tree x_height x_derived x_edited x_same x_low. claimed _ _ _ x_edited (g.else_block x_tree x_height x_derived) (rw x_same refl) (low_more _ _ x_low))
    else_kept (g.else_if d) own ls p = reclaim (λ us y k. g.else_if) (if_kept d own ls p)

    arms_kept : {ts : List Tok} {xs : List (PatternTree × Expression)} {h : ℕ} → AreArms ts xs h → (own : Names) (ls : List Around) → Part all ts
        → KeptBy L AreArms arms_view ts h (arm_edits A own ls (arms_of xs)) (erase_arms (changed_arms C own ls (arms_of xs)))
    arms_kept g.no_arm own ls p = keep _ _ _ (kept []) g.no_arm refl low_zero
    arms_kept (g.like_arm a ps us vs w x more m n k sp sa d r is) own ls p =
        let q = tail (right ps (at is p)) in
        sub (like_kept d (bound w ++ own) ls (left vs q)) (λ y_tokens y_tree y_height y_derived y_edited y_same y_low.
        one (arms_kept r own ls (right us q)) (λ z_tokens z_tree z_height z_derived z_edited z_same z_low.
        keep _ _ _ (moved is (joined (kept ps) (one_kept a (joined y_edited z_edited)))) (g.like_arm a ps y_tokens z_tokens w y_tree z_tree m y_height z_height sp sa y_derived z_derived refl) (rw (y_same, z_same) refl)
        (low_both _ _ _ _ (low_both _ _ _ _ (low_same m) y_low) z_low)))
    arms_kept (g.like_arm_and a c ps us vs w x more m n k sp sa d sc r is) own ls p =
        let q = tail (right ps (at is p)) in
        sub (like_kept d (bound w ++ own) ls (left (c ∷ vs) q)) (λ y_tokens y_tree y_height y_derived y_edited y_same y_low.
        one (arms_kept r own ls (tail (right us q))) (λ z_tokens z_tree z_height z_derived z_edited z_same z_low.
        keep _ _ _ (moved is (joined (kept ps) (one_kept a (joined y_edited (one_kept c z_edited))))) (g.like_arm_and a c ps y_tokens z_tokens w y_tree z_tree m y_height z_height sp sa y_derived sc z_derived refl) (rw (y_same, z_same) refl)
        (low_both _ _ _ _ (low_both _ _ _ _ (low_same m) y_low) z_low)))
    arms_kept (g.arm_and a c ps us vs w x more m n k sp sa d nb sc r is) own ls p =
        let q = tail (right ps (at is p)) in
        sub (expression_kept d (bound w ++ own) ls (left (c ∷ vs) q)) (λ y_tokens y_tree y_height y_derived y_edited y_same y_low.
        one (arms_kept r own ls (tail (right us q))) (λ z_tokens z_tree z_height z_derived z_edited z_same z_low.
        keep _ _ _ (moved is (joined (kept ps) (one_kept a (joined y_edited (one_kept c z_edited))))) (g.arm_and a c ps y_tokens z_tokens w y_tree z_tree m y_height z_height sp sa y_derived (still y_edited nb) sc z_derived refl) (rw (y_same, z_same) refl)
        (low_both _ _ _ _ (low_both _ _ _ _ (low_same m) y_low) z_low)))
    arms_kept (g.last_arm a ps us w x m n sp sa d nb is) own ls p =
        let q = tail (right ps (at is p)) in
        sub (expression_kept d (bound w ++ own) ls q) (λ y_tokens y_tree y_height y_derived y_edited y_same y_low.
        keep _ _ _ (moved is (joined (kept ps) (one_kept a (and_none y_edited)))) (g.last_arm a ps y_tokens w y_tree m y_height sp sa y_derived (still y_edited nb) refl) (rw y_same refl)
        (low_both _ _ _ _ (low_same m) y_low))

    pub block_kept : {ts : List Tok} {x : Body} {h : ℕ} → IsBlock ts x h → (own : Names) (ls : List Around) → Part all ts
        → KeptBy L IsBlock erase_body ts h (body_edits A own ls x) (erase_body (changed_body C own ls x))
    block_kept {ts = ts} (g.braces o c us ss y h so sc d is) own ls p =
        one (statements_kept d own ls (left (c ∷ []) (tail (at is p)))) (λ x_tokens x_tree x_height x_derived x_edited x_same x_low.
        keep _ _ _ (moved is (one_kept o (then_kept x_edited (c ∷ [])))) (g.braces o c x_tokens x_tree.0 x_tree.1 x_height so sc x_derived refl) (ap (λ (z : plain.Statements × OptionalExpression). plain.body nowhere z.0 z.1) x_same
        ∙ sym (ap erase_body (blocks_stay (plain.body (span_of ts) (statements_of ss) y) (plain.body (span_of ts) (changed_statements C own ls (statements_of ss)) (changed_optional C (behind_all own (statements_of ss)) ls y))))) (low_more _ _ x_low))

    pub statement_kept : {ts : List Tok} {x : Statement} {h : ℕ} → IsStatement ts x h → (own : Names) (ls : List Around) → Part all ts
        → KeptBy L IsStatement erase_statement ts h (statement_edits A own ls x) (erase_statement (changed_statement C own ls x))
    statement_kept (g.let_with t q z ps ys us w y x m n k st sq sz sp sy d is) own ls p =
        let r = tail (at is p) in
        let a = typed ps ys w y m n sp sy q (ap (λ w. same_bytes w (codes ")")) sq.1) (λ x. ap (λ w. goes_on (w ++ x)) sq.1) (typed_part ps ys q (us ++ z ∷ []) r) in
        sub (expression_kept d own ls (left (z ∷ []) (tail (right ys (right ps r))))) (λ b_tokens b_tree b_height b_derived b_edited b_same b_low.
        keep _ _ _ (moved is (one_kept t (regroup_both ps ys a.tokens q (us ++ z ∷ []) (b_tokens ++ z ∷ []) (joined a.edited (then_kept b_edited (z ∷ []))))))
        (g.let_with t q z ps a.tokens b_tokens w a.type b_tree m a.height b_height st sq sz sp a.derived b_derived refl) (rw (a.same, b_same) refl)
        (low_both _ _ _ _ (low_both _ _ _ _ (low_same m) a.low) b_low))
    statement_kept (g.let_without t n z ms ys m y h st sn sz sm sy is) own ls p =
        let a = typed (ms ++ n ∷ []) ys (plain.bind (span_of (ms ++ n ∷ [])) (ident n) m) y 1 h (bound_pattern ms n m sm sn) sy z (ap (λ w. same_bytes w (codes ")")) sz.1) (λ x. ap (λ w. goes_on (w ++ x)) sz.1) (tail (at is p)) in
        keep _ _ _ (moved is (one_kept t (and_none a.edited)))
        (g.let_without t n z ms a.tokens m a.type a.height st sn sz sm a.derived refl) (rw a.same refl)
        (low_both _ _ _ _ (low_same 1) a.low)
    statement_kept (g.done z us x h sz d nb is) own ls p =
        sub (expression_kept d own ls (left (z ∷ []) (at is p))) (λ y_tokens y_tree y_height y_derived y_edited y_same y_low.
        keep _ _ _ (moved is (then_kept y_edited (z ∷ []))) (g.done z y_tokens y_tree y_height sz y_derived (still y_edited nb) refl) (rw y_same refl) y_low)
    statement_kept (g.done_like z us x h sz d is) own ls p =
        sub (like_kept d own ls (left (z ∷ []) (at is p))) (λ y_tokens y_tree y_height y_derived y_edited y_same y_low.
        keep _ _ _ (moved is (then_kept y_edited (z ∷ []))) (g.done_like z y_tokens y_tree y_height sz y_derived refl) (rw y_same refl) y_low)

    pub statements_kept : {ts : List Tok} {ss : List Statement} {y : OptionalExpression} {h : ℕ} → AreStatements ts ss y h → (own : Names) (ls : List Around) → Part all ts
        → KeptBy L AreAll erased_within ts h (all_statement_edits A own ls (statements_of ss) ++ optional_edits A (behind_all own (statements_of ss)) ls y)
        (erase_statements (changed_statements C own ls (statements_of ss)), erase_optional (changed_optional C (behind_all own (statements_of ss)) ls y))
    statements_kept g.end own ls p = keep _ ([], plain.absent) _ (kept []) g.end refl low_zero
    statements_kept (g.tail d nb) own ls p =
        sub (expression_kept d own ls p) (λ x_tokens x_tree x_height x_derived x_edited x_same x_low. keep _ ([], plain.present x_tree) _ x_edited (g.tail x_derived (still x_edited nb)) (ap (λ (z : Expression). (plain.no_statement, plain.present z)) x_same) x_low)
    statements_kept (g.tail_like d) own ls p =
        sub (like_kept d own ls p) (λ x_tokens x_tree x_height x_derived x_edited x_same x_low. keep _ ([], plain.present x_tree) _ x_edited (g.tail_like x_derived) (ap (λ (z : Expression). (plain.no_statement, plain.present z)) x_same) x_low)
    statements_kept (g.statement_and us vs a ss y m n d r is) own ls p =
        let q = at is p in
        one (statement_kept d own ls (left vs q)) (λ x_tokens x_tree x_height x_derived x_edited x_same x_low.
        one (statements_kept r (bound_by a ++ own) ls (right us q)) (λ z_tokens z_tree z_height z_derived z_edited z_same z_low.
        keep _ (x_tree ∷ z_tree.0, z_tree.1) _ (moved is (regrouped (statement_edits A own ls a) (all_statement_edits A (bound_by a ++ own) ls (statements_of ss)) (optional_edits A (behind_all (bound_by a ++ own) (statements_of ss)) ls y) (joined x_edited z_edited)))
        (g.statement_and x_tokens z_tokens x_tree z_tree.0 z_tree.1 x_height z_height x_derived z_derived refl) (joined_view x_tree _ z_tree _ x_same z_same) (low_both _ _ _ _ x_low z_low)))
    statements_kept (g.like_and us vs x ss y m n d r ne is) own ls p =
        let q = at is p in
        sub (like_kept d own ls (left vs q)) (λ w_tokens w_tree w_height w_derived w_edited w_same w_low.
        one (statements_kept r own ls (right us q)) (λ z_tokens z_tree z_height z_derived z_edited z_same z_low.
        keep _ (plain.expression_statement (span_of w_tokens) w_tree false ∷ z_tree.0, z_tree.1) _ (moved is (regrouped (edits A own ls false x) (all_statement_edits A own ls (statements_of ss)) (optional_edits A (behind_all own (statements_of ss)) ls y) (joined w_edited z_edited)))
        (g.like_and w_tokens z_tokens w_tree z_tree.0 z_tree.1 w_height z_height w_derived z_derived (some_left z_edited ne) refl)
        (joined_view (plain.expression_statement (span_of w_tokens) w_tree false) _ z_tree _ (ap (λ (e : Expression). plain.expression_statement nowhere e false) w_same) z_same) (low_both _ _ _ _ w_low z_low)))
