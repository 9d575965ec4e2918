-- The edits of a run suit what becomes of it.
use Rattle.std.proofs.Common.{◌≡◌, ℕ, ◌≤◌, true, false, List, [], ◌∷◌, ◌++◌, Option, Some, None, codes, refl, sym, ap, subst, arith, append-nil}
use Rattle.std.specs.Prelude.{◌≢◌, option_map}
use Rattle.rx_core.specs.Bytes.{same_bytes}
use Rattle.rx_tree.specs.declared.tree.Ident.{Ident}
use Rattle.rx_tree.specs.Plain as plain
use Rattle.rx_tree.specs.Plain.{TypeTree, PatternTree, Expression, OptionalExpression, Statement}
use Rattle.rx_tree.specs.PlainOf.{statements_of}
use Rattle.rx_tree.specs.Spans.{pattern_span}
use Rattle.rx_tree.specs.Erase.{erase_type, erase_statements, erase_optional}
use Rattle.rx_lex.specs.Words.{is_identifier, goes_on}
use Rattle.rx_lex.specs.Tok.{Tok}
use Rattle.rx_parse_grammar.specs.grammar.Words.{span_of, ident}
use Rattle.rx_parse_grammar.specs.grammar.Patterns.{IsPattern}
use Rattle.rx_parse_grammar.specs.grammar.Expressions as g
use Rattle.rx_parse_grammar.specs.grammar.Expressions.{IsExpression, IsAnnotation, AreStatements}
use Rattle.rx_print_spelling.specs.Types.{written_type}
use Rattle.rx_print_spelling.specs.Formed.{Formed, FormedType}
use Rattle.rx_print_spelling.specs.Levels.{type_levels}
use Rattle.rx_print_spelling.proofs.TypesRead.{type_reads}
use Rattle.rx_resolve_names.specs.Meant.{Around}
use Rattle.rx_hoist_extraction.specs.Names.{behind_all}
use Rattle.rx_hoist_extraction.specs.Changed.{changed_statements, changed_optional}
use Rattle.rx_splice_laws.specs.Edits.{put}
use Rattle.rx_splice_laws.specs.EditsOf.{is_short, all_statement_edits, optional_edits}
use Rattle.rx_splice_laws.specs.Places.{with_parentheses}
use Rattle.rx_splice_laws.specs.Moving.{Moving, Jump, run_edits, run_changes, jump_of, the_return, type_edits}
use Rattle.rx_splice_laws.proofs.Beside.{runs_class, ends_class}
use Rattle.rx_splice_laws.proofs.InPlaces.{EndsBare, type_next, enum_spells}
use Rattle.rx_splice_laws.proofs.Edited as calculus
use Rattle.rx_splice_laws.proofs.Edited.{Edited, made}
use Rattle.rx_splice_laws.specs.SplicedRun.{Part}
use Rattle.rx_splice_laws.proofs.Kept.{Kept, Low, widens, Suits, Typed}
use Rattle.rx_splice_laws.proofs.Leaves.{Rising, variable_fits, before_dot_fits, short_fits, jump_fits, leaving_fits, number_fits, return_fits}
use Rattle.rx_parse_laws.specs.Parts.{erased_within}
use Rattle.rx_splice_laws.proofs.Changing.{statements_kept, AreAll}

-- what is made of the run is spelled with words, and its types are not too deep
pub record Spelt (M : Moving) : Type 0 where
  pub breaks : (ls : List Around) (l : Option Ident) (e : Jump) → M.break_leaves ls l ≡ Some e → Formed (jump_of M e)
  pub continues : (ls : List Around) (l : Option Ident) (e : Jump) → M.continue_leaves ls l ≡ Some e → Formed (jump_of M e)
  pub returns : Formed (jump_of M the_return)
  pub first_out : is_identifier M.out_0 ≡ true
  pub types : (p : PatternTree) (y : TypeTree) → M.typ p ≡ Some y → FormedType y × (type_levels y ≤ 130) × EndsBare y

-- where things stand in the text: to be shown of each list of tokens in order
pub record Settled (all : List Tok) : Type 0 where
  pub rising : Rising all
  -- a pattern ends behind the parentheses round it
  pub closed : (ps : List Tok) (p : PatternTree) (m : ℕ) (z : Tok) → IsPattern ps p m → same_bytes z.text (codes ")") ≡ false → Part all (ps ++ z ∷ [])
      → (ps ≢ []) × (with_parentheses all (pattern_span p).end ≡ (span_of ps).end)
  -- a field's value stands behind its name
  pub long : (n c : Tok) (us : List Tok) (x : Expression) (h : ℕ) → IsExpression us x h → Part all (n ∷ c ∷ us) → is_short (ident n) x ≡ false

module _ (M : Moving) (all : List Tok) (F : Spelt M) (T : Settled all) where
  unwritten : (ps : List Tok) (p : PatternTree) (m : ℕ) (z : Tok) → IsPattern ps p m → same_bytes z.text (codes ")") ≡ false → ((r : List ℕ) → goes_on (z.text ++ r) ≡ false) → Part all (ps ++ z ∷ [])
      → (o : Option TypeTree) → ((y : TypeTree) → o ≡ Some y → FormedType y × (type_levels y ≤ 130) × EndsBare y)
      → (tokens : List Tok) × Edited (type_edits all p o) (ps ++ z ∷ []) (ps ++ (tokens ++ z ∷ [])) × (y : Option TypeTree) × (k : ℕ) × IsAnnotation tokens y k × (option_map erase_type y ≡ option_map erase_type o) × Low 0 k
  unwritten ps p m z sp e w q None f = ([], calculus.kept (ps ++ z ∷ []), None, 0, g.no_type, refl, omega arith)
  unwritten ps p m z sp e w q (Some y) f =
      let c = T.closed ps p m z sp e q in
      let r = (type_reads y (f y refl).0).alone 2 in (
        made (written_type y),
        subst (λ a. Edited (put a (written_type y) ∷ []) (ps ++ z ∷ []) (ps ++ (made (written_type y) ++ z ∷ []))) (sym c.1) (calculus.next ps z (written_type y) c.0 (type_next ps p m z y sp w (f y refl).2)),
        Some r.tree,
        type_levels y,
        g.with_type _ _ r.tree (type_levels y) (refl, refl) r.derived refl,
        ap (λ (x : TypeTree). Some x) r.same,
        (let l = (f y refl).1 in omega (arith, l)),
      )

  pub typed_fits : (ps ys : List Tok) (p : PatternTree) (y : Option TypeTree) (m n : ℕ) → IsPattern ps p m → IsAnnotation ys y n → (z : Tok) → same_bytes z.text (codes ")") ≡ false
      → ((r : List ℕ) → goes_on (z.text ++ r) ≡ false) → Part all (ps ++ (ys ++ z ∷ [])) → Typed (run_changes M) ((run_edits M all).at_let p y) ps ys z p y n
  typed_fits ps ys p y m n sp g.no_type z e w q =
      let r = unwritten ps p m z sp e w q (M.typ p) (F.types p) in
      record { tokens = r.0; edited = r.1; type = r.2; height = r.3; derived = r.4; same = r.5; low = r.6 }
  typed_fits ps ys p y m n sp (g.with_type {ts = ts} c us t h sc d is) z e w q =
      record { tokens = ts; edited = calculus.kept (ps ++ (ts ++ z ∷ [])); type = Some t; height = h; derived = g.with_type c us t h sc d is; same = refl; low = omega arith }

  pub run_suits : Suits (run_edits M all) (run_changes M) all
  run_suits = record {
    int = λ f t v k n p. number_fits M all T.rising f t v k n p;
    variable = λ f own t n p. variable_fits M all T.rising f own t n;
    before_dot = λ f own t d n m p. before_dot_fits M all T.rising f own t d n m p;
    short = λ own t n p. short_fits M all T.rising own t n;
    long = T.long;
    break = λ ls ts l n b e d. leaving_fits M all T.rising ts (plain.break (span_of ts) l) (M.break_leaves ls l) n b e (F.breaks ls l) d;
    continue = λ ls ts l n b e d. leaving_fits M all T.rising ts (plain.continue (span_of ts) l) (M.continue_leaves ls l) n b e (F.continues ls l) d;
    return = λ t s. jump_fits M all T.rising (t ∷ []) the_return (λ e. absurd (cc)) (ap runs_class s.0) (ap ends_class s.0) F.returns;
    return_with = λ t us h es x s n p r. return_fits M all T.rising (enum_spells M the_return F.returns) F.first_out t us h es x s n p r;
    blocks_stay = λ b c. refl;
    typed = typed_fits;
  }

  -- the statements of a run with their edits are derived as what becomes of them
  pub run_kept : (ts : List Tok) (ss : List Statement) (y : OptionalExpression) (h : ℕ) → AreStatements ts ss y h → (ls : List Around) → Part all ts
      → Kept AreAll erased_within ts h
      (all_statement_edits (run_edits M all) [] ls (statements_of ss) ++ optional_edits (run_edits M all) (behind_all [] (statements_of ss)) ls y)
      (erase_statements (changed_statements (run_changes M) [] ls (statements_of ss)), erase_optional (changed_optional (run_changes M) (behind_all [] (statements_of ss)) ls y))
  run_kept ts ss y h d ls p = statements_kept Low widens (run_edits M all) (run_changes M) all run_suits d [] ls p
