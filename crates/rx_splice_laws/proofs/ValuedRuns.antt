-- What stands round the tail of a run with a value reads: the variant of the enum of exits, and the `let` of the first of several values.
use Rattle.std.proofs.Common.{◌≡◌, ℕ, ◌≤◌, false, List, [], ◌∷◌, ◌++◌, codes, refl, sym, subst}
use Rattle.std.specs.Prelude.{◌≢◌}
use Rattle.rx_core.specs.declared.types.Span.{Span}
use Rattle.rx_tree.specs.Plain as plain
use Rattle.rx_tree.specs.Plain.{TypeTree, Expression, Statement, ProgramTree}
use Rattle.rx_tree.specs.PlainOf.{statements_of}
use Rattle.rx_tree.specs.Lists.{Every}
use Rattle.rx_lex.specs.Words as words
use Rattle.rx_lex.specs.Tok.{Tok}
use Rattle.rx_lex.specs.Tokens.{Lexes}
use Rattle.rx_parse_grammar.specs.grammar.Expressions.{AreStatements}
use Rattle.rx_typed.specs.Types.{Typ, levels}
use Rattle.rx_print_spelling.specs.Pieces.{mark}
use Rattle.rx_print_spelling.specs.Types.{type_pieces}
use Rattle.rx_print_spelling.specs.Formed.{Spells}
use Rattle.rx_print_spelling.proofs.Standing.{Apart, nothing, word_then, whole, identifier_then, keyword_then, space_then, appended, close}
use Rattle.rx_resolve_names.specs.Meant.{Around}
use Rattle.rx_hoist_extraction.specs.Names.{Names}
use Rattle.rx_hoist_extraction.specs.Plan.{to_next, Variable, Plan, outs_of, names_of, enum_name, exit_name}
use Rattle.rx_hoist_extraction.specs.Fresh.{fresh_variable}
use Rattle.rx_hoist_extraction.specs.WrittenTypes.{elided}
use Rattle.rx_hoist_extraction.specs.FormedPlan.{VariableSpells, TypeSpells, FormedPlan}
use Rattle.rx_hoist_extraction.proofs.MadeNames.{exit_is_identifier, exit_name_spells, variable_is_identifier}
use Rattle.rx_hoist_extraction.proofs.FormedSignatures.{elided_formed, outs_spell}
use Rattle.rx_hoist_extraction.proofs.WrittenLevels.{elided_levels}
use Rattle.rx_splice_laws.specs.MovedBy.{moved_by, moved_statements, PinsLow}
use Rattle.rx_splice_laws.specs.RunEnd.{in_variant, in_tuple, more_outs}
use Rattle.rx_splice_laws.specs.SplicedRun.{Part}
use Rattle.rx_splice_laws.specs.RunValue.{edits_of_value, moved_value, in_variant_parts, in_let_parts, ReadEndedRun}
use Rattle.rx_splice_laws.proofs.AsRead.{onto, stand_reads}
use Rattle.rx_splice_laws.proofs.Beside.{Closing, starred, stands_before}
use Rattle.rx_splice_laws.proofs.InPlaces.{EndsBare}
use Rattle.rx_splice_laws.proofs.ElidedBare.{elided_bare}
use Rattle.rx_splice_laws.proofs.ValueRead.{variant_opening, variant_closing, let_opening}
use Rattle.rx_splice_laws.proofs.RunValue.{Round, ended_read, variant_finish, let_finish}

-- ---- outs

outs_apart : (xs : Names) (r : List ℕ) → Every Spells xs → Apart (more_outs xs ++ mark (codes ")") ∷ []) r
outs_apart [] r h = close refl refl
outs_apart (x ∷ []) r h = whole refl refl (space_then (identifier_then h.0 refl (close refl refl)))
outs_apart (x ∷ y ∷ xs) r h = whole refl refl (space_then (identifier_then h.0 refl (outs_apart (y ∷ xs) r h.1)))

pub names_spell : (P : ProgramTree) (vs : List Variable) → Every (VariableSpells P) vs → Every Spells (names_of vs)
names_spell P [] h = tt
names_spell P (v ∷ vs) h = (h.0.0, names_spell P vs h.1)

outs_closing : (xs : Names) → Every Spells xs → Closing (variant_closing xs)
outs_closing [] h = record {
  reads = λ r. let a : Apart (variant_closing []) r = outs_apart [] r h in stand_reads (variant_closing []) r a.stand;
  closes = λ r w. stands_before 41 r refl refl w;
}
outs_closing (x ∷ xs) h = record {
  reads = λ r. let a : Apart (variant_closing (x ∷ xs)) r = outs_apart (x ∷ xs) r h in stand_reads (variant_closing (x ∷ xs)) r a.stand;
  closes = λ r w. stands_before 44 (32 ∷ (x ++ onto (variant_closing xs) r)) refl refl w;
}

outs_plain : (xs : Names) → starred (variant_closing xs) ≡ false
outs_plain [] = refl
outs_plain (x ∷ xs) = refl

opening_apart : (enum v : List ℕ) (r : List ℕ) → Spells enum → Spells v → Apart (variant_opening enum v) r
opening_apart enum v r h k = identifier_then h refl (whole refl refl (identifier_then k refl (close refl refl)))

let_apart : (x : List ℕ) (y : TypeTree) (r : List ℕ) → Spells x → EndsBare y → Apart (let_opening x y) r
let_apart x y r h b =
    keyword_then refl refl (space_then (identifier_then h refl (word_then (words.mark refl) refl (space_then
    (appended (type_pieces false y) (b (32 ∷ (61 ∷ (32 ∷ r))) refl) (space_then (word_then (words.mark refl) refl (space_then (nothing r)))))))))

semicolon_closes : Closing (mark (codes ";") ∷ [])
semicolon_closes = record {
  reads = λ r. let a : Apart (mark (codes ";") ∷ []) r = close refl refl in stand_reads (mark (codes ";") ∷ []) r a.stand;
  closes = λ r w. stands_before 59 r refl refl w;
}

module _ (P : ProgramTree) (pl : Plan) (r : Span) (F : FormedPlan P pl) (L : PinsLow pl.pins) where
  variant_round : Round (in_variant pl)
  variant_round = record {
    before_reads = λ s. let a : Apart (variant_opening (enum_name pl) (exit_name to_next)) s = opening_apart (enum_name pl) (exit_name to_next) s (exit_is_identifier pl F.name) (exit_name_spells to_next) in
        stand_reads (variant_opening (enum_name pl) (exit_name to_next)) s a.stand;
    closes = outs_closing (names_of (outs_of to_next pl.exits)) (names_spell P (outs_of to_next pl.exits) (outs_spell P to_next pl.exits F.exits));
    before_plain = refl;
    behind_plain = outs_plain (names_of (outs_of to_next pl.exits));
  }

  pub variant_runs : (text : List ℕ) (all ts : List Tok) (ls : List Around) (ss : List Statement) (x : Expression) (h : ℕ) → Lexes text all → Part all ts → ts ≢ [] → AreStatements ts ss (plain.present x) h → (at : ℕ)
      → ReadEndedRun text ts (edits_of_value (moved_by P pl r) all ts ls ss x (in_variant pl)) (in_variant_parts P pl r ls ss x) h at
  variant_runs text all ts ls ss x h d p n i at =
      ended_read P pl r F L (in_variant pl) variant_round text all ts ls ss x h (in_variant_parts P pl r ls ss x) d p n i (variant_finish P pl r (moved_statements P pl r ls (statements_of ss)) (moved_value P pl r ls (statements_of ss) x) h) at

  -- several values: the first has a `let`
  let_round : (t : Typ) (y : List ℕ) (ys : Names) → TypeSpells P t → Round (in_tuple P pl r t (y ∷ ys))
  let_round t y ys h = record {
    before_reads = λ s. let a : Apart (let_opening (fresh_variable pl.identifiers 0) (elided P r t)) s =
        let_apart (fresh_variable pl.identifiers 0) (elided P r t) s (variable_is_identifier pl.identifiers 0 F.fresh_variable) (elided_bare P r t h).alone in
        stand_reads (let_opening (fresh_variable pl.identifiers 0) (elided P r t)) s a.stand;
    closes = semicolon_closes;
    before_plain = refl;
    behind_plain = refl;
  }

  pub let_runs : (t : Typ) (y : List ℕ) (ys : Names) → TypeSpells P t → levels t ≤ 130 → (text : List ℕ) (all ts : List Tok) (ls : List Around) (ss : List Statement) (x : Expression) (h : ℕ) → Lexes text all → Part all ts → ts ≢ []
      → AreStatements ts ss (plain.present x) h → (at : ℕ)
      → ReadEndedRun text ts (edits_of_value (moved_by P pl r) all ts ls ss x (in_tuple P pl r t (y ∷ ys))) (in_let_parts P pl r t ls ss x) h at
  let_runs t y ys k l text all ts ls ss x h d p n i at =
      ended_read P pl r F L (in_tuple P pl r t (y ∷ ys)) (let_round t y ys k) text all ts ls ss x h (in_let_parts P pl r t ls ss x) d p n i
      (let_finish P pl r (elided P r t) (moved_statements P pl r ls (statements_of ss)) (moved_value P pl r ls (statements_of ss) x) h (elided_formed P r t k) (subst (λ m. m ≤ 130) (sym (elided_levels P r t)) l) (in_tuple P pl r t (y ∷ ys)) refl refl) at
