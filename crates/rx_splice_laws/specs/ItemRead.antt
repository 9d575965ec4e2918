-- The new function as text (Rust Reference, "Functions"): its header and its body.
use Rattle.std.specs.Prelude.{[], ◌≡◌, ℕ, ◌+◌, ◌≤◌, List, ◌∷◌, ◌++◌, map, codes}
use Rattle.rx_tree.specs.Plain as plain
use Rattle.rx_core.specs.declared.types.Span.{Span}
use Rattle.rx_tree.specs.Plain.{OptionalExpression, Function, Statement, ItemTree, ProgramTree}
use Rattle.rx_tree.specs.PlainOf.{statements_of}
use Rattle.rx_tree.specs.Erase.{nowhere, erase_item}
use Rattle.rx_tree.specs.Lists.{Every, listed}
use Rattle.rx_lex.specs.Tok.{Tok}
use Rattle.rx_parse_grammar.specs.grammar.Items.{IsItem}
use Rattle.rx_print_spelling.specs.Pieces.{flat}
use Rattle.rx_print_spelling.specs.Formed.{Named, WrittenType, FormedBound, FormedParameter}
use Rattle.rx_print_spelling.specs.Levels.{deepest, parameter_levels, written_levels}
use Rattle.rx_resolve_names.specs.Meant.{Around}
use Rattle.rx_hoist_extraction.specs.Names.{behind_all}
use Rattle.rx_hoist_extraction.specs.Run.{Parts}
use Rattle.rx_hoist_extraction.specs.Plan.{Plan}
use Rattle.rx_hoist_extraction.specs.Changed.{changed_statements, changed_optional}
use Rattle.rx_splice_laws.specs.Indent.{four}
use Rattle.rx_splice_laws.specs.MovedBy.{pins_of}
use Rattle.rx_splice_laws.specs.SplicedText.{header, lines, tail_line}
use Rattle.rx_splice_laws.specs.RunRead.{ReadLines}

abbrev pub item_text : Function → List Statement → List ℕ → OptionalExpression → List ℕ
item_text f locals run o = flat (header f) ++ (flat (lines locals) ++ (10 ∷ (four ++ (run ++ (flat (tail_line o) ++ (10 ∷ codes "}"))))))

-- the run with its kinds and types written out
abbrev pub pinned_parts : ProgramTree → Plan → Span → List Around → List Statement → OptionalExpression → Parts
pinned_parts P pl r ls ss o = record {
  statements = listed (changed_statements (pins_of P r pl.pins) [] ls (statements_of ss));
  tail = changed_optional (pins_of P r pl.pins) (behind_all [] (statements_of ss)) ls o;
}

-- names are words, and types are low enough
pub record FormedHeader (f : Function) : Type 0 where
  pub name : Named f.name
  pub lifetimes : Every FormedBound f.lifetimes
  pub params : Every FormedParameter f.params
  pub result : WrittenType f.result
  pub params_low : deepest (map parameter_levels f.params) ≤ 132
  pub result_low : written_levels f.result ≤ 132

pub record ReadNewItem (f : Function) (locals : List Statement) (run : List ℕ) (o : OptionalExpression) (h at : ℕ) : Type 0 where
  pub tokens : List Tok
  pub read : ReadLines at (item_text f locals run o) tokens
  pub tree : ItemTree
  pub levels : ℕ
  pub derived : IsItem tokens tree levels
  pub same : erase_item tree ≡ erase_item (plain.function_item nowhere f)
  pub low : levels ≤ 132 + (h + h + h)
