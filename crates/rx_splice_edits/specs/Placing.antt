-- Where a run stands in a text, as the code is given it, the text that is made of it, and whether the text may be cut where its edits stand
-- (REM, "Extract function").
use Rattle.std.specs.Prelude.{◌≡◌, ℕ, Bool, true, false, ◌≤◌, List, [], ◌∷◌, ◌++◌, map, Option, Some, None, option_map, drop, codes}
use Rattle.std.specs.Option.{option_copied}
use Rattle.rx_core.specs.declared.types.Edit as text
use Rattle.rx_tree.specs.Plain.{Function, Enumeration, ProgramTree}
use Rattle.rx_tree.specs.PlainOf.{plain-Block, plain-Enum, plain-Func, plain-Program}
use Rattle.rx_tree.specs.Spans.{body_span}
use Rattle.rx_lex.specs.Tok.{Tok, toks}
use Rattle.rx_print_spelling.specs.Pieces.{flat}
use Rattle.rx_print_spelling.specs.Items.{enumeration_pieces}
use Rattle.rx_hoist_extraction.specs.Run.{Run, Parts, run_parts, labels_round, loops_round}
use Rattle.rx_hoist_extraction.specs.Plan.{Bounds, Plan, has_enum}
use Rattle.rx_hoist_extraction.specs.Pinned.{pinned_function}
use Rattle.rx_hoist_extraction.specs.NewBody.{declared}
use Rattle.rx_hoist_extraction.specs.NewEnum.{new_enum}
use Rattle.rx_hoist_extraction.specs.NewFunction.{new_function}
use Rattle.rx_hoist_extraction.specs.Call.{replacement}
use Rattle.rx_hoist_made.specs.PlainParts.{plain-Labels, plain-RunParts}
use Rattle.rx_splice.specs.Edits.{spliced}
use Rattle.rx_splice_laws.specs.Edits.{written}
use Rattle.rx_splice_laws.specs.EditsOf.{body_edits}
use Rattle.rx_splice_laws.specs.Indent.{four, indent_at, reindented}
use Rattle.rx_splice_laws.specs.Moving.{run_edits, pin_edits}
use Rattle.rx_splice_laws.specs.MovedBy.{moved_by}
use Rattle.rx_splice_laws.specs.RunEnd.{RunEnd, end_of}
use Rattle.rx_splice_laws.specs.SplicedRun.{between}
use Rattle.rx_splice_laws.specs.SplicedText.{header, lines, tail_line, call_text}
use Rattle.rx_splice_edits.specs.InOrder.{in_order}
use Rattle.rx_splice_edits.specs.Cutting.{within, AreWithin}
use Rattle.rx_splice_edits.specs.declared.text.Place.{Place}
use Rattle.rx_splice_edits.specs.declared.text.Made.{Made}
use Rattle.rx_splice_edits.specs.RunEdits.{edits_by}

-- ---- a run by its parts

abbrev pub program_of : Place → ProgramTree
program_of c = plain-Program c.program.now

abbrev pub tokens_in : Place → List Tok
tokens_in c = toks c.tokens.now

abbrev pub body_end : Place → ℕ
body_end c = (body_span (plain-Block c.body.now)).end

abbrev pub end_by_parts : Place → Plan → RunEnd
end_by_parts c pl = end_of (program_of c) pl c.run (plain-RunParts c.parts)

-- the edits of the run, and those that pin kinds and types in the body of its function
abbrev pub run_list : Place → Plan → List text.Edit
run_list c pl =
    map written (edits_by (run_edits (moved_by (program_of c) pl c.run) (tokens_in c)) (tokens_in c) c.run
    (plain-Labels c.labels.now) (plain-RunParts c.parts) (end_by_parts c pl))

abbrev pub pin_list : Place → Plan → List text.Edit
pin_list c pl = map written (body_edits (pin_edits (moved_by (program_of c) pl c.run) (tokens_in c)) [] [] (plain-Block c.body.now))

-- ---- the text that is made

abbrev pub run_bytes : Place → Plan → List ℕ
run_bytes c pl = spliced c.run.start (between c.run.start c.run.end c.text.now) (run_list c pl)

-- the bytes of a part of the text, with the kinds and types that are pinned in it
abbrev pub pinned_bytes : Place → Plan → ℕ → ℕ → List ℕ
pinned_bytes c pl from to = spliced from (between from to c.text.now) (within from to (pin_list c pl))

-- the new function with this header, where the run's line has this indent
abbrev pub function_by : Place → Plan → Function → List ℕ → List ℕ
function_by c pl new indent =
    10 ∷ 10 ∷ (flat (header new)
    ++ (flat (lines (declared (program_of c) c.run pl.locals))
    ++ (10 ∷ (four ++ (reindented indent (run_bytes c pl) ++ (flat (tail_line (end_by_parts c pl).tail) ++ (10 ∷ codes "}")))))))

-- what stands in place of the run
abbrev pub call_parts : Place → Plan → Parts
call_parts c pl = replacement (program_of c) pl c.run (plain-Labels c.labels.now) (plain-RunParts c.parts)

abbrev pub exits_text : Option Enumeration → List ℕ
exits_text None = []
exits_text (Some x) = 10 ∷ 10 ∷ flat (enumeration_pieces x)

abbrev pub whole_by : Place → Plan → Made → List ℕ
whole_by c pl m =
    let indent = indent_at c.text.now c.run.start in
    pinned_bytes c pl 0 c.run.start
    ++ (call_text indent (call_parts c pl)
    ++ (pinned_bytes c pl c.run.end (body_end c)
    ++ (exits_text (option_map plain-Enum (option_copied m.exits)) ++ (function_by c pl (plain-Func m.function.now) indent ++ drop (body_end c) c.text.now))))

-- ---- whether the text may be cut

-- the tokens are in order, and the text may be cut where the edits stand
pub record Fits (c : Place) (pl : Plan) : Type 0 where
  pub tokens : in_order 0 (tokens_in c) ≡ true
  pub body : AreWithin c.text.now 0 (body_end c) (pin_list c pl)
  pub run : AreWithin c.text.now c.run.start c.run.end (run_list c pl)
  pub in_body : c.run.end ≤ body_end c

-- ---- the run in its function, and the new items

pub record Placed (c : Place) (r : Run) (f : Function) : Type 0 where
  pub span : c.run ≡ r.span
  pub body : plain-Block c.body.now ≡ f.body
  pub labels : plain-Labels c.labels.now ≡ labels_round r f
  pub parts : plain-RunParts c.parts ≡ run_parts r f

abbrev pub some_if : Bool → Enumeration → Option Enumeration
some_if false x = None
some_if true x = Some x

-- they are those of the extraction with these bounds
pub record IsMade (c : Place) (pl : Plan) (r : Run) (f : Function) (bs : Bounds) (m : Made) : Type 0 where
  pub exits : option_map plain-Enum (option_copied m.exits) ≡ some_if (has_enum pl.exits) (new_enum (program_of c) pl r.span)
  pub function : (let g = pinned_function (program_of c) r.span pl.pins f in
      plain-Func m.function.now ≡ new_function (program_of c) pl bs r.span (loops_round r g) (run_parts r g))
