-- The text by what the code is given is that of the definition, where the run stands so in its function, and the items are those of the
-- extraction; and what its parts ask of the edits.
use Rattle.std.proofs.Common.{◌≡◌, ℕ, ◌-◌, ◌≤◌, Bool, true, false, List, [], ◌∷◌, ◌++◌, map, take, drop, Option, Some, None, option_map, refl, sym, ap, subst, ◌∙◌, cond, arith}
use Rattle.std.specs.Prelude.{IsCharBoundary, SomeIff, codes}
use Rattle.std.specs.Option.{option_copied}
use Rattle.rx_core.specs.declared.types.Edit as text
use Rattle.rx_core.specs.declared.types.Span.{Span}
use Rattle.rx_tree.specs.declared.tree.Ident.{Ident}
use Rattle.rx_tree.specs.Plain.{Body, Enumeration, Function, ProgramTree}
use Rattle.rx_tree.specs.PlainOf.{plain-Block, plain-Enum, plain-Func}
use Rattle.rx_tree.specs.Spans.{body_span}
use Rattle.rx_lex.specs.Tok.{Tok}
use Rattle.rx_print_spelling.specs.Pieces.{flat}
use Rattle.rx_print_spelling.specs.Items.{enumeration_pieces}
use Rattle.rx_hoist_extraction.specs.Run.{Run, Parts, run_parts, labels_round}
use Rattle.rx_hoist_extraction.specs.Plan.{Bounds, Plan, has_enum}
use Rattle.rx_hoist_extraction.specs.Pinned.{pinned_function}
use Rattle.rx_hoist_extraction.specs.NewBody.{declared}
use Rattle.rx_hoist_extraction.specs.NewEnum.{new_enum}
use Rattle.rx_hoist_extraction.specs.Call.{replacement}
use Rattle.rx_hoist_made.specs.PlainParts.{plain-Labels, plain-RunParts}
use Rattle.rx_splice.specs.Edits as whole
use Rattle.rx_splice_laws.specs.Edits.{Edit, written, spliced}
use Rattle.rx_splice_laws.specs.EditsOf.{body_edits}
use Rattle.rx_splice_laws.specs.Indent.{four, indent_at, reindented}
use Rattle.rx_splice_laws.specs.Moving.{run_edits, pin_edits}
use Rattle.rx_splice_laws.specs.MovedBy.{moved_by}
use Rattle.rx_splice_laws.specs.RunEnd.{end_of}
use Rattle.rx_splice_laws.specs.SplicedRun.{between}
use Rattle.rx_splice_laws.specs.SplicedText.{header, lines, tail_line, call_text, edits_before, edits_behind, spliced_text}
use Rattle.rx_splice_edits.specs.InOrder.{in_order}
use Rattle.rx_splice_edits.specs.Cutting.{within, AreWithin}
use Rattle.rx_splice_edits.specs.Placing.{program_of, tokens_in, body_end, run_list, pin_list, call_parts, function_by, exits_text, some_if, whole_by, Fits, Placed, IsMade}
use Rattle.rx_splice_edits.specs.RunEdits.{edits_by}
use Rattle.rx_splice_edits.specs.declared.text.Place.{Place}
use Rattle.rx_splice_edits.specs.declared.text.Made.{Made}
use Rattle.rx_print_parts.proofs.Written.{written_two, written_three}
use Rattle.rx_splice_edits.proofs.PartLemmas.{all_within}
use Rattle.rx_splice_edits.proofs.Splitting.{front_within, back_within, front_order, back_order, within_cut}

-- nothing is cut at zero
pub zero_cut : (n : ℕ) (t : List ℕ) → between 0 n t ≡ take n t
zero_cut n t = ap (λ k. take k t) (let h : n - 0 ≡ n = omega arith in h)

-- ---- what the parts ask

pub front_part : (bytes : List ℕ) (at past : ℕ) (es : List text.Edit) → AreWithin bytes 0 past es → IsCharBoundary bytes at → AreWithin bytes 0 at (within 0 at es)
front_part bytes at past es a b = record {
  in_order = front_order 0 at past es (omega arith) a.in_order;
  on_boundaries = within_cut bytes 0 at es a.on_boundaries;
  begins = a.begins;
  ends = b;
}

pub back_part : (bytes : List ℕ) (at past : ℕ) (es : List text.Edit) → at ≤ past → AreWithin bytes 0 past es → IsCharBoundary bytes at → AreWithin bytes at past (within at past es)
back_part bytes at past es l a b = record {
  in_order = back_order 0 at past es l a.in_order;
  on_boundaries = within_cut bytes at past es a.on_boundaries;
  begins = b;
  ends = a.ends;
}

pub itself : (bytes : List ℕ) (from to : ℕ) (es : List text.Edit) → AreWithin bytes from to es → within from to es ≡ es
itself bytes from to es a = all_within from from to es (omega arith) a.in_order

pub whole_part : (bytes : List ℕ) (from to : ℕ) (es : List text.Edit) → AreWithin bytes from to es → AreWithin bytes from to (within from to es)
whole_part bytes from to es a = subst (AreWithin bytes from to) (sym (itself bytes from to es a)) a

pub fits_front : (c : Place) (pl : Plan) (es : List text.Edit) → es ≡ pin_list c pl → Fits c pl → AreWithin c.text.now 0 c.run.start (within 0 c.run.start es)
fits_front c pl es e f =
    subst (λ l. AreWithin c.text.now 0 c.run.start (within 0 c.run.start l)) (sym e) (front_part c.text.now c.run.start (body_end c) (pin_list c pl) f.body f.run.begins)

pub fits_back : (c : Place) (pl : Plan) (es : List text.Edit) (past : ℕ) → es ≡ pin_list c pl → past ≡ body_end c → Fits c pl → AreWithin c.text.now c.run.end past (within c.run.end past es)
fits_back c pl es past e p f =
    subst (λ l. AreWithin c.text.now c.run.end past (within c.run.end past l)) (sym e)
    (subst (λ n. AreWithin c.text.now c.run.end n (within c.run.end n (pin_list c pl))) (sym p) (back_part c.text.now c.run.end (body_end c) (pin_list c pl) f.in_body f.body f.run.ends))

pub fits_run : (c : Place) (pl : Plan) (es : List text.Edit) → es ≡ run_list c pl → Fits c pl → AreWithin c.text.now c.run.start c.run.end es
fits_run c pl es e f = subst (AreWithin c.text.now c.run.start c.run.end) (sym e) f.run

-- ---- what is written one part after the other

pub all_written : (c : Place) (pl : Plan) (m : Made) (pins : List text.Edit) (past : ℕ) (indent o0 o1 o2 o3 o4 o5 o6 : List ℕ)
    → pins ≡ pin_list c pl → past ≡ body_end c → indent ≡ indent_at c.text.now c.run.start → o0 ≡ []
    → o1 ≡ o0 ++ whole.spliced 0 (between 0 c.run.start c.text.now) (within 0 c.run.start pins)
    → o2 ≡ o1 ++ call_text indent (call_parts c pl)
    → o3 ≡ o2 ++ whole.spliced c.run.end (between c.run.end past c.text.now) (within c.run.end past pins)
    → o4 ≡ o3 ++ exits_text (option_map plain-Enum (option_copied m.exits))
    → o5 ≡ o4 ++ function_by c pl (plain-Func m.function.now) indent
    → o6 ≡ o5 ++ drop past c.text.now
    → o6 ≡ whole_by c pl m
all_written c pl m pins past indent o0 o1 o2 o3 o4 o5 o6 e n i z a b d f g h =
    let t = c.text.now in
    let exits = exits_text (option_map plain-Enum (option_copied m.exits)) in
    let made = λ (es : List text.Edit) (k : ℕ) (w : List ℕ).
    whole.spliced 0 (between 0 c.run.start t) (within 0 c.run.start es)
    ++ (call_text w (call_parts c pl)
    ++ (whole.spliced c.run.end (between c.run.end k t) (within c.run.end k es) ++ (exits ++ (function_by c pl (plain-Func m.function.now) w ++ drop k t)))) in
    written_three o0 o1 o2 o6 _ _ _ a b (written_three o2 o3 o4 o6 _ _ _ d f (written_two o4 o5 o6 _ _ g h))
    ∙ ap (λ o. o ++ made pins past indent) z
    ∙ ap (λ es. made es past indent) e ∙ ap (λ k. made (pin_list c pl) k indent) n ∙ ap (made (pin_list c pl) (body_end c)) i

-- ---- the lists that were made are tested

abbrev pub Tested : Place → ℕ → List text.Edit → List text.Edit → Type 0
Tested c past ps es = AreWithin c.text.now 0 past ps × AreWithin c.text.now c.run.start c.run.end es × (c.run.end ≤ past)

pub tested : (c : Place) (pl : Plan) (past : ℕ) (ps es : List text.Edit) → in_order 0 (tokens_in c) ≡ true → past ≡ body_end c → ps ≡ pin_list c pl → es ≡ run_list c pl
    → Tested c past ps es → Fits c pl
tested c pl past ps es o n e f t = record {
  tokens = o;
  body = subst (AreWithin c.text.now 0 (body_end c)) e (subst (λ k. AreWithin c.text.now 0 k ps) n t.0);
  run = subst (AreWithin c.text.now c.run.start c.run.end) f t.1;
  in_body = subst (λ k. c.run.end ≤ k) n t.2;
}

pub passed : (c : Place) (pl : Plan) (past : ℕ) (ps es : List text.Edit) → past ≡ body_end c → ps ≡ pin_list c pl → es ≡ run_list c pl → Fits c pl → Tested c past ps es
passed c pl past ps es n e f t = (
  subst (λ k. AreWithin c.text.now 0 k ps) (sym n) (subst (AreWithin c.text.now 0 (body_end c)) (sym e) t.body),
  subst (AreWithin c.text.now c.run.start c.run.end) (sym f) t.run,
  subst (λ k. c.run.end ≤ k) (sym n) t.in_body,
)

pub told_some : (o : Option (List ℕ)) (P : Type 0) (v w : List ℕ) → (P → v ≡ w) → SomeIff o P v → SomeIff o P w
told_some None P v w e n = n
told_some (Some x) P v w e h = (h.0, h.1 ∙ e h.0)

-- ---- the text by the parts of the run

abbrev pins_by : ProgramTree → Plan → List Tok → Span → Body → List Edit
pins_by P pl all s b = body_edits (pin_edits (moved_by P pl s) all) [] [] b

abbrev text_by : ProgramTree → Plan → List Tok → List ℕ → Span → Body → List (Option Ident) → Parts → List ℕ → Function → List ℕ
text_by P pl all t s b ls p exits new =
    let end = (body_span b).end in
    let pins = pins_by P pl all s b in
    let e = end_of P pl s p in
    spliced 0 (take s.start t) (edits_before s.start pins)
    ++ (call_text (indent_at t s.start) (replacement P pl s ls p)
    ++ (spliced s.end (between s.end end t) (edits_behind s.end pins)
    ++ (exits
    ++ ((10 ∷ 10 ∷ (flat (header new)
    ++ (flat (lines (declared P s pl.locals))
    ++ (10 ∷ (four ++ (reindented (indent_at t s.start) (spliced s.start (between s.start s.end t) (edits_by (run_edits (moved_by P pl s) all) all s ls p e))
    ++ (flat (tail_line e.tail) ++ (10 ∷ codes "}"))))))))
    ++ drop end t))))

five : {a b c e : List ℕ} (d f g : List ℕ) → a ≡ b → c ≡ e → a ++ (d ++ (c ++ (f ++ g))) ≡ b ++ (d ++ (e ++ (f ++ g)))
five {b = b} {c = c} d f g h k = ap (λ x. x ++ (d ++ (c ++ (f ++ g)))) h ∙ ap (λ x. b ++ (d ++ (x ++ (f ++ g)))) k

by_given : (c : Place) (pl : Plan) (m : Made) → Fits c pl
    → whole_by c pl m ≡ text_by (program_of c) pl (tokens_in c) c.text.now c.run (plain-Block c.body.now) (plain-Labels c.labels.now) (plain-RunParts c.parts)
    (exits_text (option_map plain-Enum (option_copied m.exits))) (plain-Func m.function.now)
by_given c pl m f =
    let pins = pins_by (program_of c) pl (tokens_in c) c.run (plain-Block c.body.now) in
    five (call_text (indent_at c.text.now c.run.start) (call_parts c pl)) (exits_text (option_map plain-Enum (option_copied m.exits)))
    (function_by c pl (plain-Func m.function.now) (indent_at c.text.now c.run.start) ++ drop (body_end c) c.text.now)
    (ap (λ x. whole.spliced 0 x (within 0 c.run.start (map written pins))) (zero_cut c.run.start c.text.now)
    ∙ ap (whole.spliced 0 (take c.run.start c.text.now)) (front_within c.run.start pins))
    (ap (whole.spliced c.run.end (between c.run.end (body_end c) c.text.now)) (back_within 0 c.run.end (body_end c) pins f.body.in_order))

exits_if : (b : Bool) (x : Enumeration) → exits_text (some_if b x) ≡ cond b (10 ∷ 10 ∷ flat (enumeration_pieces x)) []
exits_if true x = refl
exits_if false x = refl

pub by_parts : (c : Place) (pl : Plan) (r : Run) (f : Function) (bs : Bounds) (m : Made) → Placed c r f → IsMade c pl r f bs m → Fits c pl
    → whole_by c pl m ≡ spliced_text c.text.now (tokens_in c) (program_of c) r pl bs f
by_parts c pl r f bs m p i h =
    let P = program_of c in
    let all = tokens_in c in
    let t = c.text.now in
    let g = pinned_function P r.span pl.pins f in
    let x = new_enum P pl r.span in
    by_given c pl m h
    ∙ ap (λ s. text_by P pl all t s (plain-Block c.body.now) (plain-Labels c.labels.now) (plain-RunParts c.parts) (exits_text (option_map plain-Enum (option_copied m.exits))) (plain-Func m.function.now)) p.span
    ∙ ap (λ b. text_by P pl all t r.span b (plain-Labels c.labels.now) (plain-RunParts c.parts) (exits_text (option_map plain-Enum (option_copied m.exits))) (plain-Func m.function.now)) p.body
    ∙ ap (λ l. text_by P pl all t r.span f.body l (plain-RunParts c.parts) (exits_text (option_map plain-Enum (option_copied m.exits))) (plain-Func m.function.now)) p.labels
    ∙ ap (λ q. text_by P pl all t r.span f.body (labels_round r f) q (exits_text (option_map plain-Enum (option_copied m.exits))) (plain-Func m.function.now)) p.parts
    ∙ ap (λ l. text_by P pl all t r.span f.body (labels_round r f) (run_parts r f) l (plain-Func m.function.now)) (ap exits_text i.exits ∙ exits_if (has_enum pl.exits) x)
    ∙ ap (text_by P pl all t r.span f.body (labels_round r f) (run_parts r f) (cond (has_enum pl.exits) (10 ∷ 10 ∷ flat (enumeration_pieces x)) [])) i.function
