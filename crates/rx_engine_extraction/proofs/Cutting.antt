-- Where a run stands, as the code is given it: the text may be cut there where its edits can be made.
use Rattle.std.proofs.Common.{◌≡◌, ℕ, ◌≤◌, [], List, Option, map, Result, refl, sym, subst, ap}
use Rattle.std.specs.Prelude.{IfOk, SomeIff}
use Rattle.rx_core.specs.declared.types.Span.{Span}
use Rattle.rx_tree.specs.declared.tree.Ident.{Ident}
use Rattle.rx_tree.specs.Plain.{Body, Function, ProgramTree}
use Rattle.rx_tree.specs.PlainOf.{plain-Block, plain-Program}
use Rattle.rx_tree.specs.Spans.{body_span}
use Rattle.rx_lex.specs.Tok.{Tok, toks}
use Rattle.rx_hoist_extraction.specs.Run.{Run, Parts, labels_round, run_parts}
use Rattle.rx_hoist_extraction.specs.Plan.{Bounds, Plan}
use Rattle.rx_hoist_made.specs.PlainParts.{plain-Labels, plain-RunParts}
use Rattle.rx_splice_laws.specs.Edits.{written}
use Rattle.rx_splice_laws.specs.EditsOf.{body_edits}
use Rattle.rx_splice_laws.specs.Moving.{pin_edits, run_edits}
use Rattle.rx_splice_laws.specs.MovedBy.{moved_by}
use Rattle.rx_splice_laws.specs.RunEnd.{end_of}
use Rattle.rx_splice_laws.specs.SplicedText.{spliced_text}
use Rattle.rx_splice_edits.specs.declared.text.Place.{Place}
use Rattle.rx_splice_edits.specs.declared.text.Made.{Made}
use Rattle.rx_splice_edits.specs.Cutting.{AreWithin}
use Rattle.rx_splice_edits.specs.Placing.{Fits, IsMade, Placed, program_of, tokens_in}
use Rattle.rx_splice_edits.specs.RunEdits.{edits_by}
use Rattle.rx_engine_extraction.specs.Rendering.{CanBeMade}
use Rattle.rx_engine_extraction.proofs.Outcomes.{map_ok}
use Rattle.rx_engine_extraction.proofs.Rendered.{same_iff}

module _ (c : Place) (pl : Plan) (r : Run) (f : Function) (placed : Placed c r f) where
  abbrev P : ProgramTree
  P = program_of c

  abbrev all : List Tok
  all = tokens_in c

  abbrev IsBody : Span → Body → ℕ → Type 0
  IsBody s b n = AreWithin c.text.now 0 n (map written (body_edits (pin_edits (moved_by P pl s) all) [] [] b))

  abbrev IsRun : Span → List (Option Ident) → Parts → Type 0
  IsRun s ls p = AreWithin c.text.now s.start s.end (map written (edits_by (run_edits (moved_by P pl s) all) all s ls p (end_of P pl s p)))

  same_end : (body_span (plain-Block c.body.now)).end ≡ (body_span f.body).end
  same_end = ap (λ (b : Body). (body_span b).end) placed.body

  abbrev body : Body
  body = plain-Block c.body.now

  abbrev labels : List (Option Ident)
  labels = plain-Labels c.labels.now

  abbrev parts : Parts
  parts = plain-RunParts c.parts

  abbrev end : ℕ
  end = (body_span (plain-Block c.body.now)).end

  fitting : Fits c pl → CanBeMade c.text.now all P r pl f
  fitting h = record {
    tokens = h.tokens;
    body = subst (λ (n : ℕ). IsBody r.span f.body n) same_end
        (subst (λ (b : Body). IsBody r.span b end) placed.body (subst (λ (s : Span). IsBody s body end) placed.span h.body));
    run = subst (λ (p : Parts). IsRun r.span (labels_round r f) p) placed.parts
        (subst (λ (ls : List (Option Ident)). IsRun r.span ls parts) placed.labels (subst (λ (s : Span). IsRun s labels parts) placed.span h.run));
    in_body = subst (λ (n : ℕ). r.span.end ≤ n) same_end (subst (λ (s : Span). s.end ≤ end) placed.span h.in_body);
  }

  fitted : CanBeMade c.text.now all P r pl f → Fits c pl
  fitted h = record {
    tokens = h.tokens;
    body = subst (λ (s : Span). IsBody s body end) (sym placed.span)
        (subst (λ (b : Body). IsBody r.span b end) (sym placed.body) (subst (λ (n : ℕ). IsBody r.span f.body n) (sym same_end) h.body));
    run = subst (λ (s : Span). IsRun s labels parts) (sym placed.span)
        (subst (λ (ls : List (Option Ident)). IsRun r.span ls parts) (sym placed.labels) (subst (λ (p : Parts). IsRun r.span (labels_round r f) p) (sym placed.parts) h.run));
    in_body = subst (λ (s : Span). s.end ≤ end) (sym placed.span) (subst (λ (n : ℕ). r.span.end ≤ n) (sym same_end) h.in_body);
  }

  -- what is answered of the text and the tokens is so of those that the code goes by
  answered_alike : {E : Type 0} (bs : Bounds) (bytes : List ℕ) (ts : List Tok) → c.text.now ≡ bytes → all ≡ ts → (q : Result (Option (List ℕ)) E)
      → IfOk q (λ (o : Option (List ℕ)). SomeIff o (Fits c pl) (spliced_text c.text.now all P r pl bs f))
      → IfOk q (λ (o : Option (List ℕ)). SomeIff o (CanBeMade bytes ts P r pl f) (spliced_text bytes ts P r pl bs f))
  answered_alike bs bytes ts e k q h =
      subst (λ (us : List Tok). IfOk q (λ (o : Option (List ℕ)). SomeIff o (CanBeMade bytes us P r pl f) (spliced_text bytes us P r pl bs f))) k
      (subst (λ (b : List ℕ). IfOk q (λ (o : Option (List ℕ)). SomeIff o (CanBeMade b all P r pl f) (spliced_text b all P r pl bs f))) e
      (map_ok (λ (o : Option (List ℕ)). SomeIff o (Fits c pl) (spliced_text c.text.now all P r pl bs f))
      (λ (o : Option (List ℕ)). SomeIff o (CanBeMade c.text.now all P r pl f) (spliced_text c.text.now all P r pl bs f))
      (λ o x. same_iff (Fits c pl) (CanBeMade c.text.now all P r pl f) (spliced_text c.text.now all P r pl bs f) (spliced_text c.text.now all P r pl bs f) fitting fitted refl o x) q h))

-- what is answered of a place of the code is so of the run that stands there
pub spliced_as : {c : Place} {m : Made} {pl : Plan} {E : Type 0} (q : Result (Option (List ℕ)) E)
    → ((r : Run) (f : Function) (bs : Bounds) → Placed c r f → IsMade c pl r f bs m
    → IfOk q (λ (o : Option (List ℕ)). SomeIff o (Fits c pl) (spliced_text c.text.now (toks c.tokens.now) (plain-Program c.program.now) r pl bs f)))
    → (r : Run) (f : Function) (bs : Bounds) → c.run ≡ r.span → plain-Block c.body.now ≡ f.body → plain-Labels c.labels.now ≡ labels_round r f → plain-RunParts c.parts ≡ run_parts r f
    → IsMade c pl r f bs m → (bytes : List ℕ) (ts : List Tok) → c.text.now ≡ bytes → toks c.tokens.now ≡ ts
    → IfOk q (λ (o : Option (List ℕ)). SomeIff o (CanBeMade bytes ts (plain-Program c.program.now) r pl f) (spliced_text bytes ts (plain-Program c.program.now) r pl bs f))
spliced_as {c} {m} {pl} {E} q law r f bs span body labels parts made bytes ts e k =
    let placed : Placed c r f = record { span = span; body = body; labels = labels; parts = parts } in
    answered_alike c pl r f placed bs bytes ts e k q (law r f bs placed made)
