-- A block in which other last statements and another tail stand for a run that goes to its end, numbered beside that of the text: what is in
-- front is copied.
use Rattle.std.proofs.Common.{◌≡◌, ℕ, ◌+◌, Bool, true, false, ◌||◌, if◌then◌else◌, List, ◌∷◌, ◌++◌, length, Option, refl, sym, ap, ◌∙◌, subst, arith}
use Rattle.rx_core.specs.declared.types.Span.{Span}
use Rattle.rx_tree.specs.declared.tree.Ident.{Ident}
use Rattle.rx_tree.specs.Plain as plain
use Rattle.rx_tree.specs.Plain.{OptionalExpression, Body, Statement, Statements}
use Rattle.rx_tree.specs.Spans.{body_span}
use Rattle.rx_resolve_names.specs.Meant.{Around}
use Rattle.rx_resolve_names.specs.Steps.{Inside}
use Rattle.rx_typed.specs.declared.nodes.Node.{Node}
use Rattle.rx_typed.specs.declared.nodes.Site.{Site}
use Rattle.rx_typed.specs.Named as named
use Rattle.rx_typed.specs.Named.{Exp, Else, Written, some_diverges, else_diverges, tail_never}
use Rattle.rx_typed.specs.Naming.{Cursor, a_node, of_body, of_optional, of_statements}
use Rattle.rx_hoist_extraction.specs.Names.{Names}
use Rattle.rx_hoist_extraction.specs.Run.{as_statements, same_place}
use Rattle.rx_engine_names.specs.Renaming.{Renaming}
use Rattle.rx_engine_names.specs.LikeNamed as alike
use Rattle.rx_engine_names.specs.LikeNamed.{LikeBody}
use Rattle.rx_engine_names.specs.Placed.{Place, ToldLast, EndFor, by_an_end, put_in}
use Rattle.rx_engine_names.specs.Replaced.{joined}
use Rattle.rx_engine_names.specs.Within.{Claims}
use Rattle.rx_engine_typing.specs.Renumbered as ren
use Rattle.rx_engine_typing.specs.Renumbered.{RenumberedBody, RenumberedElse, RenumberedStatements}
use Rattle.rx_engine_holes.specs.Run.{append}
use Rattle.rx_engine_holes.specs.Tail.TailBlock.{a_tail}
use Rattle.rx_engine_changed.specs.Beside.{Instead, for_a_run, for_an_end, Piece, paired, replaced, Grows, stays, and_instead, newest, Numbers, IsOneToOne}
use Rattle.rx_engine_changed.specs.Comes.{a_body, some_statements, the_whole, Comes, Placed, RunComesAt, RunEnds}
use Rattle.rx_engine_changed.specs.Stages.{Mutability, InStep}
use Rattle.rx_engine_changed.specs.Once.{IsToldLast}
use Rattle.rx_engine_changed.specs.Round.{block_ending, round, with_others, GoesOnLast, OneBlock, SameEnd}
use Rattle.rx_engine_changed.proofs.Lists.{grows_on, before}
use Rattle.rx_engine_changed.proofs.Steps.{alike_later, next_node, one_node}
use Rattle.rx_engine_changed.proofs.Counts.{at_place, count_statements, none_such, no_statements_count, one_there, same_itself, those_inside}
use Rattle.rx_engine_changed.proofs.Kept.{adds_on, adds_other, adds_pair, adds_so, Kept, SameBody, same_or, at_node}
use Rattle.rx_engine_changed.proofs.Parts.{OnlySpecial, KeptHoles}
use Rattle.rx_engine_changed.proofs.Walk.{BodyLike, BodyKept, OptionalKept, StatementsKept, Places}
use Rattle.rx_engine_changed.proofs.KeptPlaces.{blocks_alone, kept_places, parts_kept}
use Rattle.rx_engine_changed.proofs.Copied.{body_cases, copied_statements}
use Rattle.rx_engine_changed.proofs.Rises.{optional_rises, rises_on, statements_rises}
use Rattle.rx_engine_changed.proofs.Rows.{many_numbered, many_alike, row, numbered_row, same_front, same_row, row_diverges, EndsOf, ends_of}
use Rattle.rx_engine_changed.proofs.RoundRun.{BodyCases, a_hole, a_copy, cases_of, other_place}

module _ (R : Renaming) (W : Mutability) (apart : IsOneToOne R) (even : (n m : ℕ) (b : Bool) → W n m b b) (same : (n m : ℕ) (a b : Bool) → W n m a b → b ≡ a)
    (I I' : Inside) (s0 : Span) (front run call : List Statement) (o0 o1 : OptionalExpression) (labels : List (Option Ident)) (T : ToldLast) (base : Numbers → ren.Holes) (returns0 : (q : Numbers) → (base q).returns) (A A' : Placed) where
  abbrev pub old : Body
  old = block_ending s0 front run o0

  abbrev pub new : Body
  new = block_ending s0 front call o1

  -- both texts come to their blocks
  abbrev pub Both : Node → Bool → Cursor → Cursor → Type 0
  Both n d c c' = RunEnds A old front n d c × RunComesAt A' new front n.site c'

  abbrev pub H : alike.Holes
  H = put_in I I' old new labels (by_an_end T I I' front run call o0 o1)

  abbrev pub none_returned : (R : Renaming) (n : Node) (o : Else) (e' : Exp) → H.returned R n o e' → ⊥
  none_returned R n o e' h = h

  abbrev pub untyped : (R : Renaming) (s : Span) (t t' : Option Written) → H.annotation R s t t' → ⊥
  untyped R s t t' h = h

  abbrev pub holes : Numbers → ren.Holes
  holes q = round (base q) q

  pub returning : (i : Instead) (q : Numbers) → (with_others q.by q.loops (base q) i).returns
  returning (for_a_run a b n m) q = returns0 q
  returning (for_an_end n s d a o b o' k m) q = returns0 q

  abbrev pub returns : (q : Numbers) → (holes q).returns
  returns q = returning q.instead q

  abbrev pub none_else : OnlySpecial H
  none_else R e e' h = absurd h

  abbrev copies : KeptHoles H
  copies = record { no_variable = λ R n n' u u' h. h; no_break = λ R n n' l l' h. h; no_continue = λ R n n' l l' h. h }

  abbrev BKept : Site → Body → Body → Type 0
  BKept = BodyKept R W apart even (IsToldLast R W T I I' Both front run call o0 o1) (at_place s0) A A' H none_else untyped holes

  module _ (goes_on : GoesOnLast R W T I I' Both front run call o0 o1) where
    -- where the parts are told
    module _ (made : List Piece) (t : Site) (c c' : Cursor) (come : Comes A (a_body t old) c) (come' : Comes A' (a_body t new) c') (st : InStep R W made c c') where
      abbrev D : Cursor
      D = (a_node s0 t c).1

      abbrev D' : Cursor
      D' = (a_node s0 t c').1

      abbrev F : named.Statements × Cursor
      F = of_statements (as_statements front) D

      abbrev F' : named.Statements × Cursor
      F' = of_statements (as_statements front) D'

      abbrev G : named.Statements × Cursor
      G = of_statements (as_statements run) F.1

      abbrev G' : named.Statements × Cursor
      G' = of_statements (as_statements call) F'.1

      abbrev O : Else × Cursor
      O = of_optional t o0 G.1

      abbrev O' : Else × Cursor
      O' = of_optional t o1 G'.1

      abbrev N : Node
      N = (a_node s0 t c).0

      abbrev N' : Node
      N' = (a_node s0 t c').0

      end_never : (a a' b b' : named.Statements) (o o' : Else) → some_diverges a' ≡ some_diverges a → SameEnd b o b' o' → tail_never (some_diverges (joined a' b')) o' ≡ tail_never (some_diverges (joined a b)) o
      end_never a a' b b' o o' e f =
          ap (λ (x : Bool). tail_never x o') (row_diverges a' b' ∙ ap (λ (x : Bool). x || some_diverges b') e) ∙ f.1 (some_diverges a) ∙ ap (λ (x : Bool). tail_never x o) (sym (row_diverges a b))

      or_assoc : (x y z : Bool) → ((x || y) || z) ≡ (x || (y || z))
      or_assoc true y z = refl
      or_assoc false y z = refl

      end_diverges : (a a' b b' : named.Statements) (o o' : Else) → some_diverges a' ≡ some_diverges a → SameEnd b o b' o' → (some_diverges (joined a' b') || else_diverges o') ≡ (some_diverges (joined a b) || else_diverges o)
      end_diverges a a' b b' o o' e f =
          ap (λ (x : Bool). x || else_diverges o') (row_diverges a' b') ∙ or_assoc (some_diverges a') (some_diverges b') (else_diverges o') ∙ same_or {a = some_diverges a} {a' = some_diverges a'} e f.0
          ∙ sym (or_assoc (some_diverges a) (some_diverges b) (else_diverges o)) ∙ ap (λ (x : Bool). x || else_diverges o) (sym (row_diverges a b))

      -- rows as the rules have them
      an_end : (q : Numbers) (k l : ℕ) (a a' x x' : named.Statements) (o o' : Else) → q.instead ≡ for_an_end N s0 (some_diverges a) x o x' o' k l → q.by.nodes c.number ≡ c'.number → RenumberedStatements q.by q.loops (base q) a a'
          → BodyLike R W apart even (IsToldLast R W T I I' Both front run call o0 o1) (at_place s0) A A' H none_else untyped holes q (named.body N (joined a x) o) (named.body N' (joined a' x') o')
      an_end q k l a a' x x' o o' e d h =
          let i = for_an_end N s0 (some_diverges a) x o x' o' k l in
          subst (λ (i : Instead). RenumberedBody q.by q.loops (with_others q.by q.loops (base q) i) (named.body N (joined a x) o) (named.body N' (joined a' x') o')) (sym e)
          (subst (λ (z : named.Statements). RenumberedBody q.by q.loops (with_others q.by q.loops (base q) i) (named.body N z o) (named.body N' (joined a' x') o')) (sym (same_row a x))
          (subst (λ (z : named.Statements). RenumberedBody q.by q.loops (with_others q.by q.loops (base q) i) (named.body N (append a x) o) (named.body N' z o')) (sym (same_row a' x'))
          (at_node q (λ n. RenumberedBody q.by q.loops (with_others q.by q.loops (base q) i) (named.body N (append a x) o) (named.body n (append a' x') o')) c.number c'.number s0 s0 t d
          (ren.RenumberedBody.other_block (a_tail refl h)))))

      -- nothing else stands for a part of what is copied
      one_more : count_statements none_such (as_statements front) + 1 ≡ 1
      one_more = let x = no_statements_count (as_statements front) in omega (arith, x)

      filled : (p : Place) (h : EndsOf R (length front) (EndFor T I I' front run call o0 o1 p R) N N' (joined F.0 G.0) (joined F'.0 G'.0) O.0 O'.0)
          → Kept R W (IsToldLast R W T I I' Both front run call o0 o1) 1 made SameBody (BodyLike R W apart even (IsToldLast R W T I I' Both front run call o0 o1) (at_place s0) A A' H none_else untyped holes) c c' (named.body N (joined F.0 G.0) O.0, O.1) (named.body N' (joined F'.0 G'.0) O'.0, O'.1)
      filled p h =
          let a = same_front h.front F.0 h.run G.0 (h.so_many ∙ sym (many_numbered front D)) (sym h.is) in
          let a' = same_front h.front' F'.0 h.call G'.0 (many_alike h.fronts ∙ h.so_many ∙ sym (many_numbered front D')) (sym h.is') in
          let l = subst (λ (z : named.Statements). alike.LikeStatements alike.no_holes R z F'.0) a.0 (subst (λ (z : named.Statements). alike.LikeStatements alike.no_holes R h.front z) a'.0 h.fronts) in
          let s = subst (λ (z : named.Statements). EndFor T I I' front run call o0 o1 p R z O.0 G'.0 O'.0) a.1 (subst (λ (z : named.Statements). EndFor T I I' front run call o0 o1 p R h.run O.0 z O'.0) a'.1 h.stands) in
          let Y = copied_statements R W apart even (IsToldLast R W T I I' Both front run call o0 o1) same base returns0 (some_statements (as_statements front), D) (some_statements (as_statements front), D') (as_statements front) _ D D' the_whole the_whole (next_node R W apart even s0 s0 t t c c' st) l in
          let there : Both N (some_diverges F.0) F.1 F'.1 = ((record { site = t; start = c; comes = come; is = refl }, refl, refl), (record { site = t; start = c'; comes = come'; is = refl }, refl)) in
          let g = goes_on Y.now F.1 F'.1 p N (some_diverges F.0) there Y.step s in
          let up = (rises_on (statements_rises (as_statements run) F.1) (optional_rises o0 t G.1)).grows in let up' = (rises_on (statements_rises (as_statements call) F'.1) (optional_rises o1 t G'.1)).grows in
          let i = for_an_end N s0 (some_diverges F.0) G.0 O.0 G'.0 O'.0 F'.1.number O'.1.number in
          let own : Grows Y.now F.1.number F'.1.number (replaced i ∷ Y.now) O.1.number O'.1.number
          = and_instead {n = F.1.number} {n' = F'.1.number} (stays (omega arith) (omega arith)) up (omega arith) up' (omega arith) in record {
            now = replaced i ∷ Y.now;
            adds = adds_so one_more (adds_pair (adds_on Y.adds (adds_other i (record { is_call = record { cursor = F.1; cursor' = F'.1; step = Y.step; node = N; front = F.0; site = t; sited = refl; is = refl; ends = g.1 }; comes = there; place = p; stands = s }))));
            grows = grows_on (grows_on (one_node c c') Y.grows) own;
            step = alike_later R W apart even g.0 own;
            same = (end_never F.0 F'.0 G.0 G'.0 O.0 O'.0 Y.same g.1, end_diverges F.0 F'.0 G.0 G'.0 O.0 O'.0 Y.same g.1);
            like = λ q f w.
                let w1 = before q own w in
                an_end q F'.1.number O'.1.number F.0 F'.0 G.0 G'.0 O.0 O'.0 (w (replaced i) newest).0 (before q Y.grows w1 (paired c.number c'.number) newest) (Y.like q f w1);
          }

    the_block : (t : Site) → BKept t old new
    the_block t made c c' come come' st h = subst (λ (n : ℕ). Kept R W (IsToldLast R W T I I' Both front run call o0 o1) n made SameBody (BodyLike R W apart even (IsToldLast R W T I I' Both front run call o0 o1) (at_place s0) A A' H none_else untyped holes) c c' (of_body t old c) (of_body t new c'))
        (sym (one_there (at_place s0) old (same_itself s0))) (by (cases_of h))
      where
        by : BodyCases H R s0 (of_body t old c).0 (of_body t new c').0 → Kept R W (IsToldLast R W T I I' Both front run call o0 o1) 1 made SameBody (BodyLike R W apart even (IsToldLast R W T I I' Both front run call o0 o1) (at_place s0) A A' H none_else untyped holes) c c' (of_body t old c) (of_body t new c')
        by (a_copy f) = absurd (other_place s0 s0 f refl)
        by (a_hole z) = go (of_statements (as_statements (front ++ run)) (a_node s0 t c).1) (of_statements (as_statements (front ++ call)) (a_node s0 t c').1)
            (numbered_row front run (a_node s0 t c).1) (numbered_row front call (a_node s0 t c').1)
            (ends_of (a_node s0 t c).0 (a_node s0 t c').0 _ _ _ _ z.like)
          where
            go : (x x' : named.Statements × Cursor) → x ≡ row front run (a_node s0 t c).1 → x' ≡ row front call (a_node s0 t c').1
                → EndsOf R (length front) (EndFor T I I' front run call o0 o1 z.place R) (a_node s0 t c).0 (a_node s0 t c').0 x.0 x'.0 (of_optional t o0 x.1).0 (of_optional t o1 x'.1).0
                → Kept R W (IsToldLast R W T I I' Both front run call o0 o1) 1 made SameBody (BodyLike R W apart even (IsToldLast R W T I I' Both front run call o0 o1) (at_place s0) A A' H none_else untyped holes) c c' (named.body (a_node s0 t c).0 x.0 (of_optional t o0 x.1).0, (of_optional t o0 x.1).1) (named.body (a_node s0 t c').0 x'.0 (of_optional t o1 x'.1).0, (of_optional t o1 x'.1).1)
            go x x' e e' =
                subst (λ (y : named.Statements × Cursor). EndsOf R (length front) (EndFor T I I' front run call o0 o1 z.place R) (a_node s0 t c).0 (a_node s0 t c').0 y.0 x'.0 (of_optional t o0 y.1).0 (of_optional t o1 x'.1).0
                → Kept R W (IsToldLast R W T I I' Both front run call o0 o1) 1 made SameBody (BodyLike R W apart even (IsToldLast R W T I I' Both front run call o0 o1) (at_place s0) A A' H none_else untyped holes) c c' (named.body (a_node s0 t c).0 y.0 (of_optional t o0 y.1).0, (of_optional t o0 y.1).1) (named.body (a_node s0 t c').0 x'.0 (of_optional t o1 x'.1).0, (of_optional t o1 x'.1).1)) (sym e)
                (subst (λ (y : named.Statements × Cursor). EndsOf R (length front) (EndFor T I I' front run call o0 o1 z.place R) (a_node s0 t c).0 (a_node s0 t c').0 (row front run (a_node s0 t c).1).0 y.0 (of_optional t o0 (row front run (a_node s0 t c).1).1).0 (of_optional t o1 y.1).0
                → Kept R W (IsToldLast R W T I I' Both front run call o0 o1) 1 made SameBody (BodyLike R W apart even (IsToldLast R W T I I' Both front run call o0 o1) (at_place s0) A A' H none_else untyped holes) c c' (named.body (a_node s0 t c).0 (row front run (a_node s0 t c).1).0 (of_optional t o0 (row front run (a_node s0 t c).1).1).0, (of_optional t o0 (row front run (a_node s0 t c).1).1).1) (named.body (a_node s0 t c').0 y.0 (of_optional t o1 y.1).0, (of_optional t o1 y.1).1)) (sym e')
                (filled made t c c' come come' st z.place))

    -- the function round it, where each block with its place is it
    module _ (N : Claims) (placed : OneBlock N old) where
      blocks : (own : Names) (ls : List Around) (s : Span) (t : Site) (ss ss' : Statements) (o o' : OptionalExpression) → N.block own ls (plain.body s ss o) → StatementsKept R W apart even (IsToldLast R W T I I' Both front run call o0 o1) (at_place s0) A A' H none_else untyped holes ss ss' → OptionalKept R W apart even (IsToldLast R W T I I' Both front run call o0 o1) (at_place s0) A A' H none_else untyped holes t o o'
          → BKept t (plain.body s ss o) (if same_place s0 s then new else plain.body s ss' o')
      blocks own ls s t ss ss' o o' claim ks ko = by (same_place s0 s) refl
        where
          copy : same_place s0 s ≡ false → BKept t (plain.body s ss o) (plain.body s ss' o')
          copy e made c c' come come' st h =
              subst (λ (n : ℕ). Kept R W (IsToldLast R W T I I' Both front run call o0 o1) n made SameBody (BodyLike R W apart even (IsToldLast R W T I I' Both front run call o0 o1) (at_place s0) A A' H none_else untyped holes) c c' (of_body t (plain.body s ss o) c) (of_body t (plain.body s ss' o') c'))
              (sym (those_inside (at_place s0) s ss o e)) (
              let g = body_cases {H = H} (λ z. other_place s0 s e (ap (λ (b : named.Body). (named.body_node b).span) z.first.is)) h in
              parts_kept R W apart even (IsToldLast R W T I I' Both front run call o0 o1) (at_place s0) A A' same H none_else copies untyped holes s t ss ss' o o' ks ko made c c' come come' st g.0 g.1)

          by : (z : Bool) → same_place s0 s ≡ z → BKept t (plain.body s ss o) (if z then new else plain.body s ss' o')
          by false e = copy e
          by true e = subst (λ (b : Body). BKept t b new) (sym (placed own ls (plain.body s ss o) claim e)) (the_block t)

      pub round_places : Places R W apart even (IsToldLast R W T I I' Both front run call o0 o1) (at_place s0) A A' H none_else untyped holes (blocks_alone (λ b changed. if same_place s0 (body_span b) then new else changed)) N
      round_places = kept_places R W apart even (IsToldLast R W T I I' Both front run call o0 o1) (at_place s0) A A' same H none_else copies untyped holes none_returned returns N (λ b changed. if same_place s0 (body_span b) then new else changed) blocks
