-- A block in which other statements stand for a run, numbered beside that of the text: what is in front and behind is copied.
use Rattle.std.proofs.Common.{◌≡◌, ℕ, ◌+◌, Bool, true, false, if◌then◌else◌, List, ◌∷◌, ◌++◌, length, Option, refl, sym, ap, ◌∙◌, subst, arith}
use Rattle.rx_core.specs.declared.types.Span.{Span}
use Rattle.rx_tree.specs.declared.tree.Ident.{Ident}
use Rattle.rx_tree.specs.Plain as plain
use Rattle.rx_tree.specs.Plain.{OptionalExpression, Body, Statement, Statements}
use Rattle.rx_tree.specs.Spans.{body_span}
use Rattle.rx_resolve_names.specs.Meant.{Around}
use Rattle.rx_resolve_names.specs.Steps.{Inside}
use Rattle.rx_typed.specs.declared.nodes.Node.{Node}
use Rattle.rx_typed.specs.declared.nodes.Site.{Site}
use Rattle.rx_typed.specs.Named as named
use Rattle.rx_typed.specs.Named.{Exp, Else, Written, some_diverges, else_diverges, tail_never}
use Rattle.rx_typed.specs.Naming.{Cursor, a_node, of_body, of_optional, of_statements}
use Rattle.rx_hoist_extraction.specs.Names.{Names}
use Rattle.rx_hoist_extraction.specs.Run.{as_statements, same_place}
use Rattle.rx_engine_names.specs.Renaming.{Renaming}
use Rattle.rx_engine_names.specs.LikeNamed as alike
use Rattle.rx_engine_names.specs.LikeNamed.{LikeBody}
use Rattle.rx_engine_names.specs.Placed.{Place, Told, StandFor, by_others, put_in}
use Rattle.rx_engine_names.specs.Replaced.{joined, many}
use Rattle.rx_engine_names.specs.Within.{Claims}
use Rattle.rx_engine_typing.specs.Renumbered as ren
use Rattle.rx_engine_typing.specs.Renumbered.{RenumberedBody, RenumberedElse, RenumberedStatements}
use Rattle.rx_engine_holes.specs.Run.{append}
use Rattle.rx_engine_holes.specs.Run.RunBlock.{a_run}
use Rattle.rx_engine_changed.specs.Beside.{Instead, for_a_run, Piece, paired, replaced, Grows, stays, and_instead, newest, Numbers, IsOneToOne}
use Rattle.rx_engine_changed.specs.Comes.{a_body, an_optional, some_statements, the_whole, Comes, Placed, RunComes}
use Rattle.rx_engine_changed.specs.Stages.{Mutability, InStep}
use Rattle.rx_engine_changed.specs.Once.{IsToldCall}
use Rattle.rx_engine_changed.specs.Round.{block_with, round, with_others, GoesOn, OneBlock}
use Rattle.rx_engine_changed.proofs.Lists.{grows_on, before}
use Rattle.rx_engine_changed.proofs.Steps.{alike_later, next_node, one_node}
use Rattle.rx_engine_changed.proofs.Counts.{at_place, count_optional, count_statements, none_such, no_statements_count, no_tail_counts, one_there, same_itself, those_inside}
use Rattle.rx_engine_changed.proofs.Kept.{adds_on, adds_other, adds_pair, adds_so, Kept, SameBody, same_or, at_node}
use Rattle.rx_engine_changed.proofs.Parts.{OnlySpecial, KeptHoles}
use Rattle.rx_engine_changed.proofs.Walk.{BodyLike, BodyKept, OptionalKept, StatementsKept, Places}
use Rattle.rx_engine_changed.proofs.KeptPlaces.{blocks_alone, kept_places, parts_kept, tails}
use Rattle.rx_engine_changed.proofs.Copied.{body_cases, copied_statements, copied_tail}
use Rattle.rx_engine_changed.proofs.Rises.{statements_rises}
use Rattle.rx_engine_changed.proofs.Rows.{many_numbered, many_alike, row3, numbered_row3, same_front, same_row, row_diverges, PartsOf, parts_of}

abbrev joined2 : named.Statements → named.Statements → named.Statements
joined2 a b = joined a b

abbrev joined3 : named.Statements → named.Statements → named.Statements → named.Statements
joined3 a b c = joined a (joined b c)

rows : (a b c : named.Statements) → joined a (joined b c) ≡ append a (append b c)
rows a b c = same_row a (joined b c) ∙ ap (append a) (same_row b c)

pub other_place : (s t : Span) → same_place s t ≡ false → t ≡ s → ⊥
other_place s t e d = let h : same_place s t ≡ true = ap (same_place s) d ∙ same_itself s in absurd (cc)

-- a block that is a hole, or one that may be copied
pub data BodyCases (H : alike.Holes) (R : Renaming) (s : Span) (b b' : named.Body) : Type 0 where
  a_hole : H.block R b b' → BodyCases H R s b b'
  a_copy : H.copied s → BodyCases H R s b b'

pub cases_of : {H : alike.Holes} {R : Renaming} {n n' : Node} {ss ss' : named.Statements} {o o' : Else} → LikeBody H R (named.body n ss o) (named.body n' ss' o') → BodyCases H R n.span (named.body n ss o) (named.body n' ss' o')
cases_of (alike.like_other_block h) = a_hole h
cases_of (alike.like_body f s h g) = a_copy f

module _ (R : Renaming) (W : Mutability) (apart : IsOneToOne R) (even : (n m : ℕ) (b : Bool) → W n m b b) (same : (n m : ℕ) (a b : Bool) → W n m a b → b ≡ a)
    (I I' : Inside) (s0 : Span) (front run call behind : List Statement) (o0 : OptionalExpression) (labels : List (Option Ident)) (T : Told) (base : Numbers → ren.Holes) (returns0 : (q : Numbers) → (base q).returns) (A A' : Placed) where
  abbrev pub old : Body
  old = block_with s0 front run behind o0

  abbrev pub new : Body
  new = block_with s0 front call behind o0

  -- both texts come to their blocks
  abbrev pub Both : Cursor → Cursor → Type 0
  Both c c' = RunComes A old front c × RunComes A' new front c'

  abbrev pub H : alike.Holes
  H = put_in I I' old new labels (by_others T I I' front run call)

  abbrev pub none_returned : (R : Renaming) (n : Node) (o : Else) (e' : Exp) → H.returned R n o e' → ⊥
  none_returned R n o e' h = h

  abbrev pub untyped : (R : Renaming) (s : Span) (t t' : Option Written) → H.annotation R s t t' → ⊥
  untyped R s t t' h = h

  abbrev pub holes : Numbers → ren.Holes
  holes q = round (base q) q

  pub returning : (i : Instead) (q : Numbers) → (with_others q.by q.loops (base q) i).returns
  returning (for_a_run a b n m) q = returns0 q
  returning (Instead.for_an_end n s d a o b o' k m) q = returns0 q

  abbrev pub returns : (q : Numbers) → (holes q).returns
  returns q = returning q.instead q

  abbrev pub none_else : OnlySpecial H
  none_else R e e' h = absurd h

  abbrev copies : KeptHoles H
  copies = record { no_variable = λ R n n' u u' h. h; no_break = λ R n n' l l' h. h; no_continue = λ R n n' l l' h. h }

  abbrev BKept : Site → Body → Body → Type 0
  BKept = BodyKept R W apart even (IsToldCall R W T I I' Both front run call) (at_place s0) A A' H none_else untyped holes

  module _ (goes_on : GoesOn R W T I I' Both front run call) where
    -- where the parts are told
    module _ (made : List Piece) (t : Site) (c c' : Cursor) (come : Comes A (a_body t old) c) (come' : Comes A' (a_body t new) c') (st : InStep R W made c c') where
      abbrev D : Cursor
      D = (a_node s0 t c).1

      abbrev D' : Cursor
      D' = (a_node s0 t c').1

      abbrev F : named.Statements × Cursor
      F = of_statements (as_statements front) D

      abbrev F' : named.Statements × Cursor
      F' = of_statements (as_statements front) D'

      abbrev G : named.Statements × Cursor
      G = of_statements (as_statements run) F.1

      abbrev G' : named.Statements × Cursor
      G' = of_statements (as_statements call) F'.1

      abbrev B : named.Statements × Cursor
      B = of_statements (as_statements behind) G.1

      abbrev B' : named.Statements × Cursor
      B' = of_statements (as_statements behind) G'.1

      abbrev O : Else × Cursor
      O = of_optional t o0 B.1

      abbrev O' : Else × Cursor
      O' = of_optional t o0 B'.1

      abbrev N : Node
      N = (a_node s0 t c).0

      abbrev N' : Node
      N' = (a_node s0 t c').0

      three_diverge : (a b d a' b' d' : named.Statements) → some_diverges a' ≡ some_diverges a → some_diverges b' ≡ some_diverges b → some_diverges d' ≡ some_diverges d → some_diverges (joined3 a' b' d') ≡ some_diverges (joined3 a b d)
      three_diverge a b d a' b' d' e f g =
          row_diverges a' (joined2 b' d') ∙ same_or {a = some_diverges a} {a' = some_diverges a'} e (row_diverges b' d' ∙ same_or f g ∙ sym (row_diverges b d)) ∙ sym (row_diverges a (joined2 b d))

      -- rows as the rules have them
      a_block : (q : Numbers) (k l : ℕ) (a a' b b' x x' : named.Statements) (o o' : Else) → q.instead ≡ for_a_run x x' k l → q.by.nodes c.number ≡ c'.number
          → RenumberedStatements q.by q.loops (base q) a a' → RenumberedStatements q.by q.loops (base q) b b' → RenumberedElse q.by q.loops (base q) o o'
          → BodyLike R W apart even (IsToldCall R W T I I' Both front run call) (at_place s0) A A' H none_else untyped holes q (named.body N (joined3 a x b) o) (named.body N' (joined3 a' x' b') o')
      a_block q i j a a' b b' x x' o o' e d h k l =
          subst (λ (i : Instead). RenumberedBody q.by q.loops (with_others q.by q.loops (base q) i) (named.body N (joined3 a x b) o) (named.body N' (joined3 a' x' b') o')) (sym e)
          (subst (λ (z : named.Statements). RenumberedBody q.by q.loops (with_others q.by q.loops (base q) (for_a_run x x' i j)) (named.body N z o) (named.body N' (joined3 a' x' b') o')) (sym (rows a x b))
          (subst (λ (z : named.Statements). RenumberedBody q.by q.loops (with_others q.by q.loops (base q) (for_a_run x x' i j)) (named.body N (append a (append x b)) o) (named.body N' z o')) (sym (rows a' x' b'))
          (at_node q (λ n. RenumberedBody q.by q.loops (with_others q.by q.loops (base q) (for_a_run x x' i j)) (named.body N (append a (append x b)) o) (named.body n (append a' (append x' b')) o')) c.number c'.number s0 s0 t d
          (ren.RenumberedBody.other_block (a_run {n = N} {s = s0} h k l)))))

      -- nothing else stands for a part of what is copied
      one_more : count_statements none_such (as_statements front) + (1 + (count_statements none_such (as_statements behind) + count_optional none_such o0)) ≡ 1
      one_more = let x = no_statements_count (as_statements front) in let y = no_statements_count (as_statements behind) in let z = no_tail_counts o0 in omega (arith, x, y, z)

      filled : (p : Place) (h : PartsOf R (length front) (StandFor T I I' front run call p R) N N' (joined3 F.0 G.0 B.0) (joined3 F'.0 G'.0 B'.0) O.0 O'.0)
          → Kept R W (IsToldCall R W T I I' Both front run call) 1 made SameBody (BodyLike R W apart even (IsToldCall R W T I I' Both front run call) (at_place s0) A A' H none_else untyped holes) c c' (named.body N (joined3 F.0 G.0 B.0) O.0, O.1) (named.body N' (joined3 F'.0 G'.0 B'.0) O'.0, O'.1)
      filled p h =
          let a = same_front h.front F.0 (joined2 h.run h.behind) (joined2 G.0 B.0) (h.so_many ∙ sym (many_numbered front D)) (sym h.is) in
          let a' = same_front h.front' F'.0 (joined2 h.call h.behind') (joined2 G'.0 B'.0) (many_alike h.fronts ∙ h.so_many ∙ sym (many_numbered front D')) (sym h.is') in
          let x = same_front h.run G.0 h.behind B.0 (ap many h.stands.text.is ∙ many_numbered run h.stands.text.cursor ∙ sym (many_numbered run F.1)) a.1 in
          let x' = same_front h.call G'.0 h.behind' B'.0 (ap many h.stands.made.is ∙ many_numbered call h.stands.made.cursor ∙ sym (many_numbered call F'.1)) a'.1 in
          let l = subst (λ (z : named.Statements). alike.LikeStatements alike.no_holes R z F'.0) a.0 (subst (λ (z : named.Statements). alike.LikeStatements alike.no_holes R h.front z) a'.0 h.fronts) in
          let m = subst (λ (z : named.Statements). alike.LikeStatements alike.no_holes R z B'.0) x.1 (subst (λ (z : named.Statements). alike.LikeStatements alike.no_holes R h.behind z) x'.1 h.behinds) in
          let s = subst (λ (z : named.Statements). StandFor T I I' front run call p R z G'.0) x.0 (subst (λ (z : named.Statements). StandFor T I I' front run call p R h.run z) x'.0 h.stands) in
          let Y = copied_statements R W apart even (IsToldCall R W T I I' Both front run call) same base returns0 (some_statements (as_statements front), D) (some_statements (as_statements front), D') (as_statements front) _ D D' the_whole the_whole (next_node R W apart even s0 s0 t t c c' st) l in
          let there : Both F.1 F'.1 = (record { site = t; start = c; comes = come; is = refl }, record { site = t; start = c'; comes = come'; is = refl }) in
          let g = goes_on Y.now F.1 F'.1 p there Y.step s in
          let up = (statements_rises (as_statements run) F.1).grows in let up' = (statements_rises (as_statements call) F'.1).grows in
          let own : Grows Y.now F.1.number F'.1.number (replaced (for_a_run G.0 G'.0 F'.1.number G'.1.number) ∷ Y.now) G.1.number G'.1.number
          = and_instead {n = F.1.number} {n' = F'.1.number} (stays (omega arith) (omega arith)) up (omega arith) up' (omega arith) in
          let Z = copied_statements R W apart even (IsToldCall R W T I I' Both front run call) same base returns0 (some_statements (as_statements behind), G.1) (some_statements (as_statements behind), G'.1) (as_statements behind) _ G.1 G'.1 the_whole the_whole (alike_later R W apart even g.0 own) m in
          let V = copied_tail R W apart even (IsToldCall R W T I I' Both front run call) same base returns0 (an_optional t o0, B.1) (an_optional t o0, B'.1) t o0 _ B.1 B'.1 the_whole the_whole Z.step h.tails in record {
            now = V.now;
            adds = adds_so one_more (adds_pair (adds_on Y.adds (adds_on (adds_other (for_a_run G.0 G'.0 F'.1.number G'.1.number) (record { is_call = record { cursor = F.1; cursor' = F'.1; step = Y.step; is = refl; diverges = g.1 }; comes = there; place = p; stands = s })) (adds_on Z.adds V.adds))));
            grows = grows_on (grows_on (one_node c c') Y.grows) (grows_on own (grows_on Z.grows V.grows));
            step = V.step;
            same = (tails O.0 O'.0 (three_diverge F.0 G.0 B.0 F'.0 G'.0 B'.0 Y.same g.1 Z.same) V.same, same_or (three_diverge F.0 G.0 B.0 F'.0 G'.0 B'.0 Y.same g.1 Z.same) V.same.1);
            like = λ q f w.
                let w1 = before q V.grows w in let w2 = before q Z.grows w1 in let w3 = before q own w2 in
                a_block q F'.1.number G'.1.number F.0 F'.0 B.0 B'.0 G.0 G'.0 O.0 O'.0 (w2 (replaced (for_a_run G.0 G'.0 F'.1.number G'.1.number)) newest).0 (before q Y.grows w3 (paired c.number c'.number) newest) (Y.like q f w3) (Z.like q f w1) (V.like q f w);
          }

    the_block : (t : Site) → BKept t old new
    the_block t made c c' come come' st h = subst (λ (n : ℕ). Kept R W (IsToldCall R W T I I' Both front run call) n made SameBody (BodyLike R W apart even (IsToldCall R W T I I' Both front run call) (at_place s0) A A' H none_else untyped holes) c c' (of_body t old c) (of_body t new c'))
        (sym (one_there (at_place s0) old (same_itself s0))) (by (cases_of h))
      where
        by : BodyCases H R s0 (of_body t old c).0 (of_body t new c').0 → Kept R W (IsToldCall R W T I I' Both front run call) 1 made SameBody (BodyLike R W apart even (IsToldCall R W T I I' Both front run call) (at_place s0) A A' H none_else untyped holes) c c' (of_body t old c) (of_body t new c')
        by (a_copy f) = absurd (other_place s0 s0 f refl)
        by (a_hole z) = go (of_statements (as_statements (front ++ (run ++ behind))) (a_node s0 t c).1) (of_statements (as_statements (front ++ (call ++ behind))) (a_node s0 t c').1)
            (numbered_row3 front run behind (a_node s0 t c).1) (numbered_row3 front call behind (a_node s0 t c').1)
            (parts_of (a_node s0 t c).0 (a_node s0 t c').0 _ _ _ _ z.like)
          where
            go : (x x' : named.Statements × Cursor) → x ≡ row3 front run behind (a_node s0 t c).1 → x' ≡ row3 front call behind (a_node s0 t c').1
                → PartsOf R (length front) (StandFor T I I' front run call z.place R) (a_node s0 t c).0 (a_node s0 t c').0 x.0 x'.0 (of_optional t o0 x.1).0 (of_optional t o0 x'.1).0
                → Kept R W (IsToldCall R W T I I' Both front run call) 1 made SameBody (BodyLike R W apart even (IsToldCall R W T I I' Both front run call) (at_place s0) A A' H none_else untyped holes) c c' (named.body (a_node s0 t c).0 x.0 (of_optional t o0 x.1).0, (of_optional t o0 x.1).1) (named.body (a_node s0 t c').0 x'.0 (of_optional t o0 x'.1).0, (of_optional t o0 x'.1).1)
            go x x' e e' =
                subst (λ (y : named.Statements × Cursor). PartsOf R (length front) (StandFor T I I' front run call z.place R) (a_node s0 t c).0 (a_node s0 t c').0 y.0 x'.0 (of_optional t o0 y.1).0 (of_optional t o0 x'.1).0
                → Kept R W (IsToldCall R W T I I' Both front run call) 1 made SameBody (BodyLike R W apart even (IsToldCall R W T I I' Both front run call) (at_place s0) A A' H none_else untyped holes) c c' (named.body (a_node s0 t c).0 y.0 (of_optional t o0 y.1).0, (of_optional t o0 y.1).1) (named.body (a_node s0 t c').0 x'.0 (of_optional t o0 x'.1).0, (of_optional t o0 x'.1).1)) (sym e)
                (subst (λ (y : named.Statements × Cursor). PartsOf R (length front) (StandFor T I I' front run call z.place R) (a_node s0 t c).0 (a_node s0 t c').0 (row3 front run behind (a_node s0 t c).1).0 y.0 (of_optional t o0 (row3 front run behind (a_node s0 t c).1).1).0 (of_optional t o0 y.1).0
                → Kept R W (IsToldCall R W T I I' Both front run call) 1 made SameBody (BodyLike R W apart even (IsToldCall R W T I I' Both front run call) (at_place s0) A A' H none_else untyped holes) c c' (named.body (a_node s0 t c).0 (row3 front run behind (a_node s0 t c).1).0 (of_optional t o0 (row3 front run behind (a_node s0 t c).1).1).0, (of_optional t o0 (row3 front run behind (a_node s0 t c).1).1).1) (named.body (a_node s0 t c').0 y.0 (of_optional t o0 y.1).0, (of_optional t o0 y.1).1)) (sym e')
                (filled made t c c' come come' st z.place))

    -- the function round it, where each block with its place is it
    module _ (N : Claims) (placed : OneBlock N old) where
      blocks : (own : Names) (ls : List Around) (s : Span) (t : Site) (ss ss' : Statements) (o o' : OptionalExpression) → N.block own ls (plain.body s ss o) → StatementsKept R W apart even (IsToldCall R W T I I' Both front run call) (at_place s0) A A' H none_else untyped holes ss ss' → OptionalKept R W apart even (IsToldCall R W T I I' Both front run call) (at_place s0) A A' H none_else untyped holes t o o'
          → BKept t (plain.body s ss o) (if same_place s0 s then new else plain.body s ss' o')
      blocks own ls s t ss ss' o o' claim ks ko = by (same_place s0 s) refl
        where
          copy : same_place s0 s ≡ false → BKept t (plain.body s ss o) (plain.body s ss' o')
          copy e made c c' come come' st h =
              subst (λ (n : ℕ). Kept R W (IsToldCall R W T I I' Both front run call) n made SameBody (BodyLike R W apart even (IsToldCall R W T I I' Both front run call) (at_place s0) A A' H none_else untyped holes) c c' (of_body t (plain.body s ss o) c) (of_body t (plain.body s ss' o') c'))
              (sym (those_inside (at_place s0) s ss o e)) (
              let g = body_cases {H = H} (λ z. other_place s0 s e (ap (λ (b : named.Body). (named.body_node b).span) z.first.is)) h in
              parts_kept R W apart even (IsToldCall R W T I I' Both front run call) (at_place s0) A A' same H none_else copies untyped holes s t ss ss' o o' ks ko made c c' come come' st g.0 g.1)

          by : (z : Bool) → same_place s0 s ≡ z → BKept t (plain.body s ss o) (if z then new else plain.body s ss' o')
          by false e = copy e
          by true e = subst (λ (b : Body). BKept t b new) (sym (placed own ls (plain.body s ss o) claim e)) (the_block t)

      pub round_places : Places R W apart even (IsToldCall R W T I I' Both front run call) (at_place s0) A A' H none_else untyped holes (blocks_alone (λ b changed. if same_place s0 (body_span b) then new else changed)) N
      round_places = kept_places R W apart even (IsToldCall R W T I I' Both front run call) (at_place s0) A A' same H none_else copies untyped holes none_returned returns N (λ b changed. if same_place s0 (body_span b) then new else changed) blocks
