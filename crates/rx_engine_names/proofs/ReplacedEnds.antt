-- The block of a run that goes to its end, wherever all names mean what corresponds in front of it: what stands in front is copied, the last
-- statements and the tail are replaced.
use Rattle.std.proofs.Common.{◌≡◌, ◌≤◌, ◌<◌, ◌⊎◌, inl, inr, ℕ, Bool, false, not, ◌||◌, List, [], ◌∷◌, ◌++◌, length, Ok, refl, ap, ◌∙◌, subst, append_assoc}
use Rattle.rx_core.specs.declared.types.Span.{Span}
use Rattle.rx_tree.specs.Lists.{listed}
use Rattle.rx_tree.specs.Plain as plain
use Rattle.rx_tree.specs.Plain.{Body, OptionalExpression, Statement, Statements, ProgramTree}
use Rattle.rx_resolve_names.specs.Scopes.{DeclaredNames, Variables, variable_named}
use Rattle.rx_resolve_names.specs.declared.resolved.ItemNames.{ItemNames}
use Rattle.rx_resolve_names.specs.declared.resolved.NodeNames.{NodeNames}
use Rattle.rx_resolve_names.specs.Meant.{number, Around}
use Rattle.rx_resolve_names.specs.Steps.{Inside, child}
use Rattle.rx_resolve_names.specs.Names.{in_statements, in_optional, in_block, Scoped}
use Rattle.rx_typed.specs.declared.nodes.Site.{Site}
use Rattle.rx_typed.specs.Named as named
use Rattle.rx_typed.specs.Naming.{of_statements, of_body}
use Rattle.rx_hoist_extraction.specs.Names.{is_among, behind_all}
use Rattle.rx_hoist_extraction.specs.Run.{as_statements}
use Rattle.rx_engine_names.specs.Renaming.{Renaming, Has, Made, Pairs, Passage}
use Rattle.rx_engine_names.specs.LikeNamed.{no_holes, LikeStatements}
use Rattle.rx_engine_names.specs.Replaced.{many, joined, LoopsAlike, StandsLast, EndReplaced, end_replaced}
use Rattle.rx_engine_names.specs.Placed.{AllMeet, ToldLast, EndFor}
use Rattle.rx_engine_names.specs.Apart.{Below}
use Rattle.rx_engine_names.proofs.SideBySide.{named_ok, and_ok, grows_on, serves_before, Grows, Kind, Numbers, numbers_then_told, numbers_map, numbers_node, Part, Frame, Reached}
use Rattle.rx_engine_names.proofs.Scoped.{Corresponds, AtName}
use Rattle.rx_engine_names.proofs.Fitting.{Fits}
use Rattle.rx_engine_names.proofs.CopiedExpressions.{statements_alike}
use Rattle.rx_engine_names.proofs.PlainPlaces.{none_starred}
use Rattle.rx_engine_names.proofs.NoClaims.{statements_within}
use Rattle.rx_engine_names.proofs.ResolvingGrows.{grown_then, statements_grow, optional_grows}
use Rattle.rx_engine_names.proofs.PairsApart.{below_wider, has_below, one_to_one, passed_on, widens}
use Rattle.rx_engine_names.proofs.CopiedParts.{statements_kept, text_alone, tail_alone}
use Rattle.rx_engine_names.proofs.ReplacedBlocks.{past_all, split, join, by_equal, many_numbered, in_parts, with_tail, body_in_parts, tails_alone}
use Rattle.rx_engine_names.proofs.ReplacedAnywhere.{made_in_front, to_meet, Whole, whole_special, whole_stand, EndResolves, by_renaming}

-- of pairs that were made in front
in_front_or : (ps : Pairs) (n m n1 m1 : ℕ) → Below ps n m → (i j : ℕ) → Has ps i j ⊎ ((n1 ≤ i) × (m1 ≤ j)) → ((i < n) × (j < m)) ⊎ ((n1 ≤ i) × (m1 ≤ j))
in_front_or ps n m n1 m1 h i j (inl y) = inl (has_below ps n m i j h y)
in_front_or ps n m n1 m1 h i j (inr y) = inr y

module _ (T : ToldLast) (items : ℕ → ℕ) (P : ProgramTree) (a : ℕ) (L : DeclaredNames) (Q : ProgramTree) (b : ℕ) (F : Fits items (record { program = P; item = a; lifetimes = L }) (record { program = Q; item = b; lifetimes = L })) (ls ls' : List Around) (s : Span) (front run call : List Statement) (o o' : OptionalExpression) where
  abbrev Kept : Frame
  Kept = one_to_one items

  abbrev Here : Inside
  Here = record { program = P; item = a; lifetimes = L }

  abbrev There : Inside
  There = record { program = Q; item = b; lifetimes = L }

  abbrev pub StoodLast : Variables → Variables → List ℕ → List ℕ → ItemNames → ItemNames → Renaming → named.Statements → named.Else → named.Statements → named.Else → Type 0
  StoodLast sc sc' at at' t u R = EndFor T Here There front run call o o' (record { scope = sc; start = sc'; around = ls; round = ls'; way = at; way' = at'; tables = t; tables' = u }) R

  abbrev pub LastNumbers : Variables → Variables → List ℕ → List ℕ → ItemNames → ItemNames → ItemNames → Kind
  LastNumbers sc sc' at at' t u t' R u' es es' = (k k' : Site) → Numbers (EndReplaced R (length front) (StoodLast sc sc' at at' t u R)) t u t' u' es es' (of_body k (plain.body s (as_statements (front ++ run)) o)) (of_body k' (plain.body s (as_statements (front ++ call)) o'))

  pub ended_part : (sc sc' : Variables) (M : Made) → AllMeet (Has M.variables) sc sc' → LoopsAlike M ls ls' → EndResolves T items Here There front run o call o' sc sc' ls ls' M
      → (at at' : List ℕ) (t t' u : ItemNames) → Reached Kept M t u → in_block Here sc ls at (plain.body s (as_statements (front ++ run)) o) t ≡ Ok t'
      → Part Kept M t t' u (λ G v. in_block There sc' ls' at' (plain.body s (as_statements (front ++ call)) o') u ≡ Ok v) (LastNumbers sc sc' at at' t u t')
  unfolding whole_stand
  ended_part sc sc' M names loops stands at at' t t' u q e =
      let k = number (length (listed (as_statements (front ++ run)))) in let k' = number (length (listed (as_statements (front ++ call)))) in
      let i1 = past_all 0 front in
      let X = named_ok (in_statements Here sc ls at 0 (as_statements (front ++ run)) t) (λ r. in_optional Here r.scope ls (child at k) o r.tables) t' e in
      let S = split Here sc ls at 0 front run t X.0 X.1 in
      let w1 = whole_stand Kept Here There F M sc sc' ls ls' names loops in
      let A = statements_alike (Whole Kept Here There F) (whole_special Kept Here There F) M [] [] w1 at at' 0 0 (as_statements front) (statements_within [] [] (as_statements front)) t S.middle u S.front q in
      let own1 = behind_all [] (as_statements front) in
      let meet1 : AllMeet (Has A.made.variables) S.middle.scope A.answer.0 = λ x. to_meet A.made (is_among x own1 || false) (variable_named S.middle.scope x) (variable_named A.answer.0 x)
      (subst (λ (z : Bool). AtName (Corresponds [] A.made) z (is_among x own1 || false) (variable_named S.middle.scope x) (variable_named A.answer.0 x)) (none_starred (not (is_among x own1))) (A.answer.2.callees x tt)) in
      let N = text_alone P a L S.middle.scope ls at i1 (as_statements run) S.middle.tables X.0 S.rest in
      let T1 = tail_alone P a L X.0.scope ls (child at k) o X.0.tables t' X.2 in
      let Z = stands at at' t S.middle X.0 i1 S.front S.rest (child at k) t' X.2 A.answer.0 A.made (record { variables = A.grows.variables; loops = A.grows.loops; passages = A.grows.passages }) meet1 i1 (child at' k') A.table in
      let C = Z.stands in
      let D = text_alone Q b L A.answer.0 ls' at' i1 (as_statements call) A.table C.end C.goes in
      let G = tail_alone Q b L C.end.scope ls' (child at' k') o' C.end.tables C.tables C.ends in
      let m1 : Scoped = record { scope = A.answer.0; tables = A.table } in
      let g = grown_then S.middle.tables X.0.tables t' (statements_grow Here S.middle.scope ls at i1 (as_statements run) S.middle.tables X.0 S.rest) (optional_grows Here X.0.scope ls (child at k) o X.0.tables t' X.2) in
      let g' = grown_then A.table C.end.tables C.tables (statements_grow There A.answer.0 ls' at' i1 (as_statements call) A.table C.end C.goes) (optional_grows There C.end.scope ls' (child at' k') o' C.end.tables C.tables C.ends) in
      let text : StandsLast Here ls S.middle.scope at i1 (child at k) run o S.middle.tables = record { end = X.0; goes = S.rest; tables = t'; ends = X.2 } in
      let first : in_statements There sc' ls' at' 0 (as_statements front) u ≡ Ok m1 = subst (λ (z : Statements). in_statements There sc' ls' at' 0 z u ≡ Ok m1) (statements_kept s [] [] (as_statements front)) A.answer.1 in
      let grown : C.tables.names ≡ A.table.names ++ (D.added ++ G.added) = G.grown ∙ ap (λ (l : List NodeNames). l ++ G.added) D.grown ∙ append_assoc A.table.names D.added G.added in
      let grown_text : t'.names ≡ S.middle.tables.names ++ (N.added ++ T1.added) = T1.grown ∙ ap (λ (l : List NodeNames). l ++ T1.added) N.grown ∙ append_assoc S.middle.tables.names N.added T1.added in
      let here : Passage = record { variables = A.made.variables; loops = A.made.loops; variable = length t'.vars; variable' = length C.tables.vars; loop = length t'.loops; loop' = length C.tables.loops } in
      let past : Made = record { variables = A.made.variables; loops = A.made.loops; passages = here ∷ A.made.passages } in
      let on : Grows A.made past = record { variables = λ n m h. h; loops = λ n m h. h; passages = λ x h. inr h } in
      record {
        made = past;
        grows = grows_on A.grows on;
        table = C.tables;
        answer = and_ok (in_statements There sc' ls' at' 0 (as_statements (front ++ call)) u) C.end (λ r. in_optional There r.scope ls' (child at' k') o' r.tables) (Ok C.tables) (join There sc' ls' at' 0 front call u m1 C.end first C.goes) C.ends;
        reached = record {
          vars = widens A.made.variables (length S.middle.tables.vars) (length A.table.vars) (length t'.vars) (length C.tables.vars) g.0 g'.0 A.reached.vars;
          loops = widens A.made.loops (length S.middle.tables.loops) (length A.table.loops) (length t'.loops) (length C.tables.loops) g.1 g'.1 A.reached.loops;
          passages = passed_on A.made A.made.variables (length S.middle.tables.vars) (length A.table.vars) (length S.middle.tables.loops) (length A.table.loops) (length t'.vars) (length C.tables.vars) (length t'.loops) (length C.tables.loops) g.0 g'.0 g.1 g'.1
              (below_wider A.made.variables (length S.middle.tables.vars) (length A.table.vars) (length t'.vars) (length C.tables.vars) g.0 g'.0 A.reached.passages.below) (λ few few' i j y. inl y) A.reached.passages;
        };
        added = A.added ++ (N.added ++ T1.added);
        added' = A.added' ++ (D.added ++ G.added);
        grown = grown_text ∙ ap (λ (l : List NodeNames). l ++ (N.added ++ T1.added)) A.grown ∙ append_assoc t.names A.added (N.added ++ T1.added);
        grown' = grown ∙ ap (λ (l : List NodeNames). l ++ (D.added ++ G.added)) A.grown' ∙ append_assoc u.names A.added' (D.added ++ G.added);
        numbers = λ R sw m m'.
            let sv = serves_before on sw in
            let NA = subst (λ (z : Statements). Numbers (LikeStatements no_holes R) t u S.middle.tables A.table A.added A.added' (of_statements (as_statements front)) (of_statements z)) (statements_kept s [] [] (as_statements front)) (A.numbers R sv) in
            let NS : Numbers (λ p p'. StoodLast sc sc' at at' t u R p.0 p.1 p'.0 p'.1) S.middle.tables A.table t' C.tables (N.added ++ T1.added) (D.added ++ G.added) (with_tail m run o) (with_tail m' call o') = record {
              holds = λ c c' rest rest' q e e'.
                  let x = (tails_alone m run o N.numbers (T1.numbers m)).holds c rest (q.declared, q.loops) e in let y = (tails_alone m' call o' D.numbers (G.numbers m')).holds c' rest' (q.declared', q.loops') e' in record {
                    like = record {
                      text = record { middle = S.middle; comes = S.front; place = i1; way = child at k; resolves = text; added = N.added ++ T1.added; grown = grown_text; cursor = c; rest = rest; stands = (q.declared, q.loops); names = e; site = m; is = refl; is_last = refl };
                      made = record { middle = m1; comes = first; place = i1; way = child at' k'; resolves = C; added = D.added ++ G.added; grown = grown; cursor = c'; rest = rest'; stands = (q.declared', q.loops'); names = e'; site = m'; is = refl; is_last = refl };
                      names = λ z. by_renaming items A.made R sv (variable_named S.middle.scope z) (variable_named A.answer.0 z) (meet1 z);
                      earlier = λ z. made_in_front A.made.variables (length S.middle.tables.vars) (length A.table.vars) A.reached.passages.below (variable_named S.middle.scope z) (variable_named A.answer.0 z) (meet1 z);
                      variables = λ n k w. in_front_or A.made.variables (length S.middle.tables.vars) (length A.table.vars) (length t'.vars) (length C.tables.vars) A.reached.passages.below n k ((sw.passages here (inl refl)).variables n k w);
                      loops = λ n k w. in_front_or A.made.loops (length S.middle.tables.loops) (length A.table.loops) (length t'.loops) (length C.tables.loops) A.reached.passages.below_loops n k ((sw.passages here (inl refl)).loops n k w);
                      told = Z.told (D.added ++ G.added) grown R sv m' c' rest' (q.declared', q.loops') e';
                    };
                    cursors = record { declared = x.stands.0; declared' = y.stands.0; loops = x.stands.1; loops' = y.stands.1 };
                    left = x.left;
                    left' = y.left;
                  };
            } in
            by_equal {S = EndReplaced R (length front) (StoodLast sc sc' at at' t u R)} (in_parts s m front run o) (of_body m (plain.body s (as_statements (front ++ run)) o)) (in_parts s m' front call o') (of_body m' (plain.body s (as_statements (front ++ call)) o'))
            (body_in_parts s m front run o) (body_in_parts s m' front call o')
            (numbers_node s m m' (λ n n' g. numbers_then_told {W = λ (x : named.Statements). many x ≡ length front} {W' = λ (x : named.Statements). many x ≡ length front} NA (many_numbered front) (many_numbered front) (λ x x' v v' l. numbers_map (λ p. named.body n (joined x p.0) p.1) (λ p. named.body n' (joined x' p.0) p.1)
            NS (λ p p' d. end_replaced x x' p.0 p'.0 v g l d))));
      }
