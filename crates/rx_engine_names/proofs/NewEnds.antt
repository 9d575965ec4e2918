-- The end of the new function in each shape: the parts behind its locals resolve, and for each cursor of the text their trees are such
-- an end.
use Rattle.std.proofs.Common.{◌≡◌, ℕ, Bool, true, false, ◌&&◌, ◌||◌, if◌then◌else◌, List, [], ◌∷◌, ◌++◌, length, map, Option, Some, None, Ok, refl, sym, ap, ◌∙◌, subst, append_assoc, append-nil, bytes_eq}
use Rattle.rx_core.specs.declared.types.Span.{Span}
use Rattle.rx_tree.specs.Lists.{Every}
use Rattle.rx_tree.specs.Plain as plain
use Rattle.rx_tree.specs.Plain.{Expression, OptionalExpression, Statement, ProgramTree}
use Rattle.rx_resolve_names.specs.Scopes.{Variables, variable_named}
use Rattle.rx_resolve_names.specs.declared.resolved.ItemNames.{ItemNames}
use Rattle.rx_resolve_names.specs.declared.resolved.NodeNames.{NodeNames}
use Rattle.rx_resolve_names.specs.Meant.{number}
use Rattle.rx_resolve_names.specs.Steps.{Inside, child, next}
use Rattle.rx_resolve_names.specs.Names.{variant_in, in_expression, in_expressions, in_optional, in_statements, Scoped}
use Rattle.rx_typed.specs.declared.nodes.Node.{Node}
use Rattle.rx_typed.specs.declared.nodes.Site.{Site}
use Rattle.rx_typed.specs.declared.nodes.Use.{Use}
use Rattle.rx_typed.specs.Types.{Typ}
use Rattle.rx_typed.specs.Named as named
use Rattle.rx_typed.specs.Named.{Written, Exp, Exps, Else}
use Rattle.rx_typed.specs.Naming as numbering
use Rattle.rx_typed.specs.Naming.{Cursor, Numbering, give, of_expression, of_optional, of_statements}
use Rattle.rx_hoist_extraction.specs.Names.{Names}
use Rattle.rx_hoist_extraction.specs.Run.{Parts, as_statements}
use Rattle.rx_hoist_extraction.specs.Plan.{to_next, has_exit, has_enum, outs_of, names_of, enum_name, exit_name}
use Rattle.rx_hoist_extraction.specs.Made.{ident, as_expressions, variant, done, let_typed, joined as made_joined}
use Rattle.rx_hoist_extraction.specs.NewBody.{is_any, stays_last}
use Rattle.rx_hoist_extraction.specs.WrittenTypes.{elided}
use Rattle.rx_hoist_extraction.specs.Moved.{moving}
use Rattle.rx_engine_names.specs.Renaming.{Renaming, Made, Serves}
use Rattle.rx_engine_names.specs.LikeNamed.{LikeExp, LikeStatements, like_absent, like_present}
use Rattle.rx_engine_names.specs.Moves.{Moves, AreOuts, no_outs, more_outs, IsVariant, is_variant, rounds, StandsAt, moved}
use Rattle.rx_engine_names.specs.Replaced.{joined}
use Rattle.rx_engine_names.specs.WrittenOut.{Says}
use Rattle.rx_engine_names.specs.NewBody.{value_first, HandedOn, handed_in_next, handed_alone, handed_in_tuple, IsDone, tail_done, has_value, goes_on, last_one, IsEnd, value_in_next, value_alone, value_bound, outs_behind, nothing_behind, last_is_tail, last_is_done}
use Rattle.rx_engine_names.proofs.SideBySide.{Grows, grows_on, grows_not, serves_before}
use Rattle.rx_engine_names.proofs.Fitting.{FitItems}
use Rattle.rx_engine_names.proofs.FoundTypes.{Finds}
use Rattle.rx_engine_names.proofs.NewScopes.{same_name}
use Rattle.rx_engine_names.proofs.MadeTypes.{elided_made}
use Rattle.rx_engine_names.proofs.Alone.{Alone, weaker, alone_give, alone_then, alone_map, KindAlone, Makes, makes_nothing, makes_then, makes_map}
use Rattle.rx_engine_names.proofs.MadeCalls.{ExpAlone, ExpsAlone}
use Rattle.rx_engine_names.proofs.MadeRows.{Later, makes_later, ForText, ElseAlone, RowAlone, Joined, joined_of, Single, single_of, Row, row_then, row_of_one, IsStatement, is_statement, statement_made, IsLet, is_let, let_made, bound_there}
use Rattle.rx_engine_names.proofs.MovedRows.{TailLike, MovedRow, changed_list}
use Rattle.rx_engine_names.proofs.HandedOut.{First, first_of, IsTuple, is_tuple, IsUse, is_use, use_made, OutMeant, out_made, outs_made, outs_later, operand_made, variant_made, tuple_made}
use Rattle.rx_engine_names.proofs.ReplacedBlocks.{past_all, numbered_in_a_row}

-- ---- parts in the second alone

-- statements and a tail, numbered one behind the other
abbrev pub of_parts : Parts → Site → Numbering (named.Statements × Else)
of_parts p k = numbering.and_then (of_statements (as_statements p.statements)) (λ ss. numbering.and_then (of_optional k p.tail) (λ o. give (ss, o)))

abbrev pub PartsResolve : Inside → Variables → List ℕ → ℕ → List ℕ → ItemNames → Parts → ItemNames → Type 0
PartsResolve I' sc at' i' at2 u p v = (r : Scoped) × (in_statements I' sc [] at' i' (as_statements p.statements) u ≡ Ok r) × (in_optional I' r.scope [] at2 p.tail r.tables ≡ Ok v)

abbrev pub PartsAlone : (Renaming → named.Statements × Else → Type 0) → ItemNames → Parts → KindAlone
PartsAlone S u p R u' es = (k : Site) → Alone (S R) u u' es (of_parts p k)

-- what is there, what is not
pub data Present (S : Exp → Type 0) : Else → Type 0 where
  present_of : {e : Exp} → S e → Present S (named.present e)

pub data Absent : Else → Type 0 where
  absent_is : Absent named.absent

pub parts_made : {items : ℕ → ℕ} {M : Made} (I' : Inside) (sc sc1 : Variables) (at' : List ℕ) (i' : ℕ) (at2 : List ℕ) (u : ItemNames) (p : Parts) (S : Renaming → named.Statements → Type 0) (T : Renaming → Else → Type 0)
    → (a : Row items M I' [] at' i' sc u p.statements sc1 S) → Makes items M a.table (λ v. in_optional I' sc1 [] at2 p.tail a.table ≡ Ok v) (ElseAlone T a.table p.tail)
    → Makes items M u (PartsResolve I' sc at' i' at2 u p) (PartsAlone (λ R z. S R z.0 × T R z.1) u p)
parts_made I' sc sc1 at' i' at2 u p S T a b =
    makes_then a b (λ x y. (record { scope = sc1; tables = a.table }, x, y)) (λ R sv N O k. alone_then N (λ ys h. alone_map (λ o. (ys, o)) (O k) (λ o g. (h, g))))

pub tail_made : {items : ℕ → ℕ} {M : Made} (I' : Inside) (sc : Variables) (at2 : List ℕ) (u : ItemNames) (e : Expression) (S : Renaming → Exp → Type 0) → Makes items M u (λ v. in_expression I' sc [] at2 e u ≡ Ok v) (ExpAlone S u e)
    → Makes items M u (λ v. in_optional I' sc [] at2 (plain.present e) u ≡ Ok v) (ElseAlone (λ R. Present (S R)) u (plain.present e))
tail_made I' sc at2 u e S a = makes_map a (λ x. x) (λ R sv N k. alone_map named.present (N false k) (λ b h. present_of h))

pub no_tail : {items : ℕ → ℕ} {M : Made} (I' : Inside) (sc : Variables) (at2 : List ℕ) (u : ItemNames) → Makes items M u (λ v. in_optional I' sc [] at2 plain.absent u ≡ Ok v) (ElseAlone (λ R. Absent) u plain.absent)
no_tail I' sc at2 u = makes_nothing u (λ v. in_optional I' sc [] at2 plain.absent u ≡ Ok v) (ElseAlone (λ R. Absent) u plain.absent) refl (λ R k. alone_give named.absent absent_is)

-- ---- an end of the new function, beside these statements and this tail of the text, from the tables t to t'

abbrev pub EndFor : Moves → Variables → ItemNames → List NodeNames → List Statement → OptionalExpression → Renaming → named.Statements × Else → Type 0
EndFor V behind t es xs o R z = (k : Site) (c : Cursor) (rest : List NodeNames) → StandsAt t c → c.names ≡ es ++ rest
    → IsEnd V (record V { scope = behind }) R (of_statements (as_statements xs) c).0 (of_optional k o (of_statements (as_statements xs) c).1).0 z.0 z.1

pub record EndMade (items : ℕ → ℕ) (V : Moves) (I' : Inside) (start : Variables) (M : Made) (at' : List ℕ) (i' : ℕ) (at2 : List ℕ) (u : ItemNames) (xs : List Statement) (o : OptionalExpression) (t t' : ItemNames) (behind : Variables) (p : Parts) : Type 0 where
  pub made : Made
  pub grows : Grows M made
  pub added : List NodeNames
  pub grown : t'.names ≡ t.names ++ added
  pub makes : Makes items made u (PartsResolve I' start at' i' at2 u p) (PartsAlone (EndFor V behind t added xs o) u p)

-- ---- no value

pub no_value : (o : Option Typ) → has_value o named.absent ≡ false
no_value None = refl
no_value (Some t) = refl

valueless : (o : Option Typ) → o ≡ None → (e : Exp) → has_value o (named.present e) ≡ false
valueless o h e = ap (λ (z : Option Typ). has_value z (named.present e)) h

module _ (items : ℕ → ℕ) (V : Moves) (I I' : Inside) (start : Variables) (M : Made) (at' : List ℕ) (i' : ℕ) (at2 : List ℕ) (xs : List Statement) (t u : ItemNames) (r : Scoped) (X : MovedRow items V I I' start M at' i' xs t u r) where
  -- the copy of the statements
  abbrev ys : List Statement
  ys = changed_list (moving V.plan V.place) [] (rounds V) xs

  abbrev W : Moves
  W = record V { scope = r.scope }

  -- an end beside these statements and this tail, from the tables t on
  abbrev EndAt : List Statement → OptionalExpression → ItemNames → Variables → Parts → Type 0
  EndAt zs o t' sc p = EndMade items V I' start M at' i' at2 u zs o t t' sc p

  abbrev RunLike : Renaming → named.Statements → Type 0
  RunLike R z = ForText (LikeStatements (moved V) R) t X.added (of_statements (as_statements xs)) z

  abbrev numbered : Cursor → named.Statements × Cursor
  numbered c = of_statements (as_statements xs) c

  run_read : (R : Renaming) (z : named.Statements) → RunLike R z → (more rest : List NodeNames) (c : Cursor) → StandsAt t c → c.names ≡ (X.added ++ more) ++ rest → LikeStatements (moved V) R (numbered c).0 z
  run_read R z h more rest c q e = h c (more ++ rest) q (e ∙ append_assoc X.added more rest)

  -- where the text has come to behind them
  stands_behind : (R : Renaming) → Serves items X.made R → (more rest : List NodeNames) (c : Cursor) → StandsAt t c → c.names ≡ (X.added ++ more) ++ rest → StandsAt r.tables (numbered c).1 × ((numbered c).1.names ≡ more ++ rest)
  stands_behind R sv more rest c q e = X.text R sv c (more ++ rest) q (e ∙ append_assoc X.added more rest)

  -- what the end is in the text, from what the copies are
  abbrev Reads : List NodeNames → (Renaming → named.Statements × Else → Type 0) → List Statement → OptionalExpression → Variables → Type 0
  Reads more S zs o sc = (R : Renaming) → Serves items X.made R → (k : Site) (c : Cursor) (rest : List NodeNames) → StandsAt t c → c.names ≡ (X.added ++ more) ++ rest → StandsAt r.tables (numbered c).1 → (numbered c).1.names ≡ more ++ rest
      → (z : named.Statements × Else) → S R z → IsEnd V (record V { scope = sc }) R (of_statements (as_statements zs) c).0 (of_optional k o (of_statements (as_statements zs) c).1).0 z.0 z.1

  ends_by : (t' : ItemNames) (more : List NodeNames) → t'.names ≡ r.tables.names ++ more → (zs : List Statement) (o : OptionalExpression) (sc : Variables) (p q : Parts) → q ≡ p → (S : Renaming → named.Statements × Else → Type 0)
      → (G : Made) → Grows X.made G → Makes items G u (PartsResolve I' start at' i' at2 u p) (PartsAlone S u p) → Reads more S zs o sc → EndAt zs o t' sc q
  ends_by t' more grown zs o sc p q is S G g P f = subst (EndAt zs o t' sc) (sym is) (record {
    made = G;
    grows = grows_on X.grows g;
    added = X.added ++ more;
    grown = grown ∙ ap (λ (l : List NodeNames). l ++ more) X.grown ∙ append_assoc t.names X.added more;
    makes = makes_map P (λ a. a) (λ R sv N k. weaker (N k) (λ z h. λ k c rest w d. let sv1 = serves_before g sv in let y = stands_behind R sv1 more rest c w d in f R sv1 k c rest w d y.0 y.1 z h));
  })

  -- ---- with nothing behind the statements

  -- nothing becomes of them
  pub stays_alone : goes_on V ≡ false → (q : Parts) → q ≡ record { statements = ys; tail = plain.absent } → EndAt xs plain.absent r.tables r.scope q
  stays_alone goes q is =
      let p : Parts = record { statements = ys; tail = plain.absent } in
      ends_by r.tables [] (sym (append-nil r.tables.names)) xs plain.absent r.scope p q is (λ R z. RunLike R z.0 × Absent z.1) X.made (grows_not X.made)
      (parts_made I' start X.scope at' i' at2 u p RunLike (λ R. Absent) X.row (no_tail I' X.scope at2 X.row.table)) (λ R sv k c rest w d y e z h. by R c rest w d z.0 z.1 h.0 h.1)
    where
      by : (R : Renaming) (c : Cursor) (rest : List NodeNames) → StandsAt t c → c.names ≡ (X.added ++ []) ++ rest → (a : named.Statements) (b : Else) → RunLike R a → Absent b → IsEnd V W R (numbered c).0 named.absent a b
      by R c rest w d a b h absent_is = nothing_behind (no_value V.plan.value) goes (run_read R a h [] rest c w d) like_absent

  -- ---- the outs of Next

  abbrev next_names : Names
  next_names = names_of (outs_of to_next V.plan.exits)

  abbrev Meant : Made → Names → Type 0
  Meant G ns = Every (OutMeant items W I' X.scope [] G) ns

  abbrev NextStands : Type 0
  NextStands = variant_in I' (ident V.place (enum_name V.plan)) (ident V.place (exit_name to_next)) ≡ Ok (V.enum ∷ V.variant to_next ∷ [])

  abbrev vars : Names → List Expression
  vars ns = map (plain.var V.place) ns

  outs_alone : (G : Made) (ns : Names) → Meant G ns → (v : ItemNames) → Later items G v (λ w. in_expressions I' X.scope [] at2 0 (as_expressions (vars ns)) v ≡ Ok w) (ExpsAlone (λ R. AreOuts W R ns) v (as_expressions (vars ns)))
  outs_alone G ns h v = record { made = G; grows = grows_not G; makes = outs_made items W I' X.scope [] G at2 0 ns h v }

  -- in Next, alone, or in a tuple
  abbrev handed_on : Bool → Names → OptionalExpression
  handed_on b ns = if b then plain.present (variant V.place (enum_name V.plan) (exit_name to_next) (vars ns)) else made_joined V.place (vars ns)

  hand_on : (G : Made) (ns : Names) (b : Bool) → has_enum V.plan.exits ≡ b → (b ≡ true → NextStands) → (b || is_any (vars ns)) ≡ true → Meant G ns → (v : ItemNames)
      → Later items G v (λ w. in_optional I' X.scope [] at2 (handed_on b ns) v ≡ Ok w) (ElseAlone (λ R. HandedOn V (AreOuts W R ns)) v (handed_on b ns))
  hand_on G ns true has next any h v =
      let L = variant_made items V I' X.scope [] G at2 to_next (vars ns) (λ R. AreOuts W R ns) (next refl) (outs_alone G ns h) v in
      record { made = L.made; grows = L.grows; makes = makes_map L.makes (λ a. a) (λ R sv N k. alone_map named.present (N false k) (λ b g. handed_in_next has g)) }
  hand_on G [] false has next any h v = absurd (cc)
  hand_on G (x ∷ []) false has next any h v =
      record { made = G; grows = grows_not G; makes = makes_map (out_made items W I' X.scope [] G at2 x h.0 v) (λ a. a) (λ R sv N k. alone_map named.present (N false k) (λ b g. handed_alone has (more_outs g no_outs))) }
  hand_on G (x ∷ y ∷ ns) false has next any h v =
      let es = as_expressions (vars (x ∷ y ∷ ns)) in
      record {
        made = G;
        grows = grows_not G;
        makes = makes_map (tuple_made items V I' X.scope [] G at2 es (λ R. AreOuts W R (x ∷ y ∷ ns)) v (outs_made items W I' X.scope [] G at2 0 (x ∷ y ∷ ns) h v)) (λ a. a)
            (λ R sv N k. alone_map named.present (N false k) (λ b g. tuple_handed has g));
      }
    where
      tuple_handed : {R : Renaming} {b : Exp} → has_enum V.plan.exits ≡ false → IsTuple V.place (AreOuts W R (x ∷ y ∷ ns)) b → HandedOn V (AreOuts W R (x ∷ y ∷ ns)) (named.present b)
      tuple_handed f (is_tuple p (more_outs d (more_outs g o))) = handed_in_tuple f p (more_outs d (more_outs g o))

  -- behind the statements, and behind a tail that became a statement
  abbrev DoneRow : (Renaming → named.Statements → Type 0) → List Statement → Type 0
  DoneRow D zs = Later items X.made X.row.table (λ v. in_statements I' X.scope [] at' (past_all i' ys) (as_statements zs) X.row.table ≡ Ok (record { scope = X.scope; tables = v })) (RowAlone D X.row.table zs)

  both_true : (a b : Bool) → (a && b) ≡ true → (a ≡ true) × (b ≡ true)
  both_true true b e = (refl, e)
  both_true false b e = absurd (cc)

  pub outs_end : (o : OptionalExpression) (t' : ItemNames) (more : List NodeNames) → t'.names ≡ r.tables.names ++ more → (zs : List Statement) (D : Renaming → named.Statements → Type 0) → DoneRow D zs
      → ((R : Renaming) → Serves items X.made R → (k : Site) (c : Cursor) (rest : List NodeNames) → StandsAt r.tables c → c.names ≡ more ++ rest → (z : named.Statements) → D R z → IsDone V R (of_optional k o c).0 z)
      → ((k : Site) (c : Cursor) → has_value V.plan.value (of_optional k o c).0 ≡ false) → goes_on V ≡ true → (has_enum V.plan.exits ≡ true → has_exit to_next V.plan.exits ≡ true → NextStands) → Meant X.made next_names
      → (q : Parts) → q ≡ record { statements = ys ++ zs; tail = handed_on (has_enum V.plan.exits) next_names } → EndAt xs o t' r.scope q
  outs_end o t' more grown zs D N reads none goes next h q is =
      let g = both_true (has_exit to_next V.plan.exits) (has_enum V.plan.exits || is_any (vars next_names)) goes in
      let b = row_then items N.made I' [] at' i' start X.scope X.scope u ys zs RunLike D (makes_later N.grows X.row) N.makes in
      let H = hand_on N.made next_names (has_enum V.plan.exits) refl (λ e. next e g.0) g.1 (outs_later items W I' X.scope [] X.made N.made N.grows next_names h) b.table in
      let p : Parts = record { statements = ys ++ zs; tail = handed_on (has_enum V.plan.exits) next_names } in
      ends_by t' more grown xs o r.scope p q is (λ R z. Joined (RunLike R) (D R) z.0 × HandedOn V (AreOuts W R next_names) z.1) H.made (grows_on N.grows H.grows)
      (parts_made I' start X.scope at' i' at2 u p (λ R. Joined (RunLike R) (D R)) (λ R. HandedOn V (AreOuts W R next_names)) (makes_later H.grows b) H.makes)
      (λ R sv k c rest w d y e z f. by R sv k c rest w d y e z.0 z.1 f.0 f.1)
    where
      by : (R : Renaming) → Serves items X.made R → (k : Site) (c : Cursor) (rest : List NodeNames) → StandsAt t c → c.names ≡ (X.added ++ more) ++ rest → StandsAt r.tables (numbered c).1 → (numbered c).1.names ≡ more ++ rest
          → (a : named.Statements) (b : Else) → Joined (RunLike R) (D R) a → HandedOn V (AreOuts W R next_names) b → IsEnd V W R (numbered c).0 (of_optional k o (numbered c).1).0 a b
      by R sv k c rest w d y e z0 o1 (joined_of a b l m) f = outs_behind (none k (numbered c).1) goes (run_read R a l more rest c w d) (reads R sv k (numbered c).1 rest y e b m) f

  -- ---- with an expression behind the statements

  module _ (e e' : Expression) (t' : ItemNames) (more : List NodeNames) (grown : t'.names ≡ r.tables.names ++ more)
      (Y : (at3 : List ℕ) (v : ItemNames) → Later items X.made v (λ w. in_expression I' X.scope [] at3 e' v ≡ Ok w) (ExpAlone (TailLike V r.tables more e) v e')) where
    -- it is the tail
    pub tail_end : (q : Parts) → q ≡ record { statements = ys; tail = plain.present e' } → (zs : List Statement) (o : OptionalExpression) (sc : Variables)
        → ((R : Renaming) (k : Site) (c : Cursor) (rest : List NodeNames) → StandsAt r.tables (numbered c).1 → (numbered c).1.names ≡ more ++ rest → (a : named.Statements) (b : Exp) → LikeStatements (moved V) R (numbered c).0 a → TailLike V r.tables more e R b
        → IsEnd V (record V { scope = sc }) R (of_statements (as_statements zs) c).0 (of_optional k o (of_statements (as_statements zs) c).1).0 a (named.present b)) → EndAt zs o t' sc q
    tail_end q is zs o sc f =
        let L = Y at2 X.row.table in
        let p : Parts = record { statements = ys; tail = plain.present e' } in
        ends_by t' more grown zs o sc p q is (λ R z. RunLike R z.0 × Present (TailLike V r.tables more e R) z.1) L.made L.grows
        (parts_made I' start X.scope at' i' at2 u p RunLike (λ R. Present (TailLike V r.tables more e R)) (makes_later L.grows X.row) (tail_made I' X.scope at2 X.row.table e' (λ R. TailLike V r.tables more e R) L.makes))
        (λ R sv k c rest w d y n z h. by R k c rest w d y n z.0 z.1 h.0 h.1)
      where
        by : (R : Renaming) (k : Site) (c : Cursor) (rest : List NodeNames) → StandsAt t c → c.names ≡ (X.added ++ more) ++ rest → StandsAt r.tables (numbered c).1 → (numbered c).1.names ≡ more ++ rest → (a : named.Statements) (b : Else) → RunLike R a
            → Present (TailLike V r.tables more e R) b → IsEnd V (record V { scope = sc }) R (of_statements (as_statements zs) c).0 (of_optional k o (of_statements (as_statements zs) c).1).0 a b
        by R k c rest w d y n a o1 h (present_of {e = b} g) = f R k c rest y n a b (run_read R a h more rest c w d) g

    -- it is a statement with `;`
    done_statement : (s : Span) → DoneRow (λ R. Single (IsStatement s (TailLike V r.tables more e R))) (done s e' ∷ [])
    done_statement s =
        let j = past_all i' ys in
        let L = Y (child (child at' j) 0) X.row.table in
        record { made = L.made; grows = L.grows; makes = row_of_one items L.made I' [] at' j X.scope X.scope X.row.table (done s e') (λ R. IsStatement s (TailLike V r.tables more e R)) (statement_made items L.made I' [] (child at' j) X.scope s e' (λ R. TailLike V r.tables more e R) X.row.table L.makes) }

    -- the tail becomes a statement, and something is handed out
    pub outs_end_done : V.plan.value ≡ None → goes_on V ≡ true → (has_enum V.plan.exits ≡ true → has_exit to_next V.plan.exits ≡ true → NextStands) → Meant X.made next_names
        → (q : Parts) → q ≡ record { statements = ys ++ (done V.place e' ∷ []); tail = handed_on (has_enum V.plan.exits) next_names } → EndAt xs (plain.present e) t' r.scope q
    outs_end_done none goes next h q is = outs_end (plain.present e) t' more grown (done V.place e' ∷ []) (λ R. Single (IsStatement V.place (TailLike V r.tables more e R))) (done_statement V.place) (λ R sv k c rest y n z f. read R k c rest y n f)
        (λ k c. valueless V.plan.value none (of_expression false k e c).0) goes next h q is
      where
        read : (R : Renaming) (k : Site) (c : Cursor) (rest : List NodeNames) → StandsAt r.tables c → c.names ≡ more ++ rest → {z : named.Statements} → Single (IsStatement V.place (TailLike V r.tables more e R)) z → IsDone V R (named.present (of_expression false k e c).0) z
        read R k c rest y n (single_of (is_statement g f)) = tail_done g (f false k c rest y n)

    -- the last statement gets a `;`
    pub last_end_done : (s : Span) (zs : List Statement) (sc : Variables) (q : Parts) → zs ≡ xs ++ (plain.expression_statement s e false ∷ []) → goes_on V ≡ false → stays_last V.plan ≡ true → q ≡ record { statements = ys ++ (done s e' ∷ []); tail = plain.absent } → EndAt zs plain.absent t' sc q
    last_end_done s zs sc q same goes stays is =
        let N = done_statement s in
        let b = row_then items N.made I' [] at' i' start X.scope X.scope u ys (done s e' ∷ []) RunLike (λ R. Single (IsStatement s (TailLike V r.tables more e R))) (makes_later N.grows X.row) N.makes in
        let p : Parts = record { statements = ys ++ (done s e' ∷ []); tail = plain.absent } in
        ends_by t' more grown zs plain.absent sc p q is (λ R z. Joined (RunLike R) (Single (IsStatement s (TailLike V r.tables more e R))) z.0 × Absent z.1) N.made N.grows
        (parts_made I' start X.scope at' i' at2 u p (λ R. Joined (RunLike R) (Single (IsStatement s (TailLike V r.tables more e R)))) (λ R. Absent) b (no_tail I' X.scope at2 b.table))
        (λ R sv k c rest w d y n z h. by R c rest w d y n z.0 z.1 h.0 h.1)
      where
        by : (R : Renaming) (c : Cursor) (rest : List NodeNames) → StandsAt t c → c.names ≡ (X.added ++ more) ++ rest → StandsAt r.tables (numbered c).1 → (numbered c).1.names ≡ more ++ rest → (a : named.Statements) (b : Else)
            → Joined (RunLike R) (Single (IsStatement s (TailLike V r.tables more e R))) a → Absent b → IsEnd V (record V { scope = sc }) R (of_statements (as_statements zs) c).0 named.absent a b
        by R c rest w d y n z0 b (joined_of a z1 l (single_of (is_statement {n = m} {e = g} p f))) absent_is =
            let l0 = numbering.a_node s Site.Value (numbered c).1 in
            subst (λ (z : List Statement). IsEnd V (record V { scope = sc }) R (of_statements (as_statements z) c).0 named.absent (joined a (last_one m g true)) named.absent) (sym same)
            (subst (λ (z : named.Statements × Cursor). IsEnd V (record V { scope = sc }) R z.0 named.absent (joined a (last_one m g true)) named.absent) (sym (numbered_in_a_row xs (plain.expression_statement s e false ∷ []) c))
            (last_is_done l0.0 m goes stays (run_read R a l more rest c w d) (sym p) (f false Site.Value l0.1 rest y n)))

    -- the last statement becomes the tail
    pub last_end_tail : (s : Span) (zs : List Statement) (sc : Variables) (q : Parts) → zs ≡ xs ++ (plain.expression_statement s e false ∷ []) → goes_on V ≡ false → stays_last V.plan ≡ false → q ≡ record { statements = ys; tail = plain.present e' } → EndAt zs plain.absent t' sc q
    last_end_tail s zs sc q same goes stays is = tail_end q is zs plain.absent sc
        (λ R k c rest y n a b l f.
        let l0 = numbering.a_node s Site.Value (numbered c).1 in
        subst (λ (z : List Statement). IsEnd V (record V { scope = sc }) R (of_statements (as_statements z) c).0 named.absent a (named.present b)) (sym same)
        (subst (λ (z : named.Statements × Cursor). IsEnd V (record V { scope = sc }) R z.0 named.absent a (named.present b)) (sym (numbered_in_a_row xs (plain.expression_statement s e false ∷ []) c))
        (last_is_tail l0.0 goes stays l (f false Site.Value l0.1 rest y n))))

    -- a value alone, or a tail that stays it
    pub value_end_alone : (tp : Typ) → V.plan.value ≡ Some tp → has_enum V.plan.exits ≡ false → outs_of to_next V.plan.exits ≡ [] → (q : Parts) → q ≡ record { statements = ys; tail = plain.present e' } → EndAt xs (plain.present e) t' r.scope q
    value_end_alone tp is has none q same = tail_end q same xs (plain.present e) r.scope (λ R k c rest y n a b l f. value_alone is has none l (f false k (numbered c).1 rest y n))

    pub tail_end_alone : V.plan.value ≡ None → goes_on V ≡ false → (q : Parts) → q ≡ record { statements = ys; tail = plain.present e' } → EndAt xs (plain.present e) t' r.scope q
    tail_end_alone none goes q same = tail_end q same xs (plain.present e) r.scope
        (λ R k c rest y n a b l f. nothing_behind (valueless V.plan.value none (of_expression false k e (numbered c).1).0) goes l (like_present (f false k (numbered c).1 rest y n)))

    -- a value in Next
    value_first_made : (v : ItemNames) → Meant X.made next_names → Later items X.made v (λ w. in_expressions I' X.scope [] at2 0 (as_expressions (e' ∷ vars next_names)) v ≡ Ok w)
        (ExpsAlone (λ R. First (TailLike V r.tables more e R) (AreOuts W R next_names)) v (as_expressions (e' ∷ vars next_names)))
    value_first_made v h =
        let L = Y (child at2 0) v in record {
          made = L.made;
          grows = L.grows;
          makes = operand_made items V I' X.scope [] L.made at2 0 e' (as_expressions (vars next_names)) (λ R. TailLike V r.tables more e R) (λ R. AreOuts W R next_names) v L.makes
              (outs_made items W I' X.scope [] L.made at2 (next 0) next_names (outs_later items W I' X.scope [] X.made L.made L.grows next_names h) L.makes.table);
        }

    pub value_end_next : (tp : Typ) → V.plan.value ≡ Some tp → has_enum V.plan.exits ≡ true → NextStands → Meant X.made next_names
        → (q : Parts) → q ≡ record { statements = ys; tail = plain.present (variant V.place (enum_name V.plan) (exit_name to_next) (e' ∷ vars next_names)) } → EndAt xs (plain.present e) t' r.scope q
    value_end_next tp is has next h q same =
        let f = variant V.place (enum_name V.plan) (exit_name to_next) (e' ∷ vars next_names) in
        let S : Renaming → Exp → Type 0 = λ R b. IsVariant V to_next (First (TailLike V r.tables more e R) (AreOuts W R next_names)) b in
        let L = variant_made items V I' X.scope [] X.made at2 to_next (e' ∷ vars next_names) (λ R. First (TailLike V r.tables more e R) (AreOuts W R next_names)) next (λ v. value_first_made v h) X.row.table in
        let p : Parts = record { statements = ys; tail = plain.present f } in
        ends_by t' more grown xs (plain.present e) r.scope p q same (λ R z. RunLike R z.0 × Present (S R) z.1) L.made L.grows
        (parts_made I' start X.scope at' i' at2 u p RunLike (λ R. Present (S R)) (makes_later L.grows X.row) (tail_made I' X.scope at2 X.row.table f S L.makes))
        (λ R sv k c rest w d y n z g. by R k c rest w d y n z.0 z.1 g.0 g.1)
      where
        by : (R : Renaming) (k : Site) (c : Cursor) (rest : List NodeNames) → StandsAt t c → c.names ≡ (X.added ++ more) ++ rest → StandsAt r.tables (numbered c).1 → (numbered c).1.names ≡ more ++ rest → (a : named.Statements) (b : Else) → RunLike R a
            → Present (λ b. IsVariant V to_next (First (TailLike V r.tables more e R) (AreOuts W R next_names)) b) b → IsEnd V W R (numbered c).0 (named.present (of_expression false k e (numbered c).1).0) a b
        by R k c rest w d y n a b h (present_of (is_variant g (first_of m o))) = value_in_next is has (run_read R a h more rest c w d) (m false k (numbered c).1 rest y n) (is_variant g (value_first o))

    -- a value that is bound in front of the tuple
    module _ (P : ProgramTree) (F : FitItems items I I') (tp : Typ) (found : Finds I P tp) (out0 : List ℕ) where
      abbrev way : List ℕ
      way = child at' (past_all i' ys)

      abbrev binds : Statement
      binds = let_typed V.place out0 (elided P V.place tp) e'

      abbrev number_of : ℕ
      number_of = length X.row.table.vars

      -- the scope behind it
      abbrev inner : Variables
      inner = record { name = out0; number = number number_of } ∷ X.scope

      abbrev IsBound : Renaming → named.Statement → Type 0
      IsBound R = IsLet V.place number_of (λ w. Says R tp w) (TailLike V r.tables more e R)

      outs_within : (G : Made) (ns : Names) → Every (λ (y : List ℕ). bytes_eq y out0 ≡ false) ns → Meant G ns → Every (OutMeant items W I' inner [] G) ns
      outs_within G [] d h = tt
      outs_within G (y ∷ ns) d h = ((h.0.0, h.0.1, h.0.2, ap (λ (b : Bool). if b then Some (number number_of) else variable_named X.scope y) d.0 ∙ h.0.3, h.0.4), outs_within G ns d.1 h.1)

      bound_row : Later items X.made X.row.table (λ v. in_statements I' X.scope [] at' (past_all i' ys) (as_statements (binds ∷ [])) X.row.table ≡ Ok (record { scope = inner; tables = v })) (RowAlone (λ R. Single (IsBound R)) X.row.table (binds ∷ []))
      bound_row =
          let T = elided_made items X.made I' V.place I F P (child way 1) tp found (bound_there I' (child way 0) V.place X.row.table) in
          let L = Y (child way 2) T.table in
          let one = let_made items L.made I' [] way X.scope V.place out0 (elided P V.place tp) e' (λ R w. Says R tp w) (λ R. TailLike V r.tables more e R) X.row.table (makes_later L.grows T) L.makes in
          record { made = L.made; grows = L.grows; makes = row_of_one items L.made I' [] at' (past_all i' ys) X.scope inner X.row.table binds IsBound one }

      abbrev HandedTuple : Renaming → Exp → Type 0
      HandedTuple R = IsTuple V.place (First (IsUse V.place (number number_of)) (AreOuts W R next_names))

      pub value_end_bound : V.plan.value ≡ Some tp → has_enum V.plan.exits ≡ false → (x : List ℕ) (ns : Names) → next_names ≡ x ∷ ns → Meant X.made next_names → Every (λ (y : List ℕ). bytes_eq y out0 ≡ false) next_names
          → (q : Parts) → q ≡ record { statements = ys ++ (binds ∷ []); tail = plain.present (plain.tuple V.place (as_expressions (plain.var V.place out0 ∷ vars next_names))) } → EndAt xs (plain.present e) t' r.scope q
      value_end_bound is has x ns any h d q same =
          let N = bound_row in
          let G = N.made in
          let b = row_then items G I' [] at' i' start X.scope inner u ys (binds ∷ []) RunLike (λ R. Single (IsBound R)) (makes_later N.grows X.row) N.makes in
          let own = use_made items V I' inner [] G (child at2 0) V.place out0 (number number_of) (ap (λ (c : Bool). if c then Some (number number_of) else variable_named X.scope out0) (same_name out0)) b.table in
          let outs = outs_made items W I' inner [] G at2 (next 0) next_names (outs_within G next_names d (outs_later items W I' X.scope [] X.made G N.grows next_names h)) own.table in
          let ops = operand_made items V I' inner [] G at2 0 (plain.var V.place out0) (as_expressions (vars next_names)) (λ R. IsUse V.place (number number_of)) (λ R. AreOuts W R next_names) b.table own outs in
          let pair = tuple_made items V I' inner [] G at2 (as_expressions (plain.var V.place out0 ∷ vars next_names)) (λ R. First (IsUse V.place (number number_of)) (AreOuts W R next_names)) b.table ops in
          let p : Parts = record { statements = ys ++ (binds ∷ []); tail = plain.present (plain.tuple V.place (as_expressions (plain.var V.place out0 ∷ vars next_names))) } in
          ends_by t' more grown xs (plain.present e) r.scope p q same (λ R z. Joined (RunLike R) (Single (IsBound R)) z.0 × Present (HandedTuple R) z.1) G N.grows
          (parts_made I' start inner at' i' at2 u p (λ R. Joined (RunLike R) (Single (IsBound R))) (λ R. Present (HandedTuple R)) b (tail_made I' inner at2 b.table (plain.tuple V.place (as_expressions (plain.var V.place out0 ∷ vars next_names))) HandedTuple pair))
          (λ R sv k c rest w d y n z g. by R k c rest w d y n z.0 z.1 g.0 g.1)
        where
          ends : (R : Renaming) (k : Site) (c : Cursor) (a : named.Statements) (os : Exps) (l p n m : Node) (v : Use) (w : Written) (g : Exp) → LikeStatements (moved V) R (numbered c).0 a → LikeExp (moved V) R (of_expression false k e (numbered c).1).0 g → l.span ≡ V.place → p.span ≡ V.place → n.span ≡ V.place → m.span ≡ V.place
              → Says R tp w → v.number ≡ number number_of → (zs : Names) → next_names ≡ zs → zs ≡ x ∷ ns → AreOuts W R zs os
              → IsEnd V W R (numbered c).0 (named.present (of_expression false k e (numbered c).1).0) (joined a (named.statement_and (named.lets l (named.bind p number_of false) (Some w) g) named.no_statement)) (named.present (named.tuple n (named.exp_and (named.var m v) os)))
          ends R k c a os l p n m v w g likes like lp pp np mp says num [] zs_is bad o = absurd (cc)
          ends R k c a os l p n m v w g likes like lp pp np mp says num (z ∷ zs) zs_is any (more_outs {e = o1} {es = os1} f rest) =
              value_bound l p number_of is has likes like lp pp np mp says num (subst (λ (ws : Names). AreOuts W R ws (named.exp_and o1 os1)) (sym zs_is) (more_outs f rest))

          whole : (R : Renaming) (k : Site) (c : Cursor) (rest : List NodeNames) → StandsAt r.tables (numbered c).1 → (numbered c).1.names ≡ more ++ rest → (a b : named.Statements) (m : Exp) → LikeStatements (moved V) R (numbered c).0 a → Single (IsBound R) b → HandedTuple R m
              → IsEnd V W R (numbered c).0 (named.present (of_expression false k e (numbered c).1).0) (joined a b) (named.present m)
          whole R k c rest y n a b m like (single_of (is_let {l = l} {p = p} {w = v} {e = g} lp pp says f)) (is_tuple {n = m1} mp (first_of {es = os} (is_use {n = j} {u = z} jp num) o)) =
              ends R k c a os l p m1 j z v g like (f false k (numbered c).1 rest y n) lp pp mp jp says num next_names refl any o

          by : (R : Renaming) (k : Site) (c : Cursor) (rest : List NodeNames) → StandsAt t c → c.names ≡ (X.added ++ more) ++ rest → StandsAt r.tables (numbered c).1 → (numbered c).1.names ≡ more ++ rest → (a : named.Statements) (b : Else)
              → Joined (RunLike R) (Single (IsBound R)) a → Present (HandedTuple R) b → IsEnd V W R (numbered c).0 (named.present (of_expression false k e (numbered c).1).0) a b
          by R k c rest w d y n z0 o1 (joined_of a b like bound) (present_of {e = m} t) = whole R k c rest y n a b m (run_read R a like more rest c w d) bound t
