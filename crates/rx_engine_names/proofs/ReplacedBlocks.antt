-- A block in which other statements stand for some: what stands in front and behind is copied, the text's own are numbered beside nothing.
use Rattle.std.proofs.Common.{◌≡◌, ℕ, suc, List, [], ◌∷◌, ◌++◌, length, Ok, refl, sym, ap, ◌∙◌, subst, append_assoc}
use Rattle.rx_core.specs.declared.types.Span.{Span}
use Rattle.rx_tree.specs.Lists.{listed}
use Rattle.rx_tree.specs.Plain as plain
use Rattle.rx_tree.specs.Plain.{Body, OptionalExpression, Statement, Statements, ProgramTree}
use Rattle.rx_resolve_names.specs.Scopes.{DeclaredNames, Variables}
use Rattle.rx_resolve_names.specs.declared.resolved.ItemNames.{ItemNames}
use Rattle.rx_resolve_names.specs.declared.resolved.NodeNames.{NodeNames}
use Rattle.rx_resolve_names.specs.Meant.{number, Around}
use Rattle.rx_resolve_names.specs.Steps.{Inside, child, next}
use Rattle.rx_resolve_names.specs.Names.{in_statement, in_statements, in_optional, in_block, Scoped}
use Rattle.rx_typed.specs.declared.nodes.Node.{Node}
use Rattle.rx_typed.specs.declared.nodes.Site.{Site}
use Rattle.rx_typed.specs.Named as named
use Rattle.rx_typed.specs.Naming as numbering
use Rattle.rx_typed.specs.Naming.{Cursor, Numbering, give, of_optional, of_statement, of_statements, of_body}
use Rattle.rx_hoist_extraction.specs.Names.{Names, behind_all}
use Rattle.rx_hoist_extraction.specs.Run.{as_statements}
use Rattle.rx_engine_names.specs.Renaming.{Renaming, Made}
use Rattle.rx_engine_names.specs.LikeNamed.{no_holes, SameSpan, LikeElse, LikeStatements}
use Rattle.rx_engine_names.specs.Within.{StatementsWithin}
use Rattle.rx_engine_names.specs.Replaced.{many, joined, Replaced, replaced, NamesAlike, LoopsAlike, only, Keeps, Stands, NumberedBehind, BothBehind, BlocksAlike, EndReplaced, end_replaced, StandsLast, NumberedLast, BothLast, EndsAlike}
use Rattle.rx_engine_names.proofs.SideBySide.{named_ok, and_ok, Kind, Numbered, Numbers, numbers_then, numbers_then_told, numbers_map, numbers_node, serves_before, Grows, grows_on, Part}
use Rattle.rx_engine_names.proofs.Fitting.{Fits}
use Rattle.rx_engine_names.proofs.CopiedExpressions.{statements_alike, optional_alike}
use Rattle.rx_engine_names.proofs.Standing.{later, in_scope}
use Rattle.rx_engine_names.proofs.MovedPlaces.{loose}
use Rattle.rx_engine_names.proofs.Alone.{Alone, alone_then, alone_map}
use Rattle.rx_engine_names.proofs.CopiedParts.{Copying, copied_special, copied_stand, names_behind, statements_kept, tail_kept, text_alone, tail_alone}

-- ---- statements in a row

-- the number behind statements
abbrev pub past_all : ℕ → List Statement → ℕ
past_all i [] = i
past_all i (x ∷ xs) = past_all (next i) xs

-- those in front, and those behind them
pub record Split (I : Inside) (sc : Variables) (ls : List Around) (at : List ℕ) (i : ℕ) (xs ys : List Statement) (t : ItemNames) (r : Scoped) : Type 0 where
  pub middle : Scoped
  pub front : in_statements I sc ls at i (as_statements xs) t ≡ Ok middle
  pub rest : in_statements I middle.scope ls at (past_all i xs) (as_statements ys) middle.tables ≡ Ok r

pub split : (I : Inside) (sc : Variables) (ls : List Around) (at : List ℕ) (i : ℕ) (xs ys : List Statement) (t : ItemNames) (r : Scoped) → in_statements I sc ls at i (as_statements (xs ++ ys)) t ≡ Ok r → Split I sc ls at i xs ys t r
split I sc ls at i [] ys t r e = record { middle = record { scope = sc; tables = t }; front = refl; rest = e }
split I sc ls at i (x ∷ xs) ys t r e =
    let X = named_ok (in_statement I sc ls (child at i) x t) (λ r. in_statements I r.scope ls at (next i) (as_statements (xs ++ ys)) r.tables) r e in
    let S = split I X.0.scope ls at (next i) xs ys X.0.tables r X.2 in
    record { middle = S.middle; front = and_ok (in_statement I sc ls (child at i) x t) X.0 (λ r. in_statements I r.scope ls at (next i) (as_statements xs) r.tables) (Ok S.middle) X.1 S.front; rest = S.rest }

pub join : (I : Inside) (sc : Variables) (ls : List Around) (at : List ℕ) (i : ℕ) (xs ys : List Statement) (t : ItemNames) (m r : Scoped) → in_statements I sc ls at i (as_statements xs) t ≡ Ok m → in_statements I m.scope ls at (past_all i xs) (as_statements ys) m.tables ≡ Ok r
    → in_statements I sc ls at i (as_statements (xs ++ ys)) t ≡ Ok r
join I sc ls at i [] ys t m r d e = ap (λ (z : Scoped). in_statements I z.scope ls at i (as_statements ys) z.tables) (let h : record { scope = sc; tables = t } ≡ m = cc in h) ∙ e
join I sc ls at i (x ∷ xs) ys t m r d e =
    let X = named_ok (in_statement I sc ls (child at i) x t) (λ r. in_statements I r.scope ls at (next i) (as_statements xs) r.tables) m d in
    and_ok (in_statement I sc ls (child at i) x t) X.0 (λ r. in_statements I r.scope ls at (next i) (as_statements (xs ++ ys)) r.tables) (Ok r) X.1 (join I X.0.scope ls at (next i) xs ys X.0.tables m r X.2 e)

abbrev pub in_a_row : List Statement → List Statement → Numbering named.Statements
in_a_row xs ys = numbering.and_then (of_statements (as_statements xs)) (λ a. numbering.and_then (of_statements (as_statements ys)) (λ b. give (joined a b)))

pub numbered_in_a_row : (xs ys : List Statement) (c : Cursor) → of_statements (as_statements (xs ++ ys)) c ≡ in_a_row xs ys c
numbered_in_a_row [] ys c = refl
numbered_in_a_row (x ∷ xs) ys c =
    let d = of_statement x c in ap (λ (z : named.Statements × Cursor). (named.statement_and d.0 z.0, z.1)) (numbered_in_a_row xs ys d.1)

pub many_numbered : (xs : List Statement) (c : Cursor) → many (of_statements (as_statements xs) c).0 ≡ length xs
many_numbered [] c = refl
many_numbered (x ∷ xs) c = ap suc (many_numbered xs (of_statement x c).1)

pub by_equal : {A A' : Type 0} {S : A → A' → Type 0} {t u t1 u1 : ItemNames} {es es' : List NodeNames} (m n : Numbering A) (m' n' : Numbering A') → ((c : Cursor) → n c ≡ m c) → ((c : Cursor) → n' c ≡ m' c) → Numbers S t u t1 u1 es es' m m' → Numbers S t u t1 u1 es es' n n'
by_equal {S = S} {t1 = t1} {u1 = u1} m n m' n' f f' N = record {
  holds = λ c c' rest rest' q e e'.
      subst (λ (z : _ × Cursor). Numbered S t1 u1 z (n' c') rest rest') (sym (f c))
      (subst (λ (z : _ × Cursor). Numbered S t1 u1 (m c) z rest rest') (sym (f' c')) (N.holds c c' rest rest' q e e'));
}

-- the text's own statements beside those that stand for them
pub beside : {A A' : Type 0} {S : A → Type 0} {P : A' → Type 0} {t u t1 u1 : ItemNames} {es es' : List NodeNames} {m : Numbering A} {m' : Numbering A'} → Alone S t t1 es m → Alone P u u1 es' m' → Numbers (λ a a'. S a × P a') t u t1 u1 es es' m m'
beside N O = record {
  holds = λ c c' rest rest' q e e'.
      let x = N.holds c rest (q.declared, q.loops) e in let y = O.holds c' rest' (q.declared', q.loops') e' in
      record { like = (x.like, y.like); cursors = record { declared = x.stands.0; declared' = y.stands.0; loops = x.stands.1; loops' = y.stands.1 }; left = x.left; left' = y.left };
}

-- ---- the parts of both

pub data Rows (R : Renaming) (front : ℕ) (P : named.Statements → named.Statements → Type 0) : named.Statements → named.Statements → Type 0 where
  rows : (a a' x y b b' : named.Statements) → many a ≡ front → LikeStatements no_holes R a a' → P x y → LikeStatements no_holes R b b' → Rows R front P (joined a (joined x b)) (joined a' (joined y b'))

data Ends (R : Renaming) (P : named.Statements → named.Statements → Type 0) : named.Statements → named.Statements → Type 0 where
  ends_with : (x y b b' : named.Statements) → P x y → LikeStatements no_holes R b b' → Ends R P (joined x b) (joined y b')

rows_of : {R : Renaming} {front : ℕ} {P : named.Statements → named.Statements → Type 0} (a a' z z' : named.Statements) → many a ≡ front → LikeStatements no_holes R a a' → Ends R P z z' → Rows R front P (joined a z) (joined a' z')
rows_of a a' z z' v l (ends_with x y b b' p d) = rows a a' x y b b' v l p d

body_of : {R : Renaming} {front : ℕ} {P : named.Statements → named.Statements → Type 0} (n n' : Node) (z z' : named.Statements) (o o' : named.Else) → SameSpan n n' → Rows R front P z z' → LikeElse no_holes R o o' → Replaced R front P (named.body n z o) (named.body n' z' o')
body_of n n' z z' o o' g (rows a a' x y b b' v l p m) d = replaced a a' x y b b' v g l p m d

module _ (front run call behind : List Statement) where
  pub rows_numbers : (R : Renaming) (P : named.Statements → named.Statements → Type 0) {t u t1 u1 t2 u2 t3 u3 : ItemNames} {es es' fs fs' gs gs' : List NodeNames}
      → Numbers (LikeStatements no_holes R) t u t1 u1 es es' (of_statements (as_statements front)) (of_statements (as_statements front)) → Numbers P t1 u1 t2 u2 fs fs' (of_statements (as_statements run)) (of_statements (as_statements call))
      → Numbers (LikeStatements no_holes R) t2 u2 t3 u3 gs gs' (of_statements (as_statements behind)) (of_statements (as_statements behind))
      → Numbers (Rows R (length front) P) t u t3 u3 (es ++ (fs ++ gs)) (es' ++ (fs' ++ gs')) (of_statements (as_statements (front ++ (run ++ behind)))) (of_statements (as_statements (front ++ (call ++ behind))))
  rows_numbers R P A N B =
      let E = by_equal {S = Ends R P} (in_a_row run behind) (of_statements (as_statements (run ++ behind))) (in_a_row call behind) (of_statements (as_statements (call ++ behind))) (numbered_in_a_row run behind) (numbered_in_a_row call behind)
      (numbers_then {S = P} N (λ x y p. numbers_map (joined x) (joined y) B (λ b b' l. ends_with x y b b' p l))) in
      by_equal (in_a_row front (run ++ behind)) (of_statements (as_statements (front ++ (run ++ behind)))) (in_a_row front (call ++ behind)) (of_statements (as_statements (front ++ (call ++ behind))))
      (numbered_in_a_row front (run ++ behind)) (numbered_in_a_row front (call ++ behind)) (numbers_then_told {W = λ (x : named.Statements). many x ≡ length front} {W' = λ (x : named.Statements). many x ≡ length front} A (many_numbered front) (many_numbered front) (λ a a' v v' l. numbers_map (joined a) (joined a') E (λ z z' d. rows_of a a' z z' v l d)))

  pub body_numbers : (R : Renaming) (P : named.Statements → named.Statements → Type 0) (s : Span) (o : OptionalExpression) (k k' : Site) {t u t1 u1 t2 u2 : ItemNames} {es es' fs fs' : List NodeNames}
      → Numbers (Rows R (length front) P) t u t1 u1 es es' (of_statements (as_statements (front ++ (run ++ behind)))) (of_statements (as_statements (front ++ (call ++ behind))))
      → Numbers (LikeElse no_holes R) t1 u1 t2 u2 fs fs' (of_optional k o) (of_optional k' o)
      → Numbers (Replaced R (length front) P) t u t2 u2 (es ++ fs) (es' ++ fs') (of_body k (plain.body s (as_statements (front ++ (run ++ behind))) o)) (of_body k' (plain.body s (as_statements (front ++ (call ++ behind))) o))
  body_numbers R P s o k k' N O = numbers_node s k k' (λ n n' g. numbers_then N (λ z z' d. numbers_map (named.body n z) (named.body n' z') O (λ o o' e. body_of n n' z z' o o' g d e)))

-- ---- the block

pub keeps_grows : {M M' : Made} → Keeps M M' → Grows M M'
keeps_grows k = record { variables = k.variables; loops = k.loops; passages = k.passages }

loops_later : (M M' : Made) (ls ls' : List Around) → Grows M M' → LoopsAlike M ls ls' → LoopsAlike M' ls ls'
loops_later M M' ls ls' g h l n e = let r = h l n e in (r.0, r.1, g.loops n r.0 r.2)

pub four : (t a n b o : List NodeNames) → (((t ++ a) ++ n) ++ b) ++ o ≡ t ++ ((a ++ (n ++ b)) ++ o)
four t a n b o =
    ap (λ (l : List NodeNames). (l ++ b) ++ o) (append_assoc t a n) ∙ ap (λ (l : List NodeNames). l ++ o) (append_assoc t (a ++ n) b) ∙ append_assoc t ((a ++ n) ++ b) o
    ∙ ap (λ (l : List NodeNames). t ++ (l ++ o)) (append_assoc a n b)

module _ (items : ℕ → ℕ) (P : ProgramTree) (a : ℕ) (L : DeclaredNames) (Q : ProgramTree) (b : ℕ) (F : Fits items (record { program = P; item = a; lifetimes = L }) (record { program = Q; item = b; lifetimes = L })) (ls ls' : List Around) (s : Span) (front run call behind : List Statement) (o : OptionalExpression) where
  abbrev I : Inside
  I = record { program = P; item = a; lifetimes = L }

  abbrev I' : Inside
  I' = record { program = Q; item = b; lifetimes = L }

  abbrev before : Body
  before = plain.body s (as_statements (front ++ (run ++ behind))) o

  abbrev after : Body
  after = plain.body s (as_statements (front ++ (call ++ behind))) o

  -- what stands in the hole
  abbrev pub Both : Variables → Variables → List ℕ → List ℕ → ItemNames → ItemNames → named.Statements → named.Statements → Type 0
  Both sc sc' at at' t u = BothBehind I I' sc sc' ls ls' at at' front run call t u

  abbrev pub BlockNumbers : Variables → Variables → List ℕ → List ℕ → ItemNames → ItemNames → ItemNames → Kind
  BlockNumbers sc sc' at at' t u t' R u' es es' = (k k' : Site) → Numbers (Replaced R (length front) (Both sc sc' at at' t u)) t u t' u' es es' (of_body k before) (of_body k' after)

  -- as a part of a walk
  pub block_part : (sc sc' : Variables) (M : Made) (xs : Names) → NamesAlike M xs sc sc' → LoopsAlike M ls ls' → StatementsWithin (only xs sc sc') xs [] (as_statements front) → (at at' : List ℕ) (t t' u : ItemNames)
      → ((r s : Scoped) (i : ℕ) → in_statements I sc ls at 0 (as_statements front) t ≡ Ok r → in_statements I r.scope ls at i (as_statements run) r.tables ≡ Ok s
      → (middle : Variables) (now : Made) → Keeps M now → NamesAlike now (behind_all xs (as_statements front)) r.scope middle → (j : ℕ) (w : ItemNames) → Stands I' ls' now middle at' j call s.scope behind o w)
      → in_block I sc ls at before t ≡ Ok t' → Part (loose items) M t t' u (λ G v. in_block I' sc' ls' at' after u ≡ Ok v) (BlockNumbers sc sc' at at' t u t')
  unfolding copied_stand
  block_part sc sc' M xs names loops within at at' t t' u stands e =
      let k = number (length (listed (as_statements (front ++ (run ++ behind))))) in let k' = number (length (listed (as_statements (front ++ (call ++ behind))))) in
      let i1 = past_all 0 front in let i2 = past_all i1 run in let j2 = past_all i1 call in
      let X = named_ok (in_statements I sc ls at 0 (as_statements (front ++ (run ++ behind))) t) (λ r. in_optional I r.scope ls (child at k) o r.tables) t' e in
      let S1 = split I sc ls at 0 front (run ++ behind) t X.0 X.1 in
      let S2 = split I S1.middle.scope ls at i1 run behind S1.middle.tables X.0 S1.rest in
      let w1 = copied_stand items I I' F xs sc sc' M ls ls' names loops in
      let A = statements_alike (Copying items I I' F xs sc sc') (copied_special items I I' F xs sc sc') M xs [] w1 at at' 0 0 (as_statements front) within t S1.middle u S1.front (record { vars = tt; loops = tt; passages = tt }) in
      let own1 = behind_all xs (as_statements front) in
      let N = text_alone P a L S1.middle.scope ls at i1 (as_statements run) S1.middle.tables S2.middle S2.front in
      let C = stands S1.middle S2.middle i1 S1.front S2.front A.answer.0 A.made (record { variables = A.grows.variables; loops = A.grows.loops; passages = A.grows.passages }) (names_behind items I I' F xs sc sc' A.made own1 S1.middle.scope A.answer.0 A.answer.2.variables) i1 A.table in
      let D = text_alone Q b L A.answer.0 ls' at' i1 (as_statements call) A.table (record { scope = C.scope; tables = C.tables }) C.resolves in
      let gC : Grows A.made C.made = keeps_grows C.stays in
      let K2 = Copying items I I' F C.names S2.middle.scope C.scope in
      let w2 = copied_stand items I I' F C.names S2.middle.scope C.scope C.made ls ls' C.alike (loops_later A.made C.made ls ls' gC (loops_later M A.made ls ls' A.grows loops)) in
      let B = statements_alike K2 (copied_special items I I' F C.names S2.middle.scope C.scope) C.made C.names [] w2 at at' i2 j2 (as_statements behind) C.follows S2.middle.tables X.0 C.tables S2.rest (record { vars = tt; loops = tt; passages = tt }) in
      let own3 = behind_all C.names (as_statements behind) in
      let w3 = in_scope K2 B.made C.names own3 [] (later K2 C.made B.made C.names [] w2 B.grows) X.0.scope B.answer.0 B.answer.2 in
      let O = optional_alike K2 (copied_special items I I' F C.names S2.middle.scope C.scope) B.made own3 [] w3 (child at k) (child at' k') o C.ends X.0.tables t' B.table X.2 (record { vars = tt; loops = tt; passages = tt }) in
      let m1 : Scoped = record { scope = A.answer.0; tables = A.table } in let m2 : Scoped = record { scope = C.scope; tables = C.tables } in let m3 : Scoped = record { scope = B.answer.0; tables = B.table } in
      let first : in_statements I' sc' ls' at' 0 (as_statements front) u ≡ Ok m1 = subst (λ (z : Statements). in_statements I' sc' ls' at' 0 z u ≡ Ok m1) (statements_kept s xs [] (as_statements front)) A.answer.1 in
      let last : in_statements I' C.scope ls' at' j2 (as_statements behind) C.tables ≡ Ok m3 = subst (λ (z : Statements). in_statements I' C.scope ls' at' j2 z C.tables ≡ Ok m3) (statements_kept s C.names [] (as_statements behind)) B.answer.1 in
      let end : in_optional I' B.answer.0 ls' (child at' k') o B.table ≡ Ok O.table = subst (λ (z : OptionalExpression). in_optional I' B.answer.0 ls' (child at' k') z B.table ≡ Ok O.table) (tail_kept s own3 [] o) O.answer in
      record {
        made = O.made;
        grows = grows_on A.grows (grows_on gC (grows_on B.grows O.grows));
        table = O.table;
        answer = and_ok (in_statements I' sc' ls' at' 0 (as_statements (front ++ (call ++ behind))) u) m3 (λ r. in_optional I' r.scope ls' (child at' k') o r.tables) (Ok O.table)
            (join I' sc' ls' at' 0 front (call ++ behind) u m1 m3 first (join I' A.answer.0 ls' at' i1 call behind A.table m2 m3 C.resolves last)) end;
        reached = record { vars = tt; loops = tt; passages = tt };
        added = (A.added ++ (N.added ++ B.added)) ++ O.added;
        added' = (A.added' ++ (D.added ++ B.added')) ++ O.added';
        grown = O.grown ∙ ap (λ (l : List NodeNames). l ++ O.added) (B.grown ∙ ap (λ (l : List NodeNames). l ++ B.added) (N.grown ∙ ap (λ (l : List NodeNames). l ++ N.added) A.grown)) ∙ four t.names A.added N.added B.added O.added;
        grown' = O.grown' ∙ ap (λ (l : List NodeNames). l ++ O.added') (B.grown' ∙ ap (λ (l : List NodeNames). l ++ B.added') (D.grown ∙ ap (λ (l : List NodeNames). l ++ D.added) A.grown')) ∙ four u.names A.added' D.added B.added' O.added';
        numbers = λ R sv m m'.
            let sB = serves_before O.grows sv in let sC = serves_before B.grows sB in let sA = serves_before gC sC in
            let NA = subst (λ (z : Statements). Numbers (LikeStatements no_holes R) t u S1.middle.tables A.table A.added A.added' (of_statements (as_statements front)) (of_statements z)) (statements_kept s xs [] (as_statements front)) (A.numbers R sA) in
            let NB = subst (λ (z : Statements). Numbers (LikeStatements no_holes R) S2.middle.tables C.tables X.0.tables B.table B.added B.added' (of_statements (as_statements behind)) (of_statements z)) (statements_kept s C.names [] (as_statements behind)) (B.numbers R sB) in
            let NO = subst (λ (z : OptionalExpression). Numbers (LikeElse no_holes R) X.0.tables B.table t' O.table O.added O.added' (of_optional m o) (of_optional m' z)) (tail_kept s own3 [] o) (O.numbers R sv m m') in
            let NR : Alone (NumberedBehind I sc ls at front run t) S1.middle.tables S2.middle.tables N.added (of_statements (as_statements run)) = record {
              holds = λ c rest q e.
                  let x = N.numbers.holds c rest q e in record {
                    like = record { middle = S1.middle; comes = S1.front; place = i1; end = S2.middle; goes = S2.front; added = N.added; grown = N.grown; cursor = c; rest = rest; stands = q; names = e; is = refl };
                    stands = x.stands;
                    left = x.left;
                  };
            } in
            let NC : Alone (NumberedBehind I' sc' ls' at' front call u) A.table C.tables D.added (of_statements (as_statements call)) = record {
              holds = λ c rest q e.
                  let x = D.numbers.holds c rest q e in record {
                    like = record { middle = m1; comes = first; place = i1; end = m2; goes = C.resolves; added = D.added; grown = D.grown; cursor = c; rest = rest; stands = q; names = e; is = refl };
                    stands = x.stands;
                    left = x.left;
                  };
            } in
            body_numbers front run call behind R (Both sc sc' at at' t u) s o m m' (rows_numbers front run call behind R (Both sc sc' at at' t u) NA (beside NR NC) NB) NO;
      }

  pub block_replaced : (sc sc' : Variables) (M : Made) (xs : Names) → NamesAlike M xs sc sc' → LoopsAlike M ls ls' → StatementsWithin (only xs sc sc') xs [] (as_statements front) → (at at' : List ℕ) (t t' u : ItemNames)
      → ((r s : Scoped) (i : ℕ) → in_statements I sc ls at 0 (as_statements front) t ≡ Ok r → in_statements I r.scope ls at i (as_statements run) r.tables ≡ Ok s
      → (middle : Variables) (now : Made) → Keeps M now → NamesAlike now (behind_all xs (as_statements front)) r.scope middle → (j : ℕ) (w : ItemNames) → Stands I' ls' now middle at' j call s.scope behind o w)
      → in_block I sc ls at before t ≡ Ok t' → BlocksAlike items I I' M sc sc' ls ls' at at' before after front run call t t' u
  block_replaced sc sc' M xs names loops within at at' t t' u stands e = let A = block_part sc sc' M xs names loops within at at' t t' u stands e in record {
    tables = A.table;
    resolves = A.answer;
    made = A.made;
    stays = record { variables = A.grows.variables; loops = A.grows.loops; passages = A.grows.passages };
    added = A.added;
    added' = A.added';
    grown = A.grown;
    grown' = A.grown';
    alike = λ R sv m m' c c' rest rest' q q' f f'. ((A.numbers R sv m m').holds c c' rest rest' (record { declared = q.0; declared' = q'.0; loops = q.1; loops' = q'.1 }) f f').like;
  }

-- ---- the block, where the tail is replaced too

-- statements and the tail behind them
abbrev pub with_tail : Site → List Statement → OptionalExpression → Numbering (named.Statements × named.Else)
with_tail k ys o = numbering.and_then (of_statements (as_statements ys)) (λ b. numbering.and_then (of_optional k o) (λ z. give (b, z)))

abbrev pub in_parts : Span → Site → List Statement → List Statement → OptionalExpression → Numbering named.Body
in_parts s k xs ys o = numbering.and_then (numbering.a_node s k) (λ n. numbering.and_then (of_statements (as_statements xs)) (λ a. numbering.and_then (with_tail k ys o) (λ p. give (named.body n (joined a p.0) p.1))))

pub body_in_parts : (s : Span) (k : Site) (xs ys : List Statement) (o : OptionalExpression) (c : Cursor) → of_body k (plain.body s (as_statements (xs ++ ys)) o) c ≡ in_parts s k xs ys o c
body_in_parts s k xs ys o c =
    let d = numbering.a_node s k c in
    ap (λ (z : named.Statements × Cursor). (named.body d.0 z.0 (of_optional k o z.1).0, (of_optional k o z.1).1)) (numbered_in_a_row xs ys d.1)

pub tails_alone : {t t1 t2 : ItemNames} {es fs : List NodeNames} (k : Site) (ys : List Statement) (o : OptionalExpression) → Alone (λ z. Unit {0}) t t1 es (of_statements (as_statements ys)) → Alone (λ z. Unit {0}) t1 t2 fs (of_optional k o)
    → Alone (λ p. Unit {0}) t t2 (es ++ fs) (with_tail k ys o)
tails_alone k ys o N O = alone_then N (λ b z. alone_map (λ z. (b, z)) O (λ z d. tt))

module _ (items : ℕ → ℕ) (P : ProgramTree) (a : ℕ) (L : DeclaredNames) (Q : ProgramTree) (b : ℕ) (F : Fits items (record { program = P; item = a; lifetimes = L }) (record { program = Q; item = b; lifetimes = L })) (ls ls' : List Around) (s : Span) (front run call : List Statement) (o o' : OptionalExpression) where
  abbrev Here : Inside
  Here = record { program = P; item = a; lifetimes = L }

  abbrev There : Inside
  There = record { program = Q; item = b; lifetimes = L }

  abbrev begun : Body
  begun = plain.body s (as_statements (front ++ run)) o

  abbrev ended : Body
  ended = plain.body s (as_statements (front ++ call)) o'

  abbrev pub BothEnd : Variables → Variables → List ℕ → List ℕ → ItemNames → ItemNames → named.Statements → named.Else → named.Statements → named.Else → Type 0
  BothEnd sc sc' at at' t u = BothLast Here There sc sc' ls ls' at at' front run call o o' t u

  abbrev pub EndNumbers : Variables → Variables → List ℕ → List ℕ → ItemNames → ItemNames → ItemNames → Kind
  EndNumbers sc sc' at at' t u t' R u' es es' = (k k' : Site) → Numbers (EndReplaced R (length front) (BothEnd sc sc' at at' t u)) t u t' u' es es' (of_body k begun) (of_body k' ended)

  pub end_part : (sc sc' : Variables) (M : Made) (xs : Names) → NamesAlike M xs sc sc' → LoopsAlike M ls ls' → StatementsWithin (only xs sc sc') xs [] (as_statements front) → (at at' : List ℕ) (t t' u : ItemNames)
      → ((r : Scoped) → in_statements Here sc ls at 0 (as_statements front) t ≡ Ok r
      → (middle : Variables) (now : Made) → Keeps M now → NamesAlike now (behind_all xs (as_statements front)) r.scope middle → (j : ℕ) (way : List ℕ) (w : ItemNames) → StandsLast There ls' middle at' j way call o' w)
      → in_block Here sc ls at begun t ≡ Ok t' → Part (loose items) M t t' u (λ G v. in_block There sc' ls' at' ended u ≡ Ok v) (EndNumbers sc sc' at at' t u t')
  unfolding copied_stand
  end_part sc sc' M xs names loops within at at' t t' u stands e =
      let k = number (length (listed (as_statements (front ++ run)))) in let k' = number (length (listed (as_statements (front ++ call)))) in
      let i1 = past_all 0 front in
      let X = named_ok (in_statements Here sc ls at 0 (as_statements (front ++ run)) t) (λ r. in_optional Here r.scope ls (child at k) o r.tables) t' e in
      let S = split Here sc ls at 0 front run t X.0 X.1 in
      let w1 = copied_stand items Here There F xs sc sc' M ls ls' names loops in
      let A = statements_alike (Copying items Here There F xs sc sc') (copied_special items Here There F xs sc sc') M xs [] w1 at at' 0 0 (as_statements front) within t S.middle u S.front (record { vars = tt; loops = tt; passages = tt }) in
      let N = text_alone P a L S.middle.scope ls at i1 (as_statements run) S.middle.tables X.0 S.rest in
      let T = tail_alone P a L X.0.scope ls (child at k) o X.0.tables t' X.2 in
      let C = stands S.middle S.front A.answer.0 A.made (record { variables = A.grows.variables; loops = A.grows.loops; passages = A.grows.passages }) (names_behind items Here There F xs sc sc' A.made (behind_all xs (as_statements front)) S.middle.scope A.answer.0 A.answer.2.variables) i1 (child at' k') A.table in
      let D = text_alone Q b L A.answer.0 ls' at' i1 (as_statements call) A.table C.end C.goes in
      let G = tail_alone Q b L C.end.scope ls' (child at' k') o' C.end.tables C.tables C.ends in
      let m1 : Scoped = record { scope = A.answer.0; tables = A.table } in
      let text : StandsLast Here ls S.middle.scope at i1 (child at k) run o S.middle.tables = record { end = X.0; goes = S.rest; tables = t'; ends = X.2 } in
      let first : in_statements There sc' ls' at' 0 (as_statements front) u ≡ Ok m1 = subst (λ (z : Statements). in_statements There sc' ls' at' 0 z u ≡ Ok m1) (statements_kept s xs [] (as_statements front)) A.answer.1 in
      let grown : C.tables.names ≡ A.table.names ++ (D.added ++ G.added) = G.grown ∙ ap (λ (l : List NodeNames). l ++ G.added) D.grown ∙ append_assoc A.table.names D.added G.added in
      let grown_text : t'.names ≡ S.middle.tables.names ++ (N.added ++ T.added) = T.grown ∙ ap (λ (l : List NodeNames). l ++ T.added) N.grown ∙ append_assoc S.middle.tables.names N.added T.added in
      record {
        made = A.made;
        grows = A.grows;
        table = C.tables;
        answer = and_ok (in_statements There sc' ls' at' 0 (as_statements (front ++ call)) u) C.end (λ r. in_optional There r.scope ls' (child at' k') o' r.tables) (Ok C.tables) (join There sc' ls' at' 0 front call u m1 C.end first C.goes) C.ends;
        reached = record { vars = tt; loops = tt; passages = tt };
        added = A.added ++ (N.added ++ T.added);
        added' = A.added' ++ (D.added ++ G.added);
        grown = grown_text ∙ ap (λ (l : List NodeNames). l ++ (N.added ++ T.added)) A.grown ∙ append_assoc t.names A.added (N.added ++ T.added);
        grown' = grown ∙ ap (λ (l : List NodeNames). l ++ (D.added ++ G.added)) A.grown' ∙ append_assoc u.names A.added' (D.added ++ G.added);
        numbers = λ R sv m m'.
            let NA = subst (λ (z : Statements). Numbers (LikeStatements no_holes R) t u S.middle.tables A.table A.added A.added' (of_statements (as_statements front)) (of_statements z)) (statements_kept s xs [] (as_statements front)) (A.numbers R sv) in
            let NR : Alone (λ (p : named.Statements × named.Else). NumberedLast Here sc ls at front run o t p.0 p.1) S.middle.tables t' (N.added ++ T.added) (with_tail m run o) = record {
              holds = λ c rest q e.
                  let x = (tails_alone m run o N.numbers (T.numbers m)).holds c rest q e in record {
                    like = record { middle = S.middle; comes = S.front; place = i1; way = child at k; resolves = text; added = N.added ++ T.added; grown = grown_text; cursor = c; rest = rest; stands = q; names = e; site = m; is = refl; is_last = refl };
                    stands = x.stands;
                    left = x.left;
                  };
            } in
            let NC : Alone (λ (p : named.Statements × named.Else). NumberedLast There sc' ls' at' front call o' u p.0 p.1) A.table C.tables (D.added ++ G.added) (with_tail m' call o') = record {
              holds = λ c rest q e.
                  let x = (tails_alone m' call o' D.numbers (G.numbers m')).holds c rest q e in record {
                    like = record { middle = m1; comes = first; place = i1; way = child at' k'; resolves = C; added = D.added ++ G.added; grown = grown; cursor = c; rest = rest; stands = q; names = e; site = m'; is = refl; is_last = refl };
                    stands = x.stands;
                    left = x.left;
                  };
            } in
            by_equal {S = EndReplaced R (length front) (BothEnd sc sc' at at' t u)} (in_parts s m front run o) (of_body m (plain.body s (as_statements (front ++ run)) o)) (in_parts s m' front call o') (of_body m' (plain.body s (as_statements (front ++ call)) o'))
            (body_in_parts s m front run o) (body_in_parts s m' front call o')
            (numbers_node s m m' (λ n n' g. numbers_then_told {W = λ (x : named.Statements). many x ≡ length front} {W' = λ (x : named.Statements). many x ≡ length front} NA (many_numbered front) (many_numbered front) (λ x x' v v' l. numbers_map (λ p. named.body n (joined x p.0) p.1) (λ p. named.body n' (joined x' p.0) p.1)
            (beside NR NC) (λ p p' d. end_replaced x x' p.0 p'.0 v g l d))));
      }

  pub block_ended : (sc sc' : Variables) (M : Made) (xs : Names) → NamesAlike M xs sc sc' → LoopsAlike M ls ls' → StatementsWithin (only xs sc sc') xs [] (as_statements front) → (at at' : List ℕ) (t t' u : ItemNames)
      → ((r : Scoped) → in_statements Here sc ls at 0 (as_statements front) t ≡ Ok r
      → (middle : Variables) (now : Made) → Keeps M now → NamesAlike now (behind_all xs (as_statements front)) r.scope middle → (j : ℕ) (way : List ℕ) (w : ItemNames) → StandsLast There ls' middle at' j way call o' w)
      → in_block Here sc ls at begun t ≡ Ok t' → EndsAlike items Here There M sc sc' ls ls' at at' begun ended front run call o o' t t' u
  block_ended sc sc' M xs names loops within at at' t t' u stands e = let A = end_part sc sc' M xs names loops within at at' t t' u stands e in record {
    tables = A.table;
    resolves = A.answer;
    made = A.made;
    stays = record { variables = A.grows.variables; loops = A.grows.loops; passages = A.grows.passages };
    added = A.added;
    added' = A.added';
    grown = A.grown;
    grown' = A.grown';
    alike = λ R sv m m' c c' rest rest' q q' f f'. ((A.numbers R sv m m').holds c c' rest rest' (record { declared = q.0; declared' = q'.0; loops = q.1; loops' = q'.1 }) f f').like;
  }
