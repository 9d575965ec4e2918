-- A block in which other statements stand for a run, wherever all names mean what corresponds in front of it: what stands in front is copied,
-- and what stands behind, where its names mean what corresponds still.
use Rattle.std.proofs.Common.{◌≡◌, ◌≤◌, ◌<◌, ◌⊎◌, inl, inr, ℕ, Bool, true, false, not, ◌||◌, List, [], ◌∷◌, ◌++◌, length, Option, Some, None, Ok, refl, sym, ap, ◌∙◌, subst, arith}
use Rattle.rx_core.specs.declared.types.Span.{Span}
use Rattle.rx_tree.specs.Lists.{listed}
use Rattle.rx_tree.specs.Plain as plain
use Rattle.rx_tree.specs.Plain.{Body, OptionalExpression, Statement, Statements, ProgramTree}
use Rattle.rx_resolve_names.specs.Scopes.{DeclaredNames, Variables, variable_named}
use Rattle.rx_resolve_names.specs.declared.resolved.ItemNames.{ItemNames}
use Rattle.rx_resolve_names.specs.declared.resolved.NodeNames.{NodeNames}
use Rattle.rx_resolve_names.specs.Meant.{number, Around}
use Rattle.rx_resolve_names.specs.Steps.{Inside, child}
use Rattle.rx_resolve_names.specs.Names.{in_statements, in_optional, in_block, Scoped}
use Rattle.rx_typed.specs.declared.nodes.Site.{Site}
use Rattle.rx_typed.specs.Named as named
use Rattle.rx_typed.specs.Naming.{Cursor, of_optional, of_statements, of_body}
use Rattle.rx_tree.specs.declared.tree.Ident.{Ident}
use Rattle.rx_hoist_extraction.specs.Names.{Names, is_among, behind_all}
use Rattle.rx_hoist_extraction.specs.Run.{as_statements}
use Rattle.rx_hoist_extraction.specs.Changed.{kept}
use Rattle.rx_engine_names.specs.Renaming.{Pairs, Renaming, Has, HasPassage, Made, Passage, Serves}
use Rattle.rx_engine_names.specs.LikeNamed.{no_holes, LikeElse, LikeStatements, like_int, like_typed, like_return}
use Rattle.rx_engine_names.specs.Within.{OptionalWithin, StatementsWithin}
use Rattle.rx_engine_names.specs.Apart.{Below}
use Rattle.rx_engine_names.specs.Moves.{StandsAt, labels_of}
use Rattle.rx_engine_names.specs.Replaced.{Keeps, LoopsAlike, StandsLast, Replaced}
use Rattle.rx_engine_names.specs.Placed.{Meet, AllMeet, Agree, agreed, NamedByBoth, Told, StandFor, ToldLast}
use Rattle.rx_engine_names.proofs.SideBySide.{named_ok, and_ok, Kind, Numbers, numbers_map, numbers_node, serves_before, Grows, grows_on, Part, restated, Frame, Reached}
use Rattle.rx_engine_names.proofs.Scoped.{unknown, Corresponds, AtName, Both, at_both}
use Rattle.rx_engine_names.proofs.Fitting.{Fits}
use Rattle.rx_engine_names.proofs.CopiedPatterns.{optional_type_alike}
use Rattle.rx_engine_names.proofs.Standing.{any_rounds, Setting, Stand, Special, later, in_scope}
use Rattle.rx_engine_names.proofs.CopiedExpressions.{statements_alike, optional_alike}
use Rattle.rx_engine_names.proofs.PlainPlaces.{none_starred, whole, plain_variable, jump_fits, plain_break, plain_continue, special}
use Rattle.rx_engine_names.proofs.NoClaims.{statements_within}
use Rattle.rx_engine_names.proofs.ResolvingGrows.{statements_grow}
use Rattle.rx_engine_names.proofs.ScopesRise.{bound_below, statements_rise, rises_itself, BoundBelow, Rises}
use Rattle.rx_engine_names.proofs.PairsApart.{below_wider, has_below, one_to_one, onto_apart, onto_below, onto_named, passed_on, widens, OldOrNamed}
use Rattle.rx_engine_names.proofs.CopiedParts.{statements_kept, tail_kept, Text, text_alone}
use Rattle.rx_engine_names.proofs.BehindStatements.{covers_itself, statements_cover, meet_weaker, pairs_onto, onto_kept, meet_behind}
use Rattle.rx_engine_names.proofs.ReplacedBlocks.{past_all, split, join, body_numbers, rows_numbers, four}

-- ---- names

pub to_meet : (M : Made) (f : Bool) (o o' : Option ℕ) → AtName (Corresponds [] M) false f o o' → Meet (Has M.variables) o o'
to_meet M f None None h = tt
to_meet M f (Some n) (Some m) h = h
to_meet M f None (Some m) h = absurd h
to_meet M f (Some n) None h = absurd h

pub from_meet : (M : Made) (o o' : Option ℕ) → Meet (Has M.variables) o o' → AtName (Corresponds [] M) false false o o'
from_meet M None None h = refl
from_meet M (Some n) (Some m) h = h
from_meet M None (Some m) h = absurd h
from_meet M (Some n) None h = absurd h

pub not_true : false ≡ true → ⊥
not_true e = cc

or_false : (b : Bool) → b ≡ true → (b || false) ≡ true
or_false true e = refl
or_false false e = e

-- ---- in front of the run: all names mean what corresponds

module _ (J : Frame) (I I' : Inside) (F : Fits J.items I I') where
  abbrev pub Whole : Setting
  Whole = whole J no_holes I I' F.items_fit kept unknown

  pub whole_special : Special Whole
  whole_special = special J no_holes I I' F.items_fit (λ s k. k) (λ p y. y) (λ b c. c) unknown (record {
    suffix = λ R s n n' b b' v k h g. like_int g;
    annotated = λ M at at' p y t t' u e q. restated (optional_type_alike J M I I' F at at' y t t' u e q) (λ z. z) (λ R sv h. numbers_map (λ z. z) (λ z. z) h (λ a b r. like_typed r));
    blocks = λ M own m w at at' b c t t' u e q h. h tt;
  })

  unfoldable pub whole_stand : (M : Made) (sc sc' : Variables) (ls ls' : List Around) → AllMeet (Has M.variables) sc sc' → LoopsAlike M ls ls' → Stand Whole M [] []
  whole_stand M sc sc' ls ls' h g = record {
    sc = sc;
    sc' = sc';
    ls = ls;
    ls' = ls';
    scopes = record { callees = λ x a. from_meet M (variable_named sc x) (variable_named sc' x) (h x); variables = λ x e. absurd (not_true e); outer = λ x e. tt };
    led = λ l n e. g l n e;
    round = tt;
  }

  -- ---- behind it: those that both bind, or neither

  module _ (run call : List Statement) where
    abbrev pub Agreeing : Setting
    Agreeing = record {
      L = J;
      H = no_holes;
      I = I;
      I' = I';
      fits = F.items_fit;
      N = agreed run call;
      C = kept;
      behind = [];
      stars = [];
      left = λ n k. ⊥;
      known = unknown;
      rounds = any_rounds;
    }

    variable_at : (M : Made) (own : Names) (m : List Around) (w : Stand Agreeing M own m) (x : List ℕ) → (is_among x own ≡ false → Agree run call x) → (z : Bool) → is_among x own ≡ z → AtName (Corresponds [] M) false (is_among x own || false) (variable_named w.sc x) (variable_named w.sc' x)
    variable_at M own m w x a true e =
        at_both (Corresponds [] M) false (is_among x own || false) (variable_named w.sc x) (variable_named w.sc' x)
        (subst (λ (b : Bool). Both (Corresponds [] M) b (variable_named w.sc x) (variable_named w.sc' x)) (none_starred (not (is_among x own))) (w.scopes.variables x (or_false (is_among x own) e)))
    variable_at M own m w x a false e =
        subst (λ (b : Bool). AtName (Corresponds [] M) b (is_among x own || false) (variable_named w.sc x) (variable_named w.sc' x)) (none_starred (not (is_among x own))) (w.scopes.callees x (a e))

    pub agreeing_special : Special Agreeing
    agreeing_special = record {
      variable = λ M own m w at at' s x t t' u n e q. plain_variable Agreeing M at at' s x (is_among x own || false) (variable_named w.sc x) (variable_named w.sc' x) t t' u (variable_at M own m w x n (is_among x own) refl) e q;
      broken = λ M own m w at at' s l t t' u n e q. plain_break Agreeing M own m w at at' s l t t' u (jump_fits M s l w.ls m w.ls' w.led) e q;
      continued = λ M own m w at at' s l t t' u n e q. plain_continue Agreeing M own m w at at' s l t t' u (jump_fits M s l w.ls m w.ls' w.led) e q;
      returned = λ M own m w at at' s o o' t t' u n f h q. restated (h (child at' 0) u q) (λ z. z) (λ R sv k m m' i i'. numbers_node s i i' (λ n n' g. numbers_map (named.return n) (named.return n') (k Site.Expects Site.Expects) (λ _ _ r. like_return g r)));
      suffix = λ R s n n' b b' v k h g. like_int g;
      annotated = λ M at at' p y t t' u n e q. restated (optional_type_alike J M I I' F at at' y t t' u e q) (λ z. z) (λ R sv h. numbers_map (λ z. z) (λ z. z) h (λ a b r. like_typed r));
      blocks = λ M own m w at at' b c t t' u n e q h. h tt;
    }

    unfoldable pub agreeing_stand : (M : Made) (sc sc' : Variables) (ls ls' : List Around) → ((x : List ℕ) → Agree run call x → Meet (Has M.variables) (variable_named sc x) (variable_named sc' x)) → LoopsAlike M ls ls' → Stand Agreeing M [] []
    agreeing_stand M sc sc' ls ls' h g = record {
      sc = sc;
      sc' = sc';
      ls = ls;
      ls' = ls';
      scopes = record { callees = λ x a. from_meet M (variable_named sc x) (variable_named sc' x) (h x a); variables = λ x e. absurd (not_true e); outer = λ x e. tt };
      led = λ l n e. g l n e;
      round = tt;
    }

-- ---- what resolves where the block may stand

pub record Resolved (T : Told) (items : ℕ → ℕ) (I' : Inside) (sc : Variables) (ls : List Around) (sc' : Variables) (ls' : List Around) (M : Made) (at' : List ℕ) (j : ℕ) (call : List Statement) (w : ItemNames) : Type 0 where
  pub end : Scoped
  pub resolves : in_statements I' sc' ls' at' j (as_statements call) w ≡ Ok end
  pub told : (added : List NodeNames) → end.tables.names ≡ w.names ++ added → (R : Renaming) → Serves items M R → (c : Cursor) (rest : List NodeNames) → StandsAt w c → c.names ≡ added ++ rest → T sc ls sc' w end R (of_statements (as_statements call) c).0

-- where all names mean what corresponds in front of the run, these statements resolve
abbrev pub CallResolves : Told → (ℕ → ℕ) → Inside → Inside → List Statement → List Statement → List Statement → Variables → Variables → List Around → List Around → Made → Type 0
CallResolves T items I I' front run call sc sc' ls ls' M = (at at' : List ℕ) (t : ItemNames) (r s : Scoped) (i : ℕ) → in_statements I sc ls at 0 (as_statements front) t ≡ Ok r → in_statements I r.scope ls at i (as_statements run) r.tables ≡ Ok s
    → (middle : Variables) (now : Made) → Keeps M now → AllMeet (Has now.variables) r.scope middle → (j : ℕ) (w : ItemNames) → Resolved T items I' r.scope ls middle ls' now at' j call w

pub record ResolvedLast (T : ToldLast) (items : ℕ → ℕ) (I' : Inside) (sc : Variables) (ls : List Around) (sc' : Variables) (ls' : List Around) (M : Made) (at' : List ℕ) (j : ℕ) (way : List ℕ) (call : List Statement) (last : OptionalExpression) (w : ItemNames) : Type 0 where
  pub stands : StandsLast I' ls' sc' at' j way call last w
  pub told : (added : List NodeNames) → stands.tables.names ≡ w.names ++ added → (R : Renaming) → Serves items M R → (k : Site) (c : Cursor) (rest : List NodeNames) → StandsAt w c → c.names ≡ added ++ rest
      → T sc ls sc' w stands.end R (of_statements (as_statements call) c).0 (of_optional k last (of_statements (as_statements call) c).1).0

-- they resolve with a tail, where the block ends with them
abbrev pub EndResolves : ToldLast → (ℕ → ℕ) → Inside → Inside → List Statement → List Statement → OptionalExpression → List Statement → OptionalExpression → Variables → Variables → List Around → List Around → Made → Type 0
EndResolves T items I I' front run tail call last sc sc' ls ls' M = (at at' : List ℕ) (t : ItemNames) (r s : Scoped) (i : ℕ) → in_statements I sc ls at 0 (as_statements front) t ≡ Ok r → in_statements I r.scope ls at i (as_statements run) r.tables ≡ Ok s
    → (path : List ℕ) (t' : ItemNames) → in_optional I s.scope ls path tail s.tables ≡ Ok t' → (middle : Variables) (now : Made) → Keeps M now → AllMeet (Has now.variables) r.scope middle → (j : ℕ) (way : List ℕ) (w : ItemNames)
    → ResolvedLast T items I' r.scope ls middle ls' now at' j way call last w

-- so they do wherever the block may stand: names and loops correspond round it, these loops stand there, and a name means no variable
abbrev pub CallFits : Told → List ℕ → (ℕ → ℕ) → Inside → Inside → List (Option Ident) → List Statement → List Statement → List Statement → Type 0
CallFits T name items I I' labels front run call = (scope start : Variables) (around round : List Around) (M : Made) → variable_named scope name ≡ None → AllMeet (Has M.variables) scope start → LoopsAlike M around round → labels_of around ≡ labels
    → CallResolves T items I I' front run call scope start around round M

abbrev pub EndFits : ToldLast → List ℕ → (ℕ → ℕ) → Inside → Inside → List (Option Ident) → List Statement → List Statement → OptionalExpression → List Statement → OptionalExpression → Type 0
EndFits T name items I I' labels front run tail call last = (scope start : Variables) (around round : List Around) (M : Made) → variable_named scope name ≡ None → AllMeet (Has M.variables) scope start → LoopsAlike M around round → labels_of around ≡ labels
    → EndResolves T items I I' front run tail call last scope start around round M

pub by_renaming : (items : ℕ → ℕ) (M : Made) (R : Renaming) → Serves items M R → (o o' : Option ℕ) → Meet (Has M.variables) o o' → Meet (λ n m. R.variable n m ≡ true) o o'
by_renaming items M R sv o o' h = meet_weaker (Has M.variables) (λ n m. R.variable n m ≡ true) sv.variables o o' h

pub made_in_front : (ps : Pairs) (n m : ℕ) → Below ps n m → (o o' : Option ℕ) → Meet (Has ps) o o' → Meet (λ i j. (i < n) × (j < m)) o o'
made_in_front ps n m b o o' h = meet_weaker (Has ps) (λ i j. (i < n) × (j < m)) (λ i j y. has_below ps n m i j b y) o o' h

-- ---- what is made stays one to one

-- what has been made behind a run and what stands for it, which is passed there
abbrev pub past_run : List Statement → List Statement → Made → Scoped → Scoped → Made
past_run run call M r r' =
    let ps = pairs_onto (behind_all [] (as_statements run)) (behind_all [] (as_statements call)) r.scope r'.scope M.variables in record {
      variables = ps;
      loops = M.loops;
      passages = record { variables = ps; loops = M.loops; variable = length r.tables.vars; variable' = length r'.tables.vars; loop = length r.tables.loops; loop' = length r'.tables.loops } ∷ M.passages;
    }

pub past_grows : (run call : List Statement) (M : Made) (r r' : Scoped) → Grows M (past_run run call M r r')
past_grows run call M r r' = record { variables = onto_kept (behind_all [] (as_statements run)) (behind_all [] (as_statements call)) r.scope r'.scope M.variables; loops = λ n m h. h; passages = λ x h. inr h }

passes : (items : ℕ → ℕ) (run call : List Statement) (I I' : Inside) (ls ls' : List Around) (at at' : List ℕ) (i1 j1 : ℕ) (M : Made) (sc sc' : Variables) (t u : ItemNames) (r r' : Scoped)
    → in_statements I sc ls at i1 (as_statements run) t ≡ Ok r → in_statements I' sc' ls' at' j1 (as_statements call) u ≡ Ok r' → Reached (one_to_one items) M t u
    → Reached (one_to_one items) (past_run run call M r r') r.tables r'.tables
passes items run call I I' ls ls' at at' i1 j1 M sc sc' t u r r' e d q =
    let g = statements_grow I sc ls at i1 (as_statements run) t r e in let g' = statements_grow I' sc' ls' at' j1 (as_statements call) u r' d in
    let n = length t.vars in let m = length u.vars in record {
      vars = λ few few'.
          let base = q.vars (omega (arith, g.0, few)) (omega (arith, g'.0, few')) in
          onto_apart (behind_all [] (as_statements run)) (behind_all [] (as_statements call)) r.scope r'.scope n m (length r.tables.vars) (length r'.tables.vars)
          (statements_rise I ls at i1 (as_statements run) [] sc t r n (omega arith) few (rises_itself sc n) e) (statements_rise I' ls' at' j1 (as_statements call) [] sc' u r' m (omega arith) few' (rises_itself sc' m) d)
          M.variables base.1 g.0 g'.0 base.0 (behind_all [] (as_statements call)) (λ w h. h);
      loops = widens M.loops (length t.loops) (length u.loops) (length r.tables.loops) (length r'.tables.loops) g.1 g'.1 q.loops;
      passages = passed_on M (pairs_onto old names r.scope r'.scope M.variables) n m (length t.loops) (length u.loops) (length r.tables.vars) (length r'.tables.vars) (length r.tables.loops) (length r'.tables.loops) g.0 g'.0 g.1 g'.1
          (onto_below old names r.scope r'.scope (length r.tables.vars) (length r'.tables.vars) b b' M.variables names (λ w h. h) (below_wider M.variables n m (length r.tables.vars) (length r'.tables.vars) g.0 g'.0 q.passages.below))
          (λ few few' i j y. since (statements_rise I ls at i1 (as_statements run) [] sc t r n (omega arith) few (rises_itself sc n) e) (statements_rise I' ls' at' j1 (as_statements call) [] sc' u r' m (omega arith) few' (rises_itself sc' m) d) i j
          (onto_named old names r.scope r'.scope (length r.tables.vars) (length r'.tables.vars) b b' M.variables names i j (λ w h. h) y)) q.passages;
    }
  where
    old : Names
    old = behind_all [] (as_statements run)

    names : Names
    names = behind_all [] (as_statements call)

    b : BoundBelow old r.scope (length r.tables.vars)
    b = bound_below I ls at i1 (as_statements run) sc t r e

    b' : BoundBelow names r'.scope (length r'.tables.vars)
    b' = bound_below I' ls' at' j1 (as_statements call) sc' u r' d

    same : (n m : ℕ) → Some n ≡ Some m → n ≡ m
    same n m e = cc

    since : Rises old r.scope (length t.vars) (length r.tables.vars) → Rises names r'.scope (length u.vars) (length r'.tables.vars) → (i j : ℕ) → OldOrNamed old names r.scope r'.scope M.variables i j → Has M.variables i j ⊎ ((length t.vars ≤ i) × (length u.vars ≤ j))
    since k k' i j (inl y) = inl y
    since k k' i j (inr y) =
        let z = k.means y.0 y.1 in let z' = k'.means y.0 y.2 in let s = same i z.0 (sym y.3 ∙ z.1) in let s' = same j z'.0 (sym y.4 ∙ z'.1) in let a = z.2 in let a' = z'.2 in
        inr (omega (arith, a, s), omega (arith, a', s'))

-- ---- the block

loops_later : (M M' : Made) (ls ls' : List Around) → Grows M M' → LoopsAlike M ls ls' → LoopsAlike M' ls ls'
loops_later M M' ls ls' g h l n e = let r = h l n e in (r.0, r.1, g.loops n r.0 r.2)

module _ (T : Told) (items : ℕ → ℕ) (P : ProgramTree) (a : ℕ) (L : DeclaredNames) (Q : ProgramTree) (b : ℕ) (F : Fits items (record { program = P; item = a; lifetimes = L }) (record { program = Q; item = b; lifetimes = L })) (ls ls' : List Around) (s : Span) (front run call behind : List Statement) (o : OptionalExpression) where
  abbrev J : Frame
  J = one_to_one items

  abbrev I : Inside
  I = record { program = P; item = a; lifetimes = L }

  abbrev I' : Inside
  I' = record { program = Q; item = b; lifetimes = L }

  abbrev W : Setting
  W = Whole J I I' F

  abbrev pub Stood : Variables → Variables → List ℕ → List ℕ → ItemNames → ItemNames → Renaming → named.Statements → named.Statements → Type 0
  Stood sc sc' at at' t u R = StandFor T I I' front run call (record { scope = sc; start = sc'; around = ls; round = ls'; way = at; way' = at'; tables = t; tables' = u }) R

  abbrev pub StoodNumbers : Variables → Variables → List ℕ → List ℕ → ItemNames → ItemNames → ItemNames → Kind
  StoodNumbers sc sc' at at' t u t' R u' es es' = (k k' : Site) → Numbers (Replaced R (length front) (Stood sc sc' at at' t u R)) t u t' u' es es' (of_body k (plain.body s (as_statements (front ++ (run ++ behind))) o)) (of_body k' (plain.body s (as_statements (front ++ (call ++ behind))) o))

  -- what stands in front, in both
  abbrev FrontMade : Variables → Made → List ℕ → ItemNames → ItemNames → Scoped → Type 0
  FrontMade sc' M at' t u r = Part J M t r.tables u (λ G v. (sc1 : Variables) × (in_statements I' sc' ls' at' 0 (as_statements front) u ≡ Ok (record { scope = sc1; tables = v })) × AllMeet (Has G.variables) r.scope sc1)
      (λ R v es es'. Numbers (LikeStatements no_holes R) t u r.tables v es es' (of_statements (as_statements front)) (of_statements (as_statements front)))

  front_made : (sc sc' : Variables) (M : Made) → AllMeet (Has M.variables) sc sc' → LoopsAlike M ls ls' → (at at' : List ℕ) (t u : ItemNames) → Reached J M t u → (r : Scoped) → in_statements I sc ls at 0 (as_statements front) t ≡ Ok r → FrontMade sc' M at' t u r
  unfolding whole_stand
  front_made sc sc' M names loops at at' t u q r e =
      let A = statements_alike W (whole_special J I I' F) M [] [] (whole_stand J I I' F M sc sc' ls ls' names loops) at at' 0 0 (as_statements front) (statements_within [] [] (as_statements front)) t r u e q in
      let own = behind_all [] (as_statements front) in
      restated A (λ y. (
        y.0,
        subst (λ (z : Statements). in_statements I' sc' ls' at' 0 z u ≡ Ok (record { scope = y.0; tables = A.table })) (statements_kept s [] [] (as_statements front)) y.1,
        λ x. to_meet A.made (is_among x own || false) (variable_named r.scope x) (variable_named y.0 x)
            (subst (λ (z : Bool). AtName (Corresponds [] A.made) z (is_among x own || false) (variable_named r.scope x) (variable_named y.0 x)) (none_starred (not (is_among x own))) (y.2.callees x tt)),
      ))
      (λ R sv N. subst (λ (z : Statements). Numbers (LikeStatements no_holes R) t u r.tables A.table A.added A.added' (of_statements (as_statements front)) (of_statements z)) (statements_kept s [] [] (as_statements front)) N)

  -- what stands behind, in both, with the tail
  record BehindMade (G : Made) (at' : List ℕ) (j : ℕ) (way : List ℕ) (r m : Scoped) (t' : ItemNames) (end : Scoped) : Type 0 where
    pub statements : Part J G r.tables m.tables end.tables (λ H v. (sc3 : Variables) × (in_statements I' end.scope ls' at' j (as_statements behind) end.tables ≡ Ok (record { scope = sc3; tables = v })))
        (λ R v es es'. Numbers (LikeStatements no_holes R) r.tables end.tables m.tables v es es' (of_statements (as_statements behind)) (of_statements (as_statements behind)))
    pub tail : Part J statements.made m.tables t' statements.table (λ H v. in_optional I' statements.answer.0 ls' way o statements.table ≡ Ok v)
        (λ R v es es'. (k k' : Site) → Numbers (LikeElse no_holes R) m.tables statements.table t' v es es' (of_optional k o) (of_optional k' o))

  behind_made : (G : Made) (at at' : List ℕ) (i j : ℕ) (path way : List ℕ) (r m : Scoped) (t' : ItemNames) (end : Scoped) → ((x : List ℕ) → Agree run call x → Meet (Has G.variables) (variable_named r.scope x) (variable_named end.scope x)) → LoopsAlike G ls ls'
      → StatementsWithin (agreed run call) [] [] (as_statements behind) → OptionalWithin (agreed run call) (behind_all [] (as_statements behind)) [] o → in_statements I r.scope ls at i (as_statements behind) r.tables ≡ Ok m → in_optional I m.scope ls path o m.tables ≡ Ok t'
      → Reached J G r.tables end.tables → BehindMade G at' j way r m t' end
  unfolding agreeing_stand
  behind_made G at at' i j path way r m t' end meet loops follows ends e f q =
      let K2 = Agreeing J I I' F run call in
      let w2 = agreeing_stand J I I' F run call G r.scope end.scope ls ls' meet loops in
      let B = statements_alike K2 (agreeing_special J I I' F run call) G [] [] w2 at at' i j (as_statements behind) follows r.tables m end.tables e q in
      let own = behind_all [] (as_statements behind) in
      let w3 = in_scope K2 B.made [] own [] (later K2 G B.made [] [] w2 B.grows) m.scope B.answer.0 B.answer.2 in
      let O = optional_alike K2 (agreeing_special J I I' F run call) B.made own [] w3 path way o ends m.tables t' B.table f B.reached in record {
        statements = record {
          made = B.made;
          grows = B.grows;
          table = B.table;
          answer = (B.answer.0, subst (λ (z : Statements). in_statements I' end.scope ls' at' j z end.tables ≡ Ok (record { scope = B.answer.0; tables = B.table })) (statements_kept s [] [] (as_statements behind)) B.answer.1);
          reached = B.reached;
          added = B.added;
          added' = B.added';
          grown = B.grown;
          grown' = B.grown';
          numbers = λ R sv. subst (λ (z : Statements). Numbers (LikeStatements no_holes R) r.tables end.tables m.tables B.table B.added B.added' (of_statements (as_statements behind)) (of_statements z)) (statements_kept s [] [] (as_statements behind)) (B.numbers R sv);
        };
        tail = record {
          made = O.made;
          grows = O.grows;
          table = O.table;
          answer = subst (λ (z : OptionalExpression). in_optional I' B.answer.0 ls' way z B.table ≡ Ok O.table) (tail_kept s own [] o) O.answer;
          reached = O.reached;
          added = O.added;
          added' = O.added';
          grown = O.grown;
          grown' = O.grown';
          numbers = λ R sv k k'. subst (λ (z : OptionalExpression). Numbers (LikeElse no_holes R) m.tables B.table t' O.table O.added O.added' (of_optional k o) (of_optional k' z)) (tail_kept s own [] o) (O.numbers R sv k k');
        };
      }

  -- where variables and loops that correspond stand
  abbrev passage_at : Made → Scoped → Scoped → Passage
  passage_at M r r' =
      let ps = pairs_onto (behind_all [] (as_statements run)) (behind_all [] (as_statements call)) r.scope r'.scope M.variables in
      record { variables = ps; loops = M.loops; variable = length r.tables.vars; variable' = length r'.tables.vars; loop = length r.tables.loops; loop' = length r'.tables.loops }

  either : (M : Made) (r r' : Scoped) (t u : ItemNames) → Below M.variables (length t.vars) (length u.vars) → BoundBelow (behind_all [] (as_statements run)) r.scope (length r.tables.vars) → BoundBelow (behind_all [] (as_statements call)) r'.scope (length r'.tables.vars)
      → (n k : ℕ) → Has (passage_at M r r').variables n k ⊎ ((length r.tables.vars ≤ n) × (length r'.tables.vars ≤ k))
      → ((n < length t.vars) × (k < length u.vars)) ⊎ (NamedByBoth run call r.scope r'.scope n k ⊎ ((length r.tables.vars ≤ n) × (length r'.tables.vars ≤ k)))
  either M r r' t u h b b' n k (inr y) = inr (inr y)
  either M r r' t u h b b' n k (inl y) = by (onto_named (behind_all [] (as_statements run)) (behind_all [] (as_statements call)) r.scope r'.scope (length r.tables.vars) (length r'.tables.vars) b b' M.variables (behind_all [] (as_statements call)) n k (λ w z. z) y)
    where
      by : OldOrNamed (behind_all [] (as_statements run)) (behind_all [] (as_statements call)) r.scope r'.scope M.variables n k
          → ((n < length t.vars) × (k < length u.vars)) ⊎ (NamedByBoth run call r.scope r'.scope n k ⊎ ((length r.tables.vars ≤ n) × (length r'.tables.vars ≤ k)))
      by (inl z) = inl (has_below M.variables (length t.vars) (length u.vars) n k h z)
      by (inr z) = inr (inl z)

  either_loop : (M : Made) (r r' : Scoped) (t u : ItemNames) → Below M.loops (length t.loops) (length u.loops) → (n k : ℕ) → Has M.loops n k ⊎ ((length r.tables.loops ≤ n) × (length r'.tables.loops ≤ k))
      → ((n < length t.loops) × (k < length u.loops)) ⊎ ((length r.tables.loops ≤ n) × (length r'.tables.loops ≤ k))
  either_loop M r r' t u h n k (inl y) = inl (has_below M.loops (length t.loops) (length u.loops) n k h y)
  either_loop M r r' t u h n k (inr y) = inr y

  -- ways to the tails
  abbrev path_of : List ℕ → List Statement → List ℕ
  path_of at middle = child at (number (length (listed (as_statements (front ++ (middle ++ behind))))))

  abbrev BlockMade : Variables → Variables → Made → List ℕ → List ℕ → ItemNames → ItemNames → ItemNames → Type 0
  BlockMade sc sc' M at at' t t' u = Part J M t t' u (λ G v. in_block I' sc' ls' at' (plain.body s (as_statements (front ++ (call ++ behind))) o) u ≡ Ok v) (StoodNumbers sc sc' at at' t u t')

  module _ (sc sc' : Variables) (M : Made) (at at' : List ℕ) (t t' u : ItemNames) where
    -- all parts
    parts_together : (r m e : Scoped) (A : FrontMade sc' M at' t u r) → in_statements I sc ls at 0 (as_statements front) t ≡ Ok r → in_statements I r.scope ls at (past_all 0 front) (as_statements run) r.tables ≡ Ok m → (N : Text r.tables m (as_statements run))
        → (C : Resolved T items I' r.scope ls A.answer.0 ls' A.made at' (past_all 0 front) call A.table) → (D : Text A.table C.end (as_statements call)) → (G : Made) → Grows A.made G → HasPassage G.passages (passage_at A.made m C.end)
        → ((x : List ℕ) → Agree run call x → Meet (Has G.variables) (variable_named m.scope x) (variable_named C.end.scope x)) → BehindMade G at' (past_all (past_all 0 front) call) (path_of at' call) m e t' C.end → BlockMade sc sc' M at at' t t' u
    parts_together r m e A comes goes N C D G g here meet Z =
        let B = Z.statements in let O = Z.tail in
        let m1 : Scoped = record { scope = A.answer.0; tables = A.table } in let m3 : Scoped = record { scope = B.answer.0; tables = B.table } in record {
          made = O.made;
          grows = grows_on A.grows (grows_on g (grows_on B.grows O.grows));
          table = O.table;
          answer = and_ok (in_statements I' sc' ls' at' 0 (as_statements (front ++ (call ++ behind))) u) m3 (λ r. in_optional I' r.scope ls' (path_of at' call) o r.tables) (Ok O.table)
              (join I' sc' ls' at' 0 front (call ++ behind) u m1 m3 A.answer.1 (join I' A.answer.0 ls' at' (past_all 0 front) call behind A.table C.end m3 C.resolves B.answer.1)) O.answer;
          reached = O.reached;
          added = (A.added ++ (N.added ++ B.added)) ++ O.added;
          added' = (A.added' ++ (D.added ++ B.added')) ++ O.added';
          grown = O.grown ∙ ap (λ (l : List NodeNames). l ++ O.added) (B.grown ∙ ap (λ (l : List NodeNames). l ++ B.added) (N.grown ∙ ap (λ (l : List NodeNames). l ++ N.added) A.grown)) ∙ four t.names A.added N.added B.added O.added;
          grown' = O.grown' ∙ ap (λ (l : List NodeNames). l ++ O.added') (B.grown' ∙ ap (λ (l : List NodeNames). l ++ B.added') (D.grown ∙ ap (λ (l : List NodeNames). l ++ D.added) A.grown')) ∙ four u.names A.added' D.added B.added' O.added';
          numbers = λ R sv k k'.
              let sB = serves_before O.grows sv in let sC = serves_before B.grows sB in let sA = serves_before g sC in
              let NS : Numbers (Stood sc sc' at at' t u R) r.tables A.table m.tables C.end.tables N.added D.added (of_statements (as_statements run)) (of_statements (as_statements call)) = record {
                holds = λ c c' rest rest' q e e'.
                    let x = N.numbers.holds c rest (q.declared, q.loops) e in let y = D.numbers.holds c' rest' (q.declared', q.loops') e' in record {
                      like = record {
                        text = record { middle = r; comes = comes; place = past_all 0 front; end = m; goes = goes; added = N.added; grown = N.grown; cursor = c; rest = rest; stands = (q.declared, q.loops); names = e; is = refl };
                        made = record { middle = m1; comes = A.answer.1; place = past_all 0 front; end = C.end; goes = C.resolves; added = D.added; grown = D.grown; cursor = c'; rest = rest'; stands = (q.declared', q.loops'); names = e'; is = refl };
                        names = λ z. by_renaming items A.made R sA (variable_named r.scope z) (variable_named A.answer.0 z) (A.answer.2 z);
                        earlier = λ z. made_in_front A.made.variables (length r.tables.vars) (length A.table.vars) A.reached.passages.below (variable_named r.scope z) (variable_named A.answer.0 z) (A.answer.2 z);
                        behind = λ z d. by_renaming items G R sC (variable_named m.scope z) (variable_named C.end.scope z) (meet z d);
                        variables = λ n k w. either A.made m C.end r.tables A.table A.reached.passages.below (bound_below I ls at (past_all 0 front) (as_statements run) r.scope r.tables m goes) (bound_below I' ls' at' (past_all 0 front) (as_statements call) A.answer.0 A.table C.end C.resolves) n k ((sC.passages (passage_at A.made m C.end) here).variables n k w);
                        loops = λ n k w. either_loop A.made m C.end r.tables A.table A.reached.passages.below_loops n k ((sC.passages (passage_at A.made m C.end) here).loops n k w);
                        told = C.told D.added D.grown R sA c' rest' (q.declared', q.loops') e';
                      };
                      cursors = record { declared = x.stands.0; declared' = y.stands.0; loops = x.stands.1; loops' = y.stands.1 };
                      left = x.left;
                      left' = y.left;
                    };
              } in
              body_numbers front run call behind R (Stood sc sc' at at' t u R) s o k k' (rows_numbers front run call behind R (Stood sc sc' at at' t u R) (A.numbers R sA) NS (B.numbers R sB)) (O.numbers R sv k k');
        }

    -- behind the front
    with_front : LoopsAlike M ls ls' → StatementsWithin (agreed run call) [] [] (as_statements behind) → OptionalWithin (agreed run call) (behind_all [] (as_statements behind)) [] o → CallResolves T items I I' front run call sc sc' ls ls' M
        → (r m e : Scoped) → in_statements I sc ls at 0 (as_statements front) t ≡ Ok r → in_statements I r.scope ls at (past_all 0 front) (as_statements run) r.tables ≡ Ok m → in_statements I m.scope ls at (past_all (past_all 0 front) run) (as_statements behind) m.tables ≡ Ok e
        → in_optional I e.scope ls (path_of at run) o e.tables ≡ Ok t' → FrontMade sc' M at' t u r → BlockMade sc sc' M at at' t t' u
    with_front loops follows ends stands r m e comes goes on last A =
        let i1 = past_all 0 front in
        let C = stands at at' t r m i1 comes goes A.answer.0 A.made (record { variables = A.grows.variables; loops = A.grows.loops; passages = A.grows.passages }) A.answer.2 i1 A.table in
        let G : Made = past_run run call A.made m C.end in
        let g : Grows A.made G = past_grows run call A.made m C.end in
        let meet = meet_behind run call A.made.variables r.scope A.answer.0 m.scope C.end.scope A.answer.2
        (statements_cover I ls at i1 (as_statements run) [] r.scope r.scope r.tables m (covers_itself r.scope) goes)
        (statements_cover I' ls' at' i1 (as_statements call) [] A.answer.0 A.answer.0 A.table C.end (covers_itself A.answer.0) C.resolves) in
        parts_together r m e A comes goes (text_alone P a L r.scope ls at i1 (as_statements run) r.tables m goes) C (text_alone Q b L A.answer.0 ls' at' i1 (as_statements call) A.table C.end C.resolves) G g (inl refl) meet
        (behind_made G at at' (past_all i1 run) (past_all i1 call) (path_of at run) (path_of at' call) m e t' C.end meet (loops_later A.made G ls ls' g (loops_later M A.made ls ls' A.grows loops)) follows ends on last
        (passes items run call I I' ls ls' at at' i1 i1 A.made r.scope A.answer.0 r.tables A.table m C.end goes C.resolves A.reached))

  pub replaced_part : (sc sc' : Variables) (M : Made) → AllMeet (Has M.variables) sc sc' → LoopsAlike M ls ls' → StatementsWithin (agreed run call) [] [] (as_statements behind) → OptionalWithin (agreed run call) (behind_all [] (as_statements behind)) [] o
      → CallResolves T items I I' front run call sc sc' ls ls' M → (at at' : List ℕ) (t t' u : ItemNames) → Reached J M t u → in_block I sc ls at (plain.body s (as_statements (front ++ (run ++ behind))) o) t ≡ Ok t' → BlockMade sc sc' M at at' t t' u
  replaced_part sc sc' M names loops follows ends stands at at' t t' u q e =
      let X = named_ok (in_statements I sc ls at 0 (as_statements (front ++ (run ++ behind))) t) (λ r. in_optional I r.scope ls (path_of at run) o r.tables) t' e in
      let S1 = split I sc ls at 0 front (run ++ behind) t X.0 X.1 in
      let S2 = split I S1.middle.scope ls at (past_all 0 front) run behind S1.middle.tables X.0 S1.rest in
      with_front sc sc' M at at' t t' u loops follows ends stands S1.middle S2.middle X.0 S1.front S2.front S2.rest X.2 (front_made sc sc' M names loops at at' t u q S1.middle S1.front)
