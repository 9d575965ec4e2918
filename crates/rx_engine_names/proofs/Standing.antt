-- Where a part that is copied stands: the scopes of both sides, and the loops round it.
use Rattle.std.proofs.Common.{◌≡◌, ℕ, Bool, true, false, if◌then◌else◌, List, ◌∷◌, ◌++◌, Option, Some, None, Ok, refl, ap, subst, length-set}
use Rattle.rx_core.specs.declared.types.Span.{Span}
use Rattle.rx_tree.specs.declared.tree.Ident.{Ident}
use Rattle.rx_tree.specs.Plain as plain
use Rattle.rx_tree.specs.Spans.{body_span, pattern_span}
use Rattle.rx_tree.specs.Plain.{TypeTree, PatternTree, Expression, Expressions, OptionalExpression, OptionalExpressions, FieldExpressions, Arms, Body, Statement, Statements}
use Rattle.rx_resolve_names.specs.Scopes.{DeclaredNames, Variables, entered}
use Rattle.rx_resolve_names.specs.declared.resolved.ItemNames.{ItemNames}
use Rattle.rx_resolve_names.specs.Meant.{Around, a_loop, a_test, Target, to_loop, out_of_test, nowhere, through_test, is_meant, target}
use Rattle.rx_resolve_names.specs.Steps.{Inside}
use Rattle.rx_resolve_names.specs.Names.{in_expression, in_optional, in_block, in_optional_type}
use Rattle.rx_typed.specs.declared.nodes.Node.{Node}
use Rattle.rx_typed.specs.declared.nodes.Site.{Site}
use Rattle.rx_typed.specs.declared.nodes.Stage.{Stage}
use Rattle.rx_typed.specs.Named as named
use Rattle.rx_typed.specs.Naming as numbering
use Rattle.rx_typed.specs.Naming.{of_optional_type, of_expression, of_expressions, of_optional, of_arguments, of_fields, of_arms, of_body, of_statement, of_statements}
use Rattle.rx_core.specs.declared.types.Kind as kinds
use Rattle.rx_engine_names.specs.Renaming.{Renaming, Pairs, Has, Made}
use Rattle.rx_engine_names.specs.LikeNamed.{Holes, SameSpan, LikeAnnotation, LikeExp, LikeExps, LikeElse, LikeFields, LikeArms, LikeBody, LikeStatement, LikeStatements}
use Rattle.rx_hoist_extraction.specs.Names.{Names}
use Rattle.rx_hoist_extraction.specs.Changed.{Changes}
use Rattle.rx_hoist_extraction.specs.Moved.{beyond, leaves}
use Rattle.rx_engine_names.specs.Within.{Claims}
use Rattle.rx_engine_names.specs.Moves.{labels_of}
use Rattle.rx_engine_names.proofs.SideBySide.{Frame, Reached, Grows, Kind, Numbers, Keeps, Part}
use Rattle.rx_engine_names.proofs.Scoped.{Outer, Scopes, scopes_later, BoundAlike, declared_names, scopes_entered}
use Rattle.rx_engine_names.proofs.Fitting.{FitItems}

-- ---- numberings of each kind of part. What a place makes of a value may differ

abbrev pub ExpNumbers : Holes → ItemNames → ItemNames → Expression → Expression → ItemNames → Kind
ExpNumbers H t u e e' t' R u' es es' = (m m' : Bool) (k k' : Site) → Numbers (LikeExp H R) t u t' u' es es' (of_expression m k e) (of_expression m' k' e')

abbrev pub AllNumbers : Holes → ItemNames → ItemNames → Expressions → Expressions → ItemNames → Kind
AllNumbers H t u e e' t' R u' es es' = (k k' : Site) → Numbers (LikeExps H R) t u t' u' es es' (of_expressions k e) (of_expressions k' e')

abbrev pub ElseNumbers : Holes → ItemNames → ItemNames → OptionalExpression → OptionalExpression → ItemNames → Kind
ElseNumbers H t u e e' t' R u' es es' = (k k' : Site) → Numbers (LikeElse H R) t u t' u' es es' (of_optional k e) (of_optional k' e')

abbrev pub ArgumentsNumbers : Holes → ItemNames → ItemNames → OptionalExpressions → OptionalExpressions → ItemNames → Kind
ArgumentsNumbers H t u e e' t' R u' es es' = Numbers (LikeExps H R) t u t' u' es es' (of_arguments e) (of_arguments e')

abbrev pub FieldsNumbers : Holes → ItemNames → ItemNames → FieldExpressions → FieldExpressions → ItemNames → Kind
FieldsNumbers H t u e e' t' R u' es es' = Numbers (LikeFields H R) t u t' u' es es' (of_fields e) (of_fields e')

abbrev pub ArmsNumbers : Holes → ItemNames → ItemNames → Arms → Arms → ItemNames → Kind
ArmsNumbers H t u e e' t' R u' es es' = (k k' : Site) → Numbers (LikeArms H R) t u t' u' es es' (of_arms k e) (of_arms k' e')

abbrev pub BodyNumbers : Holes → ItemNames → ItemNames → Body → Body → ItemNames → Kind
BodyNumbers H t u e e' t' R u' es es' = (k k' : Site) → Numbers (LikeBody H R) t u t' u' es es' (of_body k e) (of_body k' e')

abbrev pub StatementNumbers : Holes → ItemNames → ItemNames → Statement → Statement → ItemNames → Kind
StatementNumbers H t u e e' t' R u' es es' = Numbers (LikeStatement H R) t u t' u' es es' (of_statement e) (of_statement e')

abbrev pub StatementsNumbers : Holes → ItemNames → ItemNames → Statements → Statements → ItemNames → Kind
StatementsNumbers H t u e e' t' R u' es es' = Numbers (LikeStatements H R) t u t' u' es es' (of_statements e) (of_statements e')

abbrev pub AnnotationNumbers : Holes → Span → ItemNames → ItemNames → Option TypeTree → Option TypeTree → ItemNames → Kind
AnnotationNumbers H s t u y y' t' R u' es es' = Numbers (LikeAnnotation H R s) t u t' u' es es' (of_optional_type y) (of_optional_type y')

-- ---- steps of numbering that touch no names

pub keeps_counted : Keeps numbering.counted
keeps_counted = record { names = λ c. refl; declared = λ c. refl; loops = λ c. refl }

pub keeps_between : (i j : ℕ) → Keeps (numbering.known_between i j)
keeps_between i j = record { names = λ c. refl; declared = λ c. refl; loops = λ c. refl }

pub keeps_annotates : (p : PatternTree) (y : Option TypeTree) → Keeps (numbering.annotates p y)
keeps_annotates p None = record { names = λ c. refl; declared = λ c. refl; loops = λ c. refl }
keeps_annotates p (Some y) = record { names = λ c. refl; declared = λ c. refl; loops = λ c. refl }

pub keeps_stage : (x : ℕ) (s : Stage) → Keeps (numbering.set_stage x s)
keeps_stage x s = record { names = λ c. refl; declared = λ c. refl; loops = λ c. refl }

pub keeps_a_use : (x : ℕ) → Keeps (numbering.a_use x)
keeps_a_use x = record { names = λ c. refl; declared = λ c. refl; loops = λ c. refl }

keeps_given_here : (x : ℕ) (o : Option (ℕ × ℕ)) → Keeps (numbering.given_here x o)
keeps_given_here x None = record { names = λ c. refl; declared = λ c. refl; loops = λ c. refl }
keeps_given_here x (Some w) = record { names = λ c. refl; declared = λ c. refl; loops = λ c. refl }

pub keeps_gives_here : (x : ℕ) → Keeps (numbering.gives_here x)
keeps_gives_here x = record {
  names = λ c. (keeps_given_here x (numbering.waiting x (numbering.declaration c x).stage)).names c;
  declared = λ c. (keeps_given_here x (numbering.waiting x (numbering.declaration c x).stage)).declared c;
  loops = λ c. (keeps_given_here x (numbering.waiting x (numbering.declaration c x).stage)).loops c;
}

keeps_waits_at : (n : _) (o : Option ℕ) → Keeps (numbering.waits_at n o)
keeps_waits_at n None = record { names = λ c. refl; declared = λ c. refl; loops = λ c. refl }
keeps_waits_at n (Some x) = keeps_stage x (Stage.Waits n.number n.span)

pub keeps_waits : (b : Bool) (p : named.Pattern) → Keeps (numbering.waits_if b p)
keeps_waits true p = keeps_waits_at (named.pattern_node p) (named.whole_binding p)
keeps_waits false p = record { names = λ c. refl; declared = λ c. refl; loops = λ c. refl }

pub keeps_leads : (l : ℕ) → Keeps (numbering.leads l)
keeps_leads l = record { names = λ c. refl; declared = λ c. refl; loops = λ c. length-set c.loops l true }

pub keeps_is_left : (l : ℕ) → Keeps (numbering.is_left l)
keeps_is_left l = record { names = λ c. refl; declared = λ c. refl; loops = λ c. refl }

pub keeps_waits_for : (p : Expression) (q : named.Exp) → Keeps (numbering.waits_for p q)
keeps_waits_for p q = record { names = λ c. refl; declared = λ c. refl; loops = λ c. refl }

-- ---- loops round a part: those of the first, those by which jumps are changed, those of the second

abbrev pub Goes : (ℕ → ℕ → Type 0) → Made → Option ℕ → ℕ → Target → Type 0
Goes left M None n x = (m : ℕ) × (x ≡ to_loop m) × Has M.loops n m
Goes left M (Some k) n x = left n k

-- a jump leads to loops that correspond, or leaves
abbrev pub Led : (ℕ → ℕ → Type 0) → Made → List Around → List Around → List Around → Type 0
Led left M ls m ls' = (l : Option Ident) (n : ℕ) → target l ls ≡ to_loop n → Goes left M (leaves l m) n (target l ls')

goes_later : (left : ℕ → ℕ → Type 0) (M M' : Made) → Grows M M' → (o : Option ℕ) (n : ℕ) (x : Target) → Goes left M o n x → Goes left M' o n x
goes_later left M M' g None n x h = (h.0, h.1, g.loops n h.0 h.2)
goes_later left M M' g (Some k) n x h = h

pub led_later : (left : ℕ → ℕ → Type 0) (M M' : Made) → Grows M M' → (ls m ls' : List Around) → Led left M ls m ls' → Led left M' ls m ls'
led_later left M M' g ls m ls' h l n e = goes_later left M M' g (leaves l m) n (target l ls') (h l n e)

loop_same : (n j : ℕ) → to_loop n ≡ to_loop j → n ≡ j
loop_same n j e = cc

not_through : (a : Target) (j : ℕ) → through_test a ≡ to_loop j → ⊥
not_through (to_loop n) j e = cc
not_through out_of_test j e = cc
not_through nowhere j e = cc

pub led_loop : (left : ℕ → ℕ → Type 0) (M : Made) (ls m ls' : List Around) (l : Option Ident) (n n' : ℕ) → Led left M ls m ls' → Has M.loops n n' → Led left M (a_loop l n ∷ ls) (a_loop l 0 ∷ m) (a_loop l n' ∷ ls')
led_loop left M ls m ls' l n n' h r x j e = by (is_meant x l) e
  where
    by : (b : Bool) → (if b then to_loop n else target x ls) ≡ to_loop j → Goes left M (beyond (if b then to_loop 0 else target x m)) j (if b then to_loop n' else target x ls')
    by true e = (n', refl, subst (λ (z : ℕ). Has M.loops z n') (loop_same n j e) r)
    by false e = h x j e

pub led_test : (left : ℕ → ℕ → Type 0) (M : Made) (ls m ls' : List Around) → Led left M (a_test ∷ ls) (a_test ∷ m) (a_test ∷ ls')
led_test left M ls m ls' x j e = absurd (not_through (target x ls) j e)

-- ---- what is known of what stands round a part: in the first, and by which it is changed

pub record Rounds : Type 1 where
  pub holds : List Around → List Around → Type 0
  pub in_loop : (ls m : List Around) (l : Option Ident) (n : ℕ) → holds ls m → holds (a_loop l n ∷ ls) (a_loop l 0 ∷ m)
  pub in_test : (ls m : List Around) → holds ls m → holds (a_test ∷ ls) (a_test ∷ m)

-- nothing is
abbrev pub any_rounds : Rounds
any_rounds = record { holds = λ ls m. Unit {0}; in_loop = λ ls m l n h. tt; in_test = λ ls m h. tt }

-- the loops have the same labels
abbrev pub same_labels : Rounds
same_labels = record {
  holds = λ ls m. labels_of ls ≡ labels_of m;
  in_loop = λ ls m l n h. ap (λ (ys : List (Option Ident)). l ∷ ys) h;
  in_test = λ ls m h. h;
}

-- ---- what is copied, and how

pub record Setting : Type 1 where
  pub L : Frame
  pub H : Holes
  pub I : Inside
  pub I' : Inside
  pub fits : FitItems L.items I I'
  pub N : Claims
  pub C : Changes
  -- variables of which the second stands behind a reference, and the names that mean them where they are not bound since
  pub behind : Pairs
  pub stars : Names
  -- loops of the first that jumps leave, with the numbers by which the changes know them
  pub left : ℕ → ℕ → Type 0
  -- the names that are in scope from the beginning, and what is known of them
  pub known : Outer
  pub rounds : Rounds

pub record Stand (K : Setting) (M : Made) (own : Names) (m : List Around) : Type 0 where
  pub sc : Variables
  pub sc' : Variables
  pub ls : List Around
  pub ls' : List Around
  pub scopes : Scopes K.behind M K.N K.stars K.known own sc sc'
  pub led : Led K.left M ls m ls'
  pub round : K.rounds.holds ls m

-- where more was made
abbrev pub later : (K : Setting) (M M' : Made) (own : Names) (m : List Around) → Stand K M own m → Grows M M' → Stand K M' own m
later K M M' own m w g = record {
  sc = w.sc;
  sc' = w.sc';
  ls = w.ls;
  ls' = w.ls';
  scopes = scopes_later K.behind M M' K.N K.stars K.known own w.sc w.sc' g w.scopes;
  led = led_later K.left M M' g w.ls m w.ls' w.led;
  round = w.round;
}

abbrev pub with_bindings : (K : Setting) (M : Made) (own : Names) (m : List Around) (w : Stand K M own m) (names : Names) (ds es : DeclaredNames) → BoundAlike M ds es → declared_names ds ≡ names → Stand K M (names ++ own) m
with_bindings K M own m w names ds es b e = record {
  sc = entered w.sc ds;
  sc' = entered w.sc' es;
  ls = w.ls;
  ls' = w.ls';
  scopes = scopes_entered K.behind M K.N K.stars K.known own names ds es w.sc w.sc' b e w.scopes;
  led = w.led;
  round = w.round;
}

abbrev pub in_the_loop : (K : Setting) (M : Made) (own : Names) (m : List Around) (w : Stand K M own m) (l : Option Ident) (n n' : ℕ) → Has M.loops n n' → Stand K M own (a_loop l 0 ∷ m)
in_the_loop K M own m w l n n' r = record {
  sc = w.sc;
  sc' = w.sc';
  ls = a_loop l n ∷ w.ls;
  ls' = a_loop l n' ∷ w.ls';
  scopes = w.scopes;
  led = led_loop K.left M w.ls m w.ls' l n n' w.led r;
  round = K.rounds.in_loop w.ls m l n w.round;
}

abbrev pub in_the_test : (K : Setting) (M : Made) (own : Names) (m : List Around) (w : Stand K M own m) → Stand K M own (a_test ∷ m)
in_the_test K M own m w = record { sc = w.sc; sc' = w.sc'; ls = a_test ∷ w.ls; ls' = a_test ∷ w.ls'; scopes = w.scopes; led = led_test K.left M w.ls m w.ls'; round = K.rounds.in_test w.ls m w.round }

-- another scope, behind statements
abbrev pub in_scope : (K : Setting) (M : Made) (own own' : Names) (m : List Around) (w : Stand K M own m) (sc sc' : Variables) → Scopes K.behind M K.N K.stars K.known own' sc sc' → Stand K M own' m
in_scope K M own own' m w sc sc' h = record { sc = sc; sc' = sc'; ls = w.ls; ls' = w.ls'; scopes = h; led = w.led; round = w.round }

-- ---- the special places

-- both are missing, or none is
abbrev pub SameForm : OptionalExpression → OptionalExpression → Type 0
SameForm plain.absent plain.absent = Unit {0}
SameForm (plain.present e) (plain.present e') = Unit {0}
SameForm plain.absent (plain.present e') = ⊥
SameForm (plain.present e) plain.absent = ⊥

abbrev pub ExpPart : (K : Setting) (M : Made) (own : Names) (m : List Around) → Stand K M own m → List ℕ → Expression → Expression → ItemNames → ItemNames → ItemNames → Type 0
ExpPart K M own m w at' e e' t t' u = Part K.L M t t' u (λ G v. in_expression K.I' w.sc' w.ls' at' e' u ≡ Ok v) (ExpNumbers K.H t u e e' t')

abbrev pub ElsePart : (K : Setting) (M : Made) (own : Names) (m : List Around) → Stand K M own m → List ℕ → OptionalExpression → OptionalExpression → ItemNames → ItemNames → ItemNames → Type 0
ElsePart K M own m w at' o o' t t' u = Part K.L M t t' u (λ G v. in_optional K.I' w.sc' w.ls' at' o' u ≡ Ok v) (ElseNumbers K.H t u o o' t')

abbrev pub BodyPart : (K : Setting) (M : Made) (own : Names) (m : List Around) → Stand K M own m → List ℕ → Body → Body → ItemNames → ItemNames → ItemNames → Type 0
BodyPart K M own m w at' b b' t t' u = Part K.L M t t' u (λ G v. in_block K.I' w.sc' w.ls' at' b' u ≡ Ok v) (BodyNumbers K.H t u b b' t')

pub record Special (K : Setting) : Type 0 where
  pub variable : (M : Made) (own : Names) (m : List Around) (w : Stand K M own m) (at at' : List ℕ) (s : Span) (x : List ℕ) (t t' u : ItemNames) → K.N.variable own x
      → in_expression K.I w.sc w.ls at (plain.var s x) t ≡ Ok t' → Reached K.L M t u → ExpPart K M own m w at' (plain.var s x) (K.C.at_variable own s x) t t' u
  pub broken : (M : Made) (own : Names) (m : List Around) (w : Stand K M own m) (at at' : List ℕ) (s : Span) (l : Option Ident) (t t' u : ItemNames) → K.N.broken own m l
      → in_expression K.I w.sc w.ls at (plain.break s l) t ≡ Ok t' → Reached K.L M t u → ExpPart K M own m w at' (plain.break s l) (K.C.at_break m s l) t t' u
  pub continued : (M : Made) (own : Names) (m : List Around) (w : Stand K M own m) (at at' : List ℕ) (s : Span) (l : Option Ident) (t t' u : ItemNames) → K.N.continued own m l
      → in_expression K.I w.sc w.ls at (plain.continue s l) t ≡ Ok t' → Reached K.L M t u → ExpPart K M own m w at' (plain.continue s l) (K.C.at_continue m s l) t t' u
  -- the operand is alike wherever it stands
  pub returned : (M : Made) (own : Names) (m : List Around) (w : Stand K M own m) (at at' : List ℕ) (s : Span) (o o' : OptionalExpression) (t t' u : ItemNames) → K.N.returned → SameForm o o'
      → ((at' : List ℕ) (v : ItemNames) → Reached K.L M t v → ElsePart K M own m w at' o o' t t' v) → Reached K.L M t u → ExpPart K M own m w at' (plain.return s o) (K.C.at_return s o') t t' u
  pub suffix : (R : Renaming) (s : Span) (n n' : Node) (b b' : Bool) (v : ℕ) (k : Option kinds.Kind) → n.span ≡ s → SameSpan n n' → LikeExp K.H R (named.int n b v k) (named.int n' b' v (K.C.at_int s k))
  pub annotated : (M : Made) (at at' : List ℕ) (p : PatternTree) (y : Option TypeTree) (t t' u : ItemNames) → K.N.annotation y → in_optional_type K.I at y t ≡ Ok t' → Reached K.L M t u
      → Part K.L M t t' u (λ G v. in_optional_type K.I' at' (K.C.at_let p y) u ≡ Ok v) (AnnotationNumbers K.H (pattern_span p) t u y (K.C.at_let p y) t')
  -- a block: with its parts done it is alike, if it may be copied
  pub blocks : (M : Made) (own : Names) (m : List Around) (w : Stand K M own m) (at at' : List ℕ) (b done : Body) (t t' u : ItemNames) → K.N.block own m b → in_block K.I w.sc w.ls at b t ≡ Ok t' → Reached K.L M t u
      → (K.H.copied (body_span b) → BodyPart K M own m w at' b done t t' u) → BodyPart K M own m w at' b (K.C.at_block b done) t t' u
