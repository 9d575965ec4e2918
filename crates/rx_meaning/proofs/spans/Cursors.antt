-- Cursors that differ in spans alone, and what each step of the numbering makes of two such.
use Rattle.std.proofs.Common.{◌≡◌, ℕ, suc, true, false, List, [], ◌∷◌, ◌++◌, map, take, drop, ◌-◌, get_or, refl, sym, ap, ◌∙◌, subst}
use Rattle.std.specs.Prelude.{slice_set, length, Option, Some, None}
use Rattle.std.proofs.lemmas.List.{map-append, map-set, take-map, drop-map}
use Rattle.std.proofs.Math.ListN.{get_or-map}
use Rattle.rx_core.specs.declared.types.Span.{Span}
use Rattle.rx_tree.specs.Plain.{PatternTree, TypeTree}
use Rattle.rx_tree.specs.Erase.{nowhere, erase_pattern, erase_type}
use Rattle.rx_resolve_names.specs.declared.resolved.NodeNames.{NodeNames}
use Rattle.rx_typed.specs.declared.nodes.Site.{Site}
use Rattle.rx_typed.specs.declared.nodes.Stage.{Stage}
use Rattle.rx_typed.specs.declared.nodes.Declaration.{Declaration}
use Rattle.rx_typed.specs.Naming.{Cursor, a_node, an_entry, taken, is_known, not_declared, declaration, use_of, declare, as_known, known_among, known_between, set_stage, leads, a_loop, is_left, waiting, given_here, gives_here, annotates}
use Rattle.rx_meaning.proofs.spans.Bare.{bare_node}

abbrev pub bare_stage : Stage → Stage
bare_stage Stage.Known = Stage.Known
bare_stage (Stage.Waits p s) = Stage.Waits p nowhere
bare_stage Stage.Given = Stage.Given

abbrev pub bare_declaration : Declaration → Declaration
bare_declaration d = record d { stage = bare_stage d.stage }

pub record Like (c c' : Cursor) : Type 0 where
  pub number : c.number ≡ c'.number
  pub loops : c.loops ≡ c'.loops
  pub declared : c.declared ≡ c'.declared
  pub variables : map bare_declaration c.variables ≡ map bare_declaration c'.variables
  pub names : c.names ≡ c'.names

-- what two steps give is the same as seen by a function, and they leave such cursors
abbrev pub Both : {A B : Type 0} → (A → B) → A × Cursor → A × Cursor → Type 0
Both f r r' = (f r.0 ≡ f r'.0) × Like r.1 r'.1

abbrev pub itself : {A : Type 0} → A → A
itself a = a

pub node_like : (s s' : Span) (t : Site) (c c' : Cursor) → Like c c' → Both bare_node (a_node s t c) (a_node s' t c')
node_like s s' t c c' l = (
  ap (λ n. record { number = n; span = nowhere; site = t }) l.number,
  record { number = ap suc l.number; loops = l.loops; declared = l.declared; variables = l.variables; names = l.names },
)

taken_like : (ns : List NodeNames) (c c' : Cursor) → Like c c' → Both itself (taken ns c) (taken ns c')
taken_like [] c c' l = (refl, l)
taken_like (x ∷ xs) c c' l = (refl, record { number = l.number; loops = l.loops; declared = l.declared; variables = l.variables; names = refl })

pub entry_like : (c c' : Cursor) → Like c c' → Both itself (an_entry c) (an_entry c')
entry_like c c' l = subst (λ ns. Both itself (taken c.names c) (taken ns c')) l.names (taken_like c.names c c' l)

-- ---- `let`s with types

pub annotated_like : (p : PatternTree) (y : TypeTree) (c c' : Cursor) → Like c c' → Like (annotates p (Some y) c).1 (annotates (erase_pattern p) (Some (erase_type y)) c').1
annotated_like p y c c' l = record { number = l.number; loops = l.loops; declared = l.declared; variables = l.variables; names = l.names }

-- ---- variables

pub declare_like : (d : Declaration) (c c' : Cursor) → Like c c' → Both itself (declare d c) (declare d c')
declare_like d c c' l = (
  l.declared,
  record {
    number = l.number;
    loops = l.loops;
    declared = ap suc l.declared;
    variables = map-append bare_declaration c.variables (d ∷ []) ∙ ap (λ ds. ds ++ bare_declaration d ∷ []) l.variables ∙ sym (map-append bare_declaration c'.variables (d ∷ []));
    names = l.names;
  },
)

pub declaration_like : (x : ℕ) (c c' : Cursor) → Like c c' → bare_declaration (declaration c x) ≡ bare_declaration (declaration c' x)
declaration_like x c c' l =
    sym (get_or-map bare_declaration c.variables x not_declared) ∙ ap (λ ds. get_or ds x not_declared) l.variables ∙ get_or-map bare_declaration c'.variables x not_declared

known_bare : (s : Stage) → is_known (bare_stage s) ≡ is_known s
known_bare Stage.Known = refl
known_bare (Stage.Waits p s) = refl
known_bare Stage.Given = refl

use_bare : (x : ℕ) (d : Declaration) → use_of x (bare_declaration d) ≡ use_of x d
use_bare x d = ap (λ k. record { number = x; mutable = d.mutable; known = k }) (known_bare d.stage)

pub use_like : (x : ℕ) (c c' : Cursor) → Like c c' → use_of x (declaration c x) ≡ use_of x (declaration c' x)
use_like x c c' l = sym (use_bare x (declaration c x)) ∙ ap (use_of x) (declaration_like x c c' l) ∙ use_bare x (declaration c' x)

waiting_bare : (x : ℕ) (s : Stage) → waiting x (bare_stage s) ≡ waiting x s
waiting_bare x Stage.Known = refl
waiting_bare x (Stage.Waits p s) = refl
waiting_bare x Stage.Given = refl

pub waiting_like : (x : ℕ) (c c' : Cursor) → Like c c' → waiting x (declaration c x).stage ≡ waiting x (declaration c' x).stage
waiting_like x c c' l =
    sym (waiting_bare x (declaration c x).stage) ∙ ap (λ d. waiting x d.stage) (declaration_like x c c' l) ∙ waiting_bare x (declaration c' x).stage

abbrev staged : Declaration → Stage → Declaration
staged d s = record d { stage = s }

set_variables : (x : ℕ) (s s' : Stage) (c c' : Cursor) → bare_stage s ≡ bare_stage s' → Like c c'
    → map bare_declaration (slice_set c.variables x (staged (declaration c x) s)) ≡ map bare_declaration (slice_set c'.variables x (staged (declaration c' x) s'))
set_variables x s s' c c' e l =
    map-set bare_declaration c.variables x (staged (declaration c x) s)
    ∙ ap (λ ds. slice_set ds x (bare_declaration (staged (declaration c x) s))) l.variables
    ∙ ap (λ d. slice_set (map bare_declaration c'.variables) x (staged d (bare_stage s))) (declaration_like x c c' l)
    ∙ ap (λ k. slice_set (map bare_declaration c'.variables) x (staged (declaration c' x) k)) e
    ∙ sym (map-set bare_declaration c'.variables x (staged (declaration c' x) s'))

pub stage_like : (x : ℕ) (s s' : Stage) (c c' : Cursor) → bare_stage s ≡ bare_stage s' → Like c c' → Both itself (set_stage x s c) (set_stage x s' c')
stage_like x s s' c c' e l = (refl, record { number = l.number; loops = l.loops; declared = l.declared; variables = set_variables x s s' c c' e l; names = l.names })

given_like : (x : ℕ) (w w' : Option (ℕ × ℕ)) (c c' : Cursor) → w ≡ w' → Like c c' → Both itself (given_here x w c) (given_here x w' c')
given_like x w w' c c' e l = subst (λ o. Both itself (given_here x w c) (given_here x o c')) e (by w)
  where
    by : (w : Option (ℕ × ℕ)) → Both itself (given_here x w c) (given_here x w c')
    by None = (refl, l)
    by (Some w) = (refl, (stage_like x Stage.Known Stage.Known c c' refl l).1)

pub gives_like : (x : ℕ) (c c' : Cursor) → Like c c' → Both itself (gives_here x c) (gives_here x c')
gives_like x c c' l = given_like x (waiting x (declaration c x).stage) (waiting x (declaration c' x).stage) c c' (waiting_like x c c' l) l

known_all : (ds : List Declaration) → map bare_declaration (map as_known ds) ≡ map as_known (map bare_declaration ds)
known_all [] = refl
known_all (d ∷ ds) = ap (λ l. as_known (bare_declaration d) ∷ l) (known_all ds)

among_bare : (i k : ℕ) (ds : List Declaration) → map bare_declaration (known_among i k ds) ≡ known_among i k (map bare_declaration ds)
among_bare i k ds =
    map-append bare_declaration (take i ds) (map as_known (take k (drop i ds)) ++ drop k (drop i ds))
    ∙ ap (λ l. map bare_declaration (take i ds) ++ l) (map-append bare_declaration (map as_known (take k (drop i ds))) (drop k (drop i ds)))
    ∙ rw (known_all (take k (drop i ds)), take-map bare_declaration i ds, drop-map bare_declaration i ds, take-map bare_declaration k (drop i ds), drop-map bare_declaration k (drop i ds)) refl

pub known_like : (i j : ℕ) (c c' : Cursor) → Like c c' → Both itself (known_between i j c) (known_between i j c')
known_like i j c c' l = (
  refl,
  record {
    number = l.number;
    loops = l.loops;
    declared = l.declared;
    variables = among_bare i (j - i) c.variables ∙ ap (known_among i (j - i)) l.variables ∙ sym (among_bare i (j - i) c'.variables);
    names = l.names;
  },
)

-- ---- loops

pub loop_like : (c c' : Cursor) → Like c c' → Both itself (a_loop c) (a_loop c')
loop_like c c' l = (
  ap length l.loops,
  record { number = l.number; loops = ap (λ k. k ++ false ∷ []) l.loops; declared = l.declared; variables = l.variables; names = l.names },
)

pub leads_like : (k : ℕ) (c c' : Cursor) → Like c c' → Both itself (leads k c) (leads k c')
leads_like k c c' l = (refl, record { number = l.number; loops = ap (λ b. slice_set b k true) l.loops; declared = l.declared; variables = l.variables; names = l.names })

pub left_like : (k : ℕ) (c c' : Cursor) → Like c c' → Both itself (is_left k c) (is_left k c')
left_like k c c' l = (ap (λ b. get_or b k false) l.loops, l)
