-- A run that is copied into another function as it stands, numbered beside its copy there.
use Rattle.std.proofs.Common.{◌≡◌, ℕ, Bool, if◌then◌else◌, List, Option, Some, None, refl, sym, subst}
use Rattle.rx_core.specs.declared.types.Span.{Span}
use Rattle.rx_tree.specs.declared.tree.Ident.{Ident}
use Rattle.rx_tree.specs.Plain as plain
use Rattle.rx_tree.specs.Plain.{Expression, OptionalExpression, Statements}
use Rattle.rx_resolve_names.specs.Meant.{Around}
use Rattle.rx_typed.specs.declared.nodes.Node.{Node}
use Rattle.rx_typed.specs.declared.nodes.Site.{Site}
use Rattle.rx_typed.specs.Named as named
use Rattle.rx_typed.specs.Named.{Exp, Written}
use Rattle.rx_typed.specs.Naming.{Cursor, of_statements}
use Rattle.rx_hoist_extraction.specs.Names.{Names}
use Rattle.rx_hoist_extraction.specs.Changed.{changed_statements}
use Rattle.rx_hoist_extraction.specs.Moved.{leaves, moved_break, moved_continue, moved_return, moving}
use Rattle.rx_engine_names.specs.Renaming.{Renaming}
use Rattle.rx_engine_names.specs.LikeNamed.{LikeStatements}
use Rattle.rx_engine_names.specs.Moves.{Moves, MovedExp, through, leaves_break, leaves_continue, moved}
use Rattle.rx_engine_names.specs.Within.{StatementsWithin}
use Rattle.rx_engine_typing.specs.Renumbered as ren
use Rattle.rx_engine_changed.specs.AsItStands.{as_it_stands, StatementsBeside}
use Rattle.rx_engine_changed.specs.Beside.{Instead, Piece, Numbers, IsOneToOne}
use Rattle.rx_engine_changed.specs.Comes.{some_statements, the_whole, Placed}
use Rattle.rx_engine_changed.specs.Stages.{Mutability, InStep}
use Rattle.rx_engine_changed.proofs.Parts.{OnlySpecial, KeptHoles}
use Rattle.rx_engine_changed.proofs.Counts.{none_such}
use Rattle.rx_engine_changed.proofs.Walk.{ExpKept, NoVariable, Places, statements_kept}
use Rattle.rx_engine_changed.proofs.KeptPlaces.{variable_kept, break_kept, continue_kept, assign_kept_alike, parts_kept}
use Rattle.rx_engine_changed.proofs.Copied.{body_cases}

-- nothing else stands for a part
abbrev nothing : List Piece → Instead → Type 0
nothing ps i = ⊥

module _ (R : Renaming) (W : Mutability) (apart : IsOneToOne R) (even : (n m : ℕ) (b : Bool) → W n m b b) (same : (n m : ℕ) (a b : Bool) → W n m a b → b ≡ a) (V : Moves) (holes : Numbers → ren.Holes) where
  only_moved : OnlySpecial (moved V)
  only_moved R e e' (through s p h) = tt
  only_moved R e e' (leaves_break r h) = tt
  only_moved R e e' (leaves_continue r h) = tt

  not_broken : (R : Renaming) (n n' : Node) (l l' : ℕ) → MovedExp V R (named.break n l) (named.break n' l') → ⊥
  not_broken R n n' l l' (leaves_break r h) = elim h [ ]

  not_continued : (R : Renaming) (n n' : Node) (l l' : ℕ) → MovedExp V R (named.continue n l) (named.continue n' l') → ⊥
  not_continued R n n' l l' (leaves_continue r h) = elim h [ ]

  plainly : KeptHoles (moved V)
  plainly = record { no_variable = λ R n n' u u' h. elim h [ ]; no_break = not_broken; no_continue = not_continued }

  untyped : (R : Renaming) (s : Span) (t t' : Option Written) → (moved V).annotation R s t t' → ⊥
  untyped R s t t' h = h

  abbrev EKept : Placed → Placed → Bool → Site → Expression → Expression → Type 0
  EKept A A' = ExpKept R W apart even nothing none_such A A' (moved V) only_moved untyped holes

  no_break : (s : Span) (l : Option Ident) (o : Option ℕ) → NoVariable (moved_break V.plan V.place s l o)
  no_break s l None x c = refl
  no_break s l (Some k) x c = refl

  no_continue : (s : Span) (l : Option Ident) (o : Option ℕ) → NoVariable (moved_continue V.plan V.place s l o)
  no_continue s l None x c = refl
  no_continue s l (Some k) x c = refl

  no_return : (s : Span) (o : OptionalExpression) → NoVariable (moved_return V.plan V.place s o)
  no_return s plain.absent x c = refl
  no_return s (plain.present e) x c = refl

  places : (A A' : Placed) → Places R W apart even nothing none_such A A' (moved V) only_moved untyped holes (moving V.plan V.place) (as_it_stands V.plan)
  places A A' = record {
    variable = λ own s x n m t. subst (λ (b : Bool). EKept A A' m t (plain.var s x) (if b then plain.deref V.place (plain.var s x) else plain.var s x)) (sym n) (variable_kept R W apart even nothing none_such A A' same (moved V) only_moved plainly untyped holes s x m t);
    broken = λ own ls s l n m t. subst (λ (o : Option ℕ). EKept A A' m t (plain.break s l) (moved_break V.plan V.place s l o)) (sym n) (break_kept R W apart even nothing none_such A A' same (moved V) only_moved plainly untyped holes s l m t);
    continued = λ own ls s l n m t. subst (λ (o : Option ℕ). EKept A A' m t (plain.continue s l) (moved_continue V.plan V.place s l o)) (sym n) (continue_kept R W apart even nothing none_such A A' same (moved V) only_moved plainly untyped holes s l m t);
    returned = λ s o o' n. absurd n;
    assigned = λ own s z x e e' n m t ke. subst (λ (b : Bool). EKept A A' m t (plain.assign s (plain.var z x) e) (plain.assign s (if b then plain.deref V.place (plain.var z x) else plain.var z x) e')) (sym n)
        (assign_kept_alike R W apart even nothing none_such A A' same (moved V) only_moved plainly untyped holes s z x e e' m t ke);
    no_break = λ ls s l. no_break s l (leaves l ls);
    no_continue = λ ls s l. no_continue s l (leaves l ls);
    no_return = no_return;
    kinds = λ s k. refl;
    types = λ p y. refl;
    blocks = λ own ls s t ss ss' o o' n ks ko made c c' come come' st h. let g = body_cases {H = moved V} (λ x. x) h in parts_kept R W apart even nothing none_such A A' same (moved V) only_moved plainly untyped holes s t ss ss' o o' ks ko made c c' come come' st g.0 g.1;
  }

  pub run_beside : (own : Names) (ls : List Around) (ss : Statements) → StatementsWithin (as_it_stands V.plan) own ls ss → (made : List Piece) (c c' : Cursor) → InStep R W made c c'
      → LikeStatements (moved V) R (of_statements ss c).0 (of_statements (changed_statements (moving V.plan V.place) own ls ss) c').0
      → StatementsBeside R W holes made c c' (of_statements ss c) (of_statements (changed_statements (moving V.plan V.place) own ls ss) c')
  run_beside own ls ss within made c c' st h =
      let K = statements_kept R W apart even nothing none_such (some_statements ss, c) (some_statements (changed_statements (moving V.plan V.place) own ls ss), c') (moved V) only_moved untyped holes (moving V.plan V.place) (as_it_stands V.plan) (places (some_statements ss, c) (some_statements (changed_statements (moving V.plan V.place) own ls ss), c')) own ls ss within made c c' the_whole the_whole st h in
      record { pieces = K.now; grows = K.grows; step = K.step; like = K.like }
