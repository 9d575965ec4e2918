-- Variables, jumps and returns that stay what they are, numbered beside themselves.
use Rattle.std.proofs.Common.{◌≡◌, ℕ, ◌+◌, Bool, true, false, List, ◌∷◌, Option, Some, None, option_map, refl, sym, ap, ◌∙◌, subst}
use Rattle.rx_core.specs.declared.types.Span.{Span}
use Rattle.rx_tree.specs.declared.tree.Ident.{Ident}
use Rattle.rx_tree.specs.Plain as plain
use Rattle.rx_tree.specs.Plain.{Expression, OptionalExpression, Body}
use Rattle.rx_resolve_names.specs.Meant.{Around}
use Rattle.rx_typed.specs.declared.nodes.Node.{Node}
use Rattle.rx_typed.specs.declared.nodes.Site.{Site}
use Rattle.rx_typed.specs.declared.nodes.Stage.{Stage}
use Rattle.rx_typed.specs.declared.nodes.Use.{Use}
use Rattle.rx_typed.specs.declared.nodes.Declaration.{Declaration}
use Rattle.rx_typed.specs.Named as named
use Rattle.rx_typed.specs.Named.{Exp, Written}
use Rattle.rx_typed.specs.Naming as numbering
use Rattle.rx_typed.specs.Naming.{Cursor, a_node, an_entry, first, use_of, declaration, is_known, of_expression}
use Rattle.rx_hoist_extraction.specs.Names.{Names}
use Rattle.rx_hoist_extraction.specs.Changed.{Changes, kept}
use Rattle.rx_engine_names.specs.Renaming.{Renaming}
use Rattle.rx_engine_names.specs.LikeNamed as alike
use Rattle.rx_engine_names.specs.LikeNamed.{LikeExp, LikeElse, IsLeftSide}
use Rattle.rx_engine_names.specs.Within.{Claims}
use Rattle.rx_engine_typing.specs.Renumbered as ren
use Rattle.rx_engine_typing.specs.Renumbered.{RenumberedExp, use_at}
use Rattle.rx_engine_changed.specs.Beside.{Instead, Piece, paired, IsPiece, Numbers, Follows, IsOneToOne}
use Rattle.rx_engine_changed.specs.Comes.{a_body, an_expression, assigned_at, goes_in, Comes, Placed}
use Rattle.rx_engine_changed.specs.Stages.{Mutability, LikeDeclared, not_yet, known, given, waits, InStep}
use Rattle.rx_engine_changed.proofs.Steps.{alike_led, alike_settled, declared_alike, next_node, next_entry}
use Rattle.rx_engine_changed.proofs.Parts.{OnlySpecial, KeptHoles, var_part, break_part, continue_part, return_part, assign_parts, gives_parts, given_parts, giving_parts}
use Rattle.rx_engine_changed.proofs.Counts.{count, count_optional, count_statements}
use Rattle.rx_engine_changed.proofs.Kept.{Kept, adds_none, adds_on, SameExp, SameBody, SameElse, same_or, becomes, both, behind_node, behind_entry, in_front_of, at_node, a_leaf_with_entry}
use Rattle.rx_engine_changed.proofs.Walk.{ExpLike, ExpKept, OptionalKept, Places, BodyLike, BodyKept, StatementsKept}

-- blocks become something else
abbrev pub blocks_alone : (Body → Body → Body) → Changes
blocks_alone b = record kept { at_block = b }

pub use_is : (n n' : ℕ) (a a' b b' : Bool) → n ≡ n' → a' ≡ a → b' ≡ b → ◌≡◌ {A = Use} (record { number = n; mutable = a; known = b }) (record { number = n'; mutable = a'; known = b' })
use_is n n' a a' b b' e f g = cc

pub tails : {d d' : Bool} (o o' : named.Else) → d' ≡ d → SameElse o o' → named.tail_never d' o' ≡ named.tail_never d o
tails {d = d} {d' = d'} o o' e h = ap (λ (b : Bool). named.tail_never b o') e ∙ h.2 d

some_is : {A : Type 0} (a b : A) → ◌≡◌ {A = Option A} (Some a) (Some b) → a ≡ b
some_is a b e = cc

none_some : {A : Type 0} (a : A) → ◌≡◌ {A = Option A} None (Some a) → ⊥
none_some a e = cc

-- ---- what two declarations tell

pub data Waitings (made : List Piece) (x x' : ℕ) : Option (ℕ × ℕ) → Option (ℕ × ℕ) → Type 0 where
  neither : Waitings made x x' None None
  both_wait : {p p' : ℕ} → IsPiece (paired p p') made → Waitings made x x' (Some (x, p)) (Some (x', p'))

like_stages : {made : List Piece} {X : Bool → Bool → Type 0} (o o' : Option Declaration) (d d' : Declaration) → LikeDeclared made X o o' → o ≡ Some d → o' ≡ Some d' → X d.mutable d'.mutable × (is_known d'.stage ≡ is_known d.stage) × ((x x' : ℕ) → Waitings made x x' (numbering.waiting x d.stage) (numbering.waiting x' d'.stage))
like_stages o o' d d' not_yet e e' = absurd (none_some d e)
like_stages {made = made} {X = X} o o' d d' (known {m = m} {m' = m'} w) e e' =
    let a = some_is (record { mutable = m; stage = Stage.Known }) d e in let b = some_is (record { mutable = m'; stage = Stage.Known }) d' e' in
    subst (λ (d : Declaration). X d.mutable d'.mutable × (is_known d'.stage ≡ is_known d.stage) × ((x x' : ℕ) → Waitings made x x' (numbering.waiting x d.stage) (numbering.waiting x' d'.stage))) a
    (subst (λ (d' : Declaration). X m d'.mutable × (is_known d'.stage ≡ true) × ((x x' : ℕ) → Waitings made x x' None (numbering.waiting x' d'.stage))) b (w, refl, λ x x'. neither))
like_stages {made = made} {X = X} o o' d d' (given {m = m} {m' = m'} w) e e' =
    let a = some_is (record { mutable = m; stage = Stage.Given }) d e in let b = some_is (record { mutable = m'; stage = Stage.Given }) d' e' in
    subst (λ (d : Declaration). X d.mutable d'.mutable × (is_known d'.stage ≡ is_known d.stage) × ((x x' : ℕ) → Waitings made x x' (numbering.waiting x d.stage) (numbering.waiting x' d'.stage))) a
    (subst (λ (d' : Declaration). X m d'.mutable × (is_known d'.stage ≡ false) × ((x x' : ℕ) → Waitings made x x' None (numbering.waiting x' d'.stage))) b (w, refl, λ x x'. neither))
like_stages {made = made} {X = X} o o' d d' (waits {m = m} {m' = m'} {p = p} {p' = p'} {s = s} {s' = s'} w i) e e' =
    let a = some_is (record { mutable = m; stage = Stage.Waits p s }) d e in let b = some_is (record { mutable = m'; stage = Stage.Waits p' s' }) d' e' in
    subst (λ (d : Declaration). X d.mutable d'.mutable × (is_known d'.stage ≡ is_known d.stage) × ((x x' : ℕ) → Waitings made x x' (numbering.waiting x d.stage) (numbering.waiting x' d'.stage))) a
    (subst (λ (d' : Declaration). X m d'.mutable × (is_known d'.stage ≡ false) × ((x x' : ℕ) → Waitings made x x' (Some (x, p)) (numbering.waiting x' d'.stage))) b (w, refl, λ x x'. both_wait i))

module _ (R : Renaming) (W : Mutability) (apart : IsOneToOne R) (even : (n m : ℕ) (b : Bool) → W n m b b) (P : List Piece → Instead → Type 0) (such : Body → Bool) (whole whole' : Placed) where
  -- the declarations of two variables that correspond
  pub record Alikes (made : List Piece) (c c' : Cursor) (x x' : ℕ) : Type 0 where
    pub mutable : W x x' (declaration c x).mutable (declaration c' x').mutable
    pub known : is_known (declaration c' x').stage ≡ is_known (declaration c x).stage
    pub waiting : Waitings made x x' (numbering.waiting x (declaration c x).stage) (numbering.waiting x' (declaration c' x').stage)

  pub alikes : {made : List Piece} (c c' : Cursor) (x x' : ℕ) → InStep R W made c c' → R.variable x x' ≡ true → Alikes made c c' x x'
  alikes c c' x x' st r =
      let h = like_stages (Some (declaration c x)) (Some (declaration c' x')) (declaration c x) (declaration c' x') (declared_alike R W apart even st x x' r) refl refl in
      record { mutable = h.0; known = h.1; waiting = h.2 x x' }

  -- variables that correspond are mutable alike
  module _ (same : (n m : ℕ) (a b : Bool) → W n m a b → b ≡ a) where
    pub used_alike : {made : List Piece} (c c' : Cursor) (x x' : ℕ) → InStep R W made c c' → R.variable x x' ≡ true → (q : Numbers) → Follows R q → use_at q.by (use_of x (declaration c x)) ≡ use_of x' (declaration c' x')
    used_alike c c' x x' st r q f =
        let h = alikes c c' x x' st r in
        use_is (q.by.variables x) x' (declaration c x).mutable (declaration c' x').mutable (is_known (declaration c x).stage) (is_known (declaration c' x').stage) (f.variables x x' r) (same x x' (declaration c x).mutable (declaration c' x').mutable h.mutable) h.known

    module _ (H : alike.Holes) (only : OnlySpecial H) (plain_holes : KeptHoles H) (untyped : (R : Renaming) (s : Span) (t t' : Option Written) → H.annotation R s t t' → ⊥) (holes : Numbers → ren.Holes) where
      abbrev Like : Numbers → Exp → Exp → Type 0
      Like = ExpLike R W apart even P such whole whole' H only untyped holes

      abbrev EKept : Bool → Site → Expression → Expression → Type 0
      EKept = ExpKept R W apart even P such whole whole' H only untyped holes

      var_at : (q : Numbers) (n : Node) (u u' : Use) (k : ℕ) (s : Span) (t : Site) → use_at q.by u ≡ u' → q.by.nodes n.number ≡ k → n.site ≡ t → Like q (named.var n u) (named.var (record { number = k; span = s; site = t }) u')
      var_at q n u u' k s t e d g =
          subst (λ j. Like q (named.var n u) (named.var (record { number = k; span = s; site = t }) j)) e
          (subst (λ j. Like q (named.var n u) (named.var (record { number = k; span = s; site = j }) (use_at q.by u))) g
          (subst (λ j. Like q (named.var n u) (named.var (record { number = j; span = s; site = n.site }) (use_at q.by u))) d (ren.RenumberedExp.var {n = n} {s = s})))

      break_at : (q : Numbers) (n : Node) (l l' k : ℕ) (s : Span) (t : Site) → q.loops l ≡ l' → q.by.nodes n.number ≡ k → n.site ≡ t → Like q (named.break n l) (named.break (record { number = k; span = s; site = t }) l')
      break_at q n l l' k s t e d g =
          subst (λ j. Like q (named.break n l) (named.break (record { number = k; span = s; site = t }) j)) e
          (subst (λ j. Like q (named.break n l) (named.break (record { number = k; span = s; site = j }) (q.loops l))) g
          (subst (λ j. Like q (named.break n l) (named.break (record { number = j; span = s; site = n.site }) (q.loops l))) d (ren.RenumberedExp.break {n = n} {s = s})))

      continue_at : (q : Numbers) (n : Node) (l l' k : ℕ) (s : Span) (t : Site) → q.loops l ≡ l' → q.by.nodes n.number ≡ k → n.site ≡ t → Like q (named.continue n l) (named.continue (record { number = k; span = s; site = t }) l')
      continue_at q n l l' k s t e d g =
          subst (λ j. Like q (named.continue n l) (named.continue (record { number = k; span = s; site = t }) j)) e
          (subst (λ j. Like q (named.continue n l) (named.continue (record { number = k; span = s; site = j }) (q.loops l))) g
          (subst (λ j. Like q (named.continue n l) (named.continue (record { number = j; span = s; site = n.site }) (q.loops l))) d (ren.RenumberedExp.continue {n = n} {s = s})))

      next : {made : List Piece} (s : Span) (t : Site) (c c' : Cursor) → InStep R W made c c' → InStep R W (paired c.number c'.number ∷ made) (a_node s t c).1 (a_node s t c').1
      next s t c c' st = next_node R W apart even s s t t c c' st

      pub variable_kept : (s : Span) (x : List ℕ) (m : Bool) (t : Site) → EKept m t (plain.var s x) (plain.var s x)
      variable_kept s x m t made c c' come come' st h =
          let d = (a_node s t c).1 in let d' = (a_node s t c').1 in let e = (an_entry d).1 in let e' = (an_entry d').1 in
          let st1 = next_entry R W d d' (next s t c c' st) in let j = first (an_entry d).0.0 in let j' = first (an_entry d').0.0 in
          a_leaf_with_entry s s t t c c' (named.var (a_node s t c).0 (use_of j (declaration e j))) (named.var (a_node s t c').0 (use_of j' (declaration e' j'))) st1 (refl, refl)
          (λ q f w. var_at q (a_node s t c).0 _ _ c'.number s t (used_alike e e' j j' st1 (var_part plain_holes h) q f) w refl)

      pub break_kept : (s : Span) (l : Option Ident) (m : Bool) (t : Site) → EKept m t (plain.break s l) (plain.break s l)
      break_kept s l m t made c c' come come' st h =
          let d = (a_node s t c).1 in let d' = (a_node s t c').1 in let e = (an_entry d).1 in let e' = (an_entry d').1 in
          let st1 = next_entry R W d d' (next s t c c' st) in let j = first (an_entry d).0.0 in let j' = first (an_entry d').0.0 in let r = break_part plain_holes h in
          in_front_of (a_leaf_with_entry {T = SameExp} {S = Like} s s t t c c' (named.break (a_node s t c).0 j) (named.break (a_node s t c').0 j') st1 (refl, refl) (λ q f w. break_at q (a_node s t c).0 _ _ c'.number s t (f.loops j j' r) w refl))
          (numbering.led_to j e) (numbering.led_to j' e') refl refl (alike_led R W apart even st1 j j' r)

      pub continue_kept : (s : Span) (l : Option Ident) (m : Bool) (t : Site) → EKept m t (plain.continue s l) (plain.continue s l)
      continue_kept s l m t made c c' come come' st h =
          let d = (a_node s t c).1 in let d' = (a_node s t c').1 in
          let st1 = next_entry R W d d' (next s t c c' st) in let j = first (an_entry d).0.0 in let j' = first (an_entry d').0.0 in
          a_leaf_with_entry s s t t c c' (named.continue (a_node s t c).0 j) (named.continue (a_node s t c').0 j') st1 (refl, refl) (λ q f w. continue_at q (a_node s t c).0 _ _ c'.number s t (f.loops j j' (continue_part plain_holes h)) w refl)

      pub return_kept : ((R : Renaming) (n : Node) (o : named.Else) (e' : Exp) → H.returned R n o e' → ⊥) → ((q : Numbers) → (holes q).returns) → (s : Span) (o o' : OptionalExpression) (m : Bool) (t : Site) → OptionalKept R W apart even P such whole whole' H only untyped holes Site.Expects o o' → EKept m t (plain.return s o) (plain.return s o')
      return_kept none_returned returns s o o' m t k made c c' come come' st h =
          becomes (λ x. named.return (a_node s t c).0 x) (λ x. named.return (a_node s t c').0 x) (behind_node s s t t c c' (k _ (a_node s t c).1 (a_node s t c').1 (goes_in come 0 refl) (goes_in come' 0 refl) (next s t c c' st) (return_part only none_returned h))) (λ z. (refl, refl))
          (λ q a a' f w. at_node q (λ n. Like q (named.return (a_node s t c).0 a) (named.return n a')) c.number c'.number s s t w.0 (ren.RenumberedExp.return (returns q) w.1))

      -- ---- an assignment of a variable, which may give it its type

      -- whole variables that are alike correspond
      whole_alike : (a a' : Exp) (p p' : Node) (x x' : Use) → LikeExp H R a a' → IsLeftSide a p x → IsLeftSide a' p' x' → R.variable x.number x'.number ≡ true
      whole_alike (named.var n u) (named.var n' u') p p' x x' h i i' = subst (λ j. R.variable j x'.number ≡ true) i.variable (subst (λ j. R.variable u.number j ≡ true) i'.variable (var_part plain_holes h))
      whole_alike (named.var n u) _ p p' x x' h i i' = absurd (let e = i'.whole in cc)
      whole_alike _ a' p p' x x' h i i' = absurd (let e = i.whole in cc)

      waits_for_it : (x : ℕ) (s : Stage) (w : ℕ × ℕ) → Some w ≡ numbering.waiting x s → w.0 ≡ x
      waits_for_it x (Stage.Waits p z) w e = ap (λ (y : ℕ × ℕ). y.0) (some_is w (x, p) e)
      waits_for_it x Stage.Known w e = absurd (cc)
      waits_for_it x Stage.Given w e = absurd (cc)

      not_one : {made : List Piece} {x x' : ℕ} {w : ℕ × ℕ} {o : Option (ℕ × ℕ)} → o ≡ None → Waitings made x x' o (Some w) → ⊥
      not_one e (both_wait i) = absurd (cc)

      not_other : {made : List Piece} {x x' : ℕ} {w : ℕ × ℕ} {o : Option (ℕ × ℕ)} → o ≡ None → Waitings made x x' (Some w) o → ⊥
      not_other e (both_wait i) = absurd (cc)

      gives_at : (q : Numbers) (n p : Node) (u u' : Use) (d d' : Option ℕ) (k j : ℕ) (s z : Span) (t i : Site) {e e' : Exp} → use_at q.by u ≡ u' → option_map q.by.nodes d ≡ d' → q.by.nodes n.number ≡ k → n.site ≡ t → q.by.nodes p.number ≡ j → p.site ≡ i → Like q e e'
          → Like q (named.gives n p u d e) (named.gives (record { number = k; span = s; site = t }) (record { number = j; span = z; site = i }) u' d' e')
      gives_at q n p u u' d d' k j s z t i {e} {e'} a b f g v y h =
          subst (λ x. Like q (named.gives n p u d e) (named.gives (record { number = k; span = s; site = t }) (record { number = j; span = z; site = i }) x d' e')) a
          (subst (λ x. Like q (named.gives n p u d e) (named.gives (record { number = k; span = s; site = t }) (record { number = j; span = z; site = i }) (use_at q.by u) x e')) b
          (subst (λ x. Like q (named.gives n p u d e) (named.gives (record { number = k; span = s; site = x }) (record { number = j; span = z; site = i }) (use_at q.by u) (option_map q.by.nodes d) e')) g
          (subst (λ x. Like q (named.gives n p u d e) (named.gives (record { number = x; span = s; site = n.site }) (record { number = j; span = z; site = i }) (use_at q.by u) (option_map q.by.nodes d) e')) f
          (subst (λ x. Like q (named.gives n p u d e) (named.gives (record { number = q.by.nodes n.number; span = s; site = n.site }) (record { number = j; span = z; site = x }) (use_at q.by u) (option_map q.by.nodes d) e')) y
          (subst (λ x. Like q (named.gives n p u d e) (named.gives (record { number = q.by.nodes n.number; span = s; site = n.site }) (record { number = x; span = z; site = p.site }) (use_at q.by u) (option_map q.by.nodes d) e')) v
          (ren.RenumberedExp.gives {n = n} {p = p} {s = s} {t = z} h))))))

      pub assign_kept_alike : (s z : Span) (y : List ℕ) (e e' : Expression) (m : Bool) (t : Site) → ((i : Site) → EKept false i e e') → EKept m t (plain.assign s (plain.var z y) e) (plain.assign s (plain.var z y) e')
      assign_kept_alike s z y e e' m t ke made c c' come come' st h = by (numbering.waiting j (declaration E j).stage) (numbering.waiting j' (declaration E' j').stage) refl refl h
        where
          D : Cursor
          D = (a_node s t c).1

          D' : Cursor
          D' = (a_node s t c').1

          A : Cursor
          A = (a_node z Site.Place D).1

          A' : Cursor
          A' = (a_node z Site.Place D').1

          E : Cursor
          E = (an_entry A).1

          E' : Cursor
          E' = (an_entry A').1

          j : ℕ
          j = first (an_entry A).0.0

          j' : ℕ
          j' = first (an_entry A').0.0

          left : Exp
          left = named.var (a_node z Site.Place D).0 (use_of j (declaration E j))

          left' : Exp
          left' = named.var (a_node z Site.Place D').0 (use_of j' (declaration E' j'))

          now : List Piece
          now = paired D.number D'.number ∷ paired c.number c'.number ∷ made

          st1 : InStep R W now E E'
          st1 = next_entry R W A A' (next z Site.Place D D' (next s t c c' st))

          Goal : Option (ℕ × ℕ) → Option (ℕ × ℕ) → Type 0
          Goal w w' = Kept R W P (0 + count such e) made SameExp Like c c' (numbering.assigned (a_node s t c).0 left w (λ i. of_expression false i e) E) (numbering.assigned (a_node s t c').0 left' w' (λ i. of_expression false i e') E')

          Given : Option (ℕ × ℕ) → Option (ℕ × ℕ) → Type 0
          Given w w' = LikeExp H R (numbering.assigned (a_node s t c).0 left w (λ i. of_expression false i e) E).0 (numbering.assigned (a_node s t c').0 left' w' (λ i. of_expression false i e') E').0

          IfBoth : Numbers → Exp → Exp → Type 0
          IfBoth q x x' = q.by.nodes c.number ≡ c'.number → q.by.nodes D.number ≡ D'.number → Like q x x'

          -- both give the type, or wait for it no more
          give_it : (k k' : ℕ) → R.variable k k' ≡ true → (y : Kept R W P (count such e) now SameExp Like E E' (of_expression false Site.Reborrows e E) (of_expression false Site.Reborrows e' E'))
              → (o o' : Option (ℕ × ℕ)) → Waitings y.now k k' o o'
              → Kept R W P (0 + count such e) now SameExp IfBoth E E'
              (named.gives (a_node s t c).0 (a_node z Site.Place D).0 (use_of k (declaration (of_expression false Site.Reborrows e E).1 k)) (numbering.given_here k o (of_expression false Site.Reborrows e E).1).0 (of_expression false Site.Reborrows e E).0, (numbering.given_here k o (of_expression false Site.Reborrows e E).1).1)
              (named.gives (a_node s t c').0 (a_node z Site.Place D').0 (use_of k' (declaration (of_expression false Site.Reborrows e' E').1 k')) (numbering.given_here k' o' (of_expression false Site.Reborrows e' E').1).0 (of_expression false Site.Reborrows e' E').0, (numbering.given_here k' o' (of_expression false Site.Reborrows e' E').1).1)
          give_it k k' r y _ _ neither = record {
            now = y.now;
            adds = adds_on adds_none y.adds;
            grows = y.grows;
            step = y.step;
            same = (refl, y.same.1);
            like = λ q f w a b. gives_at q (a_node s t c).0 (a_node z Site.Place D).0 (use_of k (declaration (of_expression false Site.Reborrows e E).1 k)) (use_of k' (declaration (of_expression false Site.Reborrows e' E').1 k')) None None c'.number D'.number s z t Site.Place (used_alike (of_expression false Site.Reborrows e E).1 (of_expression false Site.Reborrows e' E').1 k k' y.step r q f) refl a refl b refl (y.like q f w);
          }
          give_it k k' r y _ _ (both_wait {p = p} {p' = p'} i) = record {
            now = y.now;
            adds = adds_on adds_none y.adds;
            grows = y.grows;
            step = alike_settled R W apart even y.step k k' r;
            same = (refl, y.same.1);
            like = λ q f w a b. gives_at q (a_node s t c).0 (a_node z Site.Place D).0 (use_of k (declaration (of_expression false Site.Reborrows e E).1 k)) (use_of k' (declaration (of_expression false Site.Reborrows e' E').1 k')) (Some p) (Some p') c'.number D'.number s z t Site.Place (used_alike (of_expression false Site.Reborrows e E).1 (of_expression false Site.Reborrows e' E').1 k k' y.step r q f) (ap (λ (x : ℕ). Some x) (w (paired p p') i)) a refl b refl (y.like q f w);
          }

          by : (w w' : Option (ℕ × ℕ)) → w ≡ numbering.waiting j (declaration E j).stage → w' ≡ numbering.waiting j' (declaration E' j').stage → Given w w' → Goal w w'
          by None None a a' h =
              let g = assign_parts only h in let x = variable_kept z y false Site.Place _ D D' (goes_in come 0 refl) (goes_in come' 0 refl) (next s t c c' st) g.0 in let v = ke Site.Expects _ E E' (subst (λ (o : Option (ℕ × ℕ)). Comes whole (an_expression false (assigned_at o) e) E) (sym a) (goes_in come 1 refl)) (subst (λ (o : Option (ℕ × ℕ)). Comes whole' (an_expression false (assigned_at o) e') E') (sym a') (goes_in come' 1 refl)) x.step g.1 in
              becomes (λ x. named.assign (a_node s t c).0 x.0 x.1) (λ x. named.assign (a_node s t c').0 x.0 x.1) (behind_node s s t t c c' (both x v)) (λ x. (refl, same_or x.0.1 x.1.1))
              (λ q a a' f w. at_node q (λ n. Like q (named.assign (a_node s t c).0 a.0 a.1) (named.assign n a'.0 a'.1)) c.number c'.number s s t w.0 (ren.RenumberedExp.assign w.1.0 w.1.1))
          by (Some w) (Some w') a a' h =
              let g = gives_parts only h in
              let r : R.variable w.0 w'.0 ≡ true = whole_alike g.left g.left' _ _ _ _ g.like g.is g.is' in
              let x = ke Site.Reborrows _ E E' (subst (λ (o : Option (ℕ × ℕ)). Comes whole (an_expression false (assigned_at o) e) E) (sym a) (goes_in come 1 refl)) (subst (λ (o : Option (ℕ × ℕ)). Comes whole' (an_expression false (assigned_at o) e') E') (sym a') (goes_in come' 1 refl)) st1 g.value in
              let v = give_it w.0 w'.0 r x _ _ (alikes (of_expression false Site.Reborrows e E).1 (of_expression false Site.Reborrows e' E').1 w.0 w'.0 x.step r).waiting in
              becomes (λ x. x) (λ x. x) (behind_node s s t t c c' (behind_node z z Site.Place Site.Place D D' (behind_entry A A' v))) (λ x. x) (λ q a a' f k. k.1.1 k.0 k.1.0)
          by None (Some w') a a' h =
              let g = giving_parts only h in
              let k : w'.0 ≡ j' = waits_for_it j' (declaration E' j').stage w' a' in
              let r : R.variable j w'.0 ≡ true = whole_alike left g.right (a_node z Site.Place D).0 _ (use_of j (declaration E j)) _ g.like (record { node = refl; variable = refl; whole = refl }) g.is' in
              let v = (alikes E E' j j' st1 (subst (λ (i : ℕ). R.variable j i ≡ true) k r)).waiting in
              absurd (not_one (sym a) (subst (λ (o : Option (ℕ × ℕ)). Waitings now j j' (numbering.waiting j (declaration E j).stage) o) (sym a') v))
          by (Some w) None a a' h =
              let g = given_parts only h in
              let k : w.0 ≡ j = waits_for_it j (declaration E j).stage w a in
              let r : R.variable w.0 j' ≡ true = whole_alike g.left left' _ (a_node z Site.Place D').0 _ (use_of j' (declaration E' j')) g.like g.is (record { node = refl; variable = refl; whole = refl }) in
              let v = (alikes E E' j j' st1 (subst (λ (i : ℕ). R.variable i j' ≡ true) k r)).waiting in
              absurd (not_other (sym a') (subst (λ (o : Option (ℕ × ℕ)). Waitings now j j' o (numbering.waiting j' (declaration E' j').stage)) (sym a) v))

      -- ---- all of these; a block is a parameter

      pub kept_places : ((R : Renaming) (n : Node) (o : named.Else) (e' : Exp) → H.returned R n o e' → ⊥) → ((q : Numbers) → (holes q).returns) → (N : Claims) (b : Body → Body → Body)
          → ((own : Names) (ls : List Around) (s : Span) (t : Site) (ss ss' : plain.Statements) (o o' : OptionalExpression) → N.block own ls (plain.body s ss o) → StatementsKept R W apart even P such whole whole' H only untyped holes ss ss' → OptionalKept R W apart even P such whole whole' H only untyped holes t o o'
          → BodyKept R W apart even P such whole whole' H only untyped holes t (plain.body s ss o) (b (plain.body s ss o) (plain.body s ss' o')))
          → Places R W apart even P such whole whole' H only untyped holes (blocks_alone b) N
      kept_places none_returned returns N b k = record {
        variable = λ own s x n m t. variable_kept s x m t;
        broken = λ own ls s l n m t. break_kept s l m t;
        continued = λ own ls s l n m t. continue_kept s l m t;
        returned = λ s o o' n m t. return_kept none_returned returns s o o' m t;
        assigned = λ own s z x e e' n m t. assign_kept_alike s z x e e' m t;
        no_break = λ ls s l x c. refl;
        no_continue = λ ls s l x c. refl;
        no_return = λ s o x c. refl;
        kinds = λ s k. refl;
        types = λ p y. refl;
        blocks = k;
      }

      -- a block whose parts are alike
      pub parts_kept : (s : Span) (t : Site) (ss ss' : plain.Statements) (o o' : OptionalExpression) → StatementsKept R W apart even P such whole whole' H only untyped holes ss ss' → OptionalKept R W apart even P such whole whole' H only untyped holes t o o' → (made : List Piece) (c c' : Cursor) → Comes whole (a_body t (plain.body s ss o)) c → Comes whole' (a_body t (plain.body s ss' o')) c' → InStep R W made c c'
          → alike.LikeStatements H R (numbering.of_statements ss (a_node s t c).1).0 (numbering.of_statements ss' (a_node s t c').1).0
          → alike.LikeElse H R (numbering.of_optional t o (numbering.of_statements ss (a_node s t c).1).1).0 (numbering.of_optional t o' (numbering.of_statements ss' (a_node s t c').1).1).0
          → Kept R W P (count_statements such ss + count_optional such o) made SameBody (BodyLike R W apart even P such whole whole' H only untyped holes) c c' (numbering.of_body t (plain.body s ss o) c) (numbering.of_body t (plain.body s ss' o') c')
      parts_kept s t ss ss' o o' ks ko made c c' come come' st h g =
          let y = ks _ (a_node s t c).1 (a_node s t c').1 (goes_in come 0 refl) (goes_in come' 0 refl) (next s t c c' st) h in let z = ko _ (numbering.of_statements ss (a_node s t c).1).1 (numbering.of_statements ss' (a_node s t c').1).1 (goes_in come 1 refl) (goes_in come' 1 refl) y.step g in
          becomes (λ x. named.body (a_node s t c).0 x.0 x.1) (λ x. named.body (a_node s t c').0 x.0 x.1) (behind_node s s t t c c' (both y z)) (λ x. (tails (numbering.of_optional t o (numbering.of_statements ss (a_node s t c).1).1).0 (numbering.of_optional t o' (numbering.of_statements ss' (a_node s t c').1).1).0 x.0 x.1, same_or x.0 x.1.1))
          (λ q a a' f w. at_node q (λ n. BodyLike R W apart even P such whole whole' H only untyped holes q (named.body (a_node s t c).0 a.0 a.1) (named.body n a'.0 a'.1)) c.number c'.number s s t w.0 (ren.RenumberedBody.body w.1.0 w.1.1))
