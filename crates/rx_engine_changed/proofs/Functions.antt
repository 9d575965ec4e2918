-- A whole function numbered beside the one in which a block becomes another.
use Rattle.std.proofs.Common.{◌≡◌, ℕ, zero, suc, Bool, true, false, List, [], ◌∷◌, ◌++◌, Option, slice_get, refl, sym, ap, ◌∙◌, subst, arith}
use Rattle.rx_core.specs.declared.types.Span.{Span}
use Rattle.rx_tree.specs.Plain.{Body, Parameter, Function}
use Rattle.rx_resolve_names.specs.declared.resolved.NodeNames.{NodeNames}
use Rattle.rx_typed.specs.declared.nodes.Node.{Node}
use Rattle.rx_typed.specs.declared.nodes.Site.{Site}
use Rattle.rx_typed.specs.declared.nodes.Stage.{Stage}
use Rattle.rx_typed.specs.declared.nodes.Declaration.{Declaration}
use Rattle.rx_typed.specs.Named as named
use Rattle.rx_typed.specs.Naming as numbering
use Rattle.rx_typed.specs.Naming.{Cursor, a_node, an_entry}
use Rattle.rx_engine_names.specs.Renaming.{Renaming}
use Rattle.rx_engine_names.specs.LikeNamed as alike
use Rattle.rx_engine_names.specs.LikeNamed.{LikeBody, LikeParameters, LikeFunction}
use Rattle.rx_engine_names.specs.Alike.{with_body}
use Rattle.rx_engine_blocks.specs.DemandsLike.{Is}
use Rattle.rx_engine_blocks.specs.DemandsLike.Is.{itself}
use Rattle.rx_engine_typing.specs.Renumbered as ren
use Rattle.rx_engine_typing.specs.Renumbered.{RenumberedParameters, RenumberedNodes, RenumberedFunction}
use Rattle.rx_engine_changed.specs.Beside.{Instead, Piece, Grows, Numbers, AllCorrespond, Follows, IsOneToOne}
use Rattle.rx_engine_changed.specs.Comes.{body_of, the_whole}
use Rattle.rx_engine_changed.specs.Stages.{is_waiting, waits_there, Mutability, InStep, LikeDeclared, known, given, not_yet, waits}
use Rattle.rx_engine_changed.proofs.Lists.{grows_on, before, begins_later}
use Rattle.rx_engine_changed.proofs.Steps.{alike_declared, next_node, next_entry, entry_number, one_node}
use Rattle.rx_engine_changed.proofs.Counts.{count_body}
use Rattle.rx_engine_changed.proofs.Kept.{Adds, adds_on, adds_pair, adds_so, none_more, Kept, Anything, gives, becomes, both, behind_step}
use Rattle.rx_engine_changed.proofs.Parts.{OnlySpecial}
use Rattle.rx_engine_changed.proofs.Patterns.{new_known, type_kept, optional_type_kept}
use Rattle.rx_engine_changed.proofs.Walk.{BodyKept}

-- ---- variables that wait at the end

true_false : true ≡ false → ⊥
true_false e = cc

none_waits : (vs : List Declaration) → numbering.all_waiting vs ≡ [] → (n : ℕ) → waits_there (slice_get vs n) ≡ false
none_waits [] u n = refl
none_waits (v ∷ vs) u n = by v.stage refl (λ h k. none_waits vs h k) n
  where
    by : (s : Stage) → v.stage ≡ s → (numbering.all_waiting vs ≡ [] → (k : ℕ) → waits_there (slice_get vs k) ≡ false) → (n : ℕ) → waits_there (slice_get (v ∷ vs) n) ≡ false
    by (Stage.Waits p z) e r n = absurd (let h = sym (ap (λ (s : Stage). numbering.a_waiting s ++ numbering.all_waiting vs) e) ∙ u in cc)
    by Stage.Known e r zero = ap is_waiting e
    by Stage.Known e r (suc n) = r (sym (ap (λ (s : Stage). numbering.a_waiting s ++ numbering.all_waiting vs) e) ∙ u) n
    by Stage.Given e r zero = ap is_waiting e
    by Stage.Given e r (suc n) = r (sym (ap (λ (s : Stage). numbering.a_waiting s ++ numbering.all_waiting vs) e) ∙ u) n

none_waiting : (vs : List Declaration) → ((n : ℕ) → waits_there (slice_get vs n) ≡ false) → numbering.all_waiting vs ≡ []
none_waiting [] h = refl
none_waiting (v ∷ vs) h = ap (λ (l : List Node). l ++ numbering.all_waiting vs) (by v.stage (h 0)) ∙ none_waiting vs (λ n. h (suc n))
  where
    by : (s : Stage) → is_waiting s ≡ false → numbering.a_waiting s ≡ []
    by (Stage.Waits p z) e = absurd (true_false e)
    by Stage.Known e = refl
    by Stage.Given e = refl

module _ (R : Renaming) (W : Mutability) (apart : IsOneToOne R) (even : (n m : ℕ) (b : Bool) → W n m b b) (P : List Piece → Instead → Type 0) (such : Body → Bool) where
  abbrev ParametersLike : Numbers → List named.Parameter → List named.Parameter → Type 0
  ParametersLike q xs xs' = RenumberedParameters q.by xs xs'

  parameter_at : (q : Numbers) (x x' : ℕ) {t t' : named.Written} {xs xs' : List named.Parameter} → q.by.variables x ≡ x' → ren.RenumberedType q.by t t' → RenumberedParameters q.by xs xs'
      → RenumberedParameters q.by (record { variable = x; typ = t } ∷ xs) (record { variable = x'; typ = t' } ∷ xs')
  parameter_at q x x' {t = t} {t' = t'} {xs = xs} {xs' = xs'} e h hs = subst (λ (y : ℕ). RenumberedParameters q.by (record { variable = x; typ = t } ∷ xs) (record { variable = y; typ = t' } ∷ xs')) e (ren.RenumberedParameters.parameter_and {x = x} h hs)

  parameters_kept : (xs : List Parameter) (made : List Piece) (c c' : Cursor) → InStep R W made c c' → LikeParameters R (numbering.of_parameters xs c).0 (numbering.of_parameters xs c').0 → Kept R W P 0 made Anything ParametersLike c c' (numbering.of_parameters xs c) (numbering.of_parameters xs c')
  parameters_kept [] made c c' st h = gives c c' [] [] st tt (λ q f w. ren.RenumberedParameters.no_parameter)
  parameters_kept (x ∷ xs) made c c' st (alike.like_more_parameters v h hs) =
      let d : Declaration = record { mutable = x.mutable; stage = Stage.Known } in
      let b = (numbering.declare d c).1 in let b' = (numbering.declare d c').1 in
      let y = type_kept R W apart even P x.typ b b' (alike_declared R W apart even st d v (new_known R W apart even P x.mutable)) h in
      let z = parameters_kept xs y.now (numbering.of_type x.typ b).1 (numbering.of_type x.typ b').1 y.step hs in
      becomes {B = List named.Parameter} {B' = List named.Parameter} (λ p. record { variable = c.declared; typ = p.0 } ∷ p.1) (λ p. record { variable = c'.declared; typ = p.0 } ∷ p.1) (behind_step c c' b b' refl refl (both y z)) (λ p. tt)
      (λ q a a' f w. parameter_at q c.declared c'.declared (f.variables c.declared c'.declared v) w.0 w.1)

  entry_kept : {made : List Piece} (b : Bool) (c c' : Cursor) → InStep R W made c c' → InStep R W made (numbering.entry_if b c).1 (numbering.entry_if b c').1
  entry_kept true c c' st = next_entry R W c c' st
  entry_kept false c c' st = st

  entry_if_number : (b : Bool) (c : Cursor) → (numbering.entry_if b c).1.number ≡ c.number
  entry_if_number true c = entry_number c
  entry_if_number false c = refl

  begun : (ns ns' : List NodeNames) → InStep R W [] (numbering.begins ns) (numbering.begins ns')
  begun ns ns' = record { variables = λ n m r. not_yet; alone = λ m w. refl; loops = λ n m r. refl; counted = refl; counted' = refl }

  no_nodes : (q : Numbers) (ns ns' : List Node) → ns ≡ [] → ns' ≡ [] → RenumberedNodes q.by ns ns'
  no_nodes q ns ns' e e' = subst (λ (z : List Node). RenumberedNodes q.by z ns') (sym e) (subst (λ (z : List Node). RenumberedNodes q.by [] z) (sym e') ren.RenumberedNodes.no_node)

  -- where no variable of the first waits at its end, none of the second does
  like_waiting : {made : List Piece} {X : Bool → Bool → Type 0} {o o' : Option Declaration} → LikeDeclared made X o o' → waits_there o' ≡ waits_there o
  like_waiting not_yet = refl
  like_waiting (known w) = refl
  like_waiting (given w) = refl
  like_waiting (waits w z) = refl

  second_given : {made : List Piece} (c c' : Cursor) → InStep R W made c c' → numbering.all_waiting c.variables ≡ [] → (m : ℕ) → waits_there (slice_get c'.variables m) ≡ false
  second_given c c' st u m = by (waits_there (slice_get c'.variables m)) refl
    where
      by : (b : Bool) → waits_there (slice_get c'.variables m) ≡ b → waits_there (slice_get c'.variables m) ≡ false
      by false e = e
      by true e = st.alone m (λ n r. true_false (sym e ∙ like_waiting (st.variables n m r) ∙ none_waits c.variables u n))

  is_item : {i j : ℕ} → i ≡ j → Is i j
  is_item {i = i} {j = j} e = subst (λ (z : ℕ). Is i z) e itself

  module _ (H : alike.Holes) (only : OnlySpecial H) (untyped : (R : Renaming) (s : Span) (t t' : Option named.Written) → H.annotation R s t t' → ⊥) (holes : Numbers → ren.Holes) where
    pub record FunctionKept (i i' : ℕ) (s : Span) (f g : Function) (ns ns' : List NodeNames) : Type 0 where
      pub pieces : List Piece
      pub last : ℕ
      pub last' : ℕ
      pub grows : Grows [] 0 0 pieces last last'
      pub adds : Adds P (count_body such f.body) [] pieces
      pub like : (q : Numbers) → Follows R q → AllCorrespond q pieces → RenumberedFunction q.by q.loops (holes q) (numbering.function_named i s f ns) (numbering.function_named i' s g ns')

    pub function_kept : (i i' : ℕ) (s : Span) (f : Function) (b : Body) (ns ns' : List NodeNames) → R.item i ≡ i' → BodyKept R W apart even P such (body_of s f ns) (body_of s (with_body b f) ns') H only untyped holes Site.Expects f.body b
        → LikeFunction H R (numbering.function_named i s f ns) (numbering.function_named i' s (with_body b f) ns') → (numbering.function_named i s f ns).never_given ≡ []
        → FunctionKept i i' s f (with_body b f) ns ns'
    function_kept i i' s f b ns ns' e kb h u =
        let c = numbering.begins ns in let c' = numbering.begins ns' in
        let d = (a_node s Site.Value c).1 in let d' = (a_node s Site.Value c').1 in
        let x = (numbering.entry_if (numbering.has_entry f) d).1 in let x' = (numbering.entry_if (numbering.has_entry f) d').1 in
        let st = entry_kept (numbering.has_entry f) d d' (next_node R W apart even s s Site.Value Site.Value c c' (begun ns ns')) in
        let A = parameters_kept f.params _ x x' st h.params in
        let y = (numbering.of_parameters f.params x).1 in let y' = (numbering.of_parameters f.params x').1 in
        let B = optional_type_kept R W apart even P f.result y y' A.step h.result in
        let z = (numbering.of_optional_type f.result y).1 in let z' = (numbering.of_optional_type f.result y').1 in
        let K = kb B.now z z' the_whole the_whole B.step h.body in record {
          pieces = K.now;
          last = (numbering.of_body Site.Expects f.body z).1.number;
          last' = (numbering.of_body Site.Expects b z').1.number;
          grows = grows_on (one_node c c') (begins_later (let g = entry_if_number (numbering.has_entry f) d in omega (arith, g)) (let g = entry_if_number (numbering.has_entry f) d' in omega (arith, g)) (grows_on A.grows (grows_on B.grows K.grows)));
          adds = adds_pair (adds_so (none_more (count_body such f.body)) (adds_on A.adds (adds_so (none_more (count_body such f.body)) (adds_on B.adds K.adds))));
          like = λ q g w.
              let w1 = before q K.grows w in record {
                item = is_item (g.items i ∙ e);
                params = A.like q g (before q B.grows w1);
                result = B.like q g w1;
                body = K.like q g w;
                never_given = no_nodes q (numbering.function_named i s f ns).never_given (numbering.function_named i' s (with_body b f) ns').never_given u (none_waiting (numbering.of_body Site.Expects b z').1.variables (second_given (numbering.of_body Site.Expects f.body z).1 (numbering.of_body Site.Expects b z').1 K.step u));
              };
        }
