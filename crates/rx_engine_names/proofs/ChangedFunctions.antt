-- A function of which only the body is changed has like trees in both programs: its entry, its parameters and its result are the same,
-- and the walk goes along its body.
use Rattle.std.proofs.Common.{◌≡◌, ℕ, suc, Bool, true, false, not, ◌&&◌, ◌||◌, List, [], ◌∷◌, ◌++◌, length, map, Option, Ok, Err, refl, sym, ap, ◌∙◌, subst, append-nil, None}
use Rattle.rx_core.specs.declared.types.Span.{Span}
use Rattle.rx_tree.specs.declared.tree.Ident.{Ident}
use Rattle.rx_tree.specs.declared.tree.BoundLifetime.{BoundLifetime}
use Rattle.rx_tree.specs.Plain as plain
use Rattle.rx_tree.specs.Plain.{TypeTree, TypeTrees, PatternTree, Expression, OptionalExpression, Body, Parameter, Function, ItemTree, ProgramTree}
use Rattle.rx_resolve_names.specs.Scopes.{DeclaredNames, variable_named, entered}
use Rattle.rx_resolve_names.specs.declared.resolved.ItemNames.{ItemNames}
use Rattle.rx_resolve_names.specs.declared.resolved.NodeNames.{NodeNames}
use Rattle.rx_resolve_names.specs.Meant.{number, number_in, firsts, lifetimes_declared, to_loop, nowhere}
use Rattle.rx_resolve_names.specs.Steps.{Outcome, and_then, Naming, ◌>>◌, Inside, known, one, both, declare, child, numbered}
use Rattle.rx_resolve_names.specs.Names.{in_optional_type, Bound, in_block}
use Rattle.rx_resolve_names.specs.Items.{bounds_in, lifetimes_of, in_parameters, numbers_from, body_at, in_function, in_item}
use Rattle.rx_typed.specs.declared.nodes.Site.{Site}
use Rattle.rx_typed.specs.Naming as numbering
use Rattle.rx_typed.specs.Naming.{Numbering, give, an_entry, first, use_of, declaration, of_expression, of_type, of_parameter, of_parameters, of_function, begins, function_named, entry_if, is_nothing, has_bounds, has_entry}
use Rattle.rx_core.specs.declared.types.Kind as kinds
use Rattle.rx_hoist_extraction.specs.Names.{Names, is_among}
use Rattle.rx_hoist_extraction.specs.Changed.{Changes, changed_body}
use Rattle.rx_engine_names.specs.Renaming.{Renaming, Made, Serves}
use Rattle.rx_engine_names.specs.LikeNamed.{Holes, LikeFunction}
use Rattle.rx_engine_names.proofs.SideBySide.{named_ok, then_ok, and_ok, Frame, Reached, Kind, Numbers, numbers_then, numbers_last, numbers_give, numbers_node, numbers_both, Keeps, Part, in_turn4}
use Rattle.rx_engine_names.proofs.Scoped.{Outer, Corresponds, AtName, Both, Scopes, scopes_later, BoundAlike, declared_names, scopes_entered}
use Rattle.rx_engine_names.proofs.CopiedPatterns.{optional_type_alike, OptionalTypeNumbers}
use Rattle.rx_engine_names.specs.Within.{Claims, BodyWithin}
use Rattle.rx_engine_names.proofs.Standing.{BodyNumbers, Led, Rounds, any_rounds, Stand, Special}
use Rattle.rx_engine_names.proofs.CopiedExpressions.{body_alike}
use Rattle.rx_engine_names.proofs.NoClaims.{no_claims, body_within}
use Rattle.rx_engine_names.specs.Alike.{with_body}
use Rattle.rx_engine_names.proofs.PlainPlaces.{keeping, whole_in, none_starred, Becomes, special}
use Rattle.rx_engine_names.proofs.Parameters.{function_entry, EntryIf, entry_alike, AtPlace, names_no_more, ParametersNumbers, parameters_alike, parameters_bind}
use Rattle.rx_engine_names.specs.ParameterNames.{parameter_names}
use Rattle.rx_engine_names.proofs.KeptItems.{Keeps as KeepsItems, keeps_fits}

-- ---- lifetimes

bounds_same : (P Q : ProgramTree) (a b : ℕ) (L : DeclaredNames) (ls : List Ident) → bounds_in (record { program = P; item = a; lifetimes = L }) ls ≡ bounds_in (record { program = Q; item = b; lifetimes = L }) ls
bounds_same P Q a b L [] = refl
bounds_same P Q a b L (l ∷ ls) = ap (both (one (known (number_in L l.name) l.span))) (bounds_same P Q a b L ls)

lifetimes_same : (P Q : ProgramTree) (a b : ℕ) (L ds : DeclaredNames) (n : ℕ) (ls : List BoundLifetime) → lifetimes_of (record { program = P; item = a; lifetimes = L }) ds n ls ≡ lifetimes_of (record { program = Q; item = b; lifetimes = L }) ds n ls
lifetimes_same P Q a b L ds n [] = refl
lifetimes_same P Q a b L ds n (l ∷ ls) = by (declare ds l.name n) (λ ds. lifetimes_same P Q a b L ds (suc n) ls)
  where
    by : (o : Outcome DeclaredNames) → ((ds : DeclaredNames) → lifetimes_of (record { program = P; item = a; lifetimes = L }) ds (suc n) ls ≡ lifetimes_of (record { program = Q; item = b; lifetimes = L }) ds (suc n) ls)
        → and_then o (λ ds. both (bounds_in (record { program = P; item = a; lifetimes = L }) l.bounds) (lifetimes_of (record { program = P; item = a; lifetimes = L }) ds (suc n) ls))
        ≡ and_then o (λ ds. both (bounds_in (record { program = Q; item = b; lifetimes = L }) l.bounds) (lifetimes_of (record { program = Q; item = b; lifetimes = L }) ds (suc n) ls))
    by (Err x) h = refl
    by (Ok ds) h = ap (λ (o : Outcome (List ℕ)). both (bounds_in (record { program = P; item = a; lifetimes = L }) l.bounds) o) (h ds)
        ∙ ap (λ (o : Outcome (List ℕ)). both o (lifetimes_of (record { program = Q; item = b; lifetimes = L }) ds (suc n) ls)) (bounds_same P Q a b L l.bounds)

-- ---- where a body begins

no_loops : (M : Made) → Led (λ n k. ⊥) M [] [] []
no_loops M l n e = absurd (not_nowhere n e)
  where
    not_nowhere : (n : ℕ) → nowhere ≡ to_loop n → ⊥
    not_nowhere n e = cc

or_false : (b : Bool) → (b || false) ≡ b
or_false true = refl
or_false false = refl

-- another that is not bound since means nothing
abbrev pub untold : Names → Outer
untold known = record { names = known; tells = λ x o. is_among x known ≡ false → o ≡ None }

scopes_begin : (N : Claims) (M : Made) (known : Names) (ds es : DeclaredNames) → BoundAlike M ds es → declared_names ds ≡ known → Scopes [] M N [] (untold known) [] (entered [] ds) (entered [] es)
scopes_begin N M known ds es b d =
    let h = scopes_entered [] M no_claims [] (untold []) [] known ds es [] [] b d (record { callees = λ x n. refl; variables = λ x e. absurd (cc); outer = λ x e k. refl }) in record {
      callees = λ x a. by x (is_among x (known ++ [])) (ap (is_among x) (append-nil known)) (h.callees x tt);
      variables = λ x e. both x (is_among x (known ++ [])) (ap (is_among x) (append-nil known)) (h.variables x) e;
      outer = λ x e k. h.outer x (ap (is_among x) (append-nil known) ∙ k) refl;
    }
  where
    by : (x : List ℕ) (b : Bool) → b ≡ is_among x known → AtName (Corresponds [] M) (not b && false) (b || false) (variable_named (entered [] ds) x) (variable_named (entered [] es) x)
        → AtName (Corresponds [] M) false (is_among x known) (variable_named (entered [] ds) x) (variable_named (entered [] es) x)
    by x b e h = subst (λ (z : Bool). AtName (Corresponds [] M) false z (variable_named (entered [] ds) x) (variable_named (entered [] es) x)) (or_false b ∙ e)
        (subst (λ (z : Bool). AtName (Corresponds [] M) z (b || false) (variable_named (entered [] ds) x) (variable_named (entered [] es) x)) (none_starred (not b)) h)

    both : (x : List ℕ) (b : Bool) → b ≡ is_among x known → ((b || false) ≡ true → Both (Corresponds [] M) (not b && false) (variable_named (entered [] ds) x) (variable_named (entered [] es) x))
        → is_among x known ≡ true → Both (Corresponds [] M) false (variable_named (entered [] ds) x) (variable_named (entered [] es) x)
    both x b e h k = subst (λ (z : Bool). Both (Corresponds [] M) z (variable_named (entered [] ds) x) (variable_named (entered [] es) x)) (none_starred (not b)) (h (or_false b ∙ e ∙ k))

pub keeps_waiting : Keeps numbering.left_waiting
keeps_waiting = record { names = λ c. refl; declared = λ c. refl; loops = λ c. refl }

-- ---- the whole function

abbrev FunctionNumbers : Holes → Span → Function → Function → ItemNames → ItemNames → ItemNames → Kind
FunctionNumbers H s f f' t u t' R u' es es' = (n n' : ℕ) → Numbers (LikeFunction H R) t u t' u' es es' (of_function n s f) (of_function n' s f')

function_numbers : {H : Holes} {R : Renaming} {t u t1 u1 t2 u2 t3 u3 t4 u4 : ItemNames} {es es' fs fs' gs gs' hs hs' : List NodeNames} (s : Span) (f : Function) (b' : Body) (b : Bool) → b ≡ has_entry f
    → EntryIf t u b t1 R u1 es es' → ParametersNumbers t1 u1 f.params t2 R u2 fs fs' → OptionalTypeNumbers t2 u2 f.result t3 R u3 gs gs' → BodyNumbers H t3 u3 f.body b' t4 R u4 hs hs'
    → FunctionNumbers H s f (with_body b' f) t u t4 R u4 (es ++ (fs ++ (gs ++ hs))) (es' ++ (fs' ++ (gs' ++ hs')))
function_numbers {R = R} {t = t} {u = u} {t1 = t1} {u1 = u1} {es = es} {es' = es'} s f b' b h k l m r n n' =
    numbers_node s Site.Value Site.Value (λ _ _ _. numbers_then (subst (λ (b : Bool). EntryIf t u b t1 R u1 es es') h k) (λ _ _ _. numbers_then l (λ ps ps' h. numbers_then m (λ y y' g. numbers_last (r Site.Expects Site.Expects) (λ b b' d.
    numbers_both keeps_waiting keeps_waiting (λ ws ws'. numbers_give (record { item = n; params = ps; result = y; body = b; never_given = ws }) (record { item = n'; params = ps'; result = y'; body = b'; never_given = ws' })
    (record { params = h; result = g; body = d })))))))

module _ (L : Frame) (H : Holes) (P Q : ProgramTree) (k : KeepsItems L.items P Q) (i : Span → Option kinds.Kind → Option kinds.Kind) (l : PatternTree → Option TypeTree → Option TypeTree) (b : Body → Body → Body) (N : Claims) (rounds : Rounds) (round : rounds.holds [] []) where
  abbrev here : ℕ → DeclaredNames → Inside
  here a ls = record { program = P; item = a; lifetimes = ls }

  abbrev there : ℕ → DeclaredNames → Inside
  there a ls = record { program = Q; item = a; lifetimes = ls }

  abbrev C : Changes
  C = keeping i l b

  -- the special places are alike, and the body is within the claims
  abbrev Along : ℕ → ℕ → DeclaredNames → Function → Type 0
  Along a a' ls f = Special (whole_in N rounds L H (here a ls) (there a' ls) (keeps_fits L.items P Q k a a' ls).items_fit C (untold (parameter_names f.params))) × BodyWithin N [] [] f.body

  function_along : (a a' : ℕ) (ls : DeclaredNames) (s : Span) (f : Function) → Along a a' ls f → (M : Made) (t t' u : ItemNames) → in_function (here a ls) [] [] [] f t ≡ Ok t' → Reached L M t u → AtPlace 0 t → AtPlace 0 u
      → Part L M t t' u (λ G v. in_function (there a' ls) [] [] [] (with_body (changed_body C [] [] f.body) f) u ≡ Ok v) (FunctionNumbers H s f (with_body (changed_body C [] [] f.body) f) t u t')
  function_along a a' ls s f fine M t t' u e q p p' =
      let I = here a ls in let I' = there a' ls in let F = keeps_fits L.items P Q k a a' ls in
      let known = untold (parameter_names f.params) in let new = changed_body C [] [] f.body in
      let at1 = child [] (number (length f.params)) in let at2 = child [] (body_at (number (length f.params)) f.result) in
      let inner : Bound → Outcome ItemNames = λ b. (in_optional_type I at1 f.result >> in_block I (entered [] b.bindings) [] at2 f.body) b.tables in
      let inner' : Bound → Outcome ItemNames = λ b. (in_optional_type I' at1 f.result >> in_block I' (entered [] b.bindings) [] at2 new) b.tables in
      let middle : Naming = λ t. and_then (in_parameters I [] 0 f.params (record { bindings = []; tables = t })) inner in
      let middle' : Naming = λ t. and_then (in_parameters I' [] 0 f.params (record { bindings = []; tables = t })) inner' in
      let X = named_ok (lifetimes_of I [] 0 f.lifetimes) (λ ns. and_then (numbered I [] (ns ++ numbers_from 0 f.params) t) middle) t' e in
      let ks = X.0 ++ numbers_from 0 f.params in
      let Y = named_ok (numbered I [] ks t) middle t' X.2 in
      let Z = named_ok (in_parameters I [] 0 f.params (record { bindings = []; tables = Y.0 })) inner t' Y.2 in
      let W = named_ok (in_optional_type I at1 f.result Z.0.tables) (in_block I (entered [] Z.0.bindings) [] at2 f.body) t' Z.2 in
      let E = entry_alike L M I I' [] [] ks t Y.0 u Y.1 q in
      let A = parameters_alike L I I' F E.made [] [] 0 f.params (record { bindings = []; tables = Y.0 }) Z.0 (record { bindings = []; tables = E.table }) Z.1 E.reached tt
      (p ∙ ap number (sym (names_no_more I [] (Ok ks) t Y.0 Y.1))) (p' ∙ ap number (sym (names_no_more I' [] (Ok ks) u E.table E.answer))) in
      let T = optional_type_alike L A.made I I' F at1 at1 f.result Z.0.tables W.0 A.table W.1 A.reached in
      let w : Stand (whole_in N rounds L H I I' F.items_fit C known) T.made [] [] = record {
        sc = entered [] Z.0.bindings;
        sc' = entered [] A.answer.0;
        ls = [];
        ls' = [];
        scopes = scopes_later [] A.made T.made N [] known [] (entered [] Z.0.bindings) (entered [] A.answer.0) T.grows
            (scopes_begin N A.made known.names Z.0.bindings A.answer.0 A.answer.2 (parameters_bind I [] 0 f.params (record { bindings = []; tables = Y.0 }) Z.0 Z.1));
        led = no_loops T.made;
        round = round;
      } in
      let B = body_alike (whole_in N rounds L H I I' F.items_fit C known) fine.0 T.made [] [] w at2 at2 f.body fine.1 W.0 t' T.table W.2 T.reached in
      in_turn4 E A T B
      (λ x y z v. and_ok (lifetimes_of I' [] 0 f.lifetimes) X.0 (λ ns. and_then (numbered I' [] (ns ++ numbers_from 0 f.params) u) middle') (Ok B.table) (sym (lifetimes_same P Q a a' ls [] 0 f.lifetimes) ∙ X.1)
      (and_ok (numbered I' [] ks u) E.table middle' (Ok B.table) x
      (and_ok (in_parameters I' [] 0 f.params (record { bindings = []; tables = E.table })) (record { bindings = A.answer.0; tables = A.table }) inner' (Ok B.table) A.answer.1
      (then_ok (in_optional_type I' at1 f.result) (in_block I' (entered [] A.answer.0) [] at2 new) A.table T.table B.table z v))))
      (λ R sv k l m r. function_numbers s f new (not (is_nothing ks)) (function_entry I f X.0 X.1) k l m r)

  -- an item, whatever its number is
  pub function_item_along : L.holds [] 0 0 → L.passed (record { variables = []; loops = []; passages = [] }) 0 0 0 0 → (n m : ℕ) (s : Span) (f : Function) → Along (number n) (number m) (firsts [] 0 (lifetimes_declared (plain.function_item s f))) f → (T : ItemNames) → in_item P n (plain.function_item s f) ≡ Ok T
      → (U : ItemNames) × (in_item Q m (plain.function_item s (with_body (changed_body C [] [] f.body) f)) ≡ Ok U) × (G : Made) × Reached L G T U
      × ((R : Renaming) → Serves L.items G R → LikeFunction H R (function_named n s f T.names) (function_named m s (with_body (changed_body C [] [] f.body) f) U.names))
  function_item_along start begun n m s f fine T e =
      let ls = firsts [] 0 (lifetimes_declared (plain.function_item s f)) in
      let t : ItemNames = record { vars = []; lifetimes = map (λ (l : Ident). l.span) (lifetimes_declared (plain.function_item s f)); loops = []; names = [] } in
      let none : Made = record { variables = []; loops = []; passages = [] } in
      let A = function_along (number n) (number m) ls s f fine none t T t e (record { vars = start; loops = start; passages = begun }) refl refl in (
        A.table,
        A.answer,
        A.made,
        A.reached,
        λ R sv.
            ((A.numbers R sv n m).holds (begins T.names) (begins A.table.names) [] [] (record { declared = refl; declared' = refl; loops = refl; loops' = refl })
            (A.grown ∙ sym (append-nil A.added)) (A.grown' ∙ sym (append-nil A.added'))).like,
      )

-- ---- where nothing is claimed
module _ (L : Frame) (H : Holes) (P Q : ProgramTree) (k : KeepsItems L.items P Q) (i : Span → Option kinds.Kind → Option kinds.Kind) (l : PatternTree → Option TypeTree → Option TypeTree) (b : Body → Body → Body) where
  abbrev Fine : ℕ → ℕ → DeclaredNames → Function → Type 0
  Fine a a' ls f = Becomes L H (record { program = P; item = a; lifetimes = ls }) (record { program = Q; item = a'; lifetimes = ls }) (keeps_fits L.items P Q k a a' ls).items_fit (keeping i l b) (untold (parameter_names f.params))

  pub function_item_alike : L.holds [] 0 0 → L.passed (record { variables = []; loops = []; passages = [] }) 0 0 0 0 → (n m : ℕ) (s : Span) (f : Function) → Fine (number n) (number m) (firsts [] 0 (lifetimes_declared (plain.function_item s f))) f → (T : ItemNames) → in_item P n (plain.function_item s f) ≡ Ok T
      → (U : ItemNames) × (in_item Q m (plain.function_item s (with_body (changed_body (keeping i l b) [] [] f.body) f)) ≡ Ok U) × (G : Made) × Reached L G T U
      × ((R : Renaming) → Serves L.items G R → LikeFunction H R (function_named n s f T.names) (function_named m s (with_body (changed_body (keeping i l b) [] [] f.body) f) U.names))
  function_item_alike start begun n m s f fine T e =
      let ls = firsts [] 0 (lifetimes_declared (plain.function_item s f)) in
      function_item_along L H P Q k i l b no_claims any_rounds tt start begun n m s f
      (special L H (record { program = P; item = number n; lifetimes = ls }) (record { program = Q; item = number m; lifetimes = ls }) (keeps_fits L.items P Q k (number n) (number m) ls).items_fit i l b (untold (parameter_names f.params)) fine, body_within [] [] f.body) T e
