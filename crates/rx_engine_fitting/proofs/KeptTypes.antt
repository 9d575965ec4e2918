-- A function that stays in a program with new items has there the valid assignment that it had, by the numbers that the items have there.
use Rattle.std.proofs.Common.{◌≡◌, ℕ, zero, suc, ◌+◌, List, [], ◌∷◌, Some, Ok, slice_get, refl, sym, ◌∙◌, subst, arith}
use Rattle.rx_core.specs.declared.types.Span.{Span}
use Rattle.rx_tree.specs.Plain as plain
use Rattle.rx_tree.specs.Plain.{Function, ItemTree, ProgramTree}
use Rattle.rx_resolve_names.specs.declared.resolved.ItemNames.{ItemNames}
use Rattle.rx_resolve_names.specs.declared.resolved.NodeNames.{NodeNames}
use Rattle.rx_resolve_names.specs.Items.{in_item}
use Rattle.rx_typed.specs.Naming.{function_named}
use Rattle.rx_typeck_solver.specs.Facts.{KnownItems, Assignment}
use Rattle.rx_typeck_solver.specs.Ordered.{Orderly}
use Rattle.rx_typeck_solver.specs.Valid.{Valid}
use Rattle.rx_typeck_typed.specs.Demands.{demands, task}
use Rattle.rx_typeck_typed.specs.declared.typed.TypedFn.{TypedFn}
use Rattle.rx_typeck_typed.specs.Typing.{entries, variables_at, Given, FunctionTyped, FunctionsTyped}
use Rattle.rx_engine_names.specs.Alike.{same_numbers}
use Rattle.rx_engine_names.specs.Insertion.{number_there, Inserted}
use Rattle.rx_engine_names.specs.LikeNamed as alike
use Rattle.rx_engine_names.proofs.KeptItems.{inserted_keeps}
use Rattle.rx_engine_names.proofs.KeptPrograms.{same_function}
use Rattle.rx_engine_names.proofs.SideBySide.{the_same}
use Rattle.rx_engine_blocks.specs.DemandsLike.{NoSpecial}
use Rattle.rx_engine_blocks.specs.Knows.{Knows}
use Rattle.rx_engine_blocks.specs.Along.{renumbered_types, Inverse}
use Rattle.rx_engine_blocks.proofs.Renumbered.{renumbered_valid}
use Rattle.rx_engine_typing.specs.Renumbered.{no_holes}
use Rattle.rx_engine_typing.proofs.Forms.{function_like}
use Rattle.rx_engine_typing.proofs.Holes.{no_fits, no_asks}
use Rattle.rx_engine_validated.specs.Kept.{kept, same}
use Rattle.rx_engine_validated.proofs.KeptFunctions.{function_kept}

pub stays_typed : ((i : ℕ) (s : Span) (f : Function) (ns : List NodeNames) → Orderly (task (function_named i s f ns)))
    → (p q : ProgramTree) (c : Inserted p q) (n : ℕ) (s : Span) (f : Function) (t u : ItemNames) → in_item p n (plain.function_item s f) ≡ Ok t → in_item q (number_there c n) (plain.function_item s f) ≡ Ok u
    → (D E : KnownItems) → Knows (kept (number_there c)) D E → (i : Inverse (kept (number_there c))) → (A : Assignment) → Valid D (task (function_named n s f t.names)) A
    → Valid E (task (function_named (number_there c n) s f u.names)) (renumbered_types (kept (number_there c)) i A)
stays_typed orderly p q c n s f t u e d D E k i A v =
    let m = number_there c n in
    let r = kept (number_there c) in
    let F = function_named n s f t.names in
    let G = function_named m s f u.names in
    let x = same_function (number_there c) p q (inserted_keeps p q c) n m s f t e in
    let names = subst (λ (z : ItemNames). alike.LikeFunction alike.no_holes (same_numbers (number_there c)) F (function_named m s f z.names)) (the_same x.0 u (sym x.1 ∙ d)) x.2 in
    let l = function_kept (number_there c) n m s f t.names u.names refl names in
    renumbered_valid r D E k i (demands F) (demands G) (function_like r same no_holes NoSpecial (no_fits r same) (no_asks r same) l) A (orderly m s f u.names) v

-- the numbers of nodes and variables are those there
pub numbers_back : (items : ℕ → ℕ) → Inverse (kept items)
numbers_back items = record { unnode = λ n. n; unnoded = λ n. refl; unvariable = λ x. x; unvaried = λ x. refl }

-- ---- the types of a function of a typed program

one_further : (G : Given) (ns : List ItemNames) (n j : ℕ) (s : Span) (f : Function)
    → (t : TypedFn) × FunctionTyped G (suc n + j) s f (entries (slice_get ns (suc n + j))) (variables_at (slice_get ns (suc n + j))) t
    → (t : TypedFn) × FunctionTyped G (n + suc j) s f (entries (slice_get ns (n + suc j))) (variables_at (slice_get ns (n + suc j))) t
one_further G ns n j s f t =
    let at : suc n + j ≡ n + suc j = omega arith in (t.0, subst (λ k. FunctionTyped G k s f (entries (slice_get ns k)) (variables_at (slice_get ns k)) t.0) at t.1)

pub typed_at : (G : Given) (ns : List ItemNames) (n : ℕ) (is : ProgramTree) (ts : List TypedFn) (j : ℕ) (s : Span) (f : Function) → FunctionsTyped G ns n is ts → slice_get is j ≡ Some (plain.function_item s f)
    → (t : TypedFn) × FunctionTyped G (n + j) s f (entries (slice_get ns (n + j))) (variables_at (slice_get ns (n + j))) t
typed_at G ns n [] ts j s f h e = absurd (cc)
typed_at G ns n (plain.rt_item a b ∷ is) ts zero s f h e = absurd (cc)
typed_at G ns n (plain.struct_item a b ∷ is) ts zero s f h e = absurd (cc)
typed_at G ns n (plain.enum_item a b ∷ is) ts zero s f h e = absurd (cc)
typed_at G ns n (plain.function_item a b ∷ is) [] j s f h e = absurd h
typed_at G ns n (plain.function_item a b ∷ is) (t ∷ ts) zero s f h e =
    let same : plain.function_item a b ≡ plain.function_item s f = cc in
    let at : n ≡ n + 0 = omega arith in (
      t,
      subst (λ k. FunctionTyped G k s f (entries (slice_get ns k)) (variables_at (slice_get ns k)) t) at
          (subst (λ (x : Span × Function). FunctionTyped G n x.0 x.1 (entries (slice_get ns n)) (variables_at (slice_get ns n)) t) (let p : (a, b) ≡ (s, f) = cc in p) h.0),
    )
typed_at G ns n (plain.rt_item a b ∷ is) ts (suc j) s f h e = one_further G ns n j s f (typed_at G ns (suc n) is ts j s f h e)
typed_at G ns n (plain.struct_item a b ∷ is) ts (suc j) s f h e = one_further G ns n j s f (typed_at G ns (suc n) is ts j s f h e)
typed_at G ns n (plain.enum_item a b ∷ is) ts (suc j) s f h e = one_further G ns n j s f (typed_at G ns (suc n) is ts j s f h e)
typed_at G ns n (plain.function_item a b ∷ is) (t ∷ ts) (suc j) s f h e = one_further G ns n j s f (typed_at G ns (suc n) is ts j s f h.1 e)
