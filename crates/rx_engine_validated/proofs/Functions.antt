-- What the laws of histories ask of a function, for one of an accepted program.
use Rattle.std.proofs.Common.{◌≡◌, ℕ, zero, suc, ◌<◌, Bool, true, false, List, [], ◌∷◌, ◌++◌, length, Option, Some, slice_get, refl, sym, ap, ◌∙◌, subst, arith}
use Rattle.std.proofs.lemmas.List.{length-map}
use Rattle.rx_core.specs.declared.types.Step.{Step}
use Rattle.rx_core.specs.declared.types.Step.TheVariants as step
use Rattle.rx_tree.specs.Lists.{Every}
use Rattle.rx_tree.specs.Size.{IsNumbered}
use Rattle.rx_core.specs.declared.types.Span.{Span}
use Rattle.rx_tree.specs.Plain.{ProgramTree, ItemTree, Function as FunctionTree}
use Rattle.rx_resolve_names.specs.declared.resolved.NodeNames.{NodeNames}
use Rattle.rx_typed.specs.Tree.{Root, variable, temporary, Place, Temporary, Function as Tree}
use Rattle.rx_typed.specs.Elaborated.{Assigned, elaborated}
use Rattle.rx_resolve_names.specs.declared.resolved.ItemNames.{ItemNames}
use Rattle.rx_resolve_names.specs.Causes.{Meant}
use Rattle.rx_typed.specs.PlainTypes.{declarations}
use Rattle.rx_typed.specs.Naming.{function_named, function_variables}
use Rattle.rx_typed.specs.PlainTree.{plain-TypedTree}
use Rattle.rx_typed_declarations.specs.WellFormed.{WellSigned}
use Rattle.rx_typed_declarations.specs.Sizes.{Sized, told}
use Rattle.rx_lower_walks.specs.Actions.{Act, Declare, Dead, Read, Write, Borrow, Test, Call, Build, Input, Print, Give, Action}
use Rattle.rx_lower_walks.specs.Orders.{order_function}
use Rattle.rx_lower_walks.specs.Walks.{actions_in, Among, here, there, IsWalk}
use Rattle.rx_facts_tables.specs.Setting.{is_behind, looked_at}
use Rattle.rx_facts_tables.specs.Wholes.{is_all, placed}
use Rattle.rx_facts.specs.Passing.{AllAre}
use Rattle.rx_facts.specs.Functions.{frame_of, IsInitialised}
use Rattle.rx_typeck_typed.specs.declared.typed.Typed.{Typed}
use Rattle.rx_typeck_typed.specs.declared.typed.TypedFn.{TypedFn}
use Rattle.rx_typeck_typed.specs.Typing.{is_mutable, known_in, assigned, IsTyped}
use Rattle.rx_meaning_keeping.specs.Ready.{HasPart}
use Rattle.rx_exits_plan.specs.Runs.{Run, Home}
use Rattle.rx_exits_plan.specs.Occurrences.{variables_of_run}
use Rattle.rx_hoist_naming.specs.DeclaredNames.{declared_names}
use Rattle.rx_hoist_naming.proofs.Programs as words
use Rattle.rx_check.specs.Passes.{IsFront}
use Rattle.rx_engine_simulation.specs.Histories.{IsRoot, IsOwn, IsWhole}
use Rattle.rx_engine_related.specs.Accepted.{WritesPart, Accepted}
use Rattle.rx_engine_validated.specs.AskedOf.{asked_of}

all_at : {A : Type 0} (Q : A → Type 0) (l : List A) → AllAre Q l → (a : A) → Among a l → Q a
all_at Q [] h a i = elim i [ ]
all_at Q (x ∷ l) h a here = h.0
all_at Q (x ∷ l) h a (there i) = all_at Q l h.1 a i

each_at : {A : Type 0} (Q : A → Type 0) (l : List A) → Every Q l → (a : A) → Among a l → Q a
each_at Q [] h a i = elim i [ ]
each_at Q (x ∷ l) h a here = h.0
each_at Q (x ∷ l) h a (there i) = each_at Q l h.1 a i

entry_below : (l : List Bool) (x : ℕ) → x < length l → (b : Bool) × (slice_get l x ≡ Some b)
entry_below [] x h = absurd (omega (arith, h))
entry_below (b ∷ l) zero h = (b, refl)
entry_below (b ∷ l) (suc x) h = entry_below l x (omega (arith, h))

-- as many variables as names that its item declares
pub counted : (p : ProgramTree) (ns : List ItemNames) (t : Typed) → IsNumbered p → Meant p ns → (typed : IsTyped p ns t) → WellSigned t.decls.items → Sized (declarations typed.declared) (told typed.sizes)
    → (g : TypedFn) → Among g t.functions → length (declared_names (slice_get p g.item)) ≡ length g.mutable
counted p ns t few meant typed signed sized g a =
    let x = words.text p ns t few meant typed signed sized g a in
    ap (λ (o : Option ItemTree). length (declared_names o)) (ap (λ (n : ℕ). slice_get p n) x.checked.item ∙ x.at) ∙ sym x.taken.count ∙ sym x.taken.variables
    ∙ sym (length-map (function_variables x.span x.function x.table.names) is_mutable) ∙ ap (λ (l : List Bool). length l) (sym x.checked.mutable)

-- ---- what writes a part of a variable's own storage

root_is : (r : Root) (x : ℕ) → IsRoot r x → r ≡ variable x
root_is (variable y) x h = ap variable (sym h)
root_is (temporary t) x h = absurd h

own_is : (ss : List Step) → IsOwn ss → is_behind ss ≡ false
own_is [] h = refl
own_is (step.Field i ∷ ss) h = own_is ss h
own_is (step.Variant v ∷ ss) h = own_is ss h
own_is (step.Deref m ∷ ss) h = absurd h

part_is : (ss : List Step) → (IsWhole ss → ⊥) → is_all ss ≡ false
part_is [] h = absurd (h tt)
part_is (s ∷ ss) h = refl

abbrev Writes : List Bool → Act → Type 0
Writes muts a = (q : Place) (u : Temporary) (us : List Step) → a ≡ Write q u us → (x : ℕ) → q.root ≡ variable x → is_behind q.steps ≡ false → is_all q.steps ≡ false → slice_get muts x ≡ Some true

written_part : (muts : List Bool) (a : Act) (x : ℕ) → Writes muts a → WritesPart a x → slice_get muts x ≡ Some true
written_part muts (Write q u us) x f h = f q u us refl x (root_is q.root x h.0) (own_is q.steps h.1) (part_is q.steps h.2)
written_part muts (Read m q d) x f h = absurd h
written_part muts (Borrow k q d) x f h = absurd h
written_part muts (Test q c) x f h = absurd h
written_part muts (Declare y) x f h = absurd h
written_part muts (Dead y) x f h = absurd h
written_part muts (Call g ts d) x f h = absurd h
written_part muts (Build m js ts d) x f h = absurd h
written_part muts (Input d) x f h = absurd h
written_part muts (Print t) x f h = absurd h
written_part muts (Give t) x f h = absurd h

pub accepted_if : (p : ProgramTree) (t : Typed) (front : IsFront p t) (g : TypedFn) → Among g t.functions → (r : Run) (h : Home)
    → ((w : List Action) (a : Action) (x : ℕ) (ss : List Step) → IsWalk (plain-TypedTree g.tree) (w ++ a ∷ []) → looked_at a.act ≡ Some (placed x ss)
    → HasPart (frame_of (declarations t.decls.items) front.parts g) x ss)
    → ((x : ℕ) → x < length g.mutable → HasPart (frame_of (declarations t.decls.items) front.parts g) x [])
    → Every (λ (x : ℕ). x < length (declared_names (slice_get p g.item))) (variables_of_run r h.body)
    → length (declared_names (slice_get p g.item)) ≡ length g.mutable
    → ((a : Action) (q : Place) (u : Temporary) (us : List Step) → Among a (actions_in (order_function (plain-TypedTree g.tree))) → a.act ≡ Write q u us
    → (x : ℕ) → q.root ≡ variable x → is_behind q.steps ≡ false → is_all q.steps ≡ false → slice_get g.mutable x ≡ Some true)
    → Accepted (asked_of (declarations t.decls.items) front.parts g r h) g.mutable
accepted_if p t front g a r h places variables names count writes =
    let below : (x : ℕ) → Among x (variables_of_run r h.body) → x < length g.mutable =
    λ x i. let l = each_at (λ (x : ℕ). x < length (declared_names (slice_get p g.item))) (variables_of_run r h.body) names x i in omega (arith, l, count) in
    record {
      sized = front.sized;
      initialised = all_at (IsInitialised (declarations t.decls.items) front.parts) t.functions front.initialised g a;
      places = places;
      named = λ x i. variables x (below x i);
      declared = λ x i. entry_below g.mutable x (below x i);
      parts_are_mut = λ a x i w. written_part g.mutable a.act x (λ q u us e. writes a q u us i e) w;
    }

-- its tree is one that is elaborated
pub elaborated_of : (Q : Tree → Type 0) (p : ProgramTree) (ns : List ItemNames) (t : Typed) → IsNumbered p → Meant p ns → (typed : IsTyped p ns t) → WellSigned t.decls.items → Sized (declarations typed.declared) (told typed.sizes)
    → ((A : Assigned) (i : ℕ) (s : Span) (f : FunctionTree) (names : List NodeNames) → Q (elaborated A (function_named i s f names)))
    → (g : TypedFn) → Among g t.functions → Q (plain-TypedTree g.tree)
elaborated_of Q p ns t few meant typed signed sized h g a =
    let x = words.text p ns t few meant typed signed sized g a in
    subst Q (sym x.checked.tree) (h (assigned (known_in (record { program = p; declared = typed.declared; sizes = typed.sizes })) x.checked.types) x.number x.span x.function x.table.names)
