-- A function that is equal apart from spans to another has the same tree with numbers, the same variables, and the same `let`s with a type.
use Rattle.std.proofs.Common.{◌≡◌, ℕ, ◌++◌, Bool, true, false, ◌||◌, not, List, [], ◌∷◌, map, Option, Some, None, option_map, refl, sym, ap, subst, ◌∙◌}
use Rattle.rx_core.specs.declared.types.Span.{Span}
use Rattle.rx_tree.specs.declared.tree.BoundLifetime.{BoundLifetime}
use Rattle.rx_tree.specs.Plain.{Function, Parameter, TypeTree}
use Rattle.rx_tree.specs.Erase.{erase_body, erase_function, erase_ident, erase_lifetime, erase_parameter, erase_type, nowhere}
use Rattle.rx_resolve_names.specs.declared.resolved.NodeNames.{NodeNames}
use Rattle.rx_typed.specs.declared.nodes.Declaration.{Declaration}
use Rattle.rx_typed.specs.declared.nodes.Node.{Node}
use Rattle.rx_typed.specs.declared.nodes.Site.{Site}
use Rattle.rx_typed.specs.declared.nodes.Stage.{Stage}
use Rattle.rx_typed.specs.Named as named
use Rattle.rx_typed.specs.Named.{Written}
use Rattle.rx_typed.specs.Naming.{a_waiting, all_waiting, begins, entry_if, function_annotations, function_named, function_variables, has_bounds, has_entry, is_nothing, left_waiting, of_body, of_function, of_optional_type, of_parameter, of_parameters, Annotation, Cursor}
use Rattle.rx_engine_blocks.specs.DemandsLike.Is.{itself}
use Rattle.rx_engine_typing.specs.Renumbered as like
use Rattle.rx_engine_typing.specs.Renumbered.{NodeAt, RenumberedNodes, RenumberedParameters}
use Rattle.rx_check_laws.specs.ApartFromSpans.{unchanged, SameNumbers}
use Rattle.rx_check_laws.proofs.Cursors.{bare, bare_annotation, bare_stage, declares, entry, giving, node, then, Equal, Same, Sim}
use Rattle.rx_check_laws.proofs.Numbered.{body_alike, optional_type_alike, type_alike, ABody, AType, AnAnnotation}

abbrev AllParameters : List named.Parameter → List named.Parameter → Type 0
AllParameters = RenumberedParameters unchanged

abbrev AllNodes : List Node → List Node → Type 0
AllNodes = RenumberedNodes unchanged

record ParameterAlike (x y : named.Parameter) : Type 0 where
  pub variable : x.variable ≡ y.variable
  pub typ : AType x.typ y.typ

parameter_alike : (x : Parameter) → Sim ParameterAlike (of_parameter x) (of_parameter (erase_parameter x))
parameter_alike x = then Equal ParameterAlike _ _ _ _ (declares (record { mutable = x.mutable; stage = Stage.Known })) (λ (v v' : ℕ) (e : v ≡ v').
    then AType ParameterAlike _ _ _ _ (type_alike x.typ) (λ t t' h. giving ParameterAlike (record { variable = v; typ = t }) (record { variable = v'; typ = t' }) (record { variable = e; typ = h })))

parameters_again : (x y : named.Parameter) (xs ys : List named.Parameter) → ParameterAlike x y → AllParameters xs ys → AllParameters (x ∷ xs) (y ∷ ys)
parameters_again x y xs ys h k = subst (λ (v : ℕ). AllParameters (x ∷ xs) (record { variable = v; typ = y.typ } ∷ ys)) h.variable (like.RenumberedParameters.parameter_and h.typ k)

parameters_alike : (xs : List Parameter) → Sim AllParameters (of_parameters xs) (of_parameters (map erase_parameter xs))
parameters_alike [] = giving AllParameters _ _ like.RenumberedParameters.no_parameter
parameters_alike (x ∷ xs) = then ParameterAlike AllParameters _ _ _ _ (parameter_alike x) (λ p p' h. then AllParameters AllParameters _ _ _ _ (parameters_alike xs) (λ ps ps' k. giving AllParameters _ _ (parameters_again p p' ps ps' h k)))

-- ---- whether the item has an entry

nothing_there : {A B : Type 0} (f : A → B) (xs : List A) → is_nothing (map f xs) ≡ is_nothing xs
nothing_there f [] = refl
nothing_there f (x ∷ xs) = refl

bounds_there : (ls : List BoundLifetime) → has_bounds (map erase_lifetime ls) ≡ has_bounds ls
bounds_there [] = refl
bounds_there (l ∷ ls) = let a = nothing_there erase_ident l.bounds in let b = bounds_there ls in cc (a, b)

has_entry_there : (f : Function) → has_entry (erase_function f) ≡ has_entry f
has_entry_there f = let a = bounds_there f.lifetimes in let b = nothing_there erase_parameter f.params in cc (a, b)

entry_there : (b b' : Bool) → b ≡ b' → Sim Equal (entry_if b) (entry_if b')
entry_there b b' e = subst (λ (c : Bool). Sim Equal (entry_if b) (entry_if c)) e (so b)
  where
    so : (c : Bool) → Sim Equal (entry_if c) (entry_if c)
    so true = entry
    so false = giving Equal _ _ refl

-- ---- what waits

abbrev waits_number : Stage → ℕ
waits_number (Stage.Waits n s) = n
waits_number s = 0

abbrev waits_or : Stage → Bool
waits_or (Stage.Waits n s) = true
waits_or s = false

heads : (s t : Stage) → bare_stage s ≡ bare_stage t → (ns ns' : List Node) → AllNodes ns ns' → AllNodes (a_waiting s ++ ns) (a_waiting t ++ ns')
heads (Stage.Waits n a) (Stage.Waits m b) e ns ns' h =
    subst (λ (k : ℕ). AllNodes (record { number = n; span = a; site = Site.Value } ∷ ns) (record { number = k; span = b; site = Site.Value } ∷ ns')) (ap waits_number e) (like.RenumberedNodes.node_and h)
heads (Stage.Waits n a) Stage.Known e ns ns' h = absurd (differ (ap waits_or e))
  where
    differ : true ≡ false → ⊥
    differ q = cc
heads (Stage.Waits n a) Stage.Given e ns ns' h = absurd (differ (ap waits_or e))
  where
    differ : true ≡ false → ⊥
    differ q = cc
heads Stage.Known (Stage.Waits m b) e ns ns' h = absurd (differ (ap waits_or e))
  where
    differ : false ≡ true → ⊥
    differ q = cc
heads Stage.Given (Stage.Waits m b) e ns ns' h = absurd (differ (ap waits_or e))
  where
    differ : false ≡ true → ⊥
    differ q = cc
heads Stage.Known Stage.Known e ns ns' h = h
heads Stage.Known Stage.Given e ns ns' h = h
heads Stage.Given Stage.Known e ns ns' h = h
heads Stage.Given Stage.Given e ns ns' h = h

abbrev head_or : {A : Type 0} → A → List A → A
head_or a [] = a
head_or a (x ∷ xs) = x

abbrev tail_of : {A : Type 0} → List A → List A
tail_of [] = []
tail_of (x ∷ xs) = xs

nothing_more : {A : Type 0} {x : A} {xs : List A} → [] ≡ x ∷ xs → ⊥
nothing_more e = cc

all_wait : (xs ys : List Declaration) → map bare xs ≡ map bare ys → AllNodes (all_waiting xs) (all_waiting ys)
all_wait [] [] e = like.RenumberedNodes.no_node
all_wait [] (y ∷ ys) e = absurd (nothing_more e)
all_wait (x ∷ xs) [] e = absurd (nothing_more (sym e))
all_wait (x ∷ xs) (y ∷ ys) e = heads x.stage y.stage (ap (λ (ds : List Declaration). (head_or (bare x) ds).stage) e) (all_waiting xs) (all_waiting ys) (all_wait xs ys (ap tail_of e))

waiting_alike : Sim AllNodes left_waiting left_waiting
waiting_alike c d s = (all_wait c.variables d.variables s.variables, s)

-- ---- the function

pub function_alike : (i : ℕ) (s t : Span) (f : Function) → Sim SameNumbers (of_function i s f) (of_function i t (erase_function f))
function_alike i s t f = then (NodeAt unchanged) SameNumbers _ _ _ _ (node s t Site.Value) (λ n n' h. then Equal SameNumbers _ _ _ _ (entry_there (has_entry f) (has_entry (erase_function f)) (sym (has_entry_there f))) (λ (e e' : List ℕ × Bool) (q : e ≡ e').
    then AllParameters SameNumbers _ _ _ _ (parameters_alike f.params) (λ ps ps' k. then AnAnnotation SameNumbers _ _ _ _ (optional_type_alike f.result) (λ y y' l. then ABody SameNumbers _ _ _ _ (body_alike Site.Expects f.body) (λ b b' m.
    then AllNodes SameNumbers _ _ _ _ waiting_alike (λ ws ws' o. giving SameNumbers (record { item = i; params = ps; result = y; body = b; never_given = ws }) (record { item = i; params = ps'; result = y'; body = b'; never_given = ws' })
    (record { item = itself; params = k; result = l; body = m; never_given = o })))))))

same_beginning : (ns : List NodeNames) → Same (begins ns) (begins ns)
same_beginning ns = record { number = refl; loops = refl; declared = refl; variables = refl; names = refl; annotations = refl }

pub named_alike : (i : ℕ) (s t : Span) (f : Function) (ns : List NodeNames) → SameNumbers (function_named i s f ns) (function_named i t (erase_function f) ns)
named_alike i s t f ns = (function_alike i s t f (begins ns) (begins ns) (same_beginning ns)).0

mutable_ones : (xs ys : List Declaration) → map bare xs ≡ map bare ys → map (λ (d : Declaration). d.mutable) xs ≡ map (λ (d : Declaration). d.mutable) ys
mutable_ones [] [] e = refl
mutable_ones [] (y ∷ ys) e = absurd (nothing_more e)
mutable_ones (x ∷ xs) [] e = absurd (nothing_more (sym e))
mutable_ones (x ∷ xs) (y ∷ ys) e = let a = ap (λ (ds : List Declaration). (head_or (bare x) ds).mutable) e in let b = mutable_ones xs ys (ap tail_of e) in cc (a, b)

pub mutable_alike : (s t : Span) (f : Function) (ns : List NodeNames) → map (λ (d : Declaration). d.mutable) (function_variables s f ns) ≡ map (λ (d : Declaration). d.mutable) (function_variables t (erase_function f) ns)
mutable_alike s t f ns = mutable_ones _ _ (function_alike 0 s t f (begins ns) (begins ns) (same_beginning ns)).1.variables

pub annotations_alike : (s t : Span) (f : Function) (ns : List NodeNames) → map bare_annotation (function_annotations s f ns) ≡ function_annotations t (erase_function f) ns
annotations_alike s t f ns = (function_alike 0 s t f (begins ns) (begins ns) (same_beginning ns)).1.annotations
