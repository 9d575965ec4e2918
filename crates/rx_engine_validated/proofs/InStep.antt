-- One text that is numbered by two tables of names: where variables and loops keep their numbers, all that is numbered does, and each form
-- stands where it stood.
use Rattle.std.proofs.Common.{◌≡◌, ℕ, suc, ◌-◌, Bool, true, false, List, [], ◌∷◌, ◌++◌, get_or, slice_set, Option, Some, None, refl, sym, ap, ◌∙◌, subst}
use Rattle.rx_core.specs.declared.types.Span.{Span}
use Rattle.rx_tree.specs.Plain.{TypeTree, PatternTree}
use Rattle.rx_resolve_names.specs.declared.resolved.NodeNames.{NodeNames}
use Rattle.rx_typed.specs.declared.nodes.Node.{Node}
use Rattle.rx_typed.specs.declared.nodes.Site.{Site}
use Rattle.rx_typed.specs.declared.nodes.Stage.{Stage}
use Rattle.rx_typed.specs.declared.nodes.Declaration.{Declaration}
use Rattle.rx_typed.specs.Named as named
use Rattle.rx_typed.specs.Naming as numbering
use Rattle.rx_typed.specs.Naming.{Annotation, Cursor, Numbering, a_node, an_entry, taken, first, second}

-- ---- two numberings in step: they differ in names

pub record Place : Type 0 where
  pub number : ℕ
  pub loops : List Bool
  pub declared : ℕ
  pub variables : List Declaration

pub record Rest : Type 0 where
  pub spans : List Span
  pub names : List NodeNames
  pub annotations : List Annotation

abbrev pub cursor_of : Place → Rest → Cursor
cursor_of P Q = record { number = P.number; spans = Q.spans; loops = P.loops; declared = P.declared; variables = P.variables; names = Q.names; annotations = Q.annotations }

pub data InStep : Cursor → Cursor → Type 0 where
  in_step : {P : Place} {Q Q' : Rest} → InStep (cursor_of P Q) (cursor_of P Q')

pub record Kept {A : Type 0} (S : A → A → Type 0) (x x' : A × Cursor) : Type 0 where
  pub like : S x.0 x'.0
  pub steps : InStep x.1 x'.1

pub variables_same : {c c' : Cursor} → InStep c c' → c'.variables ≡ c.variables
variables_same in_step = refl

pub loops_same : {c c' : Cursor} → InStep c c' → c'.loops ≡ c.loops
loops_same in_step = refl

pub declared_same : {c c' : Cursor} → InStep c c' → c'.declared ≡ c.declared
declared_same in_step = refl

pub next_node : {c c' : Cursor} (s : Span) (t : Site) → InStep c c' → InStep (a_node s t c).1 (a_node s t c').1
next_node s t (in_step {P = P} {Q = Q} {Q' = Q'}) = in_step {P = record P { number = suc P.number }} {Q = record Q { spans = Q.spans ++ s ∷ [] }} {Q' = record Q' { spans = Q'.spans ++ s ∷ [] }}

taken_next : {c c' : Cursor} (xs xs' : List NodeNames) → InStep c c' → InStep (taken xs c).1 (taken xs' c').1
taken_next [] [] (in_step {P = P} {Q = Q} {Q' = Q'}) = (in_step {P = P} {Q = Q} {Q' = Q'})
taken_next [] (x' ∷ xs') (in_step {P = P} {Q = Q} {Q' = Q'}) = in_step {P = P} {Q = Q} {Q' = record Q' { names = xs' }}
taken_next (x ∷ xs) [] (in_step {P = P} {Q = Q} {Q' = Q'}) = in_step {P = P} {Q = record Q { names = xs }} {Q' = Q'}
taken_next (x ∷ xs) (x' ∷ xs') (in_step {P = P} {Q = Q} {Q' = Q'}) = in_step {P = P} {Q = record Q { names = xs }} {Q' = record Q' { names = xs' }}

pub next_entry : {c c' : Cursor} → InStep c c' → InStep (an_entry c).1 (an_entry c').1
next_entry {c} {c'} st = taken_next c.names c'.names st

set_variables : {c c' : Cursor} (vs vs' : List Declaration) → vs' ≡ vs → InStep c c' → InStep (record c { variables = vs }) (record c' { variables = vs' })
set_variables {c} {c'} vs vs' e st = subst (λ (z : List Declaration). InStep (record c { variables = vs }) (record c' { variables = z })) (sym e) (go st)
  where
    go : {d d' : Cursor} → InStep d d' → InStep (record d { variables = vs }) (record d' { variables = vs })
    go (in_step {P = P} {Q = Q} {Q' = Q'}) = in_step {P = record P { variables = vs }} {Q = Q} {Q' = Q'}

set_loops : {c c' : Cursor} (ls ls' : List Bool) → ls' ≡ ls → InStep c c' → InStep (record c { loops = ls }) (record c' { loops = ls' })
set_loops {c} {c'} ls ls' e st = subst (λ (z : List Bool). InStep (record c { loops = ls }) (record c' { loops = z })) (sym e) (go st)
  where
    go : {d d' : Cursor} → InStep d d' → InStep (record d { loops = ls }) (record d' { loops = ls })
    go (in_step {P = P} {Q = Q} {Q' = Q'}) = in_step {P = record P { loops = ls }} {Q = Q} {Q' = Q'}

pub next_between : {c c' : Cursor} {i i' j j' : ℕ} → i' ≡ i → j' ≡ j → InStep c c' → InStep (numbering.known_between i j c).1 (numbering.known_between i' j' c').1
next_between {c} {c'} {i} {i'} {j} {j'} e f st = set_variables (numbering.known_among i (j - i) c.variables) (numbering.known_among i' (j' - i') c'.variables)
    (ap (λ (n : ℕ). numbering.known_among n (j' - n) c'.variables) e ∙ ap (λ (n : ℕ). numbering.known_among i (n - i) c'.variables) f ∙ ap (numbering.known_among i (j - i)) (variables_same st)) st

pub next_stage : {c c' : Cursor} {x x' : ℕ} (s s' : Stage) → x' ≡ x → s' ≡ s → InStep c c' → InStep (numbering.with_stage x s c) (numbering.with_stage x' s' c')
next_stage {c} {c'} {x} {x'} s s' e f st = set_variables (slice_set c.variables x (record (numbering.declaration c x) { stage = s })) (slice_set c'.variables x' (record (numbering.declaration c' x') { stage = s' }))
    (ap (λ (n : ℕ). slice_set c'.variables n (record (numbering.declaration c' n) { stage = s' })) e
    ∙ ap (λ (z : Stage). slice_set c'.variables x (record (numbering.declaration c' x) { stage = z })) f
    ∙ ap (λ (vs : List Declaration). slice_set vs x (record (get_or vs x numbering.not_declared) { stage = s })) (variables_same st)) st

pub next_led : {c c' : Cursor} {l l' : ℕ} → l' ≡ l → InStep c c' → InStep (numbering.led_to l c) (numbering.led_to l' c')
next_led {c} {c'} {l} {l'} e st = set_loops (slice_set c.loops l true) (slice_set c'.loops l' true) (ap (λ (n : ℕ). slice_set c'.loops n true) e ∙ ap (λ (ls : List Bool). slice_set ls l true) (loops_same st)) st

pub next_loop : {c c' : Cursor} → InStep c c' → InStep (numbering.a_loop c).1 (numbering.a_loop c').1
next_loop {c} {c'} st = set_loops (c.loops ++ false ∷ []) (c'.loops ++ false ∷ []) (ap (λ (ls : List Bool). ls ++ false ∷ []) (loops_same st)) st

pub next_annotation : {c c' : Cursor} (p : PatternTree) (y : Option TypeTree) → InStep c c' → InStep (numbering.annotates p y c).1 (numbering.annotates p y c').1
next_annotation p None st = st
next_annotation p (Some t) (in_step {P = P} {Q = Q} {Q' = Q'}) = in_step {P = P} {Q = record Q { annotations = Q.annotations ++ record { pattern = p; typ = t; variable = P.declared; names = Q.names } ∷ [] }} {Q' = record Q' { annotations = Q'.annotations ++ record { pattern = p; typ = t; variable = P.declared; names = Q'.names } ∷ [] }}

pub next_declared : {c c' : Cursor} (d : Declaration) → InStep c c' → InStep (numbering.declare d c).1 (numbering.declare d c').1
next_declared d (in_step {P = P} {Q = Q} {Q' = Q'}) = in_step {P = record P { declared = suc P.declared; variables = P.variables ++ d ∷ [] }} {Q = Q} {Q' = Q'}

next_waiting : {c c' : Cursor} (n n' : Node) (o o' : Option ℕ) → n' ≡ n → o' ≡ o → InStep c c' → InStep (numbering.waits_at n o c).1 (numbering.waits_at n' o' c').1
next_waiting {c} {c'} n n' o o' e f st = subst (λ (z : Node). InStep (numbering.waits_at n o c).1 (numbering.waits_at z o' c').1) (sym e) (subst (λ (z : Option ℕ). InStep (numbering.waits_at n o c).1 (numbering.waits_at n z c').1) (sym f) (go o))
  where
    go : (o : Option ℕ) → InStep (numbering.waits_at n o c).1 (numbering.waits_at n o c').1
    go None = st
    go (Some x) = next_stage (Stage.Waits n.number n.span) (Stage.Waits n.number n.span) refl refl st

pub next_waits : {c c' : Cursor} (b b' : Bool) (p p' : named.Pattern) → b' ≡ b → named.pattern_node p' ≡ named.pattern_node p → named.whole_binding p' ≡ named.whole_binding p → InStep c c' → InStep (numbering.waits_if b p c).1 (numbering.waits_if b' p' c').1
next_waits {c} {c'} b b' p p' e f g st = subst (λ (z : Bool). InStep (numbering.waits_if b p c).1 (numbering.waits_if z p' c').1) (sym e) (go b)
  where
    go : (b : Bool) → InStep (numbering.waits_if b p c).1 (numbering.waits_if b p' c').1
    go true = next_waiting (named.pattern_node p) (named.pattern_node p') (named.whole_binding p) (named.whole_binding p') f g st
    go false = st

pub same_use : {c c' : Cursor} (x x' : ℕ) → x' ≡ x → InStep c c' → numbering.use_of x' (numbering.declaration c' x') ≡ numbering.use_of x (numbering.declaration c x)
same_use {c} {c'} x x' e st = ap (λ (n : ℕ). numbering.use_of n (get_or c'.variables n numbering.not_declared)) e ∙ ap (λ (vs : List Declaration). numbering.use_of x (get_or vs x numbering.not_declared)) (variables_same st)
