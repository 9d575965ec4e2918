-- The names that a text declares are among its identifiers. So a name that a new function may have is no item's, no parameter's and no
-- variable's, and a run that is selected stands in its function as is asked.
use Rattle.std.proofs.Common.{◌≡◌, ◌≢◌, ℕ, zero, suc, ◌+◌, ◌≤◌, Bool, true, false, ◌||◌, List, [], ◌∷◌, ◌++◌, map, Option, Some, None, slice_get, refl, sym, ap, ◌∙◌, subst, arith, bytes_eq, codes}
use Rattle.std.proofs.Common.{inl, inr}
use Rattle.std.specs.Prelude.{if◌then◌else◌}
use Rattle.std.proofs.lemmas.Bool.{or_left, or_right}
use Rattle.rx_core.specs.declared.types.Span.{Span}
use Rattle.rx_tree.specs.declared.tree.Ident.{Ident}
use Rattle.rx_tree.specs.Plain as plain
use Rattle.rx_tree.specs.Plain.{PatternTree, Body, Function, ItemTree, Parameter, ProgramTree}
use Rattle.rx_tree.specs.Lists.{nth, Every}
use Rattle.rx_tree.specs.Positions.{NodeTree, an_item, a_type, a_block, a_statement, an_expression, a_pattern, children, descend}
use Rattle.rx_tree.specs.Nodes.{below, below_block, below_type, within_parameters, within_type}
use Rattle.rx_tree.proofs.NodesLaws.{joined, below_is, every_both, every_front, every_behind}
use Rattle.rx_lex.specs.declared.token.Class.TheVariants as class
use Rattle.rx_lex.specs.Tok.{Tok}
use Rattle.rx_lex.proofs.TokenLaws.{lexes_one}
use Rattle.rx_parse_grammar.specs.grammar.Words.{IsName}
use Rattle.rx_resolve_names.specs.Meant.{type_name, function_name}
use Rattle.rx_typed_runs.specs.declared.runs.RunPos.{RunPos}
use Rattle.rx_select.specs.OneText.{OneText}
use Rattle.rx_select.specs.RunOf.{RunOf}
use Rattle.rx_select.specs.Selected.{IsToken}
use Rattle.rx_hoist_naming.specs.NamesWords.{identifiers, is_identifier_class, words_of}
use Rattle.rx_hoist_naming.specs.DeclaredNames.{declared_names, names_bound}
use Rattle.rx_hoist_nodes.specs.Nodes.{nodes_of}
use Rattle.rx_hoist_extraction.specs.Names.{Names, bound, is_among}
use Rattle.rx_hoist_extraction.specs.Run.{as_block, run_block, Run}
use Rattle.rx_hoist_extraction.specs.Plan.{enum_name, has_enum, Pins, Plan}
use Rattle.rx_hoist_extraction.specs.FreeName.{FreeName}
use Rattle.rx_hoist_extraction.specs.Pinned.{pinned_function, pinning}
use Rattle.rx_hoist_extraction.specs.Changed.{changed_body}
use Rattle.rx_engine_names.specs.NewNames.{AreFree, Other}
use Rattle.rx_engine_names.specs.ParameterNames.{parameter_names}
use Rattle.rx_engine_names.specs.Placed.{BindsNot}
use Rattle.rx_engine_names.specs.CalledRuns.{RunStands}
use Rattle.rx_engine_names.proofs.NewScopes.{is_name, same_name}
use Rattle.rx_engine_names.proofs.PinnedBlocks.{blocks_stand_alone}
use Rattle.rx_engine_names.proofs.PinnedNodes.{tags, same_body}
use Rattle.rx_engine_names.proofs.TextNames.{Binds, Found, FunctionNames, file_names, function_of, typed}

-- ---- names among the identifiers

abbrev Known : List Tok → List ℕ → Type 0
Known ts x = is_among x (identifiers ts) ≡ true

among_behind : (x : List ℕ) (xs ys : Names) → is_among x ys ≡ true → is_among x (xs ++ ys) ≡ true
among_behind x [] ys h = h
among_behind x (y ∷ xs) ys h = or_right (bytes_eq x y) (is_among x (xs ++ ys)) (among_behind x xs ys h)

tokens_known : (ts : List Tok) (t : Tok) → IsToken t ts → IsName t → Known ts t.text
tokens_known [] t i k = absurd i
tokens_known (u ∷ us) t (inl e) k =
    let here : is_identifier_class u.class ≡ true = ap (λ (v : Tok). is_identifier_class v.class) (sym e) ∙ ap is_identifier_class k in
    ap (λ (b : Bool). is_among t.text ((if b then u.text ∷ [] else []) ++ identifiers us)) here ∙ or_left (bytes_eq t.text u.text) (is_among t.text (identifiers us)) (ap (λ (v : Tok). bytes_eq t.text v.text) (sym e) ∙ same_name t.text)
tokens_known (u ∷ us) t (inr i) k = among_behind t.text (if is_identifier_class u.class then u.text ∷ [] else []) (identifiers us) (tokens_known us t i k)

not_among : (ts : List Tok) (x : List ℕ) (ys : Names) → Every (Known ts) ys → is_among x (identifiers ts) ≡ false → is_among x ys ≡ false
not_among ts x [] h f = refl
not_among ts x (y ∷ ys) h f = by (bytes_eq x y) refl (not_among ts x ys h.1 f)
  where
    by : (b : Bool) → bytes_eq x y ≡ b → is_among x ys ≡ false → (b || is_among x ys) ≡ false
    by true e g = let k : Known ts x = subst (Known ts) (sym (is_name x y e)) h.0 in absurd (cc)
    by false e g = g

other : (ts : List Tok) (x y : List ℕ) → Known ts y → is_among x (identifiers ts) ≡ false → x ≢ y
other ts x y h f e = let k : Known ts x = subst (Known ts) (sym e) h in cc

-- ---- patterns, wherever they stand

abbrev patterns_in : List NodeTree → List PatternTree
patterns_in = tags PatternTree (λ s. []) (λ p. p ∷ [])

module _ (W : List ℕ → Type 0) where
  to_patterns : (ns : List NodeTree) → Every (Binds W) ns → Every (λ (p : PatternTree). Every W (bound p)) (patterns_in ns)
  to_patterns [] h = tt
  to_patterns (an_item i ∷ ns) h = to_patterns ns h.1
  to_patterns (a_type t ∷ ns) h = to_patterns ns h.1
  to_patterns (a_block b ∷ ns) h = to_patterns ns h.1
  to_patterns (a_statement a ∷ ns) h = to_patterns ns h.1
  to_patterns (an_expression e ∷ ns) h = to_patterns ns h.1
  to_patterns (a_pattern p ∷ ns) h = (h.0, to_patterns ns h.1)

  to_nodes : (ns : List NodeTree) → Every (λ (p : PatternTree). Every W (bound p)) (patterns_in ns) → Every (Binds W) ns
  to_nodes [] h = tt
  to_nodes (an_item i ∷ ns) h = (tt, to_nodes ns h)
  to_nodes (a_type t ∷ ns) h = (tt, to_nodes ns h)
  to_nodes (a_block b ∷ ns) h = (tt, to_nodes ns h)
  to_nodes (a_statement a ∷ ns) h = (tt, to_nodes ns h)
  to_nodes (an_expression e ∷ ns) h = (tt, to_nodes ns h)
  to_nodes (a_pattern p ∷ ns) h = (h.0, to_nodes ns h.1)

  pinned_binds : (P : ProgramTree) (place : Span) (pins : Option Pins) (f : Function) → Every (Binds W) (below_block f.body) → Every (Binds W) (below_block (pinned_function P place pins f).body)
  pinned_binds P place None f h = h
  pinned_binds P place (Some pins) f h =
      let c = changed_body (pinning P place pins) [] [] f.body in
      to_nodes (below_block c) (subst (Every (λ (p : PatternTree). Every W (bound p))) (sym (same_body PatternTree (λ s. []) (λ p. p ∷ []) P place pins [] [] f.body)) (to_patterns (below_block f.body) h))

  child_binds : (cs : List NodeTree) (k : ℕ) (c : NodeTree) → Every (Binds W) (joined cs) → slice_get cs k ≡ Some c → Every (Binds W) (c ∷ below c)
  child_binds [] k c h e = absurd (cc)
  child_binds (x ∷ cs) zero c h e =
      let q : x ≡ c = cc in
      subst (λ (n : NodeTree). Every (Binds W) (n ∷ below n)) q (h.0, every_front (Binds W) (below x) (joined cs) h.1)
  child_binds (x ∷ cs) (suc k) c h e = child_binds cs k c (every_behind (Binds W) (below x) (joined cs) h.1) e

  binds_there : (ks : List ℕ) (n m : NodeTree) → Every (Binds W) (n ∷ below n) → descend (Some n) ks ≡ Some m → Binds W m
  binds_there [] n m h e = let q : n ≡ m = cc in subst (Binds W) q h.0
  binds_there (k ∷ ks) n m h e = by (slice_get (children n) k) refl e (λ c g d. binds_there ks c m g d)
    where
      by : (o : Option NodeTree) → slice_get (children n) k ≡ o → descend o ks ≡ Some m → ((c : NodeTree) → Every (Binds W) (c ∷ below c) → descend (Some c) ks ≡ Some m → Binds W m) → Binds W m
      by None q d on = absurd (cc)
      by (Some c) q d on = on c (child_binds (children n) k c (subst (Every (Binds W)) (below_is n) h.1) q) d

-- ---- a text

pub text_found : (bytes : ℕ) (ts : List Tok) (p : ProgramTree) → OneText ts bytes p → Every (Found (Known ts)) p
text_found bytes ts p x =
    let same = lexes_one x.text ts x.parsed.tokens x.lexed x.parsed.lexed in
    file_names (Known ts) x.parsed.derived (λ t i k. tokens_known ts t (subst (IsToken t) (sym same) i) k)

rt_other : (pl : Plan) → enum_name pl ≢ codes "rt"
rt_other pl e = cc

pub names_are_free : (bytes : ℕ) (ts : List Tok) (p : ProgramTree) → OneText ts bytes p → (pl : Plan) → FreeName (identifiers ts) pl.name → AreFree p pl
names_are_free bytes ts p x pl free = record { function = functions p (text_found bytes ts p x); exits = λ h. enums p (text_found bytes ts p x) }
  where
    functions : (p : ProgramTree) → Every (Found (Known ts)) p → Every (λ i. Other pl.name (function_name i)) p
    functions [] h = tt
    functions (plain.rt_item s r ∷ is) h = (tt, functions is h.1)
    functions (plain.struct_item s d ∷ is) h = (tt, functions is h.1)
    functions (plain.enum_item s d ∷ is) h = (tt, functions is h.1)
    functions (plain.function_item s f ∷ is) h = (other ts pl.name f.name.name h.0.name free.unused, functions is h.1)

    enums : (p : ProgramTree) → Every (Found (Known ts)) p → Every (λ i. Other (enum_name pl) (type_name i)) p
    enums [] h = tt
    enums (plain.rt_item s r ∷ is) h = (rt_other pl, enums is h.1)
    enums (plain.struct_item s d ∷ is) h = (other ts (enum_name pl) d.name.name h.0 free.enum_unused, enums is h.1)
    enums (plain.enum_item s d ∷ is) h = (other ts (enum_name pl) d.name.name h.0 free.enum_unused, enums is h.1)
    enums (plain.function_item s f ∷ is) h = (tt, enums is h.1)

pub run_stands : (bytes : ℕ) (ts : List Tok) (p : ProgramTree) → OneText ts bytes p → (start end : ℕ) (pos : RunPos) → RunOf bytes ts p start end pos → (r : Run) → r.first ≡ pos.first → r.last ≡ pos.last
    → (s : Span) (f : Function) → nth p r.item ≡ Some (plain.function_item s f) → (pl : Plan) → FreeName (identifiers ts) pl.name
    → (b : Body) → descend (Some (a_block (pinned_function p r.span pl.pins f).body)) r.way ≡ Some (a_block b) → RunStands r pl (pinned_function p r.span pl.pins f)
run_stands bytes ts p x start end pos run r first last s f e pl free b d =
    let g = pinned_function p r.span pl.pins f in
    let names = function_of (Known ts) p r.item s f (text_found bytes ts p x) e in
    let is : run_block r g ≡ b = ap as_block d in
    let k = run.forward in
    record {
      alone = blocks_stand_alone bytes ts p x r.item s f e r.span pl.pins r.way (run_block r g) (subst (λ (c : Body). descend (Some (a_block g.body)) r.way ≡ Some (a_block c)) (sym is) d);
      forward = omega (arith, k, first, last);
      bound = λ way q there. not_among ts pl.name (bound q) (binds_there (Known ts) way (a_block g.body) (a_pattern q) (tt, pinned_binds (Known ts) p r.span pl.pins f names.patterns) there) free.unused;
      passed = not_among ts pl.name (parameter_names f.params) names.params free.unused;
    }

-- ---- what a function declares

bound_known : (ts : List Tok) (ns : List NodeTree) → Every (Binds (Known ts)) ns → Every (Known ts) (names_bound ns)
bound_known ts [] h = tt
bound_known ts (an_item i ∷ ns) h = bound_known ts ns h.1
bound_known ts (a_type t ∷ ns) h = bound_known ts ns h.1
bound_known ts (a_block b ∷ ns) h = bound_known ts ns h.1
bound_known ts (a_statement a ∷ ns) h = bound_known ts ns h.1
bound_known ts (an_expression e ∷ ns) h = bound_known ts ns h.1
bound_known ts (a_pattern (plain.wild s) ∷ ns) h = bound_known ts ns h.1
bound_known ts (a_pattern (plain.bind s x m) ∷ ns) h = (h.0.0, bound_known ts ns h.1)
bound_known ts (a_pattern (plain.int_pattern s g v k) ∷ ns) h = bound_known ts ns h.1
bound_known ts (a_pattern (plain.bool_pattern s b) ∷ ns) h = bound_known ts ns h.1
bound_known ts (a_pattern (plain.tuple_pattern s ps) ∷ ns) h = bound_known ts ns h.1
bound_known ts (a_pattern (plain.variant_pattern s a v ps) ∷ ns) h = bound_known ts ns h.1
bound_known ts (a_pattern (plain.make_pattern s n fs) ∷ ns) h = bound_known ts ns h.1

passed_known : (ts : List Tok) (xs : List Parameter) → Every (Known ts) (parameter_names xs) → Every (Known ts) (map (λ (x : Parameter). x.name.name) xs)
passed_known ts [] h = tt
passed_known ts (x ∷ xs) h = (h.0, passed_known ts xs h.1)

params_bind : (ts : List Tok) (xs : List Parameter) → Every (Binds (Known ts)) (within_parameters xs)
params_bind ts [] = tt
params_bind ts (x ∷ xs) = (tt, every_both (Binds (Known ts)) (below_type x.typ) (within_parameters xs) (typed (Known ts) (Some x.typ)).1 (params_bind ts xs))

both_known : (ts : List Tok) (xs ys : Names) → Every (Known ts) xs → Every (Known ts) ys → Every (Known ts) (xs ++ ys)
both_known ts [] ys h k = k
both_known ts (x ∷ xs) ys h k = (h.0, both_known ts xs ys h.1 k)

pub declared_are_known : (bytes : ℕ) (ts : List Tok) (p : ProgramTree) → OneText ts bytes p → (n : ℕ) (s : Span) (f : Function) → nth p n ≡ Some (plain.function_item s f)
    → Every (λ (x : List ℕ). is_among x (identifiers ts) ≡ true) (declared_names (Some (plain.function_item s f)))
declared_are_known bytes ts p x n s f e =
    let h = function_of (Known ts) p n s f (text_found bytes ts p x) e in
    let B : NodeTree → Type 0 = Binds (Known ts) in
    both_known ts (map (λ (x : Parameter). x.name.name) f.params) (names_bound (nodes_of (Some (plain.function_item s f)))) (passed_known ts f.params h.params)
    (bound_known ts (nodes_of (Some (plain.function_item s f))) (
      tt,
      every_both B (within_parameters f.params) (within_type f.result ++ (a_block f.body ∷ below_block f.body)) (params_bind ts f.params)
          (every_both B (within_type f.result) (a_block f.body ∷ below_block f.body) (typed (Known ts) f.result) (tt, h.patterns)),
    ))
