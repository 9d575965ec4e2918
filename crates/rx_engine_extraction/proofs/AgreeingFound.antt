-- What is found of an answer is one by all types that it has; two typings of one program are one program.
use Rattle.std.proofs.Common.{◌≡◌, ℕ, Bool, true, false, ◌==◌, ◌&&◌, List, [], ◌∷◌, length, Option, Some, None, refl, ap, subst, ◌∙◌}
use Rattle.std.specs.Prelude.{nat_le, if◌then◌else◌}
use Rattle.rx_core.specs.declared.types.Span.{Span}
use Rattle.rx_tree.specs.Plain.{ProgramTree}
use Rattle.rx_typed.specs.Types.{Declarations, rt_declared, struct_declared, enum_declared, function_declared}
use Rattle.rx_typed.specs.PlainTypes.{declarations}
use Rattle.rx_typed.specs.Tree.{Function}
use Rattle.rx_typed_declarations.proofs.Polarities.{same_declared}
use Rattle.rx_typeck_typed.specs.declared.typed.Typed.{Typed}
use Rattle.rx_typeck_typed.specs.declared.typed.TypedFn.{TypedFn}
use Rattle.rx_lower.specs.Functions.{function_at}
use Rattle.rx_facts.specs.Functions.{body}
use Rattle.rx_facts.specs.Passing.{Each}
use Rattle.rx_facts.specs.Same.{SameFunction, AreSame}
use Rattle.rx_meaning.specs.Programs.{Program, main_in}
use Rattle.rx_machine.specs.Functions.{typed_functions}
use Rattle.rx_engine_extracted.specs.Told.{Told}
use Rattle.rx_engine_extracted.specs.Programs.{extracts}
use Rattle.rx_engine_extraction.specs.Source.{Text}
use Rattle.rx_engine_extraction.specs.Case.{Case}
use Rattle.rx_engine_extraction.specs.Confirmed.{is_of_unit, units_among, whole_of, told_by, is_extracted, is_found}

-- ---- typed programs

same_functions : (D : Declarations) (ts us : List TypedFn) → Each SameFunction ts us → typed_functions D ts ≡ typed_functions D us
same_functions [] ts us h = refl
same_functions (function_declared ps r ∷ D) [] [] h = ap (λ l. None ∷ l) (same_functions D [] [] h)
same_functions (function_declared ps r ∷ D) [] (u ∷ us) h = absurd h
same_functions (function_declared ps r ∷ D) (t ∷ ts) [] h = absurd h
same_functions (function_declared ps r ∷ D) (t ∷ ts) (u ∷ us) h = ap (λ x. Some x ∷ typed_functions D ts) h.0.bodies ∙ ap (λ l. Some (body u) ∷ l) (same_functions D ts us h.1)
same_functions (rt_declared ∷ D) ts us h = ap (λ l. None ∷ l) (same_functions D ts us h)
same_functions (struct_declared c l fs ∷ D) ts us h = ap (λ l. None ∷ l) (same_functions D ts us h)
same_functions (enum_declared c l vs ∷ D) ts us h = ap (λ l. None ∷ l) (same_functions D ts us h)

pub whole_alike : (p : ProgramTree) (t u : Typed) → declarations t.decls.items ≡ declarations u.decls.items → Each SameFunction t.functions u.functions → whole_of p t ≡ whole_of p u
whole_alike p t u d e =
    ap (λ F. record { functions = F; main = main_in p 0 })
    (same_functions (declarations t.decls.items) t.functions u.functions e ∙ ap (λ D. typed_functions D u.functions) d)

pub units_alike : (D : Declarations) (ts us : List TypedFn) → Each SameFunction ts us → units_among D ts ≡ units_among D us
units_alike D [] [] h = refl
units_alike D [] (u ∷ us) h = absurd h
units_alike D (t ∷ ts) [] h = absurd h
units_alike D (t ∷ ts) (u ∷ us) h = let r = units_alike D ts us h.1 in
    λ i. if is_of_unit D (h.0.item i) then h.0.item i ∷ r i else r i

-- ---- the function of an item

abbrev SameIf : Option TypedFn → Option TypedFn → Type 0
SameIf None None = Unit {0}
SameIf (Some f) (Some g) = SameFunction f g
SameIf _ _ = ⊥

same_at : (ts us : List TypedFn) → Each SameFunction ts us → (n : ℕ) → SameIf (function_at ts n) (function_at us n)
same_at [] [] h n = tt
same_at [] (u ∷ us) h n = absurd h
same_at (t ∷ ts) [] h n = absurd h
same_at (t ∷ ts) (u ∷ us) h n = subst (λ (k : ℕ). SameIf (if t.item == n then Some t else function_at ts n) (if k == n then Some u else function_at us n)) h.0.item (by (t.item == n) (same_at ts us h.1 n))
  where
    by : (b : Bool) → SameIf (function_at ts n) (function_at us n) → SameIf (if b then Some t else function_at ts n) (if b then Some u else function_at us n)
    by true r = h.0
    by false r = r

-- ---- what is found

module _ (T : Text) (d : Case) (n made : ℕ) where
  -- with a function of these variables and this tree
  abbrev told_of_tree : Bool → List Span → Function → Told
  told_of_tree unit names g = record (told_by T d n made unit d.function) { new = record { number = n; function = g }; beyond = length names }

  abbrev found_of_tree : Bool → Program → List Span → Function → Bool
  found_of_tree unit Q names g = nat_le (length names) 4294967295 && extracts (told_of_tree unit names g) d.run.function (whole_of T.program T.types) Q

  extracted_by : (unit : Bool) (Q : Program) (o p : Option TypedFn) → SameIf o p → is_extracted T d n made unit Q o ≡ is_extracted T d n made unit Q p
  extracted_by unit Q None None h = refl
  extracted_by unit Q None (Some g) h = absurd h
  extracted_by unit Q (Some f) None h = absurd h
  extracted_by unit Q (Some f) (Some g) h = λ i. found_of_tree unit Q (h.names i) (h.bodies i)

  pub found_alike : (q : ProgramTree) (t u : Typed) → AreSame t u → is_found T d n made q t ≡ is_found T d n made q u
  found_alike q t u h =
      ap (λ (Q : Program). is_extracted T d n made (is_of_unit (declarations t.decls.items) n) Q (function_at t.functions n)) (whole_alike q t u (same_declared t.decls.items u.decls.items h.items) h.functions)
      ∙ ap (λ (D : Declarations). is_extracted T d n made (is_of_unit D n) (whole_of q u) (function_at t.functions n)) (same_declared t.decls.items u.decls.items h.items)
      ∙ extracted_by (is_of_unit (declarations u.decls.items) n) (whole_of q u) (function_at t.functions n) (function_at u.functions n) (same_at t.functions u.functions h.functions n)
