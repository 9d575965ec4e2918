-- Expressions that the new function has for jumps and returns resolve there, beside nothing in the text: variables that are handed out,
-- the variant of an exit, `return` of it.
use Rattle.std.proofs.Common.{◌≡◌, ℕ, Bool, true, false, List, [], ◌∷◌, map, Option, Some, Ok, refl, sym, ap, ◌∙◌, subst, append-nil}
use Rattle.rx_tree.specs.Lists.{Every}
use Rattle.rx_tree.specs.Plain as plain
use Rattle.rx_tree.specs.Plain.{Expression, Expressions, OptionalExpressions}
use Rattle.rx_resolve_names.specs.Scopes.{Variables, variable_named}
use Rattle.rx_resolve_names.specs.declared.resolved.ItemNames.{ItemNames}
use Rattle.rx_resolve_names.specs.declared.resolved.NodeNames.{NodeNames}
use Rattle.rx_resolve_names.specs.Meant.{Around}
use Rattle.rx_resolve_names.specs.Steps.{Outcome, Inside, known, one, child, next, entry, with_names, names}
use Rattle.rx_resolve_names.specs.Names.{variant_in, in_expression, in_expressions, in_arguments}
use Rattle.rx_typed.specs.declared.nodes.Node.{Node}
use Rattle.rx_typed.specs.declared.nodes.Site.{Site}
use Rattle.rx_typed.specs.Named as named
use Rattle.rx_typed.specs.Named.{Exp, Exps}
use Rattle.rx_typed.specs.Naming as numbering
use Rattle.rx_typed.specs.Naming.{give, an_entry, first, second, use_of, declaration, of_expression, of_expressions, of_arguments}
use Rattle.rx_hoist_extraction.specs.Names.{Names}
use Rattle.rx_hoist_extraction.specs.Plan.{Exit, outs_of, names_of, enum_name, exit_name}
use Rattle.rx_hoist_extraction.specs.Made.{ident, as_expressions, given}
use Rattle.rx_hoist_extraction.specs.Moved.{leaving}
use Rattle.rx_engine_names.specs.Renaming.{Renaming, Has, Made}
use Rattle.rx_engine_names.specs.Moves.{Moves, IsOut, is_out, AreOuts, no_outs, more_outs, IsVariant, is_variant, Leaves, leaves_by, NoExp, no_operand}
use Rattle.rx_engine_names.proofs.SideBySide.{then_ok, Frame, Reached, Grows, grows_not, Kind, Numbers, numbers_give, Part, in_turn, restated, unchanged}
use Rattle.rx_engine_names.proofs.OneSided.{second_node, second_map, second_first, second_entry}

-- ---- what is made, beside nothing

abbrev pub MadeExp : (Renaming → Exp → Type 0) → ItemNames → ItemNames → Expression → ItemNames → Kind
MadeExp P t u e t' R u' es es' = (m' : Bool) (k' : Site) → Numbers (λ (z : Unit {0}) b. P R b) t u t' u' es es' (give tt) (of_expression m' k' e)

abbrev pub MadeExps : (Renaming → Exps → Type 0) → ItemNames → ItemNames → Expressions → ItemNames → Kind
MadeExps P t u e t' R u' es es' = (k' : Site) → Numbers (λ (z : Unit {0}) b. P R b) t u t' u' es es' (give tt) (of_expressions k' e)

abbrev pub MadeArguments : (Renaming → Exps → Type 0) → ItemNames → ItemNames → OptionalExpressions → ItemNames → Kind
MadeArguments P t u e t' R u' es es' = Numbers (λ (z : Unit {0}) b. P R b) t u t' u' es es' (give tt) (of_arguments e)

-- an entry alone
abbrev pub EntryAlone : ItemNames → ItemNames → List ℕ → ItemNames → Kind
EntryAlone t u ns t' R u' es es' = Numbers (λ (z : Unit {0}) a. a ≡ (ns, false)) t u t' u' es es' (give tt) an_entry

unfoldable pub entry_alone : (L : Frame) (M : Made) (I' : Inside) (at' : List ℕ) (t u : ItemNames) (n : ℕ) (ns : List ℕ) (r : Outcome (List ℕ)) → r ≡ Ok (n ∷ ns) → Reached L M t u
    → Part L M t t u (λ G v. names I' at' r u ≡ Ok v) (EntryAlone t u (n ∷ ns) t)
entry_alone L M I' at' t u n ns r e q = let z = entry I' at' (n ∷ ns) in record {
  made = M;
  grows = grows_not M;
  table = with_names z u;
  answer = ap (λ (o : Outcome (List ℕ)). names I' at' o u) e;
  reached = record { vars = q.vars; loops = q.loops; passages = q.passages };
  added = [];
  added' = z ∷ [];
  grown = sym (append-nil t.names);
  grown' = refl;
  numbers = λ R sv. second_entry z;
}

module _ (L : Frame) (V : Moves) (I' : Inside) (sc' : Variables) (ls' : List Around) where
  -- ---- variables

  -- what an out means in both
  abbrev pub Meant : Made → List ℕ → Type 0
  Meant M x = (n : ℕ) × (m : ℕ) × (variable_named V.scope x ≡ Some n) × (variable_named sc' x ≡ Some m) × Has M.variables n m

  out_numbers : (R : Renaming) (x : List ℕ) (j m : ℕ) (n : Node) → n.span ≡ V.place → variable_named V.scope x ≡ Some j → R.variable j m ≡ true → {t u t' u' : ItemNames} {es es' : List NodeNames} → Numbers (λ (z : Unit {0}) a. a ≡ (m ∷ [], false)) t u t' u' es es' (give tt) an_entry
      → Numbers (λ (z : Unit {0}) b. IsOut V R x b) t u t' u' es es' (give tt) (numbering.and_then an_entry (λ ns c. (named.var n (use_of (first ns.0) (declaration c (first ns.0))), c)))
  out_numbers R x j m n g s v N = record {
    holds = λ c c' rest rest' q e e'.
        let y = N.holds c c' rest rest' q e e' in
        record { like = is_out g s (ap (λ (a : List ℕ × Bool). R.variable j (first a.0)) y.like ∙ v); cursors = y.cursors; left = y.left; left' = y.left' };
  }

  made_out : (M : Made) (at' : List ℕ) (x : List ℕ) → Meant M x → (t u : ItemNames) → Reached L M t u
      → Part L M t t u (λ G v. in_expression I' sc' ls' at' (plain.var V.place x) u ≡ Ok v) (MadeExp (λ R b. IsOut V R x b) t u (plain.var V.place x) t)
  made_out M at' x h t u q =
      let A = entry_alone L M I' at' t u h.1 [] (one (known (variable_named sc' x) V.place)) (ap (λ (o : Option ℕ). one (known o V.place)) h.3) q in
      restated A (λ a. a) (λ R sv k m' k'. second_node V.place k' (λ n g. out_numbers R x h.0 h.1 n g h.2 (sv.variables h.0 h.1 (A.grows.variables h.0 h.1 h.4)) k))

  abbrev pub AllMeant : Made → Names → Type 0
  AllMeant M xs = Every (λ (x : List ℕ). Meant M x) xs

  meant_later : (M M' : Made) → ((n m : ℕ) → Has M.variables n m → Has M'.variables n m) → (xs : Names) → AllMeant M xs → AllMeant M' xs
  meant_later M M' g [] h = tt
  meant_later M M' g (x ∷ xs) h = ((h.0.0, h.0.1, h.0.2, h.0.3, g h.0.0 h.0.1 h.0.4), meant_later M M' g xs h.1)

  made_outs : (M : Made) (at' : List ℕ) (i' : ℕ) (xs : Names) → AllMeant M xs → (t u : ItemNames) → Reached L M t u
      → Part L M t t u (λ G v. in_expressions I' sc' ls' at' i' (as_expressions (map (plain.var V.place) xs)) u ≡ Ok v) (MadeExps (λ R b. AreOuts V R xs b) t u (as_expressions (map (plain.var V.place) xs)) t)
  made_outs M at' i' [] h t u q = unchanged L M t t u (λ G v. Ok u ≡ Ok v) (MadeExps (λ R b. AreOuts V R [] b) t u plain.no_expression) refl q refl (λ R k'. numbers_give tt named.no_exp no_outs)
  made_outs M at' i' (x ∷ xs) h t u q =
      let A = made_out M (child at' i') x h.0 t u q in
      let B = made_outs A.made at' (next i') xs (meant_later M A.made A.grows.variables xs h.1) t A.table A.reached in
      in_turn A B (λ y z. then_ok (in_expression I' sc' ls' (child at' i') (plain.var V.place x)) (in_expressions I' sc' ls' at' (next i') (as_expressions (map (plain.var V.place) xs))) u A.table B.table y z)
      (λ R sv k l k'. second_first (k false k') (λ e d. second_map (named.exp_and e) (l k') (λ z es h. more_outs d h)))

  made_arguments : (M : Made) (at' : List ℕ) (xs : Names) → AllMeant M xs → (t u : ItemNames) → Reached L M t u
      → Part L M t t u (λ G v. in_arguments I' sc' ls' at' (given (map (plain.var V.place) xs)) u ≡ Ok v) (MadeArguments (λ R b. AreOuts V R xs b) t u (given (map (plain.var V.place) xs)) t)
  made_arguments M at' [] h t u q = unchanged L M t t u (λ G v. Ok u ≡ Ok v) (MadeArguments (λ R b. AreOuts V R [] b) t u plain.no_list) refl q refl (λ R. numbers_give tt named.no_exp no_outs)
  made_arguments M at' (x ∷ xs) h t u q = restated (made_outs M at' 0 (x ∷ xs) h t u q) (λ a. a) (λ R sv k. k Site.Expects)

  -- ---- variants

  abbrev pub VariantIs : Exit → Type 0
  VariantIs x = variant_in I' (ident V.place (enum_name V.plan)) (ident V.place (exit_name x)) ≡ Ok (V.enum ∷ V.variant x ∷ [])

  abbrev pub variant_of : Exit → OptionalExpressions → Expression
  variant_of x es = plain.variant V.place (ident V.place (enum_name V.plan)) (ident V.place (exit_name x)) es

  abbrev pub variant_at : Node → List ℕ × Bool → Exps → Exp
  variant_at n a es = named.variant n (first a.0) (second a.0) es

  pub is_that : (x : Exit) (n : Node) (O : Exps → Type 0) (a : List ℕ × Bool) (es : Exps) → n.span ≡ V.place → a ≡ (V.enum ∷ V.variant x ∷ [], false) → O es → IsVariant V x O (variant_at n a es)
  is_that x n O a es g r o = subst (λ (z : List ℕ × Bool). IsVariant V x O (variant_at n z es)) (sym r) (is_variant g o)

  made_variant : (M : Made) (at' : List ℕ) (x : Exit) (O : Renaming → Exps → Type 0) (es : OptionalExpressions) (t u : ItemNames) → VariantIs x → Reached L M t u
      → ((G : Made) → Grows M G → (w : ItemNames) → Reached L G t w → Part L G t t w (λ G v. in_arguments I' sc' ls' at' es w ≡ Ok v) (MadeArguments O t w es t))
      → Part L M t t u (λ G v. in_expression I' sc' ls' at' (variant_of x es) u ≡ Ok v) (MadeExp (λ R b. IsVariant V x (O R) b) t u (variant_of x es) t)
  made_variant M at' x O es t u is q f =
      let A = entry_alone L M I' at' t u V.enum (V.variant x ∷ []) (variant_in I' (ident V.place (enum_name V.plan)) (ident V.place (exit_name x))) is q in
      let B = f A.made A.grows A.table A.reached in
      in_turn A B (λ y z. then_ok (names I' at' (variant_in I' (ident V.place (enum_name V.plan)) (ident V.place (exit_name x)))) (in_arguments I' sc' ls' at' es) u A.table B.table y z)
      (λ R sv k l m' k'. second_node V.place k' (λ n g. second_first k (λ a r. second_map (variant_at n a) l (λ z es o. is_that x n (O R) a es g r o))))

  -- without operands
  pub made_bare : (M : Made) (at' : List ℕ) (x : Exit) (t u : ItemNames) → VariantIs x → Reached L M t u
      → Part L M t t u (λ G v. in_expression I' sc' ls' at' (variant_of x plain.no_list) u ≡ Ok v) (MadeExp (λ R b. IsVariant V x NoExp b) t u (variant_of x plain.no_list) t)
  made_bare M at' x t u is q = made_variant M at' x (λ R b. NoExp b) plain.no_list t u is q
      (λ G g w s. unchanged L G t t w (λ G v. Ok w ≡ Ok v) (MadeArguments (λ R b. NoExp b) t w plain.no_list) refl s refl (λ R. numbers_give tt named.no_exp no_operand))

  -- a jump that leaves
  pub made_leaving : (M : Made) (at' : List ℕ) (x : Exit) (t u : ItemNames) → VariantIs x → AllMeant M (names_of (outs_of x V.plan.exits)) → Reached L M t u
      → Part L M t t u (λ G v. in_expression I' sc' ls' at' (leaving V.plan V.place x) u ≡ Ok v) (MadeExp (λ R b. Leaves V R x b) t u (leaving V.plan V.place x) t)
  made_leaving M at' x t u is h q =
      let xs = names_of (outs_of x V.plan.exits) in
      let A = made_variant M (child at' 0) x (λ R b. AreOuts V R xs b) (given (map (plain.var V.place) xs)) t u is q (λ G g w s. made_arguments G (child at' 0) xs (meant_later M G g.variables xs h) t w s) in
      restated A (λ a. a) (λ R sv k m' k'. second_node V.place k' (λ n g. second_map {S = λ (z : Unit {0}) o. Leaves V R x (named.return n o)} (named.return n) (second_map named.present (k false Site.Expects) (λ z e d. leaves_by g d)) (λ z o d. d)))
