-- A function with a short signature declares the types of before under other numbers of its lifetimes.
use Rattle.std.proofs.Common.{◌≡◌, ℕ, ◌<◌, ◌^◌, Bool, true, List, [], ◌∷◌, length, map, Option, Some, None, Ok, refl, sym, ap, subst, ◌∙◌, arith}
use Rattle.std.proofs.lemmas.List.{length-map}
use Rattle.rx_core.specs.declared.types.Bound.{Bound}
use Rattle.rx_core.specs.declared.types.Span.{Span}
use Rattle.rx_core.specs.declared.types.Ty.{Ty}
use Rattle.rx_tree.specs.Plain as plain
use Rattle.rx_tree.specs.Plain.{TypeTree, Function, ProgramTree}
use Rattle.rx_resolve_names.specs.declared.resolved.ItemNames.{ItemNames}
use Rattle.rx_resolve_names.specs.Meant.{number}
use Rattle.rx_resolve_names.specs.Items.{in_item}
use Rattle.rx_typed.specs.declared.declarations.Decl.{Decl}
use Rattle.rx_typed.specs.declared.declarations.Decl.TheVariants as decl
use Rattle.rx_typed.specs.Regions.{regions_of, region-Ty, lifetimes_among}
use Rattle.rx_typed.specs.Renaming.{renamed, all_renamed}
use Rattle.rx_typeck_typed.specs.Bindings.{lifetimes}
use Rattle.rx_typeck_typed.specs.Steps.{Outcome}
use Rattle.rx_typeck_typed.specs.Items.{bounded, bounds_of, the_only, answer_of, declared_function}
use Rattle.rx_compact_lifetimes.specs.Merged.{merged, mergings_of, IsPreorder}
use Rattle.rx_compact_lifetimes.specs.Elided.{elided, elisions, in_body}
use Rattle.rx_compact_laws.specs.Resolved.{declared, inside}
use Rattle.rx_compact_laws.proofs.Declaring.{listed}
use Rattle.rx_compact_types.specs.Positions.{as_parameter, number_of, numbers, ends, parameter_positions, positions}
use Rattle.rx_compact_types.proofs.Renamed.{Related, RenamedFunction}
use Rattle.rx_compact_types.proofs.Roles.{reading}
use Rattle.rx_compact_types.proofs.Signature.{SignatureTold, signature_told}
use Rattle.rx_compact_types.proofs.Turning.{SameDeclared, turn, parameters_turned}
use Rattle.rx_compact_types.proofs.Filling.{renamed_twice, all_renamed_twice}
use Rattle.rx_compact_types.proofs.Declared.{read_ok, TypesUnder, ResultFits, types_under, news_are}
use Rattle.rx_compact_types.proofs.MergedNumbers.{merged_number, first_left_out, parameters_fit, answer_fits, none_left_out}
use Rattle.rx_compact_types.proofs.BoundsUnder.{bounds_twice, merged_bounds, elided_bounds}
use Rattle.rx_compact_types.proofs.Fewer.{few_merged, few_elided}
use Rattle.rx_compact_types.proofs.MergedEqual.{one_number_known}
use Rattle.rx_compact_types.proofs.Places.{small}
use Rattle.rx_compact_types.proofs.ByName.{ByName, number_by_name}
use Rattle.rx_compact_types.proofs.MergedApart.{ends_turned, merged_within, merged_fewer}
use Rattle.rx_compact_types.proofs.ElidedApart.{number_within, numbers_apart}
use Rattle.rx_compact_types.proofs.ElidedFewer.{no_more_numbers}
use Rattle.rx_compact_types.proofs.ElidedNumbers.{elided_number, elided_parameters_fit, elided_answer_fits, elided_none_left_out, goes_once, only_goes}

-- ---- what is declared

-- a function that declares something declares the types that its parameters read
declared_params : (p : ProgramTree) (n : ℕ) (s : Span) (f : Function) (a : ItemNames) (S : SignatureTold p n s f a.names) (d : Decl) → declared_function p a.names f ≡ Ok d
    → (k : ℕ) × (t : Ty) × (bs : List Bound) × (d ≡ decl.Func k S.params t bs)
declared_params p n s f a S d e =
    let k : ℕ = number (length f.lifetimes) in
    let xs = parameter_positions p f.params in
    let m = ends as_parameter k xs in
    let r = read_ok (answer_of p f.result (reading S.left (numbers as_parameter (declared s f) k xs) m)) (λ a. Ok (decl.Func m S.params a.0 (bounds_of (bounded 0 f.lifetimes) S.bound_at))) d (sym S.declares ∙ e) in
    (m, r.0.0, bounds_of (bounded 0 f.lifetimes) S.bound_at, sym (ok_is (decl.Func m S.params r.0.0 (bounds_of (bounded 0 f.lifetimes) S.bound_at)) d r.2))
  where
    ok_is : (a b : Decl) → ◌≡◌ {A = Outcome Decl} (Ok a) (Ok b) → a ≡ b
    ok_is a b e = cc

same_params : (a b : Decl) (m : ℕ) (ps : List Ty) (t : Ty) (bs : List Bound) (k : ℕ) (qs : List Ty) (u : Ty) (cs : List Bound) → a ≡ decl.Func m ps t bs → a ≡ decl.Func k qs u cs → (ps ≡ qs) × (t ≡ u)
same_params a b m ps t bs k qs u cs e g = let h : decl.Func m ps t bs ≡ decl.Func k qs u cs = sym e ∙ g in ((let q : ps ≡ qs = cc in q), (let q : t ≡ u = cc in q))

one_is : (ns : List ℕ) (a l : ℕ) → ns ≡ a ∷ [] → the_only ns ≡ Some l → a ≡ l
one_is ns a l e h = let g : ◌≡◌ {A = Option ℕ} (Some a) (Some l) = sym (ap the_only e) ∙ h in cc

one_some : (ns : List ℕ) (a : ℕ) → ns ≡ a ∷ [] → the_only ns ≡ None → ⊥
one_some ns a e h = let g : ◌≡◌ {A = Option ℕ} (Some a) None = sym (ap the_only e) ∙ h in cc

-- the parameters have one lifetime, where `single` says so
abbrev pub OneIf : Bool → Decl → Type 0
OneIf single d = single ≡ true → (k : ℕ) (ps : List Ty) (t : Ty) (bs : List Bound) → d ≡ decl.Func k ps t bs → length (lifetimes_among (regions_of (map region-Ty ps))) ≡ 1

pub function_under : (o : ℕ → ℕ → Bool) → IsPreorder o → (single : Bool) (p q : ProgramTree) → SameDeclared p q → SameDeclared q q → (n : ℕ) (s : Span) (f : Function) → length f.lifetimes < 2 ^ 32 → (a t b : ItemNames)
    → in_item p n (plain.function_item s f) ≡ Ok a → in_item q n (plain.function_item s (merged o f)) ≡ Ok t → in_item q n (plain.function_item s (elided single (merged o f))) ≡ Ok b
    → (d : Decl) → declared_function p a.names f ≡ Ok d → OneIf single d
    → (e : Decl) × (declared_function q b.names (elided single (merged o f)) ≡ Ok e) × ((F : ℕ → ℕ) × RenamedFunction (Related o) F d e × ByName o single s f F d)
function_under o order single p q same own n s f few a t b ea et eb d e one =
    let h : Function = merged o f in
    let g : Function = elided single h in
    let S = signature_told p n s f a ea in
    let T = signature_told q n s h t et in
    let U = signature_told q n s g b eb in
    let FA : ℕ → ℕ = merged_number o s f few in
    let xs = parameter_positions p f.params in
    let n0 : ℕ = number (length f.lifetimes) in
    let m0 : ℕ = number (length h.lifetimes) in
    let fits = parameters_fit o s f few n0 m0 xs S.meant (omega arith) (first_left_out o s f few) in
    let kk = ends as_parameter n0 xs in
    let jj = ends as_parameter m0 (parameter_positions q h.params) in
    let answers : (y : TypeTree) → f.result ≡ Some y → ResultFits (mergings_of o f) FA p q same n s f h a.names t.names S T refl refl y = λ y w. record {
      one = λ l z. answer_fits o s f few l kk jj (positions p y) (S.result y w).told.meant;
      none = λ z none x. none_left_out o s f few x kk jj (positions p y) (S.result y w).told.meant none;
    } in
    let A : TypesUnder kk jj FA d (bounds_of (bounded 0 f.lifetimes) S.bound_at) h T.bound_at (declared_function q t.names h) = types_under (mergings_of o f) FA p q same n s f h a.names t.names S T refl refl fits answers d e in
    let mid : Decl = decl.Func A.new_count A.new_params A.new_answer (bounds_of (bounded 0 h.lifetimes) T.bound_at) in
    let few' = few_merged o f few in
    let ys = parameter_positions q h.params in
    let olds = numbers as_parameter (declared s f) n0 xs in
    let news = numbers as_parameter (declared s h) m0 ys in
    let many : news ≡ map FA olds = news_are (mergings_of o f) FA p q same n s f h a.names t.names S T refl refl fits answers in
    let D = declared_params p n s f a S d e in
    let single_one : single ≡ true → length news ≡ 1 = λ z. ap length many ∙ (length-map olds FA ∙ (ap length (sym S.params_are.0) ∙ one z D.0 S.params D.1 D.2 D.3)) in
    let FB : ℕ → ℕ = elided_number single s h few' ys in
    let fits' = elided_parameters_fit single s h few' ys T.meant (λ x z. (let c = goes_once single s h few' q x z in omega (arith, c))) in
    let ll = ends as_parameter (number (length g.lifetimes)) (parameter_positions q g.params) in
    let answers' : (y : TypeTree) → h.result ≡ Some y → ResultFits (elisions single (in_body h.body) h) FB q q own n s h g t.names b.names T U refl refl y = λ y w. record {
      one = λ l z. elided_answer_fits single s h few' ys T.meant l jj ll (positions q y) (T.result y w).told.meant
          (λ x c v. one_is news (number_of (declared s h) x) l (only_goes single s h few' q single_one y w x c v) z);
      none = λ z none x. elided_none_left_out single s h few' ys T.meant x jj ll (positions q y) (T.result y w).told.meant none
          (λ x c v. one_some news (number_of (declared s h) x) (only_goes single s h few' q single_one y w x c v) z);
    } in
    let B : TypesUnder jj ll FB mid (bounds_of (bounded 0 h.lifetimes) T.bound_at) g U.bound_at (declared_function q b.names g) =
    types_under (elisions single (in_body h.body) h) FB q q own n s h g t.names b.names T U refl refl fits' answers' mid A.declares in
    let once = (listed (inside p n s f) f.lifetimes [] 0 S.bound_at S.listed).once in
    let once' = (listed (inside q n s h) h.lifetimes [] 0 T.bound_at T.listed).once in
    let fewer = few_elided single h few' in
    let first : jj ≡ ends as_parameter m0 (map (turn (mergings_of o f)) xs) = ap (ends as_parameter m0) (parameters_turned (mergings_of o f) p q same f.params) in
    let last : B.new_count ≡ ends as_parameter (number (length g.lifetimes)) (map (turn (elisions single (in_body h.body) h)) ys) =
    B.new_count_is ∙ ap (ends as_parameter (number (length g.lifetimes))) (parameters_turned (elisions single (in_body h.body) h) q q own h.params) in
    let middle : (l : ℕ) → l < A.count → FA l < jj = λ l w. subst (λ m. FA l < m) (sym first) (merged_within o order s f few once xs l (subst (λ m. l < m) A.count_is w)) in
    let c = same_params mid mid A.new_count A.new_params A.new_answer (bounds_of (bounded 0 h.lifetimes) T.bound_at) B.count B.params B.answer (bounds_of (bounded 0 h.lifetimes) T.bound_at) refl B.is in (
      decl.Func B.new_count B.new_params B.new_answer (bounds_of (bounded 0 g.lifetimes) U.bound_at),
      B.declares,
      (
        λ l. FB (FA l),
        record {
          count = A.count;
          params = A.params;
          answer = A.answer;
          bounds = bounds_of (bounded 0 f.lifetimes) S.bound_at;
          was = A.is;
          new_count = B.new_count;
          new_params = B.new_params;
          new_answer = B.new_answer;
          new_bounds = bounds_of (bounded 0 g.lifetimes) U.bound_at;
          is = refl;
          params_are = B.params_are ∙ (ap (λ ps. all_renamed FB (regions_of (map region-Ty ps))) (sym c.0) ∙ (ap (all_renamed FB) A.params_are ∙ all_renamed_twice FA FB (regions_of (map region-Ty A.params))));
          bounds_are = bounds_twice FA FB (bounds_of (bounded 0 f.lifetimes) S.bound_at) (bounds_of (bounded 0 h.lifetimes) T.bound_at) (bounds_of (bounded 0 g.lifetimes) U.bound_at)
              (merged_bounds p q n s o f few few' S.bound_at T.bound_at S.listed T.listed) (elided_bounds q q n s single h few' (few_elided single h few') ys T.meant T.bound_at U.bound_at T.listed U.listed);
          answer_is = B.answer_is ∙ (ap (λ z. renamed FB (region-Ty z)) (sym c.1) ∙ (ap (renamed FB) A.answer_is ∙ renamed_twice FA FB (region-Ty A.answer)));
          within = λ l w. subst (λ m. FB (FA l) < m) (sym last) (number_within single s h few' q once' fewer T.meant (FA l) (middle l w));
          known = λ l k w v x. one_number_known o order s f few few' once p q n l k (numbers_apart single s h few' q once' fewer T.meant (FA l) (FA k) (middle l w) (middle k v) x);
          fewer = (let a = no_more_numbers single s h few' q fewer T.meant in let b = merged_fewer o order s f few once xs in let z = A.count_is in omega (arith, a, b, z, first, last));
        },
        record {
          many = (let a = ap (λ x. lifetimes (Some x)) A.is in let b = A.count_is in let c = (ends_turned o f n0 0 xs).0 in let z = small (length f.lifetimes) few in omega (arith, a, b, c, z));
          same = λ x y l k u v w. number_by_name o single s f few q T.meant x y l k u v w;
        },
      ),
    )
