-- What an item declares, by its text (Rust Reference, "Structs", "Enumerations", "Functions").
use Rattle.std.specs.Prelude.{◌≡◌, List, [], ◌∷◌, length, Option, Some, None}
use Rattle.rx_tree.specs.Plain as plain
use Rattle.rx_tree.specs.Plain.{TypeTree, FieldOf, VariantOf, Parameter, Function, ItemTree, ProgramTree}
use Rattle.rx_resolve_names.specs.Meant.{number}
use Rattle.rx_typed.specs.Types.{Typ, unit_shape, FieldDeclared, VariantDeclared, Declared, rt_declared, struct_declared, enum_declared, function_declared}
use Rattle.rx_typeck_typed.specs.Items.{derives_copy}
use Rattle.rx_engine_declared.specs.Denoting.{Denotes, DenoteEach}

abbrev pub AreFields : ProgramTree → List FieldOf → List FieldDeclared → Type 0
AreFields P [] ds = ds ≡ []
AreFields P (f ∷ fs) ds = (t : Typ) × (rest : List FieldDeclared) × (ds ≡ record { name = f.name.name; typ = t } ∷ rest) × Denotes P f.typ t × AreFields P fs rest

abbrev pub AreVariants : ProgramTree → List VariantOf → List VariantDeclared → Type 0
AreVariants P [] ds = ds ≡ []
AreVariants P (v ∷ vs) ds = (ts : List Typ) × (rest : List VariantDeclared) × (ds ≡ record { name = v.name.name; parts = ts } ∷ rest) × DenoteEach P v.types ts × AreVariants P vs rest

abbrev pub AreParameters : ProgramTree → List Parameter → List Typ → Type 0
AreParameters P [] ts = ts ≡ []
AreParameters P (x ∷ xs) ts = (u : Typ) × (us : List Typ) × (ts ≡ u ∷ us) × Denotes P x.typ u × AreParameters P xs us

-- a result that is not written is the unit
abbrev pub IsResult : ProgramTree → Option TypeTree → Typ → Type 0
IsResult P None t = t ≡ unit_shape
IsResult P (Some y) t = Denotes P y t

abbrev pub DeclaresAs : ProgramTree → ItemTree → Declared → Type 0
DeclaresAs P (plain.rt_item s r) d = d ≡ rt_declared
DeclaresAs P (plain.struct_item s x) d = (fs : List FieldDeclared) × (d ≡ struct_declared (derives_copy x.derives) (number (length x.lifetimes)) fs) × AreFields P x.fields fs
DeclaresAs P (plain.enum_item s x) d = (vs : List VariantDeclared) × (d ≡ enum_declared (derives_copy x.derives) (number (length x.lifetimes)) vs) × AreVariants P x.variants vs
DeclaresAs P (plain.function_item s f) d = (ts : List Typ) × (t : Typ) × (d ≡ function_declared ts t) × AreParameters P f.params ts × IsResult P f.result t

-- functions that differ in name, lifetimes or body alone declare the same
pub record SameSignature (f g : Function) : Type 0 where
  pub params : g.params ≡ f.params
  pub result : g.result ≡ f.result
