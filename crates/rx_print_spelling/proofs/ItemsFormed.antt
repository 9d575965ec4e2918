-- The programs that the tokens of a text are derived as are formed: by induction on derivations.
use Rattle.std.proofs.Common.{ℕ, List, [], ◌∷◌, ◌++◌, Option, subst}
use Rattle.rx_tree.specs.declared.tree.Ident.{Ident}
use Rattle.rx_tree.specs.declared.tree.BoundLifetime.{BoundLifetime}
use Rattle.rx_tree.specs.Plain.{TypeTree, Parameter, FieldOf, VariantOf, ItemTree, ProgramTree}
use Rattle.rx_tree.specs.Lists.{Every}
use Rattle.rx_lex.specs.Tok.{Tok}
use Rattle.rx_lex.specs.Tokens.{Lexes, AreWords}
use Rattle.rx_lex.proofs.OfItsClass.{identifier_is}
use Rattle.rx_lex.proofs.TokenLaws.{tokens_are_words}
use Rattle.rx_parse_grammar.specs.grammar.Items as g
use Rattle.rx_parse_grammar.specs.grammar.Items.{IsLifetimeParameter, AreLifetimes, AreBounds, IsBoundLifetime, AreBoundLifetimes, IsStructField, IsVariant, IsParameter, IsResult, IsItem, IsFile}
use Rattle.rx_print_spelling.specs.Formed.{Lasting, WrittenType, FormedBound, FormedField, FormedVariant, FormedParameter, FormedItem, FormedProgram}
use Rattle.rx_print_spelling.proofs.TextsFormed.{words_left, words_right, lasting, every, type_formed, types_formed}
use Rattle.rx_print_spelling.proofs.ExpressionsFormed.{block_formed}

parameter_lifetime : (ts : List Tok) (l : Ident) (h : ℕ) → IsLifetimeParameter ts l h → AreWords ts → Lasting l
parameter_lifetime ts l h (g.lifetime_parameter t i) k = lasting t i k.0

lifetimes_formed : {ts : List Tok} {ls : List Ident} → AreLifetimes ts ls → AreWords ts → Every Lasting ls
lifetimes_formed g.no_lifetime k = tt
lifetimes_formed (g.lifetimes o c us l ls i a d is) k = every IsLifetimeParameter Lasting parameter_lifetime d (words_left us (c ∷ []) (subst AreWords is k).1)

bounds_formed : {ts : List Tok} {ls : List Ident} → AreBounds ts ls → AreWords ts → Every Lasting ls
bounds_formed (g.last_bound t i) k = (lasting t i k.0, tt)
bounds_formed (g.bound_and t p us ls i a d) k = (lasting t i k.0, bounds_formed d k.1.1)

bound_formed : (ts : List Tok) (l : BoundLifetime) (h : ℕ) → IsBoundLifetime ts l h → AreWords ts → FormedBound l
bound_formed ts l h (g.unbounded t i) k = (lasting t i k.0, tt)
bound_formed ts l h (g.bounded t c us ls i a d) k = (lasting t i k.0, bounds_formed d k.1.1)

bound_lifetimes_formed : {ts : List Tok} {ls : List BoundLifetime} → AreBoundLifetimes ts ls → AreWords ts → Every FormedBound ls
bound_lifetimes_formed g.no_bound_lifetime k = tt
bound_lifetimes_formed (g.bound_lifetimes o c us l ls i a d is) k = every IsBoundLifetime FormedBound bound_formed d (words_left us (c ∷ []) (subst AreWords is k).1)

field_formed : (ts : List Tok) (f : FieldOf) (h : ℕ) → IsStructField ts f h → AreWords ts → FormedField f
field_formed ts f h (g.struct_field n c us y i a b d is) k = let j = subst AreWords is k in (identifier_is j.0 a, type_formed d j.1.1)

variant_formed : (ts : List Tok) (v : VariantOf) (h : ℕ) → IsVariant ts v h → AreWords ts → FormedVariant v
variant_formed ts v h (g.variant n i) k = (identifier_is k.0 i, tt)
variant_formed ts v h (g.variant_with n o c us y ys m i a b d is) k = let j = subst AreWords is k in (identifier_is j.0 i, types_formed d (words_left us (c ∷ []) j.1.1))

parameter_formed : (ts : List Tok) (x : Parameter) (h : ℕ) → IsParameter ts x h → AreWords ts → FormedParameter x
parameter_formed ts x h (g.parameter ms us n c m y i a b e d is) k =
    let j = words_right ms (n ∷ c ∷ us) (subst AreWords is k) in (identifier_is j.0 b, type_formed d j.1.1)

result_formed : {ts : List Tok} {r : Option TypeTree} {h : ℕ} → IsResult ts r h → AreWords ts → WrittenType r
result_formed g.no_result k = tt
result_formed (g.result a us y h i d is) k = type_formed d (subst AreWords is k).1

item_formed : {ts : List Tok} {i : ItemTree} {h : ℕ} → IsItem ts i h → AreWords ts → FormedItem i
item_formed (g.rt m r z i a b is) k = tt
item_formed (g.structure t n o c ds ls us xs l fs h i a b e dd dl d is) k =
    let j = words_right ds (t ∷ n ∷ (ls ++ (o ∷ (us ++ c ∷ [])))) (subst AreWords is k) in (
      identifier_is j.1.0 a,
      lifetimes_formed dl (words_left ls (o ∷ (us ++ c ∷ [])) j.1.1),
      every IsStructField FormedField field_formed d (words_left us (c ∷ []) (words_right ls (o ∷ (us ++ c ∷ [])) j.1.1).1),
    )
item_formed (g.enumeration t n o c ds ls us xs l v vs h i a b e dd dl d is) k =
    let j = words_right ds (t ∷ n ∷ (ls ++ (o ∷ (us ++ c ∷ [])))) (subst AreWords is k) in (
      identifier_is j.1.0 a,
      lifetimes_formed dl (words_left ls (o ∷ (us ++ c ∷ [])) j.1.1),
      tt,
      every IsVariant FormedVariant variant_formed d (words_left us (c ∷ []) (words_right ls (o ∷ (us ++ c ∷ [])) j.1.1).1),
    )
item_formed (g.function f n o c ls us rs bs l ps r b h m q i a e x dl dp dr db is) k =
    let j = subst AreWords is k in
    let v = (words_right ls (o ∷ (us ++ (c ∷ (rs ++ bs)))) j.1.1).1 in
    let y = (words_right us (c ∷ (rs ++ bs)) v).1 in (
      identifier_is j.1.0 a,
      bound_lifetimes_formed dl (words_left ls (o ∷ (us ++ (c ∷ (rs ++ bs)))) j.1.1),
      every IsParameter FormedParameter parameter_formed dp (words_left us (c ∷ (rs ++ bs)) v),
      result_formed dr (words_left rs bs y),
      block_formed db (words_right rs bs y),
    )

file_formed : {ts : List Tok} {p : ProgramTree} {h : ℕ} → IsFile ts p h → AreWords ts → FormedProgram p
file_formed g.no_item k = tt
file_formed (g.item_and us vs a is' m n d e is) k = let j = subst AreWords is k in (item_formed d (words_left us vs j), file_formed e (words_right us vs j))

pub text_formed : (bytes : List ℕ) (ts : List Tok) (p : ProgramTree) (h : ℕ) → Lexes bytes ts → IsFile ts p h → FormedProgram p
text_formed bytes ts p h l d = file_formed d (tokens_are_words 0 bytes ts l.tokens)
