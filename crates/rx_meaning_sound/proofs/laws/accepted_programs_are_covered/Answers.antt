use Rattle.std.proofs.Common.{◌≡◌, ℕ, List, sym, subst}
use Rattle.rx_typed.specs.Types.{Declarations}
use Rattle.rx_typed.specs.PlainTypes.{declarations}
use Rattle.rx_typed_declarations.specs.Held.{held_by_each}
use Rattle.rx_typed_declarations.specs.Sizes.{Sized, told}
use Rattle.rx_typed_declarations.proofs.Polarities.{same_declared}
use Rattle.rx_graph_cycles.specs.Reaches.{NoCycle}
use Rattle.rx_cover.proofs.FiniteLemmas.{finite}
use Rattle.rx_meaning_accepted.proofs.Bodies.{text_fits, text_means}
use Rattle.rx_meaning_accepted.proofs.Fields.{fields_apart}
use Rattle.rx_meaning_sound.specs.Plain.{ItemsPlain, FunctionsPlain}
use Rattle.rx_meaning_sound.proofs.Whole.{whole_program}
use Rattle.rx_meaning_sound.proofs.laws.accepted_programs_are_covered.Goals as goal

pub returns : goal.returns
returns c = λ p t few front free m.
    let names = front.names in let meant = front.meant in let typed = front.typed in
    let same = same_declared t.decls.items typed.declared typed.same in
    let sized = subst (λ (d : Declarations). Sized d (told typed.sizes)) (sym same) (c.sizes_are_sized.ensures p names typed.declared typed.sizes typed.declares typed.is_sizes) in
    whole_program p names t typed (text_fits p names typed.declared few meant typed.declares.items) c.numbers_stand_in_order.ensures.nodes
    (λ g a. (c.typed_functions_are_ready.ensures p names t few meant typed (told typed.sizes) sized g a).makes)
    (text_means p names typed.declared few meant typed.declares.items) (fields_apart p names typed.declared meant typed.declares.items)
    (subst (λ (d : Declarations). ItemsPlain d d) same free.declared) (subst (λ (d : Declarations). FunctionsPlain d t.functions) same free.functions)
    (finite (declarations typed.declared) (subst (λ (d : Declarations). NoCycle (held_by_each d)) same (c.typed_declarations_are_finite.ensures.finite p names t typed)))
    front.covered
    (λ g a. c.typed_functions_stand_fresh.ensures.stands p names t few meant typed g a)
    (λ g a. c.typed_functions_stand_fresh.ensures.begun p names t few meant typed g a)
    (λ g a. c.typed_functions_stand_fresh.ensures.answers p names t few meant typed g a)
    (λ f F e w n g ts d is. let x = c.typed_calls_fit.ensures p names t few meant typed m f F e w n g ts d is in (x.0, x.1))
