-- Arms, as what the code finds stands for them; and parts of what is asked of them that have a function each.
use Rattle.std.specs.Prelude.{ℕ, Bool, ◌&&◌, List, Option, Some, None, map}
use Rattle.rx_typed.specs.Tree.{Exp, Body}
use Rattle.rx_typed.specs.PlainTree.{plain-Expr, plain-Subpattern, subpatterns_of}
use Rattle.rx_engine_simulation.specs.Sights.{Renaming}
use Rattle.rx_engine_simulation.specs.Jumps.{Jumping}
use Rattle.rx_engine_simulation.specs.Programs.{whole_jumps}
use Rattle.rx_engine_alike.specs.PlainJumping.{plain-Loops}
use Rattle.rx_engine_alike.specs.declared.jumping.LoopPair.{LoopPair}
use Rattle.rx_engine_extracted.specs.Told.{Told}
use Rattle.rx_engine_extracted.specs.Handing.{put_back, received, is_within}
use Rattle.rx_engine_extracted.specs.Arms as arms
use Rattle.rx_engine_extracted.specs.Arms.{is_put, is_renaming, jumps_last, jumps_behind}
use Rattle.rx_engine_extracted.specs.declared.arms.ArmOf.{ArmOf}
use Rattle.rx_engine_extracted.specs.declared.arms.Says.{Says}

abbrev pub plain-ArmOf : ArmOf → arms.Arm
plain-ArmOf a = record { parts = subpatterns_of (map plain-Subpattern a.parts.now); body = plain-Expr a.body.now }

-- the arm of this body, or what further arms have
abbrev pub says_of : Says → Exp → Option arms.Arm → Option arms.Arm
says_of (Says.Here ps) e o = Some (record { parts = subpatterns_of (map plain-Subpattern ps.now); body = e })
says_of Says.Other e o = o
says_of Says.Nothing e o = None

-- the jumps around a run, with these loops around it
abbrev pub jumps_around : List LoopPair → Jumping
jumps_around ls = record whole_jumps { loops = plain-Loops ls }

abbrev pub jumps_in_block : Told → Renaming → Renaming → List ℕ → List ℕ → Option ℕ → Bool → Body → Bool
jumps_in_block T R Rr xs os d again b = is_put (put_back T R Rr xs os b) (λ p. jumps_last d again p.rest && is_within R p.inside)

abbrev pub received_and_jumps : Told → Renaming → Renaming → List ℕ → List ℕ → Option ℕ → Bool → Exp → Bool
received_and_jumps T R Rs xs os d again e = is_renaming (received R Rs xs os) (λ Rr. jumps_behind T R Rr xs os d again e)
