-- What is made of the parts that were seen is what was looked at.
use Rattle.std.proofs.Common.{◌≡◌, refl}
use Rattle.rx_typed.specs.Tree as tree
use Rattle.rx_typed.specs.Tree.{Exp, Operands, Scrutinee, Arms, Body}
use Rattle.rx_engine_alike.specs.Read.{as_read, as_borrow, as_share, as_build, as_unit, as_lazily, as_assign, as_update, as_call, as_input, as_print, as_block, as_choose, as_loop, as_jump, as_give, as_no_operand, as_operand, as_at_place, as_of_value, as_no_arm, as_arm, as_ends, as_runs, as_declares, as_lets}
use Rattle.rx_engine_alike_laws.proofs.Promised.{Promised, kept, nothing}

pub as_read_so : (e : Exp) → Promised (λ r. tree.read r.0 r.1 r.2 ≡ e) (as_read e)
as_read_so (tree.read m v p) = kept refl
as_read_so _ = nothing

pub as_borrow_so : (e : Exp) → Promised (λ r. tree.borrow r.0 r.1 r.2 ≡ e) (as_borrow e)
as_borrow_so (tree.borrow m b p) = kept refl
as_borrow_so _ = nothing

pub as_share_so : (e : Exp) → Promised (λ r. tree.share r.0 r.1 ≡ e) (as_share e)
as_share_so (tree.share m e) = kept refl
as_share_so _ = nothing

pub as_build_so : (e : Exp) → Promised (λ r. tree.build r.0 r.1 r.2 ≡ e) (as_build e)
as_build_so (tree.build m w es) = kept refl
as_build_so _ = nothing

pub as_unit_so : (e : Exp) → Promised (λ r. tree.unit r ≡ e) (as_unit e)
as_unit_so (tree.unit m) = kept refl
as_unit_so _ = nothing

pub as_lazily_so : (e : Exp) → Promised (λ r. tree.lazily r.0 r.1 r.2 r.3 ≡ e) (as_lazily e)
as_lazily_so (tree.lazily m b e f) = kept refl
as_lazily_so _ = nothing

pub as_assign_so : (e : Exp) → Promised (λ r. tree.assign r.0 r.1 r.2 ≡ e) (as_assign e)
as_assign_so (tree.assign m p e) = kept refl
as_assign_so _ = nothing

pub as_update_so : (e : Exp) → Promised (λ r. tree.update r.0 r.1 r.2 r.3 ≡ e) (as_update e)
as_update_so (tree.update m o p e) = kept refl
as_update_so _ = nothing

pub as_call_so : (e : Exp) → Promised (λ r. tree.call r.0 r.1 r.2 ≡ e) (as_call e)
as_call_so (tree.call m f es) = kept refl
as_call_so _ = nothing

pub as_input_so : (e : Exp) → Promised (λ r. tree.input r ≡ e) (as_input e)
as_input_so (tree.input m) = kept refl
as_input_so _ = nothing

pub as_print_so : (e : Exp) → Promised (λ r. tree.print r.0 r.1 ≡ e) (as_print e)
as_print_so (tree.print m e) = kept refl
as_print_so _ = nothing

pub as_block_so : (e : Exp) → Promised (λ r. tree.block r.0 r.1 ≡ e) (as_block e)
as_block_so (tree.block m b) = kept refl
as_block_so _ = nothing

pub as_choose_so : (e : Exp) → Promised (λ r. tree.choose r.0 r.1 r.2 ≡ e) (as_choose e)
as_choose_so (tree.choose m c l) = kept refl
as_choose_so _ = nothing

pub as_loop_so : (e : Exp) → Promised (λ r. tree.loop r.0 r.1 r.2 ≡ e) (as_loop e)
as_loop_so (tree.loop m l e) = kept refl
as_loop_so _ = nothing

pub as_jump_so : (e : Exp) → Promised (λ r. tree.jump r.0 r.1 r.2 ≡ e) (as_jump e)
as_jump_so (tree.jump m l again) = kept refl
as_jump_so _ = nothing

pub as_give_so : (e : Exp) → Promised (λ r. tree.give r.0 r.1 ≡ e) (as_give e)
as_give_so (tree.give m e) = kept refl
as_give_so _ = nothing

pub as_no_operand_so : (e : Operands) → Promised (λ r. tree.no_operand ≡ e) (as_no_operand e)
as_no_operand_so tree.no_operand = kept refl
as_no_operand_so _ = nothing

pub as_operand_so : (e : Operands) → Promised (λ r. tree.operand_and r.0 r.1 r.2 ≡ e) (as_operand e)
as_operand_so (tree.operand_and i e es) = kept refl
as_operand_so _ = nothing

pub as_at_place_so : (e : Scrutinee) → Promised (λ r. tree.at_place r.0 r.1 ≡ e) (as_at_place e)
as_at_place_so (tree.at_place m p) = kept refl
as_at_place_so _ = nothing

pub as_of_value_so : (e : Scrutinee) → Promised (λ r. tree.of_value r ≡ e) (as_of_value e)
as_of_value_so (tree.of_value e) = kept refl
as_of_value_so _ = nothing

pub as_no_arm_so : (e : Arms) → Promised (λ r. tree.no_arm ≡ e) (as_no_arm e)
as_no_arm_so tree.no_arm = kept refl
as_no_arm_so _ = nothing

pub as_arm_so : (e : Arms) → Promised (λ r. tree.arm_and r.0 r.1 r.2 ≡ e) (as_arm e)
as_arm_so (tree.arm_and q e l) = kept refl
as_arm_so _ = nothing

pub as_ends_so : (e : Body) → Promised (λ r. tree.ends r ≡ e) (as_ends e)
as_ends_so (tree.ends e) = kept refl
as_ends_so _ = nothing

pub as_runs_so : (e : Body) → Promised (λ r. tree.runs r.0 r.1 ≡ e) (as_runs e)
as_runs_so (tree.runs e b) = kept refl
as_runs_so _ = nothing

pub as_declares_so : (e : Body) → Promised (λ r. tree.declares r.0 r.1 r.2 ≡ e) (as_declares e)
as_declares_so (tree.declares n xs b) = kept refl
as_declares_so _ = nothing

pub as_lets_so : (e : Body) → Promised (λ r. tree.lets r.0 r.1 r.2 r.3 ≡ e) (as_lets e)
as_lets_so (tree.lets n q c b) = kept refl
as_lets_so _ = nothing
