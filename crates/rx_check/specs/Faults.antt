-- Faults of the passes as faults of the check: want of memory in a pass is that of the check.
use Rattle.rx_resolve_names.specs.declared.resolved.NameFault.{NameFault}
use Rattle.rx_resolve_names.specs.declared.resolved.NameFault.TheVariants as name_fault
use Rattle.rx_typeck_typed.specs.declared.typed.TypeFault.{TypeFault}
use Rattle.rx_typeck_typed.specs.declared.typed.TypeFault.TheVariants as type_fault
use Rattle.rx_cover.specs.declared.covering.CoverFault.{CoverFault}
use Rattle.rx_cover.specs.declared.covering.CoverFault.TheVariants as cover_fault
use Rattle.rx_lower_lifetimes.specs.declared.whole.LowerFault.{LowerFault}
use Rattle.rx_lower_lifetimes.specs.declared.whole.LowerFault.TheVariants as lower_fault
use Rattle.rx_facts.specs.declared.fault.InitFault.{InitFault}
use Rattle.rx_facts.specs.declared.fault.InitFault.TheVariants as init_fault
use Rattle.rx_check.specs.declared.regions.RegionFault.{RegionFault}
use Rattle.rx_check.specs.declared.regions.RegionFault.TheVariants as region_fault
use Rattle.rx_check.specs.declared.loans.LoanFault.{LoanFault}
use Rattle.rx_check.specs.declared.loans.LoanFault.TheVariants as loan_fault
use Rattle.rx_check.specs.declared.fault.CheckFault.{CheckFault}
use Rattle.rx_check.specs.declared.fault.CheckFault.TheVariants as check_fault

abbrev pub of_names : NameFault → CheckFault
of_names name_fault.OutOfMemory = check_fault.OutOfMemory
of_names f = check_fault.Name f

abbrev pub of_types : TypeFault → CheckFault
of_types type_fault.OutOfMemory = check_fault.OutOfMemory
of_types f = check_fault.Types f

abbrev pub of_cover : CoverFault → CheckFault
of_cover cover_fault.OutOfMemory = check_fault.OutOfMemory
of_cover f = check_fault.Cover f

abbrev pub of_lower : LowerFault → CheckFault
of_lower lower_fault.OutOfMemory = check_fault.OutOfMemory
of_lower f = check_fault.Lower f

abbrev pub of_init : InitFault → CheckFault
of_init init_fault.OutOfMemory = check_fault.OutOfMemory
of_init f = check_fault.Init f

abbrev pub of_regions : RegionFault → CheckFault
of_regions region_fault.OutOfMemory = check_fault.OutOfMemory
of_regions (region_fault.Missing i l k) = check_fault.Region i l k

abbrev pub of_loans : LoanFault → CheckFault
of_loans loan_fault.OutOfMemory = check_fault.OutOfMemory
of_loans f = check_fault.Loan f
