-- What is asked for of a text is asked for where the text is read.
use Rattle.std.proofs.Common.{ℕ, ◌≡◌, List, Some, subst}
use Rattle.rx_rem_command.specs.declared.words.Command.{Command}
use Rattle.rx_rem_command.specs.declared.words.Command.TheVariants.{Extract, Check, Certify, Verify, Compact, Run}
use Rattle.rx_rem_command.specs.Forms.{command_of, Reads}
use Rattle.rx_rem_command.specs.Asked.{asked}

command_reads : (c : Command) → Reads (Some (asked c))
command_reads (Extract name selection way) = tt
command_reads Check = tt
command_reads Certify = tt
command_reads Verify = tt
command_reads (Compact name) = tt
command_reads (Run turns numbers) = tt

pub words_read : (words : List (List ℕ)) (c : Command) → Some (asked c) ≡ command_of words → Reads (command_of words)
words_read words c e = subst Reads e (command_reads c)
