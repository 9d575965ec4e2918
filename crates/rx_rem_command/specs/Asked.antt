-- What a command of the code asks for.
use Rattle.rx_rem_command.specs.declared.words.Preference.{Preference}
use Rattle.rx_rem_command.specs.declared.words.Preference.TheVariants.{Copy, Reference}
use Rattle.rx_rem_command.specs.declared.words.Command.{Command}
use Rattle.rx_rem_command.specs.declared.words.Command.TheVariants.{Extract, Check, Certify, Verify, Compact, Run}
use Rattle.rx_rem_command.specs.declared.words.Request.{Request}
use Rattle.rx_rem_command.specs.declared.words.Request.TheVariants.{OfText, Generate}
use Rattle.rx_rem_command.specs.Numbers.{integers_among}
use Rattle.rx_rem_command.specs.Forms as forms

abbrev pub preferred : Preference → forms.Preference
preferred Copy = forms.by_copy
preferred Reference = forms.by_reference

abbrev pub asked : Command → forms.Command
asked (Extract name selection preference) = forms.extracts name.now selection.start selection.end (preferred preference)
asked Check = forms.checks
asked Certify = forms.certifies
asked Verify = forms.verifies
asked (Compact name) = forms.compacts name.now
asked (Run turns numbers) = forms.runs turns (integers_among numbers.now)

abbrev pub requested : Request → forms.Command
requested (OfText command) = asked command
requested (Generate count) = forms.generates count
