use Rattle.std.proofs.Common.{◌∙◌, length, ap}
use Rattle.rx_parse_cursor.proofs.CursorLemmas.{shown_length}
use Rattle.rx_parse_cursor.proofs.cursor.Cursor.left.Goals as goal

pub returns : goal.returns
returns c = shown_length c.self.inside.split c.self.inside.at c.self.inside.tokens.now ∙ ap length c.self.view_is
