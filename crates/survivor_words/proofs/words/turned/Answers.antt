-- `survivor_words::words::turned` meets its contract. Assumes nothing.
use Rattle.survivor_words.proofs.Turned.{turned_stack}
use Rattle.survivor_words.proofs.words.turned.Goals as goal

pub returns : goal.returns
returns c t e = turned_stack t c.args.x e
