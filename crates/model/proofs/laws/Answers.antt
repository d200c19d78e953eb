use Rattle.model.proofs.Examples.{examples_hold}
use Rattle.model.proofs.Runs.{runs_stand, books_tell}
use Rattle.model.proofs.Meaning.{entries_lowest, numbers_lowest, sectors_lowest, layout_undone, sound-told, rooted-told, let_in}
use Rattle.model.proofs.Order.{next-least, book_walks, book_steps}
use Rattle.model.proofs.Consistent.{tables_stay}
use Rattle.model.proofs.laws.Goals as goal

pub returns : goal.returns
returns c = record { examples = examples_hold; runs = runs_stand; books = books_tell; order = (next-least, book_walks, book_steps); stays = tables_stay; lowest = (entries_lowest, numbers_lowest, sectors_lowest); layout = layout_undone; sound = (sound-told, rooted-told, let_in) }
